use Rattle.items.proofs.Laws.{by_end, by_skip, in_none, best_step, or_best}
use native.Mathlib.Omega.{arith}
use mathlib.Core.Path.{sym, ap, ◌∙◌}
use Rattle.items.specs.Code.{told}
use Rattle.rules.specs.Items.{Scan, presents}
use Rattle.rules.specs.Fetch.{last_with}
use Rattle.items.proofs.last_in.Goals.{then-has_key, else-has_key}
use Rattle.items.proofs.last_in.Goals as goal

pub returns-in-End : goal.returns-in-End
returns-in-End c =
    let a = c.args in
    let l = c.loop-at in
    let s = by_end a.w (omega arith) a.img.now a.e (omega arith) l.at c.look_at-r.result c.loop-at-test.true
    c.look_at-r.ensures.0 c.in-End.is in
    (rw s at l.invariant.2, l.invariant.3)

pub loop-at-preserved-in-Skip : goal.loop-at-preserved-in-Skip
loop-at-preserved-in-Skip c =
    let a = c.args in
    let l = c.loop-at in
    let f = rw c.in-Skip.is at c.look_at-r.ensures.1 in
    let s = by_skip a.w (omega arith) a.img.now a.e (omega arith) l.at c.look_at-r.result c.loop-at-test.true
    c.look_at-r.ensures.0 c.in-Skip.is in (
      omega arith,
      omega arith,
      sym (ap (λ (x : Scan). or_best (told (last_with a.wanted (presents x.items))) l.best) s) ∙ l.invariant.2,
      l.invariant.3,
    )

pub loop-at-preserved : goal.loop-at-preserved
loop-at-preserved c =
    let a = c.args in
    let l = c.loop-at in
    let f = rw c.in-Item.is at c.look_at-r.ensures.1 in
    let s = best_step a.w (omega arith) a.img.now a.e (omega arith) l.at c.look_at-r.result c.loop-at-test.true
    c.look_at-r.ensures.0 a.wanted c.in-Item.len l.best _ c.in-Item.is l.invariant.2 in
    let s' = rw (← c.has_key.ensures.0) at s in
    rw c.size-at.ensures.0 (elim c.if-has_key.branch [
      | then-has_key w ↦ (
        omega arith,
        omega arith,
        rw w.best-is (rw w.if-has_key.true at s'),
        rw w.best-is (let k = rw w.if-has_key.true at c.has_key.ensures.1 in omega arith),
      )
      | else-has_key w ↦ (omega arith, omega arith, rw w.best-is (rw w.if-has_key.false at s'), rw w.best-is l.invariant.3)
    ])

pub returns : goal.returns
returns c =
    let a = c.args in
    let l = c.loop-at in (
      rw (in_none a.w (omega arith) a.img.now a.e (omega arith) l.at c.loop-at-test.false) at l.invariant.2,
      l.invariant.3,
    )
