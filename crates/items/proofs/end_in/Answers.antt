use Rattle.items.proofs.Laws.{by_end, by_skip, by_item, in_none}
use native.Mathlib.Omega.{arith}
use mathlib.Core.Path.{refl, sym, ap, ◌∙◌}
use Rattle.rules.specs.Items.{Scan}
use Rattle.items.proofs.end_in.Goals as goal

pub loop-at-init : goal.loop-at-init
loop-at-init c = (omega arith, omega arith, refl)

pub returns-in-End : goal.returns-in-End
returns-in-End c =
    let a = c.args in
    let l = c.loop-at in
    let s = by_end a.w (omega arith) a.img.now a.e (omega arith) l.at c.look_at-r.result c.loop-at-test.true
    c.look_at-r.ensures.0 c.in-End.is in
    (sym (ap (λ (x : Scan). x.end) s) ∙ l.invariant.2, omega arith, omega arith)

pub loop-at-preserved-in-Skip : goal.loop-at-preserved-in-Skip
loop-at-preserved-in-Skip c =
    let a = c.args in
    let l = c.loop-at in
    let f = rw c.in-Skip.is at c.look_at-r.ensures.1 in
    let s = by_skip a.w (omega arith) a.img.now a.e (omega arith) l.at c.look_at-r.result c.loop-at-test.true
    c.look_at-r.ensures.0 c.in-Skip.is in
    (omega arith, omega arith, sym (ap (λ (x : Scan). x.end) s) ∙ l.invariant.2)

pub size-at-requires : goal.size-at-requires
size-at-requires c = let f = rw c.in-Item.is at c.look_at-r.ensures.1 in omega arith

pub overflow_add-at-in-Item : goal.overflow_add-at-in-Item
overflow_add-at-in-Item c = let f = rw c.in-Item.is at c.look_at-r.ensures.1 in omega arith

pub loop-at-preserved : goal.loop-at-preserved
loop-at-preserved c =
    let a = c.args in
    let l = c.loop-at in
    let f = rw c.in-Item.is at c.look_at-r.ensures.1 in
    let s = by_item a.w (omega arith) a.img.now a.e (omega arith) l.at c.look_at-r.result c.loop-at-test.true
    c.look_at-r.ensures.0 c.in-Item.len c.in-Item.is in
    (omega arith, omega arith, rw c.size-at.ensures.0 (sym (ap (λ (x : Scan). x.end) s) ∙ l.invariant.2))

pub returns : goal.returns
returns c =
    let a = c.args in
    let l = c.loop-at in (
      sym (ap (λ (x : Scan). x.end) (in_none a.w (omega arith) a.img.now a.e (omega arith) l.at c.loop-at-test.false))
          ∙ l.invariant.2,
      omega arith,
      omega arith,
    )
