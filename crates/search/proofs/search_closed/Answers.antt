use Rattle.search.proofs.Laws.{closed_none, closed-no, closed_yes}
use native.Mathlib.Omega.{arith}
use Prim.Native.Nat.{◌-◌, ◌+◌}
use mathlib.Core.Path.{◌≡◌, sym, ap, ◌∙◌}
use Rattle.rules.specs.Fetch.{search_closed}
use Rattle.items.specs.Code.{told}
use Rattle.ring.specs.Code.{downs}
use Rattle.search.proofs.search_closed.Goals as goal

pub returns-then-not-page_is : goal.returns-then-not-page_is
returns-then-not-page_is c =
    let s = c.args.pages.now in
    let l = c.loop in (
      closed-no s.geo s.img.now c.args.key (c.args.count - l.counter) l.q (omega arith)
          (sym c.page_is.ensures ∙ c.if-not-page_is.true) ∙ l.invariant.1,
      tt,
    )

pub returns-in-Some : goal.returns-in-Some
returns-in-Some c =
    let s = c.args.pages.now in
    let l = c.loop in
    let y = closed_yes s.geo s.img.now c.args.key (c.args.count - l.counter) l.q (omega arith)
    (sym c.page_is.ensures ∙ c.if-not-page_is.false) in
    (sym (rw (← c.last_item.ensures.0, c.in-Some.is) at y) ∙ l.invariant.1, rw c.in-Some.is at c.last_item.ensures.1)

pub loop-preserved : goal.loop-preserved
loop-preserved c =
    let s = c.args.pages.now in
    let l = c.loop in
    let y = closed_yes s.geo s.img.now c.args.key (c.args.count - l.counter) l.q (omega arith)
    (sym c.page_is.ensures ∙ c.if-not-page_is.false) in
    let n : c.args.count - l.counter - 1 ≡ c.args.count - (l.counter + 1) = omega arith in
    let r = ap (λ x. told (search_closed s.geo s.img.now c.args.key (downs s.geo x c.prev-q.result))) n in
    (c.prev-q.ensures.1, sym r ∙ rw (c.prev-q.ensures.0) (sym (rw (← c.last_item.ensures.0, c.in_default.is) at y)) ∙ l.invariant.1)

pub returns : goal.returns
returns c =
    let s = c.args.pages.now in
    let l = c.loop in
    (closed_none s.geo s.img.now c.args.key (c.args.count - l.counter) l.q (omega arith) ∙ l.invariant.1, tt)
