-- A case for each of the definition's four.
use mathlib.Core.Path.{refl, sym, ◌∙◌}
use Rattle.store.proofs.Laws.{turn_on, turn_stuck, turn_first, turn_none}
use Rattle.store.proofs.turn.Goals as goal

pub returns-then-page_is : goal.returns-then-page_is
returns-then-page_is c =
    let a = c.args in
    let g = c.pages-pages.ensures in
    let p = c.in-Some.ensures in
    let t = sym c.page_is.ensures ∙ c.if-page_is.true in
    turn_on a.key a.value.now a.storage.now c.in-Some.p (rw g.1 at (rw g.0 at p)) c.next.result
    (rw g.1 at c.next.ensures.0) (rw g.1 at (rw g.0 at t)) c.fill.new.storage c.fill.result c.fill.ensures

pub returns-in-Some : goal.returns-in-Some
returns-in-Some c =
    let a = c.args in
    let g = c.pages-pages.ensures in
    let p = c.in-Some.ensures in
    let t = sym c.page_is.ensures ∙ c.if-page_is.false in
    turn_stuck a.key a.value.now a.storage.now c.in-Some.p (rw g.1 at (rw g.0 at p)) c.next.result
    (rw g.1 at c.next.ensures.0) (rw g.1 at (rw g.0 at t))

pub returns-in_default-first : goal.returns-in_default-first
returns-in_default-first c =
    let a = c.args in
    let g = c.pages-pages.ensures in
    turn_none a.key a.value.now a.storage.now (rw g.1 at (rw g.0 at c.in_default.ensures))
    (rw g.1 at (rw g.0 at c.in_default-first.ensures))

pub returns : goal.returns
returns c =
    let a = c.args in
    let g = c.pages-pages.ensures in
    let o = c.in-Some-first.ensures in
    turn_first a.key a.value.now a.storage.now (rw g.1 at (rw g.0 at c.in_default.ensures)) c.in-Some-first.open
    (rw g.1 at (rw g.0 at o)) _ c.mark_start.ensures refl refl refl refl
