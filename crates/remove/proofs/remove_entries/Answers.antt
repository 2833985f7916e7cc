use Rattle.remove.proofs.Laws.{on_refl, entries_none, entries-end, entries-skip, entries-item}
use native.Mathlib.Omega.{arith}
use Rattle.remove.proofs.remove_entries.Goals as goal

pub loop-at-init : goal.loop-at-init
loop-at-init c = (omega arith, omega arith, on_refl _ _ _ _)

pub returns-in-End : goal.returns-in-End
returns-in-End c = let q = rw c.pages.ensures.0 at c.look_at.ensures.0 in search entries-end

pub loop-at-preserved-in-Skip : goal.loop-at-preserved-in-Skip
loop-at-preserved-in-Skip c =
    let q = rw c.pages.ensures.0 at c.look_at.ensures.0 in
    let f = rw c.in-Skip.is at c.look_at.ensures.1 in
    (omega arith, omega arith, search entries-skip)

pub loop-at-preserved : goal.loop-at-preserved
loop-at-preserved c =
    let q = rw c.pages.ensures.0 at c.look_at.ensures.0 in
    let f = rw c.in-Item.is at c.look_at.ensures.1 in
    (omega arith, omega arith, search entries-item)

pub returns : goal.returns
returns c = search entries_none
