use Rattle.remove.proofs.Laws.{EntriesOn}
use Rattle.remove.specs.Code.{which_of}
use Prim.Native.Nat.{◌-◌, ◌≤◌}
use Rattle.remove.proofs.remove_entries.Given as goal

-- the run from the loop's place on, over the flash as it is, ends as the whole run
abbrev pub invariant-loop-at : goal.invariant-loop-at
invariant-loop-at l =
    (l.from ≤ l.at) × (l.at ≤ l.end) × EntriesOn (which_of l.which) l.end l.from l.initial.flash l.at l.flash

abbrev pub decreases-loop-at : goal.decreases-loop-at
decreases-loop-at l = l.end - l.at
