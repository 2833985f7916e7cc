use Rattle.items.specs.Code.{scan_in, told, SpotIn}
use mathlib.Core.Path.{◌≡◌}
use Prim.Native.Nat.{◌-◌, ◌≤◌}
use Rattle.rules.specs.Items.{presents}
use Rattle.rules.specs.Fetch.{last_with}
use Rattle.items.proofs.Laws.{or_best}
use Rattle.items.proofs.last_in.Given as goal

-- what the rest of the area holds, or else the best so far, is what the whole area holds
abbrev pub invariant-loop-at : goal.invariant-loop-at
invariant-loop-at l =
    (l.a ≤ l.at) × (l.at ≤ l.e)
    × (or_best (told (last_with l.wanted (presents (scan_in l.w l.img l.at l.e).items))) l.best
    ≡ told (last_with l.wanted (presents (scan_in l.w l.img l.a l.e).items))) × SpotIn l.e l.best

abbrev pub decreases-loop-at : goal.decreases-loop-at
decreases-loop-at l = l.e - l.at
