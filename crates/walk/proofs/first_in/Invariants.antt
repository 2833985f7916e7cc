use Prim.Native.Nat.{◌-◌, ◌≤◌}
use mathlib.Core.Path.{◌≡◌}
use Rattle.rules.specs.Items.{presents}
use Rattle.items.specs.Code.{scan_in}
use Rattle.walk.specs.Code.{head_spot}
use Rattle.walk.proofs.first_in.Given as goal

-- the first item from this place on is the first from the start
abbrev pub invariant-loop-at : goal.invariant-loop-at
invariant-loop-at l =
    (l.at ≤ l.e)
    × (head_spot (presents (scan_in l.w l.img l.at l.e).items)
    ≡ head_spot (presents (scan_in l.w l.img l.a l.e).items))

abbrev pub decreases-loop-at : goal.decreases-loop-at
decreases-loop-at l = l.e - l.at
