use mathlib.Core.Path.{◌≡◌}
use Prim.Native.Nat.{◌-◌, ◌≤◌}
use Rattle.items.specs.Code.{scan_in}
use Rattle.items.proofs.end_in.Given as goal

abbrev pub invariant-loop-at : goal.invariant-loop-at
invariant-loop-at l = (l.a ≤ l.at) × (l.at ≤ l.e) × ((scan_in l.w l.img l.at l.e).end ≡ (scan_in l.w l.img l.a l.e).end)

abbrev pub decreases-loop-at : goal.decreases-loop-at
decreases-loop-at l = l.e - l.at
