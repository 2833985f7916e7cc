use Prim.Native.Nat.{◌-◌}
use Rattle.inspect.proofs.Counts.{Counted}
use Rattle.inspect.proofs.tally_in.Given as goal

-- the tally counts what lies before this place
abbrev pub invariant-loop-at : goal.invariant-loop-at
invariant-loop-at l = Counted l.w l.img l.a l.e l.fn.state l.at l.tally

abbrev pub decreases-loop-at : goal.decreases-loop-at
decreases-loop-at l = l.e - l.at
