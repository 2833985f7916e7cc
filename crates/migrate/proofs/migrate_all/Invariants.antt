-- The run over all items has come through to the run over the items from `at` on, which writes at `next`.
use Rattle.migrate.proofs.Laws.{Reached}
use Prim.Native.Nat.{◌-◌}
use Rattle.migrate.proofs.migrate_all.Given as goal

abbrev pub invariant-loop-at : goal.invariant-loop-at
invariant-loop-at l = Reached l.a l.e l.to l.initial.storage l.at l.next l.storage

abbrev pub decreases-loop-at : goal.decreases-loop-at
decreases-loop-at l = l.e - l.at
