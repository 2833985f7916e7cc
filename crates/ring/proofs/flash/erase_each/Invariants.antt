-- The pages before p are erased.
use mathlib.Core.Path.{◌≡◌}
use lib.ListN.{length}
use Rattle.ring.proofs.Laws.{ErasedTo}
use Rattle.ring.proofs.flash.erase_each.Given as goal

abbrev pub invariant-loop-p : goal.invariant-loop-p
invariant-loop-p l =
    (length l.img ≡ length l.initial.img) × ErasedTo l.geo l.p l.initial.img l.power l.img l.left
