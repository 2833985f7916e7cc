-- The run over all pages has come to page p.
use Prim.Native.Nat.{◌+◌, ◌≤◌}
use mathlib.Core.Path.{◌≡◌}
use Rattle.mend.proofs.Laws.{Swept}
use Rattle.mend.proofs.erase_corrupted.Given as goal

abbrev pub invariant-loop-p : goal.invariant-loop-p
invariant-loop-p l =
    (l.storage.flash.now.geo ≡ l.initial.storage.flash.now.geo) × (l.storage.erased ≤ l.initial.storage.erased + l.p)
    × Swept l.initial.storage l.p l.storage
