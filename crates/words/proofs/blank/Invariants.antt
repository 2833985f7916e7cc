-- The bytes before i are 0xFF.
use mathlib.Core.Path.{◌≡◌}
use lib.ListN.{length, take, replicate}
use Rattle.words.proofs.blank.Given as goal

abbrev pub invariant-loop-i : goal.invariant-loop-i
invariant-loop-i l = (length l.bytes ≡ length l.initial.bytes) × (take l.i l.bytes ≡ replicate l.i 255)
