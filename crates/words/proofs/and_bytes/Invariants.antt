-- What is left to program gives the whole from here.
use Rattle.rules.specs.Bytes.{program}
use mathlib.Core.Path.{◌≡◌}
use Prim.Native.Nat.{◌+◌}
use lib.ListN.{drop}
use Rattle.words.proofs.and_bytes.Given as goal

abbrev pub invariant-loop-i : goal.invariant-loop-i
invariant-loop-i l = program l.img (l.at + l.i) (drop l.i l.bytes) ≡ program l.initial.img l.at l.bytes
