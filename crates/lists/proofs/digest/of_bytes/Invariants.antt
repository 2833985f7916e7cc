-- `lists::digest::of_bytes`: the digest of what is read, and of what is left, is that of all.
use Rattle.lists.specs.Says.{digest}
use Rattle.std.proofs.Common.{◌≡◌, ◌<◌, drop}
use Rattle.lists.proofs.digest.of_bytes.Given as goal

abbrev pub invariant-loop-b : goal.invariant-loop-b
invariant-loop-b l = record {
  small : l.h < 4294967291;
  rest : digest l.h (drop l.b-index l.s) ≡ digest 1 l.s;
}
