-- `tool::hex::read`: the bytes read and those left to read are all bytes, and what is left are pairs as all are.
use Rattle.std.proofs.Common.{◌≡◌, ◌*◌, ◌++◌, take, drop}
use Rattle.tool.specs.Hex.{spelled, all_pairs}
use Rattle.tool.proofs.hex.read.Given as goal

abbrev pub invariant-loop-i : goal.invariant-loop-i
invariant-loop-i l = record {
  bytes : take l.i l.out ++ spelled (drop (2 * l.i) l.s) ≡ spelled l.s;
  good : all_pairs (drop (2 * l.i) l.s) ≡ all_pairs l.s;
}
