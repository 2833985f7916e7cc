-- `tool::number::read_in`: what is left to read settles what the whole does.
use Rattle.std.proofs.Common.{◌≡◌, ◌<◌, drop}
use Rattle.tool.specs.Numbers.{settled}
use Rattle.tool.proofs.number.read_in.Given as goal

abbrev pub invariant-loop-b : goal.invariant-loop-b
invariant-loop-b l = record {
  small : l.n < 4294967296;
  rest : settled l.base l.n (drop l.b-index l.s) ≡ settled l.base 0 l.s;
}
