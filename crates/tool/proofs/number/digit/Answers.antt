-- `tool::number::digit`: below 16 the value is that of std.
use Rattle.std.proofs.Common.{◌≡◌, ℕ, arith, min}
use Rattle.std.specs.Char.{digit_value}
use Rattle.std.proofs.lemmas.Bool.Decides.{nat_tests}
use Rattle.tool.specs.Numbers.{digit_of}
use Rattle.tool.proofs.number.digit.Goals as goal

tied : (b : ℕ) → min (digit_value b) 16 ≡ digit_of b
unfolding digit_of
tied b = grind (arith, nat_tests)

pub returns : goal.returns
returns c = let t : min (digit_value c.args.b) 16 ≡ digit_of c.args.b = tied c.args.b in grind arith
