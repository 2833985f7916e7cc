-- The two refusals whose test the code turns round, so that no sum or product wraps.
use mathlib.Core.Path.{◌≡◌}
use Prim.Native.Nat.{ℕ, ◌+◌, ◌-◌, ◌*◌, ◌/◌, ◌≤◌, ◌<◌}
use mathlib.Core.Bool.{true, false}
use lib.Dec.{ltb}
use native.Mathlib.Nat.{div-lt_iff_lt-mul, le-div_iff_mul-le}
use native.Mathlib.Omega.{arith}
use borrow.Author.Tests.{lt-ltb, le-ltb}
use Rattle.rules.specs.Answers.{data_limit}

-- an image of less than two pages, and of two or more
pub few_pages : (len E : ℕ) → len / E < 2 → 0 < E → ltb len (2 * E) ≡ true
few_pages len E l h = lt-ltb len (2 * E) ((div-lt_iff_lt-mul h).0 l)

pub two_pages : (len E : ℕ) → 2 ≤ len / E → 0 < E → ltb len (2 * E) ≡ false
two_pages len E l h = le-ltb len (2 * E) ((le-div_iff_mul-le h).0 l)

-- a value that is too long for an item, and one that is not
pub too_long : (w E v : ℕ) → E - 2 * w - 12 < v → 2 * w + 12 ≤ E → ltb (data_limit w E) (4 + v) ≡ true
too_long w E v l h = lt-ltb (data_limit w E) (4 + v) (omega arith)

pub not_long : (w E v : ℕ) → v ≤ E - 2 * w - 12 → 2 * w + 12 ≤ E → ltb (data_limit w E) (4 + v) ≡ false
not_long w E v l h = le-ltb (data_limit w E) (4 + v) (omega arith)

pub ruleset turned = (few_pages, two_pages, too_long, not_long)
