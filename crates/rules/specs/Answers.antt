-- Answers: their numbers and values, and the order of the refusals.
use Rattle.std.specs.Prelude.{ℕ, ◌+◌, ◌-◌, ◌*◌, ◌/◌, ◌%◌, Bool, not, List, [], ◌∷◌, ltb, eqb}
use Rattle.rules.specs.declared.{Answer.Answer, Answer.TheVariants.Done, Answer.TheVariants.Value, Answer.TheVariants.None, Answer.TheVariants.Item, Answer.TheVariants.EndRangeNotAtPageBoundary, Answer.TheVariants.RangeTooSmall, Answer.TheVariants.PagesTooSmall, Answer.TheVariants.Geometry, Answer.TheVariants.CacheSize, Answer.TheVariants.ItemTooBig, Answer.TheVariants.FullStorage, Answer.TheVariants.Corrupted}
use Rattle.rules.specs.Bytes.{pick}

-- an answer on paper: its number, and its values
pub record Paper : Type 0 where
  pub no : ℕ
  pub values : List ℕ

abbrev pub plain : ℕ → Paper
plain n = record { no = n; values = [] }

-- the table of answers; a value has place and length, an item key, place and length
abbrev pub paper : Answer → Paper
paper Done = plain 0
paper (Value a l) = record { no = 0; values = a ∷ l ∷ [] }
paper None = plain 0
paper (Item k a l) = record { no = 0; values = k ∷ a ∷ l ∷ [] }
paper EndRangeNotAtPageBoundary = plain 1
paper RangeTooSmall = plain 2
paper PagesTooSmall = plain 3
paper Geometry = plain 4
paper CacheSize = plain 5
paper ItemTooBig = plain 6
paper FullStorage = plain 7
paper Corrupted = plain 8

abbrev pub number : Answer → ℕ
number a = (paper a).no

-- the answer has this number
abbrev pub is_no : ℕ → Answer → Bool
is_no n a = eqb (number a) n

-- the most data bytes of an item: "E - 16", a page without its two marks and a header
abbrev pub data_limit : ℕ → ℕ → ℕ
data_limit w E = E - 2 * w - 8

-- "Order: E = 0, then 1, 2, 3, 4, 5, 6, then the call"; Done: none is given. Words of w bytes, pages of E, an image of len, a cache
-- of m entries, a value of v bytes; a call without a cache or a value has 0 there.
unfoldable pub refusal : ℕ → ℕ → ℕ → ℕ → ℕ → Answer
refusal w E len m v =
    pick (eqb E 0) PagesTooSmall
    (pick (not (eqb (len % E) 0)) EndRangeNotAtPageBoundary
    (pick (ltb len (2 * E)) RangeTooSmall
    (pick (ltb E (3 * w + 8)) PagesTooSmall
    (pick (not (eqb (E % w) 0)) Geometry
    (pick (ltb 32768 E) Geometry
    (pick (ltb 256 (len / E)) Geometry
    (pick (ltb 32 m) CacheSize
    (pick (ltb (data_limit w E) (4 + v)) ItemTooBig Done))))))))
