-- Bytes, zero bits, little-endian numbers, and the two changes of flash.
use Rattle.std.specs.Prelude.{ℕ, zero, suc, ◌+◌, ◌-◌, ◌*◌, ◌/◌, ◌%◌, ◌<◌, Bool, true, false, List, [], ◌∷◌, ◌++◌, length, take, drop, replicate, eqb}
use Rattle.std.specs.Int.Bits.{bit_and}

-- the first where the test holds, else the second
abbrev pub pick {ℓ} : {A : Type ℓ} → Bool → A → A → A
pick true a b = a
pick false a b = b

-- two tests hold
abbrev pub both : Bool → Bool → Bool
both true b = b
both false b = false

-- numbers that are bytes
abbrev pub Bytes : List ℕ → Type 0
Bytes [] = Unit {0}
Bytes (b ∷ bs) = (b < 256) × Bytes bs

-- zero bits among the k lowest bits of a number
unfoldable pub zeros_in : ℕ → ℕ → ℕ
zeros_in zero b = zero
zeros_in (suc k) b = (1 - b % 2) + zeros_in k (b / 2)

-- zero bits of a byte
unfoldable pub zero_bits : ℕ → ℕ
zero_bits b = zeros_in 8 b

-- zero bits of bytes
abbrev pub zeros : List ℕ → ℕ
zeros [] = 0
zeros (b ∷ bs) = zero_bits b + zeros bs

-- all bytes are 0xFF
abbrev pub all_ff : List ℕ → Bool
all_ff [] = true
all_ff (b ∷ bs) = both (eqb b 255) (all_ff bs)

-- a number as k bytes, little-endian
abbrev pub to_le : ℕ → ℕ → List ℕ
to_le zero x = []
to_le (suc k) x = x % 256 ∷ to_le k (x / 256)

-- the number that bytes are, little-endian
abbrev pub of_le : List ℕ → ℕ
of_le [] = 0
of_le (b ∷ bs) = b + 256 * of_le bs

-- x rounded up to a multiple of w
unfoldable pub round_up : ℕ → ℕ → ℕ
round_up w x = (x + (w - 1)) / w * w

-- ---- Flash: "Programming a word makes each bit the AND of old and new. Erasing a page makes its bytes 0xFF."

-- each byte the AND of old and new
abbrev pub and_all : List ℕ → List ℕ → List ℕ
and_all [] new = []
and_all (o ∷ os) [] = []
and_all (o ∷ os) (b ∷ bs) = bit_and o b ∷ and_all os bs

-- a list with new in place of what stands from at on
unfoldable pub splice : List ℕ → ℕ → List ℕ → List ℕ
splice l at new = take at l ++ (new ++ drop (at + length new) l)

-- an image in which these bytes are programmed at a place
unfoldable pub program : List ℕ → ℕ → List ℕ → List ℕ
program img at bs = splice img at (and_all (take (length bs) (drop at img)) bs)

-- an image of pages of E bytes in which page p is erased
unfoldable pub erase : ℕ → List ℕ → ℕ → List ℕ
erase E img p = splice img (p * E) (replicate E 255)

-- "Nothing else changes the image": a flash step programs bytes at a place, word by word in order of place, or erases a page
pub data FlashStep : Type 0 where
  programs : ℕ → List ℕ → FlashStep
  erases : ℕ → FlashStep

-- an image after a step
abbrev pub apply : ℕ → List ℕ → FlashStep → List ℕ
apply E img (programs at bs) = program img at bs
apply E img (erases p) = erase E img p

-- an image after steps
abbrev pub replay : ℕ → List ℕ → List FlashStep → List ℕ
replay E img [] = img
replay E img (x ∷ xs) = replay E (apply E img x) xs
