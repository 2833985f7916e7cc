-- Power: flash steps taken while the power lasts. A byte that is programmed takes one unit of it, an erase takes one
-- and is done or not begun; where none is left nothing changes any more. What the steps leave with every power tells
-- their order, byte by byte.
use Rattle.std.specs.Prelude.{ℕ, ◌+◌, ◌-◌, Bool, true, List, [], ◌∷◌, length, take, leb}
use Rattle.rules.specs.Bytes.{pick, program, erase, FlashStep, programs, erases}

-- so much power, or more, never runs out
abbrev pub endless : ℕ
endless = 18446744073709551615

-- n units can be spent
unfoldable pub lasts : ℕ → ℕ → Bool
lasts p n = pick (leb endless p) true (leb n p)

-- what is left after n units, 0 where it doesn't last
unfoldable pub spend : ℕ → ℕ → ℕ
spend p n = pick (leb endless p) p (p - n)

-- of these bytes, the first ones, while it lasts
unfoldable pub taken : ℕ → List ℕ → List ℕ
taken p bs = pick (leb endless p) bs (take p bs)

-- the units that a step takes, and that steps take
abbrev pub cost : FlashStep → ℕ
cost (programs at bs) = length bs
cost (erases q) = 1

abbrev pub units : List FlashStep → ℕ
units [] = 0
units (x ∷ xs) = cost x + units xs

-- an image after a step with power p
abbrev pub apply_with : ℕ → List ℕ → ℕ → FlashStep → List ℕ
apply_with E img p (programs at bs) = program img at (taken p bs)
apply_with E img p (erases q) = pick (lasts p 1) (erase E img q) img

-- an image after steps with power p
abbrev pub cut_image : ℕ → List ℕ → ℕ → List FlashStep → List ℕ
cut_image E img p [] = img
cut_image E img p (x ∷ xs) = cut_image E (apply_with E img p x) (spend p (cost x)) xs
