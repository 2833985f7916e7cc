-- Hexadecimal: a byte's two digits, and the bytes that pairs of digits spell.
use Rattle.std.specs.Prelude.{Bool, true, false, cond, List, [], ◌∷◌, ℕ, ◌+◌, ◌*◌, ◌/◌, ◌%◌, length, ltb, eqb, Option, Some, None, Result, Ok, Err}
use Rattle.tool.specs.Numbers.{digit_of}
use Rattle.tool.specs.declared.hex.HexError.{HexError}
use Rattle.tool.specs.declared.hex.HexError.TheVariants.{Bad, Long}

-- the digit of a number below 16: 0 to 9, then a to f
abbrev pub glyph : ℕ → ℕ
glyph n = cond (ltb n 10) (48 + n) (87 + n)

-- the two digits of a byte
abbrev pub pair : ℕ → List ℕ
pair b = glyph (b / 16) ∷ glyph (b % 16) ∷ []

-- the byte that two digits spell
abbrev pub byte_of : ℕ → ℕ → Option ℕ
byte_of x y = cond (ltb 15 (digit_of x)) None (cond (ltb 15 (digit_of y)) None (Some (16 * digit_of x + digit_of y)))

-- the bytes that pairs of digits spell
unfoldable pub spelled : List ℕ → List ℕ
spelled [] = []
spelled (x ∷ []) = []
spelled (x ∷ y ∷ xs) = (16 * digit_of x + digit_of y) ∷ spelled xs

-- are these pairs of digits?
unfoldable pub all_pairs : List ℕ → Bool
all_pairs [] = true
all_pairs (x ∷ []) = false
all_pairs (x ∷ y ∷ xs) = cond (ltb 15 (digit_of x)) false (cond (ltb 15 (digit_of y)) false (all_pairs xs))

-- an odd number of digits is bad; then half of them must have room
abbrev pub hex_answer : List ℕ → ℕ → Result ℕ HexError
hex_answer s room =
    cond (eqb (length s % 2) 0)
    (cond (ltb room (length s / 2)) (Err Long) (cond (all_pairs s) (Ok (length s / 2)) (Err Bad)))
    (Err Bad)
