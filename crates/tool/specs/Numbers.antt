-- Typed numbers: the digits of a base, and the number that they spell.
use Rattle.std.specs.Prelude.{Bool, true, false, cond, List, [], ◌∷◌, ℕ, ◌+◌, ◌-◌, ◌*◌, length, get_or, drop, ltb, eqb, Option, Some, None}

-- a digit's value: 0 to 9, a to f and A to F; 16 for any other byte
unfoldable pub digit_of : ℕ → ℕ
digit_of b =
    cond (ltb b 48) 16
    (cond (ltb b 58) (b - 48)
    (cond (ltb b 65) 16
    (cond (ltb b 71) (b - 55)
    (cond (ltb b 97) 16
    (cond (ltb b 103) (b - 87) 16)))))

-- are these all digits of the base?
unfoldable pub all_digits : ℕ → List ℕ → Bool
all_digits base [] = true
all_digits base (x ∷ xs) = cond (ltb (digit_of x) base) (all_digits base xs) false

-- the number that digits spell after those that spell n
unfoldable pub spell : ℕ → ℕ → List ℕ → ℕ
spell base n [] = n
spell base n (x ∷ xs) = spell base (n * base + digit_of x) xs

-- the number that digits spell after those that spell n, where all are digits and it has 32 bits
unfoldable pub settled : ℕ → ℕ → List ℕ → Option ℕ
settled base n s = cond (all_digits base s) (cond (ltb (spell base n s) 4294967296) (Some (spell base n s)) None) None

-- the number that one digit or more spell
abbrev pub number_in : ℕ → List ℕ → Option ℕ
number_in base s = cond (eqb (length s) 0) None (settled base 0 s)

-- after 0x hexadecimal, else decimal
abbrev pub number_of : List ℕ → Option ℕ
number_of s =
    cond (ltb (length s) 2) (number_in 10 s)
    (cond (eqb (get_or s 0 0) 48)
    (cond (eqb (get_or s 1 0) 120) (number_in 16 (drop 2 s)) (number_in 10 s))
    (number_in 10 s))
