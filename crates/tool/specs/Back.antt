-- What is shown can be typed: the digits of bytes spell these bytes. And examples at the borders.
use Rattle.std.specs.Prelude.{◌≡◌, refl, Bool, true, false, List, [], ◌∷◌, ◌++◌, ℕ, ◌+◌, ◌/◌, ◌%◌, ◌≤◌, ◌<◌, ltb, Some, None}
use Rattle.std.proofs.Common.{ap₂, arith, lt-ltb, le-ltb, ltb-true, ltb-false}
use Rattle.tool.specs.Numbers.{digit_of, all_digits, spell, settled, number_in, number_of}
use Rattle.tool.specs.Hex.{glyph, pair, spelled}

-- a digit below 10 has the value that it shows
low_digit : (n : ℕ) → n < 10 → digit_of (48 + n) ≡ n
unfolding digit_of
low_digit n h =
    let a : 48 ≤ 48 + n = omega arith in
    let b : 48 + n < 58 = omega arith in
    rw (le-ltb _ _ a, lt-ltb _ _ b) (omega arith)

-- and one from 10 on
high_digit : (n : ℕ) → 10 ≤ n → n < 16 → digit_of (87 + n) ≡ n
unfolding digit_of
high_digit n h g =
    let a : 48 ≤ 87 + n = omega arith in
    let b : 58 ≤ 87 + n = omega arith in
    let c : 65 ≤ 87 + n = omega arith in
    let d : 71 ≤ 87 + n = omega arith in
    let e : 97 ≤ 87 + n = omega arith in
    let f : 87 + n < 103 = omega arith in
    rw (le-ltb _ _ a, le-ltb _ _ b, le-ltb _ _ c, le-ltb _ _ d, le-ltb _ _ e, lt-ltb _ _ f) (omega arith)

digit_back : (n : ℕ) (b : Bool) → ltb n 10 ≡ b → n < 16 → digit_of (glyph n) ≡ n
unfolding glyph
digit_back n true e h = rw e (low_digit n (ltb-true n 10 e))
digit_back n false e h = rw e (high_digit n (ltb-false n 10 e) h)

-- the digits of bytes, one byte after the other
unfoldable pub shown : List ℕ → List ℕ
shown [] = []
shown (b ∷ bs) = pair b ++ shown bs

-- all are bytes
pub data AllBytes : List ℕ → Type 0 where
  none : AllBytes []
  more : {b : ℕ} {bs : List ℕ} → b < 256 → AllBytes bs → AllBytes (b ∷ bs)

pub spells_back : {bs : List ℕ} → AllBytes bs → spelled (shown bs) ≡ bs
unfolding shown pair spelled
spells_back none = refl
spells_back (more {b} {bs} h r) =
    let high : b / 16 < 16 = omega arith in
    let low : b % 16 < 16 = omega arith in
    rw (digit_back (b / 16) (ltb (b / 16) 10) refl high, digit_back (b % 16) (ltb (b % 16) 10) refl low, spells_back r) (ap₂ (λ (x : ℕ) (xs : List ℕ). x ∷ xs) (omega arith) refl)

unfoldable opened : Unit {0}
unfolding digit_of all_digits spell settled number_in number_of glyph pair spelled
opened = tt

-- "4294967295" is the largest number, "4294967296" is none; "0xFf" is 255, "0x" none, "ff" none; the digits of 171 are "ab"
pub borders : (number_of (52 ∷ 50 ∷ 57 ∷ 52 ∷ 57 ∷ 54 ∷ 55 ∷ 50 ∷ 57 ∷ 53 ∷ []) ≡ Some 4294967295)
    × (number_of (52 ∷ 50 ∷ 57 ∷ 52 ∷ 57 ∷ 54 ∷ 55 ∷ 50 ∷ 57 ∷ 54 ∷ []) ≡ None)
    × (number_of (48 ∷ 120 ∷ 70 ∷ 102 ∷ []) ≡ Some 255)
    × (number_of (48 ∷ 120 ∷ []) ≡ None)
    × (number_of (102 ∷ 102 ∷ []) ≡ None)
    × (pair 171 ≡ 97 ∷ 98 ∷ [])
unfolding opened
borders = (refl, refl, refl, refl, refl, refl)
