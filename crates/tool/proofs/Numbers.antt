-- The digits of a number, one after the other.
use Rattle.std.proofs.Common.{◌≡◌, refl, Bool, true, false, cond, List, [], ◌∷◌, ℕ, suc, ◌+◌, ◌*◌, ◌≤◌, ◌<◌, add-one, arith, le_trans, lt-ltb, le-ltb, ltb, length, get_or, drop, drop_of_length-le, drop-cons, Option, Some, None}
use Rattle.std.proofs.Math.Nat.{mul-le-mul_left}
use Rattle.tool.specs.Numbers.{digit_of, all_digits, spell, settled}

-- more digits spell no smaller number
spell_grows : (base n : ℕ) (s : List ℕ) → 0 < base → n ≤ spell base n s
unfolding spell
spell_grows base n [] h = omega arith
spell_grows base n (x ∷ xs) h =
    let more = spell_grows base (n * base + digit_of x) xs h in
    let by : n * 1 ≤ n * base = mul-le-mul_left n (omega arith) in
    le_trans (omega (arith, by)) more

either_none : (b : Bool) → ◌≡◌ {A = Option ℕ} (cond b None None) None
either_none true = refl
either_none false = refl

module _ (base n : ℕ) (s : List ℕ) (i : ℕ) (h : i < length s) where
  -- a byte that is no digit
  pub settled_none : base ≤ digit_of (get_or s i 0) → settled base n (drop i s) ≡ None
  unfolding settled all_digits spell
  settled_none g = rw (drop-cons s i 0 h, le-ltb _ _ g)

  -- a number that is too large
  pub settled_large : 0 < base → 4294967296 ≤ n * base + digit_of (get_or s i 0) → settled base n (drop i s) ≡ None
  unfolding settled all_digits spell
  settled_large b g =
      let grows = spell_grows base (n * base + digit_of (get_or s i 0)) (drop (suc i) s) b in
      rw (drop-cons s i 0 h, le-ltb _ _ (le_trans g grows)) (either_none (cond (ltb (digit_of (get_or s i 0)) base) (all_digits base (drop (suc i) s)) false))

  -- one more digit
  pub settled_step : digit_of (get_or s i 0) < base → settled base n (drop i s) ≡ settled base (n * base + digit_of (get_or s i 0)) (drop (i + 1) s)
  unfolding settled all_digits spell
  settled_step g = rw (add-one, drop-cons s i 0 h, lt-ltb _ _ g)

-- no more digits
pub settled-end : (base n : ℕ) (s : List ℕ) (i : ℕ) → length s ≤ i → n < 4294967296 → settled base n (drop i s) ≡ Some n
unfolding settled all_digits spell
settled-end base n s i h g = rw (drop_of_length-le s h, lt-ltb _ _ g)
