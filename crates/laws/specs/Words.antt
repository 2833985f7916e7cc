-- Whole words: rounding up, and steps of a word.
use Rattle.std.specs.Prelude.{◌≡◌, refl, ℕ, ◌+◌, ◌-◌, ◌*◌, ◌/◌, ◌%◌, ◌≤◌, ◌<◌, ltb, Bool, true, false}
use Rattle.std.proofs.Common.{div-add-mod', mod-lt, mul-le-mul_right, arith, ltb-true, ltb-false}
use Rattle.std.proofs.Math.Nat.{mul-mod_left}
use Rattle.rules.specs.Bytes.{round_up}

pub le_round_up : (w x : ℕ) → 0 < w → x ≤ round_up w x
unfolding round_up
le_round_up w x h = omega (arith, div-add-mod' (x + (w - 1)) w, mod-lt (x + (w - 1)) h)

pub round_up_lt : (w x : ℕ) → 0 < w → round_up w x < x + w
unfolding round_up
round_up_lt w x h = omega (arith, div-add-mod' (x + (w - 1)) w, mod-lt (x + (w - 1)) h)

pub round_up_words : (w x : ℕ) → round_up w x % w ≡ 0
unfolding round_up
round_up_words w x = mul-mod_left ((x + (w - 1)) / w) w

-- between two places on words lies a whole word
pub word_in : (w a e : ℕ) → a % w ≡ 0 → e % w ≡ 0 → a < e → a + w ≤ e
word_in w a e ha he h =
    let da = div-add-mod' a w in
    let de = div-add-mod' e w in
    go (ltb (a / w) (e / w)) refl
  where
    go : (b : Bool) → ltb (a / w) (e / w) ≡ b → a + w ≤ e
    go true q =
        let m : (a / w + 1) * w ≤ e / w * w = mul-le-mul_right w (omega (arith, ltb-true (a / w) (e / w) q)) in
        omega (arith, div-add-mod' a w, div-add-mod' e w)
    go false q =
        let m : e / w * w ≤ a / w * w = mul-le-mul_right w (ltb-false (a / w) (e / w) q) in
        absurd (omega (arith, div-add-mod' a w, div-add-mod' e w))
