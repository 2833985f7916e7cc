-- Lists and tests: what holds of every element, numbers in order, two tests at once.
use Rattle.std.specs.Prelude.{◌≡◌, refl, ◌≢◌, ℕ, zero, suc, ◌+◌, ◌≤◌, ◌<◌, Bool, true, false, eqb}
use Rattle.std.proofs.Common.{ap, ◌∙◌, subst, arith, eqb-true}
use mathlib.Core.List.{List, [], ◌∷◌, ◌++◌, reverse, reverse-cons}
use Rattle.std.proofs.lemmas.Bool.{eqb-false}
use Rattle.rules.specs.Bytes.{both}
use Rattle.rules.specs.Pages.{up_from}
use Rattle.rules.specs.Sound.{All}

-- ---- two tests

pub both_false : (a b : Bool) → a ≡ false → both a b ≡ false
both_false a b e = rw e

pub both_false_r : (a : Bool) → both a false ≡ false
both_false_r true = refl
both_false_r false = refl

pub both_true_r : (a : Bool) → both a true ≡ a
both_true_r true = refl
both_true_r false = refl

pub both_assoc : (a b c : Bool) → both (both a b) c ≡ both a (both b c)
both_assoc true b c = refl
both_assoc false b c = refl

-- ---- every element

module _ {A : Type 0} where
  pub All-append : (P : A → Type 0) (xs ys : List A) → All P xs → All P ys → All P (xs ++ ys)
  All-append P [] ys h k = k
  All-append P (x ∷ xs) ys h k = (h.0, All-append P xs ys h.1 k)

  pub All-left : (P : A → Type 0) (xs ys : List A) → All P (xs ++ ys) → All P xs
  All-left P [] ys h = tt
  All-left P (x ∷ xs) ys h = (h.0, All-left P xs ys h.1)

  pub All_right : (P : A → Type 0) (xs ys : List A) → All P (xs ++ ys) → All P ys
  All_right P [] ys h = h
  All_right P (x ∷ xs) ys h = All_right P xs ys h.1

  pub All-map : (P Q : A → Type 0) (xs : List A) → ((x : A) → P x → Q x) → All P xs → All Q xs
  All-map P Q [] f h = tt
  All-map P Q (x ∷ xs) f h = (f x h.0, All-map P Q xs f h.1)

  pub All-zip : (P Q R : A → Type 0) (xs : List A) → ((x : A) → P x → Q x → R x) → All P xs → All Q xs → All R xs
  All-zip P Q R [] f h k = tt
  All-zip P Q R (x ∷ xs) f h k = (f x h.0 k.0, All-zip P Q R xs f h.1 k.1)

  pub All-reverse : (P : A → Type 0) (xs : List A) → All P xs → All P (reverse xs)
  All-reverse P [] h = tt
  All-reverse P (x ∷ xs) h = rw (reverse-cons x xs) (All-append P (reverse xs) (x ∷ []) (All-reverse P xs h.1) (h.0, tt))

-- ---- numbers in order

pub up_from-snoc : (a m : ℕ) → up_from a (suc m) ≡ up_from a m ++ ((a + m) ∷ [])
up_from-snoc a zero = let z : a ≡ a + 0 = omega arith in ap {B = List ℕ} (λ (x : ℕ). x ∷ []) z
up_from-snoc a (suc m) =
    let z : suc a + m ≡ a + suc m = omega arith in
    ap (λ (r : List ℕ). a ∷ r) (up_from-snoc (suc a) m ∙ ap (λ (x : ℕ). up_from (suc a) m ++ (x ∷ [])) z)

pub All-up_from : (P : ℕ → Type 0) (a m : ℕ) → All P (up_from a m) → (q : ℕ) → a ≤ q → q < a + m → P q
All-up_from P a zero h q h₁ h₂ = absurd (omega arith)
All-up_from P a (suc m) h q h₁ h₂ = go (eqb a q) refl (λ k₁ k₂. All-up_from P (suc a) m h.1 q k₁ k₂)
  where
    go : (b : Bool) → eqb a q ≡ b → (suc a ≤ q → q < suc a + m → P q) → P q
    go true e ih = subst P (eqb-true a q e) h.0
    go false e ih = let ne : a ≢ q = eqb-false a q e in ih (omega arith) (omega arith)

pub up_from-All : (P : ℕ → Type 0) (a m : ℕ) → ((q : ℕ) → a ≤ q → q < a + m → P q) → All P (up_from a m)
up_from-All P a zero h = tt
up_from-All P a (suc m) h = (h a (omega arith) (omega arith), up_from-All P (suc a) m (λ q h₁ h₂. h q (omega arith) (omega arith)))
