-- A part of a list that is replaced: what a window of the list then shows.
use Rattle.std.specs.Prelude.{◌≡◌, refl, ℕ, zero, suc, ◌+◌, ◌-◌, ◌≤◌, List, [], ◌∷◌, ◌++◌, replicate}
use Rattle.std.proofs.Common.{sym, ap, length-append, drop_of_length-le, take_at, drop_at}
use Rattle.std.proofs.Math.ListN.{length, take, drop, length-drop}
use Rattle.std.proofs.Math.Seq.{take-append-le, drop-append-le, take-take, drop-drop, length-take-le, take-nil}
use Rattle.std.proofs.Math.Nat.{zero-sub, sub-zero, suc-sub-suc}
use native.Mathlib.Omega.{arith}
use Rattle.rules.specs.Bytes.{splice}

module _ {A : Type 0} where
  pub take-append : (n : ℕ) (xs ys : List A) → take n (xs ++ ys) ≡ take n xs ++ take (n - length xs) ys
  take-append zero xs ys = rw (zero-sub (length xs))
  take-append (suc n) [] ys = rw (sub-zero (suc n))
  take-append (suc n) (x ∷ xs) ys = rw (suc-sub-suc n (length xs), take-append n xs ys)

  pub drop-append : (n : ℕ) (xs ys : List A) → drop n (xs ++ ys) ≡ drop n xs ++ drop (n - length xs) ys
  drop-append zero xs ys = rw (zero-sub (length xs))
  drop-append (suc n) [] ys = rw (sub-zero (suc n))
  drop-append (suc n) (x ∷ xs) ys = rw (suc-sub-suc n (length xs), drop-append n xs ys)

  pub drop-take : (k m : ℕ) (l : List A) → drop k (take m l) ≡ take (m - k) (drop k l)
  drop-take zero m l = rw (sub-zero m)
  drop-take (suc k) zero l = rw (zero-sub (suc k))
  drop-take (suc k) (suc m) [] = sym (take-nil (suc m - suc k))
  drop-take (suc k) (suc m) (x ∷ l) = rw (suc-sub-suc m k) (drop-take k m l)

-- the seam's place and length are known only by equations
pub take-over : (n : ℕ) (xs ys : List ℕ) → length xs ≤ n → take n (xs ++ ys) ≡ xs ++ take (n - length xs) ys
take-over n xs ys h = rw (take-append n xs ys) (ap (λ (r : List ℕ). r ++ take (n - length xs) ys) (all n xs h))
  where
    all : (k : ℕ) (l : List ℕ) → length l ≤ k → take k l ≡ l
    all zero [] h = refl
    all zero (x ∷ xs) h = absurd (omega arith)
    all (suc n) [] h = refl
    all (suc n) (x ∷ xs) h = ap (λ (r : List ℕ). x ∷ r) (all n xs (omega arith))

pub drop-over : (n : ℕ) (xs ys : List ℕ) → length xs ≤ n → drop n (xs ++ ys) ≡ drop (n - length xs) ys
drop-over n xs ys h = rw (drop-append n xs ys, drop_of_length-le xs h)

module _ (l : List ℕ) (at : ℕ) (new : List ℕ) (fits : at + length new ≤ length l) where
  front : length (take at l) ≡ at
  front = length-take-le at l (omega arith)

  pub length-splice : length (splice l at new) ≡ length l
  unfolding splice
  length-splice = simp (length-append, length-drop, front) (omega arith)

  -- a window before it
  pub win_before : (a m : ℕ) → a + m ≤ at → take m (drop a (splice l at new)) ≡ take m (drop a l)
  unfolding splice
  win_before a m h =
      let h₁ : a ≤ length (take at l) = rw front (omega arith) in
      let h₂ : m ≤ length (drop a (take at l)) = simp (length-drop, front) (omega arith) in
      let h₃ : m ≤ at - a = omega arith in
      rw (drop-append-le a (take at l) _ h₁, take-append-le m (drop a (take at l)) _ h₂, drop-take a at l, take-take m (at - a) (drop a l) h₃)

  -- a window after it
  pub drop-after : (a : ℕ) → at + length new ≤ a → drop a (splice l at new) ≡ drop a l
  unfolding splice
  drop-after a h =
      let h₁ : length (take at l) ≤ a = rw front (omega arith) in
      let h₂ : length new ≤ a - at = omega arith in
      let h₃ : at + length new + (a - at - length new) ≡ a = omega arith in
      rw (drop-over a (take at l) _ h₁, front, drop-over (a - at) new _ h₂, drop-drop (a - at - length new) (at + length new) l, h₃)

  pub win_after : (a m : ℕ) → at + length new ≤ a → take m (drop a (splice l at new)) ≡ take m (drop a l)
  win_after a m h = rw (drop-after a h)

  -- a window around it
  pub win_in : (a m : ℕ) → a ≤ at → at + length new ≤ a + m → take m (drop a (splice l at new)) ≡ splice (take m (drop a l)) (at - a) new
  unfolding splice
  win_in a m h k =
      let P = take (at - a) (drop a l) in
      let R = drop (at + length new) l in
      let h₁ : a ≤ length (take at l) = rw front (omega arith) in
      let l_p : length P ≡ at - a = length-take-le (at - a) (drop a l) (rw length-drop (omega arith)) in
      let h₂ : length P ≤ m = rw l_p (omega arith) in
      let h₃ : length new ≤ m - (at - a) = omega arith in
      let e₁ : m - (at - a) - length new ≡ m - (at - a + length new) = omega arith in
      let e₂ : a + (at - a + length new) ≡ at + length new = omega arith in
      let h₄ : at - a ≤ m = omega arith in
      rw (
        drop-append-le a (take at l) (new ++ R) h₁,
        drop-take a at l,
        take-over m P (new ++ R) h₂,
        l_p,
        take-over (m - (at - a)) new R h₃,
        e₁,
        take-take (at - a) m (drop a l) h₄,
        drop-take (at - a + length new) m (drop a l),
        drop-drop (at - a + length new) a l,
        e₂,
      )

  -- what is left after w elements
  pub drop-splice : (w : ℕ) → w ≤ at → drop w (splice l at new) ≡ splice (drop w l) (at - w) new
  unfolding splice
  drop-splice w h =
      let h₁ : w ≤ length (take at l) = rw front (omega arith) in
      let e : w + (at - w + length new) ≡ at + length new = omega arith in
      rw (drop-append-le w (take at l) (new ++ drop (at + length new) l) h₁, drop-take w at l, drop-drop (at - w + length new) w l, e)

  -- the window itself
  pub win_exact : (m : ℕ) → length new ≡ m → take m (drop at (splice l at new)) ≡ new
  unfolding splice
  win_exact m e = rw (drop_at (take at l) (new ++ drop (at + length new) l) at front) (take_at new (drop (at + length new) l) m e)

  -- a window within it
  pub win_within : (a m : ℕ) → at ≤ a → a + m ≤ at + length new → take m (drop a (splice l at new)) ≡ take m (drop (a - at) new)
  unfolding splice
  win_within a m h k =
      let R = drop (at + length new) l in
      let h₁ : length (take at l) ≤ a = rw front (omega arith) in
      let h₂ : a - at ≤ length new = omega arith in
      let h₃ : m ≤ length (drop (a - at) new) = rw length-drop (omega arith) in
      rw (drop-over a (take at l) (new ++ R) h₁, front, drop-append-le (a - at) new R h₂, take-append-le m (drop (a - at) new) R h₃)

pub window_replicate : (k i m x : ℕ) → i + m ≤ k → take m (drop i (replicate k x)) ≡ replicate m x
window_replicate k zero zero x h = refl
window_replicate zero zero (suc m) x h = absurd (omega arith)
window_replicate (suc k) zero (suc m) x h = ap (λ (r : List ℕ). x ∷ r) (window_replicate k zero m x (omega arith))
window_replicate zero (suc i) m x h = absurd (omega arith)
window_replicate (suc k) (suc i) m x h = window_replicate k i m x (omega arith)

pub drop-replicate : (k m x : ℕ) → drop k (replicate m x) ≡ replicate (m - k) x
drop-replicate zero m x = rw (sub-zero m)
drop-replicate (suc k) zero x = rw (zero-sub (suc k))
drop-replicate (suc k) (suc m) x = rw (suc-sub-suc m k) (drop-replicate k m x)
