-- A list without its element j.
use mathlib.Core.Path.{◌≡◌, refl, ap}
use Prim.Native.Nat.{ℕ, zero, suc, ◌+◌, ◌-◌, ◌≤◌, ◌<◌}
use native.Mathlib.Omega.{arith}
use mathlib.Core.List.{List, [], ◌∷◌, ◌++◌}
use lib.ListN.{length, take, drop, set, get_or, length-append, length-drop}
use lib.Seq.{length-take-le, take-nil, drop-nil, paste, set_at, drop-cons}
use Rattle.std.proofs.Common.{add-one}
use Rattle.std.proofs.Math.Seq.{take-append-add}

module _ {A : Type 0} where
  abbrev pub cut : List A → ℕ → List A
  cut l j = take j l ++ drop (suc j) l

  pub length_cut : (l : List A) (j : ℕ) → j < length l → length (cut l j) ≡ length l - 1
  length_cut l j h = simp (length-append, length-drop) (omega (arith, length-take-le j l (omega arith)))

  -- its first m elements, and those after them
  pub take-cut : (l : List A) (j m : ℕ) → j ≤ m → take m (cut l j) ≡ cut (take (suc m) l) j
  take-cut [] zero m h = take-nil m
  take-cut (x ∷ l) zero m h = refl
  take-cut l (suc j) zero h = absurd (omega arith)
  take-cut [] (suc j) (suc m) h = refl
  take-cut (x ∷ l) (suc j) (suc m) h = ap (λ (r : List A). x ∷ r) (take-cut l j m (omega arith))

  pub drop-cut : (l : List A) (j m : ℕ) → j ≤ m → drop m (cut l j) ≡ drop (suc m) l
  drop-cut [] zero m h = drop-nil m
  drop-cut (x ∷ l) zero m h = refl
  drop-cut l (suc j) zero h = absurd (omega arith)
  drop-cut [] (suc j) (suc m) h = refl
  drop-cut (x ∷ l) (suc j) (suc m) h = drop-cut l j m (omega arith)

-- the elements after the one at j moved over it, and x over the last of the first n
pub pulled : (a : List ℕ) (j n x : ℕ) → j < n → n ≤ length a
    → set (paste a j (drop (j + 1) a) (n - (j + 1))) (n - 1) x ≡ take (n - 1) (cut a j) ++ (x ∷ drop n a)
pulled a j n x h g =
    let m = n - suc j in
    let first : length (take j a) ≡ j = length-take-le j a (omega arith) in
    let last : j + (n - (j + 1)) ≡ n - 1 = omega arith in
    let all : suc (n - 1) ≡ n = omega arith in
    let seam : n - 1 ≡ length (take j a) + m = omega arith in
    let front : take (n - 1) (cut a j) ≡ take j a ++ take m (drop (suc j) a) =
    rw seam (take-append-add (take j a) (drop (suc j) a) m) in
    let long : length (take (n - 1) (cut a j)) ≡ n - 1 =
    length-take-le (n - 1) (cut a j) (omega (arith, length_cut a j (omega arith))) in
    rw (last, drop-cons a (n - 1) 0 (omega arith), all, add-one, ← front)
    (set_at (take (n - 1) (cut a j)) (get_or a (n - 1) 0) (drop n a) x (n - 1) long)
