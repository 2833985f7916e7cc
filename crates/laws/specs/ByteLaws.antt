-- Bytes: AND-programming, zero counts, blank bytes; what is programmed is a splice.
use Rattle.std.specs.Prelude.{◌≡◌, refl, ℕ, zero, suc, ◌+◌, ◌*◌, ◌/◌, ◌%◌, ◌≤◌, ◌<◌, true, List, [], ◌∷◌, ◌++◌, length, take, drop, replicate, eqb}
use Rattle.std.proofs.Common.{sym, ap, ◌∙◌, length-drop, length-take-le, arith}
use Rattle.std.specs.Int.Bits.{bit_and, and_zero_r}
use Rattle.std.proofs.lemmas.Nat.{and_comm, and_mask, and_le_l}
use Rattle.rules.specs.Bytes.{Bytes, both, zeros_in, zero_bits, zeros, all_ff, splice, program, and_all}
use Rattle.laws.specs.Lists.{both_assoc}

-- ---- bytes

pub Bytes-append : (xs ys : List ℕ) → Bytes xs → Bytes ys → Bytes (xs ++ ys)
Bytes-append [] ys h k = k
Bytes-append (x ∷ xs) ys h k = (h.0, Bytes-append xs ys h.1 k)

pub Bytes-take : (m : ℕ) (xs : List ℕ) → Bytes xs → Bytes (take m xs)
Bytes-take zero xs h = tt
Bytes-take (suc m) [] h = tt
Bytes-take (suc m) (x ∷ xs) h = (h.0, Bytes-take m xs h.1)

pub Bytes-drop : (m : ℕ) (xs : List ℕ) → Bytes xs → Bytes (drop m xs)
Bytes-drop zero xs h = h
Bytes-drop (suc m) [] h = tt
Bytes-drop (suc m) (x ∷ xs) h = Bytes-drop m xs h.1

pub Bytes-replicate : (m x : ℕ) → x < 256 → Bytes (replicate m x)
Bytes-replicate zero x h = tt
Bytes-replicate (suc m) x h = (h, Bytes-replicate m x h)

pub Bytes-splice : (l : List ℕ) (at : ℕ) (new : List ℕ) → Bytes l → Bytes new → Bytes (splice l at new)
unfolding splice
Bytes-splice l at new h k =
    Bytes-append (take at l) (new ++ drop (at + length new) l) (Bytes-take at l h)
    (Bytes-append new (drop (at + length new) l) k (Bytes-drop (at + length new) l h))

pub Bytes_and : (os bs : List ℕ) → Bytes os → Bytes (and_all os bs)
Bytes_and [] bs h = tt
Bytes_and (o ∷ os) [] h = tt
Bytes_and (o ∷ os) (b ∷ bs) h =
    let l = and_le_l o b in
    let k = h.0 in
    (omega arith, Bytes_and os bs h.1)

-- ---- AND

and_ff : (b : ℕ) → b < 256 → bit_and 255 b ≡ b
and_ff b h = and_comm 255 b ∙ and_mask b 8 ∙ small
  where
    small : b % 256 ≡ b
    small = omega arith

-- programming blank bytes writes what is programmed
pub and_blank : (bs : List ℕ) → Bytes bs → and_all (replicate (length bs) 255) bs ≡ bs
and_blank [] h = refl
and_blank (b ∷ bs) h = rw (and_ff b h.0, and_blank bs h.1)

-- programming zeros leaves zeros
pub and_zeros : (os : List ℕ) → and_all os (replicate (length os) 0) ≡ replicate (length os) 0
and_zeros [] = refl
and_zeros (o ∷ os) = rw (and_zero_r o, and_zeros os)

pub length-and_all : (os bs : List ℕ) → length os ≡ length bs → length (and_all os bs) ≡ length bs
length-and_all [] [] e = refl
length-and_all [] (b ∷ bs) e = absurd (omega arith)
length-and_all (o ∷ os) [] e = absurd (omega arith)
length-and_all (o ∷ os) (b ∷ bs) e = ap suc (length-and_all os bs (omega arith))

-- an image in which n bytes at a place are others
pub record Spliced (img : List ℕ) (a n : ℕ) (img' : List ℕ) : Type 0 where
  pub y : List ℕ
  pub len : length y ≡ n
  pub bytes : Bytes y
  pub is : img' ≡ splice img a y

-- programming is such a change
pub program-splice : (img : List ℕ) (a : ℕ) (bs : List ℕ) → Bytes img → a + length bs ≤ length img → Spliced img a (length bs) (program img a bs)
unfolding program
program-splice img a bs h f =
    let o = take (length bs) (drop a img) in
    let lo : length o ≡ length bs = length-take-le (length bs) (drop a img) (rw length-drop (omega arith)) in
    record { y = and_all o bs; len = length-and_all o bs lo; bytes = Bytes_and o bs (Bytes-take (length bs) (drop a img) (Bytes-drop a img h)); is = refl }

-- ---- zero counts

pub zeros-zeros : (m : ℕ) → zeros (replicate m 0) ≡ 8 * m
unfolding zero_bits zeros_in
zeros-zeros zero = refl
zeros-zeros (suc m) = omega (arith, zeros-zeros m)

pub zeros_ff : (m : ℕ) → zeros (replicate m 255) ≡ 0
unfolding zero_bits zeros_in
zeros_ff zero = refl
zeros_ff (suc m) = omega (arith, zeros_ff m)

pub zeros_in_le : (k n : ℕ) → zeros_in k n ≤ k
unfolding zeros_in
zeros_in_le zero n = omega arith
zeros_in_le (suc k) n = omega (arith, zeros_in_le k (n / 2))

pub zeros_le : (d : List ℕ) → zeros d ≤ 8 * length d
unfolding zero_bits
zeros_le [] = omega arith
zeros_le (b ∷ bs) = omega (arith, zeros_le bs, zeros_in_le 8 b)

-- ---- blank bytes

pub all_ff-append : (xs ys : List ℕ) → all_ff (xs ++ ys) ≡ both (all_ff xs) (all_ff ys)
all_ff-append [] ys = refl
all_ff-append (x ∷ xs) ys = rw (all_ff-append xs ys) (sym (both_assoc (eqb x 255) (all_ff xs) (all_ff ys)))

pub all_ff-take : (n m : ℕ) → all_ff (take n (replicate m 255)) ≡ true
all_ff-take zero m = refl
all_ff-take (suc n) zero = refl
all_ff-take (suc n) (suc m) = all_ff-take n m

pub ff_more : (a b : ℕ) → replicate a 255 ++ replicate b 255 ≡ replicate {A = ℕ} (a + b) 255
ff_more zero b = let z : b ≡ 0 + b = omega arith in ap (λ (x : ℕ). replicate {A = ℕ} x 255) z
ff_more (suc a) b = let z : suc (a + b) ≡ suc a + b = omega arith in rw (ff_more a b) (ap (λ (x : ℕ). replicate {A = ℕ} x 255) z)
