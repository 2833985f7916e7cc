-- Programming and laying bytes over, byte by byte and piece by piece.
use Rattle.std.specs.Prelude.{◌≡◌, ◌⊎◌, ℕ, suc, ◌+◌, ◌≤◌, ◌<◌, List, [], ◌∷◌, ◌++◌, length, get_or, set, take, drop}
use Rattle.std.proofs.Common.{sym, ⊎_elim, arith, add-one, add-zero, append_assoc, length-drop, length-append, length-set, take-append-drop, drop-cons, take-suc-set, drop-set-lt, length-take-le}
use Rattle.std.specs.Int.Bits.{bit_and}
use Rattle.rules.specs.Bytes.{and_all, splice, program}
use Rattle.laws.specs.Splice.{win_before, win_after}
use Rattle.laws.specs.ByteLaws.{length-and_all}

-- nothing is programmed
pub program-nil : (l : List ℕ) (a : ℕ) → program l a [] ≡ l
unfolding program splice
program-nil l a = go (drop a l)
  where
    go : (x : List ℕ) → take a l ++ (and_all (take 0 x) [] ++ drop (a + length (and_all (take 0 x) [])) l) ≡ l
    go x = rw (add-zero a) (take-append-drop a l)

-- one byte and the rest
pub program-cons : (l : List ℕ) (a x : ℕ) (xs : List ℕ) → a + suc (length xs) ≤ length l → program l a (x ∷ xs) ≡ program (set l a (bit_and (get_or l a 0) x)) (a + 1) xs
unfolding program splice
program-cons l a x xs h =
    let v = bit_and (get_or l a 0) x in
    let h₀ : a < length l = omega arith in
    let n : ℕ = length xs in
    let R = and_all (take n (drop (suc a) l)) xs in
    let lt : length (take n (drop (suc a) l)) ≡ length xs = length-take-le n (drop (suc a) l) (rw length-drop (omega arith)) in
    let l_r : length R ≡ n = length-and_all (take n (drop (suc a) l)) xs lt in
    let q : a + suc (length R) ≡ suc a + length R = omega arith in
    rw (drop-cons l a 0 h₀, add-one a, take-suc-set l a v h₀, drop-set-lt (suc a) l a v (omega arith), drop-set-lt (suc a + length R) l a v (omega arith), q)
    (sym (append_assoc (take a l) (v ∷ []) (R ++ drop (suc a + length R) l)))

-- bytes and then more bytes
pub program-append : (l : List ℕ) (a : ℕ) (xs ys : List ℕ) → a + (length xs + length ys) ≤ length l → program l a (xs ++ ys) ≡ program (program l a xs) (a + length xs) ys
program-append l a [] ys h = rw (add-zero a, program-nil l a)
program-append l a (x ∷ xs) ys h =
    let q : a + suc (length xs) ≡ a + 1 + length xs = omega arith in
    let la = length-append xs ys in
    rw (program-cons l a x (xs ++ ys) (omega arith), program-cons l a x xs (omega arith), q)
    (program-append (set l a (bit_and (get_or l a 0) x)) (a + 1) xs ys (rw length-set (omega arith)))

-- a window that nothing is programmed in
pub program_window : (l : List ℕ) (at : ℕ) (bs : List ℕ) → at + length bs ≤ length l → (a m : ℕ) → (a + m ≤ at) ⊎ (at + length bs ≤ a)
    → take m (drop a (program l at bs)) ≡ take m (drop a l)
unfolding program
program_window l at bs h a m d =
    let o = take (length bs) (drop at l) in
    let lo : length o ≡ length bs = length-take-le (length bs) (drop at l) (rw length-drop (omega arith)) in
    let la = length-and_all o bs lo in
    ⊎_elim (λ x. win_before l at (and_all o bs) (omega arith) a m x) (λ x. win_after l at (and_all o bs) (omega arith) a m (omega arith)) d

-- ---- bytes laid over

pub splice-nil : (l : List ℕ) (a : ℕ) → splice l a [] ≡ l
unfolding splice
splice-nil l a = rw (add-zero a) (take-append-drop a l)

pub splice-cons : (l : List ℕ) (a v : ℕ) (vs : List ℕ) → a + suc (length vs) ≤ length l → splice l a (v ∷ vs) ≡ splice (set l a v) (a + 1) vs
unfolding splice
splice-cons l a v vs h =
    let h₀ : a < length l = omega arith in
    let q : a + suc (length vs) ≡ suc a + length vs = omega arith in
    rw (add-one a, take-suc-set l a v h₀, drop-set-lt (suc a + length vs) l a v (omega arith), q)
    (sym (append_assoc (take a l) (v ∷ []) (vs ++ drop (suc a + length vs) l)))
