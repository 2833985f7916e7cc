-- Bytes, words and programming, in the form that the code asks.
use mathlib.Core.Path.{◌≡◌, refl, sym, ap, ◌∙◌}
use mathlib.Core.Logic.{◌⊎◌, ⊎_elim, inl, inr}
use Prim.Native.Nat.{ℕ, zero, suc, ◌+◌, ◌-◌, ◌*◌, ◌/◌, ◌%◌, ◌^◌, ◌≤◌, ◌<◌, min}
use native.Mathlib.Omega.{arith}
use native.Mathlib.Numerals.{add-one}
use native.Mathlib.Nat.{eq-or-lt_of_le, pow-suc, div-mul-le_self}
use mathlib.Core.Bool.{Bool, true, false, ◌&&◌}
use mathlib.Core.List.{List, [], ◌∷◌}
use lib.ListN.{length, get_or, set, take, drop, replicate, length-drop, length-replicate, take-append-drop}
use lib.ListN.{drop_of_length-le, length-set}
use lib.Seq.{drop-cons, drop-drop, length-take-le, take_all}
use lib.Bits.{bit_and}
use lib.Count.{ones, ones_step, ones_cat}
use lib.Dec.{leb, ltb, eqb}
use borrow.Author.Tests.{ne_eqb, eq-eqb, leb-true, leb-false, ltb-true, ltb-false}
use borrow.Rule.Slice.PartMut.{put_mid}
use Rattle.std.specs.Int.{w8, w32, w64, count_zeros, from_le_bytes, byte_worth, sum_through}
use Rattle.std.specs.List.{sum_by, list_all}
use Rattle.std.specs.Simd.{first_chunks}
use Rattle.std.proofs.lemmas.List.Sums.{sum_by-cons}
use Rattle.rules.specs.Bytes.{Bytes, pick, both, zeros_in, zero_bits, zeros, all_ff, of_le, round_up, splice, program}
use Rattle.laws.specs.ByteLaws.{Bytes-take, Bytes-drop, all_ff-append}
use Rattle.laws.specs.Words.{le_round_up, round_up_lt, round_up_words, word_in}
use Rattle.rules.specs.Power.{endless, lasts, spend, taken}
use Rattle.laws.specs.Power.{Wrote, lasts_le, lasts-none, spend-none}
use Rattle.laws.specs.Programs.{program-nil, program-cons}

-- ---- zero bits

zeros_ones : (k n : ℕ) → n < 2 ^ k → zeros_in k n + ones n ≡ k
unfolding zeros_in ones
zeros_ones zero zero h = refl
zeros_ones zero (suc n) h = absurd (omega arith)
zeros_ones (suc k) n h = omega (arith, ones_step n, zeros_ones k (n / 2) (omega arith))

-- the zero bits of a number are the ones of its complement
ones_not : (k n : ℕ) → n < 2 ^ k → ones (2 ^ k - 1 - n) ≡ zeros_in k n
unfolding zeros_in ones
ones_not zero n h = let z : 2 ^ 0 - 1 - n ≡ 0 = omega arith in rw z
ones_not (suc k) n h =
    let p : 2 ^ suc k ≡ 2 ^ k * 2 = pow-suc 2 k in
    let half : (2 ^ suc k - 1 - n) / 2 ≡ 2 ^ k - 1 - n / 2 = omega arith in
    let last : (2 ^ suc k - 1 - n) % 2 ≡ 1 - n % 2 = omega arith in
    rw (ones_step (2 ^ suc k - 1 - n), half, last, ones_not k (n / 2) (omega arith))

pub byte_zeros : (b : ℕ) → b < 256 → count_zeros w8 b ≡ zero_bits b
unfolding zero_bits
byte_zeros b h = ones_not 8 b h

-- the zero bits and the ones of bytes make all their bits
ones_all : (l : List ℕ) → Bytes l → zeros l + ones (of_le l) ≡ 8 * length l
unfolding ones zero_bits
ones_all [] h = refl
ones_all (b ∷ bs) h =
    let q : b + 256 * of_le bs ≡ of_le bs * 256 + b = omega arith in
    rw q (omega (arith, ones_cat 8 (of_le bs) b h.0, zeros_ones 8 b h.0, ones_all bs h.1))

-- bytes are all 0xFF just where their number is the largest
ff_number : (l : List ℕ) → Bytes l
    → ((all_ff l ≡ true) × (of_le l + 1 ≡ 256 ^ length l)) ⊎ ((all_ff l ≡ false) × (of_le l + 1 < 256 ^ length l))
ff_number [] h = inl (refl, refl)
ff_number (b ∷ bs) h =
    let p : 256 ^ suc (length bs) ≡ 256 ^ length bs * 256 = pow-suc 256 (length bs) in
    let k : b ≤ 255 = omega (arith, h.0) in
    ⊎_elim (λ (e : b ≡ 255). ⊎_elim (λ y. inl (rw e y.0, omega (arith, p, e, y.1)))
    (λ n. inr (rw e n.0, omega (arith, p, e, n.1))) (ff_number bs h.1))
    (λ (e : b < 255). inr (
      rw (ne_eqb b 255 (λ q. absurd (omega (arith, q, e)))),
      ⊎_elim (λ y. omega (arith, p, e, y.1)) (λ n. omega (arith, p, e, n.1)) (ff_number bs h.1),
    )) (eq-or-lt_of_le k)

of_le_lt : (l : List ℕ) → Bytes l → of_le l < 256 ^ length l
of_le_lt l h = ⊎_elim (λ y. omega (arith, y.1)) (λ n. omega (arith, n.1)) (ff_number l h)

-- the zero bits of bytes are those of their number
pub zeros_of : (l : List ℕ) → Bytes l → (k : ℕ) → k ≡ 8 * length l → 2 ^ k ≡ 256 ^ length l
    → ones (2 ^ k - 1 - of_le l) ≡ zeros l
zeros_of l h k e p =
    let lt : of_le l < 2 ^ k = rw p (of_le_lt l h) in
    omega (arith, ones_not k (of_le l) lt, zeros_ones k (of_le l) lt, ones_all l h)

-- ---- several bytes as one number

bytes-all : (l : List ℕ) → ((i : ℕ) → get_or l i 0 < 256) → Bytes l
bytes-all [] h = tt
bytes-all (b ∷ bs) h = (h 0, bytes-all bs (λ i. h (suc i)))

of_le-take : (k : ℕ) (l : List ℕ) → of_le (take (suc k) l) ≡ of_le (take k l) + get_or l k 0 * 256 ^ k
of_le-take zero [] = refl
of_le-take zero (x ∷ l) = omega arith
of_le-take (suc k) [] = omega arith
of_le-take (suc k) (x ∷ l) =
    omega (arith, of_le-take k l, ap (λ (p : ℕ). get_or l k 0 * p) (pow-suc 256 k))

worth : (k : ℕ) (l : List ℕ) → sum_through (λ i. byte_worth i (get_or l i 0)) k ≡ of_le (take (suc k) l)
worth zero [] = refl
worth zero (x ∷ l) = omega arith
worth (suc k) l = rw (worth k l, of_le-take (suc k) l)

-- ---- bytes in groups

-- the zero bits of eight bytes and of four, and whether eight are all 0xFF
abbrev pub eight_zeros : List ℕ → ℕ
eight_zeros l = count_zeros w64 (from_le_bytes w64 l)

abbrev pub four_zeros : List ℕ → ℕ
four_zeros l = count_zeros w32 (from_le_bytes w32 l)

abbrev pub eight_ff : List ℕ → Bool
eight_ff l = eqb (from_le_bytes w64 l) 18446744073709551615

number_is : (l : List ℕ) → length l ≡ 8 → from_le_bytes w64 l ≡ of_le l
number_is l e = worth 7 l ∙ ap of_le (take_all 8 l (omega arith))

eight_zeros_is : (l : List ℕ) → Bytes l → length l ≡ 8 → eight_zeros l ≡ zeros l
eight_zeros_is l h e = rw (number_is l e) (zeros_of l h 64 (omega arith) (ap (λ (n : ℕ). 256 ^ n) (sym e)))

four_zeros_is : (l : List ℕ) → Bytes l → length l ≡ 4 → four_zeros l ≡ zeros l
four_zeros_is l h e =
    let number : from_le_bytes w32 l ≡ of_le l = worth 3 l ∙ ap of_le (take_all 4 l (omega arith)) in
    rw number (zeros_of l h 32 (omega arith) (ap (λ (n : ℕ). 256 ^ n) (sym e)))

pub zeros_of_four : (l : List ℕ) → ((i : ℕ) → get_or l i 0 < 256) → length l ≡ 4 → (n : ℕ) → n ≡ from_le_bytes w32 l
    → count_zeros w32 n ≡ zeros l
zeros_of_four l k e n q = rw q (four_zeros_is l (bytes-all l k) e)

eight_ff_is : (l : List ℕ) → Bytes l → length l ≡ 8 → eight_ff l ≡ all_ff l
eight_ff_is l h e =
    let p : 256 ^ length l ≡ 18446744073709551616 = ap (λ (n : ℕ). 256 ^ n) e in
    rw (number_is l e)
    (⊎_elim (λ y. eq-eqb _ _ (omega (arith, y.1, p)) ∙ sym y.0)
    (λ n. ne_eqb _ _ (λ q. absurd (omega (arith, n.1, p, q))) ∙ sym n.0) (ff_number l h))

zeros_cut : (m : ℕ) (l : List ℕ) → zeros l ≡ zeros (take m l) + zeros (drop m l)
zeros_cut zero l = omega arith
zeros_cut (suc m) [] = refl
zeros_cut (suc m) (b ∷ bs) = omega (arith, zeros_cut m bs)

ff_cut : (m : ℕ) (l : List ℕ) → all_ff l ≡ both (all_ff (take m l)) (all_ff (drop m l))
ff_cut m l = sym (ap all_ff (take-append-drop m l)) ∙ all_ff-append (take m l) (drop m l)

-- groups of m bytes, which f counts, and the bytes behind them
module _ (m : ℕ) (f : List ℕ → ℕ) (each : (l : List ℕ) → Bytes l → length l ≡ m → f l ≡ zeros l) where
  zeros-groups : (k : ℕ) (l : List ℕ) → Bytes l → k * m ≤ length l
      → sum_by f (first_chunks m k l) + zeros (drop (k * m) l) ≡ zeros l
  zeros-groups zero l h g = let z : 0 * m ≡ 0 = omega arith in rw z (omega arith)
  zeros-groups (suc k) l h g =
      let q : suc k * m ≡ m + k * m = omega arith in
      let lt : length (take m l) ≡ m = length-take-le m l (omega arith) in
      let e = each (take m l) (Bytes-take m l h) lt in
      let d : drop (suc k * m) l ≡ drop (k * m) (drop m l) = rw q (sym (drop-drop (k * m) m l)) in
      let ih = zeros-groups k (drop m l) (Bytes-drop m l h) (omega (arith, length-drop m l)) in
      rw (d, sum_by-cons f (take m l) (first_chunks m k (drop m l))) (omega (arith, e, ih, zeros_cut m l))

  pub zeros_parts : (l : List ℕ) (front : List (List ℕ)) (rest : List ℕ) → Bytes l
      → front ≡ first_chunks m (length l / m) l → rest ≡ drop (length l / m * m) l
      → sum_by f front + zeros rest ≡ zeros l
  zeros_parts l front rest h p r = rw (p, r) (zeros-groups (length l / m) l h (div-mul-le_self (length l) m))

-- the same bytes, one at a time
zeros-sum : (l : List ℕ) → sum_by zero_bits l ≡ zeros l
zeros-sum [] = refl
zeros-sum (b ∷ bs) = rw (sum_by-cons zero_bits b bs, zeros-sum bs)

-- eight at a time, then four, then each
pub zeros_in_parts : (l rest bytes : List ℕ) (eights fours : List (List ℕ)) → ((i : ℕ) → get_or l i 0 < 256)
    → eights ≡ first_chunks 8 (length l / 8) l → rest ≡ drop (length l / 8 * 8) l
    → fours ≡ first_chunks 4 (length rest / 4) rest → bytes ≡ drop (length rest / 4 * 4) rest
    → sum_by eight_zeros eights + sum_by four_zeros fours + sum_by zero_bits bytes ≡ zeros l
zeros_in_parts l rest bytes eights fours k e r f b =
    let h : Bytes l = bytes-all l k in
    let hr : Bytes rest = rw r (Bytes-drop (length l / 8 * 8) l h) in
    let x = zeros_parts 8 eight_zeros eight_zeros_is l eights rest h e r in
    let y = zeros_parts 4 four_zeros four_zeros_is rest fours bytes hr f b in
    omega (arith, x, y, zeros-sum bytes)

ff-eights : (k : ℕ) (l : List ℕ) → Bytes l → k * 8 ≤ length l
    → both (list_all eight_ff (first_chunks 8 k l)) (all_ff (drop (k * 8) l)) ≡ all_ff l
ff-eights zero l h g = refl
ff-eights (suc k) l h g =
    let lt : length (take 8 l) ≡ 8 = length-take-le 8 l (omega arith) in
    let e = eight_ff_is (take 8 l) (Bytes-take 8 l h) lt in
    let q : suc k * 8 ≡ 8 + k * 8 = omega arith in
    let d : drop (suc k * 8) l ≡ drop (k * 8) (drop 8 l) = rw q (sym (drop-drop (k * 8) 8 l)) in
    let ih = ff-eights k (drop 8 l) (Bytes-drop 8 l h) (omega (arith, length-drop 8 l)) in
    rw (d, e, ff_cut 8 l) (go (all_ff (take 8 l)) _ _ _ ih)
  where
    go : (b x y z : Bool) → both x y ≡ z → both (b && x) y ≡ both b z
    go true x y z i = i
    go false x y z i = refl

ff-all : (l : List ℕ) → list_all (λ b. eqb b 255) l ≡ all_ff l
ff-all [] = refl
ff-all (b ∷ bs) = go (eqb b 255) _ _ (ff-all bs)
  where
    go : (b x y : Bool) → x ≡ y → b && x ≡ both b y
    go true x y e = e
    go false x y e = refl

-- the test of eight at a time, and then of each
pub ff_parts : (l rest : List ℕ) (eights : List (List ℕ)) (a b : Bool) → ((i : ℕ) → get_or l i 0 < 256)
    → eights ≡ first_chunks 8 (length l / 8) l → rest ≡ drop (length l / 8 * 8) l
    → a ≡ list_all eight_ff eights → b ≡ list_all (λ x. eqb x 255) rest → both a b ≡ all_ff l
ff_parts l rest eights a b k e r p q =
    rw (p, q, e, r, ff-all (drop (length l / 8 * 8) l)) (ff-eights (length l / 8) l (bytes-all l k) (omega arith))

-- ---- sizes

-- there is one multiple of w from x up to x + w
pub multiple_is : (w x r : ℕ) → 0 < w → x ≤ r → r < x + w → r % w ≡ 0 → r ≡ round_up w x
multiple_is w x r h le lt m = go (ltb r (round_up w x)) refl (ltb (round_up w x) r) refl
  where
    go : (a : Bool) → ltb r (round_up w x) ≡ a → (b : Bool) → ltb (round_up w x) r ≡ b → r ≡ round_up w x
    go true e b f =
        let s = word_in w r (round_up w x) m (round_up_words w x) (ltb-true r (round_up w x) e) in
        absurd (omega (arith, s, round_up_lt w x h))
    go false e true f =
        let s = word_in w (round_up w x) r (round_up_words w x) m (ltb-true (round_up w x) r f) in
        absurd (omega (arith, s, le_round_up w x h))
    go false e false f = omega (arith, ltb-false r (round_up w x) e, ltb-false (round_up w x) r f)

-- ---- changes of the image

pub program_step : (l b : List ℕ) (a i : ℕ) → i < length b → a + length b ≤ length l
    → program l (a + i) (drop i b)
    ≡ program (set l (a + i) (bit_and (get_or l (a + i) 0) (get_or b i 0))) (a + (i + 1)) (drop (i + 1) b)
program_step l b a i h k =
    let q : a + (i + 1) ≡ a + i + 1 = omega arith in
    let g : a + i + suc (length (drop (suc i) b)) ≤ length l = rw length-drop (omega arith) in
    rw (q, add-one i, drop-cons b i 0 h) (program-cons l (a + i) (get_or b i 0) (drop (suc i) b) g)

pub program_end : (l b : List ℕ) (a i : ℕ) → length b ≤ i → program l (a + i) (drop i b) ≡ l
program_end l b a i h = rw (drop_of_length-le b h) (program-nil l (a + i))

-- one byte of b programmed at its place
abbrev put : List ℕ → List ℕ → ℕ → ℕ → List ℕ
put l b a i = set l (a + i) (bit_and (get_or l (a + i) 0) (get_or b i 0))

-- four bytes, one after the other
pub program_four : (l b : List ℕ) (a : ℕ) → length b ≡ 4 → a + 4 ≤ length l
    → put (put (put (put l b a 0) b a 1) b a 2) b a 3 ≡ program l (a + 0) b
program_four l b a h k =
    let l1 = put l b a 0 in
    let l2 = put l1 b a 1 in
    let l3 = put l2 b a 2 in
    let n1 : length l1 ≡ length l = length-set l (a + 0) _ in
    let n2 : length l2 ≡ length l = length-set l1 (a + 1) _ ∙ n1 in
    let n3 : length l3 ≡ length l = length-set l2 (a + 2) _ ∙ n2 in
    sym (program_step l b a 0 (omega arith) (omega arith) ∙ program_step l1 b a 1 (omega arith) (omega arith)
    ∙ program_step l2 b a 2 (omega arith) (omega arith) ∙ program_step l3 b a 3 (omega arith) (omega arith)
    ∙ program_end (put l3 b a 3) b a 4 (omega arith))

-- a part of the image is filled
filled : (l new : List ℕ) (a n : ℕ) → a + n ≤ length l
    → new ≡ replicate (length (take (a + n - a) (drop a l))) 255
    → put_mid a (a + n - a) l new ≡ splice l a (replicate n 255)
unfolding splice
filled l new a n h e =
    let k : a + n - a ≡ n = omega arith in
    let m : length (take n (drop a l)) ≡ n = length-take-le n (drop a l) (rw length-drop (omega arith)) in
    let r : new ≡ replicate n 255 = e ∙ rw (k, m) in
    rw (r, k, length-replicate {A = ℕ} n 255, drop-drop n a l)

-- the bytes that the power allows are programmed, and it pays for them
pub wrote_some : (l l' b : List ℕ) (p p' at m : ℕ) → length b < 18446744073709551616 → m ≡ min p (length b)
    → l' ≡ program l at (take m b) → p' ≡ spend p m → Wrote l p l' p' at b
unfolding spend taken
wrote_some l l' b p p' at m h e f g = go (leb endless p) refl
  where
    go : (c : Bool) → leb endless p ≡ c → Wrote l p l' p' at b
    go true k =
        let d = leb-true endless p k in
        record { is = f ∙ rw (k, take_all m b (omega arith)); left = g ∙ rw k }
    go false k =
        let d = leb-false endless p k in
        let t : take m b ≡ take p b = rw e (short (leb p (length b)) refl) in
        record { is = f ∙ rw (k, t); left = g ∙ rw k (omega arith) }
      where
        short : (c : Bool) → leb p (length b) ≡ c → take (min p (length b)) b ≡ take p b
        short true q = let z : min p (length b) ≡ p = omega (arith, leb-true p (length b) q) in rw z
        short false q =
            let r = leb-false p (length b) q in
            rw (take_all (min p (length b)) b (omega arith), take_all p b (omega arith))

-- with a unit of power an erase is done; without one it is not begun, and nothing is left
pub erased : (l new : List ℕ) (a n p : ℕ) → 0 < p → a + n ≤ length l
    → new ≡ replicate (length (take (a + n - a) (drop a l))) 255
    → put_mid a (a + n - a) l new ≡ pick (lasts p 1) (splice l a (replicate n 255)) l
erased l new a n p h g e = rw (lasts_le p 1 h) (filled l new a n g e)

pub not_begun : (l l' : List ℕ) (p : ℕ) → p ≤ 0 → pick (lasts p 1) l' l ≡ l
not_begun l l' p h = let z : p ≡ 0 = omega arith in rw (z, lasts-none)

pub none_left : (p : ℕ) → p ≤ 0 → spend p 1 ≡ p
none_left p h = let z : p ≡ 0 = omega arith in rw (z, spend-none 1)
