-- Whole words, the bytes of an item, and parts of the image.
use mathlib.Core.Path.{◌≡◌, refl, sym, ap, subst, ◌∙◌}
use Prim.Native.Nat.{ℕ, ◌+◌, ◌-◌, ◌*◌, ◌/◌, ◌%◌, ◌≤◌, ◌<◌, min}
use mathlib.Core.Logic.{◌⊎◌, ⊎_elim}
use native.Mathlib.Omega.{arith}
use native.Mathlib.Nat.{add-mod, zero-mod, mod_self, div-add-mod', mod-lt, mul-mod_left}
use mathlib.Core.Bool.{Bool, true, false}
use lib.Dec.{leb}
use borrow.Author.Tests.{leb-true, leb-false}
use borrow.Rule.Slice.PartMut.{put_mid}
use mathlib.Core.List.{List, [], ◌∷◌, ◌++◌}
use lib.ListN.{length, take, drop, replicate, length-append, length-replicate, length-drop, length-take}
use lib.ListN.{take-append-drop, drop_of_length-le}
use lib.Seq.{drop-drop, take-append-le, drop-append-le, length-take-le, take-take, take_at, drop_at, take_all}
use Rattle.std.specs.Int.{w32, count_zeros, to_le_bytes}
use Rattle.std.proofs.lemmas.List.{append_assoc}
use Rattle.std.proofs.Common.{append-nil}
use Rattle.laws.specs.Splice.{take-over, window_replicate, drop-replicate, drop-take}
use Rattle.rules.specs.Bytes.{Bytes, pick, to_le, of_le, round_up, zeros, splice, program, and_all}
use Rattle.rules.specs.Items.{pad, size, check_of, encode, encode_data}
use Rattle.rules.specs.Power.{endless, taken}
use Rattle.laws.specs.Words.{le_round_up, round_up_lt, round_up_words}
use Rattle.laws.specs.Power.{Wrote, wrote_append, wrote_as}
use Rattle.laws.specs.ByteLaws.{length-and_all}
use Rattle.laws.specs.Encoding.{length-pad, of_le_to_le4}
use Rattle.words.proofs.Laws.{multiple_is, zeros_of}
use Rattle.write.specs.Code.{data_bytes}

-- ---- whole words

-- n rounded down to a multiple of w
pub whole_of : (n w : ℕ) → 0 < w → (n / w * w ≤ n) × (n < n / w * w + w) × (n / w * w % w ≡ 0)
whole_of n w h =
    (omega (arith, div-add-mod' n w), omega (arith, div-add-mod' n w, mod-lt n h), mul-mod_left (n / w) w)

-- steps of whole words
on_word : (w i m : ℕ) → i % w ≡ 0 → m % w ≡ 0 → (i + m) % w ≡ 0
on_word w i m h g = add-mod i m w ∙ rw (h, g) (zero-mod w)

-- a whole number of words is rounded up by itself
round_up_more : (w a x : ℕ) → 0 < w → a % w ≡ 0 → round_up w (a + x) ≡ a + round_up w x
round_up_more w a x h g =
    sym (multiple_is w (a + x) (a + round_up w x) h (omega (arith, le_round_up w x h))
    (omega (arith, round_up_lt w x h)) (on_word w a (round_up w x) g (round_up_words w x)))

round_up-none : (w : ℕ) → 0 < w → round_up w 0 ≡ 0
round_up-none w h = sym (multiple_is w 0 0 h (omega arith) (omega arith) (zero-mod w))

round_up_one : (w x : ℕ) → 0 < x → x ≤ w → round_up w x ≡ w
round_up_one w x h g = sym (multiple_is w x w (omega arith) g (omega arith) (mod_self w))

-- a word that is filled
padded_word : (w : ℕ) (x : List ℕ) → length x ≤ w → w ≤ 8
    → take w (x ++ replicate (8 - length x) 255) ≡ x ++ replicate (w - length x) 255
padded_word w x h g =
    rw (take-over w x (replicate (8 - length x) 255) h)
    (ap (λ (y : List ℕ). x ++ y) (window_replicate (8 - length x) 0 (w - length x) 255 (omega arith)))

-- m bytes of bs in whole words, and what is left, less than a word
module _ (w m : ℕ) (bs : List ℕ) (w₊ : 0 < w) (h8 : w ≤ 8) (on : m % w ≡ 0) (le : m ≤ length bs)
    (lt : length bs < m + w) where
  -- nothing is left
  pub whole_all : length bs ≤ m → take m bs ≡ bs ++ pad w (length bs)
  unfolding pad
  whole_all h =
      let q : length bs ≡ m = omega arith in
      let r : round_up w m ≡ m = sym (multiple_is w m m w₊ (omega arith) (omega arith) on) in
      let z : m - m ≡ 0 = omega arith in
      take_all m bs h ∙ sym (rw (q, r, z) (append-nil bs))

  pub last_up : m < length bs → round_up w (length bs) ≡ m + w
  last_up h =
      sym (multiple_is w (length bs) (m + w) w₊ (omega arith) (omega arith) (on_word w m w on (mod_self w)))

  -- the last bytes are a word with padding
  pub whole_last : m < length bs
      → take m bs ++ take w (drop m bs ++ replicate (8 - length (drop m bs)) 255) ≡ bs ++ pad w (length bs)
  unfolding pad
  whole_last h =
      let x : List ℕ = drop m bs in
      let lx : length x ≡ length bs - m = length-drop m bs in
      let n : length x ≤ w = omega arith in
      let r : round_up w (length bs) - length bs ≡ w - length x = omega (arith, last_up h) in
      let word = padded_word w x n h8 in
      rw (word, r, ← append_assoc (take m bs) x (replicate (w - length x) 255), take-append-drop m bs)

  -- the two steps: the whole words, and the last one
  module _ (l front back word : List ℕ) (at : ℕ) (f : front ≡ take m bs) (b : back ≡ drop m bs)
      (e : word ≡ back ++ replicate (8 - length back) 255) (room : at + round_up w (length bs) ≤ length l) where
    pub last_fits : 0 < length back → at + length front + length (take w word) ≤ length l
    last_fits h =
        let lf : length front ≡ m = rw f (length-take-le m bs le) in
        let lb : length back ≡ length bs - m = rw b (length-drop m bs) in
        omega (arith, last_up (omega arith), length-take w word)

    pub wrote_last : (l₁ l₂ : List ℕ) (p p₁ p₂ : ℕ) → 0 < length back → Wrote l p l₁ p₁ at front
        → Wrote l₁ p₁ l₂ p₂ (at + length front) (take w word) → Wrote l p l₂ p₂ at (bs ++ pad w (length bs))
    wrote_last l₁ l₂ p p₁ p₂ h x y =
        let lb : length back ≡ length bs - m = rw b (length-drop m bs) in
        let fits = last_fits h in
        let q : front ++ take w word ≡ bs ++ pad w (length bs) = rw (e, b, f) (whole_last (omega arith)) in
        wrote_as q (wrote_append l l₁ l₂ p p₁ p₂ at (at + length front) front (take w word) x y refl (omega arith))

-- ---- the data of an item

pub length_data : (w k : ℕ) (v : List ℕ) → 4 ≤ w → length (data_bytes w k v) ≡ round_up w (4 + length v)
unfolding data_bytes
length_data w k v hw =
    omega (arith, length-append (to_le 4 k ++ v) (pad w (4 + length v)), length-pad w (4 + length v) (omega arith))

key_bytes : (k : ℕ) → to_le_bytes w32 k ≡ to_le 4 k
key_bytes k =
    let a : k / 65536 % 256 ≡ k / 256 / 256 % 256 = omega arith in
    let b : k / 16777216 % 256 ≡ k / 256 / 256 / 256 % 256 = omega arith in
    rw (a, b)

pub key_zeros : (k : ℕ) → k < 4294967296 → count_zeros w32 k ≡ zeros (to_le 4 k)
key_zeros k h =
    let q : k ≡ of_le (to_le 4 k) = sym (of_le_to_le4 k h) in
    let b : Bytes (to_le 4 k) = (omega arith, (omega arith, (omega arith, (omega arith, tt)))) in
    ap (λ (n : ℕ). count_zeros w32 n) q ∙ zeros_of (to_le 4 k) b 32 refl refl

-- the word that holds the key and what fits behind it, as it is built
pub key_and : (k : ℕ) (bytes word front copied : List ℕ) → bytes ≡ to_le_bytes w32 k
    → word ≡ bytes ++ replicate (8 - length bytes) 255 → copied ≡ front
    → put_mid 4 (4 + length front - 4) word copied ≡ to_le 4 k ++ (front ++ replicate (4 - length front) 255)
key_and k bytes word front copied e f c =
    let w : word ≡ to_le 4 k ++ replicate 4 255 = f ∙ rw (e ∙ key_bytes k) in
    let q : 4 + length front - 4 ≡ length front = omega arith in
    rw (c, w, q, drop-replicate (length front) 4 255)

-- that word and the rest of the value are the data and its padding
module _ (key v : List ℕ) (w n : ℕ) (hw : 4 ≤ w) where
  -- the value goes on behind that word
  long_data : w - 4 ≤ length v → n ≡ w - 4
      → (key ++ (take n v ++ replicate (w - 4 - length (take n v)) 255))
      ++ (drop n v ++ replicate (round_up w (length (drop n v)) - length (drop n v)) 255)
      ≡ (key ++ v) ++ replicate (round_up w (4 + length v) - (4 + length v)) 255
  long_data h e =
      let lt : length (take n v) ≡ n = length-take-le n v (omega arith) in
      let ld : length (drop n v) ≡ length v - n = length-drop n v in
      let z : w - 4 - n ≡ 0 = omega arith in
      let q : 4 + length v ≡ w + length (drop n v) = omega arith in
      let r = round_up_more w w (length (drop n v)) (omega arith) (mod_self w) in
      let p : round_up w (4 + length v) - (4 + length v) ≡ round_up w (length (drop n v)) - length (drop n v) =
      rw (q, r) (omega arith) in
      let P : List ℕ = replicate (round_up w (length (drop n v)) - length (drop n v)) 255 in
      rw (
        lt,
        z,
        append-nil (take n v),
        p,
        ← append_assoc (key ++ take n v) (drop n v) P,
        append_assoc key (take n v) (drop n v),
        take-append-drop n v,
      )

  -- the value ends in it
  short_data : length v < w - 4 → n ≡ length v
      → (key ++ (take n v ++ replicate (w - 4 - length (take n v)) 255))
      ++ (drop n v ++ replicate (round_up w (length (drop n v)) - length (drop n v)) 255)
      ≡ (key ++ v) ++ replicate (round_up w (4 + length v) - (4 + length v)) 255
  short_data h e =
      let t : take n v ≡ v = take_all n v (omega arith) in
      let d : drop n v ≡ [] = drop_of_length-le v (omega arith) in
      let r = round_up_one w (4 + length v) (omega arith) (omega arith) in
      let q : w - 4 - length v ≡ w - (4 + length v) = omega arith in
      let o : round_up w 0 - 0 ≡ 0 = omega (arith, round_up-none w (omega arith)) in
      rw (t, d, r, q, o, append-nil (key ++ (v ++ replicate (w - (4 + length v)) 255)))
      (sym (append_assoc key v (replicate (w - (4 + length v)) 255)))

pub data_is : (w k n : ℕ) (v : List ℕ) → 4 ≤ w → n ≡ min (length v) (w - 4)
    → (to_le 4 k ++ (take n v ++ replicate (w - 4 - length (take n v)) 255)) ++ (drop n v ++ pad w (length (drop n v)))
    ≡ data_bytes w k v
unfolding data_bytes pad
data_is w k n v hw e = go (leb (w - 4) (length v)) refl
  where
    go : (b : Bool) → leb (w - 4) (length v) ≡ b
        → (to_le 4 k ++ (take n v ++ replicate (w - 4 - length (take n v)) 255))
        ++ (drop n v ++ replicate (round_up w (length (drop n v)) - length (drop n v)) 255)
        ≡ (to_le 4 k ++ v) ++ replicate (round_up w (4 + length v) - (4 + length v)) 255
    go true f = let h = leb-true (w - 4) (length v) f in long_data (to_le 4 k) v w n hw h (omega arith)
    go false f = let h = leb-false (w - 4) (length v) f in short_data (to_le 4 k) v w n hw h (omega arith)

-- the first word and the rest of the value are programmed
module _ (w k n : ℕ) (v word front rest : List ℕ) (hw : 4 ≤ w) (h8 : w ≤ 8) (hn : n ≡ min (length v) (w - 4))
    (e : word ≡ to_le 4 k ++ (front ++ replicate (4 - length front) 255)) (f : front ≡ take n v) (r : rest ≡ drop n v)
  where
    short : length (take n v) ≡ n
    short = length-take-le n v (omega arith)

    word_is : take w word ≡ to_le 4 k ++ (take n v ++ replicate (w - 4 - length (take n v)) 255)
    word_is =
        let s = short in
        let x : List ℕ = take n v in
        let key : length (to_le 4 k) ≤ w = omega arith in
        let fits : length x ≤ w - 4 = omega arith in
        rw (
          e,
          f,
          take-over w (to_le 4 k) (x ++ replicate (4 - length x) 255) key,
          take-over (w - 4) x (replicate (4 - length x) 255) fits,
          window_replicate (4 - length x) 0 (w - 4 - length x) 255 (omega arith),
        )

    length_word : length (take w word) ≡ w
    length_word =
        let s = short in
        let lr = length-replicate {A = ℕ} (w - 4 - length (take n v)) 255 in
        let la = length-append (take n v) (replicate (w - 4 - length (take n v)) 255) in
        rw word_is (omega arith)

    data_parts : take w word ++ (rest ++ pad w (length rest)) ≡ data_bytes w k v
    data_parts = rw (word_is, r) (data_is w k n v hw hn)

    data_long : w + round_up w (length rest) ≡ length (data_bytes w k v)
    data_long =
        let b = length_word in
        let la = length-append (take w word) (rest ++ pad w (length rest)) in
        let lp = length-append rest (pad w (length rest)) in
        let ll = length-pad w (length rest) (omega arith) in
        let all = ap length data_parts in
        omega arith

    module _ (l : List ℕ) (at : ℕ) (room : at + length (data_bytes w k v) ≤ length l) where
      pub word_fits : at + length (take w word) ≤ length l
      word_fits = omega (arith, length_word, data_long)

      pub rest_fits : at + w + round_up w (length rest) ≤ length l
      rest_fits = omega (arith, data_long)

      pub data_wrote : (l₁ l₂ : List ℕ) (p p₁ p₂ : ℕ) → Wrote l p l₁ p₁ at (take w word)
          → Wrote l₁ p₁ l₂ p₂ (at + w) (rest ++ pad w (length rest)) → Wrote l p l₂ p₂ at (data_bytes w k v)
      data_wrote l₁ l₂ p p₁ p₂ x y =
          let b = length_word in
          let d = data_long in
          let lp = length-append rest (pad w (length rest)) in
          let ll = length-pad w (length rest) (omega arith) in
          wrote_as data_parts
          (wrote_append l l₁ l₂ p p₁ p₂ at (at + w) (take w word) (rest ++ pad w (length rest)) x y (omega arith)
          (omega arith))

-- ---- an item is its header and its data

abbrev pub head_of : ℕ → ℕ → List ℕ
head_of L C = to_le 2 L ++ (to_le 2 (65535 - L) ++ to_le 4 C)

pub size_data : (w k : ℕ) (v : List ℕ) → 4 ≤ w → size w (4 + length v) ≡ 8 + length (data_bytes w k v)
unfolding size
size_data w k v hw = rw (length_data w k v hw)

zeros-more : (xs ys : List ℕ) → zeros (xs ++ ys) ≡ zeros xs + zeros ys
zeros-more [] ys = omega arith
zeros-more (x ∷ xs) ys = omega (arith, zeros-more xs ys)

item_is : (w k x y : ℕ) (v : List ℕ) → x ≡ zeros (to_le 4 k) → y ≡ zeros v
    → head_of (4 + length v) (x + y + 1) ++ data_bytes w k v ≡ encode w k v
unfolding encode encode_data data_bytes
item_is w k x y v hx hy =
    let l : length (to_le 4 k ++ v) ≡ 4 + length v = omega arith in
    let c : check_of (to_le 4 k ++ v) ≡ x + y + 1 = omega (arith, zeros-more (to_le 4 k) v) in
    rw (l, c)

-- the header, and then the data behind it
pub item_written : (l l₁ l₂ : List ℕ) (p p₁ p₂ at w k x y : ℕ) (H v : List ℕ)
    → Wrote l p l₁ p₁ at H → Wrote l₁ p₁ l₂ p₂ (at + 8) (data_bytes w k v)
    → H ≡ head_of (4 + length v) (x + y + 1) → x ≡ zeros (to_le 4 k) → y ≡ zeros v
    → 4 ≤ w → at + size w (4 + length v) ≤ length l
    → Wrote l p l₂ p₂ at (encode w k v)
item_written l l₁ l₂ p p₁ p₂ at w k x y H v e₁ e₂ hH hx hy hw room =
    let sd = size_data w k v hw in
    let l_h : length H ≡ 8 = ap length hH in
    let r : H ++ data_bytes w k v ≡ encode w k v =
    ap (λ (z : List ℕ). z ++ data_bytes w k v) hH ∙ item_is w k x y v hx hy in
    rw (← r) (wrote_append l l₁ l₂ p p₁ p₂ at (at + 8) H (data_bytes w k v) e₁ e₂ (omega arith) (omega arith))

-- ---- parts of the image

taken_le : (p : ℕ) (bs : List ℕ) → length (taken p bs) ≤ length bs
unfolding taken
taken_le p bs = go (leb endless p)
  where
    go : (b : Bool) → length (pick b bs (take p bs)) ≤ length bs
    go true = omega arith
    go false = rw (length-take p bs) (omega arith)

-- the bytes lie in the first part, or the second begins with them
program-front : (xs ys : List ℕ) (at : ℕ) (bs : List ℕ) → at + length bs ≤ length xs
    → program (xs ++ ys) at bs ≡ program xs at bs ++ ys
unfolding program splice
program-front xs ys at bs h =
    let n : ℕ = length bs in
    let o : List ℕ = take n (drop at xs) in
    let lo : length o ≡ n = length-take-le n (drop at xs) (rw length-drop (omega arith)) in
    let k : n ≤ length (drop at xs) = rw length-drop (omega arith) in
    let la = length-and_all o bs lo in
    let g : at + length (and_all o bs) ≤ length xs = omega arith in
    let f : at ≤ length xs = omega arith in
    rw (
      drop-append-le at xs ys f,
      take-append-le n (drop at xs) ys k,
      take-append-le at xs ys f,
      drop-append-le (at + length (and_all o bs)) xs ys g,
    )
    (ap (λ (z : List ℕ). take at xs ++ z) (sym (append_assoc (and_all o bs) (drop (at + length (and_all o bs)) xs) ys))
    ∙ sym (append_assoc (take at xs) (and_all o bs ++ drop (at + length (and_all o bs)) xs) ys))

program-back : (xs ys bs : List ℕ) (at : ℕ) → at ≡ length xs → program (xs ++ ys) at bs ≡ xs ++ program ys 0 bs
unfolding program splice
program-back xs ys bs at e =
    let n : ℕ = length bs in
    let A : List ℕ = and_all (take n ys) bs in
    let z : 0 + length A ≡ length A = omega arith in
    rw (
      e,
      drop_at xs ys (length xs) refl,
      take_at xs ys (length xs) refl,
      ← drop-drop (length A) (length xs) (xs ++ ys),
      drop_at xs ys (length xs) refl,
      z,
    )

pub wrote_front : (xs xs' ys bs : List ℕ) (p p' at : ℕ) → at + length bs ≤ length xs → Wrote xs p xs' p' at bs
    → Wrote (xs ++ ys) p (xs' ++ ys) p' at bs
wrote_front xs xs' ys bs p p' at h w =
    let t = taken_le p bs in
    record {
      is = ap (λ (z : List ℕ). z ++ ys) w.is ∙ sym (program-front xs ys at (taken p bs) (omega arith));
      left = w.left;
    }

pub wrote_back : (xs ys ys' bs : List ℕ) (p p' at : ℕ) → at ≡ length xs → Wrote ys p ys' p' 0 bs
    → Wrote (xs ++ ys) p (xs ++ ys') p' at bs
wrote_back xs ys ys' bs p p' at e w = record {
  is = ap (λ (z : List ℕ). xs ++ z) w.is ∙ sym (program-back xs ys (taken p bs) at e);
  left = w.left;
}

-- ---- a copy of an item

-- its padding is that of its data
module _ (w len : ℕ) (hw : 4 ≤ w) (h8 : 8 % w ≡ 0) where
  size_is : size w len ≡ round_up w (8 + len)
  unfolding size
  size_is = sym (round_up_more w 8 len (omega arith) h8)

  pad_is : pad w (8 + len) ≡ pad w len
  unfolding pad
  pad_is =
      let r = round_up_more w 8 len (omega arith) h8 in
      let q : round_up w (8 + len) - (8 + len) ≡ round_up w len - len = omega arith in
      rw q

-- the source as it is seen in the part before the target
source_before : (img front : List ℕ) (s n t : ℕ) → front ≡ take t img → s + n ≤ t
    → take (s + n - s) (drop s front) ≡ take n (drop s img)
source_before img front s n t e h =
    let q : s + n - s ≡ n = omega arith in
    rw (e, q, drop-take s t img, take-take n (t - s) (drop s img) (omega arith))

module _ (img front back : List ℕ) (s len t w : ℕ) (hw : 4 ≤ w) (h8 : 8 % w ≡ 0) (hs : s + 8 + len ≤ length img)
    (ht : t + size w len ≤ length img) (apart : (s + 8 + len ≤ t) ⊎ (t + size w len ≤ s)) (parts : img ≡ front ++ back)
  where
    source_long : length (take (8 + len) (drop s img)) ≡ 8 + len
    source_long = length-take-le (8 + len) (drop s img) (rw length-drop (omega arith))

    -- bytes that are the source, with the padding that their length asks, are the copy
    copy_is : (bs : List ℕ) → bs ≡ take (8 + len) (drop s img)
        → bs ++ pad w (length bs) ≡ take (8 + len) (drop s img) ++ pad w len
    copy_is bs e = rw (e, source_long, pad_is w len hw h8)

    copy_long : length (take (8 + len) (drop s img) ++ pad w len) ≡ size w len
    copy_long =
        let x : List ℕ = take (8 + len) (drop s img) in
        let lx = source_long in
        let lp = length-pad w (8 + len) (omega arith) in
        let la = length-append x (pad w (8 + len)) in
        rw (← pad_is w len hw h8) (omega (arith, size_is w len hw h8))

    -- a copy behind its source
    module _ (lt : s < t) (f : front ≡ take t img) (at : length front ≡ t) where
      forth : s + 8 + len ≤ t
      forth = let z = size_is w len hw h8 in ⊎_elim (λ x. x) (λ x. absurd (omega arith)) apart

      source_is : take (s + (8 + len) - s) (drop s front) ≡ take (8 + len) (drop s img)
      source_is = let g = forth in source_before img front s (8 + len) t f (omega arith)

      pub forth_fits : 0 + round_up w (length (take (s + (8 + len) - s) (drop s front))) ≤ length back
      forth_fits =
          let n : length (take (s + (8 + len) - s) (drop s front)) ≡ 8 + len = ap length source_is ∙ source_long in
          rw n (omega (arith, size_is w len hw h8, ap length parts, length-append front back))

      pub copied_forth : (back' : List ℕ) (p p' : ℕ)
          → Wrote back p back' p' 0 (take (s + (8 + len) - s) (drop s front)
          ++ pad w (length (take (s + (8 + len) - s) (drop s front))))
          → Wrote img p (front ++ back') p' t (take (8 + len) (drop s img) ++ pad w len)
      copied_forth back' p p' e =
          let bs : List ℕ = take (8 + len) (drop s img) ++ pad w len in
          let e' : Wrote back p back' p' 0 bs =
          wrote_as (copy_is (take (s + (8 + len) - s) (drop s front)) source_is) e in
          subst (λ (z : List ℕ). Wrote z p (front ++ back') p' t bs) (sym parts)
          (wrote_back front back back' bs p p' t (sym at) e')

    -- a copy before its source
    module _ (le : t ≤ s) (f : back ≡ drop s img) (at : length front ≡ s) where
      before : t + size w len ≤ s
      before = let z = size_is w len hw h8 in ⊎_elim (λ x. absurd (omega arith)) (λ x. x) apart

      pub back_fits : t + round_up w (length (take (8 + len) back)) ≤ length front
      back_fits =
          let g = before in
          let n : length (take (8 + len) back) ≡ 8 + len = rw f source_long in
          rw n (omega (arith, size_is w len hw h8))

      pub copied_back : (front' : List ℕ) (p p' : ℕ)
          → Wrote front p front' p' t (take (8 + len) back ++ pad w (length (take (8 + len) back)))
          → Wrote img p (front' ++ back) p' t (take (8 + len) (drop s img) ++ pad w len)
      copied_back front' p p' e =
          let g = before in
          let bs : List ℕ = take (8 + len) (drop s img) ++ pad w len in
          let l = copy_long in
          let e' : Wrote front p front' p' t bs = wrote_as (copy_is (take (8 + len) back) (ap (take (8 + len)) f)) e in
          subst (λ (z : List ℕ). Wrote z p (front' ++ back) p' t bs) (sym parts)
          (wrote_front front front' back bs p p' t (omega arith) e')
