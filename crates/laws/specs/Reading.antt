-- Reading: what a reading says of the bytes, and that it stays where the bytes that it reads stay.
use Rattle.std.specs.Prelude.{◌≡◌, refl, ℕ, ◌+◌, ◌≤◌, ◌<◌, Bool, true, false, List, ◌++◌, length, take, drop, replicate, leb, ltb, eqb}
use Rattle.std.proofs.Common.{sym, ap, ◌∙◌, length-append, length-drop, arith, leb-true, le-leb, lt-ltb, le-ltb, ltb-false}
use Rattle.std.proofs.lemmas.List.{length-replicate, take-append-le, drop-append-le}
use Rattle.rules.specs.declared.{Kind.TheVariants.Present, Kind.TheVariants.Removed, Kind.TheVariants.Damaged}
use Rattle.rules.specs.Bytes.{pick, both, all_ff, of_le}
use Rattle.rules.specs.Items.{Item, is_present, kind_of, check_of, stop, skip, item, read_by, read, size, len_of, item_of}
use Rattle.laws.specs.Lists.{both_false, both_true_r}
use Rattle.laws.specs.Splice.{take-append}
use Rattle.laws.specs.Words.{le_round_up}
use Rattle.laws.specs.ByteLaws.{all_ff-append, all_ff-take}

-- ---- what a reading says of the tests

pub inv_item : (a b c d : Bool) (i j : Item) → read_by a b c d i ≡ item j → (a ≡ false) × (b ≡ false) × (c ≡ true) × (d ≡ true) × (i ≡ j)
unfolding read_by
inv_item true b c d i j e = let z : ◌≡◌ {A = ℕ} 0 1 = cc in absurd (omega arith)
inv_item false true c d i j e = let z : ◌≡◌ {A = ℕ} 0 1 = cc in absurd (omega arith)
inv_item false false false d i j e = let z : ◌≡◌ {A = ℕ} 0 1 = cc in absurd (omega arith)
inv_item false false true false i j e = let z : ◌≡◌ {A = ℕ} 0 1 = cc in absurd (omega arith)
inv_item false false true true i j e = (refl, refl, refl, refl, cc)

-- a skip stays a skip, and an item an item of the same length, as long as the tests stay
pub inv_skip : (a b c d : Bool) (i j : Item) → read_by a b c d i ≡ skip → read_by a b c d j ≡ skip
unfolding read_by
inv_skip true b c d i j e = let z : ◌≡◌ {A = ℕ} 0 1 = cc in absurd (omega arith)
inv_skip false true c d i j e = let z : ◌≡◌ {A = ℕ} 0 1 = cc in absurd (omega arith)
inv_skip false false false d i j e = refl
inv_skip false false true false i j e = refl
inv_skip false false true true i j e = let z : ◌≡◌ {A = ℕ} 0 1 = cc in absurd (omega arith)

pub skip_tests : (a b c d : Bool) (i : Item) → read_by a b c d i ≡ skip → (a ≡ false) × (b ≡ false)
unfolding read_by
skip_tests true b c d i e = let z : ◌≡◌ {A = ℕ} 0 1 = cc in absurd (omega arith)
skip_tests false true c d i e = let z : ◌≡◌ {A = ℕ} 0 1 = cc in absurd (omega arith)
skip_tests false false c d i e = (refl, refl)

pub same-skip : (a b c d a' b' c' d' : Bool) (i i' : Item) → read_by a b c d i ≡ skip
    → a' ≡ a → b' ≡ b → c' ≡ c → d' ≡ d → read_by a' b' c' d' i' ≡ skip
same-skip a b c d a' b' c' d' i i' e ea eb ec ed = rw (ea, eb, ec, ed) (inv_skip a b c d i i' e)

-- ---- a reading stays as it is where the bytes that it reads stay

-- the four header bytes of s, as the two numbers
pub head_same : (xs ys zs : List ℕ) → 4 ≤ length xs → (len_of (xs ++ ys) ≡ len_of (xs ++ zs)) × (of_le (take 2 (drop 2 (xs ++ ys))) ≡ of_le (take 2 (drop 2 (xs ++ zs))))
head_same xs ys zs h =
    let h₂ : 2 ≤ length xs = omega arith in
    let h₃ : 2 ≤ length (drop 2 xs) = simp length-drop (omega arith) in (
      rw (take-append-le 2 xs ys, take-append-le 2 xs zs),
      rw (drop-append-le 2 xs ys, drop-append-le 2 xs zs, take-append-le 2 (drop 2 xs) ys, take-append-le 2 (drop 2 xs) zs),
    )

pub length-same : (xs ys zs : List ℕ) → length ys ≡ length zs → length (xs ++ ys) ≡ length (xs ++ zs)
length-same xs ys zs e = simp (length-append, e)

-- eight bytes that are not blank before blank ones are not blank before others
pub not_blank : (xs ys : List ℕ) (m : ℕ) → all_ff (take 8 (xs ++ replicate m 255)) ≡ false → all_ff (take 8 (xs ++ ys)) ≡ false
not_blank xs ys m e =
    let h : all_ff (take 8 xs) ≡ false = simp (take-append, all_ff-append, all_ff-take, both_true_r) at e in
    rw (take-append 8 xs ys, all_ff-append (take 8 xs)) (both_false _ _ h)

pub read_skip_keep : (w : ℕ) (xs ys : List ℕ) (m : ℕ) → 4 ≤ length xs → length ys ≡ m
    → read w (xs ++ replicate m 255) ≡ skip → read w (xs ++ ys) ≡ skip
unfolding read
read_skip_keep w xs ys m h l e =
    let bl : List ℕ = replicate m 255 in
    let le : length (xs ++ ys) ≡ length (xs ++ bl) = length-same xs ys bl (l ∙ sym (length-replicate m 255)) in
    let t = skip_tests _ _ _ _ _ e in
    let hd = head_same xs ys bl h in
    same-skip _ _ _ _ _ _ _ _ _ _ e
    (ap (λ (n : ℕ). ltb n 8) le)
    (not_blank xs ys m t.1 ∙ sym t.1)
    (rw (hd.0, hd.1))
    (rw (le, hd.0))

-- the item that is read depends on its own bytes only
pub item_of-same : (xs ys zs : List ℕ) (L : ℕ) → 8 + L ≤ length xs → item_of (xs ++ ys) L ≡ item_of (xs ++ zs) L
item_of-same xs ys zs L k =
    let h₄ : 4 ≤ length xs = omega arith in
    let h₈ : 8 ≤ length xs = omega arith in
    let g₄ : 4 ≤ length (drop 4 xs) = simp length-drop (omega arith) in
    let g_l : L ≤ length (drop 8 xs) = simp length-drop (omega arith) in
    rw (
      drop-append-le 4 xs ys,
      drop-append-le 4 xs zs,
      drop-append-le 8 xs ys,
      drop-append-le 8 xs zs,
      take-append-le 4 (drop 4 xs) ys,
      take-append-le 4 (drop 4 xs) zs,
      take-append-le L (drop 8 xs) ys,
      take-append-le L (drop 8 xs) zs,
    )

-- ---- sizes

pub le_size : (w L : ℕ) → 0 < w → 8 + L ≤ size w L
unfolding size
le_size w L h = omega (arith, le_round_up w L h)

pub same_item : (a b c d a' b' c' d' : Bool) (i i' j : Item) → read_by a b c d i ≡ item j
    → a' ≡ a → b' ≡ b → c' ≡ c → d' ≡ d → i' ≡ i → read_by a' b' c' d' i' ≡ item j
same_item a b c d a' b' c' d' i i' j e ea eb ec ed ei = rw (ea, eb, ec, ed, ei) e

-- an item that was read, and the tests that let it be read
pub read_item_inv : (w : ℕ) (s : List ℕ) (i : Item) → read w s ≡ item i
    → (all_ff (take 8 s) ≡ false) × (size w (len_of s) ≤ length s) × (item_of s (len_of s) ≡ i) × (i.len ≡ len_of s)
unfolding read
read_item_inv w s i e =
    let t = inv_item _ _ _ _ _ _ e in
    (t.1, leb-true _ _ t.3, t.4, ap (λ (j : Item). j.len) (sym t.4))

pub read_item_keep : (w : ℕ) → 0 < w → (xs ys zs : List ℕ) (i : Item) → length ys ≡ length zs
    → read w (xs ++ ys) ≡ item i → size w i.len ≤ length xs → read w (xs ++ zs) ≡ item i
unfolding read
read_item_keep w hw xs ys zs i l e k =
    let v = read_item_inv w (xs ++ ys) i e in
    let hs : 8 + i.len ≤ length xs = omega (arith, le_size w i.len hw) in
    let h₄ : 4 ≤ length xs = omega arith in
    let h₈ : 8 ≤ length xs = omega arith in
    let le : length (xs ++ zs) ≡ length (xs ++ ys) = length-same xs zs ys (sym l) in
    let hd = head_same xs zs ys h₄ in
    let h_l : 8 + len_of (xs ++ ys) ≤ length xs = rw v.3 at hs in
    same_item _ _ _ _ _ _ _ _ _ _ _ e
    (ap (λ (n : ℕ). ltb n 8) le)
    (rw (take-append-le 8 xs ys, take-append-le 8 xs zs))
    (rw (hd.0, hd.1))
    (rw (le, hd.0))
    (rw hd.0 (item_of-same xs zs ys _ h_l))

-- a blank area: the scan ends
pub read-blank : (w m : ℕ) → read w (replicate m 255) ≡ stop
unfolding read read_by
read-blank w m = rw (all_ff-take 8 m) (stop_any (ltb (length (replicate m 255)) 8))
  where
    stop_any : (a : Bool) → read_by a true (eqb (len_of (replicate m 255) + of_le (take 2 (drop 2 (replicate m 255)))) 65535) (leb (size w (len_of (replicate m 255))) (length (replicate {A = ℕ} m 255))) (item_of (replicate m 255) (len_of (replicate m 255))) ≡ stop
    stop_any true = refl
    stop_any false = refl

pub read_long : (w : ℕ) (s : List ℕ) → read w s ≡ skip → 8 ≤ length s
unfolding read
read_long w s e = ltb-false (length s) 8 (skip_tests _ _ _ _ _ e).0

-- more general than `read_item_keep`: header and data stand, and the item fits
pub read_item_local : (w : ℕ) → 0 < w → (xs ys zs : List ℕ) (i : Item)
    → read w (xs ++ ys) ≡ item i → 8 + i.len ≤ length xs → size w i.len ≤ length (xs ++ zs) → read w (xs ++ zs) ≡ item i
unfolding read
read_item_local w hw xs ys zs i e hs fit =
    let v = read_item_inv w (xs ++ ys) i e in
    let t = inv_item _ _ _ _ _ _ e in
    let h₄ : 4 ≤ length xs = omega arith in
    let h₈ : 8 ≤ length xs = omega arith in
    let hd = head_same xs zs ys h₄ in
    let h_l : 8 + len_of (xs ++ ys) ≤ length xs = rw v.3 at hs in
    let la = length-append xs zs in
    let f : leb (size w (len_of (xs ++ zs))) (length (xs ++ zs)) ≡ true = rw (hd.0, ← v.3) (le-leb _ _ fit) in
    let sh : ltb (length (xs ++ zs)) 8 ≡ false = le-ltb (length (xs ++ zs)) 8 (omega arith) in
    same_item _ _ _ _ _ _ _ _ _ _ _ e
    (sh ∙ sym t.0)
    (rw (take-append-le 8 xs ys, take-append-le 8 xs zs))
    (rw (hd.0, hd.1))
    (f ∙ sym t.3)
    (rw hd.0 (item_of-same xs zs ys _ h_l))

pub read_short : (w : ℕ) (s : List ℕ) → length s < 8 → read w s ≡ stop
unfolding read read_by
read_short w s h = rw (lt-ltb (length s) 8 h)

-- a Present item has a key of its own
pub present_long : (c : ℕ) (d : List ℕ) → is_present (kind_of c d) ≡ true → 4 ≤ length d
present_long c d h = go (eqb c 0) (eqb c (check_of d)) (leb 4 (length d)) refl h
  where
    go : (a b e : Bool) → leb 4 (length d) ≡ e → is_present (pick a Removed (pick (both b e) Present Damaged)) ≡ true → 4 ≤ length d
    go true b e q h = let z : ◌≡◌ {A = ℕ} 0 1 = cc in absurd (omega arith)
    go false true true q h = leb-true 4 (length d) q
    go false true false q h = let z : ◌≡◌ {A = ℕ} 0 1 = cc in absurd (omega arith)
    go false false e q h = let z : ◌≡◌ {A = ℕ} 0 1 = cc in absurd (omega arith)
