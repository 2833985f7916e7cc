-- Any four bytes in place of an item's check word: that item has another kind, and the rest of the scan stays.
use Rattle.std.specs.Prelude.{◌≡◌, ◌≢◌, ◌⊎◌, Bool, true, false, take, drop, eqb, ltb}
use Rattle.std.proofs.Math.Path.{refl}
use Rattle.std.proofs.Common.{sym, ap, ◌∙◌, subst, inl, inr, length-drop, take-append-drop, take-take, take-add, length-take-le, eqb-true, eq-eqb, ne_eqb}
use Prim.Native.Nat.{ℕ, zero, suc, ◌+◌, ◌-◌, ◌≤◌, ◌<◌}
use mathlib.Core.List.{List, [], ◌∷◌, ◌++◌}
use Rattle.std.proofs.Math.ListN.{length}
use native.Mathlib.Omega.{arith}
use Rattle.rules.specs.Bytes.{pick, both, all_ff, of_le, splice}
use Rattle.laws.specs.Splice.{win_exact, win_before, length-splice, drop-after, drop-splice}
use Rattle.rules.specs.declared.{Kind.Kind, Kind.TheVariants.Present, Kind.TheVariants.Removed, Kind.TheVariants.Damaged}
use Rattle.rules.specs.Items.{Item, is_present, presents, kind_of, Entry, Scan, Reading, stop, skip, item, read, size, len_of, item_of, data_of, scan, cons_e}
use Rattle.laws.specs.ByteLaws.{all_ff-append}
use Rattle.laws.specs.Reading.{same-skip, inv_item, read_long, read_item_inv, read_item_keep, le_size}
use Rattle.laws.specs.Encoding.{all-item}
use Rattle.laws.specs.Scans.{scan_end_ge, scan-stop, scan-skip, scan-item}
use Rattle.rules.specs.Sound.{All}
use Rattle.laws.specs.Lists.{All_right}
use Rattle.laws.specs.Entries.{scan-ok, Sorted, All-presents}

abbrev pub with_kind : Kind → Item → Item
with_kind κ i = record { kind = κ; len = i.len; key = i.key; voff = i.voff; vlen = i.vlen; val = i.val }

-- a header whose halves agree is not blank
all_ff4 : (s : List ℕ) → 8 ≤ length s → eqb (len_of s + of_le (take 2 (drop 2 s))) 65535 ≡ true → all_ff (take 4 s) ≡ false
all_ff4 [] h e = absurd (omega arith)
all_ff4 (a ∷ []) h e = absurd (omega arith)
all_ff4 (a ∷ (b ∷ [])) h e = absurd (omega arith)
all_ff4 (a ∷ (b ∷ (c ∷ []))) h e = absurd (omega arith)
all_ff4 (a ∷ (b ∷ (c ∷ (d ∷ s)))) h e = go (eqb a 255) refl (eqb b 255) refl (eqb c 255) refl (eqb d 255) refl
  where
    go : (x : Bool) → eqb a 255 ≡ x → (y : Bool) → eqb b 255 ≡ y → (z : Bool) → eqb c 255 ≡ z → (t : Bool) → eqb d 255 ≡ t → both x (both y (both z (both t true))) ≡ false
    go false x₁ y y₁ z z₁ t t₁ = refl
    go true x₁ false y₁ z z₁ t t₁ = refl
    go true x₁ true y₁ false z₁ t t₁ = refl
    go true x₁ true y₁ true z₁ false t₁ = refl
    go true x₁ true y₁ true z₁ true t₁ =
        let p = eqb-true a 255 x₁ in
        let q = eqb-true b 255 y₁ in
        let r = eqb-true c 255 z₁ in
        let u = eqb-true d 255 t₁ in
        let k = eqb-true (len_of (a ∷ (b ∷ (c ∷ (d ∷ s)))) + of_le (take 2 (drop 2 (a ∷ (b ∷ (c ∷ (d ∷ s))))))) 65535 e in
        absurd (omega arith)

-- a skip whose first eight bytes stay
pub skip_agree : (w : ℕ) (s t : List ℕ) → length t ≡ length s → take 8 t ≡ take 8 s → read w s ≡ skip → read w t ≡ skip
unfolding read
skip_agree w s t l e h =
    let a : len_of t ≡ len_of s = ap of_le (sym (take-take 2 8 t (omega arith)) ∙ ap (take 2) e ∙ take-take 2 8 s (omega arith)) in
    let b : take 2 (drop 2 t) ≡ take 2 (drop 2 s) = two t ∙ ap (λ (x : List ℕ). take 2 (drop 2 x)) e ∙ sym (two s) in
    same-skip _ _ _ _ _ _ _ _ _ _ h
    (ap (λ (n : ℕ). ltb n 8) l) (ap all_ff e) (rw (a, b)) (rw (a, l))
  where
    two : (x : List ℕ) → take 2 (drop 2 x) ≡ take 2 (drop 2 (take 8 x))
    two [] = refl
    two (a ∷ []) = refl
    two (a ∷ (b ∷ [])) = refl
    two (a ∷ (b ∷ (c ∷ []))) = refl
    two (a ∷ (b ∷ (c ∷ (d ∷ x)))) = refl

-- the item itself
pub read_check : (w : ℕ) (s : List ℕ) (i : Item) (y : List ℕ) → length y ≡ 4 → 8 ≤ length s → read w s ≡ item i
    → read w (splice s 4 y) ≡ item (with_kind (kind_of (of_le y) (data_of s (len_of s))) i)
unfolding read
read_check w s i y ly h e =
    let t = splice s 4 y in
    let fit : 4 + length y ≤ length s = omega arith in
    let v = inv_item _ _ _ _ _ _ e in
    let l : length t ≡ length s = length-splice s 4 y fit in
    let a : take 2 t ≡ take 2 s = win_before s 4 y fit 0 2 (omega arith) in
    let b : take 2 (drop 2 t) ≡ take 2 (drop 2 s) = win_before s 4 y fit 2 2 (omega arith) in
    let f : take 4 t ≡ take 4 s = win_before s 4 y fit 0 4 (omega arith) in
    let c : take 4 (drop 4 t) ≡ y = win_exact s 4 y fit 4 ly in
    let d : drop 8 t ≡ drop 8 s = drop-after s 4 y fit 8 (omega arith) in
    let it : item_of t (len_of t) ≡ with_kind (kind_of (of_le y) (data_of s (len_of s))) i = rw (a, c, d) (ap (with_kind (kind_of (of_le y) (data_of s (len_of s)))) v.4) in
    let ag : eqb (len_of s + of_le (take 2 (drop 2 s))) 65535 ≡ true = v.2 in
    all-item _ _ _ _ _ _
    (ap (λ (n : ℕ). ltb n 8) l ∙ v.0)
    (rw (take-add 4 4 t, all_ff-append (take 4 t) (take 4 (drop 4 t)), f, all_ff4 s h ag))
    (ap (λ (x : List ℕ). eqb (of_le x + of_le (take 2 (drop 2 t))) 65535) a ∙ ap (λ (x : List ℕ). eqb (of_le (take 2 s) + of_le x) 65535) b ∙ v.2)
    (rw (a, l) v.3)
    it

-- an entry stands at q
abbrev pub In : ℕ → List Entry → Type 0
In q [] = ⊥
In q (e ∷ es) = (e.at ≡ q) ⊎ In q es

pub in_all : (P : ℕ → Type 0) (q : ℕ) (es : List Entry) → All (λ e. P e.at) es → In q es → P q
in_all P q [] h x = absurd x
in_all P q (e ∷ es) h (inl x) = subst P x h.0
in_all P q (e ∷ es) h (inr x) = in_all P q es h.1 x

-- the entry at q has the kind κ
abbrev pub mark_as : ℕ → Kind → List Entry → List Entry
mark_as q κ [] = []
mark_as q κ (e ∷ es) = pick (eqb e.at q) (record { at = e.at; it = with_kind κ e.it } ∷ es) (e ∷ mark_as q κ es)

module _ (w : ℕ) (hw : 4 ≤ w) (h8 : w ≤ 8) (q : ℕ) (y : List ℕ) (ly : length y ≡ 4) where
  abbrev pub as_scan : Kind → Scan → Scan
  as_scan κ r = record { items = mark_as q κ r.items; end = r.end }

  abbrev pub Marked : ℕ → ℕ → List ℕ → Type 0
  Marked f a s = (κ : Kind) × (scan w f a (splice s (q - a + 4) y) ≡ as_scan κ (scan w f a s)) × ((d : List ℕ) × (κ ≡ kind_of (of_le y) d))

  w₊ : 0 < w
  w₊ = omega arith

  -- the entry at q is not the first
  next : (f a k : ℕ) (s : List ℕ) → In q (scan w f (a + k) (drop k s)).items → k ≤ length s → (a + k ≤ q) × (q - a + 4 + 4 ≤ length s)
  next f a k s m hk =
      let o = scan-ok w w₊ h8 f (a + k) (drop k s) in
      let l = length-drop k s in
      let lo : a + k ≤ q = in_all (λ x. a + k ≤ x) q (scan w f (a + k) (drop k s)).items o.from m in
      let hi : q + 8 ≤ a + k + length (drop k s) = in_all (λ x. x + 8 ≤ a + k + length (drop k s)) q (scan w f (a + k) (drop k s)).items o.inside m in
      (lo, omega arith)

  pub scan_check : (f a : ℕ) (s : List ℕ) → In q (scan w f a s).items → Marked f a s
  unfolding scan
  scan_check zero a s m = absurd m
  scan_check (suc f) a s m = go (read w s) refl (λ b t. scan_check f b t) m
    where
      go : (r : Reading) → read w s ≡ r → ((b : ℕ) (t : List ℕ) → In q (scan w f b t).items → Marked f b t)
          → In q (scan w (suc f) a s).items → Marked (suc f) a s
      go stop e ih m = absurd (rw (scan-stop w f a s e) at m)
      go skip e ih m =
          let m' : In q (scan w f (a + w) (drop w s)).items = rw (scan-skip w f a s e) at m in
          let rl = read_long w s e in
          let n = next f a w s m' (omega arith) in
          let lo = n.0 in
          let k = q - a + 4 in
          let hi = n.1 in
          let fit : k + length y ≤ length s = omega (arith, ly) in
          let e' : read w (splice s k y) ≡ skip =
          skip_agree w s (splice s k y) (length-splice s k y fit) (win_before s k y fit 0 8 (omega arith)) e in
          let z : k - w ≡ q - (a + w) + 4 = omega arith in
          let r = ih (a + w) (drop w s) m' in
          (r.0, rw (scan-skip w f a s e, scan-skip w f a (splice s k y) e', drop-splice s k y fit w (omega arith), z) r.1, r.2)
      go (item i) e ih m = at (rw (scan-item w f a s i e) at m)
        where
          v : (all_ff (take 8 s) ≡ false) × (size w (len_of s) ≤ length s) × (item_of s (len_of s) ≡ i) × (i.len ≡ len_of s)
          v = read_item_inv w s i e

          sz : ℕ
          sz = size w i.len

          hs : sz ≤ length s
          hs = rw v.3 v.1

          h8s : 8 ≤ sz
          h8s = omega (arith, le_size w i.len w₊)

          at : (a ≡ q) ⊎ In q (scan w f (a + sz) (drop sz s)).items → Marked (suc f) a s
          at (inl x) =
              let fit : 4 + length y ≤ length s = omega (arith, hs, h8s, ly) in
              let z : q - a + 4 ≡ 4 = omega arith in
              let κ = kind_of (of_le y) (data_of s (len_of s)) in
              let e' : read w (splice s 4 y) ≡ item (with_kind κ i) = read_check w s i y ly (omega (arith, hs, h8s)) e in
              (κ, rw (z, scan-item w f a s i e, scan-item w f a (splice s 4 y) (with_kind κ i) e', drop-after s 4 y fit sz (omega (arith, h8s, ly)), eq-eqb a q x), (data_of s (len_of s), refl))
          at (inr m') =
              let n = next f a sz s m' hs in
              let lo = n.0 in
              let k = q - a + 4 in
              let hi = n.1 in
              let fit : k + length y ≤ length s = omega (arith, ly) in
              let t = splice s k y in
              let tk : take sz t ≡ take sz s = win_before s k y fit 0 sz (omega arith) in
              let es : read w (take sz s ++ drop sz s) ≡ item i = ap (read w) (take-append-drop sz s) ∙ e in
              let lt : length t ≡ length s = length-splice s k y fit in
              let ld : length (drop sz s) ≡ length (drop sz t) = length-drop sz s ∙ ap (λ (x : ℕ). x - sz) (sym lt) ∙ sym (length-drop sz t) in
              let lz : sz ≤ length (take sz s) = rw (length-take-le sz s hs) (omega arith) in
              let e' : read w t ≡ item i =
              ap (read w) (sym (take-append-drop sz t) ∙ ap (λ (x : List ℕ). x ++ drop sz t) tk) ∙ read_item_keep w w₊ (take sz s) (drop sz s) (drop sz t) i ld es lz in
              let z : k - sz ≡ q - (a + sz) + 4 = omega arith in
              let ne : a ≢ q = λ y. absurd (omega (arith, h8s)) in
              let r = ih (a + sz) (drop sz s) m' in
              (r.0, rw (scan-item w f a s i e, scan-item w f a t i e', drop-splice s k y fit sz (omega arith), z, ne_eqb a q ne) (ap (cons_e (record { at = a; it = i })) r.1), r.2)

-- ---- what is Present then

kind_is : (κ : Kind) → is_present κ ≡ true → κ ≡ Present
kind_is Present h = refl
kind_is Removed h = let z : ◌≡◌ {A = ℕ} 0 1 = cc in absurd (omega arith)
kind_is Damaged h = let z : ◌≡◌ {A = ℕ} 0 1 = cc in absurd (omega arith)

same_kind : (i : Item) (κ : Kind) → is_present κ ≡ true → is_present i.kind ≡ true → with_kind κ i ≡ i
same_kind i κ h k = ap (λ (x : Kind). with_kind x i) (kind_is κ h ∙ sym (kind_is i.kind k))

pub presents_as : (κ : Kind) (e : Entry) (ys : List Entry) → is_present e.it.kind ≡ true → (es xs : List Entry) → Sorted es → presents es ≡ xs ++ (e ∷ ys)
    → ((is_present κ ≡ true) × (presents (mark_as e.at κ es) ≡ xs ++ (e ∷ ys))) ⊎ ((is_present κ ≡ false) × (presents (mark_as e.at κ es) ≡ xs ++ ys))
presents_as κ e ys pe [] [] so h = let z : ◌≡◌ {A = ℕ} 0 1 = cc in absurd (omega arith)
presents_as κ e ys pe [] (x ∷ xs) so h = let z : ◌≡◌ {A = ℕ} 0 1 = cc in absurd (omega arith)
presents_as κ e ys pe (f ∷ es) xs so h = go xs (is_present f.it.kind) refl h (λ xs k. presents_as κ e ys pe es xs so.1 k)
  where
    -- e is further on
    ahead : (xs : List Entry) → presents es ≡ xs ++ (e ∷ ys) → f.at ≢ e.at
    ahead xs k q =
        let a = (All_right (λ g. f.at < g.at) xs (e ∷ ys) (rw k at (All-presents (λ g. f.at < g.at) es so.0))).0 in
        omega arith

    Res : List Entry → List Entry → Type 0
    Res l xs = ((is_present κ ≡ true) × (l ≡ xs ++ (e ∷ ys))) ⊎ ((is_present κ ≡ false) × (l ≡ xs ++ ys))

    on : (xs : List Entry) → Res (presents (mark_as e.at κ es)) xs → Res (f ∷ presents (mark_as e.at κ es)) (f ∷ xs)
    on xs (inl r) = inl (r.0, ap (λ (l : List Entry). f ∷ l) r.1)
    on xs (inr r) = inr (r.0, ap (λ (l : List Entry). f ∷ l) r.1)

    here : (b : Bool) → is_present κ ≡ b → f ≡ e → presents es ≡ ys → is_present f.it.kind ≡ true → Res (pick b (record { at = f.at; it = with_kind κ f.it } ∷ presents es) (presents es)) []
    here true q fe r pf = inl (q, λ i. record { at = (fe i).at; it = (same_kind f.it κ q pf ∙ ap (λ (x : Entry). x.it) fe) i } ∷ r i)
    here false q fe r pf = inr (q, r)

    go : (xs : List Entry) (b : Bool) → is_present f.it.kind ≡ b → pick b (f ∷ presents es) (presents es) ≡ xs ++ (e ∷ ys)
        → ((xs : List Entry) → presents es ≡ xs ++ (e ∷ ys) → Res (presents (mark_as e.at κ es)) xs)
        → Res (presents (mark_as e.at κ (f ∷ es))) xs
    go xs false q k ih = rw (ne_eqb f.at e.at (ahead xs k), q) (ih xs k)
    go [] true q k ih =
        let fe : f ≡ e = cc in
        let r : presents es ≡ ys = cc in
        rw (eq-eqb f.at e.at (ap (λ (x : Entry). x.at) fe)) (here (is_present κ) refl fe r q)
    go (x ∷ xs) true q k ih =
        let fx : f ≡ x = cc in
        let r : presents es ≡ xs ++ (e ∷ ys) = cc in
        rw (ne_eqb f.at e.at (ahead xs r), q, ← fx) (on xs (ih xs r))

-- an entry's header and check word stand before the scan's end
pub scan_below : (w : ℕ) → 0 < w → (f a : ℕ) (s : List ℕ) → All (λ e. e.at + 8 ≤ (scan w f a s).end) (scan w f a s).items
unfolding scan
scan_below w hw zero a s = tt
scan_below w hw (suc f) a s = go (read w s) refl (λ b t. scan_below w hw f b t)
  where
    go : (r : Reading) → read w s ≡ r → ((b : ℕ) (t : List ℕ) → All (λ e. e.at + 8 ≤ (scan w f b t).end) (scan w f b t).items) → All (λ e. e.at + 8 ≤ (scan w (suc f) a s).end) (scan w (suc f) a s).items
    go stop e ih = rw (scan-stop w f a s e) tt
    go skip e ih = rw (scan-skip w f a s e) (ih (a + w) (drop w s))
    go (item i) e ih =
        let z = size w i.len in
        rw (scan-item w f a s i e) (omega (arith, scan_end_ge w f (a + z) (drop z s), le_size w i.len hw), ih (a + z) (drop z s))
