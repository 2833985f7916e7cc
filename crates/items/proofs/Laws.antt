-- Laws of readings and scans, in the form that the code's loops ask.
use mathlib.Core.Path.{◌≡◌, refl, ap, sym, ◌∙◌}
use Prim.Native.Nat.{ℕ, suc, ◌+◌, ◌-◌, ◌≤◌, ◌<◌}
use native.Mathlib.Omega.{arith}
use mathlib.Core.Bool.{false, true, Bool}
use mathlib.Core.List.{List, [], ◌∷◌}
use lib.Dec.{leb, eqb}
use lib.ListN.{length, take, drop, length-drop}
use lib.Seq.{length-take-le, drop-drop}
use borrow.Author.Tests.{ne_eqb, eq-eqb}
use Rattle.rules.specs.declared.Kind.TheVariants.{Present, Damaged}
use Rattle.rules.specs.Bytes.{pick, both, zeros, of_le}
use Rattle.laws.specs.Splice.{drop-take}
use Rattle.rules.specs.Items.{Entry, stop, skip, item, Item, read, item_of, is_present, presents, scan, cons_e, size}
use Rattle.laws.specs.Reading.{le_size}
use Rattle.laws.specs.Scans.{scan-stop, scan-skip, scan-item, scan_fuel}
use Rattle.rules.specs.Fetch.{Found, corrupt, missing, found, or_else, last_with}
use Rattle.items.specs.declared.Read.{Read}
use Rattle.items.specs.declared.Read.TheVariants.{End, Skip}
use Rattle.items.specs.declared.Read.TheVariants as rd
use Rattle.std.specs.Prelude.{Option, None, Some, Result, Ok, Err}
use Rattle.items.specs.declared.{Spot.Spot, Corrupt.Corrupt}
use Rattle.items.specs.Code.{part, told, counts, scan_in, read_of, Fine, Stays}

pub long_part : (img : List ℕ) (a e : ℕ) → e ≤ length img → length (part img a e) ≡ e - a
long_part img a e h = length-take-le (e - a) (drop a img) (rw length-drop (omega arith))

-- ---- one item

module _ (s : List ℕ) (L C z : ℕ) (hC : C ≡ of_le (take 4 (drop 4 s))) (n0 : C ≡ 0 → ⊥) (hz : z ≡ zeros (take (8 + L - 8) (drop 8 s))) where
  pub kind_no : (C ≡ z + 1 → ⊥) → Damaged ≡ (item_of s L).kind
  kind_no n =
      let q : 8 + L - 8 ≡ L = omega arith in
      let hz' = rw q at hz in
      rw (← hC, ne_eqb _ _ n0, ← hz', ne_eqb _ _ n)

  pub kind_yes : C ≡ z + 1 → 8 + L ≤ length s → pick (leb 4 L) Present Damaged ≡ (item_of s L).kind
  kind_yes e h =
      let q : 8 + L - 8 ≡ L = omega arith in
      let hz' = rw q at hz in
      let l : length (take L (drop 8 s)) ≡ L = length-take-le L (drop 8 s) (rw length-drop (omega arith)) in
      rw (← hC, ne_eqb _ _ n0, ← hz', eq-eqb _ _ e, l)

-- ---- searches as the code tells them

-- a search's answer, or else b where it found nothing
abbrev pub or_best : Result (Option Spot) Corrupt → Option Spot → Result (Option Spot) Corrupt
or_best (Err e) b = Err e
or_best (Ok None) b = Ok b
or_best (Ok (Some s)) b = Ok (Some s)

-- the entry, where it counts for the key
abbrev one : ℕ → Entry → Option Spot → Option Spot
one k e b = pick (counts k e.it) (Some (record { at = e.at; len = e.it.len })) b

or_step : (k : ℕ) (e : Entry) (es : List Entry) (b : Option Spot)
    → or_best (told (last_with k (presents (e ∷ es)))) b ≡ or_best (told (last_with k (presents es))) (one k e b)
or_step k e es b = go (is_present e.it.kind)
  where
    found_first : (x : Found) (t : Bool)
        → or_best (told (or_else x (pick t (found e) missing))) b
        ≡ or_best (told x) (pick (both true t) (Some (record { at = e.at; len = e.it.len })) b)
    found_first corrupt t = refl
    found_first missing true = refl
    found_first missing false = refl
    found_first (found f) t = refl

    go : (p : Bool)
        → or_best (told (last_with k (pick p (e ∷ presents es) (presents es)))) b
        ≡ or_best (told (last_with k (presents es)))
        (pick (both p (eqb e.it.key k)) (Some (record { at = e.at; len = e.it.len })) b)
    go true = found_first (last_with k (presents es)) (eqb e.it.key k)
    go false = refl

-- ---- the scan from a place to the end of the area

module _ (w : ℕ) (hw : 0 < w) (img : List ℕ) (e : ℕ) (he : e ≤ length img) where
  pub part-drop : (a k : ℕ) → drop k (part img a e) ≡ part img (a + k) e
  part-drop a k =
      let z : e - a - k ≡ e - (a + k) = omega arith in
      rw (drop-take k (e - a) (drop a img), drop-drop k a img, z)

  pub in_none : (a : ℕ) → e ≤ a → scan_in w img a e ≡ record { items = []; end = a }
  unfolding scan
  in_none a h = let z : e - a ≡ 0 = omega arith in rw z

  pub in_stop : (a : ℕ) → a < e → read w (part img a e) ≡ stop → scan_in w img a e ≡ record { items = []; end = a }
  in_stop a h r = let z : e - a ≡ suc (e - (a + 1)) = omega arith in ap (λ (f : ℕ). scan w f a (part img a e)) z ∙ scan-stop w (e - (a + 1)) a (part img a e) r

  refuel : (a k : ℕ) → 0 < k → scan w (e - (a + 1)) (a + k) (drop k (part img a e)) ≡ scan_in w img (a + k) e
  refuel a k h =
      let l = long_part img (a + k) e he in
      rw (part-drop a k) (scan_fuel w hw (e - (a + 1)) (e - (a + k)) (a + k) (part img (a + k) e) (omega arith) (omega arith))

  pub in_skip : (a : ℕ) → a < e → read w (part img a e) ≡ skip → scan_in w img a e ≡ scan_in w img (a + w) e
  in_skip a h r =
      let z : e - a ≡ suc (e - (a + 1)) = omega arith in
      ap (λ (f : ℕ). scan w f a (part img a e)) z ∙ scan-skip w (e - (a + 1)) a (part img a e) r ∙ refuel a w hw

  pub in_item : (a : ℕ) (i : Item) → a < e → read w (part img a e) ≡ item i
      → scan_in w img a e ≡ cons_e (record { at = a; it = i }) (scan_in w img (a + size w i.len) e)
  in_item a i h r =
      let z : e - a ≡ suc (e - (a + 1)) = omega arith in
      let g : 0 < size w i.len = omega (arith, le_size w i.len hw) in
      ap (λ (f : ℕ). scan w f a (part img a e)) z ∙ scan-item w (e - (a + 1)) a (part img a e) i r
      ∙ ap (cons_e (record { at = a; it = i })) (refuel a (size w i.len) g)

  -- the same by what the code was told, r
  module _ (a : ℕ) (r : Read) (h : a < e) (q : read_of (part img a e) r ≡ read w (part img a e)) where
    pub by_end : r ≡ End → scan_in w img a e ≡ record { items = []; end = a }
    by_end t = in_stop a h (sym (rw t at q))

    pub by_skip : r ≡ Skip → scan_in w img a e ≡ scan_in w img (a + w) e
    by_skip t = in_skip a h (sym (rw t at q))

    pub by_item : (L : ℕ) → r ≡ rd.Item L → scan_in w img a e ≡ cons_e (record { at = a; it = item_of (part img a e) L }) (scan_in w img (a + size w L) e)
    by_item L t = in_item a (item_of (part img a e) L) h (sym (rw t at q))

    -- the best item so far, b, with one more
    pub best_step : (k L : ℕ) (b : Option Spot) (X : Result (Option Spot) Corrupt) → r ≡ rd.Item L
        → or_best (told (last_with k (presents (scan_in w img a e).items))) b ≡ X
        → or_best (told (last_with k (presents (scan_in w img (a + size w L) e).items)))
        (pick (counts k (item_of (part img a e) L)) (Some (record { at = a; len = L })) b) ≡ X
    best_step k L b X t x =
        let x' = rw (by_item L t) at x in
        sym (or_step k (record { at = a; it = item_of (part img a e) L }) (scan_in w img (a + size w L) e).items b) ∙ x'

pub fine_stays : (w : ℕ) (img : List ℕ) (a e : ℕ) (r : Read) → w ≤ 8 → a ≤ e → e ≤ length img → Fine w (length (part img a e)) r → Stays w a e r
fine_stays w img a e End h8 h he f = tt
fine_stays w img a e Skip h8 h he f = omega (arith, long_part img a e he)
fine_stays w img a e (rd.Item L) h8 h he f = let l = long_part img a e he in (omega arith, omega arith, omega arith)
