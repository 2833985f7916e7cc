-- What a scan or a search gives: a value 12 bytes on, 4 bytes shorter than the data, that lies in the image.
use Rattle.std.specs.Prelude.{◌≡◌, refl, ℕ, zero, suc, ◌+◌, ◌-◌, ◌/◌, ◌%◌, ◌≤◌, ◌<◌, Bool, true, false, List, [], ◌∷◌, length, drop, leb, ltb, eqb}
use Rattle.std.proofs.Common.{sym, ap, ◌∙◌, length-drop, length-take, drop-drop, arith}
use Rattle.std.proofs.Math.ListN.{take}
use Rattle.rules.specs.declared.{Geo.Geo, PageState.TheVariants.Open, PageState.TheVariants.PartialOpen, PageState.TheVariants.Closed}
use Rattle.rules.specs.Bytes.{pick, both, of_le}
use Rattle.rules.specs.Items.{Item, is_present, Reading, stop, skip, item, len_of, data_of, item_of, size, read, Entry, scan, presents}
use Rattle.rules.specs.Pages.{same, state, scan_of, items_of, area_len, data_at, area, first_page, is_page, prev, ring_down}
use Rattle.rules.specs.Fetch.{Found, corrupt, missing, found, or_else, last_with, hit_item, search_closed, search_in, search_from, newest, hit}
use Rattle.rules.specs.Sound.{All}
use Rattle.laws.specs.Lists.{All-zip}
use Rattle.laws.specs.Splice.{drop-take}
use Rattle.laws.specs.Reading.{le_size, read_item_inv, present_long}
use Rattle.laws.specs.Scans.{scan-stop, scan-skip, scan-item}
use Rattle.laws.specs.Entries.{All-presents, presents_are}

abbrev pub Plain : Item → Type 0
Plain i = (i.voff ≡ 12) × (i.vlen ≡ i.len - 4)

item-plain : (s : List ℕ) (L : ℕ) (i : Item) → item_of s L ≡ i → Plain i
item-plain s L i q = (sym (ap (λ (j : Item). j.voff) q), sym (ap (λ (j : Item). j.vlen) q) ∙ ap (λ (j : Item). j.len - 4) q)

read_plain : (w : ℕ) (s : List ℕ) (i : Item) → read w s ≡ item i → Plain i
read_plain w s i e = item-plain s _ i (read_item_inv w s i e).2

pub scan-plain : (w f a : ℕ) (s : List ℕ) → All (λ x. Plain x.it) (scan w f a s).items
unfolding scan
scan-plain w zero a s = tt
scan-plain w (suc f) a s = go (read w s) refl (λ b t. scan-plain w f b t)
  where
    go : (r : Reading) → read w s ≡ r → ((b : ℕ) (t : List ℕ) → All (λ x. Plain x.it) (scan w f b t).items) → All (λ x. Plain x.it) (scan w (suc f) a s).items
    go stop e ih = rw (scan-stop w f a s e) tt
    go skip e ih = rw (scan-skip w f a s e) (ih (a + w) (drop w s))
    go (item i) e ih = rw (scan-item w f a s i e) (read_plain w s i e, ih (a + size w i.len) (drop (size w i.len) s))

-- ---- an item and its value lie in the image

abbrev pub Within : ℕ → List ℕ → Entry → Type 0
Within w img e = (e.at + size w e.it.len ≤ length img) × (e.at + e.it.voff + e.it.vlen ≤ length img)

abbrev Inside : ℕ → List ℕ → List Entry → Type 0
Inside w img es = All (λ e. is_present e.it.kind ≡ true → Within w img e) es

read_within : (w : ℕ) → 0 < w → (img : List ℕ) (a m : ℕ) (i : Item) → read w (take m (drop a img)) ≡ item i → is_present i.kind ≡ true
    → Within w img (record { at = a; it = i })
read_within w hw img a m i e pr =
    let s = take m (drop a img) in
    let v = read_item_inv w s i e in
    let q = item-plain s _ i v.2 in
    let n : i.len ≡ len_of s = v.3 in
    let z = le_size w (len_of s) hw in
    let l = length-take m (drop a img) in
    let d = length-drop a img in
    let four : 4 ≤ length (data_of s (len_of s)) = present_long (of_le (take 4 (drop 4 s))) (data_of s (len_of s)) (ap (λ (j : Item). is_present j.kind) v.2 ∙ pr) in
    let k = length-take (len_of s) (drop 8 s) in
    let fits : size w i.len ≤ length s = rw n v.1 in
    (omega arith, omega (arith, v.1, q.0, q.1))

scan_within : (w : ℕ) → 0 < w → (img : List ℕ) (f a m : ℕ) → Inside w img (scan w f a (take m (drop a img))).items
unfolding scan
scan_within w hw img zero a m = tt
scan_within w hw img (suc f) a m = go (read w s) refl (λ b n. scan_within w hw img f b n)
  where
    s : List ℕ
    s = take m (drop a img)

    rest : (k : ℕ) → drop k s ≡ take (m - k) (drop (a + k) img)
    rest k = drop-take k m (drop a img) ∙ ap (take (m - k)) (drop-drop k a img)

    go : (r : Reading) → read w s ≡ r → ((b n : ℕ) → Inside w img (scan w f b (take n (drop b img))).items) → Inside w img (scan w (suc f) a s).items
    go stop e ih = rw (scan-stop w f a s e) tt
    go skip e ih = rw (scan-skip w f a s e, rest w) (ih (a + w) (m - w))
    go (item i) e ih =
        let z = size w i.len in
        rw (scan-item w f a s i e, rest z) (λ pr. read_within w hw img a m i e pr, ih (a + z) (m - z))

-- the Present ones of a scan
pub presents_within : (w : ℕ) → 0 < w → (img : List ℕ) (f a m : ℕ) → All (Within w img) (presents (scan w f a (take m (drop a img))).items)
presents_within w hw img f a m =
    let es = (scan w f a (take m (drop a img))).items in
    All-zip (λ e. is_present e.it.kind ≡ true → Within w img e) (λ e. is_present e.it.kind ≡ true) (Within w img) (presents es) (λ e h pr. h pr)
    (All-presents (λ e. is_present e.it.kind ≡ true → Within w img e) es (scan_within w hw img f a m)) (presents_are es)

-- ---- what a search finds has what each item of a page and each item at a place has

abbrev pub FoundIs : (Entry → Type 0) → Found → Type 0
FoundIs P corrupt = Unit {0}
FoundIs P missing = Unit {0}
FoundIs P (found e) = P e

module _ (P : Entry → Type 0) where
  or_is : (x y : Found) → FoundIs P x → FoundIs P y → FoundIs P (or_else x y)
  or_is corrupt y h k = tt
  or_is missing y h k = k
  or_is (found e) y h k = h

  pick_is : (b : Bool) (x y : Found) → FoundIs P x → FoundIs P y → FoundIs P (pick b x y)
  pick_is true x y h k = h
  pick_is false x y h k = k

  last_is : (k : ℕ) (es : List Entry) → All P es → FoundIs P (last_with k es)
  last_is k [] h = tt
  last_is k (e ∷ es) h =
      or_is (last_with k es) (pick (eqb e.it.key k) (found e) missing) (last_is k es h.1) (pick_is (eqb e.it.key k) (found e) missing h.0 tt)

  module _ (G : Geo) (img : List ℕ) (k : ℕ) where
    closed_is : ((p : ℕ) → All P (items_of G img p)) → (ps : List ℕ) → FoundIs P (search_closed G img k ps)
    closed_is each [] = tt
    closed_is each (p ∷ ps) =
        pick_is (same Closed (state G img p)) (or_else (last_with k (items_of G img p)) (search_closed G img k ps)) missing
        (or_is (last_with k (items_of G img p)) (search_closed G img k ps) (last_is k (items_of G img p) (each p)) (closed_is each ps)) tt

    in_is : ((p : ℕ) → All P (items_of G img p)) → (ps : List ℕ) → FoundIs P (search_in G img k ps)
    in_is each [] = tt
    in_is each (p ∷ ps) = or_is (last_with k (items_of G img p)) (search_closed G img k ps) (last_is k (items_of G img p) (each p)) (closed_is each ps)

    newest_has : ((p : ℕ) → All P (items_of G img p)) → FoundIs P (newest G img k)
    unfolding newest
    newest_has each =
        let p = first_page G PartialOpen img in
        let o = first_page G Open img in
        let q = pick (same Closed (state G img (prev G o))) (search_from G img k (prev G o)) missing in
        pick_is (is_page G p) (search_from G img k p) (pick (is_page G o) q corrupt) (in_is each (ring_down G p))
        (pick_is (is_page G o) q corrupt (pick_is (same Closed (state G img (prev G o))) (search_from G img k (prev G o)) missing (in_is each (ring_down G (prev G o))) tt) tt)

    at_is : (a : ℕ) (s : List ℕ) → ((i : Item) → read G.word s ≡ item i → is_present i.kind ≡ true → P (record { at = a; it = i }))
        → (r : Reading) → read G.word s ≡ r → FoundIs P (hit_item k a r)
    at_is a s each stop e = tt
    at_is a s each skip e = tt
    at_is a s each (item i) e = go (is_present i.kind) refl
      where
        go : (b : Bool) → is_present i.kind ≡ b → FoundIs P (pick (both b (eqb i.key k)) (found (record { at = a; it = i })) missing)
        go true q = pick_is (eqb i.key k) (found (record { at = a; it = i })) missing (each i e q) tt
        go false q = tt

    hit_has : (a : ℕ) → ((m : ℕ) (i : Item) → read G.word (take m (drop a img)) ≡ item i → is_present i.kind ≡ true → P (record { at = a; it = i }))
        → FoundIs P (hit G img k a)
    unfolding hit
    hit_has a each =
        let r = a % G.page in
        let s = take (G.page - G.word - r) (drop a img) in
        pick_is (both (ltb (a / G.page) G.pages) (both (leb G.word r) (both (leb r (G.page - G.word)) (eqb (r % G.word) 0))))
        (hit_item k a (read G.word s)) missing (at_is a s (each (G.page - G.word - r)) (read G.word s) refl) tt

abbrev pub FoundPlain : Found → Type 0
FoundPlain x = FoundIs (λ e. Plain e.it) x

module _ (G : Geo) (img : List ℕ) (k : ℕ) where
  pub newest-plain : FoundPlain (newest G img k)
  unfolding scan_of
  newest-plain =
      newest_has (λ e. Plain e.it) G img k (λ p. All-presents (λ x. Plain x.it) (scan_of G img p).items (scan-plain G.word (area_len G) (data_at G p) (area G img p)))

  pub hit-plain : (a : ℕ) → FoundPlain (hit G img k a)
  hit-plain a = hit_has (λ e. Plain e.it) G img k a (λ m i e pr. read_plain G.word (take m (drop a img)) i e)

  pub newest_within : 0 < G.word → FoundIs (Within G.word img) (newest G img k)
  unfolding scan_of
  newest_within hw = newest_has (Within G.word img) G img k (λ p. presents_within G.word hw img (area_len G) (data_at G p) (area_len G))

  pub hit_within : 0 < G.word → (a : ℕ) → FoundIs (Within G.word img) (hit G img k a)
  hit_within hw a = hit_has (Within G.word img) G img k a (λ m i e pr. read_within G.word hw img a m i e pr)
