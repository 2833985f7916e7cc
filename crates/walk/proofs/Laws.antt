-- The walk, in the form that the code's returns and turns ask.
use mathlib.Core.Path.{◌≡◌, refl, sym, ap, ◌∙◌}
use Prim.Native.Nat.{ℕ, suc, ◌+◌, ◌-◌, ◌*◌, ◌≤◌, ◌<◌}
use native.Mathlib.Omega.{arith}
use mathlib.Core.Bool.{Bool, true, false}
use mathlib.Core.List.{List, [], ◌∷◌}
use lib.Dec.{leb}
use lib.ListN.{length}
use borrow.Author.Tests.{ltb-true, leb-true, eq-eqb, ne_eqb}
use Rattle.std.specs.Prelude.{Option, None, Some}
use Rattle.rules.specs.declared.{Geo.Geo, Cursor.Cursor, PageState.PageState, PageState.TheVariants.Open, PageState.TheVariants.PartialOpen, PageState.TheVariants.Closed, PageState.TheVariants.Corrupted}
use Rattle.rules.specs.Held.{Held}
use Rattle.rules.specs.Bytes.{pick, both}
use Rattle.rules.specs.Items.{Entry, Scan, item_of, is_present, size, read, presents}
use Rattle.rules.specs.Pages.{same, state, next, ring_up, is_page, data_at, end_at, items_of}
use Rattle.rules.specs.Sound.{All}
use Rattle.rules.specs.Walk.{Step, ended, head_step, rest_of, later_pages, in_order, walk_step}
use Rattle.laws.specs.Geometry.{page_in}
use Rattle.laws.specs.Entries.{All-presents}
use Rattle.laws.specs.Scans.{scan_fuel}
use Rattle.items.specs.declared.Read.{Read}
use Rattle.items.specs.declared.Read.TheVariants.{End, Skip, Item}
use Rattle.items.specs.declared.Spot.{Spot}
use Rattle.items.specs.Code.{part, read_of, scan_in}
use Rattle.items.proofs.Laws.{long_part, in_none, by_end, by_skip, by_item}
use Rattle.ring.specs.Code.{ups}
use Rattle.ring.proofs.Laws.{scan_is}
use Rattle.walk.specs.declared.Stepped.{Stepped}
use Rattle.walk.specs.Code.{head_spot, told_step, is_listed, page_step}
use Rattle.laws.specs.Plain.{Plain, scan-plain}
use Rattle.walk.proofs.Entry.{Own, own}

-- ---- the first item from a place on: X is the answer from the loop's start

module _ (w : ℕ) (hw : 0 < w) (img : List ℕ) (e : ℕ) (he : e ≤ length img) (a : ℕ) (X : Option Spot)
    (x : head_spot (presents (scan_in w img a e).items) ≡ X) where
  pub first_none : e ≤ a → None ≡ X
  first_none h = rw (in_none w hw img e he a h) at x

  module _ (r : Read) (h : a < e) (q : read_of (part img a e) r ≡ read w (part img a e)) where
    pub first_end : r ≡ End → None ≡ X
    first_end t = rw (by_end w hw img e he a r h q t) at x

    pub first_skip : r ≡ Skip → head_spot (presents (scan_in w img (a + w) e).items) ≡ X
    first_skip t = sym (ap (λ (s : Scan). head_spot (presents s.items)) (by_skip w hw img e he a r h q t)) ∙ x

    module _ (L : ℕ) (b : Bool) (t : r ≡ Item L) (p : b ≡ is_present (item_of (part img a e) L).kind) where
      pub first_at : b ≡ true → Some (record { at = a; len = L }) ≡ X
      first_at y = let z : is_present (item_of (part img a e) L).kind ≡ true = sym p ∙ y in rw (by_item w hw img e he a r h q L t, z) at x

      pub first_on : b ≡ false → head_spot (presents (scan_in w img (a + size w L) e).items) ≡ X
      first_on y = let z : is_present (item_of (part img a e) L).kind ≡ false = sym p ∙ y in rw (by_item w hw img e he a r h q L t, z) at x

-- ---- a step to the first of entries

module _ (G : Geo) (first q : ℕ) where
  head_some : (img : List ℕ) (e : ℕ) (s : Spot) (l : List Entry) → Some s ≡ head_spot l
      → All (λ x. Plain x.it) l → All (Own img e) l
      → Some (record {
        key = (item_of (part img s.at e) s.len).key;
        place = s.at + 12;
        len = s.len - 4;
        cursor = record { first = first; page = q; place = s.at + size G.word s.len };
      })
      ≡ told_step (head_step G first q l ended)
  head_some img e s [] h a o = cc
  head_some img e s (x ∷ xs) h a o =
      let p : s.at ≡ x.at = cc in
      let n : s.len ≡ x.it.len = cc in
      let k = ap (λ (i : _). i.key) o.0 in
      rw (p, n, a.0.0, a.0.1, k)

-- the first, else the second
abbrev or_step : Option Stepped → Option Stepped → Option Stepped
or_step None r = r
or_step (Some s) r = Some s

abbrev first_of : List ℕ → Geo → Cursor → List Entry
first_of img G c = presents (scan_in G.word img c.place (end_at G c.page)).items

told_head : (G : Geo) (first q : ℕ) (l : List Entry) (r : Step) → told_step (head_step G first q l r) ≡ or_step (told_step (head_step G first q l ended)) (told_step r)
told_head G first q [] r = refl
told_head G first q (x ∷ xs) r = refl

-- a page's data area ends in the image
end_in : (G : Geo) (len p : ℕ) → Held G len → p < G.pages → end_at G p ≤ len
end_in G len p h hp = omega (arith, page_in G.page p G.pages hp, h.room)

-- ---- a step in a page: s is what the code found, e where the data area ends

module _ (G : Geo) (img : List ℕ) (c : Cursor) (e : ℕ) (s : Option Spot) (he : e ≡ end_at G c.page)
    (hs : s ≡ head_spot (presents (scan_in G.word img c.place e).items)) where
  pub in_at : (f : Spot) (z k : ℕ) → s ≡ Some f → z ≡ size G.word f.len
      → k ≡ (item_of (part img f.at e) f.len).key → 0 < G.word → e ≤ length img
      → Some (record {
        key = k;
        place = f.at + 12;
        len = f.len - 4;
        cursor = record { first = c.first; page = c.page; place = f.at + z };
      })
      ≡ told_step (head_step G c.first c.page (first_of img G c) ended)
  in_at f z k t hz hk hw hl =
      let l = (scan_in G.word img c.place e).items in
      let a = All-presents (λ x. Plain x.it) l (scan-plain G.word (e - c.place) c.place (part img c.place e)) in
      let o = All-presents (Own img e) l (own G.word hw img e hl (e - c.place) c.place) in
      rw (hz, hk, ← he) (head_some G c.first c.page img e f (presents l) (sym t ∙ hs) a o)

-- ---- the later pages

listed_is : (s : PageState) (x r : Step) → pick (same Closed s) x (pick (same PartialOpen s) x r) ≡ pick (is_listed s) x r
listed_is Open x r = refl
listed_is PartialOpen x r = refl
listed_is Closed x r = refl
listed_is Corrupted x r = refl

module _ (G : Geo) (img : List ℕ) (first q : ℕ) where
  pub page_yes : (b : Bool) (a : ℕ) (r : Option Stepped) → b ≡ is_listed (state G img q) → b ≡ true
      → a ≡ data_at G q → 2 * G.word ≤ G.page
      → r ≡ told_step (head_step G first q (presents (scan_in G.word img a (end_at G q)).items) ended)
      → r ≡ told_step (page_step G img first q ended)
  page_yes b a r p h ha hw hr = rw (← p, h, scan_is G img q hw, ← ha) hr

  told-page : (r : Step) → told_step (page_step G img first q r) ≡ or_step (told_step (page_step G img first q ended)) (told_step r)
  told-page r = go (is_listed (state G img q))
    where
      go : (b : Bool) → told_step (pick b (head_step G first q (items_of G img q) r) r) ≡ or_step (told_step (pick b (head_step G first q (items_of G img q) ended) ended)) (told_step r)
      go true = told_head G first q (items_of G img q) r
      go false = refl

  -- X is the answer from the loop's start, m the pages that are left
  module _ (m : ℕ) (X : Option Stepped) (h : 0 < m) (x : told_step (later_pages G img first (ups G m q)) ≡ X) where
    pub later_first : q ≡ first → None ≡ X
    unfolding ups
    later_first e = let z : m ≡ suc (m - 1) = omega arith in rw (z, eq-eqb q first e) at x

    later-on : (q ≡ first → ⊥) → or_step (told_step (page_step G img first q ended)) (told_step (later_pages G img first (ups G (m - 1) (next G q)))) ≡ X
    unfolding ups
    later-on n =
        let z : m ≡ suc (m - 1) = omega arith in
        let r = later_pages G img first (ups G (m - 1) (next G q)) in
        let y = rw (z, ne_eqb q first n, listed_is (state G img q) (head_step G first q (items_of G img q) r) r) at x in
        sym (told-page r) ∙ y

    pub later-stepped : (s : Option Stepped) (t : Stepped) → s ≡ told_step (page_step G img first q ended)
        → s ≡ Some t → (q ≡ first → ⊥) → Some t ≡ X
    later-stepped s t hs e n = rw (← hs, e) at (later-on n)

    pub later-ended : (s : Option Stepped) (q' : ℕ) → s ≡ told_step (page_step G img first q ended)
        → s ≡ None → (q ≡ first → ⊥) → q' ≡ next G q
        → told_step (later_pages G img first (ups G (m - 1) q')) ≡ X
    later-ended s q' hs t n hq = rw hq (rw (← hs, t) at (later-on n))

  pub later-none : (m : ℕ) (X : Option Stepped) → m ≤ 0 → told_step (later_pages G img first (ups G m q)) ≡ X → None ≡ X
  unfolding ups
  later-none m X h x = let z : m ≡ 0 = omega arith in rw z at x

-- ---- a step

both_true : (a b : Bool) → both a b ≡ true → (a ≡ true) × (b ≡ true)
both_true true b h = (refl, h)
both_true false b h = let z : ◌≡◌ {A = ℕ} 0 1 = cc in absurd (omega arith)

-- what a cursor in order gives
pub order_in : (G : Geo) (c : Cursor) (b : Bool) → b ≡ in_order G c → b ≡ true → (c.page < G.pages) × (data_at G c.page ≤ c.place) × (c.place ≤ end_at G c.page)
order_in G c b p h =
    let t₁ = both_true (is_page G c.page) _ (sym p ∙ h) in
    let t₂ = both_true (is_page G c.first) _ t₁.1 in
    let t₃ = both_true (leb (data_at G c.page) c.place) _ t₂.1 in
    let t₄ = both_true (leb c.place (end_at G c.page)) _ t₃.1 in
    (ltb-true _ _ t₁.0, leb-true _ _ t₃.0, leb-true _ _ t₄.0)

rest_is : (G : Geo) (img : List ℕ) (p a : ℕ) → Held G (length img) → p < G.pages → data_at G p ≤ a → rest_of G img p a ≡ presents (scan_in G.word img a (end_at G p)).items
rest_is G img p a h hp ha =
    let he = end_in G (length img) p h hp in
    let l = long_part img a (end_at G p) he in
    ap (λ (s : Scan). presents s.items) (scan_fuel G.word (omega (arith, h.low)) G.page (end_at G p - a) a (part img a (end_at G p)) (omega arith) (omega arith))

module _ (G : Geo) (img : List ℕ) (c : Cursor) (b : Bool) (p : b ≡ in_order G c) where
  pub step_no : b ≡ false → None ≡ told_step (walk_step G img c)
  unfolding walk_step
  step_no h = rw (← p, h)

  module _ (s : Option Stepped) (h : b ≡ true) (hd : Held G (length img))
      (hs : s ≡ told_step (head_step G c.first c.page (first_of img G c) ended)) where
    step_on : told_step (walk_step G img c) ≡ or_step s (told_step (later_pages G img c.first (ring_up G (next G c.page))))
    unfolding walk_step
    step_on =
        let o = order_in G c b p h in
        rw (← p, h, hs, rest_is G img c.page c.place hd o.0 o.1)
        (told_head G c.first c.page (first_of img G c) (later_pages G img c.first (ring_up G (next G c.page))))

    pub step_stepped : (t : Stepped) → s ≡ Some t → Some t ≡ told_step (walk_step G img c)
    step_stepped t e = sym (rw e at step_on)

    pub step_later : (r : Option Stepped) (q : ℕ) → s ≡ None → q ≡ next G c.page
        → r ≡ told_step (later_pages G img c.first (ring_up G q)) → r ≡ told_step (walk_step G img c)
    step_later r q t hq hr = sym (rw (t, ← hq, ← hr) at step_on)
