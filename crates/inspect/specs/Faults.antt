-- The first reason why an image is not sound.
use Rattle.std.specs.Prelude.{ℕ, suc, ◌-◌, Bool, true, false, not, List, [], ◌∷◌, Option, None, Some, length, take}
use Rattle.std.specs.Prelude.{drop, eqb}
use Rattle.rules.specs.declared.{Geo.Geo, PageState.PageState, PageState.TheVariants.Open}
use Rattle.rules.specs.declared.{PageState.TheVariants.PartialOpen, PageState.TheVariants.Closed}
use Rattle.rules.specs.declared.{PageState.TheVariants.Corrupted}
use Rattle.rules.specs.Bytes.{pick, both}
use Rattle.rules.specs.Pages.{same, up_from, blank_at, data_at, end_at, area_len, area, state, scan_of, next, all_pages}
use Rattle.rules.specs.Pages.{ring_up, first_with, first_page, is_page}
use Rattle.rules.specs.Answers.{number, refusal}
use Rattle.rules.specs.Calls.{geo_of}
use Rattle.inspect.specs.declared.{Fault.Fault, Fault.TheVariants.Refused, Fault.TheVariants.CorruptedPage}
use Rattle.inspect.specs.declared.{Fault.TheVariants.NoPartialOpen, Fault.TheVariants.SecondPartialOpen}
use Rattle.inspect.specs.declared.{Fault.TheVariants.NextNotOpen, Fault.TheVariants.OpenApart}
use Rattle.inspect.specs.declared.{Fault.TheVariants.DataNotBlank, Fault.TheVariants.TailNotBlank}

-- the place of the first of these bytes that is not 0xFF, the first of them being at place a;
-- the place after them if there is none
abbrev pub not_ff : ℕ → List ℕ → ℕ
not_ff a [] = a
not_ff a (b ∷ bs) = let r = not_ff (suc a) bs in pick (eqb b 255) r a

-- a Closed page was seen, and this one is Open
abbrev pub apart : Bool → PageState → Bool
apart closed s = both closed (same Open s)

-- a Closed page was seen, or this one is Closed
abbrev pub seen : Bool → PageState → Bool
seen closed s = pick closed true (same Closed s)

-- Each first page is the number of pages if there is none.
module _ (G : Geo) where
  -- the first PartialOpen page after page p, by number
  abbrev pub second_partial : List ℕ → ℕ → ℕ
  second_partial img p = first_with G PartialOpen img (up_from (suc p) (G.pages - suc p))

  -- the first Open page of a list after a Closed one; closed: such a one stands before the list
  abbrev pub open_after : List ℕ → Bool → List ℕ → ℕ
  open_after img closed [] = G.pages
  open_after img closed (q ∷ qs) =
      let r = open_after img (seen closed (state G img q)) qs in
      pick (apart closed (state G img q)) q r

  -- the first Open page after a Closed one in the ring from page p on
  abbrev pub open_apart : List ℕ → ℕ → ℕ
  open_apart img p = open_after img false (ring_up G p)

  -- page q is Open, and a byte of its data is not 0xFF
  abbrev pub dirty : List ℕ → ℕ → Bool
  dirty img q = both (same Open (state G img q)) (not (blank_at img (data_at G q) (area_len G)))

  -- the first page of a list that passes a test
  abbrev pub first_by : (ℕ → Bool) → List ℕ → ℕ
  first_by f [] = G.pages
  first_by f (q ∷ qs) = let r = first_by f qs in pick (f q) q r

  abbrev pub first_dirty : List ℕ → ℕ
  first_dirty img = first_by (dirty img) (all_pages G)

  -- the first byte of page q's data that is not 0xFF
  abbrev pub dirty_fault : List ℕ → ℕ → Fault
  dirty_fault img q = DataNotBlank q (not_ff (data_at G q) (area G img q))

  -- the first such byte of an Open page, else r
  abbrev pub data_fault : List ℕ → Option Fault → Option Fault
  data_fault img r =
      let d = first_dirty img in
      pick (is_page G d) (Some (dirty_fault img d)) r

  -- the first byte after the scan's end of page p that is not 0xFF
  abbrev pub tail_fault : List ℕ → ℕ → Option Fault
  tail_fault img p =
      let a = (scan_of G img p).end in
      pick (blank_at img a (end_at G p - a)) None
      (Some (TailNotBlank p (not_ff a (take (end_at G p - a) (drop a img)))))

  -- no page is PartialOpen
  unfoldable pub blank_fault : List ℕ → Option Fault
  blank_fault img =
      let c = first_page G Closed img in
      pick (is_page G c) (Some (NoPartialOpen c)) (data_fault img None)

  -- page p is the first PartialOpen one
  unfoldable pub used_fault : List ℕ → ℕ → Option Fault
  used_fault img p =
      let s = second_partial img p in
      let a = open_apart img p in
      pick (is_page G s) (Some (SecondPartialOpen s))
      (pick (not (same Open (state G img (next G p)))) (Some (NextNotOpen (next G p)))
      (pick (is_page G a) (Some (OpenApart a)) (data_fault img (tail_fault img p))))

  -- the first fault where the sizes are accepted
  unfoldable pub page_fault : List ℕ → Option Fault
  page_fault img =
      let c = first_page G Corrupted img in
      let p = first_page G PartialOpen img in
      pick (is_page G c) (Some (CorruptedPage c)) (pick (is_page G p) (used_fault img p) (blank_fault img))

-- the first fault of an image: words of w bytes, pages of E
unfoldable pub first_fault : ℕ → ℕ → List ℕ → Option Fault
first_fault w E img =
    let no = refusal w E (length img) 0 0 in
    pick (eqb (number no) 0) (page_fault (geo_of w E (length img)) img) (Some (Refused no))
