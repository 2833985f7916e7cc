-- Geometry, page states, the ring, the free spot.
use Rattle.std.specs.Prelude.{ℕ, zero, suc, ◌+◌, ◌-◌, ◌*◌, Bool, true, false, List, [], ◌∷◌, ◌++◌, reverse, take, drop, replicate, leb, ltb, eqb}
use Rattle.rules.specs.declared.{Geo.Geo, PageState.PageState, PageState.TheVariants.Open, PageState.TheVariants.PartialOpen, PageState.TheVariants.Closed, PageState.TheVariants.Corrupted}
use Rattle.rules.specs.Bytes.{pick, both, zeros, all_ff}
use Rattle.rules.specs.Items.{Entry, Scan, scan, presents}

-- "Neither marked: Open. Start only: PartialOpen. Both: Closed. End only: the page is corrupted."
abbrev pub state_of : Bool → Bool → PageState
state_of false false = Open
state_of true false = PartialOpen
state_of true true = Closed
state_of false true = Corrupted

-- the states by number, and whether a page is in the one that is asked for
abbrev pub state_no : PageState → ℕ
state_no Open = 0
state_no PartialOpen = 1
state_no Closed = 2
state_no Corrupted = 3

abbrev pub same : PageState → PageState → Bool
same want s = eqb (state_no want) (state_no s)

-- m numbers from a up
abbrev pub up_from : ℕ → ℕ → List ℕ
up_from a zero = []
up_from a (suc m) = a ∷ up_from (suc a) m

-- the m bytes from place a on are 0xFF
abbrev pub blank_at : List ℕ → ℕ → ℕ → Bool
blank_at img a m = all_ff (take m (drop a img))

module _ (G : Geo) where
  -- "In page p, word 0 is the start word and the last word is the end word. Between them lies the data area"
  abbrev pub start_at : ℕ → ℕ
  start_at p = p * G.page

  abbrev pub data_at : ℕ → ℕ
  data_at p = p * G.page + G.word

  abbrev pub end_at : ℕ → ℕ
  end_at p = p * G.page + (G.page - G.word)

  -- "the data area of E - 8 bytes", two words less than a page
  abbrev pub area_len : ℕ
  area_len = G.page - 2 * G.word

  -- the three parts of a page
  abbrev pub start_word : List ℕ → ℕ → List ℕ
  start_word img p = take G.word (drop (start_at p) img)

  abbrev pub area : List ℕ → ℕ → List ℕ
  area img p = take area_len (drop (data_at p) img)

  abbrev pub end_word : List ℕ → ℕ → List ℕ
  end_word img p = take G.word (drop (end_at p) img)

  -- "A word is marked when it has at least 16 zero bits", half of its bits
  abbrev pub marked : List ℕ → Bool
  marked ws = leb (4 * G.word) (zeros ws)

  -- the state of page p
  unfoldable pub state : List ℕ → ℕ → PageState
  state img p = state_of (marked (start_word img p)) (marked (end_word img p))

  -- "Marking programs 0."
  abbrev pub zero_word : List ℕ
  zero_word = replicate G.word 0

  -- the scan of page p's data area
  unfoldable pub scan_of : List ℕ → ℕ → Scan
  scan_of img p = scan G.word area_len (data_at p) (area img p)

  -- the Present items of page p
  abbrev pub items_of : List ℕ → ℕ → List Entry
  items_of img p = presents (scan_of img p).items

  -- page p has a free spot for m bytes: "where the scan ends, if the new item fits there and all bytes it would take are 0xFF"
  abbrev pub has_free_spot : List ℕ → ℕ → ℕ → Bool
  has_free_spot img p m =
      let a = (scan_of img p).end in
      both (leb (a + m) (end_at p)) (blank_at img a m)

  -- "next and previous are around the ring"
  abbrev pub next : ℕ → ℕ
  next p = pick (eqb (suc p) G.pages) 0 (suc p)

  abbrev pub prev : ℕ → ℕ
  prev p = pick (eqb p 0) (G.pages - 1) (p - 1)

  -- all pages by number
  abbrev pub all_pages : List ℕ
  all_pages = up_from 0 G.pages

  -- all pages from p upwards around the ring
  unfoldable pub ring_up : ℕ → List ℕ
  ring_up p = up_from p (G.pages - p) ++ up_from 0 p

  -- all pages from p downwards around the ring
  unfoldable pub ring_down : ℕ → List ℕ
  ring_down p = reverse (ring_up (next p))

  -- the first of the pages ps in this state; the number of pages if there is none
  abbrev pub first_with : PageState → List ℕ → List ℕ → ℕ
  first_with t img [] = G.pages
  first_with t img (p ∷ ps) = let r = first_with t img ps in pick (same t (state img p)) p r

  -- "First" means lowest number
  abbrev pub first_page : PageState → List ℕ → ℕ
  first_page t img = first_with t img all_pages

  -- the highest-numbered page in this state
  abbrev pub last_page : PageState → List ℕ → ℕ
  last_page t img = first_with t img (reverse all_pages)

  -- there is such a page
  abbrev pub is_page : ℕ → Bool
  is_page p = ltb p G.pages

  -- a page is corrupted
  abbrev pub any_corrupted : List ℕ → Bool
  any_corrupted img = is_page (first_page Corrupted img)
