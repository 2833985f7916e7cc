-- The walk: its start, a step, and a whole walk.
use Rattle.std.specs.Prelude.{◌≡◌, ℕ, ◌+◌, ◌-◌, ◌%◌, Bool, List, [], ◌∷◌, take, drop, leb, eqb}
use Rattle.rules.specs.declared.{Geo.Geo, PageState.TheVariants.Open, PageState.TheVariants.PartialOpen, PageState.TheVariants.Closed, Cursor.Cursor, Answer.TheVariants.Done, Answer.TheVariants.Corrupted}
use Rattle.rules.specs.Bytes.{pick, both}
use Rattle.rules.specs.Items.{Entry, scan, presents}
use Rattle.rules.specs.Pages.{same, state, items_of, ring_up, first_page, is_page, next, prev, data_at, end_at}
use Rattle.rules.specs.Runs.{St, Out, out}
use Rattle.rules.specs.Store.{span_of, auto_repair}

-- what a step answers: the end, or an item and the next cursor
pub data Step : Type 0 where
  ended : Step
  stepped : Entry → Cursor → Step

module _ (G : Geo) where
  -- "From the page after the PartialOpen one (else as the Rust)": else the first Open page if the one before it is Closed, else page 0;
  -- the number of pages where none is Open
  abbrev pub walk_first : List ℕ → ℕ
  walk_first img =
      let p = first_page G PartialOpen img in
      let o = first_page G Open img in
      pick (is_page G p) (next G p)
      (pick (is_page G o) (pick (same Closed (state G img (prev G o))) o 0) G.pages)

  abbrev pub run_start : St → Out
  run_start s = pick (is_page G (walk_first s.img)) (out Done s) (out Corrupted s)

  -- "Only its start reads all page states and repairs."
  unfoldable pub walk_start : St → Out
  walk_start s = auto_repair G run_start s

  -- the cursor at the start of page p's data area
  abbrev pub cursor_at : ℕ → Cursor
  cursor_at p = record { first = p; page = p; place = data_at G p }

  -- "A page or first page of n or more, a place before the data area or past the end word's start, or one off a word, ends the walk."
  abbrev pub in_order : Cursor → Bool
  in_order c =
      both (is_page G c.page) (both (is_page G c.first) (both (leb (data_at G c.page) c.place)
      (both (leb c.place (end_at G c.page)) (eqb (c.place % G.word) 0))))

  -- the first of a page's entries, with the cursor after it; r if there is none
  abbrev pub head_step : ℕ → ℕ → List Entry → Step → Step
  head_step first p [] r = r
  head_step first p (e ∷ es) r = stepped e (record { first = first; page = p; place = e.at + span_of G e })

  -- the Present items of page p from place a on
  abbrev pub rest_of : List ℕ → ℕ → ℕ → List Entry
  rest_of img p a = presents (scan G.word G.page a (take (end_at G p - a) (drop a img))).items

  -- "later ones if Closed or PartialOpen", up to the first page
  abbrev pub later_pages : List ℕ → ℕ → List ℕ → Step
  later_pages img first [] = ended
  later_pages img first (p ∷ ps) =
      let r = later_pages img first ps in
      let here = head_step first p (items_of G img p) r in
      pick (eqb p first) ended
      (pick (same Closed (state G img p)) here (pick (same PartialOpen (state G img p)) here r))

  -- a step: "all Present items in ring order .. : the first page in any state, later ones if Closed or PartialOpen"
  unfoldable pub walk_step : List ℕ → Cursor → Step
  walk_step img c =
      let p = c.page in
      let r = head_step c.first p (rest_of img p c.place) (later_pages img c.first (ring_up G (next G p))) in
      pick (in_order c) r ended

  -- "A whole walk": steps from a cursor on list these entries, and end
  pub data Walk (img : List ℕ) : Cursor → List Entry → Type 0 where
    stops : {c : Cursor} → walk_step img c ≡ ended → Walk img c []
    steps : {c c' : Cursor} {e : Entry} {es : List Entry} → walk_step img c ≡ stepped e c' → Walk img c' es → Walk img c (e ∷ es)
