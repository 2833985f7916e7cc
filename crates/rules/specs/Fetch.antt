-- Fetch: the search, the search behind a cache, the value as a part of the image.
use Rattle.std.specs.Prelude.{ℕ, ◌+◌, ◌-◌, ◌/◌, ◌%◌, List, [], ◌∷◌, length, take, drop, leb, ltb, eqb}
use Rattle.rules.specs.declared.{Geo.Geo, PageState.TheVariants.Open, PageState.TheVariants.PartialOpen, PageState.TheVariants.Closed, Answer.Answer, Answer.TheVariants.Value, Answer.TheVariants.None, Answer.TheVariants.Corrupted}
use Rattle.rules.specs.Bytes.{pick, both}
use Rattle.rules.specs.Items.{is_present, Reading, stop, skip, item, read, Entry}
use Rattle.rules.specs.Pages.{same, state, items_of, ring_down, first_page, is_page, prev, any_corrupted}
use Rattle.rules.specs.Cache.{lookup}
use Rattle.rules.specs.Runs.{St, Out, out, noting, cleared}

-- what a search finds
pub data Found : Type 0 where
  corrupt missing : Found
  found : Entry → Found

-- the first, else the second
abbrev pub or_else : Found → Found → Found
or_else corrupt r = corrupt
or_else missing r = r
or_else (found e) r = found e

-- the last of the entries with the key
abbrev pub last_with : ℕ → List Entry → Found
last_with k [] = missing
last_with k (e ∷ es) = or_else (last_with k es) (pick (eqb e.it.key k) (found e) missing)

-- "The answer gives the value's place and length"
abbrev pub answer_of : Found → Answer
answer_of corrupt = Corrupted
answer_of missing = None
answer_of (found e) = Value (e.at + e.it.voff) e.it.vlen

-- the value's part of the image; "for a place and length that don't lie in the image this part is the empty start of the image"
unfoldable pub view : List ℕ → ℕ → ℕ → List ℕ
view img a len = pick (leb (a + len) (length img)) (take len (drop a img)) []

-- what stands at a cached place, if it is a Present item with that key
abbrev pub hit_item : ℕ → ℕ → Reading → Found
hit_item k a stop = missing
hit_item k a skip = missing
hit_item k a (item i) = pick (both (is_present i.kind) (eqb i.key k)) (found (record { at = a; it = i })) missing

-- what a fetch finds, and the state after it
pub record Got : Type 0 where
  pub st : St
  pub res : Found

-- "A find is noted in the cache."
abbrev pub note_found : ℕ → St → Found → Got
note_found k s corrupt = record { st = s; res = corrupt }
note_found k s missing = record { st = s; res = missing }
note_found k s (found e) = record { st = noting k e.at s; res = found e }

module _ (G : Geo) where
  -- "Not found: the previous page, while it is Closed.": the pages ps in this order
  abbrev pub search_closed : List ℕ → ℕ → List ℕ → Found
  search_closed img k [] = missing
  search_closed img k (p ∷ ps) =
      let r = or_else (last_with k (items_of G img p)) (search_closed img k ps) in
      pick (same Closed (state G img p)) r missing

  -- "In a page the last Present item with the key counts.": the first of the pages in any state, then the others
  abbrev pub search_in : List ℕ → ℕ → List ℕ → Found
  search_in img k [] = missing
  search_in img k (p ∷ ps) = let r = search_closed img k ps in or_else (last_with k (items_of G img p)) r

  -- the search that starts at page p
  abbrev pub search_from : List ℕ → ℕ → ℕ → Found
  search_from img k p = search_in img k (ring_down G p)

  -- "The search starts at the first PartialOpen page. If there is none, it starts at the page before the first Open one if that is
  -- Closed; if that isn't Closed, the answer is none. No Open and no PartialOpen page: Corrupted."
  unfoldable pub newest : List ℕ → ℕ → Found
  newest img k =
      let p = first_page G PartialOpen img in
      let o = first_page G Open img in
      pick (is_page G p) (search_from img k p)
      (pick (is_page G o)
      (pick (same Closed (state G img (prev G o))) (search_from img k (prev G o)) missing)
      corrupt)

  -- "A cache hit answers from its place if a Present item with that key stands there, on a word and wholly in one data area."
  unfoldable pub hit : List ℕ → ℕ → ℕ → Found
  hit img k a =
      let r = a % G.page in
      pick (both (ltb (a / G.page) G.pages) (both (leb G.word r) (both (leb r (G.page - G.word)) (eqb (r % G.word) 0))))
      (hit_item k a (read G.word (take (G.page - G.word - r) (drop a img))))
      missing

  -- the search, its find noted
  abbrev pub full_fetch : ℕ → St → Got
  full_fetch k s = note_found k s (newest s.img k)

  -- "Otherwise it empties the cache and falls back to the full search."
  abbrev pub on_hit : ℕ → St → Found → Got
  on_hit k s corrupt = full_fetch k (cleared s)
  on_hit k s missing = full_fetch k (cleared s)
  on_hit k s (found e) = record { st = s; res = found e }

  -- the fetch inside a call
  unfoldable pub fetch_in : ℕ → St → Got
  fetch_in k s =
      let a = lookup k s.cache in
      pick (eqb a 0) (full_fetch k s) (on_hit k s (hit s.img k a))

  -- it as a run
  abbrev pub run_fetch : ℕ → St → Out
  run_fetch k s = let g = fetch_in k s in out (answer_of g.res) g.st

  -- what the cache alone finds
  abbrev pub served_by : ℕ → St → Found
  served_by k s = pick (eqb (lookup k s.cache) 0) missing (hit s.img k (lookup k s.cache))

  -- "A plain read-only fetch takes no cache, answers Corrupted at once and changes nothing."
  unfoldable pub plain_fetch : List ℕ → ℕ → Answer
  plain_fetch img k = let r = answer_of (newest img k) in pick (any_corrupted G img) Corrupted r
