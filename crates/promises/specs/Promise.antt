-- The words of the final statements, to hold against document 01: calls in a sequence, the newest items of a page and the FullStorage
-- rule, a step of the walk, and what the latest-wins list says of each answer.
use Rattle.std.specs.Prelude.{◌≡◌, ◌≢◌, ◌⊎◌, ◌↔◌, ℕ, ◌+◌, ◌%◌, ◌≤◌, ◌<◌, Bool, false, List, [], ◌∷◌, ◌++◌, length, take, drop, replicate, eqb}
use Rattle.std.proofs.Math.Option.{Option, none, some}
use Rattle.rules.specs.declared.{Geo.Geo, PageState.TheVariants.Open, PageState.TheVariants.PartialOpen, PageState.TheVariants.Closed, Cursor.Cursor, Answer.Answer, Answer.TheVariants.Done, Answer.TheVariants.Value, Answer.TheVariants.None, Answer.TheVariants.FullStorage, Answer.TheVariants.Corrupted}
use Rattle.rules.specs.Bytes.{Bytes, pick}
use Rattle.rules.specs.Items.{Entry, size}
use Rattle.rules.specs.Pages.{same, state, items_of, area_len, data_at, end_at, next, ring_up}
use Rattle.rules.specs.Cache.{empty_pointer}
use Rattle.rules.specs.Answers.{refusal}
use Rattle.rules.specs.Runs.{St}
use Rattle.rules.specs.Fetch.{Found, corrupt, missing, found, newest}
use Rattle.rules.specs.Walk.{Step, ended, stepped, cursor_at, rest_of, Walk, walk_first}
use Rattle.rules.specs.Calls.{Call, fetch_item, fetch_plain, store_item, remove_item, remove_all_items, erase_all_pages, fetch_all_items, next_item, Lent, Told, no_cursor, step_answer, step_cursor, geo_of, called, entries_of, value_of}
use Rattle.rules.specs.Sound.{SoundImage}
use Rattle.rules.specs.List.{Pair, in_list, latest, pairs, list_after}
use Rattle.laws.specs.Entries.{spans}
use Rattle.laws.specs.Rings.{log_of}

-- ---- Calls in a sequence

-- what a caller hands over: a key of four bytes and a value of bytes, of any length
abbrev pub Given : Call → Type 0
Given (fetch_item k) = Unit {0}
Given (fetch_plain k) = Unit {0}
Given (store_item k v) = (k < 4294967296) × Bytes v
Given (remove_item k) = Unit {0}
Given remove_all_items = Unit {0}
Given erase_all_pages = Unit {0}
Given fetch_all_items = Unit {0}
Given (next_item c) = Unit {0}

abbrev pub AllGiven : List Call → Type 0
AllGiven [] = Unit {0}
AllGiven (c ∷ cs) = Given c × AllGiven cs

-- an image, and a cache of 32 empty entries
abbrev pub fresh : List ℕ → Lent
fresh img = record { image = img; cache = replicate 32 empty_pointer }

-- what a call hands back, lent again
abbrev pub again : Told → Lent
again t = record { image = t.image; cache = t.cache }

-- what is seen after a call: all that it hands back but the cache
pub record Row : Type 0 where
  pub answer : Answer
  pub cursor : Cursor
  pub image : List ℕ
  pub erased : ℕ

abbrev pub row : Told → Row
row t = record { answer = t.answer; cursor = t.cursor; image = t.image; erased = t.erased }

-- what is seen after every call of a sequence
abbrev pub seen : (Call → Lent → Told) → List Call → Lent → List Row
seen f [] b = []
seen f (c ∷ cs) b = row (f c b) ∷ seen f cs (again (f c b))

-- ---- A call: its refusal, what its run works on

-- the refusal of a call, Done where there is none
abbrev pub refusal_of : ℕ → ℕ → ℕ → Call → Lent → Answer
refusal_of w E m c b = refusal w E (length b.image) (entries_of m c) (value_of c)

-- "everything" is left: the cursor that is handed back with a refusal is the one that was given
abbrev pub given_cursor : Call → Cursor
given_cursor (fetch_item k) = no_cursor
given_cursor (fetch_plain k) = no_cursor
given_cursor (store_item k v) = no_cursor
given_cursor (remove_item k) = no_cursor
given_cursor remove_all_items = no_cursor
given_cursor erase_all_pages = no_cursor
given_cursor fetch_all_items = no_cursor
given_cursor (next_item c) = c

abbrev pub refused : ℕ → ℕ → ℕ → Call → Lent → Told
refused w E m c b = record { answer = refusal_of w E m c b; cursor = given_cursor c; image = b.image; cache = b.cache; erased = 0 }

-- what it works on
abbrev pub works_on : ℕ → Call → Lent → St
works_on m c b = record { img = b.image; cache = take (entries_of m c) b.cache; erased = 0 }

-- ---- FullStorage: "exactly when one page is Open and, for every other page, the sizes of its newest items and the new item add to more
-- than the data area. The old value of the same key counts."

-- what is found stands at this place
abbrev pub stands_at : Found → ℕ → Bool
stands_at corrupt a = false
stands_at missing a = false
stands_at (found f) a = eqb f.at a

module _ (G : Geo) where
  -- of these entries, those that are the newest of their key
  abbrev pub newest_in : List ℕ → List Entry → List Entry
  newest_in img [] = []
  newest_in img (e ∷ es) = pick (stands_at (newest G img e.it.key) e.at) (e ∷ newest_in img es) (newest_in img es)

  pub record OneOpen (img : List ℕ) : Type 0 where
    pub page : ℕ
    pub in_ring : page < G.pages
    pub is_open : state G img page ≡ Open
    pub alone : (q : ℕ) → q < G.pages → state G img q ≡ Open → q ≡ page

  -- page q has no room for m bytes beside its newest items
  abbrev pub Tight : ℕ → List ℕ → ℕ → Type 0
  Tight m img q = area_len G < spans G.word (newest_in img (items_of G img q)) + m

  -- for an item that takes m bytes
  pub record FullRule (m : ℕ) (img : List ℕ) : Type 0 where
    pub one_open : OneOpen img
    pub tight : (q : ℕ) → q < G.pages → state G img q ≢ Open → Tight m img q

  -- ---- The walk: "the first page in any state, later ones if Closed or PartialOpen"

  -- a cursor that does not end the walk by itself
  pub record InOrder (c : Cursor) : Type 0 where
    pub first< : c.first < G.pages
    pub page< : c.page < G.pages
    pub low : data_at G c.page ≤ c.place
    pub high : c.place ≤ end_at G c.page
    pub word : c.place % G.word ≡ 0

  -- the Present items of a later page
  abbrev pub later_items : List ℕ → ℕ → List Entry
  later_items img q = pick (same Closed (state G img q)) (items_of G img q) (pick (same PartialOpen (state G img q)) (items_of G img q) [])

  -- those of the pages qs, up to the first page
  abbrev pub later_log : List ℕ → ℕ → List ℕ → List Entry
  later_log img first [] = []
  later_log img first (q ∷ qs) = pick (eqb q first) [] (later_items img q ++ later_log img first qs)

  -- what a walk has still to list: the Present items of its page from its place on, then those of the later pages
  abbrev pub remaining : List ℕ → Cursor → List Entry
  remaining img c = rest_of G img c.page c.place ++ later_log img c.first (ring_up G (next G c.page))

  -- a step hands back the first of what remains and goes on behind it, or ends where nothing remains
  pub data StepIs (img : List ℕ) (c : Cursor) (r : Step) : Type 0 where
    over : r ≡ ended → remaining img c ≡ [] → StepIs img c r
    gives : (e : Entry) (c' : Cursor) → r ≡ stepped e c' → remaining img c ≡ e ∷ remaining img c' → InOrder c' → c'.first ≡ c.first → StepIs img c r

-- ---- The list

-- "one for each key"
abbrev pub Single : List Pair → Type 0
Single [] = Unit {0}
Single (p ∷ ps) = (in_list p.key ps ≡ none) × Single ps

-- what an answer shows of an image: none, or these bytes, at a place that lies in the image
abbrev pub Shows : List ℕ → Answer → Option (List ℕ) → Type 0
Shows img a none = a ≡ None
Shows img a (some v) = (at : ℕ) × (len : ℕ) × (a ≡ Value at len) × (take len (drop at img) ≡ v) × (at + len ≤ length img)

-- no byte is changed and no page erased
abbrev pub SameImage : Lent → Told → Type 0
SameImage b r = (r.image ≡ b.image) × (r.erased ≡ 0)

-- nor is the cache changed
abbrev pub Unchanged : Lent → Told → Type 0
Unchanged b r = (r.image ≡ b.image) × (r.cache ≡ b.cache) × (r.erased ≡ 0)

module _ (w E m : ℕ) where
  abbrev pub geo : Lent → Geo
  geo b = geo_of w E (length b.image)

  -- "Fetch shows it."
  pub record FetchRight (k : ℕ) (b : Lent) (l : List Pair) (r : Told) : Type 0 where
    pub shows : Shows b.image r.answer (in_list k l)
    pub stays : SameImage b r

  -- "A plain read-only fetch takes no cache .. and changes nothing."
  pub record PlainRight (k : ℕ) (b : Lent) (l : List Pair) (r : Told) : Type 0 where
    pub shows : Shows b.image r.answer (in_list k l)
    pub stays : Unchanged b r

  -- a store that is refused leaves everything; else it is done, or full exactly by the rule, and then n pages were erased
  pub record StoreRight (k : ℕ) (v : List ℕ) (b : Lent) (r : Told) : Type 0 where
    pub big : refusal_of w E m (store_item k v) b ≢ Done → r ≡ refused w E m (store_item k v) b
    pub ends : refusal_of w E m (store_item k v) b ≡ Done → (r.answer ≡ Done) ⊎ (r.answer ≡ FullStorage)
    pub exact : refusal_of w E m (store_item k v) b ≡ Done → (r.answer ≡ FullStorage) ↔ FullRule (geo b) (size w (4 + length v)) b.image
    pub turns : refusal_of w E m (store_item k v) b ≡ Done → r.answer ≡ FullStorage → r.erased ≡ (geo b).pages

  -- "A key not held: done, no byte changed"
  pub record RemoveRight (k : ℕ) (b : Lent) (l : List Pair) (r : Told) : Type 0 where
    pub done : r.answer ≡ Done
    pub none_erased : r.erased ≡ 0
    pub absent : in_list k l ≡ none → r.image ≡ b.image

  -- "From the page after the PartialOpen one .. all Present items in ring order, older versions too", and "its last entry of each key is
  -- the list's"
  pub record WalkRight (b : Lent) (l : List Pair) (r : Told) : Type 0 where
    pub done : r.answer ≡ Done
    pub starts : r.cursor ≡ cursor_at (geo b) (walk_first (geo b) b.image)
    pub from : (p : ℕ) → p < (geo b).pages → state (geo b) b.image p ≡ PartialOpen → r.cursor.first ≡ next (geo b) p
    pub whole : (es : List Entry) → Walk (geo b) b.image r.cursor es ↔ (es ≡ log_of (geo b) b.image (ring_up (geo b) r.cursor.first))
    pub last : (es : List Entry) → Walk (geo b) b.image r.cursor es → (k : ℕ) → in_list k (latest (pairs b.image es)) ≡ in_list k l
    pub stays : Unchanged b r

  -- "A single step answers by that rule on the cursor and image it is given"
  pub record StepRight (c : Cursor) (b : Lent) (r : Told) : Type 0 where
    pub step : Step
    pub answers : r.answer ≡ step_answer step
    pub goes_on : r.cursor ≡ step_cursor c step
    pub bad : (InOrder (geo b) c → ⊥) → step ≡ ended
    pub rule : InOrder (geo b) c → StepIs (geo b) b.image c step
    pub stays : Unchanged b r

  -- what a call hands back, where the list is l
  abbrev pub Right : Call → Lent → List Pair → Told → Type 0
  Right (fetch_item k) b l r = FetchRight k b l r
  Right (fetch_plain k) b l r = PlainRight k b l r
  Right (store_item k v) b l r = StoreRight k v b r
  Right (remove_item k) b l r = RemoveRight k b l r
  Right remove_all_items b l r = (r.answer ≡ Done) × (r.erased ≡ 0)
  Right erase_all_pages b l r = (r.answer ≡ Done) × (r.erased ≡ (geo b).pages) × (r.image ≡ replicate (length b.image) 255)
  Right fetch_all_items b l r = WalkRight b l r
  Right (next_item c) b l r = StepRight c b r

  -- "no call on a sound image answers Corrupted, and each leaves the image sound"
  pub record Answered (c : Call) (b : Lent) (l : List Pair) (r : Told) : Type 0 where
    pub right : Right c b l r
    pub clean : r.answer ≢ Corrupted
    pub sound : SoundImage w E r.image

  -- every call of a sequence is answered so, with the list as it stands before it
  abbrev pub Follows : List Call → Lent → List Pair → Type 0
  Follows [] b l = Unit {0}
  Follows (c ∷ cs) b l =
      let r = called w E m c b in
      Answered c b l r × Follows cs (again r) (list_after c r.answer l)
