-- What the C border takes and leaves, in words of 32 bits.
use Rattle.std.specs.Prelude.{◌≡◌, ℕ, ◌<◌, Bool, true, false, List, [], ◌∷◌, ◌++◌, eqb, length, get_or, take, drop}
use Rattle.rules.specs.declared.{Cursor.Cursor, Answer.Answer}
use Rattle.rules.specs.Bytes.{pick, both, FlashStep}
use Rattle.rules.specs.Power.{lasts, spend, units, cut_image}
use Rattle.rules.specs.Cache.{Pointer, Cache as Entries}
use Rattle.rules.specs.Answers.{number, is_no}
use Rattle.rules.specs.Calls.{Told as Handed, Call, no_cursor, called, fetch_item, fetch_plain, store_item, remove_item}
use Rattle.rules.specs.Calls.{remove_all_items, erase_all_pages, fetch_all_items, next_item, steps_of}
use Rattle.answer.specs.declared.{Shown.Shown}
use Rattle.answer.specs.Code.{shown_of}
use Rattle.cache.specs.declared.{Cache.Cache}
use Rattle.cache.specs.Code.{entries}
use Rattle.map.specs.declared.{Told.Told}
use Rattle.capi.specs.declared.{Change.Change, Change.TheVariants.Store, Change.TheVariants.Remove}
use Rattle.capi.specs.declared.{Change.TheVariants.RemoveAll, Change.TheVariants.EraseAll}

-- a number that fits a word
abbrev pub Word : ℕ → Type 0
Word n = n < 4294967296

-- ---- the cache: the keys and then the places

-- the entries of 64 words
abbrev pub entries_of : List ℕ → Entries
entries_of ws = entries (take 32 ws) (drop 32 ws)

-- the two arrays of 64 words
abbrev pub lent_cache : List ℕ → Cache
lent_cache ws = record { keys = take 32 ws; places = take 32 (drop 32 ws) }

-- the keys of entries, and the places
abbrev pub keys_of : List Pointer → List ℕ
keys_of [] = []
keys_of (e ∷ es) = e.key ∷ keys_of es

abbrev pub places_of : List Pointer → List ℕ
places_of [] = []
places_of (e ∷ es) = e.place ∷ places_of es

-- the words of entries
abbrev pub cache_words : Entries → List ℕ
cache_words es = keys_of es ++ places_of es

-- ---- the cursor: first page, page, place

-- the cursor of three words
abbrev pub cursor_of : List ℕ → Cursor
cursor_of ws = record { first = get_or ws 0 0; page = get_or ws 1 0; place = get_or ws 2 0 }

-- the words of a cursor
abbrev pub cursor_words : Cursor → List ℕ
cursor_words c = c.first ∷ c.page ∷ c.place ∷ []

abbrev pub CursorFits : Cursor → Type 0
CursorFits c = Word c.first × Word c.page × Word c.place

-- ---- out: erased pages, kind, place, length, key

-- the five words of an answer with its erase count
abbrev pub shown_words : ℕ → Shown → List ℕ
shown_words e s = e ∷ s.kind ∷ s.place ∷ s.len ∷ s.key ∷ []

abbrev pub out_words : ℕ → Answer → List ℕ
out_words e a = shown_words e (shown_of a)

abbrev pub Fits : ℕ → Answer → Type 0
Fits e a = Word e × Word (shown_of a).place × Word (shown_of a).len

-- ---- a call at the border

-- the number returned, and what is lent, after a call
pub record Left : Type 0 where
  pub no : ℕ
  pub image : List ℕ
  pub cache : List ℕ
  pub out : List ℕ

-- the same of a walk's start
pub record StartLeft : Type 0 where
  pub no : ℕ
  pub image : List ℕ
  pub cache : List ℕ
  pub cursor : List ℕ
  pub out : List ℕ

-- of a plain fetch, which changes neither image nor cache
pub record PlainLeft : Type 0 where
  pub no : ℕ
  pub out : List ℕ

-- of a step, which changes neither image nor cache
pub record StepLeft : Type 0 where
  pub no : ℕ
  pub cursor : List ℕ
  pub out : List ℕ

-- what a call told, in words
abbrev pub handed : Handed → Left
handed t =
    record {
      no = number t.answer;
      image = t.image;
      cache = cache_words t.cache;
      out = out_words t.erased t.answer;
    }

abbrev pub plain_handed : Handed → PlainLeft
plain_handed t = record { no = number t.answer; out = out_words t.erased t.answer }

-- the cursor's words after: written where the answer's number is 0
abbrev pub cursor_after : List ℕ → Answer → Cursor → List ℕ
cursor_after ws a c = pick (is_no 0 a) (cursor_words c) ws

abbrev pub start_handed : List ℕ → Handed → StartLeft
start_handed ws t =
    record {
      no = number t.answer;
      image = t.image;
      cache = cache_words t.cache;
      cursor = cursor_after ws t.answer t.cursor;
      out = out_words t.erased t.answer;
    }

abbrev pub step_handed : List ℕ → Handed → StepLeft
step_handed ws t =
    record {
      no = number t.answer;
      cursor = cursor_after ws t.answer t.cursor;
      out = out_words t.erased t.answer;
    }

-- a call on pages of E bytes and a cache of m entries; 255 where a length is wrong, and nothing changes
unfoldable pub border : ℕ → ℕ → Call → List ℕ → List ℕ → List ℕ → Left
border E m call i c o =
    let wrong : Left = record { no = 255; image = i; cache = c; out = o } in
    let told = called 4 E m call (record { image = i; cache = entries_of c }) in
    pick (eqb (length c) 64) (pick (eqb (length o) 5) (handed told) wrong) wrong

-- ---- a call that is lent power

-- the lengths of a cache, of a power and of an out are right
unfoldable pub cut_lengths : ℕ → ℕ → ℕ → Bool
cut_lengths c p o = both (eqb c 64) (both (eqb p 1) (eqb o 5))

-- the number returned, and what is lent
pub record CutLeft : Type 0 where
  pub no : ℕ
  pub image : List ℕ
  pub cache : List ℕ
  pub power : List ℕ
  pub out : List ℕ

-- the flash steps of a call
abbrev pub steps_at : ℕ → ℕ → Call → List ℕ → List ℕ → List FlashStep
steps_at E m call i c = steps_of 4 E m call (record { image = i; cache = entries_of c })

-- 255 where a length is wrong, and nothing changes; else the image is what the call's flash steps leave with the power,
-- so much of it is left, and where it lasts for all of them the call is as it is without it
pub record CutBorder (E m : ℕ) (call : Call) (i c p o : List ℕ) (l : CutLeft) : Type 0 where
  pub wrong : cut_lengths (length c) (length p) (length o) ≡ false
      → l ≡ record { no = 255; image = i; cache = c; power = p; out = o }
  pub image : cut_lengths (length c) (length p) (length o) ≡ true
      → l.image ≡ cut_image E i (get_or p 0 0) (steps_at E m call i c)
  pub left : cut_lengths (length c) (length p) (length o) ≡ true
      → l.power ≡ spend (get_or p 0 0) (units (steps_at E m call i c)) ∷ []
  pub whole : cut_lengths (length c) (length p) (length o) ≡ true
      → lasts (get_or p 0 0) (units (steps_at E m call i c)) ≡ true
      → record { no = l.no; image = l.image; cache = l.cache; out = l.out } ≡ border E m call i c o

-- a plain fetch, which takes no cache
unfoldable pub plain_border : ℕ → ℕ → List ℕ → List ℕ → PlainLeft
plain_border E k i o =
    let told = called 4 E 0 (fetch_plain k) (record { image = i; cache = [] }) in
    pick (eqb (length o) 5) (plain_handed told) (record { no = 255; out = o })

-- a walk's start
unfoldable pub start_border : ℕ → ℕ → List ℕ → List ℕ → List ℕ → List ℕ → StartLeft
start_border E m i c w o =
    let wrong : StartLeft = record { no = 255; image = i; cache = c; cursor = w; out = o } in
    let told = called 4 E m fetch_all_items (record { image = i; cache = entries_of c }) in
    pick (eqb (length c) 64) (pick (eqb (length w) 3) (pick (eqb (length o) 5) (start_handed w told) wrong) wrong) wrong

-- a walk's step, which takes no cache
unfoldable pub step_border : ℕ → List ℕ → List ℕ → List ℕ → StepLeft
step_border E i w o =
    let wrong : StepLeft = record { no = 255; cursor = w; out = o } in
    let told = called 4 E 0 (next_item (cursor_of w)) (record { image = i; cache = [] }) in
    pick (eqb (length w) 3) (pick (eqb (length o) 5) (step_handed w told) wrong) wrong

-- ---- the inner functions

-- the call that a change is
abbrev pub change_call : Change → Call
change_call (Store k v) = store_item k v.now
change_call (Remove k) = remove_item k
change_call RemoveAll = remove_all_items
change_call EraseAll = erase_all_pages

-- what a call told, if it fits; else something that does
pub record WordsOk (told r : Told) : Type 0 where
  pub fits : Fits r.erased r.answer
  pub same : Fits told.erased told.answer → r ≡ told

-- an answer is that of a fetch of key k, which changes nothing
abbrev pub StillOk : ℕ → ℕ → ℕ → List ℕ → List ℕ → Answer → Type 0
StillOk E m k img ws a =
    record { answer = a; cursor = no_cursor; image = img; cache = entries_of ws; erased = 0 }
    ≡ called 4 E m (fetch_item k) (record { image = img; cache = entries_of ws })
