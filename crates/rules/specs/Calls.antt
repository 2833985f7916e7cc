-- The public calls, as their callers see them: the refusals, then the call, on a lent image and a lent cache of 32 entries.
use Rattle.std.specs.Prelude.{◌≡◌, ℕ, ◌+◌, ◌/◌, true, List, [], ◌++◌, length, take, drop}
use Rattle.rules.specs.declared.{Geo.Geo, Cursor.Cursor, Answer.Answer, Answer.TheVariants.None, Answer.TheVariants.Item}
use Rattle.rules.specs.Bytes.{pick, FlashStep}
use Rattle.rules.specs.Cache.{Cache}
use Rattle.rules.specs.Answers.{is_no, refusal}
use Rattle.rules.specs.Runs.{St, Out, out}
use Rattle.rules.specs.Power.{lasts, spend, units, cut_image}
use Rattle.rules.specs.Fetch.{plain_fetch}
use Rattle.rules.specs.Store.{fetch, store}
use Rattle.rules.specs.Remove.{every, only, remove, erase_all}
use Rattle.rules.specs.Walk.{Step, ended, stepped, walk_first, walk_start, cursor_at, walk_step}

pub data Call : Type 0 where
  fetch_item fetch_plain : ℕ → Call
  store_item : ℕ → List ℕ → Call
  remove_item : ℕ → Call
  remove_all_items erase_all_pages fetch_all_items : Call
  next_item : Cursor → Call

-- what a call is lent
pub record Lent : Type 0 where
  pub image : List ℕ
  pub cache : Cache

-- what a call hands back; the cursor is a walk's
pub record Told : Type 0 where
  pub answer : Answer
  pub cursor : Cursor
  pub image : List ℕ
  pub cache : Cache
  pub erased : ℕ

-- the cursor of a call that is no walk, and of a start that is refused; a step from it ends
abbrev pub no_cursor : Cursor
no_cursor = record { first = 0; page = 0; place = 0 }

-- the cursor of a walk that starts
abbrev pub start_cursor : Geo → Out → Cursor
start_cursor G o = pick (is_no 0 o.ans) (cursor_at G (walk_first G o.st.img)) no_cursor

-- a step's answer, and its cursor: "An end hands back the cursor unchanged"
abbrev pub step_answer : Step → Answer
step_answer ended = None
step_answer (stepped e c) = Item e.it.key (e.at + e.it.voff) e.it.vlen

abbrev pub step_cursor : Cursor → Step → Cursor
step_cursor c ended = c
step_cursor c (stepped e c') = c'

-- words of w bytes, pages of E bytes, an image of len bytes
abbrev pub geo_of : ℕ → ℕ → ℕ → Geo
geo_of w E len = record { word = w; page = E; pages = len / E }

-- a run told: its first m entries are the call's, "entries past the size stay"
abbrev pub tell : ℕ → Lent → (Out → Cursor) → Out → Told
tell m l c o = record { answer = o.ans; cursor = c o; image = o.st.img; cache = o.st.cache ++ drop m l.cache; erased = o.st.erased }

-- a run f with a cache of m entries and a value of v bytes, behind its refusals; "Everything" means image and cache are unchanged
unfoldable pub behind : ℕ → ℕ → ℕ → ℕ → Lent → (Geo → St → Out) → (Geo → Out → Cursor) → Cursor → Told
behind w E m v l f c c₀ =
    let no = refusal w E (length l.image) m v in
    let G = geo_of w E (length l.image) in
    let told = tell m l (c G) (f G (record { img = l.image; cache = take m l.cache; erased = 0 })) in
    pick (is_no 0 no) told (record { answer = no; cursor = c₀; image = l.image; cache = l.cache; erased = 0 })

-- a call that is no walk
abbrev pub plainly : ℕ → ℕ → ℕ → ℕ → Lent → (Geo → St → Out) → Told
plainly w E m v l f = behind w E m v l f (λ G o. no_cursor) no_cursor

-- a public call on words of w bytes, pages of E bytes and a cache of m entries; a plain fetch and a step take no cache
unfoldable pub called : ℕ → ℕ → ℕ → Call → Lent → Told
called w E m (fetch_item k) l = plainly w E m 0 l (λ G s. fetch G k s)
called w E m (fetch_plain k) l = plainly w E 0 0 l (λ G s. out (plain_fetch G s.img k) s)
called w E m (store_item k v) l = plainly w E m (length v) l (λ G s. store G k v s)
called w E m (remove_item k) l = plainly w E m 0 l (λ G s. remove G (only k) s)
called w E m remove_all_items l = plainly w E m 0 l (λ G s. remove G every s)
called w E m erase_all_pages l = plainly w E m 0 l (λ G s. erase_all G s)
called w E m fetch_all_items l = behind w E m 0 l (λ G s. walk_start G s) start_cursor no_cursor
called w E m (next_item c) l =
    behind w E 0 0 l (λ G s. out (step_answer (walk_step G s.img c)) s) (λ G o. step_cursor c (walk_step G l.image c)) c

-- ---- The flash steps of a call

-- the entries of the cache that a call works with: a plain fetch and a step take no cache
abbrev pub entries_of : ℕ → Call → ℕ
entries_of m (fetch_item k) = m
entries_of m (fetch_plain k) = 0
entries_of m (store_item k v) = m
entries_of m (remove_item k) = m
entries_of m remove_all_items = m
entries_of m erase_all_pages = m
entries_of m fetch_all_items = m
entries_of m (next_item c) = 0

-- the length of the value that it takes: only a store takes one
abbrev pub value_of : Call → ℕ
value_of (fetch_item k) = 0
value_of (fetch_plain k) = 0
value_of (store_item k v) = length v
value_of (remove_item k) = 0
value_of remove_all_items = 0
value_of erase_all_pages = 0
value_of fetch_all_items = 0
value_of (next_item c) = 0

-- the run behind the refusals
abbrev pub run_of : Geo → Call → St → Out
run_of G (fetch_item k) s = fetch G k s
run_of G (fetch_plain k) s = out (plain_fetch G s.img k) s
run_of G (store_item k v) s = store G k v s
run_of G (remove_item k) s = remove G (only k) s
run_of G remove_all_items s = remove G every s
run_of G erase_all_pages s = erase_all G s
run_of G fetch_all_items s = walk_start G s
run_of G (next_item c) s = out (step_answer (walk_step G s.img c)) s

-- the flash steps of a run behind its refusals: a refusal takes none
unfoldable pub steps_behind : ℕ → ℕ → ℕ → ℕ → Lent → (Geo → St → Out) → List FlashStep
steps_behind w E m v l f =
    let no = refusal w E (length l.image) m v in
    let G = geo_of w E (length l.image) in
    let steps = (f G (record { img = l.image; cache = take m l.cache; erased = 0 })).steps in
    pick (is_no 0 no) steps []

-- the flash steps of a public call
unfoldable pub steps_of : ℕ → ℕ → ℕ → Call → Lent → List FlashStep
steps_of w E m c l = steps_behind w E (entries_of m c) (value_of c) l (λ G s. run_of G c s)

-- what a call with these flash steps, which hands back `done`, tells with power p, of which p' is left: the image is
-- what the steps leave with it, and where it lasts for all of them the call is as it is defined
pub record Cut (E : ℕ) (img : List ℕ) (steps : List FlashStep) (done : Told) (p p' : ℕ) (t : Told) : Type 0 where
  pub image : t.image ≡ cut_image E img p steps
  pub left : p' ≡ spend p (units steps)
  pub whole : lasts p (units steps) ≡ true → t ≡ done
