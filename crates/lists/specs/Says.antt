-- What a list says: digests, values by rule, and whether a call did what its line says.
use Rattle.std.specs.Prelude.{◌≡◌, ℕ, zero, suc, ◌+◌, ◌*◌, ◌%◌, Bool, true, false, List, [], ◌∷◌, length, ◌==◌, Option}
use Rattle.std.specs.Prelude.{Some, None}
use Rattle.rules.specs.declared.{Cursor.Cursor}
use Rattle.rules.specs.Bytes.{both}
use Rattle.rules.specs.Cache.{Cache as Entries}
use Rattle.rules.specs.Answers.{number, is_no}
use Rattle.rules.specs.Fetch.{view}
use Rattle.rules.specs.Calls.{Lent, Told, called, fetch_item, fetch_plain}
use Rattle.answer.specs.declared.{Shown.Shown}
use Rattle.answer.specs.Code.{shown_of}
use Rattle.cache.specs.Code.{pointers}
use Rattle.lists.specs.declared.{play.Run.Run, play.Says.Says, play.Seen.Seen}

-- ---- digests

-- a digest with one number more
abbrev pub mix : ℕ → ℕ → ℕ
mix h x = (h * 1000003 + x) % 4294967291

-- a digest with numbers more, in their order
unfoldable pub digest : ℕ → List ℕ → ℕ
digest h [] = h
digest h (x ∷ xs) = digest (mix h x) xs

-- a digest with entries more, key and place each
unfoldable pub digest_entries : ℕ → Entries → ℕ
digest_entries h [] = h
digest_entries h (e ∷ es) = digest_entries (mix (mix h e.key) e.place) es

-- ---- values by rule

-- n bytes: b, and then each more by the step
unfoldable pub value_of : ℕ → ℕ → ℕ → List ℕ
value_of zero b step = []
value_of (suc n) b step = b ∷ value_of n ((b + step) % 256) step

-- two lists are the same
unfoldable pub alike : List ℕ → List ℕ → Bool
alike [] [] = true
alike [] (y ∷ ys) = false
alike (x ∷ xs) [] = false
alike (x ∷ xs) (y ∷ ys) = both (x == y) (alike xs ys)

-- the bytes are such a value
abbrev pub follows : List ℕ → ℕ → ℕ → Bool
follows s b step = alike s (value_of (length s) b step)

-- ---- what a line says of a call

-- what an answer shows is as the line says: nothing, a value, or an item; the value's bytes are those of the image
abbrev pub shows : Option Seen → List ℕ → Shown → Bool
shows None img s = s.kind == 0
shows (Some v) img s =
    both (s.kind == 1)
    (both (s.key == v.key)
    (both (s.len == v.len) (follows (view img s.place s.len) v.rule.first v.rule.step)))

-- what a call told is as the line says: the answer's number, the pages erased, the digests of image and cache
abbrev pub agrees : Says → Told → Bool
agrees s t =
    both (number t.answer == s.no)
    (both (t.erased == s.erased)
    (both (digest 1 t.image == s.image) (digest_entries 1 t.cache == s.cache)))

-- ---- a call held against its line

-- what a call left, and whether it is as the line says
pub record Verdict : Type 0 where
  pub image : List ℕ
  pub cache : Entries
  pub cursor : Cursor
  pub equal : Bool

abbrev pub verdict : Told → Bool → Verdict
verdict t e = record { image = t.image; cache = t.cache; cursor = t.cursor; equal = e }

-- a call whose answer shows what the line says, or not
abbrev pub judged : Says → Bool → Told → Verdict
judged s shown t = verdict t (both shown (agrees s t))

-- a fetch of a key, and a plain fetch after it: both answers show what the line says
abbrev pub fetched : ℕ → ℕ → ℕ → Says → Option Seen → Lent → Verdict
fetched E m k s v l =
    let t = called 4 E m (fetch_item k) l in
    let plain = called 4 E 0 (fetch_plain k) (record { image = t.image; cache = [] }) in
    judged s (both (shows v t.image (shown_of plain.answer)) (shows v t.image (shown_of t.answer))) t

-- a step of a walk
abbrev pub judged_step : Option Seen → Told → Verdict
judged_step v t = verdict t (both (is_no 0 t.answer) (shows v t.image (shown_of t.answer)))

-- what the code left, and whether it is as the line says
abbrev pub left : List ℕ → Run → Bool → Verdict
left img r e = record { image = img; cache = pointers 32 r.cache; cursor = r.cursor; equal = e }

-- the sizes of a run stay
pub record SameSizes (old new : Run) : Type 0 where
  pub page : new.page ≡ old.page
  pub len : new.len ≡ old.len
  pub size : new.size ≡ old.size
