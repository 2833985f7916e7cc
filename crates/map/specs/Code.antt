-- What the public calls are lent and hand back, as the rules say it.
use Rattle.std.specs.Prelude.{◌≡◌, ℕ, ◌<◌, List, true, Option, None, Some}
use Rattle.rules.specs.declared.{Geo.Geo, Cursor.Cursor, Answer.Answer, Answer.TheVariants.None as AnswerNone}
use Rattle.rules.specs.declared.{Answer.TheVariants.Item}
use Rattle.rules.specs.Bytes.{pick}
use Rattle.rules.specs.Runs.{St, Out}
use Rattle.rules.specs.Cache.{Cache as Entries}
use Rattle.rules.specs.Answers.{is_no}
use Rattle.rules.specs.Walk.{walk_first, cursor_at}
use Rattle.rules.specs.Calls.{Call, Lent, Told as Handed, no_cursor, plainly, called, fetch_plain, next_item, steps_behind}
use Rattle.rules.specs.Calls.{steps_of, Cut}
use Rattle.cache.specs.declared.{Cache.Cache}
use Rattle.cache.specs.Code.{pointers}
use Rattle.walk.specs.declared.Stepped.{Stepped}
use Rattle.map.specs.declared.{Told.Told, Started.Started, Stepped.Stepped as Next}

-- an image and all 32 entries of a cache, lent
abbrev pub lent_of : List ℕ → Cache → Lent
lent_of img c = record { image = img; cache = pointers 32 c }

-- the image and what the code hands back, all 32 entries too: of a call that is no walk
abbrev pub told_of : List ℕ → Told → Handed
told_of img r =
    record { answer = r.answer; cursor = no_cursor; image = img; cache = pointers 32 r.cache; erased = r.erased }

-- of a walk's start
abbrev pub started_of : List ℕ → Started → Handed
started_of img r =
    record { answer = r.answer; cursor = r.cursor; image = img; cache = pointers 32 r.cache; erased = r.erased }

-- an answer and a cursor alone: image and cache stay, and no page is erased
abbrev pub answered : Answer → Cursor → Lent → Handed
answered a c l = record { answer = a; cursor = c; image = l.image; cache = l.cache; erased = 0 }

-- a plain fetch is this call with any cache of any size
pub record PlainOk (E k : ℕ) (img : List ℕ) (a : Answer) : Type 0 where
  pub is : (m : ℕ) (c : Entries)
      → answered a no_cursor (record { image = img; cache = c })
      ≡ called 4 E m (fetch_plain k) (record { image = img; cache = c })

-- and so is a step
pub record StepOk (E : ℕ) (cur : Cursor) (img : List ℕ) (r : Next) : Type 0 where
  pub is : (m : ℕ) (c : Entries)
      → answered r.answer r.cursor (record { image = img; cache = c })
      ≡ called 4 E m (next_item cur) (record { image = img; cache = c })

-- a call with power p
abbrev pub CutOk : ℕ → ℕ → Call → Lent → ℕ → ℕ → Handed → Type 0
CutOk E m c l p p' t = Cut E l.image (steps_of 4 E m c l) (called 4 E m c l) p p' t

-- ---- the inner functions

-- a run f behind its refusals, with power p
abbrev pub RunCut : ℕ → ℕ → ℕ → Lent → (Geo → St → Out) → ℕ → ℕ → Handed → Type 0
RunCut E m v l f p p' t = Cut E l.image (steps_behind 4 E m v l f) (plainly 4 E m v l f) p p' t

-- where a walk's start is done, there is a first page
pub record HasFirst (G : Geo) (img : List ℕ) (a : Answer) : Type 0 where
  pub is : is_no 0 a ≡ true → walk_first G img < G.pages

abbrev pub first_cursor : Geo → Answer → List ℕ → Cursor
first_cursor G a img = pick (is_no 0 a) (cursor_at G (walk_first G img)) no_cursor

abbrev pub stepped_by : Cursor → Option Stepped → Next
stepped_by c None = record { answer = AnswerNone; cursor = c }
stepped_by c (Some s) = record { answer = Item s.key s.place s.len; cursor = s.cursor }
