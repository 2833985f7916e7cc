-- Runs: what a call works on, what it leaves and answers, and the flash steps it takes.
use Rattle.std.specs.Prelude.{ℕ, ◌+◌, List, [], ◌∷◌, ◌++◌}
use Rattle.rules.specs.declared.{Geo.Geo, Answer.Answer, Answer.TheVariants.Corrupted}
use Rattle.rules.specs.Bytes.{pick, program, erase, FlashStep, programs, erases}
use Rattle.rules.specs.Cache.{Cache, note, clear}
use Rattle.rules.specs.Answers.{is_no}

-- what a call works on: the image, the cache's entries within its size, the pages erased so far
pub record St : Type 0 where
  pub img : List ℕ
  pub cache : Cache
  pub erased : ℕ

-- a run: what it leaves, what it answers, and its flash steps in order
pub record Out : Type 0 where
  pub st : St
  pub ans : Answer
  pub steps : List FlashStep

-- a run's end: what it leaves and answers
pub record End : Type 0 where
  pub st : St
  pub ans : Answer

abbrev pub end : Answer → St → End
end a s = record { st = s; ans = a }

abbrev pub final : Out → End
final r = end r.ans r.st

-- a run of no step
abbrev pub out : Answer → St → Out
out a s = record { st = s; ans = a; steps = [] }

-- a run, with steps that came before it
abbrev pub after : List FlashStep → Out → Out
after l r = record { st = r.st; ans = r.ans; steps = l ++ r.steps }

-- go on where the run so far answers this number
unfoldable pub on : ℕ → Out → (St → Out) → Out
on n o f = let r = after o.steps (f o.st) in pick (is_no n o.ans) r o

-- go on where it is done, where no page had room, where it is corrupt
abbrev pub on_done : Out → (St → Out) → Out
on_done o f = on 0 o f

abbrev pub on_full : Out → (St → Out) → Out
on_full o f = on 7 o f

abbrev pub on_corrupted : Out → (St → Out) → Out
on_corrupted o f = on 8 o f

-- "Nothing else changes the image": these two take a step and go on
abbrev pub programming : ℕ → List ℕ → St → (St → Out) → Out
programming at bs s k =
    after (programs at bs ∷ []) (k (record { img = program s.img at bs; cache = s.cache; erased = s.erased }))

abbrev pub erasing : Geo → ℕ → St → (St → Out) → Out
erasing G p s k =
    after (erases p ∷ []) (k (record { img = erase G.page s.img p; cache = s.cache; erased = s.erased + 1 }))

-- a place noted, the cache emptied
abbrev pub noting : ℕ → ℕ → St → St
noting k a s = record { img = s.img; cache = note k a s.cache; erased = s.erased }

abbrev pub cleared : St → St
cleared s = record { img = s.img; cache = clear s.cache; erased = s.erased }

-- no. 8 leaves the "cache empty"
abbrev pub clear_corrupted : Out → Out
clear_corrupted o = on_corrupted o (λ s. out Corrupted (cleared s))
