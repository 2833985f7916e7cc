-- What the code's jobs and answers stand for.
use Rattle.std.specs.Prelude.{◌+◌, ◌-◌, List, ℕ, Option, None, Some, Result, Ok, Err}
use Rattle.rules.specs.declared.{Geo.Geo, Answer.Answer, Answer.TheVariants.Value, Answer.TheVariants.None as AnswerNone}
use Rattle.rules.specs.declared.{Answer.TheVariants.Corrupted}
use Rattle.rules.specs.Cache.{Cache}
use Rattle.rules.specs.Runs.{St, Out}
use Rattle.rules.specs.Fetch.{Found, missing, run_fetch, served_by}
use Rattle.rules.specs.Store.{turns, fetch, store}
use Rattle.rules.specs.Remove.{run_remove, remove}
use Rattle.rules.specs.Walk.{run_start, walk_start}
use Rattle.items.specs.declared.{Spot.Spot, Corrupt.Corrupt}
use Rattle.remove.specs.Code.{which_of}
use Rattle.calls.specs.declared.{Job.Job, Job.TheVariants.Fetch, Job.TheVariants.Store, Job.TheVariants.Remove}
use Rattle.calls.specs.declared.{Job.TheVariants.Start}

-- the answer that the place and data length of an item give
abbrev pub told_answer : Result (Option Spot) Corrupt → Answer
told_answer (Err e) = Corrupted
told_answer (Ok None) = AnswerNone
told_answer (Ok (Some s)) = Value (s.at + 12) (s.len - 4)

-- a job's run; v is a store's value
abbrev pub run_of : Geo → Job → List ℕ → St → Out
run_of G (Fetch k) v = run_fetch G k
run_of G (Store k) v = turns G G.pages k v
run_of G (Remove t) v = run_remove G (which_of t)
run_of G Start v = run_start G

-- what the cache alone finds: a fetch's key
abbrev pub served_of : Geo → Job → List ℕ → Cache → Found
served_of G (Fetch k) img c = served_by G k (record { img = img; cache = c; erased = 0 })
served_of G (Store k) img c = missing
served_of G (Remove t) img c = missing
served_of G Start img c = missing

-- a job's call
abbrev pub call_of : Geo → Job → List ℕ → St → Out
call_of G (Fetch k) v = fetch G k
call_of G (Store k) v = store G k v
call_of G (Remove t) v = remove G (which_of t)
call_of G Start v = walk_start G
