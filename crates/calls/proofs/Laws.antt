-- The jobs, as the code runs and answers them.
use mathlib.Core.Path.{◌≡◌, refl, ap, sym, ◌∙◌}
use Prim.Native.Nat.{ℕ, ◌+◌, ◌-◌, ◌≤◌, ◌<◌}
use native.Mathlib.Omega.{arith}
use mathlib.Core.Bool.{Bool, true, false}
use lib.Dec.{eqb}
use mathlib.Core.List.{List}
use borrow.Author.Tests.{ne_eqb, eq-eqb, lt-ltb, le-ltb}
use Rattle.std.specs.Prelude.{◌^◌, Option, None, Some, Result, Ok, Err, IfOk, is_err}
use Rattle.rules.specs.declared.{Geo.Geo, Answer.Answer, Answer.TheVariants.Done, Answer.TheVariants.Value}
use Rattle.rules.specs.declared.{Answer.TheVariants.None as AnswerNone, Answer.TheVariants.Item}
use Rattle.rules.specs.declared.{Answer.TheVariants.EndRangeNotAtPageBoundary, Answer.TheVariants.RangeTooSmall}
use Rattle.rules.specs.declared.{Answer.TheVariants.PagesTooSmall, Answer.TheVariants.Geometry}
use Rattle.rules.specs.declared.{Answer.TheVariants.CacheSize, Answer.TheVariants.ItemTooBig}
use Rattle.rules.specs.declared.{Answer.TheVariants.FullStorage, Answer.TheVariants.Corrupted}
use Rattle.rules.specs.Held.{Held}
use Rattle.rules.specs.Answers.{is_no}
use Rattle.rules.specs.Bytes.{pick}
use Rattle.rules.specs.Cache.{Cache, lookup}
use Rattle.rules.specs.Runs.{St, out, cleared}
use Rattle.rules.specs.Fetch.{Found, corrupt, missing, found, answer_of, note_found, full_fetch, on_hit, newest, hit}
use Rattle.rules.specs.Fetch.{fetch_in, run_fetch, served_by}
use Rattle.rules.specs.Store.{auto_repair, looked, fetch_by, fetch, store}
use Rattle.rules.specs.Remove.{remove}
use Rattle.rules.specs.Walk.{walk_first, run_start, walk_start}
use Rattle.laws.specs.Plain.{FoundPlain, newest-plain, hit-plain}
use Rattle.items.specs.declared.{Spot.Spot, Corrupt.Corrupt}
use Rattle.items.specs.Code.{told, SpotIn}
use Rattle.cache.specs.Code.{pointers}
use Rattle.fetch.specs.declared.storage.Storage.{Storage}
use Rattle.fetch.specs.Code.{st_of, KeepsImage, RunOk}
use Rattle.fetch.proofs.Laws.{held_len}
use Rattle.fetch.proofs.Runs.{came_refl, came_more, came_from, came_still}
use Rattle.migrate.specs.Code.{ended}
use Rattle.mend.specs.Code.{again_of}
use Rattle.calls.specs.declared.{Job.Job, Job.TheVariants.Fetch, Job.TheVariants.Store, Job.TheVariants.Remove}
use Rattle.calls.specs.declared.{Job.TheVariants.Start}
use Rattle.calls.specs.Code.{told_answer, run_of, served_of, call_of}

-- places are numbers of 32 bits
pub spot_fits : (G : Geo) (len : ℕ) → Held G len → (x : Option Spot) → SpotIn len x → SpotIn (2 ^ 32) x
spot_fits G len h None i = tt
spot_fits G len h (Some s) i = omega (arith, held_len G len h, i)

pub found_fits : (G : Geo) (len : ℕ) → Held G len → (x : Result (Option Spot) Corrupt) → IfOk x (SpotIn len)
    → IfOk x (SpotIn (2 ^ 32))
found_fits G len h (Ok x) i = spot_fits G len h x i
found_fits G len h (Err e) i = tt

-- what is found is answered by its place and data length
pub answer_is : (x : Found) → FoundPlain x → told_answer (told x) ≡ answer_of x
answer_is corrupt h = refl
answer_is missing h = refl
answer_is (found e) h = rw (h.0, h.1) refl

-- ---- what a fetch finds is an item as a scan gives it

note-plain : (k : ℕ) (s : St) (x : Found) → FoundPlain x → FoundPlain (note_found k s x).res
note-plain k s corrupt h = tt
note-plain k s missing h = tt
note-plain k s (found e) h = h

module _ (G : Geo) (k : ℕ) where
  on-plain : (s : St) (x : Found) → FoundPlain x → FoundPlain (on_hit G k s x).res
  on-plain s corrupt h = note-plain k (cleared s) (newest G s.img k) (newest-plain G s.img k)
  on-plain s missing h = note-plain k (cleared s) (newest G s.img k) (newest-plain G s.img k)
  on-plain s (found e) h = h

  fetch-plain : (s : St) → FoundPlain (fetch_in G k s).res
  unfolding fetch_in
  fetch-plain s = go (eqb (lookup k s.cache) 0)
    where
      go : (b : Bool)
          → FoundPlain (pick b (full_fetch G k s) (on_hit G k s (hit G s.img k (lookup k s.cache)))).res
      go true = note-plain k s (newest G s.img k) (newest-plain G s.img k)
      go false = on-plain s (hit G s.img k (lookup k s.cache)) (hit-plain G s.img k (lookup k s.cache))

pub fetch_run : (k : ℕ) (old new : Storage) (x : Result (Option Spot) Corrupt) (a : Answer)
    → x ≡ told (fetch_in old.flash.now.geo k (st_of old)).res → st_of new ≡ (fetch_in old.flash.now.geo k (st_of old)).st
    → KeepsImage old new → a ≡ told_answer x → RunOk 0 (run_fetch old.flash.now.geo k) old new a
fetch_run k old new x a hx hs K ha =
    let g = fetch_in old.flash.now.geo k (st_of old) in
    let q : answer_of g.res ≡ a = sym (ha ∙ ap told_answer hx ∙ answer_is g.res (fetch-plain old.flash.now.geo k (st_of old))) in
    came_from (ap (λ (y : Answer). out y g.st) q ∙ ap (out a) (sym hs)) (came_still old new (out a (st_of new)) K)

-- ---- a walk's start

pub start_done : (s : Storage) (p : ℕ) → (p < s.flash.now.geo.pages) × (p ≡ walk_first s.flash.now.geo s.flash.now.img.now)
    → RunOk 0 (run_start s.flash.now.geo) s s Done
start_done s p h = came_from (rw (← h.1, lt-ltb p s.flash.now.geo.pages h.0) refl) (came_refl s (out Done (st_of s)))

pub start_bad : (s : Storage) → walk_first s.flash.now.geo s.flash.now.img.now ≡ s.flash.now.geo.pages
    → RunOk 0 (run_start s.flash.now.geo) s s Corrupted
start_bad s e =
    came_from (rw (e, le-ltb s.flash.now.geo.pages s.flash.now.geo.pages (omega arith)) refl)
    (came_refl s (out Corrupted (st_of s)))

-- ---- a job's run, from that of its kind, which erases fewer pages

pub as_job : (b : ℕ) (j job : Job) (v : List ℕ) (old new : Storage) (a : Answer) → job ≡ j → b ≤ old.flash.now.geo.pages
    → RunOk b (run_of old.flash.now.geo j v) old new a → RunOk old.flash.now.geo.pages (run_of old.flash.now.geo job v) old new a
as_job b j job v old new a e h R = rw e (came_more h R)

-- ---- what the cache alone finds is an item as a scan gives it

served_plain : (G : Geo) (k : ℕ) (img : List ℕ) (c : Cache)
    → FoundPlain (served_by G k (record { img = img; cache = c; erased = 0 }))
served_plain G k img c = go (eqb (lookup k c) 0)
  where
    go : (b : Bool) → FoundPlain (pick b missing (hit G img k (lookup k c)))
    go true = tt
    go false = hit-plain G img k (lookup k c)

-- ---- a call, by that

module _ (G : Geo) (k : ℕ) (s : St) where
  by_none : (x : Found) → Ok None ≡ told x → fetch_by G k s x ≡ auto_repair G (run_fetch G k) s
  by_none corrupt q = refl
  by_none missing q = refl
  by_none (found e) q = cc

  by_spot : (x : Found) (p : Spot) → FoundPlain x → Ok (Some p) ≡ told x
      → fetch_by G k s x ≡ out (Value (p.at + 12) (p.len - 4)) s
  by_spot corrupt p h q = cc
  by_spot missing p h q = cc
  by_spot (found e) p h q = rw (h.0, h.1) (sym (ap (λ (x : Result (Option Spot) Corrupt). out (told_answer x) s) q))

module _ (G : Geo) (v : List ℕ) (s : St) where
  runs : (job : Job) → Ok None ≡ told (served_of G job s.img s.cache)
      → call_of G job v s ≡ auto_repair G (run_of G job v) s
  unfolding fetch store remove walk_start
  runs (Fetch k) q = by_none G k s (served_by G k s) q
  runs (Store k) q = refl
  runs (Remove t) q = refl
  runs Start q = refl

  serves : (job : Job) (p : Spot) → Ok (Some p) ≡ told (served_of G job s.img s.cache)
      → call_of G job v s ≡ out (Value (p.at + 12) (p.len - 4)) s
  unfolding fetch
  serves (Fetch k) p q = by_spot G k s (served_by G k s) p (served_plain G k s.img s.cache) q
  serves (Store k) p q = cc
  serves (Remove t) p q = cc
  serves Start p q = cc

module _ (b : ℕ) (job : Job) (v : List ℕ) (old : Storage) where
  pub call_runs : Ok None ≡ told (served_of old.flash.now.geo job old.flash.now.img.now (pointers old.slots.count old.cache))
      → (new : Storage) (a : Answer) → RunOk b (auto_repair old.flash.now.geo (run_of old.flash.now.geo job v)) old new a
      → RunOk b (call_of old.flash.now.geo job v) old new a
  call_runs q new a R = came_from (runs old.flash.now.geo v (st_of old) job q) R

  pub call_served : (p : Spot)
      → Ok (Some p) ≡ told (served_of old.flash.now.geo job old.flash.now.img.now (pointers old.slots.count old.cache))
      → RunOk b (call_of old.flash.now.geo job v) old old (Value (p.at + 12) (p.len - 4))
  call_served p q =
      came_more (omega arith) (came_from (serves old.flash.now.geo v (st_of old) job p q) (came_refl old _))

-- ---- a repair's end

pub bad_end : (r : Result (Unit {0}) Corrupt) → is_err r ≡ true → ended r ≡ Corrupted
bad_end (Ok u) h = cc
bad_end (Err x) h = refl

pub good_end : (r : Result (Unit {0}) Corrupt) → is_err r ≡ false → ended r ≡ Done
good_end (Ok u) h = refl
good_end (Err x) h = cc

-- ---- a run over the storage that an earlier run left

module _ (old mid new : Storage) (g : mid.flash.now.geo ≡ old.flash.now.geo) (job : Job) (v : List ℕ) (a : Answer) where
  pages_same : mid.flash.now.geo.pages ≡ old.flash.now.geo.pages
  pages_same = ap (λ (x : Geo). x.pages) g

  pub look_on : RunOk mid.flash.now.geo.pages (looked mid.flash.now.geo (run_of mid.flash.now.geo job v)) mid new a
      → RunOk old.flash.now.geo.pages (looked old.flash.now.geo (run_of old.flash.now.geo job v)) mid new a
  look_on R =
      came_more (omega (arith, pages_same))
      (came_from (ap (λ (x : Geo). looked x (run_of x job v) (st_of mid)) (sym g)) R)

  pub again_on : RunOk (mid.flash.now.geo.pages + 2 + mid.flash.now.geo.pages)
      (again_of mid.flash.now.geo (run_of mid.flash.now.geo job v)) mid new a
      → RunOk (old.flash.now.geo.pages + 2 + old.flash.now.geo.pages)
      (again_of old.flash.now.geo (run_of old.flash.now.geo job v)) mid new a
  again_on R =
      came_more (omega (arith, pages_same))
      (came_from (ap (λ (x : Geo). again_of x (run_of x job v) (st_of mid)) (sym g)) R)

-- only Corrupted has number 8
pub not-corrupted : (a : Answer) → (a ≡ Corrupted → ⊥) → is_no 8 a ≡ false
not-corrupted Done n = refl
not-corrupted (Value p l) n = refl
not-corrupted AnswerNone n = refl
not-corrupted (Item k p l) n = refl
not-corrupted EndRangeNotAtPageBoundary n = refl
not-corrupted RangeTooSmall n = refl
not-corrupted PagesTooSmall n = refl
not-corrupted Geometry n = refl
not-corrupted CacheSize n = refl
not-corrupted ItemTooBig n = refl
not-corrupted FullStorage n = refl
not-corrupted Corrupted n = absurd (n refl)
