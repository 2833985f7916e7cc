-- A run that repairs once, from the runs it is made of; the same for every call.
use mathlib.Core.Path.{◌≡◌, refl}
use mathlib.Core.Bool.{true, false}
use Prim.Native.Nat.{ℕ, ◌+◌}
use native.Mathlib.Omega.{arith}
use Rattle.rules.specs.declared.{Answer.Answer, Answer.TheVariants.Corrupted}
use Rattle.rules.specs.Pages.{any_corrupted}
use Rattle.rules.specs.Answers.{is_no}
use Rattle.rules.specs.Runs.{St, Out, out, cleared, clear_corrupted, on_done}
use Rattle.rules.specs.Store.{repair, looked, auto_repair}
use Rattle.fetch.specs.declared.storage.Storage.{Storage}
use Rattle.fetch.specs.Code.{st_of, Came, RunOk}
use Rattle.fetch.proofs.Runs.{came_refl, came_then, came_more, came_from, came_to, came_still, came_on}
use Rattle.mend.specs.Code.{SettledOk, again_of}

-- ---- the look at all page states

module _ (b : ℕ) (f : St → Out) (old : Storage) where
  pub looked_bad : any_corrupted old.flash.now.geo old.flash.now.img.now ≡ true
      → RunOk b (looked old.flash.now.geo f) old old Corrupted
  looked_bad e = came_more (omega arith) (came_from (rw e refl) (came_refl old (out Corrupted (st_of old))))

  pub looked_run : (new : Storage) (a : Answer) → any_corrupted old.flash.now.geo old.flash.now.img.now ≡ false
      → RunOk b f old new a → RunOk b (looked old.flash.now.geo f) old new a
  looked_run new a e R = came_from (rw e refl) R

-- ---- no. 8 leaves the cache empty

settled : (b : ℕ) (o : Out) (old mid new : Storage) (a : Answer) → Came b old mid o (out a (st_of mid))
    → SettledOk a mid new → Came b old new (clear_corrupted o) (out a (st_of new))
settled b o old mid new a R S =
    came_more (omega arith) (came_then (came_on 8 (λ s. out Corrupted (cleared s)) a R)
    (came_from S.is (came_still mid new (out a (st_of new)) S.kept)))

-- ---- the repair and the run after it

module _ (b c : ℕ) (f : St → Out) (old mid : Storage) (a : Answer) (R : RunOk c (repair old.flash.now.geo) old mid a) where
  -- the repair is corrupt: there is no second run
  pub again_bad : (new : Storage) → is_no 0 a ≡ false → SettledOk a mid new
      → RunOk (c + b) (again_of old.flash.now.geo f) old new a
  again_bad new e S =
      let o = on_done (repair old.flash.now.geo (st_of old)) (looked old.flash.now.geo f) in
      came_more (omega arith)
      (settled c o old mid new a (came_to (came_on 0 (looked old.flash.now.geo f) a R) (rw e refl)) S)

  pub again_run : (last new : Storage) (a' : Answer) → is_no 0 a ≡ true
      → RunOk b (looked old.flash.now.geo f) mid last a' → SettledOk a' last new
      → RunOk (c + b) (again_of old.flash.now.geo f) old new a'
  again_run last new a' e R' S =
      settled (c + b) (on_done (repair old.flash.now.geo (st_of old)) (looked old.flash.now.geo f)) old last new a'
      (came_then (came_to (came_on 0 (looked old.flash.now.geo f) a R) (rw e refl)) R') S

-- ---- a run that repairs once on Corrupted and runs again

module _ (b c : ℕ) (f : St → Out) (old mid : Storage) (a : Answer)
    (R : RunOk b (looked old.flash.now.geo f) old mid a) where
  pub auto_first : is_no 8 a ≡ false → RunOk (b + (c + b)) (auto_repair old.flash.now.geo f) old mid a
  unfolding auto_repair
  auto_first e = came_more (omega arith) (came_to (came_on 8 (again_of old.flash.now.geo f) a R) (rw e refl))

  pub auto_again : (new : Storage) (a' : Answer) → is_no 8 a ≡ true
      → RunOk (c + b) (again_of old.flash.now.geo f) mid new a'
      → RunOk (b + (c + b)) (auto_repair old.flash.now.geo f) old new a'
  unfolding auto_repair
  auto_again new a' e R' = came_then (came_to (came_on 8 (again_of old.flash.now.geo f) a R) (rw e refl)) R'
