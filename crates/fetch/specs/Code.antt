-- What the storage of a call stands for, and what a call leaves of it.
use Rattle.std.specs.Prelude.{◌≡◌, ℕ, ◌+◌, ◌≤◌}
use Rattle.rules.specs.declared.{Answer.Answer}
use Rattle.rules.specs.Runs.{St, Out, out}
use Rattle.cache.specs.declared.Cache.{Cache}
use Rattle.cache.specs.Code.{pointers, Past}
use Rattle.ring.specs.declared.Pages.{Pages}
use Rattle.ring.specs.Flash.{IsSame, Erased, Ran}
use Rattle.fetch.specs.declared.storage.Slots.{Slots}
use Rattle.fetch.specs.declared.storage.Storage.{Storage}

-- what a call works on
abbrev pub st_of : Storage → St
st_of s = record { img = s.flash.now.img.now; cache = pointers s.slots.count s.cache; erased = s.erased }

-- what a fetch works on: pages and a cache, and any count of erased pages
abbrev pub read_on : Pages → Slots → Cache → ℕ → St
read_on p k c n = record { img = p.img.now; cache = pointers k.count c; erased = n }

-- the storage is the same one, and entries past those in use stay
pub record Keeps (old new : Storage) : Type 0 where
  pub lent : new.flash.ghost_name ≡ old.flash.ghost_name
  pub same : IsSame old.flash.now new.flash.now
  pub slots : new.slots ≡ old.slots
  pub past : Past old.slots.count old.cache new.cache

-- nothing but the cache has changed
pub record KeepsImage (old new : Storage) : Type 0 where
  pub keeps : Keeps old new
  pub image : new.flash.now.img.now ≡ old.flash.now.img.now
  pub power : new.flash.now.power ≡ old.flash.now.power
  pub erased : new.erased ≡ old.erased

-- page p is erased, and counted
pub record ErasesPage (old new : Storage) (p : ℕ) : Type 0 where
  pub lent : new.flash.ghost_name ≡ old.flash.ghost_name
  pub page : Erased old.flash.now new.flash.now p
  pub slots : new.slots ≡ old.slots
  pub cache : new.cache ≡ old.cache
  pub erased : new.erased ≡ old.erased + 1

-- of the run o, which begins with the old storage, o' is left with the new one, and at most b pages were erased
pub record Came (b : ℕ) (old new : Storage) (o o' : Out) : Type 0 where
  pub is : Ran old.flash.now new.flash.now o o'
  pub keeps : Keeps old new
  pub erased : new.erased ≤ old.erased + b

-- the end of a run f that erases at most b pages
abbrev pub RunOk : ℕ → (St → Out) → Storage → Storage → Answer → Type 0
RunOk b f old new a = Came b old new (f (st_of old)) (out a (st_of new))
