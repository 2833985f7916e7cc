-- What the removal's code says of its steps.
use Rattle.std.specs.Prelude.{◌≡◌, ℕ, ◌+◌, Bool, true, false, replicate}
use Rattle.rules.specs.declared.{Geo.Geo, PageState.TheVariants.Open, Answer.TheVariants.Done}
use Rattle.rules.specs.Bytes.{pick, both}
use Rattle.rules.specs.Items.{Item, is_present, presents}
use Rattle.rules.specs.Pages.{same, state, items_of, ring_up}
use Rattle.rules.specs.Cache.{Cache}
use Rattle.rules.specs.Runs.{St, Out, out}
use Rattle.rules.specs.Remove.{Which as Wanted, every, only, matches, remove_entries, remove_pages}
use Rattle.laws.specs.Power.{Wrote}
use Rattle.items.specs.Code.{scan_in}
use Rattle.ring.specs.declared.flash.Flash.{Flash}
use Rattle.ring.specs.Flash.{IsSame, Ran}
use Rattle.remove.specs.declared.{Which.Which, Which.TheVariants.Every, Which.TheVariants.Only}

-- what is to be removed, as the rules say it
abbrev pub which_of : Which → Wanted
which_of Every = every
which_of (Only k) = only k

-- an item is Present and to be removed: its place does not matter
abbrev pub hits : Wanted → Item → Bool
hits t i = both (is_present i.kind) (matches t (record { at = 0; it = i }))

-- a flash, with a cache and a count of erased pages beside it
abbrev pub st_with : Flash → Cache → ℕ → St
st_with f c n = record { img = f.img.now; cache = c; erased = n }

-- the definition's run over the items of an area from a place on
abbrev pub entries_of : ℕ → Wanted → ℕ → ℕ → St → (St → Out) → Out
entries_of w t a e s k = remove_entries t (presents (scan_in w s.img a e).items) s k

-- and over a page
abbrev pub page_of : Geo → Wanted → ℕ → St → (St → Out) → Out
page_of G t p s k = pick (same Open (state G s.img p)) (k s) (remove_entries t (items_of G s.img p) s k)

-- an item that is to be removed has its check word programmed; another stays
pub record RemovedOk (b : Bool) (old new : Flash) (a : ℕ) : Type 0 where
  pub same : IsSame old new
  pub yes : b ≡ true → Wrote old.img.now old.power new.img.now new.power (a + 4) (replicate 4 0)
  pub no : b ≡ false → (new.img.now ≡ old.img.now) × (new.power ≡ old.power)

-- such a run changes the flash to this, whatever stands beside it, and goes on: over items, over a page
pub record EntriesOk (t : Wanted) (a e : ℕ) (old new : Flash) : Type 0 where
  pub same : IsSame old new
  pub run : (c : Cache) (n : ℕ) (k : St → Out)
      → Ran old new (entries_of old.geo.word t a e (st_with old c n) k) (k (st_with new c n))

pub record PageOk (t : Wanted) (q : ℕ) (old new : Flash) : Type 0 where
  pub same : IsSame old new
  pub run : (c : Cache) (n : ℕ) (k : St → Out)
      → Ran old new (page_of old.geo t q (st_with old c n) k) (k (st_with new c n))

-- a run over all pages from q on changes the flash to this, and is done
pub record PagesOk (t : Wanted) (q : ℕ) (old new : Flash) : Type 0 where
  pub same : IsSame old new
  pub run : (c : Cache) (n : ℕ)
      → Ran old new (remove_pages old.geo t (ring_up old.geo q) (st_with old c n)) (out Done (st_with new c n))
