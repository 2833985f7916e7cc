-- What the code of repair says of its runs.
use Rattle.std.specs.Prelude.{◌≡◌, ℕ}
use Rattle.rules.specs.declared.{Geo.Geo, Answer.Answer, Answer.TheVariants.Corrupted}
use Rattle.rules.specs.Bytes.{pick}
use Rattle.rules.specs.Pages.{next, start_at, zero_word, all_pages}
use Rattle.rules.specs.Answers.{is_no}
use Rattle.rules.specs.Runs.{St, Out, out, on_done, programming, erasing, cleared, clear_corrupted}
use Rattle.rules.specs.Store.{migrate, erase_corrupted, repair, looked}
use Rattle.fetch.specs.declared.storage.Storage.{Storage}
use Rattle.fetch.specs.Code.{st_of, KeepsImage, Came}

-- all corrupted pages are erased, and the run goes on
abbrev pub ErasedOk : Storage → Storage → Type 0
ErasedOk old new =
    (k : St → Out)
    → Came old.flash.now.geo.pages old new (erase_corrupted old.flash.now.geo (all_pages old.flash.now.geo) (st_of old) k)
    (k (st_of new))

-- the part of repair that redoes a migration into page p
abbrev pub redo_of : Geo → ℕ → St → Out
redo_of G p s = erasing G p s (λ s'. programming (start_at G p) (zero_word G) s' (migrate G (next G p) p))

-- a run of which no. 8 leaves the cache empty
pub record SettledOk (a : Answer) (old new : Storage) : Type 0 where
  pub is : pick (is_no 8 a) (out Corrupted (cleared (st_of old))) (out a (st_of old)) ≡ out a (st_of new)
  pub kept : KeepsImage old new

-- the repair and the run after it
abbrev pub again_of : Geo → (St → Out) → St → Out
again_of G f s = clear_corrupted (on_done (repair G s) (looked G f))
