-- What the migration's code says of its steps.
use Rattle.std.specs.Prelude.{◌≡◌, ◌⊎◌, ℕ, ◌+◌, ◌*◌, ◌≤◌, ◌<◌, List, ◌++◌, take, drop, Result, Ok, Err, IfOk}
use Rattle.rules.specs.declared.{Geo.Geo, Answer.Answer, Answer.TheVariants.Done, Answer.TheVariants.Corrupted}
use Rattle.rules.specs.Bytes.{pick}
use Rattle.rules.specs.Items.{is_present, item_of, Entry, size, pad, presents}
use Rattle.rules.specs.Pages.{blank_at, end_at}
use Rattle.rules.specs.Runs.{St, Out, out, programming, noting}
use Rattle.rules.specs.Fetch.{fetch_in}
use Rattle.rules.specs.Store.{migrate_one, migrate_all}
use Rattle.items.specs.declared.{Corrupt.Corrupt}
use Rattle.items.specs.Code.{part, scan_in}
use Rattle.ring.specs.Flash.{Ran}
use Rattle.fetch.specs.declared.storage.Storage.{Storage}
use Rattle.fetch.specs.Code.{st_of, Keeps}

-- the entry of an item of data length L at place a of an area that ends at e
abbrev pub entry_at : List ℕ → ℕ → ℕ → ℕ → Entry
entry_at img a e L = record { at = a; it = item_of (part img a e) L }

-- the run goes on from a place, or is corrupt
abbrev pub go_on : Result ℕ Corrupt → St → (ℕ → St → Out) → Out
go_on (Ok t) s k = k t s
go_on (Err e) s k = out Corrupted s

-- the item of data length L at place a is copied to wp
abbrev pub copied : Geo → ℕ → ℕ → ℕ → ℕ → St → (ℕ → St → Out) → Out
copied G key a L wp s k =
    pick (blank_at s.img wp (size G.word L))
    (programming wp (take (8 + L) (drop a s.img) ++ pad G.word L) (noting key wp s) (k (wp + size G.word L)))
    (out Corrupted s)

-- the definition's step for a Present entry, and for any
abbrev pub one_of : Geo → Entry → ℕ → St → (ℕ → St → Out) → Out
one_of G e wp s k = migrate_one G e wp (fetch_in G e.it.key s).st k (fetch_in G e.it.key s).res

abbrev pub step_of : Geo → Entry → ℕ → St → (ℕ → St → Out) → Out
step_of G e wp s k = pick (is_present e.it.kind) (one_of G e wp s k) (k wp s)

-- a step f, which changes z bytes from wp on at most, and tells where the next one writes
pub record StepOk (f : St → (ℕ → St → Out) → Out) (wp z : ℕ) (old new : Storage) (r : Result ℕ Corrupt) : Type 0 where
  pub run : (k : ℕ → St → Out) → Ran old.flash.now new.flash.now (f (st_of old) k) (go_on r (st_of new) k)
  pub keeps : Keeps old new
  pub erased : new.erased ≡ old.erased
  pub others : (a m : ℕ) → (a + m ≤ wp) ⊎ (wp + z ≤ a)
      → take m (drop a new.flash.now.img.now) ≡ take m (drop a old.flash.now.img.now)
  pub next : IfOk r (λ t. (wp ≤ t) × (t ≤ wp + z))

-- a place on a word of the data area that ends at e
pub record Lies (G : Geo) (a e : ℕ) : Type 0 where
  pub page : ℕ
  pub off : ℕ
  pub page_in : page < G.pages
  pub at_is : a ≡ page * G.page + off * G.word
  pub low : G.word ≤ off * G.word
  pub end_is : e ≡ end_at G page

-- a run's answer by how it ends
abbrev pub ended : Result (Unit {0}) Corrupt → Answer
ended (Ok u) = Done
ended (Err e) = Corrupted

-- the definition's run over the items of an area from a place on
abbrev pub run_of : Geo → ℕ → ℕ → ℕ → St → Out
run_of G a e wp s = migrate_all G (presents (scan_in G.word s.img a e).items) wp s

pub record AllOk (a e wp : ℕ) (old new : Storage) (r : Result (Unit {0}) Corrupt) : Type 0 where
  pub run : Ran old.flash.now new.flash.now (run_of old.flash.now.geo a e wp (st_of old)) (out (ended r) (st_of new))
  pub keeps : Keeps old new
  pub erased : new.erased ≡ old.erased
