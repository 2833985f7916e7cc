-- The runs of a store, as the code tells them.
use mathlib.Core.Path.{◌≡◌, refl, ap, sym, ◌∙◌}
use mathlib.Core.Logic.{◌⊎◌, inl, inr}
use mathlib.Core.Bool.{Bool, true, false}
use Prim.Native.Nat.{ℕ, suc, ◌+◌, ◌-◌, ◌≤◌, ◌<◌}
use native.Mathlib.Omega.{arith}
use mathlib.Core.List.{List}
use lib.Dec.{eqb, leb}
use lib.ListN.{length}
use borrow.Author.Tests.{eqb-true, leb-true, lt-ltb, le-ltb}
use Rattle.rules.specs.declared.{Geo.Geo, Answer.Answer}
use Rattle.rules.specs.declared.{Answer.TheVariants.Done, Answer.TheVariants.Value, Answer.TheVariants.None}
use Rattle.rules.specs.declared.{Answer.TheVariants.Item, Answer.TheVariants.EndRangeNotAtPageBoundary}
use Rattle.rules.specs.declared.{Answer.TheVariants.RangeTooSmall, Answer.TheVariants.PagesTooSmall}
use Rattle.rules.specs.declared.{Answer.TheVariants.Geometry, Answer.TheVariants.CacheSize, Answer.TheVariants.ItemTooBig}
use Rattle.rules.specs.declared.{Answer.TheVariants.FullStorage, Answer.TheVariants.Corrupted}
use Rattle.rules.specs.declared.{PageState.TheVariants.Open, PageState.TheVariants.PartialOpen}
use Rattle.rules.specs.Bytes.{pick, both}
use Rattle.rules.specs.Items.{size, encode}
use Rattle.rules.specs.Pages.{same, state, first_page, next, start_at, end_at, zero_word, scan_of, blank_at, has_free_spot}
use Rattle.rules.specs.Answers.{is_no}
use Rattle.rules.specs.Runs.{St, Out, out, on_done, programming, noting}
use Rattle.rules.specs.Store.{migrate, rolled, rollover, turn, turns}
use Rattle.ring.specs.Flash.{Programmed}
use Rattle.fetch.specs.declared.storage.Storage.{Storage}
use Rattle.fetch.specs.Code.{st_of, KeepsImage, Came, RunOk}
use Rattle.fetch.proofs.Runs.{came_refl, came_then, came_more, came_from, came_to, came_still, came_program, came_on}
use Rattle.store.specs.Code.{roll_of, fill_of}

-- only FullStorage has number 7
pub not-full : (a : Answer) → (a ≡ FullStorage → ⊥) → is_no 7 a ≡ false
not-full Done n = refl
not-full (Value p l) n = refl
not-full None n = refl
not-full (Item k p l) n = refl
not-full EndRangeNotAtPageBoundary n = refl
not-full RangeTooSmall n = refl
not-full PagesTooSmall n = refl
not-full Geometry n = refl
not-full CacheSize n = refl
not-full ItemTooBig n = refl
not-full FullStorage n = absurd (n refl)
not-full Corrupted n = refl

-- ---- a rollover

module _ (q x : ℕ) (old mid : Storage) (P : Programmed old.flash.now mid.flash.now (start_at old.flash.now.geo q) (zero_word old.flash.now.geo))
    (lent : mid.flash.ghost_name ≡ old.flash.ghost_name) (slots : mid.slots ≡ old.slots) (cache : mid.cache ≡ old.cache) (erased : mid.erased ≡ old.erased)
    (hx : x ≡ next mid.flash.now.geo q) where
  marked : Came 0 old mid (rollover old.flash.now.geo q (st_of old)) (rolled old.flash.now.geo q (st_of mid))
  unfolding rollover
  marked =
      came_program (start_at old.flash.now.geo q) (zero_word old.flash.now.geo) (rolled old.flash.now.geo q) old mid P lent slots cache
      erased

  pub roll_open : same Open (state mid.flash.now.geo mid.flash.now.img.now x) ≡ true
      → RunOk 1 (rollover old.flash.now.geo q) old mid Done
  unfolding rolled
  roll_open t =
      let n = rw P.same.geo at hx in
      let o = rw P.same.geo at t in
      came_more (omega arith) (came_to marked (rw (← n, o) refl))

  pub roll_move : same Open (state mid.flash.now.geo mid.flash.now.img.now x) ≡ false → (new : Storage) (a : Answer)
      → RunOk 1 (migrate mid.flash.now.geo x q) mid new a → RunOk 1 (rollover old.flash.now.geo q) old new a
  unfolding rolled
  roll_move t new a M =
      let n = rw P.same.geo at hx in
      let o = rw P.same.geo at t in
      came_then marked (came_from (rw (← n, o, P.same.geo) refl) M)

-- ---- closing a page

module _ (p x : ℕ) (old mid new : Storage)
    (P : Programmed old.flash.now mid.flash.now (end_at old.flash.now.geo p) (zero_word old.flash.now.geo))
    (lent : mid.flash.ghost_name ≡ old.flash.ghost_name) (slots : mid.slots ≡ old.slots) (cache : mid.cache ≡ old.cache) (erased : mid.erased ≡ old.erased)
    (hx : x ≡ next mid.flash.now.geo p) where
  pub close_by : (a : Answer) → RunOk 1 (rollover mid.flash.now.geo x) mid new a
      → Came 1 old new (roll_of old.flash.now.geo p (st_of old))
      (pick (is_no 0 a) (out FullStorage (st_of new)) (out a (st_of new)))
  close_by a R =
      let n = rw P.same.geo at hx in
      came_then (came_program (end_at old.flash.now.geo p) (zero_word old.flash.now.geo)
      (λ s. on_done (rollover old.flash.now.geo (next old.flash.now.geo p) s) (out FullStorage)) old mid P lent slots cache erased)
      (came_from (rw (← n, ← P.same.geo) refl) (came_on 0 (out FullStorage) a R))

-- ---- a turn on the PartialOpen page

module _ (q k a span : ℕ) (v : List ℕ) (old : Storage) (ha : a ≡ (scan_of old.flash.now.geo old.flash.now.img.now q).end)
    (hs : span ≡ size old.flash.now.geo.word (4 + length v)) where
  pub fill_write : true ≡ has_free_spot old.flash.now.geo old.flash.now.img.now q span → (mid new : Storage)
      → st_of mid ≡ noting k a (st_of old) → KeepsImage old mid
      → Programmed mid.flash.now new.flash.now a (encode mid.flash.now.geo.word k v)
      → new.flash.ghost_name ≡ mid.flash.ghost_name → new.slots ≡ mid.slots
      → new.cache ≡ mid.cache → new.erased ≡ mid.erased → RunOk 1 (fill_of old.flash.now.geo q k v) old new Done
  fill_write t mid new hn K P lent slots cache erased =
      came_more (omega arith) (came_from (rw (← hs, ← t, ← ha)
      (ap (λ s. programming a (encode old.flash.now.geo.word k v) s (out Done)) (sym hn)
      ∙ ap (λ (g : Geo). programming a (encode g.word k v) (st_of mid) (out Done)) (sym K.keeps.same.geo)))
      (came_then (came_still old mid _ K)
      (came_program a (encode mid.flash.now.geo.word k v) (out Done) mid new P lent slots cache erased)))

  pub fill_close : false ≡ has_free_spot old.flash.now.geo old.flash.now.img.now q span → (new : Storage) (r : Answer)
      → RunOk 1 (roll_of old.flash.now.geo q) old new r → RunOk 1 (fill_of old.flash.now.geo q k v) old new r
  fill_close t new r R = came_from (rw (← hs, ← t) refl) R

module _ (k : ℕ) (v : List ℕ) (old : Storage) where
  abbrev G : Geo
  G = old.flash.now.geo

  abbrev img : List ℕ
  img = old.flash.now.img.now

  module _ (p : ℕ) (hp : (p < G.pages) × (p ≡ first_page G PartialOpen img)) (x : ℕ) (hx : x ≡ next G p) where
    -- the page after the PartialOpen one is Open
    pub turn_on : same Open (state G img x) ≡ true → (new : Storage) (r : Answer) → RunOk 1 (fill_of G p k v) old new r
        → RunOk 1 (turn G k v) old new r
    unfolding turn
    turn_on t new r R = came_from (rw (← hp.1, lt-ltb p G.pages hp.0, ← hx, t) refl) R

    -- it isn't
    pub turn_stuck : same Open (state G img x) ≡ false → RunOk 1 (turn G k v) old old Corrupted
    unfolding turn
    turn_stuck t =
        came_more (omega arith)
        (came_from (rw (← hp.1, lt-ltb p G.pages hp.0, ← hx, t) refl) (came_refl old (out Corrupted (st_of old))))

  module _ (np : first_page G PartialOpen img ≡ G.pages) where
    -- no page is PartialOpen, and none Open
    pub turn_none : first_page G Open img ≡ G.pages → RunOk 1 (turn G k v) old old Corrupted
    unfolding turn
    turn_none e =
        came_more (omega arith) (came_from (rw (np, e, le-ltb G.pages G.pages (omega arith)) refl)
        (came_refl old (out Corrupted (st_of old))))

    -- the first Open page is marked
    pub turn_first : (o : ℕ) → (o < G.pages) × (o ≡ first_page G Open img) → (new : Storage)
        → Programmed old.flash.now new.flash.now (start_at G o) (zero_word G)
        → new.flash.ghost_name ≡ old.flash.ghost_name → new.slots ≡ old.slots → new.cache ≡ old.cache
        → new.erased ≡ old.erased → RunOk 1 (turn G k v) old new FullStorage
    unfolding turn
    turn_first o ho new P lent slots cache erased =
        came_more (omega arith) (came_from (rw (np, le-ltb G.pages G.pages (omega arith), ← ho.1, lt-ltb o G.pages ho.0) refl)
        (came_program (start_at G o) (zero_word G) (out FullStorage) old new P lent slots cache erased))

-- ---- turns

module _ (k : ℕ) (v : List ℕ) (n t : ℕ) (h : t < n) (old now new : Storage) (o : Out) (r : Answer)
    (I : Came t old now o (turns old.flash.now.geo (n - t) k v (st_of now)))
    (R : RunOk 1 (turn now.flash.now.geo k v) now new r) where
  -- one more turn
  pub one_more : Came (t + 1) old new o
      (pick (is_no 7 r) (turns old.flash.now.geo (n - (t + 1)) k v (st_of new)) (out r (st_of new)))
  unfolding turns
  one_more =
      let q : n - t ≡ suc (n - (t + 1)) = omega arith in
      came_then I (came_from (rw (q, I.keeps.same.geo) refl) (came_on 7 (turns old.flash.now.geo (n - (t + 1)) k v) r R))

pub no_more : (k : ℕ) (v : List ℕ) (G : Geo) (s : St) (t : ℕ) → t ≡ 0 → turns G t k v s ≡ out FullStorage s
unfolding turns
no_more k v G s t h = rw h refl

pub all_left : (k : ℕ) (v : List ℕ) (s : Storage)
    → Came 0 s s (turns s.flash.now.geo s.flash.now.geo.pages k v (st_of s))
    (turns s.flash.now.geo (s.flash.now.geo.pages - 0) k v (st_of s))
all_left k v s =
    let q : s.flash.now.geo.pages - 0 ≡ s.flash.now.geo.pages = omega arith in
    rw q (came_refl s (turns s.flash.now.geo s.flash.now.geo.pages k v (st_of s)))
