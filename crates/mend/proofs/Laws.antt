-- The runs of repair, as the code tells them.
use mathlib.Core.Path.{◌≡◌, refl, ap, sym, ◌∙◌}
use mathlib.Core.Bool.{true, false}
use Prim.Native.Nat.{ℕ, suc, ◌+◌, ◌-◌, ◌<◌}
use native.Mathlib.Nat.{sub-zero}
use native.Mathlib.Omega.{arith}
use borrow.Author.Tests.{lt-ltb, le-ltb}
use Rattle.rules.specs.declared.{Geo.Geo, Answer.Answer, Answer.TheVariants.Done}
use Rattle.rules.specs.declared.{PageState.TheVariants.Open, PageState.TheVariants.PartialOpen}
use Rattle.rules.specs.declared.{PageState.TheVariants.Corrupted as CorruptedPage}
use Rattle.rules.specs.Pages.{same, state, next, start_at, zero_word, all_pages, up_from, first_page}
use Rattle.rules.specs.Runs.{St, Out, out, programming, erasing, cleared}
use Rattle.rules.specs.Store.{migrate, erase_corrupted, mend, repair}
use Rattle.ring.specs.Flash.{Programmed}
use Rattle.fetch.specs.declared.storage.Storage.{Storage}
use Rattle.fetch.specs.Code.{st_of, KeepsImage, ErasesPage, Came, RunOk}
use Rattle.fetch.proofs.Runs.{came_refl, came_then, came_more, came_from, came_to, came_still, came_program, came_erase}
use Rattle.mend.specs.Code.{ErasedOk, redo_of}

-- ---- corrupted pages

-- what is left to do from page q on
abbrev rest : Geo → ℕ → St → (St → Out) → Out
rest G q = erase_corrupted G (up_from q (G.pages - q))

module _ (G : Geo) (q : ℕ) (s : St) (k : St → Out) (h : q < G.pages) where
  left : G.pages - q ≡ suc (G.pages - (q + 1))
  left = omega arith

  after_it : suc q ≡ q + 1
  after_it = omega arith

  rest_yes : same CorruptedPage (state G s.img q) ≡ true → rest G q s k ≡ erasing G q s (λ s'. rest G (q + 1) s' k)
  unfolding erase_corrupted
  rest_yes t =
      let later : ℕ → St → Out = λ x s'. erase_corrupted G (up_from x (G.pages - (q + 1))) s' k in
      rw (left, t) (ap (λ (x : ℕ). erasing G q s (later x)) after_it)

  rest_no : same CorruptedPage (state G s.img q) ≡ false → rest G q s k ≡ rest G (q + 1) s k
  unfolding erase_corrupted
  rest_no t = rw (left, t) (ap (λ (x : ℕ). erase_corrupted G (up_from x (G.pages - (q + 1))) s k) after_it)

rest_none : (G : Geo) (s : St) (k : St → Out) → rest G G.pages s k ≡ k s
unfolding erase_corrupted
rest_none G s k = let z : G.pages - G.pages ≡ 0 = omega arith in rw z refl

-- the run over all pages has come to page q
abbrev pub Swept : Storage → ℕ → Storage → Type 0
Swept old q new =
    (k : St → Out)
    → Came q old new (erase_corrupted old.flash.now.geo (all_pages old.flash.now.geo) (st_of old) k)
    (rest old.flash.now.geo q (st_of new) k)

pub swept_refl : (s : Storage) → Swept s 0 s
swept_refl s k = rw (sub-zero s.flash.now.geo.pages) (came_refl s _)

module _ (old now : Storage) (q : ℕ) (h : q < old.flash.now.geo.pages) (S : Swept old q now) where
  pub swept_yes : (new : Storage) → ErasesPage now new q
      → same CorruptedPage (state old.flash.now.geo now.flash.now.img.now q) ≡ true → Swept old (q + 1) new
  swept_yes new E t k =
      let G = old.flash.now.geo in
      let T = S k in
      let later : St → Out = λ s. rest G (q + 1) s k in
      came_then (came_to T (rest_yes G q (st_of now) k h t))
      (came_from (ap (λ (g : Geo). erasing g q (st_of now) later) (sym T.keeps.same.geo))
      (came_erase q later now new E))

  pub swept_no : same CorruptedPage (state old.flash.now.geo now.flash.now.img.now q) ≡ false → Swept old (q + 1) now
  swept_no t k = came_more (omega arith) (came_to (S k) (rest_no old.flash.now.geo q (st_of now) k h t))

pub swept_end : (old new : Storage) (q : ℕ) → q ≡ old.flash.now.geo.pages → Swept old q new → ErasedOk old new
swept_end old new q e S k =
    let T = rw e at S k in
    came_to T (rest_none old.flash.now.geo (st_of new) k)

-- ---- the redone migration

pub redo_run : (p x : ℕ) (old one two new : Storage) (a : Answer) → ErasesPage old one p
    → Programmed one.flash.now two.flash.now (start_at one.flash.now.geo p) (zero_word one.flash.now.geo)
    → two.flash.ghost_name ≡ one.flash.ghost_name → two.slots ≡ one.slots → two.cache ≡ one.cache
    → two.erased ≡ one.erased
    → x ≡ next two.flash.now.geo p → RunOk 1 (migrate two.flash.now.geo x p) two new a
    → RunOk 2 (redo_of old.flash.now.geo p) old new a
redo_run p x old one two new a E P lent slots cache erased hx R =
    let G = old.flash.now.geo in
    let g = E.page.same.geo in
    let moves : St → Out = migrate G (next G p) p in
    came_then (came_erase p (λ s. programming (start_at G p) (zero_word G) s moves) old one E)
    (came_then (came_from (ap (λ (x : Geo). programming (start_at x p) (zero_word x) (st_of one) moves) (sym g))
    (came_program (start_at one.flash.now.geo p) (zero_word one.flash.now.geo) moves one two P lent slots cache erased))
    (came_from (ap (λ (x : Geo). migrate x (next x p) p (st_of two)) (sym (P.same.geo ∙ g))
    ∙ ap (λ (y : ℕ). migrate two.flash.now.geo y p (st_of two)) (sym hx)) R))

-- ---- mend, by the state of the page after the first PartialOpen one

pub mend_none : (s : Storage) → first_page s.flash.now.geo PartialOpen s.flash.now.img.now ≡ s.flash.now.geo.pages
    → RunOk 2 (mend s.flash.now.geo) s s Done
unfolding mend
mend_none s h =
    came_more (omega arith) (came_from (rw (h, le-ltb s.flash.now.geo.pages s.flash.now.geo.pages (omega arith)) refl)
    (came_refl s (out Done (st_of s))))

module _ (old : Storage) (p : ℕ) (h : p < old.flash.now.geo.pages)
    (hp : p ≡ first_page old.flash.now.geo PartialOpen old.flash.now.img.now) where
  pub mend_open : same Open (state old.flash.now.geo old.flash.now.img.now (next old.flash.now.geo p)) ≡ true
      → RunOk 2 (mend old.flash.now.geo) old old Done
  unfolding mend
  mend_open t =
      came_more (omega arith) (came_from (rw (← hp, lt-ltb p old.flash.now.geo.pages h, t) refl)
      (came_refl old (out Done (st_of old))))

  pub mend_redo : (new : Storage) (a : Answer)
      → same Open (state old.flash.now.geo old.flash.now.img.now (next old.flash.now.geo p)) ≡ false
      → RunOk 2 (redo_of old.flash.now.geo p) old new a → RunOk 2 (mend old.flash.now.geo) old new a
  unfolding mend
  mend_redo new a t R = came_from (rw (← hp, lt-ltb p old.flash.now.geo.pages h, t) refl) R

-- ---- repair

pub repair_is : (old one two new : Storage) (a : Answer) → st_of one ≡ cleared (st_of old) → KeepsImage old one
    → ErasedOk one two → RunOk 2 (mend two.flash.now.geo) two new a
    → RunOk (old.flash.now.geo.pages + 2) (repair old.flash.now.geo) old new a
unfolding repair
repair_is old one two new a hc K E R =
    let G = old.flash.now.geo in
    let g = K.keeps.same.geo in
    let e = E (mend G) in
    came_more (omega (arith, ap (λ (x : Geo). x.pages) g))
    (came_from (ap (λ (s : St). erase_corrupted G (all_pages G) s (mend G)) (sym hc))
    (came_then (came_still old one (erase_corrupted G (all_pages G) (st_of one) (mend G)) K)
    (came_then (came_from (ap (λ (x : Geo). erase_corrupted x (all_pages x) (st_of one) (mend G)) (sym g)) e)
    (came_from (ap (λ (x : Geo). mend x (st_of two)) (sym (e.keeps.same.geo ∙ g))) R))))
