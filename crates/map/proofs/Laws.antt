-- A public call is refused, or it runs.
use mathlib.Core.Path.{◌≡◌, refl, ap, sym, ◌∙◌}
use Prim.Native.Nat.{ℕ, ◌≤◌, ◌<◌}
use native.Mathlib.Omega.{arith}
use mathlib.Core.Bool.{Bool, true, false}
use mathlib.Core.List.{List, [], ◌++◌}
use lib.ListN.{length, take, drop}
use borrow.Author.Tests.{ne_eqb, eq-eqb, eqb-true, eqb-false, ltb-true}
use Rattle.rules.specs.declared.{Geo.Geo, Cursor.Cursor, Answer.Answer, Answer.TheVariants.Done}
use Rattle.rules.specs.declared.{Answer.TheVariants.Corrupted}
use Rattle.rules.specs.Bytes.{pick, FlashStep}
use Rattle.rules.specs.Cache.{Cache as Entries}
use Rattle.rules.specs.Answers.{number, is_no, refusal}
use Rattle.rules.specs.Pages.{data_at, is_page, any_corrupted}
use Rattle.rules.specs.Runs.{St, Out, out, after, on, on_done, End, end, final, cleared, clear_corrupted}
use Rattle.rules.specs.Store.{repair, looked, auto_repair}
use Rattle.rules.specs.Walk.{Step, ended, stepped, walk_first, run_start, walk_start}
use Rattle.rules.specs.Calls.{Told as Handed, no_cursor, step_answer, step_cursor, geo_of, tell, behind, steps_behind}
use Rattle.rules.specs.Calls.{Cut}
use Rattle.cache.specs.declared.{Cache.Cache}
use Rattle.laws.specs.Power.{lasts-endless, spend_zero}
use Rattle.rules.specs.Power.{endless, units}
use Rattle.cache.specs.Code.{pointers, Past}
use Rattle.cache.proofs.Whole.{take-pointers, past_pointers}
use Rattle.laws.specs.Through.{Through, thr_cut}
use Rattle.fetch.specs.declared.storage.Storage.{Storage}
use Rattle.fetch.specs.Code.{st_of}
use Rattle.walk.specs.Code.{told_step}
use Rattle.map.specs.Code.{lent_of, RunCut, answered, HasFirst, first_cursor, stepped_by}

-- ---- a refusal

module _ (E m v : ℕ) (img : List ℕ) (no : Answer) (hno : no ≡ refusal 4 E (length img) m v) (hd : 0 < number no) where
  not_done : number no ≡ 0 → ⊥
  not_done z = omega arith

  -- it leaves everything
  pub refused : (f : Geo → St → Out) (cur : Geo → Out → Cursor) (c₀ : Cursor) (c : Entries)
      → answered no c₀ (record { image = img; cache = c })
      ≡ behind 4 E m v (record { image = img; cache = c }) f cur c₀
  unfolding behind
  refused f cur c₀ c = rw (← hno, ne_eqb (number no) 0 not_done) refl

  steps-none : (f : Geo → St → Out) (c : Cache) → steps_behind 4 E m v (lent_of img c) f ≡ []
  unfolding steps_behind
  steps-none f c = rw (← hno, ne_eqb (number no) 0 not_done) refl

  pub refused-cut : (f : Geo → St → Out) (c : Cache) (p : ℕ)
      → RunCut E m v (lent_of img c) f p p (answered no no_cursor (lent_of img c))
  refused-cut f c p =
      record {
        image = rw (steps-none f c) refl;
        left = rw (steps-none f c) (sym (spend_zero p));
        whole = λ q. refused f (λ G o. no_cursor) no_cursor (pointers 32 c);
      }

-- ---- a run

module _ (E m v : ℕ) (img : List ℕ) (ok : refusal 4 E (length img) m v ≡ Done) (G : Geo)
    (g : G ≡ geo_of 4 E (length img)) (f : Geo → St → Out) where
  passed : (cur : Geo → Out → Cursor) (c₀ : Cursor) (c : Entries)
      → behind 4 E m v (record { image = img; cache = c }) f cur c₀
      ≡ tell m (record { image = img; cache = c }) (cur G) (f G (record { img = img; cache = take m c; erased = 0 }))
  unfolding behind
  passed cur c₀ c = rw (ok, g) refl

  module _ (le : m ≤ 32) (c : Cache) where
    -- what the run begins with
    abbrev lent : St
    lent = record { img = img; cache = pointers m c; erased = 0 }

    -- a run hands back its end, and the entries past the size as they were
    pub ran : (new : Storage) (a : Answer) → end a (st_of new) ≡ final (f G lent) → new.slots.count ≡ m → Past m c new.cache
        → (img' : List ℕ) → img' ≡ new.flash.now.img.now → (cur : Geo → Out → Cursor) (c₀ k : Cursor)
        → k ≡ cur G (f G lent)
        → record { answer = a; cursor = k; image = img'; cache = pointers 32 new.cache; erased = new.erased }
        ≡ behind 4 E m v (lent_of img c) f cur c₀
    ran new a R n P img' hi cur c₀ k hk =
        let R' = rw n at R in
        let whole : tell m (lent_of img c) (λ x. k) (f G lent)
        ≡ record {
          answer = a;
          cursor = k;
          image = new.flash.now.img.now;
          cache = pointers 32 new.cache;
          erased = new.erased;
        } = ap {B = Handed} (λ (x : End).
        record {
          answer = x.ans;
          cursor = k;
          image = x.st.img;
          cache = x.st.cache ++ drop m (pointers 32 c);
          erased = x.st.erased;
        }) (sym R')
        ∙ ap {B = Handed}
        (λ (q : Entries).
        record { answer = a; cursor = k; image = new.flash.now.img.now; cache = q; erased = new.erased })
        (past_pointers c new.cache m le P) in
        ap {B = Handed} (λ (x : List ℕ).
        record { answer = a; cursor = k; image = x; cache = pointers 32 new.cache; erased = new.erased }) hi
        ∙ sym (passed cur c₀ (pointers 32 c) ∙ rw (take-pointers c m le, ← hk) whole)

    steps_are : steps_behind 4 E m v (lent_of img c) f ≡ (f G lent).steps
    unfolding steps_behind
    steps_are = rw (ok, take-pointers c m le, ← g) refl

    -- the same with power
    pub ran_cut : (p : ℕ) (new : Storage) (a : Answer)
        → Through G (f G lent) img p new.flash.now.img.now new.flash.now.power (out a (st_of new)) → new.slots.count ≡ m
        → Past m c new.cache → (img' : List ℕ) (p' : ℕ) → img' ≡ new.flash.now.img.now → p' ≡ new.flash.now.power
        → RunCut E m v (lent_of img c) f p p'
        (record { answer = a; cursor = no_cursor; image = img'; cache = pointers 32 new.cache; erased = new.erased })
    ran_cut p new a R n P img' p' hi hp =
        let t = thr_cut G (f G lent) img new.flash.now.img.now p new.flash.now.power a (st_of new) R in
        let e : G.page ≡ E = ap (λ (x : Geo). x.page) g in
        record {
          image = hi ∙ rw (steps_are, ← e) t.0;
          left = hp ∙ rw steps_are t.1;
          whole = λ q. ran new a (t.2 (rw steps_are at q)) n P img' hi (λ G o. no_cursor) no_cursor no_cursor refl;
        }

-- with endless power a call is as it is defined
pub whole_endless : (E : ℕ) (img : List ℕ) (steps : List FlashStep) (done t : Handed) (p' : ℕ)
    → Cut E img steps done endless p' t → t ≡ done
whole_endless E img steps done t p' C = C.whole (lasts-endless endless (units steps) (omega arith))

-- a call that reads only takes no cache, and leaves everything
pub read_only : (E : ℕ) (img : List ℕ) → refusal 4 E (length img) 0 0 ≡ Done → (G : Geo) → G ≡ geo_of 4 E (length img)
    → (f : Geo → St → Out) (cur : Geo → Out → Cursor) (c₀ : Cursor) (a : Answer) (k : Cursor) (c : Entries)
    → final (f G (record { img = img; cache = []; erased = 0 })) ≡ end a (record { img = img; cache = []; erased = 0 })
    → cur G (f G (record { img = img; cache = []; erased = 0 })) ≡ k
    → answered a k (record { image = img; cache = c }) ≡ behind 4 E 0 0 (record { image = img; cache = c }) f cur c₀
read_only E img ok G g f cur c₀ a k c ha hk =
    let here : tell 0 (record { image = img; cache = c }) (cur G) (f G (record { img = img; cache = []; erased = 0 }))
    ≡ answered a k (record { image = img; cache = c }) = rw hk
    (ap {B = Handed} (λ (x : End).
    record { answer = x.ans; cursor = k; image = x.st.img; cache = x.st.cache ++ c; erased = x.st.erased })
    ha) in
    sym (passed E 0 0 img ok G g f cur c₀ c ∙ here)

-- ---- a walk's start that is done has a first page

module _ (G : Geo) where
  abbrev Starts : Out → Type 0
  Starts o = number o.ans ≡ 0 → is_page G (walk_first G o.st.img) ≡ true

  on_starts : (n : ℕ) (o : Out) (f : St → Out) → ((s : St) → Starts (f s)) → (is_no n o.ans ≡ false → Starts o)
      → Starts (on n o f)
  unfolding on
  on_starts n o f h k = go (is_no n o.ans) refl
    where
      go : (b : Bool) → is_no n o.ans ≡ b → Starts (pick b (after o.steps (f o.st)) o)
      go true q = h o.st
      go false q = k q

  looked_starts : (s : St) → Starts (looked G (run_start G) s)
  looked_starts s = go (any_corrupted G s.img) (is_page G (walk_first G s.img)) refl
    where
      go : (b t : Bool) → is_page G (walk_first G s.img) ≡ t
          → Starts (pick b (out Corrupted s) (pick t (out Done s) (out Corrupted s)))
      go true t q z = absurd (omega arith)
      go false true q z = q
      go false false q z = absurd (omega arith)

  walk_starts : (s : St) → Starts (walk_start G s)
  unfolding walk_start auto_repair
  walk_starts s =
      on_starts 8 (looked G (run_start G) s) (λ s₁. clear_corrupted (on_done (repair G s₁) (looked G (run_start G))))
      (λ s₁. on_starts 8 (on_done (repair G s₁) (looked G (run_start G))) (λ s₂. out Corrupted (cleared s₂))
      (λ s₂ z. absurd (omega arith))
      (λ q. on_starts 0 (repair G s₁) (looked G (run_start G)) looked_starts
      (λ e z. absurd (eqb-false (number (repair G s₁).ans) 0 e z)))) (λ q. looked_starts s)

  pub has_first : (s : St) (img' : List ℕ) (a : Answer) (s' : St) → s'.img ≡ img' → end a s' ≡ final (walk_start G s)
      → HasFirst G img' a
  has_first s img' a s' hi R =
      record {
        is = λ e. let same : is_no 0 (walk_start G s).ans ≡ is_no 0 a = ap (λ (x : End). is_no 0 x.ans) (sym R) in
            let page : is_page G (walk_first G (walk_start G s).st.img) ≡ true =
            walk_starts s (eqb-true _ 0 (same ∙ e)) in
            ltb-true (walk_first G img') G.pages
            (ap (λ (x : List ℕ). is_page G (walk_first G x)) (sym hi) ∙ ap (λ (x : End). is_page G (walk_first G x.st.img)) R
            ∙ page);
      }

-- ---- a step, as it is handed back

pub step_answer_lem : (c : Cursor) (x : Step) → (stepped_by c (told_step x)).answer ≡ step_answer x
step_answer_lem c ended = refl
step_answer_lem c (stepped e n) = refl

pub step_cursor_lem : (c : Cursor) (x : Step) → (stepped_by c (told_step x)).cursor ≡ step_cursor c x
step_cursor_lem c ended = refl
step_cursor_lem c (stepped e n) = refl
