-- The steps of a call are all that it does to the image: replayed on the image it began with they give the one it leaves, on every image and
-- with every cache.
use Rattle.std.specs.Prelude.{◌≡◌, Bool, true, false, replicate, eqb}
use Rattle.std.proofs.Math.Path.{refl, sym}
use Rattle.std.proofs.Common.{◌∙◌}
use Prim.Native.Nat.{ℕ, zero, suc, ◌+◌}
use mathlib.Core.List.{List, [], ◌∷◌, ◌++◌}
use Rattle.std.proofs.Math.ListN.{length}
use Rattle.rules.specs.declared.{Geo.Geo, PageState.TheVariants.Open, PageState.TheVariants.PartialOpen, PageState.TheVariants.Corrupted as CorruptedPage, Answer.Answer, Answer.TheVariants.Done, Answer.TheVariants.FullStorage, Answer.TheVariants.Corrupted}
use Rattle.rules.specs.Bytes.{pick, program, erase, FlashStep, apply, replay}
use Rattle.rules.specs.Items.{Entry, encode, size}
use Rattle.rules.specs.Pages.{same, state, scan_of, items_of, start_at, data_at, end_at, zero_word, has_free_spot, blank_at, next, all_pages, first_page, is_page, any_corrupted}
use Rattle.rules.specs.Cache.{lookup}
use Rattle.rules.specs.Answers.{is_no}
use Rattle.rules.specs.Runs.{St, Out, out, after, on, on_done, programming, erasing, noting, cleared, clear_corrupted}
use Rattle.rules.specs.Fetch.{Found, corrupt, missing, found, newest, hit, note_found, full_fetch, on_hit, fetch_in, run_fetch, served_by}
use Rattle.rules.specs.Store.{span_of, copy_of, migrate_one, migrate_all, migrate, rolled, rollover, turn, turns, erase_corrupted, mend, repair, looked, auto_repair, fetch_by, fetch, store}
use Rattle.rules.specs.Remove.{Which, every, only, matches, forgetting, remove_entries, remove_pages, run_remove, remove, erase_pages, erase_all}
use Rattle.rules.specs.Walk.{walk_first, run_start, walk_start}

module _ (G : Geo) where
  pub replay-append : (xs ys : List FlashStep) (img : List ℕ) → replay G.page img (xs ++ ys) ≡ replay G.page (replay G.page img xs) ys
  replay-append [] ys img = refl
  replay-append (x ∷ xs) ys img = replay-append xs ys (apply G.page img x)

  pub record Plays (img : List ℕ) (r : Out) : Type 0 where
    pub is : replay G.page img r.steps ≡ r.st.img

  -- a run that plays on every state
  abbrev pub Playing : (St → Out) → Type 0
  Playing f = (s : St) → Plays s.img (f s)

  -- ---- how runs are put together

  still : (a : Answer) → Playing (out a)
  still a s = record { is = refl }

  pick_plays : (img : List ℕ) (b : Bool) (x y : Out) → Plays img x → Plays img y → Plays img (pick b x y)
  pick_plays img true x y h k = h
  pick_plays img false x y h k = k

  on_plays : (n : ℕ) (img : List ℕ) (o : Out) (f : St → Out) → Plays img o → Playing f → Plays img (on n o f)
  unfolding on
  on_plays n img o f h k =
      pick_plays img (is_no n o.ans) (after o.steps (f o.st)) o
      (record { is = replay-append o.steps (f o.st).steps img ∙ rw h.is (k o.st).is }) h

  programming_plays : (a : ℕ) (bs : List ℕ) (f : St → Out) → Playing f → Playing (λ s. programming a bs s f)
  programming_plays a bs f h s = record { is = (h (record { img = program s.img a bs; cache = s.cache; erased = s.erased })).is }

  erasing_plays : (p : ℕ) (f : St → Out) → Playing f → Playing (λ s. erasing G p s f)
  erasing_plays p f h s = record { is = (h (record { img = erase G.page s.img p; cache = s.cache; erased = s.erased + 1 })).is }

  -- ---- fetch

  note-img : (k : ℕ) (s : St) (r : Found) → (note_found k s r).st.img ≡ s.img
  note-img k s corrupt = refl
  note-img k s missing = refl
  note-img k s (found e) = refl

  -- a fetch changes no byte
  pub fetch-img : (k : ℕ) (s : St) → (fetch_in G k s).st.img ≡ s.img
  unfolding fetch_in
  fetch-img k s = go (eqb (lookup k s.cache) 0) (hit G s.img k (lookup k s.cache))
    where
      served : (r : Found) → (on_hit G k s r).st.img ≡ s.img
      served corrupt = note-img k (cleared s) (newest G s.img k)
      served missing = note-img k (cleared s) (newest G s.img k)
      served (found e) = refl

      go : (b : Bool) (r : Found) → (pick b (full_fetch G k s) (on_hit G k s r)).st.img ≡ s.img
      go true r = note-img k s (newest G s.img k)
      go false r = served r

  -- ---- store

  one_plays : (e : Entry) (a : ℕ) (f : ℕ → St → Out) → ((b : ℕ) → Playing (f b)) → (r : Found) → Playing (λ s. migrate_one G e a s f r)
  one_plays e a f h corrupt s = record { is = refl }
  one_plays e a f h missing s = record { is = refl }
  one_plays e a f h (found x) s =
      let copied = programming a (copy_of G s.img e) (noting e.it.key a s) (f (a + span_of G e)) in
      let moved = pick (blank_at s.img a (span_of G e)) copied (out Corrupted s) in
      pick_plays s.img (eqb x.at e.at) moved (f a s)
      (pick_plays s.img (blank_at s.img a (span_of G e)) copied (out Corrupted s)
      (record { is = (programming_plays a (copy_of G s.img e) (f (a + span_of G e)) (h (a + span_of G e)) (noting e.it.key a s)).is })
      (record { is = refl }))
      (h a s)

  all_plays : (es : List Entry) (a : ℕ) → Playing (migrate_all G es a)
  unfolding migrate_all
  all_plays [] a s = record { is = refl }
  all_plays (e ∷ es) a s =
      let g = fetch_in G e.it.key s in
      let r = one_plays e a (migrate_all G es) (λ b. all_plays es b) g.res g.st in
      record { is = rw (fetch-img e.it.key s) at r.is }

  migrate_plays : (source target : ℕ) → Playing (migrate G source target)
  unfolding migrate
  migrate_plays source target s =
      on_plays 0 s.img (migrate_all G (items_of G s.img source) (data_at G target) s) (λ s'. erasing G source s' (out Done))
      (all_plays (items_of G s.img source) (data_at G target) s) (erasing_plays source (out Done) (still Done))

  rolled_plays : (q : ℕ) → Playing (rolled G q)
  unfolding rolled
  rolled_plays q s =
      pick_plays s.img (same Open (state G s.img (next G q))) (out Done s) (migrate G (next G q) q s) (still Done s) (migrate_plays (next G q) q s)

  rollover_plays : (q : ℕ) → Playing (rollover G q)
  unfolding rollover
  rollover_plays q s = programming_plays (start_at G q) (zero_word G) (rolled G q) (rolled_plays q) s

  turn_plays : (k : ℕ) (v : List ℕ) → Playing (turn G k v)
  unfolding turn
  turn_plays k v s =
      let p = first_page G PartialOpen s.img in
      let o = first_page G Open s.img in
      let a = (scan_of G s.img p).end in
      let go : St → Out = λ s'. on_done (rollover G (next G p) s') (out FullStorage) in
      let write = programming a (encode G.word k v) (noting k a s) (out Done) in
      let roll = programming (end_at G p) (zero_word G) s go in
      let mark = programming (start_at G o) (zero_word G) s (out FullStorage) in
      let b = has_free_spot G s.img p (size G.word (4 + length v)) in
      let c = same Open (state G s.img (next G p)) in
      let bad = out Corrupted s in
      pick_plays s.img (is_page G p) (pick c (pick b write roll) bad) (pick (is_page G o) mark bad)
      (pick_plays s.img c (pick b write roll) bad
      (pick_plays s.img b write roll (record { is = refl })
      (programming_plays (end_at G p) (zero_word G) go (λ u. on_plays 0 u.img (rollover G (next G p) u) (out FullStorage) (rollover_plays (next G p) u) (still FullStorage)) s))
      (still Corrupted s))
      (pick_plays s.img (is_page G o) mark bad (record { is = refl }) (still Corrupted s))

  turns_plays : (t k : ℕ) (v : List ℕ) → Playing (turns G t k v)
  unfolding turns
  turns_plays zero k v s = record { is = refl }
  turns_plays (suc t) k v s = on_plays 7 s.img (turn G k v s) (turns G t k v) (turn_plays k v s) (turns_plays t k v)

  -- ---- repair, and a run that may repair

  mend_plays : Playing (mend G)
  unfolding mend
  mend_plays s =
      let p = first_page G PartialOpen s.img in
      let mark : St → Out = λ s'. programming (start_at G p) (zero_word G) s' (migrate G (next G p) p) in
      let redo = erasing G p s mark in
      let b = same Open (state G s.img (next G p)) in
      pick_plays s.img (is_page G p) (pick b (out Done s) redo) (out Done s)
      (pick_plays s.img b (out Done s) redo (still Done s)
      (erasing_plays p mark (programming_plays (start_at G p) (zero_word G) (migrate G (next G p) p) (migrate_plays (next G p) p)) s))
      (still Done s)

  corrupted_plays : (ps : List ℕ) (f : St → Out) → Playing f → Playing (λ s. erase_corrupted G ps s f)
  unfolding erase_corrupted
  corrupted_plays [] f h s = h s
  corrupted_plays (p ∷ ps) f h s =
      pick_plays s.img (same CorruptedPage (state G s.img p)) (erasing G p s (λ s'. erase_corrupted G ps s' f)) (erase_corrupted G ps s f)
      (erasing_plays p (λ s'. erase_corrupted G ps s' f) (corrupted_plays ps f h) s) (corrupted_plays ps f h s)

  pub repair_plays : Playing (repair G)
  unfolding repair
  repair_plays s = record { is = (corrupted_plays (all_pages G) (mend G) mend_plays (cleared s)).is }

  auto_plays : (f : St → Out) → Playing f → Playing (auto_repair G f)
  unfolding auto_repair
  auto_plays f h s =
      let lk : Playing (looked G f) = λ t. pick_plays t.img (any_corrupted G t.img) (out Corrupted t) (f t) (still Corrupted t) (h t) in
      on_plays 8 s.img (looked G f s) (λ t. clear_corrupted (on_done (repair G t) (looked G f))) (lk s)
      (λ t. on_plays 8 t.img (on_done (repair G t) (looked G f)) (λ u. out Corrupted (cleared u))
      (on_plays 0 t.img (repair G t) (looked G f) (repair_plays t) lk) (λ u. record { is = refl }))

  pub fetch_plays : (k : ℕ) → Playing (fetch G k)
  unfolding fetch
  fetch_plays k s = go (served_by G k s)
    where
      run : Playing (run_fetch G k)
      run u = record { is = sym (fetch-img k u) }

      go : (r : Found) → Plays s.img (fetch_by G k s r)
      go corrupt = auto_plays (run_fetch G k) run s
      go missing = auto_plays (run_fetch G k) run s
      go (found e) = record { is = refl }

  pub store_plays : (k : ℕ) (v : List ℕ) → Playing (store G k v)
  unfolding store
  store_plays k v s = auto_plays (turns G G.pages k v) (turns_plays G.pages k v) s

  -- ---- removal, erase all, walk

  entries_plays : (t : Which) (es : List Entry) (f : St → Out) → Playing f → Playing (λ s. remove_entries t es s f)
  unfolding remove_entries
  entries_plays t [] f h s = h s
  entries_plays t (e ∷ es) f h s =
      pick_plays s.img (matches t e) (programming (e.at + 4) (replicate 4 0) s (λ s'. remove_entries t es s' f)) (remove_entries t es s f)
      (programming_plays (e.at + 4) (replicate 4 0) (λ s'. remove_entries t es s' f) (entries_plays t es f h) s) (entries_plays t es f h s)

  pages_plays : (t : Which) (ps : List ℕ) → Playing (remove_pages G t ps)
  unfolding remove_pages
  pages_plays t [] s = record { is = refl }
  pages_plays t (p ∷ ps) s =
      pick_plays s.img (same Open (state G s.img p)) (remove_pages G t ps s) (remove_entries t (items_of G s.img p) s (remove_pages G t ps))
      (pages_plays t ps s) (entries_plays t (items_of G s.img p) (remove_pages G t ps) (pages_plays t ps) s)

  pub remove_plays : (t : Which) → Playing (remove G t)
  unfolding remove
  remove_plays t s = auto_plays (run_remove G t) (run t) s
    where
      run : (t : Which) → Playing (run_remove G t)
      run every u = record { is = (pages_plays every _ (forgetting every u)).is }
      run (only k) u = record { is = (pages_plays (only k) _ (forgetting (only k) u)).is }

  erases_plays : (ps : List ℕ) → Playing (erase_pages G ps)
  unfolding erase_pages
  erases_plays [] s = record { is = refl }
  erases_plays (p ∷ ps) s = erasing_plays p (erase_pages G ps) (erases_plays ps) s

  pub erase_plays : Playing (erase_all G)
  unfolding erase_all
  erase_plays s = record { is = (erases_plays (all_pages G) (cleared s)).is }

  pub start_plays : Playing (walk_start G)
  unfolding walk_start
  start_plays s =
      auto_plays (run_start G) (λ u. pick_plays u.img (is_page G (walk_first G u.img)) (out Done u) (out Corrupted u) (still Done u) (still Corrupted u)) s
