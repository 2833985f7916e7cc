-- What every run keeps, on any image: the number of cache entries, the length of the image, a bound on the pages erased; and a value or an item that
-- is answered lies in the image.
use Rattle.std.specs.Prelude.{◌≡◌, Bool, length, take, drop, replicate, eqb}
use Rattle.std.proofs.Math.Path.{refl, subst}
use Rattle.std.proofs.Common.{sym, ap, ◌∙◌, length-append, length-drop, length-take, arith, ltb-true}
use Prim.Native.Nat.{ℕ, zero, suc, ◌+◌, ◌*◌, ◌≤◌, ◌<◌}
use Rattle.std.proofs.Math.Bool.{true, false}
use mathlib.Core.List.{List, [], ◌∷◌}
use Rattle.std.proofs.lemmas.List.{length-replicate}
use Rattle.rules.specs.declared.{Geo.Geo, Answer.Answer, Answer.TheVariants.Done, Answer.TheVariants.FullStorage, Answer.TheVariants.Corrupted, PageState.TheVariants.Open, PageState.TheVariants.PartialOpen, PageState.TheVariants.Corrupted as CorruptedPage}
use Rattle.rules.specs.Bytes.{pick, and_all, splice, program, erase}
use Rattle.rules.specs.Items.{Entry, encode, size}
use Rattle.rules.specs.Pages.{is_page, state, items_of, scan_of, next, data_at, end_at, zero_word, first_page, any_corrupted, blank_at, same, all_pages, up_from, start_at, ring_up, has_free_spot}
use Rattle.rules.specs.Cache.{lookup}
use Rattle.rules.specs.Answers.{is_no, paper}
use Rattle.rules.specs.Runs.{St, cleared, Out, out, on_done, programming, erasing, noting, on, after}
use Rattle.rules.specs.Fetch.{Found, corrupt, missing, found, newest, hit, fetch_in, full_fetch, note_found, on_hit, served_by, run_fetch, answer_of, plain_fetch}
use Rattle.rules.specs.Store.{migrate_all, migrate_one, migrate, rolled, rollover, turn, turns, erase_corrupted, mend, repair, looked, auto_repair, span_of, fetch, fetch_by, store}
use Rattle.rules.specs.Remove.{Which, every, only, matches, forgetting, remove_entries, remove_pages, remove_start, run_remove, remove, erase_all, erase_pages}
use Rattle.rules.specs.Walk.{run_start, walk_start, walk_first}
use Rattle.rules.specs.Held.{Held}
use Rattle.rules.specs.Sound.{All}
use Rattle.laws.specs.Lists.{up_from-All}
use Rattle.laws.specs.Splice.{length-splice}
use Rattle.laws.specs.Geometry.{page_in}
use Rattle.laws.specs.Moves.{next_in}
use Rattle.laws.specs.Plain.{Within, FoundIs, newest_within, hit_within}
use Rattle.theory.specs.CacheLaws.{length-clear, length-note, length-forget}

-- ---- the two changes keep the length

and_short : (os bs : List ℕ) → length (and_all os bs) ≤ length os
and_short [] bs = omega arith
and_short (o ∷ os) [] = omega arith
and_short (o ∷ os) (b ∷ bs) = omega (arith, and_short os bs)

program-length : (img : List ℕ) (at : ℕ) (bs : List ℕ) → length (program img at bs) ≡ length img
unfolding program splice
program-length img at bs =
    let new = and_all (take (length bs) (drop at img)) bs in
    let n = and_short (take (length bs) (drop at img)) bs in
    let t = length-take (length bs) (drop at img) in
    let d = length-drop at img in
    let f = length-take at img in
    let e = length-drop (at + length new) img in
    rw (length-append, length-append) (omega arith)

erase-length : (G : Geo) (img : List ℕ) (p : ℕ) → Held G (length img) → p < G.pages → length (erase G.page img p) ≡ length img
unfolding erase
erase-length G img p H hp =
    let r = length-replicate {A = ℕ} G.page 255 in
    length-splice img (p * G.page) (replicate G.page 255) (omega (arith, page_in G.page p G.pages hp, H.whole))

-- ---- a run's end

-- the place and length among an answer's values lie in n bytes
abbrev pub Lie : ℕ → List ℕ → Type 0
Lie n (k ∷ a ∷ l ∷ vs) = a + l ≤ n
Lie n (a ∷ l ∷ []) = a + l ≤ n
Lie n (a ∷ []) = Unit {0}
Lie n [] = Unit {0}

abbrev pub AnswerIn : ℕ → Answer → Type 0
AnswerIn n a = Lie n (paper a).values

-- a run from s that erases at most b pages
pub record Kept (G : Geo) (b : ℕ) (s : St) (o : Out) : Type 0 where
  pub entries : length o.st.cache ≡ length s.cache
  pub bytes : Held G (length s.img) → length o.st.img ≡ length s.img
  pub count : o.st.erased ≤ s.erased + b
  pub inside : Held G (length s.img) → AnswerIn (length s.img) o.ans

-- states that differ in the cache's entries alone
record Like (s t : St) : Type 0 where
  entries : length t.cache ≡ length s.cache
  image : t.img ≡ s.img
  count : t.erased ≡ s.erased

module _ (G : Geo) where
  done : (a : Answer) (s : St) → ((n : ℕ) → AnswerIn n a) → Kept G 0 s (out a s)
  done a s h = record { entries = refl; bytes = λ H. refl; count = omega arith; inside = λ H. h _ }

  more : (a b : ℕ) (s : St) (o : Out) → a ≤ b → Kept G a s o → Kept G b s o
  more a b s o h k = record { entries = k.entries; bytes = k.bytes; count = omega (arith, k.count); inside = k.inside }

  like : (b : ℕ) (s t : St) (o : Out) → Like s t → Kept G b t o → Kept G b s o
  like b s t o l k = record {
    entries = k.entries ∙ l.entries;
    bytes = λ H. k.bytes (subst (λ (i : List ℕ). Held G (length i)) (sym l.image) H) ∙ ap length l.image;
    count = omega (arith, k.count, l.count);
    inside = λ H. subst (λ (i : List ℕ). AnswerIn (length i) o.ans) l.image (k.inside (subst (λ (i : List ℕ). Held G (length i)) (sym l.image) H));
  }

  one_of : (b : ℕ) (s : St) (x : Bool) (o o' : Out) → Kept G b s o → Kept G b s o' → Kept G b s (pick x o o')
  one_of b s true o o' p q = p
  one_of b s false o o' p q = q

  goes_on : (m a b c : ℕ) → a + b ≤ c → (s : St) (o : Out) (f : St → Out) → Kept G a s o → ((t : St) → Kept G b t (f t)) → Kept G c s (on m o f)
  unfolding on
  goes_on m a b c h s o f p q =
      let k = q o.st in
      one_of c s (is_no m o.ans) (after o.steps (f o.st)) o
      (record {
        entries = k.entries ∙ p.entries;
        bytes = λ H. k.bytes (subst (Held G) (sym (p.bytes H)) H) ∙ p.bytes H;
        count = omega (arith, k.count, p.count);
        inside = λ H. subst (λ (n : ℕ). AnswerIn n (f o.st).ans) (p.bytes H) (k.inside (subst (Held G) (sym (p.bytes H)) H));
      })
      (more a c s o (omega arith) p)

  programs-on : (b at : ℕ) (bs : List ℕ) (s : St) (f : St → Out) → ((t : St) → Kept G b t (f t)) → Kept G b s (programming at bs s f)
  programs-on b at bs s f q =
      let k = q (record { img = program s.img at bs; cache = s.cache; erased = s.erased }) in
      let l = program-length s.img at bs in
      record {
        entries = k.entries;
        bytes = λ H. k.bytes (subst (Held G) (sym l) H) ∙ l;
        count = k.count;
        inside = λ H. subst (λ (n : ℕ). AnswerIn n (f (record { img = program s.img at bs; cache = s.cache; erased = s.erased })).ans) l (k.inside (subst (Held G) (sym l) H));
      }

  erases-on : (b c : ℕ) → b < c → (p : ℕ) (s : St) (f : St → Out) → p < G.pages → ((t : St) → Kept G b t (f t)) → Kept G c s (erasing G p s f)
  erases-on b c h p s f hp q =
      let k = q (record { img = erase G.page s.img p; cache = s.cache; erased = s.erased + 1 }) in
      record {
        entries = k.entries;
        bytes = λ H. let l = erase-length G s.img p H hp in k.bytes (subst (Held G) (sym l) H) ∙ l;
        count = omega (arith, k.count);
        inside = λ H. let l = erase-length G s.img p H hp in
            subst (λ (n : ℕ). AnswerIn n (f (record { img = erase G.page s.img p; cache = s.cache; erased = s.erased + 1 })).ans) l (k.inside (subst (Held G) (sym l) H));
      }

  empty_like : (s : St) → Like s (cleared s)
  empty_like s = record { entries = length-clear s.cache; image = refl; count = refl }

  note_like : (k a : ℕ) (s : St) → Like s (noting k a s)
  note_like k a s = record { entries = length-note k a s.cache; image = refl; count = refl }

  -- ---- a fetch

  found_like : (k : ℕ) (s : St) (r : Found) → Like s (note_found k s r).st
  found_like k s corrupt = record { entries = refl; image = refl; count = refl }
  found_like k s missing = record { entries = refl; image = refl; count = refl }
  found_like k s (found e) = note_like k e.at s

  found_within : (k : ℕ) (s : St) (r : Found) → FoundIs (Within G.word s.img) r → FoundIs (Within G.word s.img) (note_found k s r).res
  found_within k s corrupt h = tt
  found_within k s missing h = tt
  found_within k s (found e) h = h

  got_like : (k : ℕ) (s : St) → Like s (fetch_in G k s).st
  unfolding fetch_in
  got_like k s = go (eqb (lookup k s.cache) 0) (hit G s.img k (lookup k s.cache))
    where
      miss : Like s (full_fetch G k (cleared s)).st
      miss =
          let l = found_like k (cleared s) (newest G s.img k) in
          record { entries = l.entries ∙ length-clear s.cache; image = l.image; count = l.count }

      go : (b : Bool) (h : Found) → Like s (pick b (full_fetch G k s) (on_hit G k s h)).st
      go true h = found_like k s (newest G s.img k)
      go false corrupt = miss
      go false missing = miss
      go false (found e) = record { entries = refl; image = refl; count = refl }

  got_within : 0 < G.word → (k : ℕ) (s : St) → FoundIs (Within G.word s.img) (fetch_in G k s).res
  unfolding fetch_in
  got_within w k s = go (eqb (lookup k s.cache) 0) (hit G s.img k (lookup k s.cache)) (hit_within G s.img k w (lookup k s.cache))
    where
      new : FoundIs (Within G.word s.img) (newest G s.img k)
      new = newest_within G s.img k w

      go : (b : Bool) (h : Found) → FoundIs (Within G.word s.img) h → FoundIs (Within G.word s.img) (pick b (full_fetch G k s) (on_hit G k s h)).res
      go true h q = found_within k s (newest G s.img k) new
      go false corrupt q = found_within k (cleared s) (newest G s.img k) new
      go false missing q = found_within k (cleared s) (newest G s.img k) new
      go false (found e) q = q

  answer_within : (img : List ℕ) (r : Found) → FoundIs (Within G.word img) r → AnswerIn (length img) (answer_of r)
  answer_within img corrupt h = tt
  answer_within img missing h = tt
  answer_within img (found e) h = h.1

  search_kept : (k : ℕ) (s : St) → Kept G 0 s (run_fetch G k s)
  search_kept k s =
      let l = got_like k s in
      record {
        entries = l.entries;
        bytes = λ H. ap length l.image;
        count = omega (arith, l.count);
        inside = λ H. answer_within s.img (fetch_in G k s).res (got_within (omega (arith, H.low)) k s);
      }

  -- ---- migration and turns

  moves_kept : (es : List Entry) (a : ℕ) (s : St) → Kept G 0 s (migrate_all G es a s)
  unfolding migrate_all
  moves_kept [] a s = done Done s (λ n. tt)
  moves_kept (e ∷ es) a s =
      like 0 s (fetch_in G e.it.key s).st _ (got_like e.it.key s) (go (fetch_in G e.it.key s).st (fetch_in G e.it.key s).res (λ a s. moves_kept es a s))
    where
      go : (s : St) (r : Found) → ((a : ℕ) (s : St) → Kept G 0 s (migrate_all G es a s)) → Kept G 0 s (migrate_one G e a s (migrate_all G es) r)
      go s corrupt ih = done Corrupted s (λ n. tt)
      go s missing ih = done Corrupted s (λ n. tt)
      go s (found f) ih =
          one_of 0 s (eqb f.at e.at) _ _
          (one_of 0 s (blank_at s.img a (span_of G e)) _ _
          (like 0 s (noting e.it.key a s) _ (note_like e.it.key a s) (programs-on 0 a _ (noting e.it.key a s) (migrate_all G es (a + span_of G e)) (ih (a + span_of G e))))
          (done Corrupted s (λ n. tt)))
          (ih a s)

  migrate_kept : (source target : ℕ) (s : St) → source < G.pages → Kept G 1 s (migrate G source target s)
  unfolding migrate
  migrate_kept source target s h =
      goes_on 0 0 1 1 (omega arith) s (migrate_all G (items_of G s.img source) (data_at G target) s) (λ t. erasing G source t (out Done)) (moves_kept _ _ s)
      (λ t. erases-on 0 1 (omega arith) source t (out Done) h (λ u. done Done u (λ n. tt)))

  rolled_kept : (q : ℕ) (s : St) → q < G.pages → Kept G 1 s (rolled G q s)
  unfolding rolled
  rolled_kept q s h =
      one_of 1 s (same Open (state G s.img (next G q))) _ _ (more 0 1 s (out Done s) (omega arith) (done Done s (λ n. tt))) (migrate_kept (next G q) q s (next_in G q h))

  rollover_kept : (q : ℕ) (s : St) → q < G.pages → Kept G 1 s (rollover G q s)
  unfolding rollover
  rollover_kept q s h = programs-on 1 (start_at G q) (zero_word G) s (rolled G q) (λ t. rolled_kept q t h)

  turn_kept : (k : ℕ) (v : List ℕ) (s : St) → Kept G 1 s (turn G k v s)
  unfolding turn
  turn_kept k v s = go (is_page G p) refl
    where
      p : ℕ
      p = first_page G PartialOpen s.img

      a : ℕ
      a = (scan_of G s.img p).end

      free : (x : Answer) → ((n : ℕ) → AnswerIn n x) → Kept G 1 s (out x s)
      free x h = more 0 1 s (out x s) (omega arith) (done x s h)

      roll : St → Out
      roll t = on_done (rollover G (next G p) t) (out FullStorage)

      go : (b : Bool) → is_page G p ≡ b
          → Kept G 1 s (pick b
          (pick (same Open (state G s.img (next G p)))
          (pick (has_free_spot G s.img p (size G.word (4 + length v))) (programming a (encode G.word k v) (noting k a s) (out Done)) (programming (end_at G p) (zero_word G) s roll))
          (out Corrupted s))
          (pick (is_page G (first_page G Open s.img)) (programming (start_at G (first_page G Open s.img)) (zero_word G) s (out FullStorage)) (out Corrupted s)))
      go true e =
          let h = next_in G p (ltb-true p G.pages e) in
          one_of 1 s (same Open (state G s.img (next G p))) _ _
          (one_of 1 s (has_free_spot G s.img p (size G.word (4 + length v))) _ _
          (more 0 1 s _ (omega arith) (like 0 s (noting k a s) _ (note_like k a s) (programs-on 0 a (encode G.word k v) (noting k a s) (out Done) (λ t. done Done t (λ n. tt)))))
          (programs-on 1 (end_at G p) (zero_word G) s roll (λ t. goes_on 0 1 0 1 (omega arith) t (rollover G (next G p) t) (out FullStorage) (rollover_kept (next G p) t h) (λ u. done FullStorage u (λ n. tt)))))
          (free Corrupted (λ n. tt))
      go false e =
          one_of 1 s (is_page G (first_page G Open s.img)) _ _
          (more 0 1 s _ (omega arith) (programs-on 0 (start_at G (first_page G Open s.img)) (zero_word G) s (out FullStorage) (λ t. done FullStorage t (λ n. tt))))
          (free Corrupted (λ n. tt))

  turns_kept : (t k : ℕ) (v : List ℕ) (s : St) → Kept G t s (turns G t k v s)
  unfolding turns
  turns_kept zero k v s = done FullStorage s (λ n. tt)
  turns_kept (suc t) k v s = goes_on 7 1 t (suc t) (omega arith) s (turn G k v s) (turns G t k v) (turn_kept k v s) (λ u. turns_kept t k v u)

  -- ---- repair

  erased_kept : (ps : List ℕ) (b : ℕ) (s : St) (f : St → Out) → All (λ p. p < G.pages) ps → ((t : St) → Kept G b t (f t)) → Kept G (length ps + b) s (erase_corrupted G ps s f)
  unfolding erase_corrupted
  erased_kept [] b s f h q = more b (0 + b) s (f s) (omega arith) (q s)
  erased_kept (p ∷ ps) b s f h q =
      one_of (suc (length ps) + b) s (same CorruptedPage (state G s.img p)) _ _
      (erases-on (length ps + b) (suc (length ps) + b) (omega arith) p s (λ t. erase_corrupted G ps t f) h.0 (λ t. erased_kept ps b t f h.1 q))
      (more (length ps + b) (suc (length ps) + b) s _ (omega arith) (erased_kept ps b s f h.1 q))

  mend_kept : (s : St) → Kept G 2 s (mend G s)
  unfolding mend
  mend_kept s = go (is_page G p) refl
    where
      p : ℕ
      p = first_page G PartialOpen s.img

      idle : Kept G 2 s (out Done s)
      idle = more 0 2 s (out Done s) (omega arith) (done Done s (λ n. tt))

      again : St → Out
      again t = programming (start_at G p) (zero_word G) t (migrate G (next G p) p)

      go : (b : Bool) → is_page G p ≡ b → Kept G 2 s (pick b (pick (same Open (state G s.img (next G p))) (out Done s) (erasing G p s again)) (out Done s))
      go true e =
          let h = ltb-true p G.pages e in
          one_of 2 s (same Open (state G s.img (next G p))) _ _ idle
          (erases-on 1 2 (omega arith) p s again h (λ t. programs-on 1 (start_at G p) (zero_word G) t (migrate G (next G p) p) (λ u. migrate_kept (next G p) p u (next_in G p h))))
      go false e = idle

  all_in : All (λ p. p < G.pages) (all_pages G)
  all_in = up_from-All (λ p. p < G.pages) 0 G.pages (λ q l h. omega arith)

  all_count : (a m : ℕ) → length (up_from a m) ≡ m
  all_count a zero = refl
  all_count a (suc m) = ap suc (all_count (suc a) m)

  repair_kept : (s : St) → Kept G (G.pages + 2) s (repair G s)
  unfolding repair
  repair_kept s =
      let c = all_count 0 G.pages in
      like (G.pages + 2) s (cleared s) _ (empty_like s) (more (length (all_pages G) + 2) (G.pages + 2) (cleared s) _ (omega arith) (erased_kept (all_pages G) 2 (cleared s) (mend G) all_in mend_kept))

  -- a run, a repair, and the run again
  auto_kept : (b c : ℕ) → b + (G.pages + 2 + b) ≤ c → (f : St → Out) → ((s : St) → Kept G b s (f s)) → (s : St) → Kept G c s (auto_repair G f s)
  unfolding auto_repair
  auto_kept b c m f h s =
      let n = G.pages + 2 in
      let look : (t : St) → Kept G b t (looked G f t) =
      λ t. one_of b t (any_corrupted G t.img) _ _ (more 0 b t (out Corrupted t) (omega arith) (done Corrupted t (λ n. tt))) (h t) in
      goes_on 8 b (n + b) c m s (looked G f s) _ (look s)
      (λ t. goes_on 8 (n + b) 0 (n + b) (omega arith) t (on_done (repair G t) (looked G f)) (λ u. out Corrupted (cleared u))
      (goes_on 0 n b (n + b) (omega arith) t (repair G t) (looked G f) (repair_kept t) look)
      (λ u. like 0 u (cleared u) _ (empty_like u) (done Corrupted (cleared u) (λ n. tt))))

  -- ---- the calls

  abbrev pub most : ℕ
  most = 3 * G.pages + 2

  pub fetch_kept : (k : ℕ) (s : St) → Kept G most s (fetch G k s)
  unfolding fetch
  fetch_kept k s = go (served_by G k s) (served (eqb (lookup k s.cache) 0))
    where
      served : (b : Bool) → 0 < G.word → FoundIs (Within G.word s.img) (pick b missing (hit G s.img k (lookup k s.cache)))
      served true w = tt
      served false w = hit_within G s.img k w (lookup k s.cache)

      slow : Kept G most s (auto_repair G (run_fetch G k) s)
      slow = auto_kept 0 most (omega arith) (run_fetch G k) (search_kept k) s

      go : (r : Found) → (0 < G.word → FoundIs (Within G.word s.img) r) → Kept G most s (fetch_by G k s r)
      go corrupt h = slow
      go missing h = slow
      go (found e) h = record { entries = refl; bytes = λ H. refl; count = omega arith; inside = λ H. (h (omega (arith, H.low))).1 }

  pub plain_kept : (k : ℕ) (s : St) → Kept G most s (out (plain_fetch G s.img k) s)
  unfolding plain_fetch
  plain_kept k s = go (any_corrupted G s.img)
    where
      go : (b : Bool) → Kept G most s (out (pick b Corrupted (answer_of (newest G s.img k))) s)
      go true = more 0 most s (out Corrupted s) (omega arith) (done Corrupted s (λ n. tt))
      go false = record {
        entries = refl;
        bytes = λ H. refl;
        count = omega arith;
        inside = λ H. answer_within s.img (newest G s.img k) (newest_within G s.img k (omega (arith, H.low)));
      }

  pub store_kept : (k : ℕ) (v : List ℕ) (s : St) → Kept G most s (store G k v s)
  unfolding store
  store_kept k v s = auto_kept G.pages most (omega arith) (turns G G.pages k v) (turns_kept G.pages k v) s

  entries_kept : (t : Which) (es : List Entry) (s : St) (f : St → Out) → ((u : St) → Kept G 0 u (f u)) → Kept G 0 s (remove_entries t es s f)
  unfolding remove_entries
  entries_kept t [] s f q = q s
  entries_kept t (e ∷ es) s f q =
      one_of 0 s (matches t e) _ _ (programs-on 0 (e.at + 4) (replicate 4 0) s (λ u. remove_entries t es u f) (λ u. entries_kept t es u f q)) (entries_kept t es s f q)

  gone_kept : (t : Which) (ps : List ℕ) (s : St) → Kept G 0 s (remove_pages G t ps s)
  unfolding remove_pages
  gone_kept t [] s = done Done s (λ n. tt)
  gone_kept t (p ∷ ps) s =
      one_of 0 s (same Open (state G s.img p)) _ _ (gone_kept t ps s) (entries_kept t (items_of G s.img p) s (remove_pages G t ps) (λ u. gone_kept t ps u))

  forget_like : (t : Which) (s : St) → Like s (forgetting t s)
  forget_like every s = empty_like s
  forget_like (only k) s = record { entries = length-forget k s.cache; image = refl; count = refl }

  pub remove_kept : (t : Which) (s : St) → Kept G most s (remove G t s)
  unfolding remove
  remove_kept t s =
      auto_kept 0 most (omega arith) (run_remove G t) (λ u. like 0 u (forgetting t u) _ (forget_like t u) (gone_kept t (ring_up G (remove_start G u.img)) (forgetting t u))) s

  wiped_kept : (ps : List ℕ) (s : St) → All (λ p. p < G.pages) ps → Kept G (length ps) s (erase_pages G ps s)
  unfolding erase_pages
  wiped_kept [] s h = done Done s (λ n. tt)
  wiped_kept (p ∷ ps) s h = erases-on (length ps) (suc (length ps)) (omega arith) p s (erase_pages G ps) h.0 (λ t. wiped_kept ps t h.1)

  pub erase_kept : (s : St) → Kept G most s (erase_all G s)
  unfolding erase_all
  erase_kept s =
      let c = all_count 0 G.pages in
      like most s (cleared s) _ (empty_like s) (more (length (all_pages G)) most (cleared s) _ (omega arith) (wiped_kept (all_pages G) (cleared s) all_in))

  pub start_kept : (s : St) → Kept G most s (walk_start G s)
  unfolding walk_start
  start_kept s =
      auto_kept 0 most (omega arith) (run_start G) (λ u. one_of 0 u (is_page G (walk_first G u.img)) _ _ (done Done u (λ n. tt)) (done Corrupted u (λ n. tt))) s
