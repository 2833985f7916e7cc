-- A public call is its run behind its refusals: what a refusal leaves, what a run hands back, what every call keeps, and the steps.
use Rattle.std.specs.Prelude.{◌≡◌, refl, ◌≢◌, ◌⊎◌, ℕ, ◌+◌, ◌*◌, ◌/◌, ◌%◌, ◌≤◌, Bool, true, false, not, List, [], ◌∷◌, length, take, drop, ltb, eqb}
use Rattle.std.proofs.Common.{sym, ap, ◌∙◌, subst, length-append, take-append-drop, arith, eqb-true, ne_eqb}
use Rattle.std.proofs.lemmas.Bool.{eqb-false}
use Rattle.rules.specs.declared.{Geo.Geo, Cursor.Cursor, Answer.Answer, Answer.TheVariants.Done, Answer.TheVariants.EndRangeNotAtPageBoundary, Answer.TheVariants.RangeTooSmall, Answer.TheVariants.PagesTooSmall, Answer.TheVariants.Geometry, Answer.TheVariants.CacheSize, Answer.TheVariants.ItemTooBig}
use Rattle.rules.specs.Bytes.{pick, replay}
use Rattle.rules.specs.Answers.{paper, number, is_no, data_limit, refusal}
use Rattle.rules.specs.Runs.{St, Out}
use Rattle.rules.specs.Remove.{every, only}
use Rattle.rules.specs.Walk.{walk_first, cursor_at, walk_step}
use Rattle.rules.specs.Held.{Held}
use Rattle.rules.specs.Calls.{Call, fetch_item, fetch_plain, store_item, remove_item, remove_all_items, erase_all_pages, fetch_all_items, next_item, Lent, Told, no_cursor, start_cursor, step_cursor, geo_of, tell, behind, called, entries_of, run_of, value_of, steps_behind, steps_of}
use Rattle.laws.specs.Geometry.{accepted, held_of, zero_done, refusal_low}
use Rattle.laws.specs.Plays.{fetch_plays, store_plays, remove_plays, erase_plays, start_plays}
use Rattle.theory.specs.Kept.{Lie, AnswerIn, Kept, most, fetch_kept, plain_kept, store_kept, remove_kept, erase_kept, start_kept}
use Rattle.theory.specs.Steps.{CursorIn, start_in, step_answer_in, step_cursor_in}
use Rattle.promises.specs.Promise.{refusal_of, works_on, given_cursor, refused}

module _ (w E m v : ℕ) (b : Lent) (f : Geo → St → Out) (c : Geo → Out → Cursor) (c₀ : Cursor) where
  behind_yes : refusal w E (length b.image) m v ≡ Done
      → behind w E m v b f c c₀
      ≡ tell m b (c (geo_of w E (length b.image))) (f (geo_of w E (length b.image)) (record { img = b.image; cache = take m b.cache; erased = 0 }))
  unfolding behind
  behind_yes e = rw e

  behind-no : refusal w E (length b.image) m v ≢ Done
      → behind w E m v b f c c₀ ≡ record { answer = refusal w E (length b.image) m v; cursor = c₀; image = b.image; cache = b.cache; erased = 0 }
  unfolding behind
  behind-no n = rw (ne_eqb (number (refusal w E (length b.image) m v)) 0 (λ z. n (zero_done w E (length b.image) m v z)))

-- the cursor that a call hands back after its run
abbrev pub cursor_of : Geo → Call → Lent → Out → Cursor
cursor_of G (fetch_item k) b o = no_cursor
cursor_of G (fetch_plain k) b o = no_cursor
cursor_of G (store_item k v) b o = no_cursor
cursor_of G (remove_item k) b o = no_cursor
cursor_of G remove_all_items b o = no_cursor
cursor_of G erase_all_pages b o = no_cursor
cursor_of G fetch_all_items b o = start_cursor G o
cursor_of G (next_item c) b o = step_cursor c (walk_step G b.image c)

-- ---- a call that is refused, and one that is not

pub called-refused : (w E m : ℕ) (c : Call) (b : Lent) → refusal_of w E m c b ≢ Done → called w E m c b ≡ refused w E m c b
unfolding called
called-refused w E m (fetch_item k) b n = behind-no w E m 0 b _ _ _ n
called-refused w E m (fetch_plain k) b n = behind-no w E 0 0 b _ _ _ n
called-refused w E m (store_item k v) b n = behind-no w E m (length v) b _ _ _ n
called-refused w E m (remove_item k) b n = behind-no w E m 0 b _ _ _ n
called-refused w E m remove_all_items b n = behind-no w E m 0 b _ _ _ n
called-refused w E m erase_all_pages b n = behind-no w E m 0 b _ _ _ n
called-refused w E m fetch_all_items b n = behind-no w E m 0 b _ _ _ n
called-refused w E m (next_item c) b n = behind-no w E 0 0 b _ _ _ n

pub called_runs : (w E m : ℕ) (c : Call) (b : Lent) → refusal_of w E m c b ≡ Done
    → called w E m c b ≡ tell (entries_of m c) b (cursor_of (geo_of w E (length b.image)) c b) (run_of (geo_of w E (length b.image)) c (works_on m c b))
unfolding called
called_runs w E m (fetch_item k) b e = behind_yes w E m 0 b _ _ _ e
called_runs w E m (fetch_plain k) b e = behind_yes w E 0 0 b _ _ _ e
called_runs w E m (store_item k v) b e = behind_yes w E m (length v) b _ _ _ e
called_runs w E m (remove_item k) b e = behind_yes w E m 0 b _ _ _ e
called_runs w E m remove_all_items b e = behind_yes w E m 0 b _ _ _ e
called_runs w E m erase_all_pages b e = behind_yes w E m 0 b _ _ _ e
called_runs w E m fetch_all_items b e = behind_yes w E m 0 b _ _ _ e
called_runs w E m (next_item c) b e = behind_yes w E 0 0 b _ _ _ e

-- one or the other
pub either : (w E m : ℕ) (c : Call) (b : Lent) (P : Told → Type 0) → (refusal_of w E m c b ≢ Done → P (refused w E m c b))
    → (refusal_of w E m c b ≡ Done → P (tell (entries_of m c) b (cursor_of (geo_of w E (length b.image)) c b) (run_of (geo_of w E (length b.image)) c (works_on m c b))))
    → P (called w E m c b)
either w E m c b P f g = go (is_no 0 (refusal_of w E m c b)) refl
  where
    go : (x : Bool) → is_no 0 (refusal_of w E m c b) ≡ x → P (called w E m c b)
    go true q = let e = zero_done w E (length b.image) (entries_of m c) (value_of c) (eqb-true (number (refusal_of w E m c b)) 0 q) in subst P (sym (called_runs w E m c b e)) (g e)
    go false q = let n = eqb-false (number (refusal_of w E m c b)) 0 q in let n' : refusal_of w E m c b ≢ Done = λ e. n (ap number e) in subst P (sym (called-refused w E m c b n')) (f n')

pub low_of : (w E m : ℕ) (c : Call) (b : Lent) → number (refusal_of w E m c b) ≤ 6
low_of w E m c b = refusal_low w E (length b.image) (entries_of m c) (value_of c)

-- ---- what every call keeps

pub run_kept : (G : Geo) (c : Call) (s : St) → Kept G (most G) s (run_of G c s)
run_kept G (fetch_item k) s = fetch_kept G k s
run_kept G (fetch_plain k) s = plain_kept G k s
run_kept G (store_item k v) s = store_kept G k v s
run_kept G (remove_item k) s = remove_kept G (only k) s
run_kept G remove_all_items s = remove_kept G every s
run_kept G erase_all_pages s = erase_kept G s
run_kept G fetch_all_items s = start_kept G s
run_kept G (next_item c) s = record { entries = refl; bytes = λ H. refl; count = omega arith; inside = λ H. step_answer_in G s.img H c }

pub size_kept : (w E m : ℕ) (c : Call) (b : Lent) → length (called w E m c b).cache ≡ length b.cache
size_kept w E m c b = either w E m c b (λ r. length r.cache ≡ length b.cache) (λ n. refl) (λ e.
    let k = entries_of m c in
    let o = run_of (geo_of w E (length b.image)) c (works_on m c b) in
    length-append o.st.cache (drop k b.cache) ∙ rw (run_kept (geo_of w E (length b.image)) c (works_on m c b)).entries
    (sym (length-append (take k b.cache) (drop k b.cache)) ∙ ap length (take-append-drop k b.cache)))

-- a refusal has no values
picked_in : (n : ℕ) (b : Bool) (x r : Answer) → AnswerIn n x → AnswerIn n r → AnswerIn n (pick b x r)
picked_in n true x r h k = h
picked_in n false x r h k = k

refusal_in : (w E len m v n : ℕ) → AnswerIn n (refusal w E len m v)
unfolding refusal
refusal_in w E len m v n =
    picked_in n (eqb E 0) PagesTooSmall _ tt
    (picked_in n (not (eqb (len % E) 0)) EndRangeNotAtPageBoundary _ tt
    (picked_in n (ltb len (2 * E)) RangeTooSmall _ tt
    (picked_in n (ltb E (3 * w + 8)) PagesTooSmall _ tt
    (picked_in n (not (eqb (E % w) 0)) Geometry _ tt
    (picked_in n (ltb 32768 E) Geometry _ tt
    (picked_in n (ltb 256 (len / E)) Geometry _ tt
    (picked_in n (ltb 32 m) CacheSize _ tt
    (picked_in n (ltb (data_limit w E) (4 + v)) ItemTooBig Done tt tt))))))))

lie_more : (m n : ℕ) → m ≤ n → (vs : List ℕ) → Lie m vs → Lie n vs
lie_more m n h [] q = tt
lie_more m n h (a ∷ []) q = tt
lie_more m n h (a ∷ l ∷ []) q = omega arith
lie_more m n h (k ∷ a ∷ l ∷ vs) q = omega arith

module _ (w E m : ℕ) (c : Call) (b : Lent) where
  abbrev pub geo : Geo
  geo = geo_of w E (length b.image)

  pub held : (w ≡ 4) ⊎ (w ≡ 8) → refusal_of w E m c b ≡ Done → Held geo (length b.image)
  held word e = held_of w E (length b.image) (entries_of m c) (value_of c) word (accepted w E (length b.image) (entries_of m c) (value_of c) e)

  pub image-length : (w ≡ 4) ⊎ (w ≡ 8) → length (called w E m c b).image ≡ length b.image
  image-length word = either w E m c b (λ r. length r.image ≡ length b.image) (λ n. refl) (λ e. (run_kept geo c (works_on m c b)).bytes (held word e))

  -- in what follows n bounds a call that is not refused
  pub erased_in : (n : ℕ) → (refusal_of w E m c b ≡ Done → most geo ≤ n) → (called w E m c b).erased ≤ n
  erased_in n h = either w E m c b (λ r. r.erased ≤ n) (λ x. omega arith) (λ e. omega (arith, (run_kept geo c (works_on m c b)).count, h e))

  pub answer_in : (w ≡ 4) ⊎ (w ≡ 8) → (n : ℕ) → (refusal_of w E m c b ≡ Done → length b.image ≤ n) → AnswerIn n (called w E m c b).answer
  answer_in word n h =
      either w E m c b (λ r. AnswerIn n r.answer) (λ x. refusal_in w E (length b.image) (entries_of m c) (value_of c) n)
      (λ e. lie_more (length b.image) n (h e) (paper (run_of geo c (works_on m c b)).ans).values ((run_kept geo c (works_on m c b)).inside (held word e)))

  pub cursor_in : (w ≡ 4) ⊎ (w ≡ 8) → (n : ℕ) → (refusal_of w E m c b ≡ Done → length b.image + 8 ≤ n) → CursorIn n (given_cursor c) → CursorIn n (called w E m c b).cursor
  cursor_in word n h k = either w E m c b (λ r. CursorIn n r.cursor) (λ x. k) (λ e. go c (held word e) (h e) k)
    where
      started : (x : Bool) (a : Cursor) → CursorIn n a → CursorIn n (pick x a no_cursor)
      started true a q = q
      started false a q = record { first = omega arith; page = omega arith; place = omega arith }

      go : (c : Call) → Held geo (length b.image) → length b.image + 8 ≤ n → CursorIn n (given_cursor c) → CursorIn n (cursor_of geo c b (run_of geo c (works_on m c b)))
      go (fetch_item x) H h k = k
      go (fetch_plain x) H h k = k
      go (store_item x v) H h k = k
      go (remove_item x) H h k = k
      go remove_all_items H h k = k
      go erase_all_pages H h k = k
      go fetch_all_items H h k =
          let o = run_of geo fetch_all_items (works_on m fetch_all_items b) in
          let l = (start_kept geo (works_on m fetch_all_items b)).bytes H in
          let i = start_in geo o.st.img (subst (Held geo) (sym l) H) in
          started (is_no 0 o.ans) (cursor_at geo (walk_first geo o.st.img)) (record { first = omega (arith, i.first); page = omega (arith, i.page); place = omega (arith, i.place) })
      go (next_item x) H h k = step_cursor_in geo b.image H n (omega arith) x k

-- ---- the steps

run_plays : (G : Geo) (c : Call) (s : St) → replay G.page s.img (run_of G c s).steps ≡ (run_of G c s).st.img
run_plays G (fetch_item k) s = (fetch_plays G k s).is
run_plays G (fetch_plain k) s = refl
run_plays G (store_item k v) s = (store_plays G k v s).is
run_plays G (remove_item k) s = (remove_plays G (only k) s).is
run_plays G remove_all_items s = (remove_plays G every s).is
run_plays G erase_all_pages s = (erase_plays G s).is
run_plays G fetch_all_items s = (start_plays G s).is
run_plays G (next_item c) s = refl

steps-none : (w E m : ℕ) (c : Call) (b : Lent) → refusal_of w E m c b ≢ Done → steps_of w E m c b ≡ []
unfolding steps_of steps_behind
steps-none w E m c b n =
    rw (ne_eqb (number (refusal_of w E m c b)) 0 (λ z. n (zero_done w E (length b.image) (entries_of m c) (value_of c) z)))

steps_run : (w E m : ℕ) (c : Call) (b : Lent) → refusal_of w E m c b ≡ Done
    → steps_of w E m c b ≡ (run_of (geo_of w E (length b.image)) c (works_on m c b)).steps
unfolding steps_of steps_behind
steps_run w E m c b e = rw e

-- the flash steps of a call, replayed, give its image
pub steps_play : (w E m : ℕ) (c : Call) (b : Lent) → replay E b.image (steps_of w E m c b) ≡ (called w E m c b).image
steps_play w E m c b =
    let G : Geo = geo_of w E (length b.image) in
    either w E m c b (λ t. replay E b.image (steps_of w E m c b) ≡ t.image)
    (λ n. ap (replay E b.image) (steps-none w E m c b n))
    (λ e. ap (replay E b.image) (steps_run w E m c b e) ∙ run_plays G c (works_on m c b))
