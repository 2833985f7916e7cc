-- The final statements, over the public definition `called` of rules: words of 4 or 8 bytes (w), pages of E bytes, a cache of m entries of the
-- 32 that are lent. Their words stand in Promise.antt; `SoundImage` in rules' Sound.antt, `list_after` and `latest` in its List.antt.
use Rattle.std.specs.Prelude.{◌≡◌, refl, ◌≢◌, ◌↔◌, ◌⊎◌, ℕ, ◌+◌, ◌*◌, ◌≤◌, ◌<◌, true, List, [], ◌∷◌, ◌++◌, length, replicate}
use Rattle.std.proofs.Common.{sym, ap, ◌∙◌, subst, inl, ⊎_elim, arith}
use Rattle.std.proofs.lemmas.List.{length-replicate}
use Rattle.rules.specs.declared.{Geo.Geo, Answer.Answer, Answer.TheVariants.Done, Answer.TheVariants.Value, Answer.TheVariants.Item, Answer.TheVariants.Corrupted, Cursor.Cursor}
use Rattle.rules.specs.Bytes.{Bytes, FlashStep, programs, program, replay}
use Rattle.rules.specs.Items.{Entry, size}
use Rattle.rules.specs.Pages.{ring_up}
use Rattle.rules.specs.Answers.{number, refusal}
use Rattle.rules.specs.Runs.{St}
use Rattle.rules.specs.Power.{endless, lasts, units, cut_image}
use Rattle.rules.specs.Store.{repair}
use Rattle.rules.specs.Walk.{Walk, walk_first}
use Rattle.rules.specs.Calls.{Call, store_item, fetch_all_items, Lent, geo_of, called, next_item, steps_of}
use Rattle.rules.specs.Sound.{All, SoundImage, blank_ring}
use Rattle.rules.specs.List.{Pair, latest, pairs, list_after}
use Rattle.laws.specs.Lists.{All-map}
use Rattle.laws.specs.ByteLaws.{Bytes-replicate}
use Rattle.laws.specs.Geometry.{accepted, held_of, Fit}
use Rattle.laws.specs.Rings.{log_of}
use Rattle.laws.specs.Power.{lasts_le, lasts-endless, cut_whole, cut_between, cut_inside}
use Rattle.laws.specs.Plays.{repair_plays}
use Rattle.theory.specs.Sane.{not_eight, is_seven, blank-image}
use Rattle.theory.specs.Latest.{list_of}
use Rattle.theory.specs.Kept.{AnswerIn}
use Rattle.promises.specs.Promise.{Given, AllGiven, fresh, seen, refusal_of, refused, FullRule, Single, Follows, WalkRight, StepRight}
use Rattle.promises.specs.Singles.{single-after, latest-single}
use Rattle.promises.specs.Behind.{called-refused, size_kept, steps_play, image-length, answer_in, erased_in}
use Rattle.promises.proofs.EachCall.{step_right}
use Rattle.promises.proofs.AnyLent.{all_kept}
use Rattle.promises.proofs.Sequences.{follows, same_seen, begins}

-- ---- DEMAND 2. "no call on a sound image answers Corrupted, and each leaves the image sound": any sequence of calls, from any sound image, with
-- any lent cache, right or wrong, of any size.

pub never_corrupted : (w E m : ℕ) (b : Lent) → SoundImage w E b.image → (cs : List Call) → AllGiven cs → All (λ r. number r.answer ≢ 8) (seen (called w E m) cs b)
never_corrupted w E m b S cs g =
    All-map (λ r. (r.answer ≢ Corrupted) × SoundImage w E r.image) (λ r. number r.answer ≢ 8) (seen (called w E m) cs b) (λ r x. not_eight r.answer x.0) (all_kept w E m cs g b S)

pub stays_sound : (w E m : ℕ) (b : Lent) → SoundImage w E b.image → (cs : List Call) → AllGiven cs → All (λ r. SoundImage w E r.image) (seen (called w E m) cs b)
stays_sound w E m b S cs g =
    All-map (λ r. (r.answer ≢ Corrupted) × SoundImage w E r.image) (λ r. SoundImage w E r.image) (seen (called w E m) cs b) (λ r x. x.1) (all_kept w E m cs g b S)

-- ---- What follows is "for a cache that was empty and saw every later change": 32 empty entries, of which a call uses m.

module _ (w E : ℕ) (img : List ℕ) (S : SoundImage w E img) where
  abbrev pub G : Geo
  G = geo_of w E (length img)

  listed : (m : ℕ) → m ≤ 32 → (cs : List Call) → AllGiven cs → Follows w E m cs (fresh img) (list_of G img)
  listed m h cs g = follows w E m cs g (fresh img) (list_of G img) (begins w E m img S h)

  start : (m : ℕ) → m ≤ 32 → WalkRight w E m (fresh img) (list_of G img) (called w E m fetch_all_items (fresh img))
  start m h = (listed m h (fetch_all_items ∷ []) (tt, tt)).0.right

  -- ---- DEMAND 2. "On a sound image FullStorage is given, for an item not too big, exactly when one page is Open and, for every other page, the
  -- sizes of its newest items and the new item add to more than the data area."

  pub full_storage : (m : ℕ) → m ≤ 32 → (k : ℕ) (v : List ℕ) → Given (store_item k v) → refusal w E (length img) m (length v) ≡ Done
      → (number (called w E m (store_item k v) (fresh img)).answer ≡ 7) ↔ FullRule G (size w (4 + length v)) img
  full_storage m h k v g e =
      let x = (listed m h (store_item k v ∷ []) (g, tt)).0.right.exact e in
      (λ q. x.0 (is_seven _ q), λ f. ap number (x.1 f))

  -- "After n turns": each of them erased a page
  pub full_erases_n : (m : ℕ) → m ≤ 32 → (k : ℕ) (v : List ℕ) → Given (store_item k v) → refusal w E (length img) m (length v) ≡ Done
      → number (called w E m (store_item k v) (fresh img)).answer ≡ 7 → (called w E m (store_item k v) (fresh img)).erased ≡ G.pages
  full_erases_n m h k v g e q = (listed m h (store_item k v ∷ []) (g, tt)).0.right.turns e (is_seven _ q)

  -- ---- DEMAND 2. "From the page after the PartialOpen one .. all Present items in ring order, older versions too": a walk starts, and the whole
  -- walk from there lists these and no others.

  pub walk_starts : (m : ℕ) → m ≤ 32 → (called w E m fetch_all_items (fresh img)).answer ≡ Done
  walk_starts m h = (start m h).done

  pub walk_lists : (m : ℕ) → m ≤ 32 → (es : List Entry)
      → Walk G img (called w E m fetch_all_items (fresh img)).cursor es ↔ (es ≡ log_of G img (ring_up G (called w E m fetch_all_items (fresh img)).cursor.first))
  walk_lists m h es = (start m h).whole es

  -- ---- DEMAND 2. "Key and value pairs, one for each key: at first what the walk lists last for each key. A store that is done puts its pair, a
  -- removal drops it, removal of all and erase all empty it, and a refusal on a sound image leaves it. Fetch shows it. A whole walk .. its last
  -- entry of each key is the list's. A single step answers by that rule": any sequence of calls is answered as the list says.

  pub the_list : (m : ℕ) → m ≤ 32 → (es : List Entry) → Walk G img (called w E m fetch_all_items (fresh img)).cursor es
      → (cs : List Call) → AllGiven cs → Follows w E m cs (fresh img) (latest (pairs img es))
  the_list m h es u cs g =
      let e : es ≡ log_of G img (ring_up G (walk_first G img)) = (walk_lists m h es).0 u ∙ ap (λ (c : Cursor). log_of G img (ring_up G c.first)) (start m h).starts in
      subst (λ (x : List Entry). Follows w E m cs (fresh img) (latest (pairs img x))) (sym e) (listed m h cs g)

-- "one for each key", whatever the calls answer
pub one_each : (l : List Pair) → Single (latest l)
one_each l = latest-single l

pub stays-single : (c : Call) (a : Answer) (l : List Pair) → Single l → Single (list_after c a l)
stays-single c a l h = single-after c a l h

-- ---- DEMAND 3. Any sequence of calls, caches of 0 to 32 entries that start empty: after every call the same answer, cursor, image and
-- erase count. (By `the_list`, at each size, the answers are those of the list.)

pub any_size : (w E : ℕ) (img : List ℕ) → SoundImage w E img → (m m' : ℕ) → m ≤ 32 → m' ≤ 32 → (cs : List Call) → AllGiven cs
    → seen (called w E m) cs (fresh img) ≡ seen (called w E m') cs (fresh img)
any_size w E img S m m' h h' cs g =
    let l = list_of (geo_of w E (length img)) img in
    same_seen w E m m' cs g img (fresh img).cache (fresh img).cache l l (begins w E m img S h) (begins w E m' img S h')

-- ---- ANSWERS 1 TO 6, on every image and with every cache. "Order: E = 0, then 1, 2, 3, 4, 5, 6, then the call", and "everything" is left: a call that is
-- refused says so and leaves image, cache and cursor; no call changes the number of cache entries.

pub refusals_leave : (w E m : ℕ) (c : Call) (b : Lent) → refusal_of w E m c b ≢ Done → called w E m c b ≡ refused w E m c b
refusals_leave w E m c b n = called-refused w E m c b n

pub cache_length : (w E m : ℕ) (c : Call) (b : Lent) → length (called w E m c b).cache ≡ length b.cache
cache_length w E m c b = size_kept w E m c b

-- ---- EVERY ANSWER, on every image, with every cache and cursor: the image keeps its length, a value or an item that is answered lies in it, and at
-- most 3 n + 2 pages are erased. ("first run, repair and second run all count")

pub image_keeps_length : (w E m : ℕ) → (w ≡ 4) ⊎ (w ≡ 8) → (c : Call) (b : Lent) → length (called w E m c b).image ≡ length b.image
image_keeps_length w E m word c b = image-length w E m c b word

pub value_inside : (w E m : ℕ) → (w ≡ 4) ⊎ (w ≡ 8) → (c : Call) (b : Lent) (a l : ℕ) → (called w E m c b).answer ≡ Value a l → a + l ≤ length b.image
value_inside w E m word c b a l e = subst (AnswerIn (length b.image)) e (answer_in w E m c b word (length b.image) (λ x. omega arith))

pub item_inside : (w E m : ℕ) → (w ≡ 4) ⊎ (w ≡ 8) → (c : Call) (b : Lent) (k a l : ℕ) → (called w E m c b).answer ≡ Item k a l → a + l ≤ length b.image
item_inside w E m word c b k a l e = subst (AnswerIn (length b.image)) e (answer_in w E m c b word (length b.image) (λ x. omega arith))

pub erases_few : (w E m : ℕ) (c : Call) (b : Lent) → (called w E m c b).erased ≤ 3 * (geo_of w E (length b.image)).pages + 2
erases_few w E m c b = erased_in w E m c b (3 * (geo_of w E (length b.image)).pages + 2) (λ x. omega arith)

-- ---- A STEP. "A single step answers by that rule on the cursor and image it is given": any cursor, any image of bytes whose sizes are accepted.

pub step_by_rule : (w E m : ℕ) → (w ≡ 4) ⊎ (w ≡ 8) → (b : Lent) → Bytes b.image → refusal w E (length b.image) 0 0 ≡ Done
    → (c : Cursor) → StepRight w E m c b (called w E m (next_item c) b)
step_by_rule w E m word b bs e c =
    step_right w E m b (record { held = held_of w E (length b.image) 0 0 word (accepted w E (length b.image) 0 0 e); bytes = bs }) e c

-- ---- THE FLASH STEPS. "Nothing else changes the image": the flash steps of a call, replayed, give the image that it leaves. So do those of a repair.

pub steps_give : (w E m : ℕ) (c : Call) (b : Lent) → replay E b.image (steps_of w E m c b) ≡ (called w E m c b).image
steps_give w E m c b = steps_play w E m c b

pub repair_steps_give : (G : Geo) (s : St) → replay G.page s.img (repair G s).steps ≡ (repair G s).st.img
repair_steps_give G s = (repair_plays G s).is

-- ---- THEIR ORDER. What the code leaves with every power is `cut_image` of these steps (the statements of store_item_cut and
-- the others in map). With power for some of the steps it is the image after these; with power for some bytes of the
-- next one too, these bytes are programmed, and no others; with power for all of them it is the image that the call leaves.

pub order : (w E m : ℕ) (c : Call) (b : Lent) (xs ys : List FlashStep) → steps_of w E m c b ≡ xs ++ ys → units xs < endless
    → cut_image E b.image (units xs) (steps_of w E m c b) ≡ replay E b.image xs
order w E m c b xs ys e h = ap (cut_image E b.image (units xs)) e ∙ cut_between E xs ys b.image h

pub order_inside : (w E m : ℕ) (c : Call) (b : Lent) (xs ys : List FlashStep) (at : ℕ) (bs cs : List ℕ)
    → steps_of w E m c b ≡ xs ++ (programs at (bs ++ cs) ∷ ys) → units xs + length bs < endless
    → cut_image E b.image (units xs + length bs) (steps_of w E m c b) ≡ program (replay E b.image xs) at bs
order_inside w E m c b xs ys at bs cs e h =
    ap (cut_image E b.image (units xs + length bs)) e ∙ cut_inside E xs ys at bs cs b.image h

pub order_whole : (w E m : ℕ) (c : Call) (b : Lent) (p : ℕ) → (units (steps_of w E m c b) ≤ p) ⊎ (endless ≤ p)
    → (lasts p (units (steps_of w E m c b)) ≡ true) × (cut_image E b.image p (steps_of w E m c b) ≡ (called w E m c b).image)
order_whole w E m c b p h =
    let u : ℕ = units (steps_of w E m c b) in
    let l : lasts p u ≡ true = ⊎_elim (λ x. lasts_le p u x) (λ x. lasts-endless p u x) h in
    (l, cut_whole E (steps_of w E m c b) b.image p l ∙ steps_give w E m c b)

-- ---- A BLANK FLASH is sound, at every size that is accepted.

pub blank_sound : (w E len : ℕ) → (w ≡ 4) ⊎ (w ≡ 8) → refusal w E len 0 0 ≡ Done → SoundImage w E (replicate len 255)
blank_sound w E len word e =
    let img : List ℕ = replicate len 255 in
    let l : length img ≡ len = length-replicate len 255 in
    let e' : refusal w E (length img) 0 0 ≡ Done = ap (λ (x : ℕ). refusal w E x 0 0) l ∙ e in
    let b = Bytes-replicate len 255 (omega arith) in
    let ok : Fit (geo_of w E (length img)) img = record { held = held_of w E (length img) 0 0 word (accepted w E (length img) 0 0 e'); bytes = b } in
    record { word = word; accepted = e'; bytes = b; sound = blank_ring (blank-image (geo_of w E (length img)) img ok (ap (λ (x : ℕ). replicate x 255) (sym l))) }

pub example : SoundImage 4 32 (replicate 64 255)
unfolding refusal
example = blank_sound 4 32 64 (inl refl) refl
