-- Each call on a sound image with a right cache: the list's answer, a sound image and a right cache again; two right caches give the same.
use Rattle.std.specs.Prelude.{◌≡◌, ◌≢◌, ◌⊎◌, ℕ, ◌+◌, ◌≤◌, ◌<◌, Bool, true, false, List, [], ◌++◌, length, take, drop, eqb}
use Rattle.std.proofs.Math.Path.{refl, subst}
use Rattle.std.proofs.Common.{sym, ap, ◌∙◌, inl, inr, length-append, take-append-drop, length-take-le, take_at, arith, eqb-true, ne_eqb}
use Rattle.std.proofs.Math.Option.{Option, none, some}
use Rattle.std.proofs.lemmas.Bool.{eqb-false}
use Rattle.rules.specs.declared.{Geo.Geo, Cursor.Cursor, Answer.Answer, Answer.TheVariants.Done, Answer.TheVariants.FullStorage, Answer.TheVariants.Corrupted}
use Rattle.rules.specs.Bytes.{Bytes}
use Rattle.rules.specs.Items.{Entry}
use Rattle.rules.specs.Pages.{all_pages}
use Rattle.rules.specs.Cache.{Cache}
use Rattle.rules.specs.Answers.{number, refusal}
use Rattle.rules.specs.Runs.{St, End, final, out}
use Rattle.rules.specs.Fetch.{Found, corrupt, missing, found, newest, answer_of, plain_fetch}
use Rattle.rules.specs.Store.{fetch, store}
use Rattle.rules.specs.Remove.{Which, every, only, remove, erase_all}
use Rattle.rules.specs.Walk.{walk_first, walk_start, walk_step, cursor_at, Walk, Step, ended, stepped}
use Rattle.rules.specs.Calls.{Call, fetch_item, fetch_plain, store_item, remove_item, remove_all_items, erase_all_pages, fetch_all_items, next_item, Lent, Told, no_cursor, start_cursor, step_answer, geo_of, tell, called, entries_of, run_of}
use Rattle.rules.specs.List.{Pair, in_list, drop_key, list_after}
use Rattle.laws.specs.Geometry.{accepted, accepts, Accepted, Fit, zero_done, refusal_low}
use Rattle.theory.specs.Keep.{it_of}
use Rattle.theory.specs.Stored.{Fitting, StoreRes, stored, full}
use Rattle.theory.specs.Sane.{done_clean, store_clean, Sane, good_sane, other_cache, blank-newest, no_bad}
use Rattle.theory.specs.Fetching.{fetch_sane}
use Rattle.theory.specs.Storing.{store_res}
use Rattle.theory.specs.Listed.{val_of, drop-same, drop_other, Lists, store_list, kept_list}
use Rattle.theory.specs.Gone.{erased_img}
use Rattle.theory.specs.Removing.{Rid, rid_of, removed_img, Removed, remove_res, not_held, erase_res, wiped}
use Rattle.theory.specs.Latest.{begun, start_res, walked_log, lists_of, not_corrupt, absent, found-bytes}
use Rattle.promises.specs.Promise.{Given, refused, Shows, Right, again, StepRight}
use Rattle.promises.proofs.Rule.{store_rule, store-erases}
use Rattle.promises.proofs.Walks.{walk_one, walked, step_rule, step_ends}
use Rattle.promises.specs.Behind.{called_runs, either, run_kept}

shows_clean : (img : List ℕ) (a : Answer) (o : Option (List ℕ)) → Shows img a o → a ≢ Corrupted
shows_clean img a none h e = let z = ap number (sym h ∙ e) in omega arith
shows_clean img a (some v) h e = let z = ap number (sym h.2 ∙ e) in omega arith

pub step_clean : (s : Step) → step_answer s ≢ Corrupted
step_clean ended e = let z = ap number e in omega arith
step_clean (stepped e c) x = let z = ap number x in omega arith

module _ (G : Geo) where
  -- the newest item's answer shows the list's value
  newest-shows : (img : List ℕ) (l : List Pair) (k : ℕ) (ca : Cache) → Sane G img ca → Lists G img l → Shows img (answer_of (newest G img k)) (in_list k l)
  newest-shows img l k ca s h = subst (Shows img (answer_of (newest G img k))) (h k) (go (newest G img k) refl)
    where
      go : (r : Found) → newest G img k ≡ r → Shows img (answer_of r) (val_of (it_of r))
      go corrupt e = absurd (not_corrupt G img s.fit s.sound k e)
      go missing e = refl
      go (found x) e = let b = found-bytes G img k s.fit s.sound x e in (x.at + x.it.voff, x.it.vlen, refl, b.0, b.1)

  -- the list after a removal
  rid_list : (img img' : List ℕ) (l : List Pair) (k : ℕ) → Rid G (only k) img img' → Lists G img l → Lists G img' (drop_key k l)
  rid_list img img' l k r h j = go (eqb j k) refl
    where
      go : (b : Bool) → eqb j k ≡ b → val_of (it_of (newest G img' j)) ≡ in_list j (drop_key k l)
      go true e = rw (r.keys j, e, eqb-true j k e, drop-same k l)
      go false e = rw (r.keys j, e, drop_other k j l (eqb-false j k e)) (h j)

-- an item that is not refused
pub fitting : (w E len m k : ℕ) (v : List ℕ) → (k < 4294967296) × Bytes v → Accepted w E len m (length v) → Fitting (geo_of w E len) k v
fitting w E len m k v g a = let f = a.fits in let t = a.most in record { key< = g.0; bytes = g.1; small = omega arith }

-- a step, on any image that is accepted
pub step_right : (w E m : ℕ) (b : Lent) → Fit (geo_of w E (length b.image)) b.image → refusal w E (length b.image) 0 0 ≡ Done → (c : Cursor)
    → StepRight w E m c b (called w E m (next_item c) b)
step_right w E m b ok e c =
    let G = geo_of w E (length b.image) in
    subst (StepRight w E m c b) (sym (called_runs w E m (next_item c) b e)) (record {
      step = walk_step G b.image c;
      answers = refl;
      goes_on = refl;
      bad = step_ends G b.image c;
      rule = step_rule G b.image ok c;
      stays = (refl, refl, refl);
    })

module _ (w E m : ℕ) where
  -- a sound image that is lent with a right cache, and its list
  pub record Fine (b : Lent) (l : List Pair) : Type 0 where
    pub word : (w ≡ 4) ⊎ (w ≡ 8)
    pub passes : refusal w E (length b.image) m 0 ≡ Done
    pub many : m ≤ length b.cache
    pub sane : Sane (geo_of w E (length b.image)) b.image (take m b.cache)
    pub lists : Lists (geo_of w E (length b.image)) b.image l

  pub record Serves (c : Call) (b : Lent) (l : List Pair) (r : Told) : Type 0 where
    pub right : Right w E m c b l r
    pub clean : r.answer ≢ Corrupted
    pub ready : Fine (again r) (list_after c r.answer l)

  module _ (b : Lent) (l : List Pair) (R : Fine b l) where
    abbrev G : Geo
    G = geo_of w E (length b.image)

    abbrev img : List ℕ
    img = b.image

    abbrev ca : Cache
    ca = take m b.cache

    abbrev s₀ : St
    s₀ = record { img = img; cache = ca; erased = 0 }

    s : Sane G img ca
    s = R.sane

    h : Lists G img l
    h = R.lists

    A : Accepted w E (length img) m 0
    A = accepted w E (length img) m 0 R.passes

    pub plain_passes : refusal w E (length img) 0 0 ≡ Done
    plain_passes =
        accepts w E (length img) 0 0
        (record { whole = A.whole; two = A.two; room = A.room; words = A.words; most = A.most; few = A.few; cached = omega arith; fits = A.fits })

    entries : (c : Call) → entries_of m c ≡ m → length (run_of G c s₀).st.cache ≡ m
    entries c e = (run_kept G c s₀).entries ∙ length-take-le m b.cache R.many

    -- what a call leaves is lent again
    next : (img' : List ℕ) (ca' : Cache) (l' : List Pair) → length ca' ≡ m → Sane G img' ca' → Lists G img' l' → Fine (record { image = img'; cache = ca' ++ drop m b.cache }) l'
    next img' ca' l' n s' h' =
        let e : length img ≡ length img' = s.fit.held.whole ∙ sym s'.fit.held.whole in
        let la = length-append ca' (drop m b.cache) in
        record {
          word = R.word;
          passes = subst (λ (x : ℕ). refusal w E x m 0 ≡ Done) e R.passes;
          many = omega arith;
          sane = subst (λ (x : ℕ). Sane (geo_of w E x) img' (take m (ca' ++ drop m b.cache))) e
              (subst (Sane G img') (sym (take_at ca' (drop m b.cache) m n)) s');
          lists = subst (λ (x : ℕ). Lists (geo_of w E x) img' l') e h';
        }

    -- ---- fetch

    held-fetch : (k : ℕ) → Serves (fetch_item k) b l (tell m b (λ o. no_cursor) (fetch G k s₀))
    held-fetch k =
        let o = fetch G k s₀ in
        let f = fetch_sane G img ca 0 k s in
        let sh : Shows img o.ans (in_list k l) = subst (λ (a : Answer). Shows img a (in_list k l)) (sym f.ans_is) (newest-shows G img l k ca s h) in
        record {
          right = record { shows = sh; stays = (f.img_is, f.er_is) };
          clean = shows_clean img o.ans (in_list k l) sh;
          ready = next o.st.img o.st.cache l (entries (fetch_item k) refl)
              (subst (λ (x : List ℕ). Sane G x o.st.cache) (sym f.img_is) (other_cache G img ca o.st.cache s f.valid))
              (subst (λ (x : List ℕ). Lists G x l) (sym f.img_is) h);
        }

    held_plain : (k : ℕ) → Serves (fetch_plain k) b l (tell 0 b (λ o. no_cursor) (out (plain_fetch G img k) (record { img = img; cache = take 0 b.cache; erased = 0 })))
    unfolding plain_fetch
    held_plain k =
        let e : plain_fetch G img k ≡ answer_of (newest G img k) = rw (no_bad G img s.fit s.sound) in
        let sh : Shows img (plain_fetch G img k) (in_list k l) = subst (λ (a : Answer). Shows img a (in_list k l)) (sym e) (newest-shows G img l k ca s h) in
        record { right = record { shows = sh; stays = (refl, refl, refl) }; clean = shows_clean img (plain_fetch G img k) (in_list k l) sh; ready = R }

    -- ---- store

    -- what a store's end says
    ends : (k : ℕ) (v : List ℕ) (r : End) → StoreRes G img k v r
        → Sane G r.st.img r.st.cache × Lists G r.st.img (list_after (store_item k v) r.ans l) × ((r.ans ≡ Done) ⊎ (r.ans ≡ FullStorage))
    ends k v r (stored x) = (
      good_sane G r.st.img r.st.cache x.good,
      subst (λ (a : Answer). Lists G r.st.img (list_after (store_item k v) a l)) (sym x.ans_is) (store_list G img l k v r h x),
      inl x.ans_is,
    )
    ends k v r (full q x) = (
      good_sane G r.st.img r.st.cache x.good,
      subst (λ (a : Answer). Lists G r.st.img (list_after (store_item k v) a l)) (sym q) (kept_list G img l r h x),
      inr q,
    )

    held-store : (k : ℕ) (v : List ℕ) → (k < 4294967296) × Bytes v → Serves (store_item k v) b l (called w E m (store_item k v) b)
    held-store k v g = either w E m (store_item k v) b (Serves (store_item k v) b l) off on
      where
        off : refusal w E (length img) m (length v) ≢ Done → Serves (store_item k v) b l (refused w E m (store_item k v) b)
        off n = record {
          right = record { big = λ x. refl; ends = λ x. absurd (n x); exact = λ x. absurd (n x); turns = λ x. absurd (n x) };
          clean = small;
          ready = subst (Fine b) (sym stays) R;
        }
          where
            stays : list_after (store_item k v) (refusal w E (length img) m (length v)) l ≡ l
            stays = rw (ne_eqb (number (refusal w E (length img) m (length v))) 0 (λ z. n (zero_done w E (length img) m (length v) z)))

            small : refusal w E (length img) m (length v) ≢ Corrupted
            small y = let z = ap number y in omega (arith, refusal_low w E (length img) m (length v))

        on : refusal w E (length img) m (length v) ≡ Done → Serves (store_item k v) b l (tell m b (λ o. no_cursor) (store G k v s₀))
        on e =
            let a = accepted w E (length img) m (length v) e in
            let f = fitting w E (length img) m k v g a in
            let o = store G k v s₀ in
            let x = ends k v (final o) (store_res G img k v ca 0 s f) in
            record {
              right = record {
                big = λ n. absurd (n e);
                ends = λ n. x.2;
                exact = λ n. store_rule G img k v ca s f a.fits;
                turns = λ n. store-erases G img k v ca s f a.fits;
              };
              clean = store_clean o.ans x.2;
              ready = next o.st.img o.st.cache (list_after (store_item k v) o.ans l) (entries (store_item k v) refl) x.0 x.1;
            }

    -- ---- removal and erase all

    rm : (t : Which) → Removed G t img 0 (final (remove G t s₀))
    rm t = remove_res G t img ca 0 s

    rm_sane : (t : Which) → Sane G (remove G t s₀).st.img (remove G t s₀).st.cache
    rm_sane t = subst (λ (x : List ℕ). Sane G x (remove G t s₀).st.cache) (sym (rm t).img_is) (rm t).sane

    held-remove : (k : ℕ) → Serves (remove_item k) b l (tell m b (λ o. no_cursor) (remove G (only k) s₀))
    held-remove k =
        let o = remove G (only k) s₀ in
        let r = rm (only k) in
        record {
          right = record {
            done = r.ans_is;
            none_erased = r.er_is;
            absent = λ e. r.img_is ∙ not_held G k img s.fit s.sound (absent G img l k s.fit s.sound h e);
          };
          clean = done_clean o.ans r.ans_is;
          ready = subst (λ (a : Answer). Fine (record { image = o.st.img; cache = o.st.cache ++ drop m b.cache }) (list_after (remove_item k) a l)) (sym r.ans_is)
              (next o.st.img o.st.cache (drop_key k l) (entries (remove_item k) refl) (rm_sane (only k))
              (subst (λ (x : List ℕ). Lists G x (drop_key k l)) (sym r.img_is) (rid_list G img (removed_img G (only k) img) l k (rid_of G (only k) img s.fit s.sound) h)));
        }

    held_remove_all : Serves remove_all_items b l (tell m b (λ o. no_cursor) (remove G every s₀))
    held_remove_all =
        let o = remove G every s₀ in
        let r = rm every in
        record {
          right = (r.ans_is, r.er_is);
          clean = done_clean o.ans r.ans_is;
          ready = subst (λ (a : Answer). Fine (record { image = o.st.img; cache = o.st.cache ++ drop m b.cache }) (list_after remove_all_items a l)) (sym r.ans_is)
              (next o.st.img o.st.cache [] (entries remove_all_items refl) (rm_sane every)
              (subst (λ (x : List ℕ). Lists G x []) (sym r.img_is) (λ j. ap (λ (f : Found). val_of (it_of f)) ((rid_of G every img s.fit s.sound).keys j))));
        }

    held-erase : Serves erase_all_pages b l (tell m b (λ o. no_cursor) (erase_all G s₀))
    held-erase =
        let o = erase_all G s₀ in
        let x = erase_res G img ca 0 s.fit in
        let z : 0 + G.pages ≡ G.pages = omega arith in
        record {
          right = (x.ans_is, x.er_is ∙ z, x.img_is ∙ wiped G img s.fit x.sane.fit);
          clean = done_clean o.ans x.ans_is;
          ready = subst (λ (a : Answer). Fine (record { image = o.st.img; cache = o.st.cache ++ drop m b.cache }) (list_after erase_all_pages a l)) (sym x.ans_is)
              (next o.st.img o.st.cache [] (entries erase_all_pages refl)
              (subst (λ (y : List ℕ). Sane G y o.st.cache) (sym x.img_is) x.sane)
              (subst (λ (y : List ℕ). Lists G y []) (sym x.img_is) (λ j. ap (λ (f : Found). val_of (it_of f)) (blank-newest G (erased_img G (all_pages G) img) x.sane.fit x.blank j))));
        }

    -- ---- walk

    held_start : Serves fetch_all_items b l (tell m b (start_cursor G) (walk_start G s₀))
    held_start =
        rw (start_res G img ca 0 s.fit s.sound, take-append-drop m b.cache) (record {
          right = record {
            done = refl;
            starts = refl {a = cursor_at G (walk_first G img)};
            from = (begun G img s.fit s.sound).from;
            whole = λ es. (all es, back es);
            last = λ es u k. rw (all es u) (sym (lists_of G img s.fit s.sound k) ∙ h k);
            stays = (refl, refl, refl);
          };
          clean = λ y. let z = ap number y in absurd (omega arith);
          ready = R;
        })
      where
        W : Walk G img (cursor_at G (walk_first G img)) (walked_log G img)
        W = walked G img s.fit s.sound

        all : (es : List Entry) → Walk G img (cursor_at G (walk_first G img)) es → es ≡ walked_log G img
        all es u = walk_one G img u W

        back : (es : List Entry) → es ≡ walked_log G img → Walk G img (cursor_at G (walk_first G img)) es
        back es q = subst (Walk G img (cursor_at G (walk_first G img))) (sym q) W

    pub held : (c : Call) → Given c → Serves c b l (called w E m c b)
    held (fetch_item k) g = subst (Serves (fetch_item k) b l) (sym (called_runs w E m (fetch_item k) b R.passes)) (held-fetch k)
    held (fetch_plain k) g = subst (Serves (fetch_plain k) b l) (sym (called_runs w E m (fetch_plain k) b plain_passes)) (held_plain k)
    held (store_item k v) g = held-store k v g
    held (remove_item k) g = subst (Serves (remove_item k) b l) (sym (called_runs w E m (remove_item k) b R.passes)) (held-remove k)
    held remove_all_items g = subst (Serves remove_all_items b l) (sym (called_runs w E m remove_all_items b R.passes)) held_remove_all
    held erase_all_pages g = subst (Serves erase_all_pages b l) (sym (called_runs w E m erase_all_pages b R.passes)) held-erase
    held fetch_all_items g = subst (Serves fetch_all_items b l) (sym (called_runs w E m fetch_all_items b R.passes)) held_start
    held (next_item c) g =
        let e = called_runs w E m (next_item c) b plain_passes in
        record {
          right = step_right w E m b s.fit plain_passes c;
          clean = λ y. step_clean (walk_step G img c) (ap (λ (t : Told). t.answer) (sym e) ∙ y);
          ready = subst (λ (t : Told). Fine (again t) l) (sym e) R;
        }
