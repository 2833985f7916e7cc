-- Removal and erase all on a sound image: done, sound again, the keys that were named are gone and the others as they were.
use Rattle.std.specs.Prelude.{◌≡◌, refl, ◌≢◌, ◌⊎◌, Bool, true, false, List, [], ◌∷◌, ◌++◌, drop, eqb}
use Rattle.std.proofs.Common.{sym, ◌∙◌, inl, inr, eqb-true, lt-ltb, ltb-true, ne_eqb, take_all}
use Rattle.std.proofs.Math.Path.{ap, subst}
use Prim.Native.Nat.{ℕ, zero, suc, ◌+◌, ◌<◌, ◌*◌, ◌≤◌}
use Rattle.std.proofs.Math.ListN.{length, take, replicate, length-replicate}
use native.Mathlib.Omega.{arith}
use Rattle.std.proofs.lemmas.Bool.{eqb-false}
use Rattle.rules.specs.declared.{Geo.Geo, PageState.TheVariants.Open, PageState.TheVariants.Closed, Answer.TheVariants.Done, PageState.TheVariants.PartialOpen}
use Rattle.rules.specs.Bytes.{pick, erase}
use Rattle.rules.specs.Items.{Entry}
use Rattle.rules.specs.Pages.{is_page, state, items_of, ring_up, up_from, first_page, last_page, same, all_pages}
use Rattle.rules.specs.Cache.{Cache, clear}
use Rattle.rules.specs.Answers.{number}
use Rattle.rules.specs.Runs.{St, End, end, final}
use Rattle.rules.specs.Fetch.{missing, newest, last_with}
use Rattle.rules.specs.Remove.{Which, every, only, remove_start, forgetting, run_remove, remove, erase_all}
use Rattle.rules.specs.Sound.{All, Ring, Sound, blank_ring, ring_rest, used_ring, Unused}
use Rattle.laws.specs.Lists.{All-append, All-left, All_right, All-map, All-zip, up_from-All, All-up_from}
use Rattle.laws.specs.Splice.{win_before, win_exact}
use Rattle.laws.specs.ByteLaws.{ff_more}
use Rattle.laws.specs.Geometry.{Fit, page_in}
use Rattle.laws.specs.Touch.{erased, erase_unused}
use Rattle.laws.specs.Rings.{ring_next, ring_cons, all_rest, log_of, newest_is, partial_is}
use Rattle.laws.specs.Moves.{next_in}
use Rattle.theory.specs.Cached.{Valid, valid_forget, valid_clear}
use Rattle.theory.specs.Migrate.{none_with}
use Rattle.theory.specs.Exact.{length-up_from}
use Rattle.theory.specs.Sane.{Sane, Blank, blank-newest, no-repair}
use Rattle.theory.specs.Left.{left, left-append, left-every, left-gone, left_kept}
use Rattle.theory.specs.Gone.{gone_entries, gone_pages, pages_end, erased_img, erase-end, onto}
use Rattle.theory.specs.Removal.{Cleared, pages_gone, log_left, Lost}
use Rattle.std.proofs.Math.Seq.{take-add}

-- the keys that a removal names
abbrev pub names : Which → ℕ → Bool
names every j = true
names (only k) j = eqb j k

module _ (G : Geo) where
  last-left : (t : Which) (j : ℕ) (xs : List Entry) → last_with j (left t xs) ≡ pick (names t j) missing (last_with j xs)
  last-left every j xs = ap (last_with j) (left-every xs)
  last-left (only k) j xs = go (eqb j k) refl
    where
      go : (b : Bool) → eqb j k ≡ b → last_with j (left (only k) xs) ≡ pick b missing (last_with j xs)
      go true e = rw (eqb-true j k e) (left-gone k xs)
      go false e = left_kept k j (eqb-false j k e) xs

  -- where a removal starts is a page, whatever the image
  start_in : (img : List ℕ) → 0 < G.pages → remove_start G img < G.pages
  start_in img h = next_in G _ (go (is_page G (first_page G PartialOpen img)) refl (is_page G (last_page G Closed img)) refl)
    where
      go : (b : Bool) → is_page G (first_page G PartialOpen img) ≡ b → (c : Bool) → is_page G (last_page G Closed img) ≡ c
          → pick b (first_page G PartialOpen img) (pick c (last_page G Closed img) 0) < G.pages
      go true e c d = ltb-true (first_page G PartialOpen img) G.pages e
      go false e true d = ltb-true (last_page G Closed img) G.pages d
      go false e false d = h

  pub ring_all : (P : ℕ → Type 0) (p : ℕ) → p < G.pages → ((q : ℕ) → q < G.pages → P q) → All P (ring_up G p)
  ring_all P p h f = rw (ring_cons G p h) (f p h, all_rest G P p h (λ q a b. f q a))

  -- the image after a removal: no cache in it
  abbrev pub removed_img : Which → List ℕ → List ℕ
  removed_img t img = gone_pages G t (ring_up G (remove_start G img)) img

  -- ---- the image

  pub record Rid (t : Which) (img img' : List ℕ) : Type 0 where
    pub fit : Fit G img'
    pub sound : Sound G img'
    pub keys : (j : ℕ) → newest G img' j ≡ pick (names t j) missing (newest G img j)

  rid_good : (t : Which) (img : List ℕ) (p o : ℕ) (os cs : List ℕ) → Fit G img → Ring G img p (o ∷ os) cs → Rid t img (removed_img t img)
  rid_good t img p o os cs ok S = subst (λ (l : List ℕ). Rid t img (gone_pages G t l img)) (sym order) rid
    where
      hp : p < G.pages
      hp = S.in_ring

      order : ring_up G (remove_start G img) ≡ ring_rest G p ++ (p ∷ [])
      order = rw (partial_is G img p (o ∷ os) cs S, lt-ltb p G.pages hp) (ring_next G p hp)

      inn : All (λ q. q < G.pages) (o ∷ os ++ cs)
      inn = rw S.rest_is at (all_rest G (λ q. q < G.pages) p hp (λ q h ne. h))

      img' : List ℕ
      img' = gone_pages G t (ring_rest G p ++ (p ∷ [])) img

      both : Cleared G t img (gone_pages G t (ring_rest G p ++ (p ∷ [])) img) × All (Lost G t img (gone_pages G t (ring_rest G p ++ (p ∷ [])) img)) (ring_rest G p ++ (p ∷ []))
      both = pages_gone G t (ring_rest G p ++ (p ∷ [])) (All-append (λ q. q < G.pages) (ring_rest G p) (p ∷ []) (all_rest G (λ q. q < G.pages) p hp (λ q h ne. h)) (hp, tt)) img ok

      C : Cleared G t img (gone_pages G t (ring_rest G p ++ (p ∷ [])) img)
      C = both.0

      on-p : items_of G img' p ≡ left t (items_of G img p)
      on-p = (All_right (Lost G t img img') (ring_rest G p) (p ∷ []) both.1).0 (rw S.partial)

      on_cs : All (λ q. items_of G img' q ≡ left t (items_of G img q)) cs
      on_cs =
          let d = subst (All (Lost G t img img')) S.rest_is (All-left (Lost G t img img') (ring_rest G p) (p ∷ []) both.1) in
          All-zip (Lost G t img img') (λ q. state G img q ≡ Closed) (λ q. items_of G img' q ≡ left t (items_of G img q)) cs (λ q x e. x (rw e))
          (All_right (Lost G t img img') (o ∷ os) cs d) S.closeds

      R : Ring G img' p (o ∷ os) cs
      R = record {
        in_ring = hp;
        rest_is = S.rest_is;
        partial = C.states p hp ∙ S.partial;
        tail = C.tails p hp S.tail;
        opens = All-zip (λ q. q < G.pages) (Unused G img) (Unused G img') (o ∷ os) (λ q h x. C.opens q h x) (All-left (λ q. q < G.pages) (o ∷ os) cs inn) S.opens;
        closeds = All-zip (λ q. q < G.pages) (λ q. state G img q ≡ Closed) (λ q. state G img' q ≡ Closed) cs (λ q h x. C.states q h ∙ x)
            (All_right (λ q. q < G.pages) (o ∷ os) cs inn) S.closeds;
      }

      log_is : log_of G img' cs ++ items_of G img' p ≡ left t (log_of G img cs ++ items_of G img p)
      log_is = rw (log_left G t img img' cs on_cs, on-p) (sym (left-append t (log_of G img cs) (items_of G img p)))

      rid : Rid t img (gone_pages G t (ring_rest G p ++ (p ∷ [])) img)
      rid = record {
        fit = C.fit;
        sound = used_ring p o os cs R;
        keys = λ j. newest_is G img' p (o ∷ os) cs R j
            ∙ ap (last_with j) log_is
            ∙ last-left t j (log_of G img cs ++ items_of G img p)
            ∙ ap (pick (names t j) missing) (sym (newest_is G img p (o ∷ os) cs S j));
      }

  open_stays : (t : Which) (img qs : List ℕ) → All (λ q. state G img q ≡ Open) qs → gone_pages G t qs img ≡ img
  open_stays t img [] h = refl
  open_stays t img (q ∷ qs) h = ap (λ (l : List ℕ). gone_pages G t qs l) (rw h.0) ∙ open_stays t img qs h.1

  pub rid_of : (t : Which) (img : List ℕ) → Fit G img → Sound G img → Rid t img (removed_img t img)
  rid_of t img ok (used_ring p o os cs S) = rid_good t img p o os cs ok S
  rid_of t img ok (blank_ring b) =
      let e = open_stays t img (ring_up G (remove_start G img)) (ring_all (λ q. state G img q ≡ Open) (remove_start G img) (start_in img (omega (arith, ok.held.two))) (λ q h. (b q h).is_open)) in
      subst (Rid t img) (sym e) (record { fit = ok; sound = blank_ring b; keys = λ j. blank-newest G img ok b j ∙ sym (ap (pick (names t j) missing) (blank-newest G img ok b j) ∙ none (names t j)) })
    where
      none : (c : Bool) → pick c missing missing ≡ missing
      none true = refl
      none false = refl

  -- ---- a key that is not held: no byte changes

  -- no item of the page is taken
  abbrev Spared : List ℕ → ℕ → ℕ → Type 0
  Spared img k q = (same Open (state G img q) ≡ true) ⊎ All (λ e. e.it.key ≢ k) (items_of G img q)

  entries_stay : (k : ℕ) (es : List Entry) (img : List ℕ) → All (λ e. e.it.key ≢ k) es → gone_entries G (only k) es img ≡ img
  entries_stay k [] img h = refl
  entries_stay k (e ∷ es) img h = ap (gone_entries G (only k) es) (rw (ne_eqb e.it.key k h.0)) ∙ entries_stay k es img h.1

  pages_stay : (k : ℕ) (qs img : List ℕ) → All (Spared img k) qs → gone_pages G (only k) qs img ≡ img
  pages_stay k [] img h = refl
  pages_stay k (q ∷ qs) img h = ap (gone_pages G (only k) qs) (one h.0) ∙ pages_stay k qs img h.1
    where
      either : (b : Bool) → pick b img img ≡ img
      either true = refl
      either false = refl

      one : Spared img k q → pick (same Open (state G img q)) img (gone_entries G (only k) (items_of G img q) img) ≡ img
      one (inl o) = rw o
      one (inr a) = rw (entries_stay k (items_of G img q) img a) (either (same Open (state G img q)))

  pages_none : (k : ℕ) (img qs : List ℕ) → All (λ e. e.it.key ≢ k) (log_of G img qs) → All (Spared img k) qs
  pages_none k img [] h = tt
  pages_none k img (q ∷ qs) h =
      (inr (All-left (λ e. e.it.key ≢ k) (items_of G img q) (log_of G img qs) h), pages_none k img qs (All_right (λ e. e.it.key ≢ k) (items_of G img q) (log_of G img qs) h))

  pub not_held : (k : ℕ) (img : List ℕ) → Fit G img → Sound G img → newest G img k ≡ missing → removed_img (only k) img ≡ img
  not_held k img ok (blank_ring b) nw =
      open_stays (only k) img (ring_up G (remove_start G img)) (ring_all (λ q. state G img q ≡ Open) (remove_start G img) (start_in img (omega (arith, ok.held.two))) (λ q h. (b q h).is_open))
  not_held k img ok (used_ring p o os cs S) nw =
      let hp = S.in_ring in
      let order : ring_up G (remove_start G img) ≡ (o ∷ os ++ cs) ++ (p ∷ []) =
      rw (partial_is G img p (o ∷ os) cs S, lt-ltb p G.pages hp) (ring_next G p hp ∙ ap (λ (l : List ℕ). l ++ (p ∷ [])) S.rest_is) in
      let none = none_with k (log_of G img cs ++ items_of G img p) (sym (newest_is G img p (o ∷ os) cs S k) ∙ nw) in
      let K : Entry → Type 0 = λ e. e.it.key ≢ k in
      ap (λ (l : List ℕ). gone_pages G (only k) l img) order
      ∙ pages_stay k ((o ∷ os ++ cs) ++ (p ∷ [])) img (All-append (Spared img k) (o ∷ os ++ cs) (p ∷ [])
      (All-append (Spared img k) (o ∷ os) cs (All-map (Unused G img) (Spared img k) (o ∷ os) (λ q x. inl (rw x.is_open)) S.opens)
      (pages_none k img cs (All-left K (log_of G img cs) (items_of G img p) none)))
      (inr (All_right K (log_of G img cs) (items_of G img p) none), tt))

  -- ---- the call

  pub record Removed (t : Which) (img : List ℕ) (er : ℕ) (r : End) : Type 0 where
    pub ans_is : r.ans ≡ Done
    pub img_is : r.st.img ≡ removed_img t img
    pub er_is : r.st.erased ≡ er
    pub sane : Sane G (removed_img t img) r.st.cache

  -- with any cache
  pub remove_is : (t : Which) (img : List ℕ) (ca : Cache) (er : ℕ) → Fit G img → Sound G img
      → final (remove G t (record { img = img; cache = ca; erased = er })) ≡ end Done (onto (forgetting t (record { img = img; cache = ca; erased = er })) (removed_img t img))
  unfolding remove
  remove_is t img ca er ok so = ap final (no-repair G (run_remove G t) img ca er ok so (λ e. let z = ap number (sym (ap (λ (x : End). x.ans) (ends t)) ∙ e) in omega arith)) ∙ ends t
    where
      s₀ : St
      s₀ = record { img = img; cache = ca; erased = er }

      ends : (t : Which) → final (run_remove G t s₀) ≡ end Done (onto (forgetting t s₀) (removed_img t img))
      ends every = pages_end G every (ring_up G (remove_start G img)) (forgetting every s₀)
      ends (only k) = pages_end G (only k) (ring_up G (remove_start G img)) (forgetting (only k) s₀)

  pub remove_res : (t : Which) (img : List ℕ) (ca : Cache) (er : ℕ) → Sane G img ca → Removed t img er (final (remove G t (record { img = img; cache = ca; erased = er })))
  remove_res t img ca er s = rw (remove_is t img ca er s.fit s.sound) (record {
    ans_is = refl;
    img_is = refl;
    er_is = kept t;
    sane = record { fit = (R t).fit; sound = (R t).sound; valid = valid t };
  })
    where
      s₀ : St
      s₀ = record { img = img; cache = ca; erased = er }

      R : (t : Which) → Rid t img (removed_img t img)
      R t = rid_of t img s.fit s.sound

      valid : (t : Which) → Valid G (removed_img t img) (forgetting t s₀).cache
      valid every = valid_clear G (removed_img every img) ca
      valid (only k) = valid_forget G img (removed_img (only k) img) ca k s.valid (λ j ne. (R (only k)).keys j ∙ rw (ne_eqb j k ne))

      kept : (t : Which) → (forgetting t s₀).erased ≡ er
      kept every = refl
      kept (only k) = refl

  -- ---- erase all

  opened : (qs : List ℕ) → All (λ q. q < G.pages) qs → (img : List ℕ) → Fit G img
      → Fit G (erased_img G qs img) × ((q : ℕ) → q < G.pages → Unused G img q → Unused G (erased_img G qs img) q) × All (Unused G (erased_img G qs img)) qs
  opened [] h img ok = (ok, (λ q hq x. x), tt)
  opened (p ∷ ps) h img ok =
      let r = opened ps h.1 (erase G.page img p) (erased G img ok p h.0).fit in
      let here : Unused G (erase G.page img p) p = erase_unused G img ok p h.0 in
      (r.0, (λ q hq x. r.1 q hq (still q hq x (eqb q p) refl)), (r.1 p h.0 here, r.2))
    where
      still : (q : ℕ) → q < G.pages → Unused G img q → (b : Bool) → eqb q p ≡ b → Unused G (erase G.page img p) q
      still q hq x true e = rw (eqb-true q p e) (erase_unused G img ok p h.0)
      still q hq x false e =
          let F = (erased G img ok p h.0).frame in
          let ne = eqb-false q p e in
          record { is_open = F.same_state q hq ne ∙ x.is_open; blank = F.same_area q hq ne ∙ x.blank }

  -- the bytes of the pages before a + m, where those before a are 0xFF already
  wiped_bytes : (m a : ℕ) (img : List ℕ) → Fit G img → a + m ≤ G.pages → take (a * G.page) img ≡ replicate (a * G.page) 255
      → take ((a + m) * G.page) (erased_img G (up_from a m) img) ≡ replicate ((a + m) * G.page) 255
  unfolding erase
  wiped_bytes zero a img ok h e = let z : a + 0 ≡ a = omega arith in rw z e
  wiped_bytes (suc m) a img ok h e =
      let E = G.page in
      let ha : a < G.pages = omega arith in
      let img₁ = erase E img a in
      let le = length-replicate {A = ℕ} E 255 in
      let fits : a * E + length (replicate {A = ℕ} E 255) ≤ length img = omega (arith, ok.held.whole, page_in E a G.pages ha) in
      let b₁ : take (a * E) img₁ ≡ replicate (a * E) 255 = win_before img (a * E) (replicate E 255) fits 0 (a * E) (omega arith) ∙ e in
      let b₂ : take E (drop (a * E) img₁) ≡ replicate E 255 = win_exact img (a * E) (replicate E 255) fits E le in
      let n : suc a * E ≡ a * E + E = omega arith in
      let b₃ : take (suc a * E) img₁ ≡ replicate (suc a * E) 255 =
      ap (λ (x : ℕ). take x img₁) n ∙ take-add (a * E) E img₁ ∙ rw (b₁, b₂) (ff_more (a * E) E) ∙ ap (λ (x : ℕ). replicate x 255) (sym n) in
      let z : a + suc m ≡ suc a + m = omega arith in
      rw z (wiped_bytes m (suc a) img₁ (erased G img ok a ha).fit (omega arith) b₃)

  pub wiped : (img : List ℕ) → Fit G img → Fit G (erased_img G (all_pages G) img) → erased_img G (all_pages G) img ≡ replicate (length img) 255
  wiped img ok ok' =
      let o : 0 * G.page ≡ 0 = omega arith in
      let b = wiped_bytes G.pages 0 img ok (omega arith) (rw o) in
      let z : 0 + G.pages ≡ G.pages = omega arith in
      sym (take_all (G.pages * G.page) (erased_img G (all_pages G) img) (omega (arith, ok'.held.whole))) ∙ (rw z at b) ∙ ap (λ (x : ℕ). replicate x 255) (sym ok.held.whole)

  pub record Wiped (img : List ℕ) (er : ℕ) (r : End) : Type 0 where
    pub ans_is : r.ans ≡ Done
    pub img_is : r.st.img ≡ erased_img G (all_pages G) img
    pub er_is : r.st.erased ≡ er + G.pages
    pub sane : Sane G (erased_img G (all_pages G) img) r.st.cache
    pub blank : Blank G (erased_img G (all_pages G) img)

  -- on any image of the geometry
  pub erase_res : (img : List ℕ) (ca : Cache) (er : ℕ) → Fit G img → Wiped img er (final (erase_all G (record { img = img; cache = ca; erased = er })))
  unfolding erase_all
  erase_res img ca er ok =
      let r = opened (all_pages G) (up_from-All (λ q. q < G.pages) 0 G.pages (λ q a b. omega arith)) img ok in
      let b : Blank G (erased_img G (all_pages G) img) = λ q h. All-up_from (Unused G (erased_img G (all_pages G) img)) 0 G.pages r.2 q (omega arith) (omega arith) in
      let e = erase-end G (all_pages G) img (clear ca) er in
      let v : Valid G (erased_img G (all_pages G) img) (clear ca) = valid_clear G (erased_img G (all_pages G) img) ca in
      record {
        ans_is = ap (λ (x : End). x.ans) e;
        img_is = ap (λ (x : End). x.st.img) e;
        er_is = ap (λ (x : End). x.st.erased) e ∙ ap (λ (x : ℕ). er + x) (length-up_from 0 G.pages);
        blank = b;
        sane = record { fit = r.0; sound = blank_ring b; valid = subst (λ (x : End). Valid G (erased_img G (all_pages G) img) x.st.cache) (sym e) v };
      }
