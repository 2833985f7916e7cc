-- The list of a sound image: what its log has last of each key is the newest item, with the value's bytes as they stand.
use Rattle.std.specs.Prelude.{◌≡◌, refl, ◌≢◌, ◌⊎◌, ℕ, ◌+◌, ◌-◌, ◌≤◌, ◌<◌, Bool, true, false, List, [], ◌∷◌, ◌++◌, take, drop, length, eqb}
use Rattle.std.proofs.Common.{sym, ◌∙◌, subst, inl, inr, append-nil, length-take, take-take, drop-drop, arith, eqb-true, lt-ltb}
use Rattle.std.proofs.Math.Path.{ap}
use Rattle.std.proofs.Math.Option.{none as nothing}
use Rattle.std.proofs.lemmas.Bool.{eqb-false}
use Rattle.rules.specs.declared.{Geo.Geo, PageState.TheVariants.PartialOpen, PageState.TheVariants.Closed, Answer.TheVariants.Done}
use Rattle.rules.specs.Bytes.{pick, of_le}
use Rattle.rules.specs.Items.{Item, Entry, len_of, is_present, size}
use Rattle.rules.specs.Pages.{state, items_of, end_at, ring_up, next, scan_of, same, state_no}
use Rattle.rules.specs.Cache.{Cache}
use Rattle.rules.specs.Answers.{number}
use Rattle.rules.specs.Runs.{Out, out}
use Rattle.rules.specs.Fetch.{Found, corrupt, missing, found, or_else, newest, last_with}
use Rattle.rules.specs.Walk.{run_start, walk_start, walk_first}
use Rattle.rules.specs.Sound.{All, Sound, blank_ring, Unused, used_ring}
use Rattle.rules.specs.List.{Pair, has_key, latest, pair_of, in_list, pairs}
use Rattle.laws.specs.Lists.{All-append, All-map, All-zip}
use Rattle.laws.specs.Splice.{drop-take}
use Rattle.laws.specs.Geometry.{Fit, page_in}
use Rattle.laws.specs.Reading.{le_size, read_item_inv, present_long}
use Rattle.laws.specs.Entries.{Stands, stands_items, presents_are}
use Rattle.laws.specs.Tails.{blank-scan}
use Rattle.laws.specs.Rings.{ring_next, rest_all, log_of, log_append, newest_is, partial_is}
use Rattle.laws.specs.Moves.{next_in}
use Rattle.theory.specs.Cached.{last_in}
use Rattle.theory.specs.Migrate.{last_not_corrupt}
use Rattle.theory.specs.Keep.{it_of}
use Rattle.theory.specs.Sane.{blank-items, blank-newest, blank_first, blank_open, no-page, before_zero, no-repair, page_zero}
use Rattle.theory.specs.Listed.{val_of, Lists}
use Rattle.theory.specs.Removing.{ring_all}

module _ (G : Geo) where
  -- ---- an entry's value, as the image shows it

  abbrev pub Bytewise : List ℕ → Entry → Type 0
  Bytewise img e = (take e.it.vlen (drop (e.at + e.it.voff) img) ≡ e.it.val) × (e.at + e.it.voff + e.it.vlen ≤ length img)

  stands_bytes : (img : List ℕ) → Fit G img → (q : ℕ) → q < G.pages → (e : Entry) → Stands G img q e → is_present e.it.kind ≡ true → Bytewise img e
  stands_bytes img ok q hq e st pr =
      let M = end_at G q - e.at in
      let s = take M (drop e.at img) in
      let L = len_of s in
      let v = read_item_inv G.word s e.it st.reads in
      let l = length-take M (drop e.at img) in
      let hz = le_size G.word L (omega (arith, ok.held.low)) in
      let h : L - 4 ≤ M - 12 = omega (arith, v.1) in
      let e₁ : drop 4 (take L (drop 8 s)) ≡ take (L - 4) (drop 12 s) = drop-take 4 L (drop 8 s) ∙ ap (take (L - 4)) (drop-drop 4 8 s) in
      let e₂ : drop 12 s ≡ take (M - 12) (drop (e.at + 12) img) = drop-take 12 M (drop e.at img) ∙ ap (take (M - 12)) (drop-drop 12 e.at img) in
      let p₄ : 4 ≤ length (take L (drop 8 s)) = present_long (of_le (take 4 (drop 4 s))) (take L (drop 8 s)) (ap (λ (i : Item). is_present i.kind) v.2 ∙ pr) in
      let l_l = length-take L (drop 8 s) in
      let pg = page_in G.page q G.pages hq in
      let sz : size G.word L ≤ M = omega (arith, v.1) in
      subst (λ (i : Item). (take i.vlen (drop (e.at + i.voff) img) ≡ i.val) × (e.at + i.voff + i.vlen ≤ length img)) v.2
      (sym (e₁ ∙ ap (take (L - 4)) e₂ ∙ take-take (L - 4) (M - 12) (drop (e.at + 12) img) h), omega (arith, ok.held.whole, ok.held.room))

  log_bytes : (img : List ℕ) → Fit G img → (qs : List ℕ) → All (λ q. q < G.pages) qs → All (Bytewise img) (log_of G img qs)
  log_bytes img ok [] h = tt
  log_bytes img ok (q ∷ qs) h =
      All-append (Bytewise img) (items_of G img q) (log_of G img qs)
      (All-zip (Stands G img q) (λ e. is_present e.it.kind ≡ true) (Bytewise img) (items_of G img q) (λ e s p. stands_bytes img ok q h.0 e s p) (stands_items G img ok q) (presents_are (scan_of G img q).items))
      (log_bytes img ok qs h.1)

  -- ---- the last pair of each key

  abbrev is_found : Found → Bool
  is_found corrupt = false
  is_found missing = false
  is_found (found e) = true

  has_last : (img : List ℕ) (k : ℕ) (es : List Entry) → has_key k (pairs img es) ≡ is_found (last_with k es)
  has_last img k [] = refl
  has_last img k (e ∷ es) = go (eqb e.it.key k) (last_with k es) (last_not_corrupt k es) (has_last img k es)
    where
      go : (b : Bool) (r : Found) → r ≢ corrupt → has_key k (pairs img es) ≡ is_found r → pick b true (has_key k (pairs img es)) ≡ is_found (or_else r (pick b (found e) missing))
      go b corrupt n ih = absurd (n refl)
      go true missing n ih = refl
      go false missing n ih = ih
      go true (found f) n ih = refl
      go false (found f) n ih = ih

  pub latest-last : (img : List ℕ) (k : ℕ) (es : List Entry) → All (Bytewise img) es → in_list k (latest (pairs img es)) ≡ val_of (it_of (last_with k es))
  latest-last img k [] h = refl
  latest-last img k (e ∷ es) h = go (has_key e.it.key (pairs img es)) refl (eqb e.it.key k) refl (last_with k es) refl (latest-last img k es h.1)
    where
      same : eqb e.it.key k ≡ true → (b : Bool) → has_key e.it.key (pairs img es) ≡ b → is_found (last_with k es) ≡ b
      same c b q = sym (has_last img k es) ∙ ap (λ (x : ℕ). has_key x (pairs img es)) (sym (eqb-true e.it.key k c)) ∙ q

      go : (b : Bool) → has_key e.it.key (pairs img es) ≡ b → (c : Bool) → eqb e.it.key k ≡ c → (r : Found) → last_with k es ≡ r
          → in_list k (latest (pairs img es)) ≡ val_of (it_of (last_with k es))
          → in_list k (pick b (latest (pairs img es)) (pair_of img e ∷ latest (pairs img es))) ≡ val_of (it_of (or_else (last_with k es) (pick c (found e) missing)))
      go b p c q corrupt r ih = absurd (last_not_corrupt k es r)
      go true p true q missing r ih = let z : is_found missing ≡ true = ap is_found (sym r) ∙ same q true p in let z' : ◌≡◌ {A = ℕ} 0 1 = cc in absurd (omega arith)
      go true p true q (found f) r ih = ih ∙ rw r
      go true p false q missing r ih = ih ∙ rw r
      go true p false q (found f) r ih = ih ∙ rw r
      go false p true q (found f) r ih = let z : is_found (found f) ≡ false = ap is_found (sym r) ∙ same q false p in let z' : ◌≡◌ {A = ℕ} 0 1 = cc in absurd (omega arith)
      go false p true q missing r ih = rw (q, r, h.0.0)
      go false p false q missing r ih = rw q (ih ∙ rw r)
      go false p false q (found f) r ih = rw q (ih ∙ rw r)

  -- ---- the walk's start, and what it reads

  -- a page that a walk lists wherever it comes, or that has no item
  abbrev pub Calm : List ℕ → ℕ → Type 0
  Calm img q = (same Closed (state G img q) ≡ true) ⊎ ((same PartialOpen (state G img q) ≡ true) ⊎ (items_of G img q ≡ []))

  pub record Begun (img : List ℕ) : Type 0 where
    pub first< : walk_first G img < G.pages
    pub calm : (q : ℕ) → q < G.pages → Calm img q
    pub finds : (k : ℕ) → newest G img k ≡ last_with k (log_of G img (ring_up G (walk_first G img)))
    pub from : (p : ℕ) → p < G.pages → state G img p ≡ PartialOpen → walk_first G img ≡ next G p

  logs_none : (img qs : List ℕ) → All (λ q. items_of G img q ≡ []) qs → log_of G img qs ≡ []
  logs_none img [] h = refl
  logs_none img (q ∷ qs) h = rw (h.0, logs_none img qs h.1)

  pub begun : (img : List ℕ) → Fit G img → Sound G img → Begun img
  begun img ok (blank_ring b) =
      let it = blank-items G img ok b in
      let at0 : walk_first G img ≡ 0 = rw (blank_first G img ok b PartialOpen refl, no-page G img ok b, blank_open G img ok b, page_zero G img ok b, before_zero G img ok b) in
      record {
        first< = rw at0 (omega (arith, ok.held.two));
        calm = λ q h. inr (inr (it q h));
        from = λ p h e. let z = ap state_no (sym (b p h).is_open ∙ e) in absurd (omega arith);
        finds = λ k. blank-newest G img ok b k ∙ sym (rw (at0, logs_none img (ring_up G 0) (ring_all G (λ q. items_of G img q ≡ []) 0 (omega (arith, ok.held.two)) it)));
      }
  begun img ok (used_ring p o os cs S) = record {
    first< = rw at_next (next_in G p hp);
    calm = λ q h. here q h (eqb q p) refl;
    from = λ q h e. at_next ∙ ap (next G) (sym (only q h e (eqb q p) refl));
    finds = λ k. newest_is G img p (o ∷ os) cs S k ∙ ap (last_with k) (sym log_is);
  }
    where
      hp : p < G.pages
      hp = S.in_ring

      at_next : walk_first G img ≡ next G p
      at_next = rw (partial_is G img p (o ∷ os) cs S, lt-ltb p G.pages hp)

      none_open : All (λ q. items_of G img q ≡ []) (o ∷ os)
      none_open = All-map (Unused G img) (λ q. items_of G img q ≡ []) (o ∷ os) (λ q h. rw (blank-scan G img q h.blank)) S.opens

      log_is : log_of G img (ring_up G (walk_first G img)) ≡ log_of G img cs ++ items_of G img p
      log_is =
          rw (at_next, ring_next G p hp, S.rest_is, log_append G img ((o ∷ os) ++ cs) (p ∷ []), log_append G img (o ∷ os) cs, logs_none img (o ∷ os) none_open, append-nil (items_of G img p))

      C : ℕ → Type 0
      C q = Calm img q

      here : (q : ℕ) → q < G.pages → (b : Bool) → eqb q p ≡ b → C q
      here q hq true e = rw (eqb-true q p e) (inr (inl (rw S.partial)))
      here q hq false e =
          rest_all G C p hp
          (rw S.rest_is (All-append C (o ∷ os) cs (All-map (λ q. items_of G img q ≡ []) C (o ∷ os) (λ q h. inr (inr h)) none_open)
          (All-map (λ q. state G img q ≡ Closed) C cs (λ q h. inl (rw h)) S.closeds)))
          q hq (eqb-false q p e)

      U : ℕ → Type 0
      U q = state G img q ≡ PartialOpen → q ≡ p

      -- no other page is PartialOpen
      only : (q : ℕ) → q < G.pages → state G img q ≡ PartialOpen → (b : Bool) → eqb q p ≡ b → q ≡ p
      only q hq e true c = eqb-true q p c
      only q hq e false c =
          rest_all G U p hp
          (rw S.rest_is (All-append U (o ∷ os) cs
          (All-map (Unused G img) U (o ∷ os) (λ q x y. let z = ap state_no (sym x.is_open ∙ y) in absurd (omega arith)) S.opens)
          (All-map (λ q. state G img q ≡ Closed) U cs (λ q x y. let z = ap state_no (sym x ∙ y) in absurd (omega arith)) S.closeds)))
          q hq (eqb-false q p c) e

  abbrev pub walked_log : List ℕ → List Entry
  walked_log img = log_of G img (ring_up G (walk_first G img))

  pub start_res : (img : List ℕ) (ca : Cache) (er : ℕ) → Fit G img → Sound G img
      → walk_start G (record { img = img; cache = ca; erased = er }) ≡ out Done (record { img = img; cache = ca; erased = er })
  unfolding walk_start
  start_res img ca er ok s =
      let e : run_start G (record { img = img; cache = ca; erased = er }) ≡ out Done (record { img = img; cache = ca; erased = er }) =
      rw (lt-ltb (walk_first G img) G.pages (begun img ok s).first<) in
      no-repair G (run_start G) img ca er ok s (λ x. let z = ap number (sym (ap (λ (o : Out). o.ans) e) ∙ x) in absurd (omega arith)) ∙ e

  walked_bytes : (img : List ℕ) → Fit G img → Sound G img → All (Bytewise img) (walked_log img)
  walked_bytes img ok s = log_bytes img ok (ring_up G (walk_first G img)) (ring_all G (λ q. q < G.pages) (walk_first G img) (begun img ok s).first< (λ q h. h))

  -- ---- the list

  abbrev pub list_of : List ℕ → List Pair
  list_of img = latest (pairs img (walked_log img))

  pub lists_of : (img : List ℕ) → Fit G img → Sound G img → Lists G img (list_of img)
  lists_of img ok s k =
      ap (λ (r : Found). val_of (it_of r)) ((begun img ok s).finds k) ∙ sym (latest-last img k (walked_log img) (walked_bytes img ok s))

  pub not_corrupt : (img : List ℕ) → Fit G img → Sound G img → (k : ℕ) → newest G img k ≢ corrupt
  not_corrupt img ok s k e = last_not_corrupt k (walked_log img) (sym ((begun img ok s).finds k) ∙ e)

  -- a key that the list does not have
  pub absent : (img : List ℕ) (l : List Pair) (k : ℕ) → Fit G img → Sound G img → Lists G img l → in_list k l ≡ nothing → newest G img k ≡ missing
  absent img l k ok s h e = go (newest G img k) (not_corrupt img ok s k) (h k ∙ e)
    where
      go : (r : Found) → r ≢ corrupt → val_of (it_of r) ≡ nothing → r ≡ missing
      go corrupt n q = absurd (n refl)
      go missing n q = refl
      go (found x) n q = let z : ◌≡◌ {A = ℕ} 0 1 = cc in absurd (omega arith)

  -- what is found is in the log, and its value's bytes are the image's
  pub found-bytes : (img : List ℕ) (k : ℕ) → Fit G img → Sound G img → (x : Entry) → newest G img k ≡ found x → Bytewise img x
  found-bytes img k ok s x e = (last_in (Bytewise img) k (walked_log img) (walked_bytes img ok s) x (sym ((begun img ok s).finds k) ∙ e)).0
