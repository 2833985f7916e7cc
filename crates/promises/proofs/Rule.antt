-- The FullStorage rule as document 01 says it, page by page, and the ring's form of it: the same.
use Rattle.std.specs.Prelude.{◌≡◌, refl, ◌≢◌, ◌⊎◌, ◌↔◌, ℕ, suc, ◌+◌, ◌-◌, ◌≤◌, ◌<◌, length, Bool, true, false, List, [], ◌∷◌, ◌++◌, eqb}
use Rattle.std.proofs.Common.{sym, ap, ◌∙◌, subst, inl, inr, append_assoc, append-nil, arith, eqb-true, eq-eqb, ne_eqb}
use Rattle.std.proofs.lemmas.Bool.{eqb-false}
use Rattle.rules.specs.declared.{Geo.Geo, PageState.TheVariants.Open, PageState.TheVariants.Closed, PageState.PageState, Answer.TheVariants.Done, Answer.TheVariants.FullStorage}
use Rattle.rules.specs.Bytes.{pick}
use Rattle.rules.specs.Items.{Entry, size}
use Rattle.rules.specs.Pages.{state, scan_of, items_of, state_no, up_from}
use Rattle.rules.specs.Cache.{Cache}
use Rattle.rules.specs.Answers.{data_limit, number}
use Rattle.rules.specs.Runs.{Out, End}
use Rattle.rules.specs.Fetch.{Found, corrupt, missing, found, or_else, newest, last_with}
use Rattle.rules.specs.Store.{store}
use Rattle.rules.specs.Sound.{All, Ring, ring_rest, Unused}
use Rattle.laws.specs.Lists.{All-append, All-left, All_right, All-map, All-zip}
use Rattle.laws.specs.Geometry.{Fit}
use Rattle.laws.specs.Entries.{Sorted, Sorted-presents, Stands, stands_items, page-ok}
use Rattle.laws.specs.Touch.{mark_start}
use Rattle.laws.specs.Rings.{rest_all, log_of, log_append, newest_is, last-append}
use Rattle.laws.specs.Moves.{Not, turned, rest_not}
use Rattle.theory.specs.Cached.{last_in}
use Rattle.theory.specs.Migrate.{keep, keep_if, last_not_corrupt}
use Rattle.theory.specs.Migrated.{apart_log}
use Rattle.theory.specs.Rollover.{Used}
use Rattle.theory.specs.Stored.{Fitting, Good}
use Rattle.theory.specs.Full.{NoRoom}
use Rattle.theory.specs.Room.{now}
use Rattle.theory.specs.Exact.{size_fits, full_exact, full-erases}
use Rattle.theory.specs.Sane.{Sane, Blank, marked_good, marked-scan, sane_cases, marked_ring}
use Rattle.theory.specs.Storing.{st, store_is, blank-turns}
use Rattle.promises.specs.Promise.{newest_in, stands_at, Tight, FullRule}

module _ (G : Geo) where
  -- ---- the newest items of a page are those that are kept

  keep-newest : (img : List ℕ) (before es later : List Entry) → ((k : ℕ) → newest G img k ≡ last_with k (before ++ (es ++ later))) → Sorted es
      → All (λ e. All (λ f. f.at ≢ e.at) later) es → keep later es ≡ newest_in G img es
  keep-newest img before [] later h so apt = refl
  keep-newest img before (e ∷ es) later h so apt =
      go (last_with e.it.key (es ++ later)) refl
      (keep-newest img (before ++ (e ∷ [])) es later (λ k. h k ∙ ap (last_with k) (sym (append_assoc before (e ∷ []) (es ++ later)))) so.1 apt.1)
    where
      nw : newest G img e.it.key ≡ or_else (or_else (last_with e.it.key (es ++ later)) (found e)) (last_with e.it.key before)
      nw = h e.it.key ∙ last-append e.it.key before (e ∷ (es ++ later)) ∙ rw (eq-eqb e.it.key e.it.key refl)

      others : All (λ f. f.at ≢ e.at) (es ++ later)
      others = All-append (λ f. f.at ≢ e.at) es later (All-map (λ f. e.at < f.at) (λ f. f.at ≢ e.at) es (λ f lt y. absurd (omega arith)) so.0) apt.0

      go : (r : Found) → last_with e.it.key (es ++ later) ≡ r → keep later es ≡ newest_in G img es
          → keep_if (last_with e.it.key (es ++ later)) e (keep later es) ≡ pick (stands_at (newest G img e.it.key) e.at) (e ∷ newest_in G img es) (newest_in G img es)
      go corrupt q ih = absurd (last_not_corrupt e.it.key (es ++ later) q)
      go missing q ih = rw (nw, q, eq-eqb e.at e.at refl, ih)
      go (found f) q ih =
          let ne = (last_in (λ f. f.at ≢ e.at) e.it.key (es ++ later) others f q).0 in
          rw (nw, q, ne_eqb f.at e.at ne, ih)

  -- no page comes twice
  abbrev pub Apart : List ℕ → Type 0
  Apart [] = Unit {0}
  Apart (q ∷ qs) = All (Not G q) qs × Apart qs

  apart_ring : (qs pre : List ℕ) (p : ℕ) → p < G.pages → ring_rest G p ≡ qs ++ pre → Apart qs
  apart_ring [] pre p hp e = tt
  apart_ring (q ∷ qs) pre p hp e =
      let hq = (rest_not G p hp (q ∷ qs ++ pre) e).0.0 in
      let t : ring_rest G q ≡ qs ++ (pre ++ (p ∷ [])) = (turned G p q (qs ++ pre) hp e).1 ∙ append_assoc qs pre (p ∷ []) in
      (All-left (Not G q) qs (pre ++ (p ∷ [])) (rest_not G q hq (qs ++ (pre ++ (p ∷ []))) t), apart_ring qs (pre ++ (p ∷ [])) q hq t)

  apart_right : (xs ys : List ℕ) → Apart (xs ++ ys) → Apart ys
  apart_right [] ys h = h
  apart_right (x ∷ xs) ys h = apart_right xs ys h.1

  module _ (img : List ℕ) (ok : Fit G img) (sz : ℕ) where
    kept : (before : List Entry) (q : ℕ) (qs : List ℕ) → ((k : ℕ) → newest G img k ≡ last_with k (before ++ log_of G img (q ∷ qs))) → All (Not G q) qs
        → keep (log_of G img qs) (items_of G img q) ≡ newest_in G img (items_of G img q)
    kept before q qs h n =
        keep-newest img before (items_of G img q) (log_of G img qs) h (Sorted-presents (scan_of G img q).items (page-ok G img ok q).sorted)
        (All-map (Stands G img q) (λ e. All (λ f. f.at ≢ e.at) (log_of G img qs)) (items_of G img q) (λ e s. apart_log G img ok q e s qs n) (stands_items G img ok q))

    further : (before : List Entry) (q : ℕ) (qs : List ℕ) → ((k : ℕ) → newest G img k ≡ last_with k (before ++ log_of G img (q ∷ qs)))
        → (k : ℕ) → newest G img k ≡ last_with k ((before ++ items_of G img q) ++ log_of G img qs)
    further before q qs h k = h k ∙ ap (last_with k) (sym (append_assoc before (items_of G img q) (log_of G img qs)))

    to_tight : (before : List Entry) (qs : List ℕ) → ((k : ℕ) → newest G img k ≡ last_with k (before ++ log_of G img qs)) → Apart qs → NoRoom G sz img qs → All (Tight G sz img) qs
    to_tight before [] h a n = tt
    to_tight before (q ∷ qs) h a n = (rw (kept before q qs h a.0) at n.0, to_tight (before ++ items_of G img q) qs (further before q qs h) a.1 n.1)

    to_no_room : (before : List Entry) (qs : List ℕ) → ((k : ℕ) → newest G img k ≡ last_with k (before ++ log_of G img qs)) → Apart qs → All (Tight G sz img) qs → NoRoom G sz img qs
    to_no_room before [] h a n = tt
    to_no_room before (q ∷ qs) h a n = (rw (kept before q qs h a.0) n.0, to_no_room (before ++ items_of G img q) qs (further before q qs h) a.1 n.1)

    -- ---- the ring's form, and document 01's

    module _ (p o : ℕ) (os cs : List ℕ) (S : Ring G img p (o ∷ os) cs) where
      hp : p < G.pages
      hp = S.in_ring

      np : All (Not G p) (o ∷ os ++ cs)
      np = rest_not G p hp (o ∷ os ++ cs) S.rest_is

      ho : o < G.pages
      ho = np.0.0

      after-o : ring_rest G o ≡ (os ++ cs) ++ (p ∷ [])
      after-o = (turned G p o (os ++ cs) hp S.rest_is).1

      finds : (k : ℕ) → newest G img k ≡ last_with k ([] ++ log_of G img (cs ++ (p ∷ [])))
      finds k = newest_is G img p (o ∷ os) cs S k ∙ ap (last_with k) (sym (log_append G img cs (p ∷ []) ∙ ap (λ (l : List Entry). log_of G img cs ++ l) (append-nil (items_of G img p))))

      used : Apart (cs ++ (p ∷ []))
      used =
          apart_right os (cs ++ (p ∷ [])) (apart_ring (os ++ (cs ++ (p ∷ []))) [] o ho (after-o ∙ append_assoc os cs (p ∷ []) ∙ sym (append-nil (os ++ (cs ++ (p ∷ []))))))

      closed_not : (s : PageState) → s ≡ Closed → s ≢ Open
      closed_not s e f = let z = ap state_no (sym e ∙ f) in omega arith

      part_not : state G img p ≢ Open
      part_not f = let z = ap state_no (sym S.partial ∙ f) in omega arith

      pub rule_to : (os ≡ []) × NoRoom G sz img (cs ++ (p ∷ [])) → FullRule G sz img
      rule_to x =
          let t = to_tight [] (cs ++ (p ∷ [])) finds used x.1 in
          let e : ring_rest G p ≡ o ∷ cs = S.rest_is ∙ ap (λ (l : List ℕ). o ∷ l ++ cs) x.0 in
          record {
            one_open = record { page = o; in_ring = ho; is_open = S.opens.0.is_open; alone = λ q hq so. only q hq so (eqb q p) refl e };
            tight = λ q hq ne. each q hq ne (eqb q p) refl e t;
          }
        where
          only : (q : ℕ) → q < G.pages → state G img q ≡ Open → (b : Bool) → eqb q p ≡ b → ring_rest G p ≡ o ∷ cs → q ≡ o
          only q hq so true c e = absurd (part_not (rw (eqb-true q p c) at so))
          only q hq so false c e =
              rest_all G (λ q. state G img q ≡ Open → q ≡ o) p hp
              (rw e ((λ y. refl), All-map (λ q. state G img q ≡ Closed) (λ q. state G img q ≡ Open → q ≡ o) cs (λ q h y. absurd (closed_not (state G img q) h y)) S.closeds))
              q hq (eqb-false q p c) so

          each : (q : ℕ) → q < G.pages → state G img q ≢ Open → (b : Bool) → eqb q p ≡ b → ring_rest G p ≡ o ∷ cs → All (Tight G sz img) (cs ++ (p ∷ [])) → Tight G sz img q
          each q hq ne true c e t = subst (Tight G sz img) (sym (eqb-true q p c)) (All_right (Tight G sz img) cs (p ∷ []) t).0
          each q hq ne false c e t =
              rest_all G (λ q. state G img q ≢ Open → Tight G sz img q) p hp
              (rw e ((λ y. absurd (y S.opens.0.is_open)), All-map (Tight G sz img) (λ q. state G img q ≢ Open → Tight G sz img q) cs (λ q h y. h) (All-left (Tight G sz img) cs (p ∷ []) t)))
              q hq (eqb-false q p c) ne

      pub rule_from : FullRule G sz img → (os ≡ []) × NoRoom G sz img (cs ++ (p ∷ []))
      rule_from r = (
        none os S.opens after-o np,
        to_no_room [] (cs ++ (p ∷ [])) finds used (All-append (Tight G sz img) cs (p ∷ [])
            (All-zip (λ q. state G img q ≡ Closed) (Not G p) (Tight G sz img) cs (λ q h y. r.tight q y.0 (closed_not (state G img q) h)) S.closeds (All_right (Not G p) (o ∷ os) cs np))
            (r.tight p hp part_not, tt)),
      )
        where
          none : (os : List ℕ) → All (Unused G img) (o ∷ os) → ring_rest G o ≡ (os ++ cs) ++ (p ∷ []) → All (Not G p) (o ∷ os ++ cs) → os ≡ []
          none [] op e n = refl
          none (o₂ ∷ os) op e n =
              let ne = (rest_not G o ho (o₂ ∷ ((os ++ cs) ++ (p ∷ []))) e).0 in
              let a = r.one_open.alone o ho op.0.is_open in
              let b = r.one_open.alone o₂ ne.0 op.1.0.is_open in
              absurd (ne.1 (b ∙ sym a))

  -- ---- the store on any sound image

  module _ (img : List ℕ) (k : ℕ) (v : List ℕ) (ca : Cache) (s : Sane G img ca) (f : Fitting G k v) (fits : 4 + length v ≤ data_limit G.word G.page) where
    abbrev r : Out
    r = store G k v (st G img ca 0)

    -- a blank image has room after the first turn, and more than one Open page
    blank_done : Blank G img → r.ans ≡ Done
    blank_done b =
        let ok = s.fit in
        let z : G.pages - 1 ≡ suc (G.pages - 2) = omega (arith, ok.held.two) in
        let m = marked_good G img ok b ca s.valid in
        let g : Used G (mark_start G img 0) = record { fit = m.fit; p = 0; o = 1; os = up_from 2 (G.pages - 2); cs = []; ring = marked_ring G img ok b } in
        let e = now G k v (G.pages - 2) (mark_start G img 0) ca 0 g (rw (marked-scan G img ok b) (omega (arith, size_fits G img ok v fits, ok.held.room))) in
        rw (store_is G img k v ca 0 s f) (ap (λ (x : End). x.ans) (blank-turns G img k v ca 0 ok b) ∙ rw z e)

    blank_many : Blank G img → FullRule G (size G.word (4 + length v)) img → ⊥
    blank_many b x =
        let h = s.fit.held.two in
        let c = x.one_open.alone 0 (omega arith) (b 0 (omega arith)).is_open in
        let d = x.one_open.alone 1 (omega arith) (b 1 (omega arith)).is_open in
        omega arith

    pub store_rule : (r.ans ≡ FullStorage) ↔ FullRule G (size G.word (4 + length v)) img
    store_rule = go (sane_cases G img ca s)
      where
        go : Blank G img ⊎ Good G img ca → (r.ans ≡ FullStorage) ↔ FullRule G (size G.word (4 + length v)) img
        go (inl b) = ((λ e. let z = ap number (sym (blank_done b) ∙ e) in absurd (omega arith)), λ x. absurd (blank_many b x))
        go (inr g) =
            let x = full_exact G k v img ca 0 g fits in
            rw (store_is G img k v ca 0 s f) (
              (λ e. rule_to img g.fit (size G.word (4 + length v)) g.p g.o g.os g.cs g.ring (x.0 e)),
              (λ y. x.1 (rule_from img g.fit (size G.word (4 + length v)) g.p g.o g.os g.cs g.ring y)),
            )

    pub store-erases : r.ans ≡ FullStorage → r.st.erased ≡ G.pages
    store-erases e = go (sane_cases G img ca s)
      where
        go : Blank G img ⊎ Good G img ca → r.st.erased ≡ G.pages
        go (inl b) = let z = ap number (sym (blank_done b) ∙ e) in absurd (omega arith)
        go (inr g) =
            let i = store_is G img k v ca 0 s f in
            let x = (full_exact G k v img ca 0 g fits).0 (ap (λ (o : Out). o.ans) (sym i) ∙ e) in
            let z : 0 + G.pages ≡ G.pages = omega arith in
            ap (λ (o : Out). o.st.erased) i ∙ (full-erases G k v img ca 0 g x.0 x.1).1 ∙ z
