-- Removal, on the bytes: one item marked Removed, then the matching ones of a page, then of all pages.
use Rattle.std.specs.Prelude.{◌≡◌, ◌≢◌, ◌⊎◌, ℕ, ◌+◌, ◌-◌, ◌≤◌, ◌<◌, Bool, true, false, List, [], ◌∷◌, ◌++◌, drop, replicate, eqb}
use Rattle.std.proofs.Math.Path.{refl, ap}
use Rattle.std.proofs.Common.{sym, ◌∙◌, subst, inl, inr, append_assoc, arith, eqb-true}
use Rattle.std.proofs.Math.ListN.{length, take, length-drop}
use Rattle.std.proofs.Math.Seq.{length-take-le}
use Rattle.std.proofs.lemmas.Bool.{eqb-false}
use Rattle.rules.specs.declared.{Geo.Geo, PageState.TheVariants.Open, Kind.Kind, Kind.TheVariants.Removed}
use Rattle.rules.specs.Bytes.{pick, splice, program, and_all}
use Rattle.rules.specs.Items.{Entry, Scan, is_present, presents, scan}
use Rattle.rules.specs.Pages.{state, scan_of, items_of, area, area_len, data_at, end_at, same}
use Rattle.rules.specs.Remove.{Which, matches}
use Rattle.rules.specs.Sound.{All, BlankTail, Unused}
use Rattle.laws.specs.Lists.{All-zip, All_right}
use Rattle.laws.specs.Splice.{win_in, win_after}
use Rattle.laws.specs.ByteLaws.{and_zeros, Bytes-replicate}
use Rattle.laws.specs.Geometry.{Fit, page_in}
use Rattle.laws.specs.Entries.{page-ok, presents_are}
use Rattle.laws.specs.Check.{In, in_all, scan_check, presents_as, scan_below, mark_as}
use Rattle.laws.specs.Touch.{Frame, AtArea, at_area}
use Rattle.laws.specs.Tails.{tail_of, tail_says, area-length}
use Rattle.laws.specs.Rings.{log_of}
use Rattle.laws.specs.Moves.{frame_scan, frame_tail}
use Rattle.theory.specs.Left.{left, left-append, left_twice, in_presents}
use Rattle.theory.specs.Gone.{gone_entries, gone_pages}

module _ (G : Geo) where
  -- ---- one page: es are its Present entries now

  pub record Page (img img' : List ℕ) (q : ℕ) (es : List Entry) : Type 0 where
    pub fit : Fit G img'
    pub frame : Frame G img img' q
    pub state_is : state G img' q ≡ state G img q
    pub items_is : items_of G img' q ≡ es
    pub tail : BlankTail G img q → BlankTail G img' q

  module _ (img : List ℕ) (ok : Fit G img) (q : ℕ) (hq : q < G.pages) (xs : List Entry) (e : Entry) (ys : List Entry) (items_is : items_of G img q ≡ xs ++ (e ∷ ys)) where
    abbrev zero4 : List ℕ
    zero4 = replicate 4 0

    stands : In e.at (scan_of G img q).items
    stands = in_presents (scan_of G img q).items xs e ys items_is

    lo : data_at G q ≤ e.at
    lo = in_all (λ y. data_at G q ≤ y) e.at (scan_of G img q).items (page-ok G img ok q).from stands

    before_end : e.at + 8 ≤ (scan_of G img q).end
    unfolding scan_of
    before_end =
        in_all (λ y. y + 8 ≤ (scan_of G img q).end) e.at (scan_of G img q).items
        (scan_below G.word (omega (arith, ok.held.low)) (area_len G) (data_at G q) (area G img q)) stands

    hi : e.at + 8 ≤ end_at G q
    hi = omega (arith, before_end, (page-ok G img ok q).within, area-length G img ok q hq, ok.held.room)

    fits : e.at + 4 + length zero4 ≤ length img
    fits = omega (arith, hi, ok.held.whole, ok.held.room, page_in G.page q G.pages hq)

    abbrev img' : List ℕ
    img' = program img (e.at + 4) zero4

    img'_is : img' ≡ splice img (e.at + 4) zero4
    unfolding program
    img'_is =
        let o = take 4 (drop (e.at + 4) img) in
        let l : length o ≡ 4 = length-take-le 4 (drop (e.at + 4) img) (rw length-drop (omega (arith, fits))) in
        let z : and_all o zero4 ≡ zero4 = rw l at (and_zeros o) in
        ap (splice img (e.at + 4)) z

    at : AtArea G img ok q hq img'
    at =
        at_area G img ok q hq img' (e.at + 4) 4 (record { y = zero4; len = refl; bytes = Bytes-replicate 4 0 (omega arith); is = img'_is })
        (omega (arith, lo)) (omega (arith, hi))

    area_is : area G img' q ≡ splice (area G img q) (e.at - data_at G q + 4) zero4
    area_is =
        let z : e.at + 4 - data_at G q ≡ e.at - data_at G q + 4 = omega (arith, lo) in
        rw (img'_is, win_in img (e.at + 4) zero4 fits (data_at G q) (area_len G) (omega (arith, lo)) (omega (arith, hi, lo, ok.held.room)), z)

    -- that entry is Removed, and the rest of the scan stays
    marked : scan_of G img' q ≡ record { items = mark_as e.at Removed (scan_of G img q).items; end = (scan_of G img q).end }
    unfolding scan_of
    marked =
        let M = scan_check G.word ok.held.low ok.held.high e.at zero4 refl (area_len G) (data_at G q) (area G img q) stands in
        let κ : M.0 ≡ Removed = M.2.1 in
        rw area_is (M.1 ∙ ap (λ (x : Kind). record { items = mark_as e.at x (scan G.word (area_len G) (data_at G q) (area G img q)).items; end = (scan G.word (area_len G) (data_at G q) (area G img q)).end }) κ)

    left_is : items_of G img' q ≡ xs ++ ys
    left_is =
        let pe = (All_right (λ e. is_present e.it.kind ≡ true) xs (e ∷ ys) (rw items_is at (presents_are (scan_of G img q).items))).0 in
        rw marked (go (presents_as Removed e ys pe (scan_of G img q).items xs (page-ok G img ok q).sorted items_is))
      where
        L : List Entry
        L = presents (mark_as e.at Removed (scan_of G img q).items)

        go : ((is_present Removed ≡ true) × (L ≡ xs ++ (e ∷ ys))) ⊎ ((is_present Removed ≡ false) × (L ≡ xs ++ ys)) → L ≡ xs ++ ys
        go (inl r) = let h = r.0 in let z : ◌≡◌ {A = ℕ} 0 1 = cc in absurd (omega arith)
        go (inr r) = r.1

    pub one_gone : Page img (program img (e.at + 4) (replicate 4 0)) q (xs ++ ys)
    one_gone = record {
      fit = at.touch.fit;
      frame = at.touch.frame;
      state_is = at.state_is;
      items_is = left_is;
      tail = λ T. let a = (scan_of G img q).end in rw marked (rw img'_is (win_after img (e.at + 4) zero4 fits a (end_at G q - a) (omega (arith, before_end)) ∙ T));
    }

  -- ---- all the entries of a page that match

  page_then : (img img₁ img₂ : List ℕ) (q : ℕ) (es es' : List Entry) → Page img img₁ q es → Page img₁ img₂ q es' → Page img img₂ q es'
  page_then img img₁ img₂ q es es' P Q = record {
    fit = Q.fit;
    frame = record {
      same_state = λ y h ne. Q.frame.same_state y h ne ∙ P.frame.same_state y h ne;
      same_area = λ y h ne. Q.frame.same_area y h ne ∙ P.frame.same_area y h ne;
    };
    state_is = Q.state_is ∙ P.state_is;
    items_is = Q.items_is;
    tail = λ T. Q.tail (P.tail T);
  }

  module _ (t : Which) (q : ℕ) (hq : q < G.pages) (img : List ℕ) where
    entries-gone : (img₁ : List ℕ) (xs es : List Entry) → Page img img₁ q (xs ++ es) → Page img (gone_entries G t es img₁) q (xs ++ left t es)
    entries-gone img₁ xs [] P = P
    entries-gone img₁ xs (e ∷ es) P = go (matches t e) (λ img₂ xs' P'. entries-gone img₂ xs' es P')
      where
        go : (m : Bool) → ((img₂ : List ℕ) (xs' : List Entry) → Page img img₂ q (xs' ++ es) → Page img (gone_entries G t es img₂) q (xs' ++ left t es))
            → Page img (gone_entries G t es (pick m (program img₁ (e.at + 4) (replicate 4 0)) img₁)) q (xs ++ pick m (left t es) (e ∷ left t es))
        go true ih =
            let img₂ = program img₁ (e.at + 4) (replicate 4 0) in
            ih img₂ xs (page_then img img₁ img₂ q (xs ++ (e ∷ es)) (xs ++ es) P (one_gone img₁ P.fit q hq xs e es P.items_is))
        go false ih =
            subst (Page img (gone_entries G t es img₁) q) (append_assoc xs (e ∷ []) (left t es))
            (ih img₁ (xs ++ (e ∷ [])) (subst (Page img img₁ q) (sym (append_assoc xs (e ∷ []) es)) P))

    pub page-gone : Fit G img → Page img (gone_entries G t (items_of G img q) img) q (left t (items_of G img q))
    page-gone ok =
        entries-gone img [] (items_of G img q)
        (record { fit = ok; frame = record { same_state = λ y h ne. refl; same_area = λ y h ne. refl }; state_is = refl; items_is = refl; tail = λ T. T })

  -- ---- all pages of a list

  module _ (t : Which) where
    -- every page is as it was, or without the items that match
    pub record Cleared (img img' : List ℕ) : Type 0 where
      pub fit : Fit G img'
      pub states : (q : ℕ) → q < G.pages → state G img' q ≡ state G img q
      pub opens : (q : ℕ) → q < G.pages → Unused G img q → Unused G img' q
      pub tails : (q : ℕ) → q < G.pages → BlankTail G img q → BlankTail G img' q
      pub items : (q : ℕ) → q < G.pages → (items_of G img' q ≡ items_of G img q) ⊎ (items_of G img' q ≡ left t (items_of G img q))

    -- the items of a page after two clearings
    two : (a b c : List Entry) → (b ≡ a) ⊎ (b ≡ left t a) → (c ≡ b) ⊎ (c ≡ left t b) → (c ≡ a) ⊎ (c ≡ left t a)
    two a b c (inl x) (inl y) = inl (y ∙ x)
    two a b c (inl x) (inr y) = inr (y ∙ ap (left t) x)
    two a b c (inr x) (inl y) = inr (y ∙ x)
    two a b c (inr x) (inr y) = inr (y ∙ ap (left t) x ∙ left_twice t a)

    first_left : (a b c : List Entry) → b ≡ left t a → (c ≡ b) ⊎ (c ≡ left t b) → c ≡ left t a
    first_left a b c x (inl y) = y ∙ x
    first_left a b c x (inr y) = y ∙ ap (left t) x ∙ left_twice t a

    then_left : (a b c : List Entry) → (b ≡ a) ⊎ (b ≡ left t a) → c ≡ left t b → c ≡ left t a
    then_left a b c (inl x) y = y ∙ ap (left t) x
    then_left a b c (inr x) y = y ∙ ap (left t) x ∙ left_twice t a

    cleared_one : (img : List ℕ) → Fit G img → (q : ℕ) → q < G.pages → same Open (state G img q) ≡ false
        → Cleared img (gone_entries G t (items_of G img q) img) × (items_of G (gone_entries G t (items_of G img q) img) q ≡ left t (items_of G img q))
    cleared_one img ok q hq shut = (
      record {
        fit = P.fit;
        states = λ y h. by_page y (λ z. state G img' z ≡ state G img z) P.state_is (P.frame.same_state y h);
        opens = λ y h. by_page y (λ z. Unused G img z → Unused G img' z) (λ o. absurd (opened o))
            (λ ne o. record { is_open = P.frame.same_state y h ne ∙ o.is_open; blank = P.frame.same_area y h ne ∙ o.blank });
        tails = λ y h. by_page y (λ z. BlankTail G img z → BlankTail G img' z) P.tail (λ ne T. tail_says G img' P.fit y h (frame_tail G img img' q P.frame y (h, ne) (tail_of G img ok y h T)));
        items = λ y h. by_page y (λ z. (items_of G img' z ≡ items_of G img z) ⊎ (items_of G img' z ≡ left t (items_of G img z))) (inr here)
            (λ ne. inl (ap (λ (r : Scan). presents r.items) (frame_scan G img img' q P.frame y (h, ne))));
      },
      here,
    )
      where
        img' : List ℕ
        img' = gone_entries G t (items_of G img q) img

        P : Page img (gone_entries G t (items_of G img q) img) q (left t (items_of G img q))
        P = page-gone t q hq img ok

        here : items_of G img' q ≡ left t (items_of G img q)
        here = P.items_is

        opened : Unused G img q → ⊥
        opened o = let z : ◌≡◌ {A = Bool} true false = (rw o.is_open at shut) in let z' : ◌≡◌ {A = ℕ} 0 1 = cc in omega arith

        by_page : (y : ℕ) (C : ℕ → Type 0) → C q → (y ≢ q → C y) → C y
        by_page y C a b = pick_one (eqb y q) refl
          where
            pick_one : (c : Bool) → eqb y q ≡ c → C y
            pick_one true e = subst C (sym (eqb-true y q e)) a
            pick_one false e = b (eqb-false y q e)

    cleared_then : (img img₁ img₂ : List ℕ) → Cleared img img₁ → Cleared img₁ img₂ → Cleared img img₂
    cleared_then img img₁ img₂ A B = record {
      fit = B.fit;
      states = λ q h. B.states q h ∙ A.states q h;
      opens = λ q h o. B.opens q h (A.opens q h o);
      tails = λ q h T. B.tails q h (A.tails q h T);
      items = λ q h. two (items_of G img q) (items_of G img₁ q) (items_of G img₂ q) (A.items q h) (B.items q h);
    }

    -- a page of the list that is not Open has lost what matches
    abbrev pub Lost : List ℕ → List ℕ → ℕ → Type 0
    Lost img img' q = same Open (state G img q) ≡ false → items_of G img' q ≡ left t (items_of G img q)

    pub pages_gone : (qs : List ℕ) → All (λ q. q < G.pages) qs → (img : List ℕ) → Fit G img
        → Cleared img (gone_pages G t qs img) × All (Lost img (gone_pages G t qs img)) qs
    pages_gone [] h img ok = (record { fit = ok; states = λ q h. refl; opens = λ q h o. o; tails = λ q h T. T; items = λ q h. inl refl }, tt)
    pages_gone (q ∷ qs) h img ok = go (same Open (state G img q)) refl (pages_gone qs h.1)
      where
        go : (b : Bool) → same Open (state G img q) ≡ b
            → ((img : List ℕ) → Fit G img → Cleared img (gone_pages G t qs img) × All (Lost img (gone_pages G t qs img)) qs)
            → Cleared img (gone_pages G t qs (pick b img (gone_entries G t (items_of G img q) img)))
            × All (Lost img (gone_pages G t qs (pick b img (gone_entries G t (items_of G img q) img)))) (q ∷ qs)
        go true e ih =
            let r = ih img ok in
            (r.0, ((λ c. let z : ◌≡◌ {A = Bool} true false = sym e ∙ c in let z' : ◌≡◌ {A = ℕ} 0 1 = cc in absurd (omega arith)), r.1))
        go false e ih =
            let img₁ = gone_entries G t (items_of G img q) img in
            let c = cleared_one img ok q h.0 e in
            let r = ih img₁ c.0.fit in
            let img₂ = gone_pages G t qs img₁ in (
              cleared_then img img₁ img₂ c.0 r.0,
              (
                (λ c₀. first_left (items_of G img q) (items_of G img₁ q) (items_of G img₂ q) c.1 (r.0.items q h.0)),
                All-zip (λ y. y < G.pages) (Lost img₁ img₂) (Lost img img₂) qs
                    (λ y hy d u. then_left (items_of G img y) (items_of G img₁ y) (items_of G img₂ y) (c.0.items y hy) (d (rw (c.0.states y hy) u))) h.1 r.1,
              ),
            )

    pub log_left : (img img' : List ℕ) (qs : List ℕ) → All (λ q. items_of G img' q ≡ left t (items_of G img q)) qs → log_of G img' qs ≡ left t (log_of G img qs)
    log_left img img' [] h = refl
    log_left img img' (q ∷ qs) h = rw (h.0, log_left img img' qs h.1) (sym (left-append t (items_of G img q) (log_of G img qs)))
