-- The walk: a single step on any image, and the whole walk around the ring.
use Rattle.std.proofs.Math.Path.{◌≡◌, refl, sym, ap}
use Rattle.std.proofs.Common.{◌∙◌, subst, inl, inr, le_of_mul-le-mul_right}
use Rattle.std.specs.Prelude.{◌≢◌, ◌⊎◌, Bool, take, drop}
use Prim.Native.Nat.{ℕ, zero, suc, ◌+◌, ◌-◌, ◌*◌, ◌/◌, ◌%◌, ◌≤◌, ◌<◌}
use Rattle.std.proofs.Math.Bool.{true, false}
use mathlib.Core.List.{List, [], ◌∷◌, ◌++◌, append_assoc, append-nil}
use Rattle.std.proofs.Math.ListN.{length, length-take, length-drop}
use Rattle.std.proofs.Math.Arith.{digits_mod}
use Rattle.std.proofs.Math.Dec.{eqb, leb}
use Rattle.std.proofs.Math.Nat.{div-add-mod'}
use native.Mathlib.Omega.{arith}
use borrow.Author.Tests.{lt-ltb, le-leb, eq-eqb, ne_eqb, ltb-true, leb-true, eqb-true, eqb-false}
use Rattle.rules.specs.declared.{Geo.Geo, Cursor.Cursor, PageState.TheVariants.Closed, PageState.TheVariants.PartialOpen}
use Rattle.rules.specs.Bytes.{pick, both}
use Rattle.rules.specs.Items.{Entry, Scan, Reading, stop, skip, item, is_present, read, size, scan, presents}
use Rattle.rules.specs.Pages.{is_page, state, scan_of, items_of, area_len, data_at, end_at, ring_up, next, same}
use Rattle.rules.specs.Store.{span_of}
use Rattle.rules.specs.Walk.{Step, ended, stepped, cursor_at, head_step, rest_of, later_pages, walk_step, Walk, stops, steps, walk_first}
use Rattle.rules.specs.Sound.{All, ring_rest, Sound}
use Rattle.laws.specs.Lists.{All-map}
use Rattle.laws.specs.Geometry.{Fit}
use Rattle.laws.specs.Reading.{le_size}
use Rattle.laws.specs.Scans.{scan-stop, scan-skip, scan-item, scan_fuel}
use Rattle.laws.specs.Entries.{Stands, stands, size_words, rest_is, All-presents}
use Rattle.laws.specs.Rings.{log_of, ring_next, ring_cons, rest_all}
use Rattle.laws.specs.Moves.{Not, next_in, rest_not}
use Rattle.theory.specs.Latest.{Calm, begun, walked_log}
use Rattle.promises.specs.Promise.{InOrder, remaining, StepIs, over, gives, later_log, later_items}

module _ (G : Geo) where
  -- there is one whole walk from a cursor
  pub walk_one : (img : List ℕ) {c : Cursor} {es es' : List Entry} → Walk G img c es → Walk G img c es' → es ≡ es'
  walk_one img (stops e) (stops e') = refl
  walk_one img (stops e) (steps e' w) = let z : ◌≡◌ {A = ℕ} 0 1 = cc in absurd (omega arith)
  walk_one img (steps e w) (stops e') = let z : ◌≡◌ {A = ℕ} 0 1 = cc in absurd (omega arith)
  walk_one img (steps {c' = c₁} {e = x} {es = xs} e w) (steps {c' = c₂} {e = y} {es = ys} e' w') =
      let z₁ : x ≡ y = cc in
      let z₂ : c₂ ≡ c₁ = cc in
      let z₃ : xs ≡ ys = walk_one img w (subst (λ (c : Cursor). Walk G img c ys) z₂ w') in
      cc

  abbrev pub cursor : ℕ → ℕ → ℕ → Cursor
  cursor f q a = record { first = f; page = q; place = a }

  module _ (img : List ℕ) (ok : Fit G img) where
    w₊ : 0 < G.word
    w₊ = omega (arith, ok.held.low)

    -- ---- a place of page q on a word, in the data area or at its end

    pub record On (q a : ℕ) : Type 0 where
      pub off : ℕ
      pub at_is : a ≡ q * G.page + off * G.word
      pub low : G.word ≤ off * G.word
      pub high : a ≤ end_at G q

    -- a page is whole words
    words : ℕ
    words = G.page / G.word

    page_words : (q : ℕ) → q * G.page ≡ q * words * G.word
    unfolding words
    page_words q =
        let e : G.page ≡ G.page / G.word * G.word = omega (arith, div-add-mod' G.page G.word, ok.held.words) in
        let e' : q * G.page ≡ q * (G.page / G.word * G.word) = ap (λ (x : ℕ). q * x) e in
        e' ∙ omega arith

    on_word : (q a : ℕ) → On q a → a % G.word ≡ 0
    on_word q a h =
        let z : a ≡ (q * words + h.off) * G.word + 0 = omega (arith, h.at_is, page_words q) in
        rw z (digits_mod (q * words + h.off) w₊)

    -- the rule of a step, for a cursor that is in order
    pub step_is : (f q a : ℕ) → f < G.pages → q < G.pages → On q a
        → walk_step G img (cursor f q a) ≡ head_step G f q (rest_of G img q a) (later_pages G img f (ring_up G (next G q)))
    unfolding walk_step
    step_is f q a hf hq h =
        rw (lt-ltb q G.pages hq, lt-ltb f G.pages hf, le-leb (data_at G q) a (omega (arith, h.at_is, h.low)), le-leb a (end_at G q) h.high, on_word q a h)

    -- ---- within a page

    abbrev pub from : ℕ → ℕ → List ℕ
    from q a = take (end_at G q - a) (drop a img)

    fuel : (q a f : ℕ) → q * G.page ≤ a → length (from q a) ≤ f → presents (scan G.word f a (from q a)).items ≡ rest_of G img q a
    fuel q a f lo h =
        let l = length-take (end_at G q - a) (drop a img) in
        ap (λ (r : Scan). presents r.items) (scan_fuel G.word w₊ f G.page a (from q a) h (omega arith))

    -- a page's items, from its data area's start on
    pub rest_start : (q : ℕ) → rest_of G img q (data_at G q) ≡ items_of G img q
    unfolding scan_of
    rest_start q =
        let z : end_at G q - data_at G q ≡ area_len G = omega (arith, ok.held.room) in
        let l = length-take (area_len G) (drop (data_at G q) img) in
        sym (fuel q (data_at G q) (area_len G) (omega arith) (rw z (omega arith))) ∙ rw z

    -- after the first item come the others
    after : (q : ℕ) (e : Entry) (es : List Entry) (f a : ℕ) → q * G.page ≤ a → length (from q a) ≤ f
        → presents (scan G.word f a (from q a)).items ≡ e ∷ es → rest_of G img q (e.at + span_of G e) ≡ es
    unfolding scan
    after q e es zero a lo h c = let z : ◌≡◌ {A = ℕ} 0 1 = cc in absurd (omega arith)
    after q e es (suc f) a lo h c = go (read G.word (from q a)) refl (λ b. after q e es f b)
      where
        go : (r : Reading) → read G.word (from q a) ≡ r
            → ((b : ℕ) → q * G.page ≤ b → length (from q b) ≤ f → presents (scan G.word f b (from q b)).items ≡ e ∷ es → rest_of G img q (e.at + span_of G e) ≡ es)
            → rest_of G img q (e.at + span_of G e) ≡ es
        go stop r ih =
            let x : [] ≡ e ∷ es = rw (scan-stop G.word f a (from q a) r) at c in
            let z : ◌≡◌ {A = ℕ} 0 1 = cc in absurd (omega arith)
        go skip r ih =
            let d = rest_is G img ok q a G.word in
            let l = length-drop G.word (from q a) in
            let hw = w₊ in
            ih (a + G.word) (omega arith) (rw (← d) (omega arith)) (rw (scan-skip G.word f a (from q a) r, d) at c)
        go (item i) r ih = is_it (is_present i.kind) refl (rw (scan-item G.word f a (from q a) i r, rest_is G img ok q a (size G.word i.len)) at c)
          where
            z : ℕ
            z = size G.word i.len

            l : length (from q (a + size G.word i.len)) ≤ f
            l =
                let hz = le_size G.word i.len w₊ in
                let d = length-drop (size G.word i.len) (from q a) in
                rw (← rest_is G img ok q a (size G.word i.len)) (omega arith)

            rest : List Entry
            rest = presents (scan G.word f (a + size G.word i.len) (from q (a + size G.word i.len))).items

            is_it : (b : Bool) → is_present i.kind ≡ b → pick b (record { at = a; it = i } ∷ rest) rest ≡ e ∷ es → rest_of G img q (e.at + span_of G e) ≡ es
            is_it false p y = ih (a + size G.word i.len) (omega arith) l y
            is_it true p y =
                let y₁ : record { at = a; it = i } ≡ e = cc in
                let y₂ : rest ≡ es = cc in
                let y₃ : a + size G.word i.len ≡ e.at + span_of G e = ap (λ (x : Entry). x.at + span_of G x) y₁ in
                ap (rest_of G img q) (sym y₃) ∙ sym (fuel q (a + size G.word i.len) f (omega arith) l) ∙ y₂

    pub rest_next : (q a : ℕ) (e : Entry) (es : List Entry) → On q a → rest_of G img q a ≡ e ∷ es → On q (e.at + span_of G e) × (rest_of G img q (e.at + span_of G e) ≡ es)
    rest_next q a e es h c =
        let S : All (Stands G img q) (rest_of G img q a) = All-presents (Stands G img q) (scan G.word G.page a (from q a)).items (stands G img ok q G.page a h.off h.at_is h.low h.high) in
        let s : Stands G img q e = (subst (All (Stands G img q)) c S).0 in
        let j = size_words G (length img) ok.held e.it.len in
        let je = j.1 in
        let l = length-take (end_at G q - a) (drop a img) in (
          record { off = s.off + j.0; at_is = omega (arith, s.at_is); low = omega (arith, s.low); high = s.high },
          after q e es G.page a (omega (arith, h.at_is)) (omega (arith, h.at_is)) c,
        )

    pub on_start : (q : ℕ) → On q (data_at G q)
    on_start q = record { off = 1; at_is = omega arith; low = omega arith; high = omega (arith, ok.held.room) }

    -- ---- a cursor in order, as words

    on_of : (c : Cursor) → InOrder G c → On c.page c.place
    on_of c o =
        let e = page_words c.page in
        let d = div-add-mod' c.place G.word in
        let lo = o.low in
        let wd = o.word in
        let off = c.place / G.word - c.page * words in
        let m : c.page * words * G.word ≤ c.place / G.word * G.word = omega arith in
        let le : c.page * words ≤ c.place / G.word = le_of_mul-le-mul_right m w₊ in
        let x : off + c.page * words ≡ c.place / G.word = omega arith in
        let y : off * G.word + c.page * words * G.word ≡ c.place / G.word * G.word = omega (arith, ap (λ (z : ℕ). z * G.word) x) in
        record { off = off; at_is = omega arith; low = omega arith; high = o.high }

    order_of : (f q a : ℕ) → f < G.pages → q < G.pages → On q a → InOrder G (cursor f q a)
    order_of f q a hf hq h = record { first< = hf; page< = hq; low = omega (arith, h.at_is, h.low); high = h.high; word = on_word q a h }

    -- ---- around the ring

    abbrev Has : ℕ → List ℕ → Type 0
    Has f [] = ⊥
    Has f (q ∷ qs) = (q ≡ f) ⊎ Has f qs

    has_own : (qs : List ℕ) → All (λ q. Has q qs) qs
    has_own [] = tt
    has_own (q ∷ qs) = (inl refl, All-map (λ x. Has x qs) (λ x. Has x (q ∷ qs)) qs (λ x h. inr h) (has_own qs))

    has_ring : (f p : ℕ) → f < G.pages → p < G.pages → Has f (ring_up G p)
    has_ring f p hf hp = rw (ring_cons G p hp) (go (eqb f p) refl)
      where
        go : (b : Bool) → eqb f p ≡ b → (p ≡ f) ⊎ Has f (ring_rest G p)
        go true e = inl (sym (eqb-true f p e))
        go false e = inr (rest_all G (λ q. Has q (ring_rest G p)) p hp (has_own (ring_rest G p)) f hf (eqb-false f p e))

    -- what stands behind the first page is not looked at
    log_cut : (f : ℕ) (ps ys : List ℕ) → Has f ps → later_log G img f (ps ++ ys) ≡ later_log G img f ps
    log_cut f [] ys h = absurd h
    log_cut f (p ∷ ps) ys h = go (eqb p f) refl h (log_cut f ps ys)
      where
        go : (b : Bool) → eqb p f ≡ b → (p ≡ f) ⊎ Has f ps → (Has f ps → later_log G img f (ps ++ ys) ≡ later_log G img f ps)
            → pick b [] (later_items G img p ++ later_log G img f (ps ++ ys)) ≡ pick b [] (later_items G img p ++ later_log G img f ps)
        go true e x ih = refl
        go false e (inl x) ih = absurd (eqb-false p f e x)
        go false e (inr x) ih = rw (ih x)

    head_listed : (f p : ℕ) (r : Step) → pick (same Closed (state G img p)) (head_step G f p (items_of G img p) r) (pick (same PartialOpen (state G img p)) (head_step G f p (items_of G img p) r) r) ≡ head_step G f p (later_items G img p) r
    head_listed f p r = go (same Closed (state G img p)) (same PartialOpen (state G img p))
      where
        go : (b c : Bool) → pick b (head_step G f p (items_of G img p) r) (pick c (head_step G f p (items_of G img p) r) r) ≡ head_step G f p (pick b (items_of G img p) (pick c (items_of G img p) [])) r
        go true c = refl
        go false true = refl
        go false false = refl

    listed_items : (p : ℕ) (e : Entry) (es : List Entry) → later_items G img p ≡ e ∷ es → items_of G img p ≡ e ∷ es
    listed_items p e es h = go (same Closed (state G img p)) (same PartialOpen (state G img p)) h
      where
        go : (b c : Bool) → pick b (items_of G img p) (pick c (items_of G img p) []) ≡ e ∷ es → items_of G img p ≡ e ∷ es
        go true c h = h
        go false true h = h
        go false false h = let z : ◌≡◌ {A = ℕ} 0 1 = cc in absurd (omega arith)

    -- a step's outcome, where log is what remains
    abbrev Outcome : ℕ → Step → List Entry → Type 0
    Outcome f r log =
        ((r ≡ ended) × (log ≡ []))
        ⊎ ((e : Entry) × (c : Cursor) × (r ≡ stepped e c) × (log ≡ e ∷ remaining G img c) × InOrder G c × (c.first ≡ f))

    -- the pages ps come after page y, and the first page is among them
    later_outcome : (f : ℕ) → f < G.pages → (ps ys : List ℕ) (y : ℕ) → y < G.pages → ring_up G (next G y) ≡ ps ++ ys → Has f ps → Outcome f (later_pages G img f ps) (later_log G img f ps)
    later_outcome f hf [] ys y hy r h = absurd h
    later_outcome f hf (p ∷ ps) ys y hy r h =
        let c : next G y ∷ ring_rest G (next G y) ≡ p ∷ (ps ++ ys) = sym (ring_cons G (next G y) (next_in G y hy)) ∙ r in
        let c₁ : next G y ≡ p = cc in
        let c₂ : ring_rest G (next G y) ≡ ps ++ ys = cc in
        let hp : p < G.pages = subst (λ (x : ℕ). x < G.pages) c₁ (next_in G y hy) in
        let r' : ring_up G (next G p) ≡ ps ++ (ys ++ (p ∷ [])) = ring_next G p hp ∙ ap (λ (l : List ℕ). l ++ (p ∷ [])) (rw c₁ at c₂) ∙ append_assoc ps ys (p ∷ []) in
        go (eqb p f) refl hp r' h (later_outcome f hf ps (ys ++ (p ∷ [])) p hp r')
      where
        found : p < G.pages → ring_up G (next G p) ≡ ps ++ (ys ++ (p ∷ [])) → Has f ps → (l : List Entry) → later_items G img p ≡ l → Outcome f (later_pages G img f ps) (later_log G img f ps)
            → Outcome f (head_step G f p l (later_pages G img f ps)) (l ++ later_log G img f ps)
        found hp r' x [] q o = o
        found hp r' x (e ∷ es) q o =
            let n = rest_next p (data_at G p) e es (on_start p) (rest_start p ∙ listed_items p e es q) in
            inr (
              e,
              cursor f p (e.at + span_of G e),
              refl,
              ap (λ (l : List Entry). e ∷ l) (sym (ap (λ (l : List Entry). l ++ later_log G img f (ring_up G (next G p))) n.1 ∙ ap (λ (l : List Entry). es ++ l) (ap (later_log G img f) r' ∙ log_cut f ps (ys ++ (p ∷ [])) x))),
              order_of f p (e.at + span_of G e) hf hp n.0,
              refl,
            )

        go : (b : Bool) → eqb p f ≡ b → p < G.pages → ring_up G (next G p) ≡ ps ++ (ys ++ (p ∷ [])) → (p ≡ f) ⊎ Has f ps → (Has f ps → Outcome f (later_pages G img f ps) (later_log G img f ps))
            → Outcome f (later_pages G img f (p ∷ ps)) (later_log G img f (p ∷ ps))
        go true e hp r' x ih = rw e (inl (refl, refl))
        go false e hp r' (inl x) ih = absurd (eqb-false p f e x)
        go false e hp r' (inr x) ih = rw (e, head_listed f p (later_pages G img f ps)) (found hp r' x (later_items G img p) refl (ih x))

    step_outcome : (c : Cursor) → InOrder G c → Outcome c.first (walk_step G img c) (remaining G img c)
    step_outcome c o =
        rw (step_is c.first c.page c.place o.first< o.page< (on_of c o)) (go (rest_of G img c.page c.place) refl)
      where
        f : ℕ
        f = c.first

        q : ℕ
        q = c.page

        later : Outcome f (later_pages G img f (ring_up G (next G q))) (later_log G img f (ring_up G (next G q)))
        later = later_outcome f o.first< (ring_up G (next G q)) [] q o.page< (sym (append-nil (ring_up G (next G q)))) (has_ring f (next G q) o.first< (next_in G q o.page<))

        go : (l : List Entry) → rest_of G img q c.place ≡ l → Outcome f (head_step G f q l (later_pages G img f (ring_up G (next G q)))) (l ++ later_log G img f (ring_up G (next G q)))
        go [] h = later
        go (e ∷ es) h =
            let n = rest_next q c.place e es (on_of c o) h in
            inr (
              e,
              cursor f q (e.at + span_of G e),
              refl,
              ap (λ (l : List Entry). e ∷ (l ++ later_log G img f (ring_up G (next G q)))) (sym n.1),
              order_of f q (e.at + span_of G e) o.first< o.page< n.0,
              refl,
            )

    -- A single step, on any image of the geometry
    pub step_rule : (c : Cursor) → InOrder G c → StepIs G img c (walk_step G img c)
    step_rule c o = go (step_outcome c o)
      where
        go : Outcome c.first (walk_step G img c) (remaining G img c) → StepIs G img c (walk_step G img c)
        go (inl x) = over x.0 x.1
        go (inr x) = gives x.0 x.1 x.2 x.3 x.4 x.5

    -- The whole walk, on any image of the geometry
    pub walk_rest : (xs : List Entry) (c : Cursor) → InOrder G c → remaining G img c ≡ xs → Walk G img c xs
    walk_rest [] c o h = go (step_outcome c o)
      where
        go : Outcome c.first (walk_step G img c) (remaining G img c) → Walk G img c []
        go (inl x) = stops x.0
        go (inr x) = let y : [] ≡ x.0 ∷ remaining G img x.1 = sym h ∙ x.3 in let z : ◌≡◌ {A = ℕ} 0 1 = cc in absurd (omega arith)
    walk_rest (e ∷ xs) c o h = go (step_outcome c o) (λ c' o' h'. walk_rest xs c' o' h')
      where
        go : Outcome c.first (walk_step G img c) (remaining G img c) → ((c' : Cursor) → InOrder G c' → remaining G img c' ≡ xs → Walk G img c' xs) → Walk G img c (e ∷ xs)
        go (inl x) ih = let y : e ∷ xs ≡ [] = sym h ∙ x.1 in let z : ◌≡◌ {A = ℕ} 0 1 = cc in absurd (omega arith)
        go (inr x) ih =
            let y : e ∷ xs ≡ x.0 ∷ remaining G img x.1 = sym h ∙ x.3 in
            let y₁ : x.0 ≡ e = cc in
            let y₂ : remaining G img x.1 ≡ xs = cc in
            steps (x.2 ∙ ap (λ (i : Entry). stepped i x.1) y₁) (ih x.1 x.4 y₂)

    calm_listed : (q : ℕ) → Calm G img q → later_items G img q ≡ items_of G img q
    calm_listed q (inl c) = rw c
    calm_listed q (inr (inl c)) = rw c (one (same Closed (state G img q)) (items_of G img q))
      where
        one : (b : Bool) (x : List Entry) → pick b x x ≡ x
        one true x = refl
        one false x = refl
    calm_listed q (inr (inr c)) = rw c (either (same Closed (state G img q)) (same PartialOpen (state G img q)) [])
      where
        either : (b c : Bool) (x : List Entry) → pick b x (pick c x x) ≡ x
        either true c x = refl
        either false true x = refl
        either false false x = refl

    calm_log : (f : ℕ) (qs : List ℕ) → All (λ q. (q ≢ f) × Calm G img q) qs → later_log G img f (qs ++ (f ∷ [])) ≡ log_of G img qs
    calm_log f [] h = rw (eq-eqb f f refl)
    calm_log f (q ∷ qs) h = rw (ne_eqb q f h.0.0, calm_listed q h.0.1, calm_log f qs h.1)

    -- where all pages are calm: the Present items of all pages, from page f on around the ring
    walk-all : (f : ℕ) → f < G.pages → ((q : ℕ) → q < G.pages → Calm G img q) → Walk G img (cursor_at G f) (log_of G img (ring_up G f))
    walk-all f hf calm =
        let o = All-map (Not G f) (λ q. (q ≢ f) × Calm G img q) (ring_rest G f) (λ q n. (n.1, calm q n.0)) (rest_not G f hf (ring_rest G f) refl) in
        let e : remaining G img (cursor_at G f) ≡ log_of G img (ring_up G f) = rw (ring_cons G f hf, ring_next G f hf, rest_start f, calm_log f (ring_rest G f) o) in
        walk_rest (log_of G img (ring_up G f)) (cursor_at G f) (order_of f f (data_at G f) hf hf (on_start f)) e

  -- a cursor that is not in order ends the walk, on any image
  pub step_ends : (img : List ℕ) (c : Cursor) → (InOrder G c → ⊥) → walk_step G img c ≡ ended
  unfolding walk_step
  step_ends img c no-order = go (is_page G c.page) refl (is_page G c.first) refl (leb (data_at G c.page) c.place) refl (leb c.place (end_at G c.page)) refl (eqb (c.place % G.word) 0) refl
    where
      go : (a₁ : Bool) → is_page G c.page ≡ a₁ → (a₂ : Bool) → is_page G c.first ≡ a₂ → (a₃ : Bool) → leb (data_at G c.page) c.place ≡ a₃
          → (a₄ : Bool) → leb c.place (end_at G c.page) ≡ a₄ → (a₅ : Bool) → eqb (c.place % G.word) 0 ≡ a₅
          → pick (both a₁ (both a₂ (both a₃ (both a₄ a₅)))) (head_step G c.first c.page (rest_of G img c.page c.place) (later_pages G img c.first (ring_up G (next G c.page)))) ended ≡ ended
      go true e₁ true e₂ true e₃ true e₄ true e₅ = absurd (no-order (record {
        first< = ltb-true c.first G.pages e₂;
        page< = ltb-true c.page G.pages e₁;
        low = leb-true (data_at G c.page) c.place e₃;
        high = leb-true c.place (end_at G c.page) e₄;
        word = eqb-true (c.place % G.word) 0 e₅;
      }))
      go true e₁ true e₂ true e₃ true e₄ false e₅ = refl
      go true e₁ true e₂ true e₃ false e₄ a₅ e₅ = refl
      go true e₁ true e₂ false e₃ a₄ e₄ a₅ e₅ = refl
      go true e₁ false e₂ a₃ e₃ a₄ e₄ a₅ e₅ = refl
      go false e₁ a₂ e₂ a₃ e₃ a₄ e₄ a₅ e₅ = refl

  -- the whole walk of a sound image, from the page where a walk starts
  pub walked : (img : List ℕ) → Fit G img → Sound G img → Walk G img (cursor_at G (walk_first G img)) (walked_log G img)
  walked img ok s = let b = begun G img ok s in walk-all img ok (walk_first G img) b.first< b.calm
