-- Migration moves exactly the newest items, whatever right cache it is given.
use Rattle.std.specs.Prelude.{◌≡◌, ◌≢◌, Bool, true, false, eqb}
use Rattle.std.proofs.Math.Path.{refl, sym}
use Rattle.std.proofs.Common.{◌∙◌, arith, ne_eqb, eq-eqb}
use Prim.Native.Nat.{ℕ, ◌+◌, ◌<◌}
use mathlib.Core.List.{List, [], ◌∷◌, ◌++◌, append_assoc, append-nil}
use Rattle.std.proofs.lemmas.Bool.{eqb-false}
use Rattle.rules.specs.declared.{Geo.Geo, Answer.TheVariants.Done}
use Rattle.rules.specs.Bytes.{pick, program}
use Rattle.rules.specs.Items.{Item, Entry}
use Rattle.rules.specs.Pages.{items_of}
use Rattle.rules.specs.Cache.{Cache, note}
use Rattle.rules.specs.Runs.{St, End, final}
use Rattle.rules.specs.Fetch.{Found, corrupt, missing, found, or_else, last_with, newest, Got, fetch_in}
use Rattle.rules.specs.Store.{migrate_all, migrate_one, copy_of, span_of}
use Rattle.rules.specs.Sound.{All, Ring}
use Rattle.laws.specs.Lists.{All-append, All-left, All-map, All-zip}
use Rattle.laws.specs.Geometry.{Fit}
use Rattle.laws.specs.Entries.{spans, Sorted}
use Rattle.laws.specs.Rings.{log_of, newest_is, last-append}
use Rattle.laws.specs.Moves.{frame_log, frame_items, Not, rest_not}
use Rattle.theory.specs.Cached.{last_in, Valid, valid_note, fetch_cached, newest-hit, Fetched}
use Rattle.theory.specs.Placing.{Placed}
use Rattle.theory.specs.Copying.{Source, Copied, copied, source_stay, end_of, img₁}

-- ---- lists of entries

abbrev pub its : List Entry → List Item
its [] = []
its (e ∷ es) = e.it ∷ its es

pub its-append : (xs ys : List Entry) → its (xs ++ ys) ≡ its xs ++ its ys
its-append [] ys = refl
its-append (x ∷ xs) ys = rw (its-append xs ys)

-- no entry has the key
pub none_with : (k : ℕ) (es : List Entry) → last_with k es ≡ missing → All (λ e. e.it.key ≢ k) es
none_with k [] h = tt
none_with k (e ∷ es) h = go (last_with k es) refl (eqb e.it.key k) refl h (λ y. none_with k es y)
  where
    go : (r : Found) → last_with k es ≡ r → (b : Bool) → eqb e.it.key k ≡ b → or_else r (pick b (found e) missing) ≡ missing
        → (last_with k es ≡ missing → All (λ e. e.it.key ≢ k) es) → All (λ e. e.it.key ≢ k) (e ∷ es)
    go corrupt c b d h ih = let z : ◌≡◌ {A = ℕ} 0 1 = cc in absurd (omega arith)
    go missing c true d h ih = let z : ◌≡◌ {A = ℕ} 0 1 = cc in absurd (omega arith)
    go missing c false d h ih = (eqb-false e.it.key k d, ih c)
    go (found f) c b d h ih = let z : ◌≡◌ {A = ℕ} 0 1 = cc in absurd (omega arith)

-- the newest of the entries: those whose key stands neither further on nor in `later`
abbrev pub keep_if : Found → Entry → List Entry → List Entry
keep_if corrupt e r = r
keep_if missing e r = e ∷ r
keep_if (found f) e r = r

abbrev pub keep : List Entry → List Entry → List Entry
keep later [] = []
keep later (e ∷ es) = keep_if (last_with e.it.key (es ++ later)) e (keep later es)

pub last_not_corrupt : (k : ℕ) (es : List Entry) → last_with k es ≢ corrupt
last_not_corrupt k [] h = let z : ◌≡◌ {A = ℕ} 0 1 = cc in absurd (omega arith)
last_not_corrupt k (e ∷ es) h = go (last_with k es) refl (eqb e.it.key k) h (last_not_corrupt k es)
  where
    go : (r : Found) → last_with k es ≡ r → (b : Bool) → or_else r (pick b (found e) missing) ≡ corrupt → last_with k es ≢ corrupt → ⊥
    go corrupt c b h ih = ih c
    go missing c true h ih = let z : ◌≡◌ {A = ℕ} 0 1 = cc in absurd (omega arith)
    go missing c false h ih = let z : ◌≡◌ {A = ℕ} 0 1 = cc in absurd (omega arith)
    go (found f) c b h ih = let z : ◌≡◌ {A = ℕ} 0 1 = cc in absurd (omega arith)

-- the images of a migration, with no cache
module _ (G : Geo) where
  abbrev pub move_if : Found → (List ℕ → ℕ → List ℕ) → List ℕ → ℕ → Entry → List ℕ
  move_if corrupt k img wp e = k img wp
  move_if missing k img wp e = k (program img wp (copy_of G img e)) (wp + span_of G e)
  move_if (found f) k img wp e = k img wp

  unfoldable pub move_img : List Entry → List Entry → List ℕ → ℕ → List ℕ
  move_img later [] img wp = img
  move_img later (e ∷ es) img wp = move_if (last_with e.it.key (es ++ later)) (move_img later es) img wp e

pub last_key : (k : ℕ) (e : Entry) (es : List Entry) → e.it.key ≡ k → last_with k es ≡ missing → last_with k (e ∷ es) ≡ found e
last_key k e es q h = rw (h, eq-eqb e.it.key k q)

pub last_cons_found : (k : ℕ) (e f : Entry) (es : List Entry) → last_with k es ≡ found f → last_with k (e ∷ es) ≡ found f
last_cons_found k e f es h = rw h

-- one more entry at the end
pub last_snoc : (k : ℕ) (es : List Entry) (e : Entry) → last_with k (es ++ (e ∷ [])) ≡ or_else (pick (eqb e.it.key k) (found e) missing) (last_with k es)
last_snoc k es e = last-append k es (e ∷ [])

-- what a fetch gives, written out
pub got_is : (g : Got) (img : List ℕ) (er : ℕ) (r : Found) → g.st.img ≡ img → g.st.erased ≡ er → g.res ≡ r
    → g ≡ record { st = record { img = img; cache = g.st.cache; erased = er }; res = r }
got_is g img er r p q e = λ i. record { st = record { img = p i; cache = g.st.cache; erased = q i }; res = e i }

module _ (G : Geo) (o c : ℕ) (cs : List ℕ) (later : List Entry) where
  pub record Ready (img : List ℕ) (before es : List Entry) : Type 0 where
    pub source : Source G o c cs img before es
    pub later_is : log_of G img cs ≡ later
    pub fresh : All (λ e. last_with e.it.key (items_of G img o) ≡ missing) es
    pub sorted : Sorted es
    pub apart : All (λ e. All (λ f. f.at ≢ e.at) later) es

  pub record Moved (img : List ℕ) (er : ℕ) (img' : List ℕ) (kept : List Entry) (r : End) : Type 0 where
    pub ans_is : r.ans ≡ Done
    pub img_is : r.st.img ≡ img'
    pub er_is : r.st.erased ≡ er
    pub valid : Valid G img' r.st.cache
    pub fit : Fit G img'
    pub ring : Ring G img' o [] (c ∷ cs)
    pub src_is : items_of G img' c ≡ items_of G img c
    pub later_is : log_of G img' cs ≡ later
    pub its_is : its (items_of G img' o) ≡ its (items_of G img o) ++ its kept
    pub end_is : end_of G o img' ≡ end_of G o img + spans G.word kept
    pub pages_is : All (λ q. items_of G img' q ≡ items_of G img q) cs

  -- the newest item of the key of e, where e is the next entry of the source
  module _ (img : List ℕ) (before es : List Entry) (e : Entry) (R : Ready img before (e ∷ es)) where
    abbrev pub k : ℕ
    k = e.it.key

    log_split : newest G img k ≡ or_else (last_with k (e ∷ (es ++ later))) (last_with k before)
    log_split =
        rw (
          newest_is G img o [] (c ∷ cs) R.source.ring e.it.key,
          last-append e.it.key (items_of G img c ++ log_of G img cs) (items_of G img o),
          R.fresh.0,
          R.source.src,
          R.later_is,
          append_assoc before (e ∷ es) later,
        )
        (last-append e.it.key before (e ∷ (es ++ later)))

    pub newest-own : last_with k (es ++ later) ≡ missing → newest G img k ≡ found e
    newest-own h = rw (log_split, last_key k e (es ++ later) refl h)

    pub newest-later : (f : Entry) → last_with k (es ++ later) ≡ found f → newest G img k ≡ found f
    newest-later f h = rw (log_split, last_cons_found k e f (es ++ later) h)

    -- it is not the newest: it stays behind
    pub ready_stay : Ready img (before ++ (e ∷ [])) es
    ready_stay = record {
      source = source_stay G o c cs img before es e R.source;
      later_is = R.later_is;
      fresh = R.fresh.1;
      sorted = R.sorted.1;
      apart = R.apart.1;
    }

    pub elsewhere : (f : Entry) → last_with k (es ++ later) ≡ found f → f.at ≢ e.at
    elsewhere f h =
        (last_in (λ f. f.at ≢ e.at) k (es ++ later)
        (All-append (λ f. f.at ≢ e.at) es later (All-map (λ f. e.at < f.at) (λ f. f.at ≢ e.at) es (λ f lt q. absurd (omega arith)) R.sorted.0) R.apart.0) f h).0

    -- it is the newest: it is copied
    X : Copied G o c cs img before es e R.source
    X = copied G o c cs img before es e R.source

    W : Placed G img R.source.fit o [] (c ∷ cs) (copy_of G img e) e.it (img₁ G o c cs img before es e R.source)
    W = X.put

    copy : Entry
    copy = record { at = end_of G o img; it = e.it }

    np : All (Not G o) (c ∷ cs)
    np = rest_not G o R.source.ring.in_ring (c ∷ cs) R.source.ring.rest_is

    abbrev pub new₁ : List ℕ
    new₁ = img₁ G o c cs img before es e R.source

    later₁ : log_of G new₁ cs ≡ later
    later₁ = frame_log G img new₁ o W.all.frame cs np.1 ∙ R.later_is

    newest₁ : (j : ℕ) → newest G new₁ j ≡ or_else (pick (eqb e.it.key j) (found copy) missing) (newest G img j)
    unfolding copy
    newest₁ j =
        rw (
          newest_is G new₁ o [] (c ∷ cs) W.all.ring j,
          newest_is G img o [] (c ∷ cs) R.source.ring j,
          W.all.log_is,
          W.items_is,
          ← append_assoc (log_of G img (c ∷ cs)) (items_of G img o) (record { at = end_of G o img; it = e.it } ∷ []),
        )
        (last_snoc j (log_of G img (c ∷ cs) ++ items_of G img o) (record { at = end_of G o img; it = e.it }))

    newest_copy : newest G new₁ k ≡ found copy
    newest_copy = rw (newest₁ k, eq-eqb e.it.key e.it.key refl)

    newest_rest : (j : ℕ) → j ≢ k → newest G new₁ j ≡ newest G img j
    newest_rest j ne = rw (newest₁ j, ne_eqb e.it.key j (λ y. ne (sym y)))

    pub valid₁ : (ca : Cache) → Valid G img ca → Valid G new₁ (note k (end_of G o img) ca)
    unfolding copy
    valid₁ ca v =
        valid_note G img new₁ ca k copy v newest_rest newest_copy (newest-hit G new₁ W.all.fit o [] (c ∷ cs) W.all.ring k copy newest_copy).1

    pub ready₁ : last_with k (es ++ later) ≡ missing → Ready new₁ (before ++ (e ∷ [])) es
    ready₁ h = record {
      source = X.source;
      later_is = later₁;
      fresh = All-zip (λ f. f.it.key ≢ k) (λ f. last_with f.it.key (items_of G img o) ≡ missing) (λ f. last_with f.it.key (items_of G new₁ o) ≡ missing) es
          (λ f n m. rw (W.items_is, last_snoc f.it.key (items_of G img o) (record { at = end_of G o img; it = e.it }), m, ne_eqb e.it.key f.it.key (λ y. n (sym y))))
          (All-left (λ f. f.it.key ≢ k) es later (none_with k (es ++ later) h)) R.fresh.1;
      sorted = R.sorted.1;
      apart = R.apart.1;
    }

    -- what the rest of the run did, seen from before this copy
    carried : (er : ℕ) (img' : List ℕ) (kept : List Entry) (u : End) → Moved new₁ er img' kept u → Moved img er img' (e ∷ kept) u
    carried er img' kept u m = record {
      ans_is = m.ans_is;
      img_is = m.img_is;
      er_is = m.er_is;
      valid = m.valid;
      fit = m.fit;
      ring = m.ring;
      src_is = m.src_is ∙ X.src_is;
      later_is = m.later_is;
      its_is = m.its_is ∙ rw (W.items_is, its-append (items_of G img o) (record { at = end_of G o img; it = e.it } ∷ [])) (append_assoc (its (items_of G img o)) (e.it ∷ []) (its kept));
      end_is = omega (arith, m.end_is, X.end_is);
      pages_is = All-zip (λ q. items_of G img' q ≡ items_of G new₁ q) (λ q. items_of G new₁ q ≡ items_of G img q) (λ q. items_of G img' q ≡ items_of G img q) cs (λ q a b. a ∙ b)
          m.pages_is (frame_items G img new₁ o W.all.frame cs np.1);
    }

  -- the state of a run, written out
  abbrev pub st_of : List ℕ → Cache → ℕ → St
  st_of img ca er = record { img = img; cache = ca; erased = er }

  pub moved : (es : List Entry) (img : List ℕ) (before : List Entry) (ca : Cache) (er : ℕ) → Ready img before es → Valid G img ca
      → Moved img er (move_img G later es img (end_of G o img)) (keep later es) (final (migrate_all G es (end_of G o img) (st_of img ca er)))
  unfolding move_img migrate_all
  moved [] img before ca er R v = record {
    ans_is = refl;
    img_is = refl;
    er_is = refl;
    valid = v;
    fit = R.source.fit;
    ring = R.source.ring;
    src_is = refl;
    later_is = R.later_is;
    its_is = sym (append-nil (its (items_of G img o)));
    end_is = omega arith;
    pages_is = same-all cs;
  }
    where
      same-all : (qs : List ℕ) → All (λ q. items_of G img q ≡ items_of G img q) qs
      same-all [] = tt
      same-all (q ∷ qs) = (refl, same-all qs)
  moved (e ∷ es) img before ca er R v =
      go (last_with e.it.key (es ++ later)) refl (λ img' before' ca' R' v'. moved es img' before' ca' er R' v')
    where
      wp : ℕ
      wp = end_of G o img

      g : Got
      g = fetch_in G e.it.key (st_of img ca er)

      fc : Fetched G img R.source.fit o [] (c ∷ cs) R.source.ring e.it.key er g
      fc = fetch_cached G img R.source.fit o [] (c ∷ cs) R.source.ring e.it.key ca er v

      Goal : Found → End → Type 0
      Goal r u = Moved img er (move_if G r (move_img G later es) img wp e) (keep_if r e (keep later es)) u

      stay : (f : Entry) → last_with e.it.key (es ++ later) ≡ found f
          → Moved img er (move_img G later es img wp) (keep later es) (final (migrate_all G es wp (st_of img g.st.cache er)))
          → Goal (found f) (final (migrate_one G e wp g.st (migrate_all G es) g.res))
      stay f q m =
          rw (
            got_is g img er (found f) fc.img_is fc.erased_is (fc.res_is ∙ newest-later img before es e R f q),
            ne_eqb f.at e.at (elsewhere img before es e R f q),
          ) m

      go : (r : Found) → last_with e.it.key (es ++ later) ≡ r
          → ((img' : List ℕ) (before' : List Entry) (ca' : Cache) → Ready img' before' es → Valid G img' ca'
          → Moved img' er (move_img G later es img' (end_of G o img')) (keep later es) (final (migrate_all G es (end_of G o img') (st_of img' ca' er))))
          → Moved img er (move_if G (last_with e.it.key (es ++ later)) (move_img G later es) img wp e) (keep_if (last_with e.it.key (es ++ later)) e (keep later es))
          (final (migrate_one G e wp g.st (migrate_all G es) g.res))
      go corrupt q ih = absurd (last_not_corrupt e.it.key (es ++ later) q)
      go (found f) q ih = rw q (stay f q (ih img (before ++ (e ∷ [])) g.st.cache (ready_stay img before es e R) fc.valid))
      go missing q ih =
          let m = ih (new₁ img before es e R) (before ++ (e ∷ [])) (note e.it.key wp g.st.cache) (ready₁ img before es e R q) (valid₁ img before es e R g.st.cache fc.valid) in
          rw (q, got_is g img er (found e) fc.img_is fc.erased_is (fc.res_is ∙ newest-own img before es e R q), eq-eqb e.at e.at refl, (copied G o c cs img before es e R.source).blank_is)
          (carried img before es e R er _ (keep later es) _ (rw (copied G o c cs img before es e R.source).end_is at m))
