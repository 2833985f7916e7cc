-- A cache whose every entry points at the newest item of its key: the fetch behind it is the fetch without it.
use Rattle.std.specs.Prelude.{◌≡◌, ◌≢◌, ◌⊎◌, ℕ, ◌<◌, Bool, true, false, List, [], ◌∷◌, ◌++◌, eqb}
use Rattle.std.proofs.Math.Path.{refl}
use Rattle.std.proofs.Common.{sym, ap, ◌∙◌, subst, inl, inr, arith, eqb-true}
use Rattle.std.proofs.lemmas.Bool.{eqb-false}
use Rattle.rules.specs.declared.{Geo.Geo}
use Rattle.rules.specs.Bytes.{pick}
use Rattle.rules.specs.Items.{Entry, is_present}
use Rattle.rules.specs.Pages.{items_of, scan_of}
use Rattle.rules.specs.Cache.{Cache, lookup, note, clear, forget}
use Rattle.rules.specs.Runs.{St}
use Rattle.rules.specs.Fetch.{Found, corrupt, missing, found, or_else, last_with, newest, hit, Got, fetch_in, full_fetch, note_found, on_hit}
use Rattle.rules.specs.Sound.{All, Ring}
use Rattle.laws.specs.Lists.{All-append, All-zip, All_right}
use Rattle.laws.specs.Geometry.{Fit}
use Rattle.laws.specs.Entries.{Stands, stands_items, stands_hit, presents_are}
use Rattle.laws.specs.Rings.{log_of, log_list, newest_is, all_rest}
use Rattle.theory.specs.CacheLaws.{Once, note-same, note_other, once_note, lookup-clear, once_clear, forget-same, forget_other, once_forget}

-- what holds of all entries holds of the last one with a key
pub last_in : (P : Entry → Type 0) (k : ℕ) (es : List Entry) → All P es → (e : Entry) → last_with k es ≡ found e → P e × (e.it.key ≡ k)
last_in P k [] h e q = let z : ◌≡◌ {A = ℕ} 0 1 = cc in absurd (omega arith)
last_in P k (x ∷ es) h e q = go (last_with k es) refl (λ y. last_in P k es h.1 e y) (eqb x.it.key k) refl q
  where
    go : (r : Found) → last_with k es ≡ r → (last_with k es ≡ found e → P e × (e.it.key ≡ k)) → (b : Bool) → eqb x.it.key k ≡ b
        → or_else r (pick b (found x) missing) ≡ found e → P e × (e.it.key ≡ k)
    go corrupt c ih b d q = let z : ◌≡◌ {A = ℕ} 0 1 = cc in absurd (omega arith)
    go missing c ih true d q =
        let z : x ≡ e = cc in
        (subst P z h.0, ap (λ (y : Entry). y.it.key) (sym z) ∙ eqb-true x.it.key k d)
    go missing c ih false d q = let z : ◌≡◌ {A = ℕ} 0 1 = cc in absurd (omega arith)
    go (found y) c ih b d q = ih (c ∙ q)

module _ (G : Geo) where
  pub record Valid (img : List ℕ) (c : Cache) : Type 0 where
    pub right : (k : ℕ) → lookup k c ≢ 0 → (e : Entry) × (newest G img k ≡ found e) × (e.at ≡ lookup k c)
    pub once : Once c

  pub valid_clear : (img : List ℕ) (c : Cache) → Valid img (clear c)
  valid_clear img c = record { right = λ k ne. absurd (ne (lookup-clear k c)); once = once_clear c }

  -- a cache that is right stays right where every key's newest item stays
  pub valid_same : (img img' : List ℕ) (ca : Cache) → ((k : ℕ) → newest G img' k ≡ newest G img k) → Valid img ca → Valid img' ca
  valid_same img img' ca e v = record { right = λ k ne. ((v.right k ne).0, e k ∙ (v.right k ne).1, (v.right k ne).2); once = v.once }

  -- a note of where the key's newest item now stands
  pub valid_note : (img img' : List ℕ) (c : Cache) (k : ℕ) (e : Entry) → Valid img c
      → ((j : ℕ) → j ≢ k → newest G img' j ≡ newest G img j) → newest G img' k ≡ found e → e.at ≢ 0 → Valid img' (note k e.at c)
  valid_note img img' c k e vc same new ne = record { right = λ j nz. go j nz (eqb j k) refl; once = once_note k e.at c vc.once }
    where
      same_key : (j : ℕ) → lookup j (note k e.at c) ≢ 0 → j ≡ k → (lookup k (note k e.at c) ≡ 0) ⊎ (lookup k (note k e.at c) ≡ e.at)
          → (f : Entry) × (newest G img' j ≡ found f) × (f.at ≡ lookup j (note k e.at c))
      same_key j nz q (inl z) = absurd (nz (rw q z))
      same_key j nz q (inr z) = (e, rw q new, rw q (sym z))

      other_key : (j : ℕ) → lookup j (note k e.at c) ≢ 0 → j ≢ k → (lookup j (note k e.at c) ≡ 0) ⊎ (lookup j (note k e.at c) ≡ lookup j c)
          → (f : Entry) × (newest G img' j ≡ found f) × (f.at ≡ lookup j (note k e.at c))
      other_key j nz q (inl z) = absurd (nz z)
      other_key j nz q (inr z) = let r = vc.right j (λ y. nz (z ∙ y)) in (r.0, same j q ∙ r.1, r.2 ∙ sym z)

      go : (j : ℕ) → lookup j (note k e.at c) ≢ 0 → (b : Bool) → eqb j k ≡ b → (f : Entry) × (newest G img' j ≡ found f) × (f.at ≡ lookup j (note k e.at c))
      go j nz true q = same_key j nz (eqb-true j k q) (note-same k e.at c ne)
      go j nz false q = other_key j nz (eqb-false j k q) (note_other k j e.at c (eqb-false j k q))

  -- a key that is erased
  pub valid_forget : (img img' : List ℕ) (c : Cache) (k : ℕ) → Valid img c → ((j : ℕ) → j ≢ k → newest G img' j ≡ newest G img j) → Valid img' (forget k c)
  valid_forget img img' c k vc same = record { right = λ j nz. go j nz (eqb j k) refl; once = once_forget k c vc.once }
    where
      go : (j : ℕ) → lookup j (forget k c) ≢ 0 → (b : Bool) → eqb j k ≡ b → (f : Entry) × (newest G img' j ≡ found f) × (f.at ≡ lookup j (forget k c))
      go j nz true q = absurd (nz (rw (eqb-true j k q) (forget-same k c vc.once)))
      go j nz false q =
          let ne = eqb-false j k q in
          let z = forget_other k j c ne in
          let r = vc.right j (λ y. nz (z ∙ y)) in (r.0, same j ne ∙ r.1, r.2 ∙ sym z)

  module _ (img : List ℕ) (ok : Fit G img) (p : ℕ) (os cs : List ℕ) (S : Ring G img p os cs) where
    -- an entry of the log is read at its place
    abbrev pub Hit : Entry → Type 0
    Hit e = (hit G img e.it.key e.at ≡ found e) × (e.at ≢ 0)

    page-hits : (q : ℕ) → q < G.pages → All Hit (items_of G img q)
    page-hits q hq =
        All-zip (Stands G img q) (λ e. is_present e.it.kind ≡ true) Hit (items_of G img q)
        (λ e s pr. (stands_hit G img ok q hq e s pr, λ z. absurd (omega (arith, s.at_is, s.low, ok.held.low))))
        (stands_items G img ok q) (presents_are (scan_of G img q).items)

    log_hits : (qs : List ℕ) → All (λ q. q < G.pages) qs → All Hit (log_of G img qs)
    log_hits [] h = tt
    log_hits (q ∷ qs) h = All-append Hit (items_of G img q) (log_of G img qs) (page-hits q h.0) (log_hits qs h.1)

    pub newest-hit : (k : ℕ) (e : Entry) → newest G img k ≡ found e → (hit G img k e.at ≡ found e) × (e.at ≢ 0)
    newest-hit k e q =
        let inn : All (λ q. q < G.pages) (os ++ cs) = rw S.rest_is at (all_rest G (λ q. q < G.pages) p S.in_ring (λ q h n. h)) in
        let all : All Hit (log_list G img p os cs S) =
        All-append Hit (log_of G img cs) (items_of G img p) (log_hits cs (All_right (λ q. q < G.pages) os cs inn)) (page-hits p S.in_ring) in
        let r = last_in Hit k (log_list G img p os cs S) all e (sym (newest_is G img p os cs S k) ∙ q) in
        (ap (λ (x : ℕ). hit G img x e.at) (sym r.1) ∙ r.0.0, r.0.1)

    -- the fetch behind a right cache. The state is written out, so that no equation on a field of it is needed
    pub record Fetched (k er : ℕ) (g : Got) : Type 0 where
      pub res_is : g.res ≡ newest G img k
      pub img_is : g.st.img ≡ img
      pub erased_is : g.st.erased ≡ er
      pub valid : Valid img g.st.cache

    pub fetch_cached : (k : ℕ) (c : Cache) (er : ℕ) → Valid img c → Fetched k er (fetch_in G k (record { img = img; cache = c; erased = er }))
    unfolding fetch_in
    fetch_cached k c er vc = go (eqb (lookup k c) 0) refl
      where
        s : St
        s = record { img = img; cache = c; erased = er }

        full : (r : Found) → newest G img k ≡ r → Fetched k er (note_found k s r)
        full corrupt q = record { res_is = sym q; img_is = refl; erased_is = refl; valid = vc }
        full missing q = record { res_is = sym q; img_is = refl; erased_is = refl; valid = vc }
        full (found e) q =
            record {
              res_is = sym q;
              img_is = refl;
              erased_is = refl;
              valid = valid_note img img c k e vc (λ j ne. refl) q (newest-hit k e q).1;
            }

        hits : (e : Entry) → newest G img k ≡ found e → e.at ≡ lookup k c → Fetched k er (on_hit G k s (hit G img k (lookup k c)))
        hits e n q = rw (← q, (newest-hit k e n).0) (record { res_is = sym n; img_is = refl; erased_is = refl; valid = vc })

        go : (b : Bool) → eqb (lookup k c) 0 ≡ b → Fetched k er (pick b (full_fetch G k s) (on_hit G k s (hit G img k (lookup k c))))
        go true q = full (newest G img k) refl
        go false q = let r = vc.right k (eqb-false (lookup k c) 0 q) in hits r.0 r.1 r.2
