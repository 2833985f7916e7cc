-- The fetch on a sound image: the newest item, whatever right cache, and no repair.
use Rattle.std.specs.Prelude.{◌≡◌, ◌≢◌, ◌⊎◌, ℕ, Bool, true, false, List, ◌∷◌, ◌++◌, eqb}
use Rattle.std.proofs.Math.Path.{refl}
use Rattle.std.proofs.Common.{sym, ap, ◌∙◌, subst, inl, inr, arith}
use Rattle.std.proofs.lemmas.Bool.{eqb-false}
use Rattle.rules.specs.declared.{Geo.Geo, Answer.TheVariants.Corrupted, Answer.TheVariants.None}
use Rattle.rules.specs.Bytes.{pick}
use Rattle.rules.specs.Items.{Entry}
use Rattle.rules.specs.Pages.{items_of}
use Rattle.rules.specs.Cache.{Cache, lookup}
use Rattle.rules.specs.Answers.{number}
use Rattle.rules.specs.Runs.{St, End, final, Out, out}
use Rattle.rules.specs.Fetch.{corrupt, missing, found, newest, hit, fetch_in, run_fetch, answer_of}
use Rattle.rules.specs.Store.{auto_repair, fetch, fetch_by}
use Rattle.rules.specs.Sound.{used_ring}
use Rattle.laws.specs.Rings.{newest_is, log_of}
use Rattle.theory.specs.Cached.{Valid, Fetched, fetch_cached, newest-hit}
use Rattle.theory.specs.Migrate.{last_not_corrupt}
use Rattle.theory.specs.Stored.{full, Good, StoreRes, stored}
use Rattle.theory.specs.Sane.{found_clean, no-repair, Sane, sane_cases, Blank, blank-newest, blank_cache}

module _ (G : Geo) where
  pub not_corrupted : (img : List ℕ) (k : ℕ) (v : List ℕ) (r : End) → StoreRes G img k v r → r.ans ≢ Corrupted
  not_corrupted img k v r (stored x) e = let z = ap number (sym x.ans_is ∙ e) in omega arith
  not_corrupted img k v r (full q x) e = let z = ap number (sym q ∙ e) in omega arith

  not_bad : (img : List ℕ) (ca : Cache) → Good G img ca → (k : ℕ) → newest G img k ≢ corrupt
  not_bad img ca g k e = last_not_corrupt k (log_of G img g.cs ++ items_of G img g.p) (sym (newest_is G img g.p (g.o ∷ g.os) g.cs g.ring k) ∙ e)

  pub record FetchRes (img : List ℕ) (er k : ℕ) (r : End) : Type 0 where
    pub ans_is : r.ans ≡ answer_of (newest G img k)
    pub img_is : r.st.img ≡ img
    pub er_is : r.st.erased ≡ er
    pub valid : Valid G img r.st.cache

  pub fetch_res : (img : List ℕ) (ca : Cache) (er k : ℕ) (g : Good G img ca) → FetchRes img er k (final (fetch G k (record { img = img; cache = ca; erased = er })))
  unfolding fetch
  fetch_res img ca er k g = go (eqb (lookup k ca) 0) refl
    where
      s : St
      s = record { img = img; cache = ca; erased = er }

      f : Fetched G img g.fit g.p (g.o ∷ g.os) g.cs g.ring k er (fetch_in G k s)
      f = fetch_cached G img g.fit g.p (g.o ∷ g.os) g.cs g.ring k ca er g.valid

      searched : FetchRes img er k (final (auto_repair G (run_fetch G k) s))
      searched =
          rw (no-repair G (run_fetch G k) img ca er g.fit (used_ring g.p g.o g.os g.cs g.ring) (λ e. found_clean (newest G img k) (not_bad img ca g k) (ap answer_of (sym f.res_is) ∙ e)))
          (record { ans_is = ap answer_of f.res_is; img_is = f.img_is; er_is = f.erased_is; valid = f.valid })

      hits : (e : Entry) → newest G img k ≡ found e → e.at ≡ lookup k ca → FetchRes img er k (final (fetch_by G k s (hit G img k (lookup k ca))))
      hits e n q =
          rw (← q, (newest-hit G img g.fit g.p (g.o ∷ g.os) g.cs g.ring k e n).0)
          (record { ans_is = ap answer_of (sym n); img_is = refl; er_is = refl; valid = g.valid })

      go : (b : Bool) → eqb (lookup k ca) 0 ≡ b → FetchRes img er k (final (fetch_by G k s (pick b missing (hit G img k (lookup k ca)))))
      go true q = searched
      go false q = let r = g.valid.right k (eqb-false (lookup k ca) 0 q) in hits r.0 r.1 r.2

  -- a wholly Open ring too
  pub fetch_sane : (img : List ℕ) (ca : Cache) (er k : ℕ) → Sane G img ca → FetchRes img er k (final (fetch G k (record { img = img; cache = ca; erased = er })))
  unfolding fetch fetch_in
  fetch_sane img ca er k s = go (sane_cases G img ca s)
    where
      s₀ : St
      s₀ = record { img = img; cache = ca; erased = er }

      go : Blank G img ⊎ Good G img ca → FetchRes img er k (final (fetch G k s₀))
      go (inr g) = fetch_res img ca er k g
      go (inl b) =
          let nw = blank-newest G img s.fit b k in
          let lk = blank_cache G img s.fit b ca s.valid k in
          let r : run_fetch G k s₀ ≡ out None s₀ = rw (lk, nw) in
          let nb : (run_fetch G k s₀).ans ≢ Corrupted = λ e. let z = ap number (sym (ap (λ (o : Out). o.ans) r) ∙ e) in absurd (omega arith) in
          let e : fetch G k s₀ ≡ out None s₀ = rw lk (no-repair G (run_fetch G k) img ca er s.fit s.sound nb ∙ r) in
          subst (λ (o : Out). FetchRes img er k (final o)) (sym e) (record { ans_is = ap answer_of (sym nw); img_is = refl; er_is = refl; valid = s.valid })
