-- A migration with any cache at all: it is Done, and leaves the ring that a migration leaves. (Which items it copies rests on the cache.)
use Rattle.std.specs.Prelude.{◌≡◌, ◌≢◌, ℕ, Bool, true, false, eqb}
use Rattle.std.proofs.Math.Path.{refl, ap}
use Rattle.std.proofs.Common.{sym, ◌∙◌}
use mathlib.Core.List.{List, [], ◌∷◌, ◌++◌}
use Rattle.rules.specs.declared.{Geo.Geo, Answer.TheVariants.Done}
use Rattle.rules.specs.Bytes.{pick}
use Rattle.rules.specs.Items.{Entry}
use Rattle.rules.specs.Pages.{items_of, scan_of, data_at}
use Rattle.rules.specs.Cache.{Cache, lookup, note}
use Rattle.rules.specs.Answers.{number}
use Rattle.rules.specs.Runs.{St, out, erasing, End, final}
use Rattle.rules.specs.Fetch.{Found, corrupt, missing, found, last_with, newest, hit, note_found, full_fetch, on_hit, Got, fetch_in}
use Rattle.rules.specs.Store.{migrate_one, migrate_all, migrate}
use Rattle.rules.specs.Sound.{Ring}
use Rattle.laws.specs.Lists.{All-left, All_right}
use Rattle.laws.specs.Geometry.{Fit}
use Rattle.laws.specs.Rings.{newest_is, log_of}
use Rattle.laws.specs.Moves.{freed}
use Rattle.laws.specs.RunLaws.{on_yes}
use Rattle.laws.specs.Plays.{fetch-img}
use Rattle.theory.specs.Copying.{Source, end_of, img₁, source_stay, copied, begins}
use Rattle.theory.specs.Migrate.{none_with, last_not_corrupt, got_is}

module _ (G : Geo) where
  -- where the key has an item, a fetch finds one, whatever the cache says
  fetch_finds : (img : List ℕ) (k : ℕ) (ca : Cache) (er : ℕ) (x : Entry) → newest G img k ≡ found x
      → (f : Entry) × ((fetch_in G k (record { img = img; cache = ca; erased = er })).res ≡ found f)
  unfolding fetch_in
  fetch_finds img k ca er x e = go (eqb (lookup k ca) 0) (hit G img k (lookup k ca))
    where
      s : St
      s = record { img = img; cache = ca; erased = er }

      all : (t : St) (r : Found) → r ≡ found x → (f : Entry) × ((note_found k t r).res ≡ found f)
      all t r q = (x, rw q)

      served : (r : Found) → (f : Entry) × ((on_hit G k s r).res ≡ found f)
      served corrupt = all _ (newest G img k) e
      served missing = all _ (newest G img k) e
      served (found f) = (f, refl)

      go : (b : Bool) (r : Found) → (f : Entry) × ((pick b (full_fetch G k s) (on_hit G k s r)).res ≡ found f)
      go true r = all s (newest G img k) e
      go false r = served r

  module _ (o c : ℕ) (cs : List ℕ) where
    -- the next entry's key has an item: that entry
    held : (img : List ℕ) (before es : List Entry) (e : Entry) → Source G o c cs img before (e ∷ es) → (x : Entry) × (newest G img e.it.key ≡ found x)
    held img before es e R = go (newest G img e.it.key) refl
      where
        L : List Entry
        L = log_of G img (c ∷ cs) ++ items_of G img o

        at : newest G img e.it.key ≡ last_with e.it.key L
        at = newest_is G img o [] (c ∷ cs) R.ring e.it.key

        go : (r : Found) → newest G img e.it.key ≡ r → (x : Entry) × (newest G img e.it.key ≡ found x)
        go corrupt q = absurd (last_not_corrupt e.it.key L (sym at ∙ q))
        go missing q =
            let P : Entry → Type 0 = λ f. f.it.key ≢ e.it.key in
            let a = none_with e.it.key L (sym at ∙ q) in
            let b = All-left P (items_of G img c) (log_of G img cs) (All-left P (log_of G img (c ∷ cs)) (items_of G img o) a) in
            absurd ((All_right P before (e ∷ es) (rw R.src at b)).0 refl)
        go (found x) q = (x, q)

    pub record Ends (r : End) : Type 0 where
      pub ans_is : r.ans ≡ Done
      pub fit : Fit G r.st.img
      pub ring : Ring G r.st.img o [] (c ∷ cs)

    moves : (es : List Entry) (img : List ℕ) (before : List Entry) (ca : Cache) (er : ℕ) → Source G o c cs img before es
        → Ends (final (migrate_all G es (end_of G o img) (record { img = img; cache = ca; erased = er })))
    unfolding migrate_all
    moves [] img before ca er R = record { ans_is = refl; fit = R.fit; ring = R.ring }
    moves (e ∷ es) img before ca er R = go f.0 (eqb f.0.at e.at) refl f.1 (λ img' before' ca' er' R'. moves es img' before' ca' er' R')
      where
        g : Got
        g = fetch_in G e.it.key (record { img = img; cache = ca; erased = er })

        f : (f : Entry) × ((fetch_in G e.it.key (record { img = img; cache = ca; erased = er })).res ≡ found f)
        f = let h = held img before es e R in fetch_finds img e.it.key ca er h.0 h.1

        go : (f : Entry) (b : Bool) → eqb f.at e.at ≡ b → g.res ≡ found f
            → ((img' : List ℕ) (before' : List Entry) (ca' : Cache) (er' : ℕ) → Source G o c cs img' before' es
            → Ends (final (migrate_all G es (end_of G o img') (record { img = img'; cache = ca'; erased = er' }))))
            → Ends (final (migrate_one G e (end_of G o img) g.st (migrate_all G es) g.res))
        go f true q r ih =
            let X = copied G o c cs img before es e R in
            let m = ih (img₁ G o c cs img before es e R) (before ++ (e ∷ [])) (note e.it.key (end_of G o img) g.st.cache) g.st.erased X.source in
            rw (got_is g img g.st.erased (found f) (fetch-img G e.it.key (record { img = img; cache = ca; erased = er })) refl r, q, X.blank_is) (rw X.end_is at m)
        go f false q r ih =
            rw (got_is g img g.st.erased (found f) (fetch-img G e.it.key (record { img = img; cache = ca; erased = er })) refl r, q)
            (ih img (before ++ (e ∷ [])) g.st.cache g.st.erased (source_stay G o c cs img before es e R))

    pub record Migrates (r : End) : Type 0 where
      pub ans_is : r.ans ≡ Done
      pub fit : Fit G r.st.img
      pub ring : Ring G r.st.img o (c ∷ []) cs

    pub migrates : (img : List ℕ) (ca : Cache) (er : ℕ) → Fit G img → Ring G img o [] (c ∷ cs) → scan_of G img o ≡ record { items = []; end = data_at G o }
        → Migrates (final (migrate G c o (record { img = img; cache = ca; erased = er })))
    unfolding migrate
    migrates img ca er ok S empty =
        let en : data_at G o ≡ end_of G o img = ap (λ r. r.end) (sym empty) in
        let m = moves (items_of G img c) img [] ca er (begins G o c cs img ok S empty) in
        let run = migrate_all G (items_of G img c) (end_of G o img) (record { img = img; cache = ca; erased = er }) in
        let F = freed G run.st.img o c cs m.fit m.ring in
        rw (en, on_yes 0 run (λ s. erasing G c s (out Done)) (ap number m.ans_is)) (record { ans_is = refl; fit = F.fit; ring = F.ring })
