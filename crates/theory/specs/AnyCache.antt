-- Any sound image with any cache at all: a fetch and a store are not Corrupted, and the image stays sound.
use Rattle.std.specs.Prelude.{◌≡◌, ◌≢◌, ◌⊎◌, Bool, eqb}
use Rattle.std.proofs.Math.Path.{refl, subst}
use Rattle.std.proofs.Common.{sym, arith}
use Rattle.std.proofs.Math.Logic.{inl, inr}
use Prim.Native.Nat.{ℕ, zero, suc, ◌+◌, ◌-◌}
use Rattle.std.proofs.Math.Bool.{true, false}
use mathlib.Core.List.{List, []}
use Rattle.std.proofs.Math.Dec.{leb}
use borrow.Author.Tests.{leb-true, leb-false}
use Rattle.rules.specs.declared.{Geo.Geo, Answer.TheVariants.Done, Answer.TheVariants.FullStorage, Answer.TheVariants.Corrupted}
use Rattle.rules.specs.Bytes.{pick}
use Rattle.rules.specs.Items.{Entry}
use Rattle.rules.specs.Pages.{end_at, up_from}
use Rattle.rules.specs.Cache.{Cache, lookup}
use Rattle.rules.specs.Runs.{St, End, final}
use Rattle.rules.specs.Fetch.{Found, corrupt, missing, found, newest, hit, note_found, full_fetch, on_hit, fetch_in, run_fetch, served_by}
use Rattle.rules.specs.Store.{fetch, fetch_by, turns, rollover, store}
use Rattle.rules.specs.Sound.{Sound, blank_ring, used_ring}
use Rattle.laws.specs.Geometry.{Fit}
use Rattle.laws.specs.Touch.{mark_start, mark_end, start_marked}
use Rattle.laws.specs.Plays.{fetch-img}
use Rattle.theory.specs.Rollover.{Used, rollover_done}
use Rattle.theory.specs.Stored.{Fitting, spot, need, turns_write, turns_roll, put_it}
use Rattle.theory.specs.Sane.{store_clean, found_clean, no-repair, marked_ring}
use Rattle.theory.specs.Storing.{blank-turns}
use Rattle.theory.specs.Latest.{not_corrupt}

some_found : (e : Entry) → found e ≢ corrupt
some_found e q = let z : ◌≡◌ {A = ℕ} 0 1 = cc in omega arith

module _ (G : Geo) (img : List ℕ) (ca : Cache) (er : ℕ) where
  abbrev s₀ : St
  s₀ = record { img = img; cache = ca; erased = er }

  -- ---- fetch

  finds : (k : ℕ) → newest G img k ≢ corrupt → (fetch_in G k s₀).res ≢ corrupt
  unfolding fetch_in
  finds k n = go (eqb (lookup k ca) 0) (hit G img k (lookup k ca))
    where
      all : (s : St) (r : Found) → r ≢ corrupt → (note_found k s r).res ≢ corrupt
      all s corrupt n = n
      all s missing n = n
      all s (found e) n = n

      served : (r : Found) → (on_hit G k s₀ r).res ≢ corrupt
      served corrupt = all _ (newest G img k) n
      served missing = all _ (newest G img k) n
      served (found e) = some_found e

      go : (b : Bool) (r : Found) → (pick b (full_fetch G k s₀) (on_hit G k s₀ r)).res ≢ corrupt
      go true r = all s₀ (newest G img k) n
      go false r = served r

  pub fetch_any : (k : ℕ) → Fit G img → Sound G img → ((fetch G k s₀).ans ≢ Corrupted) × ((fetch G k s₀).st.img ≡ img)
  unfolding fetch
  fetch_any k ok s = go (served_by G k s₀)
    where
      run : (run_fetch G k s₀).ans ≢ Corrupted
      run = found_clean (fetch_in G k s₀).res (finds k (not_corrupt G img ok s k))

      go : (r : Found) → ((fetch_by G k s₀ r).ans ≢ Corrupted) × ((fetch_by G k s₀ r).st.img ≡ img)
      go corrupt = rw (no-repair G (run_fetch G k) img ca er ok s run) (run, fetch-img G k s₀)
      go missing = rw (no-repair G (run_fetch G k) img ca er ok s run) (run, fetch-img G k s₀)
      go (found e) = (found_clean (found e) (some_found e), refl)

module _ (G : Geo) (k : ℕ) (v : List ℕ) (f : Fitting G k v) where
  -- ---- store

  pub record Stays (r : End) : Type 0 where
    pub ends : (r.ans ≡ Done) ⊎ (r.ans ≡ FullStorage)
    pub used : Used G r.st.img

  turns_any : (t : ℕ) (img : List ℕ) (ca : Cache) (er : ℕ) → Used G img → Stays (final (turns G t k v (record { img = img; cache = ca; erased = er })))
  unfolding turns
  turns_any zero img ca er u = record { ends = inr refl; used = u }
  turns_any (suc t) img ca er u = go (leb (spot G img ca er k v u + need G img ca er k v u) (end_at G u.p)) refl (λ img' ca' er' u'. turns_any t img' ca' er' u')
    where
      go : (b : Bool) → leb (spot G img ca er k v u + need G img ca er k v u) (end_at G u.p) ≡ b
          → ((img' : List ℕ) (ca' : Cache) (er' : ℕ) → Used G img' → Stays (final (turns G t k v (record { img = img'; cache = ca'; erased = er' }))))
          → Stays (final (turns G (suc t) k v (record { img = img; cache = ca; erased = er })))
      go true q ih =
          let h = leb-true (spot G img ca er k v u + need G img ca er k v u) (end_at G u.p) q in
          let W = (put_it G img u k v f h).all in
          subst Stays (sym (turns_write G img ca er k v u t h)) (record { ends = inl refl; used = record { fit = W.fit; p = u.p; o = u.o; os = u.os; cs = u.cs; ring = W.ring } })
      go false q ih =
          let h = leb-false (spot G img ca er k v u + need G img ca er k v u) (end_at G u.p) q in
          let x = (rollover G u.o (record { img = mark_end G img u.p; cache = ca; erased = er })).st in
          subst Stays (sym (turns_roll G img ca er k v u t h))
          (ih x.img x.cache x.erased (rollover_done G img u.p u.o u.cs u.fit u.os u.ring ca er).1)

  all-turns : (img : List ℕ) (ca : Cache) (er : ℕ) → Fit G img → Sound G img → Stays (final (turns G G.pages k v (record { img = img; cache = ca; erased = er })))
  all-turns img ca er ok (used_ring p o os cs R) = turns_any G.pages img ca er (record { fit = ok; p = p; o = o; os = os; cs = cs; ring = R })
  all-turns img ca er ok (blank_ring b) =
      subst Stays (sym (blank-turns G img k v ca er ok b)) (turns_any (G.pages - 1) (mark_start G img 0) ca er
      (record { fit = (start_marked G img ok 0 (omega (arith, ok.held.two))).touch.fit; p = 0; o = 1; os = up_from 2 (G.pages - 2); cs = []; ring = marked_ring G img ok b }))

  pub store_any : (img : List ℕ) (ca : Cache) (er : ℕ) → Fit G img → Sound G img → Stays (final (store G k v (record { img = img; cache = ca; erased = er })))
  unfolding store
  store_any img ca er ok s =
      let T = all-turns img ca er ok s in
      rw (no-repair G (turns G G.pages k v) img ca er ok s (store_clean (turns G G.pages k v (record { img = img; cache = ca; erased = er })).ans T.ends)) T
