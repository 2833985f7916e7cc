-- Two runs of a store on one sound image, with two right caches: same answer, same image, same erase count.
use Rattle.std.specs.Prelude.{◌≡◌, Bool}
use Rattle.std.proofs.Math.Path.{refl, subst}
use Rattle.std.proofs.Common.{sym, ◌∙◌}
use Prim.Native.Nat.{ℕ, zero, suc, ◌+◌}
use Rattle.std.proofs.Math.Bool.{true, false}
use mathlib.Core.List.{List, [], ◌∷◌}
use Rattle.std.proofs.Math.Dec.{leb}
use borrow.Author.Tests.{leb-true, leb-false}
use Rattle.rules.specs.declared.{Geo.Geo}
use Rattle.rules.specs.Pages.{end_at}
use Rattle.rules.specs.Cache.{Cache}
use Rattle.rules.specs.Runs.{St, End, final}
use Rattle.rules.specs.Store.{rollover, turns}
use Rattle.rules.specs.Sound.{Ring}
use Rattle.laws.specs.Geometry.{Fit}
use Rattle.laws.specs.Touch.{mark_start, mark_end}
use Rattle.laws.specs.Moves.{rolled}
use Rattle.theory.specs.Cached.{Valid}
use Rattle.theory.specs.Migrated.{migrated, rolled_valid}
use Rattle.theory.specs.Rollover.{roll_open, roll_full, shut}
use Rattle.theory.specs.Stored.{Good, spot, need, turns_write, turns_roll, rollover_kept, used}

pub record SameOut (r r' : End) : Type 0 where
  pub ans_is : r.ans ≡ r'.ans
  pub img_is : r.st.img ≡ r'.st.img
  pub er_is : r.st.erased ≡ r'.st.erased

module _ (G : Geo) (img : List ℕ) (er : ℕ) (p o : ℕ) (cs : List ℕ) (ok : Fit G img) (ca cb : Cache) (va : Valid G img ca) (vb : Valid G img cb) where
  rollover-same : (os : List ℕ) → Ring G img p (o ∷ os) cs → SameOut (final (rollover G o (shut G img p o cs ok ca er))) (final (rollover G o (shut G img p o cs ok cb er)))
  rollover-same (o₂ ∷ os) S =
      rw (roll_open G img p o cs ok o₂ os S ca er, roll_open G img p o cs ok o₂ os S cb er) (record { ans_is = refl; img_is = refl; er_is = refl })
  rollover-same [] S =
      let img₂ = mark_start G (mark_end G img p) o in
      let Ro = rolled G img p o [] cs ok S in
      let O = roll_full G img p o cs ok S in
      let a = migrated G img₂ o O.c O.qs ca er Ro.fit O.ring Ro.empty (rolled_valid G img p o [] cs ok S ca va) in
      let b = migrated G img₂ o O.c O.qs cb er Ro.fit O.ring Ro.empty (rolled_valid G img p o [] cs ok S cb vb) in
      rw (O.moves ca er, O.moves cb er) (record { ans_is = a.ans_is ∙ sym b.ans_is; img_is = a.img_is ∙ sym b.img_is; er_is = a.er_is ∙ sym b.er_is })

out_is : (s : St) (img : List ℕ) (er : ℕ) → s.img ≡ img → s.erased ≡ er → s ≡ record { img = img; cache = s.cache; erased = er }
out_is s img er p q = λ i. record { img = p i; cache = s.cache; erased = q i }

module _ (G : Geo) where
  -- any number of turns
  pub turns_same : (t : ℕ) (img : List ℕ) (er k : ℕ) (v : List ℕ) (ca cb : Cache) → Good G img ca → Valid G img cb
      → SameOut (final (turns G t k v (record { img = img; cache = ca; erased = er }))) (final (turns G t k v (record { img = img; cache = cb; erased = er })))
  unfolding turns
  turns_same zero img er k v ca cb ga vb = record { ans_is = refl; img_is = refl; er_is = refl }
  turns_same (suc t) img er k v ca cb ga vb =
      go (leb (spot G img ca er k v (used G img ca ga) + need G img ca er k v (used G img ca ga)) (end_at G ga.p)) refl (λ img' er' c c' g g'. turns_same t img' er' k v c c' g g')
    where
      go : (b : Bool) → leb (spot G img ca er k v (used G img ca ga) + need G img ca er k v (used G img ca ga)) (end_at G ga.p) ≡ b
          → ((img' : List ℕ) (er' : ℕ) (c c' : Cache) → Good G img' c → Valid G img' c'
          → SameOut (final (turns G t k v (record { img = img'; cache = c; erased = er' }))) (final (turns G t k v (record { img = img'; cache = c'; erased = er' }))))
          → SameOut (final (turns G (suc t) k v (record { img = img; cache = ca; erased = er }))) (final (turns G (suc t) k v (record { img = img; cache = cb; erased = er })))
      go true q ih =
          let h = leb-true (spot G img ca er k v (used G img ca ga) + need G img ca er k v (used G img ca ga)) (end_at G ga.p) q in
          rw (turns_write G img ca er k v (used G img ca ga) t h, turns_write G img cb er k v (used G img ca ga) t h) (record { ans_is = refl; img_is = refl; er_is = refl })
      go false q ih =
          let h = leb-false (spot G img ca er k v (used G img ca ga) + need G img ca er k v (used G img ca ga)) (end_at G ga.p) q in
          let u = (rollover G ga.o (record { img = mark_end G img ga.p; cache = ca; erased = er })).st in
          let u' = (rollover G ga.o (record { img = mark_end G img ga.p; cache = cb; erased = er })).st in
          let x = rollover_kept G img ga.p ga.o ga.os ga.cs ca er ga.fit ga.ring ga.valid in
          let y = rollover_kept G img ga.p ga.o ga.os ga.cs cb er ga.fit ga.ring vb in
          let e = rollover-same G img er ga.p ga.o ga.cs ga.fit ca cb ga.valid vb ga.os ga.ring in
          let b : Valid G u.img u'.cache = subst (λ (l : List ℕ). Valid G l u'.cache) (sym e.img_is) y.good.valid in
          rw (turns_roll G img ca er k v (used G img ca ga) t h, turns_roll G img cb er k v (used G img ca ga) t h, out_is u' u.img u.erased (sym e.img_is) (sym e.er_is))
          (ih u.img u.erased u.cache u'.cache x.good b)
