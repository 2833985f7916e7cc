-- A rollover on a ring: it only marks where the page after the next is Open, and else migrates the oldest page. It is Done with any cache.
use Rattle.std.specs.Prelude.{◌≡◌, ℕ}
use Rattle.std.proofs.Math.Path.{refl}
use Rattle.std.proofs.Common.{sym, subst}
use mathlib.Core.List.{List, [], ◌∷◌, ◌++◌}
use Rattle.rules.specs.Store
use Rattle.rules.specs.declared.{Geo.Geo, Answer.TheVariants.Done}
use Rattle.rules.specs.Cache.{Cache}
use Rattle.rules.specs.Runs.{St, End, end, final}
use Rattle.rules.specs.Store.{migrate, rollover}
use Rattle.rules.specs.Sound.{Ring}
use Rattle.laws.specs.Geometry.{Fit}
use Rattle.laws.specs.Touch.{mark_start, mark_end}
use Rattle.laws.specs.Moves.{turned, rolled}
use Rattle.theory.specs.Moving.{migrates}
use Rattle.theory.specs.Migrated.{snoc_not_nil}

-- a ring with a PartialOpen page
pub record Used (G : Geo) (img : List ℕ) : Type 0 where
  pub fit : Fit G img
  pub p : ℕ
  pub o : ℕ
  pub os : List ℕ
  pub cs : List ℕ
  pub ring : Ring G img p (o ∷ os) cs

module _ (G : Geo) (img : List ℕ) (p o : ℕ) (cs : List ℕ) (ok : Fit G img) where
  -- the old page is closed; then the next one is marked
  abbrev pub shut : Cache → ℕ → St
  shut ca er = record { img = mark_end G img p; cache = ca; erased = er }

  abbrev pub marked : Cache → ℕ → St
  marked ca er = record { img = mark_start G (mark_end G img p) o; cache = ca; erased = er }

  pub roll_open : (o₂ : ℕ) (os : List ℕ) → Ring G img p (o ∷ o₂ ∷ os) cs → (ca : Cache) (er : ℕ) → final (rollover G o (shut ca er)) ≡ end Done (marked ca er)
  unfolding rollover Store.rolled
  roll_open o₂ os S ca er =
      let R = (rolled G img p o (o₂ ∷ os) cs ok S).ring in
      rw ((turned G o o₂ (os ++ (cs ++ (p ∷ []))) R.in_ring R.rest_is).0, R.opens.0.is_open)

  -- the oldest page c, and the others
  pub record Oldest : Type 0 where
    pub c : ℕ
    pub qs : List ℕ
    pub split : cs ++ (p ∷ []) ≡ c ∷ qs
    pub ring : Ring G (mark_start G (mark_end G img p) o) o [] (c ∷ qs)
    pub moves : (ca : Cache) (er : ℕ) → final (rollover G o (shut ca er)) ≡ final (migrate G c o (marked ca er))

  pub roll_full : Ring G img p (o ∷ []) cs → Oldest
  unfolding rollover Store.rolled
  roll_full S = go (cs ++ (p ∷ [])) refl (rolled G img p o [] cs ok S).ring
    where
      go : (all : List ℕ) → cs ++ (p ∷ []) ≡ all → Ring G (mark_start G (mark_end G img p) o) o [] all → Oldest
      go [] e R = absurd (snoc_not_nil cs p e)
      go (c ∷ qs) e R = record { c = c; qs = qs; split = e; ring = R; moves = λ ca er. rw ((turned G o c qs R.in_ring R.rest_is).0, R.closeds.0) }

  pub rollover_done : (os : List ℕ) → Ring G img p (o ∷ os) cs → (ca : Cache) (er : ℕ) → ((rollover G o (shut ca er)).ans ≡ Done) × Used G (rollover G o (shut ca er)).st.img
  rollover_done os S ca er = go os S
    where
      Res : End → Type 0
      Res r = (r.ans ≡ Done) × Used G r.st.img

      go : (os : List ℕ) → Ring G img p (o ∷ os) cs → Res (final (rollover G o (shut ca er)))
      go (o₂ ∷ os) S =
          let Ro = rolled G img p o (o₂ ∷ os) cs ok S in
          subst Res (sym (roll_open o₂ os S ca er)) (refl, record { fit = Ro.fit; p = o; o = o₂; os = os; cs = cs ++ (p ∷ []); ring = Ro.ring })
      go [] S =
          let Ro = rolled G img p o [] cs ok S in
          let O = roll_full S in
          let M = migrates G o O.c O.qs (mark_start G (mark_end G img p) o) ca er Ro.fit O.ring Ro.empty in
          subst Res (sym (O.moves ca er)) (M.ans_is, record { fit = M.fit; p = o; o = O.c; os = []; cs = O.qs; ring = M.ring })
