-- The store on any sound image with a right cache: n turns, and no repair; two right caches do the same.
use Rattle.std.specs.Prelude.{◌≡◌, ◌⊎◌, ℕ, suc, ◌-◌, List}
use Rattle.std.proofs.Math.Path.{refl}
use Rattle.std.proofs.Common.{sym, ap, ◌∙◌, subst, inl, inr, arith}
use Rattle.rules.specs.declared.{Geo.Geo}
use Rattle.rules.specs.Cache.{Cache}
use Rattle.rules.specs.Answers.{number}
use Rattle.rules.specs.Runs.{St, Out, End, final, on_full}
use Rattle.rules.specs.Store.{turn, turns, store}
use Rattle.rules.specs.Sound.{Sound, blank_ring, used_ring}
use Rattle.laws.specs.Geometry.{Fit}
use Rattle.laws.specs.Touch.{mark_start}
use Rattle.laws.specs.RunLaws.{on_yes}
use Rattle.theory.specs.Keep.{it_of}
use Rattle.theory.specs.Stored.{Good, Fitting, StoreRes, turns_res, later_res}
use Rattle.theory.specs.Same.{SameOut, turns_same}
use Rattle.theory.specs.Sane.{Sane, Blank, sane_cases, no-repair, blank-newest, blank_turn, marked_good, marked-newest}
use Rattle.theory.specs.Fetching.{not_corrupted}

module _ (G : Geo) where
  abbrev pub st : List ℕ → Cache → ℕ → St
  st img ca er = record { img = img; cache = ca; erased = er }

  turns_more : (t k : ℕ) (v : List ℕ) (s : St) → turns G (suc t) k v s ≡ on_full (turn G k v s) (turns G t k v)
  unfolding turns
  turns_more t k v s = refl

  module _ (img : List ℕ) (k : ℕ) (v : List ℕ) where
    -- on a wholly Open ring: the mark of page 0, and one turn less
    pub blank-turns : (ca : Cache) (er : ℕ) → Fit G img → Blank G img
        → final (turns G G.pages k v (st img ca er)) ≡ final (turns G (G.pages - 1) k v (st (mark_start G img 0) ca er))
    blank-turns ca er ok b =
        let z : G.pages ≡ suc (G.pages - 1) = omega (arith, ok.held.two) in
        let one = blank_turn G img ok b k v ca er in
        let more : St → Out = turns G (G.pages - 1) k v in
        ap (λ (t : ℕ). final (turns G t k v (st img ca er))) z ∙ ap final (turns_more (G.pages - 1) k v (st img ca er))
        ∙ ap final (on_yes 7 (turn G k v (st img ca er)) more (ap (λ (x : End). number x.ans) one)) ∙ ap (λ (x : End). final (more x.st)) one

    turns_sane : (ca : Cache) (er : ℕ) → Sane G img ca → Fitting G k v → StoreRes G img k v (final (turns G G.pages k v (st img ca er)))
    turns_sane ca er s f = go (sane_cases G img ca s)
      where
        go : Blank G img ⊎ Good G img ca → StoreRes G img k v (final (turns G G.pages k v (st img ca er)))
        go (inr g) = turns_res G G.pages img ca er k v g f
        go (inl b) =
            let ok = s.fit in
            let r = turns_res G (G.pages - 1) (mark_start G img 0) ca er k v (marked_good G img ok b ca s.valid) f in
            subst (StoreRes G img k v) (sym (blank-turns ca er ok b))
            (later_res G img (mark_start G img 0) k v _ (λ j. ap it_of (marked-newest G img ok b j ∙ sym (blank-newest G img ok b j))) r)

    -- a store is its n turns
    pub store_is : (ca : Cache) (er : ℕ) → Sane G img ca → Fitting G k v → store G k v (st img ca er) ≡ turns G G.pages k v (st img ca er)
    unfolding store
    store_is ca er s f = no-repair G (turns G G.pages k v) img ca er s.fit s.sound (not_corrupted G img k v (final (turns G G.pages k v (st img ca er))) (turns_sane ca er s f))

    pub store_res : (ca : Cache) (er : ℕ) → Sane G img ca → Fitting G k v → StoreRes G img k v (final (store G k v (st img ca er)))
    store_res ca er s f = rw (store_is ca er s f) (turns_sane ca er s f)

    pub store_same : (ca cb : Cache) (er : ℕ) → Sane G img ca → Sane G img cb → Fitting G k v → SameOut (final (store G k v (st img ca er))) (final (store G k v (st img cb er)))
    store_same ca cb er s s' f = rw (store_is ca er s f, store_is cb er s' f) (go s.sound)
      where
        go : Sound G img → SameOut (final (turns G G.pages k v (st img ca er))) (final (turns G G.pages k v (st img cb er)))
        go (used_ring p o os cs R) =
            turns_same G G.pages img er k v ca cb (record { fit = s.fit; p = p; o = o; os = os; cs = cs; ring = R; valid = s.valid }) s'.valid
        go (blank_ring b) =
            let ok = s.fit in
            let e = turns_same G (G.pages - 1) (mark_start G img 0) er k v ca cb (marked_good G img ok b ca s.valid) (marked_good G img ok b cb s'.valid).valid in
            subst (λ (x : End). SameOut x (final (turns G G.pages k v (st img cb er)))) (sym (blank-turns ca er ok b))
            (subst (SameOut (final (turns G (G.pages - 1) k v (st (mark_start G img 0) ca er)))) (sym (blank-turns cb er ok b)) e)
