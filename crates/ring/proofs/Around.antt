-- The ring as loops run around it: downwards and upwards, page by page.
use mathlib.Core.Path.{◌≡◌, refl, ap, sym, ◌∙◌}
use Prim.Native.Nat.{ℕ, zero, suc, ◌+◌, ◌-◌, ◌≤◌, ◌<◌}
use native.Mathlib.Omega.{arith}
use native.Mathlib.Nat.{add-zero}
use mathlib.Core.Bool.{false, true, Bool}
use mathlib.Core.List.{List, [], ◌∷◌, ◌++◌, reverse, reverse-append, append-nil}
use lib.Dec.{eqb}
use lib.ListN.{length, take, length-append}
use lib.Seq.{take-append-le, take-length}
use borrow.Author.Tests.{ne_eqb, eqb-true, eqb-false}
use Rattle.rules.specs.declared.{Geo.Geo}
use Rattle.rules.specs.Pages.{up_from, ring_up, ring_down, next, prev}
use Rattle.rules.specs.Sound.{ring_rest}
use Rattle.laws.specs.Lists.{up_from-snoc}
use Rattle.laws.specs.Rings.{ring_cons, ring_next}
use Rattle.laws.specs.Moves.{next_in}
use Rattle.ring.specs.Code.{downs, ups}

-- ---- the ring downwards

module _ (G : Geo) where
  down_seg : (a m k : ℕ) → downs G (suc m + k) (a + m) ≡ reverse (up_from a (suc m)) ++ downs G k (prev G a)
  unfolding downs
  down_seg a zero k = let q : 1 + k ≡ suc k = omega arith in rw (add-zero a, q)
  down_seg a (suc m) k =
      let q : suc (suc m) + k ≡ suc (suc m + k) = omega arith in
      let n0 : eqb (a + suc m) 0 ≡ false = ne_eqb (a + suc m) 0 (λ (e : a + suc m ≡ 0). omega arith) in
      let d : a + suc m - 1 ≡ a + m = omega arith in
      rw (q, n0, d, up_from-snoc a (suc m), reverse-append (up_from a (suc m)) ((a + suc m) ∷ [])) (ap (λ (r : List ℕ). (a + suc m) ∷ r) (down_seg a m k))

  down_all : (a m : ℕ) → downs G (suc m + 0) (a + m) ≡ reverse (up_from a (suc m))
  unfolding downs
  down_all a m = down_seg a m 0 ∙ append-nil (reverse (up_from a (suc m)))

  pub down_is : (p : ℕ) → p < G.pages → ring_down G p ≡ downs G G.pages p
  unfolding ring_down ring_up
  down_is p h = go (eqb (suc p) G.pages) refl
    where
      go : (b : Bool) → eqb (suc p) G.pages ≡ b → ring_down G p ≡ downs G G.pages p
      go true e =
          let en : suc p ≡ G.pages = eqb-true (suc p) G.pages e in
          let q : G.pages - 0 ≡ suc p = omega arith in
          let q₁ : G.pages ≡ suc p + 0 = omega arith in
          let q₂ : p ≡ 0 + p = omega arith in
          rw (e, q, append-nil (up_from 0 (suc p)))
          (sym (ap (λ (m : ℕ). downs G m p) q₁ ∙ ap (λ (x : ℕ). downs G (suc p + 0) x) q₂ ∙ down_all 0 p))
      go false e =
          let ne = eqb-false (suc p) G.pages e in
          let m : ℕ = G.pages - suc p - 1 in
          let q₁ : G.pages ≡ suc p + (suc m + 0) = omega arith in
          let q₂ : p ≡ 0 + p = omega arith in
          let q₃ : G.pages - suc p ≡ suc m = omega arith in
          let q₄ : G.pages - 1 ≡ suc p + m = omega arith in
          rw (e, reverse-append (up_from (suc p) (G.pages - suc p)) (up_from 0 (suc p)), q₃)
          (sym (ap (λ (x : ℕ). downs G x p) q₁ ∙ ap (λ (x : ℕ). downs G (suc p + (suc m + 0)) x) q₂ ∙ down_seg 0 p (suc m + 0)
          ∙ ap (λ (l : List ℕ). reverse (up_from 0 (suc p)) ++ l) (ap (λ (x : ℕ). downs G (suc m + 0) x) q₄ ∙ down_all (suc p) m)))

-- ---- the ring upwards

length-up_from : (a m : ℕ) → length (up_from a m) ≡ m
length-up_from a zero = refl
length-up_from a (suc m) = ap suc (length-up_from (suc a) m)

module _ (G : Geo) where
  length_rest : (p : ℕ) → p < G.pages → length (ring_rest G p) + 1 ≡ G.pages
  unfolding ring_rest
  length_rest p h =
      omega (arith, length-append (up_from (suc p) (G.pages - suc p)) (up_from 0 p), length-up_from (suc p) (G.pages - suc p), length-up_from 0 p)

  up_take : (m p : ℕ) → p < G.pages → m ≤ G.pages → ups G m p ≡ take m (ring_up G p)
  unfolding ups
  up_take zero p h k = refl
  up_take (suc m) p h k =
      let l = length_rest p h in
      rw (ring_cons G p h, up_take m (next G p) (next_in G p h) (omega arith), ring_next G p h, take-append-le m (ring_rest G p) (p ∷ []) (omega arith))

  pub up_is : (p : ℕ) → p < G.pages → ring_up G p ≡ ups G G.pages p
  up_is p h =
      let l = length_rest p h in
      let q : G.pages ≡ length (ring_up G p) = rw (ring_cons G p h) (omega arith) in
      sym (up_take G.pages p h (omega arith) ∙ ap (λ (x : ℕ). take x (ring_up G p)) q ∙ take-length (ring_up G p))
