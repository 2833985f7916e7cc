-- The search around the ring, in the form that the code's loops ask.
use mathlib.Core.Path.{◌≡◌, refl, ap, ◌∙◌}
use Prim.Native.Nat.{ℕ, suc, ◌+◌, ◌-◌, ◌/◌, ◌%◌, ◌≤◌, ◌<◌}
use native.Mathlib.Omega.{arith}
use native.Mathlib.Nat.{div-add-mod'}
use mathlib.Core.Bool.{false, true}
use mathlib.Core.List.{List, ◌∷◌}
use Rattle.rules.specs.declared.{Geo.Geo, PageState.TheVariants.Closed}
use Rattle.rules.specs.Held.{Held}
use Rattle.rules.specs.Pages.{same, state, ring_down, prev, items_of}
use Rattle.rules.specs.Fetch.{last_with, search_closed, search_from, Found, corrupt, missing, found, or_else}
use Rattle.laws.specs.Geometry.{page_in}
use Rattle.std.specs.Prelude.{Option, None, Some, Result, Ok, Err}
use Rattle.items.specs.declared.{Spot.Spot, Corrupt.Corrupt}
use Rattle.items.specs.Code.{told}
use Rattle.ring.specs.Code.{downs}
use Rattle.ring.proofs.Around.{down_is}

-- a search's answer, or else another's
abbrev or_told : Result (Option Spot) Corrupt → Result (Option Spot) Corrupt → Result (Option Spot) Corrupt
or_told (Err e) r = Err e
or_told (Ok None) r = r
or_told (Ok (Some s)) r = Ok (Some s)

told_or : (x y : Found) → told (or_else x y) ≡ or_told (told x) (told y)
told_or corrupt y = refl
told_or missing y = refl
told_or (found e) y = refl

-- ---- the search

module _ (G : Geo) (img : List ℕ) (k : ℕ) where
  pub closed_none : (m q : ℕ) → m ≤ 0 → Ok None ≡ told (search_closed G img k (downs G m q))
  unfolding downs
  closed_none m q h = let z : m ≡ 0 = omega arith in rw z

  pub closed-no : (m q : ℕ) → 0 < m → same Closed (state G img q) ≡ false → Ok None ≡ told (search_closed G img k (downs G m q))
  unfolding downs
  closed-no m q h e = let z : m ≡ suc (m - 1) = omega arith in rw (z, e)

  pub closed_yes : (m q : ℕ) → 0 < m → same Closed (state G img q) ≡ true
      → told (search_closed G img k (downs G m q)) ≡ or_told (told (last_with k (items_of G img q))) (told (search_closed G img k (downs G (m - 1) (prev G q))))
  unfolding downs
  closed_yes m q h e =
      let z : m ≡ suc (m - 1) = omega arith in
      ap (λ (x : ℕ). told (search_closed G img k (downs G x q))) z ∙ rw e (told_or (last_with k (items_of G img q)) (search_closed G img k (downs G (m - 1) (prev G q))))

  pub from_is : (p : ℕ) → p < G.pages → told (search_from G img k p) ≡ or_told (told (last_with k (items_of G img p))) (told (search_closed G img k (downs G (G.pages - 1) (prev G p))))
  unfolding downs
  from_is p h =
      let z : G.pages ≡ suc (G.pages - 1) = omega arith in
      let d : ring_down G p ≡ p ∷ downs G (G.pages - 1) (prev G p) = down_is G p h ∙ ap (λ (x : ℕ). downs G x p) z in
      rw d (told_or (last_with k (items_of G img p)) (search_closed G img k (downs G (G.pages - 1) (prev G p))))

-- ---- a place in a data area

pub hit_in : (G : Geo) (len a : ℕ) → Held G len → a / G.page < G.pages → a % G.page ≤ G.page - G.word → (a + (G.page - G.word - a % G.page) + G.word ≤ len) × (a % G.page ≤ a)
hit_in G len a h l r = (omega (arith, div-add-mod' a G.page, page_in G.page (a / G.page) G.pages l), omega (arith, div-add-mod' a G.page))
