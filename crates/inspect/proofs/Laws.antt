-- Bytes, pages and the ring, in the form that the loops ask.
use mathlib.Core.Path.{◌≡◌, refl, sym}
use Prim.Native.Nat.{ℕ, zero, suc, ◌+◌, ◌-◌, ◌≤◌, ◌<◌}
use native.Mathlib.Omega.{arith}
use mathlib.Core.Bool.{Bool, true, false}
use mathlib.Core.List.{List, [], ◌∷◌}
use lib.ListN.{length, get_or}
use borrow.Author.Tests.{ne_eqb}
use Rattle.rules.specs.declared.{Geo.Geo}
use Rattle.std.specs.Prelude.{Option, None, Some}
use Rattle.rules.specs.Bytes.{pick, all_ff}
use Rattle.rules.specs.Pages.{up_from, state, next}
use Rattle.ring.specs.Code.{ups}
use Rattle.inspect.specs.declared.Fault.{Fault}
use Rattle.inspect.specs.Faults.{not_ff, apart, seen, open_after, dirty, first_by}

-- the first byte that is not 0xFF: at index i, all before it being 0xFF, or there is none
pub ff_none : (xs : List ℕ) → ((k : ℕ) → k < length xs → get_or xs k 0 ≡ 255) → all_ff xs ≡ true
ff_none [] h = refl
ff_none (x ∷ xs) h = rw (h 0 (omega arith), ff_none xs (λ k l. h (suc k) (omega arith)))

pub ff_some : (a : ℕ) (xs : List ℕ) (i : ℕ) → i < length xs → (get_or xs i 0 ≡ 255 → ⊥)
    → ((k : ℕ) → k < i → get_or xs k 0 ≡ 255) → (all_ff xs ≡ false) × (a + i ≡ not_ff a xs)
ff_some a [] i l n h = absurd (omega arith)
ff_some a (x ∷ xs) zero l n h = (rw (ne_eqb x 255 n), rw (ne_eqb x 255 n) (omega arith))
ff_some a (x ∷ xs) (suc i) l n h =
    let r = ff_some (suc a) xs i (omega arith) n (λ k m. h (suc k) (omega arith)) in
    let z : a + suc i ≡ suc a + i = omega arith in
    (rw (h 0 (omega arith), r.0), rw (h 0 (omega arith), z) r.1)

-- the first Open page after a Closed one, of the m pages from q on: X is that of all
module _ (G : Geo) (img : List ℕ) (q m : ℕ) (closed : Bool) (X : ℕ)
    (x : open_after G img closed (ups G m q) ≡ X) where
  pub apart_none : m ≤ 0 → X ≡ G.pages
  unfolding ups
  apart_none h = let z : m ≡ 0 = omega arith in sym (rw z at x)

  pub apart_here : 0 < m → apart closed (state G img q) ≡ true → q ≡ X
  unfolding ups
  apart_here h t = let z : m ≡ suc (m - 1) = omega arith in rw (z, t) at x

  pub apart-on : 0 < m → apart closed (state G img q) ≡ false
      → (c : Bool) (q' : ℕ) → c ≡ seen closed (state G img q) → q' ≡ next G q
      → open_after G img c (ups G (m - 1) q') ≡ X
  unfolding ups
  apart-on h f c q' hc hq = let z : m ≡ suc (m - 1) = omega arith in rw (hc, hq) (rw (z, f) at x)

-- the first page with data that is not blank, from page q on
module _ (G : Geo) (img : List ℕ) (q : ℕ) (h : q < G.pages) where
  z : G.pages - q ≡ suc (G.pages - (q + 1))
  z = omega arith

  y : suc q ≡ q + 1
  y = omega arith

  pub dirty_here : dirty G img q ≡ true → first_by G (dirty G img) (up_from q (G.pages - q)) ≡ q
  dirty_here e = rw (z, e)

  pub dirty-on : dirty G img q ≡ false
      → first_by G (dirty G img) (up_from q (G.pages - q))
      ≡ first_by G (dirty G img) (up_from (q + 1) (G.pages - (q + 1)))
  dirty-on e = rw (z, e, y)

-- a test that finds a fault, and one that finds none
pub told : (b : Bool) (f g : Fault) → pick b (Some f) None ≡ Some g → (b ≡ true) × (f ≡ g)
told true f g e = (refl, cc)
told false f g e = cc

pub passed : (b : Bool) (f : Fault) (r : Option Fault) → pick b (Some f) r ≡ None → (b ≡ false) × (r ≡ None)
passed true f r e = cc
passed false f r e = (refl, e)
