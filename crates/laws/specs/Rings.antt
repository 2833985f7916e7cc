-- The ring: its pages as lists, the first page in a state, and the search as the last of the log.
use Rattle.std.specs.Prelude.{◌≡◌, ◌≢◌, Bool}
use Rattle.std.proofs.Math.Path.{refl}
use Rattle.std.proofs.Common.{sym}
use Prim.Native.Nat.{ℕ, zero, suc, ◌+◌, ◌-◌, ◌≤◌, ◌<◌}
use Rattle.std.proofs.Math.Bool.{true, false}
use mathlib.Core.List.{List, [], ◌∷◌, ◌++◌, append_assoc, append-nil, reverse, reverse-append, reverse-cons, reverse-reverse}
use Rattle.std.proofs.Math.Dec.{ltb, eqb}
use Rattle.std.proofs.Math.Nat.{zero-add}
use native.Mathlib.Omega.{arith}
use borrow.Author.Tests.{ltb-true, ltb-false, lt-ltb, eqb-true, eqb-false}
use Rattle.rules.specs.declared.{Geo.Geo, PageState.PageState, PageState.TheVariants.Open, PageState.TheVariants.PartialOpen, PageState.TheVariants.Closed}
use Rattle.rules.specs.Bytes.{pick}
use Rattle.rules.specs.Items.{Entry}
use Rattle.rules.specs.Pages.{same, state, items_of, up_from, ring_up, ring_down, next, first_with, first_page}
use Rattle.rules.specs.Fetch.{Found, corrupt, missing, found, or_else, last_with, search_closed, newest}
use Rattle.rules.specs.Sound.{All, ring_rest, Unused, Ring}
use Rattle.laws.specs.Lists.{All-append, All-left, All_right, All-map, All-reverse, up_from-snoc, All-up_from, up_from-All}

-- ---- the pages

module _ (G : Geo) where
  pub ring_cons : (p : ℕ) → p < G.pages → ring_up G p ≡ p ∷ ring_rest G p
  unfolding ring_up ring_rest
  ring_cons p h =
      let z : G.pages - p ≡ suc (G.pages - suc p) = omega arith in
      rw z

  pub ring_next : (p : ℕ) → p < G.pages → ring_up G (next G p) ≡ ring_rest G p ++ (p ∷ [])
  unfolding ring_up ring_rest
  ring_next p h = go (eqb (suc p) G.pages) refl
    where
      go : (b : Bool) → eqb (suc p) G.pages ≡ b → ring_up G (next G p) ≡ ring_rest G p ++ (p ∷ [])
      go true e =
          let en : suc p ≡ G.pages = eqb-true (suc p) G.pages e in
          let z : G.pages - suc p ≡ 0 = omega arith in
          let z' : G.pages - 0 ≡ suc p = omega arith in
          rw (e, z, z', append-nil (up_from 0 (suc p)), up_from-snoc 0 p, zero-add p)
      go false e =
          rw (e, up_from-snoc 0 p, zero-add p) (sym (append_assoc (up_from (suc p) (G.pages - suc p)) (up_from 0 p) (p ∷ [])))

  pub ring_down_lem : (p : ℕ) → p < G.pages → ring_down G p ≡ p ∷ reverse (ring_rest G p)
  unfolding ring_down
  ring_down_lem p h = rw (ring_next p h, reverse-append (ring_rest G p) (p ∷ []))

  -- what holds of every other page holds of the rest of the ring, and back
  pub rest_all : (P : ℕ → Type 0) (p : ℕ) → p < G.pages → All P (ring_rest G p) → (q : ℕ) → q < G.pages → q ≢ p → P q
  unfolding ring_rest
  rest_all P p hp h q hq ne = go (ltb q p) refl
    where
      go : (b : Bool) → ltb q p ≡ b → P q
      go true e = All-up_from P 0 p (All_right P (up_from (suc p) (G.pages - suc p)) (up_from 0 p) h) q (omega arith) (omega (arith, ltb-true q p e))
      go false e = All-up_from P (suc p) (G.pages - suc p) (All-left P (up_from (suc p) (G.pages - suc p)) (up_from 0 p) h) q (omega (arith, ltb-false q p e)) (omega (arith, ltb-false q p e))

  pub all_rest : (P : ℕ → Type 0) (p : ℕ) → p < G.pages → ((q : ℕ) → q < G.pages → q ≢ p → P q) → All P (ring_rest G p)
  unfolding ring_rest
  all_rest P p hp h =
      All-append P (up_from (suc p) (G.pages - suc p)) (up_from 0 p)
      (up_from-All P (suc p) (G.pages - suc p) (λ q h₁ h₂. h q (omega arith) (λ e. absurd (omega arith))))
      (up_from-All P 0 p (λ q h₁ h₂. h q (omega arith) (λ e. absurd (omega arith))))

  -- the first page in a state
  pub first_is : (t : PageState) (img : List ℕ) (a m p : ℕ) → a ≤ p → p < a + m → same t (state G img p) ≡ true
      → ((q : ℕ) → a ≤ q → q < p → same t (state G img q) ≡ false) → first_with G t img (up_from a m) ≡ p
  first_is t img a zero p h₁ h₂ e f = absurd (omega arith)
  first_is t img a (suc m) p h₁ h₂ e f =
      go (eqb a p) refl (λ k. first_is t img (suc a) m p k (omega arith) e (λ q k₁ k₂. f q (omega arith) k₂))
    where
      go : (b : Bool) → eqb a p ≡ b → (suc a ≤ p → first_with G t img (up_from (suc a) m) ≡ p) → first_with G t img (up_from a (suc m)) ≡ p
      go true c ih = let z : a ≡ p = eqb-true a p c in rw (z, e)
      go false c ih = let ne : a ≢ p = eqb-false a p c in let lt : a < p = omega arith in rw (f a (omega arith) lt) (ih lt)

-- ---- the last of entries with a key

pub or_else-missing : (r : Found) → or_else r missing ≡ r
or_else-missing corrupt = refl
or_else-missing missing = refl
or_else-missing (found e) = refl

pub or_else_assoc : (a b c : Found) → or_else (or_else a b) c ≡ or_else a (or_else b c)
or_else_assoc corrupt b c = refl
or_else_assoc missing b c = refl
or_else_assoc (found e) b c = refl

pub last-append : (k : ℕ) (xs ys : List Entry) → last_with k (xs ++ ys) ≡ or_else (last_with k ys) (last_with k xs)
last-append k [] ys = sym (or_else-missing (last_with k ys))
last-append k (x ∷ xs) ys =
    rw (last-append k xs ys) (or_else_assoc (last_with k ys) (last_with k xs) (pick (eqb x.it.key k) (found x) missing))

module _ (G : Geo) where
  -- the Present items of the pages, in this order
  abbrev pub log_of : List ℕ → List ℕ → List Entry
  log_of img [] = []
  log_of img (p ∷ ps) = items_of G img p ++ log_of img ps

  pub log_append : (img ps qs : List ℕ) → log_of img (ps ++ qs) ≡ log_of img ps ++ log_of img qs
  log_append img [] qs = refl
  log_append img (p ∷ ps) qs = rw (log_append img ps qs) (sym (append_assoc (items_of G img p) (log_of img ps) (log_of img qs)))

  pub search_closed_lem : (img : List ℕ) (k : ℕ) (xs ys : List ℕ) → All (λ q. state G img q ≡ Closed) xs
      → search_closed G img k (xs ++ ys) ≡ or_else (last_with k (log_of img (reverse xs))) (search_closed G img k ys)
  search_closed_lem img k [] ys h = refl
  search_closed_lem img k (x ∷ xs) ys h =
      rw (
        h.0,
        search_closed_lem img k xs ys h.1,
        reverse-cons x xs,
        log_append img (reverse xs) (x ∷ []),
        append-nil (items_of G img x),
        last-append k (log_of img (reverse xs)) (items_of G img x),
      )
      (sym (or_else_assoc (last_with k (items_of G img x)) (last_with k (log_of img (reverse xs))) (search_closed G img k ys)))

  pub search_open : (img : List ℕ) (k : ℕ) (xs : List ℕ) → All (λ q. state G img q ≡ Open) xs → search_closed G img k xs ≡ missing
  search_open img k [] h = refl
  search_open img k (x ∷ xs) h = rw h.0

  -- ---- a ring with a PartialOpen page

  module _ (img : List ℕ) (p : ℕ) (os cs : List ℕ) (S : Ring G img p os cs) where
    abbrev pub log_list : List Entry
    log_list = log_of img cs ++ items_of G img p

    others : (q : ℕ) → q < G.pages → q ≢ p → same PartialOpen (state G img q) ≡ false
    others q hq ne =
        rest_all G (λ q. same PartialOpen (state G img q) ≡ false) p S.in_ring
        (rw S.rest_is (All-append (λ q. same PartialOpen (state G img q) ≡ false) os cs
        (All-map (Unused G img) (λ q. same PartialOpen (state G img q) ≡ false) os (λ q h. rw h.is_open) S.opens)
        (All-map (λ q. state G img q ≡ Closed) (λ q. same PartialOpen (state G img q) ≡ false) cs (λ q h. rw h) S.closeds)))
        q hq ne

    pub partial_is : first_page G PartialOpen img ≡ p
    partial_is =
        let hp = S.in_ring in
        first_is G PartialOpen img 0 G.pages p (omega arith) (omega arith) (rw S.partial) (λ q k₁ k₂. others q (omega arith) (λ e. absurd (omega arith)))

    pub newest_is : (k : ℕ) → newest G img k ≡ last_with k log_list
    unfolding newest
    newest_is k =
        let hp = S.in_ring in
        rw (
          partial_is,
          lt-ltb p G.pages hp,
          ring_down_lem G p hp,
          S.rest_is,
          reverse-append os cs,
          search_closed_lem img k (reverse cs) (reverse os) (All-reverse (λ q. state G img q ≡ Closed) cs S.closeds),
          reverse-reverse cs,
          search_open img k (reverse os) (All-reverse (λ q. state G img q ≡ Open) os (All-map (Unused G img) (λ q. state G img q ≡ Open) os (λ q h. h.is_open) S.opens)),
          or_else-missing (last_with k (log_of img cs)),
        )
        (sym (last-append k (log_of img cs) (items_of G img p)))
