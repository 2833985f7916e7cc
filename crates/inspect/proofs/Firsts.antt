-- First pages of a list: what it means that there is none, and that there is one; blank bytes.
use Rattle.std.specs.Prelude.{◌≡◌, refl, ◌⊎◌, ◌≢◌, ℕ, zero, suc, ◌≤◌, ◌<◌, Bool, true, false, List, [], ◌∷◌, ◌++◌, eqb}
use Rattle.std.specs.Prelude.{length, replicate}
use Rattle.std.proofs.Common.{sym, ap, ◌∙◌, inl, inr, ⊎_elim, arith, ltb-true, ltb-false, eqb-true}
use Rattle.std.proofs.lemmas.Bool.{eqb-false}
use Rattle.rules.specs.declared.{Geo.Geo, PageState.PageState, PageState.TheVariants.Open}
use Rattle.rules.specs.declared.{PageState.TheVariants.PartialOpen, PageState.TheVariants.Closed}
use Rattle.rules.specs.declared.{PageState.TheVariants.Corrupted}
use Rattle.rules.specs.Bytes.{pick, both, all_ff}
use Rattle.rules.specs.Pages.{same, state, up_from, is_page, first_with}
use Rattle.rules.specs.Sound.{All}
use Rattle.inspect.specs.Faults.{seen, open_after, first_by}

-- ---- states

pub two_states : (s : PageState) → same PartialOpen s ≡ false → same Corrupted s ≡ false → (s ≡ Open) ⊎ (s ≡ Closed)
two_states Open p c = inl refl
two_states PartialOpen p c = cc
two_states Closed p c = inr refl
two_states Corrupted p c = cc

pub is_open : (s : PageState) → same Open s ≡ true → s ≡ Open
is_open Open e = refl
is_open PartialOpen e = cc
is_open Closed e = cc
is_open Corrupted e = cc

pub is_partial : (s : PageState) → same PartialOpen s ≡ true → s ≡ PartialOpen
is_partial Open e = cc
is_partial PartialOpen e = refl
is_partial Closed e = cc
is_partial Corrupted e = cc

-- ---- blank bytes

pub all_ff_lem : (m : ℕ) → all_ff (replicate m 255) ≡ true
all_ff_lem zero = refl
all_ff_lem (suc m) = all_ff_lem m

pub ff_all : (xs : List ℕ) → all_ff xs ≡ true → xs ≡ replicate (length xs) 255
ff_all [] e = refl
ff_all (x ∷ xs) e = go (eqb x 255) refl e (ff_all xs)
  where
    go : (b : Bool) → eqb x 255 ≡ b → both b (all_ff xs) ≡ true → (all_ff xs ≡ true → xs ≡ replicate (length xs) 255)
        → x ∷ xs ≡ 255 ∷ replicate (length xs) 255
    go true q e ih = let h : x ≡ 255 = eqb-true x 255 q in let t = ih e in cc
    go false q e ih = cc

-- ---- the first page that passes a test

module _ (G : Geo) where
  module _ (f : ℕ → Bool) where
    pub none_by : (qs : List ℕ) → All (λ q. q < G.pages) qs → is_page G (first_by G f qs) ≡ false
        → All (λ q. f q ≡ false) qs
    none_by [] h e = tt
    none_by (q ∷ qs) h e = go (f q) refl e (none_by qs h.1)
      where
        go : (b : Bool) → f q ≡ b → is_page G (pick b q (first_by G f qs)) ≡ false
            → (is_page G (first_by G f qs) ≡ false → All (λ q. f q ≡ false) qs) → All (λ q. f q ≡ false) (q ∷ qs)
        go true t e ih = let l = h.0 in let k = ltb-false q G.pages e in absurd (omega arith)
        go false t e ih = (t, ih e)

    pub by_none : (qs : List ℕ) → All (λ q. f q ≡ false) qs → first_by G f qs ≡ G.pages
    by_none [] h = refl
    by_none (q ∷ qs) h = rw h.0 (by_none qs h.1)

    -- p is the first of the pages from a on
    pub record First (a p : ℕ) : Type 0 where
      pub passes : f p ≡ true
      pub before : (q : ℕ) → a ≤ q → q < p → f q ≡ false

    pub some_by : (a m : ℕ) → is_page G (first_by G f (up_from a m)) ≡ true → First a (first_by G f (up_from a m))
    some_by a zero e = let k = ltb-true G.pages G.pages e in absurd (omega arith)
    some_by a (suc m) e = go (f a) refl e (some_by (suc a) m)
      where
        go : (b : Bool) → f a ≡ b → is_page G (pick b a (first_by G f (up_from (suc a) m))) ≡ true
            → (is_page G (first_by G f (up_from (suc a) m)) ≡ true → First (suc a) (first_by G f (up_from (suc a) m)))
            → First a (pick b a (first_by G f (up_from (suc a) m)))
        go true t e ih = record { passes = t; before = λ q h k. absurd (omega arith) }
        go false t e ih = let F = ih e in record { passes = F.passes; before = λ q h k. at q h k F (eqb a q) refl }
          where
            at : (q : ℕ) → a ≤ q → q < first_by G f (up_from (suc a) m)
                → First (suc a) (first_by G f (up_from (suc a) m)) → (b : Bool) → eqb a q ≡ b → f q ≡ false
            at q h k F true c = rw (← eqb-true a q c) t
            at q h k F false c = let ne : a ≢ q = eqb-false a q c in F.before q (omega arith) k

  pub with_by : (t : PageState) (img : List ℕ) (qs : List ℕ)
      → first_with G t img qs ≡ first_by G (λ q. same t (state G img q)) qs
  with_by t img [] = refl
  with_by t img (q ∷ qs) = rw (with_by t img qs)

-- ---- the first Open page after a Closed one

module _ (G : Geo) (img : List ℕ) where
  -- pages of a list: Open ones, then Closed ones
  pub record Parted (qs : List ℕ) : Type 0 where
    pub os : List ℕ
    pub cs : List ℕ
    pub is : qs ≡ os ++ cs
    pub opens : All (λ q. state G img q ≡ Open) os
    pub closeds : All (λ q. state G img q ≡ Closed) cs

  -- a list whose first page is in state s
  head_is : (q : ℕ) (qs : List ℕ) (s : PageState) → state G img q ≡ s
      → open_after G img false (q ∷ qs) ≡ open_after G img (seen false s) qs
  head_is q qs s e = ap (λ (x : PageState). open_after G img (seen false x) qs) e

  all_closed : (qs : List ℕ) → All (λ q. q < G.pages) qs
      → All (λ q. (state G img q ≡ Open) ⊎ (state G img q ≡ Closed)) qs
      → is_page G (open_after G img true qs) ≡ false → All (λ q. state G img q ≡ Closed) qs
  all_closed [] h k e = tt
  all_closed (q ∷ qs) h k e =
      ⊎_elim
      (λ o. let l = h.0 in let n = ltb-false q G.pages (rw o at e) in absurd (omega arith))
      (λ c. (c, all_closed qs h.1 k.1 (rw c at e)))
      k.0

  pub parted : (qs : List ℕ) → All (λ q. q < G.pages) qs
      → All (λ q. (state G img q ≡ Open) ⊎ (state G img q ≡ Closed)) qs
      → is_page G (open_after G img false qs) ≡ false → Parted qs
  parted [] h k e = record { os = []; cs = []; is = refl; opens = tt; closeds = tt }
  parted (q ∷ qs) h k e =
      ⊎_elim (λ o. let r = parted qs h.1 k.1 (sym (ap (is_page G) (head_is q qs Open o)) ∙ e) in
      record {
        os = q ∷ r.os;
        cs = r.cs;
        is = ap (λ (l : List ℕ). q ∷ l) r.is;
        opens = (o, r.opens);
        closeds = r.closeds;
      }) (λ c. record {
        os = [];
        cs = q ∷ qs;
        is = refl;
        opens = tt;
        closeds = (c, all_closed qs h.1 k.1 (sym (ap (is_page G) (head_is q qs Closed c)) ∙ e));
      }) k.0

  closed_none : (b : Bool) (cs : List ℕ) → All (λ q. state G img q ≡ Closed) cs → open_after G img b cs ≡ G.pages
  closed_none b [] h = refl
  closed_none true (q ∷ qs) h = rw h.0 (closed_none true qs h.1)
  closed_none false (q ∷ qs) h = head_is q qs Closed h.0 ∙ closed_none true qs h.1

  pub parted-none : (os cs : List ℕ) → All (λ q. state G img q ≡ Open) os → All (λ q. state G img q ≡ Closed) cs
      → open_after G img false (os ++ cs) ≡ G.pages
  parted-none [] cs h k = closed_none false cs k
  parted-none (q ∷ qs) cs h k = head_is q (qs ++ cs) Open h.0 ∙ parted-none qs cs h.1 k

  -- a PartialOpen page before a list changes nothing
  pub partial_head : (q : ℕ) (qs : List ℕ) → state G img q ≡ PartialOpen
      → open_after G img false (q ∷ qs) ≡ open_after G img false qs
  partial_head q qs e = head_is q qs PartialOpen e
