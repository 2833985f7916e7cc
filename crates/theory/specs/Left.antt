-- The entries that a removal leaves: those that do not match.
use Rattle.std.specs.Prelude.{◌≡◌, refl, ◌≢◌, ℕ, Bool, true, false, List, [], ◌∷◌, ◌++◌, eqb}
use Rattle.std.proofs.Common.{sym, ap, ◌∙◌, inl, inr, arith, eqb-true, ne_eqb}
use Rattle.rules.specs.Bytes.{pick}
use Rattle.rules.specs.Items.{Entry, is_present, presents}
use Rattle.rules.specs.Fetch.{missing, found, or_else, last_with}
use Rattle.rules.specs.Remove.{Which, every, only, matches}
use Rattle.laws.specs.Check.{In}
use Rattle.laws.specs.Rings.{or_else-missing}

module _ (t : Which) where
  -- those that do not match
  abbrev pub left : List Entry → List Entry
  left [] = []
  left (e ∷ es) = pick (matches t e) (left es) (e ∷ left es)

  pub left-append : (xs ys : List Entry) → left (xs ++ ys) ≡ left xs ++ left ys
  left-append [] ys = refl
  left-append (e ∷ xs) ys = go (matches t e) (left-append xs ys)
    where
      go : (b : Bool) → left (xs ++ ys) ≡ left xs ++ left ys → pick b (left (xs ++ ys)) (e ∷ left (xs ++ ys)) ≡ pick b (left xs) (e ∷ left xs) ++ left ys
      go true ih = ih
      go false ih = ap (λ (l : List Entry). e ∷ l) ih

  pub left_twice : (xs : List Entry) → left (left xs) ≡ left xs
  left_twice [] = refl
  left_twice (e ∷ xs) = go (matches t e) refl (left_twice xs)
    where
      go : (b : Bool) → matches t e ≡ b → left (left xs) ≡ left xs → left (pick b (left xs) (e ∷ left xs)) ≡ pick b (left xs) (e ∷ left xs)
      go true q ih = ih
      go false q ih = rw (q, ih)

-- ---- what is found in what is left

pub left-every : (xs : List Entry) → left every xs ≡ []
left-every [] = refl
left-every (e ∷ xs) = left-every xs

pub left-gone : (k : ℕ) (xs : List Entry) → last_with k (left (only k) xs) ≡ missing
left-gone k [] = refl
left-gone k (e ∷ xs) = go (eqb e.it.key k) refl (left-gone k xs)
  where
    go : (b : Bool) → eqb e.it.key k ≡ b → last_with k (left (only k) xs) ≡ missing → last_with k (pick b (left (only k) xs) (e ∷ left (only k) xs)) ≡ missing
    go true q ih = ih
    go false q ih = rw (q, ih)

pub left_kept : (k j : ℕ) → j ≢ k → (xs : List Entry) → last_with j (left (only k) xs) ≡ last_with j xs
left_kept k j ne [] = refl
left_kept k j ne (e ∷ xs) = go (eqb e.it.key k) refl (left_kept k j ne xs)
  where
    go : (b : Bool) → eqb e.it.key k ≡ b → last_with j (left (only k) xs) ≡ last_with j xs
        → last_with j (pick b (left (only k) xs) (e ∷ left (only k) xs)) ≡ or_else (last_with j xs) (pick (eqb e.it.key j) (found e) missing)
    go true q ih =
        let z : eqb e.it.key j ≡ false = ne_eqb e.it.key j (λ y. ne (sym y ∙ eqb-true e.it.key k q)) in
        rw (z, or_else-missing (last_with j xs)) ih
    go false q ih = rw ih

-- ---- a Present entry is one of the scan's

pub in_presents : (es xs : List Entry) (e : Entry) (ys : List Entry) → presents es ≡ xs ++ (e ∷ ys) → In e.at es
in_presents [] [] e ys h = let z : ◌≡◌ {A = ℕ} 0 1 = cc in absurd (omega arith)
in_presents [] (x ∷ xs) e ys h = let z : ◌≡◌ {A = ℕ} 0 1 = cc in absurd (omega arith)
in_presents (f ∷ es) xs e ys h = go xs (is_present f.it.kind) h (λ xs k. in_presents es xs e ys k)
  where
    go : (xs : List Entry) (b : Bool) → pick b (f ∷ presents es) (presents es) ≡ xs ++ (e ∷ ys) → ((xs : List Entry) → presents es ≡ xs ++ (e ∷ ys) → In e.at es) → In e.at (f ∷ es)
    go xs false k ih = inr (ih xs k)
    go [] true k ih = let q : f ≡ e = cc in inl (ap (λ (x : Entry). x.at) q)
    go (x ∷ xs) true k ih = let q : presents es ≡ xs ++ (e ∷ ys) = cc in inr (ih xs q)
