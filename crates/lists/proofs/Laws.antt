-- Digests and values, in the form that the loops ask.
use Rattle.std.proofs.Common.{◌≡◌, ℕ, zero, suc, ◌+◌, ◌-◌, ◌%◌, ◌<◌, ◌≤◌, true, false, List, [], ◌∷◌, ◌++◌, length}
use Rattle.std.proofs.Common.{get_or, take, drop, set, refl, ap, append-nil, add-one, arith, drop_of_length-le}
use Rattle.std.proofs.Common.{take_all, drop-cons, take-suc-set, eq-eqb, ne_eqb, ◌⊎◌, ⊎_elim}
use lib.Seq.{append_snoc}
use Rattle.rules.specs.Cache.{Pointer}
use Rattle.cache.specs.declared.{Cache.Cache}
use Rattle.cache.specs.Code.{entries, pointers}
use Rattle.lists.specs.Says.{mix, digest, digest_entries, value_of, alike}

-- ---- digests

pub digest_step : (h : ℕ) (s : List ℕ) (i : ℕ) → i < length s
    → digest h (drop i s) ≡ digest (mix h (get_or s i 0)) (drop (i + 1) s)
unfolding digest
digest_step h s i g = rw (add-one, drop-cons s i 0)

pub digest-end : (h : ℕ) (s : List ℕ) (i : ℕ) → length s ≤ i → digest h (drop i s) ≡ h
unfolding digest
digest-end h s i g = rw (drop_of_length-le s {i = i} g)

-- the entries of two arrays of n are all of them
entries-all : (n : ℕ) (xs ys : List ℕ) → length xs ≤ n → take n (entries xs ys) ≡ entries xs ys
entries-all zero [] ys h = refl
entries-all zero (x ∷ xs) ys h = absurd (omega arith)
entries-all (suc n) [] ys h = refl
entries-all (suc n) (x ∷ xs) [] h = refl
entries-all (suc n) (x ∷ xs) (y ∷ ys) h =
    ap (λ (t : List Pointer). record { key = x; place = y } ∷ t) (entries-all n xs ys (omega arith))

-- a digest of all entries
pub entries_start : (h : ℕ) (c : Cache) → length c.keys ≡ 32
    → digest_entries h (entries c.keys c.places) ≡ digest_entries h (pointers 32 c)
unfolding pointers
entries_start h c g = rw (entries-all 32 c.keys c.places (omega arith))

-- of no entries
pub entries_end : (h : ℕ) (xs ys : List ℕ) → (length xs ≡ 0) ⊎ (length ys ≡ 0) → digest_entries h (entries xs ys) ≡ h
unfolding digest_entries
entries_end h [] ys e = refl
entries_end h (x ∷ xs) [] e = refl
entries_end h (x ∷ xs) (y ∷ ys) e = ⊎_elim (λ f. absurd (omega arith)) (λ f. absurd (omega arith)) e

-- ---- values

pub value_step : (s : List ℕ) (n i b step : ℕ) → length s ≡ n → i < n
    → take (i + 1) (set s i b) ++ value_of (n - (i + 1)) ((b + step) % 256) step ≡ take i s ++ value_of (n - i) b step
unfolding value_of
value_step s n i b step h g =
    let q : n - i ≡ suc (n - (i + 1)) = omega arith in
    let k : i < length s = omega arith in
    rw (q, add-one, take-suc-set s i b k) (append_snoc (take i s) b (value_of (n - suc i) ((b + step) % 256) step))

pub value_end : (s : List ℕ) (n i b step : ℕ) → length s ≡ n → n ≤ i → take i s ++ value_of (n - i) b step ≡ s
unfolding value_of
value_end s n i b step h g =
    let q : n - i ≡ 0 = omega arith in
    rw (q, take_all i s (omega arith)) (append-nil s)

module _ (s : List ℕ) (i b step : ℕ) where
  pub alike-no : i < length s → (get_or s i 0 ≡ b → ⊥) → alike (drop i s) (value_of (length s - i) b step) ≡ false
  unfolding alike value_of
  alike-no h g =
      let q : length s - i ≡ suc (length s - (i + 1)) = omega arith in
      rw (q, drop-cons s i 0 h, ne_eqb _ _ g)

  pub alike_yes : i < length s → get_or s i 0 ≡ b
      → alike (drop i s) (value_of (length s - i) b step)
      ≡ alike (drop (i + 1) s) (value_of (length s - (i + 1)) ((b + step) % 256) step)
  unfolding alike value_of
  alike_yes h g =
      let q : length s - i ≡ suc (length s - (i + 1)) = omega arith in
      rw (q, add-one, drop-cons s i 0 h, eq-eqb _ _ g)

  pub alike_end : length s ≤ i → alike (drop i s) (value_of (length s - i) b step) ≡ true
  unfolding alike value_of
  alike_end h =
      let q : length s - i ≡ 0 = omega arith in
      rw (q, drop_of_length-le s {i = i} h)
