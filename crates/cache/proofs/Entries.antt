-- The entries of two lists, and entries with a key.
use mathlib.Core.Path.{◌≡◌, refl, ap}
use Prim.Native.Nat.{ℕ, zero, suc, ◌≤◌, ◌<◌}
use native.Mathlib.Omega.{arith}
use mathlib.Core.Bool.{Bool, true, false, not}
use mathlib.Core.List.{List, [], ◌∷◌, ◌++◌, drop_last}
use lib.ListN.{length, get_or, take, replicate}
use lib.Dec.{eqb}
use Rattle.rules.specs.Bytes.{pick, both}
use Rattle.rules.specs.Cache.{Pointer, empty_pointer, is_for, lookup, without, others, note, clear}
use Rattle.cache.specs.Code.{entries, index}
use Rattle.cache.proofs.Cut.{cut}

-- ---- the entries of two lists

abbrev pub entry : List ℕ → List ℕ → ℕ → Pointer
entry ks ps i = record { key = get_or ks i 0; place = get_or ps i 0 }

pub length-entries : (ks ps : List ℕ) → length ks ≡ length ps → length (entries ks ps) ≡ length ks
length-entries [] ps h = refl
length-entries (k ∷ ks) [] h = absurd (omega arith)
length-entries (k ∷ ks) (p ∷ ps) h = ap suc (length-entries ks ps (omega arith))

pub entries_at : (ks ps : List ℕ) (i : ℕ) → i < length ks → i < length ps → get_or (entries ks ps) i empty_pointer ≡ entry ks ps i
entries_at [] ps i h g = absurd (omega arith)
entries_at (k ∷ ks) [] i h g = absurd (omega arith)
entries_at (k ∷ ks) (p ∷ ps) zero h g = refl
entries_at (k ∷ ks) (p ∷ ps) (suc i) h g = entries_at ks ps i (omega arith) (omega arith)

pub entries-take : (n : ℕ) (ks ps : List ℕ) → entries (take n ks) (take n ps) ≡ take n (entries ks ps)
entries-take zero ks ps = refl
entries-take (suc n) [] ps = refl
entries-take (suc n) (k ∷ ks) [] = refl
entries-take (suc n) (k ∷ ks) (p ∷ ps) = ap (λ (r : List Pointer). record { key = k; place = p } ∷ r) (entries-take n ks ps)

pub entries-append : (ks ks' ps ps' : List ℕ) → length ks ≡ length ps
    → entries (ks ++ ks') (ps ++ ps') ≡ entries ks ps ++ entries ks' ps'
entries-append [] ks' [] ps' h = refl
entries-append [] ks' (p ∷ ps) ps' h = absurd (omega arith)
entries-append (k ∷ ks) ks' [] ps' h = absurd (omega arith)
entries-append (k ∷ ks) ks' (p ∷ ps) ps' h =
    ap (λ (r : List Pointer). record { key = k; place = p } ∷ r) (entries-append ks ks' ps ps' (omega arith))

pub entries-cut : (ks ps : List ℕ) (j : ℕ) → length ks ≡ length ps → entries (cut ks j) (cut ps j) ≡ cut (entries ks ps) j
entries-cut [] [] zero h = refl
entries-cut [] [] (suc j) h = refl
entries-cut [] (p ∷ ps) j h = absurd (omega arith)
entries-cut (k ∷ ks) [] j h = absurd (omega arith)
entries-cut (k ∷ ks) (p ∷ ps) zero h = refl
entries-cut (k ∷ ks) (p ∷ ps) (suc j) h =
    ap (λ (r : List Pointer). record { key = k; place = p } ∷ r) (entries-cut ks ps j (omega arith))

-- ---- the rules' changes, on entries

pub clear_is : (es : List Pointer) → entries (replicate (length es) 0) (replicate (length es) 0) ≡ clear es
unfolding clear
clear_is [] = refl
clear_is (e ∷ es) = ap (λ (r : List Pointer). empty_pointer ∷ r) (clear_is es)

pub note_is : (k a : ℕ) (es : List Pointer) → 0 < length es → note k a es ≡ record { key = k; place = a } ∷ others k es
unfolding note
note_is k a [] h = absurd (omega arith)
note_is k a (e ∷ es) h = refl

pub last_is : (es : List Pointer) (m : ℕ) → length es ≡ suc m → drop_last es ≡ cut es m
last_is [] m h = absurd (omega arith)
last_is (e ∷ []) zero h = refl
last_is (e ∷ []) (suc m) h = absurd (omega arith)
last_is (e ∷ x ∷ es) zero h = absurd (omega arith)
last_is (e ∷ x ∷ es) (suc m) h = ap (λ (r : List Pointer). e ∷ r) (last_is (x ∷ es) m (omega arith))

-- ---- the first entry with a key

in_use : (a b : Bool) → both (not a) b ≡ true → a ≡ false
in_use true b h = let z : ◌≡◌ {A = ℕ} 0 1 = cc in absurd (omega arith)
in_use false b h = refl

-- what its index tells
pub record Hit (k : ℕ) (es : List Pointer) (i : ℕ) : Type 0 where
  pub looked : lookup k es ≡ (get_or es i empty_pointer).place
  pub used : eqb (lookup k es) 0 ≡ false
  pub left : without k es ≡ cut es i

pub index-hit : (k : ℕ) (es : List Pointer) → index k es < length es → Hit k es (index k es)
index-hit k [] h = absurd (omega arith)
index-hit k (e ∷ es) h = go (is_for k e) refl h (λ l. index-hit k es l)
  where
    go : (b : Bool) → is_for k e ≡ b → pick b 0 (suc (index k es)) < suc (length es)
        → (index k es < length es → Hit k es (index k es)) → Hit k (e ∷ es) (pick b 0 (suc (index k es)))
    go true q l ih = record { looked = rw q; used = rw q (in_use (eqb e.place 0) (eqb e.key k) q); left = rw q }
    go false q l ih =
        let y = ih (omega arith) in
        record { looked = rw q y.looked; used = rw q y.used; left = rw q (ap (λ (r : List Pointer). e ∷ r) y.left) }

pub index-none : (k : ℕ) (es : List Pointer) → length es ≤ index k es → lookup k es ≡ 0
index-none k [] h = refl
index-none k (e ∷ es) h = go (is_for k e) h (λ l. index-none k es l)
  where
    go : (b : Bool) → suc (length es) ≤ pick b 0 (suc (index k es)) → (length es ≤ index k es → lookup k es ≡ 0)
        → pick b e.place (lookup k es) ≡ 0
    go true l ih = absurd (omega arith)
    go false l ih = ih (omega arith)
