-- The search of keys and places side by side for an entry in use.
use mathlib.Core.Path.{◌≡◌, refl}
use Prim.Native.Nat.{ℕ, suc, ◌+◌, ◌<◌, ◌≤◌}
use native.Mathlib.Omega.{arith}
use mathlib.Core.Bool.{Bool, true, false, cond, not}
use mathlib.Core.List.{List, [], ◌∷◌}
use lib.ListN.{length}
use lib.Dec.{ltb}
use Rattle.std.proofs.lemmas.Bool.{ltb-true, ltb-false}
use Rattle.std.proofs.Common.{Option, Some, None, MatchOption}
use Rattle.std.specs.List.{zip, position_or_len}
use Rattle.std.proofs.lemmas.Slice.Zip.{length-zip}
use Rattle.rules.specs.Bytes.{pick}
use Rattle.rules.specs.Cache.{is_for}
use Rattle.cache.specs.Code.{entries, index}

-- a key and its place are an entry in use with the key k
abbrev pub fits : ℕ → ℕ × ℕ → Bool
fits k p = is_for k (record { key = p.0; place = p.1 })

index-zip : (k : ℕ) (ks ps : List ℕ) → index k (entries ks ps) ≡ position_or_len (fits k) (zip ks ps)
index-zip k [] ps = refl
index-zip k (key ∷ ks) [] = refl
index-zip k (key ∷ ks) (p ∷ ps) = go (fits k (key, p)) (index-zip k ks ps)
  where
    go : (b : Bool) → index k (entries ks ps) ≡ position_or_len (fits k) (zip ks ps)
        → pick b 0 (suc (index k (entries ks ps))) ≡ cond (not b) (1 + position_or_len (fits k) (zip ks ps)) 0
    go true e = refl
    go false e = rw e (omega arith)

-- the first index below n, or none
below : (m n : ℕ) (r : Option ℕ) → r ≡ cond (ltb m n) (Some m) None → MatchOption r (n ≤ m) (λ i. (i < n) × (i ≡ m))
below m n r e = go (ltb m n) refl
  where
    go : (b : Bool) → ltb m n ≡ b → MatchOption r (n ≤ m) (λ i. (i < n) × (i ≡ m))
    go true q = rw (e, q) (ltb-true m n q, refl)
    go false q = rw (e, q) (ltb-false m n q)

pub sought : (k : ℕ) (ks ps : List ℕ) → length ps ≡ length ks → (r : Option ℕ)
    → r ≡ cond (ltb (position_or_len (fits k) (zip ks ps)) (length (zip ks ps))) (Some (position_or_len (fits k) (zip ks ps))) None
    → MatchOption r (length ks ≤ index k (entries ks ps)) (λ i. (i < length ks) × (i ≡ index k (entries ks ps)))
sought k ks ps h r e =
    let long : length (zip ks ps) ≡ length ks = omega (arith, length-zip ks ps) in
    rw (index-zip k ks ps) (below (position_or_len (fits k) (zip ks ps)) (length ks) r (rw long at e))
