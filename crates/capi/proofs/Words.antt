-- The cache as its words.
use mathlib.Core.Path.{◌≡◌, refl, ap, ◌∙◌}
use Prim.Native.Nat.{ℕ, zero, suc}
use native.Mathlib.Omega.{arith}
use mathlib.Core.List.{List, [], ◌∷◌, ◌++◌, append-nil}
use lib.ListN.{length, take, drop, length-drop, drop_of_length-le}
use lib.Seq.{take_all, take_at, drop_at}
use Rattle.rules.specs.Cache.{Pointer}
use Rattle.cache.specs.declared.{Cache.Cache}
use Rattle.cache.specs.Code.{entries, pointers}
use Rattle.capi.specs.Code.{entries_of, keys_of, places_of, cache_words}

-- ---- the cache

entries-cut : (n : ℕ) (xs ys : List ℕ) → take n (entries (take n xs) ys) ≡ entries (take n xs) ys
entries-cut zero xs ys = refl
entries-cut (suc n) [] ys = refl
entries-cut (suc n) (x ∷ xs) [] = refl
entries-cut (suc n) (x ∷ xs) (y ∷ ys) =
    ap (λ (t : List Pointer). record { key = x; place = y } ∷ t) (entries-cut n xs ys)

-- the cache of two halves
pub cache_in : (ws ks ps : List ℕ) → length ws ≡ 64 → ks ≡ take 32 ws → ps ≡ take 32 (drop 32 ws)
    → pointers 32 (record { keys = ks; places = ps }) ≡ entries_of ws
unfolding pointers
cache_in ws ks ps h e f =
    rw (e, f, take_all 32 (drop 32 ws) (omega (arith, length-drop 32 ws))) (entries-cut 32 ws (drop 32 ws))

keys_back : (n : ℕ) (ks ps : List ℕ) → length ks ≡ n → length ps ≡ n → keys_of (take n (entries ks ps)) ≡ ks
keys_back zero [] ps h g = refl
keys_back zero (k ∷ ks) ps h g = absurd (omega arith)
keys_back (suc n) [] ps h g = absurd (omega arith)
keys_back (suc n) (k ∷ ks) [] h g = absurd (omega arith)
keys_back (suc n) (k ∷ ks) (p ∷ ps) h g = ap (λ (t : List ℕ). k ∷ t) (keys_back n ks ps (omega arith) (omega arith))

places_back : (n : ℕ) (ks ps : List ℕ) → length ks ≡ n → length ps ≡ n → places_of (take n (entries ks ps)) ≡ ps
places_back zero ks [] h g = refl
places_back zero ks (p ∷ ps) h g = absurd (omega arith)
places_back (suc n) [] ps h g = absurd (omega arith)
places_back (suc n) (k ∷ ks) [] h g = absurd (omega arith)
places_back (suc n) (k ∷ ks) (p ∷ ps) h g = ap (λ (t : List ℕ). p ∷ t) (places_back n ks ps (omega arith) (omega arith))

-- the words of a cache are its two arrays
pub cache_out : (c : Cache) → length c.keys ≡ 32 → length c.places ≡ 32
    → cache_words (pointers 32 c) ≡ c.keys ++ c.places
unfolding pointers
cache_out c h g = rw (keys_back 32 c.keys c.places h g, places_back 32 c.keys c.places h g)

-- 64 words, with the first half changed and then the second
pub both : (ws v w ks ps : List ℕ) → length ks ≡ 32 → length ws ≡ 64 → v ≡ ks ++ drop 32 ws
    → w ≡ take 32 v ++ (ps ++ drop 32 (drop 32 v)) → w ≡ ks ++ ps
both ws v w ks ps h n e f =
    let none = drop_of_length-le (drop 32 ws) {i = 32} (omega (arith, length-drop 32 ws)) in
    f ∙ rw (e, take_at ks (drop 32 ws) 32 h, drop_at ks (drop 32 ws) 32 h, none, append-nil ps)
