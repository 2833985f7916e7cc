-- The cache of the code, two arrays, as the cache of the rules, a list of entries.
use Rattle.std.specs.Prelude.{◌≡◌, ℕ, suc, List, [], ◌∷◌, length, take, drop}
use Rattle.rules.specs.Bytes.{pick}
use Rattle.rules.specs.Cache.{Pointer, is_for, note}
use Rattle.cache.specs.declared.Cache.{Cache}

-- the entries of two lists, a key and a place at a time
abbrev pub entries : List ℕ → List ℕ → List Pointer
entries [] ps = []
entries (k ∷ ks) [] = []
entries (k ∷ ks) (p ∷ ps) = record { key = k; place = p } ∷ entries ks ps

-- the first n entries
unfoldable pub pointers : ℕ → Cache → List Pointer
pointers n c = take n (entries c.keys c.places)

-- entries from n on are in d what they are in c
pub record Past (n : ℕ) (c d : Cache) : Type 0 where
  pub keys_past : drop n d.keys ≡ drop n c.keys
  pub places_past : drop n d.places ≡ drop n c.places

-- d is c with the key and its place noted in the first n entries
pub record NotedOk (n key place : ℕ) (c d : Cache) : Type 0 where
  pub noted : pointers n d ≡ note key place (pointers n c)
  pub past : Past n c d
  pub keys_long : length d.keys ≡ 32
  pub places_long : length d.places ≡ 32

-- the index of the first entry in use with the key, the number of entries where there is none
abbrev pub index : ℕ → List Pointer → ℕ
index k [] = 0
index k (e ∷ es) = pick (is_for k e) 0 (suc (index k es))
