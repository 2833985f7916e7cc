-- The cache: "Entries in order, newest first, empty ones last", of which the list holds those within the size.
use Rattle.std.specs.Prelude.{ℕ, Bool, not, eqb}
use mathlib.Core.List.{List, [], ◌∷◌, ◌++◌, drop_last}
use Rattle.rules.specs.Bytes.{pick, both}

-- an entry: a key and its item's place; "place 0 is empty wherever it stands"
pub record Pointer : Type 0 where
  pub key : ℕ
  pub place : ℕ

-- "An emptied entry has key 0"
abbrev pub empty_pointer : Pointer
empty_pointer = record { key = 0; place = 0 }

abbrev pub Cache : Type 0
Cache = List Pointer

-- the entry is in use and has the key
abbrev pub is_for : ℕ → Pointer → Bool
is_for k e = both (not (eqb e.place 0)) (eqb e.key k)

-- the place that the cache has for the key, 0 if none: "the first entry with the key counts"
abbrev pub lookup : ℕ → Cache → ℕ
lookup k [] = 0
lookup k (e ∷ es) = pick (is_for k e) e.place (lookup k es)

-- the entries without the first one with the key
abbrev pub without : ℕ → Cache → Cache
without k [] = []
without k (e ∷ es) = pick (is_for k e) es (e ∷ without k es)

-- "Noting moves or inserts at the front, dropping the last.": the other entries are those without the key's, or else without the last
abbrev pub others : ℕ → Cache → Cache
others k c = pick (eqb (lookup k c) 0) (drop_last c) (without k c)

unfoldable pub note : ℕ → ℕ → Cache → Cache
note k a [] = []
note k a (e ∷ es) = record { key = k; place = a } ∷ others k (e ∷ es)

-- "A key erased: its entry goes empty to the back."
unfoldable pub forget : ℕ → Cache → Cache
forget k c = pick (eqb (lookup k c) 0) c (without k c ++ (empty_pointer ∷ []))

-- the cache emptied
unfoldable pub clear : Cache → Cache
clear [] = []
clear (e ∷ es) = empty_pointer ∷ clear es
