-- The first n entries of a cache, and the index of a key in them.
use mathlib.Core.Path.{◌≡◌, refl, ap, sym, ◌∙◌}
use Prim.Native.Nat.{ℕ, suc, ◌-◌, ◌≤◌, ◌<◌}
use native.Mathlib.Omega.{arith}
use mathlib.Core.List.{List}
use lib.ListN.{length, get_or, take}
use lib.Seq.{get_or-take, length-take-le}
use Rattle.std.proofs.Common.{Option, Some, None, MatchOption}
use Rattle.std.proofs.lemmas.Bool.{eqb-false}
use Rattle.std.specs.Option.{unwrap_or}
use Rattle.rules.specs.Cache.{Pointer, empty_pointer, lookup, others}
use Rattle.cache.specs.declared.Cache.{Cache}
use Rattle.cache.specs.Code.{entries, pointers, index}
use Rattle.cache.proofs.Cut.{cut, take-cut}
use Rattle.cache.proofs.Entries.{entry, length-entries, entries_at, entries-take, entries-cut, last_is, Hit, index-hit, index-none}

-- two arrays of 32, of which n elements are in use
pub record Sized (n : ℕ) (c : Cache) : Type 0 where
  pub within : n ≤ 32
  pub keys_long : length c.keys ≡ 32
  pub places_long : length c.places ≡ 32

module _ (c : Cache) (n : ℕ) (s : Sized n c) where
  same_long : length c.keys ≡ length c.places
  same_long = omega arith

  pub length-pointers : length (pointers n c) ≡ n
  unfolding pointers
  length-pointers = length-take-le n (entries c.keys c.places) (omega (arith, length-entries c.keys c.places same_long))

  pointers_at : (i : ℕ) → i < n → get_or (pointers n c) i empty_pointer ≡ entry c.keys c.places i
  unfolding pointers
  pointers_at i l =
      get_or-take n (entries c.keys c.places) i empty_pointer l ∙ entries_at c.keys c.places i (omega arith) (omega arith)

  -- all but the one at j
  pub pointers-cut : (j : ℕ) → j < n → entries (take (n - 1) (cut c.keys j)) (take (n - 1) (cut c.places j)) ≡ cut (pointers n c) j
  unfolding pointers
  pointers-cut j l =
      let all : suc (n - 1) ≡ n = omega arith in
      entries-take (n - 1) (cut c.keys j) (cut c.places j)
      ∙ ap (λ (es : List Pointer). take (n - 1) es) (entries-cut c.keys c.places j same_long)
      ∙ take-cut (entries c.keys c.places) j (n - 1) (omega arith)
      ∙ ap (λ (m : ℕ). cut (take m (entries c.keys c.places)) j) all

  module _ (key i : ℕ) where
    -- what the index tells
    module _ (e : i ≡ index key (pointers n c)) where
      pub hit : i < n → Hit key (pointers n c) i
      hit l = rw e (index-hit key (pointers n c) (omega (arith, length-pointers)))

      pub none : n ≤ i → lookup key (pointers n c) ≡ 0
      none l = index-none key (pointers n c) (omega (arith, length-pointers))

      pub find_hit : i < n → get_or c.places i 0 ≡ lookup key (pointers n c)
      find_hit l = sym ((hit l).looked ∙ ap (λ (p : Pointer). p.place) (pointers_at i l))

      pub held : i < n → 0 < lookup key (pointers n c)
      held l = let f = eqb-false (lookup key (pointers n c)) 0 (hit l).used in omega (arith, f)

      -- the entries that stay when the key is noted
      pub others-hit : i < n → others key (pointers n c) ≡ cut (pointers n c) i
      others-hit l = rw (hit l).used (hit l).left

      pub others-none : n ≤ i → 0 < n → others key (pointers n c) ≡ cut (pointers n c) (n - 1)
      others-none l g = rw (none l) (last_is (pointers n c) (n - 1) (omega (arith, length-pointers)))

  -- what is cut where a search may have found the key
  pub others-cut : (key : ℕ) (r : Option ℕ)
      → MatchOption r (n ≤ index key (pointers n c)) (λ i. (i < n) × (i ≡ index key (pointers n c))) → 0 < n
      → (unwrap_or r (n - 1) < n) × (others key (pointers n c) ≡ cut (pointers n c) (unwrap_or r (n - 1)))
  others-cut key None w g = (omega arith, others-none key (index key (pointers n c)) refl w g)
  others-cut key (Some i) w g = (w.0, others-hit key i w.1 w.0)
