-- All 32 entries of a cache, by the entries in use and those that stay.
use mathlib.Core.Path.{◌≡◌, refl, ap, sym, ◌∙◌}
use Prim.Native.Nat.{ℕ, zero, suc, ◌+◌, ◌-◌, ◌≤◌}
use native.Mathlib.Omega.{arith}
use mathlib.Core.List.{List, [], ◌∷◌, ◌++◌}
use lib.ListN.{take, drop}
use lib.Seq.{take-take, take-add}
use Rattle.laws.specs.Splice.{drop-take}
use Rattle.cache.specs.declared.Cache.{Cache}
use Rattle.cache.specs.Code.{entries, pointers, Past}

entries_none : (ks : List ℕ) → entries ks [] ≡ []
entries_none [] = refl
entries_none (k ∷ ks) = refl

entries-drop : (n : ℕ) (ks ps : List ℕ) → entries (drop n ks) (drop n ps) ≡ drop n (entries ks ps)
entries-drop zero ks ps = refl
entries-drop (suc n) [] ps = refl
entries-drop (suc n) (k ∷ ks) [] = entries_none (drop n ks)
entries-drop (suc n) (k ∷ ks) (p ∷ ps) = entries-drop n ks ps

pub take-pointers : (c : Cache) (m : ℕ) → m ≤ 32 → take m (pointers 32 c) ≡ pointers m c
unfolding pointers
take-pointers c m h = take-take m 32 (entries c.keys c.places) h

pub past_pointers : (c d : Cache) (m : ℕ) → m ≤ 32 → Past m c d → pointers m d ++ drop m (pointers 32 c) ≡ pointers 32 d
unfolding pointers
past_pointers c d m h p =
    let E = entries c.keys c.places in
    let F = entries d.keys d.places in
    let same : drop m F ≡ drop m E = sym (entries-drop m d.keys d.places) ∙ rw (p.keys_past, p.places_past) (entries-drop m c.keys c.places) in
    let all : m + (32 - m) ≡ 32 = omega arith in
    rw (drop-take m 32 E, ← same) (sym (take-add m (32 - m) F) ∙ ap (λ (k : ℕ). take k F) all)
