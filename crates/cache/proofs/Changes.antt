-- What a change of the two arrays is to the first n entries.
use mathlib.Core.Path.{◌≡◌, ap, sym, ◌∙◌}
use Prim.Native.Nat.{ℕ, suc, ◌-◌, ◌<◌}
use native.Mathlib.Omega.{arith}
use mathlib.Core.List.{List, [], ◌∷◌, ◌++◌}
use lib.ListN.{length, take, drop, replicate, length-append, length-replicate, take-append-drop}
use lib.Seq.{length-take-le, take_at, drop_at, append_snoc}
use Rattle.rules.specs.Cache.{Pointer, others, forget, clear}
use Rattle.cache.specs.declared.Cache.{Cache}
use Rattle.cache.specs.Code.{entries, pointers, Past, NotedOk}
use Rattle.cache.proofs.Cut.{cut, length_cut, drop-cut}
use Rattle.cache.proofs.Entries.{length-entries, entries-append, clear_is, note_is, Hit}
use Rattle.cache.proofs.Pointers.{Sized, length-pointers, pointers-cut}

-- d is c with these first n entries
abbrev Renewed : ℕ → Cache → Cache → List Pointer → Type 0
Renewed n c d es = (pointers n d ≡ es) × Past n c d

-- new elements at the front of both arrays
renewed : (c d : Cache) (n : ℕ) (ks ps : List ℕ) → length ks ≡ n → length ps ≡ n
    → d.keys ≡ ks ++ drop n c.keys → d.places ≡ ps ++ drop n c.places → Renewed n c d (entries ks ps)
unfolding pointers
renewed c d n ks ps lk lp ek ep =
    let same : length ks ≡ length ps = lk ∙ sym lp in (
      rw (ek, ep, entries-append ks (drop n c.keys) ps (drop n c.places) same)
          (take_at (entries ks ps) (entries (drop n c.keys) (drop n c.places)) n (length-entries ks ps same ∙ lk)),
      record {
        keys_past = rw ek (drop_at ks (drop n c.keys) n lk);
        places_past = rw ep (drop_at ps (drop n c.places) n lp);
      },
    )

module _ (c d : Cache) (n : ℕ) (s : Sized n c) where
  -- zeros at the front
  pub cleared : d.keys ≡ replicate n 0 ++ drop n c.keys → d.places ≡ replicate n 0 ++ drop n c.places
      → Renewed n c d (clear (pointers n c))
  cleared ek ep =
      let q : entries (replicate n 0) (replicate n 0) ≡ clear (pointers n c) = rw (length-pointers c n s) at (clear_is (pointers n c)) in
      rw (← q) (renewed c d n (replicate n 0) (replicate n 0) (length-replicate n 0) (length-replicate n 0) ek ep)

  -- the elements at j gone
  module _ (j : ℕ) (l : j < n) where
    short : (a : List ℕ) → length a ≡ 32 → length (take (n - 1) (cut a j)) ≡ n - 1
    short a h = length-take-le (n - 1) (cut a j) (omega (arith, length_cut a j (omega arith)))

    ahead : (a b : List ℕ) (x : ℕ) → b ≡ x ∷ cut a j → b ≡ x ∷ take (n - 1) (cut a j) ++ drop n a
    ahead a b x e =
        let all : suc (n - 1) ≡ n = omega arith in
        e ∙ ap (λ (r : List ℕ). x ∷ r) (sym (take-append-drop (n - 1) (cut a j)) ∙ rw (drop-cut a j (n - 1) (omega arith), all))

    -- the key with its place before the others
    pub noted : (key place : ℕ) → others key (pointers n c) ≡ cut (pointers n c) j
        → d.keys ≡ key ∷ cut c.keys j → d.places ≡ place ∷ cut c.places j → NotedOk n key place c d
    noted key place o ek ep =
        let ks = take (n - 1) (cut c.keys j) in
        let ps = take (n - 1) (cut c.places j) in
        let lk = short c.keys s.keys_long in
        let lp = short c.places s.places_long in
        let r =
        renewed c d n (key ∷ ks) (place ∷ ps) (omega arith) (omega arith)
        (ahead c.keys d.keys key ek) (ahead c.places d.places place ep) in
        record {
          noted = rw (note_is key place (pointers n c) (omega (arith, length-pointers c n s)), o, ← pointers-cut c n s j l) r.0;
          past = r.1;
          keys_long = rw ek (omega (arith, length_cut c.keys j (omega arith)));
          places_long = rw ep (omega (arith, length_cut c.places j (omega arith)));
        }

    -- an empty entry after the others
    pub forgotten : (key : ℕ) → Hit key (pointers n c) j
        → d.keys ≡ take (n - 1) (cut c.keys j) ++ (0 ∷ drop n c.keys)
        → d.places ≡ take (n - 1) (cut c.places j) ++ (0 ∷ drop n c.places)
        → Renewed n c d (forget key (pointers n c))
    unfolding forget
    forgotten key y ek ep =
        let ks = take (n - 1) (cut c.keys j) in
        let ps = take (n - 1) (cut c.places j) in
        let lk = short c.keys s.keys_long in
        let lp = short c.places s.places_long in
        let q = entries-append ks (0 ∷ []) ps (0 ∷ []) (lk ∙ sym lp) in
        rw (y.used, y.left, ← pointers-cut c n s j l, ← q)
        (renewed c d n (ks ++ (0 ∷ [])) (ps ++ (0 ∷ [])) (rw length-append (omega arith)) (rw length-append (omega arith))
        (ek ∙ sym (append_snoc ks 0 (drop n c.keys))) (ep ∙ sym (append_snoc ps 0 (drop n c.places))))
