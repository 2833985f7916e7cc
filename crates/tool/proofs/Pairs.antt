-- Pairs of digits, one after the other.
use Rattle.std.proofs.Common.{◌≡◌, refl, sym, ◌∙◌, Bool, true, false, cond, List, [], ◌∷◌, ◌++◌, append_assoc, append-nil, ℕ, zero, suc, ◌+◌, ◌*◌, ◌≤◌, ◌<◌, add-one, arith, length, get_or, take, drop, set, drop_of_length-le, drop-cons, take-suc-set, Some, None}
use Rattle.std.specs.Simd.{first_chunks}
use Rattle.tool.specs.Hex.{spelled, all_pairs, byte_of}

-- chunk i of two elements each
pub chunk_at : (k i : ℕ) (s : List ℕ) → i < k → 2 * k ≤ length s → get_or (first_chunks 2 k s) i [] ≡ get_or s (2 * i) 0 ∷ get_or s (suc (2 * i)) 0 ∷ []
chunk_at zero i s h g = absurd (omega arith)
chunk_at (suc k) i [] h g = absurd (omega arith)
chunk_at (suc k) i (x ∷ []) h g = absurd (omega arith)
chunk_at (suc k) zero (x ∷ y ∷ xs) h g = refl
chunk_at (suc k) (suc i) (x ∷ y ∷ xs) h g =
    let a : 2 * suc i ≡ suc (suc (2 * i)) = omega arith in
    rw a (chunk_at k i xs (omega arith) (omega arith))

none_by : (a b r : Bool) (v : ℕ) → cond a None (cond b None (Some v)) ≡ None → cond a false (cond b false r) ≡ false
none_by true b r v e = refl
none_by false true r v e = refl
none_by false false r v e = cc

some_by : (a b r : Bool) (v w : ℕ) → cond a None (cond b None (Some v)) ≡ Some w → (cond a false (cond b false r) ≡ r) × (v ≡ w)
some_by true b r v w e = cc
some_by false true r v w e = cc
some_by false false r v w e = (refl, cc)

module _ (s : List ℕ) (i : ℕ) (h : suc (2 * i) < length s) where
  -- a pair, and those after it
  two : drop (2 * i) s ≡ get_or s (2 * i) 0 ∷ get_or s (suc (2 * i)) 0 ∷ drop (2 * (i + 1)) s
  two =
      let b : 2 * (i + 1) ≡ suc (suc (2 * i)) = omega arith in
      let here : 2 * i < length s = omega arith in
      rw (b, drop-cons s (2 * i) 0 here, drop-cons s (suc (2 * i)) 0 h)

  -- a pair that spells no byte
  pub pair_none : byte_of (get_or s (2 * i) 0) (get_or s (suc (2 * i)) 0) ≡ None → all_pairs (drop (2 * i) s) ≡ false
  unfolding all_pairs
  pair_none e = rw two (none_by _ _ _ _ e)

  -- a pair that spells a byte
  pub pair_some : (v : ℕ) → byte_of (get_or s (2 * i) 0) (get_or s (suc (2 * i)) 0) ≡ Some v
      → (all_pairs (drop (2 * i) s) ≡ all_pairs (drop (2 * (i + 1)) s)) × (spelled (drop (2 * i) s) ≡ v ∷ spelled (drop (2 * (i + 1)) s))
  unfolding all_pairs spelled
  pair_some v e = let p = some_by _ _ (all_pairs (drop (2 * (i + 1)) s)) _ v e in (rw two p.0, rw two (rw p.1))

-- one more byte
pub next_byte : (out rest : List ℕ) (i v : ℕ) → i < length out → take (i + 1) (set out i v) ++ rest ≡ take i out ++ v ∷ rest
next_byte out rest i v h = rw (add-one i, take-suc-set out i v h) (append_assoc (take i out) (v ∷ []) rest)

module _ (s : List ℕ) (i : ℕ) (h : length s ≤ 2 * i) where
  -- no more pairs
  pub pairs_end : all_pairs (drop (2 * i) s) ≡ true
  unfolding all_pairs
  pairs_end = rw (drop_of_length-le s h)

  -- all bytes are there
  pub all-bytes : (out : List ℕ) → take i out ++ spelled (drop (2 * i) s) ≡ spelled s → take i out ≡ spelled s
  unfolding spelled
  all-bytes out e = sym (append-nil (take i out)) ∙ (rw (drop_of_length-le s h) at e)
