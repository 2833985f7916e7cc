use Rattle.std.proofs.Common.{◌≡◌, sym, ◌∙◌, true, false, [], ◌∷◌, suc, ◌*◌, ◌/◌, eqb-true, length, get_or, None, Some, arith}
use Rattle.std.proofs.lemmas.Result.{err_from_is_err_and}
use Rattle.tool.specs.Hex.{all_pairs, byte_of}
use Rattle.tool.proofs.Pairs.{chunk_at, pair_none, pair_some, next_byte, pairs_end, all-bytes}
use Rattle.tool.proofs.hex.read.Goals as goal

pub returns-in_err-out-clause-value : goal.returns-in_err-out-clause-value
returns-in_err-out-clause-value c =
    let s = c.args.s.now in
    let i = c.loop-i.i in
    let q : get_or c.as_chunks.result.0.now i [] ≡ get_or s (2 * i) 0 ∷ get_or s (suc (2 * i)) 0 ∷ [] =
    rw c.as_chunks.ensures.front (chunk_at (length s / 2) i s (omega arith) (omega arith)) in
    let b : byte_of (get_or s (2 * i) 0) (get_or s (suc (2 * i)) 0) ≡ None =
    sym (rw q at c.byte.ensures) ∙ c.in_err-out.ensures.ok_part in
    let bad : all_pairs s ≡ false = sym c.loop-i.invariant.good ∙ pair_none s i (omega arith) b in
    let p = err_from_is_err_and c.from_residual.result c.from_residual.ensures.1 in
    rw (p.1, p.2) (grind (arith, bad, c.in_err-out.ensures.value))

pub loop-i-preserved : goal.loop-i-preserved
loop-i-preserved c =
    let s = c.args.s.now in
    let i = c.loop-i.i in
    let v = c.in_ok-out.field-0 in
    let q : get_or c.as_chunks.result.0.now i [] ≡ get_or s (2 * i) 0 ∷ get_or s (suc (2 * i)) 0 ∷ [] =
    rw c.as_chunks.ensures.front (chunk_at (length s / 2) i s (omega arith) (omega arith)) in
    let b : byte_of (get_or s (2 * i) 0) (get_or s (suc (2 * i)) 0) ≡ Some v =
    sym (rw q at c.byte.ensures) ∙ c.in_ok-out.ensures.ok_part in
    let p = pair_some s i (omega arith) v b in
    record {
      bytes = next_byte c.loop-i.out _ i v (omega arith) ∙ rw (← p.1) c.loop-i.invariant.bytes;
      good = sym p.0 ∙ c.loop-i.invariant.good;
    }

pub returns-clause-value : goal.returns-clause-value
returns-clause-value c =
    let even : length c.as_chunks.result.1.now ≡ 0 = eqb-true _ _ (sym c.is_empty.ensures ∙ c.if-not-is_empty.false) in
    let s = c.args.s.now in
    let good : all_pairs s ≡ true = sym c.loop-i.invariant.good ∙ pairs_end s c.loop-i.i (omega arith) in
    grind (arith, good)

pub returns-clause-bytes : goal.returns-clause-bytes
returns-clause-bytes c =
    let even : length c.as_chunks.result.1.now ≡ 0 = eqb-true _ _ (sym c.is_empty.ensures ∙ c.if-not-is_empty.false) in
    let n : length c.as_chunks.result.0.now ≡ c.loop-i.i = omega arith in
    rw n (all-bytes c.args.s.now c.loop-i.i (omega arith) c.loop-i.out c.loop-i.invariant.bytes)
