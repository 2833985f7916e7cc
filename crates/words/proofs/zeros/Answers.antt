use Rattle.std.proofs.Common.{◌≡◌, ◌+◌, ◌*◌, ◌≤◌, ◌∙◌, length, rules, tests, arith}
use Rattle.std.proofs.lemmas.Iterator.{YieldsList-from_slice, YieldsList-from_map}
use Rattle.std.proofs.lemmas.Iterator.Consumers.{sum_by_from_yields_List, fits_by_from_yields_list}
use Rattle.rules.specs.Bytes.{zero_bits, zeros}
use Rattle.laws.specs.ByteLaws.{zeros_le}
use Rattle.words.proofs.Laws.{eight_zeros, four_zeros, zeros_in_parts, zeros_of_four}
use Rattle.words.proofs.zeros.Goals as goal

pub returns-in-len4 : goal.returns-in-len4
returns-in-len4 c =
    let s = c.args.s.now in
    let z = c.count_zeros.ensures.value
    ∙ zeros_of_four s (λ i. (c.type_inv.s i).fits) (omega arith) c.from_le_bytes.result c.from_le_bytes.ensures in
    (z, omega (arith, z, zeros_le s))

pub sum-in_eights-requires-clause-fits : goal.sum-in_eights-requires-clause-fits
sum-in_eights-requires-clause-fits c =
    let s = c.args.s.now in
    let p = c.as_chunks in
    let q = c.as_chunks-2 in
    let whole = zeros_in_parts s p.result.1.now q.result.1.now p.result.0.now q.result.0.now
    (λ i. (c.type_inv.s i).fits) p.ensures.front p.ensures.back q.ensures.front q.ensures.back in
    fits_by_from_yields_list eight_zeros p.result.0.now c.map.result _
    (YieldsList-from_map _ eight_zeros (YieldsList-from_slice p.result.0.now cc) c.map.ensures.closure
    (λ x r q k. search (rules, tests))) (omega (arith, whole, zeros_le s))

pub sum-in_fours-requires-clause-fits : goal.sum-in_fours-requires-clause-fits
sum-in_fours-requires-clause-fits c =
    let s = c.args.s.now in
    let p = c.as_chunks in
    let q = c.as_chunks-2 in
    let whole = zeros_in_parts s p.result.1.now q.result.1.now p.result.0.now q.result.0.now
    (λ i. (c.type_inv.s i).fits) p.ensures.front p.ensures.back q.ensures.front q.ensures.back in
    fits_by_from_yields_list four_zeros q.result.0.now c.map-2.result _
    (YieldsList-from_map _ four_zeros (YieldsList-from_slice q.result.0.now cc) c.map-2.ensures.closure
    (λ x r q k. search (rules, tests))) (omega (arith, whole, zeros_le s))

pub sum-in_bytes-requires-clause-fits : goal.sum-in_bytes-requires-clause-fits
sum-in_bytes-requires-clause-fits c =
    let s = c.args.s.now in
    let p = c.as_chunks in
    let q = c.as_chunks-2 in
    let whole = zeros_in_parts s p.result.1.now q.result.1.now p.result.0.now q.result.0.now
    (λ i. (c.type_inv.s i).fits) p.ensures.front p.ensures.back q.ensures.front q.ensures.back in
    fits_by_from_yields_list zero_bits q.result.1.now c.map-3.result _
    (YieldsList-from_map _ zero_bits (YieldsList-from_slice q.result.1.now cc) c.map-3.ensures.closure
    (λ x r q k. search (rules, tests))) (omega (arith, whole, zeros_le s))

-- the three sums are all the zero bits
whole : (c : goal.After-sum-in_bytes)
    → (c.sum-in_eights.result + c.sum-in_fours.result + c.sum-in_bytes.result ≡ zeros c.args.s.now)
    × (c.sum-in_eights.result + c.sum-in_fours.result + c.sum-in_bytes.result ≤ 8 * length c.args.s.now)
whole c =
    let s = c.args.s.now in
    let p = c.as_chunks in
    let q = c.as_chunks-2 in
    let x = sum_by_from_yields_List eight_zeros p.result.0.now c.map.result c.sum-in_eights.result
    c.sum-in_eights.ensures.ran
    (YieldsList-from_map _ eight_zeros (YieldsList-from_slice p.result.0.now cc) c.map.ensures.closure
    (λ x r q k. search (rules, tests))) in
    let y = sum_by_from_yields_List four_zeros q.result.0.now c.map-2.result c.sum-in_fours.result
    c.sum-in_fours.ensures.ran
    (YieldsList-from_map _ four_zeros (YieldsList-from_slice q.result.0.now cc) c.map-2.ensures.closure
    (λ x r q k. search (rules, tests))) in
    let z = sum_by_from_yields_List zero_bits q.result.1.now c.map-3.result c.sum-in_bytes.result
    c.sum-in_bytes.ensures.ran
    (YieldsList-from_map _ zero_bits (YieldsList-from_slice q.result.1.now cc) c.map-3.ensures.closure
    (λ x r q k. search (rules, tests))) in
    let all = zeros_in_parts s p.result.1.now q.result.1.now p.result.0.now q.result.0.now (λ i. (c.type_inv.s i).fits)
    p.ensures.front p.ensures.back q.ensures.front q.ensures.back in
    (omega (arith, x, y, z, all), omega (arith, x, y, z, all, zeros_le s))

pub overflow_add-result : goal.overflow_add-result
overflow_add-result c = let w = whole c in omega arith

pub overflow_add-result-2 : goal.overflow_add-result-2
overflow_add-result-2 c = let w = whole c in omega arith

pub returns : goal.returns
returns c = whole c
