-- The whole words and then, where bytes are left, the one with the padding.
use Rattle.std.proofs.Common.{◌≡◌, ◌/◌, ◌*◌, ◌∙◌, length, arith}
use Rattle.std.proofs.lemmas.Bool.Decides.{nat_tests}
use Rattle.laws.specs.Power.{wrote_as}
use Rattle.write.proofs.Laws.{whole_of, whole_all, last_fits, wrote_last}
use Rattle.write.proofs.program_padded.Goals as goal

pub program-requires-then-not-is_empty : goal.program-requires-then-not-is_empty
program-requires-then-not-is_empty c =
    let a = c.args in
    let bs = a.bytes.now in
    let s = c.split_at in
    let o = whole_of (length bs) a.w (omega arith) in
    last_fits a.w (length bs / a.w * a.w) bs (omega arith) c.requires.1 o.2 o.0 o.1 c.program.new.img s.result.0.now
    s.result.1.now c.padded.result a.at s.ensures.front s.ensures.back c.padded.ensures (omega arith)
    (grind (arith, nat_tests))

pub returns-then-not-is_empty : goal.returns-then-not-is_empty
returns-then-not-is_empty c =
    let a = c.args in
    let bs = a.bytes.now in
    let s = c.split_at in
    let x = c.program in
    let y = c.program-then-not-is_empty in
    let o = whole_of (length bs) a.w (omega arith) in
    wrote_last a.w (length bs / a.w * a.w) bs (omega arith) c.requires.1 o.2 o.0 o.1 a.img.now s.result.0.now
    s.result.1.now c.padded.result a.at s.ensures.front s.ensures.back c.padded.ensures c.requires.2
    x.new.img y.new.img a.power.now x.new.power y.new.power (grind (arith, nat_tests)) x.ensures y.ensures

pub returns-else-not-is_empty : goal.returns-else-not-is_empty
returns-else-not-is_empty c =
    let a = c.args in
    let bs = a.bytes.now in
    let s = c.split_at in
    let o = whole_of (length bs) a.w (omega arith) in
    let none : length s.result.1.now ≡ 0 = grind (arith, nat_tests) in
    wrote_as (s.ensures.front ∙ whole_all a.w (length bs / a.w * a.w) bs (omega arith) c.requires.1 o.2 o.0 o.1
    (omega (arith, s.ensures.back_len))) c.program.ensures
