-- A word with the key and what fits behind it, and then the rest of the value.
use Rattle.std.proofs.Common.{arith}
use Rattle.write.proofs.Laws.{word_fits, rest_fits, data_wrote}
use Rattle.write.proofs.write_data.Goals as goal

pub program-requires : goal.program-requires
program-requires c =
    let a = c.args in
    let p = c.requires in
    let s = c.split_at in
    word_fits a.w a.key c.min.result a.v.now c.first_word.result s.result.0.now s.result.1.now p.0 p.1 (omega arith)
    c.first_word.ensures s.ensures.front s.ensures.back a.img.now a.at p.3

pub program_padded-requires : goal.program_padded-requires
program_padded-requires c =
    let a = c.args in
    let p = c.requires in
    let s = c.split_at in
    let fits = rest_fits a.w a.key c.min.result a.v.now c.first_word.result s.result.0.now s.result.1.now p.0 p.1
    (omega arith) c.first_word.ensures s.ensures.front s.ensures.back a.img.now a.at p.3 in
    (p.0, p.1, omega arith)

pub returns : goal.returns
returns c =
    let a = c.args in
    let p = c.requires in
    let s = c.split_at in
    let x = c.program in
    let y = c.program_padded in
    data_wrote a.w a.key c.min.result a.v.now c.first_word.result s.result.0.now s.result.1.now p.0 p.1 (omega arith)
    c.first_word.ensures s.ensures.front s.ensures.back a.img.now a.at p.3 x.new.img y.new.img a.power.now x.new.power
    y.new.power x.ensures y.ensures
