-- The header, and then the data behind it, are the item.
use Rattle.std.proofs.Common.{◌≡◌, ◌∙◌, ap, length, arith}
use Rattle.write.proofs.Laws.{size_data, item_written, key_zeros}
use Rattle.write.proofs.write_item.Goals as goal

pub program-requires : goal.program-requires
program-requires c =
    let a = c.args in
    let l : length c.header-head.result ≡ 8 = ap length c.header-head.ensures in
    omega (arith, size_data a.w a.key a.v.now c.requires.0)

pub returns : goal.returns
returns c =
    let a = c.args in
    let p = c.requires in
    item_written a.img.now c.program.new.img c.write_data.new.img a.power.now c.program.new.power c.write_data.new.power
    a.at a.w a.key c.count_zeros.result c.zeros.result c.header-head.result a.v.now c.program.ensures
    c.write_data.ensures c.header-head.ensures (c.count_zeros.ensures.value ∙ key_zeros a.key c.ranges.key.fits)
    c.zeros.ensures.0 p.0 p.3
