-- The source lies in one part of the image, the target in the other.
use Rattle.write.proofs.Laws.{forth_fits, copied_forth, back_fits, copied_back}
use Rattle.write.proofs.copy_item.Goals as goal

pub program_padded-requires : goal.program_padded-requires
program_padded-requires c =
    let a = c.args in
    let p = c.requires in
    let s = c.split_at_mut-front in (
      p.0,
      p.1,
      forth_fits a.img.now s.result.0.now s.result.1.now a.source a.len a.target a.w p.0 p.2 p.4 p.5 p.6
          s.ensures.value c.if-source-target.true s.ensures.front s.ensures.front_len,
    )

pub returns-then-source-target : goal.returns-then-source-target
returns-then-source-target c =
    let a = c.args in
    let p = c.requires in
    let s = c.split_at_mut-front in
    let x = c.program_padded in
    copied_forth a.img.now s.result.0.now s.result.1.now a.source a.len a.target a.w p.0 p.2 p.4 p.5 p.6 s.ensures.value
    c.if-source-target.true s.ensures.front s.ensures.front_len x.new.img a.power.now x.new.power x.ensures

pub program_padded-requires-else-source-target : goal.program_padded-requires-else-source-target
program_padded-requires-else-source-target c =
    let a = c.args in
    let p = c.requires in
    let s = c.split_at_mut-front-else-source-target in (
      p.0,
      p.1,
      back_fits a.img.now s.result.0.now s.result.1.now a.source a.len a.target a.w p.0 p.2 p.4 p.5 p.6
          s.ensures.value c.if-source-target.false s.ensures.back s.ensures.front_len,
    )

pub returns-else-source-target : goal.returns-else-source-target
returns-else-source-target c =
    let a = c.args in
    let p = c.requires in
    let s = c.split_at_mut-front-else-source-target in
    let x = c.program_padded-else-source-target in
    copied_back a.img.now s.result.0.now s.result.1.now a.source a.len a.target a.w p.0 p.2 p.4 p.5 p.6 s.ensures.value
    c.if-source-target.false s.ensures.back s.ensures.front_len x.new.img a.power.now x.new.power x.ensures
