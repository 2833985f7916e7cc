use Rattle.lists.proofs.Laws.{value_step, value_end}
use Rattle.std.proofs.Common.{◌≡◌, length, sym, ◌∙◌, arith, length-set}
use Rattle.lists.proofs.value.Rule.fill.Goals as goal

pub loop-x-preserved : goal.loop-x-preserved
loop-x-preserved c =
    let l = c.loop-x in
    simp length-set
    (value_step l.s (length l.s) l.x-index l.b c.args.self.step (omega arith) (omega arith) ∙ l.invariant)

pub returns : goal.returns
returns c =
    let l = c.loop-x in
    let n : length c.args.s.now ≡ length l.s = omega arith in
    rw n (sym (value_end l.s (length l.s) l.x-index l.b c.args.self.step (omega arith) (omega arith)) ∙ l.invariant)
