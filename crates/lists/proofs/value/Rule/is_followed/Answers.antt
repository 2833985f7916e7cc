use Rattle.lists.proofs.Laws.{alike-no, alike_yes, alike_end}
use Rattle.std.proofs.Common.{sym, ◌∙◌, arith}
use Rattle.lists.proofs.value.Rule.is_followed.Goals as goal

pub returns-then-x-due : goal.returns-then-x-due
returns-then-x-due c =
    let l = c.loop-x in
    sym (alike-no c.args.s.now l.x-index l.due c.args.self.step (omega arith) c.if-x-due.true) ∙ l.invariant

pub loop-x-preserved : goal.loop-x-preserved
loop-x-preserved c =
    let l = c.loop-x in
    sym (alike_yes c.args.s.now l.x-index l.due c.args.self.step (omega arith) c.if-x-due.false) ∙ l.invariant

pub returns : goal.returns
returns c =
    let l = c.loop-x in sym (alike_end c.args.s.now l.x-index l.due c.args.self.step (omega arith)) ∙ l.invariant
