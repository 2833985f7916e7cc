use Rattle.lists.proofs.Laws.{digest_step, digest-end}
use Rattle.std.proofs.Common.{sym, ◌∙◌, arith}
use Rattle.lists.proofs.digest.of_bytes.Goals as goal

pub loop-b-preserved : goal.loop-b-preserved
loop-b-preserved c =
    let l = c.loop-b in
    record {
      small = c.mix-h.ensures.1;
      rest = rw (c.mix-h.ensures.0, c.from.ensures)
          (sym (digest_step l.h c.args.s.now l.b-index (omega arith)) ∙ l.invariant.rest);
    }

pub returns : goal.returns
returns c = let l = c.loop-b in sym (digest-end l.h c.args.s.now l.b-index (omega arith)) ∙ l.invariant.rest
