use Rattle.mend.proofs.Laws.{repair_is}
use Rattle.rules.specs.Runs.{out}
use Rattle.rules.specs.declared.{Answer.TheVariants.Done}
use native.Mathlib.Omega.{arith}
use Rattle.mend.proofs.try_repair.Goals as goal

pub mend-requires : goal.mend-requires
mend-requires c =
    let e = c.erase_corrupted.ensures (out Done) in
    omega (arith, e.erased, c.empty.ensures.1.erased, c.empty.new.self.flash.now.held.few)

pub returns : goal.returns
returns c =
    repair_is c.args.storage.now c.empty.new.self c.erase_corrupted.new.storage c.mend.new.storage _ c.empty.ensures.0
    c.empty.ensures.1 c.erase_corrupted.ensures c.mend.ensures
