-- The first run, or the repair and the second.
use Prim.Native.Nat.{◌+◌}
use mathlib.Core.Path.{refl}
use Rattle.mend.proofs.Auto.{auto_first, auto_again}
use Rattle.calls.specs.Code.{run_of}
use Rattle.calls.proofs.Laws.{again_on, not-corrupted}
use Rattle.calls.proofs.auto_repair.Goals as goal

pub returns-in-Corrupted : goal.returns-in-Corrupted
returns-in-Corrupted c =
    let a = c.args in
    let s = a.storage.now in
    let f = c.look_and_run in
    let r = c.again in
    auto_again s.flash.now.geo.pages (s.flash.now.geo.pages + 2) (run_of s.flash.now.geo a.job a.value.now) s f.new.storage f.result
    f.ensures r.new.storage r.result (rw c.in-Corrupted.is refl)
    (again_on s f.new.storage r.new.storage f.ensures.keeps.same.geo a.job a.value.now r.result r.ensures)

pub returns-in_default : goal.returns-in_default
returns-in_default c =
    let a = c.args in
    let s = a.storage.now in
    let f = c.look_and_run in
    auto_first s.flash.now.geo.pages (s.flash.now.geo.pages + 2) (run_of s.flash.now.geo a.job a.value.now) s f.new.storage f.result
    f.ensures (not-corrupted f.result c.in_default.not-Corrupted)
