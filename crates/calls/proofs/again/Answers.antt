-- A repair that fails, or the run after it.
use Prim.Native.Nat.{◌+◌}
use mathlib.Core.Path.{refl, sym, ◌∙◌}
use Rattle.mend.proofs.Auto.{again_bad, again_run}
use Rattle.calls.specs.Code.{run_of}
use Rattle.calls.proofs.Laws.{bad_end, good_end, look_on}
use Rattle.calls.proofs.again.Goals as goal

pub returns-then-is_err : goal.returns-then-is_err
returns-then-is_err c =
    let a = c.args in
    let s = a.storage.now in
    let e = bad_end c.try_repair.result (sym c.is_err.ensures.value ∙ c.if-is_err.true) in
    let R = c.try_repair.ensures in
    again_bad s.flash.now.geo.pages (s.flash.now.geo.pages + 2) (run_of s.flash.now.geo a.job a.value.now) s c.try_repair.new.storage _
    (rw e at R) c.settle.new.storage refl c.settle.ensures

pub returns : goal.returns
returns c =
    let a = c.args in
    let s = a.storage.now in
    let e = good_end c.try_repair.result (sym c.is_err.ensures.value ∙ c.if-is_err.false) in
    let R = c.try_repair.ensures in
    let L = c.look_and_run-answer in
    again_run s.flash.now.geo.pages (s.flash.now.geo.pages + 2) (run_of s.flash.now.geo a.job a.value.now) s c.try_repair.new.storage _
    (rw e at R) L.new.storage c.settle-2.new.storage L.result refl
    (look_on s c.try_repair.new.storage L.new.storage R.keeps.same.geo a.job a.value.now L.result L.ensures)
    c.settle-2.ensures
