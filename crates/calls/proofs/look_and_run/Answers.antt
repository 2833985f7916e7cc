-- A corrupted page, or the run.
use mathlib.Core.Path.{sym, ◌∙◌}
use Rattle.mend.proofs.Auto.{looked_bad, looked_run}
use Rattle.calls.specs.Code.{run_of}
use Rattle.calls.proofs.look_and_run.Goals as goal

pub returns-then-any_corrupted : goal.returns-then-any_corrupted
returns-then-any_corrupted c =
    let a = c.args in
    let s = a.storage.now in
    let g = c.pages.ensures in
    let t = sym c.any_corrupted.ensures ∙ c.if-any_corrupted.true in
    looked_bad s.flash.now.geo.pages (run_of s.flash.now.geo a.job a.value.now) s (rw g.1 at (rw g.0 at t))

pub returns : goal.returns
returns c =
    let a = c.args in
    let s = a.storage.now in
    let g = c.pages.ensures in
    let t = sym c.any_corrupted.ensures ∙ c.if-any_corrupted.false in
    looked_run s.flash.now.geo.pages (run_of s.flash.now.geo a.job a.value.now) s c.run.new.storage c.run.result
    (rw g.1 at (rw g.0 at t)) c.run.ensures
