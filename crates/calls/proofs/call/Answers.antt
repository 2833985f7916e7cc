-- What the cache found, or the run.
use mathlib.Core.Path.{ap, sym}
use Rattle.rules.specs.Runs.{out}
use Rattle.fetch.specs.Code.{st_of}
use Rattle.fetch.proofs.Runs.{came_to}
use Rattle.calls.proofs.Laws.{call_runs, call_served}
use Rattle.calls.proofs.call.Goals as goal

pub returns-in-Some-clause-run : goal.returns-in-Some-clause-run
returns-in-Some-clause-run c =
    let a = c.args in
    let s = a.storage.now in
    let q = rw c.in-Some.is at c.served_by.ensures.0 in
    came_to (call_served _ a.job a.value.now s c.in-Some.spot q) (ap (λ x. out x (st_of s)) (sym c.value_of.ensures))

pub returns-in-None-clause-run : goal.returns-in-None-clause-run
returns-in-None-clause-run c =
    let a = c.args in
    let q = rw c.in-None.is at c.served_by.ensures.0 in
    call_runs _ a.job a.value.now a.storage.now q c.auto_repair.new.storage c.auto_repair.result c.auto_repair.ensures
