-- The run of each kind.
use Rattle.calls.proofs.Laws.{as_job}
use Rattle.calls.specs.declared.{Job.TheVariants.Fetch, Job.TheVariants.Store, Job.TheVariants.Remove}
use Rattle.calls.specs.declared.{Job.TheVariants.Start}
use native.Mathlib.Omega.{arith}
use Rattle.calls.proofs.run.Goals as goal

pub returns-in-Fetch : goal.returns-in-Fetch
returns-in-Fetch c =
    let a = c.args in
    as_job 0 (Fetch c.in-Fetch.key) a.job a.value.now a.storage.now c.run_fetch.new.storage c.run_fetch.result
    c.in-Fetch.is (omega arith) c.run_fetch.ensures

pub returns-in-Store : goal.returns-in-Store
returns-in-Store c =
    let a = c.args in
    as_job _ (Store c.in-Store.key) a.job a.value.now a.storage.now c.turns.new.storage c.turns.result c.in-Store.is
    (omega arith) c.turns.ensures

pub returns-in-Remove : goal.returns-in-Remove
returns-in-Remove c =
    let a = c.args in
    as_job 0 (Remove c.in-Remove.which) a.job a.value.now a.storage.now c.run_remove.new.storage c.run_remove.result
    c.in-Remove.is (omega arith) c.run_remove.ensures

pub returns-in-Start : goal.returns-in-Start
returns-in-Start c =
    let a = c.args in
    as_job 0 Start a.job a.value.now a.storage.now a.storage.now c.run_start.result c.in-Start.is (omega arith)
    c.run_start.ensures
