use Rattle.calls.proofs.Laws.{start_done, start_bad}
use Rattle.calls.proofs.run_start.Goals as goal

pub returns-in-Some : goal.returns-in-Some
returns-in-Some c =
    let g = c.pages.ensures in
    start_done c.args.storage.now _ (rw g.1 at (rw g.0 at c.in-Some.ensures))

pub returns-in-None : goal.returns-in-None
returns-in-None c =
    let g = c.pages.ensures in
    start_bad c.args.storage.now (rw g.1 at (rw g.0 at c.in-None.ensures))
