use Rattle.calls.proofs.Laws.{fetch_run}
use Rattle.calls.proofs.run_fetch.Goals as goal

pub returns : goal.returns
returns c =
    let s = c.args.storage.now in
    let f = c.fetch.ensures in
    fetch_run c.args.key s c.fetch.new.self c.fetch.result c.answer_of.result f.found f.state f.kept c.answer_of.ensures
