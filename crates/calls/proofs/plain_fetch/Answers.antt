use mathlib.Core.Path.{refl, sym, ap, ◌∙◌}
use Rattle.laws.specs.Plain.{newest-plain}
use Rattle.rules.specs.Fetch.{plain_fetch, newest}
use Rattle.calls.specs.Code.{told_answer}
use Rattle.calls.proofs.Laws.{answer_is}
use Rattle.calls.proofs.plain_fetch.Goals as goal

pub returns-then-any_corrupted : goal.returns-then-any_corrupted
unfolding plain_fetch
returns-then-any_corrupted c = rw (sym c.any_corrupted.ensures ∙ c.if-any_corrupted.true) refl

pub returns : goal.returns
unfolding plain_fetch
returns c =
    let p = c.args.pages.now in
    rw (sym c.any_corrupted.ensures ∙ c.if-any_corrupted.false)
    (c.answer_of.ensures ∙ ap told_answer c.newest.ensures.is
    ∙ answer_is (newest p.geo p.img.now c.args.key) (newest-plain p.geo p.img.now c.args.key))
