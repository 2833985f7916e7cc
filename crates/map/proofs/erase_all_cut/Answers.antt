-- It is refused and takes no power, or it runs while the power lasts.
use Rattle.rules.specs.Remove.{erase_all}
use Rattle.rules.specs.Calls.{called, steps_of}
use mathlib.Core.Path.{ap}
use borrow.Author.Rules.{rules}
use Rattle.map.proofs.Laws.{refused-cut, ran_cut}
use Rattle.map.proofs.erase_all_cut.Goals as goal

pub returns-in-Err : goal.returns-in-Err
unfolding called steps_of
returns-in-Err c =
    let a = c.args in
    let no = c.in-Err.ensures.is in
    refused-cut a.page a.size 0 a.img.now c.in-Err.no no.0 no.1 (λ G s. erase_all G s) a.cache a.power.now

pub returns : goal.returns
unfolding called steps_of
returns c =
    let a = c.args in
    let ok = c.in-Ok.ensures.is in
    let F = c.erase_all-answer in
    ran_cut a.page a.size 0 a.img.now ok.0 c.in-Ok.geo ok.1 (λ G s. erase_all G s) c.in-Ok.ensures.fits.0 a.cache
    a.power.now F.new.storage F.result F.ensures.run.is (ap (λ x. x.count) F.ensures.run.keeps.slots) F.ensures.run.keeps.past _ _ (search rules) (search rules)
