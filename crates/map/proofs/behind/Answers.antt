-- It is refused, or it runs.
use Rattle.calls.specs.Code.{call_of}
use lib.ListN.{length}
use mathlib.Core.Path.{ap}
use borrow.Author.Rules.{rules}
use Rattle.map.proofs.Laws.{refused-cut, ran_cut}
use Rattle.map.proofs.behind.Goals as goal

pub returns-in-Err : goal.returns-in-Err
returns-in-Err c =
    let a = c.args in
    let no = c.in-Err.ensures.is in
    refused-cut a.page a.size (length a.value.now) a.img.now c.in-Err.no no.0 no.1
    (λ G s. call_of G a.job a.value.now s) a.cache a.power.now

pub returns : goal.returns
returns c =
    let a = c.args in
    let ok = c.in-Ok.ensures.is in
    let F = c.call-answer in
    ran_cut a.page a.size (length a.value.now) a.img.now ok.0 c.in-Ok.geo ok.1 (λ G s. call_of G a.job a.value.now s)
    c.in-Ok.ensures.fits.0 a.cache a.power.now F.new.storage F.result F.ensures.run.is (ap (λ x. x.count) F.ensures.run.keeps.slots) F.ensures.run.keeps.past _ _ (search rules) (search rules)
