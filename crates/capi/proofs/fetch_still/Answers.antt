-- `capi::fetch_still` meets its contract: without a cache the plain fetch answers.
use mathlib.Core.Path.{◌≡◌, sym, ◌∙◌}
use Rattle.std.proofs.Common.{rules}
use Rattle.std.proofs.lemmas.Bool.{eqb-false}
use Rattle.rules.specs.Answers.{number, is_no}
use Rattle.capi.proofs.Still.{still_plain}
use Rattle.capi.proofs.fetch_still.Goals as goal

pub returns-else-eq : goal.returns-else-eq
returns-else-eq c =
    let a = c.args in
    let r = c.fetch_plain-a in
    let f : c.eq.result ≡ is_no 8 r.result = search rules in
    rw c.if-size-eq0.true (still_plain a.page a.key a.img.now a.words.now r.result r.ensures
    (eqb-false (number r.result) 8 (sym f ∙ c.if-eq.false)))
