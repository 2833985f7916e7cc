-- It is refused, or it reads.
use mathlib.Core.Path.{refl, ap, sym}
use mathlib.Core.List.{[]}
use Rattle.rules.specs.Runs.{out, end}
use Rattle.rules.specs.Fetch.{plain_fetch}
use Rattle.rules.specs.Calls.{no_cursor, called}
use Rattle.map.proofs.Laws.{refused, read_only}
use Rattle.map.proofs.fetch_plain.Goals as goal

pub returns-in-Ok : goal.returns-in-Ok
unfolding called
returns-in-Ok c =
    let a = c.args in
    let ok = c.in-Ok.ensures.is in
    let r = c.plain_fetch in
    record {
      is = λ m e. read_only a.page a.img.now ok.0 c.in-Ok.geo ok.1 (λ G s. out (plain_fetch G s.img a.key) s)
          (λ G o. no_cursor) no_cursor r.result no_cursor e
          (ap (λ x. end x (record { img = a.img.now; cache = []; erased = 0 })) (sym r.ensures)) refl;
    }

pub returns-in-Err : goal.returns-in-Err
unfolding called
returns-in-Err c =
    let a = c.args in
    let no = c.in-Err.ensures.is in
    record {
      is = λ m e. refused a.page 0 0 a.img.now c.in-Err.no no.0 no.1 (λ G s. out (plain_fetch G s.img a.key) s)
          (λ G o. no_cursor) no_cursor e;
    }
