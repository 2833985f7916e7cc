-- It is refused, or it steps.
use mathlib.Core.Path.{ap, sym, ◌∙◌}
use mathlib.Core.List.{[]}
use Rattle.rules.specs.Runs.{out, end}
use Rattle.rules.specs.Walk.{walk_step}
use Rattle.rules.specs.Calls.{step_answer, step_cursor, called}
use Rattle.map.specs.Code.{stepped_by}
use Rattle.map.proofs.Laws.{refused, read_only, step_answer_lem, step_cursor_lem}
use Rattle.map.proofs.next_item.Goals as goal

pub returns-in-Ok : goal.returns-in-Ok
unfolding called
returns-in-Ok c =
    let a = c.args in
    let ok = c.in-Ok.ensures.is in
    let r = c.hand_step in
    let w = walk_step c.in-Ok.geo a.img.now a.cursor in
    let told = r.ensures ∙ ap (stepped_by a.cursor) c.walk_step.ensures in
    record {
      is = λ m e. read_only a.page a.img.now ok.0 c.in-Ok.geo ok.1
          (λ G s. out (step_answer (walk_step G s.img a.cursor)) s)
          (λ G o. step_cursor a.cursor (walk_step G a.img.now a.cursor)) a.cursor r.result.answer r.result.cursor e
          (ap (λ x. end x (record { img = a.img.now; cache = []; erased = 0 }))
          (sym (ap (λ x. x.answer) told ∙ step_answer_lem a.cursor w)))
          (sym (ap (λ x. x.cursor) told ∙ step_cursor_lem a.cursor w));
    }

pub returns-in-Err : goal.returns-in-Err
unfolding called
returns-in-Err c =
    let a = c.args in
    let no = c.in-Err.ensures.is in
    record {
      is = λ m e. refused a.page 0 0 a.img.now c.in-Err.no no.0 no.1
          (λ G s. out (step_answer (walk_step G s.img a.cursor)) s)
          (λ G o. step_cursor a.cursor (walk_step G a.img.now a.cursor)) a.cursor e;
    }
