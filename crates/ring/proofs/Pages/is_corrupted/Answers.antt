use mathlib.Core.Path.{refl, ap, sym, ◌∙◌}
use Rattle.rules.specs.declared.{PageState.TheVariants.Corrupted}
use Rattle.rules.specs.Pages.{same, marked, start_word}
use Rattle.ring.proofs.Laws.{state_by, corrupted_by, open_end}
use Rattle.ring.proofs.Pages.is_corrupted.Goals as goal

pub returns-then-marked : goal.returns-then-marked
returns-then-marked c =
    let s = c.args.self.now in
    corrupted_by c.marked-then-marked.result
    ∙ ap (same Corrupted) (state_by s.geo s.img.now c.args.p _ _ _ _ c.base.ensures.0 c.end_at.ensures.0
    c.marked-then-marked.ensures (sym c.if-marked.true ∙ c.marked.ensures))

pub returns-else-marked : goal.returns-else-marked
returns-else-marked c =
    let s = c.args.self.now in
    let start = marked s.geo (start_word s.geo s.img.now c.args.p) in
    c.if-marked.false ∙ open_end start
    ∙ ap (same Corrupted) (state_by s.geo s.img.now c.args.p _ _ start _ refl c.end_at.ensures.0 refl
    (sym c.if-marked.false ∙ c.marked.ensures))
