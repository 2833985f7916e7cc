use Rattle.std.proofs.Common.{◌≡◌, ◌∙◌, sym, inl, inr, ⊎_elim, rules, arith}
use Rattle.lists.specs.Says.{digest_entries}
use Rattle.lists.proofs.Laws.{entries_start, entries_end}
use Rattle.lists.proofs.digest.of_cache.Goals as goal

pub loop-key-init : goal.loop-key-init
loop-key-init c =
    let e : c.into_iter-key-iterator.result.a.rest.now ≡ c.args.cache.keys = search rules in
    let f : c.into_iter-key-iterator.result.b.rest.now ≡ c.args.cache.places = search rules in
    record { small = omega arith; rest = rw (e, f) (entries_start 1 c.args.cache (search rules)) }

pub loop-key-preserved : goal.loop-key-preserved
unfolding digest_entries
loop-key-preserved c =
    let s = c.in-Some.ensures.steps in
    record {
      small = c.mix-h.ensures.1;
      rest = rw (c.mix-h.ensures.0, c.mix.ensures.0) (rw (s.0, s.1) at c.loop-key.invariant.rest);
    }

pub returns : goal.returns
returns c =
    let i = c.loop-key.key-iterator in
    sym (entries_end c.loop-key.h i.a.rest.now i.b.rest.now
    (⊎_elim (λ e. inl e.1.0) (λ e. inr e.1.0) c.in-None.ensures.steps))
    ∙ c.loop-key.invariant.rest
