-- By what the cache has for the key: nothing, a place that holds no such item, or the item.
use mathlib.Core.Path.{refl, sym, ap, ◌∙◌}
use Rattle.items.specs.Code.{told}
use Rattle.rules.specs.Fetch.{Got}
use Rattle.fetch.specs.Code.{read_on}
use Rattle.fetch.proofs.Laws.{fetch-none, fetch-miss, fetch-hit}
use Rattle.fetch.proofs.fetch_at.Goals as goal

pub returns-in_default-clause-found : goal.returns-in_default-clause-found
returns-in_default-clause-found c = λ n.
    let a = c.args in
    let r = rw c.in_default.is at c.requires in
    rw (fetch-none a.pages.now.geo a.key (read_on a.pages.now a.slots a.cache.now n) r) (c.full_fetch.ensures.found n)

pub returns-in_default-clause-state : goal.returns-in_default-clause-state
returns-in_default-clause-state c = λ n.
    let a = c.args in
    let r = rw c.in_default.is at c.requires in
    rw (fetch-none a.pages.now.geo a.key (read_on a.pages.now a.slots a.cache.now n) r) (c.full_fetch.ensures.state n)

pub returns-in_default-hit-clause-found : goal.returns-in_default-hit-clause-found
returns-in_default-hit-clause-found c = λ n.
    let a = c.args in
    let r = rw c.in-Some.is at c.requires in
    c.full_fetch-in_default-hit.ensures.found n
    ∙ ap (λ (x : Got). told x.res) (fetch-miss a.pages.now.geo a.key (read_on a.pages.now a.slots a.cache.now n)
    c.in-Some.place r.0 r.1 _ _ refl (ap (λ p. record { img = a.pages.now.img.now; cache = p; erased = n }) c.empty.ensures.0)
    c.in_default-hit.ensures.0)

pub returns-in_default-hit-clause-state : goal.returns-in_default-hit-clause-state
returns-in_default-hit-clause-state c = λ n.
    let a = c.args in
    let r = rw c.in-Some.is at c.requires in
    c.full_fetch-in_default-hit.ensures.state n
    ∙ ap (λ (x : Got). x.st) (fetch-miss a.pages.now.geo a.key (read_on a.pages.now a.slots a.cache.now n)
    c.in-Some.place r.0 r.1 _ _ refl (ap (λ p. record { img = a.pages.now.img.now; cache = p; erased = n }) c.empty.ensures.0)
    c.in_default-hit.ensures.0)

pub returns-clause-found : goal.returns-clause-found
returns-clause-found c = λ n.
    let a = c.args in
    let r = rw c.in-Some.is at c.requires in
    sym (fetch-hit a.pages.now.geo a.key (read_on a.pages.now a.slots a.cache.now n) c.in-Some.place r.0 r.1 _
    c.in-Some-hit.ensures.0).0

pub returns-clause-state : goal.returns-clause-state
returns-clause-state c = λ n.
    let a = c.args in
    let r = rw c.in-Some.is at c.requires in
    sym (fetch-hit a.pages.now.geo a.key (read_on a.pages.now a.slots a.cache.now n) c.in-Some.place r.0 r.1 _
    c.in-Some-hit.ensures.0).1
