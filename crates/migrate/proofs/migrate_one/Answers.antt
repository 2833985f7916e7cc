use native.Mathlib.Omega.{arith}
use mathlib.Core.Path.{refl, ap, sym, ◌∙◌}
use Rattle.std.specs.Prelude.{Ok}
use Rattle.laws.specs.Reading.{le_size}
use Rattle.items.proofs.Laws.{long_part}
use Rattle.migrate.proofs.Laws.{not_present, not_found, elsewhere, here, near, own_hit}
use Rattle.migrate.proofs.migrate_one.Goals as goal

pub present-requires : goal.present-requires
present-requires c =
    let s = c.args.storage.now in
    let z = le_size s.flash.now.geo.word c.args.len (omega (arith, s.flash.now.held.low)) in
    let l = long_part s.flash.now.img.now c.args.at c.args.e (omega arith) in
    rw c.pages.ensures.0 (omega arith, omega arith)

pub returns-then-not-present : goal.returns-then-not-present
returns-then-not-present c =
    let p = rw c.pages.ensures.0 at c.present.ensures.0 in
    not_present c.args.at c.args.e c.args.len c.args.to c.args.storage.now (sym c.if-not-present.true ∙ p)

pub key-key-requires : goal.key-key-requires
key-key-requires c =
    let s = c.args.storage.now in
    let z = le_size s.flash.now.geo.word c.args.len (omega (arith, s.flash.now.held.low)) in
    let l = long_part s.flash.now.img.now c.args.at c.args.e (omega arith) in
    let k = rw c.if-not-present.false at c.present.ensures.1 in
    rw c.pages.ensures.0 (omega arith, k)

pub fetch_own-requires : goal.fetch_own-requires
fetch_own-requires c =
    let a = c.args in
    let s = a.storage.now in
    let r = c.requires in
    let p = rw c.pages.ensures.0 at c.present.ensures.0 in
    let k = rw c.pages.ensures.0 at c.key-key.ensures in
    own_hit s.flash.now.geo s.flash.now.img.now s.flash.now.held a.at a.e a.len r.1 (omega arith) r.2 c.key-key.result k
    (sym c.if-not-present.false ∙ p)

pub returns-in_err-newest : goal.returns-in_err-newest
returns-in_err-newest c =
    let a = c.args in
    let p = rw c.pages.ensures.0 at c.present.ensures.0 in
    let k = rw c.pages.ensures.0 at c.key-key.ensures in
    let f = c.fetch_own.ensures in
    not_found a.at a.e a.len a.to a.storage.now c.key-key.result c.fetch_own.new.self (sym c.if-not-present.false ∙ p) k
    c.fetch_own.result f.found f.state f.kept c.from_residual.result c.from_residual.ensures.0
    (λ s q. let z = sym c.in_err-newest.was ∙ q in cc)

pub returns-in_default : goal.returns-in_default
returns-in_default c =
    let a = c.args in
    let p = rw c.pages.ensures.0 at c.present.ensures.0 in
    let k = rw c.pages.ensures.0 at c.key-key.ensures in
    let f = c.fetch_own.ensures in
    not_found a.at a.e a.len a.to a.storage.now c.key-key.result c.fetch_own.new.self (sym c.if-not-present.false ∙ p) k
    c.fetch_own.result f.found f.state f.kept _ refl
    (λ s q. let z = sym (c.in_ok-newest.was ∙ ap Ok c.in_default.is) ∙ q in cc)

pub returns-then-newest-at : goal.returns-then-newest-at
returns-then-newest-at c =
    let a = c.args in
    let p = rw c.pages.ensures.0 at c.present.ensures.0 in
    let k = rw c.pages.ensures.0 at c.key-key.ensures in
    let f = c.fetch_own.ensures in
    elsewhere a.at a.e a.len a.to a.storage.now c.key-key.result c.fetch_own.new.self (sym c.if-not-present.false ∙ p) k
    c.fetch_own.result f.found f.state f.kept c.in-Some.newest (c.in_ok-newest.was ∙ ap Ok c.in-Some.is) c.if-newest-at.true

pub copy_one-requires : goal.copy_one-requires
copy_one-requires c =
    let a = c.args in
    let r = c.requires in
    let w = a.storage.now.flash.now.geo.word in
    let K = c.fetch_own.ensures.kept in
    rw (K.image, K.keeps.same.geo)
    (omega arith, omega arith, r.5, near a.at a.e a.len a.to w (omega (arith, a.storage.now.flash.now.held.low)) r.3 r.6)

pub returns : goal.returns
returns c =
    let a = c.args in
    let p = rw c.pages.ensures.0 at c.present.ensures.0 in
    let k = rw c.pages.ensures.0 at c.key-key.ensures in
    let f = c.fetch_own.ensures in
    here a.at a.e a.len a.to a.storage.now c.key-key.result c.fetch_own.new.self (sym c.if-not-present.false ∙ p) k
    c.fetch_own.result f.found f.state f.kept c.in-Some.newest (c.in_ok-newest.was ∙ ap Ok c.in-Some.is) c.if-newest-at.false
    _ f.kept.keeps.same.geo c.copy_one.new.storage c.copy_one.result c.copy_one.ensures
