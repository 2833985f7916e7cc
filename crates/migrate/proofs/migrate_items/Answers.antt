-- The run over the items, and where it is done the erase that the definition goes on with.
use lib.ListN.{length}
use Rattle.migrate.proofs.Laws.{areas, migrate-ok, migrate_bad}
use Rattle.migrate.proofs.migrate_items.Goals as goal

pub migrate_all-requires : goal.migrate_all-requires
migrate_all-requires c =
    let s = c.args.storage.now in
    let g = c.pages-pages.ensures.1 in
    let r = c.requires in
    rw (rw g at c.data_at-a.ensures.0, rw g at c.end_at-e.ensures.0, rw g at c.data_at-to.ensures.0)
    (areas s.flash.now.geo (length s.flash.now.img.now) s.flash.now.held c.args.source c.args.target r.0 r.1 r.2)

pub returns-in_err-migrate_all : goal.returns-in_err-migrate_all
returns-in_err-migrate_all c =
    let s = c.args.storage.now in
    let g = c.pages-pages.ensures.1 in
    migrate_bad c.args.source c.args.target _ _ _ s c.migrate_all.new.storage (rw g at c.data_at-a.ensures.0)
    (rw g at c.end_at-e.ensures.0) (rw g at c.data_at-to.ensures.0) _ c.in_err-migrate_all.ensures _
    c.from_residual.ensures.0

pub returns : goal.returns
returns c =
    let s = c.args.storage.now in
    let g = c.pages-pages.ensures.1 in
    migrate-ok c.args.source c.args.target _ _ _ s c.migrate_all.new.storage (rw g at c.data_at-a.ensures.0)
    (rw g at c.end_at-e.ensures.0) (rw g at c.data_at-to.ensures.0) _ c.in_ok-migrate_all.ensures c.erase_page.new.self
    c.erase_page.ensures
