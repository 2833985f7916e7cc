-- The bytes from the page's base on are those of the page.
use mathlib.Core.Path.{refl}
use Rattle.ring.proofs.Laws.{blanked_by}
use Rattle.ring.proofs.flash.Flash.erase_page.Goals as goal

pub returns : goal.returns
returns c =
    let base = rw c.pages.ensures.1 at c.base-at.ensures.0 in
    record {
      same = record { image = refl; geo = refl };
      blanked = blanked_by _ _ _ _ _ c.args.p _ base c.erase.ensures.0 c.erase.ensures.1;
    }
