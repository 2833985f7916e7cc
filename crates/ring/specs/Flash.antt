-- What a change of the flash leaves.
use Rattle.std.specs.Prelude.{◌≡◌, ℕ, List}
use Rattle.rules.specs.Runs.{Out}
use Rattle.laws.specs.Power.{Wrote, Blanked}
use Rattle.laws.specs.Through.{Through}
use Rattle.ring.specs.declared.flash.Flash.{Flash}

-- the image lent is the same one, and so is its geometry
pub record IsSame (old new : Flash) : Type 0 where
  pub image : new.img.ghost_name ≡ old.img.ghost_name
  pub geo : new.geo ≡ old.geo

-- bytes are programmed at a place, while the power lasts
pub record Programmed (old new : Flash) (at : ℕ) (b : List ℕ) : Type 0 where
  pub same : IsSame old new
  pub wrote : Wrote old.img.now old.power new.img.now new.power at b

-- page p is erased, if there is a unit of power
pub record Erased (old new : Flash) (p : ℕ) : Type 0 where
  pub same : IsSame old new
  pub blanked : Blanked old.geo old.img.now old.power new.img.now new.power p

-- of the run o, which begins with the old flash, o' is left with the new one
abbrev pub Ran : Flash → Flash → Out → Out → Type 0
Ran old new o o' = Through old.geo o old.img.now old.power new.img.now new.power o'
