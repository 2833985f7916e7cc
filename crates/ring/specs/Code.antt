-- What loops around the ring run through.
use Rattle.std.specs.Prelude.{ℕ, zero, suc, List, [], ◌∷◌}
use Rattle.rules.specs.declared.{Geo.Geo}
use Rattle.rules.specs.Pages.{next, prev}

-- m pages from q downwards
unfoldable pub downs : Geo → ℕ → ℕ → List ℕ
downs G zero q = []
downs G (suc m) q = q ∷ downs G m (prev G q)

-- m pages from q upwards
unfoldable pub ups : Geo → ℕ → ℕ → List ℕ
ups G zero q = []
ups G (suc m) q = q ∷ ups G m (next G q)
