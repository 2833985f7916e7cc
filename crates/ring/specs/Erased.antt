-- What an erase of all pages leaves of an image.
use Rattle.std.specs.Prelude.{ℕ, ◌+◌, ◌-◌, List}
use Rattle.rules.specs.declared.{Geo.Geo, Answer.TheVariants.Done}
use Rattle.rules.specs.Cache.{Cache}
use Rattle.rules.specs.Pages.{up_from}
use Rattle.rules.specs.Remove.{erase_pages}
use Rattle.rules.specs.Runs.{St, Out, out}
use Rattle.laws.specs.Through.{Through}

-- the pages from q up are left to erase
abbrev pub erase_from : Geo → ℕ → St → Out
erase_from G q s = erase_pages G (up_from q (G.pages - q)) s

-- an image, with a cache and a count of erased pages beside it
abbrev pub st_beside : List ℕ → Cache → ℕ → St
st_beside l c n = record { img = l; cache = c; erased = n }

-- all pages are erased, each while the power lasts, whatever stands beside the image
abbrev pub ErasedAll : Geo → List ℕ → ℕ → List ℕ → ℕ → Type 0
ErasedAll G l p l' p' =
    (c : Cache) (n : ℕ) → Through G (erase_from G 0 (st_beside l c n)) l p l' p' (out Done (st_beside l' c (n + G.pages)))
