-- What every inner function of the code asks of a geometry and the length of the image.
use Rattle.std.specs.Prelude.{◌≡◌, ℕ, ◌+◌, ◌*◌, ◌%◌, ◌≤◌}
use Rattle.rules.specs.declared.Geo.{Geo}

pub record Held (G : Geo) (len : ℕ) : Type 0 where
  pub low : 4 ≤ G.word
  pub high : G.word ≤ 8
  pub four : G.word % 4 ≡ 0
  pub room : 3 * G.word + 8 ≤ G.page
  pub most : G.page ≤ 32768
  pub words : G.page % G.word ≡ 0
  pub two : 2 ≤ G.pages
  pub few : G.pages ≤ 256
  pub whole : len ≡ G.pages * G.page
