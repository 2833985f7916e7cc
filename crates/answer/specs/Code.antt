-- What an answer shows: its values as a kind, a place, a length and a key.
use Rattle.std.specs.Prelude.{◌≡◌, ℕ, ◌<◌, List, [], ◌∷◌, Result, MatchResult}
use Rattle.rules.specs.declared.{Geo.Geo, Answer.Answer, Answer.TheVariants.Done}
use Rattle.rules.specs.Answers.{paper, number, refusal}
use Rattle.rules.specs.Calls.{geo_of}
use Rattle.answer.specs.declared.Shown.{Shown}

-- no values, place and length of a value, or key, place and length of an item
abbrev pub shown_by : List ℕ → Shown
shown_by (k ∷ p ∷ l ∷ vs) = record { kind = 1; place = p; len = l; key = k }
shown_by (p ∷ l ∷ []) = record { kind = 1; place = p; len = l; key = 0 }
shown_by (p ∷ []) = record { kind = 0; place = 0; len = 0; key = 0 }
shown_by [] = record { kind = 0; place = 0; len = 0; key = 0 }

abbrev pub shown_of : Answer → Shown
shown_of a = shown_by (paper a).values

-- what the sizes give: their geometry where no refusal is due, else the first that is
abbrev pub GeometryOk : ℕ → ℕ → ℕ → ℕ → ℕ → Result Geo Answer → Type 0
GeometryOk w E len m v r =
    MatchResult r
    (λ g. (refusal w E len m v ≡ Done) × (g ≡ geo_of w E len))
    (λ no. (no ≡ refusal w E len m v) × (0 < number no))
