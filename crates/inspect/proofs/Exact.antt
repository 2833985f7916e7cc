-- The check is exact: an image of bytes has no fault if and only if it is sound.
use Rattle.std.specs.Prelude.{◌≡◌, refl, ◌⊎◌, ◌↔◌, ℕ, None, Some, Bool, true, false, List, eqb, length}
use Rattle.std.proofs.Common.{eqb-true}
use Rattle.rules.specs.declared.{Geo.Geo, Answer.TheVariants.Done}
use Rattle.rules.specs.Bytes.{Bytes, pick}
use Rattle.rules.specs.Answers.{number, refusal}
use Rattle.rules.specs.Calls.{geo_of}
use Rattle.rules.specs.Sound.{SoundImage}
use Rattle.laws.specs.Geometry.{Fit, accepted, held_of, zero_done}
use Rattle.inspect.specs.declared.Fault.TheVariants.{Refused}
use Rattle.inspect.specs.Faults.{page_fault, first_fault}
use Rattle.inspect.proofs.Checks.{fault_sound, sound_fault}

-- words of 4 bytes, as the code has them, or of 8
pub exact : (w E : ℕ) (img : List ℕ) → (w ≡ 4) ⊎ (w ≡ 8) → Bytes img → (first_fault w E img ≡ None) ↔ SoundImage w E img
unfolding first_fault
exact w E img hw b = (
  λ e. go (eqb (number (refusal w E (length img) 0 0)) 0) refl e,
  λ S. rw S.accepted (sound_fault G img (fit S.accepted) S.sound),
)
  where
    G : Geo
    G = geo_of w E (length img)

    fit : refusal w E (length img) 0 0 ≡ Done → Fit G img
    fit e = record { held = held_of w E (length img) 0 0 hw (accepted w E (length img) 0 0 e); bytes = b }

    go : (t : Bool) → eqb (number (refusal w E (length img) 0 0)) 0 ≡ t
        → pick t (page_fault G img) (Some (Refused (refusal w E (length img) 0 0))) ≡ None → SoundImage w E img
    go true q e =
        let a = zero_done w E (length img) 0 0 (eqb-true _ 0 q) in
        record { word = hw; accepted = a; bytes = b; sound = fault_sound G img (fit a) e }
    go false q e = cc
