-- What a call tells fits words of 32 bits: an image that is not refused has at most 8 MiB, and what is told lies in it.
use mathlib.Core.Path.{◌≡◌, refl, sym, subst}
use mathlib.Core.Logic.{inl}
use Prim.Native.Nat.{ℕ, ◌≤◌}
use mathlib.Core.List.{List, [], ◌∷◌}
use lib.ListN.{length}
use native.Mathlib.Omega.{arith}
use native.Mathlib.Nat.{mul-le-mul_left, mul-le-mul_right}
use Rattle.rules.specs.declared.{Answer.TheVariants.Done, Cursor.Cursor}
use Rattle.rules.specs.Answers.{paper}
use Rattle.rules.specs.Calls.{Call, Lent, Told, fetch_all_items, next_item, called}
use Rattle.answer.specs.Code.{shown_by}
use Rattle.theory.specs.Kept.{Lie}
use Rattle.theory.specs.Steps.{CursorIn}
use Rattle.promises.specs.Promise.{refusal_of}
use Rattle.promises.specs.Behind.{held, erased_in, answer_in, cursor_in}
use Rattle.capi.specs.Code.{Word, Fits, CursorFits}

module _ (E m : ℕ) (call : Call) (l : Lent) where
  small : refusal_of 4 E m call l ≡ Done → length l.image ≤ 8388608
  small e =
      let h = held 4 E m call l (inl refl) e in
      omega (arith, h.whole, mul-le-mul_right E h.few, mul-le-mul_left 256 h.most)

  shown : (vs : List ℕ) → Lie 8388608 vs → Word (shown_by vs).place × Word (shown_by vs).len
  shown [] h = (omega arith, omega arith)
  shown (a ∷ []) h = (omega arith, omega arith)
  shown (a ∷ n ∷ []) h = (omega arith, omega arith)
  shown (k ∷ a ∷ n ∷ vs) h = (omega arith, omega arith)

  -- the answer's numbers and the erase count
  pub told-fits : (t : Told) → t ≡ called 4 E m call l → Fits t.erased t.answer
  told-fits t q =
      let v = shown (paper (called 4 E m call l).answer).values (answer_in 4 E m call l (inl refl) 8388608 small) in
      let few = erased_in 4 E m call l 770 (λ e. omega (arith, (held 4 E m call l (inl refl) e).few)) in
      subst (λ (x : Told). Fits x.erased x.answer) (sym q) (omega arith, v.0, v.1)

  -- the cursor's, where those of the given cursor do
  cursor_small : (c : Cursor) → CursorIn 4294967295 c → CursorFits c
  cursor_small c h = (omega (arith, h.first), omega (arith, h.page), omega (arith, h.place))

-- a start's cursor, and a step's from a cursor that fits
pub start_fits : (E m : ℕ) (l : Lent) (t : Told) → t ≡ called 4 E m fetch_all_items l → CursorFits t.cursor
start_fits E m l t q =
    subst (λ (x : Told). CursorFits x.cursor) (sym q)
    (cursor_small E m fetch_all_items l _
    (cursor_in 4 E m fetch_all_items l (inl refl) 4294967295 (λ e. omega (arith, small E m fetch_all_items l e))
    (record { first = omega arith; page = omega arith; place = omega arith })))

pub step_fits : (E m : ℕ) (c : Cursor) (l : Lent) (t : Told) → t ≡ called 4 E m (next_item c) l → CursorFits c → CursorFits t.cursor
step_fits E m c l t q h =
    subst (λ (x : Told). CursorFits x.cursor) (sym q)
    (cursor_small E m (next_item c) l _
    (cursor_in 4 E m (next_item c) l (inl refl) 4294967295 (λ e. omega (arith, small E m (next_item c) l e))
    (record { first = omega (arith, h.0); page = omega (arith, h.1); place = omega (arith, h.2) })))
