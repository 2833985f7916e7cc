-- A Present item written at the free spot of the PartialOpen page: the bytes were blank, and the page has one entry more.
use Rattle.std.specs.Prelude.{◌≡◌, refl, ℕ, zero, suc, ◌+◌, ◌≤◌, ◌<◌, true, List, [], ◌∷◌, ◌++◌, replicate}
use Rattle.std.proofs.Common.{sym, arith}
use Rattle.std.proofs.Math.Path.{subst}
use Rattle.std.proofs.Math.ListN.{length}
use Rattle.rules.specs.declared.{Geo.Geo}
use Rattle.rules.specs.Bytes.{Bytes, program, all_ff}
use Rattle.rules.specs.Items.{Item, is_present, item, read, size}
use Rattle.rules.specs.Pages.{items_of, scan_of, end_at, blank_at, data_at}
use Rattle.rules.specs.Sound.{BlankTail, Ring}
use Rattle.laws.specs.Geometry.{Fit}
use Rattle.laws.specs.Tails.{tail_of, tail_blank, tail_length}
use Rattle.laws.specs.Piece.{item_piece}
use Rattle.laws.specs.Moves.{Written, written}

pub all_ff-replicate : (m : ℕ) → all_ff (replicate m 255) ≡ true
all_ff-replicate zero = refl
all_ff-replicate (suc m) = all_ff-replicate m

module _ (G : Geo) (img : List ℕ) (ok : Fit G img) (p : ℕ) where
  -- the bytes after the scan's end are blank
  pub blank-spot : p < G.pages → BlankTail G img p → (m : ℕ) → (scan_of G img p).end + m ≤ end_at G p → blank_at img (scan_of G img p).end m ≡ true
  blank-spot hp t m h = rw (tail_blank G img ok p hp (tail_of G img ok p hp t) m h) (all_ff-replicate m)

  pub record Placed (os cs new : List ℕ) (i : Item) (img' : List ℕ) : Type 0 where
    pub all : Written G img p os cs (record { at = (scan_of G img p).end; it = i } ∷ []) (length new) img'
    pub items_is : items_of G img' p ≡ items_of G img p ++ (record { at = (scan_of G img p).end; it = i } ∷ [])
    pub blank_is : blank_at img (scan_of G img p).end (length new) ≡ true

  pub placed : (os cs : List ℕ) → Ring G img p os cs → (new : List ℕ) (i : Item) → Bytes new → size G.word i.len ≡ length new
      → is_present i.kind ≡ true → ((rest : List ℕ) → read G.word (new ++ rest) ≡ item i) → (scan_of G img p).end + length new ≤ end_at G p
      → Placed os cs new i (program img (scan_of G img p).end new)
  unfolding item_piece
  placed os cs S new i b sz pr reads fits =
      let hp = S.in_ring in
      let T = tail_of G img ok p hp S.tail in
      let l = tail_length G img ok p hp T in
      let en = T.end_is in
      let P = item_piece G.word T.left (data_at G p + length T.used) new i (omega (arith, ok.held.low)) b sz (omega (arith, ok.held.room)) reads in
      let W : Written G img p os cs (record { at = (scan_of G img p).end; it = i } ∷ []) (length new) (program img (scan_of G img p).end new) =
      subst (λ a. Written G img p os cs (record { at = a; it = i } ∷ []) (length new) (program img (scan_of G img p).end new)) (sym en)
      (written G img p os cs new (record { at = data_at G p + length T.used; it = i } ∷ []) ok S T P fits) in
      record { all = W; items_is = rw pr at W.items_is; blank_is = blank-spot hp S.tail (length new) fits }
