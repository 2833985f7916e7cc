-- A tally counts each byte of the data area once: an item is of one kind.
use Rattle.std.specs.Prelude.{◌≡◌, ◌⊎◌, ℕ, ◌+◌, ◌-◌, ◌*◌, ◌<◌, List, [], ◌∷◌, drop}
use Rattle.std.proofs.Common.{arith, lt-ltb}
use Rattle.std.proofs.Math.ListN.{length, length-drop}
use Rattle.std.proofs.Math.Seq.{length-take-le}
use Rattle.rules.specs.declared.{Geo.Geo, Kind.Kind, Kind.TheVariants.Present, Kind.TheVariants.Removed, Kind.TheVariants.Damaged, Answer.TheVariants.Done}
use Rattle.rules.specs.Held.{Held}
use Rattle.rules.specs.Items.{Entry, size}
use Rattle.rules.specs.Pages.{area, area_len, data_at, end_at, state, scan_of}
use Rattle.rules.specs.Answers.{refusal}
use Rattle.rules.specs.Calls.{geo_of}
use Rattle.laws.specs.Geometry.{page_in, accepted, held_of}
use Rattle.laws.specs.Entries.{spans, scan-ok}
use Rattle.inspect.specs.declared.{Tally.Tally}
use Rattle.inspect.specs.Tallies.{of_kind, taken, tally_by, tally_of}

pub kinds : (k : Kind) (n : ℕ) → of_kind Present k n + of_kind Removed k n + of_kind Damaged k n ≡ n
kinds Present n = omega arith
kinds Removed n = omega arith
kinds Damaged n = omega arith

pub kinds_all : (w : ℕ) (xs : List Entry) → taken w Present xs + taken w Removed xs + taken w Damaged xs ≡ spans w xs
kinds_all w [] = omega arith
kinds_all w (x ∷ xs) = omega (arith, kinds x.it.kind (size w x.it.len), kinds_all w xs)

-- all bytes that a tally counts
abbrev pub total : Tally → ℕ
total t = t.present + t.removed + t.damaged + t.free

module _ (G : Geo) (img : List ℕ) (H : Held G (length img)) (p : ℕ) (hp : p < G.pages) where
  page-total : total (tally_by G.word (state G img p) (data_at G p) (end_at G p) (scan_of G img p)) ≡ area_len G
  unfolding tally_by scan_of
  page-total =
      let r = scan_of G img p in
      let l : length (area G img p) ≡ area_len G = length-take-le (area_len G) (drop (data_at G p) img) (rw length-drop (omega (arith, H.whole, H.room, page_in G.page p G.pages hp))) in
      let k = scan-ok G.word (omega (arith, H.low)) H.high (area_len G) (data_at G p) (area G img p) in
      omega (arith, kinds_all G.word r.items, k.sum, k.within, H.room)

-- where the sizes are accepted and there is a page p, all of its data area
pub all_counted : (w E : ℕ) (img : List ℕ) (p : ℕ) → (w ≡ 4) ⊎ (w ≡ 8) → refusal w E (length img) 0 0 ≡ Done → p < (geo_of w E (length img)).pages
    → total (tally_of w E img p) ≡ E - 2 * w
unfolding tally_of
all_counted w E img p hw e hp =
    rw (e, lt-ltb p (geo_of w E (length img)).pages hp)
    (page-total (geo_of w E (length img)) img (held_of w E (length img) 0 0 hw (accepted w E (length img) 0 0 e)) p hp)
