-- A tally that is counted from a place on.
use mathlib.Core.Path.{◌≡◌}
use Prim.Native.Nat.{ℕ, ◌+◌, ◌-◌, ◌≤◌, ◌<◌}
use native.Mathlib.Omega.{arith}
use mathlib.Core.List.{List, []}
use lib.ListN.{length}
use Rattle.rules.specs.declared.{PageState.PageState, Kind.TheVariants.Present, Kind.TheVariants.Removed}
use Rattle.rules.specs.declared.{Kind.TheVariants.Damaged}
use Rattle.rules.specs.Items.{Scan, item_of, size, read}
use Rattle.laws.specs.Entries.{spans, scan-ok}
use Rattle.items.specs.declared.{Read.Read, Read.TheVariants.End, Read.TheVariants.Skip, Read.TheVariants.Item}
use Rattle.items.specs.Code.{part, read_of, scan_in}
use Rattle.items.proofs.Laws.{in_none, by_end, by_skip, by_item}
use Rattle.inspect.specs.declared.{Tally.Tally}
use Rattle.inspect.specs.Tallies.{taken, more, tally_by}
use Rattle.inspect.specs.Sums.{kinds, kinds_all}

-- a tally with n bytes after the scan's end
abbrev pub with_free : Tally → ℕ → Tally
with_free t n = record { state = t.state; present = t.present; removed = t.removed; damaged = t.damaged; free = n }

-- t counts the bytes from a up to at, and the scan from at on is the rest of the scan from a on
pub record Counted (w : ℕ) (img : List ℕ) (a e : ℕ) (s : PageState) (at : ℕ) (t : Tally) : Type 0 where
  pub low : a ≤ at
  pub high : at ≤ e
  pub state : t.state ≡ s
  pub present : t.present + taken w Present (scan_in w img at e).items ≡ taken w Present (scan_in w img a e).items
  pub removed : t.removed + taken w Removed (scan_in w img at e).items ≡ taken w Removed (scan_in w img a e).items
  pub end : (scan_in w img at e).end ≡ (scan_in w img a e).end
  pub sum : t.present + t.removed + t.damaged ≡ at - a

module _ (w : ℕ) (h₄ : 4 ≤ w) (h₈ : w ≤ 8) (img : List ℕ) (a e : ℕ) (he : e ≤ length img) (s : PageState) where
  hw : 0 < w
  hw = omega arith

  module _ (at : ℕ) (t : Tally) (C : Counted w img a e s at t) where
    ended : scan_in w img at e ≡ record { items = []; end = at }
        → with_free t (e - at) ≡ tally_by w s a e (scan_in w img a e)
    unfolding tally_by
    ended q =
        let x : Scan = scan_in w img a e in
        let kp = rw q at C.present in
        let kr = rw q at C.removed in
        let n : at ≡ x.end = rw q at C.end in
        let p : t.present ≡ taken w Present x.items = omega arith in
        let r : t.removed ≡ taken w Removed x.items = omega arith in
        let d : t.damaged ≡ taken w Damaged x.items + (x.end - a - spans w x.items) =
        omega (arith, kinds_all w x.items, (scan-ok w hw h₈ (e - a) a (part img a e)).sum, C.sum, C.low) in
        let f : e - at ≡ e - x.end = omega arith in
        rw (C.state, p, r, d, f)

    pub counted_none : e ≤ at → with_free t (e - at) ≡ tally_by w s a e (scan_in w img a e)
    counted_none h = ended (in_none w hw img e he at h)

    module _ (r : Read) (h : at < e) (q : read_of (part img at e) r ≡ read w (part img at e)) where
      pub counted_end : r ≡ End → with_free t (e - at) ≡ tally_by w s a e (scan_in w img a e)
      counted_end y = ended (by_end w hw img e he at r h q y)

      pub counted_skip : r ≡ Skip → at + w ≤ e → Counted w img a e s (at + w) (more t Damaged w)
      counted_skip y l =
          let x = by_skip w hw img e he at r h q y in
          let kp = rw x at C.present in
          let kr = rw x at C.removed in
          record {
            low = omega (arith, C.low);
            high = l;
            state = C.state;
            present = omega arith;
            removed = omega arith;
            end = rw x at C.end;
            sum = omega (arith, C.sum, C.low);
          }

      pub counted_item : (L : ℕ) → r ≡ Item L → at + size w L ≤ e
          → Counted w img a e s (at + size w L) (more t (item_of (part img at e) L).kind (size w L))
      counted_item L y l =
          let x = by_item w hw img e he at r h q L y in
          let kp = rw x at C.present in
          let kr = rw x at C.removed in
          record {
            low = omega (arith, C.low);
            high = l;
            state = C.state;
            present = omega arith;
            removed = omega arith;
            end = rw x at C.end;
            sum = omega (arith, C.sum, C.low, kinds (item_of (part img at e) L).kind (size w L));
          }
