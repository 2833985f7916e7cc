-- What the bytes of a page's data area hold.
use Rattle.std.specs.Prelude.{ℕ, ◌+◌, ◌-◌, List, [], ◌∷◌, length}
use Rattle.rules.specs.declared.{PageState.PageState, PageState.TheVariants.Open, Kind.Kind, Kind.TheVariants.Present}
use Rattle.rules.specs.declared.{Kind.TheVariants.Removed, Kind.TheVariants.Damaged}
use Rattle.rules.specs.Bytes.{pick}
use Rattle.rules.specs.Items.{Entry, Scan, size}
use Rattle.rules.specs.Pages.{data_at, end_at, state, scan_of, is_page}
use Rattle.rules.specs.Answers.{is_no, refusal}
use Rattle.rules.specs.Calls.{geo_of}
use Rattle.laws.specs.Entries.{spans}
use Rattle.inspect.specs.declared.{Tally.Tally}

-- n where the two kinds are the same, else 0
abbrev pub of_kind : Kind → Kind → ℕ → ℕ
of_kind Present Present n = n
of_kind Present Removed n = 0
of_kind Present Damaged n = 0
of_kind Removed Present n = 0
of_kind Removed Removed n = n
of_kind Removed Damaged n = 0
of_kind Damaged Present n = 0
of_kind Damaged Removed n = 0
of_kind Damaged Damaged n = n

-- the bytes that the items of a kind take
abbrev pub taken : ℕ → Kind → List Entry → ℕ
taken w k [] = 0
taken w k (x ∷ xs) = of_kind k x.it.kind (size w x.it.len) + taken w k xs

-- a tally with n more bytes of a kind
abbrev pub more : Tally → Kind → ℕ → Tally
more t k n = record {
  state = t.state;
  present = t.present + of_kind Present k n;
  removed = t.removed + of_kind Removed k n;
  damaged = t.damaged + of_kind Damaged k n;
  free = t.free;
}

-- the tally of a data area from a up to e, by its scan; words that the scan skips count as damaged
unfoldable pub tally_by : ℕ → PageState → ℕ → ℕ → Scan → Tally
tally_by w s a e r = record {
  state = s;
  present = taken w Present r.items;
  removed = taken w Removed r.items;
  damaged = taken w Damaged r.items + (r.end - a - spans w r.items);
  free = e - r.end;
}

-- no bytes of a page in a state
abbrev pub empty : PageState → Tally
empty s = record { state = s; present = 0; removed = 0; damaged = 0; free = 0 }

abbrev pub no_tally : Tally
no_tally = empty Open

-- the tally of page p: words of w bytes, pages of E
unfoldable pub tally_of : ℕ → ℕ → List ℕ → ℕ → Tally
tally_of w E img p =
    let G = geo_of w E (length img) in
    let t = tally_by w (state G img p) (data_at G p) (end_at G p) (scan_of G img p) in
    pick (is_no 0 (refusal w E (length img) 0 0)) (pick (is_page G p) t no_tally) no_tally
