-- A fetch that changes nothing: refused, served by the lent cache, or without a cache on an image that is not
-- corrupted.
use mathlib.Core.Path.{◌≡◌, refl, ap, sym, ◌∙◌}
use mathlib.Core.Logic.{◌≢◌}
use Prim.Native.Nat.{ℕ, ◌+◌, ◌-◌, ◌≤◌, ◌<◌}
use native.Mathlib.Omega.{arith}
use mathlib.Core.Bool.{Bool, true, false}
use mathlib.Core.List.{List, []}
use lib.ListN.{length, get_or, take, drop, length-drop, take-append-drop}
use lib.Seq.{length-take-le, take_all, take-take, get_or-take}
use borrow.Author.Tests.{ne_eqb, eq-eqb}
use Rattle.std.proofs.Common.{Option, Some, Result, Ok, Err}
use Rattle.rules.specs.declared.{Geo.Geo, Answer.Answer, Answer.TheVariants.Done, Answer.TheVariants.Value}
use Rattle.rules.specs.declared.{Answer.TheVariants.Corrupted}
use Rattle.rules.specs.Bytes.{pick}
use Rattle.rules.specs.Cache.{Cache as Entries, lookup, note}
use Rattle.rules.specs.Answers.{number, is_no, refusal}
use Rattle.rules.specs.Runs.{St, out, on}
use Rattle.rules.specs.Fetch.{Found, corrupt, missing, found, hit, served_by, answer_of, note_found, newest, fetch_in}
use Rattle.rules.specs.Fetch.{run_fetch, plain_fetch}
use Rattle.rules.specs.Store.{fetch_by, fetch, looked, auto_repair}
use Rattle.rules.specs.Calls.{geo_of, behind, called, Told as Handed, Lent, no_cursor, fetch_item, fetch_plain}
use Rattle.laws.specs.Plain.{FoundPlain, hit-plain}
use Rattle.items.specs.declared.{Spot.Spot, Corrupt.Corrupt}
use Rattle.items.specs.Code.{told}
use Rattle.cache.specs.Code.{entries, pointers, index}
use Rattle.cache.proofs.Entries.{entries-take}
use Rattle.cache.proofs.Pointers.{Sized, none, held, find_hit}
use Rattle.cache.proofs.Whole.{take-pointers}
use Rattle.capi.specs.Code.{entries_of, lent_cache, cache_words, StillOk, Fits, out_words, border}
use Rattle.capi.proofs.Words.{cache_in, cache_out}
use Rattle.rules.specs.Pages.{any_corrupted}
use Rattle.map.specs.Code.{answered, PlainOk}
use Rattle.capi.proofs.Small.{told-fits}

-- ---- the lent cache

module _ (ws : List ℕ) (h : length ws ≡ 64) where
  pub lent_is : pointers 32 (lent_cache ws) ≡ entries_of ws
  lent_is = cache_in ws (take 32 ws) (take 32 (drop 32 ws)) h refl refl

  pub words_back : cache_words (entries_of ws) ≡ ws
  words_back =
      let ld = length-drop 32 ws in
      let lk : length (take 32 ws) ≡ 32 = length-take-le 32 ws (omega arith) in
      let lp : length (take 32 (drop 32 ws)) ≡ 32 = length-take-le 32 (drop 32 ws) (omega arith) in
      ap cache_words (sym lent_is) ∙ cache_out (lent_cache ws) lk lp
      ∙ rw (take_all 32 (drop 32 ws) (omega arith)) (take-append-drop 32 ws)

-- ---- the search for a key in its words

module _ (ws : List ℕ) (h : length ws ≡ 64) (n : ℕ) (hn : n ≤ 32) (k : ℕ) where
  sized : Sized n (lent_cache ws)
  sized =
      let ld = length-drop 32 ws in
      record {
        within = hn;
        keys_long = length-take-le 32 ws (omega arith);
        places_long = length-take-le 32 (drop 32 ws) (omega arith);
      }

  first_entries : entries (take n ws) (take n (drop 32 ws)) ≡ pointers n (lent_cache ws)
  unfolding pointers
  first_entries =
      rw (← entries-take n (take 32 ws) (take 32 (drop 32 ws)), take-take n 32 ws hn, take-take n 32 (drop 32 ws) hn)

  long : length (take n ws) ≡ n
  long = length-take-le n ws (omega arith)

  pub find_none : length (take n ws) ≤ index k (entries (take n ws) (take n (drop 32 ws)))
      → lookup k (pointers n (lent_cache ws)) ≡ 0
  find_none l =
      none (lent_cache ws) n sized k (index k (pointers n (lent_cache ws))) refl (rw (first_entries, long) at l)

  pub find_some : (i : ℕ) → (i < length (take n ws)) × (i ≡ index k (entries (take n ws) (take n (drop 32 ws))))
      → (0 < get_or (take n (drop 32 ws)) i 0)
      × (get_or (take n (drop 32 ws)) i 0 ≡ lookup k (pointers n (lent_cache ws)))
  find_some i f =
      let l : i < n = omega (arith, f.0, long) in
      let e : i ≡ index k (pointers n (lent_cache ws)) = rw first_entries at f.1 in
      let same : get_or (take n (drop 32 ws)) i 0 ≡ lookup k (pointers n (lent_cache ws)) =
      get_or-take n (drop 32 ws) i 0 l ∙ sym (get_or-take 32 (drop 32 ws) i 0 (omega arith))
      ∙ find_hit (lent_cache ws) n sized k i e l in
      (rw same (held (lent_cache ws) n sized k i e l), same)

-- ---- refused, or served by the cache

-- what a search at a cached place tells is the answer
abbrev told_value : Result (Option Spot) Corrupt → Answer
told_value (Ok (Some spot)) = Value (spot.at + 12) (spot.len - 4)
told_value (Ok Rattle.std.proofs.Common.None) = Corrupted
told_value (Err e) = Corrupted

hit_answer : (x : Found) → FoundPlain x → (spot : Spot) → Ok (Some spot) ≡ told x → (G : Geo) (k : ℕ) (s : St)
    → out (Value (spot.at + 12) (spot.len - 4)) s ≡ fetch_by G k s x
hit_answer corrupt h spot q G k s = cc
hit_answer missing h spot q G k s = cc
hit_answer (found e) h spot q G k s = rw (h.0, h.1) (ap (λ (x : Result (Option Spot) Corrupt). out (told_value x) s) q)

module _ (E m k : ℕ) (img ws : List ℕ) where
  pub still_refused : (a : Answer) → (a ≡ refusal 4 E (length img) m 0) × (0 < number a) → StillOk E m k img ws a
  unfolding called behind
  still_refused a r = rw (← r.0, ne_eqb (number a) 0 (λ z. absurd (omega (arith, r.1))))

  pub still_hit : (G : Geo) → (refusal 4 E (length img) m 0 ≡ Done) × (G ≡ geo_of 4 E (length img)) → length ws ≡ 64
      → m ≤ 32
      → (a : ℕ) → (0 < a) × (a ≡ lookup k (pointers m (lent_cache ws)))
      → (spot : Spot) → Ok (Some spot) ≡ told (hit G img k a)
      → StillOk E m k img ws (Value (spot.at + 12) (spot.len - 4))
  unfolding called behind fetch
  still_hit G g h few a f spot q =
      let s : St = record { img = img; cache = take m (entries_of ws); erased = 0 } in
      let same : pointers m (lent_cache ws) ≡ take m (entries_of ws) =
      sym (take-pointers (lent_cache ws) m few) ∙ ap (λ (es : Entries). take m es) (lent_is ws h) in
      let at : a ≡ lookup k (take m (entries_of ws)) = rw same at f.1 in
      let by : served_by G k s ≡ hit G img k a = rw (← at, ne_eqb a 0 (λ z. absurd (omega (arith, f.0)))) in
      let ran : out (Value (spot.at + 12) (spot.len - 4)) s ≡ fetch_by G k s (served_by G k s) =
      rw by (hit_answer (hit G img k a) (hit-plain G img k a) spot q G k s) in
      rw (g.0, ← g.1, ← ran, take-append-drop m (entries_of ws))

-- ---- without a cache

module _ (G : Geo) (k : ℕ) (img : List ℕ) where
  none_noted : (x : Found)
      → note_found k (record { img = img; cache = []; erased = 0 }) x
      ≡ record { st = record { img = img; cache = []; erased = 0 }; res = x }
  unfolding note
  none_noted corrupt = refl
  none_noted missing = refl
  none_noted (found e) = refl

  looked_is : looked G (run_fetch G k) (record { img = img; cache = []; erased = 0 })
      ≡ out (plain_fetch G img k) (record { img = img; cache = []; erased = 0 })
  unfolding fetch_in plain_fetch
  looked_is = rw (none_noted (newest G img k)) (go (any_corrupted G img))
    where
      go : (b : Bool)
          → pick b (out Corrupted (record { img = img; cache = []; erased = 0 }))
          (out (answer_of (newest G img k)) (record { img = img; cache = []; erased = 0 }))
          ≡ out (pick b Corrupted (answer_of (newest G img k))) (record { img = img; cache = []; erased = 0 })
      go true = refl
      go false = refl

  -- a fetch with no entries is the plain fetch, unless that is Corrupted
  no-entries : is_no 8 (plain_fetch G img k) ≡ false
      → fetch G k (record { img = img; cache = []; erased = 0 })
      ≡ out (plain_fetch G img k) (record { img = img; cache = []; erased = 0 })
  unfolding fetch auto_repair on
  no-entries e = rw (looked_is, e)

module _ (E k : ℕ) (img : List ℕ) (c : Entries) (a : Answer) (P : PlainOk E k img a) (n : number a ≢ 8) where
  same_call : (b : Bool) → is_no 0 (refusal 4 E (length img) 0 0) ≡ b
      → called 4 E 0 (fetch_plain k) (record { image = img; cache = c })
      ≡ called 4 E 0 (fetch_item k) (record { image = img; cache = c })
  unfolding called behind
  same_call true e =
      let p : a ≡ plain_fetch (geo_of 4 E (length img)) img k = rw e at (ap (λ (t : Handed). t.answer) (P.is 0 c)) in
      let f : is_no 8 (plain_fetch (geo_of 4 E (length img)) img k) ≡ false = ne_eqb _ 8 (λ z. n (ap number p ∙ z)) in
      rw (e, no-entries (geo_of 4 E (length img)) k img f)
  same_call false e = rw e

pub still_plain : (E k : ℕ) (img ws : List ℕ) (a : Answer) → PlainOk E k img a → number a ≢ 8 → StillOk E 0 k img ws a
still_plain E k img ws a P n =
    P.is 0 (entries_of ws) ∙ same_call E k img (entries_of ws) a P n (is_no 0 (refusal 4 E (length img) 0 0)) refl

-- ---- at the border

-- what it answers fits the words
pub still_fits : (E m k : ℕ) (img ws : List ℕ) (a : Answer) → StillOk E m k img ws a → Fits 0 a
still_fits E m k img ws a S =
    let l : Lent = record { image = img; cache = entries_of ws } in
    told-fits E m (fetch_item k) l (answered a no_cursor l) S

pub still_told : (E m k : ℕ) (img ws ow : List ℕ) → length ws ≡ 64 → length ow ≡ 5 → (a : Answer)
    → StillOk E m k img ws a → (n : ℕ) (o : List ℕ) → n ≡ number a → o ≡ out_words 0 a
    → record { no = n; image = img; cache = ws; out = o } ≡ border E m (fetch_item k) img ws ow
unfolding border
still_told E m k img ws ow g h a S n o e f =
    rw (eq-eqb (length ws) 64 g, eq-eqb (length ow) 5 h, ← S, words_back ws g, e, f)
