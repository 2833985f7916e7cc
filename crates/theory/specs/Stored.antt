-- The store on a sound image with a PartialOpen page: it writes, or goes on to a sound image with the same list; it is never Corrupted.
use Rattle.std.specs.Prelude.{◌≡◌, ◌≢◌, Bool, replicate, eqb}
use Rattle.std.proofs.Math.Path.{refl, sym, ap, subst}
use Rattle.std.proofs.Common.{◌∙◌}
use Rattle.std.proofs.Math.Option.{some}
use Prim.Native.Nat.{ℕ, zero, suc, ◌+◌, ◌-◌, ◌/◌, ◌≤◌, ◌<◌}
use Rattle.std.proofs.Math.Bool.{true, false}
use mathlib.Core.List.{List, [], ◌∷◌, ◌++◌, append_assoc}
use Rattle.std.proofs.Math.ListN.{length}
use Rattle.std.proofs.Math.Dec.{leb}
use native.Mathlib.Omega.{arith}
use borrow.Author.Tests.{leb-true, leb-false, le-leb, lt-leb, lt-ltb, ne_eqb, eq-eqb}
use Rattle.rules.specs.declared.{Geo.Geo, Answer.TheVariants.Done, Answer.TheVariants.FullStorage}
use Rattle.rules.specs.Bytes.{pick, both, program, to_le, round_up, programs, Bytes}
use Rattle.rules.specs.Items.{Item, Entry, size, encode, encode_data, check_of, pad, item, read}
use Rattle.rules.specs.Pages.{scan_of, items_of, end_at, zero_word, blank_at}
use Rattle.rules.specs.Cache.{Cache, note}
use Rattle.rules.specs.Answers.{number}
use Rattle.rules.specs.Runs.{Out, out, on_done, after, End, end, final, programming}
use Rattle.rules.specs.Fetch.{missing, found, or_else, newest}
use Rattle.rules.specs.Store.{rollover, turn, turns}
use Rattle.rules.specs.Sound.{Ring}
use Rattle.laws.specs.ByteLaws.{Bytes-append, Bytes-replicate}
use Rattle.laws.specs.Geometry.{Fit}
use Rattle.laws.specs.Encoding.{present_item, read-encode, length-encode, of_le_to_le4}
use Rattle.laws.specs.Touch.{mark_start, mark_end}
use Rattle.laws.specs.Rings.{log_of, newest_is, partial_is}
use Rattle.laws.specs.Moves.{rolled, turned}
use Rattle.laws.specs.RunLaws.{on_yes, on-no}
use Rattle.theory.specs.Cached.{Valid, valid_note, newest-hit}
use Rattle.theory.specs.Placing.{placed, blank-spot, Placed}
use Rattle.theory.specs.Migrate.{last_snoc}
use Rattle.theory.specs.Keep.{it_of}
use Rattle.theory.specs.Migrated.{migrated, rolled_valid, rolled-newest}
use Rattle.theory.specs.Rollover.{Used, roll_open, roll_full, rollover_done}

module _ (G : Geo) where
  -- a sound image that has a PartialOpen page, and a right cache
  pub record Good (img : List ℕ) (ca : Cache) : Type 0 where
    pub fit : Fit G img
    pub p : ℕ
    pub o : ℕ
    pub os : List ℕ
    pub cs : List ℕ
    pub ring : Ring G img p (o ∷ os) cs
    pub valid : Valid G img ca

  -- its ring
  abbrev pub used : (img : List ℕ) (ca : Cache) → Good img ca → Used G img
  used img ca g = record { fit = g.fit; p = g.p; o = g.o; os = g.os; cs = g.cs; ring = g.ring }

  pub record Kept (img : List ℕ) (r : End) : Type 0 where
    pub good : Good r.st.img r.st.cache
    pub same : (j : ℕ) → it_of (newest G r.st.img j) ≡ it_of (newest G img j)

  -- ---- rollover

  pub rollover_kept : (img : List ℕ) (p o : ℕ) (os cs : List ℕ) (ca : Cache) (er : ℕ) → Fit G img → Ring G img p (o ∷ os) cs → Valid G img ca
      → Kept img (final (rollover G o (record { img = mark_end G img p; cache = ca; erased = er })))
  rollover_kept img p o os cs ca er ok S v = go os S
    where
      img₂ : List ℕ
      img₂ = mark_start G (mark_end G img p) o

      go : (os : List ℕ) → Ring G img p (o ∷ os) cs → Kept img (final (rollover G o (record { img = mark_end G img p; cache = ca; erased = er })))
      go (o₂ ∷ os) S =
          let Ro = rolled G img p o (o₂ ∷ os) cs ok S in
          subst (Kept img) (sym (roll_open G img p o cs ok o₂ os S ca er)) (record {
            good = record { fit = Ro.fit; p = o; o = o₂; os = os; cs = cs ++ (p ∷ []); ring = Ro.ring; valid = rolled_valid G img p o (o₂ ∷ os) cs ok S ca v };
            same = λ j. ap it_of (rolled-newest G img p o (o₂ ∷ os) cs ok S j);
          })
      go [] S =
          let Ro = rolled G img p o [] cs ok S in
          let O = roll_full G img p o cs ok S in
          let m = migrated G img₂ o O.c O.qs ca er Ro.fit O.ring Ro.empty (rolled_valid G img p o [] cs ok S ca v) in
          let i = m.img_is in
          subst (Kept img) (sym (O.moves ca er)) (record {
            good = rw i (record { fit = m.fit; p = o; o = O.c; os = []; cs = O.qs; ring = m.ring; valid = m.valid });
            same = λ j. rw i (m.same j ∙ ap it_of (rolled-newest G img p o [] cs ok S j));
          })

  -- ---- a turn

  -- an item that may be stored: a key of four bytes, a value of bytes, not too big
  pub record Fitting (k : ℕ) (v : List ℕ) : Type 0 where
    pub key< : k < 4294967296
    pub bytes : Bytes v
    pub small : length v + 4 ≤ 32768

  -- done: the key has the new item, every other key what it had
  pub record Put (img : List ℕ) (k : ℕ) (v : List ℕ) (r : End) : Type 0 where
    pub ans_is : r.ans ≡ Done
    pub good : Good r.st.img r.st.cache
    pub new : it_of (newest G r.st.img k) ≡ some (present_item (to_le 4 k ++ v))
    pub same : (j : ℕ) → j ≢ k → it_of (newest G r.st.img j) ≡ it_of (newest G img j)

  pub bytes_le : (m x : ℕ) → Bytes (to_le m x)
  bytes_le zero x = tt
  bytes_le (suc m) x = (omega arith, bytes_le m (x / 256))

  module _ (img : List ℕ) (ca : Cache) (er k : ℕ) (v : List ℕ) (g : Used G img) where
    -- where the item would stand, and how much it takes
    abbrev pub spot : ℕ
    spot = (scan_of G img g.p).end

    abbrev pub need : ℕ
    need = size G.word (4 + length v)

    -- a turn on a ring: one test, and then the item is written, or the page closed and rolled over
    pub turn_is : turn G k v (record { img = img; cache = ca; erased = er })
        ≡ pick (leb (spot + need) (end_at G g.p))
        (programming spot (encode G.word k v) (record { img = img; cache = note k spot ca; erased = er }) (out Done))
        (programming (end_at G g.p) (zero_word G) (record { img = img; cache = ca; erased = er }) (λ s. on_done (rollover G g.o s) (out FullStorage)))
    unfolding turn
    turn_is =
        let S = g.ring in
        rw (
          partial_is G img g.p (g.o ∷ g.os) g.cs S,
          lt-ltb g.p G.pages S.in_ring,
          (turned G g.p g.o (g.os ++ g.cs) S.in_ring S.rest_is).0,
          S.opens.0.is_open,
        )
        (go (leb (spot + need) (end_at G g.p)) refl _ _)
      where
        go : (b : Bool) → leb (spot + need) (end_at G g.p) ≡ b → (x y : Out)
            → pick (both b (blank_at img spot need)) x y ≡ pick b x y
        go true q x y = rw (blank-spot G img g.fit g.p g.ring.in_ring g.ring.tail need (leb-true _ (end_at G g.p) q))
        go false q x y = refl

    -- there is room: the store is done
    pub turns_write : (t : ℕ) → spot + need ≤ end_at G g.p
        → final (turns G (suc t) k v (record { img = img; cache = ca; erased = er }))
        ≡ end Done (record { img = program img spot (encode G.word k v); cache = note k spot ca; erased = er })
    unfolding turns
    turns_write t h =
        let wr = programming spot (encode G.word k v) (record { img = img; cache = note k spot ca; erased = er }) (out Done) in
        let no : number Done ≢ 7 = λ z. absurd (omega arith) in
        rw (turn_is, le-leb (spot + need) (end_at G g.p) h, on-no 7 wr (turns G t k v) no)

    -- there is none: the next turn runs on what the rollover leaves
    pub turns_roll : (t : ℕ) → end_at G g.p < spot + need
        → final (turns G (suc t) k v (record { img = img; cache = ca; erased = er }))
        ≡ final (turns G t k v (rollover G g.o (record { img = mark_end G img g.p; cache = ca; erased = er })).st)
    unfolding turns
    turns_roll t h =
        let r = rollover G g.o (record { img = mark_end G img g.p; cache = ca; erased = er }) in
        let d = (rollover_done G img g.p g.o g.cs g.fit g.os g.ring ca er).0 in
        let m = after (programs (end_at G g.p) (zero_word G) ∷ []) (after r.steps (out FullStorage r.st)) in
        rw (turn_is, lt-leb (spot + need) (end_at G g.p) h, on_yes 0 r (out FullStorage) (ap number d), on_yes 7 m (turns G t k v) refl)

  -- the item as it is written and read back
  module _ (img : List ℕ) (g : Used G img) (k : ℕ) (v : List ℕ) (f : Fitting k v) where
    d : List ℕ
    d = to_le 4 k ++ v

    w₊ : 0 < G.word
    w₊ = omega (arith, g.fit.held.low)

    ld : length d ≡ 4 + length v
    unfolding d
    ld = omega arith

    enc_bytes : Bytes (encode G.word k v)
    unfolding encode encode_data pad
    enc_bytes =
        let dd : List ℕ = to_le 4 k ++ v in
        let a : List ℕ = to_le 2 (length dd) in
        let b : List ℕ = to_le 2 (65535 - length dd) in
        let c : List ℕ = to_le 4 (check_of dd) in
        Bytes-append (a ++ b ++ c ++ dd) (replicate (round_up G.word (length dd) - length dd) 255)
        (Bytes-append (a ++ b ++ c) dd
        (Bytes-append (a ++ b) c (Bytes-append a b (bytes_le 2 (length dd)) (bytes_le 2 (65535 - length dd))) (bytes_le 4 (check_of dd)))
        (Bytes-append (to_le 4 k) v (bytes_le 4 k) f.bytes))
        (Bytes-replicate (round_up G.word (length dd) - length dd) 255 (omega arith))

    enc_length : length (encode G.word k v) ≡ size G.word (4 + length v)
    unfolding encode d
    enc_length = length-encode G.word d w₊ ∙ ap (size G.word) ld

    -- the item as it is read back, whatever follows it
    it : Item
    it = present_item (to_le 4 k ++ v)

    reads : (rest : List ℕ) → read G.word (encode G.word k v ++ rest) ≡ item it
    unfolding encode it d
    reads rest = read-encode G.word (to_le 4 k ++ v) rest w₊ (omega (arith, ld)) (omega (arith, ld, f.small))

    it_size : size G.word it.len ≡ length (encode G.word k v)
    unfolding it d
    it_size = ap (size G.word) ld ∙ sym enc_length

    pub put_it : (scan_of G img g.p).end + size G.word (4 + length v) ≤ end_at G g.p
        → Placed G img g.fit g.p (g.o ∷ g.os) g.cs (encode G.word k v) (present_item (to_le 4 k ++ v)) (program img (scan_of G img g.p).end (encode G.word k v))
    unfolding it
    put_it h = placed G img g.fit g.p (g.o ∷ g.os) g.cs g.ring (encode G.word k v) it enc_bytes it_size refl reads (omega (arith, enc_length))

  wrote_it : (img : List ℕ) (ca : Cache) (er k : ℕ) (v : List ℕ) (g : Good img ca) → Fitting k v → (scan_of G img g.p).end + size G.word (4 + length v) ≤ end_at G g.p
      → Put img k v (end Done (record { img = program img (scan_of G img g.p).end (encode G.word k v); cache = note k (scan_of G img g.p).end ca; erased = er }))
  wrote_it img ca er k v g f h =
      let S = g.ring in
      let a = (scan_of G img g.p).end in
      let W = put_it img (used img ca g) k v f h in
      let img' : List ℕ = program img a (encode G.word k v) in
      let it : Item = present_item (to_le 4 k ++ v) in
      let kk : it.key ≡ k = of_le_to_le4 k f.key< in
      let e : Entry = record { at = a; it = it } in
      let nw : (j : ℕ) → newest G img' j ≡ or_else (pick (eqb it.key j) (found e) missing) (newest G img j) =
      λ j. newest_is G img' g.p (g.o ∷ g.os) g.cs W.all.ring j
      ∙ rw (W.all.log_is, W.items_is, ← append_assoc (log_of G img g.cs) (items_of G img g.p) (e ∷ []), newest_is G img g.p (g.o ∷ g.os) g.cs S j)
      (last_snoc j (log_of G img g.cs ++ items_of G img g.p) e) in
      let nk : newest G img' k ≡ found e = nw k ∙ rw (eq-eqb it.key k kk) in
      let nj : (j : ℕ) → j ≢ k → newest G img' j ≡ newest G img j = λ j ne. nw j ∙ rw (ne_eqb it.key j (λ y. ne (sym y ∙ kk))) in
      let vl : Valid G img' (note k a ca) =
      valid_note G img img' ca k e g.valid nj nk (newest-hit G img' W.all.fit g.p (g.o ∷ g.os) g.cs W.all.ring k e nk).1 in
      record {
        ans_is = refl;
        good = record { fit = W.all.fit; p = g.p; o = g.o; os = g.os; cs = g.cs; ring = W.all.ring; valid = vl };
        new = ap it_of nk;
        same = λ j ne. ap it_of (nj j ne);
      }

  -- ---- any number of turns: a store on a sound image is done or full, and never Corrupted

  pub data StoreRes (img : List ℕ) (k : ℕ) (v : List ℕ) (r : End) : Type 0 where
    stored : Put img k v r → StoreRes img k v r
    full : r.ans ≡ FullStorage → Kept img r → StoreRes img k v r

  -- what a later turn does, seen from before
  pub later_res : (img img' : List ℕ) (k : ℕ) (v : List ℕ) (r : End) → ((j : ℕ) → it_of (newest G img' j) ≡ it_of (newest G img j)) → StoreRes img' k v r → StoreRes img k v r
  later_res img img' k v r e (stored x) =
      stored (record { ans_is = x.ans_is; good = x.good; new = x.new; same = λ j ne. x.same j ne ∙ e j })
  later_res img img' k v r e (full q x) = full q (record { good = x.good; same = λ j. x.same j ∙ e j })

  pub turns_res : (t : ℕ) (img : List ℕ) (ca : Cache) (er k : ℕ) (v : List ℕ) → Good img ca → Fitting k v
      → StoreRes img k v (final (turns G t k v (record { img = img; cache = ca; erased = er })))
  unfolding turns
  turns_res zero img ca er k v g f = full refl (record { good = g; same = λ j. refl })
  turns_res (suc t) img ca er k v g f =
      go (leb (spot img ca er k v (used img ca g) + need img ca er k v (used img ca g)) (end_at G g.p)) refl (λ img' ca' er' g'. turns_res t img' ca' er' k v g' f)
    where
      go : (b : Bool) → leb (spot img ca er k v (used img ca g) + need img ca er k v (used img ca g)) (end_at G g.p) ≡ b
          → ((img' : List ℕ) (ca' : Cache) (er' : ℕ) → Good img' ca' → StoreRes img' k v (final (turns G t k v (record { img = img'; cache = ca'; erased = er' }))))
          → StoreRes img k v (final (turns G (suc t) k v (record { img = img; cache = ca; erased = er })))
      go true q ih =
          let h = leb-true (spot img ca er k v (used img ca g) + need img ca er k v (used img ca g)) (end_at G g.p) q in
          subst (StoreRes img k v) (sym (turns_write img ca er k v (used img ca g) t h)) (stored (wrote_it img ca er k v g f h))
      go false q ih =
          let h = leb-false (spot img ca er k v (used img ca g) + need img ca er k v (used img ca g)) (end_at G g.p) q in
          let u = (rollover G g.o (record { img = mark_end G img g.p; cache = ca; erased = er })).st in
          let x = rollover_kept img g.p g.o g.os g.cs ca er g.fit g.ring g.valid in
          subst (StoreRes img k v) (sym (turns_roll img ca er k v (used img ca g) t h))
          (later_res img u.img k v (final (turns G t k v u)) x.same (ih u.img u.cache u.erased x.good))
