-- Each call on a sound image, with any lent cache and any size: not Corrupted, and the image stays sound; so does a sequence.
use Rattle.std.specs.Prelude.{◌≡◌, ◌≢◌, ℕ, List, [], ◌∷◌, length, take}
use Rattle.std.proofs.Math.Path.{refl, ap, subst}
use Rattle.std.proofs.Common.{sym, ◌∙◌, arith}
use Rattle.rules.specs.declared.{Geo.Geo, Answer.TheVariants.Done, Answer.TheVariants.Corrupted}
use Rattle.rules.specs.Cache.{Cache}
use Rattle.rules.specs.Answers.{number, refusal}
use Rattle.rules.specs.Runs.{End, final}
use Rattle.rules.specs.Fetch.{newest, plain_fetch}
use Rattle.rules.specs.Remove.{Which, every, only, remove}
use Rattle.rules.specs.Walk.{walk_step}
use Rattle.rules.specs.Calls.{Call, fetch_item, fetch_plain, store_item, remove_item, remove_all_items, erase_all_pages, fetch_all_items, next_item, Lent, geo_of, called, run_of}
use Rattle.rules.specs.Sound.{All, Sound, used_ring, SoundImage}
use Rattle.laws.specs.Geometry.{Fit, accepted, held_of}
use Rattle.theory.specs.Sane.{done_clean, store_clean, found_clean, no_bad}
use Rattle.theory.specs.Removing.{remove_is, rid_of, erase_res}
use Rattle.theory.specs.Latest.{not_corrupt, start_res}
use Rattle.theory.specs.AnyCache.{fetch_any, store_any}
use Rattle.promises.specs.Promise.{Given, AllGiven, again, seen, refusal_of, works_on}
use Rattle.promises.specs.Behind.{either, low_of}
use Rattle.promises.proofs.EachCall.{fitting, step_clean}

pub fit_of : (w E : ℕ) (img : List ℕ) → SoundImage w E img → Fit (geo_of w E (length img)) img
fit_of w E img S = record { held = held_of w E (length img) 0 0 S.word (accepted w E (length img) 0 0 S.accepted); bytes = S.bytes }

module _ (w E m : ℕ) (b : Lent) (S : SoundImage w E b.image) where
  abbrev G : Geo
  G = geo_of w E (length b.image)

  abbrev img : List ℕ
  img = b.image

  ok : Fit G img
  ok = fit_of w E img S

  -- what a call leaves
  again_sound : (img' : List ℕ) → Fit G img' → Sound G img' → SoundImage w E img'
  again_sound img' ok' s =
      let e : length img ≡ length img' = ok.held.whole ∙ sym ok'.held.whole in
      record {
        word = S.word;
        accepted = subst (λ (n : ℕ). refusal w E n 0 0 ≡ Done) e S.accepted;
        bytes = ok'.bytes;
        sound = subst (λ (n : ℕ). Sound (geo_of w E n) img') e s;
      }

  -- a run's end
  Kept : End → Type 0
  Kept r = (r.ans ≢ Corrupted) × SoundImage w E r.st.img

  gone : (t : Which) (ca : Cache) → Kept (final (remove G t (record { img = img; cache = ca; erased = 0 })))
  unfolding Kept
  gone t ca =
      let R = rid_of G t img ok S.sound in
      subst Kept (sym (remove_is G t img ca 0 ok S.sound)) (done_clean Done refl, again_sound _ R.fit R.sound)

  run_kept : (c : Call) → Given c → refusal_of w E m c b ≡ Done → Kept (final (run_of G c (works_on m c b)))
  unfolding Kept plain_fetch
  run_kept (fetch_item k) g e = let f = fetch_any G img (take m b.cache) 0 k ok S.sound in (f.0, subst (SoundImage w E) (sym f.1) S)
  run_kept (fetch_plain k) g e = (rw (no_bad G img ok S.sound) (found_clean (newest G img k) (not_corrupt G img ok S.sound k)), S)
  run_kept (store_item k v) g e =
      let r = store_any G k v (fitting w E (length img) m k v g (accepted w E (length img) m (length v) e)) img (take m b.cache) 0 ok S.sound in
      let u = r.used in
      (store_clean _ r.ends, again_sound _ u.fit (used_ring u.p u.o u.os u.cs u.ring))
  run_kept (remove_item k) g e = gone (only k) (take m b.cache)
  run_kept remove_all_items g e = gone every (take m b.cache)
  run_kept erase_all_pages g e =
      let x = erase_res G img (take m b.cache) 0 ok in
      (done_clean _ x.ans_is, subst (SoundImage w E) (sym x.img_is) (again_sound _ x.sane.fit x.sane.sound))
  run_kept fetch_all_items g e = rw (start_res G img (take m b.cache) 0 ok S.sound) (done_clean Done refl, S)
  run_kept (next_item c) g e = (step_clean (walk_step G img c), S)

  kept : (c : Call) → Given c → ((called w E m c b).answer ≢ Corrupted) × SoundImage w E (called w E m c b).image
  unfolding Kept
  kept c g =
      either w E m c b (λ r. (r.answer ≢ Corrupted) × SoundImage w E r.image)
      (λ n. ((λ y. let z = ap number y in absurd (omega (arith, low_of w E m c b))), S))
      (λ e. run_kept c g e)

pub all_kept : (w E m : ℕ) (cs : List Call) → AllGiven cs → (b : Lent) → SoundImage w E b.image
    → All (λ r. (r.answer ≢ Corrupted) × SoundImage w E r.image) (seen (called w E m) cs b)
all_kept w E m [] g b S = tt
all_kept w E m (c ∷ cs) g b S = let k = kept w E m b S c g.0 in (k, all_kept w E m cs g.1 (again (called w E m c b)) k.1)
