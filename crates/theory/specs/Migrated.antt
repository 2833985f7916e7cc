-- A whole migration on a ring, with a right cache: every key keeps its item, and the source is free.
use Rattle.std.specs.Prelude.{◌≡◌, refl, ◌≢◌, ℕ, ◌+◌, ◌<◌, Bool, true, false, ltb}
use Rattle.std.proofs.Common.{sym, ◌∙◌, arith, ltb-true, ltb-false}
use Rattle.std.proofs.Math.Path.{ap}
use Rattle.std.proofs.Math.Option.{none}
use mathlib.Core.List.{List, [], ◌∷◌, ◌++◌, append-nil}
use Rattle.rules.specs.declared.{Geo.Geo, Answer.TheVariants.Done}
use Rattle.rules.specs.Bytes.{erase}
use Rattle.rules.specs.Items.{Entry, Scan, presents}
use Rattle.rules.specs.Pages.{scan_of, items_of, data_at}
use Rattle.rules.specs.Cache.{Cache}
use Rattle.rules.specs.Answers.{number}
use Rattle.rules.specs.Runs.{Out, out, erasing, End, final}
use Rattle.rules.specs.Fetch.{Found, corrupt, missing, found, or_else, last_with, newest}
use Rattle.rules.specs.Store.{migrate_all, migrate}
use Rattle.rules.specs.Sound.{All, Ring}
use Rattle.laws.specs.Lists.{All-append, All-left, All-map, All-zip}
use Rattle.laws.specs.Geometry.{Fit, page_in}
use Rattle.laws.specs.Entries.{spans, Stands, stands_items, Sorted-presents, page-ok}
use Rattle.laws.specs.Touch.{mark_start, mark_end}
use Rattle.laws.specs.Rings.{log_of, newest_is, last-append}
use Rattle.laws.specs.Moves.{Not, rest_not, Freed, turned, rolled, freed}
use Rattle.laws.specs.RunLaws.{on_yes}
use Rattle.theory.specs.Cached.{Valid, valid_same}
use Rattle.theory.specs.Copying.{begins}
use Rattle.theory.specs.Migrate.{its, keep, move_img, Ready, Moved, moved, st_of, last_not_corrupt}
use Rattle.theory.specs.Keep.{it_of, last-its, keep-last, keep-moves, none-missing}

pub snoc_not_nil : (xs : List ℕ) (p : ℕ) → xs ++ (p ∷ []) ≡ [] → ⊥
snoc_not_nil [] p h = let z : ◌≡◌ {A = ℕ} 0 1 = cc in omega arith
snoc_not_nil (x ∷ xs) p h = let z : ◌≡◌ {A = ℕ} 0 1 = cc in omega arith

pub All_always : (P : Entry → Type 0) (es : List Entry) → ((e : Entry) → P e) → All P es
All_always P [] h = tt
All_always P (e ∷ es) h = (h e, All_always P es h)

module _ (G : Geo) where
  -- entries of two pages stand apart
  apart_pages : (img : List ℕ) → Fit G img → (p q : ℕ) → q ≢ p → (e f : Entry) → Stands G img p e → Stands G img q f → f.at ≢ e.at
  apart_pages img ok p q ne e f se sf eq = go (ltb q p) refl
    where
      go : (b : Bool) → ltb q p ≡ b → ⊥
      go true h = omega (arith, page_in G.page q p (ltb-true q p h), se.at_is, sf.at_is, se.high, sf.high, ok.held.room)
      go false h =
          let lt : p < q = omega (arith, ltb-false q p h) in
          omega (arith, page_in G.page p q lt, se.at_is, sf.at_is, se.high, sf.high, ok.held.room)

  pub apart_log : (img : List ℕ) → Fit G img → (c : ℕ) (e : Entry) → Stands G img c e → (qs : List ℕ) → All (Not G c) qs → All (λ f. f.at ≢ e.at) (log_of G img qs)
  apart_log img ok c e se [] h = tt
  apart_log img ok c e se (q ∷ qs) h =
      All-append (λ f. f.at ≢ e.at) (items_of G img q) (log_of G img qs)
      (All-map (Stands G img q) (λ f. f.at ≢ e.at) (items_of G img q) (λ f sf. apart_pages img ok c q h.0.1 e f se sf) (stands_items G img ok q))
      (apart_log img ok c e se qs h.1)

  -- a rollover's marks change no key's newest item
  pub rolled-newest : (img : List ℕ) (p o : ℕ) (os cs : List ℕ) → Fit G img → Ring G img p (o ∷ os) cs → (j : ℕ) → newest G (mark_start G (mark_end G img p) o) j ≡ newest G img j
  rolled-newest img p o os cs ok S j =
      let R = rolled G img p o os cs ok S in
      newest_is G (mark_start G (mark_end G img p) o) o os (cs ++ (p ∷ [])) R.ring j
      ∙ rw (R.log_is, R.empty, append-nil (log_of G img cs ++ items_of G img p), newest_is G img p (o ∷ os) cs S j)

  pub rolled_valid : (img : List ℕ) (p o : ℕ) (os cs : List ℕ) → Fit G img → Ring G img p (o ∷ os) cs → (c : Cache) → Valid G img c → Valid G (mark_start G (mark_end G img p) o) c
  rolled_valid img p o os cs ok S c v = valid_same G img (mark_start G (mark_end G img p) o) c (rolled-newest img p o os cs ok S) v

  pub record Migrated (img : List ℕ) (o c : ℕ) (cs : List ℕ) (er : ℕ) (img' : List ℕ) (r : End) : Type 0 where
    pub ans_is : r.ans ≡ Done
    pub img_is : r.st.img ≡ img'
    pub er_is : r.st.erased ≡ er + 1
    pub valid : Valid G img' r.st.cache
    pub fit : Fit G img'
    pub ring : Ring G img' o (c ∷ []) cs
    pub log_is : log_of G img' cs ≡ log_of G img cs
    pub its_is : its (items_of G img' o) ≡ its (keep (log_of G img cs) (items_of G img c))
    pub end_is : (scan_of G img' o).end ≡ data_at G o + spans G.word (keep (log_of G img cs) (items_of G img c))
    pub same : (k : ℕ) → it_of (newest G img' k) ≡ it_of (newest G img k)
    pub pages_is : All (λ q. items_of G img' q ≡ items_of G img q) cs

  module _ (img : List ℕ) (o c : ℕ) (cs : List ℕ) (ca : Cache) (er : ℕ) (ok : Fit G img) (S : Ring G img o [] (c ∷ cs))
      (empty : scan_of G img o ≡ record { items = []; end = data_at G o }) (v : Valid G img ca) where
    abbrev pub later : List Entry
    later = log_of G img cs

    abbrev pub src : List Entry
    src = items_of G img c

    nc : All (Not G c) (cs ++ (o ∷ []))
    nc =
        let hc = (rest_not G o S.in_ring (c ∷ cs) S.rest_is).0.0 in
        rest_not G c hc (cs ++ (o ∷ [])) (turned G o c cs S.in_ring S.rest_is).1

    pub ready : Ready G o c cs later img [] src
    ready =
        let pk = page-ok G img ok c in
        record {
          source = begins G o c cs img ok S empty;
          later_is = refl;
          fresh = All_always (λ e. last_with e.it.key (items_of G img o) ≡ missing) (items_of G img c) (λ e. rw empty);
          sorted = Sorted-presents (scan_of G img c).items pk.sorted;
          apart = All-map (Stands G img c) (λ e. All (λ f. f.at ≢ e.at) (log_of G img cs)) (items_of G img c)
              (λ e se. apart_log img ok c e se cs (All-left (Not G c) cs (o ∷ []) nc)) (stands_items G img ok c);
        }

    img₂ : List ℕ
    img₂ = move_img G later src img (scan_of G img o).end

    run : Out
    run = migrate_all G src (scan_of G img o).end (st_of G o c cs later img ca er)

    M : Moved G o c cs later img er img₂ (keep later src) (final run)
    unfolding img₂ run
    M = moved G o c cs later src img [] ca er ready v

    X : Freed G img₂ o c cs (erase G.page img₂ c)
    X = freed G img₂ o c cs M.fit M.ring

    its₂ : its (items_of G img₂ o) ≡ its (keep later src)
    its₂ = M.its_is ∙ rw empty

    -- no key is lost with the source
    newest₃ : (k : ℕ) → newest G (erase G.page img₂ c) k ≡ last_with k (later ++ items_of G img₂ o)
    newest₃ k = newest_is G (erase G.page img₂ c) o (c ∷ []) cs X.ring k ∙ rw (X.log_is, M.later_is, X.scan_is)

    newest₀ : (k : ℕ) → newest G img k ≡ last_with k (src ++ later)
    newest₀ k = newest_is G img o [] (c ∷ cs) S k ∙ rw (empty, append-nil (items_of G img c ++ log_of G img cs))

    same₃ : (k : ℕ) → it_of (newest G (erase G.page img₂ c) k) ≡ it_of (newest G img k)
    same₃ k = rw (newest₃ k, newest₀ k) (keep-moves k later src (items_of G img₂ o) its₂)

    -- the erase takes no newest item
    newest_kept : (k : ℕ) → newest G (erase G.page img₂ c) k ≡ newest G img₂ k
    newest_kept k =
        newest₃ k ∙ last-append k later (items_of G img₂ o) ∙ go (last_with k (items_of G img₂ o)) refl (last_with k later) refl ∙ sym two
      where
        two : newest G img₂ k ≡ or_else (last_with k (items_of G img₂ o)) (or_else (last_with k later) (last_with k src))
        two =
            newest_is G img₂ o [] (c ∷ cs) M.ring k
            ∙ rw (M.src_is, M.later_is, last-append k (items_of G img c ++ later) (items_of G img₂ o), last-append k (items_of G img c) later)

        go : (a : Found) → last_with k (items_of G img₂ o) ≡ a → (b : Found) → last_with k later ≡ b
            → or_else (last_with k (items_of G img₂ o)) (last_with k later) ≡ or_else (last_with k (items_of G img₂ o)) (or_else (last_with k later) (last_with k src))
        go corrupt p b q = absurd (last_not_corrupt k (items_of G img₂ o) p)
        go (found f) p b q = rw p
        go missing p corrupt q = absurd (last_not_corrupt k later q)
        go missing p (found f) q = rw (p, q)
        go missing p missing q =
            let z : it_of (last_with k src) ≡ none =
            sym (keep-last k later q src) ∙ sym (last-its k (items_of G img₂ o) (keep later src) its₂) ∙ ap it_of p in
            rw (p, q, none-missing (last_with k src) (last_not_corrupt k src) z)

    valid₃ : Valid G (erase G.page img₂ c) run.st.cache
    valid₃ = record {
      right = λ k ne. ((M.valid.right k ne).0, newest_kept k ∙ (M.valid.right k ne).1, (M.valid.right k ne).2);
      once = M.valid.once;
    }

    at_end : (scan_of G img o).end ≡ data_at G o
    at_end = ap (λ (r : Scan). r.end) empty

    pub migrated : Migrated img o c cs er (erase G.page (move_img G (log_of G img cs) (items_of G img c) img (data_at G o)) c) (final (migrate G c o (record { img = img; cache = ca; erased = er })))
    unfolding migrate img₂ run
    migrated =
        rw (← at_end, on_yes 0 (migrate_all G (items_of G img c) (scan_of G img o).end (record { img = img; cache = ca; erased = er })) (λ s. erasing G c s (out Done)) (ap number M.ans_is))
        (record {
          ans_is = refl;
          img_is = ap (λ (l : List ℕ). erase G.page l c) M.img_is;
          er_is = ap (λ (x : ℕ). x + 1) M.er_is;
          valid = valid₃;
          fit = X.fit;
          ring = X.ring;
          log_is = X.log_is ∙ M.later_is;
          its_is = ap (λ (r : Scan). its (presents r.items)) X.scan_is ∙ its₂;
          end_is = ap (λ (r : Scan). r.end) X.scan_is ∙ M.end_is ∙ ap (λ (x : ℕ). x + spans G.word (keep (log_of G img cs) (items_of G img c))) at_end;
          same = same₃;
          pages_is = All-zip (λ q. items_of G (erase G.page img₂ c) q ≡ items_of G img₂ q) (λ q. items_of G img₂ q ≡ items_of G img q) (λ q. items_of G (erase G.page img₂ c) q ≡ items_of G img q) cs (λ q a b. a ∙ b)
              X.pages_is M.pages_is;
        })
