-- Looking and adding keep the rule.
use Rattle.std.proofs.Common.{◌≡◌, ◌≢◌, ℕ, zero, suc, ◌+◌, ◌%◌, ◌^◌, ◌<◌, Bool, true, false, cond, ◌⊎◌, List, [], ◌∷◌, ◌++◌, length, set, eqb, Option, Some, None, is_some, refl, sym, ap, ◌∙◌, subst, inl, inr, ⊎_elim, arith, slice_index}
use mathlib.Core.Option.{some}
use lib.ListN.{get_elem?}
use Rattle.sg_trace.specs.Traces.{Stage, Event}
use Rattle.sg_history.specs.Histories.{Begins, own, is_own, IsHistory}
use Rattle.sg_history.specs.Views.{Pen, Known, IsThere, Fits, Kept, first_pen}
use Rattle.sg_history.specs.Steps.{Looks, MayAdd, pen_with, added}
use Rattle.sg_history.proofs.Beginnings.{begins_itself, begins_empty, begins_longer, own_without}
use Rattle.sg_history.proofs.Seats.{each_set, covers_set, unseated_before, holds_set, holds_here, same_view}

pub some_pen : (o : Option Pen) (p : Pen) → o ≡ Some p → is_some o ≡ true
some_pen o p e = ap is_some e

-- ---- the table at its start
first_one : (w : Stage) (i : ℕ) (v : Known) → IsThere (first_pen w ∷ []) i v → Fits w [] 0 0 (λ s. 0) i v
first_one w zero v h =
    subst (Fits w [] 0 0 (λ s. 0) 0) (mathlib.Core.Option.some-injective (first_pen w) v h.0) (record {
      stage = refl;
      seen = begins_itself [];
      kept = begins_itself [];
      mine = λ n. absurd (n refl);
      place = λ n. absurd (n refl);
      within = omega arith;
      pen = λ e. refl;
    })
first_one w (suc i) v h = absurd (mathlib.Core.Option.some-ne-none v (sym h.0))

pub begins : (w : Stage) → IsHistory w [] → Kept (0 ∷ []) (first_pen w ∷ [])
begins w l = record {
  stage = w;
  history = [];
  seats = 0;
  at = 0;
  place = λ s. 0;
  legal = l;
  word = refl;
  holds = record { view = first_pen w; there = (refl, refl); has = refl };
  fits = first_one w;
  others = λ s is none. refl;
}

-- ---- a view that is replaced, where the history stays
pub replaced : (words ws : List ℕ) (views : List Known) (h : Kept words views) → ws ≡ length h.history ∷ [] → (id : ℕ) (v w : Known) → IsThere views id v → w.spent ≡ false → w.session ≡ v.session → w.pen ≡ v.pen
    → Fits h.stage h.history h.seats h.at h.place id w → Kept ws (set views id w)
replaced words ws views h word id v w there live whose pen fits = record {
  stage = h.stage;
  history = h.history;
  seats = h.seats;
  at = h.at;
  place = h.place;
  legal = h.legal;
  word = word;
  holds = holds_set views h.at (record { stage = h.stage; history = h.history; seats = h.seats }) id v w h.holds there live pen;
  fits = each_set (Fits h.stage h.history h.seats h.at h.place) views id w (λ j u n t. h.fits j u t) (λ s. fits);
  others = λ s is none. h.others s is (unseated_before views (set views id w) (covers_set views id v w there live whose) s is none);
}

-- ---- looking
abbrev pub looked : Known → List Event → Known
looked v es = record v { seen = es; kept = [] }

-- whoever has the pen knows the history
pub pen_is : (words : List ℕ) (views : List Known) (h : Kept words views) (id : ℕ) (v : Known) → IsThere views id v → (p : Pen) → v.pen ≡ Some p → (id ≡ h.at) × (p ≡ record { stage = h.stage; history = h.history; seats = h.seats })
pen_is words views h id v there p has =
    let here : id ≡ h.at = (h.fits id v there).pen (some_pen v.pen p has) in
    let is : v ≡ h.holds.view = same_view views id v h.holds.view there (ap (get_elem? views) here ∙ h.holds.there.0, h.holds.there.1) in
    let both : Some p ≡ Some (record { stage = h.stage; history = h.history; seats = h.seats }) = sym has ∙ (ap (λ (x : Known). x.pen) is ∙ h.holds.has) in
    (here, cc both)

pub looks : (words : List ℕ) (views : List Known) (id : ℕ) (v : Known) → (h : Kept words views) → IsThere views id v → Kept (set words 0 (slice_index words 0)) (set views id (looked v h.history)) × Looks v (slice_index words 0) (looked v h.history)
looks words views id v h there =
    let f = h.fits id v there in (
      replaced words (set words 0 (slice_index words 0)) views h (ap (λ (ws : List ℕ). set ws 0 (slice_index ws 0)) h.word) id v (looked v h.history) there there.1 refl refl (record {
        stage = f.stage;
        seen = begins_itself h.history;
        kept = begins_empty h.history;
        mine = f.mine;
        place = f.place;
        within = f.within;
        pen = f.pen;
      }),
      record {
        same = refl;
        length = sym (ap (λ (ws : List ℕ). slice_index ws 0) h.word);
        history = subst (λ (w : Stage). IsHistory w h.history) (sym f.stage) h.legal;
        seen = f.seen;
        kept = f.kept;
        mine = f.mine;
        pen = λ u es has. let is = pen_is words views h id v there (record { stage = u; history = es; seats = has.0 }) has.1 in (f.stage ∙ ap (λ (p : Pen). p.stage) (sym is.1), ap (λ (p : Pen). p.history) (sym is.1));
      },
    )

-- ---- adding
adds_fits : (stage : Stage) (history : List Event) (seats at : ℕ) (place : ℕ → ℕ) (i : ℕ) (u : Known) (e : Event) → Fits stage history seats at place i u → (u.session ≢ 0 → own u.session (e ∷ history) ≡ own u.session history) → Fits stage (e ∷ history) seats at place i u
adds_fits stage history seats at place i u e f same = record {
  stage = f.stage;
  seen = begins_longer e u.seen history f.seen;
  kept = begins_longer e u.kept history f.kept;
  mine = λ n. f.mine n ∙ sym (same n);
  place = f.place;
  within = f.within;
  pen = f.pen;
}

next_word : (words : List ℕ) (history : List Event) (e : Event) → words ≡ length history ∷ [] → length (e ∷ history) < 2 ^ 64 → set words 0 ((slice_index words 0 + 1) % 2 ^ 64) ≡ length (e ∷ history) ∷ []
next_word words history e word room =
    ap (λ (ws : List ℕ). set ws 0 ((slice_index ws 0 + 1) % 2 ^ 64)) word ∙ ap (λ (n : ℕ). n ∷ []) (small (length history) room)
  where
    small : (n : ℕ) → suc n < 2 ^ 64 → (n + 1) % 2 ^ 64 ≡ suc n
    small n r = Rattle.std.proofs.Common.mod-eq_of_lt (omega arith) ∙ omega arith

pub adds : (words : List ℕ) (views : List Known) (id : ℕ) (v : Known) (e : Event) → Kept words views → IsThere views id v → MayAdd v e → Kept (set words 0 ((slice_index words 0 + 1) % 2 ^ 64)) (set views id (added e v))
adds words views id v e h there may =
    let p : Pen = record { stage = v.stage; history = v.seen; seats = may.pen.0 } in
    let is = pen_is words views h id v there p may.pen.1 in
    let seen : v.seen ≡ h.history = ap (λ (x : Pen). x.history) is.1 in
    let seats : may.pen.0 ≡ h.seats = ap (λ (x : Pen). x.seats) is.1 in
    let f = h.fits id v there in
    let w = added e v in
    let pen : w.pen ≡ Some (record { stage = h.stage; history = e ∷ h.history; seats = h.seats }) = ap (pen_with e) may.pen.1 ∙ ap (λ (x : Pen). Some (record { stage = x.stage; history = e ∷ x.history; seats = x.seats })) is.1 in
    record {
      stage = h.stage;
      history = e ∷ h.history;
      seats = h.seats;
      at = id;
      place = h.place;
      legal = subst (λ (x : List Event). IsHistory h.stage (e ∷ x)) seen (subst (λ (x : Stage). IsHistory x (e ∷ v.seen)) f.stage may.legal);
      word = next_word words h.history e h.word (subst (λ (x : List Event). length (e ∷ x) < 2 ^ 64) seen may.room);
      holds = holds_here views id v w (record { stage = h.stage; history = e ∷ h.history; seats = h.seats }) there there.1 pen;
      fits = each_set (Fits h.stage (e ∷ h.history) h.seats id h.place) views id w
          (λ j u n t. let g = h.fits j u t in
          subst (λ (a : ℕ). Fits h.stage (e ∷ h.history) h.seats a h.place j u) (sym is.0)
          (adds_fits h.stage h.history h.seats h.at h.place j u e g
          (λ z. own_without u.session v.session e h.history may.whose (λ s. n (sym (g.place z) ∙ (ap h.place s ∙ f.place may.caller))))))
          (λ s. record {
            stage = f.stage;
            seen = subst (λ (x : List Event). Begins (e ∷ v.seen) (e ∷ x)) seen (begins_itself (e ∷ v.seen));
            kept = begins_longer e v.kept h.history f.kept;
            mine = λ n. ap (λ (m : List Event). cond (is_own v.session e) (e ∷ m) m) (f.mine n);
            place = f.place;
            within = f.within;
            pen = λ o. refl;
          });
      others = λ s is' none.
          let old = unseated_before views (set views id w) (covers_set views id v w there there.1 refl) s is' none in
          own_without s v.session e h.history may.whose (λ q. old id v there (sym q)) ∙ h.others s is' old;
    }
