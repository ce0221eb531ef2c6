-- Notes, seats and the pen are split off and joined, and the rule is kept.
use Rattle.std.proofs.Common.{◌≡◌, ◌≢◌, ℕ, suc, ◌≤◌, Bool, true, false, cond, List, [], ◌∷◌, ◌++◌, length, set, eqb, Option, Some, None, is_some, refl, sym, ap, ◌∙◌, subst, arith}
use Rattle.std.proofs.lemmas.Bool.{eqb-true, eqb-false, eq-eqb, ne_eqb}
use mathlib.Core.Option.{some}
use lib.ListN.{get_elem?}
use Rattle.atomic_table.proofs.Lists.{set_again, set_else, at_last}
use Rattle.sg_trace.specs.Traces.{Stage, Event}
use Rattle.sg_history.specs.Histories.{own}
use Rattle.sg_history.specs.Views.{Pen, Known, IsThere, Holds, Fits, Kept, nobody, note_of, pen_of, without_pen, with_pen, with_note, seats_in, one_more, with_seat, new_seat}
use Rattle.sg_history.specs.Steps.{HasPen}
use Rattle.sg_history.proofs.Beginnings.{begins_empty}
use Rattle.sg_history.proofs.Seats.{each_set, each_more, covers_set, covers_more, covers_spent, covers_through, unseated_before, holds_more, holds_here, same_view}
use Rattle.sg_history.proofs.Looking.{pen_is, replaced}

-- ---- a note
pub splits_note : (words : List ℕ) (views : List Known) (id : ℕ) (v : Known) → Kept words views → IsThere views id v → Kept words (set views id v ++ note_of v ∷ [])
splits_note words views id v h there =
    subst (λ (l : List Known). Kept words (l ++ note_of v ∷ [])) (sym (set_again views id v there.0))
    (let f = h.fits id v there in
    record {
      stage = h.stage;
      history = h.history;
      seats = h.seats;
      at = h.at;
      place = h.place;
      legal = h.legal;
      word = h.word;
      holds = holds_more views h.at (record { stage = h.stage; history = h.history; seats = h.seats }) (note_of v) h.holds;
      fits = each_more (Fits h.stage h.history h.seats h.at h.place) views (note_of v) h.fits (λ s. record {
        stage = f.stage;
        seen = f.seen;
        kept = begins_empty h.history;
        mine = λ n. absurd (n refl);
        place = λ n. absurd (n refl);
        within = omega arith;
        pen = λ e. absurd (cc e);
      });
      others = λ s is none. h.others s is (unseated_before views (views ++ note_of v ∷ []) (covers_more views (note_of v)) s is none);
    })

pub joins_note : (words : List ℕ) (views : List Known) (id : ℕ) (v : Known) (other : ℕ) (u : Known) → Kept words views → IsThere views id v → ¬ (other ≡ id) → u.spent ≡ false → u.session ≡ 0 → u.pen ≡ None → get_elem? (set views id (with_note v u)) other ≡ some u
    → Kept words (set (set views id (with_note v u)) other nobody)
joins_note words views id v other u h there apart live none penless at =
    let w = with_note v u in
    let was : get_elem? views other ≡ some u = sym (set_else views id other w apart) ∙ at in
    let f = h.fits id v there in
    let g = h.fits other u (was, live) in
    spent (replaced words words views h h.word id v w there there.1 refl refl (record {
      stage = f.stage;
      seen = f.seen;
      kept = g.seen;
      mine = f.mine;
      place = f.place;
      within = f.within;
      pen = f.pen;
    }))
  where
    w : Known
    w = with_note v u

    spent : Kept words (set views id w) → Kept words (set (set views id w) other nobody)
    spent k = record {
      stage = k.stage;
      history = k.history;
      seats = k.seats;
      at = k.at;
      place = k.place;
      legal = k.legal;
      word = k.word;
      holds = keeps k.at (record { stage = k.stage; history = k.history; seats = k.seats }) k.holds (eqb k.at other) refl;
      fits = each_set (Fits k.stage k.history k.seats k.at k.place) (set views id w) other nobody (λ j x n t. k.fits j x t) (λ e. absurd (cc e));
      others = λ s is bare. k.others s is (unseated_before (set views id w) (set (set views id w) other nobody) (covers_spent (set views id w) other u nobody (at, live) none) s is bare);
    }
      where
        keeps : (a : ℕ) (p : Pen) → Holds (set views id w) a p → (b : Bool) → eqb a other ≡ b → Holds (set (set views id w) other nobody) a p
        keeps a p o true q =
            let e : a ≡ other = eqb-true a other q in
            let is : o.view ≡ u = same_view (set views id w) other o.view u (ap (get_elem? (set views id w)) (sym e) ∙ o.there.0, o.there.1) (at, live) in
            let no : None ≡ Some p = sym penless ∙ (ap (λ (x : Known). x.pen) (sym is) ∙ o.has) in
            absurd (cc no)
        keeps a p o false q = record { view = o.view; there = (set_else (set views id w) other a nobody (eqb-false a other q) ∙ o.there.0, o.there.1); has = o.has }

-- ---- the pen
-- the rule of a view that has no pen doesn't ask who has it
elsewhere : (stage : Stage) (history : List Event) (seats at to : ℕ) (place : ℕ → ℕ) (i : ℕ) (u : Known) → Fits stage history seats at place i u → (is_some u.pen ≡ true → i ≡ to) → Fits stage history seats to place i u
elsewhere stage history seats at to place i u f pen = record { stage = f.stage; seen = f.seen; kept = f.kept; mine = f.mine; place = f.place; within = f.within; pen = pen }

pub joins_pen : (words : List ℕ) (views : List Known) (id : ℕ) (v : Known) (other : ℕ) (u : Known) → Kept words views → IsThere views id v → ¬ (other ≡ id) → u.spent ≡ false → u.session ≡ 0 → (p : Pen) → u.pen ≡ Some p → get_elem? (set views id (with_pen v u)) other ≡ some u
    → Kept words (set (set views id (with_pen v u)) other nobody)
joins_pen words views id v other u h there apart live none p has at =
    let w = with_pen v u in
    let was : get_elem? views other ≡ some u = sym (set_else views id other w apart) ∙ at in
    let is = pen_is words views h other u (was, live) p has in
    let q : Pen = record { stage = h.stage; history = h.history; seats = h.seats } in
    let pen : w.pen ≡ Some q = has ∙ ap (λ (x : Pen). Some x) is.1 in
    let f = h.fits id v there in
    let held : Holds (set views id w) id q = holds_here views id v w q there there.1 pen in
    record {
      stage = h.stage;
      history = h.history;
      seats = h.seats;
      at = id;
      place = h.place;
      legal = h.legal;
      word = h.word;
      holds = record { view = held.view; there = (set_else (set views id w) other id nobody (λ e. apart (sym e)) ∙ held.there.0, held.there.1); has = held.has };
      fits = each_set (Fits h.stage h.history h.seats id h.place) (set views id w) other nobody
          (λ j x n t. each_set (λ i y. i ≢ other → Fits h.stage h.history h.seats id h.place i y) views id w
          (λ i y m s away. elsewhere h.stage h.history h.seats h.at id h.place i y (h.fits i y s) (λ e. absurd (away ((h.fits i y s).pen e ∙ sym is.0))))
          (λ s away. record { stage = f.stage; seen = f.seen; kept = f.kept; mine = f.mine; place = f.place; within = f.within; pen = λ e. refl })
          j x t n)
          (λ e. absurd (cc e));
      others = λ s is' bare. h.others s is' (unseated_before views (set (set views id w) other nobody)
          (covers_through views (set views id w) (set (set views id w) other nobody) (covers_set views id v w there there.1 refl) (covers_spent (set views id w) other u nobody (at, live) none)) s is' bare);
    }

-- whoever has the pen gives it away, and is left without it
pub splits_pen : (words : List ℕ) (views : List Known) (id : ℕ) (v : Known) → Kept words views → IsThere views id v → (p : Pen) → v.pen ≡ Some p → Kept words (set views id (without_pen v) ++ pen_of v ∷ [])
splits_pen words views id v h there p has =
    let w = without_pen v in
    let is = pen_is words views h id v there p has in
    let q : Pen = record { stage = h.stage; history = h.history; seats = h.seats } in
    let n = length (set views id w) in
    let f = h.fits id v there in
    record {
      stage = h.stage;
      history = h.history;
      seats = h.seats;
      at = n;
      place = h.place;
      legal = h.legal;
      word = h.word;
      holds = record { view = pen_of v; there = (at_last (set views id w) (pen_of v) n refl, there.1); has = has ∙ ap (λ (x : Pen). Some x) is.1 };
      fits = each_more (Fits h.stage h.history h.seats n h.place) (set views id w) (pen_of v)
          (each_set (Fits h.stage h.history h.seats n h.place) views id w
          (λ j x m t. elsewhere h.stage h.history h.seats h.at n h.place j x (h.fits j x t) (λ e. absurd (m ((h.fits j x t).pen e ∙ sym is.0))))
          (λ s. record { stage = f.stage; seen = f.seen; kept = f.kept; mine = f.mine; place = f.place; within = f.within; pen = λ e. absurd (cc e) }))
          (λ s. record {
            stage = f.stage;
            seen = begins_empty h.history;
            kept = begins_empty h.history;
            mine = λ m. absurd (m refl);
            place = λ m. absurd (m refl);
            within = omega arith;
            pen = λ e. refl;
          });
      others = λ s is' bare. h.others s is' (unseated_before views (set views id w ++ pen_of v ∷ [])
          (covers_through views (set views id w) (set views id w ++ pen_of v ∷ []) (covers_set views id v w there there.1 refl) (covers_more (set views id w) (pen_of v))) s is' bare);
    }

-- ---- a seat more
-- While the history is empty, the view that has the pen may make a seat for the next session.
pub splits_seat : (words : List ℕ) (views : List Known) (id : ℕ) (v : Known) → Kept words views → IsThere views id v → v.session ≡ 0 → HasPen v v.stage [] → Kept words (set views id (with_seat v) ++ new_seat v ∷ [])
splits_seat words views id v h there none pen =
    let w = with_seat v in
    let p : Pen = record { stage = v.stage; history = []; seats = pen.0 } in
    let is = pen_is words views h id v there p pen.1 in
    let empty : [] ≡ h.history = ap (λ (x : Pen). x.history) is.1 in
    let count : seats_in v.pen ≡ h.seats = ap seats_in pen.1 ∙ ap (λ (x : Pen). x.seats) is.1 in
    let q : Pen = record { stage = h.stage; history = h.history; seats = suc h.seats } in
    let has : w.pen ≡ Some q = ap one_more pen.1 ∙ ap (λ (x : Pen). one_more (Some x)) is.1 in
    let n = length (set views id w) in
    let place : ℕ → ℕ = λ s. cond (eqb s (suc h.seats)) n (h.place s) in
    let f = h.fits id v there in
    let keeps : (s i : ℕ) → s ≤ h.seats → h.place s ≡ i → place s ≡ i = λ s i le e. ap (λ b. cond b n (h.place s)) (ne_eqb s (suc h.seats) (λ r. omega (arith, r, le))) ∙ e in
    let held : Holds (set views id w) id q = holds_here views id v w q there there.1 has in
    record {
      stage = h.stage;
      history = h.history;
      seats = suc h.seats;
      at = id;
      place = place;
      legal = h.legal;
      word = h.word;
      holds = holds_more (set views id w) id q (new_seat v) held;
      fits = each_more (Fits h.stage h.history (suc h.seats) id place) (set views id w) (new_seat v)
          (each_set (Fits h.stage h.history (suc h.seats) id place) views id w
          (λ j x m t. let g = h.fits j x t in record {
            stage = g.stage;
            seen = g.seen;
            kept = g.kept;
            mine = g.mine;
            place = λ z. keeps x.session j g.within (g.place z);
            within = let le = g.within in omega arith;
            pen = λ e. g.pen e ∙ sym is.0;
          })
          (λ s. record {
            stage = f.stage;
            seen = f.seen;
            kept = f.kept;
            mine = f.mine;
            place = λ z. absurd (z none);
            within = let le = f.within in omega arith;
            pen = λ e. refl;
          }))
          (λ s. record {
            stage = f.stage;
            seen = begins_empty h.history;
            kept = begins_empty h.history;
            mine = λ z. ap (own (suc (seats_in v.pen))) empty;
            place = λ z. ap (λ b. cond b n (h.place (suc (seats_in v.pen)))) (eq-eqb (suc (seats_in v.pen)) (suc h.seats) (ap suc count));
            within = let c = count in omega arith;
            pen = λ e. absurd (cc e);
          });
      others = λ s is' bare. h.others s is' (unseated_before views (set views id w ++ new_seat v ∷ [])
          (covers_through views (set views id w) (set views id w ++ new_seat v ∷ []) (covers_set views id v w there there.1 refl) (covers_more (set views id w) (new_seat v))) s is' bare);
    }

pub some_of : (o : Option Pen) → (o ≡ None → ⊥) → (p : Pen) × (o ≡ Some p)
some_of None n = absurd (n refl)
some_of (Some p) n = (p, refl)
