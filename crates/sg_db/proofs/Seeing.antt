-- What a look and a note leave of a seat.
use Rattle.std.proofs.Common.{◌≡◌, ℕ, Bool, List, [], ◌++◌, refl, sym, ap, ◌∙◌, subst}
use Rattle.sg_trace.specs.Traces.{Stage, Event, Local}
use Rattle.sg_trace.specs.Legal.{IsLegal}
use Rattle.sg_history.specs.Histories.{own, IsHistory}
use Rattle.sg_history.specs.Views.{Known}
use Rattle.sg_history.specs.Openings.{Held}
use Rattle.sg_history.specs.Steps.{Looks}
use Rattle.sg_history.specs.Staying.{local}
use Rattle.sg_history.proofs.Staying.{none_own, closed_stays}
use Rattle.sg_db.specs.Callers.{IsSeat, seat_shown, is_live_in}
use Rattle.sg_db.specs.Theorem.{HasLooked, front_of}
use Rattle.sg_db.proofs.Telling.{not_zero}

-- what a look tells, where a note may have been kept before
module _ (s : ℕ) (live : Bool) (v : Known) (kept : List Event) (w : Known) (found : ℕ) (seat : IsSeat s live v) (looks : Looks (record v { kept = kept }) found w) where
  abbrev more : List Event
  more = looks.seen.0

  mine_is : w.mine ≡ v.mine
  mine_is = ap (λ (u : Known). u.mine) looks.same

  stage_is : w.stage ≡ v.stage
  stage_is = ap (λ (u : Known). u.stage) looks.same

  own_is : v.mine ≡ own s w.seen
  own_is = looks.mine (not_zero s v seat.caller.seat) ∙ ap (λ n. own n w.seen) seat.caller.seat.session

  none : own s more ≡ []
  none = none_own s more v.seen (ap (own s) (sym looks.seen.1) ∙ (sym own_is ∙ seat.caller.mine))

  history_is : IsHistory w.stage w.seen
  history_is = subst (λ (u : Stage). IsHistory u w.seen) (sym stage_is) looks.history

  local_is : local w.stage w.seen s ≡ local v.stage v.seen s
  local_is =
      let l : IsLegal v.stage (more ++ v.seen) = subst (IsLegal v.stage) looks.seen.1 looks.history.legal in
      (λ i. local (stage_is i) (looks.seen.1 i) s) ∙ (closed_stays v.stage s more v.seen l none seat.closed).0

  pub live_same : is_live_in w.stage s w.seen ≡ is_live_in v.stage s v.seen
  live_same = ap (λ (x : Local). x.live) local_is

  pub seat_still : IsSeat s live w
  seat_still = record {
    caller = record {
      seat = record { session = ap (λ (u : Known). u.session) looks.same ∙ seat.caller.seat.session; caller = seat.caller.seat.caller; penless = ap (λ (u : Known). u.pen) looks.same ∙ seat.caller.seat.penless };
      kept = ap (λ (u : Known). u.kept) looks.same;
      history = history_is;
      mine = mine_is ∙ own_is;
    };
    live = seat.live ∙ ap (λ (x : Local). x.live) (sym local_is);
    closed = ap (λ (x : Local). x.open_one) local_is ∙ seat.closed;
  }

  pub has_looked : (old new : Held) → old.known ≡ v → new.known ≡ w → new.table ≡ old.table → HasLooked (seat_shown s old) (seat_shown s new) (front_of (seat_shown s new))
  has_looked old new is now table = record {
    more = more;
    seen = record {
      table = table;
      stage = ap (λ (u : Known). u.stage) now ∙ (stage_is ∙ ap (λ (u : Known). u.stage) (sym is));
      session = refl;
      seen = ap (λ (u : Known). u.seen) now ∙ (looks.seen.1 ∙ ap (λ (u : Known). more ++ u.seen) (sym is));
      mine = ap (λ (u : Known). u.mine) now ∙ (mine_is ∙ (ap (λ (u : Known). u.mine) (sym is) ∙ ap (λ (l : List Event). l ++ old.known.mine) (sym none)));
      all = ap (λ (u : Known). own s u.seen) now ∙ (sym own_is ∙ (sym mine_is ∙ ap (λ (u : Known). u.mine) (sym now)));
      legal = subst (λ (u : Known). IsHistory u.stage u.seen) (sym now) history_is;
    };
    none = none;
    mine = ap (λ (u : Known). u.mine) now ∙ (mine_is ∙ ap (λ (u : Known). u.mine) (sym is));
    front = refl;
  }
