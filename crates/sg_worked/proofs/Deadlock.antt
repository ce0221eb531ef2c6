-- The deadlock, event by event.
use Rattle.std.proofs.Common.{◌≡◌, ◌≢◌, ◌⊎◌, ℕ, zero, suc, ◌<◌, ◌≤◌, Bool, true, false, cond, ◌||◌, List, [], ◌∷◌, eqb, refl, sym, subst, inl, inr, ℤ, pos, Some, None, arith, lit≤}
use Rattle.std.specs.Prelude.{Contains, IsSomeAnd}
use Rattle.sg_shape.specs.declared.shapes.Shape.{Shape}
use Rattle.sg_shape.specs.declared.matrices.Pred.TheVariants.{Intersects}
use Rattle.sg_plane.specs.Decisions.{related, meets, meets_box, covers_box, leaves_box}
use Rattle.sg_cells.specs.declared.keys.Key.TheVariants.{Row, RowEnd, Cell, CellEnd}
use Rattle.sg_modes.specs.declared.modes.Mode.TheVariants.{X, RangeSS, RangeIN, RangeXX}
use Rattle.sg_plain.specs.declared.statements.Statement.TheVariants.{Insert, Update, Select}
use Rattle.sg_plain.specs.declared.statements.Answer.TheVariants.{Inserted, Done, Keys}
use Rattle.sg_plain.specs.Rows.{IsKeysWith}
use Rattle.sg_plain.specs.Sat.{Satisfies}
use Rattle.sg_trace.specs.Traces.{Event, Begin, Ask, Take, Put, Wait, Victim, Answered, Commit, all_sessions, labels_of}
use Rattle.sg_trace.specs.Legal.{IsLegal, IsSettled, IsChosen, Takes, Puts, waits}
use Rattle.sg_trace.specs.Scripts.{IsLegalFor, Follows}
use Rattle.std.proofs.lemmas.Bool.{eqb-true, or_cases}
use Rattle.std.specs.Prelude.{◌≤ℤ◌}
use Rattle.std.specs.Int.Signed.{≤ℤ_refl}
use Rattle.std.proofs.Math.Nat.{le_refl}
use Rattle.sg_modes.specs.Sessions.{has_session, AreSessions}
use Rattle.sg_modes.specs.Priorities.{priority_of}
use Rattle.sg_modes.specs.Waits.{Chain, IsSteps, IsNextMember, IsCycleSet}
use Rattle.sg_modes.specs.Victims.{IsVictim}
use Rattle.sg_trace.specs.Traces.{state}
use Rattle.sg_trace.specs.Legal.{cost}
use Rattle.sg_worked.specs.Worked.{at, near_five, bare, indexed, deadlock_stage, deadlock_script, deadlock_labels}
use Rattle.sg_worked.proofs.Settling.{no_waits, one_wait}

deadlock_1 : List Event
deadlock_1 = Begin 1 1 ∷ []

deadlock_1-legal : IsLegal deadlock_stage deadlock_1
unfolding deadlock_stage bare at all_sessions deadlock_1
deadlock_1-legal = (tt, ((lit≤ tt, lit≤ tt), refl, refl), no_waits (waits []) 0 refl)

deadlock_2 : List Event
deadlock_2 = Ask 1 1 (Update 1 (at (pos 10))) ∷ deadlock_1

deadlock_2-legal : IsLegal deadlock_stage deadlock_2
unfolding deadlock_stage bare at all_sessions deadlock_1 deadlock_2
deadlock_2-legal = (deadlock_1-legal, (record { live = refl; none_open = refl }, refl, refl), no_waits (waits deadlock_1) 0 refl)

deadlock_3 : List Event
deadlock_3 = Take 1 (Row 1) X ∷ deadlock_2

deadlock_3-legal : IsLegal deadlock_stage deadlock_3
unfolding deadlock_stage bare at all_sessions deadlock_1 deadlock_2 deadlock_3
deadlock_3-legal = (deadlock_2-legal, (Update 1 (at (pos 10)), record { live = refl; open_one = refl; no_wait = refl }, record { selected = []; selects = refl; follows = refl }, refl), no_waits (waits deadlock_2) 0 refl)

deadlock_4 : List Event
deadlock_4 = Answered 1 Done ∷ deadlock_3

deadlock_4-legal : IsLegal deadlock_stage deadlock_4
unfolding deadlock_stage bare at all_sessions deadlock_1 deadlock_2 deadlock_3 deadlock_4
deadlock_4-legal = (deadlock_3-legal, (Update 1 (at (pos 10)), record { live = refl; open_one = refl; no_wait = refl }, record { selected = []; selects = refl; follows = refl }), no_waits (waits deadlock_3) 0 refl)

deadlock_5 : List Event
deadlock_5 = Begin 2 1 ∷ deadlock_4

deadlock_5-legal : IsLegal deadlock_stage deadlock_5
unfolding deadlock_stage bare at all_sessions deadlock_1 deadlock_2 deadlock_3 deadlock_4 deadlock_5
deadlock_5-legal = (deadlock_4-legal, ((lit≤ tt, lit≤ tt), refl, refl), no_waits (waits deadlock_4) 0 refl)

deadlock_6 : List Event
deadlock_6 = Ask 2 1 (Update 2 (at (pos 30))) ∷ deadlock_5

deadlock_6-legal : IsLegal deadlock_stage deadlock_6
unfolding deadlock_stage bare at all_sessions deadlock_1 deadlock_2 deadlock_3 deadlock_4 deadlock_5 deadlock_6
deadlock_6-legal = (deadlock_5-legal, (record { live = refl; none_open = refl }, refl, refl), no_waits (waits deadlock_5) 0 refl)

deadlock_7 : List Event
deadlock_7 = Take 2 (Row 2) X ∷ deadlock_6

deadlock_7-legal : IsLegal deadlock_stage deadlock_7
unfolding deadlock_stage bare at all_sessions deadlock_1 deadlock_2 deadlock_3 deadlock_4 deadlock_5 deadlock_6 deadlock_7
deadlock_7-legal = (deadlock_6-legal, (Update 2 (at (pos 30)), record { live = refl; open_one = refl; no_wait = refl }, record { selected = []; selects = refl; follows = refl }, refl), no_waits (waits deadlock_6) 0 refl)

deadlock_8 : List Event
deadlock_8 = Answered 2 Done ∷ deadlock_7

deadlock_8-legal : IsLegal deadlock_stage deadlock_8
unfolding deadlock_stage bare at all_sessions deadlock_1 deadlock_2 deadlock_3 deadlock_4 deadlock_5 deadlock_6 deadlock_7 deadlock_8
deadlock_8-legal = (deadlock_7-legal, (Update 2 (at (pos 30)), record { live = refl; open_one = refl; no_wait = refl }, record { selected = []; selects = refl; follows = refl }), no_waits (waits deadlock_7) 0 refl)

deadlock_9 : List Event
deadlock_9 = Ask 1 2 (Update 2 (at (pos 20))) ∷ deadlock_8

deadlock_9-legal : IsLegal deadlock_stage deadlock_9
unfolding deadlock_stage bare at all_sessions deadlock_1 deadlock_2 deadlock_3 deadlock_4 deadlock_5 deadlock_6 deadlock_7 deadlock_8 deadlock_9
deadlock_9-legal = (deadlock_8-legal, (record { live = refl; none_open = refl }, refl, refl), no_waits (waits deadlock_8) 0 refl)

deadlock_10 : List Event
deadlock_10 = Wait 1 (Row 2) X (2 ∷ []) ∷ deadlock_9

deadlock_10-legal : IsLegal deadlock_stage deadlock_10
unfolding deadlock_stage bare at all_sessions deadlock_1 deadlock_2 deadlock_3 deadlock_4 deadlock_5 deadlock_6 deadlock_7 deadlock_8 deadlock_9 deadlock_10
deadlock_10-legal = (deadlock_9-legal, (Update 2 (at (pos 20)), record { live = refl; open_one = refl; no_wait = refl }, record { act = Takes (Row 2) X; is_act = record { selected = []; selects = refl; follows = refl }; reason = inl refl }, refl, λ e. absurd (cc)), no_waits (waits deadlock_9) 0 refl)

deadlock_11 : List Event
deadlock_11 = Ask 2 2 (Update 1 (at (pos 40))) ∷ deadlock_10

deadlock_11-legal : IsLegal deadlock_stage deadlock_11
unfolding deadlock_stage bare at all_sessions deadlock_1 deadlock_2 deadlock_3 deadlock_4 deadlock_5 deadlock_6 deadlock_7 deadlock_8 deadlock_9 deadlock_10 deadlock_11
deadlock_11-legal = (deadlock_10-legal, (record { live = refl; none_open = refl }, refl, refl), one_wait (waits deadlock_10) 1 2 refl refl (λ e. omega arith))

deadlock_12 : List Event
deadlock_12 = Wait 2 (Row 1) X (1 ∷ []) ∷ deadlock_11

deadlock_12-legal : IsLegal deadlock_stage deadlock_12
unfolding deadlock_stage bare at all_sessions deadlock_1 deadlock_2 deadlock_3 deadlock_4 deadlock_5 deadlock_6 deadlock_7 deadlock_8 deadlock_9 deadlock_10 deadlock_11 deadlock_12
deadlock_12-legal = (deadlock_11-legal, (Update 1 (at (pos 40)), record { live = refl; open_one = refl; no_wait = refl }, record { act = Takes (Row 1) X; is_act = record { selected = []; selects = refl; follows = refl }; reason = inl refl }, refl, λ e. absurd (cc)), one_wait (waits deadlock_11) 1 2 refl refl (λ e. omega arith))

-- ---- the cycle of session 2: it waits for session 1, and session 1 for it
in_cycle : (u : ℕ) → has_session (1 ∷ 2 ∷ []) u ≡ true → (u ≡ 1) ⊎ (u ≡ 2)
in_cycle u h = elim (or_cases (eqb u 1) (eqb u 2 || false) h) [ inl a ↦ inl (eqb-true u 1 a) | inr b ↦ elim (or_cases (eqb u 2) false b) [ inl c ↦ inr (eqb-true u 2 c) | inr d ↦ absurd (cc) ] ]

only : (z u : ℕ) → has_session (u ∷ []) z ≡ true → z ≡ u
only z u h = elim (or_cases (eqb z u) false h) [ inl a ↦ eqb-true z u a | inr b ↦ absurd (cc) ]

-- a chain between two sessions that differ has a wait
some_wait : (f : ℕ → List ℕ) (m x s : ℕ) → x ≢ s → Chain f m x s → 1 ≤ m
some_wait f zero x s ne l = absurd (ne l)
some_wait f (suc m) x s ne l = omega arith

no_wait_to_itself : (f : ℕ → List ℕ) (s n : ℕ) → IsSteps f s s n → n ≡ 0
no_wait_to_itself f s n steps = let l : n ≤ 0 = steps.fewest 0 refl in omega arith

module _ (f : ℕ → List ℕ) (one : f 1 ≡ 2 ∷ []) (two : f 2 ≡ 1 ∷ []) where
  waited_by_two : (z : ℕ) → has_session (f 2) z ≡ true → z ≡ 1
  waited_by_two z h = only z 1 (subst (λ xs. has_session xs z ≡ true) two h)

  waited_by_one : (z : ℕ) → has_session (f 1) z ≡ true → z ≡ 2
  waited_by_one z h = only z 2 (subst (λ xs. has_session xs z ≡ true) one h)

  leads : IsSteps f 1 2 1
  leads = record {
    chain = (2, subst (λ xs. has_session xs 2 ≡ true) (sym one) refl, refl);
    fewest = λ m l. some_wait f m 1 2 (λ e. omega arith) l;
  }

  first_is_one : IsNextMember f 2 2 1
  first_is_one = record {
    steps = 1;
    waits = subst (λ xs. has_session xs 1 ≡ true) (sym two) refl;
    leads = leads;
    fewest = λ z n h l. some_wait f n z 2 (λ e. let a = waited_by_two z h in omega arith) l.chain;
    least = λ z h l. let a = waited_by_two z h in omega arith;
  }

  then_two : IsNextMember f 2 1 2
  then_two = record {
    steps = 0;
    waits = subst (λ xs. has_session xs 2 ≡ true) (sym one) refl;
    leads = record { chain = refl; fewest = λ m l. omega arith };
    fewest = λ z n h l. omega arith;
    least = λ z h l. let a = waited_by_one z h in omega arith;
  }

  cycle_of_two : IsCycleSet f 2 (1 ∷ 2 ∷ [])
  cycle_of_two = record {
    order = 2 ∷ 1 ∷ [];
    cycle = (refl, (first_is_one, (λ e. omega arith), then_two));
    members = λ n. swapped (eqb n 1) (eqb n 2);
  }
    where
      swapped : (a b : Bool) → (a || (b || false)) ≡ (b || (a || false))
      swapped true true = refl
      swapped true false = refl
      swapped false true = refl
      swapped false false = refl

module _ (priority : ℕ → ℤ) (price : ℕ → ℕ) (alike : priority 1 ≡ priority 2) (priced : price 1 ≡ price 2) where
  greater_number : IsVictim priority price (1 ∷ 2 ∷ []) 2
  greater_number = record {
    member = refl;
    lowest = λ u h. elim (in_cycle u h) [ inl a ↦ subst (λ v. priority 2 ≤ℤ priority v) (sym a) (subst (λ p. p ≤ℤ priority 1) alike (≤ℤ_refl (priority 1))) | inr b ↦ subst (λ v. priority 2 ≤ℤ priority v) (sym b) (≤ℤ_refl (priority 2)) ];
    cheapest = λ u h e. elim (in_cycle u h) [ inl a ↦ subst (λ v. price 2 ≤ price v) (sym a) (subst (λ p. p ≤ price 1) priced (le_refl (price 1))) | inr b ↦ subst (λ v. price 2 ≤ price v) (sym b) (le_refl (price 2)) ];
    greatest = λ u h e c. elim (in_cycle u h) [ inl a ↦ omega arith | inr b ↦ omega arith ];
  }

chosen : IsChosen deadlock_stage deadlock_12 2 (1 ∷ 2 ∷ [])
unfolding deadlock_stage bare at all_sessions deadlock_1 deadlock_2 deadlock_3 deadlock_4 deadlock_5 deadlock_6 deadlock_7 deadlock_8 deadlock_9 deadlock_10 deadlock_11 deadlock_12
chosen = record {
  since = refl;
  sessions = (lit≤ tt, lit≤ tt, (lit≤ tt, lit≤ tt, tt));
  is_cycle = cycle_of_two (waits deadlock_12) refl refl;
  some = λ e. absurd (cc);
  victim = greater_number (priority_of []) (λ u. cost ((state deadlock_stage deadlock_12).of u).held) refl refl;
}

deadlock_13 : List Event
deadlock_13 = Victim 2 (1 ∷ 2 ∷ []) ∷ deadlock_12

deadlock_13-legal : IsLegal deadlock_stage deadlock_13
unfolding deadlock_stage bare at all_sessions deadlock_1 deadlock_2 deadlock_3 deadlock_4 deadlock_5 deadlock_6 deadlock_7 deadlock_8 deadlock_9 deadlock_10 deadlock_11 deadlock_12 deadlock_13
deadlock_13-legal = (deadlock_12-legal, chosen, tt)

deadlock_14 : List Event
deadlock_14 = Take 1 (Row 2) X ∷ deadlock_13

deadlock_14-legal : IsLegal deadlock_stage deadlock_14
unfolding deadlock_stage bare at all_sessions deadlock_1 deadlock_2 deadlock_3 deadlock_4 deadlock_5 deadlock_6 deadlock_7 deadlock_8 deadlock_9 deadlock_10 deadlock_11 deadlock_12 deadlock_13 deadlock_14
deadlock_14-legal = (deadlock_13-legal, (Update 2 (at (pos 20)), record { live = refl; open_one = refl; no_wait = refl }, record { selected = []; selects = refl; follows = refl }, refl), no_waits (waits deadlock_13) 2 refl)

deadlock_15 : List Event
deadlock_15 = Answered 1 Done ∷ deadlock_14

deadlock_15-legal : IsLegal deadlock_stage deadlock_15
unfolding deadlock_stage bare at all_sessions deadlock_1 deadlock_2 deadlock_3 deadlock_4 deadlock_5 deadlock_6 deadlock_7 deadlock_8 deadlock_9 deadlock_10 deadlock_11 deadlock_12 deadlock_13 deadlock_14 deadlock_15
deadlock_15-legal = (deadlock_14-legal, (Update 2 (at (pos 20)), record { live = refl; open_one = refl; no_wait = refl }, record { selected = []; selects = refl; follows = refl }), no_waits (waits deadlock_14) 2 refl)

deadlock_16 : List Event
deadlock_16 = Commit 1 1 ∷ deadlock_15

deadlock_16-legal : IsLegal deadlock_stage deadlock_16
unfolding deadlock_stage bare at all_sessions deadlock_1 deadlock_2 deadlock_3 deadlock_4 deadlock_5 deadlock_6 deadlock_7 deadlock_8 deadlock_9 deadlock_10 deadlock_11 deadlock_12 deadlock_13 deadlock_14 deadlock_15 deadlock_16
deadlock_16-legal = (deadlock_15-legal, (record { live = refl; none_open = refl }, refl), no_waits (waits deadlock_15) 2 refl)

deadlock-follows : Follows deadlock_script deadlock_stage deadlock_16
unfolding deadlock_script deadlock_stage bare at all_sessions deadlock_1 deadlock_2 deadlock_3 deadlock_4 deadlock_5 deadlock_6 deadlock_7 deadlock_8 deadlock_9 deadlock_10 deadlock_11 deadlock_12 deadlock_13 deadlock_14 deadlock_15 deadlock_16
deadlock-follows = ((((((((((((((((tt, (_, refl)), refl), tt), tt), (_, refl)), refl), tt), tt), refl), tt), refl), tt), tt), tt), tt), (refl, refl))

pub deadlock-is_legal : IsLegalFor deadlock_script deadlock_stage deadlock_labels
unfolding deadlock_labels deadlock_1 deadlock_2 deadlock_3 deadlock_4 deadlock_5 deadlock_6 deadlock_7 deadlock_8 deadlock_9 deadlock_10 deadlock_11 deadlock_12 deadlock_13 deadlock_14 deadlock_15 deadlock_16
deadlock-is_legal = record { events = deadlock_16; are_labels = refl; legal = deadlock_16-legal; follows = deadlock-follows }
