-- One's own scanned gap, event by event.
use Rattle.std.proofs.Common.{◌≡◌, ◌≢◌, ℕ, zero, suc, ◌<◌, ◌≤◌, Bool, true, false, cond, ◌||◌, List, [], ◌∷◌, eqb, refl, sym, subst, inl, inr, ℤ, pos, Some, None, arith, lit≤}
use Rattle.std.specs.Prelude.{Contains, IsSomeAnd}
use Rattle.sg_shape.specs.declared.shapes.Shape.{Shape}
use Rattle.sg_shape.specs.declared.matrices.Pred.TheVariants.{Intersects}
use Rattle.sg_plane.specs.Decisions.{related, meets, meets_box, covers_box, leaves_box}
use Rattle.sg_cells.specs.declared.keys.Key.TheVariants.{Row, RowEnd, Cell, CellEnd}
use Rattle.sg_modes.specs.declared.modes.Mode.TheVariants.{X, RangeSS, RangeIN, RangeXX}
use Rattle.sg_plain.specs.declared.statements.Statement.TheVariants.{Insert, Update, Select}
use Rattle.sg_plain.specs.declared.statements.Answer.TheVariants.{Inserted, Done, Keys}
use Rattle.sg_plain.specs.Rows.{IsKeysWith}
use Rattle.sg_plain.specs.Sat.{Satisfies}
use Rattle.sg_trace.specs.Traces.{Event, Begin, Ask, Take, Put, Wait, Victim, Answered, Commit, all_sessions, labels_of}
use Rattle.sg_trace.specs.Legal.{IsLegal, IsSettled, IsChosen, Takes, Puts, waits}
use Rattle.sg_trace.specs.Scripts.{IsLegalFor, Follows}
use Rattle.sg_worked.specs.Worked.{at, near_five, bare, indexed, own_gap_stage, own_gap_script, own_gap_labels}
use Rattle.sg_worked.proofs.Settling.{no_waits, one_wait}
use Rattle.sg_worked.proofs.Found.{none_of_nine, none_of_both}

own_gap_1 : List Event
own_gap_1 = Begin 1 1 ∷ []

own_gap_1-legal : IsLegal own_gap_stage own_gap_1
unfolding own_gap_stage bare at near_five all_sessions own_gap_1
own_gap_1-legal = (tt, ((lit≤ tt, lit≤ tt), refl, refl), no_waits (waits []) 0 refl)

own_gap_2 : List Event
own_gap_2 = Ask 1 1 (Select near_five) ∷ own_gap_1

own_gap_2-legal : IsLegal own_gap_stage own_gap_2
unfolding own_gap_stage bare at near_five all_sessions own_gap_1 own_gap_2
own_gap_2-legal = (own_gap_1-legal, (record { live = refl; none_open = refl }, record { test = tt; shape = refl }, refl), no_waits (waits own_gap_1) 0 refl)

own_gap_3 : List Event
own_gap_3 = Take 1 (Row 9) RangeSS ∷ own_gap_2

own_gap_3-legal : IsLegal own_gap_stage own_gap_3
unfolding own_gap_stage bare at near_five all_sessions own_gap_1 own_gap_2 own_gap_3
own_gap_3-legal = (own_gap_2-legal, (Select near_five, record { live = refl; open_one = refl; no_wait = refl }, record { selected = []; selects = refl; follows = refl }, refl), no_waits (waits own_gap_2) 0 refl)

own_gap_4 : List Event
own_gap_4 = Take 1 RowEnd RangeSS ∷ own_gap_3

own_gap_4-legal : IsLegal own_gap_stage own_gap_4
unfolding own_gap_stage bare at near_five all_sessions own_gap_1 own_gap_2 own_gap_3 own_gap_4
own_gap_4-legal = (own_gap_3-legal, (Select near_five, record { live = refl; open_one = refl; no_wait = refl }, record { selected = []; selects = refl; follows = refl }, refl), no_waits (waits own_gap_3) 0 refl)

own_gap_5 : List Event
own_gap_5 = Answered 1 (Keys []) ∷ own_gap_4

own_gap_5-legal : IsLegal own_gap_stage own_gap_5
unfolding own_gap_stage bare at near_five all_sessions own_gap_1 own_gap_2 own_gap_3 own_gap_4 own_gap_5
own_gap_5-legal = (own_gap_4-legal, (Select near_five, record { live = refl; open_one = refl; no_wait = refl }, record { selected = []; selects = refl; follows = none_of_nine }), no_waits (waits own_gap_4) 0 refl)

own_gap_6 : List Event
own_gap_6 = Ask 1 2 (Insert 6 (at (pos 6))) ∷ own_gap_5

own_gap_6-legal : IsLegal own_gap_stage own_gap_6
unfolding own_gap_stage bare at near_five all_sessions own_gap_1 own_gap_2 own_gap_3 own_gap_4 own_gap_5 own_gap_6
own_gap_6-legal = (own_gap_5-legal, (record { live = refl; none_open = refl }, refl, refl), no_waits (waits own_gap_5) 0 refl)

own_gap_7 : List Event
own_gap_7 = Put 1 (Row 6) RangeXX ∷ own_gap_6

own_gap_7-legal : IsLegal own_gap_stage own_gap_7
unfolding own_gap_stage bare at near_five all_sessions own_gap_1 own_gap_2 own_gap_3 own_gap_4 own_gap_5 own_gap_6 own_gap_7
own_gap_7-legal = (own_gap_6-legal, (Insert 6 (at (pos 6)), record { live = refl; open_one = refl; no_wait = refl }, (Row 9, record { selected = []; selects = refl; follows = refl }, refl)), no_waits (waits own_gap_6) 0 refl)

own_gap_8 : List Event
own_gap_8 = Answered 1 Inserted ∷ own_gap_7

own_gap_8-legal : IsLegal own_gap_stage own_gap_8
unfolding own_gap_stage bare at near_five all_sessions own_gap_1 own_gap_2 own_gap_3 own_gap_4 own_gap_5 own_gap_6 own_gap_7 own_gap_8
own_gap_8-legal = (own_gap_7-legal, (Insert 6 (at (pos 6)), record { live = refl; open_one = refl; no_wait = refl }, record { selected = []; selects = refl; follows = refl }), no_waits (waits own_gap_7) 0 refl)

own_gap_9 : List Event
own_gap_9 = Begin 2 1 ∷ own_gap_8

own_gap_9-legal : IsLegal own_gap_stage own_gap_9
unfolding own_gap_stage bare at near_five all_sessions own_gap_1 own_gap_2 own_gap_3 own_gap_4 own_gap_5 own_gap_6 own_gap_7 own_gap_8 own_gap_9
own_gap_9-legal = (own_gap_8-legal, ((lit≤ tt, lit≤ tt), refl, refl), no_waits (waits own_gap_8) 0 refl)

own_gap_10 : List Event
own_gap_10 = Ask 2 1 (Insert 4 (at (pos 5))) ∷ own_gap_9

own_gap_10-legal : IsLegal own_gap_stage own_gap_10
unfolding own_gap_stage bare at near_five all_sessions own_gap_1 own_gap_2 own_gap_3 own_gap_4 own_gap_5 own_gap_6 own_gap_7 own_gap_8 own_gap_9 own_gap_10
own_gap_10-legal = (own_gap_9-legal, (record { live = refl; none_open = refl }, refl, refl), no_waits (waits own_gap_9) 0 refl)

own_gap_11 : List Event
own_gap_11 = Wait 2 (Row 6) RangeIN (1 ∷ []) ∷ own_gap_10

own_gap_11-legal : IsLegal own_gap_stage own_gap_11
unfolding own_gap_stage bare at near_five all_sessions own_gap_1 own_gap_2 own_gap_3 own_gap_4 own_gap_5 own_gap_6 own_gap_7 own_gap_8 own_gap_9 own_gap_10 own_gap_11
own_gap_11-legal = (own_gap_10-legal, (Insert 4 (at (pos 5)), record { live = refl; open_one = refl; no_wait = refl }, record { act = Puts (Row 4) (Row 6) X; is_act = record { selected = []; selects = refl; follows = refl }; reason = inr (refl, (Row 4, X, refl)) }, refl, λ e. absurd (cc)), no_waits (waits own_gap_10) 0 refl)

own_gap_12 : List Event
own_gap_12 = Ask 1 3 (Select near_five) ∷ own_gap_11

own_gap_12-legal : IsLegal own_gap_stage own_gap_12
unfolding own_gap_stage bare at near_five all_sessions own_gap_1 own_gap_2 own_gap_3 own_gap_4 own_gap_5 own_gap_6 own_gap_7 own_gap_8 own_gap_9 own_gap_10 own_gap_11 own_gap_12
own_gap_12-legal = (own_gap_11-legal, (record { live = refl; none_open = refl }, record { test = tt; shape = refl }, refl), one_wait (waits own_gap_11) 2 1 refl refl (λ e. omega arith))

own_gap_13 : List Event
own_gap_13 = Take 1 (Row 6) RangeSS ∷ own_gap_12

own_gap_13-legal : IsLegal own_gap_stage own_gap_13
unfolding own_gap_stage bare at near_five all_sessions own_gap_1 own_gap_2 own_gap_3 own_gap_4 own_gap_5 own_gap_6 own_gap_7 own_gap_8 own_gap_9 own_gap_10 own_gap_11 own_gap_12 own_gap_13
own_gap_13-legal = (own_gap_12-legal, (Select near_five, record { live = refl; open_one = refl; no_wait = refl }, record { selected = []; selects = refl; follows = refl }, refl), one_wait (waits own_gap_12) 2 1 refl refl (λ e. omega arith))

own_gap_14 : List Event
own_gap_14 = Answered 1 (Keys []) ∷ own_gap_13

own_gap_14-legal : IsLegal own_gap_stage own_gap_14
unfolding own_gap_stage bare at near_five all_sessions own_gap_1 own_gap_2 own_gap_3 own_gap_4 own_gap_5 own_gap_6 own_gap_7 own_gap_8 own_gap_9 own_gap_10 own_gap_11 own_gap_12 own_gap_13 own_gap_14
own_gap_14-legal = (own_gap_13-legal, (Select near_five, record { live = refl; open_one = refl; no_wait = refl }, record { selected = []; selects = refl; follows = none_of_both }), one_wait (waits own_gap_13) 2 1 refl refl (λ e. omega arith))

own_gap_15 : List Event
own_gap_15 = Commit 1 1 ∷ own_gap_14

own_gap_15-legal : IsLegal own_gap_stage own_gap_15
unfolding own_gap_stage bare at near_five all_sessions own_gap_1 own_gap_2 own_gap_3 own_gap_4 own_gap_5 own_gap_6 own_gap_7 own_gap_8 own_gap_9 own_gap_10 own_gap_11 own_gap_12 own_gap_13 own_gap_14 own_gap_15
own_gap_15-legal = (own_gap_14-legal, (record { live = refl; none_open = refl }, refl), one_wait (waits own_gap_14) 2 1 refl refl (λ e. omega arith))

own_gap_16 : List Event
own_gap_16 = Put 2 (Row 4) X ∷ own_gap_15

own_gap_16-legal : IsLegal own_gap_stage own_gap_16
unfolding own_gap_stage bare at near_five all_sessions own_gap_1 own_gap_2 own_gap_3 own_gap_4 own_gap_5 own_gap_6 own_gap_7 own_gap_8 own_gap_9 own_gap_10 own_gap_11 own_gap_12 own_gap_13 own_gap_14 own_gap_15 own_gap_16
own_gap_16-legal = (own_gap_15-legal, (Insert 4 (at (pos 5)), record { live = refl; open_one = refl; no_wait = refl }, (Row 6, record { selected = []; selects = refl; follows = refl }, refl)), no_waits (waits own_gap_15) 2 refl)

own_gap_17 : List Event
own_gap_17 = Answered 2 Inserted ∷ own_gap_16

own_gap_17-legal : IsLegal own_gap_stage own_gap_17
unfolding own_gap_stage bare at near_five all_sessions own_gap_1 own_gap_2 own_gap_3 own_gap_4 own_gap_5 own_gap_6 own_gap_7 own_gap_8 own_gap_9 own_gap_10 own_gap_11 own_gap_12 own_gap_13 own_gap_14 own_gap_15 own_gap_16 own_gap_17
own_gap_17-legal = (own_gap_16-legal, (Insert 4 (at (pos 5)), record { live = refl; open_one = refl; no_wait = refl }, record { selected = []; selects = refl; follows = refl }), no_waits (waits own_gap_16) 2 refl)

own_gap_18 : List Event
own_gap_18 = Commit 2 2 ∷ own_gap_17

own_gap_18-legal : IsLegal own_gap_stage own_gap_18
unfolding own_gap_stage bare at near_five all_sessions own_gap_1 own_gap_2 own_gap_3 own_gap_4 own_gap_5 own_gap_6 own_gap_7 own_gap_8 own_gap_9 own_gap_10 own_gap_11 own_gap_12 own_gap_13 own_gap_14 own_gap_15 own_gap_16 own_gap_17 own_gap_18
own_gap_18-legal = (own_gap_17-legal, (record { live = refl; none_open = refl }, refl), no_waits (waits own_gap_17) 2 refl)

own_gap-follows : Follows own_gap_script own_gap_stage own_gap_18
unfolding own_gap_script own_gap_stage bare at near_five all_sessions own_gap_1 own_gap_2 own_gap_3 own_gap_4 own_gap_5 own_gap_6 own_gap_7 own_gap_8 own_gap_9 own_gap_10 own_gap_11 own_gap_12 own_gap_13 own_gap_14 own_gap_15 own_gap_16 own_gap_17 own_gap_18
own_gap-follows = ((((((((((((((((((tt, (_, refl)), refl), tt), tt), tt), refl), tt), tt), (_, refl)), refl), tt), refl), tt), tt), (refl, refl)), tt), tt), (refl, refl))

pub own_gap-is_legal : IsLegalFor own_gap_script own_gap_stage own_gap_labels
unfolding own_gap_labels own_gap_1 own_gap_2 own_gap_3 own_gap_4 own_gap_5 own_gap_6 own_gap_7 own_gap_8 own_gap_9 own_gap_10 own_gap_11 own_gap_12 own_gap_13 own_gap_14 own_gap_15 own_gap_16 own_gap_17 own_gap_18
own_gap-is_legal = record { events = own_gap_18; are_labels = refl; legal = own_gap_18-legal; follows = own_gap-follows }
