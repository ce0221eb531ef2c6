-- The phantom that waits, event by event.
use Rattle.std.proofs.Common.{◌≡◌, ◌≢◌, ℕ, zero, suc, ◌<◌, ◌≤◌, Bool, true, false, cond, ◌||◌, List, [], ◌∷◌, eqb, refl, sym, subst, inl, inr, ℤ, pos, Some, None, arith, lit≤}
use Rattle.std.specs.Prelude.{Contains, IsSomeAnd}
use Rattle.sg_shape.specs.declared.shapes.Shape.{Shape}
use Rattle.sg_shape.specs.declared.matrices.Pred.TheVariants.{Intersects}
use Rattle.sg_plane.specs.Decisions.{related, meets, meets_box, covers_box, leaves_box}
use Rattle.sg_cells.specs.declared.keys.Key.TheVariants.{Row, RowEnd, Cell, CellEnd}
use Rattle.sg_modes.specs.declared.modes.Mode.TheVariants.{X, RangeSS, RangeIN, RangeXX}
use Rattle.sg_plain.specs.declared.statements.Statement.TheVariants.{Insert, Update, Select}
use Rattle.sg_plain.specs.declared.statements.Answer.TheVariants.{Inserted, Done, Keys}
use Rattle.sg_plain.specs.Rows.{IsKeysWith}
use Rattle.sg_plain.specs.Sat.{Satisfies}
use Rattle.sg_trace.specs.Traces.{Event, Begin, Ask, Take, Put, Wait, Victim, Answered, Commit, all_sessions, labels_of}
use Rattle.sg_trace.specs.Legal.{IsLegal, IsSettled, IsChosen, Takes, Puts, waits}
use Rattle.sg_trace.specs.Scripts.{IsLegalFor, Follows}
use Rattle.sg_worked.specs.Worked.{at, near_five, bare, indexed, phantom_stage, phantom_script, phantom_labels}
use Rattle.sg_worked.proofs.Settling.{no_waits, one_wait}
use Rattle.sg_worked.proofs.Found.{nothing_found}

phantom_1 : List Event
phantom_1 = Begin 1 1 ∷ []

phantom_1-legal : IsLegal phantom_stage phantom_1
unfolding phantom_stage indexed at near_five all_sessions meets_box covers_box leaves_box phantom_1
phantom_1-legal = (tt, ((lit≤ tt, lit≤ tt), refl, refl), no_waits (waits []) 0 refl)

phantom_2 : List Event
phantom_2 = Ask 1 1 (Select near_five) ∷ phantom_1

phantom_2-legal : IsLegal phantom_stage phantom_2
unfolding phantom_stage indexed at near_five all_sessions meets_box covers_box leaves_box phantom_1 phantom_2
phantom_2-legal = (phantom_1-legal, (record { live = refl; none_open = refl }, record { test = tt; shape = refl }, refl), no_waits (waits phantom_1) 0 refl)

phantom_3 : List Event
phantom_3 = Take 1 CellEnd RangeSS ∷ phantom_2

phantom_3-legal : IsLegal phantom_stage phantom_3
unfolding phantom_stage indexed at near_five all_sessions meets_box covers_box leaves_box phantom_1 phantom_2 phantom_3
phantom_3-legal = (phantom_2-legal, (Select near_five, record { live = refl; open_one = refl; no_wait = refl }, record { selected = []; selects = refl; follows = refl }, refl), no_waits (waits phantom_2) 0 refl)

phantom_4 : List Event
phantom_4 = Answered 1 (Keys []) ∷ phantom_3

phantom_4-legal : IsLegal phantom_stage phantom_4
unfolding phantom_stage indexed at near_five all_sessions meets_box covers_box leaves_box phantom_1 phantom_2 phantom_3 phantom_4
phantom_4-legal = (phantom_3-legal, (Select near_five, record { live = refl; open_one = refl; no_wait = refl }, record { selected = []; selects = refl; follows = nothing_found }), no_waits (waits phantom_3) 0 refl)

phantom_5 : List Event
phantom_5 = Begin 2 1 ∷ phantom_4

phantom_5-legal : IsLegal phantom_stage phantom_5
unfolding phantom_stage indexed at near_five all_sessions meets_box covers_box leaves_box phantom_1 phantom_2 phantom_3 phantom_4 phantom_5
phantom_5-legal = (phantom_4-legal, ((lit≤ tt, lit≤ tt), refl, refl), no_waits (waits phantom_4) 0 refl)

phantom_6 : List Event
phantom_6 = Ask 2 1 (Insert 1 (at (pos 5))) ∷ phantom_5

phantom_6-legal : IsLegal phantom_stage phantom_6
unfolding phantom_stage indexed at near_five all_sessions meets_box covers_box leaves_box phantom_1 phantom_2 phantom_3 phantom_4 phantom_5 phantom_6
phantom_6-legal = (phantom_5-legal, (record { live = refl; none_open = refl }, refl, refl), no_waits (waits phantom_5) 0 refl)

phantom_7 : List Event
phantom_7 = Put 2 (Row 1) X ∷ phantom_6

phantom_7-legal : IsLegal phantom_stage phantom_7
unfolding phantom_stage indexed at near_five all_sessions meets_box covers_box leaves_box phantom_1 phantom_2 phantom_3 phantom_4 phantom_5 phantom_6 phantom_7
phantom_7-legal = (phantom_6-legal, (Insert 1 (at (pos 5)), record { live = refl; open_one = refl; no_wait = refl }, (RowEnd, record { selected = []; selects = refl; follows = refl }, refl)), no_waits (waits phantom_6) 0 refl)

phantom_8 : List Event
phantom_8 = Wait 2 CellEnd RangeIN (1 ∷ []) ∷ phantom_7

phantom_8-legal : IsLegal phantom_stage phantom_8
unfolding phantom_stage indexed at near_five all_sessions meets_box covers_box leaves_box phantom_1 phantom_2 phantom_3 phantom_4 phantom_5 phantom_6 phantom_7 phantom_8
phantom_8-legal = (phantom_7-legal, (Insert 1 (at (pos 5)), record { live = refl; open_one = refl; no_wait = refl }, record { act = Puts (Cell (0 ∷ 2 ∷ 0 ∷ 10 ∷ []) 1) CellEnd X; is_act = record { selected = []; selects = refl; follows = refl }; reason = inr (refl, (Cell (0 ∷ 2 ∷ 0 ∷ 10 ∷ []) 1, X, refl)) }, refl, λ e. absurd (cc)), no_waits (waits phantom_7) 0 refl)

phantom_9 : List Event
phantom_9 = Ask 1 2 (Select near_five) ∷ phantom_8

phantom_9-legal : IsLegal phantom_stage phantom_9
unfolding phantom_stage indexed at near_five all_sessions meets_box covers_box leaves_box phantom_1 phantom_2 phantom_3 phantom_4 phantom_5 phantom_6 phantom_7 phantom_8 phantom_9
phantom_9-legal = (phantom_8-legal, (record { live = refl; none_open = refl }, record { test = tt; shape = refl }, refl), one_wait (waits phantom_8) 2 1 refl refl (λ e. omega arith))

phantom_10 : List Event
phantom_10 = Answered 1 (Keys []) ∷ phantom_9

phantom_10-legal : IsLegal phantom_stage phantom_10
unfolding phantom_stage indexed at near_five all_sessions meets_box covers_box leaves_box phantom_1 phantom_2 phantom_3 phantom_4 phantom_5 phantom_6 phantom_7 phantom_8 phantom_9 phantom_10
phantom_10-legal = (phantom_9-legal, (Select near_five, record { live = refl; open_one = refl; no_wait = refl }, record { selected = []; selects = refl; follows = nothing_found }), one_wait (waits phantom_9) 2 1 refl refl (λ e. omega arith))

phantom_11 : List Event
phantom_11 = Commit 1 1 ∷ phantom_10

phantom_11-legal : IsLegal phantom_stage phantom_11
unfolding phantom_stage indexed at near_five all_sessions meets_box covers_box leaves_box phantom_1 phantom_2 phantom_3 phantom_4 phantom_5 phantom_6 phantom_7 phantom_8 phantom_9 phantom_10 phantom_11
phantom_11-legal = (phantom_10-legal, (record { live = refl; none_open = refl }, refl), one_wait (waits phantom_10) 2 1 refl refl (λ e. omega arith))

phantom_12 : List Event
phantom_12 = Put 2 (Cell (0 ∷ 2 ∷ 0 ∷ 10 ∷ []) 1) X ∷ phantom_11

phantom_12-legal : IsLegal phantom_stage phantom_12
unfolding phantom_stage indexed at near_five all_sessions meets_box covers_box leaves_box phantom_1 phantom_2 phantom_3 phantom_4 phantom_5 phantom_6 phantom_7 phantom_8 phantom_9 phantom_10 phantom_11 phantom_12
phantom_12-legal = (phantom_11-legal, (Insert 1 (at (pos 5)), record { live = refl; open_one = refl; no_wait = refl }, (CellEnd, record { selected = []; selects = refl; follows = refl }, refl)), no_waits (waits phantom_11) 2 refl)

phantom_13 : List Event
phantom_13 = Answered 2 Inserted ∷ phantom_12

phantom_13-legal : IsLegal phantom_stage phantom_13
unfolding phantom_stage indexed at near_five all_sessions meets_box covers_box leaves_box phantom_1 phantom_2 phantom_3 phantom_4 phantom_5 phantom_6 phantom_7 phantom_8 phantom_9 phantom_10 phantom_11 phantom_12 phantom_13
phantom_13-legal = (phantom_12-legal, (Insert 1 (at (pos 5)), record { live = refl; open_one = refl; no_wait = refl }, record { selected = []; selects = refl; follows = refl }), no_waits (waits phantom_12) 2 refl)

phantom_14 : List Event
phantom_14 = Commit 2 2 ∷ phantom_13

phantom_14-legal : IsLegal phantom_stage phantom_14
unfolding phantom_stage indexed at near_five all_sessions meets_box covers_box leaves_box phantom_1 phantom_2 phantom_3 phantom_4 phantom_5 phantom_6 phantom_7 phantom_8 phantom_9 phantom_10 phantom_11 phantom_12 phantom_13 phantom_14
phantom_14-legal = (phantom_13-legal, (record { live = refl; none_open = refl }, refl), no_waits (waits phantom_13) 2 refl)

phantom-follows : Follows phantom_script phantom_stage phantom_14
unfolding phantom_script phantom_stage indexed at near_five all_sessions phantom_1 phantom_2 phantom_3 phantom_4 phantom_5 phantom_6 phantom_7 phantom_8 phantom_9 phantom_10 phantom_11 phantom_12 phantom_13 phantom_14
phantom-follows = ((((((((((((((tt, (_, refl)), refl), tt), tt), (_, refl)), refl), tt), tt), refl), tt), (refl, refl)), tt), tt), (refl, refl))

pub phantom-is_legal : IsLegalFor phantom_script phantom_stage phantom_labels
unfolding phantom_labels phantom_1 phantom_2 phantom_3 phantom_4 phantom_5 phantom_6 phantom_7 phantom_8 phantom_9 phantom_10 phantom_11 phantom_12 phantom_13 phantom_14
phantom-is_legal = record { events = phantom_14; are_labels = refl; legal = phantom_14-legal; follows = phantom-follows }
