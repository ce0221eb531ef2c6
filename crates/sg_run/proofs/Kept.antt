-- What is kept of a session's transactions, as more of them are over.
use Rattle.std.proofs.Common.{◌≡◌, ℕ, zero, suc, ◌+◌, ◌≤◌, true, false, List, [], ◌∷◌, ◌++◌, length, refl, sym, ap, ◌∙◌, subst, arith, append_assoc, append-nil}
use Rattle.std.specs.Prelude.{map, slice_get, option_map}
use Rattle.std.proofs.lemmas.List.{length-append, map-append}
use Rattle.sg_plain.specs.Transactions.{TransactionPlan}
use Rattle.sg_run.specs.declared.outcomes.Outcome.{Outcome}
use Rattle.sg_run.specs.declared.outcomes.Outcome.TheVariants.{NoMemory}
use Rattle.sg_run.specs.declared.outcomes.Over.{Over}
use Rattle.sg_run.specs.declared.courses.Course.{Course}
use Rattle.sg_run.specs.Ends.{Past, begun_count, begun_numbers, all_ends, all_begun}
use Rattle.sg_run.specs.Courses.{unbegun, over_by, is_begun, outcome_of, past_at, outcome_at, left, ended, with_ends, HasRoomFor}
use Rattle.sg_run.specs.Inside.{IsCourse}
use Rattle.sg_run.proofs.Pasts.{count_more, numbers_ended, numbers_left, ends_ended, ends_left}

-- ---- one more
length_over : (c : Course) → length (past_at c) ≡ length c.over.items
length_over c = go c.over.items
  where
    go : (os : List Over) → length (map is_begun os) ≡ length os
    go [] = refl
    go (o ∷ os) = ap suc (go os)

pub past_ended : (o : Outcome) (c : Course) → past_at (ended o c) ≡ past_at c ++ true ∷ []
past_ended o c = map-append is_begun c.over.items (over_by o ∷ [])

pub past_left : (c : Course) → past_at (left c) ≡ past_at c ++ false ∷ []
past_left c = map-append is_begun c.over.items (unbegun ∷ [])

module _ (ts : List TransactionPlan) (os : List Outcome) (c : Course) (h : IsCourse ts os c) (count : begun_count (past_at c) ≡ length os) where
  pub course_ended : (o : Outcome) → 1 ≤ c.over.spare → 1 ≤ c.numbers.spare → IsCourse ts (os ++ o ∷ []) (ended o c)
  course_ended o over numbers = record {
    outcomes =
        map-append outcome_of c.over.items (over_by o ∷ [])
        ∙ (ap (λ (xs : List Outcome). xs ++ o ∷ []) h.outcomes
        ∙ (sym (ends_ended (past_at c) os o count) ∙ ap (λ (past : Past). all_ends past (os ++ o ∷ [])) (sym (past_ended o c))));
    numbers =
        ap (λ (ns : List ℕ). ns ++ (length c.over.items + 1) ∷ []) h.numbers
        ∙ ((let e : length c.over.items + 1 ≡ 1 + length (past_at c) = (let l = length_over c in omega arith) in ap (λ n. begun_numbers 1 (past_at c) ++ n ∷ []) e)
        ∙ (sym (numbers_ended 1 (past_at c)) ∙ ap (λ (past : Past). begun_numbers 1 past) (sym (past_ended o c))));
    over_room = (let l = length-append c.over.items (over_by o ∷ []) in let r = h.over_room in omega arith);
    number_room = (let l = length-append c.over.items (over_by o ∷ []) in let r = h.number_room in omega arith);
  }

  pub course_left : 1 ≤ c.over.spare → IsCourse ts os (left c)
  course_left over = record {
    outcomes =
        map-append outcome_of c.over.items (unbegun ∷ [])
        ∙ (ap (λ (xs : List Outcome). xs ++ NoMemory ∷ []) h.outcomes
        ∙ (sym (ends_left (past_at c) os count) ∙ ap (λ (past : Past). all_ends past os) (sym (past_left c))));
    numbers = h.numbers ∙ (sym (numbers_left 1 (past_at c)) ∙ ap (λ (past : Past). begun_numbers 1 past) (sym (past_left c)));
    over_room = (let l = length-append c.over.items (unbegun ∷ []) in let r = h.over_room in omega arith);
    number_room = (let l = length-append c.over.items (unbegun ∷ []) in let r = h.number_room in omega arith);
  }

-- ---- more of them
pub past_with : (os : List Outcome) (c : Course) → past_at (with_ends os c) ≡ past_at c ++ all_begun os
past_with [] c = sym (append-nil (past_at c))
past_with (o ∷ os) c = past_with os (ended o c) ∙ (ap (λ (past : Past). past ++ all_begun os) (past_ended o c) ∙ append_assoc (past_at c) (true ∷ []) (all_begun os))

pub with_append : (os more : List Outcome) (c : Course) → with_ends (os ++ more) c ≡ with_ends more (with_ends os c)
with_append [] more c = refl
with_append (o ∷ os) more c = with_append os more (ended o c)

pub course_with : (ts : List TransactionPlan) (before os : List Outcome) (c : Course) → IsCourse ts before c → begun_count (past_at c) ≡ length before → HasRoomFor os c → IsCourse ts (before ++ os) (with_ends os c)
course_with ts before [] c h count room = subst (λ (xs : List Outcome). IsCourse ts xs c) (sym (append-nil before)) h
course_with ts before (o ∷ os) c h count room =
    let over = room.over in
    let numbers = room.numbers in
    subst (λ (xs : List Outcome). IsCourse ts xs (with_ends os (ended o c))) (append_assoc before (o ∷ []) os)
    (course_with ts (before ++ o ∷ []) os (ended o c) (course_ended ts before c h count o (omega arith) (omega arith)) (counted (past_ended o c) count) (record { over = omega arith; numbers = omega arith }))
  where
    counted : past_at (ended o c) ≡ past_at c ++ true ∷ [] → begun_count (past_at c) ≡ length before → begun_count (past_at (ended o c)) ≡ length (before ++ o ∷ [])
    counted p q =
        let a = ap (λ (past : Past). begun_count past) p in
        let b = count_more (past_at c) (o ∷ []) in
        let l = length-append before (o ∷ []) in
        omega arith

-- ---- room is used up one by one
pub room_rest : (o : Outcome) (os : List Outcome) (c : Course) → HasRoomFor (o ∷ os) c → HasRoomFor os (ended o c)
room_rest o os c h = let a = h.over in let b = h.numbers in record { over = omega arith; numbers = omega arith }

pub room_with : (os more : List Outcome) (c : Course) → HasRoomFor (os ++ more) c → HasRoomFor more (with_ends os c)
room_with [] more c h = h
room_with (o ∷ os) more c h = room_with os more (ended o c) (room_rest o (os ++ more) c h)

-- ---- look-ups
pub outcome_is : (ts : List TransactionPlan) (os : List Outcome) (c : Course) → IsCourse ts os c → (place : ℕ) → outcome_at c (suc place) ≡ slice_get (all_ends (past_at c) os) place
outcome_is ts os c h place = get_map c.over.items place ∙ ap (λ (xs : List Outcome). slice_get xs place) h.outcomes
  where
    get_map : (xs : List Over) (i : ℕ) → option_map outcome_of (slice_get xs i) ≡ slice_get (map outcome_of xs) i
    get_map [] i = refl
    get_map (x ∷ xs) zero = refl
    get_map (x ∷ xs) (suc i) = get_map xs i
