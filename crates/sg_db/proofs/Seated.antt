-- Seats of one session after another.
use Rattle.std.proofs.Common.{◌≡◌, ℕ, zero, suc, ◌+◌, ◌-◌, List, [], ◌∷◌, ◌++◌, length, refl, sym, ap, ◌∙◌, subst, arith}
use Rattle.atomic_table.specs.Seated.{TableId}
use Rattle.sg_trace.specs.Traces.{Stage}
use Rattle.sg_trace.specs.Legal.{IsStage}
use Rattle.sg_history.specs.Views.{Known, resting}
use Rattle.sg_history.specs.Openings.{Held}
use Rattle.sg_history.specs.Writes.{history_of, IsResting}
use Rattle.sg_engine.specs.Shown.{Shown, IsRunOf}
use Rattle.sg_db.specs.Locks.{IsLocked}
use Rattle.sg_db.specs.Callers.{SeatShown}
use Rattle.sg_db.specs.Seatings.{SeatsShown, fresh_seat, fresh_seats}

-- the pen has made as many seats as there are sessions before the next one
pub next_pen : (v : Known) (w : Stage) (n s : ℕ) → v ≡ resting w [] n → n + 1 ≡ s → v ≡ resting v.stage [] (s - 1)
next_pen v w n s is at =
    let stage : w ≡ v.stage = sym (ap (λ (u : Known). u.stage) is) in
    let number : n ≡ s - 1 = omega (arith, at) in
    is ∙ (λ i. resting (stage i) [] (number i))

pub stage_still : (v : Known) (w : Stage) (n : ℕ) → v ≡ resting w [] n → v.stage ≡ w
stage_still v w n is = ap (λ (u : Known). u.stage) is

-- the pen after it made one more
pub pen_after : (t : TableId) (v : Known) (w : Stage) (n s : ℕ) (new : Held) → v ≡ resting w [] n → n + 1 ≡ s → new ≡ record { table = t; known = resting v.stage [] s } → new.known ≡ resting w [] (n + 1)
pen_after t v w n s new is at made = ap (λ (h : Held). h.known) made ∙ (λ i. resting (stage_still v w n is i) [] (sym at i))

pub seats_append : (t : TableId) (w : Stage) (n m : ℕ) → fresh_seats t w n (suc m) ≡ fresh_seats t w n m ++ fresh_seat t w (suc (n + m)) ∷ []
seats_append t w n zero = let e : n ≡ n + zero = omega arith in ap (λ k. fresh_seat t w (suc k) ∷ []) e
seats_append t w n (suc m) =
    let e : suc n + m ≡ n + suc m = omega arith in
    ap (λ (l : List SeatShown). fresh_seat t w (suc n) ∷ l) (seats_append t w (suc n) m ∙ ap (λ k. fresh_seats t w (suc n) m ++ fresh_seat t w (suc k) ∷ []) e)

pub seats_length : (t : TableId) (w : Stage) (n m : ℕ) → length (fresh_seats t w n m) ≡ m
seats_length t w n zero = refl
seats_length t w n (suc m) = ap suc (seats_length t w (suc n) m)

-- one seat more at the end of the others
pub more_seats : (t : TableId) (w : Stage) (n s : ℕ) (xs ys : List SeatShown) (seat : SeatShown) → xs ≡ fresh_seats t w 0 n → n + 1 ≡ s → seat ≡ fresh_seat t w s → ys ≡ xs ++ seat ∷ [] → ys ≡ fresh_seats t w 0 (n + 1)
more_seats t w n s xs ys seat front at is all =
    let one : suc n ≡ n + 1 = omega arith in
    let number : s ≡ suc (0 + n) = omega (arith, at) in
    all ∙ ((λ i. front i ++ (is ∙ ap (fresh_seat t w) number) i ∷ []) ∙ (sym (seats_append t w 0 n) ∙ ap (fresh_seats t w 0) one))

-- all seats, by how many there are
pub whole_seats : (t u : TableId) (w x : Stage) (n : ℕ) (xs : List SeatShown) → xs ≡ fresh_seats t w 0 n → t ≡ u → w ≡ x → xs ≡ fresh_seats u x 0 (length xs)
whole_seats t u w x n xs is table stage =
    let number : n ≡ length xs = sym (ap length is ∙ seats_length t w 0 n) in
    is ∙ (λ i. fresh_seats (table i) (stage i) 0 (number i))

-- ---- a table that was just opened
pub opened_locked : (t : TableId) (pen new : Held) (engine : Shown) (w : Stage) (n : ℕ) → pen.table ≡ t → pen.known ≡ resting w [] 0 → new.table ≡ pen.table → new.known ≡ resting pen.known.stage [] n → engine.stage ≡ w → IsRunOf [] engine → IsStage engine.stage → IsLocked t engine new
opened_locked t pen new engine w n table first same is stage run staged =
    let none : history_of new.known ≡ [] = ap history_of is in
    record {
      table = same ∙ table;
      stage = stage_still new.known pen.known.stage n is ∙ (stage_still pen.known w 0 first ∙ sym stage);
      rests = subst (IsResting new.known) (sym none) (n, is ∙ ap (λ x. resting x [] n) (sym (stage_still new.known pen.known.stage n is)));
      run = subst (λ es. IsRunOf es engine) (sym none) run;
      staged = staged;
    }

pub all_seats : (t : TableId) (pen : Held) (engine : Shown) (w : Stage) (n : ℕ) (seats : SeatsShown) → pen.table ≡ t → pen.known ≡ resting w [] 0 → engine.stage ≡ w → seats ≡ record { table = pen.table; stage = pen.known.stage; given = 0; left = n }
    → seats ≡ record { table = t; stage = engine.stage; given = 0; left = seats.left }
all_seats t pen engine w n seats table first stage is =
    let from : pen.known.stage ≡ engine.stage = stage_still pen.known w 0 first ∙ sym stage in
    let left : n ≡ seats.left = sym (ap (λ (x : SeatsShown). x.left) is) in
    is ∙ (λ i. record { table = table i; stage = from i; given = 0; left = left i })
