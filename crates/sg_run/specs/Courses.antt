-- What is kept of the transactions of a session that are over.
use Rattle.std.specs.Prelude.{ℕ, zero, suc, ◌+◌, ◌-◌, ◌≤◌, Bool, true, false, List, [], ◌∷◌, ◌++◌, length, map, slice_get, slice_index_or, Option, None, option_map}
use Rattle.sg_run.specs.declared.outcomes.Outcome.{Outcome}
use Rattle.sg_run.specs.declared.outcomes.Outcome.TheVariants.{NoMemory}
use Rattle.sg_run.specs.declared.outcomes.Over.{Over}
use Rattle.sg_run.specs.declared.courses.Course.{Course}
use Rattle.sg_run.specs.Ends.{Past}

-- it was left unbegun
abbrev pub unbegun : Over
unbegun = record { outcome = NoMemory; begun = false }

-- it was begun, and ended so
abbrev pub over_by : Outcome → Over
over_by o = record { outcome = o; begun = true }

abbrev pub is_begun : Over → Bool
is_begun x = x.begun

abbrev pub outcome_of : Over → Outcome
outcome_of x = x.outcome

abbrev pub past_at : Course → Past
past_at c = map is_begun c.over.items

-- nothing is over, and there is no room
abbrev pub no_course : Course
no_course = record { over = record { items = []; spare = 0 }; numbers = record { items = []; spare = 0 } }

-- the course of a session, in a list from session 1 on
abbrev pub course_in : List Course → ℕ → Course
course_in courses zero = no_course
course_in courses (suc i) = slice_index_or courses i no_course

-- with one that was left unbegun
abbrev pub left : Course → Course
left c = record { over = record { items = c.over.items ++ unbegun ∷ []; spare = c.over.spare - 1 }; numbers = c.numbers }

-- with one that was begun and ended so; its number in the script is one above how many were over
abbrev pub ended : Outcome → Course → Course
ended o c = record {
  over = record { items = c.over.items ++ over_by o ∷ []; spare = c.over.spare - 1 };
  numbers = record { items = c.numbers.items ++ (length c.over.items + 1) ∷ []; spare = c.numbers.spare - 1 };
}

-- with these, one after another
abbrev pub with_ends : List Outcome → Course → Course
with_ends [] c = c
with_ends (o ∷ os) c = with_ends os (ended o c)

-- how the transaction with this number in the script ended; they count from 1
abbrev pub outcome_at : Course → ℕ → Option Outcome
outcome_at c zero = None
outcome_at c (suc place) = option_map outcome_of (slice_get c.over.items place)

-- there is room for these
pub record HasRoomFor (os : List Outcome) (c : Course) : Type 0 where
  pub over : length os ≤ c.over.spare
  pub numbers : length os ≤ c.numbers.spare
