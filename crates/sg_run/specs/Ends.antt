-- How transactions ended, by the labels of a trace.
use Rattle.std.specs.Prelude.{ℕ, suc, Bool, true, false, cond, List, [], ◌∷◌, eqb}
use Rattle.std.specs.List.{flat_map}
use Rattle.sg_trace.specs.declared.labels.Cause.{Cause}
use Rattle.sg_trace.specs.declared.labels.Cause.TheVariants as cause
use Rattle.sg_trace.specs.declared.labels.Label.{Label}
use Rattle.sg_trace.specs.declared.labels.Label.TheVariants as label
use Rattle.sg_run.specs.declared.outcomes.Outcome.{Outcome}
use Rattle.sg_run.specs.declared.outcomes.Outcome.TheVariants.{Committed, RolledBack, Victim, NoMemory}

-- how a transaction ended that was rolled back for this cause
abbrev pub outcome_by : Cause → Outcome
outcome_by cause.Asked = RolledBack
outcome_by cause.NoMemory = NoMemory

-- the outcome that a label is of a transaction of the session, if it is one
abbrev pub end_by : ℕ → Label → List Outcome
end_by s (label.Commit u place) = cond (eqb u s) (Committed place ∷ []) []
end_by s (label.Victim u cycle) = cond (eqb u s) (Victim cycle ∷ []) []
end_by s (label.Rollback u why) = cond (eqb u s) (outcome_by why ∷ []) []
end_by s (label.Begin u t) = []
end_by s (label.Ask u n) = []
end_by s (label.Take u k m) = []
end_by s (label.Put u k m) = []
end_by s (label.Wait u k m b) = []
end_by s (label.Answer u a) = []

-- how the transactions ended that the session began, in order
abbrev pub ends : ℕ → List Label → List Outcome
ends s labels = flat_map (end_by s) labels

-- ---- transactions of a script that are over: whether each was begun, in their order
abbrev pub Past : Type 0
Past = List Bool

-- how many were begun
abbrev pub begun_count : Past → ℕ
begun_count [] = 0
begun_count (true ∷ past) = suc (begun_count past)
begun_count (false ∷ past) = begun_count past

-- without those that were left unbegun; what comes after the past ones stays
abbrev pub begun_ones : {A : Type 0} → Past → List A → List A
begun_ones [] ts = ts
begun_ones (b ∷ past) [] = []
begun_ones (true ∷ past) (t ∷ ts) = t ∷ begun_ones past ts
begun_ones (false ∷ past) (t ∷ ts) = begun_ones past ts

-- the numbers of those that were begun, where the first has the number n
abbrev pub begun_numbers : ℕ → Past → List ℕ
begun_numbers n [] = []
begun_numbers n (true ∷ past) = n ∷ begun_numbers (suc n) past
begun_numbers n (false ∷ past) = begun_numbers (suc n) past

-- How all of them ended, where these are the outcomes of those that were begun; one left unbegun found no memory.
abbrev pub all_ends : Past → List Outcome → List Outcome
all_ends [] os = []
all_ends (false ∷ past) os = NoMemory ∷ all_ends past os
all_ends (true ∷ past) [] = []
all_ends (true ∷ past) (o ∷ os) = o ∷ all_ends past os

-- so many were begun
abbrev pub all_begun : List Outcome → Past
all_begun [] = []
all_begun (o ∷ os) = true ∷ all_begun os
