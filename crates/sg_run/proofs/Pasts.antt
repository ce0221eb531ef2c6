-- Transactions that are over, and those of them that were begun.
use Rattle.std.proofs.Common.{◌≡◌, ℕ, suc, ◌+◌, ◌<◌, ◌≤◌, true, false, List, [], ◌∷◌, ◌++◌, length, refl, ap, ◌∙◌, arith}
use Rattle.std.specs.Prelude.{slice_get}
use Rattle.std.proofs.lemmas.List.{length-append}
use Rattle.sg_trace.specs.Measure.{without_at}
use Rattle.sg_run.specs.declared.outcomes.Outcome.{Outcome}
use Rattle.sg_run.specs.declared.outcomes.Outcome.TheVariants.{NoMemory}
use Rattle.sg_run.specs.Ends.{Past, begun_count, begun_ones, begun_numbers, all_ends, all_begun}

-- ---- of a list of transactions
module _ {A : Type 0} where
  -- the one after the past ones, among those that were begun
  pub next_begun : (past : Past) (ts : List A) → slice_get (begun_ones past ts) (begun_count past) ≡ slice_get ts (length past)
  next_begun [] ts = refl
  next_begun (true ∷ past) [] = refl
  next_begun (false ∷ past) [] = refl
  next_begun (true ∷ past) (t ∷ ts) = next_begun past ts
  next_begun (false ∷ past) (t ∷ ts) = next_begun past ts

  all_stay : (os : List Outcome) (ts : List A) → begun_ones (all_begun os) ts ≡ ts
  all_stay [] ts = refl
  all_stay (o ∷ os) [] = refl
  all_stay (o ∷ os) (t ∷ ts) = ap (λ (us : List A). t ∷ us) (all_stay os ts)

  -- those that were begun stay the same when more of them are over
  pub ones_more : (past : Past) (os : List Outcome) (ts : List A) → begun_ones (past ++ all_begun os) ts ≡ begun_ones past ts
  ones_more [] os ts = all_stay os ts
  ones_more (true ∷ past) os [] = refl
  ones_more (false ∷ past) os [] = refl
  ones_more (true ∷ past) os (t ∷ ts) = ap (λ (us : List A). t ∷ us) (ones_more past os ts)
  ones_more (false ∷ past) os (t ∷ ts) = ones_more past os ts

  -- without the next one
  pub ones_without : (past : Past) (ts : List A) → length past < length ts → begun_ones (past ++ false ∷ []) ts ≡ without_at (begun_count past) (begun_ones past ts)
  ones_without [] [] h = absurd (omega arith)
  ones_without [] (t ∷ ts) h = refl
  ones_without (b ∷ past) [] h = absurd (omega arith)
  ones_without (true ∷ past) (t ∷ ts) h = ap (λ (us : List A). t ∷ us) (ones_without past ts (omega arith))
  ones_without (false ∷ past) (t ∷ ts) h = ones_without past ts (omega arith)

  -- how many they are
  pub ones_length : (past : Past) (ts : List A) → length past ≤ length ts → length (begun_ones past ts) + length past ≡ length ts + begun_count past
  ones_length [] ts h = refl
  ones_length (b ∷ past) [] h = absurd (omega arith)
  ones_length (true ∷ past) (t ∷ ts) h = let i = ones_length past ts (omega arith) in omega arith
  ones_length (false ∷ past) (t ∷ ts) h = let i = ones_length past ts (omega arith) in omega arith

-- ---- how many were begun
pub count_more : (past : Past) (os : List Outcome) → begun_count (past ++ all_begun os) ≡ begun_count past + length os
count_more [] [] = refl
count_more [] (o ∷ os) = let i = count_more [] os in omega arith
count_more (true ∷ past) os = let i = count_more past os in omega arith
count_more (false ∷ past) os = count_more past os

pub count_left : (past : Past) → begun_count (past ++ false ∷ []) ≡ begun_count past
count_left [] = refl
count_left (true ∷ past) = ap suc (count_left past)
count_left (false ∷ past) = count_left past

pub length_begun : (os : List Outcome) → length (all_begun os) ≡ length os
length_begun [] = refl
length_begun (o ∷ os) = ap suc (length_begun os)

pub length_more : (past : Past) (os : List Outcome) → length (past ++ all_begun os) ≡ length past + length os
length_more past os = length-append past (all_begun os) ∙ ap (λ n. length past + n) (length_begun os)

pub begun_append : (os more : List Outcome) → all_begun (os ++ more) ≡ all_begun os ++ all_begun more
begun_append [] more = refl
begun_append (o ∷ os) more = ap (λ (past : Past). true ∷ past) (begun_append os more)

-- ---- the numbers of those that were begun
pub numbers_ended : (n : ℕ) (past : Past) → begun_numbers n (past ++ true ∷ []) ≡ begun_numbers n past ++ (n + length past) ∷ []
numbers_ended n [] = let e : n ≡ n + 0 = omega arith in ap (λ m. m ∷ []) e
numbers_ended n (true ∷ past) =
    let e : suc n + length past ≡ n + suc (length past) = omega arith in
    ap (λ (ms : List ℕ). n ∷ ms) (numbers_ended (suc n) past ∙ ap (λ m. begun_numbers (suc n) past ++ m ∷ []) e)
numbers_ended n (false ∷ past) =
    let e : suc n + length past ≡ n + suc (length past) = omega arith in
    numbers_ended (suc n) past ∙ ap (λ m. begun_numbers (suc n) past ++ m ∷ []) e

pub numbers_left : (n : ℕ) (past : Past) → begun_numbers n (past ++ false ∷ []) ≡ begun_numbers n past
numbers_left n [] = refl
numbers_left n (true ∷ past) = ap (λ (ms : List ℕ). n ∷ ms) (numbers_left (suc n) past)
numbers_left n (false ∷ past) = numbers_left (suc n) past

pub numbers_count : (n : ℕ) (past : Past) → length (begun_numbers n past) ≡ begun_count past
numbers_count n [] = refl
numbers_count n (true ∷ past) = ap suc (numbers_count (suc n) past)
numbers_count n (false ∷ past) = numbers_count (suc n) past

-- ---- how all of them ended
pub ends_ended : (past : Past) (os : List Outcome) (o : Outcome) → begun_count past ≡ length os → all_ends (past ++ true ∷ []) (os ++ o ∷ []) ≡ all_ends past os ++ o ∷ []
ends_ended [] [] o h = refl
ends_ended [] (x ∷ os) o h = absurd (omega arith)
ends_ended (true ∷ past) [] o h = absurd (omega arith)
ends_ended (true ∷ past) (x ∷ os) o h = ap (λ (xs : List Outcome). x ∷ xs) (ends_ended past os o (omega arith))
ends_ended (false ∷ past) os o h = ap (λ (xs : List Outcome). NoMemory ∷ xs) (ends_ended past os o h)

pub ends_left : (past : Past) (os : List Outcome) → begun_count past ≡ length os → all_ends (past ++ false ∷ []) os ≡ all_ends past os ++ NoMemory ∷ []
ends_left [] [] h = refl
ends_left [] (x ∷ os) h = absurd (omega arith)
ends_left (true ∷ past) [] h = absurd (omega arith)
ends_left (true ∷ past) (x ∷ os) h = ap (λ (xs : List Outcome). x ∷ xs) (ends_left past os (omega arith))
ends_left (false ∷ past) os h = ap (λ (xs : List Outcome). NoMemory ∷ xs) (ends_left past os h)
