-- The numbers in the script of the transactions that were begun, and what stands at them.
use Rattle.std.proofs.Common.{◌≡◌, ℕ, zero, suc, ◌+◌, ◌-◌, ◌<◌, ◌≤◌, true, false, List, [], ◌∷◌, length, Option, Some, refl, ap, ◌∙◌, arith}
use Rattle.std.specs.Prelude.{slice_get, slice_index_or}
use Rattle.sg_run.specs.declared.outcomes.Outcome.{Outcome}
use Rattle.sg_run.specs.declared.outcomes.Outcome.TheVariants.{Committed, NoMemory}
use Rattle.sg_run.specs.Ends.{Past, begun_count, begun_ones, begun_numbers, all_ends}

-- the number of the one that was the i-th to begin, counted from 0, where the first of all has the number n
abbrev pub nth : ℕ → Past → ℕ → ℕ
nth n past i = slice_index_or (begun_numbers n past) i 0

pub nth_least : (n : ℕ) (past : Past) (i : ℕ) → i < begun_count past → n ≤ nth n past i
nth_least n [] i h = absurd (omega arith)
nth_least n (true ∷ past) zero h = omega arith
nth_least n (true ∷ past) (suc i) h = let l = nth_least (suc n) past i (omega arith) in omega arith
nth_least n (false ∷ past) i h = let l = nth_least (suc n) past i h in omega arith

pub nth_rises : (n : ℕ) (past : Past) (i j : ℕ) → i < j → j < begun_count past → nth n past i < nth n past j
nth_rises n [] i j h k = absurd (omega arith)
nth_rises n (true ∷ past) i zero h k = absurd (omega arith)
nth_rises n (true ∷ past) zero (suc j) h k = let l = nth_least (suc n) past j (omega arith) in omega arith
nth_rises n (true ∷ past) (suc i) (suc j) h k = nth_rises (suc n) past i j (omega arith) (omega arith)
nth_rises n (false ∷ past) i j h k = nth_rises (suc n) past i j h k

-- one place further
further : {A : Type 0} (t : A) (ts : List A) (n m : ℕ) (o : Option A) → suc n ≤ m → slice_get ts (m - suc n) ≡ o → slice_get (t ∷ ts) (m - n) ≡ o
further t ts n m o h e =
    let q : m - n ≡ suc (m - suc n) = omega arith in
    ap (slice_get (t ∷ ts)) q ∙ e

-- it stands there among all
pub begun_at : {A : Type 0} (n : ℕ) (past : Past) (ts : List A) (i : ℕ) (x : A) → i < begun_count past → slice_get (begun_ones past ts) i ≡ Some x → slice_get ts (nth n past i - n) ≡ Some x
begun_at n [] ts i x h e = absurd (omega arith)
begun_at n (true ∷ past) [] i x h e = cc
begun_at n (false ∷ past) [] i x h e = cc
begun_at n (true ∷ past) (t ∷ ts) zero x h e =
    let q : n - n ≡ 0 = omega arith in
    ap (slice_get (t ∷ ts)) q ∙ e
begun_at n (true ∷ past) (t ∷ ts) (suc i) x h e =
    let least = nth_least (suc n) past i (omega arith) in
    further t ts n (nth (suc n) past i) (Some x) least (begun_at (suc n) past ts i x (omega arith) e)
begun_at n (false ∷ past) (t ∷ ts) i x h e =
    let least = nth_least (suc n) past i h in
    further t ts n (nth (suc n) past i) (Some x) least (begun_at (suc n) past ts i x h e)

-- ---- outcomes
pub ends_length : (past : Past) (os : List Outcome) → begun_count past ≡ length os → length (all_ends past os) ≡ length past
ends_length [] os h = refl
ends_length (false ∷ past) os h = ap suc (ends_length past os h)
ends_length (true ∷ past) [] h = absurd (omega arith)
ends_length (true ∷ past) (o ∷ os) h = ap suc (ends_length past os (omega arith))

-- the outcome of the i-th to begin stands at its number
pub end_at : (n : ℕ) (past : Past) (os : List Outcome) (i : ℕ) (o : Outcome) → begun_count past ≡ length os → i < length os → slice_get os i ≡ Some o → slice_get (all_ends past os) (nth n past i - n) ≡ Some o
end_at n [] os i o h l e = absurd (omega arith)
end_at n (true ∷ past) [] i o h l e = absurd (omega arith)
end_at n (true ∷ past) (x ∷ os) zero o h l e =
    let q : n - n ≡ 0 = omega arith in
    ap (slice_get (x ∷ all_ends past os)) q ∙ e
end_at n (true ∷ past) (x ∷ os) (suc i) o h l e =
    let least = nth_least (suc n) past i (omega arith) in
    further x (all_ends past os) n (nth (suc n) past i) (Some o) least (end_at (suc n) past os i o (omega arith) (omega arith) e)
end_at n (false ∷ past) os i o h l e =
    let least = nth_least (suc n) past i (omega arith) in
    further NoMemory (all_ends past os) n (nth (suc n) past i) (Some o) least (end_at (suc n) past os i o h l e)

-- a commit among all outcomes is one of those that were begun
pub record IsCommitAmong (n : ℕ) (past : Past) (os : List Outcome) (place p : ℕ) : Type 0 where
  pub i : ℕ
  pub at : slice_get os i ≡ Some (Committed p)
  pub number : nth n past i ≡ n + place

pub commit_among : (n : ℕ) (past : Past) (os : List Outcome) (place p : ℕ) → slice_get (all_ends past os) place ≡ Some (Committed p) → IsCommitAmong n past os place p
commit_among n [] os place p e = absurd (cc)
commit_among n (false ∷ past) os zero p e = absurd (cc)
commit_among n (false ∷ past) os (suc place) p e =
    let c = commit_among (suc n) past os place p e in
    record { i = c.i; at = c.at; number = omega (arith, c.number) }
commit_among n (true ∷ past) [] place p e = absurd (cc)
commit_among n (true ∷ past) (o ∷ os) zero p e = record { i = 0; at = e; number = omega arith }
commit_among n (true ∷ past) (o ∷ os) (suc place) p e =
    let c = commit_among (suc n) past os place p e in
    record { i = suc c.i; at = c.at; number = omega (arith, c.number) }
