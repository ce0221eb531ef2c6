-- Laws of priorities.
use Rattle.std.specs.Prelude.{◌≡◌, ℕ, zero, suc, ℤ, pos, List, [], ◌∷◌, slice_index_or, slice_set, replicate, refl}
use Rattle.std.proofs.Common.{sym, subst, arith}
use Rattle.std.proofs.lemmas.Int.{ints}
use Rattle.sg_modes.specs.Priorities.{IsPriority, priority_of, ArePriorities}

pub IsPriority-zero : IsPriority (pos 0)
IsPriority-zero = (omega (arith, ints), omega (arith, ints))

index-zeros : (n i : ℕ) → slice_index_or (replicate n (pos 0)) i (pos 0) ≡ pos 0
index-zeros zero i = refl
index-zeros (suc n) zero = refl
index-zeros (suc n) (suc i) = index-zeros n i

pub priority_of-zeros : (n s : ℕ) → priority_of (replicate n (pos 0)) s ≡ pos 0
priority_of-zeros n zero = refl
priority_of-zeros n (suc i) = index-zeros n i

pub ArePriorities-zeros : (n : ℕ) → ArePriorities (replicate n (pos 0))
ArePriorities-zeros n s = subst (λ (p : ℤ). IsPriority p) (sym (priority_of-zeros n s)) IsPriority-zero

kept : (ps : List ℤ) (k i : ℕ) (p : ℤ) → ((j : ℕ) → IsPriority (slice_index_or ps j (pos 0))) → IsPriority p → IsPriority (slice_index_or (slice_set ps k p) i (pos 0))
kept [] k i p h q = IsPriority-zero
kept (x ∷ ps) zero zero p h q = q
kept (x ∷ ps) zero (suc i) p h q = h (suc i)
kept (x ∷ ps) (suc k) zero p h q = h 0
kept (x ∷ ps) (suc k) (suc i) p h q = kept ps k i p (λ j. h (suc j)) q

-- one priority more
pub ArePriorities-set : (ps : List ℤ) (k : ℕ) (p : ℤ) → ArePriorities ps → IsPriority p → ArePriorities (slice_set ps k p)
ArePriorities-set ps k p h q zero = IsPriority-zero
ArePriorities-set ps k p h q (suc i) = kept ps k i p (λ j. h (suc j)) q
