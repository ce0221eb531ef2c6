-- The ranks of sessions, one after another.
use Rattle.std.specs.Prelude.{ℤ, slice_get, ◌-◌, ◌||◌}
use Rattle.std.proofs.Common.{◌≡◌, ◌⊎◌, ℕ, ◌+◌, Bool, true, false, cond, List, [], ◌∷◌, eqb, Some, refl, sym, ap, ◌∙◌, inl, inr, arith, eqb-true, ◌<◌, length, get_or}
use Rattle.std.proofs.lemmas.Option.{slice_get-get_or}
use Rattle.sg_modes.specs.Sessions.{has_session}
use Rattle.sg_waits.specs.declared.ranks.Rank.{Rank}
use Rattle.sg_waits.specs.Ranks.{rank_of}
use Rattle.sg_engine.specs.declared.shared.Seat.{Seat}
use Rattle.sg_engine.specs.Waiting.{rank_in, cost_at}

-- each session of the cycle is still to come, or has its rank
abbrev pub AreRanked : List ℕ → List ℤ → List Seat → List ℕ → List Rank → Type 0
AreRanked cycle priorities seats rest ranks = (u : ℕ) → has_session cycle u ≡ true → (has_session rest u ≡ true) ⊎ (rank_of ranks u ≡ rank_in priorities seats u)

pub rank_is : (priorities : List ℤ) (seats : List Seat) (s i : ℕ) (x : Seat) (rank : Rank) → i + 1 ≡ s → i < length seats → x ≡ get_or seats i x → rank.priority ≡ Rattle.sg_modes.specs.Priorities.priority_of priorities s → rank.cost ≡ cost_at (Some x) → rank ≡ rank_in priorities seats s
rank_is priorities seats s i x rank mine within there p c =
    let at : slice_get seats i ≡ Some x = slice_get-get_or seats i x within ∙ ap (λ y. Some y) (sym there) in
    let q : s - 1 ≡ i = omega (arith, mine) in
    let d : rank.cost ≡ cost_at (slice_get seats (s - 1)) = c ∙ ap cost_at (sym at) ∙ ap (λ n. cost_at (slice_get seats n)) (sym q) in
    λ j. record { priority = p j; cost = d j }

pub ranked_more : (cycle : List ℕ) (priorities : List ℤ) (seats : List Seat) (rest rest' : List ℕ) (ranks ranks' : List Rank) (s : ℕ) (rank : Rank) → rest ≡ s ∷ rest' → rank ≡ rank_in priorities seats s
    → ((u : ℕ) → rank_of ranks' u ≡ cond (eqb u s) rank (rank_of ranks u)) → AreRanked cycle priorities seats rest ranks → AreRanked cycle priorities seats rest' ranks'
ranked_more cycle priorities seats rest rest' ranks ranks' s rank first right set h u in_it = by_test (eqb u s) refl
  where
    by_test : (b : Bool) → eqb u s ≡ b → (has_session rest' u ≡ true) ⊎ (rank_of ranks' u ≡ rank_in priorities seats u)
    by_test true q = inr (set u ∙ (ap (λ b. cond b rank (rank_of ranks u)) q ∙ (right ∙ ap (rank_in priorities seats) (sym (eqb-true u s q)))))
    by_test false q =
        elim (h u in_it) [
          | inl m ↦ inl (sym (ap (λ b. b || has_session rest' u) q) ∙ (sym (ap (λ ns. has_session ns u) first) ∙ m))
          | inr r ↦ inr (set u ∙ (ap (λ b. cond b rank (rank_of ranks u)) q ∙ r))
        ]

pub ranked_last : (cycle : List ℕ) (priorities : List ℤ) (seats : List Seat) (rest : List ℕ) (ranks : List Rank) → rest ≡ [] → AreRanked cycle priorities seats rest ranks → (u : ℕ) → has_session cycle u ≡ true → rank_of ranks u ≡ rank_in priorities seats u
ranked_last cycle priorities seats rest ranks none h u in_it = elim (h u in_it) [ inl m ↦ absurd (let f : false ≡ true = sym (ap (λ ns. has_session ns u) none) ∙ m in cc) | inr r ↦ r ]
