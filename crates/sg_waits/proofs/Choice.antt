-- Choosing a victim, one member after another.
use Rattle.std.proofs.Common.{ℕ, ◌≡◌, ◌<◌, ◌≤◌, arith, refl, sym, ap, ◌∙◌, subst, true, zero, suc, List, [], ◌∷◌, eqb, eqb-true, inl, inr, slice_index_or, replicate}
use mathlib.Core.Logic.{◌⊎◌}
use Rattle.std.specs.Prelude.{ℤ, ◌<ℤ◌, ◌≤ℤ◌}
use Rattle.std.proofs.lemmas.Int.{ints}
use Rattle.sg_modes.proofs.BoolLaws.{clash, either, or_right}
use Rattle.sg_modes.specs.Sessions.{RisingAbove, AreSessions, has_session}
use Rattle.sg_modes.specs.Victims.{IsVictim}
use Rattle.sg_waits.specs.Ranks.{no_rank, rank_of}
use Rattle.sg_waits.proofs.Finds.{has_head}

-- v is rolled back before u
pub record Before (priority : ℕ → ℤ) (cost : ℕ → ℕ) (v u : ℕ) : Type 0 where
  pub lowest : priority v ≤ℤ priority u
  pub cheapest : priority u ≡ priority v → cost v ≤ cost u
  pub greatest : priority u ≡ priority v → cost u ≡ cost v → u ≤ v

-- the choice among the members up to the top one; the rest are above it
pub record Chosen (priority : ℕ → ℤ) (cost : ℕ → ℕ) (cycle rest : List ℕ) (v : ℕ) : Type 0 where
  pub member : has_session cycle v ≡ true
  pub top : ℕ
  pub rising : RisingAbove top rest
  pub below : v ≤ top
  pub part : (u : ℕ) → has_session rest u ≡ true → has_session cycle u ≡ true
  pub seen : (u : ℕ) → has_session cycle u ≡ true → (has_session rest u ≡ true) ⊎ ((u ≤ top) × Before priority cost v u)

pub chosen_first : (priority : ℕ → ℤ) (cost : ℕ → ℕ) (cycle rest : List ℕ) (v : ℕ) → AreSessions cycle → cycle ≡ (v ∷ rest) → Chosen priority cost cycle rest v
chosen_first priority cost cycle rest v h e = subst (λ (c : List ℕ). Chosen priority cost c rest v) (sym e) (record {
  member = has_head v rest;
  top = v;
  rising = (let r : AreSessions (v ∷ rest) = subst (λ (c : List ℕ). AreSessions c) e h in r.2);
  below = omega arith;
  part = λ u m. or_right (eqb u v) (has_session rest u) m;
  seen = λ u m. elim (either (eqb u v) (has_session rest u) m) [
    | inr t ↦ inl t
    | inl t ↦ let q : u ≡ v = eqb-true u v t in
        inr (omega arith, subst (λ (z : ℕ). Before priority cost v z) (sym q) (record { lowest = omega (arith, ints); cheapest = λ p. omega arith; greatest = λ p c. omega arith }))
  ];
})

-- the next member goes before v, or v before it
pub NotAfter : ℤ → ℕ → ℤ → ℕ → Type 0
NotAfter p c q d = (p <ℤ q) ⊎ ((p ≡ q) × (c ≤ d))

pub chosen_new : (priority : ℕ → ℤ) (cost : ℕ → ℕ) (cycle rest : List ℕ) (v s : ℕ) → Chosen priority cost cycle (s ∷ rest) v → (priority s <ℤ priority v) ⊎ ((priority s ≡ priority v) × (cost s ≤ cost v)) → Chosen priority cost cycle rest s
chosen_new priority cost cycle rest v s c n = record {
  member = c.part s (has_head s rest);
  top = s;
  rising = c.rising.2;
  below = omega arith;
  part = λ u m. c.part u (or_right (eqb u s) (has_session rest u) m);
  seen = λ u m. elim (c.seen u m) [
    | inl t ↦ elim (either (eqb u s) (has_session rest u) t) [
      | inr r ↦ inl r
      | inl r ↦ let q : u ≡ s = eqb-true u s r in
          inr (omega arith, subst (λ (z : ℕ). Before priority cost s z) (sym q) (record { lowest = omega (arith, ints); cheapest = λ p. omega arith; greatest = λ p d. omega arith }))
    ]
    | inr t ↦ inr ((let l : u ≤ c.top = t.0 in let a : c.top < s = c.rising.0 in omega arith), after u n t.0 t.1)
  ];
}
  where
    after : (u : ℕ) → (priority s <ℤ priority v) ⊎ ((priority s ≡ priority v) × (cost s ≤ cost v)) → u ≤ c.top → Before priority cost v u → Before priority cost s u
    after u (inl l) b r = let low : priority v ≤ℤ priority u = r.lowest in record { lowest = omega (arith, ints); cheapest = λ p. absurd (omega (arith, ints)); greatest = λ p d. absurd (omega (arith, ints)) }
    after u (inr (e, l)) b r = let low : priority v ≤ℤ priority u = r.lowest in let a : c.top < s = c.rising.0 in record {
      lowest = omega (arith, ints);
      cheapest = λ p. (let k : cost v ≤ cost u = r.cheapest (p ∙ e) in omega arith);
      greatest = λ p d. omega arith;
    }

pub chosen_keep : (priority : ℕ → ℤ) (cost : ℕ → ℕ) (cycle rest : List ℕ) (v s : ℕ) → Chosen priority cost cycle (s ∷ rest) v → ((priority s <ℤ priority v) ⊎ ((priority s ≡ priority v) × (cost s ≤ cost v)) → ⊥) → Chosen priority cost cycle rest v
chosen_keep priority cost cycle rest v s c n = record {
  member = c.member;
  top = s;
  rising = c.rising.2;
  below = (let l : v ≤ c.top = c.below in let a : c.top < s = c.rising.0 in omega arith);
  part = λ u m. c.part u (or_right (eqb u s) (has_session rest u) m);
  seen = λ u m. elim (c.seen u m) [
    | inl t ↦ elim (either (eqb u s) (has_session rest u) t) [
      | inr r ↦ inl r
      | inl r ↦ let q : u ≡ s = eqb-true u s r in inr (
        omega arith,
        subst (λ (z : ℕ). Before priority cost v z) (sym q) (record {
          lowest = low (priority s) (priority v) (λ l. n (inl l));
          cheapest = λ p. (let k : cost v < cost s = over (cost s) (cost v) (λ l. n (inr (p, l))) in omega arith);
          greatest = λ p d. absurd (n (inr (p, omega arith)));
        }),
      )
    ]
    | inr t ↦ inr ((let l : u ≤ c.top = t.0 in let a : c.top < s = c.rising.0 in omega arith), t.1)
  ];
}
  where
    low : (p q : ℤ) → (p <ℤ q → ⊥) → q ≤ℤ p
    low p q n = grind (arith, ints)

    over : (c d : ℕ) → (c ≤ d → ⊥) → d < c
    over c d n = omega arith

pub chosen_last : (priority : ℕ → ℤ) (cost : ℕ → ℕ) (cycle rest : List ℕ) (v : ℕ) → rest ≡ [] → Chosen priority cost cycle rest v → IsVictim priority cost cycle v
chosen_last priority cost cycle rest v e c = record {
  member = c.member;
  lowest = λ u m. (before u m).lowest;
  cheapest = λ u m. (before u m).cheapest;
  greatest = λ u m. (before u m).greatest;
}
  where
    before : (u : ℕ) → has_session cycle u ≡ true → Before priority cost v u
    before u m = elim (c.seen u m) [
      | inl t ↦ absurd (clash (has_session rest u) t (ap (λ (ns : List ℕ). has_session ns u) e))
      | inr t ↦ t.1
    ]

-- ---- ranks by session
index-ranks : (n i : ℕ) → slice_index_or (replicate n no_rank) i no_rank ≡ no_rank
index-ranks zero i = refl
index-ranks (suc n) zero = refl
index-ranks (suc n) (suc i) = index-ranks n i

pub rank_of-none : (n s : ℕ) → rank_of (replicate n no_rank) s ≡ no_rank
rank_of-none n zero = refl
rank_of-none n (suc i) = index-ranks n i
