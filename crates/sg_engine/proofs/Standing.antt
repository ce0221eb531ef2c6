-- The standing waits are those of the trace, before and after a wait and an end; what a search finds in them is the
-- cycle of the trace's last wait, and its victim is the one that is chosen.
use Rattle.std.specs.Prelude.{ℤ, ◌≤ℤ◌, ◌||◌, length, filter}
use Rattle.std.proofs.Common.{◌≡◌, ◌≢◌, ◌⊎◌, ℕ, ◌+◌, ◌<◌, ◌≤◌, Bool, true, false, cond, List, [], ◌∷◌, eqb, refl, sym, ap, ◌∙◌, subst, inl, inr, arith}
use Rattle.std.proofs.lemmas.Bool.{eqb-true}
use Rattle.sg_cells.specs.declared.keys.Key.{Key}
use Rattle.sg_modes.specs.declared.modes.Mode.{Mode}
use Rattle.sg_modes.specs.Sessions.{IsSession, AreSessions, has_session}
use Rattle.sg_modes.specs.Priorities.{priority_of}
use Rattle.sg_modes.specs.Waits as standing
use Rattle.sg_modes.specs.Waits.{is_waiting, blockers_of, AreWaits, with_wait, waits_after, NoCycle, IsCycleSet}
use Rattle.sg_modes.proofs.WaitLaws.{blockers_of-below, blockers_of-above, blockers_of-with, blockers_of-after}
use Rattle.sg_modes.specs.Victims.{IsVictim}
use Rattle.sg_trace.specs.Keys.{is_write}
use Rattle.sg_trace.specs.Needs.{Held}
use Rattle.sg_trace.specs.Traces.{Stage, Event, Begin, Ask, Take, Put, Wait, Victim, Answered, Commit, Rollback, state}
use Rattle.sg_trace.specs.Legal.{IsStage, IsLegal, IsSettled, IsChosen, waits, cleared, last_waiter, since_wait, cost}
use Rattle.sg_laws.proofs.Kept.{legal_good, live_member}

-- ---- a number that is no session's
cleared_none : (f : ℕ → List ℕ) (e u : ℕ) → f u ≡ [] → cleared f e u ≡ []
cleared_none f e u h = by_test (eqb e u || has_session (f u) e)
  where
    by_test : (b : Bool) → cond b [] (f u) ≡ []
    by_test true = refl
    by_test false = h

-- waits for nobody in the trace
none_waits : (w : Stage) → IsStage w → (es : List Event) → IsLegal w es → (u : ℕ) → (IsSession u → ⊥) → waits es u ≡ []
none_waits w r [] l u never = refl
none_waits w r (Wait v k m b ∷ es) l u never = by_test (eqb u v) refl (none_waits w r es l.0 u never)
  where
    by_test : (t : Bool) → eqb u v ≡ t → waits es u ≡ [] → cond t b (waits es u) ≡ []
    by_test true e ih = absurd (never (subst IsSession (sym (eqb-true u v e)) (live_member w (state w es) v (legal_good w r es l.0) l.1.1.live)))
    by_test false e ih = ih
none_waits w r (Victim v c ∷ es) l u never = cleared_none (waits es) v u (none_waits w r es l.0 u never)
none_waits w r (Commit v p ∷ es) l u never = cleared_none (waits es) v u (none_waits w r es l.0 u never)
none_waits w r (Rollback v c ∷ es) l u never = cleared_none (waits es) v u (none_waits w r es l.0 u never)
none_waits w r (Begin v t ∷ es) l u never = none_waits w r es l.0 u never
none_waits w r (Ask v n st ∷ es) l u never = none_waits w r es l.0 u never
none_waits w r (Take v k m ∷ es) l u never = none_waits w r es l.0 u never
none_waits w r (Put v k m ∷ es) l u never = none_waits w r es l.0 u never
none_waits w r (Answered v a ∷ es) l u never = none_waits w r es l.0 u never

session_or_not : (u : ℕ) → IsSession u ⊎ ((u ≤ 0) ⊎ (64 < u))
session_or_not u = grind arith

-- so where the two agree on sessions, they agree
pub all_waits : (w : Stage) → IsStage w → (es : List Event) → IsLegal w es → (ws : List standing.Wait) → AreWaits ws → ((u : ℕ) → IsSession u → blockers_of ws u ≡ waits es u) → (u : ℕ) → blockers_of ws u ≡ waits es u
all_waits w r es l ws are same u =
    elim (session_or_not u) [
      | inl is ↦ same u is
      | inr (inl low) ↦ blockers_of-below ws 0 u are low ∙ sym (none_waits w r es l u (λ is. let a : 1 ≤ u = is.0 in omega (arith, a, low)))
      | inr (inr high) ↦ blockers_of-above ws 0 u are high ∙ sym (none_waits w r es l u (λ is. let a : u ≤ 64 = is.1 in omega (arith, a, high)))
    ]

-- ---- one wait more, and an end
module _ (es : List Event) (ws : List standing.Wait) (same : (u : ℕ) → IsSession u → blockers_of ws u ≡ waits es u) where
  pub waits_more : (s : ℕ) (k : Key) (m : Mode) (b : List ℕ) → is_waiting ws s ≡ false → (u : ℕ) → IsSession u → blockers_of (with_wait ws (record { session = s; blockers = b })) u ≡ waits (Wait s k m b ∷ es) u
  waits_more s k m b none u is = blockers_of-with ws (record { session = s; blockers = b }) u none ∙ ap (λ bs. cond (eqb u s) b bs) (same u is)

  pub waits_ended : AreWaits ws → (s u : ℕ) → IsSession u → blockers_of (waits_after s ws) u ≡ cleared (waits es) s u
  waits_ended are s u is = blockers_of-after ws 0 s u are ∙ ap (λ bs. cond (eqb s u || has_session bs s) [] bs) (same u is)

  -- a session of which no wait stands doesn't wait in the trace
  pub is_free : (s : ℕ) → IsSession s → blockers_of ws s ≡ [] → waits es s ≡ []
  is_free s is e = sym (same s is) ∙ e

-- ---- the cycle of the last wait
pub is_settled : (es : List Event) (ws : List standing.Wait) → ((u : ℕ) → blockers_of ws u ≡ waits es u) → (s : ℕ) → last_waiter es ≡ s → NoCycle (blockers_of ws) s → IsSettled es
is_settled es ws same s last none = subst (λ (f : ℕ → List ℕ). NoCycle f (last_waiter es)) (λ i u. same u i) (subst (NoCycle (blockers_of ws)) (sym last) none)

-- the victim of equal ranks
victim_by : (p q : ℕ → ℤ) (c d : ℕ → ℕ) (cycle : List ℕ) (v : ℕ) → ((u : ℕ) → has_session cycle u ≡ true → p u ≡ q u) → ((u : ℕ) → has_session cycle u ≡ true → c u ≡ d u) → IsVictim p c cycle v → IsVictim q d cycle v
victim_by p q c d cycle v ranks costs h = record {
  member = h.member;
  lowest = λ u m. subst (λ (x : ℤ). x ≤ℤ q u) (ranks v h.member) (subst (λ (x : ℤ). p v ≤ℤ x) (ranks u m) (h.lowest u m));
  cheapest = λ u m e. subst (λ (x : ℕ). x ≤ d u) (costs v h.member) (subst (λ (x : ℕ). c v ≤ x) (costs u m) (h.cheapest u m (ranks u m ∙ (e ∙ sym (ranks v h.member)))));
  greatest = λ u m e f. h.greatest u m (ranks u m ∙ (e ∙ sym (ranks v h.member))) (costs u m ∙ (f ∙ sym (costs v h.member)));
}

pub is_chosen : (w : Stage) (es : List Event) (ws : List standing.Wait) → ((u : ℕ) → blockers_of ws u ≡ waits es u) → (s : ℕ) → since_wait es ≡ true → last_waiter es ≡ s → (cycle : List ℕ) → AreSessions cycle → IsCycleSet (blockers_of ws) s cycle → cycle ≢ []
    → (priority : ℕ → ℤ) (price : ℕ → ℕ) → ((u : ℕ) → has_session cycle u ≡ true → priority u ≡ priority_of w.priorities u) → ((u : ℕ) → has_session cycle u ≡ true → price u ≡ cost ((state w es).of u).held)
    → (v : ℕ) → IsVictim priority price cycle v → IsChosen w es v cycle
is_chosen w es ws same s since last cycle are set some priority price ranks costs v h = record {
  since = since;
  sessions = are;
  is_cycle = subst (λ (f : ℕ → List ℕ). IsCycleSet f (last_waiter es) cycle) (λ i u. same u i) (subst (λ n. IsCycleSet (blockers_of ws) n cycle) (sym last) set);
  some = some;
  victim = victim_by priority (priority_of w.priorities) price (λ u. cost ((state w es).of u).held) cycle v ranks costs h;
}

-- ---- the cost that is kept with a session
-- one grant more
pub cost_more : (k : Key) (m : Mode) (held : List Held) → cost ((k, m) ∷ held) ≡ cost held + cond (is_write m) 1 0
cost_more k m held = by_test (is_write m)
  where
    by_test : (b : Bool) → length (cond b ((k, m) ∷ filter (λ (h : Held). is_write h.1) held) (filter (λ (h : Held). is_write h.1) held)) ≡ cost held + cond b 1 0
    by_test true = omega arith
    by_test false = omega arith
