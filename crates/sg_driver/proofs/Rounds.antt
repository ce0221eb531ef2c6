-- Rounds of turns: as long as a session has a transaction left, a round leaves less to be done.
use Rattle.std.specs.Prelude.{◌≡◌, ◌⊎◌, ℕ, ◌<◌, ◌≤◌, Bool, true, false, not, ◌||◌, List, [], ◌∷◌, ◌++◌, length, map, slice_get, is_some, Option, None, refl}
use Rattle.std.proofs.Common.{sym, ap, ◌∙◌, subst, arith, eqb, cond, inl, inr, zero, suc}
use Rattle.std.proofs.lemmas.Bool.{eqb-true, cases_lt}
use Rattle.sg_cells.specs.Laws.{Has}
use Rattle.sg_modes.proofs.BoolLaws.{clash}
use Rattle.sg_modes.specs.Sessions.{IsSession}
use Rattle.sg_plain.specs.Transactions.{TransactionPlan}
use Rattle.sg_script.specs.declared.sessions.SessionScript.{SessionScript}
use Rattle.sg_script.specs.Plans.{numbers_of, sessions_of}
use Rattle.sg_trace.specs.Traces.{state}
use Rattle.sg_trace.specs.Scripts.{transactions_of}
use Rattle.sg_trace.specs.Driven.{can_turn}
use Rattle.sg_trace.specs.Measure.{one}
use Rattle.sg_turns.proofs.Progress.{someone_can}
use Rattle.sg_engine.specs.Shown.{is_live_in}
use Rattle.sg_run.specs.Runs.{RunShown, past_in, begun_script, at_hand, has_ended, IsRun}
use Rattle.sg_run.proofs.Begun.{at_is, session_or_not}
use Rattle.sg_run.proofs.Moves.{ended_is, cannot_ended, cannot_standing}
use Rattle.sg_driver.specs.Drives.{IsStuck, Leads, after_turns}
use Rattle.sg_driver.proofs.Leading.{after_is}
use Rattle.sg_driver.proofs.Measured.{measure_of, moved}

-- ---- turns one after another
pub leads_legal : (ts : List ℕ) (old new : RunShown) → IsRun old → Leads ts old new → IsRun new
leads_legal [] old new r h = subst (λ (v : RunShown). IsRun v) (sym h) r
leads_legal (s ∷ ts) old new r h = h.2.legal

-- nothing has changed, and all of these are stuck; or less is left to be done
abbrev Told : List ℕ → RunShown → RunShown → Type 0
Told ts old new = ((new ≡ old) × ((u : ℕ) → Has ts u → IsStuck old u)) ⊎ (measure_of new < measure_of old)

lead : (ts : List ℕ) (old new : RunShown) → IsRun old → Leads ts old new → Told ts old new
lead [] old new r h = inl (h, λ u m. absurd m)
lead (s ∷ ts) old new r h = elim (lead ts old h.0 r h.1) [
  | inl still ↦ elim (moved s h.0 new (leads_legal ts old h.0 r h.1) h.2) [
    | inl stuck ↦ inl (
      stuck.1 ∙ still.0,
      λ u m. elim m [
        | inl e ↦ subst (λ n. IsStuck old n) e (subst (λ (v : RunShown). IsStuck v s) still.0 stuck.0)
        | inr there ↦ still.1 u there
      ],
    )
    | inr less ↦ inr (subst (λ (v : RunShown). measure_of new < measure_of v) still.0 less)
  ]
  | inr lower ↦ elim (moved s h.0 new (leads_legal ts old h.0 r h.1) h.2) [
    | inl stuck ↦ inr (subst (λ (v : RunShown). measure_of v < measure_of old) (sym stuck.1) lower)
    | inr less ↦ inr (omega arith)
  ]
]

-- ---- the sessions of a round
has_right : (xs ys : List ℕ) (u : ℕ) → Has ys u → Has (xs ++ ys) u
has_right [] ys u h = h
has_right (x ∷ xs) ys u h = inr (has_right xs ys u h)

has_left : (xs ys : List ℕ) (u : ℕ) → Has xs u → Has (xs ++ ys) u
has_left [] ys u h = absurd h
has_left (x ∷ xs) ys u (inl e) = inl e
has_left (x ∷ xs) ys u (inr h) = inr (has_left xs ys u h)

in_turns : (ss : List ℕ) (u : ℕ) → Has ss u → Has (after_turns ss []) u
in_turns [] u h = h
in_turns (s ∷ ss) u h =
    subst (λ (xs : List ℕ). Has xs u) (sym (after_is ss (s ∷ []))) (elim h [
      | inl e ↦ has_right (after_turns ss []) (s ∷ []) u (inl e)
      | inr there ↦ has_left (after_turns ss []) (s ∷ []) u (in_turns ss u there)
    ])

-- a session is in the script or has no transaction
listed : (sessions : List SessionScript) (u : ℕ) → Has (numbers_of sessions) u ⊎ (transactions_of (map (λ (x : SessionScript). record { number = x.session; transactions = x.transactions }) sessions) u ≡ [])
listed [] u = inr refl
listed (x ∷ rest) u = go (eqb x.session u) refl (listed rest u)
  where
    others : List TransactionPlan
    others = transactions_of (map (λ (x : SessionScript). record { number = x.session; transactions = x.transactions }) rest) u

    go : (b : Bool) → eqb x.session u ≡ b → Has (numbers_of rest) u ⊎ (others ≡ []) → Has (x.session ∷ numbers_of rest) u ⊎ (cond b x.transactions others ≡ [])
    go true e h = inl (inl (eqb-true x.session u e))
    go false e (inl h) = inl (inr h)
    go false e (inr h) = inr h

module _ (v : RunShown) (r : IsRun v) where
  -- one that isn't in the script has ended
  unlisted : (u : ℕ) → IsSession u → transactions_of (sessions_of v.script) u ≡ [] → has_ended v u ≡ true
  unlisted u is none = by_live (is_live_in v.engine u) refl
    where
      no_hand : at_hand v u ≡ None
      no_hand = at_is v.script.sessions u (length (past_in v.past u)) ∙ ap (λ (ts : List TransactionPlan). slice_get ts (length (past_in v.past u))) none

      by_live : (b : Bool) → is_live_in v.engine u ≡ b → not (b || is_some (at_hand v u)) ≡ true
      by_live true e =
          let w = r.within u is in
          let n = ap (λ (ts : List TransactionPlan). length ts) none in
          let o = ap one e in absurd (omega arith)
      by_live false e = ap (λ (o : Option TransactionPlan). not (is_some o)) no_hand

  not_false : (b : Bool) → not b ≡ false → b ≡ true
  not_false true e = refl
  not_false false e = absurd (cc)

  abbrev more : ℕ → Bool
  more s = ((state v.engine.stage r.events).of s).live || is_some (slice_get (transactions_of (begun_script v) s) ((state v.engine.stage r.events).of s).begun)

  -- where all sessions of the script are stuck, none has a transaction left
  pub all_stuck : ((u : ℕ) → Has (numbers_of v.script.sessions) u → IsStuck v u) → (s : ℕ) → IsSession s → has_ended v s ≡ false → ⊥
  all_stuck stuck s is open_one =
      let has : more s ≡ true = not_false (more s) (sym (ended_is v r r.events r.run s is) ∙ open_one) in
      let y = someone_can (begun_script v) v.engine.stage r.events r.staged r.run.legal r.run.settled s is has in
      elim (listed v.script.sessions y.0) [
        | inl there ↦ elim (stuck y.0 there) [
          | inl ended ↦ clash (can_turn (begun_script v) v.engine.stage r.events y.0) y.2 (cannot_ended v r r.events r.run y.0 y.1 ended)
          | inr stands ↦ clash (can_turn (begun_script v) v.engine.stage r.events y.0) y.2 (cannot_standing v r r.events r.run y.0 y.1 stands)
        ]
        | inr none ↦ clash (can_turn (begun_script v) v.engine.stage r.events y.0) y.2 (cannot_ended v r r.events r.run y.0 y.1 (unlisted y.0 y.1 none))
      ]

-- so a round leaves less to be done
pub round_lowers : (old new : RunShown) → IsRun old → Leads (after_turns (numbers_of old.script.sessions) []) old new → (s : ℕ) → IsSession s → has_ended old s ≡ false → measure_of new < measure_of old
round_lowers old new r h s is open_one = elim (lead (after_turns (numbers_of old.script.sessions) []) old new r h) [
  | inl still ↦ absurd (all_stuck old r (λ u there. still.1 u (in_turns (numbers_of old.script.sessions) u there)) s is open_one)
  | inr lower ↦ lower
]

-- ---- whether all have ended
last_or_less : (s n : ℕ) → s ≤ suc n → (s ≡ suc n) ⊎ (s ≤ n)
last_or_less s n h = elim (cases_lt n s) [
  | inl lt ↦ inl (omega arith)
  | inr ge ↦ inr (omega arith)
]

below : (v : RunShown) (n : ℕ) → ((s : ℕ) → s ≤ n → IsSession s → has_ended v s ≡ true) ⊎ ((s : ℕ) × IsSession s × (has_ended v s ≡ false))
below v zero = inl (λ s le is. let low = is.0 in absurd (omega arith))
below v (suc n) = elim (below v n) [
  | inl all ↦ by_last (has_ended v (suc n)) refl all
  | inr some ↦ inr some
]
  where
    by_last : (b : Bool) → has_ended v (suc n) ≡ b → ((s : ℕ) → s ≤ n → IsSession s → has_ended v s ≡ true) → ((s : ℕ) → s ≤ suc n → IsSession s → has_ended v s ≡ true) ⊎ ((s : ℕ) × IsSession s × (has_ended v s ≡ false))
    by_last true e all = inl (λ s le is. elim (last_or_less s n le) [
      | inl same ↦ subst (λ k. has_ended v k ≡ true) (sym same) e
      | inr less ↦ all s less is
    ])
    by_last false e all = elim (session_or_not (suc n)) [
      | inl is ↦ inr (suc n, is, e)
      | inr none ↦ inl (λ s le is. elim (last_or_less s n le) [
        | inl same ↦ absurd (none (subst IsSession same is))
        | inr less ↦ all s less is
      ])
    ]

pub one_left : (v : RunShown) → (((s : ℕ) → IsSession s → has_ended v s ≡ true) → ⊥) → (s : ℕ) × IsSession s × (has_ended v s ≡ false)
one_left v not_all = elim (below v 64) [
  | inl all ↦ absurd (not_all (λ s is. all s is.1 is))
  | inr some ↦ some
]
