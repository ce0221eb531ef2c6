-- The script without the transactions that were left unbegun.
use Rattle.std.proofs.Common.{◌≡◌, ◌≢◌, ℕ, zero, suc, ◌<◌, ◌≤◌, Bool, true, false, cond, List, [], ◌∷◌, ◌++◌, length, eqb, Some, refl, sym, ap, ◌∙◌, inl, inr, arith, ◌⊎◌}
use Rattle.std.specs.Prelude.{slice_get, slice_index_or, ◌==◌}
use Rattle.std.proofs.lemmas.Bool.{cases_lt, eqb-true}
use Rattle.sg_modes.specs.Sessions.{IsSession}
use Rattle.sg_plain.specs.Transactions.{TransactionPlan}
use Rattle.sg_script.specs.declared.sessions.SessionScript.{SessionScript}
use Rattle.sg_script.specs.Plans.{session_at, transaction_in, transaction_at}
use Rattle.sg_trace.specs.Scripts.{Script, transactions_of}
use Rattle.sg_trace.specs.Measure.{without_at, IsWithout}
use Rattle.sg_run.specs.declared.outcomes.Outcome.{Outcome}
use Rattle.sg_run.specs.Ends.{Past, begun_count, begun_ones, all_begun}
use Rattle.sg_run.specs.Runs.{past_in, without_unbegun}
use Rattle.sg_run.specs.Opens.{transactions_at}
use Rattle.sg_run.proofs.Pasts.{ones_more, ones_without, ones_length}

-- ---- look-ups
-- a script's transaction at a place is that of its session's list
pub at_is : (sessions : List SessionScript) (s place : ℕ) → transaction_at sessions s place ≡ slice_get (transactions_at sessions s) place
at_is [] s place = refl
at_is (x ∷ rest) s place = by_test (x.session == s) (at_is rest s place)
  where
    by_test : (b : Bool) → transaction_at rest s place ≡ slice_get (transactions_at rest s) place → transaction_in (cond b (Some x) (session_at rest s)) place ≡ slice_get (cond b x.transactions (transactions_at rest s)) place
    by_test true h = refl
    by_test false h = h

none_of_none : {A : Type 0} (past : Past) → begun_ones past [] ≡ (let none : List A = [] in none)
none_of_none [] = refl
none_of_none (b ∷ past) = refl

-- the transactions of a session that were begun
pub of_begun : (past : List Past) (ps : Script) (s : ℕ) → transactions_of (without_unbegun past ps) s ≡ begun_ones (past_in past s) (transactions_of ps s)
of_begun past [] s = sym (none_of_none (past_in past s))
of_begun past (p ∷ ps) s = go (eqb p.number s) refl (of_begun past ps s)
  where
    go : (b : Bool) → eqb p.number s ≡ b → transactions_of (without_unbegun past ps) s ≡ begun_ones (past_in past s) (transactions_of ps s)
        → cond b (begun_ones (past_in past p.number) p.transactions) (transactions_of (without_unbegun past ps) s) ≡ begun_ones (past_in past s) (cond b p.transactions (transactions_of ps s))
    go true e rest = ap (λ u. begun_ones (past_in past u) p.transactions) (eqb-true p.number s e)
    go false e rest = rest

-- ---- two scripts
-- what is over of sessions makes no difference where the same ones were begun
pub same_script : (old new : List Past) (ps : Script) → ((s : ℕ) (ts : List TransactionPlan) → begun_ones (past_in new s) ts ≡ begun_ones (past_in old s) ts) → without_unbegun new ps ≡ without_unbegun old ps
same_script old new [] h = refl
same_script old new (p ∷ ps) h =
    let i = same_script old new ps h in
    let t = h p.number p.transactions in
    λ j. record { number = p.number; transactions = t j } ∷ i j

-- no session of a number beyond the list's has anything over
beyond : (past : List Past) (i : ℕ) → length past ≤ i → slice_index_or past i [] ≡ []
beyond [] i h = refl
beyond (x ∷ past) zero h = absurd (omega arith)
beyond (x ∷ past) (suc i) h = beyond past i (omega arith)

-- a number is a session's or not
pub session_or_not : (s : ℕ) → IsSession s ⊎ (IsSession s → ⊥)
session_or_not zero = inr (λ is. let low = is.0 in omega arith)
session_or_not (suc i) = elim (cases_lt i 64) [
  | inl lt ↦ inl (omega arith, omega arith)
  | inr ge ↦ inr (λ is. let high = is.1 in omega arith)
]

pub none_beyond : (past : List Past) (s : ℕ) → length past ≡ 64 → (IsSession s → ⊥) → past_in past s ≡ []
none_beyond past zero h out = refl
none_beyond past (suc i) h out = elim (cases_lt i 64) [
  | inl lt ↦ absurd (out (omega arith, omega arith))
  | inr ge ↦ beyond past i (omega arith)
]

module _ (old new : List Past) (ps : Script) (old_length : length old ≡ 64) (new_length : length new ≡ 64) where
  -- the script stays where of each session those that are over now were begun
  pub script_more : (more : ℕ → List Outcome) → ((s : ℕ) → IsSession s → past_in new s ≡ past_in old s ++ all_begun (more s)) → without_unbegun new ps ≡ without_unbegun old ps
  script_more more h = same_script old new ps (λ s ts. elim (session_or_not s) [
    | inl is ↦ ap (λ (past : Past). begun_ones past ts) (h s is) ∙ ones_more (past_in old s) (more s) ts
    | inr out ↦ ap (λ (past : Past). begun_ones past ts) (none_beyond new s new_length out ∙ sym (none_beyond old s old_length out))
  ])

  -- and is without one transaction where one was left unbegun
  pub script_without : (s : ℕ) → length (past_in old s) < length (transactions_of ps s) → past_in new s ≡ past_in old s ++ false ∷ [] → ((u : ℕ) → IsSession u → u ≢ s → past_in new u ≡ past_in old u)
      → IsWithout (without_unbegun old ps) s (begun_count (past_in old s)) (without_unbegun new ps)
  script_without s lt own others = record {
    there = (
        let e = ap (λ (ts : List TransactionPlan). length ts) (of_begun old ps s) in
        let n = ones_length (past_in old s) (transactions_of ps s) (omega arith) in
        omega arith
        );
    own = of_begun new ps s ∙ (ap (λ (past : Past). begun_ones past (transactions_of ps s)) own ∙ (ones_without (past_in old s) (transactions_of ps s) lt ∙ ap (λ (ts : List TransactionPlan). without_at (begun_count (past_in old s)) ts) (sym (of_begun old ps s))));
    others = λ u ne. of_begun new ps u ∙ (ap (λ (past : Past). begun_ones past (transactions_of ps u)) (same u ne) ∙ sym (of_begun old ps u));
  }
    where
      same : (u : ℕ) → u ≢ s → past_in new u ≡ past_in old u
      same u ne = elim (session_or_not u) [
        | inl is ↦ others u is ne
        | inr out ↦ none_beyond new u new_length out ∙ sym (none_beyond old u old_length out)
      ]
