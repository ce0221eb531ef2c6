-- The measure of a run: what is left of its script lies below the bounds of the whole.
use Rattle.std.specs.Prelude.{ℕ, suc, ◌*◌, ◌≤◌, true, false, List, [], ◌∷◌, length}
use Rattle.std.proofs.Common.{sym, subst, arith}
use Rattle.sg_plain.specs.Transactions.{TransactionPlan}
use Rattle.sg_trace.specs.Needs.{Held}
use Rattle.sg_trace.specs.Traces.{Stage, Event, all_sessions}
use Rattle.sg_trace.specs.Scripts.{Script, transactions_of}
use Rattle.sg_trace.specs.Measure.{sum_of, bounds, parts, AllBelow, statement_count}
use Rattle.sg_run.specs.Ends.{Past, begun_ones}
use Rattle.sg_run.specs.Runs.{past_in, without_unbegun}
use Rattle.sg_run.proofs.Begun.{of_begun}

-- ---- what is left is no more
fewer : (past : Past) (ts : List TransactionPlan) → length (begun_ones past ts) ≤ length ts
fewer [] ts = omega arith
fewer (b ∷ past) [] = omega arith
fewer (true ∷ past) (t ∷ ts) = let ih = fewer past ts in omega arith
fewer (false ∷ past) (t ∷ ts) = let ih = fewer past ts in omega arith

fewer_statements : (past : Past) (ts : List TransactionPlan) → statement_count (begun_ones past ts) ≤ statement_count ts
fewer_statements [] ts = omega arith
fewer_statements (b ∷ past) [] = omega arith
fewer_statements (true ∷ past) (t ∷ ts) = let ih = fewer_statements past ts in omega arith
fewer_statements (false ∷ past) (t ∷ ts) = let ih = fewer_statements past ts in omega arith

sum_most : (f h : ℕ → ℕ) (ss : List ℕ) → ((s : ℕ) → f s ≤ h s) → sum_of f ss ≤ sum_of h ss
sum_most f h [] l = omega arith
sum_most f h (s ∷ ss) l = let a = l s in let ih = sum_most f h ss l in omega arith

module _ (past : List Past) (ps : Script) where
  abbrev rest : Script
  rest = without_unbegun past ps

  abbrev counts : Script → ℕ → ℕ
  counts q s = length (transactions_of q s)

  abbrev statements : Script → ℕ → ℕ
  statements q s = statement_count (transactions_of q s)

  few : (s : ℕ) → counts rest s ≤ counts ps s
  few s = subst (λ (ts : List TransactionPlan). length ts ≤ counts ps s) (sym (of_begun past ps s)) (fewer (past_in past s) (transactions_of ps s))

  few_statements : (s : ℕ) → statements rest s ≤ statements ps s
  few_statements s = subst (λ (ts : List TransactionPlan). statement_count ts ≤ statements ps s) (sym (of_begun past ps s)) (fewer_statements (past_in past s) (transactions_of ps s))

  -- the parts of what is left lie below the bounds of the whole
  pub parts_below : (pairs : List Held) (w : Stage) (es : List Event) → AllBelow (parts rest pairs w es) (bounds rest pairs) → AllBelow (parts rest pairs w es) (bounds ps pairs)
  parts_below pairs w es h =
      let a = sum_most (λ s. suc (counts rest s)) (λ s. suc (counts ps s)) all_sessions (λ s. let k = few s in omega arith) in
      let b = sum_most (counts rest) (counts ps) all_sessions few in
      let c = sum_most (λ s. 2 * statements rest s) (λ s. 2 * statements ps s) all_sessions (λ s. let k = few_statements s in omega arith) in
      let h0 = h.0 in let h1 = h.1.0 in let h2 = h.1.1.0 in
      (omega arith, (omega arith, (omega arith, h.1.1.1)))
