-- What the script has next for a session.
use Rattle.std.proofs.Common.{◌≡◌, ℕ, zero, suc, pred, ◌<◌, Bool, true, false, cond, List, [], ◌∷◌, length, Option, Some, None, refl, sym, ap, ◌∙◌, subst, arith}
use Rattle.std.specs.Prelude.{slice_get}
use Rattle.std.proofs.lemmas.List.{length-append}
use Rattle.sg_modes.specs.Sessions.{IsSession}
use Rattle.sg_plain.specs.declared.statements.Statement.{Statement}
use Rattle.sg_plain.specs.declared.statements.Answer.{Answer}
use Rattle.sg_plain.specs.Transactions.{TransactionPlan}
use Rattle.sg_script.specs.Plans.{sessions_of}
use Rattle.sg_trace.specs.Traces.{DoneList, Local, Event, Begin, state}
use Rattle.sg_trace.specs.Legal.{answers_of}
use Rattle.sg_trace.specs.Scripts.{transactions_of, statements_in, end_in, current, upcoming}
use Rattle.sg_trace.specs.Measure.{one}
use Rattle.sg_engine.specs.Shown.{Seated, seat_in, running_of, IsRunOf, is_live_in, AreAnswers}
use Rattle.sg_run.specs.declared.turns.Next.{Next}
use Rattle.sg_run.specs.declared.turns.Next.TheVariants as next
use Rattle.sg_run.specs.Ends.{begun_count}
use Rattle.sg_run.specs.Runs.{RunShown, past_in, begun_script, at_hand, IsRun, Due}
use Rattle.sg_run.specs.Nexts.{IsNextOf, MayGoOn}
use Rattle.sg_run.proofs.Pasts.{next_begun}
use Rattle.sg_run.proofs.Begun.{at_is, of_begun}
use Rattle.sg_run.proofs.Goes.{live_is, begun_is}

pub some_at : {A : Type 0} (xs : List A) (i : ℕ) → i < length xs → (x : A) × (slice_get xs i ≡ Some x)
some_at [] i h = absurd (omega arith)
some_at (x ∷ xs) zero h = (x, refl)
some_at (x ∷ xs) (suc i) h = some_at xs i (omega arith)

pub below_some : {A : Type 0} (xs : List A) (i : ℕ) (x : A) → slice_get xs i ≡ Some x → i < length xs
below_some [] i x e = absurd (cc)
below_some (y ∷ xs) zero x e = omega arith
below_some (y ∷ xs) (suc i) x e = let h = below_some xs i x e in omega arith

length_answers : (ds : DoneList) → length (answers_of ds) ≡ length ds
length_answers [] = refl
length_answers (d ∷ ds) = let l = length-append (answers_of ds) (d.1 ∷ []) in let i = length_answers ds in omega arith

-- the transaction at hand is the one that comes next among those that were begun
pub hand_is : (v : RunShown) (s : ℕ) → slice_get (transactions_of (begun_script v) s) (begun_count (past_in v.past s)) ≡ at_hand v s
hand_is v s =
    ap (λ (ts : List TransactionPlan). slice_get ts (begun_count (past_in v.past s))) (of_begun v.past (sessions_of v.script) s)
    ∙ (next_begun (past_in v.past s) (transactions_of (sessions_of v.script) s) ∙ sym (at_is v.script.sessions s (length (past_in v.past s))))

module _ (v : RunShown) (r : IsRun v) (s : ℕ) (is : IsSession s) where
  -- a live session is in one
  pub live_hand : is_live_in v.engine s ≡ true → (t : TransactionPlan) × (at_hand v s ≡ Some t)
  live_hand live =
      let w = r.within s is in
      let o = ap one live in
      let x = some_at (transactions_of (sessions_of v.script) s) (length (past_in v.past s)) (omega (arith, w, o)) in
      (x.0, at_is v.script.sessions s (length (past_in v.past s)) ∙ x.1)

  pub due_begin : (n : ℕ) (t : TransactionPlan) → is_live_in v.engine s ≡ false → at_hand v s ≡ Some t → Due v (Begin s n)
  due_begin n t idle hand es run =
      let live = ap one (sym (live_is v.engine es run s is) ∙ idle) in
      let b = begun_is v r es run s is in
      let at : ((state v.engine.stage es).of s).begun ≡ begun_count (past_in v.past s) = omega (arith, live, b) in
      (t, ap (λ i. slice_get (transactions_of (begun_script v) s) i) at ∙ (hand_is v s ∙ hand))

  -- what a live session is in is what the trace has of it
  current_is : (t : TransactionPlan) → is_live_in v.engine s ≡ true → at_hand v s ≡ Some t → (es : List Event) → IsRunOf es v.engine → current (begun_script v) ((state v.engine.stage es).of s) s ≡ Some t
  current_is t is_live hand es run =
      let live = ap one (sym (live_is v.engine es run s is) ∙ is_live) in
      let b = begun_is v r es run s is in
      let at : ((state v.engine.stage es).of s).begun ≡ suc (begun_count (past_in v.past s)) = omega (arith, live, b) in
      ap (λ n. slice_get (transactions_of (begun_script v) s) (pred n)) at ∙ (hand_is v s ∙ hand)

  answered_is : (answers : List Answer) → AreAnswers answers (seat_in v.engine.seats s).running → (es : List Event) → IsRunOf es v.engine → length answers ≡ length ((state v.engine.stage es).of s).done
  answered_is answers are es run =
      let x = (state v.engine.stage es).of s in
      by_live x x.live refl (subst (λ (y : Seated). AreAnswers answers y.running) (run.shows.seats s is) are)
    where
      by_live : (x : Local) (b : Bool) → x.live ≡ b → AreAnswers answers (cond x.live (Some (running_of x)) None) → length answers ≡ length x.done
      by_live x true e h =
          let same : answers ≡ answers_of x.done = subst (λ c. AreAnswers answers (cond c (Some (running_of x)) None)) e h in
          ap (λ (as' : List Answer). length as') same ∙ length_answers x.done
      by_live x false e h = absurd (subst (λ c. AreAnswers answers (cond c (Some (running_of x)) None)) e h)

  pub may_go_on : (t : TransactionPlan) (answers : List Answer) (it : Next) → is_live_in v.engine s ≡ true → at_hand v s ≡ Some t → AreAnswers answers (seat_in v.engine.seats s).running → IsNextOf t (length answers) it → MayGoOn v s it
  may_go_on t answers it live hand are h = by_next it h
    where
      comes : (o : Option Statement) → slice_get t.statements (length answers) ≡ o → (es : List Event) → IsRunOf es v.engine → upcoming (begun_script v) ((state v.engine.stage es).of s) s ≡ o
      comes o e es run =
          ap (λ (c : Option TransactionPlan). slice_get (statements_in c) (length ((state v.engine.stage es).of s).done)) (current_is t live hand es run)
          ∙ (ap (λ n. slice_get t.statements n) (sym (answered_is answers are es run)) ∙ e)

      by_next : (it : Next) → IsNextOf t (length answers) it → MayGoOn v s it
      by_next (next.Ask st) h = ((λ n es run. comes (Some st) h.0 es run), h.1)
      by_next next.Commit h = λ n es run. (comes None h.0 es run, ap end_in (current_is t live hand es run) ∙ h.1)
      by_next next.RollBack h = λ es run. (comes None h.0 es run, ap end_in (current_is t live hand es run) ∙ h.1)
