-- A run in which memory lasted: all that is over was begun, and its trace has no want of memory.
use Rattle.std.proofs.Common.{◌≡◌, ℕ, zero, suc, true, false, cond, List, [], ◌∷◌, ◌++◌, length, eqb, Some, refl, sym, ap, ◌∙◌, subst, inl, inr, arith}
use Rattle.std.specs.Prelude.{slice_get}
use Rattle.std.proofs.lemmas.Bool.{eq-eqb}
use Rattle.sg_cells.specs.Laws.{Has}
use Rattle.sg_modes.specs.Sessions.{IsSession}
use Rattle.sg_plain.specs.Transactions.{TransactionPlan}
use Rattle.sg_script.specs.Plans.{sessions_of}
use Rattle.sg_trace.specs.declared.labels.Cause.TheVariants as cause
use Rattle.sg_trace.specs.declared.labels.Label.{Label}
use Rattle.sg_trace.specs.Traces.{Stage, Event, Begin, Ask, Take, Put, Wait, Victim, Answered, Commit, Rollback, label_of, labels_of}
use Rattle.sg_trace.specs.Legal.{IsLegal}
use Rattle.sg_trace.specs.Scripts.{Script, MemoryLasts}
use Rattle.sg_serial.proofs.Told.{live_session}
use Rattle.sg_engine.specs.Shown.{IsRunOf}
use Rattle.sg_run.specs.declared.outcomes.Outcome.{Outcome}
use Rattle.sg_run.specs.declared.outcomes.Outcome.TheVariants.{NoMemory}
use Rattle.sg_run.specs.Ends.{Past, end_by, ends, begun_count, begun_ones, all_ends, all_begun}
use Rattle.sg_run.specs.Runs.{RunShown, past_in, without_unbegun, begun_script, outcomes_in, IsRun}
use Rattle.sg_run.proofs.Begun.{session_or_not, none_beyond}
use Rattle.sg_run.proofs.Goes.{ends_last}
use Rattle.sg_run.proofs.Pasts.{ones_more}
use Rattle.sg_driver.specs.Laws.{MemoryLasted}

-- ---- members of lists
module _ {A : Type 0} where
  pub has_before : (xs ys : List A) (x : A) → Has xs x → Has (xs ++ ys) x
  has_before [] ys x h = absurd h
  has_before (y ∷ xs) ys x (inl e) = inl e
  has_before (y ∷ xs) ys x (inr h) = inr (has_before xs ys x h)

  pub has_after : (xs ys : List A) (x : A) → Has ys x → Has (xs ++ ys) x
  has_after [] ys x h = h
  has_after (y ∷ xs) ys x h = inr (has_after xs ys x h)

  place_of : (xs : List A) (x : A) → Has xs x → (place : ℕ) × (slice_get xs place ≡ Some x)
  place_of [] x h = absurd h
  place_of (y ∷ xs) x (inl e) = (zero, ap Some e)
  place_of (y ∷ xs) x (inr h) = let p = place_of xs x h in (suc p.0, p.1)

-- ---- how all ended
has_ends : (past : Past) (os : List Outcome) (o : Outcome) → begun_count past ≡ length os → Has os o → Has (all_ends past os) o
has_ends [] [] o n h = absurd h
has_ends [] (x ∷ os) o n h = absurd (omega arith)
has_ends (true ∷ past) [] o n h = absurd h
has_ends (true ∷ past) (x ∷ os) o n (inl e) = inl e
has_ends (true ∷ past) (x ∷ os) o n (inr h) = inr (has_ends past os o (omega arith) h)
has_ends (false ∷ past) os o n h = inr (has_ends past os o n h)

-- where none ended for want of memory, all were begun
were_begun : (past : Past) (os : List Outcome) → begun_count past ≡ length os → (Has (all_ends past os) NoMemory → ⊥) → past ≡ all_begun os
were_begun [] [] n none = refl
were_begun [] (x ∷ os) n none = absurd (omega arith)
were_begun (true ∷ past) [] n none = absurd (omega arith)
were_begun (true ∷ past) (x ∷ os) n none = ap (λ (p : Past). true ∷ p) (were_begun past os (omega arith) (λ h. none (inr h)))
were_begun (false ∷ past) os n none = absurd (none (inl refl))

-- ---- a script of which all was begun
whole : (past : List Past) (ps : Script) → ((s : ℕ) (ts : List TransactionPlan) → begun_ones (past_in past s) ts ≡ ts) → without_unbegun past ps ≡ ps
whole past [] h = refl
whole past (p ∷ ps) h =
    let i = whole past ps h in
    let t = h p.number p.transactions in
    λ j. record { number = p.number; transactions = t j } ∷ i j

-- ---- a trace in which no transaction ended for want of memory
abbrev HasNone : List Label → Type 0
HasNone ls = (s : ℕ) → IsSession s → Has (ends s ls) NoMemory → ⊥

none_before : (ls : List Label) (l : Label) → HasNone (ls ++ l ∷ []) → HasNone ls
none_before ls l none s is h = none s is (subst (λ (os : List Outcome). Has os NoMemory) (sym (ends_last s ls l)) (has_before (ends s ls) (end_by s l) NoMemory h))

lasts_events : (w : Stage) (es : List Event) → IsLegal w es → HasNone (labels_of es) → MemoryLasts es
lasts_events w [] l none = tt
lasts_events w (Rollback s cause.Asked ∷ es) l none = (refl, lasts_events w es l.0 (none_before (labels_of es) (label_of (Rollback s cause.Asked)) none))
lasts_events w (Rollback s cause.NoMemory ∷ es) l none =
    absurd (none s (live_session w es l.0 s l.1) (subst (λ (os : List Outcome). Has os NoMemory) (sym (ends_last s (labels_of es) (label_of (Rollback s cause.NoMemory)))) (has_after (ends s (labels_of es)) (end_by s (label_of (Rollback s cause.NoMemory))) NoMemory own)))
  where
    own : Has (cond (eqb s s) (NoMemory ∷ []) []) NoMemory
    own = subst (λ b. Has (cond b (NoMemory ∷ []) []) NoMemory) (sym (eq-eqb s s refl)) (inl refl)
lasts_events w (Begin s t ∷ es) l none = lasts_events w es l.0 (none_before (labels_of es) (label_of (Begin s t)) none)
lasts_events w (Ask s n st ∷ es) l none = lasts_events w es l.0 (none_before (labels_of es) (label_of (Ask s n st)) none)
lasts_events w (Take s k m ∷ es) l none = lasts_events w es l.0 (none_before (labels_of es) (label_of (Take s k m)) none)
lasts_events w (Put s k m ∷ es) l none = lasts_events w es l.0 (none_before (labels_of es) (label_of (Put s k m)) none)
lasts_events w (Wait s k m b ∷ es) l none = lasts_events w es l.0 (none_before (labels_of es) (label_of (Wait s k m b)) none)
lasts_events w (Victim s c ∷ es) l none = lasts_events w es l.0 (none_before (labels_of es) (label_of (Victim s c)) none)
lasts_events w (Answered s a ∷ es) l none = lasts_events w es l.0 (none_before (labels_of es) (label_of (Answered s a)) none)
lasts_events w (Commit s p ∷ es) l none = lasts_events w es l.0 (none_before (labels_of es) (label_of (Commit s p)) none)

-- ---- runs
-- no transaction of a session ended for want of memory
abbrev pub Lasts : RunShown → Type 0
Lasts v = (s : ℕ) → IsSession s → Has (outcomes_in v s) NoMemory → ⊥

pub lasted_so : (v : RunShown) → MemoryLasted v → Lasts v
lasted_so v lasted s is h = let p = place_of (outcomes_in v s) NoMemory h in lasted s (suc p.0) is p.1

module _ (v : RunShown) (r : IsRun v) (lasts : Lasts v) where
  pub past_is : (s : ℕ) → IsSession s → past_in v.past s ≡ all_begun (ends s v.engine.labels)
  past_is s is = were_begun (past_in v.past s) (ends s v.engine.labels) (r.over s is) (lasts s is)

  ones : (s : ℕ) (ts : List TransactionPlan) → begun_ones (past_in v.past s) ts ≡ ts
  ones s ts = elim (session_or_not s) [
    | inl is ↦ ap (λ (p : Past). begun_ones p ts) (past_is s is) ∙ ones_more [] (ends s v.engine.labels) ts
    | inr out ↦ ap (λ (p : Past). begun_ones p ts) (none_beyond v.past s r.sessions out)
  ]

  -- the script that is run is the whole one
  pub script_is : begun_script v ≡ sessions_of v.script
  script_is = whole v.past (sessions_of v.script) ones

  pub memory_lasts : (es : List Event) → IsRunOf es v.engine → MemoryLasts es
  memory_lasts es run = lasts_events v.engine.stage es run.legal none
    where
      none : HasNone (labels_of es)
      none s is h =
          lasts s is
          (has_ends (past_in v.past s) (ends s v.engine.labels) NoMemory (r.over s is)
          (subst (λ (ls : List Label). Has (ends s ls) NoMemory) (sym run.shows.labels) h))
