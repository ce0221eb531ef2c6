-- Who can turn, by what is shown.
use Rattle.std.proofs.Common.{◌≡◌, ◌⊎◌, ℕ, ◌<◌, Bool, true, false, cond, not, ◌||◌, List, [], ◌∷◌, ◌++◌, length, Option, Some, None, refl, sym, ap, ◌∙◌, subst, inl, inr, arith}
use Rattle.std.specs.Prelude.{◌↔◌, slice_get, is_some}
use Rattle.std.proofs.lemmas.List.{length-append}
use Rattle.sg_modes.specs.Sessions.{IsSession}
use Rattle.sg_plain.specs.declared.statements.Statement.{Statement}
use Rattle.sg_plain.specs.Transactions.{TransactionPlan}
use Rattle.sg_trace.specs.declared.labels.Label.{Label}
use Rattle.sg_trace.specs.Traces.{Local, State, Stage, Event, Take, Put, Wait, Answered, session_of, state, label_of, labels_of}
use Rattle.sg_trace.specs.Scripts.{Script, IsDue, transactions_of, is_plain}
use Rattle.sg_measure.specs.Claims.{UnbegunOnesLower}
use Rattle.sg_measure.proofs.Unbegun.{follows_rest, before_gap, enough_rest, lower_rest}
use Rattle.sg_turns.proofs.Driven.{waits_open, free_unless_live}
use Rattle.sg_engine.specs.declared.steps.Step.{Step}
use Rattle.sg_engine.specs.declared.steps.Step.TheVariants as step
use Rattle.sg_engine.specs.Shown.{Shown, Running, Seated, seat_in, running_of, IsRunOf, Appends, IsIdle, IsBetween, HasNoneOpen, open_of, is_live_in, is_open_in}
use Rattle.sg_engine.specs.Nexts.{WaitsForNone}
use Rattle.sg_engine.specs.Waiting.{Victims, victims_of}
use Rattle.sg_engine.specs.Stepping.{HasStepped, IsStanding, GivesJob}
use Rattle.sg_run.specs.Runs.{RunShown, at_hand, has_ended, IsRun}
use Rattle.sg_run.specs.Nexts.{IsGiven}
use Rattle.sg_run.specs.Turns.{IsFree}
use Rattle.sg_run.proofs.Goes.{live_is, labels_append}

pub unbegun_lower : UnbegunOnesLower
unbegun_lower ps rest pairs w es s number l f h = record {
  follows = follows_rest ps rest s ((state w es).of s).begun (λ j le. ap (λ (ts : List TransactionPlan). slice_get ts j) h.own ∙ before_gap (transactions_of ps s) ((state w es).of s).begun j le) h.others w es l f (omega arith);
  enough = enough_rest ps rest s ((state w es).of s).begun pairs w h;
  lower = lower_rest ps rest pairs w es s number h;
}

-- ---- seats
none_running : (o : Option Running) → is_some o ≡ false → o ≡ None
none_running None h = refl
none_running (Some x) h = absurd (cc)

pub idle_of : (v : Shown) (s : ℕ) → is_live_in v s ≡ false → IsIdle v s
idle_of v s h = none_running (seat_in v.seats s).running h

pub between_live : (v : Shown) (s : ℕ) → IsBetween v s → is_live_in v s ≡ true
between_live v s h = go (seat_in v.seats s).running h
  where
    go : (o : Option Running) → HasNoneOpen o → is_some o ≡ true
    go None h = absurd h
    go (Some x) h = refl

pub open_live : (v : Shown) (s : ℕ) → is_open_in v s ≡ true → is_live_in v s ≡ true
open_live v s h = go (seat_in v.seats s).running h
  where
    go : (o : Option Running) → is_some (open_of o) ≡ true → is_some o ≡ true
    go None h = absurd (cc)
    go (Some x) h = refl

pub between_of : (v : Shown) (s : ℕ) → is_live_in v s ≡ true → is_open_in v s ≡ false → IsBetween v s
between_of v s live none_open = go (seat_in v.seats s).running live none_open
  where
    none_of : (o : Option Statement) → is_some o ≡ false → o ≡ None
    none_of None h = refl
    none_of (Some st) h = absurd (cc)

    go : (o : Option Running) → is_some o ≡ true → is_some (open_of o) ≡ false → HasNoneOpen o
    go None l n = absurd (cc)
    go (Some x) l n = none_of x.open_one n

pub live_more : (v : RunShown) (s : ℕ) → is_live_in v.engine s ≡ true → has_ended v s ≡ false
live_more v s h = ap (λ b. not (b || is_some (at_hand v s))) h

pub idle_more : (v : RunShown) (s : ℕ) (t : TransactionPlan) → is_live_in v.engine s ≡ false → at_hand v s ≡ Some t → has_ended v s ≡ false
idle_more v s t h hand = ap (λ b. not (b || is_some (at_hand v s))) h ∙ ap (λ (o : Option TransactionPlan). not (is_some o)) hand

pub idle_ended : (v : RunShown) (s : ℕ) → is_live_in v.engine s ≡ false → at_hand v s ≡ None → has_ended v s ≡ true
idle_ended v s h hand = ap (λ b. not (b || is_some (at_hand v s))) h ∙ ap (λ (o : Option TransactionPlan). not (is_some o)) hand

module _ (v : RunShown) (r : IsRun v) (s : ℕ) (is : IsSession s) where
  pub idle_free : (t : TransactionPlan) → is_live_in v.engine s ≡ false → at_hand v s ≡ Some t → IsFree v s
  idle_free t h hand = record {
    more = idle_more v s t h hand;
    free = λ es run. free_unless_live v.engine.stage es s (waits_open v.engine.stage es run.legal s) (sym (live_is v.engine es run s is) ∙ h);
  }

  seat_open : (es : List Event) → IsRunOf es v.engine → IsBetween v.engine s → ((state v.engine.stage es).of s).open_one ≡ None
  seat_open es run h = by_live ((state v.engine.stage es).of s) ((state v.engine.stage es).of s).live (subst (λ (x : Seated). HasNoneOpen x.running) (run.shows.seats s is) h)
    where
      by_live : (x : Local) (b : Bool) → HasNoneOpen (cond b (Some (running_of x)) None) → x.open_one ≡ None
      by_live x true h = h
      by_live x false h = absurd h

  pub between_free : IsBetween v.engine s → IsFree v s
  between_free h = record {
    more = live_more v s (between_live v.engine s h);
    free = λ es run. elim (waits_open v.engine.stage es run.legal s) [
      | inl e ↦ e
      | inr o ↦ absurd (let p = o.1.1 in let q = seat_open es run h in cc)
    ];
  }

  pub live_free : is_live_in v.engine s ≡ true → WaitsForNone v.engine s → IsFree v s
  live_free h free = record { more = live_more v s h; free = free }

-- ---- steps
-- it waited for nobody, and went on by this event and the victims that it brought, whatever the script
pub record Went (s : ℕ) (old new : Shown) : Type 0 where
  pub event : Event
  pub victims : Victims
  pub own : session_of event ≡ s
  pub plain : is_plain event ≡ true
  pub due : (ps : Script) (z : State) → IsDue ps z event
  pub run : Appends (victims_of victims ++ event ∷ []) old new
  pub free : WaitsForNone old s

-- its wait stands
pub record Stays (s : ℕ) (old new : Shown) : Type 0 where
  pub standing : IsStanding old s
  pub same : new ≡ old

pub stepped : (s : ℕ) (old new : Shown) (it : Step) → IsGiven it None → is_open_in old s ≡ true → ((it ≡ step.Idle) ↔ (is_open_in old s ≡ false)) → HasStepped s old new it → Stays s old new ⊎ Went s old new
stepped s old new (step.Took k m) g o idle h = inr (record { event = Take s k m; victims = []; own = refl; plain = refl; due = λ ps z. tt; run = h.run; free = λ es r. (h.run.runs es r).legal.1.1.no_wait })
stepped s old new (step.Put k m) g o idle h = inr (record { event = Put s k m; victims = []; own = refl; plain = refl; due = λ ps z. tt; run = h.run; free = λ es r. (h.run.runs es r).legal.1.1.no_wait })
stepped s old new (step.Waiting k m b) g o idle (inl h) = inl (record { standing = λ es r e. h.stands.some (sym (h.stands.waits es r) ∙ e); same = h.same })
stepped s old new (step.Waiting k m b) g o idle (inr h) = inr (record { event = Wait s k m b; victims = h.waited.victims; own = refl; plain = refl; due = λ ps z. tt; run = h.waited.run; free = h.free })
stepped s old new (step.Job job) g o idle h = absurd g
stepped s old new step.Answered g o idle h = inr (record { event = Answered s h.answer; victims = []; own = refl; plain = refl; due = λ ps z. tt; run = h.run; free = λ es r. (h.run.runs es r).legal.1.1.no_wait })
stepped s old new (step.Victim cycle) g o idle h =
    inr (record { event = Wait s h.key h.mode h.blockers; victims = h.wait.waited.victims; own = refl; plain = refl; due = λ ps z. tt; run = h.wait.waited.run; free = h.wait.free })
stepped s old new step.Idle g o idle h = absurd (let f : is_open_in old s ≡ false = idle.0 refl in cc)

-- a step that gave out no job was none that gives a job
pub none_given : (it : Step) → IsGiven it None → GivesJob it → ⊥
none_given (step.Took k m) given job = job
none_given (step.Put k m) given job = job
none_given (step.Waiting k m b) given job = job
none_given (step.Job it) given job = given
none_given step.Answered given job = job
none_given (step.Victim cycle) given job = job
none_given step.Idle given job = job

-- one that went on has more labels
pub went_longer : (s : ℕ) (old new : Shown) (es : List Event) → IsRunOf es old → Went s old new → length old.labels < length new.labels
went_longer s old new es r h =
    let then = h.run.runs es r in
    let a = ap (λ (ls : List Label). length ls) (then.shows.labels ∙ labels_append (victims_of h.victims ++ h.event ∷ []) es) in
    let b = length-append (labels_of es) (labels_of (victims_of h.victims ++ h.event ∷ [])) in
    let c = ap (λ (ls : List Label). length ls) r.shows.labels in
    let d = some_label h.victims h.event in
    omega (arith, a, b, c, d)
  where
    some_label : (victims : Victims) (e : Event) → 0 < length (labels_of (victims_of victims ++ e ∷ []))
    some_label [] e = omega arith
    some_label (v ∷ victims) e = let i = some_label victims e in let l = length-append (labels_of (victims_of victims ++ e ∷ [])) (label_of (Rattle.sg_trace.specs.Traces.Victim v.0 v.1) ∷ []) in omega (arith, i, l)

module _ (s : ℕ) (old new : Shown) (es : List Event) (r : IsRunOf es old) (it : Step) (given : IsGiven it None) (is_open : is_open_in old s ≡ true) (idle : (it ≡ step.Idle) ↔ (is_open_in old s ≡ false)) (h : HasStepped s old new it) where
  pub stays_if : length new.labels ≡ length old.labels → Stays s old new
  stays_if e = elim (stepped s old new it given is_open idle h) [
    | inl stays ↦ stays
    | inr went ↦ absurd (let l = went_longer s old new es r went in omega (arith, l, e))
  ]

  pub went_if : (length new.labels ≡ length old.labels → ⊥) → Went s old new
  went_if ne = elim (stepped s old new it given is_open idle h) [
    | inl stays ↦ absurd (ne (ap (λ (v : Shown). length v.labels) stays.same))
    | inr went ↦ went
  ]
