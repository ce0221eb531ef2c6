-- What turns leave of a run's events: moves of the script without the unbegun transactions.
use Rattle.std.proofs.Common.{◌≡◌, ◌≢◌, ℕ, Bool, true, false, not, ◌&&◌, ◌||◌, List, [], ◌∷◌, ◌++◌, length, Option, Some, None, refl, sym, ap, ◌∙◌, subst, inl, inr, arith}
use Rattle.std.specs.Prelude.{slice_get, is_some}
use Rattle.sg_modes.specs.Sessions.{IsSession}
use Rattle.sg_plain.specs.Transactions.{TransactionPlan}
use Rattle.sg_script.specs.Plans.{Plan, sessions_of}
use Rattle.sg_trace.specs.Traces.{Local, Event, Begin, Ask, Take, Put, Wait, Victim, Answered, Commit, Rollback, state, labels_of}
use Rattle.sg_trace.specs.Legal.{waits}
use Rattle.sg_trace.specs.Scripts.{Script, Follows, transactions_of, is_plain, is_victim}
use Rattle.sg_trace.specs.Measure.{one, IsWithout}
use Rattle.sg_trace.specs.Driven.{is_nil, OnTop, bare, another, can_turn, IsMove}
use Rattle.sg_measure.specs.Claims.{UnbegunOnesLower}
use Rattle.sg_engine.specs.Shown.{IsRunOf, is_live_in}
use Rattle.sg_engine.specs.Waiting.{Victims, victims_of}
use Rattle.sg_engine.specs.Stepping.{IsStanding}
use Rattle.sg_run.specs.Ends.{ends, begun_count}
use Rattle.sg_run.specs.Runs.{RunShown, past_in, begun_script, at_hand, has_ended, IsRun, Due}
use Rattle.sg_run.specs.Turns.{HasGoneOn, HasLeft, IsFree}
use Rattle.sg_run.proofs.Begun.{at_is, script_more, script_without}
use Rattle.sg_run.proofs.Goes.{live_is, begun_is, follows_victims}
use Rattle.sg_run.proofs.Dues.{below_some, hand_is}

-- ---- who can turn
-- the session is live or has a transaction left, by the trace
abbrev has_more : Script → Local → ℕ → Bool
has_more ps x s = x.live || is_some (slice_get (transactions_of ps s) x.begun)

module _ (v : RunShown) (r : IsRun v) (es : List Event) (run : IsRunOf es v.engine) (s : ℕ) (is : IsSession s) where
  abbrev x : Local
  x = (state v.engine.stage es).of s

  pub ended_is : has_ended v s ≡ not (has_more (begun_script v) x s)
  ended_is = by_live x.live refl
    where
      by_live : (b : Bool) → x.live ≡ b → has_ended v s ≡ not (has_more (begun_script v) x s)
      by_live true e =
          ap (λ c. not (c || is_some (at_hand v s))) (live_is v.engine es run s is ∙ e)
          ∙ ap (λ c. not (c || is_some (slice_get (transactions_of (begun_script v) s) x.begun))) (sym e)
      by_live false e =
          let l = ap one e in
          let b = begun_is v r es run s is in
          let at : begun_count (past_in v.past s) ≡ x.begun = omega (arith, l, b) in
          ap (λ c. not (c || is_some (at_hand v s))) (live_is v.engine es run s is)
          ∙ ap (λ (o : Option TransactionPlan). not (x.live || is_some o)) (sym (hand_is v s) ∙ ap (λ n. slice_get (transactions_of (begun_script v) s) n) at)

  not_false : (b : Bool) → not b ≡ false → b ≡ true
  not_false true e = refl
  not_false false e = absurd (cc)

  not_true : (b : Bool) → not b ≡ true → b ≡ false
  not_true true e = absurd (cc)
  not_true false e = refl

  and_false : (b : Bool) → (b && false) ≡ false
  and_false true = refl
  and_false false = refl

  pub can_free : IsFree v s → can_turn (begun_script v) v.engine.stage es s ≡ true
  can_free free =
      ap (λ (b : List ℕ). is_nil b && has_more (begun_script v) x s) (free.free es run)
      ∙ not_false (has_more (begun_script v) x s) (sym ended_is ∙ free.more)

  pub cannot_ended : has_ended v s ≡ true → can_turn (begun_script v) v.engine.stage es s ≡ false
  cannot_ended h =
      ap (λ b. is_nil (waits es s) && b) (not_true (has_more (begun_script v) x s) (sym ended_is ∙ h))
      ∙ and_false (is_nil (waits es s))

  pub cannot_standing : IsStanding v.engine s → can_turn (begun_script v) v.engine.stage es s ≡ false
  cannot_standing h = by_waits (waits es s) (h es run)
    where
      by_waits : (b : List ℕ) → b ≢ [] → (is_nil b && has_more (begun_script v) x s) ≡ false
      by_waits [] some = absurd (some refl)
      by_waits (n ∷ ns) some = refl

-- ---- a turn that appended an event
-- the events then
abbrev pub events_then : {s : ℕ} {old new : RunShown} → HasGoneOn s old new → List Event → List Event
events_then h es = (victims_of h.victims ++ h.event ∷ []) ++ es

on_top : (e : Event) (victims : Victims) (es : List Event) → OnTop (e ∷ es) ((victims_of victims ++ e ∷ []) ++ es)
on_top e [] es = bare
on_top e (v ∷ victims) es = another v.0 v.1 (on_top e victims es)

plain_no_victim : (e : Event) → is_plain e ≡ true → is_victim e ≡ false
plain_no_victim (Victim v c) h = absurd (cc)
plain_no_victim (Rollback s c) h = refl
plain_no_victim (Begin s t) h = refl
plain_no_victim (Ask s n st) h = refl
plain_no_victim (Take s k m) h = refl
plain_no_victim (Put s k m) h = refl
plain_no_victim (Wait s k m b) h = refl
plain_no_victim (Answered s a) h = refl
plain_no_victim (Commit s p) h = refl

module _ (s : ℕ) (old new : RunShown) (h : HasGoneOn s old new) where
  pub gone_run : (es : List Event) → IsRunOf es old.engine → IsRunOf (events_then h es) new.engine
  gone_run es run = h.goes.run.runs es run

  pub gone_follows : (es : List Event) → IsRunOf es old.engine → Follows (begun_script old) old.engine.stage es → Follows (begun_script old) old.engine.stage (events_then h es)
  gone_follows es run f = follows_victims (begun_script old) old.engine.stage h.victims h.event es f (h.goes.due es run)

  -- the script without the unbegun transactions is the same
  pub gone_script : IsRun old → IsRun new → begun_script new ≡ begun_script old
  gone_script r r' =
      ap (λ (plan : Plan). Rattle.sg_run.specs.Runs.without_unbegun new.past (sessions_of plan)) h.goes.script
      ∙ script_more old.past new.past (sessions_of old.script) r.sessions r'.sessions (λ u. ends u (labels_of (victims_of h.victims ++ h.event ∷ []))) h.goes.past

  pub gone_move : IsRun old → IsSession s → IsFree old s → (es : List Event) → IsRunOf es old.engine → IsMove (begun_script old) old.engine.stage es s (events_then h es)
  gone_move r is free es run = record {
    can = can_free old r es run s is free;
    event = h.event;
    own = h.goes.own;
    no_victim = elim h.goes.kind [
      | inl plain ↦ plain_no_victim h.event plain
      | inr e ↦ ap is_victim e
    ];
    top = on_top h.event h.victims es;
    settled = (gone_run es run).settled;
  }

-- ---- a turn that left a transaction unbegun
module _ (s : ℕ) (is : IsSession s) (old new : RunShown) (r : IsRun old) (r' : IsRun new) (more : has_ended old s ≡ false) (h : HasLeft s old new) (es : List Event) (run : IsRunOf es old.engine) where
  hand_there : (b : Bool) (o : Option TransactionPlan) → b ≡ false → not (b || is_some o) ≡ false → (t : TransactionPlan) × (o ≡ Some t)
  hand_there true o e n = absurd (cc)
  hand_there false None e n = absurd (cc)
  hand_there false (Some t) e n = (t, refl)

  pub left_without : IsWithout (begun_script old) s ((state old.engine.stage es).of s).begun (begun_script new)
  left_without =
      let t = hand_there (is_live_in old.engine s) (at_hand old s) h.idle more in
      let below = below_some (transactions_of (sessions_of old.script) s) (length (past_in old.past s)) t.0 (sym (at_is old.script.sessions s (length (past_in old.past s))) ∙ t.1) in
      let without = script_without old.past new.past (sessions_of old.script) r.sessions r'.sessions s below h.own h.others in
      let l = ap one (sym (live_is old.engine es run s is) ∙ h.idle) in
      let b = begun_is old r es run s is in
      let at : begun_count (past_in old.past s) ≡ ((state old.engine.stage es).of s).begun = omega (arith, l, b) in
      subst (λ (ps : Script). IsWithout (begun_script old) s ((state old.engine.stage es).of s).begun ps)
      (ap (λ (plan : Plan). Rattle.sg_run.specs.Runs.without_unbegun new.past (sessions_of plan)) (sym h.script))
      (subst (λ n. IsWithout (begun_script old) s n (Rattle.sg_run.specs.Runs.without_unbegun new.past (sessions_of old.script))) at without)

  pub left_follows : UnbegunOnesLower → Follows (begun_script old) old.engine.stage es → Follows (begun_script new) old.engine.stage es
  left_follows law f = (law (begun_script old) (begun_script new) [] old.engine.stage es s is run.legal f left_without).follows
