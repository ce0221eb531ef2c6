-- A number that falls with each turn of a session that isn't stuck.
use Rattle.std.specs.Prelude.{◌≡◌, ◌⊎◌, ℕ, ◌<◌, true, false, List, [], ◌∷◌, ◌++◌, slice_get, Some, refl}
use Rattle.std.proofs.Common.{sym, ap, ◌∙◌, subst, arith, inl, inr, zero, suc}
use Rattle.sg_modes.specs.Sessions.{IsSession}
use Rattle.sg_plain.specs.Transactions.{TransactionPlan}
use Rattle.sg_script.specs.Plans.{Plan, sessions_of}
use Rattle.sg_trace.specs.Needs.{Held}
use Rattle.sg_trace.specs.Traces.{Stage, Event, Victim, state}
use Rattle.sg_trace.specs.Legal.{IsStage, IsLegal}
use Rattle.sg_trace.specs.Scripts.{Script, Follows, transactions_of}
use Rattle.sg_trace.specs.Measure.{weigh, bounds, parts, AllBelow, IsEnough, IsWithout, script_pairs}
use Rattle.sg_measure.proofs.Weigh.{weigh_less}
use Rattle.sg_measure.proofs.Counted.{pairs_are_enough, counted}
use Rattle.sg_measure.proofs.EachFalls.{falls}
use Rattle.sg_measure.proofs.Unbegun.{bounded, lower_rest, follows_rest, before_gap}
use Rattle.sg_engine.specs.Shown.{Shown, IsRunOf}
use Rattle.sg_engine.specs.Waiting.{Victims, victims_of}
use Rattle.sg_run.specs.Ends.{Past, begun_ones}
use Rattle.sg_run.specs.Runs.{RunShown, past_in, begun_script, without_unbegun, has_ended, IsRun}
use Rattle.sg_run.specs.Turns.{HasGoneOn, HasLeft}
use Rattle.sg_driver.specs.Drives.{IsStuck, HasMoved}
use Rattle.sg_run.proofs.Begun.{of_begun}
use Rattle.sg_run.proofs.Moves.{gone_script, gone_follows, left_without}
use Rattle.sg_driver.proofs.Told.{told, told_is}
use Rattle.sg_driver.proofs.Bounds.{parts_below}

-- the pairs of a script with this table
abbrev pairs_of : RunShown → List Held
pairs_of v = script_pairs (sessions_of v.script) v.engine.stage

abbrev number_by : Script → Script → Stage → List Event → ℕ
number_by ps full w es = weigh (bounds full (script_pairs full w)) (parts ps (script_pairs full w) w es)

-- what is left to be done, as one number
abbrev pub measure_of : RunShown → ℕ
measure_of v = weigh (bounds (sessions_of v.script) (pairs_of v)) (parts (begun_script v) (pairs_of v) v.engine.stage (told (begun_script v) v.engine.stage v.engine.labels))

-- ---- the pairs are enough for what is left
from_ones : (past : Past) (ts : List TransactionPlan) (i : ℕ) (t : TransactionPlan) → slice_get (begun_ones past ts) i ≡ Some t → (j : ℕ) × (slice_get ts j ≡ Some t)
from_ones [] ts i t e = (i, e)
from_ones (b ∷ past) [] i t e = absurd (cc)
from_ones (true ∷ past) (x ∷ ts) zero t e = (zero, e)
from_ones (true ∷ past) (x ∷ ts) (suc i) t e = let r = from_ones past ts i t e in (suc r.0, r.1)
from_ones (false ∷ past) (x ∷ ts) i t e = let r = from_ones past ts i t e in (suc r.0, r.1)

enough_left : (past : List Past) (ps : Script) (w : Stage) → IsEnough (script_pairs ps w) w (without_unbegun past ps)
enough_left past ps w = record {
  ends = all.ends;
  opening = all.opening;
  script = λ s i n t st e f.
      let at : slice_get (begun_ones (past_in past s) (transactions_of ps s)) i ≡ Some t = ap (λ (ts : List TransactionPlan). slice_get ts i) (sym (of_begun past ps s)) ∙ e in
      let r = from_ones (past_in past s) (transactions_of ps s) i t at in
      all.script s r.0 n t st r.1 f;
}
  where
    all : IsEnough (script_pairs ps w) w ps
    all = pairs_are_enough ps w

-- ---- events
module _ (past : List Past) (full : Script) (w : Stage) (staged : IsStage w) where
  abbrev ps : Script
  ps = without_unbegun past full

  abbrev pairs : List Held
  pairs = script_pairs full w

  abbrev number : List Event → ℕ
  number es = number_by ps full w es

  below : (es : List Event) → AllBelow (parts ps pairs w es) (bounds full pairs)
  below es = parts_below past full pairs w es (bounded ps pairs w es)

  one_falls : (es : List Event) (e : Event) → IsLegal w (e ∷ es) → Follows ps w (e ∷ es) → number (e ∷ es) < number es
  one_falls es e l f =
      weigh_less (bounds full pairs) (parts ps pairs w (e ∷ es)) (parts ps pairs w es) (below (e ∷ es)) (below es)
      (falls ps pairs w staged es e l f (counted pairs w ps staged (enough_left past full w) es e l f))

  -- of an event with victims on top
  all_fall : (victims : Victims) (e : Event) (es : List Event) → IsLegal w ((victims_of victims ++ e ∷ []) ++ es) → Follows ps w ((victims_of victims ++ e ∷ []) ++ es) → number ((victims_of victims ++ e ∷ []) ++ es) < number es
  all_fall [] e es l f = one_falls es e l f
  all_fall (v ∷ victims) e es l f =
      let a = one_falls ((victims_of victims ++ e ∷ []) ++ es) (Victim v.0 v.1) l f in
      let b = all_fall victims e es l.0 f.0 in
      omega arith

-- ---- runs
-- the number of a run, by its events
by_events : (v : RunShown) (es : List Event) → IsRunOf es v.engine → Follows (begun_script v) v.engine.stage es → measure_of v ≡ number_by (begun_script v) (sessions_of v.script) v.engine.stage es
by_events v es run f =
    let told_here : told (begun_script v) v.engine.stage v.engine.labels ≡ es = ap (told (begun_script v) v.engine.stage) run.shows.labels ∙ told_is (begun_script v) v.engine.stage es f in
    ap (number_by (begun_script v) (sessions_of v.script) v.engine.stage) told_here

alike : (ps qs full other : Script) (w x : Stage) (es : List Event) → qs ≡ ps → other ≡ full → x ≡ w → number_by qs other x es ≡ number_by ps full w es
alike ps qs full other w x es e f g = ap (λ (p : Script). number_by p other x es) e ∙ (ap (λ (p : Script). number_by ps p x es) f ∙ ap (λ (g : Stage). number_by ps full g es) g)

module _ (old new : RunShown) (r : IsRun old) (q : IsRun new) (s : ℕ) where
  abbrev w : Stage
  w = old.engine.stage

  abbrev full : Script
  full = sessions_of old.script

  abbrev es : List Event
  es = r.events

  module _ (g : HasGoneOn s old new) where
    abbrev more : List Event
    more = victims_of g.victims ++ g.event ∷ []

    then_run : IsRunOf (more ++ r.events) new.engine
    then_run = g.goes.run.runs r.events r.run

    then_follows : Follows (begun_script old) w (more ++ r.events)
    then_follows = gone_follows s old new g r.events r.run r.follows

    then_script : begun_script new ≡ begun_script old
    then_script = gone_script s old new g r q

    then_legal : IsLegal w (more ++ r.events)
    then_legal = subst (λ (x : Stage). IsLegal x (more ++ r.events)) g.goes.run.stage then_run.legal

    follows_new : Follows (begun_script new) new.engine.stage (more ++ r.events)
    follows_new =
        subst (λ (x : Stage). Follows (begun_script new) x (more ++ r.events)) (sym g.goes.run.stage)
        (subst (λ (p : Script). Follows p w (more ++ r.events)) (sym then_script) then_follows)

    -- a run that goes on has less left to be done
    pub gone_lower : measure_of new < measure_of old
    gone_lower =
        let a = by_events new (more ++ r.events) then_run follows_new in
        let b = alike (begun_script old) (begun_script new) full (sessions_of new.script) w new.engine.stage (more ++ r.events) then_script (ap sessions_of g.goes.script) g.goes.run.stage in
        let c = all_fall old.past full w r.staged g.victims g.event r.events then_legal then_follows in
        let d = by_events old r.events r.run r.follows in
        omega arith

  module _ (session : IsSession s) (more_left : has_ended old s ≡ false) (l : HasLeft s old new) where
    abbrev begun : ℕ
    begun = ((state w r.events).of s).begun

    without : IsWithout (begun_script old) s ((state w r.events).of s).begun (begun_script new)
    without = left_without s session old new r q more_left l r.events r.run

    same_run : IsRunOf r.events new.engine
    same_run = subst (λ (x : Shown). IsRunOf r.events x) (sym l.engine) r.run

    follows_left : Follows (begun_script new) new.engine.stage r.events
    follows_left =
        subst (λ (x : Shown). Follows (begun_script new) x.stage r.events) (sym l.engine)
        (follows_rest (begun_script old) (begun_script new) s begun (λ j le. ap (λ (ts : List TransactionPlan). slice_get ts j) without.own ∙ before_gap (transactions_of (begun_script old) s) begun j le) without.others w r.events r.run.legal r.follows (omega arith))

    new_below : AllBelow (parts (begun_script new) (script_pairs full w) w r.events) (bounds full (script_pairs full w))
    new_below =
        subst (λ (x : Plan). AllBelow (parts (without_unbegun new.past (sessions_of x)) (script_pairs full w) w r.events) (bounds full (script_pairs full w))) (sym l.script)
        (below new.past full w r.staged r.events)

    -- so does one in which a transaction was left unbegun
    pub left_lower : measure_of new < measure_of old
    left_lower =
        let a = by_events new r.events same_run follows_left in
        let b = alike (begun_script new) (begun_script new) full (sessions_of new.script) w new.engine.stage r.events refl (ap sessions_of l.script) (ap (λ (x : Shown). x.stage) l.engine) in
        let c =
        weigh_less (bounds full (script_pairs full w)) (parts (begun_script new) (script_pairs full w) w r.events) (parts (begun_script old) (script_pairs full w) w r.events)
        new_below (below old.past full w r.staged r.events) (lower_rest (begun_script old) (begun_script new) (script_pairs full w) w r.events s session without) in
        let d = by_events old r.events r.run r.follows in
        omega arith

-- ---- one turn
-- nothing has changed, or less is left to be done
pub moved : (s : ℕ) (old new : RunShown) → IsRun old → HasMoved s old new → (IsStuck old s × (new ≡ old)) ⊎ (measure_of new < measure_of old)
moved s old new r h = elim h.moves [
  | inl stuck ↦ inl stuck
  | inr free ↦ inr (elim free.1 [
    | inl g ↦ gone_lower old new r h.legal s g
    | inr l ↦ left_lower old new r h.legal s h.session free.0.more l
  ])
]
