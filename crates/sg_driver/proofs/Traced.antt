-- Turns of a run in which memory lasts are turns of its trace.
use Rattle.std.proofs.Common.{◌≡◌, ℕ, true, false, List, [], ◌∷◌, ◌++◌, length, refl, sym, ap, ap₂, ◌∙◌, subst, inl, inr, arith}
use Rattle.sg_cells.specs.Laws.{Has}
use Rattle.sg_modes.specs.Sessions.{IsSession}
use Rattle.sg_script.specs.Plans.{Plan, sessions_of}
use Rattle.sg_trace.specs.declared.labels.Label.{Label}
use Rattle.sg_trace.specs.Traces.{Stage, Event, labels_of}
use Rattle.sg_trace.specs.Scripts.{Script, Follows}
use Rattle.sg_trace.specs.Driven.{can_turn, IsMove}
use Rattle.sg_trace.specs.Driven as trace
use Rattle.sg_engine.specs.Shown.{Shown, IsRunOf}
use Rattle.sg_engine.specs.Waiting.{victims_of}
use Rattle.sg_run.specs.declared.outcomes.Outcome.{Outcome}
use Rattle.sg_run.specs.declared.outcomes.Outcome.TheVariants.{NoMemory}
use Rattle.sg_run.specs.Ends.{Past, ends, begun_count, all_ends, all_begun}
use Rattle.sg_run.specs.Runs.{RunShown, past_in, begun_script, outcomes_in, IsRun}
use Rattle.sg_run.specs.Turns.{HasGoneOn, HasLeft, IsFree}
use Rattle.sg_run.proofs.Goes.{ends_append, labels_append}
use Rattle.sg_run.proofs.Moves.{events_then, cannot_ended, cannot_standing, gone_run, gone_follows, gone_move}
use Rattle.sg_run.proofs.Pasts.{ends_left}
use Rattle.sg_driver.specs.Drives.{HasMoved, IsStuck, Leads}
use Rattle.sg_driver.specs.Laws.{IsStart}
use Rattle.sg_driver.proofs.Lasting.{has_before, has_after, Lasts, script_is}
use Rattle.sg_driver.proofs.Loops.{leads_script}
use Rattle.sg_driver.proofs.Rounds.{leads_legal}

-- ---- what ended stays so
all_end : (os : List Outcome) → all_ends (all_begun os) os ≡ os
all_end [] = refl
all_end (o ∷ os) = ap (λ (xs : List Outcome). o ∷ xs) (all_end os)

ends_more : (past : Past) (os more : List Outcome) → begun_count past ≡ length os → all_ends (past ++ all_begun more) (os ++ more) ≡ all_ends past os ++ more
ends_more [] [] more n = all_end more
ends_more [] (o ∷ os) more n = absurd (omega arith)
ends_more (true ∷ past) [] more n = absurd (omega arith)
ends_more (true ∷ past) (o ∷ os) more n = ap (λ (xs : List Outcome). o ∷ xs) (ends_more past os more (omega arith))
ends_more (false ∷ past) os more n = ap (λ (xs : List Outcome). NoMemory ∷ xs) (ends_more past os more n)

module _ (s : ℕ) (old new : RunShown) (r : IsRun old) where
  gone_outcomes : HasGoneOn s old new → (u : ℕ) → IsSession u → (more : List Outcome) × (outcomes_in new u ≡ outcomes_in old u ++ more)
  gone_outcomes g u is =
      let es = victims_of g.victims ++ g.event ∷ [] in
      let more = ends u (labels_of es) in
      let labels : new.engine.labels ≡ old.engine.labels ++ labels_of es =
      (gone_run s old new g r.events r.run).shows.labels ∙ (labels_append es r.events ∙ ap (λ (ls : List Label). ls ++ labels_of es) (sym r.run.shows.labels)) in (
        more,
        ap₂ (λ (p : Past) (os : List Outcome). all_ends p os) (g.goes.past u is) (ap (λ (ls : List Label). ends u ls) labels ∙ ends_append u old.engine.labels (labels_of es))
            ∙ ends_more (past_in old.past u) (ends u old.engine.labels) more (r.over u is),
      )

  left_own : IsSession s → HasLeft s old new → outcomes_in new s ≡ outcomes_in old s ++ NoMemory ∷ []
  left_own is l =
      ap₂ (λ (p : Past) (x : Shown). all_ends p (ends s x.labels)) l.own l.engine
      ∙ ends_left (past_in old.past s) (ends s old.engine.labels) (r.over s is)

  -- one left unbegun found no memory
  pub never_left : IsSession s → HasLeft s old new → Lasts new → ⊥
  never_left is l lasts = lasts s is (subst (λ (os : List Outcome). Has os NoMemory) (sym (left_own is l)) (has_after (outcomes_in old s) (NoMemory ∷ []) NoMemory (inl refl)))

  pub lasted_before : HasMoved s old new → Lasts new → Lasts old
  lasted_before m lasts u is h = elim m.moves [
    | inl stuck ↦ lasts u is (subst (λ (v : RunShown). Has (outcomes_in v u) NoMemory) (sym stuck.1) h)
    | inr free ↦ elim free.1 [
      | inl g ↦
          let o = gone_outcomes g u is in
          lasts u is (subst (λ (os : List Outcome). Has os NoMemory) (sym o.1) (has_before (outcomes_in old u) o.0 NoMemory h))
      | inr l ↦ never_left m.session l lasts
    ]
  ]

-- ---- turns
module _ (plan : Plan) (first : RunShown) (start : IsStart plan first) where
  abbrev w : Stage
  w = first.engine.stage

  abbrev ps : Script
  ps = sessions_of plan

  -- the trace of the run is what these turns leave
  pub record IsTraced (ts : List ℕ) (v : RunShown) : Type 0 where
    pub stage : v.engine.stage ≡ w
    pub events : List Event
    pub run : IsRunOf events v.engine
    pub follows : Follows ps w events
    pub driven : trace.IsDriven ps w ts events

  -- the whole script is run
  pub whole_script : (ts : List ℕ) (v : RunShown) → Leads ts first v → IsRun v → Lasts v → begun_script v ≡ ps
  whole_script ts v h r lasts = script_is v r lasts ∙ ap sessions_of (leads_script ts first v h ∙ start.script)

  cannot : (v : RunShown) → IsRun v → begun_script v ≡ ps → v.engine.stage ≡ w → (es : List Event) → IsRunOf es v.engine → (s : ℕ) → IsSession s → IsStuck v s → can_turn ps w es s ≡ false
  cannot v r script stage es run s is stuck =
      sym (ap₂ (λ (p : Script) (x : Stage). can_turn p x es s) script stage) ∙ elim stuck [
        | inl ended ↦ cannot_ended v r es run s is ended
        | inr stands ↦ cannot_standing v r es run s is stands
      ]

  module _ (s : ℕ) (ts : List ℕ) (old new : RunShown) (r : IsRun old) (script : begun_script old ≡ ps) (traced : IsTraced ts old) where
    same_more : can_turn ps w traced.events s ≡ false → new ≡ old → IsTraced (s ∷ ts) new
    same_more can same = record {
      stage = ap (λ (v : RunShown). v.engine.stage) same ∙ traced.stage;
      events = traced.events;
      run = subst (λ (v : RunShown). IsRunOf traced.events v.engine) (sym same) traced.run;
      follows = traced.follows;
      driven = (traced.events, traced.driven, inl (can, refl));
    }

    gone_more : IsSession s → IsFree old s → HasGoneOn s old new → IsTraced (s ∷ ts) new
    gone_more is free g = record {
      stage = g.goes.run.stage ∙ traced.stage;
      events = events_then g traced.events;
      run = gone_run s old new g traced.events traced.run;
      follows = at_script (λ p x. Follows p x (events_then g traced.events)) (gone_follows s old new g traced.events traced.run before);
      driven = (
        traced.events,
        traced.driven,
        inr (at_script (λ p x. IsMove p x traced.events s (events_then g traced.events)) (gone_move s old new g r is free traced.events traced.run)),
      );
    }
      where
        -- what holds of the script and the stage of the run holds of those of the first
        at_script : (P : Script → Stage → Type 0) → P (begun_script old) old.engine.stage → P ps w
        at_script P h = subst (λ (x : Stage). P ps x) traced.stage (subst (λ (p : Script). P p old.engine.stage) script h)

        before : Follows (begun_script old) old.engine.stage traced.events
        before = subst (λ (p : Script). Follows p old.engine.stage traced.events) (sym script) (subst (λ (x : Stage). Follows ps x traced.events) (sym traced.stage) traced.follows)

    moved_more : HasMoved s old new → Lasts new → IsTraced (s ∷ ts) new
    moved_more m lasts = elim m.moves [
      | inl stuck ↦ same_more (cannot old r script traced.stage traced.events traced.run s m.session stuck.0) stuck.1
      | inr free ↦ elim free.1 [
        | inl g ↦ gone_more m.session free.0 g
        | inr l ↦ absurd (never_left s old new r m.session l lasts)
      ]
    ]

  start_traced : (v : RunShown) → v ≡ first → IsTraced [] v
  start_traced v e = record {
    stage = ap (λ (x : RunShown). x.engine.stage) e;
    events = [];
    run = subst (λ (x : RunShown). IsRunOf [] x.engine) (sym e) start.none;
    follows = tt;
    driven = refl;
  }

  pub traced : (ts : List ℕ) (v : RunShown) → Leads ts first v → Lasts v → IsTraced ts v
  traced [] v h lasts = start_traced v h
  traced (s ∷ ts) v h lasts =
      let r = leads_legal ts first h.0 start.legal h.1 in
      let before = lasted_before s h.0 v r h.2 lasts in
      moved_more s ts h.0 v r (whole_script ts h.0 h.1 r before) (traced ts h.0 h.1 before) h.2 lasts
