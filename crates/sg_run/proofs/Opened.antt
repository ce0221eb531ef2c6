-- A run that was opened: nothing is over, and there is room for all.
use Rattle.std.proofs.Common.{◌≡◌, ℕ, ℤ, List, [], length, sym, ap, ◌∙◌, inl, inr, arith}
use Rattle.std.specs.Prelude.{map}
use Rattle.sg_modes.specs.Sessions.{IsSession}
use Rattle.sg_modes.specs.Priorities.{priority_of}
use Rattle.sg_cells.specs.declared.settings.Settings.{Settings}
use Rattle.sg_plain.specs.Rows.{Rows}
use Rattle.sg_script.specs.Plans.{Plan, sessions_of}
use Rattle.sg_trace.specs.declared.labels.Label.{Label}
use Rattle.sg_trace.specs.Traces.{Stage}
use Rattle.sg_trace.specs.Legal.{IsStage}
use Rattle.sg_trace.specs.Scripts.{transactions_of}
use Rattle.sg_trace.specs.Measure.{one}
use Rattle.sg_engine.specs.Shown.{Shown, IsRunOf}
use Rattle.sg_run.specs.declared.outcomes.Outcome.{Outcome}
use Rattle.sg_run.specs.declared.outcomes.Over.{Over}
use Rattle.sg_run.specs.declared.courses.Course.{Course}
use Rattle.sg_run.specs.Ends.{Past, ends, begun_count, begun_numbers, all_ends}
use Rattle.sg_run.specs.Courses.{is_begun, outcome_of, past_at, course_in}
use Rattle.sg_run.specs.Runs.{past_in, priority_in, IsStageOf}
use Rattle.sg_run.specs.Opens.{HasRoom}
use Rattle.sg_run.specs.Inside.{IsInside}
use Rattle.sg_run.proofs.Begun.{session_or_not, none_beyond}
use Rattle.sg_run.proofs.Goes.{live_is, past_in_map, length_pasts}

pub stage_is : (script : Plan) (w : Stage) (settings : Settings) (rows : Rows) (priorities : List ℤ) → w ≡ record { settings = settings; opening = rows; priorities = priorities } → settings ≡ script.settings → rows ≡ script.rows → ((s : ℕ) → IsSession s → priority_of priorities s ≡ priority_in script.sessions s)
    → IsStageOf script w
stage_is script w settings rows priorities is a b c = record {
  settings = ap (λ (w : Stage). w.settings) is ∙ a;
  opening = ap (λ (w : Stage). w.opening) is ∙ b;
  priorities = λ s session. ap (λ (w : Stage). priority_of w.priorities s) is ∙ c s session;
}

module _ (script : Plan) (engine : Shown) (courses : List Course) (size : length courses ≡ 64) (staged : IsStage engine.stage) (stage : IsStageOf script engine.stage) (run : IsRunOf [] engine)
    (room : (s : ℕ) → IsSession s → HasRoom (transactions_of (sessions_of script) s) (course_in courses s)) where
  past_none : (s : ℕ) → IsSession s → past_in (map past_at courses) s ≡ []
  past_none s is = past_in_map courses s ∙ ap (λ (os : List Over). map is_begun os) (room s is).over

  no_ends : (s : ℕ) → ends s engine.labels ≡ []
  no_ends s = ap (λ (ls : List Label). ends s ls) run.shows.labels

  pub open_inside : IsInside script engine courses
  open_inside = record {
    run = record {
      events = [];
      staged = staged;
      stage = stage;
      run = run;
      follows = tt;
      sessions = length_pasts courses ∙ size;
      over = λ s is. ap (λ (past : Past). begun_count past) (past_none s is) ∙ ap (λ (os : List Outcome). length os) (sym (no_ends s));
      within = λ s is.
          let a = ap (λ (past : Past). length past) (past_none s is) in
          let b = ap one (live_is engine [] run s is) in
          omega (arith, a, b);
    };
    courses_are = λ s is.
        let c = course_in courses s in
        let r = room s is in
        let past : past_at c ≡ [] = ap (λ (os : List Over). map is_begun os) r.over in
        let l = ap (λ (os : List Over). length os) r.over in
        let over = r.over_room in
        let numbers = r.number_room in
        record {
          outcomes = ap (λ (os : List Over). map outcome_of os) r.over ∙ (ap (λ (p : Past). all_ends p (ends s engine.labels)) (sym past));
          numbers = r.numbers ∙ ap (λ (p : Past). begun_numbers 1 p) (sym past);
          over_room = omega (arith, l, over);
          number_room = omega (arith, l, numbers);
        };
  }

  pub open_past : (s : ℕ) → past_in (map past_at courses) s ≡ []
  open_past s = elim (session_or_not s) [
    | inl is ↦ past_none s is
    | inr out ↦ none_beyond (map past_at courses) s (length_pasts courses ∙ size) out
  ]
