-- A run that was driven to its end, and what is told of it.
use Rattle.std.specs.Prelude.{Bool, true, false, IfOk}
use Rattle.std.specs.Global.{Vec}
use Rattle.std.proofs.Common.{◌≡◌, ℕ, List, [], ◌∷◌, ◌++◌, map, Result, Ok, Err, sym, ap, ◌∙◌, subst, subst₂, inl, inr}
use Rattle.sg_cells.specs.declared.settings.Settings.{Settings}
use Rattle.sg_modes.specs.Sessions.{IsSession}
use Rattle.sg_plain.specs.Rows.{Rows}
use Rattle.sg_plain.specs.Replies.{Means}
use Rattle.sg_plain.specs.Serial.{Entry, Serial, ScriptOrder}
use Rattle.sg_script.specs.Canonical.{canonical}
use Rattle.sg_script.specs.Plans.{Plan, sessions_of}
use Rattle.sg_workload.specs.Workload.{script_of}
use Rattle.sg_trace.specs.Replies.{Reply, SerialIn}
use Rattle.sg_trace.specs.Legal.{journal}
use Rattle.sg_serial.proofs.Places.{all_of}
use Rattle.sg_serial.proofs.Ordered.{script_order}
use Rattle.sg_engine.specs.Shown.{IsRunOf}
use Rattle.sg_run.specs.Runs as runs
use Rattle.sg_run.specs.Runs.{RunShown, begun_script, has_ended, past_in}
use Rattle.sg_driver.specs.Drives.{Leads, HasMoved, IsDriven}
use Rattle.sg_driver.specs.Laws.{IsStart}
use Rattle.sg_report.specs.Reports.{IsReportOf, scripted, journal_in}
use Rattle.sg_report.specs.Summaries.{IsSummaryOf}
use Rattle.sg_report.proofs.Entries.{serial_scripted}
use Rattle.sg_report.proofs.Sounds.{journal_is, plainly}
use Rattle.sg_program.specs.Plays.{IsWholeRun}
use Rattle.sg_program.specs.Makes.{IsMadeText}
use Rattle.sg_program.specs.Runs.{IsRunText}
use Rattle.sg_program.specs.Threaded.{IsThreadText}
use Rattle.sg_threads.specs.Runs.{IsRunIn, AllHaveEnded}
use Rattle.sg_program.proofs.Orders.{IsCounted, order_scripted}
use Rattle.sg_program.proofs.Ended.{entry_counted, all_ended}

-- ---- turns leave the script
moved_script : (s : ℕ) (old new : RunShown) → HasMoved s old new → new.script ≡ old.script
moved_script s old new h = elim h.moves [
  | inl stuck ↦ ap (λ (v : RunShown). v.script) stuck.1
  | inr free ↦ elim free.1 [
    | inl on ↦ on.goes.script
    | inr left ↦ left.script
  ]
]

led_script : (ts : List ℕ) (old new : RunShown) → Leads ts old new → new.script ≡ old.script
led_script [] old new h = ap (λ (v : RunShown). v.script) h
led_script (s ∷ ts) old new h = moved_script s h.0 new h.2 ∙ led_script ts old h.0 h.1

-- ---- a run's journal
in_order : (v : RunShown) → runs.IsRun v → ScriptOrder (sessions_of v.script) (journal_in v)
in_order v r =
    let w = v.engine.stage in
    subst (λ (js : List Entry). ScriptOrder (sessions_of v.script) (map (scripted v.past) js)) (sym (journal_is v r))
    (order_scripted v.past (sessions_of v.script) (journal w r.events) (all_of (IsCounted v.past) (journal w r.events) (entry_counted v r))
    (script_order (begun_script v) w r.events r.run.legal r.follows))

-- a run that has come to its end, with the rows that its journal leaves
pub finished : (plan : Plan) (last : RunShown) (rows : Rows) → last.script ≡ plan → ((s : ℕ) → IsSession s → has_ended last s ≡ true) → runs.IsRun last
    → SerialIn last.engine.stage.settings last.engine.stage.opening last.engine.journal rows → IsWholeRun plan last rows
finished plan last rows script ended r left =
    let opening : last.engine.stage.opening ≡ plan.rows = r.stage.opening ∙ ap (λ (p : Plan). p.rows) script in
    let settings : last.engine.stage.settings ≡ plan.settings = r.stage.settings ∙ ap (λ (p : Plan). p.settings) script in
    let replied = serial_scripted (Reply last.engine.stage.settings) last.past last.engine.stage.opening rows last.engine.journal left in
    let plain = serial_scripted Means last.past last.engine.stage.opening rows last.engine.journal (plainly last r rows left) in
    record {
      script = script;
      legal = r;
      ended = all_ended plan last r script ended;
      order = subst (λ (p : Plan). ScriptOrder (sessions_of p) (journal_in last)) script (in_order last r);
      serial = subst (λ (start : Rows). Serial start (journal_in last) rows) opening plain;
      serial_in = subst₂ (λ (c : Settings) (start : Rows). SerialIn c start (journal_in last) rows) settings opening replied;
    }

-- ---- what is told of it
told_run : (plan : Plan) (labels : Bool) (first last : RunShown) (text : List ℕ) → IsStart plan first → IsDriven first last → IsReportOf labels false last text → IsRunText plan labels text
told_run plan labels first last text start driven report = record {
  told = report.told;
  run = record {
    first = first;
    last = last;
    start = start;
    driven = driven;
    tells = report.tells;
    finished = finished plan last report.told.rows (led_script _ first last driven.leads ∙ start.script) driven.ended report.legal report.tells.rows;
  };
  fits = report.fits;
  is = report.is;
}

pub played : {E : Type 0} (plan : Plan) (labels : Bool) (first last : RunShown) (result : Result (Vec ℕ) E) → first.script ≡ plan → IsRunOf [] first.engine → ((s : ℕ) → past_in first.past s ≡ []) → runs.IsRun first → IsDriven first last →
    IfOk result (λ text. IsReportOf labels false last text.items) → IfOk result (λ text. IsRunText plan labels text.items)
played plan labels first last (Ok text) script none past legal driven report = told_run plan labels first last text.items (record { script = script; none = none; past = past; legal = legal }) driven report
played plan labels first last (Err e) script none past legal driven report = tt

-- the same of a run whose sessions have all ended, whatever turns it took
pub threaded : {E : Type 0} (plan : Plan) (labels trace : Bool) (last : RunShown) (result : Result (Vec ℕ) E) → IsRunIn plan last → AllHaveEnded last →
    IfOk result (λ text. IsReportOf labels trace last text.items) → IfOk result (λ text. IsThreadText plan labels trace text.items)
threaded plan labels trace last (Ok text) run ended report = record {
  told = report.told;
  run = record {
    last = last;
    ended = ended;
    tells = report.tells;
    finished = finished plan last report.told.rows run.script ended run.legal report.tells.rows;
  };
  fits = report.fits;
  is = report.is;
}
threaded plan labels trace last (Err e) run ended report = tt

-- ---- a script that was made
pub made_text : (seed rows sessions : ℕ) (plan : Plan) (first last : RunShown) (line text : List ℕ) → plan ≡ script_of seed rows sessions → first.script ≡ plan → IsRunOf [] first.engine → ((s : ℕ) → past_in first.past s ≡ [])
    → runs.IsRun first → IsDriven first last → IsSummaryOf last line → text ≡ canonical plan ++ line → IsMadeText seed rows sessions text
made_text seed rows sessions plan first last line text is_plan script none past legal driven sum whole =
    let made : Plan = script_of seed rows sessions in
    let same : first.script ≡ made = script ∙ is_plan in
    record {
      first = first;
      last = last;
      left = sum.rows;
      start = record { script = same; none = none; past = past; legal = legal };
      driven = driven;
      finished = finished made last sum.rows (led_script _ first last driven.leads ∙ same) driven.ended sum.legal sum.left;
      is = whole ∙ (ap (λ (p : Plan). canonical p ++ line) is_plan ∙ ap (λ (l : List ℕ). canonical made ++ l) sum.is);
    }
