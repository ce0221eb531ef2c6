-- A run by threads is driven again by the turns that were told of it.
use Rattle.std.proofs.Common.{◌≡◌, ℕ, Bool, true, List, ◌++◌, map, Option, Some, None, sym, ap, ap₂, ◌∙◌}
use Rattle.std.specs.List.{flat_map}
use Rattle.std.proofs.lemmas.List.{append-nil}
use Rattle.sg_modes.specs.Sessions.{IsSession}
use Rattle.sg_plain.specs.Serial.{Entry}
use Rattle.sg_report.specs.Reports.{asked, scripted, commit_of}
use Rattle.sg_run.specs.Ends.{Past}
use Rattle.sg_script.specs.Plans.{Plan}
use Rattle.sg_trace.specs.declared.labels.Label.{Label}
use Rattle.sg_trace.specs.Scripts.{schedule}
use Rattle.sg_texts.specs.Labels.{labels_text}
use Rattle.sg_texts.specs.Texts.{commits_text, other_text, rows_text}
use Rattle.sg_texts.specs.Told.{Told, if_asked, schedule_text, told_text}
use Rattle.sg_driver.specs.Laws.{IsRecorded, AreEqualRuns}
use Rattle.sg_driver.proofs.Equal.{replays}
use Rattle.sg_program.specs.Laws.{MemoryLasted, IsScheduledBy}
use Rattle.sg_program.specs.Plays.{IsRun}
use Rattle.sg_program.specs.Runs.{IsTextOf}
use Rattle.sg_program.specs.Threaded.{IsSessionRun, IsThreadText}
use Rattle.sg_program.proofs.Alike.{lasted, lasting, same_others}

some_same : (x y : List ℕ) → ◌≡◌ {A = Option (List ℕ)} (Some x) (Some y) → x ≡ y
some_same x y e = cc

module _ (plan again : Plan) (labels : Bool) (told : Told) (run : IsSessionRun plan labels true told) (scheduled : IsScheduledBy told plan again) where
  recorded : MemoryLasted told → IsRecorded again run.last
  recorded memory = record {
    legal = run.finished.legal;
    ended = run.ended;
    lasted = lasted plan labels true run.last told run.tells run.finished memory;
    settings = ap (λ (p : Plan). p.settings) run.finished.script ∙ sym scheduled.settings;
    rows = ap (λ (p : Plan). p.rows) run.finished.script ∙ sym scheduled.rows;
    sessions = ap (λ (p : Plan). p.sessions) run.finished.script ∙ sym scheduled.sessions;
    order = some_same again.order (schedule run.last.engine.labels) (sym scheduled.order ∙ run.tells.turns);
  }

  -- the driven run tells the same, but for the turns
  pub told_again : (other : Told) → IsRun again labels other → MemoryLasted told → MemoryLasted other →
      other ≡ record { commits = told.commits; others = told.others; rows = told.rows; labels = told.labels; schedule = None }
  told_again other q memory later =
      let same = replays again run.last q.last (recorded memory) (lasting again labels other q later) in
      let commits : other.commits ≡ told.commits =
      q.tells.commits
      ∙ (ap₂ (λ (past : List Past) (js : List Entry). map commit_of (map (scripted past) js)) same.past same.journal ∙ sym run.tells.commits) in
      let sessions = ap (λ (p : Plan). p.sessions) q.finished.script ∙ (scheduled.sessions ∙ sym (ap (λ (p : Plan). p.sessions) run.finished.script)) in
      let others : other.others ≡ told.others = q.tells.others ∙ (same_others run.last q.last sessions same ∙ sym run.tells.others) in
      let rows = same.rows told.rows other.rows run.tells.rows q.tells.rows in
      let told_labels : other.labels ≡ told.labels = q.tells.labels ∙ (ap (λ (ls : List Label). asked labels ls) same.labels ∙ sym run.tells.labels) in
      let turns : other.schedule ≡ None = q.tells.turns in
      λ i. record { commits = commits i; others = others i; rows = rows i; labels = told_labels i; schedule = turns i }

-- a text ends with the line of its turns
last_line : (told : Told) (order : List ℕ) → told.schedule ≡ Some order →
    told_text told ≡ told_text (record { commits = told.commits; others = told.others; rows = told.rows; labels = told.labels; schedule = None }) ++ schedule_text order
last_line told order e =
    let front = commits_text told.commits ++ flat_map other_text told.others ++ rows_text told.rows ++ if_asked labels_text told.labels in
    ap (λ (o : Option (List ℕ)). front ++ if_asked schedule_text o) e ∙ ap (λ (t : List ℕ). t ++ schedule_text order) (sym (append-nil front))

pub printed_turns : (plan : Plan) (labels : Bool) (bytes text other : List ℕ) (run : IsThreadText plan labels true text) (again : IsTextOf labels bytes other)
    → IsScheduledBy run.told plan again.plan → MemoryLasted run.told → MemoryLasted again.text_is.told → text ≡ other ++ schedule_text again.plan.order
printed_turns plan labels bytes text other run again scheduled memory later =
    let same = told_again plan again.plan labels run.told run.run scheduled again.text_is.told again.text_is.run memory later in
    run.is ∙ (last_line run.told again.plan.order scheduled.order ∙ ap (λ (t : List ℕ). t ++ schedule_text again.plan.order) (sym (again.text_is.is ∙ ap told_text same)))
