-- What is told of a run whose trace is legal: its journal is serial on plain rows, and the shapes in its answers are sound.
use Rattle.std.specs.Prelude.{All, Bool, true, false, Option, Some, None, IfSome}
use Rattle.std.proofs.Common.{◌≡◌, ℕ, List, [], ◌∷◌, map, sym, ap, subst, refl}
use Rattle.std.proofs.lemmas.List.Elements.{All-nil, All-cons, All-append}
use Rattle.sg_plain.specs.declared.statements.Statement.{Statement}
use Rattle.sg_plain.specs.declared.statements.Answer.{Answer}
use Rattle.sg_plain.specs.Rows.{Rows}
use Rattle.sg_plain.specs.Replies.{Means}
use Rattle.sg_plain.specs.Sat.{IsSoundAnswer, IsSoundStatement}
use Rattle.sg_plain.specs.Serial.{Entry, Serial}
use Rattle.sg_plain.proofs.Replied.{sound_answer}
use Rattle.sg_texts.specs.Texts.{Commit}
use Rattle.sg_texts.specs.Sound.{AreSoundCommits, IsSoundLabel}
use Rattle.sg_trace.specs.declared.labels.Label.{Label}
use Rattle.sg_trace.specs.Needs.{Need, Lock, New}
use Rattle.sg_trace.specs.Replies.{Reply, SerialIn}
use Rattle.sg_trace.specs.Traces.{Stage, State, Event, Begin, Ask, Take, Put, Wait, Victim, Answered, Commit as Committed, Rollback, label_of, labels_of, state, view}
use Rattle.sg_trace.specs.Legal.{IsStage, IsLegal, Fits, IsOpen, IsAct, IsActFor, Replies, journal}
use Rattle.sg_trace.proofs.Replied.{answers_as_plain}
use Rattle.sg_laws.proofs.Lists.{AreRows-effects}
use Rattle.sg_laws.proofs.Kept.{legal_good}
use Rattle.sg_serial.proofs.Serials.{AllSound, journal_sound, serial}
use Rattle.sg_engine.specs.Shown.{Shown}
use Rattle.sg_run.specs.Runs.{RunShown, IsRun}
use Rattle.sg_report.specs.Reports.{asked, commit_of, journal_in}
use Rattle.sg_report.proofs.Entries.{serial_one, commits_sound}

-- ---- the answers that labels tell
replied : (w : Stage) (z : State) (s : ℕ) (st : Statement) (o : Option Need) (a : Answer) → IsActFor w z s st o (Replies a) → Reply w.settings (view z s) st a
replied w z s st None a h = h
replied w z s st (Some (Lock k m)) a h = absurd (cc)
replied w z s st (Some (New k)) a h = absurd (cc)

module _ (w : Stage) (staged : IsStage w) where
  answer_sound : (es : List Event) → IsLegal w es → (s : ℕ) (st : Statement) (a : Answer) → IsOpen w es s st → IsAct w (state w es) s st (Replies a) → IsSoundAnswer a
  answer_sound es legal s st a opened act =
      let z = state w es in
      let sound = (legal_good w staged es legal).sound in
      let here = sound.statements s in
      let rows = AreRows-effects (z.of s).done z.rows here.done sound.rows in
      let asked_sound : IsSoundStatement st = subst (λ o. IfSome o IsSoundStatement) opened.open_one here.open_one in
      sound_answer (view z s) st a rows (answers_as_plain w.settings (view z s) st a staged.settings rows asked_sound (replied w z s st _ a act.follows))

  event_sound : (e : Event) (es : List Event) → IsLegal w es → Fits w es e → IsSoundLabel (label_of e)
  event_sound (Begin s t) es legal fits = tt
  event_sound (Ask s n st) es legal fits = tt
  event_sound (Take s k m) es legal fits = tt
  event_sound (Put s k m) es legal fits = tt
  event_sound (Wait s k m b) es legal fits = tt
  event_sound (Victim s c) es legal fits = tt
  event_sound (Answered s a) es legal fits = answer_sound es legal s fits.0 a fits.1 fits.2
  event_sound (Committed s p) es legal fits = tt
  event_sound (Rollback s c) es legal fits = tt

  pub labels_sound : (es : List Event) → IsLegal w es → All IsSoundLabel (labels_of es)
  labels_sound [] legal = All-nil IsSoundLabel
  labels_sound (e ∷ es) legal =
      All-append IsSoundLabel (labels_of es) (label_of e ∷ []) (labels_sound es legal.0)
      (All-cons IsSoundLabel (label_of e) [] (event_sound e es legal.0 legal.1) (All-nil IsSoundLabel))

-- ---- of a run
module _ (v : RunShown) (r : IsRun v) where
  pub journal_is : v.engine.journal ≡ journal v.engine.stage r.events
  journal_is = r.run.shows.journal

  -- its journal is serial on plain rows
  pub plainly : (rows : Rows) → SerialIn v.engine.stage.settings v.engine.stage.opening v.engine.journal rows → Serial v.engine.stage.opening v.engine.journal rows
  plainly rows h =
      let w = v.engine.stage in
      let plain : Serial w.opening v.engine.journal (state w r.events).rows = subst (λ (js : List Entry). Serial w.opening js (state w r.events).rows) (sym journal_is) (serial w r.staged r.events r.run.legal) in
      subst (λ (rs : Rows). Serial w.opening v.engine.journal rs) (serial_one Means (Reply w.settings) w.opening (state w r.events).rows rows v.engine.journal plain h) plain

  pub commits_told : (commits : List Commit) (rows : Rows) → commits ≡ map commit_of (journal_in v) → SerialIn v.engine.stage.settings v.engine.stage.opening v.engine.journal rows → AreSoundCommits commits
  commits_told commits rows e h =
      let w = v.engine.stage in
      subst AreSoundCommits (sym e)
      (commits_sound v.past w.opening rows v.engine.journal r.staged.rows (subst AllSound (sym journal_is) (journal_sound w r.staged r.events r.run.legal)) (plainly rows h))

  pub labels_told : (wanted : Bool) (labels : Option (List Label)) → labels ≡ asked wanted v.engine.labels → IfSome labels (λ ls. All IsSoundLabel ls)
  labels_told wanted labels e = subst (λ o. IfSome o (λ ls. All IsSoundLabel ls)) (sym e) (by_wish wanted)
    where
      by_wish : (b : Bool) → IfSome (asked b v.engine.labels) (λ ls. All IsSoundLabel ls)
      by_wish true = subst (λ ls. All IsSoundLabel ls) (sym r.run.shows.labels) (labels_sound v.engine.stage r.staged r.events r.run.legal)
      by_wish false = tt

-- the rows are those that the journal leaves
pub rows_told : (shown engine : Shown) (kept rows : Rows) → shown ≡ engine → SerialIn shown.stage.settings shown.stage.opening shown.journal kept → rows ≡ kept → SerialIn engine.stage.settings engine.stage.opening engine.journal rows
rows_told shown engine kept rows e h same =
    subst (λ (v : Shown). SerialIn v.stage.settings v.stage.opening v.journal rows) e
    (subst (λ (rs : Rows). SerialIn shown.stage.settings shown.stage.opening shown.journal rs) (sym same) h)
