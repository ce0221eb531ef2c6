-- The laws of journals.
use Rattle.std.specs.Prelude.{◌≡◌, List}
use Rattle.sg_plain.specs.Serial.{Serial, ScriptOrder}
use Rattle.sg_trace.specs.Replies.{SerialIn}
use Rattle.sg_trace.specs.Laws.{AskAlike, AnswerAlike}
use Rattle.sg_trace.specs.Traces.{Stage, Event, state}
use Rattle.sg_trace.specs.Legal.{IsStage, IsLegal, journal}
use Rattle.sg_trace.specs.Scripts.{Script, Follows}

-- ---- the journal
-- the answers are those of executing the journal's transactions one after another, which leaves the committed rows
abbrev pub JournalIsSerialIn : Type 0
JournalIsSerialIn = (w : Stage) (es : List Event) → IsStage w → IsLegal w es → SerialIn w.settings w.opening (journal w es) (state w es).rows

-- on plain rows too
abbrev pub JournalIsSerial : Type 0
JournalIsSerial = (w : Stage) (es : List Event) → IsStage w → IsLegal w es → Serial w.opening (journal w es) (state w es).rows

-- the journal of a trace of a script is of its transactions, each session's in order
abbrev pub JournalIsInOrder : Type 0
JournalIsInOrder = (ps : Script) (w : Stage) (es : List Event) → IsLegal w es → Follows ps w es → ScriptOrder ps (journal w es)

-- ---- two journals
-- Under any settings, journals of the same statements from the same rows have answers that tell the same, and leave the
-- same rows.
abbrev pub JournalsAreAlike : Type 0
JournalsAreAlike =
    (v w : Stage) (ds es : List Event) → IsStage v → IsStage w → v.opening ≡ w.opening → IsLegal v ds → IsLegal w es
    → AskAlike (journal v ds) (journal w es) → AnswerAlike (journal v ds) (journal w es) × ((state v ds).rows ≡ (state w es).rows)
