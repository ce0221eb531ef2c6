-- Journals executed one after another: what they leave is one, and their answers tell sound shapes.
use Rattle.std.proofs.Common.{◌≡◌, List, [], ◌∷◌, map, sym, ◌∙◌, subst}
use Rattle.std.specs.Prelude.{All}
use Rattle.std.proofs.lemmas.List.Elements.{All-nil, All-cons, All-map}
use Rattle.sg_plain.specs.declared.statements.Statement.{Statement}
use Rattle.sg_plain.specs.declared.statements.Answer.{Answer}
use Rattle.sg_plain.specs.Rows.{Rows, AreRows}
use Rattle.sg_plain.specs.Sat.{IsSoundAnswer, AreSoundAnswers}
use Rattle.sg_plain.specs.Replies.{Means, effect}
use Rattle.sg_plain.specs.Serial.{Entry, ExecutesBy, SerialBy, Serial}
use Rattle.sg_plain.proofs.Replied.{sound_answer}
use Rattle.sg_plain.proofs.Unique.{AreRows-effect}
use Rattle.sg_texts.specs.Sound.{AreSoundCommits}
use Rattle.sg_texts.specs.Texts.{Commit}
use Rattle.sg_run.specs.Ends.{Past}
use Rattle.sg_serial.proofs.Serials.{EachSound, AllSound}
use Rattle.sg_report.specs.Reports.{scripted, commit_of}

-- ---- the rows that are left
executes_one : (A B : Rows → Statement → Answer → Type 0) (old new new' : Rows) (sts : List Statement) (as' : List Answer) → ExecutesBy A old sts as' new → ExecutesBy B old sts as' new' → new ≡ new'
executes_one A B old new new' [] [] x y = x ∙ sym y
executes_one A B old new new' [] (a ∷ as') x y = absurd x
executes_one A B old new new' (t ∷ sts) [] x y = absurd x
executes_one A B old new new' (t ∷ sts) (a ∷ as') x y = executes_one A B (effect t a old) new new' sts as' x.1 y.1

-- whatever the answers have to be, the rows are one
pub serial_one : (A B : Rows → Statement → Answer → Type 0) (old new new' : Rows) (js : List Entry) → SerialBy A old js new → SerialBy B old js new' → new ≡ new'
serial_one A B old new new' [] x y = x ∙ sym y
serial_one A B old new new' (e ∷ js) x y =
    let mid = executes_one A B old x.0 y.0 e.statements e.answers x.1 y.1 in
    serial_one A B x.0 new new' js x.2 (subst (λ (rows : Rows). SerialBy B rows js new') (sym mid) y.2)

-- other numbers of the transactions make no difference
pub serial_scripted : (A : Rows → Statement → Answer → Type 0) (past : List Past) (old new : Rows) (js : List Entry) → SerialBy A old js new → SerialBy A old (map (scripted past) js) new
serial_scripted A past old new [] x = x
serial_scripted A past old new (e ∷ js) x = (x.0, x.1, serial_scripted A past x.0 new js x.2)

-- ---- sound shapes
record AreSoundAfter (answers : List Answer) (new : Rows) : Type 0 where
  pub sound : AreSoundAnswers answers
  pub rows : AreRows new

executes_sound : (old new : Rows) (sts : List Statement) (as' : List Answer) → AreRows old → EachSound sts → ExecutesBy Means old sts as' new → AreSoundAfter as' new
executes_sound old new [] [] r s x = record { sound = All-nil IsSoundAnswer; rows = subst AreRows (sym x) r }
executes_sound old new [] (a ∷ as') r s x = absurd x
executes_sound old new (t ∷ sts) [] r s x = absurd x
executes_sound old new (t ∷ sts) (a ∷ as') r s x =
    let rest = executes_sound (effect t a old) new sts as' (AreRows-effect old t a r s.0) s.1 x.1 in
    record { sound = All-cons IsSoundAnswer a as' (sound_answer old t a r x.0) rest.sound; rows = rest.rows }

abbrev IsSoundEntry : Entry → Type 0
IsSoundEntry e = AreSoundAnswers e.answers

serial_sound : (old new : Rows) (js : List Entry) → AreRows old → AllSound js → Serial old js new → All IsSoundEntry js
serial_sound old new [] r s x = All-nil IsSoundEntry
serial_sound old new (e ∷ js) r s x =
    let one = executes_sound old x.0 e.statements e.answers r s.0 x.1 in
    All-cons IsSoundEntry e js one.sound (serial_sound x.0 new js one.rows s.1 x.2)

-- so are the commits that are told
pub commits_sound : (past : List Past) (old new : Rows) (js : List Entry) → AreRows old → AllSound js → Serial old js new → AreSoundCommits (map commit_of (map (scripted past) js))
commits_sound past old new js r s x =
    All-map (λ (c : Commit). AreSoundAnswers c.answers) commit_of (map (scripted past) js)
    (All-map IsSoundEntry (scripted past) js (serial_sound old new js r s x))
