-- What a call that runs a script's sessions in threads has done and printed.
use Rattle.std.specs.Prelude.{◌≡◌, ℕ, ◌<◌, Bool, List, length, take, Option}
use Rattle.std.specs.Io.KnownBytes.{Appends}
use Rattle.sg_run.specs.Runs.{RunShown}
use Rattle.sg_report.specs.Reports.{Tells}
use Rattle.sg_script.specs.Plans.{Plan}
use Rattle.sg_threads.specs.Runs.{AllHaveEnded}
use Rattle.sg_texts.specs.Told.{Told, IsTold, told_text}
use Rattle.sg_program.specs.Plays.{IsWholeRun}
use Rattle.sg_program.specs.Runs.{GaveScript}

-- What is told of a run of the script that has come to its end, whoever's turns it came of; its labels and the sessions
-- of its turns too where these are asked for.
pub record IsSessionRun (plan : Plan) (labels trace : Bool) (told : Told) : Type 0 where
  pub last : RunShown
  pub ended : AllHaveEnded last
  pub tells : Tells labels trace last told
  pub finished : IsWholeRun plan last told.rows

-- the text of such a run; what it tells fits, so that no other such text tells otherwise
pub record IsThreadText (plan : Plan) (labels trace : Bool) (text : List ℕ) : Type 0 where
  pub told : Told
  pub run : IsSessionRun plan labels trace told
  pub fits : IsTold told
  pub is : text ≡ told_text told

-- The source gave a script to its end, and the sink took the whole text of such a run of it.
pub record IsThreaded (labels trace : Bool) (before after old new : Option (List ℕ)) : Type 0 where
  pub plan : Plan
  pub text : List ℕ
  pub given : GaveScript before after plan
  pub text_is : IsThreadText plan labels trace text
  pub printed : Appends old new text

-- The same where the sink took the front of the text.
pub record IsThreadedCut (labels trace : Bool) (before after old new : Option (List ℕ)) : Type 0 where
  pub plan : Plan
  pub text : List ℕ
  pub sent : ℕ
  pub given : GaveScript before after plan
  pub text_is : IsThreadText plan labels trace text
  pub short : sent < length text
  pub printed : Appends old new (take sent text)
