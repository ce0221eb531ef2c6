-- What a call of the program has read, done and printed.
use Rattle.std.specs.Prelude.{◌≡◌, ◌⊎◌, ℕ, ◌≤◌, ◌<◌, Bool, List, length, take, Option, Some, None, Ok, Err}
use Rattle.std.specs.Io.KnownBytes.{Consumes, Appends, IsAtEnd}
use Rattle.sg_io.specs.Causes.{Rose}
use Rattle.sg_texts.specs.Told.{Told, IsTold, told_text}
use Rattle.sg_script.specs.declared.faults.ScriptFault.{ScriptFault}
use Rattle.sg_script.specs.Grammar.{script_in}
use Rattle.sg_script.specs.Plans.{Plan}
use Rattle.sg_program.specs.Faults.{fault_line}
use Rattle.sg_program.specs.Plays.{IsRun}

-- the source gave these bytes, which were all that it had, and no more than a script may have
pub record Gave (before after : Option (List ℕ)) (bytes : List ℕ) : Type 0 where
  pub read : Consumes before after bytes
  pub end : IsAtEnd after
  pub within : length bytes ≤ 67108864

-- these bytes were the script
pub record GaveScript (before after : Option (List ℕ)) (plan : Plan) : Type 0 where
  pub bytes : List ℕ
  pub given : Gave before after bytes
  pub script : script_in bytes ≡ Ok plan

-- the text of a run of the script; what it tells fits, so that no other such text tells otherwise
pub record IsRunText (plan : Plan) (labels : Bool) (text : List ℕ) : Type 0 where
  pub told : Told
  pub run : IsRun plan labels told
  pub fits : IsTold told
  pub is : text ≡ told_text told

-- the same of the script that the bytes spell
pub record IsTextOf (labels : Bool) (bytes text : List ℕ) : Type 0 where
  pub plan : Plan
  pub script : script_in bytes ≡ Ok plan
  pub text_is : IsRunText plan labels text

-- what is said of the first faulty line of bytes that are no script
pub record IsFaultIn (bytes line : List ℕ) : Type 0 where
  pub fault : ScriptFault
  pub script : script_in bytes ≡ Err fault
  pub is : line ≡ fault_line fault

-- The source gave a script to its end, and the sink took the whole text of a run of it.
pub record IsReplay (labels : Bool) (before after old new : Option (List ℕ)) : Type 0 where
  pub bytes : List ℕ
  pub plan : Plan
  pub told : Told
  pub given : Gave before after bytes
  pub script : script_in bytes ≡ Ok plan
  pub run : IsRun plan labels told
  pub fits : IsTold told
  pub printed : Appends old new (told_text told)

-- The source gave a script to its end, and the sink took the front of the text of a run of it.
pub record IsCut (labels : Bool) (before after old new : Option (List ℕ)) : Type 0 where
  pub bytes : List ℕ
  pub plan : Plan
  pub told : Told
  pub sent : ℕ
  pub given : Gave before after bytes
  pub script : script_in bytes ≡ Ok plan
  pub run : IsRun plan labels told
  pub fits : IsTold told
  pub short : sent < length (told_text told)
  pub printed : Appends old new (take sent (told_text told))

-- The source gave bytes to its end that are no script, and this is said of their first faulty line.
pub record IsRefused (before after : Option (List ℕ)) (line : List ℕ) : Type 0 where
  pub bytes : List ℕ
  pub given : Gave before after bytes
  pub fault : IsFaultIn bytes line

-- The source gave more bytes than a script may have.
pub record IsTooLong (before after : Option (List ℕ)) : Type 0 where
  pub bytes : List ℕ
  pub read : Consumes before after bytes
  pub many : 67108864 < length bytes

-- ---- what a source holds before the call, where it tells it
abbrev pub HoldsScript : Option (List ℕ) → Type 0
HoldsScript None = ⊥
HoldsScript (Some bytes) = (length bytes ≤ 67108864) × ((plan : Plan) × (script_in bytes ≡ Ok plan))

abbrev pub HoldsNone : Option (List ℕ) → Type 0
HoldsNone None = ⊥
HoldsNone (Some bytes) = (67108864 < length bytes) ⊎ ((fault : ScriptFault) × (script_in bytes ≡ Err fault))

-- ---- messages
-- the sink took the message, or, where it failed, the front of it
abbrev pub Said : ℕ → ℕ → Option (List ℕ) → Option (List ℕ) → List ℕ → Type 0
Said faults_before faults_after old new message =
    Appends old new message ⊎ (Rose faults_before faults_after × ((sent : ℕ) × Appends old new (take sent message)))
