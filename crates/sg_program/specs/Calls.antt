-- What a call of the program has done, by the form of its words.
use Rattle.std.specs.Prelude.{◌≡◌, ◌≢◌, ◌⊎◌, ℕ, true, false, List, Option, Some, None}
use Rattle.sg_command.specs.declared.forms.Form.{Form}
use Rattle.sg_command.specs.declared.forms.Form.TheVariants.{Replay, Threads, Make}
use Rattle.sg_io.specs.Causes.{Rose}
use Rattle.sg_program.specs.Asked.{is_make, reads_script}
use Rattle.sg_program.specs.Makes.{IsMade, IsMadeCut}
use Rattle.sg_program.specs.Runs.{HoldsNone, HoldsScript, IsCut, IsRefused, IsReplay, IsTooLong, Said}
use Rattle.sg_program.specs.Statuses.{message_of, status_of}
use Rattle.sg_program.specs.Threaded.{IsThreaded, IsThreadedCut}
use Rattle.sg_program.specs.declared.status.Exit.{Exit}
use Rattle.sg_program.specs.declared.status.Exit.TheVariants as ending
use Rattle.sg_program.specs.declared.status.Status.{Status}
use Rattle.sg_program.specs.declared.status.Status.TheVariants.{Done, Usage, Script, ReadFault, WriteFault, OutOfMemory}

-- What a source or a sink tells before a call and after it: its bytes, where it tells them, which are those that a source
-- has left or a sink has taken; and its count of faults.
pub record Device : Type 0 where
  pub before : Option (List ℕ)
  pub after : Option (List ℕ)
  pub faults_before : ℕ
  pub faults_after : ℕ

abbrev pub device_of : {D : Type 0} → (D → Option (List ℕ)) → (D → ℕ) → D → D → Device
device_of bytes faults old new = record { before = bytes old; after = bytes new; faults_before = faults old; faults_after = faults new }

-- it failed in the call
abbrev pub HasFailed : Device → Type 0
HasFailed device = Rose device.faults_before device.faults_after

-- nothing was read from it, or nothing was written to it
abbrev pub IsUntouched : Device → Type 0
IsUntouched device = device.after ≡ device.before

-- the sink took the message, or, where it failed, the front of it
abbrev pub IsSaid : Device → List ℕ → Type 0
IsSaid err message = Said err.faults_before err.faults_after err.before err.after message

-- a script was replayed, or run by the threads of its sessions, or made, and the sink took the whole text
abbrev pub IsDone : Option Form → Device → Device → Type 0
IsDone None source out = ⊥
IsDone (Some (Replay workers labels)) source out = IsReplay labels source.before source.after out.before out.after
IsDone (Some (Threads workers labels trace)) source out = IsThreaded labels trace source.before source.after out.before out.after
IsDone (Some (Make seed rows sessions)) source out = IsMade seed rows sessions out.before out.after

-- the same where the sink took the front of the text
abbrev pub IsCutShort : Option Form → Device → Device → Type 0
IsCutShort None source out = ⊥
IsCutShort (Some (Replay workers labels)) source out = IsCut labels source.before source.after out.before out.after
IsCutShort (Some (Threads workers labels trace)) source out = IsThreadedCut labels trace source.before source.after out.before out.after
IsCutShort (Some (Make seed rows sessions)) source out = IsMadeCut seed rows sessions out.before out.after

-- the source gave no script, or more bytes than a script may have, and err was told why
abbrev pub IsNoScript : Device → Device → Type 0
IsNoScript source err =
    ((line : List ℕ) × IsRefused source.before source.after line × IsSaid err line)
    ⊎ (IsTooLong source.before source.after × IsSaid err (message_of ending.TooLong))

-- What a call has done that was asked for this form, or for none, and ended with this status.
pub record IsCall (form : Option Form) (source out err : Device) (status : Status) : Type 0 where
  -- the headline
  pub done : status ≡ Done → IsDone form source out
  -- when each other status comes
  pub usage : status ≡ Usage → form ≡ None
  pub misuse : form ≡ None → (status ≡ Usage) ⊎ (status ≡ OutOfMemory)
  pub script : status ≡ Script → (reads_script form ≡ true) × IsNoScript source err
  pub read : status ≡ ReadFault → (reads_script form ≡ true) × HasFailed source
  pub write : status ≡ WriteFault → HasFailed out
  -- what out and err have taken then, and when nothing was read
  pub cut : status ≡ WriteFault → IsCutShort form source out
  pub nothing : status ≢ Done → status ≢ WriteFault → IsUntouched out
  pub unread : reads_script form ≡ false → IsUntouched source
  pub said : (end : Exit) → status ≡ status_of end → status ≢ Script → IsSaid err (message_of end)
  -- what is asked for is done, and bytes that are no script are refused, unless there is no memory
  pub complete : reads_script form ≡ true → HoldsScript source.before → ¬ HasFailed source → ¬ HasFailed out → (status ≡ Done) ⊎ (status ≡ OutOfMemory)
  pub refuses : reads_script form ≡ true → HoldsNone source.before → ¬ HasFailed source → (status ≡ Script) ⊎ (status ≡ OutOfMemory)
  pub makes : is_make form ≡ true → ¬ HasFailed out → (status ≡ Done) ⊎ (status ≡ OutOfMemory)
