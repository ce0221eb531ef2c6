-- What the words ask for.
use Rattle.std.specs.Prelude.{Bool, true, false, Option, Some, None}
use Rattle.sg_command.specs.declared.forms.Form.{Form}
use Rattle.sg_command.specs.declared.forms.Form.TheVariants.{Replay, Threads, Make}

-- a replay, or none
abbrev pub as_replay : Option Form → Option Form
as_replay None = None
as_replay (Some (Replay workers labels)) = Some (Replay workers labels)
as_replay (Some (Threads workers labels trace)) = None
as_replay (Some (Make seed rows sessions)) = None

-- a script to be made, or none
abbrev pub as_make : Option Form → Option Form
as_make None = None
as_make (Some (Replay workers labels)) = None
as_make (Some (Threads workers labels trace)) = None
as_make (Some (Make seed rows sessions)) = Some (Make seed rows sessions)

-- a replay, or the sessions in threads: a script is read
abbrev pub reads_script : Option Form → Bool
reads_script None = false
reads_script (Some (Replay workers labels)) = true
reads_script (Some (Threads workers labels trace)) = true
reads_script (Some (Make seed rows sessions)) = false

-- a script is made
abbrev pub is_make : Option Form → Bool
is_make None = false
is_make (Some (Replay workers labels)) = false
is_make (Some (Threads workers labels trace)) = false
is_make (Some (Make seed rows sessions)) = true
