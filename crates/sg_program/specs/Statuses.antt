-- How the program ends: its status, its number, and what it says of it.
use Rattle.std.specs.Prelude.{ℕ, Bool, true, false, List, [], ◌∷◌, ◌++◌, Option, Some, None, codes}
use Rattle.sg_program.specs.declared.status.Exit.{Exit}
use Rattle.sg_program.specs.declared.status.Exit.TheVariants as ending
use Rattle.sg_program.specs.declared.status.Status.{Status}
use Rattle.sg_program.specs.declared.status.Status.TheVariants.{Done, Usage, Script, ReadFault, WriteFault, OutOfMemory}

abbrev pub number_of : Status → ℕ
number_of Done = 0
number_of Usage = 1
number_of Script = 2
number_of ReadFault = 3
number_of WriteFault = 4
number_of OutOfMemory = 5

-- a script that is refused, and one that is too long, have one status
abbrev pub status_of : Exit → Status
status_of ending.Done = Done
status_of ending.Usage = Usage
status_of (ending.Refused line) = Script
status_of ending.TooLong = Script
status_of ending.ReadFault = ReadFault
status_of ending.WriteFault = WriteFault
status_of ending.OutOfMemory = OutOfMemory

-- each message is a line; that of a script that is refused comes with the refusal
abbrev pub line_of : List ℕ → List ℕ
line_of text = text ++ 10 ∷ []

abbrev pub usage : List ℕ
usage = line_of (codes "usage: spatial_cli replay [--workers N] [--labels] | threads [--workers N] [--labels] [--trace] | make SEED ROWS SESSIONS")

abbrev pub message_of : Exit → List ℕ
message_of ending.Done = []
message_of ending.Usage = usage
message_of (ending.Refused line) = line.items
message_of ending.TooLong = line_of (codes "script too long")
message_of ending.ReadFault = line_of (codes "read fault")
message_of ending.WriteFault = line_of (codes "write fault")
message_of ending.OutOfMemory = line_of (codes "out of memory")

-- an end before there is a script: what was read is none, or nothing could be read, for a fault or for want of memory
abbrev pub is_of_reading : Exit → Bool
is_of_reading (ending.Refused line) = true
is_of_reading ending.TooLong = true
is_of_reading ending.ReadFault = true
is_of_reading ending.OutOfMemory = true
is_of_reading ending.Done = false
is_of_reading ending.Usage = false
is_of_reading ending.WriteFault = false

-- what is said of a script that is refused
abbrev pub refusal_in : Exit → Option (List ℕ)
refusal_in (ending.Refused line) = Some line.items
refusal_in ending.Done = None
refusal_in ending.Usage = None
refusal_in ending.TooLong = None
refusal_in ending.ReadFault = None
refusal_in ending.WriteFault = None
refusal_in ending.OutOfMemory = None
