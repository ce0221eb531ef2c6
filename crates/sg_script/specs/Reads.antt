-- What a call that reads a script returned, and what the grammar says.
use Rattle.std.specs.Prelude.{◌≡◌, Result, Ok, Err}
use Rattle.sg_script.specs.declared.faults.ReadScript.{ReadScript}
use Rattle.sg_script.specs.declared.faults.ReadScript.TheVariants.{Fault, OutOfMemory}
use Rattle.sg_script.specs.declared.faults.ScriptFault.{ScriptFault}
use Rattle.sg_script.specs.Plans.{Plan}

-- the script or the fault is that of the grammar; want of memory says nothing
abbrev pub Reads : Result Plan ReadScript → Result Plan ScriptFault → Type 0
Reads (Ok plan) read = read ≡ Ok plan
Reads (Err (Fault f)) read = read ≡ Err f
Reads (Err OutOfMemory) read = Unit {0}
