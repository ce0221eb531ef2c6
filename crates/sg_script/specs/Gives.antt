-- What a call that reads a part of a line returned.
use Rattle.std.specs.Prelude.{◌≡◌, Result, Ok, Err}
use Rattle.sg_script.specs.declared.faults.ReadLine.{ReadLine}
use Rattle.sg_script.specs.declared.faults.ReadLine.TheVariants.{Fault, OutOfMemory}
use Rattle.sg_script.specs.declared.faults.ScriptKind.{ScriptKind}

-- seen by view, it is what the grammar says; want of memory says nothing
abbrev pub Gives : {X Y : Type 0} → (X → Y) → Result X ReadLine → Result Y ScriptKind → Type 0
Gives view (Ok x) read = read ≡ Ok (view x)
Gives view (Err (Fault k)) read = read ≡ Err k
Gives view (Err OutOfMemory) read = Unit {0}
