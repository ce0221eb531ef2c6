-- What is known of a line that was read.
use Rattle.std.specs.Prelude.{◌≡◌, ◌≤◌}
use Rattle.sg_shape.specs.Sound.{IsSound}
use Rattle.sg_modes.specs.Priorities.{IsPriority}
use Rattle.sg_plain.specs.Rows.{keys_of}
use Rattle.sg_plain.specs.Sat.{IsSoundStatement}
use Rattle.sg_script.specs.declared.words.Line.{Line}
use Rattle.sg_script.specs.declared.words.Line.TheVariants as line
use Rattle.sg_script.specs.declared.words.Place.{Place}
use Rattle.sg_script.specs.declared.words.Place.TheVariants as place
use Rattle.sg_script.specs.Plans.{Plan, IsOrderOf, IsWindow, above_all, numbers_of}

-- its window is one, its key or number is above those of the script so far, its priority is one, its shapes are
-- sound, its turns are of the script's sessions, and a transaction begins where none is open
abbrev pub Fits : Place → Plan → Line → Type 0
Fits p plan (line.Grid g) = Unit {0}
Fits p plan (line.Window n) = IsWindow n
Fits p plan (line.Row k s) = (above_all (keys_of plan.rows) ≤ k) × IsSound s
Fits p plan (line.Session n priority) = (above_all (numbers_of plan.sessions) ≤ n) × IsPriority priority
Fits p plan line.Begin = p ≡ place.Between
Fits p plan (line.Statement s) = IsSoundStatement s
Fits p plan (line.End e) = Unit {0}
Fits p plan (line.Schedule turns) = IsOrderOf (numbers_of plan.sessions) turns
