-- A legal history follows the script that it tells.
use Rattle.std.specs.Prelude.{List}
use Rattle.sg_trace.specs.Traces.{Stage, Event}
use Rattle.sg_trace.specs.Legal.{IsStage, IsLegal}
use Rattle.sg_serial.proofs.Told.{tells}
use Rattle.sg_history.specs.Histories.{IsHistory}

pub is_history : (w : Stage) (es : List Event) → IsStage w → IsLegal w es → IsHistory w es
is_history w es staged l = record { stage = staged; legal = l; follows = tells w es l }
