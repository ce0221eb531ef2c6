-- Journals of legal traces under two settings.
use Rattle.std.proofs.Common.{sym, subst}
use Rattle.sg_plain.specs.Rows.{Rows}
use Rattle.sg_trace.specs.Replies.{SerialIn}
use Rattle.sg_trace.specs.Traces.{state}
use Rattle.sg_trace.specs.Legal.{journal}
use Rattle.sg_trace.proofs.Alike.{journals_tell_alike}
use Rattle.sg_serial.specs.Claims.{JournalsAreAlike}
use Rattle.sg_serial.proofs.Serials.{serial_in}

pub journals_alike : JournalsAreAlike
journals_alike v w ds es rv rw' same dl el asks =
    let other = subst (λ (rows : Rows). SerialIn w.settings rows (journal w es) (state w es).rows) (sym same) (serial_in w rw' es el) in
    journals_tell_alike v.settings w.settings v.opening (state v ds).rows (state w es).rows (journal v ds) (journal w es) asks (serial_in v rv ds dl) other
