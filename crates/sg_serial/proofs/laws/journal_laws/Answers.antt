use Rattle.sg_serial.proofs.Serials.{serial_in, serial}
use Rattle.sg_serial.proofs.Alike.{journals_alike}
use Rattle.sg_serial.proofs.Ordered.{script_order}
use Rattle.sg_serial.proofs.Told.{tells}
use Rattle.sg_serial.proofs.laws.journal_laws.Goals as goal

pub returns : goal.returns
returns c = record { serial_in = λ w es r l. serial_in w r es l; serial = λ w es r l. serial w r es l; in_order = script_order; told = tells; alike = journals_alike }
