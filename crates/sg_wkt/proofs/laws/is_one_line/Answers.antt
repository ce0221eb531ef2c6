use Rattle.sg_wkt.proofs.LawProofs.{canonical-printable, canonical-one_line}
use Rattle.sg_wkt.proofs.laws.is_one_line.Goals as goal

pub returns-clause-printable : goal.returns-clause-printable
returns-clause-printable c = canonical-printable

pub returns-clause-one_line : goal.returns-clause-one_line
returns-clause-one_line c = canonical-one_line
