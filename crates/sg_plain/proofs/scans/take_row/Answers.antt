use Rattle.std.proofs.Common.{inr, refl}
use Rattle.std.proofs.lemmas.Bool.{iff_false}
use Rattle.sg_plain.proofs.scans.take_row.Goals as goal

pub returns-then-not-branch : goal.returns-then-not-branch
returns-then-not-branch g c = inr (iff_false c.in_ok-is_sat.ensures c.if-not-branch.true, refl)
