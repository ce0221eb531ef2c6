use Rattle.std.proofs.Common.{sym, subst, IsTrue}
use Rattle.std.specs.Prelude.{IfOk, ◌↔◌}
use Rattle.sg_plain.specs.Sat.{Sat}
use Rattle.sg_plain.specs.declared.statements.Test.{Test}
use Rattle.sg_plain.proofs.scans.is_sat.Goals as goal

pub returns-in-Relate : goal.returns-in-Relate
returns-in-Relate g c = subst (λ (t : Test). IfOk c.satisfies.result (λ yes. IsTrue yes ↔ Sat t c.args.row.now c.args.shape.now)) (sym c.in-Relate.is) c.satisfies.ensures
