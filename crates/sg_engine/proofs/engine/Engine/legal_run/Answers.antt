use Rattle.std.proofs.Common.{subst}
use Rattle.sg_engine.specs.Journals.{IsLegalRun}
use Rattle.sg_engine.specs.Outside.{outside}
use Rattle.sg_engine.proofs.Outer.{run_out}
use Rattle.sg_engine.proofs.engine.Engine.legal_run.Goals as goal

pub returns : goal.returns
returns g c =
    let run = c.legal_run.ensures in
    subst IsLegalRun c.self.view_is (record { stage = run.stage; events = run.events; run = run_out run.events c.self.inside.shared run.run })
