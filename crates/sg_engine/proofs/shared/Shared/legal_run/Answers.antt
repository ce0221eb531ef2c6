use Rattle.std.proofs.Common.{subst}
use Rattle.sg_engine.specs.Journals.{IsLegalRun}
use Rattle.sg_engine.proofs.shared.Shared.legal_run.Goals as goal

pub returns : goal.returns
returns c = subst IsLegalRun c.self.view_is (record { stage = c.self.invariant.staged; events = c.self.invariant.events; run = c.self.invariant.run })
