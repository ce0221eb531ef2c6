use Rattle.std.proofs.Common.{◌∙◌, ap, add-one, take, arith}
use Rattle.sg_script.specs.declared.sessions.SessionScript.{SessionScript}
use Rattle.sg_modes.specs.Sessions.{with_session}
use Rattle.sg_script.specs.Plans.{numbers_of}
use Rattle.sg_script.proofs.SetLemmas.{set_more}
use Rattle.sg_script.proofs.scripts.set_of.Goals as goal

pub loop-told-preserved : goal.loop-told-preserved
loop-told-preserved c =
    c.with-set.ensures ∙ (ap (λ ns. with_session ns c.told-item.result.session) c.loop-told.invariant
    ∙ (ap (λ (s : SessionScript). with_session (numbers_of (take c.loop-told.told-index c.args.sessions.now)) s.session) c.told-item.is
    ∙ rw (add-one) (set_more 0 c.args.sessions.now c.loop-told.told-index c.told-item.result (omega arith) c.requires)))
