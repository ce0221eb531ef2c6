use Rattle.std.proofs.Common.{ap, ◌∙◌}
use Rattle.sg_run.proofs.Turning.{runs_same}
use Rattle.sg_driver.proofs.Joined.{free_as, open_as, goes_as, must_go}
use Rattle.sg_driver.proofs.drives.refine_turn.Goals as goal

pub returns-clause-moved : goal.returns-clause-moved
returns-clause-moved g c =
    let old = c.args.run.now in
    let mid = c.hand_in.new.self in
    let s = c.args.s in
    let same = c.in-Ok-hand_in.ensures.run in
    let stays = c.in-Ok-hand_in.ensures.stays in
    let r = c.engine.ensures.legal in
    goes_as old mid s same stays c.turn.new.self
    (must_go mid c.turn.new.self s c.turn.result r.events (runs_same old.engine mid.engine same r.events r.run) (free_as old mid s same stays c.requires.free)
    (open_as old.engine mid.engine s same ∙ c.requires.open) (ap (λ x. x.delivered) c.in-Ok-hand_in.ensures.job.own) c.turn.ensures.turned)
