use Rattle.std.proofs.Common.{rules, inl, inr}
use Rattle.sg_driver.proofs.Joined.{goes_as}
use Rattle.sg_driver.proofs.drives.drive_turn.Goals as goal

pub returns-in-Job : goal.returns-in-Job
returns-in-Job g c =
    let given = c.in-Job.ensures.turned in
    record {
      session = search rules;
      moves = inr (given.0, inl (goes_as c.args.run.now c.turn.new.self c.args.s given.1.engine.run given.1.stays c.refine_turn.new.run c.refine_turn.ensures.moved));
      legal = c.refine_turn.ensures.legal;
    }
