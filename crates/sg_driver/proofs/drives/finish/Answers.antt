use Rattle.sg_modes.proofs.BoolLaws.{clash}
use Rattle.sg_driver.proofs.Loops.{way_more}
use Rattle.sg_driver.proofs.Rounds.{one_left, round_lowers}
use Rattle.sg_driver.proofs.drives.finish.Goals as goal

pub rounds-smaller : goal.rounds-smaller
rounds-smaller g c =
    let left = one_left c.rounds.run (λ all. clash c.all_ended.result (c.all_ended.ensures.all.1 all) c.rounds-test.true) in
    round_lowers c.rounds.run c.drive_round.new.run c.drive_round.ensures.legal c.drive_round.ensures.leads left.0 left.1 left.2

pub rounds-preserved : goal.rounds-preserved
rounds-preserved g c = way_more c.args.run.now c.rounds.run c.drive_round.new.run c.rounds.invariant c.drive_round.ensures.leads
