use Rattle.std.specs.Prelude.{◌+◌, slice_get, length}
use Rattle.std.proofs.Common.{sym, ap, ◌∙◌, subst, arith}
use Rattle.sg_run.specs.Runs.{RunShown}
use Rattle.sg_script.specs.Plans.{Plan, numbers_of}
use Rattle.sg_driver.proofs.Loops.{IsAmid, amid_more, amid_none, amid_script}
use Rattle.sg_driver.proofs.drives.drive_round.Goals as goal
use Rattle.sg_driver.proofs.drives.drive_round.Goals.{in-Some, in_default}

pub loop-place-preserved : goal.loop-place-preserved
loop-place-preserved g c =
    let old = c.args.run.now in
    let list = numbers_of c.args.run.now.script.sessions in
    let count = length c.sessions-count.result.now in
    let place = c.loop-place.place in
    elim c.match-member.branch [
      | in-Some w ↦
          subst (λ (v : RunShown). IsAmid list old count (place + 1) v) (sym w.run-is)
          (amid_more list old count place w.in-Some.s c.loop-place.run w.drive_turn.new.run c.loop-place.invariant
          (ap (λ (x : Plan). slice_get (numbers_of x.sessions) place) (sym (amid_script list old count place c.loop-place.run c.loop-place.invariant)) ∙ (sym c.member.ensures ∙ w.in-Some.is)) w.drive_turn.ensures)
      | in_default w ↦
          absurd (amid_none list old count place c.loop-place.run c.loop-place.invariant (let lt = c.loop-place-test.true in omega arith)
          (ap (λ (x : Plan). slice_get (numbers_of x.sessions) place) (sym (amid_script list old count place c.loop-place.run c.loop-place.invariant)) ∙ (sym c.member.ensures ∙ w.in_default.is)))
    ]
