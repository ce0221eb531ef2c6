use Rattle.std.specs.Prelude.{◌≡◌, ◌+◌, List, ℕ, slice_get}
use Rattle.std.proofs.Common.{sym, ap, ◌∙◌, subst, arith}
use Rattle.sg_run.specs.Runs.{RunShown}
use Rattle.sg_script.specs.Plans.{Plan}
use Rattle.sg_driver.proofs.Loops.{IsAmid, amid_more, amid_none, amid_script}
use Rattle.sg_driver.proofs.drives.drive_order.Goals as goal
use Rattle.sg_driver.proofs.drives.drive_order.Goals.{in-Some, in_default}

pub loop-place-preserved : goal.loop-place-preserved
loop-place-preserved g c =
    let old = c.args.run.now in
    let place = c.loop-place.place in
    let order_is : c.order-in-loop-place.result.now ≡ old.script.order =
    c.order-in-loop-place.ensures.all ∙ ap (λ (x : Plan). x.order) (c.script-in-loop-place.ensures.script ∙ amid_script old.script.order old c.len-count.result place c.loop-place.run c.loop-place.invariant) in
    elim c.match-at.branch [
      | in-Some w ↦
          subst (λ (v : RunShown). IsAmid old.script.order old c.len-count.result (place + 1) v) (sym w.run-is)
          (amid_more old.script.order old c.len-count.result place w.in-Some.s c.loop-place.run w.drive_turn.new.run c.loop-place.invariant
          (ap (λ (xs : List ℕ). slice_get xs place) (sym order_is) ∙ (sym c.at.ensures ∙ w.in-Some.is)) w.drive_turn.ensures)
      | in_default w ↦
          absurd (amid_none old.script.order old c.len-count.result place c.loop-place.run c.loop-place.invariant (let lt = c.loop-place-test.true in omega arith)
          (ap (λ (xs : List ℕ). slice_get xs place) (sym order_is) ∙ (sym c.at.ensures ∙ w.in_default.is)))
    ]
