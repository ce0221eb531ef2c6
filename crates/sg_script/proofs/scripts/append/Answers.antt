use Rattle.std.proofs.Common.{◌≡◌, ◌∙◌, Some, get_or, sym, arith}
use Rattle.std.proofs.lemmas.Option.{slice_get-get_or}
use Rattle.sg_script.proofs.Lasts.{turn_put, put_each}
use Rattle.sg_script.proofs.scripts.append.Goals.{in-Some+in_ok-push, in_default}
use Rattle.sg_script.proofs.scripts.append.Goals as goal

pub returns-in_err-push-clause-each : goal.returns-in_err-push-clause-each
returns-in_err-push-clause-each c numbers old turns =
    put_each numbers c.args.order.now c.push.new.self c.args.turns.now c.loop-place.place (c.in_err-push.ensures.err ∙ c.loop-place.invariant) old turns

pub loop-place-preserved : goal.loop-place-preserved
loop-place-preserved c = elim c.match-at.branch [
  | in-Some+in_ok-push w ↦
      turn_put c.args.order.now c.loop-place.order c.match-at.order c.args.turns.now c.loop-place.place w.in-Some.session c.loop-place.invariant
      (sym c.at.ensures ∙ w.in-Some.is) (w.order-is ∙ w.in_ok-push.ensures.ok)
  | in_default w ↦
      let some : c.at.result ≡ Some (get_or c.args.turns.now c.loop-place.place 0) = c.at.ensures ∙ slice_get-get_or c.args.turns.now c.loop-place.place 0 (omega arith) in
      absurd (w.in_default.not-Some _ some)
]

pub returns-clause-each : goal.returns-clause-each
returns-clause-each c numbers old turns =
    put_each numbers c.args.order.now c.loop-place.order c.args.turns.now c.loop-place.place c.loop-place.invariant old turns
