use Rattle.std.proofs.Common.{◌+◌, ap, ◌∙◌, arith}
use Rattle.sg_workload.specs.declared.generator.Generator.{Generator}
use Rattle.sg_workload.specs.Workload.{row}
use Rattle.sg_workload.proofs.Draws.{made_all, next_rises, row_more}
use Rattle.sg_workload.proofs.scripts.rows_of.Goals.{else-loop-key-test, then-loop-key-test+in_ok-shape+in_ok-push+else-key-rows}
use Rattle.sg_workload.proofs.scripts.rows_of.Goals as goal

pub push-requires-clause-above : goal.push-requires-clause-above
push-requires-clause-above c = next_rises c.loop-key.table c.loop-key.key _ _ c.loop-key.invariant.0

pub returns : goal.returns
returns c = elim c.loop-key-test.branch [
  | else-loop-key-test w ↦
      let all = made_all row c.loop-key.table c.loop-key.key c.args.generator.now.state c.loop-key.generator.state c.args.rows c.loop-key.invariant.0 (omega arith) in
      record { rows = w.table-is ∙ all.0; state = ap (λ (g : Generator). g.state) w.generator-is ∙ all.1 }
  | then-loop-key-test+in_ok-shape+in_ok-push+else-key-rows w ↦
      let last =
      row_more c.loop-key.table w.push.new.self c.loop-key.key c.args.generator.now.state c.loop-key.generator.state w.rect.new.self.state w.in_ok-shape.shape
      c.loop-key.invariant.0 w.in_ok-push.ensures.ok w.in_ok-shape.ensures.shape w.in_ok-shape.ensures.state in
      let all = made_all row w.push.new.self (c.loop-key.key + 1) c.args.generator.now.state w.rect.new.self.state c.args.rows last (omega arith) in
      record { rows = w.table-is ∙ all.0; state = ap (λ (g : Generator). g.state) w.generator-is ∙ all.1 }
]
