use Rattle.std.proofs.Common.{ap, refl, subst, sym}
use Rattle.sg_engine.specs.declared.steps.Step.TheVariants as step
use Rattle.sg_engine.specs.declared.preparing.Prepared.{Prepared}
use Rattle.sg_engine.specs.Outside.{outside}
use Rattle.sg_engine.specs.Preparing.{Prepares, IsNoJob}
use Rattle.sg_engine.proofs.Outer.{stepped_out, writes_out, steps_out, fails_out}
use Rattle.sg_engine.proofs.Refines.{some_left}
use Rattle.sg_engine.proofs.shared.Shared.work_on.Goals as goal

pub returns-then-has_come_to_writes-clause-ok : goal.returns-then-has_come_to_writes-clause-ok
returns-then-has_come_to_writes-clause-ok g c = steps_out c.args.s c.in_range.ensures c.args.self.now c.args.self.now c.write.new.self c.write.result refl c.write.ensures.ok

pub returns-in-Answer-clause-ok : goal.returns-in-Answer-clause-ok
returns-in-Answer-clause-ok g c =
    let old = c.args.self.now in
    let mid = c.prepare.new.self in
    let prepared = subst (λ (it : Prepared). Prepares c.args.s old mid it) c.in-Answer.is c.in_ok-answer.ensures.ok in
    steps_out c.args.s c.in_range.ensures old mid c.reply.new.self c.reply.result (ap outside prepared.0) c.reply.ensures.ok

pub returns-in-Job-clause-ok : goal.returns-in-Job-clause-ok
returns-in-Job-clause-ok g c =
    let old = c.args.self.now in
    let mid = c.prepare.new.self in
    let prepared = subst (λ (it : Prepared). Prepares c.args.s old mid it) c.in-Job.is c.in_ok-answer.ensures.ok in
    stepped_out c.args.s c.in_range.ensures old mid (step.Job c.in-Job.job)
    (record { free = c.requires.free; read = c.requires.read; run = prepared.0; set = prepared.1; job_for = prepared.2; undelivered = prepared.3 })

pub returns-in-Writes-clause-ok : goal.returns-in-Writes-clause-ok
returns-in-Writes-clause-ok g c =
    let old = c.args.self.now in
    let mid = c.prepare.new.self in
    let prepared = subst (λ (it : Prepared). Prepares c.args.s old mid it) c.in-Writes.is c.in_ok-answer.ensures.ok in
    steps_out c.args.s c.in_range.ensures old mid c.write-in-Writes.new.self c.write-in-Writes.result
    (writes_out c.args.s old mid prepared.0 prepared.1 prepared.2) c.write-in-Writes.ensures.ok

pub returns-in-Writes-clause-err : goal.returns-in-Writes-clause-err
returns-in-Writes-clause-err g c =
    let old = c.args.self.now in
    let mid = c.prepare.new.self in
    let prepared = subst (λ (it : Prepared). Prepares c.args.s old mid it) c.in-Writes.is c.in_ok-answer.ensures.ok in
    fails_out c.args.s c.in_range.ensures old mid c.write-in-Writes.new.self c.write-in-Writes.result
    (writes_out c.args.s old mid prepared.0 prepared.1 prepared.2) c.write-in-Writes.ensures.err

pub returns-then-has_come_to_writes-clause-refines : goal.returns-then-has_come_to_writes-clause-refines
returns-then-has_come_to_writes-clause-refines g c = λ x. some_left c.args.self.now c.args.s c.in_range.ensures (c.has_come_to_writes.ensures.left c.if-has_come_to_writes.true) x

pub returns-in-Answer-clause-refines : goal.returns-in-Answer-clause-refines
returns-in-Answer-clause-refines g c = λ x.
    let quiet = subst (λ (it : Prepared). IsNoJob it) (sym c.in-Answer.is) tt in
    some_left c.args.self.now c.args.s c.in_range.ensures (c.in_ok-answer.ensures.left quiet) x

pub returns-in-Writes-clause-refines : goal.returns-in-Writes-clause-refines
returns-in-Writes-clause-refines g c = λ x.
    let quiet = subst (λ (it : Prepared). IsNoJob it) (sym c.in-Writes.is) tt in
    some_left c.args.self.now c.args.s c.in_range.ensures (c.in_ok-answer.ensures.left quiet) x
