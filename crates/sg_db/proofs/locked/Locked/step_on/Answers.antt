use Rattle.std.proofs.Common.{◌≡◌, true, false, sym, ◌∙◌}
use Rattle.sg_db.proofs.Knowing.{is_open}
use Rattle.sg_db.proofs.Stepped.{step_gone, got, saw, told_so}
use Rattle.sg_db.proofs.locked.Locked.step_on.Goals as goal

pub tell_answer-requires-clause-answer : goal.tell_answer-requires-clause-answer
tell_answer-requires-clause-answer g c κs within =
    let v = c.args.token.now.known in
    let w = c.step.new.token.known in
    saw c.args.s v w (got c.args.s c.args.self.now c.step.new.self v w c.in-Ok.step _ c.requires.knows c.in-Ok.ensures.ok (sym c.going_by.ensures ∙ c.in-None.is))

pub returns-in-Some-clause-advanced : goal.returns-in-Some-clause-advanced
returns-in-Some-clause-advanced g c =
    let v = c.args.token.now.known in
    step_gone c.args.s c.args.self.now c.step.new.self v c.step.new.token.known c.in-Ok.step _ c.requires.knows c.requires.asking c.in-Ok.ensures.ok
    (λ idle. let q : true ≡ false = sym (is_open c.args.s c.args.self.now v c.requires.knows c.requires.asking) ∙ c.in-Ok.ensures.idle.0 idle in absurd (cc))
    c.in-Some.going (sym c.going_by.ensures ∙ c.in-Some.is)

pub returns-in-None-clause-advanced : goal.returns-in-None-clause-advanced
returns-in-None-clause-advanced g c =
    let v = c.args.token.now.known in
    let w = c.step.new.token.known in
    told_so c.args.s v w c.tell_answer.new.token.known c.tell_answer.result c.requires.asking (got c.args.s c.args.self.now c.step.new.self v w c.in-Ok.step _ c.requires.knows c.in-Ok.ensures.ok (sym c.going_by.ensures ∙ c.in-None.is)) c.tell_answer.ensures.told
