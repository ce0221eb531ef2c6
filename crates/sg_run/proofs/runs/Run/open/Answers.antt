use Rattle.std.proofs.Common.{ℕ, List, refl, ◌∙◌, subst}
use Rattle.sg_modes.specs.Sessions.{IsSession}
use Rattle.sg_script.specs.declared.sessions.SessionScript.{SessionScript}
use Rattle.sg_run.specs.Courses.{course_in}
use Rattle.sg_run.specs.Opens.{HasRoom, transactions_at}
use Rattle.sg_run.proofs.Opened.{stage_is, open_inside, open_past}
use Rattle.sg_run.proofs.runs.Run.open.Goals as goal

pub invariant_of-result : goal.invariant_of-result
invariant_of-result g c =
    let h = c.in_ok-engine.ensures in
    let courses = c.in_ok-courses.courses.items in
    let room = subst (λ (sessions : List SessionScript). (s : ℕ) → IsSession s → HasRoom (transactions_at sessions s) (course_in courses s)) c.sessions.ensures.all c.in_ok-courses.ensures.room in
    open_inside c.args.script c.in_ok-engine.engine courses c.in_ok-courses.ensures.length h.staged
    (stage_is c.args.script c.in_ok-engine.engine.stage c.settings-settings.result.now c.in_ok-rows.rows c.priorities_of-priorities.result h.stage c.settings-settings.ensures.all (c.in_ok-rows.ensures ∙ c.rows.ensures) c.priorities_of-priorities.ensures.each)
    h.run room

pub returns : goal.returns
returns g c =
    let h = c.in_ok-engine.ensures in
    let courses = c.in_ok-courses.courses.items in
    let room = subst (λ (sessions : List SessionScript). (s : ℕ) → IsSession s → HasRoom (transactions_at sessions s) (course_in courses s)) c.sessions.ensures.all c.in_ok-courses.ensures.room in
    let stage = stage_is c.args.script c.in_ok-engine.engine.stage c.settings-settings.result.now c.in_ok-rows.rows c.priorities_of-priorities.result h.stage c.settings-settings.ensures.all (c.in_ok-rows.ensures ∙ c.rows.ensures) c.priorities_of-priorities.ensures.each in
    record {
      script = refl;
      run = h.run;
      past = open_past c.args.script c.in_ok-engine.engine courses c.in_ok-courses.ensures.length h.staged stage h.run room;
      jobs = h.jobs;
      legal = (open_inside c.args.script c.in_ok-engine.engine courses c.in_ok-courses.ensures.length h.staged stage h.run room).run;
    }
