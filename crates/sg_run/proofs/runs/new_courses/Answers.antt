use Rattle.std.proofs.Common.{◌+◌, ◌≤◌, sym, subst}
use Rattle.sg_run.proofs.Opening.{AreRoomy, roomy_more}
use Rattle.sg_run.proofs.runs.new_courses.Goals as goal

pub loop-place-preserved : goal.loop-place-preserved
loop-place-preserved c =
    subst (AreRoomy c.args.sessions.now (c.loop-place.place + 1)) (sym c.in_ok-push.ensures.items)
    (roomy_more c.args.sessions.now c.loop-place.place c.loop-place.courses.items c.in_ok-course.course (record {
      over = c.in_ok-course.ensures.over;
      numbers = c.in_ok-course.ensures.numbers;
      over_room = subst (λ n. n ≤ c.in_ok-course.course.over.spare) c.count-transactions.ensures c.in_ok-course.ensures.over_room;
      number_room = subst (λ n. n ≤ c.in_ok-course.course.numbers.spare) c.count-transactions.ensures c.in_ok-course.ensures.number_room;
    }) c.loop-place.invariant)
