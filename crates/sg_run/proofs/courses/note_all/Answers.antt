use Rattle.std.proofs.Common.{◌∙◌, sym, ap, subst}
use Rattle.sg_run.specs.declared.courses.Course.{Course}
use Rattle.sg_run.specs.Ends.{end_by}
use Rattle.sg_run.specs.Courses.{course_in, with_ends, HasRoomFor}
use Rattle.sg_run.proofs.Noting.{note_room, note_next}
use Rattle.sg_run.proofs.courses.note_all.Goals as goal

pub note_one-requires-clause-room : goal.note_one-requires-clause-room
note_one-requires-clause-room c =
    λ u is. subst (λ (it : Course). HasRoomFor (end_by u c.label-item.result) it) (sym (c.loop-label.invariant.each u is))
    (note_room c.args.labels.now c.loop-label.label-index c.label-item.result c.loop-label-test.true c.label-item.is u (course_in c.args.courses.now u) (c.requires.room u is))

pub loop-label-preserved : goal.loop-label-preserved
loop-label-preserved c = record {
  size = c.note_one.auto.courses ∙ c.loop-label.invariant.size;
  each = λ u is.
      c.note_one.ensures u is
      ∙ (ap (λ (it : Course). with_ends (end_by u c.label-item.result) it) (c.loop-label.invariant.each u is)
      ∙ note_next c.args.labels.now c.loop-label.label-index c.label-item.result c.loop-label-test.true c.label-item.is u (course_in c.args.courses.now u));
}
