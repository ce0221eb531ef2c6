use Rattle.std.proofs.Common.{◌≡◌, true, [], ◌++◌, length, take, drop, refl, sym, subst, inl, inr, ◌⊎◌}
use Rattle.sg_trace.specs.declared.labels.Cause.{Cause}
use Rattle.sg_trace.specs.declared.labels.Cause.TheVariants.{Asked, NoMemory}
use Rattle.sg_trace.specs.Traces.{Rollback}
use Rattle.sg_trace.specs.Scripts.{is_plain}
use Rattle.sg_run.specs.Runs.{RunShown, Due}
use Rattle.sg_run.specs.Inside.{run_of}
use Rattle.sg_run.specs.Turns.{GoesBy}
use Rattle.sg_run.proofs.Turning.{inside_by, goes_by}
use Rattle.sg_run.proofs.runs.Run.roll_back.Goals as goal

pub invariant_of-self : goal.invariant_of-self
invariant_of-self g c =
    let v = c.self.inside in
    inside_by v.script v.engine c.rollback.new.self v.courses.items c.self.invariant (Rollback c.args.s c.args.cause) [] (c.rollback.ensures.run)
    (subst (λ (r : RunShown). Due r (Rollback c.args.s c.args.cause)) (sym c.self.view_is) c.requires.due)
    c.deref_mut.result.now c.deref_mut.ensures.value c.trace.result.now.items c.trace-2.result.now.items c.trace.ensures c.trace-2.ensures c.len-from.result c.len-from.ensures
    c.note.new.courses c.note.auto.courses c.note.ensures v.courses.len c.deref_mut.ensures.len (drop (length c.note.new.courses) v.courses.items)

pub returns : goal.returns
returns g c =
    let v = c.self.inside in
    let due = subst (λ (r : RunShown). Due r (Rollback c.args.s c.args.cause)) (sym c.self.view_is) c.requires.due in
    let rest = drop (length c.note.new.courses) v.courses.items in
    record {
      goes =
          subst (λ (r : RunShown). GoesBy c.args.s (Rollback c.args.s c.args.cause) [] r (run_of v.script c.rollback.new.self (take v.courses.len (c.note.new.courses ++ rest)))) c.self.view_is
          (goes_by v.script v.engine c.rollback.new.self v.courses.items c.self.invariant (Rollback c.args.s c.args.cause) [] c.rollback.ensures.run due
          c.deref_mut.result.now c.deref_mut.ensures.value c.trace.result.now.items c.trace-2.result.now.items c.trace.ensures c.trace-2.ensures c.len-from.result c.len-from.ensures
          c.note.new.courses c.note.auto.courses c.note.ensures v.courses.len c.deref_mut.ensures.len rest c.args.s refl (kind c.args.cause));
      legal = (
          inside_by v.script v.engine c.rollback.new.self v.courses.items c.self.invariant (Rollback c.args.s c.args.cause) [] c.rollback.ensures.run due
          c.deref_mut.result.now c.deref_mut.ensures.value c.trace.result.now.items c.trace-2.result.now.items c.trace.ensures c.trace-2.ensures c.len-from.result c.len-from.ensures
          c.note.new.courses c.note.auto.courses c.note.ensures v.courses.len c.deref_mut.ensures.len rest
          ).run;
    }
  where
    kind : (why : Cause) → (is_plain (Rollback c.args.s why) ≡ true) ⊎ (Rollback c.args.s why ≡ Rollback c.args.s NoMemory)
    kind Asked = inl refl
    kind NoMemory = inr refl
