use Rattle.std.proofs.Common.{suc, [], ◌++◌, length, take, drop, refl, sym, subst, inl}
use Rattle.sg_trace.specs.Traces.{Commit}
use Rattle.sg_run.specs.Runs.{RunShown}
use Rattle.sg_run.specs.Inside.{run_of}
use Rattle.sg_run.specs.Nexts.{MayGoOn}
use Rattle.sg_run.specs.declared.turns.Next.TheVariants as next
use Rattle.sg_run.specs.Turns.{GoesBy}
use Rattle.sg_run.proofs.Turning.{inside_by, goes_by}
use Rattle.sg_run.proofs.runs.Run.commit.Goals as goal

pub invariant_of-self : goal.invariant_of-self
invariant_of-self g c =
    let v = c.self.inside in
    let e = Commit c.args.s (suc (length v.engine.journal)) in
    inside_by v.script v.engine c.commit-place.new.self v.courses.items c.self.invariant e [] c.commit-place.ensures.run
    (subst (λ (r : RunShown). MayGoOn r c.args.s next.Commit) (sym c.self.view_is) c.requires.next (suc (length v.engine.journal)))
    c.deref_mut.result.now c.deref_mut.ensures.value c.trace.result.now.items c.trace-2.result.now.items c.trace.ensures c.trace-2.ensures c.len-from.result c.len-from.ensures
    c.note.new.courses c.note.auto.courses c.note.ensures v.courses.len c.deref_mut.ensures.len (drop (length c.note.new.courses) v.courses.items)

pub returns : goal.returns
returns g c =
    let v = c.self.inside in
    let e = Commit c.args.s (suc (length v.engine.journal)) in
    let due = subst (λ (r : RunShown). MayGoOn r c.args.s next.Commit) (sym c.self.view_is) c.requires.next (suc (length v.engine.journal)) in
    let rest = drop (length c.note.new.courses) v.courses.items in
    record {
      gone = record {
        event = e;
        victims = [];
        goes =
            subst (λ (r : RunShown). GoesBy c.args.s e [] r (run_of v.script c.commit-place.new.self (take v.courses.len (c.note.new.courses ++ rest)))) c.self.view_is
            (goes_by v.script v.engine c.commit-place.new.self v.courses.items c.self.invariant e [] c.commit-place.ensures.run due
            c.deref_mut.result.now c.deref_mut.ensures.value c.trace.result.now.items c.trace-2.result.now.items c.trace.ensures c.trace-2.ensures c.len-from.result c.len-from.ensures
            c.note.new.courses c.note.auto.courses c.note.ensures v.courses.len c.deref_mut.ensures.len rest c.args.s refl (inl refl));
      };
      legal = (
          inside_by v.script v.engine c.commit-place.new.self v.courses.items c.self.invariant e [] c.commit-place.ensures.run due
          c.deref_mut.result.now c.deref_mut.ensures.value c.trace.result.now.items c.trace-2.result.now.items c.trace.ensures c.trace-2.ensures c.len-from.result c.len-from.ensures
          c.note.new.courses c.note.auto.courses c.note.ensures v.courses.len c.deref_mut.ensures.len rest
          ).run;
    }
