use Rattle.std.proofs.Common.{[], ◌++◌, length, take, drop, refl, sym, ap, ◌∙◌, subst, inl}
use Rattle.sg_trace.specs.declared.labels.Cause.TheVariants.{NoMemory}
use Rattle.sg_trace.specs.Traces.{Ask, Rollback}
use Rattle.sg_engine.specs.Shown.{Shown, next_statement}
use Rattle.sg_run.specs.Runs.{RunShown, IsRun}
use Rattle.sg_run.specs.Inside.{run_of}
use Rattle.sg_run.specs.Nexts.{MayGoOn}
use Rattle.sg_run.specs.declared.turns.Next.TheVariants as next
use Rattle.sg_run.proofs.Turning.{inside_by, goes_by, gone}
use Rattle.sg_run.proofs.runs.Run.ask.Goals as goal
use Rattle.sg_run.proofs.runs.Run.ask.Goals.{in-Ok, in-Err}

pub invariant_of-self : goal.invariant_of-self
invariant_of-self g c =
    let v = c.self.inside in
    let n = next_statement v.engine c.args.s in
    inside_by v.script v.engine c.ask.new.self v.courses.items c.self.invariant (Ask c.args.s n c.args.statement) [] c.in-Ok.ensures.ok
    ((subst (λ (r : RunShown). MayGoOn r c.args.s (next.Ask c.args.statement)) (sym c.self.view_is) c.requires.next).0 n)
    c.deref_mut.result.now c.deref_mut.ensures.value c.trace.result.now.items c.trace-in-Ok.result.now.items c.trace.ensures c.trace-in-Ok.ensures c.len-from.result c.len-from.ensures
    c.note.new.courses c.note.auto.courses c.note.ensures v.courses.len c.deref_mut.ensures.len (drop (length c.note.new.courses) v.courses.items)

pub returns-clause-gone : goal.returns-clause-gone
returns-clause-gone g c = elim c.match-ask.branch [
  | in-Ok w ↦
      let v = c.self.inside in
      let n = next_statement v.engine c.args.s in
      let e = Ask c.args.s n c.args.statement in
      let rest = drop (length w.note.new.courses) v.courses.items in
      let new : RunShown = run_of v.script c.ask.new.self (take v.courses.len (w.note.new.courses ++ rest)) in
      gone c.args.s e [] (run_of v.script v.engine v.courses.items) c.args.self.now new c.match-ask.self c.self.view_is w.self-is
      (goes_by v.script v.engine c.ask.new.self v.courses.items c.self.invariant e [] w.in-Ok.ensures.ok
      ((subst (λ (r : RunShown). MayGoOn r c.args.s (next.Ask c.args.statement)) (sym c.self.view_is) c.requires.next).0 n)
      w.deref_mut.result.now w.deref_mut.ensures.value c.trace.result.now.items w.trace-in-Ok.result.now.items c.trace.ensures w.trace-in-Ok.ensures c.len-from.result c.len-from.ensures
      w.note.new.courses w.note.auto.courses w.note.ensures v.courses.len w.deref_mut.ensures.len rest c.args.s refl (inl refl))
  | in-Err w ↦
      let v = c.self.inside in
      gone c.args.s (Rollback c.args.s NoMemory) [] (run_of v.script c.ask.new.self v.courses.items) c.args.self.now w.roll_back.new.self c.match-ask.self
      (ap (λ (x : Shown). run_of v.script x v.courses.items) w.in-Err.ensures.err ∙ c.self.view_is) w.self-is w.roll_back.ensures.goes
]

pub returns-clause-legal : goal.returns-clause-legal
returns-clause-legal g c = elim c.match-ask.branch [
  | in-Ok w ↦
      let v = c.self.inside in
      let n = next_statement v.engine c.args.s in
      subst IsRun (sym w.self-is) (
      inside_by v.script v.engine c.ask.new.self v.courses.items c.self.invariant (Ask c.args.s n c.args.statement) [] w.in-Ok.ensures.ok
      ((subst (λ (r : RunShown). MayGoOn r c.args.s (next.Ask c.args.statement)) (sym c.self.view_is) c.requires.next).0 n)
      w.deref_mut.result.now w.deref_mut.ensures.value c.trace.result.now.items w.trace-in-Ok.result.now.items c.trace.ensures w.trace-in-Ok.ensures c.len-from.result c.len-from.ensures
      w.note.new.courses w.note.auto.courses w.note.ensures v.courses.len w.deref_mut.ensures.len (drop (length w.note.new.courses) v.courses.items)
      ).run
  | in-Err w ↦ subst IsRun (sym w.self-is) w.roll_back.ensures.legal
]
