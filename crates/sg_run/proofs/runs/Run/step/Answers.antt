use Rattle.std.proofs.Common.{◌≡◌, true, false, ◌++◌, length, take, drop, refl, sym, ap, ◌∙◌, subst, inl}
use Rattle.sg_trace.specs.Traces.{state}
use Rattle.sg_engine.specs.Shown.{Shown, is_open_in}
use Rattle.sg_engine.specs.Stepping.{IsStanding}
use Rattle.sg_run.specs.Runs.{RunShown, begun_script, has_ended, IsRun}
use Rattle.sg_run.specs.Inside.{run_of, IsInside}
use Rattle.sg_run.specs.Turns.{IsFree}
use Rattle.sg_run.proofs.Freed.{open_live, live_more, live_free, stays_if, went_if}
use Rattle.sg_run.proofs.Turning.{can_note, inside_by, goes_by, gone}
use Rattle.sg_run.proofs.runs.Run.step.Goals as goal

pub invariant_of-self-then-len-from : goal.invariant_of-self-then-len-from
invariant_of-self-then-len-from g c =
    let v = c.self.inside in
    let is_open = subst (λ (x : RunShown). is_open_in x.engine c.args.s ≡ true) (sym c.self.view_is) c.requires in
    let stays = stays_if c.args.s v.engine c.step.new.self c.self.invariant.run.events c.self.invariant.run.run c.in-Ok.step c.in_default-given.ensures is_open c.in-Ok.ensures.idle c.in-Ok.ensures.ok
    (sym (c.len.ensures ∙ ap length c.trace-2.ensures) ∙ (c.if-len-from.true ∙ (c.len-from.ensures ∙ ap length c.trace.ensures))) in
    subst (λ (e : Shown). IsInside v.script e v.courses.items) (sym stays.same) c.self.invariant

pub returns-then-len-from-clause-turned : goal.returns-then-len-from-clause-turned
returns-then-len-from-clause-turned g c =
    let v = c.self.inside in
    let r : RunShown = run_of v.script v.engine v.courses.items in
    let is_open = subst (λ (x : RunShown). is_open_in x.engine c.args.s ≡ true) (sym c.self.view_is) c.requires in
    let stays = stays_if c.args.s v.engine c.step.new.self c.self.invariant.run.events c.self.invariant.run.run c.in-Ok.step c.in_default-given.ensures is_open c.in-Ok.ensures.idle c.in-Ok.ensures.ok
    (sym (c.len.ensures ∙ ap length c.trace-2.ensures) ∙ (c.if-len-from.true ∙ (c.len-from.ensures ∙ ap length c.trace.ensures))) in (
      subst (λ (x : RunShown). IsStanding x.engine c.args.s) c.self.view_is stays.standing,
      subst (λ (x : RunShown). has_ended x c.args.s ≡ false) c.self.view_is (live_more r c.args.s (open_live v.engine c.args.s is_open)),
      ap (λ (e : Shown). run_of v.script e v.courses.items) stays.same ∙ c.self.view_is,
    )

pub returns-then-len-from-clause-legal : goal.returns-then-len-from-clause-legal
returns-then-len-from-clause-legal g c =
    let v = c.self.inside in
    let is_open = subst (λ (x : RunShown). is_open_in x.engine c.args.s ≡ true) (sym c.self.view_is) c.requires in
    let stays = stays_if c.args.s v.engine c.step.new.self c.self.invariant.run.events c.self.invariant.run.run c.in-Ok.step c.in_default-given.ensures is_open c.in-Ok.ensures.idle c.in-Ok.ensures.ok
    (sym (c.len.ensures ∙ ap length c.trace-2.ensures) ∙ (c.if-len-from.true ∙ (c.len-from.ensures ∙ ap length c.trace.ensures))) in
    subst (λ (e : Shown). IsRun (run_of v.script e v.courses.items)) (sym stays.same) c.self.invariant.run

pub note-requires-clause-place : goal.note-requires-clause-place
note-requires-clause-place g c =
    let v = c.self.inside in
    let r : RunShown = run_of v.script v.engine v.courses.items in
    let is_open = subst (λ (x : RunShown). is_open_in x.engine c.args.s ≡ true) (sym c.self.view_is) c.requires in
    let went = went_if c.args.s v.engine c.step.new.self c.self.invariant.run.events c.self.invariant.run.run c.in-Ok.step c.in_default-given.ensures is_open c.in-Ok.ensures.idle c.in-Ok.ensures.ok
    (λ e. c.if-len-from.false (c.len.ensures ∙ (ap length c.trace-2.ensures ∙ (e ∙ sym (c.len-from.ensures ∙ ap length c.trace.ensures))))) in
    (can_note v.script v.engine c.step.new.self v.courses.items c.self.invariant went.event went.victims went.run (λ es run. went.due (begun_script r) (state v.engine.stage es))
    c.deref_mut.result.now c.deref_mut.ensures.value c.trace.result.now.items c.trace-3.result.now.items c.trace.ensures c.trace-3.ensures c.len-from.result c.len-from.ensures).place

pub note-requires-clause-room : goal.note-requires-clause-room
note-requires-clause-room g c =
    let v = c.self.inside in
    let r : RunShown = run_of v.script v.engine v.courses.items in
    let is_open = subst (λ (x : RunShown). is_open_in x.engine c.args.s ≡ true) (sym c.self.view_is) c.requires in
    let went = went_if c.args.s v.engine c.step.new.self c.self.invariant.run.events c.self.invariant.run.run c.in-Ok.step c.in_default-given.ensures is_open c.in-Ok.ensures.idle c.in-Ok.ensures.ok
    (λ e. c.if-len-from.false (c.len.ensures ∙ (ap length c.trace-2.ensures ∙ (e ∙ sym (c.len-from.ensures ∙ ap length c.trace.ensures))))) in
    (can_note v.script v.engine c.step.new.self v.courses.items c.self.invariant went.event went.victims went.run (λ es run. went.due (begun_script r) (state v.engine.stage es))
    c.deref_mut.result.now c.deref_mut.ensures.value c.trace.result.now.items c.trace-3.result.now.items c.trace.ensures c.trace-3.ensures c.len-from.result c.len-from.ensures).room

pub invariant_of-self-2 : goal.invariant_of-self-2
invariant_of-self-2 g c =
    let v = c.self.inside in
    let r : RunShown = run_of v.script v.engine v.courses.items in
    let is_open = subst (λ (x : RunShown). is_open_in x.engine c.args.s ≡ true) (sym c.self.view_is) c.requires in
    let went = went_if c.args.s v.engine c.step.new.self c.self.invariant.run.events c.self.invariant.run.run c.in-Ok.step c.in_default-given.ensures is_open c.in-Ok.ensures.idle c.in-Ok.ensures.ok
    (λ e. c.if-len-from.false (c.len.ensures ∙ (ap length c.trace-2.ensures ∙ (e ∙ sym (c.len-from.ensures ∙ ap length c.trace.ensures))))) in
    inside_by v.script v.engine c.step.new.self v.courses.items c.self.invariant went.event went.victims went.run (λ es run. went.due (begun_script r) (state v.engine.stage es))
    c.deref_mut.result.now c.deref_mut.ensures.value c.trace.result.now.items c.trace-3.result.now.items c.trace.ensures c.trace-3.ensures c.len-from.result c.len-from.ensures
    c.note.new.courses c.note.auto.courses c.note.ensures v.courses.len c.deref_mut.ensures.len (drop (length c.note.new.courses) v.courses.items)

pub returns-clause-turned : goal.returns-clause-turned
returns-clause-turned g c =
    let v = c.self.inside in
    let r : RunShown = run_of v.script v.engine v.courses.items in
    let is_open = subst (λ (x : RunShown). is_open_in x.engine c.args.s ≡ true) (sym c.self.view_is) c.requires in
    let went = went_if c.args.s v.engine c.step.new.self c.self.invariant.run.events c.self.invariant.run.run c.in-Ok.step c.in_default-given.ensures is_open c.in-Ok.ensures.idle c.in-Ok.ensures.ok
    (λ e. c.if-len-from.false (c.len.ensures ∙ (ap length c.trace-2.ensures ∙ (e ∙ sym (c.len-from.ensures ∙ ap length c.trace.ensures))))) in
    let rest = drop (length c.note.new.courses) v.courses.items in
    let new : RunShown = run_of v.script c.step.new.self (take v.courses.len (c.note.new.courses ++ rest)) in (
      subst (λ (x : RunShown). IsFree x c.args.s) c.self.view_is (live_free r c.self.invariant.run c.args.s c.in_range.ensures (open_live v.engine c.args.s is_open) went.free),
      gone c.args.s went.event went.victims r c.args.self.now new new c.self.view_is refl
          (goes_by v.script v.engine c.step.new.self v.courses.items c.self.invariant went.event went.victims went.run (λ es run. went.due (begun_script r) (state v.engine.stage es))
          c.deref_mut.result.now c.deref_mut.ensures.value c.trace.result.now.items c.trace-3.result.now.items c.trace.ensures c.trace-3.ensures c.len-from.result c.len-from.ensures
          c.note.new.courses c.note.auto.courses c.note.ensures v.courses.len c.deref_mut.ensures.len rest c.args.s went.own (inl went.plain)),
    )

pub returns-clause-legal : goal.returns-clause-legal
returns-clause-legal g c =
    let v = c.self.inside in
    let r : RunShown = run_of v.script v.engine v.courses.items in
    let is_open = subst (λ (x : RunShown). is_open_in x.engine c.args.s ≡ true) (sym c.self.view_is) c.requires in
    let went = went_if c.args.s v.engine c.step.new.self c.self.invariant.run.events c.self.invariant.run.run c.in-Ok.step c.in_default-given.ensures is_open c.in-Ok.ensures.idle c.in-Ok.ensures.ok
    (λ e. c.if-len-from.false (c.len.ensures ∙ (ap length c.trace-2.ensures ∙ (e ∙ sym (c.len-from.ensures ∙ ap length c.trace.ensures))))) in
    (
    inside_by v.script v.engine c.step.new.self v.courses.items c.self.invariant went.event went.victims went.run (λ es run. went.due (begun_script r) (state v.engine.stage es))
    c.deref_mut.result.now c.deref_mut.ensures.value c.trace.result.now.items c.trace-3.result.now.items c.trace.ensures c.trace-3.ensures c.len-from.result c.len-from.ensures
    c.note.new.courses c.note.auto.courses c.note.ensures v.courses.len c.deref_mut.ensures.len (drop (length c.note.new.courses) v.courses.items)
    ).run
