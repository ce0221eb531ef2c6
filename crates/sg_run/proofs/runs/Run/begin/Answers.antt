use Rattle.std.proofs.Common.{◌≡◌, ◌≤◌, suc, false, [], ◌++◌, length, take, drop, set, refl, sym, ap, ◌∙◌, subst, inl}
use Rattle.sg_trace.specs.Traces.{Begin}
use Rattle.sg_engine.specs.Shown.{Shown, seat_in, is_live_in}
use Rattle.sg_run.specs.declared.courses.Course.{Course}
use Rattle.sg_run.specs.Courses.{left}
use Rattle.sg_run.specs.Runs.{RunShown, IsRun}
use Rattle.sg_run.specs.Inside.{run_of, IsInside}
use Rattle.sg_run.specs.Turns.{IsFree, HasLeft}
use Rattle.sg_run.proofs.Dues.{due_begin}
use Rattle.sg_run.proofs.Freed.{unbegun_lower, idle_free}
use Rattle.sg_run.proofs.Turning.{course_is, hand_of, within_kept, course_set, course_other, size_set, size_kept_of, inside_by, goes_by, gone, left_room, inside_left, has_left}
use Rattle.sg_run.proofs.runs.Run.begin.Goals as goal

pub leave-requires : goal.leave-requires
leave-requires g c =
    let v = c.self.inside in
    let within = within_kept v.script v.engine v.courses.items c.self.invariant c.index-at.result c.index-at.ensures.below in
    let at = course_is v.courses.items c.args.s c.index-at.result c.index.result.now c.index-at.ensures.place within c.index.ensures in
    let hand = hand_of v.script v.engine v.courses.items c.args.s c.index.result.now c.len-over.result at c.len-over.ensures ∙ sym c.in-Some.ensures.found in
    let idle : is_live_in v.engine c.args.s ≡ false = subst (λ (x : RunShown). is_live_in x.engine c.args.s ≡ false) (sym c.self.view_is) c.requires in
    let to_leave = course_is v.courses.items c.args.s c.index-at.result c.index_mut.result.now c.index-at.ensures.place within c.index_mut.ensures.value in
    subst (λ (x : Course). 1 ≤ x.over.spare) to_leave (left_room v.script v.engine v.courses.items c.self.invariant unbegun_lower c.args.s c.in_range.ensures idle c.in-Some._next.now hand)

pub invariant_of-self : goal.invariant_of-self
invariant_of-self g c =
    let v = c.self.inside in
    let within = within_kept v.script v.engine v.courses.items c.self.invariant c.index-at.result c.index-at.ensures.below in
    let at = course_is v.courses.items c.args.s c.index-at.result c.index.result.now c.index-at.ensures.place within c.index.ensures in
    let hand = hand_of v.script v.engine v.courses.items c.args.s c.index.result.now c.len-over.result at c.len-over.ensures ∙ sym c.in-Some.ensures.found in
    let idle : is_live_in v.engine c.args.s ≡ false = subst (λ (x : RunShown). is_live_in x.engine c.args.s ≡ false) (sym c.self.view_is) c.requires in
    let to_leave = course_is v.courses.items c.args.s c.index-at.result c.index_mut.result.now c.index-at.ensures.place within c.index_mut.ensures.value in
    subst (λ (e : Shown). IsInside v.script e (set v.courses.items c.index-at.result c.leave.new.self)) (sym c.in_default-begin.ensures.err)
    (inside_left v.script v.engine v.courses.items c.self.invariant unbegun_lower c.args.s c.in_range.ensures idle c.in-Some._next.now hand (set v.courses.items c.index-at.result c.leave.new.self)
    (size_set v.courses.items c.index-at.result c.leave.new.self (size_kept_of v.script v.engine v.courses.items c.self.invariant))
    (course_set v.courses.items c.args.s c.index-at.result c.leave.new.self c.index-at.ensures.place within ∙ (c.leave.ensures ∙ ap left (sym to_leave)))
    (λ u session ne. course_other v.courses.items c.args.s c.index-at.result c.leave.new.self c.index-at.ensures.place u ne))

pub returns-in_default-begin-clause-turned : goal.returns-in_default-begin-clause-turned
returns-in_default-begin-clause-turned g c =
    let v = c.self.inside in
    let r : RunShown = run_of v.script v.engine v.courses.items in
    let within = within_kept v.script v.engine v.courses.items c.self.invariant c.index-at.result c.index-at.ensures.below in
    let at = course_is v.courses.items c.args.s c.index-at.result c.index.result.now c.index-at.ensures.place within c.index.ensures in
    let hand = hand_of v.script v.engine v.courses.items c.args.s c.index.result.now c.len-over.result at c.len-over.ensures ∙ sym c.in-Some.ensures.found in
    let idle : is_live_in v.engine c.args.s ≡ false = subst (λ (x : RunShown). is_live_in x.engine c.args.s ≡ false) (sym c.self.view_is) c.requires in
    let to_leave = course_is v.courses.items c.args.s c.index-at.result c.index_mut.result.now c.index-at.ensures.place within c.index_mut.ensures.value in
    let now = set v.courses.items c.index-at.result c.leave.new.self in (
      subst (λ (x : RunShown). IsFree x c.args.s) c.self.view_is (idle_free r c.self.invariant.run c.args.s c.in_range.ensures c.in-Some._next.now idle hand),
      subst (λ (x : RunShown). HasLeft c.args.s x (run_of v.script c.begin.new.self now)) c.self.view_is
          (subst (λ (e : Shown). HasLeft c.args.s r (run_of v.script e now)) (sym c.in_default-begin.ensures.err)
          (has_left v.script v.engine v.courses.items c.self.invariant unbegun_lower c.args.s c.in_range.ensures idle c.in-Some._next.now hand now
          (size_set v.courses.items c.index-at.result c.leave.new.self (size_kept_of v.script v.engine v.courses.items c.self.invariant))
          (course_set v.courses.items c.args.s c.index-at.result c.leave.new.self c.index-at.ensures.place within ∙ (c.leave.ensures ∙ ap left (sym to_leave)))
          (λ u session ne. course_other v.courses.items c.args.s c.index-at.result c.leave.new.self c.index-at.ensures.place u ne))),
    )

pub returns-in_default-begin-clause-legal : goal.returns-in_default-begin-clause-legal
returns-in_default-begin-clause-legal g c =
    let v = c.self.inside in
    let within = within_kept v.script v.engine v.courses.items c.self.invariant c.index-at.result c.index-at.ensures.below in
    let at = course_is v.courses.items c.args.s c.index-at.result c.index.result.now c.index-at.ensures.place within c.index.ensures in
    let hand = hand_of v.script v.engine v.courses.items c.args.s c.index.result.now c.len-over.result at c.len-over.ensures ∙ sym c.in-Some.ensures.found in
    let idle : is_live_in v.engine c.args.s ≡ false = subst (λ (x : RunShown). is_live_in x.engine c.args.s ≡ false) (sym c.self.view_is) c.requires in
    let to_leave = course_is v.courses.items c.args.s c.index-at.result c.index_mut.result.now c.index-at.ensures.place within c.index_mut.ensures.value in
    let now = set v.courses.items c.index-at.result c.leave.new.self in
    subst (λ (e : Shown). IsRun (run_of v.script e now)) (sym c.in_default-begin.ensures.err)
    (inside_left v.script v.engine v.courses.items c.self.invariant unbegun_lower c.args.s c.in_range.ensures idle c.in-Some._next.now hand now
    (size_set v.courses.items c.index-at.result c.leave.new.self (size_kept_of v.script v.engine v.courses.items c.self.invariant))
    (course_set v.courses.items c.args.s c.index-at.result c.leave.new.self c.index-at.ensures.place within ∙ (c.leave.ensures ∙ ap left (sym to_leave)))
    (λ u session ne. course_other v.courses.items c.args.s c.index-at.result c.leave.new.self c.index-at.ensures.place u ne)).run

pub invariant_of-self-2 : goal.invariant_of-self-2
invariant_of-self-2 g c =
    let v = c.self.inside in
    let r : RunShown = run_of v.script v.engine v.courses.items in
    let n = suc (seat_in v.engine.seats c.args.s).begun in
    let within = within_kept v.script v.engine v.courses.items c.self.invariant c.index-at.result c.index-at.ensures.below in
    let at = course_is v.courses.items c.args.s c.index-at.result c.index.result.now c.index-at.ensures.place within c.index.ensures in
    let hand = hand_of v.script v.engine v.courses.items c.args.s c.index.result.now c.len-over.result at c.len-over.ensures ∙ sym c.in-Some.ensures.found in
    let idle : is_live_in v.engine c.args.s ≡ false = subst (λ (x : RunShown). is_live_in x.engine c.args.s ≡ false) (sym c.self.view_is) c.requires in
    inside_by v.script v.engine c.begin.new.self v.courses.items c.self.invariant (Begin c.args.s n) [] c.in-Ok.ensures.ok
    (due_begin r c.self.invariant.run c.args.s c.in_range.ensures n c.in-Some._next.now idle hand)
    c.deref_mut.result.now c.deref_mut.ensures.value c.trace.result.now.items c.trace-2.result.now.items c.trace.ensures c.trace-2.ensures c.len-from.result c.len-from.ensures
    c.note.new.courses c.note.auto.courses c.note.ensures v.courses.len c.deref_mut.ensures.len (drop (length c.note.new.courses) v.courses.items)

pub returns-clause-turned : goal.returns-clause-turned
returns-clause-turned g c =
    let v = c.self.inside in
    let r : RunShown = run_of v.script v.engine v.courses.items in
    let n = suc (seat_in v.engine.seats c.args.s).begun in
    let within = within_kept v.script v.engine v.courses.items c.self.invariant c.index-at.result c.index-at.ensures.below in
    let at = course_is v.courses.items c.args.s c.index-at.result c.index.result.now c.index-at.ensures.place within c.index.ensures in
    let hand = hand_of v.script v.engine v.courses.items c.args.s c.index.result.now c.len-over.result at c.len-over.ensures ∙ sym c.in-Some.ensures.found in
    let idle : is_live_in v.engine c.args.s ≡ false = subst (λ (x : RunShown). is_live_in x.engine c.args.s ≡ false) (sym c.self.view_is) c.requires in
    let rest = drop (length c.note.new.courses) v.courses.items in
    let new : RunShown = run_of v.script c.begin.new.self (take v.courses.len (c.note.new.courses ++ rest)) in (
      subst (λ (x : RunShown). IsFree x c.args.s) c.self.view_is (idle_free r c.self.invariant.run c.args.s c.in_range.ensures c.in-Some._next.now idle hand),
      gone c.args.s (Begin c.args.s n) [] r c.args.self.now new new c.self.view_is refl
          (goes_by v.script v.engine c.begin.new.self v.courses.items c.self.invariant (Begin c.args.s n) [] c.in-Ok.ensures.ok
          (due_begin r c.self.invariant.run c.args.s c.in_range.ensures n c.in-Some._next.now idle hand)
          c.deref_mut.result.now c.deref_mut.ensures.value c.trace.result.now.items c.trace-2.result.now.items c.trace.ensures c.trace-2.ensures c.len-from.result c.len-from.ensures
          c.note.new.courses c.note.auto.courses c.note.ensures v.courses.len c.deref_mut.ensures.len rest c.args.s refl (inl refl)),
    )

pub returns-clause-legal : goal.returns-clause-legal
returns-clause-legal g c =
    let v = c.self.inside in
    let r : RunShown = run_of v.script v.engine v.courses.items in
    let n = suc (seat_in v.engine.seats c.args.s).begun in
    let within = within_kept v.script v.engine v.courses.items c.self.invariant c.index-at.result c.index-at.ensures.below in
    let at = course_is v.courses.items c.args.s c.index-at.result c.index.result.now c.index-at.ensures.place within c.index.ensures in
    let hand = hand_of v.script v.engine v.courses.items c.args.s c.index.result.now c.len-over.result at c.len-over.ensures ∙ sym c.in-Some.ensures.found in
    let idle : is_live_in v.engine c.args.s ≡ false = subst (λ (x : RunShown). is_live_in x.engine c.args.s ≡ false) (sym c.self.view_is) c.requires in
    (
    inside_by v.script v.engine c.begin.new.self v.courses.items c.self.invariant (Begin c.args.s n) [] c.in-Ok.ensures.ok
    (due_begin r c.self.invariant.run c.args.s c.in_range.ensures n c.in-Some._next.now idle hand)
    c.deref_mut.result.now c.deref_mut.ensures.value c.trace.result.now.items c.trace-2.result.now.items c.trace.ensures c.trace-2.ensures c.len-from.result c.len-from.ensures
    c.note.new.courses c.note.auto.courses c.note.ensures v.courses.len c.deref_mut.ensures.len (drop (length c.note.new.courses) v.courses.items)
    ).run
