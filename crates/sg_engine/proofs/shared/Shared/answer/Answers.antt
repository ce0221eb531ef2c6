use Rattle.std.proofs.Common.{List, [], ◌∷◌, ◌++◌, set, sym, ap, ◌∙◌, subst, arith}
use Rattle.sg_trace.specs.declared.labels.Label.{Label}
use Rattle.sg_trace.specs.declared.labels.Label.TheVariants as label
use Rattle.sg_trace.specs.Traces.{Stage}
use Rattle.sg_trace.specs.Legal.{Replies}
use Rattle.sg_engine.specs.Shown.{Shown, IsRunOf}
use Rattle.sg_engine.specs.Inside.{shown_of, shown_in}
use Rattle.sg_engine.specs.Ends.{EndsJob}
use Rattle.sg_engine.specs.Nexts.{IsNextAct}
use Rattle.sg_engine.specs.Steps.{OpenReads}
use Rattle.sg_engine.proofs.Begins.{live_most}
use Rattle.sg_engine.proofs.Answering.{read_room, read_runs, read_jobs, read_engine}
use Rattle.sg_engine.proofs.shared.Shared.answer.Goals as goal

pub overflow_add-self-inside : goal.overflow_add-self-inside
overflow_add-self-inside c = let h = live_most _ _ _ _ _ _ _ _ _ _ _ c.self.invariant in omega (arith, h)

pub keep-requires : goal.keep-requires
keep-requires c =
    let v = c.self.inside in
    let stage : Stage = record { settings = v.settings; opening = v.opening; priorities = v.priorities } in
    let old : Shown = shown_of v.settings v.opening v.priorities v.trace.items v.journal.items v.seats.items in
    let next : IsNextAct old c.args.s (Replies c.args.answer) = subst (λ (x : Shown). IsNextAct x c.args.s (Replies c.args.answer)) (sym c.self.view_is) c.requires.reply in
    let reads : OpenReads old c.args.s = subst (λ (x : Shown). OpenReads x c.args.s) (sym c.self.view_is) c.requires.reads in
    read_room stage v.trace.items v.journal.items v.seats.items v.rows.rows v.cells.rows v.locks.grants v.waits v.live v.trace.spare v.journal.spare c.self.invariant
    c.args.s c.index.result c.in_range.ensures c.index.ensures.below c.index.ensures.place c.index_mut.result.now c.index_mut.ensures.value c.args.answer next reads

pub invariant_of-self-2 : goal.invariant_of-self-2
invariant_of-self-2 c =
    let v = c.self.inside in
    let stage : Stage = record { settings = v.settings; opening = v.opening; priorities = v.priorities } in
    let old : Shown = shown_of v.settings v.opening v.priorities v.trace.items v.journal.items v.seats.items in
    let next : IsNextAct old c.args.s (Replies c.args.answer) = subst (λ (x : Shown). IsNextAct x c.args.s (Replies c.args.answer)) (sym c.self.view_is) c.requires.reply in
    let reads : OpenReads old c.args.s = subst (λ (x : Shown). OpenReads x c.args.s) (sym c.self.view_is) c.requires.reads in
    let pushed = c.push_reserved.ensures.items ∙ (ap (λ a. c.reserve.new.self.items ++ label.Answer c.args.s a ∷ []) c.in_ok-told.ensures ∙ ap (λ (ls : List Label). ls ++ label.Answer c.args.s c.args.answer ∷ []) c.reserve.ensures.items) in
    let room = c.push_reserved.ensures.spare in
    let reserved = c.in_ok-reserve.ensures.spare in
    read_engine stage v.trace.items v.journal.items v.seats.items v.rows.rows v.cells.rows v.locks.grants v.waits v.live v.trace.spare v.journal.spare c.self.invariant
    c.args.s c.index.result c.in_range.ensures c.index.ensures.below c.index.ensures.place c.index_mut.result.now c.index_mut.ensures.value c.args.answer next reads
    c.keep.new.seat c.keep.ensures c.push_reserved.new.self.items pushed c.push_reserved.new.self.spare (omega (arith, room, reserved))

pub returns-clause-run : goal.returns-clause-run
returns-clause-run c = record {
  stage = ap (λ (x : Shown). x.stage) c.self.view_is;
  runs = λ es run.
      let v = c.self.inside in
      let stage : Stage = record { settings = v.settings; opening = v.opening; priorities = v.priorities } in
      let old : Shown = shown_of v.settings v.opening v.priorities v.trace.items v.journal.items v.seats.items in
      let next : IsNextAct old c.args.s (Replies c.args.answer) = subst (λ (x : Shown). IsNextAct x c.args.s (Replies c.args.answer)) (sym c.self.view_is) c.requires.reply in
      let reads : OpenReads old c.args.s = subst (λ (x : Shown). OpenReads x c.args.s) (sym c.self.view_is) c.requires.reads in
      let pushed = c.push_reserved.ensures.items ∙ (ap (λ a. c.reserve.new.self.items ++ label.Answer c.args.s a ∷ []) c.in_ok-told.ensures ∙ ap (λ (ls : List Label). ls ++ label.Answer c.args.s c.args.answer ∷ []) c.reserve.ensures.items) in
      read_runs stage v.trace.items v.journal.items v.seats.items v.rows.rows v.cells.rows v.locks.grants v.waits v.live v.trace.spare v.journal.spare c.self.invariant
      c.args.s c.index.result c.in_range.ensures c.index.ensures.below c.index.ensures.place c.index_mut.result.now c.index_mut.ensures.value c.args.answer next reads
      c.keep.new.seat c.keep.ensures c.push_reserved.new.self.items pushed es (subst (IsRunOf es) (sym c.self.view_is) run);
}

pub returns-clause-job : goal.returns-clause-job
returns-clause-job c =
    let v = c.self.inside in
    let stage : Stage = record { settings = v.settings; opening = v.opening; priorities = v.priorities } in
    let old : Shown = shown_of v.settings v.opening v.priorities v.trace.items v.journal.items v.seats.items in
    let next : IsNextAct old c.args.s (Replies c.args.answer) = subst (λ (x : Shown). IsNextAct x c.args.s (Replies c.args.answer)) (sym c.self.view_is) c.requires.reply in
    let reads : OpenReads old c.args.s = subst (λ (x : Shown). OpenReads x c.args.s) (sym c.self.view_is) c.requires.reads in
    let pushed = c.push_reserved.ensures.items ∙ (ap (λ a. c.reserve.new.self.items ++ label.Answer c.args.s a ∷ []) c.in_ok-told.ensures ∙ ap (λ (ls : List Label). ls ++ label.Answer c.args.s c.args.answer ∷ []) c.reserve.ensures.items) in
    let new : Shown = shown_in stage c.push_reserved.new.self.items v.journal.items (set v.seats.items c.index.result c.keep.new.seat) in
    subst (λ (x : Shown). EndsJob c.args.s x new) c.self.view_is
    (read_jobs stage v.trace.items v.journal.items v.seats.items v.rows.rows v.cells.rows v.locks.grants v.waits v.live v.trace.spare v.journal.spare c.self.invariant
    c.args.s c.index.result c.in_range.ensures c.index.ensures.below c.index.ensures.place c.index_mut.result.now c.index_mut.ensures.value c.args.answer next reads
    c.keep.new.seat c.keep.ensures c.push_reserved.new.self.items pushed)
