use Rattle.std.proofs.Common.{◌≡◌, true, List, [], ◌∷◌, ◌++◌, set, sym, ap, ◌∙◌, subst, arith}
use Rattle.sg_trace.specs.declared.labels.Label.{Label}
use Rattle.sg_trace.specs.declared.labels.Label.TheVariants as label
use Rattle.sg_trace.specs.Traces.{Stage}
use Rattle.sg_engine.specs.Shown.{Shown, job_in, IsRunOf}
use Rattle.sg_engine.specs.Inside.{SeatChanges, shown_of, shown_in}
use Rattle.sg_engine.specs.Ends.{EndsJob}
use Rattle.sg_engine.specs.Steps.{HasAllMet}
use Rattle.sg_engine.specs.Answers.{HasRoom, IsAnswered, unwritten}
use Rattle.sg_engine.proofs.Begins.{live_most}
use Rattle.sg_engine.proofs.Finishing.{has_change, still_room, change_writes, change_sound, change_alone, tells, write_runs, write_jobs, write_engine}
use Rattle.sg_engine.proofs.shared.Shared.finish.Goals as goal

pub selected_at-requires : goal.selected_at-requires
selected_at-requires c =
    let v = c.self.inside in
    let stage : Stage = record { settings = v.settings; opening = v.opening; priorities = v.priorities } in
    let old : Shown = shown_of v.settings v.opening v.priorities v.trace.items v.journal.items v.seats.items in
    let writes : (job_in old.jobs c.args.s).writes ≡ true = subst (λ (x : Shown). (job_in x.jobs c.args.s).writes ≡ true) (sym c.self.view_is) c.requires.writes in
    has_change stage v.trace.items v.journal.items v.seats.items v.rows.rows v.cells.rows v.locks.grants v.waits v.live v.trace.spare v.journal.spare c.self.invariant
    c.args.s c.index.result c.in_range.ensures c.index.ensures.below c.index.ensures.place c.index-2.result.now c.index-2.ensures writes

pub overflow_add-self-inside : goal.overflow_add-self-inside
overflow_add-self-inside c = let h = live_most _ _ _ _ _ _ _ _ _ _ _ c.self.invariant in omega (arith, h)

pub finish-answer-requires-clause-writes : goal.finish-answer-requires-clause-writes
finish-answer-requires-clause-writes c =
    let v = c.self.inside in
    let stage : Stage = record { settings = v.settings; opening = v.opening; priorities = v.priorities } in
    let old : Shown = shown_of v.settings v.opening v.priorities v.trace.items v.journal.items v.seats.items in
    let met : HasAllMet old c.args.s = subst (λ (x : Shown). HasAllMet x c.args.s) (sym c.self.view_is) c.requires.met in
    change_writes stage v.trace.items v.journal.items v.seats.items v.rows.rows v.cells.rows v.locks.grants v.waits v.live v.trace.spare v.journal.spare c.self.invariant
    c.args.s c.index-3.result c.in_range.ensures c.index-3.ensures.below c.index-3.ensures.place c.index_mut-seat.result.now c.index_mut-seat.ensures.value met c.take_change.result c.take_change.ensures.change

pub finish-answer-requires-clause-sound : goal.finish-answer-requires-clause-sound
finish-answer-requires-clause-sound c =
    let v = c.self.inside in
    let stage : Stage = record { settings = v.settings; opening = v.opening; priorities = v.priorities } in
    let old : Shown = shown_of v.settings v.opening v.priorities v.trace.items v.journal.items v.seats.items in
    let met : HasAllMet old c.args.s = subst (λ (x : Shown). HasAllMet x c.args.s) (sym c.self.view_is) c.requires.met in
    change_sound stage v.trace.items v.journal.items v.seats.items v.rows.rows v.cells.rows v.locks.grants v.waits v.live v.trace.spare v.journal.spare c.self.invariant
    c.args.s c.index-3.result c.in_range.ensures c.index-3.ensures.below c.index-3.ensures.place c.index_mut-seat.result.now c.index_mut-seat.ensures.value met c.take_change.result c.take_change.ensures.change

pub finish-answer-requires-clause-alone : goal.finish-answer-requires-clause-alone
finish-answer-requires-clause-alone c =
    let v = c.self.inside in
    let stage : Stage = record { settings = v.settings; opening = v.opening; priorities = v.priorities } in
    let old : Shown = shown_of v.settings v.opening v.priorities v.trace.items v.journal.items v.seats.items in
    let met : HasAllMet old c.args.s = subst (λ (x : Shown). HasAllMet x c.args.s) (sym c.self.view_is) c.requires.met in
    change_alone stage v.trace.items v.journal.items v.seats.items v.rows.rows v.cells.rows v.locks.grants v.waits v.live v.trace.spare v.journal.spare c.self.invariant
    c.args.s c.index-3.result c.in_range.ensures c.index-3.ensures.below c.index-3.ensures.place c.index_mut-seat.result.now c.index_mut-seat.ensures.value met c.take_change.result c.take_change.ensures.change

pub twin-told-requires : goal.twin-told-requires
twin-told-requires c =
    let v = c.self.inside in
    let stage : Stage = record { settings = v.settings; opening = v.opening; priorities = v.priorities } in
    let old : Shown = shown_of v.settings v.opening v.priorities v.trace.items v.journal.items v.seats.items in
    let met : HasAllMet old c.args.s = subst (λ (x : Shown). HasAllMet x c.args.s) (sym c.self.view_is) c.requires.met in
    tells stage v.trace.items v.journal.items v.seats.items v.rows.rows v.cells.rows v.locks.grants v.waits v.live v.trace.spare v.journal.spare c.self.invariant
    c.args.s c.index-3.result c.in_range.ensures c.index-3.ensures.below c.index-3.ensures.place c.index_mut-seat.result.now c.index_mut-seat.ensures.value met c.take_change.result c.take_change.ensures.change
    c.finish-answer.new.rows.rows c.finish-answer.new.cells.rows c.finish-answer.result c.finish-answer.ensures c.in_ok-selected.selected c.selected_at.result.now c.in_ok-selected.ensures c.index.result c.index.ensures.place c.index-2.result.now c.index-2.ensures c.selected_at.ensures

pub keep-requires : goal.keep-requires
keep-requires c =
    let v = c.self.inside in
    let stage : Stage = record { settings = v.settings; opening = v.opening; priorities = v.priorities } in
    let old : Shown = shown_of v.settings v.opening v.priorities v.trace.items v.journal.items v.seats.items in
    let met : HasAllMet old c.args.s = subst (λ (x : Shown). HasAllMet x c.args.s) (sym c.self.view_is) c.requires.met in
    subst (λ d. HasRoom d.running) (sym c.take_change.ensures.seat) (still_room stage v.trace.items v.journal.items v.seats.items v.rows.rows v.cells.rows v.locks.grants v.waits v.live v.trace.spare v.journal.spare c.self.invariant
    c.args.s c.index-3.result c.in_range.ensures c.index-3.ensures.below c.index-3.ensures.place c.index_mut-seat.result.now c.index_mut-seat.ensures.value met)

pub invariant_of-self-2 : goal.invariant_of-self-2
invariant_of-self-2 c =
    let v = c.self.inside in
    let stage : Stage = record { settings = v.settings; opening = v.opening; priorities = v.priorities } in
    let old : Shown = shown_of v.settings v.opening v.priorities v.trace.items v.journal.items v.seats.items in
    let met : HasAllMet old c.args.s = subst (λ (x : Shown). HasAllMet x c.args.s) (sym c.self.view_is) c.requires.met in
    let changes : SeatChanges (IsAnswered c.finish-answer.result) (unwritten c.index_mut-seat.result.now) c.keep.new.seat =
    subst (λ d. SeatChanges (IsAnswered c.finish-answer.result) d c.keep.new.seat) c.take_change.ensures.seat c.keep.ensures in
    let pushed = c.push_reserved.ensures.items ∙ (ap (λ a. c.reserve.new.self.items ++ label.Answer c.args.s a ∷ []) c.twin-told.ensures ∙ ap (λ (ls : List Label). ls ++ label.Answer c.args.s c.finish-answer.result ∷ []) c.reserve.ensures.items) in
    let room = c.push_reserved.ensures.spare in
    let reserved = c.in_ok-reserve.ensures.spare in
    write_engine stage v.trace.items v.journal.items v.seats.items v.rows.rows v.cells.rows v.locks.grants v.waits v.live v.trace.spare v.journal.spare c.self.invariant
    c.args.s c.index-3.result c.in_range.ensures c.index-3.ensures.below c.index-3.ensures.place c.index_mut-seat.result.now c.index_mut-seat.ensures.value met c.take_change.result c.take_change.ensures.change
    c.finish-answer.new.rows.rows c.finish-answer.new.cells.rows c.finish-answer.result c.finish-answer.ensures c.keep.new.seat changes c.push_reserved.new.self.items pushed c.push_reserved.new.self.spare (omega (arith, room, reserved))

pub returns-clause-ok : goal.returns-clause-ok
returns-clause-ok c =
    let v = c.self.inside in
    let stage : Stage = record { settings = v.settings; opening = v.opening; priorities = v.priorities } in
    let old : Shown = shown_of v.settings v.opening v.priorities v.trace.items v.journal.items v.seats.items in
    let met : HasAllMet old c.args.s = subst (λ (x : Shown). HasAllMet x c.args.s) (sym c.self.view_is) c.requires.met in
    let changes : SeatChanges (IsAnswered c.finish-answer.result) (unwritten c.index_mut-seat.result.now) c.keep.new.seat =
    subst (λ d. SeatChanges (IsAnswered c.finish-answer.result) d c.keep.new.seat) c.take_change.ensures.seat c.keep.ensures in
    let pushed = c.push_reserved.ensures.items ∙ (ap (λ a. c.reserve.new.self.items ++ label.Answer c.args.s a ∷ []) c.twin-told.ensures ∙ ap (λ (ls : List Label). ls ++ label.Answer c.args.s c.finish-answer.result ∷ []) c.reserve.ensures.items) in
    let new : Shown = shown_in stage c.push_reserved.new.self.items v.journal.items (set v.seats.items c.index-3.result c.keep.new.seat) in
    record {
      answer = c.finish-answer.result;
      run = record {
        stage = ap (λ (x : Shown). x.stage) c.self.view_is;
        runs = λ es run.
            write_runs stage v.trace.items v.journal.items v.seats.items v.rows.rows v.cells.rows v.locks.grants v.waits v.live v.trace.spare v.journal.spare c.self.invariant
            c.args.s c.index-3.result c.in_range.ensures c.index-3.ensures.below c.index-3.ensures.place c.index_mut-seat.result.now c.index_mut-seat.ensures.value met c.take_change.result c.take_change.ensures.change
            c.finish-answer.new.rows.rows c.finish-answer.new.cells.rows c.finish-answer.result c.finish-answer.ensures c.keep.new.seat changes c.push_reserved.new.self.items pushed es (subst (IsRunOf es) (sym c.self.view_is) run);
      };
      job = subst (λ (x : Shown). EndsJob c.args.s x new) c.self.view_is
          (write_jobs stage v.trace.items v.journal.items v.seats.items v.rows.rows v.cells.rows v.locks.grants v.waits v.live v.trace.spare v.journal.spare c.self.invariant
          c.args.s c.index-3.result c.in_range.ensures c.index-3.ensures.below c.index-3.ensures.place c.index_mut-seat.result.now c.index_mut-seat.ensures.value met c.take_change.result c.take_change.ensures.change
          c.finish-answer.new.rows.rows c.finish-answer.new.cells.rows c.finish-answer.result c.finish-answer.ensures c.keep.new.seat changes c.push_reserved.new.self.items pushed);
    }
