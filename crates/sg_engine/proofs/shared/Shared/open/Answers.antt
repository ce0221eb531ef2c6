use Rattle.std.specs.Prelude.{map, ◌-◌}
use Rattle.std.proofs.Common.{refl, sym, ap, ◌∙◌, subst}
use Rattle.sg_plain.specs.Rows.{Rows, AreRows}
use Rattle.sg_rows.specs.Table.{loaded_row}
use Rattle.sg_trace.specs.Traces.{Stage}
use Rattle.sg_trace.specs.Legal.{IsStage}
use Rattle.sg_stores.specs.Agreement.{AreLoaded}
use Rattle.sg_engine.proofs.Opened.{no_jobs, opened_run, opened_engine}
use Rattle.sg_engine.proofs.shared.Shared.open.Goals as goal

pub invariant_of-result : goal.invariant_of-result
invariant_of-result g c =
    let opening = c.in_ok-opening.opening in
    let stage : Stage = record { settings = c.args.settings; opening = opening; priorities = c.args.priorities } in
    let staged : IsStage stage = record {
      settings = record { grid = c.check_grid.ensures; least = c.requires.least; most = c.requires.most };
      rows = subst AreRows (sym c.in_ok-opening.ensures) c.in_order.ensures;
      priorities = c.in_range.ensures;
    } in
    opened_engine stage staged c.in_ok-loaded.loaded.rows.rows c.in_ok-loaded.loaded.cells.rows (c.in_ok-loaded.ensures.rows ∙ ap (λ (rows : Rows). map loaded_row rows) (sym c.in_ok-opening.ensures))
    (subst (λ (rows : Rows). AreLoaded c.args.settings rows c.in_ok-loaded.loaded.cells.rows) (sym c.in_ok-opening.ensures) c.in_ok-loaded.ensures.cells)
    c.rising.ensures c.in_ok-loaded.ensures.codes c.in_ok-seats.seats.items c.in_ok-seats.ensures.length c.in_ok-seats.ensures.unused
    c.new-trace.result.items c.new-trace.ensures.items c.new-journal.result.items c.new-journal.ensures.items c.new-locks.result.grants c.new-locks.ensures.grants c.new-waits.result c.new-waits.ensures
    0 c.new-trace.result.spare c.new-journal.result.spare refl

pub returns-clause-run : goal.returns-clause-run
returns-clause-run g c =
    let stage : Stage = record { settings = c.args.settings; opening = c.in_ok-opening.opening; priorities = c.args.priorities } in
    opened_run stage c.in_ok-seats.seats.items c.in_ok-seats.ensures.unused c.new-trace.result.items c.new-trace.ensures.items c.new-journal.result.items c.new-journal.ensures.items

pub returns-clause-jobs : goal.returns-clause-jobs
returns-clause-jobs g c = λ s. no_jobs c.in_ok-seats.seats.items c.in_ok-seats.ensures.unused (s - 1)

pub returns-clause-staged : goal.returns-clause-staged
returns-clause-staged g c = record {
  settings = record { grid = c.check_grid.ensures; least = c.requires.least; most = c.requires.most };
  rows = subst AreRows (sym c.in_ok-opening.ensures) c.in_order.ensures;
  priorities = c.in_range.ensures;
}
