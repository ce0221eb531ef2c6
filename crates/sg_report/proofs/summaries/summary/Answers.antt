use Rattle.std.proofs.Common.{ℕ, List, length, ap, sym, ◌∙◌, codes}
use Rattle.sg_plain.specs.Serial.{Entry}
use Rattle.sg_texts.specs.declared.others.Other.{Other}
use Rattle.sg_trace.specs.declared.labels.Label.{Label}
use Rattle.sg_rows.specs.Table.{committed_rows}
use Rattle.sg_engine.specs.Shown.{Shown}
use Rattle.sg_report.specs.Summaries.{ended_by, was_asked, was_victim, had_no_memory}
use Rattle.sg_report.proofs.Sounds.{rows_told}
use Rattle.sg_report.proofs.Sums.{summed}
use Rattle.sg_report.proofs.summaries.summary.Goals as goal

pub returns : goal.returns
returns g c =
    let engine = c.engine-engine.ensures.engine in
    let others = c.in_ok-others.ensures in
    record {
      rows = c.in_ok-rows.rows;
      legal = c.engine-engine.ensures.legal;
      left = rows_told c.engine-engine.result.now c.args.run.now.engine (committed_rows c.rows.result.now.rows) c.in_ok-rows.rows engine c.rows.ensures c.in_ok-rows.ensures;
      is =
          summed (codes "# commits ") (codes " rolled back ") (codes " victims ") (codes " no memory ") (codes " rows ") (codes " labels ") _ _ _ _ _ _ _ _ _ _ _ _ _ _ _ _ _ _ _ _
          c.new-out.ensures.items c.in_ok-append_count.ensures c.in_ok-append_count-2.ensures c.in_ok-append_count-3.ensures c.in_ok-append_count-4.ensures c.in_ok-append_count-5.ensures c.in_ok-append_count-6.ensures c.in_ok-extend_from_slice.ensures.items
          (c.len.ensures ∙ ap length (c.journal.ensures ∙ ap (λ (v : Shown). v.journal) engine))
          (c.rolled_back.ensures ∙ ap (ended_by was_asked) (c.as_slice.ensures.value ∙ others))
          (c.victims.ensures ∙ ap (ended_by was_victim) (c.as_slice-2.ensures.value ∙ others))
          (c.without_memory.ensures ∙ ap (ended_by had_no_memory) (c.as_slice-3.ensures.value ∙ others))
          c.len-2.ensures
          (c.len-3.ensures ∙ ap length (c.trace.ensures ∙ ap (λ (v : Shown). v.labels) engine));
    }
