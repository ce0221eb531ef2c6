use Rattle.std.proofs.Common.{◌-◌, List, slice_get, sym, ap, ◌∙◌}
use Rattle.sg_plain.specs.Serial.{Entry}
use Rattle.sg_engine.specs.Shown.{Shown}
use Rattle.sg_report.proofs.Committed.{commit_there}
use Rattle.sg_report.proofs.reports.commit_at.Goals as goal

pub returns : goal.returns
returns g c =
    commit_there c.args.run.now c.args.place _ _ c.in-Some-at.entry.now c.as_slice.result.now c.requires.least (sym c.in-Some.ensures.commit)
    (ap (λ (js : List Entry). slice_get js (c.args.place - 1)) (sym (c.journal.ensures ∙ ap (λ (e : Shown). e.journal) c.engine.ensures.engine)) ∙ sym c.in-Some-at.ensures)
    (c.as_slice.ensures ∙ c.answers.ensures)
