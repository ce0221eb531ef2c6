use Rattle.std.proofs.Common.{ℕ, List, ◌++◌, ap₂, ◌∙◌}
use Rattle.sg_program.proofs.Finished.{made_text}
use Rattle.sg_program.proofs.making.made.Goals as goal

pub returns : goal.returns
returns g c =
    made_text c.args.seed c.args.rows c.args.sessions c.in_ok-script.script c.in_ok-run.run' c.drive.new.run c.in_ok-line.line.items _ c.in_ok-script.ensures
    c.in_ok-run.ensures.script c.in_ok-run.ensures.run c.in_ok-run.ensures.past c.in_ok-run.ensures.legal c.drive.ensures c.in_ok-line.ensures
    (c.in_ok-extend_from_slice.ensures.items ∙ ap₂ (λ (a b : List ℕ). a ++ b) c.in_ok-text.ensures.text c.as_slice.ensures.value)
