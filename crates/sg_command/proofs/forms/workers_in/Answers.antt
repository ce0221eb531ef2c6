use Rattle.std.proofs.Common.{◌∙◌, ap, sym, codes}
use Rattle.clap.specs.Words.{found_of}
use Rattle.sg_command.specs.Words.{number_in, within}
use Rattle.sg_command.specs.Usage.{workers_said}
use Rattle.sg_command.proofs.Getters.{read_none, read_some}
use Rattle.sg_command.proofs.forms.workers_in.Goals as goal

pub returns-in_err-number_within-in-Some-clause-workers : goal.returns-in_err-number_within-in-Some-clause-workers
returns-in_err-number_within-in-Some-clause-workers c =
    let word = read_some (found_of c.args.matches.now) (codes "workers") c.get_str.result c.in-Some.word c.get_str.ensures c.in-Some.is in
    c.from_residual.ensures ∙ sym (ap workers_said word ∙ ap (λ w. within 1 64 (number_in w)) (sym c.as_bytes.ensures.value) ∙ sym c.number_within.ensures.number
    ∙ c.in_err-number_within-in-Some.was)

pub returns-in_ok-number_within-in-Some-clause-workers : goal.returns-in_ok-number_within-in-Some-clause-workers
returns-in_ok-number_within-in-Some-clause-workers c =
    let word = read_some (found_of c.args.matches.now) (codes "workers") c.get_str.result c.in-Some.word c.get_str.ensures c.in-Some.is in
    sym (ap workers_said word ∙ ap (λ w. within 1 64 (number_in w)) (sym c.as_bytes.ensures.value) ∙ sym c.number_within.ensures.number
    ∙ c.in_ok-number_within-in-Some.was)

pub returns-in-None-clause-workers : goal.returns-in-None-clause-workers
returns-in-None-clause-workers c = sym (ap workers_said (read_none (found_of c.args.matches.now) (codes "workers") c.get_str.result c.get_str.ensures c.in-None.is))
