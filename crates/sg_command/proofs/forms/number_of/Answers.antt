use Rattle.std.proofs.Common.{◌∙◌, ap, sym}
use Rattle.clap.specs.Words.{found_of}
use Rattle.sg_command.specs.Words.{number_in, within}
use Rattle.sg_command.proofs.Getters.{number_read, read_none, read_some}
use Rattle.sg_command.proofs.forms.number_of.Goals as goal

pub returns-in_err-get_str-clause-number : goal.returns-in_err-get_str-clause-number
returns-in_err-get_str-clause-number c = c.from_residual.ensures
    ∙ sym (ap (number_read c.args.least c.args.most) (read_none (found_of c.args.matches.now) c.args.name.now c.get_str.result c.get_str.ensures c.in_err-get_str.was))

pub returns-clause-number : goal.returns-clause-number
returns-clause-number c = c.number_within.ensures.number ∙ ap (λ w. within c.args.least c.args.most (number_in w)) c.as_bytes.ensures.value
    ∙ sym (ap (number_read c.args.least c.args.most) (read_some (found_of c.args.matches.now) c.args.name.now c.get_str.result c.in_ok-get_str.field-0 c.get_str.ensures c.in_ok-get_str.was))
