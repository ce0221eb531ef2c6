use Rattle.std.proofs.Common.{sym, subst, map}
use Rattle.clap.specs.Words.{app_of}
use Rattle.sg_command.specs.Usage.{IsTold}
use Rattle.sg_command.proofs.Getters.{make_none, make_some}
use Rattle.sg_command.proofs.Told.{make_told}
use Rattle.sg_command.proofs.forms.make_in.Goals as goal

pub parsed-requires : goal.parsed-requires
parsed-requires c = subst IsTold (sym c.in_ok-make_usage.ensures) make_told

pub returns-in_default-clause-form : goal.returns-in_default-clause-form
returns-in_default-clause-form c =
    make_none c.in_ok-matches.field-0 (app_of c.in_ok-make_usage.field-0) (map (λ word. word.now) c.args.words.now) c.requires c.in_ok-make_usage.ensures c.in_ok-matches.ensures c.in_default.is

pub returns-clause-form : goal.returns-clause-form
returns-clause-form c =
    make_some c.in_ok-matches.field-0 (app_of c.in_ok-make_usage.field-0) c.in-Some.matches (map (λ word. word.now) c.args.words.now) c.made.result c.requires c.in_ok-make_usage.ensures c.in_ok-matches.ensures c.in-Some.is c.made.ensures.form
