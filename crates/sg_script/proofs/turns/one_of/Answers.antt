use Rattle.std.proofs.Common.{sym, ◌∙◌, eqb-true}
use Rattle.std.proofs.lemmas.Map.Views.{Contains-from_any}
use Rattle.sg_script.proofs.turns.one_of.Goals as goal

pub returns-then-has-clause-within : goal.returns-then-has-clause-within
returns-then-has-clause-within c = Contains-from_any eqb-true c.args.session c.args.told (sym c.has.ensures.has ∙ c.if-has.true)
