use Rattle.std.proofs.Common.{◌≡◌, length}
use Rattle.sg_script.specs.Fields.{words}
use Rattle.sg_script.specs.Grammar.{turns}
use Rattle.sg_script.specs.Plans.{IsOrderOf}
use Rattle.sg_script.proofs.TurnLemmas.{after_turns}
use Rattle.sg_script.proofs.turns.turns.Given as goal

-- each turn takes a field
abbrev pub decreases-fields : goal.decreases-fields
decreases-fields l = length l.rest

-- the turns of what is left, after those that were read, are the whole; all are of sessions that were told
abbrev pub invariant-fields : goal.invariant-fields
invariant-fields l = record {
  whole : turns l.told (words l.text) ≡ after_turns l.turns (turns l.told (words l.rest));
  within : IsOrderOf l.told l.turns;
}
