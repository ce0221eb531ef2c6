use Rattle.sg_turns.proofs.Outcomes.{end_once, outcomes_fit, all_have, entries_committed, commits_are}
use Rattle.sg_turns.proofs.laws.outcome_laws.Goals as goal

pub returns : goal.returns
returns c = record { once = end_once; fit = outcomes_fit; all = all_have; entries = entries_committed; commits = commits_are }
