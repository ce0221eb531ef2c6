use Rattle.sg_turns.proofs.Cycles.{no_cycle, some_free, alone_free, chosen_waits, conflict_has, conflict_set}
use Rattle.sg_turns.proofs.Costs.{cost_is}
use Rattle.sg_turns.proofs.Victims.{victim_live}
use Rattle.sg_turns.proofs.OnCycles.{on_cycles}
use Rattle.sg_trace.specs.Traces.{state}
use Rattle.sg_turns.proofs.laws.wait_laws.Goals as goal

pub returns : goal.returns
returns c = record {
  no_cycles = no_cycle;
  someone = λ w es r l st s h. some_free w r es l st s h;
  alone = λ w es r l st s h only. alone_free w r es l st s h only;
  victims = λ w v d es l. (victim_live w es l.0 v d l.1, chosen_waits w es v d l.1);
  on_cycles = λ w v d es l. (l.1.victim.member, on_cycles w es v d l.1);
  costs = λ w es r l s. cost_is w r es l s;
  conflicts = λ w es r l s k m. record { sessions = conflict_set (state w es).of s k m; has = conflict_has w r es l s k m };
}
