use Rattle.std.proofs.Common.{◌∷◌, arith}
use Rattle.sg_trace.specs.Measure.{parts, bounds}
use Rattle.sg_trace.specs.Traces.{state}
use Rattle.sg_measure.proofs.EachFalls.{falls}
use Rattle.sg_measure.proofs.Counted.{pairs_are_enough, counted}
use Rattle.sg_measure.proofs.Unbegun.{follows_rest, before_gap, enough_rest, lower_rest, bounded}
use Rattle.sg_measure.proofs.Weigh.{weigh_less}
use Rattle.std.proofs.Common.{◌∙◌, ap}
use Rattle.std.specs.Prelude.{slice_get}
use Rattle.sg_trace.specs.Scripts.{transactions_of}
use Rattle.sg_measure.proofs.laws.measure_laws.Goals as goal

pub returns : goal.returns
returns c = record {
  enough = pairs_are_enough;
  falls = λ p pairs w es e enough r l f. falls p pairs w r es e l f (counted pairs w p r enough es e l f);
  unbegun = λ ps rest pairs w es s number l f h. record {
    follows = follows_rest ps rest s ((state w es).of s).begun (λ j le. ap (λ ts. slice_get ts j) h.own ∙ before_gap (transactions_of ps s) ((state w es).of s).begun j le) h.others w es l f (omega arith);
    enough = enough_rest ps rest s ((state w es).of s).begun pairs w h;
    lower = lower_rest ps rest pairs w es s number h;
  };
  bounded = bounded;
  number = weigh_less;
  measure = λ p pairs w es e enough r l f. weigh_less (bounds p pairs) (parts p pairs w (e ∷ es)) (parts p pairs w es) (bounded p pairs w (e ∷ es)) (bounded p pairs w es) (falls p pairs w r es e l f (counted pairs w p r enough es e l f));
}
