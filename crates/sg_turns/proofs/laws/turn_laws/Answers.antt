use Rattle.std.proofs.Common.{List, refl}
use Rattle.sg_trace.specs.Traces.{Stage, Event}
use Rattle.sg_trace.specs.Scripts.{Script}
use Rattle.sg_turns.specs.Claims.{IsLasting}
use Rattle.sg_turns.proofs.Answers.{reply}
use Rattle.sg_turns.proofs.Unique.{Run, determined}
use Rattle.sg_turns.proofs.Progress.{turn_fits, turns_are_one, someone_can}
use Rattle.sg_turns.proofs.Labels.{events_same}
use Rattle.sg_turns.proofs.Driven.{driven_same, own_driven, replayed}
use Rattle.sg_turns.proofs.laws.turn_laws.Goals as goal

run : (p : Script) (w : Stage) (x : List Event) → IsLasting p w x → Run p w x
run p w x l = record { legal = l.legal; follows = l.follows; lasts = l.lasts }

pub returns : goal.returns
returns c = record {
  answers = λ d rows st r h. reply d rows r st h;
  fit = turn_fits;
  someone = someone_can;
  one = turns_are_one;
  turns = λ p w x y rx sx ry sy e. determined p w _ x y (run p w x rx) sx (run p w y ry) sy e refl;
  labels = events_same;
  driven = λ p w ts x y rx ry d k. driven_same p w ts x y (run p w x rx) (run p w y ry) d k;
  replay = λ p w rounds x y rx st ry none d. replayed p w rounds _ x y (run p w x rx) (run p w y ry) none (own_driven p w _ x (run p w x rx) st refl) d;
}
