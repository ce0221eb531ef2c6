use Rattle.sg_program.proofs.Replays.{printed_turns}
use Rattle.sg_program.proofs.laws.printed_turns_replay.Goals as goal

pub returns : goal.returns
returns c = printed_turns
