use Rattle.std.proofs.Common.{◌≡◌, ℕ, ◌<◌, ◌++◌, get_or, take}
use Rattle.std.specs.List.{flat_map}
use Rattle.sg_modes.specs.Sessions.{IsSession}
use Rattle.sg_texts.specs.Texts.{spaced}
use Rattle.sg_texts.proofs.telling.append_turns.Given as goal

abbrev pub invariant-loop-place : goal.invariant-loop-place
invariant-loop-place l = record {
  text : l.out.items ≡ l.fn.out.items ++ flat_map spaced (take l.place l.schedule);
  fits : (k : ℕ) (d : ℕ) → k < l.place → IsSession (get_or l.schedule k d);
}
