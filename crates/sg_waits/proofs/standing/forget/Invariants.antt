use Rattle.std.proofs.Common.{◌≡◌, ℕ, ◌<◌, ◌≤◌, [], cond, length, slice_index_or}
use Rattle.sg_modes.specs.Sessions.{has_session}
use Rattle.sg_waits.proofs.standing.forget.Given as goal

abbrev pub invariant-loop-blockers : goal.invariant-loop-blockers
invariant-loop-blockers l = record {
  same_length : length l.named ≡ length l.initial.named;
  done : (k : ℕ) → k < l.blockers-index → slice_index_or l.named k [] ≡ cond (has_session (slice_index_or l.initial.named k []) l.s) [] (slice_index_or l.initial.named k []);
  left : (k : ℕ) → l.blockers-index ≤ k → slice_index_or l.named k [] ≡ slice_index_or l.initial.named k [];
}
