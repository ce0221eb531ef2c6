use Rattle.std.proofs.Common.{◌≡◌, true, refl, sym}
use Rattle.sg_run.specs.Runs.{has_ended}
use Rattle.sg_run.proofs.Opening.{first_none, done_last}
use Rattle.sg_run.proofs.runs.Run.all_ended.Goals as goal

pub returns : goal.returns
returns g c = record {
  all = (
    (λ t. done_last (λ u. has_ended c.args.self.now u ≡ true) c.sessions.rest (first_none c.sessions.rest (sym c.in_default.ensures.first)) c.sessions.invariant),
    (λ t. refl),
  );
}
