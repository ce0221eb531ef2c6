-- A turn that is refined in between is one turn.
use Rattle.std.specs.Prelude.{◌≡◌, ℕ, true, not, ◌||◌, List, [], ◌∷◌, ◌++◌, Option, Some, None, is_some, refl}
use Rattle.std.proofs.Common.{sym, ap, ap₂, ◌∙◌, subst}
use Rattle.sg_modes.proofs.BoolLaws.{clash}
use Rattle.sg_trace.specs.Traces.{Stage, Event, state, labels_of}
use Rattle.sg_trace.specs.Scripts.{IsDue}
use Rattle.sg_engine.specs.Shown.{Shown, Seated, Running, IsRunOf, seat_in, job_in, open_of, is_live_in, is_open_in}
use Rattle.sg_engine.specs.Steps.{IsSameRun}
use Rattle.sg_engine.specs.Waiting.{victims_of}
use Rattle.sg_run.specs.Ends.{ends, all_begun}
use Rattle.sg_run.specs.declared.turns.Turn.{Turn}
use Rattle.sg_run.specs.declared.turns.Turn.TheVariants as turn
use Rattle.sg_run.specs.Runs.{RunShown, past_in, begun_script, without_unbegun, at_hand, has_ended}
use Rattle.sg_script.specs.Plans.{sessions_of}
use Rattle.sg_run.proofs.Turning.{runs_same}
use Rattle.sg_run.specs.Turns.{StaysIn, HasGoneOn, IsFree, HasTurned}

-- ---- the same run
pub same_back : (a b : Shown) → IsSameRun a b → IsSameRun b a
same_back a b same = record { stage = sym same.stage; labels = sym same.labels; journal = sym same.journal; seats = sym same.seats }

pub live_as : (a b : Shown) (s : ℕ) → IsSameRun a b → is_live_in b s ≡ is_live_in a s
live_as a b s same = ap (λ (xs : List Seated). is_some (seat_in xs s).running) same.seats

pub open_as : (a b : Shown) (s : ℕ) → IsSameRun a b → is_open_in b s ≡ is_open_in a s
open_as a b s same = ap (λ (xs : List Seated). is_some (open_of (seat_in xs s).running)) same.seats

open_live : (o : Option Running) → is_some (open_of o) ≡ true → is_some o ≡ true
open_live None h = h
open_live (Some r) h = refl

module _ (a b : RunShown) (s : ℕ) (same : IsSameRun a.engine b.engine) (stays : StaysIn a b) where
  script_as : begun_script b ≡ begun_script a
  script_as = ap₂ (λ p x. without_unbegun p (sessions_of x)) stays.past stays.script

  hand_as : at_hand b s ≡ at_hand a s
  hand_as = ap₂ (λ x p. at_hand (record { script = x; engine = a.engine; past = p }) s) stays.script stays.past

  ended_as : has_ended b s ≡ has_ended a s
  ended_as = ap₂ (λ l o. not (l || is_some o)) (live_as a.engine b.engine s same) hand_as

  pub free_as : IsFree a s → IsFree b s
  free_as f = record {
    more = ended_as ∙ f.more;
    free = λ es r. f.free es (runs_same b.engine a.engine (same_back a.engine b.engine same) es r);
  }

  -- what goes on from the one goes on from the other
  pub goes_as : (c : RunShown) → HasGoneOn s b c → HasGoneOn s a c
  goes_as c g = record {
    event = g.event;
    victims = g.victims;
    goes = record {
      own = g.goes.own;
      kind = g.goes.kind;
      due = λ es r. subst (λ p. IsDue p (state a.engine.stage es) g.event) script_as (subst (λ (w : Stage). IsDue (begun_script b) (state w es) g.event) same.stage (g.goes.due es (runs_same a.engine b.engine same es r)));
      run = record {
        stage = g.goes.run.stage ∙ same.stage;
        runs = λ es r. g.goes.run.runs es (runs_same a.engine b.engine same es r);
      };
      script = g.goes.script ∙ stays.script;
      past = λ u is. g.goes.past u is ∙ ap (λ p. past_in p u ++ all_begun (ends u (labels_of (victims_of g.victims ++ g.event ∷ [])))) stays.past;
    };
  }

-- where a result was delivered and nobody is in the way, a turn goes on
pub must_go : (v w : RunShown) (s : ℕ) (t : Turn) (es : List Event) → IsRunOf es v.engine → IsFree v s → is_open_in v.engine s ≡ true → (job_in v.engine.jobs s).delivered ≡ true → HasTurned s v w t → HasGoneOn s v w
must_go v w s turn.Ended es r f o d h = absurd (clash (has_ended v s) h.0 f.more)
must_go v w s turn.Waits es r f o d h = absurd (h.0 es r (f.free es r))
must_go v w s turn.Labelled es r f o d h = h.1
must_go v w s (turn.Job job) es r f o d h = absurd (clash (job_in v.engine.jobs s).delivered d h.1.engine.undelivered)
must_go v w s turn.Unbegun es r f o d h = absurd (clash (is_live_in v.engine s) (open_live (seat_in v.engine.seats s).running o) h.1.idle)
