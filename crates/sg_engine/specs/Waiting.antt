-- A wait, and the victims that it makes.
use Rattle.std.specs.Prelude.{◌≡◌, ℕ, ◌-◌, ℤ, cond, List, [], ◌∷◌, ◌++◌, eqb, slice_get, is_some, Option, Some, None}
use Rattle.sg_cells.specs.declared.keys.Key.{Key}
use Rattle.sg_modes.specs.declared.modes.Mode.{Mode}
use Rattle.sg_modes.specs.Priorities.{priority_of}
use Rattle.sg_modes.specs.Sessions.{IsSession}
use Rattle.sg_waits.specs.declared.ranks.Rank.{Rank}
use Rattle.sg_trace.specs.Traces.{Event, Wait, Victim}
use Rattle.sg_engine.specs.declared.shared.Running.{Running}
use Rattle.sg_engine.specs.declared.shared.Seat.{Seat}
use Rattle.sg_engine.specs.Shown.{Shown, Appends, job_in, no_job}

-- victims, each with its cycle, the last first
abbrev pub Victims : Type 0
Victims = List (ℕ × List ℕ)

abbrev pub victims_of : Victims → List Event
victims_of [] = []
victims_of (v ∷ vs) = Victim v.0 v.1 ∷ victims_of vs

-- the cycle of which the session was the last victim, if it was one
abbrev pub cycle_of : ℕ → Victims → Option (List ℕ)
cycle_of s [] = None
cycle_of s (v ∷ vs) = cond (eqb v.0 s) (Some v.1) (cycle_of s vs)

-- The session waits, and victims were rolled back until no cycle was left, each losing its job; own is the cycle of which
-- the session itself was the victim.
pub record HasWaited (s : ℕ) (k : Key) (m : Mode) (b : List ℕ) (old new : Shown) (own : Option (List ℕ)) : Type 0 where
  pub victims : Victims
  pub run : Appends (victims_of victims ++ Wait s k m b ∷ []) old new
  pub itself : own ≡ cycle_of s victims
  pub jobs : (u : ℕ) → IsSession u → job_in new.jobs u ≡ cond (is_some (cycle_of u victims)) no_job (job_in old.jobs u)

-- ---- inside
-- what a seat's transaction has cost
abbrev pub cost_in : Option Running → ℕ
cost_in None = 0
cost_in (Some r) = r.cost

abbrev pub cost_at : Option Seat → ℕ
cost_at None = 0
cost_at (Some x) = cost_in x.running

-- the rank of a session by its seat
abbrev pub rank_in : List ℤ → List Seat → ℕ → Rank
rank_in priorities seats u = record { priority = priority_of priorities u; cost = cost_at (slice_get seats (u - 1)) }

-- with this wish
abbrev pub wishing : Key → Mode → Seat → Seat
wishing k m x = record { begun = x.begun; wish = Some (k, m); running = x.running }
