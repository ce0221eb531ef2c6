-- The laws of the measure.
use Rattle.std.specs.Prelude.{ℕ, ◌<◌, List, ◌∷◌}
use Rattle.sg_modes.specs.Sessions.{IsSession}
use Rattle.sg_trace.specs.Needs.{Held}
use Rattle.sg_trace.specs.Traces.{Stage, Event, state}
use Rattle.sg_trace.specs.Legal.{IsStage, IsLegal}
use Rattle.sg_trace.specs.Scripts.{Script, Follows}
use Rattle.sg_trace.specs.Measure.{parts, IsLower, IsEnough, IsWithout, script_pairs, weigh, bounds, AllBelow}

-- ---- the measure
-- the pairs of a script are enough for it
abbrev pub PairsAreEnough : Type 0
PairsAreEnough = (ps : Script) (w : Stage) → IsEnough (script_pairs ps w) w ps

-- each event lowers the parts
abbrev pub EachEventLowers : Type 0
EachEventLowers = (ps : Script) (pairs : List Held) (w : Stage) (es : List Event) (e : Event) → IsEnough pairs w ps → IsStage w → IsLegal w (e ∷ es) → Follows ps w (e ∷ es) → IsLower (parts ps pairs w (e ∷ es)) (parts ps pairs w es)

-- where the next transaction of a session is left unbegun, the trace follows what is left of the script, and the measure is lower
pub record GoesOn (ps rest : Script) (pairs : List Held) (w : Stage) (es : List Event) : Type 0 where
  pub follows : Follows rest w es
  pub enough : IsEnough pairs w ps → IsEnough pairs w rest
  pub lower : IsLower (parts rest pairs w es) (parts ps pairs w es)

abbrev pub UnbegunOnesLower : Type 0
UnbegunOnesLower =
    (ps rest : Script) (pairs : List Held) (w : Stage) (es : List Event) (s : ℕ) → IsSession s → IsLegal w es → Follows ps w es → IsWithout ps s ((state w es).of s).begun rest → GoesOn ps rest pairs w es

-- The measure is one number, of parts below their bounds; so it falls with each event.
abbrev pub measure : Script → List Held → Stage → List Event → ℕ
measure ps pairs w es = weigh (bounds ps pairs) (parts ps pairs w es)

abbrev pub PartsAreBounded : Type 0
PartsAreBounded = (ps : Script) (pairs : List Held) (w : Stage) (es : List Event) → AllBelow (parts ps pairs w es) (bounds ps pairs)

abbrev pub LowerIsLess : Type 0
LowerIsLess = (limits xs ys : List ℕ) → AllBelow xs limits → AllBelow ys limits → IsLower xs ys → weigh limits xs < weigh limits ys

abbrev pub MeasureFalls : Type 0
MeasureFalls =
    (ps : Script) (pairs : List Held) (w : Stage) (es : List Event) (e : Event) → IsEnough pairs w ps → IsStage w → IsLegal w (e ∷ es) → Follows ps w (e ∷ es) → measure ps pairs w (e ∷ es) < measure ps pairs w es
