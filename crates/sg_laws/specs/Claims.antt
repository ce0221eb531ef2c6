-- What holds after each event of a legal trace.
use Rattle.std.specs.Prelude.{◌↔◌, ◌≡◌, ℕ, List}
use Rattle.sg_cells.specs.declared.keys.Key.{Key}
use Rattle.sg_trace.specs.Traces.{Stage, Event, state}
use Rattle.sg_trace.specs.Legal.{IsStage, IsLegal}
use Rattle.sg_laws.specs.Changes.{Replays}
use Rattle.sg_laws.specs.Invariant.{IsSoundState}
use Rattle.sg_laws.specs.Ends.{KeysRise, ArePresentKeys}
use Rattle.sg_cells.specs.Laws.{Has}

-- ---- what holds after each event
abbrev pub StatesAreSound : Type 0
StatesAreSound = (w : Stage) (es : List Event) → IsStage w → IsLegal w es → IsSoundState w.settings (state w es)

-- No phantom: each answer that a live session was given is the one that it would be given now, whatever others have committed.
abbrev pub IsStable : Stage → List Event → Type 0
IsStable w es = (s : ℕ) → Replays w.settings (state w es).rows ((state w es).of s).done

abbrev pub NoPhantom : Type 0
NoPhantom = (w : Stage) (es : List Event) → IsStage w → IsLegal w es → IsStable w es

-- the present keys as a list, which is the only rising one that has them
abbrev pub PresentKeysAreListed : Type 0
PresentKeysAreListed = (w : Stage) (es : List Event) → IsStage w → IsLegal w es → ArePresentKeys w es

abbrev pub RisingKeysAreOne : Type 0
RisingKeysAreOne = (xs ys : List Key) → KeysRise xs → KeysRise ys → ((k : Key) → Has xs k ↔ Has ys k) → xs ≡ ys
