-- What turns of sessions leave of a run, one after another.
use Rattle.std.specs.Prelude.{◌≡◌, ◌⊎◌, ℕ, zero, suc, true, List, [], ◌∷◌}
use Rattle.sg_modes.specs.Sessions.{IsSession}
use Rattle.sg_script.specs.Plans.{Plan, numbers_of}
use Rattle.sg_engine.specs.Stepping.{IsStanding}
use Rattle.sg_run.specs.Runs.{RunShown, has_ended, IsRun}
use Rattle.sg_run.specs.Turns.{IsFree, HasGoneOn, HasLeft}

-- the session can't turn: it has no transaction left, or a wait of it stands
abbrev pub IsStuck : RunShown → ℕ → Type 0
IsStuck v s = (has_ended v s ≡ true) ⊎ IsStanding v.engine s

-- A turn of the session with its refinement, if there was one: nothing where the session is stuck; else the run went
-- on by one label and those of the victims that it brought, or the session's next transaction was left unbegun.
abbrev pub Moves : ℕ → RunShown → RunShown → Type 0
Moves s old new = (IsStuck old s × (new ≡ old)) ⊎ (IsFree old s × (HasGoneOn s old new ⊎ HasLeft s old new))

-- and what it left is a run
pub record HasMoved (s : ℕ) (old new : RunShown) : Type 0 where
  pub session : IsSession s
  pub moves : Moves s old new
  pub legal : IsRun new

-- these turns, the last one first, lead from the one to the other
abbrev pub Leads : List ℕ → RunShown → RunShown → Type 0
Leads [] old new = new ≡ old
Leads (s ∷ ts) old new = (between : RunShown) × Leads ts old between × HasMoved s between new

-- the sessions of a list, the last one first, and then those that came before
abbrev pub after_turns : List ℕ → List ℕ → List ℕ
after_turns [] before = before
after_turns (s ∷ ss) before = after_turns ss (s ∷ before)

-- rounds of the script's sessions by rising number
abbrev pub after_rounds : Plan → ℕ → List ℕ → List ℕ
after_rounds plan zero before = before
after_rounds plan (suc n) before = after_turns (numbers_of plan.sessions) (after_rounds plan n before)

-- the turns of the script's order, and then so many rounds
abbrev pub turns_of : Plan → ℕ → List ℕ
turns_of plan rounds = after_rounds plan rounds (after_turns plan.order [])

-- The run was finished: it is what so many rounds left, as many as it took until all had ended.
pub record IsFinished (old new : RunShown) : Type 0 where
  pub rounds : ℕ
  pub leads : Leads (after_rounds old.script rounds []) old new
  pub ended : (s : ℕ) → IsSession s → has_ended new s ≡ true

-- The run was driven: it is what these turns left, with as many rounds as it took until all had ended.
pub record IsDriven (old new : RunShown) : Type 0 where
  pub rounds : ℕ
  pub leads : Leads (turns_of old.script rounds) old new
  pub ended : (s : ℕ) → IsSession s → has_ended new s ≡ true
