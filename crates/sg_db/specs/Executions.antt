-- What a caller's calls add to the history, and what the execution of a statement may be.
use Rattle.std.specs.Prelude.{◌≡◌, ◌⊎◌, ℕ, suc, Bool, true, false, cond, List, [], ◌∷◌, ◌++◌, Some}
use Rattle.sg_cells.specs.Laws.{Has}
use Rattle.sg_plain.specs.declared.statements.Statement.{Statement}
use Rattle.sg_plain.specs.declared.statements.Answer.{Answer}
use Rattle.sg_trace.specs.declared.labels.Cause.TheVariants.{Asked, NoMemory}
use Rattle.sg_trace.specs.Traces.{Stage, Event, Begin, Ask, Take, Put, Wait, Victim, Answered, Commit, Rollback, Local}
use Rattle.sg_history.specs.Histories.{own}
use Rattle.sg_history.specs.Staying.{local, IsClosed}

-- ---- kinds of events
-- a step of an open statement that doesn't answer it
abbrev pub is_step : Event → Bool
is_step (Take s k m) = true
is_step (Put s k m) = true
is_step (Wait s k m b) = true
is_step (Begin s t) = false
is_step (Ask s n st) = false
is_step (Victim s c) = false
is_step (Answered s a) = false
is_step (Commit s p) = false
is_step (Rollback s c) = false

abbrev pub AreSteps : List Event → Type 0
AreSteps [] = Unit {0}
AreSteps (e ∷ es) = (is_step e ≡ true) × AreSteps es

-- an event that ends a transaction as its caller asks
abbrev pub is_asked_for : Event → Bool
is_asked_for (Commit s p) = true
is_asked_for (Rollback s Asked) = true
is_asked_for (Rollback s NoMemory) = false
is_asked_for (Begin s t) = false
is_asked_for (Ask s n st) = false
is_asked_for (Take s k m) = false
is_asked_for (Put s k m) = false
is_asked_for (Wait s k m b) = false
is_asked_for (Victim s c) = false
is_asked_for (Answered s a) = false

-- none of them ends a transaction so
abbrev pub EndsNone : List Event → Type 0
EndsNone [] = Unit {0}
EndsNone (e ∷ es) = (is_asked_for e ≡ false) × EndsNone es

-- the session wasn't made a victim in these
abbrev pub NoVictim : ℕ → List Event → Type 0
NoVictim s more = (c : List ℕ) → Has more (Victim s c) → ⊥

-- ---- what is left of the session
-- it has a statement open
pub record IsAsking (x : Local) : Type 0 where
  pub live : x.live ≡ true
  pub statement : Statement
  pub open_one : x.open_one ≡ Some statement

-- it has a transaction and nothing open in it
pub record IsLiveClosed (x : Local) : Type 0 where
  pub live : x.live ≡ true
  pub closed : IsClosed x

-- it has no transaction
pub record IsOver (x : Local) : Type 0 where
  pub live : x.live ≡ false
  pub closed : IsClosed x

-- a transaction is begun exactly where there is none
abbrev pub begins_for : ℕ → Local → List Event
begins_for s x = cond x.live [] (Begin s (suc x.begun) ∷ [])

-- ---- executions
-- In all that follows more is what came on top of what the seat had seen.
-- The statement was asked for, in a transaction that was begun where there was none; its steps are these so far, and
-- it is open.
pub record IsGoing (s : ℕ) (st : Statement) (w : Stage) (seen more : List Event) : Type 0 where
  pub number : ℕ
  pub steps : List Event
  pub own : own s more ≡ steps ++ Ask s number st ∷ begins_for s (local w seen s)
  pub are_steps : AreSteps steps
  pub none : NoVictim s more
  pub asking : IsAsking (local w (more ++ seen) s)

-- The statement was asked for, in a transaction that was begun where there was none, and got this answer after some
-- steps. The transaction is live.
pub record IsExecuted (s : ℕ) (st : Statement) (a : Answer) (w : Stage) (seen more : List Event) : Type 0 where
  pub number : ℕ
  pub steps : List Event
  pub own : own s more ≡ Answered s a ∷ (steps ++ Ask s number st ∷ begins_for s (local w seen s))
  pub are_steps : AreSteps steps
  pub none : NoVictim s more
  pub live : IsLiveClosed (local w (more ++ seen) s)

-- The session was made a victim with this cycle, once, and has no transaction.
pub record IsYielded (s : ℕ) (c : List ℕ) (w : Stage) (seen more : List Event) : Type 0 where
  pub victim : Has more (Victim s c)
  pub once : (d : List ℕ) → Has more (Victim s d) → d ≡ c
  pub ends : EndsNone (own s more)
  pub over : IsOver (local w (more ++ seen) s)

-- There was no memory: the transaction ended for want of it, or there was none and none was begun.
pub record IsRanOut (s : ℕ) (w : Stage) (seen more : List Event) : Type 0 where
  pub last : ((local w seen s).live ≡ false) × (own s more ≡ []) ⊎ ((rest : List Event) × (own s more ≡ Rollback s NoMemory ∷ rest))
  pub none : NoVictim s more
  pub ends : EndsNone (own s more)
  pub over : IsOver (local w (more ++ seen) s)

-- ---- parts of an execution
-- only steps came, and the statement is still open
pub record IsStillGoing (s : ℕ) (w : Stage) (seen more : List Event) : Type 0 where
  pub are_steps : AreSteps (own s more)
  pub none : NoVictim s more
  pub asking : IsAsking (local w (more ++ seen) s)

-- the open statement got this answer
pub record GotAnswer (s : ℕ) (a : Answer) (w : Stage) (seen more : List Event) : Type 0 where
  pub own : own s more ≡ Answered s a ∷ []
  pub none : NoVictim s more
  pub live : IsLiveClosed (local w (more ++ seen) s)

-- a transaction was begun where there was none
pub record HasBegun (s : ℕ) (w : Stage) (seen more : List Event) : Type 0 where
  pub own : own s more ≡ begins_for s (local w seen s)
  pub none : NoVictim s more
  pub live : IsLiveClosed (local w (more ++ seen) s)
