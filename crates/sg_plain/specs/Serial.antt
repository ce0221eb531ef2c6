-- Transactions executed one after another, and the order in which a script's may be.
use Rattle.std.specs.Prelude.{◌≡◌, ℕ, ◌-◌, ◌≤◌, ◌<◌, List, [], ◌∷◌, ◌++◌, Some, slice_get, All, AllPairs, Contains}
use Rattle.sg_plain.specs.declared.statements.Statement.{Statement}
use Rattle.sg_plain.specs.declared.statements.Answer.{Answer}
use Rattle.sg_plain.specs.declared.transactions.End.TheVariants.{Commit}
use Rattle.sg_plain.specs.Rows.{Rows}
use Rattle.sg_plain.specs.Replies.{Means, PlainReply, effect}
use Rattle.sg_plain.specs.Transactions.{TransactionPlan, SessionPlan}

-- a transaction that committed: whose it was, its number there, its statements, and the answer kept for each
pub record Entry : Type 0 where
  pub session : ℕ
  pub transaction : ℕ
  pub statements : List Statement
  pub answers : List Answer

-- Each statement has an answer, which is allowed on the rows that those before it leave; new are the rows
-- that the last one leaves.
abbrev pub ExecutesBy : (Rows → Statement → Answer → Type 0) → Rows → List Statement → List Answer → Rows → Type 0
ExecutesBy Allows old [] [] new = new ≡ old
ExecutesBy Allows old (s ∷ statements) (a ∷ answers) new = Allows old s a × ExecutesBy Allows (effect s a old) statements answers new
-- no statement without an answer, and no answer without a statement
ExecutesBy Allows old statements answers new = ⊥

abbrev pub Executes : Rows → List Statement → List Answer → Rows → Type 0
Executes = ExecutesBy Means

-- new are the rows that some front of the statements leaves on a table without an index; the answers are given up
pub record StopsAfterFront (old : Rows) (statements : List Statement) (new : Rows) : Type 0 where
  pub front : List Statement
  pub rest : List Statement
  pub answers : List Answer
  pub all : front ++ rest ≡ statements
  pub executed : ExecutesBy PlainReply old front answers new

-- the same of a journal's transactions, one after another
abbrev pub SerialBy : (Rows → Statement → Answer → Type 0) → Rows → List Entry → Rows → Type 0
SerialBy Allows old [] new = new ≡ old
SerialBy Allows old (entry ∷ journal) new =
    (mid : Rows) × ExecutesBy Allows old entry.statements entry.answers mid × SerialBy Allows mid journal new

abbrev pub Serial : Rows → List Entry → Rows → Type 0
Serial = SerialBy Means

-- a transaction of the script that ends with commit, with all its statements in order
pub record IsCommitOf (sessions : List SessionPlan) (entry : Entry) : Type 0 where
  pub session : SessionPlan
  pub transaction : TransactionPlan
  pub of_script : Contains sessions session
  pub session_number : session.number ≡ entry.session
  pub counted_from_one : 1 ≤ entry.transaction
  pub at_its_number : slice_get session.transactions (entry.transaction - 1) ≡ Some transaction
  pub commits : transaction.end ≡ Commit
  pub statements : entry.statements ≡ transaction.statements

-- of two transactions of one session the later in the journal has the greater number
abbrev pub RisesInSession : Entry → Entry → Type 0
RisesInSession earlier later = earlier.session ≡ later.session → earlier.transaction < later.transaction

-- The journal is of the script's committing transactions, each session's in order, so none stands twice.
pub record ScriptOrder (sessions : List SessionPlan) (journal : List Entry) : Type 0 where
  pub commits : All (IsCommitOf sessions) journal
  pub in_order : AllPairs RisesInSession journal
