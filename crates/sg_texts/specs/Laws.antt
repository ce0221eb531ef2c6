-- What fits into the texts of commits, of other transactions and of rows.
use Rattle.std.specs.Prelude.{ℕ, ◌<◌, ◌^◌, List, All}
use Rattle.sg_modes.specs.Sessions.{IsSession, AreSessions}
use Rattle.sg_shape.specs.declared.shapes.Shape.{Shape}
use Rattle.sg_shape.specs.Sound.{IsSound}
use Rattle.sg_plain.specs.declared.statements.Answer.{Answer}
use Rattle.sg_plain.specs.declared.statements.Answer.TheVariants.{Inserted, Duplicate, Done, Missing, Absent, Found, Keys, Deleted, Plan}
use Rattle.sg_texts.specs.Texts.{Commit}
use Rattle.sg_texts.specs.declared.others.Ending.{Ending}
use Rattle.sg_texts.specs.declared.others.Ending.TheVariants.{RolledBack, Victim, NoMemory}
use Rattle.sg_texts.specs.declared.others.Other.{Other}

-- Keys have 32 bits, and counts and numbers of transactions 64: so it is in each report of a program.
abbrev pub AreKeys : List ℕ → Type 0
AreKeys ks = All (λ k. k < 2 ^ 32) ks

pub record IsPlanned (candidates sure refined : ℕ) (ks : List ℕ) : Type 0 where
  pub first : candidates < 2 ^ 64
  pub second : sure < 2 ^ 64
  pub third : refined < 2 ^ 64
  pub keys : AreKeys ks

-- the keys and counts of an answer fit, and its shape is sound
abbrev pub IsAnswer : Answer → Type 0
IsAnswer Inserted = Unit {0}
IsAnswer Duplicate = Unit {0}
IsAnswer Done = Unit {0}
IsAnswer Missing = Unit {0}
IsAnswer Absent = Unit {0}
IsAnswer (Found s) = IsSound s
IsAnswer (Keys ks) = AreKeys ks
IsAnswer (Deleted ks) = AreKeys ks
IsAnswer (Plan candidates sure refined ks) = IsPlanned candidates sure refined ks

pub record IsCommit (commit : Commit) : Type 0 where
  pub session : IsSession commit.session
  pub transaction : commit.transaction < 2 ^ 64
  pub answers : All IsAnswer commit.answers

abbrev pub IsEnding : Ending → Type 0
IsEnding RolledBack = Unit {0}
IsEnding (Victim cycle) = AreSessions cycle
IsEnding NoMemory = Unit {0}

pub record IsOther (other : Other) : Type 0 where
  pub session : IsSession other.session
  pub transaction : other.transaction < 2 ^ 64
  pub ending : IsEnding other.ending

pub record IsRow (row : ℕ × Shape) : Type 0 where
  pub key : row.0 < 2 ^ 32
  pub shape : IsSound row.1
