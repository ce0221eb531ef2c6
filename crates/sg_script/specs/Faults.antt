-- Faults of scripts, said of whole lists of lines.
use Rattle.std.specs.Prelude.{◌≡◌, ◌⊎◌, ℕ, ◌+◌, List, [], ◌∷◌, ◌++◌, length, Ok, Err, codes}
use Rattle.sg_script.specs.declared.faults.ScriptFault.{ScriptFault}
use Rattle.sg_script.specs.declared.faults.ScriptKind.TheVariants as kind
use Rattle.sg_script.specs.Grammar.{script_in}
use Rattle.sg_script.specs.Lines.{lines}
use Rattle.sg_script.specs.Plans.{Plan}

-- A text of these lines is read.
abbrev pub AreRead : List (List ℕ) → Type 0
AreRead ls = (text : List ℕ) × (plan : Plan) × (lines text ≡ ls) × (script_in text ≡ Ok plan)

-- The lines make a script as they are, or with the transaction closed that is open after them.
abbrev pub CanBeCompleted : List (List ℕ) → Type 0
CanBeCompleted ls = AreRead ls ⊎ AreRead (ls ++ codes "commit" ∷ [])

-- The fault stands at a line: those before it can be completed; with it they can't, and what stands behind it changes
-- nothing.
pub record IsAtLine (text : List ℕ) (f : ScriptFault) : Type 0 where
  pub before : List (List ℕ)
  pub line : List ℕ
  pub rest : List (List ℕ)
  pub splits : lines text ≡ before ++ line ∷ rest
  pub place : f.line ≡ length before + 1
  pub completed : CanBeCompleted before
  pub refused : (more : List (List ℕ)) → ¬ AreRead (before ++ line ∷ more)
  pub behind : (other : List ℕ) (more : List (List ℕ)) → lines other ≡ before ++ line ∷ more → script_in other ≡ Err f

-- The text ends with a transaction open: a commit would close it.
pub record IsAtEnd (text : List ℕ) (f : ScriptFault) : Type 0 where
  pub place : f.line ≡ length (lines text)
  pub end : f.kind ≡ kind.NotClosed
  pub completed : AreRead (lines text ++ codes "commit" ∷ [])

abbrev pub IsFault : List ℕ → ScriptFault → Type 0
IsFault text f = IsAtLine text f ⊎ IsAtEnd text f

-- the fault of a text, said of its lines
abbrev pub TellsFaults : Type 0
TellsFaults = (text : List ℕ) (f : ScriptFault) → script_in text ≡ Err f → IsFault text f
