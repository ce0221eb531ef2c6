-- When a row's shape satisfies a query, and which queries and statements are sound.
use Rattle.std.specs.Prelude.{◌≤◌, List, All}
use Rattle.sg_shape.specs.declared.shapes.Shape.{Shape}
use Rattle.sg_shape.specs.declared.matrices.Pred.TheVariants.{Intersects}
use Rattle.sg_shape.specs.Matrix.{Relates}
use Rattle.sg_shape.specs.Near.{Near}
use Rattle.sg_shape.specs.Sound.{IsSound}
use Rattle.sg_plain.specs.declared.statements.Test.{Test}
use Rattle.sg_plain.specs.declared.statements.Test.TheVariants as test
use Rattle.sg_plain.specs.declared.statements.Query.{Query}
use Rattle.sg_plain.specs.declared.statements.Statement.{Statement}
use Rattle.sg_plain.specs.declared.statements.Statement.TheVariants as statement
use Rattle.sg_plain.specs.declared.statements.Answer.{Answer}
use Rattle.sg_plain.specs.declared.statements.Answer.TheVariants as answer

-- the test holds of a row's shape, which comes first, and a query's
abbrev pub Sat : Test → Shape → Shape → Type 0
Sat (test.Relate pred) row query = Relates pred row query
Sat (test.Near bound strict) row query = Near row query bound strict

-- the row's shape satisfies the query
abbrev pub Satisfies : Query → Shape → Type 0
Satisfies q row = Sat q.test row q.shape

-- the row's shape has a common point with this one
abbrev pub Meeting : Shape → Shape → Type 0
Meeting shape row = Relates Intersects row shape

-- a bound of distances is within its limit
abbrev pub IsSoundTest : Test → Type 0
IsSoundTest (test.Relate pred) = Unit {0}
IsSoundTest (test.Near bound strict) = bound ≤ 64000000

pub record IsSoundQuery (q : Query) : Type 0 where
  pub test : IsSoundTest q.test
  pub shape : IsSound q.shape

-- each shape that the statement names is sound, and so is each bound
abbrev pub IsSoundStatement : Statement → Type 0
IsSoundStatement (statement.Insert k s) = IsSound s
IsSoundStatement (statement.Update k s) = IsSound s
IsSoundStatement (statement.Delete k) = Unit {0}
IsSoundStatement (statement.Get k) = Unit {0}
IsSoundStatement (statement.Select q) = IsSoundQuery q
IsSoundStatement (statement.Filter s) = IsSound s
IsSoundStatement (statement.DeleteWhere q) = IsSoundQuery q
IsSoundStatement (statement.Plan q) = IsSoundQuery q

abbrev pub AreSound : List Statement → Type 0
AreSound statements = All IsSoundStatement statements

-- a shape that the answer tells is sound
abbrev pub IsSoundAnswer : Answer → Type 0
IsSoundAnswer answer.Inserted = Unit {0}
IsSoundAnswer answer.Duplicate = Unit {0}
IsSoundAnswer answer.Done = Unit {0}
IsSoundAnswer answer.Missing = Unit {0}
IsSoundAnswer answer.Absent = Unit {0}
IsSoundAnswer (answer.Found s) = IsSound s
IsSoundAnswer (answer.Keys ks) = Unit {0}
IsSoundAnswer (answer.Deleted ks) = Unit {0}
IsSoundAnswer (answer.Plan candidates sure refined ks) = Unit {0}

abbrev pub AreSoundAnswers : List Answer → Type 0
AreSoundAnswers answers = All IsSoundAnswer answers
