-- Which answers a statement allows on plain rows, which one it gets, and the rows that it leaves.
use Rattle.std.specs.Prelude.{◌≡◌, ℕ, List, length, Some, None, IsSome}
use Rattle.sg_shape.specs.declared.shapes.Shape.{Shape}
use Rattle.sg_shape.specs.declared.shapes.Shape.TheVariants as shape
use Rattle.sg_plain.specs.declared.statements.Query.{Query}
use Rattle.sg_plain.specs.declared.statements.Statement.{Statement}
use Rattle.sg_plain.specs.declared.statements.Statement.TheVariants.{Insert, Update, Delete, Get, Select, Filter, DeleteWhere}
use Rattle.sg_plain.specs.declared.statements.Statement.TheVariants as statement
use Rattle.sg_plain.specs.declared.statements.Answer.{Answer}
use Rattle.sg_plain.specs.declared.statements.Answer.TheVariants.{Inserted, Duplicate, Done, Missing, Absent, Found, Keys, Deleted}
use Rattle.sg_plain.specs.declared.statements.Answer.TheVariants as answer
use Rattle.sg_plain.specs.Rows.{Rows, shape_at, put, without_key, without_keys, IsKeysWith, CoversKeysWith}
use Rattle.sg_plain.specs.Sat.{Satisfies, Meeting}

-- the answers that a statement allows on these rows
abbrev pub Means : Rows → Statement → Answer → Type 0
Means rows (Insert k s) Inserted = shape_at rows k ≡ None
Means rows (Insert k s) Duplicate = IsSome (shape_at rows k)
Means rows (Update k s) Done = IsSome (shape_at rows k)
Means rows (Update k s) Missing = shape_at rows k ≡ None
Means rows (Delete k) Done = IsSome (shape_at rows k)
Means rows (Delete k) Missing = shape_at rows k ≡ None
Means rows (Get k) (Found s) = shape_at rows k ≡ Some s
Means rows (Get k) Absent = shape_at rows k ≡ None
Means rows (Select q) (Keys ks) = IsKeysWith (Satisfies q) rows ks
Means rows (Filter s) (Keys ks) = CoversKeysWith (Meeting s) rows ks
Means rows (DeleteWhere q) (Deleted ks) = IsKeysWith (Satisfies q) rows ks
-- a plan tells the keys of a select; its counts are as the table searches
Means rows (statement.Plan q) (answer.Plan candidates sure refined ks) = IsKeysWith (Satisfies q) rows ks
-- and no other
Means rows s a = ⊥

-- how many rows a search without an index looks at: each, or none where the shape that is asked for has no points
abbrev pub looked_at : Shape → Rows → ℕ
looked_at (shape.Empty kind) rows = 0
looked_at s rows = length rows

-- what such a search tells: each row that it looks at is tested
pub record IsScan (rows : Rows) (q : Query) (candidates sure refined : ℕ) (ks : List ℕ) : Type 0 where
  pub all : candidates ≡ looked_at q.shape rows
  pub none_sure : sure ≡ 0
  pub each_refined : refined ≡ candidates
  pub keys : IsKeysWith (Satisfies q) rows ks

-- The one answer of a table without an index: a filter is exact, a plan is of a scan, and all else leaves no choice.
abbrev pub PlainReply : Rows → Statement → Answer → Type 0
PlainReply rows (Filter s) (Keys ks) = IsKeysWith (Meeting s) rows ks
PlainReply rows (statement.Plan q) (answer.Plan candidates sure refined ks) = IsScan rows q candidates sure refined ks
PlainReply rows s a = Means rows s a

-- The statement takes memory on these rows, for a copy of a shape or for keys.
abbrev pub TakesMemory : Rows → Statement → Type 0
TakesMemory rows (Insert k s) = shape_at rows k ≡ None
TakesMemory rows (Update k s) = IsSome (shape_at rows k)
TakesMemory rows (Delete k) = ⊥
TakesMemory rows (Get k) = IsSome (shape_at rows k)
TakesMemory rows other = Unit {0}

-- the rows that a statement leaves, given its answer
abbrev pub effect : Statement → Answer → Rows → Rows
effect (Insert k s) Inserted rows = put k s rows
effect (Update k s) Done rows = put k s rows
effect (Delete k) Done rows = without_key k rows
effect (DeleteWhere q) (Deleted ks) rows = without_keys ks rows
-- all else changes nothing
effect s a rows = rows
