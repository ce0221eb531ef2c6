-- Worked texts of reports.
use Rattle.std.proofs.Common.{◌≡◌, ℕ, List, [], ◌∷◌, ◌++◌, pos, negsuc, refl, codes}
use Rattle.std.specs.Prelude.{Some, None}
use Rattle.std.specs.Fmt.{digits}
use Rattle.sg_shape.specs.declared.shapes.Kind.TheVariants as kind
use Rattle.sg_shape.specs.declared.shapes.Shape.TheVariants as shapes
use Rattle.sg_plain.specs.declared.statements.Answer.TheVariants.{Inserted, Duplicate, Done, Missing, Absent, Found, Keys, Deleted, Plan}
use Rattle.sg_cells.specs.declared.keys.Key.TheVariants as key
use Rattle.sg_modes.specs.declared.modes.Mode.TheVariants as mode
use Rattle.sg_trace.specs.declared.labels.Cause.TheVariants as cause
use Rattle.sg_trace.specs.declared.labels.Label.TheVariants as label
use Rattle.sg_texts.specs.declared.others.Ending.TheVariants.{RolledBack, Victim, NoMemory}
use Rattle.sg_texts.specs.Told.{Told, told_text}

line : List ℕ → List ℕ
line text = text ++ 10 ∷ []

nothing : told_text (record { commits = []; others = []; rows = []; labels = None; schedule = None }) ≡ line (codes "rows 0")
unfolding digits line
nothing = refl

one_commit : Told
one_commit = record {
  commits = record { session = 1; transaction = 1; answers = Inserted ∷ Keys (1 ∷ []) ∷ [] } ∷ [];
  others = [];
  rows = (1, shapes.Point (record { x = pos 3; y = pos 4 })) ∷ [];
  labels = None;
  schedule = None;
}

commits :
    told_text one_commit
    ≡ line (codes "commit 1 session 1 transaction 1")
    ++ line (codes "  inserted")
    ++ line (codes "  keys 1")
    ++ line (codes "rows 1")
    ++ line (codes "  1 POINT (3 4)")
unfolding digits line one_commit
commits = refl

-- a later session's commit comes first where it was first
with_a_rollback : Told
with_a_rollback = record {
  commits =
      record { session = 64; transaction = 2; answers = Duplicate ∷ Keys [] ∷ Keys (7 ∷ 10 ∷ 4294967295 ∷ []) ∷ [] }
      ∷ record { session = 1; transaction = 3; answers = [] }
      ∷ [];
  others = record { session = 1; transaction = 12; ending = RolledBack } ∷ [];
  rows = (7, shapes.Empty kind.Polygon) ∷ (10, shapes.Empty kind.Point) ∷ [];
  labels = None;
  schedule = None;
}

rollbacks :
    told_text with_a_rollback
    ≡ line (codes "commit 1 session 64 transaction 2")
    ++ line (codes "  duplicate")
    ++ line (codes "  keys")
    ++ line (codes "  keys 7 10 4294967295")
    ++ line (codes "commit 2 session 1 transaction 3")
    ++ line (codes "rolled back session 1 transaction 12")
    ++ line (codes "rows 2")
    ++ line (codes "  7 POLYGON EMPTY")
    ++ line (codes "  10 POINT EMPTY")
unfolding digits line with_a_rollback
rollbacks = refl

-- ---- every answer
answers : Told
answers = record {
  commits =
      record {
        session = 1;
        transaction = 2;
        answers =
            Done ∷ Missing ∷ Absent ∷ Found (shapes.Point (record { x = pos 0; y = negsuc 8 })) ∷ Deleted [] ∷ Deleted (1 ∷ 2 ∷ []) ∷ Plan 0 0 0 [] ∷ Plan 12 3 9 (1 ∷ 20 ∷ []) ∷ [];
      }
      ∷ [];
  others = [];
  rows = [];
  labels = None;
  schedule = None;
}

every_answer :
    told_text answers
    ≡ line (codes "commit 1 session 1 transaction 2")
    ++ line (codes "  done")
    ++ line (codes "  missing")
    ++ line (codes "  none")
    ++ line (codes "  shape POINT (0 -9)")
    ++ line (codes "  deleted")
    ++ line (codes "  deleted 1 2")
    ++ line (codes "  plan 0 0 0 keys")
    ++ line (codes "  plan 12 3 9 keys 1 20")
    ++ line (codes "rows 0")
unfolding digits line answers
every_answer = refl

-- ---- labels and endings
-- a phantom that waits
phantom : Told
phantom = record {
  commits =
      record { session = 1; transaction = 1; answers = Keys [] ∷ Keys [] ∷ [] }
      ∷ record { session = 2; transaction = 1; answers = Inserted ∷ [] }
      ∷ [];
  others = [];
  rows = (1, shapes.Point (record { x = pos 5; y = pos 5 })) ∷ [];
  labels =
      Some (label.Begin 1 1
      ∷ label.Ask 1 1
      ∷ label.Take 1 key.CellEnd mode.RangeSS
      ∷ label.Answer 1 (Keys [])
      ∷ label.Begin 2 1
      ∷ label.Ask 2 1
      ∷ label.Put 2 (key.Row 1) mode.X
      ∷ label.Wait 2 key.CellEnd mode.RangeIN (1 ∷ [])
      ∷ label.Ask 1 2
      ∷ label.Answer 1 (Keys [])
      ∷ label.Commit 1 1
      ∷ label.Put 2 (key.Cell (0 ∷ 2 ∷ 0 ∷ 10 ∷ []) 1) mode.X
      ∷ label.Answer 2 Inserted
      ∷ label.Commit 2 2
      ∷ []);
  schedule = Some (1 ∷ 1 ∷ 1 ∷ 1 ∷ 2 ∷ 2 ∷ 2 ∷ 2 ∷ 1 ∷ 1 ∷ 1 ∷ 2 ∷ 2 ∷ 2 ∷ []);
}

phantom_told :
    told_text phantom
    ≡ line (codes "commit 1 session 1 transaction 1")
    ++ line (codes "  keys")
    ++ line (codes "  keys")
    ++ line (codes "commit 2 session 2 transaction 1")
    ++ line (codes "  inserted")
    ++ line (codes "rows 1")
    ++ line (codes "  1 POINT (5 5)")
    ++ line (codes "labels 14")
    ++ line (codes "  session 1 begin 1")
    ++ line (codes "  session 1 ask 1")
    ++ line (codes "  session 1 take cell end RangeS-S")
    ++ line (codes "  session 1 answer keys")
    ++ line (codes "  session 2 begin 1")
    ++ line (codes "  session 2 ask 1")
    ++ line (codes "  session 2 put row 1 X")
    ++ line (codes "  session 2 wait cell end RangeI-N for 1")
    ++ line (codes "  session 1 ask 2")
    ++ line (codes "  session 1 answer keys")
    ++ line (codes "  session 1 commit 1")
    ++ line (codes "  session 2 put cell 0.2.0.10 row 1 X")
    ++ line (codes "  session 2 answer inserted")
    ++ line (codes "  session 2 commit 2")
    ++ line (codes "schedule 1 1 1 1 2 2 2 2 1 1 1 2 2 2")
unfolding digits line phantom
phantom_told = refl

-- every ending, and the labels that tell of them
endings : Told
endings = record {
  commits = [];
  others =
      record { session = 1; transaction = 2; ending = RolledBack }
      ∷ record { session = 2; transaction = 1; ending = Victim (1 ∷ 2 ∷ []) }
      ∷ record { session = 2; transaction = 3; ending = NoMemory }
      ∷ [];
  rows = [];
  labels =
      Some (label.Victim 2 (1 ∷ 2 ∷ [])
      ∷ label.Rollback 1 cause.Asked
      ∷ label.Put 2 (key.Cell [] 7) mode.X
      ∷ label.Wait 2 key.RowEnd mode.RangeXX (1 ∷ 64 ∷ [])
      ∷ label.Rollback 2 cause.NoMemory
      ∷ []);
  schedule = None;
}

endings_told :
    told_text endings
    ≡ line (codes "rolled back session 1 transaction 2")
    ++ line (codes "victim session 2 transaction 1 cycle 1 2")
    ++ line (codes "no memory session 2 transaction 3")
    ++ line (codes "rows 0")
    ++ line (codes "labels 5")
    ++ line (codes "  session 2 victim cycle 1 2")
    ++ line (codes "  session 1 rollback asked")
    ++ line (codes "  session 2 put cell out row 7 X")
    ++ line (codes "  session 2 wait row end RangeX-X for 1 64")
    ++ line (codes "  session 2 rollback memory")
unfolding digits line endings
endings_told = refl
