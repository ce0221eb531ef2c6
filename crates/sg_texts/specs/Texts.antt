-- The text of a report. Each line ends with a line feed, which is byte 10.
use Rattle.std.specs.Prelude.{ℕ, List, [], ◌∷◌, ◌++◌, length, codes}
use Rattle.std.specs.Fmt.{decimal}
use Rattle.std.specs.List.{flat_map, enumerate_from}
use Rattle.sg_shape.specs.declared.shapes.Shape.{Shape}
use Rattle.sg_plain.specs.declared.statements.Answer.{Answer}
use Rattle.sg_plain.specs.declared.statements.Answer.TheVariants.{Inserted, Duplicate, Done, Missing, Absent, Found, Keys, Deleted, Plan}
use Rattle.sg_plain.specs.Rows.{Rows}
use Rattle.sg_wkt.specs.Canonical.{canonical}
use Rattle.sg_texts.specs.declared.others.Ending.{Ending}
use Rattle.sg_texts.specs.declared.others.Ending.TheVariants.{RolledBack, Victim, NoMemory}
use Rattle.sg_texts.specs.declared.others.Other.{Other}

-- a transaction that committed: whose it was, its number there, and what its statements answered
pub record Commit : Type 0 where
  pub session : ℕ
  pub transaction : ℕ
  pub answers : List Answer

-- a number after a space
abbrev pub spaced : ℕ → List ℕ
spaced n = codes " " ++ decimal n

abbrev pub keys_text : List ℕ → List ℕ
keys_text ks = flat_map spaced ks

abbrev pub answer_text : Answer → List ℕ
answer_text Inserted = codes "inserted"
answer_text Duplicate = codes "duplicate"
answer_text Done = codes "done"
answer_text Missing = codes "missing"
answer_text Absent = codes "none"
answer_text (Found s) = codes "shape " ++ canonical s
answer_text (Keys ks) = codes "keys" ++ keys_text ks
answer_text (Deleted ks) = codes "deleted" ++ keys_text ks
answer_text (Plan candidates sure refined ks) =
    codes "plan" ++ spaced candidates ++ spaced sure ++ spaced refined ++ codes " keys" ++ keys_text ks

-- the answer after two spaces
abbrev pub answer_line : Answer → List ℕ
answer_line answer = codes "  " ++ answer_text answer ++ 10 ∷ []

-- whose a transaction was, and its number there
abbrev pub owner_text : ℕ → ℕ → List ℕ
owner_text session transaction = codes " session " ++ decimal session ++ codes " transaction " ++ decimal transaction

-- the commit at a place, with its answers below it
abbrev pub commit_text : ℕ × Commit → List ℕ
commit_text (place, commit) =
    codes "commit " ++ decimal place ++ owner_text commit.session commit.transaction ++ 10 ∷ []
    ++ flat_map answer_line commit.answers

-- places count from 1
abbrev pub commits_text : List Commit → List ℕ
commits_text commits = flat_map commit_text (enumerate_from 1 commits)

-- the sessions of a cycle of waits
abbrev pub cycle_text : List ℕ → List ℕ
cycle_text cycle = codes " cycle" ++ flat_map spaced cycle

-- what stands before the owner of a transaction that ended so, and behind
abbrev pub ending_text : Ending → List ℕ
ending_text RolledBack = codes "rolled back"
ending_text (Victim cycle) = codes "victim"
ending_text NoMemory = codes "no memory"

abbrev pub ending_tail : Ending → List ℕ
ending_tail RolledBack = []
ending_tail (Victim cycle) = cycle_text cycle
ending_tail NoMemory = []

abbrev pub other_text : Other → List ℕ
other_text other =
    ending_text other.ending ++ owner_text other.session other.transaction ++ ending_tail other.ending ++ 10 ∷ []

-- the key and the shape after two spaces
abbrev pub row_line : ℕ × Shape → List ℕ
row_line row = codes "  " ++ decimal row.0 ++ codes " " ++ canonical row.1 ++ 10 ∷ []

-- of what there are how many
abbrev pub count_line : List ℕ → ℕ → List ℕ
count_line things count = things ++ decimal count ++ 10 ∷ []

-- how many rows there are, and each of them
abbrev pub rows_text : Rows → List ℕ
rows_text rows = count_line (codes "rows ") (length rows) ++ flat_map row_line rows
