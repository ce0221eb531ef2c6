-- The rows of a parse: a row that is put, and what is found then.
use Rattle.std.proofs.Common.{◌≡◌, Bool, true, false, ◌||◌, List, [], ◌∷◌, ◌++◌, refl, ap, ◌∙◌, append-nil, Option, Some, None, codes}
use Rattle.std.specs.Prelude.{if◌then◌else◌, find, option_and_then, is_some, bytes_eq}
use Rattle.std.proofs.lemmas.Slice.Eq.{bytes_eq-Decides}
use Rattle.clap.specs.Walk.{Row, Rule, Text, at_row, without, with_values, more_values, row_text, with_default, has_row, one_of, reading_by}
use Rattle.clap.specs.Simple.{filled}
use Rattle.clap.specs.Values.{bool_text}
use Rattle.clap.specs.declared.builder.value_parser.Reading.{Reading}
use Rattle.clap.specs.declared.parser.matches.ValueSource.{ValueSource}
use Rattle.clap.specs.declared.parser.matches.ValueSource.TheVariants.{CommandLine, DefaultValue}
use Rattle.sg_command.specs.Usage.{flag_rule}

-- the row of an id
abbrev pub look : Text → List Row → Option Row
look id rows = find (λ r. bytes_eq r.id id) rows

pub same_id : (id : Text) → bytes_eq id id ≡ true
same_id id = (bytes_eq-Decides id id).1 refl

some_none : {X : Type 0} {x : X} → Some x ≡ None → ⊥
some_none e = cc

pub has_look : (id : Text) (rows : List Row) → has_row id rows ≡ is_some (look id rows)
has_look id [] = refl
has_look id (r ∷ rs) = here (bytes_eq r.id id) (has_look id rs)
  where
    here : (b : Bool) → has_row id rs ≡ is_some (look id rs) → (b || has_row id rs) ≡ is_some (if b then Some r else look id rs)
    here true rest = refl
    here false rest = rest

-- the rows have no such row, and get one at the end
pub absent : (id : Text) (change : Row → List Row) (missing rows : List Row) → look id rows ≡ None → at_row id change missing rows ≡ rows ++ missing
absent id change missing [] e = refl
absent id change missing (r ∷ rs) e = here (bytes_eq r.id id) (absent id change missing rs) e
  where
    here : (b : Bool) → (look id rs ≡ None → at_row id change missing rs ≡ rs ++ missing) → (if b then Some r else look id rs) ≡ None → (if b then change r ++ rs else r ∷ at_row id change missing rs) ≡ r ∷ (rs ++ missing)
    here true rest e = absurd (some_none e)
    here false rest e = ap (λ l. r ∷ l) (rest e)

pub none_without : (id : Text) (rows : List Row) → look id rows ≡ None → without id rows ≡ rows
none_without id rows e = absent id (λ _. []) [] rows e ∙ append-nil rows

pub look_put : (id : Text) (r : Row) (rows : List Row) → look id rows ≡ None → bytes_eq r.id id ≡ true → look id (rows ++ r ∷ []) ≡ Some r
look_put id r [] e same = rw same refl
look_put id r (x ∷ xs) e same = here (bytes_eq x.id id) (λ none. look_put id r xs none same) e
  where
    here : (b : Bool) → (look id xs ≡ None → look id (xs ++ r ∷ []) ≡ Some r) → (if b then Some x else look id xs) ≡ None → (if b then Some x else look id (xs ++ r ∷ [])) ≡ Some r
    here true rest e = absurd (some_none e)
    here false rest e = rest e

pub look_other : (id : Text) (r : Row) (rows : List Row) → bytes_eq r.id id ≡ false → look id (rows ++ r ∷ []) ≡ look id rows
look_other id r [] e = rw e refl
look_other id r (x ∷ xs) e = ap (λ o. if bytes_eq x.id id then Some x else o) (look_other id r xs e)

abbrev pub new_row : Text → Reading → ValueSource → List Text → Row
new_row id how s values = record { id = id; values = values; count = None; source = Some s; reading = how }

-- a use of an argument that was not used before
pub put : (id : Text) (how : Reading) (s : ValueSource) (values : List Text) (rows : List Row) → look id rows ≡ None
    → with_values id how s values (without id rows) ≡ rows ++ new_row id how s values ∷ []
put id how s values rows e = ap (with_values id how s values) (none_without id rows e) ∙ absent id (more_values s values) (new_row id how s values ∷ []) rows e

-- ---- flags

abbrev pub flag : Text → Rule
flag id = filled (flag_rule id)

abbrev pub flag_row : Text → Row
flag_row id = new_row id (reading_by (flag id)) CommandLine (codes "true" ∷ [])

abbrev pub flag_default : Text → Row
flag_default id = new_row id (reading_by (flag id)) DefaultValue (codes "false" ∷ [])

flag_given : (id : Text) (rows : List Row) → look id rows ≡ Some (flag_row id) → with_default rows (flag id) ≡ rows
flag_given id rows e = let h : has_row id rows ≡ true = has_look id rows ∙ ap is_some e in rw h refl

flag_missing : (id : Text) (rows : List Row) → look id rows ≡ None → with_default rows (flag id) ≡ rows ++ flag_default id ∷ []
flag_missing id rows e =
    let h : has_row id rows ≡ false = has_look id rows ∙ ap is_some e in
    rw h (absent id (more_values DefaultValue (codes "false" ∷ [])) (flag_default id ∷ []) rows e)

pub flag_last : (id : Text) (rows : List Row) (b : Bool) → look id rows ≡ (if b then Some (flag_row id) else None) → one_of id (with_default rows (flag id)) ≡ Some (bool_text b)
flag_last id rows true e = ap (λ l. one_of id l) (flag_given id rows e) ∙ ap (option_and_then row_text) e
flag_last id rows false e = ap (λ l. one_of id l) (flag_missing id rows e) ∙ ap (option_and_then row_text) (look_put id (flag_default id) rows e (same_id id))

pub other_last : (id other : Text) (rows : List Row) (b : Bool) → look id rows ≡ (if b then Some (flag_row id) else None) → bytes_eq id other ≡ false → look other (with_default rows (flag id)) ≡ look other rows
other_last id other rows true e d = ap (look other) (flag_given id rows e)
other_last id other rows false e d = ap (look other) (flag_missing id rows e) ∙ look_other other (flag_default id) rows d

-- no row comes by itself for an argument that has no default
pub no_default : (a : Rule) (rows : List Row) → a.defaults ≡ [] → with_default rows a ≡ rows
no_default a rows e = rw e (either (has_row a.id rows))
  where
    either : (b : Bool) → (if b then rows else rows) ≡ rows
    either true = refl
    either false = refl
