-- Answers tell sound shapes.
use Rattle.std.proofs.Common.{◌≡◌, ℕ, List, [], ◌∷◌, Some, Result, Ok, Err, sym, ◌∙◌, subst, inl, inr}
use Rattle.std.specs.Prelude.{IfOk}
use Rattle.std.proofs.lemmas.Bool.{cases_eq}
use Rattle.std.proofs.lemmas.List.Elements.{All-nil, All-cons, All-head, All-tail}
use Rattle.sg_shape.specs.declared.shapes.Shape.{Shape}
use Rattle.sg_shape.specs.Sound.{IsSound}
use Rattle.sg_plain.specs.declared.statements.Statement.{Statement}
use Rattle.sg_plain.specs.declared.statements.Statement.TheVariants.{Insert, Update, Delete, Get, Select, Filter, DeleteWhere}
use Rattle.sg_plain.specs.declared.statements.Statement.TheVariants as statements
use Rattle.sg_plain.specs.declared.statements.Answer.{Answer}
use Rattle.sg_plain.specs.declared.statements.Answer.TheVariants.{Inserted, Duplicate, Done, Missing, Absent, Found, Keys, Deleted}
use Rattle.sg_plain.specs.declared.statements.Answer.TheVariants as answers
use Rattle.sg_plain.specs.Rows.{Rows, AreRows, shape_at}
use Rattle.sg_plain.specs.Replies.{Means, effect}
use Rattle.sg_plain.specs.Sat.{IsSoundAnswer, IsSoundStatement}
use Rattle.sg_plain.specs.Serial.{Executes}
use Rattle.sg_plain.proofs.Lookups.{shape_at-same, shape_at-other}
use Rattle.sg_plain.proofs.Unique.{AreRows-effect}
use Rattle.std.specs.Prelude.{All}

some_same : (s t : Shape) → Some s ≡ Some t → s ≡ t
some_same s t e = cc

-- a shape that is found is one of the rows'
found_sound : (rows : Rows) (k : ℕ) (s : Shape) → All (λ row. IsSound row.1) rows → shape_at rows k ≡ Some s → IsSound s
found_sound [] k s all e = absurd (cc)
found_sound (row ∷ rows) k s all e =
    elim (cases_eq row.0 k) [
      | inl same ↦ subst IsSound (some_same row.1 s (sym (shape_at-same row rows k same) ∙ e)) (All-head (λ row. IsSound row.1) row rows all)
      | inr other ↦ found_sound rows k s (All-tail (λ row. IsSound row.1) row rows all) (sym (shape_at-other row rows k other) ∙ e)
    ]

pub sound_answer : (rows : Rows) (statement : Statement) (answer : Answer) → AreRows rows → Means rows statement answer → IsSoundAnswer answer
sound_answer rows statement Inserted r m = tt
sound_answer rows statement Duplicate r m = tt
sound_answer rows statement Done r m = tt
sound_answer rows statement Missing r m = tt
sound_answer rows statement Absent r m = tt
sound_answer rows (Insert k t) (Found s) r m = absurd m
sound_answer rows (Update k t) (Found s) r m = absurd m
sound_answer rows (Delete k) (Found s) r m = absurd m
sound_answer rows (Get k) (Found s) r m = found_sound rows k s r.sound m
sound_answer rows (Select q) (Found s) r m = absurd m
sound_answer rows (Filter t) (Found s) r m = absurd m
sound_answer rows (DeleteWhere q) (Found s) r m = absurd m
sound_answer rows (statements.Plan q) (Found s) r m = absurd m
sound_answer rows statement (Keys ks) r m = tt
sound_answer rows statement (Deleted ks) r m = tt
sound_answer rows statement (answers.Plan candidates sure refined ks) r m = tt

pub sound_result : {E : Type 0} (rows : Rows) (statement : Statement) (result : Result Answer E) → AreRows rows →
    IfOk result (Means rows statement) → IfOk result IsSoundAnswer
sound_result rows statement (Ok answer) r m = sound_answer rows statement answer r m
sound_result rows statement (Err e) r m = tt

-- so do all of a transaction's
pub executes_sound : (old : Rows) (statements : List Statement) (answers : List Answer) (new : Rows) → AreRows old → All IsSoundStatement statements →
    Executes old statements answers new → All IsSoundAnswer answers
executes_sound old [] [] new r s x = All-nil IsSoundAnswer
executes_sound old [] (a ∷ answers) new r s x = absurd x
executes_sound old (t ∷ statements) [] new r s x = absurd x
executes_sound old (t ∷ statements) (a ∷ answers) new r s x =
    All-cons IsSoundAnswer a answers (sound_answer old t a r x.0)
    (executes_sound (effect t a old) statements answers new (AreRows-effect old t a r (All-head IsSoundStatement t statements s)) (All-tail IsSoundStatement t statements s) x.1)
