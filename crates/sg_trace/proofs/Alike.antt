-- Under any two settings answers tell the same, of a statement and of whole journals.
use Rattle.std.proofs.Common.{◌≡◌, refl, sym, ap, ◌∙◌, subst, List, [], ◌∷◌}
use Rattle.sg_cells.specs.declared.settings.Settings.{Settings}
use Rattle.sg_plain.specs.declared.statements.Query.{Query}
use Rattle.sg_plain.specs.declared.statements.Statement.{Statement}
use Rattle.sg_plain.specs.declared.statements.Statement.TheVariants as statement
use Rattle.sg_plain.specs.declared.statements.Answer.{Answer}
use Rattle.sg_plain.specs.declared.statements.Answer.TheVariants as answer
use Rattle.sg_plain.specs.Rows.{Rows}
use Rattle.sg_plain.specs.Sat.{Satisfies}
use Rattle.sg_plain.specs.Replies.{effect}
use Rattle.sg_plain.proofs.Collects.{IsKeysWith-unique}
use Rattle.sg_plain.proofs.Unique.{PlainReply-unique}
use Rattle.sg_trace.specs.Replies.{Reply, ExecutesIn, SerialIn}
use Rattle.sg_trace.specs.Laws.{TellAlike, AllTellAlike, RepliesTellAlike, JournalsTellAlike}

plans_alike : (c d : Settings) (rows : Rows) (q : Query) (a b : Answer) → Reply c rows (statement.Plan q) a → Reply d rows (statement.Plan q) b → TellAlike (statement.Plan q) a b
plans_alike c d rows q (answer.Plan m n o ks) (answer.Plan i j k ls) h g = IsKeysWith-unique (Satisfies q) rows ks ls h.keys_are g.keys_are
plans_alike c d rows q (answer.Plan m n o ks) _ h g = absurd g
plans_alike c d rows q _ _ h g = absurd h

pub replies_tell_alike : RepliesTellAlike
replies_tell_alike c d rows (statement.Insert k s) a b h g = PlainReply-unique rows (statement.Insert k s) a b h g
replies_tell_alike c d rows (statement.Update k s) a b h g = PlainReply-unique rows (statement.Update k s) a b h g
replies_tell_alike c d rows (statement.Delete k) a b h g = PlainReply-unique rows (statement.Delete k) a b h g
replies_tell_alike c d rows (statement.Get k) a b h g = PlainReply-unique rows (statement.Get k) a b h g
replies_tell_alike c d rows (statement.Select q) a b h g = PlainReply-unique rows (statement.Select q) a b h g
replies_tell_alike c d rows (statement.Filter s) a b h g = tt
replies_tell_alike c d rows (statement.DeleteWhere q) a b h g = PlainReply-unique rows (statement.DeleteWhere q) a b h g
replies_tell_alike c d rows (statement.Plan q) a b h g = plans_alike c d rows q a b h g

-- what tells the same leaves the same rows
effects_alike : (s : Statement) (a b : Answer) (rows : Rows) → TellAlike s a b → effect s a rows ≡ effect s b rows
effects_alike (statement.Insert k s) a b rows h = ap (λ (x : Answer). effect (statement.Insert k s) x rows) h
effects_alike (statement.Update k s) a b rows h = ap (λ (x : Answer). effect (statement.Update k s) x rows) h
effects_alike (statement.Delete k) a b rows h = ap (λ (x : Answer). effect (statement.Delete k) x rows) h
effects_alike (statement.Get k) a b rows h = refl
effects_alike (statement.Select q) a b rows h = refl
effects_alike (statement.Filter s) a b rows h = refl
effects_alike (statement.DeleteWhere q) a b rows h = ap (λ (x : Answer). effect (statement.DeleteWhere q) x rows) h
effects_alike (statement.Plan q) a b rows h = refl

executed_alike : (c d : Settings) (old left right : Rows) (statements : List Statement) (answers others : List Answer) → ExecutesIn c old statements answers left → ExecutesIn d old statements others right
    → AllTellAlike statements answers others × (left ≡ right)
executed_alike c d old left right [] [] [] x y = (tt, x ∙ sym y)
executed_alike c d old left right [] (a ∷ answers) others x y = absurd x
executed_alike c d old left right [] [] (b ∷ others) x y = absurd y
executed_alike c d old left right (s ∷ statements) [] others x y = absurd x
executed_alike c d old left right (s ∷ statements) (a ∷ answers) [] x y = absurd y
executed_alike c d old left right (s ∷ statements) (a ∷ answers) (b ∷ others) x y =
    let first = replies_tell_alike c d old s a b x.0 y.0 in
    let later = executed_alike c d (effect s a old) left right statements answers others x.1 (subst (λ (rows : Rows). ExecutesIn d rows statements others right) (sym (effects_alike s a b old first)) y.1) in
    ((first, later.0), later.1)

pub journals_tell_alike : JournalsTellAlike
journals_tell_alike c d old left right [] [] asks x y = (tt, x ∙ sym y)
journals_tell_alike c d old left right [] (q ∷ other) asks x y = absurd asks
journals_tell_alike c d old left right (p ∷ one) [] asks x y = absurd asks
journals_tell_alike c d old left right (p ∷ one) (q ∷ other) asks x y =
    let same = subst (λ (statements : List Statement). ExecutesIn d old statements q.answers y.0) (sym asks.0) y.1 in
    let first = executed_alike c d old x.0 y.0 p.statements p.answers q.answers x.1 same in
    let later = journals_tell_alike c d x.0 left right one other asks.1 x.2 (subst (λ (rows : Rows). SerialIn d rows other right) (sym first.1) y.2) in
    ((first.0, later.0), later.1)
