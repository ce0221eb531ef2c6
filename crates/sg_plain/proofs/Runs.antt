-- A loop over statements.
use Rattle.std.proofs.Common.{◌≡◌, ℕ, ◌+◌, ◌<◌, ◌≤◌, List, [], ◌∷◌, ◌++◌, length, take, drop, get_or, refl, sym, ap, ◌∙◌, subst, take_all, take-append-drop}
use Rattle.std.proofs.lemmas.List.{take_more}
use Rattle.sg_plain.specs.declared.statements.Statement.{Statement}
use Rattle.sg_plain.specs.declared.statements.Answer.{Answer}
use Rattle.sg_plain.specs.Rows.{Rows}
use Rattle.sg_plain.specs.Replies.{PlainReply, effect}
use Rattle.sg_plain.specs.Serial.{Entry, ExecutesBy, SerialBy, StopsAfterFront}

-- the first n statements were executed
pub record HasExecuted (Allows : Rows → Statement → Answer → Type 0) (old now : Rows) (all : List Statement) (n : ℕ) (answers : List Answer) : Type 0 where
  pub executed : ExecutesBy Allows old (take n all) answers now

module _ (Allows : Rows → Statement → Answer → Type 0) where
  -- one statement more
  ExecutesBy-more : (old before now : Rows) (statements : List Statement) (answers : List Answer) (s : Statement) (a : Answer) →
      ExecutesBy Allows old statements answers before → Allows before s a → now ≡ effect s a before → ExecutesBy Allows old (statements ++ s ∷ []) (answers ++ a ∷ []) now
  ExecutesBy-more old before now [] [] s a h allows leaves =
      (subst (λ (rows : Rows). Allows rows s a) h allows, leaves ∙ ap (λ (rows : Rows). effect s a rows) h)
  ExecutesBy-more old before now (x ∷ statements) (b ∷ answers) s a h allows leaves =
      (h.0, ExecutesBy-more (effect x b old) before now statements answers s a h.1 allows leaves)
  ExecutesBy-more old before now [] (b ∷ answers) s a h allows leaves = absurd h
  ExecutesBy-more old before now (x ∷ statements) [] s a h allows leaves = absurd h

  pub HasExecuted-more : (old before now : Rows) (all : List Statement) (i : ℕ) (s : Statement) (a : Answer) (answers longer : List Answer) →
      i < length all → s ≡ get_or all i s → Allows before s a → now ≡ effect s a before → longer ≡ answers ++ a ∷ [] →
      HasExecuted Allows old before all i answers → HasExecuted Allows old now all (i + 1) longer
  HasExecuted-more old before now all i s a answers longer h e allows leaves pushed so_far =
      let ahead : take (i + 1) all ≡ take i all ++ s ∷ [] = take_more all i s h ∙ ap (λ (x : Statement). take i all ++ x ∷ []) (sym e) in
      record { executed = rw (ahead, pushed) (ExecutesBy-more old before now (take i all) answers s a so_far.executed allows leaves) }

  pub HasExecuted-all : (old now : Rows) (all : List Statement) (n : ℕ) (answers : List Answer) → length all ≤ n → HasExecuted Allows old now all n answers → ExecutesBy Allows old all answers now
  HasExecuted-all old now all n answers over so_far = subst (λ (xs : List Statement). ExecutesBy Allows old xs answers now) (take_all n all over) so_far.executed

-- where it stops, the rows are those after a front: of the n statements that were executed, or of one more
pub front_of : (old before now : Rows) (statements : List Statement) (n : ℕ) (answers : List Answer) → now ≡ before → HasExecuted PlainReply old before statements n answers → StopsAfterFront old statements now
front_of old before now statements n answers same so_far = record {
  front = take n statements;
  rest = drop n statements;
  answers = answers;
  all = take-append-drop n statements;
  executed = rw same so_far.executed;
}

pub front_more : (old before now : Rows) (statements : List Statement) (i : ℕ) (s : Statement) (a : Answer) (answers : List Answer) →
    i < length statements → s ≡ get_or statements i s → PlainReply before s a → now ≡ effect s a before → HasExecuted PlainReply old before statements i answers → StopsAfterFront old statements now
front_more old before now statements i s a answers h e allows leaves so_far =
    front_of old now now statements (i + 1) (answers ++ a ∷ []) refl (HasExecuted-more PlainReply old before now statements i s a answers (answers ++ a ∷ []) h e allows leaves refl so_far)

-- what is allowed in a narrower sense is allowed
module _ (Narrow Wide : Rows → Statement → Answer → Type 0) (widen : (rows : Rows) (s : Statement) (a : Answer) → Narrow rows s a → Wide rows s a) where
  pub ExecutesBy-wider : (old : Rows) (statements : List Statement) (answers : List Answer) (new : Rows) → ExecutesBy Narrow old statements answers new → ExecutesBy Wide old statements answers new
  ExecutesBy-wider old [] [] new h = h
  ExecutesBy-wider old (s ∷ statements) (a ∷ answers) new h = (widen old s a h.0, ExecutesBy-wider (effect s a old) statements answers new h.1)
  ExecutesBy-wider old [] (a ∷ answers) new h = absurd h
  ExecutesBy-wider old (s ∷ statements) [] new h = absurd h

  pub SerialBy-wider : (old : Rows) (journal : List Entry) (new : Rows) → SerialBy Narrow old journal new → SerialBy Wide old journal new
  SerialBy-wider old [] new h = h
  SerialBy-wider old (entry ∷ journal) new h = (h.0, ExecutesBy-wider old entry.statements entry.answers h.0 h.1, SerialBy-wider h.0 journal new h.2)
