-- A statement has one reply at most, which it allows, and what is left of sound rows is sound rows.
use Rattle.std.proofs.Common.{◌≡◌, ◌⊎◌, ℕ, List, ap, refl, sym, ◌∙◌, inl, inr, Option, Some, None}
use Rattle.std.specs.Prelude.{IsSome}
use Rattle.sg_shape.specs.declared.shapes.Shape.{Shape}
use Rattle.sg_plain.specs.declared.statements.Query.{Query}
use Rattle.sg_plain.specs.declared.statements.Statement.{Statement}
use Rattle.sg_plain.specs.declared.statements.Statement.TheVariants.{Insert, Update, Delete, Get, Select, Filter, DeleteWhere}
use Rattle.sg_plain.specs.declared.statements.Statement.TheVariants as statements
use Rattle.sg_plain.specs.declared.statements.Answer.{Answer}
use Rattle.sg_plain.specs.declared.statements.Answer.TheVariants.{Inserted, Duplicate, Done, Missing, Absent, Found, Keys, Deleted}
use Rattle.sg_plain.specs.declared.statements.Answer.TheVariants as answers
use Rattle.sg_plain.specs.Rows.{Rows, AreRows, shape_at, IsKeysWith, CoversKeysWith}
use Rattle.sg_plain.specs.Replies.{Means, PlainReply, IsScan, looked_at, effect}
use Rattle.sg_plain.specs.Sat.{Satisfies, Meeting, IsSoundStatement}
use Rattle.sg_plain.proofs.Collects.{IsKeysWith-unique, CoversKeysWith-from_exact}
use Rattle.sg_plain.proofs.Lookups.{AreRows-put, AreRows-without_key, AreRows-without_keys}

-- ---- what each statement may answer
-- one answer where the key is held, and another where it is free
abbrev pub ByKey : Rows → ℕ → Answer → Answer → Answer → Type 0
ByKey rows k held free a = ((a ≡ held) × IsSome (shape_at rows k)) ⊎ ((a ≡ free) × (shape_at rows k ≡ None))

pub insert_answers : (rows : Rows) (k : ℕ) (s : Shape) (a : Answer) → Means rows (Insert k s) a → ByKey rows k Duplicate Inserted a
insert_answers rows k s Inserted h = inr (refl, h)
insert_answers rows k s Duplicate h = inl (refl, h)
insert_answers rows k s _ h = absurd h

pub update_answers : (rows : Rows) (k : ℕ) (s : Shape) (a : Answer) → Means rows (Update k s) a → ByKey rows k Done Missing a
update_answers rows k s Done h = inl (refl, h)
update_answers rows k s Missing h = inr (refl, h)
update_answers rows k s _ h = absurd h

pub delete_answers : (rows : Rows) (k : ℕ) (a : Answer) → Means rows (Delete k) a → ByKey rows k Done Missing a
delete_answers rows k Done h = inl (refl, h)
delete_answers rows k Missing h = inr (refl, h)
delete_answers rows k _ h = absurd h

-- the shape at a key as an answer
abbrev found_or_absent : Option Shape → Answer
found_or_absent None = Absent
found_or_absent (Some s) = Found s

pub get_answers : (rows : Rows) (k : ℕ) (a : Answer) → Means rows (Get k) a → a ≡ found_or_absent (shape_at rows k)
get_answers rows k Absent h = sym (ap found_or_absent h)
get_answers rows k (Found s) h = sym (ap found_or_absent h)
get_answers rows k _ h = absurd h

pub select_answers : (rows : Rows) (q : Query) (a : Answer) → Means rows (Select q) a → (ks : List ℕ) × (a ≡ Keys ks) × IsKeysWith (Satisfies q) rows ks
select_answers rows q (Keys ks) h = (ks, refl, h)
select_answers rows q _ h = absurd h

pub filter_answers : (rows : Rows) (s : Shape) (a : Answer) → Means rows (Filter s) a → (ks : List ℕ) × (a ≡ Keys ks) × CoversKeysWith (Meeting s) rows ks
filter_answers rows s (Keys ks) h = (ks, refl, h)
filter_answers rows s _ h = absurd h

pub delete_where_answers : (rows : Rows) (q : Query) (a : Answer) → Means rows (DeleteWhere q) a → (ks : List ℕ) × (a ≡ Deleted ks) × IsKeysWith (Satisfies q) rows ks
delete_where_answers rows q (Deleted ks) h = (ks, refl, h)
delete_where_answers rows q _ h = absurd h

-- a plan of a scan
record Scanned (rows : Rows) (q : Query) (a : Answer) : Type 0 where
  pub keys : List ℕ
  pub is : a ≡ answers.Plan (looked_at q.shape rows) 0 (looked_at q.shape rows) keys
  pub exact : IsKeysWith (Satisfies q) rows keys

scanned : (rows : Rows) (q : Query) (c s r : ℕ) (ks : List ℕ) → IsScan rows q c s r ks → Scanned rows q (answers.Plan c s r ks)
scanned rows q c s r ks h =
    let all = h.all in
    let none_sure = h.none_sure in
    let each_refined : r ≡ looked_at q.shape rows = h.each_refined ∙ h.all in
    record { keys = ks; is = cc; exact = h.keys }

plan_replies : (rows : Rows) (q : Query) (a : Answer) → PlainReply rows (statements.Plan q) a → Scanned rows q a
plan_replies rows q (answers.Plan c s r ks) h = scanned rows q c s r ks h
plan_replies rows q _ h = absurd h

-- an exact filter
filter_replies : (rows : Rows) (s : Shape) (a : Answer) → PlainReply rows (Filter s) a → (ks : List ℕ) × (a ≡ Keys ks) × IsKeysWith (Meeting s) rows ks
filter_replies rows s (Keys ks) h = (ks, refl, h)
filter_replies rows s _ h = absurd h

-- ---- a reply is allowed
filter_means : (rows : Rows) (s : Shape) (a : Answer) → PlainReply rows (Filter s) a → Means rows (Filter s) a
filter_means rows s (Keys ks) h = CoversKeysWith-from_exact (Meeting s) rows ks h
filter_means rows s _ h = absurd h

plan_means : (rows : Rows) (q : Query) (a : Answer) → PlainReply rows (statements.Plan q) a → Means rows (statements.Plan q) a
plan_means rows q (answers.Plan c s r ks) h = h.keys
plan_means rows q _ h = absurd h

pub Means-from_PlainReply : (rows : Rows) (s : Statement) (a : Answer) → PlainReply rows s a → Means rows s a
Means-from_PlainReply rows (Insert k s) a h = h
Means-from_PlainReply rows (Update k s) a h = h
Means-from_PlainReply rows (Delete k) a h = h
Means-from_PlainReply rows (Get k) a h = h
Means-from_PlainReply rows (Select q) a h = h
Means-from_PlainReply rows (Filter s) a h = filter_means rows s a h
Means-from_PlainReply rows (DeleteWhere q) a h = h
Means-from_PlainReply rows (statements.Plan q) a h = plan_means rows q a h

-- ---- and there is one at most
-- a key isn't both held and free
held_or_free : {X : Type 0} (o : Option X) → IsSome o → o ≡ None → ⊥
held_or_free None h e = cc
held_or_free (Some x) h e = cc

ByKey-unique : (rows : Rows) (k : ℕ) (held free a b : Answer) → ByKey rows k held free a → ByKey rows k held free b → a ≡ b
ByKey-unique rows k held free a b (inl h) (inl g) = h.0 ∙ sym g.0
ByKey-unique rows k held free a b (inr h) (inr g) = h.0 ∙ sym g.0
ByKey-unique rows k held free a b (inl h) (inr g) = absurd (held_or_free (shape_at rows k) h.1 g.1)
ByKey-unique rows k held free a b (inr h) (inl g) = absurd (held_or_free (shape_at rows k) g.1 h.1)

pub PlainReply-unique : (rows : Rows) (s : Statement) (a b : Answer) → PlainReply rows s a → PlainReply rows s b → a ≡ b
PlainReply-unique rows (Insert k s) a b h g = ByKey-unique rows k Duplicate Inserted a b (insert_answers rows k s a h) (insert_answers rows k s b g)
PlainReply-unique rows (Update k s) a b h g = ByKey-unique rows k Done Missing a b (update_answers rows k s a h) (update_answers rows k s b g)
PlainReply-unique rows (Delete k) a b h g = ByKey-unique rows k Done Missing a b (delete_answers rows k a h) (delete_answers rows k b g)
PlainReply-unique rows (Get k) a b h g = get_answers rows k a h ∙ sym (get_answers rows k b g)
PlainReply-unique rows (Select q) a b h g =
    let x = select_answers rows q a h in
    let y = select_answers rows q b g in
    x.1 ∙ (ap (λ (keys : List ℕ). Keys keys) (IsKeysWith-unique (Satisfies q) rows x.0 y.0 x.2 y.2) ∙ sym y.1)
PlainReply-unique rows (Filter s) a b h g =
    let x = filter_replies rows s a h in
    let y = filter_replies rows s b g in
    x.1 ∙ (ap (λ (keys : List ℕ). Keys keys) (IsKeysWith-unique (Meeting s) rows x.0 y.0 x.2 y.2) ∙ sym y.1)
PlainReply-unique rows (DeleteWhere q) a b h g =
    let x = delete_where_answers rows q a h in
    let y = delete_where_answers rows q b g in
    x.1 ∙ (ap (λ (keys : List ℕ). Deleted keys) (IsKeysWith-unique (Satisfies q) rows x.0 y.0 x.2 y.2) ∙ sym y.1)
PlainReply-unique rows (statements.Plan q) a b h g =
    let x = plan_replies rows q a h in
    let y = plan_replies rows q b g in
    let candidates = looked_at q.shape rows in
    x.is ∙ (ap (λ (keys : List ℕ). answers.Plan candidates 0 candidates keys) (IsKeysWith-unique (Satisfies q) rows x.keys y.keys x.exact y.exact) ∙ sym y.is)

-- ---- what is left of sound rows
pub AreRows-effect : (rows : Rows) (s : Statement) (a : Answer) → AreRows rows → IsSoundStatement s → AreRows (effect s a rows)
AreRows-effect rows (Insert k s) Inserted h sound = AreRows-put rows k s h sound
AreRows-effect rows (Update k s) Done h sound = AreRows-put rows k s h sound
AreRows-effect rows (Delete k) Done h sound = AreRows-without_key rows k h
AreRows-effect rows (DeleteWhere q) (Deleted ks) h sound = AreRows-without_keys rows ks h
AreRows-effect rows s a h sound = h
