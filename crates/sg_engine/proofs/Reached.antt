-- What a search has found and left to refine, and the replies that follow.
use Rattle.std.specs.Prelude.{filter, not, IfOk, IfSome, is_some, Result, Ok, Err}
use Rattle.std.proofs.Common.{◌≡◌, ◌≢◌, ◌==◌, ℕ, ◌+◌, Bool, true, false, cond, ◌&&◌, List, [], ◌∷◌, length, Option, Some, None, arith, inl, inr, refl, sym, ap, ◌∙◌, subst}
use mathlib.Core.Bool.{true≢false}
use Rattle.std.proofs.lemmas.Bool.{cond_both, eqb-true}
use Rattle.sg_shape.specs.declared.shapes.Shape.{Shape}
use Rattle.sg_cells.specs.declared.settings.Settings.{Settings}
use Rattle.sg_cells.specs.Cells.{Grid}
use Rattle.sg_plain.specs.declared.statements.Query.{Query}
use Rattle.sg_plain.specs.declared.statements.Statement.{Statement}
use Rattle.sg_plain.specs.declared.statements.Statement.TheVariants.{Insert, Update, Delete, Get, Select, Plan, Filter, DeleteWhere}
use Rattle.sg_plain.specs.declared.statements.Answer.TheVariants as answer
use Rattle.sg_plain.specs.Keys.{RisesFrom, IsRising}
use Rattle.sg_plain.specs.Rows.{Rows, AreRows, IsKeysWith, keys_of, shape_at}
use Rattle.sg_plain.specs.Sat.{Sat, Satisfies, IsSoundQuery, IsSoundStatement}
use Rattle.sg_plain.proofs.KeyLemmas.{any_has, RisesFrom-lower, Has-from_Contains}
use Rattle.sg_refine.specs.declared.jobs.JobName.{JobName}
use Rattle.sg_refine.specs.Jobs.{Job, Refined, AreKeysOf}
use Rattle.sg_rows.specs.Table.{TableRow}
use Rattle.sg_cellrows.specs.CellTable.{CellRow}
use Rattle.sg_trace.specs.Candidates.{touches, proves_in, is_proved, candidates}
use Rattle.sg_trace.specs.Laws.{AreSettings}
use Rattle.sg_trace.specs.Pending.{has_key, is_pending, ArePending, chosen}
use Rattle.sg_trace.specs.Replies.{Reply, IsFilterBy, meeting}
use Rattle.sg_scan.specs.declared.searches.Found.{Found}
use Rattle.sg_scan.specs.declared.scans.Scan.{Scan}
use Rattle.sg_scan.specs.declared.searches.Search.{Search}
use Rattle.sg_scan.specs.declared.searches.Search.TheVariants as search
use Rattle.sg_scan.specs.Scans.{HasQuery, IsSearchIn, IsByQuery, IsFound, Finds}
use Rattle.sg_scan.specs.Cursors.{IsScanFor}
use Rattle.sg_stores.specs.Agreement.{SeenAgree, seen_rows}
use Rattle.sg_stores.proofs.Picked.{same_from}
use Rattle.sg_laws.specs.Reading.{IsReading}
use Rattle.sg_laws.proofs.Lists.{rows_rise}
use Rattle.sg_laws.proofs.Same.{pick, lookup-kept}
use Rattle.sg_engine.proofs.Gathered.{Has-from_test}
use Rattle.sg_engine.proofs.Satisfying.{passing_holds, passing_has, satisfied, asked}
use Rattle.sg_engine.specs.Phases.{answer_of, IsAskedBy, IsJobOf, is_unsure, unsure_rows, AreLeft}
use Rattle.sg_engine.specs.declared.shared.Work.TheVariants as work
use Rattle.sg_engine.specs.declared.preparing.Reached.{Reached}
use Rattle.sg_engine.specs.declared.preparing.Reached.TheVariants as reached
use Rattle.sg_engine.specs.Reaching.{IsFoundBy, is_filtered, IsClosed, IsReached}

-- ---- statements that search
pub asked_query : (st : Statement) (job : Job) → IsJobOf st job → HasQuery st
asked_query (Select q) job h = tt
asked_query (Plan q) job h = tt
asked_query (Filter s) job h = tt
asked_query (DeleteWhere q) job h = tt
asked_query (Get k) job h = absurd h
asked_query (Insert k s) job h = absurd h
asked_query (Update k s) job h = absurd h
asked_query (Delete k) job h = absurd h

pub query_reads : (st : Statement) → HasQuery st → IsReading st
query_reads (Select q) h = tt
query_reads (Plan q) h = tt
query_reads (Filter s) h = tt
query_reads (DeleteWhere q) h = tt
query_reads (Get k) h = absurd h
query_reads (Insert k s) h = absurd h
query_reads (Update k s) h = absurd h
query_reads (Delete k) h = absurd h

by_query_in : (grid : Option Grid) (window : ℕ) (q : Query) (it : Search) → IsSearchIn grid window q it → IsByQuery it
by_query_in None window q (search.Row k) h = absurd h
by_query_in (Some g) window q (search.Row k) h = absurd h
by_query_in grid window q search.Nothing h = tt
by_query_in grid window q search.Every h = tt
by_query_in grid window q (search.Cells s) h = tt

pub is_by_query : (c : Settings) (st : Statement) (it : Scan) → HasQuery st → IsScanFor c st it → IsByQuery it.search
is_by_query c (Select q) it has h = by_query_in c.grid c.window q it.search h.search
is_by_query c (Plan q) it has h = by_query_in c.grid c.window q it.search h.search
is_by_query c (Filter s) it has h = by_query_in c.grid c.window (meeting s) it.search h.search
is_by_query c (DeleteWhere q) it has h = by_query_in c.grid c.window q it.search h.search
is_by_query c (Get k) it has h = absurd has
is_by_query c (Insert k s) it has h = absurd has
is_by_query c (Update k s) it has h = absurd has
is_by_query c (Delete k) it has h = absurd has

pub found_by : (c : Settings) (st : Statement) (it : Scan) (s : ℕ) (table : List TableRow) (index : List CellRow) (found : Found) → HasQuery st → IsScanFor c st it → AreSettings c → Finds it.search s table index found → SeenAgree c s table index
    → IsFoundBy c (seen_rows s table) st found
found_by c (Select q) it s table index found has is settings h agree = h c q is.search settings agree
found_by c (Plan q) it s table index found has is settings h agree = h c q is.search settings agree
found_by c (Filter f) it s table index found has is settings h agree = h c (meeting f) is.search settings agree
found_by c (DeleteWhere q) it s table index found has is settings h agree = h c q is.search settings agree
found_by c (Get k) it s table index found has is settings h agree = absurd has
found_by c (Insert k f) it s table index found has is settings h agree = absurd has
found_by c (Update k f) it s table index found has is settings h agree = absurd has
found_by c (Delete k) it s table index found has is settings h agree = absurd has

-- ---- what is left to refine
rises_on : (p : ℕ × Shape → Bool) (low : ℕ) (rows : Rows) → RisesFrom low (keys_of rows) → RisesFrom low (keys_of (filter p rows))
rises_on p low [] h = tt
rises_on p low (row ∷ rows) h =
    cond_both (p row) (row ∷ filter p rows) (filter p rows) (λ ys. RisesFrom low (keys_of ys))
    (λ _. (h.0, rises_on p (row.0 + 1) rows h.1))
    (λ _. RisesFrom-lower low (row.0 + 1) (keys_of (filter p rows)) (omega (arith, h.0)) (rises_on p (row.0 + 1) rows h.1))

-- the key of a row stands among those of the rows that pass a test exactly where its shape passes
has_passing : (f : Shape → Bool) (rows : Rows) (k : ℕ) (s : Shape) → IsRising (keys_of rows) → shape_at rows k ≡ Some s → has_key (keys_of (filter (λ row. f row.1) rows)) k ≡ f s
has_passing f rows k s rising at = go (has_key keys k) (f s) refl refl
  where
    keys : List ℕ
    keys = keys_of (filter (λ row. f row.1) rows)

    same : (t : Shape) → Some s ≡ Some t → s ≡ t
    same t e = cc

    go : (a b : Bool) → has_key keys k ≡ a → f s ≡ b → a ≡ b
    go true true e g = refl
    go false false e g = refl
    go true false e g =
        let p = passing_holds f 0 rows k rising (Has-from_test keys k e) in
        absurd (true≢false (sym p.2 ∙ (ap f (sym (same p.0 (sym at ∙ p.1))) ∙ g)))
    go false true e g = absurd (true≢false (sym (any_has keys k (passing_has f 0 rows k rising (s, at, g))) ∙ e))

module _ (c : Settings) (q : Query) (seen : Rows) (found : Found) (items : Rows) (are : AreRows seen) (are_items : AreRows items) (is : IsFound c q seen found) (pending : ArePending seen found.candidates found.sure items) where
  unsure_by : (t p : Bool) (s : Shape) → cond (t && not (t && p)) (Some s) None ≡ cond (t && not p) (Some s) None
  unsure_by true true s = refl
  unsure_by true false s = refl
  unsure_by false p s = refl

  abbrev nothing : Option Shape
  nothing = None

  none_by : (b : Bool) → cond b nothing None ≡ None
  none_by true = refl
  none_by false = refl

  left_at : (k : ℕ) (o : Option Shape) → shape_at seen k ≡ o → cond (is_pending found.candidates found.sure k) o None ≡ pick (is_unsure c q) o
  left_at k None e = none_by (is_pending found.candidates found.sure k)
  left_at k (Some s) e =
      let all : has_key found.candidates k ≡ touches c q s = ap (λ ks. has_key ks k) is.candidates_are ∙ has_passing (touches c q) seen k s are.rising e in
      let some : has_key found.sure k ≡ is_proved c q s = ap (λ ks. has_key ks k) is.sure_are ∙ has_passing (is_proved c q) seen k s are.rising e in
      ap (λ b. cond (b && not (has_key found.sure k)) (Some s) None) all
      ∙ (ap (λ b. cond (touches c q s && not b) (Some s) None) some ∙ unsure_by (touches c q s) (proves_in c.grid c.window q s) s)

  pub unsure_are : items ≡ unsure_rows c q seen
  unsure_are =
      same_from 0 items (unsure_rows c q seen) are_items.rising (rises_on (λ row. is_unsure c q row.1) 0 seen are.rising)
      (λ k. pending k ∙ (left_at k (shape_at seen k) refl ∙ sym (lookup-kept (is_unsure c q) seen (rows_rise seen are) k)))

no_grid : (o : Option Grid) → is_some o ≡ false → o ≡ None
no_grid None e = refl
no_grid (Some g) e = absurd (cc)

pub left_are : (c : Settings) (seen : Rows) (st : Statement) (found : Found) (items : Rows) → HasQuery st → AreRows seen → AreRows items → IsFoundBy c seen st found → ArePending seen found.candidates found.sure items → is_filtered c st ≡ false
    → AreLeft c seen st items
left_are c seen (Select q) found items has are are_items is pending e = unsure_are c q seen found items are are_items is pending
left_are c seen (Plan q) found items has are are_items is pending e = unsure_are c q seen found items are are_items is pending
left_are c seen (DeleteWhere q) found items has are are_items is pending e = unsure_are c q seen found items are are_items is pending
left_are c seen (Filter f) found items has are are_items is pending e = (no_grid c.grid e, unsure_are c (meeting f) seen found items are are_items is pending)
left_are c seen (Get k) found items has are are_items is pending e = absurd has
left_are c seen (Insert k f) found items has are are_items is pending e = absurd has
left_are c seen (Update k f) found items has are are_items is pending e = absurd has
left_are c seen (Delete k) found items has are are_items is pending e = absurd has

-- it is one list alone
pub left_one : (c : Settings) (seen : Rows) (st : Statement) (xs ys : Rows) → AreLeft c seen st xs → AreLeft c seen st ys → xs ≡ ys
left_one c seen (Select q) xs ys h k = h ∙ sym k
left_one c seen (Plan q) xs ys h k = h ∙ sym k
left_one c seen (DeleteWhere q) xs ys h k = h ∙ sym k
left_one c seen (Filter f) xs ys h k = h.1 ∙ sym k.1
left_one c seen (Get j) xs ys h k = absurd h
left_one c seen (Insert j f) xs ys h k = absurd h
left_one c seen (Update j f) xs ys h k = absurd h
left_one c seen (Delete j) xs ys h k = absurd h

-- where a filter goes by an index nothing is left
pub none_filtered : (c : Settings) (seen : Rows) (st : Statement) → is_filtered c st ≡ true → (items : Rows) → AreLeft c seen st items → items ≡ []
none_filtered c seen (Filter f) e items h = absurd (true≢false (sym e ∙ ap is_some h.0))
none_filtered c seen (Select q) e items h = absurd (true≢false (sym e))
none_filtered c seen (Plan q) e items h = absurd (true≢false (sym e))
none_filtered c seen (DeleteWhere q) e items h = absurd (true≢false (sym e))
none_filtered c seen (Get k) e items h = absurd h
none_filtered c seen (Insert k f) e items h = absurd h
none_filtered c seen (Update k f) e items h = absurd h
none_filtered c seen (Delete k) e items h = absurd h

-- nor of a statement that doesn't search
abbrev pub IsSimple : Statement → Type 0
IsSimple (Get k) = Unit {0}
IsSimple (Insert k f) = Unit {0}
IsSimple (Update k f) = Unit {0}
IsSimple (Delete k) = Unit {0}
IsSimple (Select q) = ⊥
IsSimple (Plan q) = ⊥
IsSimple (DeleteWhere q) = ⊥
IsSimple (Filter f) = ⊥

pub none_without : (c : Settings) (seen : Rows) (st : Statement) → IsSimple st → (items : Rows) → AreLeft c seen st items → items ≡ []
none_without c seen (Get k) is items h = absurd h
none_without c seen (Insert k f) is items h = absurd h
none_without c seen (Update k f) is items h = absurd h
none_without c seen (Delete k) is items h = absurd h
none_without c seen (Select q) is items h = absurd is
none_without c seen (Plan q) is items h = absurd is
none_without c seen (DeleteWhere q) is items h = absurd is
none_without c seen (Filter f) is items h = absurd is

-- ---- whether there are any
pub no_items : (xs items : Rows) → xs ≡ items → (length xs == 0) ≡ true → items ≡ []
no_items [] items e h = sym e
no_items (x ∷ xs) items e h = absurd (let q = eqb-true (length (x ∷ xs)) 0 h in omega (arith, q))

pub some_items : (xs items : Rows) → xs ≡ items → (length xs == 0) ≡ false → items ≢ []
some_items xs items e h = λ none. true≢false (ap (λ ys. length ys == 0) (sym (e ∙ none)) ∙ h)

-- ---- replies
-- a job without candidates has no keys
pub no_keys : (job : Job) → job.items ≡ [] → AreKeysOf job []
no_keys job e = subst (λ (items : Rows). IsKeysWith (λ x. Sat job.test x job.query) items []) (sym e) (record { rising = tt; each = λ k. (λ has. Has-from_Contains [] k has, λ h. absurd h) })

-- the candidates answer a filter over an index
filtered_by : (o : Option Grid) (c : Settings) (seen : Rows) (f : Shape) (keys : List ℕ) → is_some o ≡ true → keys ≡ candidates c seen (meeting f) → IsFilterBy o c seen f keys
filtered_by None c seen f keys e is = absurd (true≢false (sym e))
filtered_by (Some g) c seen f keys e is = is

pub filter_replies : (c : Settings) (seen : Rows) (st : Statement) (found : Found) → is_filtered c st ≡ true → IsFoundBy c seen st found → Reply c seen st (answer.Keys found.candidates)
filter_replies c seen (Filter f) found e is = filtered_by c.grid c seen f found.candidates e is.candidates_are
filter_replies c seen (Select q) found e is = absurd (true≢false (sym e))
filter_replies c seen (Plan q) found e is = absurd (true≢false (sym e))
filter_replies c seen (DeleteWhere q) found e is = absurd (true≢false (sym e))
filter_replies c seen (Get k) found e is = absurd is
filter_replies c seen (Insert k f) found e is = absurd is
filter_replies c seen (Update k f) found e is = absurd is
filter_replies c seen (Delete k) found e is = absurd is

module _ (c : Settings) (seen : Rows) (found : Found) (job : Job) (settings : AreSettings c) (are : AreRows seen) (rising : IsRising found.candidates) (pending : ArePending seen found.candidates found.sure job.items) (ks : List ℕ) (keys : AreKeysOf job ks) where
  keys_by : (q : Query) → IsSoundQuery q → IsFound c q seen found → IsAskedBy q job → IsKeysWith (Satisfies q) seen (chosen found.sure ks found.candidates)
  keys_by q sound is asks = satisfied c q seen found job.items ks settings sound are is pending (asked job.test q.test job.query q.shape job.items ks asks.0 asks.1 keys) rising

  -- of what was found, the keys that the job's result has make the reply
  pub replies_by : (st : Statement) → IsSoundStatement st → IsFoundBy c seen st found → IsJobOf st job → is_filtered c st ≡ false → IfSome (answer_of st found ks) (Reply c seen st)
  replies_by (Select q) sound is asks e = keys_by q sound is asks
  replies_by (DeleteWhere q) sound is asks e = keys_by q sound is asks
  replies_by (Plan q) sound is asks e = record { found_is = ap (λ xs. length xs) is.candidates_are; sure_is = ap (λ xs. length xs) is.sure_are; refined_is = refl; keys_are = keys_by q sound is asks }
  replies_by (Filter f) sound is asks e =
      subst (λ o. IsFilterBy o c seen f (chosen found.sure ks found.candidates)) (sym (no_grid c.grid e)) (keys_by (meeting f) (record { test = tt; shape = sound }) is asks)
  replies_by (Get k) sound is asks e = absurd asks
  replies_by (Insert k f) sound is asks e = absurd asks
  replies_by (Update k f) sound is asks e = absurd asks
  replies_by (Delete k) sound is asks e = absurd asks

-- ---- what is reached
-- where nothing is left, whatever else is left is nothing
pub all_left : (c : Settings) (seen : Rows) (st : Statement) (left : Rows) → AreLeft c seen st left → left ≡ [] → (items : Rows) → AreLeft c seen st items → items ≡ []
all_left c seen st left is none items h = left_one c seen st items left h is ∙ none

by_reached : (c : Settings) (seen : Rows) (st : Statement) (called : JobName) → ((items : Rows) → AreLeft c seen st items → items ≡ []) → (it : Reached) → IsClosed c seen st it → IsReached c seen st work.Unread called it
by_reached c seen st called none (reached.Answer a) h = (h, inr none)
by_reached c seen st called none (reached.Writes change) h = (h, inr none, refl)
by_reached c seen st called none (reached.Again job) h = absurd h
by_reached c seen st called none (reached.Refine found job copy) h = absurd h

pub closed_reached : {E : Type 0} (c : Settings) (seen : Rows) (st : Statement) (called : JobName) (r : Result Reached E) → ((items : Rows) → AreLeft c seen st items → items ≡ []) → IfOk r (IsClosed c seen st) → IfOk r (IsReached c seen st work.Unread called)
closed_reached c seen st called (Ok it) none h = by_reached c seen st called none it h
closed_reached c seen st called (Err e) none h = tt

refined_by : (c : Settings) (seen : Rows) (st : Statement) (called : JobName) (found : Found) (done : Refined) (it : Reached) → IsClosed c seen st it → IsReached c seen st (work.Refined found done) called it
refined_by c seen st called found done (reached.Answer a) h = (h, inl refl)
refined_by c seen st called found done (reached.Writes change) h = (h, inl refl, refl)
refined_by c seen st called found done (reached.Again job) h = absurd h
refined_by c seen st called found done (reached.Refine f job copy) h = absurd h

pub refined_reached : {E : Type 0} (c : Settings) (seen : Rows) (st : Statement) (called : JobName) (found : Found) (done : Refined) (r : Result Reached E) → IfOk r (IsClosed c seen st) → IfOk r (IsReached c seen st (work.Refined found done) called)
refined_reached c seen st called found done (Ok it) h = refined_by c seen st called found done it h
refined_reached c seen st called found done (Err e) h = tt
