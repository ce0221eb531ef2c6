-- Each key that is taken or put is one of the keys of the opening rows and of the script's shapes.
use Rattle.std.proofs.lemmas.Bool.{eqb-true}
use Rattle.std.proofs.Common.{◌≡◌, ℕ, zero, suc, Bool, true, false, cond, not, ◌⊎◌, List, [], ◌∷◌, ◌++◌, length, map, filter, eqb, Option, Some, None, refl, sym, ap, ◌∙◌, subst, inl, inr}
use Rattle.std.specs.Prelude.{pred, is_some, slice_get, IfSome}
use Rattle.std.specs.List.{flat_map}
use Rattle.sg_shape.specs.declared.shapes.Shape.{Shape}
use Rattle.sg_cells.specs.declared.settings.Settings.{Settings}
use Rattle.sg_cells.specs.declared.keys.Key.{Key}
use Rattle.sg_cells.specs.declared.keys.Key.TheVariants.{Row, RowEnd, Cell, CellEnd}
use Rattle.sg_cells.specs.Cells.{Cell as Path, Grid}
use Rattle.sg_cells.specs.Tess.{Entry}
use Rattle.sg_cells.specs.Laws.{Has}
use Rattle.sg_modes.specs.declared.modes.Mode.{Mode}
use Rattle.sg_modes.specs.declared.modes.Mode.TheVariants.{S, U, X, RangeSS, RangeSU, RangeIN, RangeXX}
use Rattle.sg_plain.specs.declared.statements.Query.{Query}
use Rattle.sg_plain.specs.declared.statements.Statement.{Statement}
use Rattle.sg_plain.specs.declared.statements.Statement.TheVariants.{Insert, Update, Delete, Get, Select, Plan, Filter, DeleteWhere}
use Rattle.sg_plain.specs.declared.statements.Answer.{Answer}
use Rattle.sg_plain.specs.declared.statements.Answer.TheVariants as answer
use Rattle.sg_plain.specs.Transactions.{TransactionPlan}
use Rattle.sg_plain.specs.Rows.{Rows}
use Rattle.sg_trace.specs.Candidates.{is_empty}
use Rattle.sg_trace.specs.Replies.{meeting}
use Rattle.sg_trace.specs.Keys.{has_key, first_key, next_key}
use Rattle.sg_trace.specs.Needs.{Need, Lock, New, Held, Locking, reading, deleting, filtering, cells_in, cells_at, cell_keys, mark_in, same_mark, moved_keys, row_need, sees_cell, needs_at, range_needs, is_within, is_past, is_row_key, table_needs, query_needs_in, query_needs, ranges_of, change_need, change_needs, edit_cells, edit_needs, removal_needs, read_needs, write_needs, needs, first_unmet}
use Rattle.sg_trace.specs.Traces.{Local, State, Stage, Event, Begin, Ask, Take, Put, Wait, Victim, Answered, Commit, Rollback, DoneList, state, after, idle, answered, with_one, effects, view, present_keys, IsPresent, row_keys}
use Rattle.sg_trace.specs.Legal.{IsStage, IsLegal, needs_of}
use Rattle.sg_trace.specs.Scripts.{Script, Follows, transactions_of, statements_in, current, upcoming}
use Rattle.sg_trace.specs.Measure.{modes, statement_keys, session_keys, script_keys, script_pairs, AreCounted, IsEnough}
use Rattle.sg_laws.specs.Changes.{lookup, removals, changes, changes_of, settle, shows}
use Rattle.sg_laws.proofs.Lists.{lookup-effects}
use Rattle.sg_laws.proofs.Clash.{each_with}
use Rattle.sg_laws.proofs.Coded.{has_entry}
use Rattle.sg_laws.proofs.Present.{rising_keys_has, rising_keys_back, cell_keys_back, cell_key_has, Has-left, Has-right, Has-cases}
use Rattle.sg_laws.proofs.Needs.{Every, Every-append, Every-flat, Every-map, filter_has, NeedOk}
use Rattle.sg_laws.proofs.Kept.{legal_good, takes_for, puts_for, unmet_has, needs_good}
use Rattle.sg_measure.proofs.EachFalls.{IsCounted}

-- ---- the pairs of a script are enough for it
has_flat : {A B : Type 0} (f : A → List B) (xs : List A) (x : A) (y : B) → Has xs x → Has (f x) y → Has (flat_map f xs) y
has_flat f [] x y h m = absurd h
has_flat f (z ∷ zs) x y (inl e) m = Has-left (f z) (flat_map f zs) y (subst (λ w. Has (f w) y) (sym e) m)
has_flat f (z ∷ zs) x y (inr h) m = Has-right (f z) (flat_map f zs) y (has_flat f zs x y h m)

has_map : {A B : Type 0} (f : A → B) (xs : List A) (x : A) → Has xs x → Has (map f xs) (f x)
has_map f [] x h = absurd h
has_map f (z ∷ zs) x (inl e) = inl (ap f e)
has_map f (z ∷ zs) x (inr h) = inr (has_map f zs x h)

get_has : {A : Type 0} (xs : List A) (i : ℕ) (x : A) → slice_get xs i ≡ Some x → Has xs x
get_has [] i x e = absurd (cc)
get_has (y ∷ ys) zero x e = inl (cc)
get_has (y ∷ ys) (suc i) x e = inr (get_has ys i x e)

each_mode : (m : Mode) → Has modes m
each_mode S = inl refl
each_mode U = inr (inl refl)
each_mode X = inr (inr (inl refl))
each_mode RangeSS = inr (inr (inr (inl refl)))
each_mode RangeSU = inr (inr (inr (inr (inl refl))))
each_mode RangeIN = inr (inr (inr (inr (inr (inl refl)))))
each_mode RangeXX = inr (inr (inr (inr (inr (inr (inl refl))))))

pair_of : (ps : Script) (w : Stage) (k : Key) (m : Mode) → Has (script_keys ps w) k → Has (script_pairs ps w) (k, m)
pair_of ps w k m h = has_flat (λ k. map (λ m. (k, m)) modes) (script_keys ps w) k (k, m) h (has_map (λ m. (k, m)) modes m (each_mode m))

session_has : (g : Settings) (ps : Script) (s i n : ℕ) (t : TransactionPlan) (st : Statement) (k : Key) → slice_get (transactions_of ps s) i ≡ Some t → slice_get t.statements n ≡ Some st → Has (statement_keys g st) k → Has (flat_map (session_keys g) ps) k
session_has g [] s i n t st k e e' h = absurd (cc)
session_has g (p ∷ ps) s i n t st k e e' h = go (eqb p.number s) e (λ q. session_has g ps s i n t st k q e' h)
  where
    go : (b : Bool) → slice_get (cond b p.transactions (transactions_of ps s)) i ≡ Some t → (slice_get (transactions_of ps s) i ≡ Some t → Has (flat_map (session_keys g) ps) k) → Has (session_keys g p ++ flat_map (session_keys g) ps) k
    go true e ih = Has-left (session_keys g p) (flat_map (session_keys g) ps) k
        (has_flat (λ (t : TransactionPlan). flat_map (statement_keys g) t.statements) p.transactions t k (get_has p.transactions i t e) (has_flat (statement_keys g) t.statements st k (get_has t.statements n st e') h))
    go false e ih = Has-right (session_keys g p) (flat_map (session_keys g) ps) k (ih e)

pub pairs_are_enough : (ps : Script) (w : Stage) → IsEnough (script_pairs ps w) w ps
pairs_are_enough ps w = record {
  ends = λ k m h. pair_of ps w k m (rising_keys_has all k (elim h [ inl e ↦ inl e | inr r ↦ elim r [ inl e ↦ inr (inl e) | inr n ↦ absurd n ] ]));
  opening = λ k m h. pair_of ps w k m (rising_keys_has all k (inr (inr (Has-left (flat_map (row_keys w.settings) w.opening) (flat_map (session_keys w.settings) ps) k h))));
  script = λ s i n t st e e' k m h. pair_of ps w k m (rising_keys_has all k (inr (inr (Has-right (flat_map (row_keys w.settings) w.opening) (flat_map (session_keys w.settings) ps) k (session_has w.settings ps s i n t st k e e' h)))));
}
  where
    all : List Key
    all = RowEnd ∷ CellEnd ∷ (flat_map (row_keys w.settings) w.opening ++ flat_map (session_keys w.settings) ps)

-- ---- what is known of a state
module _ (pairs : List Held) (g : Settings) where
  -- the keys of a statement's shape are counted, and those of each shape of a table
  abbrev pub Known : Statement → Type 0
  Known st = AreCounted pairs (statement_keys g st)

  abbrev pub AllKnown : DoneList → Type 0
  AllKnown [] = Unit {0}
  AllKnown (d ∷ ds) = Known d.0 × AllKnown ds

  abbrev pub KnownRows : Rows → Type 0
  KnownRows rows = (k : ℕ) (s : Shape) → lookup rows k ≡ Some s → AreCounted pairs (row_keys g (k, s))

  pub record KnownLocal (x : Local) : Type 0 where
    pub open_one : IfSome x.open_one Known
    pub done : AllKnown x.done
    pub puts : AreCounted pairs x.puts

  pub record KnownState (z : State) : Type 0 where
    pub rows : KnownRows z.rows
    pub locals : (s : ℕ) → KnownLocal (z.of s)

  one_row : (j : ℕ) (t : Shape) (k : ℕ) (s : Shape) → AreCounted pairs (row_keys g (j, t)) → lookup ((j, Some t) ∷ []) k ≡ Some (Some s) → AreCounted pairs (row_keys g (k, s))
  one_row j t k s h e = go (eqb j k) refl e
    where
      go : (b : Bool) → eqb j k ≡ b → cond b (Some (Some t)) None ≡ Some (Some s) → AreCounted pairs (row_keys g (k, s))
      go true q e = let e1 : t ≡ s = cc in let e2 : j ≡ k = eqb-true j k q in subst (λ (r : ℕ × Shape). AreCounted pairs (row_keys g r)) (λ i. (e2 i, e1 i)) h
      go false q e = absurd (cc)

  removed : (ks : List ℕ) (k : ℕ) (s : Shape) → lookup (removals ks) k ≡ Some (Some s) → ⊥
  removed [] k s e = cc
  removed (j ∷ js) k s e = go (eqb j k) e (removed js k s)
    where
      go : (b : Bool) → cond b (Some None) (lookup (removals js) k) ≡ Some (Some s) → (lookup (removals js) k ≡ Some (Some s) → ⊥) → ⊥
      go true e ih = cc
      go false e ih = ih e

  change_known : (st : Statement) (a : Answer) (k : ℕ) (s : Shape) → Known st → lookup (changes st a) k ≡ Some (Some s) → AreCounted pairs (row_keys g (k, s))
  change_known (Insert j t) answer.Inserted k s h e = one_row j t k s h e
  change_known (Update j t) answer.Done k s h e = one_row j t k s h e
  change_known (Delete j) answer.Done k s h e = absurd (removed (j ∷ []) k s e)
  change_known (DeleteWhere q) (answer.Deleted ks) k s h e = absurd (removed ks k s e)
  change_known st a k s h e = absurd (cc)

  changes_known : (ds : DoneList) (k : ℕ) (s : Shape) → AllKnown ds → lookup (changes_of ds) k ≡ Some (Some s) → AreCounted pairs (row_keys g (k, s))
  changes_known [] k s h e = absurd (cc)
  changes_known (d ∷ ds) k s h e = elim (split (changes d.0 d.1) e) [ inl q ↦ change_known d.0 d.1 k s h.0 q | inr q ↦ changes_known ds k s h.1 q ]
    where
      split : (xs : List (ℕ × Option Shape)) → lookup (xs ++ changes_of ds) k ≡ Some (Some s) → (lookup xs k ≡ Some (Some s)) ⊎ (lookup (changes_of ds) k ≡ Some (Some s))
      split [] e = inr e
      split (x ∷ xs) e = go (eqb x.0 k) e (split xs)
        where
          go : (b : Bool) → cond b (Some x.1) (lookup (xs ++ changes_of ds) k) ≡ Some (Some s) → (lookup (xs ++ changes_of ds) k ≡ Some (Some s) → (lookup xs k ≡ Some (Some s)) ⊎ (lookup (changes_of ds) k ≡ Some (Some s)))
              → (cond b (Some x.1) (lookup xs k) ≡ Some (Some s)) ⊎ (lookup (changes_of ds) k ≡ Some (Some s))
          go true e ih = inl e
          go false e ih = ih e

  view_known : (rows : Rows) (ds : DoneList) → KnownRows rows → AllKnown ds → KnownRows (effects ds rows)
  view_known rows ds r h k s e = go (lookup (changes_of ds) k) refl (sym (lookup-effects ds rows k) ∙ e)
    where
      go : (o : Option (Option Shape)) → lookup (changes_of ds) k ≡ o → settle o (lookup rows k) ≡ Some s → AreCounted pairs (row_keys g (k, s))
      go None q e = r k s e
      go (Some v) q e = changes_known ds k s h (q ∙ ap Some e)

  present_known : (z : State) → AreCounted pairs (RowEnd ∷ CellEnd ∷ []) → KnownState z → (k : Key) → IsPresent g z k → (m : Mode) → Has pairs (k, m)
  present_known z ends known k (inr (s, h)) m = (known.locals s).puts k m h
  present_known z ends known (Row j) (inl e) m = go (lookup z.rows j) refl e
    where
      go : (o : Option Shape) → lookup z.rows j ≡ o → is_some o ≡ true → Has pairs (Row j, m)
      go None q e = absurd (cc)
      go (Some s) q e = known.rows j s q (Row j) m (inl refl)
  present_known z ends known (Cell c j) (inl e) m = go (lookup z.rows j) refl e
    where
      go : (o : Option Shape) → lookup z.rows j ≡ o → shows g o c ≡ true → Has pairs (Cell c j, m)
      go None q e = absurd (cc)
      go (Some s) q e = known.rows j s q (Cell c j) m (inr (cell_key_has g j c s e))
  present_known z ends known RowEnd (inl e) m = ends RowEnd m (inl refl)
  present_known z ends known CellEnd (inl e) m = ends CellEnd m (inr (inl refl))

  -- ---- new keys
  abbrev NewCounted : Need → Type 0
  NewCounted (Lock k m) = Unit {0}
  NewCounted (New k) = (m : Mode) → Has pairs (k, m)

  locks_map : {A : Type 0} (f : A → Key) (m : Mode) (xs : List A) → Every NewCounted (map (λ x. Lock (f x) m) xs)
  locks_map f m [] = tt
  locks_map f m (x ∷ xs) = (tt, locks_map f m xs)

  change_counted : (ks : List Key) (k : Key) → ((m : Mode) → Has pairs (k, m)) → NewCounted (change_need ks k)
  change_counted ks k h = go (has_key ks k)
    where
      go : (b : Bool) → NewCounted (cond b (Lock k X) (New k))
      go true = tt
      go false = h

  changes_counted : (ks keys : List Key) → AreCounted pairs keys → Every NewCounted (change_needs ks keys)
  changes_counted ks keys h = Every-map NewCounted (change_need ks) keys (λ k m. change_counted ks k (λ n. h k n m))

  at_counted : (m : Locking) (V : Rows) (k : Key) → Every NewCounted (needs_at g m V k)
  at_counted m V (Row j) = tt
  at_counted m V RowEnd = tt
  at_counted m V CellEnd = tt
  at_counted m V (Cell c r) = (tt, go (sees_cell g V c r) m.row)
    where
      go : (b : Bool) (o : Option Mode) → Every NewCounted (cond b (row_need o r) [])
      go true None = tt
      go true (Some n) = (tt, tt)
      go false o = tt

  search_counted : (m : Locking) (V : Rows) (q : Query) (ks : List Key) → Every NewCounted (query_needs g m V q ks)
  search_counted m V q ks = go g.grid (is_empty q.shape)
    where
      range : (p : ℕ × ℕ) → Every NewCounted (range_needs g m V ks p)
      range p =
          Every-append NewCounted (flat_map (needs_at g m V) (filter (is_within p) ks)) (Lock (first_key (is_past p) ks) m.range ∷ [])
          (Every-flat NewCounted (needs_at g m V) (filter (is_within p) ks) (λ k h. at_counted m V k)) (tt, tt)

      empty : (b : Bool) → Every NewCounted (cond b [] (table_needs m.range ks))
      empty true = tt
      empty false = locks_map (λ k. k) m.range (filter is_row_key ks)

      go : (o : Option Grid) (b : Bool) → Every NewCounted (query_needs_in o g m V q ks)
      go None b = empty (is_empty q.shape)
      go (Some grid) b = Every-flat NewCounted (range_needs g m V ks) (ranges_of g q) (λ p h. range p)

  reads_counted : (st : Statement) (ks : List Key) (V : Rows) → Every NewCounted (read_needs g ks V st)
  reads_counted (Get k) ks V = (go (has_key ks (Row k)), tt)
    where
      go : (b : Bool) → NewCounted (cond b (Lock (Row k) S) (Lock (next_key ks (Row k)) RangeSS))
      go true = tt
      go false = tt
  reads_counted (Select q) ks V = search_counted reading V q ks
  reads_counted (Plan q) ks V = search_counted reading V q ks
  reads_counted (Filter f) ks V = search_counted filtering V (meeting f) ks
  reads_counted (DeleteWhere q) ks V = search_counted deleting V q ks
  reads_counted (Insert k s) ks V = tt
  reads_counted (Update k s) ks V = tt
  reads_counted (Delete k) ks V = tt

  -- the cells that come, go or change are of the old shape or of the new one
  moved_counted : (k : ℕ) (old : Shape) (new : Option Shape) → AreCounted pairs (row_keys g (k, old)) → ((s : Shape) → new ≡ Some s → AreCounted pairs (row_keys g (k, s))) → AreCounted pairs (moved_keys k (cells_in g.grid old) (cells_at g new))
  moved_counted k old new ho hn j m h =
      let o = cells_in g.grid old in
      let n = cells_at g new in
      let t : Entry → Bool = λ e. not (same_mark (mark_in o e.0) (mark_in n e.0)) in
      let i = cell_keys_back k (filter t (o ++ n)) j (rising_keys_back (cell_keys k (filter t (o ++ n))) j h) in
      let e = has_entry (filter t (o ++ n)) i.0 i.2 in
      let b = (filter_has t (o ++ n) e.0 e.1).0 in
      subst (λ l. Has pairs (l, m)) (sym i.1) (elim (Has-cases o n e.0 b) [ inl x ↦ ho (Cell i.0 k) m (inr (key_of o e.0 i.0 x e.2)) | inr x ↦ from_new new refl e.0 i.0 x e.2 ])
    where
      key_of : (es : List Entry) (e : Entry) (c : Path) → Has es e → e.0 ≡ c → Has (cell_keys k es) (Cell c k)
      key_of es e c h q = subst (λ d. Has (cell_keys k es) (Cell d k)) q (has_map (λ (x : Entry). Cell x.0 k) es e h)

      from_new : (o : Option Shape) → new ≡ o → (e : Entry) (c : Path) → Has (cells_at g o) e → e.0 ≡ c → Has pairs (Cell c k, m)
      from_new None q e c h p = absurd h
      from_new (Some s) q e c h p = hn s q (Cell c k) m (inr (key_of (cells_in g.grid s) e c h p))

  edit_counted : (ks : List Key) (V : Rows) → KnownRows V → (k : ℕ) (new : Option Shape) → ((s : Shape) → new ≡ Some s → AreCounted pairs (row_keys g (k, s))) → Every NewCounted (edit_needs g ks V k new)
  edit_counted ks V known k new hn = go (has_key ks (Row k))
    where
      cells : (o : Option Shape) → lookup V k ≡ o → Every NewCounted (edit_cells g ks k o new)
      cells None q = tt
      cells (Some old) q = changes_counted ks (moved_keys k (cells_in g.grid old) (cells_at g new)) (moved_counted k old new (known k old q) hn)

      go : (b : Bool) → Every NewCounted (cond b (Lock (Row k) X ∷ edit_cells g ks k (lookup V k) new) (Lock (next_key ks (Row k)) RangeSS ∷ []))
      go true = (tt, cells (lookup V k) refl)
      go false = (tt, tt)

  writes_counted : (st : Statement) (ks : List Key) (V : Rows) (js : List ℕ) → KnownRows V → Known st → Every NewCounted (write_needs g ks V js st)
  writes_counted (Insert k s) ks V js known h = (first (has_key ks (Row k)), cells (is_some (lookup V k)))
    where
      first : (b : Bool) → NewCounted (cond b (Lock (Row k) S) (New (Row k)))
      first true = tt
      first false = λ m. h (Row k) m (inl refl)

      cells : (b : Bool) → Every NewCounted (cond b [] (change_needs ks (cell_keys k (cells_in g.grid s))))
      cells true = tt
      cells false = changes_counted ks (cell_keys k (cells_in g.grid s)) (λ j m i. h j m (inr i))
  writes_counted (Update k s) ks V js known h = edit_counted ks V known k (Some s) (λ t q. let q' : s ≡ t = cc in subst (λ u. AreCounted pairs (row_keys g (k, u))) q' h)
  writes_counted (Delete k) ks V js known h = edit_counted ks V known k None (λ t q. absurd (cc))
  writes_counted (DeleteWhere q) ks V js known h = Every-flat NewCounted (removal_needs g V) js (λ k m. (tt, locks_map (λ c. c) X (cell_keys k (cells_at g (lookup V k)))))
  writes_counted (Get k) ks V js known h = tt
  writes_counted (Select q) ks V js known h = tt
  writes_counted (Plan q) ks V js known h = tt
  writes_counted (Filter f) ks V js known h = tt

  needs_counted : (st : Statement) (ks : List Key) (V : Rows) (js : List ℕ) → KnownRows V → Known st → Every NewCounted (needs g ks V js st)
  needs_counted st ks V js known h = Every-append NewCounted (read_needs g ks V st) (write_needs g ks V js st) (reads_counted st ks V) (writes_counted st ks V js known h)

-- ---- each event
opening_known : (pairs : List Held) (g : Settings) (rows : Rows) → AreCounted pairs (flat_map (row_keys g) rows) → (k : ℕ) (s : Shape) → lookup rows k ≡ Some s → AreCounted pairs (row_keys g (k, s))
opening_known pairs g [] h k s e = absurd (cc)
opening_known pairs g (x ∷ xs) h k s e =
    go (eqb x.0 k) refl e (opening_known pairs g xs (λ j m i. h j m (Has-right (row_keys g x) (flat_map (row_keys g) xs) j i)) k s)
  where
    go : (b : Bool) → eqb x.0 k ≡ b → cond b (Some x.1) (lookup xs k) ≡ Some s → (lookup xs k ≡ Some s → AreCounted pairs (row_keys g (k, s))) → AreCounted pairs (row_keys g (k, s))
    go true q e ih = let e1 : x.1 ≡ s = cc in let e2 : x.0 ≡ k = eqb-true x.0 k q in subst (λ (r : ℕ × Shape). AreCounted pairs (row_keys g r)) (λ i. (e2 i, e1 i)) (λ j m i. h j m (Has-left (row_keys g x) (flat_map (row_keys g) xs) j i))
    go false q e ih = ih e

asked_known : (pairs : List Held) (w : Stage) (ps : Script) → IsEnough pairs w ps → (x : Local) (s : ℕ) (st : Statement) → upcoming ps x s ≡ Some st → Known pairs w.settings st
asked_known pairs w ps enough x s st e = go (current ps x s) refl e
  where
    go : (o : Option TransactionPlan) → current ps x s ≡ o → slice_get (statements_in o) (length x.done) ≡ Some st → Known pairs w.settings st
    go None q e = absurd (cc)
    go (Some t) q e = enough.script s (pred x.begun) (length x.done) t st q e

with_known : (pairs : List Held) (g : Settings) (z : State) (u : ℕ) (x : Local) (t : Rows) → KnownState pairs g z → KnownRows pairs g t → KnownLocal pairs g x → KnownState pairs g (record { rows = t; of = with_one z.of u x })
with_known pairs g z u x t known r h = record { rows = r; locals = each_with (λ s y. KnownLocal pairs g y) z.of u x (λ s ne. known.locals s) h }

idle_known : (pairs : List Held) (g : Settings) (n : ℕ) → KnownLocal pairs g (idle n)
idle_known pairs g n = record { open_one = tt; done = tt; puts = λ k m h. absurd h }

take_counted : (pairs : List Held) (w : Stage) (ps : Script) → IsStage w → IsEnough pairs w ps → (ls : List Event) (s : ℕ) (k : Key) (m : Mode) → IsLegal w (Take s k m ∷ ls) → KnownState pairs w.settings (state w ls) → IsCounted pairs (Take s k m)
take_counted pairs w ps r enough ls s k m l known =
    let z = state w ls in
    let ok = legal_good w r ls l.0 in
    let st = l.1.0 in
    let a = l.1.2 in
    let n = takes_for w z s st k m (first_unmet (z.of s).held (needs_of w z s st a.selected)) a.follows in
    let o : NeedOk (IsPresent w.settings z) (Lock k m) = unmet_has (NeedOk (IsPresent w.settings z)) (z.of s) (needs_of w z s st a.selected) (Lock k m) (needs_good w z s st a.selected ok a.selects) n in
    (present_known pairs w.settings z enough.ends known k o.0 m, o.1)

put_counted : (pairs : List Held) (w : Stage) (ls : List Event) (s : ℕ) (k : Key) (m : Mode) → IsLegal w (Put s k m ∷ ls) → KnownState pairs w.settings (state w ls) → (n : Mode) → Has pairs (k, n)
put_counted pairs w ls s k m l known n =
    let z = state w ls in
    let st = l.1.0 in
    let a = l.1.2.1 in
    let i = puts_for w z s st k l.1.2.0 m (first_unmet (z.of s).held (needs_of w z s st a.selected)) a.follows in
    let x = known.locals s in
    let h : Known pairs w.settings st = subst (λ (o : Option Statement). IfSome o (Known pairs w.settings)) l.1.1.open_one x.open_one in
    let V : KnownRows pairs w.settings (view z s) = view_known pairs w.settings z.rows (z.of s).done known.rows x.done in
    unmet_has (NewCounted pairs w.settings) (z.of s) (needs_of w z s st a.selected) (New k) (needs_counted pairs w.settings st (present_keys w z) (view z s) a.selected V h) i.0 n

pub known : (pairs : List Held) (w : Stage) (ps : Script) → IsStage w → IsEnough pairs w ps → (ls : List Event) → IsLegal w ls → Follows ps w ls → KnownState pairs w.settings (state w ls)
known pairs w ps r enough [] l f = record { rows = opening_known pairs w.settings w.opening enough.opening; locals = λ s. idle_known pairs w.settings 0 }
known pairs w ps r enough (Begin s t ∷ ls) l f =
    let k = known pairs w ps r enough ls l.0 f.0 in with_known pairs w.settings (state w ls) s (after (Begin s t) ((state w ls).of s)) (state w ls).rows k k.rows (record { open_one = tt; done = tt; puts = λ k m h. absurd h })
known pairs w ps r enough (Ask s n st ∷ ls) l f =
    let k = known pairs w ps r enough ls l.0 f.0 in
    with_known pairs w.settings (state w ls) s (after (Ask s n st) ((state w ls).of s)) (state w ls).rows k k.rows (record { open_one = asked_known pairs w ps enough ((state w ls).of s) s st f.1; done = (k.locals s).done; puts = (k.locals s).puts })
known pairs w ps r enough (Take s j m ∷ ls) l f =
    let k = known pairs w ps r enough ls l.0 f.0 in
    with_known pairs w.settings (state w ls) s (after (Take s j m) ((state w ls).of s)) (state w ls).rows k k.rows (record { open_one = (k.locals s).open_one; done = (k.locals s).done; puts = (k.locals s).puts })
known pairs w ps r enough (Put s j m ∷ ls) l f =
    let k = known pairs w ps r enough ls l.0 f.0 in
    with_known pairs w.settings (state w ls) s (after (Put s j m) ((state w ls).of s)) (state w ls).rows k k.rows
    (record { open_one = (k.locals s).open_one; done = (k.locals s).done; puts = λ i n h. elim h [ inl e ↦ subst (λ q. Has pairs (q, n)) e (put_counted pairs w ls s j m l k n) | inr h' ↦ (k.locals s).puts i n h' ] })
known pairs w ps r enough (Wait s j m b ∷ ls) l f = let k = known pairs w ps r enough ls l.0 f.0 in with_known pairs w.settings (state w ls) s ((state w ls).of s) (state w ls).rows k k.rows (k.locals s)
known pairs w ps r enough (Victim s c ∷ ls) l f = let k = known pairs w ps r enough ls l.0 f.0 in with_known pairs w.settings (state w ls) s (idle ((state w ls).of s).begun) (state w ls).rows k k.rows (idle_known pairs w.settings ((state w ls).of s).begun)
known pairs w ps r enough (Answered s a ∷ ls) l f =
    let k = known pairs w ps r enough ls l.0 f.0 in
    let x = k.locals s in
    let h : Known pairs w.settings l.1.0 = subst (λ (o : Option Statement). IfSome o (Known pairs w.settings)) l.1.1.open_one x.open_one in
    with_known pairs w.settings (state w ls) s (after (Answered s a) ((state w ls).of s)) (state w ls).rows k k.rows
    (subst (λ (o : Option Statement). KnownLocal pairs w.settings (answered ((state w ls).of s) o a)) (sym l.1.1.open_one) (record { open_one = tt; done = (h, x.done); puts = x.puts }))
known pairs w ps r enough (Commit s p ∷ ls) l f =
    let k = known pairs w ps r enough ls l.0 f.0 in
    with_known pairs w.settings (state w ls) s (idle ((state w ls).of s).begun) (effects ((state w ls).of s).done (state w ls).rows) k (view_known pairs w.settings (state w ls).rows ((state w ls).of s).done k.rows (k.locals s).done) (idle_known pairs w.settings ((state w ls).of s).begun)
known pairs w ps r enough (Rollback s c ∷ ls) l f = let k = known pairs w ps r enough ls l.0 f.0 in with_known pairs w.settings (state w ls) s (idle ((state w ls).of s).begun) (state w ls).rows k k.rows (idle_known pairs w.settings ((state w ls).of s).begun)

-- The pair that an event adds is one of those counted.
pub counted : (pairs : List Held) (w : Stage) (ps : Script) → IsStage w → IsEnough pairs w ps → (ls : List Event) (e : Event) → IsLegal w (e ∷ ls) → Follows ps w (e ∷ ls) → IsCounted pairs e
counted pairs w ps r enough ls (Take s k m) l f = take_counted pairs w ps r enough ls s k m l (known pairs w ps r enough ls l.0 f.0)
counted pairs w ps r enough ls (Put s k m) l f = put_counted pairs w ls s k m l (known pairs w ps r enough ls l.0 f.0) m
counted pairs w ps r enough ls (Begin s t) l f = tt
counted pairs w ps r enough ls (Ask s n st) l f = tt
counted pairs w ps r enough ls (Wait s k m b) l f = tt
counted pairs w ps r enough ls (Victim s c) l f = tt
counted pairs w ps r enough ls (Answered s a) l f = tt
counted pairs w ps r enough ls (Commit s p) l f = tt
counted pairs w ps r enough ls (Rollback s c) l f = tt
