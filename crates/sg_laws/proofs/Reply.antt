-- A statement of which every need is met is answered well.
use Rattle.std.proofs.Common.{◌≡◌, ℕ, Bool, true, false, cond, not, ◌||◌, ◌⊎◌, List, [], ◌∷◌, ◌++◌, map, filter, eqb, Option, Some, None, refl, sym, ap, ◌∙◌, subst, inl, inr}
use Rattle.std.specs.Prelude.{is_some}
use Rattle.std.proofs.lemmas.Bool.{eqb-true, or_right, or_left}
use Rattle.sg_shape.specs.declared.shapes.Shape.{Shape}
use Rattle.sg_cells.specs.declared.settings.Settings.{Settings}
use Rattle.sg_cells.specs.declared.marks.Mark.{Mark}
use Rattle.sg_cells.specs.declared.marks.Mark.TheVariants.{Part, Cover}
use Rattle.sg_cells.specs.declared.keys.Key.{Key}
use Rattle.sg_cells.specs.declared.keys.Key.TheVariants.{Row, Cell}
use Rattle.sg_cells.specs.Cells.{Cell as Path}
use Rattle.sg_cells.specs.Tess.{Entry}
use Rattle.sg_cells.specs.Laws.{Has}
use Rattle.sg_modes.specs.declared.modes.Mode.TheVariants.{S, U, X, RangeSS}
use Rattle.sg_plain.specs.declared.statements.Query.{Query}
use Rattle.sg_plain.specs.declared.statements.Statement.{Statement}
use Rattle.sg_plain.specs.declared.statements.Statement.TheVariants.{Insert, Update, Delete, Get, Select, Plan, Filter, DeleteWhere}
use Rattle.sg_plain.specs.declared.statements.Answer.{Answer}
use Rattle.sg_plain.specs.declared.statements.Answer.TheVariants as answer
use Rattle.sg_plain.specs.Rows.{Rows}
use Rattle.sg_plain.specs.Sat.{Satisfies}
use Rattle.sg_plain.specs.Replies.{Means}
use Rattle.sg_plain.proofs.Collects.{IsKeysWith-unique}
use Rattle.sg_trace.specs.Replies.{Reply, meeting}
use Rattle.sg_trace.specs.Keys.{same_cell, has_key, next_key}
use Rattle.sg_trace.specs.Needs.{Lock, New, is_met, has_cell, cells_in, cells_at, cell_keys, mark_in, same_mark, moved_keys, change_need, change_needs, insert_needs, edit_cells, edit_needs, removal_needs, read_needs, write_needs, needs, Selects, reading, deleting, filtering}
use Rattle.sg_trace.specs.Traces.{Local}
use Rattle.sg_laws.specs.Changes.{lookup, changes, removals, shows}
use Rattle.sg_laws.specs.Reading.{IsReading}
use Rattle.sg_laws.specs.Invariant.{Locked, WriteHeld, Guard, Guards, Owned, Watches, Minds}
use Rattle.sg_laws.proofs.Order.{same_cell_refl}
use Rattle.sg_laws.proofs.Coded.{has_entry}
use Rattle.sg_laws.proofs.Present.{has_key_is, has_key_not, rising_keys_has, cell_key_has, cell_keys_has, Has-left, Has-right, Lists, next_is, ceil_of_next}
use Rattle.sg_laws.proofs.Needs.{Sees, Every-left, Every-right, Every-flat-at, Every-map-at, has_filter}
use Rattle.sg_laws.proofs.AllMet.{AllMet, met_write, met_range, met_locked, query_guard, query_rows}

-- what an absent key asks for guards its place
next_guard : (P : Key → Type 0) (ks : List Key) → Lists P ks → (x : Local) (k : ℕ) → has_key ks (Row k) ≡ false → is_met x.held (Lock (next_key ks (Row k)) RangeSS) ≡ true → Guard P x (Row k)
next_guard P ks l x k e m =
    inr (next_key ks (Row k), ceil_of_next P (Row k) (next_key ks (Row k)) (λ p. has_key_not ks (Row k) e (l.whole (Row k) p)) (next_is P ks (Row k) l refl), met_range x (next_key ks (Row k)) RangeSS refl m)

edit_guard : (g : Settings) (P : Key → Type 0) (ks : List Key) → Lists P ks → (x : Local) (V : Rows) (k : ℕ) (new : Option Shape) → AllMet x (edit_needs g ks V k new) → Guard P x (Row k)
edit_guard g P ks l x V k new a = go (has_key ks (Row k)) refl a
  where
    go : (b : Bool) → has_key ks (Row k) ≡ b → AllMet x (cond b (Lock (Row k) X ∷ edit_cells g ks k (lookup V k) new) (Lock (next_key ks (Row k)) RangeSS ∷ [])) → Guard P x (Row k)
    go true e a = inl (met_locked x (Row k) X a.0)
    go false e a = next_guard P ks l x k e a.0

get_guard : (P : Key → Type 0) (ks : List Key) → Lists P ks → (x : Local) (k : ℕ) → is_met x.held (cond (has_key ks (Row k)) (Lock (Row k) S) (Lock (next_key ks (Row k)) RangeSS)) ≡ true → Guard P x (Row k)
get_guard P ks l x k a = go (has_key ks (Row k)) refl a
  where
    go : (b : Bool) → has_key ks (Row k) ≡ b → is_met x.held (cond b (Lock (Row k) S) (Lock (next_key ks (Row k)) RangeSS)) ≡ true → Guard P x (Row k)
    go true e a = inl (met_locked x (Row k) S a)
    go false e a = next_guard P ks l x k e a

pub insert_locked : (ks : List Key) (x : Local) (k : ℕ) → is_met x.held (cond (has_key ks (Row k)) (Lock (Row k) S) (New (Row k))) ≡ true → Has ks (Row k) × Locked x (Row k)
insert_locked ks x k a = go (has_key ks (Row k)) refl a
  where
    go : (b : Bool) → has_key ks (Row k) ≡ b → is_met x.held (cond b (Lock (Row k) S) (New (Row k))) ≡ true → Has ks (Row k) × Locked x (Row k)
    go true e a = (has_key_is ks (Row k) e, met_locked x (Row k) S a)
    go false e a = cc

-- ---- what a reply rests on
module _ (g : Settings) (P : Key → Type 0) (ks : List Key) (l : Lists P ks) (table : Rows) (x : Local) (V : Rows) (see : Sees g P table x V) where
  -- of a statement on one key
  at_key : (st : Statement) (j : ℕ) → ((k : Key) → Watches g st k → k ≡ Row j) → ((s : Shape) → Minds g st s → ⊥) → Guard P x (Row j) → Guards g P table x st
  at_key st j watch mind h = record { keys = λ k w. subst (Guard P x) (sym (watch k w)) h; rows = λ k t e mi. absurd (mind t mi) }

  -- once the needs of its reading are met, what its reply rests on is guarded
  pub reading_guards : (st : Statement) → IsReading st → AllMet x (read_needs g ks V st) → Guards g P table x st
  reading_guards (Get j) h a = at_key (Get j) j (λ k w. w) (λ s m. m) (get_guard P ks l x j a.0)
  reading_guards (Select q) h a = record { keys = query_guard g P ks l x V reading refl q a; rows = λ k t e mi. query_rows g P ks l x V reading refl table see S refl q a k t e mi.0 mi.1 }
  reading_guards (Plan q) h a = record { keys = query_guard g P ks l x V reading refl q a; rows = λ k t e mi. query_rows g P ks l x V reading refl table see S refl q a k t e mi.0 mi.1 }
  reading_guards (Filter f) h a = record { keys = query_guard g P ks l x V filtering refl (meeting f) a; rows = λ k t e mi. absurd mi }
  reading_guards (DeleteWhere q) h a = record { keys = query_guard g P ks l x V deleting refl q a; rows = λ k t e mi. query_rows g P ks l x V deleting refl table see U refl q a k t e mi.0 mi.1 }
  reading_guards (Insert j s) h a = absurd h
  reading_guards (Update j s) h a = absurd h
  reading_guards (Delete j) h a = absurd h

  read_met : (st : Statement) (js : List ℕ) → AllMet x (needs g ks V js st) → AllMet x (read_needs g ks V st)
  read_met st js a = Every-left (λ n. is_met x.held n ≡ true) (read_needs g ks V st) (write_needs g ks V js st) a

  pub guards_met : (st : Statement) (js : List ℕ) → AllMet x (needs g ks V js st) → Guards g P table x st
  guards_met (Insert j s) js a = at_key (Insert j s) j (λ k w. w) (λ s m. m) (inl (insert_locked ks x j a.0).1)
  guards_met (Update j s) js a = at_key (Update j s) j (λ k w. w) (λ s m. m) (edit_guard g P ks l x V j (Some s) a)
  guards_met (Delete j) js a = at_key (Delete j) j (λ k w. w) (λ s m. m) (edit_guard g P ks l x V j None a)
  guards_met (Get j) js a = reading_guards (Get j) tt (read_met (Get j) js a)
  guards_met (Select q) js a = reading_guards (Select q) tt (read_met (Select q) js a)
  guards_met (Plan q) js a = reading_guards (Plan q) tt (read_met (Plan q) js a)
  guards_met (Filter f) js a = reading_guards (Filter f) tt (read_met (Filter f) js a)
  guards_met (DeleteWhere q) js a = reading_guards (DeleteWhere q) tt (read_met (DeleteWhere q) js a)

-- ---- what is changed
pub changes_met : (ks : List Key) (x : Local) (cs : List Key) → AllMet x (change_needs ks cs) → (k : Key) → Has cs k → WriteHeld x k
changes_met ks x cs a k h = go (has_key ks k) (Every-map-at (λ n. is_met x.held n ≡ true) (change_need ks) cs k a h)
  where
    go : (b : Bool) → is_met x.held (cond b (Lock k X) (New k)) ≡ true → WriteHeld x k
    go true m = met_write x k m
    go false m = cc

pub has_lookup : (es : List Entry) (c : Path) → has_cell es c ≡ is_some (mark_in es c)
has_lookup [] c = refl
has_lookup (x ∷ xs) c = go (same_cell x.0 c) (has_lookup xs c)
  where
    go : (b : Bool) → has_cell xs c ≡ is_some (mark_in xs c) → (b || has_cell xs c) ≡ is_some (cond b (Some x.1) (mark_in xs c))
    go true ih = refl
    go false ih = ih

same_some : (a b : Option Mark) → same_mark a b ≡ true → is_some b ≡ is_some a
same_some None None e = refl
same_some (Some Part) (Some Part) e = refl
same_some (Some Cover) (Some Cover) e = refl
same_some (Some Part) (Some Cover) e = cc
same_some (Some Cover) (Some Part) e = cc
same_some None (Some b) e = cc
same_some (Some Part) None e = cc
same_some (Some Cover) None e = cc

differ_some : (a b : Option Mark) → same_mark a b ≡ false → (is_some a ≡ true) ⊎ (is_some b ≡ true)
differ_some None None e = cc
differ_some (Some a) b e = inl refl
differ_some None (Some b) e = inr refl

pub moved_has : (r : ℕ) (old new : List Entry) (c : Path) → same_mark (mark_in old c) (mark_in new c) ≡ false → Has (moved_keys r old new) (Cell c r)
moved_has r old new c e =
    let t : Entry → Bool = λ e. not (same_mark (mark_in old e.0) (mark_in new e.0)) in
    let there : (x : Entry) × Has (old ++ new) x × (x.0 ≡ c) = elim (differ_some (mark_in old c) (mark_in new c) e) [
      | inl h ↦ let i = has_entry old c (has_lookup old c ∙ h) in (i.0, Has-left old new i.0 i.1, i.2)
      | inr h ↦ let i = has_entry new c (has_lookup new c ∙ h) in (i.0, Has-right old new i.0 i.1, i.2)
    ] in
    let x = there.0 in
    let passes : t x ≡ true = ap (λ d. not (same_mark (mark_in old d) (mark_in new d))) there.2 ∙ ap not e in
    rising_keys_has (cell_keys r (filter t (old ++ new))) (Cell c r) (cell_keys_has r c (filter t (old ++ new)) (entry_has (filter t (old ++ new)) x c (has_filter t (old ++ new) x there.1 passes) there.2))
  where
    entry_has : (es : List Entry) (x : Entry) (c : Path) → Has es x → x.0 ≡ c → has_cell es c ≡ true
    entry_has [] x c h e = absurd h
    entry_has (y ∷ ys) x c (inl q) e = or_left (same_cell y.0 c) (has_cell ys c) (ap (λ (z : Entry). same_cell z.0 c) q ∙ (ap (λ d. same_cell d c) e ∙ same_cell_refl c))
    entry_has (y ∷ ys) x c (inr m) e = or_right (same_cell y.0 c) (has_cell ys c) (entry_has ys x c m e)

edit_owned : (g : Settings) (P : Key → Type 0) (ks : List Key) → Lists P ks → (table : Rows) (x : Local) (V : Rows) → Sees g P table x V → (k : ℕ) (new : Option Shape) (old : Shape) → lookup V k ≡ Some old → AllMet x (edit_needs g ks V k new) → Owned g x k (lookup V k) new
edit_owned g P ks l table x V see k new old is a = subst (λ o. Owned g x k o new) (sym is) (go (has_key ks (Row k)) refl a)
  where
    cells : AllMet x (change_needs ks (moved_keys k (cells_in g.grid old) (cells_at g new))) → (c : Path) → (b : Bool) → same_mark (mark_in (cells_in g.grid old) c) (mark_in (cells_at g new) c) ≡ b → (shows g new c ≡ shows g (Some old) c) ⊎ WriteHeld x (Cell c k)
    cells m c true e =
        inl (has_lookup (cells_at g new) c ∙ (same_some (mark_in (cells_in g.grid old) c) (mark_in (cells_at g new) c) e ∙ sym (has_lookup (cells_in g.grid old) c)))
    cells m c false e =
        inr (changes_met ks x (moved_keys k (cells_in g.grid old) (cells_at g new)) m (Cell c k) (moved_has k (cells_in g.grid old) (cells_at g new) c e))

    go : (b : Bool) → has_key ks (Row k) ≡ b → AllMet x (cond b (Lock (Row k) X ∷ edit_cells g ks k (lookup V k) new) (Lock (next_key ks (Row k)) RangeSS ∷ [])) → Owned g x k (Some old) new
    go false e m = absurd (has_key_not ks (Row k) e (l.whole (Row k) (see.row_there k old is)))
    go true e m =
        let m' : AllMet x (edit_cells g ks k (Some old) new) = subst (λ o. AllMet x (edit_cells g ks k o new)) is m.1 in
        record { row = met_write x (Row k) m.0; cells = λ c. cells m' c (same_mark (mark_in (cells_in g.grid old) c) (mark_in (cells_at g new) c)) refl }

removals_back : (js : List ℕ) (k : ℕ) (v : Option Shape) → lookup (removals js) k ≡ Some v → Has js k × (v ≡ None)
removals_back [] k v e = cc
removals_back (j ∷ js) k v e = go (removals_back js k v) (eqb j k) refl
  where
    go : (lookup (removals js) k ≡ Some v → Has js k × (v ≡ None)) → (b : Bool) → eqb j k ≡ b → Has (j ∷ js) k × (v ≡ None)
    go ih true q = let n : Option Shape = None in let e' : Some n ≡ Some v = rw q at e in (inl (eqb-true j k q), cc)
    go ih false q = let e' : lookup (removals js) k ≡ Some v = rw q at e in let i = ih e' in (inr i.0, i.1)

removal_owned : (g : Settings) (x : Local) (V : Rows) (k : ℕ) → AllMet x (removal_needs g V k) → Owned g x k (lookup V k) None
removal_owned g x V j a = record { row = met_write x (Row j) a.0; cells = λ c. cells (lookup V j) c a.1 }
  where
    cells : (o : Option Shape) (c : Path) → AllMet x (map (λ c. Lock c X) (cell_keys j (cells_at g o))) → (shows g None c ≡ shows g o c) ⊎ WriteHeld x (Cell c j)
    cells None c m = inl refl
    cells (Some s) c m = go (shows g (Some s) c) refl
      where
        go : (b : Bool) → shows g (Some s) c ≡ b → (false ≡ shows g (Some s) c) ⊎ WriteHeld x (Cell c j)
        go false q = inl (sym q)
        go true q = inr (met_write x (Cell c j) (Every-map-at (λ n. is_met x.held n ≡ true) (λ c. Lock c X) (cell_keys j (cells_in g.grid s)) (Cell c j) m (cell_key_has g j c s q)))

no_change : {A : Type 0} (v : Option Shape) → None ≡ Some v → A
no_change v e = cc

one_change : (k j : ℕ) (w v : Option Shape) → lookup ((k, w) ∷ []) j ≡ Some v → (k ≡ j) × (w ≡ v)
one_change k j w v e = go (eqb k j) refl
  where
    go : (b : Bool) → eqb k j ≡ b → (k ≡ j) × (w ≡ v)
    go true q = let e' : Some w ≡ Some v = rw q at e in (eqb-true k j q, cc)
    go false q = let e' : None ≡ Some v = rw q at e in cc

there_is : (o : Option Shape) → is_some o ≡ true → (s : Shape) × (o ≡ Some s)
there_is None e = cc
there_is (Some s) e = (s, refl)

-- Each change of the answer is held.
module _ (g : Settings) (P : Key → Type 0) (ks : List Key) (l : Lists P ks) (table : Rows) (x : Local) (V : Rows) (see : Sees g P table x V) where
  insert_owned : (j : ℕ) (s : Shape) (a : Answer) → AllMet x (insert_needs g ks V j s) → Means V (Insert j s) a → (k : ℕ) (v : Option Shape) → lookup (changes (Insert j s) a) k ≡ Some v → Owned g x k (lookup V k) v
  insert_owned j s answer.Inserted m h k v e =
      let o = one_change j k (Some s) v e in
      subst (λ i. Owned g x i (lookup V i) v) o.0 (subst (λ w. Owned g x j (lookup V j) w) o.1 fresh)
    where
      i : Has ks (Row j) × Locked x (Row j)
      i = insert_locked ks x j m.0

      cells : AllMet x (change_needs ks (cell_keys j (cells_in g.grid s))) → (c : Path) (b : Bool) → shows g (Some s) c ≡ b → (shows g (Some s) c ≡ false) ⊎ WriteHeld x (Cell c j)
      cells m c false q = inl q
      cells m c true q = inr (changes_met ks x (cell_keys j (cells_in g.grid s)) m (Cell c j) (cell_key_has g j c s q))

      fresh : Owned g x j (lookup V j) (Some s)
      fresh =
          let n : AllMet x (change_needs ks (cell_keys j (cells_in g.grid s))) = subst (λ o. AllMet x (cond (is_some o) [] (change_needs ks (cell_keys j (cells_in g.grid s))))) h m.1 in
          subst (λ o. Owned g x j o (Some s)) (sym h) (record { row = see.hidden j (l.sound (Row j) i.0) i.1 h; cells = λ c. cells n c (shows g (Some s) c) refl })
  insert_owned j s answer.Duplicate m h k v e = no_change v e
  insert_owned j s _ m h k v e = absurd h

  update_owned : (j : ℕ) (s : Shape) (a : Answer) → AllMet x (edit_needs g ks V j (Some s)) → Means V (Update j s) a → (k : ℕ) (v : Option Shape) → lookup (changes (Update j s) a) k ≡ Some v → Owned g x k (lookup V k) v
  update_owned j s answer.Done m h k v e =
      let o = one_change j k (Some s) v e in
      let f = there_is (lookup V j) h in
      subst (λ i. Owned g x i (lookup V i) v) o.0 (subst (λ w. Owned g x j (lookup V j) w) o.1 (edit_owned g P ks l table x V see j (Some s) f.0 f.1 m))
  update_owned j s answer.Missing m h k v e = no_change v e
  update_owned j s _ m h k v e = absurd h

  delete_owned : (j : ℕ) (a : Answer) → AllMet x (edit_needs g ks V j None) → Means V (Delete j) a → (k : ℕ) (v : Option Shape) → lookup (changes (Delete j) a) k ≡ Some v → Owned g x k (lookup V k) v
  delete_owned j answer.Done m h k v e =
      let o = one_change j k None v e in
      let f = there_is (lookup V j) h in
      subst (λ i. Owned g x i (lookup V i) v) o.0 (subst (λ w. Owned g x j (lookup V j) w) o.1 (edit_owned g P ks l table x V see j None f.0 f.1 m))
  delete_owned j answer.Missing m h k v e = no_change v e
  delete_owned j _ m h k v e = absurd h

  delete_where_owned : (q : Query) (js : List ℕ) (a : Answer) → AllMet x (needs g ks V js (DeleteWhere q)) → Selects V (DeleteWhere q) js → Means V (DeleteWhere q) a → (k : ℕ) (v : Option Shape) → lookup (changes (DeleteWhere q) a) k ≡ Some v → Owned g x k (lookup V k) v
  delete_where_owned q js (answer.Deleted keys) m sel h k v e =
      let b = removals_back keys k v e in
      let same : keys ≡ js = IsKeysWith-unique (Satisfies q) V keys js h sel in
      subst (λ w. Owned g x k (lookup V k) w) (sym b.1)
      (removal_owned g x V k (Every-flat-at (λ n. is_met x.held n ≡ true) (removal_needs g V) js k (Every-right (λ n. is_met x.held n ≡ true) (read_needs g ks V (DeleteWhere q)) (write_needs g ks V js (DeleteWhere q)) m) (subst (λ xs. Has xs k) same b.0)))
  delete_where_owned q js _ m sel h k v e = absurd h

  pub owned_met : (st : Statement) (js : List ℕ) (a : Answer) → AllMet x (needs g ks V js st) → Selects V st js → Reply g V st a → (k : ℕ) (v : Option Shape) → lookup (changes st a) k ≡ Some v → Owned g x k (lookup V k) v
  owned_met (Insert j s) js a m sel r k v e = insert_owned j s a m r k v e
  owned_met (Update j s) js a m sel r k v e = update_owned j s a m r k v e
  owned_met (Delete j) js a m sel r k v e = delete_owned j a m r k v e
  owned_met (DeleteWhere q) js a m sel r k v e = delete_where_owned q js a m sel r k v e
  owned_met (Get j) js a m sel r k v e = no_change v e
  owned_met (Select q) js a m sel r k v e = no_change v e
  owned_met (Plan q) js a m sel r k v e = no_change v e
  owned_met (Filter f) js a m sel r k v e = no_change v e
