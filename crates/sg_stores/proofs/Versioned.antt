-- What a session sees of a version, and what is committed, after it has written and after its writes have ended.
use Rattle.std.specs.Prelude.{IsSome}
use Rattle.std.proofs.Common.{◌≡◌, ◌⊎◌, inl, inr, ℕ, Bool, true, false, cond, ◌&&◌, List, Option, Some, None, refl, sym, ap, ◌∙◌, subst}
use mathlib.Core.Bool.{true≢false}
use Rattle.std.specs.declared.cmp.Ordering.{Ordering}
use Rattle.std.specs.Ordering.{is_eq}
use Rattle.std.specs.Option.{is_none, is_some, option_map}
use Rattle.std.specs.Cmp.{IsTotalOrder}
use Rattle.std.specs.Map.{lookup}
use Rattle.std.specs.BTreeMap.{insert_entry, is_at}
use Rattle.std.proofs.lemmas.Bool.{eq-eqb}
use Rattle.std.proofs.lemmas.Cmp.{tied_itself}
use Rattle.sg_versions.specs.declared.version.Version.{Version}
use Rattle.sg_versions.specs.declared.version.WritesEnd.{WritesEnd}
use Rattle.sg_versions.specs.declared.version.WritesEnd.TheVariants.{Keep, Undo}
use Rattle.sg_versions.specs.Versions.{is_writer, seen, visible, fresh, written, outcome, ended, settled_version}
use Rattle.sg_versions.specs.Writers.{writer_of}
use Rattle.sg_versions.proofs.Orders.{lookup_alike, lookup_inserted}
use Rattle.sg_stores.specs.Agreement.{committed_in}
use Rattle.sg_stores.specs.Writes.{IsOwn, made, IsMade, IsWritten}

module _ (s : ℕ) where
  itself : is_writer s (Some s) ≡ true
  itself = eq-eqb s s refl

  mine_or_free : (w : Option ℕ) → (w ≡ None) ⊎ (w ≡ Some s) → (is_writer s w ≡ false) ⊎ (is_writer s w ≡ true)
  mine_or_free w (inl e) = inl (ap (is_writer s) e)
  mine_or_free w (inr e) = inr (ap (is_writer s) e ∙ itself)

module _ {V : Type 0} (s : ℕ) where
  -- ---- the end of the writes
  -- what the end leaves to be seen
  abbrev pub left : WritesEnd → Option (Version V) → Option V
  left Keep o = visible s o
  left Undo o = committed_in o

  abbrev settle_by : Bool → WritesEnd → Version V → Option (Version V)
  settle_by b e v = cond (b && is_none (outcome e v)) None (Some (cond b (ended e v) v))

  seen_left : (o : Option V) → visible s (cond (is_none o) None (Some (record { committed = o; writer = None; live = None }))) ≡ o
  seen_left None = refl
  seen_left (Some x) = refl

  committed_left : (o : Option V) → committed_in (cond (is_none o) None (Some (record { committed = o; writer = None; live = None }))) ≡ o
  committed_left None = refl
  committed_left (Some x) = refl

  free_left : (o : Option V) → writer_of (cond (is_none o) None (Some (record { committed = o; writer = None; live = None }))) ≡ None
  free_left None = refl
  free_left (Some x) = refl

  outcome_is : (e : WritesEnd) (v : Version V) → is_writer s v.writer ≡ true → outcome e v ≡ left e (Some v)
  outcome_is Keep v mine = sym (ap (λ b. cond b v.live v.committed) mine)
  outcome_is Undo v mine = refl

  same_is : (e : WritesEnd) (v : Version V) → is_writer s v.writer ≡ false → left e (Some v) ≡ v.committed
  same_is Keep v free = ap (λ b. cond b v.live v.committed) free
  same_is Undo v free = refl

  seen_by : (e : WritesEnd) (v : Version V) → (is_writer s v.writer ≡ false) ⊎ (is_writer s v.writer ≡ true) → visible s (settled_version e s (Some v)) ≡ left e (Some v)
  seen_by e v (inl free) = ap (λ b. visible s (settle_by b e v)) free ∙ ap (λ b. cond b v.live v.committed) free ∙ sym (same_is e v free)
  seen_by e v (inr mine) = ap (λ b. visible s (settle_by b e v)) mine ∙ seen_left (outcome e v) ∙ outcome_is e v mine

  pub settled_seen : (e : WritesEnd) (o : Option (Version V)) → IsOwn s o → visible s (settled_version e s o) ≡ left e o
  settled_seen Keep None own = refl
  settled_seen Undo None own = refl
  settled_seen e (Some v) own = seen_by e v (mine_or_free s v.writer own)

  committed_by : (e : WritesEnd) (v : Version V) → (is_writer s v.writer ≡ false) ⊎ (is_writer s v.writer ≡ true) → committed_in (settled_version e s (Some v)) ≡ left e (Some v)
  committed_by e v (inl free) = ap (λ b. committed_in (settle_by b e v)) free ∙ sym (same_is e v free)
  committed_by e v (inr mine) = ap (λ b. committed_in (settle_by b e v)) mine ∙ committed_left (outcome e v) ∙ outcome_is e v mine

  pub settled_committed : (e : WritesEnd) (o : Option (Version V)) → IsOwn s o → committed_in (settled_version e s o) ≡ left e o
  settled_committed Keep None own = refl
  settled_committed Undo None own = refl
  settled_committed e (Some v) own = committed_by e v (mine_or_free s v.writer own)

  own_by : (e : WritesEnd) (v : Version V) → IsOwn s (Some v) → (is_writer s v.writer ≡ false) ⊎ (is_writer s v.writer ≡ true) → IsOwn s (settled_version e s (Some v))
  own_by e v own (inl free) = subst (IsOwn s) (sym (ap (λ b. settle_by b e v) free)) own
  own_by e v own (inr mine) = inl (ap (λ b. writer_of (settle_by b e v)) mine ∙ free_left (outcome e v))

  pub settled_own : (e : WritesEnd) (o : Option (Version V)) → IsOwn s o → IsOwn s (settled_version e s o)
  settled_own e None own = inl refl
  settled_own e (Some v) own = own_by e v own (mine_or_free s v.writer own)

  -- ---- a write
  pub made_own : (o : Option (Version V)) → IsOwn s o → IsOwn s (Some (made s o))
  made_own None own = inr refl
  made_own (Some v) own = own

  pub seen_written : (value : Option V) (v : Version V) → seen s (written s value v) ≡ value
  seen_written value v = ap (λ b. cond b value v.committed) (itself s)

  pub committed_made : (o : Option (Version V)) → (made s o).committed ≡ committed_in o
  committed_made None = refl
  committed_made (Some v) = refl

module _ {K V : Type 0} (cmp : K → K → Ordering) (total : IsTotalOrder cmp) (s : ℕ) (key : K) (old : List (K × Version V)) where
  here_is : is_eq (cmp key key) ≡ true
  here_is = ap is_eq (tied_itself total key)

  present_by : (o : Option (Version V)) → is_some o ≡ true → o ≡ Some (made s o)
  present_by None h = absurd (true≢false (sym h))
  present_by (Some v) h = refl

  absent_by : (o : Option (Version V)) → is_some o ≡ false → o ≡ None
  absent_by None h = refl
  absent_by (Some v) h = absurd (true≢false h)

  -- the key was there
  pub made_present : is_some (lookup (is_at (cmp key)) old) ≡ true → IsMade cmp s key old old
  made_present h k = by_key (is_eq (cmp key k)) refl
    where
      by_key : (b : Bool) → is_eq (cmp key k) ≡ b → lookup (is_at (cmp k)) old ≡ cond b (Some (made s (lookup (is_at (cmp k)) old))) (lookup (is_at (cmp k)) old)
      by_key true e = present_by (lookup (is_at (cmp k)) old) (ap is_some (lookup_alike cmp total key k old e) ∙ h)
      by_key false e = refl

  -- it wasn't, and a fresh one comes
  pub made_absent : is_some (lookup (is_at (cmp key)) old) ≡ false → IsMade cmp s key old (insert_entry cmp old key (fresh s))
  made_absent h k = lookup_inserted cmp total key k (fresh s) old ∙ by_key (is_eq (cmp key k)) refl
    where
      by_key : (b : Bool) → is_eq (cmp key k) ≡ b → cond b (Some (fresh s)) (lookup (is_at (cmp k)) old) ≡ cond b (Some (made s (lookup (is_at (cmp k)) old))) (lookup (is_at (cmp k)) old)
      by_key true e = ap (λ o. Some (made s o)) (sym (lookup_alike cmp total key k old e ∙ absent_by (lookup (is_at (cmp key)) old) h))
      by_key false e = refl

  pub own_after_made : (new : List (K × Version V)) → ((k : K) → IsOwn s (lookup (is_at (cmp k)) old)) → IsMade cmp s key old new → (k : K) → IsOwn s (lookup (is_at (cmp k)) new)
  own_after_made new own is k = subst (IsOwn s) (sym (is k)) (by_key (is_eq (cmp key k)))
    where
      by_key : (b : Bool) → IsOwn s (cond b (Some (made s (lookup (is_at (cmp k)) old))) (lookup (is_at (cmp k)) old))
      by_key true = made_own s (lookup (is_at (cmp k)) old) (own k)
      by_key false = own k

  pub present_after_made : (new : List (K × Version V)) → IsMade cmp s key old new → IsSome (lookup (is_at (cmp key)) new)
  present_after_made new is = subst IsSome (sym (is key ∙ ap (λ b. cond b (Some (made s (lookup (is_at (cmp key)) old))) (lookup (is_at (cmp key)) old)) here_is)) refl

  -- and then it is written
  pub written_after_made : (value : Option V) (mid new : List (K × Version V)) → IsMade cmp s key old mid
      → ((k : K) → lookup (is_at (cmp k)) new ≡ cond (is_eq (cmp key k)) (option_map (written s value) (lookup (is_at (cmp k)) mid)) (lookup (is_at (cmp k)) mid)) → IsWritten cmp s key value old new
  written_after_made value mid new is each k =
      each k ∙ ap (λ o. cond (is_eq (cmp key k)) (option_map (written s value) o) o) (is k) ∙ by_key (is_eq (cmp key k))
    where
      by_key : (b : Bool) → cond b (option_map (written s value) (cond b (Some (made s (lookup (is_at (cmp k)) old))) (lookup (is_at (cmp k)) old))) (cond b (Some (made s (lookup (is_at (cmp k)) old))) (lookup (is_at (cmp k)) old))
          ≡ cond b (Some (written s value (made s (lookup (is_at (cmp k)) old)))) (lookup (is_at (cmp k)) old)
      by_key true = refl
      by_key false = refl

  module _ (value : Option V) (new : List (K × Version V)) (is : IsWritten cmp s key value old new) where
    pub own_written : ((k : K) → IsOwn s (lookup (is_at (cmp k)) old)) → (k : K) → IsOwn s (lookup (is_at (cmp k)) new)
    own_written own k = subst (IsOwn s) (sym (is k)) (by_key (is_eq (cmp key k)))
      where
        by_key : (b : Bool) → IsOwn s (cond b (Some (written s value (made s (lookup (is_at (cmp k)) old)))) (lookup (is_at (cmp k)) old))
        by_key true = inr refl
        by_key false = own k

    pub visible_written : (k : K) → visible s (lookup (is_at (cmp k)) new) ≡ cond (is_eq (cmp key k)) value (visible s (lookup (is_at (cmp k)) old))
    visible_written k = ap (visible s) (is k) ∙ by_key (is_eq (cmp key k))
      where
        by_key : (b : Bool) → visible s (cond b (Some (written s value (made s (lookup (is_at (cmp k)) old)))) (lookup (is_at (cmp k)) old)) ≡ cond b value (visible s (lookup (is_at (cmp k)) old))
        by_key true = seen_written s value (made s (lookup (is_at (cmp k)) old))
        by_key false = refl

    pub committed_written : (k : K) → committed_in (lookup (is_at (cmp k)) new) ≡ committed_in (lookup (is_at (cmp k)) old)
    committed_written k = ap committed_in (is k) ∙ by_key (is_eq (cmp key k))
      where
        by_key : (b : Bool) → committed_in (cond b (Some (written s value (made s (lookup (is_at (cmp k)) old)))) (lookup (is_at (cmp k)) old)) ≡ committed_in (lookup (is_at (cmp k)) old)
        by_key true = committed_made s (lookup (is_at (cmp k)) old)
        by_key false = refl
