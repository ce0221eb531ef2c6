-- What the end of a session's writes leaves at a key: nothing of this asks who else has written.
use Rattle.std.specs.Prelude.{is_some}
use Rattle.std.proofs.Common.{◌≡◌, ◌≢◌, ◌⊎◌, ℕ, Bool, true, false, ◌&&◌, cond, Option, Some, None, refl, sym, ap, ◌∙◌, eqb-true, inl, inr}
use Rattle.std.specs.Option.{is_none}
use Rattle.std.proofs.lemmas.Bool.{ne_eqb}
use Rattle.sg_versions.specs.declared.version.Version.{Version}
use Rattle.sg_versions.specs.declared.version.WritesEnd.{WritesEnd}
use Rattle.sg_versions.specs.declared.version.WritesEnd.TheVariants.{Keep, Undo}
use Rattle.sg_versions.specs.Versions.{is_writer, seen, visible, outcome, ended, settled_version}
use Rattle.sg_versions.specs.Writers.{writer_of}
use Rattle.sg_stores.specs.Agreement.{committed_in}
use Rattle.sg_engine.specs.Ties.{IsKept}

only_one : (s : ℕ) (w : Option ℕ) (u : ℕ) → u ≢ s → is_writer s w ≡ true → is_writer u w ≡ false
only_one s None u ne h = refl
only_one s (Some x) u ne h = ne_eqb u x (λ e. ne (e ∙ sym (eqb-true s x h)))

module _ {V : Type 0} (s : ℕ) where
  committed_left : (o : Option V) → committed_in (cond (is_none o) None (Some (record { committed = o; writer = None; live = None }))) ≡ o
  committed_left None = refl
  committed_left (Some x) = refl

  seen_left : (u : ℕ) (o : Option V) → visible u (cond (is_none o) None (Some (record { committed = o; writer = None; live = None }))) ≡ o
  seen_left u None = refl
  seen_left u (Some x) = refl

  -- a commit: what the session saw is committed, and it still sees it
  kept_by : (v : Version V) (b : Bool) → committed_in (cond (b && is_none v.live) None (Some (cond b (ended Keep v) v))) ≡ cond b v.live v.committed
  kept_by v true = committed_left v.live
  kept_by v false = refl

  pub kept_committed : (o : Option (Version V)) → committed_in (settled_version Keep s o) ≡ visible s o
  kept_committed None = refl
  kept_committed (Some v) = kept_by v (is_writer s v.writer)

  kept_seen_by : (v : Version V) (b : Bool) → is_writer s v.writer ≡ b → visible s (cond (b && is_none v.live) None (Some (cond b (ended Keep v) v))) ≡ cond b v.live v.committed
  kept_seen_by v true e = seen_left s v.live
  kept_seen_by v false e = ap (λ b. cond b v.live v.committed) e

  pub kept_seen : (o : Option (Version V)) → visible s (settled_version Keep s o) ≡ visible s o
  kept_seen None = refl
  kept_seen (Some v) = kept_seen_by v (is_writer s v.writer) refl

  -- a rollback: what was committed stays so, and the session sees it
  undone_by : (v : Version V) (b : Bool) → committed_in (cond (b && is_none v.committed) None (Some (cond b (ended Undo v) v))) ≡ v.committed
  undone_by v true = committed_left v.committed
  undone_by v false = refl

  pub undone_committed : (o : Option (Version V)) → committed_in (settled_version Undo s o) ≡ committed_in o
  undone_committed None = refl
  undone_committed (Some v) = undone_by v (is_writer s v.writer)

  undone_seen_by : (v : Version V) (b : Bool) → is_writer s v.writer ≡ b → visible s (cond (b && is_none v.committed) None (Some (cond b (ended Undo v) v))) ≡ v.committed
  undone_seen_by v true e = seen_left s v.committed
  undone_seen_by v false e = ap (λ b. cond b v.live v.committed) e

  pub undone_seen : (o : Option (Version V)) → visible s (settled_version Undo s o) ≡ committed_in o
  undone_seen None = refl
  undone_seen (Some v) = undone_seen_by v (is_writer s v.writer) refl

  -- another session, after a rollback: as before
  undone_other_by : (u : ℕ) → u ≢ s → (v : Version V) (b : Bool) → is_writer s v.writer ≡ b → visible u (cond (b && is_none v.committed) None (Some (cond b (ended Undo v) v))) ≡ seen u v
  undone_other_by u ne v true e = seen_left u v.committed ∙ ap (λ b. cond b v.live v.committed) (sym (only_one s v.writer u ne e))
  undone_other_by u ne v false e = refl

  pub undone_other : (u : ℕ) → u ≢ s → (o : Option (Version V)) → visible u (settled_version Undo s o) ≡ visible u o
  undone_other u ne None = refl
  undone_other u ne (Some v) = undone_other_by u ne v (is_writer s v.writer) refl

  -- another session, after a commit: what the writer saw, and elsewhere as before
  kept_other_by : (u : ℕ) → u ≢ s → (v : Version V) (b : Bool) → is_writer s v.writer ≡ b → visible u (cond (b && is_none v.live) None (Some (cond b (ended Keep v) v))) ≡ cond b v.live (seen u v)
  kept_other_by u ne v true e = seen_left u v.live
  kept_other_by u ne v false e = refl

  pub kept_other : (u : ℕ) → u ≢ s → (v : Version V) → visible u (settled_version Keep s (Some v)) ≡ cond (is_writer s v.writer) v.live (seen u v)
  kept_other u ne v = kept_other_by u ne v (is_writer s v.writer) refl

-- ---- either end
is_not_none : {A : Type 0} (a : Option A) → is_none a ≡ false → is_some a ≡ true
is_not_none None h = absurd (cc)
is_not_none (Some x) h = refl

-- what the end leaves at a key: what the session saw there, or what was committed
abbrev pub left : {V : Type 0} → WritesEnd → ℕ → Option (Version V) → Option V
left Keep s o = visible s o
left Undo s o = committed_in o

module _ {V : Type 0} (s : ℕ) where
  pub left_committed : (e : WritesEnd) (o : Option (Version V)) → committed_in (settled_version e s o) ≡ left e s o
  left_committed Keep o = kept_committed s o
  left_committed Undo o = undone_committed s o

  pub left_seen : (e : WritesEnd) (o : Option (Version V)) → visible s (settled_version e s o) ≡ left e s o
  left_seen Keep o = kept_seen s o
  left_seen Undo o = undone_seen s o

  outcome_left : (e : WritesEnd) (v : Version V) → is_writer s v.writer ≡ true → outcome e v ≡ left e s (Some v)
  outcome_left Keep v h = ap (λ b. cond b v.live v.committed) (sym h)
  outcome_left Undo v h = refl

  other_by : (e : WritesEnd) (u : ℕ) (v : Version V) (b : Bool) → is_writer s v.writer ≡ b → visible u (cond (b && is_none (outcome e v)) None (Some (cond b (ended e v) v))) ≡ cond b (left e s (Some v)) (seen u v)
  other_by e u v true h = seen_left s u (outcome e v) ∙ outcome_left e v h
  other_by e u v false h = refl

  -- another session sees what the end leaves where the session had written, and elsewhere what it saw before
  pub left_other : (e : WritesEnd) (u : ℕ) (o : Option (Version V)) → visible u (settled_version e s o) ≡ cond (is_writer s (writer_of o)) (left e s o) (visible u o)
  left_other e u None = refl
  left_other e u (Some v) = other_by e u v (is_writer s v.writer) refl

  -- where the session had not written, nothing changes
  not_by : (e : WritesEnd) (v : Version V) (b : Bool) → b ≡ false → cond (b && is_none (outcome e v)) None (Some (cond b (ended e v) v)) ≡ Some v
  not_by e v true h = absurd (cc)
  not_by e v false h = refl

  pub unwritten_same : (e : WritesEnd) (o : Option (Version V)) → is_writer s (writer_of o) ≡ false → settled_version e s o ≡ o
  unwritten_same e None h = refl
  unwritten_same e (Some v) h = not_by e v (is_writer s v.writer) h

  pub unwritten_left : (e : WritesEnd) (o : Option (Version V)) → is_writer s (writer_of o) ≡ false → left e s o ≡ committed_in o
  unwritten_left Keep None h = refl
  unwritten_left Keep (Some v) h = ap (λ b. cond b v.live v.committed) h
  unwritten_left Undo o h = refl

  -- who else sees what is committed there, where the session had written
  pub committed_other : (u : ℕ) → u ≢ s → (o : Option (Version V)) → is_writer s (writer_of o) ≡ true → visible u o ≡ committed_in o
  committed_other u ne None h = refl
  committed_other u ne (Some v) h = ap (λ b. cond b v.live v.committed) (only_one s v.writer u ne h)

  -- ---- keys that stay
  some_of : (o : Option (Version V)) → is_some (committed_in o) ≡ true → is_some o ≡ true
  some_of None h = h
  some_of (Some v) h = refl

  pub left_there : (e : WritesEnd) (o : Option (Version V)) → is_some (left e s o) ≡ true → is_some (settled_version e s o) ≡ true
  left_there e o h = some_of (settled_version e s o) (ap is_some (left_committed e o) ∙ h)

  there_by : (e : WritesEnd) (v : Version V) (b : Bool) → is_writer s v.writer ≡ b → (n : Bool) → is_none (outcome e v) ≡ n → is_some (cond (b && n) None (Some (cond b (ended e v) v))) ≡ true
      → (is_some (left e s (Some v)) ≡ true) ⊎ (b ≡ false)
  there_by e v true h true m i = absurd (cc)
  there_by e v true h false m i = inl (ap is_some (sym (outcome_left e v h)) ∙ is_not_none (outcome e v) m)
  there_by e v false h n m i = inr refl

  pub there_left : (e : WritesEnd) (o : Option (Version V)) → is_some (settled_version e s o) ≡ true → (is_some (left e s o) ≡ true) ⊎ (is_writer s (writer_of o) ≡ false)
  there_left e None i = absurd (cc)
  there_left e (Some v) i = there_by e v (is_writer s v.writer) refl (is_none (outcome e v)) refl i

  -- ---- writers that stay
  writer_by : (e : WritesEnd) (u : ℕ) (v : Version V) (b n : Bool) → writer_of (cond (b && n) None (Some (cond b (ended e v) v))) ≡ Some u → (b ≡ false) × (v.writer ≡ Some u)
  writer_by e u v true true h = absurd (cc)
  writer_by e u v true false h = absurd (cc)
  writer_by e u v false n h = (refl, h)

  pub writer_left : (e : WritesEnd) (u : ℕ) (o : Option (Version V)) → writer_of (settled_version e s o) ≡ Some u → (is_writer s (writer_of o) ≡ false) × (writer_of o ≡ Some u)
  writer_left e u None h = absurd (cc)
  writer_left e u (Some v) h = writer_by e u v (is_writer s v.writer) (is_none (outcome e v)) h

  -- a key that nobody has written still has a committed value
  kept_by_end : (e : WritesEnd) (v : Version V) → IsKept (Some v) → (b n : Bool) → is_none (outcome e v) ≡ n → IsKept (cond (b && n) None (Some (cond b (ended e v) v)))
  kept_by_end e v k true true m = tt
  kept_by_end e v k true false m = λ h. is_not_none (outcome e v) m
  kept_by_end e v k false n m = k

  pub kept_left : (e : WritesEnd) (o : Option (Version V)) → IsKept o → IsKept (settled_version e s o)
  kept_left e None k = tt
  kept_left e (Some v) k = kept_by_end e v k (is_writer s v.writer) (is_none (outcome e v)) refl

pub writer_is : (s : ℕ) (w : Option ℕ) → is_writer s w ≡ true → w ≡ Some s
writer_is s None h = absurd (cc)
writer_is s (Some x) h = ap Some (sym (eqb-true s x h))
