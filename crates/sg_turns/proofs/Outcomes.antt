-- Each transaction ends once, as the script lets it, and the journal has those that committed.
use Rattle.std.proofs.Common.{◌≡◌, ℕ, zero, suc, pred, ◌+◌, ◌-◌, ◌<◌, ◌≤◌, Bool, true, false, cond, ◌&&◌, ◌||◌, List, [], ◌∷◌, ◌++◌, length, eqb, Option, Some, refl, sym, ap, ◌∙◌, subst, inl, inr, arith}
use Rattle.std.specs.Prelude.{slice_get, is_some}
use Rattle.std.proofs.lemmas.Bool.{eqb-true, eq-eqb}
use Rattle.sg_plain.specs.declared.statements.Statement.{Statement}
use Rattle.sg_plain.specs.Transactions.{TransactionPlan}
use Rattle.sg_plain.specs.Serial.{Entry}
use Rattle.sg_trace.specs.declared.labels.Cause.TheVariants.{Asked, NoMemory}
use Rattle.sg_trace.specs.Traces.{Local, State, Stage, Event, Begin, Ask, Take, Put, Wait, Victim, Answered, Commit, Rollback, session_of, state, after, answered}
use Rattle.sg_trace.specs.Legal.{IsLegal, commits, entry_of, journal}
use Rattle.sg_trace.specs.Scripts.{Script, Follows, transactions_of, end_in}
use Rattle.sg_trace.specs.Measure.{one}
use Rattle.sg_turns.specs.Outcomes.{is_end, outcomes, IsOutcomeFor, BegunOnesEndOnce, OutcomesFit, AllHaveOutcomes, EntriesCommitted, CommitsAreEntries}
use Rattle.sg_serial.proofs.Ordered.{planned}
use Rattle.sg_serial.proofs.Places.{get_behind}
use Rattle.sg_serial.proofs.Told.{get_front, get_below, get_cases, length_last}
use Rattle.sg_turns.proofs.Victims.{victim_live}

-- ---- one outcome each
-- what an event of the session itself adds
abbrev own_outcomes : Event → List Event → List Event
own_outcomes e os = cond (is_end e && true) (os ++ e ∷ []) os

one_more : (os : List Event) (e : Event) (n : ℕ) → length os + 1 ≡ n → length (os ++ e ∷ []) + 0 ≡ n
one_more os e n q = let l = length_last os e in omega arith

live_then : (os : List Event) (x : Local) → x.live ≡ true → length os + one x.live ≡ x.begun → length os + 1 ≡ x.begun
live_then os x l h = rw l at h

step_count : (w : Stage) (e : Event) (es : List Event) → IsLegal w (e ∷ es) → (os : List Event) → length os + one ((state w es).of (session_of e)).live ≡ ((state w es).of (session_of e)).begun
    → length (own_outcomes e os) + one (after e ((state w es).of (session_of e))).live ≡ (after e ((state w es).of (session_of e))).begun
step_count w (Begin u n) es l os h = let q : length os + 0 ≡ ((state w es).of u).begun = rw l.1.1 at h in omega arith
step_count w (Ask u n st) es l os h = h
step_count w (Take u k m) es l os h = h
step_count w (Put u k m) es l os h = h
step_count w (Wait u k m b) es l os h = h
step_count w (Answered u a) es l os h =
    let x = (state w es).of u in
    subst (λ (o : Option Statement). length os + one (answered x o a).live ≡ (answered x o a).begun) (sym l.1.1.open_one) h
step_count w (Victim u c) es l os h = let x = (state w es).of u in one_more os (Victim u c) x.begun (live_then os x (victim_live w es l.0 u c l.1) h)
step_count w (Commit u p) es l os h = let x = (state w es).of u in one_more os (Commit u p) x.begun (live_then os x l.1.0.live h)
step_count w (Rollback u Asked) es l os h = let x = (state w es).of u in one_more os (Rollback u Asked) x.begun (live_then os x l.1.live h)
step_count w (Rollback u NoMemory) es l os h = let x = (state w es).of u in one_more os (Rollback u NoMemory) x.begun (live_then os x l.1 h)

not_own : (b : Bool) (e : Event) (os : List Event) → cond (b && false) (os ++ e ∷ []) os ≡ os
not_own true e os = refl
not_own false e os = refl

pub end_once : BegunOnesEndOnce
end_once w [] l s = refl
end_once w (e ∷ es) l s = go (eqb (session_of e) s) refl (end_once w es l.0 s) (end_once w es l.0 (session_of e))
  where
    z : State
    z = state w es

    go : (b : Bool) → eqb (session_of e) s ≡ b → length (outcomes es s) + one (z.of s).live ≡ (z.of s).begun → length (outcomes es (session_of e)) + one (z.of (session_of e)).live ≡ (z.of (session_of e)).begun
        → length (cond (is_end e && b) (outcomes es s ++ e ∷ []) (outcomes es s)) + one (cond b (after e (z.of (session_of e))) (z.of s)).live ≡ (cond b (after e (z.of (session_of e))) (z.of s)).begun
    go true q h own =
        subst (λ v. length (own_outcomes e (outcomes es v)) + one (after e (z.of (session_of e))).live ≡ (after e (z.of (session_of e))).begun) (eqb-true (session_of e) s q) (step_count w e es l (outcomes es (session_of e)) own)
    go false q h own = let k = ap length (not_own (is_end e) e (outcomes es s)) in omega arith

-- ---- as the script lets it
-- the transaction that ends is the one that began last
ending : (w : Stage) (es : List Event) → IsLegal w es → (u : ℕ) → ((state w es).of u).live ≡ true → pred ((state w es).of u).begun ≡ length (outcomes es u)
ending w es l u live = let h = live_then (outcomes es u) ((state w es).of u) live (end_once w es l u) in go ((state w es).of u).begun h
  where
    go : (n : ℕ) → length (outcomes es u) + 1 ≡ n → pred n ≡ length (outcomes es u)
    go zero h = omega arith
    go (suc n) h = omega arith

module _ (ps : Script) (w : Stage) where
  fits_end : (e : Event) (es : List Event) → IsLegal w (e ∷ es) → Follows ps w (e ∷ es) → is_end e ≡ true → (t : TransactionPlan) × (slice_get (transactions_of ps (session_of e)) (length (outcomes es (session_of e))) ≡ Some t) × IsOutcomeFor t e
  fits_end (Commit u p) es l f q = let o = planned ps w es l.0 f.0 u l.1.0.live in (o.transaction, ap (slice_get (transactions_of ps u)) (sym (ending w es l.0 u l.1.0.live)) ∙ o.is, sym (ap end_in o.is) ∙ f.1.1)
  fits_end (Rollback u Asked) es l f q = let o = planned ps w es l.0 f.0 u l.1.live in (o.transaction, ap (slice_get (transactions_of ps u)) (sym (ending w es l.0 u l.1.live)) ∙ o.is, sym (ap end_in o.is) ∙ f.1.1)
  fits_end (Rollback u NoMemory) es l f q = let o = planned ps w es l.0 f.0 u l.1 in (o.transaction, ap (slice_get (transactions_of ps u)) (sym (ending w es l.0 u l.1)) ∙ o.is, tt)
  fits_end (Victim u c) es l f q = let live = victim_live w es l.0 u c l.1 in let o = planned ps w es l.0 f.0 u live in (o.transaction, ap (slice_get (transactions_of ps u)) (sym (ending w es l.0 u live)) ∙ o.is, tt)
  fits_end (Begin u n) es l f q = absurd (cc)
  fits_end (Ask u n st) es l f q = absurd (cc)
  fits_end (Take u k m) es l f q = absurd (cc)
  fits_end (Put u k m) es l f q = absurd (cc)
  fits_end (Wait u k m b) es l f q = absurd (cc)
  fits_end (Answered u a) es l f q = absurd (cc)

pub outcomes_fit : OutcomesFit
outcomes_fit ps w [] l f s i d h = absurd (cc)
outcomes_fit ps w (e ∷ es) l f s i d h = go (is_end e) refl (eqb (session_of e) s) refl h (outcomes_fit ps w es l.0 f.0 s i d)
  where
    go : (b : Bool) → is_end e ≡ b → (c : Bool) → eqb (session_of e) s ≡ c → slice_get (cond (b && c) (outcomes es s ++ e ∷ []) (outcomes es s)) i ≡ Some d → (slice_get (outcomes es s) i ≡ Some d → (t : TransactionPlan) × (slice_get (transactions_of ps s) i ≡ Some t) × IsOutcomeFor t d)
        → (t : TransactionPlan) × (slice_get (transactions_of ps s) i ≡ Some t) × IsOutcomeFor t d
    go true p true q h ih = elim (get_cases (outcomes es s) e i d h) [
      | inl g ↦ ih g
      | inr g ↦
          let same = eqb-true (session_of e) s q in
          let r = fits_end ps w e es l f p in
          (r.0, ap (slice_get (transactions_of ps s)) g.0 ∙ subst (λ v. slice_get (transactions_of ps v) (length (outcomes es v)) ≡ Some r.0) same r.1, subst (IsOutcomeFor r.0) g.1 r.2)
    ]
    go true p false q h ih = ih h
    go false p c q h ih = ih h

none_at : {A : Type 0} (xs : List A) (n : ℕ) → is_some (slice_get xs n) ≡ false → length xs ≤ n
none_at [] n e = omega arith
none_at (x ∷ xs) zero e = absurd (cc)
none_at (x ∷ xs) (suc n) e = let r = none_at xs n e in omega arith

neither : (a b : Bool) → (a || b) ≡ false → (a ≡ false) × (b ≡ false)
neither true b e = absurd (cc)
neither false b e = (refl, e)

outcomes_within : (ps : Script) (w : Stage) (es : List Event) → IsLegal w es → Follows ps w es → (s : ℕ) → length (outcomes es s) ≤ length (transactions_of ps s)
outcomes_within ps w es l f s = go (outcomes es s) (λ i e h. let t = outcomes_fit ps w es l f s i e h in get_below (transactions_of ps s) i t.0 t.1)
  where
    last_at : (os : List Event) (e : Event) → (d : Event) × (slice_get (e ∷ os) (length os) ≡ Some d)
    last_at [] e = (e, refl)
    last_at (o ∷ os) e = last_at os o

    go : (os : List Event) → ((i : ℕ) (e : Event) → slice_get os i ≡ Some e → i < length (transactions_of ps s)) → length os ≤ length (transactions_of ps s)
    go [] h = omega arith
    go (o ∷ os) h = let d = last_at os o in let b = h (length os) d.0 d.1 in omega arith

pub all_have : AllHaveOutcomes
all_have ps w es l f s h =
    let n = neither ((state w es).of s).live (is_some (slice_get (transactions_of ps s) ((state w es).of s).begun)) h in
    let a = none_at (transactions_of ps s) ((state w es).of s).begun n.1 in
    let b = outcomes_within ps w es l f s in
    let c : length (outcomes es s) + 0 ≡ ((state w es).of s).begun = (let e = end_once w es l s in let q = n.0 in rw q at e) in
    omega arith

-- ---- the journal
journal_length : (w : Stage) (es : List Event) → length (journal w es) ≡ commits es
journal_length w [] = refl
journal_length w (Commit u p ∷ es) = length_last (journal w es) (entry_of u ((state w es).of u)) ∙ ap suc (journal_length w es)
journal_length w (Begin u n ∷ es) = journal_length w es
journal_length w (Ask u n st ∷ es) = journal_length w es
journal_length w (Take u k m ∷ es) = journal_length w es
journal_length w (Put u k m ∷ es) = journal_length w es
journal_length w (Wait u k m b ∷ es) = journal_length w es
journal_length w (Victim u c ∷ es) = journal_length w es
journal_length w (Answered u a ∷ es) = journal_length w es
journal_length w (Rollback u c ∷ es) = journal_length w es

-- outcomes that are there stay at their places
keep : (e : Event) (es : List Event) (s i : ℕ) (d : Event) → slice_get (outcomes es s) i ≡ Some d → slice_get (outcomes (e ∷ es) s) i ≡ Some d
keep e es s i d h = go (is_end e && eqb (session_of e) s)
  where
    go : (b : Bool) → slice_get (cond b (outcomes es s ++ e ∷ []) (outcomes es s)) i ≡ Some d
    go true = get_front (outcomes es s) (e ∷ []) i d h
    go false = h

less_one : (n m : ℕ) → pred n ≡ m → 0 < n → n - 1 ≡ m
less_one zero m e h = absurd (omega arith)
less_one (suc n) m e h = omega arith

-- the commit that an event adds
newest : (w : Stage) (es : List Event) (u p : ℕ) → IsLegal w (Commit u p ∷ es) → slice_get (outcomes (Commit u p ∷ es) u) (((state w es).of u).begun - 1) ≡ Some (Commit u p)
newest w es u p l =
    let b = ending w es l.0 u l.1.0.live in
    let q = live_then (outcomes es u) ((state w es).of u) l.1.0.live (end_once w es l.0 u) in
    let i : ((state w es).of u).begun - 1 ≡ length (outcomes es u) = less_one ((state w es).of u).begun (length (outcomes es u)) b (omega arith) in
    ap (slice_get (outcomes (Commit u p ∷ es) u)) i ∙ (go (eqb u u) (eq-eqb u u refl))
  where
    go : (b : Bool) → b ≡ true → slice_get (cond (true && b) (outcomes es u ++ Commit u p ∷ []) (outcomes es u)) (length (outcomes es u)) ≡ Some (Commit u p)
    go true e = get_behind (outcomes es u) (Commit u p ∷ [])
    go false e = absurd (cc)

pub entries_committed : EntriesCommitted
entries_committed w [] l i x h = absurd (cc)
entries_committed w (Commit u p ∷ es) l i x h = elim (get_cases (journal w es) (entry_of u ((state w es).of u)) i x h) [
  | inl g ↦ keep (Commit u p) es x.session (x.transaction - 1) (Commit x.session (suc i)) (entries_committed w es l.0 i x g)
  | inr g ↦
      let place : p ≡ suc i = l.1.1 ∙ ap suc (sym (journal_length w es) ∙ sym g.0) in
      subst (λ (y : Entry). slice_get (outcomes (Commit u p ∷ es) y.session) (y.transaction - 1) ≡ Some (Commit y.session (suc i))) g.1 (newest w es u p l ∙ ap (λ n. Some (Commit u n)) place)
]
entries_committed w (Begin u n ∷ es) l i x h = entries_committed w es l.0 i x h
entries_committed w (Ask u n st ∷ es) l i x h = entries_committed w es l.0 i x h
entries_committed w (Take u k m ∷ es) l i x h = entries_committed w es l.0 i x h
entries_committed w (Put u k m ∷ es) l i x h = entries_committed w es l.0 i x h
entries_committed w (Wait u k m b ∷ es) l i x h = entries_committed w es l.0 i x h
entries_committed w (Answered u a ∷ es) l i x h = entries_committed w es l.0 i x h
entries_committed w (Victim u c ∷ es) l i x h = keep (Victim u c) es x.session (x.transaction - 1) (Commit x.session (suc i)) (entries_committed w es l.0 i x h)
entries_committed w (Rollback u c ∷ es) l i x h = keep (Rollback u c) es x.session (x.transaction - 1) (Commit x.session (suc i)) (entries_committed w es l.0 i x h)

-- and back
abbrev Entered : Stage → List Event → ℕ → ℕ → ℕ → Type 0
Entered w es s t p = (x : Entry) × (slice_get (journal w es) (p - 1) ≡ Some x) × (x.session ≡ s) × (x.transaction ≡ suc t)

abbrev place_of : Event → ℕ
place_of (Commit s p) = p
place_of (Begin s t) = zero
place_of (Ask s n st) = zero
place_of (Take s k m) = zero
place_of (Put s k m) = zero
place_of (Wait s k m b) = zero
place_of (Victim s c) = zero
place_of (Answered s a) = zero
place_of (Rollback s c) = zero

one_less : (n m : ℕ) → n ≡ suc m → n - 1 ≡ m
one_less n m e = omega arith

number : (n m : ℕ) → m + 1 ≡ n → n ≡ suc m
number n m e = omega arith

-- of an end that is no commit
no_commit : (e : Event) (es : List Event) (s t u p : ℕ) (P : Type 0) → ((v n : ℕ) → e ≡ Commit v n → ⊥) → slice_get (outcomes (e ∷ es) s) t ≡ Some (Commit u p) → (slice_get (outcomes es s) t ≡ Some (Commit u p) → P) → P
no_commit e es s t u p P other h ih = go (is_end e && eqb (session_of e) s) h
  where
    go : (b : Bool) → slice_get (cond b (outcomes es s ++ e ∷ []) (outcomes es s)) t ≡ Some (Commit u p) → P
    go true h = elim (get_cases (outcomes es s) e t (Commit u p) h) [ inl g ↦ ih g | inr g ↦ absurd (other u p g.1) ]
    go false h = ih h

pub commits_are : CommitsAreEntries
commits_are w [] l s t u p h = absurd (cc)
commits_are w (Victim v c ∷ es) l s t u p h = no_commit (Victim v c) es s t u p (Entered w es s t p) (λ a b e. cc) h (commits_are w es l.0 s t u p)
commits_are w (Rollback v c ∷ es) l s t u p h = no_commit (Rollback v c) es s t u p (Entered w es s t p) (λ a b e. cc) h (commits_are w es l.0 s t u p)
commits_are w (Begin v n ∷ es) l s t u p h = commits_are w es l.0 s t u p h
commits_are w (Ask v n st ∷ es) l s t u p h = commits_are w es l.0 s t u p h
commits_are w (Take v k m ∷ es) l s t u p h = commits_are w es l.0 s t u p h
commits_are w (Put v k m ∷ es) l s t u p h = commits_are w es l.0 s t u p h
commits_are w (Wait v k m b ∷ es) l s t u p h = commits_are w es l.0 s t u p h
commits_are w (Answered v a ∷ es) l s t u p h = commits_are w es l.0 s t u p h
commits_are w (Commit v n ∷ es) l s t u p h = go (eqb v s) refl h (commits_are w es l.0 s t u p)
  where
    x : Local
    x = (state w es).of v

    more : Entered w es s t p → Entered w (Commit v n ∷ es) s t p
    more i = (i.0, get_front (journal w es) (entry_of v ((state w es).of v) ∷ []) (p - 1) i.0 i.1, i.2, i.3)

    go : (b : Bool) → eqb v s ≡ b → slice_get (cond (true && b) (outcomes es s ++ Commit v n ∷ []) (outcomes es s)) t ≡ Some (Commit u p) → (slice_get (outcomes es s) t ≡ Some (Commit u p) → Entered w es s t p) → Entered w (Commit v n ∷ es) s t p
    go false q h ih = more (ih h)
    go true q h ih = elim (get_cases (outcomes es s) (Commit v n) t (Commit u p) h) [
      | inl g ↦ more (ih g)
      | inr g ↦
          let same = eqb-true v s q in
          let places : n ≡ p = ap place_of g.1 in
          let at : p - 1 ≡ length (journal w es) = one_less p (commits es) (sym places ∙ l.1.1) ∙ sym (journal_length w es) in
          let begun = live_then (outcomes es v) x l.1.0.live (end_once w es l.0 v) in
          let as_many : length (outcomes es v) ≡ length (outcomes es s) = ap (λ o. length (outcomes es o)) same in
          let t_is = g.0 in
          (entry_of v ((state w es).of v), ap (slice_get (journal w (Commit v n ∷ es))) at ∙ get_behind (journal w es) (entry_of v ((state w es).of v) ∷ []), same, number x.begun (length (outcomes es v)) begun ∙ ap suc (as_many ∙ sym t_is))
    ]
