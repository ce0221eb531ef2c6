-- The script that a legal trace tells: each of its events is due in it.
use Rattle.std.proofs.Common.{◌≡◌, ℕ, zero, suc, pred, ◌<◌, Bool, true, false, cond, ◌⊎◌, List, [], ◌∷◌, ◌++◌, length, map, eqb, Option, Some, None, refl, sym, ap, ◌∙◌, subst, inl, inr, arith, append_assoc, append-nil}
use Rattle.std.specs.Prelude.{slice_get}
use Rattle.std.proofs.lemmas.Bool.{eqb-true, eqb-false, eq-eqb}
use Rattle.sg_cells.specs.Laws.{Has}
use Rattle.sg_modes.specs.Sessions.{IsSession}
use Rattle.sg_plain.specs.declared.statements.Statement.{Statement}
use Rattle.sg_plain.specs.declared.transactions.End.TheVariants as finish
use Rattle.sg_plain.specs.Transactions.{TransactionPlan}
use Rattle.sg_trace.specs.declared.labels.Cause.TheVariants.{Asked, NoMemory}
use Rattle.sg_trace.specs.Traces.{Local, State, Stage, Event, Begin, Ask, Take, Put, Wait, Victim, Answered, Commit, Rollback, DoneList, session_of, state, after, answered, idle, all_sessions}
use Rattle.sg_trace.specs.Legal.{IsLegal, Fits, statements_of}
use Rattle.sg_trace.specs.Scripts.{Script, IsDue, Follows, transactions_of, statements_in, end_in, current}
use Rattle.sg_serial.specs.Told.{on_last, with_statement, rolled_back, with_event, begun_by, script_of}
use Rattle.sg_laws.proofs.Numbers.{session_listed}
use Rattle.sg_serial.proofs.Places.{get_behind}

-- ---- lists with a last item
last_changed : (f : TransactionPlan → TransactionPlan) (ts : List TransactionPlan) (t : TransactionPlan) → on_last f (ts ++ t ∷ []) ≡ ts ++ f t ∷ []
last_changed f [] t = refl
last_changed f (u ∷ []) t = refl
last_changed f (u ∷ v ∷ vs) t = ap (λ xs. u ∷ xs) (last_changed f (v ∷ vs) t)

pub get_front : {A : Type 0} (xs ys : List A) (i : ℕ) (x : A) → slice_get xs i ≡ Some x → slice_get (xs ++ ys) i ≡ Some x
get_front [] ys i x e = absurd (cc)
get_front (y ∷ xs) ys zero x e = e
get_front (y ∷ xs) ys (suc i) x e = get_front xs ys i x e

pub get_below : {A : Type 0} (xs : List A) (i : ℕ) (x : A) → slice_get xs i ≡ Some x → i < length xs
get_below [] i x e = absurd (cc)
get_below (y ∷ xs) zero x e = omega arith
get_below (y ∷ xs) (suc i) x e = let r = get_below xs i x e in omega arith

pub get_cases : {A : Type 0} (xs : List A) (y : A) (i : ℕ) (x : A) → slice_get (xs ++ y ∷ []) i ≡ Some x → (slice_get xs i ≡ Some x) ⊎ ((i ≡ length xs) × (y ≡ x))
get_cases [] y zero x e = inr (refl, cc)
get_cases [] y (suc i) x e = absurd (cc)
get_cases (z ∷ xs) y zero x e = inl e
get_cases (z ∷ xs) y (suc i) x e = elim (get_cases xs y i x e) [ inl q ↦ inl q | inr q ↦ inr (ap suc q.0, q.1) ]

pub length_last : {A : Type 0} (xs : List A) (y : A) → length (xs ++ y ∷ []) ≡ suc (length xs)
length_last [] y = refl
length_last (x ∷ xs) y = ap suc (length_last xs y)

length_done : (ds : DoneList) → length (statements_of ds) ≡ length ds
length_done [] = refl
length_done (d ∷ ds) = length_last (statements_of ds) d.0 ∙ ap suc (length_done ds)

-- ---- what the trace has told of a session
abbrev opened : Option Statement → List Statement
opened None = []
opened (Some st) = st ∷ []

record Last (ts : List TransactionPlan) (x : Local) : Type 0 where
  front : List TransactionPlan
  plan : TransactionPlan
  whole : ts ≡ front ++ plan ∷ []
  statements : plan.statements ≡ statements_of x.done ++ opened x.open_one
  end : plan.end ≡ finish.Commit

record Told (ts : List TransactionPlan) (x : Local) : Type 0 where
  count : length ts ≡ x.begun
  last : x.live ≡ true → Last ts x

told_idle : (ts : List TransactionPlan) (n : ℕ) → length ts ≡ n → Told ts (idle n)
told_idle ts n e = record { count = e; last = λ l. absurd (cc) }

told_same : (ts : List TransactionPlan) (x y : Local) → y.begun ≡ x.begun → y.live ≡ x.live → y.open_one ≡ x.open_one → y.done ≡ x.done → Told ts x → Told ts y
told_same ts x y eb el eo ed h = record {
  count = h.count ∙ sym eb;
  last = λ l. let p = h.last (sym el ∙ l) in record { front = p.front; plan = p.plan; whole = p.whole; statements = p.statements ∙ (λ i. statements_of (ed' i) ++ opened (eo' i)); end = p.end };
}
  where
    ed' : x.done ≡ y.done
    ed' = sym ed

    eo' : x.open_one ≡ y.open_one
    eo' = sym eo

step_told : (w : Stage) (e : Event) (es : List Event) → IsLegal w (e ∷ es) → (ts : List TransactionPlan) → Told ts ((state w es).of (session_of e)) → Told (with_event e ts) (after e ((state w es).of (session_of e)))
step_told w (Begin u n) es l ts h = record {
  count = length_last ts (record { statements = []; end = finish.Commit }) ∙ ap suc h.count;
  last = λ _. record { front = ts; plan = record { statements = []; end = finish.Commit }; whole = refl; statements = refl; end = refl };
}
step_told w (Ask u n st) es l ts h =
    let x = (state w es).of u in
    let p = h.last l.1.0.live in
    let f : TransactionPlan → TransactionPlan = with_statement st in
    let q : on_last f ts ≡ p.front ++ f p.plan ∷ [] = ap (on_last f) p.whole ∙ last_changed f p.front p.plan in
    record {
      count = ap length q ∙ (length_last p.front (f p.plan) ∙ (sym (length_last p.front p.plan) ∙ (sym (ap length p.whole) ∙ h.count)));
      last = λ _. record {
        front = p.front;
        plan = f p.plan;
        whole = q;
        statements = ap (λ ss. ss ++ st ∷ []) (p.statements ∙ (ap (λ o. statements_of x.done ++ opened o) l.1.0.none_open ∙ append-nil (statements_of x.done)));
        end = p.end;
      };
    }
step_told w (Take u k m) es l ts h = told_same ts ((state w es).of u) (after (Take u k m) ((state w es).of u)) refl refl refl refl h
step_told w (Put u k m) es l ts h = told_same ts ((state w es).of u) (after (Put u k m) ((state w es).of u)) refl refl refl refl h
step_told w (Wait u k m b) es l ts h = h
step_told w (Victim u c) es l ts h = told_idle ts ((state w es).of u).begun h.count
step_told w (Commit u n) es l ts h = told_idle ts ((state w es).of u).begun h.count
step_told w (Rollback u NoMemory) es l ts h = told_idle ts ((state w es).of u).begun h.count
step_told w (Answered u a) es l ts h =
    let x = (state w es).of u in
    let st = l.1.0 in
    subst (λ (o : Option Statement). Told ts (answered x o a)) (sym l.1.1.open_one) (record {
      count = h.count;
      last = λ live. let p = h.last live in record {
        front = p.front;
        plan = p.plan;
        whole = p.whole;
        statements = p.statements ∙ (ap (λ o. statements_of x.done ++ opened o) l.1.1.open_one ∙ sym (append-nil (statements_of x.done ++ st ∷ [])));
        end = p.end;
      };
    })
step_told w (Rollback u Asked) es l ts h =
    let p = h.last l.1.live in
    let f : TransactionPlan → TransactionPlan = rolled_back in
    let q : on_last f ts ≡ p.front ++ f p.plan ∷ [] = ap (on_last f) p.whole ∙ last_changed f p.front p.plan in
    told_idle (on_last f ts) ((state w es).of u).begun (ap length q ∙ (length_last p.front (f p.plan) ∙ (sym (length_last p.front p.plan) ∙ (sym (ap length p.whole) ∙ h.count))))

told : (w : Stage) (es : List Event) → IsLegal w es → (s : ℕ) → Told (begun_by es s) ((state w es).of s)
told w [] l s = told_idle [] 0 refl
told w (e ∷ es) l s = go (eqb (session_of e) s) refl (told w es l.0 s) (told w es l.0 (session_of e))
  where
    go : (b : Bool) → eqb (session_of e) s ≡ b → Told (begun_by es s) ((state w es).of s) → Told (begun_by es (session_of e)) ((state w es).of (session_of e))
        → Told (cond b (with_event e (begun_by es s)) (begun_by es s)) (cond b (after e ((state w es).of (session_of e))) ((state w es).of s))
    go true q h own = subst (λ v. Told (with_event e (begun_by es v)) (after e ((state w es).of (session_of e)))) (eqb-true (session_of e) s q) (step_told w e es l (begun_by es (session_of e)) own)
    go false q h own = h

-- a session that is live has a number
pub live_session : (w : Stage) (es : List Event) → IsLegal w es → (s : ℕ) → ((state w es).of s).live ≡ true → IsSession s
live_session w [] l s h = absurd (cc)
live_session w (e ∷ es) l s h = go e l.1 (eqb (session_of e) s) refl h (live_session w es l.0 s)
  where
    z : State
    z = state w es

    own : (e : Event) → Fits w es e → (after e (z.of (session_of e))).live ≡ true → IsSession (session_of e) ⊎ ((z.of (session_of e)).live ≡ true)
    own (Begin u n) f h = inl f.0
    own (Ask u n st) f h = inr f.0.live
    own (Take u k m) f h = inr f.1.live
    own (Put u k m) f h = inr f.1.live
    own (Wait u k m b) f h = inr f.1.live
    own (Victim u c) f h = absurd (cc)
    own (Answered u a) f h = inr f.1.live
    own (Commit u n) f h = absurd (cc)
    own (Rollback u c) f h = absurd (cc)

    go : (e : Event) → Fits w es e → (b : Bool) → eqb (session_of e) s ≡ b → (cond b (after e (z.of (session_of e))) (z.of s)).live ≡ true → ((z.of s).live ≡ true → IsSession s) → IsSession s
    go e f true q h ih = let same = eqb-true (session_of e) s q in elim (own e f h) [ inl i ↦ subst IsSession same i | inr i ↦ ih (ap (λ v. (z.of v).live) (sym same) ∙ i) ]
    go e f false q h ih = ih h

-- ---- a script that has come further
-- the plan is the one told; or it is that of the live transaction, and may have more statements and another end
abbrev Later : Local → ℕ → TransactionPlan → TransactionPlan → Type 0
Later x i t t' = (t' ≡ t) ⊎ ((x.live ≡ true) × (suc i ≡ x.begun) × ((rest : List Statement) × (t'.statements ≡ t.statements ++ rest)))

abbrev Completes : List TransactionPlan → List TransactionPlan → Local → Type 0
Completes us ts x = (i : ℕ) (t : TransactionPlan) → slice_get ts i ≡ Some t → (t' : TransactionPlan) × (slice_get us i ≡ Some t') × Later x i t t'

-- of a session that isn't live each is the one told
ended_same : (x : Local) (i : ℕ) (t t' : TransactionPlan) → x.live ≡ false → Later x i t t' → t' ≡ t
ended_same x i t t' e (inl q) = q
ended_same x i t t' e (inr h) = absurd (let q = h.0 in cc)

back_on : (us ts : List TransactionPlan) (x y : Local) → y.begun ≡ x.begun → y.live ≡ x.live → Completes us ts y → Completes us ts x
back_on us ts x y eb el h i t e = let c = h i t e in (c.0, c.1, elim c.2 [ inl q ↦ inl q | inr r ↦ inr (sym el ∙ r.0, r.1 ∙ eb, r.2) ])

back : (w : Stage) (e : Event) (es : List Event) → IsLegal w (e ∷ es) → (us ts : List TransactionPlan) → Told ts ((state w es).of (session_of e)) → Completes us (with_event e ts) (after e ((state w es).of (session_of e))) → Completes us ts ((state w es).of (session_of e))
back w (Begin u n) es l us ts h c = λ i t e.
    let x = (state w es).of u in
    let d = c i t (get_front ts (record { statements = []; end = finish.Commit } ∷ []) i t e) in
    let b = get_below ts i t e in
    let k = h.count in
    (d.0, d.1, elim d.2 [ inl q ↦ inl q | inr r ↦ absurd (let q = r.1 in below i x.begun (omega arith) (omega arith)) ])
  where
    below : (i b : ℕ) → i < b → i ≡ b → ⊥
    below i b l q = omega arith
back w (Ask u n st) es l us ts h c = λ i t e.
    let x = (state w es).of u in
    let p = h.last l.1.0.live in
    let f : TransactionPlan → TransactionPlan = with_statement st in
    let q : on_last f ts ≡ p.front ++ f p.plan ∷ [] = ap (on_last f) p.whole ∙ last_changed f p.front p.plan in
    let len : suc (length p.front) ≡ x.begun = sym (length_last p.front p.plan) ∙ (sym (ap length p.whole) ∙ h.count) in
    elim (get_cases p.front p.plan i t (ap (λ xs. slice_get xs i) (sym p.whole) ∙ e)) [
      | inl g ↦ c i t (ap (λ xs. slice_get xs i) q ∙ get_front p.front (f p.plan ∷ []) i t g)
      | inr g ↦
          let d = c i (f p.plan) (ap (λ xs. slice_get xs i) q ∙ (ap (slice_get (p.front ++ f p.plan ∷ [])) g.0 ∙ get_behind p.front (f p.plan ∷ []))) in
          let at : suc i ≡ x.begun = ap suc g.0 ∙ len in (
            d.0,
            d.1,
            elim d.2 [
              | inl s ↦ inr (l.1.0.live, at, (st ∷ [], ap (λ (v : TransactionPlan). v.statements) s ∙ ap (λ (v : TransactionPlan). v.statements ++ st ∷ []) g.1))
              | inr s ↦ inr (l.1.0.live, at, (st ∷ s.2.0, s.2.1 ∙ (append_assoc p.plan.statements (st ∷ []) s.2.0 ∙ ap (λ (v : TransactionPlan). v.statements ++ st ∷ s.2.0) g.1)))
            ],
          )
    ]
back w (Take u k m) es l us ts h c = back_on us ts ((state w es).of u) (after (Take u k m) ((state w es).of u)) refl refl c
back w (Put u k m) es l us ts h c = back_on us ts ((state w es).of u) (after (Put u k m) ((state w es).of u)) refl refl c
back w (Wait u k m b) es l us ts h c = c
back w (Victim u d) es l us ts h c = λ i t e. let r = c i t e in (r.0, r.1, inl (ended_same (idle ((state w es).of u).begun) i t r.0 refl r.2))
back w (Commit u n) es l us ts h c = λ i t e. let r = c i t e in (r.0, r.1, inl (ended_same (idle ((state w es).of u).begun) i t r.0 refl r.2))
back w (Rollback u NoMemory) es l us ts h c = λ i t e. let r = c i t e in (r.0, r.1, inl (ended_same (idle ((state w es).of u).begun) i t r.0 refl r.2))
back w (Answered u a) es l us ts h c =
    let x = (state w es).of u in
    back_on us ts x (answered x x.open_one a) (ap (λ o. (answered x o a).begun) l.1.1.open_one) (ap (λ o. (answered x o a).live) l.1.1.open_one) c
back w (Rollback u Asked) es l us ts h c = λ i t e.
    let x = (state w es).of u in
    let p = h.last l.1.live in
    let f : TransactionPlan → TransactionPlan = rolled_back in
    let q : on_last f ts ≡ p.front ++ f p.plan ∷ [] = ap (on_last f) p.whole ∙ last_changed f p.front p.plan in
    let len : suc (length p.front) ≡ x.begun = sym (length_last p.front p.plan) ∙ (sym (ap length p.whole) ∙ h.count) in
    elim (get_cases p.front p.plan i t (ap (λ xs. slice_get xs i) (sym p.whole) ∙ e)) [
      | inl g ↦ let r = c i t (ap (λ xs. slice_get xs i) q ∙ get_front p.front (f p.plan ∷ []) i t g) in (r.0, r.1, inl (ended_same (idle x.begun) i t r.0 refl r.2))
      | inr g ↦
          let d = c i (f p.plan) (ap (λ xs. slice_get xs i) q ∙ (ap (slice_get (p.front ++ f p.plan ∷ [])) g.0 ∙ get_behind p.front (f p.plan ∷ []))) in
          let s = ended_same (idle x.begun) i (f p.plan) d.0 refl d.2 in
          (d.0, d.1, inr (l.1.live, ap suc g.0 ∙ len, ([], ap (λ (v : TransactionPlan). v.statements) s ∙ (ap (λ (v : TransactionPlan). v.statements) g.1 ∙ sym (append-nil t.statements)))))
    ]

-- ---- what is due
statements_later : (x : Local) (i : ℕ) (t t' : TransactionPlan) → Later x i t t' → (rest : List Statement) × (t'.statements ≡ t.statements ++ rest)
statements_later x i t t' (inl q) = ([], ap (λ (v : TransactionPlan). v.statements) q ∙ sym (append-nil t.statements))
statements_later x i t t' (inr r) = r.2

get_done : (ds : DoneList) (rest : List Statement) → slice_get (statements_of ds ++ rest) (length ds) ≡ slice_get rest 0
get_done ds rest = ap (slice_get (statements_of ds ++ rest)) (sym (length_done ds)) ∙ get_behind (statements_of ds) rest

module _ (q : Script) (w : Stage) (es : List Event) where
  z : State
  z = state w es

  -- of the transaction that the session began last
  due_of : (u : ℕ) (front : List TransactionPlan) (t' : TransactionPlan) → slice_get (transactions_of q u) (length front) ≡ Some t' → suc (length front) ≡ ((state w es).of u).begun → current q ((state w es).of u) u ≡ Some t'
  due_of u front t' e b = ap (λ n. slice_get (transactions_of q u) (pred n)) (sym b) ∙ e

  due : (e : Event) → IsLegal w (e ∷ es) → Told (begun_by es (session_of e)) ((state w es).of (session_of e)) → Completes (transactions_of q (session_of e)) (with_event e (begun_by es (session_of e))) (after e ((state w es).of (session_of e))) → IsDue q (state w es) e
  due (Begin u n) l h c =
      let ts = begun_by es u in
      let d = c (length ts) (record { statements = []; end = finish.Commit }) (get_behind ts (record { statements = []; end = finish.Commit } ∷ [])) in
      (d.0, ap (slice_get (transactions_of q u)) (sym h.count) ∙ d.1)
  due (Ask u n st) l h c =
      let x = (state w es).of u in
      let ts = begun_by es u in
      let p = h.last l.1.0.live in
      let f : TransactionPlan → TransactionPlan = with_statement st in
      let k : on_last f ts ≡ p.front ++ f p.plan ∷ [] = ap (on_last f) p.whole ∙ last_changed f p.front p.plan in
      let len : suc (length p.front) ≡ x.begun = sym (length_last p.front p.plan) ∙ (sym (ap length p.whole) ∙ h.count) in
      let d = c (length p.front) (f p.plan) (ap (λ xs. slice_get xs (length p.front)) k ∙ get_behind p.front (f p.plan ∷ [])) in
      let r = statements_later (after (Ask u n st) x) (length p.front) (f p.plan) d.0 d.2 in
      let told_so : p.plan.statements ≡ statements_of x.done = p.statements ∙ (ap (λ o. statements_of x.done ++ opened o) l.1.0.none_open ∙ append-nil (statements_of x.done)) in
      let all : d.0.statements ≡ statements_of x.done ++ (st ∷ r.0) = r.1 ∙ (ap (λ ss. (ss ++ st ∷ []) ++ r.0) told_so ∙ append_assoc (statements_of x.done) (st ∷ []) r.0) in
      ap (λ o. slice_get (statements_in o) (length x.done)) (due_of u p.front d.0 d.1 len) ∙ (ap (λ ss. slice_get ss (length x.done)) all ∙ get_done x.done (st ∷ r.0))
  due (Commit u n) l h c =
      let x = (state w es).of u in
      let p = h.last l.1.0.live in
      let len : suc (length p.front) ≡ x.begun = sym (length_last p.front p.plan) ∙ (sym (ap length p.whole) ∙ h.count) in
      let d = c (length p.front) p.plan (ap (λ xs. slice_get xs (length p.front)) p.whole ∙ get_behind p.front (p.plan ∷ [])) in
      let s = ended_same (idle x.begun) (length p.front) p.plan d.0 refl d.2 in
      let cur = due_of u p.front d.0 d.1 len in
      let told_so : d.0.statements ≡ statements_of x.done ++ [] = ap (λ (v : TransactionPlan). v.statements) s ∙ (p.statements ∙ ap (λ o. statements_of x.done ++ opened o) l.1.0.none_open) in
      (ap (λ o. slice_get (statements_in o) (length x.done)) cur ∙ (ap (λ ss. slice_get ss (length x.done)) told_so ∙ get_done x.done []), ap end_in cur ∙ (ap (λ (v : TransactionPlan). v.end) s ∙ p.end))
  due (Rollback u Asked) l h c =
      let x = (state w es).of u in
      let ts = begun_by es u in
      let p = h.last l.1.live in
      let f : TransactionPlan → TransactionPlan = rolled_back in
      let k : on_last f ts ≡ p.front ++ f p.plan ∷ [] = ap (on_last f) p.whole ∙ last_changed f p.front p.plan in
      let len : suc (length p.front) ≡ x.begun = sym (length_last p.front p.plan) ∙ (sym (ap length p.whole) ∙ h.count) in
      let d = c (length p.front) (f p.plan) (ap (λ xs. slice_get xs (length p.front)) k ∙ get_behind p.front (f p.plan ∷ [])) in
      let s = ended_same (idle x.begun) (length p.front) (f p.plan) d.0 refl d.2 in
      let cur = due_of u p.front d.0 d.1 len in
      let told_so : d.0.statements ≡ statements_of x.done ++ [] = ap (λ (v : TransactionPlan). v.statements) s ∙ (p.statements ∙ ap (λ o. statements_of x.done ++ opened o) l.1.none_open) in
      (ap (λ o. slice_get (statements_in o) (length x.done)) cur ∙ (ap (λ ss. slice_get ss (length x.done)) told_so ∙ get_done x.done []), ap end_in cur ∙ ap (λ (v : TransactionPlan). v.end) s)
  due (Rollback u NoMemory) l h c = tt
  due (Take u k m) l h c = tt
  due (Put u k m) l h c = tt
  due (Wait u k m b) l h c = tt
  due (Victim u d) l h c = tt
  due (Answered u a) l h c = tt

-- ---- the trace follows each script that completes what it told
-- completed before an event, if it is so after it
earlier : (w : Stage) (e : Event) (es : List Event) → IsLegal w (e ∷ es) → (us : List TransactionPlan) (s : ℕ) → Completes us (begun_by (e ∷ es) s) ((state w (e ∷ es)).of s) → Completes us (begun_by es s) ((state w es).of s)
earlier w e es l us s c = go (eqb (session_of e) s) refl c
  where
    z : State
    z = state w es

    go : (b : Bool) → eqb (session_of e) s ≡ b → Completes us (cond b (with_event e (begun_by es s)) (begun_by es s)) (cond b (after e (z.of (session_of e))) (z.of s)) → Completes us (begun_by es s) (z.of s)
    go true q c =
        let same = eqb-true (session_of e) s q in
        let c' : Completes us (with_event e (begun_by es (session_of e))) (after e (z.of (session_of e))) = subst (λ v. Completes us (with_event e (begun_by es v)) (after e (z.of (session_of e)))) (sym same) c in
        subst (λ v. Completes us (begun_by es v) (z.of v)) same (back w e es l us (begun_by es (session_of e)) (told w es l.0 (session_of e)) c')
    go false q c = c

pub follows_all : (q : Script) (w : Stage) (es : List Event) → IsLegal w es → ((s : ℕ) → IsSession s → Completes (transactions_of q s) (begun_by es s) ((state w es).of s)) → Follows q w es
follows_all q w [] l c = tt
follows_all q w (e ∷ es) l c = (follows_all q w es l.0 (λ s n. earlier w e es l (transactions_of q s) s (c s n)), go e l c)
  where
    own : (e : Event) (l : IsLegal w (e ∷ es)) → IsSession (session_of e) → ((s : ℕ) → IsSession s → Completes (transactions_of q s) (begun_by (e ∷ es) s) ((state w (e ∷ es)).of s)) → IsDue q (state w es) e
    own e l n c = let i = eq-eqb (session_of e) (session_of e) refl in let d = c (session_of e) n in due q w es e l (told w es l.0 (session_of e)) (rw i at d)

    go : (e : Event) (l : IsLegal w (e ∷ es)) → ((s : ℕ) → IsSession s → Completes (transactions_of q s) (begun_by (e ∷ es) s) ((state w (e ∷ es)).of s)) → IsDue q (state w es) e
    go (Begin u n) l c = own (Begin u n) l l.1.0 c
    go (Ask u n st) l c = own (Ask u n st) l (live_session w es l.0 u l.1.0.live) c
    go (Commit u n) l c = own (Commit u n) l (live_session w es l.0 u l.1.0.live) c
    go (Rollback u Asked) l c = own (Rollback u Asked) l (live_session w es l.0 u l.1.live) c
    go (Rollback u NoMemory) l c = tt
    go (Take u k m) l c = tt
    go (Put u k m) l c = tt
    go (Wait u k m b) l c = tt
    go (Victim u d) l c = tt
    go (Answered u a) l c = tt

-- ---- and so its own
own_begun_by : (es : List Event) (ss : List ℕ) (s : ℕ) → Has ss s → transactions_of (map (λ s. record { number = s; transactions = begun_by es s }) ss) s ≡ begun_by es s
own_begun_by es [] s h = absurd h
own_begun_by es (r ∷ rs) s h = go (eqb r s) refl h (own_begun_by es rs s)
  where
    go : (b : Bool) → eqb r s ≡ b → Has (r ∷ rs) s → (Has rs s → transactions_of (map (λ s. record { number = s; transactions = begun_by es s }) rs) s ≡ begun_by es s)
        → cond b (begun_by es r) (transactions_of (map (λ s. record { number = s; transactions = begun_by es s }) rs) s) ≡ begun_by es s
    go true q h ih = ap (begun_by es) (eqb-true r s q)
    go false q (inl e) ih = absurd (eqb-false r s q e)
    go false q (inr m) ih = ih m

pub tells : (w : Stage) (es : List Event) → IsLegal w es → Follows (script_of es) w es
tells w es l = follows_all (script_of es) w es l (λ s n i t e. (t, ap (λ ts. slice_get ts i) (own_begun_by es all_sessions s (session_listed s n)) ∙ e, inl refl))
