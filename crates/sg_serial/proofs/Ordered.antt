-- A legal trace of a script commits its transactions, whole and in order.
use Rattle.std.proofs.Common.{◌≡◌, ℕ, zero, suc, pred, ◌-◌, ◌<◌, ◌≤◌, Bool, true, false, cond, List, [], ◌∷◌, ◌++◌, length, eqb, Some, None, refl, sym, ap, ◌∙◌, subst, inl, inr, arith, append_assoc, append-nil}
use Rattle.std.specs.Prelude.{slice_get, Contains}
use Rattle.std.proofs.lemmas.Bool.{eqb-true, eq-eqb}
use Rattle.sg_cells.specs.Laws.{Has}
use Rattle.sg_plain.specs.declared.statements.Statement.{Statement}
use Rattle.sg_plain.specs.declared.statements.Answer.{Answer}
use Rattle.sg_plain.specs.Transactions.{TransactionPlan, SessionPlan}
use Rattle.sg_plain.specs.Serial.{Entry, IsCommitOf, RisesInSession, ScriptOrder}
use Rattle.sg_trace.specs.Traces.{DoneList, Local, State, Stage, Event, Begin, Ask, Take, Put, Wait, Victim, Answered, Commit, Rollback, state, after, idle, answered, with_one}
use Rattle.sg_trace.specs.Legal.{IsLegal, statements_of, entry_of, journal}
use Rattle.sg_trace.specs.Scripts.{Script, Follows, transactions_of, statements_in, end_in, current, upcoming}
use Rattle.sg_laws.proofs.Clash.{each_with}
use Rattle.sg_laws.proofs.Present.{Has-cases}
use Rattle.sg_serial.proofs.Places.{all_of, Pairs, all_pairs, pairs_push, get_behind}

-- ---- the statements of the live transaction
-- the answered statements are those of the transaction, in order, from its first on
abbrev pub InOrder : List Statement → DoneList → Type 0
InOrder sts [] = Unit {0}
InOrder sts (d ∷ ds) = (slice_get sts (length ds) ≡ Some d.0) × InOrder sts ds

-- a live session has come so far in a transaction of the script
pub record OnPlan (p : Script) (x : Local) (s : ℕ) : Type 0 where
  pub transaction : TransactionPlan
  pub is : current p x s ≡ Some transaction
  pub begun : 0 < x.begun
  pub order : InOrder transaction.statements x.done
  pub open_is : (st : Statement) → x.open_one ≡ Some st → slice_get transaction.statements (length x.done) ≡ Some st

abbrev pub Planned : Script → Local → ℕ → Type 0
Planned p x s = x.live ≡ true → OnPlan p x s

planned_idle : (p : Script) (n s : ℕ) → Planned p (idle n) s
planned_idle p n s e = cc

-- the same but for grants
planned_same : (p : Script) (x y : Local) (s : ℕ) → y.begun ≡ x.begun → y.live ≡ x.live → y.open_one ≡ x.open_one → y.done ≡ x.done → Planned p x s → Planned p y s
planned_same p x y s eb el eo ed h live =
    let o = h (sym el ∙ live) in
    record {
      transaction = o.transaction;
      is = ap (λ n. slice_get (transactions_of p s) (pred n)) eb ∙ o.is;
      begun = subst (λ n. 0 < n) (sym eb) o.begun;
      order = subst (InOrder o.transaction.statements) (sym ed) o.order;
      open_is = λ st e. ap (λ ds. slice_get o.transaction.statements (length ds)) ed ∙ o.open_is st (sym eo ∙ e);
    }

pub upcoming_is : (p : Script) (x : Local) (s : ℕ) (t : TransactionPlan) → current p x s ≡ Some t → upcoming p x s ≡ slice_get t.statements (length x.done)
upcoming_is p x s t e = ap (λ o. slice_get (statements_in o) (length x.done)) e

planned_ask : (p : Script) (x : Local) (s n : ℕ) (st : Statement) → x.live ≡ true → upcoming p x s ≡ Some st → Planned p x s → Planned p (after (Ask s n st) x) s
planned_ask p x s n st live due h l =
    let o = h live in
    record { transaction = o.transaction; is = o.is; begun = o.begun; order = o.order; open_is = λ st' e. let e' : st ≡ st' = cc in sym (upcoming_is p x s o.transaction o.is) ∙ (due ∙ ap Some e') }

planned_answer : (p : Script) (x y : Local) (s : ℕ) (st : Statement) (a : Answer) → x.open_one ≡ Some st → y ≡ answered x (Some st) a → x.live ≡ true → Planned p x s → Planned p y s
planned_answer p x y s st a e q live h = subst (λ y. Planned p y s) (sym q) (λ l.
    let o = h live in
    record { transaction = o.transaction; is = o.is; begun = o.begun; order = (o.open_is st e, o.order); open_is = λ st' e'. cc })

pub planned : (p : Script) (w : Stage) (ls : List Event) → IsLegal w ls → Follows p w ls → (s : ℕ) → Planned p ((state w ls).of s) s
planned p w [] l f s = λ e. cc
planned p w (Begin u t ∷ ls) l f s =
    let z = state w ls in
    each_with (λ s x. Planned p x s) z.of u (after (Begin u t) (z.of u)) (λ s ne. planned p w ls l.0 f.0 s)
    (λ e. record { transaction = f.1.0; is = f.1.1; begun = omega arith; order = tt; open_is = λ st e. cc }) s
planned p w (Ask u n st ∷ ls) l f s =
    let z = state w ls in
    each_with (λ s x. Planned p x s) z.of u (after (Ask u n st) (z.of u)) (λ s ne. planned p w ls l.0 f.0 s) (planned_ask p (z.of u) u n st l.1.0.live f.1 (planned p w ls l.0 f.0 u)) s
planned p w (Take u k m ∷ ls) l f s =
    let z = state w ls in
    each_with (λ s x. Planned p x s) z.of u (after (Take u k m) (z.of u)) (λ s ne. planned p w ls l.0 f.0 s) (planned_same p (z.of u) (after (Take u k m) (z.of u)) u refl refl refl refl (planned p w ls l.0 f.0 u)) s
planned p w (Put u k m ∷ ls) l f s =
    let z = state w ls in
    each_with (λ s x. Planned p x s) z.of u (after (Put u k m) (z.of u)) (λ s ne. planned p w ls l.0 f.0 s) (planned_same p (z.of u) (after (Put u k m) (z.of u)) u refl refl refl refl (planned p w ls l.0 f.0 u)) s
planned p w (Wait u k m b ∷ ls) l f s =
    let z = state w ls in
    each_with (λ s x. Planned p x s) z.of u (z.of u) (λ s ne. planned p w ls l.0 f.0 s) (planned p w ls l.0 f.0 u) s
planned p w (Victim u c ∷ ls) l f s = let z = state w ls in each_with (λ s x. Planned p x s) z.of u (idle (z.of u).begun) (λ s ne. planned p w ls l.0 f.0 s) (planned_idle p (z.of u).begun u) s
planned p w (Commit u n ∷ ls) l f s = let z = state w ls in each_with (λ s x. Planned p x s) z.of u (idle (z.of u).begun) (λ s ne. planned p w ls l.0 f.0 s) (planned_idle p (z.of u).begun u) s
planned p w (Rollback u c ∷ ls) l f s = let z = state w ls in each_with (λ s x. Planned p x s) z.of u (idle (z.of u).begun) (λ s ne. planned p w ls l.0 f.0 s) (planned_idle p (z.of u).begun u) s
planned p w (Answered u a ∷ ls) l f s =
    let z = state w ls in
    let o = l.1.1 in
    each_with (λ s x. Planned p x s) z.of u (after (Answered u a) (z.of u)) (λ s ne. planned p w ls l.0 f.0 s)
    (planned_answer p (z.of u) (after (Answered u a) (z.of u)) u l.1.0 a o.open_one (ap (λ q. answered (z.of u) q a) o.open_one) o.live (planned p w ls l.0 f.0 u)) s

-- ---- the numbers of the transactions
-- the numbers of the committed transactions of a session lie below its live one's
abbrev pub IsPast : Local → ℕ → Type 0
IsPast x n = (n ≤ x.begun) × (x.live ≡ true → n < x.begun)

past_step : (z : State) (u : ℕ) (x : Local) (e : Entry) → (IsPast (z.of u) e.transaction → IsPast x e.transaction) → IsPast (z.of e.session) e.transaction → IsPast (with_one z.of u x e.session) e.transaction
past_step z u x e own h = go (eqb u e.session) refl
  where
    go : (b : Bool) → eqb u e.session ≡ b → IsPast (cond b x (z.of e.session)) e.transaction
    go true q = own (subst (λ n. IsPast (z.of n) e.transaction) (sym (eqb-true u e.session q)) h)
    go false q = h

past_idle : (x : Local) (n : ℕ) → IsPast x n → IsPast (idle x.begun) n
past_idle x n h = (h.0, λ e. cc)

pub past : (w : Stage) (ls : List Event) → IsLegal w ls → (e : Entry) → Has (journal w ls) e → IsPast ((state w ls).of e.session) e.transaction
past w [] l e h = absurd h
past w (Begin u t ∷ ls) l e h = let z = state w ls in past_step z u (after (Begin u t) (z.of u)) e (λ c. let c0 = c.0 in (omega arith, λ q. omega arith)) (past w ls l.0 e h)
past w (Ask u n st ∷ ls) l e h = let z = state w ls in past_step z u (after (Ask u n st) (z.of u)) e (λ c. c) (past w ls l.0 e h)
past w (Take u k m ∷ ls) l e h = let z = state w ls in past_step z u (after (Take u k m) (z.of u)) e (λ c. c) (past w ls l.0 e h)
past w (Put u k m ∷ ls) l e h = let z = state w ls in past_step z u (after (Put u k m) (z.of u)) e (λ c. c) (past w ls l.0 e h)
past w (Wait u k m b ∷ ls) l e h = let z = state w ls in past_step z u (z.of u) e (λ c. c) (past w ls l.0 e h)
past w (Victim u c ∷ ls) l e h = let z = state w ls in past_step z u (idle (z.of u).begun) e (past_idle (z.of u) e.transaction) (past w ls l.0 e h)
past w (Rollback u c ∷ ls) l e h = let z = state w ls in past_step z u (idle (z.of u).begun) e (past_idle (z.of u) e.transaction) (past w ls l.0 e h)
past w (Answered u a ∷ ls) l e h =
    let z = state w ls in
    past_step z u (after (Answered u a) (z.of u)) e (λ c. subst (λ y. IsPast y e.transaction) (sym (ap (λ q. answered (z.of u) q a) l.1.1.open_one)) c) (past w ls l.0 e h)
past w (Commit u n ∷ ls) l e h = elim (Has-cases (journal w ls) (entry_of u ((state w ls).of u) ∷ []) e h) [
  | inl m ↦ let z = state w ls in past_step z u (idle (z.of u).begun) e (past_idle (z.of u) e.transaction) (past w ls l.0 e m)
  | inr m ↦ elim m [ inl q ↦ subst (λ (d : Entry). IsPast ((state w (Commit u n ∷ ls)).of d.session) d.transaction) q (go (eqb u u) (eq-eqb u u refl)) | inr i ↦ absurd i ]
]
  where
    z : State
    z = state w ls

    go : (b : Bool) → b ≡ true → IsPast (cond b (idle (z.of u).begun) (z.of u)) (z.of u).begun
    go true q = (omega arith, λ e. cc)
    go false q = cc

-- ---- whole transactions
length_of : (ds : DoneList) → length (statements_of ds) ≡ length ds
length_of [] = refl
length_of (d ∷ ds) = go (statements_of ds) (length_of ds)
  where
    go : (xs : List Statement) → length xs ≡ length ds → length (xs ++ d.0 ∷ []) ≡ suc (length ds)
    go xs e = let l = longer xs in omega arith
      where
        longer : (xs : List Statement) → length (xs ++ d.0 ∷ []) ≡ suc (length xs)
        longer [] = refl
        longer (x ∷ xs) = ap suc (longer xs)

-- the transaction begins with what was answered
begins : (sts : List Statement) (ds : DoneList) → InOrder sts ds → (rest : List Statement) × (sts ≡ statements_of ds ++ rest)
begins sts [] h = (sts, refl)
begins sts (d ∷ ds) h =
    let i = begins sts ds h.1 in
    go i.0 i.1 (sym (get_behind (statements_of ds) i.0) ∙ (ap (slice_get (statements_of ds ++ i.0)) (length_of ds) ∙ (ap (λ xs. slice_get xs (length ds)) (sym i.1) ∙ h.0)))
  where
    go : (rest : List Statement) → sts ≡ statements_of ds ++ rest → slice_get rest 0 ≡ Some d.0 → (rest' : List Statement) × (sts ≡ (statements_of ds ++ d.0 ∷ []) ++ rest')
    go [] e q = absurd (cc)
    go (x ∷ xs) e q = let q' : x ≡ d.0 = cc in (xs, e ∙ (ap (λ y. statements_of ds ++ y ∷ xs) q' ∙ sym (append_assoc (statements_of ds) (d.0 ∷ []) xs)))

whole : (sts : List Statement) (ds : DoneList) → InOrder sts ds → slice_get sts (length ds) ≡ None → statements_of ds ≡ sts
whole sts ds h e =
    let i = begins sts ds h in
    go i.0 i.1 (sym (get_behind (statements_of ds) i.0) ∙ (ap (slice_get (statements_of ds ++ i.0)) (length_of ds) ∙ (ap (λ xs. slice_get xs (length ds)) (sym i.1) ∙ e)))
  where
    go : (rest : List Statement) → sts ≡ statements_of ds ++ rest → slice_get rest 0 ≡ None → statements_of ds ≡ sts
    go [] e q = sym (append-nil (statements_of ds)) ∙ sym e
    go (x ∷ xs) e q = absurd (cc)

-- the session of the script whose transaction it is
pub record IsOf (ps : Script) (s i : ℕ) (t : TransactionPlan) : Type 0 where
  pub plan : SessionPlan
  pub of_script : Contains ps plan
  pub number : plan.number ≡ s
  pub place : slice_get plan.transactions i ≡ Some t

pub plan_of : (ps : Script) (s i : ℕ) (t : TransactionPlan) → slice_get (transactions_of ps s) i ≡ Some t → IsOf ps s i t
plan_of [] s i t e = absurd (cc)
plan_of (p ∷ ps) s i t e = go (eqb p.number s) refl e (plan_of ps s i t)
  where
    go : (b : Bool) → eqb p.number s ≡ b → slice_get (cond b p.transactions (transactions_of ps s)) i ≡ Some t → (slice_get (transactions_of ps s) i ≡ Some t → IsOf ps s i t) → IsOf (p ∷ ps) s i t
    go true q e ih = record { plan = p; of_script = (0, omega arith, refl); number = eqb-true p.number s q; place = e }
    go false q e ih = let o = ih e in let c = o.of_script in record { plan = o.plan; of_script = (suc c.0, omega (arith, c.1), c.2); number = o.number; place = o.place }

pred_is : (n : ℕ) → 0 < n → pred n ≡ n - 1
pred_is zero h = absurd (omega arith)
pred_is (suc n) h = omega arith

pub commit_of : (p : Script) (w : Stage) (ls : List Event) (u n : ℕ) → IsLegal w (Commit u n ∷ ls) → Follows p w (Commit u n ∷ ls) → IsCommitOf p (entry_of u ((state w ls).of u))
commit_of p w ls u n l f =
    let x = (state w ls).of u in
    let o = planned p w ls l.0 f.0 u l.1.0.live in
    let c = plan_of p u (pred x.begun) o.transaction o.is in
    let b = o.begun in
    record {
      session = c.plan;
      transaction = o.transaction;
      of_script = c.of_script;
      session_number = c.number;
      counted_from_one = omega arith;
      at_its_number = ap (slice_get c.plan.transactions) (sym (pred_is x.begun b)) ∙ c.place;
      commits = sym (ap end_in o.is) ∙ f.1.1;
      statements = whole o.transaction.statements x.done o.order (sym (upcoming_is p x u o.transaction o.is) ∙ f.1.0);
    }

commits_are : (p : Script) (w : Stage) (ls : List Event) → IsLegal w ls → Follows p w ls → (e : Entry) → Has (journal w ls) e → IsCommitOf p e
commits_are p w [] l f e h = absurd h
commits_are p w (Begin u t ∷ ls) l f e h = commits_are p w ls l.0 f.0 e h
commits_are p w (Ask u n st ∷ ls) l f e h = commits_are p w ls l.0 f.0 e h
commits_are p w (Take u k m ∷ ls) l f e h = commits_are p w ls l.0 f.0 e h
commits_are p w (Put u k m ∷ ls) l f e h = commits_are p w ls l.0 f.0 e h
commits_are p w (Wait u k m b ∷ ls) l f e h = commits_are p w ls l.0 f.0 e h
commits_are p w (Victim u c ∷ ls) l f e h = commits_are p w ls l.0 f.0 e h
commits_are p w (Answered u a ∷ ls) l f e h = commits_are p w ls l.0 f.0 e h
commits_are p w (Rollback u c ∷ ls) l f e h = commits_are p w ls l.0 f.0 e h
commits_are p w (Commit u n ∷ ls) l f e h = elim (Has-cases (journal w ls) (entry_of u ((state w ls).of u) ∷ []) e h) [
  | inl m ↦ commits_are p w ls l.0 f.0 e m
  | inr m ↦ elim m [ inl q ↦ subst (IsCommitOf p) q (commit_of p w ls u n l f) | inr i ↦ absurd i ]
]

in_order : (w : Stage) (ls : List Event) → IsLegal w ls → Pairs RisesInSession (journal w ls)
in_order w [] l = tt
in_order w (Begin u t ∷ ls) l = in_order w ls l.0
in_order w (Ask u n st ∷ ls) l = in_order w ls l.0
in_order w (Take u k m ∷ ls) l = in_order w ls l.0
in_order w (Put u k m ∷ ls) l = in_order w ls l.0
in_order w (Wait u k m b ∷ ls) l = in_order w ls l.0
in_order w (Victim u c ∷ ls) l = in_order w ls l.0
in_order w (Answered u a ∷ ls) l = in_order w ls l.0
in_order w (Rollback u c ∷ ls) l = in_order w ls l.0
in_order w (Commit u n ∷ ls) l =
    pairs_push RisesInSession (journal w ls) (entry_of u ((state w ls).of u)) (in_order w ls l.0)
    (λ d h q. let c = past w ls l.0 d h in let c' : IsPast ((state w ls).of u) d.transaction = subst (λ s. IsPast ((state w ls).of s) d.transaction) q c in c'.1 l.1.0.live)

pub script_order : (p : Script) (w : Stage) (ls : List Event) → IsLegal w ls → Follows p w ls → ScriptOrder p (journal w ls)
script_order p w ls l f = record {
  commits = all_of (IsCommitOf p) (journal w ls) (commits_are p w ls l f);
  in_order = all_pairs RisesInSession (journal w ls) (in_order w ls l);
}
