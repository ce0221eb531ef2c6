-- A trace follows what is left of a script once a transaction that hasn't begun is taken out, and the measure is lower.
use Rattle.std.proofs.Common.{◌≡◌, ◌≢◌, ℕ, zero, suc, pred, ◌+◌, ◌-◌, ◌*◌, ◌<◌, ◌≤◌, Bool, true, false, cond, not, List, [], ◌∷◌, length, eqb, Option, Some, None, refl, sym, ap, ◌∙◌, subst, inl, inr, arith}
use Rattle.std.specs.Prelude.{slice_get, is_some}
use Rattle.std.proofs.lemmas.Bool.{cases_eq, eqb-true, eqb-false}
use Rattle.sg_plain.specs.declared.statements.Statement.{Statement}
use Rattle.sg_plain.specs.declared.statements.Answer.{Answer}
use Rattle.sg_plain.specs.Transactions.{TransactionPlan}
use Rattle.sg_modes.specs.Sessions.{IsSession}
use Rattle.sg_trace.specs.declared.labels.Cause.TheVariants.{Asked, NoMemory}
use Rattle.sg_trace.specs.Needs.{Held}
use Rattle.sg_trace.specs.Traces.{Local, State, Stage, Event, Begin, Ask, Take, Put, Wait, Victim, Answered, Commit, Rollback, session_of, state, after, answered, all_sessions}
use Rattle.sg_trace.specs.Legal.{IsLegal, waits}
use Rattle.sg_trace.specs.Scripts.{Script, IsDue, Follows, transactions_of, statements_in, end_in, current, upcoming}
use Rattle.sg_trace.specs.Driven.{is_nil}
use Rattle.sg_trace.specs.Measure.{sum_of, one, unended, unbegun, to_do, holds_exactly, unheld, parts, IsLower, IsEnough, IsWithout, without_at, statement_count, bounds, AllBelow}
use Rattle.sg_laws.proofs.Numbers.{session_listed}
use Rattle.sg_serial.proofs.Ordered.{planned}
use Rattle.sg_measure.proofs.Falls.{sum_less}

-- ---- lists without an item
pub before_gap : {A : Type 0} (xs : List A) (i j : ℕ) → j < i → slice_get (without_at i xs) j ≡ slice_get xs j
before_gap [] i j h = refl
before_gap (x ∷ xs) zero j h = absurd (omega arith)
before_gap (x ∷ xs) (suc i) zero h = refl
before_gap (x ∷ xs) (suc i) (suc j) h = before_gap xs i j (omega arith)

from_gap : {A : Type 0} (xs : List A) (i j : ℕ) (x : A) → slice_get (without_at i xs) j ≡ Some x → (k : ℕ) × (slice_get xs k ≡ Some x)
from_gap [] i j x e = absurd (cc)
from_gap (y ∷ ys) zero j x e = (suc j, e)
from_gap (y ∷ ys) (suc i) zero x e = (zero, e)
from_gap (y ∷ ys) (suc i) (suc j) x e = let r = from_gap ys i j x e in (suc r.0, r.1)

shorter : {A : Type 0} (xs : List A) (i : ℕ) → i < length xs → suc (length (without_at i xs)) ≡ length xs
shorter [] i h = absurd (omega arith)
shorter (x ∷ xs) zero h = refl
shorter (x ∷ xs) (suc i) h = ap suc (shorter xs i (omega arith))

-- ---- the number of begun transactions only grows
answered_begun : (x : Local) (o : Option Statement) (a : Answer) → (answered x o a).begun ≡ x.begun
answered_begun x None a = refl
answered_begun x (Some st) a = refl

begun_after : (e : Event) (x : Local) → x.begun ≤ (after e x).begun
begun_after (Begin s t) x = omega arith
begun_after (Ask s n st) x = omega arith
begun_after (Take s k m) x = omega arith
begun_after (Put s k m) x = omega arith
begun_after (Wait s k m b) x = omega arith
begun_after (Victim s c) x = omega arith
begun_after (Answered s a) x = let e = answered_begun x x.open_one a in omega arith
begun_after (Commit s p) x = omega arith
begun_after (Rollback s c) x = omega arith

begun_grows : (w : Stage) (e : Event) (es : List Event) (s : ℕ) → ((state w es).of s).begun ≤ ((state w (e ∷ es)).of s).begun
begun_grows w e es s = go (eqb (session_of e) s) refl
  where
    go : (b : Bool) → eqb (session_of e) s ≡ b → ((state w es).of s).begun ≤ (cond b (after e ((state w es).of (session_of e))) ((state w es).of s)).begun
    go true q = subst (λ u. ((state w es).of u).begun ≤ (after e ((state w es).of (session_of e))).begun) (eqb-true (session_of e) s q) (begun_after e ((state w es).of (session_of e)))
    go false q = omega arith

-- ---- what is due still is
module _ (ps rest : Script) (s i : ℕ) (same : (j : ℕ) → j < i → slice_get (transactions_of rest s) j ≡ slice_get (transactions_of ps s) j) (others : (u : ℕ) → u ≢ s → transactions_of rest u ≡ transactions_of ps u) where
  -- the transaction that a session began last is the same
  current_same : (x : Local) (u : ℕ) → 0 < x.begun → (u ≡ s → x.begun ≤ i) → current rest x u ≡ current ps x u
  current_same x u b le = elim (cases_eq u s) [
    | inl q ↦ let l = le q in subst (λ v. current rest x v ≡ current ps x v) (sym q) (same (pred x.begun) (below x.begun b l))
    | inr ne ↦ ap (λ ts. slice_get ts (pred x.begun)) (others u ne)
  ]
    where
      below : (n : ℕ) → 0 < n → n ≤ i → pred n < i
      below zero b l = absurd (omega arith)
      below (suc n) b l = omega arith

  pub follows_rest : (w : Stage) (es : List Event) → IsLegal w es → Follows ps w es → ((state w es).of s).begun ≤ i → Follows rest w es
  follows_rest w [] l f le = tt
  follows_rest w (e ∷ es) l f le = let g = begun_grows w e es s in (follows_rest w es l.0 f.0 (omega arith), due e l f.1 le)
    where
      z : State
      z = state w es

      of_live : (u : ℕ) → (z.of u).live ≡ true → (u ≡ s → (z.of u).begun ≤ i) → current rest (z.of u) u ≡ current ps (z.of u) u
      of_live u live h = current_same (z.of u) u (planned ps w es l.0 f.0 u live).begun h

      next : (u : ℕ) → current rest (z.of u) u ≡ current ps (z.of u) u → upcoming rest (z.of u) u ≡ upcoming ps (z.of u) u
      next u q = ap (λ o. slice_get (statements_in o) (length (z.of u).done)) q

      mine : (e : Event) → ((state w (e ∷ es)).of s).begun ≤ i → (u : ℕ) → u ≡ s → (z.of u).begun ≤ i
      mine e le u q = let g = begun_grows w e es s in subst (λ v. (z.of v).begun ≤ i) (sym q) (omega arith)

      due : (e : Event) → IsLegal w (e ∷ es) → IsDue ps z e → ((state w (e ∷ es)).of s).begun ≤ i → IsDue rest z e
      due (Begin u t) l d le = elim (cases_eq u s) [
        | inl q ↦ (d.0, subst (λ v. slice_get (transactions_of rest v) (z.of v).begun ≡ slice_get (transactions_of ps v) (z.of v).begun) (sym q) (same (z.of s).begun (step_up u t q le)) ∙ d.1)
        | inr ne ↦ (d.0, ap (λ ts. slice_get ts (z.of u).begun) (others u ne) ∙ d.1)
      ]
        where
          step_up : (u t : ℕ) → u ≡ s → ((state w (Begin u t ∷ es)).of s).begun ≤ i → (z.of s).begun < i
          step_up u t q le = go (eqb u s) refl le
            where
              go : (b : Bool) → eqb u s ≡ b → (cond b (after (Begin u t) (z.of u)) (z.of s)).begun ≤ i → (z.of s).begun < i
              go true e l = let r = ap (λ v. (z.of v).begun) q in omega arith
              go false e l = absurd (eqb-false u s e q)
      due (Ask u n st) l d le = next u (of_live u l.1.0.live (mine (Ask u n st) le u)) ∙ d
      due (Commit u n) l d le = let c = of_live u l.1.0.live (mine (Commit u n) le u) in (next u c ∙ d.0, ap end_in c ∙ d.1)
      due (Rollback u Asked) l d le = let c = of_live u l.1.live (mine (Rollback u Asked) le u) in (next u c ∙ d.0, ap end_in c ∙ d.1)
      due (Rollback u NoMemory) l d le = tt
      due (Take u k m) l d le = tt
      due (Put u k m) l d le = tt
      due (Wait u k m b) l d le = tt
      due (Victim u c) l d le = tt
      due (Answered u a) l d le = tt

pub enough_rest : (ps rest : Script) (s i : ℕ) (pairs : List Held) (w : Stage) → IsWithout ps s i rest → IsEnough pairs w ps → IsEnough pairs w rest
enough_rest ps rest s i pairs w h e = record {
  ends = e.ends;
  opening = e.opening;
  script = λ u j n t st a b. elim (cases_eq u s) [
    | inl q ↦
        let c = from_gap (transactions_of ps s) i j t (ap (λ ts. slice_get ts j) (sym h.own) ∙ (ap (λ v. slice_get (transactions_of rest v) j) (sym q) ∙ a)) in
        e.script s c.0 n t st c.1 b
    | inr ne ↦ e.script u j n t st (ap (λ ts. slice_get ts j) (sym (h.others u ne)) ∙ a) b
  ];
}

pub lower_rest : (ps rest : Script) (pairs : List Held) (w : Stage) (es : List Event) (s : ℕ) → IsSession s → IsWithout ps s ((state w es).of s).begun rest → IsLower (parts rest pairs w es) (parts ps pairs w es)
lower_rest ps rest pairs w es s number h =
    let z = state w es in
    inl (sum_less (λ u. unended ps (z.of u) u) (λ u. unended rest (z.of u) u) s all_sessions
    (λ u ne. ap (λ ts. (length ts + one (z.of u).live) - (z.of u).begun) (h.others u (λ q. ne (sym q)))) (less (z.of s).begun (transactions_of ps s) (transactions_of rest s) (one (z.of s).live) h.there h.own) (session_listed s number))
  where
    less : (b : ℕ) (ts us : List TransactionPlan) (n : ℕ) → b < length ts → us ≡ without_at b ts → (length us + n) - b < (length ts + n) - b
    less b ts us n l q = let r = shorter ts b l in let p = ap length q in omega arith

-- ---- bounds
sum_most : (f g : ℕ → ℕ) (ss : List ℕ) → ((s : ℕ) → f s ≤ g s) → sum_of f ss ≤ sum_of g ss
sum_most f g [] h = omega arith
sum_most f g (s ∷ ss) h = let a = h s in let b = sum_most f g ss h in omega arith

one_most : (b : Bool) → one b ≤ 1
one_most true = omega arith
one_most false = omega arith

unheld_most : (gs hs : List Held) → unheld gs hs ≤ length gs
unheld_most [] hs = omega arith
unheld_most (g ∷ gs) hs = let a = unheld_most gs hs in let b = one_most (not (holds_exactly hs g)) in omega arith

count_most : (ts : List TransactionPlan) (i : ℕ) → length (statements_in (slice_get ts i)) ≤ statement_count ts
count_most [] i = omega arith
count_most (t ∷ ts) zero = omega arith
count_most (t ∷ ts) (suc i) = let a = count_most ts i in omega arith

to_do_most : (ps : Script) (x : Local) (s : ℕ) → to_do ps x s ≤ 2 * statement_count (transactions_of ps s)
to_do_most ps x s = go x.live
  where
    go : (b : Bool) → cond b (2 * (length (statements_in (current ps x s)) - length x.done) - one (is_some x.open_one)) 0 ≤ 2 * statement_count (transactions_of ps s)
    go true = let a = count_most (transactions_of ps s) (pred x.begun) in omega arith
    go false = omega arith

pub bounded : (ps : Script) (pairs : List Held) (w : Stage) (es : List Event) → AllBelow (parts ps pairs w es) (bounds ps pairs)
bounded ps pairs w es =
    let z = state w es in (
      within (sum_most (λ s. unended ps (z.of s) s) (λ s. suc (length (transactions_of ps s))) all_sessions (λ s. let a = one_most (z.of s).live in omega arith)),
      (
        within (sum_most (λ s. unbegun ps (z.of s) s) (λ s. length (transactions_of ps s)) all_sessions (λ s. omega arith)),
        (
          within (sum_most (λ s. to_do ps (z.of s) s) (λ s. 2 * statement_count (transactions_of ps s)) all_sessions (λ s. to_do_most ps (z.of s) s)),
          (
            within (sum_most (λ s. cond (z.of s).live (unheld pairs (z.of s).held) 0) (λ s. length pairs) all_sessions (λ s. held (z.of s).live (unheld pairs (z.of s).held) (unheld_most pairs (z.of s).held))),
            (within (sum_most (λ s. one (is_nil (waits es s))) (λ s. 1) all_sessions (λ s. one_most (is_nil (waits es s)))), tt),
          ),
        ),
      ),
    )
  where
    within : {a b : ℕ} → a ≤ b → a < suc b
    within h = omega arith

    held : (b : Bool) (n : ℕ) → n ≤ length pairs → cond b n 0 ≤ length pairs
    held true n h = h
    held false n h = omega arith
