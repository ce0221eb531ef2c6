-- Loops over all sessions.
use Rattle.std.specs.Prelude.{ℤ, pos, ◌||◌, unwrap_or, slice_get, Option, Some, None, IfSome}
use Rattle.std.proofs.lemmas.Bool.{cases_lt}
use Rattle.std.proofs.lemmas.List.{length-append}
use Rattle.std.proofs.Common.{◌≡◌, ◌⊎◌, ℕ, zero, suc, ◌+◌, ◌<◌, ◌++◌, length, get_or, Bool, true, false, cond, List, [], ◌∷◌, eqb, eqb-true, eq-eqb, refl, sym, ap, ◌∙◌, subst, inl, inr, arith}
use Rattle.sg_modes.specs.Priorities.{IsPriority, priority_of}
use Rattle.sg_modes.proofs.BoolLaws.{ne-eqb}
use Rattle.sg_modes.specs.Sessions.{AreSessions}
use Rattle.sg_modes.proofs.PriorityLaws.{IsPriority-zero}
use Rattle.sg_modes.specs.Sessions.{IsSession, has_session}
use Rattle.sg_script.specs.declared.sessions.SessionScript.{SessionScript}
use Rattle.sg_run.specs.declared.courses.Course.{Course}
use Rattle.sg_run.specs.Courses.{no_course, course_in}
use Rattle.sg_run.specs.Opens.{HasRoom, transactions_at}
use Rattle.sg_run.specs.Runs.{priority_in}

-- each session is still to come, or has this
abbrev pub IsDone : (ℕ → Type 0) → List ℕ → Type 0
IsDone P rest = (u : ℕ) → IsSession u → (has_session rest u ≡ true) ⊎ P u

pub done_more : (P Q : ℕ → Type 0) (rest rest' : List ℕ) (s : ℕ) → rest ≡ s ∷ rest' → Q s → ((u : ℕ) → (u ≡ s → ⊥) → P u → Q u) → IsDone P rest → IsDone Q rest'
done_more P Q rest rest' s first now keep h u is = by_test (eqb u s) refl
  where
    by_test : (b : Bool) → eqb u s ≡ b → (has_session rest' u ≡ true) ⊎ Q u
    by_test true q = inr (subst Q (sym (eqb-true u s q)) now)
    by_test false q = elim (h u is) [
      | inl m ↦ inl (sym (ap (λ b. b || has_session rest' u) q) ∙ (sym (ap (λ ns. has_session ns u) first) ∙ m))
      | inr r ↦ inr (keep u (λ e. let f : true ≡ false = sym (eq-eqb u s e) ∙ q in cc) r)
    ]

pub done_last : (P : ℕ → Type 0) (rest : List ℕ) → rest ≡ [] → IsDone P rest → (u : ℕ) → IsSession u → P u
done_last P rest none h u is = elim (h u is) [ inl m ↦ absurd (let f : false ≡ true = sym (ap (λ ns. has_session ns u) none) ∙ m in cc) | inr r ↦ r ]

-- ---- ended sessions
abbrev pub AreDone : (ℕ → Bool) → List ℕ → Type 0
AreDone ended rest = IsDone (λ u. ended u ≡ true) rest

-- ---- priorities
pub record AreSet (sessions : List SessionScript) (rest : List ℕ) (priorities : List ℤ) : Type 0 where
  pub done : IsDone (λ u. priority_of priorities u ≡ priority_in sessions u) rest
  pub ranges : (u : ℕ) → IsPriority (priority_of priorities u)

pub or_zero : (o : Option ℤ) → IfSome o IsPriority → IsPriority (unwrap_or o (pos 0))
or_zero None h = IsPriority-zero
or_zero (Some p) h = h

pub set_first : (sessions : List SessionScript) (all : List ℕ) (priorities : List ℤ) → ((u : ℕ) → IsSession u → has_session all u ≡ true) → ((u : ℕ) → priority_of priorities u ≡ pos 0) → AreSet sessions all priorities
set_first sessions all priorities each zeros = record { done = λ u is. inl (each u is); ranges = λ u. subst IsPriority (sym (zeros u)) IsPriority-zero }

pub set_more : (sessions : List SessionScript) (rest rest' : List ℕ) (old new : List ℤ) (s : ℕ) (p : ℤ) → rest ≡ s ∷ rest' → p ≡ priority_in sessions s → IsPriority p → ((u : ℕ) → priority_of new u ≡ cond (eqb u s) p (priority_of old u)) → AreSet sessions rest old
    → AreSet sessions rest' new
set_more sessions rest rest' old new s p first is ranged each h = record {
  done =
      done_more (λ u. priority_of old u ≡ priority_in sessions u) (λ u. priority_of new u ≡ priority_in sessions u) rest rest' s first (each s ∙ (ap (λ b. cond b p (priority_of old s)) (eq-eqb s s refl) ∙ is))
      (λ u ne k. each u ∙ (ap (λ b. cond b p (priority_of old u)) (ne-eqb u s ne) ∙ k)) h.done;
  ranges = λ u. subst IsPriority (sym (each u)) (by_test (eqb u s) u);
}
  where
    by_test : (b : Bool) (u : ℕ) → IsPriority (cond b p (priority_of old u))
    by_test true u = ranged
    by_test false u = h.ranges u

-- the first of a set of sessions is one
pub first_is : (rest rest' : List ℕ) (s : ℕ) → rest ≡ s ∷ rest' → AreSessions rest → IsSession s
first_is rest rest' s e h = let a = subst AreSessions e h in let low = a.0 in let high = a.1 in (omega (arith, low), high)

pub first_none : (ns : List ℕ) → slice_get ns 0 ≡ None → ns ≡ []
first_none [] e = refl
first_none (n ∷ ns) e = absurd (cc)

-- ---- room
-- of the first sessions, so many
pub record AreRoomy (sessions : List SessionScript) (n : ℕ) (courses : List Course) : Type 0 where
  pub size : length courses ≡ n
  pub each : (i : ℕ) → i < n → HasRoom (transactions_at sessions (suc i)) (get_or courses i no_course)

before_last : (courses : List Course) (x : Course) (i : ℕ) → i < length courses → get_or (courses ++ x ∷ []) i no_course ≡ get_or courses i no_course
before_last [] x i h = absurd (omega arith)
before_last (c ∷ courses) x zero h = refl
before_last (c ∷ courses) x (suc i) h = before_last courses x i (omega arith)

at_last : (courses : List Course) (x : Course) → get_or (courses ++ x ∷ []) (length courses) no_course ≡ x
at_last [] x = refl
at_last (c ∷ courses) x = at_last courses x

pub roomy_more : (sessions : List SessionScript) (n : ℕ) (courses : List Course) (x : Course) → HasRoom (transactions_at sessions (n + 1)) x → AreRoomy sessions n courses → AreRoomy sessions (n + 1) (courses ++ x ∷ [])
roomy_more sessions n courses x room h = record {
  size = (let l = length-append courses (x ∷ []) in let e = h.size in omega (arith, l, e));
  each = λ i lt. elim (cases_lt i n) [
    | inl below ↦ subst (λ (c : Course). HasRoom (transactions_at sessions (suc i)) c) (sym (before_last courses x i (let e = h.size in omega (arith, e, below)))) (h.each i below)
    | inr above ↦
        let q : i ≡ length courses = (let e = h.size in omega (arith, e, lt, above)) in
        let m : n + 1 ≡ suc i = omega (arith, lt, above) in
        subst (λ (c : Course). HasRoom (transactions_at sessions (suc i)) c) (sym (ap (λ k. get_or (courses ++ x ∷ []) k no_course) q ∙ at_last courses x)) (subst (λ k. HasRoom (transactions_at sessions k) x) m room)
  ];
}

pub roomy_all : (sessions : List SessionScript) (courses : List Course) → AreRoomy sessions 64 courses → (s : ℕ) → IsSession s → HasRoom (transactions_at sessions s) (course_in courses s)
roomy_all sessions courses h zero is = absurd (let low = is.0 in omega arith)
roomy_all sessions courses h (suc i) is = h.each i (let high = is.1 in omega (arith, high))
