-- Commits, by the journal's entries.
use Rattle.std.proofs.Common.{◌≡◌, ℕ, zero, suc, ◌-◌, ◌<◌, ◌≤◌, Bool, true, false, cond, ◌&&◌, List, [], ◌∷◌, ◌++◌, length, get_or, eqb, Option, Some, refl, sym, ap, ◌∙◌, arith, append-nil}
use Rattle.std.specs.Prelude.{map, slice_get, option_map}
use Rattle.std.proofs.lemmas.List.{map-append}
use Rattle.sg_modes.specs.Sessions.{IsSession}
use Rattle.sg_plain.specs.Serial.{Entry}
use Rattle.sg_script.specs.Plans.{Plan}
use Rattle.sg_trace.specs.declared.labels.Label.{Label}
use Rattle.sg_trace.specs.Traces.{Stage, Event, Begin, Ask, Take, Put, Wait, Victim, Answered, Commit, Rollback, label_of, labels_of, session_of}
use Rattle.sg_trace.specs.Legal.{journal}
use Rattle.sg_turns.specs.Outcomes.{is_end, outcomes}
use Rattle.sg_turns.proofs.Outcomes.{entries_committed, commits_are}
use Rattle.sg_engine.specs.Shown.{Shown}
use Rattle.sg_run.specs.declared.outcomes.Outcome.{Outcome}
use Rattle.sg_run.specs.declared.outcomes.Outcome.TheVariants as outcome
use Rattle.sg_run.specs.declared.courses.Course.{Course}
use Rattle.sg_run.specs.Ends.{Past, outcome_by, end_by, ends, begun_count, begun_numbers, all_ends}
use Rattle.sg_run.specs.Courses.{past_at, course_in}
use Rattle.sg_run.specs.Runs.{RunShown, past_in, number_of, commit_in, outcomes_in, outcome_in}
use Rattle.sg_run.specs.Inside.{run_of, IsInside}
use Rattle.sg_run.proofs.Pasts.{numbers_count}
use Rattle.sg_run.proofs.Dues.{below_some}
use Rattle.sg_run.proofs.Goes.{ends_last, length_ends, past_in_map}

pub commit_is : (v : RunShown) (place : ℕ) (e : Entry) → (place ≡ 0 → ⊥) → slice_get v.engine.journal (place - 1) ≡ Some e → commit_in v place ≡ Some (e.session, number_of (past_in v.past e.session) e.transaction)
commit_is v zero e some h = absurd (some refl)
commit_is v (suc i) e some h =
    let at : suc i - 1 ≡ i = omega arith in
    ap (λ (o : Option Entry). option_map (λ (e : Entry). (e.session, number_of (past_in v.past e.session) e.transaction)) o) (ap (λ n. slice_get v.engine.journal n) (sym at) ∙ h)

module _ (script : Plan) (engine : Shown) (courses : List Course) (inside : IsInside script engine courses) (i : ℕ) (e : Entry) (h : slice_get engine.journal i ≡ Some e) where
  abbrev es : List Event
  es = inside.run.events

  abbrev w : Stage
  w = engine.stage

  there : slice_get (journal w es) i ≡ Some e
  there = ap (λ (es : List Entry). slice_get es i) (sym inside.run.run.shows.journal) ∙ h

  ended_so : slice_get (outcomes es e.session) (e.transaction - 1) ≡ Some (Commit e.session (suc i))
  ended_so = entries_committed w es inside.run.run.legal i e there

  pub least : 1 ≤ e.transaction
  least =
      let r = commits_are w es inside.run.run.legal e.session (e.transaction - 1) e.session (suc i) ended_so in
      let at : suc i - 1 ≡ i = omega arith in
      let same : Some r.0 ≡ Some e = sym r.1 ∙ (ap (λ n. slice_get (journal w es) n) at ∙ there) in
      let q : r.0 ≡ e = cc in
      let t = ap (λ (x : Entry). x.transaction) q in
      let p = r.3 in
      omega (arith, t, p)

  pub most : IsSession e.session → e.transaction ≤ length (course_in courses e.session).numbers.items
  most is =
      let c = inside.courses_are e.session is in
      let a = below_some (outcomes es e.session) (e.transaction - 1) (Commit e.session (suc i)) ended_so in
      let b = length_ends es e.session in
      let d = ap (λ (ls : List Label). length (ends e.session ls)) inside.run.run.shows.labels in
      let f = inside.run.over e.session is in
      let g = ap (λ (past : Past). begun_count past) (past_in_map courses e.session) in
      let k = numbers_count 1 (past_at (course_in courses e.session)) in
      let m = ap (λ (ns : List ℕ). length ns) c.numbers in
      omega (arith, a, b, d, f, g, k, m)

  pub number_is : IsSession e.session → get_or (course_in courses e.session).numbers.items (e.transaction - 1) 0 ≡ number_of (past_in (map past_at courses) e.session) e.transaction
  number_is is =
      let c = inside.courses_are e.session is in
      ap (λ (ns : List ℕ). get_or ns (e.transaction - 1) 0) (c.numbers ∙ ap (λ (past : Past). begun_numbers 1 past) (sym (past_in_map courses e.session)))

-- ---- their outcomes
abbrev event_outcome : Event → Outcome
event_outcome (Commit s p) = outcome.Committed p
event_outcome (Victim s c) = outcome.Victim c
event_outcome (Rollback s c) = outcome_by c
event_outcome (Begin s t) = outcome.NoMemory
event_outcome (Ask s n st) = outcome.NoMemory
event_outcome (Take s k m) = outcome.NoMemory
event_outcome (Put s k m) = outcome.NoMemory
event_outcome (Wait s k m b) = outcome.NoMemory
event_outcome (Answered s a) = outcome.NoMemory

added : (e : Event) (b : Bool) (os : List Event) (xs : List Outcome) → xs ≡ map event_outcome os → xs ++ cond b (event_outcome e ∷ []) [] ≡ map event_outcome (cond b (os ++ e ∷ []) os)
added e true os xs h = ap (λ (ys : List Outcome). ys ++ event_outcome e ∷ []) h ∙ sym (map-append event_outcome os (e ∷ []))
added e false os xs h = append-nil xs ∙ h

ends_are : (es : List Event) (s : ℕ) → ends s (labels_of es) ≡ map event_outcome (outcomes es s)
ends_are [] s = refl
ends_are (e ∷ es) s = ends_last s (labels_of es) (label_of e) ∙ by_event e (ends s (labels_of es)) (ends_are es s)
  where
    by_event : (e : Event) (xs : List Outcome) → xs ≡ map event_outcome (outcomes es s) → xs ++ end_by s (label_of e) ≡ map event_outcome (cond (is_end e && eqb (session_of e) s) (outcomes es s ++ e ∷ []) (outcomes es s))
    by_event (Commit u p) xs h = added (Commit u p) (eqb u s) (outcomes es s) xs h
    by_event (Victim u c) xs h = added (Victim u c) (eqb u s) (outcomes es s) xs h
    by_event (Rollback u c) xs h = added (Rollback u c) (eqb u s) (outcomes es s) xs h
    by_event (Begin u t) xs h = append-nil xs ∙ h
    by_event (Ask u n st) xs h = append-nil xs ∙ h
    by_event (Take u k m) xs h = append-nil xs ∙ h
    by_event (Put u k m) xs h = append-nil xs ∙ h
    by_event (Wait u k m b) xs h = append-nil xs ∙ h
    by_event (Answered u a) xs h = append-nil xs ∙ h

numbers_least : (n : ℕ) (past : Past) (t : ℕ) → t < begun_count past → n ≤ get_or (begun_numbers n past) t 0
numbers_least n [] t h = absurd (omega arith)
numbers_least n (true ∷ past) zero h = omega arith
numbers_least n (true ∷ past) (suc t) h = let i = numbers_least (suc n) past t (omega arith) in omega (arith, i)
numbers_least n (false ∷ past) t h = let i = numbers_least (suc n) past t h in omega (arith, i)

-- the outcome of one that was begun, among all of them
begun_at : (n : ℕ) (past : Past) (os : List Outcome) (t : ℕ) → begun_count past ≡ length os → t < length os → slice_get (all_ends past os) (get_or (begun_numbers n past) t 0 - n) ≡ slice_get os t
begun_at n [] os t h lt = absurd (omega arith)
begun_at n (true ∷ past) [] t h lt = absurd (omega arith)
begun_at n (true ∷ past) (o ∷ os) zero h lt = let e : n - n ≡ 0 = omega arith in ap (λ k. slice_get (o ∷ all_ends past os) k) e
begun_at n (true ∷ past) (o ∷ os) (suc t) h lt =
    let l = numbers_least (suc n) past t (omega arith) in
    let e : get_or (begun_numbers (suc n) past) t 0 - n ≡ suc (get_or (begun_numbers (suc n) past) t 0 - suc n) = omega (arith, l) in
    ap (λ k. slice_get (o ∷ all_ends past os) k) e ∙ begun_at (suc n) past os t (omega arith) (omega arith)
begun_at n (false ∷ past) os t h lt =
    let l = numbers_least (suc n) past t (omega arith) in
    let e : get_or (begun_numbers (suc n) past) t 0 - n ≡ suc (get_or (begun_numbers (suc n) past) t 0 - suc n) = omega (arith, l) in
    ap (λ k. slice_get (outcome.NoMemory ∷ all_ends past os) k) e ∙ begun_at (suc n) past os t h lt

outcome_pred : (v : RunShown) (s m : ℕ) → 1 ≤ m → outcome_in v s m ≡ slice_get (outcomes_in v s) (m - 1)
outcome_pred v s zero h = absurd (omega arith)
outcome_pred v s (suc k) h = let e : k ≡ suc k - 1 = omega arith in ap (λ n. slice_get (outcomes_in v s) n) e

get_map : (os : List Event) (t : ℕ) (e : Event) → slice_get os t ≡ Some e → slice_get (map event_outcome os) t ≡ Some (event_outcome e)
get_map [] t e h = absurd (cc)
get_map (o ∷ os) zero e h = let q : o ≡ e = cc in ap (λ (x : Event). Some (event_outcome x)) q
get_map (o ∷ os) (suc t) e h = get_map os t e h

-- the transaction of a commit committed there
pub committed_so : (script : Plan) (engine : Shown) (courses : List Course) (inside : IsInside script engine courses) (i : ℕ) (e : Entry) → slice_get engine.journal i ≡ Some e → IsSession e.session
    → outcome_in (run_of script engine courses) e.session (number_of (past_in (map past_at courses) e.session) e.transaction) ≡ Some (outcome.Committed (suc i))
committed_so script engine courses inside i e h is =
    let v : RunShown = run_of script engine courses in
    let past = past_in (map past_at courses) e.session in
    let t = e.transaction - 1 in
    let ended = ended_so script engine courses inside i e h in
    let labels = ap (λ (ls : List Label). ends e.session ls) inside.run.run.shows.labels in
    let below : t < length (ends e.session engine.labels) =
    (let a = below_some (outcomes inside.run.events e.session) t (Commit e.session (suc i)) ended in let b = length_ends inside.run.events e.session in let c = ap (λ (os : List Outcome). length os) labels in omega (arith, a, b, c)) in
    let count = inside.run.over e.session is in
    let low = numbers_least 1 past t (omega (arith, below, count)) in
    outcome_pred v e.session (number_of past e.transaction) low
    ∙ (begun_at 1 past (ends e.session engine.labels) t count below
    ∙ (ap (λ (os : List Outcome). slice_get os t) (labels ∙ ends_are inside.run.events e.session) ∙ get_map (outcomes inside.run.events e.session) t (Commit e.session (suc i)) ended))

pub next_of_pred : (n : ℕ) → (n ≡ 0 → ⊥) → suc (n - 1) ≡ n
next_of_pred zero some = absurd (some refl)
next_of_pred (suc k) some = omega arith
