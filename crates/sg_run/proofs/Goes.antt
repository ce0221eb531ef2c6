-- A run that goes on: what each session has come past is what the labels tell, and no session comes past its last transaction.
use Rattle.std.proofs.Common.{◌≡◌, ℕ, zero, suc, ◌+◌, ◌≤◌, Bool, true, false, cond, ◌&&◌, List, [], ◌∷◌, ◌++◌, length, eqb, Option, Some, None, refl, sym, ap, ◌∙◌, subst, arith, append_assoc, append-nil}
use Rattle.std.specs.Prelude.{map, slice_index_or, is_some}
use Rattle.std.proofs.lemmas.List.{length-append}
use Rattle.std.proofs.lemmas.Grind.{flat_map-append}
use Rattle.sg_modes.specs.Sessions.{IsSession}
use Rattle.sg_plain.specs.declared.statements.Statement.{Statement}
use Rattle.sg_plain.specs.declared.statements.Answer.{Answer}
use Rattle.sg_plain.specs.Transactions.{TransactionPlan}
use Rattle.sg_script.specs.Plans.{Plan, sessions_of}
use Rattle.sg_trace.specs.declared.labels.Label.{Label}
use Rattle.sg_trace.specs.Traces.{Local, State, Stage, Event, Begin, Ask, Take, Put, Wait, Victim, Answered, Commit, Rollback, label_of, labels_of, session_of, state, after, answered}
use Rattle.sg_trace.specs.Legal.{IsStage, IsLegal}
use Rattle.sg_trace.specs.Scripts.{Script, IsDue, Follows, transactions_of}
use Rattle.sg_trace.specs.Measure.{one}
use Rattle.sg_turns.specs.Outcomes.{is_end, outcomes}
use Rattle.sg_turns.proofs.Outcomes.{end_once}
use Rattle.sg_laws.proofs.Clash.{each_with}
use Rattle.sg_measure.proofs.Falls.{item_below}
use Rattle.sg_engine.specs.Shown.{Shown, Seated, running_of, seated, IsRunOf, Appends, is_live_in}
use Rattle.sg_engine.specs.Waiting.{Victims, victims_of}
use Rattle.sg_run.specs.declared.outcomes.Outcome.{Outcome}
use Rattle.sg_run.specs.declared.outcomes.Outcome.TheVariants as outcome
use Rattle.sg_run.specs.declared.outcomes.Over.{Over}
use Rattle.sg_run.specs.declared.courses.Course.{Course}
use Rattle.sg_run.specs.Ends.{Past, outcome_by, end_by, ends, begun_count, all_begun}
use Rattle.sg_run.specs.Courses.{is_begun, past_at, no_course, course_in, with_ends, HasRoomFor}
use Rattle.sg_run.specs.Runs.{RunShown, past_in, begun_script, IsStageOf, IsRun}
use Rattle.sg_run.specs.Inside.{run_of, IsCourse, IsInside}
use Rattle.sg_run.proofs.Pasts.{ones_length, count_more, length_more}
use Rattle.sg_run.proofs.Begun.{of_begun, script_more}
use Rattle.sg_run.proofs.Kept.{past_with, course_with}

-- ---- ends by labels
pub ends_last : (s : ℕ) (ls : List Label) (l : Label) → ends s (ls ++ l ∷ []) ≡ ends s ls ++ end_by s l
ends_last s ls l = flat_map-append (end_by s) ls (l ∷ []) ∙ ap (λ (xs : List Outcome). ends s ls ++ xs) (append-nil (end_by s l))

pub ends_append : (s : ℕ) (ls ms : List Label) → ends s (ls ++ ms) ≡ ends s ls ++ ends s ms
ends_append s ls ms = flat_map-append (end_by s) ls ms

pub labels_append : (more es : List Event) → labels_of (more ++ es) ≡ labels_of es ++ labels_of more
labels_append [] es = sym (append-nil (labels_of es))
labels_append (e ∷ more) es = ap (λ (ls : List Label). ls ++ label_of e ∷ []) (labels_append more es) ∙ append_assoc (labels_of es) (labels_of more) (label_of e ∷ [])

by_test : (o : Outcome) (b : Bool) → length (cond b (o ∷ []) []) ≡ one (true && b)
by_test o true = refl
by_test o false = refl

one_end : (e : Event) (s : ℕ) → length (end_by s (label_of e)) ≡ one (is_end e && eqb (session_of e) s)
one_end (Victim u c) s = by_test (outcome.Victim c) (eqb u s)
one_end (Commit u p) s = by_test (outcome.Committed p) (eqb u s)
one_end (Rollback u c) s = by_test (outcome_by c) (eqb u s)
one_end (Begin u t) s = refl
one_end (Ask u n st) s = refl
one_end (Take u k m) s = refl
one_end (Put u k m) s = refl
one_end (Wait u k m b) s = refl
one_end (Answered u a) s = refl

pub length_ends : (es : List Event) (s : ℕ) → length (ends s (labels_of es)) ≡ length (outcomes es s)
length_ends [] s = refl
length_ends (e ∷ es) s =
    let a = ap (λ (xs : List Outcome). length xs) (ends_last s (labels_of es) (label_of e)) in
    let b = length-append (ends s (labels_of es)) (end_by s (label_of e)) in
    let c = one_end e s in
    let d = grown (is_end e && eqb (session_of e) s) (outcomes es s) e in
    let i = length_ends es s in
    omega arith
  where
    grown : (b : Bool) (os : List Event) (e : Event) → length (cond b (os ++ e ∷ []) os) ≡ length os + one b
    grown true os e = length-append os (e ∷ [])
    grown false os e = omega arith

-- ---- how many transactions a session began
pub begun_are : (w : Stage) (es : List Event) → IsLegal w es → (s : ℕ) → length (ends s (labels_of es)) + one ((state w es).of s).live ≡ ((state w es).of s).begun
begun_are w es l s = let a = length_ends es s in let b = end_once w es l s in omega arith

answered_begun : (x : Local) (o : Option Statement) (a : Answer) → (answered x o a).begun ≡ x.begun
answered_begun x None a = refl
answered_begun x (Some st) a = refl

begun_fits : (ps : Script) (w : Stage) (es : List Event) → Follows ps w es → (s : ℕ) → ((state w es).of s).begun ≤ length (transactions_of ps s)
begun_fits ps w [] f s = omega arith
begun_fits ps w (e ∷ es) f s =
    each_with (λ u x. x.begun ≤ length (transactions_of ps u)) (state w es).of (session_of e) (after e ((state w es).of (session_of e))) (λ u ne. begun_fits ps w es f.0 u) (own e f.1 (begun_fits ps w es f.0 (session_of e))) s
  where
    z : State
    z = state w es

    own : (e : Event) → IsDue ps z e → (z.of (session_of e)).begun ≤ length (transactions_of ps (session_of e)) → (after e (z.of (session_of e))).begun ≤ length (transactions_of ps (session_of e))
    own (Begin u t) d h = let b = item_below (transactions_of ps u) (z.of u).begun d.0 d.1 in omega arith
    own (Ask u n st) d h = h
    own (Take u k m) d h = h
    own (Put u k m) d h = h
    own (Wait u k m b) d h = h
    own (Victim u c) d h = h
    own (Answered u a) d h = let e = answered_begun (z.of u) (z.of u).open_one a in omega arith
    own (Commit u p) d h = h
    own (Rollback u c) d h = h

-- ---- what is shown of sessions
live_seated : (x : Local) → is_some (seated x).running ≡ x.live
live_seated x = by_test x.live
  where
    by_test : (b : Bool) → is_some (cond b (Some (running_of x)) None) ≡ b
    by_test true = refl
    by_test false = refl

pub live_is : (v : Shown) (es : List Event) → IsRunOf es v → (s : ℕ) → IsSession s → is_live_in v s ≡ ((state v.stage es).of s).live
live_is v es r s is = ap (λ (x : Seated). is_some x.running) (r.shows.seats s is) ∙ live_seated ((state v.stage es).of s)

-- ---- lists of what is kept
pub past_in_map : (courses : List Course) (s : ℕ) → past_in (map past_at courses) s ≡ past_at (course_in courses s)
past_in_map courses zero = refl
past_in_map courses (suc i) = go courses i
  where
    go : (courses : List Course) (i : ℕ) → slice_index_or (map past_at courses) i [] ≡ past_at (slice_index_or courses i no_course)
    go [] i = refl
    go (c ∷ courses) zero = refl
    go (c ∷ courses) (suc i) = go courses i

pub length_pasts : (courses : List Course) → length (map past_at courses) ≡ length courses
length_pasts [] = refl
length_pasts (c ∷ courses) = ap suc (length_pasts courses)

pub length_past : (c : Course) → length (past_at c) ≡ length c.over.items
length_past c = go c.over.items
  where
    go : (os : List Over) → length (map is_begun os) ≡ length os
    go [] = refl
    go (o ∷ os) = ap suc (go os)

-- ---- events on top
pub follows_victims : (ps : Script) (w : Stage) (victims : Victims) (e : Event) (es : List Event) → Follows ps w es → IsDue ps (state w es) e → Follows ps w ((victims_of victims ++ e ∷ []) ++ es)
follows_victims ps w [] e es f d = (f, d)
follows_victims ps w (v ∷ victims) e es f d = (follows_victims ps w victims e es f d, tt)

module _ (v : RunShown) (r : IsRun v) where
  -- of each run of what is shown
  pub begun_is : (es : List Event) → IsRunOf es v.engine → (s : ℕ) → IsSession s → begun_count (past_in v.past s) + one ((state v.engine.stage es).of s).live ≡ ((state v.engine.stage es).of s).begun
  begun_is es run s is =
      let a = r.over s is in
      let b = ap (λ (ls : List Label). length (ends s ls)) run.shows.labels in
      let c = begun_are v.engine.stage es run.legal s in
      omega arith

-- the run goes on by these events, which the script has next
module _ (script : Plan) (engine engine' : Shown) (courses : List Course) (inside : IsInside script engine courses) (more : List Event) (run : Appends more engine engine')
    (follows : Follows (begun_script (run_of script engine courses)) engine.stage (more ++ inside.run.events)) where
  abbrev v : RunShown
  v = run_of script engine courses

  abbrev es : List Event
  es = inside.run.events

  abbrev ts : ℕ → List TransactionPlan
  ts s = transactions_of (sessions_of script) s

  abbrev more_ends : ℕ → List Outcome
  more_ends s = ends s (labels_of more)

  abbrev then_run : IsRunOf (more ++ es) engine'
  then_run = run.runs es inside.run.run

  labels_then : engine'.labels ≡ engine.labels ++ labels_of more
  labels_then = then_run.shows.labels ∙ (labels_append more es ∙ ap (λ (ls : List Label). ls ++ labels_of more) (sym inside.run.run.shows.labels))

  within_then : (s : ℕ) → IsSession s → length (past_in v.past s) + length (more_ends s) + one (is_live_in engine' s) ≤ length (ts s)
  within_then s is =
      let w = engine.stage in
      let legal : IsLegal w (more ++ es) = subst (λ (g : Stage). IsLegal g (more ++ es)) run.stage then_run.legal in
      let live = live_is engine' (more ++ es) then_run s is in
      let at = ap (λ (g : Stage). one ((state g (more ++ es)).of s).live) run.stage in
      let a = begun_are w (more ++ es) legal s in
      let b = begun_fits (begun_script v) w (more ++ es) follows s in
      let c = ap (λ (ls : List Label). length (ends s ls)) (labels_append more es) in
      let d = ap (λ (xs : List Outcome). length xs) (ends_append s (labels_of es) (labels_of more)) in
      let e = length-append (ends s (labels_of es)) (more_ends s) in
      let f = inside.run.over s is in
      let g = ap (λ (ls : List Label). length (ends s ls)) inside.run.run.shows.labels in
      let h = ap (λ (xs : List TransactionPlan). length xs) (of_begun v.past (sessions_of script) s) in
      let within = inside.run.within s is in
      let i = ones_length (past_in v.past s) (ts s) (omega (arith, within)) in
      let j = ap one live in
      omega (arith, at, a, b, c, d, e, f, g, h, i, j)

  pub room_then : (s : ℕ) → IsSession s → HasRoomFor (more_ends s) (course_in courses s)
  room_then s is =
      let c = inside.courses_are s is in
      let a = within_then s is in
      let b = ap (λ (past : Past). length past) (past_in_map courses s) in
      let l = length_past (course_in courses s) in
      let over = c.over_room in
      let numbers = c.number_room in
      record { over = omega (arith, a, b, l, over); numbers = omega (arith, a, b, l, numbers) }

  module _ (courses' : List Course) (size : length courses' ≡ 64) (each : (s : ℕ) → IsSession s → course_in courses' s ≡ with_ends (more_ends s) (course_in courses s)) where
    abbrev v' : RunShown
    v' = run_of script engine' courses'

    pub past_then : (s : ℕ) → IsSession s → past_in v'.past s ≡ past_in v.past s ++ all_begun (more_ends s)
    past_then s is =
        past_in_map courses' s
        ∙ (ap past_at (each s is) ∙ (past_with (more_ends s) (course_in courses s) ∙ ap (λ (past : Past). past ++ all_begun (more_ends s)) (sym (past_in_map courses s))))

    pub script_then : begun_script v' ≡ begun_script v
    script_then = script_more v.past v'.past (sessions_of script) inside.run.sessions (length_pasts courses' ∙ size) more_ends past_then

    run_then : IsRun v'
    run_then = record {
      events = more ++ es;
      staged = subst IsStage (sym run.stage) inside.run.staged;
      stage = subst (IsStageOf script) (sym run.stage) inside.run.stage;
      run = then_run;
      follows = subst (λ (ps : Script). Follows ps engine'.stage (more ++ es)) (sym script_then) (subst (λ (w : Stage). Follows (begun_script v) w (more ++ es)) (sym run.stage) follows);
      sessions = length_pasts courses' ∙ size;
      over = λ s is.
          let a = ap (λ (past : Past). begun_count past) (past_then s is) in
          let b = count_more (past_in v.past s) (more_ends s) in
          let c = inside.run.over s is in
          let d = ap (λ (ls : List Label). length (ends s ls)) labels_then in
          let e = ap (λ (xs : List Outcome). length xs) (ends_append s engine.labels (labels_of more)) in
          let f = length-append (ends s engine.labels) (more_ends s) in
          omega (arith, a, b, c, d, e, f);
      within = λ s is.
          let a = ap (λ (past : Past). length past) (past_then s is) in
          let b = length_more (past_in v.past s) (more_ends s) in
          let c = within_then s is in
          omega (arith, a, b, c);
    }

    pub inside_then : IsInside script engine' courses'
    inside_then = record {
      run = run_then;
      courses_are = λ s is.
          let count : begun_count (past_at (course_in courses s)) ≡ length (ends s engine.labels) = ap (λ (past : Past). begun_count past) (sym (past_in_map courses s)) ∙ inside.run.over s is in
          let kept = course_with (ts s) (ends s engine.labels) (more_ends s) (course_in courses s) (inside.courses_are s is) count (room_then s is) in
          let ends_are : ends s engine'.labels ≡ ends s engine.labels ++ more_ends s = ap (λ (ls : List Label). ends s ls) labels_then ∙ ends_append s engine.labels (labels_of more) in
          subst (λ (c : Course). IsCourse (ts s) (ends s engine'.labels) c) (sym (each s is)) (subst (λ (os : List Outcome). IsCourse (ts s) os (with_ends (more_ends s) (course_in courses s))) (sym ends_are) kept);
    }
