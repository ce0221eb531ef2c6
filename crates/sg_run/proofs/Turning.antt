-- What turns leave of the fields of a run.
use Rattle.std.proofs.Common.{◌≡◌, ◌≢◌, ◌⊎◌, ℕ, zero, suc, ◌+◌, ◌<◌, ◌≤◌, true, false, List, [], ◌∷◌, ◌++◌, length, take, get_or, set, Some, refl, sym, ap, ◌∙◌, subst, inl, inr, arith}
use Rattle.std.specs.Prelude.{map, is_some, drop}
use Rattle.std.proofs.Math.Seq.{drop-append_seam, take-append_seam}
use Rattle.std.proofs.lemmas.List.{length-append, length-set, get_or-set_same, get_or-set_other}
use Rattle.std.proofs.lemmas.Bool.{cases_eq}
use Rattle.sg_modes.specs.Sessions.{IsSession}
use Rattle.sg_plain.specs.Transactions.{TransactionPlan}
use Rattle.sg_script.specs.Plans.{Plan, sessions_of, transaction_at}
use Rattle.sg_trace.specs.declared.labels.Label.{Label}
use Rattle.sg_trace.specs.declared.labels.Cause.TheVariants.{NoMemory}
use Rattle.sg_trace.specs.Traces.{Stage, Event, Rollback, labels_of, session_of, state}
use Rattle.sg_trace.specs.Legal.{IsStage, IsLegal, IsSettled}
use Rattle.sg_trace.specs.Scripts.{Follows, transactions_of, is_plain}
use Rattle.sg_trace.specs.Measure.{one, IsWithout}
use Rattle.sg_measure.specs.Claims.{UnbegunOnesLower}
use Rattle.sg_engine.specs.Shown.{Shown, Seated, seat_in, seated, IsRunOf, Appends, is_live_in}
use Rattle.sg_engine.specs.Steps.{IsSameRun}
use Rattle.sg_engine.specs.Waiting.{Victims, victims_of}
use Rattle.sg_run.specs.declared.courses.Course.{Course}
use Rattle.sg_run.specs.Ends.{Past, ends, begun_count}
use Rattle.sg_run.specs.Courses.{past_at, no_course, course_in, left, with_ends, HasRoomFor}
use Rattle.sg_run.specs.Runs.{RunShown, past_in, begun_script, at_hand, IsStageOf, Due}
use Rattle.sg_run.specs.Inside.{run_of, IsCourse, IsInside}
use Rattle.sg_run.specs.Turns.{GoesBy, HasGoneOn, HasLeft}
use Rattle.sg_run.proofs.Pasts.{count_left}
use Rattle.sg_run.proofs.Begun.{at_is, script_without}
use Rattle.sg_run.proofs.Kept.{past_left, course_left}
use Rattle.sg_run.proofs.Goes.{live_is, begun_is, past_in_map, length_pasts, length_past, labels_append, follows_victims, room_then, past_then, inside_then}
use Rattle.sg_run.proofs.Dues.{below_some}

-- ---- what is kept of one session
default_free : (courses : List Course) (i : ℕ) (d e : Course) → i < length courses → get_or courses i d ≡ get_or courses i e
default_free [] i d e h = absurd (omega arith)
default_free (c ∷ courses) zero d e h = refl
default_free (c ∷ courses) (suc i) d e h = default_free courses i d e (omega arith)

pub course_is : (courses : List Course) (s i : ℕ) (x : Course) → i + 1 ≡ s → i < length courses → x ≡ get_or courses i x → course_in courses s ≡ x
course_is courses zero i x e lt is = absurd (omega arith)
course_is courses (suc n) i x e lt is =
    let at : n ≡ i = omega arith in
    ap (λ m. get_or courses m no_course) at ∙ (default_free courses i no_course x lt ∙ sym is)

pub within_kept : (script : Plan) (engine : Shown) (courses : List Course) → IsInside script engine courses → (i : ℕ) → i < 64 → i < length courses
within_kept script engine courses inside i h = let a = length_pasts courses in let b = inside.run.sessions in omega (arith, a, b, h)

-- the same where one of them was changed
pub size_set : (courses : List Course) (i : ℕ) (x : Course) → length courses ≡ 64 → length (set courses i x) ≡ 64
size_set courses i x h = length-set courses i x ∙ h

pub size_kept_of : (script : Plan) (engine : Shown) (courses : List Course) → IsInside script engine courses → length courses ≡ 64
size_kept_of script engine courses inside = sym (length_pasts courses) ∙ inside.run.sessions

pub course_set : (courses : List Course) (s i : ℕ) (x : Course) → i + 1 ≡ s → i < length courses → course_in (set courses i x) s ≡ x
course_set courses zero i x e lt = absurd (omega arith)
course_set courses (suc n) i x e lt =
    let at : n ≡ i = omega arith in
    ap (λ m. get_or (set courses i x) m no_course) at ∙ get_or-set_same courses i x no_course lt

pub course_other : (courses : List Course) (s i : ℕ) (x : Course) → i + 1 ≡ s → (u : ℕ) → u ≢ s → course_in (set courses i x) u ≡ course_in courses u
course_other courses s i x e zero ne = refl
course_other courses s i x e (suc n) ne = get_or-set_other courses i n x no_course (λ q. ne (omega (arith, e, q)))

-- the transaction that comes next, by how many are kept
pub hand_of : (script : Plan) (engine : Shown) (courses : List Course) (s : ℕ) (x : Course) (n : ℕ) → course_in courses s ≡ x → n ≡ length x.over.items → at_hand (run_of script engine courses) s ≡ transaction_at script.sessions s n
hand_of script engine courses s x n is e =
    let size : length (past_in (map past_at courses) s) ≡ n = ap (λ (past : Past). length past) (past_in_map courses s) ∙ (ap (λ (c : Course). length (past_at c)) is ∙ (length_past x ∙ sym e)) in
    ap (λ m. transaction_at script.sessions s m) size

-- ---- a run of which only jobs have changed
pub runs_same : (old new : Shown) → IsSameRun old new → (es : List Event) → IsRunOf es old → IsRunOf es new
runs_same old new h es r = record {
  shows = record {
    labels = h.labels ∙ r.shows.labels;
    journal = h.journal ∙ (r.shows.journal ∙ ap (λ (w : Stage). Rattle.sg_trace.specs.Legal.journal w es) (sym h.stage));
    seats = λ s is. ap (λ (seats : List Seated). seat_in seats s) h.seats ∙ (r.shows.seats s is ∙ ap (λ (w : Stage). seated ((state w es).of s)) (sym h.stage));
  };
  legal = subst (λ (w : Stage). IsLegal w es) (sym h.stage) r.legal;
  settled = r.settled;
}

pub inside_same : (script : Plan) (engine engine' : Shown) (courses : List Course) → IsSameRun engine engine' → IsInside script engine courses → IsInside script engine' courses
inside_same script engine engine' courses h i = record {
  run = record {
    events = i.run.events;
    staged = subst IsStage (sym h.stage) i.run.staged;
    stage = subst (IsStageOf script) (sym h.stage) i.run.stage;
    run = runs_same engine engine' h i.run.events i.run.run;
    follows = subst (λ (w : Stage). Follows (begun_script (run_of script engine courses)) w i.run.events) (sym h.stage) i.run.follows;
    sessions = i.run.sessions;
    over = λ s is. i.run.over s is ∙ ap (λ (ls : List Label). length (ends s ls)) (sym h.labels);
    within = λ s is. subst (λ (seats : List Seated). length (past_in (map past_at courses) s) + one (is_some (seat_in seats s).running) ≤ length (transactions_of (sessions_of script) s)) (sym h.seats) (i.run.within s is);
  };
  courses_are = λ s is. subst (λ (ls : List Label). IsCourse (transactions_of (sessions_of script) s) (ends s ls) (course_in courses s)) (sym h.labels) (i.courses_are s is);
}

-- ---- an event, with the victims that it brought
module _ (script : Plan) (engine engine' : Shown) (courses : List Course) (inside : IsInside script engine courses) (e : Event) (victims : Victims)
    (run : Appends (victims_of victims ++ e ∷ []) engine engine') (due : Due (run_of script engine courses) e) where
  abbrev more : List Event
  more = victims_of victims ++ e ∷ []

  abbrev follows : Follows (begun_script (run_of script engine courses)) engine.stage (more ++ inside.run.events)
  follows = follows_victims (begun_script (run_of script engine courses)) engine.stage victims e inside.run.events inside.run.follows (due inside.run.events inside.run.run)

  -- the labels that came behind the old ones
  pub labels_from : (from : ℕ) → from ≡ length engine.labels → drop from engine'.labels ≡ labels_of more
  labels_from from e =
      let then = run.runs inside.run.events inside.run.run in
      let all : engine'.labels ≡ engine.labels ++ labels_of more = then.shows.labels ∙ (labels_append more inside.run.events ∙ ap (λ (ls : List Label). ls ++ labels_of more) (sym inside.run.run.shows.labels)) in
      ap (λ n. drop n engine'.labels) e ∙ (ap (λ (ls : List Label). drop (length engine.labels) ls) all ∙ drop-append_seam engine.labels (labels_of more))

  pub room_from : (from : ℕ) → from ≡ length engine.labels → (s : ℕ) → IsSession s → HasRoomFor (ends s (drop from engine'.labels)) (course_in courses s)
  room_from from q s is = subst (λ (ls : List Label). HasRoomFor (ends s ls) (course_in courses s)) (sym (labels_from from q)) (room_then script engine engine' courses inside more run follows s is)

  -- The labels were noted: they stood from this place on in the trace, beside what was kept, whose place the new list took.
  module _ (kept : List Course) (kept_is : kept ≡ courses) (old_labels labels : List Label) (old_is : old_labels ≡ engine.labels) (labels_are : labels ≡ engine'.labels) (from : ℕ) (from_is : from ≡ length old_labels) where
    is_from : from ≡ length engine.labels
    is_from = from_is ∙ ap (λ (ls : List Label). length ls) old_is

    size_kept : length kept ≡ 64
    size_kept = ap (λ (cs : List Course). length cs) kept_is ∙ (sym (length_pasts courses) ∙ inside.run.sessions)

    place_kept : from ≤ length labels
    place_kept =
        let then = run.runs inside.run.events inside.run.run in
        let all : engine'.labels ≡ engine.labels ++ labels_of more = then.shows.labels ∙ (labels_append more inside.run.events ∙ ap (λ (ls : List Label). ls ++ labels_of more) (sym inside.run.run.shows.labels)) in
        let a = ap (λ (ls : List Label). length ls) labels_are in
        let b = ap (λ (ls : List Label). length ls) all in
        let l = length-append engine.labels (labels_of more) in
        let f = is_from in
        omega (arith, a, b, l, f)

    room_kept : (u : ℕ) → IsSession u → HasRoomFor (ends u (drop from labels)) (course_in kept u)
    room_kept u is =
        subst (λ (cs : List Course). HasRoomFor (ends u (drop from labels)) (course_in cs u)) (sym kept_is)
        (subst (λ (ls : List Label). HasRoomFor (ends u (drop from ls)) (course_in courses u)) (sym labels_are) (room_from from is_from u is))

    -- what `note` requires
    pub record CanNote : Type 0 where
      pub length_is : length kept ≡ 64
      pub place : from ≤ length labels
      pub room : (u : ℕ) → IsSession u → HasRoomFor (ends u (drop from labels)) (course_in kept u)

    pub can_note : CanNote
    can_note = record { length_is = size_kept; place = place_kept; room = room_kept }

    module _ (noted : List Course) (same_size : length noted ≡ length kept) (each : (u : ℕ) → IsSession u → course_in noted u ≡ with_ends (ends u (drop from labels)) (course_in kept u))
        (n : ℕ) (n_is : length kept ≡ n) (rest : List Course) where
      each_more : (u : ℕ) → IsSession u → course_in noted u ≡ with_ends (ends u (labels_of more)) (course_in courses u)
      each_more u is =
          each u is
          ∙ (ap (λ (cs : List Course). with_ends (ends u (drop from labels)) (course_in cs u)) kept_is
          ∙ (ap (λ (ls : List Label). with_ends (ends u (drop from ls)) (course_in courses u)) labels_are
          ∙ ap (λ (ls : List Label). with_ends (ends u ls) (course_in courses u)) (labels_from from is_from)))

      size : length noted ≡ 64
      size = same_size ∙ size_kept

      written : take n (noted ++ rest) ≡ noted
      written = let e : n ≡ length noted = sym n_is ∙ sym same_size in ap (λ m. take m (noted ++ rest)) e ∙ take-append_seam noted rest

      inside_noted : IsInside script engine' noted
      inside_noted = inside_then script engine engine' courses inside more run follows noted size each_more

      pub inside_by : IsInside script engine' (take n (noted ++ rest))
      inside_by = subst (λ (cs : List Course). IsInside script engine' cs) (sym written) inside_noted

      pub goes_by : (s : ℕ) → session_of e ≡ s → (is_plain e ≡ true) ⊎ (e ≡ Rollback s NoMemory) → GoesBy s e victims (run_of script engine courses) (run_of script engine' (take n (noted ++ rest)))
      goes_by s own kind = subst (λ (cs : List Course). GoesBy s e victims (run_of script engine courses) (run_of script engine' cs)) (sym written) (record {
        own = own;
        kind = kind;
        due = due;
        run = run;
        script = refl;
        past = past_then script engine engine' courses inside more run follows noted size each_more;
      })

-- ---- a transaction that is left unbegun
module _ (script : Plan) (engine : Shown) (courses : List Course) (inside : IsInside script engine courses) (unbegun : UnbegunOnesLower) (s : ℕ) (is : IsSession s)
    (idle : is_live_in engine s ≡ false) (t : TransactionPlan) (hand : at_hand (run_of script engine courses) s ≡ Some t) where
  abbrev v : RunShown
  v = run_of script engine courses

  abbrev ts : ℕ → List TransactionPlan
  ts u = transactions_of (sessions_of script) u

  below : length (past_in v.past s) < length (ts s)
  below = below_some (ts s) (length (past_in v.past s)) t (sym (at_is script.sessions s (length (past_in v.past s))) ∙ hand)

  pub left_room : 1 ≤ (course_in courses s).over.spare
  left_room =
      let c = inside.courses_are s is in
      let r = c.over_room in
      let l = length_past (course_in courses s) in
      let p = ap (λ (past : Past). length past) (past_in_map courses s) in
      let b = below in
      omega (arith, r, l, p, b)

  module _ (courses' : List Course) (size : length courses' ≡ 64) (own : course_in courses' s ≡ left (course_in courses s)) (others : (u : ℕ) → IsSession u → u ≢ s → course_in courses' u ≡ course_in courses u) where
    abbrev v' : RunShown
    v' = run_of script engine courses'

    own_past : past_in v'.past s ≡ past_in v.past s ++ false ∷ []
    own_past = past_in_map courses' s ∙ (ap past_at own ∙ (past_left (course_in courses s) ∙ ap (λ (past : Past). past ++ false ∷ []) (sym (past_in_map courses s))))

    other_pasts : (u : ℕ) → IsSession u → u ≢ s → past_in v'.past u ≡ past_in v.past u
    other_pasts u session ne = past_in_map courses' u ∙ (ap past_at (others u session ne) ∙ sym (past_in_map courses u))

    without : IsWithout (begun_script v) s (begun_count (past_in v.past s)) (begun_script v')
    without = script_without v.past v'.past (sessions_of script) inside.run.sessions (length_pasts courses' ∙ size) s below own_past other_pasts

    begun : ((state engine.stage inside.run.events).of s).begun ≡ begun_count (past_in v.past s)
    begun =
        let b = begun_is v inside.run inside.run.events inside.run.run s is in
        let l = ap one (sym (live_is engine inside.run.events inside.run.run s is) ∙ idle) in
        omega (arith, b, l)

    pub inside_left : IsInside script engine courses'
    inside_left = record {
      run = record {
        events = inside.run.events;
        staged = inside.run.staged;
        stage = inside.run.stage;
        run = inside.run.run;
        follows = (unbegun (begun_script v) (begun_script v') [] engine.stage inside.run.events s is inside.run.run.legal inside.run.follows (subst (λ n. IsWithout (begun_script v) s n (begun_script v')) (sym begun) without)).follows;
        sessions = length_pasts courses' ∙ size;
        over = λ u session. elim (cases_eq u s) [
          | inl q ↦
              let a = ap (λ (past : Past). begun_count past) own_past in
              let b = count_left (past_in v.past s) in
              subst (λ n. begun_count (past_in v'.past n) ≡ length (ends n engine.labels)) (sym q) (a ∙ (b ∙ inside.run.over s is))
          | inr ne ↦ ap (λ (past : Past). begun_count past) (other_pasts u session ne) ∙ inside.run.over u session
        ];
        within = λ u session. elim (cases_eq u s) [
          | inl q ↦
              let a = ap (λ (past : Past). length past) own_past in
              let b = length-append (past_in v.past s) (false ∷ []) in
              let l = ap one idle in
              let c = below in
              subst (λ n. length (past_in v'.past n) + one (is_live_in engine n) ≤ length (ts n)) (sym q) (omega (arith, a, b, l, c))
          | inr ne ↦ subst (λ (past : Past). length past + one (is_live_in engine u) ≤ length (ts u)) (sym (other_pasts u session ne)) (inside.run.within u session)
        ];
      };
      courses_are = λ u session. elim (cases_eq u s) [
        | inl q ↦ subst (λ n. IsCourse (ts n) (ends n engine.labels) (course_in courses' n)) (sym q)
            (subst (λ (c : Course). IsCourse (ts s) (ends s engine.labels) c) (sym own)
            (course_left (ts s) (ends s engine.labels) (course_in courses s) (inside.courses_are s is) (ap (λ (past : Past). begun_count past) (sym (past_in_map courses s)) ∙ inside.run.over s is) left_room))
        | inr ne ↦ subst (λ (c : Course). IsCourse (ts u) (ends u engine.labels) c) (sym (others u session ne)) (inside.courses_are u session)
      ];
    }

    pub has_left : HasLeft s v v'
    has_left = record { idle = idle; engine = refl; script = refl; own = own_past; others = other_pasts }

-- ---- from what was to what is
pub gone : (s : ℕ) (e : Event) (victims : Victims) (old old' new new' : RunShown) → old ≡ old' → new' ≡ new → GoesBy s e victims old new → HasGoneOn s old' new'
gone s e victims old old' new new' p q h = record { event = e; victims = victims; goes = subst (λ (x : RunShown). GoesBy s e victims x new') p (subst (λ (x : RunShown). GoesBy s e victims old x) (sym q) h) }
