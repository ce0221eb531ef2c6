-- A table goes on by each call of its engine.
use Rattle.std.proofs.Common.{◌≡◌, inl, inr, ℕ, true, false, List, [], ◌∷◌, ◌++◌, Option, None, Some, Ok, Err, refl, sym, ap, ◌∙◌}
use Rattle.std.specs.Prelude.{is_some, OnErr, OnOk}
use Rattle.std.specs.declared.result.Result.{Result}
use Rattle.sg_plain.specs.Serial.{Entry}
use Rattle.sg_trace.specs.Traces.{Stage, Event, Begin, Ask, Take, Put, Wait, Victim, Answered, Commit, Rollback}
use Rattle.sg_trace.specs.Legal.{journal}
use Rattle.sg_engine.specs.declared.steps.Step.{Step}
use Rattle.sg_engine.specs.declared.steps.Step.TheVariants as step
use Rattle.sg_engine.specs.Shown.{Shown, Running, Appends, HasNoneOpen, IsBetween, IsIdle, open_of, is_live_in, is_open_in, seat_in}
use Rattle.sg_engine.specs.Steps.{IsSameRun}
use Rattle.sg_engine.specs.Stepping.{HasStepped}
use Rattle.sg_fronts.specs.Journals.{BeginsWith}
use Rattle.sg_replica.specs.Values.{PublisherValue}
use Rattle.sg_replica.specs.Queues.{journal_of}
use Rattle.replica_rows.specs.Courses.{IsCourse, GoesOn, IsTied}

append_assoc : (xs ys zs : List Entry) → (xs ++ ys) ++ zs ≡ xs ++ (ys ++ zs)
append_assoc [] ys zs = refl
append_assoc (x ∷ xs) ys zs = ap (λ t. x ∷ t) (append_assoc xs ys zs)

append_none : (xs : List Entry) → xs ++ [] ≡ xs
append_none [] = refl
append_none (x ∷ xs) = ap (λ t. x ∷ t) (append_none xs)

begins_itself : (xs : List Entry) → BeginsWith xs xs
begins_itself xs = ([], sym (append_none xs))

begins_more : (xs ys zs : List Entry) → BeginsWith ys xs → BeginsWith zs ys → BeginsWith zs xs
begins_more xs ys zs p q = (p.0 ++ q.0, q.1 ∙ ap (λ t. t ++ q.0) p.1 ∙ append_assoc xs p.0 q.0)

-- a journal only grows
journal_grows : (w : Stage) (fs es : List Event) → BeginsWith (journal w (fs ++ es)) (journal w es)
journal_grows w [] es = begins_itself (journal w es)
journal_grows w (Commit s p ∷ fs) es = begins_more (journal w es) (journal w (fs ++ es)) (journal w (Commit s p ∷ fs ++ es)) (journal_grows w fs es) (_, refl)
journal_grows w (Begin u t ∷ fs) es = journal_grows w fs es
journal_grows w (Ask u n st ∷ fs) es = journal_grows w fs es
journal_grows w (Take u k m ∷ fs) es = journal_grows w fs es
journal_grows w (Put u k m ∷ fs) es = journal_grows w fs es
journal_grows w (Wait u k m b ∷ fs) es = journal_grows w fs es
journal_grows w (Victim u c ∷ fs) es = journal_grows w fs es
journal_grows w (Answered u a ∷ fs) es = journal_grows w fs es
journal_grows w (Rollback u c ∷ fs) es = journal_grows w fs es

pub stays : (v : Shown) → GoesOn v v
stays v = record { stage = refl; grows = λ course. record { course = course; journal = begins_itself v.journal } }

pub then : (u v w : Shown) → GoesOn u v → GoesOn v w → GoesOn u w
then u v w p q = record {
  stage = q.stage ∙ p.stage;
  grows = λ course.
      let first = p.grows course in
      let second = q.grows first.course in
      record { course = second.course; journal = begins_more u.journal v.journal w.journal first.journal second.journal };
}

pub appended : (fs : List Event) (v w : Shown) → Appends fs v w → GoesOn v w
appended fs v w a = record {
  stage = a.stage;
  grows = λ course.
      let run = a.runs course.0 course.1 in
      let now : w.journal ≡ journal v.stage (fs ++ course.0) = run.shows.journal ∙ ap (λ (s : Stage). journal s (fs ++ course.0)) a.stage in
      record {
        course = (fs ++ course.0, run);
        journal = rw (now, course.1.shows.journal) (journal_grows v.stage fs course.0);
      };
}

pub same_run : (v w : Shown) → IsSameRun v w → GoesOn v w
same_run v w same = record {
  stage = same.stage;
  grows = λ course. record {
    course = (
      course.0,
      record {
        shows = record {
          labels = same.labels ∙ course.1.shows.labels;
          journal = rw (same.journal, same.stage) course.1.shows.journal;
          seats = rw (same.seats, same.stage) course.1.shows.seats;
        };
        legal = rw same.stage course.1.legal;
        settled = course.1.settled;
      },
    );
    journal = rw same.journal (begins_itself v.journal);
  };
}

same_is : (v w : Shown) → w ≡ v → GoesOn v w
same_is v w e = rw e (stays v)

pub tried : {A E : Type 0} (r : Result A E) (fs : List Event) (v w : Shown) → OnOk r (Appends fs v w) → OnErr r (w ≡ v) → GoesOn v w
tried (Ok x) fs v w ok err = appended fs v w ok
tried (Err x) fs v w ok err = same_is v w err

pub stepped : (s : ℕ) (v w : Shown) (it : Step) → HasStepped s v w it → GoesOn v w
stepped s v w (step.Took k m) h = appended _ v w h.run
stepped s v w (step.Put k m) h = appended _ v w h.run
stepped s v w (step.Waiting k m b) (inl h) = same_is v w h.same
stepped s v w (step.Waiting k m b) (inr h) = appended _ v w h.waited.run
stepped s v w (step.Job job) h = same_run v w h.run
stepped s v w step.Answered h = appended _ v w h.run
stepped s v w (step.Victim cycle) h = appended _ v w h.wait.waited.run
stepped s v w step.Idle h = same_is v w h

-- ---- the session between its statements
is_none : {A : Type 0} (o : Option A) → is_some o ≡ false → o ≡ None
is_none None e = refl
is_none (Some x) e = absurd (cc e)

none_open : (r : Option Running) → is_some r ≡ true → is_some (open_of r) ≡ false → HasNoneOpen r
none_open None live shut = absurd (cc live)
none_open (Some r) live shut = is_none r.open_one shut

pub between : (v : Shown) (s : ℕ) → is_live_in v s ≡ true → is_open_in v s ≡ false → IsBetween v s
between v s live shut = none_open (seat_in v.seats s).running live shut

idle_in : (r : Option Running) → is_some r ≡ false → r ≡ None
idle_in None e = refl
idle_in (Some r) e = absurd (cc e)

pub idle : (v : Shown) (s : ℕ) → is_live_in v s ≡ false → IsIdle v s
idle v s e = idle_in (seat_in v.seats s).running e

-- ---- the publisher
pub tied_first : (v : Shown) (p : PublisherValue) → IsCourse v → p.opening ≡ v.stage.opening → p.published ≡ [] → p.pending ≡ [] → IsTied v p
tied_first v p course opening none nothing = record { course = course; opening = sym opening; journal = (v.journal, rw (none, nothing) refl) }

pub tied_on : (v w : Shown) (p : PublisherValue) → GoesOn v w → IsTied v p → IsTied w p
tied_on v w p on tied =
    let grown = on.grows tied.course in
    record {
      course = grown.course;
      opening = ap (λ (s : Stage). s.opening) on.stage ∙ tied.opening;
      journal = begins_more (journal_of p) v.journal w.journal tied.journal grown.journal;
    }
