-- What an engine shows outside has the same runs, so that what happens inside happens there.
use Rattle.std.specs.Prelude.{map, is_some, ◌-◌, Result, Ok, Err, IfOk, OnOk, OnErr}
use Rattle.std.proofs.Common.{◌≡◌, inl, inr, ℕ, zero, suc, ◌+◌, ◌<◌, Bool, true, false, cond, List, [], ◌∷◌, ◌++◌, get_or, Option, Some, None, refl, sym, ap, ◌∙◌, subst, arith}
use Rattle.std.proofs.lemmas.Bool.{cases_eq}
use Rattle.sg_cells.specs.Laws.{Has}
use Rattle.sg_cells.specs.declared.keys.Key.{Key}
use Rattle.sg_modes.specs.declared.modes.Mode.{Mode}
use Rattle.sg_modes.specs.Sessions.{IsSession}
use Rattle.sg_refine.specs.Jobs.{Job}
use Rattle.sg_trace.specs.Traces.{Stage, Event, Take, Put, state, count_from, all_sessions}
use Rattle.sg_trace.specs.Legal.{IsLegal, journal}
use Rattle.sg_laws.specs.Reading.{HasRead}
use Rattle.sg_laws.proofs.Numbers.{listed_session}
use Rattle.sg_engine.specs.declared.steps.Step.{Step}
use Rattle.sg_engine.specs.declared.steps.Step.TheVariants as step
use Rattle.sg_engine.specs.Shown.{Shown, Seated, Refining, IsRunOf, Appends, seat_in, seated, job_in, no_job}
use Rattle.sg_engine.specs.Ends.{EndsJob}
use Rattle.sg_engine.specs.Nexts.{WaitsForNone, HasReadAll}
use Rattle.sg_engine.specs.Waiting.{HasWaited, cycle_of}
use Rattle.sg_engine.specs.Steps.{IsSameRun, SetsJob, HasAnswered, Stands}
use Rattle.sg_engine.specs.Outside.{outside, untold}
use Rattle.sg_engine.specs.Stepping.{HasAdded, StillWaits, StartsToWait, GivesOut, HasStepped}

-- ---- one of each session
module _ {A : Type 0} (f : ℕ → A) (d : A) where
  at_place : (n m i : ℕ) → i < m → get_or (map f (count_from n m)) i d ≡ f (n + i)
  at_place n zero i h = absurd (omega arith)
  at_place n (suc m) zero h = ap f (omega arith)
  at_place n (suc m) (suc i) h = at_place (suc n) m i (omega arith) ∙ ap f (omega arith)

  pub of_session : (s : ℕ) → IsSession s → get_or (map f all_sessions) (s - 1) d ≡ f s
  unfolding all_sessions
  of_session s is = let low = is.0 in let high = is.1 in at_place 1 64 (s - 1) (omega (arith, low, high)) ∙ ap f (omega (arith, low))

  pub all_alike : ((u : ℕ) → f u ≡ d) → (xs : List ℕ) (i : ℕ) → get_or (map f xs) i d ≡ d
  all_alike h [] i = refl
  all_alike h (x ∷ xs) zero = h x
  all_alike h (x ∷ xs) (suc i) = all_alike h xs i

same_map : {A : Type 0} (f g : ℕ → A) (xs : List ℕ) → ((u : ℕ) → Has xs u → f u ≡ g u) → map f xs ≡ map g xs
same_map f g [] h = refl
same_map f g (x ∷ xs) h =
    let a = h x (inl refl) in
    let b = same_map f g xs (λ u k. h u (inr k)) in
    λ i. a i ∷ b i

-- ---- runs
pub run_out : (es : List Event) (v : Shown) → IsRunOf es v → IsRunOf es (outside v)
run_out es v r = record { shows = record { labels = r.shows.labels; journal = r.shows.journal; seats = r.shows.seats }; legal = r.legal; settled = r.settled }

pub run_in : (es : List Event) (v : Shown) → IsRunOf es (outside v) → IsRunOf es v
run_in es v r = record { shows = record { labels = r.shows.labels; journal = r.shows.journal; seats = r.shows.seats }; legal = r.legal; settled = r.settled }

pub appends_out : (new_ones : List Event) (old new : Shown) → Appends new_ones old new → Appends new_ones (outside old) (outside new)
appends_out new_ones old new a = record { stage = a.stage; runs = λ es run. run_out (new_ones ++ es) new (a.runs es (run_in es old run)) }

same_run_out : (old new : Shown) → IsSameRun old new → IsSameRun (outside old) (outside new)
same_run_out old new h = record { stage = h.stage; labels = h.labels; journal = h.journal; seats = h.seats }

-- ---- jobs
abbrev Jobs : Type 0
Jobs = List Refining

abbrev each_untold : Jobs → Jobs
each_untold js = map (λ s. untold (job_in js s)) all_sessions

pub job_out : (v : Shown) (s : ℕ) → IsSession s → job_in (outside v).jobs s ≡ untold (job_in v.jobs s)
job_out v s is = of_session (λ u. untold (job_in v.jobs u)) no_job s is

pub none_out : (v : Shown) → ((s : ℕ) → job_in v.jobs s ≡ no_job) → (s : ℕ) → job_in (outside v).jobs s ≡ no_job
none_out v h s = all_alike (λ u. untold (job_in v.jobs u)) no_job (λ u. ap untold (h u)) all_sessions (s - 1)

pub jobs_out : (old new : Shown) → new.jobs ≡ old.jobs → (outside new).jobs ≡ (outside old).jobs
jobs_out old new h = ap each_untold h

-- what differs in this alone shows the same outside
pub same_out : (old new : Shown) → IsSameRun old new → ((u : ℕ) → IsSession u → untold (job_in new.jobs u) ≡ untold (job_in old.jobs u)) → outside new ≡ outside old
same_out old new h each =
    let js : each_untold new.jobs ≡ each_untold old.jobs = same_map (λ s. untold (job_in new.jobs s)) (λ s. untold (job_in old.jobs s)) all_sessions (λ u k. each u (listed_session u k)) in
    let a = h.stage in
    let b = h.labels in
    let c = h.journal in
    let d = h.seats in
    λ i. record { stage = a i; labels = b i; journal = c i; seats = d i; jobs = js i }

module _ (s : ℕ) (session : IsSession s) (old new : Shown) where
  pub ends_out : EndsJob s old new → EndsJob s (outside old) (outside new)
  ends_out h = record { own = job_out new s session ∙ ap untold h.own; others = λ u is ne. job_out new u is ∙ (ap untold (h.others u is ne) ∙ sym (job_out old u is)) }

  pub sets_out : (x : Refining) → SetsJob s x old new → SetsJob s (untold x) (outside old) (outside new)
  sets_out x h = record { own = job_out new s session ∙ ap untold h.own; others = λ u is ne. job_out new u is ∙ (ap untold (h.others u is ne) ∙ sym (job_out old u is)) }

  pub answered_out : HasAnswered s old new → HasAnswered s (outside old) (outside new)
  answered_out h = record { answer = h.answer; run = appends_out _ old new h.run; job = ends_out h.job }

  gives_out : (job : Job) → GivesOut s job old new → GivesOut s job (outside old) (outside new)
  gives_out job h = record {
    free = λ es run. h.free es (run_in es old run);
    read = λ es run. h.read es (run_in es old run);
    run = same_run_out old new h.run;
    set = sets_out (record { job = Some job; delivered = false; writes = false }) h.set;
    job_for = λ es run. h.job_for es (run_in es old run);
    undelivered = ap (λ (x : Refining). x.delivered) (job_out old s session) ∙ h.undelivered;
  }

-- ---- waits
told_or : (t : Bool) (x : Refining) → untold (cond t no_job x) ≡ cond t no_job (untold x)
told_or true x = refl
told_or false x = refl

waited_out : (s : ℕ) (k : Key) (m : Mode) (b : List ℕ) (old new : Shown) (own : Option (List ℕ)) → HasWaited s k m b old new own → HasWaited s k m b (outside old) (outside new) own
waited_out s k m b old new own h = record {
  victims = h.victims;
  run = appends_out _ old new h.run;
  itself = h.itself;
  jobs = λ u is. job_out new u is ∙ (ap untold (h.jobs u is) ∙ (told_or (is_some (cycle_of u h.victims)) (job_in old.jobs u) ∙ ap (λ (x : Refining). cond (is_some (cycle_of u h.victims)) no_job x) (sym (job_out old u is))));
}

stands_out : (v : Shown) (s : ℕ) (k : Key) (m : Mode) (b : List ℕ) → Stands v s k m b → Stands (outside v) s k m b
stands_out v s k m b h = record { some = h.some; wish = λ es run. h.wish es (run_in es v run); waits = λ es run. h.waits es (run_in es v run) }

pub still_out : (s : ℕ) (k : Key) (m : Mode) (b : List ℕ) (old new : Shown) → StillWaits s k m b old new → StillWaits s k m b (outside old) (outside new)
still_out s k m b old new h = record { same = ap outside h.same; stands = stands_out old s k m b h.stands }

starts_out : (s : ℕ) (k : Key) (m : Mode) (b : List ℕ) (own : Option (List ℕ)) (old new : Shown) → StartsToWait s k m b own old new → StartsToWait s k m b own (outside old) (outside new)
starts_out s k m b own old new h = record { free = λ es run. h.free es (run_in es old run); waited = waited_out s k m b old new own h.waited }

added_out : (e : Event) (old new : Shown) → HasAdded e old new → HasAdded e (outside old) (outside new)
added_out e old new h = record { run = appends_out _ old new h.run; jobs = jobs_out old new h.jobs }

-- ---- a step
pub stepped_out : (s : ℕ) → IsSession s → (old new : Shown) (it : Step) → HasStepped s old new it → HasStepped s (outside old) (outside new) it
stepped_out s is old new (step.Took k m) h = added_out (Take s k m) old new h
stepped_out s is old new (step.Put k m) h = added_out (Put s k m) old new h
stepped_out s is old new (step.Waiting k m b) (inl h) = inl (still_out s k m b old new h)
stepped_out s is old new (step.Waiting k m b) (inr h) = inr (starts_out s k m b None old new h)
stepped_out s is old new (step.Job job) h = gives_out s is old new job h
stepped_out s is old new step.Answered h = answered_out s is old new h
stepped_out s is old new (step.Victim cycle) h = record { key = h.key; mode = h.mode; blockers = h.blockers; wait = starts_out s h.key h.mode h.blockers (Some cycle) old new h.wait }
stepped_out s is old new step.Idle h = ap outside h

-- ---- a statement that comes to its writes
-- what is the same run has the same ones
pub same_runs : (old new : Shown) → IsSameRun old new → (es : List Event) → IsRunOf es new → IsRunOf es old
same_runs old new h es r = record {
  shows = record {
    labels = sym h.labels ∙ r.shows.labels;
    journal = sym h.journal ∙ (r.shows.journal ∙ ap (λ (w : Stage). journal w es) h.stage);
    seats = λ s is. ap (λ (xs : List Seated). seat_in xs s) (sym h.seats) ∙ (r.shows.seats s is ∙ ap (λ (w : Stage). seated ((state w es).of s)) h.stage);
  };
  legal = subst (λ (w : Stage). IsLegal w es) h.stage r.legal;
  settled = r.settled;
}

abbrev pub coming_to_writes : Refining → Refining
coming_to_writes x = record { job = None; delivered = x.delivered; writes = true }

module _ (s : ℕ) (old new : Shown) (same : IsSameRun old new) where
  pub free_still : WaitsForNone old s → WaitsForNone new s
  free_still h = λ es run. h es (same_runs old new same es run)

  pub read_still : HasReadAll old s → HasReadAll new s
  read_still h = λ es run st is.
      subst (λ (w : Stage). HasRead w es s st) (sym same.stage) (h es (same_runs old new same es run) st (subst (λ (w : Stage). ((state w es).of s).open_one ≡ Some st) same.stage is))

  pub writes_out : SetsJob s (coming_to_writes (job_in old.jobs s)) old new → (job_in old.jobs s).job ≡ None → outside new ≡ outside old
  writes_out h none = same_out old new same each
    where
      own : untold (job_in new.jobs s) ≡ untold (job_in old.jobs s)
      own = ap untold h.own ∙ ap (λ (j : Option Job). record { job = j; delivered = (job_in old.jobs s).delivered; writes = false }) (sym none)

      each : (u : ℕ) → IsSession u → untold (job_in new.jobs u) ≡ untold (job_in old.jobs u)
      each u is = elim (cases_eq u s) [ inl e ↦ subst (λ n. untold (job_in new.jobs n) ≡ untold (job_in old.jobs n)) (sym e) own | inr ne ↦ ap untold (h.others u is ne) ]

-- ---- answers
if_ok : {T E : Type 0} {P Q : T → Type 0} (r : Result T E) → ((x : T) → P x → Q x) → IfOk r P → IfOk r Q
if_ok (Ok x) f h = f x h
if_ok (Err e) f h = tt

pub on_ok : {T E P Q : Type 0} (r : Result T E) → (P → Q) → OnOk r P → OnOk r Q
on_ok (Ok x) f h = f h
on_ok (Err e) f h = tt

on_err : {T E P Q : Type 0} (r : Result T E) → (P → Q) → OnErr r P → OnErr r Q
on_err (Ok x) f h = tt
on_err (Err e) f h = f h

module _ {E : Type 0} (s : ℕ) (is : IsSession s) (old mid new : Shown) (r : Result Step E) (same : outside mid ≡ outside old) where
  pub steps_out : IfOk r (HasStepped s mid new) → IfOk r (HasStepped s (outside old) (outside new))
  steps_out h = if_ok r (λ it k. subst (λ (v : Shown). HasStepped s v (outside new) it) same (stepped_out s is mid new it k)) h

  pub fails_out : OnErr r (new ≡ mid) → OnErr r (outside new ≡ outside old)
  fails_out h = on_err r (λ e. ap outside e ∙ same) h
