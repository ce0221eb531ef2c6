-- One step of an open statement, by its answer.
use Rattle.std.proofs.Common.{◌≡◌, ◌≢◌, ◌⊎◌, ℕ, suc, Bool, true, false, cond, List, [], ◌∷◌, ◌++◌, eqb, Option, Some, None, refl, sym, ap, ◌∙◌, subst, inl, inr, ⊎_elim, append_assoc, append-nil}
use Rattle.std.proofs.lemmas.Bool.{eqb-true, eq-eqb}
use Rattle.sg_cells.specs.Laws.{Has}
use Rattle.sg_cells.specs.declared.keys.Key.{Key}
use Rattle.sg_modes.specs.declared.modes.Mode.{Mode}
use Rattle.sg_plain.specs.declared.statements.Answer.{Answer}
use Rattle.sg_trace.specs.Traces.{Stage, Event, Take, Put, Wait, Victim, Answered, Local, after, answered, idle, session_of}
use Rattle.sg_trace.specs.Legal.{IsLegal}
use Rattle.sg_engine.specs.declared.steps.Step.{Step}
use Rattle.sg_engine.specs.declared.steps.Step.TheVariants as step
use Rattle.sg_engine.specs.Waiting.{Victims, victims_of, cycle_of}
use Rattle.sg_history.specs.Histories.{own}
use Rattle.sg_history.specs.Views.{Known}
use Rattle.sg_history.specs.Staying.{local}
use Rattle.sg_history.proofs.Staying.{own_append, stays_or_yields, yielded, one_victim}
use Rattle.sg_db.specs.declared.going.End.TheVariants as end
use Rattle.sg_db.specs.declared.going.Going.{Going}
use Rattle.sg_db.specs.declared.going.Going.TheVariants.{On, Waits, Job, Over}
use Rattle.sg_db.specs.Locks.{LockedShown}
use Rattle.sg_db.specs.Events.{AreWait, HasMadeStep}
use Rattle.sg_db.specs.Callers.{Goes, KnowsAll}
use Rattle.sg_db.specs.Executions.{AreSteps, EndsNone, IsAsking, IsLiveClosed, IsOver, NoVictim, IsYielded, IsRanOut, IsStillGoing, GotAnswer}
use Rattle.sg_db.specs.Goings.{going_by, SawAnswer, HasTold}
use Rattle.sg_db.specs.Ends.{Advanced}
use Rattle.sg_db.proofs.Knowing.{known_goes}
use Rattle.sg_db.specs.declared.going.End.{End}
use Rattle.sg_db.proofs.Parts.{own_here, local_here, has_append, has_left}
use Rattle.sg_db.proofs.Under.{gave_up}

-- ---- victims
own_victims : (s : ℕ) (vs : Victims) → own s (victims_of vs) ≡ []
own_victims s [] = refl
own_victims s (v ∷ vs) = go (eqb v.0 s) (own_victims s vs)
  where
    go : (b : Bool) → own s (victims_of vs) ≡ [] → cond (Rattle.std.proofs.Common.◌&&◌ b false) (Victim v.0 v.1 ∷ own s (victims_of vs)) (own s (victims_of vs)) ≡ []
    go true e = e
    go false e = e

spared : (s : ℕ) (vs : Victims) → cycle_of s vs ≡ None → (c : List ℕ) → Has (victims_of vs) (Victim s c) → ⊥
spared s [] e c h = h
spared s (v ∷ vs) e c h = go (λ x p. spared s vs x c p) (eqb v.0 s) refl e h
  where
    go : (cycle_of s vs ≡ None → Has (victims_of vs) (Victim s c) → ⊥) → (b : Bool) → eqb v.0 s ≡ b → cond b (Some v.1) (cycle_of s vs) ≡ None → (Victim v.0 v.1 ≡ Victim s c) ⊎ Has (victims_of vs) (Victim s c) → ⊥
    go ih true q e h = absurd (cc e)
    go ih false q e (inl p) = let is : v.0 ≡ s = cc p in let f : true ≡ false = sym (eq-eqb v.0 s is) ∙ q in absurd (cc)
    go ih false q e (inr p) = ih e p

struck : (s : ℕ) (vs : Victims) (c : List ℕ) → cycle_of s vs ≡ Some c → Has (victims_of vs) (Victim s c)
struck s [] c e = absurd (cc e)
struck s (v ∷ vs) c e = go (struck s vs c) (eqb v.0 s) refl e
  where
    go : (cycle_of s vs ≡ Some c → Has (victims_of vs) (Victim s c)) → (b : Bool) → eqb v.0 s ≡ b → cond b (Some v.1) (cycle_of s vs) ≡ Some c → (Victim v.0 v.1 ≡ Victim s c) ⊎ Has (victims_of vs) (Victim s c)
    go ih true q e = let is = eqb-true v.0 s q in let d : v.1 ≡ c = cc e in inl (λ i. Victim (is i) (d i))
    go ih false q e = inr (ih e)

-- ---- what the events of a step leave
one_step : (w : Stage) (s : ℕ) (e : Event) (seen : List Event) → session_of e ≡ s → Rattle.sg_trace.specs.Scripts.is_victim e ≡ false → Rattle.sg_db.specs.Executions.is_step e ≡ true → ((c : List ℕ) → e ≡ Victim s c → ⊥) → IsAsking (after e (local w seen (session_of e))) → IsStillGoing s w seen (e ∷ [])
one_step w s e seen q n k apart a = record {
  are_steps = subst AreSteps (sym (own_here s e [] q n)) (k, tt);
  none = λ c has. ⊎_elim (apart c) (λ (x : ⊥). x) has;
  asking = subst IsAsking (sym (local_here w s e seen q)) a;
}

no_step : (w : Stage) (s : ℕ) (seen : List Event) → IsAsking (local w seen s) → IsStillGoing s w seen []
no_step w s seen a = record { are_steps = tt; none = λ c has. has; asking = a }

waited_own : (s : ℕ) (k : Key) (m : Mode) (b : List ℕ) (vs : Victims) → own s (victims_of vs ++ Wait s k m b ∷ []) ≡ Wait s k m b ∷ []
waited_own s k m b vs = own_append s (victims_of vs) (Wait s k m b ∷ []) ∙ (ap (λ l. l ++ own s (Wait s k m b ∷ [])) (own_victims s vs) ∙ own_here s (Wait s k m b) [] refl refl)

waited_none : (s : ℕ) (k : Key) (m : Mode) (b : List ℕ) (c : List ℕ) → Has (Wait s k m b ∷ []) (Victim s c) → ⊥
waited_none s k m b c (inl q) = absurd (cc q)
waited_none s k m b c (inr h) = h

waits_on : (w : Stage) (s : ℕ) (k : Key) (m : Mode) (b : List ℕ) (vs : Victims) (seen : List Event) → IsAsking (local w seen s) → cycle_of s vs ≡ None → IsStillGoing s w seen (victims_of vs ++ Wait s k m b ∷ [])
waits_on w s k m b vs seen a free = record {
  are_steps = subst AreSteps (sym (waited_own s k m b vs)) (refl, tt);
  none = λ c has. ⊎_elim (spared s vs free c) (waited_none s k m b c) (has_append (victims_of vs) (Wait s k m b ∷ []) (Victim s c) has);
  asking = subst IsAsking (sym (ap (λ l. local w l s) (append_assoc (victims_of vs) (Wait s k m b ∷ []) seen) ∙ go (stays_or_yields w s (victims_of vs) (Wait s k m b ∷ seen) (own_victims s vs)))) a;
}
  where
    here : local w (Wait s k m b ∷ seen) s ≡ local w seen s
    here = local_here w s (Wait s k m b) seen refl

    go : (local w (victims_of vs ++ (Wait s k m b ∷ seen)) s ≡ local w (Wait s k m b ∷ seen) s) ⊎ ((c : List ℕ) × Has (victims_of vs) (Victim s c) × (local w (victims_of vs ++ (Wait s k m b ∷ seen)) s ≡ idle (local w (Wait s k m b ∷ seen) s).begun)) → local w (victims_of vs ++ (Wait s k m b ∷ seen)) s ≡ local w seen s
    go (inl same) = same ∙ here
    go (inr y) = absurd (spared s vs free y.0 y.1)

gave_way : (w : Stage) (s : ℕ) (k : Key) (m : Mode) (b c : List ℕ) (vs : Victims) (seen : List Event) → IsLegal w ((victims_of vs ++ Wait s k m b ∷ []) ++ seen) → cycle_of s vs ≡ Some c → IsYielded s c w seen (victims_of vs ++ Wait s k m b ∷ [])
gave_way w s k m b c vs seen l is =
    let more = victims_of vs in
    let e = Wait s k m b in
    let assoc = append_assoc more (e ∷ []) seen in
    let l' : IsLegal w (more ++ (e ∷ seen)) = subst (IsLegal w) assoc l in
    let has = struck s vs c is in
    let y = yielded w s c more (e ∷ seen) (own_victims s vs) has in
    let at : local w ((more ++ e ∷ []) ++ seen) s ≡ idle y.0 = ap (λ x. local w x s) assoc ∙ y.1 in
    record {
      victim = has_left more (e ∷ []) (Victim s c) has;
      once = λ d other. ⊎_elim (λ (x : Has more (Victim s d)). one_victim w s c d more (e ∷ seen) l' (own_victims s vs) has x) (λ (x : Has (e ∷ []) (Victim s d)). absurd (waited_none s k m b d x)) (has_append more (e ∷ []) (Victim s d) other);
      ends = subst EndsNone (sym (waited_own s k m b vs)) (refl, tt);
      over = record { live = ap (λ (x : Local). x.live) at; closed = ap (λ (x : Local). x.open_one) at };
    }

-- ---- and how far it has come
on_or_waits : (s : ℕ) (v w : Known) (more : List Event) (b : Bool) → Goes s more v w → IsStillGoing s v.stage v.seen more → Advanced s v w (cond b On Waits)
on_or_waits s v w more true g h = record { more = more; goes = g; now = h }
on_or_waits s v w more false g h = record { more = more; goes = g; now = h }

legal_after : (s : ℕ) (more : List Event) (v w : Known) → Goes s more v w → IsLegal v.stage (more ++ v.seen)
legal_after s more v w g = subst (IsLegal v.stage) g.seen (subst (λ (x : Stage). IsLegal x w.seen) g.stage g.caller.history.legal)

asking_after : (x : Local) (h : List (Key × Mode)) (p : List Key) → IsAsking x → IsAsking (record x { held = h; puts = p })
asking_after x h p a = record { live = a.live; statement = a.statement; open_one = a.open_one }

pub step_gone : (s : ℕ) (old new : LockedShown) (v w : Known) (it : Step) (more : Bool) → KnowsAll s old v → IsAsking (local v.stage v.seen s) → HasMadeStep s old new v w it → (it ≡ step.Idle → ⊥) → (going : Going) → going_by it more ≡ Some going → Advanced s v w going
step_gone s old new v w (step.Took k m) more kn a h busy going is =
    let g = subst (λ (es : List Event). Goes s es v w) h.step (known_goes s h.events old new v w kn h.done) in
    let q : On ≡ going = cc is in
    subst (Advanced s v w) q (record { more = Take s k m ∷ []; goes = g; now = one_step v.stage s (Take s k m) v.seen refl refl refl (λ c q. cc q) (record { live = a.live; statement = a.statement; open_one = a.open_one }) })
step_gone s old new v w (step.Put k m) more kn a h busy going is =
    let g = subst (λ (es : List Event). Goes s es v w) h.step (known_goes s h.events old new v w kn h.done) in
    let q : On ≡ going = cc is in
    subst (Advanced s v w) q (record { more = Put s k m ∷ []; goes = g; now = one_step v.stage s (Put s k m) v.seen refl refl refl (λ c q. cc q) (record { live = a.live; statement = a.statement; open_one = a.open_one }) })
step_gone s old new v w (step.Waiting k m b) more kn a h busy going is = let q : cond more On Waits ≡ going = cc is in subst (Advanced s v w) q (go h.step)
  where
    go : (h.events ≡ []) ⊎ ((victims : Victims) × AreWait s k m b victims h.events × (cycle_of s victims ≡ None)) → Advanced s v w (cond more On Waits)
    go (inl e) = on_or_waits s v w [] more (subst (λ (es : List Event). Goes s es v w) e (known_goes s h.events old new v w kn h.done)) (no_step v.stage s v.seen a)
    go (inr x) = on_or_waits s v w (victims_of x.0 ++ Wait s k m b ∷ []) more (subst (λ (es : List Event). Goes s es v w) x.1.events (known_goes s h.events old new v w kn h.done)) (waits_on v.stage s k m b x.0 v.seen a x.2)
step_gone s old new v w (step.Job job) more kn a h busy going is =
    let g = subst (λ (es : List Event). Goes s es v w) h.step (known_goes s h.events old new v w kn h.done) in
    let q : Job job ≡ going = cc is in
    subst (Advanced s v w) q (record { more = []; goes = g; now = (no_step v.stage s v.seen a, refl) })
step_gone s old new v w step.Answered more kn a h busy going is = absurd (cc is)
step_gone s old new v w (step.Victim cycle) more kn a h busy going is =
    let x = h.step in
    let es = victims_of x.3 ++ Wait s x.0 x.1 x.2 ∷ [] in
    let g = subst (λ (es : List Event). Goes s es v w) x.4.events (known_goes s h.events old new v w kn h.done) in
    let q : Over (end.Victim cycle) ≡ going = cc is in
    subst (Advanced s v w) q (record { more = es; goes = g; now = gave_way v.stage s x.0 x.1 x.2 cycle x.3 v.seen (legal_after s es v w g) x.5 })
step_gone s old new v w step.Idle more kn a h busy going is = absurd (busy refl)

-- ---- its answer
pub got : (s : ℕ) (old new : LockedShown) (v w : Known) (it : Step) (more : Bool) → KnowsAll s old v → HasMadeStep s old new v w it → going_by it more ≡ None → (a : Answer) × Goes s (Answered s a ∷ []) v w
got s old new v w (step.Took k m) more kn h is = absurd (cc is)
got s old new v w (step.Put k m) more kn h is = absurd (cc is)
got s old new v w (step.Waiting k m b) more kn h is = absurd (cc is)
got s old new v w (step.Job job) more kn h is = absurd (cc is)
got s old new v w step.Answered more kn h is = (h.step.0, subst (λ (es : List Event). Goes s es v w) h.step.1 (known_goes s h.events old new v w kn h.done))
got s old new v w (step.Victim cycle) more kn h is = absurd (cc is)
got s old new v w step.Idle more kn h is = absurd (cc is)

pub saw : (s : ℕ) (v w : Known) → (x : (a : Answer) × Goes s (Answered s a ∷ []) v w) → SawAnswer s w
saw s v w x = record { answer = x.0; before = v.seen; seen = x.1.seen }

live_answered : (w : Stage) (s : ℕ) (a : Answer) (seen : List Event) → IsAsking (local w seen s) → IsLiveClosed (local w (Answered s a ∷ seen) s)
live_answered w s a seen k =
    let x = local w seen s in
    let at : local w (Answered s a ∷ seen) s ≡ answered x (Some k.statement) a = local_here w s (Answered s a) seen refl ∙ ap (λ o. answered x o a) k.open_one in
    record { live = ap (λ (y : Local). y.live) at ∙ k.live; closed = ap (λ (y : Local). y.open_one) at }

answer_apart : (s : ℕ) (a : Answer) (c : List ℕ) → Has (Answered s a ∷ []) (Victim s c) → ⊥
answer_apart s a c (inl q) = absurd (cc q)
answer_apart s a c (inr h) = h

pub told_so : (s : ℕ) (u v w : Known) (it : End) → IsAsking (local u.stage u.seen s) → (x : (a : Answer) × Goes s (Answered s a ∷ []) u v) → HasTold s v w it → Advanced s u w (Over it)
told_so s u v w (end.Answered a) k x h =
    let both : Answered s x.0 ∷ u.seen ≡ Answered s a ∷ h.1.0 = sym x.1.seen ∙ h.1.1 in
    let same : x.0 ≡ a = cc both in
    record {
      more = Answered s a ∷ [];
      goes = subst (λ (y : Known). Goes s (Answered s a ∷ []) u y) (sym h.0) (subst (λ (b : Answer). Goes s (Answered s b ∷ []) u v) same x.1);
      now = record { own = own_here s (Answered s a) [] refl refl; none = answer_apart s a; live = live_answered u.stage s a u.seen k };
    }
told_so s u v w (end.Victim c) k x h = absurd h
told_so s u v w end.NoMemory k x h =
    let o = gave_up s (Answered s x.0 ∷ []) u v w x.1 (answer_apart s x.0) (subst EndsNone (sym (own_here s (Answered s x.0) [] refl refl)) (refl, tt)) h in
    record { more = o.more; goes = o.goes; now = o.now }
