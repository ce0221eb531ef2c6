-- Parts of an execution, one after another.
use Rattle.std.proofs.Common.{◌≡◌, ◌≢◌, ◌⊎◌, ℕ, suc, Bool, true, false, cond, List, [], ◌∷◌, ◌++◌, eqb, Option, Some, None, refl, sym, ap, ◌∙◌, subst, inl, inr, ⊎_elim, append_assoc}
use Rattle.std.proofs.lemmas.Bool.{eq-eqb}
use Rattle.sg_cells.specs.Laws.{Has}
use Rattle.sg_plain.specs.declared.statements.Statement.{Statement}
use Rattle.sg_trace.specs.declared.labels.Cause.TheVariants.{NoMemory}
use Rattle.sg_trace.specs.Traces.{Stage, Event, Begin, Ask, Take, Put, Wait, Victim, Answered, Commit, Rollback, Local, after, session_of}
use Rattle.sg_trace.specs.Scripts.{is_victim}
use Rattle.sg_history.specs.Histories.{own}
use Rattle.sg_history.specs.Views.{Known}
use Rattle.sg_history.specs.Staying.{local}
use Rattle.sg_history.proofs.Staying.{own_append}
use Rattle.sg_db.specs.Executions.{is_step, AreSteps, is_asked_for, EndsNone, NoVictim, IsAsking, IsLiveClosed, IsOver, begins_for, IsGoing}
use Rattle.sg_db.specs.Ends.{Started, HasGone, Ran, Ended, HasEnded, HasRun}
use Rattle.sg_db.proofs.Knowing.{goes_on}

-- ---- membership
pub has_append : (xs ys : List Event) (e : Event) → Has (xs ++ ys) e → Has xs e ⊎ Has ys e
has_append [] ys e h = inr h
has_append (x ∷ xs) ys e (inl q) = inl (inl q)
has_append (x ∷ xs) ys e (inr h) = ⊎_elim (λ (p : Has xs e). inl (inr p)) (λ (p : Has ys e). inr p) (has_append xs ys e h)

pub has_left : (xs ys : List Event) (e : Event) → Has xs e → Has (xs ++ ys) e
has_left [] ys e h = absurd h
has_left (x ∷ xs) ys e (inl q) = inl q
has_left (x ∷ xs) ys e (inr h) = inr (has_left xs ys e h)

pub none_append : (s : ℕ) (xs ys : List Event) → NoVictim s xs → NoVictim s ys → NoVictim s (xs ++ ys)
none_append s xs ys p q c h = ⊎_elim (p c) (q c) (has_append xs ys (Victim s c) h)

pub steps_append : (xs ys : List Event) → AreSteps xs → AreSteps ys → AreSteps (xs ++ ys)
steps_append [] ys p q = q
steps_append (x ∷ xs) ys p q = (p.0, steps_append xs ys p.1 q)

pub ends_append : (xs ys : List Event) → EndsNone xs → EndsNone ys → EndsNone (xs ++ ys)
ends_append [] ys p q = q
ends_append (x ∷ xs) ys p q = (p.0, ends_append xs ys p.1 q)

step_ends : (e : Event) → is_step e ≡ true → is_asked_for e ≡ false
step_ends (Take s k m) h = refl
step_ends (Put s k m) h = refl
step_ends (Wait s k m b) h = refl
step_ends (Begin s t) h = absurd (cc)
step_ends (Ask s n st) h = absurd (cc)
step_ends (Victim s c) h = absurd (cc)
step_ends (Answered s a) h = absurd (cc)
step_ends (Commit s p) h = absurd (cc)
step_ends (Rollback s c) h = absurd (cc)

pub steps_end : (es : List Event) → AreSteps es → EndsNone es
steps_end [] h = tt
steps_end (e ∷ es) h = (step_ends e h.0, steps_end es h.1)

pub begins_end : (s : ℕ) (x : Local) → EndsNone (begins_for s x)
begins_end s x = by_test x.live
  where
    by_test : (b : Bool) → EndsNone (cond b [] (Begin s (suc x.begun) ∷ []))
    by_test true = tt
    by_test false = (refl, tt)

-- ---- one's own event on top
pub own_here : (s : ℕ) (e : Event) (es : List Event) → session_of e ≡ s → is_victim e ≡ false → own s (e ∷ es) ≡ e ∷ own s es
own_here s e es q n = ap (λ b. cond b (e ∷ own s es) (own s es)) (both (eqb (session_of e) s) (is_victim e) (eq-eqb (session_of e) s q) n)
  where
    both : (a b : Bool) → a ≡ true → b ≡ false → Rattle.std.proofs.Common.◌&&◌ a (Rattle.std.proofs.Common.not b) ≡ true
    both true false p q = refl
    both true true p q = absurd (cc)
    both false b p q = absurd (cc)

pub local_here : (w : Stage) (s : ℕ) (e : Event) (es : List Event) → session_of e ≡ s → local w (e ∷ es) s ≡ after e (local w es (session_of e))
local_here w s e es q = ap (λ b. cond b (after e (local w es (session_of e))) (local w es s)) (eq-eqb (session_of e) s q)

-- ---- compositions
-- what was seen by two calls
seen_twice : (w : Stage) (s : ℕ) (ys xs seen : List Event) → local w ((ys ++ xs) ++ seen) s ≡ local w (ys ++ (xs ++ seen)) s
seen_twice w s ys xs seen = ap (λ l. local w l s) (append_assoc ys xs seen)

pub going_on : (s : ℕ) (st : Statement) (u v w : Known) → Started s st u v → HasGone s v w → Started s st u w
going_on s st u v w p q =
    let k = p.now in
    record {
      more = q.more ++ p.more;
      goes = goes_on s p.more q.more u v w p.goes q.goes;
      now = record {
        number = k.number;
        steps = own s q.more ++ k.steps;
        own = own_append s q.more p.more ∙ (ap (λ l. own s q.more ++ l) k.own ∙ sym (append_assoc (own s q.more) k.steps (Ask s k.number st ∷ begins_for s (local u.stage u.seen s))));
        are_steps = steps_append (own s q.more) k.steps q.now.are_steps k.are_steps;
        none = none_append s q.more p.more q.now.none k.none;
        asking = subst IsAsking ((λ i. local (p.goes.stage i) (q.more ++ p.goes.seen i) s) ∙ sym (seen_twice u.stage s q.more p.more u.seen)) q.now.asking;
      };
    }

pub ended_run : (s : ℕ) (st : Statement) (u v w : Known) (end : Rattle.sg_db.specs.declared.going.End.End) → Started s st u v → Ended s v w end → Ran s st u w end
ended_run s st u v w end p q = record { more = q.more ++ p.more; goes = goes_on s p.more q.more u v w p.goes q.goes; now = now end q.now }
  where
    k : IsGoing s st u.stage u.seen p.more
    k = p.now

    base : List Event
    base = Ask s k.number st ∷ begins_for s (local u.stage u.seen s)

    at : local v.stage (q.more ++ v.seen) s ≡ local u.stage ((q.more ++ p.more) ++ u.seen) s
    at = (λ i. local (p.goes.stage i) (q.more ++ p.goes.seen i) s) ∙ sym (seen_twice u.stage s q.more p.more u.seen)

    lawful : EndsNone (own s p.more)
    lawful = subst EndsNone (sym k.own) (ends_append k.steps base (steps_end k.steps k.are_steps) (refl, begins_end s (local u.stage u.seen s)))

    both : own s (q.more ++ p.more) ≡ own s q.more ++ own s p.more
    both = own_append s q.more p.more

    now : (end : Rattle.sg_db.specs.declared.going.End.End) → HasEnded s v.stage v.seen q.more end → HasRun s st u.stage u.seen (q.more ++ p.more) end
    now (Rattle.sg_db.specs.declared.going.End.TheVariants.Answered a) h = record {
      number = k.number;
      steps = k.steps;
      own = both ∙ (ap (λ l. l ++ own s p.more) h.own ∙ ap (λ l. Answered s a ∷ l) k.own);
      are_steps = k.are_steps;
      none = none_append s q.more p.more h.none k.none;
      live = subst IsLiveClosed at h.live;
    }
    now (Rattle.sg_db.specs.declared.going.End.TheVariants.Victim c) h = record {
      victim = has_left q.more p.more (Victim s c) h.victim;
      once = λ d has. ⊎_elim (λ (x : Has q.more (Victim s d)). h.once d x) (λ (x : Has p.more (Victim s d)). absurd (k.none d x)) (has_append q.more p.more (Victim s d) has);
      ends = subst EndsNone (sym both) (ends_append (own s q.more) (own s p.more) h.ends lawful);
      over = subst IsOver at h.over;
    }
    now (Rattle.sg_db.specs.declared.going.End.TheVariants.NoMemory) h = record {
      last = ⊎_elim
          (λ (x : ((local v.stage v.seen s).live ≡ false) × (own s q.more ≡ [])).
          let q' : true ≡ false = sym (ap (λ (y : Local). y.live) (λ i. local (p.goes.stage i) (p.goes.seen i) s) ∙ k.asking.live) ∙ x.0 in absurd (cc))
          (λ (x : (rest : List Event) × (own s q.more ≡ Rollback s NoMemory ∷ rest)). inr (x.0 ++ own s p.more, both ∙ ap (λ l. l ++ own s p.more) x.1))
          h.last;
      none = none_append s q.more p.more h.none k.none;
      ends = subst EndsNone (sym both) (ends_append (own s q.more) (own s p.more) h.ends lawful);
      over = subst IsOver at h.over;
    }
