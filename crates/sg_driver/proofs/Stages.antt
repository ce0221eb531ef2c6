-- A stage of which only the priorities of what are no sessions differ has the same traces.
use Rattle.std.proofs.Common.{◌≡◌, ℕ, suc, ◌&&◌, ◌||◌, List, [], ◌∷◌, ◌++◌, length, Option, Some, None, refl, sym, ap, ap₂, ◌∙◌, subst, inl, inr}
use Rattle.std.specs.Prelude.{ℤ, ◌≤ℤ◌, true, slice_get, is_some}
use Rattle.sg_cells.specs.declared.keys.Key.{Key}
use Rattle.sg_modes.specs.declared.modes.Mode.{Mode}
use Rattle.sg_modes.specs.declared.modes.Mode.TheVariants.{RangeIN}
use Rattle.sg_modes.specs.Priorities.{priority_of}
use Rattle.sg_modes.specs.Sessions.{IsSession, has_session}
use Rattle.sg_modes.proofs.SessionLaws.{member_is_session}
use Rattle.sg_modes.specs.Victims.{IsVictim}
use Rattle.sg_plain.specs.declared.statements.Statement.{Statement}
use Rattle.sg_script.specs.Plans.{Plan}
use Rattle.sg_trace.specs.declared.labels.Cause.TheVariants.{Asked, NoMemory}
use Rattle.sg_trace.specs.Needs.{Need, Lock, New, first_unmet}
use Rattle.sg_trace.specs.Traces.{Local, State, Stage, Event, Begin, Ask, Take, Put, Wait, Victim, Answered, Commit, Rollback, state, step}
use Rattle.sg_trace.specs.Legal.{Act, Takes, Puts, Replies, IsAct, IsActFor, needs_of, conflict, cost, waits, IsChosen, IsOpen, IsBetween, IsWaitFor, Fits, IsLegal, journal, entry_of}
use Rattle.sg_trace.specs.Scripts.{Script, IsDue, Follows, transactions_of}
use Rattle.sg_trace.specs.Driven.{is_nil, can_turn, IsMove, IsDriven}
use Rattle.sg_run.specs.Runs.{IsStageOf}

module _ (w : Stage) (ps : List ℤ) (same : (s : ℕ) → IsSession s → priority_of ps s ≡ priority_of w.priorities s) where
  abbrev x : Stage
  x = record { settings = w.settings; opening = w.opening; priorities = ps }

  states : (es : List Event) → state x es ≡ state w es
  states [] = refl
  states (e ∷ es) = ap (step e) (states es)

  of_is : (es : List Event) (s : ℕ) → (state x es).of s ≡ (state w es).of s
  of_is es s = ap (λ (z : State). z.of s) (states es)

  -- ---- events
  act_for : (z : State) (s : ℕ) (st : Statement) (o : Option Need) (act : Act) → IsActFor w z s st o act → IsActFor x z s st o act
  act_for z s st (Some (Lock k m)) act h = h
  act_for z s st (Some (New k)) act h = h
  act_for z s st None (Replies a) h = h
  act_for z s st None (Takes k m) h = h
  act_for z s st None (Puts k n m) h = h

  act_there : (z : State) (s : ℕ) (st : Statement) (act : Act) → IsAct w z s st act → IsAct x z s st act
  act_there z s st act a = record {
    selected = a.selected;
    selects = a.selects;
    follows = act_for z s st (first_unmet (z.of s).held (needs_of w z s st a.selected)) act a.follows;
  }

  act_is : (es : List Event) (s : ℕ) (st : Statement) (act : Act) → IsAct w (state w es) s st act → IsAct x (state x es) s st act
  act_is es s st act a = subst (λ (z : State). IsAct x z s st act) (sym (states es)) (act_there (state w es) s st act a)

  open_is : (es : List Event) (s : ℕ) (st : Statement) → IsOpen w es s st → IsOpen x es s st
  open_is es s st o = record {
    live = ap (λ (l : Local). l.live) (of_is es s) ∙ o.live;
    open_one = ap (λ (l : Local). l.open_one) (of_is es s) ∙ o.open_one;
    no_wait = o.no_wait;
  }

  between_is : (es : List Event) (s : ℕ) → IsBetween ((state w es).of s) → IsBetween ((state x es).of s)
  between_is es s b = subst (λ (l : Local). IsBetween l) (sym (of_is es s)) b

  conflict_is : (es : List Event) (s : ℕ) (k : Key) (m : Mode) → conflict (state x es).of s k m ≡ conflict (state w es).of s k m
  conflict_is es s k m = ap (λ (z : State). conflict z.of s k m) (states es)

  wait_is : (es : List Event) (s : ℕ) (st : Statement) (k : Key) (m : Mode) → IsWaitFor w es s st k m → IsWaitFor x es s st k m
  wait_is es s st k m h = record { act = h.act; is_act = act_is es s st h.act h.is_act; reason = h.reason }

  victim_is : (cost : ℕ → ℕ) (c : List ℕ) (v : ℕ) → ((u : ℕ) → has_session c u ≡ true → IsSession u) → IsVictim (priority_of w.priorities) cost c v → IsVictim (priority_of ps) cost c v
  victim_is cost c v all h = record {
    member = h.member;
    lowest = λ u has.
        subst (λ (p : ℤ). p ≤ℤ priority_of ps u) (sym (at v h.member))
        (subst (λ (p : ℤ). priority_of w.priorities v ≤ℤ p) (sym (at u has)) (h.lowest u has));
    cheapest = λ u has e. h.cheapest u has (sym (at u has) ∙ (e ∙ at v h.member));
    greatest = λ u has e. h.greatest u has (sym (at u has) ∙ (e ∙ at v h.member));
  }
    where
      at : (u : ℕ) → has_session c u ≡ true → priority_of ps u ≡ priority_of w.priorities u
      at u has = same u (all u has)

  chosen_is : (es : List Event) (v : ℕ) (c : List ℕ) → IsChosen w es v c → IsChosen x es v c
  chosen_is es v c h = record {
    since = h.since;
    sessions = h.sessions;
    is_cycle = h.is_cycle;
    some = h.some;
    victim =
        subst (λ (z : State). IsVictim (priority_of ps) (λ u. cost (z.of u).held) c v) (sym (states es))
        (victim_is (λ u. cost ((state w es).of u).held) c v (λ u has. member_is_session c u h.sessions has) h.victim);
  }

  fits : (es : List Event) (e : Event) → Fits w es e → Fits x es e
  fits es (Begin s t) f = (f.0, ap (λ (l : Local). l.live) (of_is es s) ∙ f.1, f.2 ∙ ap (λ (l : Local). suc l.begun) (sym (of_is es s)))
  fits es (Ask s n st) f = (between_is es s f.0, f.1, f.2 ∙ ap (λ (l : Local). suc (length l.done)) (sym (of_is es s)))
  fits es (Take s k m) f = (f.0, open_is es s f.0 f.1, act_is es s f.0 (Takes k m) f.2, conflict_is es s k m ∙ f.3)
  fits es (Put s k m) f = (f.0, open_is es s f.0 f.1, (f.2.0, act_is es s f.0 (Puts k f.2.0 m) f.2.1, conflict_is es s f.2.0 RangeIN ∙ f.2.2))
  fits es (Wait s k m b) f = (f.0, open_is es s f.0 f.1, wait_is es s f.0 k m f.2, f.3 ∙ sym (conflict_is es s k m), f.4)
  fits es (Victim v c) f = chosen_is es v c f
  fits es (Answered s a) f = (f.0, open_is es s f.0 f.1, act_is es s f.0 (Replies a) f.2)
  fits es (Commit s p) f = (between_is es s f.0, f.1)
  fits es (Rollback s Asked) f = between_is es s f
  fits es (Rollback s NoMemory) f = ap (λ (l : Local). l.live) (of_is es s) ∙ f

  -- ---- traces
  legal : (es : List Event) → IsLegal w es → IsLegal x es
  legal [] l = tt
  legal (e ∷ es) l = (legal es l.0, fits es e l.1, l.2)

  follows : (p : Script) (es : List Event) → Follows p w es → Follows p x es
  follows p [] f = tt
  follows p (e ∷ es) f = (follows p es f.0, subst (λ (z : State). IsDue p z e) (sym (states es)) f.1)

  can_is : (p : Script) (es : List Event) (s : ℕ) → can_turn p x es s ≡ can_turn p w es s
  can_is p es s = ap (λ (z : State). is_nil (waits es s) && ((z.of s).live || is_some (slice_get (transactions_of p s) (z.of s).begun))) (states es)

  move : (p : Script) (old : List Event) (s : ℕ) (new : List Event) → IsMove p w old s new → IsMove p x old s new
  move p old s new m = record { can = can_is p old s ∙ m.can; event = m.event; own = m.own; no_victim = m.no_victim; top = m.top; settled = m.settled }

  driven : (p : Script) (ts : List ℕ) (es : List Event) → IsDriven p w ts es → IsDriven p x ts es
  driven p [] es d = d
  driven p (s ∷ ts) es (b, d, inl m) = (b, driven p ts b d, inl (can_is p b s ∙ m.0, m.1))
  driven p (s ∷ ts) es (b, d, inr m) = (b, driven p ts b d, inr (move p b s es m))

  journal_is : (es : List Event) → journal x es ≡ journal w es
  journal_is [] = refl
  journal_is (Commit s p ∷ es) = ap₂ (λ js (l : Local). js ++ entry_of s l ∷ []) (journal_is es) (of_is es s)
  journal_is (Begin u t ∷ es) = journal_is es
  journal_is (Ask u n st ∷ es) = journal_is es
  journal_is (Take u k m ∷ es) = journal_is es
  journal_is (Put u k m ∷ es) = journal_is es
  journal_is (Wait u k m b ∷ es) = journal_is es
  journal_is (Victim u c ∷ es) = journal_is es
  journal_is (Answered u a ∷ es) = journal_is es
  journal_is (Rollback u c ∷ es) = journal_is es

-- two stages of a script
module _ (plan : Plan) (w v : Stage) (a : IsStageOf plan w) (b : IsStageOf plan v) where
  agree : (s : ℕ) → IsSession s → priority_of v.priorities s ≡ priority_of w.priorities s
  agree s is = b.priorities s is ∙ sym (a.priorities s is)

  there : x w v.priorities agree ≡ v
  there =
      let p : w.settings ≡ v.settings = a.settings ∙ sym b.settings in
      let q : w.opening ≡ v.opening = a.opening ∙ sym b.opening in
      λ i. record { settings = p i; opening = q i; priorities = v.priorities }

  pub legal_there : (es : List Event) → IsLegal w es → IsLegal v es
  legal_there es l = subst (λ (g : Stage). IsLegal g es) there (legal w v.priorities agree es l)

  pub follows_there : (p : Script) (es : List Event) → Follows p w es → Follows p v es
  follows_there p es f = subst (λ (g : Stage). Follows p g es) there (follows w v.priorities agree p es f)

  pub driven_there : (p : Script) (ts : List ℕ) (es : List Event) → IsDriven p w ts es → IsDriven p v ts es
  driven_there p ts es d = subst (λ (g : Stage). IsDriven p g ts es) there (driven w v.priorities agree p ts es d)

  pub can_there : (p : Script) (es : List Event) (s : ℕ) → can_turn p v es s ≡ can_turn p w es s
  can_there p es s = sym (ap (λ (g : Stage). can_turn p g es s) there) ∙ can_is w v.priorities agree p es s

  pub journal_there : (es : List Event) → journal v es ≡ journal w es
  journal_there es = sym (ap (λ (g : Stage). journal g es) there) ∙ journal_is w v.priorities agree es
