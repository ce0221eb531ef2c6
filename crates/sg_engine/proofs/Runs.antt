-- What is shown determines the state and the waits that a run leaves, so that one run tells of all.
use Rattle.std.proofs.Common.{◌≡◌, ℕ, suc, Bool, true, false, cond, List, [], ◌∷◌, ◌++◌, eqb, Option, Some, None, refl, sym, ap, ◌∙◌, subst}
use Rattle.sg_cells.specs.declared.keys.Key.{Key}
use Rattle.sg_modes.specs.Sessions.{IsSession}
use Rattle.sg_modes.specs.Waits.{NoCycle, IsCycleSet}
use Rattle.sg_modes.specs.Victims.{IsVictim}
use Rattle.sg_modes.specs.Priorities.{priority_of}
use Rattle.sg_plain.specs.declared.statements.Statement.{Statement}
use Rattle.sg_plain.specs.declared.statements.Statement.TheVariants.{Delete}
use Rattle.sg_plain.specs.declared.statements.Answer.{Answer}
use Rattle.sg_plain.specs.Rows.{Rows}
use Rattle.sg_plain.specs.Replies.{Means}
use Rattle.sg_plain.specs.Serial.{Entry, Executes, Serial}
use Rattle.sg_trace.specs.declared.labels.Label.{Label}
use Rattle.sg_trace.specs.declared.labels.Label.TheVariants as label
use Rattle.sg_trace.specs.declared.labels.Cause.TheVariants.{Asked, NoMemory}
use Rattle.sg_trace.specs.Needs.{Held}
use Rattle.sg_trace.specs.Traces.{Stage, Event, Begin, Ask, Take, Put, Wait, Victim, Answered, Commit, Rollback, label_of, labels_of, DoneList, Local, State, state, step, after, answered, idle, session_of}
use Rattle.sg_trace.specs.Legal.{IsStage, IsAct, Takes, Puts, Replies, conflict, waits, cleared, last_waiter, IsSettled, since_wait, cost, IsOpen, IsBetween, commits, Fits, UnlessVictim, IsLegal, statements_of, answers_of, entry_of, journal}
use Rattle.sg_turns.proofs.Clean.{idle_unless_live}
use Rattle.sg_laws.proofs.Kept.{legal_good, live_member}
use Rattle.sg_serial.proofs.Serials.{serial}
use Rattle.sg_engine.specs.Shown.{Shown, Running, Seated, running_of, seated, IsRunOf}

-- ---- lists that end alike
module _ {A : Type 0} where
  not_nil : (xs : List A) (x : A) → xs ++ x ∷ [] ≡ [] → ⊥
  not_nil [] x e = absurd (cc)
  not_nil (y ∷ ys) x e = absurd (cc)

  last_same : (xs ys : List A) (x y : A) → xs ++ x ∷ [] ≡ ys ++ y ∷ [] → (xs ≡ ys) × (x ≡ y)
  last_same [] [] x y e = (refl, cc)
  last_same [] (b ∷ bs) x y e = absurd (let t : [] ≡ bs ++ y ∷ [] = cc in not_nil bs y (sym t))
  last_same (a ∷ xs) [] x y e = absurd (let t : xs ++ x ∷ [] ≡ [] = cc in not_nil xs x t)
  last_same (a ∷ xs) (b ∷ bs) x y e =
      let t : xs ++ x ∷ [] ≡ bs ++ y ∷ [] = cc in
      let h : a ≡ b = cc in
      let i = last_same xs bs x y t in
      (joined h i.0, i.1)
    where
      joined : a ≡ b → xs ≡ bs → (a ∷ xs) ≡ (b ∷ bs)
      joined p q = λ i. p i ∷ q i

-- ---- events without their statements
abbrev pub nothing : Statement
nothing = Delete 0

-- an event of this label
abbrev pub plain_of : Label → Event
plain_of (label.Begin s t) = Begin s t
plain_of (label.Ask s n) = Ask s n nothing
plain_of (label.Take s k m) = Take s k m
plain_of (label.Put s k m) = Put s k m
plain_of (label.Wait s k m b) = Wait s k m b
plain_of (label.Victim s c) = Victim s c
plain_of (label.Answer s a) = Answered s a
plain_of (label.Commit s p) = Commit s p
plain_of (label.Rollback s c) = Rollback s c

abbrev pub plains : List Event → List Event
plains [] = []
plains (e ∷ es) = plain_of (label_of e) ∷ plains es

plains_same : (xs ys : List Event) → labels_of xs ≡ labels_of ys → plains xs ≡ plains ys
plains_same [] [] h = refl
plains_same [] (y ∷ ys) h = absurd (not_nil (labels_of ys) (label_of y) (sym h))
plains_same (x ∷ xs) [] h = absurd (not_nil (labels_of xs) (label_of x) h)
plains_same (x ∷ xs) (y ∷ ys) h =
    let i = last_same (labels_of xs) (labels_of ys) (label_of x) (label_of y) h in
    let t = plains_same xs ys i.0 in
    let q = ap plain_of i.1 in
    λ j. q j ∷ t j

-- ---- what the labels determine
abbrev Blockers : Type 0
Blockers = ℕ → List ℕ

waits_plain : (es : List Event) → waits (plains es) ≡ waits es
waits_plain [] = refl
waits_plain (Wait u k m b ∷ es) = ap {B = Blockers} (λ (f : Blockers) s. cond (eqb s u) b (f s)) (waits_plain es)
waits_plain (Victim u c ∷ es) = ap {B = Blockers} (λ (f : Blockers). cleared f u) (waits_plain es)
waits_plain (Commit u p ∷ es) = ap {B = Blockers} (λ (f : Blockers). cleared f u) (waits_plain es)
waits_plain (Rollback u c ∷ es) = ap {B = Blockers} (λ (f : Blockers). cleared f u) (waits_plain es)
waits_plain (Begin u t ∷ es) = waits_plain es
waits_plain (Ask u n st ∷ es) = waits_plain es
waits_plain (Take u k m ∷ es) = waits_plain es
waits_plain (Put u k m ∷ es) = waits_plain es
waits_plain (Answered u a ∷ es) = waits_plain es

last_plain : (es : List Event) → last_waiter (plains es) ≡ last_waiter es
last_plain [] = refl
last_plain (Wait u k m b ∷ es) = refl
last_plain (Victim u c ∷ es) = last_plain es
last_plain (Commit u p ∷ es) = last_plain es
last_plain (Rollback u c ∷ es) = last_plain es
last_plain (Begin u t ∷ es) = last_plain es
last_plain (Ask u n st ∷ es) = last_plain es
last_plain (Take u k m ∷ es) = last_plain es
last_plain (Put u k m ∷ es) = last_plain es
last_plain (Answered u a ∷ es) = last_plain es

since_plain : (es : List Event) → since_wait (plains es) ≡ since_wait es
since_plain [] = refl
since_plain (Wait u k m b ∷ es) = refl
since_plain (Victim u c ∷ es) = since_plain es
since_plain (Commit u p ∷ es) = refl
since_plain (Rollback u c ∷ es) = refl
since_plain (Begin u t ∷ es) = refl
since_plain (Ask u n st ∷ es) = refl
since_plain (Take u k m ∷ es) = refl
since_plain (Put u k m ∷ es) = refl
since_plain (Answered u a ∷ es) = refl

commits_plain : (es : List Event) → commits (plains es) ≡ commits es
commits_plain [] = refl
commits_plain (Commit u p ∷ es) = ap suc (commits_plain es)
commits_plain (Wait u k m b ∷ es) = commits_plain es
commits_plain (Victim u c ∷ es) = commits_plain es
commits_plain (Rollback u c ∷ es) = commits_plain es
commits_plain (Begin u t ∷ es) = commits_plain es
commits_plain (Ask u n st ∷ es) = commits_plain es
commits_plain (Take u k m ∷ es) = commits_plain es
commits_plain (Put u k m ∷ es) = commits_plain es
commits_plain (Answered u a ∷ es) = commits_plain es

-- of each session all but its statements
record Four (x y : Local) : Type 0 where
  pub begun : x.begun ≡ y.begun
  pub live : x.live ≡ y.live
  pub held : x.held ≡ y.held
  pub puts : x.puts ≡ y.puts

answered_four : (x : Local) (o : Option Statement) (a : Answer) → Four (answered x o a) x
answered_four x None a = record { begun = refl; live = refl; held = refl; puts = refl }
answered_four x (Some st) a = record { begun = refl; live = refl; held = refl; puts = refl }

after_four : (e : Event) (x y : Local) → Four x y → Four (after (plain_of (label_of e)) x) (after e y)
after_four (Begin s t) x y h = record { begun = ap suc h.begun; live = refl; held = refl; puts = refl }
after_four (Ask s n st) x y h = record { begun = h.begun; live = h.live; held = h.held; puts = h.puts }
after_four (Take s k m) x y h = record { begun = h.begun; live = h.live; held = ap (λ (hs : List Held). (k, m) ∷ hs) h.held; puts = h.puts }
after_four (Put s k m) x y h = record { begun = h.begun; live = h.live; held = ap (λ (hs : List Held). (k, m) ∷ hs) h.held; puts = ap (λ (ks : List Key). k ∷ ks) h.puts }
after_four (Wait s k m b) x y h = h
after_four (Victim s c) x y h = record { begun = h.begun; live = refl; held = refl; puts = refl }
after_four (Commit s p) x y h = record { begun = h.begun; live = refl; held = refl; puts = refl }
after_four (Rollback s c) x y h = record { begun = h.begun; live = refl; held = refl; puts = refl }
after_four (Answered s a) x y h =
    let p = answered_four x x.open_one a in
    let q = answered_four y y.open_one a in
    record { begun = p.begun ∙ (h.begun ∙ sym q.begun); live = p.live ∙ (h.live ∙ sym q.live); held = p.held ∙ (h.held ∙ sym q.held); puts = p.puts ∙ (h.puts ∙ sym q.puts) }

session_plain : (e : Event) → session_of (plain_of (label_of e)) ≡ session_of e
session_plain (Begin s t) = refl
session_plain (Ask s n st) = refl
session_plain (Take s k m) = refl
session_plain (Put s k m) = refl
session_plain (Wait s k m b) = refl
session_plain (Victim s c) = refl
session_plain (Answered s a) = refl
session_plain (Commit s p) = refl
session_plain (Rollback s c) = refl

four : (w : Stage) (es : List Event) (u : ℕ) → Four ((state w (plains es)).of u) ((state w es).of u)
four w [] u = record { begun = refl; live = refl; held = refl; puts = refl }
four w (e ∷ es) u =
    subst (λ s. Four (cond (eqb s u) (after (plain_of (label_of e)) ((state w (plains es)).of s)) ((state w (plains es)).of u)) ((state w (e ∷ es)).of u)) (sym (session_plain e)) (by_test (four w es) (eqb (session_of e) u))
  where
    by_test : ((v : ℕ) → Four ((state w (plains es)).of v) ((state w es).of v)) → (b : Bool) → Four (cond b (after (plain_of (label_of e)) ((state w (plains es)).of (session_of e))) ((state w (plains es)).of u)) (cond b (after e ((state w es).of (session_of e))) ((state w es).of u))
    by_test each true = after_four e ((state w (plains es)).of (session_of e)) ((state w es).of (session_of e)) (each (session_of e))
    by_test each false = each u

module _ (w : Stage) (xs ys : List Event) (labels : labels_of xs ≡ labels_of ys) where
  same_four : (u : ℕ) → Four ((state w xs).of u) ((state w ys).of u)
  same_four u =
      let p = four w xs u in
      let q : Four ((state w (plains xs)).of u) ((state w ys).of u) = subst (λ es. Four ((state w es).of u) ((state w ys).of u)) (sym (plains_same xs ys labels)) (four w ys u) in
      record { begun = sym p.begun ∙ q.begun; live = sym p.live ∙ q.live; held = sym p.held ∙ q.held; puts = sym p.puts ∙ q.puts }

  pub by_plains : {A : Type 0} (f : List Event → A) → ((es : List Event) → f (plains es) ≡ f es) → f xs ≡ f ys
  by_plains f h = sym (h xs) ∙ (ap f (plains_same xs ys labels) ∙ h ys)

-- ---- what the seats determine
done_same : (ds es : DoneList) → statements_of ds ≡ statements_of es → answers_of ds ≡ answers_of es → ds ≡ es
done_same [] [] p q = refl
done_same [] (e ∷ es) p q = absurd (not_nil (statements_of es) e.0 (sym p))
done_same (d ∷ ds) [] p q = absurd (not_nil (statements_of ds) d.0 p)
done_same (d ∷ ds) (e ∷ es) p q =
    let i = last_same (statements_of ds) (statements_of es) d.0 e.0 p in
    let j = last_same (answers_of ds) (answers_of es) d.1 e.1 q in
    let t = done_same ds es i.0 j.0 in
    λ n. (i.1 n, j.1 n) ∷ t n

running_same : (x y : Local) → x.live ≡ true → y.live ≡ true → seated x ≡ seated y → running_of x ≡ running_of y
running_same x y p q h =
    let e : Some (running_of x) ≡ Some (running_of y) = ap (λ b. cond b (Some (running_of x)) None) (sym p) ∙ (ap (λ (r : Seated). r.running) h ∙ ap (λ b. cond b (Some (running_of y)) None) q) in
    cc

module _ (w : Stage) (r : IsStage w) (xs ys : List Event) (lx : IsLegal w xs) (ly : IsLegal w ys) (labels : labels_of xs ≡ labels_of ys) (u : ℕ) (seat : IsSession u → seated ((state w xs).of u) ≡ seated ((state w ys).of u)) where
  abbrev x : Local
  x = (state w xs).of u

  abbrev y : Local
  y = (state w ys).of u

  local_same : x ≡ y
  local_same = by_live x.live refl
    where
      by_live : (b : Bool) → x.live ≡ b → x ≡ y
      by_live false e =
          let f = same_four w xs ys labels u in
          idle_unless_live w xs lx u e ∙ (ap idle f.begun ∙ sym (idle_unless_live w ys ly u (sym f.live ∙ e)))
      by_live true e =
          let f = same_four w xs ys labels u in
          let is = live_member w (state w xs) u (legal_good w r xs lx) e in
          let h = running_same x y e (sym f.live ∙ e) (seat is) in
          let o : x.open_one ≡ y.open_one = ap (λ (a : Running). a.open_one) h in
          let d = done_same x.done y.done (ap (λ (a : Running). a.statements) h) (ap (λ (a : Running). a.answers) h) in
          λ i. record { begun = f.begun i; live = f.live i; open_one = o i; done = d i; held = f.held i; puts = f.puts i }

-- ---- what the journal determines
executes_one : (old : Rows) (sts : List Statement) (as' : List Answer) (a b : Rows) → Executes old sts as' a → Executes old sts as' b → a ≡ b
executes_one old [] [] a b p q = p ∙ sym q
executes_one old [] (x ∷ xs) a b p q = absurd p
executes_one old (s ∷ sts) [] a b p q = absurd p
executes_one old (s ∷ sts) (x ∷ xs) a b p q = executes_one (Rattle.sg_plain.specs.Replies.effect s x old) sts xs a b p.1 q.1

serial_one : (old : Rows) (entries : List Entry) (a b : Rows) → Serial old entries a → Serial old entries b → a ≡ b
serial_one old [] a b p q = p ∙ sym q
serial_one old (e ∷ es) a b p q =
    let m = executes_one old e.statements e.answers p.0 q.0 p.1 q.1 in
    serial_one q.0 es a b (subst (λ t. Serial t es a) m p.2) q.2

-- ---- two runs
-- both leave the same state and the same waits
pub record Alike (w : Stage) (xs ys : List Event) : Type 0 where
  pub labels : labels_of xs ≡ labels_of ys
  pub journal : journal w xs ≡ journal w ys
  pub state : state w xs ≡ state w ys
  pub waits : waits xs ≡ waits ys
  pub last : last_waiter xs ≡ last_waiter ys
  pub since : since_wait xs ≡ since_wait ys
  pub commits : commits xs ≡ commits ys

-- two runs of what is shown are alike
pub runs_alike : (v : Shown) → IsStage v.stage → (xs ys : List Event) → IsRunOf xs v → IsRunOf ys v → Alike v.stage xs ys
runs_alike v r xs ys p q =
    let w = v.stage in
    let ls : labels_of xs ≡ labels_of ys = sym p.shows.labels ∙ q.shows.labels in
    let js : journal w xs ≡ journal w ys = sym p.shows.journal ∙ q.shows.journal in
    let rows : (state w xs).rows ≡ (state w ys).rows =
    serial_one w.opening (journal w ys) (state w xs).rows (state w ys).rows (subst (λ es. Serial w.opening es (state w xs).rows) js (serial w r xs p.legal)) (serial w r ys q.legal) in
    let each : (u : ℕ) → (state w xs).of u ≡ (state w ys).of u = λ u. local_same w r xs ys p.legal q.legal ls u (λ is. sym (p.shows.seats u is) ∙ q.shows.seats u is) in
    record {
      labels = ls;
      journal = js;
      state = λ i. record { rows = rows i; of = λ u. each u i };
      waits = by_plains w xs ys ls waits waits_plain;
      last = by_plains w xs ys ls last_waiter last_plain;
      since = by_plains w xs ys ls since_wait since_plain;
      commits = by_plains w xs ys ls commits commits_plain;
    }

-- ---- one event more
waits_next : (e : Event) (xs ys : List Event) → waits xs ≡ waits ys → waits (e ∷ xs) ≡ waits (e ∷ ys)
waits_next (Wait u k m b) xs ys h = ap {B = Blockers} (λ (f : Blockers) s. cond (eqb s u) b (f s)) h
waits_next (Victim u c) xs ys h = ap {B = Blockers} (λ (f : Blockers). cleared f u) h
waits_next (Commit u p) xs ys h = ap {B = Blockers} (λ (f : Blockers). cleared f u) h
waits_next (Rollback u c) xs ys h = ap {B = Blockers} (λ (f : Blockers). cleared f u) h
waits_next (Begin u t) xs ys h = h
waits_next (Ask u n st) xs ys h = h
waits_next (Take u k m) xs ys h = h
waits_next (Put u k m) xs ys h = h
waits_next (Answered u a) xs ys h = h

last_next : (e : Event) (xs ys : List Event) → last_waiter xs ≡ last_waiter ys → last_waiter (e ∷ xs) ≡ last_waiter (e ∷ ys)
last_next (Wait u k m b) xs ys h = refl
last_next (Victim u c) xs ys h = h
last_next (Commit u p) xs ys h = h
last_next (Rollback u c) xs ys h = h
last_next (Begin u t) xs ys h = h
last_next (Ask u n st) xs ys h = h
last_next (Take u k m) xs ys h = h
last_next (Put u k m) xs ys h = h
last_next (Answered u a) xs ys h = h

since_next : (e : Event) (xs ys : List Event) → since_wait xs ≡ since_wait ys → since_wait (e ∷ xs) ≡ since_wait (e ∷ ys)
since_next (Wait u k m b) xs ys h = refl
since_next (Victim u c) xs ys h = h
since_next (Commit u p) xs ys h = refl
since_next (Rollback u c) xs ys h = refl
since_next (Begin u t) xs ys h = refl
since_next (Ask u n st) xs ys h = refl
since_next (Take u k m) xs ys h = refl
since_next (Put u k m) xs ys h = refl
since_next (Answered u a) xs ys h = refl

commits_next : (e : Event) (xs ys : List Event) → commits xs ≡ commits ys → commits (e ∷ xs) ≡ commits (e ∷ ys)
commits_next (Commit u p) xs ys h = ap suc h
commits_next (Wait u k m b) xs ys h = h
commits_next (Victim u c) xs ys h = h
commits_next (Rollback u c) xs ys h = h
commits_next (Begin u t) xs ys h = h
commits_next (Ask u n st) xs ys h = h
commits_next (Take u k m) xs ys h = h
commits_next (Put u k m) xs ys h = h
commits_next (Answered u a) xs ys h = h

journal_next : (w : Stage) (e : Event) (xs ys : List Event) → state w xs ≡ state w ys → journal w xs ≡ journal w ys → journal w (e ∷ xs) ≡ journal w (e ∷ ys)
journal_next w (Commit u p) xs ys z h = ap (λ (es : List Entry). es ++ entry_of u ((state w xs).of u) ∷ []) h ∙ ap (λ (s : State). journal w ys ++ entry_of u (s.of u) ∷ []) z
journal_next w (Wait u k m b) xs ys z h = h
journal_next w (Victim u c) xs ys z h = h
journal_next w (Rollback u c) xs ys z h = h
journal_next w (Begin u t) xs ys z h = h
journal_next w (Ask u n st) xs ys z h = h
journal_next w (Take u k m) xs ys z h = h
journal_next w (Put u k m) xs ys z h = h
journal_next w (Answered u a) xs ys z h = h

pub alike_next : (w : Stage) (e : Event) (xs ys : List Event) → Alike w xs ys → Alike w (e ∷ xs) (e ∷ ys)
alike_next w e xs ys h = record {
  labels = ap (λ (ls : List Label). ls ++ label_of e ∷ []) h.labels;
  journal = journal_next w e xs ys h.state h.journal;
  state = ap (step e) h.state;
  waits = waits_next e xs ys h.waits;
  last = last_next e xs ys h.last;
  since = since_next e xs ys h.since;
  commits = commits_next e xs ys h.commits;
}

module _ (w : Stage) (xs ys : List Event) (h : Alike w xs ys) where
  open_same : (s : ℕ) (st : Statement) → IsOpen w xs s st → IsOpen w ys s st
  open_same s st o = record {
    live = subst (λ (z : State). (z.of s).live ≡ true) h.state o.live;
    open_one = subst (λ (z : State). (z.of s).open_one ≡ Some st) h.state o.open_one;
    no_wait = subst (λ (f : Blockers). f s ≡ []) h.waits o.no_wait;
  }

  pub settled_same : IsSettled xs → IsSettled ys
  settled_same n = subst (λ (f : Blockers). NoCycle f (last_waiter ys)) h.waits (subst (NoCycle (waits xs)) h.last n)

  pub fits_same : (e : Event) → Fits w xs e → Fits w ys e
  fits_same (Begin s t) f = (f.0, subst (λ (z : State). (z.of s).live ≡ false) h.state f.1, subst (λ (z : State). t ≡ suc (z.of s).begun) h.state f.2)
  fits_same (Ask s n st) f = (subst (λ (z : State). IsBetween (z.of s)) h.state f.0, f.1, subst (λ (z : State). n ≡ suc (Rattle.std.specs.Prelude.length (z.of s).done)) h.state f.2)
  fits_same (Take s k m) f = (f.0, open_same s f.0 f.1, subst (λ (z : State). IsAct w z s f.0 (Takes k m)) h.state f.2, subst (λ (z : State). conflict z.of s k m ≡ []) h.state f.3)
  fits_same (Put s k m) f =
      (f.0, open_same s f.0 f.1, (f.2.0, subst (λ (z : State). IsAct w z s f.0 (Puts k f.2.0 m)) h.state f.2.1, subst (λ (z : State). conflict z.of s f.2.0 Rattle.sg_modes.specs.declared.modes.Mode.TheVariants.RangeIN ≡ []) h.state f.2.2))
  fits_same (Wait s k m b) f =
      (f.0, open_same s f.0 f.1, record { act = f.2.act; is_act = subst (λ (z : State). IsAct w z s f.0 f.2.act) h.state f.2.is_act; reason = f.2.reason }, subst (λ (z : State). b ≡ conflict z.of s k m) h.state f.3, f.4)
  fits_same (Victim s c) f = record {
    since = sym h.since ∙ f.since;
    sessions = f.sessions;
    is_cycle = subst (λ (g : Blockers). IsCycleSet g (last_waiter ys) c) h.waits (subst (λ n. IsCycleSet (waits xs) n c) h.last f.is_cycle);
    some = f.some;
    victim = subst (λ (z : State). IsVictim (priority_of w.priorities) (λ u. cost (z.of u).held) c s) h.state f.victim;
  }
  fits_same (Answered s a) f = (f.0, open_same s f.0 f.1, subst (λ (z : State). IsAct w z s f.0 (Replies a)) h.state f.2)
  fits_same (Commit s p) f = (subst (λ (z : State). IsBetween (z.of s)) h.state f.0, f.1 ∙ ap suc h.commits)
  fits_same (Rollback s Asked) f = subst (λ (z : State). IsBetween (z.of s)) h.state f
  fits_same (Rollback s NoMemory) f = subst (λ (z : State). (z.of s).live ≡ true) h.state f

  unless_same : (e : Event) → UnlessVictim e (IsSettled xs) → UnlessVictim e (IsSettled ys)
  unless_same (Victim s c) u = tt
  unless_same (Begin s t) u = settled_same u
  unless_same (Ask s n st) u = settled_same u
  unless_same (Take s k m) u = settled_same u
  unless_same (Put s k m) u = settled_same u
  unless_same (Wait s k m b) u = settled_same u
  unless_same (Answered s a) u = settled_same u
  unless_same (Commit s p) u = settled_same u
  unless_same (Rollback s c) u = settled_same u

-- ---- events on top of both
alike_on : (w : Stage) (new_ones xs ys : List Event) → Alike w xs ys → Alike w (new_ones ++ xs) (new_ones ++ ys)
alike_on w [] xs ys h = h
alike_on w (e ∷ new_ones) xs ys h = alike_next w e (new_ones ++ xs) (new_ones ++ ys) (alike_on w new_ones xs ys h)

legal_on : (w : Stage) (new_ones xs ys : List Event) → Alike w xs ys → IsLegal w ys → IsLegal w (new_ones ++ xs) → IsLegal w (new_ones ++ ys)
legal_on w [] xs ys h ly l = ly
legal_on w (e ∷ new_ones) xs ys h ly l =
    let on = alike_on w new_ones xs ys h in
    (legal_on w new_ones xs ys h ly l.0, fits_same w (new_ones ++ xs) (new_ones ++ ys) on e l.1, unless_same w (new_ones ++ xs) (new_ones ++ ys) on e l.2)

-- a run that goes on from one run of what is shown goes on from each
pub appends_by : (old new : Shown) → IsStage old.stage → new.stage ≡ old.stage → (new_ones xs : List Event) → IsRunOf xs old → IsRunOf (new_ones ++ xs) new → (ys : List Event) → IsRunOf ys old → IsRunOf (new_ones ++ ys) new
appends_by old new r same new_ones xs p n ys q =
    let w = old.stage in
    let on = alike_on w new_ones xs ys (runs_alike old r xs ys p q) in
    let go : IsLegal w (new_ones ++ xs) = subst (λ (s : Stage). IsLegal s (new_ones ++ xs)) same n.legal in
    record {
      shows = record {
        labels = n.shows.labels ∙ on.labels;
        journal = n.shows.journal ∙ (ap (λ (s : Stage). journal s (new_ones ++ xs)) same ∙ (on.journal ∙ ap (λ (s : Stage). journal s (new_ones ++ ys)) (sym same)));
        seats = λ s is. n.shows.seats s is ∙ (ap (λ (g : Stage). seated ((state g (new_ones ++ xs)).of s)) same ∙ (ap (λ (z : State). seated (z.of s)) on.state ∙ ap (λ (g : Stage). seated ((state g (new_ones ++ ys)).of s)) (sym same)));
      };
      legal = subst (λ (s : Stage). IsLegal s (new_ones ++ ys)) (sym same) (legal_on w new_ones xs ys (runs_alike old r xs ys p q) q.legal go);
      settled = settled_same w (new_ones ++ xs) (new_ones ++ ys) on n.settled;
    }
