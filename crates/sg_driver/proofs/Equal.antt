-- Runs driven where memory lasts are equal.
use Rattle.std.proofs.Common.{◌≡◌, ℕ, zero, suc, ◌+◌, ◌-◌, ◌≤◌, true, false, List, [], ◌∷◌, ◌++◌, length, refl, sym, ap, ◌∙◌, subst, subst₂, inl, inr, arith, append_assoc, append-nil}
use Rattle.std.specs.Prelude.{map, slice_index_or}
use Rattle.std.proofs.lemmas.Bool.{cases_lt}
use Rattle.std.proofs.lemmas.Grind.{flat_map-append}
use Rattle.sg_cells.specs.Laws.{Has}
use Rattle.sg_modes.specs.Sessions.{IsSession}
use Rattle.sg_plain.specs.declared.statements.Statement.{Statement}
use Rattle.sg_plain.specs.declared.statements.Answer.{Answer}
use Rattle.sg_plain.specs.Rows.{Rows}
use Rattle.sg_plain.specs.Replies.{effect}
use Rattle.sg_plain.specs.Serial.{Entry, ExecutesBy, SerialBy}
use Rattle.sg_script.specs.declared.sessions.SessionScript.{SessionScript}
use Rattle.sg_script.specs.Plans.{Plan, numbers_of, sessions_of}
use Rattle.sg_trace.specs.declared.labels.Label.{Label}
use Rattle.sg_trace.specs.Traces.{Stage, Event, Begin, Ask, Take, Put, Wait, Victim, Answered, Commit, Rollback, label_of, labels_of}
use Rattle.sg_trace.specs.Legal.{journal}
use Rattle.sg_trace.specs.Replies.{Reply}
use Rattle.sg_trace.specs.Scripts.{Script, Follows, turns, turn_of, schedule}
use Rattle.sg_trace.specs.Driven.{can_turn}
use Rattle.sg_trace.specs.Driven as trace
use Rattle.sg_turns.specs.Claims.{IsLasting}
use Rattle.sg_turns.proofs.Driven.{driven_same, own_driven}
use Rattle.sg_turns.proofs.Unique.{Run}
use Rattle.sg_engine.specs.Shown.{IsRunOf}
use Rattle.sg_run.specs.Ends.{Past, ends, all_begun}
use Rattle.sg_run.specs.Runs.{RunShown, past_in, begun_script, has_ended, priority_in, IsStageOf, IsRun}
use Rattle.sg_run.proofs.Begun.{session_or_not, none_beyond}
use Rattle.sg_run.proofs.Moves.{cannot_ended}
use Rattle.sg_driver.specs.Drives.{Leads, after_turns, after_rounds, turns_of}
use Rattle.sg_driver.specs.Laws.{IsLastingRun, Leaves, AreEqualRuns, IsTraceOf, IsRecorded}
use Rattle.sg_driver.proofs.Lasting.{has_before, Lasts, lasted_so, past_is, script_is, memory_lasts}
use Rattle.sg_driver.proofs.Leading.{after_is}
use Rattle.sg_driver.proofs.Loops.{leads_script}
use Rattle.sg_driver.proofs.Rounds.{leads_legal}
use Rattle.sg_driver.proofs.Stages.{legal_there, follows_there, driven_there, can_there, journal_there}
use Rattle.sg_driver.proofs.Traced.{traced}

-- ---- turns
-- the turns of so many rounds alone
abbrev rounds_of : Plan → ℕ → List ℕ
rounds_of plan zero = []
rounds_of plan (suc n) = after_turns (numbers_of plan.sessions) [] ++ rounds_of plan n

rounds_after : (plan : Plan) (n : ℕ) (before : List ℕ) → after_rounds plan n before ≡ rounds_of plan n ++ before
rounds_after plan zero before = refl
rounds_after plan (suc n) before =
    let ss = after_turns (numbers_of plan.sessions) [] in
    after_is (numbers_of plan.sessions) (after_rounds plan n before)
    ∙ (ap (λ (ts : List ℕ). ss ++ ts) (rounds_after plan n before) ∙ sym (append_assoc ss (rounds_of plan n) before))

-- rounds after rounds
rounds_add : (plan : Plan) (d n m : ℕ) (before : List ℕ) → m ≡ d + n → after_rounds plan m before ≡ after_rounds plan d (after_rounds plan n before)
rounds_add plan zero n m before e = let same : m ≡ n = omega arith in ap (λ k. after_rounds plan k before) same
rounds_add plan (suc d) n zero before e = absurd (omega arith)
rounds_add plan (suc d) n (suc m) before e = ap (λ (ts : List ℕ). after_turns (numbers_of plan.sessions) ts) (rounds_add plan d n m before (omega arith))

more_rounds : (plan : Plan) (n m : ℕ) → n ≤ m → turns_of plan m ≡ rounds_of plan (m - n) ++ turns_of plan n
more_rounds plan n m le = rounds_add plan (m - n) n m (after_turns plan.order []) (omega arith) ∙ rounds_after plan (m - n) (turns_of plan n)

-- each turn is a session's
turns_sessions : (ts : List ℕ) (old new : RunShown) → Leads ts old new → (s : ℕ) → Has ts s → IsSession s
turns_sessions [] old new h s m = absurd m
turns_sessions (t ∷ ts) old new h s (inl e) = subst IsSession e h.2.session
turns_sessions (t ∷ ts) old new h s (inr m) = turns_sessions ts old h.0 h.1 s m

-- the order that labels tell is that of the turns of their events
after_all : (xs : List ℕ) (ys : List ℕ) → after_turns (xs ++ ys) [] ≡ after_turns ys [] ++ after_turns xs []
after_all [] ys = sym (append-nil (after_turns ys []))
after_all (x ∷ xs) ys =
    after_is (xs ++ ys) (x ∷ [])
    ∙ (ap (λ (ts : List ℕ). ts ++ x ∷ []) (after_all xs ys)
    ∙ (append_assoc (after_turns ys []) (after_turns xs []) (x ∷ []) ∙ ap (λ (ts : List ℕ). after_turns ys [] ++ ts) (sym (after_is xs (x ∷ [])))))

one_more : (es : List Event) (e : Event) → after_turns (schedule (labels_of (e ∷ es))) [] ≡ after_turns (turn_of (label_of e) ++ []) [] ++ after_turns (schedule (labels_of es)) []
one_more es e =
    ap (λ (ss : List ℕ). after_turns ss []) (flat_map-append turn_of (labels_of es) (label_of e ∷ []))
    ∙ after_all (schedule (labels_of es)) (turn_of (label_of e) ++ [])

own : (s : ℕ) (xs ys : List ℕ) → xs ≡ ys → s ∷ xs ≡ s ∷ ys
own s xs ys e = ap (λ (ts : List ℕ). s ∷ ts) e

scheduled : (es : List Event) → after_turns (schedule (labels_of es)) [] ≡ turns es
scheduled [] = refl
scheduled (Victim v c ∷ es) = one_more es (Victim v c) ∙ scheduled es
scheduled (Begin s t ∷ es) = one_more es (Begin s t) ∙ own s _ _ (scheduled es)
scheduled (Ask s n st ∷ es) = one_more es (Ask s n st) ∙ own s _ _ (scheduled es)
scheduled (Take s k m ∷ es) = one_more es (Take s k m) ∙ own s _ _ (scheduled es)
scheduled (Put s k m ∷ es) = one_more es (Put s k m) ∙ own s _ _ (scheduled es)
scheduled (Wait s k m b ∷ es) = one_more es (Wait s k m b) ∙ own s _ _ (scheduled es)
scheduled (Answered s a ∷ es) = one_more es (Answered s a) ∙ own s _ _ (scheduled es)
scheduled (Commit s p ∷ es) = one_more es (Commit s p) ∙ own s _ _ (scheduled es)
scheduled (Rollback s c ∷ es) = one_more es (Rollback s c) ∙ own s _ _ (scheduled es)

-- ---- traces
module _ (p : Script) (w : Stage) where
  -- turns of sessions that can't turn drive nothing more
  idle_driven : (more ts : List ℕ) (x : List Event) → trace.IsDriven p w ts x → ((s : ℕ) → Has more s → can_turn p w x s ≡ false) → trace.IsDriven p w (more ++ ts) x
  idle_driven [] ts x d none = d
  idle_driven (s ∷ more) ts x d none = (x, idle_driven more ts x d (λ u m. none u (inr m)), inl (none s (inl refl), refl))

  run_of : (x : List Event) → IsLasting p w x → Run p w x
  run_of x l = record { legal = l.legal; follows = l.follows; lasts = l.lasts }

  one_trace : (more ts : List ℕ) (x y : List Event) → IsLasting p w x → IsLasting p w y → trace.IsDriven p w ts x → trace.IsDriven p w (more ++ ts) y → ((s : ℕ) → Has more s → can_turn p w x s ≡ false) → x ≡ y
  one_trace more ts x y lx ly dx dy none = driven_same p w (more ++ ts) x y (run_of x lx) (run_of y ly) (idle_driven more ts x dx none) dy

-- ---- runs
-- a run of a script to its end, in which memory lasted, and whose trace these turns drive
record IsKnown (plan : Plan) (ts : List ℕ) (v : RunShown) : Type 0 where
  pub legal : IsRun v
  pub lasts : Lasts v
  pub stage : IsStageOf plan v.engine.stage
  pub sessions : sessions_of v.script ≡ sessions_of plan
  pub ended : (s : ℕ) → IsSession s → has_ended v s ≡ true
  pub events : List Event
  pub run : IsRunOf events v.engine
  pub lasting : IsLasting (sessions_of plan) v.engine.stage events
  pub driven : trace.IsDriven (sessions_of plan) v.engine.stage ts events

-- a journal leaves but one table
executed_one : (A B : Rows → Statement → Answer → Type 0) (old : Rows) (ss : List Statement) (as' : List Answer) (m n : Rows) → ExecutesBy A old ss as' m → ExecutesBy B old ss as' n → n ≡ m
executed_one A B old [] [] m n h k = k ∙ sym h
executed_one A B old [] (a ∷ as') m n h k = absurd h
executed_one A B old (s ∷ ss) [] m n h k = absurd h
executed_one A B old (s ∷ ss) (a ∷ as') m n h k = executed_one A B (effect s a old) ss as' m n h.1 k.1

serial_one : (A B : Rows → Statement → Answer → Type 0) (old : Rows) (js : List Entry) (m n : Rows) → SerialBy A old js m → SerialBy B old js n → n ≡ m
serial_one A B old [] m n h k = k ∙ sym h
serial_one A B old (e ∷ js) m n h k =
    let same = executed_one A B old e.statements e.answers h.0 k.0 h.1 k.1 in
    serial_one A B h.0 js m n h.2 (subst (λ (rows : Rows). SerialBy B rows js n) same k.2)

pasts_same : (xs ys : List Past) → length xs ≡ length ys → ((i : ℕ) → slice_index_or xs i [] ≡ slice_index_or ys i []) → xs ≡ ys
pasts_same [] [] n h = refl
pasts_same [] (y ∷ ys) n h = absurd (omega arith)
pasts_same (x ∷ xs) [] n h = absurd (omega arith)
pasts_same (x ∷ xs) (y ∷ ys) n h =
    let a : x ≡ y = h zero in
    let b : xs ≡ ys = pasts_same xs ys (omega arith) (λ i. h (suc i)) in
    λ j. a j ∷ b j

-- where the one has come to its end, further turns of sessions make no difference
module _ (plan : Plan) (more ts : List ℕ) (v u : RunShown) (a : IsKnown plan ts v) (b : IsKnown plan (more ++ ts) u) (are_sessions : (s : ℕ) → Has more s → IsSession s) where
  abbrev ps : Script
  ps = sessions_of plan

  abbrev w : Stage
  w = v.engine.stage

  abbrev x : Stage
  x = u.engine.stage

  cannot : (s : ℕ) → Has more s → can_turn ps x a.events s ≡ false
  cannot s m =
      can_there plan w x a.stage b.stage ps a.events s
      ∙ (sym (ap (λ (p : Script). can_turn p w a.events s) (script_is v a.legal a.lasts ∙ a.sessions))
      ∙ cannot_ended v a.legal a.events a.run s (are_sessions s m) (a.ended s (are_sessions s m)))

  lasting_there : IsLasting ps x a.events
  lasting_there = record {
    legal = legal_there plan w x a.stage b.stage a.events a.lasting.legal;
    follows = follows_there plan w x a.stage b.stage ps a.events a.lasting.follows;
    lasts = a.lasting.lasts;
  }

  same_events : a.events ≡ b.events
  same_events = one_trace ps x more ts a.events b.events lasting_there b.lasting (driven_there plan w x a.stage b.stage ps ts a.events a.driven) b.driven cannot

  same_labels : u.engine.labels ≡ v.engine.labels
  same_labels = b.run.shows.labels ∙ (ap labels_of (sym same_events) ∙ sym a.run.shows.labels)

  same_past : (s : ℕ) → past_in u.past s ≡ past_in v.past s
  same_past s = elim (session_or_not s) [
    | inl is ↦ past_is u b.legal b.lasts s is ∙ (ap (λ (ls : List Label). all_begun (ends s ls)) same_labels ∙ sym (past_is v a.legal a.lasts s is))
    | inr out ↦ none_beyond u.past s b.legal.sessions out ∙ sym (none_beyond v.past s a.legal.sessions out)
  ]

  same_journal : u.engine.journal ≡ v.engine.journal
  same_journal =
      b.run.shows.journal
      ∙ (ap (λ (es : List Event). journal x es) (sym same_events)
      ∙ (journal_there plan w x a.stage b.stage a.events ∙ sym a.run.shows.journal))

  same_rows : (m n : Rows) → Leaves v m → Leaves u n → n ≡ m
  same_rows m n h k =
      serial_one (Reply w.settings) (Reply x.settings) w.opening v.engine.journal m n h
      (subst₂ (λ (rows : Rows) (js : List Entry). SerialBy (Reply x.settings) rows js n) (b.stage.opening ∙ sym a.stage.opening) same_journal k)

  equal : AreEqualRuns v u
  equal = record {
    labels = same_labels;
    journal = same_journal;
    rows = same_rows;
    past = pasts_same u.past v.past (b.legal.sessions ∙ sym a.legal.sessions) (λ i. same_past (suc i));
  }

-- ---- driven runs
module _ (plan : Plan) (v : RunShown) (run : IsLastingRun plan v) where
  abbrev count : ℕ
  count = run.driven.rounds

  leads : Leads (turns_of plan count) run.first v
  leads = subst (λ (x : Plan). Leads (turns_of x count) run.first v) run.start.script run.driven.leads

  legal : IsRun v
  legal = leads_legal (turns_of plan count) run.first v run.start.legal leads

  script : v.script ≡ plan
  script = leads_script (turns_of plan count) run.first v leads ∙ run.start.script

  pub trace_of : IsTraceOf plan count v
  trace_of =
      let lasts = lasted_so v run.lasted in
      let t = traced plan run.first run.start (turns_of plan count) v leads lasts in
      record {
        events = t.events;
        run = t.run;
        lasting = record {
          legal = t.run.legal;
          follows = subst (λ (g : Stage). Follows (sessions_of plan) g t.events) (sym t.stage) t.follows;
          lasts = memory_lasts v legal lasts t.events t.run;
        };
        driven = subst (λ (g : Stage). trace.IsDriven (sessions_of plan) g (turns_of plan count) t.events) (sym t.stage) t.driven;
      }

  known : IsKnown plan (turns_of plan count) v
  known = record {
    legal = legal;
    lasts = lasted_so v run.lasted;
    stage = subst (λ (x : Plan). IsStageOf x v.engine.stage) script legal.stage;
    sessions = ap sessions_of script;
    ended = run.driven.ended;
    events = trace_of.events;
    run = trace_of.run;
    lasting = trace_of.lasting;
    driven = trace_of.driven;
  }

  -- the turns of all of its rounds are sessions', and so those of a part of them
  parts_sessions : (more ts : List ℕ) → turns_of plan count ≡ more ++ ts → (s : ℕ) → Has more s → IsSession s
  parts_sessions more ts e s m = turns_sessions (turns_of plan count) run.first v leads s (subst (λ (xs : List ℕ). Has xs s) (sym e) (has_before more ts s m))

-- one that took no more rounds than the other
no_longer : (plan : Plan) (v u : RunShown) (a : IsLastingRun plan v) (b : IsLastingRun plan u) → a.driven.rounds ≤ b.driven.rounds → AreEqualRuns v u
no_longer plan v u a b le =
    let n = a.driven.rounds in
    let m = b.driven.rounds in
    let e = more_rounds plan n m le in
    equal plan (rounds_of plan (m - n)) (turns_of plan n) v u (known plan v a) (subst (λ (ts : List ℕ). IsKnown plan ts u) e (known plan u b))
    (parts_sessions plan u b (rounds_of plan (m - n)) (turns_of plan n) e)

turned : (v u : RunShown) → AreEqualRuns v u → AreEqualRuns u v
turned v u h = record { labels = sym h.labels; journal = sym h.journal; rows = λ m n x y. sym (h.rows n m y x); past = sym h.past }

pub equal_runs : (plan : Plan) (v u : RunShown) → IsLastingRun plan v → IsLastingRun plan u → AreEqualRuns v u
equal_runs plan v u a b = elim (cases_lt b.driven.rounds a.driven.rounds) [
  | inl less ↦ turned u v (no_longer plan u v b a (omega arith))
  | inr most ↦ no_longer plan v u a b most
]

-- ---- recorded runs
recorded : (plan : Plan) (v : RunShown) (h : IsRecorded plan v) → IsKnown plan (turns h.legal.events) v
recorded plan v h =
    let lasts = lasted_so v h.lasted in
    let script : begun_script v ≡ sessions_of plan = script_is v h.legal lasts ∙ same_sessions v.script plan h.sessions in
    let lasting : IsLasting (sessions_of plan) v.engine.stage h.legal.events = record {
      legal = h.legal.run.legal;
      follows = subst (λ (p : Script). Follows p v.engine.stage h.legal.events) script h.legal.follows;
      lasts = memory_lasts v h.legal lasts h.legal.events h.legal.run;
    } in
    record {
      legal = h.legal;
      lasts = lasts;
      stage = record {
        settings = h.legal.stage.settings ∙ h.settings;
        opening = h.legal.stage.opening ∙ h.rows;
        priorities = λ s is. h.legal.stage.priorities s is ∙ ap (λ (xs : List SessionScript). priority_in xs s) h.sessions;
      };
      sessions = same_sessions v.script plan h.sessions;
      ended = h.ended;
      events = h.legal.events;
      run = h.legal.run;
      lasting = lasting;
      driven = own_driven (sessions_of plan) v.engine.stage (turns h.legal.events) h.legal.events (run_of (sessions_of plan) v.engine.stage h.legal.events lasting) h.legal.run.settled refl;
    }
  where
    same_sessions : (x y : Plan) → x.sessions ≡ y.sessions → sessions_of x ≡ sessions_of y
    same_sessions x y e = ap (λ (xs : List SessionScript). map (λ (s : SessionScript). record { number = s.session; transactions = s.transactions }) xs) e

pub replays : (plan : Plan) (v u : RunShown) → IsRecorded plan v → IsLastingRun plan u → AreEqualRuns v u
replays plan v u h b =
    let n = b.driven.rounds in
    let order : after_turns plan.order [] ≡ turns h.legal.events =
    ap (λ (ss : List ℕ). after_turns ss []) (h.order ∙ ap schedule h.legal.run.shows.labels) ∙ scheduled h.legal.events in
    let e : turns_of plan n ≡ rounds_of plan n ++ turns h.legal.events = rounds_after plan n (after_turns plan.order []) ∙ ap (λ (ts : List ℕ). rounds_of plan n ++ ts) order in
    equal plan (rounds_of plan n) (turns h.legal.events) v u (recorded plan v h) (subst (λ (ts : List ℕ). IsKnown plan ts u) e (known plan u b))
    (parts_sessions plan u b (rounds_of plan n) (turns h.legal.events) e)
