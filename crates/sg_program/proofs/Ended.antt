-- Of a run whose transactions have all ended: each has one outcome, and the journal has those that committed.
use Rattle.std.proofs.Common.{◌≡◌, ◌⊎◌, ℕ, zero, suc, ◌+◌, ◌-◌, ◌<◌, ◌≤◌, Bool, true, false, cond, not, ◌||◌, List, [], ◌∷◌, ◌++◌, map, length, eqb, Option, Some, None, refl, sym, ap, ◌∙◌, subst, inl, inr, arith, append-nil}
use Rattle.std.specs.Prelude.{slice_get, is_some, option_map}
use Rattle.std.proofs.lemmas.List.{map-append}
use Rattle.std.proofs.lemmas.Bool.{cases_lt}
use Rattle.std.proofs.lemmas.Option.{slice_get-map, slice_get_within}
use Rattle.sg_cells.specs.Laws.{Has}
use Rattle.sg_modes.specs.Sessions.{IsSession}
use Rattle.sg_plain.specs.Serial.{Entry}
use Rattle.sg_plain.specs.Transactions.{TransactionPlan}
use Rattle.sg_script.specs.Plans.{Plan, sessions_of}
use Rattle.sg_trace.specs.declared.labels.Cause.TheVariants.{Asked, NoMemory}
use Rattle.sg_trace.specs.declared.labels.Label.{Label}
use Rattle.sg_trace.specs.Measure.{one}
use Rattle.sg_trace.specs.Scripts.{transactions_of}
use Rattle.sg_trace.specs.Traces.{Stage, Event, Begin, Ask, Take, Put, Wait, Victim, Answered, Commit, Rollback, state, labels_of, label_of}
use Rattle.sg_trace.specs.Legal.{IsLegal, IsStage, journal, entry_of}
use Rattle.sg_laws.proofs.Kept.{legal_good, live_member}
use Rattle.sg_laws.proofs.Present.{Has-cases}
use Rattle.sg_serial.proofs.Ordered.{past}
use Rattle.sg_turns.specs.Outcomes.{outcomes}
use Rattle.sg_turns.proofs.Outcomes.{end_once, entries_committed, commits_are}
use Rattle.sg_engine.specs.Shown.{is_live_in}
use Rattle.sg_run.specs.declared.outcomes.Outcome.{Outcome}
use Rattle.sg_run.specs.declared.outcomes.Outcome.TheVariants as outcome
use Rattle.sg_run.specs.Ends.{begun_count, ends, end_by, outcome_by}
use Rattle.sg_run.specs.Runs.{RunShown, IsRun, past_in, at_hand, has_ended, outcomes_in, outcome_in, commit_in, number_of}
use Rattle.sg_run.proofs.Begun.{at_is}
use Rattle.sg_run.proofs.Dues.{some_at}
use Rattle.sg_run.proofs.Goes.{ends_append, begun_is}
use Rattle.sg_program.proofs.Scripted.{nth, nth_least, ends_length, end_at, commit_among}
use Rattle.sg_program.proofs.Orders.{IsCounted}
use Rattle.sg_report.proofs.Committed.{some_pair}
use Rattle.sg_program.specs.Plays.{AllEnded}

-- ---- the entries of the journal
-- each is a session's
entry_session : (w : Stage) → IsStage w → (es : List Event) → IsLegal w es → (e : Entry) → Has (journal w es) e → IsSession e.session
entry_session w r [] l e h = absurd h
entry_session w r (Begin u t ∷ es) l e h = entry_session w r es l.0 e h
entry_session w r (Ask u n st ∷ es) l e h = entry_session w r es l.0 e h
entry_session w r (Take u k m ∷ es) l e h = entry_session w r es l.0 e h
entry_session w r (Put u k m ∷ es) l e h = entry_session w r es l.0 e h
entry_session w r (Wait u k m b ∷ es) l e h = entry_session w r es l.0 e h
entry_session w r (Victim u c ∷ es) l e h = entry_session w r es l.0 e h
entry_session w r (Answered u a ∷ es) l e h = entry_session w r es l.0 e h
entry_session w r (Rollback u c ∷ es) l e h = entry_session w r es l.0 e h
entry_session w r (Commit u p ∷ es) l e h = elim (Has-cases (journal w es) (entry_of u ((state w es).of u) ∷ []) e h) [
  | inl m ↦ entry_session w r es l.0 e m
  | inr m ↦ elim m [
    | inl q ↦ subst (λ (d : Entry). IsSession d.session) q (live_member w (state w es) u (legal_good w r es l.0) l.1.0.live)
    | inr i ↦ absurd i
  ]
]

-- and has a number there from 1 on
entry_least : (w : Stage) (es : List Event) → IsLegal w es → (e : Entry) → Has (journal w es) e → 1 ≤ e.transaction
entry_least w [] l e h = absurd h
entry_least w (Begin u t ∷ es) l e h = entry_least w es l.0 e h
entry_least w (Ask u n st ∷ es) l e h = entry_least w es l.0 e h
entry_least w (Take u k m ∷ es) l e h = entry_least w es l.0 e h
entry_least w (Put u k m ∷ es) l e h = entry_least w es l.0 e h
entry_least w (Wait u k m b ∷ es) l e h = entry_least w es l.0 e h
entry_least w (Victim u c ∷ es) l e h = entry_least w es l.0 e h
entry_least w (Answered u a ∷ es) l e h = entry_least w es l.0 e h
entry_least w (Rollback u c ∷ es) l e h = entry_least w es l.0 e h
entry_least w (Commit u p ∷ es) l e h = elim (Has-cases (journal w es) (entry_of u ((state w es).of u) ∷ []) e h) [
  | inl m ↦ entry_least w es l.0 e m
  | inr m ↦ elim m [
    | inl q ↦ subst (λ (d : Entry). 1 ≤ d.transaction) q (live_begun w es l.0 u l.1.0.live)
    | inr i ↦ absurd i
  ]
]
  where
    live_begun : (w : Stage) (es : List Event) → IsLegal w es → (s : ℕ) → ((state w es).of s).live ≡ true → 1 ≤ ((state w es).of s).begun
    live_begun w es l s live = let b = end_once w es l s in let o = ap one live in omega (arith, b, o)

-- it is one of those that were begun and are over
pub entry_counted : (v : RunShown) → (r : IsRun v) → (e : Entry) → Has (journal v.engine.stage r.events) e → IsCounted v.past e
entry_counted v r e h =
    let w = v.engine.stage in
    let is = entry_session w r.staged r.events r.run.legal e h in
    let b = begun_is v r r.events r.run e.session is in
    let c = past w r.events r.run.legal e h in
    record { least = entry_least w r.events r.run.legal e h; most = below (((state w r.events).of e.session).live) refl b c.0 c.1 }
  where
    below : (b : Bool) → ((state v.engine.stage r.events).of e.session).live ≡ b
        → begun_count (past_in v.past e.session) + one ((state v.engine.stage r.events).of e.session).live ≡ ((state v.engine.stage r.events).of e.session).begun
        → e.transaction ≤ ((state v.engine.stage r.events).of e.session).begun
        → (((state v.engine.stage r.events).of e.session).live ≡ true → e.transaction < ((state v.engine.stage r.events).of e.session).begun)
        → e.transaction ≤ begun_count (past_in v.past e.session)
    below true live b most less = let lt = less live in let o = ap one live in omega (arith, b, o, lt)
    below false live b most less = let o = ap one live in omega (arith, b, o, most)

-- ---- how many outcomes there are
hand_none : (v : RunShown) (s : ℕ) → has_ended v s ≡ true → at_hand v s ≡ None
hand_none v s h = go (is_live_in v.engine s) (at_hand v s) h
  where
    go : (b : Bool) (o : Option TransactionPlan) → not (b || is_some o) ≡ true → o ≡ None
    go true o e = cc
    go false None e = refl
    go false (Some t) e = cc

past_whole : (v : RunShown) → IsRun v → (s : ℕ) → IsSession s → has_ended v s ≡ true → length (past_in v.past s) ≡ length (transactions_of (sessions_of v.script) s)
past_whole v r s is h =
    let w = r.within s is in
    go (cases_lt (length (past_in v.past s)) (length (transactions_of (sessions_of v.script) s)))
    (sym (at_is v.script.sessions s (length (past_in v.past s))) ∙ hand_none v s h) w
  where
    ts : List TransactionPlan
    ts = transactions_of (sessions_of v.script) s

    go : (length (past_in v.past s) < length ts) ⊎ (length ts ≤ length (past_in v.past s)) → slice_get ts (length (past_in v.past s)) ≡ None
        → length (past_in v.past s) + one (is_live_in v.engine s) ≤ length ts → length (past_in v.past s) ≡ length ts
    go (inl lt) none w = let x = some_at ts (length (past_in v.past s)) lt in let e = x.1 in absurd (cc)
    go (inr ge) none w = omega arith

pub each_outcome : (v : RunShown) → IsRun v → (s : ℕ) → IsSession s → has_ended v s ≡ true → length (outcomes_in v s) ≡ length (transactions_of (sessions_of v.script) s)
each_outcome v r s is h = ends_length (past_in v.past s) (ends s v.engine.labels) (r.over s is) ∙ past_whole v r s is h

-- ---- commits
abbrev outcome_of : Event → Outcome
outcome_of (Commit u p) = outcome.Committed p
outcome_of (Victim u c) = outcome.Victim c
outcome_of (Rollback u c) = outcome_by c
outcome_of (Begin u t) = outcome.NoMemory
outcome_of (Ask u n st) = outcome.NoMemory
outcome_of (Take u k m) = outcome.NoMemory
outcome_of (Put u k m) = outcome.NoMemory
outcome_of (Wait u k m b) = outcome.NoMemory
outcome_of (Answered u a) = outcome.NoMemory

-- the outcomes by labels are those by events
one_more : (es : List Event) (s : ℕ) → ends s (labels_of es) ≡ map outcome_of (outcomes es s) → (b : Bool) (e : Event)
    → ends s (labels_of es) ++ cond b (outcome_of e ∷ []) [] ≡ map outcome_of (cond b (outcomes es s ++ e ∷ []) (outcomes es s))
one_more es s h true e = ap (λ (xs : List Outcome). xs ++ outcome_of e ∷ []) h ∙ sym (map-append outcome_of (outcomes es s) (e ∷ []))
one_more es s h false e = append-nil (ends s (labels_of es)) ∙ h

end_more : (es : List Event) (s : ℕ) → ends s (labels_of es) ≡ map outcome_of (outcomes es s) → (e : Event) → ends s (labels_of es) ++ end_by s (label_of e) ≡ map outcome_of (outcomes (e ∷ es) s)
end_more es s h (Commit u p) = one_more es s h (eqb u s) (Commit u p)
end_more es s h (Victim u c) = one_more es s h (eqb u s) (Victim u c)
end_more es s h (Rollback u c) = one_more es s h (eqb u s) (Rollback u c)
end_more es s h (Begin u t) = one_more es s h false (Begin u t)
end_more es s h (Ask u n st) = one_more es s h false (Ask u n st)
end_more es s h (Take u k m) = one_more es s h false (Take u k m)
end_more es s h (Put u k m) = one_more es s h false (Put u k m)
end_more es s h (Wait u k m b) = one_more es s h false (Wait u k m b)
end_more es s h (Answered u a) = one_more es s h false (Answered u a)

ends_are : (es : List Event) (s : ℕ) → ends s (labels_of es) ≡ map outcome_of (outcomes es s)
ends_are [] s = refl
ends_are (e ∷ es) s =
    ends_append s (labels_of es) (label_of e ∷ [])
    ∙ (ap (λ (xs : List Outcome). ends s (labels_of es) ++ xs) (append-nil (end_by s (label_of e))) ∙ end_more es s (ends_are es s) e)

-- an event with the outcome of a commit is one
commit_event : (e : Event) (p : ℕ) → outcome_of e ≡ outcome.Committed p → (u : ℕ) × (e ≡ Commit u p)
commit_event (Commit u q) p e = let same : q ≡ p = cc in (u, ap (Commit u) same)
commit_event (Victim u c) p e = absurd (cc)
commit_event (Rollback u Asked) p e = absurd (cc)
commit_event (Rollback u NoMemory) p e = absurd (cc)
commit_event (Begin u t) p e = absurd (cc)
commit_event (Ask u n st) p e = absurd (cc)
commit_event (Take u k m) p e = absurd (cc)
commit_event (Put u k m) p e = absurd (cc)
commit_event (Wait u k m b) p e = absurd (cc)
commit_event (Answered u a) p e = absurd (cc)

record IsOrigin {X Y : Type 0} (f : X → Y) (xs : List X) (i : ℕ) (y : Y) : Type 0 where
  pub x : X
  pub at : slice_get xs i ≡ Some x
  pub is : f x ≡ y

origin : {X Y : Type 0} (f : X → Y) (xs : List X) (i : ℕ) (y : Y) → slice_get (map f xs) i ≡ Some y → IsOrigin f xs i y
origin f [] i y e = absurd (cc)
origin f (x ∷ xs) zero y e = record { x = x; at = refl; is = (cc) }
origin f (x ∷ xs) (suc i) y e = let o = origin f xs i y e in record { x = o.x; at = o.at; is = o.is }

some_event : (a b : Event) → ◌≡◌ {A = Option Event} (Some a) (Some b) → a ≡ b
some_event a b e = cc

same_place : (u s p q : ℕ) → Commit u p ≡ Commit s q → p ≡ q
same_place u s p q e = cc

module _ (v : RunShown) (r : IsRun v) where
  ends_shown : (s : ℕ) → ends s v.engine.labels ≡ map outcome_of (outcomes r.events s)
  ends_shown s = ap (λ (ls : List Label). ends s ls) r.run.shows.labels ∙ ends_are r.events s

  -- the transaction that was the (i + 1)-th to begin committed as the p-th
  record IsEntryAt (s i p : ℕ) : Type 0 where
    pub entry : Entry
    pub positive : p ≡ suc (p - 1)
    pub at : slice_get v.engine.journal (p - 1) ≡ Some entry
    pub session : entry.session ≡ s
    pub number : entry.transaction ≡ suc i

  entry_at : (s i p : ℕ) → slice_get (ends s v.engine.labels) i ≡ Some (outcome.Committed p) → IsEntryAt s i p
  entry_at s i p e =
      let w = v.engine.stage in
      let o = origin outcome_of (outcomes r.events s) i (outcome.Committed p) (ap (λ (os : List Outcome). slice_get os i) (sym (ends_shown s)) ∙ e) in
      let c = commit_event o.x p o.is in
      let there : slice_get (outcomes r.events s) i ≡ Some (Commit c.0 p) = o.at ∙ ap Some c.1 in
      let d = commits_are w r.events r.run.legal s i c.0 p there in
      let back = entries_committed w r.events r.run.legal (p - 1) d.0 d.1 in
      let place : d.0.transaction - 1 ≡ i = omega (arith, d.3) in
      let back' : slice_get (outcomes r.events s) i ≡ Some (Commit d.0.session (suc (p - 1))) =
      ap (λ (u : ℕ). slice_get (outcomes r.events u) i) (sym d.2) ∙ (ap (slice_get (outcomes r.events d.0.session)) (sym place) ∙ back) in
      record {
        entry = d.0;
        positive = same_place c.0 d.0.session p (suc (p - 1)) (some_event (Commit c.0 p) (Commit d.0.session (suc (p - 1))) (sym there ∙ back'));
        at = ap (λ (js : List Entry). slice_get js (p - 1)) r.run.shows.journal ∙ d.1;
        session = d.2;
        number = d.3;
      }

  commit_forth : (s n p : ℕ) → outcome_in v s n ≡ Some (outcome.Committed p) → commit_in v p ≡ Some (s, n)
  commit_forth s zero p e = absurd (cc)
  commit_forth s (suc place) p e =
      let among = commit_among 1 (past_in v.past s) (ends s v.engine.labels) place p e in
      let found = entry_at s among.i p among.at in
      subst (λ (q : ℕ). commit_in v q ≡ Some (s, suc place)) (sym found.positive)
      (ap (option_map (λ (d : Entry). (d.session, number_of (past_in v.past d.session) d.transaction))) found.at
      ∙ named found.entry found.session (ap (λ (t : ℕ). nth 1 (past_in v.past s) (t - 1)) found.number ∙ (shorter among.i ∙ among.number)))
    where
      shorter : (i : ℕ) → nth 1 (past_in v.past s) (suc i - 1) ≡ nth 1 (past_in v.past s) i
      shorter i = let q : suc i - 1 ≡ i = omega arith in ap (nth 1 (past_in v.past s)) q

      counted : 1 + place ≡ suc place
      counted = omega arith

      named : (d : Entry) → d.session ≡ s → number_of (past_in v.past s) d.transaction ≡ 1 + place
          → ◌≡◌ {A = Option (ℕ × ℕ)} (Some (d.session, number_of (past_in v.past d.session) d.transaction)) (Some (s, suc place))
      named d same number = ap (λ (u : ℕ). Some (u, number_of (past_in v.past u) d.transaction)) same ∙ ap (λ (m : ℕ). Some (s, m)) (number ∙ counted)

  -- the outcome at a number is that of the transaction that has it
  numbered : (s m n : ℕ) (o : Outcome) → m ≡ n → 1 ≤ m → slice_get (outcomes_in v s) (m - 1) ≡ Some o → outcome_in v s n ≡ Some o
  numbered s m zero o e least end = absurd (omega arith)
  numbered s m (suc k) o e least end = let q : k ≡ m - 1 = omega arith in ap (slice_get (outcomes_in v s)) q ∙ end

  placed : (s n i : ℕ) (d : Entry) → IsSession s → slice_get v.engine.journal i ≡ Some d → d.session ≡ s → number_of (past_in v.past d.session) d.transaction ≡ n → outcome_in v s n ≡ Some (outcome.Committed (suc i))
  placed s n i d is at same number =
      let os = ends s v.engine.labels in
      let at' : slice_get (journal v.engine.stage r.events) i ≡ Some d = ap (λ (js : List Entry). slice_get js i) (sym r.run.shows.journal) ∙ at in
      let c = entries_committed v.engine.stage r.events r.run.legal i d at' in
      let end : slice_get os (d.transaction - 1) ≡ Some (outcome.Committed (suc i)) =
      ap (λ (xs : List Outcome). slice_get xs (d.transaction - 1)) (ends_shown s)
      ∙ (slice_get-map outcome_of (outcomes r.events s) (d.transaction - 1)
      ∙ ap (option_map outcome_of) (ap (λ (u : ℕ). slice_get (outcomes r.events u) (d.transaction - 1)) (sym same) ∙ c)) in
      let within = slice_get_within os (d.transaction - 1) (outcome.Committed (suc i)) end in
      let over = r.over s is in
      let m : nth 1 (past_in v.past s) (d.transaction - 1) ≡ n = ap (λ (u : ℕ). number_of (past_in v.past u) d.transaction) (sym same) ∙ number in
      let least = nth_least 1 (past_in v.past s) (d.transaction - 1) (omega arith) in
      numbered s (nth 1 (past_in v.past s) (d.transaction - 1)) n (outcome.Committed (suc i)) m least
      (end_at 1 (past_in v.past s) os (d.transaction - 1) (outcome.Committed (suc i)) over within end)

  by_entry : (s n i : ℕ) → IsSession s → (o : Option Entry) → slice_get v.engine.journal i ≡ o
      → option_map {U = ℕ × ℕ} (λ (d : Entry). (d.session, number_of (past_in v.past d.session) d.transaction)) o ≡ Some (s, n) → outcome_in v s n ≡ Some (outcome.Committed (suc i))
  by_entry s n i is None at e = absurd (cc)
  by_entry s n i is (Some d) at e =
      let p = some_pair (d.session, number_of (past_in v.past d.session) d.transaction) (s, n) e in
      placed s n i d is at (ap (λ (x : ℕ × ℕ). x.0) p) (ap (λ (x : ℕ × ℕ). x.1) p)

  commit_back : (s n p : ℕ) → IsSession s → commit_in v p ≡ Some (s, n) → outcome_in v s n ≡ Some (outcome.Committed p)
  commit_back s n zero is e = absurd (cc)
  commit_back s n (suc i) is e = by_entry s n i is (slice_get v.engine.journal i) refl e

-- all of it, of a run of this script
pub all_ended : (plan : Plan) (v : RunShown) → IsRun v → v.script ≡ plan → ((s : ℕ) → IsSession s → has_ended v s ≡ true) → AllEnded plan v
all_ended plan v r script ended = record {
  each = λ s is. each_outcome v r s is (ended s is) ∙ ap (λ (p : Plan). length (transactions_of (sessions_of p) s)) script;
  commits = λ s n p is. (commit_forth v r s n p, commit_back v r s n p is);
}
