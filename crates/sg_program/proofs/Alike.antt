-- Of runs of one script in which memory lasts one thing is told.
use Rattle.std.proofs.Common.{◌≡◌, ℕ, zero, suc, ◌+◌, ◌<◌, ◌≤◌, Bool, true, false, cond, ◌⊎◌, List, [], ◌∷◌, ◌++◌, length, map, eqb, Option, Some, Result, Ok, refl, sym, ap, ap₂, ◌∙◌, subst, inl, inr, arith}
use Rattle.std.specs.List.{flat_map}
use Rattle.std.proofs.lemmas.Bool.{eqb-true}
use Rattle.std.proofs.lemmas.Option.{slice_get_within}
use Rattle.sg_cells.specs.Laws.{Has}
use Rattle.sg_modes.specs.Sessions.{IsSession}
use Rattle.sg_plain.specs.Serial.{Entry}
use Rattle.sg_plain.specs.Transactions.{TransactionPlan}
use Rattle.sg_report.specs.Reports.{Tells, asked, scripted, commit_of, other_by, other_at, others_of, others_in}
use Rattle.sg_script.specs.declared.faults.ScriptFault.{ScriptFault}
use Rattle.sg_script.specs.declared.sessions.SessionScript.{SessionScript}
use Rattle.sg_script.specs.Plans.{Plan}
use Rattle.sg_trace.specs.declared.labels.Label.{Label}
use Rattle.sg_trace.specs.Scripts.{transactions_of}
use Rattle.sg_trace.specs.Traces.{count_from}
use Rattle.sg_texts.specs.declared.others.Ending.TheVariants as ending
use Rattle.sg_texts.specs.declared.others.Other.{Other}
use Rattle.sg_texts.specs.Told.{Told, told_text}
use Rattle.sg_run.specs.declared.outcomes.Outcome.{Outcome}
use Rattle.sg_run.specs.declared.outcomes.Outcome.TheVariants.{NoMemory}
use Rattle.sg_run.specs.Ends.{Past}
use Rattle.sg_run.specs.Runs.{RunShown, outcomes_in, outcome_in}
use Rattle.sg_driver.specs.Laws as driven
use Rattle.sg_driver.specs.Laws.{IsLastingRun, AreEqualRuns}
use Rattle.sg_driver.proofs.Equal.{equal_runs}
use Rattle.sg_program.specs.Plays.{IsRun, IsWholeRun}
use Rattle.sg_program.specs.Runs.{IsTextOf}
use Rattle.sg_program.specs.Laws.{MemoryLasted}

-- ---- where a transaction is told
has_left : {A : Type 0} (xs ys : List A) (x : A) → Has xs x → Has (xs ++ ys) x
has_left [] ys x h = absurd h
has_left (y ∷ xs) ys x (inl e) = inl e
has_left (y ∷ xs) ys x (inr h) = inr (has_left xs ys x h)

has_right : {A : Type 0} (xs ys : List A) (x : A) → Has ys x → Has (xs ++ ys) x
has_right [] ys x h = h
has_right (y ∷ xs) ys x h = inr (has_right xs ys x h)

in_each : {A B : Type 0} (f : A → List B) (xs : List A) (x : A) (y : B) → Has xs x → Has (f x) y → Has (flat_map f xs) y
in_each f [] x y h k = absurd h
in_each {A} {B} f (z ∷ xs) x y (inl e) k = has_left (f z) (flat_map f xs) y (subst (λ (a : A). Has (f a) y) (sym e) k)
in_each f (z ∷ xs) x y (inr h) k = has_right (f z) (flat_map f xs) y (in_each f xs x y h k)

first_or_later : (n k : ℕ) → n ≤ k → (n ≡ k) ⊎ (suc n ≤ k)
first_or_later n k le = grind arith

counted : (n m k : ℕ) → n ≤ k → k < n + m → Has (count_from n m) k
counted n zero k le lt = absurd (omega arith)
counted n (suc m) k le lt = elim (first_or_later n k le) [
  | inl same ↦ inl same
  | inr later ↦ inr (counted (suc n) m k later (omega arith))
]

-- a session of the script with its transactions
record IsListed (sessions : List SessionScript) (s count : ℕ) : Type 0 where
  pub script : SessionScript
  pub there : Has sessions script
  pub session : script.session ≡ s
  pub count_is : length script.transactions ≡ count

abbrev transactions_in : List SessionScript → ℕ → List TransactionPlan
transactions_in sessions s = transactions_of (map (λ (x : SessionScript). record { number = x.session; transactions = x.transactions }) sessions) s

listed : (sessions : List SessionScript) (s : ℕ) → 1 ≤ length (transactions_in sessions s) → IsListed sessions s (length (transactions_in sessions s))
listed [] s h = absurd (omega arith)
listed (x ∷ rest) s h = go (eqb x.session s) refl h (listed rest s)
  where
    others : List TransactionPlan
    others = transactions_in rest s

    go : (b : Bool) → eqb x.session s ≡ b → 1 ≤ length (cond b x.transactions others) → (1 ≤ length others → IsListed rest s (length others)) → IsListed (x ∷ rest) s (length (cond b x.transactions others))
    go true e h ih = record { script = x; there = inl refl; session = eqb-true x.session s e; count_is = refl }
    go false e h ih = let l = ih h in record { script = l.script; there = inr l.there; session = l.session; count_is = l.count_is }

module _ (plan : Plan) (labels trace : Bool) (last : RunShown) (told : Told) (tells : Tells labels trace last told) (finished : IsWholeRun plan last told.rows) where
  -- a transaction that ended for want of memory is told so
  told_want : (s place : ℕ) → IsSession s → outcome_in last s (suc place) ≡ Some NoMemory → Has told.others (record { session = s; transaction = suc place; ending = ending.NoMemory })
  told_want s place is e =
      let at = slice_get_within (outcomes_in last s) place NoMemory e in
      let each = finished.ended.each s is in
      let l = listed plan.sessions s (omega (arith, at, each)) in
      let n = l.count_is in
      let other : Other = record { session = s; transaction = suc place; ending = ending.NoMemory } in
      let here : Has (other_at last l.script.session (suc place)) other =
      subst (λ u. Has (other_at last u (suc place)) other) (sym l.session) (subst (λ (o : Option Outcome). Has (other_by s (suc place) o) other) (sym e) (inl refl)) in
      let own = in_each (other_at last l.script.session) (count_from 1 (length l.script.transactions)) (suc place) other (counted 1 (length l.script.transactions) (suc place) (omega arith) (omega (arith, at, each, n))) here in
      subst (λ (os : List Other). Has os other) (sym tells.others)
      (in_each (others_of last) last.script.sessions l.script other (subst (λ (p : Plan). Has p.sessions l.script) (sym finished.script) l.there) own)

  pub lasted : MemoryLasted told → driven.MemoryLasted last
  lasted h s zero is e = absurd (cc)
  lasted h s (suc place) is e = h (record { session = s; transaction = suc place; ending = ending.NoMemory }) (told_want s place is e) refl

pub lasting : (plan : Plan) (labels : Bool) (told : Told) (r : IsRun plan labels told) → MemoryLasted told → IsLastingRun plan r.last
lasting plan labels told r h = record { first = r.first; start = r.start; driven = r.driven; lasted = lasted plan labels false r.last told r.tells r.finished h }

-- ---- one text
-- the other transactions are those of the script's sessions
pub same_others : (v u : RunShown) → u.script.sessions ≡ v.script.sessions → AreEqualRuns v u → others_in u ≡ others_in v
same_others v u sessions same =
    ap (flat_map (others_of u)) sessions
    ∙ (ap (λ (past : List Past). flat_map (others_of (record { script = u.script; engine = u.engine; past = past })) v.script.sessions) same.past
    ∙ ap (λ (ls : List Label). flat_map (others_of (record { script = u.script; engine = record { stage = v.engine.stage; labels = ls; journal = v.engine.journal; seats = v.engine.seats; jobs = v.engine.jobs }; past = v.past })) v.script.sessions) same.labels)

told_alike : (plan : Plan) (labels : Bool) (a b : Told) → IsRun plan labels a → IsRun plan labels b → MemoryLasted a → MemoryLasted b → b ≡ a
told_alike plan labels a b r q la lb =
    let same = equal_runs plan r.last q.last (lasting plan labels a r la) (lasting plan labels b q lb) in
    let commits : b.commits ≡ a.commits =
    q.tells.commits
    ∙ (ap₂ (λ (past : List Past) (js : List Entry). map commit_of (map (scripted past) js)) same.past same.journal ∙ sym r.tells.commits) in
    let others : b.others ≡ a.others = q.tells.others ∙ (same_others r.last q.last (ap (λ (p : Plan). p.sessions) (q.finished.script ∙ sym r.finished.script)) same ∙ sym r.tells.others) in
    let rows = same.rows a.rows b.rows r.tells.rows q.tells.rows in
    let told_labels : b.labels ≡ a.labels = q.tells.labels ∙ (ap (λ (ls : List Label). asked labels ls) same.labels ∙ sym r.tells.labels) in
    let turns : b.schedule ≡ a.schedule = q.tells.turns ∙ sym r.tells.turns in
    λ i. record { commits = commits i; others = others i; rows = rows i; labels = told_labels i; schedule = turns i }

ok_same : (x y : Plan) → ◌≡◌ {A = Result Plan ScriptFault} (Ok x) (Ok y) → x ≡ y
ok_same x y e = cc

pub one_text : (labels : Bool) (bytes text other : List ℕ) (run : IsTextOf labels bytes text) (again : IsTextOf labels bytes other) → MemoryLasted run.text_is.told → MemoryLasted again.text_is.told → other ≡ text
one_text labels bytes text other run again la lb =
    let plans : again.plan ≡ run.plan = ok_same again.plan run.plan (sym again.script ∙ run.script) in
    let alike = told_alike run.plan labels run.text_is.told again.text_is.told run.text_is.run (subst (λ (p : Plan). IsRun p labels again.text_is.told) plans again.text_is.run) la lb in
    again.text_is.is ∙ (ap told_text alike ∙ sym run.text_is.is)
