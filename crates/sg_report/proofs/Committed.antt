-- The commit that is told of an entry.
use Rattle.std.proofs.Common.{◌≡◌, ℕ, zero, suc, ◌-◌, ◌≤◌, List, length, map, Option, Some, None, sym, ap, ◌∙◌, arith}
use Rattle.std.specs.Prelude.{slice_get, option_map}
use Rattle.std.proofs.lemmas.Option.{slice_get-map}
use Rattle.sg_plain.specs.declared.statements.Answer.{Answer}
use Rattle.sg_plain.specs.Serial.{Entry}
use Rattle.sg_texts.specs.Texts.{Commit}
use Rattle.sg_run.specs.Runs.{RunShown, commit_in, number_of, past_in}
use Rattle.sg_run.proofs.Dues.{some_at}
use Rattle.sg_report.specs.Reports.{scripted, journal_in, commit_of}

none_some : {A : Type 0} (x : A) (o : Option A) → o ≡ None → o ≡ Some x → ⊥
none_some x o e f = cc

pub some_pair : (a b : ℕ × ℕ) → ◌≡◌ {A = Option (ℕ × ℕ)} (Some a) (Some b) → a ≡ b
some_pair a b e = cc

-- each place of the journal has one
pub entry_there : (v : RunShown) (place : ℕ) → 1 ≤ place → place ≤ length v.engine.journal → (e : Entry) × (slice_get v.engine.journal (place - 1) ≡ Some e)
entry_there v place least most = some_at v.engine.journal (place - 1) (omega arith)

pub no_entry : (v : RunShown) (place : ℕ) → 1 ≤ place → place ≤ length v.engine.journal → slice_get v.engine.journal (place - 1) ≡ None → ⊥
no_entry v place least most none = let x = entry_there v place least most in none_some x.0 (slice_get v.engine.journal (place - 1)) none x.1

commit_is : (v : RunShown) (place : ℕ) (e : Entry) → 1 ≤ place → slice_get v.engine.journal (place - 1) ≡ Some e → commit_in v place ≡ Some (e.session, number_of (past_in v.past e.session) e.transaction)
commit_is v zero e least at = absurd (omega arith)
commit_is v (suc i) e least at =
    let q : suc i - 1 ≡ i = omega arith in
    ap (option_map (λ (d : Entry). (d.session, number_of (past_in v.past d.session) d.transaction))) (ap (slice_get v.engine.journal) (sym q) ∙ at)

pub no_commit : (v : RunShown) (place : ℕ) → 1 ≤ place → place ≤ length v.engine.journal → commit_in v place ≡ None → ⊥
no_commit v place least most none =
    let x = entry_there v place least most in
    none_some (x.0.session, number_of (past_in v.past x.0.session) x.0.transaction) (commit_in v place) none (commit_is v place x.0 least x.1)

pub commit_there : (v : RunShown) (place s n : ℕ) (e : Entry) (answers : List Answer) → 1 ≤ place → commit_in v place ≡ Some (s, n) → slice_get v.engine.journal (place - 1) ≡ Some e → answers ≡ e.answers →
    slice_get (map commit_of (journal_in v)) (place - 1) ≡ Some (record { session = s; transaction = n; answers = answers })
commit_there v place s n e answers least told at same =
    let both = sym told ∙ commit_is v place e least at in
    let pair = halves s n e.session (number_of (past_in v.past e.session) e.transaction) both in
    slice_get-map commit_of (journal_in v) (place - 1)
    ∙ (ap (option_map commit_of) (slice_get-map (scripted v.past) v.engine.journal (place - 1) ∙ ap (option_map (scripted v.past)) at)
    ∙ by_parts s n e.session (number_of (past_in v.past e.session) e.transaction) answers e.answers pair.0 pair.1 same)
  where
    halves : (s n t m : ℕ) → ◌≡◌ {A = Option (ℕ × ℕ)} (Some (s, n)) (Some (t, m)) → (s ≡ t) × (n ≡ m)
    halves s n t m e = let p = some_pair (s, n) (t, m) e in (ap (λ (x : ℕ × ℕ). x.0) p, ap (λ (x : ℕ × ℕ). x.1) p)

    by_parts : (s n t m : ℕ) (as' bs : List Answer) → s ≡ t → n ≡ m → as' ≡ bs
        → ◌≡◌ {A = Option Commit} (Some (record { session = t; transaction = m; answers = bs })) (Some (record { session = s; transaction = n; answers = as' }))
    by_parts s n t m as' bs e f g = λ i. Some (record { session = sym e i; transaction = sym f i; answers = sym g i })
