use Rattle.std.proofs.Common.{◌≡◌, ◌≤◌, ◌-◌, ℕ, suc, List, length, get_or, Some, sym, ap, ◌∙◌, subst}
use Rattle.std.specs.Prelude.{slice_get, option_copied}
use Rattle.sg_plain.specs.Serial.{Entry}
use Rattle.sg_modes.specs.Sessions.{IsSession}
use Rattle.sg_run.specs.declared.courses.Course.{Course}
use Rattle.sg_run.specs.declared.outcomes.Outcome.TheVariants.{Committed}
use Rattle.sg_run.specs.Courses.{course_in}
use Rattle.sg_run.specs.Runs.{RunShown, past_in, number_of, commit_in, outcome_in}
use Rattle.sg_run.specs.Inside.{run_of}
use Rattle.sg_run.proofs.Commits.{commit_is, least, most, number_is, committed_so, next_of_pred}
use Rattle.sg_run.proofs.Turning.{course_is, within_kept}
use Rattle.sg_run.proofs.runs.Run.commit_at.Goals as goal

pub number_of-number-requires-clause-least : goal.number_of-number-requires-clause-least
number_of-number-requires-clause-least g c =
    let v = c.self.inside in
    let e : Entry = c.in_ok-entry.entry.now in
    let there = ap (λ (es : List Entry). slice_get es (c.args.place - 1)) (sym c.journal.ensures) ∙ (sym c.at.ensures ∙ ap option_copied c.in_ok-entry.was) in
    subst (λ n. 1 ≤ n) (sym c.transaction.ensures) (least v.script v.engine v.courses.items c.self.invariant (c.args.place - 1) e there)

pub number_of-number-requires-clause-most : goal.number_of-number-requires-clause-most
number_of-number-requires-clause-most g c =
    let v = c.self.inside in
    let e : Entry = c.in_ok-entry.entry.now in
    let there = ap (λ (es : List Entry). slice_get es (c.args.place - 1)) (sym c.journal.ensures) ∙ (sym c.at.ensures ∙ ap option_copied c.in_ok-entry.was) in
    let is = subst IsSession c.session-s.ensures c.in_range.ensures in
    let at : course_in v.courses.items e.session ≡ c.index-2.result.now =
    ap (course_in v.courses.items) (sym c.session-s.ensures) ∙ course_is v.courses.items c.session-s.result c.index.result c.index-2.result.now c.index.ensures.place (within_kept v.script v.engine v.courses.items c.self.invariant c.index.result c.index.ensures.below) c.index-2.ensures in
    subst (λ n. n ≤ length c.index-2.result.now.numbers.items) (sym c.transaction.ensures)
    (subst (λ (x : Course). e.transaction ≤ length x.numbers.items) at (most v.script v.engine v.courses.items c.self.invariant (c.args.place - 1) e there is))

pub returns : goal.returns
returns g c =
    let v = c.self.inside in
    let r : RunShown = run_of v.script v.engine v.courses.items in
    let e : Entry = c.in_ok-entry.entry.now in
    let there = ap (λ (es : List Entry). slice_get es (c.args.place - 1)) (sym c.journal.ensures) ∙ (sym c.at.ensures ∙ ap option_copied c.in_ok-entry.was) in
    let is = subst IsSession c.session-s.ensures c.in_range.ensures in
    let at : course_in v.courses.items e.session ≡ c.index-2.result.now =
    ap (course_in v.courses.items) (sym c.session-s.ensures) ∙ course_is v.courses.items c.session-s.result c.index.result c.index-2.result.now c.index.ensures.place (within_kept v.script v.engine v.courses.items c.self.invariant c.index.result c.index.ensures.below) c.index-2.ensures in
    let number : c.number_of-number.result ≡ number_of (past_in r.past e.session) e.transaction =
    c.number_of-number.ensures ∙ (ap (λ n. get_or c.index-2.result.now.numbers.items (n - 1) 0) c.transaction.ensures ∙ (ap (λ (x : Course). get_or x.numbers.items (e.transaction - 1) 0) (sym at) ∙ number_is v.script v.engine v.courses.items c.self.invariant (c.args.place - 1) e there is)) in
    let session = c.session-s.ensures in
    let so = committed_so v.script v.engine v.courses.items c.self.invariant (c.args.place - 1) e there is in
    let place : suc (c.args.place - 1) ≡ c.args.place = next_of_pred c.args.place c.if-place-eq0.false in
    record {
      commit = (λ i. Some (session i, number i)) ∙ (sym (commit_is r c.args.place e c.if-place-eq0.false there) ∙ ap (λ (x : RunShown). commit_in x c.args.place) c.self.view_is);
      outcome =
          subst (λ (x : RunShown). outcome_in x c.session-s.result c.number_of-number.result ≡ Some (Committed c.args.place)) c.self.view_is
          ((λ i. outcome_in r (session i) (number i)) ∙ (so ∙ ap (λ n. Some (Committed n)) place));
    }
