use Rattle.std.proofs.Common.{◌≡◌, List, Some, None, sym, ◌∙◌, subst}
use Rattle.std.specs.Prelude.{IfOk}
use Rattle.std.proofs.lemmas.Result.{IfOk-weaker}
use Rattle.sg_plain.specs.declared.statements.Answer.{Answer}
use Rattle.sg_plain.specs.Transactions.{TransactionPlan}
use Rattle.sg_engine.specs.Shown.{IsBetween}
use Rattle.sg_run.specs.Runs.{RunShown}
use Rattle.sg_run.specs.Nexts.{IsNextOf, MayGoOn}
use Rattle.sg_run.specs.Inside.{run_of}
use Rattle.sg_run.specs.Turns.{IsFree}
use Rattle.sg_run.proofs.Dues.{live_hand, may_go_on}
use Rattle.sg_run.proofs.Freed.{between_live, between_free}
use Rattle.sg_run.proofs.Turning.{course_is, hand_of, within_kept}
use Rattle.sg_run.proofs.runs.Run.next_of.Goals as goal

pub unreachable-requires : goal.unreachable-requires
unreachable-requires g c =
    let v = c.self.inside in
    let r : RunShown = run_of v.script v.engine v.courses.items in
    let between = subst (λ (x : RunShown). IsBetween x.engine c.args.s) (sym c.self.view_is) c.requires in
    let live = between_live v.engine c.args.s between in
    let at = course_is v.courses.items c.args.s c.index.result c.index-2.result.now c.index.ensures.place (within_kept v.script v.engine v.courses.items c.self.invariant c.index.result c.index.ensures.below) c.index-2.ensures in
    let hand = hand_of v.script v.engine v.courses.items c.args.s c.index-2.result.now c.len-over.result at c.len-over.ensures in
    let t = live_hand r c.self.invariant.run c.args.s c.in_range.ensures live in
    let none : None ≡ Some t.0 = c.in-None.ensures.found ∙ (sym hand ∙ t.1) in
    cc

pub returns-clause-next : goal.returns-clause-next
returns-clause-next g c =
    let v = c.self.inside in
    let r : RunShown = run_of v.script v.engine v.courses.items in
    let between = subst (λ (x : RunShown). IsBetween x.engine c.args.s) (sym c.self.view_is) c.requires in
    let live = between_live v.engine c.args.s between in
    let at = course_is v.courses.items c.args.s c.index.result c.index-2.result.now c.index.ensures.place (within_kept v.script v.engine v.courses.items c.self.invariant c.index.result c.index.ensures.below) c.index-2.ensures in
    let hand = hand_of v.script v.engine v.courses.items c.args.s c.index-2.result.now c.len-over.result at c.len-over.ensures in
    let t : TransactionPlan = c.in-Some.transaction.now in
    let answers : List Answer = c.answers.result.now.items in
    subst (λ (x : RunShown). IfOk c.next_in.result (MayGoOn x c.args.s)) c.self.view_is
    (IfOk-weaker c.next_in.result (IsNextOf t c.len-answered.result) (MayGoOn r c.args.s)
    (λ it next. may_go_on r c.self.invariant.run c.args.s c.in_range.ensures t answers it live (hand ∙ sym c.in-Some.ensures.found) c.answers.ensures (subst (λ n. IsNextOf t n it) c.len-answered.ensures next))
    c.next_in.ensures)

pub returns-clause-free : goal.returns-clause-free
returns-clause-free g c =
    let v = c.self.inside in
    let r : RunShown = run_of v.script v.engine v.courses.items in
    let between = subst (λ (x : RunShown). IsBetween x.engine c.args.s) (sym c.self.view_is) c.requires in
    subst (λ (x : RunShown). IsFree x c.args.s) c.self.view_is (between_free r c.self.invariant.run c.args.s c.in_range.ensures between)
