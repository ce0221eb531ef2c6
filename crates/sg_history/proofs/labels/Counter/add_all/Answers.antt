use Rattle.std.proofs.Common.{sym, ap, ◌∙◌, subst}
use Rattle.sg_history.specs.Openings.{Held}
use Rattle.sg_history.specs.Views.{Known}
use Rattle.sg_history.specs.Steps.{MayAdd}
use Rattle.sg_history.specs.Writes.{event_of}
use Rattle.sg_history.proofs.Writing.{next_may, next_added}
use Rattle.sg_history.proofs.labels.Counter.add_all.Goals as goal

pub add_label-requires-clause-table : goal.add_label-requires-clause-table
add_label-requires-clause-table c = ap (λ (h : Held). h.table) c.loop-label.invariant ∙ c.requires.table

pub add_label-requires-clause-may : goal.add_label-requires-clause-may
add_label-requires-clause-may c =
    subst (λ (v : Known). MayAdd v (event_of c.args.asked.now.value c.label-item.result)) (sym (ap (λ (h : Held). h.known) c.loop-label.invariant))
    (next_may c.args.asked.now.value c.args.labels.now c.loop-label.label-index c.label-item.result c.loop-label-test.true c.label-item.is c.args.token.now.known c.requires.may)

pub loop-label-preserved : goal.loop-label-preserved
loop-label-preserved c =
    c.add_label.ensures
    ∙ next_added c.args.asked.now.value c.args.labels.now c.loop-label.label-index c.label-item.result c.loop-label-test.true c.label-item.is c.args.token.now c.loop-label.token c.loop-label.invariant
