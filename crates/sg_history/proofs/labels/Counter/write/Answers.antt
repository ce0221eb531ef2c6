use Rattle.std.proofs.Common.{sym, ap, ap₂, ◌∙◌, subst}
use Rattle.sg_history.specs.Openings.{Held}
use Rattle.sg_history.specs.Views.{Known, with_pen, without_pen, pen_of}
use Rattle.sg_history.specs.Steps.{Looks}
use Rattle.sg_history.specs.Writes.{events_of, history_of, HasWritten, HasMore}
use Rattle.sg_history.proofs.Writing.{may_all, one_stage, has_written, has_more}
use Rattle.sg_history.proofs.labels.Counter.write.Goals as goal

looked : goal.add_all-requires-clause-may
looked c =
    let at = ap (λ (h : Held). h.known) c.take_pen.ensures ∙ ap₂ with_pen (ap (λ (h : Held). h.known) c.note-note.ensures.same) (ap (λ (h : Held). h.known) c.replace-taken.ensures.value) in
    let looks = subst (λ (v : Known). Looks v c.look.result c.look.new.token.known) at c.look.ensures.looks in
    may_all c.args.pen.now.known c.args.token.now.known c.look.new.token.known c.look.result (events_of c.args.asked.now.value c.args.labels.now) c.requires.may looks

pub add_all-requires-clause-may : goal.add_all-requires-clause-may
add_all-requires-clause-may = looked

pub returns-clause-pen : goal.returns-clause-pen
returns-clause-pen c =
    let es = events_of c.args.asked.now.value c.args.labels.now in
    let at = ap (λ (h : Held). h.known) c.take_pen.ensures ∙ ap₂ with_pen (ap (λ (h : Held). h.known) c.note-note.ensures.same) (ap (λ (h : Held). h.known) c.replace-taken.ensures.value) in
    let looks = subst (λ (v : Known). Looks v c.look.result c.look.new.token.known) at c.look.ensures.looks in
    let given = ap (λ (h : Held). h.known) c.give_pen.ensures.pen ∙ ap (λ (h : Held). pen_of h.known) c.add_all.ensures in
    subst (HasMore es c.args.pen.now.known) (sym given)
    (has_more c.args.pen.now.known c.args.token.now.known c.look.new.token.known c.look.result es c.in_use.ensures c.requires.may looks)

pub returns-clause-token : goal.returns-clause-token
returns-clause-token c =
    let es = events_of c.args.asked.now.value c.args.labels.now in
    let at = ap (λ (h : Held). h.known) c.take_pen.ensures ∙ ap₂ with_pen (ap (λ (h : Held). h.known) c.note-note.ensures.same) (ap (λ (h : Held). h.known) c.replace-taken.ensures.value) in
    let looks = subst (λ (v : Known). Looks v c.look.result c.look.new.token.known) at c.look.ensures.looks in
    let left = ap (λ (h : Held). h.known) c.give_pen.ensures.rest ∙ ap (λ (h : Held). without_pen h.known) c.add_all.ensures in
    subst (HasWritten es (history_of c.args.pen.now.known) c.args.token.now.known) (sym left)
    (has_written c.args.pen.now.known c.args.token.now.known c.look.new.token.known c.look.result es c.requires.may looks)

pub returns-clause-stage : goal.returns-clause-stage
returns-clause-stage c =
    let at = ap (λ (h : Held). h.known) c.take_pen.ensures ∙ ap₂ with_pen (ap (λ (h : Held). h.known) c.note-note.ensures.same) (ap (λ (h : Held). h.known) c.replace-taken.ensures.value) in
    let looks = subst (λ (v : Known). Looks v c.look.result c.look.new.token.known) at c.look.ensures.looks in
    one_stage c.args.pen.now.known c.args.token.now.known c.look.new.token.known c.look.result (events_of c.args.asked.now.value c.args.labels.now) c.requires.may looks
