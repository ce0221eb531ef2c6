use Rattle.std.proofs.Common.{◌≡◌, ◌∙◌, drop, fold, length, ap, subst, sym}
use Rattle.std.proofs.lemmas.Bool.{iff_false}
use Rattle.left_right.specs.Sides.{view}
use Rattle.sg_copies.specs.Copied.{Copied, with_entry}
use Rattle.sg_fronts.specs.Journals.{Known}
use Rattle.sg_replica.specs.Queues.{MayPublish}
use Rattle.sg_replica.proofs.Taking.{brought_still, may_publish, none_in, without_unsent}
use Rattle.sg_replica.proofs.queues.bring.Goals as goal

pub publish-writer-requires : goal.publish-writer-requires
publish-writer-requires g c =
    let shown = c.args.writer.desk.shown.value in
    let queue = drop c.take_new.new.writer.behind c.take_new.new.writer.log.items in
    let same : c.take_new.new.writer.desk.shown.value ≡ shown = ap (λ d. d.shown.value) c.take_new.ensures.desk in
    let taken = without_unsent shown c.args.journal.now c.args.recorder.now c.take_new.new.recorder queue c.take_new.new.unsent c.in_default.ensures.ok.1 c.take_new.ensures.taken in
    subst (λ (s : Copied). MayPublish s (fold with_entry s queue)) (sym same)
    (may_publish (view c.args.writer.desk.place) shown _ queue c.args.recorder.now c.take_new.new.recorder c.args.journal.now c.requires.desk taken c.in_default.ensures.ok.0 c.requires.serial)

pub returns-then-not-has_pending_operations : goal.returns-then-not-has_pending_operations
returns-then-not-has_pending_operations g c =
    let desk = c.take_new.ensures.desk in
    let queue = drop c.take_new.new.writer.behind c.take_new.new.writer.log.items in
    let empty = none_in queue (iff_false c.has_pending_operations.ensures c.if-not-has_pending_operations.true) in
    brought_still c.args.journal.now c.args.writer.desk.shown.value c.take_new.new.writer.desk.shown.value (view c.args.writer.desk.place) (view c.take_new.new.writer.desk.place) c.args.recorder.now c.take_new.new.recorder _ queue
    c.take_new.new.unsent c.number.result c.requires.desk (ap (λ d. d.shown.value) desk) (ap (λ d. view d.place) desk) c.take_new.ensures.taken c.in_default.ensures.ok.0 c.in_default.ensures.ok.1 empty
    (c.number.ensures ∙ ap (λ (k : Known). length k.entries) c.front.ensures)
