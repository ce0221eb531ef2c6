use Rattle.std.proofs.Common.{refl, sym, subst, take, ◌+◌, ◌∙◌, slice_index_or, ℕ}
use Rattle.sg_plain.specs.Keys.{IsRising}
use Rattle.sg_plain.specs.Rows.{Rows}
use Rattle.sg_stores.specs.Agreement.{seen_rows}
use Rattle.sg_trace.specs.Pending.{ArePending}
use Rattle.sg_engine.proofs.Gathered.{pending_below, pending_next}
use Rattle.sg_engine.proofs.queries.job_of.Goals as goal

pub offer-requires-clause-above : goal.offer-requires-clause-above
offer-requires-clause-above c =
    pending_below (seen_rows c.args.s c.args.rows.now.rows) c.as_slice-key-items.result.now c.as_slice-sure.result.now c.loop-key.job.items c.loop-key.key-index
    (slice_index_or c.as_slice-key-items.result.now c.loop-key.key-index 0)
    (subst IsRising (sym c.as_slice-key-items.ensures.all) c.as_slice-key-items.ensures.rising) c.loop-key-test.true refl c.loop-key.invariant.items

pub loop-key-preserved : goal.loop-key-preserved
loop-key-preserved c =
    let seen = seen_rows c.args.s c.args.rows.now.rows in
    let found = c.as_slice-key-items.result.now in
    let sure = c.as_slice-sure.result.now in
    let i = c.loop-key.key-index in
    let key : ℕ = slice_index_or found i 0 in
    let above = pending_below seen found sure c.loop-key.job.items i key
    (subst IsRising (sym c.as_slice-key-items.ensures.all) c.as_slice-key-items.ensures.rising) c.loop-key-test.true refl c.loop-key.invariant.items in record {
      name = c.in_ok-offer.ensures.name ∙ c.loop-key.invariant.name;
      test = c.in_ok-offer.ensures.test ∙ c.loop-key.invariant.test;
      query = c.in_ok-offer.ensures.query ∙ c.loop-key.invariant.query;
      items = subst (λ (items : Rows). ArePending seen (take (i + 1) found) sure items) (sym c.in_ok-offer.ensures.items)
          (pending_next seen found sure c.loop-key.job.items i key c.loop-key-test.true refl above c.loop-key.invariant.items);
    }
