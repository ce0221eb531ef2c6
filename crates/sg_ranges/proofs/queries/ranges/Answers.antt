use Rattle.std.proofs.Common.{◌≡◌, List, [], sym, subst}
use Rattle.std.specs.Prelude.{IfOk}
use Rattle.sg_cells.specs.Tess.{Entry}
use Rattle.sg_cells.specs.Ranges.{cells_of}
use Rattle.sg_ranges.specs.Pairs.{AreRanges, pairs_after}
use Rattle.sg_ranges.proofs.Rising.{list_rises, list_ids, list_named, list_related, list_shared, list_rising}
use Rattle.sg_ranges.proofs.queries.ranges.Goals as goal

pub ranges_of-requires : goal.ranges_of-requires
ranges_of-requires c = subst (λ (es : List Entry). AreRanges (pairs_after [] (cells_of es))) (sym c.as_slice.ensures) (list_rises c.args.cells.now c.len-count.ensures.apart c.len-count.ensures.codes)

pub returns : goal.returns
returns c =
    let es = c.args.cells.now in
    let apart = c.len-count.ensures.apart in
    let codes = c.len-count.ensures.codes in
    let r = c.ranges_of.result in
    let are = subst (λ (es : List Entry). IfOk c.ranges_of.result (λ pairs. pairs ≡ pairs_after [] (cells_of es))) c.as_slice.ensures c.ranges_of.ensures in
    record {
      pairs = list_ids es apart codes r are;
      named = list_named es apart codes r are;
      related = list_related es apart codes r are;
      shared = list_shared es apart codes r are;
      rise = list_rising es apart codes r are;
    }
