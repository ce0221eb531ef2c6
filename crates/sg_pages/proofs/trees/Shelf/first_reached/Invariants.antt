use Rattle.std.proofs.Common.{◌≡◌}
use Rattle.std.specs.Map.{lookup_entry}
use Rattle.sg_pages.specs.Stored.{HasRisingKeys}
use Rattle.sg_pages.specs.Sorted.{is_reached}
use Rattle.sg_pages.specs.Trees.{IsTree, pairs_of}
use Rattle.sg_pages.proofs.trees.Shelf.first_reached.Given as goal

abbrev pub invariant-loop-depth : goal.invariant-loop-depth
invariant-loop-depth g l = record {
  tree : IsTree l.depth l.self.stock.pages l.at;
  rising : HasRisingKeys g.K.Ord.cmp (pairs_of l.depth l.self.stock.pages l.at);
  same : lookup_entry (is_reached g.K.Ord.cmp l.key l.strict) (pairs_of l.depth l.self.stock.pages l.at) ≡ lookup_entry (is_reached g.K.Ord.cmp l.key l.strict) (pairs_of l.levels l.self.stock.pages l.root);
}

abbrev pub decreases-loop-depth : goal.decreases-loop-depth
decreases-loop-depth g l = l.depth
