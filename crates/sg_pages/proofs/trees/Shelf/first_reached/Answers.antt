use Rattle.std.proofs.Common.{◌≡◌, suc, ◌-◌, sym, ap, ◌∙◌, subst, refl, arith}
use Rattle.std.specs.Map.{lookup_entry}
use Rattle.sg_pages.specs.Stored.{HasRisingKeys}
use Rattle.sg_pages.specs.Sorted.{is_reached}
use Rattle.sg_pages.specs.Trees.{IsTree, pairs_of}
use Rattle.sg_pages.proofs.Descent.{page_rises, nothing_reached, reached_value, reached_child}
use Rattle.sg_pages.proofs.trees.Shelf.first_reached.Goals as goal

pub loop-depth-init : goal.loop-depth-init
loop-depth-init g c = record { tree = c.requires.tree; rising = c.requires.rising; same = refl }

pub page-requires : goal.page-requires
page-requires g c = record { within = c.loop-depth.invariant.tree.0.0 }

pub page-requires-2 : goal.page-requires-2
page-requires-2 g c = record { within = c.loop-depth.invariant.tree.0.0 }

pub reached_entry-requires : goal.reached_entry-requires
reached_entry-requires g c =
    rw c.page.ensures.value (page_rises g.K.Ord.cmp g.met.K.Ord.total c.args.key.now c.args.strict c.args.self.now.stock.pages c.loop-depth.at c.loop-depth.depth c.loop-depth.invariant.tree c.loop-depth.invariant.rising)

pub reached_entry-requires-2 : goal.reached_entry-requires-2
reached_entry-requires-2 g c =
    rw c.page-2.ensures.value (page_rises g.K.Ord.cmp g.met.K.Ord.total c.args.key.now c.args.strict c.args.self.now.stock.pages c.loop-depth.at c.loop-depth.depth c.loop-depth.invariant.tree c.loop-depth.invariant.rising)

pub returns-in_default : goal.returns-in_default
returns-in_default g c =
    sym (nothing_reached g.K.Ord.cmp g.met.K.Ord.total c.args.key.now c.args.strict c.args.self.now.stock.pages c.loop-depth.at c.loop-depth.depth c.loop-depth.invariant.tree c.loop-depth.invariant.rising (rw c.page.ensures.value at c.in_default.ensures)) ∙ c.loop-depth.invariant.same

pub loop-depth-preserved : goal.loop-depth-preserved
loop-depth-preserved g c =
    let cmp = g.K.Ord.cmp in let pages = c.args.self.now.stock.pages in let at = c.loop-depth.at in let depth = c.loop-depth.depth in
    let above : depth ≡ suc (depth - 1) = let some = c.loop-depth-test.true in omega arith in
    let here = rw c.page.ensures.value at c.in-Some.ensures in
    let on = reached_child cmp g.met.K.Ord.total c.args.key.now c.args.strict pages at c.in-Some.entry.now here.0 here.1 (depth - 1) (subst (λ d. IsTree d pages at) above c.loop-depth.invariant.tree) (subst (λ d. HasRisingKeys cmp (pairs_of d pages at)) above c.loop-depth.invariant.rising) in
    rw c.child-at.ensures (record {
      tree = on.tree;
      rising = on.rising;
      same = sym on.seeks_is ∙ ap (λ d. lookup_entry (is_reached cmp c.args.key.now c.args.strict) (pairs_of d pages at)) (sym above) ∙ c.loop-depth.invariant.same;
    })

pub returns-in-None : goal.returns-in-None
returns-in-None g c =
    sym (nothing_reached g.K.Ord.cmp g.met.K.Ord.total c.args.key.now c.args.strict c.args.self.now.stock.pages c.loop-depth.at c.loop-depth.depth c.loop-depth.invariant.tree c.loop-depth.invariant.rising (rw c.page-2.ensures.value at c.in-None.ensures)) ∙ c.loop-depth.invariant.same

pub returns-in-Some-reached_entry : goal.returns-in-Some-reached_entry
returns-in-Some-reached_entry g c =
    let cmp = g.K.Ord.cmp in let pages = c.args.self.now.stock.pages in let at = c.loop-depth.at in
    let leaf : c.loop-depth.depth ≡ 0 = let none = c.loop-depth-test.false in omega arith in
    let here = rw c.page-2.ensures.value at c.in-Some-reached_entry.ensures in
    c.pair_in.ensures
    ∙ reached_value cmp g.met.K.Ord.total c.args.key.now c.args.strict pages at c.in-Some-reached_entry.entry.now here.0 here.1 (subst (λ d. IsTree d pages at) leaf c.loop-depth.invariant.tree) (subst (λ d. HasRisingKeys cmp (pairs_of d pages at)) leaf c.loop-depth.invariant.rising)
    ∙ ap (λ d. lookup_entry (is_reached cmp c.args.key.now c.args.strict) (pairs_of d pages at)) (sym leaf)
    ∙ c.loop-depth.invariant.same
