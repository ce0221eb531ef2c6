use Rattle.std.proofs.Common.{◌≡◌, ◌++◌, ◌+◌, ◌<◌, length, [], ◌∷◌, sym, ap, ◌∙◌, subst}
use Rattle.sg_cells.specs.Cells.{front}
use Rattle.sg_cells.specs.Ranges.{is_ancestor, ancestors, fresh}
use Rattle.sg_ranges.specs.Pairs.{each_alone, AreRanges}
use Rattle.sg_ranges.proofs.Pairs.{Rest, rest_first, rest_skip, rest_push, rest_ranges}
use Rattle.sg_ranges.proofs.queries.add_ancestors.Goals as goal
use Rattle.sg_ranges.proofs.queries.add_ancestors.Goals.{then-not-is_ancestor+in_ok-add, else-not-is_ancestor}

pub loop-level-init : goal.loop-level-init
loop-level-init c = record { rest = rest_first c.args.before c.args.cell c.args.pairs.now }

pub add-requires : goal.add-requires
add-requires c =
    let p = c.args.before in
    let q = c.args.cell in
    let i = c.loop-level.level in
    let all = c.args.pairs.now ++ each_alone (fresh p (ancestors q)) in
    let below : i < length q = subst (λ n. i < n) c.level-level-end.ensures.level c.loop-level-test.true in
    let above : c.is_ancestor.result ≡ is_ancestor (front i q) p = c.is_ancestor.ensures ∙ ap (λ x. is_ancestor x p) c.front-front.ensures in
    subst (λ x. AreRanges (c.loop-level.pairs ++ (x, x) ∷ [])) (sym c.front-front.ensures)
    (rest_ranges p q i c.loop-level.pairs all c.loop-level.invariant.rest below (sym above ∙ c.if-not-is_ancestor.true) c.requires)

pub loop-level-preserved : goal.loop-level-preserved
loop-level-preserved c =
    let p = c.args.before in
    let q = c.args.cell in
    let i = c.loop-level.level in
    let all = c.args.pairs.now ++ each_alone (fresh p (ancestors q)) in
    let below : i < length q = subst (λ n. i < n) c.level-level-end.ensures.level c.loop-level-test.true in
    let above : c.is_ancestor.result ≡ is_ancestor (front i q) p = c.is_ancestor.ensures ∙ ap (λ x. is_ancestor x p) c.front-front.ensures in
    record {
      rest = elim c.if-not-is_ancestor.branch [
        | then-not-is_ancestor+in_ok-add w ↦
            let x : c.if-not-is_ancestor.pairs ≡ c.loop-level.pairs ++ (front i q, front i q) ∷ [] = w.pairs-is ∙ (w.in_ok-add.ensures ∙ ap (λ x. c.loop-level.pairs ++ (x, x) ∷ []) c.front-front.ensures) in
            subst (λ v. Rest p q (i + 1) v all) (sym x) (rest_push p q i c.loop-level.pairs all c.loop-level.invariant.rest below (sym above ∙ w.if-not-is_ancestor.true))
        | else-not-is_ancestor w ↦ subst (λ v. Rest p q (i + 1) v all) (sym w.pairs-is) (rest_skip p q i c.loop-level.pairs all c.loop-level.invariant.rest below (sym above ∙ w.if-not-is_ancestor.false))
      ];
    }
