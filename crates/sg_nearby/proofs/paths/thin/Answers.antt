use Rattle.std.proofs.Common.{ℕ, ◌≡◌, ◌+◌, ◌-◌, length, arith, sym, ◌∙◌, subst}
use Rattle.sg_nearby.proofs.Thinning.{Thinning, spot_at, thinning_keep, thinning_drop, thinning_last, moved}
use Rattle.sg_nearby.proofs.paths.thin.Goals as goal
use Rattle.sg_nearby.proofs.paths.thin.Goals.{then-spare-gt0+then-are_beside, else-spare-gt0+in_ok-push-2}

pub loop-at-preserved : goal.loop-at-preserved
loop-at-preserved c =
    let path = c.args.path.now in
    let cell = c.args.cell.now in
    let i = c.loop-at.at in
    let t = c.loop-at.invariant.so_far in
    let h = c.loop-at-test.true in
    elim c.if-spare-gt0.branch [
      | then-spare-gt0+then-are_beside w ↦ record {
        so_far = moved cell path c.loop-at.kept c.if-spare-gt0.kept c.loop-at.last c.if-spare-gt0.last (i + 1) (c.loop-at.spare - 1) c.if-spare-gt0.spare w.kept-is w.last-is w.spare-is
            (thinning_drop cell path c.loop-at.kept c.loop-at.last i c.loop-at.spare (omega arith) c.requires.within w.if-spare-gt0.true (sym w.are_beside.ensures ∙ w.if-are_beside.true) t);
      }
      | else-spare-gt0+in_ok-push-2 w ↦ record {
        so_far = moved cell path w.push-else-spare-gt0.new.self c.if-spare-gt0.kept (spot_at path i) c.if-spare-gt0.last (i + 1) c.loop-at.spare c.if-spare-gt0.spare w.kept-is w.last-is w.spare-is
            (thinning_keep cell path c.loop-at.kept w.push-else-spare-gt0.new.self c.loop-at.last i c.loop-at.spare (omega arith) c.requires.within w.in_ok-push-2.ensures.ok t);
      }
    ]

pub returns : goal.returns
returns c =
    let path = c.args.path.now in
    let some = c.requires.some in
    let at : c.loop-at.at ≡ length path - 1 = let h = c.loop-at-test.false in let k = c.loop-at.auto.at-end in omega arith in
    thinning_last c.args.cell.now path c.loop-at.kept c.push-2.new.self c.loop-at.last (length path - 1) c.loop-at.spare (omega arith) c.requires.within c.in_ok-push-3.ensures.ok
    (subst (λ (i : ℕ). Thinning c.args.cell.now path c.loop-at.kept c.loop-at.last i c.loop-at.spare) at c.loop-at.invariant.so_far)
