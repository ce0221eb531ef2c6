use Rattle.std.proofs.Common.{rules, ◌≡◌, ◌∙◌, ◌++◌, w32, to_z, of_z}
use Rattle.std.proofs.lemmas.Result.{on_ok_weaker}
use Rattle.std.specs.Fmt.{signed_decimal}
use Rattle.sg_script.specs.Canonical.{spaced}
use Rattle.sg_script.proofs.LineTexts.{two_pairs}
use Rattle.sg_script.proofs.writing.append_corners.Goals as goal

pub returns : goal.returns
returns c =
    let xlow : to_z w32 (of_z w32 c.args.whole.xlow) ≡ c.args.whole.xlow = search rules in
    let ylow : to_z w32 (of_z w32 c.args.whole.ylow) ≡ c.args.whole.ylow = search rules in
    let xhigh : to_z w32 (of_z w32 c.args.whole.xhigh) ≡ c.args.whole.xhigh = search rules in
    let yhigh : to_z w32 (of_z w32 c.args.whole.yhigh) ≡ c.args.whole.yhigh = search rules in
    on_ok_weaker c.append_spot-2.result
    (λ more.
    two_pairs c.args.out.now.items (spaced (signed_decimal c.args.whole.xlow)) (spaced (signed_decimal c.args.whole.ylow))
    (spaced (signed_decimal c.args.whole.xhigh)) (spaced (signed_decimal c.args.whole.yhigh)) c.append_spot.new.out.items c.append_spot-2.new.out.items
    (c.in_ok-append_spot.ensures ∙ λ i. c.args.out.now.items ++ (spaced (signed_decimal (xlow i)) ++ spaced (signed_decimal (ylow i))))
    (more ∙ λ i. c.append_spot.new.out.items ++ (spaced (signed_decimal (xhigh i)) ++ spaced (signed_decimal (yhigh i)))))
    c.append_spot-2.ensures
