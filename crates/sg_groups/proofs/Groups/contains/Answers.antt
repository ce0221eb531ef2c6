use Rattle.std.proofs.Common.{Some, sym, ap, ◌∙◌}
use Rattle.std.specs.Ordering.{is_eq}
use Rattle.std.specs.Option.{is_some}
use Rattle.std.proofs.lemmas.Map.Made.{is_some-lookup}
use Rattle.sg_groups.specs.Groups.{entry_cmp}
use Rattle.sg_groups.proofs.GroupLaws.{is_some-copied, has_pair_is, rising_pairs}
use Rattle.sg_groups.proofs.Groups.contains.Goals as goal

pub returns-clause-found : goal.returns-clause-found
returns-clause-found g c =
    let a = c.args.group.now in let b = c.args.item.now in let es = c.self.inside.entries.pairs in
    rw (← c.self.view_is) (c.is_some.ensures ∙ sym (is_some-copied c.get.result) ∙ ap is_some c.get.ensures.value
    ∙ is_some-lookup (λ x. is_eq (entry_cmp g.A.Ord.cmp g.B.Ord.cmp (a, Some b) x)) es ∙ has_pair_is g.A.Ord.cmp g.B.Ord.cmp a b es)

pub returns-clause-rising : goal.returns-clause-rising
returns-clause-rising g c = rw (← c.self.view_is) (rising_pairs g.A.Ord.cmp g.B.Ord.cmp c.self.inside.entries.pairs c.get.ensures.rising)
