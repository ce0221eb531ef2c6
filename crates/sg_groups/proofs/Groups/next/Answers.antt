use Rattle.std.proofs.Common.{ap, ◌∙◌}
use Rattle.sg_groups.proofs.GroupLaws.{item_found, next_is, rising_pairs}
use Rattle.sg_groups.proofs.Groups.next.Goals as goal

pub returns-in-None-clause-first : goal.returns-in-None-clause-first
returns-in-None-clause-first g c =
    rw (← c.self.view_is) (ap (item_found g.A.Ord.cmp c.args.group.now) c.in-None.ensures.first ∙ next_is g.A.Ord.cmp g.B.Ord.cmp g.met.A.Ord.total c.args.group.now c.args.other c.self.inside.entries.pairs c.after.ensures.rising)

pub returns-in-None-clause-rising : goal.returns-in-None-clause-rising
returns-in-None-clause-rising g c = rw (← c.self.view_is) (rising_pairs g.A.Ord.cmp g.B.Ord.cmp c.self.inside.entries.pairs c.after.ensures.rising)

pub returns-in-Some-clause-first : goal.returns-in-Some-clause-first
returns-in-Some-clause-first g c =
    rw (← c.self.view_is) (c.item_in.ensures ∙ ap (item_found g.A.Ord.cmp c.args.group.now) c.in-Some.ensures.first ∙ next_is g.A.Ord.cmp g.B.Ord.cmp g.met.A.Ord.total c.args.group.now c.args.other c.self.inside.entries.pairs c.after.ensures.rising)

pub returns-in-Some-clause-rising : goal.returns-in-Some-clause-rising
returns-in-Some-clause-rising g c = rw (← c.self.view_is) (rising_pairs g.A.Ord.cmp g.B.Ord.cmp c.self.inside.entries.pairs c.after.ensures.rising)
