use Rattle.std.proofs.Common.{◌||◌, Some, sym, ap, ◌∙◌}
use Rattle.std.specs.Ordering.{is_eq}
use Rattle.std.specs.Map.{keys_of}
use Rattle.sg_groups.specs.Groups.{entry_cmp, pair_cmp}
use Rattle.sg_groups.proofs.GroupLaws.{entry_total, has_key, has_key-insert_entry, has_pair_is, rising_pairs}
use Rattle.sg_groups.proofs.Groups.insert_reserved.Goals as goal

pub returns-clause-pairs : goal.returns-clause-pairs
returns-clause-pairs g c = λ a b.
    let by_group = g.A.Ord.cmp in let by_item = g.B.Ord.cmp in let es = c.self.inside.entries.pairs in let fs = c.insert_reserved.new.self.pairs in
    rw (← c.self.view_is) (sym (has_pair_is by_group by_item a b fs)
    ∙ ap (λ es. has_key (entry_cmp by_group by_item) (keys_of es) (a, Some b)) c.insert_reserved.ensures.pairs
    ∙ has_key-insert_entry (entry_cmp by_group by_item) (entry_total by_group by_item g.met.A.Ord.total g.met.B.Ord.total) (a, Some b) (c.args.group, Some c.args.item) tt es
    ∙ ap (λ t. is_eq (pair_cmp by_group by_item (a, b) (c.args.group, c.args.item)) || t) (has_pair_is by_group by_item a b es))

pub returns-clause-rising : goal.returns-clause-rising
returns-clause-rising g c = rising_pairs g.A.Ord.cmp g.B.Ord.cmp c.insert_reserved.new.self.pairs c.insert_reserved.ensures.rising
