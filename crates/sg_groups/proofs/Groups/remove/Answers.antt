use Rattle.std.specs.Prelude.{not}
use Rattle.std.proofs.Common.{◌+◌, ◌&&◌, Some, length, sym, ap, ◌∙◌}
use Rattle.std.specs.Ordering.{is_eq}
use Rattle.std.specs.Map.{keys_of}
use Rattle.std.specs.Option.{is_some}
use Rattle.std.proofs.lemmas.Map.Made.{is_some-lookup}
use Rattle.sg_groups.specs.Groups.{entry_cmp, pair_cmp, pairs_of}
use Rattle.sg_groups.proofs.GroupLaws.{entry_total, has_key, has_key-remove_entry, has_pair_is, length-removed, rising_pairs}
use Rattle.sg_groups.proofs.Groups.remove.Goals as goal

pub returns-clause-pairs : goal.returns-clause-pairs
returns-clause-pairs g c = λ a b.
    let by_group = g.A.Ord.cmp in let by_item = g.B.Ord.cmp in let es = c.self.inside.entries.pairs in let fs = c.remove.new.self.pairs in
    rw (← c.self.view_is) (sym (has_pair_is by_group by_item a b fs)
    ∙ ap (λ es. has_key (entry_cmp by_group by_item) (keys_of es) (a, Some b)) c.remove.ensures.pairs
    ∙ has_key-remove_entry (entry_cmp by_group by_item) (entry_total by_group by_item g.met.A.Ord.total g.met.B.Ord.total) (a, Some b) (c.args.group.now, Some c.args.item.now) es c.self.invariant
    ∙ ap (λ t. not (is_eq (pair_cmp by_group by_item (a, b) (c.args.group.now, c.args.item.now))) && t) (has_pair_is by_group by_item a b es))

pub returns-clause-shorter : goal.returns-clause-shorter
returns-clause-shorter g c =
    rw (← c.self.view_is) (λ has. ap (λ es. length (pairs_of es) + 1) c.remove.ensures.pairs ∙ length-removed g.A.Ord.cmp g.B.Ord.cmp c.args.group.now c.args.item.now c.self.inside.entries.pairs has)

pub returns-clause-rising : goal.returns-clause-rising
returns-clause-rising g c = rising_pairs g.A.Ord.cmp g.B.Ord.cmp c.remove.new.self.pairs c.remove.ensures.rising

pub returns-clause-freed : goal.returns-clause-freed
returns-clause-freed g c =
    let by_group = g.A.Ord.cmp in let by_item = g.B.Ord.cmp in let es = c.self.inside.entries.pairs in let a = c.args.group.now in let b = c.args.item.now in
    rw (← c.self.view_is) (λ has. c.remove.ensures.freed (ap is_some c.remove.ensures.value ∙ is_some-lookup (λ x. is_eq (entry_cmp by_group by_item (a, Some b) x)) es ∙ has_pair_is by_group by_item a b es ∙ has))
