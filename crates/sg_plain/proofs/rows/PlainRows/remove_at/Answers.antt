use Rattle.std.proofs.Common.{◌≡◌, sym, subst, ap, ◌∙◌}
use Rattle.sg_plain.specs.Rows.{Rows, AreRows, without_key}
use Rattle.sg_plain.specs.Places.{key_at}
use Rattle.std.specs.List.{remove}
use Rattle.sg_plain.proofs.Lookups.{AreRows-without_key}
use Rattle.sg_plain.proofs.PlaceLemmas.{without_key-at}
use Rattle.sg_plain.proofs.rows.PlainRows.remove_at.Goals as goal
use Rattle.sg_plain.proofs.rows.PlainRows.remove_at.Goals.{Joined-remove}

removed : (c : Joined-remove) → c.remove.new.self.items ≡ without_key (key_at c.args.self.now c.args.place) c.args.self.now
removed c =
    c.remove.ensures.items
    ∙ (ap (λ (rows : Rows). remove rows c.args.place) c.self.view_is
    ∙ sym (without_key-at c.args.self.now c.args.place (subst AreRows c.self.view_is c.self.invariant).rising c.requires))

pub invariant_of-self : goal.invariant_of-self
invariant_of-self c =
    subst AreRows (sym (removed c)) (AreRows-without_key c.args.self.now (key_at c.args.self.now c.args.place) (subst AreRows c.self.view_is c.self.invariant))

pub returns : goal.returns
returns c = removed c
