use Rattle.std.proofs.Common.{◌≡◌, arith, sym, subst}
use Rattle.std.proofs.lemmas.Grind.{common_steps}
use Rattle.sg_plain.specs.Rows.{AreRows, without_keys}
use Rattle.sg_plain.proofs.Lookups.{AreRows-without_keys}
use Rattle.sg_plain.proofs.rows.PlainRows.remove_all.Goals as goal

left : (c : goal.After-truncate) → c.truncate.new.self.items ≡ without_keys c.args.keys.now c.self.inside.rows.items
left c = grind (arith, common_steps)

pub invariant_of-self : goal.invariant_of-self
invariant_of-self c = subst AreRows (sym (left c)) (AreRows-without_keys c.self.inside.rows.items c.args.keys.now c.self.invariant)
