use Rattle.std.proofs.Common.{◌++◌, ◌∷◌, [], sym, subst}
use Rattle.sg_plain.specs.Keys.{IsRising}
use Rattle.sg_plain.specs.Rows.{Rows, AreRows, keys_of}
use Rattle.sg_plain.proofs.Lookups.{AreRows-push}
use Rattle.sg_plain.proofs.rows.PlainRows.push.Goals as goal

pub invariant_of-self-2 : goal.invariant_of-self-2
invariant_of-self-2 c =
    subst AreRows (sym c.in_ok-push.ensures.items)
    (AreRows-push c.self.inside.rows.items c.args.key c.args.shape c.self.invariant
    (subst (λ (rows : Rows). IsRising (keys_of rows ++ c.args.key ∷ [])) (sym c.self.view_is) c.requires.above) c.requires.sound)
