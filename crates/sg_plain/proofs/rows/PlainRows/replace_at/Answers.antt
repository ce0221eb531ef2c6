use Rattle.std.proofs.Common.{◌≡◌, ◌<◌, length, set, sym, subst, ap, ◌∙◌}
use Rattle.sg_plain.specs.Rows.{Rows, AreRows, put}
use Rattle.sg_plain.specs.Places.{key_at}
use Rattle.sg_plain.proofs.Lookups.{AreRows-put}
use Rattle.sg_plain.proofs.PlaceLemmas.{set-at}
use Rattle.sg_plain.proofs.rows.PlainRows.replace_at.Goals as goal
use Rattle.sg_plain.proofs.rows.PlainRows.replace_at.Goals.{Joined-index_mut-shape}

replaced : (c : Joined-index_mut-shape) → set c.self.inside.rows.items c.args.place (c.index_mut.result.now.0, c.args.shape) ≡ put (key_at c.args.self.now c.args.place) c.args.shape c.args.self.now
replaced c =
    let rows = c.self.inside.rows.items in
    let within : c.args.place < length rows = subst (λ (all : Rows). c.args.place < length all) (sym c.self.view_is) c.requires.within in
    set-at rows c.args.place c.index_mut.result.now c.args.shape c.self.invariant.rising within c.index_mut.ensures.value
    ∙ ap (λ (all : Rows). put (key_at all c.args.place) c.args.shape all) c.self.view_is

pub invariant_of-self : goal.invariant_of-self
invariant_of-self c =
    subst AreRows (sym (replaced c))
    (AreRows-put c.args.self.now (key_at c.args.self.now c.args.place) c.args.shape (subst AreRows c.self.view_is c.self.invariant) c.requires.sound)

pub returns : goal.returns
returns c = replaced c
