use Rattle.std.proofs.Common.{◌≡◌, sym, subst, ap, ◌∙◌}
use Rattle.sg_plain.specs.Rows.{Rows, AreRows, put}
use Rattle.std.specs.List.{insert}
use Rattle.sg_plain.proofs.Lookups.{AreRows-put}
use Rattle.sg_plain.proofs.PlaceLemmas.{put-gap}
use Rattle.sg_plain.proofs.rows.PlainRows.insert_at.Goals as goal

put_is : (c : goal.In_ok-insert) → c.insert.new.self.items ≡ put c.args.key c.args.shape c.args.self.now
put_is c =
    c.in_ok-insert.ensures.items
    ∙ (ap (λ (rows : Rows). insert rows c.args.place (c.args.key, c.args.shape)) c.self.view_is
    ∙ sym (put-gap c.args.self.now c.args.key c.args.place c.args.shape (subst AreRows c.self.view_is c.self.invariant).rising c.requires.gap))

pub invariant_of-self-2 : goal.invariant_of-self-2
invariant_of-self-2 c =
    subst AreRows (sym (put_is c))
    (AreRows-put c.args.self.now c.args.key c.args.shape (subst AreRows c.self.view_is c.self.invariant) c.requires.sound)

pub returns-clause-ok : goal.returns-clause-ok
returns-clause-ok c = put_is c
