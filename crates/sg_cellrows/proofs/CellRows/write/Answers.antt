use Rattle.std.specs.Prelude.{IsSome}
use Rattle.std.proofs.Common.{◌≡◌, ◌⊎◌, not, Option, Some, None, sym, ◌∙◌, subst}
use Rattle.sg_cells.specs.declared.marks.Mark.{Mark}
use Rattle.sg_versions.specs.declared.version.Version.{Version}
use Rattle.sg_versions.specs.Writers.{writer_of}
use Rattle.sg_cellrows.proofs.Mirrors.{alike, differ, in_own, mirrored_write, mirrored_move}
use Rattle.sg_cellrows.proofs.CellRows.write.Goals as goal

pub write-requires-clause-alone : goal.write-requires-clause-alone
write-requires-clause-alone c = let requires = rw (← c.self.view_is) at c.requires in requires.alone

pub write-requires-then-is_bare-was_bare-clause-present : goal.write-requires-then-is_bare-was_bare-clause-present
write-requires-then-is_bare-was_bare-clause-present c =
    let requires = rw (← c.self.view_is) at c.requires in
    subst IsSome (sym (in_own c.is_bare-is_bare.result _ (alike c.is_bare-is_bare.result c.is_bare-was_bare.result c.if-is_bare-was_bare.true ∙ c.is_bare-was_bare.ensures)) ∙ c.self.invariant c.is_bare-is_bare.result c.args.key.0 c.args.key.1) requires.present

pub write-requires-then-is_bare-was_bare-clause-alone : goal.write-requires-then-is_bare-was_bare-clause-alone
write-requires-then-is_bare-was_bare-clause-alone c =
    let requires = rw (← c.self.view_is) at c.requires in
    subst (λ (o : Option (Version Mark)). (writer_of o ≡ None) ⊎ (writer_of o ≡ Some c.args.s))
    (sym (in_own c.is_bare-is_bare.result _ (alike c.is_bare-is_bare.result c.is_bare-was_bare.result c.if-is_bare-was_bare.true ∙ c.is_bare-was_bare.ensures)) ∙ c.self.invariant c.is_bare-is_bare.result c.args.key.0 c.args.key.1) requires.alone

pub invariant_of-self : goal.invariant_of-self
invariant_of-self c =
    let requires = rw (← c.self.view_is) at c.requires in
    mirrored_write c.self.inside.by_cell.rows c.self.inside.by_row.rows c.write.new.self.rows c.write-then-is_bare-was_bare.new.self.rows c.self.invariant c.args.key.0 c.args.key.1 c.args.s c.args.mark c.write.ensures.each
    c.is_bare-was_bare.result c.is_bare-is_bare.result c.is_bare-was_bare.ensures c.is_bare-is_bare.ensures requires.present c.if-is_bare-was_bare.true (λ b k. c.write-then-is_bare-was_bare.ensures.each (b, k))

pub move_pair-requires-clause-alone : goal.move_pair-requires-clause-alone
move_pair-requires-clause-alone c =
    let requires = rw (← c.self.view_is) at c.requires in
    let before = not c.is_bare-is_bare.result in
    subst (λ (o : Option (Version Mark)). (writer_of o ≡ None) ⊎ (writer_of o ≡ Some c.args.s))
    (sym (in_own before _ (differ c.is_bare-is_bare.result c.is_bare-was_bare.result c.if-is_bare-was_bare.false ∙ c.is_bare-was_bare.ensures)) ∙ c.self.invariant before c.args.key.0 c.args.key.1) requires.alone

pub invariant_of-self-else-is_bare-was_bare : goal.invariant_of-self-else-is_bare-was_bare
invariant_of-self-else-is_bare-was_bare c =
    let requires = rw (← c.self.view_is) at c.requires in
    mirrored_move c.self.inside.by_cell.rows c.self.inside.by_row.rows c.write.new.self.rows c.move_pair.new.rows.rows c.self.invariant c.args.key.0 c.args.key.1 c.args.s c.args.mark c.write.ensures.each
    c.is_bare-was_bare.result c.is_bare-is_bare.result c.is_bare-was_bare.ensures c.is_bare-is_bare.ensures requires.present c.if-is_bare-was_bare.false (λ b k. c.move_pair.ensures.each (b, k))
