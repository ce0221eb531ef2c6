use Rattle.std.proofs.Common.{◌≡◌, [], ◌∷◌, Some, List, length, ap, ◌∙◌, sym, subst, arith}
use Rattle.std.specs.Prelude.{ℕ}
use Rattle.sg_groups.specs.Groups.{items_of, is_item_above, items_above}
use Rattle.sg_locks.proofs.GrantLaws.{items_above-None, found_first, items_rise, none_passes}
use Rattle.sg_locks.proofs.TableLaws.{holder_cmp, holder_total, IsFoundSoFar, found_none, found_more, found_same, found_all, blocks-items}
use Rattle.sg_locks.proofs.Locks.blockers.Goals as goal
use Rattle.sg_locks.proofs.Locks.blockers.Goals.{then-is_in_the_way, else-is_in_the_way}

pub loop-found-init : goal.loop-found-init
loop-found-init g c = λ n.
    let all = items_of g.K.Ord.cmp c.args.key.now c.self.inside.by_key.pairs in
    rw c.none-blockers.ensures (found_none all _ c.args.s c.args.mode (items_above-None holder_cmp all) n)

pub loop-found-smaller : goal.loop-found-smaller
loop-found-smaller g c =
    let all = items_of g.K.Ord.cmp c.args.key.now c.self.inside.by_key.pairs in
    let first = found_first holder_cmp holder_total c.loop-found.last all c.in-Some.found (items_rise g.K.Ord.cmp holder_cmp g.met.K.Ord.total c.args.key.now c.self.inside.by_key.pairs c.next.ensures.rising) (sym c.next.ensures.first ∙ c.in-Some.is) in
    omega (arith, ap length first)

pub loop-found-preserved : goal.loop-found-preserved
loop-found-preserved g c =
    let all = items_of g.K.Ord.cmp c.args.key.now c.self.inside.by_key.pairs in
    let above = items_above holder_cmp c.loop-found.last all in
    let rest = items_above holder_cmp (Some c.in-Some.found) all in
    let first : above ≡ c.in-Some.found ∷ rest = found_first holder_cmp holder_total c.loop-found.last all c.in-Some.found (items_rise g.K.Ord.cmp holder_cmp g.met.K.Ord.total c.args.key.now c.self.inside.by_key.pairs c.next.ensures.rising) (sym c.next.ensures.first ∙ c.in-Some.is) in
    elim c.if-is_in_the_way.branch [
      | then-is_in_the_way w ↦ subst (λ (ns : List ℕ). IsFoundSoFar all rest ns c.args.s c.args.mode) (sym (w.blockers-is ∙ w.with-blockers.ensures))
          (found_more all above rest c.in-Some.found c.loop-found.blockers c.args.s c.args.mode c.loop-found.invariant first (sym c.is_in_the_way.ensures ∙ w.if-is_in_the_way.true))
      | else-is_in_the_way w ↦ subst (λ (ns : List ℕ). IsFoundSoFar all rest ns c.args.s c.args.mode) (sym w.blockers-is)
          (found_same all above rest c.in-Some.found c.loop-found.blockers c.args.s c.args.mode c.loop-found.invariant first (sym c.is_in_the_way.ensures ∙ w.if-is_in_the_way.false))
    ]

pub returns-clause-blockers : goal.returns-clause-blockers
returns-clause-blockers g c = λ n.
    let all = items_of g.K.Ord.cmp c.args.key.now c.self.inside.by_key.pairs in
    let above = items_above holder_cmp c.loop-found.last all in
    let none : above ≡ [] = none_passes holder_cmp (is_item_above holder_cmp c.loop-found.last) all (sym c.next.ensures.first ∙ c.in_default.is) in
    rw (← c.self.view_is) (found_all all above c.loop-found.blockers c.args.s c.args.mode c.loop-found.invariant none n ∙ sym (blocks-items g.K.Ord.cmp c.args.key.now c.args.mode n c.self.inside.by_key.pairs c.args.s))
