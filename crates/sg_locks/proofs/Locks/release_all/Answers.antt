use Rattle.std.proofs.Common.{None, ◌∙◌, sym, arith}
use Rattle.sg_groups.specs.Groups.{is_item_above}
use Rattle.sg_locks.proofs.GrantLaws.{found_there, nothing_found}
use Rattle.sg_locks.proofs.TableLaws.{session_cmp, session_total, held_cmp, held_total, dropped-table, others-dropped, released}
use Rattle.sg_locks.proofs.Locks.release_all.Goals as goal

pub loop-found-smaller : goal.loop-found-smaller
loop-found-smaller g c =
    let there = found_there session_cmp (held_cmp g.K.Ord.cmp) session_total c.args.s (held_total g.K.Ord.cmp g.met.K.Ord.total) (is_item_above (held_cmp g.K.Ord.cmp) None) c.in-Some.found c.loop-found.self-inside.by_session.pairs (sym c.next.ensures.first ∙ c.in-Some.is) in
    let less = c.remove.ensures.shorter there in
    omega (arith, less)

pub loop-found-preserved : goal.loop-found-preserved
loop-found-preserved g c =
    let cmp = g.K.Ord.cmp in
    let ps = c.loop-found.self-inside.by_key.pairs in let ps' = c.remove-in-Some.new.self.pairs in
    let qs = c.loop-found.self-inside.by_session.pairs in let qs' = c.remove.new.self.pairs in
    record {
      table = dropped-table cmp ps ps' qs qs' c.args.s c.in-Some.found.0 c.in-Some.found.1 c.loop-found.invariant.table.mirrors c.remove-in-Some.ensures.pairs c.remove.ensures.pairs c.remove-in-Some.ensures.rising;
      others = others-dropped cmp c.args.self.now.grants ps ps' c.args.s c.in-Some.found.0 c.in-Some.found.1 c.remove-in-Some.ensures.pairs c.loop-found.invariant.others;
      spare = omega (arith, c.loop-found.invariant.spare, c.remove.ensures.spare, c.remove-in-Some.ensures.spare);
    }

pub returns-clause-grants : goal.returns-clause-grants
returns-clause-grants g c =
    released g.K.Ord.cmp c.args.self.now.grants c.loop-found.self-inside.by_key.pairs c.loop-found.self-inside.by_session.pairs c.args.s c.loop-found.invariant.table.mirrors c.loop-found.invariant.others
    (nothing_found (held_cmp g.K.Ord.cmp) _ (sym c.next.ensures.first ∙ c.in_default.is))
