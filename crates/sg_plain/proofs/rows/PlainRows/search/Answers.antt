use Rattle.std.proofs.Common.{rules, subst}
use Rattle.std.proofs.lemmas.List.Sorted.{answers_always}
use Rattle.sg_plain.specs.Rows.{AreRows}
use Rattle.sg_plain.proofs.PlaceLemmas.{searched, Searched, Searched-held, Searched-absent}
use Rattle.sg_plain.proofs.rows.PlainRows.search.Goals as goal

-- the closure gives a row's key, and the slice is the rows
found : (c : goal.After-binary_search_by_key) → Searched c.args.self.now c.args.key c.binary_search_by_key.result
found c =
    let facts = c.binary_search_by_key.ensures in
    let by_key = facts.position (λ row. row.0) (answers_always _ _ _ (λ f a r g called. search rules)) in
    rw (← c.self.view_is, ← c.deref.ensures.value)
    (searched c.deref.result.now (rw c.deref.ensures.value c.self.invariant.rising) c.args.key c.binary_search_by_key.result facts.bound by_key)

pub returns : goal.returns
returns c =
    let rising = (subst AreRows c.self.view_is c.self.invariant).rising in
    record {
      found = (found c).found;
      held = Searched-held c.args.self.now c.args.key c.binary_search_by_key.result rising (found c);
      gap = (found c).gap;
      absent = Searched-absent c.args.self.now c.args.key c.binary_search_by_key.result rising (found c);
    }
