use Rattle.std.proofs.Common.{sym, subst}
use Rattle.std.proofs.lemmas.Result.{IfOk-weaker}
use Rattle.sg_scan.specs.declared.searches.Search.{Search}
use Rattle.sg_scan.specs.Hits.{IsListed}
use Rattle.sg_scan.specs.Scans.{Finds}
use Rattle.sg_scan.proofs.Answering.{finds_cells, finds_every, finds_nothing}
use Rattle.sg_scan.proofs.searches.Search.found.Goals as goal

pub returns-in-Cells : goal.returns-in-Cells
returns-in-Cells c =
    let s = c.args.s in
    let table = c.args.rows.now.rows in
    let index = c.args.cells.now.rows in
    IfOk-weaker c.found.result (IsListed s c.in-Cells.search index) (Finds c.args.self.now s table index)
    (λ found h. subst (λ (x : Search). Finds x s table index found) (sym c.in-Cells.is) (finds_cells s table index c.in_order.ensures.rising c.in-Cells.search found h)) c.found.ensures

pub returns-in_ok-seen_keys-in-Every : goal.returns-in_ok-seen_keys-in-Every
returns-in_ok-seen_keys-in-Every c =
    let s = c.args.s in
    let table = c.args.rows.now.rows in
    let index = c.args.cells.now.rows in
    subst (λ (x : Search). Finds x s table index (record { candidates = c.in_ok-seen_keys-in-Every.field-0; sure = c.new.result })) (sym c.in-Every.is) (finds_every s table index _ c.in_ok-seen_keys-in-Every.ensures c.new.ensures)

pub returns-in-Nothing : goal.returns-in-Nothing
returns-in-Nothing c =
    let s = c.args.s in
    let table = c.args.rows.now.rows in
    let index = c.args.cells.now.rows in
    subst (λ (x : Search). Finds x s table index (record { candidates = c.new-in-Nothing.result; sure = c.new-in-Nothing-2.result })) (sym c.in-Nothing.is) (finds_nothing s table index _ c.new-in-Nothing.ensures c.new-in-Nothing-2.ensures)
