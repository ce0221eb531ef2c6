use Rattle.std.proofs.Common.{None, refl, subst}
use Rattle.sg_scan.specs.declared.searches.Search.TheVariants as search
use Rattle.sg_scan.specs.Cursors.{Cursor, IsFirstNeed}
use Rattle.sg_scan.proofs.Reading.{first_is}
use Rattle.sg_scan.proofs.scans.Scan.need.Goals as goal

pub returns-in-Row-clause-need : goal.returns-in-Row-clause-need
returns-in-Row-clause-need c =
    let grants = c.args.locks.now.grants in
    let table = c.args.rows.now.rows in
    let index = c.args.cells.now.rows in
    let r : Cursor = record { search = c.self.inside.search; modes = c.self.inside.modes; place = c.self.inside.place } in
    subst (λ (x : Cursor). IsFirstNeed grants c.args.s table index x c.need_of_row.result) c.self.view_is
    (first_is grants c.args.s table index c.in_order.ensures.rising c.rising.ensures r (search.Row c.in-Row.key) c.need_of_row.result c.in-Row.is c.need_of_row.ensures)

pub returns-in-Nothing-clause-need : goal.returns-in-Nothing-clause-need
returns-in-Nothing-clause-need c =
    let grants = c.args.locks.now.grants in
    let table = c.args.rows.now.rows in
    let index = c.args.cells.now.rows in
    let r : Cursor = record { search = c.self.inside.search; modes = c.self.inside.modes; place = c.self.inside.place } in
    subst (λ (x : Cursor). IsFirstNeed grants c.args.s table index x None) c.self.view_is
    (first_is grants c.args.s table index c.in_order.ensures.rising c.rising.ensures r search.Nothing None c.in-Nothing.is refl)

pub returns-in-Every-clause-need : goal.returns-in-Every-clause-need
returns-in-Every-clause-need c =
    let grants = c.args.locks.now.grants in
    let table = c.args.rows.now.rows in
    let index = c.args.cells.now.rows in
    let r : Cursor = record { search = c.self.inside.search; modes = c.self.inside.modes; place = c.self.inside.place } in
    subst (λ (x : Cursor). IsFirstNeed grants c.args.s table index x c.need_of_table.result) c.self.view_is
    (first_is grants c.args.s table index c.in_order.ensures.rising c.rising.ensures r search.Every c.need_of_table.result c.in-Every.is c.need_of_table.ensures.need)

pub returns-in-Cells-clause-need : goal.returns-in-Cells-clause-need
returns-in-Cells-clause-need c =
    let grants = c.args.locks.now.grants in
    let table = c.args.rows.now.rows in
    let index = c.args.cells.now.rows in
    let r : Cursor = record { search = c.self.inside.search; modes = c.self.inside.modes; place = c.self.inside.place } in
    subst (λ (x : Cursor). IsFirstNeed grants c.args.s table index x c.need.result) c.self.view_is
    (first_is grants c.args.s table index c.in_order.ensures.rising c.rising.ensures r (search.Cells c.in-Cells.search) c.need.result c.in-Cells.is c.need.ensures.need)
