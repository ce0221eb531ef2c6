use Rattle.std.proofs.Common.{◌∙◌, All, subst}
use Rattle.sg_plain.specs.Rows.{AreRows}
use Rattle.sg_script.specs.Told.{IsToldRow, IsToldSession, IsToldSettings}
use Rattle.sg_script.proofs.ScriptBack.{written_back}
use Rattle.sg_script.proofs.writing.write_script.Goals as goal

pub returns-clause-back : goal.returns-clause-back
returns-clause-back c =
    let rows = c.as_slice.ensures.all ∙ c.rows.ensures in
    written_back c.args.script.now c.settings.result.now c.as_slice.result.now c.sessions.result.now c.order.result.now c.new-out.result.items
    c.append_settings.new.out.items c.append_rows.new.out.items c.append_sessions.new.out.items c.append_order.new.out.items
    (λ i. record { settings = c.settings.ensures.all i; rows = rows i; sessions = c.sessions.ensures.all i; order = c.order.ensures.all i })
    (record {
      settings = subst IsToldSettings c.settings.ensures.all c.in_ok-append_settings.ensures.told;
      rows = subst (All IsToldRow) rows c.in_ok-append_rows.ensures.told;
      keys = subst AreRows c.rows.ensures c.as_slice.ensures.rows;
      sessions = subst (All IsToldSession) c.sessions.ensures.all c.in_ok-append_sessions.ensures.told;
      numbers = c.sessions.ensures.rising;
      turns = c.order.ensures.turns;
    })
    c.new-out.ensures.items c.in_ok-append_settings.ensures.text c.in_ok-append_rows.ensures.text c.in_ok-append_sessions.ensures.text c.in_ok-append_order.ensures
