-- The committed rows of the table are those that the journal leaves.
use Rattle.std.proofs.Common.{◌≡◌, ℕ, List, sym, ◌∙◌, subst}
use Rattle.sg_cells.specs.declared.keys.Key.{Key}
use Rattle.sg_locks.specs.Grants.{Grant}
use Rattle.sg_modes.specs.Waits.{Wait}
use Rattle.sg_plain.specs.Serial.{Entry}
use Rattle.sg_rows.specs.Table.{TableRow, AreSoundRows, committed_rows}
use Rattle.sg_cellrows.specs.CellTable.{CellRow}
use Rattle.sg_trace.specs.Replies.{SerialIn}
use Rattle.sg_trace.specs.Traces.{State, state}
use Rattle.sg_trace.specs.Legal.{journal}
use Rattle.sg_stores.proofs.Picked.{shape_at-committed, committed_are_rows, same_rows}
use Rattle.sg_laws.proofs.Kept.{legal_good}
use Rattle.sg_serial.proofs.Serials.{serial_in}
use Rattle.sg_engine.specs.declared.shared.Seat.{Seat}
use Rattle.sg_engine.specs.Shown.{Shown}
use Rattle.sg_engine.specs.Ties.{IsEngine}

module _ (v : Shown) (table : List TableRow) (index : List CellRow) (grants : List (Grant Key)) (standing : List Wait) (own : List Seat) (live label_room entry_room : ℕ)
    (ok : IsEngine v table index grants standing own live label_room entry_room) (sound : AreSoundRows table) where
  abbrev z : State
  z = state v.stage ok.events

  committed_is : committed_rows table ≡ z.rows
  committed_is =
      let good = legal_good v.stage ok.staged ok.events ok.run.legal in
      same_rows (committed_rows table) z.rows (committed_are_rows table ok.ties.rising sound) good.sound.rows (λ k. shape_at-committed table k ok.ties.rising ∙ ok.ties.committed k)

  pub rows_serial : SerialIn v.stage.settings v.stage.opening v.journal (committed_rows table)
  rows_serial =
      subst (λ (es : List Entry). SerialIn v.stage.settings v.stage.opening es (committed_rows table)) (sym ok.run.shows.journal)
      (subst (SerialIn v.stage.settings v.stage.opening (journal v.stage ok.events)) (sym committed_is) (serial_in v.stage ok.staged ok.events ok.run.legal))
