-- The answer of an open statement in an engine's stores: what may be finished, which event it is, and what ties the stores after it.
use Rattle.std.proofs.Common.{◌≡◌, ℕ, List, ◌∷◌, None, sym, subst}
use Rattle.sg_cells.specs.declared.keys.Key.{Key}
use Rattle.sg_locks.specs.Grants.{Grant}
use Rattle.sg_modes.specs.Sessions.{IsSession}
use Rattle.sg_plain.specs.declared.statements.Statement.{Statement}
use Rattle.sg_plain.specs.declared.statements.Answer.{Answer}
use Rattle.sg_plain.specs.Rows.{Rows}
use Rattle.sg_rows.specs.Table.{TableRow}
use Rattle.sg_cellrows.specs.CellTable.{CellRow}
use Rattle.sg_trace.specs.Needs.{Selects, read_needs, write_needs}
use Rattle.sg_trace.specs.Traces.{Stage, Event, Answered, State, state, view, present_keys}
use Rattle.sg_trace.specs.Legal.{IsStage, IsLegal, IsOpen, IsAct, Replies, Fits}
use Rattle.sg_trace.specs.Replies.{Reply}
use Rattle.sg_stores.specs.Agreement.{seen_rows}
use Rattle.sg_stores.specs.Held.{first_unheld}
use Rattle.sg_stores.specs.Keys.{store_keys}
use Rattle.sg_laws.proofs.Kept.{Good, legal_good, live_member}
use Rattle.sg_writes.specs.declared.changes.Change.{Change}
use Rattle.sg_writes.specs.Changes.{Writes, IsChangeFor}
use Rattle.sg_writes.specs.Finished.{IsAlone, IsFinished, Finishes}
use Rattle.sg_engine.specs.Ties.{Ties}
use Rattle.sg_engine.proofs.Keys.{store_is}
use Rattle.sg_engine.proofs.Alone.{is_alone}
use Rattle.sg_engine.proofs.Answered.{read_ties, write_ties}
use Rattle.sg_engine.proofs.Replied.{view_is, all_met, answer_act}

module _ (w : Stage) (staged : IsStage w) (es : List Event) (legal : IsLegal w es) (s : ℕ) (st : Statement) (is_open : IsOpen w es s st) (table : List TableRow) (index : List CellRow) (grants : List (Grant Key))
    (t : Ties w.settings (state w es) table index grants) where
  abbrev z : State
  z = state w es

  good : Good w (state w es)
  good = legal_good w staged es legal

  session : IsSession s
  session = live_member w (state w es) s good is_open.live

  keys_are : store_keys table index ≡ present_keys w (state w es)
  keys_are = store_is w es staged legal table index grants t

  pub seen_is : seen_rows s table ≡ view z s
  seen_is = view_is w (state w es) good s session table index grants t

  -- the statement has no need left, with these keys selected
  module _ (js : List ℕ) (selects : Selects (view z s) st js) (reads : first_unheld grants s (read_needs w.settings (store_keys table index) (seen_rows s table) st) ≡ None)
      (writes : first_unheld grants s (write_needs w.settings (store_keys table index) (seen_rows s table) js st) ≡ None) where
    -- its reply is the next act
    pub replies : (a : Answer) → Reply w.settings (seen_rows s table) st a → IsAct w z s st (Replies a)
    replies a reply = answer_act w (state w es) good s session table index grants t st js selects keys_are seen_is reads writes a reply

    -- ---- of a statement that writes nothing
    pub read_fits : (a : Answer) → Reply w.settings (seen_rows s table) st a → Fits w es (Answered s a)
    read_fits a reply = (st, is_open, replies a reply)

    pub read_ties_then : (a : Answer) → (Writes st → ⊥) → Ties w.settings (state w (Answered s a ∷ es)) table index grants
    read_ties_then a none = read_ties w es s st a is_open.open_one w.settings table index grants session none t

    -- ---- of one that writes
    module _ (it : Change) (is : IsChangeFor w.settings st js it) where
      pub change_alone : IsAlone s table index it
      change_alone = is_alone w (state w es) good s st js selects (all_met w (state w es) good s session table index grants t st js selects keys_are seen_is reads writes) session table index grants t it is

      module _ (does : Writes st) (table' : List TableRow) (index' : List CellRow) (a : Answer) (finishes : Finishes s table index table' index' it a) where
        finished : IsFinished w.settings st s table index table' index' a
        finished = finishes w.settings st js is good.sound.settings (t.cells_seen s session) (subst (λ (r : Rows). Selects r st js) (sym seen_is) selects)

        pub write_fits : Fits w es (Answered s a)
        write_fits = (st, is_open, replies a finished.reply)

        pub write_ties_then : Ties w.settings (state w (Answered s a ∷ es)) table' index' grants
        write_ties_then = write_ties w es s st a is_open.open_one good session does (replies a finished.reply) table table' index index' grants t finished
