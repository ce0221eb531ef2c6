-- What a session sees and needs by the stores is what it sees and needs by the trace, and where no need is left its reply is its next act.
use Rattle.std.proofs.Common.{◌≡◌, ℕ, List, [], ◌∷◌, Option, None, sym, ap, ◌∙◌, subst}
use Rattle.std.specs.List.{AllByRecursion}
use Rattle.sg_cells.specs.declared.keys.Key.{Key}
use Rattle.sg_cells.specs.declared.keys.Key.TheVariants.{Row, RowEnd, Cell, CellEnd}
use Rattle.sg_locks.specs.Grants.{Grant}
use Rattle.sg_modes.specs.Sessions.{IsSession}
use Rattle.sg_plain.specs.declared.statements.Statement.{Statement}
use Rattle.sg_plain.specs.declared.statements.Answer.{Answer}
use Rattle.sg_plain.specs.Rows.{Rows}
use Rattle.sg_rows.specs.Table.{TableRow}
use Rattle.sg_cellrows.specs.CellTable.{CellRow}
use Rattle.sg_trace.specs.Needs.{Need, Lock, New, Selects, read_needs, write_needs, first_unmet}
use Rattle.sg_trace.specs.Traces.{Stage, State, IsPresent, view, present_keys}
use Rattle.sg_trace.specs.Legal.{IsAct, IsActFor, Replies, needs_of}
use Rattle.sg_trace.specs.Replies.{Reply}
use Rattle.sg_stores.specs.Agreement.{seen_rows}
use Rattle.sg_stores.specs.Held.{first_unheld}
use Rattle.sg_stores.specs.Keys.{store_keys}
use Rattle.sg_laws.specs.Invariant as laws
use Rattle.sg_laws.proofs.AllMet.{AllMet}
use Rattle.sg_turns.proofs.Costs.{unmet_right}
use Rattle.sg_laws.proofs.Kept.{Good, lists_of, needs_good, none_unmet}
use Rattle.sg_laws.proofs.Needs.{Every, NeedOk, Every-left, Every-right, sees}
use Rattle.sg_stores.proofs.Picked.{same_from, seen_rise, shape_at-seen}
use Rattle.sg_engine.specs.Ties.{IsCoded, Ties}
use Rattle.sg_engine.proofs.Holds.{IsCodedNeed, same_first}

pub coded_key : (k : Key) → laws.IsCoded k → IsCoded k
coded_key (Row k) h = tt
coded_key RowEnd h = tt
coded_key (Cell c k) h = h
coded_key CellEnd h = tt

module _ (w : Stage) (z : State) (ok : Good w z) where
  coded_need : (n : Need) → NeedOk (IsPresent w.settings z) n → IsCodedNeed n
  coded_need (Lock k m) h = coded_key k ((lists_of w z ok).coded k h.0)
  coded_need (New k) h = coded_key k h.2

  coded_needs : (ns : List Need) → Every (NeedOk (IsPresent w.settings z)) ns → AllByRecursion IsCodedNeed ns
  coded_needs [] h = tt
  coded_needs (n ∷ ns) h = (coded_need n h.0, coded_needs ns h.1)

  module _ (s : ℕ) (session : IsSession s) (table : List TableRow) (index : List CellRow) (grants : List (Grant Key)) (t : Ties w.settings z table index grants) where
    -- the rows that are seen in the store are those that the trace leaves
    pub view_is : seen_rows s table ≡ view z s
    view_is =
        same_from 0 (seen_rows s table) (view z s) (seen_rise s table t.rising) (sees w.settings z s ok.sound).rows.rising (λ k. shape_at-seen s table k t.rising ∙ t.seen s session k)

    -- the first need that isn't met is the same in both, of those of a statement with its selected keys
    module _ (st : Statement) (js : List ℕ) (selects : Selects (view z s) st js) (keys_are : store_keys table index ≡ present_keys w z) (seen_are : seen_rows s table ≡ view z s) where
      all_coded : Every (NeedOk (IsPresent w.settings z)) (needs_of w z s st js)
      all_coded = needs_good w z s st js ok selects

      pub read_first : first_unheld grants s (read_needs w.settings (store_keys table index) (seen_rows s table) st) ≡ first_unmet (z.of s).held (read_needs w.settings (present_keys w z) (view z s) st)
      read_first =
          ap (λ (ks : List Key). first_unheld grants s (read_needs w.settings ks (seen_rows s table) st)) keys_are
          ∙ (ap (λ (r : Rows). first_unheld grants s (read_needs w.settings (present_keys w z) r st)) seen_are
          ∙ same_first grants s (z.of s).held (t.held s session) (read_needs w.settings (present_keys w z) (view z s) st)
          (coded_needs (read_needs w.settings (present_keys w z) (view z s) st) (Every-left (NeedOk (IsPresent w.settings z)) (read_needs w.settings (present_keys w z) (view z s) st) (write_needs w.settings (present_keys w z) (view z s) js st) all_coded)))

      pub write_first : first_unheld grants s (write_needs w.settings (store_keys table index) (seen_rows s table) js st) ≡ first_unmet (z.of s).held (write_needs w.settings (present_keys w z) (view z s) js st)
      write_first =
          ap (λ (ks : List Key). first_unheld grants s (write_needs w.settings ks (seen_rows s table) js st)) keys_are
          ∙ (ap (λ (r : Rows). first_unheld grants s (write_needs w.settings (present_keys w z) r js st)) seen_are
          ∙ same_first grants s (z.of s).held (t.held s session) (write_needs w.settings (present_keys w z) (view z s) js st)
          (coded_needs (write_needs w.settings (present_keys w z) (view z s) js st) (Every-right (NeedOk (IsPresent w.settings z)) (read_needs w.settings (present_keys w z) (view z s) st) (write_needs w.settings (present_keys w z) (view z s) js st) all_coded)))

      -- where none is left in the stores, none is left in the trace
      module _ (reads : first_unheld grants s (read_needs w.settings (store_keys table index) (seen_rows s table) st) ≡ None)
          (writes : first_unheld grants s (write_needs w.settings (store_keys table index) (seen_rows s table) js st) ≡ None) where
        pub none_left : first_unmet (z.of s).held (needs_of w z s st js) ≡ None
        none_left =
            unmet_right (z.of s).held (read_needs w.settings (present_keys w z) (view z s) st) (write_needs w.settings (present_keys w z) (view z s) js st) (sym read_first ∙ reads) ∙ (sym write_first ∙ writes)

        pub all_met : AllMet (z.of s) (needs_of w z s st js)
        all_met = none_unmet (z.of s) (needs_of w z s st js) none_left

        -- so the reply is what comes next
        pub answer_act : (a : Answer) → Reply w.settings (seen_rows s table) st a → IsAct w z s st (Replies a)
        answer_act a reply = record {
          selected = js;
          selects = selects;
          follows = subst (λ (o : Option Need). IsActFor w z s st o (Replies a)) (sym none_left) (subst (λ (r : Rows). Reply w.settings r st a) seen_are reply);
        }
