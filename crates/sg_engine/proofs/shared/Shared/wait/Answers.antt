use Rattle.std.specs.Prelude.{◌-◌}
use Rattle.std.proofs.Common.{◌≡◌, ◌≢◌, ℕ, List, [], ◌∷◌, ◌++◌, cond, set, true, false, Some, None, sym, ap, ◌∙◌, subst, refl, arith, ◌≤◌}
use Rattle.sg_modes.proofs.BoolLaws.{clash}
use Rattle.sg_modes.specs.Sessions.{IsSession, has_session}
use Rattle.sg_modes.proofs.SessionLaws.{member_is_session}
use Rattle.sg_waits.specs.Ranks.{rank_of}
use Rattle.sg_trace.specs.declared.labels.Label.{Label}
use Rattle.sg_trace.specs.Traces.{Stage, Event, Wait}
use Rattle.sg_trace.specs.Legal.{Fits}
use Rattle.sg_engine.specs.declared.shared.Seat.{Seat}
use Rattle.sg_engine.specs.Shown.{Shown, IsRunOf}
use Rattle.sg_engine.specs.Inside.{shown_of}
use Rattle.sg_engine.specs.Waiting.{rank_in}
use Rattle.sg_engine.proofs.Begins.{live_most}
use Rattle.sg_engine.proofs.Breaking.{Breaks, Breaking, not_itself, none_stands, breaks_first, live_some, broken, broken_engine, has_waited}
use Rattle.sg_engine.proofs.shared.Shared.wait.Goals as goal

pub overflow_add-self-inside : goal.overflow_add-self-inside
overflow_add-self-inside c = let h = live_most _ _ _ _ _ _ _ _ _ _ _ c.self.invariant in omega (arith, h)

pub add-requires-clause-others : goal.add-requires-clause-others
add-requires-clause-others c =
    let v = c.self.inside in
    let stage : Stage = record { settings = v.settings; opening = v.opening; priorities = v.priorities } in
    let old : Shown = shown_of v.settings v.opening v.priorities v.trace.items v.journal.items v.seats.items in
    let all : (es : List Event) → IsRunOf es old → Fits stage es (Wait c.args.s c.args.key c.args.mode c.args.blockers) =
    subst (λ (x : Shown). (es : List Event) → IsRunOf es x → Fits x.stage es (Wait c.args.s c.args.key c.args.mode c.args.blockers)) (sym c.self.view_is) c.requires in
    let fits = all c.self.invariant.events c.self.invariant.run in
    not_itself stage v.trace.items v.journal.items v.seats.items v.rows.rows v.cells.rows v.locks.grants v.waits v.live v.trace.spare v.journal.spare c.self.invariant c.args.s c.in_range.ensures c.args.key c.args.mode c.args.blockers fits

pub add-requires-clause-none_stands : goal.add-requires-clause-none_stands
add-requires-clause-none_stands c =
    let v = c.self.inside in
    let stage : Stage = record { settings = v.settings; opening = v.opening; priorities = v.priorities } in
    let old : Shown = shown_of v.settings v.opening v.priorities v.trace.items v.journal.items v.seats.items in
    let all : (es : List Event) → IsRunOf es old → Fits stage es (Wait c.args.s c.args.key c.args.mode c.args.blockers) =
    subst (λ (x : Shown). (es : List Event) → IsRunOf es x → Fits x.stage es (Wait c.args.s c.args.key c.args.mode c.args.blockers)) (sym c.self.view_is) c.requires in
    let fits = all c.self.invariant.events c.self.invariant.run in
    none_stands stage v.trace.items v.journal.items v.seats.items v.rows.rows v.cells.rows v.locks.grants v.waits v.live v.trace.spare v.journal.spare c.self.invariant c.args.s c.in_range.ensures c.args.key c.args.mode c.args.blockers fits c.in_order.ensures

pub cycles-init : goal.cycles-init
cycles-init c =
    let v = c.self.inside in
    let stage : Stage = record { settings = v.settings; opening = v.opening; priorities = v.priorities } in
    let old : Shown = shown_of v.settings v.opening v.priorities v.trace.items v.journal.items v.seats.items in
    let all : (es : List Event) → IsRunOf es old → Fits stage es (Wait c.args.s c.args.key c.args.mode c.args.blockers) =
    subst (λ (x : Shown). (es : List Event) → IsRunOf es x → Fits x.stage es (Wait c.args.s c.args.key c.args.mode c.args.blockers)) (sym c.self.view_is) c.requires in
    let fits = all c.self.invariant.events c.self.invariant.run in
    let spare = c.push_reserved.ensures.spare in
    let room = c.in_ok-reserve.ensures.spare in
    subst (λ (x : Shown). Breaks c.args.s c.args.key c.args.mode c.args.blockers x stage c.push_reserved.new.self.items v.journal.items (set v.seats.items c.index.result c.wish.new.seat) v.rows.rows v.cells.rows v.locks.grants c.add.new.self v.live c.push_reserved.new.self.spare v.journal.spare c.cycle-cycle.result None)
    c.self.view_is
    (breaks_first stage v.trace.items v.journal.items v.seats.items v.rows.rows v.cells.rows v.locks.grants v.waits v.live v.trace.spare v.journal.spare c.self.invariant c.args.s c.in_range.ensures c.args.key c.args.mode c.args.blockers fits c.in_order.ensures
    c.index.result c.index.ensures.below c.index.ensures.place c.index_mut.result.now c.index_mut.ensures.value c.push_reserved.new.self.items c.wish.new.seat c.add.new.self c.push_reserved.new.self.spare c.cycle-cycle.result c.wish.ensures
    (c.push_reserved.ensures.items ∙ (ap (λ (ls : List Label). ls ++ c.waits.result ∷ []) c.reserve.ensures.items ∙ ap (λ (l : Label). v.trace.items ++ l ∷ []) c.waits.ensures)) c.add.ensures (omega (arith, spare, room))
    c.cycle-cycle.ensures.cycle c.cycle-cycle.ensures.empty c.cycle-cycle.ensures.sessions)

pub invariant_of-self-in-cycles : goal.invariant_of-self-in-cycles
invariant_of-self-in-cycles c =
    let v = c.cycles.self-inside in
    let stage : Stage = record { settings = v.settings; opening = v.opening; priorities = v.priorities } in
    let inv = c.cycles.invariant in
    broken_engine stage inv.events c.args.s c.args.key c.args.mode c.args.blockers c.args.self.now.jobs v.trace.items v.journal.items v.seats.items v.rows.rows v.cells.rows v.locks.grants v.waits v.live v.trace.spare v.journal.spare c.cycles.cycle c.cycles.own inv.breaking (c.cycles-test.ensures.empty.0 refl)

pub push_reserved-requires-in-cycles : goal.push_reserved-requires-in-cycles
push_reserved-requires-in-cycles c =
    let v = c.cycles.self-inside in
    let stage : Stage = record { settings = v.settings; opening = v.opening; priorities = v.priorities } in
    let inv = c.cycles.invariant in
    let right : (u : ℕ) → has_session c.cycles.cycle u ≡ true → rank_of c.ranks_of-ranks.result u ≡ rank_in v.priorities v.seats.items u =
    λ u m. c.ranks_of-ranks.ensures u m ∙ ap (λ (xs : List Seat). rank_in v.priorities xs u) c.deref.ensures.value in
    let some : c.cycles.cycle ≢ [] = (λ e. clash false (c.cycles-test.ensures.empty.1 e) refl) in
    let session : IsSession c.victim-given.result = member_is_session c.cycles.cycle c.victim-given.result inv.breaking.sessions c.victim-given.ensures.member in
    let one : 1 ≤ v.live = live_some stage inv.events c.args.s c.args.key c.args.mode c.args.blockers c.args.self.now.jobs v.trace.items v.journal.items v.seats.items v.rows.rows v.cells.rows v.locks.grants v.waits v.live v.trace.spare v.journal.spare c.cycles.cycle c.cycles.own inv.breaking c.ranks_of-ranks.result right some c.victim-given.result c.victim-given.ensures c.index-in-cycles.result session c.index-in-cycles.ensures.below c.index-in-cycles.ensures.place c.index_mut-in-cycles.result.now c.index_mut-in-cycles.ensures.value in
    let fits = inv.breaking.middle.labels_fit in
    omega (arith, one, fits)

pub overflow_sub-self : goal.overflow_sub-self
overflow_sub-self c =
    let v = c.cycles.self-inside in
    let stage : Stage = record { settings = v.settings; opening = v.opening; priorities = v.priorities } in
    let inv = c.cycles.invariant in
    let right : (u : ℕ) → has_session c.cycles.cycle u ≡ true → rank_of c.ranks_of-ranks.result u ≡ rank_in v.priorities v.seats.items u =
    λ u m. c.ranks_of-ranks.ensures u m ∙ ap (λ (xs : List Seat). rank_in v.priorities xs u) c.deref.ensures.value in
    let some : c.cycles.cycle ≢ [] = (λ e. clash false (c.cycles-test.ensures.empty.1 e) refl) in
    let session : IsSession c.victim-given.result = member_is_session c.cycles.cycle c.victim-given.result inv.breaking.sessions c.victim-given.ensures.member in
    live_some stage inv.events c.args.s c.args.key c.args.mode c.args.blockers c.args.self.now.jobs v.trace.items v.journal.items v.seats.items v.rows.rows v.cells.rows v.locks.grants v.waits v.live v.trace.spare v.journal.spare c.cycles.cycle c.cycles.own inv.breaking c.ranks_of-ranks.result right some c.victim-given.result c.victim-given.ensures c.index-in-cycles.result session c.index-in-cycles.ensures.below c.index-in-cycles.ensures.place c.index_mut-in-cycles.result.now c.index_mut-in-cycles.ensures.value

pub cycles-smaller : goal.cycles-smaller
cycles-smaller c =
    let v = c.cycles.self-inside in
    let stage : Stage = record { settings = v.settings; opening = v.opening; priorities = v.priorities } in
    let inv = c.cycles.invariant in
    let right : (u : ℕ) → has_session c.cycles.cycle u ≡ true → rank_of c.ranks_of-ranks.result u ≡ rank_in v.priorities v.seats.items u =
    λ u m. c.ranks_of-ranks.ensures u m ∙ ap (λ (xs : List Seat). rank_in v.priorities xs u) c.deref.ensures.value in
    let some : c.cycles.cycle ≢ [] = (λ e. clash false (c.cycles-test.ensures.empty.1 e) refl) in
    let session : IsSession c.victim-given.result = member_is_session c.cycles.cycle c.victim-given.result inv.breaking.sessions c.victim-given.ensures.member in
    let one : 1 ≤ v.live = live_some stage inv.events c.args.s c.args.key c.args.mode c.args.blockers c.args.self.now.jobs v.trace.items v.journal.items v.seats.items v.rows.rows v.cells.rows v.locks.grants v.waits v.live v.trace.spare v.journal.spare c.cycles.cycle c.cycles.own inv.breaking c.ranks_of-ranks.result right some c.victim-given.result c.victim-given.ensures c.index-in-cycles.result session c.index-in-cycles.ensures.below c.index-in-cycles.ensures.place c.index_mut-in-cycles.result.now c.index_mut-in-cycles.ensures.value in
    omega (arith, one)

pub cycles-preserved : goal.cycles-preserved
cycles-preserved c =
    let v = c.cycles.self-inside in
    let stage : Stage = record { settings = v.settings; opening = v.opening; priorities = v.priorities } in
    let inv = c.cycles.invariant in
    let right : (u : ℕ) → has_session c.cycles.cycle u ≡ true → rank_of c.ranks_of-ranks.result u ≡ rank_in v.priorities v.seats.items u =
    λ u m. c.ranks_of-ranks.ensures u m ∙ ap (λ (xs : List Seat). rank_in v.priorities xs u) c.deref.ensures.value in
    let some : c.cycles.cycle ≢ [] = (λ e. clash false (c.cycles-test.ensures.empty.1 e) refl) in
    let session : IsSession c.victim-given.result = member_is_session c.cycles.cycle c.victim-given.result inv.breaking.sessions c.victim-given.ensures.member in
    let one : 1 ≤ v.live = live_some stage inv.events c.args.s c.args.key c.args.mode c.args.blockers c.args.self.now.jobs v.trace.items v.journal.items v.seats.items v.rows.rows v.cells.rows v.locks.grants v.waits v.live v.trace.spare v.journal.spare c.cycles.cycle c.cycles.own inv.breaking c.ranks_of-ranks.result right some c.victim-given.result c.victim-given.ensures c.index-in-cycles.result session c.index-in-cycles.ensures.below c.index-in-cycles.ensures.place c.index_mut-in-cycles.result.now c.index_mut-in-cycles.ensures.value in
    let fits = inv.breaking.middle.labels_fit in
    let spare = c.push_reserved-in-cycles.ensures.spare in
    record {
      staged = inv.staged;
      events = inv.events;
      run = inv.run;
      breaking =
          subst (λ (x : Seat). Breaking stage inv.events c.args.s c.args.key c.args.mode c.args.blockers c.args.self.now.jobs c.push_reserved-in-cycles.new.self.items v.journal.items (set v.seats.items c.index-in-cycles.result x) c.undo.new.self.rows c.undo-in-cycles.new.self.rows
          c.release_all.new.self.grants c.ended.new.self (v.live - 1) c.push_reserved-in-cycles.new.self.spare v.journal.spare c.cycle-cycle-in-cycles.result c.latest-own.result) (sym c.abandon.ensures)
          (broken stage inv.events c.args.s c.args.key c.args.mode c.args.blockers c.args.self.now.jobs v.trace.items v.journal.items v.seats.items v.rows.rows v.cells.rows v.locks.grants v.waits v.live v.trace.spare v.journal.spare c.cycles.cycle c.cycles.own inv.breaking c.ranks_of-ranks.result right some c.victim-given.result c.victim-given.ensures c.index-in-cycles.result session c.index-in-cycles.ensures.below c.index-in-cycles.ensures.place c.index_mut-in-cycles.result.now c.index_mut-in-cycles.ensures.value
          c.push_reserved-in-cycles.new.self.items c.undo.new.self.rows c.undo-in-cycles.new.self.rows c.release_all.new.self.grants c.ended.new.self (v.live - 1) c.push_reserved-in-cycles.new.self.spare c.cycle-cycle-in-cycles.result c.latest-own.result
          (c.push_reserved-in-cycles.ensures.items ∙ ap (λ (l : Label). v.trace.items ++ l ∷ []) c.gives_way.ensures) c.undo.ensures.rows c.undo-in-cycles.ensures.rows c.release_all.ensures.grants c.ended.ensures (omega (arith, one)) (omega (arith, one, fits, spare))
          c.cycle-cycle-in-cycles.ensures.cycle c.cycle-cycle-in-cycles.ensures.empty c.cycle-cycle-in-cycles.ensures.sessions
          (c.latest-own.ensures ∙ ap (λ t. cond t (Some c.cycles.cycle) c.cycles.own) c.eq.ensures));
    }

pub returns-clause-ok : goal.returns-clause-ok
returns-clause-ok c =
    let v = c.cycles.self-inside in
    let stage : Stage = record { settings = v.settings; opening = v.opening; priorities = v.priorities } in
    let inv = c.cycles.invariant in
    has_waited stage inv.events c.args.s c.args.key c.args.mode c.args.blockers c.args.self.now.jobs v.trace.items v.journal.items v.seats.items v.rows.rows v.cells.rows v.locks.grants v.waits v.live v.trace.spare v.journal.spare c.cycles.cycle c.cycles.own inv.breaking (c.cycles-test.ensures.empty.0 refl) c.args.self.now inv.staged refl inv.run
