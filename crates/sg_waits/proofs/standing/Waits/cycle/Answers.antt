use Rattle.std.proofs.Common.{ℕ, List, [], false, filter, length, arith, ◌≡◌, ◌≢◌, ◌+◌, ◌<◌, ◌≤◌, ◌∙◌, sym, ap, subst, refl, eqb, eqb-true, eq-eqb}
use Rattle.sg_modes.proofs.BoolLaws.{clash}
use Rattle.sg_modes.specs.Sessions.{has_session, with_session}
use Rattle.sg_modes.proofs.WordLaws.{same_words}
use Rattle.sg_modes.specs.Words.{word_of}
use Rattle.sg_modes.specs.Waits.{blockers_of, NoCycle, IsCycleSet}
use Rattle.sg_modes.proofs.WaitLaws.{IsCycleSet-empty, IsCycleSet-none}
use Rattle.sg_waits.proofs.Finds.{few_sessions}
use Rattle.sg_waits.proofs.Chains.{room, search_first, search_more, search_ends, search_kept, search_ahead}
use Rattle.sg_waits.proofs.standing.Waits.cycle.Goals as goal

pub returns-then-eq-clause-cycle : goal.returns-then-eq-clause-cycle
returns-then-eq-clause-cycle c =
    let inter : c.intersection.result ≡ filter (λ z. has_session c.search.near z) (blockers_of c.args.self.now c.args.s) = c.intersection.ensures ∙ ap (λ (ns : List ℕ). filter (λ z. has_session c.search.near z) ns) c.blockers-named.ensures.blockers in
    let same : c.search.near ≡ c.widen-wider.result = same_words c.search.near c.widen-wider.result c.search.invariant.set c.widen-wider.ensures.sessions (sym (eqb-true (word_of c.widen-wider.result) (word_of c.search.near) (sym c.if-eq.ensures))) in
    let ends : NoCycle (blockers_of c.args.self.now) c.args.s = search_ends (blockers_of c.args.self.now) c.args.s c.search.near c.widen-wider.result c.search.steps c.search.layers c.search.invariant c.widen-wider.ensures.near same (sym inter ∙ c.search-test.ensures.empty.0 refl) in
    rw c.none-then-eq.ensures (record { order = []; cycle = ends; members = λ n. refl })

pub returns-then-eq-clause-empty : goal.returns-then-eq-clause-empty
returns-then-eq-clause-empty c =
    let inter : c.intersection.result ≡ filter (λ z. has_session c.search.near z) (blockers_of c.args.self.now c.args.s) = c.intersection.ensures ∙ ap (λ (ns : List ℕ). filter (λ z. has_session c.search.near z) ns) c.blockers-named.ensures.blockers in
    let same : c.search.near ≡ c.widen-wider.result = same_words c.search.near c.widen-wider.result c.search.invariant.set c.widen-wider.ensures.sessions (sym (eqb-true (word_of c.widen-wider.result) (word_of c.search.near) (sym c.if-eq.ensures))) in
    let ends : NoCycle (blockers_of c.args.self.now) c.args.s = search_ends (blockers_of c.args.self.now) c.args.s c.search.near c.widen-wider.result c.search.steps c.search.layers c.search.invariant c.widen-wider.ensures.near same (sym inter ∙ c.search-test.ensures.empty.0 refl) in
    (λ e. ends, λ n. c.none-then-eq.ensures)

pub search-init : goal.search-init
search-init c = search_first (blockers_of c.args.self.now) c.args.s c.with-near.result _ refl c.blockers-named.ensures.session (c.with-near.ensures ∙ ap (λ (ns : List ℕ). with_session ns c.args.s) c.none.ensures)

pub offset_bounds-layers-steps : goal.offset_bounds-layers-steps
offset_bounds-layers-steps c = let b : c.search.steps < 64 = room (blockers_of c.args.self.now) c.args.s c.search.near c.search.steps c.search.layers c.search.invariant in omega arith

pub listed : goal.listed
listed c = let b : c.search.steps < 64 = room (blockers_of c.args.self.now) c.args.s c.search.near c.search.steps c.search.layers c.search.invariant in
    let l : length c.search.layers ≡ 64 = c.search.invariant.sized in omega arith

pub bounds-layers-steps : goal.bounds-layers-steps
bounds-layers-steps c = room (blockers_of c.args.self.now) c.args.s c.search.near c.search.steps c.search.layers c.search.invariant

pub overflow_add-steps : goal.overflow_add-steps
overflow_add-steps c = let b : c.search.steps < 64 = room (blockers_of c.args.self.now) c.args.s c.search.near c.search.steps c.search.layers c.search.invariant in omega arith

apart : (near wider : List ℕ) → false ≡ eqb (word_of wider) (word_of near) → near ≢ wider
apart near wider e same = clash (eqb (word_of wider) (word_of near)) (eq-eqb (word_of wider) (word_of near) (ap word_of (sym same))) (sym e)

pub search-smaller : goal.search-smaller
search-smaller c =
    let inter : c.intersection.result ≡ filter (λ z. has_session c.search.near z) (blockers_of c.args.self.now c.args.s) = c.intersection.ensures ∙ ap (λ (ns : List ℕ). filter (λ z. has_session c.search.near z) ns) c.blockers-named.ensures.blockers in
    let more = search_more (blockers_of c.args.self.now) c.args.s c.search.near c.widen-wider.result c.search.steps c.search.layers c.search.invariant c.widen-wider.ensures.near c.widen-wider.ensures.sessions
    (apart c.search.near c.widen-wider.result c.if-eq.ensures) (sym inter ∙ c.search-test.ensures.empty.0 refl) in
    let longer : length c.search.near < length c.widen-wider.result = more.0 in
    let few : length c.widen-wider.result + 0 ≤ 64 = few_sessions c.widen-wider.result 0 c.widen-wider.ensures.sessions (omega arith) in
    omega arith

pub search-preserved : goal.search-preserved
search-preserved c =
    let inter : c.intersection.result ≡ filter (λ z. has_session c.search.near z) (blockers_of c.args.self.now c.args.s) = c.intersection.ensures ∙ ap (λ (ns : List ℕ). filter (λ z. has_session c.search.near z) ns) c.blockers-named.ensures.blockers in
    let more = search_more (blockers_of c.args.self.now) c.args.s c.search.near c.widen-wider.result c.search.steps c.search.layers c.search.invariant c.widen-wider.ensures.near c.widen-wider.ensures.sessions
    (apart c.search.near c.widen-wider.result c.if-eq.ensures) (sym inter ∙ c.search-test.ensures.empty.0 refl) in
    more.1

pub offset_bounds-layers-steps-2 : goal.offset_bounds-layers-steps-2
offset_bounds-layers-steps-2 c = let b : c.search.steps < 64 = room (blockers_of c.args.self.now) c.args.s c.search.near c.search.steps c.search.layers c.search.invariant in omega arith

pub listed-2 : goal.listed-2
listed-2 c = let b : c.search.steps < 64 = room (blockers_of c.args.self.now) c.args.s c.search.near c.search.steps c.search.layers c.search.invariant in
    let l : length c.search.layers ≡ 64 = c.search.invariant.sized in omega arith

pub bounds-layers-steps-2 : goal.bounds-layers-steps-2
bounds-layers-steps-2 c = room (blockers_of c.args.self.now) c.args.s c.search.near c.search.steps c.search.layers c.search.invariant

pub walk-requires-clause-few : goal.walk-requires-clause-few
walk-requires-clause-few c = room (blockers_of c.args.self.now) c.args.s c.search.near c.search.steps c.search.layers c.search.invariant

pub walk-requires-clause-layers : goal.walk-requires-clause-layers
walk-requires-clause-layers c = λ k l. search_kept (blockers_of c.args.self.now) c.args.s c.search.near c.search.steps c.search.layers c.search.invariant k (omega arith)

pub walk-requires-clause-ahead : goal.walk-requires-clause-ahead
walk-requires-clause-ahead c =
    let inter : c.intersection.result ≡ filter (λ z. has_session c.search.near z) (blockers_of c.args.self.now c.args.s) = c.intersection.ensures ∙ ap (λ (ns : List ℕ). filter (λ z. has_session c.search.near z) ns) c.blockers-named.ensures.blockers in
    search_ahead (blockers_of c.args.self.now) c.args.s c.search.near c.search.steps c.search.layers c.search.invariant (λ e. clash false (c.search-test.ensures.empty.1 (inter ∙ e)) refl)

pub returns-clause-empty : goal.returns-clause-empty
returns-clause-empty c = (
  λ e. IsCycleSet-empty (blockers_of c.args.self.now) c.args.s (subst (λ (ns : List ℕ). IsCycleSet (blockers_of c.args.self.now) c.args.s ns) e c.walk.ensures.cycle),
  λ n. IsCycleSet-none (blockers_of c.args.self.now) c.args.s c.walk.result c.walk.ensures.cycle n,
)
