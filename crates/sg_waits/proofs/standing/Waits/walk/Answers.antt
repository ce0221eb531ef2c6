use Rattle.std.proofs.Common.{ℕ, List, filter, slice_get, arith, ◌≡◌, ◌≤◌, ◌∙◌, sym, ap, subst, ◌-◌}
use Rattle.sg_modes.specs.Sessions.{AreSessions, has_session, with_session}
use Rattle.sg_modes.specs.Waits.{blockers_of}
use Rattle.sg_waits.specs.Search.{Layer}
use Rattle.sg_waits.proofs.Walks.{way_first, way_more, way_next, way_last}
use Rattle.sg_waits.proofs.standing.Waits.walk.Goals as goal

pub steps-init : goal.steps-init
steps-init c = way_first (blockers_of c.args.self.now) c.args.s c.args.steps c.with-members.result c.requires.session (c.with-members.ensures ∙ ap (λ (ns : List ℕ). with_session ns c.args.s) c.none.ensures) c.requires.ahead

pub unreachable-requires : goal.unreachable-requires
unreachable-requires c =
    let below : c.steps.left ≤ c.args.steps = c.steps.invariant.few in
    let common : c.intersection.result ≡ filter (λ z. has_session c.within-nearer.result z) c.blockers.result = c.intersection.ensures in
    let inter : c.intersection.result ≡ filter (λ z. has_session c.within-nearer.result z) (blockers_of c.args.self.now c.steps.at) = common ∙ ap (λ (ns : List ℕ). filter (λ z. has_session c.within-nearer.result z) ns) c.blockers.ensures.blockers in
    way_next (blockers_of c.args.self.now) c.args.s c.args.steps c.steps.members c.steps.at c.steps.left c.within-nearer.result c.steps.invariant
    (subst (λ (ns : List ℕ). Layer (blockers_of c.args.self.now) c.args.s c.steps.left ns) (sym c.within-nearer.ensures) (c.requires.layers c.steps.left below))
    (ap (λ (ns : List ℕ). slice_get ns 0) (sym inter) ∙ sym c.first.ensures.first ∙ c.in_default.is)

pub steps-preserved : goal.steps-preserved
steps-preserved c =
    let below : c.steps.left ≤ c.args.steps = c.steps.invariant.few in
    let common : c.intersection.result ≡ filter (λ z. has_session c.within-nearer.result z) c.blockers.result = c.intersection.ensures in
    let inter : c.intersection.result ≡ filter (λ z. has_session c.within-nearer.result z) (blockers_of c.args.self.now c.steps.at) = common ∙ ap (λ (ns : List ℕ). filter (λ z. has_session c.within-nearer.result z) ns) c.blockers.ensures.blockers in
    way_more (blockers_of c.args.self.now) c.args.s c.args.steps c.steps.members c.with-members-in-steps.result c.steps.at c.steps.left (c.steps.left - 1) c.in-Some.next c.within-nearer.result (omega (arith, c.steps-test.true)) c.steps.invariant
    (subst (λ (ns : List ℕ). Layer (blockers_of c.args.self.now) c.args.s c.steps.left ns) (sym c.within-nearer.ensures) (c.requires.layers c.steps.left below))
    (subst (λ (ns : List ℕ). AreSessions ns) inter c.first.ensures.sessions)
    (ap (λ (ns : List ℕ). slice_get ns 0) (sym inter) ∙ sym c.first.ensures.first ∙ c.in-Some.is)
    c.with-members-in-steps.ensures

pub returns-clause-cycle : goal.returns-clause-cycle
returns-clause-cycle c = way_last (blockers_of c.args.self.now) c.args.s c.args.steps c.steps.members c.steps.at c.steps.left (omega (arith, c.steps-test.false)) c.steps.invariant
