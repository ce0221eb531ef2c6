use Rattle.std.proofs.Common.{ℕ, List, false, filter, ◌≡◌, ◌∙◌, sym, ap, subst, refl}
use Rattle.sg_modes.proofs.BoolLaws.{clash}
use Rattle.sg_modes.specs.Sessions.{has_session}
use Rattle.sg_modes.specs.Waits.{blockers_of}
use Rattle.sg_waits.proofs.Finds.{first_none}
use Rattle.sg_waits.proofs.Named.{nobody}
use Rattle.sg_waits.proofs.Chains.{Widened, widened_first, widened_more, widened_same, widened_last}
use Rattle.sg_waits.proofs.standing.Waits.widen.Goals as goal

pub loop-x-init : goal.loop-x-init
loop-x-init c = widened_first (blockers_of c.args.self.now) c.args.near c.all-rest.result c.requires.sessions c.all-rest.ensures.all (λ x n. nobody c.args.self.now x c.requires.standing n)

pub loop-x-preserved-then-not-is_empty : goal.loop-x-preserved-then-not-is_empty
loop-x-preserved-then-not-is_empty c =
    let inter : c.intersection.result ≡ filter (λ z. has_session c.args.near z) (blockers_of c.args.self.now c.in-Some.x) = c.intersection.ensures ∙ ap (λ (ns : List ℕ). filter (λ z. has_session c.args.near z) ns) c.blockers.ensures.blockers in
    widened_more (blockers_of c.args.self.now) c.args.near c.loop-x.found c.pop_first.new.self c.with-found.result c.in-Some.x c.blockers.ensures.session
    (subst (λ (ns : List ℕ). Widened (blockers_of c.args.self.now) c.args.near c.loop-x.found ns) c.in-Some.ensures.rest c.loop-x.invariant)
    (λ e. clash false (c.if-not-is_empty.ensures.empty.1 (inter ∙ e)) refl) c.with-found.ensures

pub loop-x-preserved : goal.loop-x-preserved
loop-x-preserved c =
    let inter : c.intersection.result ≡ filter (λ z. has_session c.args.near z) (blockers_of c.args.self.now c.in-Some.x) = c.intersection.ensures ∙ ap (λ (ns : List ℕ). filter (λ z. has_session c.args.near z) ns) c.blockers.ensures.blockers in
    widened_same (blockers_of c.args.self.now) c.args.near c.loop-x.found c.pop_first.new.self c.in-Some.x
    (subst (λ (ns : List ℕ). Widened (blockers_of c.args.self.now) c.args.near c.loop-x.found ns) c.in-Some.ensures.rest c.loop-x.invariant)
    (sym inter ∙ c.if-not-is_empty.ensures.empty.0 refl)

pub returns-clause-near : goal.returns-clause-near
returns-clause-near c = widened_last (blockers_of c.args.self.now) c.args.near c.loop-x.found c.loop-x.rest (first_none c.loop-x.rest (sym c.in_default.ensures.first)) c.loop-x.invariant
