use Rattle.std.proofs.Common.{◌∷◌, ◌++◌, [], List, ap, pos, refl, ◌∙◌, arith}
use Rattle.sg_plain.specs.Transactions.{TransactionPlan}
use Rattle.sg_script.specs.Plans.{Plan, with_transaction}
use Rattle.sg_script.specs.declared.sessions.SessionScript.{SessionScript}
use Rattle.sg_workload.specs.Workload.{session_of, transaction_of}
use Rattle.sg_workload.proofs.Draws.{last_gets, made_all, made_more}
use Rattle.sg_workload.proofs.scripts.add_session.Goals as goal

pub loop-place-preserved : goal.loop-place-preserved
loop-place-preserved c =
    let own = c.loop-place.invariant.0 in
    let made = c.in_ok-made.made in
    let before = c.args.script.now in (
      own ++ made ∷ [],
      made_more (transaction_of c.args.rows c.args.number) own _ c.loop-place.place _ _ _ made c.loop-place.invariant.1 refl c.in_ok-made.ensures.transaction c.in_ok-made.ensures.state,
      c.in_ok-add_transaction.ensures
          ∙ (ap (λ (p : Plan). record p { sessions = with_transaction made p.sessions }) c.loop-place.invariant.2
          ∙ ap (λ (ss : List SessionScript). record before { sessions = ss }) (last_gets before.sessions (record { session = c.args.number; priority = pos 0; transactions = own }) made)),
    )

pub returns-clause-script : goal.returns-clause-script
unfolding session_of
returns-clause-script c =
    let before = c.args.script.now in
    c.loop-place.invariant.2
    ∙ ap (λ (own : List TransactionPlan). record before { sessions = before.sessions ++ record { session = c.args.number; priority = pos 0; transactions = own } ∷ [] })
    (made_all (transaction_of c.args.rows c.args.number) _ _ _ _ 3 c.loop-place.invariant.1 (omega arith)).0

pub returns-clause-state : goal.returns-clause-state
unfolding session_of
returns-clause-state c = (made_all (transaction_of c.args.rows c.args.number) _ _ _ _ 3 c.loop-place.invariant.1 (omega arith)).1
