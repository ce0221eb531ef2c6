use Rattle.std.proofs.Common.{sym, subst}
use Rattle.sg_script.specs.Plans.{IsOrderOf, Plan, numbers_of}
use Rattle.sg_script.proofs.scripts.Script.turns.Goals as goal

pub invariant_of-self : goal.invariant_of-self
invariant_of-self c = record {
  window = c.self.invariant.window;
  rising = c.self.invariant.rising;
  sound = c.self.invariant.sound;
  turns =
      c.append.ensures.each (numbers_of c.self.inside.sessions.items) c.self.invariant.turns
      (subst (λ (p : Plan). IsOrderOf (numbers_of p.sessions) c.args.turns.now) (sym c.self.view_is) c.requires);
}
