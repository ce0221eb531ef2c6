use Rattle.std.proofs.Common.{List, ◌≤◌, All, ap, sym, subst, ◌∙◌, arith}
use Rattle.std.proofs.lemmas.Int.{ints}
use Rattle.sg_plain.specs.Keys.{IsRising}
use Rattle.sg_script.specs.Plans.{IsOrderOf, IsSoundSession, Plan, above_all, numbers_of}
use Rattle.sg_script.specs.declared.sessions.SessionScript.{SessionScript}
use Rattle.sg_script.proofs.Lasts.{rising_push, numbers_of-append, order_later}
use Rattle.sg_script.proofs.SoundSessions.{sound_begun}
use Rattle.sg_script.proofs.scripts.Script.session.Goals as goal

pub invariant_of-self-2 : goal.invariant_of-self-2
invariant_of-self-2 c = record {
  window = c.self.invariant.window;
  rising =
      subst IsRising (sym (ap numbers_of c.in_ok-push.ensures.items ∙ numbers_of-append c.self.inside.sessions.items _))
      (rising_push _ _ c.self.invariant.rising
      (subst (λ (p : Plan). above_all (numbers_of p.sessions) ≤ c.args.session) (sym c.self.view_is) c.requires.above));
  sound =
      subst (All IsSoundSession) (sym c.in_ok-push.ensures.items)
      (sound_begun c.self.inside.sessions.items _ c.self.invariant.sound (let r = c.requires.range in (omega (arith, ints), omega (arith, ints))) c.new.ensures);
  turns =
      subst (λ (ss : List SessionScript). IsOrderOf (numbers_of ss) c.self.inside.order) (sym c.in_ok-push.ensures.items)
      (order_later c.self.inside.sessions.items _ c.self.inside.order c.self.invariant.turns);
}
