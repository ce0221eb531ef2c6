use Rattle.std.proofs.Common.{List, ℕ, ◌≢◌, [], length, refl, sym, subst, ap}
use Rattle.std.proofs.lemmas.Result.{on_ok_weaker}
use Rattle.sg_plain.specs.Keys.{IsRising}
use Rattle.sg_script.specs.Plans.{IsOrderOf, Plan}
use Rattle.sg_script.proofs.Lasts.{numbers_of-set, added_last, last_within}
use Rattle.sg_script.proofs.SoundSessions.{sound_pushed}
use Rattle.sg_script.proofs.scripts.Script.transaction.Goals as goal

pub invariant_of-self : goal.invariant_of-self
invariant_of-self c =
    let same = sym (numbers_of-set c.self.inside.sessions.items _ c.index_mut.result.now _ refl c.index_mut.ensures.value) in
    let some : c.self.inside.sessions.items ≢ [] = subst (λ (p : Plan). p.sessions ≢ []) (sym c.self.view_is) c.requires in
    record {
      window = c.self.invariant.window;
      rising = subst IsRising same c.self.invariant.rising;
      sound =
          sound_pushed c.self.inside.sessions.items _ c.index_mut.result.now c.push.new.self c.args.transaction c.push.result
          c.self.invariant.sound (last_within c.self.inside.sessions.items _ some (ap length c.as_slice.ensures.value)) c.index_mut.ensures.value c.all_sound.ensures
          c.push.ensures.ok c.push.ensures.err;
      turns = subst (λ (ns : List ℕ). IsOrderOf ns c.self.inside.order) same c.self.invariant.turns;
    }

pub returns-clause-ok : goal.returns-clause-ok
returns-clause-ok c =
    on_ok_weaker c.push.result
    (λ more. added_last c.args.self.now c.self.inside.settings c.self.inside.rows c.self.inside.order c.self.inside.sessions.items _ c.index_mut.result.now
    c.push.new.self c.args.transaction c.self.view_is c.requires (ap length c.as_slice.ensures.value) c.index_mut.ensures.value more)
    c.push.ensures.ok
