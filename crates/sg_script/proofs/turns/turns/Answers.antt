use Rattle.std.proofs.Common.{Contains, sym, subst, ◌∙◌}
use Rattle.std.proofs.lemmas.List.Elements.{All-push}
use Rattle.sg_script.specs.Fields.{words}
use Rattle.sg_script.specs.Plans.{IsOrderOf}
use Rattle.sg_script.proofs.TurnLemmas.{turn_read}
use Rattle.sg_script.proofs.turns.turns.Goals as goal

pub fields-preserved : goal.fields-preserved
fields-preserved c = record {
  whole =
      c.fields.invariant.whole
      ∙ turn_read c.args.told c.fields.turns c.push.new.self c.in-Some.field.now c.in_ok-session.session (words c.fields.rest.now) (words c.in-Some.after.now)
      c.in-Some.ensures.words c.in_ok-session.ensures.gives c.in-Ok.ensures.ok;
  within =
      subst (IsOrderOf c.args.told) (sym c.in-Ok.ensures.ok)
      (All-push (Contains c.args.told) c.fields.turns c.in_ok-session.session c.fields.invariant.within c.in_ok-session.ensures.within);
}
