use Rattle.std.proofs.Common.{◌≡◌, ◌∙◌, ◌++◌, List, ℕ, Some, get_or, take, ap, sym, arith}
use Rattle.std.proofs.lemmas.Option.{slice_get-get_or}
use Rattle.std.specs.Fmt.{decimal}
use Rattle.sg_script.specs.Canonical.{spaced, turns_text}
use Rattle.sg_script.proofs.LineTexts.{grown, turn_more}
use Rattle.sg_script.proofs.writing.append_turns.Goals.{in-Some+in_ok-append_number, in_default}
use Rattle.sg_script.proofs.writing.append_turns.Goals as goal

pub loop-place-preserved : goal.loop-place-preserved
loop-place-preserved c = elim c.match-at.branch [
  | in-Some+in_ok-append_number w ↦
      let before : List ℕ = turns_text (take c.loop-place.place c.args.order.now) in
      ap (λ v. v.items) w.out-is
      ∙ grown c.args.out.now.items c.loop-place.out.items w.append_number.new.out.items before (spaced (decimal w.number.result)) _ c.loop-place.invariant
      w.in_ok-append_number.ensures
      (turn_more c.args.order.now c.loop-place.place w.in-Some.session (sym c.at.ensures ∙ w.in-Some.is)
      ∙ ap (λ (n : ℕ). before ++ spaced (decimal n)) (sym w.number.ensures.number))
  | in_default w ↦
      let some : c.at.result ≡ Some (get_or c.args.order.now c.loop-place.place 0) = c.at.ensures ∙ slice_get-get_or c.args.order.now c.loop-place.place 0 (omega arith) in
      absurd (w.in_default.not-Some _ some)
]
