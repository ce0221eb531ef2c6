-- What a source that tells what it holds can't have given.
use Rattle.std.proofs.Common.{◌≡◌, ℕ, ◌+◌, ◌<◌, ◌≤◌, ◌⊎◌, inl, inr, List, ◌++◌, length, Option, Some, None, Ok, Err, append-nil, sym, ap, ◌∙◌, subst, arith}
use Rattle.std.proofs.lemmas.List.{length-append}
use Rattle.sg_script.specs.declared.faults.ScriptFault.{ScriptFault}
use Rattle.sg_script.specs.Grammar.{script_in}
use Rattle.sg_script.specs.Plans.{Plan}
use Rattle.sg_program.specs.Runs.{Gave, HoldsNone, HoldsScript, IsRefused, IsTooLong}

no_script : (bytes : List ℕ) (plan : Plan) → length bytes ≤ 67108864 → script_in bytes ≡ Ok plan →
    (67108864 < length bytes) ⊎ ((fault : ScriptFault) × (script_in bytes ≡ Err fault)) → ⊥
no_script bytes plan within e (inl many) = omega arith
no_script bytes plan within e (inr refused) = ok_or_err (sym e ∙ refused.1)
  where
    ok_or_err : {fault : ScriptFault} → ◌≡◌ {A = Rattle.std.specs.declared.result.Result.TheVariants.the_data Plan ScriptFault} (Ok plan) (Err fault) → ⊥
    ok_or_err h = cc

-- what it gave is no script either
pub gave_none : (before after : Option (List ℕ)) (bytes : List ℕ) (plan : Plan) → HoldsNone before → Gave before after bytes → script_in bytes ≡ Ok plan → ⊥
gave_none None after bytes plan h g e = h
gave_none (Some all) None bytes plan h g e = g.read
gave_none (Some all) (Some rest) bytes plan h g e =
    let whole : all ≡ bytes = g.read ∙ ap (λ (r : List ℕ). bytes ++ r) g.end ∙ append-nil bytes in
    no_script bytes plan g.within e (subst (λ (bs : List ℕ). HoldsNone (Some bs)) whole h)

-- what was given isn't refused where it is a script, for its lines or for its length
pub refused_script : (before after : Option (List ℕ)) (line : List ℕ) → HoldsScript before → IsRefused before after line → ⊥
refused_script None after line h r = h
refused_script (Some all) None line h r = r.given.read
refused_script (Some all) (Some rest) line h r =
    let whole : all ≡ r.bytes = r.given.read ∙ ap (λ (t : List ℕ). r.bytes ++ t) r.given.end ∙ append-nil r.bytes in
    ok_or_err (sym h.1.1 ∙ ap script_in whole ∙ r.fault.script)
  where
    ok_or_err : {plan : Plan} {fault : ScriptFault} → ◌≡◌ {A = Rattle.std.specs.declared.result.Result.TheVariants.the_data Plan ScriptFault} (Ok plan) (Err fault) → ⊥
    ok_or_err e = cc

pub long_script : (before after : Option (List ℕ)) → HoldsScript before → IsTooLong before after → ⊥
long_script None after h r = h
long_script (Some all) None h r = r.read
long_script (Some all) (Some rest) h r =
    let longer : length all ≡ length r.bytes + length rest = ap length r.read ∙ length-append r.bytes rest in
    let many = r.many in
    let within = h.0 in
    omega (arith, longer, many, within)
