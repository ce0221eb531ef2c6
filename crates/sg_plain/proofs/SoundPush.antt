-- Statements stay sound where a sound one is pushed, or none.
use Rattle.std.proofs.Common.{◌≡◌, List, [], ◌∷◌, ◌++◌, sym, subst, Result, Ok, Err}
use Rattle.std.specs.Prelude.{OnOk, OnErr}
use Rattle.std.proofs.lemmas.List.Elements.{All-push}
use Rattle.sg_plain.specs.declared.statements.Statement.{Statement}
use Rattle.sg_plain.specs.Sat.{IsSoundStatement, AreSound}

pub sound_either_way : {T E : Type 0} (old new : List Statement) (s : Statement) (r : Result T E) → AreSound old → IsSoundStatement s →
    OnOk r (new ≡ old ++ s ∷ []) → OnErr r (new ≡ old) → AreSound new
sound_either_way old new s (Ok x) h sound pushed same = subst AreSound (sym pushed) (All-push IsSoundStatement old s h sound)
sound_either_way old new s (Err e) h sound pushed same = subst AreSound (sym same) h
