-- What a parse gives, where the parser's contract tells it all.
use Rattle.std.proofs.Common.{◌≡◌, true, false, List, [], ◌∷◌, refl, ap, sym, inl, inr, Some, None}
use Rattle.std.specs.Prelude.{if◌then◌else◌}
use Rattle.clap.specs.Words.{App, HasKind, IsAmong, Kinds, Row, fault_of, is_simple, is_simple_and_free, kind_of, matches_of}
use Rattle.clap.specs.declared.error.Error.{Error}
use Rattle.clap.specs.declared.error.kind.ErrorKind.{ErrorKind}
use Rattle.clap.specs.declared.error.kind.ErrorKind.TheVariants as kind
use Rattle.clap.proofs.WalkLemmas as walks
use Rattle.sg_command.specs.Words.{Word}
use Rattle.sg_command.specs.Usage.{IsTold, clear, make_app, replay_app, rows_found, threads_app}

pub replay_told : IsTold replay_app
unfolding IsTold
replay_told = refl

pub threads_told : IsTold threads_app
unfolding IsTold
threads_told = refl

pub make_told : IsTold make_app
unfolding IsTold
make_told = refl

pub told : (a : App) → IsTold a → is_simple_and_free a ≡ true
unfolding IsTold
told a t = t

pub simple : (a : App) → IsTold a → is_simple a ≡ true
simple a t = (walks.both (is_simple a) _ (told a t)).0

pub found_ok : (a : App) (words : List Word) (rows : List Row) → rows ≡ matches_of a words → fault_of a words ≡ [] → Some rows ≡ rows_found a words
unfolding rows_found
found_ok a words rows e f = rw (f, e) refl

not_clear : (k : ErrorKind) (ks : Kinds) → IsAmong k ks → clear ks ≡ false
not_clear k [] h = absurd h
not_clear k (x ∷ xs) h = refl

pub found_none : (a : App) (words : List Word) (e : Error) → HasKind (fault_of a words) e → (kind_of e ≡ kind.OutOfMemory → ⊥) → None ≡ rows_found a words
unfolding rows_found
found_none a words e (inl memory) h = absurd (h memory)
found_none a words e (inr among) h = sym (ap (λ b. if b then Some (matches_of a words) else None) (not_clear (kind_of e) (fault_of a words) among))
