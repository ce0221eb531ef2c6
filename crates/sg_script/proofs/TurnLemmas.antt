-- The turns of a line, read one by one.
use Rattle.std.proofs.Common.{◌≡◌, ℕ, List, [], ◌∷◌, ◌++◌, Result, Ok, Err, refl, sym, ap, ◌∙◌, append-nil, append_assoc}
use Rattle.sg_script.specs.declared.faults.ScriptKind.{ScriptKind}
use Rattle.sg_script.specs.Grammar.{◌>>=◌, turn, turns}

-- these turns, and then those
abbrev pub after_turns : List ℕ → Result (List ℕ) ScriptKind → Result (List ℕ) ScriptKind
after_turns done r = r >>= λ ns. Ok (done ++ ns)

one_more : (done : List ℕ) (n : ℕ) (r : Result (List ℕ) ScriptKind) → after_turns done (r >>= λ ns. Ok (n ∷ ns)) ≡ after_turns (done ++ n ∷ []) r
one_more done n (Ok ns) = ap (λ (ms : List ℕ). Ok ms) (sym (append_assoc done (n ∷ []) ns))
one_more done n (Err k) = refl

-- a further turn
pub turn_read : (numbers done more w : List ℕ) (n : ℕ) (fields rest : List (List ℕ)) → fields ≡ w ∷ rest → turn numbers w ≡ Ok n → more ≡ done ++ n ∷ [] →
    after_turns done (turns numbers fields) ≡ after_turns more (turns numbers rest)
turn_read numbers done more w n fields rest f t m =
    ap (λ (ws : List (List ℕ)). after_turns done (turns numbers ws)) f
    ∙ (ap (λ (r : Result ℕ ScriptKind). after_turns done (r >>= λ n. turns numbers rest >>= λ ns. Ok (n ∷ ns))) t
    ∙ (one_more done n (turns numbers rest) ∙ ap (λ (ms : List ℕ). after_turns ms (turns numbers rest)) (sym m)))

-- a turn at fault
pub turn_fault : (numbers done w : List ℕ) (k : ScriptKind) (fields rest : List (List ℕ)) → fields ≡ w ∷ rest → turn numbers w ≡ Err k →
    after_turns done (turns numbers fields) ≡ Err k
turn_fault numbers done w k fields rest f t =
    ap (λ (ws : List (List ℕ)). after_turns done (turns numbers ws)) f
    ∙ ap (λ (r : Result ℕ ScriptKind). after_turns done (r >>= λ n. turns numbers rest >>= λ ns. Ok (n ∷ ns))) t

-- no further turn
pub turns_end : (numbers done : List ℕ) (fields : List (List ℕ)) → fields ≡ [] → after_turns done (turns numbers fields) ≡ Ok done
turns_end numbers done fields f =
    ap (λ (ws : List (List ℕ)). after_turns done (turns numbers ws)) f ∙ ap (λ (ms : List ℕ). Ok ms) (append-nil done)
