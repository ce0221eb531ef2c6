-- The line of turns that was written is read as the same turns.
use Rattle.std.proofs.Common.{◌≡◌, ℕ, ◌<◌, ◌^◌, ◌==◌, Bool, false, if◌then◌else◌, List, [], ◌∷◌, length, map, pos, All, Contains, Some, Ok, Err, refl, sym, ap, ◌∙◌, arith}
use Rattle.std.proofs.lemmas.Bool.Decides.{nat_tests}
use Rattle.std.proofs.lemmas.Cmp.{nat_eq_equiv}
use Rattle.std.proofs.lemmas.Fmt.{decimal_nonempty}
use Rattle.std.proofs.lemmas.List.Elements.{All-head, All-tail}
use Rattle.std.proofs.lemmas.Map.Views.{list_any-from_Contains}
use Rattle.std.specs.Fmt.{decimal}
use Rattle.sg_modes.specs.Sessions.{IsSession}
use Rattle.sg_script.specs.declared.faults.ScriptKind.TheVariants as kind
use Rattle.sg_script.specs.declared.words.Line.TheVariants as line
use Rattle.sg_script.specs.Canonical.{turns_text}
use Rattle.sg_script.specs.Fields.{words}
use Rattle.sg_script.specs.Grammar.{◌>>=◌, session_from, one_of, turn, turns, schedule_line}
use Rattle.sg_script.specs.Numbers.{number}
use Rattle.sg_script.specs.Plans.{IsOrderOf}
use Rattle.sg_script.proofs.Spelled.{IsBreak, number-decimal}
use Rattle.sg_script.proofs.Backs.{bind_ok, decimal_begins}
use Rattle.sg_script.proofs.WordLemmas.{words-some}

turns_break : (ns : List ℕ) → IsBreak (turns_text ns)
turns_break [] = tt
turns_break (n ∷ ns) = refl

-- the fields of the line are the numbers
words_back : (ns : List ℕ) → All IsSession ns → words (turns_text ns) ≡ map decimal ns
words_back [] h = refl
words_back (n ∷ ns) h =
    let s : IsSession n = All-head IsSession n ns h in
    let b = decimal_begins n (turns_text ns) (few n s) (turns_break ns) in
    words-some (turns_text (n ∷ ns)) (decimal n) (turns_text ns) (sym b.is) (sym b.after) (some n s)
    ∙ ap (λ (ws : List (List ℕ)). decimal n ∷ ws) (words_back ns (All-tail IsSession n ns h))
  where
    few : (n : ℕ) → IsSession n → n < 2 ^ 64
    few n s = let a = s.1 in omega arith

    some : (n : ℕ) → IsSession n → (length (decimal n) == 0) ≡ false
    some n s = let a : 0 < length (decimal n) = decimal_nonempty n (let b = s.1 in omega arith) in grind (arith, nat_tests)

turn_back : (numbers : List ℕ) (n : ℕ) → IsSession n → Contains numbers n → turn numbers (decimal n) ≡ Ok n
unfolding turn
turn_back numbers n s c =
    bind_ok (session_from 0 (number (decimal n))) n (one_of numbers)
    (ap (session_from 0) (number-decimal n (small n s)) ∙ in_range n s)
    ∙ ap (λ (t : Bool). if t then Ok n else Err kind.Session) (list_any-from_Contains nat_eq_equiv n numbers c)
  where
    small : (n : ℕ) → IsSession n → n < 10 ^ 18
    small n s = let a = s.1 in omega arith

    in_range : (n : ℕ) → IsSession n → session_from 0 (Some (pos n)) ≡ Ok n
    in_range n s = let a = s.0 in let b = s.1 in grind (arith, nat_tests)

turns_back : (numbers ns : List ℕ) → All IsSession ns → IsOrderOf numbers ns → turns numbers (map decimal ns) ≡ Ok ns
turns_back numbers [] h c = refl
turns_back numbers (n ∷ ns) h c =
    bind_ok (turn numbers (decimal n)) n (λ m. turns numbers (map decimal ns) >>= λ ms. Ok (m ∷ ms))
    (turn_back numbers n (All-head IsSession n ns h) (All-head (Contains numbers) n ns c))
    ∙ bind_ok (turns numbers (map decimal ns)) ns (λ ms. Ok (n ∷ ms)) (turns_back numbers ns (All-tail IsSession n ns h) (All-tail (Contains numbers) n ns c))

pub schedule_back : (numbers ns : List ℕ) → All IsSession ns → IsOrderOf numbers ns → schedule_line numbers (turns_text ns) ≡ Ok (line.Schedule ns)
unfolding schedule_line
schedule_back numbers ns h c =
    bind_ok (turns numbers (words (turns_text ns))) ns (λ ms. Ok (line.Schedule ms)) (ap (turns numbers) (words_back ns h) ∙ turns_back numbers ns h c)
