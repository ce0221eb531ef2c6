-- Each line that was written is read as the same line.
use Rattle.std.proofs.Common.{◌≡◌, ℕ, zero, suc, ◌≤◌, ◌<◌, ◌^◌, ◌==◌, ◌&&◌, Bool, true, false, if◌then◌else◌, bytes_eq, List, [], ◌∷◌, ◌++◌, length, codes, ℤ, pos, negsuc, nat_abs, Some, Result, Ok, refl, ap, ◌∙◌, subst, arith, append-nil}
use Rattle.std.proofs.lemmas.Bool.Decides.{nat_tests}
use Rattle.std.proofs.lemmas.Int.{ints}
use Rattle.std.proofs.lemmas.Fmt.{decimal_nonempty, digits_decimal}
use Rattle.std.proofs.lemmas.Str.Parse.{tells_all_ascii_digits}
use Rattle.std.specs.Str.{all_ascii_digits}
use Rattle.std.specs.Fmt.{decimal, signed_decimal}
use Rattle.sg_modes.specs.Priorities.{IsPriority}
use Rattle.sg_modes.specs.Sessions.{IsSession}
use Rattle.sg_shape.specs.declared.shapes.Kind.TheVariants as kinds
use Rattle.sg_shape.specs.declared.shapes.Shape.{Shape}
use Rattle.sg_shape.specs.declared.shapes.Shape.TheVariants as shapes
use Rattle.sg_shape.specs.declared.matrices.Pred.{Pred}
use Rattle.sg_shape.specs.declared.matrices.Pred.TheVariants as pred
use Rattle.sg_shape.specs.Sound.{IsSound}
use Rattle.sg_wkt.specs.Canonical.{canonical}
use Rattle.sg_wkt.specs.Grammar.{shape_in}
use Rattle.sg_wkt.proofs.LawProofs.{shape_in-canonical}
use Rattle.sg_plain.specs.declared.statements.Query.{Query}
use Rattle.sg_plain.specs.declared.statements.Statement.TheVariants as statement
use Rattle.sg_plain.specs.declared.statements.Test.{Test}
use Rattle.sg_plain.specs.declared.statements.Test.TheVariants as test
use Rattle.sg_plain.specs.Sat.{IsSoundQuery, IsSoundTest}
use Rattle.sg_script.specs.declared.faults.ScriptKind.{ScriptKind}
use Rattle.sg_script.specs.declared.words.Line.{Line}
use Rattle.sg_script.specs.declared.words.Line.TheVariants as line
use Rattle.sg_script.specs.Canonical.{spaced, relation_word, comparison_word, test_text, query_text, row_text, priority_text}
use Rattle.sg_script.specs.Fields.{after_blanks, field, after_field}
use Rattle.sg_script.specs.Grammar.{◌>>=◌, key_from, key, session_from, session_number, priority_from, priority, expect, shape, shape_of, relation_of, comparison, bound_from, distance, test_from, test_of, query_of, nothing, lone_key, row_line, session_line, insert_line, update_line, delete_line, get_line, select_line, plan_line, filter_line, bare_line, window_from, window_line}
use Rattle.sg_script.specs.Numbers.{number}
use Rattle.sg_script.specs.Plans.{IsWindow}
use Rattle.sg_script.specs.Told.{IsKey}
use Rattle.sg_script.proofs.Spelled.{own, IsPlain, IsBreak, Begins, begins, spaced_begins, decimal-plain, number-decimal, signed_decimal-plain, signed_decimal-some, number-signed}

pub bind_ok : {A B : Type 0} (r : Result A ScriptKind) (x : A) (f : A → Result B ScriptKind) → r ≡ Ok x → (r >>= f) ≡ f x
bind_ok r x f e = ap (λ s. s >>= f) e

-- a decimal after a space
pub decimal_begins : (n : ℕ) (rest : List ℕ) → n < 2 ^ 64 → IsBreak rest → Begins (spaced (decimal n ++ rest)) (decimal n) rest
decimal_begins n rest h e = spaced_begins _ _ _ (begins (decimal n) rest (decimal-plain n h) (decimal_nonempty n h) e)

-- and one that ends the line
pub last_decimal : (n : ℕ) → n < 2 ^ 64 → Begins (spaced (decimal n)) (decimal n) []
last_decimal n h = subst (λ (t : List ℕ). Begins (spaced t) (decimal n) []) (append-nil (decimal n)) (decimal_begins n [] h tt)

pub nothing_left : nothing [] ≡ Ok tt
unfolding nothing
nothing_left = refl

key_back : (least k : ℕ) (text rest : List ℕ) → Begins text (decimal k) rest → least ≤ k → IsKey k → key least text ≡ Ok (k, rest)
unfolding key
key_back least k text rest b low most =
    bind_ok (key_from least (number (field text))) k (λ n. Ok (n, after_field text))
    (ap (λ f. key_from least (number f)) b.is ∙ (ap (key_from least) (number-decimal k (omega arith)) ∙ in_range))
    ∙ ap (λ t. Ok (k, t)) b.after
  where
    in_range : key_from least (Some (pos k)) ≡ Ok k
    in_range = grind (arith, nat_tests)

-- a canonical text begins with no blank
after_blanks-canonical : (s : Shape) → after_blanks (canonical s) ≡ canonical s
after_blanks-canonical (shapes.Empty kinds.Point) = refl
after_blanks-canonical (shapes.Empty kinds.Line) = refl
after_blanks-canonical (shapes.Empty kinds.Polygon) = refl
after_blanks-canonical (shapes.Point spot) = refl
after_blanks-canonical (shapes.Line path) = refl
after_blanks-canonical (shapes.Polygon rings) = refl

shape_back : (s : Shape) → IsSound s → shape (spaced (canonical s)) ≡ Ok s
unfolding shape
shape_back s sound = ap (λ t. shape_of (shape_in t)) (after_blanks-canonical s) ∙ ap shape_of (shape_in-canonical s sound)

-- a key and a shape
keyed : (least k : ℕ) (s : Shape) → least ≤ k → IsKey k → key least (spaced (row_text k s)) ≡ Ok (k, spaced (canonical s))
keyed least k s low most = key_back least k _ _ (decimal_begins k (spaced (canonical s)) (omega arith) refl) low most

pub row_back : (least k : ℕ) (s : Shape) → least ≤ k → IsKey k → IsSound s → row_line least (spaced (row_text k s)) ≡ Ok (line.Row k s)
unfolding row_line
row_back least k s low most sound =
    bind_ok (key least (spaced (row_text k s))) (k, spaced (canonical s)) (λ r. shape r.1 >>= λ t. Ok (line.Row r.0 t)) (keyed least k s low most)
    ∙ bind_ok (shape (spaced (canonical s))) s (λ t. Ok (line.Row k t)) (shape_back s sound)

pub insert_back : (k : ℕ) (s : Shape) → IsKey k → IsSound s → insert_line (spaced (row_text k s)) ≡ Ok (line.Statement (statement.Insert k s))
unfolding insert_line
insert_back k s most sound =
    bind_ok (key 0 (spaced (row_text k s))) (k, spaced (canonical s)) (λ r. shape r.1 >>= λ t. Ok (line.Statement (statement.Insert r.0 t))) (keyed 0 k s (omega arith) most)
    ∙ bind_ok (shape (spaced (canonical s))) s (λ t. Ok (line.Statement (statement.Insert k t))) (shape_back s sound)

pub update_back : (k : ℕ) (s : Shape) → IsKey k → IsSound s → update_line (spaced (row_text k s)) ≡ Ok (line.Statement (statement.Update k s))
unfolding update_line
update_back k s most sound =
    bind_ok (key 0 (spaced (row_text k s))) (k, spaced (canonical s)) (λ r. shape r.1 >>= λ t. Ok (line.Statement (statement.Update r.0 t))) (keyed 0 k s (omega arith) most)
    ∙ bind_ok (shape (spaced (canonical s))) s (λ t. Ok (line.Statement (statement.Update k t))) (shape_back s sound)

lone_back : (k : ℕ) → IsKey k → lone_key (spaced (decimal k)) ≡ Ok k
unfolding lone_key
lone_back k most =
    bind_ok (key 0 (spaced (decimal k))) (k, []) (λ r. nothing r.1 >>= λ u. Ok r.0) (key_back 0 k _ _ (last_decimal k (omega arith)) (omega arith) most)
    ∙ bind_ok (nothing []) tt (λ u. Ok k) nothing_left

pub get_back : (k : ℕ) → IsKey k → get_line (spaced (decimal k)) ≡ Ok (line.Statement (statement.Get k))
unfolding get_line
get_back k most = bind_ok (lone_key (spaced (decimal k))) k (λ n. Ok (line.Statement (statement.Get n))) (lone_back k most)

-- digits aren't the word `where`
no_where : (ds : List ℕ) → all_ascii_digits ds ≡ true → bytes_eq ds (codes "where") ≡ false
no_where [] e = refl
no_where (d ∷ ds) e = let parts = tells_all_ascii_digits.parts d ds e in at (d == 119) (not_w d parts.0.1)
  where
    not_w : (d : ℕ) → d ≤ 57 → (d == 119) ≡ false
    not_w d most = grind (arith, nat_tests)

    at : (t : Bool) → t ≡ false → (t && bytes_eq ds (codes "here")) ≡ false
    at true e = cc
    at false e = refl

-- what follows `delete`, as its first field is or isn't `where`
abbrev removal : Bool → List ℕ → Result Line ScriptKind
removal true text = query_of (after_field text) >>= λ q. Ok (line.Statement (statement.DeleteWhere q))
removal false text = lone_key text >>= λ n. Ok (line.Statement (statement.Delete n))

removes : (text : List ℕ) (t : Bool) → bytes_eq (field text) (codes "where") ≡ t → delete_line text ≡ removal t text
unfolding delete_line
removes text t e = ap (λ (u : Bool). if u then removal true text else removal false text) e ∙ chosen t
  where
    chosen : (t : Bool) → (if t then removal true text else removal false text) ≡ removal t text
    chosen true = refl
    chosen false = refl

pub delete_back : (k : ℕ) → IsKey k → delete_line (spaced (decimal k)) ≡ Ok (line.Statement (statement.Delete k))
delete_back k most =
    removes (spaced (decimal k)) false
    (ap (λ (f : List ℕ). bytes_eq f (codes "where")) (last_decimal k (omega arith)).is ∙ no_where (decimal k) (digits_decimal own k (omega arith)))
    ∙ bind_ok (lone_key (spaced (decimal k))) k (λ n. Ok (line.Statement (statement.Delete n))) (lone_back k most)

-- ---- tests
relation_plain : (p : Pred) → IsPlain (relation_word p)
relation_plain pred.Intersects = refl
relation_plain pred.Contains = refl
relation_plain pred.Within = refl
relation_plain pred.Equals = refl
relation_plain pred.Touches = refl

relation_some : (p : Pred) → 0 < length (relation_word p)
relation_some pred.Intersects = omega arith
relation_some pred.Contains = omega arith
relation_some pred.Within = omega arith
relation_some pred.Equals = omega arith
relation_some pred.Touches = omega arith

relation_named : (p : Pred) → relation_of (relation_word p) ≡ Some p
relation_named pred.Intersects = refl
relation_named pred.Contains = refl
relation_named pred.Within = refl
relation_named pred.Equals = refl
relation_named pred.Touches = refl

relation_back : (p : Pred) (rest : List ℕ) → test_of (spaced (relation_word p ++ spaced rest)) ≡ Ok (test.Relate p, spaced rest)
unfolding test_of
relation_back p rest =
    let b = spaced_begins _ _ _ (begins (relation_word p) (spaced rest) (relation_plain p) (relation_some p) refl) in
    ap (λ f. test_from (relation_of f) (spaced (relation_word p ++ spaced rest))) b.is
    ∙ (ap (λ o. test_from o (spaced (relation_word p ++ spaced rest))) (relation_named p) ∙ ap (λ t. Ok (test.Relate p, t)) b.after)

comparison_back : (strict : Bool) (rest : List ℕ) → comparison (spaced (comparison_word strict ++ spaced rest)) ≡ Ok (strict, spaced rest)
unfolding comparison
comparison_back true rest = refl
comparison_back false rest = refl

distance_back : (bound : ℕ) (strict : Bool) (rest : List ℕ) → bound ≤ 64000000 →
    distance (spaced (comparison_word strict ++ spaced (decimal bound ++ spaced rest))) ≡ Ok (test.Near bound strict, spaced rest)
unfolding distance
distance_back bound strict rest most =
    let b = decimal_begins bound (spaced rest) (omega arith) refl in
    bind_ok (comparison (spaced (comparison_word strict ++ spaced (decimal bound ++ spaced rest)))) (strict, spaced (decimal bound ++ spaced rest))
    (λ s. bound_from (number (field s.1)) >>= λ n. Ok (test.Near n s.0, after_field s.1)) (comparison_back strict (decimal bound ++ spaced rest))
    ∙ (bind_ok (bound_from (number (field (spaced (decimal bound ++ spaced rest))))) bound (λ n. Ok (test.Near n strict, after_field (spaced (decimal bound ++ spaced rest))))
    (ap (λ f. bound_from (number f)) b.is ∙ (ap bound_from (number-decimal bound (omega arith)) ∙ in_range))
    ∙ ap (λ t. Ok (test.Near bound strict, t)) b.after)
  where
    in_range : bound_from (Some (pos bound)) ≡ Ok bound
    in_range = grind (arith, nat_tests)

-- a word that is no relation's
near_back : (bound : ℕ) (strict : Bool) (rest : List ℕ) → bound ≤ 64000000 →
    test_of (spaced (codes "distance" ++ spaced (comparison_word strict ++ spaced (decimal bound ++ spaced rest)))) ≡ Ok (test.Near bound strict, spaced rest)
unfolding test_of
near_back bound strict rest most = distance_back bound strict rest most

tested : (t : Test) (rest : List ℕ) → IsSoundTest t → test_of (spaced (test_text t ++ spaced rest)) ≡ Ok (t, spaced rest)
tested (test.Relate p) rest h = relation_back p rest
tested (test.Near bound true) rest h = near_back bound true rest h
tested (test.Near bound false) rest h = near_back bound false rest h

abbrev against : Test → Shape → Query
against t s = record { test = t; shape = s }

query_back : (q : Query) → IsSoundQuery q → query_of (spaced (query_text q)) ≡ Ok q
unfolding query_of
query_back q sound =
    bind_ok (test_of (spaced (test_text q.test ++ spaced (canonical q.shape)))) (q.test, spaced (canonical q.shape)) (λ r. shape r.1 >>= λ s. Ok (against r.0 s))
    (tested q.test (canonical q.shape) sound.test)
    ∙ bind_ok (shape (spaced (canonical q.shape))) q.shape (λ s. Ok (against q.test s)) (shape_back q.shape sound.shape)

pub select_back : (q : Query) → IsSoundQuery q → select_line (spaced (query_text q)) ≡ Ok (line.Statement (statement.Select q))
unfolding select_line
select_back q sound = bind_ok (query_of (spaced (query_text q))) q (λ r. Ok (line.Statement (statement.Select r))) (query_back q sound)

pub plan_back : (q : Query) → IsSoundQuery q → plan_line (spaced (query_text q)) ≡ Ok (line.Statement (statement.Plan q))
unfolding plan_line
plan_back q sound = bind_ok (query_of (spaced (query_text q))) q (λ r. Ok (line.Statement (statement.Plan r))) (query_back q sound)

pub delete_where_back : (q : Query) → IsSoundQuery q → delete_line (spaced (codes "where" ++ spaced (query_text q))) ≡ Ok (line.Statement (statement.DeleteWhere q))
unfolding delete_line
delete_where_back q sound = bind_ok (query_of (spaced (query_text q))) q (λ r. Ok (line.Statement (statement.DeleteWhere r))) (query_back q sound)

pub filter_back : (s : Shape) → IsSound s → filter_line (spaced (canonical s)) ≡ Ok (line.Statement (statement.Filter s))
unfolding filter_line
filter_back s sound = bind_ok (shape (spaced (canonical s))) s (λ t. Ok (line.Statement (statement.Filter t))) (shape_back s sound)

-- ---- other lines
pub bare_back : (l : Line) → bare_line l [] ≡ Ok l
unfolding bare_line
bare_back l = bind_ok (nothing []) tt (λ u. Ok l) nothing_left

pub window_back : (n : ℕ) → IsWindow n → window_line (spaced (decimal n)) ≡ Ok (line.Window n)
unfolding window_line
window_back n w =
    let b = last_decimal n (few n w) in
    bind_ok (window_from (number (field (spaced (decimal n))))) n (λ m. nothing (after_field (spaced (decimal n))) >>= λ u. Ok (line.Window m))
    (ap (λ f. window_from (number f)) b.is ∙ (ap window_from (number-decimal n (small n w)) ∙ in_range n w))
    ∙ bind_ok (nothing (after_field (spaced (decimal n)))) tt (λ u. Ok (line.Window n)) (ap nothing b.after ∙ nothing_left)
  where
    few : (n : ℕ) → IsWindow n → n < 2 ^ 64
    few n w = omega arith

    small : (n : ℕ) → IsWindow n → n < 10 ^ 18
    small n w = omega arith

    in_range : (n : ℕ) → IsWindow n → window_from (Some (pos n)) ≡ Ok n
    in_range n w = let a = w.some in let b = w.most in grind (arith, nat_tests)

session_number_back : (least n : ℕ) (rest : List ℕ) → IsBreak rest → least ≤ n → IsSession n → session_number least (spaced (decimal n ++ rest)) ≡ Ok (n, rest)
unfolding session_number
session_number_back least n rest e low s =
    let a = s.0 in
    let c = s.1 in
    let b = decimal_begins n rest (omega arith) e in
    bind_ok (session_from least (number (field (spaced (decimal n ++ rest))))) n (λ m. Ok (m, after_field (spaced (decimal n ++ rest))))
    (ap (λ f. session_from least (number f)) b.is ∙ (ap (session_from least) (number-decimal n (omega arith)) ∙ in_range))
    ∙ ap (λ t. Ok (n, t)) b.after
  where
    in_range : session_from least (Some (pos n)) ≡ Ok n
    in_range = let a = s.0 in let c = s.1 in grind (arith, nat_tests)

pub short_priority : (z : ℤ) → IsPriority z → nat_abs z < 10 ^ 18
short_priority (pos n) h = omega (arith, ints)
short_priority (negsuc n) h = omega (arith, ints)

last_signed : (z : ℤ) → nat_abs z < 10 ^ 18 → Begins (spaced (signed_decimal z)) (signed_decimal z) []
last_signed z h =
    subst (λ (t : List ℕ). Begins (spaced t) (signed_decimal z) []) (append-nil (signed_decimal z))
    (spaced_begins _ _ _ (begins (signed_decimal z) [] (signed_decimal-plain z h) (signed_decimal-some z h) tt))

-- a priority after its word
told_priority : (z : ℤ) → IsPriority z → priority (spaced (codes "priority") ++ spaced (signed_decimal z)) ≡ Ok z
unfolding priority expect
told_priority z h =
    let b = last_signed z (short_priority z h) in
    bind_ok (priority_from (number (field (spaced (signed_decimal z))))) z (λ q. nothing (after_field (spaced (signed_decimal z))) >>= λ u. Ok q)
    (ap (λ f. priority_from (number f)) b.is ∙ (ap priority_from (number-signed z (short_priority z h)) ∙ in_range))
    ∙ bind_ok (nothing (after_field (spaced (signed_decimal z)))) tt (λ u. Ok z) (ap nothing b.after ∙ nothing_left)
  where
    in_range : priority_from (Some z) ≡ Ok z
    in_range = grind (arith, ints)

priority_back : (z : ℤ) → IsPriority z → priority (priority_text z) ≡ Ok z
unfolding priority
priority_back (pos zero) h = refl
priority_back (pos (suc n)) h = told_priority (pos (suc n)) h
priority_back (negsuc n) h = told_priority (negsuc n) h

priority_break : (z : ℤ) → IsBreak (priority_text z)
priority_break (pos zero) = tt
priority_break (pos (suc n)) = refl
priority_break (negsuc n) = refl

pub session_back : (least n : ℕ) (z : ℤ) → least ≤ n → IsSession n → IsPriority z → session_line least (spaced (decimal n) ++ priority_text z) ≡ Ok (line.Session n z)
unfolding session_line
session_back least n z low s p =
    bind_ok (session_number least (spaced (decimal n ++ priority_text z))) (n, priority_text z) (λ r. priority r.1 >>= λ q. Ok (line.Session r.0 q))
    (session_number_back least n (priority_text z) (priority_break z) low s)
    ∙ bind_ok (priority (priority_text z)) z (λ q. Ok (line.Session n q)) (priority_back z p)
