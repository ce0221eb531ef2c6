-- The line that sums up a run, piece by piece.
use Rattle.std.proofs.Common.{◌≡◌, ℕ, List, [], ◌∷◌, ◌++◌, ap, ◌∙◌, append_assoc}
use Rattle.std.specs.Fmt.{decimal}

regrouped : (a b c d e f g h i j k l z : List ℕ) → ((((((([] ++ (a ++ b)) ++ (c ++ d)) ++ (e ++ f)) ++ (g ++ h)) ++ (i ++ j)) ++ (k ++ l)) ++ z) ≡ (((((((((((a ++ b) ++ c) ++ d) ++ e) ++ f) ++ g) ++ h) ++ i) ++ j) ++ k) ++ l) ++ z
regrouped a b c d e f g h i j k l z = simp append_assoc

-- behind each text stands a further number; the last line feed ends the line
pub summed : (a c e g i k : List ℕ) (n1 n2 n3 n4 n5 n6 m1 m2 m3 m4 m5 m6 : ℕ) (t0 t1 t2 t3 t4 t5 t6 t7 : List ℕ)
    → t0 ≡ [] → t1 ≡ t0 ++ (a ++ decimal n1) → t2 ≡ t1 ++ (c ++ decimal n2) → t3 ≡ t2 ++ (e ++ decimal n3) → t4 ≡ t3 ++ (g ++ decimal n4) → t5 ≡ t4 ++ (i ++ decimal n5) → t6 ≡ t5 ++ (k ++ decimal n6) → t7 ≡ t6 ++ 10 ∷ []
    → n1 ≡ m1 → n2 ≡ m2 → n3 ≡ m3 → n4 ≡ m4 → n5 ≡ m5 → n6 ≡ m6
    → t7 ≡ a ++ decimal m1 ++ c ++ decimal m2 ++ e ++ decimal m3 ++ g ++ decimal m4 ++ i ++ decimal m5 ++ k ++ decimal m6 ++ 10 ∷ []
summed a c e g i k n1 n2 n3 n4 n5 n6 m1 m2 m3 m4 m5 m6 t0 t1 t2 t3 t4 t5 t6 t7 e0 e1 e2 e3 e4 e5 e6 e7 q1 q2 q3 q4 q5 q6 =
    e7
    ∙ (ap (λ (t : List ℕ). t ++ 10 ∷ []) (more k n6 m6 t5 t6 e6 q6 (more i n5 m5 t4 t5 e5 q5 (more g n4 m4 t3 t4 e4 q4 (more e n3 m3 t2 t3 e3 q3 (more c n2 m2 t1 t2 e2 q2 (more a n1 m1 t0 t1 e1 q1 e0))))))
    ∙ regrouped a (decimal m1) c (decimal m2) e (decimal m3) g (decimal m4) i (decimal m5) k (decimal m6) (10 ∷ []))
  where
    more : (words : List ℕ) (n m : ℕ) (before after : List ℕ) {is : List ℕ} → after ≡ before ++ (words ++ decimal n) → n ≡ m → before ≡ is → after ≡ is ++ (words ++ decimal m)
    more words n m before after {is} e q same = e ∙ (ap (λ (t : List ℕ). t ++ (words ++ decimal n)) same ∙ ap (λ (x : ℕ). is ++ (words ++ decimal x)) q)
