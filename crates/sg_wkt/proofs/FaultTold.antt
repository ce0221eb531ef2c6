-- Reading tells its faults in their own words: state by state, from the first token on.
use Rattle.std.proofs.Common.{◌≡◌, ◌≤◌, ◌<◌, ℕ, zero, suc, ◌+◌, ◌*◌, nat_lt, Bool, true, false, cond, not, ◌||◌, ◌⊎◌, inl, inr, List, [], ◌∷◌, ◌++◌, length, codes, ℤ, pos, refl, sym, ap, ◌∙◌, subst, Result, Ok, Err, arith}
use Rattle.std.proofs.lemmas.Bool.Decides.{nat_tests}
use Rattle.sg_shape.specs.declared.spots.Spot.{Spot}
use Rattle.sg_shape.specs.declared.shapes.Kind.{Kind}
use Rattle.sg_shape.specs.declared.shapes.Kind.TheVariants as kind
use Rattle.sg_shape.specs.declared.shapes.Shape.{Shape}
use Rattle.sg_shape.specs.declared.shapes.Shape.TheVariants as shapes
use Rattle.sg_shape.specs.Sound.{is_open, is_short}
use Rattle.sg_wkt.specs.declared.drafts.Draft.{Draft}
use Rattle.sg_wkt.specs.declared.drafts.Draft.TheVariants as draft
use Rattle.sg_wkt.specs.declared.drafts.Next.{Next}
use Rattle.sg_wkt.specs.declared.drafts.Next.TheVariants as next
use Rattle.sg_wkt.specs.declared.faults.WktFault.{WktFault}
use Rattle.sg_wkt.specs.declared.faults.WktKind.{WktKind}
use Rattle.sg_wkt.specs.declared.faults.WktKind.TheVariants as kinds
use Rattle.sg_wkt.specs.Tokens.{Token, Tokens, Ends, Begins}
use Rattle.sg_wkt.specs.Numbers.{coordinate}
use Rattle.sg_wkt.specs.Grammar.{Reading, ◌>>=◌, fault, is_one, mark, separator, number, spot, no_room, after_line_spot, after_ring, after_ring_spot, after_spot, with_spot, step, until_whole, spots, and_nothing}
use Rattle.sg_wkt.specs.Spelled.{Texts}
use Rattle.sg_wkt.specs.Faults.{numbers, fewest, MayStand, HasRoom}
use Rattle.sg_wkt.proofs.Consumed.{is_byte}
use Rattle.sg_wkt.proofs.FaultStates.{State, Comes, Goal, Tells, Raw, Ends4, told-next, fault-here, end-here, may_go_on, mark-told, number-told, done-told}
use Rattle.sg_wkt.proofs.FaultPaths.{kind_of, path_of, Wants, Has, may-close, wants-first, wants-second, has-spot, wants-comma, wants-ring, closed-last, closed-open, numbers-more, numbers-same}
use Rattle.sg_wkt.proofs.FaultSteps.{finish, Spots, placed_at, Second, After, AfterRing, Opens, spots-end, spots-found, spots-wrong, none-end, none-left, second-end, second-found, second-wrong, after-end, after-comma, after-wrong, line-few, line-whole, ring-few, ring-open, ring-whole, rings-end, rings-comma, rings-whole, rings-wrong, opens-end, opens-found, opens-wrong}
use Rattle.sg_wkt.proofs.FaultEnds.{rings-finishes, spots-finishes, second-ends, after-finishes, opens-finishes}

-- ---- room for four more spots
room_four : (n room : ℕ) → n + 2 * room ≡ 4096 → n < 4090 → 4 ≤ room
room_four n room e h = omega (arith, e, h)

no_four : (n : ℕ) → n + 2 * zero ≡ 4096 → n < 4090 → ⊥
no_four n e h = omega (arith, e, h)

room_three : (m n room : ℕ) → m ≡ n + 1 → n + 2 * suc room ≡ 4096 → m < 4090 → 3 ≤ room
room_three m n room f e h = omega (arith, e, f, h)

three_left : (n room : ℕ) → n + 2 * room ≡ 4096 → n < 4090 → 3 ≤ room
three_left n room e h = omega (arith, e, h)

four_left : (m n room : ℕ) → m + 2 * room ≡ 4096 → n ≡ m → n < 4090 → 4 ≤ room
four_left m n room e f h = omega (arith, e, f, h)

same_count : (b : Texts) → numbers ((b ++ codes ")" ∷ []) ++ codes "," ∷ []) ≡ numbers b
same_count b = numbers-same (b ++ codes ")" ∷ []) (codes ",") refl ∙ numbers-same b (codes ")") refl

after_fin : (room : ℕ) (d : Draft) (b : Texts) → Has b room d → Ends4 b (After room d)
after_fin room d b h four = after-finishes room d b (three_left (numbers b) room h.count four) h

-- ---- what each tells
abbrev Further : ℕ → Type 0
Further room = (d : Draft) (b : Texts) → Wants b room d → Tells b (Spots room d)

opens-told : (room : ℕ) (rings : List (List Spot)) (ring : List Spot) (b : Texts) → Has b room (draft.Polygon rings ring) → Further room →
    Tells ((b ++ codes ")" ∷ []) ++ codes "," ∷ []) (Opens room (rings ++ ring ∷ []))
opens-told room rings ring b h further =
    let all = rings ++ ring ∷ [] in
    mark-told 40 ((b ++ codes ")" ∷ []) ++ codes "," ∷ []) (Opens room all) (Spots room (draft.Polygon all []))
    (opens-end room all) (opens-found room all) (opens-wrong room all) refl (closed-open b room rings ring h)
    (λ four. opens-finishes room all (four_left (numbers b) (numbers ((b ++ codes ")" ∷ []) ++ codes "," ∷ [])) room h.count (same_count b) four))
    (further (draft.Polygon all []) (((b ++ codes ")" ∷ []) ++ codes "," ∷ []) ++ codes "(" ∷ []) (wants-ring b room rings ring h))

after_ring-told : (room : ℕ) (rings : List (List Spot)) (ring : List Spot) (b : Texts) → Has b room (draft.Polygon rings ring) → Further room →
    Tells (b ++ codes ")" ∷ []) (AfterRing room (rings ++ ring ∷ []))
after_ring-told room rings ring b h further before at (Ends end) =
    end-here before (b ++ codes ")" ∷ []) (AfterRing room (rings ++ ring ∷ [])) end at (rings-end room (rings ++ ring ∷ []) end)
    (may_go_on (b ++ codes ")" ∷ []) (codes ")") (closed-last b room rings ring h)) (λ four. rings-finishes room (rings ++ ring ∷ []))
after_ring-told room rings ring b h further before at (Begins token rest) = choose (is_one 44 token) (is_one 41 token) refl refl
  where
    choose : (c e : Bool) → is_one 44 token ≡ c → is_one 41 token ≡ e → Goal before (AfterRing room (rings ++ ring ∷ [])) (Begins token rest)
    choose true e x y =
        told-next before (b ++ codes ")" ∷ []) (codes ",") (AfterRing room (rings ++ ring ∷ [])) (Opens room (rings ++ ring ∷ [])) token rest at (is_byte 44 token x)
        (λ more. rings-comma room (rings ++ ring ∷ []) token more x) (opens-told room rings ring b h further)
    choose false true x y =
        told-next before (b ++ codes ")" ∷ []) (codes ")") (AfterRing room (rings ++ ring ∷ [])) (and_nothing (shapes.Polygon (rings ++ ring ∷ []))) token rest at (is_byte 41 token y)
        (λ more. rings-whole room (rings ++ ring ∷ []) token more x y) (done-told ((b ++ codes ")" ∷ []) ++ codes ")" ∷ []) (shapes.Polygon (rings ++ ring ∷ [])))
    choose false false x y =
        fault-here before (b ++ codes ")" ∷ []) (AfterRing room (rings ++ ring ∷ [])) token rest kinds.Punctuation at
        (λ more. rings-wrong room (rings ++ ring ∷ []) token more x y) (41, refl, closed-last b room rings ring h) (λ four. rings-finishes room (rings ++ ring ∷ []))

short : (n least : ℕ) → nat_lt n least ≡ true → n < least
short n least e = grind (arith, nat_tests)

long : (n least : ℕ) → nat_lt n least ≡ false → least ≤ n
long n least e = grind (arith, nat_tests)

-- a bracket, which ends the path
bracket-told : (room : ℕ) (d : Draft) (b : Texts) → Has b room d → Further room → (before : List Token) → Comes before b (After room d) →
    (token : Token) (rest : Tokens) → is_one 44 token ≡ false → is_one 41 token ≡ true → Goal before (After room d) (Begins token rest)
bracket-told room (draft.Line spots) b h further before at token rest x y = choose (nat_lt (length spots) 2) refl
  where
    choose : (t : Bool) → nat_lt (length spots) 2 ≡ t → Goal before (After room (draft.Line spots)) (Begins token rest)
    choose true e =
        fault-here before b (After room (draft.Line spots)) token rest kinds.TooFew at (λ more. line-few room spots token more x y e)
        (is_byte 41 token y, subst (MayStand b) (sym (is_byte 41 token y)) (may-close b room (draft.Line spots) h), kind.Line, spots, h.path, short (length spots) 2 e) (after_fin room (draft.Line spots) b h)
    choose false e =
        told-next before b (codes ")") (After room (draft.Line spots)) (and_nothing (shapes.Line spots)) token rest at (is_byte 41 token y)
        (λ more. line-whole room spots token more x y e) (done-told (b ++ codes ")" ∷ []) (shapes.Line spots))
bracket-told room (draft.Polygon rings ring) b h further before at token rest x y = choose (is_short ring) (is_open ring) refl refl
  where
    choose : (t o : Bool) → is_short ring ≡ t → is_open ring ≡ o → Goal before (After room (draft.Polygon rings ring)) (Begins token rest)
    choose true o e f =
        fault-here before b (After room (draft.Polygon rings ring)) token rest kinds.TooFew at (λ more. ring-few room rings ring token more x y e)
        (is_byte 41 token y, subst (MayStand b) (sym (is_byte 41 token y)) (may-close b room (draft.Polygon rings ring) h), kind.Polygon, ring, h.path, short (length ring) 4 e) (after_fin room (draft.Polygon rings ring) b h)
    choose false true e f =
        fault-here before b (After room (draft.Polygon rings ring)) token rest kinds.RingOpen at (λ more. ring-open room rings ring token more x y e f)
        (is_byte 41 token y, subst (MayStand b) (sym (is_byte 41 token y)) (may-close b room (draft.Polygon rings ring) h), ring, h.path, long (length ring) 4 e, f) (after_fin room (draft.Polygon rings ring) b h)
    choose false false e f =
        told-next before b (codes ")") (After room (draft.Polygon rings ring)) (AfterRing room (rings ++ ring ∷ [])) token rest at (is_byte 41 token y)
        (λ more. ring-whole room rings ring token more x y e f) (after_ring-told room rings ring b h further)

after-told : (room : ℕ) (d : Draft) (b : Texts) → Has b room d → Further room → Tells b (After room d)
after-told room d b h further before at (Ends end) =
    end-here before b (After room d) end at (after-end room d end) (may_go_on b (codes ")") (may-close b room d h)) (after_fin room d b h)
after-told room d b h further before at (Begins token rest) = choose (is_one 44 token) (is_one 41 token) refl refl
  where
    choose : (c e : Bool) → is_one 44 token ≡ c → is_one 41 token ≡ e → Goal before (After room d) (Begins token rest)
    choose true e x y =
        told-next before b (codes ",") (After room d) (Spots room d) token rest at (is_byte 44 token x)
        (λ more. after-comma room d token more x) (further d (b ++ codes "," ∷ []) (wants-comma b room d h))
    choose false true x y = bracket-told room d b h further before at token rest x y
    choose false false x y =
        fault-here before b (After room d) token rest kinds.Punctuation at (λ more. after-wrong room d token more x y) (41, refl, may-close b room d h) (after_fin room d b h)

room_first : (n room : ℕ) → n + 2 * suc room ≡ 4096 → n < 4096
room_first n room e = omega (arith, e)

room_second : (m n room : ℕ) → m ≡ n + 1 → n + 2 * suc room ≡ 4096 → m < 4096
room_second m n room f e = omega (arith, e, f)

room_none : (n : ℕ) → n + 2 * zero ≡ 4096 → n ≡ 4096
room_none n e = omega (arith, e)

pub spots-told : (room : ℕ) → Further room
spots-told zero d b h before at (Ends end) =
    end-here before b (Spots zero d) end at (none-end d end) (may_go_on b (codes "0") (wants-first b zero d h)) (λ four. absurd (no_four (numbers b) h.count four))
spots-told zero d b h before at (Begins token rest) =
    fault-here before b (Spots zero d) token rest kinds.TooMany at (λ more. none-left d token more) (wants-first b zero d h, room_none (numbers b) h.count) (λ four. absurd (no_four (numbers b) h.count four))
spots-told (suc room) d b h before at ts =
    number-told b (Spots (suc room) d) (Second room d) (spots-end room d) (spots-found room d) (spots-wrong room d)
    (wants-first b (suc room) d h, room_first (numbers b) room h.count)
    (λ four. spots-finishes (suc room) d b (room_four (numbers b) (suc room) h.count four) h)
    (λ v x e.
    number-told (b ++ v ∷ []) (Second room d x) (λ y. After room (with_spot d (record { x = x; y = y })))
    (second-end room d x) (second-found room d x) (second-wrong room d x)
    (wants-second b (suc room) d v x e h, room_second (numbers (b ++ v ∷ [])) (numbers b) room (numbers-more b v x e) h.count)
    (λ four. second-ends room d b v x e (room_three (numbers (b ++ v ∷ [])) (numbers b) room (numbers-more b v x e) h.count four) h)
    (λ w y f. after-told room (with_spot d (record { x = x; y = y })) ((b ++ v ∷ []) ++ w ∷ [])
    (has-spot b room d v w (record { x = x; y = y }) e f h) (spots-told room))) before at ts
