use Rattle.std.proofs.Common.{◌≡◌, ◌+◌, length, sym, ap, ◌∙◌, arith}
use Rattle.sg_history.specs.Openings.{Held}
use Rattle.sg_db.specs.Seatings.{fresh_seat}
use Rattle.sg_db.proofs.Seated.{stage_still, pen_after, more_seats, seats_length, whole_seats}
use Rattle.sg_db.proofs.seating.Seats.of.Goals as goal

pub loop-place-preserved : goal.loop-place-preserved
loop-place-preserved c =
    let h = c.loop-place.invariant in
    let t = c.args.pen.now.table in
    let w = c.args.pen.now.known.stage in
    let n = c.loop-place.place in
    let s = c.in-Some.session in
    let at : n + 1 ≡ s = sym c.in-Some.ensures.1 in
    let below = c.loop-place-test.true in
    record {
      table = ap (λ (x : Held). x.table) c.seat_for.ensures.pen ∙ h.table;
      pen = pen_after c.loop-place.pen.table c.loop-place.pen.known w n s c.seat_for.new.pen h.pen at c.seat_for.ensures.pen;
      seats = more_seats t w n s c.loop-place.seats.items c.push_back.new.self.items c.seat_for.result h.seats at (c.seat_for.ensures.seat ∙ (λ i. fresh_seat (h.table i) (stage_still c.loop-place.pen.known w n h.pen i) s)) c.in_ok-push_back.ensures.items;
      most = omega (arith, below);
    }

pub invariant_of-result : goal.invariant_of-result
invariant_of-result c =
    let h = c.loop-place.invariant in
    let t = c.args.pen.now.table in
    let w = c.args.pen.now.known.stage in
    let n = c.loop-place.place in
    let table : t ≡ c.of.result.value.table = sym (ap (λ (x : Held). x.table) c.of.ensures ∙ h.table) in
    let stage : w ≡ c.of.result.value.known.stage = sym (ap (λ (x : Held). x.known.stage) c.of.ensures ∙ stage_still c.loop-place.pen.known w n h.pen) in
    let long : length c.loop-place.seats.items ≡ n = ap length h.seats ∙ seats_length t w 0 n in
    let below = h.most in
    let few = c.requires.most in
    (whole_seats t c.of.result.value.table w c.of.result.value.known.stage n c.loop-place.seats.items h.seats table stage, omega (arith, long, below, few))

pub returns-clause-seats : goal.returns-clause-seats
returns-clause-seats c =
    let h = c.loop-place.invariant in
    let t = c.args.pen.now.table in
    let w = c.args.pen.now.known.stage in
    let n = c.loop-place.place in
    let table : c.of.result.value.table ≡ t = ap (λ (x : Held). x.table) c.of.ensures ∙ h.table in
    let stage : c.of.result.value.known.stage ≡ w = ap (λ (x : Held). x.known.stage) c.of.ensures ∙ stage_still c.loop-place.pen.known w n h.pen in
    let long : length c.loop-place.seats.items ≡ n = ap length h.seats ∙ seats_length t w 0 n in
    let below = h.most in
    let past = c.loop-place-test.false in
    let left : length c.loop-place.seats.items ≡ c.args.callers = omega (arith, long, below, past) in
    (λ i. record { table = table i; stage = stage i; given = 0; left = left i })
