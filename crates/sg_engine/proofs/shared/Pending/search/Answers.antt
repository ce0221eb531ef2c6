use Rattle.std.specs.Prelude.{IfSome}
use Rattle.std.proofs.Common.{◌≡◌, ◌∙◌, ℕ, List, [], refl, sym, subst}
use Rattle.sg_plain.specs.Rows.{AreRows}
use Rattle.sg_trace.specs.Replies.{Reply}
use Rattle.sg_stores.specs.Agreement.{seen_rows}
use Rattle.sg_stores.proofs.Picked.{seen_are_rows}
use Rattle.sg_engine.specs.Phases.{answer_of, AreLeft}
use Rattle.sg_engine.proofs.Reached.{no_items, some_items, left_are, replies_by, no_keys, all_left, closed_reached}
use Rattle.sg_engine.proofs.shared.Pending.search.Goals as goal

pub returns-then-is_empty : goal.returns-then-is_empty
returns-then-is_empty g c =
    let settings = c.args.settings.now in
    let seen = seen_rows c.args.name.session c.args.rows.now.rows in
    let st = c.args.self.now.statement in
    let found = c.in_ok-found.found in
    let job = c.in_ok-job.job in
    let are : AreRows seen = seen_are_rows c.args.name.session c.args.rows.now.rows c.in_order.ensures.rising c.in_order.ensures.sound in
    let is = c.in_ok-found.ensures c.requires.agree in
    let unfiltered = sym c.is_filtered.ensures ∙ c.if-is_filtered.false in
    let left : AreLeft settings seen st job.items = left_are settings seen st found job.items c.requires.query are c.as_slice.ensures.rows is c.in_ok-job.ensures.items unfiltered in
    let none : job.items ≡ [] = no_items c.as_slice.result.now job.items c.as_slice.ensures.all (sym c.is_empty.ensures ∙ c.if-is_empty.true) in
    let reply : IfSome (answer_of st found []) (Reply settings seen st) =
    replies_by settings seen found job c.requires.settings are c.in_ok-job.ensures.rising c.in_ok-job.ensures.items [] (no_keys job none) st c.requires.sound is c.in_ok-job.ensures.asks unfiltered in
    closed_reached settings seen st c.args.name c.close-then-is_empty.result (all_left settings seen st job.items left none)
    (c.close-then-is_empty.ensures seen (subst (λ (ks : List ℕ). IfSome (answer_of st found ks) (Reply settings seen st)) (sym c.new.ensures) reply))

pub returns : goal.returns
returns g c =
    let settings = c.args.settings.now in
    let seen = seen_rows c.args.name.session c.args.rows.now.rows in
    let st = c.args.self.now.statement in
    let found = c.in_ok-found.found in
    let job = c.in_ok-job.job in
    let are : AreRows seen = seen_are_rows c.args.name.session c.args.rows.now.rows c.in_order.ensures.rising c.in_order.ensures.sound in
    let is = c.in_ok-found.ensures c.requires.agree in
    let unfiltered = sym c.is_filtered.ensures ∙ c.if-is_filtered.false in (
      refl,
      record {
        name = c.in_ok-job.ensures.name;
        asks = c.in_ok-job.ensures.asks;
        items = left_are settings seen st found job.items c.requires.query are c.as_slice.ensures.rows is c.in_ok-job.ensures.items unfiltered;
        some = some_items c.as_slice.result.now job.items c.as_slice.ensures.all (sym c.is_empty.ensures ∙ c.if-is_empty.false);
        replies = λ ks keys. replies_by settings seen found job c.requires.settings are c.in_ok-job.ensures.rising c.in_ok-job.ensures.items ks keys st c.requires.sound is c.in_ok-job.ensures.asks unfiltered;
      },
      c.in_ok-copy.ensures,
    )
