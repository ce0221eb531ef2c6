use Rattle.std.proofs.Common.{sym, subst, map, drop, codes, refl, true}
use Rattle.clap.specs.Words.{app_of, found_of, rows_of}
use Rattle.sg_command.specs.Usage.{IsTold}
use Rattle.sg_command.proofs.Getters.{all_read, flag_read, no_workers, refused_by, threads_none, threads_some, taken_by}
use Rattle.sg_command.proofs.Told.{threads_told}
use Rattle.sg_command.proofs.forms.threads_in.Goals as goal

pub parsed-requires : goal.parsed-requires
parsed-requires c = subst IsTold (sym c.in_ok-threads_usage.ensures) threads_told

pub returns-in_default-clause-form : goal.returns-in_default-clause-form
returns-in_default-clause-form c =
    let words = map (λ word. word.now) c.args.words.now in
    threads_none (drop 1 words) (refused_by true c.in_ok-matches.field-0 (app_of c.in_ok-threads_usage.field-0) words c.requires c.in_ok-threads_usage.ensures c.in_ok-matches.ensures c.in_default.is)

pub returns-in_default-workers_in-clause-form : goal.returns-in_default-workers_in-clause-form
returns-in_default-workers_in-clause-form c =
    let words = map (λ word. word.now) c.args.words.now in
    let t = taken_by true c.in_ok-matches.field-0 (app_of c.in_ok-threads_usage.field-0) c.in-Some.matches words c.requires c.in_ok-threads_usage.ensures c.in_ok-matches.ensures c.in-Some.is in
    threads_none (drop 1 words) (no_workers true (rows_of (found_of c.in-Some.matches)) (drop 1 words) c.workers_in.result t c.workers_in.ensures.workers c.in_default-workers_in.is)

pub returns-clause-form : goal.returns-clause-form
returns-clause-form c =
    let words = map (λ word. word.now) c.args.words.now in
    let f = found_of c.in-Some.matches in
    let t = taken_by true c.in_ok-matches.field-0 (app_of c.in_ok-threads_usage.field-0) c.in-Some.matches words c.requires c.in_ok-threads_usage.ensures c.in_ok-matches.ensures c.in-Some.is in
    let all = all_read true (rows_of f) (drop 1 words) c.workers_in.result c.in-Some-workers_in.workers t c.workers_in.ensures.workers c.in-Some-workers_in.is in
    let labels = flag_read f (codes "labels") c.get_flag-labels.result t.seen.labels c.get_flag-labels.ensures.value c.get_flag-labels.ensures.other t.says.labels in
    let trace = flag_read f (codes "trace") c.get_flag-trace.result t.seen.trace c.get_flag-trace.ensures.value c.get_flag-trace.ensures.other (t.says.trace refl) in
    threads_some (drop 1 words) c.in-Some-workers_in.workers c.get_flag-labels.result t.seen.labels c.get_flag-trace.result t.seen.trace all labels trace
