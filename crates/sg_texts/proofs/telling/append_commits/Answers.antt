use Rattle.sg_texts.specs.Laws.{IsCommit}
use Rattle.sg_texts.specs.Texts.{commit_text}
use Rattle.sg_texts.proofs.Fits.{fits_more}
use Rattle.sg_texts.proofs.Places.{one_more}
use Rattle.sg_texts.proofs.telling.append_commits.Goals as goal

pub loop-index-preserved : goal.loop-index-preserved
loop-index-preserved c = record {
  text = one_more commit_text c.args.out.now.items c.loop-index.out.items c.append_commit.new.out.items c.args.commits.now c.loop-index.index c.index-commits-index.result
      c.loop-index-test.true c.index-commits-index.is c.loop-index.invariant.text c.in_ok-append_commit.ensures.text;
  fits = fits_more IsCommit c.args.commits.now c.loop-index.index c.index-commits-index.result
      c.loop-index-test.true c.index-commits-index.is c.loop-index.invariant.fits c.in_ok-append_commit.ensures.fits;
}
