use Rattle.sg_texts.specs.Fitting.{IsLabel}
use Rattle.sg_texts.specs.Labels.{label_line}
use Rattle.sg_texts.proofs.Fits.{fits_more, text_more}
use Rattle.sg_texts.proofs.labels.append_each_label.Goals as goal

pub loop-label-preserved : goal.loop-label-preserved
loop-label-preserved c = record {
  text = text_more label_line c.args.out.now.items c.loop-label.out.items c.append_label.new.out.items c.args.labels.now c.loop-label.label-index c.label-item.result
      c.loop-label-test.true c.label-item.is c.loop-label.invariant.text c.in_ok-append_label.ensures.text;
  fits = fits_more IsLabel c.args.labels.now c.loop-label.label-index c.label-item.result
      c.loop-label-test.true c.label-item.is c.loop-label.invariant.fits c.in_ok-append_label.ensures.fits;
}
