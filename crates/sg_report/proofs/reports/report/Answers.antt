use Rattle.sg_report.proofs.reports.report.Goals as goal

pub returns : goal.returns
returns g c = record {
  told = _;
  legal = c.in_ok-told.ensures.legal;
  tells = c.in_ok-told.ensures.tells;
  fits = c.in_ok-text.ensures.fits;
  is = c.in_ok-text.ensures.text;
}
