-- What is written has the given bodies.
use Rattle.std.proofs.Common.{refl}
use Rattle.dw_rewrite.proofs.WrittenLaws.{written_back, written_file, written_fits}
use Rattle.dw_rewrite.proofs.file.emitted.Goals as goal

pub returns-clause-file : goal.returns-clause-file
returns-clause-file c = written_file _ _ _ _ _ refl c.in_ok-contents.ensures c.in_ok-out.ensures.file

pub returns-clause-back : goal.returns-clause-back
returns-clause-back c = written_back _ _ _ _ _ c.requires.reads refl c.in_ok-contents.ensures c.in_ok-out.ensures.reads_back

pub returns-clause-fits : goal.returns-clause-fits
returns-clause-fits c = written_fits _ _ _ _ refl c.in_ok-contents.ensures c.in_ok-out.ensures.none
