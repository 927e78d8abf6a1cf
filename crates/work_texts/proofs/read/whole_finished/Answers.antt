use Rattle.work_texts.specs.Fields.{finished_fields}
use Rattle.work_texts.specs.Rules.{IsFinished}
use Rattle.work_texts.specs.Reading.{finished_at}
use Rattle.work_texts.proofs.TextReaders.{finished_reader}
use Rattle.work_texts.proofs.WholeLaws.{is_found, is_only, is_bad}
use Rattle.work_texts.proofs.read.whole_finished.Goals as goal

pub returns-clause-found : goal.returns-clause-found
returns-clause-found c = is_found finished_fields IsFinished finished_at finished_reader c.args.bytes.now c.all_finished.result c.all_finished.ensures.gives

pub returns-clause-only : goal.returns-clause-only
returns-clause-only c = is_only finished_fields IsFinished finished_at finished_reader c.args.bytes.now c.all_finished.result c.all_finished.ensures.gives

pub returns-clause-bad : goal.returns-clause-bad
returns-clause-bad c = is_bad finished_fields IsFinished finished_at finished_reader c.args.bytes.now c.all_finished.result c.all_finished.ensures.gives
