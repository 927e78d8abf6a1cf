use Rattle.work_texts.specs.Fields.{finished_fields}
use Rattle.work_texts.specs.Rules.{IsFinished}
use Rattle.work_texts.specs.Reading.{finished_at}
use Rattle.work_texts.proofs.TextReaders.{finished_reader}
use Rattle.work_texts.proofs.OnePlace.{one_place, no_text}
use Rattle.work_texts.proofs.laws.finished_places.Goals as goal

pub returns-clause-one : goal.returns-clause-one
returns-clause-one c = one_place finished_fields IsFinished finished_at finished_reader

pub returns-clause-no_text : goal.returns-clause-no_text
returns-clause-no_text c = λ bytes at done bad t. no_text finished_fields IsFinished bytes at done bad t.finished t.text t.within
