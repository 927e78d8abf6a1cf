use Rattle.work_texts.specs.Fields.{finished_fields}
use Rattle.work_texts.specs.Rules.{IsFinished}
use Rattle.work_texts.specs.Reading.{finished_at}
use Rattle.work_texts.proofs.TextReaders.{finished_reader}
use Rattle.work_texts.proofs.WholeLaws.{one_value}
use Rattle.work_texts.proofs.laws.finished_values.Goals as goal

pub returns : goal.returns
returns c = record {
  one = λ bytes x y a b. one_value finished_fields IsFinished finished_at finished_reader bytes x y (record { fits = a.finished; text = a.text }) (record { fits = b.finished; text = b.text });
}
