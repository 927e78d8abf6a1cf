use Rattle.file_tree.specs.declared.call.Call.TheVariants as call
use Rattle.file_tree.proofs.ImageLaws.{image_settled}
use Rattle.file_tree.proofs.laws.image_laws.Goals as goal

pub returns-clause-settled : goal.returns-clause-settled
returns-clause-settled c = λ p u image. image_settled p call.Settle u image
