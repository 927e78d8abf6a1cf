use Rattle.std.proofs.Common.{◌∙◌, sym}
use Rattle.file_tree.proofs.PastLaws.{calls_happened}
use Rattle.file_tree.proofs.mem_tree.MemTree.calls.Goals as goal

pub returns : goal.returns
returns c = record { value = c.as_slice.ensures.value ∙ sym (calls_happened c.args.self.now.first.items _ _ c.args.self.now.log.even) }
