use Rattle.std.proofs.Common.{◌∙◌, sym}
use Rattle.file_tree.proofs.PastLaws.{settles_happened}
use Rattle.file_tree.proofs.mem_tree.MemTree.settle_count.Goals as goal

pub returns : goal.returns
returns c = record { value = c.settles_in.ensures ∙ sym (settles_happened c.args.self.now.first.items _ _ c.args.self.now.log.even) }
