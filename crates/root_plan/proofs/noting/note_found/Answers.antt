-- A file that was found is within the limit of what is read.
use Rattle.std.proofs.Common.{◌≤◌, ℕ, List, length, sym, subst}
use Rattle.dw_base.specs.Layout.{file_limit}
use Rattle.root_plan.proofs.noting.note_found.Goals as goal

pub note_candidate-requires-clause-small : goal.note_candidate-requires-clause-small
note_candidate-requires-clause-small g c = subst (λ (b : List ℕ). length b ≤ file_limit) (sym c.as_slice.ensures.value) (c.requires.small c.in-File.bytes c.in-File.mode c.in-File.is)
