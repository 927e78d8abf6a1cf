use Rattle.std.proofs.Common.{◌≡◌, ◌+◌, ◌-◌, ◌≤◌, ◌^◌, length}
use Rattle.dw_base.specs.Notes.{id_among}
use Rattle.build_ident.proofs.notes.id_in.Given as goal

-- the notes that come
abbrev pub invariant-notes : goal.invariant-notes
invariant-notes l = record {
  left : id_among (length l.notes) l.order l.notes l.at ≡ id_among (length l.notes) l.order l.notes 0;
  near : l.at ≤ length l.notes + 2 ^ 36;
}

abbrev pub decreases-notes : goal.decreases-notes
decreases-notes l = length l.notes - l.at
