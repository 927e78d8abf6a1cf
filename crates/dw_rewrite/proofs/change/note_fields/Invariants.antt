use Rattle.std.proofs.Common.{◌≡◌, ◌≤◌, [], length, drop}
use Rattle.dw_base.specs.Layout.{output_limit}
use Rattle.dw_base.specs.StringTables.{table_bytes}
use Rattle.dw_lines.specs.NewTexts.{known_by}
use Rattle.dw_rewrite.specs.Changes.{AreNoted, Knows, Remembers, texts_at}
use Rattle.dw_rewrite.proofs.change.note_fields.Given as goal

abbrev pub invariant-loop-at : goal.invariant-loop-at
invariant-loop-at l = record {
  kept : l.pool.kept ≡ [];
  small : length (table_bytes l.pool) ≤ output_limit;
  texts : texts_at l.maps l.source l.pool.texts (drop l.at-index l.fields)
      ≡ texts_at l.maps l.source l.fn.pool.texts l.fields;
  knows : Knows l.maps l.source.table.bytes l.pool.texts (known_by l.known);
  noted : AreNoted l.source l.fields l.at-index (known_by l.known);
  remembers : Remembers (known_by l.fn.known) (known_by l.known);
}
