-- A place that is known, and one more.
use Rattle.std.proofs.Common.{true, ◌≡◌, ℕ, is_some, sym, ap, ◌∙◌}
use Rattle.dw_lines.specs.NewTexts.{known_by}
use Rattle.dw_rewrite.specs.Changes.{offset_at}
use Rattle.dw_rewrite.proofs.NewOffsetLaws.{knows_there, met_before}
use Rattle.dw_rewrite.proofs.new_offsets.note_field.Goals as goal

pub returns-then-is_known-clause-texts : goal.returns-then-is_known-clause-texts
returns-then-is_known-clause-texts c =
    let met : is_some (known_by c.args.known.now c.args.field.path c.text_offset-offset.result) ≡ true = sym c.is_known.ensures ∙ c.if-is_known.true in
    sym (met_before c.args.maps.now c.args.source.now.table.bytes c.args.pool.now.texts (known_by c.args.known.now) c.args.field.path (offset_at c.args.source.now c.args.field)
    c.requires.knows (ap (λ (n : ℕ). is_some (known_by c.args.known.now c.args.field.path n)) (sym c.text_offset-offset.ensures.value) ∙ met))

pub returns-clause-knows : goal.returns-clause-knows
returns-clause-knows c =
    knows_there c.args.maps.now c.args.source.now.table.bytes c.table-table.result.now c.args.pool.now c.add_text.new.pool _ _ c.args.field.path c.text_offset-offset.result
    c.table-table.ensures c.requires.kept c.requires.knows c.in_ok-add_text.ensures.pool c.in_ok-add_text.ensures.added
