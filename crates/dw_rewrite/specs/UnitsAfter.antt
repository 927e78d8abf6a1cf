-- Where fields of cells hold offsets into the tables of texts and the line tables, and the bytes of a section with paths mapped in their rooms.
use Rattle.std.specs.Prelude.{ℕ, ◌+◌, List, [], ◌∷◌, ◌++◌, take, drop}
use Rattle.dw_base.specs.Cells.{Cell}
use Rattle.dw_base.specs.DebugData.{Around, table_of}
use Rattle.dw_base.specs.InlinePaths.{mapped_inline}
use Rattle.dw_base.specs.Paths.{PathMap}
use Rattle.dw_base.specs.declared.debug_sections.DebugSection.TheVariants.{Line}
use Rattle.dw_base.specs.declared.texts.TextSection.{TextSection}
use Rattle.dw_rewrite.specs.Changes.{FieldSource}
use Rattle.dw_unit_fields.specs.declared.fields.InlinePath.{InlinePath}
use Rattle.dw_unit_fields.specs.SectionFields.{inline_text}

-- where fields of cells hold offsets into a table of texts, and into the line tables
abbrev pub text_source : Around → List Cell → TextSection → FieldSource
text_source around cells table = record { order = around.lasting.base.order; cells = cells; table = table_of around table }

abbrev pub start_source : Around → List Cell → FieldSource
start_source around cells = record { order = around.lasting.base.order; cells = cells; table = (around.stands Line).located }

-- the bytes with a path mapped in its room
abbrev pub inlined_at : PathMap → List ℕ → List ℕ → InlinePath → List ℕ
inlined_at m info out p = take p.at out ++ mapped_inline m (inline_text info p) ++ drop (p.at + p.len) out

-- the bytes with these paths mapped in their rooms
abbrev pub inlined : PathMap → List ℕ → List ℕ → List InlinePath → List ℕ
inlined m info out [] = out
inlined m info out (p ∷ ps) = inlined m info (inlined_at m info out p) ps
