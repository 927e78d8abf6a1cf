-- The records of relocations of a section that is edited, as the code makes them, are those of its new contents.
use Rattle.std.proofs.Common.{Bool, ◌≡◌, ℕ, suc, ◌<◌, List, [], ◌∷◌, ◌++◌, length, Option, refl, ap, ◌∙◌, arith}
use Rattle.dw_base.specs.Cells.{Cell}
use Rattle.dw_base.specs.DebugData.{DataReadings, around_of}
use Rattle.dw_base.specs.FileViews.{View, view_cells}
use Rattle.dw_base.specs.Paths.{PathMap}
use Rattle.dw_base.specs.RelocationBodies.{relocation_body}
use Rattle.dw_base.specs.SectionRelocations.{RelocationSource, cells_from, relocations_in}
use Rattle.dw_base.specs.StringTables.{TextTable}
use Rattle.dw_base.specs.ViewData.{debug_data}
use Rattle.dw_base.specs.declared.debug_sections.DebugSection.TheVariants.{Str, LineStr, Line}
use Rattle.dw_offsets.specs.declared.fields.OffsetField.{OffsetField}
use Rattle.dw_base.specs.declared.texts.TextSection.{TextSection}
use Rattle.dw_base.specs.declared.texts.TextSection.TheVariants.{InStr, InLineStr}
use Rattle.dw_meaning.specs.DataOutput.{changes_of, table_change}
use Rattle.dw_meaning.proofs.RecordMoveLaws.{RecordsApart}
use Rattle.dw_patch.specs.RecordMoves.{moved_table}
use Rattle.elf_layout.specs.declared.patch.Patch.{Patch}
use Rattle.dw_patch.proofs.SaidCellLaws.{SaidAll}
use Rattle.dw_unit_fields.specs.SectionFields.{SectionFields, fields_into}
use Rattle.dw_rewrite.specs.Changes.{AreNoted, FieldSource, Knows, offset_at}
use Rattle.dw_rewrite.specs.NewOffsets.{asked, offset_by, offsets_after, offsets_in, offsets_known}
use Rattle.dw_rewrite.specs.NewTables.{Growing, IsSectionNoted, source_in, starts_in, texts_of}
use Rattle.dw_rewrite.proofs.LineKnownLaws.{known-asked}
use Rattle.dw_rewrite.proofs.NewBodyLaws.{starts_after}
use Rattle.dw_rewrite.proofs.RecordSayLaws.{stays-table}

-- what is known of new places is what texts ask for
offsets-asked : (m : PathMap) (s : FieldSource) (ts : List (List ℕ)) (fields : List OffsetField) (known : Bool → ℕ → Option ℕ) → Knows m s.table.bytes ts known
    → AreNoted s fields (length fields) known → offsets_known s known fields ≡ offsets_known s (asked ts m s.table.bytes) fields
offsets-asked m s ts [] known knows noted = refl
offsets-asked m s ts (f ∷ fs) known knows noted =
    let rest : AreNoted s fs (length fs) known =
    record { each = λ (k : ℕ) (d : OffsetField) (lt : k < length fs) (within : k < length fs). noted.each (suc k) d (omega arith) (omega arith) } in
    ap (λ (o : Option ℕ). offset_by f o ++ offsets_known s known fs)
    (known-asked m s.table.bytes ts known f.path (offset_at s f) knows (noted.each 0 f (omega arith) (omega arith)))
    ∙ ap (λ (ps : List Patch). offset_by f (asked ts m s.table.bytes f.path (offset_at s f)) ++ ps) (offsets-asked m s ts fs known knows rest)

-- the offsets of a section's fields
abbrev pub asked_in : PathMap → View → TextSection → List (List ℕ) → Bool → ℕ → Option ℕ
asked_in m v table ts = asked ts m (texts_of v table).bytes

pub section-asked : (m : PathMap) (v : View) (ps pl : TextTable) (ks kl kt : Bool → ℕ → Option ℕ) (u : SectionFields) → Growing m v InStr ps ks → Growing m v InLineStr pl kl
    → IsSectionNoted v InStr u ks → IsSectionNoted v InLineStr u kl
    → offsets_in v ks kl kt u ≡ offsets_in v (asked_in m v InStr ps.texts) (asked_in m v InLineStr pl.texts) kt u
section-asked m v ps pl ks kl kt u gs gl ns nl =
    ap (λ (l : List Patch). l ++ (offsets_known (source_in v u.number InLineStr) kl (fields_into u LineStr) ++ offsets_known (starts_in v u.number) kt (fields_into u Line)))
    (offsets-asked m (source_in v u.number InStr) ps.texts (fields_into u Str) ks gs.knows ns)
    ∙ ap (λ (l : List Patch). offsets_known (source_in v u.number InStr) (asked_in m v InStr ps.texts) (fields_into u Str) ++ (l ++ offsets_known (starts_in v u.number) kt (fields_into u Line)))
    (offsets-asked m (source_in v u.number InLineStr) pl.texts (fields_into u LineStr) kl gl.knows nl)

-- those are what the edit says
pub section-after : (m : PathMap) (v : View) (all : DataReadings) (u : SectionFields)
    → offsets_in v (asked_in m v InStr (table_change m InStr (around_of (debug_data v) all) all))
    (asked_in m v InLineStr (table_change m InLineStr (around_of (debug_data v) all) all)) (starts_after m v all) u
    ≡ offsets_after (changes_of m (around_of (debug_data v) all) all) (around_of (debug_data v) all) (view_cells v u.number) (fields_into u Str) (fields_into u LineStr) (fields_into u Line)
unfolding table_change debug_data
section-after m v all u = refl

-- so the table that is written is the one of the new contents
pub moved-records : (g : RelocationSource) (bytes : List ℕ) (new : List Cell) (offs told : List Patch) → RecordsApart g bytes → told ≡ offs
    → SaidAll offs 0 (cells_from (relocations_in g) 0 bytes) new → moved_table g [] told ≡ relocation_body g (cells_from (relocations_in g) 0 bytes) new
moved-records g bytes new offs told apart same h = ap (moved_table g []) same ∙ stays-table g bytes new offs apart h
