-- The offsets that the fields of a section say when a file is edited: those of texts, by their new places, and of line tables; and the
-- sections that hold relocations of such sections.
use Rattle.std.specs.Prelude.{Bool, ◌≡◌, ◌≢◌, ℕ, ◌<◌, List, [], ◌∷◌, ◌++◌, Option, Some, None, ⊤}
use Rattle.dw_base.specs.Cells.{Cell}
use Rattle.dw_base.specs.DebugData.{Around}
use Rattle.dw_base.specs.Elf.{contents_of, section_count}
use Rattle.dw_base.specs.FileViews.{View}
use Rattle.dw_base.specs.LineReadings.{starts_from}
use Rattle.dw_base.specs.Paths.{PathMap}
use Rattle.dw_base.specs.SectionRelocations.{relocation_section, relocation_source}
use Rattle.dw_base.specs.StringTables.{new_place}
use Rattle.dw_base.specs.TextChanges.{TableChanges}
use Rattle.dw_base.specs.declared.debug_sections.DebugSection.TheVariants.{Str, LineStr, Line}
use Rattle.dw_offsets.specs.declared.fields.OffsetField.{OffsetField}
use Rattle.dw_base.specs.declared.texts.TextSection.TheVariants.{InStr, InLineStr}
use Rattle.dw_meaning.specs.DataOutput.{Body}
use Rattle.dw_patch.specs.RecordMoves.{PlacesFit, moved_table, patch_for}
use Rattle.elf_layout.specs.declared.patch.Patch.{Patch}
use Rattle.dw_rewrite.specs.Changes.{FieldSource, mention_as, offset_at, start_known}
use Rattle.dw_rewrite.specs.NewTables.{source_in, starts_in}
use Rattle.dw_rewrite.specs.UnitsAfter.{start_source, text_source}
use Rattle.dw_unit_fields.specs.SectionFields.{SectionFields, fields_into}

-- the offset that a field is to say, where a new one is known
abbrev pub offset_by : OffsetField → Option ℕ → List Patch
offset_by f None = []
offset_by f (Some new) = record { at = f.at; size = f.size; value = new } ∷ []

-- those of these fields
abbrev pub offsets_known : FieldSource → (Bool → ℕ → Option ℕ) → List OffsetField → List Patch
offsets_known s known [] = []
offsets_known s known (f ∷ fs) = offset_by f (known f.path (offset_at s f)) ++ offsets_known s known fs

-- the new place of the text at an offset of a table, as a path or not
abbrev pub asked : List (List ℕ) → PathMap → List ℕ → Bool → ℕ → Option ℕ
asked texts m table path offset = Some (new_place m texts (mention_as path table offset))

-- the offsets that the fields of a section's paths and line tables say
abbrev pub offsets_after : TableChanges → Around → List Cell → List OffsetField → List OffsetField → List OffsetField → List Patch
offsets_after c a cells fs gs hs =
    offsets_known (text_source a cells InStr) (asked (c.new Str) c.map (a.stands Str).bytes) fs
    ++ (offsets_known (text_source a cells InLineStr) (asked (c.new LineStr) c.map (a.stands LineStr).bytes) gs
    ++ offsets_known (start_source a cells) (start_known (a.stands Line).starts (starts_from 0 (c.new Line))) hs)

-- the same of a section that says this of paths, from what is known of the new places, and of the starts of line tables
abbrev pub offsets_in : View → (Bool → ℕ → Option ℕ) → (Bool → ℕ → Option ℕ) → (Bool → ℕ → Option ℕ) → SectionFields → List Patch
offsets_in v ks kl kt u =
    offsets_known (source_in v u.number InStr) ks (fields_into u Str)
    ++ (offsets_known (source_in v u.number InLineStr) kl (fields_into u LineStr) ++ offsets_known (starts_in v u.number) kt (fields_into u Line))

-- none of the offsets is said where one of these fields begins
abbrev pub AreAbsent : List Patch → List OffsetField → Type 0
AreAbsent offsets [] = ⊤
AreAbsent offsets (f ∷ fs) = (patch_for offsets f.at ≡ None) × AreAbsent offsets fs

-- a field begins where none of these does, and no two of them begin together
abbrev pub BeginsAlone : OffsetField → List OffsetField → Type 0
BeginsAlone f [] = ⊤
BeginsAlone f (g ∷ gs) = (g.at ≢ f.at) × BeginsAlone f gs

abbrev pub NoneTogether : List OffsetField → Type 0
NoneTogether [] = ⊤
NoneTogether (f ∷ fs) = BeginsAlone f fs × NoneTogether fs

-- the places of relocations of each section fit the words of the records that hold them
pub record AllPlacesFit (b : List ℕ) : Type 0 where
  pub each : (i k : ℕ) → i < section_count b → relocation_section b i ≡ Some k → PlacesFit (relocation_source (contents_of b) b k) []

-- the section of a number that holds relocations of one whose fields say these offsets, if there is one
abbrev pub record_body : List ℕ → List Patch → Option ℕ → List Body
record_body b told None = []
record_body b told (Some k) = record { number = k; bytes = moved_table (relocation_source (contents_of b) b k) [] told } ∷ []

-- those of these sections, from what is known of the new places, and of the starts of line tables
abbrev pub records_known : List ℕ → View → (Bool → ℕ → Option ℕ) → (Bool → ℕ → Option ℕ) → (Bool → ℕ → Option ℕ) → List SectionFields → List Body
records_known b v ks kl kt [] = []
records_known b v ks kl kt (u ∷ us) = record_body b (offsets_in v ks kl kt u) (relocation_section b u.number) ++ records_known b v ks kl kt us
