-- Whether the addends of records can make the offsets that the fields of sections are to say, and the row of a field whose addend can't: the
-- refusal of kind TooWide (gABI ch. 4 "Relocation").
use Rattle.std.specs.Prelude.{Bool, ◌≡◌, ℕ, ◌<◌, List, [], ◌∷◌, length, get_or, Option, Some, None, ⊤}
use Rattle.dw_base.specs.FileViews.{View}
use Rattle.dw_base.specs.Refusals.{at}
use Rattle.dw_base.specs.RelocationFields.{relocation_at}
use Rattle.dw_base.specs.declared.debug_sections.DebugSection.TheVariants.{Str, LineStr, Line}
use Rattle.dw_base.specs.declared.fault.Kind.TheVariants.{TooWide}
use Rattle.dw_base.specs.declared.fault.Refusal.{Refusal}
use Rattle.dw_offsets.specs.declared.fields.OffsetField.{OffsetField}
use Rattle.dw_base.specs.declared.texts.TextSection.TheVariants.{InStr, InLineStr}
use Rattle.dw_meaning.specs.NewAddends.{Makes, Misses}
use Rattle.dw_rewrite.specs.Changes.{FieldSource, offset_at}
use Rattle.dw_rewrite.specs.NewTables.{source_in, starts_in}
use Rattle.dw_unit_fields.specs.SectionFields.{SectionFields, fields_into}

-- the addend at a field makes the offset that it is to say, where a new one is known
abbrev pub FieldMakes : FieldSource → OffsetField → Option ℕ → Type 0
FieldMakes s f None = ⊤
FieldMakes s f (Some new) = Makes (relocation_at s.cells f.at) f.size new

-- at each of these fields
abbrev pub FieldsMake : FieldSource → (Bool → ℕ → Option ℕ) → List OffsetField → Type 0
FieldsMake s known [] = ⊤
FieldsMake s known (f ∷ fs) = FieldMakes s f (known f.path (offset_at s f)) × FieldsMake s known fs

-- at those of a section's paths and line tables, from what is known of the new places, and of the starts of line tables
pub record SectionMakes (v : View) (ks kl kt : Bool → ℕ → Option ℕ) (u : SectionFields) : Type 0 where
  pub str : FieldsMake (source_in v u.number InStr) ks (fields_into u Str)
  pub line_str : FieldsMake (source_in v u.number InLineStr) kl (fields_into u LineStr)
  pub starts : FieldsMake (starts_in v u.number) kt (fields_into u Line)

-- and of all these sections
abbrev pub AllMake : View → (Bool → ℕ → Option ℕ) → (Bool → ℕ → Option ℕ) → (Bool → ℕ → Option ℕ) → List SectionFields → Type 0
AllMake v ks kl kt [] = ⊤
AllMake v ks kl kt (u ∷ us) = SectionMakes v ks kl kt u × AllMake v ks kl kt us

-- the row of a field, in the section of a number, whose addend doesn't make the offset that is known
pub data FieldMisses (s : FieldSource) (section : ℕ) (f : OffsetField) (known : Option ℕ) : Refusal → Type 0 where
  misses_new : (new : ℕ) → known ≡ Some new → Misses (relocation_at s.cells f.at) f.size new → FieldMisses s section f known (at TooWide section f.at)

-- of one of these fields
pub data FieldsMiss (s : FieldSource) (known : Bool → ℕ → Option ℕ) (section : ℕ) (fields : List OffsetField) : Refusal → Type 0 where
  one_field : (i : ℕ) (f : OffsetField) {r : Refusal} → i < length fields → f ≡ get_or fields i f → FieldMisses s section f (known f.path (offset_at s f)) r
      → FieldsMiss s known section fields r

-- of one of a section
pub data SectionMisses (v : View) (ks kl kt : Bool → ℕ → Option ℕ) (u : SectionFields) : Refusal → Type 0 where
  in_str_field : {r : Refusal} → FieldsMiss (source_in v u.number InStr) ks u.number (fields_into u Str) r → SectionMisses v ks kl kt u r
  in_line_str_field : {r : Refusal} → FieldsMiss (source_in v u.number InLineStr) kl u.number (fields_into u LineStr) r → SectionMisses v ks kl kt u r
  in_start_field : {r : Refusal} → FieldsMiss (starts_in v u.number) kt u.number (fields_into u Line) r → SectionMisses v ks kl kt u r

-- and of one of these sections
pub data AllMiss (v : View) (ks kl kt : Bool → ℕ → Option ℕ) (us : List SectionFields) : Refusal → Type 0 where
  one_section : (i : ℕ) (u : SectionFields) {r : Refusal} → i < length us → u ≡ get_or us i u → SectionMisses v ks kl kt u r → AllMiss v ks kl kt us r
