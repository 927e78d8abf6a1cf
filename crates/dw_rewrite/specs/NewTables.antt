-- The tables of texts as an edit makes them, from the fields of paths of all unit sections of a view; and the new bytes of a
-- section, from what is new of the tables.
use Rattle.std.specs.Prelude.{Bool, ◌≡◌, ◌≢◌, ℕ, ◌≤◌, ◌<◌, List, [], ◌∷◌, length, get_or, Option}
use Rattle.dw_meaning.specs.DataOutput.{Body}
use Rattle.dw_base.specs.Cells.{Located, located_cells}
use Rattle.dw_base.specs.FileViews.{View, view_cells}
use Rattle.dw_base.specs.Layout.{output_limit}
use Rattle.dw_base.specs.Paths.{PathMap}
use Rattle.dw_base.specs.Refusals.{at}
use Rattle.dw_base.specs.StringTables.{TextTable, table_bytes}
use Rattle.dw_base.specs.ViewData.{debug_data, located}
use Rattle.dw_base.specs.declared.debug_sections.DebugSection.{DebugSection}
use Rattle.dw_base.specs.declared.debug_sections.DebugSection.TheVariants.{Str, LineStr, Line}
use Rattle.dw_base.specs.declared.fault.Fault.{Fault}
use Rattle.dw_base.specs.declared.fault.Fault.TheVariants.{NoMemory, Refused}
use Rattle.dw_base.specs.declared.fault.Kind.TheVariants.{TooLarge}
use Rattle.dw_base.specs.declared.fault.Refusal.{Refusal}
use Rattle.dw_base.specs.declared.texts.TextSection.{TextSection}
use Rattle.dw_base.specs.declared.texts.TextSection.TheVariants.{InStr, InLineStr}
use Rattle.dw_rewrite.specs.Changes.{AreNoted, FieldSource, Knows, Remembers, patched, texts_at, with_all_known}
use Rattle.dw_unit_fields.specs.SectionFields.{SectionFields, fields_into}
use Rattle.dw_rewrite.specs.UnitsAfter.{inlined}
use Rattle.dw_unit_fields.specs.ViewFields.{fields_of, info_of}
use Rattle.dw_starts.specs.StringTables.{table_number, texts_in}

-- a table of texts of a view
abbrev pub texts_of : View → TextSection → Located
texts_of v table = texts_in (debug_data v) table

-- where the fields of the section of a number hold offsets into a table of texts, and into the line tables
abbrev pub source_in : View → ℕ → TextSection → FieldSource
source_in v section table = record { order = v.order; cells = view_cells v section; table = texts_of v table }

abbrev pub starts_in : View → ℕ → FieldSource
starts_in v section = record { order = v.order; cells = view_cells v section; table = located_cells ((debug_data v).found Line) }

-- and into a section of debug data
abbrev pub table_into : View → DebugSection → Located
table_into v Str = texts_of v InStr
table_into v LineStr = texts_of v InLineStr
table_into v Line = located_cells ((debug_data v).found Line)
table_into v s = located v s

abbrev pub source_into : View → ℕ → DebugSection → FieldSource
source_into v section s = record { order = v.order; cells = view_cells v section; table = table_into v s }

-- the new texts of a table after the paths of a section, and of sections
abbrev pub section_texts_at : PathMap → View → TextSection → List (List ℕ) → SectionFields → List (List ℕ)
section_texts_at m v table ts u = texts_at m (source_in v u.number table) ts (fields_of table u)

abbrev pub all_texts_at : PathMap → View → TextSection → List (List ℕ) → List SectionFields → List (List ℕ)
all_texts_at m v table ts [] = ts
all_texts_at m v table ts (u ∷ us) = all_texts_at m v table (section_texts_at m v table ts u) us

-- the new places of the paths of a section are noted, and of so many sections
abbrev pub IsSectionNoted : View → TextSection → SectionFields → (Bool → ℕ → Option ℕ) → Type 0
IsSectionNoted v table u known = AreNoted (source_in v u.number table) (fields_of table u) (length (fields_of table u)) known

pub record AllNoted (v : View) (table : TextSection) (us : List SectionFields) (count : ℕ) (known : Bool → ℕ → Option ℕ) : Type 0 where
  pub each : (k : ℕ) (d : SectionFields) → k < count → k < length us → IsSectionNoted v table (get_or us k d) known

-- a table that is built anew, with the new places of texts that are known
pub record Growing (m : PathMap) (v : View) (table : TextSection) (pool : TextTable) (known : Bool → ℕ → Option ℕ) : Type 0 where
  pub kept : pool.kept ≡ []
  pub small : length (table_bytes pool) ≤ output_limit
  pub knows : Knows m (texts_of v table).bytes pool.texts known

-- it has grown by the paths of a section
pub record GrownBy (m : PathMap) (v : View) (table : TextSection) (u : SectionFields) (old new : TextTable) (was known : Bool → ℕ → Option ℕ) : Type 0 where
  pub grown : Growing m v table new known
  pub texts : new.texts ≡ section_texts_at m v table old.texts u
  pub noted : IsSectionNoted v table u known
  pub remembers : Remembers was known

-- by those of sections
pub record GrownByAll (m : PathMap) (v : View) (table : TextSection) (us : List SectionFields) (old new : TextTable) (was known : Bool → ℕ → Option ℕ) : Type 0 where
  pub grown : Growing m v table new known
  pub texts : new.texts ≡ all_texts_at m v table old.texts us
  pub noted : AllNoted v table us (length us) known
  pub remembers : Remembers was known

-- and by those of all
pub record TableMade (m : PathMap) (v : View) (table : TextSection) (us : List SectionFields) (pool : TextTable) (known : Bool → ℕ → Option ℕ) : Type 0 where
  pub grown : Growing m v table pool known
  pub texts : pool.texts ≡ all_texts_at m v table [] us
  pub noted : AllNoted v table us (length us) known

-- the table of these texts
abbrev pub table_with : List (List ℕ) → TextTable
table_with ts = record { kept = []; texts = ts }

-- the new bytes of a section, where these are the new texts of the two tables, and the new starts of line tables by their old ones
unfoldable pub section_after : PathMap → View → List (List ℕ) → List (List ℕ) → (Bool → ℕ → Option ℕ) → SectionFields → List ℕ
section_after m v ts ls kt u =
    let with_str = patched ts m (source_in v u.number InStr) (info_of v u) (fields_into u Str) in
    let with_both = patched ls m (source_in v u.number InLineStr) with_str (fields_into u LineStr) in
    inlined m (info_of v u) (with_all_known (starts_in v u.number) kt with_both (fields_into u Line)) u.inline

abbrev pub body_after : PathMap → View → List (List ℕ) → List (List ℕ) → (Bool → ℕ → Option ℕ) → SectionFields → Body
body_after m v ts ls kt u = record { number = u.number; bytes = section_after m v ts ls kt u }

abbrev pub bodies_after : PathMap → View → List (List ℕ) → List (List ℕ) → (Bool → ℕ → Option ℕ) → List SectionFields → List Body
bodies_after m v ts ls kt [] = []
bodies_after m v ts ls kt (u ∷ us) = body_after m v ts ls kt u ∷ bodies_after m v ts ls kt us

-- the fault of a section
abbrev pub fault_at : Fault → ℕ → Fault
fault_at NoMemory section = NoMemory
fault_at (Refused r) section = Refused (at r.kind section r.offset)

-- a table of texts, of a section that is there, would be longer than a file that is written
pub data LongTable (m : PathMap) (v : View) (table : TextSection) (us : List SectionFields) : Refusal → Type 0 where
  long_table : table_number (debug_data v) table ≢ 0 → output_limit < length (table_bytes (table_with (all_texts_at m v table [] us)))
      → LongTable m v table us (at TooLarge (table_number (debug_data v) table) 0)

-- one of the two would be
pub data TablesRefuse (m : PathMap) (v : View) (us : List SectionFields) : Refusal → Type 0 where
  one_is_long : (table : TextSection) {r : Refusal} → LongTable m v table us r → TablesRefuse m v us r

-- the same from the new places that are known
unfoldable pub section_known : PathMap → View → (Bool → ℕ → Option ℕ) → (Bool → ℕ → Option ℕ) → (Bool → ℕ → Option ℕ) → SectionFields → List ℕ
section_known m v ks kl kt u =
    let with_str = with_all_known (source_in v u.number InStr) ks (info_of v u) (fields_into u Str) in
    let with_both = with_all_known (source_in v u.number InLineStr) kl with_str (fields_into u LineStr) in
    inlined m (info_of v u) (with_all_known (starts_in v u.number) kt with_both (fields_into u Line)) u.inline

-- the bytes of a section with the new offsets that are known in its fields of both tables, and the new starts of line tables
abbrev pub fields_known : View → (Bool → ℕ → Option ℕ) → (Bool → ℕ → Option ℕ) → (Bool → ℕ → Option ℕ) → SectionFields → List ℕ → List ℕ
fields_known v ks kl kt u out =
    with_all_known (starts_in v u.number) kt
    (with_all_known (source_in v u.number InLineStr) kl (with_all_known (source_in v u.number InStr) ks out (fields_into u Str)) (fields_into u LineStr)) (fields_into u Line)

abbrev pub body_known : PathMap → View → (Bool → ℕ → Option ℕ) → (Bool → ℕ → Option ℕ) → (Bool → ℕ → Option ℕ) → SectionFields → Body
body_known m v ks kl kt u = record { number = u.number; bytes = section_known m v ks kl kt u }

abbrev pub bodies_known : PathMap → View → (Bool → ℕ → Option ℕ) → (Bool → ℕ → Option ℕ) → (Bool → ℕ → Option ℕ) → List SectionFields → List Body
bodies_known m v ks kl kt [] = []
bodies_known m v ks kl kt (u ∷ us) = body_known m v ks kl kt u ∷ bodies_known m v ks kl kt us

-- a table of texts with its new bytes
abbrev pub table_body_of : View → TextSection → TextTable → Body
table_body_of v table pool = record { number = table_number (debug_data v) table; bytes = table_bytes pool }
