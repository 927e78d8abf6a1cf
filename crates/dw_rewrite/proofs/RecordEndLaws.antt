-- What is known where the sections that hold relocations of units, of string offsets, of macro units and of name tables were made: they are those of the output, the
-- addends make all new offsets of these sections, and what refuses them is a row of the edit.
use Rattle.std.proofs.Common.{Bool, ◌≡◌, ◌⊎◌, inl, inr, ℕ, ◌*◌, ◌<◌, List, [], ◌++◌, slice_index, Option, refl, ap, ◌∙◌, subst}
use Rattle.dw_base.specs.DebugData.{DataReadings, around_of, path_slots}
use Rattle.dw_base.specs.Elf.{contents_of, word_size}
use Rattle.dw_base.specs.FileViews.{View, view_of}
use Rattle.dw_base.specs.LineTables.{LineTable}
use Rattle.dw_base.specs.MacroReadings.{EachMacro}
use Rattle.dw_base.specs.Paths.{PathMap}
use Rattle.dw_base.specs.Pieces.{EachPiece}
use Rattle.dw_base.specs.Readings.{EachReading}
use Rattle.dw_base.specs.RelocationSectionFails.{RelocationSectionsRead}
use Rattle.dw_base.specs.Relocs.{reloc_size}
use Rattle.dw_base.specs.Roles.{role_of}
use Rattle.dw_base.specs.SectionRelocations.{RelocationSource, relocation_source}
use Rattle.dw_base.specs.SectionTexts.{macro_role, name_role, slot_role}
use Rattle.dw_base.specs.StringTables.{TextTable}
use Rattle.dw_base.specs.ViewData.{debug_data}
use Rattle.dw_base.specs.declared.fault.Refusal.{Refusal}
use Rattle.dw_base.proofs.NumberLaws.{spelled-lt}
use Rattle.dw_base.specs.declared.debug_sections.DebugSection.TheVariants.{Info}
use Rattle.dw_base.specs.declared.texts.TextSection.{TextSection}
use Rattle.dw_base.specs.declared.texts.TextSection.TheVariants.{InStr, InLineStr}
use Rattle.dw_meaning.specs.DataOutput.{changes_of}
use Rattle.dw_meaning.specs.FileMeanings.{file_data}
use Rattle.dw_meaning.specs.NewAddends.{AddendsFail, MakesRole}
use Rattle.dw_meaning.specs.RelocatedBodies.{new_cells}
use Rattle.dw_patch.specs.RecordMoves.{PlacesFit}
use Rattle.dw_read.specs.AllFields.{Fields, all_of, standing}
use Rattle.dw_read.specs.FoundPaths.{PathsFound}
use Rattle.dw_read.specs.MacroFields.{macros_read}
use Rattle.dw_read.specs.NameSections.{names_read}
use Rattle.dw_read.specs.SlotPaths.{slots_read}
use Rattle.dw_unit_fields.specs.SectionFields.{SectionFields, paths_of}
use Rattle.dw_unit_fields.specs.ViewFields.{AllHaveOffsets, AllHavePlaces}
use Rattle.dw_read.specs.ViewLines.{lines_of_view}
use Rattle.dw_unit_fields.proofs.PlaceValueLaws.{EachOf, each-append}
use Rattle.dw_rewrite.specs.Bodies.{held_bodies, numbers_in}
use Rattle.dw_rewrite.specs.NewOffsets.{AllPlacesFit, records_known}
use Rattle.dw_rewrite.specs.NewTables.{IsSectionNoted, TableMade}
use Rattle.dw_rewrite.specs.OffsetAddends.{AllMake, AllMiss}
use Rattle.dw_rewrite.proofs.HeldBodyLaws.{source-small}
use Rattle.dw_rewrite.proofs.HeldRecordLaws.{FoundParts, records-after, records-asked}
use Rattle.dw_rewrite.proofs.MovedRecordLaws.{asked_in}
use Rattle.dw_rewrite.proofs.MadeBodyLaws.{noted-parts}
use Rattle.dw_rewrite.proofs.NewBodyLaws.{starts_after}
use Rattle.dw_rewrite.proofs.SectionMakeLaws.{AnySection, all-known, all-parts, any-known, any-sections, edit_of, line_str_after, macros-make, macros-miss, names-make, names-miss, offsets-parts, places-parts, readings-make, readings-miss, section-of, slots-make, slots-miss, str_after}
use Rattle.dw_rewrite.proofs.TableTextLaws.{made-table}

-- each place that a record holds fits its word
source-fits : (g : RelocationSource) → ((n : ℕ) → slice_index g.table n < 256) → PlacesFit g []
source-fits g small = record { each = λ i lt counts. spelled-lt g.order g.table (i * reloc_size g.class g.rela) (word_size g.class) small }

pub places-fit : (b : List ℕ) → ((n : ℕ) → slice_index b n < 256) → AllPlacesFit b
places-fit b small = record { each = λ i k lt is. source-fits (relocation_source (contents_of b) b k) (source-small b k small) }

-- the sections that were found, but for that of line tables
abbrev pub parts_of : View → DataReadings → List SectionFields
parts_of v all = ((paths_of all.units ++ slots_read v all) ++ macros_read all.macros) ++ names_read v all

standing-parts : (m : PathMap) (v : View) (us : Fields) (ts : List LineTable) (f : PathsFound m v us ts) → standing us ≡ parts_of v f.readings
standing-parts m v us ts f = ap standing f.is

pub found-parts : (m : PathMap) (v : View) (us : Fields) (ts : List LineTable) (f : PathsFound m v us ts) → FoundParts v f.readings
found-parts m v us ts f =
    let offsets = offsets-parts v (paths_of f.readings.units) (slots_read v f.readings ++ (lines_of_view v ts ++ (macros_read f.readings.macros ++ names_read v f.readings)))
    (subst (λ (x : Fields). AllHaveOffsets v (all_of x)) f.is f.offsets) in
    let behind = offsets-parts v (slots_read v f.readings) (lines_of_view v ts ++ (macros_read f.readings.macros ++ names_read v f.readings)) offsets.1 in
    let rest = offsets-parts v (lines_of_view v ts) (macros_read f.readings.macros ++ names_read v f.readings) behind.1 in
    let last = offsets-parts v (macros_read f.readings.macros) (names_read v f.readings) rest.1 in
    let all = places-parts v ((paths_of f.readings.units ++ slots_read v f.readings) ++ macros_read f.readings.macros) (names_read v f.readings)
    (subst (AllHavePlaces v) (standing-parts m v us ts f) f.places) in
    let places = places-parts v (paths_of f.readings.units ++ slots_read v f.readings) (macros_read f.readings.macros) all.0 in
    let some = places-parts v (paths_of f.readings.units) (slots_read v f.readings) places.0 in
    record {
      unit_offsets = offsets.0;
      unit_places = some.0;
      slot_offsets = behind.0;
      slot_places = some.1;
      macro_offsets = last.0;
      macro_places = places.1;
      name_offsets = last.1;
      name_places = all.1;
    }

-- what is noted of them
parts-noted : (m : PathMap) (v : View) (table : TextSection) (us : Fields) (ts : List LineTable) (pool : TextTable) (known : Bool → ℕ → Option ℕ) (f : PathsFound m v us ts)
    → TableMade m v table (all_of us) pool known → EachOf (λ u. IsSectionNoted v table u known) (parts_of v f.readings)
parts-noted m v table us ts pool known f t =
    let noted = noted-parts m v table us ts pool known f t in
    each-append (λ u. IsSectionNoted v table u known) ((paths_of f.readings.units ++ slots_read v f.readings) ++ macros_read f.readings.macros) (names_read v f.readings)
    (each-append (λ u. IsSectionNoted v table u known) (paths_of f.readings.units ++ slots_read v f.readings) (macros_read f.readings.macros)
    (each-append (λ u. IsSectionNoted v table u known) (paths_of f.readings.units) (slots_read v f.readings) noted.units noted.slots) noted.macros) noted.names

-- the sections of relocations are those of the output
pub records-held : (m : PathMap) (b : List ℕ) (us : Fields) (ts : List LineTable) (ps pl : TextTable) (ks kl kt : Bool → ℕ → Option ℕ) (f : PathsFound m (view_of b) us ts)
    → TableMade m (view_of b) InStr (all_of us) ps ks → TableMade m (view_of b) InLineStr (all_of us) pl kl → kt ≡ starts_after m (view_of b) f.readings → RelocationSectionsRead (contents_of b) b
    → records_known b (view_of b) ks kl kt (standing us)
    ≡ held_bodies b (new_cells m (file_data b) f.readings) (numbers_in (parts_of (view_of b) f.readings))
records-held m b us ts ps pl ks kl kt f s l starts sections =
    let v : View = view_of b in
    let all : DataReadings = f.readings in
    ap (records_known b v ks kl kt) (standing-parts m v us ts f)
    ∙ records-asked m b v ps pl ks kl kt (parts_of v all) s.grown l.grown (parts-noted m v InStr us ts ps ks f s) (parts-noted m v InLineStr us ts pl kl f l)
    ∙ ap (λ (xs : List (List ℕ)). records_known b (view_of b) (asked_in m (view_of b) InStr xs) (asked_in m (view_of b) InLineStr pl.texts) kt (parts_of (view_of b) f.readings))
    (made-table m v InStr us ts ps ks f s)
    ∙ ap (λ (xs : List (List ℕ)). records_known b (view_of b) (str_after m (view_of b) f.readings) (asked_in m (view_of b) InLineStr xs) kt (parts_of (view_of b) f.readings))
    (made-table m v InLineStr us ts pl kl f l)
    ∙ ap (λ (k : Bool → ℕ → Option ℕ). records_known b (view_of b) (str_after m (view_of b) f.readings) (line_str_after m (view_of b) f.readings) k (parts_of (view_of b) f.readings)) starts
    ∙ records-after m b f.readings sections f.reads (found-parts m v us ts f)

-- the addends make all new offsets of these sections
pub record SectionsFit (m : PathMap) (v : View) (all : DataReadings) : Type 0 where
  pub units : EachReading (λ x. MakesRole (role_of x) (edit_of m v all) (around_of (debug_data v) all) x.cells) all.units
  pub slots : EachPiece (λ x. MakesRole (slot_role (path_slots (around_of (debug_data v) all)) x.state) (edit_of m v all) (around_of (debug_data v) all) x.cells) all.offsets
  pub macros : EachMacro (λ x. MakesRole (macro_role x.state) (edit_of m v all) (around_of (debug_data v) all) x.cells) all.macros
  pub names : EachPiece (λ x. MakesRole (name_role x.state) (edit_of m v all) (around_of (debug_data v) all) x.cells) all.names

all-after : (m : PathMap) (v : View) (us : Fields) (ts : List LineTable) (ps pl : TextTable) (ks kl kt : Bool → ℕ → Option ℕ) (f : PathsFound m v us ts)
    → TableMade m v InStr (all_of us) ps ks → TableMade m v InLineStr (all_of us) pl kl → kt ≡ starts_after m v f.readings → AllMake v ks kl kt (standing us)
    → AllMake v (str_after m v f.readings) (line_str_after m v f.readings) (starts_after m v f.readings) (parts_of v f.readings)
all-after m v us ts ps pl ks kl kt f s l starts h =
    subst (λ (k : Bool → ℕ → Option ℕ). AllMake v (str_after m v f.readings) (line_str_after m v f.readings) k (parts_of v f.readings)) starts
    (subst (λ (xs : List (List ℕ)). AllMake v (str_after m v f.readings) (asked_in m v InLineStr xs) kt (parts_of v f.readings)) (made-table m v InLineStr us ts pl kl f l)
    (subst (λ (xs : List (List ℕ)). AllMake v (asked_in m v InStr xs) (asked_in m v InLineStr pl.texts) kt (parts_of v f.readings)) (made-table m v InStr us ts ps ks f s)
    (all-known m v ps pl ks kl kt (parts_of v f.readings) s.grown l.grown (parts-noted m v InStr us ts ps ks f s) (parts-noted m v InLineStr us ts pl kl f l)
    (subst (AllMake v ks kl kt) (standing-parts m v us ts f) h))))

pub addends-fit : (m : PathMap) (v : View) (us : Fields) (ts : List LineTable) (ps pl : TextTable) (ks kl kt : Bool → ℕ → Option ℕ) (f : PathsFound m v us ts)
    → TableMade m v InStr (all_of us) ps ks → TableMade m v InLineStr (all_of us) pl kl → kt ≡ starts_after m v f.readings → AllMake v ks kl kt (standing us) → SectionsFit m v f.readings
addends-fit m v us ts ps pl ks kl kt f s l starts h =
    let all : DataReadings = f.readings in
    let x : Bool → ℕ → Option ℕ = str_after m v f.readings in
    let y : Bool → ℕ → Option ℕ = line_str_after m v f.readings in
    let z : Bool → ℕ → Option ℕ = starts_after m v f.readings in
    let whole = all-parts v x y z ((paths_of f.readings.units ++ slots_read v f.readings) ++ macros_read f.readings.macros) (names_read v f.readings)
    (all-after m v us ts ps pl ks kl kt f s l starts h) in
    let front = all-parts v x y z (paths_of f.readings.units ++ slots_read v f.readings) (macros_read f.readings.macros) whole.0 in
    let first = all-parts v x y z (paths_of f.readings.units) (slots_read v f.readings) front.0 in
    record {
      units = readings-make m v all [] ((debug_data v).found Info) 0 f.readings.units refl f.reads.units first.0;
      slots = slots-make m v all f.reads.offsets first.1;
      macros = macros-make m v all f.reads.macros front.1;
      names = names-make m v all f.reads.names whole.1;
    }

-- what refuses them is a row of the edit
any-after : (m : PathMap) (v : View) (us : Fields) (ts : List LineTable) (ps pl : TextTable) (ks kl kt : Bool → ℕ → Option ℕ) (f : PathsFound m v us ts) (r : Refusal)
    → TableMade m v InStr (all_of us) ps ks → TableMade m v InLineStr (all_of us) pl kl → kt ≡ starts_after m v f.readings → AnySection v ks kl kt (standing us) r
    → AnySection v (str_after m v f.readings) (line_str_after m v f.readings) (starts_after m v f.readings) (parts_of v f.readings) r
any-after m v us ts ps pl ks kl kt f r s l starts h =
    subst (λ (k : Bool → ℕ → Option ℕ). AnySection v (str_after m v f.readings) (line_str_after m v f.readings) k (parts_of v f.readings) r) starts
    (subst (λ (xs : List (List ℕ)). AnySection v (str_after m v f.readings) (asked_in m v InLineStr xs) kt (parts_of v f.readings) r) (made-table m v InLineStr us ts pl kl f l)
    (subst (λ (xs : List (List ℕ)). AnySection v (asked_in m v InStr xs) (asked_in m v InLineStr pl.texts) kt (parts_of v f.readings) r) (made-table m v InStr us ts ps ks f s)
    (any-known m v ps pl ks kl kt (parts_of v f.readings) r s.grown l.grown (parts-noted m v InStr us ts ps ks f s) (parts-noted m v InLineStr us ts pl kl f l)
    (subst (λ (ws : List SectionFields). AnySection v ks kl kt ws r) (standing-parts m v us ts f) h))))

any-fails : (m : PathMap) (v : View) (us : Fields) (ts : List LineTable) (f : PathsFound m v us ts) (r : Refusal)
    → AnySection v (str_after m v f.readings) (line_str_after m v f.readings) (starts_after m v f.readings) (parts_of v f.readings) r
    → AddendsFail (edit_of m v f.readings) (debug_data v) (around_of (debug_data v) f.readings) f.readings r
any-fails m v us ts f r h =
    by_names (any-sections v x y z ((paths_of f.readings.units ++ slots_read v f.readings) ++ macros_read f.readings.macros) (names_read v f.readings) r h)
  where
    x : Bool → ℕ → Option ℕ
    x = str_after m v f.readings

    y : Bool → ℕ → Option ℕ
    y = line_str_after m v f.readings

    z : Bool → ℕ → Option ℕ
    z = starts_after m v f.readings

    parts : FoundParts v f.readings
    parts = found-parts m v us ts f

    Row : Type 0
    Row = AddendsFail (edit_of m v f.readings) (debug_data v) (around_of (debug_data v) f.readings) f.readings r

    by_slots : AnySection v x y z (paths_of f.readings.units) r ⊎ AnySection v x y z (slots_read v f.readings) r → Row
    by_slots (inl g) = readings-miss m v f.readings [] ((debug_data v).found Info) 0 [] f.readings.units r refl f.reads.units refl parts.unit_offsets parts.unit_places g
    by_slots (inr g) = slots-miss m v f.readings r f.reads.offsets parts.slot_offsets parts.slot_places g

    by_macros : AnySection v x y z (paths_of f.readings.units ++ slots_read v f.readings) r ⊎ AnySection v x y z (macros_read f.readings.macros) r → Row
    by_macros (inl g) = by_slots (any-sections v x y z (paths_of f.readings.units) (slots_read v f.readings) r g)
    by_macros (inr g) = macros-miss m v f.readings r f.reads.macros parts.macro_offsets parts.macro_places g

    by_names : AnySection v x y z ((paths_of f.readings.units ++ slots_read v f.readings) ++ macros_read f.readings.macros) r ⊎ AnySection v x y z (names_read v f.readings) r → Row
    by_names (inl g) = by_macros (any-sections v x y z (paths_of f.readings.units ++ slots_read v f.readings) (macros_read f.readings.macros) r g)
    by_names (inr g) = names-miss m v f.readings r f.reads.names parts.name_offsets parts.name_places g

pub addends-fail : (m : PathMap) (v : View) (us : Fields) (ts : List LineTable) (ps pl : TextTable) (ks kl kt : Bool → ℕ → Option ℕ) (f : PathsFound m v us ts) (r : Refusal)
    → TableMade m v InStr (all_of us) ps ks → TableMade m v InLineStr (all_of us) pl kl → kt ≡ starts_after m v f.readings → AllMiss v ks kl kt (standing us) r
    → AddendsFail (changes_of m (around_of (debug_data v) f.readings) f.readings) (debug_data v) (around_of (debug_data v) f.readings) f.readings r
addends-fail m v us ts ps pl ks kl kt f r s l starts h =
    any-fails m v us ts f r (any-after m v us ts ps pl ks kl kt f r s l starts (section-of v ks kl kt (standing us) r h))
