-- What is known of each section of a view whose units were taken: its fields of paths, its rooms, and the row of a path that
-- would grow.
use Rattle.std.proofs.Common.{◌≡◌, ℕ, ◌<◌, List, [], ◌∷◌, ◌++◌, length, get_or, refl, sym, ap, ◌∙◌, subst, append_assoc}
use Rattle.dw_base.specs.Cells.{Cell, bytes_of}
use Rattle.dw_meaning.specs.DataFails.{InlineFails}
use Rattle.dw_base.specs.DebugData.{DebugData}
use Rattle.dw_base.specs.FileViews.{View, section_bytes, view_cells}
use Rattle.dw_base.specs.Paths.{PathMap}
use Rattle.dw_base.specs.UnitHeaders.{UnitSection}
use Rattle.dw_base.specs.ViewData.{debug_data, unit_sections}
use Rattle.dw_base.specs.declared.fault.Refusal.{Refusal}
use Rattle.dw_base.proofs.ViewCellLaws.{bytes_of-view_cells}
use Rattle.dw_base.specs.declared.debug_sections.DebugSection.TheVariants.{Info, Str, LineStr, Line, Macro}
use Rattle.dw_base.specs.declared.texts.TextSection.{TextSection}
use Rattle.dw_base.specs.declared.texts.TextSection.TheVariants.{InStr, InLineStr}
use Rattle.dw_entries.specs.Fronts.{IsOfView}
use Rattle.dw_entries.proofs.HasUnitLaws.{section-at, is-unit_section}
use Rattle.dw_entries.proofs.UnitSectionLaws.{is-of-view}
use Rattle.dw_unit_fields.specs.Fields.{AreOffsetFields, AreStartFields}
use Rattle.dw_unit_fields.specs.InlineRooms.{AreRooms, Grows}
use Rattle.dw_unit_fields.specs.ViewFields.{HasOffsets, fields_of, info_of, HasPlaces}
use Rattle.dw_starts.specs.StringTables.{texts_in}
use Rattle.dw_unit_fields.specs.TextPlaces.{InlinesFit, AllFitRooms, SectionSays, AllPlaced, fields_in}
use Rattle.dw_unit_fields.specs.SectionFields.{SectionFields, fields_into}
use Rattle.dw_unit_fields.specs.UnitTexts.{AllTaken}
use Rattle.dw_unit_fields.proofs.ApartLaws.{says-apart}
use Rattle.dw_unit_fields.proofs.PlaceValueLaws.{EachOf, each-get, PlaceOf, section-each, path-fields, InlineOf, inlines-each, inline-rooms, inline-row, start-fields, unit-fields}

-- a section that was taken, in its place among all
pub record SectionFacts (v : View) (u : SectionFields) : Type 0 where
  pub section : UnitSection
  pub before : List UnitSection
  pub behind : List UnitSection
  pub split : (debug_data v).found Info ≡ before ++ section ∷ behind
  pub says : SectionSays (debug_data v) section u

data-units : (v : View) → (debug_data v).found Info ≡ unit_sections v
unfolding debug_data
data-units v = refl

-- the section of a number of the view
pub own-section : (v : View) (before behind : List UnitSection) (z : UnitSection) → (debug_data v).found Info ≡ before ++ z ∷ behind → IsOfView v z.number z
own-section v before behind z split =
    let e : unit_sections v ≡ before ++ z ∷ behind = sym (data-units v) ∙ split in
    subst (IsOfView v z.number) (section-at v before behind z e) (is-of-view v z.number (is-unit_section v before behind z e))

pub own-bytes : (v : View) (z : UnitSection) → IsOfView v z.number z → bytes_of z.contents ≡ section_bytes v z.number
own-bytes v z of = ap bytes_of of.contents ∙ bytes_of-view_cells v z.number

pub says-number : (d : DebugData) (z : UnitSection) (u : SectionFields) → SectionSays d z u → u.number ≡ z.number
says-number d z u s = ap (λ (x : SectionFields). x.number) s.says

-- the bytes of a section that says this
pub says-bytes : (v : View) (before behind : List UnitSection) (z : UnitSection) (u : SectionFields) → (debug_data v).found Info ≡ before ++ z ∷ behind → SectionSays (debug_data v) z u
    → bytes_of z.contents ≡ info_of v u
says-bytes v before behind z u split s =
    own-bytes v z (own-section v before behind z split) ∙ ap (section_bytes v) (sym (says-number (debug_data v) z u s))

pub facts-each : (v : View) (u : SectionFields) → (f : SectionFacts v u) → EachOf (PlaceOf (debug_data v) f.section) f.says.places
facts-each v u f =
    section-each (debug_data v) f.section f.before f.behind f.says.section.list _ f.says.places f.says.section.units f.split f.says.section.placed

-- its fields hold offsets of the view
facts-offsets : (v : View) (u : SectionFields) (table : TextSection) → (f : SectionFacts v u) → fields_of table u ≡ fields_in table f.says.places
    → AreOffsetFields v.order (texts_in (debug_data v) table) (view_cells v u.number) (fields_of table u)
unfolding debug_data
facts-offsets v u table f same =
    let of : IsOfView v f.section.number f.section = own-section v f.before f.behind f.section f.split in
    subst (λ (n : ℕ). AreOffsetFields v.order (texts_in (debug_data v) table) (view_cells v n) (fields_of table u)) (sym (says-number (debug_data v) f.section u f.says))
    (subst (λ (cells : List Cell). AreOffsetFields v.order (texts_in (debug_data v) table) cells (fields_of table u)) of.contents
    (subst (AreOffsetFields v.order (texts_in (debug_data v) table) f.section.contents) (sym same)
    (path-fields table (debug_data v) f.section f.says.places (facts-each v u f) f.says.names)))

facts-there : (v : View) (u : SectionFields) → SectionFacts v u → u.number < length v.sections
facts-there v u f =
    subst (λ (n : ℕ). n < length v.sections) (sym (says-number (debug_data v) f.section u f.says)) (own-section v f.before f.behind f.section f.split).there

pub has-offsets : (v : View) (u : SectionFields) → SectionFacts v u → HasOffsets v u
has-offsets v u f = record {
  there = facts-there v u f;
  str = facts-offsets v u InStr f (ap (λ (x : SectionFields). fields_into x Str) f.says.says);
  line_str = facts-offsets v u InLineStr f (ap (λ (x : SectionFields). fields_into x LineStr) f.says.says);
}

facts-inline : (v : View) (u : SectionFields) → (f : SectionFacts v u) → EachOf (InlineOf (debug_data v) f.section) u.inline
facts-inline v u f =
    subst (EachOf (InlineOf (debug_data v) f.section)) (sym (ap (λ (x : SectionFields). x.inline) f.says.says)) (inlines-each (debug_data v) f.section f.says.places (facts-each v u f))

-- so it has places
pub has-places : (v : View) (u : SectionFields) → SectionFacts v u → HasPlaces v u
unfolding debug_data
has-places v u f = record {
  there = facts-there v u f;
  starts = subst (λ (bs : List ℕ). AreStartFields bs (fields_into u Line)) (says-bytes v f.before f.behind f.section u f.split f.says)
      (subst (AreStartFields (bytes_of f.section.contents)) (sym (ap (λ (x : SectionFields). fields_into x Line) f.says.says))
      (start-fields (debug_data v) f.section f.says.places (facts-each v u f)));
  macros = subst (λ (bs : List ℕ). AreStartFields bs (fields_into u Macro)) (says-bytes v f.before f.behind f.section u f.split f.says)
      (subst (AreStartFields (bytes_of f.section.contents)) (sym (ap (λ (x : SectionFields). fields_into x Macro) f.says.says))
      (unit-fields (debug_data v) f.section f.says.places (facts-each v u f)));
  apart = says-apart (debug_data v) f.section u f.says;
  rooms = subst (λ (bs : List ℕ). AreRooms bs u.inline) (says-bytes v f.before f.behind f.section u f.split f.says)
      (inline-rooms (debug_data v) f.section u.inline (facts-inline v u f));
}

-- a path that would grow is a row
pub facts-row : (m : PathMap) (v : View) (u : SectionFields) (r : Refusal) → SectionFacts v u → Grows m u.number (info_of v u) u.inline r → InlineFails m (debug_data v) r
facts-row m v u r f g =
    let bytes : bytes_of f.section.contents ≡ info_of v u = says-bytes v f.before f.behind f.section u f.split f.says in
    inline-row m (debug_data v) f.section u.inline r (facts-inline v u f)
    (subst (λ (n : ℕ). Grows m n (bytes_of f.section.contents) u.inline r) (says-number (debug_data v) f.section u f.says)
    (subst (λ (bs : List ℕ). Grows m u.number bs u.inline r) (sym bytes) g))

-- of all sections
pub all-facts : (v : View) (before zs : List UnitSection) (us : List SectionFields) → (debug_data v).found Info ≡ before ++ zs → AllPlaced (debug_data v) zs us → EachOf (SectionFacts v) us
all-facts v before [] [] split all = tt
all-facts v before [] (u ∷ us) split all = absurd all
all-facts v before (z ∷ zs) [] split all = absurd all
all-facts v before (z ∷ zs) (u ∷ us) split all = (
  record { section = z; before = before; behind = zs; split = split; says = all.0 },
  all-facts v (before ++ z ∷ []) zs us (split ∙ sym (append_assoc before (z ∷ []) zs)) all.1,
)

pub facts-at : (v : View) (us : List SectionFields) (i : ℕ) (u : SectionFields) → AllPlaced (debug_data v) ((debug_data v).found Info) us → i < length us → u ≡ get_or us i u → SectionFacts v u
facts-at v us i u all lt is = subst (SectionFacts v) (sym is) (each-get (SectionFacts v) us i u lt (all-facts v [] ((debug_data v).found Info) us refl all))

pub places-at : (v : View) (us : List SectionFields) (i : ℕ) (u : SectionFields) → AllPlaced (debug_data v) ((debug_data v).found Info) us → i < length us → u ≡ get_or us i u → HasPlaces v u
places-at v us i u all lt is = has-places v u (facts-at v us i u all lt is)

-- sections that were taken are placed
pub taken-placed : (d : DebugData) (zs : List UnitSection) (us : List SectionFields) → AllTaken d zs us → AllPlaced d zs us
taken-placed d [] [] all = tt
taken-placed d [] (u ∷ us) all = absurd all
taken-placed d (z ∷ zs) [] all = absurd all
taken-placed d (z ∷ zs) (u ∷ us) all = (all.0.says, taken-placed d zs us all.1)

-- each path that stands in its value fits
abbrev pub FitsIn : PathMap → View → SectionFields → Type 0
FitsIn m v u = InlinesFit m (info_of v u) u.inline

pub all-fit : (m : PathMap) (v : View) (before zs : List UnitSection) (us : List SectionFields) → (debug_data v).found Info ≡ before ++ zs → AllPlaced (debug_data v) zs us
    → EachOf (FitsIn m v) us → AllFitRooms m zs us
all-fit m v before [] us split all fits = tt
all-fit m v before (z ∷ zs) [] split all fits = tt
all-fit m v before (z ∷ zs) (u ∷ us) split all fits = (
  subst (λ (bs : List ℕ). InlinesFit m bs u.inline) (sym (says-bytes v before zs z u split all.0)) fits.0,
  all-fit m v (before ++ z ∷ []) zs us (split ∙ sym (append_assoc before (z ∷ []) zs)) all.1 fits.1,
)
