-- The name of a unit section is that of its kind: which of the two it is, is told by the name that it has in the view.
use Rattle.std.proofs.Common.{◌≡◌, ℕ, Option, Some, None, refl, sym, ap, ◌∙◌}
use Rattle.dw_base.specs.FileViews.{View, kind_at}
use Rattle.dw_base.specs.UnitHeaders.{SectionKind, in_info, in_types}
use Rattle.dw_base.specs.ViewData.{unit_kind}
use Rattle.dw_base.specs.declared.debug_sections.DebugSection.{DebugSection}
use Rattle.dw_base.specs.declared.debug_sections.DebugSection.TheVariants.{Info, Types, Abbrev, Str, LineStr, StrOffsets, Line, Macro, Names}
use Rattle.dw_base.proofs.ViewOffsetLaws.{kind_at-there}
use Rattle.dw_entries.specs.ViewUnits.{IsUnitSection, unit_section_at}
use Rattle.dw_entries.proofs.UnitSectionLaws.{found-section}
use Rattle.dbg_show.specs.UnitTexts.{kind_name}
use Rattle.dw_units.proofs.HeaderListLaws.{section-within}

kind-there : (v : View) (n : ℕ) → IsUnitSection v n → unit_kind (kind_at v n) ≡ Some (unit_section_at v n).kind
kind-there v n there =
    let f = found-section v n (unit_section_at v n) there in
    ap unit_kind (kind_at-there v n f.section f.rest f.there) ∙ f.kind

some-kind : (a b : SectionKind) → Some a ≡ Some b → a ≡ b
some-kind a b e = cc

types-only : (o : Option DebugSection) → unit_kind o ≡ Some in_types → o ≡ Some Types
types-only None e = absurd cc
types-only (Some Info) e = absurd (other (some-kind in_info in_types e))
  where
    other : in_info ≡ in_types → ⊥
    other e = cc
types-only (Some Types) e = refl
types-only (Some Abbrev) e = absurd cc
types-only (Some Str) e = absurd cc
types-only (Some LineStr) e = absurd cc
types-only (Some StrOffsets) e = absurd cc
types-only (Some Line) e = absurd cc
types-only (Some Macro) e = absurd cc
types-only (Some Names) e = absurd cc

pub types-named : (v : View) (n : ℕ) (o : Option DebugSection) → IsUnitSection v n → o ≡ kind_at v n → o ≡ Some Types → kind_name in_types ≡ kind_name (unit_section_at v n).kind
types-named v n o there is types =
    ap kind_name (some-kind in_types (unit_section_at v n).kind (ap unit_kind (sym types ∙ is) ∙ kind-there v n there))

pub others-named : (v : View) (n : ℕ) (o : Option DebugSection) → IsUnitSection v n → o ≡ kind_at v n → (o ≡ Some Types → ⊥) → kind_name in_info ≡ kind_name (unit_section_at v n).kind
others-named v n o there is other = by_kind (unit_section_at v n).kind refl
  where
    by_kind : (k : SectionKind) → (unit_section_at v n).kind ≡ k → kind_name in_info ≡ kind_name k
    by_kind in_info e = refl
    by_kind in_types e = absurd (other (is ∙ types-only (kind_at v n) (kind-there v n there ∙ ap Some e)))

pub ruleset name_laws = (section-within, types-named, others-named)
