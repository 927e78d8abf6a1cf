-- What a view keeps beside the file, and what is known of a field.
use Rattle.std.specs.Prelude.{◌≡◌, ℕ, ◌<◌, ◌^◌, List, Option, length, map, ⊤}
use Rattle.dw_base.specs.DebugSections.{name_of, read_sections}
use Rattle.dw_base.specs.FileViews.{View, kind_at, sections_named}
use Rattle.dw_base.specs.Lists.{tabulate}
use Rattle.dw_base.specs.declared.debug_sections.DebugSection.{DebugSection}
use Rattle.dw_base.specs.declared.view_fields.Field.{Field}
use Rattle.dw_base.specs.declared.view_fields.Field.TheVariants.{Num, Into, Sym}

-- of each section that is read, in the order of the table, the numbers of all that have its name and bytes
pub record NumbersAre (v : View) (numbers : List (List ℕ)) : Type 0 where
  pub are : numbers ≡ map (λ s. sections_named v (name_of s)) read_sections

-- of each section, in the order of their numbers, which one that is read it is
pub record KindsAre (v : View) (kinds : List (Option DebugSection)) : Type 0 where
  pub are : kinds ≡ tabulate (kind_at v) (length v.sections)

-- a field of n bytes that reads as a number reads as one of n bytes
abbrev pub FieldFits : ℕ → Field → Type 0
FieldFits n (Num x) = x < 256 ^ n
FieldFits n (Into section offset) = ⊤
FieldFits n (Sym symbol kind addend) = ⊤
