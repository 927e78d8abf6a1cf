-- The new places of texts, by the section of debug data that they are in, whether a path names them, and their old places (DWARF 5, 7.5.5, class string,
-- and 6.2.4).
use Rattle.std.specs.Prelude.{Bool, true, false, ◌≡◌, ◌≢◌, ◌==◌, ℕ, List, Option, Some, None, nat_eq, if◌then◌else◌}
use Rattle.std.specs.Map.{lookup}
use Rattle.dw_base.specs.LineSources.{LineSource}
use Rattle.dw_base.specs.WrittenLines.{new_place}
use Rattle.dw_base.specs.declared.debug_sections.DebugSection.{DebugSection}
use Rattle.dw_base.specs.declared.debug_sections.DebugSection.TheVariants.{LineStr, Str}
use Rattle.dw_base.specs.declared.line_tables.LineText.{LineText}

-- old places with new ones, of a table of texts: of paths, and of other texts
pub record KnownPlaces : Type 0 where
  pub paths : List (ℕ × ℕ)
  pub texts : List (ℕ × ℕ)

abbrev pub by_old : KnownPlaces → Bool → List (ℕ × ℕ)
by_old p true = p.paths
by_old p false = p.texts

-- the new place of the text at an old place, named as a path or not, where one is known
abbrev pub known_by : KnownPlaces → Bool → ℕ → Option ℕ
known_by p path = λ o. lookup (nat_eq o) (by_old p path)

-- those of each table of texts
pub record KnownTexts : Type 0 where
  pub str : KnownPlaces
  pub line_str : KnownPlaces

-- the new place of the text at an old place of a section, named as a path or not, where one is known
abbrev pub texts_known : KnownTexts → DebugSection → Bool → ℕ → Option ℕ
texts_known p Str = known_by p.str
texts_known p LineStr = known_by p.line_str
texts_known p s = λ path o. None

-- that of a text of a line table, by those of both tables of texts
abbrev pub text_known : LineSource → (Bool → ℕ → Option ℕ) → (Bool → ℕ → Option ℕ) → LineText → Option ℕ
text_known g str line_str x = new_place g (str x.path) (line_str x.path) x.place

-- the new place of an old one is kept
pub record KeepsPlace (old new : ℕ → Option ℕ) (at place : ℕ) : Type 0 where
  pub each : (o : ℕ) → new o ≡ (if o == at then Some place else old o)

-- of a text that is named as a path or not, and no other
pub record AddsPlace (old new : Bool → ℕ → Option ℕ) (path : Bool) (at place : ℕ) : Type 0 where
  pub here : KeepsPlace (old path) (new path) at place
  pub others : (p : Bool) (o : ℕ) → p ≢ path → new p o ≡ old p o
