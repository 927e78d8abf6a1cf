-- The new places of what fields hold offsets of, by the section of debug data that it is in: of texts, and of line tables (DWARF 5, 7.5.5, classes string
-- and lineptr).
use Rattle.std.specs.Prelude.{Bool, ℕ, Option}
use Rattle.dw_base.specs.declared.debug_sections.DebugSection.{DebugSection}
use Rattle.dw_base.specs.declared.debug_sections.DebugSection.TheVariants.{Line}
use Rattle.dw_lines.specs.NewTexts.{KnownTexts, texts_known}
use Rattle.dw_rewrite.specs.NewStarts.{StartChange, known_starts}

-- those of texts, and where line tables start anew
pub record AllPlaces : Type 0 where
  pub texts : KnownTexts
  pub starts : StartChange

-- those of a section, by the old ones: of paths and of other texts
abbrev pub places_known : AllPlaces → DebugSection → Bool → ℕ → Option ℕ
places_known p Line = known_starts p.starts
places_known p s = texts_known p.texts s
