-- The names of the sections that are read.
use Rattle.std.proofs.Common.{◌≡◌, false, List, ℕ, refl}
use Rattle.dw_base.specs.DebugSections.{name_of}
use Rattle.dw_base.specs.Texts.{has_nul}
use Rattle.dw_base.specs.declared.debug_sections.DebugSection.{DebugSection}
use Rattle.dw_base.specs.declared.debug_sections.DebugSection.TheVariants.{Info, Types, Abbrev, Str, LineStr, StrOffsets, Line, Macro, Names}

-- none has a NUL
name-plain : (s : DebugSection) → has_nul (name_of s) ≡ false
name-plain Info = refl
name-plain Types = refl
name-plain Abbrev = refl
name-plain Str = refl
name-plain LineStr = refl
name-plain StrOffsets = refl
name-plain Line = refl
name-plain Macro = refl
name-plain Names = refl

pub name_of-plain : (s : DebugSection) (name : List ℕ) → name ≡ name_of s → has_nul name ≡ false
name_of-plain s name is = rw is (name-plain s)

pub ruleset plain_laws = (name_of-plain)
