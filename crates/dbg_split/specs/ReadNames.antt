-- Names of sections whose bytes are read for debug data (DWARF 5, Appendix B; of `.debug_types` DWARF 4, Appendix B).
use Rattle.std.specs.Prelude.{Bool, true, false, ℕ, if◌then◌else◌, List, [], ◌∷◌}
use Rattle.dw_base.specs.DebugSections.{name_of, read_sections}
use Rattle.dw_base.specs.Texts.{same_text}
use Rattle.dw_base.specs.declared.debug_sections.DebugSection.{DebugSection}

-- the name is that of this section
abbrev pub has_name_of : List ℕ → DebugSection → Bool
has_name_of name s = same_text name (name_of s)

-- the name is that of one of these
abbrev pub is_one_of : List DebugSection → List ℕ → Bool
is_one_of [] name = false
is_one_of (s ∷ ss) name = if has_name_of name s then true else is_one_of ss name

-- the name is that of a section that is read
unfoldable pub is_read_name : List ℕ → Bool
is_read_name name = is_one_of read_sections name
