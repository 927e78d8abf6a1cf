-- That the offset of a line table lies in the section.
use Rattle.std.specs.Prelude.{true, ◌≡◌, ℕ, ◌+◌, ◌≤◌, List, length}
use Rattle.dw_base.specs.Forms.{width_size}
use Rattle.dw_base.specs.declared.macro_units.MacroHeader.{MacroHeader}

-- the offset of a line table of a header, where it has one, lies in the bytes
abbrev pub HasLineRoom : List ℕ → MacroHeader → Type 0
HasLineRoom bytes h = h.has_line ≡ true → h.line_field + width_size h.width ≤ length bytes
