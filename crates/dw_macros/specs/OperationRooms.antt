-- That the offset of an operation lies in its section.
use Rattle.std.specs.Prelude.{ℕ, ◌+◌, ◌≤◌, List, length, ⊤}
use Rattle.dw_base.specs.Forms.{width_size}
use Rattle.dw_base.specs.declared.shared.Width.{Width}
use Rattle.dw_base.specs.declared.macro_units.MacroOperation.{MacroOperation}
use Rattle.dw_base.specs.declared.macro_units.MacroOperation.TheVariants.{Named, Bring}

-- the offset of an operation, where it has one, lies in the bytes
abbrev pub HasRoom : List ℕ → Width → MacroOperation → Type 0
HasRoom bytes width (Named defines line field) = field + width_size width ≤ length bytes
HasRoom bytes width (Bring field) = field + width_size width ≤ length bytes
HasRoom bytes width o = ⊤
