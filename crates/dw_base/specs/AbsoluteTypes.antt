-- Absolute relocations, whose field is the symbol's value and the addend (processor supplements of the gABI, "Relocation Types"). The
-- machines that are listed are this project's profile.
use Rattle.std.specs.Prelude.{ℕ, ◌==◌, if◌then◌else◌, List, [], ◌∷◌, Option, Some, None}
use Rattle.dw_base.specs.declared.relocations.AbsoluteTypes.{AbsoluteTypes}
use Rattle.dw_base.specs.declared.relocation_numbers.TheConstants.{EM_386, EM_PPC, EM_PPC64, EM_S390, EM_ARM, EM_X86_64, EM_AARCH64, R_386_32, R_PPC_ADDR32, R_PPC64_ADDR32, R_PPC64_ADDR64, R_390_32, R_390_64, R_ARM_ABS32, R_X86_64_32, R_X86_64_64, R_AARCH64_ABS32, R_AARCH64_ABS64}

-- a row of the table of machines
pub record MachineRow : Type 0 where
  pub machine : ℕ
  pub types : AbsoluteTypes

-- a machine with its type for a field of 4 bytes, and that for one of 8 bytes
abbrev row : ℕ → ℕ → Option ℕ → MachineRow
row machine four eight = record { machine = machine; types = record { four = four; eight = eight } }

abbrev pub machine_rows : List MachineRow
machine_rows =
    row EM_386 R_386_32 None
    ∷ row EM_PPC R_PPC_ADDR32 None
    ∷ row EM_PPC64 R_PPC64_ADDR32 (Some R_PPC64_ADDR64)
    ∷ row EM_S390 R_390_32 (Some R_390_64)
    ∷ row EM_ARM R_ARM_ABS32 None
    ∷ row EM_X86_64 R_X86_64_32 (Some R_X86_64_64)
    ∷ row EM_AARCH64 R_AARCH64_ABS32 (Some R_AARCH64_ABS64)
    ∷ []

-- the absolute types in the row of a machine
abbrev pub types_by : List MachineRow → ℕ → Option AbsoluteTypes
types_by [] machine = None
types_by (r ∷ rs) machine = if machine == r.machine then Some r.types else types_by rs machine

unfoldable pub absolute_types : ℕ → Option AbsoluteTypes
absolute_types machine = types_by machine_rows machine

-- the size for a type that is the one for 8 bytes, where there is one
abbrev pub eight_by : Option ℕ → ℕ → Option ℕ
eight_by None kind = None
eight_by (Some eight) kind = if kind == eight then Some 8 else None

-- the size of the field of a type, by the absolute types of its machine
abbrev pub size_by : AbsoluteTypes → ℕ → Option ℕ
size_by types kind = if kind == types.four then Some 4 else eight_by types.eight kind

abbrev pub size_in : Option AbsoluteTypes → ℕ → Option ℕ
size_in None kind = None
size_in (Some types) kind = size_by types kind

-- the size of the field of a type of a machine: none where it isn't an absolute one
unfoldable pub absolute_size : ℕ → ℕ → Option ℕ
absolute_size machine kind = size_in (absolute_types machine) kind
