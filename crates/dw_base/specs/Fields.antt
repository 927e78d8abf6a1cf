-- Records printed field by field, each field a number of a given size (gABI ch. 4 "Data Representation").
use Rattle.std.specs.Prelude.{ℕ, zero, suc, ◌+◌, ◌<◌, ◌^◌, List, [], ◌∷◌, ◌++◌}
use Rattle.dw_base.specs.declared.shared.Order.{Order}
use Rattle.dw_base.specs.Numbers.{number_bytes}

-- a field: its size in bytes, and its value
abbrev pub FieldOf : Type 0
FieldOf = ℕ × ℕ

-- the bytes of fields, one after another
abbrev pub fields_bytes : Order → List FieldOf → List ℕ
fields_bytes order [] = []
fields_bytes order (f ∷ fs) = number_bytes order f.0 f.1 ++ fields_bytes order fs

-- how many bytes the fields have together
abbrev pub fields_size : List FieldOf → ℕ
fields_size [] = 0
fields_size (f ∷ fs) = f.0 + fields_size fs

-- where field i begins: the sum of the sizes before it
abbrev pub field_place : List FieldOf → ℕ → ℕ
field_place [] i = 0
field_place (f ∷ fs) zero = 0
field_place (f ∷ fs) (suc i) = f.0 + field_place fs i

-- the size of field i, in bytes
abbrev pub field_size : List FieldOf → ℕ → ℕ
field_size [] i = 0
field_size (f ∷ fs) zero = f.0
field_size (f ∷ fs) (suc i) = field_size fs i

-- the value of field i
abbrev pub field_value : List FieldOf → ℕ → ℕ
field_value [] i = 0
field_value (f ∷ fs) zero = f.1
field_value (f ∷ fs) (suc i) = field_value fs i

-- each value fits its field
abbrev pub FieldsFit : List FieldOf → Type 0
FieldsFit [] = Unit {0}
FieldsFit (f ∷ fs) = (f.1 < 256 ^ f.0) × FieldsFit fs
