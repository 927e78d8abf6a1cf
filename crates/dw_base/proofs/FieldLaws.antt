-- A record that was printed field by field reads back, field by field.
use Rattle.std.proofs.Common.{◌≡◌, ℕ, zero, suc, ◌+◌, ◌<◌, List, [], ◌∷◌, ◌++◌, length, ◌∙◌, refl, arith}
use Rattle.std.proofs.lemmas.List.{append_assoc, length-append}
use Rattle.dw_base.specs.declared.shared.Order.{Order}
use Rattle.dw_base.specs.Numbers.{number_bytes, spelled}
use Rattle.dw_base.specs.Fields.{FieldOf, fields_bytes, fields_size, field_place, field_size, field_value, FieldsFit}
use Rattle.dw_base.proofs.NumberLaws.{spelled-append_at, spelled-number_bytes, length-number_bytes}

-- the bytes of the fields are as many as their sizes say
pub length-fields_bytes : (o : Order) (fs : List FieldOf) → length (fields_bytes o fs) ≡ fields_size fs
length-fields_bytes o [] = refl
length-fields_bytes o (f ∷ fs) =
    omega (arith, length-append (number_bytes o f.0 f.1) (fields_bytes o fs), length-number_bytes o f.0 f.1, length-fields_bytes o fs)

-- field i reads back
pub field-back : (o : Order) (fs : List FieldOf) (rest : List ℕ) (i : ℕ) → i < length fs → FieldsFit fs
    → spelled o (fields_bytes o fs ++ rest) (field_place fs i) (field_size fs i) ≡ field_value fs i
field-back o [] rest i lt fit = absurd (omega arith)
field-back o (f ∷ fs) rest zero lt fit =
    rw append_assoc (spelled-number_bytes o f.0 f.1 (fields_bytes o fs ++ rest) fit.0)
field-back o (f ∷ fs) rest (suc i) lt fit =
    rw append_assoc
    (spelled-append_at o (number_bytes o f.0 f.1) (fields_bytes o fs ++ rest) (field_place fs i) (f.0 + field_place fs i) (field_size fs i)
    (omega (arith, length-number_bytes o f.0 f.1))
    ∙ field-back o fs rest i (omega arith) fit.1)
