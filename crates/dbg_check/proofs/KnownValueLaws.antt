-- Whether two values of attributes are the same is known, and so of entries, forests and units.
use Rattle.std.proofs.Common.{Bool, true, false, ◌≡◌, ℕ, zero, suc, ℤ, pos, inl, List, [], ◌∷◌, Option, None, refl, ap}
use Rattle.dw_base.specs.Cells.{Cell, Relocation}
use Rattle.dw_base.specs.Forests.{AttributeMeaning, Forest, no_entries, entry, HeadMeaning}
use Rattle.dw_base.specs.InlinePaths.{inline_fits}
use Rattle.dw_base.specs.MappedUnits.{AttributesFit, ForestFits, ValueFits, mapped_unit}
use Rattle.dw_base.specs.Paths.{PathMap}
use Rattle.dw_base.specs.UnitMeanings.{UnitMeaning}
use Rattle.dw_base.specs.ValueMeanings.{TextForm, inline, by_offset, by_slot, ValueMeaning, string, entry_of, stray, table_number, macro_number, raw, signed_number, of_class}
use Rattle.dw_base.specs.declared.shared.Class.{Class}
use Rattle.dw_base.specs.declared.shared.Class.TheVariants.{C32, C64}
use Rattle.dw_base.specs.declared.shared.Width.{Width}
use Rattle.dw_base.specs.declared.shared.Width.TheVariants.{W32, W64}
use Rattle.dw_base.specs.declared.values.ValueClass.{ValueClass}
use Rattle.dw_base.specs.declared.values.ValueClass.TheVariants as class
use Rattle.dw_base.specs.declared.view_fields.Field.{Field}
use Rattle.dw_base.specs.declared.view_fields.Field.TheVariants.{Num, Into, Sym}
use Rattle.dbg_check.proofs.EntryLaws.{forest-told}
use Rattle.dbg_check.proofs.KnownLaws.{Known, IsTold, known-by, known-both, told-by, told_ℕ, told_bool, told×, told_option, told_ℤ, told_list}
use Rattle.dbg_check.specs.Entries.{EntryMeaning, all_entries}
use Rattle.dbg_check.specs.Parts.{UnitAgrees}

-- ### Cells

abbrev class_bit : Class → Bool
class_bit C32 = true
class_bit C64 = false

abbrev bit_class : Bool → Class
bit_class true = C32
bit_class false = C64

class-back : (x : Class) → bit_class (class_bit x) ≡ x
class-back C32 = refl
class-back C64 = refl

pub told_relocation : IsTold Relocation
told_relocation = told-by
    (λ (r : Relocation). (class_bit r.class, (r.symbol, (r.kind, (r.size, (r.addend, r.target))))))
    (λ (p : Bool × (ℕ × (ℕ × (Option ℕ × (Option ℤ × Option (ℕ × ℕ)))))). record {
      class = bit_class p.0;
      symbol = p.1.0;
      kind = p.1.1.0;
      size = p.1.1.1.0;
      addend = p.1.1.1.1.0;
      target = p.1.1.1.1.1;
    })
    (λ (r : Relocation). λ i. record r { class = class-back r.class i })
    (told× told_bool (told× told_ℕ (told× told_ℕ (told× (told_option 0 told_ℕ) (told× (told_option (pos 0) told_ℤ) (told_option (0, 0) (told× told_ℕ told_ℕ)))))))

abbrev some_relocation : Relocation
some_relocation = record { class = C32; symbol = 0; kind = 0; size = None; addend = None; target = None }

pub told_cell : IsTold Cell
told_cell = told-by
    (λ (c : Cell). (c.byte, c.relocation))
    (λ (p : ℕ × Option Relocation). record { byte = p.0; relocation = p.1 })
    (λ (c : Cell). refl)
    (told× told_ℕ (told_option some_relocation told_relocation))

pub told_cells : IsTold (List Cell)
told_cells = told_list told_cell

-- ### Values

abbrev class_number : ValueClass → ℕ
class_number class.Address = 0
class_number class.Number = 1
class_number class.Signed = 2
class_number class.Bytes = 3
class_number class.Flag = 4
class_number class.InlineText = 5
class_number class.StrOffset = 6
class_number class.LineStrOffset = 7
class_number class.StrIndex = 8
class_number class.AddrIndex = 9
class_number class.ListIndex = 10
class_number class.LocalRef = 11
class_number class.GlobalRef = 12
class_number class.Signature = 13
class_number class.SecOffset = 14

-- classes from a number on, in the order of their numbers
abbrev class_in : List ValueClass → ℕ → ValueClass
class_in [] n = class.SecOffset
class_in (c ∷ cs) zero = c
class_in (c ∷ cs) (suc n) = class_in cs n

abbrev all_classes : List ValueClass
all_classes =
    class.Address ∷ class.Number ∷ class.Signed ∷ class.Bytes ∷ class.Flag ∷ class.InlineText ∷ class.StrOffset ∷ class.LineStrOffset
    ∷ class.StrIndex ∷ class.AddrIndex ∷ class.ListIndex ∷ class.LocalRef ∷ class.GlobalRef ∷ class.Signature ∷ []

class_number-back : (c : ValueClass) → class_in all_classes (class_number c) ≡ c
class_number-back class.Address = refl
class_number-back class.Number = refl
class_number-back class.Signed = refl
class_number-back class.Bytes = refl
class_number-back class.Flag = refl
class_number-back class.InlineText = refl
class_number-back class.StrOffset = refl
class_number-back class.LineStrOffset = refl
class_number-back class.StrIndex = refl
class_number-back class.AddrIndex = refl
class_number-back class.ListIndex = refl
class_number-back class.LocalRef = refl
class_number-back class.GlobalRef = refl
class_number-back class.Signature = refl
class_number-back class.SecOffset = refl

told_class : IsTold ValueClass
told_class = told-by class_number (class_in all_classes) class_number-back told_ℕ

-- a field, a text's form and a value by numbers: which it is, and what it has
abbrev field_parts : Field → ℕ × (ℕ × (ℕ × ℤ))
field_parts (Num n) = (0, (n, (0, pos 0)))
field_parts (Into section offset) = (1, (section, (offset, pos 0)))
field_parts (Sym symbol kind addend) = (2, (symbol, (kind, addend)))

abbrev field_of : ℕ → ℕ → ℕ → ℤ → Field
field_of zero a b c = Num a
field_of (suc zero) a b c = Into a b
field_of (suc (suc n)) a b c = Sym a b c

field-back : (f : Field) → field_of (field_parts f).0 (field_parts f).1.0 (field_parts f).1.1.0 (field_parts f).1.1.1 ≡ f
field-back (Num n) = refl
field-back (Into section offset) = refl
field-back (Sym symbol kind addend) = refl

told_field : IsTold Field
told_field = told-by field_parts (λ (p : ℕ × (ℕ × (ℕ × ℤ))). field_of p.0 p.1.0 p.1.1.0 p.1.1.1) field-back (told× told_ℕ (told× told_ℕ (told× told_ℕ told_ℤ)))

abbrev form_parts : TextForm → ℕ × ℕ
form_parts inline = (0, 0)
form_parts by_offset = (1, 0)
form_parts (by_slot n) = (2, n)

abbrev form_of : ℕ → ℕ → TextForm
form_of zero n = inline
form_of (suc zero) n = by_offset
form_of (suc (suc k)) n = by_slot n

form-back : (f : TextForm) → form_of (form_parts f).0 (form_parts f).1 ≡ f
form-back inline = refl
form-back by_offset = refl
form-back (by_slot n) = refl

told_form : IsTold TextForm
told_form = told-by form_parts (λ (p : ℕ × ℕ). form_of p.0 p.1) form-back (told× told_ℕ told_ℕ)

-- what a value of any kind has: its kind's number; and what a string, a pair of numbers, cells, a signed number, or a number of a class has
pub record ValueParts : Type 0 where
  pub kind : ℕ
  pub path : Bool
  pub form : TextForm
  pub bytes : List ℕ
  pub first : ℕ
  pub second : ℕ
  pub cells : List Cell
  pub signed : ℤ
  pub class : ValueClass
  pub field : Field

abbrev no_parts : ℕ → ValueParts
no_parts kind = record {
  kind = kind;
  path = false;
  form = inline;
  bytes = [];
  first = 0;
  second = 0;
  cells = [];
  signed = pos 0;
  class = class.Address;
  field = Num 0;
}

abbrev value_parts : ValueMeaning → ValueParts
value_parts (string path form t) = record (no_parts 0) { path = path; form = form; bytes = t }
value_parts (entry_of unit number) = record (no_parts 1) { first = unit; second = number }
value_parts (stray n) = record (no_parts 2) { first = n }
value_parts (table_number n) = record (no_parts 3) { first = n }
value_parts (macro_number n) = record (no_parts 4) { first = n }
value_parts (raw p) = record (no_parts 5) { cells = p }
value_parts (signed_number n) = record (no_parts 6) { signed = n }
value_parts (of_class c f) = record (no_parts 7) { class = c; field = f }

abbrev value_by : ℕ → ValueParts → ValueMeaning
value_by zero p = string p.path p.form p.bytes
value_by (suc zero) p = entry_of p.first p.second
value_by (suc (suc zero)) p = stray p.first
value_by (suc (suc (suc zero))) p = table_number p.first
value_by (suc (suc (suc (suc zero)))) p = macro_number p.first
value_by (suc (suc (suc (suc (suc zero))))) p = raw p.cells
value_by (suc (suc (suc (suc (suc (suc zero)))))) p = signed_number p.signed
value_by (suc (suc (suc (suc (suc (suc (suc n))))))) p = of_class p.class p.field

value-back : (v : ValueMeaning) → value_by (value_parts v).kind (value_parts v) ≡ v
value-back (string path form t) = refl
value-back (entry_of unit number) = refl
value-back (stray n) = refl
value-back (table_number n) = refl
value-back (macro_number n) = refl
value-back (raw p) = refl
value-back (signed_number n) = refl
value-back (of_class c f) = refl

told_parts : IsTold ValueParts
told_parts = told-by
    (λ (p : ValueParts). ((p.kind, (p.path, (p.form, p.bytes))), ((p.first, (p.second, p.cells)), (p.signed, (p.class, p.field)))))
    (λ (q : (ℕ × (Bool × (TextForm × List ℕ))) × ((ℕ × (ℕ × List Cell)) × (ℤ × (ValueClass × Field)))). record {
      kind = q.0.0;
      path = q.0.1.0;
      form = q.0.1.1.0;
      bytes = q.0.1.1.1;
      first = q.1.0.0;
      second = q.1.0.1.0;
      cells = q.1.0.1.1;
      signed = q.1.1.0;
      class = q.1.1.1.0;
      field = q.1.1.1.1;
    })
    (λ (p : ValueParts). refl)
    (told× (told× told_ℕ (told× told_bool (told× told_form (told_list told_ℕ))))
    (told× (told× told_ℕ (told× told_ℕ told_cells)) (told× told_ℤ (told× told_class told_field))))

pub told_value : IsTold ValueMeaning
told_value = told-by value_parts (λ (p : ValueParts). value_by p.kind p) value-back told_parts

-- ### Entries and units

told_attribute : IsTold AttributeMeaning
told_attribute = told-by
    (λ (a : AttributeMeaning). (a.name, a.value))
    (λ (p : ℕ × ValueMeaning). record { name = p.0; value = p.1 })
    (λ (a : AttributeMeaning). refl)
    (told× told_ℕ told_value)

told_entry : IsTold EntryMeaning
told_entry = told-by
    (λ (x : EntryMeaning). (x.depth, (x.tag, x.attributes)))
    (λ (p : ℕ × (ℕ × List AttributeMeaning)). record { depth = p.0; tag = p.1.0; attributes = p.1.1 })
    (λ (x : EntryMeaning). refl)
    (told× told_ℕ (told× told_ℕ (told_list told_attribute)))

told_forest : IsTold Forest
told_forest f g = known-by (forest-told f g) (λ (e : f ≡ g). ap all_entries e) (told_list told_entry (all_entries f) (all_entries g))

abbrev width_bit : Width → Bool
width_bit W32 = true
width_bit W64 = false

abbrev bit_width : Bool → Width
bit_width true = W32
bit_width false = W64

width-back : (x : Width) → bit_width (width_bit x) ≡ x
width-back W32 = refl
width-back W64 = refl

pub told_width : IsTold Width
told_width = told-by width_bit bit_width width-back told_bool

told_head : IsTold HeadMeaning
told_head = told-by
    (λ (h : HeadMeaning). (h.version, (h.width, (h.address, (h.kind, (h.signature, h.type_entry))))))
    (λ (p : ℕ × (Width × (ℕ × (ℕ × (ℕ × Option ValueMeaning))))). record {
      version = p.0;
      width = p.1.0;
      address = p.1.1.0;
      kind = p.1.1.1.0;
      signature = p.1.1.1.1.0;
      type_entry = p.1.1.1.1.1;
    })
    (λ (h : HeadMeaning). refl)
    (told× told_ℕ (told× told_width (told× told_ℕ (told× told_ℕ (told× told_ℕ (told_option (stray 0) told_value))))))

told_unit : IsTold UnitMeaning
told_unit = told-by
    (λ (u : UnitMeaning). (u.section, (u.head, u.entries)))
    (λ (p : ℕ × (HeadMeaning × Forest)). record { section = p.0; head = p.1.0; entries = p.1.1 })
    (λ (u : UnitMeaning). refl)
    (told× told_ℕ (told× told_head told_forest))

-- ### Whether a path that stands in its value fits

true-known : (b : Bool) → Known (b ≡ true)
true-known b = told_bool b true

value-known : (m : PathMap) (v : ValueMeaning) → Known (ValueFits m v)
value-known m (string true inline t) = true-known (inline_fits m t)
value-known m (string true by_offset t) = inl tt
value-known m (string true (by_slot n) t) = inl tt
value-known m (string false form t) = inl tt
value-known m (entry_of unit number) = inl tt
value-known m (stray n) = inl tt
value-known m (table_number n) = inl tt
value-known m (macro_number n) = inl tt
value-known m (raw p) = inl tt
value-known m (signed_number n) = inl tt
value-known m (of_class c f) = inl tt

attributes-known : (m : PathMap) (xs : List AttributeMeaning) → Known (AttributesFit m xs)
attributes-known m [] = inl tt
attributes-known m (a ∷ rest) = known-both (value-known m a.value) (attributes-known m rest)

forest-known : (m : PathMap) (f : Forest) → Known (ForestFits m f)
forest-known m no_entries = inl tt
forest-known m (entry tag attributes children siblings) =
    known-by (λ (all : AttributesFit m attributes × (ForestFits m children × ForestFits m siblings)). (all.0, all.1.0, all.1.1))
    (λ (all : AttributesFit m attributes × ForestFits m children × ForestFits m siblings). (all.0, (all.1, all.2)))
    (known-both (attributes-known m attributes) (known-both (forest-known m children) (forest-known m siblings)))

-- whether two units agree
pub unit-known : (m : PathMap) (u w : UnitMeaning) → Known (UnitAgrees m u w)
unit-known m u w = known-both (forest-known m u.entries) (told_unit (mapped_unit m u) w)
