-- Values of forms, worked: the numbers of LEB128 are those of the standard's own tables (DWARF 5, tables 7.7 and 7.8), the
-- entry and the abbreviations are the first of a program that gcc 12.2 compiled, as readelf shows them.
use Rattle.std.proofs.Common.{◌≡◌, ℕ, ◌^◌, ◌-◌, List, [], ◌∷◌, codes, refl, Option, Some, None, false}
use Rattle.std.specs.Prelude.{pos, negsuc}
use Rattle.std.proofs.lemmas.Bool.{ltb-true}
use Rattle.dw_base.specs.AbbreviationTables.{Abbreviation, IsTable, SpellsAbbreviation, no_abbreviations, more_abbreviations, no_specs, more_specs, by_form, with_number}
use Rattle.dw_base.specs.FormFails.{FormFails, own, again, chosen, implicit, cut, not_listed, in_other_file, passes_end}
use Rattle.dw_base.specs.Forms.{kind_in, form_rows}
use Rattle.dw_base.specs.Lebs.{uleb_at, sleb_at}
use Rattle.dw_base.specs.Numbers.{number_at, spelled}
use Rattle.dw_base.specs.Refusals.{at}
use Rattle.dw_base.specs.Texts.{text_in, ends_in}
use Rattle.dw_base.specs.Values.{value_at, value_of}
use Rattle.dw_base.specs.declared.fault.Kind.TheVariants.{Form, Entry, Supplementary}
use Rattle.dw_base.specs.declared.shared.Order.TheVariants.{Little, Big}
use Rattle.dw_base.specs.declared.shared.Params.{Params}
use Rattle.dw_base.specs.declared.shared.Width.TheVariants.{W32, W64}
use Rattle.dw_base.specs.declared.values.Spec.{Spec}
use Rattle.dw_base.specs.declared.values.Value.{Value}
use Rattle.dw_base.specs.declared.values.ValueClass.{ValueClass}
use Rattle.dw_base.specs.declared.values.ValueClass.TheVariants.{Address, Number, Signed, Bytes, Flag, InlineText, StrOffset, LineStrOffset, GlobalRef}

-- a unit of 32-bit DWARF of a version, with addresses of 8 bytes, and an attribute of a form
abbrev pub unit_32 : ℕ → Params
unit_32 version = record { order = Little; width = W32; version = version; address = 8 }

abbrev pub unit_64 : Params
unit_64 = record { order = Big; width = W64; version = 5; address = 4 }

abbrev pub of_form : ℕ → Spec
of_form form = record { name = 3; form = form; implicit = pos 0 }

-- class, number, place, length and size
abbrev pub read_as : ValueClass → ℕ → ℕ → ℕ → ℕ → Option Value
read_as class number place len size = Some (record { class = class; number = number; at = place; len = len; size = size })

-- numbers of LEB128, unsigned and signed, by themselves and behind their form
pub leb-values :
    (value_at (unit_32 4) (of_form 15) (185 ∷ 100 ∷ []) 0 ≡ read_as Number 12857 0 2 2)
    × (value_at (unit_32 4) (of_form 13) (0 ∷ 129 ∷ 127 ∷ []) 1 ≡ read_as Signed (2 ^ 64 - 127) 1 2 2)
    × (value_at (unit_32 4) (of_form 13) (255 ∷ 0 ∷ []) 0 ≡ read_as Signed 127 0 2 2)
    × (value_at (unit_32 4) (of_form 22) (7 ∷ 15 ∷ 185 ∷ 100 ∷ []) 1 ≡ read_as Number 12857 2 2 3)
    × (value_at (unit_32 4) (of_form 15) (185 ∷ []) 0 ≡ None)
unfolding value_at value_of kind_in form_rows uleb_at sleb_at
leb-values = (refl, refl, refl, refl, refl)

-- flags, implicit numbers, blocks and texts
pub other-values :
    (value_at (unit_32 4) (of_form 25) [] 0 ≡ read_as Flag 1 0 0 0)
    × (value_at (unit_32 5) (record { name = 3; form = 33; implicit = negsuc 1 }) (1 ∷ []) 1 ≡ read_as Signed (2 ^ 64 - 2) 1 0 0)
    × (value_at (unit_32 5) (of_form 10) (2 ∷ 145 ∷ 108 ∷ []) 0 ≡ read_as Bytes 0 1 2 3)
    × (value_at (unit_32 5) (of_form 24) (2 ∷ 145 ∷ []) 0 ≡ None)
    × (value_at (unit_32 5) (of_form 8) (codes "l\0:") 0 ≡ read_as InlineText 0 0 1 2)
    × (value_at (unit_32 5) (of_form 8) (codes "l:") 0 ≡ None)
unfolding value_at value_of kind_in form_rows uleb_at sleb_at number_at spelled text_in ends_in
other-values = (refl, refl, refl, refl, refl, refl)

-- references and offsets by version, width and byte order
pub sized-values :
    (value_at (unit_32 2) (of_form 16) (1 ∷ 0 ∷ 0 ∷ 0 ∷ 0 ∷ 0 ∷ 0 ∷ 0 ∷ []) 0 ≡ read_as GlobalRef 1 0 8 8)
    × (value_at (unit_32 3) (of_form 16) (1 ∷ 0 ∷ 0 ∷ 0 ∷ 0 ∷ 0 ∷ 0 ∷ 0 ∷ []) 0 ≡ read_as GlobalRef 1 0 4 4)
    × (value_at unit_64 (of_form 14) (0 ∷ 0 ∷ 0 ∷ 0 ∷ 0 ∷ 0 ∷ 1 ∷ 2 ∷ []) 0 ≡ read_as StrOffset 258 0 8 8)
    × (value_at unit_64 (of_form 1) (0 ∷ 0 ∷ 1 ∷ 2 ∷ []) 0 ≡ read_as Address 258 0 4 4)
    × (value_at unit_64 (of_form 0x1f21) (0 ∷ 0 ∷ 1 ∷ 2 ∷ []) 0 ≡ None)
unfolding value_at value_of kind_in form_rows number_at spelled
sized-values = (refl, refl, refl, refl, refl)

-- the root of a program: producer at 0x37, language 29, name at 9, directory at 0, address 0x1129, size 0x9a
abbrev pub root_bytes : List ℕ
root_bytes = 17 ∷ 55 ∷ 0 ∷ 0 ∷ 0 ∷ 29 ∷ 9 ∷ 0 ∷ 0 ∷ 0 ∷ 0 ∷ 0 ∷ 0 ∷ 0 ∷ 41 ∷ 17 ∷ 0 ∷ 0 ∷ 0 ∷ 0 ∷ 0 ∷ 0 ∷ 154 ∷ 0 ∷ 0 ∷ 0 ∷ 0 ∷ 0 ∷ 0 ∷ 0 ∷ 0 ∷ 0 ∷ 0 ∷ 0 ∷ []

pub root-values :
    (value_at (unit_32 5) (of_form 14) root_bytes 1 ≡ read_as StrOffset 0x37 1 4 4)
    × (value_at (unit_32 5) (of_form 11) root_bytes 5 ≡ read_as Number 29 5 1 1)
    × (value_at (unit_32 5) (of_form 31) root_bytes 6 ≡ read_as LineStrOffset 9 6 4 4)
    × (value_at (unit_32 5) (of_form 1) root_bytes 14 ≡ read_as Address 0x1129 14 8 8)
    × (value_at (unit_32 5) (of_form 7) root_bytes 22 ≡ read_as Number 0x9a 22 8 8)
unfolding value_at value_of kind_in form_rows number_at spelled
root-values = (refl, refl, refl, refl, refl)

-- a form of no row, one of another file, and forms behind a form
pub refused-values :
    FormFails (unit_32 4) (of_form 2) (1 ∷ []) 7 0 (at Form 7 0)
    × FormFails (unit_32 4) (of_form 0x1f21) (1 ∷ []) 7 0 (at Supplementary 7 0)
    × FormFails (unit_32 4) (of_form 6) (0 ∷ 1 ∷ []) 7 1 (at Entry 7 1)
    × FormFails (unit_32 4) (of_form 22) (128 ∷ []) 7 0 (at Entry 7 0)
    × FormFails (unit_32 4) (of_form 22) (22 ∷ 11 ∷ 0 ∷ []) 7 0 (at Form 7 0)
    × FormFails (unit_32 4) (of_form 22) (33 ∷ []) 7 0 (at Form 7 0)
    × FormFails (unit_32 4) (of_form 22) (6 ∷ 1 ∷ []) 7 0 (at Entry 7 0)
unfolding value_of kind_in form_rows uleb_at number_at spelled
refused-values = (
  own (not_listed refl),
  own (in_other_file refl),
  own (passes_end (λ e. cc) (λ e. cc) (λ e. cc) refl),
  cut refl refl,
  again 22 1 (record { indirect = refl; spells = refl }) refl,
  implicit 33 1 (record { indirect = refl; spells = refl }) refl,
  chosen 6 1 (record { indirect = refl; spells = refl }) (λ e. cc) (passes_end (λ e. cc) (λ e. cc) (λ e. cc) refl),
)

-- two abbreviations of that program: a pointer of 8 bytes to a type, and a parameter of a type
abbrev pub two_abbreviations : List ℕ
two_abbreviations = 1 ∷ 15 ∷ 0 ∷ 11 ∷ 33 ∷ 8 ∷ 73 ∷ 19 ∷ 0 ∷ 0 ∷ 2 ∷ 5 ∷ 0 ∷ 73 ∷ 19 ∷ 0 ∷ 0 ∷ 0 ∷ []

abbrev pub size_spec : Spec
size_spec = record { name = 11; form = 33; implicit = pos 8 }

abbrev pub type_spec : Spec
type_spec = record { name = 73; form = 19; implicit = pos 0 }

abbrev pub pointer_abbreviation : Abbreviation
pointer_abbreviation = record { code = 1; tag = 15; children = false; specs = size_spec ∷ type_spec ∷ [] }

abbrev pub parameter_abbreviation : Abbreviation
parameter_abbreviation = record { code = 2; tag = 5; children = false; specs = type_spec ∷ [] }

spells_pointer : SpellsAbbreviation two_abbreviations 0 pointer_abbreviation 10
unfolding uleb_at sleb_at
spells_pointer = record {
  flag = 0;
  first = 3;
  last = 8;
  head = record { code_size = 1; tag_size = 1; code_spells = refl; declares = λ e. cc; tag_spells = refl; flag_there = ltb-true _ _ refl; flag_is = refl; behind = refl };
  is_flag = ltb-true _ _ refl;
  children = refl;
  specs = more_specs (size_spec ∷ []) type_spec 6 8
      (more_specs [] size_spec 3 6 no_specs
      (with_number 11 5 1 (pos 8) (record { name_size = 1; form_size = 1; name_spells = refl; form_spells = refl; behind = refl }) (λ e. cc) refl))
      (by_form 73 19 8 (record { name_size = 1; form_size = 1; name_spells = refl; form_spells = refl; behind = refl }) (λ e. cc) (λ e. cc) (λ e. cc));
  end = record { name_size = 1; form_size = 1; name_spells = refl; form_spells = refl; behind = refl };
}

spells_parameter : SpellsAbbreviation two_abbreviations 10 parameter_abbreviation 17
unfolding uleb_at sleb_at
spells_parameter = record {
  flag = 0;
  first = 13;
  last = 15;
  head = record { code_size = 1; tag_size = 1; code_spells = refl; declares = λ e. cc; tag_spells = refl; flag_there = ltb-true _ _ refl; flag_is = refl; behind = refl };
  is_flag = ltb-true _ _ refl;
  children = refl;
  specs = more_specs [] type_spec 13 15 no_specs
      (by_form 73 19 15 (record { name_size = 1; form_size = 1; name_spells = refl; form_spells = refl; behind = refl }) (λ e. cc) (λ e. cc) (λ e. cc));
  end = record { name_size = 1; form_size = 1; name_spells = refl; form_spells = refl; behind = refl };
}

pub two_abbreviations-table : IsTable two_abbreviations 0 (pointer_abbreviation ∷ parameter_abbreviation ∷ [])
unfolding uleb_at
two_abbreviations-table = record {
  last = 17;
  size = 1;
  declares = more_abbreviations (pointer_abbreviation ∷ []) parameter_abbreviation 10 17
      (more_abbreviations [] pointer_abbreviation 0 10 no_abbreviations spells_pointer refl)
      spells_parameter refl;
  ends = refl;
}
