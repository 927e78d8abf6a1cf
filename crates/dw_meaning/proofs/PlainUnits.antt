-- Whether cells are the pieces of a unit section, as a test that computes: units whose table of abbreviations stands at the
-- start of .debug_abbrev, and values without a form in front. For worked files.
use Rattle.dw_base.specs.declared.shared.Order.{Order}
use Rattle.dw_base.specs.Cells.{CellSection}
use Rattle.dw_base.specs.DebugData.{DataReadings}
use Rattle.dw_base.specs.NamePieces.{ReadsNames}
use Rattle.dw_base.specs.OffsetPieces.{ReadsOffsets}
use Rattle.dw_base.specs.Readings.{Readings}
use Rattle.std.proofs.Common.{◌≡◌, ◌≢◌, ℕ, ◌+◌, ◌==◌, ◌<◌, Bool, true, false, ◌&&◌, ◌||◌, not, List, [], ◌∷◌, ◌++◌, length, slice_index, Option, Some, None, refl, sym, ap, ◌∙◌, subst, arith, inl, inr}
use Rattle.std.specs.Prelude.{nat_le, pos}
use Rattle.std.proofs.lemmas.Bool.{true≢false, and_parts, or_cases, eqb-true, leb-true, not-true}
use Rattle.dw_base.specs.AbbreviationBytes.{abbreviations_at}
use Rattle.dw_base.specs.AbbreviationTables.{abbreviation_of, IsTable, SpellsAbbreviation, SpellsPair, SpellsSpecs, more_specs, by_form}
use Rattle.dw_base.specs.Cells.{Cell, bytes_of, plain_cells}
use Rattle.dw_base.specs.Forms.{ValueKind, number_of, leb_number, signed_leb, block_of, counted, counted_leb, inline_text, text_offset, present, in_abbreviation, form_in_front, supplementary, unlisted, kind_in}
use Rattle.dw_base.specs.Lebs.{uleb_at}
use Rattle.dw_base.specs.Pieces.{Piece, Chain}
use Rattle.dw_base.specs.UnitHeaders.{UnitBase, is_split_type}
use Rattle.dw_base.specs.UnitPieces.{IsHeader, may_stand, IsCode, IsValue, FitsKind, FitsMode, EndsSection, unit_grammar}
use Rattle.dw_base.specs.UnitStates.{Mode, at_header, at_code, at_values, at_chosen, stuck, UnitState, code_value, past, piece_header}
use Rattle.dw_base.specs.Values.{value_of}
use Rattle.dw_base.specs.declared.dwarf_numbers.TheConstants.{DW_FORM_implicit_const}
use Rattle.dw_base.specs.declared.units.UnitHeader.{UnitHeader}
use Rattle.dw_base.specs.declared.values.Spec.{Spec}
use Rattle.dw_base.specs.declared.values.Value.{Value}
use Rattle.dw_meaning.proofs.PlainTests.{passes, passes-true}

-- the tests of a header that was found, or not
abbrev pub header_rules : UnitState → List Cell → UnitHeader → List Bool
header_rules s p h =
    (s.place + length p == h.first) ∷ not (is_split_type h.kind) ∷ nat_le h.end s.whole ∷ (h.abbrevs == 0) ∷ not h.elsewhere ∷ []

abbrev pub header_test : UnitState → List Cell → Option UnitHeader → Bool
header_test s p None = false
header_test s p (Some h) = passes (header_rules s p h)

header-sound : (base : UnitBase) (s : UnitState) (p : List Cell) → IsTable base.abbrevs.bytes 0 (abbreviations_at base.abbrevs.bytes 0)
    → header_test s p (piece_header base s p) ≡ true → IsHeader base s p
header-sound base s p table test = by_found (piece_header base s p) refl test
  where
    by_found : (o : Option UnitHeader) → piece_header base s p ≡ o → header_test s p o ≡ true → IsHeader base s p
    by_found None e h = absurd (true≢false (sym h))
    by_found (Some found) e h =
        let t = passes-true (header_rules s p found) h in
        let first : found.abbrevs ≡ 0 = eqb-true _ _ t.1.1.1.0 in
        record {
          header = found;
          is = e;
          size = eqb-true _ _ t.0;
          own = not-true _ t.1.0;
          within = leb-true _ _ t.1.1.0;
          table = record {
            here = not-true _ t.1.1.1.1.0;
            is = subst (λ (n : ℕ). IsTable base.abbrevs.bytes n (abbreviations_at base.abbrevs.bytes n)) (sym first) table;
          };
        }

-- what was read is this value, in so many bytes
abbrev pub read_is : Option (ℕ × ℕ) → ℕ → ℕ → Bool
read_is None value size = false
read_is (Some v) value size = v.0 == value && v.1 == size

read-sound : (o : Option (ℕ × ℕ)) (value size : ℕ) → read_is o value size ≡ true → o ≡ Some (value, size)
read-sound None value size h = absurd (true≢false (sym h))
read-sound (Some v) value size h =
    let p = and_parts (v.0 == value) (v.1 == size) h in
    ap (λ (n : ℕ). Some (n, v.1)) (eqb-true _ _ p.0) ∙ ap (λ (n : ℕ). Some (value, n)) (eqb-true _ _ p.1)

-- the tests of a code
abbrev pub code_rules : UnitState → List Cell → List Bool
code_rules s p =
    read_is (uleb_at (bytes_of p) 0) (code_value p) (length p) ∷ nat_le (s.place + length p) s.header.end
    ∷ (code_value p == 0 || may_stand s.entry (abbreviation_of s.table (code_value p))) ∷ []

listed-sound : (n : ℕ) (found : Bool) → (n == 0 || found) ≡ true → n ≢ 0 → found ≡ true
listed-sound n found h other =
    elim (or_cases (n == 0) found h) [ inl none ↦ absurd (other (eqb-true n 0 none)) | inr there ↦ there ]

code-sound : (s : UnitState) (p : List Cell) → passes (code_rules s p) ≡ true → IsCode s p
code-sound s p h =
    let t = passes-true (code_rules s p) h in
    record { spells = read-sound _ _ _ t.0; before = leb-true _ _ t.1.0; listed = listed-sound _ _ t.1.1.0 }

-- the tests of a value of a kind
abbrev pub size_is : Option Value → ℕ → Bool
size_is None n = false
size_is (Some v) n = v.size == n

abbrev pub value_test : UnitState → Spec → ValueKind → List Cell → Bool
value_test s x k p = size_is (value_of k s.header.params.order (bytes_of p) 0 x.implicit) (length p) && nat_le (s.place + length p) s.header.end

value-sound : (s : UnitState) (x : Spec) (k : ValueKind) (p : List Cell) → value_test s x k p ≡ true → IsValue s x k p
value-sound s x k p h =
    let t = and_parts (size_is (value_of k s.header.params.order (bytes_of p) 0 x.implicit) (length p)) (nat_le (s.place + length p) s.header.end) h in
    by_value (value_of k s.header.params.order (bytes_of p) 0 x.implicit) refl t.0 t.1
  where
    by_value : (o : Option Value) → value_of k s.header.params.order (bytes_of p) 0 x.implicit ≡ o → size_is o (length p) ≡ true
        → nat_le (s.place + length p) s.header.end ≡ true → IsValue s x k p
    by_value None e size before = absurd (true≢false (sym size))
    by_value (Some v) e size before = record { value = v; is = e; size = eqb-true _ _ size; before = leb-true _ _ before }

abbrev pub kind_test : ValueKind → UnitState → Spec → List Cell → Bool
kind_test form_in_front s x p = false
kind_test k s x p = value_test s x k p

kind-sound : (k : ValueKind) (s : UnitState) (x : Spec) (p : List Cell) → kind_test k s x p ≡ true → FitsKind k s x p
kind-sound (number_of class n) s x p h = value-sound s x (number_of class n) p h
kind-sound (leb_number class) s x p h = value-sound s x (leb_number class) p h
kind-sound signed_leb s x p h = value-sound s x signed_leb p h
kind-sound (block_of n) s x p h = value-sound s x (block_of n) p h
kind-sound (counted n) s x p h = value-sound s x (counted n) p h
kind-sound counted_leb s x p h = value-sound s x counted_leb p h
kind-sound inline_text s x p h = value-sound s x inline_text p h
kind-sound (text_offset table n) s x p h = value-sound s x (text_offset table n) p h
kind-sound present s x p h = value-sound s x present p h
kind-sound in_abbreviation s x p h = value-sound s x in_abbreviation p h
kind-sound form_in_front s x p h = absurd (true≢false (sym h))
kind-sound supplementary s x p h = value-sound s x supplementary p h
kind-sound unlisted s x p h = value-sound s x unlisted p h

-- the cells fit a mode
abbrev pub fits_test : Mode → UnitBase → UnitState → List Cell → Bool
fits_test at_header base s p = header_test s p (piece_header base s p)
fits_test at_code base s p = passes (code_rules s p)
fits_test (at_values number tag []) base s p = false
fits_test (at_values number tag (x ∷ xs)) base s p = kind_test (kind_in s.header.params x.form) s x p
fits_test (at_chosen number tag start x xs) base s p = false
fits_test stuck base s p = false

fits-sound : (mode : Mode) (base : UnitBase) (s : UnitState) (p : List Cell) → IsTable base.abbrevs.bytes 0 (abbreviations_at base.abbrevs.bytes 0)
    → fits_test mode base s p ≡ true → FitsMode mode base s p
fits-sound at_header base s p table h = header-sound base s p table h
fits-sound at_code base s p table h = code-sound s p h
fits-sound (at_values number tag []) base s p table h = absurd (true≢false (sym h))
fits-sound (at_values number tag (x ∷ xs)) base s p table h = kind-sound (kind_in s.header.params x.form) s x p h
fits-sound (at_chosen number tag start x xs) base s p table h = absurd (true≢false (sym h))
fits-sound stuck base s p table h = absurd (true≢false (sym h))

-- the section may end
abbrev pub may_end : Mode → UnitState → Bool
may_end at_header s = s.place == s.whole
may_end m s = false

end-sound : (mode : Mode) (s : UnitState) → s.mode ≡ mode → may_end mode s ≡ true → EndsSection s
end-sound at_header s e h = record { mode = e; place = eqb-true _ _ h }
end-sound at_code s e h = absurd (true≢false (sym h))
end-sound (at_values number tag specs) s e h = absurd (true≢false (sym h))
end-sound (at_chosen number tag start x xs) s e h = absurd (true≢false (sym h))
end-sound stuck s e h = absurd (true≢false (sym h))

-- pieces of these bytes, one after another
abbrev pub pieces_from : UnitBase → UnitState → List (List ℕ) → List (Piece UnitState)
pieces_from base s [] = []
pieces_from base s (p ∷ ps) = record { state = s; cells = plain_cells p } ∷ pieces_from base (past s.mode base s (plain_cells p)) ps

-- the bytes fit one after another
abbrev pub chain_test : UnitBase → UnitState → List (List ℕ) → Bool
chain_test base s [] = may_end s.mode s
chain_test base s (p ∷ ps) = fits_test s.mode base s (plain_cells p) && chain_test base (past s.mode base s (plain_cells p)) ps

pub chain-sound : (base : UnitBase) (s : UnitState) (ps : List (List ℕ)) → IsTable base.abbrevs.bytes 0 (abbreviations_at base.abbrevs.bytes 0)
    → chain_test base s ps ≡ true → Chain (unit_grammar base) s (pieces_from base s ps)
chain-sound base s [] table h = end-sound s.mode s refl h
chain-sound base s (p ∷ ps) table h =
    let t = and_parts (fits_test s.mode base s (plain_cells p)) (chain_test base (past s.mode base s (plain_cells p)) ps) h in
    (refl, fits-sound s.mode base s (plain_cells p) table t.0, chain-sound base (past s.mode base s (plain_cells p)) ps table t.1)

-- a pair of which each number is one byte, and an attribute with such a pair behind others
pub short_pair : (bytes : List ℕ) (at name form : ℕ) → uleb_at bytes at ≡ Some (name, 1) → uleb_at bytes (at + 1) ≡ Some (form, 1)
    → SpellsPair bytes at name form (at + 2)
short_pair bytes at name form n f = record { name_size = 1; form_size = 1; name_spells = n; form_spells = f; behind = omega arith }

pub short_spec : (bytes : List ℕ) (start at name form : ℕ) (specs : List Spec) → SpellsSpecs bytes start specs at → uleb_at bytes at ≡ Some (name, 1)
    → uleb_at bytes (at + 1) ≡ Some (form, 1) → name ≢ 0 → form ≢ 0 → form ≢ DW_FORM_implicit_const
    → SpellsSpecs bytes start (specs ++ record { name = name; form = form; implicit = pos 0 } ∷ []) (at + 2)
short_spec bytes start at name form specs before n f some form_some plain =
    more_specs specs _ at (at + 2) before (by_form name form (at + 2) (short_pair bytes at name form n f) some form_some plain)

-- an abbreviation whose code and tag are one byte each
pub short_abbreviation : (bytes : List ℕ) (at code tag flag last : ℕ) (specs : List Spec) → uleb_at bytes at ≡ Some (code, 1) → code ≢ 0
    → uleb_at bytes (at + 1) ≡ Some (tag, 1) → at + 2 < length bytes → slice_index bytes (at + 2) ≡ flag → flag < 2
    → SpellsSpecs bytes (at + 3) specs last → SpellsPair bytes last 0 0 (last + 2)
    → SpellsAbbreviation bytes at (record { code = code; tag = tag; children = flag == 1; specs = specs }) (last + 2)
short_abbreviation bytes at code tag flag last specs c some t there is small spelled_specs ends =
    let place : at + 1 + 1 ≡ at + 2 = omega arith in
    record {
      flag = flag;
      first = at + 3;
      last = last;
      head = record {
        code_size = 1;
        tag_size = 1;
        code_spells = c;
        declares = some;
        tag_spells = t;
        flag_there = omega (arith, there);
        flag_is = ap (slice_index bytes) place ∙ is;
        behind = omega arith;
      };
      is_flag = small;
      children = refl;
      specs = spelled_specs;
      end = ends;
    }

-- a section that isn't there, and readings of units alone
abbrev pub no_section : CellSection
no_section = record { number = 0; contents = [] }

abbrev pub units_alone : Readings → DataReadings
units_alone rs = record { units = rs; offsets = []; lines = []; macros = []; names = [] }

pub none-offsets : (order : Order) → ReadsOffsets order [] []
none-offsets order = record { chain = record { mode = refl; place = refl }; cells = refl }

pub none-names : (order : Order) → ReadsNames order [] []
none-names order = record { chain = record { mode = refl; place = refl }; cells = refl }
