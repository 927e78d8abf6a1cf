-- The pieces of a generated unit, each from its state to the next: a header, codes, and values.
use Rattle.std.proofs.Common.{◌≡◌, ℕ, ◌+◌, ◌<◌, ◌≤◌, ◌==◌, ◌&&◌, Bool, true, false, List, [], ◌∷◌, ◌++◌, Option, Some, None, refl, sym, ap, ◌∙◌, arith, subst, if◌then◌else◌}
use Rattle.std.proofs.lemmas.Bool.{le-leb, ne_eqb, eq-eqb}
use Rattle.std.proofs.lemmas.List.{length-append}
use Rattle.dw_base.specs.AbbreviationTables.{Abbreviation}
use Rattle.dw_base.specs.Cells.{Cell, bytes_of, field_of, plain_cells}
use Rattle.dw_base.specs.Forms.{form_rows, kind_in}
use Rattle.dw_base.specs.Lebs.{first_reserved, initial_length_at, uleb_at}
use Rattle.dw_base.specs.Numbers.{number_at, number_bytes, spelled}
use Rattle.dw_base.specs.UnitHeaders.{UnitBase, header_of_length, in_info, is_header, unit_header}
use Rattle.dw_base.specs.UnitPieces.{FitsKind, FitsMode}
use Rattle.dw_base.specs.UnitStates.{Mode, UnitState, after_code, after_header, at_code, at_header, at_values, before_unit, between, headed, in_unit, past, piece_header}
use Rattle.dw_base.specs.Values.{value_of}
use Rattle.dw_base.specs.declared.dwarf_numbers.TheConstants.{DW_TAG_compile_unit, DW_TAG_variable}
use Rattle.dw_base.specs.declared.shared.Order.TheVariants.{Little}
use Rattle.dw_base.specs.declared.shared.Width.TheVariants.{W32}
use Rattle.dw_base.specs.declared.units.UnitHeader.{UnitHeader}
use Rattle.dw_base.specs.declared.values.Spec.{Spec}
use Rattle.dw_base.specs.declared.values.ValueClass.TheVariants.{SecOffset, StrOffset}
use Rattle.dw_base.proofs.ContributionBackLaws.{StandsAt}
use Rattle.dw_base.proofs.NumberLaws.{length-number_bytes}
use Rattle.dw_base.proofs.PlainCellLaws.{bytes_of-plain}
use Rattle.dw_meaning.proofs.LineHeaderLaws.{written-length}
use Rattle.dbg_gen.specs.GeneratedUnits.{abbreviations}
use Rattle.gen_laws.proofs.AbbreviationReadLaws.{directory_spec, lines_spec, name_spec, table, table-found, table-reads}

-- what the units are read by
abbrev pub generated_base : UnitBase
generated_base = record { order = Little; abbrevs = record { number = 2; bytes = abbreviations } }

-- the header of a unit that starts at a place and has so many bytes behind its length
abbrev pub header_of : ℕ → ℕ → UnitHeader
header_of start n = record {
  section = 1;
  start = start;
  end = start + (4 + n);
  params = record { order = Little; width = W32; version = 4; address = 8 };
  kind = 1;
  abbrevs = 0;
  elsewhere = false;
  signature = 0;
  type_offset = 0;
  first = start + 11 + 0;
}

-- before a unit of a number at a place of a section of so many bytes, and in such a unit
abbrev pub before : ℕ → ℕ → ℕ → UnitState
before whole unit place = before_unit 1 in_info whole place unit

abbrev pub within : ℕ → ℕ → ℕ → ℕ → ℕ → ℕ → ℕ → Mode → UnitState
within whole unit start n place entry depth mode = record {
  section = 1;
  kind = in_info;
  whole = whole;
  place = place;
  unit = unit;
  header = header_of start n;
  table = table;
  entry = entry;
  depth = depth;
  mode = mode;
}

-- cells fit a state, and lead to another
pub record Steps (s : UnitState) (p : List Cell) (t : UnitState) : Type 0 where
  pub fits : FitsMode s.mode generated_base s p
  pub next : past s.mode generated_base s p ≡ t

-- a header
abbrev pub header_bytes : ℕ → List ℕ
header_bytes n = number_bytes Little 4 n ++ (4 ∷ 0 ∷ 0 ∷ 0 ∷ 0 ∷ 0 ∷ 8 ∷ [])

if-so : (t : Bool) (h : UnitHeader) → t ≡ true → (if t then Some h else None) ≡ Some h
if-so true h e = refl
if-so false h e = cc

header-test : (start n : ℕ) → 7 ≤ n → is_header in_info (plain_cells (header_bytes n)) (header_of start n) ≡ true
header-test start n some =
    rw (le-leb (start + 11 + 0) (start + 11) (omega arith), le-leb (start + 11 + 0) (start + (4 + n)) (omega arith)) refl

length-found : (n : ℕ) → n < first_reserved → initial_length_at Little (bytes_of (plain_cells (header_bytes n))) 0 ≡ Some (W32, n, 4)
length-found n small =
    let size = length-number_bytes Little 4 n in
    let both = length-append (number_bytes Little 4 n) (4 ∷ 0 ∷ 0 ∷ 0 ∷ 0 ∷ 0 ∷ 8 ∷ []) in
    let stands : StandsAt (header_bytes n) (number_bytes Little 4 n) 0 = record {
      behind = 4 ∷ 0 ∷ 0 ∷ 0 ∷ 0 ∷ 0 ∷ 8 ∷ [];
      is = refl;
      inside = omega arith;
    } in
    ap (λ (bs : List ℕ). initial_length_at Little bs 0) (bytes_of-plain (header_bytes n)) ∙ written-length Little (header_bytes n) W32 n 0 stands small

pub header-found : (whole unit start n : ℕ) → n < first_reserved → 7 ≤ n → piece_header generated_base (before whole unit start) (plain_cells (header_bytes n)) ≡ Some (header_of start n)
unfolding unit_header spelled field_of
header-found whole unit start n small some =
    ap (header_of_length generated_base in_info 1 start (plain_cells (header_bytes n))) (length-found n small)
    ∙ if-so (is_header in_info (plain_cells (header_bytes n)) (header_of start n)) (header_of start n) (header-test start n some)

-- inside a unit, between entries
between-inside : (whole unit start n place entry depth : ℕ) → place < start + (4 + n)
    → between (within whole unit start n place entry depth at_header) place entry depth ≡ within whole unit start n place entry depth at_code
unfolding between
between-inside whole unit start n place entry depth lt = rw (ne_eqb place (start + (4 + n)) (λ e. omega (arith, e))) refl

between-any : (s : UnitState) (place entry depth : ℕ) → (place == s.header.end) ≡ false → between s place entry depth ≡ in_unit s place entry depth at_code
unfolding between
between-any s place entry depth e = rw e refl

header-past : (whole unit start n place : ℕ) → place < start + (4 + n)
    → between (headed generated_base (before whole unit start) (header_of start n)) place 0 0 ≡ within whole unit start n place 0 0 at_code
header-past whole unit start n place lt =
    between-any (headed generated_base (before whole unit start) (header_of start n)) place 0 0 (ne_eqb place (start + (4 + n)) (λ e. omega (arith, e)))
    ∙ ap (λ (t : List Abbreviation). record (within whole unit start n place 0 0 at_code) { table = t }) table-found

pub header-step : (whole unit start n : ℕ) → n < first_reserved → 7 < n → start + (4 + n) ≤ whole
    → Steps (before whole unit start) (plain_cells (header_bytes n)) (within whole unit start n (start + 11) 0 0 at_code)
header-step whole unit start n small some inside = record {
  fits = record {
    header = header_of start n;
    is = header-found whole unit start n small (omega arith);
    size = omega arith;
    own = refl;
    within = inside;
    table = record { here = refl; is = table-reads };
  };
  next =
      ap (λ (o : Option UnitHeader). after_header generated_base (before whole unit start) (start + 11) o) (header-found whole unit start n small (omega arith))
      ∙ header-past whole unit start n (start + 11) (omega arith);
}

-- a code
and-false : (t : Bool) → (t && false) ≡ false
and-false true = refl
and-false false = refl

pub unit-code : (whole unit start n place : ℕ) → place + 1 ≤ start + (4 + n)
    → Steps (within whole unit start n place 0 0 at_code) (plain_cells (1 ∷ []))
    (within whole unit start n (place + 1) 1 1 (at_values 0 DW_TAG_compile_unit (name_spec ∷ directory_spec ∷ lines_spec ∷ [])))
unfolding uleb_at after_code
unit-code whole unit start n place inside = record {
  fits = record { spells = refl; before = inside; listed = λ some. refl };
  next = refl;
}

pub variable-code : (whole unit start n place entry : ℕ) → place + 1 ≤ start + (4 + n)
    → Steps (within whole unit start n place entry 1 at_code) (plain_cells (2 ∷ []))
    (within whole unit start n (place + 1) (entry + 1) 1 (at_values entry DW_TAG_variable (name_spec ∷ [])))
unfolding uleb_at after_code
variable-code whole unit start n place entry inside = record {
  fits = record { spells = refl; before = inside; listed = λ some. rw (and-false (entry == 0)) refl };
  next = refl;
}

-- the last code ends the list of children, and with it the unit
pub end-code : (whole unit start n place entry : ℕ) → place + 1 ≡ start + (4 + n)
    → Steps (within whole unit start n place entry 1 at_code) (plain_cells (0 ∷ [])) (before whole (unit + 1) (place + 1))
unfolding uleb_at after_code between
end-code whole unit start n place entry ends = record {
  fits = record { spells = refl; before = omega (arith, ends); listed = λ some. absurd (some refl) };
  next = rw (eq-eqb (place + 1) (start + (4 + n)) ends) refl;
}

-- a value: an offset of a text, or one of a line table, of four bytes
pub text-value : (whole unit start n place entry depth number tag x : ℕ) (spec : Spec) (specs : List Spec) → spec.form ≡ 14 → place + 4 ≤ start + (4 + n)
    → FitsMode (at_values number tag (spec ∷ specs)) generated_base (within whole unit start n place entry depth (at_values number tag (spec ∷ specs))) (plain_cells (number_bytes Little 4 x))
unfolding kind_in form_rows value_of number_at
text-value whole unit start n place entry depth number tag x spec specs form inside =
    subst (λ (f : ℕ). FitsKind (kind_in (header_of start n).params f) (within whole unit start n place entry depth (at_values number tag (spec ∷ specs))) spec (plain_cells (number_bytes Little 4 x)))
    (sym form)
    (record {
      value = record { class = StrOffset; number = spelled Little (bytes_of (plain_cells (number_bytes Little 4 x))) 0 4; at = 0; len = 4; size = 4 };
      is = refl;
      size = refl;
      before = inside;
    })

pub name-step : (whole unit start n place entry depth number tag x : ℕ) (spec next : Spec) (specs : List Spec) → spec.form ≡ 14 → place + 4 ≤ start + (4 + n)
    → Steps (within whole unit start n place entry depth (at_values number tag (spec ∷ next ∷ specs))) (plain_cells (number_bytes Little 4 x))
    (within whole unit start n (place + 4) entry depth (at_values number tag (next ∷ specs)))
unfolding kind_in form_rows
name-step whole unit start n place entry depth number tag x spec next specs form inside = record {
  fits = text-value whole unit start n place entry depth number tag x spec (next ∷ specs) form inside;
  next = rw form refl;
}

pub last-name-step : (whole unit start n place entry depth number tag x : ℕ) → place + 4 < start + (4 + n)
    → Steps (within whole unit start n place entry depth (at_values number tag (name_spec ∷ []))) (plain_cells (number_bytes Little 4 x))
    (within whole unit start n (place + 4) entry depth at_code)
unfolding kind_in form_rows between
last-name-step whole unit start n place entry depth number tag x inside = record {
  fits = text-value whole unit start n place entry depth number tag x name_spec [] refl (omega arith);
  next = rw (ne_eqb (place + 4) (start + (4 + n)) (λ e. omega (arith, e))) refl;
}

pub lines-step : (whole unit start n place entry depth number tag x : ℕ) → place + 4 < start + (4 + n)
    → Steps (within whole unit start n place entry depth (at_values number tag (lines_spec ∷ []))) (plain_cells (number_bytes Little 4 x))
    (within whole unit start n (place + 4) entry depth at_code)
unfolding kind_in form_rows between value_of number_at
lines-step whole unit start n place entry depth number tag x inside = record {
  fits = record {
    value = record { class = SecOffset; number = spelled Little (bytes_of (plain_cells (number_bytes Little 4 x))) 0 4; at = 0; len = 4; size = 4 };
    is = refl;
    size = refl;
    before = omega arith;
  };
  next = rw (ne_eqb (place + 4) (start + (4 + n)) (λ e. omega (arith, e))) refl;
}
