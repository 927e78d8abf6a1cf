-- A meaning of one unit compared by hand: with its path mapped it agrees; with another destination, or another name of its variable, unit 0 is
-- the first part that differs, and so it is where a variable lies beside its unit's entry in place of below it; where only the bytes of another
-- section differ, these are.
use Rattle.std.proofs.Common.{Bool, true, false, if◌then◌else◌, ◌≡◌, ℕ, ◌<◌, List, [], ◌∷◌, codes, slice_index, None, refl, ap, sym, ◌∙◌, arith}
use Rattle.dw_base.proofs.TextLaws.{same_text-refl}
use Rattle.dw_base.specs.Forests.{AttributeMeaning, Forest, no_entries, entry}
use Rattle.dw_base.specs.Paths.{PathMap, lies_under, mapped_path, matching}
use Rattle.dw_base.specs.UnitMeanings.{UnitMeaning}
use Rattle.dw_base.specs.ValueMeanings.{ValueMeaning, by_offset, string}
use Rattle.dw_base.specs.ViewData.{bytes_named}
use Rattle.dw_base.specs.declared.dwarf_numbers.TheConstants.{DW_AT_name, DW_TAG_compile_unit, DW_TAG_variable, DW_UT_compile}
use Rattle.dw_base.specs.declared.shared.Width.TheVariants.{W32}
use Rattle.dbg_check.proofs.FirstLaws.{AgreeBelow, agree-next, differs-there, none-below}
use Rattle.dbg_check.proofs.PartLaws.{parts-agree}
use Rattle.dbg_check.specs.Parts.{Compared, IsFirst, PartAgrees, UnitAgrees}
use Rattle.dbg_check.specs.declared.verdict.Part.{Part}
use Rattle.dbg_check.specs.declared.verdict.Part.TheVariants as part

-- a path below the base, and what a map makes of it
abbrev the_map : PathMap
the_map = record { pairs = record { base = codes "/build/p"; dest = codes "/usr/src/debug/p" } ∷ [] }

path-mapped : mapped_path the_map (codes "/build/p/a.c") ≡ codes "/usr/src/debug/p/a.c"
unfolding mapped_path matching lies_under
path-mapped = refl

-- a unit of a path, with what stands below its entry and beside it
abbrev unit_with : List ℕ → Forest → Forest → UnitMeaning
unit_with path children siblings = record {
  section = 4;
  head = record { version = 5; width = W32; address = 8; kind = DW_UT_compile; signature = 0; type_entry = None };
  entries = entry DW_TAG_compile_unit (record { name = DW_AT_name; value = string true by_offset path } ∷ []) children siblings;
}

-- a variable
abbrev variable : List ℕ → Forest
variable name = entry DW_TAG_variable (record { name = DW_AT_name; value = string false by_offset name } ∷ []) no_entries no_entries

-- what is compared of one unit, with the bytes of a section of a name
abbrev compared_with : UnitMeaning → List ℕ → Compared
compared_with u bytes = record {
  meaning = record {
    units = u ∷ [];
    slots = [];
    lines = [];
    macros = [];
    names = [];
    others = bytes_named (record { name = codes ".comment"; bytes = bytes } ∷ []);
  };
  loaded = record { segments = []; images = [] };
}

-- the unit of a file, the same with its path mapped, and three others: with another destination, another variable, and the variable beside its
-- own entry
abbrev old_unit : UnitMeaning
old_unit = unit_with (codes "/build/p/a.c") (variable (codes "x")) no_entries

abbrev new_unit : UnitMeaning
new_unit = unit_with (codes "/usr/src/debug/p/a.c") (variable (codes "x")) no_entries

abbrev elsewhere : UnitMeaning
elsewhere = unit_with (codes "/usr/src/other/p/a.c") (variable (codes "x")) no_entries

abbrev renamed : UnitMeaning
renamed = unit_with (codes "/usr/src/debug/p/a.c") (variable (codes "y")) no_entries

abbrev beside : UnitMeaning
beside = unit_with (codes "/usr/src/debug/p/a.c") no_entries (variable (codes "x"))

agrees : (p : Part) → PartAgrees the_map (compared_with old_unit (7 ∷ [])) (compared_with new_unit (7 ∷ [])) p
unfolding mapped_path matching lies_under
agrees p = parts-agree the_map (compared_with old_unit (7 ∷ [])) (compared_with new_unit (7 ∷ [])) (((tt, tt), ((tt, tt), tt, tt), tt), tt) refl refl p

-- ### Another unit

one-below : (m : PathMap) (u w : UnitMeaning) (x y : List ℕ) → AgreeBelow m (compared_with u x) (compared_with w y) 1
one-below m u w x y = agree-next m (compared_with u x) (compared_with w y) 0 (none-below m (compared_with u x) (compared_with w y)) (λ (n : ℕ). refl)

unit-first : (m : PathMap) (u w : UnitMeaning) (x y : List ℕ) → (UnitAgrees m u w → ⊥) → IsFirst m (compared_with u x) (compared_with w y) (part.Unit 0)
unit-first m u w x y other =
    differs-there m (compared_with u x) (compared_with w y) 1 (omega arith) (one-below m u w x y)
    (record { number = 0; differs = other; before = λ (k : ℕ) (lt : k < 0). absurd (omega (arith, lt)) })

-- the first text, and what lies below the first entry
abbrev text_of : ValueMeaning → List ℕ
text_of (string path form t) = t
text_of v = []

abbrev first_text : List AttributeMeaning → List ℕ
first_text [] = []
first_text (a ∷ rest) = text_of a.value

abbrev text_in : Forest → List ℕ
text_in no_entries = []
text_in (entry tag attributes children siblings) = first_text attributes

abbrev below_first : Forest → Forest
below_first no_entries = no_entries
below_first (entry tag attributes children siblings) = children

another-dest : IsFirst the_map (compared_with old_unit (7 ∷ [])) (compared_with elsewhere (7 ∷ [])) (part.Unit 0)
unfolding mapped_path matching lies_under
another-dest = unit-first the_map old_unit elsewhere (7 ∷ []) (7 ∷ []) (λ (agree : UnitAgrees the_map old_unit elsewhere).
    let other : 100 ≡ 111 = ap (λ (u : UnitMeaning). slice_index (text_in u.entries) 9) agree.1 in absurd (omega (arith, other)))

another-variable : IsFirst the_map (compared_with old_unit (7 ∷ [])) (compared_with renamed (7 ∷ [])) (part.Unit 0)
unfolding mapped_path matching lies_under
another-variable = unit-first the_map old_unit renamed (7 ∷ []) (7 ∷ []) (λ (agree : UnitAgrees the_map old_unit renamed).
    let other : 120 ≡ 121 = ap (λ (u : UnitMeaning). slice_index (text_in (below_first u.entries)) 0) agree.1 in absurd (omega (arith, other)))

another-depth : IsFirst the_map (compared_with old_unit (7 ∷ [])) (compared_with beside (7 ∷ [])) (part.Unit 0)
unfolding mapped_path matching lies_under
another-depth = unit-first the_map old_unit beside (7 ∷ []) (7 ∷ []) (λ (agree : UnitAgrees the_map old_unit beside).
    let other : 120 ≡ 0 = ap (λ (u : UnitMeaning). slice_index (text_in (below_first u.entries)) 0) agree.1 in absurd (omega (arith, other)))

-- ### Another byte of a section that is meant as it stands

abbrev first_byte : List (List ℕ) → ℕ
first_byte [] = 0
first_byte (bytes ∷ rest) = slice_index bytes 0

-- the bytes under the section's name
comment-is : (bytes : List ℕ) → bytes_named (record { name = codes ".comment"; bytes = bytes } ∷ []) (codes ".comment") ≡ bytes ∷ []
comment-is bytes = ap (λ (b : Bool). if b then bytes ∷ [] else []) (same_text-refl (codes ".comment"))

another-byte : IsFirst the_map (compared_with old_unit (7 ∷ [])) (compared_with new_unit (8 ∷ [])) part.Others
another-byte = differs-there the_map x y 8 (omega arith) eight (record { number = 0; differs = differs; before = λ (k : ℕ) (lt : k < 0). absurd (omega (arith, lt)) })
  where
    x : Compared
    x = compared_with old_unit (7 ∷ [])

    y : Compared
    y = compared_with new_unit (8 ∷ [])

    two : AgreeBelow the_map x y 2
    two = agree-next the_map x y 1 (one-below the_map old_unit new_unit (7 ∷ []) (8 ∷ [])) (λ (n : ℕ). agrees (part.Unit n))

    four : AgreeBelow the_map x y 4
    four = agree-next the_map x y 3 (agree-next the_map x y 2 two (λ (n : ℕ). refl)) (λ (n : ℕ). tt)

    six : AgreeBelow the_map x y 6
    six = agree-next the_map x y 5 (agree-next the_map x y 4 four (λ (n : ℕ). refl)) (λ (n : ℕ). tt)

    eight : AgreeBelow the_map x y 8
    eight = agree-next the_map x y 7 (agree-next the_map x y 6 six (λ (n : ℕ). refl)) (λ (n : ℕ). refl)

    differs : PartAgrees the_map x y part.Others → ⊥
    differs each =
        let same : (7 ∷ []) ∷ [] ≡ (8 ∷ []) ∷ [] = sym (comment-is (7 ∷ [])) ∙ each (codes ".comment") ∙ comment-is (8 ∷ []) in
        let other : 7 ≡ 8 = ap first_byte same in
        absurd (omega (arith, other))
