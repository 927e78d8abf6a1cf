-- The pieces of the units of a generated file, one unit after another: they lead from its start to its end, and their cells are its bytes.
use Rattle.std.proofs.Common.{◌≡◌, ℕ, zero, suc, ◌+◌, ◌*◌, ◌<◌, ◌≤◌, List, [], ◌∷◌, ◌++◌, length, refl, sym, ap, ◌∙◌, arith, subst}
use Rattle.std.proofs.lemmas.List.{append_assoc, append-nil, length-append}
use Rattle.dw_base.specs.Cells.{Cell, plain_cells}
use Rattle.dw_base.specs.Lebs.{first_reserved}
use Rattle.dw_base.specs.Numbers.{number_bytes}
use Rattle.dw_base.specs.Pieces.{Grammar, Leads, Piece, joined}
use Rattle.dw_base.specs.StringTables.{place_in}
use Rattle.dw_base.specs.UnitPieces.{unit_grammar}
use Rattle.dw_base.specs.UnitStates.{UnitState, at_code, at_values}
use Rattle.dw_base.specs.declared.dwarf_numbers.TheConstants.{DW_TAG_compile_unit, DW_TAG_variable}
use Rattle.dw_base.specs.declared.shared.Order.TheVariants.{Little}
use Rattle.dw_base.proofs.NumberLaws.{length-number_bytes}
use Rattle.dw_base.proofs.PlainCellLaws.{plain_cells-append}
use Rattle.dw_meaning.proofs.PieceLaws.{joined-append, leads-more}
use Rattle.dbg_gen.specs.GeneratedTexts.{chained, directory, unit_name, variable_name}
use Rattle.dbg_gen.specs.GeneratedUnits.{text_offset, unit_bytes, unit_entries, unit_entry, unit_with, variable_entry}
use Rattle.gen_laws.proofs.AbbreviationReadLaws.{directory_spec, lines_spec, name_spec}
use Rattle.dbg_gen.proofs.SizeLaws.{length-unit_entry, length-unit_with}
use Rattle.gen_laws.proofs.UnitPieceLaws.{Steps, before, end-code, generated_base, header-step, header_bytes, last-name-step, lines-step, name-step, unit-code, variable-code, within}

abbrev grammar : Grammar
grammar = unit_grammar generated_base

abbrev pub piece : UnitState → List ℕ → Piece UnitState
piece s bytes = record { state = s; cells = plain_cells bytes }

-- pieces lead from one state to another
pub record Lead (s : UnitState) (xs : List (Piece UnitState)) (t : UnitState) : Type 0 where
  pub leads : Leads grammar s xs t

-- one piece, one more in front of others, and pieces behind others
lead-one : (s t : UnitState) (bytes : List ℕ) → Steps s (plain_cells bytes) t → Lead s (piece s bytes ∷ []) t
lead-one s t bytes st = record { leads = (refl, st.fits, st.next) }

lead-front : (s t u : UnitState) (bytes : List ℕ) (xs : List (Piece UnitState)) → Steps s (plain_cells bytes) t → Lead t xs u → Lead s (piece s bytes ∷ xs) u
lead-front s t u bytes xs st rest = record { leads = leads-more grammar s t u (piece s bytes ∷ []) xs (lead-one s t bytes st).leads rest.leads }

pub lead-more : (s t u : UnitState) (xs ys : List (Piece UnitState)) → Lead s xs t → Lead t ys u → Lead s (xs ++ ys) u
lead-more s t u xs ys front rest = record { leads = leads-more grammar s t u xs ys front.leads rest.leads }

-- a unit of so many variables has so many bytes behind its length
abbrev pub size_of : ℕ → ℕ
size_of count = 21 + 5 * count

-- where the code of a variable stands
abbrev pub variable_place : ℕ → ℕ → ℕ
variable_place start i = start + 24 + 5 * i

abbrev pub variable_pieces : ℕ → ℕ → ℕ → ℕ → List (List ℕ) → ℕ → List (Piece UnitState)
variable_pieces whole unit start n texts i =
    piece (within whole unit start n (variable_place start i) (1 + i) 1 at_code) (2 ∷ [])
    ∷ piece (within whole unit start n (variable_place start i + 1) (1 + i + 1) 1 (at_values (1 + i) DW_TAG_variable (name_spec ∷ []))) (text_offset texts (variable_name i))
    ∷ []

variable-leads : (whole unit start n i : ℕ) (texts : List (List ℕ)) → variable_place start i + 5 < start + (4 + n)
    → Lead (within whole unit start n (variable_place start i) (1 + i) 1 at_code) (variable_pieces whole unit start n texts i)
    (within whole unit start n (variable_place start (suc i)) (1 + suc i) 1 at_code)
variable-leads whole unit start n i texts inside =
    let place : variable_place start i + 1 + 4 ≡ variable_place start (suc i) = omega arith in
    let entry : 1 + i + 1 ≡ 1 + suc i = omega arith in
    subst (λ (p : ℕ). Lead (within whole unit start n (variable_place start i) (1 + i) 1 at_code) (variable_pieces whole unit start n texts i) (within whole unit start n p (1 + suc i) 1 at_code)) place
    (subst (λ (e : ℕ). Lead (within whole unit start n (variable_place start i) (1 + i) 1 at_code) (variable_pieces whole unit start n texts i) (within whole unit start n (variable_place start i + 1 + 4) e 1 at_code)) entry
    (lead-front _ _ _ (2 ∷ []) _ (variable-code whole unit start n (variable_place start i) (1 + i) (omega arith))
    (lead-one _ _ (text_offset texts (variable_name i))
    (last-name-step whole unit start n (variable_place start i + 1) (1 + i + 1) 1 (1 + i) DW_TAG_variable (place_in texts (variable_name i)) (omega arith)))))

variables-lead : (whole unit start n count : ℕ) (texts : List (List ℕ)) → variable_place start count < start + (4 + n)
    → Lead (within whole unit start n (variable_place start 0) 1 1 at_code) (chained (variable_pieces whole unit start n texts) count)
    (within whole unit start n (variable_place start count) (1 + count) 1 at_code)
variables-lead whole unit start n zero texts inside = record { leads = refl }
variables-lead whole unit start n (suc count) texts inside =
    lead-more _ _ _ (chained (variable_pieces whole unit start n texts) count) (variable_pieces whole unit start n texts count)
    (variables-lead whole unit start n count texts (omega arith)) (variable-leads whole unit start n count texts (omega arith))

-- the pieces in front of the variables
abbrev pub front_pieces : ℕ → ℕ → ℕ → ℕ → List (List ℕ) → ℕ → List (Piece UnitState)
front_pieces whole unit start n texts lines =
    piece (before whole unit start) (header_bytes n)
    ∷ piece (within whole unit start n (start + 11) 0 0 at_code) (1 ∷ [])
    ∷ piece (within whole unit start n (start + 11 + 1) 1 1 (at_values 0 DW_TAG_compile_unit (name_spec ∷ directory_spec ∷ lines_spec ∷ []))) (text_offset texts (unit_name unit))
    ∷ piece (within whole unit start n (start + 11 + 1 + 4) 1 1 (at_values 0 DW_TAG_compile_unit (directory_spec ∷ lines_spec ∷ []))) (text_offset texts directory)
    ∷ piece (within whole unit start n (start + 11 + 1 + 4 + 4) 1 1 (at_values 0 DW_TAG_compile_unit (lines_spec ∷ []))) (number_bytes Little 4 lines)
    ∷ []

front-leads : (whole unit start n lines : ℕ) (texts : List (List ℕ)) → n < first_reserved → 21 ≤ n → start + (4 + n) ≤ whole
    → Lead (before whole unit start) (front_pieces whole unit start n texts lines) (within whole unit start n (variable_place start 0) 1 1 at_code)
front-leads whole unit start n lines texts small some inside =
    let place : start + 11 + 1 + 4 + 4 + 4 ≡ variable_place start 0 = omega arith in
    subst (λ (p : ℕ). Lead (before whole unit start) (front_pieces whole unit start n texts lines) (within whole unit start n p 1 1 at_code)) place
    (lead-front _ _ _ (header_bytes n) _ (header-step whole unit start n small (omega arith) inside)
    (lead-front _ _ _ (1 ∷ []) _ (unit-code whole unit start n (start + 11) (omega arith))
    (lead-front _ _ _ (text_offset texts (unit_name unit)) _
    (name-step whole unit start n (start + 11 + 1) 1 1 0 DW_TAG_compile_unit (place_in texts (unit_name unit)) name_spec directory_spec (lines_spec ∷ []) refl (omega arith))
    (lead-front _ _ _ (text_offset texts directory) _
    (name-step whole unit start n (start + 11 + 1 + 4) 1 1 0 DW_TAG_compile_unit (place_in texts directory) directory_spec lines_spec [] refl (omega arith))
    (lead-one _ _ (number_bytes Little 4 lines) (lines-step whole unit start n (start + 11 + 1 + 4 + 4) 1 1 0 DW_TAG_compile_unit lines (omega arith)))))))

-- the pieces of a unit with so many variables
abbrev pub end_piece : ℕ → ℕ → ℕ → ℕ → ℕ → Piece UnitState
end_piece whole unit start n count = piece (within whole unit start n (variable_place start count) (1 + count) 1 at_code) (0 ∷ [])

abbrev pub unit_pieces : ℕ → List (List ℕ) → ℕ → ℕ → ℕ → ℕ → List (Piece UnitState)
unit_pieces whole texts start unit count lines =
    front_pieces whole unit start (size_of count) texts lines
    ++ (chained (variable_pieces whole unit start (size_of count) texts) count ++ end_piece whole unit start (size_of count) count ∷ [])

pub unit-leads : (whole start unit count lines : ℕ) (texts : List (List ℕ)) → count ≤ 16 → start + (4 + size_of count) ≤ whole
    → Lead (before whole unit start) (unit_pieces whole texts start unit count lines) (before whole (unit + 1) (start + (4 + size_of count)))
unit-leads whole start unit count lines texts few inside =
    let n = size_of count in
    let place : variable_place start count + 1 ≡ start + (4 + size_of count) = omega arith in
    lead-more _ _ _ (front_pieces whole unit start n texts lines) _
    (front-leads whole unit start n lines texts (omega arith) (omega arith) inside)
    (lead-more _ _ _ (chained (variable_pieces whole unit start n texts) count) (end_piece whole unit start n count ∷ [])
    (variables-lead whole unit start n count texts (omega arith))
    (subst (λ (p : ℕ). Lead (within whole unit start n (variable_place start count) (1 + count) 1 at_code) (end_piece whole unit start n count ∷ []) (before whole (unit + 1) p)) place
    (lead-one _ _ (0 ∷ []) (end-code whole unit start n (variable_place start count) (1 + count) place))))

-- the cells of the pieces are the bytes
plain-five : (a b c d e : List ℕ) → plain_cells a ++ (plain_cells b ++ (plain_cells c ++ (plain_cells d ++ (plain_cells e ++ [])))) ≡ plain_cells (a ++ (b ++ (c ++ (d ++ e))))
plain-five a b c d e =
    ap (λ (xs : List Cell). plain_cells a ++ (plain_cells b ++ (plain_cells c ++ (plain_cells d ++ xs)))) (append-nil (plain_cells e))
    ∙ ap (λ (xs : List Cell). plain_cells a ++ (plain_cells b ++ (plain_cells c ++ xs))) (sym (plain_cells-append d e))
    ∙ ap (λ (xs : List Cell). plain_cells a ++ (plain_cells b ++ xs)) (sym (plain_cells-append c (d ++ e)))
    ∙ ap (λ (xs : List Cell). plain_cells a ++ xs) (sym (plain_cells-append b (c ++ (d ++ e))))
    ∙ sym (plain_cells-append a (b ++ (c ++ (d ++ e))))

variable-cells : (whole unit start n i : ℕ) (texts : List (List ℕ)) → joined (variable_pieces whole unit start n texts i) ≡ plain_cells (variable_entry texts i)
variable-cells whole unit start n i texts = ap (λ (xs : List Cell). plain_cells (2 ∷ []) ++ xs) (append-nil (plain_cells (text_offset texts (variable_name i))))

variables-cells : (whole unit start n count : ℕ) (texts : List (List ℕ))
    → joined (chained (variable_pieces whole unit start n texts) count) ≡ plain_cells (chained (variable_entry texts) count)
variables-cells whole unit start n zero texts = refl
variables-cells whole unit start n (suc count) texts =
    joined-append (chained (variable_pieces whole unit start n texts) count) (variable_pieces whole unit start n texts count)
    ∙ ap (λ (xs : List Cell). xs ++ joined (variable_pieces whole unit start n texts count)) (variables-cells whole unit start n count texts)
    ∙ ap (λ (xs : List Cell). plain_cells (chained (variable_entry texts) count) ++ xs) (variable-cells whole unit start n count texts)
    ∙ sym (plain_cells-append (chained (variable_entry texts) count) (variable_entry texts count))

-- how long they are
length-chained-is : (f : ℕ → List ℕ) (k n : ℕ) → ((u : ℕ) → length (f u) ≡ k) → length (chained f n) ≡ k * n
length-chained-is f k zero each = omega arith
length-chained-is f k (suc n) each =
    let front = length-chained-is f k n each in
    let last = each n in
    let both = length-append (chained f n) (f n) in
    grind arith

length-variable_entry : (texts : List (List ℕ)) (i : ℕ) → length (variable_entry texts i) ≡ 5
length-variable_entry texts i = omega (arith, length-number_bytes Little 4 (place_in texts (variable_name i)))

pub length-entries : (texts : List (List ℕ)) (unit count lines : ℕ) → 7 + length (unit_entries texts unit count lines) ≡ size_of count
unfolding unit_entries
length-entries texts unit count lines =
    let front = length-unit_entry texts unit lines in
    let variables = length-chained-is (variable_entry texts) 5 count (length-variable_entry texts) in
    let behind = length-append (chained (variable_entry texts) count) (0 ∷ []) in
    omega (arith, length-append (unit_entry texts unit lines) (chained (variable_entry texts) count ++ 0 ∷ []))

pub length-unit_bytes : (texts : List (List ℕ)) (unit count lines : ℕ) → length (unit_bytes texts unit count lines) ≡ 4 + size_of count
length-unit_bytes texts unit count lines =
    let one = length-unit_with (unit_entries texts unit count lines) in
    let entries = length-entries texts unit count lines in
    omega arith

regroup : (l k e r : List ℕ) → ((l ++ k) ++ e) ++ r ≡ l ++ (k ++ (e ++ r))
regroup l k e r = append_assoc (l ++ k) e r ∙ append_assoc l k (e ++ r)

pub unit-cells : (whole start unit count lines : ℕ) (texts : List (List ℕ)) → joined (unit_pieces whole texts start unit count lines) ≡ plain_cells (unit_bytes texts unit count lines)
unfolding unit_with unit_entries
unit-cells whole start unit count lines texts =
    let n = size_of count in
    let known : List ℕ = 4 ∷ 0 ∷ 0 ∷ 0 ∷ 0 ∷ 0 ∷ 8 ∷ [] in
    let entry : List ℕ = unit_entry texts unit lines in
    let rest : List ℕ = chained (variable_entry texts) count ++ (0 ∷ []) in
    let front : joined (front_pieces whole unit start n texts lines) ≡ plain_cells (header_bytes n ++ entry) =
    plain-five (header_bytes n) (1 ∷ []) (text_offset texts (unit_name unit)) (text_offset texts directory) (number_bytes Little 4 lines) in
    let last : joined (chained (variable_pieces whole unit start n texts) count ++ end_piece whole unit start n count ∷ []) ≡ plain_cells rest =
    joined-append (chained (variable_pieces whole unit start n texts) count) (end_piece whole unit start n count ∷ [])
    ∙ ap (λ (xs : List Cell). xs ++ plain_cells (0 ∷ [])) (variables-cells whole unit start n count texts)
    ∙ sym (plain_cells-append (chained (variable_entry texts) count) (0 ∷ [])) in
    joined-append (front_pieces whole unit start n texts lines) (chained (variable_pieces whole unit start n texts) count ++ end_piece whole unit start n count ∷ [])
    ∙ ap (λ (xs : List Cell). xs ++ joined (chained (variable_pieces whole unit start n texts) count ++ end_piece whole unit start n count ∷ [])) front
    ∙ ap (λ (xs : List Cell). plain_cells (header_bytes n ++ entry) ++ xs) last
    ∙ sym (plain_cells-append (header_bytes n ++ entry) rest)
    ∙ ap plain_cells (regroup (number_bytes Little 4 n) known entry rest)
    ∙ ap (λ (k : ℕ). plain_cells (number_bytes Little 4 k ++ (known ++ (entry ++ rest)))) (sym (length-entries texts unit count lines))
