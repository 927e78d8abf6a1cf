-- What holds of each kind of piece of a generated unit holds of all its pieces.
use Rattle.std.proofs.Common.{ℕ, zero, suc, ◌+◌, ◌<◌, ◌≤◌, List, [], ◌∷◌, ◌++◌, length, slice_index, arith}
use Rattle.dw_base.specs.Numbers.{number_bytes}
use Rattle.dw_base.specs.Pieces.{EachPiece, Piece}
use Rattle.dw_base.specs.UnitStates.{UnitState, at_code, at_values}
use Rattle.dw_base.specs.declared.dwarf_numbers.TheConstants.{DW_TAG_compile_unit, DW_TAG_variable}
use Rattle.dw_base.specs.declared.shared.Order.TheVariants.{Little}
use Rattle.dbg_gen.specs.GeneratedLines.{lines_of}
use Rattle.dbg_gen.specs.GeneratedTexts.{chained, directory, unit_name, variable_name}
use Rattle.dbg_gen.specs.GeneratedUnits.{text_offset}
use Rattle.gen_laws.proofs.AbbreviationReadLaws.{directory_spec, lines_spec, name_spec}
use Rattle.gen_laws.proofs.UnitChainLaws.{end_piece, front_pieces, piece, size_of, unit_pieces, variable_pieces}
use Rattle.gen_laws.proofs.UnitPieceLaws.{before, header_bytes, within}
use Rattle.gen_laws.proofs.UnitReadLaws.{all_pieces, pieces_of, unit_start}

-- it holds of a header, of a code, and of a value of each attribute of each of the first units, wherever they stand
pub record OfEachKind (P : Piece UnitState → Type 0) (whole : ℕ) (texts : List (List ℕ)) (counts : List ℕ) (units : ℕ) : Type 0 where
  pub header : (unit start n : ℕ) → P (piece (before whole unit start) (header_bytes n))
  pub code : (unit start n place entry depth code : ℕ) → P (piece (within whole unit start n place entry depth at_code) (code ∷ []))
  pub name : (unit start n place : ℕ) → unit < units
      → P (piece (within whole unit start n place 1 1 (at_values 0 DW_TAG_compile_unit (name_spec ∷ directory_spec ∷ lines_spec ∷ []))) (text_offset texts (unit_name unit)))
  pub directory_value : (unit start n place : ℕ) → unit < units
      → P (piece (within whole unit start n place 1 1 (at_values 0 DW_TAG_compile_unit (directory_spec ∷ lines_spec ∷ []))) (text_offset texts directory))
  pub lines : (unit start n place : ℕ) → unit < units
      → P (piece (within whole unit start n place 1 1 (at_values 0 DW_TAG_compile_unit (lines_spec ∷ []))) (number_bytes Little 4 (length (lines_of counts unit))))
  pub variable : (unit start n place i : ℕ) → unit < units → i < slice_index counts unit
      → P (piece (within whole unit start n place (1 + i + 1) 1 (at_values (1 + i) DW_TAG_variable (name_spec ∷ []))) (text_offset texts (variable_name i)))

each-append : {S : Type 0} (P : Piece S → Type 0) (xs ys : List (Piece S)) → EachPiece P xs → EachPiece P ys → EachPiece P (xs ++ ys)
each-append P [] ys front rest = rest
each-append P (x ∷ xs) ys front rest = (front.0, each-append P xs ys front.1 rest)

each-variable : (P : Piece UnitState → Type 0) (whole : ℕ) (texts : List (List ℕ)) (counts : List ℕ) (units unit start n count : ℕ) → OfEachKind P whole texts counts units
    → unit < units → count ≤ slice_index counts unit → EachPiece P (chained (variable_pieces whole unit start n texts) count)
each-variable P whole texts counts units unit start n zero all lt le = tt
each-variable P whole texts counts units unit start n (suc count) all lt le =
    each-append P (chained (variable_pieces whole unit start n texts) count) (variable_pieces whole unit start n texts count)
    (each-variable P whole texts counts units unit start n count all lt (omega arith)) (all.code unit start n _ (1 + count) 1 2, (all.variable unit start n _ count lt (omega arith), tt))

each-unit : (P : Piece UnitState → Type 0) (whole : ℕ) (texts : List (List ℕ)) (counts : List ℕ) (units start unit : ℕ) → OfEachKind P whole texts counts units → unit < units
    → EachPiece P (unit_pieces whole texts start unit (slice_index counts unit) (length (lines_of counts unit)))
each-unit P whole texts counts units start unit all lt =
    let count = slice_index counts unit in
    each-append P (front_pieces whole unit start (size_of count) texts (length (lines_of counts unit))) _ (
      all.header unit start (size_of count),
      (
        all.code unit start (size_of count) _ 0 0 1,
        (
          all.name unit start (size_of count) _ lt,
          (all.directory_value unit start (size_of count) _ lt, (all.lines unit start (size_of count) _ lt, tt)),
        ),
      ),
    )
    (each-append P (chained (variable_pieces whole unit start (size_of count) texts) count) (end_piece whole unit start (size_of count) count ∷ [])
    (each-variable P whole texts counts units unit start (size_of count) count all lt (omega arith)) (all.code unit start (size_of count) _ (1 + count) 1 0, tt))

pub each-piece : (P : Piece UnitState → Type 0) (whole : ℕ) (texts : List (List ℕ)) (counts : List ℕ) (units k : ℕ) → OfEachKind P whole texts counts units → k ≤ units
    → EachPiece P (all_pieces whole texts counts k)
each-piece P whole texts counts units zero all le = tt
each-piece P whole texts counts units (suc k) all le =
    each-append P (all_pieces whole texts counts k) (pieces_of whole texts counts k) (each-piece P whole texts counts units k all (omega arith))
    (each-unit P whole texts counts units (unit_start texts counts k) k all (omega arith))
