-- What is read of a generated file: its units as pieces, its line tables, and no string offsets, macro units or name tables. No value of its
-- units names a text by index, and each that is to say where a line table starts has a form that can.
use Rattle.std.proofs.Common.{◌≡◌, ℕ, ◌+◌, List, [], ◌∷◌, ◌++◌, refl, ap, ◌∙◌, arith}
use Rattle.std.proofs.lemmas.Bool.{ne_eqb}
use Rattle.std.proofs.lemmas.List.{append-nil}
use Rattle.dw_base.specs.DebugData.{DataReadings, Lasting}
use Rattle.dw_base.specs.Forms.{form_rows, kind_in}
use Rattle.dw_base.specs.Pieces.{EachPiece, Piece}
use Rattle.dw_base.specs.Roles.{role_of}
use Rattle.dw_base.specs.TableStarts.{HasStartForm, NamesMacro}
use Rattle.dw_base.specs.TextChanges.{InlineFits}
use Rattle.dw_base.specs.Paths.{PathMap}
use Rattle.dw_base.specs.TextIndexes.{IndexUse, uses_by, uses_in}
use Rattle.dw_base.specs.UnitStates.{UnitState}
use Rattle.dw_base.specs.declared.shared.Order.{Order}
use Rattle.gen_laws.proofs.LineSectionReadLaws.{readings_of}
use Rattle.gen_laws.proofs.UnitEachLaws.{each-piece}
use Rattle.gen_laws.proofs.UnitReadLaws.{all_pieces, section_pieces}

-- what is read
abbrev pub generated_readings : List (List ℕ) → List ℕ → ℕ → DataReadings
generated_readings texts counts units = record {
  units = record { number = 1; pieces = section_pieces texts counts units } ∷ [];
  offsets = [];
  lines = readings_of 4 counts units;
  macros = [];
  names = [];
}

-- forms of values that say where a line table starts
pub units-formed : (whole : ℕ) (texts : List (List ℕ)) (counts : List ℕ) (units : ℕ) → EachPiece HasStartForm (all_pieces whole texts counts units)
unfolding kind_in form_rows
units-formed whole texts counts units =
    each-piece HasStartForm whole texts counts units units
    (record {
      header = λ unit start n. refl;
      code = λ unit start n place entry depth code. refl;
      name = λ unit start n place lt. refl;
      directory_value = λ unit start n place lt. refl;
      lines = λ unit start n place lt. refl;
      variable = λ unit start n place i lt below. rw (ne_eqb (1 + i) 0 (λ e. omega (arith, e))) refl;
    }) (omega arith)

-- no value says where a macro unit starts
pub units-macros : (g : Lasting) (whole : ℕ) (texts : List (List ℕ)) (counts : List ℕ) (units : ℕ) → EachPiece (NamesMacro g) (all_pieces whole texts counts units)
unfolding kind_in form_rows
units-macros g whole texts counts units =
    each-piece (NamesMacro g) whole texts counts units units
    (record {
      header = λ unit start n. tt;
      code = λ unit start n place entry depth code. tt;
      name = λ unit start n place lt. tt;
      directory_value = λ unit start n place lt. tt;
      lines = λ unit start n place lt. tt;
      variable = λ unit start n place i lt below. tt;
    }) (omega arith)

-- no path stands in its value
pub units-inline : (m : PathMap) (whole : ℕ) (texts : List (List ℕ)) (counts : List ℕ) (units : ℕ) → EachPiece (InlineFits m) (all_pieces whole texts counts units)
unfolding role_of kind_in form_rows
units-inline m whole texts counts units =
    each-piece (InlineFits m) whole texts counts units units
    (record {
      header = λ unit start n. tt;
      code = λ unit start n place entry depth code. tt;
      name = λ unit start n place lt. tt;
      directory_value = λ unit start n place lt. tt;
      lines = λ unit start n place lt. tt;
      variable = λ unit start n place i lt below. tt;
    }) (omega arith)

-- no value names a text by index
abbrev NoUse : Order → Piece UnitState → Type 0
NoUse order x = uses_by x.state.mode order x.state x.cells ≡ []

units-unused : (order : Order) (whole : ℕ) (texts : List (List ℕ)) (counts : List ℕ) (units : ℕ) → EachPiece (NoUse order) (all_pieces whole texts counts units)
unfolding kind_in form_rows
units-unused order whole texts counts units =
    each-piece (NoUse order) whole texts counts units units
    (record {
      header = λ unit start n. refl;
      code = λ unit start n place entry depth code. refl;
      name = λ unit start n place lt. refl;
      directory_value = λ unit start n place lt. refl;
      lines = λ unit start n place lt. refl;
      variable = λ unit start n place i lt below. refl;
    }) (omega arith)

none-used : (order : Order) (xs : List (Piece UnitState)) → EachPiece (NoUse order) xs → uses_in order xs ≡ []
none-used order [] none = refl
none-used order (x ∷ xs) none = ap (λ (us : List IndexUse). us ++ uses_in order xs) none.0 ∙ none-used order xs none.1

pub units-uses : (order : Order) (whole : ℕ) (texts : List (List ℕ)) (counts : List ℕ) (units : ℕ) → uses_in order (all_pieces whole texts counts units) ++ [] ≡ []
units-uses order whole texts counts units =
    append-nil (uses_in order (all_pieces whole texts counts units)) ∙ none-used order (all_pieces whole texts counts units) (units-unused order whole texts counts units)
