-- What a pass over the string offsets of name tables says is what may stand there.
use Rattle.std.proofs.Common.{◌≡◌, ℕ, List, [], length, Option, Some, None, Result, true, sym, ap, ◌∙◌, subst}
use Rattle.std.specs.Prelude.{is_some}
use Rattle.dw_base.specs.Cells.{bytes_of}
use Rattle.dw_base.specs.DebugSections.{name_of}
use Rattle.dw_base.specs.FileViews.{View, kind_at, section_bytes, section_named, view_cells}
use Rattle.dw_base.specs.NamePieces.{NameState, ReadsNames}
use Rattle.dw_base.specs.NameTables.{AreNameTables, TablesUpTo}
use Rattle.dw_base.specs.Pieces.{Piece}
use Rattle.dw_base.specs.RelocationRows.{FieldPlace, FieldsFail, FieldsRead, moving_sections, name_fields}
use Rattle.dw_base.specs.ViewData.{cells_located, debug_data, located, located_at}
use Rattle.dw_base.specs.declared.debug_sections.DebugSection.TheVariants.{Names}
use Rattle.dw_base.specs.declared.fault.Refusal.{Refusal}
use Rattle.dw_base.specs.declared.name_tables.NameTable.{NameTable}
use Rattle.dw_base.proofs.ViewCellLaws.{bytes_of-view_cells, length-view_cells}
use Rattle.dw_base.proofs.ViewOffsetLaws.{some-named}
use Rattle.dw_meaning.proofs.DataOneLaws.{names-one}
use Rattle.dw_meaning.specs.RelocationFails.{LeftRelocationsFail}
use Rattle.dw_meaning.specs.RelocationFails.LeftRelocationsFail.{names}
use Rattle.dw_relocs.specs.FieldRows.{TablesFrom, tables_fields}
use Rattle.dw_relocs.specs.FieldWalks.{AllRead, Goes, HasNone, OneFails, Walked, ground_of}
use Rattle.dw_relocs.specs.LeftChecks.{NamesHold}
use Rattle.dw_relocs.specs.declared.marks.Marks.{Marks}
use Rattle.dw_relocs.proofs.NameFieldLaws.{NamesAre, tables-are, tables-from}
use Rattle.dw_relocs.proofs.QuietLaws.{empty-none, quiet-reads}
use Rattle.dw_relocs.proofs.SlotFieldLaws.{length-there, small-there, walked-all}

-- the tables of a view in the cells of their section
upto-cells : (v : View) (i : ℕ) (list : List NameTable) → Some i ≡ section_named v (name_of Names) → AreNameTables v list
    → TablesUpTo v i (bytes_of (view_cells v i)) list (length (bytes_of (view_cells v i)))
unfolding located
upto-cells v i list e u =
    subst (λ (bs : List ℕ). TablesUpTo v i bs list (length bs)) (sym (bytes_of-view_cells v i))
    (subst (λ (o : Option ℕ). TablesUpTo v (located_at v o).number (located_at v o).bytes list (length (located_at v o).bytes)) (sym e) u)

pub tables-there : (v : View) (i : ℕ) (list : List NameTable) → Some i ≡ section_named v (name_of Names) → AreNameTables v list
    → TablesFrom (length (section_bytes v i)) list 0 (length (section_bytes v i))
tables-there v i list e u =
    subst (λ (n : ℕ). TablesFrom n list 0 (length (section_bytes v i))) (length-view_cells v i)
    (subst (λ (bs : List ℕ). TablesFrom (length (view_cells v i)) list 0 (length bs)) (bytes_of-view_cells v i)
    (tables-from v i (view_cells v i) list (length (bytes_of (view_cells v i))) (upto-cells v i list e u)))

name_fields-one : (v : View) (i : ℕ) (list : List NameTable) (xs : List (Piece NameState)) → Some i ≡ section_named v (name_of Names) → AreNameTables v list
    → ReadsNames v.order (view_cells v i) xs → name_fields xs ≡ tables_fields list
name_fields-one v i list xs e u reads =
    let are : NamesAre v.order (view_cells v i) (tables_fields list) = tables-are v i (view_cells v i) list (upto-cells v i list e u) in
    ap name_fields (names-one v.order (view_cells v i) xs are.pieces reads are.reads) ∙ are.fields

-- what holds of the section
hold-by : (v : View) (o : Option ℕ) → section_named v (name_of Names) ≡ o
    → ((xs : List (Piece NameState)) → ReadsNames v.order (cells_located v o).contents xs → FieldsRead v.order (cells_located v o).contents (moving_sections v) (name_fields xs))
    → NamesHold (debug_data v) (moving_sections v)
unfolding debug_data
hold-by v o e h = record {
  names = subst (λ (q : Option ℕ). (xs : List (Piece NameState)) → ReadsNames v.order (cells_located v q).contents xs
      → FieldsRead v.order (cells_located v q).contents (moving_sections v) (name_fields xs)) (sym e) h;
}

pub names-none : (v : View) → None ≡ section_named v (name_of Names) → NamesHold (debug_data v) (moving_sections v)
names-none v e = hold-by v None (sym e) (λ xs reads. quiet-reads v.order [] (moving_sections v) (name_fields xs) empty-none)

pub names-quiet : (v : View) (i : ℕ) → Some i ≡ section_named v (name_of Names) → HasNone (view_cells v i) 0 → NamesHold (debug_data v) (moving_sections v)
names-quiet v i e h = hold-by v (Some i) (sym e) (λ xs reads. quiet-reads v.order (view_cells v i) (moving_sections v) (name_fields xs) h)

pub names-hold : (v : View) (i : ℕ) (list : List NameTable) (p q : Result Marks Refusal) → Some i ≡ section_named v (name_of Names)
    → AreNameTables v list → Walked (ground_of v i) [] 0 p
    → Goes (ground_of v i) 0 (length (section_bytes v i)) (tables_fields list) p q → AllRead (ground_of v i) q → NamesHold (debug_data v) (moving_sections v)
names-hold v i list p q e u start goes read =
    hold-by v (Some i) (sym e) (λ xs reads. subst (FieldsRead v.order (view_cells v i) (moving_sections v)) (sym (name_fields-one v i list xs e u reads))
    (read.all (tables_fields list) (walked-all v i (tables_fields list) p q start goes)))

row-by : (v : View) (o : Option ℕ) (xs : List (Piece NameState)) (r : Refusal) → section_named v (name_of Names) ≡ o
    → ReadsNames v.order (cells_located v o).contents xs
    → FieldsFail v.order (cells_located v o).number (cells_located v o).contents (moving_sections v) (name_fields xs) r
    → LeftRelocationsFail (debug_data v) (moving_sections v) r
unfolding debug_data
row-by v o xs r e reads fails =
    names xs (subst (λ (q : Option ℕ). ReadsNames v.order (cells_located v q).contents xs) (sym e) reads)
    (subst (λ (q : Option ℕ). FieldsFail v.order (cells_located v q).number (cells_located v q).contents (moving_sections v) (name_fields xs) r) (sym e) fails)

pub names-fail : (v : View) (i : ℕ) (list : List NameTable) (p q : Result Marks Refusal) (r : Refusal) → Some i ≡ section_named v (name_of Names)
    → AreNameTables v list → Walked (ground_of v i) [] 0 p
    → Goes (ground_of v i) 0 (length (section_bytes v i)) (tables_fields list) p q → OneFails (ground_of v i) q r
    → LeftRelocationsFail (debug_data v) (moving_sections v) r
names-fail v i list p q r e u start goes fails =
    let are : NamesAre v.order (view_cells v i) (tables_fields list) = tables-are v i (view_cells v i) list (upto-cells v i list e u) in
    row-by v (Some i) are.pieces r (sym e) are.reads
    (subst (λ (fs : List FieldPlace). FieldsFail v.order i (view_cells v i) (moving_sections v) fs r) (sym are.fields)
    (fails.all (tables_fields list) (walked-all v i (tables_fields list) p q start goes)))

pub names-kind : (v : View) (i : ℕ) → Some i ≡ section_named v (name_of Names) → is_some (kind_at v i) ≡ true
names-kind v i e = some-named v Names i e

pub ruleset name_rules = (small-there, length-there, names-quiet, tables-there, names-kind, names-hold, names-fail)

pub ruleset check_rules = (names-none)
