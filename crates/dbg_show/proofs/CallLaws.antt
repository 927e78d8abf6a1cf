-- A text that is printed by two calls, one behind the other; and the call that writes a buffer.
use Rattle.std.proofs.Common.{Bool, true, false, ◌≡◌, ℕ, List, [], ◌++◌, Result, Ok, Err, refl, sym, ◌∙◌, subst}
use Rattle.std.specs.Prelude.{OnOk, OnErr}
use Rattle.std.specs.Result.{is_err}
use Rattle.dw_base.specs.LineMeanings.{dir_texts, file_texts}
use Rattle.dw_base.specs.LineSources.{LineSource}
use Rattle.dw_base.specs.LineTables.{LineTable}
use Rattle.dw_rows.specs.TableRows.{RowsState, rows_left}
use Rattle.file_tree.specs.Causes.{Rose}
use Rattle.file_tree.specs.Heard.{Heard, grown, Said}
use Rattle.dbg_show.specs.LineTexts.{dirs_text, files_text, first_number, table_line}
use Rattle.dbg_show.specs.Printing.{Printed, Cut}
use Rattle.dbg_show.specs.ReadTables.{lists_of, read_text}
use Rattle.dbg_show.specs.Rows.{rows_text}
use Rattle.dbg_show.specs.TableLists.{TableLists, listed_rows}
use Rattle.dbg_show.specs.declared.show_err.ShowErr.{ShowErr}
use Rattle.dbg_show.specs.declared.show_err.ShowErr.TheVariants as err
use Rattle.dbg_show.proofs.PrintingLaws.{buffer-fails, buffer-out, cut-more, cut-then, printed-then}

-- of a text that is two
pub printed-both : (a b whole before between behind : List ℕ) (old mid new : Heard) → a ++ b ≡ whole → Printed a before old mid between → Printed b between mid new behind
    → Printed whole before old new behind
printed-both a b whole before between behind old mid new is p q =
    subst (λ (t : List ℕ). Printed t before old new behind) is (printed-then a b before between behind old mid new p q)

pub cut-both : (a b whole before between : List ℕ) (old mid new : Heard) (e : ShowErr) → a ++ b ≡ whole → Printed a before old mid between → Cut (between ++ b) mid new e
    → Cut (before ++ whole) old new e
cut-both a b whole before between old mid new e is p c = subst (λ (t : List ℕ). Cut (before ++ t) old new e) is (cut-then a b before between old mid new e p c)

pub cut-front : (a b before whole : List ℕ) (old new : Heard) (e : ShowErr) → a ++ b ≡ whole → Cut (before ++ a) old new e → Cut (before ++ whole) old new e
cut-front a b before whole old new e is c = subst (λ (t : List ℕ). Cut (before ++ t) old new e) is (cut-more a b before old new e c)

-- the text of a table, from its lists and its rows as they were taken
pub table-text : (n version : ℕ) (g : LineSource) (t : LineTable) (lists : TableLists) (rows first : RowsState) → lists ≡ lists_of g t → version ≡ t.version → rows ≡ first
    → table_line n version ++ (dirs_text (first_number lists.version) (dir_texts lists.source lists.dirs)
    ++ (files_text (first_number lists.version) (file_texts lists.source lists.files) ++ rows_text (listed_rows lists (rows_left rows)))) ≡ read_text n g t (rows_left first)
table-text n version g t lists rows first l v r = rw (l, v, r) refl

-- the buffer was written
pub buffer-written : {X E : Type 0} (r : Result X E) (failed : Bool) (piece t behind : List ℕ) (old new : Heard) → failed ≡ is_err r → failed ≡ false → piece ≡ t
    → OnOk r (new.bytes ≡ grown old.bytes piece) → Said piece old new → behind ≡ [] → Printed [] t old new behind
buffer-written (Ok x) failed piece t behind old new is none_failed same done said none =
    buffer-out t behind old new (subst (λ (b : List ℕ). Said b old new) same said) (subst (λ (b : List ℕ). new.bytes ≡ grown old.bytes b) same done) none
buffer-written (Err e) failed piece t behind old new is none_failed same done said none =
    let never : true ≡ false = sym is ∙ none_failed in
    absurd cc

-- or not
pub buffer-unwritten : {X E : Type 0} (r : Result X E) (failed : Bool) (piece t : List ℕ) (old new : Heard) → failed ≡ is_err r → failed ≡ true → piece ≡ t
    → OnErr r (Rose old.faults new.faults) → Said piece old new → Cut t old new err.Sink
buffer-unwritten (Err e) failed piece t old new is it_failed same cause said = buffer-fails t old new err.Sink (subst (λ (b : List ℕ). Said b old new) same said) cause refl
buffer-unwritten (Ok x) failed piece t old new is it_failed same cause said =
    let never : false ≡ true = sym is ∙ it_failed in
    absurd cc
