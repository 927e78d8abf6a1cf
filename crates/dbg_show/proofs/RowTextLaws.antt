-- The pieces of the line of a row.
use Rattle.std.proofs.Common.{◌≡◌, ℕ, List, ◌++◌, refl, sym, ap, ◌∙◌}
use Rattle.std.specs.Prelude.{OnOk, Result, Ok, Err}
use Rattle.dw_base.specs.LineMeanings.{FileText, dir_texts, shown_file, shown_row}
use Rattle.dw_base.specs.declared.line_rows.Row.{Row}
use Rattle.dbg_show.specs.Rows.{flags_text, is_flagged, letters, row_back, row_front, row_text, shown_text}
use Rattle.dbg_show.specs.TableLists.{TableLists, all_files, listed_file, listed_row}
use Rattle.dbg_show.proofs.AppendLaws.{two, three, five}

pub ruleset piece_laws = (two, three, five)

-- the number of the file isn't printed
row-is : (version : ℕ) (dirs : List (List ℕ)) (files : List FileText) (r : Row)
    → row_text (shown_row version dirs files r) ≡ row_front r ++ (shown_text (shown_file version dirs files r.file) ++ row_back r)
unfolding row_text row_front row_back flags_text letters is_flagged
row-is version dirs files r = refl

row-pushed : (t : TableLists) (r : Row) (old new m n : List ℕ) → new ≡ n ++ row_back r → n ≡ m ++ shown_text (listed_file t r.file) → m ≡ old ++ row_front r
    → new ≡ old ++ row_text (listed_row t r)
unfolding listed_row listed_file
row-pushed t r old new m n a b c =
    three old new m n (row_front r) (shown_text (listed_file t r.file)) (row_back r) a b c
    ∙ ap (λ (x : List ℕ). old ++ x) (sym (row-is t.version (dir_texts t.source t.dirs) (all_files t) r))

pub row-ends : {X E : Type 0} (x : Result X E) (t : TableLists) (r : Row) (old new m n : List ℕ) → OnOk x (new ≡ n ++ row_back r)
    → n ≡ m ++ shown_text (listed_file t r.file) → m ≡ old ++ row_front r → OnOk x (new ≡ old ++ row_text (listed_row t r))
row-ends (Ok v) t r old new m n a b c = row-pushed t r old new m n a b c
row-ends (Err e) t r old new m n a b c = tt
