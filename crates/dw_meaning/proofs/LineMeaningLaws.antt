-- A line table that was written with its paths mapped is read, and means the mapped table.
use Rattle.std.proofs.Common.{Bool, true, false, ◌≡◌, ℕ, zero, suc, ◌+◌, ◌-◌, ◌≤◌, ◌==◌, List, [], ◌∷◌, ◌++◌, length, take, drop, map, Option, Some, None, refl, sym, ap, ◌∙◌, subst, arith, if◌then◌else◌, append_assoc, ◌<◌}
use Rattle.std.specs.Prelude.{not}
use Rattle.std.proofs.lemmas.Bool.{eq-eqb, ne_eqb}
use Rattle.std.proofs.lemmas.List.{append-nil, length-drop, length-take-le, take-append-drop, map-append, take_all}
use Rattle.dw_base.specs.LineEntries.{list_end, place_behind}
use Rattle.dw_base.specs.RelocationFields.{relocation_at}
use Rattle.dw_base.specs.Cells.{Cell, bytes_of}
use Rattle.dw_base.specs.LineHeaders.{length_place}
use Rattle.dw_base.specs.LineMeanings.{place_text, LineColumn, LineEntry, listed_columns, old_columns, dir_columns, file_columns, entries_with, FileText, dir_texts, file_text, file_texts, file_path, ShownFile, item_at, dir_numbered, file_numbered, shown_in, shown_as, shown_file, ShownRow, shown_row, shown_rows, line_params, program_rows, LineMeaning, line_meaning, mapped_entry, mapped_shown, mapped_row, mapped_line}
use Rattle.dw_base.specs.LineReadings.{LineReading, ReadsTable, table_read}
use Rattle.dw_base.specs.LineSources.{LineSource}
use Rattle.dw_base.specs.LineWriteFails.{changes_path, DefinedStay}
use Rattle.dw_base.specs.Texts.{same_text}
use Rattle.dw_base.proofs.TextLaws.{same_text-true}
use Rattle.dw_base.specs.LineTables.{texts_of, HasLists, old_lists, new_lists}
use Rattle.dw_base.specs.Paths.{PathMap, mapped_path}
use Rattle.dw_base.specs.TableTexts.{as_paths, list_texts, texts_by}
use Rattle.dw_base.specs.TextLineChanges.{header_by_texts, on_paths, table_by_texts, texts_changes}
use Rattle.dw_base.specs.WrittenLines.{cells_part, part, bytes_at, Change, path_changes, all_changes, length_size}
use Rattle.dw_base.specs.declared.line_rows.Row.{Row}
use Rattle.dw_base.specs.declared.line_tables.FilePlace.{FilePlace}
use Rattle.dw_base.specs.declared.line_tables.LineHeader.{LineHeader}
use Rattle.dw_base.specs.declared.line_tables.LineText.{LineText}
use Rattle.dw_base.specs.declared.line_tables.TextPlace.{TextPlace}
use Rattle.dw_base.specs.declared.shared.Width.{Width}
use Rattle.dw_base.proofs.ContributionBackLaws.{StandsAt}
use Rattle.dw_base.proofs.UnitEditLaws.{length-bytes_of}
use Rattle.dw_base.proofs.PathLaws.{mapped_path-none}
use Rattle.dw_meaning.specs.LineCells.{CellChange, all_path_cells, path_cells}
use Rattle.dw_meaning.specs.TextLineCells.{table_cells_by_texts, texts_cells}
use Rattle.dw_meaning.proofs.CellLaidLaws.{cells-end, laid-cells, laid-clear}
use Rattle.dw_meaning.proofs.CellRestLaws.{CellRest, cells-copied, clear-none, same-from}
use Rattle.dw_meaning.proofs.ClearLaws.{Clear, ListClear, ListsClear, NoneOver, clear-part, clear-join, whole-clear}
use Rattle.dw_meaning.proofs.LineCellLaws.{SameChanges, cells-append as path_cells-append, paths-bytes, same-append}
use Rattle.dw_meaning.proofs.TextCellLaws.{texts-bytes}
use Rattle.dw_meaning.proofs.LineClearLaws.{TableClear}
use Rattle.dw_meaning.proofs.LineChangeLaws.{From, Rest, copied, from-end, part-length, part-none, all-before}
use Rattle.dw_meaning.proofs.LineColumnLaws.{edited_with, SourceMoves}
use Rattle.dw_meaning.proofs.LineHeaderLaws.{ops_size, length-place, flags-place, first_place, flags_at, HeaderIs, header-is, header-there}
use Rattle.dw_meaning.proofs.LineLaidLaws.{Writable, Laid, laid}
use Rattle.dw_meaning.proofs.LineEntryLaws.{EachMoves, cells-append, changes-append, moves-parts}
use Rattle.dw_meaning.proofs.LineListLaws.{MovedFiles, list-from, list-moved}
use Rattle.dw_meaning.proofs.LineMoveLaws.{LinePlaces, moved_header, Sides}
use Rattle.dw_meaning.proofs.LineOldLaws.{MovedTexts, dirs-from, dirs-moved, files-from, files-moved}
use Rattle.dw_meaning.proofs.LineProgramLaws.{Same, Counts, KeptFiles, program-moved}
use Rattle.dw_meaning.proofs.LineReadLaws.{Both, both-behind, first-stand}
use Rattle.dw_meaning.proofs.LineTableLaws.{places_of, HeaderPlaces, header-places, header-moved}
use Rattle.dw_meaning.proofs.LineWalkLaws.{dirs-of, dirs-walk, files-of, files-walk, opcodes-of, opcodes-walk}
use Rattle.dw_meaning.proofs.TextMentionLaws.{MentionsMoved, mentions-both, own-lists, own-texts}

-- before version 5 the texts are the paths, and their changes those of paths
paths-changes : (g : LineSource) (m : PathMap) (places : LineText → Option ℕ) (w : Width) (xs : List TextPlace) → texts_changes g m places w (as_paths xs) ≡ all_changes g m (on_paths places) w xs
paths-changes g m places w [] = refl
paths-changes g m places w (x ∷ xs) = ap (λ (cs : List Change). path_changes g m (on_paths places) w x ++ cs) (paths-changes g m places w xs)

paths-cells : (g : LineSource) (m : PathMap) (places : LineText → Option ℕ) (w : Width) (xs : List TextPlace) → texts_cells g m places w (as_paths xs) ≡ all_path_cells g m (on_paths places) w xs
paths-cells g m places w [] = refl
paths-cells g m places w (x ∷ xs) = ap (λ (cs : List CellChange). path_cells g m (on_paths places) w x ++ cs) (paths-cells g m places w xs)

old-texts : (g : LineSource) (h : LineHeader) (table : List ℕ) (xs : List TextPlace) → (h.version ≡ 5 → ⊥) → texts_by g h table xs ≡ as_paths xs
old-texts g h table xs other =
    ap (λ (b : Bool). if b then list_texts g h table h.lists ++ list_texts g h table (list_end g h table h.lists) else as_paths xs) (ne_eqb h.version 5 other)

new-texts : (g : LineSource) (h : LineHeader) (table : List ℕ) (xs : List TextPlace) (place : ℕ) → h.version ≡ 5 → list_end g h table h.lists ≡ place
    → texts_by g h table xs ≡ list_texts g h table h.lists ++ list_texts g h table place
new-texts g h table xs place five end =
    ap (λ (b : Bool). if b then list_texts g h table h.lists ++ list_texts g h table (list_end g h table h.lists) else as_paths xs) (eq-eqb h.version 5 five)
    ∙ ap (λ (n : ℕ). list_texts g h table h.lists ++ list_texts g h table n) end

paths-append : (g : LineSource) (m : PathMap) (places : TextPlace → Option ℕ) (w : Width) (xs ys : List TextPlace)
    → all_changes g m places w (xs ++ ys) ≡ all_changes g m places w xs ++ all_changes g m places w ys
paths-append g m places w [] ys = refl
paths-append g m places w (x ∷ xs) ys =
    ap (λ (cs : List Change). path_changes g m places w x ++ cs) (paths-append g m places w xs ys)
    ∙ sym (append_assoc (path_changes g m places w x) (all_changes g m places w xs) (all_changes g m places w ys))

-- where no change begins before the lists
pub lists-from : (g : LineSource) (m : PathMap) (s l old : List ℕ) (h : LineHeader) (places : LineText → Option ℕ) (dirs : List TextPlace) (files : List FilePlace) (behind : ℕ)
    → SourceMoves g m s l → HasLists g h old dirs files behind → behind ≤ h.program
    → From h.program h.lists (texts_changes g m places h.width (texts_by g h old (dirs ++ texts_of files))) × (h.lists ≤ behind)
lists-from g m s l old h places dirs files behind w (old_lists ds fs place e other d f) le =
    let f2 = files-from g m (on_paths places) h old h.program [] place behind files (files-of g.number old place behind files f) le in
    let none : all_changes g m (on_paths places) h.width (texts_of files) ++ [] ≡ all_changes g m (on_paths places) h.width (texts_of files) = append-nil (all_changes g m (on_paths places) h.width (texts_of files)) in
    let d2 = dirs-from g m (on_paths places) h old h.program (all_changes g m (on_paths places) h.width (texts_of files)) h.lists place dirs (dirs-of g.number old h.lists place dirs d)
    (subst (From h.program place) none f2.0) in
    let a = d2.1 in
    let b = f2.1 in (
      subst (From h.program h.lists)
          (sym (ap (texts_changes g m places h.width) (old-texts g h old (dirs ++ texts_of files) other) ∙ paths-changes g m places h.width (dirs ++ texts_of files)
          ∙ paths-append g m (on_paths places) h.width dirs (texts_of files))) d2.0,
      omega (arith, a, b),
    )
lists-from g m s l old h places dirs files behind w (new_lists ds fs place e five d f) le =
    let f2 = list-from g m s l old h places h.program [] place behind files w f le in
    let none : texts_changes g m places h.width (list_texts g h old place) ++ [] ≡ texts_changes g m places h.width (list_texts g h old place) =
    append-nil (texts_changes g m places h.width (list_texts g h old place)) in
    let d2 = list-from g m s l old h places h.program (texts_changes g m places h.width (list_texts g h old place)) h.lists place ds w d (subst (From h.program place) none f2.0) in
    let a = d2.1 in
    let b = f2.1 in (
      subst (From h.program h.lists)
          (sym (ap (texts_changes g m places h.width) (new-texts g h old (texts_of ds ++ texts_of files) place five (ap (place_behind h.lists) d))
          ∙ changes-append g m places h.width (list_texts g h old h.lists) (list_texts g h old place))) d2.0,
      omega (arith, a, b),
    )

-- files as texts
texts-moved : (g k : LineSource) (m : PathMap) (fs us : List FilePlace) → MovedFiles g k m fs us → MovedTexts g k m (texts_of fs) (texts_of us)
texts-moved g k m [] [] h = tt
texts-moved g k m [] (u ∷ us) h = absurd h
texts-moved g k m (f ∷ fs) [] h = absurd h
texts-moved g k m (f ∷ fs) (u ∷ us) h = (h.1, texts-moved g k m fs us h.2)

-- the lists under an edit
pub record ListsMoved (g k : LineSource) (m : PathMap) (h : LineHeader) (n : LinePlaces) (old new : List ℕ) (tail : List Cell) (dirs : List TextPlace) (files : List FilePlace)
    (behind : ℕ) : Type 0 where
  pub new_dirs : List TextPlace
  pub new_files : List FilePlace
  pub new_behind : ℕ
  pub lists : HasLists k (moved_header h n) new new_dirs new_files new_behind
  pub dirs_moved : MovedTexts g k m dirs new_dirs
  pub files_moved : MovedFiles g k m files new_files
  pub rest : Rest old new h.program [] behind new_behind
  pub cells : CellRest g.cells k.cells h.program [] tail behind new_behind
  pub clear : ListsClear k (moved_header h n) new new_behind
  pub mentions : MentionsMoved g k m (texts_by g h old (dirs ++ texts_of files)) (texts_by k (moved_header h n) new (new_dirs ++ texts_of new_files))
  pub dir_columns_same : (if h.version == 5 then listed_columns k (moved_header h n) new n.lists else []) ≡ (if h.version == 5 then listed_columns g h old h.lists else [])
  pub file_columns_same : (if h.version == 5 then listed_columns k (moved_header h n) new (list_end k (moved_header h n) new n.lists) else map (old_columns new) new_files)
      ≡ (if h.version == 5 then listed_columns g h old (list_end g h old h.lists) else map (old_columns old) files)

by_no : (b : Bool) (x y z w : List (List LineColumn)) → b ≡ false → z ≡ w → (if b then x else z) ≡ (if b then y else w)
by_no true x y z w e f = absurd cc
by_no false x y z w e f = f

by_yes : (b : Bool) (x y z w : List (List LineColumn)) → b ≡ true → x ≡ y → (if b then x else z) ≡ (if b then y else w)
by_yes true x y z w e f = f
by_yes false x y z w e f = absurd cc

pub lists-moved : (g : LineSource) (m : PathMap) (bytes : List ℕ) (cells : List Cell) (s l old new : List ℕ) (h : LineHeader) (n : LinePlaces) (places : LineText → Option ℕ) (tail : List Cell) (dirs : List TextPlace)
    (files : List FilePlace) (behind : ℕ) → SourceMoves g m s l → Sides g bytes cells old new → HasLists g h old dirs files behind → behind ≤ h.program
    → EachMoves g m s l h.width places (texts_by g h old (dirs ++ texts_of files))
    → Rest old new h.program (texts_changes g m places h.width (texts_by g h old (dirs ++ texts_of files))) h.lists n.lists
    → CellRest g.cells cells h.program (texts_cells g m places h.width (texts_by g h old (dirs ++ texts_of files))) tail h.lists n.lists → ListsClear g h old behind
    → ListsMoved g (edited_with g bytes cells s l) m h n old new tail dirs files behind
lists-moved g m bytes cells s l old new h n places tail dirs files behind w sides (old_lists ds fs place e other d f) le moves rest cell clear =
    let texts = old-texts g h old (dirs ++ texts_of files) other in
    let d0 = dirs-of g.number old h.lists place dirs d in
    let f0 = files-of g.number old place behind files f in
    let f2 = files-from g m (on_paths places) h old h.program [] place behind files f0 le in
    let none : all_changes g m (on_paths places) h.width (texts_of files) ++ [] ≡ all_changes g m (on_paths places) h.width (texts_of files) = append-nil (all_changes g m (on_paths places) h.width (texts_of files)) in
    let last : CellRest g.cells cells h.program (all_path_cells g m (on_paths places) h.width dirs ++ (all_path_cells g m (on_paths places) h.width (texts_of files) ++ [])) tail h.lists n.lists =
    subst (λ (us : List CellChange). CellRest g.cells cells h.program us tail h.lists n.lists)
    (ap (texts_cells g m places h.width) texts ∙ paths-cells g m places h.width (dirs ++ texts_of files) ∙ path_cells-append g m (on_paths places) h.width dirs (texts_of files)
    ∙ ap (λ (us : List CellChange). all_path_cells g m (on_paths places) h.width dirs ++ us) (sym (append-nil (all_path_cells g m (on_paths places) h.width (texts_of files))))) cell in
    let same : SameChanges (all_path_cells g m (on_paths places) h.width (texts_of files) ++ []) (all_changes g m (on_paths places) h.width (texts_of files) ++ []) =
    same-append (all_path_cells g m (on_paths places) h.width (texts_of files)) [] (all_changes g m (on_paths places) h.width (texts_of files)) [] (paths-bytes g m (on_paths places) h.width (texts_of files) w.own) tt in
    let whole : Clear g.cells h.lists behind = clear.old other in
    let second = f2.1 in
    let first = (dirs-from g m (on_paths places) h old h.program (all_changes g m (on_paths places) h.width (texts_of files) ++ []) h.lists place dirs d0 f2.0).1 in
    let d1 = dirs-moved g m bytes cells s l old new h (on_paths places) h.program (all_changes g m (on_paths places) h.width (texts_of files) ++ [])
    (all_path_cells g m (on_paths places) h.width (texts_of files) ++ []) tail h.lists n.lists place dirs w sides d0
    (subst (λ (cs : List Change). Rest old new h.program cs h.lists n.lists)
    (ap (texts_changes g m places h.width) texts ∙ paths-changes g m places h.width (dirs ++ texts_of files) ∙ paths-append g m (on_paths places) h.width dirs (texts_of files)
    ∙ ap (λ (cs : List Change). all_changes g m (on_paths places) h.width dirs ++ cs) (sym none)) rest) last same f2.0
    (clear-part g.cells h.lists behind h.lists place whole (omega arith) second) in
    let f1 = files-moved g m bytes cells s l old new h (on_paths places) h.program [] [] tail place d1.behind behind files w sides f0 d1.rest d1.cells tt le
    (clear-part g.cells h.lists behind place behind whole first (omega arith)) in
    record {
      new_dirs = d1.texts;
      new_files = f1.files;
      new_behind = f1.behind;
      lists = old_lists d1.texts f1.files d1.behind f1.behind other (dirs-walk g.number new n.lists d1.behind d1.texts d1.are) (files-walk g.number new d1.behind f1.behind f1.files f1.are);
      dirs_moved = d1.moved;
      files_moved = f1.moved;
      rest = f1.rest;
      cells = f1.cells;
      clear = record {
        old = λ is. clear-join cells n.lists d1.behind f1.behind d1.clear f1.clear;
        dirs = λ five. absurd (other five);
        files = λ five. absurd (other five);
      };
      mentions = subst (λ (xs : List LineText). MentionsMoved g (edited_with g bytes cells s l) m xs (texts_by (edited_with g bytes cells s l) (moved_header h n) new (d1.texts ++ texts_of f1.files))) (sym texts)
          (subst (λ (ys : List LineText). MentionsMoved g (edited_with g bytes cells s l) m (as_paths (dirs ++ texts_of files)) ys)
          (sym (old-texts (edited_with g bytes cells s l) (moved_header h n) new (d1.texts ++ texts_of f1.files) other))
          (own-texts g m bytes cells s l (dirs ++ texts_of files) (d1.texts ++ texts_of f1.files) (own-lists g.number old h.lists place behind dirs files d0 f0)
          (own-lists g.number new n.lists d1.behind f1.behind d1.texts f1.files d1.are f1.are)));
      dir_columns_same = by_no (h.version == 5) _ _ _ _ (ne_eqb h.version 5 other) refl;
      file_columns_same = by_no (h.version == 5) _ _ _ _ (ne_eqb h.version 5 other) f1.further;
    }
lists-moved g m bytes cells s l old new h n places tail dirs files behind w sides (new_lists ds fs place e five d f) le moves rest cell clear =
    let texts = new-texts g h old (texts_of ds ++ texts_of files) place five (ap (place_behind h.lists) d) in
    let both = moves-parts g m s l h.width places (list_texts g h old h.lists) (list_texts g h old place) (subst (EachMoves g m s l h.width places) texts moves) in
    let f2 = list-from g m s l old h places h.program [] place behind files w f le in
    let none : texts_changes g m places h.width (list_texts g h old place) ++ [] ≡ texts_changes g m places h.width (list_texts g h old place) =
    append-nil (texts_changes g m places h.width (list_texts g h old place)) in
    let last : CellRest g.cells cells h.program (texts_cells g m places h.width (list_texts g h old h.lists) ++ (texts_cells g m places h.width (list_texts g h old place) ++ [])) tail h.lists n.lists =
    subst (λ (us : List CellChange). CellRest g.cells cells h.program us tail h.lists n.lists)
    (ap (texts_cells g m places h.width) texts ∙ cells-append g m places h.width (list_texts g h old h.lists) (list_texts g h old place)
    ∙ ap (λ (us : List CellChange). texts_cells g m places h.width (list_texts g h old h.lists) ++ us) (sym (append-nil (texts_cells g m places h.width (list_texts g h old place))))) cell in
    let same : SameChanges (texts_cells g m places h.width (list_texts g h old place) ++ []) (texts_changes g m places h.width (list_texts g h old place) ++ []) =
    same-append (texts_cells g m places h.width (list_texts g h old place)) [] (texts_changes g m places h.width (list_texts g h old place)) [] (texts-bytes g m places h.width (list_texts g h old place) w.own) tt in
    let d1 = list-moved g m bytes cells s l old new h n places h.program (texts_changes g m places h.width (list_texts g h old place) ++ [])
    (texts_cells g m places h.width (list_texts g h old place) ++ []) tail h.lists n.lists place ds w sides d both.0
    (subst (λ (cs : List Change). Rest old new h.program cs h.lists n.lists)
    (ap (texts_changes g m places h.width) texts ∙ changes-append g m places h.width (list_texts g h old h.lists) (list_texts g h old place)
    ∙ ap (λ (cs : List Change). texts_changes g m places h.width (list_texts g h old h.lists) ++ cs) (sym none)) rest) last same f2.0 (clear.dirs five) in
    let end_old : list_end g h old h.lists ≡ place = ap (place_behind h.lists) d in
    let f1 = list-moved g m bytes cells s l old new h n places h.program [] [] tail place d1.behind behind files w sides f both.1 d1.rest d1.cells tt le
    (subst (ListClear g h old) end_old (clear.files five)) in
    let end_new : list_end (edited_with g bytes cells s l) (moved_header h n) new n.lists ≡ d1.behind = ap (place_behind n.lists) d1.is in
    record {
      new_dirs = texts_of d1.files;
      new_files = f1.files;
      new_behind = f1.behind;
      lists = new_lists d1.files f1.files d1.behind f1.behind five d1.is f1.is;
      dirs_moved = texts-moved g (edited_with g bytes cells s l) m ds d1.files d1.moved;
      files_moved = f1.moved;
      rest = f1.rest;
      cells = f1.cells;
      clear = record {
        old = λ other. absurd (other five);
        dirs = λ is. d1.clear;
        files = λ is. subst (ListClear (edited_with g bytes cells s l) (moved_header h n) new) (sym end_new) f1.clear;
      };
      mentions = subst (λ (xs : List LineText). MentionsMoved g (edited_with g bytes cells s l) m xs (texts_by (edited_with g bytes cells s l) (moved_header h n) new (texts_of d1.files ++ texts_of f1.files))) (sym texts)
          (subst (λ (ys : List LineText). MentionsMoved g (edited_with g bytes cells s l) m (list_texts g h old h.lists ++ list_texts g h old place) ys)
          (sym (new-texts (edited_with g bytes cells s l) (moved_header h n) new (texts_of d1.files ++ texts_of f1.files) d1.behind five end_new))
          (mentions-both g (edited_with g bytes cells s l) m (list_texts g h old h.lists) (list_texts (edited_with g bytes cells s l) (moved_header h n) new n.lists) (list_texts g h old place)
          (list_texts (edited_with g bytes cells s l) (moved_header h n) new d1.behind) d1.mentions f1.mentions));
      dir_columns_same = by_five (h.version == 5) d1.further;
      file_columns_same = by_yes (h.version == 5) _ _ _ _ (eq-eqb h.version 5 five) (ap (listed_columns (edited_with g bytes cells s l) (moved_header h n) new) end_new ∙ f1.further ∙ ap (listed_columns g h old) (sym end_old));
    }
  where
    by_five : (b : Bool) {x y : List (List LineColumn)} → x ≡ y → (if b then x else []) ≡ (if b then y else [])
    by_five b e = ap (λ (z : List (List LineColumn)). if b then z else []) e

-- the mapped meaning, part by part
moved-dirs : (g k : LineSource) (m : PathMap) (ts us : List TextPlace) → MovedTexts g k m ts us → dir_texts k us ≡ map (mapped_path m) (dir_texts g ts)
moved-dirs g k m [] [] h = refl
moved-dirs g k m [] (u ∷ us) h = absurd h
moved-dirs g k m (t ∷ ts) [] h = absurd h
moved-dirs g k m (t ∷ ts) (u ∷ us) h =
    ap (λ (x : List ℕ). x ∷ dir_texts k us) h.0 ∙ ap (λ (xs : List (List ℕ)). mapped_path m (place_text g t) ∷ xs) (moved-dirs g k m ts us h.1)

abbrev mapped_file : PathMap → FileText → FileText
mapped_file m f = record { path = mapped_path m f.path; dir = f.dir }

abbrev file_with : List ℕ → ℕ → FileText
file_with p i = record { path = p; dir = i }

file-same : (p q : List ℕ) (i j : ℕ) → p ≡ q → i ≡ j → file_with p i ≡ file_with q j
file-same p q i j e f = ap (λ (x : List ℕ). file_with x i) e ∙ ap (file_with q) f

moved-files : (g k : LineSource) (m : PathMap) (fs us : List FilePlace) → MovedFiles g k m fs us → file_texts k us ≡ map (mapped_file m) (file_texts g fs)
moved-files g k m [] [] h = refl
moved-files g k m [] (u ∷ us) h = absurd h
moved-files g k m (f ∷ fs) [] h = absurd h
moved-files g k m (f ∷ fs) (u ∷ us) h =
    ap (λ (x : FileText). x ∷ file_texts k us) (file-same (place_text k u.text) (mapped_path m (place_text g f.text)) u.dir f.dir h.1 h.0)
    ∙ ap (λ (xs : List FileText). mapped_file m (file_text g f) ∷ xs) (moved-files g k m fs us h.2)

-- a path that isn't changed is mapped to itself
unchanged-path : (m : PathMap) (t : List ℕ) → changes_path m t ≡ false → mapped_path m t ≡ t
unchanged-path m t e = same_text-true (mapped_path m t) t (not_false (same_text (mapped_path m t) t) e)
  where
    not_false : (b : Bool) → not b ≡ false → b ≡ true
    not_false true e = refl
    not_false false e = cc

kept-files : (g k : LineSource) (m : PathMap) (table : List ℕ) (fs us : List FilePlace) → KeptFiles g k table fs us → DefinedStay m table fs → file_texts k us ≡ map (mapped_file m) (file_texts g fs)
kept-files g k m table [] [] h stay = refl
kept-files g k m table [] (u ∷ us) h stay = absurd h
kept-files g k m table (f ∷ fs) [] h stay = absurd h
kept-files g k m table (f ∷ fs) (u ∷ us) h stay =
    ap (λ (x : FileText). x ∷ file_texts k us) (file-same (place_text k u.text) (mapped_path m (place_text g f.text)) u.dir f.dir
    (h.0.text ∙ h.0.own ∙ sym (ap (mapped_path m) h.0.own ∙ unchanged-path m (bytes_at table f.text.at f.text.len) stay.0)) h.0.dir)
    ∙ ap (λ (xs : List FileText). mapped_file m (file_text g f) ∷ xs) (kept-files g k m table fs us h.1 stay.1)

file-paths : (m : PathMap) (fs : List FileText) → map file_path (map (mapped_file m) fs) ≡ map (mapped_path m) (map file_path fs)
file-paths m [] = refl
file-paths m (f ∷ fs) = ap (λ (xs : List (List ℕ)). mapped_path m f.path ∷ xs) (file-paths m fs)

entries-mapped : (m : PathMap) (ts : List (List ℕ)) (cs : List (List LineColumn)) → entries_with (map (mapped_path m) ts) cs ≡ map (mapped_entry m) (entries_with ts cs)
entries-mapped m [] cs = refl
entries-mapped m (t ∷ ts) [] = ap (λ (xs : List LineEntry). record { path = mapped_path m t; columns = [] } ∷ xs) (entries-mapped m ts [])
entries-mapped m (t ∷ ts) (c ∷ cs) = ap (λ (xs : List LineEntry). record { path = mapped_path m t; columns = c } ∷ xs) (entries-mapped m ts cs)

-- rows show mapped texts
abbrev maybe : {X Y : Type 0} → (X → Y) → Option X → Option Y
maybe f None = None
maybe f (Some x) = Some (f x)

item-map : {X Y : Type 0} (f : X → Y) (xs : List X) (i : ℕ) → item_at (map f xs) i ≡ maybe f (item_at xs i)
item-map f [] i = refl
item-map f (x ∷ xs) zero = refl
item-map f (x ∷ xs) (suc i) = item-map f xs i

dir-mapped : (m : PathMap) (version : ℕ) (dirs : List (List ℕ)) (i : ℕ) → mapped_path m [] ≡ []
    → dir_numbered version (map (mapped_path m) dirs) i ≡ maybe (mapped_path m) (dir_numbered version dirs i)
dir-mapped m version dirs i none = by_version (version == 5) (i == 0)
  where
    by_version : (b c : Bool) → (if b then item_at (map (mapped_path m) dirs) i else (if c then Some [] else item_at (map (mapped_path m) dirs) (i - 1)))
        ≡ maybe (mapped_path m) (if b then item_at dirs i else (if c then Some [] else item_at dirs (i - 1)))
    by_version true c = item-map (mapped_path m) dirs i
    by_version false true = ap (λ (t : List ℕ). Some t) (sym none)
    by_version false false = item-map (mapped_path m) dirs (i - 1)

file-mapped : (m : PathMap) (version : ℕ) (files : List FileText) (i : ℕ) → file_numbered version (map (mapped_file m) files) i ≡ maybe (mapped_file m) (file_numbered version files i)
file-mapped m version files i = by_version (version == 5) (i == 0)
  where
    by_version : (b c : Bool) → (if b then item_at (map (mapped_file m) files) i else (if c then None else item_at (map (mapped_file m) files) (i - 1)))
        ≡ maybe (mapped_file m) (if b then item_at files i else (if c then None else item_at files (i - 1)))
    by_version true c = item-map (mapped_file m) files i
    by_version false true = refl
    by_version false false = item-map (mapped_file m) files (i - 1)

shown-in : (m : PathMap) (i : ℕ) (path : List ℕ) (o : Option (List ℕ)) → shown_in i (mapped_path m path) (maybe (mapped_path m) o) ≡ mapped_shown m (shown_in i path o)
shown-in m i path None = refl
shown-in m i path (Some dir) = refl

shown-as : (m : PathMap) (version : ℕ) (dirs : List (List ℕ)) (i : ℕ) (o : Option FileText) → mapped_path m [] ≡ []
    → shown_as version (map (mapped_path m) dirs) i (maybe (mapped_file m) o) ≡ mapped_shown m (shown_as version dirs i o)
shown-as m version dirs i None none = refl
shown-as m version dirs i (Some f) none =
    ap (shown_in i (mapped_path m f.path)) (dir-mapped m version dirs f.dir none) ∙ shown-in m i f.path (dir_numbered version dirs f.dir)

rows-mapped : (m : PathMap) (version : ℕ) (dirs : List (List ℕ)) (files : List FileText) (rows : List Row) → mapped_path m [] ≡ []
    → shown_rows version (map (mapped_path m) dirs) (map (mapped_file m) files) rows ≡ map (mapped_row m) (shown_rows version dirs files rows)
rows-mapped m version dirs files [] none = refl
rows-mapped m version dirs files (r ∷ rs) none =
    let here : shown_file version (map (mapped_path m) dirs) (map (mapped_file m) files) r.file ≡ mapped_shown m (shown_file version dirs files r.file) =
    ap (shown_as version (map (mapped_path m) dirs) r.file) (file-mapped m version files r.file) ∙ shown-as m version dirs r.file (file_numbered version files r.file) none in
    ap (λ (f : ShownFile). record { registers = record r { file = 0 }; file = f } ∷ shown_rows version (map (mapped_path m) dirs) (map (mapped_file m) files) rs) here
    ∙ ap (λ (xs : List ShownRow). mapped_row m (shown_row version dirs files r) ∷ xs) (rows-mapped m version dirs files rs none)

-- a part that stands in both
part-both : (old new xs : List ℕ) (p q e : ℕ) → Both old new xs p q → e ≡ q + length xs → part new q e ≡ xs
part-both old new xs p q e b is =
    let size : e - q ≡ length xs = omega (arith, is) in
    ap (λ (i : ℕ). take i (drop q new)) size ∙ first-stand new xs q (length xs) b.is (omega arith) ∙ take_all (length xs) xs (omega arith)

-- a meaning by its parts
abbrev line_with : ℕ → Width → List ℕ → List ℕ → List LineEntry → List LineEntry → List Cell → List Cell → List ShownRow → LineMeaning
line_with version width a c ds fs i p r = record { version = version; width = width; sizes = a; numbers = c; dirs = ds; files = fs; gap = i; program = p; rows = r }

meaning-same : (version : ℕ) (width : Width) (a b c d : List ℕ) (ds es fs us : List LineEntry) (i j p q : List Cell) (r t : List ShownRow) → a ≡ b → c ≡ d → ds ≡ es → fs ≡ us → i ≡ j → p ≡ q → r ≡ t
    → line_with version width a c ds fs i p r ≡ line_with version width b d es us j q t
meaning-same version width a b c d ds es fs us i j p q r t e1 e2 e3 e4 e5 e6 e7 =
    ap (λ (z : List ℕ). line_with version width z c ds fs i p r) e1 ∙ ap (λ (z : List ℕ). line_with version width b z ds fs i p r) e2
    ∙ ap (λ (z : List LineEntry). line_with version width b d z fs i p r) e3 ∙ ap (λ (z : List LineEntry). line_with version width b d es z i p r) e4
    ∙ ap (λ (z : List Cell). line_with version width b d es us z p r) e5 ∙ ap (λ (z : List Cell). line_with version width b d es us j z r) e6
    ∙ ap (λ (z : List ShownRow). line_with version width b d es us j q z) e7

abbrev dirs_after : LineSource → LineHeader → LinePlaces → List ℕ → List (List LineColumn)
dirs_after k h n new = if h.version == 5 then listed_columns k (moved_header h n) new n.lists else []

abbrev files_after : LineSource → LineHeader → LinePlaces → List ℕ → List FilePlace → List (List LineColumn)
files_after k h n new files =
    if h.version == 5 then listed_columns k (moved_header h n) new (list_end k (moved_header h n) new n.lists) else map (old_columns new) files

-- behind its lists a table has the relocations that it had
pub record TailStays (g k : LineSource) (r t : LineReading) : Type 0 where
  pub same : (y : ℕ) → t.behind ≤ y → y < t.header.end → relocation_at k.cells y ≡ relocation_at g.cells (r.behind + (y - t.behind))
  pub within : (y : ℕ) → t.behind ≤ y → y < t.header.end → r.behind + (y - t.behind) < r.header.end

-- the table after the edit
pub record TableMoved (g k : LineSource) (m : PathMap) (start size : ℕ) (r : LineReading) : Type 0 where
  pub reading : LineReading
  pub reads : ReadsTable k start reading
  pub begins : reading.header.start ≡ start
  pub ends : reading.header.end ≡ start + size
  pub says : line_meaning k reading ≡ mapped_line m (line_meaning g r)
  pub mentions : MentionsMoved g k m (table_read g r).texts (table_read k reading).texts
  pub over : NoneOver g.cells r.header.end → NoneOver k.cells (start + size)
  pub clear : TableClear k reading
  pub tail : TailStays g k r reading

pub table-moved : (g : LineSource) (m : PathMap) (places : LineText → Option ℕ) (bytes : List ℕ) (cells more : List Cell) (s l : List ℕ) (begin start : ℕ) (r : LineReading) → SourceMoves g m s l → ReadsTable g begin r
    → Writable g m places r → EachMoves g m s l r.header.width places (table_read g r).texts → DefinedStay m (take r.header.end g.bytes) r.defined
    → StandsAt bytes (table_by_texts g m places (table_read g r)) start → bytes_of cells ≡ bytes → drop start cells ≡ table_cells_by_texts g m places (table_read g r) ++ more
    → NoneOver cells start → TableClear g r
    → TableMoved g (edited_with g bytes cells s l) m start (length (table_by_texts g m places (table_read g r))) r
table-moved g m places bytes cells more s l begin start r w reads fits moves stay st own there_cells over clear =
    let h : LineHeader = r.header in
    let x0 = header-is g.order g.bytes begin r.header reads.header in
    let hp0 = header-places g begin r.header x0 in
    let x : HeaderIs g.order g.bytes r.header.start r.header = subst (λ (i : ℕ). HeaderIs g.order g.bytes i r.header) (sym hp0.0) x0 in
    let hp : HeaderPlaces r.header = hp0.1 in
    let from = lists-from g m s l (take r.header.end g.bytes) r.header places r.dirs r.files r.behind w reads.lists reads.before in
    let size : ℕ = length (table_by_texts g m places (table_read g r)) in
    let head : ℕ = length (header_by_texts g m places (table_read g r)) in
    let cs : List Change = texts_changes g m places r.header.width (table_read g r).texts in
    let l1 = laid g m places r bytes start x fits (all-before r.header.program r.header.lists (texts_changes g m places r.header.width (table_read g r).texts) from.0) hp.program st in
    let program = hp.program in
    let before = reads.before in
    let lists = from.1 in
    let xw = x.within in
    let xe = x.end_is in
    let size_cells : length g.bytes ≡ length g.cells = sym (ap length w.own) ∙ length-bytes_of g.cells in
    let new_cells : length bytes ≡ length cells = sym (ap length own) ∙ length-bytes_of cells in
    let begins = st.inside in
    let c1 = laid-cells g m places begin r cells more start reads clear hp.program (omega (arith, xw, xe, size_cells)) (omega (arith, lists, before)) (omega (arith, begins, new_cells)) over there_cells in
    let c0 = laid-clear g m places begin r cells more start reads clear hp.program (omega (arith, xw, xe, size_cells)) (omega (arith, lists, before)) there_cells in
    finish (length (table_by_texts g m places (table_read g r))) (length (header_by_texts g m places (table_read g r))) x hp from.0 from.1 l1 c1 c0
  where
    h_ : LineHeader
    h_ = r.header

    finish : (size head : ℕ) → HeaderIs g.order g.bytes r.header.start r.header → HeaderPlaces r.header
        → From r.header.program r.header.lists (texts_changes g m places r.header.width (table_read g r).texts) → r.header.lists ≤ r.behind
        → Laid g r.header bytes (texts_changes g m places r.header.width (table_read g r).texts) start size head
        → CellRest g.cells cells r.header.program (texts_cells g m places r.header.width (table_read g r).texts) (cells_part g.cells r.header.program r.header.end ++ more)
        (first_place r.header.version (r.header.start + length_size r.header.width) r.header.width) (first_place r.header.version (start + length_size r.header.width) r.header.width)
        → Clear cells start (first_place r.header.version (start + length_size r.header.width) r.header.width)
        → TableMoved g (edited_with g bytes cells s l) m start size r
    finish size head x hp from behind l1 c1 c0 =
        let old : List ℕ = take r.header.end g.bytes in
        let new : List ℕ = take (start + size) bytes in
        let n : LinePlaces = places_of r.header start size head in
        let first : ℕ = first_place r.header.version (r.header.start + length_size r.header.width) r.header.width in
        let first2 : ℕ = first_place r.header.version (start + length_size r.header.width) r.header.width in
        let fp = flags-place r.header.version (first_place r.header.version (r.header.start + length_size r.header.width) r.header.width) in
        let fp2 = flags-place r.header.version (first_place r.header.version (start + length_size r.header.width) r.header.width) in
        let lp = length-place r.header.version (r.header.start + length_size r.header.width) in
        let lp2 = length-place r.header.version (start + length_size r.header.width) in
        let operands = hp.operands in
        let lists = hp.lists in
        let inside = hp.inside in
        let program = hp.program in
        let before = reads.before in
        let xw = x.within in
        let xe = x.end_is in
        let old_size : length (take r.header.end g.bytes) ≡ r.header.end = length-take-le r.header.end g.bytes (omega (arith, xw, xe)) in
        let lw = l1.within in
        let ls = l1.size_is in
        let new_size : length (take (start + size) bytes) ≡ start + size = length-take-le (start + size) bytes (omega (arith, lw, ls)) in
        let sides : Sides g bytes cells (take r.header.end g.bytes) (take (start + size) bytes) = record {
          was = record { more = drop r.header.end g.bytes; is = sym (take-append-drop r.header.end g.bytes) };
          is = record { more = drop (start + size) bytes; is = sym (take-append-drop (start + size) bytes) };
          own = own;
        } in
        let first_lists : first_place r.header.version (r.header.start + length_size r.header.width) r.header.width ≤ r.header.lists = omega (arith, operands, lists, fp) in
        let k = copied (take r.header.end g.bytes) (take (start + size) bytes) r.header.program (texts_changes g m places r.header.width (table_read g r).texts)
        (first_place r.header.version (r.header.start + length_size r.header.width) r.header.width) (first_place r.header.version (start + length_size r.header.width) r.header.width) r.header.lists l1.rest first_lists from in
        let lists_end = from-end r.header.program r.header.lists (texts_changes g m places r.header.width (table_read g r).texts) from in
        let kc = cells-copied g.cells cells r.header.program (texts_cells g m places r.header.width (table_read g r).texts) (cells_part g.cells r.header.program r.header.end ++ more)
        (first_place r.header.version (r.header.start + length_size r.header.width) r.header.width) (first_place r.header.version (start + length_size r.header.width) r.header.width) r.header.lists c1 first_lists lists_end
        (same-from r.header.program r.header.lists (texts_cells g m places r.header.width (table_read g r).texts) (texts_changes g m places r.header.width (table_read g r).texts)
        (texts-bytes g m places r.header.width (table_read g r).texts w.own) from)
        (clear-none g.cells (first_place r.header.version (r.header.start + length_size r.header.width) r.header.width) r.header.lists
        (clear-part g.cells r.header.start r.header.lists (first_place r.header.version (r.header.start + length_size r.header.width) r.header.width) r.header.lists clear.front (omega (arith, lp)) (omega arith))) in
        let lm = lists-moved g m bytes cells s l (take r.header.end g.bytes) (take (start + size) bytes) r.header (places_of r.header start size head) places
        (cells_part g.cells r.header.program r.header.end ++ more) r.dirs r.files r.behind w sides reads.lists reads.before moves k.rest kc.rest clear.lists in
        let gap = copied (take r.header.end g.bytes) (take (start + size) bytes) r.header.program [] r.behind lm.new_behind r.header.program lm.rest before (omega arith) in
        let last : drop (lm.new_behind + (r.header.program - r.behind)) (take (start + size) bytes) ≡ drop r.header.program (take r.header.end g.bytes) =
        gap.rest.is ∙ ap (λ (ys : List ℕ). ys ++ drop r.header.program (take r.header.end g.bytes)) (part-none (take r.header.end g.bytes) r.header.program) in
        let there = gap.rest.there in
        let ends = l1.ends in
        let long : length (drop (lm.new_behind + (r.header.program - r.behind)) (take (start + size) bytes)) ≡ length (drop r.header.program (take r.header.end g.bytes)) = ap length last in
        let program_new : lm.new_behind + (r.header.program - r.behind) ≡ first_place r.header.version (start + length_size r.header.width) r.header.width + head =
        omega (arith, ends, new_size, old_size, long, there, program, length-drop (lm.new_behind + (r.header.program - r.behind)) (take (start + size) bytes), length-drop r.header.program (take r.header.end g.bytes)) in
        let program_drop : drop (first_place r.header.version (start + length_size r.header.width) r.header.width + head) (take (start + size) bytes) ≡ drop r.header.program (take r.header.end g.bytes) =
        ap (λ (i : ℕ). drop i (take (start + size) bytes)) (sym program_new) ∙ last in
        let numbers_size : length (part (take r.header.end g.bytes) (first_place r.header.version (r.header.start + length_size r.header.width) r.header.width) r.header.lists)
        ≡ r.header.lists - first_place r.header.version (r.header.start + length_size r.header.width) r.header.width =
        part-length (take r.header.end g.bytes) (first_place r.header.version (r.header.start + length_size r.header.width) r.header.width) r.header.lists first_lists (omega (arith, inside, old_size)) in
        let header_new = header-moved g bytes (texts_changes g m places r.header.width (table_read g r).texts) start size head r.header x hp l1 k.both in
        let off : first_place r.header.version (r.header.start + length_size r.header.width) r.header.width + (ops_size r.header.version + 4) ≡ r.header.operands = omega (arith, operands, fp) in
        let off2 : first_place r.header.version (start + length_size r.header.width) r.header.width + (ops_size r.header.version + 4)
        ≡ flags_at r.header.version (start + length_size r.header.width) r.header.width + 4 = omega (arith, fp2) in
        let counts_both : Both (take r.header.end g.bytes) (take (start + size) bytes)
        (drop (ops_size r.header.version + 4) (part (take r.header.end g.bytes) (first_place r.header.version (r.header.start + length_size r.header.width) r.header.width) r.header.lists))
        r.header.operands (flags_at r.header.version (start + length_size r.header.width) r.header.width + 4) =
        subst (λ (i : ℕ). Both (take r.header.end g.bytes) (take (start + size) bytes)
        (drop (ops_size r.header.version + 4) (part (take r.header.end g.bytes) (first_place r.header.version (r.header.start + length_size r.header.width) r.header.width) r.header.lists)) i
        (flags_at r.header.version (start + length_size r.header.width) r.header.width + 4)) off
        (subst (λ (i : ℕ). Both (take r.header.end g.bytes) (take (start + size) bytes)
        (drop (ops_size r.header.version + 4) (part (take r.header.end g.bytes) (first_place r.header.version (r.header.start + length_size r.header.width) r.header.width) r.header.lists))
        (first_place r.header.version (r.header.start + length_size r.header.width) r.header.width + (ops_size r.header.version + 4)) i) off2
        (both-behind (take r.header.end g.bytes) (take (start + size) bytes) (part (take r.header.end g.bytes) (first_place r.header.version (r.header.start + length_size r.header.width) r.header.width) r.header.lists)
        (first_place r.header.version (r.header.start + length_size r.header.width) r.header.width) (first_place r.header.version (start + length_size r.header.width) r.header.width) (ops_size r.header.version + 4) k.both
        (omega (arith, numbers_size, operands, lists, fp)))) in
        let counts_size : length (drop (ops_size r.header.version + 4) (part (take r.header.end g.bytes) (first_place r.header.version (r.header.start + length_size r.header.width) r.header.width) r.header.lists))
        ≡ r.header.opcode_base - 1 =
        omega (
          arith,
          numbers_size,
          operands,
          lists,
          fp,
          length-drop (ops_size r.header.version + 4) (part (take r.header.end g.bytes) (first_place r.header.version (r.header.start + length_size r.header.width) r.header.width) r.header.lists),
        ) in
        let counts : Counts r.header (places_of r.header start size head) (take r.header.end g.bytes) (take (start + size) bytes) = record {
          bytes = drop (ops_size r.header.version + 4) (part (take r.header.end g.bytes) (first_place r.header.version (r.header.start + length_size r.header.width) r.header.width) r.header.lists);
          both = counts_both;
          count = counts_size;
        } in
        let same : Same (take r.header.end g.bytes) (take (start + size) bytes) r.header.program (first_place r.header.version (start + length_size r.header.width) r.header.width + head) = record {
          was = omega (arith, old_size, program);
          is = omega (arith, new_size, ends);
          same = sym program_drop;
        } in
        let pm = program-moved g bytes cells s l (take r.header.end g.bytes) (take (start + size) bytes) r.header (places_of r.header start size head) r.header.program
        (first_place r.header.version (start + length_size r.header.width) r.header.width + head) r.defined sides counts same (opcodes-of g.number r.header (take r.header.end g.bytes) r.header.program r.defined reads.program) in
        let none : mapped_path m [] ≡ [] = mapped_path-none m w.map in
        let dirs_same = moved-dirs g (edited_with g bytes cells s l) m r.dirs lm.new_dirs lm.dirs_moved in
        let files_same = moved-files g (edited_with g bytes cells s l) m r.files lm.new_files lm.files_moved in
        let all_same : file_texts (edited_with g bytes cells s l) lm.new_files ++ file_texts (edited_with g bytes cells s l) pm.files ≡ map (mapped_file m) (file_texts g r.files ++ file_texts g r.defined) =
        ap (λ (ys : List FileText). ys ++ file_texts (edited_with g bytes cells s l) pm.files) files_same
        ∙ ap (λ (ys : List FileText). map (mapped_file m) (file_texts g r.files) ++ ys) (kept-files g (edited_with g bytes cells s l) m (take r.header.end g.bytes) r.defined pm.files pm.kept stay)
        ∙ sym (map-append (mapped_file m) (file_texts g r.files) (file_texts g r.defined)) in
        let front_size : length (part (take r.header.end g.bytes) (r.header.start + length_size r.header.width) (length_place r.header.version (r.header.start + length_size r.header.width)))
        ≡ length_place r.header.version (r.header.start + length_size r.header.width) - (r.header.start + length_size r.header.width) =
        part-length (take r.header.end g.bytes) (r.header.start + length_size r.header.width) (length_place r.header.version (r.header.start + length_size r.header.width)) (omega (arith, lp))
        (omega (arith, operands, lists, inside, old_size, fp)) in
        let gap_size : length (part (take r.header.end g.bytes) r.behind r.header.program) ≡ r.header.program - r.behind =
        part-length (take r.header.end g.bytes) r.behind r.header.program before (omega (arith, old_size, program)) in
        let size_cells : length g.bytes ≡ length g.cells = sym (ap length w.own) ∙ length-bytes_of g.cells in
        let ce = cells-end g cells more r.behind r.header.program r.header.end lm.new_behind (first_place r.header.version (start + length_size r.header.width) r.header.width + head) (start + size) lm.cells before program
        (omega (arith, xw, xe, size_cells)) (sym program_new) (sym ends) in
        let counts_old : part (take r.header.end g.bytes) r.header.operands r.header.lists
        ≡ drop (ops_size r.header.version + 4) (part (take r.header.end g.bytes) (first_place r.header.version (r.header.start + length_size r.header.width) r.header.width) r.header.lists) =
        part-both (take (start + size) bytes) (take r.header.end g.bytes)
        (drop (ops_size r.header.version + 4) (part (take r.header.end g.bytes) (first_place r.header.version (r.header.start + length_size r.header.width) r.header.width) r.header.lists))
        (flags_at r.header.version (start + length_size r.header.width) r.header.width + 4) r.header.operands r.header.lists (record { was = counts_both.is; is = counts_both.was }) (omega (arith, counts_size, lists)) in
        let counts_new : part (take (start + size) bytes) (flags_at r.header.version (start + length_size r.header.width) r.header.width + 4)
        (first_place r.header.version (start + length_size r.header.width) r.header.width + (r.header.lists - first_place r.header.version (r.header.start + length_size r.header.width) r.header.width))
        ≡ part (take r.header.end g.bytes) r.header.operands r.header.lists =
        part-both (take r.header.end g.bytes) (take (start + size) bytes)
        (drop (ops_size r.header.version + 4) (part (take r.header.end g.bytes) (first_place r.header.version (r.header.start + length_size r.header.width) r.header.width) r.header.lists))
        r.header.operands (flags_at r.header.version (start + length_size r.header.width) r.header.width + 4)
        (first_place r.header.version (start + length_size r.header.width) r.header.width + (r.header.lists - first_place r.header.version (r.header.start + length_size r.header.width) r.header.width))
        counts_both (omega (arith, counts_size, operands, lists, fp, fp2)) ∙ sym counts_old in
        record {
          reading = record {
            header = moved_header r.header (places_of r.header start size head);
            dirs = lm.new_dirs;
            files = lm.new_files;
            defined = pm.files;
            behind = lm.new_behind;
          };
          reads = record {
            header = header-there g.order bytes start (moved_header r.header (places_of r.header start size head)) header_new;
            lists = lm.lists;
            before = omega (arith, program_new, before);
            program = opcodes-walk g.number (moved_header r.header (places_of r.header start size head)) (take (start + size) bytes)
                (first_place r.header.version (start + length_size r.header.width) r.header.width + head) pm.files pm.are;
          };
          begins = refl;
          ends = refl;
          says = meaning-same r.header.version r.header.width _ _ _ _ _ _ _ _ _ _ _ _ _ _
              (part-both (take r.header.end g.bytes) (take (start + size) bytes)
              (part (take r.header.end g.bytes) (r.header.start + length_size r.header.width) (length_place r.header.version (r.header.start + length_size r.header.width)))
              (r.header.start + length_size r.header.width) (start + length_size r.header.width) (length_place r.header.version (start + length_size r.header.width)) l1.front (omega (arith, front_size, lp, lp2)))
              (part-both (take r.header.end g.bytes) (take (start + size) bytes)
              (part (take r.header.end g.bytes) (first_place r.header.version (r.header.start + length_size r.header.width) r.header.width) r.header.lists)
              (first_place r.header.version (r.header.start + length_size r.header.width) r.header.width) (first_place r.header.version (start + length_size r.header.width) r.header.width)
              (first_place r.header.version (start + length_size r.header.width) r.header.width + (r.header.lists - first_place r.header.version (r.header.start + length_size r.header.width) r.header.width))
              k.both (omega (arith, numbers_size)))
              (ap (λ (ts : List (List ℕ)). entries_with ts (dirs_after (edited_with g bytes cells s l) r.header (places_of r.header start size head) (take (start + size) bytes))) dirs_same ∙ ap (entries_with (map (mapped_path m) (dir_texts g r.dirs))) lm.dir_columns_same ∙ entries-mapped m (dir_texts g r.dirs) (dir_columns g r))
              (ap (λ (ts : List FileText). entries_with (map file_path ts) (files_after (edited_with g bytes cells s l) r.header (places_of r.header start size head) (take (start + size) bytes) lm.new_files)) files_same
              ∙ ap (λ (ts : List (List ℕ)). entries_with ts (files_after (edited_with g bytes cells s l) r.header (places_of r.header start size head) (take (start + size) bytes) lm.new_files)) (file-paths m (file_texts g r.files))
              ∙ ap (entries_with (map (mapped_path m) (map file_path (file_texts g r.files)))) lm.file_columns_same
              ∙ entries-mapped m (map file_path (file_texts g r.files)) (file_columns g r))
              ce.gap
              ce.program_is
              (ap (λ (ts : List (List ℕ)). shown_rows r.header.version ts (file_texts (edited_with g bytes cells s l) lm.new_files ++ file_texts (edited_with g bytes cells s l) pm.files)
              (program_rows (line_params g.order r.header)
              (part (take (start + size) bytes) (flags_at r.header.version (start + length_size r.header.width) r.header.width + 4)
              (first_place r.header.version (start + length_size r.header.width) r.header.width + (r.header.lists - first_place r.header.version (r.header.start + length_size r.header.width) r.header.width)))
              (drop (first_place r.header.version (start + length_size r.header.width) r.header.width + head) (take (start + size) cells)))) dirs_same
              ∙ ap (λ (fs : List FileText). shown_rows r.header.version (map (mapped_path m) (dir_texts g r.dirs)) fs
              (program_rows (line_params g.order r.header)
              (part (take (start + size) bytes) (flags_at r.header.version (start + length_size r.header.width) r.header.width + 4)
              (first_place r.header.version (start + length_size r.header.width) r.header.width + (r.header.lists - first_place r.header.version (r.header.start + length_size r.header.width) r.header.width)))
              (drop (first_place r.header.version (start + length_size r.header.width) r.header.width + head) (take (start + size) cells)))) all_same
              ∙ ap (λ (bs : List ℕ). shown_rows r.header.version (map (mapped_path m) (dir_texts g r.dirs)) (map (mapped_file m) (file_texts g r.files ++ file_texts g r.defined))
              (program_rows (line_params g.order r.header) bs (drop (first_place r.header.version (start + length_size r.header.width) r.header.width + head) (take (start + size) cells)))) counts_new
              ∙ ap (λ (cs : List Cell). shown_rows r.header.version (map (mapped_path m) (dir_texts g r.dirs)) (map (mapped_file m) (file_texts g r.files ++ file_texts g r.defined))
              (program_rows (line_params g.order r.header) (part (take r.header.end g.bytes) r.header.operands r.header.lists) cs)) ce.program_is
              ∙ rows-mapped m r.header.version (dir_texts g r.dirs) (file_texts g r.files ++ file_texts g r.defined)
              (program_rows (line_params g.order r.header) (part (take r.header.end g.bytes) r.header.operands r.header.lists) (drop r.header.program (take r.header.end g.cells))) none);
          mentions = lm.mentions;
          over = ce.over;
          clear = record {
            front = clear-join cells start (first_place r.header.version (start + length_size r.header.width) r.header.width)
                (first_place r.header.version (start + length_size r.header.width) r.header.width + (r.header.lists - first_place r.header.version (r.header.start + length_size r.header.width) r.header.width)) c0
                (whole-clear g.cells cells (first_place r.header.version (r.header.start + length_size r.header.width) r.header.width)
                (first_place r.header.version (start + length_size r.header.width) r.header.width) r.header.lists kc.same
                (clear-part g.cells r.header.start r.header.lists (first_place r.header.version (r.header.start + length_size r.header.width) r.header.width) r.header.lists clear.front (omega (arith, lp)) (omega arith)));
            lists = lm.clear;
            apart = over;
          };
          tail = record {
            same = λ y at lt.
                let at_y : lm.new_behind ≤ y = at in
                let lt_y : y < start + size = lt in
                let place : lm.new_behind + (y - lm.new_behind) ≡ y = omega (arith, at_y) in
                ap (relocation_at cells) (sym place) ∙ ce.same (y - lm.new_behind) (omega (arith, at_y, lt_y, ends, program_new, before, program));
            within = λ y at lt.
                let at_y : lm.new_behind ≤ y = at in
                let lt_y : y < start + size = lt in
                let inside_y : r.behind + (y - lm.new_behind) < r.header.end = omega (arith, at_y, lt_y, ends, program_new, before, program) in
                inside_y;
          };
        }
