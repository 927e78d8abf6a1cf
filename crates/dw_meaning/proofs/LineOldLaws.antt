-- The lists of directories and files before version 5 under an edit.
use Rattle.dw_base.proofs.LebLaws.{uleb-inside}
use Rattle.std.proofs.Common.{◌≡◌, ◌≢◌, ℕ, zero, suc, ◌+◌, ◌-◌, ◌<◌, ◌≤◌, List, [], ◌∷◌, ◌++◌, length, drop, map, Option, Some, refl, sym, ap, ◌∙◌, subst, arith, append_assoc}
use Rattle.std.specs.Prelude.{⊤, option_and_then, option_map}
use Rattle.std.proofs.lemmas.List.{length-drop}
use Rattle.dw_base.specs.Cells.{Cell}
use Rattle.dw_base.specs.Lebs.{uleb_at}
use Rattle.dw_base.specs.LineMeanings.{place_text, LineColumn, number_column, leb_size, leb_columns, old_columns}
use Rattle.dw_base.specs.LineSources.{LineSource}
use Rattle.dw_base.specs.LineTables.{texts_of}
use Rattle.dw_base.specs.LineTexts.{inline_text, skip_lebs, file_numbers}
use Rattle.dw_base.specs.Paths.{PathMap, IsPathMap, mapped_path}
use Rattle.dw_base.specs.Texts.{text_in}
use Rattle.dw_base.specs.UnitStates.{read_value}
use Rattle.dw_base.specs.WrittenLines.{part, Change, path_changes, all_changes}
use Rattle.dw_base.specs.declared.line_numbers.TheConstants.{DW_LNCT_directory_index, DW_LNCT_timestamp, DW_LNCT_size}
use Rattle.dw_base.specs.declared.line_tables.FilePlace.{FilePlace}
use Rattle.dw_base.specs.declared.line_tables.LineHeader.{LineHeader}
use Rattle.dw_base.specs.declared.line_tables.TextPlace.{TextPlace}
use Rattle.dw_base.proofs.PathLaws.{mapped_path-some}
use Rattle.dw_meaning.specs.LineCells.{CellChange, all_path_cells, path_cells}
use Rattle.dw_meaning.proofs.CellRestLaws.{CellRest, cells-copied, clear-none, same-from}
use Rattle.dw_meaning.proofs.ClearLaws.{Clear, clear-join, clear-part, whole-clear}
use Rattle.dw_meaning.proofs.LineCellLaws.{SameChanges, paths-bytes, same-append}
use Rattle.dw_meaning.proofs.LineChangeLaws.{From, Rest, Copied, copied, from-before, from-end, all-before, part-length, text-room}
use Rattle.dw_meaning.proofs.LineColumnLaws.{edited_with, SourceMoves, inline-placed}
use Rattle.dw_meaning.proofs.LineListLaws.{MovedFiles}
use Rattle.dw_meaning.proofs.LineMoveLaws.{Sides, inline-changes, text-cells, text-moved}
use Rattle.dw_meaning.proofs.LineReadLaws.{Both, both-behind, uleb-both, text-both, inline-here, inline-inside, bound, made, some-same, skip-behind, file_numbers-both}
use Rattle.dw_meaning.proofs.LineWalkLaws.{OldDirs, OldFile, OldFiles}

some-length : (n : ℕ) → n ≢ 0 → 0 < n
some-length zero some = absurd (some refl)
some-length (suc n) some = omega arith

-- a path that isn't empty is mapped to one that isn't
mapped-some : (m : PathMap) (t : List ℕ) → IsPathMap m → length t ≢ 0 → length (mapped_path m t) ≢ 0
mapped-some m t p some e = omega (arith, e, mapped_path-some m t p (some-length (length t) some))

-- texts that are mapped, one by one
abbrev pub MovedTexts : LineSource → LineSource → PathMap → List TextPlace → List TextPlace → Type 0
MovedTexts g k m [] [] = ⊤
MovedTexts g k m [] (u ∷ us) = ⊥
MovedTexts g k m (t ∷ ts) [] = ⊥
MovedTexts g k m (t ∷ ts) (u ∷ us) = (place_text k u ≡ mapped_path m (place_text g t)) × MovedTexts g k m ts us

-- where a text of a list stands
inline-from : (g : LineSource) (m : PathMap) (places : TextPlace → Option ℕ) (h : LineHeader) (old : List ℕ) (end : ℕ) (cs : List Change) (p e : ℕ) (t : TextPlace)
    → inline_text g.number old p ≡ Some t → p + t.len + 1 ≤ e → From end e cs → From end p (path_changes g m places h.width t ++ cs)
inline-from g m places h old end cs p e t is le from =
    let both = inline-inside g.number old p t is in
    let last : e ≤ end = from-end end e cs from in
    let section : t.section ≡ g.number = ap (λ (x : TextPlace). x.section) both.1 in
    let at : t.at ≡ p = ap (λ (x : TextPlace). x.at) both.1 in
    subst (λ (ds : List Change). From end p (ds ++ cs)) (sym (inline-changes g m places h t section)) (omega (arith, at), omega (arith, at, le, last), all-before end e cs from)

pub dirs-from : (g : LineSource) (m : PathMap) (places : TextPlace → Option ℕ) (h : LineHeader) (old : List ℕ) (end : ℕ) (cs : List Change) (p e : ℕ) (ts : List TextPlace)
    → OldDirs g.number old p ts e → From end e cs → From end p (all_changes g m places h.width ts ++ cs) × (p ≤ e)
dirs-from g m places h old end cs p e [] d from =
    let last = d.3 in
    (from-before end p e cs (omega (arith, last)) from, omega (arith, last))
dirs-from g m places h old end cs p e (t ∷ ts) d from =
    let rest = dirs-from g m places h old end cs (p + t.len + 1) e ts d.2 from in
    let more = rest.1 in (
      subst (From end p) (sym (append_assoc (path_changes g m places h.width t) (all_changes g m places h.width ts) cs))
          (inline-from g m places h old end (all_changes g m places h.width ts ++ cs) p (p + t.len + 1) t d.0 (omega arith) rest.0),
      omega (arith, more),
    )

-- the empty text that ends a list is copied
record EndMoved (g : LineSource) (new : List ℕ) (q : ℕ) : Type 0 where
  text : TextPlace
  is : inline_text g.number new q ≡ Some text
  none : text.len ≡ 0

end-moved : (g : LineSource) (old new : List ℕ) (end : ℕ) (cs : List Change) (p q : ℕ) (t : TextPlace) → inline_text g.number old p ≡ Some t → t.len ≡ 0
    → Copied old new end cs p q (p + 1) → EndMoved g new q
end-moved g old new end cs p q t is none k =
    let both = inline-inside g.number old p t is in
    let len : t.len ≡ length (text_in old p) = ap (λ (x : TextPlace). x.len) both.1 in
    let room = text-room old p both.0 in
    let size : length (part old p (p + 1)) ≡ p + 1 - p = part-length old p (p + 1) (omega arith) (omega (arith, room)) in
    let there = text-both old new (part old p (p + 1)) p q k.both both.0 (omega (arith, size, len, none)) in
    record {
      text = record { section = g.number; at = q; len = length (text_in new q); field = q };
      is = inline-here g.number new q there.0;
      none = ap length there.1 ∙ sym len ∙ none;
    }

pub record DirsMoved (g k : LineSource) (m : PathMap) (old new : List ℕ) (end : ℕ) (cs : List Change)
    (us : List CellChange) (tail : List Cell) (q e : ℕ) (ts : List TextPlace) : Type 0 where
  pub texts : List TextPlace
  pub behind : ℕ
  pub are : OldDirs g.number new q texts behind
  pub moved : MovedTexts g k m ts texts
  pub rest : Rest old new end cs e behind
  pub cells : CellRest g.cells k.cells end us tail e behind
  pub clear : Clear k.cells q behind

-- a text of a list under an edit
record NameMoved (g k : LineSource) (m : PathMap) (old new : List ℕ) (end : ℕ) (cs : List Change)
    (us : List CellChange) (tail : List Cell) (p q : ℕ) (t : TextPlace) : Type 0 where
  text : TextPlace
  is : inline_text g.number new q ≡ Some text
  some : text.len ≢ 0
  says : place_text k text ≡ mapped_path m (place_text g t)
  at : text.at ≡ q
  rest : Rest old new end cs (p + t.len + 1) (q + text.len + 1)
  cells : CellRest g.cells k.cells end us tail (p + t.len + 1) (q + text.len + 1)
  clear : Clear k.cells q (q + text.len + 1)

name-moved : (g : LineSource) (m : PathMap) (bytes : List ℕ) (cells : List Cell) (s l old new : List ℕ) (h : LineHeader) (places : TextPlace → Option ℕ) (end : ℕ) (cs : List Change)
    (us : List CellChange) (tail : List Cell) (p q : ℕ) (t : TextPlace)
    → SourceMoves g m s l → Sides g bytes cells old new → inline_text g.number old p ≡ Some t → t.len ≢ 0 → Rest old new end (path_changes g m places h.width t ++ cs) p q
    → CellRest g.cells cells end (path_cells g m places h.width t ++ us) tail p q → SameChanges us cs → From end (p + t.len + 1) cs → Clear g.cells p (p + t.len + 1) → NameMoved g (edited_with g bytes cells s l) m old new end cs us tail p q t
name-moved g m bytes cells s l old new h places end cs us tail p q t w sides is some rest cell both from clear =
    let text = inline-inside g.number old p t is in
    let len : t.len ≡ length (text_in old p) = ap (λ (x : TextPlace). x.len) text.1 in
    let place : p + t.len + 1 ≡ p + length (text_in old p) + 1 = ap (λ (i : ℕ). p + i + 1) len in
    let r = text-moved g m bytes cells s l old new h places end cs p q w sides text.0
    (subst (λ (x : TextPlace). Rest old new end (path_changes g m places h.width x ++ cs) p q) text.1 rest) (subst (λ (i : ℕ). From end i cs) place from) in
    let size : length (text_in new q) ≡ length (mapped_path m (text_in old p)) = ap length r.says in
    let d = text-cells g m cells s l old h places end cs us tail p q w sides.was text.0
    (subst (λ (x : TextPlace). CellRest g.cells cells end (path_cells g m places h.width x ++ us) tail p q) text.1 cell) both (subst (λ (i : ℕ). From end i cs) place from)
    (subst (Clear g.cells p) place clear) in
    record {
      text = record { section = g.number; at = q; len = length (text_in new q); field = q };
      is = inline-here g.number new q r.ends;
      some = λ e. mapped-some m (text_in old p) w.map (λ none. some (len ∙ none)) (sym size ∙ e);
      says =
          inline-placed (edited_with g bytes cells s l) new q sides.is r.ends ∙ r.says
          ∙ ap (mapped_path m) (sym (ap (place_text g) text.1 ∙ inline-placed g old p sides.was text.0));
      at = refl;
      rest = subst (λ (i : ℕ). Rest old new end cs i (q + length (text_in new q) + 1)) (sym place)
          (subst (λ (i : ℕ). Rest old new end cs (p + length (text_in old p) + 1) (q + i + 1)) (sym size) r.rest);
      cells = subst (λ (i : ℕ). CellRest g.cells cells end us tail i (q + length (text_in new q) + 1)) (sym place)
          (subst (λ (i : ℕ). CellRest g.cells cells end us tail (p + length (text_in old p) + 1) (q + i + 1)) (sym size) d.rest);
      clear = subst (λ (i : ℕ). Clear cells q (q + i + 1)) (sym size) d.clear;
    }

pub dirs-moved : (g : LineSource) (m : PathMap) (bytes : List ℕ) (cells : List Cell) (s l old new : List ℕ) (h : LineHeader) (places : TextPlace → Option ℕ) (end : ℕ) (cs : List Change)
    (us : List CellChange) (tail : List Cell) (p q e : ℕ) (ts : List TextPlace)
    → SourceMoves g m s l → Sides g bytes cells old new → OldDirs g.number old p ts e → Rest old new end (all_changes g m places h.width ts ++ cs) p q
    → CellRest g.cells cells end (all_path_cells g m places h.width ts ++ us) tail p q → SameChanges us cs → From end e cs → Clear g.cells p e
    → DirsMoved g (edited_with g bytes cells s l) m old new end cs us tail q e ts
dirs-moved g m bytes cells s l old new h places end cs us tail p q e [] w sides d rest cell both from clear =
    let k = copied old new end cs p q (p + 1) rest (omega arith) (subst (λ (i : ℕ). From end i cs) d.3 from) in
    let x = end-moved g old new end cs p q d.0 d.1 d.2 k in
    let last : p + 1 ≤ end = from-end end (p + 1) cs (subst (λ (i : ℕ). From end i cs) d.3 from) in
    let c = cells-copied g.cells cells end us tail p q (p + 1) cell (omega arith) last (same-from end (p + 1) us cs both (subst (λ (i : ℕ). From end i cs) d.3 from))
    (clear-none g.cells p (p + 1) (subst (Clear g.cells p) d.3 clear)) in
    let place : q + (p + 1 - p) ≡ q + 1 = omega arith in
    record {
      texts = [];
      behind = q + 1;
      are = (x.text, x.is, x.none, refl);
      moved = tt;
      rest = subst (λ (i : ℕ). Rest old new end cs i (q + 1)) (sym d.3) (subst (λ (i : ℕ). Rest old new end cs (p + 1) i) place k.rest);
      cells = subst (λ (i : ℕ). CellRest g.cells cells end us tail i (q + 1)) (sym d.3) (subst (λ (i : ℕ). CellRest g.cells cells end us tail (p + 1) i) place c.rest);
      clear = subst (Clear cells q) place (whole-clear g.cells cells p q (p + 1) c.same (subst (Clear g.cells p) d.3 clear));
    }
dirs-moved g m bytes cells s l old new h places end cs us tail p q e (t ∷ ts) w sides d rest cell both from clear =
    let behind = dirs-from g m places h old end cs (p + t.len + 1) e ts d.2 from in
    let one = name-moved g m bytes cells s l old new h places end (all_changes g m places h.width ts ++ cs) (all_path_cells g m places h.width ts ++ us) tail p q t w sides d.0 d.1
    (subst (λ (ds : List Change). Rest old new end ds p q) (append_assoc (path_changes g m places h.width t) (all_changes g m places h.width ts) cs) rest)
    (subst (λ (vs : List CellChange). CellRest g.cells cells end vs tail p q) (append_assoc (path_cells g m places h.width t) (all_path_cells g m places h.width ts) us) cell)
    (same-append (all_path_cells g m places h.width ts) us (all_changes g m places h.width ts) cs (paths-bytes g m places h.width ts w.own) both) behind.0
    (clear-part g.cells p e p (p + t.len + 1) clear (omega arith) behind.1) in
    let more = dirs-moved g m bytes cells s l old new h places end cs us tail (p + t.len + 1) (q + one.text.len + 1) e ts w sides d.2 one.rest one.cells both from
    (clear-part g.cells p e (p + t.len + 1) e clear (omega arith) (omega arith)) in
    record {
      texts = one.text ∷ more.texts;
      behind = more.behind;
      are = (one.is, one.some, more.are);
      moved = (one.says, more.moved);
      rest = more.rest;
      cells = more.cells;
      clear = clear-join cells q (q + one.text.len + 1) more.behind one.clear more.clear;
    }

-- the numbers behind the name of a file
abbrev leb_step : ℕ → List ℕ → List ℕ → ℕ → Option (ℕ × ℕ) → List LineColumn
leb_step n ns table place o = record { name = n; value = number_column (read_value o) } ∷ leb_columns ns table (place + leb_size o)

leb-both : (ns : List ℕ) (old new xs : List ℕ) (p q e : ℕ) → Both old new xs p q → skip_lebs (length ns) old p ≡ Some e → e ≤ p + length xs → leb_columns ns new q ≡ leb_columns ns old p
leb-both [] old new xs p q e b is le = refl
leb-both (n ∷ ns) old new xs p q e b is le =
    let first = bound (λ (value : ℕ × ℕ). skip_lebs (length ns) old (p + value.1)) (uleb_at old p) e is in
    let behind : p + first.first.1 ≤ e = skip-behind (length ns) old (p + first.first.1) e first.rest in
    let here : uleb_at new q ≡ Some first.first = uleb-both old new xs p q first.first.0 first.first.1 b first.is (omega (arith, behind, le)) in
    let rest = leb-both ns old new (drop first.first.1 xs) (p + first.first.1) (q + first.first.1) e (both-behind old new xs p q first.first.1 b (omega (arith, behind, le)))
    first.rest (omega (arith, behind, le, length-drop first.first.1 xs)) in
    ap (leb_step n ns new q) here ∙ ap (λ (cs : List LineColumn). record { name = n; value = number_column first.first.0 } ∷ cs) rest
    ∙ sym (ap (leb_step n ns old p) first.is)

three-numbers : (table : List ℕ) (p : ℕ) (n : ℕ × ℕ) → file_numbers table p ≡ Some n → skip_lebs 3 table p ≡ Some n.1
unfolding file_numbers
three-numbers table p n is =
    let first = bound (λ (dir : ℕ × ℕ). option_map (λ (next : ℕ). (dir.0, next)) (skip_lebs 2 table (p + dir.1))) (uleb_at table p) n is in
    let rest = made (λ (next : ℕ). (first.first.0, next)) (skip_lebs 2 table (p + first.first.1)) n first.rest in
    ap (option_and_then (λ (value : ℕ × ℕ). skip_lebs 2 table (p + value.1))) first.is ∙ rest.is ∙ ap (λ (x : ℕ × ℕ). Some x.1) rest.same

skip-inside : (n : ℕ) (bs : List ℕ) (p e : ℕ) → skip_lebs n bs p ≡ Some e → p ≤ length bs → e ≤ length bs
skip-inside zero bs p e is le = omega (arith, some-same p e is, le)
skip-inside (suc n) bs p e is le =
    let first = bound (λ (value : ℕ × ℕ). skip_lebs n bs (p + value.1)) (uleb_at bs p) e is in
    skip-inside n bs (p + first.first.1) e first.rest (uleb-inside bs p first.first.0 first.first.1 first.is)

pub numbers-inside : (bs : List ℕ) (p : ℕ) (n : ℕ × ℕ) → file_numbers bs p ≡ Some n → p ≤ length bs → (p ≤ n.1) × (n.1 ≤ length bs)
numbers-inside bs p n is le = (skip-behind 3 bs p n.1 (three-numbers bs p n is), skip-inside 3 bs p n.1 (three-numbers bs p n is) le)

pub skips-inside : (n : ℕ) (bs : List ℕ) (p e : ℕ) → skip_lebs n bs p ≡ Some e → p ≤ length bs → (p ≤ e) × (e ≤ length bs)
skips-inside n bs p e is le = (skip-behind n bs p e is, skip-inside n bs p e is le)

-- where a file ends
pub file-place : (g : LineSource) (old : List ℕ) (p : ℕ) (f : FilePlace) (one : OldFile g.number old p f) → (p + f.text.len + 1 ≤ length old) × (p + f.text.len + 1 ≤ one.next) × (one.next ≤ length old)
file-place g old p f one =
    let both = inline-inside g.number old p f.text one.text in
    let len : f.text.len ≡ length (text_in old p) = ap (λ (x : TextPlace). x.len) both.1 in
    let room : p + f.text.len + 1 ≤ length old = omega (arith, len, text-room old p both.0) in
    let n = numbers-inside old (p + f.text.len + 1) (f.dir, one.next) one.numbers room in
    (room, n.0, n.1)

pub files-from : (g : LineSource) (m : PathMap) (places : TextPlace → Option ℕ) (h : LineHeader) (old : List ℕ) (end : ℕ) (cs : List Change) (p e : ℕ) (fs : List FilePlace)
    → OldFiles g.number old p fs e → From end e cs → From end p (all_changes g m places h.width (texts_of fs) ++ cs) × (p ≤ e)
files-from g m places h old end cs p e [] d from =
    let last = d.3 in
    (from-before end p e cs (omega (arith, last)) from, omega (arith, last))
files-from g m places h old end cs p e (f ∷ fs) d from =
    let rest = files-from g m places h old end cs d.0.next e fs d.1 from in
    let more = rest.1 in
    let place = file-place g old p f d.0 in
    let behind = place.1 in (
      subst (From end p) (sym (append_assoc (path_changes g m places h.width f.text) (all_changes g m places h.width (texts_of fs)) cs))
          (inline-from g m places h old end (all_changes g m places h.width (texts_of fs) ++ cs) p d.0.next f.text d.0.text (omega (arith, behind)) rest.0),
      omega (arith, behind, more),
    )

pub record OldMoved (g k : LineSource) (m : PathMap) (old new : List ℕ) (end : ℕ) (cs : List Change)
    (us : List CellChange) (tail : List Cell) (q e : ℕ) (fs : List FilePlace) : Type 0 where
  pub files : List FilePlace
  pub behind : ℕ
  pub are : OldFiles g.number new q files behind
  pub moved : MovedFiles g k m fs files
  pub rest : Rest old new end cs e behind
  pub cells : CellRest g.cells k.cells end us tail e behind
  pub clear : Clear k.cells q behind
  pub further : map (old_columns new) files ≡ map (old_columns old) fs

pub files-moved : (g : LineSource) (m : PathMap) (bytes : List ℕ) (cells : List Cell) (s l old new : List ℕ) (h : LineHeader) (places : TextPlace → Option ℕ) (end : ℕ) (cs : List Change)
    (us : List CellChange) (tail : List Cell) (p q e : ℕ) (fs : List FilePlace)
    → SourceMoves g m s l → Sides g bytes cells old new → OldFiles g.number old p fs e → Rest old new end (all_changes g m places h.width (texts_of fs) ++ cs) p q
    → CellRest g.cells cells end (all_path_cells g m places h.width (texts_of fs) ++ us) tail p q → SameChanges us cs → From end e cs → Clear g.cells p e
    → OldMoved g (edited_with g bytes cells s l) m old new end cs us tail q e fs
files-moved g m bytes cells s l old new h places end cs us tail p q e [] w sides d rest cell both from clear =
    let k = copied old new end cs p q (p + 1) rest (omega arith) (subst (λ (i : ℕ). From end i cs) d.3 from) in
    let x = end-moved g old new end cs p q d.0 d.1 d.2 k in
    let last : p + 1 ≤ end = from-end end (p + 1) cs (subst (λ (i : ℕ). From end i cs) d.3 from) in
    let c = cells-copied g.cells cells end us tail p q (p + 1) cell (omega arith) last (same-from end (p + 1) us cs both (subst (λ (i : ℕ). From end i cs) d.3 from))
    (clear-none g.cells p (p + 1) (subst (Clear g.cells p) d.3 clear)) in
    let place : q + (p + 1 - p) ≡ q + 1 = omega arith in
    record {
      files = [];
      behind = q + 1;
      are = (x.text, x.is, x.none, refl);
      moved = tt;
      rest = subst (λ (i : ℕ). Rest old new end cs i (q + 1)) (sym d.3) (subst (λ (i : ℕ). Rest old new end cs (p + 1) i) place k.rest);
      cells = subst (λ (i : ℕ). CellRest g.cells cells end us tail i (q + 1)) (sym d.3) (subst (λ (i : ℕ). CellRest g.cells cells end us tail (p + 1) i) place c.rest);
      clear = subst (Clear cells q) place (whole-clear g.cells cells p q (p + 1) c.same (subst (Clear g.cells p) d.3 clear));
      further = refl;
    }
files-moved g m bytes cells s l old new h places end cs us tail p q e (f ∷ fs) w sides d rest cell both from clear =
    let behind = files-from g m places h old end cs d.0.next e fs d.1 from in
    let place = file-place g old p f d.0 in
    let after = place.1 in
    let further_behind = behind.1 in
    let further_same : SameChanges (all_path_cells g m places h.width (texts_of fs) ++ us) (all_changes g m places h.width (texts_of fs) ++ cs) =
    same-append (all_path_cells g m places h.width (texts_of fs)) us (all_changes g m places h.width (texts_of fs)) cs (paths-bytes g m places h.width (texts_of fs) w.own) both in
    let one = name-moved g m bytes cells s l old new h places end (all_changes g m places h.width (texts_of fs) ++ cs) (all_path_cells g m places h.width (texts_of fs) ++ us) tail p q f.text w sides d.0.text d.0.some
    (subst (λ (ds : List Change). Rest old new end ds p q) (append_assoc (path_changes g m places h.width f.text) (all_changes g m places h.width (texts_of fs)) cs) rest)
    (subst (λ (vs : List CellChange). CellRest g.cells cells end vs tail p q) (append_assoc (path_cells g m places h.width f.text) (all_path_cells g m places h.width (texts_of fs)) us) cell)
    further_same (from-before end (p + f.text.len + 1) d.0.next (all_changes g m places h.width (texts_of fs) ++ cs) place.1 behind.0)
    (clear-part g.cells p e p (p + f.text.len + 1) clear (omega arith) (omega (arith, after, further_behind))) in
    let k = copied old new end (all_changes g m places h.width (texts_of fs) ++ cs) (p + f.text.len + 1) (q + one.text.len + 1) d.0.next one.rest place.1 behind.0 in
    let size : length (part old (p + f.text.len + 1) d.0.next) ≡ d.0.next - (p + f.text.len + 1) = part-length old (p + f.text.len + 1) d.0.next place.1 place.2 in
    let last : d.0.next ≤ end = from-end end d.0.next (all_changes g m places h.width (texts_of fs) ++ cs) behind.0 in
    let c = cells-copied g.cells cells end (all_path_cells g m places h.width (texts_of fs) ++ us) tail (p + f.text.len + 1) (q + one.text.len + 1) d.0.next one.cells place.1 last
    (same-from end d.0.next (all_path_cells g m places h.width (texts_of fs) ++ us) (all_changes g m places h.width (texts_of fs) ++ cs) further_same behind.0)
    (clear-none g.cells (p + f.text.len + 1) d.0.next (clear-part g.cells p e (p + f.text.len + 1) d.0.next clear (omega arith) further_behind)) in
    let numbers = file_numbers-both old new (part old (p + f.text.len + 1) d.0.next) (p + f.text.len + 1) (q + one.text.len + 1) (f.dir, d.0.next) k.both d.0.numbers (omega (arith, size, after)) in
    let next_q : ℕ = q + one.text.len + 1 + (d.0.next - (p + f.text.len + 1)) in
    let more = files-moved g m bytes cells s l old new h places end cs us tail d.0.next (q + one.text.len + 1 + (d.0.next - (p + f.text.len + 1))) e fs w sides d.1 k.rest c.rest both from
    (clear-part g.cells p e d.0.next e clear (omega (arith, after)) (omega arith)) in
    let columns_old = three-numbers old (p + f.text.len + 1) (f.dir, d.0.next) d.0.numbers in
    let at_old : f.text.at ≡ p = ap (λ (x : TextPlace). x.at) (inline-inside g.number old p f.text d.0.text).1 in
    let columns : old_columns new (record { text = one.text; dir = f.dir }) ≡ old_columns old f =
    ap (λ (i : ℕ). leb_columns (DW_LNCT_directory_index ∷ DW_LNCT_timestamp ∷ DW_LNCT_size ∷ []) new (i + one.text.len + 1)) one.at
    ∙ leb-both (DW_LNCT_directory_index ∷ DW_LNCT_timestamp ∷ DW_LNCT_size ∷ []) old new (part old (p + f.text.len + 1) d.0.next) (p + f.text.len + 1) (q + one.text.len + 1) d.0.next k.both columns_old
    (omega (arith, size, after))
    ∙ ap (λ (i : ℕ). leb_columns (DW_LNCT_directory_index ∷ DW_LNCT_timestamp ∷ DW_LNCT_size ∷ []) old (i + f.text.len + 1)) (sym at_old) in
    record {
      files = record { text = one.text; dir = f.dir } ∷ more.files;
      behind = more.behind;
      are = (record { text = one.is; some = one.some; next = q + one.text.len + 1 + (d.0.next - (p + f.text.len + 1)); numbers = numbers.1 }, more.are);
      moved = (refl, one.says, more.moved);
      rest = more.rest;
      cells = more.cells;
      clear = clear-join cells q (q + one.text.len + 1) more.behind one.clear
          (clear-join cells (q + one.text.len + 1) (q + one.text.len + 1 + (d.0.next - (p + f.text.len + 1))) more.behind
          (whole-clear g.cells cells (p + f.text.len + 1) (q + one.text.len + 1) d.0.next c.same
          (clear-part g.cells p e (p + f.text.len + 1) d.0.next clear (omega arith) further_behind)) more.clear);
      further = ap (λ (c : List LineColumn). c ∷ map (old_columns new) more.files) columns ∙ ap (λ (cs_ : List (List LineColumn)). old_columns old f ∷ cs_) more.further;
    }
