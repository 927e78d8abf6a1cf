-- The line tables of a generated file read, one after another.
use Rattle.std.proofs.Common.{◌≡◌, ◌≢◌, ℕ, zero, suc, ◌+◌, ◌^◌, ◌<◌, ◌≤◌, inl, inr, List, [], ◌∷◌, ◌++◌, length, take, slice_index, refl, sym, ap, ◌∙◌, arith, subst}
use Rattle.std.specs.Prelude.{codes}
use Rattle.std.specs.Fmt.{decimal}
use Rattle.std.proofs.lemmas.Bool.{cases_lt}
use Rattle.std.proofs.lemmas.List.{append_assoc, append-nil, length-append, take_at}
use Rattle.dw_base.specs.LinePrograms.{next_opcode}
use Rattle.dw_base.specs.LineReadings.{AreTables, LineReading, ReadsTable, TablesTo}
use Rattle.dw_base.specs.LineSources.{LineSource}
use Rattle.dw_base.specs.LineTables.{HasLists, old_lists, table_bytes}
use Rattle.dw_base.specs.declared.line_tables.LineHeader.{LineHeader}
use Rattle.dw_base.specs.Walks.{ComesTo}
use Rattle.dw_base.specs.declared.shared.Order.{Order}
use Rattle.dw_base.specs.declared.shared.Order.TheVariants.{Little}
use Rattle.dw_meaning.proofs.LineHeaderLaws.{HeaderIs, header-there}
use Rattle.dw_meaning.proofs.LineWalkLaws.{dirs-walk, files-walk, opcodes-walk}
use Rattle.dbg_gen.specs.Asked.{AreFew}
use Rattle.dbg_gen.specs.GeneratedLines.{line_header as generated_header, line_lists, line_numbers, line_program, line_table, lines_of, table_of}
use Rattle.dbg_gen.specs.GeneratedTexts.{chained}
use Rattle.gen_laws.proofs.LineHeadLaws.{head_at, header-is, table-parts, up_to}
use Rattle.gen_laws.proofs.LineListReadLaws.{dirs-there, dirs_of, file_name, files-there, files_of}
use Rattle.gen_laws.proofs.LineProgramReadLaws.{program-there}
use Rattle.dbg_gen.proofs.SizeLaws.{length-line_header, length-line_program, length-table_of}
use Rattle.gen_laws.proofs.StandLaws.{stands-at, stands-second}

-- where the lists of a table start that starts at a place
abbrev pub lists_place : ℕ → ℕ
lists_place start = start + 4 + 2 + 4 + 2 + 4 + 12

-- what is read of the table of a unit with so many variables that starts at a place
abbrev pub reading_at : ℕ → ℕ → ℕ → ℕ → LineReading
reading_at number start unit count = record {
  header = head_at start (length (generated_header unit)) (length (line_program unit count));
  dirs = dirs_of number (lists_place start);
  files = files_of number unit (lists_place start + 12 + 1 + 1);
  defined = [];
  behind = lists_place start + 12 + 1 + 1 + length (file_name unit) + 1 + 3 + 1;
}

-- the header is its numbers and its lists
pub lists-behind : (unit : ℕ) → length (generated_header unit) ≡ 18 + 12 + 1 + 1 + length (file_name unit) + 1 + 3 + 1
unfolding generated_header
lists-behind unit = omega (arith, length-append line_numbers (line_lists unit), lists-length unit)
  where
    lists-length : (unit : ℕ) → length (line_lists unit) ≡ 12 + 1 + 1 + length (file_name unit) + 1 + 3 + 1
    lists-length unit =
        let a = length-append (decimal unit) (codes ".c") in
        let b = length-append (decimal unit) (codes ".c" ++ (0 ∷ 0 ∷ 0 ∷ 0 ∷ 0 ∷ [])) in
        omega arith

version-old : ◌≢◌ {A = ℕ} 4 5
version-old e = omega (arith, e)

pub table-reads : (g : LineSource) (front rest : List ℕ) (unit count : ℕ) → g.order ≡ Little → g.bytes ≡ front ++ (line_table unit count ++ rest) → unit < 2 ^ 32 → count ≤ 16
    → ReadsTable g (length front) (reading_at g.number (length front) unit count)
unfolding generated_header
table-reads g front rest unit count order is small few =
    let start = length front in
    let header : List ℕ = generated_header unit in
    let program : List ℕ = line_program unit count in
    let h : LineHeader = head_at start (length header) (length program) in
    let long = length-line_header unit small in
    let rows = length-line_program unit count in
    let size = length-table_of header program in
    let all = length-append front (table_of header program) in
    let parts = table-parts front unit program in
    let cut : table_bytes g h ≡ up_to front unit program =
    ap (take h.end) (is ∙ sym (append_assoc front (table_of header program) rest)) ∙ take_at (up_to front unit program) rest h.end (omega (arith, size, all)) in
    let lists = stands-at _ _ _ (lists_place start) (stands-second (up_to front unit program) line_numbers (line_lists unit) (start + 4 + 2 + 4) parts.header) (omega arith) in
    let ends = lists-behind unit in
    let dirs = dirs_of g.number (lists_place start) in
    let files = files_of g.number unit (lists_place start + 12 + 1 + 1) in
    let behind = lists_place start + 12 + 1 + 1 + length (file_name unit) + 1 + 3 + 1 in
    record {
      header = header-there g.order g.bytes start h (subst (λ (o : Order). HeaderIs o g.bytes start h) (sym order) (header-is g.bytes front rest program unit is (omega (arith, long, rows, few))));
      lists = subst (λ (t : List ℕ). HasLists g h t dirs files behind) (sym cut)
          (old_lists dirs files (lists_place start + 12 + 1 + 1) behind version-old
          (dirs-walk g.number (up_to front unit program) (lists_place start) (lists_place start + 12 + 1 + 1) dirs (dirs-there g.number (up_to front unit program) unit (lists_place start) lists))
          (files-walk g.number (up_to front unit program) (lists_place start + 12 + 1 + 1) behind files
          (files-there g.number (up_to front unit program) unit (lists_place start) (omega arith) lists)));
      before = omega (arith, ends);
      program = subst (λ (t : List ℕ). ComesTo (next_opcode g.number h t) ([], h.program) []) (sym cut)
          (opcodes-walk g.number h (up_to front unit program) h.program []
          (program-there g.number h (up_to front unit program) unit count h.program refl refl parts.program_there (omega (arith, size, all))));
    }

-- one table more behind others
tables-more : (g : LineSource) (p m e : ℕ) (rs : List LineReading) (r : LineReading) → TablesTo g p rs m → ReadsTable g m r → r.header.end ≡ e → TablesTo g p (rs ++ r ∷ []) e
tables-more g p m e [] r same reads ends = (subst (λ (q : ℕ). ReadsTable g q r) (sym same) reads, ends)
tables-more g p m e (x ∷ xs) r all reads ends = (all.0, tables-more g x.header.end m e xs r all.1 reads ends)

-- what is chained is what is chained so far, the next, and the rest
pub record Split (f : ℕ → List ℕ) (n total : ℕ) : Type 0 where
  pub rest : List ℕ
  pub is : chained f total ≡ chained f n ++ (f n ++ rest)

pub split : (f : ℕ → List ℕ) (n total : ℕ) → n < total → Split f n total
split f n zero lt = absurd (omega arith)
split f n (suc total) lt =
    elim (cases_lt n total) [
      | inl before ↦
          let s = split f n total before in
          record {
            rest = s.rest ++ f total;
            is = ap (λ (xs : List ℕ). xs ++ f total) s.is ∙ append_assoc (chained f n) (f n ++ s.rest) (f total)
                ∙ ap (λ (xs : List ℕ). chained f n ++ xs) (append_assoc (f n) s.rest (f total));
          }
      | inr last ↦
          let same : total ≡ n = omega arith in
          record {
            rest = [];
            is = ap (λ (k : ℕ). chained f k ++ f k) same ∙ ap (λ (xs : List ℕ). chained f n ++ xs) (sym (append-nil (f n)));
          }
    ]

-- what is read of the tables of the first units
abbrev pub readings_of : ℕ → List ℕ → ℕ → List LineReading
readings_of number counts units = chained (λ unit. reading_at number (length (lines_of counts unit)) unit (slice_index counts unit) ∷ []) units

tables-to : (g : LineSource) (counts : List ℕ) (total units : ℕ) → g.order ≡ Little → g.bytes ≡ lines_of counts total → total < 2 ^ 32 → AreFew counts → units ≤ total
    → TablesTo g 0 (readings_of g.number counts units) (length (lines_of counts units))
unfolding lines_of
tables-to g counts total zero order is small few le = refl
tables-to g counts total (suc unit) order is small few le =
    let s = split (λ u. line_table u (slice_index counts u)) unit total (omega arith) in
    let size = length-table_of (generated_header unit) (line_program unit (slice_index counts unit)) in
    let both = length-append (lines_of counts unit) (line_table unit (slice_index counts unit)) in
    tables-more g 0 (length (lines_of counts unit)) (length (lines_of counts (suc unit))) (readings_of g.number counts unit) _
    (tables-to g counts total unit order is small few (omega arith))
    (table-reads g (lines_of counts unit) s.rest unit (slice_index counts unit) order (is ∙ s.is) (omega arith) (few.each unit))
    (omega (arith, size, both))

pub tables-read : (g : LineSource) (counts : List ℕ) (units : ℕ) → g.order ≡ Little → g.bytes ≡ lines_of counts units → units < 2 ^ 32 → AreFew counts
    → AreTables g (readings_of g.number counts units)
tables-read g counts units order is small few =
    subst (λ (n : ℕ). TablesTo g 0 (readings_of g.number counts units) n) (sym (ap length is)) (tables-to g counts units units order is small few (omega arith))
