-- What is known of a table that was read, and where a walk over its rows begins.
use Rattle.std.proofs.Common.{◌≡◌, ℕ, ◌+◌, ◌-◌, ◌<◌, ◌≤◌, ◌^◌, List, length, take, drop, refl, sym, ap, ◌∙◌, subst, arith}
use Rattle.std.proofs.lemmas.List.{drop-take, take-take, length-take-le, length-drop}
use Rattle.dw_base.proofs.RelocationFieldLaws.{bytes_of-take}
use Rattle.dw_base.proofs.ViewCellLaws.{bytes_of-view_cells}
use Rattle.dw_base.specs.Cells.{Cell, cells_at}
use Rattle.dw_base.specs.FileViews.{View, section_bytes, view_cells}
use Rattle.dw_base.specs.declared.shared.Order.{Order}
use Rattle.dw_base.specs.declared.shared.Width.{Width}
use Rattle.dw_base.specs.LineTables.{LineTable, IsLineTable, table_bytes}
use Rattle.dw_base.specs.LineMeanings.{line_params, program_rows}
use Rattle.dw_base.specs.WrittenLines.{part}
use Rattle.dw_lines.specs.ViewSources.{view_source}
use Rattle.dw_base.specs.LineOperations.{operations, Spells}
use Rattle.dw_base.specs.LineRegisters.{start_registers}
use Rattle.dw_rows.specs.ProgramPlaces.{StandsIn, cells_left}
use Rattle.dw_rows.specs.TableRows.{IsTableIn, IsWhole, RowsFit, RowsState, counts_of, counts_place, params_of, program_of, rows_start, table_rows}
use Rattle.dw_base.specs.declared.line_rows.LineParams.{LineParams}
use Rattle.dw_base.specs.declared.line_rows.Row.{Row}
use Rattle.dw_rows.proofs.HeaderLaws.{HeaderIs, header-back}
use Rattle.dw_rows.proofs.WholeLaws.{program-whole}

-- the parts of a table lie in its section
pub record TableFits (v : View) (t : LineTable) : Type 0 where
  pub start_in : t.start ≤ length (section_bytes v t.section)
  pub counts_in : counts_place t.start t.width t.version + (t.opcode_base - 1) ≤ t.end
  pub program_in : t.program ≤ t.end
  pub end_in : t.end ≤ length (section_bytes v t.section)
  pub ops_some : 0 < t.max_ops
  pub base_some : 0 < t.opcode_base

fits-by : (v : View) (t : LineTable) (start : ℕ) (own_start : ℕ) (width : Width) (version operands lists base program end ops : ℕ) (standard : _)
    → HeaderIs (section_bytes v t.section) start own_start width version operands lists base program end ops standard
    → t.start ≡ own_start → t.width ≡ width → t.version ≡ version → t.opcode_base ≡ base → t.program ≡ program → t.end ≡ end → t.max_ops ≡ ops → TableFits v t
fits-by v t start own_start width version operands lists base program end ops standard h s w ve b p e o =
    let own = h.start_is in
    let start_in = h.start_in in
    let place : counts_place t.start t.width t.version ≡ operands =
    ap (λ (n : ℕ). counts_place n t.width t.version) (s ∙ own) ∙ ap (λ (x : Width). counts_place start x t.version) w ∙ ap (counts_place start width) ve ∙ sym h.operands_is in
    let lists_is = h.lists_is in
    let lists_in = h.lists_in in
    let program_in = h.program_in in
    let end_in = h.end_in in
    let ops_some = h.ops_some in
    let base_some = h.base_some in
    record {
      start_in = omega (arith, s, own, start_in);
      counts_in = omega (arith, place, lists_is, lists_in, b, e);
      program_in = omega (arith, p, e, program_in);
      end_in = omega (arith, e, end_in);
      ops_some = omega (arith, o, ops_some);
      base_some = omega (arith, b, base_some);
    }

pub table-fits : (v : View) (t : LineTable) → IsTableIn v t → TableFits v t
table-fits v t is =
    let h = is.is.header in
    let same = is.is.is in
    fits-by v t is.start h.start h.width h.version h.operands h.lists h.opcode_base h.program h.end h.max_ops _
    (header-back v.order (section_bytes v t.section) is.start h is.is.header_is)
    (ap (λ (x : LineTable). x.start) same) (ap (λ (x : LineTable). x.width) same) (ap (λ (x : LineTable). x.version) same) (ap (λ (x : LineTable). x.opcode_base) same)
    (ap (λ (x : LineTable). x.program) same) (ap (λ (x : LineTable). x.end) same) (ap (λ (x : LineTable). x.max_ops) same)

-- operand counts that lie before the table's end
take-inside : (bytes : List ℕ) (place n end : ℕ) → place + n ≤ end → take n (drop place (take end bytes)) ≡ take n (drop place bytes)
take-inside bytes place n end le =
    let sum : place + (end - place) ≡ end = omega (arith, le) in
    let small : n ≤ end - place = omega (arith, le) in
    ap (λ (k : ℕ). take n (drop place (take k bytes))) (sym sum) ∙ ap (take n) (drop-take place (end - place) bytes) ∙ take-take n (end - place) (drop place bytes) small

-- the operand counts and the program of a table are those that its header says
pub counts-said : (v : View) (t : LineTable) (is : IsTableIn v t)
    → counts_of v t ≡ take (is.is.header.opcode_base - 1) (drop is.is.header.operands (table_bytes (view_source v t.section) is.is.header))
counts-said v t is =
    let h = is.is.header in
    let same = is.is.is in
    let header = header-back v.order (section_bytes v t.section) is.start h is.is.header_is in
    let fits = table-fits v t is in
    let counts_in = fits.counts_in in
    let base : t.opcode_base ≡ h.opcode_base = ap (λ (x : LineTable). x.opcode_base) same in
    let end : t.end ≡ h.end = ap (λ (x : LineTable). x.end) same in
    let start : t.start ≡ is.start = ap (λ (x : LineTable). x.start) same ∙ header.start_is in
    let place : counts_place t.start t.width t.version ≡ h.operands =
    ap (λ (n : ℕ). counts_place n t.width t.version) start ∙ ap (λ (x : Width). counts_place is.start x t.version) (ap (λ (x : LineTable). x.width) same)
    ∙ ap (counts_place is.start h.width) (ap (λ (x : LineTable). x.version) same) ∙ sym header.operands_is in
    let room : h.operands + (h.opcode_base - 1) ≤ h.end = omega (arith, counts_in, place, base, end) in
    ap (λ (n : ℕ). take (n - 1) (drop (counts_place t.start t.width t.version) (section_bytes v t.section))) base
    ∙ ap (λ (n : ℕ). take (h.opcode_base - 1) (drop n (section_bytes v t.section))) place
    ∙ sym (take-inside (section_bytes v t.section) h.operands (h.opcode_base - 1) h.end room)

pub program-said : (v : View) (t : LineTable) (is : IsTableIn v t) → drop is.is.header.program (take is.is.header.end (view_cells v t.section)) ≡ program_of v t
program-said v t is =
    let h = is.is.header in
    let same = is.is.is in
    ap (λ (n : ℕ). drop n (take h.end (view_cells v t.section))) (sym (ap (λ (x : LineTable). x.program) same))
    ∙ ap (λ (n : ℕ). drop t.program (take n (view_cells v t.section))) (sym (ap (λ (x : LineTable). x.end) same))

pub table-whole : (v : View) (t : LineTable) → IsTableIn v t → IsWhole (rows_start v t)
table-whole v t is =
    let h = is.is.header in
    let same = is.is.is in
    let header = header-back v.order (section_bytes v t.section) is.start h is.is.header_is in
    subst (λ (cs : List Cell). Spells (params_of v.order t) (counts_of v t) cs (operations (params_of v.order t) (counts_of v t) cs)) (program-said v t is)
    (program-whole (params_of v.order t) t.section h (table_bytes (view_source v t.section) h) (take h.end (view_cells v t.section)) (counts_of v t) is.is.defined
    (bytes_of-take h.end (view_cells v t.section) ∙ ap (take h.end) (bytes_of-view_cells v t.section)) header.standard_is
    (sym (ap (λ (x : LineTable). x.line_range) same)) (sym (ap (λ (x : LineTable). x.opcode_base) same)) (counts-said v t is) is.is.program)

-- the rows of a table are those that it means
pub rows-meant : (v : View) (t : LineTable) (is : IsTableIn v t) → table_rows v t
    ≡ program_rows (line_params v.order is.is.header) (part (table_bytes (view_source v t.section) is.is.header) is.is.header.operands is.is.header.lists)
    (drop is.is.header.program (take is.is.header.end (view_cells v t.section)))
rows-meant v t is =
    let h = is.is.header in
    let header = header-back v.order (section_bytes v t.section) is.start h is.is.header_is in
    let lists_is = header.lists_is in
    let params : params_of v.order t ≡ line_params v.order h = ap (params_of v.order) is.is.is in
    let size : h.opcode_base - 1 ≡ h.lists - h.operands = omega (arith, lists_is) in
    let counts : counts_of v t ≡ part (table_bytes (view_source v t.section) h) h.operands h.lists =
    counts-said v t is ∙ ap (λ (n : ℕ). take n (drop h.operands (table_bytes (view_source v t.section) h))) size in
    ap (λ (x : LineParams). program_rows x (counts_of v t) (program_of v t)) params
    ∙ ap (λ (xs : List ℕ). program_rows (line_params v.order h) xs (program_of v t)) counts
    ∙ ap (program_rows (line_params v.order h) (part (table_bytes (view_source v t.section) h) h.operands h.lists)) (sym (program-said v t is))

-- parts of the section's bytes
pub counts-cut : (bytes : List ℕ) (place n : ℕ) → take (place + n - place) (drop place bytes) ≡ take n (drop place bytes)
counts-cut bytes place n =
    let same : place + n - place ≡ n = omega arith in
    ap (λ (k : ℕ). take k (drop place bytes)) same

pub program-cut : {X : Type 0} (xs : List X) (place end : ℕ) → place ≤ end → take (end - place) (drop place xs) ≡ drop place (take end xs)
program-cut xs place end le =
    let sum : place + (end - place) ≡ end = omega (arith, le) in
    sym (drop-take place (end - place) xs) ∙ ap (λ (k : ℕ). drop place (take k xs)) sum

left-size : (bytes left : List ℕ) (place end : ℕ) → end ≤ length bytes → left ≡ drop place (take end bytes) → length left ≡ end - place
left-size bytes left place end inside l =
    ap length l ∙ length-drop place (take end bytes) ∙ ap (λ (n : ℕ). n - place) (length-take-le end bytes inside)

pub ruleset cut_laws = (counts-cut, program-cut)

-- the walk before the first row: the program stands in its section,
pub program-stands : (v : View) (t : LineTable) (section place : ℕ) (bytes left : List ℕ) → IsTableIn v t → section ≡ t.section → bytes ≡ section_bytes v section → length bytes ≤ 2 ^ 31
    → place ≡ t.program → left ≡ drop t.program (take t.end bytes) → StandsIn v section place left
program-stands v t section place bytes left is s b small p l =
    let fits = table-fits v t is in
    let program_in = fits.program_in in
    let end_in = fits.end_in in
    let own : bytes ≡ section_bytes v t.section = b ∙ ap (section_bytes v) s in
    let all : length bytes ≡ length (section_bytes v t.section) = ap length own in
    let all_own : length bytes ≡ length (section_bytes v section) = ap length b in
    let size : length left ≡ t.end - t.program = left-size bytes left t.program t.end (omega (arith, end_in, all)) l in
    record {
      there = subst (λ (n : ℕ). n < length v.sections) (sym s) is.there;
      within = omega (arith, size, program_in, end_in, all, all_own, p);
      small = omega (arith, size, program_in, end_in, all, small, p);
      is = l ∙ sym (program-cut bytes t.program t.end program_in) ∙ ap (λ (n : ℕ). take n (drop t.program bytes)) (sym size)
          ∙ ap (λ (n : ℕ). take (length left) (drop n bytes)) (sym p) ∙ ap (λ (bs : List ℕ). take (length left) (drop place bs)) b;
    }

-- and is the table's
pub program-cells : (v : View) (t : LineTable) (section place : ℕ) (bytes left : List ℕ) → IsTableIn v t → section ≡ t.section → bytes ≡ section_bytes v section
    → place ≡ t.program → left ≡ drop t.program (take t.end bytes) → cells_left v section place left ≡ program_of v t
program-cells v t section place bytes left is s b p l =
    let fits = table-fits v t is in
    let program_in = fits.program_in in
    let end_in = fits.end_in in
    let all : length bytes ≡ length (section_bytes v t.section) = ap length (b ∙ ap (section_bytes v) s) in
    let size : length left ≡ t.end - t.program = left-size bytes left t.program t.end (omega (arith, end_in, all)) l in
    ap (λ (n : ℕ). cells_at (view_cells v n) place (length left)) s ∙ ap (λ (n : ℕ). cells_at (view_cells v t.section) n (length left)) p
    ∙ ap (cells_at (view_cells v t.section) t.program) size ∙ program-cut (view_cells v t.section) t.program t.end program_in

pub start-is : (v : View) (t : LineTable) (section place : ℕ) (order : Order) (params : LineParams) (bytes counts left : List ℕ) (registers : Row) → IsTableIn v t → section ≡ t.section
    → bytes ≡ section_bytes v section → place ≡ t.program
    → order ≡ v.order → params ≡ params_of order t → counts ≡ take (t.opcode_base - 1) (drop (counts_place t.start t.width t.version) bytes)
    → left ≡ drop t.program (take t.end bytes) → registers ≡ start_registers params
    → ◌≡◌ {A = RowsState} (record { params = params; counts = counts; left = cells_left v section place left; registers = registers }) (rows_start v t)
start-is v t section place order params bytes counts left registers is s b n o p c l r =
    rw (program-cells v t section place bytes left is s b n l, r, p, o, c, b, s) refl

pub start-whole : (v : View) (t : LineTable) (s : RowsState) → IsTableIn v t → s ≡ rows_start v t → IsWhole s
start-whole v t s is e = subst (λ (x : RowsState). IsWhole x) (sym e) (table-whole v t is)

pub start-fits : (v : View) (t : LineTable) (section place : ℕ) (order : Order) (params : LineParams) (bytes counts left : List ℕ) (registers : Row) → IsTableIn v t
    → section ≡ t.section → length bytes ≤ 2 ^ 31 → bytes ≡ section_bytes v section → place ≡ t.program → order ≡ v.order → params ≡ params_of order t
    → counts ≡ take (t.opcode_base - 1) (drop (counts_place t.start t.width t.version) bytes) → left ≡ drop t.program (take t.end bytes) → registers.op_index ≡ 0
    → RowsFit v section place left (record { params = params; counts = counts; left = cells_left v section place left; registers = registers })
start-fits v t section place order params bytes counts left registers is s small b n o p c l index =
    let fits = table-fits v t is in
    let counts_in = fits.counts_in in
    let end_in = fits.end_in in
    let ops_some = fits.ops_some in
    let all : length bytes ≡ length (section_bytes v t.section) = ap length (b ∙ ap (section_bytes v) s) in
    let behind : length (drop (counts_place t.start t.width t.version) bytes) ≡ length bytes - counts_place t.start t.width t.version =
    length-drop (counts_place t.start t.width t.version) bytes in
    let room : t.opcode_base - 1 ≤ length (drop (counts_place t.start t.width t.version) bytes) = omega (arith, behind, counts_in, end_in, all) in
    let max : params.max_ops ≡ t.max_ops = ap (λ (x : LineParams). x.max_ops) p in
    record {
      stands = program-stands v t section place bytes left is s b small n l;
      order = ap (λ (x : LineParams). x.order) p ∙ o;
      counts = ap length c ∙ length-take-le (t.opcode_base - 1) (drop (counts_place t.start t.width t.version) bytes) room
          ∙ sym (ap (λ (x : LineParams). x.opcode_base - 1) p);
      some = omega (arith, max, ops_some);
      index = omega (arith, index, max, ops_some);
    }

-- what the parts of a table that was read meet
pub small-start : (v : View) (t : LineTable) (bytes : List ℕ) → IsTableIn v t → bytes ≡ section_bytes v t.section → length bytes ≤ 2 ^ 31 → t.start ≤ 2 ^ 31
small-start v t bytes is b small =
    let start_in = (table-fits v t is).start_in in
    let all : length bytes ≡ length (section_bytes v t.section) = ap length b in
    omega (arith, start_in, all, small)

pub some-base : (v : View) (t : LineTable) → IsTableIn v t → 0 < t.opcode_base
some-base v t is = (table-fits v t is).base_some

pub counts-inside : (v : View) (t : LineTable) (bytes : List ℕ) → IsTableIn v t → bytes ≡ section_bytes v t.section
    → counts_place t.start t.width t.version + (t.opcode_base - 1) ≤ length bytes
counts-inside v t bytes is b =
    let fits = table-fits v t is in
    let counts_in = fits.counts_in in
    let end_in = fits.end_in in
    let all : length bytes ≡ length (section_bytes v t.section) = ap length b in
    omega (arith, counts_in, end_in, all)

pub program-before : (v : View) (t : LineTable) → IsTableIn v t → t.program ≤ t.end
program-before v t is = (table-fits v t is).program_in

pub end-inside : (v : View) (t : LineTable) (bytes : List ℕ) → IsTableIn v t → bytes ≡ section_bytes v t.section → t.end ≤ length bytes
end-inside v t bytes is b =
    let end_in = (table-fits v t is).end_in in
    let all : length bytes ≡ length (section_bytes v t.section) = ap length b in
    omega (arith, end_in, all)

pub ruleset start_laws = (start-is, start-whole, start-fits, program-stands, small-start, some-base, counts-inside, program-before, end-inside)

-- the bytes of the table's section
pub table-bytes : (v : View) (t : LineTable) (section : ℕ) (bytes : List ℕ) → bytes ≡ section_bytes v section → section ≡ t.section → bytes ≡ section_bytes v t.section
table-bytes v t section bytes b s = b ∙ ap (section_bytes v) s

-- a table that was read is one in the view
pub read-table : (v : View) (section start : ℕ) (t : LineTable) → section < length v.sections → IsLineTable (view_source v section) start t → IsTableIn v t
read-table v section start t there is =
    let own : section ≡ t.section = sym (ap (λ (x : LineTable). x.section) is.is) in
    record {
      start = start;
      there = subst (λ (n : ℕ). n < length v.sections) own there;
      is = subst (λ (n : ℕ). IsLineTable (view_source v n) start t) own is;
    }

pub ruleset caller_laws = (read-table)
