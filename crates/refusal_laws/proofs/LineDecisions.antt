-- Line tables fill their section, or a condition holds (DWARF 5, 6.2.4 and 6.2.5).
use Rattle.std.proofs.Common.{Bool, true, false, ◌≡◌, ◌≢◌, ◌⊎◌, inl, inr, ℕ, zero, suc, ℤ, ◌+◌, ◌-◌, ◌<◌, ◌≤◌, ◌==◌, nat_le, nat_lt, if◌then◌else◌, List, [], ◌∷◌, ◌++◌, length, take, drop, slice_index, Option, Some, None, refl, sym, ap, subst, arith}
use Rattle.std.specs.Prelude.{option_map, Result, Ok, Err}
use Rattle.std.proofs.lemmas.Bool.{cases_eq, cases_lt, ltb-true}
use Rattle.std.proofs.lemmas.List.{length-drop, length-take-le}
use Rattle.dw_base.specs.DebugData.{DebugData, line_source}
use Rattle.dw_base.specs.Lebs.{sleb_at, uleb_at}
use Rattle.dw_base.specs.LineEntries.{bad_table, entries_at}
use Rattle.dw_base.specs.LineFails.{LineFails, ListsFail, lists, new_dirs, new_files, no_header, old_dirs, old_files, passes, program}
use Rattle.dw_base.specs.LineHeaders.{line_header}
use Rattle.dw_base.specs.LinePrograms.{behind_bytes, extended_at, extended_by, extended_in, extended_operands, if_ranged, next_opcode, opcode_at, plain_opcode, standard_end, with_file}
use Rattle.dw_base.specs.LineReadings.{LineReading, ReadsTable, TablesTo}
use Rattle.dw_base.specs.LineSources.{LineSource}
use Rattle.dw_base.specs.LineTables.{HasLists, new_lists, old_lists, table_bytes, texts_of}
use Rattle.dw_base.specs.LineTexts.{file_numbers, inline_text, skip_lebs}
use Rattle.dw_base.specs.OldLineLists.{dir_step, file_step, next_dir, next_file}
use Rattle.dw_base.specs.Refusals.{at}
use Rattle.dw_base.specs.Texts.{ends_in, text_in}
use Rattle.dw_base.specs.Walks.{ComesTo, Step, ends, goes}
use Rattle.dw_base.specs.declared.fault.Kind.TheVariants.{Line}
use Rattle.dw_base.specs.declared.fault.Refusal.{Refusal}
use Rattle.dw_base.specs.declared.line_numbers.TheConstants.{DW_LNS_advance_line, DW_LNS_const_add_pc, DW_LNS_fixed_advance_pc}
use Rattle.dw_base.specs.declared.line_tables.FilePlace.{FilePlace}
use Rattle.dw_base.specs.declared.line_tables.LineHeader.{LineHeader}
use Rattle.dw_base.specs.declared.line_tables.Opcode.{Opcode}
use Rattle.dw_base.specs.declared.line_tables.TextPlace.{TextPlace}
use Rattle.dw_base.proofs.TextLaws.{ends_in-inside, length-text}
use Rattle.dw_meaning.specs.DataFails.{LinesFail, line_table}
use Rattle.dw_meaning.proofs.LineHeaderLaws.{first_place, flags-place, header-is, length-place}
use Rattle.dw_meaning.proofs.LineOldLaws.{numbers-inside, skips-inside}
use Rattle.dw_meaning.proofs.LineReadLaws.{bound, if-some, inline-inside, made, some-same}
use Rattle.refusal_laws.specs.Decided.{Decided, refused, taken}
use Rattle.refusal_laws.specs.Readable.{HasLines}
use Rattle.refusal_laws.proofs.WalkDecisions.{Forward, WalkIs, breaks, comes, walk-decided}

-- ### Steps go forward

ends-goes : {S X : Type 0} (s : S) (x : X) → ◌≡◌ {A = Step S X} (ends x) (goes s) → ⊥
ends-goes s x e = cc

goes-same : {S X : Type 0} (s t : S) → ◌≡◌ {A = Step S X} (goes s) (goes t) → s ≡ t
goes-same {S} {X} s t e = ap (went s) e
  where
    went : S → Step S X → S
    went d (ends z) = d
    went d (goes u) = u

-- a text lies in the bytes, with its NUL
text-inside : (section : ℕ) (table : List ℕ) (p : ℕ) (t : TextPlace) → inline_text section table p ≡ Some t → p + t.len < length table
unfolding ends_in text_in
text-inside section table p t e =
    let both = inline-inside section table p t e in
    let there : p < length table = ends_in-inside table p both.0 in
    let len : t.len ≡ length (text_in table p) = ap (λ (x : TextPlace). x.len) both.1 in
    let short : length (text_in table p) < length (drop p table) = length-text (drop p table) both.0 in
    omega (arith, there, len, short, length-drop p table)

-- the directories before version 5
abbrev dir_by : List TextPlace × ℕ → TextPlace → Bool → Step (List TextPlace × ℕ) (List TextPlace × ℕ)
dir_by s t b = if b then ends (s.0, s.1 + 1) else goes (s.0 ++ t ∷ [], s.1 + t.len + 1)

dir-behind : (s u : List TextPlace × ℕ) (t : TextPlace) → dir_step s t ≡ goes u → s.1 < u.1
dir-behind s u t e = by (t.len == 0) e
  where
    by : (b : Bool) → dir_by s t b ≡ goes u → s.1 < u.1
    by true f = absurd (ends-goes u (s.0, s.1 + 1) f)
    by false f =
        let same : ◌≡◌ {A = List TextPlace × ℕ} (s.0 ++ t ∷ [], s.1 + t.len + 1) u = goes-same (s.0 ++ t ∷ [], s.1 + t.len + 1) u f in
        let place : s.1 + t.len + 1 ≡ u.1 = ap (λ (y : List TextPlace × ℕ). y.1) same in
        omega (arith, place)

dir-step : (section : ℕ) (table : List ℕ) (s u : List TextPlace × ℕ) → next_dir section table s ≡ Some (goes u) → (s.1 < u.1) × (s.1 < length table)
unfolding next_dir
dir-step section table s u e =
    let first = made (dir_step s) (inline_text section table s.1) (goes u) e in
    (dir-behind s u first.first first.same, ends_in-inside table s.1 (inline-inside section table s.1 first.first first.is).0)

dirs-forward : (section : ℕ) (table : List ℕ) → Forward (next_dir section table) (λ (s : List TextPlace × ℕ). s.1) (length table)
dirs-forward section table = record { behind = λ s u e. (dir-step section table s u e).0; there = λ s u e. (dir-step section table s u e).1 }

-- the files before version 5
abbrev file_made : List FilePlace × ℕ → TextPlace → ℕ × ℕ → Step (List FilePlace × ℕ) (List FilePlace × ℕ)
file_made s t n = goes (s.0 ++ record { text = t; dir = n.0 } ∷ [], n.1)

abbrev file_by : List ℕ → List FilePlace × ℕ → TextPlace → Bool → Option (Step (List FilePlace × ℕ) (List FilePlace × ℕ))
file_by table s t b = if b then Some (ends (s.0, s.1 + 1)) else option_map (file_made s t) (file_numbers table (s.1 + t.len + 1))

file-behind : (table : List ℕ) (s u : List FilePlace × ℕ) (t : TextPlace) → s.1 + t.len < length table → file_step table s t ≡ Some (goes u) → s.1 < u.1
file-behind table s u t room e = by (t.len == 0) e
  where
    by : (b : Bool) → file_by table s t b ≡ Some (goes u) → s.1 < u.1
    by true f = absurd (ends-goes u (s.0, s.1 + 1) (some-same _ _ f))
    by false f =
        let first = made (file_made s t) (file_numbers table (s.1 + t.len + 1)) (goes u) f in
        let same : ◌≡◌ {A = List FilePlace × ℕ} (s.0 ++ record { text = t; dir = first.first.0 } ∷ [], first.first.1) u =
        goes-same (s.0 ++ record { text = t; dir = first.first.0 } ∷ [], first.first.1) u first.same in
        let place : first.first.1 ≡ u.1 = ap (λ (y : List FilePlace × ℕ). y.1) same in
        let numbers = numbers-inside table (s.1 + t.len + 1) first.first first.is (omega (arith, room)) in
        let forward = numbers.0 in
        omega (arith, place, forward)

file-step : (section : ℕ) (table : List ℕ) (s u : List FilePlace × ℕ) → next_file section table s ≡ Some (goes u) → (s.1 < u.1) × (s.1 < length table)
unfolding next_file
file-step section table s u e =
    let first = bound (file_step table s) (inline_text section table s.1) (goes u) e in
    let room : s.1 + first.first.len < length table = text-inside section table s.1 first.first first.is in
    (file-behind table s u first.first room first.rest, omega (arith, room))

files-forward : (section : ℕ) (table : List ℕ) → Forward (next_file section table) (λ (s : List FilePlace × ℕ). s.1) (length table)
files-forward section table = record { behind = λ s u e. (file-step section table s u e).0; there = λ s u e. (file-step section table s u e).1 }

-- an opcode
plain-next : (r : Option ℕ) (o : Opcode) → plain_opcode r ≡ Some o → r ≡ Some o.next
plain-next None o e = absurd cc
plain-next (Some n) o e = ap (λ (x : Opcode). Some x.next) (some-same (record { next = n; file = None }) o e)

ranged-next : (h : LineHeader) (n next : ℕ) → if_ranged h n ≡ Some next → n ≡ next
unfolding if_ranged
ranged-next h n next e = by (h.line_range == 0) e
  where
    by : (b : Bool) → (if b then None else Some n) ≡ Some next → n ≡ next
    by true f = absurd cc
    by false f = some-same n next f

standard-behind : (h : LineHeader) (table : List ℕ) (opcode p next : ℕ) → p ≤ length table → standard_end h table opcode p ≡ Some next → p ≤ next
unfolding standard_end
standard-behind h table opcode p next room e = by (opcode == DW_LNS_advance_line) (opcode == DW_LNS_const_add_pc) (opcode == DW_LNS_fixed_advance_pc) e
  where
    by : (a b c : Bool) → (if a then option_map (λ (k : ℤ × ℕ). p + k.1) (sleb_at table p)
        else (if b then if_ranged h p
        else (if c then behind_bytes table p 2
        else skip_lebs (slice_index table (h.operands + (opcode - 1))) table p))) ≡ Some next → p ≤ next
    by true b c f =
        let first = made (λ (k : ℤ × ℕ). p + k.1) (sleb_at table p) next f in
        let same = first.same in
        omega (arith, same)
    by false true c f = let same : p ≡ next = ranged-next h p next f in omega (arith, same)
    by false false true f =
        let both = if-some (nat_le (p + 2) (length table)) (Some (p + 2)) next f in
        let same : p + 2 ≡ next = some-same (p + 2) next both.1 in
        omega (arith, same)
    by false false false f = (skips-inside (slice_index table (h.operands + (opcode - 1))) table p next f room).0

by-next : (next : ℕ) (r : Option (Option FilePlace)) (o : Opcode) → extended_by next r ≡ Some o → next ≡ o.next
by-next next None o e = absurd cc
by-next next (Some file) o e = ap (λ (x : Opcode). x.next) (some-same (record { next = next; file = file }) o e)

extended-behind : (section : ℕ) (table : List ℕ) (first size : ℕ) (o : Opcode) → extended_in section table first size ≡ Some o → first ≤ o.next
unfolding extended_in
extended-behind section table first size o e = by (size == 0) (nat_le (first + size) (length table)) e
  where
    by : (a b : Bool) → (if a then None
        else (if b then extended_by (first + size) (extended_operands section (take (first + size) table) (slice_index table first) (first + 1)) else None)) ≡ Some o → first ≤ o.next
    by true b f = absurd cc
    by false false f = absurd cc
    by false true f =
        let same : first + size ≡ o.next = by-next (first + size) (extended_operands section (take (first + size) table) (slice_index table first) (first + 1)) o f in
        omega (arith, same)

extended-at : (section : ℕ) (table : List ℕ) (p : ℕ) (o : Opcode) → extended_at section table p ≡ Some o → p ≤ o.next
unfolding extended_at
extended-at section table p o e =
    let first = bound (λ (size : ℕ × ℕ). extended_in section table (p + size.1) size.0) (uleb_at table p) o e in
    let behind : p + first.first.1 ≤ o.next = extended-behind section table (p + first.first.1) first.first.0 o first.rest in
    omega (arith, behind)

opcode-behind : (section : ℕ) (h : LineHeader) (table : List ℕ) (p : ℕ) (o : Opcode) → p < length table → opcode_at section h table p ≡ Some o → p < o.next
unfolding opcode_at
opcode-behind section h table p o there e = by (nat_le h.opcode_base (slice_index table p)) (slice_index table p == 0) e
  where
    by : (a b : Bool) → (if a then plain_opcode (if_ranged h (p + 1))
        else (if b then extended_at section table (p + 1) else plain_opcode (standard_end h table (slice_index table p) (p + 1)))) ≡ Some o → p < o.next
    by true b f =
        let same : p + 1 ≡ o.next = ranged-next h (p + 1) o.next (plain-next (if_ranged h (p + 1)) o f) in
        omega (arith, same)
    by false true f = let behind : p + 1 ≤ o.next = extended-at section table (p + 1) o f in omega (arith, behind)
    by false false f =
        let behind : p + 1 ≤ o.next =
        standard-behind h table (slice_index table p) (p + 1) o.next (omega (arith, there)) (plain-next (standard_end h table (slice_index table p) (p + 1)) o f) in
        omega (arith, behind)

abbrev opcode_made : List FilePlace × ℕ → Opcode → Step (List FilePlace × ℕ) (List FilePlace)
opcode_made s o = goes (with_file s.0 o.file, o.next)

abbrev next_by : ℕ → LineHeader → List ℕ → List FilePlace × ℕ → Bool → Option (Step (List FilePlace × ℕ) (List FilePlace))
next_by section h table s b = if b then option_map (opcode_made s) (opcode_at section h table s.1) else Some (ends s.0)

opcode-step : (section : ℕ) (h : LineHeader) (table : List ℕ) (s u : List FilePlace × ℕ) → next_opcode section h table s ≡ Some (goes u) → (s.1 < u.1) × (s.1 < length table)
unfolding next_opcode
opcode-step section h table s u e = by (nat_lt s.1 (length table)) refl e
  where
    by : (b : Bool) → nat_lt s.1 (length table) ≡ b → next_by section h table s b ≡ Some (goes u) → (s.1 < u.1) × (s.1 < length table)
    by true is f =
        let there : s.1 < length table = ltb-true s.1 (length table) is in
        let first = made (opcode_made s) (opcode_at section h table s.1) (goes u) f in
        let same : ◌≡◌ {A = List FilePlace × ℕ} (with_file s.0 first.first.file, first.first.next) u =
        goes-same (with_file s.0 first.first.file, first.first.next) u first.same in
        let place : first.first.next ≡ u.1 = ap (λ (y : List FilePlace × ℕ). y.1) same in
        let behind : s.1 < first.first.next = opcode-behind section h table s.1 first.first there first.is in
        (omega (arith, place, behind), there)
    by false is f = absurd (ends-goes u s.0 (some-same _ _ f))

program-forward : (section : ℕ) (h : LineHeader) (table : List ℕ) → Forward (next_opcode section h table) (λ (s : List FilePlace × ℕ). s.1) (length table)
program-forward section h table =
    record { behind = λ s u e. (opcode-step section h table s u e).0; there = λ s u e. (opcode-step section h table s u e).1 }

-- ### The lists of a header

record HasListsAt (g : LineSource) (h : LineHeader) (table : List ℕ) : Type 0 where
  dirs : List TextPlace
  files : List FilePlace
  behind : ℕ
  are : HasLists g h table dirs files behind

new-files-known : (g : LineSource) (h : LineHeader) (table : List ℕ) (dirs : List FilePlace) (place : ℕ) → h.version ≡ 5 → entries_at g h table h.lists ≡ Ok (dirs, place)
    → Decided (HasListsAt g h table) (ListsFail g h table)
new-files-known g h table dirs place five e = by (entries_at g h table place) refl
  where
    by : (o : Result (List FilePlace × ℕ) Refusal) → entries_at g h table place ≡ o → Decided (HasListsAt g h table) (ListsFail g h table)
    by (Err r) f = refused r (new_files dirs place five e f)
    by (Ok (files, behind)) f = taken (record { dirs = texts_of dirs; files = files; behind = behind; are = new_lists dirs files place behind five e f })

new-lists-known : (g : LineSource) (h : LineHeader) (table : List ℕ) → h.version ≡ 5 → Decided (HasListsAt g h table) (ListsFail g h table)
new-lists-known g h table five = by (entries_at g h table h.lists) refl
  where
    by : (o : Result (List FilePlace × ℕ) Refusal) → entries_at g h table h.lists ≡ o → Decided (HasListsAt g h table) (ListsFail g h table)
    by (Err r) e = refused r (new_dirs five e)
    by (Ok (dirs, place)) e = new-files-known g h table dirs place five e

old-lists-known : (g : LineSource) (h : LineHeader) (table : List ℕ) → h.version ≢ 5 → Decided (HasListsAt g h table) (ListsFail g h table)
old-lists-known g h table old =
    by (walk-decided (next_dir g.number table) (λ (s : List TextPlace × ℕ). s.1) (length table) (dirs-forward g.number table) ([], h.lists))
  where
    by_files : (dirs : List TextPlace) (place : ℕ) → ComesTo (next_dir g.number table) ([], h.lists) (dirs, place) → WalkIs (next_file g.number table) ([], place)
        → Decided (HasListsAt g h table) (ListsFail g h table)
    by_files dirs place c (breaks b) = refused (bad_table g.number h) (old_files dirs place old c b)
    by_files dirs place c (comes (fs, behind) f) = taken (record { dirs = dirs; files = fs; behind = behind; are = old_lists dirs fs place behind old c f })

    by : WalkIs (next_dir g.number table) ([], h.lists) → Decided (HasListsAt g h table) (ListsFail g h table)
    by (breaks b) = refused (bad_table g.number h) (old_dirs old b)
    by (comes (dirs, place) c) =
        by_files dirs place c
        (walk-decided (next_file g.number table) (λ (s : List FilePlace × ℕ). s.1) (length table) (files-forward g.number table) ([], place))

lists-known : (g : LineSource) (h : LineHeader) (table : List ℕ) → Decided (HasListsAt g h table) (ListsFail g h table)
lists-known g h table = by (cases_eq h.version 5)
  where
    by : (h.version ≡ 5) ⊎ (h.version ≢ 5) → Decided (HasListsAt g h table) (ListsFail g h table)
    by (inl five) = new-lists-known g h table five
    by (inr old) = old-lists-known g h table old

-- ### A table, and all of a section

pub record HasReading (g : LineSource) (start : ℕ) : Type 0 where
  pub reading : LineReading
  pub is : ReadsTable g start reading

program-known : (g : LineSource) (start : ℕ) (h : LineHeader) (l : HasListsAt g h (table_bytes g h)) → line_header g.order g.bytes start ≡ Some h → l.behind ≤ h.program
    → WalkIs (next_opcode g.number h (table_bytes g h)) ([], h.program) → Decided (HasReading g start) (LineFails g start)
program-known g start h l e before (breaks b) = refused (at Line g.number start) (program h l.dirs l.files l.behind e l.are b)
program-known g start h l e before (comes defined c) =
    taken (record {
      reading = record { header = h; dirs = l.dirs; files = l.files; defined = defined; behind = l.behind };
      is = record { header = e; lists = l.are; before = before; program = c };
    })

lists-read : (g : LineSource) (start : ℕ) (h : LineHeader) → line_header g.order g.bytes start ≡ Some h
    → Decided (HasListsAt g h (table_bytes g h)) (ListsFail g h (table_bytes g h)) → Decided (HasReading g start) (LineFails g start)
lists-read g start h e (refused r f) = refused r (lists h e f)
lists-read g start h e (taken l) = by (cases_lt h.program l.behind)
  where
    by : (h.program < l.behind) ⊎ (l.behind ≤ h.program) → Decided (HasReading g start) (LineFails g start)
    by (inl far) = refused (at Line g.number start) (passes h l.dirs l.files l.behind e l.are far)
    by (inr before) =
        program-known g start h l e before
        (walk-decided (next_opcode g.number h (table_bytes g h)) (λ (s : List FilePlace × ℕ). s.1) (length (table_bytes g h)) (program-forward g.number h (table_bytes g h)) ([], h.program))

pub line_table-decided : (g : LineSource) (start : ℕ) → Decided (HasReading g start) (LineFails g start)
line_table-decided g start = by (line_header g.order g.bytes start) refl
  where
    by : (o : Option LineHeader) → line_header g.order g.bytes start ≡ o → Decided (HasReading g start) (LineFails g start)
    by None e = refused (at Line g.number start) (no_header e)
    by (Some h) e = lists-read g start h e (lists-known g h (table_bytes g h))

-- a table has bytes, and lies in its section
pub record Lies (g : LineSource) (start end : ℕ) : Type 0 where
  pub some : start < end
  pub within : end ≤ length g.bytes

pub table-lies : (g : LineSource) (start : ℕ) (h : LineHeader) → line_header g.order g.bytes start ≡ Some h → Lies g start h.end
table-lies g start h e =
    let is = header-is g.order g.bytes start h e in
    let end = is.end_is in
    let inside = is.within in
    let size : length (take h.end g.bytes) ≡ h.end = length-take-le h.end g.bytes (omega (arith, end, inside)) in
    let flags = is.flags in
    let first = length-place h.version (start + is.size) in
    let second = flags-place h.version (first_place h.version (start + is.size) h.width) in
    record { some = omega (arith, flags, size, first, second); within = omega (arith, end, inside) }

-- one table more
tables-more : (g : LineSource) (p : ℕ) (rs : List LineReading) (start : ℕ) (r : LineReading) → TablesTo g p rs start → ReadsTable g start r → TablesTo g p (rs ++ r ∷ []) r.header.end
tables-more g p [] start r same is = (subst (λ (n : ℕ). ReadsTable g n r) (sym same) is, refl)
tables-more g p (x ∷ xs) start r tables is = (tables.0, tables-more g x.header.end xs start r tables.1 is)

-- from a place on, with as many steps as there are bytes
lines-from : (d : DebugData) (steps : ℕ) (rs : List LineReading) (start : ℕ) → length (line_source d).bytes ≤ start + steps → start ≤ length (line_source d).bytes
    → TablesTo (line_source d) 0 rs start → Decided (HasLines d) (LinesFail d)
lines-from d zero rs start enough within tables =
    let same : start ≡ length (line_source d).bytes = omega (arith, enough, within) in
    taken (record { lines = rs; are = subst (TablesTo (line_source d) 0 rs) same tables })
lines-from d (suc steps) rs start enough within tables =
    by (cases_lt start (length (line_source d).bytes)) (line_table-decided (line_source d) start)
    (λ (t : HasReading (line_source d) start) (lies : Lies (line_source d) start t.reading.header.end).
    let some = lies.some in
    lines-from d steps (rs ++ t.reading ∷ []) t.reading.header.end (omega (arith, enough, some)) lies.within (tables-more (line_source d) 0 rs start t.reading tables t.is))
  where
    by : (start < length (line_source d).bytes) ⊎ (length (line_source d).bytes ≤ start) → Decided (HasReading (line_source d) start) (LineFails (line_source d) start)
        → ((t : HasReading (line_source d) start) → Lies (line_source d) start t.reading.header.end → Decided (HasLines d) (LinesFail d)) → Decided (HasLines d) (LinesFail d)
    by (inl before) (refused r f) go = refused r (line_table rs start tables before f)
    by (inl before) (taken t) go = go t (table-lies (line_source d) start t.reading.header t.is.header)
    by (inr over) one go =
        let same : start ≡ length (line_source d).bytes = omega (arith, over, within) in
        taken (record { lines = rs; are = subst (TablesTo (line_source d) 0 rs) same tables })

pub lines-decided : (d : DebugData) → Decided (HasLines d) (LinesFail d)
lines-decided d = lines-from d (length (line_source d).bytes) [] 0 (omega arith) (omega arith) refl
