-- The new bodies of a file's sections: each is that of a section with bytes, and they are the bodies of the output.
use Rattle.std.specs.Bool.{⊤}
use Rattle.std.proofs.Common.{Bool, true, false, ◌≡◌, ◌≢◌, ◌⊎◌, inl, inr, ℕ, suc, ◌+◌, ◌<◌, ◌==◌, ◌&&◌, not, List, [], ◌∷◌, ◌++◌, drop, if◌then◌else◌, Option, Some, None, refl, sym, ap, ◌∙◌, subst, arith}
use Rattle.std.proofs.lemmas.Bool.{and_parts, cases_eq, eq-eqb, ne_eqb}
use Rattle.dw_base.specs.Cells.{Cell, bytes_of}
use Rattle.dw_meaning.specs.DataOutput.{Body, DataReads, body_in, cells_body, macro_bodies, new_bodies, table_body, unit_body, unit_bodies}
use Rattle.dw_base.specs.DebugData.{Around, DataReadings, ReadsAll, units_in}
use Rattle.dw_base.specs.Pieces.{joined}
use Rattle.dw_base.specs.Readings.{Readings}
use Rattle.dw_base.specs.DebugSections.{debug_section, name_of}
use Rattle.dw_base.specs.Elf.{contents_of, contents_at, is_empty_kind, nth_section, section_count, section_name, e_shoff}
use Rattle.dw_base.specs.ElfFails.{ElfReads}
use Rattle.dw_meaning.specs.FileMeanings.{file_data, new_body}
use Rattle.dw_base.specs.FileViews.{ViewSection, first_filled, is_filled, section_after, section_named, view_of, view_section}
use Rattle.dw_base.specs.LineReadings.{all_lines}
use Rattle.dw_base.specs.MacroReadings.{MacroReading, ReadsAllMacros}
use Rattle.dw_base.specs.Paths.{PathMap}
use Rattle.dw_base.specs.SectionTexts.{edited_macros, edited_with, macro_role}
use Rattle.dw_base.specs.TextChanges.{TableChanges}
use Rattle.dw_base.specs.Texts.{same_text}
use Rattle.dw_base.specs.UnitHeaders.{SectionKind, UnitBase}
use Rattle.dw_base.specs.ViewData.{cells_located, debug_data, is_macro, is_read, located, located_at, macro_section, macro_sections, macro_sections_from, unit_kind, unit_section, unit_sections, unit_sections_from}
use Rattle.dw_base.specs.declared.debug_sections.DebugSection.{DebugSection}
use Rattle.dw_base.specs.declared.debug_sections.DebugSection.TheVariants.{Info, Types, Abbrev, Str, LineStr, StrOffsets, Line, Macro, Names}
use Rattle.dw_base.specs.declared.shared.Order.{Order}
use Rattle.dw_base.proofs.DebugSectionLaws.{debug_section-name}
use Rattle.dw_base.proofs.TextLaws.{same_text-true}
use Rattle.dw_meaning.proofs.FileBackLaws.{AllAt, is_read_name, tabulate-at}
use Rattle.dw_meaning.proofs.FileKeptLaws.{CanMap, all-read, around_file, body-line, body-names, body-offsets, body-other, body-str, body-tables, changes_file, line-none, line-place, lines-number, names-none, names-number, names-place, new_names, new_offsets, units_new, offsets-none, offsets-number, offsets-place, str-none, str-place, tables-none, tables-place}
use Rattle.dw_meaning.proofs.TableKeptLaws.{TablePlace, nowhere, lies_at, drop-at}
use Rattle.dw_rewrite.specs.Rewritten.{AllStand, bytes_given, bytes_or, is_of}

-- the sections of the view by their numbers
record IsSection (b : List ℕ) (i : ℕ) (s t : ViewSection) : Type 0 where
  within : i < section_count b
  is : s ≡ view_section b i

all_sections : (b : List ℕ) → AllAt (IsSection b) 1 (drop 1 (view_of b).sections) (drop 1 (view_of b).sections)
unfolding view_of
all_sections b =
    drop-at (IsSection b) (view_of b).sections (view_of b).sections
    (tabulate-at (IsSection b) (view_section b) (view_section b) (section_count b) (λ i lt. record { within = lt; is = refl }))

-- a section of a number that is read and has bytes in the file
pub record IsFull (b : List ℕ) (i : ℕ) : Type 0 where
  pub within : i < section_count b
  pub full : is_empty_kind (nth_section b i) ≡ false
  pub read : is_read_name (section_name b i) ≡ true

not-true : (t : Bool) → not t ≡ true → t ≡ false
not-true true e = absurd cc
not-true false e = refl

full_at : (b : List ℕ) (i : ℕ) (s : ViewSection) → i < section_count b → s ≡ view_section b i → s.has_bytes ≡ true → is_read_name s.name ≡ true → IsFull b i
unfolding view_section
full_at b i s lt is has read = record {
  within = lt;
  full = not-true (is_empty_kind (nth_section b i)) (ap (λ (x : ViewSection). x.has_bytes) (sym is) ∙ has);
  read = ap (λ (x : ViewSection). is_read_name x.name) (sym is) ∙ read;
}

-- units and macro units are in sections that are read
units-read : (o : Option DebugSection) (kind : SectionKind) → unit_kind o ≡ Some kind → is_read o ≡ true
units-read None kind e = absurd cc
units-read (Some Info) kind e = refl
units-read (Some Types) kind e = refl
units-read (Some Abbrev) kind e = absurd cc
units-read (Some Str) kind e = absurd cc
units-read (Some LineStr) kind e = absurd cc
units-read (Some StrOffsets) kind e = absurd cc
units-read (Some Line) kind e = absurd cc
units-read (Some Macro) kind e = absurd cc
units-read (Some Names) kind e = absurd cc

macros-read : (o : Option DebugSection) → is_macro o ≡ true → is_read o ≡ true
macros-read None e = absurd cc
macros-read (Some Info) e = absurd cc
macros-read (Some Types) e = absurd cc
macros-read (Some Abbrev) e = absurd cc
macros-read (Some Str) e = absurd cc
macros-read (Some LineStr) e = absurd cc
macros-read (Some StrOffsets) e = absurd cc
macros-read (Some Line) e = absurd cc
macros-read (Some Macro) e = refl
macros-read (Some Names) e = absurd cc

-- one that was found by its name has
found-full : (b name : List ℕ) (k i : ℕ) (ss ts : List ViewSection) → AllAt (IsSection b) k ss ts → is_read_name name ≡ true → first_filled name k ss ≡ Some i → IsFull b i
found-full b name k i [] ts all read e = absurd cc
found-full b name k i (s ∷ ss) [] all read e = absurd all
found-full b name k i (s ∷ ss) (t ∷ ts) all read e = by_filled (is_filled name s) refl (λ f. found-full b name (suc k) i ss ts all.1 read f) e
  where
    by_filled : (x : Bool) → is_filled name s ≡ x → (first_filled name (suc k) ss ≡ Some i → IsFull b i)
        → (if x then Some k else first_filled name (suc k) ss) ≡ Some i → IsFull b i
    by_filled true is rest e =
        let here : k ≡ i = cc in
        let parts = and_parts s.has_bytes (same_text s.name name) is in
        subst (IsFull b) here (full_at b k s all.0.within all.0.is parts.0 (ap is_read_name (same_text-true s.name name parts.1) ∙ read))
    by_filled false is rest e = rest e

pub named-full : (b : List ℕ) (s : DebugSection) (i : ℕ) → section_named (view_of b) (name_of s) ≡ Some i → IsFull b i
unfolding section_named section_after
named-full b s i e =
    found-full b (name_of s) 1 i (drop 1 (view_of b).sections) (drop 1 (view_of b).sections) (all_sections b) (ap is_read (debug_section-name s) ∙ all-read s) e

-- a body is that of no section, or of one that is read and has bytes in the file
pub record StandsRead (b : List ℕ) (x : Body) : Type 0 where
  pub within : x.number ≢ 0 → x.number < section_count b
  pub full : x.number ≢ 0 → is_empty_kind (nth_section b x.number) ≡ false
  pub read : x.number ≢ 0 → is_read_name (section_name b x.number) ≡ true

abbrev pub AllStandRead : List ℕ → List Body → Type 0
AllStandRead b [] = ⊤
AllStandRead b (x ∷ xs) = StandsRead b x × AllStandRead b xs

stands-read : (b : List ℕ) (x : Body) → IsFull b x.number → StandsRead b x
stands-read b x f = record { within = λ some. f.within; full = λ some. f.full; read = λ some. f.read }

-- a table of texts is in one, or nowhere
table-stands : (b : List ℕ) (s : DebugSection) (ts : List (List ℕ)) → StandsRead b (table_body (located (view_of b) s) ts)
unfolding located
table-stands b s ts = by_found (section_named (view_of b) (name_of s)) refl
  where
    by_found : (o : Option ℕ) → section_named (view_of b) (name_of s) ≡ o → StandsRead b (table_body (located_at (view_of b) o) ts)
    by_found None e = record { within = λ some. absurd (some refl); full = λ some. absurd (some refl); read = λ some. absurd (some refl) }
    by_found (Some i) e = stands-read b (table_body (located_at (view_of b) (Some i)) ts) (named-full b s i e)

-- the numbers of sections of units, and of macro units
abbrev pub unit_numbers : Readings → List ℕ
unit_numbers [] = []
unit_numbers (r ∷ rs) = r.number ∷ unit_numbers rs

abbrev pub macro_numbers : List MacroReading → List ℕ
macro_numbers [] = []
macro_numbers (r ∷ rs) = r.number ∷ macro_numbers rs

abbrev pub AllFull : List ℕ → List ℕ → Type 0
AllFull b [] = ⊤
AllFull b (n ∷ ns) = IsFull b n × AllFull b ns

-- units are in one each,
units-full : (b : List ℕ) (base : UnitBase) (first k : ℕ) (ss ts : List ViewSection) (rs : Readings) → AllAt (IsSection b) k ss ts
    → ReadsAll base first (unit_sections_from k ss) rs → AllFull b (unit_numbers rs)
units-full b base first k [] ts [] all reads = tt
units-full b base first k [] ts (r ∷ rs) all reads = absurd reads
units-full b base first k (s ∷ ss) [] rs all reads = absurd all
units-full b base first k (s ∷ ss) (t ∷ ts) rs all reads =
    by_section s.has_bytes refl (unit_kind (debug_section s.name)) refl rs reads (λ n qs f. units-full b base n (suc k) ss ts qs all.1 f)
  where
    by_section : (full : Bool) → s.has_bytes ≡ full → (o : Option SectionKind) → unit_kind (debug_section s.name) ≡ o → (qs : Readings)
        → ReadsAll base first ((if full then unit_section k s o else []) ++ unit_sections_from (suc k) ss) qs
        → ((n : ℕ) (ps : Readings) → ReadsAll base n (unit_sections_from (suc k) ss) ps → AllFull b (unit_numbers ps)) → AllFull b (unit_numbers qs)
    by_section false is o named qs f rest = rest first qs f
    by_section true is None named qs f rest = rest first qs f
    by_section true is (Some kind) named [] f rest = absurd f
    by_section true is (Some kind) named (q ∷ qs) f rest =
        let here : IsFull b q.number = subst (IsFull b) (sym f.0) (full_at b k s all.0.within all.0.is is (units-read (debug_section s.name) kind named)) in
        (here, rest (first + units_in q.pieces) qs f.2)

pub file-units : (b : List ℕ) (r : DataReadings) → DataReads (file_data b) r → AllFull b (unit_numbers r.units)
unfolding debug_data unit_sections
file-units b r reads = units-full b (file_data b).base 0 1 (drop 1 (view_of b).sections) (drop 1 (view_of b).sections) r.units (all_sections b) reads.units

units-stand : (b : List ℕ) (c : TableChanges) (around : Around) (rs : Readings) → AllFull b (unit_numbers rs) → AllStandRead b (unit_bodies c around rs)
units-stand b c around [] full = tt
units-stand b c around (r ∷ rs) full = (stands-read b (unit_body c around r) full.0, units-stand b c around rs full.1)

-- so are macro units, and the bodies behind them
macros-full : (b : List ℕ) (order : Order) (k : ℕ) (ss ts : List ViewSection) (rs : List MacroReading) → AllAt (IsSection b) k ss ts
    → ReadsAllMacros order (macro_sections_from k ss) rs → AllFull b (macro_numbers rs)
macros-full b order k [] ts [] all reads = tt
macros-full b order k [] ts (r ∷ rs) all reads = absurd reads
macros-full b order k (s ∷ ss) [] rs all reads = absurd all
macros-full b order k (s ∷ ss) (t ∷ ts) rs all reads =
    by_section (s.has_bytes && is_macro (debug_section s.name)) refl rs reads (λ qs f. macros-full b order (suc k) ss ts qs all.1 f)
  where
    by_section : (some : Bool) → (s.has_bytes && is_macro (debug_section s.name)) ≡ some → (qs : List MacroReading)
        → ReadsAllMacros order (macro_section k s some ++ macro_sections_from (suc k) ss) qs
        → ((ps : List MacroReading) → ReadsAllMacros order (macro_sections_from (suc k) ss) ps → AllFull b (macro_numbers ps)) → AllFull b (macro_numbers qs)
    by_section false is qs f rest = rest qs f
    by_section true is [] f rest = absurd f
    by_section true is (q ∷ qs) f rest =
        let parts = and_parts s.has_bytes (is_macro (debug_section s.name)) is in
        let here : IsFull b q.number = subst (IsFull b) (sym f.0) (full_at b k s all.0.within all.0.is parts.0 (macros-read (debug_section s.name) parts.1)) in
        (here, rest qs f.2)

pub file-macros : (b : List ℕ) (r : DataReadings) → DataReads (file_data b) r → AllFull b (macro_numbers r.macros)
unfolding debug_data macro_sections
file-macros b r reads = macros-full b (file_data b).base.order 1 (drop 1 (view_of b).sections) (drop 1 (view_of b).sections) r.macros (all_sections b) reads.macros

macros-stand : (b : List ℕ) (c : TableChanges) (around : Around) (xs : List Body) (rs : List MacroReading) → AllFull b (macro_numbers rs) → AllStandRead b xs
    → AllStandRead b (macro_bodies (edited_macros c around rs) ++ xs)
macros-stand b c around xs [] full behind = behind
macros-stand b c around xs (r ∷ rs) full behind =
    (stands-read b (cells_body r.number (joined (edited_with macro_role c around r.pieces))) full.0, macros-stand b c around xs rs full.1 behind)

-- sections that are read as pieces are in one each, or nowhere
cells-stand : (b : List ℕ) (s : DebugSection) (p : List Cell) → StandsRead b (cells_body (cells_located (view_of b) (section_named (view_of b) (name_of s))).number p)
cells-stand b s p = by_found (section_named (view_of b) (name_of s)) refl
  where
    by_found : (o : Option ℕ) → section_named (view_of b) (name_of s) ≡ o → StandsRead b (cells_body (cells_located (view_of b) o).number p)
    by_found None e = record { within = λ some. absurd (some refl); full = λ some. absurd (some refl); read = λ some. absurd (some refl) }
    by_found (Some i) e = stands-read b (cells_body i p) (named-full b s i e)

-- so is that of line tables
lines-stand : (b : List ℕ) (bytes : List ℕ)
    → StandsRead b (record { number = (cells_located (view_of b) (section_named (view_of b) (name_of Line))).number; bytes = bytes })
lines-stand b bytes = by_found (section_named (view_of b) (name_of Line)) refl
  where
    by_found : (o : Option ℕ) → section_named (view_of b) (name_of Line) ≡ o → StandsRead b (record { number = (cells_located (view_of b) o).number; bytes = bytes })
    by_found None e = record { within = λ some. absurd (some refl); full = λ some. absurd (some refl); read = λ some. absurd (some refl) }
    by_found (Some i) e = stands-read b (record { number = i; bytes = bytes }) (named-full b Line i e)

pub bodies-read : (m : PathMap) (b : List ℕ) (r : DataReadings) → DataReads (file_data b) r → AllStandRead b (new_bodies m (file_data b) r)
unfolding new_bodies debug_data
bodies-read m b r reads = (
  table-stands b Str ((changes_file m b r).new Str),
  (
    table-stands b LineStr ((changes_file m b r).new LineStr),
    (
      cells-stand b StrOffsets (new_offsets m b r),
      (
        lines-stand b (all_lines ((changes_file m b r).new Line)),
        (
          cells-stand b Names (new_names m b r),
          macros-stand b (changes_file m b r) (around_file b r) (units_new m b r) r.macros (file-macros b r reads)
              (units-stand b (changes_file m b r) (around_file b r) r.units (file-units b r reads)),
        ),
      ),
    ),
  ),
)

-- so each stands in the file
stand-of : (b : List ℕ) (xs : List Body) → AllStandRead b xs → AllStand b xs
stand-of b [] all = tt
stand-of b (x ∷ xs) all = (record { within = all.0.within; full = all.0.full }, stand-of b xs all.1)

pub bodies-stand : (m : PathMap) (b : List ℕ) (r : DataReadings) → DataReads (file_data b) r → AllStand b (new_bodies m (file_data b) r)
bodies-stand m b r reads = stand-of b (new_bodies m (file_data b) r) (bodies-read m b r reads)

-- and none is that of a section that isn't read, or has no bytes
abbrev pub AllApart : ℕ → List Body → Type 0
AllApart i [] = ⊤
AllApart i (x ∷ xs) = (i ≢ x.number) × AllApart i xs

pub apart-from : (b : List ℕ) (i : ℕ) (xs : List Body) → AllStandRead b xs → i ≢ 0 → ((is_empty_kind (nth_section b i) ≡ false) → is_read_name (section_name b i) ≡ true → ⊥)
    → AllApart i xs
apart-from b i [] all some none = tt
apart-from b i (x ∷ xs) all some none = (
  λ same.
      let here : x.number ≢ 0 = λ e. some (same ∙ e) in
      none (ap (λ (n : ℕ). is_empty_kind (nth_section b n)) same ∙ all.0.full here) (ap (λ (n : ℕ). is_read_name (section_name b n)) same ∙ all.0.read here),
  apart-from b i xs all.1 some none,
)

pub apart-in : (xs : List Body) (old : ℕ → List ℕ) (i : ℕ) → AllApart i xs → body_in xs old i ≡ old i
apart-in [] old i all = refl
apart-in (x ∷ xs) old i all = rw (ne_eqb i x.number all.0) (apart-in xs old i all.1)

-- Section 0 keeps its bytes, of which there are none.
units-above : (base : UnitBase) (c : TableChanges) (around : Around) (old : ℕ → List ℕ) (i first k : ℕ) (ss : List ViewSection) (rs : Readings)
    → ReadsAll base first (unit_sections_from k ss) rs → i < k → body_in (unit_bodies c around rs) old i ≡ old i
units-above base c around old i first k [] [] reads lt = refl
units-above base c around old i first k [] (r ∷ rs) reads lt = absurd reads
units-above base c around old i first k (s ∷ ss) rs reads lt =
    by_section s.has_bytes (unit_kind (debug_section s.name)) rs reads (λ n qs f. units-above base c around old i n (suc k) ss qs f (omega arith))
  where
    by_section : (full : Bool) (o : Option SectionKind) (qs : Readings)
        → ReadsAll base first ((if full then unit_section k s o else []) ++ unit_sections_from (suc k) ss) qs
        → ((n : ℕ) (ps : Readings) → ReadsAll base n (unit_sections_from (suc k) ss) ps → body_in (unit_bodies c around ps) old i ≡ old i)
        → body_in (unit_bodies c around qs) old i ≡ old i
    by_section false o qs f rest = rest first qs f
    by_section true None qs f rest = rest first qs f
    by_section true (Some kind) [] f rest = absurd f
    by_section true (Some kind) (q ∷ qs) f rest =
        let number : q.number ≡ k = f.0 in
        let other : i ≢ q.number = λ e. omega (arith, e, number) in
        rw (ne_eqb i q.number other) (rest (first + units_in q.pieces) qs f.2)

macros-above : (order : Order) (c : TableChanges) (around : Around) (xs : List Body) (old : ℕ → List ℕ) (i k : ℕ) (ss : List ViewSection) (rs : List MacroReading)
    → ReadsAllMacros order (macro_sections_from k ss) rs → i < k → body_in (macro_bodies (edited_macros c around rs) ++ xs) old i ≡ body_in xs old i
macros-above order c around xs old i k [] [] reads lt = refl
macros-above order c around xs old i k [] (r ∷ rs) reads lt = absurd reads
macros-above order c around xs old i k (s ∷ ss) rs reads lt =
    by_section (s.has_bytes && is_macro (debug_section s.name)) rs reads (λ qs f. macros-above order c around xs old i (suc k) ss qs f (omega (arith, lt)))
  where
    by_section : (some : Bool) (qs : List MacroReading) → ReadsAllMacros order (macro_section k s some ++ macro_sections_from (suc k) ss) qs
        → ((ps : List MacroReading) → ReadsAllMacros order (macro_sections_from (suc k) ss) ps → body_in (macro_bodies (edited_macros c around ps) ++ xs) old i ≡ body_in xs old i)
        → body_in (macro_bodies (edited_macros c around qs) ++ xs) old i ≡ body_in xs old i
    by_section false qs f rest = rest qs f
    by_section true [] f rest = absurd f
    by_section true (q ∷ qs) f rest =
        let number : q.number ≡ k = f.0 in
        let other : i ≢ q.number = λ e. omega (arith, e, number, lt) in
        rw (ne_eqb i q.number other) (rest qs f.2)

section_0 : (b : List ℕ) → ElfReads b → 0 < section_count b → contents_of b 0 ≡ []
unfolding contents_of contents_at section_count
section_0 b elf some = by_table (cases_eq (e_shoff b) 0)
  where
    by_table : (e_shoff b ≡ 0) ⊎ (e_shoff b ≡ 0 → ⊥) → contents_at b (nth_section b 0) ≡ []
    by_table (inl none) =
        let zero : section_count b ≡ 0 = rw none refl in
        absurd (omega (arith, zero, some))
    by_table (inr there) = rw (elf.debug.index.null there) refl

pub body-first : (m : PathMap) (b : List ℕ) (r : DataReadings) → CanMap m b r → 0 < section_count b → new_body m b r 0 ≡ contents_of b 0
unfolding debug_data unit_sections macro_sections
body-first m b r w some = by_str (cases_eq 0 ((file_data b).found Str).number) (str-place b)
  where
    own : contents_of b 0 ≡ []
    own = section_0 b w.reads.elf some

    none : (n : ℕ) → 0 < n → 0 ≡ n → ⊥
    none n some is = omega (arith, some, is)

    by_names : 0 ≢ ((file_data b).found Str).number → 0 ≢ ((file_data b).found LineStr).number → 0 ≢ ((file_data b).found StrOffsets).number → 0 ≢ ((file_data b).found Line).number
        → (0 ≡ ((file_data b).found Names).number) ⊎ (0 ≡ ((file_data b).found Names).number → ⊥) → TablePlace b (name_of Names) (located (view_of b) Names)
        → new_body m b r 0 ≡ contents_of b 0
    by_names str line offsets lines (inr names) place =
        body-other m b r 0 (record { str = str; line = line; offsets = offsets; lines = lines; names = names })
        ∙ macros-above (file_data b).base.order (changes_file m b r) (around_file b r) (units_new m b r) (contents_of b) 0 1 (drop 1 (view_of b).sections) r.macros w.reads.data_reads.macros (omega arith)
        ∙ units-above (file_data b).base (changes_file m b r) (around_file b r) (contents_of b) 0 0 1 (drop 1 (view_of b).sections) r.units w.reads.data_reads.units (omega arith)
    by_names str line offsets lines (inl same) (nowhere zero none) =
        body-names m b r 0 same str line offsets lines ∙ ap bytes_of (names-none m b r w none) ∙ sym own
    by_names str line offsets lines (inl same) (lies_at there within named bytes) = absurd (none (located (view_of b) Names).number there (same ∙ names-number b))

    by_tables : 0 ≢ ((file_data b).found Str).number → 0 ≢ ((file_data b).found LineStr).number → 0 ≢ ((file_data b).found StrOffsets).number
        → (0 ≡ ((file_data b).found Line).number) ⊎ (0 ≡ ((file_data b).found Line).number → ⊥) → TablePlace b (name_of Line) (located (view_of b) Line) → new_body m b r 0 ≡ contents_of b 0
    by_tables str line offsets (inr other) place = by_names str line offsets other (cases_eq 0 ((file_data b).found Names).number) (names-place b)
    by_tables str line offsets (inl same) (nowhere zero none) = body-tables m b r 0 same str line offsets ∙ tables-none m b r w none ∙ sym own
    by_tables str line offsets (inl same) (lies_at there within named bytes) = absurd (none (located (view_of b) Line).number there (same ∙ lines-number b))

    by_offsets : 0 ≢ ((file_data b).found Str).number → 0 ≢ ((file_data b).found LineStr).number → (0 ≡ ((file_data b).found StrOffsets).number) ⊎ (0 ≡ ((file_data b).found StrOffsets).number → ⊥)
        → TablePlace b (name_of StrOffsets) (located (view_of b) StrOffsets) → new_body m b r 0 ≡ contents_of b 0
    by_offsets str line (inr other) place = by_tables str line other (cases_eq 0 ((file_data b).found Line).number) (tables-place b)
    by_offsets str line (inl same) (nowhere zero none) =
        body-offsets m b r 0 same str line ∙ ap bytes_of (offsets-none m b r w none) ∙ sym own
    by_offsets str line (inl same) (lies_at there within named bytes) = absurd (none (located (view_of b) StrOffsets).number there (same ∙ offsets-number b))

    by_line : 0 ≢ ((file_data b).found Str).number → (0 ≡ ((file_data b).found LineStr).number) ⊎ (0 ≡ ((file_data b).found LineStr).number → ⊥) → TablePlace b (name_of LineStr) ((file_data b).found LineStr)
        → new_body m b r 0 ≡ contents_of b 0
    by_line other (inr line) place = by_offsets other line (cases_eq 0 ((file_data b).found StrOffsets).number) (offsets-place b)
    by_line other (inl same) (nowhere zero none) =
        let apart : ((file_data b).found LineStr).number ≢ ((file_data b).found Str).number = λ (e : ((file_data b).found LineStr).number ≡ ((file_data b).found Str).number). other (same ∙ e) in
        ap (new_body m b r) same ∙ body-line m b r apart ∙ line-none m b r w none ∙ sym own
    by_line other (inl same) (lies_at there within named bytes) = absurd (omega (arith, same, there))

    by_str : (0 ≡ ((file_data b).found Str).number) ⊎ (0 ≡ ((file_data b).found Str).number → ⊥) → TablePlace b (name_of Str) ((file_data b).found Str) → new_body m b r 0 ≡ contents_of b 0
    by_str (inr other) place = by_line other (cases_eq 0 ((file_data b).found LineStr).number) (line-place b)
    by_str (inl same) (nowhere zero none) = ap (new_body m b r) same ∙ body-str m b r ∙ str-none m b r w none ∙ sym own
    by_str (inl same) (lies_at there within named bytes) = absurd (omega (arith, same, there))

-- The bodies that are given are those of the output.
pub given-in : (xs : List Body) (old : ℕ → List ℕ) (i : ℕ) → i ≢ 0 → bytes_or (bytes_given xs i) (old i) ≡ body_in xs old i
given-in [] old i some = refl
given-in (x ∷ xs) old i some = by_number (cases_eq i x.number) (given-in xs old i some)
  where
    by_number : (i ≡ x.number) ⊎ (i ≡ x.number → ⊥) → bytes_or (bytes_given xs i) (old i) ≡ body_in xs old i
        → bytes_or (if is_of x i then Some x.bytes else bytes_given xs i) (old i) ≡ (if i == x.number then x.bytes else body_in xs old i)
    by_number (inl same) rest =
        let here : x.number ≢ 0 = λ e. some (same ∙ e) in
        rw (ne_eqb x.number 0 here, eq-eqb i x.number same) refl
    by_number (inr other) rest = rw (ne_eqb i x.number other, and-false (not (x.number == 0))) rest
      where
        and-false : (t : Bool) → (t && false) ≡ false
        and-false true = refl
        and-false false = refl

pub given-first : (xs : List Body) → bytes_given xs 0 ≡ None
given-first [] = refl
given-first (x ∷ xs) = by_number (cases_eq x.number 0) (given-first xs)
  where
    by_number : (x.number ≡ 0) ⊎ (x.number ≡ 0 → ⊥) → bytes_given xs 0 ≡ None → (if is_of x 0 then Some x.bytes else bytes_given xs 0) ≡ None
    by_number (inl none) rest = rw none rest
    by_number (inr some) rest = rw (ne_eqb x.number 0 some, ne_eqb 0 x.number (λ (e : 0 ≡ x.number). some (sym e))) rest
