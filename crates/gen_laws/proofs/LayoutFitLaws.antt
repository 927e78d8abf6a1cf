-- The output of a generated file can be written: nothing of it but section 0 stays at its place, none of its sections is loaded, and it is far
-- within the limit.
use Rattle.std.proofs.Common.{◌≡◌, ℕ, zero, suc, ◌+◌, ◌<◌, ◌≤◌, ◌==◌, ◌||◌, nat_le, true, false, not, List, length, slice_index, take, refl, sym, ap, ◌∙◌, arith, subst}
use Rattle.std.specs.Prelude.{bit_and}
use Rattle.std.proofs.lemmas.Bool.{and_parts, leb-true, true≢false}
use Rattle.std.proofs.lemmas.List.{length-append, length-take-le}
use Rattle.dw_base.specs.Elf.{contents_of, ehdr_size, is_empty_kind, nth_section, sections_of, segments_of}
use Rattle.dw_base.specs.ElfFails.{ElfReads}
use Rattle.dw_base.specs.Layout.{Part, fixed_end, is_alloc, is_fixed, is_loaded_kind, laid_out, output_limit, part_of, with_bodies}
use Rattle.dw_base.specs.LayoutFails.{BeginsInHeader, LayoutFits, LiesAcross}
use Rattle.dw_base.specs.Lists.{tabulate}
use Rattle.dw_base.specs.Paths.{IsPathMap, PathMap}
use Rattle.dw_base.specs.declared.elf_numbers.TheConstants.{SHF_ALLOC}
use Rattle.dw_base.specs.declared.shared.Class.TheVariants.{C64}
use Rattle.dw_base.specs.declared.shared.Order.TheVariants.{Little}
use Rattle.dw_base.proofs.LayoutLaws.{fixed_end-within}
use Rattle.dw_base.proofs.TextLaws.{place_in-lt}
use Rattle.dw_meaning.specs.FileMeanings.{file_body}
use Rattle.dbg_gen.specs.Asked.{AreFew}
use Rattle.dbg_gen.specs.GeneratedLines.{line_header, line_program, line_table, lines_of}
use Rattle.dbg_gen.specs.GeneratedTexts.{chained, directory, texts_of}
use Rattle.dbg_gen.specs.GeneratedUnits.{units_of}
use Rattle.dbg_gen.proofs.SizeLaws.{length-laid_out, length-table_of, room}
use Rattle.dbg_gen.proofs.TextThereLaws.{texts-there}
use Rattle.gen_laws.proofs.BodyLaws.{bodies-are, bodies-fit}
use Rattle.gen_laws.proofs.DataReadLaws.{counted_readings}
use Rattle.gen_laws.proofs.FileReadLaws.{HasSection}
use Rattle.gen_laws.proofs.FileTakenLaws.{IsCounted, info_of, str_of}
use Rattle.gen_laws.proofs.UnitReadLaws.{start-more}

-- what stays is the file header
pub header-stays : (counts : List ℕ) (units : ℕ) (b : List ℕ) → IsCounted counts units b → fixed_end b ≡ 64
unfolding fixed_end segments_of sections_of
header-stays counts units b w =
    rw (
      w.loaded,
      w.class,
      w.segments,
      w.sections.count,
      w.sections.null_flags,
      w.sections.info.flags_are,
      w.sections.abbrev_.flags_are,
      w.sections.str.flags_are,
      w.sections.line.flags_are,
      w.sections.names.flags_are,
    ) refl

-- a section with bytes behind the file header moves
moves-on : (b name body : List ℕ) (i kind : ℕ) → HasSection b i name kind body → 0 < length body → fixed_end b ≡ 64 → is_fixed b (nth_section b i) ≡ true → ⊥
unfolding is_fixed
moves-on b name body i kind s some end fixed =
    let both = and_parts (is_loaded_kind b) (is_alloc (nth_section b i) || nat_le ((nth_section b i).offset + (nth_section b i).size) (fixed_end b)) fixed in
    let ends : nat_le ((nth_section b i).offset + (nth_section b i).size) (fixed_end b) ≡ true =
    subst (λ (f : ℕ). (not (bit_and f SHF_ALLOC == 0) || nat_le ((nth_section b i).offset + (nth_section b i).size) (fixed_end b)) ≡ true) s.flags_are both.1 in
    let within = leb-true ((nth_section b i).offset + (nth_section b i).size) (fixed_end b) ends in
    let behind = s.behind in
    omega (arith, within, behind, s.size_is, some, end)

-- each section but section 0 has bytes
pub record AreFull (counts : List ℕ) (units : ℕ) : Type 0 where
  pub info : 0 < length (info_of counts units)
  pub str : 0 < length (str_of counts units)
  pub line : 0 < length (lines_of counts units)

some-lines : (counts : List ℕ) (units : ℕ) → 0 < units → 0 < length (lines_of counts units)
unfolding lines_of
some-lines counts zero some = absurd (omega arith)
some-lines counts (suc unit) some =
    let size = length-table_of (line_header unit) (line_program unit (slice_index counts unit)) in
    omega (arith, size, length-append (chained (λ u. line_table u (slice_index counts u)) unit) (line_table unit (slice_index counts unit)))

some-units : (texts : List (List ℕ)) (counts : List ℕ) (units : ℕ) → 0 < units → 0 < length (units_of texts counts units)
some-units texts counts zero some = absurd (omega arith)
some-units texts counts (suc unit) some = omega (arith, start-more texts counts unit)

are-full : (counts : List ℕ) (units : ℕ) → 0 < units → AreFull counts units
are-full counts units some =
    let inside = place_in-lt (texts_of counts units) directory (((texts-there counts units).each 0 some).directory_there) in
    record {
      info = some-units (texts_of counts units) counts units some;
      str = omega (arith, inside);
      line = some-lines counts units some;
    }

-- so only section 0 stays, and it has nothing
stays : (m : PathMap) (counts : List ℕ) (units : ℕ) (b : List ℕ) (i : ℕ) → AreFull counts units → IsCounted counts units b → i < 6 → is_fixed b (nth_section b i) ≡ true
    → file_body m b (counted_readings counts units) i ≡ contents_of b i
stays m counts units b zero full w lt fixed = (bodies-are m counts units b w).null ∙ sym w.sections.null_contents
stays m counts units b (suc zero) full w lt fixed = absurd (moves-on b _ _ 1 1 w.sections.info full.info (header-stays counts units b w) fixed)
stays m counts units b (suc (suc zero)) full w lt fixed = absurd (moves-on b _ _ 2 1 w.sections.abbrev_ (omega arith) (header-stays counts units b w) fixed)
stays m counts units b (suc (suc (suc zero))) full w lt fixed = absurd (moves-on b _ _ 3 1 w.sections.str full.str (header-stays counts units b w) fixed)
stays m counts units b (suc (suc (suc (suc zero)))) full w lt fixed = absurd (moves-on b _ _ 4 1 w.sections.line full.line (header-stays counts units b w) fixed)
stays m counts units b (suc (suc (suc (suc (suc zero))))) full w lt fixed = absurd (moves-on b _ _ 5 3 w.sections.names (omega arith) (header-stays counts units b w) fixed)
stays m counts units b (suc (suc (suc (suc (suc (suc i)))))) full w lt fixed = absurd (omega arith)

-- a section with bytes stands behind the file header
behind-header : (counts : List ℕ) (units : ℕ) (b : List ℕ) (i : ℕ) → IsCounted counts units b → i < 6 → is_empty_kind (nth_section b i) ≡ false → 64 ≤ (nth_section b i).offset
behind-header counts units b zero w lt bytes = absurd (true≢false (sym (ap (λ (k : ℕ). k == 0 || k == 8) w.sections.null) ∙ bytes))
behind-header counts units b (suc zero) w lt bytes = w.sections.info.behind
behind-header counts units b (suc (suc zero)) w lt bytes = w.sections.abbrev_.behind
behind-header counts units b (suc (suc (suc zero))) w lt bytes = w.sections.str.behind
behind-header counts units b (suc (suc (suc (suc zero)))) w lt bytes = w.sections.line.behind
behind-header counts units b (suc (suc (suc (suc (suc zero))))) w lt bytes = w.sections.names.behind
behind-header counts units b (suc (suc (suc (suc (suc (suc i)))))) w lt bytes = absurd (omega arith)

not-across : (counts : List ℕ) (units : ℕ) (b : List ℕ) (i : ℕ) → IsCounted counts units b → i < 6 → LiesAcross b (nth_section b i) → ⊥
not-across counts units b i w lt lies =
    let behind = behind-header counts units b i w lt lies.bytes in
    omega (arith, behind, lies.begins, header-stays counts units b w)

not-in_header : (counts : List ℕ) (units : ℕ) (b : List ℕ) (i : ℕ) → IsCounted counts units b → i < 6 → BeginsInHeader b (nth_section b i) → ⊥
not-in_header counts units b i w lt lies =
    let behind = behind-header counts units b i w lt lies.bytes in
    omega (arith, behind, lies.begins, ap ehdr_size w.class)

-- the output of bodies
abbrev parts_of : List ℕ → (ℕ → List ℕ) → List Part
parts_of b bodies = tabulate (part_of b bodies) 6

output-laid : (counts : List ℕ) (units : ℕ) (b : List ℕ) (bodies : ℕ → List ℕ) → IsCounted counts units b → with_bodies b bodies ≡ laid_out C64 Little (take 64 b) (parts_of b bodies)
unfolding with_bodies
output-laid counts units b bodies w = rw (w.sections.count, w.class, w.order, header-stays counts units b w) refl

length-parts : (counts : List ℕ) (units : ℕ) (b : List ℕ) (bodies : ℕ → List ℕ) → IsCounted counts units b
    → room (parts_of b bodies) ≡ length (bodies 0) + (1 + length (bodies 1)) + (1 + length (bodies 2)) + (1 + length (bodies 3)) + (1 + length (bodies 4)) + (1 + length (bodies 5))
unfolding part_of
length-parts counts units b bodies w =
    omega (arith, w.sections.null_align, w.sections.info.align_is, w.sections.abbrev_.align_is, w.sections.str.align_is, w.sections.line.align_is, w.sections.names.align_is)

header-there : (counts : List ℕ) (units : ℕ) (b : List ℕ) → IsCounted counts units b → ElfReads b → length (take 64 b) ≡ 64
header-there counts units b w reads =
    length-take-le 64 b (let within = fixed_end-within b reads.debug reads.segments in omega (arith, within, header-stays counts units b w))

output-small : (m : PathMap) (counts : List ℕ) (units : ℕ) (b : List ℕ) → IsPathMap m → units ≤ 10000 → AreFew counts → IsCounted counts units b → ElfReads b
    → length (with_bodies b (file_body m b (counted_readings counts units))) ≤ output_limit
output-small m counts units b fit small few w reads =
    let bodies = bodies-fit m counts units b fit small few w in
    let null = bodies.null in
    let info = bodies.info in
    let abbrevs = bodies.abbrevs in
    let str = bodies.str in
    let line = bodies.line in
    let names = bodies.names in
    let front = header-there counts units b w reads in
    let same = ap length (output-laid counts units b (file_body m b (counted_readings counts units)) w) in
    let parts = length-parts counts units b (file_body m b (counted_readings counts units)) w in
    let all = length-laid_out (take 64 b) (parts_of b (file_body m b (counted_readings counts units))) (omega (arith, front)) in
    let six : length (parts_of b (file_body m b (counted_readings counts units))) ≡ 6 = refl in
    omega (arith, null, info, abbrevs, str, line, names, front, same, parts, all, six)

pub layout-fits : (m : PathMap) (counts : List ℕ) (units : ℕ) (b : List ℕ) → IsPathMap m → 1 ≤ units → units ≤ 10000 → AreFew counts → IsCounted counts units b → ElfReads b
    → LayoutFits b (file_body m b (counted_readings counts units))
layout-fits m counts units b fit some small few w reads = record {
  stays = λ i lt fixed. stays m counts units b i (are-full counts units (omega arith)) w (rw w.sections.count at lt) fixed;
  across = λ i lt lies. not-across counts units b i w (rw w.sections.count at lt) lies;
  in_header = λ i lt lies. not-in_header counts units b i w (rw w.sections.count at lt) lies;
  small = output-small m counts units b fit small few w reads;
}
