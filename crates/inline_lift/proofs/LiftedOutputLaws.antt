-- The lifted file: where the new bodies can be laid out it reads back with them. So it means the filled meaning, and what is loaded of it stays.
use Rattle.std.proofs.Common.{Bool, true, false, ◌≡◌, ◌≢◌, ℕ, suc, ◌+◌, ◌^◌, ◌<◌, List, [], ◌∷◌, ◌++◌, length, drop, slice_index, Option, Some, None, refl, sym, ap, ◌∙◌, subst, arith, if◌then◌else◌}
use Rattle.std.specs.Prelude.{not}
use Rattle.std.proofs.lemmas.Bool.{and_parts}
use Rattle.dw_base.specs.Cells.{bytes_of}
use Rattle.dw_base.specs.DebugData.{DataReadings, ReadsAll, units_in}
use Rattle.dw_base.specs.DebugSections.{debug_section, name_of}
use Rattle.dw_base.specs.Elf.{contents_at, contents_of, is_empty_kind, nth_section, section_count}
use Rattle.dw_base.specs.FileViews.{ViewSection, first_filled, is_filled, section_after, section_named, view_of, view_section}
use Rattle.dw_base.specs.Layout.{with_bodies}
use Rattle.dw_base.specs.LayoutFails.{LayoutFits}
use Rattle.dw_base.specs.LayoutReads.{ReadsBack}
use Rattle.dw_base.specs.Paths.{PathMap}
use Rattle.dw_base.specs.Pieces.{joined}
use Rattle.dw_base.specs.Readings.{Readings}
use Rattle.dw_base.specs.Texts.{same_text}
use Rattle.dw_base.specs.UnitHeaders.{SectionKind, UnitBase}
use Rattle.dw_base.specs.ViewData.{debug_data, located, located_at, unit_kind, unit_section, unit_sections, unit_sections_from}
use Rattle.dw_base.specs.declared.debug_sections.DebugSection.{DebugSection}
use Rattle.dw_base.specs.declared.debug_sections.DebugSection.TheVariants.{Abbrev, Str}
use Rattle.dw_base.specs.declared.fault.Refusal.{Refusal}
use Rattle.dw_base.proofs.ReadsAgainLaws.{reads_back}
use Rattle.dw_meaning.proofs.FileBackLaws.{AllAt, tabulate-at}
use Rattle.dw_meaning.proofs.FileKeptLaws.{next-body}
use Rattle.dw_meaning.proofs.LayoutRowLaws.{layout_excludes, layout_fits}
use Rattle.dw_meaning.proofs.TableKeptLaws.{drop-at}
use Rattle.dw_meaning.specs.DataOutput.{body_in}
use Rattle.dw_base.specs.Refusals.{at}
use Rattle.dw_base.specs.declared.fault.Kind.TheVariants.{Fixed}
use Rattle.dw_meaning.specs.FileFails.{ReadIsLoaded, loaded, loaded_relocations}
use Rattle.dw_meaning.specs.RelocationFails.{RelocationsAreLoaded}
use Rattle.dw_meaning.specs.FileMeanings.{FileReads, file_data}
use Rattle.dw_meaning.specs.Loaded.{LoadedKept}
use Rattle.inline_lift.specs.Filled.{MeaningFilled}
use Rattle.inline_lift.specs.GrowingPaths.{some_path_grows}
use Rattle.inline_lift.specs.LiftFails.{LiftRows, file, output, paths}
use Rattle.inline_lift.specs.Lifted.{Lift, lifted_pieces}
use Rattle.inline_lift.specs.LiftedFiles.{lifted_body, lifted_of, unit_bodies}
use Rattle.inline_lift.proofs.LiftMeaningLaws.{lift-loaded, lift-meaning, quiet-meaning}
use Rattle.inline_lift.proofs.LiftedBodyLaws.{Grows, abbrevs-at, abbrevs_number, behind-tables, file_lift, str-at, str_number}
use Rattle.inline_lift.proofs.LiftedFileLaws.{FileLifts}
use Rattle.inline_lift.proofs.RowUnitLaws.{file-lifts}

-- a section that was found by its name has bytes
abbrev HasBytes : List ℕ → ℕ → ViewSection → ViewSection → Type 0
HasBytes b i s t = s.has_bytes ≡ not (is_empty_kind (nth_section b i))

sections-full : (b : List ℕ) → AllAt (HasBytes b) 0 (view_of b).sections (view_of b).sections
unfolding view_of view_section
sections-full b = tabulate-at (HasBytes b) (view_section b) (view_section b) (section_count b) (λ i lt. refl)

not-back : (x : Bool) → not x ≡ true → x ≡ false
not-back true e = absurd cc
not-back false e = refl

found-full : (b name : List ℕ) (k i : ℕ) (ss ts : List ViewSection) → AllAt (HasBytes b) k ss ts → first_filled name k ss ≡ Some i → is_empty_kind (nth_section b i) ≡ false
found-full b name k i [] ts all e = absurd cc
found-full b name k i (s ∷ ss) [] all e = absurd all
found-full b name k i (s ∷ ss) (t ∷ ts) all e = by_filled (is_filled name s) refl (λ f. found-full b name (suc k) i ss ts all.1 f) e
  where
    by_filled : (x : Bool) → is_filled name s ≡ x → (first_filled name (suc k) ss ≡ Some i → is_empty_kind (nth_section b i) ≡ false)
        → (if x then Some k else first_filled name (suc k) ss) ≡ Some i → is_empty_kind (nth_section b i) ≡ false
    by_filled true is rest e =
        let here : k ≡ i = cc in
        subst (λ (j : ℕ). is_empty_kind (nth_section b j) ≡ false) here
        (not-back (is_empty_kind (nth_section b k)) (sym all.0 ∙ (and_parts s.has_bytes (same_text s.name name) is).0))
    by_filled false is rest e = rest e

located-full : (b : List ℕ) (s : DebugSection) → 0 < (located (view_of b) s).number → is_empty_kind (nth_section b (located (view_of b) s).number) ≡ false
unfolding located section_named section_after
located-full b s some = by_found (section_named (view_of b) (name_of s)) refl some
  where
    by_found : (o : Option ℕ) → section_named (view_of b) (name_of s) ≡ o → 0 < (located_at (view_of b) o).number → is_empty_kind (nth_section b (located_at (view_of b) o).number) ≡ false
    by_found None e some = absurd (omega (arith, some))
    by_found (Some i) e some =
        found-full b (name_of s) 1 i (drop 1 (view_of b).sections) (drop 1 (view_of b).sections)
        (drop-at (HasBytes b) (view_of b).sections (view_of b).sections (sections-full b)) e

abbrevs-full : (m : PathMap) (b : List ℕ) (r : DataReadings) → Grows m b r → is_empty_kind (nth_section b (abbrevs_number b)) ≡ false
unfolding debug_data
abbrevs-full m b r w = located-full b Abbrev (abbrevs-at m b r w).some

str-full : (m : PathMap) (b : List ℕ) (r : DataReadings) → Grows m b r → is_empty_kind (nth_section b (str_number b)) ≡ false
unfolding debug_data
str-full m b r w = located-full b Str (str-at m b r w).some

-- so one without bytes has no new body
other-full : (b : List ℕ) (i j : ℕ) → is_empty_kind (nth_section b i) ≡ true → is_empty_kind (nth_section b j) ≡ false → i ≢ j
other-full b i j empty full same =
    let no : true ≡ false = sym empty ∙ ap (λ (k : ℕ). is_empty_kind (nth_section b k)) same ∙ full in
    cc

units-empty : (l : Lift) (b : List ℕ) (base : UnitBase) (i : ℕ) → is_empty_kind (nth_section b i) ≡ true
    → (first k : ℕ) (ss ts : List ViewSection) (rs : Readings) → AllAt (HasBytes b) k ss ts → ReadsAll base first (unit_sections_from k ss) rs
    → body_in (unit_bodies l rs) (contents_of b) i ≡ contents_of b i
units-empty l b base i none first k [] ts [] all reads = refl
units-empty l b base i none first k [] ts (r ∷ rs) all reads = absurd reads
units-empty l b base i none first k (s ∷ ss) [] rs all reads = absurd all
units-empty l b base i none first k (s ∷ ss) (t ∷ ts) rs all reads =
    by_section s.has_bytes (unit_kind (debug_section s.name)) refl rs reads (λ n qs f. units-empty l b base i none n (suc k) ss ts qs all.1 f)
  where
    by_section : (full : Bool) (o : Option SectionKind) → s.has_bytes ≡ full → (qs : Readings)
        → ReadsAll base first ((if full then unit_section k s o else []) ++ unit_sections_from (suc k) ss) qs
        → ((n : ℕ) (ps : Readings) → ReadsAll base n (unit_sections_from (suc k) ss) ps → body_in (unit_bodies l ps) (contents_of b) i ≡ contents_of b i)
        → body_in (unit_bodies l qs) (contents_of b) i ≡ contents_of b i
    by_section false o is qs f rest = rest first qs f
    by_section true None is qs f rest = rest first qs f
    by_section true (Some kind) is [] f rest = absurd f
    by_section true (Some kind) is (q ∷ qs) f rest =
        let full : is_empty_kind (nth_section b k) ≡ false = not-back (is_empty_kind (nth_section b k)) (sym all.0 ∙ is) in
        let other : i ≢ q.number = λ (e : i ≡ q.number). other-full b i k none full (e ∙ f.0) in
        next-body (record { number = q.number; bytes = bytes_of (joined (lifted_pieces l q.pieces)) }) (unit_bodies l qs) (contents_of b) i other ∙ rest (first + units_in q.pieces) qs f.2

contents-empty : (b : List ℕ) (i : ℕ) → is_empty_kind (nth_section b i) ≡ true → contents_of b i ≡ []
unfolding contents_of contents_at
contents-empty b i empty = rw empty refl

body-empty : (m : PathMap) (b : List ℕ) (r : DataReadings) (i : ℕ) → Grows m b r → is_empty_kind (nth_section b i) ≡ true → lifted_body m b r i ≡ []
unfolding debug_data unit_sections
body-empty m b r i w empty =
    behind-tables m b r i (other-full b i (abbrevs_number b) empty (abbrevs-full m b r w)) (other-full b i (str_number b) empty (str-full m b r w))
    ∙ units-empty (file_lift m b r) b (file_data b).base i empty 0 1 (drop 1 (view_of b).sections) (drop 1 (view_of b).sections) r.units
    (drop-at (HasBytes b) (view_of b).sections (view_of b).sections (sections-full b)) w.reads.data_reads.units
    ∙ contents-empty b i empty

pub lifted-reads_back : (m : PathMap) (b : List ℕ) (r : DataReadings) → Grows m b r → LayoutFits b (lifted_body m b r) → ((k : ℕ) → slice_index b k < 256)
    → ReadsBack b (lifted_body m b r) (with_bodies b (lifted_body m b r))
lifted-reads_back m b r w fits bytes =
    reads_back b (lifted_body m b r) w.reads.elf.debug w.reads.elf.segments (λ refusal f. layout_excludes b (lifted_body m b r) refusal fits f)
    (λ i lt empty. body-empty m b r i w empty) bytes

-- The lifted file of a file that can be read, and of which nothing that is read is loaded: where a path grows, it can be lifted, and its new bodies be laid out
pub record Liftable (m : PathMap) (b : List ℕ) (r : DataReadings) : Type 0 where
  pub reads : FileReads b r
  pub bytes : (k : ℕ) → slice_index b k < 256
  pub small : length b < 2 ^ 32
  pub unloaded : (i : ℕ) → i < section_count b → ReadIsLoaded b i → ⊥
  pub relocations_unloaded : (i : ℕ) → i < section_count b → RelocationsAreLoaded b i → ⊥
  pub lifts : some_path_grows m r.units ≡ true → FileLifts m b r
  pub fits : some_path_grows m r.units ≡ true → LayoutFits b (lifted_body m b r)

pub lifted-meaning : (m : PathMap) (b : List ℕ) (r : DataReadings) → Liftable m b r → MeaningFilled m b (lifted_of m b r)
unfolding lifted_of
lifted-meaning m b r w = by_grows (some_path_grows m r.units) refl
  where
    by_grows : (t : Bool) → some_path_grows m r.units ≡ t → MeaningFilled m b (if t then with_bodies b (lifted_body m b r) else b)
    by_grows true e =
        let lifts = w.lifts e in
        let fits = w.fits e in
        lift-meaning m b r (with_bodies b (lifted_body m b r)) lifts (lifted-reads_back m b r lifts.grows fits w.bytes) fits.small
    by_grows false e = quiet-meaning m b r w.reads e w.small

pub lifted-loaded : (m : PathMap) (b : List ℕ) (r : DataReadings) → Liftable m b r → LoadedKept b (lifted_of m b r)
unfolding lifted_of
lifted-loaded m b r w = by_grows (some_path_grows m r.units) refl
  where
    by_grows : (t : Bool) → some_path_grows m r.units ≡ t → LoadedKept b (if t then with_bodies b (lifted_body m b r) else b)
    by_grows true e =
        let lifts = w.lifts e in
        let fits = w.fits e in
        lift-loaded m b r (with_bodies b (lifted_body m b r)) lifts fits.across (lifted-reads_back m b r lifts.grows fits w.bytes)
    by_grows false e = record { same = refl }

-- it can where no row of the lift holds
pub liftable : (m : PathMap) (b : List ℕ) (r : DataReadings) → FileReads b r → ((k : ℕ) → slice_index b k < 256) → length b < 2 ^ 32 → ((q : Refusal) → LiftRows m b q → ⊥) → Liftable m b r
liftable m b r reads bytes small none = record {
  reads = reads;
  bytes = bytes;
  small = small;
  unloaded = λ i lt l. none (at Fixed i 0) (file (loaded i reads.elf lt l));
  relocations_unloaded = λ i lt l. none (at Fixed i 0) (file (loaded_relocations i reads.elf lt l));
  lifts = λ grown. file-lifts m b r (λ q f. none q (paths f)) reads grown small;
  fits = λ grown. layout_fits b (lifted_body m b r) (λ q f. none q (output r reads grown f));
}
