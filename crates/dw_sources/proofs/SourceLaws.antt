-- The sources of a view: what was read is what they are of, and why they can't be read.
use Rattle.std.proofs.Common.{◌≡◌, ℕ, List, [], ◌∷◌, ◌++◌, Option, Some, None, refl, sym, ap, ◌∙◌, subst}
use Rattle.dw_base.specs.Cells.{Located, located_cells}
use Rattle.dw_base.specs.DebugData.{DebugData, line_source}
use Rattle.dw_base.specs.FileViews.{View}
use Rattle.dw_base.specs.LineTables.{LineTable}
use Rattle.dw_base.specs.Paths.{PathMap}
use Rattle.dw_base.specs.Refusals.{Blames}
use Rattle.dw_base.specs.StringOffsetFails.{ContributionsFail}
use Rattle.dw_base.specs.StringOffsets.{AreContributions}
use Rattle.dw_base.specs.UnitHeaders.{UnitSection}
use Rattle.dw_base.specs.ViewData.{debug_data, string_offsets}
use Rattle.dw_base.specs.declared.fault.Fault.{Fault}
use Rattle.dw_base.specs.declared.fault.Fault.TheVariants.{NoMemory, Refused}
use Rattle.dw_base.specs.declared.string_offsets.Contribution.{Contribution}
use Rattle.dw_base.specs.declared.units.UnitHeader.{UnitHeader}
use Rattle.dw_base.proofs.ViewCellLaws.{offsets-located}
use Rattle.dw_base.specs.declared.debug_sections.DebugSection.TheVariants.{Info, StrOffsets, Line}
use Rattle.dw_meaning.specs.DataFails.{LinesFail}
use Rattle.dw_sources.specs.FieldOffsets.{root_offset}
use Rattle.dw_sources.specs.KeptNames.{fronts_of, with_paths}
use Rattle.dw_sources.specs.Sources.{AddsSections, AreKept, AreSources, SourcesFail, string_tables, lines, section_paths, sections_paths, sources_of}
use Rattle.dw_sources.specs.UnitPaths.{folder_of, started_table, lines_paths, paths_in, root_paths, unit_paths, table_paths, unit_path, value_text}
use Rattle.dw_sources.specs.declared.roots.Root.{Root}
use Rattle.dw_sources.proofs.JoinLaws.{none-joined}

order-is : (v : View) → (debug_data v).base.order ≡ v.order
unfolding debug_data
order-is v = refl

-- tables that are the same at each place give the same paths
lines-same : (d : DebugData) (folder : List ℕ) (s t : ℕ → Option LineTable) (o : Option ℕ) → ((n : ℕ) → s n ≡ t n)
    → lines_paths (line_source d) s folder o ≡ lines_paths (line_source d) t folder o
lines-same d folder s t None same = refl
lines-same d folder s t (Some n) same = ap (table_paths (line_source d) folder) (same n)

paths-same : (d : DebugData) (s t : ℕ → Option LineTable) (folder : List ℕ) (name : Option (List ℕ)) (start : Option ℕ) → ((n : ℕ) → s n ≡ t n)
    → paths_in d s folder name start ≡ paths_in d t folder name start
paths-same d s t folder name start same = ap (λ (ps : List (List ℕ)). unit_path folder name ++ ps) (lines-same d folder s t start same)

root-same : (d : DebugData) (list : List Contribution) (s t : ℕ → Option LineTable) (z : UnitSection) (bytes : List ℕ) (r : Root) → ((n : ℕ) → s n ≡ t n)
    → root_paths d list s z bytes r ≡ root_paths d list t z bytes r
unfolding root_paths
root-same d list s t z bytes r same =
    paths-same d s t (folder_of (value_text d list z bytes (root_offset d.base.order z (located_cells (d.found StrOffsets)) bytes r.base) r.comp_dir))
    (value_text d list z bytes (root_offset d.base.order z (located_cells (d.found StrOffsets)) bytes r.base) r.name)
    (root_offset d.base.order z (located_cells (d.found Line)) bytes r.lines) same

unit-same : (d : DebugData) (list : List Contribution) (s t : ℕ → Option LineTable) (z : UnitSection) (h : UnitHeader) → ((n : ℕ) → s n ≡ t n)
    → unit_paths d list s z h ≡ unit_paths d list t z h
unfolding unit_paths
unit-same d list s t z h same = root-same d list s t z _ _ same

section-same : (d : DebugData) (list : List Contribution) (s t : ℕ → Option LineTable) (z : UnitSection) (hs : List UnitHeader) → ((n : ℕ) → s n ≡ t n)
    → section_paths d list s z hs ≡ section_paths d list t z hs
section-same d list s t z [] same = refl
section-same d list s t z (h ∷ hs) same =
    ap (λ (ps : List (List ℕ)). ps ++ section_paths d list s z hs) (unit-same d list s t z h same)
    ∙ ap (λ (ps : List (List ℕ)). unit_paths d list t z h ++ ps) (section-same d list s t z hs same)

sections-same : (d : DebugData) (list : List Contribution) (s t : ℕ → Option LineTable) (zs : List UnitSection) (hss : List (List UnitHeader)) → ((n : ℕ) → s n ≡ t n)
    → sections_paths d list s zs hss ≡ sections_paths d list t zs hss
sections-same d list s t [] hss same = refl
sections-same d list s t (z ∷ zs) [] same = refl
sections-same d list s t (z ∷ zs) (hs ∷ hss) same =
    ap (λ (ps : List (List ℕ)). ps ++ sections_paths d list s zs hss) (section-same d list s t z hs same)
    ∙ ap (λ (ps : List (List ℕ)). section_paths d list t z hs ++ ps) (sections-same d list s t zs hss same)

-- what was read, and the names that it gives
pub are-sources : (v : View) (m : PathMap) (fronts : List (List ℕ)) (list : List Contribution) (tables : ℕ → Option LineTable) (first last names : List (List ℕ))
    → fronts ≡ fronts_of m → AreContributions v.order (string_offsets v) list → AreKept (debug_data v) tables → first ≡ []
    → AddsSections (debug_data v) list tables fronts ((debug_data v).found Info) first last → names ≡ last → AreSources (debug_data v) m names
unfolding sources_of
are-sources v m fronts list tables first last names is contributions kept none adds e = record {
  readings = record { headers = adds.headers; contributions = list; lines = kept.readings };
  reads = record {
    units = adds.units;
    offsets = subst (λ order. AreContributions order (located_cells ((debug_data v).found StrOffsets)) list) (sym (order-is v))
        (subst (λ (z : Located). AreContributions v.order z list) (sym (offsets-located v)) contributions);
    lines = kept.reads;
  };
  is =
      e ∙ adds.added ∙ ap (λ (fs : List (List ℕ)). with_paths fs first (sections_paths (debug_data v) list tables ((debug_data v).found Info) adds.headers)) is
      ∙ ap (λ (ns : List (List ℕ)). with_paths (fronts_of m) ns (sections_paths (debug_data v) list tables ((debug_data v).found Info) adds.headers)) none
      ∙ ap (with_paths (fronts_of m) []) (sections-same (debug_data v) list tables (started_table (line_source (debug_data v)) kept.readings) ((debug_data v).found Info) adds.headers kept.kept);
}

-- why they can't be read
pub lines-row : (d : DebugData) (f : Fault) → Blames (LinesFail d) f → Blames (SourcesFail d) f
lines-row d NoMemory b = tt
lines-row d (Refused r) b = lines b

pub offsets-row : (v : View) (f : Fault) → Blames (ContributionsFail v.order (string_offsets v)) f → Blames (SourcesFail (debug_data v)) f
offsets-row v NoMemory b = tt
offsets-row v (Refused r) b =
    string_tables (subst (λ order. ContributionsFail order (located_cells ((debug_data v).found StrOffsets)) r) (sym (order-is v))
    (subst (λ (z : Located). ContributionsFail v.order z r) (sym (offsets-located v)) b))

pub ruleset source_rules = (none-joined, are-sources, lines-row, offsets-row)
