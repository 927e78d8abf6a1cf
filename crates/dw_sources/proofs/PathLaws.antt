-- Paths that are added to names, one after another.
use Rattle.std.proofs.Common.{true, false, ◌≡◌, ℕ, zero, suc, ◌+◌, ◌≤◌, ◌<◌, List, [], ◌∷◌, ◌++◌, length, drop, get_or, Option, Some, None, refl, sym, ap, ◌∙◌, arith}
use Rattle.std.proofs.Math.Seq.{drop-cons}
use Rattle.std.proofs.lemmas.List.{drop_all}
use Rattle.dw_base.specs.Cells.{Located, located_cells}
use Rattle.dw_base.specs.DebugData.{DebugData, line_source}
use Rattle.dw_base.specs.FileViews.{View}
use Rattle.dw_base.specs.LineMeanings.{item_at}
use Rattle.dw_base.specs.LineSources.{LineSource}
use Rattle.dw_base.specs.LineTables.{LineTable}
use Rattle.dw_base.specs.UnitHeaders.{UnitSection}
use Rattle.dw_base.specs.ViewData.{debug_data, located}
use Rattle.dw_base.specs.declared.debug_sections.DebugSection.TheVariants.{StrOffsets, Line}
use Rattle.dw_base.specs.declared.line_tables.FilePlace.{FilePlace}
use Rattle.dw_base.specs.declared.line_tables.TextPlace.{TextPlace}
use Rattle.dw_base.specs.declared.shared.Order.{Order}
use Rattle.dw_base.specs.declared.string_offsets.Contribution.{Contribution}
use Rattle.dw_base.proofs.ViewCellLaws.{lines-located, offsets-located}
use Rattle.dw_sources.specs.FieldOffsets.{root_offset}
use Rattle.dw_sources.specs.KeptNames.{kept_name, with_kept, with_paths}
use Rattle.dw_sources.specs.declared.roots.Root.{Root}
use Rattle.dw_sources.specs.UnitPaths.{file_path, files_paths, folder_of, is_made_up, listed, lines_paths, paths_by, paths_in, root_paths, unit_path, value_text}
use Rattle.dw_sources.proofs.JoinLaws.{joined-stays}

pub paths-append : (fronts : List (List ℕ)) (names ps qs : List (List ℕ)) → with_paths fronts names (ps ++ qs) ≡ with_paths fronts (with_paths fronts names ps) qs
paths-append fronts names [] qs = refl
paths-append fronts names (p ∷ ps) qs = paths-append fronts (with_kept names (kept_name fronts p)) ps qs

-- a name that is made up isn't listed
pub named-none : (fronts : List (List ℕ)) (name path : List ℕ) (names : List (List ℕ)) → is_made_up name ≡ true → names ≡ with_paths fronts names (listed name path)
named-none fronts name path names is = rw is refl

pub named-one : (fronts : List (List ℕ)) (name path joined : List ℕ) (names new : List (List ℕ)) → is_made_up name ≡ false → path ≡ joined
    → new ≡ with_kept names (kept_name fronts path) → new ≡ with_paths fronts names (listed name joined)
named-one fronts name path joined names new other is e = rw (other, sym is) e

pub ruleset named_rules = (named-none, named-one)

-- the directory of a number
pub item-get : (xs : List TextPlace) (i : ℕ) (d : TextPlace) → i < length xs → Some (get_or xs i d) ≡ item_at xs i
item-get [] i d lt = absurd (omega (arith, lt))
item-get (x ∷ xs) zero d lt = refl
item-get (x ∷ xs) (suc i) d lt = item-get xs i d (omega (arith, lt))

pub item-past : (xs : List TextPlace) (i : ℕ) → length xs ≤ i → None ≡ item_at xs i
item-past [] i le = refl
item-past (x ∷ xs) zero le = absurd (omega (arith, le))
item-past (x ∷ xs) (suc i) le = item-past xs i (omega (arith, le))

pub ruleset item_rules = (item-get, item-past)

-- where a pass over the files of a table stands
pub record FilesPass (g : LineSource) (fronts : List (List ℕ)) (folder : List ℕ) (t : LineTable) (files : List FilePlace) (i : ℕ) (old now : List (List ℕ)) : Type 0 where
  pub same : with_paths fronts now (files_paths g folder t (drop i files)) ≡ with_paths fronts old (files_paths g folder t files)

pub files-start : (g : LineSource) (fronts : List (List ℕ)) (folder : List ℕ) (t : LineTable) (files : List FilePlace) (old : List (List ℕ)) → FilesPass g fronts folder t files 0 old old
files-start g fronts folder t files old = record { same = refl }

front-of : (fs : List FilePlace) (f : FilePlace) (i : ℕ) → i < length fs → f ≡ get_or fs i f → drop i fs ≡ f ∷ drop (i + 1) fs
front-of fs f i lt is =
    let next : suc i ≡ i + 1 = omega arith in
    drop-cons fs i f lt ∙ ap (λ (n : ℕ). get_or fs i f ∷ drop n fs) next ∙ ap (λ (y : FilePlace). y ∷ drop (i + 1) fs) (sym is)

pub files-more : (g : LineSource) (fronts : List (List ℕ)) (folder : List ℕ) (t : LineTable) (files : List FilePlace) (i : ℕ) (f : FilePlace) (old now new : List (List ℕ)) → i < length files
    → f ≡ get_or files i f → FilesPass g fronts folder t files i old now → new ≡ with_paths fronts now (file_path g folder t f)
    → FilesPass g fronts folder t files (i + 1) old new
files-more g fronts folder t files i f old now new lt is p e = record {
  same =
      ap (λ (ns : List (List ℕ)). with_paths fronts ns (files_paths g folder t (drop (i + 1) files))) e
      ∙ sym (paths-append fronts now (file_path g folder t f) (files_paths g folder t (drop (i + 1) files)))
      ∙ ap (λ (fs : List FilePlace). with_paths fronts now (files_paths g folder t fs)) (sym (front-of files f i lt is)) ∙ p.same;
}

pub files-end : (g : LineSource) (fronts : List (List ℕ)) (folder : List ℕ) (t : LineTable) (files : List FilePlace) (i : ℕ) (old now : List (List ℕ)) → length files ≤ i
    → FilesPass g fronts folder t files i old now → now ≡ with_paths fronts old (files_paths g folder t files)
files-end g fronts folder t files i old now end p =
    ap (λ (fs : List FilePlace). with_paths fronts now (files_paths g folder t fs)) (sym (drop_all i files end)) ∙ p.same

pub ruleset files_rules = (files-start, files-more, files-end)

-- a unit's own path, and those of its files
pub unit-both : (d : DebugData) (fronts : List (List ℕ)) (folder : List ℕ) (tables : ℕ → Option LineTable) (name : Option (List ℕ)) (lines : Option ℕ) (old now new : List (List ℕ))
    → now ≡ with_paths fronts old (unit_path folder name) → new ≡ with_paths fronts now (lines_paths (line_source d) tables folder lines)
    → new ≡ with_paths fronts old (paths_in d tables folder name lines)
unit-both d fronts folder tables name lines old now new is e =
    e ∙ ap (λ (ns : List (List ℕ)). with_paths fronts ns (lines_paths (line_source d) tables folder lines)) is
    ∙ sym (paths-append fronts old (unit_path folder name) (lines_paths (line_source d) tables folder lines))

pub ruleset unit_rules = (unit-both, joined-stays)

order-is : (v : View) → (debug_data v).base.order ≡ v.order
unfolding debug_data
order-is v = refl

-- a unit by its values: its base, its line table, its folder and its name
pub root-added : (v : View) (list : List Contribution) (tables : ℕ → Option LineTable) (fronts : List (List ℕ)) (bytes folder : List ℕ) (z : UnitSection) (r : Root) (base lines : Option ℕ)
    (dir name : Option (List ℕ)) (old new : List (List ℕ)) → base ≡ root_offset v.order z (located v StrOffsets) bytes r.base
    → lines ≡ root_offset v.order z (located v Line) bytes r.lines → dir ≡ value_text (debug_data v) list z bytes base r.comp_dir → folder ≡ folder_of dir
    → name ≡ value_text (debug_data v) list z bytes base r.name → new ≡ with_paths fronts old (paths_in (debug_data v) tables folder name lines)
    → new ≡ with_paths fronts old (root_paths (debug_data v) list tables z bytes r)
unfolding root_paths
root-added v list tables fronts bytes folder z r base lines dir name old new base_is lines_is dir_is folder_is name_is e =
    let own : base ≡ root_offset (debug_data v).base.order z (located_cells ((debug_data v).found StrOffsets)) bytes r.base =
    base_is ∙ ap (λ (o : Order). root_offset o z (located v StrOffsets) bytes r.base) (sym (order-is v))
    ∙ ap (λ (t : Located). root_offset (debug_data v).base.order z t bytes r.base) (sym (offsets-located v)) in
    let table : lines ≡ root_offset (debug_data v).base.order z (located_cells ((debug_data v).found Line)) bytes r.lines =
    lines_is ∙ ap (λ (o : Order). root_offset o z (located v Line) bytes r.lines) (sym (order-is v))
    ∙ ap (λ (t : Located). root_offset (debug_data v).base.order z t bytes r.lines) (sym (lines-located v)) in
    e ∙ ap (λ (f : List ℕ). with_paths fronts old (paths_in (debug_data v) tables f name lines)) (folder_is ∙ ap folder_of dir_is)
    ∙ ap (λ (n : Option (List ℕ)). with_paths fronts old (paths_in (debug_data v) tables (folder_of (value_text (debug_data v) list z bytes base r.comp_dir)) n lines)) name_is
    ∙ ap (λ (b : Option ℕ). with_paths fronts old (paths_by (debug_data v) list tables z bytes r b lines)) own
    ∙ ap (λ (l : Option ℕ). with_paths fronts old
    (paths_by (debug_data v) list tables z bytes r (root_offset (debug_data v).base.order z (located_cells ((debug_data v).found StrOffsets)) bytes r.base) l)) table

pub ruleset root_rules = (root-added)
