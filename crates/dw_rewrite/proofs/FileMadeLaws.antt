-- The new bodies of a file, as the code makes them, with those of the sections that hold relocations of what changes: they are those of its readings.
use Rattle.std.proofs.Common.{Bool, ◌≡◌, ℕ, ◌≤◌, List, [], ◌∷◌, ◌++◌, length, Option, refl, sym, ap, ◌∙◌, subst, append_assoc}
use Rattle.dw_base.specs.DebugData.{around_of, line_source}
use Rattle.dw_base.specs.DebugSections.{name_of}
use Rattle.dw_base.specs.Elf.{contents_of}
use Rattle.dw_base.specs.FileViews.{View, section_named, view_of}
use Rattle.dw_base.specs.Layout.{output_limit}
use Rattle.dw_base.specs.LineSources.{LineSource}
use Rattle.dw_base.specs.LineTables.{LineTable}
use Rattle.dw_base.specs.Paths.{PathMap}
use Rattle.dw_base.specs.RelocationSectionFails.{RelocationSectionsRead}
use Rattle.dw_base.specs.SectionRelocations.{relocation_section}
use Rattle.dw_base.specs.StringTables.{TextTable}
use Rattle.dw_base.specs.ViewData.{debug_data}
use Rattle.dw_base.specs.declared.debug_sections.DebugSection.TheVariants.{Line}
use Rattle.dw_base.specs.declared.texts.TextSection.TheVariants.{InStr, InLineStr}
use Rattle.dw_meaning.specs.DataOutput.{Body, changes_of, new_bodies}
use Rattle.dw_meaning.specs.FileMeanings.{file_data}
use Rattle.dw_meaning.specs.NewAddends.{AddendsFit}
use Rattle.dw_meaning.specs.RelocatedBodies.{CellBody, new_cells}
use Rattle.dw_read.specs.AllFields.{Fields, all_of, standing}
use Rattle.dw_read.specs.FoundPaths.{PathsFound}
use Rattle.dw_starts.specs.LineStarts.{starts_of}
use Rattle.dw_rewrite.specs.Bodies.{FileBodiesMade, held_bodies, held_body, lines_numbers, moved_numbers, numbers_in}
use Rattle.dw_rewrite.specs.Changes.{start_known}
use Rattle.dw_rewrite.specs.LineOffsets.{OffsetsMake, StartsKnown, line_offsets, line_record}
use Rattle.dw_rewrite.specs.NewLines.{LinesWritten}
use Rattle.dw_rewrite.specs.NewOffsets.{records_known}
use Rattle.dw_rewrite.specs.NewStarts.{StartChange, known_starts}
use Rattle.dw_rewrite.specs.NewTables.{TableMade, table_body_of}
use Rattle.dw_rewrite.specs.OffsetAddends.{AllMake}
use Rattle.dw_rewrite.specs.PushedBodies.{pushed_bodies}
use Rattle.dw_rewrite.proofs.LineHeldLaws.{lines-fit, lines-held}
use Rattle.dw_rewrite.proofs.LineMoveLaws.{starts-known}
use Rattle.dw_rewrite.proofs.MadeBodyLaws.{known-starts, made-fits, made-is}
use Rattle.dw_rewrite.proofs.RecordEndLaws.{SectionsFit, addends-fit, parts_of, places-fit, records-held}

-- the sections that hold relocations of some, and of others
held-append : (b : List ℕ) (cells : List CellBody) (xs ys : List ℕ) → held_bodies b cells (xs ++ ys) ≡ held_bodies b cells xs ++ held_bodies b cells ys
held-append b cells [] ys = refl
held-append b cells (x ∷ xs) ys =
    ap (λ (bs : List Body). held_body b cells (relocation_section b x) ++ bs) (held-append b cells xs ys)
    ∙ sym (append_assoc (held_body b cells (relocation_section b x)) (held_bodies b cells xs) (held_bodies b cells ys))

-- all bodies that are pushed, in order
abbrev pub pushed_all : PathMap → List ℕ → List LineTable → TextTable → TextTable → (Bool → ℕ → Option ℕ) → (Bool → ℕ → Option ℕ) → (Bool → ℕ → Option ℕ) → Body → Fields → List Body
pushed_all m b ts ps pl ks kl kt lines us =
    ((table_body_of (view_of b) InStr ps ∷ table_body_of (view_of b) InLineStr pl ∷ pushed_bodies m (view_of b) ks kl kt lines us)
    ++ records_known b (view_of b) ks kl kt (standing us))
    ++ line_record b m (line_source (file_data b)) ks kl ts (section_named (view_of b) (name_of Line))

all-is : (m : PathMap) (b : List ℕ) (us : Fields) (ts : List LineTable) (ps pl : TextTable) (ks kl : Bool → ℕ → Option ℕ) (bs ns : List ℕ)
    → RelocationSectionsRead (contents_of b) b → (f : PathsFound m (view_of b) us ts) → TableMade m (view_of b) InStr (all_of us) ps ks → TableMade m (view_of b) InLineStr (all_of us) pl kl
    → LinesWritten m (line_source (file_data b)) ks kl ts bs ns
    → pushed_all m b ts ps pl ks kl (start_known (starts_of ts) ns) (record { number = ((file_data b).found Line).number; bytes = bs }) us
    ≡ new_bodies m (file_data b) f.readings ++ held_bodies b (new_cells m (file_data b) f.readings) (moved_numbers (view_of b) f.readings)
all-is m b us ts ps pl ks kl bs ns sections f s l w =
    ap (λ (xs : List Body). (xs ++ records_known b (view_of b) ks kl (start_known (starts_of ts) ns) (standing us))
    ++ line_record b m (line_source (file_data b)) ks kl ts (section_named (view_of b) (name_of Line))) (made-is m (view_of b) us ts ps pl ks kl bs ns f s l w)
    ∙ ap (λ (xs : List Body). (new_bodies m (file_data b) f.readings ++ xs) ++ line_record b m (line_source (file_data b)) ks kl ts (section_named (view_of b) (name_of Line)))
    (records-held m b us ts ps pl ks kl (start_known (starts_of ts) ns) f s l (known-starts m (view_of b) us ts ps pl ks kl bs ns f s l w) sections)
    ∙ ap (λ (xs : List Body). (new_bodies m (file_data b) f.readings ++ held_bodies b (new_cells m (file_data b) f.readings) (numbers_in (parts_of (view_of b) f.readings))) ++ xs)
    (lines-held m b us ts ps pl ks kl sections f s l)
    ∙ append_assoc (new_bodies m (file_data b) f.readings) (held_bodies b (new_cells m (file_data b) f.readings) (numbers_in (parts_of (view_of b) f.readings)))
    (held_bodies b (new_cells m (file_data b) f.readings) (lines_numbers (section_named (view_of b) (name_of Line))))
    ∙ ap (λ (xs : List Body). new_bodies m (file_data b) f.readings ++ xs)
    (sym (held-append b (new_cells m (file_data b) f.readings) (numbers_in (parts_of (view_of b) f.readings)) (lines_numbers (section_named (view_of b) (name_of Line)))))

-- addends make all offsets
all-addends : (m : PathMap) (b : List ℕ) (us : Fields) (ts : List LineTable) (ps pl : TextTable) (ks kl : Bool → ℕ → Option ℕ) (bs ns : List ℕ) (f : PathsFound m (view_of b) us ts)
    → TableMade m (view_of b) InStr (all_of us) ps ks → TableMade m (view_of b) InLineStr (all_of us) pl kl → LinesWritten m (line_source (file_data b)) ks kl ts bs ns
    → AllMake (view_of b) ks kl (start_known (starts_of ts) ns) (standing us)
    → OffsetsMake (line_source (file_data b)).cells (line_offsets m (line_source (file_data b)) ks kl ts)
    → AddendsFit (changes_of m (around_of (file_data b) f.readings) f.readings) (file_data b) (around_of (file_data b) f.readings) f.readings
all-addends m b us ts ps pl ks kl bs ns f s l w makes fields =
    let sections : SectionsFit m (view_of b) f.readings =
    addends-fit m (view_of b) us ts ps pl ks kl (start_known (starts_of ts) ns) f s l (known-starts m (view_of b) us ts ps pl ks kl bs ns f s l w) makes in
    record {
      units = sections.units;
      slots = sections.slots;
      macros = sections.macros;
      names = sections.names;
      lines = lines-fit m b (view_of b) us ts ps pl ks kl refl f s l fields;
    }

file-made : (m : PathMap) (b : List ℕ) (us : Fields) (ts : List LineTable) (ps pl : TextTable) (ks kl : Bool → ℕ → Option ℕ) (bs ns : List ℕ) (bodies : List Body)
    → RelocationSectionsRead (contents_of b) b → (f : PathsFound m (view_of b) us ts) → TableMade m (view_of b) InStr (all_of us) ps ks → TableMade m (view_of b) InLineStr (all_of us) pl kl
    → LinesWritten m (line_source (file_data b)) ks kl ts bs ns → AllMake (view_of b) ks kl (start_known (starts_of ts) ns) (standing us)
    → OffsetsMake (line_source (file_data b)).cells (line_offsets m (line_source (file_data b)) ks kl ts)
    → bodies ≡ pushed_all m b ts ps pl ks kl (start_known (starts_of ts) ns) (record { number = ((file_data b).found Line).number; bytes = bs }) us
    → FileBodiesMade m b bodies
file-made m b us ts ps pl ks kl bs ns bodies sections f s l w makes fields is = record {
  readings = f.readings;
  reads = f.reads;
  relocations = record { sections = sections; on_data = f.relocations };
  fits = made-fits m (view_of b) us ts ps pl ks kl bs ns f s l w
      (all-addends m b us ts ps pl ks kl bs ns f s l w makes fields);
  is = is ∙ all-is m b us ts ps pl ks kl bs ns sections f s l w;
}

-- the same by the names of the code
pub made : (m : PathMap) (b : List ℕ) (v : View) (us : Fields) (ts : List LineTable) (ps pl : TextTable) (ks kl : Bool → ℕ → Option ℕ) (bs ns old : List ℕ) (starts : StartChange) (lines : Body)
    (bodies : List Body) → v ≡ view_of b → RelocationSectionsRead (contents_of b) b → PathsFound m v us ts → TableMade m v InStr (all_of us) ps ks → TableMade m v InLineStr (all_of us) pl kl
    → LinesWritten m (line_source (debug_data v)) ks kl ts bs ns → old ≡ starts_of ts → starts ≡ record { old = old; new = ns }
    → lines ≡ record { number = ((debug_data v).found Line).number; bytes = bs } → AllMake v ks kl (known_starts starts) (standing us)
    → OffsetsMake (line_source (debug_data v)).cells (line_offsets m (line_source (debug_data v)) ks kl ts)
    → bodies ≡ ((table_body_of v InStr ps ∷ table_body_of v InLineStr pl ∷ pushed_bodies m v ks kl (known_starts starts) lines us)
    ++ records_known b v ks kl (known_starts starts) (standing us)) ++ line_record b m (line_source (debug_data v)) ks kl ts (section_named v (name_of Line))
    → FileBodiesMade m b bodies
made m b v us ts ps pl ks kl bs ns old starts lines bodies v_is sections found s l w old_is starts_are lines_are makes fields is =
    at_view v v_is found s l w lines_are makes fields is
  where
    same : starts ≡ record { old = starts_of ts; new = ns }
    same = starts_are ∙ ap (λ (xs : List ℕ). record { old = xs; new = ns }) old_is

    At : View → Type 0
    At v = PathsFound m v us ts → TableMade m v InStr (all_of us) ps ks → TableMade m v InLineStr (all_of us) pl kl → LinesWritten m (line_source (debug_data v)) ks kl ts bs ns
        → lines ≡ record { number = ((debug_data v).found Line).number; bytes = bs } → AllMake v ks kl (known_starts starts) (standing us)
        → OffsetsMake (line_source (debug_data v)).cells (line_offsets m (line_source (debug_data v)) ks kl ts)
        → bodies ≡ ((table_body_of v InStr ps ∷ table_body_of v InLineStr pl ∷ pushed_bodies m v ks kl (known_starts starts) lines us)
        ++ records_known b v ks kl (known_starts starts) (standing us)) ++ line_record b m (line_source (debug_data v)) ks kl ts (section_named v (name_of Line))
        → FileBodiesMade m b bodies

    at_file : At (view_of b)
    at_file found s l w lines_are makes fields is =
        file-made m b us ts ps pl ks kl bs ns bodies sections found s l w
        (subst (λ (x : StartChange). AllMake (view_of b) ks kl (known_starts x) (standing us)) same makes) fields
        (is ∙ ap (λ (x : StartChange). pushed_all m b ts ps pl ks kl (known_starts x) lines us) same
        ∙ ap (λ (x : Body). pushed_all m b ts ps pl ks kl (start_known (starts_of ts) ns) x us) lines_are)

    at_view : (v : View) → v ≡ view_of b → At v
    at_view v is = subst At (sym is) at_file

-- the starts of tables that aren't too long
pub known-here : (m : PathMap) (g : LineSource) (ks kl : Bool → ℕ → Option ℕ) (ts : List LineTable) (bs ns now : List ℕ) → LinesWritten m g ks kl ts bs ns → length bs ≤ output_limit → now ≡ ns
    → StartsKnown m g ks kl ts now
known-here m g ks kl ts bs ns now w small is = subst (StartsKnown m g ks kl ts) (sym is) (starts-known m g ks kl ts bs ns w small)

-- what was pushed behind the tables of texts
pub pushed-behind : (front tables one all pushed records lines : List Body) → tables ≡ front → one ≡ tables ++ pushed → all ≡ (one ++ records) ++ lines
    → all ≡ ((front ++ pushed) ++ records) ++ lines
pushed-behind front tables one all pushed records lines e f g =
    g ∙ ap (λ (xs : List Body). (xs ++ records) ++ lines) (f ∙ ap (λ (xs : List Body). xs ++ pushed) e)

pub ruleset end_rules = (places-fit)
