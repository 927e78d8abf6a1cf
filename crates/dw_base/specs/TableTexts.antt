-- The texts of directories and files (DWARF 5, 6.2.4), in the order of their places: of each where it stands, and whether it is the path of its
-- entry, which is the first text of a path column. In version 5 an entry may have further texts, as its source (DW_LNCT_LLVM_source of clang).
use Rattle.std.specs.Prelude.{Bool, true, ℕ, zero, suc, ◌+◌, ◌==◌, ◌&&◌, not, is_some, map, List, [], ◌∷◌, ◌++◌, Option, Some, None, Result, Ok, Err, if◌then◌else◌}
use Rattle.dw_base.specs.Lebs.{uleb_at}
use Rattle.dw_base.specs.LineEntries.{column_at, entry_at, list_end, next_column}
use Rattle.dw_base.specs.LineFormats.{format_at}
use Rattle.dw_base.specs.LineSources.{LineSource}
use Rattle.dw_base.specs.declared.fault.Refusal.{Refusal}
use Rattle.dw_base.specs.declared.line_numbers.TheConstants.{DW_LNCT_path}
use Rattle.dw_base.specs.declared.line_tables.Column.{Column}
use Rattle.dw_base.specs.declared.line_tables.Entry.{Entry}
use Rattle.dw_base.specs.declared.line_tables.LineHeader.{LineHeader}
use Rattle.dw_base.specs.declared.line_tables.LineText.{LineText}
use Rattle.dw_base.specs.declared.line_tables.TextPlace.{TextPlace}
use Rattle.dw_base.specs.declared.values.Spec.{Spec}

-- a text of a column is the path of its entry: the column is one of paths, and the entry has none yet
abbrev pub takes_path : Spec → Entry → Bool
takes_path spec e = not (is_some e.text) && spec.name == DW_LNCT_path

-- the text of a column behind what was read of its entry
abbrev pub column_text : Spec → Entry → Option TextPlace → List LineText
column_text spec e None = []
column_text spec e (Some t) = record { place = t; path = takes_path spec e } ∷ []

abbrev pub column_texts : Spec → Entry → Result Column Refusal → List LineText
column_texts spec e (Err r) = []
column_texts spec e (Ok c) = column_text spec e c.text

-- what follows what was read, where something was
abbrev pub texts_then : {X : Type 0} → (X → List LineText) → Result X Refusal → List LineText
texts_then rest (Err r) = []
texts_then rest (Ok x) = rest x

-- those of the columns of an entry that are left
abbrev pub entry_texts : LineSource → LineHeader → List ℕ → List Spec → Entry → List LineText
entry_texts g h table [] e = []
entry_texts g h table (spec ∷ specs) e =
    column_texts spec e (column_at g h table spec e.next) ++ texts_then (λ n. entry_texts g h table specs n) (next_column g h table spec e)

-- of so many entries from a place on
abbrev pub entries_texts : LineSource → LineHeader → List ℕ → List Spec → ℕ → ℕ → List LineText
entries_texts g h table specs zero place = []
entries_texts g h table specs (suc n) place =
    entry_texts g h table specs (record { text = None; dir = None; next = place })
    ++ texts_then (λ f. entries_texts g h table specs n f.1) (entry_at g h table specs place)

-- of a list whose format stands at a place
abbrev pub texts_counted : LineSource → LineHeader → List ℕ → List Spec → ℕ → Option (ℕ × ℕ) → List LineText
texts_counted g h table specs place None = []
texts_counted g h table specs place (Some n) = entries_texts g h table specs n.0 (place + n.1)

abbrev pub texts_formed : LineSource → LineHeader → List ℕ → Option (List Spec × ℕ) → List LineText
texts_formed g h table None = []
texts_formed g h table (Some f) = texts_counted g h table f.0 f.1 (uleb_at table f.1)

abbrev pub list_texts : LineSource → LineHeader → List ℕ → ℕ → List LineText
list_texts g h table place = texts_formed g h table (format_at table place)

-- paths as texts
abbrev pub as_path : TextPlace → LineText
as_path x = record { place = x; path = true }

abbrev pub as_paths : List TextPlace → List LineText
as_paths xs = map as_path xs

-- the texts of both lists of a header, of which these are the paths: before version 5 all are paths
abbrev pub texts_by : LineSource → LineHeader → List ℕ → List TextPlace → List LineText
texts_by g h table paths =
    if h.version == 5 then list_texts g h table h.lists ++ list_texts g h table (list_end g h table h.lists) else as_paths paths

-- the paths among texts
abbrev pub paths_among : List LineText → List TextPlace
paths_among [] = []
paths_among (x ∷ xs) = if x.path then x.place ∷ paths_among xs else paths_among xs
