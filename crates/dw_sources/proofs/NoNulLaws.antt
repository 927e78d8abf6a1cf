-- No name of a source has a NUL: the texts that a unit names end before one, and joined, cleaned and cut paths have no bytes that these lack,
-- but slashes.
use Rattle.std.proofs.Common.{Bool, true, false, not, ◌≡◌, ℕ, zero, suc, ◌-◌, ◌==◌, ◌&&◌, ◌||◌, nat_eq, List, [], ◌∷◌, ◌++◌, length, drop, reverse, Option, Some, None, refl, sym, subst, if◌then◌else◌}
use Rattle.std.specs.Prelude.{⊤}
use Rattle.std.specs.Cmp.Lexicographic.{slice_cmp}
use Rattle.std.specs.List.{join_with_byte, onto_first, slice_split}
use Rattle.std.specs.Ordering.{nat_cmp}
use Rattle.std.specs.declared.cmp.Ordering.{Ordering}
use Rattle.std.specs.declared.cmp.Ordering.TheVariants.{Less, Equal, Greater}
use Rattle.std.proofs.lemmas.List.{reverse-append}
use Rattle.dw_base.specs.AbbreviationBytes.{abbreviations_at}
use Rattle.dw_base.specs.Cells.{located_cells}
use Rattle.dw_base.specs.DebugData.{DebugData, line_source}
use Rattle.dw_base.specs.EntryValues.{bytes_up_to}
use Rattle.dw_base.specs.FileViews.{View}
use Rattle.dw_base.specs.LineMeanings.{item_at, place_text}
use Rattle.dw_base.specs.LineReadings.{LineReading, table_read}
use Rattle.dw_base.specs.LineSources.{LineSource}
use Rattle.dw_base.specs.LineTables.{LineTable, texts_of}
use Rattle.dw_base.specs.Paths.{PathMap, slash}
use Rattle.dw_base.specs.StringOffsets.{slot_place}
use Rattle.dw_base.specs.Texts.{ends_in, has_nul, text_in}
use Rattle.dw_base.specs.UnitHeaders.{UnitSection}
use Rattle.dw_base.specs.ViewData.{debug_data}
use Rattle.dw_base.specs.declared.debug_sections.DebugSection.TheVariants.{Info, Str, LineStr, StrOffsets, Line}
use Rattle.dw_base.specs.declared.line_tables.FilePlace.{FilePlace}
use Rattle.dw_base.specs.declared.line_tables.TextPlace.{TextPlace}
use Rattle.dw_base.specs.declared.shared.Width.{Width}
use Rattle.dw_base.specs.declared.string_offsets.Contribution.{Contribution}
use Rattle.dw_base.specs.declared.units.UnitHeader.{UnitHeader}
use Rattle.dw_base.specs.declared.values.Value.{Value}
use Rattle.dw_base.specs.declared.values.ValueClass.{ValueClass}
use Rattle.dw_base.specs.declared.values.ValueClass.TheVariants as class
use Rattle.dw_base.proofs.TextLaws.{has_nul-append_false, has_nul-drop, has_nul-text_in}
use Rattle.dw_paths.specs.CleanPaths.{cleaned_path, ends_in_name, is_rooted, joined_path, left_components, left_of, root}
use Rattle.dw_paths.specs.Components.{components, is_idle, is_parent}
use Rattle.dw_sources.specs.FieldOffsets.{root_offset, value_offset}
use Rattle.dw_sources.specs.KeptNames.{HaveNoNul, behind_front, front_len, fronts_of, kept_name, placed_by, with_kept, with_name, with_paths}
use Rattle.dw_sources.specs.RootValues.{root_at}
use Rattle.dw_sources.specs.Sources.{AreSources, section_paths, sections_paths, sources_of}
use Rattle.dw_sources.specs.UnitPaths.{base_width, class_text, dir_text, file_in, file_path, files_paths, folder_of, index_text, is_made_up, lines_paths, listed, named_text, number_text, paths_by, root_paths, slot_text, slot_text_at, started_table, table_paths, text_of_place, unit_path, unit_paths, value_text}
use Rattle.dw_sources.specs.declared.roots.Root.{Root}
use Rattle.dw_sources.proofs.PlaceTextLaws.{EachBare, TableBare, TablesBare, tables-bare, view-apart}

abbrev AnyText : Option (List ℕ) → Type 0
AnyText None = ⊤
AnyText (Some t) = has_nul t ≡ false

no-or : (a b : Bool) → (a || b) ≡ false → (a ≡ false) × (b ≡ false)
no-or false b e = (refl, e)
no-or true b e = cc

none-append : (xs ys : List (List ℕ)) → HaveNoNul xs → HaveNoNul ys → HaveNoNul (xs ++ ys)
none-append [] ys a b = b
none-append (x ∷ xs) ys a b = (a.0, none-append xs ys a.1 b)

-- ### Cleaned and joined paths

none-onto : (b : ℕ) (parts : List (List ℕ)) → (b == 0) ≡ false → HaveNoNul parts → HaveNoNul (onto_first b parts)
none-onto b [] e a = (has_nul-append_false (b ∷ []) [] (one b e) refl, tt)
  where
    one : (b : ℕ) → (b == 0) ≡ false → has_nul (b ∷ []) ≡ false
    one b e = rw e refl
none-onto b (part ∷ parts) e a = (rw e a.0, a.1)

parts-none : (path : List ℕ) → has_nul path ≡ false → HaveNoNul (components path)
parts-none [] e = (refl, tt)
parts-none (b ∷ bs) e =
    let both = no-or (b == 0) (has_nul bs) e in
    by_slash (b == slash) (slice_split (λ c. c == slash) bs) both.0 (parts-none bs both.1)
  where
    by_slash : (t : Bool) (parts : List (List ℕ)) → (b == 0) ≡ false → HaveNoNul parts → HaveNoNul (if t then [] ∷ parts else onto_first b parts)
    by_slash true parts other a = (refl, a)
    by_slash false parts other a = none-onto b parts other a

none-reverse : (xs : List (List ℕ)) → HaveNoNul xs → HaveNoNul (reverse xs)
none-reverse [] a = a
none-reverse (x ∷ xs) a = subst HaveNoNul (sym (reverse-append (x ∷ []) xs)) (none-append (reverse xs) (x ∷ []) (none-reverse xs a.1) (a.0, tt))

none-dropped : (xs : List (List ℕ)) → HaveNoNul xs → HaveNoNul (drop 1 xs)
none-dropped [] a = a
none-dropped (x ∷ xs) a = a.1

none-left : (rooted : Bool) (parts : List (List ℕ)) → HaveNoNul parts → HaveNoNul (left_of rooted parts)
none-left rooted [] a = tt
none-left rooted (part ∷ before) a =
    by_kind (is_idle part) (is_parent part && ends_in_name (left_of rooted before)) (is_parent part && rooted) (left_of rooted before) (none-left rooted before a.1)
  where
    by_kind : (idle up over : Bool) (left : List (List ℕ)) → HaveNoNul left → HaveNoNul (if idle then left else if up then drop 1 left else if over then left else part ∷ left)
    by_kind true up over left b = b
    by_kind false true over left b = none-dropped left b
    by_kind false false true left b = b
    by_kind false false false left b = (a.0, b)

none-joined : (parts : List (List ℕ)) → HaveNoNul parts → has_nul (join_with_byte slash parts) ≡ false
none-joined [] a = refl
none-joined (x ∷ []) a = a.0
none-joined (x ∷ y ∷ xs) a = has_nul-append_false x (slash ∷ join_with_byte slash (y ∷ xs)) a.0 (none-joined (y ∷ xs) a.1)

root-none : (rooted : Bool) → has_nul (root rooted) ≡ false
root-none true = refl
root-none false = refl

pub cleaned-none : (path : List ℕ) → has_nul path ≡ false → has_nul (cleaned_path path) ≡ false
unfolding cleaned_path
cleaned-none path e =
    has_nul-append_false (root (is_rooted path)) (join_with_byte slash (left_components path)) (root-none (is_rooted path))
    (none-joined (left_components path)
    (none-reverse (left_of (is_rooted path) (reverse (components path))) (none-left (is_rooted path) (reverse (components path)) (none-reverse (components path) (parts-none path e)))))

pub joined-none : (dir name : List ℕ) → has_nul dir ≡ false → has_nul name ≡ false → has_nul (joined_path dir name) ≡ false
unfolding joined_path
joined-none dir name d n = by_root (is_rooted name || nat_eq (length dir) 0)
  where
    by_root : (t : Bool) → has_nul (if t then name else dir ++ slash ∷ name) ≡ false
    by_root true = n
    by_root false = has_nul-append_false dir (slash ∷ name) d n

-- ### Names that are kept

behind-none : (path : List ℕ) (o : Option ℕ) → has_nul path ≡ false → AnyText (behind_front path o)
behind-none path None e = tt
behind-none path (Some n) e = has_nul-drop n path e

kept-none : (fronts : List (List ℕ)) (path : List ℕ) → has_nul path ≡ false → AnyText (kept_name fronts path)
unfolding kept_name
kept-none fronts path e = behind-none (cleaned_path path) (front_len fronts (cleaned_path path)) (cleaned-none path e)

name-none : (names : List (List ℕ)) (name : List ℕ) → HaveNoNul names → has_nul name ≡ false → HaveNoNul (with_name names name)
name-none [] name a e = (e, tt)
name-none (x ∷ xs) name a e = by_place (slice_cmp nat_cmp name x) (name-none xs name a.1 e)
  where
    by_place : (o : Ordering) → HaveNoNul (with_name xs name) → HaveNoNul (placed_by o name x xs (with_name xs name))
    by_place Less rest = (e, a)
    by_place Equal rest = a
    by_place Greater rest = (a.0, rest)

with-none : (names : List (List ℕ)) (o : Option (List ℕ)) → HaveNoNul names → AnyText o → HaveNoNul (with_kept names o)
with-none names None a e = a
with-none names (Some name) a e = name-none names name a e

paths-none : (fronts : List (List ℕ)) (names ps : List (List ℕ)) → HaveNoNul names → HaveNoNul ps → HaveNoNul (with_paths fronts names ps)
paths-none fronts names [] a b = a
paths-none fronts names (p ∷ ps) a b = paths-none fronts (with_kept names (kept_name fronts p)) ps (with-none names (kept_name fronts p) a (kept-none fronts p b.0)) b.1

-- ### Texts of values

named-none : (table : List ℕ) (n : ℕ) → AnyText (named_text table n)
named-none table n = by_end (ends_in table n)
  where
    by_end : (t : Bool) → AnyText (if t then Some (text_in table n) else None)
    by_end true = has_nul-text_in table n
    by_end false = tt

number-none : (table : List ℕ) (o : Option ℕ) → AnyText (number_text table o)
number-none table None = tt
number-none table (Some n) = named-none table n

slot-none : (d : DebugData) (w : Option Width) (place : Option ℕ) → AnyText (slot_text_at d w place)
slot-none d None place = tt
slot-none d (Some w) None = tt
slot-none d (Some w) (Some place) = number-none (d.found Str).bytes _

index-none : (d : DebugData) (list : List Contribution) (base : Option ℕ) (index : ℕ) → AnyText (index_text d list base index)
unfolding slot_text
index-none d list None index = tt
index-none d list (Some base) index = slot-none d (base_width list base) (slot_place list base index)

class-none : (c : ValueClass) (d : DebugData) (list : List Contribution) (z : UnitSection) (bytes : List ℕ) (base : Option ℕ) (v : Value) → AnyText (class_text c d list z bytes base v)
class-none class.Address d list z bytes base v = tt
class-none class.Number d list z bytes base v = tt
class-none class.Signed d list z bytes base v = tt
class-none class.Bytes d list z bytes base v = tt
class-none class.Flag d list z bytes base v = tt
class-none class.InlineText d list z bytes base v = named-none bytes v.at
class-none class.StrOffset d list z bytes base v = number-none (d.found Str).bytes (value_offset d.base.order z (d.found Str) bytes v)
class-none class.LineStrOffset d list z bytes base v = number-none (d.found LineStr).bytes (value_offset d.base.order z (d.found LineStr) bytes v)
class-none class.StrIndex d list z bytes base v = index-none d list base v.number
class-none class.AddrIndex d list z bytes base v = tt
class-none class.ListIndex d list z bytes base v = tt
class-none class.LocalRef d list z bytes base v = tt
class-none class.GlobalRef d list z bytes base v = tt
class-none class.Signature d list z bytes base v = tt
class-none class.SecOffset d list z bytes base v = tt

value-none : (d : DebugData) (list : List Contribution) (z : UnitSection) (bytes : List ℕ) (base : Option ℕ) (o : Option Value) → AnyText (value_text d list z bytes base o)
value-none d list z bytes base None = tt
value-none d list z bytes base (Some v) = class-none v.class d list z bytes base v

-- ### Paths of a unit

listed-none : (text path : List ℕ) → has_nul path ≡ false → HaveNoNul (listed text path)
listed-none text path e = by_text (is_made_up text)
  where
    by_text : (t : Bool) → HaveNoNul (if t then [] else path ∷ [])
    by_text true = tt
    by_text false = (e, tt)

unit-none : (folder : List ℕ) (o : Option (List ℕ)) → has_nul folder ≡ false → AnyText o → HaveNoNul (unit_path folder o)
unit-none folder None f e = tt
unit-none folder (Some name) f e = listed-none name (joined_path folder name) (joined-none folder name f e)

file-none : (folder name : List ℕ) (o : Option (List ℕ)) → has_nul folder ≡ false → has_nul name ≡ false → AnyText o → HaveNoNul (file_in folder name o)
file-none folder name None f n e = tt
file-none folder name (Some dir) f n e = listed-none name (joined_path (joined_path folder dir) name) (joined-none (joined_path folder dir) name (joined-none folder dir f e) n)

-- the text of a directory
item-none : (g : LineSource) (xs : List TextPlace) (i : ℕ) → EachBare g xs → AnyText (text_of_place g (item_at xs i))
item-none g [] i a = tt
item-none g (x ∷ xs) zero a = a.0
item-none g (x ∷ xs) (suc i) a = item-none g xs i a.1

dir-none : (g : LineSource) (version : ℕ) (dirs : List TextPlace) (i : ℕ) → EachBare g dirs → AnyText (dir_text g version dirs i)
dir-none g version dirs i a = by_place (not (version == 5) && i == 0) (version == 5)
  where
    by_version : (t : Bool) → AnyText (text_of_place g (if t then item_at dirs i else item_at dirs (i - 1)))
    by_version true = item-none g dirs i a
    by_version false = item-none g dirs (i - 1) a

    by_place : (t five : Bool) → AnyText (if t then Some [] else text_of_place g (if five then item_at dirs i else item_at dirs (i - 1)))
    by_place true five = refl
    by_place false five = by_version five

files-none : (g : LineSource) (folder : List ℕ) (t : LineTable) (fs : List FilePlace) → has_nul folder ≡ false → EachBare g t.dirs → EachBare g (texts_of fs)
    → HaveNoNul (files_paths g folder t fs)
files-none g folder t [] f a b = tt
files-none g folder t (x ∷ xs) f a b =
    none-append (file_path g folder t x) (files_paths g folder t xs) (file-none folder (place_text g x.text) (dir_text g t.version t.dirs x.dir) f b.0 (dir-none g t.version t.dirs x.dir a))
    (files-none g folder t xs f a b.1)

abbrev AnyTable : LineSource → Option LineTable → Type 0
AnyTable g None = ⊤
AnyTable g (Some t) = TableBare g t.dirs t.files

started-none : (g : LineSource) (rs : List LineReading) (n : ℕ) → TablesBare g rs → AnyTable g (started_table g rs n)
started-none g [] n a = tt
started-none g (r ∷ rs) n a = by_start (r.header.start == n) (started-none g rs n a.1)
  where
    by_start : (t : Bool) → AnyTable g (started_table g rs n) → AnyTable g (if t then Some (table_read g r) else started_table g rs n)
    by_start true rest = a.0
    by_start false rest = rest

table-none : (g : LineSource) (folder : List ℕ) (o : Option LineTable) → has_nul folder ≡ false → AnyTable g o → HaveNoNul (table_paths g folder o)
table-none g folder None f a = tt
table-none g folder (Some t) f a = files-none g folder t t.files f a.dirs_are a.files_are

lines-none : (g : LineSource) (rs : List LineReading) (folder : List ℕ) (o : Option ℕ) → has_nul folder ≡ false → TablesBare g rs
    → HaveNoNul (lines_paths g (started_table g rs) folder o)
lines-none g rs folder None f a = tt
lines-none g rs folder (Some n) f a = table-none g folder (started_table g rs n) f (started-none g rs n a)

folder-none : (o : Option (List ℕ)) → AnyText o → has_nul (folder_of o) ≡ false
folder-none None e = refl
folder-none (Some folder) e = e

values-none : (d : DebugData) (list : List Contribution) (rs : List LineReading) (z : UnitSection) (bytes : List ℕ) (r : Root) (base lines : Option ℕ)
    → TablesBare (line_source d) rs → HaveNoNul (paths_by d list (started_table (line_source d) rs) z bytes r base lines)
values-none d list rs z bytes r base lines a =
    let folder : has_nul (folder_of (value_text d list z bytes base r.comp_dir)) ≡ false =
    folder-none (value_text d list z bytes base r.comp_dir) (value-none d list z bytes base r.comp_dir) in
    none-append (unit_path (folder_of (value_text d list z bytes base r.comp_dir)) (value_text d list z bytes base r.name))
    (lines_paths (line_source d) (started_table (line_source d) rs) (folder_of (value_text d list z bytes base r.comp_dir)) lines)
    (unit-none (folder_of (value_text d list z bytes base r.comp_dir)) (value_text d list z bytes base r.name) folder (value-none d list z bytes base r.name))
    (lines-none (line_source d) rs (folder_of (value_text d list z bytes base r.comp_dir)) lines folder a)

root-paths-none : (d : DebugData) (list : List Contribution) (rs : List LineReading) (z : UnitSection) (bytes : List ℕ) (r : Root) → TablesBare (line_source d) rs
    → HaveNoNul (root_paths d list (started_table (line_source d) rs) z bytes r)
unfolding root_paths
root-paths-none d list rs z bytes r a =
    values-none d list rs z bytes r (root_offset d.base.order z (located_cells (d.found StrOffsets)) bytes r.base)
    (root_offset d.base.order z (located_cells (d.found Line)) bytes r.lines) a

unit-paths-none : (d : DebugData) (list : List Contribution) (rs : List LineReading) (z : UnitSection) (h : UnitHeader) → TablesBare (line_source d) rs
    → HaveNoNul (unit_paths d list (started_table (line_source d) rs) z h)
unfolding unit_paths
unit-paths-none d list rs z h a =
    root-paths-none d list rs z (bytes_up_to z h) (root_at h.params (abbreviations_at d.base.abbrevs.bytes h.abbrevs) (bytes_up_to z h) h.first) a

section-none : (d : DebugData) (list : List Contribution) (rs : List LineReading) (z : UnitSection) (hs : List UnitHeader) → TablesBare (line_source d) rs
    → HaveNoNul (section_paths d list (started_table (line_source d) rs) z hs)
section-none d list rs z [] a = tt
section-none d list rs z (h ∷ hs) a =
    none-append (unit_paths d list (started_table (line_source d) rs) z h) (section_paths d list (started_table (line_source d) rs) z hs)
    (unit-paths-none d list rs z h a) (section-none d list rs z hs a)

sections-none : (d : DebugData) (list : List Contribution) (rs : List LineReading) (zs : List UnitSection) (hss : List (List UnitHeader)) → TablesBare (line_source d) rs
    → HaveNoNul (sections_paths d list (started_table (line_source d) rs) zs hss)
sections-none d list rs [] hss a = tt
sections-none d list rs (z ∷ zs) [] a = tt
sections-none d list rs (z ∷ zs) (hs ∷ hss) a =
    none-append (section_paths d list (started_table (line_source d) rs) z hs) (sections_paths d list (started_table (line_source d) rs) zs hss)
    (section-none d list rs z hs a) (sections-none d list rs zs hss a)

-- ### All names

pub sources-none : (v : View) (m : PathMap) (names : List (List ℕ)) → AreSources (debug_data v) m names → HaveNoNul names
unfolding sources_of
sources-none v m names are =
    subst HaveNoNul (sym are.is)
    (paths-none (fronts_of m) []
    (sections_paths (debug_data v) are.readings.contributions (started_table (line_source (debug_data v)) are.readings.lines) ((debug_data v).found Info) are.readings.headers) tt
    (sections-none (debug_data v) are.readings.contributions are.readings.lines ((debug_data v).found Info) are.readings.headers
    (tables-bare (line_source (debug_data v)) 0 (length (line_source (debug_data v)).bytes) are.readings.lines (view-apart v) are.reads.lines)))
