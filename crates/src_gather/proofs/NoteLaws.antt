-- What the listed names come to, one after another.
use Rattle.std.proofs.Common.{◌≡◌, ℕ, ◌+◌, ◌≤◌, ◌<◌, true, false, List, [], length, map, take, get_or, Vec, Option, Result, Err, refl, sym, ap, ◌∙◌, subst, arith}
use Rattle.std.specs.Prelude.{IsErrOf}
use Rattle.std.specs.declared.alloc.Global.{Global}
use Rattle.std.proofs.lemmas.List.{get_or-map, length-map, take_more}
use Rattle.file_tree.specs.declared.node.Found.{Found}
use Rattle.file_tree.specs.declared.node.TreeErr.{TreeErr}
use Rattle.file_tree.specs.declared.node.TreeErr.TheVariants as tree
use Rattle.file_tree.specs.Causes.{Stood, Rose}
use Rattle.file_tree.specs.Seen.{Seen, now_of}
use Rattle.file_tree.specs.Trees.{TreeMap}
use Rattle.work_texts.specs.Lists.{bytes_of}
use Rattle.work_texts.specs.Rules.{text_limit}
use Rattle.root_paths.specs.Looks.{Looked}
use Rattle.root_paths.specs.Roots.{in_root, longest_path}
use Rattle.root_paths.proofs.LookLaws.{looked_none, looked_then, rose_since}
use Rattle.src_gather.specs.declared.gather_err.GatherErr.{GatherErr}
use Rattle.src_gather.specs.Errors.{tree_ends}
use Rattle.src_gather.specs.Listed.{is_fit, copy_folder}
use Rattle.src_gather.specs.Gathering.{Gathering, FoundNoted, Noted, Gathers, IsShort, with_missing}
use Rattle.src_gather.specs.Gathering.{FoundNoted as what_noted, Noted as note, Gathers as gathers}
use Rattle.src_gather.specs.GatherEnds.{OrStopped, IsLong, IsLongName, FoundEnds, NameEnds, NamesEnd}
use Rattle.src_gather.specs.GatherEnds.{OrStopped as or_stopped, IsLong as long, IsLongName as long_name, FoundEnds as large, NameEnds as name_end, NamesEnd as names_end}

-- ### The paths of a name

pub long_source : (root from dest name path : List ℕ) (e : GatherErr) → path ≡ in_root from name → IsLong path e → IsLongName root from dest name e
long_source root from dest name path e is ended = long_name.source (subst (λ (p : List ℕ). IsLong p e) is ended)

pub long_copy : (root from dest name folder path : List ℕ) (e : GatherErr) → folder ≡ copy_folder root dest → path ≡ in_root folder name → IsLong path e → IsLongName root from dest name e
long_copy root from dest name folder path e at is ended = long_name.copy (subst (λ (p : List ℕ). IsLong p e) (is ∙ ap (λ (f : List ℕ). in_root f name) at) ended)

pub are_short : (root from dest name source folder copy : List ℕ) → source ≡ in_root from name → length source ≤ longest_path → folder ≡ copy_folder root dest → copy ≡ in_root folder name
    → length copy ≤ longest_path → IsShort root from dest name
are_short root from dest name source folder copy s short at c within = record {
  source = subst (λ (p : List ℕ). length p ≤ longest_path) s short;
  copy = subst (λ (p : List ℕ). length p ≤ longest_path) (c ∙ ap (λ (f : List ℕ). in_root f name) at) within;
}

-- ### One name

pub unfit_noted : (old : Option TreeMap) (root from dest name : List ℕ) (g h : Gathering) → is_fit name ≡ false → h ≡ with_missing g → Noted old root from dest name g h
unfit_noted old root from dest name g h unfit is = subst (Noted old root from dest name g) (sym is) (note.unfit unfit)

noted-by : (old : Option TreeMap) (root from dest name : List ℕ) (what : Found) (g h : Gathering) → is_fit name ≡ true → IsShort root from dest name
    → Stood old (in_root from name) text_limit what → FoundNoted name what g h → Noted old root from dest name g h
noted-by old root from dest name what g h fit short stood (what_noted.not_there none) = note.no_file fit short (record { limit = text_limit; what = what; stood = stood; is = none })
noted-by old root from dest name what g h fit short stood (what_noted.there {bytes} {mode} is) =
    note.gathered {bytes = bytes} fit short (record { mode = mode; stood = subst (λ (w : Found). Stood old (in_root from name) text_limit w) is stood })

pub found_noted : (old : Option TreeMap) (root from dest name text source : List ℕ) (what : Found) (g h : Gathering) → (text ≡ name) × (is_fit name ≡ true) → IsShort root from dest text
    → source ≡ in_root from text → Stood old source text_limit what → FoundNoted text what g h → Noted old root from dest name g h
found_noted old root from dest name text source what g h is short at stood noted =
    let same : text ≡ name = is.0 in
    noted-by old root from dest name what g h is.1 (subst (IsShort root from dest) same short)
    (subst (λ (p : List ℕ). Stood old p text_limit what) (at ∙ ap (in_root from) same) stood)
    (subst (λ (n : List ℕ). FoundNoted n what g h) same noted)

long-by : (old new : Seen) (root from dest name : List ℕ) (e : GatherErr) → is_fit name ≡ true → IsLong (in_root from name) e → OrStopped (NameEnds (now_of old) root from dest name) old new e
long-by old new root from dest name e fit (long.long l) = or_stopped.told (name_end.long_source fit l)
long-by old new root from dest name e fit long.no_memory = or_stopped.no_memory

long-copy-by : (old new : Seen) (root from dest name : List ℕ) (e : GatherErr) → is_fit name ≡ true → IsLong (in_root (copy_folder root dest) name) e
    → OrStopped (NameEnds (now_of old) root from dest name) old new e
long-copy-by old new root from dest name e fit (long.long l) = or_stopped.told (name_end.long_copy fit l)
long-copy-by old new root from dest name e fit long.no_memory = or_stopped.no_memory

name-long : (old new : Seen) (root from dest name : List ℕ) (e : GatherErr) → is_fit name ≡ true → IsLongName root from dest name e → OrStopped (NameEnds (now_of old) root from dest name) old new e
name-long old new root from dest name e fit (long_name.source l) = long-by old new root from dest name e fit l
name-long old new root from dest name e fit (long_name.copy l) = long-copy-by old new root from dest name e fit l
name-long old new root from dest name e fit long_name.no_memory = or_stopped.no_memory

pub long_ends : (old new : Seen) (root from dest name text : List ℕ) (e : GatherErr) → (text ≡ name) × (is_fit name ≡ true) → IsLongName root from dest text e
    → OrStopped (NameEnds (now_of old) root from dest name) old new e
long_ends old new root from dest name text e is ended = name-long old new root from dest name e is.1 (subst (λ (n : List ℕ). IsLongName root from dest n e) is.0 ended)

large-by : (old new : Seen) (root from dest name : List ℕ) (what : Found) (e : GatherErr) → is_fit name ≡ true → IsShort root from dest name
    → Stood (now_of old) (in_root from name) text_limit what → FoundEnds (in_root from name) what e → OrStopped (NameEnds (now_of old) root from dest name) old new e
large-by old new root from dest name what e fit short stood (large.too_large {size}) = or_stopped.told (name_end.too_large fit short (record { stood = stood }))
large-by old new root from dest name what e fit short stood large.no_memory = or_stopped.no_memory

pub found_ends : (old new : Seen) (root from dest name text source : List ℕ) (what : Found) (e : GatherErr) → (text ≡ name) × (is_fit name ≡ true) → IsShort root from dest text
    → source ≡ in_root from text → Stood (now_of old) source text_limit what → FoundEnds source what e → OrStopped (NameEnds (now_of old) root from dest name) old new e
found_ends old new root from dest name text source what e is short at stood ended =
    let same : text ≡ name = is.0 in
    let path : source ≡ in_root from name = at ∙ ap (in_root from) same in
    large-by old new root from dest name what e is.1 (subst (IsShort root from dest) same short)
    (subst (λ (p : List ℕ). Stood (now_of old) p text_limit what) path stood)
    (subst (λ (p : List ℕ). FoundEnds p what e) path ended)

-- a call of the tree that fails
pub stopped : {X : Type 0} (Ends : GatherErr → Type 0) (old new : Seen) (r : Result X TreeErr) (t : TreeErr) → r ≡ Err t → (IsErrOf r tree.Failed → Rose old.faults new.faults)
    → OrStopped Ends old new (tree_ends t)
stopped {X} Ends old new r tree.Failed is f = or_stopped.failed (f (subst (λ (q : Result X TreeErr). IsErrOf q tree.Failed) (sym is) refl))
stopped {X} Ends old new r tree.NoMemory is f = or_stopped.no_memory

pub ruleset name_rules = (unfit_noted, found_noted, long_ends, found_ends, or_stopped.failed, or_stopped.no_memory, looked_none)

-- ### All names

-- the name of a number
pub name_at : (names : List (Vec ℕ Global)) (n : ℕ) (d : Vec ℕ Global) (name : List ℕ) → n < length names → name ≡ (get_or names n d).items → name ≡ get_or (map bytes_of names) n []
name_at names n d name l is = is ∙ sym (get_or-map bytes_of names n d [] l)

pub index_mapped : (names : List (Vec ℕ Global)) (n : ℕ) → n < length names → n < length (map bytes_of names)
index_mapped names n l = subst (λ (k : ℕ). n < k) (sym (length-map names bytes_of)) l

pub one_more : (old now : Option TreeMap) (root from dest : List ℕ) (names : List (List ℕ)) (name : List ℕ) (n : ℕ) (g h : Gathering) → n < length names → name ≡ get_or names n [] → now ≡ old
    → Gathers old root from dest (take n names) g → Noted now root from dest name g h → Gathers old root from dest (take (n + 1) names) h
one_more old now root from dest names name n g h l is same gs noted =
    let here : Noted old root from dest (get_or names n []) g h = subst (λ (p : List ℕ). Noted old root from dest p g h) is (subst (λ (o : Option TreeMap). Noted o root from dest name g h) same noted) in
    subst (λ (ns : List (List ℕ)). Gathers old root from dest ns h) (sym (take_more names n [] l)) (gathers.more gs here)

-- each name is missing, or it isn't
noted-few : (old : Option TreeMap) (root from dest name : List ℕ) (g h : Gathering) → Noted old root from dest name g h → h.missing ≤ g.missing + 1
noted-few old root from dest name g h (note.unfit unfit) = omega arith
noted-few old root from dest name g h (note.no_file fit short none) = omega arith
noted-few old root from dest name g h (note.gathered fit short read) = omega arith

pub missing_more : (old : Option TreeMap) (root from dest name : List ℕ) (g h : Gathering) (n : ℕ) → Noted old root from dest name g h → g.missing ≤ n → h.missing ≤ n + 1
missing_more old root from dest name g h n noted le = omega (arith, noted-few old root from dest name g h noted, le)

ends-before : (a b c : Seen) (root from dest name : List ℕ) (e : GatherErr) → Looked a b → OrStopped (NameEnds (now_of b) root from dest name) b c e
    → OrStopped (NameEnds (now_of a) root from dest name) a c e
ends-before a b c root from dest name e looked (or_stopped.told ended) = or_stopped.told (subst (λ (o : Option TreeMap). NameEnds o root from dest name e) looked.now ended)
ends-before a b c root from dest name e looked (or_stopped.failed rose) = or_stopped.failed (rose_since a b c looked rose)
ends-before a b c root from dest name e looked or_stopped.no_memory = or_stopped.no_memory

names-by : (a c : Seen) (root from dest : List ℕ) (names : List (List ℕ)) (n : ℕ) (g : Gathering) (e : GatherErr) → n < length names → Gathers (now_of a) root from dest (take n names) g
    → OrStopped (NameEnds (now_of a) root from dest (get_or names n [])) a c e → OrStopped (NamesEnd (now_of a) root from dest names) a c e
names-by a c root from dest names n g e l gs (or_stopped.told ended) = or_stopped.told (names_end.at_name n l gs ended)
names-by a c root from dest names n g e l gs (or_stopped.failed rose) = or_stopped.failed rose
names-by a c root from dest names n g e l gs or_stopped.no_memory = or_stopped.no_memory

pub ends_there : (a b c : Seen) (root from dest : List ℕ) (names : List (List ℕ)) (name : List ℕ) (n : ℕ) (g : Gathering) (e : GatherErr) → n < length names → name ≡ get_or names n [] → Looked a b
    → Gathers (now_of a) root from dest (take n names) g → OrStopped (NameEnds (now_of b) root from dest name) b c e → OrStopped (NamesEnd (now_of a) root from dest names) a c e
ends_there a b c root from dest names name n g e l is looked gs ended =
    names-by a c root from dest names n g e l gs
    (subst (λ (p : List ℕ). OrStopped (NameEnds (now_of a) root from dest p) a c e) is (ends-before a b c root from dest name e looked ended))

-- the names that a loop passed are those of the list, once it is over
pub all_gathered : (old : Option TreeMap) (root from dest : List ℕ) (names : List (List ℕ)) (n : ℕ) (g : Gathering) → take n names ≡ names → Gathers old root from dest (take n names) g
    → Gathers old root from dest names g
all_gathered old root from dest names n g all gs = subst (λ (ns : List (List ℕ)). Gathers old root from dest ns g) all gs
