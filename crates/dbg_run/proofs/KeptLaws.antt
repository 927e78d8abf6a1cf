-- What a finished edit or split keeps, in words of the files.
use Rattle.std.proofs.Common.{◌≡◌, ◌≢◌, ℕ, List, length, refl, sym, ap, ◌∙◌, cond, true, false, Bool, subst}
use Rattle.std.specs.Prelude.{if◌then◌else◌, Option, Some, None, option_map, nat_le, unwrap_or, ⊤}
use Rattle.std.specs.List.{list_any}
use Rattle.std.specs.Cmp.Lexicographic.{nat_list_cmp_total, slice_cmp}
use Rattle.std.specs.Ordering.{eq_by_cmp, is_eq, nat_cmp}
use Rattle.std.specs.FinMap.{slice_cmp-IsAntisymmetric, nat_cmp-IsAntisymmetric}
use Rattle.std.specs.declared.cmp.Ordering.{Ordering}
use Rattle.std.specs.declared.cmp.Ordering.TheVariants.{Less, Equal, Greater}
use Rattle.std.specs.FinMap as fin
use Rattle.std.proofs.lemmas.Cmp.{eq_by_cmp_equiv}
use Rattle.dw_meaning.specs.Leavings.{NoLeavings}
use Rattle.dw_meaning.specs.Loaded.{LoadedKept}
use Rattle.dw_meaning.specs.FileMeanings.{MeaningKept, file_data}
use Rattle.dw_base.specs.Paths.{PathMap}
use Rattle.job_types.specs.Modes.{not_executable}
use Rattle.job_types.specs.Settings.{Settings, most_file}
use Rattle.dbg_split.specs.DebugFile.{debug_file}
use Rattle.dbg_split.specs.PairMeanings.{MeansAsOne}
use Rattle.dbg_split.specs.StrippedFile.{stripped_file}
use Rattle.dbg_unstrip.specs.Joined.{joined}
use Rattle.dbg_unstrip.specs.Rejoined.{IsRejoined, WasSplit}
use Rattle.file_tree.specs.declared.node.Found.{Found}
use Rattle.file_tree.specs.declared.node.Found.TheVariants as found
use Rattle.file_tree.specs.declared.node.Node.{Node}
use Rattle.file_tree.specs.declared.node.Node.TheVariants as node
use Rattle.file_tree.specs.Heard.{Heard}
use Rattle.file_tree.specs.Seen.{Seen, now_of}
use Rattle.file_tree.specs.Trees.{TreeMap, found_of, is_below, stands_at, with_node}
use Rattle.dbg_words.specs.declared.command.Command.{Command}
use Rattle.dbg_words.specs.declared.command.Command.TheVariants.{Edit, Split, Run, Show, Unstrip, Gather, Exercise}
use Rattle.dbg_run.proofs.BuiltLaws.{listed_apart, parts_apart}
use Rattle.dbg_run.proofs.RootKeptLaws.{root_leaves, root_loads, root_means}
use Rattle.dbg_run.specs.Built.{built}
use Rattle.dbg_run.specs.Edits.{EditDone, ListedDone, OfFiles, Keeps, list_mode}
use Rattle.dbg_run.specs.Edits.Keeps.{both}
use Rattle.dbg_run.specs.Shows.{base_name}
use Rattle.dbg_run.specs.Splits.{OfParts, Parts, SplitDone}
use Rattle.dbg_run.specs.Unstrips.{OfRejoined, UnstripDone}
use Rattle.dbg_run.specs.Splits.Parts.{all}
use Rattle.dbg_run.specs.Runs.{Done, KeepsMeaning, KeepsLoaded, LeavesNothing}

-- a path that was put holds what was put there
get_put : (t : TreeMap) (path : List ℕ) (n : Node) → fin.get (with_node path n t) path ≡ Some n
get_put t path n =
    fin.get-insert nat_list_cmp_total t path n path
    ∙ ap (λ (b : Bool). cond b (Some n) (fin.get t path)) ((eq_by_cmp_equiv nat_list_cmp_total).refl path)

-- a file that was read within a limit is the one that is there
bytes_of : List ℕ → Found → List ℕ
bytes_of other (found.File b mode) = b
bytes_of other found.Absent = other
bytes_of other found.Folder = other
bytes_of other (found.Link target) = other
bytes_of other (found.TooLarge size) = other

found-file : (b c : List ℕ) (mode other : ℕ) (test : Bool) → (if test then found.File b mode else found.TooLarge (length b)) ≡ found.File c other → b ≡ c
unfolding bytes_of
found-file b c mode other true e = ap (bytes_of b) e
found-file b c mode other false e = ap (bytes_of b) e

read-file : (t : TreeMap) (path b c : List ℕ) (mode other limit : ℕ) → fin.get t path ≡ Some (node.File b mode) → stands_at t path limit ≡ found.File c other → b ≡ c
unfolding stands_at
read-file t path b c mode other limit there read =
    found-file b c mode other (nat_le (length b) limit)
    (ap (λ (n : Option Node). found_of n (list_any (is_below path) (fin.keys t)) limit) (sym there) ∙ read)

node_bytes : List ℕ → Option Node → List ℕ
node_bytes other (Some (node.File b mode)) = b
node_bytes other (Some (node.Link target)) = other
node_bytes other None = other

written-file : (t u : TreeMap) (path out other : List ℕ) (mode out_mode : ℕ) → Some u ≡ Some (with_node path (node.File out mode) t)
    → fin.get u path ≡ Some (node.File other out_mode) → out ≡ other
unfolding node_bytes
written-file t u path out other mode out_mode is there =
    let map : u ≡ with_node path (node.File out mode) t = ap (λ (o : Option TreeMap). unwrap_or o u) is in
    ap (node_bytes out) (sym (get_put t path (node.File out mode)) ∙ ap (λ (v : TreeMap). fin.get v path) (sym map) ∙ there)

-- so what holds of the two files that an edit speaks of holds of what the input and the output hold
of_files : (P : List ℕ → List ℕ → Type 0) (input output : List ℕ) (s : Settings) (limit : ℕ) (old new : Seen) → (d : EditDone input output s limit old new) → P d.b d.out
    → OfFiles P input output (now_of old) (now_of new)
of_files P input output s limit old new d holds = record {
  is = λ t u b out mode out_mode old_is new_is there put.
      let input_is : b ≡ d.b = read-file t input b d.b mode d.mode limit there (d.read.is t old_is) in
      let map : Some u ≡ Some (with_node output (node.File d.out d.mode) t) =
      sym new_is ∙ d.written ∙ ap (option_map (with_node output (node.File d.out d.mode))) old_is in
      let output_is : d.out ≡ out = written-file t u output d.out out d.mode out_mode map put in
      subst (λ (o : List ℕ). P b o) output_is (subst (λ (i : List ℕ). P i d.out) (sym input_is) holds);
}

meaning_kept : (m : PathMap) (b out : List ℕ) → Keeps m b out → MeaningKept m b out
meaning_kept m b out (both meaning loaded none) = meaning

loaded_kept : (m : PathMap) (b out : List ℕ) → Keeps m b out → LoadedKept b out
loaded_kept m b out (both meaning loaded none) = loaded

none_left : (m : PathMap) (b out : List ℕ) → Keeps m b out → NoLeavings (file_data out)
none_left m b out (both meaning loaded none) = none

tied : (a b : List ℕ) → slice_cmp nat_cmp a b ≡ Equal → a ≡ b
tied a b e = slice_cmp-IsAntisymmetric nat_cmp-IsAntisymmetric a b e

by_eq : (o : Ordering) → is_eq o ≡ true → o ≡ Equal
by_eq Less t = cc
by_eq Equal t = refl
by_eq Greater t = cc

-- a path that wasn't put holds what it held
pub get_put_other : (t : TreeMap) (path other : List ℕ) (n : Node) → other ≢ path → fin.get (with_node path n t) other ≡ fin.get t other
get_put_other t path other n apart =
    fin.get-insert nat_list_cmp_total t path n other
    ∙ ap (λ (b : Bool). cond b (Some n) (fin.get t other)) (by_test (eq_by_cmp (slice_cmp nat_cmp) other path) refl)
  where
    by_test : (b : Bool) → eq_by_cmp (slice_cmp nat_cmp) other path ≡ b → eq_by_cmp (slice_cmp nat_cmp) other path ≡ false
    by_test true e = absurd (apart (tied other path (by_eq (slice_cmp nat_cmp other path) e)))
    by_test false e = e

-- where a list was put behind the output, the output holds what it would have without one
of_listed : (P : List ℕ → List ℕ → Type 0) (input output list : List ℕ) (s : Settings) (limit : ℕ) (old new : Seen) → list ≢ output
    → (d : ListedDone input output list s limit old new) → P d.b d.out → OfFiles P input output (now_of old) (now_of new)
unfolding node_bytes
of_listed P input output list s limit old new apart d holds = record {
  is = λ t u b out mode out_mode old_is new_is there put.
      let input_is : b ≡ d.b = read-file t input b d.b mode d.mode limit there (d.read.is t old_is) in
      let mid = with_node output (node.File d.out d.mode) t in
      let map : Some u ≡ Some (with_node list (node.File d.text list_mode) mid) =
      sym new_is ∙ d.written
      ∙ ap (λ (x : Option TreeMap). option_map (with_node list (node.File d.text list_mode)) (option_map (with_node output (node.File d.out d.mode)) x)) old_is in
      let whole : u ≡ with_node list (node.File d.text list_mode) mid = ap (λ (o : Option TreeMap). unwrap_or o u) map in
      let held : fin.get mid output ≡ Some (node.File out out_mode) =
      sym (get_put_other mid list output (node.File d.text list_mode) (λ e. apart (sym e))) ∙ ap (λ (v : TreeMap). fin.get v output) (sym whole) ∙ put in
      let output_is : d.out ≡ out = ap (node_bytes out) (sym (get_put t output (node.File d.out d.mode)) ∙ held) in
      subst (λ (o : List ℕ). P b o) output_is (subst (λ (i : List ℕ). P i d.out) (sym input_is) holds);
}

-- where both files were put, each path holds its file
of_parts : (P : List ℕ → List ℕ → List ℕ → Type 0) (input stripped debug : List ℕ) (old new : Seen) → debug ≢ stripped → (d : SplitDone input stripped debug old new)
    → P d.b (stripped_file d.b (base_name debug)) (debug_file d.b) → OfParts P input stripped debug (now_of old) (now_of new)
unfolding node_bytes
of_parts P input stripped debug old new apart done holds = record {
  is = λ t u b s d mode one two old_is new_is there put beside.
      let whole_s : List ℕ = stripped_file done.b (base_name debug) in
      let whole_d : List ℕ = debug_file done.b in
      let input_is : b ≡ done.b = read-file t input b done.b mode done.mode most_file there (done.read.is t old_is) in
      let mid = with_node debug (node.File whole_d (not_executable done.mode)) t in
      let map : Some u ≡ Some (with_node stripped (node.File whole_s done.mode) mid) =
      sym new_is ∙ done.written
      ∙ ap (λ (x : Option TreeMap). option_map (with_node stripped (node.File whole_s done.mode)) (option_map (with_node debug (node.File whole_d (not_executable done.mode))) x)) old_is in
      let stripped_is : whole_s ≡ s = written-file mid u stripped whole_s s done.mode one map put in
      let whole : u ≡ with_node stripped (node.File whole_s done.mode) mid = ap (λ (o : Option TreeMap). unwrap_or o u) map in
      let held : fin.get mid debug ≡ Some (node.File d two) =
      sym (get_put_other mid stripped debug (node.File whole_s done.mode) apart) ∙ ap (λ (v : TreeMap). fin.get v debug) (sym whole) ∙ beside in
      let debug_is : whole_d ≡ d = ap (node_bytes d) (sym (get_put t debug (node.File whole_d (not_executable done.mode))) ∙ held) in
      subst (λ (x : List ℕ). P b s x) debug_is (subst (λ (x : List ℕ). P b x whole_d) stripped_is (subst (λ (x : List ℕ). P x whole_s whole_d) (sym input_is) holds));
}

-- the stripped file's path holds the stripped file, which was put last
of_stripped : (P : List ℕ → List ℕ → Type 0) (input stripped debug : List ℕ) (old new : Seen) → (d : SplitDone input stripped debug old new)
    → P d.b (stripped_file d.b (base_name debug)) → OfFiles P input stripped (now_of old) (now_of new)
of_stripped P input stripped debug old new done holds = record {
  is = λ t u b s mode one old_is new_is there put.
      let whole_s : List ℕ = stripped_file done.b (base_name debug) in
      let input_is : b ≡ done.b = read-file t input b done.b mode done.mode most_file there (done.read.is t old_is) in
      let mid = with_node debug (node.File (debug_file done.b) (not_executable done.mode)) t in
      let map : Some u ≡ Some (with_node stripped (node.File whole_s done.mode) mid) =
      sym new_is ∙ done.written
      ∙ ap (λ (x : Option TreeMap). option_map (with_node stripped (node.File whole_s done.mode)) (option_map (with_node debug (node.File (debug_file done.b) (not_executable done.mode))) x)) old_is in
      let stripped_is : whole_s ≡ s = written-file mid u stripped whole_s s done.mode one map put in
      subst (λ (x : List ℕ). P b x) stripped_is (subst (λ (x : List ℕ). P x whole_s) (sym input_is) holds);
}

-- what holds of a file that was split and of the file of its two parts holds of it and of what the output holds
of_rejoined : (P : List ℕ → List ℕ → Type 0) (stripped debug output : List ℕ) (old new : Seen) → ((b out : List ℕ) → IsRejoined b out → P b out)
    → UnstripDone stripped debug output old new → OfRejoined P stripped debug output (now_of old) (now_of new)
of_rejoined P stripped debug output old new holds done = record {
  is = λ t u b s d out mode other out_mode old_is new_is there also put was.
      let stripped_is : s ≡ done.s = read-file t stripped s done.s mode done.mode most_file there (done.read.is t old_is) in
      let debug_is : d ≡ done.d = read-file t debug d done.d other done.other most_file also (done.debug_read.is t old_is) in
      let file : List ℕ = joined done.s done.d in
      let map : Some u ≡ Some (with_node output (node.File file done.mode) t) =
      sym new_is ∙ done.written ∙ ap (option_map (with_node output (node.File file done.mode))) old_is in
      let output_is : file ≡ out = written-file t u output file out done.mode out_mode map put in
      let split : WasSplit b (base_name debug) done.s done.d =
      subst (λ (x : List ℕ). WasSplit b (base_name debug) x done.d) stripped_is (subst (λ (y : List ℕ). WasSplit b (base_name debug) s y) debug_is was) in
      subst (λ (f : List ℕ). P b f) output_is (holds b file (done.back.is b split));
}

parts_mean : (b name s d : List ℕ) → Parts b name s d → MeansAsOne b d s
parts_mean b name s d (all joins means read paired loaded) = means

parts_loaded : (b name s d : List ℕ) → Parts b name s d → LoadedKept b s
parts_loaded b name s d (all joins means read paired loaded) = loaded

-- a list's path is another one than the output's, and a debug file's another one than the stripped file's
abbrev OutputsApart : Option Command → Type 0
OutputsApart (Some (Edit input output o (Some list))) = list ≢ output
OutputsApart (Some (Split input stripped debug)) = debug ≢ stripped
OutputsApart c = ⊤

outputs_apart : (words : List (List ℕ)) (c : Option Command) → built words ≡ c → OutputsApart c
outputs_apart words (Some (Edit input output o (Some list))) is = listed_apart words input output list o is
outputs_apart words (Some (Split input stripped debug)) is = parts_apart words input stripped debug is
outputs_apart words c is = tt

meaning_by : (c : Option Command) (old new : Seen) (heard said : Heard) → OutputsApart c → Done c old new heard said → KeepsMeaning c old new
meaning_by (Some (Edit input output o None)) old new heard said apart d =
    of_files (MeaningKept o.maps) input output o o.max_file old new d.0 (meaning_kept o.maps d.0.b d.0.out d.0.keeps)
meaning_by (Some (Edit input output o (Some list))) old new heard said apart d =
    of_listed (MeaningKept o.maps) input output list o o.max_file old new apart d.0 (meaning_kept o.maps d.0.b d.0.out d.0.keeps)
meaning_by (Some (Split input stripped debug)) old new heard said apart d =
    of_parts (λ b s x. MeansAsOne b x s) input stripped debug old new apart d.0
    (parts_mean d.0.b (base_name debug) (stripped_file d.0.b (base_name debug)) (debug_file d.0.b) d.0.parts)
meaning_by (Some (Show file debug)) old new heard said apart d = tt
meaning_by (Some (Unstrip stripped debug output)) old new heard said apart d = of_rejoined IsRejoined stripped debug output old new (λ b out is. is) d.0
meaning_by (Some (Run root o jobs)) old new heard said apart d = root_means root o old new heard said d
meaning_by (Some (Gather root from dest jobs)) old new heard said apart d = tt
meaning_by (Some (Exercise seed units)) old new heard said apart d = tt
meaning_by c old new heard said apart d = d

loaded_by : (c : Option Command) (old new : Seen) (heard said : Heard) → OutputsApart c → Done c old new heard said → KeepsLoaded c old new
loaded_by (Some (Edit input output o None)) old new heard said apart d =
    of_files LoadedKept input output o o.max_file old new d.0 (loaded_kept o.maps d.0.b d.0.out d.0.keeps)
loaded_by (Some (Edit input output o (Some list))) old new heard said apart d =
    of_listed LoadedKept input output list o o.max_file old new apart d.0 (loaded_kept o.maps d.0.b d.0.out d.0.keeps)
loaded_by (Some (Split input stripped debug)) old new heard said apart d =
    of_stripped LoadedKept input stripped debug old new d.0
    (parts_loaded d.0.b (base_name debug) (stripped_file d.0.b (base_name debug)) (debug_file d.0.b) d.0.parts)
loaded_by (Some (Show file debug)) old new heard said apart d = tt
loaded_by (Some (Unstrip stripped debug output)) old new heard said apart d = of_rejoined LoadedKept stripped debug output old new (λ b out is. is.loaded) d.0
loaded_by (Some (Run root o jobs)) old new heard said apart d = root_loads root o old new heard said d
loaded_by (Some (Gather root from dest jobs)) old new heard said apart d = tt
loaded_by (Some (Exercise seed units)) old new heard said apart d = tt
loaded_by c old new heard said apart d = d

leaves_by : (c : Option Command) (old new : Seen) (heard said : Heard) → OutputsApart c → Done c old new heard said → LeavesNothing c old new
leaves_by (Some (Edit input output o None)) old new heard said apart d =
    of_files (λ b file. NoLeavings (file_data file)) input output o o.max_file old new d.0 (none_left o.maps d.0.b d.0.out d.0.keeps)
leaves_by (Some (Edit input output o (Some list))) old new heard said apart d =
    of_listed (λ b file. NoLeavings (file_data file)) input output list o o.max_file old new apart d.0 (none_left o.maps d.0.b d.0.out d.0.keeps)
leaves_by (Some (Split input stripped debug)) old new heard said apart d = tt
leaves_by (Some (Show file debug)) old new heard said apart d = tt
leaves_by (Some (Unstrip stripped debug output)) old new heard said apart d = tt
leaves_by (Some (Run root o jobs)) old new heard said apart d = root_leaves root o old new heard said d
leaves_by (Some (Gather root from dest jobs)) old new heard said apart d = tt
leaves_by c old new heard said apart d = tt

pub keeps_meaning : (words : List (List ℕ)) (old new : Seen) (heard said : Heard) → Done (built words) old new heard said → KeepsMeaning (built words) old new
keeps_meaning words old new heard said d = meaning_by (built words) old new heard said (outputs_apart words (built words) refl) d

pub keeps_loaded : (words : List (List ℕ)) (old new : Seen) (heard said : Heard) → Done (built words) old new heard said → KeepsLoaded (built words) old new
keeps_loaded words old new heard said d = loaded_by (built words) old new heard said (outputs_apart words (built words) refl) d

pub leaves_nothing : (words : List (List ℕ)) (old new : Seen) (heard said : Heard) → Done (built words) old new heard said → LeavesNothing (built words) old new
leaves_nothing words old new heard said d = leaves_by (built words) old new heard said (outputs_apart words (built words) refl) d
