-- A plan of a gather that is made of a tree that isn't planned yet is one of the tree before: the files of the run over the root and the
-- sources are as they were, and a copy that can be made now could be made then.
use Rattle.std.proofs.Common.{◌≡◌, ℕ, Bool, true, false, if◌then◌else◌, List, [], ◌∷◌, ◌++◌, length, nat_eq, nat_le, Option, Some, None, refl, sym, ap, ◌∙◌, subst, append_assoc}
use Rattle.std.specs.Prelude.{Contains, codes, is_some}
use Rattle.std.specs.FinMap as fin
use Rattle.std.specs.List.{list_any, starts_with}
use Rattle.file_tree.specs.declared.node.Found.TheVariants as found
use Rattle.file_tree.specs.declared.node.Node.{Node}
use Rattle.file_tree.specs.declared.node.Node.TheVariants as node
use Rattle.file_tree.specs.Causes.{Stood}
use Rattle.file_tree.specs.Trees.{TreeMap, found_of, is_below, keys_below, stands_at}
use Rattle.journal_core.specs.Names.{plan_new}
use Rattle.work_texts.specs.declared.plan.PlanData.{PlanData}
use Rattle.work_texts.specs.Rules.{text_limit}
use Rattle.work_journal.specs.Work.{work_path}
use Rattle.work_journal.proofs.SpareLaws.{is_work_path}
use Rattle.root_paths.specs.Roots.{in_root, work_folder}
use Rattle.root_paths.specs.NewPaths.{IsTaken}
use Rattle.root_paths.specs.NewPaths.{IsTaken as taken}
use Rattle.root_run.specs.Partways.{IsUnstarted}
use Rattle.root_run.proofs.FewLaws.{has-from, has-in}
use Rattle.root_run.proofs.KeysLaws.{front-same, key-below, keys-have, keys-order}
use Rattle.src_gather.specs.Asked.{IsAsked}
use Rattle.src_gather.specs.Listed.{IsFileAt, IsNoFileAt, IsRead, end_path, is_no_file, list_path}
use Rattle.src_gather.specs.Gathering.{Gathering, Gathers, IsGathering, IsGatherPlan, Noted}
use Rattle.src_gather.specs.Gathering.{Gathers as gathers, Noted as note}
use Rattle.src_gather.specs.Makers.{gather_folder}
use Rattle.src_gather.specs.Wholes.{IsClean}
use Rattle.src_gather.proofs.FolderLaws.{source-work}

-- ### A path that holds the same in two trees

-- whether a file is found hangs on the node alone
none-alike : (o : Option Node) (b c : Bool) (limit : ℕ) → is_no_file (found_of o b limit) ≡ is_no_file (found_of o c limit)
none-alike None true true limit = refl
none-alike None true false limit = refl
none-alike None false true limit = refl
none-alike None false false limit = refl
none-alike (Some (node.File bytes mode)) b c limit = refl
none-alike (Some (node.Link target)) b c limit = refl

file-alike : (o : Option Node) (b c : Bool) (limit : ℕ) (bytes : List ℕ) (mode : ℕ) → found_of o b limit ≡ found.File bytes mode → found_of o c limit ≡ found.File bytes mode
file-alike None true c limit bytes mode e = cc
file-alike None false c limit bytes mode e = cc
file-alike (Some (node.File x m)) b c limit bytes mode e = e
file-alike (Some (node.Link target)) b c limit bytes mode e = cc

file-none : (b : Bool) (bytes : List ℕ) (mode size : ℕ) → is_no_file (if b then found.File bytes mode else found.TooLarge size) ≡ false
file-none true bytes mode size = refl
file-none false bytes mode size = refl

-- nor on the limit
limits-alike : (o : Option Node) (b : Bool) (m n : ℕ) → is_no_file (found_of o b m) ≡ is_no_file (found_of o b n)
limits-alike None true m n = refl
limits-alike None false m n = refl
limits-alike (Some (node.File bytes mode)) b m n =
    file-none (nat_le (length bytes) m) bytes mode (length bytes) ∙ sym (file-none (nat_le (length bytes) n) bytes mode (length bytes))
limits-alike (Some (node.Link target)) b m n = refl

pub none-limits : (t : TreeMap) (path : List ℕ) (m n : ℕ) → is_no_file (stands_at t path m) ≡ is_no_file (stands_at t path n)
unfolding stands_at
none-limits t path m n = limits-alike (fin.get t path) (list_any (is_below path) (fin.keys t)) m n

some-is : (a b : TreeMap) → Some a ≡ Some b → a ≡ b
some-is a b e = cc

-- what stood in one tree
stood-is : (t : TreeMap) (path : List ℕ) (limit : ℕ) → Stood (Some t) path limit (stands_at t path limit)
stood-is t path limit = record { is = λ x here. ap (λ (m : TreeMap). stands_at m path limit) (sym (some-is t x here)) }

module _ (t u : TreeMap) where
  none-same : (path : List ℕ) (limit : ℕ) → fin.get t path ≡ fin.get u path → is_no_file (stands_at t path limit) ≡ is_no_file (stands_at u path limit)
  unfolding stands_at
  none-same path limit same =
      none-alike (fin.get t path) (list_any (is_below path) (fin.keys t)) (list_any (is_below path) (fin.keys u)) limit
      ∙ ap (λ (o : Option Node). is_no_file (found_of o (list_any (is_below path) (fin.keys u)) limit)) same

  file-same : (path : List ℕ) (limit : ℕ) (bytes : List ℕ) (mode : ℕ) → fin.get t path ≡ fin.get u path → stands_at t path limit ≡ found.File bytes mode → stands_at u path limit ≡ found.File bytes mode
  unfolding stands_at
  file-same path limit bytes mode same e =
      file-alike (fin.get u path) (list_any (is_below path) (fin.keys t)) (list_any (is_below path) (fin.keys u)) limit bytes mode
      (ap (λ (o : Option Node). found_of o (list_any (is_below path) (fin.keys t)) limit) (sym same) ∙ e)

  no-file-moves : (path : List ℕ) → fin.get t path ≡ fin.get u path → IsNoFileAt (Some t) path → IsNoFileAt (Some u) path
  no-file-moves path same h = record {
    limit = h.limit;
    what = stands_at u path h.limit;
    stood = stood-is u path h.limit;
    is = sym (none-same path h.limit same) ∙ ap is_no_file (h.stood.is t refl) ∙ h.is;
  }

  file-moves : (path : List ℕ) → fin.get t path ≡ fin.get u path → IsFileAt (Some t) path → IsFileAt (Some u) path
  file-moves path same h = record {
    limit = h.limit;
    what = stands_at u path h.limit;
    stood = stood-is u path h.limit;
    is = sym (none-same path h.limit same) ∙ ap is_no_file (h.stood.is t refl) ∙ h.is;
  }

  read-moves : (path bytes : List ℕ) → fin.get t path ≡ fin.get u path → IsRead (Some t) path bytes → IsRead (Some u) path bytes
  read-moves path bytes same h = record {
    mode = h.mode;
    stood = record { is = λ x here. subst (λ (m : TreeMap). stands_at m path text_limit ≡ found.File bytes h.mode) (some-is u x here) (file-same path text_limit bytes h.mode same (h.stood.is t refl)) };
  }

  -- what the names come to
  module _ (root from dest : List ℕ) (sources : (name : List ℕ) → fin.get t (in_root from name) ≡ fin.get u (in_root from name)) where
    noted-moves : (name : List ℕ) (g h : Gathering) → Noted (Some t) root from dest name g h → Noted (Some u) root from dest name g h
    noted-moves name g h (note.unfit unfit) = note.unfit unfit
    noted-moves name g h (note.no_file fit short none) = note.no_file fit short (no-file-moves (in_root from name) (sources name) none)
    noted-moves name g h (note.gathered {bytes} fit short read) = note.gathered fit short (read-moves (in_root from name) bytes (sources name) read)

    gathers-moves : (names : List (List ℕ)) (g : Gathering) → Gathers (Some t) root from dest names g → Gathers (Some u) root from dest names g
    gathers-moves names g gathers.none = gathers.none
    gathers-moves names h (gathers.more {names = ns} {name} {g} gs noted) = gathers.more (gathers-moves ns g gs) (noted-moves name g h noted)

    pub gathering-moves : (g : Gathering) → fin.get t (end_path root) ≡ fin.get u (end_path root) → fin.get t (list_path root) ≡ fin.get u (list_path root)
        → IsGathering (Some t) root from dest g → IsGathering (Some u) root from dest g
    gathering-moves g ends lists is = record {
      names = is.names;
      list = record {
        bytes = is.list.bytes;
        text = record { done = file-moves (end_path root) ends is.list.text.done; list = read-moves (list_path root) is.list.bytes lists is.list.text.list };
        are = is.list.are;
      };
      gathers = gathers-moves is.names g is.gathers;
    }

-- ### A tree that isn't planned yet

never : (b : Bool) → b ≡ true → b ≡ false → ⊥
never true e f = cc
never false e f = cc

-- a name of a run's work folder lies in no gather's
run-apart : (root rest : List ℕ) → is_below (gather_folder root) (in_root (work_folder root) rest) ≡ false
unfolding gather_folder work_folder
run-apart root rest =
    ap (λ (q : List ℕ). is_below (in_root root (codes ".dbgsrc")) q) (append_assoc root (47 ∷ codes ".dbgwork") (47 ∷ rest))
    ∙ ap (λ (front : List ℕ). starts_with nat_eq (root ++ 47 ∷ (codes ".dbgwork" ++ 47 ∷ rest)) front) (append_assoc root (47 ∷ codes ".dbgsrc") (47 ∷ []))
    ∙ front-same root (47 ∷ (codes ".dbgwork" ++ 47 ∷ rest)) (47 ∷ (codes ".dbgsrc" ++ 47 ∷ []))

none-some : (o : Option Node) → o ≡ None → is_some o ≡ true → ⊥
none-some None e f = cc
none-some (Some n) e f = cc

module _ (start t : TreeMap) (root from dest : List ℕ) (asked : IsAsked root from dest) (clean : IsClean start root) (u : IsUnstarted start (gather_folder root) t) where
  -- a path outside of the work folder holds what it held
  pub outside-same : (q : List ℕ) → is_below (gather_folder root) q ≡ false → fin.get t q ≡ fin.get start q
  outside-same q out = u.others q (λ e. never (is_below (gather_folder root) q)
      (subst (λ (x : List ℕ). is_below (gather_folder root) x ≡ true) (sym e) (is_work_path (gather_folder root) plan_new)) out)

  pub source-same : (name : List ℕ) → fin.get t (in_root from name) ≡ fin.get start (in_root from name)
  source-same name = u.others (in_root from name) (source-work root from dest asked name plan_new)

  pub end-same : fin.get t (end_path root) ≡ fin.get start (end_path root)
  unfolding work_path
  end-same = outside-same (end_path root) (run-apart root (codes "finished"))

  pub list-same : fin.get t (list_path root) ≡ fin.get start (list_path root)
  unfolding work_path
  list-same = outside-same (list_path root) (run-apart root (codes "sources"))

  -- what lay below the root before lies there now
  pub still-there : (q : List ℕ) → Contains (keys_below start root) q → Contains (keys_below t root) q
  still-there q c =
      let has = has-from (keys_below start root) q c in
      let below : is_below root q ≡ true = key-below start root q has in
      let there : is_some (fin.get start q) ≡ true = sym (keys-have start root q below) ∙ has in
      let same : fin.get t q ≡ fin.get start q = u.others q (λ e. none-some (fin.get start q)
      (ap (fin.get start) e ∙ clean.none_below (work_path (gather_folder root) plan_new) (is_work_path (gather_folder root) plan_new)) there) in
      has-in (keys_below t root) q (keys-have t root q below ∙ ap is_some same ∙ there)

  taken-still : (news : List (List ℕ)) (path : List ℕ) → IsTaken (keys_below start root) news path → IsTaken (keys_below t root) news path
  taken-still news path (taken.stands c d) = taken.stands c (still-there path d)
  taken-still news path (taken.nested {other} c d n) = taken.nested {other = other} c (still-there other d) n
  taken-still news path (taken.twice l) = taken.twice l
  taken-still news path (taken.nested_new {other} c d n) = taken.nested_new {other = other} c d n

  -- so a plan of the tree is one of the tree before
  pub plan-before : (p : PlanData) → IsGatherPlan (Some t) root from dest (keys_below t root) p → IsGatherPlan (Some start) root from dest (keys_below start root) p
  plan-before p is = record {
    gathering = is.gathering;
    gathers = gathering-moves t start root from dest source-same is.gathering end-same list-same is.gathers;
    is = is.is;
    can = record { short = is.can.short; free = λ order. record { free = λ path x. (is.can.free (keys-order t root)).free path (taken-still _ path x) } };
    within = is.within;
  }
