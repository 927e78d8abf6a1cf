-- The rows of what a gather looks at, for the functions that end by them.
use Rattle.std.proofs.Common.{◌≡◌, ℕ, true, false, List, Option, sym, subst}
use Rattle.file_tree.specs.declared.node.Found.{Found}
use Rattle.file_tree.specs.declared.node.Found.TheVariants as found
use Rattle.file_tree.specs.Trees.{TreeMap}
use Rattle.file_tree.specs.Causes.{Stood}
use Rattle.root_paths.specs.declared.path_err.PathErr.{PathErr}
use Rattle.root_paths.specs.declared.path_err.PathErr.TheVariants as path
use Rattle.src_gather.specs.declared.gather_err.GatherErr.{GatherErr}
use Rattle.src_gather.specs.declared.gather_err.GatherErr.TheVariants as err
use Rattle.src_gather.specs.Errors.{IsPathEnd, path_ends}
use Rattle.src_gather.specs.Errors.{IsPathEnd as path_end}
use Rattle.src_gather.specs.Listed.{IsFileAt, IsNoFileAt, is_no_file}
use Rattle.src_gather.specs.Gathering.{Gathering, FoundNoted, with_copy, with_missing}
use Rattle.src_gather.specs.Gathering.{FoundNoted as note}
use Rattle.src_gather.specs.GatherEnds.{IsAbsent, FoundEnds, ListFound}
use Rattle.src_gather.specs.GatherEnds.{IsAbsent as gone, FoundEnds as large, ListFound as list, OrStopped as or_stopped}

-- ### Paths

pub ruleset absent_rows = (gone.named, gone.no_memory)

pub absent_path : (root : List ℕ) (e : PathErr) (g : GatherErr) → e ≡ path.Absent → IsAbsent root g → IsPathEnd root e g
absent_path root e g is gone.named = subst (λ (x : PathErr). IsPathEnd root x (err.Absent root)) (sym is) path_end.same
absent_path root e g is gone.no_memory = path_end.cut

pub same_end : (root : List ℕ) (e : PathErr) (g : GatherErr) → g ≡ path_ends root e → IsPathEnd root e g
same_end root e g is = subst (IsPathEnd root e) (sym is) path_end.same

pub ruleset path_rows = (absent_path, same_end)

-- ### What is found at a path

pub copy_noted : (name bytes : List ℕ) (mode : ℕ) (what : Found) (g h : Gathering) → what ≡ found.File bytes mode → h ≡ with_copy g name bytes → FoundNoted name what g h
copy_noted name bytes mode what g h is made = subst (FoundNoted name what g) (sym made) (note.there is)

pub none_noted : (name : List ℕ) (what : Found) (g h : Gathering) → is_no_file what ≡ true → h ≡ with_missing g → FoundNoted name what g h
none_noted name what g h is made = subst (FoundNoted name what g) (sym made) (note.not_there is)

pub large_found : (path source : List ℕ) (size : ℕ) (what : Found) → what ≡ found.TooLarge size → source ≡ path → FoundEnds path what (err.FileTooLarge source size)
large_found path source size what is same = subst (λ (s : List ℕ). FoundEnds path what (err.FileTooLarge s size)) (sym same) (subst (λ (w : Found). FoundEnds path w (err.FileTooLarge path size)) (sym is) large.too_large)

pub ruleset found_rows = (copy_noted, none_noted, large_found, large.no_memory)

pub file_there : (old : Option TreeMap) (path : List ℕ) (limit : ℕ) (what : Found) → Stood old path limit what → is_no_file what ≡ false → IsFileAt old path
file_there old path limit what stood is = record { limit = limit; what = what; stood = stood; is = is }

pub no_file_there : (old : Option TreeMap) (path : List ℕ) (limit : ℕ) (what : Found) → Stood old path limit what → is_no_file what ≡ true → IsNoFileAt old path
no_file_there old path limit what stood is = record { limit = limit; what = what; stood = stood; is = is }

pub ruleset file_rows = (file_there, no_file_there, or_stopped.failed, or_stopped.no_memory)

pub absent_list : (path : List ℕ) (what : Found) (g : GatherErr) → is_no_file what ≡ true → IsAbsent path g → ListFound path what g
absent_list path what g is gone.named = list.no_file is
absent_list path what g is gone.no_memory = list.no_memory

pub large_list : (path source : List ℕ) (size : ℕ) (what : Found) → what ≡ found.TooLarge size → source ≡ path → ListFound path what (err.FileTooLarge source size)
large_list path source size what is same = subst (λ (s : List ℕ). ListFound path what (err.FileTooLarge s size)) (sym same) (list.large is)

pub ruleset list_rows = (absent_list, large_list, list.no_memory)
