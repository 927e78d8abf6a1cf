-- The list of a run that is done, and what it comes to.
use Rattle.std.proofs.Common.{◌≡◌, ℕ, List, Option, sym, ap, ◌∙◌, subst}
use Rattle.std.specs.Prelude.{codes}
use Rattle.file_tree.specs.declared.node.Found.{Found}
use Rattle.file_tree.specs.declared.node.Found.TheVariants as found
use Rattle.file_tree.specs.Causes.{Stood}
use Rattle.file_tree.specs.Seen.{Seen, now_of}
use Rattle.file_tree.specs.Trees.{TreeMap}
use Rattle.work_texts.specs.Rules.{text_limit}
use Rattle.work_journal.specs.Work.{work_path}
use Rattle.root_paths.specs.Looks.{Looked}
use Rattle.root_paths.specs.Roots.{in_root, work_folder}
use Rattle.root_paths.proofs.LookLaws.{rose_since}
use Rattle.src_gather.specs.declared.gather_err.GatherErr.{GatherErr}
use Rattle.src_gather.specs.Listed.{AreNames, IsBytesOf, IsFileAt, IsNoFileAt, IsListText, IsListOf, IsRead, end_path, list_path}
use Rattle.src_gather.specs.Gathering.{Gathering, Gathers, IsGathering}
use Rattle.src_gather.specs.GatherEnds.{IsAbsent, ListEnds, ListFound, NamesEnd, NamingEnds, OrStopped}
use Rattle.src_gather.specs.GatherEnds.{IsAbsent as gone, ListEnds as list_end, ListFound as list, NamingEnds as naming_end, OrStopped as or_stopped}

-- ### Paths

pub end_is : (root work : List ℕ) (text : List ℕ) → work ≡ work_folder root → text ≡ in_root work (codes "finished") → text ≡ end_path root
unfolding work_path
end_is root work text at is = is ∙ ap (λ (w : List ℕ). in_root w (codes "finished")) at

pub list_is : (root work : List ℕ) (text : List ℕ) → work ≡ work_folder root → text ≡ in_root work (codes "sources") → text ≡ list_path root
unfolding work_path
list_is root work text at is = is ∙ ap (λ (w : List ℕ). in_root w (codes "sources")) at

-- ### The text

file-at : (old : Option TreeMap) (path at : List ℕ) → at ≡ path → IsFileAt old at → IsFileAt old path
file-at old path at is there = subst (IsFileAt old) is there

bytes-read : (old : Option TreeMap) (path bytes : List ℕ) (what : Found) → Stood old path text_limit what → IsBytesOf what bytes → IsRead old path bytes
bytes-read old path bytes found.Absent stood is = absurd is
bytes-read old path bytes found.Folder stood is = absurd is
bytes-read old path bytes (found.File b mode) stood is = record { mode = mode; stood = subst (λ (x : List ℕ). Stood old path text_limit (found.File x mode)) (sym is) stood }
bytes-read old path bytes (found.Link target) stood is = absurd is
bytes-read old path bytes (found.TooLarge size) stood is = absurd is

pub text_read : (old mid : Seen) (root end list bytes : List ℕ) (what : Found) → Looked old mid → end ≡ end_path root → IsFileAt (now_of old) end → list ≡ list_path root
    → Stood (now_of mid) list text_limit what → IsBytesOf what bytes → IsListText (now_of old) root bytes
text_read old mid root end list bytes what looked e there l stood is = record {
  done = file-at (now_of old) (end_path root) end e there;
  list = bytes-read (now_of old) (list_path root) bytes what
      (subst (λ (p : List ℕ). Stood (now_of old) p text_limit what) l (subst (λ (o : Option TreeMap). Stood o list text_limit what) looked.now stood)) is;
}

-- ### Why it isn't read

end-by : (old new : Seen) (root : List ℕ) (e : GatherErr) → IsNoFileAt (now_of old) (end_path root) → IsAbsent (end_path root) e → OrStopped (ListEnds (now_of old) root) old new e
end-by old new root e none gone.named = or_stopped.told (list_end.no_end none)
end-by old new root e none gone.no_memory = or_stopped.no_memory

pub end_absent : (old new : Seen) (root end : List ℕ) (e : GatherErr) → end ≡ end_path root → IsNoFileAt (now_of old) end → IsAbsent end e → OrStopped (ListEnds (now_of old) root) old new e
end_absent old new root end e at none ended =
    end-by old new root e (subst (IsNoFileAt (now_of old)) at none) (subst (λ (p : List ℕ). IsAbsent p e) at ended)

list-by : (old new : Seen) (root : List ℕ) (what : Found) (e : GatherErr) → IsFileAt (now_of old) (end_path root) → Stood (now_of old) (list_path root) text_limit what
    → ListFound (list_path root) what e → OrStopped (ListEnds (now_of old) root) old new e
list-by old new root what e there stood (list.no_file is) = or_stopped.told (list_end.no_list there (record { limit = text_limit; what = what; stood = stood; is = is }))
list-by old new root what e there stood (list.large {size} is) =
    or_stopped.told (list_end.large_list there (record { stood = subst (λ (w : Found). Stood (now_of old) (list_path root) text_limit w) is stood }))
list-by old new root what e there stood list.no_memory = or_stopped.no_memory

pub list_ends : (old mid new : Seen) (root end path said : List ℕ) (what : Found) (e : GatherErr) → Looked old mid → end ≡ end_path root → IsFileAt (now_of old) end → path ≡ list_path root
    → Stood (now_of mid) path text_limit what → said ≡ list_path root → ListFound said what e → OrStopped (ListEnds (now_of old) root) old new e
list_ends old mid new root end path said what e looked at there is stood also ended =
    list-by old new root what e (file-at (now_of old) (end_path root) end at there)
    (subst (λ (p : List ℕ). Stood (now_of old) p text_limit what) is (subst (λ (o : Option TreeMap). Stood o path text_limit what) looked.now stood))
    (subst (λ (p : List ℕ). ListFound p what e) also ended)

-- a look that told nothing else
nothing-by : (Ends : GatherErr → Type 0) (old new : Seen) (e : GatherErr) → OrStopped (λ x. ⊥) old new e → OrStopped Ends old new e
nothing-by Ends old new e (or_stopped.told t) = absurd t
nothing-by Ends old new e (or_stopped.failed rose) = or_stopped.failed rose
nothing-by Ends old new e or_stopped.no_memory = or_stopped.no_memory

pub look_ends : (Ends : GatherErr → Type 0) (old new : Seen) (e : GatherErr) → OrStopped (λ x. ⊥) old new e → OrStopped Ends old new e
look_ends Ends old new e ended = nothing-by Ends old new e ended

-- a fault behind a look
pub later_fault : (Ends : GatherErr → Type 0) (old mid new : Seen) (e : GatherErr) → Looked old mid → OrStopped (λ x. ⊥) mid new e → OrStopped Ends old new e
later_fault Ends old mid new e looked (or_stopped.told t) = absurd t
later_fault Ends old mid new e looked (or_stopped.failed rose) = or_stopped.failed (rose_since old mid new looked rose)
later_fault Ends old mid new e looked or_stopped.no_memory = or_stopped.no_memory

-- ### What the list comes to

pub naming_list : (old new : Seen) (root from dest : List ℕ) (e : GatherErr) → OrStopped (ListEnds (now_of old) root) old new e → OrStopped (NamingEnds (now_of old) root from dest) old new e
naming_list old new root from dest e (or_stopped.told ended) = or_stopped.told (naming_end.listing ended)
naming_list old new root from dest e (or_stopped.failed rose) = or_stopped.failed rose
naming_list old new root from dest e or_stopped.no_memory = or_stopped.no_memory

pub list_of : (old : Option TreeMap) (root bytes given : List ℕ) (names : List (List ℕ)) → IsListText old root bytes → given ≡ bytes → AreNames given names → IsListOf old root names
list_of old root bytes given names text is are = record { bytes = bytes; text = text; are = subst (λ (b : List ℕ). AreNames b names) is are }

pub naming_name : (old mid new : Seen) (root from dest : List ℕ) (names : List (List ℕ)) (e : GatherErr) → Looked old mid → IsListOf (now_of old) root names
    → OrStopped (NamesEnd (now_of mid) root from dest names) mid new e → OrStopped (NamingEnds (now_of old) root from dest) old new e
naming_name old mid new root from dest names e looked is (or_stopped.told ended) =
    or_stopped.told (naming_end.naming is (subst (λ (o : Option TreeMap). NamesEnd o root from dest names e) looked.now ended))
naming_name old mid new root from dest names e looked is (or_stopped.failed rose) = or_stopped.failed (rose_since old mid new looked rose)
naming_name old mid new root from dest names e looked is or_stopped.no_memory = or_stopped.no_memory

pub list_gathered : (old mid : Seen) (root from dest : List ℕ) (names : List (List ℕ)) (g : Gathering) → Looked old mid → IsListOf (now_of old) root names
    → Gathers (now_of mid) root from dest names g → IsGathering (now_of old) root from dest g
list_gathered old mid root from dest names g looked is gs =
    record { names = names; list = is; gathers = subst (λ (o : Option TreeMap). Gathers o root from dest names g) looked.now gs }

pub ruleset list_rules = (text_read, end_absent, list_ends, look_ends)
