-- A job's file is as it was before the run until the job is committed, so the nodes that are made of it are the wanted ones.
use Rattle.std.proofs.Common.{◌≡◌, ◌≢◌, false, ℕ, ◌<◌, ◌≤◌, true, List, length, refl, sym, ◌∙◌, ap, subst, IsTrue}
use Rattle.std.specs.Prelude.{Option, Some, Result, Ok, Err, IfErr}
use Rattle.std.specs.FinMap as fin
use Rattle.std.proofs.Common.{le-leb}
use Rattle.file_tree.specs.declared.node.Node.{Node}
use Rattle.file_tree.specs.declared.node.Node.TheVariants as node
use Rattle.file_tree.specs.declared.node.Found.TheVariants as found
use Rattle.file_tree.specs.Trees.{TreeMap, stands_at}
use Rattle.dw_base.specs.declared.fault.Refusal.{Refusal}
use Rattle.file_tree.specs.declared.node.Found.{Found}
use Rattle.file_tree.specs.Causes.{Stood}
use Rattle.file_tree.specs.Seen.{Seen, now_of, map_now}
use Rattle.work_journal.specs.declared.job_err.JobErr.{JobErr}
use Rattle.work_journal.specs.Blames.{is_file, NoFileStands, JobBlames, IsOfJob, MakeBlames, is_mild}
use Rattle.file_tree.specs.Images.{State, state_of}
use Rattle.file_tree.proofs.ImageLaws.{state_now}
use Rattle.journal_core.specs.Names.{target}
use Rattle.journal_core.specs.Table.{CoreState, state_of as job_state}
use Rattle.journal_core.specs.Marks.{Mark, first, whole, any, absent, earlier, is_whole}
use Rattle.journal_core.specs.Calls.{is_uncommitted}
use Rattle.journal_core.proofs.Uncommitted.{uncommitted_old}
use Rattle.work_journal.specs.Wanted.{Wanted, MarkHas}
use Rattle.work_journal.specs.Keeps.{Keeps}
use Rattle.work_journal.specs.Views.{MakerView, Makes, IsMaker}
use Rattle.work_journal.specs.Jobs.{AreNodes, MayStage}
use Rattle.dw_base.specs.Layout.{file_limit}
use Rattle.work_journal.specs.Files.{FileStands, IsSource, is_output, is_apart, IsFile, IsWanted}

first_has : (x : Mark) (was : Option Node) (n : Node) (old is : Option Node) → x ≡ first → MarkHas x was n old is → is ≡ was
first_has absent was n old is e h = let d : absent ≡ first = e in cc
first_has first was n old is e h = h
first_has whole was n old is e h = let d : whole ≡ first = e in cc
first_has any was n old is e h = let d : any ≡ first = e in cc
first_has earlier was n old is e h = let d : earlier ≡ first = e in cc

-- where a job isn't committed, its file is as it was
pub source_same : (w : Wanted) (c : CoreState) (s : State) (j : ℕ) (path : List ℕ) → Keeps w c s → IsTrue (is_uncommitted (job_state c j)) → IsSource w j path
    → fin.get s.now path ≡ fin.get w.start path
source_same w c s j path k free (is_output i st e) =
    let m = k.exact.marking in
    let old : m.target j i ≡ first = uncommitted_old is_whole w.steps c m j i k.exact.shows st free in
    let here : fin.get s.now (w.output j i) ≡ fin.get w.start (w.output j i) = first_has (m.target j i) _ _ _ _ old (k.exact.has.named (target j i) st) in
    subst (λ (q : List ℕ). fin.get s.now q ≡ fin.get w.start q) e here
source_same w c s j path k free (is_apart other) = k.exact.has.others path other

-- a file that stands is read whole
file_found : (t : TreeMap) (path bytes : List ℕ) (mode limit : ℕ) → fin.get t path ≡ Some (node.File bytes mode) → length bytes ≤ limit → stands_at t path limit ≡ found.File bytes mode
unfolding stands_at
file_found t path bytes mode limit there few = rw (there, le-leb (length bytes) limit few) refl

same_bytes : (a b : List ℕ) (m n : ℕ) → found.File a m ≡ found.File b n → a ≡ b
same_bytes a b m n e = cc

same_mode : (a b : List ℕ) (m n : ℕ) → found.File a m ≡ found.File b n → m ≡ n
same_mode a b m n e = cc

-- the same nodes are made of the same file
pub made_by : (makes : Makes) (j : ℕ) (a b : List ℕ) (m n : ℕ) (ns : List Node) → a ≡ b → m ≡ n → makes j a m ns → makes j b n ns
made_by makes j a b m n ns ea en made = subst (λ (k : ℕ). makes j b k ns) en (subst (λ (x : List ℕ). makes j x m ns) ea made)

-- a maker that has made nodes since wants the same files
file_since : (w : Wanted) (v : MakerView) (was now : Makes) (j : ℕ) → ((i : ℕ) (b : List ℕ) (m : ℕ) (ns : List Node) → was i b m ns → now i b m ns) → IsFile w v was j → IsFile w v now j
file_since w v was now j more f = record { bytes = f.bytes; mode = f.mode; there = f.there; few = f.few; nodes = f.nodes; made = more j f.bytes f.mode f.nodes f.made; are_nodes = f.are_nodes; source = f.source }

pub wanted_since : (w : Wanted) (v u : MakerView) (was now : Makes) → u ≡ v → ((i : ℕ) (b : List ℕ) (m : ℕ) (ns : List Node) → was i b m ns → now i b m ns) → IsWanted w v was → IsWanted w u now
wanted_since w v u was now same more a = subst (λ (x : MakerView). IsWanted w x now) (sym same) (record { steps_are = a.steps_are; made = a.made; files = λ j l. file_since w v was now j more (a.files j l) })

-- the planned file is there
pub file_is_there : (w : Wanted) (v : MakerView) (makes : Makes) (c : CoreState) (seen : Seen) (j : ℕ) (f : IsFile w v makes j) → Keeps w c (state_of seen.past)
    → IsTrue (is_uncommitted (job_state c j)) → stands_at (map_now seen.past) (v.source j) file_limit ≡ found.File f.bytes f.mode
file_is_there w v makes c seen j f k free =
    let same : fin.get (state_of seen.past).now (v.source j) ≡ fin.get w.start (v.source j) = source_same w c (state_of seen.past) j (v.source j) k free f.source in
    let there : fin.get (map_now seen.past) (v.source j) ≡ Some (node.File f.bytes f.mode) = ap (λ (t : TreeMap). fin.get t (v.source j)) (sym (state_now seen.past)) ∙ same ∙ f.there in
    file_found (map_now seen.past) (v.source j) f.bytes f.mode file_limit there f.few

-- what is read is the planned file
pub read_planned : (w : Wanted) (v : MakerView) (makes : Makes) (c : CoreState) (seen : Seen) (j : ℕ) (bytes : List ℕ) (mode : ℕ) (f : IsFile w v makes j) → seen.tells ≡ true → Keeps w c (state_of seen.past)
    → IsTrue (is_uncommitted (job_state c j)) → FileStands seen (v.source j) bytes mode → found.File f.bytes f.mode ≡ found.File bytes mode
read_planned w v makes c seen j bytes mode f tells k free stands = sym (file_is_there w v makes c seen j f k free) ∙ stands.is tells

-- and the nodes that are made of it are the wanted ones
pub made_wanted : (w : Wanted) (v : MakerView) (makes : Makes) (c : CoreState) (seen : Seen) (j : ℕ) (bytes : List ℕ) (mode : ℕ) (ns : List Node) → IsMaker v makes → IsWanted w v makes → j < length v.steps → seen.tells ≡ true → Keeps w c (state_of seen.past)
    → IsTrue (is_uncommitted (job_state c j)) → FileStands seen (v.source j) bytes mode → makes j bytes mode ns → AreNodes w j ns
made_wanted w v makes c seen j bytes mode ns fits wanted l tells k free stands made =
    let f = wanted.files j l in
    let read = read_planned w v makes c seen j bytes mode f tells k free stands in
    let eb : f.bytes ≡ bytes = same_bytes _ _ _ _ read in
    let em : f.mode ≡ mode = same_mode _ _ _ _ read in
    let first : makes j bytes mode f.nodes = made_by makes j f.bytes bytes f.mode mode f.nodes eb em f.made in
    let same : f.nodes ≡ ns = fits.one j bytes mode f.nodes ns first made in
    subst (λ (l : List Node). AreNodes w j l) same f.are_nodes

pub new_uncommitted : (c : CoreState) (j n : ℕ) → MayStage c j n → IsTrue (is_uncommitted (job_state c j))
new_uncommitted c j n may = rw may.is_new refl

-- what is read at its source is a file
pub file_met : (w : Wanted) (v : MakerView) (makes : Makes) (c : CoreState) (seen : Seen) (j : ℕ) (path : List ℕ) (x : Found) → IsWanted w v makes → j < length v.steps → seen.tells ≡ true → Keeps w c (state_of seen.past)
    → IsTrue (is_uncommitted (job_state c j)) → path ≡ v.source j → Stood (now_of seen) path file_limit x → ((b : List ℕ) (m : ℕ) → x ≢ found.File b m) → ⊥
file_met w v makes c seen j path x wanted l tells k free at stood other =
    let f = wanted.files j l in
    other f.bytes f.mode (sym (stood.is (map_now seen.past) (rw tells refl)) ∙ ap (λ (p : List ℕ). stands_at (map_now seen.past) p file_limit) at ∙ file_is_there w v makes c seen j f k free)

-- what was read stood there
pub stood_file : (seen : Seen) (path source : List ℕ) (x : Found) (bytes : List ℕ) (mode : ℕ) → path ≡ source → x ≡ found.File bytes mode → Stood (now_of seen) path file_limit x → FileStands seen source bytes mode
stood_file seen path source x bytes mode at is stood = record {
  is = λ tells. ap (λ (p : List ℕ). stands_at (map_now seen.past) p file_limit) (sym at) ∙ stood.is (map_now seen.past) (rw tells refl) ∙ is;
}

not_file : (x : Found) → ((b : List ℕ) (m : ℕ) → x ≢ found.File b m) → is_file x ≡ false
not_file found.Absent other = refl
not_file found.Folder other = refl
not_file (found.File b m) other = absurd (other b m refl)
not_file (found.Link t) other = refl
not_file (found.TooLarge n) other = refl

-- and where no file was read, none stands there
pub none_stands : (old new : Seen) (path source : List ℕ) (x : Found) → path ≡ source → Stood (now_of old) path file_limit x → now_of new ≡ now_of old → ((b : List ℕ) (m : ℕ) → x ≢ found.File b m) → NoFileStands new source
none_stands old new path source x at stood same other = record {
  is = λ tells.
      let now : now_of new ≡ Some (map_now new.past) = rw tells refl in
      ap is_file (ap (λ (p : List ℕ). stands_at (map_now new.past) p file_limit) (sym at) ∙ stood.is (map_now new.past) (sym same ∙ now)) ∙ not_file x other;
}

-- where nodes are made of the planned file, an error is mild
pub made_mild : {A : Type 0} (w : Wanted) (v : MakerView) (makes : Makes) (refuses : ℕ → List ℕ → Refusal → Type 0) (c : CoreState) (seen : Seen) (j : ℕ) (bytes : List ℕ) (mode : ℕ) (r : Result A JobErr) → IsWanted w v makes → j < length v.steps → seen.tells ≡ true → Keeps w c (state_of seen.past)
    → IsTrue (is_uncommitted (job_state c j)) → FileStands seen (v.source j) bytes mode → IfErr r (MakeBlames v makes refuses j bytes mode) → IfErr r (λ e. IsTrue (is_mild e))
made_mild w v makes refuses c seen j bytes mode (Ok a) wanted l tells k free stands h = tt
made_mild w v makes refuses c seen j bytes mode (Err e) wanted l tells k free stands h =
    let f = wanted.files j l in
    let read = read_planned w v makes c seen j bytes mode f tells k free stands in
    let eb : f.bytes ≡ bytes = same_bytes _ _ _ _ read in
    let em : f.mode ≡ mode = same_mode _ _ _ _ read in
    h.mild f.nodes (made_by makes j f.bytes bytes f.mode mode f.nodes eb em f.made)

pub made_blames : {A : Type 0} (v : MakerView) (makes : Makes) (refuses : ℕ → List ℕ → Refusal → Type 0) (seen : Seen) (j : ℕ) (bytes : List ℕ) (mode : ℕ) (r : Result A JobErr) → FileStands seen (v.source j) bytes mode → IfErr r (MakeBlames v makes refuses j bytes mode) → IfErr r (JobBlames v refuses seen)
made_blames v makes refuses seen j bytes mode (Ok a) stands h = tt
made_blames v makes refuses seen j bytes mode (Err e) stands h = h.blames seen stands

pub made_of_job : {A : Type 0} (v : MakerView) (makes : Makes) (refuses : ℕ → List ℕ → Refusal → Type 0) (j : ℕ) (bytes : List ℕ) (mode : ℕ) (r : Result A JobErr) → IfErr r (MakeBlames v makes refuses j bytes mode) → IfErr r (IsOfJob j)
made_of_job v makes refuses j bytes mode (Ok a) h = tt
made_of_job v makes refuses j bytes mode (Err e) h = h.of_job
