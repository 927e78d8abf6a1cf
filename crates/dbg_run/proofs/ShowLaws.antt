-- Laws on the showing of what was read: what an end says, and which status is due.
use Rattle.std.proofs.Common.{◌≡◌, ◌≢◌, ℕ, ◌==◌, true, false, List, Option, Some, None, refl, sym, ap, ◌∙◌, subst, arith, ◌⊎◌, inl, inr}
use Rattle.std.specs.Option.{ForSome}
use Rattle.dw_base.specs.DebugData.{DebugData, DataReadings}
use Rattle.dw_base.specs.ElfFails.{DebugFails, ElfFails, ElfReads}
use Rattle.dw_base.specs.FileViews.{View, view_of}
use Rattle.dw_base.specs.RelocationRows.{moving_sections}
use Rattle.dw_base.specs.ViewData.{debug_data}
use Rattle.dw_base.specs.declared.fault.Fault.{Fault}
use Rattle.dw_base.specs.declared.fault.Fault.TheVariants.{NoMemory, Refused}
use Rattle.dw_base.proofs.ViewFailsLaws.{view_excludes}
use Rattle.dw_base.proofs.ElfLaws.{debug_excludes, elf_excludes}
use Rattle.dw_meaning.specs.DataOutput.{DataReads}
use Rattle.dw_meaning.specs.RelocationFails.{RelocationsReadIn}
use Rattle.dw_view.specs.PairViews.{pair_view}
use Rattle.dw_view.specs.Pairs.{IsPaired, Mismatches}
use Rattle.dw_view.specs.declared.mismatch.Mismatch.{Mismatch}
use Rattle.dw_view.specs.declared.mismatch.Mismatch.TheVariants.{NoLink, Name, Sum}
use Rattle.dbg_show.specs.Shows.{IsShown, data_text}
use Rattle.dbg_show.specs.Shows.{ShowEnds as WritingEnds}
use Rattle.dbg_show.specs.declared.show_err.ShowErr.{ShowErr}
use Rattle.dbg_show.specs.declared.show_err.ShowErr.TheVariants as err
use Rattle.dbg_show.proofs.ExcludeLaws.{show-excludes}
use Rattle.file_tree.specs.Heard.{Heard, grown}
use Rattle.file_tree.specs.declared.node.Found.{Found}
use Rattle.file_tree.specs.declared.node.Found.TheVariants as found
use Rattle.file_tree.specs.Causes.{Rose, Stood, Calm}
use Rattle.file_tree.specs.Seen.{Seen, now_of}
use Rattle.file_tree.specs.Trees.{TreeMap, stands_at}
use Rattle.job_types.specs.Settings.{most_file}
use Rattle.dbg_ends.specs.declared.end.End.{End}
use Rattle.dbg_ends.specs.declared.end.End.TheVariants as end
use Rattle.dbg_ends.specs.Due.{InputDue, IsCut}
use Rattle.dbg_ends.specs.Due.IsCut.{tree_fault, no_memory}
use Rattle.dbg_ends.specs.Due.Where.{here, elsewhere}
use Rattle.dbg_ends.specs.Ends.{status_of}
use Rattle.dbg_ends.specs.Steps.{BlamesAt, FaultEnds, InputEnds}
use Rattle.dbg_ends.specs.Steps.{BlamesAt as blames, FaultEnds as fault_ends, InputEnds as inputs}
use Rattle.dbg_ends.proofs.StatusLaws.{apart, input_fault, input_status}
use Rattle.dbg_ends.proofs.StepLaws.{blames_at}
use Rattle.dbg_run.proofs.EditLaws.{calm_then, input_completes, same_bytes}
use Rattle.dbg_run.specs.Shows.{AreRead, ErrEnds, HasBegun, IsSeen, IsShowable, ReadingEnds, ShowDone, ShowDue, ShowEnds, ShowFails, ShowUnopposed, Subject, SubjectDue, TextEnds, TextShown, Unseen, ViewEnds, base_name, of_file, of_pair, subject_view, viewed_path}
use Rattle.dbg_run.specs.Shows.{AreRead as reads, ErrEnds as errs, HasBegun as begun, ReadingEnds as readings, ShowEnds as shows, ShowFails as fails, TextEnds as ends, Unseen as unseen}

pub ruleset elf_laws = (blames_at)

-- ### The text of a view

pub view_sink : (path : List ℕ) (v : View) (heard said : Heard) → WritingEnds v heard said err.Sink → ViewEnds path v heard said end.OutputFault
view_sink path v heard said row = record { failure = err.Sink; row = row; ends = errs.sink }

pub view_fault : (path : List ℕ) (v : View) (heard said : Heard) (f : Fault) (e : End) → WritingEnds v heard said (err.Fault f) → FaultEnds path f e → ViewEnds path v heard said e
view_fault path v heard said f e row is = record { failure = err.Fault f; row = row; ends = errs.fault is }

pub ruleset view_laws = (view_sink, view_fault)

written_fault : (q : Subject) (heard said : Heard) (f : Fault) (e : End) → IsSeen q → WritingEnds (subject_view q) heard said (err.Fault f) → FaultEnds (viewed_path q) f e
    → TextEnds q heard said e
written_fault q heard said f e seen (WritingEnds.refused r row same) fault_ends.refused = ends.refused (fails.unreadable seen.elf seen.linked row) same
written_fault q heard said f e seen (WritingEnds.refused r row same) fault_ends.memory = ends.unread same
written_fault q heard said f e seen (WritingEnds.unread same) fault_ends.memory = ends.unread same
written_fault q heard said f e seen (WritingEnds.cut can cut) (fault_ends.refused {r = r}) = let no : Refused r ≡ NoMemory = cut.cause in absurd cc
written_fault q heard said f e seen (WritingEnds.cut can cut) fault_ends.memory = ends.wanting (record { reads = can; begun = cut.begun })

written_sink : (q : Subject) (heard said : Heard) → WritingEnds (subject_view q) heard said err.Sink → TextEnds q heard said end.OutputFault
written_sink q heard said (WritingEnds.cut can cut) = ends.failed (record { reads = can; begun = cut.begun }) cut.cause

written_by : (q : Subject) (heard said : Heard) (e : End) (failure : ShowErr) → IsSeen q → WritingEnds (subject_view q) heard said failure
    → ErrEnds (viewed_path q) failure e → TextEnds q heard said e
written_by q heard said e failure seen row errs.sink = written_sink q heard said row
written_by q heard said e failure seen row (errs.fault {f = f} is) = written_fault q heard said f e seen row is

written_ends : (q : Subject) (heard said : Heard) (e : End) → IsSeen q → ViewEnds (viewed_path q) (subject_view q) heard said e → TextEnds q heard said e
written_ends q heard said e seen written = written_by q heard said e written.failure seen written.row written.ends

unseen_ends : (q : Subject) (heard said : Heard) (e : End) → said ≡ heard → Unseen q e → TextEnds q heard said e
unseen_ends q heard said e same (unseen.fails row) = ends.refused row same
unseen_ends q heard said e same unseen.memory = ends.unread same

-- what is shown of a view is said by its debug data alone: two views with the same are shown alike, where the places of the same sections change
pub shows_alike : (v w : View) (heard said : Heard) → debug_data v ≡ debug_data w → moving_sections v ≡ moving_sections w → IsShown v heard said → IsShown w heard said
shows_alike v w heard said same moving shown =
    let readings : DataReadings = shown.reads.readings in
    record {
      reads = record {
        readings = readings;
        reads = subst (λ (d : DebugData). DataReads d readings) same shown.reads.reads;
        relocations = subst (λ (d : DebugData). RelocationsReadIn d (moving_sections w)) same (subst (RelocationsReadIn (debug_data v)) moving shown.reads.relocations);
      };
      bytes = shown.bytes ∙ ap (λ (d : DebugData). grown heard.bytes (data_text d readings)) same;
      later = shown.later;
    }

-- ### One file

pub file_elf : (file b : List ℕ) (heard said : Heard) (e : End) → said ≡ heard → BlamesAt (ElfFails b) file e → TextEnds (of_file file b) heard said e
file_elf file b heard said e same (blames.refused row) = ends.refused (fails.elf row) same
file_elf file b heard said e same blames.memory = ends.unread same

pub file_unseen : (file b c : List ℕ) (heard said : Heard) (e : End) → c ≡ b → said ≡ heard → Unseen (of_file file c) e → TextEnds (of_file file b) heard said e
file_unseen file b c heard said e at_b same row = subst (λ (x : List ℕ). TextEnds (of_file file x) heard said e) at_b (unseen_ends (of_file file c) heard said e same row)

pub file_written : (file b c : List ℕ) (v : View) (heard said : Heard) (e : End) → c ≡ b → v ≡ view_of c → IsSeen (of_file file c) → ViewEnds file v heard said e
    → TextEnds (of_file file b) heard said e
file_written file b c v heard said e at_b is seen written =
    subst (λ (x : List ℕ). TextEnds (of_file file x) heard said e) at_b
    (written_ends (of_file file c) heard said e seen (subst (λ (x : View). ViewEnds file x heard said e) is written))

pub file_shown : (file b c : List ℕ) (v : View) (heard said : Heard) → c ≡ b → v ≡ view_of c → IsSeen (of_file file c) → IsShown v heard said
    → TextShown (of_file file b) heard said
file_shown file b c v heard said at_b is seen shown =
    let here : IsShown (view_of c) heard said = subst (λ (x : View). IsShown x heard said) is shown in
    subst (λ (x : List ℕ). TextShown (of_file file x) heard said) at_b (record { showable = record { seen = seen; reads = here.reads }; shown = here })

-- ### Two files

at_both : (P : Subject → Type 0) (stripped s debug d c k : List ℕ) → c ≡ s → k ≡ d → P (of_pair stripped c debug k) → P (of_pair stripped s debug d)
at_both P stripped s debug d c k at_s at_d holds =
    subst (λ (x : List ℕ). P (of_pair stripped x debug d)) at_s (subst (λ (x : List ℕ). P (of_pair stripped c debug x)) at_d holds)

pub stripped_elf : (stripped s debug d : List ℕ) (heard said : Heard) (e : End) → said ≡ heard → BlamesAt (ElfFails s) stripped e
    → TextEnds (of_pair stripped s debug d) heard said e
stripped_elf stripped s debug d heard said e same (blames.refused row) = ends.refused (fails.stripped_elf row) same
stripped_elf stripped s debug d heard said e same blames.memory = ends.unread same

pub debug_elf : (stripped s debug d : List ℕ) (heard said : Heard) (e : End) → said ≡ heard → ElfReads s → BlamesAt (DebugFails d) debug e
    → TextEnds (of_pair stripped s debug d) heard said e
debug_elf stripped s debug d heard said e same elf (blames.refused row) = ends.refused (fails.debug_elf elf row) same
debug_elf stripped s debug d heard said e same elf blames.memory = ends.unread same

pub pair_unseen : (stripped s debug d c k : List ℕ) (heard said : Heard) (e : End) → c ≡ s → k ≡ d → said ≡ heard → Unseen (of_pair stripped c debug k) e
    → TextEnds (of_pair stripped s debug d) heard said e
pair_unseen stripped s debug d c k heard said e at_s at_d same row =
    at_both (λ q. TextEnds q heard said e) stripped s debug d c k at_s at_d (unseen_ends (of_pair stripped c debug k) heard said e same row)

pub pair_written : (stripped s debug d c k : List ℕ) (v : View) (heard said : Heard) (e : End) → c ≡ s → k ≡ d → v ≡ pair_view k c → IsSeen (of_pair stripped c debug k)
    → ViewEnds debug v heard said e → TextEnds (of_pair stripped s debug d) heard said e
pair_written stripped s debug d c k v heard said e at_s at_d is seen written =
    at_both (λ q. TextEnds q heard said e) stripped s debug d c k at_s at_d
    (written_ends (of_pair stripped c debug k) heard said e seen (subst (λ (x : View). ViewEnds debug x heard said e) is written))

pub pair_shown : (stripped s debug d c k : List ℕ) (v : View) (heard said : Heard) → c ≡ s → k ≡ d → v ≡ pair_view k c → IsSeen (of_pair stripped c debug k)
    → IsShown v heard said → TextShown (of_pair stripped s debug d) heard said
pair_shown stripped s debug d c k v heard said at_s at_d is seen shown =
    let here : IsShown (pair_view k c) heard said = subst (λ (x : View). IsShown x heard said) is shown in
    at_both (λ q. TextShown q heard said) stripped s debug d c k at_s at_d (record { showable = record { seen = seen; reads = here.reads }; shown = here })

-- ### The steps

-- what stood in the tree in the middle stood in the first
pub stood_before : (old mid : Seen) (path : List ℕ) (what : Found) → Calm old mid → Stood (now_of mid) path most_file what → Stood (now_of old) path most_file what
stood_before old mid path what calm stood = record { is = λ t tells. stood.is t (calm.now ∙ tells) }

pub first_ends : (file : List ℕ) (debug : Option (List ℕ)) (old new : Seen) (heard said : Heard) (e : End) → said ≡ heard → Calm old new
    → InputEnds file most_file old new e → ShowEnds file debug old new heard said e
first_ends file debug old new heard said e same calm row = shows.reading (readings.first row) calm same

pub second_ends : (file s debug : List ℕ) (mode : ℕ) (old mid new : Seen) (heard said : Heard) (e : End) → said ≡ heard
    → Stood (now_of old) file most_file (found.File s mode) → Calm old mid → Calm mid new → InputEnds debug most_file mid new e
    → ShowEnds file (Some debug) old new heard said e
second_ends file s debug mode old mid new heard said e same read calm still row = shows.reading (readings.second read calm row) (calm_then old mid new calm still) same

pub file_ends : (file b c : List ℕ) (mode : ℕ) (old new : Seen) (heard said : Heard) (e : End) → c ≡ b → Stood (now_of old) file most_file (found.File b mode) → Calm old new
    → TextEnds (of_file file c) heard said e → ShowEnds file None old new heard said e
file_ends file b c mode old new heard said e at_b read calm row =
    shows.showing (reads.one read) calm (subst (λ (x : List ℕ). TextEnds (of_file file x) heard said e) at_b row)

pub file_done : (file b c : List ℕ) (mode : ℕ) (old new : Seen) (heard said : Heard) → c ≡ b → Stood (now_of old) file most_file (found.File b mode) → Calm old new
    → TextShown (of_file file c) heard said → ShowDone file None old new heard said
file_done file b c mode old new heard said at_b read calm text = record {
  q = of_file file b;
  read = reads.one read;
  text = subst (λ (x : List ℕ). TextShown (of_file file x) heard said) at_b text;
  calm = calm;
}

pub pair_ends : (file s debug d c k : List ℕ) (mode other : ℕ) (old mid new : Seen) (heard said : Heard) (e : End) → c ≡ s → k ≡ d
    → Stood (now_of old) file most_file (found.File s mode) → Calm old mid → Stood (now_of mid) debug most_file (found.File d other) → Calm mid new
    → TextEnds (of_pair file c debug k) heard said e → ShowEnds file (Some debug) old new heard said e
pair_ends file s debug d c k mode other old mid new heard said e at_s at_d read calm also still row =
    shows.showing (reads.two read (stood_before old mid debug (found.File d other) calm also)) (calm_then old mid new calm still)
    (at_both (λ q. TextEnds q heard said e) file s debug d c k at_s at_d row)

pub pair_done : (file s debug d c k : List ℕ) (mode other : ℕ) (old mid new : Seen) (heard said : Heard) → c ≡ s → k ≡ d
    → Stood (now_of old) file most_file (found.File s mode) → Calm old mid → Stood (now_of mid) debug most_file (found.File d other) → Calm mid new
    → TextShown (of_pair file c debug k) heard said → ShowDone file (Some debug) old new heard said
pair_done file s debug d c k mode other old mid new heard said at_s at_d read calm also still text = record {
  q = of_pair file s debug d;
  read = reads.two read (stood_before old mid debug (found.File d other) calm also);
  text = at_both (λ q. TextShown q heard said) file s debug d c k at_s at_d text;
  calm = calm_then old mid new calm still;
}

-- ### Both sides of what refuses it

mismatch_excludes : (s d name : List ℕ) (m : Mismatch) → IsPaired s d name → Mismatches s d name m → ⊥
mismatch_excludes s d name NoLink is row = let no : true ≡ false = sym is.link.holds ∙ row.none in absurd cc
mismatch_excludes s d name (Name x y) is row = row.differs (row.named_is ∙ sym is.link.name_is ∙ sym row.found_is)
mismatch_excludes s d name (Sum x y) is row = row.differs (row.link.sum_is ∙ sym is.link.sum_is ∙ sym row.found_is)

-- an end that says why it isn't shown has the status that is due
fails_due : (q : Subject) (e : End) → ShowFails q e → SubjectDue q (status_of e)
fails_due q e (fails.elf {b = b} {r = r} row) = elsewhere (λ elf. elf_excludes b r elf row) refl
fails_due q e (fails.stripped_elf {s = s} {r = r} row) = elsewhere (λ elf. elf_excludes s r elf.0 row) refl
fails_due q e (fails.debug_elf {d = d} {r = r} reads row) = elsewhere (λ elf. debug_excludes d r elf.1 row) refl
fails_due q e (fails.no_pair {s = s} {debug = debug} {d = d} {m = m} elf other row) =
    here (elf, other) (elsewhere (λ linked. mismatch_excludes s d (base_name debug) m linked row) refl)
fails_due q e (fails.file_taking {b = b} {r = r} elf row) = here elf (here tt (elsewhere (λ is. view_excludes b r is.seen.taken row) refl))
fails_due q e (fails.stripped_taking {s = s} {r = r} elf other row) =
    here (elf, other) (here row.paired (elsewhere (λ is. view_excludes s r is.seen.taken.0 row.fails) refl))
fails_due q e (fails.debug_taking {d = d} {r = r} elf other row) =
    here (elf, other) (here row.paired (elsewhere (λ is. view_excludes d r is.seen.taken.1 row.fails) refl))
fails_due q e (fails.unreadable {r = r} elf linked row) = here elf (here linked (elsewhere (λ is. show-excludes (subject_view q) r is.reads row) refl))

shown_due : (q : Subject) → IsShowable q → SubjectDue q 0
shown_due q is = here is.seen.elf (here is.seen.linked (here is refl))

-- ### The status that is due

-- of what was read the status is due that its bytes are due
read_due : (file : List ℕ) (debug : Option (List ℕ)) (q : Subject) (n : ℕ) (old : Seen) → AreRead (now_of old) file debug q → SubjectDue q n
    → ForSome (now_of old) (λ t. ShowDue file debug t n)
read_due file None q n old (reads.one read) due =
    λ t tells. subst (λ (what : Found). InputDue what n (λ b. SubjectDue (of_file file b) n)) (sym (read.is t tells)) due
read_due file (Some debug) q n old (reads.two {s = s} read also) due =
    λ t tells.
    subst (λ (what : Found). InputDue what n (λ x. InputDue (stands_at t debug most_file) n (λ y. SubjectDue (of_pair file x debug y) n))) (sym (read.is t tells))
    (subst (λ (what : Found). InputDue what n (λ y. SubjectDue (of_pair file s debug y) n)) (sym (also.is t tells)) due)

-- of what else is at a path, whatever is due of a file
input_any : (path : List ℕ) (old new : Seen) (e : End) (t : TreeMap) (of_bytes : List ℕ → Type 0) → now_of old ≡ Some t → InputEnds path most_file old new e
    → InputDue (stands_at t path most_file) (status_of e) of_bytes ⊎ (IsCut (status_of e) ⊎ (status_of e ≡ 7))
input_any path old new e t of_bytes tells (inputs.absent stood) = inl (subst (λ (what : Found). InputDue what 4 of_bytes) (sym (stood.is t tells)) refl)
input_any path old new e t of_bytes tells (inputs.folder stood) = inl (subst (λ (what : Found). InputDue what 4 of_bytes) (sym (stood.is t tells)) refl)
input_any path old new e t of_bytes tells (inputs.link stood) = inl (subst (λ (what : Found). InputDue what 4 of_bytes) (sym (stood.is t tells)) refl)
input_any path old new e t of_bytes tells (inputs.large above stood) = inl (subst (λ (what : Found). InputDue what 8 of_bytes) (sym (stood.is t tells)) refl)
input_any path old new e t of_bytes tells (inputs.failed rose) = inr (inl (tree_fault refl))
input_any path old new e t of_bytes tells inputs.memory = inr (inl (no_memory refl))

behind_first : (file s : List ℕ) (mode n : ℕ) (old : Seen) (t : TreeMap) (of_bytes : List ℕ → Type 0) (Other : Type 0) → now_of old ≡ Some t
    → Stood (now_of old) file most_file (found.File s mode) → of_bytes s ⊎ Other → InputDue (stands_at t file most_file) n of_bytes ⊎ Other
behind_first file s mode n old t of_bytes Other tells read (inl due) = inl (subst (λ (what : Found). InputDue what n of_bytes) (sym (read.is t tells)) due)
behind_first file s mode n old t of_bytes Other tells read (inr other) = inr other

reading_due : (file : List ℕ) (debug : Option (List ℕ)) (old new : Seen) (e : End) → ReadingEnds file old new debug e
    → ForSome (now_of old) (λ t. ShowDue file debug t (status_of e) ⊎ (IsCut (status_of e) ⊎ (status_of e ≡ 7)))
reading_due file None old new e (readings.first row) = λ t tells. input_any file old new e t (λ b. SubjectDue (of_file file b) (status_of e)) tells row
reading_due file (Some debug) old new e (readings.first row) =
    λ t tells. input_any file old new e t (λ s. InputDue (stands_at t debug most_file) (status_of e) (λ d. SubjectDue (of_pair file s debug d) (status_of e))) tells row
reading_due file (Some debug) old new e (readings.second {s = s} {mode = mode} {mid = mid} read calm row) =
    λ t tells.
    behind_first file s mode (status_of e) old t (λ x. InputDue (stands_at t debug most_file) (status_of e) (λ d. SubjectDue (of_pair file x debug d) (status_of e)))
    (IsCut (status_of e) ⊎ (status_of e ≡ 7)) tells read
    (input_any debug mid new e t (λ d. SubjectDue (of_pair file s debug d) (status_of e)) (calm.now ∙ tells) row)

pub show_due : (file : List ℕ) (debug : Option (List ℕ)) (old new : Seen) (heard said : Heard) (e : End) → ShowEnds file debug old new heard said e
    → ForSome (now_of old) (λ t. ShowDue file debug t (status_of e) ⊎ (IsCut (status_of e) ⊎ (status_of e ≡ 7)))
show_due file debug old new heard said e (shows.reading row calm same) = reading_due file debug old new e row
show_due file debug old new heard said e (shows.showing {q = q} read calm (ends.refused row same)) =
    λ t tells. inl (read_due file debug q (status_of e) old read (fails_due q e row) t tells)
show_due file debug old new heard said e (shows.showing read calm (ends.unread same)) = λ t tells. inr (inl (no_memory refl))
show_due file debug old new heard said e (shows.showing read calm (ends.failed begins rose)) = λ t tells. inr (inr refl)
show_due file debug old new heard said e (shows.showing read calm (ends.wanting begins)) = λ t tells. inr (inl (no_memory refl))
show_due file debug old new heard said e (shows.memory calm same) = λ t tells. inr (inl (no_memory refl))
show_due file debug old new heard said e (shows.done d) = λ t tells. inl (read_due file debug d.q 0 old d.read (shown_due d.q d.text.showable) t tells)

-- ### What a status says of the end

reading_status : (file : List ℕ) (debug : Option (List ℕ)) (k : ℕ) (old new : Seen) (e : End) → ReadingEnds file old new debug e → (4 == k) ≡ false → (8 == k) ≡ false
    → (6 == k) ≡ false → (13 == k) ≡ false → (status_of e == k) ≡ false
reading_status file debug k old new e (readings.first row) = input_status file most_file k old new e row
reading_status file (Some debug) k old new e (readings.second {mid = mid} read calm row) = input_status debug most_file k mid new e row

reading_fault : (file : List ℕ) (debug : Option (List ℕ)) (old new : Seen) (e : End) → ReadingEnds file old new debug e → status_of e ≡ 6 → Rose old.faults new.faults
reading_fault file debug old new e (readings.first row) is = input_fault file most_file old new e row is
reading_fault file (Some debug) old new e (readings.second {mid = mid} read calm row) is =
    let rose : Rose mid.faults new.faults = input_fault debug most_file mid new e row is in
    omega (arith, calm.later, rose)

fails_status : (q : Subject) (k : ℕ) (e : End) → ShowFails q e → (3 == k) ≡ false → (12 == k) ≡ false → (status_of e == k) ≡ false
fails_status q k e (fails.elf row) three twelve = three
fails_status q k e (fails.stripped_elf row) three twelve = three
fails_status q k e (fails.debug_elf reads row) three twelve = three
fails_status q k e (fails.no_pair elf other row) three twelve = twelve
fails_status q k e (fails.file_taking elf row) three twelve = three
fails_status q k e (fails.stripped_taking elf other row) three twelve = three
fails_status q k e (fails.debug_taking elf other row) three twelve = three
fails_status q k e (fails.unreadable elf linked row) three twelve = three

text_status : (q : Subject) (heard said : Heard) (k : ℕ) (e : End) → TextEnds q heard said e → (3 == k) ≡ false → (12 == k) ≡ false → (7 == k) ≡ false → (13 == k) ≡ false
    → (status_of e == k) ≡ false
text_status q heard said k e (ends.refused row same) three twelve seven want = fails_status q k e row three twelve
text_status q heard said k e (ends.unread same) three twelve seven want = want
text_status q heard said k e (ends.failed begins rose) three twelve seven want = seven
text_status q heard said k e (ends.wanting begins) three twelve seven want = want

text_output : (q : Subject) (heard said : Heard) (e : End) → TextEnds q heard said e → status_of e ≡ 7 → Rose heard.faults said.faults
text_output q heard said e (ends.refused row same) is = absurd (apart (status_of e) 7 (fails_status q 7 e row refl refl) refl is)
text_output q heard said e (ends.unread same) is = absurd (apart 13 7 refl refl is)
text_output q heard said e (ends.failed begins rose) is = rose
text_output q heard said e (ends.wanting begins) is = absurd (apart 13 7 refl refl is)

text_silent : (q : Subject) (heard said : Heard) (e : End) → TextEnds q heard said e → (HasBegun (status_of e) → ⊥) → said ≡ heard
text_silent q heard said e (ends.refused row same) un = same
text_silent q heard said e (ends.unread same) un = same
text_silent q heard said e (ends.failed begins rose) un = absurd (un (begun.failed refl))
text_silent q heard said e (ends.wanting begins) un = absurd (un (begun.wanting refl))

pub show_ended : (file : List ℕ) (debug : Option (List ℕ)) (old new : Seen) (heard said : Heard) (e : End) → ShowEnds file debug old new heard said e → 0 ≡ status_of e
    → ShowDone file debug old new heard said
show_ended file debug old new heard said e (shows.reading row calm same) is =
    absurd (apart (status_of e) 0 (reading_status file debug 0 old new e row refl refl refl refl) refl (sym is))
show_ended file debug old new heard said e (shows.showing {q = q} read calm row) is =
    absurd (apart (status_of e) 0 (text_status q heard said 0 e row refl refl refl refl) refl (sym is))
show_ended file debug old new heard said e (shows.memory calm same) is = absurd (apart 13 0 refl refl (sym is))
show_ended file debug old new heard said e (shows.done d) is = d

pub show_known : (file : List ℕ) (debug : Option (List ℕ)) (old new : Seen) (heard said : Heard) (e : End) → ShowEnds file debug old new heard said e → 2 ≢ status_of e
show_known file debug old new heard said e (shows.reading row calm same) =
    λ is. apart (status_of e) 2 (reading_status file debug 2 old new e row refl refl refl refl) refl (sym is)
show_known file debug old new heard said e (shows.showing {q = q} read calm row) =
    λ is. apart (status_of e) 2 (text_status q heard said 2 e row refl refl refl refl) refl (sym is)
show_known file debug old new heard said e (shows.memory calm same) = λ is. apart 13 2 refl refl (sym is)
show_known file debug old new heard said e (shows.done d) = λ is. apart 0 2 refl refl (sym is)

pub show_fault : (file : List ℕ) (debug : Option (List ℕ)) (old new : Seen) (heard said : Heard) (e : End) → ShowEnds file debug old new heard said e → status_of e ≡ 6
    → Rose old.faults new.faults
show_fault file debug old new heard said e (shows.reading row calm same) is = reading_fault file debug old new e row is
show_fault file debug old new heard said e (shows.showing {q = q} read calm row) is =
    absurd (apart (status_of e) 6 (text_status q heard said 6 e row refl refl refl refl) refl is)
show_fault file debug old new heard said e (shows.memory calm same) is = absurd (apart 13 6 refl refl is)
show_fault file debug old new heard said e (shows.done d) is = absurd (apart 0 6 refl refl is)

pub show_output : (file : List ℕ) (debug : Option (List ℕ)) (old new : Seen) (heard said : Heard) (e : End) → ShowEnds file debug old new heard said e → status_of e ≡ 7
    → Rose heard.faults said.faults
show_output file debug old new heard said e (shows.reading row calm same) is =
    absurd (apart (status_of e) 7 (reading_status file debug 7 old new e row refl refl refl refl) refl is)
show_output file debug old new heard said e (shows.showing {q = q} read calm row) is = text_output q heard said e row is
show_output file debug old new heard said e (shows.memory calm same) is = absurd (apart 13 7 refl refl is)
show_output file debug old new heard said e (shows.done d) is = absurd (apart 0 7 refl refl is)

pub show_silent : (file : List ℕ) (debug : Option (List ℕ)) (old new : Seen) (heard said : Heard) (e : End) → ShowEnds file debug old new heard said e
    → (HasBegun (status_of e) → ⊥) → said ≡ heard
show_silent file debug old new heard said e (shows.reading row calm same) un = same
show_silent file debug old new heard said e (shows.showing {q = q} read calm row) un = text_silent q heard said e row un
show_silent file debug old new heard said e (shows.memory calm same) un = same
show_silent file debug old new heard said e (shows.done d) un = absurd (un (begun.done refl))

-- ### Completeness

-- where nothing is against a showing, it is done or cut
reading_completes : (file : List ℕ) (debug : Option (List ℕ)) (q : Subject) (old new : Seen) (e : End) (t : TreeMap) → now_of old ≡ Some t → AreRead (Some t) file debug q
    → ReadingEnds file old new debug e → IsCut (status_of e)
reading_completes file None q old new e t tells (reads.one {b = b} {mode = mode} read) (readings.first row) =
    input_completes file most_file old new e t b mode tells (read.is t refl) row
reading_completes file (Some debug) q old new e t tells (reads.two {s = s} {mode = mode} read also) (readings.first row) =
    input_completes file most_file old new e t s mode tells (read.is t refl) row
reading_completes file (Some debug) q old new e t tells (reads.two {d = d} {other = other} read also) (readings.second {mid = mid} stood calm row) =
    input_completes debug most_file mid new e t d other (calm.now ∙ tells) (also.is t refl) row

text_completes : (q : Subject) (heard said : Heard) (e : End) → ((x : End) → ShowFails q x → ⊥) → TextEnds q heard said e → IsCut (status_of e) ⊎ (status_of e ≡ 7)
text_completes q heard said e none (ends.refused row same) = absurd (none e row)
text_completes q heard said e none (ends.unread same) = inl (no_memory refl)
text_completes q heard said e none (ends.failed begins rose) = inr refl
text_completes q heard said e none (ends.wanting begins) = inl (no_memory refl)

-- what is read of a tree is one thing
same_read : (old : Option TreeMap) (t : TreeMap) (file : List ℕ) (debug : Option (List ℕ)) (p q : Subject) → old ≡ Some t → AreRead (Some t) file debug p
    → AreRead old file debug q → p ≡ q
same_read old t file None p q tells (reads.one {b = b} {mode = mode} there) (reads.one {b = c} {mode = m} read) =
    ap (of_file file) (same_bytes b c mode m (sym (there.is t refl) ∙ read.is t tells))
same_read old t file (Some debug) p q tells (reads.two {s = s} {d = d} {mode = mode} {other = other} there beside) (reads.two {s = x} {d = y} {mode = m} {other = n} read also) =
    let one : s ≡ x = same_bytes s x mode m (sym (there.is t refl) ∙ read.is t tells) in
    let two : d ≡ y = same_bytes d y other n (sym (beside.is t refl) ∙ also.is t tells) in
    ap (λ (z : List ℕ). of_pair file z debug d) one ∙ ap (of_pair file x debug) two

pub show_completes : (file : List ℕ) (debug : Option (List ℕ)) (old new : Seen) (heard said : Heard) (e : End) (t : TreeMap) → now_of old ≡ Some t
    → ShowUnopposed file debug t → ShowEnds file debug old new heard said e → (status_of e ≡ 0) ⊎ (IsCut (status_of e) ⊎ (status_of e ≡ 7))
show_completes file debug old new heard said e t tells is (shows.reading row calm same) =
    inr (inl (reading_completes file debug is.q old new e t tells is.read row))
show_completes file debug old new heard said e t tells is (shows.showing {q = q} read calm row) =
    let same : is.q ≡ q = same_read (now_of old) t file debug is.q q tells is.read read in
    inr (text_completes q heard said e (subst (λ (x : Subject). (y : End) → ShowFails x y → ⊥) same is.unrefused) row)
show_completes file debug old new heard said e t tells is (shows.memory calm same) = inr (inl (no_memory refl))
show_completes file debug old new heard said e t tells is (shows.done d) = inl refl

-- where a showing isn't done, it may as well want memory
pub show_memory : (file : List ℕ) (debug : Option (List ℕ)) (old new : Seen) (heard said : Heard) (e : End) → ShowEnds file debug old new heard said e → e ≢ end.Done
    → ShowEnds file debug old new heard said end.NoMemory
show_memory file debug old new heard said e (shows.reading row calm same) undone = shows.memory calm same
show_memory file debug old new heard said e (shows.showing read calm (ends.refused row same)) undone = shows.memory calm same
show_memory file debug old new heard said e (shows.showing read calm (ends.unread same)) undone = shows.memory calm same
show_memory file debug old new heard said e (shows.showing read calm (ends.failed begins rose)) undone = shows.showing read calm (ends.wanting begins)
show_memory file debug old new heard said e (shows.showing read calm (ends.wanting begins)) undone = shows.showing read calm (ends.wanting begins)
show_memory file debug old new heard said e (shows.memory calm same) undone = shows.memory calm same
show_memory file debug old new heard said e (shows.done d) undone = absurd (undone refl)

pub show_calm : (file : List ℕ) (debug : Option (List ℕ)) (old new : Seen) (heard said : Heard) (e : End) → ShowEnds file debug old new heard said e → now_of new ≡ now_of old
show_calm file debug old new heard said e (shows.reading row calm same) = calm.now
show_calm file debug old new heard said e (shows.showing read calm row) = calm.now
show_calm file debug old new heard said e (shows.memory calm same) = calm.now
show_calm file debug old new heard said e (shows.done d) = d.calm.now
