-- Laws on the joining of two files: what an end says, and which status is due.
use Rattle.std.proofs.Common.{◌≡◌, ◌≢◌, ◌≤◌, ◌⊎◌, inl, inr, ℕ, ◌==◌, true, false, Bool, List, [], ◌∷◌, length, Some, None, refl, sym, ap, ◌∙◌, subst, arith}
use Rattle.std.specs.Prelude.{Option, nat_le, option_map, if◌then◌else◌}
use Rattle.std.specs.Option.{ForSome}
use Rattle.std.specs.List.{list_any}
use Rattle.std.proofs.lemmas.Bool.Decides.{nat_tests}
use Rattle.std.specs.FinMap as fin
use Rattle.dw_base.specs.ElfFails.{DebugFails, DebugReads, ElfFails, ElfReads}
use Rattle.dw_base.specs.Layout.{output_limit}
use Rattle.dw_base.specs.LayoutFails.{TooLong}
use Rattle.dw_base.specs.LayoutFails.TooLong.{long}
use Rattle.dw_base.specs.declared.fault.Fault.TheVariants.{Refused as refused_}
use Rattle.dw_base.specs.declared.fault.Refusal.{Refusal}
use Rattle.dw_base.proofs.ElfLaws.{debug_excludes, elf_excludes}
use Rattle.dw_view.specs.declared.mismatch.Mismatch.{Mismatch}
use Rattle.dbg_unstrip.specs.Joined.{joined}
use Rattle.dbg_unstrip.specs.Rejoined.{IsRejoined, WasSplit}
use Rattle.dbg_unstrip.specs.UnstripFails.{AreJoinable, UnstripBlames, UnstripRefuses}
use Rattle.dbg_unstrip.specs.UnstripFails.UnstripRefuses.{file_type, large}
use Rattle.dbg_unstrip.specs.declared.unstrip_err.UnstripErr.TheVariants.{NotAPair, Unmatched, Refused}
use Rattle.dbg_unstrip.proofs.RejoinedLaws.{split-matches}
use Rattle.dbg_unstrip.proofs.SplitPairLaws.{pair-of}
use Rattle.dbg_unstrip.proofs.UnstripRows.{mismatch-excludes, unstrip-excludes}
use Rattle.file_tree.specs.declared.node.Found.TheVariants as found
use Rattle.file_tree.specs.declared.node.Node.{Node}
use Rattle.file_tree.specs.declared.node.Node.TheVariants as node
use Rattle.file_tree.specs.Causes.{Calm, OnlyAt, Rose, Stood}
use Rattle.file_tree.specs.Moments.{LooksOnly, adds_all}
use Rattle.file_tree.specs.Seen.{Seen, now_of}
use Rattle.file_tree.specs.Trees.{TreeMap, found_of, is_below, stands_at, with_node}
use Rattle.job_types.specs.Settings.{most_file}
use Rattle.dbg_ends.specs.declared.end.End.{End}
use Rattle.dbg_ends.specs.declared.end.End.TheVariants as end
use Rattle.dbg_ends.specs.Due.{IsCut, IsRefusal, OutputDue}
use Rattle.dbg_ends.specs.Due.IsCut.{no_memory}
use Rattle.dbg_ends.specs.Due.Where.{here, elsewhere}
use Rattle.dbg_ends.specs.Ends.{status_of}
use Rattle.dbg_ends.specs.Steps.{BlamesAt, FaultEnds, OutputEnds, OutputFree, OutputTaken, all_stored, file_put}
use Rattle.dbg_ends.specs.Steps.{BlamesAt as blames, FaultEnds as fault_ends}
use Rattle.dbg_ends.proofs.LookLaws.{looks-then}
use Rattle.dbg_ends.proofs.StatusLaws.{apart, done_refusal, input_ends, input_fault, input_status, no_refusal, output_ends, output_fault, output_status, written_fault, written_status}
use Rattle.dbg_run.proofs.EditLaws.{calm_then, free_before, free_due, input_completes, looks-and, output_completes, same-at, same_bytes, written_completes}
use Rattle.dbg_run.proofs.EndLaws.{behind_file, either, put_at, rose_later, written_at}
use Rattle.dbg_run.proofs.ShowLaws.{stood_before}
use Rattle.dbg_run.specs.Shows.{base_name}
use Rattle.dbg_run.specs.Unstrips.{AreRecords, CanJoin, ComesBack, JoinDue, JoinFails, JoiningEnds, Unjoined, UnstripDone, UnstripDue, UnstripEnds, UnstripUnopposed, WereParts}
use Rattle.dbg_run.specs.Unstrips.{JoinFails as fails, JoiningEnds as joinings, Unjoined as unjoined, UnstripEnds as unstrips}

-- ### The file of both

pub join_mismatch : (stripped s debug d name : List ℕ) (m : Mismatch) → ElfReads s → DebugReads d → name ≡ base_name debug → UnstripBlames s d name (NotAPair m)
    → Unjoined stripped s debug d (end.NotAPair m)
join_mismatch stripped s debug d name m elf other is row =
    unjoined.fails (fails.no_pair (record { stripped = elf; debug = other }) (subst (λ (x : List ℕ). UnstripBlames s d x (NotAPair m)) is row))

pub join_unmatched : (stripped s debug d name : List ℕ) (place : ℕ) → ElfReads s → DebugReads d → name ≡ base_name debug → UnstripBlames s d name (Unmatched place)
    → Unjoined stripped s debug d (end.Unmatched place)
join_unmatched stripped s debug d name place elf other is row =
    unjoined.fails (fails.unmatched (record { stripped = elf; debug = other }) (subst (λ (x : List ℕ). UnstripBlames s d x (Unmatched place)) is row))

pub join_refused : (stripped s debug d name : List ℕ) (r : Refusal) (e : End) → ElfReads s → DebugReads d → name ≡ base_name debug → UnstripBlames s d name (Refused r)
    → FaultEnds stripped (refused_ r) e → Unjoined stripped s debug d e
join_refused stripped s debug d name r e elf other is row fault_ends.refused =
    unjoined.fails (fails.refused (record { stripped = elf; debug = other }) (subst (λ (x : List ℕ). UnstripBlames s d x (Refused r)) is row))
join_refused stripped s debug d name r e elf other is row fault_ends.memory = unjoined.memory

pub can_join : (s d name x : List ℕ) → ElfReads s → DebugReads d → x ≡ name → AreJoinable s d x → CanJoin s d name
can_join s d name x elf other is are = record {
  records = record { stripped = elf; debug = other };
  are = subst (λ (n : List ℕ). AreJoinable s d n) is are;
}

pub comes_back : (s d name x : List ℕ) → x ≡ name → AreJoinable s d x → ((b : List ℕ) → WasSplit b x s d → length (joined s d) ≤ output_limit → IsRejoined b (joined s d))
    → ComesBack s d name
comes_back s d name x is are back = record { is = λ b was. back b (subst (λ (n : List ℕ). WasSplit b n s d) (sym is) was) are.short }

pub ruleset join_laws = (join_mismatch, join_unmatched, join_refused, unjoined.memory, can_join, comes_back)

-- ### It is written

pub stripped_elf : (stripped s debug d output : List ℕ) (old new : Seen) (e : End) → new ≡ old → BlamesAt (ElfFails s) stripped e
    → JoiningEnds stripped s debug d output old new e
stripped_elf stripped s debug d output old new e same (blames.refused row) = joinings.unjoined (unjoined.fails (fails.stripped_elf row)) same
stripped_elf stripped s debug d output old new e same blames.memory = joinings.unjoined unjoined.memory same

pub debug_elf : (stripped s debug d output : List ℕ) (old new : Seen) (e : End) → new ≡ old → ElfReads s → BlamesAt (DebugFails d) debug e
    → JoiningEnds stripped s debug d output old new e
debug_elf stripped s debug d output old new e same elf (blames.refused row) = joinings.unjoined (unjoined.fails (fails.debug_elf elf row)) same
debug_elf stripped s debug d output old new e same elf blames.memory = joinings.unjoined unjoined.memory same

pub at_both : (P : List ℕ → List ℕ → Type 0) (s d c k : List ℕ) → c ≡ s → k ≡ d → P c k → P s d
at_both P s d c k at_s at_d holds = subst (λ (x : List ℕ). P x d) at_s (subst (λ (y : List ℕ). P c y) at_d holds)

pub no_join : (stripped s debug d output c k : List ℕ) (old new : Seen) (e : End) → c ≡ s → k ≡ d → new ≡ old → Unjoined stripped c debug k e
    → JoiningEnds stripped s debug d output old new e
no_join stripped s debug d output c k old new e at_s at_d same row =
    joinings.unjoined (at_both (λ x y. Unjoined stripped x debug y e) s d c k at_s at_d row) same

pub no_writing : (stripped s debug d output c k : List ℕ) (old new : Seen) (e : End) → c ≡ s → k ≡ d → CanJoin c k (base_name debug) → OutputEnds output old new e
    → JoiningEnds stripped s debug d output old new e
no_writing stripped s debug d output c k old new e at_s at_d can row =
    joinings.writing (at_both (λ x y. CanJoin x y (base_name debug)) s d c k at_s at_d can) row

pub joinable_there : (s d c k name : List ℕ) → c ≡ s → k ≡ d → CanJoin c k name → CanJoin s d name
joinable_there s d c k name at_s at_d can = at_both (λ x y. CanJoin x y name) s d c k at_s at_d can

pub back_there : (s d c k name : List ℕ) → c ≡ s → k ≡ d → ComesBack c k name → ComesBack s d name
back_there s d c k name at_s at_d back = at_both (λ x y. ComesBack x y name) s d c k at_s at_d back

pub file_there : (s d c k file : List ℕ) → c ≡ s → k ≡ d → file ≡ joined c k → file ≡ joined s d
file_there s d c k file at_s at_d is = is ∙ ap (λ (x : List ℕ). joined x k) at_s ∙ ap (joined s) at_d

-- ### The steps

-- it ends at the look at the output
pub output_taken : (stripped debug output : List ℕ) (old mid far new : Seen) (s d : List ℕ) (mode other : ℕ) (e : End)
    → Stood (now_of old) stripped most_file (found.File s mode) → Calm old mid → Stood (now_of mid) debug most_file (found.File d other) → Calm mid far
    → OutputTaken output far new e → Calm far new → UnstripEnds stripped debug output old new e
output_taken stripped debug output old mid far new s d mode other e read calm also still row rest =
    unstrips.taking read (stood_before old mid debug (found.File d other) calm also) (calm_then old mid far calm still) row rest

same_calm : (old new : Seen) → new ≡ old → Calm old new
same_calm old new same = record {
  now = ap (λ (x : Seen). now_of x) same;
  later = let f : new.faults ≡ old.faults = ap (λ (x : Seen). x.faults) same in omega (arith, f);
}

joining_by : (stripped debug output : List ℕ) (old mid new : Seen) (s d : List ℕ) (mode other : ℕ) (e : End) → Stood (now_of old) stripped most_file (found.File s mode)
    → Stood (now_of old) debug most_file (found.File d other) → OutputFree (now_of old) output → Calm old mid → JoiningEnds stripped s debug d output mid new e
    → UnstripEnds stripped debug output old new e
joining_by stripped debug output old mid new s d mode other e read also free calm (joinings.unjoined row same) =
    unstrips.joining read also free row (calm_then old mid new calm (same_calm mid new same))
joining_by stripped debug output old mid new s d mode other e read also free calm (joinings.writing can row) = unstrips.writing read also free can calm row

-- or at the joining, or at the writing
pub joining_ends : (stripped debug output : List ℕ) (old mid far last new : Seen) (s d c k : List ℕ) (mode other : ℕ) (e : End) → c ≡ s → k ≡ d
    → Stood (now_of old) stripped most_file (found.File s mode) → Calm old mid → Stood (now_of mid) debug most_file (found.File d other) → Calm mid far
    → OutputFree (now_of far) output → Calm far last → JoiningEnds stripped c debug k output last new e → UnstripEnds stripped debug output old new e
joining_ends stripped debug output old mid far last new s d c k mode other e at_s at_d read calm also still free rest row =
    joining_by stripped debug output old last new s d mode other e read (stood_before old mid debug (found.File d other) calm also)
    (free_before old mid output calm (free_before mid far output still free)) (calm_then old mid last calm (calm_then mid far last still rest))
    (at_both (λ x y. JoiningEnds stripped x debug y output last new e) s d c k at_s at_d row)

-- it is done where each of its steps is
pub unstrip_done : (stripped debug output : List ℕ) (old mid far last new : Seen) (s d c k : List ℕ) (mode other : ℕ) → c ≡ s → k ≡ d
    → Stood (now_of old) stripped most_file (found.File s mode) → Calm old mid → mid.tells ≡ old.tells → Stood (now_of mid) debug most_file (found.File d other)
    → Calm mid far → far.tells ≡ mid.tells → OutputFree (now_of far) output → Calm far last → last.tells ≡ far.tells → CanJoin c k (base_name debug)
    → ComesBack c k (base_name debug) → now_of new ≡ option_map (with_node output (node.File (joined c k) mode)) (now_of last)
    → (old.tells ≡ true → LooksOnly old.past mid.past) → (mid.tells ≡ true → LooksOnly mid.past far.past) → (far.tells ≡ true → LooksOnly far.past last.past)
    → (last.tells ≡ true → new.past ≡ adds_all last.past (file_put output (joined c k) mode ∷ all_stored ∷ [])) → UnstripDone stripped debug output old new
unstrip_done stripped debug output old mid far last new s d c k mode other at_s at_d read calm tells also still tell free rest told can back put first then_ last_ made =
    record {
      s = s;
      d = d;
      mode = mode;
      other = other;
      read = read;
      debug_read = stood_before old mid debug (found.File d other) calm also;
      free = free_before old mid output calm (free_before mid far output still free);
      can = joinable_there s d c k (base_name debug) at_s at_d can;
      back = back_there s d c k (base_name debug) at_s at_d back;
      written = put
          ∙ ap (λ (x : Option TreeMap). option_map (with_node output (node.File (joined c k) mode)) x) (rest.now ∙ still.now ∙ calm.now)
          ∙ ap (λ (f : List ℕ). option_map (with_node output (node.File f mode)) (now_of old)) (file_there s d c k (joined c k) at_s at_d refl);
      calls = λ known.
          looks-and old.past far.past last.past new.past _ (looks-then old.past mid.past far.past (first known) (then_ (tells ∙ known))) (last_ (tell ∙ tells ∙ known))
          (made (told ∙ tell ∙ tells ∙ known)
          ∙ ap (λ (f : List ℕ). adds_all last.past (file_put output f mode ∷ all_stored ∷ [])) (file_there s d c k (joined c k) at_s at_d refl));
    }

-- ### Which status is due

short-excludes : (n : ℕ) (r : Refusal) → TooLong n r → n ≤ output_limit → ⊥
short-excludes n r (long past) short = omega (arith, short, past)

-- an end that says why two files aren't joined has the status that is due
refuses_due : (s d name : List ℕ) (r : Refusal) → AreRecords s d → UnstripRefuses s d name r → JoinDue s d name 3
refuses_due s d name r records (file_type paired other) =
    here records (here paired (elsewhere (λ loaded. let no : true ≡ false = sym loaded ∙ other in cc) refl))
refuses_due s d name r records (large can matched passes) =
    here records (here can.paired (here can.loaded (here matched (elsewhere (short-excludes (length (joined s d)) r passes) refl))))

fails_due : (stripped s debug d : List ℕ) (e : End) → JoinFails stripped s debug d e → JoinDue s d (base_name debug) (status_of e)
fails_due stripped s debug d e (fails.stripped_elf {r = r} row) = elsewhere (λ records. elf_excludes s r records.stripped row) refl
fails_due stripped s debug d e (fails.debug_elf {r = r} reads row) = elsewhere (λ records. debug_excludes d r records.debug row) refl
fails_due stripped s debug d e (fails.no_pair {m = m} records row) =
    here records (elsewhere (λ paired. mismatch-excludes s d (base_name debug) m paired row) refl)
fails_due stripped s debug d e (fails.refused {r = r} records row) = refuses_due s d (base_name debug) r records row
fails_due stripped s debug d e (fails.unmatched {place = place} records row) =
    here records (here row.can.paired (here row.can.loaded (elsewhere (λ match. match place row.unmatched) refl)))

can_due : (s d name : List ℕ) → CanJoin s d name → JoinDue s d name 0
can_due s d name can =
    here can.records (here can.are.pair.can.paired (here can.are.pair.can.loaded (here can.are.pair.matched (here can.are.short refl))))

-- where both files were read and a file might be put, what is due of the two is due
both_due : (stripped debug output s d : List ℕ) (mode other n : ℕ) (old : Seen) (t : TreeMap) → now_of old ≡ Some t
    → Stood (now_of old) stripped most_file (found.File s mode) → Stood (now_of old) debug most_file (found.File d other)
    → OutputDue (stands_at t output 0) n (JoinDue s d (base_name debug) n)
    → UnstripDue (base_name debug) (stands_at t stripped most_file) (stands_at t debug most_file) (stands_at t output 0) n
both_due stripped debug output s d mode other n old t tells read also due =
    behind_file stripped most_file s mode n old t _ tells read (behind_file debug most_file d other n old t _ tells also due)

pub unstrip_due : (stripped debug output : List ℕ) (old new : Seen) (e : End) → UnstripEnds stripped debug output old new e
    → ForSome (now_of old) (λ t.
    UnstripDue (base_name debug) (stands_at t stripped most_file) (stands_at t debug most_file) (stands_at t output 0) (status_of e) ⊎ IsCut (status_of e))
unstrip_due stripped debug output old new e (unstrips.reading row calm) = λ t tells. input_ends stripped most_file old new e t _ tells row
unstrip_due stripped debug output old new e (unstrips.debug_reading {s = s} {mode = mode} {mid = mid} read calm row still) = λ t tells.
    either _ _ _ (behind_file stripped most_file s mode (status_of e) old t _ tells read) (input_ends debug most_file mid new e t _ (calm.now ∙ tells) row)
unstrip_due stripped debug output old new e (unstrips.taking {s = s} {d = d} {mode = mode} {other = other} {mid = mid} read also calm row still) = λ t tells.
    either _ _ _ (both_due stripped debug output s d mode other (status_of e) old t tells read also) (output_ends output mid new e t _ (calm.now ∙ tells) row)
unstrip_due stripped debug output old new e (unstrips.joining {s = s} {d = d} {mode = mode} {other = other} read also free (unjoined.fails row) calm) = λ t tells.
    inl (both_due stripped debug output s d mode other (status_of e) old t tells read also
    (free_due (stands_at t output 0) (status_of e) _ (free.is t tells) (fails_due stripped s debug d e row)))
unstrip_due stripped debug output old new e (unstrips.joining read also free unjoined.memory calm) = λ t tells. inr (no_memory refl)
unstrip_due stripped debug output old new e (unstrips.writing {mid = mid} read also free can calm row) = λ t tells. inr (written_completes output mid new e row)
unstrip_due stripped debug output old new e (unstrips.memory at) = λ t tells. inr (no_memory refl)
unstrip_due stripped debug output old new e (unstrips.done x) = λ t tells.
    inl (both_due stripped debug output x.s x.d x.mode x.other 0 old t tells x.read x.debug_read
    (free_due (stands_at t output 0) 0 _ (x.free.is t tells) (can_due x.s x.d (base_name debug) x.can)))

-- ### What a status says of the end

unjoined_status : (stripped s debug d : List ℕ) (k : ℕ) (e : End) → Unjoined stripped s debug d e → (3 == k) ≡ false → (12 == k) ≡ false → (15 == k) ≡ false
    → (13 == k) ≡ false → (status_of e == k) ≡ false
unjoined_status stripped s debug d k e (unjoined.fails (fails.stripped_elf row)) three twelve fifteen want = three
unjoined_status stripped s debug d k e (unjoined.fails (fails.debug_elf reads row)) three twelve fifteen want = three
unjoined_status stripped s debug d k e (unjoined.fails (fails.no_pair records row)) three twelve fifteen want = twelve
unjoined_status stripped s debug d k e (unjoined.fails (fails.refused records row)) three twelve fifteen want = three
unjoined_status stripped s debug d k e (unjoined.fails (fails.unmatched records row)) three twelve fifteen want = fifteen
unjoined_status stripped s debug d k e unjoined.memory three twelve fifteen want = want

pub unstrip_ended : (stripped debug output : List ℕ) (old new : Seen) (e : End) → UnstripEnds stripped debug output old new e → 0 ≡ status_of e
    → UnstripDone stripped debug output old new
unstrip_ended stripped debug output old new e (unstrips.reading row calm) is =
    absurd (apart (status_of e) 0 (input_status stripped most_file 0 old new e row refl refl refl refl) refl (sym is))
unstrip_ended stripped debug output old new e (unstrips.debug_reading {mid = mid} read calm row still) is =
    absurd (apart (status_of e) 0 (input_status debug most_file 0 mid new e row refl refl refl refl) refl (sym is))
unstrip_ended stripped debug output old new e (unstrips.taking {mid = mid} read also calm row still) is =
    absurd (apart (status_of e) 0 (output_status output 0 mid new e row refl refl refl) refl (sym is))
unstrip_ended stripped debug output old new e (unstrips.joining {s = s} {d = d} read also free row calm) is =
    absurd (apart (status_of e) 0 (unjoined_status stripped s debug d 0 e row refl refl refl refl) refl (sym is))
unstrip_ended stripped debug output old new e (unstrips.writing {mid = mid} read also free can calm row) is =
    absurd (apart (status_of e) 0 (written_status output 0 mid new e row refl refl) refl (sym is))
unstrip_ended stripped debug output old new e (unstrips.memory at) is = absurd (apart 13 0 refl refl (sym is))
unstrip_ended stripped debug output old new e (unstrips.done x) is = x

-- it ends neither as words that are no command nor as a fault of the output sink
other_status : (stripped debug output : List ℕ) (k : ℕ) (old new : Seen) (e : End) → UnstripEnds stripped debug output old new e → (0 == k) ≡ false → (3 == k) ≡ false
    → (4 == k) ≡ false → (5 == k) ≡ false → (6 == k) ≡ false → (8 == k) ≡ false → (12 == k) ≡ false → (13 == k) ≡ false → (15 == k) ≡ false
    → (status_of e == k) ≡ false
other_status stripped debug output k old new e (unstrips.reading row calm) done three four five six eight twelve want fifteen =
    input_status stripped most_file k old new e row four eight six want
other_status stripped debug output k old new e (unstrips.debug_reading {mid = mid} read calm row still) done three four five six eight twelve want fifteen =
    input_status debug most_file k mid new e row four eight six want
other_status stripped debug output k old new e (unstrips.taking {mid = mid} read also calm row still) done three four five six eight twelve want fifteen =
    output_status output k mid new e row five six want
other_status stripped debug output k old new e (unstrips.joining {s = s} {d = d} read also free row calm) done three four five six eight twelve want fifteen =
    unjoined_status stripped s debug d k e row three twelve fifteen want
other_status stripped debug output k old new e (unstrips.writing {mid = mid} read also free can calm row) done three four five six eight twelve want fifteen =
    written_status output k mid new e row six want
other_status stripped debug output k old new e (unstrips.memory at) done three four five six eight twelve want fifteen = want
other_status stripped debug output k old new e (unstrips.done x) done three four five six eight twelve want fifteen = done

pub unstrip_known : (stripped debug output : List ℕ) (old new : Seen) (e : End) → UnstripEnds stripped debug output old new e → 2 ≢ status_of e
unstrip_known stripped debug output old new e row = λ is.
    apart (status_of e) 2 (other_status stripped debug output 2 old new e row refl refl refl refl refl refl refl refl refl) refl (sym is)

pub unstrip_silent : (stripped debug output : List ℕ) (old new : Seen) (e : End) → UnstripEnds stripped debug output old new e → 7 ≢ status_of e
unstrip_silent stripped debug output old new e row = λ is.
    apart (status_of e) 7 (other_status stripped debug output 7 old new e row refl refl refl refl refl refl refl refl refl) refl (sym is)

-- a fault of the tree came
pub unstrip_fault : (stripped debug output : List ℕ) (old new : Seen) (e : End) → UnstripEnds stripped debug output old new e → status_of e ≡ 6
    → Rose old.faults new.faults
unstrip_fault stripped debug output old new e (unstrips.reading row calm) is = input_fault stripped most_file old new e row is
unstrip_fault stripped debug output old new e (unstrips.debug_reading {mid = mid} read calm row still) is =
    rose_later old mid new calm (input_fault debug most_file mid new e row is)
unstrip_fault stripped debug output old new e (unstrips.taking {mid = mid} read also calm row still) is =
    rose_later old mid new calm (output_fault output mid new e row is)
unstrip_fault stripped debug output old new e (unstrips.joining {s = s} {d = d} read also free row calm) is =
    absurd (apart (status_of e) 6 (unjoined_status stripped s debug d 6 e row refl refl refl refl) refl is)
unstrip_fault stripped debug output old new e (unstrips.writing {mid = mid} read also free can calm row) is =
    rose_later old mid new calm (written_fault output mid new e row is)
unstrip_fault stripped debug output old new e (unstrips.memory at) is = absurd (apart 13 6 refl refl is)
unstrip_fault stripped debug output old new e (unstrips.done x) is = absurd (apart 0 6 refl refl is)

-- ### What becomes of the tree

-- at most the output differs
pub unstrip_others : (stripped debug output : List ℕ) (old new : Seen) (e : End) → UnstripEnds stripped debug output old new e → OnlyAt output (now_of old) (now_of new)
unstrip_others stripped debug output old new e (unstrips.reading row calm) = same-at output (now_of old) (now_of new) calm.now
unstrip_others stripped debug output old new e (unstrips.debug_reading read calm row still) = same-at output (now_of old) (now_of new) (still.now ∙ calm.now)
unstrip_others stripped debug output old new e (unstrips.taking read also calm row still) = same-at output (now_of old) (now_of new) (still.now ∙ calm.now)
unstrip_others stripped debug output old new e (unstrips.joining read also free row calm) = same-at output (now_of old) (now_of new) calm.now
unstrip_others stripped debug output old new e (unstrips.writing {mid = mid} read also free can calm row) = written_at output old mid new e calm row
unstrip_others stripped debug output old new e (unstrips.memory at) = at
unstrip_others stripped debug output old new e (unstrips.done x) = put_at output (node.File (joined x.s x.d) x.mode) (now_of old) (now_of new) x.written

-- a refusal comes before anything is written
pub unstrip_kept : (stripped debug output : List ℕ) (old new : Seen) (e : End) → UnstripEnds stripped debug output old new e → IsRefusal (status_of e)
    → now_of new ≡ now_of old
unstrip_kept stripped debug output old new e (unstrips.reading row calm) is = calm.now
unstrip_kept stripped debug output old new e (unstrips.debug_reading read calm row still) is = still.now ∙ calm.now
unstrip_kept stripped debug output old new e (unstrips.taking read also calm row still) is = still.now ∙ calm.now
unstrip_kept stripped debug output old new e (unstrips.joining read also free row calm) is = calm.now
unstrip_kept stripped debug output old new e (unstrips.writing {mid = mid} read also free can calm row) is =
    absurd (no_refusal (status_of e) (written_completes output mid new e row) is)
unstrip_kept stripped debug output old new e (unstrips.memory at) is = absurd (no_refusal 13 (no_memory refl) is)
unstrip_kept stripped debug output old new e (unstrips.done x) is = absurd (done_refusal is)

-- ### Completeness

unjoined_completes : (stripped s debug d : List ℕ) (e : End) → ((x : End) → JoinFails stripped s debug d x → ⊥) → Unjoined stripped s debug d e → IsCut (status_of e)
unjoined_completes stripped s debug d e none (unjoined.fails row) = absurd (none e row)
unjoined_completes stripped s debug d e none unjoined.memory = no_memory refl

-- where nothing is against it, it is done or cut
pub unstrip_completes : (stripped debug output : List ℕ) (old new : Seen) (e : End) (t : TreeMap) → now_of old ≡ Some t
    → UnstripUnopposed stripped debug (stands_at t stripped most_file) (stands_at t debug most_file) (stands_at t output 0) → UnstripEnds stripped debug output old new e
    → (status_of e ≡ 0) ⊎ IsCut (status_of e)
unstrip_completes stripped debug output old new e t tells is (unstrips.reading row calm) = inr (input_completes stripped most_file old new e t is.s is.mode tells is.file row)
unstrip_completes stripped debug output old new e t tells is (unstrips.debug_reading {mid = mid} read calm row still) =
    inr (input_completes debug most_file mid new e t is.d is.other (calm.now ∙ tells) is.debug_file row)
unstrip_completes stripped debug output old new e t tells is (unstrips.taking {mid = mid} read also calm row still) =
    inr (output_completes output mid new e t (calm.now ∙ tells) is.free row)
unstrip_completes stripped debug output old new e t tells is (unstrips.joining {s = s} {d = d} {mode = mode} {other = other} read also free row calm) =
    let one : is.s ≡ s = same_bytes is.s s is.mode mode (sym is.file ∙ read.is t tells) in
    let two : is.d ≡ d = same_bytes is.d d is.other other (sym is.debug_file ∙ also.is t tells) in
    inr (unjoined_completes stripped s debug d e
    (at_both (λ x y. (z : End) → JoinFails stripped x debug y z → ⊥) s d is.s is.d one two is.unrefused) row)
unstrip_completes stripped debug output old new e t tells is (unstrips.writing {mid = mid} read also free can calm row) = inr (written_completes output mid new e row)
unstrip_completes stripped debug output old new e t tells is (unstrips.memory at) = inr (no_memory refl)
unstrip_completes stripped debug output old new e t tells is (unstrips.done x) = inl refl

-- where it isn't done, it may as well want memory
pub unstrip_memory : (stripped debug output : List ℕ) (old new : Seen) (e : End) → UnstripEnds stripped debug output old new e
    → UnstripEnds stripped debug output old new end.NoMemory
unstrip_memory stripped debug output old new e row = unstrips.memory (unstrip_others stripped debug output old new e row)

-- the two files of a file that was split are joined, where there is room for the file of both
records_of : (b name s d : List ℕ) → length s ≤ output_limit → length d ≤ output_limit → WasSplit b name s d → AreRecords s d
records_of b name s d s_small d_small was =
    let p = pair-of b name s d was s_small d_small in record { stripped = p.pair.stripped.reads; debug = p.pair.debug.reads }

parts_joinable : (b name s d : List ℕ) → length s ≤ output_limit → length d ≤ output_limit → WasSplit b name s d → length (joined s d) ≤ output_limit → AreJoinable s d name
parts_joinable b name s d s_small d_small was short = record { pair = split-matches b name s d s_small d_small was; short = short }

can_excludes : (stripped s debug d : List ℕ) (e : End) → CanJoin s d (base_name debug) → JoinFails stripped s debug d e → ⊥
can_excludes stripped s debug d e can (fails.stripped_elf {r = r} row) = elf_excludes s r can.records.stripped row
can_excludes stripped s debug d e can (fails.debug_elf {r = r} reads row) = debug_excludes d r can.records.debug row
can_excludes stripped s debug d e can (fails.no_pair {m = m} records row) = unstrip-excludes s d (base_name debug) (NotAPair m) can.are row
can_excludes stripped s debug d e can (fails.refused {r = r} records row) = unstrip-excludes s d (base_name debug) (Refused r) can.are row
can_excludes stripped s debug d e can (fails.unmatched {place = place} records row) = unstrip-excludes s d (base_name debug) (Unmatched place) can.are row

at_most : (m n : ℕ) → nat_le m n ≡ true → m ≤ n
at_most m n e = grind (arith, nat_tests)

-- a file that was read has at most as many bytes as may be read
bytes_within : (b c : List ℕ) (mode other limit : ℕ) (test : Bool) → nat_le (length b) limit ≡ test
    → (if test then found.File b mode else found.TooLarge (length b)) ≡ found.File c other → length c ≤ limit
bytes_within b c mode other limit true within is =
    let same : b ≡ c = same_bytes b c mode other is in
    subst (λ (x : List ℕ). length x ≤ limit) same (at_most (length b) limit within)
bytes_within b c mode other limit false within is = absurd cc

found_within : (n : Option Node) (below : Bool) (c : List ℕ) (other limit : ℕ) → found_of n below limit ≡ found.File c other → length c ≤ limit
found_within (Some (node.File b mode)) below c other limit is = bytes_within b c mode other limit (nat_le (length b) limit) refl is
found_within (Some (node.Link target)) below c other limit is = absurd cc
found_within None true c other limit is = absurd cc
found_within None false c other limit is = absurd cc

file_within : (t : TreeMap) (path c : List ℕ) (other : ℕ) → stands_at t path most_file ≡ found.File c other → length c ≤ output_limit
unfolding stands_at
file_within t path c other is =
    let small : length c ≤ most_file = found_within (fin.get t path) (list_any (is_below path) (fin.keys t)) c other most_file is in
    omega (arith, small)

pub parts_unopposed : (stripped debug output : List ℕ) (t : TreeMap)
    → WereParts (base_name debug) (stands_at t stripped most_file) (stands_at t debug most_file) (stands_at t output 0)
    → UnstripUnopposed stripped debug (stands_at t stripped most_file) (stands_at t debug most_file) (stands_at t output 0)
parts_unopposed stripped debug output t were =
    let s_small : length were.s ≤ output_limit = file_within t stripped were.s were.mode were.file in
    let d_small : length were.d ≤ output_limit = file_within t debug were.d were.other were.debug_file in
    let can : CanJoin were.s were.d (base_name debug) = record {
      records = records_of were.b (base_name debug) were.s were.d s_small d_small were.split;
      are = parts_joinable were.b (base_name debug) were.s were.d s_small d_small were.split were.short;
    } in
    record {
      s = were.s;
      d = were.d;
      mode = were.mode;
      other = were.other;
      file = were.file;
      debug_file = were.debug_file;
      unrefused = λ e. can_excludes stripped were.s debug were.d e can;
      free = were.free;
    }
