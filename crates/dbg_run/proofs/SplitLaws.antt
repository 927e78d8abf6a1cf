-- Laws on the steps of a split.
use Rattle.std.proofs.Common.{◌≡◌, ◌≢◌, ◌⊎◌, inl, inr, ℕ, true, false, List, [], ◌∷◌, Some, refl, sym, ap, ◌∙◌, subst}
use Rattle.std.specs.Prelude.{Option, option_map}
use Rattle.dw_base.specs.Refusals.{Blames}
use Rattle.dw_base.specs.Texts.{has_nul}
use Rattle.dw_base.specs.declared.fault.Fault.{Fault}
use Rattle.dw_base.specs.declared.fault.Refusal.{Refusal}
use Rattle.dw_meaning.specs.Loaded.{LoadedKept}
use Rattle.dbg_split.specs.DebugFile.{debug_file}
use Rattle.dbg_split.specs.PairMeanings.{MeansAsOne, ReadApart}
use Rattle.dbg_split.specs.PairViews.{JoinsTo}
use Rattle.dbg_split.specs.SplitFails.{SplitFails}
use Rattle.dbg_split.specs.StrippedFile.{stripped_file}
use Rattle.file_tree.specs.declared.node.Found.TheVariants as found
use Rattle.file_tree.specs.declared.node.Node.TheVariants as node
use Rattle.file_tree.specs.Causes.{Calm, Stood}
use Rattle.file_tree.specs.Moments.{LooksOnly, adds_all}
use Rattle.file_tree.specs.Seen.{Seen, now_of}
use Rattle.file_tree.specs.Trees.{TreeMap, stands_at, with_node}
use Rattle.job_types.specs.Modes.{not_executable}
use Rattle.job_types.specs.Settings.{most_file}
use Rattle.dbg_ends.specs.declared.end.End.{End}
use Rattle.dbg_ends.specs.declared.end.End.TheVariants as end
use Rattle.dbg_ends.specs.Due.{Where, IsCut}
use Rattle.dbg_ends.specs.Due.IsCut.{no_memory}
use Rattle.dbg_ends.specs.Due.Where.{elsewhere}
use Rattle.dbg_ends.specs.Ends.{status_of}
use Rattle.dbg_ends.specs.Steps.{BlamesAt, FaultEnds, OnlyAtBoth, OutputFree, OutputTaken, OutputsEnd, all_stored, file_put}
use Rattle.dbg_ends.specs.Steps.{BlamesAt as blames, OutputsEnd as both_written}
use Rattle.dbg_ends.proofs.LookLaws.{looks-then}
use Rattle.dbg_ends.proofs.StepLaws.{blames_at}
use Rattle.dbg_run.specs.Shows.{base_name}
use Rattle.dbg_run.specs.Splits.{IsSplittable, Parts, SplitDone, SplitEnds, SplitUnopposed}
use Rattle.dbg_run.specs.Splits.{Parts as parts, SplitEnds as splits}
use Rattle.dw_base.specs.FileViews.{view_of}
use Rattle.dw_view.specs.PairViews.{pair_view}
use Rattle.dw_view.specs.Pairs.{IsPaired}
use Rattle.dbg_show.specs.Shows.{IsShown}
use Rattle.file_tree.specs.Heard.{Heard}
use Rattle.dbg_run.proofs.ShowLaws.{shows_alike}
use Rattle.dbg_run.proofs.EditLaws.{both_completes, calm_both, calm_then, free_before, input_completes, looks-and, output_completes, same_both, same_bytes}

-- ### The two files

-- where nothing changed, nothing but the two paths changed
pub both_same : (path beside : List ℕ) (tree : Option TreeMap) → OnlyAtBoth path beside tree tree
both_same path beside tree = same_both path beside tree tree refl

-- a file that no condition refuses can be split
pub is_splittable : (b name x n : List ℕ) → x ≡ b → n ≡ name → ((r : Refusal) → SplitFails x n r → ⊥) → IsSplittable b name
is_splittable b name x n of_bytes of_name none = record { unrefused = subst (λ (m : List ℕ). (r : Refusal) → SplitFails b m r → ⊥) of_name (subst (λ (y : List ℕ). (r : Refusal) → SplitFails y n r → ⊥) of_bytes none) }

pub are_parts : (b name x n s d : List ℕ) → x ≡ b → n ≡ name → JoinsTo x d s → MeansAsOne x d s → ReadApart x d s
    → (has_nul n ≡ false → IsPaired s d n) → has_nul name ≡ false → LoadedKept x s → Parts b name s d
are_parts b name x n s d of_bytes of_name joins means read paired plain loaded =
    subst (λ (m : List ℕ). Parts b m s d) of_name (subst (λ (y : List ℕ). Parts y n s d) of_bytes (parts.all joins means read (paired (ap has_nul of_name ∙ plain)) loaded))

-- what a fault of the splitting is blamed for, its end is
pub split_blames : (path b name x n : List ℕ) (f : Fault) (e : End) → x ≡ b → n ≡ name → Blames (SplitFails x n) f → FaultEnds path f e → BlamesAt (SplitFails b name) path e
split_blames path b name x n f e of_bytes of_name row end =
    subst (λ (m : List ℕ). BlamesAt (SplitFails b m) path e) of_name
    (subst (λ (y : List ℕ). BlamesAt (SplitFails y n) path e) of_bytes (blames_at (SplitFails x n) path f e row end))

-- the status of a file that is refused
pub blames_due : (path b name : List ℕ) (e : End) → BlamesAt (SplitFails b name) path e
    → Where (IsSplittable b name) (status_of e ≡ 0) (status_of e ≡ 3) ⊎ IsCut (status_of e)
blames_due path b name e (blames.refused {r = r} fails) = inl (elsewhere (λ is. is.unrefused r fails) refl)
blames_due path b name e blames.memory = inr (no_memory refl)

-- a split that ends where no file may be put at the debug file's path
pub split_debug_taking : (input stripped debug : List ℕ) (old mid far last : Seen) (b : List ℕ) (mode : ℕ) (e : End) → Stood (now_of old) input most_file (found.File b mode)
    → Calm old mid → OutputFree (now_of mid) stripped → Calm mid far → OutputTaken debug far last e → Calm far last → SplitEnds input stripped debug old last e
split_debug_taking input stripped debug old mid far last b mode e read calm free still row rest =
    splits.debug_taking read (free_before old mid stripped calm free) (calm_then old mid far calm still) row rest

-- at the splitting
pub split_parting : (input stripped debug : List ℕ) (old mid far last : Seen) (b : List ℕ) (mode : ℕ) (e : End) → Stood (now_of old) input most_file (found.File b mode)
    → Calm old mid → OutputFree (now_of mid) stripped → Calm mid far → OutputFree (now_of far) debug → Calm far last
    → BlamesAt (SplitFails b (base_name debug)) input e → SplitEnds input stripped debug old last e
split_parting input stripped debug old mid far last b mode e read calm free still also rest row =
    splits.splitting read (free_before old mid stripped calm free) (free_before old mid debug calm (free_before mid far debug still also)) row
    (calm_then old mid last calm (calm_then mid far last still rest))

-- and at the writing
pub split_writing : (input stripped debug : List ℕ) (old mid far last new : Seen) (b : List ℕ) (mode : ℕ) (e : End) → Stood (now_of old) input most_file (found.File b mode)
    → Calm old mid → OutputFree (now_of mid) stripped → Calm mid far → OutputFree (now_of far) debug → Calm far last → IsSplittable b (base_name debug)
    → OutputsEnd debug stripped last new e → SplitEnds input stripped debug old new e
split_writing input stripped debug old mid far last new b mode e read calm free still also rest ok row =
    splits.writing read (free_before old mid stripped calm free) (free_before old mid debug calm (free_before mid far debug still also)) ok
    (calm_then old mid last calm (calm_then mid far last still rest)) row

-- ### The whole

-- a split is done where each of its steps is
pub split_done : (input stripped debug : List ℕ) (old mid far last new : Seen) (b s d : List ℕ) (mode other : ℕ)
    → Stood (now_of old) input most_file (found.File b mode) → Calm old mid → mid.tells ≡ old.tells → OutputFree (now_of mid) stripped → Calm mid far
    → far.tells ≡ mid.tells → OutputFree (now_of far) debug → Calm far last → last.tells ≡ far.tells → IsSplittable b (base_name debug)
    → s ≡ stripped_file b (base_name debug) → d ≡ debug_file b → other ≡ not_executable mode → Parts b (base_name debug) s d
    → now_of new ≡ option_map (with_node stripped (node.File s mode)) (option_map (with_node debug (node.File d other)) (now_of last))
    → (old.tells ≡ true → LooksOnly old.past mid.past) → (mid.tells ≡ true → LooksOnly mid.past far.past) → (far.tells ≡ true → LooksOnly far.past last.past)
    → (last.tells ≡ true → new.past ≡ adds_all last.past (file_put debug d other ∷ file_put stripped s mode ∷ all_stored ∷ []))
    → SplitDone input stripped debug old new
split_done input stripped debug old mid far last new b s d mode other read calm tells free still tell also rest told splittable s_is d_is mode_is both written first then_ last_ made =
    record {
      b = b;
      mode = mode;
      read = read;
      stripped_free = free_before old mid stripped calm free;
      debug_free = free_before old mid debug calm (free_before mid far debug still also);
      splittable = splittable;
      parts = subst (λ (x : List ℕ). Parts b (base_name debug) x (debug_file b)) s_is (subst (λ (y : List ℕ). Parts b (base_name debug) s y) d_is both);
      written = written
          ∙ ap (λ (x : Option TreeMap). option_map (with_node stripped (node.File s mode)) (option_map (with_node debug (node.File d other)) x)) (rest.now ∙ still.now ∙ calm.now)
          ∙ ap (λ (x : List ℕ). option_map (with_node stripped (node.File x mode)) (option_map (with_node debug (node.File d other)) (now_of old))) s_is
          ∙ ap (λ (y : List ℕ). option_map (with_node stripped (node.File (stripped_file b (base_name debug)) mode)) (option_map (with_node debug (node.File y other)) (now_of old))) d_is
          ∙ ap (λ (m : ℕ). option_map (with_node stripped (node.File (stripped_file b (base_name debug)) mode)) (option_map (with_node debug (node.File (debug_file b) m)) (now_of old))) mode_is;
      calls = λ known.
          looks-and old.past far.past last.past new.past _ (looks-then old.past mid.past far.past (first known) (then_ (tells ∙ known))) (last_ (tell ∙ tells ∙ known))
          (made (told ∙ tell ∙ tells ∙ known)
          ∙ ap (λ (x : List ℕ). adds_all last.past (file_put debug d other ∷ file_put stripped x mode ∷ all_stored ∷ [])) s_is
          ∙ ap (λ (y : List ℕ). adds_all last.past (file_put debug y other ∷ file_put stripped (stripped_file b (base_name debug)) mode ∷ all_stored ∷ [])) d_is
          ∙ ap (λ (m : ℕ). adds_all last.past (file_put debug (debug_file b) m ∷ file_put stripped (stripped_file b (base_name debug)) mode ∷ all_stored ∷ [])) mode_is);
    }

blames_complete : (path b name : List ℕ) (e : End) → ((r : Refusal) → SplitFails b name r → ⊥) → BlamesAt (SplitFails b name) path e → IsCut (status_of e)
blames_complete path b name e none (blames.refused {r = r} fails) = absurd (none r fails)
blames_complete path b name e none blames.memory = no_memory refl

-- where nothing is against a split, it is done or cut
pub split_completes : (input stripped debug : List ℕ) (old new : Seen) (e : End) (t : TreeMap) → now_of old ≡ Some t
    → SplitUnopposed (base_name debug) (stands_at t input most_file) (stands_at t stripped 0) (stands_at t debug 0) → SplitEnds input stripped debug old new e
    → (status_of e ≡ 0) ⊎ IsCut (status_of e)
split_completes input stripped debug old new e t tells is (splits.reading row calm) = inr (input_completes input most_file old new e t is.b is.mode tells is.file row)
split_completes input stripped debug old new e t tells is (splits.taking {mid = mid} stood calm row still) =
    inr (output_completes stripped mid new e t (calm.now ∙ tells) is.stripped_free row)
split_completes input stripped debug old new e t tells is (splits.debug_taking {mid = mid} stood free calm row still) =
    inr (output_completes debug mid new e t (calm.now ∙ tells) is.debug_free row)
split_completes input stripped debug old new e t tells is (splits.splitting {b = b} {mode = mode} stood free also row calm) =
    let same : is.b ≡ b = same_bytes is.b b is.mode mode (sym is.file ∙ stood.is t tells) in
    inr (blames_complete input b (base_name debug) e (subst (λ (x : List ℕ). (r : Refusal) → SplitFails x (base_name debug) r → ⊥) same is.unrefused) row)
split_completes input stripped debug old new e t tells is (splits.writing {mid = mid} stood free also ok calm row) =
    inr (both_completes debug stripped mid new e row)
split_completes input stripped debug old new e t tells is (splits.memory at) = inr (no_memory refl)
split_completes input stripped debug old new e t tells is (splits.done d) = inl refl

-- where a split isn't done, it may as well want memory
pub split_memory : (input stripped debug : List ℕ) (old new : Seen) (e : End) → SplitEnds input stripped debug old new e → e ≢ end.Done
    → SplitEnds input stripped debug old new end.NoMemory
split_memory input stripped debug old new e (splits.reading row calm) undone = splits.memory (same_both debug stripped _ _ calm.now)
split_memory input stripped debug old new e (splits.taking stood calm row still) undone = splits.memory (same_both debug stripped _ _ (still.now ∙ calm.now))
split_memory input stripped debug old new e (splits.debug_taking stood free calm row still) undone = splits.memory (same_both debug stripped _ _ (still.now ∙ calm.now))
split_memory input stripped debug old new e (splits.splitting stood free also row calm) undone = splits.memory (same_both debug stripped _ _ calm.now)
split_memory input stripped debug old new e (splits.writing {mid = mid} stood free also ok calm (both_written.failed rose at)) undone = splits.memory (calm_both debug stripped old mid _ calm at)
split_memory input stripped debug old new e (splits.writing {mid = mid} stood free also ok calm (both_written.memory at)) undone = splits.memory (calm_both debug stripped old mid _ calm at)
split_memory input stripped debug old new e (splits.memory at) undone = splits.memory at
split_memory input stripped debug old new e (splits.done d) undone = absurd (undone refl)

-- ### What is shown

-- the stripped file and the debug file are shown together as the file is
pub parts_shown : (b name s d : List ℕ) (heard said : Heard) → Parts b name s d → IsShown (view_of b) heard said → IsShown (pair_view d s) heard said
parts_shown b name s d heard said (parts.all joins means read paired loaded) shown = shows_alike (view_of b) (pair_view d s) heard said (sym means.same_data) (sym means.same_moving) shown
