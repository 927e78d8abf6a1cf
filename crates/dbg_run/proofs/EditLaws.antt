-- Laws on the steps of an edit.
use Rattle.std.proofs.Common.{◌≡◌, ◌⊎◌, inl, inr, ℕ, true, List, [], ◌∷◌, Some, refl, sym, ap, ◌∙◌, subst, arith}
use Rattle.std.specs.Prelude.{Option, is_some, option_map}
use Rattle.job_types.specs.Settings.{Settings}
use Rattle.dbg_job.specs.EditedFiles.{EditedFails, IsEditable, IsEdited}
use Rattle.dbg_job.proofs.EditedLaws.{editable-excludes}
use Rattle.dw_base.specs.declared.fault.Refusal.{Refusal}
use Rattle.file_tree.specs.declared.node.Found.{Found}
use Rattle.file_tree.specs.declared.node.Found.TheVariants as found
use Rattle.file_tree.specs.declared.node.Node.TheVariants as node
use Rattle.file_tree.specs.Causes.{Calm, OnlyAt, Stood}
use Rattle.file_tree.specs.Moments.{LooksOnly, adds_all}
use Rattle.file_tree.specs.Seen.{Seen, Past, Happened, now_of}
use Rattle.file_tree.specs.Trees.{TreeMap, stands_at, with_node}
use Rattle.dbg_ends.specs.declared.end.End.{End}
use Rattle.dbg_ends.specs.declared.end.End.TheVariants as end
use Rattle.dbg_ends.specs.Due.{IsCut, IsFree, OutputDue}
use Rattle.dbg_ends.specs.Due.IsCut.{tree_fault, no_memory}
use Rattle.dbg_ends.specs.Ends.{status_of}
use Rattle.dbg_ends.specs.Steps.{InputEnds, LooksThen, OutputFree, OutputTaken, OutputEnds, OutputsEnd, OnlyAtBoth, all_stored, file_put}
use Rattle.dbg_ends.specs.Steps.{InputEnds as inputs, OutputTaken as outputs, OutputEnds as written, OutputsEnd as both_written}
use Rattle.dbg_ends.proofs.LookLaws.{looks-then}
use Rattle.dbg_run.specs.Edits.{EditDone, EditEnds, EditUnopposed, IsListText, Keeps, ListedDone, ListedEnds, ListedUnopposed, RewriteEnds, list_mode}
use Rattle.dbg_run.specs.Edits.{EditEnds as edits, ListedEnds as listed, RewriteEnds as rewrites}

-- where a file may be put, what comes after is due
pub free_due : (there : Found) (n : ℕ) (P : Type 0) → IsFree there → P → OutputDue there n P
free_due found.Absent n P free due = due
free_due found.Folder n P free due = absurd free
free_due (found.File bytes mode) n P free due = due
free_due (found.Link target) n P free due = absurd free
free_due (found.TooLarge size) n P free due = due

-- a file that is refused isn't taken
pub not_accepted : (s : Settings) (b : List ℕ) (r : Refusal) → EditedFails s b r → IsEditable s b → ⊥
not_accepted s b r fails ok = editable-excludes s b r ok fails

-- want of memory ends a rewriting, too
pub rewrite_wants : (path : List ℕ) (s : Settings) (b : List ℕ) (e : End) → e ≡ end.NoMemory → RewriteEnds path s b e
rewrite_wants path s b e is = subst (RewriteEnds path s b) (sym is) rewrites.memory

-- what was free in a tree that is as it was is free in it
pub free_before : (old mid : Seen) (path : List ℕ) → Calm old mid → OutputFree (now_of mid) path → OutputFree (now_of old) path
free_before old mid path calm free = record { is = λ t tells. free.is t (calm.now ∙ tells) }

-- a tree in which two steps change nothing
pub calm_then : (old mid new : Seen) → Calm old mid → Calm mid new → Calm old new
calm_then old mid new one two = record { now = two.now ∙ one.now; later = omega (arith, one.later, two.later) }

-- an edit that ends at the rewriting of its input
pub edit_rewriting : (input output : List ℕ) (s : Settings) (limit : ℕ) (old mid new : Seen) (b : List ℕ) (mode : ℕ) (e : End)
    → Stood (now_of old) input limit (found.File b mode) → Calm old mid → OutputFree (now_of mid) output → Calm mid new → RewriteEnds input s b e
    → EditEnds input output s limit old new e
edit_rewriting input output s limit old mid new b mode e read calm free still row =
    edits.rewriting read (free_before old mid output calm free) row (calm_then old mid new calm still)

-- and at the writing of its output
pub edit_writing : (input output : List ℕ) (s : Settings) (limit : ℕ) (old mid far new : Seen) (b : List ℕ) (mode : ℕ) (e : End)
    → Stood (now_of old) input limit (found.File b mode) → Calm old mid → OutputFree (now_of mid) output → Calm mid far → IsEditable s b
    → OutputEnds output far new e → EditEnds input output s limit old new e
edit_writing input output s limit old mid far new b mode e read calm free still accepted row =
    edits.writing read (free_before old mid output calm free) accepted (calm_then old mid far calm still) row

-- two spans of looks, and then other calls
pub looks-and : (old mid far new : Past) (calls : List Happened) → LooksOnly old mid → LooksOnly mid far → new ≡ adds_all far calls → LooksThen old new calls
looks-and old mid far new calls first then_ made = record { mid = far; looks = looks-then old mid far first then_; behind = made }

-- an edit is done where each of its steps is
pub edit_done : (input output : List ℕ) (s : Settings) (limit : ℕ) (old mid far new : Seen) (b out : List ℕ) (mode : ℕ)
    → Stood (now_of old) input limit (found.File b mode) → Calm old mid → mid.tells ≡ old.tells → OutputFree (now_of mid) output → Calm mid far
    → far.tells ≡ mid.tells → IsEditable s b → ((r : Refusal) → EditedFails s b r → ⊥) → IsEdited s b out → ((o : List ℕ) → IsEdited s b o → o ≡ out)
    → Keeps s.maps b out → now_of new ≡ option_map (with_node output (node.File out mode)) (now_of far) → (old.tells ≡ true → LooksOnly old.past mid.past) → (mid.tells ≡ true → LooksOnly mid.past far.past)
    → (far.tells ≡ true → new.past ≡ adds_all far.past (file_put output out mode ∷ all_stored ∷ [])) → EditDone input output s limit old new
edit_done input output s limit old mid far new b out mode read calm tells free still tell accepted none is only keeps written first then_ made = record {
  b = b;
  mode = mode;
  out = out;
  read = read;
  free = free_before old mid output calm free;
  accepted = accepted;
  unrefused = none;
  is = is;
  only = only;
  keeps = keeps;
  written = written ∙ ap (option_map (with_node output (node.File out mode))) (still.now ∙ calm.now);
  calls = λ known. looks-and old.past mid.past far.past new.past _ (first known) (then_ (tells ∙ known)) (made (tell ∙ tells ∙ known));
}

-- and so is one with a list
pub listed_done : (input output list : List ℕ) (s : Settings) (limit : ℕ) (old mid far last new : Seen) (b out text : List ℕ) (mode : ℕ)
    → Stood (now_of old) input limit (found.File b mode) → Calm old mid → mid.tells ≡ old.tells → OutputFree (now_of mid) output → Calm mid far
    → far.tells ≡ mid.tells → OutputFree (now_of far) list → Calm far last → last.tells ≡ far.tells → IsEditable s b → ((r : Refusal) → EditedFails s b r → ⊥) → IsEdited s b out
    → ((o : List ℕ) → IsEdited s b o → o ≡ out) → Keeps s.maps b out → IsListText s.maps b text
    → now_of new ≡ option_map (with_node list (node.File text list_mode)) (option_map (with_node output (node.File out mode)) (now_of last))
    → (old.tells ≡ true → LooksOnly old.past mid.past) → (mid.tells ≡ true → LooksOnly mid.past far.past) → (far.tells ≡ true → LooksOnly far.past last.past)
    → (last.tells ≡ true → new.past ≡ adds_all last.past (file_put output out mode ∷ file_put list text list_mode ∷ all_stored ∷ []))
    → ListedDone input output list s limit old new
listed_done input output list s limit old mid far last new b out text mode read calm tells free still tell also rest told accepted none is only keeps listed written first then_ last_ made = record {
  b = b;
  mode = mode;
  out = out;
  text = text;
  read = read;
  free = free_before old mid output calm free;
  list_free = free_before old mid list calm (free_before mid far list still also);
  accepted = accepted;
  unrefused = none;
  is = is;
  only = only;
  keeps = keeps;
  listed = listed;
  written = written
      ∙ ap (λ (x : Option TreeMap). option_map (with_node list (node.File text list_mode)) (option_map (with_node output (node.File out mode)) x)) (rest.now ∙ still.now ∙ calm.now);
  calls = λ known.
      looks-and old.past far.past last.past new.past _ (looks-then old.past mid.past far.past (first known) (then_ (tells ∙ known))) (last_ (tell ∙ tells ∙ known))
      (made (told ∙ tell ∙ tells ∙ known));
}

-- one that ends where no file may be put at the list, at the rewriting or for want of memory for the list, or at the writing
pub listed_taking : (input output list : List ℕ) (s : Settings) (limit : ℕ) (old mid far last : Seen) (b : List ℕ) (mode : ℕ) (e : End)
    → Stood (now_of old) input limit (found.File b mode) → Calm old mid → OutputFree (now_of mid) output → Calm mid far → OutputTaken list far last e
    → Calm far last → ListedEnds input output list s limit old last e
listed_taking input output list s limit old mid far last b mode e read calm free still row rest =
    listed.list_taking read (free_before old mid output calm free) (calm_then old mid far calm still) row rest

pub listed_rewriting : (input output list : List ℕ) (s : Settings) (limit : ℕ) (old mid far last : Seen) (b : List ℕ) (mode : ℕ) (e : End)
    → Stood (now_of old) input limit (found.File b mode) → Calm old mid → OutputFree (now_of mid) output → Calm mid far → OutputFree (now_of far) list
    → Calm far last → RewriteEnds input s b e → ListedEnds input output list s limit old last e
listed_rewriting input output list s limit old mid far last b mode e read calm free still also rest row =
    listed.rewriting read (free_before old mid output calm free) (free_before old mid list calm (free_before mid far list still also)) row
    (calm_then old mid last calm (calm_then mid far last still rest))

pub listed_writing : (input output list : List ℕ) (s : Settings) (limit : ℕ) (old mid far last new : Seen) (b : List ℕ) (mode : ℕ) (e : End)
    → Stood (now_of old) input limit (found.File b mode) → Calm old mid → OutputFree (now_of mid) output → Calm mid far → OutputFree (now_of far) list
    → Calm far last → IsEditable s b → OutputsEnd output list last new e → ListedEnds input output list s limit old new e
listed_writing input output list s limit old mid far last new b mode e read calm free still also rest accepted row =
    listed.writing read (free_before old mid output calm free) (free_before old mid list calm (free_before mid far list still also)) accepted
    (calm_then old mid last calm (calm_then mid far last still rest)) row

-- where nothing is against an edit, it ends with no refusal
pub input_completes : (input : List ℕ) (limit : ℕ) (old new : Seen) (e : End) (t : TreeMap) (b : List ℕ) (mode : ℕ) → now_of old ≡ Some t
    → stands_at t input limit ≡ found.File b mode → InputEnds input limit old new e → IsCut (status_of e)
input_completes input limit old new e t b mode tells file (inputs.absent stood) = let no : found.Absent ≡ found.File b mode = sym (stood.is t tells) ∙ file in absurd cc
input_completes input limit old new e t b mode tells file (inputs.folder stood) = let no : found.Folder ≡ found.File b mode = sym (stood.is t tells) ∙ file in absurd cc
input_completes input limit old new e t b mode tells file (inputs.link {target = target} stood) =
    let no : found.Link target ≡ found.File b mode = sym (stood.is t tells) ∙ file in absurd cc
input_completes input limit old new e t b mode tells file (inputs.large {size = size} above stood) =
    let no : found.TooLarge size ≡ found.File b mode = sym (stood.is t tells) ∙ file in absurd cc
input_completes input limit old new e t b mode tells file (inputs.failed rose) = tree_fault refl
input_completes input limit old new e t b mode tells file inputs.memory = no_memory refl

pub output_completes : (output : List ℕ) (old new : Seen) (e : End) (t : TreeMap) → now_of old ≡ Some t → IsFree (stands_at t output 0) → OutputTaken output old new e
    → IsCut (status_of e)
output_completes output old new e t tells free (outputs.folder stood) = absurd (subst IsFree (stood.is t tells) free)
output_completes output old new e t tells free (outputs.link stood) = absurd (subst IsFree (stood.is t tells) free)
output_completes output old new e t tells free (outputs.failed rose) = tree_fault refl
output_completes output old new e t tells free outputs.memory = no_memory refl

-- a file is one of the same bytes
pub same_bytes : (b c : List ℕ) (n k : ℕ) → found.File b n ≡ found.File c k → b ≡ c
same_bytes b c n k e = cc

rewrite_completes : (path : List ℕ) (s : Settings) (b : List ℕ) (e : End) → ((r : Refusal) → EditedFails s b r → ⊥) → RewriteEnds path s b e → IsCut (status_of e)
rewrite_completes path s b e none (rewrites.refused fails) = absurd (none _ fails)
rewrite_completes path s b e none rewrites.memory = no_memory refl

pub written_completes : (path : List ℕ) (old new : Seen) (e : End) → OutputEnds path old new e → IsCut (status_of e)
written_completes path old new e (written.failed rose at) = tree_fault refl
written_completes path old new e (written.memory at) = no_memory refl

pub edit_completes : (input output : List ℕ) (s : Settings) (limit : ℕ) (old new : Seen) (e : End) (t : TreeMap) → now_of old ≡ Some t
    → EditUnopposed s (stands_at t input limit) (stands_at t output 0) → EditEnds input output s limit old new e
    → (status_of e ≡ 0) ⊎ IsCut (status_of e)
edit_completes input output s limit old new e t tells is (edits.reading row calm) = inr (input_completes input limit old new e t is.b is.mode tells is.file row)
edit_completes input output s limit old new e t tells is (edits.taking {mid = mid} stood calm row still) =
    inr (output_completes output mid new e t (calm.now ∙ tells) is.free row)
edit_completes input output s limit old new e t tells is (edits.rewriting {b = b} {mode = mode} stood free row calm) =
    let same : is.b ≡ b = same_bytes is.b b is.mode mode (sym is.file ∙ stood.is t tells) in
    inr (rewrite_completes input s b e (subst (λ (x : List ℕ). (r : Refusal) → EditedFails s x r → ⊥) same is.unrefused) row)
edit_completes input output s limit old new e t tells is (edits.writing {mid = mid} stood free ok calm row) = inr (written_completes output mid new e row)
edit_completes input output s limit old new e t tells is (edits.memory at) = inr (no_memory refl)
edit_completes input output s limit old new e t tells is (edits.done d) = inl refl

pub both_completes : (path beside : List ℕ) (old new : Seen) (e : End) → OutputsEnd path beside old new e → IsCut (status_of e)
both_completes path beside old new e (both_written.failed rose at) = tree_fault refl
both_completes path beside old new e (both_written.memory at) = no_memory refl

pub listed_completes : (input output list : List ℕ) (s : Settings) (limit : ℕ) (old new : Seen) (e : End) (t : TreeMap) → now_of old ≡ Some t
    → ListedUnopposed s (stands_at t input limit) (stands_at t output 0) (stands_at t list 0) → ListedEnds input output list s limit old new e
    → (status_of e ≡ 0) ⊎ IsCut (status_of e)
listed_completes input output list s limit old new e t tells is (listed.reading row calm) =
    inr (input_completes input limit old new e t is.edit.b is.edit.mode tells is.edit.file row)
listed_completes input output list s limit old new e t tells is (listed.taking {mid = mid} stood calm row still) =
    inr (output_completes output mid new e t (calm.now ∙ tells) is.edit.free row)
listed_completes input output list s limit old new e t tells is (listed.list_taking {mid = mid} stood free calm row still) =
    inr (output_completes list mid new e t (calm.now ∙ tells) is.free row)
listed_completes input output list s limit old new e t tells is (listed.rewriting {b = b} {mode = mode} stood free list_free row calm) =
    let same : is.edit.b ≡ b = same_bytes is.edit.b b is.edit.mode mode (sym is.edit.file ∙ stood.is t tells) in
    inr (rewrite_completes input s b e (subst (λ (x : List ℕ). (r : Refusal) → EditedFails s x r → ⊥) same is.edit.unrefused) row)
listed_completes input output list s limit old new e t tells is (listed.writing {mid = mid} stood free list_free ok calm row) =
    inr (both_completes output list mid new e row)
listed_completes input output list s limit old new e t tells is (listed.memory at) = inr (no_memory refl)
listed_completes input output list s limit old new e t tells is (listed.done d) = inl refl

-- a map that is as it was differs at no path
pub same_one : (path : List ℕ) (tree : Option TreeMap) → OnlyAt path tree tree
same_one path tree = record {
  tells = refl;
  others = λ t u q of_old of_new other. let same : Some u ≡ Some t = sym of_new ∙ of_old in cc;
}

-- a map that is as it was differs nowhere
pub same-at : (path : List ℕ) (old new : Option TreeMap) → new ≡ old → OnlyAt path old new
same-at path old new e = record { tells = ap is_some e; others = λ t u q of_old of_new other. let same : Some u ≡ Some t = sym of_new ∙ (e ∙ of_old) in cc }

pub calm-at : (path : List ℕ) (old mid : Seen) (new : Option TreeMap) → Calm old mid → OnlyAt path (now_of mid) new → OnlyAt path (now_of old) new
calm-at path old mid new calm at = let P : Option TreeMap → Type 0 = λ x. OnlyAt path x new in subst P calm.now at

-- a map that is as it was differs at no path beside two
pub same_both : (path beside : List ℕ) (old new : Option TreeMap) → new ≡ old → OnlyAtBoth path beside old new
same_both path beside old new e = record {
  tells = ap is_some e;
  others = λ t u q of_old of_new other away. let same : Some u ≡ Some t = sym of_new ∙ (e ∙ of_old) in cc;
}

pub calm_both : (path beside : List ℕ) (old mid : Seen) (new : Option TreeMap) → Calm old mid → OnlyAtBoth path beside (now_of mid) new → OnlyAtBoth path beside (now_of old) new
calm_both path beside old mid new calm at = let P : Option TreeMap → Type 0 = λ x. OnlyAtBoth path beside x new in subst P calm.now at
