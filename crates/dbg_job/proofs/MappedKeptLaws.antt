-- The output of a file that is taken reads back with the bodies by which it is defined. So it means what the file means, with each source path
-- mapped, and what is loaded of it is as it was.
use Rattle.std.proofs.Common.{Bool, true, false, ◌≡◌, ◌≢◌, ℕ, ◌<◌, ◌==◌, not, List, [], ◌∷◌, ◌++◌, if◌then◌else◌, Option, Some, None, refl, sym, ap, ◌∙◌, subst, arith}
use Rattle.std.proofs.lemmas.Bool.{and_parts, true≢false}
use Rattle.std.proofs.lemmas.Bool.Decides.{nat_tests}
use Rattle.dw_base.specs.DebugData.{DataReadings}
use Rattle.dw_base.specs.Elf.{contents_of, is_empty_kind, nth_section, section_count}
use Rattle.dw_base.specs.FileViews.{view_of}
use Rattle.dw_base.specs.Layout.{is_loaded_kind, with_bodies}
use Rattle.dw_base.specs.LayoutReads.{ReadsBack}
use Rattle.dw_base.specs.Notes.{build_id_of}
use Rattle.dw_base.specs.Paths.{PathMap}
use Rattle.dw_base.proofs.ReadsAgainLaws.{reads_back}
use Rattle.dw_meaning.specs.DataOutput.{Body, DataReads, new_bodies}
use Rattle.dw_meaning.specs.FileMeanings.{MeaningKept, file_body, file_data, output_of}
use Rattle.dw_meaning.specs.Leavings.{NoLeavings}
use Rattle.dw_meaning.specs.Loaded.{LoadedKept}
use Rattle.dw_meaning.specs.RelocatedBodies.{new_cells}
use Rattle.dw_meaning.proofs.DataOneLaws.{data-one}
use Rattle.dw_meaning.proofs.FileBackLaws.{build_id-back}
use Rattle.dw_meaning.proofs.FileKeptLaws.{CanMap, file-back}
use Rattle.dw_meaning.proofs.FileMeaningLaws.{file-meaning}
use Rattle.dw_meaning.proofs.LayoutRowLaws.{layout_excludes}
use Rattle.dw_meaning.proofs.LeftNoneLaws.{no-leavings}
use Rattle.dw_meaning.proofs.LoadedLaws.{loaded-kept, relocatable-kept}
use Rattle.dw_rewrite.specs.Bodies.{held_bodies, moved_numbers}
use Rattle.dw_rewrite.specs.Rewritten.{AllStand, Stands, bytes_given, bytes_or, is_of}
use Rattle.dw_rewrite.proofs.BodyLaws.{bodies-stand}
use Rattle.dw_rewrite.proofs.FileBodyLaws.{alloc-stays, bodies-same}
use Rattle.dw_rewrite.proofs.HeldBodyLaws.{held-stand, stand-append}
use Rattle.dw_rewrite.proofs.MovedNumberLaws.{are-moved}
use Rattle.dbg_job.specs.EditedFiles.{IsMapped}
use Rattle.dbg_job.proofs.OutputLaws.{can-map, no-contents, output-small}

-- the new bodies of sections: of those that are read, and of those that hold relocations of these
abbrev made_bodies : PathMap → List ℕ → DataReadings → List Body
made_bodies m b r = new_bodies m (file_data b) r ++ held_bodies b (new_cells m (file_data b) r) (moved_numbers (view_of b) r)

bodies-stand_all : (m : PathMap) (b : List ℕ) (r : DataReadings) → DataReads (file_data b) r → AllStand b (made_bodies m b r)
bodies-stand_all m b r reads =
    stand-append b (new_bodies m (file_data b) r) (held_bodies b (new_cells m (file_data b) r) (moved_numbers (view_of b) r)) (bodies-stand m b r reads)
    (held-stand b (new_cells m (file_data b) r) (moved_numbers (view_of b) r))

-- none is given for a section without bytes
full-only : (b : List ℕ) (x : Body) (i : ℕ) → Stands b x → is_of x i ≡ true → is_empty_kind (nth_section b i) ≡ true → ⊥
full-only b x i stands is empty =
    let parts = and_parts (not (x.number == 0)) (i == x.number) is in
    let same : i ≡ x.number = grind (arith, nat_tests, parts.1) in
    let full : is_empty_kind (nth_section b x.number) ≡ false = stands.full (not_zero (x.number == 0) refl parts.0) in
    true≢false (sym empty ∙ ap (λ (k : ℕ). is_empty_kind (nth_section b k)) same ∙ full)
  where
    not_zero : (t : Bool) → (x.number == 0) ≡ t → not t ≡ true → x.number ≢ 0
    not_zero true e some = absurd cc
    not_zero false e some = grind (arith, nat_tests, e)

none-given : (b : List ℕ) (xs : List Body) (i : ℕ) → AllStand b xs → is_empty_kind (nth_section b i) ≡ true → bytes_given xs i ≡ None
none-given b [] i stand empty = refl
none-given b (x ∷ xs) i stand empty = by_number (is_of x i) refl (none-given b xs i stand.1 empty)
  where
    by_number : (t : Bool) → is_of x i ≡ t → bytes_given xs i ≡ None → (if t then Some x.bytes else bytes_given xs i) ≡ None
    by_number true e rest = absurd (full-only b x i stand.0 e empty)
    by_number false e rest = rest

-- so such a section gets no body
no-body : (m : PathMap) (b : List ℕ) (r : DataReadings) (i : ℕ) → CanMap m b r → i < section_count b → is_empty_kind (nth_section b i) ≡ true → file_body m b r i ≡ []
no-body m b r i w lt empty =
    sym (bodies-same m b r (moved_numbers (view_of b) r) (made_bodies m b r) w (are-moved m b r w) refl i lt)
    ∙ ap (λ (o : Option (List ℕ)). bytes_or o (contents_of b i)) (none-given b (made_bodies m b r) i (bodies-stand_all m b r w.reads.data_reads) empty)
    ∙ no-contents b i empty

-- the output by the readings with which the file was taken
taken-is : (m : PathMap) (b out : List ℕ) (w : IsMapped m b out) → out ≡ with_bodies b (file_body m b w.accepted.readings)
unfolding output_of
taken-is m b out w =
    w.output.is
    ∙ ap (λ (r : DataReadings). with_bodies b (file_body m b r)) (data-one (file_data b) w.output.readings w.accepted.readings w.output.reads w.accepted.reads.data_reads)

mapped-back : (m : PathMap) (b out : List ℕ) (w : IsMapped m b out) → ReadsBack b (file_body m b w.accepted.readings) out
mapped-back m b out w =
    subst (λ (x : List ℕ). ReadsBack b (file_body m b w.accepted.readings) x) (sym (taken-is m b out w))
    (reads_back b (file_body m b w.accepted.readings) w.accepted.reads.elf.debug w.accepted.reads.elf.segments
    (λ r fails. layout_excludes b (file_body m b w.accepted.readings) r w.accepted.written fails)
    (λ i lt empty. no-body m b w.accepted.readings i (can-map m b out w) lt empty) w.bytes)

-- so its meaning is kept,
pub mapped-means : (m : PathMap) (b out : List ℕ) → IsMapped m b out → MeaningKept m b out
mapped-means m b out w = file-meaning m b w.accepted.readings out (can-map m b out w) (mapped-back m b out w) (output-small m b out w)

-- no text is left in it that none of its fields names,
pub mapped-leavings : (m : PathMap) (b out : List ℕ) → IsMapped m b out → NoLeavings (file_data out)
mapped-leavings m b out w = no-leavings m b w.accepted.readings out (can-map m b out w) (mapped-back m b out w) (output-small m b out w)

-- and what is loaded of it stays
pub mapped-loaded : (m : PathMap) (b out : List ℕ) → IsMapped m b out → LoadedKept b out
mapped-loaded m b out w = by_kind (is_loaded_kind b) refl
  where
    can : CanMap m b w.accepted.readings
    can = can-map m b out w

    same : build_id_of out ≡ build_id_of b
    same = build_id-back b (file_body m b w.accepted.readings) out (file-back m b w.accepted.readings out can (mapped-back m b out w))

    by_kind : (t : Bool) → is_loaded_kind b ≡ t → LoadedKept b out
    by_kind true kind = loaded-kept b out (file_body m b w.accepted.readings) w.accepted.reads.elf kind w.accepted.written.across (mapped-back m b out w) same
    by_kind false kind =
        relocatable-kept b out (file_body m b w.accepted.readings) kind (mapped-back m b out w) same
        (λ i lt alloc.
        alloc-stays m b w.accepted.readings (moved_numbers (view_of b) w.accepted.readings) i can (are-moved m b w.accepted.readings can) (w.accepted.unloaded i lt)
        (w.accepted.relocations_unloaded i lt) lt alloc)
