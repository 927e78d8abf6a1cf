-- What a lifted file means: the filled meaning, and one thing. Where no path would grow the file is its own filled one. What is loaded stays.
use Rattle.std.proofs.Common.{true, false, ◌≡◌, ℕ, ◌+◌, ◌^◌, ◌<◌, ◌≤◌, List, [], ◌∷◌, ◌++◌, length, refl, sym, ap, ◌∙◌, subst, arith, append-nil}
use Rattle.std.specs.Prelude.{⊤}
use Rattle.std.proofs.lemmas.Bool.{or_parts}
use Rattle.std.proofs.lemmas.List.{length-append}
use Rattle.dw_base.specs.DebugData.{Around, DataReadings, DebugData, ReadsAll, units_in}
use Rattle.dw_base.specs.DebugSections.{name_of}
use Rattle.dw_base.specs.FileViews.{view_of}
use Rattle.dw_base.specs.Layout.{output_limit}
use Rattle.dw_base.specs.LayoutReads.{ReadsBack}
use Rattle.dw_base.specs.Paths.{PathMap}
use Rattle.dw_base.specs.Pieces.{EachPiece, Piece}
use Rattle.dw_base.specs.Readings.{EachReading, Readings}
use Rattle.dw_base.specs.TextChanges.{NamesText}
use Rattle.dw_base.specs.UnitHeaders.{UnitSection}
use Rattle.dw_base.specs.UnitMeanings.{UnitMeaning, following, units_of, units_read}
use Rattle.dw_base.specs.UnitStates.{UnitState, before_unit}
use Rattle.dw_base.specs.ViewData.{Meaning, mapped, meaning_of}
use Rattle.dw_base.specs.declared.debug_sections.DebugSection.TheVariants.{Info, Str}
use Rattle.dw_base.specs.declared.shared.Width.TheVariants.{W32}
use Rattle.dw_base.proofs.SectionLaws.{length-contents}
use Rattle.dw_meaning.proofs.DataOneLaws.{means-one}
use Rattle.dw_meaning.proofs.FileBackLaws.{build_id-back}
use Rattle.dw_meaning.proofs.FileKeptLaws.{str-place}
use Rattle.dw_meaning.proofs.LoadedLaws.{NoneAcross, loaded-kept}
use Rattle.dw_meaning.proofs.MeansLaws.{means-made}
use Rattle.dw_meaning.proofs.TableKeptLaws.{TablePlace, lies_at, nowhere}
use Rattle.dw_meaning.specs.DataOutput.{DataReads}
use Rattle.dw_meaning.specs.FileMeanings.{FileReads, MeaningKept, Means, file_data}
use Rattle.dw_meaning.specs.Loaded.{LoadedKept}
use Rattle.inline_lift.specs.Filled.{MeaningFilled, MeaningGrown, filled, filled_unit, filled_units}
use Rattle.inline_lift.specs.GrowingPaths.{any_grows, grows, some_path_grows}
use Rattle.inline_lift.specs.Lifted.{Lift, lifted_readings}
use Rattle.inline_lift.specs.LiftedFiles.{lifted_body}
use Rattle.inline_lift.proofs.FilledUnitLaws.{Named, following-filled}
use Rattle.inline_lift.proofs.LiftedDataLaws.{standing_for}
use Rattle.inline_lift.proofs.LiftedFileLaws.{FileLifts, back-lifted, file-lifted-means, file-lifted-reads}
use Rattle.inline_lift.proofs.LiftedBodyLaws.{file_lift}
use Rattle.inline_lift.proofs.SurroundingLaws.{Standing, around_by, new_around, old_around}
use Rattle.inline_lift.proofs.TurnedLaws.{AllTurned, itself, more_turned, none_turned}

-- A file whose paths become offsets
pub lift-meaning : (m : PathMap) (b : List ℕ) (r : DataReadings) (out : List ℕ) → FileLifts m b r → ReadsBack b (lifted_body m b r) out → length out ≤ output_limit → MeaningFilled m b out
lift-meaning m b r out w back small =
    let old : Means b (meaning_of (view_of b) r) = means-made b r (meaning_of (view_of b) r) w.grows.reads refl in
    let new : Means out (filled m (meaning_of (view_of b) r)) =
    means-made out (lifted_readings (file_lift m b r) r) (filled m (meaning_of (view_of b) r)) (file-lifted-reads m b r out w back small) (file-lifted-means m b r out w back small) in
    record {
      meaning = meaning_of (view_of b) r;
      old = old;
      new = new;
      old_one = λ x is. means-one b x _ is old;
      new_one = λ x is. means-one out x _ is new;
    }

pub lift-loaded : (m : PathMap) (b : List ℕ) (r : DataReadings) (out : List ℕ) → FileLifts m b r → NoneAcross b → ReadsBack b (lifted_body m b r) out → LoadedKept b out
lift-loaded m b r out w none back =
    loaded-kept b out (lifted_body m b r) w.grows.reads.elf w.loaded none back (build_id-back b (lifted_body m b r) out (back-lifted m b r out w back))

-- A file in which no path would grow
abbrev pub Quiet : PathMap → Piece UnitState → Type 0
Quiet m x = grows m x ≡ false

pieces-quiet : (m : PathMap) (xs : List (Piece UnitState)) → any_grows m xs ≡ false → EachPiece (Quiet m) xs
pieces-quiet m [] e = tt
pieces-quiet m (x ∷ xs) e = let p = or_parts (grows m x) (any_grows m xs) e in (p.0, pieces-quiet m xs p.1)

pub readings-quiet : (m : PathMap) (rs : Readings) → some_path_grows m rs ≡ false → EachReading (Quiet m) rs
readings-quiet m [] e = tt
readings-quiet m (r ∷ rs) e = let p = or_parts (any_grows m r.pieces) (some_path_grows m rs) e in (pieces-quiet m r.pieces p.0, readings-quiet m rs p.1)

-- the lift of it, which adds nothing
abbrev no_lift : PathMap → DebugData → Lift
no_lift m d = record { map = m; base = d.base; copies = []; str = (d.found Str).bytes; texts = [] }

all-itself : (l : Lift) (xs : List (Piece UnitState)) → EachPiece (Quiet l.map) xs → AllTurned l ⊤ xs xs
all-itself l [] quiet = none_turned
all-itself l (x ∷ xs) quiet = more_turned x (x ∷ []) xs xs (itself x (λ sure. quiet.0)) (all-itself l xs quiet.1)

quiet-named : (l : Lift) (g : Standing) (xs : List (Piece UnitState)) → EachPiece (Quiet l.map) xs → EachPiece (NamesText (old_around l g)) xs → EachPiece (Named l g) xs
quiet-named l g [] quiet h = tt
quiet-named l g (x ∷ xs) quiet h = ((h.0, λ e. let no : true ≡ false = sym e ∙ quiet.0 in absurd cc), quiet-named l g xs quiet.1 h.1)

same-around : (m : PathMap) (d : DebugData) (g : Standing) → new_around (no_lift m d) g ≡ old_around (no_lift m d) g
same-around m d g =
    ap (λ (bs : List ℕ). around_by (record { order = d.base.order; abbrevs = record { number = d.base.abbrevs.number; bytes = bs } }) ((d.found Str).bytes ++ []) g) (append-nil d.base.abbrevs.bytes)
    ∙ ap (λ (bs : List ℕ). around_by d.base bs g) (append-nil (d.found Str).bytes)

filled-append : (m : PathMap) (us vs : List UnitMeaning) → filled_units m (us ++ vs) ≡ filled_units m us ++ filled_units m vs
filled-append m [] vs = refl
filled-append m (u ∷ us) vs = ap (λ (ws : List UnitMeaning). filled_unit m u ∷ ws) (filled-append m us vs)

sections-quiet : (m : PathMap) (d : DebugData) (g : Standing) (first : ℕ) (zs : List UnitSection) (rs : Readings) → length ((d.found Str).bytes ++ []) < 2 ^ 32 → ReadsAll d.base first zs rs
    → EachReading (Quiet m) rs → EachReading (NamesText (old_around (no_lift m d) g)) rs
    → units_read (old_around (no_lift m d) g) rs ≡ filled_units m (units_read (old_around (no_lift m d) g) rs)
sections-quiet m d g first [] [] small reads quiet h = refl
sections-quiet m d g first [] (r ∷ rs) small reads quiet h = absurd reads
sections-quiet m d g first (z ∷ zs) [] small reads quiet h = absurd reads
sections-quiet m d g first (z ∷ zs) (r ∷ rs) small reads quiet h =
    let fill = following-filled (no_lift m d) g r.number small (before_unit z.number z.kind (length z.contents) 0 first) r.pieces r.pieces reads.1.chain (all-itself (no_lift m d) r.pieces quiet.0)
    (quiet-named (no_lift m d) g r.pieces quiet.0 h.0) tt in
    ap (λ (us : List UnitMeaning). us ++ units_read (old_around (no_lift m d) g) rs)
    (sym (ap (λ (a : Around). (following r.number a r.pieces).units) (same-around m d g)) ∙ (fill W32 true true).units)
    ∙ ap (λ (us : List UnitMeaning). filled_units m (following r.number (old_around (no_lift m d) g) r.pieces).units ++ us) (sections-quiet m d g (first + units_in r.pieces) zs rs small reads.2 quiet.1 h.1)
    ∙ sym (filled-append m (following r.number (old_around (no_lift m d) g) r.pieces).units (units_read (old_around (no_lift m d) g) rs))

units-quiet : (m : PathMap) (d : DebugData) (r : DataReadings) → DataReads d r → some_path_grows m r.units ≡ false → length (d.found Str).bytes < 2 ^ 32
    → units_of d r ≡ filled_units m (units_of d r)
unfolding units_of
units-quiet m d r reads none small =
    sections-quiet m d (standing_for d r) 0 (d.found Info) r.units (omega (arith, small, length-append (d.found Str).bytes [])) reads.units (readings-quiet m r.units none) reads.texts

str-within : (b : List ℕ) → length ((file_data b).found Str).bytes ≤ length b
str-within b = by_place (str-place b)
  where
    by_place : TablePlace b (name_of Str) ((file_data b).found Str) → length ((file_data b).found Str).bytes ≤ length b
    by_place (nowhere none_at empty) = omega (arith, ap length empty)
    by_place (lies_at there within named bytes) = omega (arith, ap length bytes, length-contents b ((file_data b).found Str).number)

abbrev with_units : Meaning → List UnitMeaning → Meaning
with_units x us = record x { units = us }

meaning-quiet : (m : PathMap) (b : List ℕ) (r : DataReadings) → FileReads b r → some_path_grows m r.units ≡ false → length b < 2 ^ 32
    → meaning_of (view_of b) r ≡ filled m (meaning_of (view_of b) r)
unfolding meaning_of
meaning-quiet m b r reads none small =
    ap (with_units (meaning_of (view_of b) r)) (units-quiet m (file_data b) r reads.data_reads none (omega (arith, small, str-within b)))

pub quiet-meaning : (m : PathMap) (b : List ℕ) (r : DataReadings) → FileReads b r → some_path_grows m r.units ≡ false → length b < 2 ^ 32 → MeaningFilled m b b
quiet-meaning m b r reads none small =
    let old : Means b (meaning_of (view_of b) r) = means-made b r (meaning_of (view_of b) r) reads refl in
    let new : Means b (filled m (meaning_of (view_of b) r)) = means-made b r (filled m (meaning_of (view_of b) r)) reads (meaning-quiet m b r reads none small) in
    record {
      meaning = meaning_of (view_of b) r;
      old = old;
      new = new;
      old_one = λ x is. means-one b x _ is old;
      new_one = λ x is. means-one b x _ is new;
    }

-- A file that means the filled meaning, edited
pub grown-meaning : (m : PathMap) (b out end : List ℕ) → MeaningFilled m b out → MeaningKept m out end → MeaningGrown m b end
grown-meaning m b out end lifted edited =
    let same : edited.meaning ≡ filled m lifted.meaning = lifted.new_one edited.meaning edited.old in
    record {
      meaning = lifted.meaning;
      old = lifted.old;
      new = subst (λ (x : Meaning). Means end (mapped m x)) same edited.new;
      old_one = lifted.old_one;
      new_one = λ x is. edited.new_one x is ∙ ap (mapped m) same;
    }

pub grown-loaded : (b out end : List ℕ) → LoadedKept b out → LoadedKept out end → LoadedKept b end
grown-loaded b out end lifted edited = record { same = edited.same ∙ lifted.same }
