-- The runs and offsets of line tables say what becomes of the relocations of their section: bytes that stay together carry theirs, and fields say the
-- offsets that are put into them.
use Rattle.std.proofs.Common.{Bool, true, false, ◌≡◌, ◌⊎◌, ℕ, zero, suc, ◌+◌, ◌-◌, ◌<◌, ◌≤◌, ◌==◌, if◌then◌else◌, List, [], ◌∷◌, ◌++◌, length, take, drop, get_or, Option, Some, None, refl, sym, ap, ◌∙◌, subst, inl, inr, arith, append_assoc}
use Rattle.std.specs.Bool.{⊤}
use Rattle.std.proofs.lemmas.Bool.{eq-eqb, ne_eqb}
use Rattle.std.proofs.lemmas.List.{map-append, take_all}
use Rattle.dw_base.specs.Cells.{Cell, bytes_of, cells_at, plain_cells}
use Rattle.dw_base.specs.Forms.{width_size}
use Rattle.dw_base.specs.LineReadings.{AreTables, LineReading, table_read}
use Rattle.dw_base.specs.LineSources.{LineSource}
use Rattle.dw_base.specs.LineTables.{LineTable}
use Rattle.dw_base.specs.NewOffsets.{with_offset}
use Rattle.dw_base.specs.Paths.{PathMap}
use Rattle.dw_base.specs.RelocationBodies.{relocation_body}
use Rattle.dw_base.specs.RelocationFields.{relocation_at}
use Rattle.dw_base.specs.SectionRelocations.{RelocationSource, cells_from, relocations_in}
use Rattle.dw_base.specs.WrittenLines.{behind_lengths, cells_part}
use Rattle.dw_base.specs.declared.line_tables.LineText.{LineText}
use Rattle.dw_base.specs.declared.shared.Order.{Order}
use Rattle.dw_base.specs.declared.shared.Width.{Width}
use Rattle.dw_base.specs.declared.shared.Width.TheVariants.{W32, W64}
use Rattle.dw_base.proofs.RelocationFieldLaws.{length-cells_at}
use Rattle.dw_meaning.specs.LineStretches.{PlacedStretch, Stretch, inline_stretch, kept_stretch, offset_stretch, offset_stretches, other_stretch, stretch_after, stretch_size, stretches_after, stretches_between, stretches_end}
use Rattle.dw_meaning.specs.TextLineCells.{all_cells_by_texts, all_stretches_by_texts, stretches_by_texts, table_stretches_by_texts, text_stretches, texts_stretches}
use Rattle.dw_meaning.proofs.ClearLaws.{Clear, relocation-behind, relocation-taken}
use Rattle.dw_meaning.proofs.LineCellLaws.{cells-split}
use Rattle.dw_meaning.proofs.LineClearLaws.{EachClear}
use Rattle.dw_meaning.proofs.LineSectionLaws.{TablesApart}
use Rattle.dw_meaning.proofs.LineStretchLaws.{StretchIs, StretchesAre}
use Rattle.dw_meaning.proofs.TextStretchLaws.{text_section-are}
use Rattle.dw_meaning.proofs.RecordMoveLaws.{RecordsApart}
use Rattle.elf_relocs.specs.Runs.{place_by}
use Rattle.elf_relocs.specs.declared.runs.Run.{Run}
use Rattle.elf_relocs.proofs.OffsetLaws.{same-self}
use Rattle.elf_relocs.proofs.RunPlaceLaws.{BeginFrom, place-here, rise-begin}
use Rattle.dw_patch.specs.RecordMoves.{moved_table, patch_for}
use Rattle.elf_layout.specs.declared.patch.Patch.{Patch}
use Rattle.dw_patch.proofs.SaidCellLaws.{NoneBegin, said-kept, said-put}
use Rattle.dw_lines.specs.NewTexts.{text_known}
use Rattle.dw_lines.specs.TableMoves.{kept_run, offsets_from, runs_from, stretch_new, stretch_offset, stretch_run}
use Rattle.dw_lines.specs.ViewTables.{tables_read}
use Rattle.dw_lines.proofs.MoveLaws.{runs-order, stretch-length}
use Rattle.dw_lines.specs.declared.moves.NewFieldOffset.{NewFieldOffset}
use Rattle.dw_rewrite.specs.LineOffsets.{OffsetsRise, OffsetsSized, line_offsets, said_field, said_fields, stretches_known}
use Rattle.dw_rewrite.proofs.RecordSayLaws.{Carried, carried_new, carried_none, carried_old, carried-append, carried-table, said-carried}

-- fields before a place, and from a place on
abbrev AllBefore : ℕ → List Patch → Type 0
AllBefore a [] = ⊤
AllBefore a (f ∷ fs) = (f.at < a) × AllBefore a fs

abbrev AllFrom : ℕ → List Patch → Type 0
AllFrom a [] = ⊤
AllFrom a (f ∷ fs) = (a ≤ f.at) × AllFrom a fs

before-none : (a p : ℕ) (fs gs : List Patch) → AllBefore a fs → a ≤ p → patch_for (fs ++ gs) p ≡ patch_for gs p
before-none a p [] gs h le = refl
before-none a p (f ∷ fs) gs h le =
    let here = h.0 in
    ap (λ (b : Bool). if b then Some f else patch_for (fs ++ gs) p) (ne_eqb f.at p (λ e. absurd (omega (arith, here, le, e)))) ∙ before-none a p fs gs h.1 le

from-none : (a p : ℕ) (fs : List Patch) → AllFrom a fs → p < a → patch_for fs p ≡ None
from-none a p [] h lt = refl
from-none a p (f ∷ fs) h lt =
    let here = h.0 in
    ap (λ (b : Bool). if b then Some f else patch_for fs p) (ne_eqb f.at p (λ e. absurd (omega (arith, here, lt, e)))) ∙ from-none a p fs h.1 lt

before-further : (a b : ℕ) (fs : List Patch) → a ≤ b → AllBefore a fs → AllBefore b fs
before-further a b [] le h = tt
before-further a b (f ∷ fs) le h = let here = h.0 in (omega (arith, here, le), before-further a b fs le h.1)

before-append : (a : ℕ) (fs gs : List Patch) → AllBefore a fs → AllBefore a gs → AllBefore a (fs ++ gs)
before-append a [] gs h k = k
before-append a (f ∷ fs) gs h k = (h.0, before-append a fs gs h.1 k)

from-further : (a b : ℕ) (fs : List Patch) → a ≤ b → AllFrom b fs → AllFrom a fs
from-further a b [] le h = tt
from-further a b (f ∷ fs) le h = let here = h.0 in (omega (arith, here, le), from-further a b fs le h.1)

-- those of a stretch stand in it
own-before : (a : ℕ) (x : Stretch) → AllBefore (a + stretch_size x) (said_fields (stretch_offset a x))
own-before a (kept_stretch n) = tt
own-before a (other_stretch n bytes) = tt
own-before a (offset_stretch zero to) = tt
own-before a (offset_stretch (suc n) to) = (omega arith, tt)

fields-from : (a : ℕ) (xs : List Stretch) → AllFrom a (said_fields (offsets_from a xs))
fields-from a [] = tt
fields-from a (kept_stretch n ∷ xs) = from-further a (a + n) (said_fields (offsets_from (a + n) xs)) (omega arith) (fields-from (a + n) xs)
fields-from a (other_stretch n bytes ∷ xs) = from-further a (a + n) (said_fields (offsets_from (a + n) xs)) (omega arith) (fields-from (a + n) xs)
fields-from a (offset_stretch zero to ∷ xs) = from-further a (a + 0) (said_fields (offsets_from (a + 0) xs)) (omega arith) (fields-from (a + 0) xs)
fields-from a (offset_stretch (suc n) to ∷ xs) =
    (omega arith, from-further a (a + suc n) (said_fields (offsets_from (a + suc n) xs)) (omega arith) (fields-from (a + suc n) xs))

-- bytes that stay together
kept-place : (before more : List Run) (a b n k : ℕ) → BeginFrom (a + n) more → k < n → place_by (before ++ (kept_run a b n ++ more)) (a + k) ≡ b + k
kept-place before more a b zero k h lt = absurd (omega (arith, lt))
kept-place before more a b (suc n) k h lt =
    let same : b + (a + k - a) ≡ b + k = omega arith in
    place-here before more (record { old = a; new = b }) (a + k) (a + suc n) (omega arith) h (omega (arith, lt)) ∙ same

-- bytes without relocations go, and others come
plain-come : (runs : List Run) (fields : List Patch) (a b : ℕ) (bytes : List ℕ) → Carried runs fields a b [] (plain_cells bytes)
plain-come runs fields a b [] = carried_none a b
plain-come runs fields a b (x ∷ xs) = carried_new a b (record { byte = x; relocation = None }) [] (plain_cells xs) refl (plain-come runs fields a (suc b) xs)

clear-go : (runs : List Run) (fields : List Patch) (a b : ℕ) (cs ds : List Cell) → ((k : ℕ) → k < length cs → relocation_at cs k ≡ None)
    → Carried runs fields (a + length cs) b [] ds → Carried runs fields a b cs ds
clear-go runs fields a b [] ds none m = let same : a + 0 ≡ a = omega arith in subst (λ (i : ℕ). Carried runs fields i b [] ds) same m
clear-go runs fields a b (c ∷ cs) ds none m =
    let next : a + suc (length cs) ≡ suc a + length cs = omega arith in
    carried_old a b c cs ds (none 0 (omega arith))
    (clear-go runs fields (suc a) b cs ds (λ k lt. none (suc k) (omega (arith, lt))) (subst (λ (i : ℕ). Carried runs fields i b [] ds) next m))

clear-part : (cells : List Cell) (a n k : ℕ) → Clear cells a (a + n) → k < length (cells_at cells a n) → a + n ≤ length cells → relocation_at (cells_at cells a n) k ≡ None
clear-part cells a n k clear lt inside =
    let size = length-cells_at cells a n inside in
    relocation-taken (drop a cells) n k (omega (arith, lt, size)) ∙ relocation-behind cells a k ∙ clear.none (a + k) (omega arith) (omega (arith, lt, size))

-- a field that gets an offset
offset-carried : (order : Order) (runs : List Run) (fields : List Patch) (a b m to : ℕ) (p : List Cell) → length p ≡ suc m
    → patch_for fields a ≡ Some (record { at = a; size = suc m; value = to }) → NoneBegin fields (suc a) m → ((k : ℕ) → k < length p → place_by runs (a + k) ≡ b + k)
    → Carried runs fields a b p (with_offset order p to)
offset-carried order runs fields a b m to [] size here none place = absurd (omega (arith, size))
offset-carried order runs fields a b m to (c ∷ cs) size here none place =
    let rest : m ≡ length cs = omega (arith, size) in
    said-carried runs fields a b (c ∷ cs) (with_offset order (c ∷ cs) to)
    (said-put fields a order c cs (record { at = a; size = suc m; value = to }) here (sym size) (subst (NoneBegin fields (suc a)) rest none)) place

none-offset : (order : Order) (to : ℕ) → with_offset order [] to ≡ []
unfolding with_offset
none-offset order to = refl

-- what a stretch becomes
stretch-carried : (order : Order) (cells : List Cell) (runs before more : List Run) (fields fs gs : List Patch) (a b : ℕ) (x : Stretch)
    → runs ≡ before ++ (stretch_run a b x ++ more) → fields ≡ fs ++ (said_fields (stretch_offset a x) ++ gs) → BeginFrom (a + stretch_size x) more
    → AllBefore a fs → AllFrom (a + stretch_size x) gs → StretchIs cells a x → a + stretch_size x ≤ length cells
    → Carried runs fields a b (cells_at cells a (stretch_size x)) (stretch_after order cells a x)
stretch-carried order cells runs before more fields fs gs a b (kept_stretch n) run field begin low high is inside =
    let size = length-cells_at cells a n inside in
    said-carried runs fields a b (cells_at cells a n) (cells_at cells a n)
    (said-kept fields a (cells_at cells a n) (cells_at cells a n)
    (λ k lt. ap (λ (l : List Patch). patch_for l (a + k)) field ∙ before-none a (a + k) fs gs low (omega arith) ∙ from-none (a + n) (a + k) gs high (omega (arith, lt, size)))
    (same-self (cells_at cells a n)))
    (λ k lt. ap (λ (l : List Run). place_by l (a + k)) run ∙ kept-place before more a b n k begin (omega (arith, lt, size)))
stretch-carried order cells runs before more fields fs gs a b (other_stretch n bytes) run field begin low high is inside =
    clear-go runs fields a b (cells_at cells a n) (plain_cells bytes) (λ k lt. clear-part cells a n k is lt inside)
    (plain-come runs fields (a + length (cells_at cells a n)) b bytes)
stretch-carried order cells runs before more fields fs gs a b (offset_stretch zero to) run field begin low high is inside =
    subst (λ (ds : List Cell). Carried runs fields a b [] ds) (sym (none-offset order to)) (carried_none a b)
stretch-carried order cells runs before more fields fs gs a b (offset_stretch (suc n) to) run field begin low high is inside =
    let size = length-cells_at cells a (suc n) inside in
    offset-carried order runs fields a b n to (cells_at cells a (suc n)) size
    (ap (λ (l : List Patch). patch_for l a) field ∙ before-none a a fs (record { at = a; size = suc n; value = to } ∷ gs) low (omega arith)
    ∙ ap (λ (t : Bool). if t then Some (record { at = a; size = suc n; value = to }) else patch_for gs a) (eq-eqb a a refl))
    (λ k lt. ap (λ (l : List Patch). patch_for l (suc a + k)) field
    ∙ before-none a (suc a + k) fs (record { at = a; size = suc n; value = to } ∷ gs) low (omega arith)
    ∙ ap (λ (t : Bool). if t then Some (record { at = a; size = suc n; value = to }) else patch_for gs (suc a + k)) (ne_eqb a (suc a + k) (λ e. absurd (omega (arith, e))))
    ∙ from-none (a + suc n) (suc a + k) gs high (omega (arith, lt)))
    (λ k lt. ap (λ (l : List Run). place_by l (a + k)) run ∙ kept-place before more a b (suc n) k begin (omega (arith, lt, size)))

-- what stretches become, one behind another
stretches-behind : (p : ℕ) (xs : List Stretch) → p ≤ stretches_end p xs
stretches-behind p [] = omega arith
stretches-behind p (x ∷ xs) =
    let more = stretches-behind (p + stretch_size x) xs in
    omega (arith, more)

pub stretches-carried : (order : Order) (cells : List Cell) (runs before : List Run) (fields fs : List Patch) (a b : ℕ) (xs : List Stretch)
    → runs ≡ before ++ runs_from a b xs → fields ≡ fs ++ said_fields (offsets_from a xs) → AllBefore a fs → StretchesAre cells a xs → stretches_end a xs ≤ length cells
    → Carried runs fields a b (cells_part cells a (stretches_end a xs)) (stretches_after order cells a xs)
stretches-carried order cells runs before fields fs a b [] run field low are inside =
    let none : a - a ≡ 0 = omega arith in
    subst (λ (n : ℕ). Carried runs fields a b (take n (drop a cells)) []) (sym none) (carried_none a b)
stretches-carried order cells runs before fields fs a b (x ∷ xs) run field low are inside =
    let more = stretches-behind (a + stretch_size x) xs in
    let room : a + stretch_size x ≤ length cells = omega (arith, more, inside) in
    let size : a + stretch_size x - a ≡ stretch_size x = omega arith in
    let split : cells_part cells a (stretches_end (a + stretch_size x) xs) ≡ cells_at cells a (stretch_size x) ++ cells_part cells (a + stretch_size x) (stretches_end (a + stretch_size x) xs) =
    cells-split cells a (a + stretch_size x) (stretches_end (a + stretch_size x) xs) (omega arith) more
    ∙ ap (λ (k : ℕ). take k (drop a cells) ++ cells_part cells (a + stretch_size x) (stretches_end (a + stretch_size x) xs)) size in
    let fields_are : fields ≡ fs ++ (said_fields (stretch_offset a x) ++ said_fields (offsets_from (a + stretch_size x) xs)) =
    field ∙ ap (λ (l : List Patch). fs ++ l) (map-append said_field (stretch_offset a x) (offsets_from (a + stretch_size x) xs)) in
    let rest : Carried runs fields (a + stretch_size x) (b + stretch_new x) (cells_part cells (a + stretch_size x) (stretches_end (a + stretch_size x) xs))
    (stretches_after order cells (a + stretch_size x) xs) =
    stretches-carried order cells runs (before ++ stretch_run a b x) fields (fs ++ said_fields (stretch_offset a x)) (a + stretch_size x) (b + stretch_new x) xs
    (run ∙ sym (append_assoc before (stretch_run a b x) (runs_from (a + stretch_size x) (b + stretch_new x) xs)))
    (fields_are ∙ sym (append_assoc fs (said_fields (stretch_offset a x)) (said_fields (offsets_from (a + stretch_size x) xs))))
    (before-append (a + stretch_size x) fs (said_fields (stretch_offset a x)) (before-further a (a + stretch_size x) fs (omega arith) low) (own-before a x))
    are.1 inside in
    let old_size : a + stretch_size x ≡ a + length (cells_at cells a (stretch_size x)) = ap (λ (k : ℕ). a + k) (sym (length-cells_at cells a (stretch_size x) room)) in
    let new_size : b + stretch_new x ≡ b + length (stretch_after order cells a x) = ap (λ (k : ℕ). b + k) (sym (stretch-length order cells a x room)) in
    subst (λ (ys : List Cell). Carried runs fields a b ys (stretch_after order cells a x ++ stretches_after order cells (a + stretch_size x) xs)) (sym split)
    (carried-append runs fields a b (cells_at cells a (stretch_size x)) (stretch_after order cells a x)
    (cells_part cells (a + stretch_size x) (stretches_end (a + stretch_size x) xs)) (stretches_after order cells (a + stretch_size x) xs)
    (stretch-carried order cells runs before (runs_from (a + stretch_size x) (b + stretch_new x) xs) fields fs (said_fields (offsets_from (a + stretch_size x) xs)) a b x run fields_are
    (rise-begin (a + stretch_size x) (runs_from (a + stretch_size x) (b + stretch_new x) xs) (runs-order (a + stretch_size x) (b + stretch_new x) xs)) low
    (fields-from (a + stretch_size x) xs) are.0 room)
    (subst (λ (i : ℕ). Carried runs fields i (b + length (stretch_after order cells a x)) (cells_part cells (a + stretch_size x) (stretches_end (a + stretch_size x) xs))
    (stretches_after order cells (a + stretch_size x) xs)) old_size
    (subst (λ (j : ℕ). Carried runs fields (a + stretch_size x) j (cells_part cells (a + stretch_size x) (stretches_end (a + stretch_size x) xs))
    (stretches_after order cells (a + stretch_size x) xs)) new_size rest)))

-- those of the whole section
pub section-carried : (g : LineSource) (m : PathMap) (places : LineText → Option ℕ) (rs : List LineReading) → bytes_of g.cells ≡ g.bytes → TablesApart g rs → EachClear g rs
    → AreTables g rs → Carried (runs_from 0 0 (all_stretches_by_texts g m places rs)) (said_fields (offsets_from 0 (all_stretches_by_texts g m places rs))) 0 0 g.cells (all_cells_by_texts g m places rs)
section-carried g m places rs own apart clear tables =
    let s = text_section-are g m places rs own apart clear tables in
    let none : length g.cells - 0 ≡ length g.cells = omega arith in
    let whole : cells_part g.cells 0 (length g.cells) ≡ g.cells = ap (λ (n : ℕ). take n g.cells) none ∙ take_all (length g.cells) g.cells (omega arith) in
    let ends : stretches_end 0 (all_stretches_by_texts g m places rs) ≤ length g.cells = (let e = s.ends in omega (arith, e)) in
    subst (λ (old : List Cell). Carried (runs_from 0 0 (all_stretches_by_texts g m places rs)) (said_fields (offsets_from 0 (all_stretches_by_texts g m places rs))) 0 0 old (all_cells_by_texts g m places rs))
    (ap (cells_part g.cells 0) s.ends ∙ whole)
    (subst (λ (new : List Cell). Carried (runs_from 0 0 (all_stretches_by_texts g m places rs)) (said_fields (offsets_from 0 (all_stretches_by_texts g m places rs))) 0 0
    (cells_part g.cells 0 (stretches_end 0 (all_stretches_by_texts g m places rs))) new) s.cells
    (stretches-carried g.order g.cells (runs_from 0 0 (all_stretches_by_texts g m places rs)) [] (said_fields (offsets_from 0 (all_stretches_by_texts g m places rs))) [] 0 0 (all_stretches_by_texts g m places rs)
    refl refl tt s.are ends))

-- so the records that are moved by them are those of the new section
pub lines-table : (z : RelocationSource) (bytes : List ℕ) (g : LineSource) (m : PathMap) (places : LineText → Option ℕ) (rs : List LineReading)
    → g.cells ≡ cells_from (relocations_in z) 0 bytes → RecordsApart z bytes → bytes_of g.cells ≡ g.bytes → TablesApart g rs → EachClear g rs → AreTables g rs
    → moved_table z (runs_from 0 0 (all_stretches_by_texts g m places rs)) (said_fields (offsets_from 0 (all_stretches_by_texts g m places rs)))
    ≡ relocation_body z (cells_from (relocations_in z) 0 bytes) (all_cells_by_texts g m places rs)
lines-table z bytes g m places rs is records own apart clear tables =
    carried-table z bytes (all_cells_by_texts g m places rs) (runs_from 0 0 (all_stretches_by_texts g m places rs)) (said_fields (offsets_from 0 (all_stretches_by_texts g m places rs))) records
    (subst (λ (old : List Cell). Carried (runs_from 0 0 (all_stretches_by_texts g m places rs)) (said_fields (offsets_from 0 (all_stretches_by_texts g m places rs))) 0 0 old (all_cells_by_texts g m places rs)) is
    (section-carried g m places rs own apart clear tables))

-- the fields rise, so each is added where none begins
offsets-further : (p q : ℕ) (fs : List NewFieldOffset) → p ≤ q → OffsetsRise q fs → OffsetsRise p fs
offsets-further p q [] le h = tt
offsets-further p q (f ∷ fs) le h = let here = h.0 in (omega (arith, le, here), h.1)

pub offsets-rise : (a : ℕ) (xs : List Stretch) → OffsetsRise a (offsets_from a xs)
offsets-rise a [] = tt
offsets-rise a (kept_stretch n ∷ xs) = offsets-further a (a + n) (offsets_from (a + n) xs) (omega arith) (offsets-rise (a + n) xs)
offsets-rise a (other_stretch n bytes ∷ xs) = offsets-further a (a + n) (offsets_from (a + n) xs) (omega arith) (offsets-rise (a + n) xs)
offsets-rise a (offset_stretch zero to ∷ xs) = offsets-further a (a + 0) (offsets_from (a + 0) xs) (omega arith) (offsets-rise (a + 0) xs)
offsets-rise a (offset_stretch (suc n) to ∷ xs) =
    (omega arith, offsets-further (suc a) (a + suc n) (offsets_from (a + suc n) xs) (omega arith) (offsets-rise (a + suc n) xs))

rise-behind : (p i : ℕ) (d : NewFieldOffset) (fs : List NewFieldOffset) → OffsetsRise p fs → i < length fs → p ≤ (get_or fs i d).at
rise-behind p i d [] h lt = absurd (omega (arith, lt))
rise-behind p zero d (f ∷ fs) h lt = h.0
rise-behind p (suc i) d (f ∷ fs) h lt =
    let here = h.0 in
    let more = rise-behind (suc f.at) i d fs h.1 (omega (arith, lt)) in
    omega (arith, here, more)

pub offset-other : (p i : ℕ) (d : NewFieldOffset) (fs : List NewFieldOffset) → OffsetsRise p fs → i < length fs → patch_for (said_fields (take i fs)) (get_or fs i d).at ≡ None
offset-other p i d [] h lt = absurd (omega (arith, lt))
offset-other p zero d (f ∷ fs) h lt = refl
offset-other p (suc i) d (f ∷ fs) h lt =
    let behind = rise-behind (suc f.at) i d fs h.1 (omega (arith, lt)) in
    ap (λ (b : Bool). if b then Some (said_field f) else patch_for (said_fields (take i fs)) (get_or fs i d).at)
    (ne_eqb f.at (get_or fs i d).at (λ e. absurd (omega (arith, behind, e))))
    ∙ offset-other (suc f.at) i d fs h.1 (omega (arith, lt))

-- each has the size of its table's offsets
pub sized-at : (i : ℕ) (d : NewFieldOffset) (fs : List NewFieldOffset) → OffsetsSized fs → i < length fs → ((get_or fs i d).size ≡ 4) ⊎ ((get_or fs i d).size ≡ 8)
sized-at i d [] h lt = absurd (omega (arith, lt))
sized-at zero d (f ∷ fs) h lt = h.0
sized-at (suc i) d (f ∷ fs) h lt = sized-at i d fs h.1 (omega (arith, lt))

-- stretches whose offsets have it
abbrev StretchSized : Stretch → Type 0
StretchSized (kept_stretch n) = ⊤
StretchSized (other_stretch n bytes) = ⊤
StretchSized (offset_stretch n to) = (n ≡ 4) ⊎ (n ≡ 8)

abbrev AllSizedStretches : List Stretch → Type 0
AllSizedStretches [] = ⊤
AllSizedStretches (x ∷ xs) = StretchSized x × AllSizedStretches xs

abbrev AllSizedPlaced : List PlacedStretch → Type 0
AllSizedPlaced [] = ⊤
AllSizedPlaced (x ∷ xs) = StretchSized x.stretch × AllSizedPlaced xs

placed-both : (xs ys : List PlacedStretch) → AllSizedPlaced xs → AllSizedPlaced ys → AllSizedPlaced (xs ++ ys)
placed-both [] ys h k = k
placed-both (x ∷ xs) ys h k = (h.0, placed-both xs ys h.1 k)

stretches-both : (xs ys : List Stretch) → AllSizedStretches xs → AllSizedStretches ys → AllSizedStretches (xs ++ ys)
stretches-both [] ys h k = k
stretches-both (x ∷ xs) ys h k = (h.0, stretches-both xs ys h.1 k)

width-sized : (w : Width) → (width_size w ≡ 4) ⊎ (width_size w ≡ 8)
width-sized W32 = inl refl
width-sized W64 = inr refl

place-sized : (w : Width) (field : ℕ) (o : Option ℕ) → AllSizedPlaced (offset_stretches w field o)
place-sized w field None = tt
place-sized w field (Some to) = (width-sized w, tt)

text-sized : (g : LineSource) (m : PathMap) (places : LineText → Option ℕ) (w : Width) (x : LineText) → AllSizedPlaced (text_stretches g m places w x)
text-sized g m places w x = by_path x.path (x.place.section == g.number)
  where
    by_path : (b t : Bool) → AllSizedPlaced (if b then (if t then inline_stretch m g.cells x.place ∷ [] else offset_stretches w x.place.field (places (record { place = x.place; path = true })))
        else (if t then [] else offset_stretches w x.place.field (places x)))
    by_path true true = (tt, tt)
    by_path true false = place-sized w x.place.field (places (record { place = x.place; path = true }))
    by_path false true = tt
    by_path false false = place-sized w x.place.field (places x)

texts-sized : (g : LineSource) (m : PathMap) (places : LineText → Option ℕ) (w : Width) (xs : List LineText) → AllSizedPlaced (texts_stretches g m places w xs)
texts-sized g m places w [] = tt
texts-sized g m places w (x ∷ xs) =
    placed-both (text_stretches g m places w x) (texts_stretches g m places w xs) (text-sized g m places w x) (texts-sized g m places w xs)

between-sized : (from end : ℕ) (cs : List PlacedStretch) → AllSizedPlaced cs → AllSizedStretches (stretches_between from end cs)
between-sized from end [] h = (tt, tt)
between-sized from end (c ∷ cs) h = (tt, (h.0, between-sized (c.at + stretch_size c.stretch) end cs h.1))

table-sized : (g : LineSource) (m : PathMap) (places : LineText → Option ℕ) (t : LineTable) → AllSizedStretches (table_stretches_by_texts g m places t)
unfolding table_stretches_by_texts
table-sized g m places t = (
  tt,
  (
    tt,
    (
      tt,
      stretches-both (stretches_by_texts g m places t) (kept_stretch (t.end - t.program) ∷ [])
          (between-sized (behind_lengths t.start t.width t.version) t.program (texts_stretches g m places t.width t.texts) (texts-sized g m places t.width t.texts)) (tt, tt),
    ),
  ),
)

lines-sized : (m : PathMap) (g : LineSource) (ks kl : Bool → ℕ → Option ℕ) (ts : List LineTable) → AllSizedStretches (stretches_known m g ks kl ts)
lines-sized m g ks kl [] = tt
lines-sized m g ks kl (t ∷ ts) =
    stretches-both (table_stretches_by_texts g m (text_known g ks kl) t) (stretches_known m g ks kl ts) (table-sized g m (text_known g ks kl) t) (lines-sized m g ks kl ts)

stretches-sized : (a : ℕ) (xs : List Stretch) → AllSizedStretches xs → OffsetsSized (offsets_from a xs)
stretches-sized a [] h = tt
stretches-sized a (kept_stretch n ∷ xs) h = stretches-sized (a + n) xs h.1
stretches-sized a (other_stretch n bytes ∷ xs) h = stretches-sized (a + n) xs h.1
stretches-sized a (offset_stretch zero to ∷ xs) h = stretches-sized (a + 0) xs h.1
stretches-sized a (offset_stretch (suc n) to ∷ xs) h = (h.0, stretches-sized (a + suc n) xs h.1)

pub offsets-sized : (m : PathMap) (g : LineSource) (ks kl : Bool → ℕ → Option ℕ) (ts : List LineTable) → OffsetsSized (line_offsets m g ks kl ts)
offsets-sized m g ks kl ts = stretches-sized 0 (stretches_known m g ks kl ts) (lines-sized m g ks kl ts)

-- what tables that were read become
pub stretches-read : (m : PathMap) (g : LineSource) (ks kl : Bool → ℕ → Option ℕ) (rs : List LineReading) → stretches_known m g ks kl (tables_read g rs) ≡ all_stretches_by_texts g m (text_known g ks kl) rs
stretches-read m g ks kl [] = refl
stretches-read m g ks kl (r ∷ rs) = ap (λ (xs : List Stretch). table_stretches_by_texts g m (text_known g ks kl) (table_read g r) ++ xs) (stretches-read m g ks kl rs)
