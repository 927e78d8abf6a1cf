-- A slot that a path and something else name in lifted debug data is such a slot of the debug data, and the other way round: it names the same text.
use Rattle.std.proofs.Common.{◌≡◌, ◌≢◌, ℕ, List, [], ap, ◌∙◌, sym, subst}
use Rattle.dw_base.specs.DebugData.{Around, DataReadings, DebugData, around_of, macro_places}
use Rattle.dw_base.specs.IndexFails.{HasSlot, SharedFails, shared}
use Rattle.dw_base.specs.LineReadings.{table_starts}
use Rattle.dw_base.specs.OffsetPieces.{OffsetMode, OffsetState}
use Rattle.dw_base.specs.Paths.{PathMap, mapped_path}
use Rattle.dw_base.specs.Pieces.{Piece}
use Rattle.dw_base.specs.Readings.{Readings}
use Rattle.dw_base.specs.SlotTexts.{field_text}
use Rattle.dw_base.specs.SectionTexts.{NameTexts, offset_role, slot_role}
use Rattle.dw_base.specs.TextChanges.{NamesTextBy}
use Rattle.dw_base.specs.Texts.{laid_texts}
use Rattle.dw_base.specs.declared.debug_sections.DebugSection.TheVariants.{Info, Str, StrOffsets}
use Rattle.dw_base.specs.declared.fault.Refusal.{Refusal}
use Rattle.dw_meaning.proofs.DataOneLaws.{offsets-one, readings-one, readings_with}
use Rattle.dw_meaning.proofs.SlotRowLaws.{piece-among, with_starts}
use Rattle.dw_meaning.specs.DataFails.{IndexesRead}
use Rattle.dw_meaning.specs.DataOutput.{DataReads}
use Rattle.inline_lift.specs.Lifted.{Lift}
use Rattle.inline_lift.proofs.SurroundingLaws.{Standing, new_around, old_around, text-longer}

-- the text of a slot is the same with more texts behind
field-same : (m : PathMap) (paths : List ℕ) (l : Lift) (g : Standing) (xs : List (Piece OffsetState)) (x : Piece OffsetState) → NameTexts (slot_role paths) (old_around l g) xs → HasSlot xs x
    → field_text l.base.order ((new_around l g).stands Str) x.cells ≡ field_text l.base.order ((old_around l g).stands Str) x.cells
field-same m paths l g xs x all here =
    let own : NamesTextBy (slot_role paths x.state) (old_around l g) x.cells =
    piece-among (λ (y : Piece OffsetState). NamesTextBy (slot_role paths y.state) (old_around l g) y.cells) here.before here.behind x
    (subst (λ (ys : List (Piece OffsetState)). NameTexts (slot_role paths) (old_around l g) ys) here.pieces all) in
    text-longer l.base.order g.number l.str (laid_texts l.texts) x.cells
    (subst (λ (k : OffsetMode). NamesTextBy (offset_role paths k x.state.slot) (old_around l g) x.cells) here.mode own)

pub shared-old : (m : PathMap) (number : ℕ) (paths : List ℕ) (l : Lift) (g : Standing) (xs : List (Piece OffsetState)) (q : Refusal) → NameTexts (slot_role paths) (old_around l g) xs
    → SharedFails m number (new_around l g) xs q → SharedFails m number (old_around l g) xs q
shared-old m number paths l g xs q all (shared x here path other differs) =
    shared x here path other (subst (λ (t : List ℕ). mapped_path m t ≢ t) (field-same m paths l g xs x all here) differs)

pub shared-new : (m : PathMap) (number : ℕ) (paths : List ℕ) (l : Lift) (g : Standing) (xs : List (Piece OffsetState)) (q : Refusal) → NameTexts (slot_role paths) (old_around l g) xs
    → SharedFails m number (old_around l g) xs q → SharedFails m number (new_around l g) xs q
shared-new m number paths l g xs q all (shared x here path other differs) =
    shared x here path other (subst (λ (t : List ℕ). mapped_path m t ≢ t) (sym (field-same m paths l g xs x all here)) differs)

-- slots don't ask where line tables and macro units start, and units and string offsets are read in one way
starts-drop : (m : PathMap) (number : ℕ) (around : Around) (ns : List ℕ) (d : DebugData) (r : DataReadings) (xs : List (Piece OffsetState)) (q : Refusal)
    → SharedFails m number (with_starts around ns (macro_places d r)) xs q → SharedFails m number around xs q
starts-drop m number around ns d r xs q (shared x here path other differs) = shared x here path other differs

pub shared-at : (m : PathMap) (d : DebugData) (r rs : DataReadings) (q : Refusal) → IndexesRead d r → DataReads d rs
    → SharedFails m (d.found StrOffsets).number (around_of d r) r.offsets q → SharedFails m (d.found StrOffsets).number (around_of d rs) rs.offsets q
shared-at m d r rs q i a f =
    let units : r.units ≡ rs.units = readings-one d.base 0 (d.found Info) r.units rs.units i.units a.units in
    let offsets : r.offsets ≡ rs.offsets = offsets-one d.base.order (d.found StrOffsets).contents r.offsets rs.offsets i.offsets a.offsets in
    let same : around_of d r ≡ with_starts (around_of d rs) (table_starts r.lines) (macro_places d r) =
    ap (λ (us : Readings). around_of d (readings_with us r.offsets r.lines r.macros [])) units
    ∙ ap (λ (xs : List (Piece OffsetState)). around_of d (readings_with rs.units xs r.lines r.macros [])) offsets in
    starts-drop m (d.found StrOffsets).number (around_of d rs) (table_starts r.lines) d r rs.offsets q
    (subst (λ (xs : List (Piece OffsetState)). SharedFails m (d.found StrOffsets).number (with_starts (around_of d rs) (table_starts r.lines) (macro_places d r)) xs q) offsets
    (subst (λ (x : Around). SharedFails m (d.found StrOffsets).number x r.offsets q) same f))
