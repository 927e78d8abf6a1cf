-- What reads of the relocations on a section of units that is read whole holds of each offset of a value that is met in it, and of each header.
use Rattle.std.specs.Bool.{⊤}
use Rattle.std.proofs.Common.{Bool, true, false, ◌≡◌, ℕ, ◌+◌, ◌-◌, ◌≤◌, ◌==◌, if◌then◌else◌, List, [], ◌∷◌, ◌++◌, length, take, drop, Option, None, Some, refl, sym, ap, ◌∙◌, subst, arith, append_assoc}
use Rattle.std.proofs.lemmas.List.{append-nil, drop-drop, take-append-drop}
use Rattle.std.specs.Prelude.{ℤ}
use Rattle.dw_base.specs.AbbreviationTables.{Abbreviation}
use Rattle.dw_base.specs.Cells.{Cell, bytes_of}
use Rattle.dw_base.specs.DebugData.{DataReadings, DebugData, ReadsAll}
use Rattle.dw_base.specs.EntryValues.{HasUnit, bytes_up_to}
use Rattle.dw_base.specs.Forms.{ValueKind, number_of, leb_number, signed_leb, block_of, counted, counted_leb, inline_text, text_offset, present, in_abbreviation, form_in_front, supplementary, unlisted, width_size}
use Rattle.dw_base.specs.Lebs.{initial_length_at}
use Rattle.dw_base.specs.Numbers.{number_at, spelled}
use Rattle.dw_base.specs.Pieces.{EachPiece, Piece, joined}
use Rattle.dw_base.specs.Readings.{EachReading, Readings}
use Rattle.dw_base.specs.RelocationRows.{FieldPlace, HeaderOffsetsRead, IsField, OffsetReads, field_place, header_field, kind_field, offset_field, unit_field, unit_fields, is_section_offset}
use Rattle.dw_base.specs.UnitFails.{bytes_from}
use Rattle.dw_base.specs.UnitHeaders.{HeaderPlaces, SectionKind, UnitBase, UnitSection, header_of_length, header_of_version, header_places, unit_header}
use Rattle.dw_base.specs.UnitPieces.{unit_grammar}
use Rattle.dw_base.specs.UnitStates.{UnitState, between}
use Rattle.dw_base.specs.Values.{value_of}
use Rattle.dw_base.specs.declared.shared.Order.{Order}
use Rattle.dw_base.specs.declared.shared.Width.{Width}
use Rattle.dw_base.specs.declared.units.UnitHeader.{UnitHeader}
use Rattle.dw_base.specs.declared.values.Spec.{Spec}
use Rattle.dw_base.specs.declared.values.Value.{Value}
use Rattle.dw_base.proofs.UnitHeaderLaws.{header-inside, if-inside, initial-more, spelled-more}
use Rattle.dw_base.specs.declared.debug_sections.DebugSection.TheVariants.{Info}
use Rattle.dw_meaning.specs.DataOutput.{DataReads}
use Rattle.dw_meaning.specs.RelocationFails.{LeftRelocationsRead, ValueRelocationsRead, kind_there}
use Rattle.dw_meaning.proofs.DataRowLaws.{SectionRead, WholeUnit, section-among, unit-whole}
use Rattle.dw_meaning.proofs.NameFieldRowLaws.{field-behind, front-field}
use Rattle.dw_meaning.proofs.PieceLaws.{joined-append, leads-more}
use Rattle.dw_meaning.proofs.ScanSectionLaws.{HeaderPiece, before, header-piece, header-placed, in_headed, units-run}
use Rattle.dw_meaning.proofs.ValueRowLaws.{MetValue, each-met, number-parts, offset-parts, value-met-in}

-- each offset of a piece reads
abbrev Reads : DebugData → UnitSection → Piece UnitState → Type 0
Reads d z y = (f : FieldPlace) → IsField (unit_field y.state.mode d.base.order y.state y.cells) f → f.use_is ≡ offset_field → OffsetReads d.base.order z.contents f

each-reads : (d : DebugData) (z : UnitSection) (xs : List (Piece UnitState))
    → ((f : FieldPlace) → IsField (unit_fields d.base.order xs) f → f.use_is ≡ offset_field → OffsetReads d.base.order z.contents f) → EachPiece (Reads d z) xs
each-reads d z [] all = tt
each-reads d z (x ∷ xs) all = (
  λ f is own. all f (front-field (unit_field x.state.mode d.base.order x.state x.cells) (unit_fields d.base.order xs) f is) own,
  each-reads d z xs (λ f is own. all f (field-behind (unit_field x.state.mode d.base.order x.state x.cells) (unit_fields d.base.order xs) f is) own),
)

abbrev Any : Piece UnitState → Type 0
Any x = ⊤

any-pieces : (xs : List (Piece UnitState)) → EachPiece Any xs
any-pieces [] = tt
any-pieces (x ∷ xs) = (tt, any-pieces xs)

any-readings : (rs : Readings) → EachReading Any rs
any-readings [] = tt
any-readings (r ∷ rs) = (any-pieces r.pieces, any-readings rs)

-- the pieces of a section, each of whose offsets reads
section-reads : (d : DebugData) (rs : DataReadings) (moving : List ℕ) (before behind : List UnitSection) (z : UnitSection) → DataReads d rs → LeftRelocationsRead d moving
    → d.found Info ≡ before ++ z ∷ behind → SectionRead d.base z (Reads d z)
section-reads d rs moving before behind z reads left split =
    let r : SectionRead d.base z Any =
    section-among d.base Any 0 before behind z rs.units (subst (λ (zs : List UnitSection). ReadsAll d.base 0 zs rs.units) split reads.units) (any-readings rs.units) in
    record {
      first = r.first;
      pieces = r.pieces;
      reads = r.reads;
      each = each-reads d z r.pieces (left.units before behind z r.first r.pieces split r.reads).offsets;
    }

-- the field of a value begins where its cells do
field-at : (k : ValueKind) (order : Order) (bytes : List ℕ) (at : ℕ) (i : ℤ) (v : Value) (start : Bool) → value_of k order bytes at i ≡ Some v → kind_field k v.at start ≡ kind_field k at start
unfolding value_of
field-at (number_of class n) order bytes at i v start e = ap (λ (p : ℕ). kind_field (number_of class n) p start) (number-parts class at n (number_at order bytes at n) v e).0
field-at (text_offset table n) order bytes at i v start e = ap (λ (p : ℕ). kind_field (text_offset table n) p start) (offset-parts table n order bytes at i v e).0
field-at (leb_number class) order bytes at i v start e = refl
field-at signed_leb order bytes at i v start e = refl
field-at (block_of n) order bytes at i v start e = refl
field-at (counted n) order bytes at i v start e = refl
field-at counted_leb order bytes at i v start e = refl
field-at inline_text order bytes at i v start e = refl
field-at present order bytes at i v start e = refl
field-at in_abbreviation order bytes at i v start e = refl
field-at form_in_front order bytes at i v start e = refl
field-at supplementary order bytes at i v start e = refl
field-at unlisted order bytes at i v start e = refl

met-field : (d : DebugData) (z : UnitSection) (h : UnitHeader) (number : ℕ) (a : Abbreviation) (x : Spec) (place : ℕ) (v : Value) (f : FieldPlace)
    → (w : MetValue d.base z h number a x place v (Reads d z)) → kind_field (kind_there h.params x (bytes_up_to z h) place) v.at (is_section_offset number a.tag x.name) ≡ f ∷ []
    → unit_field w.piece.last.state.mode d.base.order w.piece.last.state w.piece.last.cells ≡ f ∷ []
met-field d z h number a x place v f w is =
    w.piece.fields d.base.order
    ∙ sym (field-at w.piece.kind h.params.order (bytes_up_to z h) w.piece.field x.implicit w.piece.value (is_section_offset number a.tag x.name) w.piece.is)
    ∙ ap (λ (p : ℕ). kind_field w.piece.kind p (is_section_offset number a.tag x.name)) w.piece.at
    ∙ ap (λ (k : ValueKind). kind_field k v.at (is_section_offset number a.tag x.name)) w.piece.kind_is ∙ is

pub values-left : (d : DebugData) (rs : DataReadings) (moving : List ℕ) → DataReads d rs → LeftRelocationsRead d moving → ValueRelocationsRead d
values-left d rs moving reads left = record {
  all = λ z h list number a x place v f table has is own.
      let w : MetValue d.base z h number a x place v (Reads d z) =
      value-met-in d rs z h list number a x place v (Reads d z) reads (section-reads d rs moving table.unit.before table.unit.behind z reads left table.unit.sections) table has in
      w.holds f (record { before = []; behind = []; is = met-field d z h number a x place v f w is }) own;
}

-- the offset of abbreviations in a header is that of its piece
record LengthThere (base : UnitBase) (p : List Cell) : Type 0 where
  lengths : Width × ℕ × ℕ
  is : initial_length_at base.order (bytes_of p) 0 ≡ Some lengths
  room : lengths.2 + 2 ≤ length p

behind-version : (width : Width) (version at : ℕ) → at + 2 ≤ (header_places width version at).behind
behind-version width version at = by_new (version == 5)
  where
    by_new : (b : Bool) → at + 2 ≤ (if◌then◌else◌ {A = HeaderPlaces} b (record { address = at + 3; abbrevs = at + 4; behind = at + 4 + width_size width })
        (record { address = at + 2 + width_size width; abbrevs = at + 2; behind = at + 3 + width_size width })).behind
    by_new true = omega arith
    by_new false = omega arith

length-there : (base : UnitBase) (kind : SectionKind) (section start : ℕ) (p : List Cell) (h : UnitHeader) → unit_header base kind section start p ≡ Some h → LengthThere base p
unfolding unit_header
length-there base kind section start p h e = by_length (initial_length_at base.order (bytes_of p) 0) refl e
  where
    by_length : (o : Option (Width × ℕ × ℕ)) → initial_length_at base.order (bytes_of p) 0 ≡ o → header_of_length base kind section start p o ≡ Some h → LengthThere base p
    by_length None is e = absurd cc
    by_length (Some (width, n, at)) is e =
        let g : UnitHeader = header_of_version base kind section start p width (at + n) at (spelled base.order (bytes_of p) at 2) in
        let inside = header-inside kind p (header_of_version base kind section start p width (at + n) at (spelled base.order (bytes_of p) at 2))
        (if-inside kind p (header_of_version base kind section start p width (at + n) at (spelled base.order (bytes_of p) at 2)) h e) in
        let behind = behind-version width (spelled base.order (bytes_of p) at 2) at in
        record { lengths = (width, n, at); is = is; room = omega (arith, inside, behind) }

front-field-same : (base : UnitBase) (place : ℕ) (p rest : List Cell) → LengthThere base p
    → header_field base.order place (p ++ rest) (initial_length_at base.order (bytes_of (p ++ rest)) 0) ≡ header_field base.order place p (initial_length_at base.order (bytes_of p) 0)
front-field-same base place p rest l =
    ap (header_field base.order place (p ++ rest)) (initial-more base.order p rest l.lengths l.is)
    ∙ ap (λ (v : ℕ). field_place (place + (header_places l.lengths.0 v l.lengths.2).abbrevs) (width_size l.lengths.0) offset_field ∷ []) (spelled-more base.order p rest l.lengths.2 2 l.room)
    ∙ ap (header_field base.order place p) (sym l.is)

header-met : (d : DebugData) (rs : DataReadings) (moving : List ℕ) (z : UnitSection) (h : UnitHeader) (f : FieldPlace) (u : HasUnit d z h) → DataReads d rs → LeftRelocationsRead d moving
    → header_field d.base.order u.start (drop u.start z.contents) (initial_length_at d.base.order (bytes_from z u.start) 0) ≡ f ∷ [] → OffsetReads d.base.order z.contents f
header-met d rs moving z h f u reads left is =
    let r : SectionRead d.base z (Reads d z) = section-reads d rs moving u.before u.behind z reads left u.sections in
    let w : WholeUnit d.base z u.start h = unit-whole d rs z h reads u in
    let one = units-run d.base z r.first w.list u.start w.before in
    let p : HeaderPiece d.base z u.start (r.first + length w.list) h =
    header-piece d.base z u.start (r.first + length w.list) h w.table u.is (header-placed d.base z u.start h u.is.header) w.is in
    let cells : List Cell = take (h.first - u.start) (drop u.start z.contents) in
    let x : Piece UnitState = record { state = before z u.start (r.first + length w.list); cells = take (h.first - u.start) (drop u.start z.contents) } in
    let leads = leads-more (unit_grammar d.base) (before z 0 r.first) (before z u.start (r.first + length w.list)) (between (in_headed d.base z u.start (r.first + length w.list) h) h.first 0 0)
    one.pieces (record { state = before z u.start (r.first + length w.list); cells = take (h.first - u.start) (drop u.start z.contents) } ∷ []) one.leads (refl, p.fits, p.next) in
    let part : take (h.first - u.start) (drop u.start z.contents) ++ drop h.first z.contents ≡ drop u.start z.contents =
    ap (λ (n : ℕ). take (h.first - u.start) (drop u.start z.contents) ++ drop n z.contents) (sym p.end)
    ∙ ap (λ (q : List Cell). take (h.first - u.start) (drop u.start z.contents) ++ q) (sym (drop-drop (h.first - u.start) u.start z.contents))
    ∙ take-append-drop (h.first - u.start) (drop u.start z.contents) in
    let covers : joined (one.pieces ++ record { state = before z u.start (r.first + length w.list); cells = take (h.first - u.start) (drop u.start z.contents) } ∷ []) ++ drop h.first z.contents ≡ z.contents =
    ap (λ (q : List Cell). q ++ drop h.first z.contents) (joined-append one.pieces (record { state = before z u.start (r.first + length w.list); cells = take (h.first - u.start) (drop u.start z.contents) } ∷ [])
    ∙ ap (λ (q : List Cell). joined one.pieces ++ q) (append-nil (take (h.first - u.start) (drop u.start z.contents))))
    ∙ append_assoc (joined one.pieces) (take (h.first - u.start) (drop u.start z.contents)) (drop h.first z.contents)
    ∙ ap (λ (q : List Cell). joined one.pieces ++ q) part ∙ one.covers in
    let met : Reads d z (record { state = before z u.start (r.first + length w.list); cells = take (h.first - u.start) (drop u.start z.contents) }) =
    each-met d.base z (Reads d z) r (between (in_headed d.base z u.start (r.first + length w.list) h) h.first 0 0) one.pieces
    (record { state = before z u.start (r.first + length w.list); cells = take (h.first - u.start) (drop u.start z.contents) }) h.first leads covers in
    let own : header_field d.base.order u.start (take (h.first - u.start) (drop u.start z.contents)) (initial_length_at d.base.order (bytes_of (take (h.first - u.start) (drop u.start z.contents))) 0) ≡ f ∷ [] =
    sym (front-field-same d.base u.start (take (h.first - u.start) (drop u.start z.contents)) (drop (h.first - u.start) (drop u.start z.contents))
    (length-there d.base z.kind z.number u.start (take (h.first - u.start) (drop u.start z.contents)) h p.found))
    ∙ ap (λ (q : List Cell). header_field d.base.order u.start q (initial_length_at d.base.order (bytes_of q) 0)) (take-append-drop (h.first - u.start) (drop u.start z.contents)) ∙ is in
    met f (record { before = []; behind = []; is = own }) (use-of (initial_length_at d.base.order (bytes_of (take (h.first - u.start) (drop u.start z.contents))) 0) u.start (take (h.first - u.start) (drop u.start z.contents)) own)
  where
    use-of : (o : Option (Width × ℕ × ℕ)) (place : ℕ) (q : List Cell) → header_field d.base.order place q o ≡ f ∷ [] → f.use_is ≡ offset_field
    use-of None place q e = absurd cc
    use-of (Some l) place q e =
        let same : field_place (place + (header_places l.0 (spelled d.base.order (bytes_of q) l.2 2) l.2).abbrevs) (width_size l.0) offset_field ≡ f = cc in
        ap (λ (x : FieldPlace). x.use_is) (sym same)

pub headers-left : (d : DebugData) (rs : DataReadings) (moving : List ℕ) → DataReads d rs → LeftRelocationsRead d moving
    → (before behind : List UnitSection) (z : UnitSection) → d.found Info ≡ before ++ z ∷ behind → HeaderOffsetsRead d.base z
headers-left d rs moving reads left before behind z split = record {
  all = λ list h start f units is own.
      header-met d rs moving z h f (record { before = before; behind = behind; sections = split; list = list; start = start; units = units; is = is }) reads left own;
}
