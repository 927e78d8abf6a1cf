-- The fields of a unit section that is read in order are those of its pieces.
use Rattle.std.proofs.Common.{Bool, true, false, ◌≡◌, ◌≢◌, ℕ, ◌+◌, ◌≤◌, ◌==◌, if◌then◌else◌, List, [], ◌∷◌, ◌++◌, length, drop, Option, Some, None, refl, sym, ap, ◌∙◌, subst, arith}
use Rattle.std.proofs.lemmas.List.{length-append}
use Rattle.dw_base.specs.AbbreviationTables.{Abbreviation}
use Rattle.dw_base.specs.Cells.{Cell, bytes_of}
use Rattle.dw_base.specs.EntryValues.{bytes_up_to}
use Rattle.dw_base.specs.Forms.{ValueKind, form_in_front, kind_in, width_size}
use Rattle.dw_base.specs.Lebs.{initial_length_at}
use Rattle.dw_base.specs.Numbers.{spelled}
use Rattle.dw_base.specs.Pieces.{Piece}
use Rattle.dw_base.specs.RelocationRows.{FieldPlace, field_place, header_field, is_section_offset, kind_field, offset_field, unit_field, unit_fields}
use Rattle.dw_base.specs.UnitHeaders.{HeaderPlaces, SectionKind, UnitBase, UnitSection, header_of_length, header_of_version, header_places, unit_header}
use Rattle.dw_base.specs.UnitPieces.{ReadsUnits, unit_grammar}
use Rattle.dw_base.specs.UnitStates.{UnitState}
use Rattle.dw_base.specs.declared.shared.Order.{Order}
use Rattle.dw_base.specs.declared.shared.Params.{Params}
use Rattle.dw_base.specs.declared.shared.Width.{Width}
use Rattle.dw_base.specs.declared.units.Scanned.{Scanned}
use Rattle.dw_base.specs.declared.units.UnitHeader.{UnitHeader}
use Rattle.dw_base.proofs.UnitHeaderLaws.{header-inside, if-inside, initial-more, spelled-more}
use Rattle.dw_meaning.proofs.DataOneLaws.{reads-one}
use Rattle.dw_meaning.proofs.ScanPieceLaws.{unit_bytes}
use Rattle.dw_meaning.proofs.ScanSectionLaws.{before, in_headed}
use Rattle.dw_meaning.specs.PieceRuns.{all_of, any_piece}
use Rattle.dw_relocs.specs.UnitFields.{UnitsFields, chosen_fields, entries_fields, entry_fields, fields_of_kind, front_fields, of_entry, of_value, one_fields}
use Rattle.dw_relocs.specs.UnitFields.UnitsFields.{more_fields, none_fields}
use Rattle.dw_meaning.proofs.RunLaws.{PieceRun, run-more, run-none, run-whole}
use Rattle.dw_meaning.proofs.UnitRunLaws.{UnitSays, entries_out-more}
use Rattle.dw_meaning.proofs.WholeUnitLaws.{unit-run}

-- the fields of a piece
abbrev pub unit_piece : Order → Piece UnitState → List FieldPlace
unit_piece order x = unit_field x.state.mode order x.state x.cells

pub unit_fields-are : (order : Order) (xs : List (Piece UnitState)) → unit_fields order xs ≡ all_of (unit_piece order) xs
unit_fields-are order [] = refl
unit_fields-are order (x ∷ xs) = ap (λ (l : List FieldPlace). unit_field x.state.mode order x.state x.cells ++ l) (unit_fields-are order xs)

-- pieces of a unit section, with their fields
abbrev pub UnitRun : UnitBase → List Cell → UnitState → UnitState → ℕ → ℕ → List FieldPlace → Type 0
UnitRun base cells s t a b fs = PieceRun (unit_grammar base) any_piece (unit_piece base.order) cells s t a b fs

-- a value of an attribute that isn't behind a form is one
kind-own : (k : ValueKind) (params : Params) (bytes : List ℕ) (place : ℕ) (b : Bool) → k ≢ form_in_front → kind_field k place b ≡ fields_of_kind k params bytes b place
kind-own form_in_front params bytes place b other = absurd (other refl)
kind-own k params bytes place b other = refl

values-say : (base : UnitBase) (cells : List Cell) (s : UnitState)
    → UnitSays any_piece (unit_piece base.order) cells s of_entry (of_value s.header.params (unit_bytes s cells))
values-say base cells s = record {
  holds = λ m place e d k. tt;
  nulls = λ place e d p zero_. refl;
  codes = λ place e d a p some listed. refl;
  forms = λ place e d n tag x xs p front. ap (λ (k : ValueKind). kind_field k place (is_section_offset n tag x.name)) front;
  owns = λ place e d n tag x xs v other is.
      kind-own (kind_in s.header.params x.form) s.header.params (unit_bytes s cells) place (is_section_offset n tag x.name) other;
  chosen = λ place e d n tag x xs v front c.
      ap (chosen_fields s.header.params (is_section_offset n tag x.name) place) (sym c.spells)
      ∙ ap (λ (k : ValueKind). fields_of_kind k s.header.params (unit_bytes s cells) (is_section_offset n tag x.name) place) (sym front);
}

-- the fields of entries, and of one more
pub entries_fields-more : (params : Params) (table : List Abbreviation) (bytes : List ℕ) (n : ℕ) (items : List Scanned) (x : Scanned)
    → entries_fields params table bytes n (items ++ x ∷ []) ≡ entries_fields params table bytes n items ++ entry_fields params table bytes (n + length items) x
unfolding entry_fields
entries_fields-more params table bytes n items x = entries_out-more of_entry (of_value params bytes) params table bytes n items x

-- where the parts of a header lie
abbrev places_by : Bool → Width → ℕ → HeaderPlaces
places_by b width place =
    if b then record { address = place + 3; abbrevs = place + 4; behind = place + 4 + width_size width }
    else record { address = place + 2 + width_size width; abbrevs = place + 2; behind = place + 3 + width_size width }

behind-room : (width : Width) (version place : ℕ) → place + 3 ≤ (header_places width version place).behind
behind-room width version place = by_test (version == 5)
  where
    by_test : (b : Bool) → place + 3 ≤ (places_by b width place).behind
    by_test true = omega arith
    by_test false = omega arith

record FrontRead (order : Order) (p : List Cell) : Type 0 where
  lengths : Width × ℕ × ℕ
  is : initial_length_at order (bytes_of p) 0 ≡ Some lengths
  room : lengths.2 + 3 ≤ length p

front-read : (base : UnitBase) (kind : SectionKind) (section start : ℕ) (p : List Cell) (h : UnitHeader) → unit_header base kind section start p ≡ Some h
    → FrontRead base.order p
unfolding unit_header
front-read base kind section start p h e = by_length (initial_length_at base.order (bytes_of p) 0) refl e
  where
    by_length : (o : Option (Width × ℕ × ℕ)) → initial_length_at base.order (bytes_of p) 0 ≡ o → header_of_length base kind section start p o ≡ Some h
        → FrontRead base.order p
    by_length None is e = absurd cc
    by_length (Some (width, n, place)) is e =
        let v : ℕ = spelled base.order (bytes_of p) place 2 in
        let g : UnitHeader = header_of_version base kind section start p width (place + n) place (spelled base.order (bytes_of p) place 2) in
        let test = if-inside kind p (header_of_version base kind section start p width (place + n) place (spelled base.order (bytes_of p) place 2)) h e in
        let inside_ = header-inside kind p (header_of_version base kind section start p width (place + n) place (spelled base.order (bytes_of p) place 2)) test in
        let room = behind-room width (spelled base.order (bytes_of p) place 2) place in
        record { lengths = (width, n, place); is = is; room = omega (arith, inside_, room) }

-- the field of a header is that of what stands there
fields-cut : (order : Order) (start : ℕ) (p r : List Cell) (l : Width × ℕ × ℕ) → initial_length_at order (bytes_of p) 0 ≡ Some l → l.2 + 3 ≤ length p
    → header_field order start p (initial_length_at order (bytes_of p) 0) ≡ header_field order start (p ++ r) (initial_length_at order (bytes_of (p ++ r)) 0)
fields-cut order start p r l e room =
    ap (header_field order start p) e
    ∙ ap (λ (v : ℕ). field_place (start + (header_places l.0 v l.2).abbrevs) (width_size l.0) offset_field ∷ []) (sym (spelled-more order p r l.2 2 (omega (arith, room))))
    ∙ ap (header_field order start (p ++ r)) (sym (initial-more order p r l e))

-- the field of a header whose cells are those from a place on
header-says : (base : UnitBase) (z : UnitSection) (start unit : ℕ) (h : UnitHeader) (p r : List Cell) → p ++ r ≡ drop start z.contents
    → unit_header base z.kind z.number start p ≡ Some h → unit_piece base.order (record { state = before z start unit; cells = p }) ≡ front_fields base z start
header-says base z start unit h p r split found =
    let front = front-read base z.kind z.number start p h found in
    fields-cut base.order start p r front.lengths front.is front.room
    ∙ ap (λ (cs : List Cell). header_field base.order start cs (initial_length_at base.order (bytes_of cs) 0)) split

-- units one after another
units-run : (base : UnitBase) (z : UnitSection) (first : ℕ) (list : List UnitHeader) (place : ℕ) (fs : List FieldPlace) → UnitsFields base z list place fs
    → UnitRun base z.contents (before z 0 first) (before z place (first + length list)) 0 place fs
units-run base z first list place fs none_fields =
    run-none (unit_grammar base) any_piece (unit_piece base.order) z.contents (before z 0 first) (before z 0 (first + 0)) 0 (ap (λ (n : ℕ). before z 0 n) (omega arith))
units-run base z first all z_end all_fs (more_fields list h start table items fs units u t entries) =
    let count : first + length list + 1 ≡ first + length (list ++ h ∷ []) = omega (arith, length-append list (h ∷ [])) in
    subst (λ (n : ℕ). UnitRun base z.contents (before z 0 first) (before z h.end n) 0 h.end (fs ++ one_fields base z start h table items)) count
    (run-more (unit_grammar base) any_piece (unit_piece base.order) z.contents (before z 0 first) (before z start (first + length list)) (before z h.end (first + length list + 1))
    0 start h.end fs (one_fields base z start h table items) (units-run base z first list start fs units)
    (unit-run any_piece (unit_piece base.order) of_entry (of_value h.params (bytes_up_to z h)) base z start (first + length list) h table items (front_fields base z start) u t entries
    (header-says base z start (first + length list) h) (λ k. tt) (values-say base z.contents (in_headed base z start (first + length list) h))))

-- a section whose units can be read is pieces, whose fields are these
pub record UnitsAre (base : UnitBase) (z : UnitSection) (first : ℕ) (fs : List FieldPlace) : Type 0 where
  pub pieces : List (Piece UnitState)
  pub reads : ReadsUnits base z first pieces
  pub fields : unit_fields base.order pieces ≡ fs

pub units-are : (base : UnitBase) (z : UnitSection) (first : ℕ) (list : List UnitHeader) (fs : List FieldPlace) → UnitsFields base z list (length z.contents) fs
    → UnitsAre base z first fs
units-are base z first list fs units =
    let whole = run-whole (unit_grammar base) any_piece (unit_piece base.order) z.contents (before z 0 first) (before z (length z.contents) (first + length list)) (length z.contents) fs
    refl (record { mode = refl; place = refl }) (units-run base z first list (length z.contents) fs units) in
    record {
      pieces = whole.pieces;
      reads = record { chain = whole.chain; cells = whole.cells_are };
      fields = unit_fields-are base.order whole.pieces ∙ whole.fields;
    }

-- so of every reading of the section
pub fields-one : (base : UnitBase) (z : UnitSection) (first : ℕ) (list : List UnitHeader) (fs : List FieldPlace) (xs : List (Piece UnitState))
    → UnitsFields base z list (length z.contents) fs → ReadsUnits base z first xs → unit_fields base.order xs ≡ fs
fields-one base z first list fs xs units reads =
    let are = units-are base z first list fs units in
    ap (unit_fields base.order) (reads-one base z first xs are.pieces reads are.reads) ∙ are.fields
