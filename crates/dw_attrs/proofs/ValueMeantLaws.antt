-- What a value says by its place is what its cells mean.
use Rattle.std.proofs.Common.{ℤ, Bool, true, false, ◌≡◌, ℕ, suc, ◌+◌, ◌==◌, ◌≤◌, List, [], ◌∷◌, ◌++◌, length, take, drop, cond, nat_le, Option, Some, None, refl, sym, ap, ◌∙◌, subst, arith}
use Rattle.std.specs.Prelude.{◌||◌, IsTrue, if◌then◌else◌, not, pos, negsuc}
use Rattle.std.proofs.lemmas.Bool.{leb-true}
use Rattle.std.proofs.lemmas.List.{length-drop, length-take, take-append-drop, drop-drop, drop-take, take-take}
use Rattle.dw_base.specs.Cells.{Cell, Located, bytes_of, field_of, offset_into, offset_of}
use Rattle.dw_base.specs.DebugData.{Around, info_numbers, start_number, started_unit, table_of, unit_named}
use Rattle.dw_base.specs.FileViews.{address_at, field_at, section_bytes, view_cells}
use Rattle.dw_base.specs.Forms.{number_of, leb_number, text_offset}
use Rattle.dw_base.specs.Lebs.{uleb_at, sleb, sleb_within, sleb_at, fits_i64}
use Rattle.dw_base.specs.Numbers.{number_at, spelled}
use Rattle.dw_base.specs.Roles.{is_path_use}
use Rattle.dw_base.specs.TextIndexes.{holds_number, slot_of}
use Rattle.dw_base.specs.Texts.{text, has_nul, text_in, ends_in}
use Rattle.dw_base.specs.UnitHeaders.{is_address_size}
use Rattle.dw_base.specs.UnitStates.{UnitState, code_value}
use Rattle.dw_base.specs.ValueMeanings.{found_entry, first_of, stray, indexed, number_meaning, leb_meaning, table_named, line_meaning, global_entry, macro_meaning, unit_meant, address_of, read_size, read_signed}
use Rattle.dw_base.specs.Values.{number_value, leb_value_at, signed_value_at, signed_bits, block_value, counted_value, counted_leb_value, text_value, offset_class}
use Rattle.dw_base.specs.ViewData.{debug_data, located}
use Rattle.dw_base.specs.declared.debug_sections.DebugSection.TheVariants.{Info, Str, LineStr, StrOffsets, Line, Macro}
use Rattle.dw_base.specs.declared.shared.Order.{Order}
use Rattle.dw_base.specs.declared.values.Value.{Value}
use Rattle.dw_base.specs.declared.values.ValueClass.{ValueClass}
use Rattle.dw_base.specs.declared.values.ValueClass.TheVariants.{Address, Number, Signed, Bytes, Flag, InlineText, StrOffset, LineStrOffset, StrIndex, AddrIndex, ListIndex, LocalRef, GlobalRef, Signature, SecOffset}
use Rattle.dw_base.specs.declared.view_fields.Field.{Field}
use Rattle.dw_base.specs.declared.view_fields.Field.TheVariants.{Num, Into, Sym}
use Rattle.dw_base.proofs.LebLaws.{uleb_at-append}
use Rattle.dw_base.proofs.NumberBytes.{signed-cut, number-cut}
use Rattle.dw_base.proofs.ViewCellLaws.{bytes_of-view_cells, field_at-cells}
use Rattle.dw_meaning.proofs.ScanPieceLaws.{part-bytes, before-end, part-length, unit_bytes, NumberPiece, number-piece, bytes_of-drop}
use Rattle.dw_starts.specs.UnitPlaces.{unit_number}
use Rattle.dw_unit_fields.proofs.InlineTextLaws.{text-front}
use Rattle.dw_attrs.specs.UnitValues.{SaidUnit, class_meant, entry_meant, has_field, index_meant, info_section, is_leb_form, macro_named, first_macro, macro_meant, reference_meant, signed_of, lines_meant, table_meant, start_meant, value_address, value_bytes, value_field, value_offset}
use Rattle.dw_attrs.specs.Sayings.{said_bytes, said_field, said_signed, said_stray, said_text, said_of}
use Rattle.dw_attrs.proofs.FieldPlaceLaws.{field-there}
use Rattle.dw_attrs.proofs.FormFactLaws.{FormFacts, IsSmall, is_leb_class, is_number_class, number-plain, text-plain}
use Rattle.dw_attrs.proofs.ViewPartLaws.{address_at-cells}
use Rattle.dw_base.specs.declared.texts.TextSection.{TextSection}
use Rattle.dw_base.specs.declared.texts.TextSection.TheVariants.{InStr, InLineStr}
use Rattle.dw_base.specs.declared.values.AttributeUse.{AttributeUse}
use Rattle.dw_unit_fields.proofs.PlacedRunLaws.{number-at_place}

-- what stands around the units of a file, by which their values mean what they say, and a unit that is printed
pub record IsAround (around : Around) (u : SaidUnit) : Type 0 where
  pub order_is : u.header.params.order ≡ around.lasting.base.order
  pub str_is : around.stands Str ≡ located u.source.view Str
  pub line_str_is : around.stands LineStr ≡ located u.source.view LineStr
  pub lines_is : (around.stands Line).located ≡ located u.source.view Line
  pub starts_are : (around.stands Line).starts ≡ u.source.starts
  pub macros_are : (section place : ℕ) → started_unit 0 (around.lasting.kept Macro).starts section place ≡ unit_number u.source.keys section place
  pub first_is : (around.lasting.kept Macro).first ≡ first_macro u.source.view
  pub info_is : first_of (around.lasting.kept Info).infos ≡ info_section u.source.view
  pub infos_are : (around.lasting.kept Info).infos ≡ info_numbers ((debug_data u.source.view).found Info)
  pub entries_are : (section place offset : ℕ) → said_of (found_entry (around.lasting.kept Info).entries section place offset) ≡ entry_meant u.source section place offset
  pub slots_are : (path : Bool) (index : ℕ) (p : List Cell) → said_of (indexed (around.stands StrOffsets) path (slot_of (around.lasting.kept StrOffsets) u.number index) p)
      ≡ index_meant u.source.view u.source.contributions u.base index (bytes_of p)

-- a state in that unit
pub record IsIn (cells : List Cell) (s : UnitState) (u : SaidUnit) : Type 0 where
  pub section_is : s.section ≡ u.header.section
  pub unit_is : s.unit ≡ u.number
  pub header_is : s.header ≡ u.header
  pub bytes_are : unit_bytes s cells ≡ u.bytes
  pub cells_are : cells ≡ view_cells u.source.view u.header.section
  pub order_is : u.header.params.order ≡ u.source.view.order
  pub address : IsTrue (is_address_size u.header.params.address)

-- a signed number of 64 bits
signed-back : (z : ℤ) → fits_i64 z ≡ true → signed_of (signed_bits z) ≡ z
signed-back (pos n) h = grind arith
signed-back (negsuc n) h = grind arith

-- what was read of a number of so many bytes
pub record NumberRead (class : ValueClass) (order : Order) (bytes : List ℕ) (place n : ℕ) (v : Value) : Type 0 where
  pub size_is : v.size ≡ n
  pub number_is : v.number ≡ spelled order bytes place n
  pub at_is : v.at ≡ place
  pub len_is : v.len ≡ n
  pub class_is : v.class ≡ class
  pub inside : place + n ≤ length bytes

pub number-read : (class : ValueClass) (order : Order) (bytes : List ℕ) (place n : ℕ) (v : Value) → number_value class place n (number_at order bytes place n) ≡ Some v
    → NumberRead class order bytes place n v
unfolding number_at
number-read class order bytes place n v e = by_room (nat_le (place + n) (length bytes)) refl e
  where
    by_room : (b : Bool) → nat_le (place + n) (length bytes) ≡ b → number_value class place n (cond b (Some (spelled order bytes place n)) None) ≡ Some v
        → NumberRead class order bytes place n v
    by_room true is e = record { size_is = cc; number_is = cc; at_is = cc; len_is = cc; class_is = cc; inside = leb-true _ _ is }
    by_room false is e = absurd cc

pub record LebRead (class : ValueClass) (bytes : List ℕ) (place : ℕ) (v : Value) : Type 0 where
  pub number : ℕ
  pub size : ℕ
  pub read : uleb_at bytes place ≡ Some (number, size)
  pub size_is : v.size ≡ size
  pub number_is : v.number ≡ number
  pub at_is : v.at ≡ place
  pub len_is : v.len ≡ size
  pub class_is : v.class ≡ class

pub leb-read : (class : ValueClass) (bytes : List ℕ) (place : ℕ) (v : Value) → leb_value_at class place (uleb_at bytes place) ≡ Some v → LebRead class bytes place v
leb-read class bytes place v e = by_read (uleb_at bytes place) refl e
  where
    by_read : (o : Option (ℕ × ℕ)) → uleb_at bytes place ≡ o → leb_value_at class place o ≡ Some v → LebRead class bytes place v
    by_read None is e = absurd cc
    by_read (Some (x, n)) is e = record { number = x; size = n; read = is; size_is = cc; number_is = cc; at_is = cc; len_is = cc; class_is = cc }

pub record SignedRead (bytes : List ℕ) (place : ℕ) (v : Value) : Type 0 where
  pub number : ℤ
  pub size : ℕ
  pub read : sleb_at bytes place ≡ Some (number, size)
  pub size_is : v.size ≡ size
  pub number_is : v.number ≡ signed_bits number
  pub class_is : v.class ≡ Signed

pub signed-read : (bytes : List ℕ) (place : ℕ) (v : Value) → signed_value_at place (sleb_at bytes place) ≡ Some v → SignedRead bytes place v
signed-read bytes place v e = by_read (sleb_at bytes place) refl e
  where
    by_read : (o : Option (ℤ × ℕ)) → sleb_at bytes place ≡ o → signed_value_at place o ≡ Some v → SignedRead bytes place v
    by_read None is e = absurd cc
    by_read (Some (x, n)) is e = record { number = x; size = n; read = is; size_is = cc; number_is = cc; class_is = cc }

-- so many bytes behind a count
pub record BlockRead (bytes : List ℕ) (place front n : ℕ) (v : Value) : Type 0 where
  pub size_is : v.size ≡ front + n
  pub at_is : v.at ≡ place + front
  pub len_is : v.len ≡ n
  pub class_is : v.class ≡ Bytes
  pub inside : place + front + n ≤ length bytes

pub block-read : (bytes : List ℕ) (place front n : ℕ) (v : Value) → block_value bytes place front n ≡ Some v → BlockRead bytes place front n v
block-read bytes place front n v e = by_room (nat_le (place + front + n) (length bytes)) refl e
  where
    by_room : (b : Bool) → nat_le (place + front + n) (length bytes) ≡ b
        → cond b (Some (record { class = Bytes; number = 0; at = place + front; len = n; size = front + n })) None ≡ Some v → BlockRead bytes place front n v
    by_room true is e = record { size_is = cc; at_is = cc; len_is = cc; class_is = cc; inside = leb-true _ _ is }
    by_room false is e = absurd cc

-- the bytes behind the count among those of the whole value
behind-count : (bs : List ℕ) (place front n : ℕ) → drop front (take (front + n) (drop place bs)) ≡ take n (drop (place + front) bs)
behind-count bs place front n = drop-take front n (drop place bs) ∙ ap (take n) (drop-drop front place bs)

-- the cells of a value that lies in the unit
pub record Own (cells : List Cell) (s : UnitState) (u : SaidUnit) (place size : ℕ) : Type 0 where
  pub length_is : length (take size (drop place cells)) ≡ size
  pub bytes_are : bytes_of (take size (drop place cells)) ≡ take size (drop place u.bytes)

pub own-cells : (cells : List Cell) (s : UnitState) (u : SaidUnit) (place size : ℕ) → IsIn cells s u → place + size ≤ length (unit_bytes s cells) → Own cells s u place size
own-cells cells s u place size i inside = record {
  length_is = part-length size place s.header.end cells inside;
  bytes_are = sym (part-bytes size place s.header.end cells (before-end (place + size) s.header.end (bytes_of cells) inside)) ∙ ap (λ (bs : List ℕ). take size (drop place bs)) i.bytes_are;
}

order-same : (around : Around) (u : SaidUnit) (cells : List Cell) (s : UnitState) → IsAround around u → IsIn cells s u → around.lasting.base.order ≡ s.header.params.order
order-same around u cells s a i = sym (ap (λ h. h.params.order) i.header_is ∙ a.order_is)

-- its number
pub spelled-own : (u : SaidUnit) (cells : List Cell) (s : UnitState) (place n : ℕ) → IsIn cells s u → place + n ≤ length (unit_bytes s cells)
    → spelled s.header.params.order (bytes_of (take n (drop place cells))) 0 (length (take n (drop place cells))) ≡ spelled s.header.params.order (unit_bytes s cells) place n
spelled-own u cells s place n i inside =
    let o : Own cells s u place n = own-cells cells s u place n i inside in
    ap (λ (m : ℕ). spelled s.header.params.order (bytes_of (take n (drop place cells))) 0 m) o.length_is
    ∙ ap (λ (bs : List ℕ). spelled s.header.params.order bs 0 n) (o.bytes_are ∙ ap (λ (bs : List ℕ). take n (drop place bs)) (sym i.bytes_are))
    ∙ number-at_place s.header.params.order (unit_bytes s cells) place n inside

number-spelled : (around : Around) (u : SaidUnit) (cells : List Cell) (s : UnitState) (place n : ℕ) → IsAround around u → IsIn cells s u → place + n ≤ length (unit_bytes s cells)
    → spelled around.lasting.base.order (bytes_of (take n (drop place cells))) 0 (length (take n (drop place cells))) ≡ spelled s.header.params.order (unit_bytes s cells) place n
number-spelled around u cells s place n a i inside =
    ap (λ (order : Order). spelled order (bytes_of (take n (drop place cells))) 0 (length (take n (drop place cells)))) (order-same around u cells s a i)
    ∙ spelled-own u cells s place n i inside

-- what its field reads as, and its address
read-there : (u : SaidUnit) (cells : List Cell) (s : UnitState) (class : ValueClass) (place n : ℕ) (v : Value) → IsIn cells s u → IsSmall n
    → NumberRead class s.header.params.order (unit_bytes s cells) place n v → has_field u.bytes v ≡ true
read-there u cells s class place n v i small r =
    let len = r.len_is in
    let at = r.at_is in
    let inside = r.inside in
    let some = small.0 in
    let few = small.1 in
    let size : length (unit_bytes s cells) ≡ length u.bytes = ap length i.bytes_are in
    field-there u.bytes v (omega (arith, len, some)) (omega (arith, len, few)) (omega (arith, len, at, inside, size))

view-inside : (u : SaidUnit) (cells : List Cell) (s : UnitState) (place n : ℕ) → IsIn cells s u → place + n ≤ length (unit_bytes s cells)
    → place + n ≤ length (section_bytes u.source.view u.header.section)
view-inside u cells s place n i inside =
    let size : length (bytes_of cells) ≡ length (section_bytes u.source.view u.header.section) =
    ap (λ (cs : List Cell). length (bytes_of cs)) i.cells_are ∙ ap length (bytes_of-view_cells u.source.view u.header.section) in
    omega (arith, inside, size, length-take s.header.end (bytes_of cells))

view-order : (u : SaidUnit) (cells : List Cell) (s : UnitState) → IsIn cells s u → s.header.params.order ≡ u.source.view.order
view-order u cells s i = ap (λ h. h.params.order) i.header_is ∙ i.order_is

pub own-field : (u : SaidUnit) (cells : List Cell) (s : UnitState) (class : ValueClass) (place n form : ℕ) (v : Value) → IsIn cells s u → is_leb_form form ≡ false → IsSmall n
    → NumberRead class s.header.params.order (unit_bytes s cells) place n v → field_of s.header.params.order (take v.size (drop place cells)) ≡ value_field u form v
own-field u cells s class place n form v i leb small r =
    let has : has_field u.bytes v ≡ true = read-there u cells s class place n v i small r in
    ap (λ (o : Order). field_of o (take v.size (drop place cells))) (view-order u cells s i)
    ∙ ap (λ (m : ℕ). field_of u.source.view.order (take m (drop place cells))) r.size_is
    ∙ ap (λ (cs : List Cell). field_of u.source.view.order (take n (drop place cs))) i.cells_are
    ∙ field_at-cells u.source.view u.header.section place n small.0 (view-inside u cells s place n i r.inside)
    ∙ ap (λ (k : ℕ). field_at u.source.view u.header.section k n) (sym r.at_is)
    ∙ ap (field_at u.source.view u.header.section v.at) (sym r.len_is)
    ∙ sym (ap (λ (b : Bool). if b || not (has_field u.bytes v) then Num v.number else field_at u.source.view u.header.section v.at v.len) leb
    ∙ ap (λ (b : Bool). if not b then Num v.number else field_at u.source.view u.header.section v.at v.len) has)

pub own-address : (u : SaidUnit) (cells : List Cell) (s : UnitState) (class : ValueClass) (place n : ℕ) (v : Value) → IsIn cells s u → IsSmall n
    → NumberRead class s.header.params.order (unit_bytes s cells) place n v → address_of s.header.params.order (take v.size (drop place cells)) ≡ value_address u v
own-address u cells s class place n v i small r =
    let has : has_field u.bytes v ≡ true = read-there u cells s class place n v i small r in
    ap (λ (o : Order). address_of o (take v.size (drop place cells))) (view-order u cells s i)
    ∙ ap (λ (m : ℕ). address_of u.source.view.order (take m (drop place cells))) r.size_is
    ∙ ap (λ (cs : List Cell). address_of u.source.view.order (take n (drop place cs))) i.cells_are
    ∙ address_at-cells u.source.view u.header.section place n small.0 (view-inside u cells s place n i r.inside)
    ∙ ap (λ (k : ℕ). address_at u.source.view u.header.section k n) (sym r.at_is)
    ∙ ap (address_at u.source.view u.header.section v.at) (sym r.len_is)
    ∙ sym (ap (λ (b : Bool). if b then address_at u.source.view u.header.section v.at v.len else Num v.number) has)

-- an entry of another unit
reference-said : (around : Around) (u : SaidUnit) (f : Field) → IsAround around u → said_of (global_entry around.lasting f) ≡ reference_meant u.source f
reference-said around u (Num n) a =
    ap (λ (k : ℕ). said_of (found_entry (around.lasting.kept Info).entries k n n)) a.info_is ∙ a.entries_are (info_section u.source.view) n n
reference-said around u (Into z n) a =
    ap (λ (ks : List ℕ). said_of (if holds_number ks z then found_entry (around.lasting.kept Info).entries z n n else stray n)) a.infos_are
    ∙ by_info (holds_number (info_numbers ((debug_data u.source.view).found Info)) z)
  where
    by_info : (b : Bool) → said_of (if b then found_entry (around.lasting.kept Info).entries z n n else stray n) ≡ (if b then entry_meant u.source z n n else said_stray n)
    by_info true = a.entries_are z n n
    by_info false = refl
reference-said around u (Sym symbol kind addend) a = refl

-- what a number of a class says
number-class : (around : Around) (u : SaidUnit) (cells : List Cell) (s : UnitState) (says : AttributeUse) (class : ValueClass) (place n form : ℕ) (v : Value) → IsAround around u → IsIn cells s u
    → is_number_class class ≡ true → spelled around.lasting.base.order (bytes_of (take v.size (drop place cells))) 0 (length (take v.size (drop place cells))) ≡ v.number
    → bytes_of (take v.size (drop place cells)) ≡ value_bytes u v → address_of around.lasting.base.order (take v.size (drop place cells)) ≡ value_address u v
    → field_of around.lasting.base.order (take v.size (drop place cells)) ≡ value_field u form v
    → said_of (number_meaning around s says class (take v.size (drop place cells))) ≡ class_meant u class form v
unfolding class_meant
number-class around u cells s says StrIndex place n form v a i ok number bytes address field =
    ap (λ (k : ℕ). said_of (indexed (around.stands StrOffsets) (is_path_use says) (slot_of (around.lasting.kept StrOffsets) s.unit k) (take v.size (drop place cells)))) number
    ∙ ap (λ (k : ℕ). said_of (indexed (around.stands StrOffsets) (is_path_use says) (slot_of (around.lasting.kept StrOffsets) k v.number) (take v.size (drop place cells)))) i.unit_is
    ∙ a.slots_are (is_path_use says) v.number (take v.size (drop place cells))
    ∙ ap (index_meant u.source.view u.source.contributions u.base v.number) bytes
number-class around u cells s says Address place n form v a i ok number bytes address field = ap (said_field Address) address
number-class around u cells s says LocalRef place n form v a i ok number bytes address field =
    ap (λ (m : ℕ). said_of (found_entry (around.lasting.kept Info).entries s.section (s.header.start + m) m)) number
    ∙ ap (λ (k : ℕ). said_of (found_entry (around.lasting.kept Info).entries k (s.header.start + v.number) v.number)) i.section_is
    ∙ ap (λ (k : ℕ). said_of (found_entry (around.lasting.kept Info).entries u.header.section (k + v.number) v.number)) (ap (λ h. h.start) i.header_is)
    ∙ a.entries_are u.header.section (u.header.start + v.number) v.number
number-class around u cells s says GlobalRef place n form v a i ok number bytes address field =
    ap (λ (f : Field). said_of (global_entry around.lasting f)) field ∙ reference-said around u (value_field u form v) a
number-class around u cells s says Number place n form v a i ok number bytes address field = ap (said_field Number) field
number-class around u cells s says Flag place n form v a i ok number bytes address field = ap (said_field Flag) field
number-class around u cells s says AddrIndex place n form v a i ok number bytes address field = ap (said_field AddrIndex) field
number-class around u cells s says ListIndex place n form v a i ok number bytes address field = ap (said_field ListIndex) field
number-class around u cells s says Signature place n form v a i ok number bytes address field = ap (said_field Signature) field
number-class around u cells s says SecOffset place n form v a i ok number bytes address field = ap (said_field SecOffset) field
number-class around u cells s says Signed place n form v a i ok number bytes address field = absurd cc
number-class around u cells s says Bytes place n form v a i ok number bytes address field = absurd cc
number-class around u cells s says InlineText place n form v a i ok number bytes address field = absurd cc
number-class around u cells s says StrOffset place n form v a i ok number bytes address field = absurd cc
number-class around u cells s says LineStrOffset place n form v a i ok number bytes address field = absurd cc

-- a field of a value, in the order of what stands around the unit
around-field : (around : Around) (u : SaidUnit) (cells : List Cell) (s : UnitState) (class : ValueClass) (place n form : ℕ) (v : Value) → IsAround around u → IsIn cells s u
    → is_leb_form form ≡ false → IsSmall n → NumberRead class s.header.params.order (unit_bytes s cells) place n v
    → field_of around.lasting.base.order (take v.size (drop place cells)) ≡ value_field u form v
around-field around u cells s class place n form v a i leb small r =
    ap (λ (o : Order). field_of o (take v.size (drop place cells))) (order-same around u cells s a i) ∙ own-field u cells s class place n form v i leb small r

-- a number of so many bytes says what it is
pub sized-said : (around : Around) (u : SaidUnit) (cells : List Cell) (s : UnitState) (says : AttributeUse) (class : ValueClass) (place n form : ℕ) (v : Value) → IsAround around u → IsIn cells s u
    → FormFacts (number_of class n) form → NumberRead class s.header.params.order (unit_bytes s cells) place n v
    → said_of (number_meaning around s says class (take v.size (drop place cells))) ≡ class_meant u v.class form v
sized-said around u cells s says class place n form v a i f r =
    let inside : place + v.size ≤ length (unit_bytes s cells) = (let e = r.size_is in let le = r.inside in omega (arith, e, le)) in
    let o : Own cells s u place v.size = own-cells cells s u place v.size i inside in
    let size : v.size ≡ v.len = r.size_is ∙ sym r.len_is in
    let number : spelled around.lasting.base.order (bytes_of (take v.size (drop place cells))) 0 (length (take v.size (drop place cells))) ≡ v.number =
    number-spelled around u cells s place v.size a i inside ∙ ap (spelled s.header.params.order (unit_bytes s cells) place) r.size_is ∙ sym r.number_is in
    number-class around u cells s says class place n form v a i f.own number
    (o.bytes_are ∙ ap (λ (m : ℕ). take m (drop place u.bytes)) size ∙ ap (λ (m : ℕ). take v.len (drop m u.bytes)) (sym r.at_is))
    (ap (λ (w : Order). address_of w (take v.size (drop place cells))) (order-same around u cells s a i) ∙ own-address u cells s class place n v i f.small r)
    (around-field around u cells s class place n form v a i (number-plain class n form f) f.small r)
    ∙ ap (λ (c : ValueClass). class_meant u c form v) (sym r.class_is)

-- where a line table starts
pub start-said : (around : Around) (u : SaidUnit) (cells : List Cell) (s : UnitState) (class : ValueClass) (place n form : ℕ) (v : Value) → IsAround around u → IsIn cells s u
    → FormFacts (number_of class n) form → NumberRead class s.header.params.order (unit_bytes s cells) place n v
    → said_of (line_meaning around (take v.size (drop place cells))) ≡ table_meant u.source (value_offset u Line form v)
unfolding offset_of
start-said around u cells s class place n form v a i f r =
    let offset : offset_of around.lasting.base.order (around.stands Line).located (take v.size (drop place cells)) ≡ value_offset u Line form v =
    ap (offset_into (around.stands Line).located) (around-field around u cells s class place n form v a i (number-plain class n form f) f.small r)
    ∙ ap (λ (z : Located). offset_into z (value_field u form v)) a.lines_is in
    ap (λ (k : ℕ). said_of (table_named (start_number 0 (around.stands Line).starts k) k)) offset
    ∙ ap (λ (starts : List ℕ). said_of (table_named (start_number 0 starts (value_offset u Line form v)) (value_offset u Line form v))) a.starts_are
    ∙ by_table (start_number 0 u.source.starts (value_offset u Line form v))
  where
    by_table : (t : Option ℕ) → said_of (table_named t (value_offset u Line form v)) ≡ lines_meant t (value_offset u Line form v)
    by_table None = refl
    by_table (Some k) = refl

-- where a macro unit starts
unit-named-said : (around : Around) (u : SaidUnit) (f : Field) → IsAround around u → unit_named (around.lasting.kept Macro) f ≡ macro_named u.source f
unit-named-said around u (Num n) a =
    ap (λ (k : ℕ). started_unit 0 (around.lasting.kept Macro).starts k n) a.first_is ∙ a.macros_are (first_macro u.source.view) n
unit-named-said around u (Into z n) a = a.macros_are z n
unit-named-said around u (Sym symbol kind addend) a = refl

pub macro-said : (around : Around) (u : SaidUnit) (cells : List Cell) (s : UnitState) (class : ValueClass) (place n form : ℕ) (v : Value) → IsAround around u → IsIn cells s u
    → FormFacts (number_of class n) form → NumberRead class s.header.params.order (unit_bytes s cells) place n v
    → said_of (macro_meaning around.lasting (take v.size (drop place cells))) ≡ macro_meant u.source (value_field u form v)
macro-said around u cells s class place n form v a i f r =
    ap (λ (x : Field). said_of (unit_meant (unit_named (around.lasting.kept Macro) x) x))
    (around-field around u cells s class place n form v a i (number-plain class n form f) f.small r)
    ∙ ap (λ (x : Option ℕ). said_of (unit_meant x (value_field u form v))) (unit-named-said around u (value_field u form v) a)
    ∙ by_unit (macro_named u.source (value_field u form v))
  where
    by_unit : (x : Option ℕ) → said_of (unit_meant x (value_field u form v)) ≡ start_meant x (value_field u form v)
    by_unit None = refl
    by_unit (Some k) = refl

-- and of one in LEB128
leb-class : (around : Around) (u : SaidUnit) (cells : List Cell) (s : UnitState) (says : AttributeUse) (class : ValueClass) (form : ℕ) (p : List Cell) (v : Value) → IsAround around u → IsIn cells s u
    → is_leb_class class ≡ true → code_value p ≡ v.number → bytes_of p ≡ value_bytes u v → value_field u form v ≡ Num v.number
    → said_of (leb_meaning around s says class p) ≡ class_meant u class form v
unfolding class_meant
leb-class around u cells s says StrIndex form p v a i ok number bytes field =
    ap (λ (k : ℕ). said_of (indexed (around.stands StrOffsets) (is_path_use says) (slot_of (around.lasting.kept StrOffsets) s.unit k) p)) number
    ∙ ap (λ (k : ℕ). said_of (indexed (around.stands StrOffsets) (is_path_use says) (slot_of (around.lasting.kept StrOffsets) k v.number) p)) i.unit_is
    ∙ a.slots_are (is_path_use says) v.number p
    ∙ ap (index_meant u.source.view u.source.contributions u.base v.number) bytes
leb-class around u cells s says LocalRef form p v a i ok number bytes field =
    ap (λ (n : ℕ). said_of (found_entry (around.lasting.kept Info).entries s.section (s.header.start + n) n)) number
    ∙ ap (λ (k : ℕ). said_of (found_entry (around.lasting.kept Info).entries k (s.header.start + v.number) v.number)) i.section_is
    ∙ ap (λ (k : ℕ). said_of (found_entry (around.lasting.kept Info).entries u.header.section (k + v.number) v.number)) (ap (λ h. h.start) i.header_is)
    ∙ a.entries_are u.header.section (u.header.start + v.number) v.number
leb-class around u cells s says Number form p v a i ok number bytes field = ap (λ (k : ℕ). said_field Number (Num k)) number ∙ sym (ap (said_field Number) field)
leb-class around u cells s says Flag form p v a i ok number bytes field = ap (λ (k : ℕ). said_field Flag (Num k)) number ∙ sym (ap (said_field Flag) field)
leb-class around u cells s says AddrIndex form p v a i ok number bytes field = ap (λ (k : ℕ). said_field AddrIndex (Num k)) number ∙ sym (ap (said_field AddrIndex) field)
leb-class around u cells s says ListIndex form p v a i ok number bytes field = ap (λ (k : ℕ). said_field ListIndex (Num k)) number ∙ sym (ap (said_field ListIndex) field)
leb-class around u cells s says Signature form p v a i ok number bytes field = ap (λ (k : ℕ). said_field Signature (Num k)) number ∙ sym (ap (said_field Signature) field)
leb-class around u cells s says Address form p v a i ok number bytes field = absurd cc
leb-class around u cells s says SecOffset form p v a i ok number bytes field = absurd cc
leb-class around u cells s says GlobalRef form p v a i ok number bytes field = absurd cc
leb-class around u cells s says Signed form p v a i ok number bytes field = absurd cc
leb-class around u cells s says Bytes form p v a i ok number bytes field = absurd cc
leb-class around u cells s says InlineText form p v a i ok number bytes field = absurd cc
leb-class around u cells s says StrOffset form p v a i ok number bytes field = absurd cc
leb-class around u cells s says LineStrOffset form p v a i ok number bytes field = absurd cc

pub leb-said : (around : Around) (u : SaidUnit) (cells : List Cell) (s : UnitState) (says : AttributeUse) (class : ValueClass) (place form : ℕ) (v : Value) → IsAround around u → IsIn cells s u
    → FormFacts (leb_number class) form → place + v.size ≤ length (unit_bytes s cells) → LebRead class (unit_bytes s cells) place v
    → said_of (leb_meaning around s says class (take v.size (drop place cells))) ≡ class_meant u v.class form v
leb-said around u cells s says class place form v a i f inside r =
    let o : Own cells s u place v.size = own-cells cells s u place v.size i inside in
    let c : NumberPiece s cells place r.number r.size = number-piece s cells place r.number r.size r.read in
    let size : v.size ≡ v.len = r.size_is ∙ sym r.len_is in
    leb-class around u cells s says class form (take v.size (drop place cells)) v a i f.own
    (ap (λ (m : ℕ). code_value (take m (drop place cells))) r.size_is ∙ c.value ∙ sym r.number_is)
    (o.bytes_are ∙ ap (λ (m : ℕ). take m (drop place u.bytes)) size ∙ ap (λ (m : ℕ). take v.len (drop m u.bytes)) (sym r.at_is))
    (ap (λ (b : Bool). if b || not (has_field u.bytes v) then Num v.number else field_at u.source.view u.header.section v.at v.len) f.leb)
    ∙ ap (λ (c : ValueClass). class_meant u c form v) (sym r.class_is)

-- a signed number
fits-read : (bytes : List ℕ) (place : ℕ) (z : ℤ) (n : ℕ) → sleb_at bytes place ≡ Some (z, n) → fits_i64 z ≡ true
unfolding sleb_at
fits-read bytes place z n e = by_read (sleb (drop place bytes)) e
  where
    by_fits : (y : ℤ) (m : ℕ) (b : Bool) → fits_i64 y ≡ b → cond {A = Option (ℤ × ℕ)} b (Some (y, m)) None ≡ Some (z, n) → fits_i64 z ≡ true
    by_fits y m true fits e =
        let pairs : (y, m) ≡ (z, n) = some-once (y, m) (z, n) e in
        subst (λ (k : ℤ). fits_i64 k ≡ true) (ap (λ (q : ℤ × ℕ). q.0) pairs) fits
      where
        some-once : (p q : ℤ × ℕ) → Some p ≡ Some q → p ≡ q
        some-once p q e = cc
    by_fits y m false fits e = absurd cc

    by_read : (o : Option (ℤ × ℕ)) → sleb_within o ≡ Some (z, n) → fits_i64 z ≡ true
    by_read None e = absurd cc
    by_read (Some (y, m)) e = by_fits y m (fits_i64 y) refl e

pub sleb-said : (u : SaidUnit) (cells : List Cell) (s : UnitState) (place form : ℕ) (v : Value) → IsIn cells s u → place + v.size ≤ length (unit_bytes s cells)
    → SignedRead (unit_bytes s cells) place v
    → said_signed (read_signed (sleb_at (bytes_of (take v.size (drop place cells))) 0)) ≡ class_meant u v.class form v
unfolding class_meant
sleb-said u cells s place form v i inside r =
    let o : Own cells s u place v.size = own-cells cells s u place v.size i inside in
    let cut = signed-cut (unit_bytes s cells) place r.number r.size r.read in
    let own : bytes_of (take v.size (drop place cells)) ≡ take r.size (drop place (unit_bytes s cells)) =
    o.bytes_are ∙ ap (λ (bs : List ℕ). take v.size (drop place bs)) (sym i.bytes_are) ∙ ap (λ (m : ℕ). take m (drop place (unit_bytes s cells))) r.size_is in
    let fits : fits_i64 r.number ≡ true = fits-read (unit_bytes s cells) place r.number r.size r.read in
    ap (λ (bs : List ℕ). said_signed (read_signed (sleb_at bs 0))) own
    ∙ ap (λ (q : Option (ℤ × ℕ)). said_signed (read_signed q)) cut.0
    ∙ ap said_signed (sym (ap signed_of r.number_is ∙ signed-back r.number fits))
    ∙ ap (λ (c : ValueClass). class_meant u c form v) (sym r.class_is)

-- bytes behind a count
pub block-said : (u : SaidUnit) (cells : List Cell) (s : UnitState) (place front n form : ℕ) (v : Value) → IsIn cells s u → BlockRead (unit_bytes s cells) place front n v
    → said_bytes (bytes_of (drop front (take v.size (drop place cells)))) ≡ class_meant u v.class form v
unfolding class_meant
block-said u cells s place front n form v i r =
    let inside : place + v.size ≤ length (unit_bytes s cells) = (let e = r.size_is in let le = r.inside in omega (arith, e, le)) in
    let o : Own cells s u place v.size = own-cells cells s u place v.size i inside in
    ap said_bytes (bytes_of-drop front (take v.size (drop place cells)) ∙ ap (drop front) o.bytes_are
    ∙ ap (λ (m : ℕ). drop front (take m (drop place u.bytes))) r.size_is ∙ behind-count u.bytes place front n
    ∙ ap (λ (m : ℕ). take n (drop m u.bytes)) (sym r.at_is) ∙ ap (λ (m : ℕ). take m (drop v.at u.bytes)) (sym r.len_is))
    ∙ ap (λ (c : ValueClass). class_meant u c form v) (sym r.class_is)

-- a text that stands in the value
pub record TextRead (bytes : List ℕ) (place : ℕ) (v : Value) : Type 0 where
  pub at_is : v.at ≡ place
  pub len_is : v.len ≡ length (text_in bytes place)
  pub size_is : v.size ≡ length (text_in bytes place) + 1
  pub class_is : v.class ≡ InlineText
  pub ends : ends_in bytes place ≡ true

pub text-read : (bytes : List ℕ) (place : ℕ) (v : Value) → text_value bytes place ≡ Some v → TextRead bytes place v
text-read bytes place v e = by_end (ends_in bytes place) refl e
  where
    by_end : (b : Bool) → ends_in bytes place ≡ b
        → cond b (Some (record { class = InlineText; number = 0; at = place; len = length (text_in bytes place); size = length (text_in bytes place) + 1 })) None ≡ Some v → TextRead bytes place v
    by_end true is e = record { at_is = cc; len_is = cc; size_is = cc; class_is = cc; ends = is }
    by_end false is e = absurd cc

-- a text with its NUL is that text
text-own : (bs : List ℕ) → has_nul bs ≡ true → text (take (length (text bs) + 1) bs) ≡ text bs
text-own [] e = absurd cc
text-own (b ∷ bs) e = by_nul (b == 0) refl (λ f. text-own bs f) e
  where
    by_nul : (z : Bool) → (b == 0) ≡ z → (has_nul bs ≡ true → text (take (length (text bs) + 1) bs) ≡ text bs) → (z || has_nul bs) ≡ true
        → text (take (length (cond z [] (b ∷ text bs)) + 1) (b ∷ bs)) ≡ cond z [] (b ∷ text bs)
    by_nul true is step f = ap (λ (z : Bool). cond z [] (b ∷ text [])) is
    by_nul false is step f =
        let next : suc (length (text bs)) + 1 ≡ suc (length (text bs) + 1) = omega arith in
        ap (λ (n : ℕ). text (take n (b ∷ bs))) next
        ∙ ap (λ (z : Bool). cond z [] (b ∷ text (take (length (text bs) + 1) bs))) is
        ∙ ap (λ (xs : List ℕ). b ∷ xs) (step f)

pub inline-said : (u : SaidUnit) (cells : List Cell) (s : UnitState) (place form : ℕ) (v : Value) → IsIn cells s u → place + v.size ≤ length (unit_bytes s cells) → TextRead (unit_bytes s cells) place v
    → said_text (text (bytes_of (take v.size (drop place cells)))) ≡ class_meant u v.class form v
unfolding class_meant text_in ends_in
inline-said u cells s place form v i inside r =
    let o : Own cells s u place v.size = own-cells cells s u place v.size i inside in
    let bs : List ℕ = drop place (unit_bytes s cells) in
    let own : bytes_of (take v.size (drop place cells)) ≡ take v.size (drop place (unit_bytes s cells)) =
    o.bytes_are ∙ ap (λ (xs : List ℕ). take v.size (drop place xs)) (sym i.bytes_are) in
    ap said_text (ap text own ∙ ap (λ (m : ℕ). text (take m (drop place (unit_bytes s cells)))) r.size_is ∙ text-own (drop place (unit_bytes s cells)) r.ends
    ∙ text-front (drop place (unit_bytes s cells))
    ∙ ap (λ (m : ℕ). take m (drop place (unit_bytes s cells))) (sym r.len_is)
    ∙ ap (λ (xs : List ℕ). take v.len (drop place xs)) i.bytes_are ∙ ap (λ (m : ℕ). take v.len (drop m u.bytes)) (sym r.at_is))
    ∙ ap (λ (c : ValueClass). class_meant u c form v) (sym r.class_is)

-- a text by an offset
pub offset-said : (around : Around) (u : SaidUnit) (cells : List Cell) (s : UnitState) (table : TextSection) (place n form : ℕ) (v : Value) → IsAround around u → IsIn cells s u
    → FormFacts (text_offset table n) form → NumberRead (offset_class table) s.header.params.order (unit_bytes s cells) place n v
    → said_text (text_in (table_of around table).bytes (offset_of around.lasting.base.order (table_of around table) (take v.size (drop place cells)))) ≡ class_meant u v.class form v
unfolding class_meant offset_of
offset-said around u cells s table place n form v a i f r =
    ap (λ (x : Field). said_text (text_in (table_of around table).bytes (offset_into (table_of around table) x)))
    (around-field around u cells s (offset_class table) place n form v a i (text-plain table n form f) f.small r)
    ∙ by_table table
    ∙ ap (λ (c : ValueClass). class_meant u c form v) (sym r.class_is)
  where
    by_table : (t : TextSection) → said_text (text_in (table_of around t).bytes (offset_into (table_of around t) (value_field u form v))) ≡ class_meant u (offset_class t) form v
    by_table InStr = ap (λ (z : Located). said_text (text_in z.bytes (offset_into z (value_field u form v)))) a.str_is
    by_table InLineStr = ap (λ (z : Located). said_text (text_in z.bytes (offset_into z (value_field u form v)))) a.line_str_is

-- what stands behind a count
pub counted-said : (u : SaidUnit) (cells : List Cell) (s : UnitState) (place n form : ℕ) (v : Value) → IsIn cells s u
    → counted_value (unit_bytes s cells) place n (number_at s.header.params.order (unit_bytes s cells) place n) ≡ Some v
    → said_bytes (bytes_of (drop n (take v.size (drop place cells)))) ≡ class_meant u v.class form v
counted-said u cells s place n form v i e = by_count (number_at s.header.params.order (unit_bytes s cells) place n) e
  where
    by_count : (o : Option ℕ) → counted_value (unit_bytes s cells) place n o ≡ Some v → said_bytes (bytes_of (drop n (take v.size (drop place cells)))) ≡ class_meant u v.class form v
    by_count None e = absurd cc
    by_count (Some k) e = block-said u cells s place n k form v i (block-read (unit_bytes s cells) place n k v e)

-- a number of LEB128 at the front of more bytes
front-number : (bytes : List ℕ) (place k m size : ℕ) → uleb_at bytes place ≡ Some (k, m) → m ≤ size → size ≤ length (drop place bytes)
    → uleb_at (take size (drop place bytes)) 0 ≡ Some (k, m)
front-number bytes place k m size e le room =
    let cut = number-cut bytes place k m e in
    let split : take size (drop place bytes) ≡ take m (drop place bytes) ++ drop m (take size (drop place bytes)) =
    sym (take-append-drop m (take size (drop place bytes))) ∙ ap (λ (xs : List ℕ). xs ++ drop m (take size (drop place bytes))) (take-take m size (drop place bytes) le) in
    ap (λ (xs : List ℕ). uleb_at xs 0) split
    ∙ uleb_at-append (take m (drop place bytes)) (drop m (take size (drop place bytes))) 0 (k, m) (omega arith) cut.0

pub counted-leb-said : (u : SaidUnit) (cells : List Cell) (s : UnitState) (place form : ℕ) (v : Value) → IsIn cells s u
    → counted_leb_value (unit_bytes s cells) place (uleb_at (unit_bytes s cells) place) ≡ Some v
    → said_bytes (bytes_of (drop (read_size (uleb_at (bytes_of (take v.size (drop place cells))) 0)) (take v.size (drop place cells)))) ≡ class_meant u v.class form v
counted-leb-said u cells s place form v i e = by_count (uleb_at (unit_bytes s cells) place) refl e
  where
    by_count : (o : Option (ℕ × ℕ)) → uleb_at (unit_bytes s cells) place ≡ o → counted_leb_value (unit_bytes s cells) place o ≡ Some v
        → said_bytes (bytes_of (drop (read_size (uleb_at (bytes_of (take v.size (drop place cells))) 0)) (take v.size (drop place cells)))) ≡ class_meant u v.class form v
    by_count None is e = absurd cc
    by_count (Some (k, m)) is e =
        let r : BlockRead (unit_bytes s cells) place m k v = block-read (unit_bytes s cells) place m k v e in
        let inside : place + v.size ≤ length (unit_bytes s cells) = (let f = r.size_is in let le = r.inside in omega (arith, f, le)) in
        let o : Own cells s u place v.size = own-cells cells s u place v.size i inside in
        let own : bytes_of (take v.size (drop place cells)) ≡ take v.size (drop place (unit_bytes s cells)) =
        o.bytes_are ∙ ap (λ (xs : List ℕ). take v.size (drop place xs)) (sym i.bytes_are) in
        let front : uleb_at (bytes_of (take v.size (drop place cells))) 0 ≡ Some (k, m) =
        ap (λ (xs : List ℕ). uleb_at xs 0) own
        ∙ front-number (unit_bytes s cells) place k m v.size is (let f = r.size_is in omega (arith, f)) (omega (arith, inside, length-drop place (unit_bytes s cells))) in
        ap (λ (q : Option (ℕ × ℕ)). said_bytes (bytes_of (drop (read_size q) (take v.size (drop place cells))))) front
        ∙ block-said u cells s place m k form v i r
