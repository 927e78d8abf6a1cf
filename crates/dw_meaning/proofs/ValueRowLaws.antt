-- Debug data that can be read and mapped excludes the refusals of texts and of paths that would grow.
use Rattle.std.proofs.Common.{Bool, true, false, ◌≡◌, ℕ, ◌+◌, ◌≤◌, List, [], ◌∷◌, ◌++◌, length, take, drop, Option, Some, None, refl, sym, ap, ◌∙◌, subst, arith, append_assoc, if◌then◌else◌}
use Rattle.std.proofs.lemmas.List.{length-take, take-append-drop}
use Rattle.dw_base.specs.AbbreviationBytes.{abbreviations_at}
use Rattle.dw_base.specs.AbbreviationTables.{Abbreviation, abbreviation_of}
use Rattle.dw_base.specs.Cells.{Cell, Located, bytes_of, cells_at, offset_of}
use Rattle.dw_meaning.specs.DataFails.{text_table, value_offset, TextFails, no_text, InlineFails, grows}
use Rattle.dw_meaning.specs.DataOutput.{DataReads, DataFits}
use Rattle.dw_base.specs.DebugData.{DebugData, DataReadings, ReadsAll, around_of, table_of}
use Rattle.dw_base.specs.Readings.{EachReading}
use Rattle.dw_base.specs.EntryScans.{Scans, split as split_row, is_split_root, depth_behind}
use Rattle.dw_base.specs.EntryValues.{HasUnit, HasTable, HasValue, bytes_up_to}
use Rattle.dw_base.specs.Forms.{ValueKind, inline_text, text_offset}
use Rattle.dw_base.specs.InlinePaths.{inline_fits}
use Rattle.dw_base.specs.Paths.{PathMap}
use Rattle.dw_base.specs.Pieces.{Grammar, Piece, joined, Chain, Leads, EachPiece}
use Rattle.dw_base.specs.Roles.{Role, role_of, role_of_kind, use_of, is_path, is_path_use, offset, inline_path, fixed}
use Rattle.dw_base.specs.TextChanges.{NamesText, NamesTextBy, InlineFits, InlineFitsBy}
use Rattle.dw_base.specs.Texts.{text, has_nul, text_in, ends_in}
use Rattle.dw_base.specs.UnitHeaders.{UnitBase, UnitSection}
use Rattle.dw_base.specs.UnitPieces.{unit_grammar}
use Rattle.dw_base.specs.UnitStates.{UnitState, inside}
use Rattle.dw_base.specs.declared.fault.Refusal.{Refusal}
use Rattle.dw_base.specs.declared.units.UnitHeader.{UnitHeader}
use Rattle.dw_base.specs.declared.values.Spec.{Spec}
use Rattle.dw_base.specs.declared.values.Value.{Value}
use Rattle.dw_base.specs.declared.values.ValueClass.{ValueClass}
use Rattle.dw_base.specs.declared.values.ValueClass.TheVariants.{Address, Number, Signed, Bytes, Flag, InlineText, StrOffset, LineStrOffset, StrIndex, AddrIndex, ListIndex, LocalRef, GlobalRef, Signature, SecOffset}
use Rattle.dw_base.specs.declared.shared.Order.{Order}
use Rattle.dw_base.specs.Numbers.{number_at}
use Rattle.dw_base.specs.Values.{value_of, number_value, offset_class}
use Rattle.std.specs.Prelude.{ℤ}
use Rattle.dw_base.proofs.ClassLaws.{class_of_kind, value-class, inline-kind, offset-kind}
use Rattle.dw_base.proofs.TextLaws.{text-append}
use Rattle.dw_meaning.proofs.ValueCutLaws.{IsCut, value_of-own}
use Rattle.dw_base.proofs.AbbreviationLaws.{table-found, table-one}
use Rattle.dw_base.specs.declared.debug_sections.DebugSection.TheVariants.{Str, LineStr}
use Rattle.dw_base.specs.declared.texts.TextSection.{TextSection}
use Rattle.dw_base.specs.declared.texts.TextSection.TheVariants.{InStr, InLineStr}
use Rattle.dw_meaning.proofs.DataRowLaws.{WholeUnit, SectionRead, section-among, unit-whole}
use Rattle.dw_meaning.proofs.EntryRowLaws.{entries-exclude}
use Rattle.dw_meaning.proofs.PieceLaws.{Rest, chain-rest, chain-unique, leads-more, joined-append}
use Rattle.dw_meaning.proofs.ScanPieceLaws.{Run, run-more, before-end, part-bytes}
use Rattle.dw_meaning.proofs.ScanSectionLaws.{before, in_headed, header-placed, header-run, units-run}
use Rattle.dw_meaning.proofs.ScanUnitLaws.{scan-run, code-run, values-run}
use Rattle.dw_meaning.proofs.UnitOneLaws.{units_one_way}
use Rattle.dw_meaning.proofs.ValuePieceLaws.{ValuePiece, value-pieces}

-- pieces that lead somewhere, and a chain from there
leads-chain-more : (g : Grammar) (s t : g.State) (xs ys : List (Piece g.State)) → Leads g s xs t → Chain g t ys → Chain g s (xs ++ ys)
leads-chain-more g s t [] ys l c = subst (λ (z : g.State). Chain g z ys) (sym l) c
leads-chain-more g s t (x ∷ xs) ys l c = (l.0, l.1, leads-chain-more g (g.next x.state x.cells) t xs ys l.2 c)

each-front : (P : Piece UnitState → Type 0) (xs ys : List (Piece UnitState)) → EachPiece P (xs ++ ys) → EachPiece P xs
each-front P [] ys h = tt
each-front P (x ∷ xs) ys h = (h.0, each-front P xs ys h.1)

each-last : (P : Piece UnitState → Type 0) (xs : List (Piece UnitState)) (x : Piece UnitState) → EachPiece P (xs ++ x ∷ []) → P x
each-last P [] x h = h.0
each-last P (y ∷ ys) x h = each-last P ys x h.1

-- what holds of each piece of a section holds of those that are met in it
pub each-met : (base : UnitBase) (z : UnitSection) (P : Piece UnitState → Type 0) (r : SectionRead base z P) (t : UnitState) (xs : List (Piece UnitState)) (x : Piece UnitState) (place : ℕ)
    → Leads (unit_grammar base) (before z 0 r.first) (xs ++ x ∷ []) t → joined (xs ++ x ∷ []) ++ drop place z.contents ≡ z.contents → P x
each-met base z P r t xs x place leads covers =
    let g : Grammar = unit_grammar base in
    let rest : Rest (unit_grammar base) t (drop place z.contents) =
    chain-rest (unit_grammar base) (units_one_way base) (before z 0 r.first) t (xs ++ x ∷ []) r.pieces (drop place z.contents) leads r.reads.chain (r.reads.cells ∙ sym covers) in
    let chain : Chain (unit_grammar base) (before z 0 r.first) ((xs ++ x ∷ []) ++ rest.pieces) =
    leads-chain-more (unit_grammar base) (before z 0 r.first) t (xs ++ x ∷ []) rest.pieces leads rest.chain in
    let whole : joined r.pieces ≡ joined ((xs ++ x ∷ []) ++ rest.pieces) =
    r.reads.cells ∙ sym covers ∙ ap (λ (c : List Cell). joined (xs ++ x ∷ []) ++ c) (sym rest.cells) ∙ sym (joined-append (xs ++ x ∷ []) rest.pieces) in
    let same : r.pieces ≡ (xs ++ x ∷ []) ++ rest.pieces =
    chain-unique (unit_grammar base) (units_one_way base) (before z 0 r.first) r.pieces ((xs ++ x ∷ []) ++ rest.pieces) r.reads.chain chain whole in
    each-last P xs x (each-front P (xs ++ x ∷ []) rest.pieces (subst (λ (ys : List (Piece UnitState)). EachPiece P ys) same r.each))

-- a value that is met, its piece, and what holds of it
pub record MetValue (base : UnitBase) (z : UnitSection) (h : UnitHeader) (number : ℕ) (a : Abbreviation) (x : Spec) (place : ℕ) (v : Value) (P : Piece UnitState → Type 0) : Type 0 where
  pub start : ℕ
  pub unit : ℕ
  pub e : ℕ
  pub d : ℕ
  pub behind : List Spec
  pub piece : ValuePiece base z.contents (in_headed base z start unit h) place e d number a.tag x behind v
  pub holds : P piece.last

-- an entry that was met in a unit that can be read isn't one of split DWARF
not_split : (d : DebugData) (rs : DataReadings) (z : UnitSection) (h : UnitHeader) (list : List Abbreviation) (number : ℕ) (a : Abbreviation) (x : Spec) (place : ℕ) (v : Value)
    → DataReads d rs → HasTable d z h list → (y : HasValue h list (bytes_up_to z h) number a x place v) → is_split_root (length y.items) a ≡ false
not_split d rs z h list number a x place v reads t y = by_split (is_split_root (length y.items) a) refl
  where
    w : WholeUnit d.base z t.unit.start h
    w = unit-whole d rs z h reads t.unit

    by_split : (b : Bool) → is_split_root (length y.items) a ≡ b → b ≡ false
    by_split false is = refl
    by_split true is =
        let same : w.table ≡ list = table-one d.base.abbrevs.bytes h.abbrevs w.table list w.is.is t.declares.is in
        absurd (entries-exclude h list (bytes_up_to z h) w.items _ (omega (arith, length-take h.end (bytes_of z.contents)))
        (subst (λ (xs : List Abbreviation). Scans h xs (bytes_up_to z h) w.items h.end 0) same w.entries)
        (split_row y.items y.start y.depth y.code y.size a y.scans y.spells y.some y.listed is))

pub value-met-in : (d : DebugData) (rs : DataReadings) (z : UnitSection) (h : UnitHeader) (list : List Abbreviation) (number : ℕ) (a : Abbreviation) (x : Spec) (place : ℕ) (v : Value)
    (P : Piece UnitState → Type 0) → DataReads d rs → SectionRead d.base z P → HasTable d z h list → HasValue h list (bytes_up_to z h) number a x place v
    → MetValue d.base z h number a x place v P
value-met-in d rs z h list number a x place v P reads r t y =
    let u : HasUnit d z h = t.unit in
    let w : WholeUnit d.base z t.unit.start h = unit-whole d rs z h reads t.unit in
    let unit : ℕ = r.first + length w.list in
    let s : UnitState = in_headed d.base z t.unit.start (r.first + length w.list) h in
    let found : abbreviations_at d.base.abbrevs.bytes h.abbrevs ≡ list = table-found d.base.abbrevs.bytes h.abbrevs list t.declares.is in
    let root : is_split_root (length y.items) a ≡ false = not_split d rs z h list number a x place v reads t y in
    let one = units-run d.base z r.first w.list t.unit.start w.before in
    let two = header-run d.base z t.unit.start (r.first + length w.list) h w.table t.unit.is (header-placed d.base z t.unit.start h t.unit.is.header) w.is in
    let scans : Scans h (abbreviations_at d.base.abbrevs.bytes h.abbrevs) (bytes_up_to z h) y.items y.start y.depth =
    subst (λ (xs : List Abbreviation). Scans h xs (bytes_up_to z h) y.items y.start y.depth) (sym found) y.scans in
    let three = scan-run d.base z.contents (in_headed d.base z t.unit.start (r.first + length w.list) h) y.items y.start y.depth scans in
    let listed : abbreviation_of (abbreviations_at d.base.abbrevs.bytes h.abbrevs) y.code ≡ Some a = ap (λ (xs : List Abbreviation). abbreviation_of xs y.code) found ∙ y.listed in
    let four = code-run d.base z.contents (in_headed d.base z t.unit.start (r.first + length w.list) h) y.start (length y.items) y.depth y.code y.size a y.spells y.some listed root in
    let five : Run d.base z.contents
    (inside (in_headed d.base z t.unit.start (r.first + length w.list) h) (y.start + y.size) (length y.items + 1) (depth_behind a y.depth) (length y.items) a.tag a.specs)
    (inside (in_headed d.base z t.unit.start (r.first + length w.list) h) place (length y.items + 1) (depth_behind a y.depth) (length y.items) a.tag (x ∷ y.behind))
    (y.start + y.size) place =
    subst (λ (xs : List Spec). Run d.base z.contents
    (inside (in_headed d.base z t.unit.start (r.first + length w.list) h) (y.start + y.size) (length y.items + 1) (depth_behind a y.depth) (length y.items) a.tag xs)
    (inside (in_headed d.base z t.unit.start (r.first + length w.list) h) place (length y.items + 1) (depth_behind a y.depth) (length y.items) a.tag (x ∷ y.behind))
    (y.start + y.size) place) (sym y.attribute)
    (values-run d.base z.contents (in_headed d.base z t.unit.start (r.first + length w.list) h) (y.start + y.size) (length y.items + 1) (depth_behind a y.depth) (length y.items) a.tag
    y.before (x ∷ y.behind) place y.values) in
    let ab = run-more d.base z.contents _ _ _ 0 t.unit.start h.first one two in
    let abc = run-more d.base z.contents _ _ _ 0 h.first y.start ab three in
    let abcd = run-more d.base z.contents _ _ _ 0 y.start (y.start + y.size) abc four in
    let all = run-more d.base z.contents _ _ _ 0 (y.start + y.size) place abcd five in
    let p : ValuePiece d.base z.contents (in_headed d.base z t.unit.start (r.first + length w.list) h) place (length y.items + 1) (depth_behind a y.depth) (length y.items) a.tag x y.behind v =
    value-pieces d.base z.contents (in_headed d.base z t.unit.start (r.first + length w.list) h) place (length y.items + 1) (depth_behind a y.depth) (length y.items) a.tag x y.behind v y.is in
    let leads = leads-more (unit_grammar d.base) _ _ _ all.pieces (p.front ++ p.last ∷ []) all.leads p.leads in
    let shape : all.pieces ++ (p.front ++ p.last ∷ []) ≡ (all.pieces ++ p.front) ++ p.last ∷ [] = sym (append_assoc all.pieces p.front (p.last ∷ [])) in
    let covers : joined (all.pieces ++ (p.front ++ p.last ∷ [])) ++ drop (place + v.size) z.contents ≡ z.contents =
    ap (λ (c : List Cell). c ++ drop (place + v.size) z.contents) (joined-append all.pieces (p.front ++ p.last ∷ []))
    ∙ append_assoc (joined all.pieces) (joined (p.front ++ p.last ∷ [])) (drop (place + v.size) z.contents)
    ∙ ap (λ (c : List Cell). joined all.pieces ++ c) p.covers ∙ all.covers in
    let met : P p.last =
    each-met d.base z P r _ (all.pieces ++ p.front) p.last (place + v.size)
    (subst (λ (xs : List (Piece UnitState)). Leads (unit_grammar d.base) (before z 0 r.first) xs
    (inside (in_headed d.base z t.unit.start (r.first + length w.list) h) (place + v.size) (length y.items + 1) (depth_behind a y.depth) (length y.items) a.tag y.behind)) shape leads)
    (subst (λ (xs : List (Piece UnitState)). joined xs ++ drop (place + v.size) z.contents ≡ z.contents) shape covers) in
    by_number p met y.nth
  where
    by_number : {start unit : ℕ} {e dd n : ℕ} {behind_ : List Spec} → (p : ValuePiece d.base z.contents (in_headed d.base z start unit h) place e dd n a.tag x behind_ v) → P p.last → n ≡ number
        → MetValue d.base z h number a x place v P
    by_number {start} {unit} {e} {dd} {n} {behind_} p met same =
        subst (λ (k : ℕ). MetValue d.base z h k a x place v P) same
        (record { start = start; unit = unit; e = e; d = dd; behind = behind_; piece = p; holds = met })

pub value-met : (d : DebugData) (rs : DataReadings) (z : UnitSection) (h : UnitHeader) (list : List Abbreviation) (number : ℕ) (a : Abbreviation) (x : Spec) (place : ℕ) (v : Value)
    (P : Piece UnitState → Type 0) → DataReads d rs → EachReading P rs.units → HasTable d z h list → HasValue h list (bytes_up_to z h) number a x place v
    → MetValue d.base z h number a x place v P
value-met d rs z h list number a x place v P reads each t y =
    value-met-in d rs z h list number a x place v P reads
    (section-among d.base P 0 t.unit.before t.unit.behind z rs.units (subst (λ (zs : List UnitSection). ReadsAll d.base 0 zs rs.units) t.unit.sections reads.units) each) t y

-- the parts of a value that is a number of so many bytes
pub number-parts : (class : ValueClass) (at n : ℕ) (o : Option ℕ) (v : Value) → number_value class at n o ≡ Some v → (v.at ≡ at) × (v.len ≡ v.size)
number-parts class at n None v e = absurd cc
number-parts class at n (Some x) v e =
    let same : record { class = class; number = x; at = at; len = n; size = n } ≡ v = once _ v e in
    (sym (ap (λ (w : Value). w.at) same), sym (ap (λ (w : Value). w.len) same) ∙ ap (λ (w : Value). w.size) same)
  where
    once : (w v : Value) → Some w ≡ Some v → w ≡ v
    once w v e = cc

pub offset-parts : (table : TextSection) (n : ℕ) (o : Order) (bytes : List ℕ) (at : ℕ) (i : ℤ) (v : Value) → value_of (text_offset table n) o bytes at i ≡ Some v → (v.at ≡ at) × (v.len ≡ v.size)
unfolding value_of
offset-parts table n o bytes at i v e = number-parts (offset_class table) at n (number_at o bytes at n) v e

-- the cells of a value that is an offset are those of its field
field-cells : (base : UnitBase) (z : UnitSection) (h : UnitHeader) (number : ℕ) (a : Abbreviation) (x : Spec) (place : ℕ) (v : Value) (P : Piece UnitState → Type 0) (table : TextSection) (n : ℕ)
    → (w : MetValue base z h number a x place v P) → w.piece.kind ≡ text_offset table n → w.piece.last.cells ≡ cells_at z.contents v.at v.len
field-cells base z h number a x place v P table n w k =
    let s : UnitState = in_headed base z w.start w.unit h in
    let is : value_of (text_offset table n) h.params.order (bytes_up_to z h) w.piece.field x.implicit ≡ Some w.piece.value =
    ap (λ (y : ValueKind). value_of y h.params.order (bytes_up_to z h) w.piece.field x.implicit) (sym k) ∙ w.piece.is in
    let parts = offset-parts table n h.params.order (bytes_up_to z h) w.piece.field x.implicit w.piece.value is in
    w.piece.own_cells
    ∙ ap (λ (m : ℕ). take m (drop w.piece.field z.contents)) (sym parts.1 ∙ w.piece.len)
    ∙ ap (λ (m : ℕ). take v.len (drop m z.contents)) (sym parts.0 ∙ w.piece.at)

-- an offset of a class of texts names one
offset-names : (d : DebugData) (rs : DataReadings) (z : UnitSection) (h : UnitHeader) (number : ℕ) (a : Abbreviation) (x : Spec) (place : ℕ) (v : Value) (table : TextSection)
    → MetValue d.base z h number a x place v (NamesText (around_of d rs)) → v.class ≡ offset_class table
    → ends_in (table_of (around_of d rs) table).bytes (offset_of d.base.order (table_of (around_of d rs) table) (cells_at z.contents v.at v.len)) ≡ true
offset-names d rs z h number a x place v table w class =
    let of_kind : class_of_kind w.piece.kind ≡ Some (offset_class table) =
    value-class w.piece.kind h.params.order (bytes_up_to z h) w.piece.field x.implicit w.piece.value w.piece.is
    ∙ ap (λ (c : ValueClass). Some c) (w.piece.class ∙ class) in
    let k = offset-kind w.piece.kind table w.piece.proper of_kind in
    let role : role_of w.piece.last ≡ offset table (is_path_use (use_of number a.tag x.name)) =
    w.piece.role ∙ ap (λ (y : ValueKind). role_of_kind y (use_of number a.tag x.name)) k.1 in
    let names : NamesTextBy (offset table (is_path_use (use_of number a.tag x.name))) (around_of d rs) w.piece.last.cells =
    subst (λ (y : Role). NamesTextBy y (around_of d rs) w.piece.last.cells) role w.holds in
    ap (λ (p : List Cell). ends_in (table_of (around_of d rs) table).bytes (offset_of d.base.order (table_of (around_of d rs) table) p))
    (sym (field-cells d.base z h number a x place v (NamesText (around_of d rs)) table k.0 w k.1)) ∙ names

-- debug data that can be read has no offset that names no text
pub texts-exclude : (d : DebugData) (rs : DataReadings) (r : Refusal) → DataReads d rs → TextFails d r → ⊥
texts-exclude d rs r reads (no_text z h list number a x place v table t y class placed ends) = by_class v.class refl class
  where
    w : MetValue d.base z h number a x place v (NamesText (around_of d rs))
    w = value-met d rs z h list number a x place v (NamesText (around_of d rs)) reads reads.texts t y

    clash : (section : TextSection) → v.class ≡ offset_class section → table_of (around_of d rs) section ≡ table → ⊥
    clash section c same =
        let names : ends_in (table_of (around_of d rs) section).bytes (offset_of d.base.order (table_of (around_of d rs) section) (cells_at z.contents v.at v.len)) ≡ true =
        offset-names d rs z h number a x place v section w c in
        let yes : ends_in table.bytes (value_offset d z v table) ≡ true =
        subst (λ (u : Located). ends_in u.bytes (offset_of d.base.order u (cells_at z.contents v.at v.len)) ≡ true) same names in
        cc

    once : (u s : Located) → Some u ≡ Some s → u ≡ s
    once u s e = cc

    by_class : (c : ValueClass) → v.class ≡ c → text_table d c ≡ Some table → ⊥
    by_class StrOffset is found = clash InStr is (once (d.found Str) table found)
    by_class LineStrOffset is found = clash InLineStr is (once (d.found LineStr) table found)
    by_class Address is found = cc
    by_class Number is found = cc
    by_class Signed is found = cc
    by_class Bytes is found = cc
    by_class Flag is found = cc
    by_class InlineText is found = cc
    by_class StrIndex is found = cc
    by_class AddrIndex is found = cc
    by_class ListIndex is found = cc
    by_class LocalRef is found = cc
    by_class GlobalRef is found = cc
    by_class Signature is found = cc
    by_class SecOffset is found = cc

-- the text of a value that is one
text-parts : (o : Order) (bytes : List ℕ) (at : ℕ) (i : ℤ) (v : Value) → value_of inline_text o bytes at i ≡ Some v → v.at ≡ at
unfolding value_of
text-parts o bytes at i v e = by_end (ends_in bytes at) e
  where
    once : (w v : Value) → Some w ≡ Some v → w ≡ v
    once w v e = cc

    by_end : (b : Bool) → (if b then Some (record { class = InlineText; number = 0; at = at; len = length (text_in bytes at); size = length (text_in bytes at) + 1 }) else None) ≡ Some v → v.at ≡ at
    by_end true e = sym (ap (λ (w : Value). w.at) (once _ v e))
    by_end false e = absurd cc

own-nul : (o : Order) (bs : List ℕ) (i : ℤ) (v : Value) → value_of inline_text o bs 0 i ≡ Some v → has_nul bs ≡ true
unfolding value_of ends_in
own-nul o bs i v e = by_end (has_nul bs) e
  where
    by_end : (b : Bool) → (if b then Some (record { class = InlineText; number = 0; at = 0; len = length (text_in bs 0); size = length (text_in bs 0) + 1 }) else None) ≡ Some v → b ≡ true
    by_end true e = refl
    by_end false e = absurd cc

text-cells : (o : Order) (cells : List Cell) (end at : ℕ) (i : ℤ) (v : Value) → value_of inline_text o (take end (bytes_of cells)) at i ≡ Some v
    → text (bytes_of (take v.size (drop at cells))) ≡ text_in (take end (bytes_of cells)) at
unfolding text_in
text-cells o cells end at i v e =
    let c : IsCut inline_text o (take end (bytes_of cells)) at i v.size = value_of-own inline_text o (take end (bytes_of cells)) at i v e in
    let before_ : at + v.size ≤ end = before-end (at + v.size) end (bytes_of cells) c.inside in
    let nul : has_nul (take v.size (drop at (take end (bytes_of cells)))) ≡ true = own-nul o (take v.size (drop at (take end (bytes_of cells)))) i c.value c.is in
    ap text (sym (part-bytes v.size at end cells before_))
    ∙ sym (text-append (take v.size (drop at (take end (bytes_of cells)))) (drop v.size (drop at (take end (bytes_of cells)))) nul)
    ∙ ap text (take-append-drop v.size (drop at (take end (bytes_of cells))))

path-use : (number tag name : ℕ) → is_path number tag name ≡ true → is_path_use (use_of number tag name) ≡ true
path-use number tag name e = rw e refl

-- and none of its paths would grow where all fit their rooms
pub inline-excludes : (m : PathMap) (d : DebugData) (rs : DataReadings) (r : Refusal) → DataReads d rs → DataFits m d rs → InlineFails m d r → ⊥
inline-excludes m d rs r reads fits (grows z h list number a x place v t y path class over) =
    let w : MetValue d.base z h number a x place v (InlineFits m) = value-met d rs z h list number a x place v (InlineFits m) reads fits.inline t y in
    let of_kind : class_of_kind w.piece.kind ≡ Some InlineText =
    value-class w.piece.kind h.params.order (bytes_up_to z h) w.piece.field x.implicit w.piece.value w.piece.is
    ∙ ap (λ (c : ValueClass). Some c) (w.piece.class ∙ class) in
    let k : w.piece.kind ≡ inline_text = inline-kind w.piece.kind w.piece.proper of_kind in
    let role : role_of w.piece.last ≡ inline_path =
    w.piece.role ∙ ap (λ (y : ValueKind). role_of_kind y (use_of number a.tag x.name)) k
    ∙ ap (λ (b : Bool). if b then inline_path else fixed) (path-use number a.tag x.name path) in
    let fit : inline_fits m (text (bytes_of w.piece.last.cells)) ≡ true = subst (λ (y : Role). InlineFitsBy y m w.piece.last.cells) role w.holds in
    let is : value_of inline_text h.params.order (bytes_up_to z h) w.piece.field x.implicit ≡ Some w.piece.value =
    ap (λ (y : ValueKind). value_of y h.params.order (bytes_up_to z h) w.piece.field x.implicit) (sym k) ∙ w.piece.is in
    let words : text (bytes_of w.piece.last.cells) ≡ text_in (bytes_up_to z h) v.at =
    ap (λ (p : List Cell). text (bytes_of p)) w.piece.own_cells
    ∙ text-cells h.params.order z.contents h.end w.piece.field x.implicit w.piece.value is
    ∙ ap (text_in (bytes_up_to z h)) (sym (text-parts h.params.order (bytes_up_to z h) w.piece.field x.implicit w.piece.value is) ∙ w.piece.at) in
    let yes : inline_fits m (text_in (bytes_up_to z h) v.at) ≡ true = ap (inline_fits m) (sym words) ∙ fit in
    cc
