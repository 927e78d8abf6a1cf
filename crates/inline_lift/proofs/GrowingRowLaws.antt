-- Where no row of the lift holds, the paths of debug data that would grow can be offsets: what is so of each value and each entry of a unit is so of
-- each piece of its section (DWARF 5, 7.5.1 to 7.5.6).
use Rattle.std.proofs.Common.{Bool, true, false, ◌≡◌, ◌≢◌, ◌⊎◌, inl, inr, ℤ, ℕ, ◌+◌, ◌-◌, ◌<◌, ◌≤◌, ◌==◌, List, [], ◌∷◌, ◌++◌, length, take, drop, Option, Some, None, refl, sym, ap, ◌∙◌, subst, arith, if◌then◌else◌, append_assoc, length-append}
use Rattle.std.specs.Prelude.{⊤}
use Rattle.std.proofs.lemmas.Bool.{cases_lt, eqb-true, eq-eqb, ne_eqb}
use Rattle.std.proofs.lemmas.List.{take-append-drop}
use Rattle.dw_base.specs.AbbreviationBytes.{abbreviations_at}
use Rattle.dw_base.specs.AbbreviationTables.{Abbreviation, abbreviation_of}
use Rattle.dw_base.specs.Cells.{Cell, bytes_of}
use Rattle.dw_base.specs.DebugData.{DebugData, DataReadings, ReadsAll, units_in}
use Rattle.dw_base.specs.EntryScans.{AreEntries, Scans, SpellsValues, entry, more_values, no_values, null, scanned, starts}
use Rattle.dw_base.specs.EntryValues.{HasTable, HasValue, bytes_up_to}
use Rattle.dw_base.specs.Forms.{ValueKind, form_in_front, inline_text, kind_in, width_size}
use Rattle.dw_base.specs.InlinePaths.{inline_fits}
use Rattle.dw_base.specs.Lebs.{uleb_at}
use Rattle.dw_base.specs.Paths.{PathMap}
use Rattle.dw_base.specs.Pieces.{EachPiece, Piece}
use Rattle.dw_base.specs.Readings.{Readings}
use Rattle.dw_base.specs.Refusals.{at}
use Rattle.dw_base.specs.Roles.{is_macros, is_path, is_path_use, role_of_kind, use_of}
use Rattle.dw_base.specs.Texts.{ends_in, has_nul, text, text_in}
use Rattle.dw_base.specs.UnitHeaders.{IsUnit, UnitBase, UnitSection}
use Rattle.dw_base.specs.UnitPieces.{ReadsUnits, unit_grammar}
use Rattle.dw_base.specs.UnitStates.{Mode, UnitState, at_chosen, at_code, at_values, before_unit, between, code_value}
use Rattle.dw_base.specs.UnitTables.{IsUnitTable}
use Rattle.dw_base.specs.Values.{value_at, value_of}
use Rattle.dw_base.specs.declared.debug_sections.DebugSection.TheVariants.{Info}
use Rattle.dw_base.specs.declared.dwarf_numbers.TheConstants.{DW_AT_stmt_list}
use Rattle.dw_base.specs.declared.fault.Kind.TheVariants.{InlineGrows}
use Rattle.dw_base.specs.declared.fault.Refusal.{Refusal}
use Rattle.dw_base.specs.declared.shared.Order.{Order}
use Rattle.dw_base.specs.declared.units.Scanned.{Scanned}
use Rattle.dw_base.specs.declared.units.UnitHeader.{UnitHeader}
use Rattle.dw_base.specs.declared.values.AttributeUse.TheVariants.{NamesLineTable, NamesMacroUnit, NamesOther, NamesPath}
use Rattle.dw_base.specs.declared.values.Spec.{Spec}
use Rattle.dw_base.specs.declared.values.Value.{Value}
use Rattle.dw_base.specs.declared.values.ValueClass.TheVariants.{InlineText}
use Rattle.dw_base.proofs.AbbreviationLaws.{table-found}
use Rattle.dw_base.proofs.FormLaws.{value_by-own}
use Rattle.dw_base.proofs.TextLaws.{text-append}
use Rattle.dw_meaning.specs.FileMeanings.{file_data}
use Rattle.dw_meaning.specs.PieceRuns.{all_of, any_piece, entries_out, entry_out, value_out, values_out}
use Rattle.dw_meaning.specs.UnitScans.{UnitsScanned, more_scanned, none_scanned}
use Rattle.dw_meaning.proofs.DataOneLaws.{reads-one}
use Rattle.dw_meaning.proofs.DataRowLaws.{scanned-units}
use Rattle.dw_meaning.proofs.RunLaws.{PieceRun, WholeRun, run-more, run-none, run-one, run-whole}
use Rattle.dw_meaning.proofs.ScanBackLaws.{section-scanned}
use Rattle.dw_meaning.proofs.ScanPieceLaws.{Chosen, before-end, chosen-read, is_front, part-bytes, part-length, unit_bytes}
use Rattle.dw_meaning.proofs.ScanSectionLaws.{HeaderPiece, before, header-piece, header-placed, in_headed}
use Rattle.dw_meaning.proofs.UnitRunLaws.{UnitSays, entries_out-more, entry_out-is, scan-run}
use Rattle.dw_meaning.proofs.ValueCutLaws.{IsCut, value_of-own}
use Rattle.inline_lift.specs.GrowingPaths.{grows_by}
use Rattle.inline_lift.specs.LiftFails.{HasGrowing, LiftFails, code_again, form_before, hindered, short}
use Rattle.inline_lift.proofs.AllLiftLaws.{found-code}
use Rattle.inline_lift.proofs.LiftedValueLaws.{path-first}
use Rattle.inline_lift.proofs.TurnedLaws.{GrowsAt, grows-kind}

-- What a piece says of an entry and its values: the entry's number and code; or a value of an attribute, its kind, whether that stood in front of it,
-- and its cells
pub data Said : Type 0 where
  code_said : UnitHeader → List Abbreviation → ℕ → ℕ → Said
  value_said : UnitHeader → List Abbreviation → ℕ → ℕ → ℕ → ValueKind → Bool → List Cell → Said

abbrev pub said_kind : ValueKind → UnitHeader → List Abbreviation → ℕ → ℕ → ℕ → List Cell → List Said
said_kind form_in_front h table number tag name p = []
said_kind k h table number tag name p = value_said h table number tag name k false p ∷ []

abbrev pub said_by : Mode → UnitState → List Cell → List Said
said_by at_code s p = if code_value p == 0 then [] else code_said s.header s.table s.entry (code_value p) ∷ []
said_by (at_values number tag (x ∷ xs)) s p = said_kind (kind_in s.header.params x.form) s.header s.table number tag x.name p
said_by (at_chosen number tag start x xs) s p = value_said s.header s.table number tag x.name (kind_in s.header.params x.form) true p ∷ []
said_by m s p = []

abbrev pub saids : Piece UnitState → List Said
saids x = said_by x.state.mode x.state x.cells

-- and what an entry and a value at a place are
abbrev entry_said : UnitHeader → List Abbreviation → ℕ → ℕ → ℕ → Abbreviation → List Said
entry_said h table number place depth a = code_said h table number a.code ∷ []

abbrev front_said : UnitHeader → List Abbreviation → List Cell → ℕ → ℕ → ℕ → ℕ → Value → Option (ℕ × ℕ) → List Said
front_said h table cells number tag name place v None = []
front_said h table cells number tag name place v (Some (form, size)) =
    value_said h table number tag name (kind_in h.params form) true (take (v.size - size) (drop (place + size) cells)) ∷ []

abbrev kind_said : ValueKind → UnitHeader → List Abbreviation → List ℕ → List Cell → ℕ → ℕ → ℕ → ℕ → Value → List Said
kind_said form_in_front h table bytes cells number tag name place v = front_said h table cells number tag name place v (uleb_at bytes place)
kind_said k h table bytes cells number tag name place v = value_said h table number tag name k false (take v.size (drop place cells)) ∷ []

abbrev spec_said : UnitHeader → List Abbreviation → List ℕ → List Cell → ℕ → ℕ → Spec → ℕ → Value → List Said
spec_said h table bytes cells number tag x place v = kind_said (kind_in h.params x.form) h table bytes cells number tag x.name place v

own-piece : (k : ValueKind) (h : UnitHeader) (table : List Abbreviation) (bytes : List ℕ) (cells : List Cell) (number tag name place : ℕ) (v : Value) → k ≢ form_in_front
    → said_kind k h table number tag name (take v.size (drop place cells)) ≡ kind_said k h table bytes cells number tag name place v
own-piece form_in_front h table bytes cells number tag name place v other = absurd (other refl)
own-piece k h table bytes cells number tag name place v other = refl

own-said : (k : ValueKind) (h : UnitHeader) (table : List Abbreviation) (bytes : List ℕ) (cells : List Cell) (number tag name place : ℕ) (v : Value) → k ≢ form_in_front
    → value_said h table number tag name k false (take v.size (drop place cells)) ∷ [] ≡ kind_said k h table bytes cells number tag name place v
own-said form_in_front h table bytes cells number tag name place v other = absurd (other refl)
own-said k h table bytes cells number tag name place v other = refl

chosen-said : (h : UnitHeader) (table : List Abbreviation) (x : Spec) (bytes : List ℕ) (cells : List Cell) (number tag place : ℕ) (v : Value) → kind_in h.params x.form ≡ form_in_front
    → (c : Chosen h.params x bytes place v)
    → value_said h table number tag x.name (kind_in h.params c.form) true (take c.value.size (drop (place + c.size) cells)) ∷ [] ≡ spec_said h table bytes cells number tag x place v
chosen-said h table x bytes cells number tag place v front c =
    let size : v.size - c.size ≡ c.value.size = omega (arith, c.whole) in
    sym (ap (λ (k : ValueKind). kind_said k h table bytes cells number tag x.name place v) front
    ∙ ap (front_said h table cells number tag x.name place v) c.spells
    ∙ ap (λ (n : ℕ). value_said h table number tag x.name (kind_in h.params c.form) true (take n (drop (place + c.size) cells)) ∷ []) size)

abbrev code_saids : Bool → UnitState → ℕ → List Cell → List Said
code_saids b s e p = if b then [] else code_said s.header s.table e (code_value p) ∷ []

code-is : (s : UnitState) (e : ℕ) (a : Abbreviation) (p : List Cell) → code_value p ≢ 0 → abbreviation_of s.table (code_value p) ≡ Some a
    → code_saids (code_value p == 0) s e p ≡ code_said s.header s.table e a.code ∷ []
code-is s e a p some listed =
    ap (λ (b : Bool). code_saids b s e p) (ne_eqb (code_value p) 0 some)
    ∙ ap (λ (n : ℕ). code_said s.header s.table e n ∷ []) (sym (eqb-true a.code (code_value p) (found-code s.table (code_value p) a listed)))

says-saids : (cells : List Cell) (s : UnitState) → UnitSays any_piece saids cells s (entry_said s.header s.table) (spec_said s.header s.table (unit_bytes s cells) cells)
says-saids cells s = record {
  holds = λ m place e d k. tt;
  nulls = λ place e d p zero_. ap (λ (b : Bool). code_saids b s e p) (eq-eqb (code_value p) 0 zero_);
  codes = λ place e d a p some listed. code-is s e a p some listed;
  forms = λ place e d n tag x xs p front. ap (λ (k : ValueKind). said_kind k s.header s.table n tag x.name p) front;
  owns = λ place e d n tag x xs v other is. own-piece (kind_in s.header.params x.form) s.header s.table (unit_bytes s cells) cells n tag x.name place v other;
  chosen = λ place e d n tag x xs v front c. chosen-said s.header s.table x (unit_bytes s cells) cells n tag place v front c;
}

-- What is known of it: a path that grows stands in its own form, has room, and is of the first entry; and no other entry has the first one's code
pub record RootGrows (m : PathMap) (d : DebugData) (z : UnitSection) (h : UnitHeader) (table : List Abbreviation) : Type 0 where
  pub a : Abbreviation
  pub x : Spec
  pub value : Value
  pub has : HasGrowing m d z h table a x value

pub record ValueGrows (m : PathMap) (d : DebugData) (z : UnitSection) (h : UnitHeader) (table : List Abbreviation) (chosen : Bool) (p : List Cell) : Type 0 where
  pub own : chosen ≡ false
  pub room : width_size h.params.width ≤ length p
  pub root : RootGrows m d z h table

abbrev pub Holds : PathMap → DebugData → UnitSection → Said → Type 0
Holds m d z (value_said h table number tag name k chosen p) = grows_by (role_of_kind k (use_of number tag name)) m p ≡ true → ValueGrows m d z h table chosen p
Holds m d z (code_said h table number code) =
    ((g : RootGrows m d z h table) → number ≡ 0 → g.a.code ≡ code) × ((g : RootGrows m d z h table) → number ≢ 0 → g.a.code ≢ code)

abbrev pub EachSaid : (Said → Type 0) → List Said → Type 0
EachSaid P [] = ⊤
EachSaid P (x ∷ xs) = P x × EachSaid P xs

each-join : (P : Said → Type 0) (xs ys : List Said) → EachSaid P xs → EachSaid P ys → EachSaid P (xs ++ ys)
each-join P [] ys h k = k
each-join P (x ∷ xs) ys h k = (h.0, each-join P xs ys h.1 k)

each-parts : (P : Said → Type 0) (xs ys : List Said) → EachSaid P (xs ++ ys) → EachSaid P xs × EachSaid P ys
each-parts P [] ys h = (tt, h)
each-parts P (x ∷ xs) ys h = let p = each-parts P xs ys h.1 in ((h.0, p.0), p.1)

abbrev pub KnownOf : PathMap → DebugData → UnitSection → Piece UnitState → Type 0
KnownOf m d z x = EachSaid (Holds m d z) (saids x)

pieces-known : (m : PathMap) (d : DebugData) (z : UnitSection) (xs : List (Piece UnitState)) → EachSaid (Holds m d z) (all_of saids xs) → EachPiece (KnownOf m d z) xs
pieces-known m d z [] h = tt
pieces-known m d z (x ∷ xs) h = let p = each-parts (Holds m d z) (saids x) (all_of saids xs) h in (p.0, pieces-known m d z xs p.1)

-- A path that grows, at a value
pub record InlineParts (bytes : List ℕ) (at : ℕ) (v : Value) : Type 0 where
  pub class : v.class ≡ InlineText
  pub place : v.at ≡ at
  pub len : v.len + 1 ≡ v.size

pub inline-parts : (order : Order) (bytes : List ℕ) (at : ℕ) (i : ℤ) (v : Value) → value_of inline_text order bytes at i ≡ Some v → InlineParts bytes at v
unfolding value_of
inline-parts order bytes at i v e = by_end (ends_in bytes at) e
  where
    once : (w v : Value) → Some w ≡ Some v → w ≡ v
    once w v e = cc

    by_end : (b : Bool) → (if b then Some (record { class = InlineText; number = 0; at = at; len = length (text_in bytes at); size = length (text_in bytes at) + 1 }) else None) ≡ Some v
        → InlineParts bytes at v
    by_end true e = record {
      class = sym (ap (λ (w : Value). w.class) (once _ v e));
      place = sym (ap (λ (w : Value). w.at) (once _ v e));
      len = ap (λ (w : Value). w.len + 1) (sym (once _ v e)) ∙ ap (λ (w : Value). w.size) (once _ v e);
    }
    by_end false e = absurd cc

ends-there : (order : Order) (bs : List ℕ) (i : ℤ) (v : Value) → value_of inline_text order bs 0 i ≡ Some v → has_nul bs ≡ true
unfolding value_of ends_in
ends-there order bs i v e = by_end (has_nul bs) e
  where
    by_end : (b : Bool) → (if b then Some (record { class = InlineText; number = 0; at = 0; len = length (text_in bs 0); size = length (text_in bs 0) + 1 }) else None) ≡ Some v → b ≡ true
    by_end true e = refl
    by_end false e = absurd cc

pub text-there : (order : Order) (cells : List Cell) (end at : ℕ) (i : ℤ) (v : Value) → value_of inline_text order (take end (bytes_of cells)) at i ≡ Some v
    → text (bytes_of (take v.size (drop at cells))) ≡ text_in (take end (bytes_of cells)) at
unfolding text_in
text-there order cells end at i v e =
    let c : IsCut inline_text order (take end (bytes_of cells)) at i v.size = value_of-own inline_text order (take end (bytes_of cells)) at i v e in
    let within : at + v.size ≤ end = before-end (at + v.size) end (bytes_of cells) c.inside in
    let nul : has_nul (take v.size (drop at (take end (bytes_of cells)))) ≡ true = ends-there order (take v.size (drop at (take end (bytes_of cells)))) i c.value c.is in
    ap text (sym (part-bytes v.size at end cells within))
    ∙ sym (text-append (take v.size (drop at (take end (bytes_of cells)))) (drop v.size (drop at (take end (bytes_of cells)))) nul)
    ∙ ap text (take-append-drop v.size (drop at (take end (bytes_of cells))))

path-of : (number tag name : ℕ) → is_path_use (use_of number tag name) ≡ true → is_path number tag name ≡ true
path-of number tag name e = by (is_path number tag name) (name == DW_AT_stmt_list) (is_macros name) e
  where
    by : (p l m : Bool) → is_path_use (if p then NamesPath else (if l then NamesLineTable else (if m then NamesMacroUnit else NamesOther))) ≡ true → p ≡ true
    by true l m e = refl
    by false true m e = absurd cc
    by false false true e = absurd cc
    by false false false e = absurd cc

-- what a value that was read at a field says of one of an attribute
record ReadAs (v w : Value) : Type 0 where
  class : w.class ≡ v.class
  place : w.at ≡ v.at
  len : w.len ≡ v.len

growing-there : (m : PathMap) (d : DebugData) (z : UnitSection) (h : UnitHeader) (list : List Abbreviation) (number : ℕ) (a : Abbreviation) (x : Spec) (place : ℕ) (v : Value) (i : ℤ)
    (field : ℕ) (w : Value) (k : ValueKind) → HasTable d z h list → HasValue h list (bytes_up_to z h) number a x place v → value_of k h.params.order (bytes_up_to z h) field i ≡ Some w
    → ReadAs v w → grows_by (role_of_kind k (use_of number a.tag x.name)) m (take w.size (drop field z.contents)) ≡ true
    → HasGrowing m d z h list a x v × (w.len + 1 ≡ w.size)
growing-there m d z h list number a x place v i field w k t y is same e =
    let g : GrowsAt k (use_of number a.tag x.name) m (take w.size (drop field z.contents)) = grows-kind k (use_of number a.tag x.name) m (take w.size (drop field z.contents)) e in
    let own : value_of inline_text h.params.order (bytes_up_to z h) field i ≡ Some w = ap (λ (j : ValueKind). value_of j h.params.order (bytes_up_to z h) field i) (sym g.kind) ∙ is in
    let parts : InlineParts (bytes_up_to z h) field w = inline-parts h.params.order (bytes_up_to z h) field i w own in
    let words : text (bytes_of (take w.size (drop field z.contents))) ≡ text_in (bytes_up_to z h) v.at =
    text-there h.params.order z.contents h.end field i w own ∙ ap (text_in (bytes_up_to z h)) (sym parts.place ∙ same.place) in
    let first : number ≡ 0 = eqb-true number 0 (path-first number a.tag x.name g.path) in (
      record {
        place = place;
        table = t;
        value = subst (λ (n : ℕ). HasValue h list (bytes_up_to z h) n a x place v) first y;
        path = ap (λ (n : ℕ). is_path n a.tag x.name) (sym first) ∙ path-of number a.tag x.name g.path;
        class = sym same.class ∙ parts.class;
        grows = ap (inline_fits m) (sym words) ∙ g.fits;
      },
      parts.len,
    )

-- no row of the lift holds
abbrev pub NoRow : PathMap → List ℕ → Type 0
NoRow m b = (r : Refusal) → LiftFails m b r → ⊥

value-known : (m : PathMap) (b : List ℕ) (z : UnitSection) (h : UnitHeader) (list : List Abbreviation) (number : ℕ) (a : Abbreviation) (x : Spec) (place : ℕ) (v : Value) (i : ℤ)
    (field : ℕ) (w : Value) (k : ValueKind) (chosen : Bool) → NoRow m b → HasTable (file_data b) z h list → HasValue h list (bytes_up_to z h) number a x place v
    → value_of k h.params.order (bytes_up_to z h) field i ≡ Some w → ReadAs v w → (chosen ≡ true → kind_in h.params x.form ≡ form_in_front)
    → Holds m (file_data b) z (value_said h list number a.tag x.name k chosen (take w.size (drop field z.contents)))
value-known m b z h list number a x place v i field w k chosen none t y is same front e =
    let g = growing-there m (file_data b) z h list number a x place v i field w k t y is same e in
    let c : IsCut k h.params.order (bytes_up_to z h) field i w.size = value_of-own k h.params.order (bytes_up_to z h) field i w is in
    let size : length (take w.size (drop field z.contents)) ≡ w.size = part-length w.size field h.end z.contents c.inside in
    record {
      own = by_chosen chosen refl;
      room = by_room (cases_lt (v.len + 1) (width_size h.params.width)) size g.1 g.0;
      root = record { a = a; x = x; value = v; has = g.0 };
    }
  where
    by_chosen : (t : Bool) → chosen ≡ t → t ≡ false
    by_chosen false f = refl
    by_chosen true f =
        let g = growing-there m (file_data b) z h list number a x place v i field w k t y is same e in
        absurd (none (at InlineGrows z.number v.at) (hindered z h list a x v g.0 (form_before (front f))))

    by_room : (v.len + 1 < width_size h.params.width) ⊎ (width_size h.params.width ≤ v.len + 1) → length (take w.size (drop field z.contents)) ≡ w.size → w.len + 1 ≡ w.size
        → HasGrowing m (file_data b) z h list a x v → width_size h.params.width ≤ length (take w.size (drop field z.contents))
    by_room (inl less) size whole g = absurd (none (at InlineGrows z.number v.at) (hindered z h list a x v g (short less)))
    by_room (inr enough) size whole g = omega (arith, enough, size, whole, same.len)

spec-known : (m : PathMap) (b : List ℕ) (z : UnitSection) (h : UnitHeader) (list : List Abbreviation) (number : ℕ) (a : Abbreviation) (x : Spec) (place : ℕ) (v : Value)
    → NoRow m b → HasTable (file_data b) z h list → HasValue h list (bytes_up_to z h) number a x place v
    → EachSaid (Holds m (file_data b) z) (spec_said h list (bytes_up_to z h) z.contents number a.tag x place v)
unfolding value_at
spec-known m b z h list number a x place v none t y = by_front (is_front (kind_in h.params x.form))
  where
    by_front : (kind_in h.params x.form ≡ form_in_front) ⊎ (kind_in h.params x.form ≡ form_in_front → ⊥)
        → EachSaid (Holds m (file_data b) z) (spec_said h list (bytes_up_to z h) z.contents number a.tag x place v)
    by_front (inr other) =
        let own : value_of (kind_in h.params x.form) h.params.order (bytes_up_to z h) place x.implicit ≡ Some v =
        sym (value_by-own (kind_in h.params x.form) h.params x (bytes_up_to z h) place other) ∙ y.is in
        subst (EachSaid (Holds m (file_data b) z)) (own-said (kind_in h.params x.form) h list (bytes_up_to z h) z.contents number a.tag x.name place v other)
        (value-known m b z h list number a x place v x.implicit place v (kind_in h.params x.form) false none t y own (record { class = refl; place = refl; len = refl }) (λ f. absurd cc), tt)
    by_front (inl front) =
        let c : Chosen h.params x (bytes_up_to z h) place v = chosen-read h.params x (bytes_up_to z h) place v front y.is in
        subst (EachSaid (Holds m (file_data b) z)) (chosen-said h list x (bytes_up_to z h) z.contents number a.tag place v front c) (
          value-known m b z h list number a x place v x.implicit (place + c.size) c.value (kind_in h.params c.form) true none t y c.is
              (record { class = sym c.class_is; place = sym c.at_is; len = sym c.len_is }) (λ f. front),
          tt,
        )

-- the values of an entry
record EntryThere (h : UnitHeader) (table : List Abbreviation) (bytes : List ℕ) (items : List Scanned) (start code size : ℕ) (a : Abbreviation) : Type 0 where
  depth : ℕ
  scans : Scans h table bytes items start depth
  spells : uleb_at bytes start ≡ Some (code, size)
  some : code ≢ 0
  listed : abbreviation_of table code ≡ Some a

values-known : (m : PathMap) (b : List ℕ) (z : UnitSection) (h : UnitHeader) (table : List Abbreviation) (items : List Scanned) (start code size : ℕ) (a : Abbreviation) (front xs : List Spec) (place : ℕ)
    → NoRow m b → HasTable (file_data b) z h table → EntryThere h table (bytes_up_to z h) items start code size a → a.specs ≡ front ++ xs
    → SpellsValues h.params (bytes_up_to z h) (start + size) front place
    → EachSaid (Holds m (file_data b) z) (values_out (spec_said h table (bytes_up_to z h) z.contents) h.params (bytes_up_to z h) (length items) a.tag xs place)
values-known m b z h table items start code size a front [] place none t e cut spelled = tt
values-known m b z h table items start code size a front (x ∷ xs) place none t e cut spelled =
    by (value_at h.params x (bytes_up_to z h) place) refl
    (λ (p : ℕ) (s : SpellsValues h.params (bytes_up_to z h) (start + size) (front ++ x ∷ []) p).
    values-known m b z h table items start code size a (front ++ x ∷ []) xs p none t e (cut ∙ sym (append_assoc front (x ∷ []) xs)) s)
  where
    rest : ℕ → List Said
    rest p = values_out (spec_said h table (bytes_up_to z h) z.contents) h.params (bytes_up_to z h) (length items) a.tag xs p

    by : (o : Option Value) → value_at h.params x (bytes_up_to z h) place ≡ o
        → ((p : ℕ) → SpellsValues h.params (bytes_up_to z h) (start + size) (front ++ x ∷ []) p → EachSaid (Holds m (file_data b) z) (rest p))
        → EachSaid (Holds m (file_data b) z) (value_out (spec_said h table (bytes_up_to z h) z.contents) rest (length items) a.tag x place o)
    by None is go = tt
    by (Some v) is go =
        each-join (Holds m (file_data b) z) (spec_said h table (bytes_up_to z h) z.contents (length items) a.tag x place v) (rest (place + v.size))
        (spec-known m b z h table (length items) a x place v none t (record {
          items = items;
          start = start;
          depth = e.depth;
          scans = e.scans;
          nth = refl;
          code = code;
          size = size;
          spells = e.spells;
          some = e.some;
          listed = e.listed;
          before = front;
          behind = xs;
          attribute = cut;
          values = spelled;
          is = is;
        }))
        (go (place + v.size) (more_values front x place v spelled is))

-- The first entry of a unit is one: in front of it stand nulls
data Nulls (bytes : List ℕ) (first : ℕ) : ℕ → Type 0 where
  no_nulls : Nulls bytes first first
  one_null : (place size : ℕ) → Nulls bytes first place → uleb_at bytes place ≡ Some (0, size) → Nulls bytes first (place + size)

nulls-of : (h : UnitHeader) (table : List Abbreviation) (bytes : List ℕ) (items : List Scanned) (place depth : ℕ) → Scans h table bytes items place depth → length items ≡ 0 → Nulls bytes h.first place
nulls-of h table bytes items place depth starts e = no_nulls
nulls-of h table bytes all p d (null items place depth size scans is) e = one_null place size (nulls-of h table bytes items place depth scans e) is
nulls-of h table bytes all p d (entry items place depth after a scans is root) e = absurd (omega (arith, e, length-append items (scanned place depth a after ∷ [])))

-- from one null on, as many steps
data StepsTo (bytes : List ℕ) : ℕ → ℕ → Type 0 where
  there : (place : ℕ) → StepsTo bytes place place
  step_to : (place size end : ℕ) → uleb_at bytes place ≡ Some (0, size) → StepsTo bytes (place + size) end → StepsTo bytes place end

steps-snoc : (bytes : List ℕ) (a p size : ℕ) → StepsTo bytes a p → uleb_at bytes p ≡ Some (0, size) → StepsTo bytes a (p + size)
steps-snoc bytes a p size (there q) e = step_to a size (a + size) e (there (a + size))
steps-snoc bytes a p size (step_to q n end is rest) e = step_to a n (p + size) is (steps-snoc bytes (a + n) p size rest e)

steps-of : (bytes : List ℕ) (first p : ℕ) → Nulls bytes first p → StepsTo bytes first p
steps-of bytes first p no_nulls = there first
steps-of bytes first p (one_null place size before is) = steps-snoc bytes first place size (steps-of bytes first place before) is

zero-size : (n c s : ℕ) → ◌≡◌ {A = Option (ℕ × ℕ)} (Some (0, n)) (Some (c, s)) → c ≡ 0
zero-size n c s e = ap (λ (o : Option (ℕ × ℕ)). Rattle.dw_base.specs.UnitStates.read_value o) (sym e)

same-size : (n s : ℕ) → ◌≡◌ {A = Option (ℕ × ℕ)} (Some (0, n)) (Some (0, s)) → n ≡ s
same-size n s e = ap (λ (o : Option (ℕ × ℕ)). Rattle.dw_base.specs.LineMeanings.leb_size o) e

-- two ways from a place to ones that aren't null end at the same
steps-one : (bytes : List ℕ) (a p q c n k j : ℕ) → StepsTo bytes a p → StepsTo bytes a q → uleb_at bytes p ≡ Some (c, n) → c ≢ 0 → uleb_at bytes q ≡ Some (k, j) → k ≢ 0 → p ≡ q
steps-one bytes a p q c n k j (there x) (there y) e some f other = refl
steps-one bytes a p q c n k j (there x) (step_to y size end is rest) e some f other = absurd (some (zero-size size c n (sym is ∙ e)))
steps-one bytes a p q c n k j (step_to x size end is rest) (there y) e some f other = absurd (other (zero-size size k j (sym is ∙ f)))
steps-one bytes a p q c n k j (step_to x size end is rest) (step_to y wide last was more) e some f other =
    let same : wide ≡ size = same-size wide size (sym was ∙ is) in
    steps-one bytes (a + size) p q c n k j rest (subst (λ (w : ℕ). StepsTo bytes (a + w) q) same more) e some f other

code-of : (c n k j : ℕ) → ◌≡◌ {A = Option (ℕ × ℕ)} (Some (c, n)) (Some (k, j)) → c ≡ k
code-of c n k j e = ap (λ (o : Option (ℕ × ℕ)). Rattle.dw_base.specs.UnitStates.read_value o) e

-- What is known of the entries of a unit
code-known : (m : PathMap) (b : List ℕ) (z : UnitSection) (h : UnitHeader) (table : List Abbreviation) (items : List Scanned) (place depth after : ℕ) (a : Abbreviation) → NoRow m b
    → Scans h table (bytes_up_to z h) items place depth → (is : Rattle.dw_base.specs.EntryScans.IsEntry h.params table (bytes_up_to z h) place a after)
    → Scans h table (bytes_up_to z h) (items ++ scanned place depth a after ∷ []) after (Rattle.dw_base.specs.EntryScans.depth_behind a depth)
    → Holds m (file_data b) z (code_said h table (length items) a.code)
code-known m b z h table items place depth after a none scans is all = (
  λ g first.
      let y = g.has.value in
      let here : place ≡ y.start =
      steps-one (bytes_up_to z h) h.first place y.start is.code is.size y.code y.size
      (steps-of (bytes_up_to z h) h.first place (nulls-of h table (bytes_up_to z h) items place depth scans first))
      (steps-of (bytes_up_to z h) h.first y.start (nulls-of h table (bytes_up_to z h) y.items y.start y.depth y.scans y.nth)) is.spells is.some y.spells y.some in
      let codes : is.code ≡ y.code = code-of is.code is.size y.code y.size (sym is.spells ∙ ap (uleb_at (bytes_up_to z h)) here ∙ y.spells) in
      eqb-true g.a.code y.code (found-code table y.code g.a y.listed) ∙ sym codes ∙ sym (eqb-true a.code is.code (found-code table is.code a is.listed)),
  λ g other same.
      none (at InlineGrows z.number g.value.at)
      (hindered z h table g.a g.x g.value g.has (code_again items (scanned place depth a after) after (Rattle.dw_base.specs.EntryScans.depth_behind a depth) all (some-items (length items) other) (sym same))),
)
  where
    some-items : (n : ℕ) → n ≢ 0 → 0 < n
    some-items n other = elim (cases_lt 0 n) [
      | inl some ↦ some
      | inr zero_ ↦ let is : n ≡ 0 = omega (arith, zero_) in absurd (other is)
    ]

abbrev entries_said : UnitSection → UnitHeader → List Abbreviation → List Scanned → List Said
entries_said z h table items = entries_out (entry_said h table) (spec_said h table (bytes_up_to z h) z.contents) h.params table (bytes_up_to z h) 0 items

entries-known : (m : PathMap) (b : List ℕ) (z : UnitSection) (h : UnitHeader) (table : List Abbreviation) (items : List Scanned) (place depth : ℕ) → NoRow m b → HasTable (file_data b) z h table
    → Scans h table (bytes_up_to z h) items place depth → EachSaid (Holds m (file_data b) z) (entries_said z h table items)
entries-known m b z h table items place depth none t starts = tt
entries-known m b z h table all p d none t (null items place depth size scans is) = entries-known m b z h table items place depth none t scans
entries-known m b z h table all p d none t (entry items place depth after a scans is root) =
    let number : 0 + length items ≡ length items = omega arith in
    let own : entries_said z h table (items ++ scanned place depth a after ∷ [])
    ≡ entries_said z h table items
    ++ (code_said h table (length items) a.code ∷ [] ++ values_out (spec_said h table (bytes_up_to z h) z.contents) h.params (bytes_up_to z h) (length items) a.tag a.specs (place + is.size)) =
    entries_out-more (entry_said h table) (spec_said h table (bytes_up_to z h) z.contents) h.params table (bytes_up_to z h) 0 items (scanned place depth a after)
    ∙ ap (λ (n : ℕ). entries_said z h table items
    ++ entry_out (entry_said h table) (spec_said h table (bytes_up_to z h) z.contents) h.params table (bytes_up_to z h) n (scanned place depth a after)) number
    ∙ ap (λ (xs : List Said). entries_said z h table items ++ xs)
    (entry_out-is (entry_said h table) (spec_said h table (bytes_up_to z h) z.contents) h.params table (bytes_up_to z h) (length items) place depth after a is) in
    subst (EachSaid (Holds m (file_data b) z)) (sym own)
    (each-join (Holds m (file_data b) z) (entries_said z h table items)
    (code_said h table (length items) a.code ∷ [] ++ values_out (spec_said h table (bytes_up_to z h) z.contents) h.params (bytes_up_to z h) (length items) a.tag a.specs (place + is.size))
    (entries-known m b z h table items place depth none t scans) (
      code-known m b z h table items place depth after a none scans is (entry items place depth after a scans is root),
      values-known m b z h table items place is.code is.size a [] a.specs (place + is.size) none t
          (record { depth = depth; scans = scans; spells = is.spells; some = is.some; listed = is.listed }) refl no_values,
    ))

-- Units
abbrev nothing : Piece UnitState → List ℕ
nothing x = []

nothing-said : (xs : List (Piece UnitState)) → all_of nothing xs ≡ []
nothing-said [] = refl
nothing-said (x ∷ xs) = nothing-said xs

abbrev KnownRun : PathMap → DebugData → UnitBase → UnitSection → UnitState → UnitState → ℕ → ℕ → Type 0
KnownRun m d base z s t a c = PieceRun (unit_grammar base) (KnownOf m d z) nothing z.contents s t a c []

unit-ends : (s : UnitState) (e : ℕ) → between s s.header.end e 0 ≡ before_unit s.section s.kind s.whole s.header.end (s.unit + 1)
unfolding between
unit-ends s e = rw (eq-eqb s.header.end s.header.end refl) refl

header-known : (m : PathMap) (d : DebugData) (base : UnitBase) (z : UnitSection) (start unit : ℕ) (h : UnitHeader) → HeaderPiece base z start unit h
    → KnownRun m d base z (before z start unit) (between (in_headed base z start unit h) h.first 0 0) start h.first
header-known m d base z start unit h p =
    subst (λ (n : ℕ). KnownRun m d base z (before z start unit) (between (in_headed base z start unit h) h.first 0 0) start n) p.end
    (run-one (unit_grammar base) (KnownOf m d z) nothing z.contents (before z start unit) (between (in_headed base z start unit h) h.first 0 0) start (h.first - start) [] p.fits p.next refl tt)

unit-known : (m : PathMap) (b : List ℕ) (z : UnitSection) (start unit : ℕ) (h : UnitHeader) (table : List Abbreviation) (items : List Scanned)
    → NoRow m b → IsUnit (file_data b).base z start h → IsUnitTable (file_data b).base h table → AreEntries h table (bytes_up_to z h) items
    → ((list : List Abbreviation) → IsUnitTable (file_data b).base h list → HasTable (file_data b) z h list)
    → KnownRun m (file_data b) (file_data b).base z (before z start unit) (before z h.end (unit + 1)) start h.end
unit-known m b z start unit h table items none u t entries one = make own
    (entries-known m b z h (abbreviations_at (file_data b).base.abbrevs.bytes h.abbrevs) items h.end 0 none (one (abbreviations_at (file_data b).base.abbrevs.bytes h.abbrevs) declares) own)
  where
    found : table ≡ abbreviations_at (file_data b).base.abbrevs.bytes h.abbrevs
    found = sym (table-found (file_data b).base.abbrevs.bytes h.abbrevs table t.is)

    own : AreEntries h (abbreviations_at (file_data b).base.abbrevs.bytes h.abbrevs) (bytes_up_to z h) items
    own = subst (λ (ys : List Abbreviation). AreEntries h ys (bytes_up_to z h) items) found entries

    declares : IsUnitTable (file_data b).base h (abbreviations_at (file_data b).base.abbrevs.bytes h.abbrevs)
    declares = subst (λ (ys : List Abbreviation). IsUnitTable (file_data b).base h ys) found t

    make : AreEntries h (abbreviations_at (file_data b).base.abbrevs.bytes h.abbrevs) (bytes_up_to z h) items
        → EachSaid (Holds m (file_data b) z) (entries_said z h (abbreviations_at (file_data b).base.abbrevs.bytes h.abbrevs) items)
        → KnownRun m (file_data b) (file_data b).base z (before z start unit) (before z h.end (unit + 1)) start h.end
    make own all =
        let run : PieceRun (unit_grammar (file_data b).base) any_piece saids z.contents (between (in_headed (file_data b).base z start unit h) h.first 0 0)
        (between (in_headed (file_data b).base z start unit h) h.end (length items) 0)
        h.first h.end (entries_said z h (abbreviations_at (file_data b).base.abbrevs.bytes h.abbrevs) items) =
        scan-run any_piece saids (entry_said h (abbreviations_at (file_data b).base.abbrevs.bytes h.abbrevs))
        (spec_said h (abbreviations_at (file_data b).base.abbrevs.bytes h.abbrevs) (bytes_up_to z h) z.contents) (file_data b).base z.contents (in_headed (file_data b).base z start unit h) items h.end 0
        (says-saids z.contents (in_headed (file_data b).base z start unit h)) own in
        let held : KnownRun m (file_data b) (file_data b).base z (between (in_headed (file_data b).base z start unit h) h.first 0 0)
        (between (in_headed (file_data b).base z start unit h) h.end (length items) 0) h.first h.end =
        record {
          pieces = run.pieces;
          leads = run.leads;
          covers = run.covers;
          fields = nothing-said run.pieces;
          each = pieces-known m (file_data b) z run.pieces (subst (EachSaid (Holds m (file_data b) z)) (sym run.fields) all);
        } in
        let scan : KnownRun m (file_data b) (file_data b).base z (between (in_headed (file_data b).base z start unit h) h.first 0 0) (before z h.end (unit + 1)) h.first h.end =
        subst (λ (x : UnitState). KnownRun m (file_data b) (file_data b).base z (between (in_headed (file_data b).base z start unit h) h.first 0 0) x h.first h.end)
        (unit-ends (in_headed (file_data b).base z start unit h) (length items)) held in
        run-more (unit_grammar (file_data b).base) (KnownOf m (file_data b) z) nothing z.contents (before z start unit) (between (in_headed (file_data b).base z start unit h) h.first 0 0)
        (before z h.end (unit + 1)) start h.first h.end [] []
        (header-known m (file_data b) (file_data b).base z start unit h (header-piece (file_data b).base z start unit h table u (header-placed (file_data b).base z start h u.header) t)) scan

-- Sections
units-known : (m : PathMap) (b : List ℕ) (front behind : List UnitSection) (z : UnitSection) (first : ℕ) (list : List UnitHeader) (place : ℕ)
    → NoRow m b → (file_data b).found Info ≡ front ++ z ∷ behind → UnitsScanned (file_data b).base z list place
    → KnownRun m (file_data b) (file_data b).base z (before z 0 first) (before z place (first + length list)) 0 place
units-known m b front behind z first list place none e none_scanned =
    run-none (unit_grammar (file_data b).base) (KnownOf m (file_data b) z) nothing z.contents (before z 0 first) (before z 0 (first + 0)) 0 (ap (λ (n : ℕ). before z 0 n) (omega arith))
units-known m b front behind z first all place none e (more_scanned list h start table items s u t entries) =
    let count : first + length list + 1 ≡ first + length (list ++ h ∷ []) = omega (arith, length-append list (h ∷ [])) in
    subst (λ (n : ℕ). KnownRun m (file_data b) (file_data b).base z (before z 0 first) (before z h.end n) 0 h.end) count
    (run-more (unit_grammar (file_data b).base) (KnownOf m (file_data b) z) nothing z.contents (before z 0 first) (before z start (first + length list)) (before z h.end (first + length list + 1)) 0 start h.end [] []
    (units-known m b front behind z first list start none e s)
    (unit-known m b z start (first + length list) h table items none u t entries
    (λ (ys : List Abbreviation) (declares : IsUnitTable (file_data b).base h ys). record {
      unit = record { before = front; behind = behind; sections = e; list = list; start = start; units = scanned-units (file_data b).base z list start s; is = u };
      declares = declares;
    })))

section-known : (m : PathMap) (b : List ℕ) (front behind : List UnitSection) (z : UnitSection) (first : ℕ) (xs : List (Piece UnitState)) → NoRow m b
    → (file_data b).found Info ≡ front ++ z ∷ behind → ReadsUnits (file_data b).base z first xs → EachPiece (KnownOf m (file_data b) z) xs
section-known m b front behind z first xs none e reads =
    let all = section-scanned (file_data b).base z first xs reads in
    let whole : WholeRun (unit_grammar (file_data b).base) (KnownOf m (file_data b) z) nothing z.contents (before z 0 first) [] =
    run-whole (unit_grammar (file_data b).base) (KnownOf m (file_data b) z) nothing z.contents (before z 0 first) (before z (length z.contents) (first + length all.0)) (length z.contents) [] refl
    (record { mode = refl; place = refl }) (units-known m b front behind z first all.0 (length z.contents) none e all.1) in
    subst (EachPiece (KnownOf m (file_data b) z)) (reads-one (file_data b).base z first whole.pieces xs (record { chain = whole.chain; cells = whole.cells_are }) reads) whole.each

-- so it is of all sections
abbrev pub AllKnown : PathMap → DebugData → List UnitSection → Readings → Type 0
AllKnown m d [] rs = ⊤
AllKnown m d (z ∷ zs) [] = ⊤
AllKnown m d (z ∷ zs) (r ∷ rs) = EachPiece (KnownOf m d z) r.pieces × AllKnown m d zs rs

sections-known : (m : PathMap) (b : List ℕ) (first : ℕ) (front zs : List UnitSection) (rs : Readings) → NoRow m b → (file_data b).found Info ≡ front ++ zs
    → ReadsAll (file_data b).base first zs rs → AllKnown m (file_data b) zs rs
sections-known m b first front [] rs none e reads = tt
sections-known m b first front (z ∷ zs) [] none e reads = tt
sections-known m b first front (z ∷ zs) (r ∷ rs) none e reads = (
  section-known m b front zs z first r.pieces none e reads.1,
  sections-known m b (first + units_in r.pieces) (front ++ z ∷ []) zs rs none (e ∙ sym (append_assoc front (z ∷ []) zs)) reads.2,
)

pub all-known : (m : PathMap) (b : List ℕ) (r : DataReadings) → NoRow m b → ReadsAll (file_data b).base 0 ((file_data b).found Info) r.units → AllKnown m (file_data b) ((file_data b).found Info) r.units
all-known m b r none reads = sections-known m b 0 [] ((file_data b).found Info) r.units none refl reads
