-- What is decided of each value that stands in a unit is decided of each piece of its section (DWARF 5, 7.5.1 to 7.5.6).
use Rattle.std.proofs.Common.{◌≡◌, ◌≢◌, ℕ, ◌+◌, ◌-◌, List, [], ◌∷◌, ◌++◌, length, take, drop, Option, Some, None, refl, sym, ap, ◌∙◌, subst, arith, append_assoc, length-append}
use Rattle.std.proofs.lemmas.Bool.{eq-eqb}
use Rattle.dw_base.specs.AbbreviationBytes.{abbreviations_at}
use Rattle.dw_base.specs.AbbreviationTables.{Abbreviation, abbreviation_of}
use Rattle.dw_base.specs.Cells.{Cell}
use Rattle.dw_base.specs.DebugData.{DebugData, ReadsAll, units_in}
use Rattle.dw_base.specs.EntryScans.{AreEntries, Scans, SpellsValues, entry, more_values, no_values, null, scanned, starts}
use Rattle.dw_base.specs.EntryValues.{HasTable, HasValue, bytes_up_to}
use Rattle.dw_base.specs.Forms.{ValueKind, block_of, counted, counted_leb, form_in_front, in_abbreviation, inline_text, kind_in, leb_number, number_of, present, signed_leb, supplementary, text_offset, unlisted}
use Rattle.dw_base.specs.Lebs.{uleb_at}
use Rattle.dw_base.specs.Pieces.{EachPiece, Piece}
use Rattle.dw_base.specs.Readings.{EachReading, Readings}
use Rattle.dw_base.specs.Roles.{Role, fixed, role_of, role_of_kind, role_of_mode, use_of}
use Rattle.dw_base.specs.UnitHeaders.{IsUnit, UnitBase, UnitSection}
use Rattle.dw_base.specs.UnitPieces.{ReadsUnits, unit_grammar}
use Rattle.dw_base.specs.UnitStates.{Mode, UnitState, at_chosen, at_code, at_header, at_values, before_unit, between, stuck}
use Rattle.dw_base.specs.UnitTables.{IsUnitTable}
use Rattle.dw_base.specs.Values.{value_at}
use Rattle.dw_base.specs.declared.debug_sections.DebugSection.TheVariants.{Info}
use Rattle.dw_base.specs.declared.fault.Refusal.{Refusal}
use Rattle.dw_base.specs.declared.shared.Params.{Params}
use Rattle.dw_base.specs.declared.units.Scanned.{Scanned}
use Rattle.dw_base.specs.declared.units.UnitHeader.{UnitHeader}
use Rattle.dw_base.specs.declared.values.AttributeUse.{AttributeUse}
use Rattle.dw_base.specs.declared.values.Spec.{Spec}
use Rattle.dw_base.specs.declared.values.Value.{Value}
use Rattle.dw_base.proofs.AbbreviationLaws.{table-found}
use Rattle.dw_meaning.specs.PieceRuns.{all_of, any_piece, entries_out, entry_out, value_out, values_out}
use Rattle.dw_meaning.specs.UnitScans.{UnitsScanned, more_scanned, none_scanned}
use Rattle.dw_meaning.proofs.DataOneLaws.{reads-one}
use Rattle.dw_meaning.proofs.DataRowLaws.{scanned-units}
use Rattle.dw_meaning.proofs.RunLaws.{PieceRun, WholeRun, run-more, run-none, run-one, run-whole}
use Rattle.dw_meaning.proofs.ScanBackLaws.{section-scanned}
use Rattle.dw_meaning.proofs.ScanPieceLaws.{Chosen, unit_bytes}
use Rattle.dw_meaning.proofs.ScanSectionLaws.{HeaderPiece, before, header-piece, header-placed, in_headed}
use Rattle.dw_meaning.proofs.UnitRunLaws.{UnitSays, entries_out-more, entry_out-is, scan-run}
use Rattle.refusal_laws.specs.Decided.{Decided, refused, taken}
use Rattle.refusal_laws.proofs.Decisions.{decided-by}
use Rattle.refusal_laws.proofs.ListDecisions.{Each, decided-append, decided-pair, each-behind, each-front}

-- ### What a value is to an edit

-- its role and its cells
pub record Stand : Type 0 where
  pub role : Role
  pub cells : List Cell

-- those of a piece: none of one that is a header, a code or a form in front of a value
abbrev stand_kind : ValueKind → AttributeUse → List Cell → List Stand
stand_kind form_in_front u p = []
stand_kind k u p = record { role = role_of_kind k u; cells = p } ∷ []

abbrev stand_by : Mode → UnitState → List Cell → List Stand
stand_by (at_values number tag (x ∷ xs)) s p = stand_kind (kind_in s.header.params x.form) (use_of number tag x.name) p
stand_by (at_chosen number tag start x xs) s p = record { role = role_of_kind (kind_in s.header.params x.form) (use_of number tag x.name); cells = p } ∷ []
stand_by m s p = []

abbrev stands : Piece UnitState → List Stand
stands x = stand_by x.state.mode x.state x.cells

-- those of a value at a place: of its own form, or of the one that stands in front of it
abbrev front_stand : Params → List Cell → AttributeUse → ℕ → Value → Option (ℕ × ℕ) → List Stand
front_stand params cells u place v None = []
front_stand params cells u place v (Some (form, size)) =
    record { role = role_of_kind (kind_in params form) u; cells = take (v.size - size) (drop (place + size) cells) } ∷ []

abbrev value_stand : ValueKind → Params → List ℕ → List Cell → AttributeUse → ℕ → Value → List Stand
value_stand form_in_front params bytes cells u place v = front_stand params cells u place v (uleb_at bytes place)
value_stand k params bytes cells u place v = record { role = role_of_kind k u; cells = take v.size (drop place cells) } ∷ []

abbrev pub value_stands : Params → List ℕ → List Cell → ℕ → ℕ → Spec → ℕ → Value → List Stand
value_stands params bytes cells number tag x place v = value_stand (kind_in params x.form) params bytes cells (use_of number tag x.name) place v

-- a value of its own form, and one behind a form
pub own-stand : (k : ValueKind) (params : Params) (bytes : List ℕ) (cells : List Cell) (u : AttributeUse) (place : ℕ) (v : Value) → k ≢ form_in_front
    → record { role = role_of_kind k u; cells = take v.size (drop place cells) } ∷ [] ≡ value_stand k params bytes cells u place v
own-stand form_in_front params bytes cells u place v other = absurd (other refl)
own-stand k params bytes cells u place v other = refl

own-piece : (k : ValueKind) (params : Params) (bytes : List ℕ) (cells : List Cell) (u : AttributeUse) (place : ℕ) (v : Value) → k ≢ form_in_front
    → stand_kind k u (take v.size (drop place cells)) ≡ value_stand k params bytes cells u place v
own-piece form_in_front params bytes cells u place v other = absurd (other refl)
own-piece k params bytes cells u place v other = refl

pub chosen-stand : (params : Params) (x : Spec) (bytes : List ℕ) (cells : List Cell) (u : AttributeUse) (place : ℕ) (v : Value) → kind_in params x.form ≡ form_in_front
    → (c : Chosen params x bytes place v)
    → record { role = role_of_kind (kind_in params c.form) u; cells = take c.value.size (drop (place + c.size) cells) } ∷ [] ≡ value_stand (kind_in params x.form) params bytes cells u place v
chosen-stand params x bytes cells u place v front c =
    let size : v.size - c.size ≡ c.value.size = omega (arith, c.whole) in
    sym (ap (λ (k : ValueKind). value_stand k params bytes cells u place v) front
    ∙ ap (front_stand params cells u place v) c.spells
    ∙ ap (λ (n : ℕ). record { role = role_of_kind (kind_in params c.form) u; cells = take n (drop (place + c.size) cells) } ∷ []) size)

abbrev no_entry : ℕ → ℕ → ℕ → Abbreviation → List Stand
no_entry number place depth a = []

says-stands : (cells : List Cell) (s : UnitState) → UnitSays any_piece stands cells s no_entry (value_stands s.header.params (unit_bytes s cells) cells)
says-stands cells s = record {
  holds = λ m place e d k. tt;
  nulls = λ place e d p zero_. refl;
  codes = λ place e d a p some listed. refl;
  forms = λ place e d n tag x xs p front. ap (λ (k : ValueKind). stand_kind k (use_of n tag x.name) p) front;
  owns = λ place e d n tag x xs v other is. own-piece (kind_in s.header.params x.form) s.header.params (unit_bytes s cells) cells (use_of n tag x.name) place v other;
  chosen = λ place e d n tag x xs v front c. chosen-stand s.header.params x (unit_bytes s cells) cells (use_of n tag x.name) place v front c;
}

-- ### From values to pieces

-- what holds of a role and cells, and of the roles that stay
abbrev Holds : (Role → List Cell → Type 0) → Stand → Type 0
Holds Q x = Q x.role x.cells

abbrev HoldsOf : (Role → List Cell → Type 0) → Piece UnitState → Type 0
HoldsOf Q x = Q (role_of x) x.cells

kind-holds : (Q : Role → List Cell → Type 0) (k : ValueKind) (u : AttributeUse) (p : List Cell) → ((q : List Cell) → Q fixed q) → Each (Holds Q) (stand_kind k u p) → Q (role_of_kind k u) p
kind-holds Q form_in_front u p none h = none p
kind-holds Q (number_of class n) u p none h = h.0
kind-holds Q (leb_number class) u p none h = h.0
kind-holds Q signed_leb u p none h = h.0
kind-holds Q (block_of n) u p none h = h.0
kind-holds Q (counted n) u p none h = h.0
kind-holds Q counted_leb u p none h = h.0
kind-holds Q inline_text u p none h = h.0
kind-holds Q (text_offset table n) u p none h = h.0
kind-holds Q present u p none h = h.0
kind-holds Q in_abbreviation u p none h = h.0
kind-holds Q supplementary u p none h = h.0
kind-holds Q unlisted u p none h = h.0

mode-holds : (Q : Role → List Cell → Type 0) (m : Mode) (s : UnitState) (p : List Cell) → ((q : List Cell) → Q fixed q) → Each (Holds Q) (stand_by m s p)
    → Q (role_of_mode m s.header.params) p
mode-holds Q (at_values number tag (x ∷ xs)) s p none h = kind-holds Q (kind_in s.header.params x.form) (use_of number tag x.name) p none h
mode-holds Q (at_chosen number tag start x xs) s p none h = h.0
mode-holds Q (at_values number tag []) s p none h = none p
mode-holds Q at_header s p none h = none p
mode-holds Q at_code s p none h = none p
mode-holds Q stuck s p none h = none p

pieces-hold : (Q : Role → List Cell → Type 0) (xs : List (Piece UnitState)) → ((q : List Cell) → Q fixed q) → Each (Holds Q) (all_of stands xs) → EachPiece (HoldsOf Q) xs
unfolding role_of
pieces-hold Q [] none h = tt
pieces-hold Q (x ∷ xs) none h = (
  mode-holds Q x.state.mode x.state x.cells none (each-front (Holds Q) (stands x) (all_of stands xs) h),
  pieces-hold Q xs none (each-behind (Holds Q) (stands x) (all_of stands xs) h),
)

-- ### Values and entries

-- what is decided of each value
abbrev pub OneValue : (Role → List Cell → Type 0) → (Refusal → Type 0) → UnitSection → UnitHeader → List Abbreviation → Type 0
OneValue Q F z h table =
    (number : ℕ) (a : Abbreviation) (x : Spec) (place : ℕ) (v : Value) → HasValue h table (bytes_up_to z h) number a x place v
    → Decided (Each (Holds Q) (value_stands h.params (bytes_up_to z h) z.contents number a.tag x place v)) F

-- an entry whose values are met
record EntryThere (h : UnitHeader) (table : List Abbreviation) (bytes : List ℕ) (items : List Scanned) (start code size : ℕ) (a : Abbreviation) : Type 0 where
  depth : ℕ
  scans : Scans h table bytes items start depth
  spells : uleb_at bytes start ≡ Some (code, size)
  some : code ≢ 0
  listed : abbreviation_of table code ≡ Some a

values-known : (Q : Role → List Cell → Type 0) (F : Refusal → Type 0) (z : UnitSection) (h : UnitHeader) (table : List Abbreviation) (items : List Scanned) (start code size : ℕ)
    (a : Abbreviation) (front xs : List Spec) (place : ℕ) → OneValue Q F z h table → EntryThere h table (bytes_up_to z h) items start code size a → a.specs ≡ front ++ xs
    → SpellsValues h.params (bytes_up_to z h) (start + size) front place
    → Decided (Each (Holds Q) (values_out (value_stands h.params (bytes_up_to z h) z.contents) h.params (bytes_up_to z h) (length items) a.tag xs place)) F
values-known Q F z h table items start code size a front [] place one e cut spelled = taken tt
values-known Q F z h table items start code size a front (x ∷ xs) place one e cut spelled =
    by (value_at h.params x (bytes_up_to z h) place) refl
    (λ (p : ℕ) (s : SpellsValues h.params (bytes_up_to z h) (start + size) (front ++ x ∷ []) p).
    values-known Q F z h table items start code size a (front ++ x ∷ []) xs p one e (cut ∙ sym (append_assoc front (x ∷ []) xs)) s)
  where
    rest : ℕ → List Stand
    rest p = values_out (value_stands h.params (bytes_up_to z h) z.contents) h.params (bytes_up_to z h) (length items) a.tag xs p

    by : (o : Option Value) → value_at h.params x (bytes_up_to z h) place ≡ o
        → ((p : ℕ) → SpellsValues h.params (bytes_up_to z h) (start + size) (front ++ x ∷ []) p → Decided (Each (Holds Q) (rest p)) F)
        → Decided (Each (Holds Q) (value_out (value_stands h.params (bytes_up_to z h) z.contents) rest (length items) a.tag x place o)) F
    by None is go = taken tt
    by (Some v) is go =
        decided-append (Holds Q) (value_stands h.params (bytes_up_to z h) z.contents (length items) a.tag x place v) (rest (place + v.size))
        (one (length items) a x place v (record {
          items = items;
          start = start;
          depth = e.depth;
          scans = e.scans;
          nth = refl;
          code = code;
          size = size;
          spells = e.spells;
          some = e.some;
          listed = e.listed;
          before = front;
          behind = xs;
          attribute = cut;
          values = spelled;
          is = is;
        }))
        (go (place + v.size) (more_values front x place v spelled is))

abbrev entries_stand : UnitSection → UnitHeader → List Abbreviation → List Scanned → List Stand
entries_stand z h table items = entries_out no_entry (value_stands h.params (bytes_up_to z h) z.contents) h.params table (bytes_up_to z h) 0 items

entries-known : (Q : Role → List Cell → Type 0) (F : Refusal → Type 0) (z : UnitSection) (h : UnitHeader) (table : List Abbreviation) (items : List Scanned) (place depth : ℕ)
    → OneValue Q F z h table → Scans h table (bytes_up_to z h) items place depth → Decided (Each (Holds Q) (entries_stand z h table items)) F
entries-known Q F z h table items place depth one starts = taken tt
entries-known Q F z h table all p d one (null items place depth size scans is) = entries-known Q F z h table items place depth one scans
entries-known Q F z h table all p d one (entry items place depth after a scans is root) =
    let number : 0 + length items ≡ length items = omega arith in
    let own : entries_stand z h table (items ++ scanned place depth a after ∷ [])
    ≡ entries_stand z h table items
    ++ values_out (value_stands h.params (bytes_up_to z h) z.contents) h.params (bytes_up_to z h) (length items) a.tag a.specs (place + is.size) =
    entries_out-more no_entry (value_stands h.params (bytes_up_to z h) z.contents) h.params table (bytes_up_to z h) 0 items (scanned place depth a after)
    ∙ ap (λ (n : ℕ). entries_stand z h table items
    ++ entry_out no_entry (value_stands h.params (bytes_up_to z h) z.contents) h.params table (bytes_up_to z h) n (scanned place depth a after)) number
    ∙ ap (λ (xs : List Stand). entries_stand z h table items ++ xs)
    (entry_out-is no_entry (value_stands h.params (bytes_up_to z h) z.contents) h.params table (bytes_up_to z h) (length items) place depth after a is) in
    subst (λ (xs : List Stand). Decided (Each (Holds Q) xs) F) (sym own)
    (decided-append (Holds Q) (entries_stand z h table items)
    (values_out (value_stands h.params (bytes_up_to z h) z.contents) h.params (bytes_up_to z h) (length items) a.tag a.specs (place + is.size))
    (entries-known Q F z h table items place depth one scans)
    (values-known Q F z h table items place is.code is.size a [] a.specs (place + is.size) one
    (record { depth = depth; scans = scans; spells = is.spells; some = is.some; listed = is.listed }) refl no_values))

-- ### Units

abbrev nothing : Piece UnitState → List ℕ
nothing x = []

nothing-said : (xs : List (Piece UnitState)) → all_of nothing xs ≡ []
nothing-said [] = refl
nothing-said (x ∷ xs) = nothing-said xs

-- pieces of each of which it holds
abbrev HeldRun : (Role → List Cell → Type 0) → UnitBase → UnitSection → UnitState → UnitState → ℕ → ℕ → Type 0
HeldRun Q base z s t a b = PieceRun (unit_grammar base) (HoldsOf Q) nothing z.contents s t a b []

unit-ends : (s : UnitState) (e : ℕ) → between s s.header.end e 0 ≡ before_unit s.section s.kind s.whole s.header.end (s.unit + 1)
unfolding between
unit-ends s e = rw (eq-eqb s.header.end s.header.end refl) refl

header-held : (Q : Role → List Cell → Type 0) (base : UnitBase) (z : UnitSection) (start unit : ℕ) (h : UnitHeader) → ((q : List Cell) → Q fixed q) → HeaderPiece base z start unit h
    → HeldRun Q base z (before z start unit) (between (in_headed base z start unit h) h.first 0 0) start h.first
unfolding role_of
header-held Q base z start unit h none p =
    subst (λ (n : ℕ). HeldRun Q base z (before z start unit) (between (in_headed base z start unit h) h.first 0 0) start n) p.end
    (run-one (unit_grammar base) (HoldsOf Q) nothing z.contents (before z start unit) (between (in_headed base z start unit h) h.first 0 0) start (h.first - start) [] p.fits p.next refl
    (none (take (h.first - start) (drop start z.contents))))

unit-held : (Q : Role → List Cell → Type 0) (F : Refusal → Type 0) (base : UnitBase) (z : UnitSection) (start unit : ℕ) (h : UnitHeader) (table : List Abbreviation) (items : List Scanned)
    → ((q : List Cell) → Q fixed q) → IsUnit base z start h → IsUnitTable base h table → AreEntries h table (bytes_up_to z h) items
    → ((list : List Abbreviation) → IsUnitTable base h list → OneValue Q F z h list)
    → Decided (HeldRun Q base z (before z start unit) (before z h.end (unit + 1)) start h.end) F
unit-held Q F base z start unit h table items none u t entries one =
    let list : List Abbreviation = abbreviations_at base.abbrevs.bytes h.abbrevs in
    let found : table ≡ abbreviations_at base.abbrevs.bytes h.abbrevs = sym (table-found base.abbrevs.bytes h.abbrevs table t.is) in
    let own : AreEntries h (abbreviations_at base.abbrevs.bytes h.abbrevs) (bytes_up_to z h) items =
    subst (λ (ys : List Abbreviation). AreEntries h ys (bytes_up_to z h) items) found entries in
    let declares : IsUnitTable base h (abbreviations_at base.abbrevs.bytes h.abbrevs) = subst (λ (ys : List Abbreviation). IsUnitTable base h ys) found t in
    decided-by (λ (all : Each (Holds Q) (entries_stand z h (abbreviations_at base.abbrevs.bytes h.abbrevs) items)). make own all)
    (entries-known Q F z h (abbreviations_at base.abbrevs.bytes h.abbrevs) items h.end 0 (one (abbreviations_at base.abbrevs.bytes h.abbrevs) declares) own)
  where
    make : AreEntries h (abbreviations_at base.abbrevs.bytes h.abbrevs) (bytes_up_to z h) items
        → Each (Holds Q) (entries_stand z h (abbreviations_at base.abbrevs.bytes h.abbrevs) items)
        → HeldRun Q base z (before z start unit) (before z h.end (unit + 1)) start h.end
    make own all =
        let s : UnitState = in_headed base z start unit h in
        let run : PieceRun (unit_grammar base) any_piece stands z.contents (between (in_headed base z start unit h) h.first 0 0) (between (in_headed base z start unit h) h.end (length items) 0)
        h.first h.end (entries_stand z h (abbreviations_at base.abbrevs.bytes h.abbrevs) items) =
        scan-run any_piece stands no_entry (value_stands h.params (bytes_up_to z h) z.contents) base z.contents (in_headed base z start unit h) items h.end 0
        (says-stands z.contents (in_headed base z start unit h)) own in
        let held : HeldRun Q base z (between (in_headed base z start unit h) h.first 0 0) (between (in_headed base z start unit h) h.end (length items) 0) h.first h.end =
        record {
          pieces = run.pieces;
          leads = run.leads;
          covers = run.covers;
          fields = nothing-said run.pieces;
          each = pieces-hold Q run.pieces none (subst (Each (Holds Q)) (sym run.fields) all);
        } in
        let scan : HeldRun Q base z (between (in_headed base z start unit h) h.first 0 0) (before z h.end (unit + 1)) h.first h.end =
        subst (λ (x : UnitState). HeldRun Q base z (between (in_headed base z start unit h) h.first 0 0) x h.first h.end) (unit-ends (in_headed base z start unit h) (length items)) held in
        run-more (unit_grammar base) (HoldsOf Q) nothing z.contents (before z start unit) (between (in_headed base z start unit h) h.first 0 0) (before z h.end (unit + 1)) start h.first h.end [] []
        (header-held Q base z start unit h none (header-piece base z start unit h table u (header-placed base z start h u.header) t)) scan

-- ### Sections

-- what is decided of each value of debug data
abbrev pub EveryValue : (Role → List Cell → Type 0) → (Refusal → Type 0) → DebugData → Type 0
EveryValue Q F d = (z : UnitSection) (h : UnitHeader) (table : List Abbreviation) → HasTable d z h table → OneValue Q F z h table

units-held : (Q : Role → List Cell → Type 0) (F : Refusal → Type 0) (d : DebugData) (front behind : List UnitSection) (z : UnitSection) (first : ℕ) (list : List UnitHeader) (place : ℕ)
    → ((q : List Cell) → Q fixed q) → d.found Info ≡ front ++ z ∷ behind → EveryValue Q F d → UnitsScanned d.base z list place
    → Decided (HeldRun Q d.base z (before z 0 first) (before z place (first + length list)) 0 place) F
units-held Q F d front behind z first list place none e one none_scanned =
    taken (run-none (unit_grammar d.base) (HoldsOf Q) nothing z.contents (before z 0 first) (before z 0 (first + 0)) 0 (ap (λ (n : ℕ). before z 0 n) (omega arith)))
units-held Q F d front behind z first all place none e one (more_scanned list h start table items s u t entries) =
    by (units-held Q F d front behind z first list start none e one s)
    (unit-held Q F d.base z start (first + length list) h table items none u t entries
    (λ (ys : List Abbreviation) (declares : IsUnitTable d.base h ys).
    one z h ys (record {
      unit = record { before = front; behind = behind; sections = e; list = list; start = start; units = scanned-units d.base z list start s; is = u };
      declares = declares;
    })))
  where
    by : Decided (HeldRun Q d.base z (before z 0 first) (before z start (first + length list)) 0 start) F
        → Decided (HeldRun Q d.base z (before z start (first + length list)) (before z h.end (first + length list + 1)) start h.end) F
        → Decided (HeldRun Q d.base z (before z 0 first) (before z h.end (first + length (list ++ h ∷ []))) 0 h.end) F
    by (refused r f) unit = refused r f
    by (taken run) (refused r f) = refused r f
    by (taken run) (taken unit) =
        let count : first + length list + 1 ≡ first + length (list ++ h ∷ []) = omega (arith, length-append list (h ∷ [])) in
        taken (subst (λ (n : ℕ). HeldRun Q d.base z (before z 0 first) (before z h.end n) 0 h.end) count
        (run-more (unit_grammar d.base) (HoldsOf Q) nothing z.contents (before z 0 first) (before z start (first + length list)) (before z h.end (first + length list + 1)) 0 start h.end [] [] run unit))

section-held : (Q : Role → List Cell → Type 0) (F : Refusal → Type 0) (d : DebugData) (front behind : List UnitSection) (z : UnitSection) (first : ℕ) (xs : List (Piece UnitState))
    → ((q : List Cell) → Q fixed q) → d.found Info ≡ front ++ z ∷ behind → EveryValue Q F d → ReadsUnits d.base z first xs → Decided (EachPiece (HoldsOf Q) xs) F
section-held Q F d front behind z first xs none e one reads =
    let all = section-scanned d.base z first xs reads in
    decided-by
    (λ (run : HeldRun Q d.base z (before z 0 first) (before z (length z.contents) (first + length all.0)) 0 (length z.contents)).
    let whole : WholeRun (unit_grammar d.base) (HoldsOf Q) nothing z.contents (before z 0 first) [] =
    run-whole (unit_grammar d.base) (HoldsOf Q) nothing z.contents (before z 0 first) (before z (length z.contents) (first + length all.0)) (length z.contents) [] refl
    (record { mode = refl; place = refl }) run in
    subst (EachPiece (HoldsOf Q)) (reads-one d.base z first whole.pieces xs (record { chain = whole.chain; cells = whole.cells_are }) reads) whole.each)
    (units-held Q F d front behind z first all.0 (length z.contents) none e one all.1)

sections-held : (Q : Role → List Cell → Type 0) (F : Refusal → Type 0) (d : DebugData) (first : ℕ) (front zs : List UnitSection) (rs : Readings) → ((q : List Cell) → Q fixed q)
    → d.found Info ≡ front ++ zs → EveryValue Q F d → ReadsAll d.base first zs rs → Decided (EachReading (HoldsOf Q) rs) F
sections-held Q F d first front zs [] none e one reads = taken tt
sections-held Q F d first front [] (r ∷ rs) none e one reads = absurd reads
sections-held Q F d first front (z ∷ zs) (r ∷ rs) none e one reads =
    decided-pair (section-held Q F d front zs z first r.pieces none e one reads.1)
    (sections-held Q F d (first + units_in r.pieces) (front ++ z ∷ []) zs rs none (e ∙ sym (append_assoc front (z ∷ []) zs)) one reads.2)

pub values-decided : (Q : Role → List Cell → Type 0) (F : Refusal → Type 0) (d : DebugData) (rs : Readings) → ((q : List Cell) → Q fixed q) → EveryValue Q F d
    → ReadsAll d.base 0 (d.found Info) rs → Decided (EachReading (HoldsOf Q) rs) F
values-decided Q F d rs none one reads = sections-held Q F d 0 [] (d.found Info) rs none refl one reads
