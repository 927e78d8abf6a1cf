-- Each unit's base of texts by index, among those that all units say, is that of its first entry.
use Rattle.std.proofs.Common.{Bool, true, false, ◌≡◌, ◌≢◌, ℕ, ◌+◌, ◌<◌, ◌≤◌, List, [], ◌∷◌, ◌++◌, Option, Some, None, refl, sym, ap, ◌∙◌, subst, arith, if◌then◌else◌, append_assoc}
use Rattle.std.proofs.lemmas.Bool.{ne_eqb}
use Rattle.dw_base.specs.AbbreviationTables.{Abbreviation, abbreviation_of}
use Rattle.dw_base.specs.Cells.{Located, located_cells}
use Rattle.dw_base.specs.DebugData.{ReadsAll}
use Rattle.dw_base.specs.EntryValues.{bytes_up_to}
use Rattle.dw_base.specs.FileViews.{View}
use Rattle.dw_base.specs.Lebs.{uleb_at}
use Rattle.dw_base.specs.LineMeanings.{item_at}
use Rattle.dw_base.specs.Readings.{Readings}
use Rattle.dw_base.specs.TextIndexes.{SaidBase, all_bases, base_of, is_base, said_by}
use Rattle.dw_base.specs.UnitHeaders.{UnitSection}
use Rattle.dw_base.specs.Values.{value_at}
use Rattle.dw_base.specs.ViewData.{debug_data}
use Rattle.dw_base.specs.declared.shared.Order.{Order}
use Rattle.dw_base.specs.declared.units.Scanned.{Scanned}
use Rattle.dw_base.specs.declared.units.UnitHeader.{UnitHeader}
use Rattle.dw_base.specs.declared.values.Spec.{Spec}
use Rattle.dw_base.specs.declared.values.Value.{Value}
use Rattle.dw_attrs.specs.UnitValues.{UnitSource, base_number, first_base, said_unit, unit_bytes, unit_entries}
use Rattle.dw_units.specs.UnitLists.{ListsAll}
use Rattle.dw_units.specs.declared.listed_unit.ListedUnit.{ListedUnit}
use Rattle.dw_attrs.proofs.AllRunLaws.{EachNumbered, EachOut, all_out, all_pieces, all-said-out}
use Rattle.dw_attrs.proofs.BaseRunLaws.{base_says, bases_of, bases-all, class_base, no_base, or_base, unit-base, unit-bases, value_placed}
use Rattle.dw_attrs.proofs.PlaceRunLaws.{NoPremise, no-premises}
use Rattle.dw_attrs.proofs.UnitFactLaws.{UnitFacts, unit-facts}
use Rattle.dw_attrs.proofs.ValueMeantLaws.{IsIn}
use Rattle.dw_base.proofs.ViewCellLaws.{offsets-located}
use Rattle.dw_base.specs.TableStarts.{own_form}
use Rattle.dw_base.specs.declared.debug_sections.DebugSection.TheVariants.{Info, StrOffsets}
use Rattle.dw_meaning.proofs.RunLaws.{PieceRun}
use Rattle.dw_meaning.proofs.ScanSectionLaws.{before, in_headed}
use Rattle.dw_meaning.proofs.WholeUnitLaws.{unit-run}
use Rattle.dw_meaning.specs.PieceRuns.{all_of, value_out, values_out, listed_out, coded_out, entry_out, entries_out, any_piece}
use Rattle.dw_base.specs.UnitPieces.{unit_grammar}

order-of : (v : View) → (debug_data v).base.order ≡ v.order
unfolding debug_data
order-of v = refl

-- a unit as it is printed is where its entries are read
pub in-shown : (g : UnitSource) (z : UnitSection) (start unit : ℕ) (h : UnitHeader) (u : ListedUnit) (table : List Abbreviation) (items : List Scanned)
    → UnitFacts g.view g.tables z h u table items → IsIn z.contents (in_headed (debug_data g.view).base z start unit h) (said_unit g unit h table)
in-shown g z start unit h u table items f = record {
  section_is = sym f.section_is;
  unit_is = refl;
  header_is = refl;
  bytes_are = f.bytes_are;
  cells_are = f.cells_are;
  order_is = f.order_is ∙ order-of g.view;
  address = f.address;
}

-- what a unit says with its table, and its base
abbrev pub tabled_bases : View → ℕ → UnitHeader → Option (List Abbreviation) → List SaidBase
tabled_bases v unit h None = []
tabled_bases v unit h (Some table) = entries_out no_base (base_says v h (unit_bytes v h) unit) h.params table (unit_bytes v h) 0 (unit_entries h table (unit_bytes v h))

abbrev pub unit_bases : View → List (List Abbreviation) → ℕ → ListedUnit → List SaidBase
unit_bases v tables unit u = tabled_bases v unit u.header (item_at tables u.table)

abbrev pub tabled_base : View → UnitHeader → Option (List Abbreviation) → Option ℕ
tabled_base v h None = None
tabled_base v h (Some table) = first_base v h table (unit_bytes v h) (unit_entries h table (unit_bytes v h))

abbrev pub own_base : View → List (List Abbreviation) → ListedUnit → Option ℕ
own_base v tables u = tabled_base v u.header (item_at tables u.table)

-- all that units say
abbrev pub offsets_in : View → Located
offsets_in v = located_cells ((debug_data v).found StrOffsets)

base-out : (g : UnitSource) → EachOut (debug_data g.view) g.tables NoPremise (λ n. bases_of (debug_data g.view).base.order (offsets_in g.view)) (unit_bases g.view g.tables)
base-out g z among start unit h u table items q is t entries listed =
    let f : UnitFacts g.view g.tables z h u table items = unit-facts g.view g.tables z start h u table items among is t entries listed in
    let own : unit_bases g.view g.tables unit u ≡ entries_out no_base (base_says g.view h (unit_bytes g.view h) unit) h.params table (bytes_up_to z h) 0 items =
    ap (tabled_bases g.view unit u.header) f.table_is
    ∙ ap (λ (x : UnitHeader). entries_out no_base (base_says g.view x (unit_bytes g.view x) unit) x.params table (unit_bytes g.view x) 0 (unit_entries x table (unit_bytes g.view x))) f.header_is
    ∙ ap (λ (bs : List ℕ). entries_out no_base (base_says g.view h (unit_bytes g.view h) unit) h.params table bs 0 (unit_entries h table bs)) (sym f.bytes_are)
    ∙ ap (entries_out no_base (base_says g.view h (unit_bytes g.view h) unit) h.params table (bytes_up_to z h) 0) f.items_are in
    subst (λ (x : List SaidBase). PieceRun (unit_grammar (debug_data g.view).base) any_piece (bases_of (debug_data g.view).base.order (offsets_in g.view)) z.contents (before z start unit)
    (before z h.end (unit + 1)) start h.end x) (sym own)
    (unit-run any_piece (bases_of (debug_data g.view).base.order (offsets_in g.view)) no_base (base_says g.view h (unit_bytes g.view h) unit) (debug_data g.view).base z start unit h table items [] is t
    entries (λ p rest split e. refl) (λ k. tt)
    (unit-bases (offsets_in g.view) (said_unit g unit h table) z.contents (in_headed (debug_data g.view).base z start unit h) (debug_data g.view).base.order
    (in-shown g z start unit h u table items f) f.order_is (offsets-located g.view)))

pieces-bases : (order : Order) (z : Located) (rs : Readings) → all_bases order z rs ≡ all_pieces (λ n. bases_of order z) rs
pieces-bases order z [] = refl
pieces-bases order z (r ∷ rs) =
    ap (λ (t : List SaidBase). t ++ all_bases order z rs) (bases-all order z r.pieces)
    ∙ ap (λ (t : List SaidBase). all_of (bases_of order z) r.pieces ++ t) (pieces-bases order z rs)

bases-are : (g : UnitSource) (rs : Readings) → ListsAll (debug_data g.view) g.tables ((debug_data g.view).found Info) g.units → ReadsAll (debug_data g.view).base 0 ((debug_data g.view).found Info) rs
    → all_bases (debug_data g.view).base.order (offsets_in g.view) rs ≡ all_out (unit_bases g.view g.tables) 0 g.units
bases-are g rs l reads =
    pieces-bases (debug_data g.view).base.order (offsets_in g.view) rs
    ∙ all-said-out (debug_data g.view) g.tables NoPremise (λ n. bases_of (debug_data g.view).base.order (offsets_in g.view)) (unit_bases g.view g.tables) g.units rs
    (base-out g) (no-premises 0 g.units) l reads

-- what another unit says is passed by
values-skip : (unit k n tag : ℕ) (v : View) (h : UnitHeader) (bytes : List ℕ) (xs : List Spec) (place : ℕ) (rest : List SaidBase) → unit ≢ k
    → base_of (values_out (base_says v h bytes unit) h.params bytes n tag xs place ++ rest) k ≡ base_of rest k
values-skip unit k n tag v h bytes [] place rest other = refl
values-skip unit k n tag v h bytes (x ∷ xs) place rest other = by_value (value_at h.params x bytes place) (λ p. values-skip unit k n tag v h bytes xs p rest other)
  where
    by_said : (a placed : Bool) (o : Option ℕ) (more : List SaidBase) → base_of (more ++ rest) k ≡ base_of rest k
        → base_of (((if a then said_by unit placed o else []) ++ more) ++ rest) k ≡ base_of rest k
    by_said true placed None more step = step
    by_said true placed (Some b) more step = ap (λ (t : Bool). if t then Some b else base_of (more ++ rest) k) (ne_eqb unit k other) ∙ step
    by_said false placed o more step = step

    by_value : (o : Option Value) → ((p : ℕ) → base_of (values_out (base_says v h bytes unit) h.params bytes n tag xs p ++ rest) k ≡ base_of rest k)
        → base_of (value_out (base_says v h bytes unit) (λ p. values_out (base_says v h bytes unit) h.params bytes n tag xs p) n tag x place o ++ rest) k ≡ base_of rest k
    by_value None step = refl
    by_value (Some y) step =
        by_said (is_base n x.name) (value_placed v h bytes (own_form x bytes place) y) (class_base y.class (base_number v h bytes (own_form x bytes place) y)) (values_out (base_says v h bytes unit) h.params bytes n tag xs (place + y.size))
        (step (place + y.size))

entries-skip : (unit k n : ℕ) (v : View) (h : UnitHeader) (table : List Abbreviation) (bytes : List ℕ) (es : List Scanned) (rest : List SaidBase) → unit ≢ k
    → base_of (entries_out no_base (base_says v h bytes unit) h.params table bytes n es ++ rest) k ≡ base_of rest k
entries-skip unit k n v h table bytes [] rest other = refl
entries-skip unit k n v h table bytes (e ∷ es) rest other =
    ap (λ (t : List SaidBase). base_of t k)
    (append_assoc (entry_out no_base (base_says v h bytes unit) h.params table bytes n e) (entries_out no_base (base_says v h bytes unit) h.params table bytes (n + 1) es) rest)
    ∙ by_code (uleb_at bytes e.offset) (entries_out no_base (base_says v h bytes unit) h.params table bytes (n + 1) es ++ rest)
    ∙ entries-skip unit k (n + 1) v h table bytes es rest other
  where
    by_listed : (from : ℕ) (o : Option Abbreviation) (more : List SaidBase) → base_of (listed_out no_base (base_says v h bytes unit) h.params bytes n e from o ++ more) k ≡ base_of more k
    by_listed from None more = refl
    by_listed from (Some a) more = values-skip unit k n a.tag v h bytes a.specs from more other

    by_code : (o : Option (ℕ × ℕ)) (more : List SaidBase) → base_of (coded_out no_base (base_says v h bytes unit) h.params table bytes n e o ++ more) k ≡ base_of more k
    by_code None more = refl
    by_code (Some (code, size)) more = by_listed (e.offset + size) (abbreviation_of table code) more

unit-skip : (v : View) (tables : List (List Abbreviation)) (unit k : ℕ) (u : ListedUnit) (rest : List SaidBase) → unit ≢ k
    → base_of (unit_bases v tables unit u ++ rest) k ≡ base_of rest k
unit-skip v tables unit k u rest other = by_table (item_at tables u.table)
  where
    by_table : (o : Option (List Abbreviation)) → base_of (tabled_bases v unit u.header o ++ rest) k ≡ base_of rest k
    by_table None = refl
    by_table (Some table) = entries-skip unit k 0 v u.header table (unit_bytes v u.header) (unit_entries u.header table (unit_bytes v u.header)) rest other

later-none : (v : View) (tables : List (List Abbreviation)) (first k : ℕ) (us : List ListedUnit) → k < first → base_of (all_out (unit_bases v tables) first us) k ≡ None
later-none v tables first k [] lt = refl
later-none v tables first k (u ∷ us) lt =
    unit-skip v tables first k u (all_out (unit_bases v tables) (first + 1) us) (λ (e : first ≡ k). omega (arith, e, lt)) ∙ later-none v tables (first + 1) k us (omega (arith, lt))

own-said : (v : View) (tables : List (List Abbreviation)) (unit : ℕ) (u : ListedUnit) (rest : List SaidBase) → base_of rest unit ≡ None
    → base_of (unit_bases v tables unit u ++ rest) unit ≡ own_base v tables u
own-said v tables unit u rest none = by_table (item_at tables u.table)
  where
    or-none : (o : Option ℕ) → or_base o None ≡ o
    or-none None = refl
    or-none (Some b) = refl

    by_table : (o : Option (List Abbreviation)) → base_of (tabled_bases v unit u.header o ++ rest) unit ≡ tabled_base v u.header o
    by_table None = none
    by_table (Some table) =
        unit-base unit v u.header table (unit_bytes v u.header) (unit_entries u.header table (unit_bytes v u.header)) rest
        ∙ ap (or_base (first_base v u.header table (unit_bytes v u.header) (unit_entries u.header table (unit_bytes v u.header)))) none
        ∙ or-none (first_base v u.header table (unit_bytes v u.header) (unit_entries u.header table (unit_bytes v u.header)))

-- the base of a unit among these is its own
abbrev pub HasBase : View → List (List Abbreviation) → List SaidBase → ℕ → ListedUnit → Type 0
HasBase v tables all n u = base_of all n ≡ own_base v tables u

each-base : (v : View) (tables : List (List Abbreviation)) (all : List SaidBase) (first : ℕ) (us : List ListedUnit)
    → ((k : ℕ) → first ≤ k → base_of all k ≡ base_of (all_out (unit_bases v tables) first us) k) → EachNumbered (HasBase v tables all) first us
each-base v tables all first [] same = tt
each-base v tables all first (u ∷ us) same = (
  same first (omega arith) ∙ own-said v tables first u (all_out (unit_bases v tables) (first + 1) us) (later-none v tables (first + 1) first us (omega arith)),
  each-base v tables all (first + 1) us (λ k le.
      same k (omega (arith, le)) ∙ unit-skip v tables first k u (all_out (unit_bases v tables) (first + 1) us) (λ (e : first ≡ k). omega (arith, e, le))),
)

pub all-based : (g : UnitSource) (rs : Readings) → ListsAll (debug_data g.view) g.tables ((debug_data g.view).found Info) g.units → ReadsAll (debug_data g.view).base 0 ((debug_data g.view).found Info) rs
    → EachNumbered (HasBase g.view g.tables (all_bases (debug_data g.view).base.order (offsets_in g.view) rs)) 0 g.units
all-based g rs l reads =
    each-base g.view g.tables (all_bases (debug_data g.view).base.order (offsets_in g.view) rs) 0 g.units
    (λ k le. ap (λ (t : List SaidBase). base_of t k) (bases-are g rs l reads))
