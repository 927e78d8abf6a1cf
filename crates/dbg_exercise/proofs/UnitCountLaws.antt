-- The units that are listed are as many as debug data mean, and have as many entries.
use Rattle.std.proofs.Common.{Bool, true, false, ◌≡◌, ℕ, suc, ◌+◌, ◌==◌, List, [], ◌∷◌, ◌++◌, length, Option, Some, None, refl, sym, ap, ◌∙◌, subst, arith, if◌then◌else◌, append_assoc, append-nil, length-append}
use Rattle.std.proofs.lemmas.Bool.{ne_eqb, eq-eqb}
use Rattle.dw_base.specs.AbbreviationTables.{Abbreviation, abbreviation_of}
use Rattle.dw_base.specs.Cells.{Cell}
use Rattle.dw_base.specs.DebugData.{Around, DataReadings, Lasting, ReadsAll, around_of}
use Rattle.dw_base.specs.EntryScans.{Scans, starts, null, entry, scanned}
use Rattle.dw_base.specs.EntryValues.{bytes_up_to}
use Rattle.dw_base.specs.FileViews.{View}
use Rattle.dw_base.specs.Forests.Mark.{null as null_mark}
use Rattle.dw_base.specs.Forms.{ValueKind, number_of, leb_number, signed_leb, block_of, counted, counted_leb, inline_text, text_offset, present, in_abbreviation, form_in_front, supplementary, unlisted, kind_in}
use Rattle.dw_base.specs.LineMeanings.{item_at}
use Rattle.dw_base.specs.UnitHeaders.{UnitBase, unit_header}
use Rattle.dw_base.specs.UnitMeanings.{UnitMeaning, code_mark, entry_mark, head_mark, value_mark}
use Rattle.dw_base.specs.UnitPieces.{unit_grammar}
use Rattle.dw_base.specs.UnitStates.{UnitState, code_value}
use Rattle.dw_base.specs.Values.{value_at}
use Rattle.dw_base.specs.ViewData.{debug_data}
use Rattle.dw_base.specs.declared.debug_sections.DebugSection.TheVariants.{Info}
use Rattle.dw_base.specs.declared.shared.Params.{Params}
use Rattle.dw_base.specs.declared.units.Scanned.{Scanned}
use Rattle.dw_base.specs.declared.units.UnitHeader.{UnitHeader}
use Rattle.dw_base.specs.declared.values.Spec.{Spec}
use Rattle.dw_base.specs.declared.values.Value.{Value}
use Rattle.dw_meaning.specs.PieceRuns.{any_piece, entries_out, entry_out, value_out, values_out}
use Rattle.dw_meaning.specs.SpelledUnits.{AllSpelled}
use Rattle.dw_meaning.proofs.RunLaws.{PieceRun}
use Rattle.dw_meaning.proofs.ScanSectionLaws.{before, in_headed}
use Rattle.dw_meaning.proofs.UnitRunLaws.{UnitSays, entries_out-more, entry_out-is}
use Rattle.dw_meaning.proofs.WholeUnitLaws.{unit-run}
use Rattle.dw_units.specs.UnitLists.{ListsAll}
use Rattle.dw_units.specs.declared.listed_unit.ListedUnit.{ListedUnit}
use Rattle.dw_attrs.specs.UnitValues.{unit_bytes, unit_entries}
use Rattle.dw_attrs.proofs.AllRunLaws.{EachOut, all_out, all-said-out}
use Rattle.dw_attrs.proofs.PlaceRunLaws.{NoPremise, no-premises}
use Rattle.dw_attrs.proofs.UnitFactLaws.{UnitFacts, unit-facts}
use Rattle.gen_laws.specs.Counts.{entries_in}
use Rattle.dbg_exercise.specs.ViewCounts.{entries_listed, tabled_count}
use Rattle.dbg_exercise.proofs.MarkCountLaws.{all-sum, entries-alone, given, piece_given, units-alone, units_sum}

-- what a value gives, in front of which a form may stand
value-none : (b o : List ℕ) (k : ValueKind) (around : Around) (s : UnitState) (number tag : ℕ) (x : Spec) (p : List Cell) → given b o (value_mark k around s number tag x p) ≡ []
value-none b o (number_of class n) around s number tag x p = refl
value-none b o (leb_number class) around s number tag x p = refl
value-none b o signed_leb around s number tag x p = refl
value-none b o (block_of n) around s number tag x p = refl
value-none b o (counted n) around s number tag x p = refl
value-none b o counted_leb around s number tag x p = refl
value-none b o inline_text around s number tag x p = refl
value-none b o (text_offset section n) around s number tag x p = refl
value-none b o present around s number tag x p = refl
value-none b o in_abbreviation around s number tag x p = refl
value-none b o form_in_front around s number tag x p = refl
value-none b o supplementary around s number tag x p = refl
value-none b o unlisted around s number tag x p = refl

abbrev each_entry : List ℕ → ℕ → ℕ → ℕ → Abbreviation → List ℕ
each_entry o number place depth a = o

abbrev no_value : ℕ → ℕ → Spec → ℕ → Value → List ℕ
no_value number tag x place v = []

code-given : (b o : List ℕ) (table : List Abbreviation) (code : ℕ) (a : Abbreviation) → (code == 0) ≡ false → abbreviation_of table code ≡ Some a → given b o (code_mark table code) ≡ o
code-given b o table code a other listed =
    ap (λ (t : Bool). given b o (if t then null_mark else entry_mark (abbreviation_of table code))) other
    ∙ ap (λ (e : Option Abbreviation). given b o (entry_mark e)) listed

null-given : (b o : List ℕ) (table : List Abbreviation) (code : ℕ) → (code == 0) ≡ true → given b o (code_mark table code) ≡ []
null-given b o table code zero_ = ap (λ (t : Bool). given b o (if t then null_mark else entry_mark (abbreviation_of table code))) zero_

unit-given : (b o : List ℕ) (around : Around) (cells : List Cell) (s : UnitState) → UnitSays any_piece (piece_given b o around) cells s (each_entry o) no_value
unit-given b o around cells s = record {
  holds = λ m place e d k. tt;
  nulls = λ place e d p zero_. null-given b o s.table (code_value p) (eq-eqb (code_value p) 0 zero_);
  codes = λ place e d a p some listed. code-given b o s.table (code_value p) a (ne_eqb (code_value p) 0 some) listed;
  forms = λ place e d n tag x xs p front. value-none b o (kind_in s.header.params x.form) around _ n tag x p;
  owns = λ place e d n tag x xs v other is. value-none b o (kind_in s.header.params x.form) around _ n tag x _;
  chosen = λ place e d n tag x xs v front c. value-none b o (kind_in s.header.params _) around _ n tag _ _;
}

-- so much for each entry of a list
abbrev items_given : List ℕ → List Scanned → List ℕ
items_given o [] = []
items_given o (e ∷ es) = o ++ items_given o es

given-more : (o : List ℕ) (es : List Scanned) (e : Scanned) → items_given o (es ++ e ∷ []) ≡ items_given o es ++ o
given-more o [] e = append-nil o
given-more o (x ∷ xs) e = ap (λ (t : List ℕ). o ++ t) (given-more o xs e) ∙ sym (append_assoc o (items_given o xs) o)

no-values : (params : Params) (bytes : List ℕ) (n tag : ℕ) (xs : List Spec) (place : ℕ) → values_out no_value params bytes n tag xs place ≡ []
no-values params bytes n tag [] place = refl
no-values params bytes n tag (x ∷ xs) place = by_value (value_at params x bytes place) (λ p. no-values params bytes n tag xs p)
  where
    by_value : (v : Option Value) → ((p : ℕ) → values_out no_value params bytes n tag xs p ≡ []) → value_out no_value (λ p. values_out no_value params bytes n tag xs p) n tag x place v ≡ []
    by_value None rest = refl
    by_value (Some v) rest = rest (place + v.size)

entries-given : (o : List ℕ) (h : UnitHeader) (table : List Abbreviation) (bytes : List ℕ) (items : List Scanned) (place depth : ℕ) → Scans h table bytes items place depth
    → entries_out (each_entry o) no_value h.params table bytes 0 items ≡ items_given o items
entries-given o h table bytes items place depth starts = refl
entries-given o h table bytes all z d (null items place depth size s is) = entries-given o h table bytes items place depth s
entries-given o h table bytes all z d (entry items place depth after a s is root) =
    let here : entry_out (each_entry o) no_value h.params table bytes (0 + length items) (scanned place depth a after) ≡ o =
    entry_out-is (each_entry o) no_value h.params table bytes (0 + length items) place depth after a is
    ∙ ap (λ (t : List ℕ). o ++ t) (no-values h.params bytes (0 + length items) a.tag a.specs (place + is.size)) ∙ append-nil o in
    entries_out-more (each_entry o) no_value h.params table bytes 0 items (scanned place depth a after)
    ∙ ap (λ (t : List ℕ). t ++ entry_out (each_entry o) no_value h.params table bytes (0 + length items) (scanned place depth a after)) (entries-given o h table bytes items place depth s)
    ∙ ap (λ (t : List ℕ). items_given o items ++ t) here
    ∙ sym (given-more o items (scanned place depth a after))

-- what a unit gives, with its table
abbrev tabled_given : List ℕ → View → UnitHeader → Option (List Abbreviation) → List ℕ
tabled_given o v h None = []
tabled_given o v h (Some table) = items_given o (unit_entries h table (unit_bytes v h))

abbrev listed_given : List ℕ → List ℕ → View → List (List Abbreviation) → ℕ → ListedUnit → List ℕ
listed_given b o v tables n u = b ++ tabled_given o v u.header (item_at tables u.table)

head-given : (b o : List ℕ) (g : Lasting) (found : Option UnitHeader) (h : UnitHeader) → found ≡ Some h → given b o (head_mark g found) ≡ b
head-given b o g found h is = ap (λ (x : Option UnitHeader). given b o (head_mark g x)) is

unit-out : (b o : List ℕ) (v : View) (tables : List (List Abbreviation)) (around : Around) → around.lasting.base ≡ (debug_data v).base
    → EachOut (debug_data v) tables NoPremise (λ n. piece_given b o around) (listed_given b o v tables)
unit-out b o v tables around base z among start unit h u table items q is t entries listed =
    let f : UnitFacts v tables z h u table items = unit-facts v tables z start h u table items among is t entries listed in
    let own : listed_given b o v tables unit u ≡ b ++ items_given o items =
    ap (λ (t : List ℕ). b ++ t)
    (ap (tabled_given o v u.header) f.table_is
    ∙ ap (λ (x : UnitHeader). items_given o (unit_entries x table (unit_bytes v x))) f.header_is
    ∙ ap (λ (bs : List ℕ). items_given o (unit_entries h table bs)) (sym f.bytes_are)
    ∙ ap (items_given o) f.items_are) in
    subst (λ (x : List ℕ). PieceRun (unit_grammar (debug_data v).base) any_piece (piece_given b o around) z.contents (before z start unit) (before z h.end (unit + 1)) start h.end x)
    (ap (λ (t : List ℕ). b ++ t) (entries-given o h table (bytes_up_to z h) items h.end 0 entries) ∙ sym own)
    (unit-run any_piece (piece_given b o around) (each_entry o) no_value (debug_data v).base z start unit h table items b is t entries
    (λ p rest split e. head-given b o around.lasting _ h (ap (λ (g : UnitBase). unit_header g z.kind z.number start p) base ∙ e)) (λ k. tt)
    (unit-given b o around z.contents (in_headed (debug_data v).base z start unit h)))

-- all units
units-given : (b o : List ℕ) (v : View) (tables : List (List Abbreviation)) (us : List ListedUnit) (r : DataReadings) (units : List UnitMeaning)
    → ListsAll (debug_data v) tables ((debug_data v).found Info) us → ReadsAll (debug_data v).base 0 ((debug_data v).found Info) r.units
    → AllSpelled (around_of (debug_data v) r) r.units units → length (all_out (listed_given b o v tables) 0 us) ≡ units_sum (length b) (length o) units
units-given b o v tables us r units listed reads spelled =
    let around : Around = around_of (debug_data v) r in
    sym (ap length (all-said-out (debug_data v) tables NoPremise (λ n. piece_given b o (around_of (debug_data v) r)) (listed_given b o v tables) us r.units
    (unit-out b o v tables (around_of (debug_data v) r) refl) (no-premises 0 us) listed reads))
    ∙ all-sum b o (around_of (debug_data v) r) r.units units spelled

-- nothing for each entry, and one for each
items-none : (es : List Scanned) → length (items_given [] es) ≡ 0
items-none [] = refl
items-none (e ∷ es) = items-none es

tabled-none : (v : View) (h : UnitHeader) (table : Option (List Abbreviation)) → length (tabled_given [] v h table) ≡ 0
tabled-none v h None = refl
tabled-none v h (Some table) = items-none (unit_entries h table (unit_bytes v h))

out-alone : (v : View) (tables : List (List Abbreviation)) (n : ℕ) (us : List ListedUnit) → length (all_out (listed_given (0 ∷ []) [] v tables) n us) ≡ length us
out-alone v tables n [] = refl
out-alone v tables n (u ∷ us) =
    let whole = length-append (listed_given (0 ∷ []) [] v tables n u) (all_out (listed_given (0 ∷ []) [] v tables) (n + 1) us) in
    omega (arith, whole, tabled-none v u.header (item_at tables u.table), out-alone v tables (n + 1) us)

items-one : (es : List Scanned) → length (items_given (0 ∷ []) es) ≡ length es
items-one [] = refl
items-one (e ∷ es) = ap suc (items-one es)

tabled-one : (v : View) (h : UnitHeader) (table : Option (List Abbreviation)) → length (tabled_given (0 ∷ []) v h table) ≡ tabled_count v h table
tabled-one v h None = refl
tabled-one v h (Some table) = items-one (unit_entries h table (unit_bytes v h))

out-entries : (v : View) (tables : List (List Abbreviation)) (n : ℕ) (us : List ListedUnit) → length (all_out (listed_given [] (0 ∷ []) v tables) n us) ≡ entries_listed v tables us
out-entries v tables n [] = refl
out-entries v tables n (u ∷ us) =
    let whole = length-append (listed_given [] (0 ∷ []) v tables n u) (all_out (listed_given [] (0 ∷ []) v tables) (n + 1) us) in
    omega (arith, whole, tabled-one v u.header (item_at tables u.table), out-entries v tables (n + 1) us)

-- so there are as many units, and as many entries
pub units-counted : (v : View) (tables : List (List Abbreviation)) (us : List ListedUnit) (r : DataReadings) (units : List UnitMeaning)
    → ListsAll (debug_data v) tables ((debug_data v).found Info) us → ReadsAll (debug_data v).base 0 ((debug_data v).found Info) r.units
    → AllSpelled (around_of (debug_data v) r) r.units units → length us ≡ length units
units-counted v tables us r units listed reads spelled =
    sym (out-alone v tables 0 us) ∙ units-given (0 ∷ []) [] v tables us r units listed reads spelled ∙ units-alone units

pub entries-counted : (v : View) (tables : List (List Abbreviation)) (us : List ListedUnit) (r : DataReadings) (units : List UnitMeaning)
    → ListsAll (debug_data v) tables ((debug_data v).found Info) us → ReadsAll (debug_data v).base 0 ((debug_data v).found Info) r.units
    → AllSpelled (around_of (debug_data v) r) r.units units → entries_listed v tables us ≡ entries_in units
entries-counted v tables us r units listed reads spelled =
    sym (out-entries v tables 0 us) ∙ units-given [] (0 ∷ []) v tables us r units listed reads spelled ∙ entries-alone units
