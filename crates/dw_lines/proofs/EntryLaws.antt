-- Laws of the directories and files of version 5, column by column and entry by entry.
use Rattle.std.proofs.Common.{◌≡◌, ℕ, zero, suc, ◌+◌, ◌-◌, ◌<◌, ◌≤◌, List, [], ◌∷◌, ◌++◌, length, take, drop, get_or, Some, None, refl, sym, ap, ◌∙◌, subst, arith}
use Rattle.std.specs.Prelude.{Result, Ok, Err}
use Rattle.std.proofs.Math.Seq.{drop-cons}
use Rattle.std.proofs.lemmas.List.{take_all}
use Rattle.dw_base.specs.LineSources.{LineSource}
use Rattle.dw_base.specs.Lebs.{uleb_at}
use Rattle.dw_base.specs.Values.{value_at}
use Rattle.dw_base.specs.declared.fault.Refusal.{Refusal}
use Rattle.dw_base.specs.declared.shared.Order.{Order}
use Rattle.dw_base.specs.declared.values.Spec.{Spec}
use Rattle.dw_base.specs.declared.values.Value.{Value}
use Rattle.dw_forms.proofs.InsideLaws.{value_at-inside}
use Rattle.dw_base.specs.LineEntries.{bad_table, column_params, value_column, next_column, columns, entry_at, next_entry, counted_entries, entries_at}
use Rattle.dw_base.specs.LineFormats.{format_at}
use Rattle.dw_base.specs.Walks.{fallible_steps, or_refused, Since}
use Rattle.dw_base.specs.declared.line_tables.Entry.{Entry}
use Rattle.dw_base.specs.declared.line_tables.LineHeader.{LineHeader}
use Rattle.dw_base.specs.declared.line_tables.FilePlace.{FilePlace}

-- a value of the whole table
whole-table : (table : List ℕ) (end : ℕ) → end ≡ length table → take end table ≡ table
whole-table table end e = take_all end table (omega (arith, e))

value-whole : (order : Order) (h : LineHeader) (table : List ℕ) (spec : Spec) (place end : ℕ) → end ≡ length table
    → value_at (column_params order h) spec (take end table) place ≡ value_at (column_params order h) spec table place
value-whole order h table spec place end e = ap (λ (t : List ℕ). value_at (column_params order h) spec t place) (whole-table table end e)

pub value-inside : (order : Order) (h : LineHeader) (table : List ℕ) (spec : Spec) (place : ℕ) (v : Value)
    → value_at (column_params order h) spec (take (length table) table) place ≡ Some v → place + v.size ≤ length table
value-inside order h table spec place v e =
    value_at-inside (column_params order h) spec table place v (sym (value-whole order h table spec place (length table) refl) ∙ e)

pub value-some : (section : ℕ) (order : Order) (h : LineHeader) (table : List ℕ) (spec : Spec) (place : ℕ) (v : Value)
    → value_at (column_params order h) spec (take (length table) table) place ≡ Some v
    → Ok (record { text = None; number = v.number; next = place + v.size }) ≡ value_column section h place (value_at (column_params order h) spec table place)
value-some section order h table spec place v e =
    ap (value_column section h place) (sym e ∙ value-whole order h table spec place (length table) refl)

pub value-none : (section : ℕ) (order : Order) (h : LineHeader) (table : List ℕ) (spec : Spec) (place : ℕ)
    → value_at (column_params order h) spec (take (length table) table) place ≡ None
    → Err (bad_table section h) ≡ value_column section h place (value_at (column_params order h) spec table place)
value-none section order h table spec place e =
    ap (value_column section h place) (sym e ∙ value-whole order h table spec place (length table) refl)

pub ruleset value_laws = (value-inside, value-some, value-none)

-- the columns one after another
pub columns-step : (g : LineSource) (h : LineHeader) (table : List ℕ) (specs : List Spec) (i : ℕ) (d : Spec) (e : Entry) → i < length specs
    → columns g h table (drop i specs) e ≡ or_refused (columns g h table (drop (i + 1) specs)) (next_column g h table (get_or specs i d) e)
columns-step g h table specs i d e lt =
    let one : suc i ≡ i + 1 = omega arith in
    ap (λ (ss : List Spec). columns g h table ss e) (drop-cons specs i d lt)
    ∙ ap (λ (k : ℕ). or_refused (columns g h table (drop k specs)) (next_column g h table (get_or specs i d) e)) one

-- the entries are what so many behind those so far make of them
pub record EntriesFrom (g : LineSource) (h : LineHeader) (table : List ℕ) (specs : List Spec) (place left : ℕ) (files : List FilePlace) (next : ℕ) : Type 0 where
  pub same : counted_entries g h table specs place (uleb_at table place) ≡ fallible_steps (next_entry g h table specs) left (files, next)

pub entries-start : (g : LineSource) (h : LineHeader) (table : List ℕ) (specs : List Spec) (place count size next : ℕ) → Some (count, size) ≡ uleb_at table place
    → next ≡ place + size → EntriesFrom g h table specs place count [] next
entries-start g h table specs place count size next e n = rw n (record { same = rw (← e) refl })

entry-step : (g : LineSource) (h : LineHeader) (table : List ℕ) (specs : List Spec) (n next behind : ℕ) (files : List FilePlace) (f : FilePlace)
    → Ok (f, behind) ≡ entry_at g h table specs next
    → fallible_steps (next_entry g h table specs) (suc n) (files, next) ≡ fallible_steps (next_entry g h table specs) n (files ++ f ∷ [], behind)
entry-step g h table specs n next behind files f e = rw (← e) refl

pub entries-more : (g : LineSource) (h : LineHeader) (table : List ℕ) (specs : List Spec) (place left next behind : ℕ) (files more : List FilePlace) (f : FilePlace)
    → EntriesFrom g h table specs place left files next → 0 < left → Ok (f, behind) ≡ entry_at g h table specs next → more ≡ files ++ f ∷ []
    → EntriesFrom g h table specs place (left - 1) more behind
entries-more g h table specs place zero next behind files more f from lt e m = absurd (omega (arith, lt))
entries-more g h table specs place (suc n) next behind files more f from lt e m =
    let same : n ≡ suc n - 1 = omega arith in
    rw m (subst (λ (k : ℕ). EntriesFrom g h table specs place k (files ++ f ∷ []) behind) same
    (record { same = from.same ∙ entry-step g h table specs n next behind files f e }))

pub entries-over : (g : LineSource) (h : LineHeader) (table : List ℕ) (specs : List Spec) (place left next : ℕ) (files : List FilePlace)
    → EntriesFrom g h table specs place left files next → left ≤ 0 → counted_entries g h table specs place (uleb_at table place) ≡ Ok (files, next)
entries-over g h table specs place zero next files from le = from.same
entries-over g h table specs place (suc n) next files from le = absurd (omega (arith, le))

pub entries-refused : (g : LineSource) (h : LineHeader) (table : List ℕ) (specs : List Spec) (place left next : ℕ) (files : List FilePlace) (r : Refusal)
    → EntriesFrom g h table specs place left files next → 0 < left → Err r ≡ entry_at g h table specs next
    → counted_entries g h table specs place (uleb_at table place) ≡ Err r
entries-refused g h table specs place zero next files r from lt e = absurd (omega (arith, lt))
entries-refused g h table specs place (suc n) next files r from lt e = from.same ∙ rw (← e) refl

pub entries-uncounted : (g : LineSource) (h : LineHeader) (table : List ℕ) (specs : List Spec) (place : ℕ) → None ≡ uleb_at table place
    → counted_entries g h table specs place (uleb_at table place) ≡ Err (bad_table g.number h)
entries-uncounted g h table specs place e = rw (← e) refl

pub ruleset entry_laws = (entries-start, entries-more, entries-over, entries-refused, entries-uncounted)

-- behind the format
pub list-unformed : (g : LineSource) (h : LineHeader) (table : List ℕ) (place : ℕ) (r : Refusal) → Since (bad_table g.number h) (format_at table place ≡ None) r
    → entries_at g h table place ≡ Err r
unfolding entries_at
list-unformed g h table place r s = rw (s.why, s.same) refl

pub list-behind : (g : LineSource) (h : LineHeader) (table : List ℕ) (place next : ℕ) (specs : List Spec) (x : Result (List FilePlace × ℕ) Refusal)
    → format_at table place ≡ Some (specs, next) → counted_entries g h table specs next (uleb_at table next) ≡ x → entries_at g h table place ≡ x
unfolding entries_at
list-behind g h table place next specs x f e = rw f e

pub ruleset list_laws = (list-unformed, list-behind)
