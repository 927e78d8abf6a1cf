-- The directories and files of version 5 (DWARF 5, 6.2.4): each is one value for each column of the format.
use Rattle.std.specs.Prelude.{ℕ, ◌+◌, ◌==◌, nat_le, if◌then◌else◌, List, [], ◌∷◌, ◌++◌, length, Option, Some, None, unwrap_or, Result, Ok, Err}
use Rattle.dw_base.specs.LineSources.{LineSource}
use Rattle.dw_base.specs.Cells.{Located}
use Rattle.dw_base.specs.Forms.{width_size}
use Rattle.dw_base.specs.Lebs.{uleb_at}
use Rattle.dw_base.specs.Refusals.{at}
use Rattle.dw_base.specs.Values.{value_at}
use Rattle.dw_base.specs.declared.dwarf_numbers.TheConstants.{DW_FORM_string, DW_FORM_strp, DW_FORM_line_strp}
use Rattle.dw_base.specs.declared.fault.Kind.TheVariants.{Line}
use Rattle.dw_base.specs.declared.fault.Refusal.{Refusal}
use Rattle.dw_base.specs.declared.shared.Order.{Order}
use Rattle.dw_base.specs.declared.shared.Params.{Params}
use Rattle.dw_base.specs.declared.values.Spec.{Spec}
use Rattle.dw_base.specs.declared.values.Value.{Value}
use Rattle.dw_base.specs.LineFormats.{format_at}
use Rattle.dw_base.specs.LineTexts.{inline_text, named_text}
use Rattle.dw_base.specs.Walks.{fallible_steps, or_refused}
use Rattle.dw_base.specs.declared.line_tables.LineHeader.{LineHeader}
use Rattle.dw_base.specs.declared.line_tables.Column.{Column}
use Rattle.dw_base.specs.declared.line_tables.Entry.{Entry}
use Rattle.dw_base.specs.declared.line_numbers.TheConstants.{DW_LNCT_path, DW_LNCT_directory_index}
use Rattle.dw_base.specs.declared.line_tables.FilePlace.{FilePlace}
use Rattle.dw_base.specs.declared.line_tables.TextPlace.{TextPlace}

-- a table of a section can't be read: the refusal at the table
abbrev pub bad_table : ℕ → LineHeader → Refusal
bad_table section h = at Line section h.start

-- what its values depend on; none of the forms of columns takes an address
abbrev pub column_params : Order → LineHeader → Params
column_params order h = record { order = order; width = h.width; version = h.version; address = 8 }

-- a column whose text stands inline
abbrev pub inline_column : ℕ → LineHeader → ℕ → Option TextPlace → Result Column Refusal
inline_column section h place None = Err (bad_table section h)
inline_column section h place (Some t) = Ok (record { text = Some t; number = 0; next = place + t.len + 1 })

-- a column whose text an offset names
abbrev pub text_column : ℕ → Result TextPlace Refusal → Result Column Refusal
text_column next (Err r) = Err r
text_column next (Ok t) = Ok (record { text = Some t; number = 0; next = next })

unfoldable pub offset_column : LineSource → LineHeader → List ℕ → Located → ℕ → Result Column Refusal
offset_column g h table z place =
    if nat_le (place + width_size h.width) (length table)
    then text_column (place + width_size h.width) (named_text g z place (width_size h.width)) else Err (bad_table g.number h)

-- a column of another value
abbrev pub value_column : ℕ → LineHeader → ℕ → Option Value → Result Column Refusal
value_column section h place None = Err (bad_table section h)
value_column section h place (Some value) = Ok (record { text = None; number = value.number; next = place + value.size })

-- the value of a column at a place: its text or its number, and the place behind it
unfoldable pub column_at : LineSource → LineHeader → List ℕ → Spec → ℕ → Result Column Refusal
column_at g h table spec place =
    if spec.form == DW_FORM_string then inline_column g.number h place (inline_text g.number table place)
    else (if spec.form == DW_FORM_strp then offset_column g h table g.str place
    else (if spec.form == DW_FORM_line_strp then offset_column g h table g.line_str place
    else value_column g.number h place (value_at (column_params g.order h) spec table place)))

-- the first of two that is there
abbrev pub first_of : {X : Type 0} → Option X → Option X → Option X
first_of None y = y
first_of (Some x) y = Some x

-- an entry with one more column: the first path is its text, and the first number of a directory its directory
abbrev pub with_column : Spec → Entry → Column → Entry
with_column spec e c = record {
  text = if spec.name == DW_LNCT_path then first_of e.text c.text else e.text;
  dir = if spec.name == DW_LNCT_directory_index then first_of e.dir (Some c.number) else e.dir;
  next = c.next;
}

abbrev pub result_with : {X Y E : Type 0} → (X → Y) → Result X E → Result Y E
result_with f (Ok x) = Ok (f x)
result_with f (Err r) = Err r

abbrev pub next_column : LineSource → LineHeader → List ℕ → Spec → Entry → Result Entry Refusal
next_column g h table spec e = result_with (with_column spec e) (column_at g h table spec e.next)

-- an entry with the values of more columns
abbrev pub columns : LineSource → LineHeader → List ℕ → List Spec → Entry → Result Entry Refusal
columns g h table [] e = Ok e
columns g h table (spec ∷ specs) e = or_refused (columns g h table specs) (next_column g h table spec e)

-- an entry without a path refuses the table
abbrev pub file_of : ℕ → LineHeader → Entry → Option TextPlace → Result (FilePlace × ℕ) Refusal
file_of section h e None = Err (bad_table section h)
file_of section h e (Some t) = Ok (record { text = t; dir = unwrap_or e.dir 0 }, e.next)

-- the entry at a place, and the place behind it
unfoldable pub entry_at : LineSource → LineHeader → List ℕ → List Spec → ℕ → Result (FilePlace × ℕ) Refusal
entry_at g h table specs place =
    or_refused (λ e. file_of g.number h e e.text) (columns g h table specs (record { text = None; dir = None; next = place }))

-- one entry more
abbrev pub next_entry : LineSource → LineHeader → List ℕ → List Spec → List FilePlace × ℕ → Result (List FilePlace × ℕ) Refusal
next_entry g h table specs s = result_with (λ f. (s.0 ++ f.0 ∷ [], f.1)) (entry_at g h table specs s.1)

-- the entries behind a format, by their count
abbrev pub counted_entries : LineSource → LineHeader → List ℕ → List Spec → ℕ → Option (ℕ × ℕ) → Result (List FilePlace × ℕ) Refusal
counted_entries g h table specs place None = Err (bad_table g.number h)
counted_entries g h table specs place (Some count) =
    fallible_steps (next_entry g h table specs) count.0 ([], place + count.1)

abbrev pub entries_behind : LineSource → LineHeader → List ℕ → Option (List Spec × ℕ) → Result (List FilePlace × ℕ) Refusal
entries_behind g h table None = Err (bad_table g.number h)
entries_behind g h table (Some f) = counted_entries g h table f.0 f.1 (uleb_at table f.1)

-- the entries from a place on: their format, their count, and as many of them; and the place behind them
unfoldable pub entries_at : LineSource → LineHeader → List ℕ → ℕ → Result (List FilePlace × ℕ) Refusal
entries_at g h table place = entries_behind g h table (format_at table place)

-- where the entries of version 5 end whose format stands at a place
abbrev pub place_behind : ℕ → Result (List FilePlace × ℕ) Refusal → ℕ
place_behind place (Err r) = place
place_behind place (Ok x) = x.1

abbrev pub list_end : LineSource → LineHeader → List ℕ → ℕ → ℕ
list_end g h table place = place_behind place (entries_at g h table place)
