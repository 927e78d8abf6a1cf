-- Whether two line tables, macro units, parts of name tables, or what is loaded of two files, are the same is known.
use Rattle.std.proofs.Common.{Bool, true, false, ◌≡◌, ℕ, zero, suc, List, [], Option, None, refl}
use Rattle.dw_base.specs.Cells.{Cell}
use Rattle.dw_base.specs.LineMeanings.{ColumnValue, text_column, number_column, bytes_column, LineColumn, LineEntry, ShownFile, named, unnamed, ShownRow, LineMeaning}
use Rattle.dw_base.specs.MacroMeanings.{EventMeaning, defined, undefined, begun, ended, brought, MacroMeaning}
use Rattle.dw_base.specs.SlotTexts.{NamePart, raw_part, text_part}
use Rattle.dw_base.specs.declared.line_rows.Row.{Row}
use Rattle.dw_base.specs.declared.records.Segment.{Segment}
use Rattle.dw_base.specs.declared.shared.Width.{Width}
use Rattle.dw_meaning.specs.Loaded.{Loaded}
use Rattle.dbg_check.proofs.KnownLaws.{IsTold, told-by, told_ℕ, told_bool, told×, told_option, told_list}
use Rattle.dbg_check.proofs.KnownValueLaws.{told_cells, told_width}

told_text : IsTold (List ℕ)
told_text = told_list told_ℕ

-- ### Line tables

abbrev column_parts : ColumnValue → ℕ × (List ℕ × ℕ)
column_parts (text_column t) = (0, (t, 0))
column_parts (number_column n) = (1, ([], n))
column_parts (bytes_column t) = (2, (t, 0))

abbrev column_of : ℕ → List ℕ → ℕ → ColumnValue
column_of zero t n = text_column t
column_of (suc zero) t n = number_column n
column_of (suc (suc k)) t n = bytes_column t

column-back : (v : ColumnValue) → column_of (column_parts v).0 (column_parts v).1.0 (column_parts v).1.1 ≡ v
column-back (text_column t) = refl
column-back (number_column n) = refl
column-back (bytes_column t) = refl

told_column_value : IsTold ColumnValue
told_column_value = told-by column_parts (λ (p : ℕ × (List ℕ × ℕ)). column_of p.0 p.1.0 p.1.1) column-back (told× told_ℕ (told× told_text told_ℕ))

told_column : IsTold LineColumn
told_column = told-by
    (λ (c : LineColumn). (c.name, c.value))
    (λ (p : ℕ × ColumnValue). record { name = p.0; value = p.1 })
    (λ (c : LineColumn). refl)
    (told× told_ℕ told_column_value)

told_line_entry : IsTold LineEntry
told_line_entry = told-by
    (λ (e : LineEntry). (e.path, e.columns))
    (λ (p : List ℕ × List LineColumn). record { path = p.0; columns = p.1 })
    (λ (e : LineEntry). refl)
    (told× told_text (told_list told_column))

abbrev file_parts : ShownFile → Bool × (List ℕ × (List ℕ × ℕ))
file_parts (named dir path) = (true, (dir, (path, 0)))
file_parts (unnamed i) = (false, ([], ([], i)))

abbrev file_of : Bool → List ℕ → List ℕ → ℕ → ShownFile
file_of true dir path i = named dir path
file_of false dir path i = unnamed i

file-back : (f : ShownFile) → file_of (file_parts f).0 (file_parts f).1.0 (file_parts f).1.1.0 (file_parts f).1.1.1 ≡ f
file-back (named dir path) = refl
file-back (unnamed i) = refl

told_file : IsTold ShownFile
told_file = told-by file_parts (λ (p : Bool × (List ℕ × (List ℕ × ℕ))). file_of p.0 p.1.0 p.1.1.0 p.1.1.1) file-back
    (told× told_bool (told× told_text (told× told_text told_ℕ)))

told_row : IsTold Row
told_row = told-by
    (λ (r : Row). ((r.symbol, (r.address, (r.op_index, (r.file, (r.line, r.column))))), (r.stmt, (r.block, (r.prologue_end, (r.epilogue_begin, (r.end, (r.isa, r.discriminator))))))))
    (λ (p : (Option (ℕ × ℕ) × (ℕ × (ℕ × (ℕ × (ℕ × ℕ))))) × (Bool × (Bool × (Bool × (Bool × (Bool × (ℕ × ℕ))))))). record {
      symbol = p.0.0;
      address = p.0.1.0;
      op_index = p.0.1.1.0;
      file = p.0.1.1.1.0;
      line = p.0.1.1.1.1.0;
      column = p.0.1.1.1.1.1;
      stmt = p.1.0;
      block = p.1.1.0;
      prologue_end = p.1.1.1.0;
      epilogue_begin = p.1.1.1.1.0;
      end = p.1.1.1.1.1.0;
      isa = p.1.1.1.1.1.1.0;
      discriminator = p.1.1.1.1.1.1.1;
    })
    (λ (r : Row). refl)
    (told× (told× (told_option (0, 0) (told× told_ℕ told_ℕ)) (told× told_ℕ (told× told_ℕ (told× told_ℕ (told× told_ℕ told_ℕ)))))
    (told× told_bool (told× told_bool (told× told_bool (told× told_bool (told× told_bool (told× told_ℕ told_ℕ)))))))

told_shown_row : IsTold ShownRow
told_shown_row = told-by
    (λ (r : ShownRow). (r.registers, r.file))
    (λ (p : Row × ShownFile). record { registers = p.0; file = p.1 })
    (λ (r : ShownRow). refl)
    (told× told_row told_file)

pub told_line : IsTold LineMeaning
told_line = told-by
    (λ (t : LineMeaning). ((t.version, (t.width, (t.sizes, t.numbers))), (t.dirs, (t.files, (t.gap, (t.program, t.rows))))))
    (λ (p : (ℕ × (Width × (List ℕ × List ℕ))) × (List LineEntry × (List LineEntry × (List Cell × (List Cell × List ShownRow))))). record {
      version = p.0.0;
      width = p.0.1.0;
      sizes = p.0.1.1.0;
      numbers = p.0.1.1.1;
      dirs = p.1.0;
      files = p.1.1.0;
      gap = p.1.1.1.0;
      program = p.1.1.1.1.0;
      rows = p.1.1.1.1.1;
    })
    (λ (t : LineMeaning). refl)
    (told× (told× told_ℕ (told× told_width (told× told_text told_text)))
    (told× (told_list told_line_entry) (told× (told_list told_line_entry) (told× told_cells (told× told_cells (told_list told_shown_row))))))

-- ### Macro units

-- an event by its kind's number, two numbers, a text, and the number of a unit
abbrev event_parts : EventMeaning → ℕ × (ℕ × (ℕ × (List ℕ × Option ℕ)))
event_parts (defined line t) = (0, (line, (0, (t, None))))
event_parts (undefined line t) = (1, (line, (0, (t, None))))
event_parts (begun line file) = (2, (line, (file, ([], None))))
event_parts ended = (3, (0, (0, ([], None))))
event_parts (brought unit) = (4, (0, (0, ([], unit))))

abbrev event_of : ℕ → ℕ → ℕ → List ℕ → Option ℕ → EventMeaning
event_of zero line file t unit = defined line t
event_of (suc zero) line file t unit = undefined line t
event_of (suc (suc zero)) line file t unit = begun line file
event_of (suc (suc (suc zero))) line file t unit = ended
event_of (suc (suc (suc (suc n)))) line file t unit = brought unit

event-back : (e : EventMeaning) → event_of (event_parts e).0 (event_parts e).1.0 (event_parts e).1.1.0 (event_parts e).1.1.1.0 (event_parts e).1.1.1.1 ≡ e
event-back (defined line t) = refl
event-back (undefined line t) = refl
event-back (begun line file) = refl
event-back ended = refl
event-back (brought unit) = refl

told_event : IsTold EventMeaning
told_event = told-by event_parts (λ (p : ℕ × (ℕ × (ℕ × (List ℕ × Option ℕ)))). event_of p.0 p.1.0 p.1.1.0 p.1.1.1.0 p.1.1.1.1) event-back
    (told× told_ℕ (told× told_ℕ (told× told_ℕ (told× told_text (told_option 0 told_ℕ)))))

pub told_macro : IsTold MacroMeaning
told_macro = told-by
    (λ (u : MacroMeaning). (u.version, (u.line, u.events)))
    (λ (p : ℕ × (Option ℕ × List EventMeaning)). record { version = p.0; line = p.1.0; events = p.1.1 })
    (λ (u : MacroMeaning). refl)
    (told× told_ℕ (told× (told_option 0 told_ℕ) (told_list told_event)))

-- ### Slots and name tables

pub told_texts : IsTold (List (List ℕ))
told_texts = told_list told_text

abbrev name_parts : NamePart → Bool × (List Cell × List ℕ)
name_parts (raw_part p) = (true, (p, []))
name_parts (text_part t) = (false, ([], t))

abbrev name_of : Bool → List Cell → List ℕ → NamePart
name_of true p t = raw_part p
name_of false p t = text_part t

name-back : (x : NamePart) → name_of (name_parts x).0 (name_parts x).1.0 (name_parts x).1.1 ≡ x
name-back (raw_part p) = refl
name-back (text_part t) = refl

told_name : IsTold NamePart
told_name = told-by name_parts (λ (p : Bool × (List Cell × List ℕ)). name_of p.0 p.1.0 p.1.1) name-back (told× told_bool (told× told_cells told_text))

pub told_names : IsTold (List NamePart)
told_names = told_list told_name

-- ### What is loaded

told_segment : IsTold Segment
told_segment = told-by
    (λ (s : Segment). ((s.kind, (s.flags, (s.offset, s.vaddr))), (s.paddr, (s.filesz, (s.memsz, s.align)))))
    (λ (p : (ℕ × (ℕ × (ℕ × ℕ))) × (ℕ × (ℕ × (ℕ × ℕ)))). record {
      kind = p.0.0;
      flags = p.0.1.0;
      offset = p.0.1.1.0;
      vaddr = p.0.1.1.1;
      paddr = p.1.0;
      filesz = p.1.1.0;
      memsz = p.1.1.1.0;
      align = p.1.1.1.1;
    })
    (λ (s : Segment). refl)
    (told× (told× told_ℕ (told× told_ℕ (told× told_ℕ told_ℕ))) (told× told_ℕ (told× told_ℕ (told× told_ℕ told_ℕ))))

pub told_loaded : IsTold Loaded
told_loaded = told-by
    (λ (x : Loaded). (x.segments, x.images))
    (λ (p : List Segment × List (List (Option ℕ))). record { segments = p.0; images = p.1 })
    (λ (x : Loaded). refl)
    (told× (told_list told_segment) (told_list (told_list (told_option 0 told_ℕ))))
