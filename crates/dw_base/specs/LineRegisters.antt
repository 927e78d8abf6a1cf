-- The registers of the line machine, and the rows that a program gives (DWARF 5, 6.2.2 and 6.2.5). A row is the registers where
-- they are appended. Addresses and lines are numbers of 64 bits.
use Rattle.std.specs.Prelude.{ℕ, ℤ, ◌+◌, ◌*◌, ◌/◌, ◌%◌, ◌^◌, Bool, true, false, not, if◌then◌else◌, List, [], ◌∷◌, Some, None}
use Rattle.std.specs.Int.{w64, cast_unsigned}
use Rattle.dw_base.specs.declared.view_fields.Field.{Field}
use Rattle.dw_base.specs.declared.view_fields.Field.TheVariants.{Num, Into, Sym}
use Rattle.dw_base.specs.declared.line_rows.LineParams.{LineParams}
use Rattle.dw_base.specs.declared.line_rows.Operation.{Operation}
use Rattle.dw_base.specs.declared.line_rows.Operation.TheVariants.{Skip, Copy, Advance, AddLine, SetFile, SetColumn, NegateStmt, BeginBlock, AddAddress, EndPrologue, BeginEpilogue, SetIsa, Special, EndSequence, SetAddress, SetDiscriminator}
use Rattle.dw_base.specs.declared.line_rows.Row.{Row}

-- where each sequence starts (DWARF 5, table 6.4)
unfoldable pub start_registers : LineParams → Row
start_registers p = record {
  symbol = None;
  address = 0;
  op_index = 0;
  file = 1;
  line = 1;
  column = 0;
  stmt = p.default_stmt;
  block = false;
  prologue_end = false;
  epilogue_begin = false;
  end = false;
  isa = 0;
  discriminator = 0;
}

-- so many operations further: each instruction has at most max_ops of them (DWARF 5, 6.2.5.1)
unfoldable pub advanced : LineParams → ℕ → Row → Row
advanced p v r = record r {
  address = (r.address + p.min_length * ((r.op_index + v) / p.max_ops)) % 2 ^ 64;
  op_index = (r.op_index + v) % p.max_ops;
}

-- a signed number is added to the line
unfoldable pub on_line : ℤ → Row → Row
on_line d r = record r { line = (r.line + cast_unsigned w64 d) % 2 ^ 64 }

-- at an address: a number, or, by a relocation, so far above the value of a symbol
unfoldable pub at_address : Field → Row → Row
at_address (Num n) r = record r { symbol = None; address = n; op_index = 0 }
at_address (Into s n) r = record r { symbol = None; address = n; op_index = 0 }
at_address (Sym s k a) r = record r { symbol = Some (s, k); address = cast_unsigned w64 a; op_index = 0 }

-- the registers behind an operation, where a row of it would show them
unfoldable pub moved : LineParams → Operation → Row → Row
moved p Skip r = r
moved p Copy r = r
moved p (Advance v) r = advanced p v r
moved p (AddLine d) r = on_line d r
moved p (SetFile n) r = record r { file = n }
moved p (SetColumn n) r = record r { column = n }
moved p NegateStmt r = record r { stmt = not r.stmt }
moved p BeginBlock r = record r { block = true }
moved p (AddAddress n) r = record r { address = (r.address + n) % 2 ^ 64; op_index = 0 }
moved p EndPrologue r = record r { prologue_end = true }
moved p BeginEpilogue r = record r { epilogue_begin = true }
moved p (SetIsa n) r = record r { isa = n }
moved p (Special v d) r = on_line d (advanced p v r)
moved p EndSequence r = record r { end = true }
moved p (SetAddress f) r = at_address f r
moved p (SetDiscriminator n) r = record r { discriminator = n }

-- an operation that gives a row
unfoldable pub gives_row : Operation → Bool
gives_row Skip = false
gives_row Copy = true
gives_row (Advance v) = false
gives_row (AddLine d) = false
gives_row (SetFile n) = false
gives_row (SetColumn n) = false
gives_row NegateStmt = false
gives_row BeginBlock = false
gives_row (AddAddress n) = false
gives_row EndPrologue = false
gives_row BeginEpilogue = false
gives_row (SetIsa n) = false
gives_row (Special v d) = true
gives_row EndSequence = true
gives_row (SetAddress f) = false
gives_row (SetDiscriminator n) = false

-- the registers behind a row: behind the last of a sequence as at its start, else without what holds of one row alone
unfoldable pub behind_row : LineParams → Row → Row
behind_row p r =
    if r.end then start_registers p
    else record r { block = false; prologue_end = false; epilogue_begin = false; discriminator = 0 }

-- the rows that operations give, from these registers on
abbrev pub rows_of : LineParams → Row → List Operation → List Row
rows_of p r [] = []
rows_of p r (o ∷ os) =
    if gives_row o then moved p o r ∷ rows_of p (behind_row p (moved p o r)) os else rows_of p (moved p o r) os
