-- Laws of a line program, opcode by opcode.
use Rattle.std.proofs.Common.{true, false, ◌≡◌, ℕ, ◌<◌, ◌≤◌, nat_lt, List, [], ◌∷◌, ◌++◌, length, Some, None, refl, sym, ap, ◌∙◌, arith}
use Rattle.std.proofs.lemmas.Bool.Decides.{nat_tests}
use Rattle.dw_base.specs.declared.fault.Refusal.{Refusal}
use Rattle.dw_base.specs.LinePrograms.{opcode_at, with_file, next_opcode}
use Rattle.dw_base.specs.Walks.{goes, ends, Walks, no_step, one_more, ComesTo, Breaks, Since}
use Rattle.dw_base.specs.declared.line_tables.LineHeader.{LineHeader}
use Rattle.dw_base.specs.declared.line_tables.Opcode.{Opcode}
use Rattle.dw_base.specs.declared.line_tables.FilePlace.{FilePlace}

below : (m n : ℕ) → m < n → nat_lt m n ≡ true
below m n lt = grind (arith, nat_tests)

not_below : (m n : ℕ) → n ≤ m → nat_lt m n ≡ false
not_below m n le = grind (arith, nat_tests)

pub opcode-more : (section : ℕ) (h : LineHeader) (table : List ℕ) (files : List FilePlace) (place : ℕ) (o : Opcode) → place < length table
    → Some o ≡ opcode_at section h table place → next_opcode section h table (files, place) ≡ Some (goes (with_file files o.file, o.next))
unfolding next_opcode
opcode-more section h table files place o lt e = rw (below place (length table) lt, ← e) refl

pub opcode-none : (section : ℕ) (h : LineHeader) (table : List ℕ) (files : List FilePlace) (place : ℕ) → place < length table
    → None ≡ opcode_at section h table place → next_opcode section h table (files, place) ≡ None
unfolding next_opcode
opcode-none section h table files place lt e = rw (below place (length table) lt, ← e) refl

pub opcode-over : (section : ℕ) (h : LineHeader) (table : List ℕ) (files : List FilePlace) (place : ℕ) → length table ≤ place
    → next_opcode section h table (files, place) ≡ Some (ends files)
unfolding next_opcode
opcode-over section h table files place le = rw (not_below place (length table) le) refl

-- the files that were defined up to a place
pub record DefinedUpTo (section : ℕ) (h : LineHeader) (table : List ℕ) (files : List FilePlace) (place : ℕ) : Type 0 where
  pub walks : Walks (next_opcode section h table) ([], h.program) (files, place)

pub defined-start : (section : ℕ) (h : LineHeader) (table : List ℕ) → DefinedUpTo section h table [] h.program
defined-start section h table = record { walks = no_step }

pub defined-more : (section : ℕ) (h : LineHeader) (table : List ℕ) (files more : List FilePlace) (place next : ℕ) (o : Opcode) → DefinedUpTo section h table files place
    → place < length table → Some o ≡ opcode_at section h table place → next ≡ o.next → more ≡ with_file files o.file → DefinedUpTo section h table more next
defined-more section h table files more place next o d lt e n m =
    rw (n, m) (record { walks = one_more (files, place) (with_file files o.file, o.next) d.walks (opcode-more section h table files place o lt e) })

pub defined-file : (section : ℕ) (h : LineHeader) (table : List ℕ) (files more : List FilePlace) (place : ℕ) (o : Opcode) (f : FilePlace) → DefinedUpTo section h table files place
    → place < length table → Some o ≡ opcode_at section h table place → o.file ≡ Some f → more ≡ files ++ f ∷ [] → DefinedUpTo section h table more o.next
defined-file section h table files more place o f d lt e is m =
    defined-more section h table files more place o.next o d lt e refl (m ∙ sym (ap (with_file files) is))

pub defined-none : (section : ℕ) (h : LineHeader) (table : List ℕ) (files : List FilePlace) (place : ℕ) (o : Opcode) → DefinedUpTo section h table files place
    → place < length table → Some o ≡ opcode_at section h table place → o.file ≡ None → DefinedUpTo section h table files o.next
defined-none section h table files place o d lt e is =
    defined-more section h table files files place o.next o d lt e refl (sym (ap (with_file files) is))

pub defined-over : (section : ℕ) (h : LineHeader) (table : List ℕ) (files : List FilePlace) (place : ℕ) → DefinedUpTo section h table files place
    → length table ≤ place → ComesTo (next_opcode section h table) ([], h.program) files
defined-over section h table files place d le = record { last = (files, place); walks = d.walks; over = opcode-over section h table files place le }

pub defined-fail : (section : ℕ) (h : LineHeader) (table : List ℕ) (files : List FilePlace) (place : ℕ) (refusal : Refusal) → DefinedUpTo section h table files place
    → place < length table → None ≡ opcode_at section h table place → Since refusal (Breaks (next_opcode section h table) ([], h.program)) refusal
defined-fail section h table files place refusal d lt e =
    record { same = refl; why = record { last = (files, place); walks = d.walks; none = opcode-none section h table files place lt e } }

pub ruleset program_laws = (defined-start, defined-file, defined-none, defined-over, defined-fail)
