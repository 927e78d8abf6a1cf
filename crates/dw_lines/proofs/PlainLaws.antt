-- Plain opcodes: each is a step that defines no file, and a run of them is a walk.
use Rattle.std.proofs.Common.{true, false, ◌≡◌, ◌≢◌, ℕ, ◌+◌, ◌≤◌, ◌<◌, ◌==◌, nat_le, List, [], Option, Some, None, refl, sym, arith, length}
use Rattle.std.specs.Prelude.{slice_index}
use Rattle.std.proofs.lemmas.Bool.Decides.{nat_tests}
use Rattle.dw_base.specs.LinePrograms.{if_ranged, next_opcode, opcode_at, standard_end, with_file}
use Rattle.dw_base.specs.Walks.{Step, Walks, no_step, one_more}
use Rattle.dw_base.specs.declared.line_tables.FilePlace.{FilePlace}
use Rattle.dw_base.specs.declared.line_tables.LineHeader.{LineHeader}
use Rattle.dw_base.specs.declared.line_tables.Opcode.{Opcode}
use Rattle.dw_lines.specs.PlainOpcodes.{IsPlain, PassesPlain}
use Rattle.dw_lines.proofs.ProgramLaws.{DefinedUpTo, defined-more, defined-start, opcode-more}

pub at-most : (m n : ℕ) → m ≤ n → nat_le m n ≡ true
at-most m n le = grind (arith, nat_tests)

pub more-than : (m n : ℕ) → n < m → nat_le m n ≡ false
more-than m n lt = grind (arith, nat_tests)

no-zero : (n : ℕ) → n ≢ 0 → (n == 0) ≡ false
no-zero n some = grind (arith, nat_tests)

-- a special opcode
pub special-plain : (h : LineHeader) (table : List ℕ) (place opcode : ℕ) → opcode ≡ slice_index table place → h.opcode_base ≤ opcode → h.line_range ≢ 0
    → IsPlain h table place (place + 1)
unfolding opcode_at if_ranged
special-plain h table place opcode is le some = record { each = λ (section : ℕ). rw (sym is, at-most h.opcode_base opcode le, no-zero h.line_range some) refl }

-- a standard one
pub standard-plain : (h : LineHeader) (table : List ℕ) (place next opcode : ℕ) → opcode ≡ slice_index table place → opcode < h.opcode_base → (opcode == 0) ≡ false
    → Some next ≡ standard_end h table opcode (place + 1) → IsPlain h table place next
unfolding opcode_at
standard-plain h table place next opcode is lt some e = record { each = λ (section : ℕ). rw (sym is, more-than h.opcode_base opcode lt, some, sym e) refl }

pub ruleset next_laws = (special-plain, standard-plain)

-- a run of them
pub run-start : (h : LineHeader) (table : List ℕ) (from : ℕ) → PassesPlain h table from from
run-start h table from = record { each = λ (section : ℕ) (files : List FilePlace). no_step }

pub run-more : (h : LineHeader) (table : List ℕ) (from place next : ℕ) → PassesPlain h table from place → place < length table → IsPlain h table place next
    → PassesPlain h table from next
run-more h table from place next p lt s = record {
  each = λ (section : ℕ) (files : List FilePlace). one_more (files, place) (files, next) (p.each section files)
      (opcode-more section h table files place (record { next = next; file = None }) lt (sym (s.each section)));
}

pub ruleset run_laws = (run-start, run-more)

-- behind opcodes so far
walks-on : {S X : Type 0} (step : S → Option (Step S X)) (s t u : S) → Walks step s t → Walks step t u → Walks step s u
walks-on step s t u a no_step = a
walks-on step s t u a (one_more b c w e) = one_more b c (walks-on step s t b a w) e

pub defined-plain : (section : ℕ) (h : LineHeader) (table : List ℕ) (files : List FilePlace) (from place : ℕ) → DefinedUpTo section h table files from
    → PassesPlain h table from place → DefinedUpTo section h table files place
defined-plain section h table files from place d p = record { walks = walks-on (next_opcode section h table) ([], h.program) (files, from) (files, place) d.walks (p.each section files) }

pub defined-first : (section : ℕ) (h : LineHeader) (table : List ℕ) (place : ℕ) → PassesPlain h table h.program place → DefinedUpTo section h table [] place
defined-first section h table place p = defined-plain section h table [] h.program place (defined-start section h table) p

pub defined-on : (section : ℕ) (h : LineHeader) (table : List ℕ) (files more : List FilePlace) (place next : ℕ) (o : Opcode) → DefinedUpTo section h table files place
    → place < length table → Some o ≡ opcode_at section h table place → more ≡ with_file files o.file → PassesPlain h table o.next next → DefinedUpTo section h table more next
defined-on section h table files more place next o d lt e m p =
    defined-plain section h table more o.next next (defined-more section h table files more place o.next o d lt e refl m) p

pub ruleset defined_laws = (defined-first, defined-on)
