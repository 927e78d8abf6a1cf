-- A table that nothing refuses can be written.
use Rattle.std.proofs.Common.{Bool, true, false, ◌≡◌, ℕ, ◌<◌, ◌^◌, nat_lt, List, [], ◌∷◌, length, take, Option, Some, None, refl, sym, ap, subst, inl, inr, arith}
use Rattle.std.specs.Prelude.{option_map, if◌then◌else◌}
use Rattle.std.proofs.lemmas.Bool.{cases_lt}
use Rattle.std.proofs.lemmas.Bool.Decides.{nat_tests}
use Rattle.dw_base.specs.Forms.{width_size}
use Rattle.dw_base.specs.LinePrograms.{next_opcode, opcode_at, with_file}
use Rattle.dw_base.specs.LineSources.{LineSource}
use Rattle.dw_base.specs.LineTables.{LineTable, IsLineTable, table_bytes}
use Rattle.dw_base.specs.LineWriteFails.{ProgramFails, defined, changes_file, length_limit, DefinedStay}
use Rattle.dw_base.specs.Paths.{PathMap}
use Rattle.dw_base.specs.Refusals.{at}
use Rattle.dw_base.specs.TextLineChanges.{header_by_texts, rest_by_texts}
use Rattle.dw_base.specs.TextWriteFails.{CanWriteTexts, TextWriteFails, text_header, text_offset, text_program, text_table, wide_text}
use Rattle.dw_base.specs.Walks.{Step, goes, ends, Walks, no_step, one_more}
use Rattle.dw_base.specs.declared.fault.Kind.TheVariants.{DefinedPath}
use Rattle.dw_base.specs.declared.fault.Refusal.{Refusal}
use Rattle.dw_base.specs.declared.line_tables.FilePlace.{FilePlace}
use Rattle.dw_base.specs.declared.line_tables.LineHeader.{LineHeader}
use Rattle.dw_base.specs.declared.line_tables.Opcode.{Opcode}
use Rattle.dw_base.specs.declared.line_tables.LineText.{LineText}
use Rattle.dw_lines.proofs.DefinedLaws.{over-files}

-- one more file that stays
stay-more : (m : PathMap) (table : List ℕ) (files : List FilePlace) (file : Option FilePlace) → DefinedStay m table files → changes_file m table file ≡ false
    → DefinedStay m table (with_file files file)
stay-more m table files None s c = s
stay-more m table [] (Some f) s c = (c, tt)
stay-more m table (x ∷ xs) (Some f) s c = (s.0, stay-more m table xs (Some f) s.1 c)

below-test : (m n : ℕ) → nat_lt m n ≡ true → m < n
below-test m n e = grind (arith, nat_tests)

abbrev stepped : List FilePlace → Option Opcode → Option (Step (List FilePlace × ℕ) (List FilePlace))
stepped files x = option_map (λ o. goes (with_file files o.file, o.next)) x

-- a step on which no file changes
step-stays : (m : PathMap) (section : ℕ) (h : LineHeader) (table : List ℕ) (s t : List FilePlace × ℕ) → ((o : Opcode) → s.1 < length table → opcode_at section h table s.1 ≡ Some o → changes_file m table o.file ≡ false)
    → DefinedStay m table s.0 → next_opcode section h table s ≡ Some (goes t) → DefinedStay m table t.0
unfolding next_opcode
step-stays m section h table s t plain stay e = by_test (nat_lt s.1 (length table)) refl e
  where
    gone : List FilePlace × ℕ → Option (Step (List FilePlace × ℕ) (List FilePlace)) → List FilePlace × ℕ
    gone d None = d
    gone d (Some (goes u)) = u
    gone d (Some (ends x)) = d

    by_opcode : (x : Option Opcode) → s.1 < length table → opcode_at section h table s.1 ≡ x → stepped s.0 x ≡ Some (goes t) → DefinedStay m table t.0
    by_opcode None lt is e = absurd cc
    by_opcode (Some o) lt is e =
        let same : (with_file s.0 o.file, o.next) ≡ t = ap (gone (with_file s.0 o.file, o.next)) e in
        subst (λ (u : List FilePlace × ℕ). DefinedStay m table u.0) same (stay-more m table s.0 o.file stay (plain o lt is))

    by_test : (b : Bool) → nat_lt s.1 (length table) ≡ b → (if b then stepped s.0 (opcode_at section h table s.1) else Some (ends s.0)) ≡ Some (goes t) → DefinedStay m table t.0
    by_test true test e = by_opcode (opcode_at section h table s.1) (below-test s.1 (length table) test) refl e
    by_test false test e = absurd cc

-- no opcode of a walk on which nothing fails changes a file
not-changed : (m : PathMap) (section : ℕ) (h : LineHeader) (table : List ℕ) (files : List FilePlace) (place : ℕ) → ((r : Refusal) → ProgramFails m section h table r → ⊥)
    → Walks (next_opcode section h table) ([], h.program) (files, place) → (o : Opcode) → place < length table → opcode_at section h table place ≡ Some o → changes_file m table o.file ≡ false
not-changed m section h table files place none w o lt is = by_change (changes_file m table o.file) refl
  where
    by_change : (b : Bool) → changes_file m table o.file ≡ b → b ≡ false
    by_change true c = absurd (none (at DefinedPath section place) (defined files place o w lt is c))
    by_change false c = refl

walk-stays : (m : PathMap) (section : ℕ) (h : LineHeader) (table : List ℕ) (s : List FilePlace × ℕ) → ((r : Refusal) → ProgramFails m section h table r → ⊥)
    → Walks (next_opcode section h table) ([], h.program) s → DefinedStay m table s.0
walk-stays m section h table s none no_step = tt
walk-stays m section h table s none (one_more a b w e) =
    step-stays m section h table a b (not-changed m section h table a.0 a.1 none w) (walk-stays m section h table a none w) e

-- where the program of a table doesn't fail, each file that it defines stays
table-stays : (g : LineSource) (m : PathMap) (start : ℕ) (t : LineTable) (is : IsLineTable g start t) → ((r : Refusal) → ProgramFails m g.number is.header (table_bytes g is.header) r → ⊥)
    → DefinedStay m (take t.end g.bytes) t.defined
table-stays g m start t is none =
    let walked = walk-stays m g.number is.header (table_bytes g is.header) is.program.last none is.program.walks in
    let last : is.program.last.0 ≡ is.defined = over-files g.number is.header (table_bytes g is.header) is.program.last is.defined is.program.over in
    subst (λ (x : LineTable). DefinedStay m (take x.end g.bytes) x.defined) (sym is.is) (subst (DefinedStay m (table_bytes g is.header)) last walked)

pub can-write : (g : LineSource) (m : PathMap) (places : LineText → Option ℕ) (t : LineTable) → IsLineTable g t.start t → ((r : Refusal) → TextWriteFails g m places t r → ⊥)
    → CanWriteTexts g m places t
can-write g m places t is none = record {
  table = elim (cases_lt (length (rest_by_texts g m places t)) (length_limit t.width)) [ inl lt ↦ lt | inr far ↦ absurd (none _ (text_table far)) ];
  header = elim (cases_lt (length (header_by_texts g m places t)) (256 ^ width_size t.width)) [ inl lt ↦ lt | inr far ↦ absurd (none _ (text_header far)) ];
  offsets = λ x place here other p.
      elim (cases_lt place (256 ^ width_size t.width)) [ inl lt ↦ lt | inr far ↦ absurd (none _ (text_offset (wide_text x place here other p far))) ];
  defined = table-stays g m t.start t is (λ r f. none r (text_program is.header is.header_is f));
}
