-- The sources of a file that is taken can be read.
use Rattle.std.proofs.Common.{◌≡◌, ℕ, List, refl, sym, ap, ◌∙◌, subst}
use Rattle.dw_base.specs.ViewFails.{ViewFails}
use Rattle.dw_base.specs.ElfFails.{ElfFails}
use Rattle.dw_base.specs.FileViews.{View, view_of}
use Rattle.dw_base.specs.LineTables.{LineTable}
use Rattle.dw_base.specs.Paths.{PathMap}
use Rattle.dw_base.specs.Refusals.{Blames}
use Rattle.dw_base.specs.ViewData.{debug_data}
use Rattle.dw_base.specs.declared.fault.Fault.{Fault}
use Rattle.dw_base.specs.declared.fault.Fault.TheVariants.{NoMemory, Refused}
use Rattle.dw_base.proofs.RelocationRowLaws.{header_offsets_exclude}
use Rattle.dw_base.proofs.ViewFailsLaws.{view_excludes}
use Rattle.dw_base.proofs.ElfLaws.{elf_excludes}
use Rattle.dw_lines.specs.ViewTables.{TablesFound}
use Rattle.dw_meaning.specs.EditRows.{IsAccepted}
use Rattle.dw_meaning.specs.FileMeanings.{file_data}
use Rattle.dw_sources.specs.Sources.{AreSources, IsWant}

-- of a file that is edited nothing but want of memory is in the way
pub elf_wants : (m : PathMap) (b : List ℕ) (f : Fault) → IsAccepted m b → Blames (ElfFails b) f → f ≡ NoMemory
elf_wants m b NoMemory a blames = refl
elf_wants m b (Refused r) a blames = absurd (elf_excludes b r a.reads.elf blames)

pub sections_want : (m : PathMap) (b c : List ℕ) (f : Fault) → IsAccepted m b → c ≡ b → Blames (ViewFails c) f → f ≡ NoMemory
sections_want m b c NoMemory a same blames = refl
sections_want m b c (Refused r) a same blames =
    absurd (view_excludes b r (record { sections = a.reads.names; relocations = a.reads.relocations.sections })
    (subst (λ (x : List ℕ). ViewFails x r) same blames))

pub sources_want : (m : PathMap) (b c : List ℕ) (v : View) (f : Fault) → IsAccepted m b → c ≡ b → v ≡ view_of c → IsWant (debug_data v) f → f ≡ NoMemory
sources_want m b c v f a same is want =
    let P : View → Type 0 = λ x. IsWant (debug_data x) f in
    let here : IsWant (file_data b) f = subst P (is ∙ ap view_of same) want in
    here.whole a.readings a.reads.data_reads
    (λ before behind z r split fails. header_offsets_exclude (file_data b).base z r (a.reads.relocations.on_data.headers before behind z split) fails)

pub sources_of_file : (m : PathMap) (b c : List ℕ) (v : View) (names : List (List ℕ)) → c ≡ b → v ≡ view_of c → AreSources (debug_data v) m names → AreSources (file_data b) m names
sources_of_file m b c v names same is are = let P : View → Type 0 = λ x. AreSources (debug_data x) m names in subst P (is ∙ ap view_of same) are

-- the line tables of a file are those of its view
pub tables_of_file : (b c : List ℕ) (v : View) (ts : List LineTable) → c ≡ b → v ≡ view_of c → TablesFound (view_of b) ts → TablesFound v ts
tables_of_file b c v ts same is found = let P : View → Type 0 = λ x. TablesFound x ts in subst P (sym (is ∙ ap view_of same)) found

pub ruleset name_rules = (elf_wants, sections_want, sources_want, sources_of_file, tables_of_file)
