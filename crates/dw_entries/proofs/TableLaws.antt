-- The table of abbreviations at an offset of a view is that of its section, or of no bytes.
use Rattle.std.proofs.Common.{◌≡◌, ℕ, List, [], Option, Some, None, sym, subst}
use Rattle.dw_base.specs.AbbreviationFails.{AbbreviationFails}
use Rattle.dw_base.specs.AbbreviationTables.{Abbreviation, IsTable}
use Rattle.dw_base.specs.DebugSections.{name_of}
use Rattle.dw_base.specs.FileViews.{View, section_bytes, section_named}
use Rattle.dw_base.specs.Refusals.{Blames}
use Rattle.dw_base.specs.ViewData.{debug_data, located, located_at}
use Rattle.dw_base.specs.declared.debug_sections.DebugSection.TheVariants.{Abbrev}
use Rattle.dw_base.specs.declared.fault.Fault.{Fault}
use Rattle.dw_base.specs.declared.fault.Refusal.{Refusal}
use Rattle.dw_base.proofs.AbbreviationRowLaws.{table-excludes}

-- the table of abbreviations, where its section was found
pub table-some : (v : View) (i at : ℕ) (bytes : List ℕ) (t : List Abbreviation) → section_named v (name_of Abbrev) ≡ Some i → bytes ≡ section_bytes v i → IsTable bytes at t
    → IsTable (debug_data v).base.abbrevs.bytes at t
unfolding debug_data located
table-some v i at bytes t found is h =
    subst (λ (o : Option ℕ). IsTable (located_at v o).bytes at t) (sym found) (subst (λ (bs : List ℕ). IsTable bs at t) is h)

pub table-none : (v : View) (at : ℕ) (t : List Abbreviation) → section_named v (name_of Abbrev) ≡ None → IsTable [] at t
    → IsTable (debug_data v).base.abbrevs.bytes at t
unfolding debug_data located
table-none v at t found h = subst (λ (o : Option ℕ). IsTable (located_at v o).bytes at t) (sym found) h

pub refused-some : (v : View) (i at : ℕ) (bytes : List ℕ) (f : Fault) → section_named v (name_of Abbrev) ≡ Some i → bytes ≡ section_bytes v i
    → Blames (AbbreviationFails bytes i at) f → Blames (AbbreviationFails (debug_data v).base.abbrevs.bytes (debug_data v).base.abbrevs.number at) f
unfolding debug_data located
refused-some v i at bytes f found is h =
    subst (λ (o : Option ℕ). Blames (AbbreviationFails (located_at v o).bytes (located_at v o).number at) f) (sym found)
    (subst (λ (bs : List ℕ). Blames (AbbreviationFails bs i at) f) is h)

pub refused-none : (v : View) (at : ℕ) (f : Fault) → section_named v (name_of Abbrev) ≡ None
    → Blames (AbbreviationFails [] 0 at) f → Blames (AbbreviationFails (debug_data v).base.abbrevs.bytes (debug_data v).base.abbrevs.number at) f
unfolding debug_data located
refused-none v at f found h =
    subst (λ (o : Option ℕ). Blames (AbbreviationFails (located_at v o).bytes (located_at v o).number at) f) (sym found) h

pub ruleset section_rules = (table-some, table-none, refused-some, refused-none)

-- where a table is read no row holds
pub table-one : (v : View) (at : ℕ) (t : List Abbreviation) → IsTable (debug_data v).base.abbrevs.bytes at t
    → (r : Refusal) → AbbreviationFails (debug_data v).base.abbrevs.bytes (debug_data v).base.abbrevs.number at r → ⊥
table-one v at t h r f = table-excludes (debug_data v).base.abbrevs.bytes (debug_data v).base.abbrevs.number at t r h f

pub ruleset table_rules = (table-one)
