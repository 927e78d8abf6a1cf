-- The rows and rules by which each step through a table is proved.
use Rattle.std.proofs.Common.{◌≡◌, ◌≢◌, ℕ, ◌<◌, ◌==◌, Bool, true, List, [], None, Some, nat_eq, ◌∙◌, subst, sym}
use Rattle.std.specs.List.{list_any}
use Rattle.dw_base.specs.Lebs.{uleb_at, sleb_at}
use Rattle.dw_base.specs.Refusals.{at}
use Rattle.dw_base.specs.declared.dwarf_numbers.TheConstants.{DW_FORM_implicit_const}
use Rattle.dw_base.specs.declared.fault.Kind.TheVariants.{Abbreviation as AbbreviationKind}
use Rattle.dw_base.specs.declared.values.Spec.{Spec}
use Rattle.dw_abbrev.specs.Coded.{IsCoded}
use Rattle.dw_abbrev.specs.declared.stopped.Stopped.{Stopped}
use Rattle.dw_abbrev.specs.declared.stopped.Stopped.TheVariants.{Unspelled, NoMemory}
use Rattle.dw_abbrev.proofs.CodedLaws.{is_some-coded}
use Rattle.dw_base.specs.AbbreviationTables.{Abbreviation, abbreviation_of, Declares, HeadsAbbreviation, IsTable, SpellsAbbreviation, SpellsPair, SpellsSpec, SpellsSpecs}
use Rattle.dw_base.specs.AbbreviationTables.SpellsSpec.{by_form, with_number}
use Rattle.dw_base.specs.AbbreviationTables.SpellsSpecs.{no_specs, more_specs}
use Rattle.dw_base.specs.AbbreviationTables.Declares.{no_abbreviations, more_abbreviations}
use Rattle.dw_base.specs.AbbreviationFails.{AbbreviationFails, DeclarationFails, SpecFails}
use Rattle.dw_base.specs.AbbreviationFails.SpecFails.{name_passes, form_passes, no_name, no_form, number_passes}
use Rattle.dw_base.specs.AbbreviationFails.DeclarationFails.{code_passes, tag_passes, flag_passes, other_flag, spec, twice}
use Rattle.dw_base.specs.AbbreviationFails.AbbreviationFails.{declaration}
use Rattle.dw_abbrev.specs.Spelled.{SpecsEnd, SpecsFail, DeclaresOne, StopsFor, TableFails}

-- a pair of two zeros ends the attributes
pub pair_ends : (bytes : List ℕ) (place name form next : ℕ) → SpellsPair bytes place name form next → name ≡ 0 → form ≡ 0 → SpellsPair bytes place 0 0 next
pair_ends bytes place name form next p n f =
    let named : SpellsPair bytes place 0 form next = subst (λ (k : ℕ). SpellsPair bytes place k form next) n p in
    subst (λ (k : ℕ). SpellsPair bytes place 0 k next) f named

-- attributes from a place on, and a pair of two zeros
pub specs_end : (bytes : List ℕ) (start last name form next : ℕ) (specs : List Spec) → SpellsSpecs bytes start specs last → SpellsPair bytes last name form next → name ≡ 0 → form ≡ 0
    → SpecsEnd bytes start specs next
specs_end bytes start last name form next specs s p n f = record { last = last; spelled = s; ends = pair_ends bytes last name form next p n f }

pub specs_fail : (bytes : List ℕ) (start last : ℕ) (specs : List Spec) → SpellsSpecs bytes start specs last → SpecFails bytes last → SpecsFail bytes start
specs_fail bytes start last specs s f = record { specs = specs; last = last; spelled = s; fails = f }

-- a pair of which one is zero
pub zero_name : (bytes : List ℕ) (place name form next : ℕ) → SpellsPair bytes place name form next → name ≡ 0 → form ≢ 0 → SpecFails bytes place
zero_name bytes place name form next p n f = no_name form next (subst (λ (k : ℕ). SpellsPair bytes place k form next) n p) f

pub zero_form : (bytes : List ℕ) (place name form next : ℕ) → SpellsPair bytes place name form next → name ≢ 0 → form ≡ 0 → SpecFails bytes place
zero_form bytes place name form next p n f = no_form name next (subst (λ (k : ℕ). SpellsPair bytes place name k next) f p) n

pub number_fails : (bytes : List ℕ) (place name form next : ℕ) → SpellsPair bytes place name form next → form ≡ DW_FORM_implicit_const → sleb_at bytes next ≡ None → SpecFails bytes place
number_fails bytes place name form next p f e = number_passes name next (subst (λ (k : ℕ). SpellsPair bytes place name k next) f p) e

-- behind the head of an abbreviation
pub specs_fail_here : (bytes : List ℕ) (place code tag flag first : ℕ) → HeadsAbbreviation bytes place code tag flag first → SpecsFail bytes first → DeclarationFails bytes [] place
specs_fail_here bytes place code tag flag first h f = spec code tag flag first f.last f.specs h f.spelled f.fails

pub specs_stop : (bytes : List ℕ) (place code tag flag first : ℕ) (s : Stopped) → HeadsAbbreviation bytes place code tag flag first → StopsFor (SpecsFail bytes first) s
    → StopsFor (DeclarationFails bytes [] place) s
specs_stop bytes place code tag flag first Unspelled h f = specs_fail_here bytes place code tag flag first h f
specs_stop bytes place code tag flag first NoMemory h f = tt

pub ends_here : (bytes : List ℕ) (place code tag flag first next : ℕ) (specs : List Spec) (children : Bool) → HeadsAbbreviation bytes place code tag flag first → flag < 2
    → children ≡ (flag == 1) → SpecsEnd bytes first specs next → SpellsAbbreviation bytes place (record { code = code; tag = tag; children = children; specs = specs }) next
ends_here bytes place code tag flag first next specs children h f c s = record {
  flag = flag;
  first = first;
  last = s.last;
  head = h;
  is_flag = f;
  children = c;
  specs = s.spelled;
  end = s.ends;
}

-- what refuses a place behind no abbreviations refuses it behind any
pub fails_behind : (bytes : List ℕ) (list : List Abbreviation) (place : ℕ) → DeclarationFails bytes [] place → DeclarationFails bytes list place
fails_behind bytes list place (code_passes e) = code_passes e
fails_behind bytes list place (tag_passes code size e n t) = tag_passes code size e n t
fails_behind bytes list place (flag_passes code code_size tag tag_size e n t l) = flag_passes code code_size tag tag_size e n t l
fails_behind bytes list place (other_flag code tag flag next h l) = other_flag code tag flag next h l
fails_behind bytes list place (spec code tag flag first next specs h s f) = spec code tag flag first next specs h s f
fails_behind bytes list place (twice code size e n t) = cc

pub stops_behind : (bytes : List ℕ) (list : List Abbreviation) (place : ℕ) (s : Stopped) → StopsFor (DeclarationFails bytes [] place) s → StopsFor (DeclarationFails bytes list place) s
stops_behind bytes list place Unspelled f = fails_behind bytes list place f
stops_behind bytes list place NoMemory f = tt

-- a code that stands already
pub twice_here : (bytes : List ℕ) (codes : List ℕ) (list : List Abbreviation) (place code size : ℕ) → uleb_at bytes place ≡ Some (code, size) → code ≢ 0
    → IsCoded codes list → list_any (nat_eq code) codes ≡ true → DeclarationFails bytes list place
twice_here bytes codes list place code size e n c t = twice code size e n (is_some-coded codes list code c ∙ t)

-- the table so far
pub table_fails : (bytes : List ℕ) (start place : ℕ) (list : List Abbreviation) → Declares bytes start list place → DeclarationFails bytes list place → TableFails bytes start
table_fails bytes start place list d f = record { list = list; last = place; declares = d; fails = f }

pub table_stops : (bytes : List ℕ) (start place : ℕ) (list : List Abbreviation) (s : Stopped) → Declares bytes start list place → StopsFor (DeclarationFails bytes list place) s
    → StopsFor (TableFails bytes start) s
table_stops bytes start place list Unspelled d f = table_fails bytes start place list d f
table_stops bytes start place list NoMemory d f = tt

pub declares_more : (bytes : List ℕ) (start place next : ℕ) (old new : List Abbreviation) → Declares bytes start old place → DeclaresOne bytes place old new next
    → Declares bytes start new next
declares_more bytes start place next old new d one =
    subst (λ (l : List Abbreviation). Declares bytes start l next) (sym one.appended) (more_abbreviations old one.one place next d one.spelled one.fresh)

pub table_ends : (bytes : List ℕ) (start place code size : ℕ) (list : List Abbreviation) → Declares bytes start list place → uleb_at bytes place ≡ Some (code, size) → code ≡ 0
    → IsTable bytes start list
table_ends bytes start place code size list d e n = record {
  last = place;
  size = size;
  declares = d;
  ends = subst (λ (k : ℕ). uleb_at bytes place ≡ Some (k, size)) n e;
}

-- the refusal of a table
pub table_refused : (bytes : List ℕ) (section start : ℕ) (stopped : Stopped) → stopped ≡ Unspelled → StopsFor (TableFails bytes start) stopped
    → AbbreviationFails bytes section start (at AbbreviationKind section start)
table_refused bytes section start stopped e f =
    let t : TableFails bytes start = subst (λ (s : Stopped). StopsFor (TableFails bytes start) s) e f in
    declaration t.list t.last t.declares t.fails

pub ruleset pair_rows = (name_passes, form_passes)

pub ruleset spec_rows = (zero_name, zero_form, number_fails, by_form, with_number)

pub ruleset specs_rows = (no_specs, more_specs, specs_end, specs_fail)

pub ruleset head_rows = (tag_passes, flag_passes)

pub ruleset abbrev_rows = (ends_here)

pub ruleset declare_rows = (twice_here, stops_behind)

pub ruleset table_rows = (code_passes, no_abbreviations, declares_more, table_fails, table_ends)

pub ruleset fault_rows = (table_refused)
