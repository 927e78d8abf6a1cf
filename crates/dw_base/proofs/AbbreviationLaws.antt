-- Laws of abbreviation tables: what stands in one is what its bytes declare; so a table is read in one way, and a refusal
-- excludes it.
use Rattle.std.proofs.Common.{Bool, false, ◌≡◌, ◌≢◌, ℕ, ◌+◌, ◌<◌, nat_lt, List, [], ◌∷◌, ◌++◌, length, drop, slice_index, refl, sym, ap, ◌∙◌, if◌then◌else◌, append_assoc, append-nil}
use Rattle.std.specs.Prelude.{pos, ◌==◌, is_some}
use Rattle.std.proofs.lemmas.Bool.{ne_eqb, lt-ltb}
use Rattle.std.proofs.lemmas.List.{drop_more}
use Rattle.dw_base.specs.AbbreviationBytes.{TablePlace, code_next, tag_next, flag_next, name_next, form_next, ended, broken, TableState, at_place, bare, with_spec, after_code, after_form, after_pair, after_byte, after_all, abbreviations_at}
use Rattle.dw_base.specs.AbbreviationTables.{Abbreviation, abbreviation_of, HeadsAbbreviation, SpellsPair, SpellsSpec, by_form, with_number, SpellsSpecs, no_specs, more_specs, SpellsAbbreviation, Declares, no_abbreviations, more_abbreviations, IsTable}
use Rattle.dw_base.specs.declared.values.Spec.{Spec}
use Rattle.dw_base.specs.declared.dwarf_numbers.TheConstants.{DW_FORM_implicit_const}
use Rattle.dw_base.proofs.NumberBytes.{unsigned-read, signed-read}

-- bytes of a table from a place on
abbrev pub from : TablePlace → List Abbreviation → List ℕ → ℕ → TableState
from p list bytes at = after_all (at_place p list) (drop at bytes)

-- a pair that stands at a place
pub pair-read : (a : Abbreviation) (list : List Abbreviation) (bytes : List ℕ) (at name form next : ℕ) → SpellsPair bytes at name form next
    → from (name_next a) list bytes at ≡ after_all (after_pair a name form list) (drop next bytes)
pair-read a list bytes at name form next s =
    unsigned-read (name_next a) list bytes at name s.name_size refl s.name_spells
    ∙ unsigned-read (form_next a name) list bytes (at + s.name_size) form s.form_size refl s.form_spells
    ∙ ap (λ (n : ℕ). after_all (after_pair a name form list) (drop n bytes)) (sym s.behind)

-- a pair without zeros
pub pair-some : (a : Abbreviation) (list : List Abbreviation) (name form : ℕ) → name ≢ 0 → form ≢ 0
    → after_pair a name form list ≡ at_place (after_form a name form) list
pair-some a list name form n f = rw (ne_eqb name 0 n, ne_eqb form 0 f) refl

pub form-plain : (a : Abbreviation) (name form : ℕ) → form ≢ DW_FORM_implicit_const → after_form a name form ≡ name_next (with_spec a name form (pos 0))
form-plain a name form f = rw (ne_eqb form DW_FORM_implicit_const f) refl

-- a code that has no abbreviation yet
pub code-some : (code : ℕ) (list : List Abbreviation) → code ≢ 0 → is_some (abbreviation_of list code) ≡ false → after_code code list ≡ tag_next code
code-some code list some new = rw (ne_eqb code 0 some, new) refl

abbrev and_spec : Abbreviation → Spec → Abbreviation
and_spec a x = with_spec a x.name x.form x.implicit

-- an attribute that stands at a place
spec-read : (a : Abbreviation) (list : List Abbreviation) (bytes : List ℕ) (at : ℕ) (x : Spec) (next : ℕ) → SpellsSpec bytes at x next
    → from (name_next a) list bytes at ≡ from (name_next (and_spec a x)) list bytes next
spec-read a list bytes at x z (by_form name form next s n f i) =
    pair-read a list bytes at name form next s
    ∙ ap (λ (t : TableState). after_all t (drop next bytes)) (pair-some a list name form n f ∙ ap (λ (p : TablePlace). at_place p list) (form-plain a name form i))
spec-read a list bytes at x z (with_number name between size value s n v) =
    pair-read a list bytes at name DW_FORM_implicit_const between s
    ∙ ap (λ (t : TableState). after_all t (drop between bytes)) (pair-some a list name DW_FORM_implicit_const n (λ e. cc))
    ∙ signed-read a name list bytes between value size v

abbrev pub and_specs : Abbreviation → List Spec → Abbreviation
and_specs a xs = record a { specs = a.specs ++ xs }

-- attributes, one after another
pub specs-read : (a : Abbreviation) (list : List Abbreviation) (bytes : List ℕ) (start : ℕ) (xs : List Spec) (at : ℕ) → SpellsSpecs bytes start xs at
    → from (name_next a) list bytes start ≡ from (name_next (and_specs a xs)) list bytes at
specs-read a list bytes start xs at no_specs = rw append-nil refl
specs-read a list bytes start xs z (more_specs ys y before next s y_spells) =
    specs-read a list bytes start ys before s
    ∙ spec-read (and_specs a ys) list bytes before y next y_spells
    ∙ ap (λ (zs : List Spec). from (name_next (record a { specs = zs })) list bytes next) (append_assoc a.specs ys (y ∷ []))

-- the flag for children at a place
byte-read : (p : TablePlace) (list : List Abbreviation) (bytes : List ℕ) (at : ℕ) → at < length bytes
    → from p list bytes at ≡ after_all (after_byte p [] list (slice_index bytes at)) (drop (at + 1) bytes)
byte-read p list bytes at inside = ap (after_all (at_place p list)) (drop_more bytes at 0 inside)

-- the head of an abbreviation that has a new code
pub head-read : (list : List Abbreviation) (bytes : List ℕ) (at code tag flag next : ℕ) → HeadsAbbreviation bytes at code tag flag next
    → is_some (abbreviation_of list code) ≡ false
    → from code_next list bytes at ≡ after_all (at_place (if nat_lt flag 2 then name_next (bare code tag flag) else broken) list) (drop next bytes)
head-read list bytes at code tag flag next h new =
    let place : ℕ = at + h.code_size + h.tag_size in
    unsigned-read code_next list bytes at code h.code_size refl h.code_spells
    ∙ ap (λ (p : TablePlace). from p list bytes (at + h.code_size)) (code-some code list h.declares new)
    ∙ unsigned-read (tag_next code) list bytes (at + h.code_size) tag h.tag_size refl h.tag_spells
    ∙ byte-read (flag_next code tag) list bytes (at + h.code_size + h.tag_size) h.flag_there
    ∙ ap (λ (b : ℕ). after_all (at_place (if nat_lt b 2 then name_next (bare code tag b) else broken) list) (drop (at + h.code_size + h.tag_size + 1) bytes)) h.flag_is
    ∙ ap (λ (n : ℕ). after_all (at_place (if nat_lt flag 2 then name_next (bare code tag flag) else broken) list) (drop n bytes)) (sym h.behind)

-- an abbreviation that stands at a place, of a new code
abbreviation-read : (list : List Abbreviation) (bytes : List ℕ) (at : ℕ) (a : Abbreviation) (next : ℕ) → SpellsAbbreviation bytes at a next
    → is_some (abbreviation_of list a.code) ≡ false → from code_next list bytes at ≡ from code_next (list ++ a ∷ []) bytes next
abbreviation-read list bytes at a next s new =
    let same : record a { children = s.flag == 1 } ≡ a = ap (λ (b : Bool). record a { children = b }) (sym s.children) in
    head-read list bytes at a.code a.tag s.flag s.first s.head new
    ∙ ap (λ (b : Bool). after_all (at_place (if b then name_next (bare a.code a.tag s.flag) else broken) list) (drop s.first bytes))
    (lt-ltb s.flag 2 s.is_flag)
    ∙ specs-read (bare a.code a.tag s.flag) list bytes s.first a.specs s.last s.specs
    ∙ pair-read (record a { children = s.flag == 1 }) list bytes s.last 0 0 next s.end
    ∙ ap (λ (b : Abbreviation). from code_next (list ++ b ∷ []) bytes next) same

-- abbreviations, one after another
pub declares-read : (bytes : List ℕ) (start : ℕ) (list : List Abbreviation) (at : ℕ) → Declares bytes start list at
    → from code_next [] bytes start ≡ from code_next list bytes at
declares-read bytes start list at no_abbreviations = refl
declares-read bytes start list z (more_abbreviations before a at next d s new) =
    declares-read bytes start before at d ∙ abbreviation-read before bytes at a next s new

ended-stays : (list : List Abbreviation) (bs : List ℕ) → after_all (at_place ended list) bs ≡ at_place ended list
ended-stays list [] = refl
ended-stays list (b ∷ bs) = ended-stays list bs

-- a whole table
pub table-read : (bytes : List ℕ) (start : ℕ) (list : List Abbreviation) → IsTable bytes start list
    → from code_next [] bytes start ≡ at_place ended list
table-read bytes start list t =
    declares-read bytes start list t.last t.declares
    ∙ unsigned-read code_next list bytes t.last 0 t.size refl t.ends
    ∙ ended-stays list (drop (t.last + t.size) bytes)

-- the abbreviations of a table are those that its bytes declare
pub table-found : (bytes : List ℕ) (start : ℕ) (list : List Abbreviation) → IsTable bytes start list → abbreviations_at bytes start ≡ list
unfolding abbreviations_at
table-found bytes start list t = ap (λ (s : TableState). s.list) (table-read bytes start list t)

-- so a table has one list of abbreviations
pub table-one : (bytes : List ℕ) (start : ℕ) (xs ys : List Abbreviation) → IsTable bytes start xs → IsTable bytes start ys → xs ≡ ys
table-one bytes start xs ys a b = sym (table-found bytes start xs a) ∙ table-found bytes start ys b
