-- Laws of what is kept of the relocations of a section.
use Rattle.std.proofs.Common.{◌≡◌, ◌≢◌, ℕ, ◌+◌, ◌<◌, ◌≤◌, ◌==◌, ◌&&◌, not, Bool, true, false, if◌then◌else◌, List, [], ◌∷◌, length, drop, Option, Some, None, Ok, Err, refl, sym, ap, ◌∙◌, arith}
use Rattle.std.specs.Prelude.{Contains, IfSome, MatchOption, option_map}
use Rattle.std.proofs.lemmas.List.{drop_all, drop_more}
use Rattle.dw_base.specs.Cells.{Relocation as CellRelocation, field_by}
use Rattle.dw_base.specs.Refusals.{at}
use Rattle.dw_base.specs.RelocationFields.{field_unless}
use Rattle.dw_base.specs.Relocs.{reloc_at}
use Rattle.dw_base.specs.SectionRelocations.{RelocationSource, is_none_type, placed, records_in, relocation_in, relocation_of, relocations_among, relocations_in}
use Rattle.dw_base.specs.declared.fault.Kind.TheVariants.{Relocation as RelocationKind}
use Rattle.dw_base.specs.declared.fault.Refusal.{Refusal}
use Rattle.dw_base.specs.declared.relocations.Reloc.{Reloc}
use Rattle.dw_base.specs.declared.view_fields.Field.{Field}
use Rattle.dw_base.proofs.RelocationTieLaws.{get_or-records, record-there}
use Rattle.dw_view.specs.Places.{BeginBefore, BeginFrom, IsNextAmong, LeftAmong, Lists, NoneFrom, PlacesRise, counts_at, partly_among, place_at, record_of}
use Rattle.dw_view.specs.Relocations.{IsKept, KeptRelocations, kept_of, partly_kept, relocation_value, target_in}
use Rattle.dw_view.specs.declared.fields.Relocation.{Relocation}
use Rattle.dw_view.specs.declared.places.PlacedRecord.{PlacedRecord}
use Rattle.dw_view.proofs.PlaceLaws.{place-absent, place-found, record-is}

-- one record
begins-is : (g : RelocationSource) (index place : ℕ) (r : Reloc) (t : Bool) → Some r ≡ reloc_at g.class g.order g.rela g.table index
    → index < length (records_in g) → t ≡ is_none_type g.machine r.kind → (not t && r.offset == place) ≡ counts_at g place (record_of g index)
begins-is g index place r t e lt t_is =
    ap (λ (x : Bool). not x && r.offset == place) t_is ∙ ap (counts_at g place) (sym (record-is g index r (sym e) lt))

pub begins-counted : (g : RelocationSource) (index place : ℕ) (r : Reloc) (t : Bool) → Some r ≡ reloc_at g.class g.order g.rela g.table index
    → index < length (records_in g) → t ≡ is_none_type g.machine r.kind → t ≡ false → (r.offset == place) ≡ counts_at g place (record_of g index)
begins-counted g index place r t e lt t_is no_ =
    ap (λ (x : Bool). not x && r.offset == place) (sym no_) ∙ begins-is g index place r t e lt t_is

pub begins-none : (g : RelocationSource) (index place : ℕ) (r : Reloc) (t : Bool) → Some r ≡ reloc_at g.class g.order g.rela g.table index
    → index < length (records_in g) → t ≡ is_none_type g.machine r.kind → t ≡ true → not t ≡ counts_at g place (record_of g index)
begins-none g index place r t e lt t_is yes_ =
    ap not yes_ ∙ ap (λ (x : Bool). not x && r.offset == place) (sym yes_) ∙ begins-is g index place r t e lt t_is

pub begins-absent : (g : RelocationSource) (index : ℕ) (x y : Bool) → None ≡ reloc_at g.class g.order g.rela g.table index → index < length (records_in g) → x ≡ y
begins-absent g index x y e lt = let some = record-there g index (record { offset = 0; symbol = 0; kind = 0; addend = None }) lt in absurd cc

pub ruleset begin_rules = (begins-counted, begins-none, begins-absent)

-- all records, one by one
among-other : (g : RelocationSource) (place : ℕ) (r : Reloc) (rs : List Reloc) → counts_at g place r ≡ false
    → relocation_in (relocations_among g (r ∷ rs)) place ≡ relocation_in (relocations_among g rs) place
among-other g place r rs other = by_type (is_none_type g.machine r.kind) other
  where
    by_place : (u : Bool) → u ≡ false
        → (if u then Some (relocation_of g r) else relocation_in (relocations_among g rs) place) ≡ relocation_in (relocations_among g rs) place
    by_place true e = absurd cc
    by_place false e = refl

    by_type : (t : Bool) → (not t && r.offset == place) ≡ false
        → relocation_in (if t then relocations_among g rs else placed g r ∷ relocations_among g rs) place ≡ relocation_in (relocations_among g rs) place
    by_type true e = refl
    by_type false e = by_place (r.offset == place) e

among-here : (g : RelocationSource) (place : ℕ) (r : Reloc) (rs : List Reloc) → counts_at g place r ≡ true
    → relocation_in (relocations_among g (r ∷ rs)) place ≡ Some (relocation_of g r)
among-here g place r rs here = by_type (is_none_type g.machine r.kind) here
  where
    by_place : (u : Bool) → u ≡ true → (if u then Some (relocation_of g r) else relocation_in (relocations_among g rs) place) ≡ Some (relocation_of g r)
    by_place true e = refl
    by_place false e = absurd cc

    by_type : (t : Bool) → (not t && r.offset == place) ≡ true
        → relocation_in (if t then relocations_among g rs else placed g r ∷ relocations_among g rs) place ≡ Some (relocation_of g r)
    by_type true e = absurd cc
    by_type false e = by_place (r.offset == place) e

-- the records from a number on
abbrev no_reloc : Reloc
no_reloc = record { offset = 0; symbol = 0; kind = 0; addend = None }

records-from : (g : RelocationSource) (i : ℕ) → i < length (records_in g) → drop i (records_in g) ≡ record_of g i ∷ drop (i + 1) (records_in g)
records-from g i lt =
    drop_more (records_in g) i no_reloc lt ∙ ap (λ (r : Reloc). r ∷ drop (i + 1) (records_in g)) (get_or-records g i no_reloc lt)

pub scan-first : (g : RelocationSource) (place : ℕ) → LeftAmong g place 0
unfolding relocations_in
scan-first g place = record { left = refl }

pub scan-more : (g : RelocationSource) (place i : ℕ) (t : Bool) → i < length (records_in g) → t ≡ counts_at g place (record_of g i) → t ≡ false
    → LeftAmong g place i → LeftAmong g place (i + 1)
scan-more g place i t lt t_is no_ h = record {
  left = h.left ∙ ap (λ (l : List Reloc). relocation_in (relocations_among g l) place) (records-from g i lt)
      ∙ among-other g place (record_of g i) (drop (i + 1) (records_in g)) (sym t_is ∙ no_);
}

pub scan-found : (g : RelocationSource) (place i : ℕ) (t : Bool) → i < length (records_in g) → t ≡ counts_at g place (record_of g i) → t ≡ true
    → LeftAmong g place i → Some (relocation_of g (record_of g i)) ≡ relocation_in (relocations_in g) place
scan-found g place i t lt t_is yes_ h =
    sym (h.left ∙ ap (λ (l : List Reloc). relocation_in (relocations_among g l) place) (records-from g i lt)
    ∙ among-here g place (record_of g i) (drop (i + 1) (records_in g)) (sym t_is ∙ yes_))

pub scan-end : (g : RelocationSource) (place i n : ℕ) → n ≡ length (records_in g) → n ≤ i → LeftAmong g place i → None ≡ relocation_in (relocations_in g) place
scan-end g place i n n_is le h =
    sym (h.left ∙ ap (λ (l : List Reloc). relocation_in (relocations_among g l) place) (drop_all i (records_in g) (omega (arith, n_is, le))))

pub ruleset scan_rules = (scan-first, scan-more, scan-found, scan-end)

-- places in order
pub listed-there : (g : RelocationSource) (list : List PlacedRecord) (place : ℕ) (o : Option ℕ) → Lists g list
    → MatchOption o ((e : PlacedRecord) → Contains list e → e.place ≢ place) (λ (index : ℕ). Contains list (record { place = place; index = index }))
    → IfSome o (λ (i : ℕ). i < length (records_in g))
listed-there g list place None h found = tt
listed-there g list place (Some index) h found = (h.sound (record { place = place; index = index }) found).there

pub listed-is : (g : RelocationSource) (list : List PlacedRecord) (place : ℕ) (o : Option ℕ) → Lists g list → PlacesRise list
    → MatchOption o ((e : PlacedRecord) → Contains list e → e.place ≢ place) (λ (index : ℕ). Contains list (record { place = place; index = index }))
    → option_map (λ (i : ℕ). relocation_of g (record_of g i)) o ≡ relocation_in (relocations_in g) place
listed-is g list place None h rise found = sym (place-absent g list place h found)
listed-is g list place (Some index) h rise found = sym (place-found g list place index h rise found)

pub ruleset listed_rules = (listed-there, listed-is)

-- what is kept of a section
pub kept-lists : (g : RelocationSource) (read : Bool) (list : List PlacedRecord) → IsKept (kept_of g read list) → read ≡ true → Lists g list
kept-lists g read list h yes_ = h.lists yes_

pub kept-rise : (g : RelocationSource) (read : Bool) (list : List PlacedRecord) → IsKept (kept_of g read list) → PlacesRise list
kept-rise g read list h = h.rise

pub ruleset kept_rules = (kept-lists, kept-rise)

pub place-some : (g : RelocationSource) (place index : ℕ) (x : Relocation) → Some (relocation_of g (record_of g index)) ≡ relocation_in (relocations_in g) place
    → relocation_value x ≡ relocation_of g (record_of g index) → Some (relocation_value x) ≡ relocation_in (relocations_in g) place
place-some g place index x found is = ap Some is ∙ found

pub ruleset place_rules = (place-some)

-- where its symbol is defined
pub target-some : (g : RelocationSource) (place index : ℕ) (t : Option (ℕ × ℕ)) → Some (relocation_of g (record_of g index)) ≡ relocation_in (relocations_in g) place
    → t ≡ (relocation_of g (record_of g index)).target → t ≡ target_in (relocation_in (relocations_in g) place)
target-some g place index t found is = is ∙ ap target_in found

pub target-none : (g : RelocationSource) (place : ℕ) → None ≡ relocation_in (relocations_in g) place → None ≡ target_in (relocation_in (relocations_in g) place)
target-none g place none = ap target_in none

pub ruleset target_rules = (target-some, target-none)

pub part-none : (g : RelocationSource) (read : Bool) (list : List PlacedRecord) (place n : ℕ) → read ≡ false → None ≡ partly_kept (kept_of g read list) place n
part-none g read list place n is = ap (λ (t : Bool). if t then partly_among (relocations_in g) place n else None) (sym is)

pub part-some : (g : RelocationSource) (read : Bool) (list : List PlacedRecord) (place n : ℕ) (o : Option ℕ) → read ≡ true
    → o ≡ partly_among (relocations_in g) place n → o ≡ partly_kept (kept_of g read list) place n
part-some g read list place n o is o_is = o_is ∙ ap (λ (t : Bool). if t then partly_among (relocations_in g) place n else None) (sym is)

pub ruleset part_rules = (kept-lists, kept-rise, part-none, part-some)

-- fields
pub field-part : (o : Option ℕ) (section p : ℕ) (f : Field) (r : Refusal) → Some p ≡ o → r ≡ at RelocationKind section p → Err r ≡ field_unless o section f
field-part o section p f r met is = ap Err is ∙ ap (λ (q : Option ℕ). field_unless q section f) met

pub field-whole : (g : RelocationSource) (o : Option ℕ) (x : Option Relocation) (section place n number : ℕ) (f : Field) → None ≡ o
    → option_map relocation_value x ≡ relocation_in (relocations_in g) place → f ≡ field_by (option_map relocation_value x) n number
    → Ok f ≡ field_unless o section (field_by (relocation_in (relocations_in g) place) n number)
field-whole g o x section place n number f none x_is f_is =
    ap Ok (f_is ∙ ap (λ (q : Option CellRelocation). field_by q n number) x_is)
    ∙ ap (λ (q : Option ℕ). field_unless q section (field_by (relocation_in (relocations_in g) place) n number)) none

pub ruleset field_rules = (field-part, field-whole)

-- the next place
pub next-none : (list : List PlacedRecord) (from i : ℕ) → BeginBefore list from i → length list ≤ i → NoneFrom list from
next-none list from i h all = record { before = λ k lt. h.before k (omega (arith, lt, all)) }

pub next-some : (list : List PlacedRecord) (from i x : ℕ) → BeginBefore list from i → BeginFrom list from i → i < length list → x ≡ place_at list i
    → IsNextAmong list from x
next-some list from i x h behind lt is = record {
  number = i;
  inside = lt;
  is = sym is;
  from_there = let far = behind.behind i (omega arith) lt in omega (arith, far, is);
  before = h.before;
}

pub ruleset next_rules = (next-none, next-some)

-- what is made
pub made-listed : (g : RelocationSource) (list : List PlacedRecord) → Lists g list → PlacesRise list → IsKept (kept_of g true list)
made-listed g list h rise = record { lists = λ e. h; rise = rise }

pub made-unread : (g : RelocationSource) (list : List PlacedRecord) → list ≡ [] → IsKept (kept_of g false list)
made-unread g list none = record {
  lists = λ e. absurd cc;
  rise = record { rise = λ i j lt below. let size : length list ≡ 0 = ap (λ (l : List PlacedRecord). length l) none in absurd (omega (arith, below, size)) };
}

pub ruleset made_rules = (made-listed, made-unread)

pub rise-kept : (k : KeptRelocations) → IsKept k → PlacesRise k.places
rise-kept k h = h.rise

pub ruleset rise_rules = (rise-kept)
