-- Laws of a list of places and the relocations of a table: the rows of one are the rows of the other.
use Rattle.std.proofs.Common.{◌≡◌, ℕ, suc, ◌<◌, Bool, true, false, if◌then◌else◌, List, [], ◌∷◌, ◌++◌, length, get_or, Option, Some, None, refl, sym, ap, ◌∙◌, arith, subst, inl, inr}
use Rattle.std.proofs.lemmas.Bool.{cases_Bool, cases_lt}
use Rattle.dw_base.specs.Cells.{Relocation as CellRelocation}
use Rattle.dw_base.specs.DebugSections.{debug_section}
use Rattle.dw_base.specs.Elf.{nth_section, section_name}
use Rattle.dw_base.specs.Refusals.{at}
use Rattle.dw_base.specs.RelocationSectionFails.{IsAmong, TableFails, TableReads, holds_texts, lies_in_moving}
use Rattle.dw_base.specs.RelocationSectionFails.TableFails.{in_abbrevs, in_texts, past as past_row, together as together_row}
use Rattle.dw_base.specs.SectionRelocations.{PlacedRelocation, RelocationSource, is_none_type, is_symbol_table, placed, records_in, relocation_of, relocation_source, relocations_among, relocations_in}
use Rattle.dw_base.specs.declared.debug_sections.DebugSection.{DebugSection}
use Rattle.dw_base.specs.declared.debug_sections.DebugSection.TheVariants.{Abbrev}
use Rattle.dw_base.specs.declared.fault.Kind.TheVariants.{Relocation as RelocationKind}
use Rattle.dw_base.specs.declared.fault.Refusal.{Refusal}
use Rattle.dw_base.specs.declared.relocations.Reloc.{Reloc}
use Rattle.dw_base.proofs.RelocationTieLaws.{get_or-records}
use Rattle.dw_view.specs.Places.{IsPlaced, Lists, PlacesFail, PlacesRise, PlacesWithin, index_of, place_at, placed_record, record_of, relocation_at_number}
use Rattle.dw_view.specs.Places.PlacesFail.{past, together}
use Rattle.dw_view.specs.Relocations.{AbbrevMoves, HasText, ListFails, NoTexts, NoneMoves, OneMoves}
use Rattle.dw_view.specs.Relocations.AbbrevMoves.{abbrev_moves}
use Rattle.dw_view.specs.Relocations.HasText.{first as first_text}
use Rattle.dw_view.specs.Relocations.ListFails.{places, texts, abbrevs}
use Rattle.dw_view.specs.Relocations.OneMoves.{one as one_moves}
use Rattle.dw_view.specs.declared.places.PlacedRecord.{PlacedRecord}
use Rattle.dw_view.proofs.PartlyLaws.{item-is}
use Rattle.dw_view.proofs.PlaceLaws.{number-of, one-item, other-records}
use Rattle.dw_base.proofs.TableRelocationLaws.{among-record, together-records}

-- a relocation among those of the table is that of a record that counts, of this number
record RecordAt (g : RelocationSource) (rs : List Reloc) (d : Reloc) (r : PlacedRelocation) (n : ℕ) : Type 0 where
  inside : n < length rs
  counts : is_none_type g.machine (get_or rs n d).kind ≡ false
  is : placed g (get_or rs n d) ≡ r

record-further : (g : RelocationSource) (x : Reloc) (xs : List Reloc) (d : Reloc) (r : PlacedRelocation) (n : ℕ) → RecordAt g xs d r n
    → RecordAt g (x ∷ xs) d r (suc n)
record-further g x xs d r n h = let inside = h.inside in record { inside = omega (arith, inside); counts = h.counts; is = h.is }

record-among : (g : RelocationSource) (rs : List Reloc) (d : Reloc) (r : PlacedRelocation) (before behind : List PlacedRelocation)
    → relocations_among g rs ≡ before ++ r ∷ behind → (n : ℕ) × RecordAt g rs d r n
record-among g [] d r [] behind e = absurd cc
record-among g [] d r (q ∷ qs) behind e = absurd cc
record-among g (x ∷ xs) d r before behind e =
    by_type (is_none_type g.machine x.kind) refl before e (λ (qs : List PlacedRelocation) f. record-among g xs d r qs behind f)
  where
    further : (n : ℕ) × RecordAt g xs d r n → (n : ℕ) × RecordAt g (x ∷ xs) d r n
    further found = (suc found.0, record-further g x xs d r found.0 found.1)

    by_type : (t : Bool) → is_none_type g.machine x.kind ≡ t → (qs : List PlacedRelocation)
        → (if t then relocations_among g xs else placed g x ∷ relocations_among g xs) ≡ qs ++ r ∷ behind
        → ((ps : List PlacedRelocation) → relocations_among g xs ≡ ps ++ r ∷ behind → (n : ℕ) × RecordAt g xs d r n)
        → (n : ℕ) × RecordAt g (x ∷ xs) d r n
    by_type true t_is qs f rest = further (rest qs f)
    by_type false t_is [] f rest = (0, record { inside = omega arith; counts = t_is; is = cc })
    by_type false t_is (q ∷ qs) f rest = let tail : relocations_among g xs ≡ qs ++ r ∷ behind = cc in further (rest qs tail)

record TwoRecords (g : RelocationSource) (rs : List Reloc) (d : Reloc) (a b : PlacedRelocation) : Type 0 where
  m : ℕ
  n : ℕ
  first : RecordAt g rs d a m
  second : RecordAt g rs d b n
  below : m < n

two-further : (g : RelocationSource) (x : Reloc) (xs : List Reloc) (d : Reloc) (a b : PlacedRelocation) → TwoRecords g xs d a b → TwoRecords g (x ∷ xs) d a b
two-further g x xs d a b h = let below = h.below in record {
  m = suc h.m;
  n = suc h.n;
  first = record-further g x xs d a h.m h.first;
  second = record-further g x xs d b h.n h.second;
  below = omega (arith, below);
}

two-among : (g : RelocationSource) (rs : List Reloc) (d : Reloc) (a b : PlacedRelocation) (before between behind : List PlacedRelocation)
    → relocations_among g rs ≡ before ++ a ∷ between ++ b ∷ behind → TwoRecords g rs d a b
two-among g [] d a b [] between behind e = absurd cc
two-among g [] d a b (q ∷ qs) between behind e = absurd cc
two-among g (x ∷ xs) d a b before between behind e =
    by_type (is_none_type g.machine x.kind) refl before e (λ (qs : List PlacedRelocation) f. two-among g xs d a b qs between behind f)
  where
    own : is_none_type g.machine x.kind ≡ false → placed g x ≡ a → (n : ℕ) × RecordAt g xs d b n → TwoRecords g (x ∷ xs) d a b
    own counts is found = record {
      m = 0;
      n = suc found.0;
      first = record { inside = omega arith; counts = counts; is = is };
      second = record-further g x xs d b found.0 found.1;
      below = omega arith;
    }

    by_type : (t : Bool) → is_none_type g.machine x.kind ≡ t → (qs : List PlacedRelocation)
        → (if t then relocations_among g xs else placed g x ∷ relocations_among g xs) ≡ qs ++ a ∷ between ++ b ∷ behind
        → ((ps : List PlacedRelocation) → relocations_among g xs ≡ ps ++ a ∷ between ++ b ∷ behind → TwoRecords g xs d a b) → TwoRecords g (x ∷ xs) d a b
    by_type true t_is qs f rest = two-further g x xs d a b (rest qs f)
    by_type false t_is [] f rest =
        let tail : relocations_among g xs ≡ between ++ b ∷ behind = cc in
        let here : placed g x ≡ a = cc in
        own t_is here (record-among g xs d b between behind tail)
    by_type false t_is (q ∷ qs) f rest = let tail : relocations_among g xs ≡ qs ++ a ∷ between ++ b ∷ behind = cc in two-further g x xs d a b (rest qs tail)

-- the items of a list
abbrev no_reloc : Reloc
no_reloc = record { offset = 0; symbol = 0; kind = 0; addend = None }

item-placed : (g : RelocationSource) (list : List PlacedRecord) (n : ℕ) → Lists g list → n < length list
    → IsPlaced g (record { place = place_at list n; index = index_of list n })
item-placed g list n h lt = h.sound (record { place = place_at list n; index = index_of list n }) (item-is list n lt)

item-counts : (g : RelocationSource) (list : List PlacedRecord) (n : ℕ) → Lists g list → n < length list
    → is_none_type g.machine (get_or (records_in g) (index_of list n) (record { offset = 0; symbol = 0; kind = 0; addend = None })).kind ≡ false
item-counts g list n h lt =
    let p = item-placed g list n h lt in
    ap (λ (q : Reloc). is_none_type g.machine q.kind) (get_or-records g (index_of list n) no_reloc p.there) ∙ p.counts

item-offset : (g : RelocationSource) (list : List PlacedRecord) (n : ℕ) → Lists g list → n < length list
    → (get_or (records_in g) (index_of list n) (record { offset = 0; symbol = 0; kind = 0; addend = None })).offset ≡ place_at list n
item-offset g list n h lt =
    let p = item-placed g list n h lt in
    ap (λ (q : Reloc). q.offset) (get_or-records g (index_of list n) no_reloc p.there) ∙ p.place

item-among : (g : RelocationSource) (list : List PlacedRecord) (n : ℕ) → Lists g list → n < length list
    → IsAmong (relocations_in g) (record { place = place_at list n; relocation = relocation_at_number g list n })
unfolding relocations_in
item-among g list n h lt =
    let p = item-placed g list n h lt in
    let own = get_or-records g (index_of list n) no_reloc p.there in
    subst (IsAmong (relocations_among g (records_in g)))
    (ap (λ (k : ℕ). record { place = k; relocation = relocation_of g (get_or (records_in g) (index_of list n) no_reloc) }) (item-offset g list n h lt)
    ∙ ap (λ (q : Reloc). record { place = place_at list n; relocation = relocation_of g q }) own)
    (among-record g (records_in g) (index_of list n) no_reloc p.there (item-counts g list n h lt))

-- two at one place
together-items : (contents : ℕ → List ℕ) (b : List ℕ) (i k m n : ℕ) (list : List PlacedRecord) → Lists (relocation_source contents b k) list → m < n → n < length list
    → place_at list m ≡ place_at list n → TableFails contents b i k (at RelocationKind i (place_at list n))
unfolding relocations_in
together-items contents b i k m n list h below lt same =
    let m_in : m < length list = omega (arith, below, lt) in
    let pm = item-placed g list m h m_in in
    let pn = item-placed g list n h lt in
    let om = item-offset g list m h m_in in
    let on = item-offset g list n h lt in
    elim (cases_lt (index_of list m) (index_of list n)) [
      | inl less ↦ subst (λ (p : ℕ). TableFails contents b i k (at RelocationKind i p)) on
          (together_row (placed g (get_or (records_in g) (index_of list m) no_reloc)) (placed g (get_or (records_in g) (index_of list n) no_reloc))
          (together-records g (records_in g) (index_of list m) (index_of list n) no_reloc less pn.there (item-counts g list m h m_in) (item-counts g list n h lt)
          (om ∙ same ∙ sym on)))
      | inr more ↦ elim (cases_lt (index_of list n) (index_of list m)) [
        | inl less ↦ subst (λ (p : ℕ). TableFails contents b i k (at RelocationKind i p)) (om ∙ same)
            (together_row (placed g (get_or (records_in g) (index_of list n) no_reloc)) (placed g (get_or (records_in g) (index_of list m) no_reloc))
            (together-records g (records_in g) (index_of list n) (index_of list m) no_reloc less pm.there (item-counts g list n h lt) (item-counts g list m h m_in)
            (on ∙ sym same ∙ sym om)))
        | inr equal ↦ absurd (other-records g (length (records_in g)) m n list h below lt (omega (arith, more, equal)))
      ]
    ]
  where
    g : RelocationSource
    g = relocation_source contents b k

-- what is wrong with the list is wrong with the table
text-fails : (contents : ℕ → List ℕ) (b : List ℕ) (i k : ℕ) (kind : DebugSection) (list : List PlacedRecord) (r : Refusal) → Lists (relocation_source contents b k) list
    → debug_section (section_name b i) ≡ Some kind → HasText i kind list r → TableFails contents b i k r
text-fails contents b i k kind list r h named (first_text some holds) =
    in_texts (record { place = place_at list 0; relocation = relocation_at_number (relocation_source contents b k) list 0 })
    (item-among (relocation_source contents b k) list 0 h some) (ap (λ (s : Option DebugSection). holds_texts s) named ∙ holds)

move-fails : (contents : ℕ → List ℕ) (b : List ℕ) (i k : ℕ) (kind : DebugSection) (list : List PlacedRecord) (r : Refusal) → Lists (relocation_source contents b k) list
    → debug_section (section_name b i) ≡ Some kind → kind ≡ Abbrev → OneMoves b (relocation_source contents b k) i list r → TableFails contents b i k r
move-fails contents b i k kind list r h named abbrev_is (one_moves n lt moves_is) =
    in_abbrevs (record { place = place_at list n; relocation = relocation_at_number (relocation_source contents b k) list n })
    (item-among (relocation_source contents b k) list n h lt) (named ∙ ap Some abbrev_is) moves_is

abbrev-fails : (contents : ℕ → List ℕ) (b : List ℕ) (i k : ℕ) (kind : DebugSection) (list : List PlacedRecord) (r : Refusal) → Lists (relocation_source contents b k) list
    → debug_section (section_name b i) ≡ Some kind → AbbrevMoves b (relocation_source contents b k) i kind list r → TableFails contents b i k r
abbrev-fails contents b i k kind list r h named (abbrev_moves is moved) = move-fails contents b i k kind list r h named is moved

place-fails : (contents : ℕ → List ℕ) (b : List ℕ) (i k size : ℕ) (list : List PlacedRecord) (r : Refusal) → Lists (relocation_source contents b k) list
    → size ≡ length (contents i) → PlacesFail i size list r → TableFails contents b i k r
place-fails contents b i k size list r h size_is (past n lt le) =
    past_row (record { place = place_at list n; relocation = relocation_at_number (relocation_source contents b k) list n })
    (item-among (relocation_source contents b k) list n h lt) (omega (arith, le, size_is))
place-fails contents b i k size list r h size_is (together m n below lt same) = together-items contents b i k m n list h below lt same

pub list-fails : (contents : ℕ → List ℕ) (b : List ℕ) (i k size : ℕ) (kind : DebugSection) (list : List PlacedRecord) (r : Refusal)
    → Lists (relocation_source contents b k) list → debug_section (section_name b i) ≡ Some kind → size ≡ length (contents i)
    → ListFails b (relocation_source contents b k) i size kind list r → TableFails contents b i k r
list-fails contents b i k size kind list r h named size_is (places f) = place-fails contents b i k size list r h size_is f
list-fails contents b i k size kind list r h named size_is (texts f) = text-fails contents b i k kind list r h named f
list-fails contents b i k size kind list r h named size_is (abbrevs f) = abbrev-fails contents b i k kind list r h named f

-- and where nothing is, the table reads
record ItemOf (g : RelocationSource) (list : List PlacedRecord) (r : PlacedRelocation) (index : ℕ) : Type 0 where
  number : ℕ
  inside : number < length list
  place : place_at list number ≡ r.place
  index_is : index_of list number ≡ index
  relocation : relocation_at_number g list number ≡ r.relocation

item-of : (g : RelocationSource) (list : List PlacedRecord) (r : PlacedRelocation) (n : ℕ) → Lists g list
    → RecordAt g (records_in g) (record { offset = 0; symbol = 0; kind = 0; addend = None }) r n → ItemOf g list r n
item-of g list r n h x =
    let own = get_or-records g n no_reloc x.inside in
    let counts : is_none_type g.machine (record_of g n).kind ≡ false = ap (λ (q : Reloc). is_none_type g.machine q.kind) (sym own) ∙ x.counts in
    let found = number-of list (placed_record g n) (h.complete n x.inside counts) in
    record {
      number = found.0;
      inside = found.1.0;
      place = found.1.1 ∙ ap (λ (q : Reloc). q.offset) (sym own) ∙ ap (λ (q : PlacedRelocation). q.place) x.is;
      index_is = found.1.2;
      relocation = ap (λ (k : ℕ). relocation_of g (record_of g k)) found.1.2 ∙ ap (relocation_of g) (sym own) ∙ ap (λ (q : PlacedRelocation). q.relocation) x.is;
    }

among-item : (g : RelocationSource) (list : List PlacedRecord) (r : PlacedRelocation) → Lists g list → IsAmong (relocations_in g) r → (index : ℕ) × ItemOf g list r index
unfolding relocations_in
among-item g list r h among =
    let x = record-among g (records_in g) no_reloc r among.before among.behind among.is in
    (x.0, item-of g list r x.0 h x.1)

pub list-reads : (contents : ℕ → List ℕ) (b : List ℕ) (i k size : ℕ) (kind : DebugSection) (list : List PlacedRecord) → Lists (relocation_source contents b k) list
    → debug_section (section_name b i) ≡ Some kind → size ≡ length (contents i) → is_symbol_table b (nth_section b k).link ≡ true → PlacesRise list
    → PlacesWithin size list → NoTexts kind list → NoneMoves b (relocation_source contents b k) kind list → TableReads contents b i k
unfolding relocations_in
list-reads contents b i k size kind list h named size_is symbols rise within no_text none_moves = record {
  symbols = symbols;
  within = λ r among.
      let item = among-item g list r h among in
      let lt = within.below item.1.number item.1.inside in
      let place = item.1.place in
      omega (arith, lt, place, size_is);
  apart = λ a c both.
      let two = two-among g (records_in g) no_reloc a c both.before both.between both.behind both.both in
      let item = item-of g list a two.m h two.first in
      let other = item-of g list c two.n h two.second in
      let below = two.below in
      let same = one-item list (record { place = place_at list item.number; index = index_of list item.number })
      (record { place = place_at list other.number; index = index_of list other.number }) rise (item-is list item.number item.inside)
      (item-is list other.number other.inside) (item.place ∙ both.place ∙ sym other.place) in
      let equal : two.m ≡ two.n = sym item.index_is ∙ same ∙ other.index_is in
      omega (arith, below, equal);
  no_texts = λ r among. elim (cases_Bool (holds_texts (debug_section (section_name b i)))) [
    | inl holds ↦
        let item = among-item g list r h among in
        let none = no_text.none (ap (λ (s : Option DebugSection). holds_texts s) (sym named) ∙ holds) in
        let inside = item.1.inside in
        absurd (omega (arith, inside, none))
    | inr none ↦ none
  ];
  abbrevs = λ r among is_abbrev.
      let item = among-item g list r h among in
      let kind_is : kind ≡ Abbrev = cc in
      ap (λ (x : CellRelocation). lies_in_moving b x.target) (sym item.1.relocation) ∙ none_moves.none kind_is item.1.number item.1.inside;
}
  where
    g : RelocationSource
    g = relocation_source contents b k
