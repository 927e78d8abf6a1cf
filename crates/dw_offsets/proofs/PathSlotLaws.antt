-- Laws of the pass over the slots of string offsets.
use Rattle.std.proofs.Common.{Bool, true, false, ◌≡◌, ℕ, zero, suc, ◌+◌, ◌-◌, ◌*◌, ◌/◌, ◌<◌, ◌≤◌, nat_eq, nat_lt, List, [], ◌∷◌, ◌++◌, length, get_or, take, Option, Some, None, refl, sym, ap, ◌∙◌, subst, arith, append_assoc}
use Rattle.std.specs.Prelude.{Result, Ok, Err, is_some, IfErr, IfOk, OnOk}
use Rattle.std.proofs.lemmas.Bool.{eqb-true}
use Rattle.std.proofs.lemmas.Bool.Decides.{nat_tests}
use Rattle.std.proofs.lemmas.List.{append-nil, length-append, take_all, get_or_append_left, get_or_push}
use Rattle.dw_base.specs.DebugSections.{name_of}
use Rattle.dw_base.specs.Cells.{offset_into}
use Rattle.dw_base.specs.FileViews.{View, kind_at, section_bytes, section_named}
use Rattle.dw_base.specs.Forms.{width_size}
use Rattle.dw_base.specs.Lists.{tabulate}
use Rattle.dw_base.specs.Refusals.{at, Blames}
use Rattle.dw_base.specs.RelocationRows.{OffsetFails, OffsetReads}
use Rattle.dw_base.specs.Slots.{Slot, slot_at, slot_total, slots_of}
use Rattle.dw_base.specs.StringOffsets.{AreContributions, ContributionsUpTo, no_contributions, more_contributions}
use Rattle.dw_base.specs.Texts.{ends_in}
use Rattle.dw_base.specs.ViewData.{cells_located, located, located_at, string_offsets}
use Rattle.dw_base.specs.declared.debug_sections.DebugSection.{DebugSection}
use Rattle.dw_base.specs.declared.debug_sections.DebugSection.TheVariants.{Str, StrOffsets}
use Rattle.dw_base.specs.declared.fault.Fault.{Fault}
use Rattle.dw_base.specs.declared.fault.Fault.TheVariants.{NoMemory, Refused}
use Rattle.dw_base.specs.declared.fault.Kind.TheVariants.{StringOffset}
use Rattle.dw_base.specs.declared.fault.Refusal.{Refusal}
use Rattle.dw_base.specs.declared.shared.Order.{Order}
use Rattle.dw_base.specs.declared.shared.Width.{Width}
use Rattle.dw_base.specs.declared.shared.Width.TheVariants.{W32, W64}
use Rattle.dw_base.specs.declared.string_offsets.Contribution.{Contribution}
use Rattle.dw_base.specs.declared.view_fields.Field.{Field}
use Rattle.dw_base.proofs.ViewCellLaws.{length-view_cells, offset_at-cells}
use Rattle.dw_offsets.specs.PathSlots.{SlotTable, table_with, table_in, slots_in, as_field, slot_offset, SlotTaken, EachSlot, field_of, fields_of, SlotsTaken, IsAmong, SlotRefuses, no_offset, no_text, SlotsRefuse, slot, LiesIn, AllLieIn}
use Rattle.dw_offsets.specs.SlotMarks.{marked}
use Rattle.dw_base.specs.ViewOffsets.{offset_read}
use Rattle.dw_base.proofs.ViewOffsetLaws.{offset-fails, offset-is, offset-reads, some-named}
use Rattle.dw_offsets.specs.declared.fields.OffsetField.{OffsetField}

-- a slot
abbrev pub slot_of : ℕ → ℕ → Slot
slot_of place size = record { place = place; size = size }

-- a section of a view
located-is : (v : View) (d : DebugSection) (o : Option ℕ) → o ≡ section_named v (name_of d) → located v d ≡ located_at v o
unfolding located
located-is v d o is = ap (located_at v) (sym is)

pub number-some : (v : View) (d : DebugSection) (n : ℕ) → Some n ≡ section_named v (name_of d) → n ≡ (located v d).number
number-some v d n is = rw (located-is v d (Some n) is) refl

pub number-none : (v : View) (d : DebugSection) → None ≡ section_named v (name_of d) → 0 ≡ (located v d).number
number-none v d is = rw (located-is v d None is) refl

pub bytes-some : (v : View) (d : DebugSection) (n : ℕ) (bytes : List ℕ) → Some n ≡ section_named v (name_of d) → bytes ≡ section_bytes v n → bytes ≡ (located v d).bytes
bytes-some v d n bytes is e = rw (located-is v d (Some n) is) e

pub bytes-none : (v : View) (d : DebugSection) → None ≡ section_named v (name_of d) → [] ≡ (located v d).bytes
bytes-none v d is = rw (located-is v d None is) refl

pub ruleset located_laws = (number-some, number-none, bytes-some, bytes-none)

-- the section of string offsets of a view
slots-at : (v : View) (o : Option ℕ) → o ≡ section_named v (name_of StrOffsets) → slots_in v ≡ table_with v (cells_located v o)
slots-at v o is = ap (λ (x : Option ℕ). table_with v (cells_located v x)) (sym is)

pub table-is : (v : View) (i : ℕ) → Some i ≡ section_named v (name_of StrOffsets) → table_in v i ≡ slots_in v
table-is v i is = sym (slots-at v (Some i) is)

pub table-kind : (v : View) (i : ℕ) → Some i ≡ section_named v (name_of StrOffsets) → is_some (kind_at v i) ≡ true
table-kind v i is = some-named v StrOffsets i is

pub ruleset table_laws = (table-is, table-kind)

-- its contents have the bytes that its contributions were read from
cells-size : (v : View) → length (slots_in v).cells ≡ length (string_offsets v).bytes
unfolding located
cells-size v = by_section (section_named v (name_of StrOffsets))
  where
    by_section : (o : Option ℕ) → length (cells_located v o).contents ≡ length (located_at v o).bytes
    by_section None = refl
    by_section (Some i) = length-view_cells v i

-- the field of a slot
field-size : (v : View) (i : ℕ) (t : SlotTable) → t ≡ table_in v i → length t.cells ≡ length (section_bytes v i)
field-size v i t is = ap (λ (x : SlotTable). length x.cells) is ∙ length-view_cells v i

pub slot-there : (v : View) (i at size : ℕ) (t : SlotTable) → t ≡ table_in v i → at + size ≤ length t.cells → at + size ≤ length (section_bytes v i)
slot-there v i at size t is inside = let same = field-size v i t is in omega (arith, same, inside)

pub slot-offset : (v : View) (i at size : ℕ) (t : SlotTable) (x : Result Field Refusal) → t ≡ table_in v i → 0 < size → at + size ≤ length t.cells
    → x ≡ offset_read v i at size → IfOk x (λ f. offset_into t.str f ≡ slot_offset t (slot_of at size))
slot-offset v i at size t (Err r) is some inside e = tt
slot-offset v i at size t (Ok f) is some inside e =
    ap (λ (x : SlotTable). offset_into x.str f) is
    ∙ ap (offset_into (located v Str)) (offset-is v i at size f (sym e)).same
    ∙ sym (offset_at-cells v (located v Str) i at size some (slot-there v i at size t is inside))
    ∙ ap (λ (x : SlotTable). slot_offset x (slot_of at size)) (sym is)

pub slot-reads : (v : View) (i at size : ℕ) (t : SlotTable) (x : Result Field Refusal) → t ≡ table_in v i → is_some (kind_at v i) ≡ true → 0 < size
    → at + size ≤ length t.cells → x ≡ offset_read v i at size → OnOk x (OffsetReads t.order t.cells (as_field (slot_of at size)))
slot-reads v i at size t (Err r) is kind some inside e = tt
slot-reads v i at size t (Ok f) is kind some inside e =
    subst (λ (x : SlotTable). OffsetReads x.order x.cells (as_field (slot_of at size))) (sym is)
    (offset-reads v i at size f kind some (slot-there v i at size t is inside) (sym e))

pub slot-refused : (v : View) (i at size : ℕ) (t : SlotTable) (x : Result Field Refusal) → t ≡ table_in v i → 0 < size → at + size ≤ length t.cells
    → x ≡ offset_read v i at size → IfErr x (OffsetFails t.order t.number t.cells (as_field (slot_of at size)))
slot-refused v i at size t (Ok f) is some inside e = tt
slot-refused v i at size t (Err r) is some inside e =
    subst (λ (x : SlotTable). OffsetFails x.order x.number x.cells (as_field (slot_of at size)) r) (sym is)
    (offset-fails v i at size r some (slot-there v i at size t is inside) (sym e))

pub ruleset slot_laws = (slot-reads, slot-refused)

-- how many slots a contribution has, and where they start
pub total-narrow : (c : Contribution) → c.width ≡ W32 → (c.end - c.base) / 4 ≡ slot_total c
total-narrow c w = rw w refl

pub total-wide : (c : Contribution) → c.width ≡ W64 → (c.end - c.base) / 8 ≡ slot_total c
total-wide c w = rw w refl

pub ruleset total_laws = (total-narrow, total-wide)

start-inside : (w : Width) (base end i : ℕ) → base ≤ end → i < (end - base) / width_size w → base + i * width_size w + width_size w ≤ end
start-inside W32 base end i le lt = omega (arith, le, lt)
start-inside W64 base end i le lt = omega (arith, le, lt)

pub start-narrow : (c : Contribution) (i : ℕ) → c.width ≡ W32 → c.base + i * 4 ≡ (slot_at c i).place
start-narrow c i w = rw w refl

pub start-wide : (c : Contribution) (i : ℕ) → c.width ≡ W64 → c.base + i * 8 ≡ (slot_at c i).place
start-wide c i w = rw w refl

pub narrow-inside : (c : Contribution) (i : ℕ) → c.base ≤ c.end → i < slot_total c → c.width ≡ W32 → c.base + i * 4 + width_size c.width ≤ c.end
narrow-inside c i le lt w =
    subst (λ (n : ℕ). c.base + i * n + width_size c.width ≤ c.end) (ap width_size w) (start-inside c.width c.base c.end i le lt)

pub wide-inside : (c : Contribution) (i : ℕ) → c.base ≤ c.end → i < slot_total c → c.width ≡ W64 → c.base + i * 8 + width_size c.width ≤ c.end
wide-inside c i le lt w =
    subst (λ (n : ℕ). c.base + i * n + width_size c.width ≤ c.end) (ap width_size w) (start-inside c.width c.base c.end i le lt)

pub ruleset start_laws = (start-narrow, start-wide, narrow-inside, wide-inside)

-- whether a slot can be taken: what was read of it: that no relocation refuses it, and the offset
ends-is : (t : SlotTable) (place size : ℕ) (f : Field) (b : Bool) → offset_into t.str f ≡ slot_offset t (slot_of place size)
    → b ≡ ends_in t.str.bytes (offset_into t.str f) → ends_in t.str.bytes (slot_offset t (slot_of place size)) ≡ b
ends-is t place size f b is e = ap (ends_in t.str.bytes) (sym is) ∙ sym e

pub check-no_offset : (t : SlotTable) (place size : ℕ) (r : Refusal) → OffsetFails t.order t.number t.cells (as_field (slot_of place size)) r
    → SlotRefuses t (slot_of place size) r
check-no_offset t place size r f = no_offset f

pub check-no_text : (t : SlotTable) (place size : ℕ) (f : Field) (b : Bool) → OffsetReads t.order t.cells (as_field (slot_of place size))
    → offset_into t.str f ≡ slot_offset t (slot_of place size) → b ≡ ends_in t.str.bytes (offset_into t.str f) → b ≡ false
    → SlotRefuses t (slot_of place size) (at StringOffset t.number place)
check-no_text t place size f b reads is e none = no_text reads (ends-is t place size f b is e ∙ none)

pub check-taken : (t : SlotTable) (place size : ℕ) (f : Field) (b : Bool) → OffsetReads t.order t.cells (as_field (slot_of place size))
    → offset_into t.str f ≡ slot_offset t (slot_of place size) → b ≡ ends_in t.str.bytes (offset_into t.str f) → b ≡ true → SlotTaken t (slot_of place size)
check-taken t place size f b reads is e ends = record { reads = reads; ends = ends-is t place size f b is e ∙ ends }

pub ruleset check_laws = (check-no_offset, check-no_text, check-taken)

-- a slot that was taken
pub taken-one : (t : SlotTable) (marks : List ℕ) (place size : ℕ) (old new : List OffsetField) (p : Bool) → SlotTaken t (slot_of place size)
    → p ≡ marked true marks place → new ≡ old ++ record { at = place; size = size; path = p } ∷ [] → SlotsTaken t marks (slot_of place size ∷ []) old new
taken-one t marks place size old new p taken mark e = record {
  taken = (taken, tt);
  fields = e ∙ ap (λ (b : Bool). old ++ record { at = place; size = size; path = b } ∷ []) mark;
}

pub ruleset field_laws = (taken-one)

-- slots one after another
each-append : (P : Slot → Type 0) (xs ys : List Slot) → EachSlot P xs → EachSlot P ys → EachSlot P (xs ++ ys)
each-append P [] ys a b = b
each-append P (x ∷ xs) ys a b = (a.0, each-append P xs ys a.1 b)

fields-append : (marks : List ℕ) (xs ys : List Slot) → fields_of marks (xs ++ ys) ≡ fields_of marks xs ++ fields_of marks ys
fields-append marks [] ys = refl
fields-append marks (x ∷ xs) ys =
    ap (λ (r : List OffsetField). field_of marks x ∷ r) (fields-append marks xs ys)

pub taken-append : (t : SlotTable) (marks : List ℕ) (xs ys : List Slot) (old mid new : List OffsetField) → SlotsTaken t marks xs old mid
    → SlotsTaken t marks ys mid new → SlotsTaken t marks (xs ++ ys) old new
taken-append t marks xs ys old mid new a b = record {
  taken = each-append (SlotTaken t) xs ys a.taken b.taken;
  fields =
      b.fields ∙ ap (λ (f : List OffsetField). f ++ fields_of marks ys) a.fields ∙ append_assoc old (fields_of marks xs) (fields_of marks ys)
      ∙ ap (λ (r : List OffsetField). old ++ r) (sym (fields-append marks xs ys));
}

pub taken-none : (t : SlotTable) (marks : List ℕ) (old new : List OffsetField) → new ≡ old → SlotsTaken t marks [] old new
taken-none t marks old new e = record { taken = tt; fields = e ∙ sym (append-nil old) }

among-left : (xs ys : List Slot) (s : Slot) → IsAmong xs s → IsAmong (xs ++ ys) s
among-left xs ys s a = record {
  before = a.before;
  behind = a.behind ++ ys;
  is = ap (λ (l : List Slot). l ++ ys) a.is ∙ append_assoc a.before (s ∷ a.behind) ys;
}

among-right : (xs ys : List Slot) (s : Slot) → IsAmong ys s → IsAmong (xs ++ ys) s
among-right xs ys s a = record {
  before = xs ++ a.before;
  behind = a.behind;
  is = ap (λ (l : List Slot). xs ++ l) a.is ∙ sym (append_assoc xs a.before (s ∷ a.behind));
}

refuse-left : (t : SlotTable) (xs ys : List Slot) (r : Refusal) → SlotsRefuse t xs r → SlotsRefuse t (xs ++ ys) r
refuse-left t xs ys r (slot s among refuses) = slot s (among-left xs ys s among) refuses

refuse-right : (t : SlotTable) (xs ys : List Slot) (r : Refusal) → SlotsRefuse t ys r → SlotsRefuse t (xs ++ ys) r
refuse-right t xs ys r (slot s among refuses) = slot s (among-right xs ys s among) refuses

-- the slots of a contribution up to an index, one more, and one that can't be taken
contribution-more : (t : SlotTable) (marks : List ℕ) (c : Contribution) (i next : ℕ) (old mid new : List OffsetField) → next ≡ suc i
    → SlotsTaken t marks (tabulate (slot_at c) i) old mid → SlotsTaken t marks (slot_at c i ∷ []) mid new
    → SlotsTaken t marks (tabulate (slot_at c) next) old new
contribution-more t marks c i next old mid new e a b =
    subst (λ (n : ℕ). SlotsTaken t marks (tabulate (slot_at c) n) old new) (sym e) (taken-append t marks (tabulate (slot_at c) i) (slot_at c i ∷ []) old mid new a b)

refuse-under : (t : SlotTable) (c : Contribution) (i n : ℕ) (r : Refusal) → i < n → SlotRefuses t (slot_at c i) r
    → SlotsRefuse t (tabulate (slot_at c) n) r
refuse-under t c i zero r lt refuses = absurd (omega (arith, lt))
refuse-under t c i (suc n) r lt refuses = by_last (nat_eq i n) (λ below. refuse-under t c i n r below refuses) refl
  where
    by_last : (b : Bool) → (i < n → SlotsRefuse t (tabulate (slot_at c) n) r) → nat_eq i n ≡ b → SlotsRefuse t (tabulate (slot_at c) n ++ slot_at c n ∷ []) r
    by_last true rest e =
        refuse-right t (tabulate (slot_at c) n) (slot_at c n ∷ []) r
        (slot (slot_at c n) (record { before = []; behind = []; is = refl }) (subst (λ (k : ℕ). SlotRefuses t (slot_at c k) r) (eqb-true i n e) refuses))
    by_last false rest e =
        refuse-left t (tabulate (slot_at c) n) (slot_at c n ∷ []) r (rest (grind (arith, nat_tests)))

slot-is : (c : Contribution) (i place size : ℕ) → place ≡ (slot_at c i).place → size ≡ width_size c.width → slot_of place size ≡ slot_at c i
slot-is c i place size p s = ap (λ (n : ℕ). slot_of n size) p ∙ ap (λ (n : ℕ). slot_of (slot_at c i).place n) s

pub contribution-next : (t : SlotTable) (marks : List ℕ) (c : Contribution) (i place size : ℕ) (old mid new : List OffsetField)
    → place ≡ (slot_at c i).place → size ≡ width_size c.width → SlotsTaken t marks (tabulate (slot_at c) i) old mid
    → SlotsTaken t marks (slot_of place size ∷ []) mid new → SlotsTaken t marks (tabulate (slot_at c) (i + 1)) old new
contribution-next t marks c i place size old mid new p s a b =
    contribution-more t marks c i (i + 1) old mid new (omega arith) a
    (subst (λ (x : Slot). SlotsTaken t marks (x ∷ []) mid new) (slot-is c i place size p s) b)

pub contribution-refused : (t : SlotTable) (c : Contribution) (i place size total : ℕ) (x : Fault)
    → place ≡ (slot_at c i).place → size ≡ width_size c.width → total ≡ slot_total c → i < total
    → Blames (SlotRefuses t (slot_of place size)) x → Blames (SlotsRefuse t (tabulate (slot_at c) (slot_total c))) x
contribution-refused t c i place size total NoMemory p s is lt refuses = tt
contribution-refused t c i place size total (Refused r) p s is lt refuses =
    refuse-under t c i (slot_total c) r (omega (arith, is, lt))
    (subst (λ (x : Slot). SlotRefuses t x r) (slot-is c i place size p s) refuses)

pub ruleset contribution_laws = (taken-none, contribution-next)

-- the slots of contributions, one contribution more
slots_of-more : (list : List Contribution) (i : ℕ) (c d : Contribution) → i < length list → c ≡ get_or list i d
    → slots_of (take (suc i) list) ≡ slots_of (take i list) ++ tabulate (slot_at c) (slot_total c)
slots_of-more [] i c d lt e = absurd (omega (arith, lt))
slots_of-more (x ∷ xs) zero c d lt e =
    append-nil (tabulate (slot_at x) (slot_total x)) ∙ ap (λ (y : Contribution). tabulate (slot_at y) (slot_total y)) (sym e)
slots_of-more (x ∷ xs) (suc i) c d lt e =
    ap (λ (l : List Slot). tabulate (slot_at x) (slot_total x) ++ l) (slots_of-more xs i c d (omega (arith, lt)) e)
    ∙ sym (append_assoc (tabulate (slot_at x) (slot_total x)) (slots_of (take i xs)) (tabulate (slot_at c) (slot_total c)))

pub all-more : (t : SlotTable) (marks : List ℕ) (list : List Contribution) (i next : ℕ) (c d : Contribution) (old mid new : List OffsetField)
    → i < length list → c ≡ get_or list i d → next ≡ suc i → SlotsTaken t marks (slots_of (take i list)) old mid
    → SlotsTaken t marks (tabulate (slot_at c) (slot_total c)) mid new → SlotsTaken t marks (slots_of (take next list)) old new
all-more t marks list i next c d old mid new lt e n a b =
    subst (λ (l : List Slot). SlotsTaken t marks l old new)
    (sym (ap (λ (k : ℕ). slots_of (take k list)) n ∙ slots_of-more list i c d lt e))
    (taken-append t marks (slots_of (take i list)) (tabulate (slot_at c) (slot_total c)) old mid new a b)

pub all-taken : (t : SlotTable) (marks : List ℕ) (list : List Contribution) (n : ℕ) (old new : List OffsetField) → length list ≤ n
    → SlotsTaken t marks (slots_of (take n list)) old new → SlotsTaken t marks (slots_of list) old new
all-taken t marks list n old new le a =
    subst (λ (l : List Contribution). SlotsTaken t marks (slots_of l) old new) (take_all n list le) a

refuse-one : (t : SlotTable) (list : List Contribution) (i : ℕ) (c d : Contribution) (r : Refusal) → i < length list → c ≡ get_or list i d
    → SlotsRefuse t (tabulate (slot_at c) (slot_total c)) r → SlotsRefuse t (slots_of list) r
refuse-one t [] i c d r lt e f = absurd (omega (arith, lt))
refuse-one t (x ∷ xs) zero c d r lt e f =
    refuse-left t (tabulate (slot_at x) (slot_total x)) (slots_of xs) r
    (subst (λ (y : Contribution). SlotsRefuse t (tabulate (slot_at y) (slot_total y)) r) e f)
refuse-one t (x ∷ xs) (suc i) c d r lt e f =
    refuse-right t (tabulate (slot_at x) (slot_total x)) (slots_of xs) r (refuse-one t xs i c d r (omega (arith, lt)) e f)

pub all-refused : (t : SlotTable) (list : List Contribution) (i : ℕ) (c d : Contribution) (x : Fault) → i < length list → c ≡ get_or list i d
    → Blames (SlotsRefuse t (tabulate (slot_at c) (slot_total c))) x → Blames (SlotsRefuse t (slots_of list)) x
all-refused t list i c d NoMemory lt e f = tt
all-refused t list i c d (Refused r) lt e f = refuse-one t list i c d r lt e f

-- the contribution of a number lies in the section
pub lies-in : (size : ℕ) (list : List Contribution) (i : ℕ) (c d : Contribution) → AllLieIn size list → c ≡ get_or list i d → i < length list → LiesIn size c
lies-in size list i c d all e lt = all.each i c d lt e

pub ruleset all_laws = (taken-none, all-more, all-taken, lies-in)

-- contributions that were read lie in the section
lies-more : (size : ℕ) (list : List Contribution) (c : Contribution) → AllLieIn size list → LiesIn size c → AllLieIn size (list ++ c ∷ [])
lies-more size list c all one = record { each = λ i x d lt e. by_last i x d lt e (nat_lt i (length list)) refl }
  where
    by_last : (i : ℕ) (x d : Contribution) → i < length (list ++ c ∷ []) → x ≡ get_or (list ++ c ∷ []) i d → (b : Bool) → nat_lt i (length list) ≡ b → LiesIn size x
    by_last i x d lt e true below =
        let under : i < length list = grind (arith, nat_tests) in
        all.each i x d under (e ∙ get_or_append_left list (c ∷ []) d i under)
    by_last i x d lt e false above =
        let size_is = length-append list (c ∷ []) in
        let over : length list ≤ i = grind (arith, nat_tests) in
        let last : length list ≡ i = omega (arith, lt, size_is, over) in
        subst (λ (y : Contribution). LiesIn size y) (sym (e ∙ ap (λ (k : ℕ). get_or (list ++ c ∷ []) k d) (sym last) ∙ get_or_push list c d (length list) refl)) one

lies-up : (order : Order) (bytes : List ℕ) (list : List Contribution) (end : ℕ) → ContributionsUpTo order bytes list end → AllLieIn (length bytes) list
lies-up order bytes list end no_contributions = record { each = λ i c d lt e. absurd (omega (arith, lt)) }
lies-up order bytes list end (more_contributions before c start u is) =
    lies-more (length bytes) before c (lies-up order bytes before start u) (record { header = is.header; within = is.within })

pub contributions-lie : (v : View) (t : SlotTable) (list : List Contribution) → t ≡ slots_in v → AreContributions v.order (string_offsets v) list
    → AllLieIn (length t.cells) list
contributions-lie v t list is u =
    subst (λ (n : ℕ). AllLieIn n list) (sym (ap (λ (x : SlotTable). length x.cells) is ∙ cells-size v))
    (lies-up v.order (string_offsets v).bytes list (length (string_offsets v).bytes) u)

-- where there is no section of string offsets, there is no slot
none-there : (v : View) → None ≡ section_named v (name_of StrOffsets) → length (string_offsets v).bytes ≡ 0
unfolding located
none-there v e = ap (λ (o : Option ℕ). length (located_at v o).bytes) (sym e)

none-list : (order : Order) (bytes : List ℕ) (list : List Contribution) (end : ℕ) → end ≡ 0 → ContributionsUpTo order bytes list end → list ≡ []
none-list order bytes list end e no_contributions = refl
none-list order bytes list end e (more_contributions before c start u is) =
    let base : c.base ≡ start + is.lengths.2 + 4 = ap (λ (x : Contribution). x.base) is.is in
    absurd (omega (arith, base, is.header, e))

pub none-taken : (v : View) (marks : List ℕ) (list : List Contribution) (new : List OffsetField) → None ≡ section_named v (name_of StrOffsets)
    → AreContributions v.order (string_offsets v) list → new ≡ [] → SlotsTaken (slots_in v) marks (slots_of list) [] new
none-taken v marks list new none u empty =
    let nothing : list ≡ [] = none-list v.order (string_offsets v).bytes list (length (string_offsets v).bytes) (none-there v none) u in
    subst (λ (l : List Contribution). SlotsTaken (slots_in v) marks (slots_of l) [] new) (sym nothing) (taken-none (slots_in v) marks [] new empty)

pub ruleset pass_laws = (contributions-lie, none-taken)
