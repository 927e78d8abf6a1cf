-- Laws of the fields of contributions and of name tables, one after another.
use Rattle.std.proofs.Common.{◌≡◌, ℕ, ◌+◌, ◌*◌, ◌<◌, ◌≤◌, List, [], ◌∷◌, ◌++◌, length, drop, get_or, Result, refl, sym, ap, ◌∙◌, subst, arith, append_assoc, append-nil}
use Rattle.std.proofs.lemmas.List.{drop_all}
use Rattle.dw_base.specs.Cells.{Cell}
use Rattle.dw_base.specs.Forms.{width_size}
use Rattle.dw_base.specs.RelocationRows.{FieldPlace}
use Rattle.dw_base.specs.Slots.{slot_total}
use Rattle.dw_base.specs.declared.fault.Refusal.{Refusal}
use Rattle.dw_base.specs.declared.name_tables.NameTable.{NameTable}
use Rattle.dw_base.specs.declared.string_offsets.Contribution.{Contribution}
use Rattle.dw_relocs.specs.FieldRows.{ContributionNext, ContributionsFrom, TableNext, TablesFrom, contributions_fields, row_fields, tables_fields}
use Rattle.dw_relocs.specs.FieldWalks.{Goes, Ground, StandsAt}
use Rattle.dw_relocs.specs.declared.marks.Marks.{Marks}
use Rattle.dw_relocs.proofs.WalkLaws.{goes-more, goes-none, goes-to, stands-on}
use Rattle.dw_relocs.proofs.ListItemLaws.{front-at}

-- the first of a list have been passed: the fields of those, and those that are left, which stand from a place on
pub record ListSo {X : Type 0} (From : List X → ℕ → Type 0) (fields : List X → List FieldPlace) (g : Ground) (all : List X) (i : ℕ) (p q : Result Marks Refusal) : Type 0 where
  pub place : ℕ
  pub front : List FieldPlace
  pub is : front ++ fields (drop i all) ≡ fields all
  pub from : From (drop i all) place
  pub goes : Goes g 0 place front p q

list-starts : {X : Type 0} (From : List X → ℕ → Type 0) (fields : List X → List FieldPlace) (g : Ground) (all : List X) (p : Result Marks Refusal) → From all 0
    → StandsAt g.cells 0 p → ListSo From fields g all 0 p p
list-starts From fields g all p from h = record { place = 0; front = []; is = refl; from = from; goes = goes-none g 0 0 p (omega arith) h }

-- one more, whose fields stand between two places, behind which the others stand
record StepsOver {X : Type 0} (From : List X → ℕ → Type 0) (rest : List X) (place a b : ℕ) : Type 0 where
  before : place ≤ a
  end : ℕ
  behind : b ≤ end
  from : From rest end

list-more : {X : Type 0} (From : List X → ℕ → Type 0) (fields : List X → List FieldPlace) (g : Ground) (all : List X) (x : X) (i a b : ℕ) (own : List FieldPlace)
    (p q r : Result Marks Refusal) → drop i all ≡ x ∷ drop (i + 1) all → ((place : ℕ) → From (x ∷ drop (i + 1) all) place → StepsOver From (drop (i + 1) all) place a b)
    → fields (x ∷ drop (i + 1) all) ≡ own ++ fields (drop (i + 1) all) → ListSo From fields g all i p q → Goes g a b own q r
    → ListSo From fields g all (i + 1) p r
list-more {X} From fields g all x i a b own p q r there steps split h goes =
    let s = steps h.place (subst (λ (l : List X). From l h.place) there h.from) in
    record {
      place = s.end;
      front = h.front ++ own;
      is =
          append_assoc h.front own (fields (drop (i + 1) all)) ∙ ap (λ (l : List FieldPlace). h.front ++ l) (sym split)
          ∙ ap (λ (l : List X). h.front ++ fields l) (sym there) ∙ h.is;
      from = s.from;
      goes = goes-to g 0 b s.end (h.front ++ own) p r s.behind (goes-more g 0 h.place a b h.front own p q r s.before h.goes goes);
    }

list-ends : {X : Type 0} (From : List X → ℕ → Type 0) (fields : List X → List FieldPlace) (g : Ground) (all : List X) (i end : ℕ) (p q : Result Marks Refusal)
    → length all ≤ i → ((place : ℕ) → From [] place → place ≡ end) → fields [] ≡ [] → ListSo From fields g all i p q → Goes g 0 end (fields all) p q
list-ends {X} From fields g all i end p q over last none h =
    let rest : drop i all ≡ [] = drop_all i all over in
    let place : h.place ≡ end = last h.place (subst (λ (l : List X). From l h.place) rest h.from) in
    let whole : h.front ≡ fields all =
    sym (append-nil h.front) ∙ ap (λ (l : List FieldPlace). h.front ++ l) (sym (ap fields rest ∙ none)) ∙ h.is in
    subst (λ (n : ℕ). Goes g 0 n (fields all) p q) place (subst (λ (l : List FieldPlace). Goes g 0 h.place l p q) whole h.goes)

-- contributions
abbrev pub SlotsSo : Ground → ℕ → List Contribution → ℕ → Result Marks Refusal → Result Marks Refusal → Type 0
SlotsSo g size all i p q = ListSo (λ l place. ContributionsFrom size l place size) contributions_fields g all i p q

pub slots-start : (g : Ground) (size : ℕ) (all : List Contribution) (p : Result Marks Refusal) → ContributionsFrom size all 0 size → StandsAt g.cells 0 p
    → SlotsSo g size all 0 p p
slots-start g size all p from h = list-starts (λ l place. ContributionsFrom size l place size) contributions_fields g all p from h

pub slots-next : (g : Ground) (size : ℕ) (all : List Contribution) (c : Contribution) (i : ℕ) (p q : Result Marks Refusal) → i < length all → c ≡ get_or all i c
    → SlotsSo g size all i p q → ContributionNext g.cells size c q
slots-next g size all c i p q lt is h =
    let from : ContributionsFrom size (c ∷ drop (i + 1) all) h.place size =
    subst (λ (l : List Contribution). ContributionsFrom size l h.place size) (front-at all c i lt is) h.from in
    record { place = h.place; stands = h.goes.stands; before = from.0; rise = from.1; whole = from.2; within = from.3 }

pub slots-more : (g : Ground) (size : ℕ) (all : List Contribution) (c : Contribution) (i : ℕ) (p q r : Result Marks Refusal) → i < length all → c ≡ get_or all i c
    → SlotsSo g size all i p q → Goes g c.base c.end (row_fields c.base c.width (slot_total c)) q r → SlotsSo g size all (i + 1) p r
slots-more g size all c i p q r lt is h goes =
    list-more (λ l place. ContributionsFrom size l place size) contributions_fields g all c i c.base c.end (row_fields c.base c.width (slot_total c)) p q r
    (front-at all c i lt is) (λ place from. record { before = from.0; end = c.end; behind = omega arith; from = from.4 }) refl h goes

pub slots-end : (g : Ground) (size : ℕ) (all : List Contribution) (i : ℕ) (p q : Result Marks Refusal) → length all ≤ i → SlotsSo g size all i p q
    → Goes g 0 size (contributions_fields all) p q
slots-end g size all i p q over h =
    list-ends (λ l place. ContributionsFrom size l place size) contributions_fields g all i size p q over (λ place e. e) refl h

pub ruleset slots_rules = (slots-start, slots-end)

pub contribution-stands : (cells : List Cell) (size : ℕ) (c : Contribution) (p : Result Marks Refusal) → ContributionNext cells size c p → StandsAt cells c.base p
contribution-stands cells size c p h = stands-on cells h.place c.base p h.before h.stands

pub contribution-rises : (cells : List Cell) (size : ℕ) (c : Contribution) (p : Result Marks Refusal) → ContributionNext cells size c p → c.base ≤ c.end
contribution-rises cells size c p h = h.rise

pub contribution-room : (cells : List Cell) (size count : ℕ) (c : Contribution) (p : Result Marks Refusal) → ContributionNext cells size c p → count ≡ slot_total c
    → c.base + count * width_size c.width ≤ size
contribution-room cells size count c p h e =
    let whole : c.base + count * width_size c.width ≡ c.end = ap (λ (n : ℕ). c.base + n * width_size c.width) e ∙ h.whole in
    let within = h.within in
    omega (arith, whole, within)

pub contribution-goes : (g : Ground) (size count : ℕ) (c : Contribution) (p q : Result Marks Refusal) → ContributionNext g.cells size c p → count ≡ slot_total c
    → Goes g c.base (c.base + count * width_size c.width) (row_fields c.base c.width count) p q
    → Goes g c.base c.end (row_fields c.base c.width (slot_total c)) p q
contribution-goes g size count c p q h e goes =
    subst (λ (n : ℕ). Goes g c.base n (row_fields c.base c.width (slot_total c)) p q) h.whole
    (subst (λ (n : ℕ). Goes g c.base (c.base + n * width_size c.width) (row_fields c.base c.width n) p q) e goes)

pub ruleset contribution_rules = (contribution-stands, contribution-rises, contribution-room, contribution-goes)

-- name tables
abbrev pub NamesSo : Ground → ℕ → List NameTable → ℕ → Result Marks Refusal → Result Marks Refusal → Type 0
NamesSo g size all i p q = ListSo (λ l place. TablesFrom size l place size) tables_fields g all i p q

pub names-start : (g : Ground) (size : ℕ) (all : List NameTable) (p : Result Marks Refusal) → TablesFrom size all 0 size → StandsAt g.cells 0 p → NamesSo g size all 0 p p
names-start g size all p from h = list-starts (λ l place. TablesFrom size l place size) tables_fields g all p from h

pub names-next : (g : Ground) (size : ℕ) (all : List NameTable) (t : NameTable) (i : ℕ) (p q : Result Marks Refusal) → i < length all → t ≡ get_or all i t
    → NamesSo g size all i p q → TableNext g.cells size t q
names-next g size all t i p q lt is h =
    let from : TablesFrom size (t ∷ drop (i + 1) all) h.place size =
    subst (λ (l : List NameTable). TablesFrom size l h.place size) (front-at all t i lt is) h.from in
    record { place = h.place; stands = h.goes.stands; before = from.0; room = from.1; within = from.2 }

pub names-more : (g : Ground) (size : ℕ) (all : List NameTable) (t : NameTable) (i : ℕ) (p q r : Result Marks Refusal) → i < length all → t ≡ get_or all i t
    → NamesSo g size all i p q → Goes g t.strings t.end (row_fields t.strings t.width t.names) q r → NamesSo g size all (i + 1) p r
names-more g size all t i p q r lt is h goes =
    list-more (λ l place. TablesFrom size l place size) tables_fields g all t i t.strings t.end (row_fields t.strings t.width t.names) p q r
    (front-at all t i lt is) (λ place from. record { before = from.0; end = t.end; behind = omega arith; from = from.3 }) refl h goes

pub names-end : (g : Ground) (size : ℕ) (all : List NameTable) (i : ℕ) (p q : Result Marks Refusal) → length all ≤ i → NamesSo g size all i p q
    → Goes g 0 size (tables_fields all) p q
names-end g size all i p q over h = list-ends (λ l place. TablesFrom size l place size) tables_fields g all i size p q over (λ place e. e) refl h

pub ruleset names_rules = (names-start, names-end)

pub table-stands : (cells : List Cell) (size : ℕ) (t : NameTable) (p : Result Marks Refusal) → TableNext cells size t p → StandsAt cells t.strings p
table-stands cells size t p h = stands-on cells h.place t.strings p h.before h.stands

pub table-room : (cells : List Cell) (size : ℕ) (t : NameTable) (p : Result Marks Refusal) → TableNext cells size t p
    → t.strings + t.names * width_size t.width ≤ size
table-room cells size t p h =
    let room = h.room in
    let within = h.within in
    omega (arith, room, within)

pub table-goes : (g : Ground) (size : ℕ) (t : NameTable) (p q : Result Marks Refusal) → TableNext g.cells size t p
    → Goes g t.strings (t.strings + t.names * width_size t.width) (row_fields t.strings t.width t.names) p q
    → Goes g t.strings t.end (row_fields t.strings t.width t.names) p q
table-goes g size t p q h goes = goes-to g t.strings (t.strings + t.names * width_size t.width) t.end (row_fields t.strings t.width t.names) p q h.room goes

pub ruleset table_rules = (table-stands, table-room, table-goes)
