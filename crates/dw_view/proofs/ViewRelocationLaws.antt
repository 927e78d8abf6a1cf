-- Laws of the relocations of a view: what is kept of a file's is what its view has, and fields and addresses read by it.
use Rattle.std.proofs.Common.{◌≡◌, ℕ, zero, suc, ◌+◌, ◌^◌, ◌<◌, ◌≤◌, ◌==◌, Bool, true, false, if◌then◌else◌, List, [], length, get_or, Option, Some, None, Result, Ok, IfOk, IfSome, refl, sym, ap, ◌∙◌, arith, subst, inl, inr}
use Rattle.std.specs.Prelude.{is_some, MatchOption, option_map}
use Rattle.std.proofs.lemmas.Bool.{cases_lt}
use Rattle.std.proofs.lemmas.List.{drop_all, get_or_default, get_or_past}
use Rattle.dw_base.specs.Cells.{Cell, Relocation as CellRelocation, address_by, field_by, first_relocation, relocated, targeted, symbol_field}
use Rattle.dw_base.specs.DebugSections.{debug_section}
use Rattle.dw_base.specs.Elf.{contents_of, section_count, section_name}
use Rattle.dw_base.specs.FileViews.{View, address_at, field_at, field_read, kind_at, partly_in, section_bytes, view_cells, view_of, view_relocations}
use Rattle.dw_base.specs.Notes.{first_below, or_this}
use Rattle.dw_base.specs.Numbers.{spelled}
use Rattle.dw_base.specs.RelocationFields.{field_unless, meets_partly, partly_at, relocation_at}
use Rattle.dw_base.specs.SectionRelocations.{PlacedRelocation, RelocationSource, cells_from, relocation_in, relocations_in, relocations_of}
use Rattle.dw_base.specs.declared.fault.Refusal.{Refusal}
use Rattle.dw_base.specs.declared.view_fields.Field.{Field}
use Rattle.dw_base.specs.declared.view_fields.Field.TheVariants.{Num}
use Rattle.dw_base.proofs.FileViewLaws.{length-view_of, section_bytes-view_of}
use Rattle.dw_base.proofs.RelocationFieldLaws.{partly-plain}
use Rattle.dw_base.proofs.PlainCellLaws.{plain_cells-plain, IsPlain}
use Rattle.dw_base.proofs.SectionRelocationLaws.{cells_from-none, length-cells_from, relocation_at-from}
use Rattle.dw_base.proofs.ViewCellLaws.{relocations-view_of}
use Rattle.dw_base.proofs.ViewOffsetLaws.{read-nowhere, read-placed, read-refused}
use Rattle.dw_view.specs.Kept.{FieldFits}
use Rattle.dw_view.specs.PairViews.{pair_view}
use Rattle.dw_view.specs.Places.{IsNextAmong, Lists, NoneFrom, partly_among, place_at}
use Rattle.dw_view.specs.Relocations.{FileKeeps, HasNoNext, IsNextPlace, Keeps, KeepsAll, KeepsAt, KeptRelocations, NextKept, ViewKeeps, field_kept, partly_kept, relocation_kept, relocation_value, target_in}
use Rattle.dw_view.specs.declared.fields.Relocation.{Relocation}
use Rattle.dw_view.specs.declared.places.PlacedRecord.{PlacedRecord}
use Rattle.dw_view.proofs.PartLaws.{length-pair, pair-relocations, pair-room}
use Rattle.dw_view.proofs.PartlyLaws.{item-relocation, some-number}
use Rattle.dw_view.proofs.ViewLaws.{kind_at-pair, kind_at-view_of}

-- what is kept of a file is what its view has
pub one-keeps : (b : List ℕ) (v : View) (kept : List (Option KeptRelocations)) → v ≡ view_of b → FileKeeps b kept → ViewKeeps v kept
one-keeps b v kept is h = subst (λ (w : View). ViewKeeps w kept) (sym is) (record {
  each = λ i lt.
      let size = length-view_of b in
      let inside : i < section_count b = omega (arith, lt, size) in
      by_parts i (get_or kept i None) (sym (relocations-view_of b i inside)) (ap is_some (sym (kind_at-view_of b i inside)))
      (ap length (sym (section_bytes-view_of b i inside))) (h.each i inside);
})
  where
    by_parts : (i : ℕ) (o : Option KeptRelocations) → relocations_of (contents_of b) b i ≡ view_relocations (view_of b) i
        → is_some (debug_section (section_name b i)) ≡ is_some (kind_at (view_of b) i) → length (contents_of b i) ≡ length (section_bytes (view_of b) i)
        → KeepsAt b i o → KeepsAll (view_relocations (view_of b) i) (is_some (kind_at (view_of b) i)) (length (section_bytes (view_of b) i)) o
    by_parts i o rs read size keeps =
        subst (λ (n : ℕ). KeepsAll (view_relocations (view_of b) i) (is_some (kind_at (view_of b) i)) n o) size
        (subst (λ (t : Bool). KeepsAll (view_relocations (view_of b) i) t (length (contents_of b i)) o) read
        (subst (λ (l : List PlacedRelocation). KeepsAll l (is_some (debug_section (section_name b i))) (length (contents_of b i)) o) rs keeps))

-- and so of a pair, whose sections have no fewer bytes than those of its debug file
longer : (rs : List PlacedRelocation) (read : Bool) (m n : ℕ) (o : Option KeptRelocations) → m ≤ n → KeepsAll rs read m o → KeepsAll rs read n o
longer rs read m n None le keeps = keeps
longer rs read m n (Some k) le keeps = record {
  relocations = keeps.relocations;
  read_is = keeps.read_is;
  within = record { below = λ i lt. let below = keeps.within.below i lt in omega (arith, below, le) };
  kept = keeps.kept;
}

pub pair-keeps : (d s : List ℕ) (v : View) (kept : List (Option KeptRelocations)) → v ≡ pair_view d s → FileKeeps d kept → ViewKeeps v kept
pair-keeps d s v kept is h = subst (λ (w : View). ViewKeeps w kept) (sym is) (record {
  each = λ i lt.
      let size = length-pair d s in
      let inside : i < section_count d = omega (arith, lt, size) in
      by_parts i (get_or kept i None) (sym (pair-relocations d s i inside)) (ap is_some (sym (kind_at-pair d s i inside))) (pair-room d s i inside) (h.each i inside);
})
  where
    by_parts : (i : ℕ) (o : Option KeptRelocations) → relocations_of (contents_of d) d i ≡ view_relocations (pair_view d s) i
        → is_some (debug_section (section_name d i)) ≡ is_some (kind_at (pair_view d s) i) → length (contents_of d i) ≤ length (section_bytes (pair_view d s) i)
        → KeepsAt d i o → KeepsAll (view_relocations (pair_view d s) i) (is_some (kind_at (pair_view d s) i)) (length (section_bytes (pair_view d s) i)) o
    by_parts i o rs read le keeps =
        longer (view_relocations (pair_view d s) i) (is_some (kind_at (pair_view d s) i)) (length (contents_of d i)) (length (section_bytes (pair_view d s) i)) o le
        (subst (λ (t : Bool). KeepsAll (view_relocations (pair_view d s) i) t (length (contents_of d i)) o) read
        (subst (λ (l : List PlacedRelocation). KeepsAll l (is_some (debug_section (section_name d i))) (length (contents_of d i)) o) rs keeps))

pub ruleset keep_rules = (one-keeps, pair-keeps)

-- what is kept of one section
pub entry-past : (list : List (Option KeptRelocations)) (i : ℕ) → length list ≤ i → None ≡ get_or list i None
entry-past list i le = sym (get_or_past list i None le)

pub entry-there : (list : List (Option KeptRelocations)) (i : ℕ) (d o x : Option KeptRelocations) → i < length list → o ≡ get_or list i d → x ≡ o
    → x ≡ get_or list i None
entry-there list i d o x lt o_is is = is ∙ o_is ∙ get_or_default list i d None lt

pub ruleset entry_rules = (entry-past, entry-there)

pub field-some : (o : Option KeptRelocations) (k : KeptRelocations) (section place n number : ℕ) (r : Result Field Refusal) → Some k ≡ o
    → r ≡ field_unless (partly_kept k place n) section (field_by (relocation_in (relocations_in k.source) place) n number)
    → r ≡ field_kept o section place n number
field-some o k section place n number r o_is is = is ∙ ap (λ (x : Option KeptRelocations). field_kept x section place n number) o_is

pub field-none : (o : Option KeptRelocations) (section place n number : ℕ) → None ≡ o → Ok (Num number) ≡ field_kept o section place n number
field-none o section place n number o_is = ap (λ (x : Option KeptRelocations). field_kept x section place n number) o_is

pub relocation-some : (o : Option KeptRelocations) (k : KeptRelocations) (place : ℕ) (x : Option CellRelocation) → Some k ≡ o
    → x ≡ relocation_in (relocations_in k.source) place → x ≡ relocation_kept o place
relocation-some o k place x o_is is = is ∙ ap (λ (y : Option KeptRelocations). relocation_kept y place) o_is

pub relocation-none : (o : Option KeptRelocations) (place : ℕ) → None ≡ o → None ≡ relocation_kept o place
relocation-none o place o_is = ap (λ (y : Option KeptRelocations). relocation_kept y place) o_is

pub target-some : (o : Option KeptRelocations) (k : KeptRelocations) (place : ℕ) (t : Option (ℕ × ℕ)) → Some k ≡ o
    → t ≡ target_in (relocation_in (relocations_in k.source) place) → t ≡ target_in (relocation_kept o place)
target-some o k place t o_is is = is ∙ ap (λ (y : Option KeptRelocations). target_in (relocation_kept y place)) o_is

pub target-none : (o : Option KeptRelocations) (place : ℕ) → None ≡ o → None ≡ target_in (relocation_kept o place)
target-none o place o_is = ap (λ (y : Option KeptRelocations). target_in (relocation_kept y place)) o_is

pub next-listed : (o : Option KeptRelocations) (k : KeptRelocations) (from : ℕ) (x : Option ℕ) → Some k ≡ o
    → MatchOption x (NoneFrom k.places from) (IsNextAmong k.places from) → NextKept o from x
next-listed o k from x o_is next = subst (λ (y : Option KeptRelocations). NextKept y from x) o_is (by_answer x next)
  where
    by_answer : (y : Option ℕ) → MatchOption y (NoneFrom k.places from) (IsNextAmong k.places from) → NextKept (Some k) from y
    by_answer None h = h
    by_answer (Some p) h = h

pub next-without : (o : Option KeptRelocations) (from : ℕ) → None ≡ o → NextKept o from None
next-without o from o_is = subst (λ (y : Option KeptRelocations). NextKept y from None) o_is refl

pub ruleset by_rules = (field-some, field-none, relocation-some, relocation-none, target-some, target-none, next-listed, next-without)

-- the relocation at a place
kept-relocation : (rs : List PlacedRelocation) (read : Bool) (size place : ℕ) (o : Option KeptRelocations) → KeepsAll rs read size o
    → relocation_kept o place ≡ relocation_in rs place
kept-relocation rs read size place None none = ap (λ (l : List PlacedRelocation). relocation_in l place) (sym none)
kept-relocation rs read size place (Some k) keeps = ap (λ (l : List PlacedRelocation). relocation_in l place) keeps.relocations

cell-relocation : (rs : List PlacedRelocation) (bytes : List ℕ) (place : ℕ) → place < length bytes → relocation_at (cells_from rs 0 bytes) place ≡ relocation_in rs place
cell-relocation rs bytes place lt =
    let same : 0 + place ≡ place = omega arith in
    relocation_at-from rs 0 place bytes lt ∙ ap (relocation_in rs) same

pub place-reads : (v : View) (kept : List (Option KeptRelocations)) (i place : ℕ) (x : Option CellRelocation) → i < length v.sections
    → place < length (section_bytes v i) → ViewKeeps v kept → x ≡ relocation_kept (get_or kept i None) place → x ≡ relocation_at (view_cells v i) place
place-reads v kept i place x lt inside h is =
    is ∙ kept-relocation (view_relocations v i) (is_some (kind_at v i)) (length (section_bytes v i)) place (get_or kept i None) (h.each i lt)
    ∙ sym (cell-relocation (view_relocations v i) (section_bytes v i) place inside)

pub ruleset place_rules = (place-reads)

-- and where its symbol is defined
pub target-reads : (v : View) (kept : List (Option KeptRelocations)) (i place : ℕ) (t : Option (ℕ × ℕ)) → i < length v.sections
    → place < length (section_bytes v i) → ViewKeeps v kept → t ≡ target_in (relocation_kept (get_or kept i None) place)
    → t ≡ target_in (relocation_at (view_cells v i) place)
target-reads v kept i place t lt inside h is = is ∙ ap target_in (place-reads v kept i place (relocation_kept (get_or kept i None) place) lt inside h refl)

pub ruleset target_rules = (target-reads)

pub address-reads : (v : View) (kept : List (Option KeptRelocations)) (i place n number : ℕ) (x : Option Relocation) (f : Field) → i < length v.sections → 0 < n
    → place + n ≤ length (section_bytes v i) → ViewKeeps v kept → number ≡ spelled v.order (section_bytes v i) place n
    → option_map relocation_value x ≡ relocation_kept (get_or kept i None) place → f ≡ address_by (option_map relocation_value x) number
    → f ≡ address_at v i place n
unfolding address_at
address-reads v kept i place n number x f lt some inside h number_is x_is f_is =
    f_is
    ∙ ap (λ (q : Option CellRelocation). address_by q number) (place-reads v kept i place (option_map relocation_value x) lt (omega (arith, some, inside)) h x_is)
    ∙ ap (address_by (relocation_at (view_cells v i) place)) number_is

pub ruleset address_rules = (address-reads)

-- a number
pub value-reads : (v : View) (kept : List (Option KeptRelocations)) (i place n number : ℕ) (x : Option Relocation) (f : Field) → i < length v.sections → 0 < n
    → place + n ≤ length (section_bytes v i) → ViewKeeps v kept → number ≡ spelled v.order (section_bytes v i) place n
    → option_map relocation_value x ≡ relocation_kept (get_or kept i None) place → f ≡ field_by (option_map relocation_value x) n number
    → f ≡ field_at v i place n
unfolding field_at
value-reads v kept i place n number x f lt some inside h number_is x_is f_is =
    f_is
    ∙ ap (λ (q : Option CellRelocation). field_by q n number) (place-reads v kept i place (option_map relocation_value x) lt (omega (arith, some, inside)) h x_is)
    ∙ ap (field_by (relocation_at (view_cells v i) place) n) number_is

pub ruleset value_rules = (value-reads)

-- a relocation that lies on a field only in part
first-ext : (f g : ℕ → Bool) (n : ℕ) → ((i : ℕ) → i < n → f i ≡ g i) → first_below f n ≡ first_below g n
first-ext f g zero same = refl
first-ext f g (suc n) same =
    ap (λ (o : Option ℕ). or_this o n (f n)) (first-ext f g n (λ i lt. same i (omega (arith, lt))))
    ∙ ap (or_this (first_below g n) n) (same n (omega arith))

partly-same : (rs : List PlacedRelocation) (bytes : List ℕ) (place n : ℕ) → place + n ≤ length bytes
    → partly_at (cells_from rs 0 bytes) place n ≡ partly_among rs place n
unfolding partly_at partly_among
partly-same rs bytes place n inside =
    first-ext (λ p. meets_partly place n p (relocation_at (cells_from rs 0 bytes) p)) (λ p. meets_partly place n p (relocation_in rs p)) (place + n)
    (λ p lt. ap (meets_partly place n p) (cell-relocation rs bytes p (omega (arith, lt, inside))))

partly-by : (v : View) (i place n : ℕ) (t : Bool) → is_some (kind_at v i) ≡ t → partly_in v i place n ≡ (if t then partly_at (view_cells v i) place n else None)
unfolding partly_in
partly-by v i place n t is = ap (λ (x : Bool). if x then partly_at (view_cells v i) place n else None) is

if-both : (t : Bool) (x y : Option ℕ) → x ≡ y → (if t then x else None) ≡ (if t then y else None)
if-both t x y is = ap (λ (o : Option ℕ). if t then o else None) is

kept-partly : (v : View) (i place n : ℕ) (k : KeptRelocations) → place + n ≤ length (section_bytes v i)
    → Keeps (view_relocations v i) (is_some (kind_at v i)) (length (section_bytes v i)) k → partly_kept k place n ≡ partly_in v i place n
kept-partly v i place n k inside keeps =
    if-both k.read (partly_among (relocations_in k.source) place n) (partly_at (view_cells v i) place n)
    (ap (λ (l : List PlacedRelocation). partly_among l place n) keeps.relocations ∙ sym (partly-same (view_relocations v i) (section_bytes v i) place n inside))
    ∙ sym (partly-by v i place n k.read (sym keeps.read_is))

none-partly : (v : View) (i place n : ℕ) → view_relocations v i ≡ [] → partly_in v i place n ≡ None
none-partly v i place n none = partly-by v i place n (is_some (kind_at v i)) refl ∙ by_kind (is_some (kind_at v i))
  where
    plain : IsPlain (view_cells v i)
    plain = subst IsPlain (sym (ap (λ (l : List PlacedRelocation). cells_from l 0 (section_bytes v i)) none ∙ cells_from-none 0 (section_bytes v i)))
        (plain_cells-plain (section_bytes v i))

    by_kind : (t : Bool) → (if t then partly_at (view_cells v i) place n else None) ≡ None
    by_kind true = partly-plain (view_cells v i) place n plain
    by_kind false = refl

-- a field
field-is : (v : View) (i place n number : ℕ) (o : Option KeptRelocations) → 0 < n → place + n ≤ length (section_bytes v i)
    → KeepsAll (view_relocations v i) (is_some (kind_at v i)) (length (section_bytes v i)) o → number ≡ spelled v.order (section_bytes v i) place n
    → field_kept o i place n number ≡ field_unless (partly_in v i place n) i (field_at v i place n)
unfolding field_at
field-is v i place n number None some inside none number_is =
    let at_place : relocation_at (view_cells v i) place ≡ None =
    cell-relocation (view_relocations v i) (section_bytes v i) place (omega (arith, some, inside))
    ∙ ap (λ (l : List PlacedRelocation). relocation_in l place) none in
    ap (λ (k : ℕ). Ok (Num k)) number_is
    ∙ ap (λ (q : Option CellRelocation). Ok (field_by q n (spelled v.order (section_bytes v i) place n))) (sym at_place)
    ∙ ap (λ (q : Option ℕ). field_unless q i (field_by (relocation_at (view_cells v i) place) n (spelled v.order (section_bytes v i) place n)))
    (sym (none-partly v i place n none))
field-is v i place n number (Some k) some inside keeps number_is =
    ap (λ (q : Option ℕ). field_unless q i (field_by (relocation_in (relocations_in k.source) place) n number)) (kept-partly v i place n k inside keeps)
    ∙ ap (λ (q : Option CellRelocation). field_unless (partly_in v i place n) i (field_by q n number))
    (ap (λ (l : List PlacedRelocation). relocation_in l place) keeps.relocations
    ∙ sym (cell-relocation (view_relocations v i) (section_bytes v i) place (omega (arith, some, inside))))
    ∙ ap (λ (m : ℕ). field_unless (partly_in v i place n) i (field_by (relocation_at (view_cells v i) place) n m)) number_is

pub field-reads : (v : View) (kept : List (Option KeptRelocations)) (i place n number : ℕ) (r : Result Field Refusal) → i < length v.sections → 0 < n
    → place + n ≤ length (section_bytes v i) → ViewKeeps v kept → number ≡ spelled v.order (section_bytes v i) place n
    → r ≡ field_kept (get_or kept i None) i place n number → r ≡ field_read v i place n
unfolding field_read
field-reads v kept i place n number r lt some inside h number_is is =
    is ∙ field-is v i place n number (get_or kept i None) some inside (h.each i lt) number_is

-- that reads as a number reads as one of its bytes
by-fits : (o : Option CellRelocation) (n number : ℕ) → number < 256 ^ n → FieldFits n (field_by o n number)
by-fits None n number lt = lt
by-fits (Some r) n number lt = by_size r.size
  where
    by_target : (t : Option (ℕ × ℕ)) → FieldFits n (targeted t r n number)
    by_target None = tt
    by_target (Some t) = tt

    by_test : (x : Bool) → FieldFits n (if x then targeted r.target r n number else symbol_field r number)
    by_test true = by_target r.target
    by_test false = tt

    by_size : (s : Option ℕ) → FieldFits n (relocated s r n number)
    by_size None = tt
    by_size (Some k) = by_test (k == n)

unless-fits : (q : Option ℕ) (section n : ℕ) (f : Field) → FieldFits n f → IfOk (field_unless q section f) (FieldFits n)
unless-fits None section n f h = h
unless-fits (Some p) section n f h = tt

kept-fits : (o : Option KeptRelocations) (section place n number : ℕ) → number < 256 ^ n → IfOk (field_kept o section place n number) (FieldFits n)
kept-fits None section place n number lt = lt
kept-fits (Some k) section place n number lt =
    unless-fits (partly_kept k place n) section n (field_by (relocation_in (relocations_in k.source) place) n number)
    (by-fits (relocation_in (relocations_in k.source) place) n number lt)

pub field-fits : (o : Option KeptRelocations) (section place n number : ℕ) (r : Result Field Refusal) → number < 256 ^ n
    → r ≡ field_kept o section place n number → IfOk r (FieldFits n)
field-fits o section place n number r lt is = subst (λ (x : Result Field Refusal). IfOk x (FieldFits n)) (sym is) (kept-fits o section place n number lt)

pub ruleset field_rules = (field-reads, field-fits)

-- the field of an offset that reads
pub offset-fits : (n : ℕ) (f : Field) (r : Result Field Refusal) → Ok f ≡ r → IfOk r (FieldFits n) → FieldFits n f
offset-fits n f r is h = subst (λ (x : Result Field Refusal). IfOk x (FieldFits n)) (sym is) h

pub ruleset offset_rules = (read-refused, read-nowhere, read-placed, offset-fits)

-- the next place
past-none : (cells : List Cell) (p : ℕ) → length cells ≤ p → relocation_at cells p ≡ None
past-none cells p le = ap first_relocation (drop_all p cells le)

at-none : (rs : List PlacedRelocation) (bytes : List ℕ) (p : ℕ) → relocation_in rs p ≡ None → relocation_at (cells_from rs 0 bytes) p ≡ None
at-none rs bytes p none = elim (cases_lt p (length bytes)) [
  | inl lt ↦ cell-relocation rs bytes p lt ∙ none
  | inr le ↦ let size = length-cells_from rs 0 bytes in past-none (cells_from rs 0 bytes) p (omega (arith, le, size))
]

-- none is listed, so none begins
unlisted : (g : RelocationSource) (list : List PlacedRecord) (p : ℕ) → Lists g list → ((k : ℕ) → k < length list → place_at list k ≡ p → ⊥)
    → relocation_in (relocations_in g) p ≡ None
unlisted g list p h none = by_found (relocation_in (relocations_in g) p) refl
  where
    by_found : (o : Option CellRelocation) → relocation_in (relocations_in g) p ≡ o → o ≡ None
    by_found None e = refl
    by_found (Some r) e = let item = some-number g list p r h e in absurd (none item.0 item.1.0 item.1.1)

none-from : (v : View) (i from : ℕ) (k : KeptRelocations) → Keeps (view_relocations v i) true (length (section_bytes v i)) k → NoneFrom k.places from
    → HasNoNext v i from
none-from v i from k keeps next = record {
  none = λ p le.
      let missing = unlisted k.source k.places p (keeps.kept.lists keeps.read_is)
      (λ n lt here. let before = next.before n lt in omega (arith, before, here, le)) in
      at-none (view_relocations v i) (section_bytes v i) p (ap (λ (l : List PlacedRelocation). relocation_in l p) (sym keeps.relocations) ∙ missing);
}

some-from : (v : View) (i from place : ℕ) (k : KeptRelocations) → Keeps (view_relocations v i) true (length (section_bytes v i)) k
    → IsNextAmong k.places from place → IsNextPlace v i from place
some-from v i from place k keeps next =
    let lists = keeps.kept.lists keeps.read_is in
    let found = item-relocation k.source k.places next.number lists keeps.kept.rise next.inside in
    let below = keeps.within.below next.number next.inside in
    let here = next.is in
    let begins = cell-relocation (view_relocations v i) (section_bytes v i) place (omega (arith, below, here))
    ∙ ap (λ (l : List PlacedRelocation). relocation_in l place) (sym keeps.relocations)
    ∙ ap (λ (p : ℕ). relocation_in (relocations_in k.source) p) (sym here) ∙ found in
    record {
      from_there = next.from_there;
      begins = ap is_some begins;
      first = λ p le lt.
          let missing = unlisted k.source k.places p lists (λ n inside own. elim (cases_lt n next.number) [
            | inl under ↦ let before = next.before n under in omega (arith, before, own, le)
            | inr over ↦ elim (cases_lt next.number n) [
              | inl more ↦ let rise = keeps.kept.rise.rise next.number n more inside in omega (arith, rise, own, here, lt)
              | inr less ↦
                  let same : n ≡ next.number = omega (arith, over, less) in
                  let place_is : place_at k.places n ≡ place = ap (place_at k.places) same ∙ here in
                  omega (arith, place_is, own, lt)
            ]
          ]) in
          at-none (view_relocations v i) (section_bytes v i) p (ap (λ (l : List PlacedRelocation). relocation_in l p) (sym keeps.relocations) ∙ missing);
    }

next-by : (v : View) (i from : ℕ) (o : Option KeptRelocations) (x : Option ℕ) → KeepsAll (view_relocations v i) true (length (section_bytes v i)) o
    → NextKept o from x → MatchOption x (HasNoNext v i from) (IsNextPlace v i from)
next-by v i from None x none is = subst (λ (y : Option ℕ). MatchOption y (HasNoNext v i from) (IsNextPlace v i from)) (sym is) (record {
  none = λ p le. at-none (view_relocations v i) (section_bytes v i) p (ap (λ (l : List PlacedRelocation). relocation_in l p) none);
})
next-by v i from (Some k) None keeps next = none-from v i from k keeps next
next-by v i from (Some k) (Some place) keeps next = some-from v i from place k keeps next

pub next-reads : (v : View) (kept : List (Option KeptRelocations)) (i from : ℕ) (x : Option ℕ) → i < length v.sections → is_some (kind_at v i) ≡ true
    → ViewKeeps v kept → NextKept (get_or kept i None) from x → MatchOption x (HasNoNext v i from) (IsNextPlace v i from)
next-reads v kept i from x lt read h next =
    next-by v i from (get_or kept i None) x
    (subst (λ (t : Bool). KeepsAll (view_relocations v i) t (length (section_bytes v i)) (get_or kept i None)) read (h.each i lt)) next

-- it lies in the section
begins-within : (v : View) (i place : ℕ) → is_some (relocation_at (view_cells v i) place) ≡ true → place < length (section_bytes v i)
begins-within v i place begins = elim (cases_lt place (length (section_bytes v i))) [
  | inl lt ↦ lt
  | inr le ↦
      let size = length-cells_from (view_relocations v i) 0 (section_bytes v i) in
      let none : relocation_at (view_cells v i) place ≡ None = past-none (view_cells v i) place (omega (arith, le, size)) in
      absurd cc
]

next-within : (v : View) (i from : ℕ) (x : Option ℕ) → MatchOption x (HasNoNext v i from) (IsNextPlace v i from)
    → IfSome x (λ p. p < length (section_bytes v i))
next-within v i from None next = tt
next-within v i from (Some place) next = begins-within v i place next.begins

below : (x : Option ℕ) (m n : ℕ) → m ≤ n → IfSome x (λ p. p < m) → IfSome x (λ p. p < n)
below None m n le lt = tt
below (Some p) m n le lt = omega (arith, le, lt)

pub next-small : (v : View) (kept : List (Option KeptRelocations)) (bytes : List ℕ) (i from m : ℕ) (x : Option ℕ) → i < length v.sections
    → is_some (kind_at v i) ≡ true → ViewKeeps v kept → NextKept (get_or kept i None) from x → bytes ≡ section_bytes v i → length bytes ≤ m
    → IfSome x (λ p. p < m)
next-small v kept bytes i from m x lt read h next is small =
    let size : length bytes ≡ length (section_bytes v i) = ap length is in
    below x (length (section_bytes v i)) m (omega (arith, size, small)) (next-within v i from x (next-reads v kept i from x lt read h next))

-- and none begins behind it
pub next-behind : (v : View) (bytes : List ℕ) (i from : ℕ) → bytes ≡ section_bytes v i → length bytes ≤ from → HasNoNext v i from
next-behind v bytes i from is behind = record {
  none = λ p le.
      let size = length-cells_from (view_relocations v i) 0 (section_bytes v i) in
      let same : length bytes ≡ length (section_bytes v i) = ap length is in
      past-none (view_cells v i) p (omega (arith, le, size, same, behind));
}

pub ruleset next_rules = (next-reads, next-small, next-behind)
