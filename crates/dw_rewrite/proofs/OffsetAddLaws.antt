-- Fields of a section that are added with their new offsets, one by one.
use Rattle.std.proofs.Common.{Bool, true, false, ◌≡◌, ◌≢◌, ◌⊎◌, inl, inr, ℕ, suc, ◌+◌, ◌<◌, ◌≤◌, List, [], ◌∷◌, ◌++◌, length, get_or, drop, Option, Some, None, refl, sym, ap, ◌∙◌, subst, arith, append_assoc, append-nil}
use Rattle.std.specs.Bool.{OnFalse, OnTrue}
use Rattle.std.proofs.lemmas.Bool.{OnFalse_at, OnTrue_at}
use Rattle.std.proofs.lemmas.List.{drop_all}
use Rattle.dw_base.specs.FileViews.{View}
use Rattle.dw_base.specs.Refusals.{Blames, at}
use Rattle.dw_base.specs.RelocationFields.{relocation_at}
use Rattle.dw_base.specs.declared.debug_sections.DebugSection.TheVariants.{Str, LineStr, Line}
use Rattle.dw_base.specs.declared.fault.Fault.{Fault}
use Rattle.dw_base.specs.declared.fault.Fault.TheVariants.{NoMemory, Refused}
use Rattle.dw_base.specs.declared.fault.Kind.TheVariants.{TooWide}
use Rattle.dw_offsets.specs.declared.fields.OffsetField.{OffsetField}
use Rattle.dw_base.specs.declared.texts.TextSection.TheVariants.{InStr, InLineStr}
use Rattle.dw_meaning.specs.NewAddends.{Makes, Misses}
use Rattle.dw_patch.specs.RecordMoves.{patch_for}
use Rattle.elf_layout.specs.declared.patch.Patch.{Patch}
use Rattle.dw_unit_fields.specs.Fields.{AllApart, AreApart, IsApartFrom}
use Rattle.dw_unit_fields.specs.SectionFields.{SectionFields, fields_into}
use Rattle.dw_unit_fields.specs.ViewFields.{HasOffsets, HasPlaces}
use Rattle.dw_rewrite.specs.Changes.{FieldSource, IsFieldOf, offset_at}
use Rattle.dw_rewrite.specs.NewOffsets.{AreAbsent, BeginsAlone, NoneTogether, offset_by, offsets_in, offsets_known}
use Rattle.dw_rewrite.specs.NewTables.{source_in, starts_in}
use Rattle.dw_rewrite.specs.OffsetAddends.{FieldMakes, FieldMisses, FieldsMake, FieldsMiss, SectionMakes, SectionMisses}
use Rattle.dw_rewrite.specs.OffsetAddends.FieldMisses.{misses_new}
use Rattle.dw_rewrite.specs.OffsetAddends.FieldsMiss.{one_field}
use Rattle.dw_rewrite.specs.OffsetAddends.SectionMisses.{in_str_field, in_line_str_field, in_start_field}
use Rattle.dw_unit_fields.proofs.FieldOffsetLaws.{offset-some}
use Rattle.dw_rewrite.proofs.ChangedLaws.{field_next, field_there}
use Rattle.dw_rewrite.proofs.SectionBytesLaws.{line_str-fields, places-there, start-fields, str-fields}
use Rattle.dw_rewrite.proofs.SaidLaws.{Sized, patch-further, patch-skip}

-- nothing is added, or one field is
pub none-added : (f : OffsetField) (old : List Patch) → old ≡ old ++ offset_by f None
none-added f old = sym (append-nil old)

pub one-added : (f : OffsetField) (old new : List Patch) (place : ℕ) → new ≡ old ++ record { at = f.at; size = f.size; value = place } ∷ [] → new ≡ old ++ offset_by f (Some place)
one-added f old new place is = is

-- it is a field of the section, whose addend makes the offset or not
pub field-sized : (s : FieldSource) (f : OffsetField) → IsFieldOf s f → (f.size ≡ 4) ⊎ (f.size ≡ 8)
field-sized s f h = h.sized

pub field-inside : (s : FieldSource) (f : OffsetField) → IsFieldOf s f → f.at + f.size ≤ length s.cells
field-inside s f h = h.inside

pub one-makes : (s : FieldSource) (f : OffsetField) (new : ℕ) (t : Bool) → OnTrue t (Makes (relocation_at s.cells f.at) f.size new) → t ≡ true → FieldMakes s f (Some new)
one-makes s f new t h is = OnTrue_at is h

pub one-misses : (s : FieldSource) (section : ℕ) (f : OffsetField) (new : ℕ) (t : Bool) → OnFalse t (Misses (relocation_at s.cells f.at) f.size new) → t ≡ false
    → FieldMisses s section f (Some new) (at TooWide section f.at)
one-misses s section f new t h is = misses_new new refl (OnFalse_at is h)

pub ruleset known_rules = (none-added, one-added, field-sized, field-inside, one-makes, one-misses)

-- the other fields stay absent
absent-one : (list : List Patch) (f : OffsetField) (known : Option ℕ) (fs : List OffsetField) → AreAbsent list fs → BeginsAlone f fs → AreAbsent (list ++ offset_by f known) fs
absent-one list f known [] h alone = tt
absent-one list f known (g ∷ gs) h alone = (
  patch-skip list (offset_by f known) g.at h.0 ∙ by known,
  absent-one list f known gs h.1 alone.1,
)
  where
    by : (o : Option ℕ) → patch_for (offset_by f o) g.at ≡ None
    by None = refl
    by (Some n) = patch-further (record { at = f.at; size = f.size; value = n }) [] g.at (λ e. alone.0 (sym e))

-- and when all of others are added
alone-rest : (f : OffsetField) (fs gs : List OffsetField) → BeginsAlone f (fs ++ gs) → BeginsAlone f gs
alone-rest f [] gs h = h
alone-rest f (x ∷ xs) gs h = alone-rest f xs gs h.1

pub absent-behind : (s : FieldSource) (known : Bool → ℕ → Option ℕ) (list : List Patch) (fs gs : List OffsetField) → NoneTogether (fs ++ gs) → AreAbsent list gs
    → AreAbsent (list ++ offsets_known s known fs) gs
absent-behind s known list [] gs together h = subst (λ (l : List Patch). AreAbsent l gs) (sym (append-nil list)) h
absent-behind s known list (f ∷ fs) gs together h =
    subst (λ (l : List Patch). AreAbsent l gs) (append_assoc list (offset_by f (known f.path (offset_at s f))) (offsets_known s known fs))
    (absent-behind s known (list ++ offset_by f (known f.path (offset_at s f))) fs gs together.1
    (absent-one list f (known f.path (offset_at s f)) gs h (alone-rest f fs gs together.0)))

pub absent-first : (fs : List OffsetField) → AreAbsent [] fs
absent-first [] = tt
absent-first (f ∷ fs) = (refl, absent-first fs)

-- fields of which no two have a byte in common don't begin together
alone-apart : (f : OffsetField) (fs : List OffsetField) → 0 < f.size → Sized fs → IsApartFrom f fs → BeginsAlone f fs
alone-apart f [] some sized h = tt
alone-apart f (g ∷ gs) some sized h = (by h.0, alone-apart f gs some sized.1 h.1)
  where
    more : 0 < g.size
    more = sized.0

    by : AreApart f g → g.at ≢ f.at
    by (inl before) e = omega (arith, before, e, more)
    by (inr behind) e = omega (arith, behind, e, some)

pub together-apart : (fs : List OffsetField) → Sized fs → AllApart fs → NoneTogether fs
together-apart [] sized h = tt
together-apart (f ∷ fs) sized h = (alone-apart f fs sized.0 sized.1 h.0, together-apart fs sized.1 h.1)

-- parts of them
alone-first : (f : OffsetField) (fs gs : List OffsetField) → BeginsAlone f (fs ++ gs) → BeginsAlone f fs
alone-first f [] gs h = tt
alone-first f (x ∷ xs) gs h = (h.0, alone-first f xs gs h.1)

pub together-front : (fs gs : List OffsetField) → NoneTogether (fs ++ gs) → NoneTogether fs
together-front [] gs h = tt
together-front (f ∷ fs) gs h = (alone-first f fs gs h.0, together-front fs gs h.1)

pub together-behind : (fs gs : List OffsetField) → NoneTogether (fs ++ gs) → NoneTogether gs
together-behind [] gs h = h
together-behind (f ∷ fs) gs h = together-behind fs gs h.1

alone-without : (f : OffsetField) (fs gs hs : List OffsetField) → BeginsAlone f (fs ++ (gs ++ hs)) → BeginsAlone f (fs ++ hs)
alone-without f [] gs hs h = alone-rest f gs hs h
alone-without f (x ∷ xs) gs hs h = (h.0, alone-without f xs gs hs h.1)

together-skip : (fs gs hs : List OffsetField) → NoneTogether (fs ++ (gs ++ hs)) → NoneTogether (fs ++ hs)
together-skip [] gs hs h = together-behind gs hs h
together-skip (f ∷ fs) gs hs h = (alone-without f fs gs hs h.0, together-skip fs gs hs h.1)

-- each field has bytes
sized-each : (fs : List OffsetField) → ((k : ℕ) (d : OffsetField) → k < length fs → ((get_or fs k d).size ≡ 4) ⊎ ((get_or fs k d).size ≡ 8)) → Sized fs
sized-each [] each = tt
sized-each (f ∷ fs) each = (offset-some f.size (each 0 f (omega arith)), sized-each fs (λ k d lt. each (suc k) d (omega (arith, lt))))

sized-append : (fs gs : List OffsetField) → Sized fs → Sized gs → Sized (fs ++ gs)
sized-append [] gs h k = k
sized-append (f ∷ fs) gs h k = (h.0, sized-append fs gs h.1 k)

-- of a section
pub section-sized : (v : View) (u : SectionFields) → HasOffsets v u → HasPlaces v u → Sized (fields_into u Str) × Sized (fields_into u LineStr) × Sized (fields_into u Line)
section-sized v u h p = (
  sized-each (fields_into u Str) (λ k d lt. (h.str.each k d lt).sized),
  sized-each (fields_into u LineStr) (λ k d lt. (h.line_str.each k d lt).sized),
  sized-each (fields_into u Line) (λ k d lt. (p.starts.each k d lt).sized),
)

pub section-together : (v : View) (u : SectionFields) → HasOffsets v u → HasPlaces v u → NoneTogether (fields_into u Str ++ (fields_into u LineStr ++ fields_into u Line))
section-together v u h p =
    let sized = section-sized v u h p in
    together-apart (fields_into u Str ++ (fields_into u LineStr ++ fields_into u Line))
    (sized-append (fields_into u Str) (fields_into u LineStr ++ fields_into u Line) sized.0 (sized-append (fields_into u LineStr) (fields_into u Line) sized.1 sized.2)) p.apart

-- its three lists, one behind another
pub first-together : (v : View) (u : SectionFields) → HasOffsets v u → HasPlaces v u → NoneTogether (fields_into u Str)
first-together v u h p = together-front (fields_into u Str) (fields_into u LineStr ++ fields_into u Line) (section-together v u h p)

pub second-together : (v : View) (u : SectionFields) → HasOffsets v u → HasPlaces v u → NoneTogether (fields_into u LineStr)
second-together v u h p = together-front (fields_into u LineStr) (fields_into u Line) (together-behind (fields_into u Str) (fields_into u LineStr ++ fields_into u Line) (section-together v u h p))

pub third-together : (v : View) (u : SectionFields) → HasOffsets v u → HasPlaces v u → NoneTogether (fields_into u Line)
third-together v u h p = together-behind (fields_into u LineStr) (fields_into u Line) (together-behind (fields_into u Str) (fields_into u LineStr ++ fields_into u Line) (section-together v u h p))

pub first-absent : (u : SectionFields) (none : List Patch) → none ≡ [] → AreAbsent none (fields_into u Str)
first-absent u none is = subst (λ (l : List Patch). AreAbsent l (fields_into u Str)) (sym is) (absent-first (fields_into u Str))

pub second-absent : (v : View) (u : SectionFields) (ks : Bool → ℕ → Option ℕ) (none one : List Patch) → HasOffsets v u → HasPlaces v u → none ≡ []
    → one ≡ none ++ offsets_known (source_in v u.number InStr) ks (fields_into u Str) → AreAbsent one (fields_into u LineStr)
second-absent v u ks none one h p is e =
    subst (λ (l : List Patch). AreAbsent l (fields_into u LineStr)) (sym (e ∙ ap (λ (l : List Patch). l ++ offsets_known (source_in v u.number InStr) ks (fields_into u Str)) is))
    (absent-behind (source_in v u.number InStr) ks [] (fields_into u Str) (fields_into u LineStr)
    (together-front (fields_into u Str ++ fields_into u LineStr) (fields_into u Line) (subst NoneTogether (sym (append_assoc (fields_into u Str) (fields_into u LineStr) (fields_into u Line))) (section-together v u h p))) (absent-first (fields_into u LineStr)))

pub third-absent : (v : View) (u : SectionFields) (ks kl : Bool → ℕ → Option ℕ) (none one two : List Patch) → HasOffsets v u → HasPlaces v u → none ≡ []
    → one ≡ none ++ offsets_known (source_in v u.number InStr) ks (fields_into u Str) → two ≡ one ++ offsets_known (source_in v u.number InLineStr) kl (fields_into u LineStr) → AreAbsent two (fields_into u Line)
third-absent v u ks kl none one two h p is e f =
    let all = section-together v u h p in
    subst (λ (l : List Patch). AreAbsent l (fields_into u Line))
    (sym (f ∙ ap (λ (l : List Patch). l ++ offsets_known (source_in v u.number InLineStr) kl (fields_into u LineStr))
    (e ∙ ap (λ (l : List Patch). l ++ offsets_known (source_in v u.number InStr) ks (fields_into u Str)) is)))
    (absent-behind (source_in v u.number InLineStr) kl (offsets_known (source_in v u.number InStr) ks (fields_into u Str)) (fields_into u LineStr) (fields_into u Line)
    (together-behind (fields_into u Str) (fields_into u LineStr ++ fields_into u Line) all)
    (absent-behind (source_in v u.number InStr) ks [] (fields_into u Str) (fields_into u Line) (together-skip (fields_into u Str) (fields_into u LineStr) (fields_into u Line) all) (absent-first (fields_into u Line))))

pub all-added : (v : View) (u : SectionFields) (ks kl kt : Bool → ℕ → Option ℕ) (none one two all : List Patch) → none ≡ [] → one ≡ none ++ offsets_known (source_in v u.number InStr) ks (fields_into u Str)
    → two ≡ one ++ offsets_known (source_in v u.number InLineStr) kl (fields_into u LineStr) → all ≡ two ++ offsets_known (starts_in v u.number) kt (fields_into u Line) → all ≡ offsets_in v ks kl kt u
all-added v u ks kl kt none one two all is e f g =
    g ∙ ap (λ (l : List Patch). l ++ offsets_known (starts_in v u.number) kt (fields_into u Line))
    (f ∙ ap (λ (l : List Patch). l ++ offsets_known (source_in v u.number InLineStr) kl (fields_into u LineStr))
    (e ∙ ap (λ (l : List Patch). l ++ offsets_known (source_in v u.number InStr) ks (fields_into u Str)) is))
    ∙ append_assoc (offsets_known (source_in v u.number InStr) ks (fields_into u Str)) (offsets_known (source_in v u.number InLineStr) kl (fields_into u LineStr))
    (offsets_known (starts_in v u.number) kt (fields_into u Line))

-- whether their addends make them: where the code names source and fields as it has them,
pub fields-own : (s t : FieldSource) (known : Bool → ℕ → Option ℕ) (fs gs : List OffsetField) → s ≡ t → fs ≡ gs → FieldsMake s known fs → FieldsMake t known gs
fields-own s t known fs gs source fields h = subst (FieldsMake t known) fields (subst (λ (x : FieldSource). FieldsMake x known fs) source h)

pub fault-own : (s t : FieldSource) (known : Bool → ℕ → Option ℕ) (n k : ℕ) (fs gs : List OffsetField) (f : Fault) → s ≡ t → n ≡ k → fs ≡ gs → Blames (FieldsMiss s known n fs) f
    → Blames (FieldsMiss t known k gs) f
fault-own s t known n k fs gs f source number fields b =
    subst (λ (xs : List OffsetField). Blames (FieldsMiss t known k xs) f) fields
    (subst (λ (i : ℕ). Blames (FieldsMiss t known i fs) f) number (subst (λ (x : FieldSource). Blames (FieldsMiss x known n fs) f) source b))

-- and of the section
pub section-makes : (v : View) (u : SectionFields) (ks kl kt : Bool → ℕ → Option ℕ) → FieldsMake (source_in v u.number InStr) ks (fields_into u Str) → FieldsMake (source_in v u.number InLineStr) kl (fields_into u LineStr)
    → FieldsMake (starts_in v u.number) kt (fields_into u Line) → SectionMakes v ks kl kt u
section-makes v u ks kl kt s l t = record { str = s; line_str = l; starts = t }

pub str-fault : (v : View) (u : SectionFields) (ks kl kt : Bool → ℕ → Option ℕ) (f : Fault) → Blames (FieldsMiss (source_in v u.number InStr) ks u.number (fields_into u Str)) f
    → Blames (SectionMisses v ks kl kt u) f
str-fault v u ks kl kt NoMemory b = tt
str-fault v u ks kl kt (Refused r) b = in_str_field b

pub line_str-fault : (v : View) (u : SectionFields) (ks kl kt : Bool → ℕ → Option ℕ) (f : Fault) → Blames (FieldsMiss (source_in v u.number InLineStr) kl u.number (fields_into u LineStr)) f
    → Blames (SectionMisses v ks kl kt u) f
line_str-fault v u ks kl kt NoMemory b = tt
line_str-fault v u ks kl kt (Refused r) b = in_line_str_field b

pub starts-fault : (v : View) (u : SectionFields) (ks kl kt : Bool → ℕ → Option ℕ) (f : Fault) → Blames (FieldsMiss (starts_in v u.number) kt u.number (fields_into u Line)) f
    → Blames (SectionMisses v ks kl kt u) f
starts-fault v u ks kl kt NoMemory b = tt
starts-fault v u ks kl kt (Refused r) b = in_start_field b

pub ruleset section_rules = (places-there, str-fields, line_str-fields, start-fields, first-together, second-together, third-together, first-absent, second-absent, third-absent, all-added, section-makes)

-- the fields up to one are added, and their addends make the offsets
pub record AddPass (s : FieldSource) (known : Bool → ℕ → Option ℕ) (fields : List OffsetField) (old now : List Patch) (i : ℕ) : Type 0 where
  pub list : now ++ offsets_known s known (drop i fields) ≡ old ++ offsets_known s known fields
  pub absent : AreAbsent now (drop i fields)
  pub together : NoneTogether (drop i fields)
  pub made : FieldsMake s known (drop i fields) → FieldsMake s known fields

pub pass-start : (s : FieldSource) (known : Bool → ℕ → Option ℕ) (fields : List OffsetField) (old : List Patch) → NoneTogether fields → AreAbsent old fields → AddPass s known fields old old 0
pass-start s known fields old together absent = record { list = refl; absent = absent; together = together; made = λ h. h }

pub pass-absent : (s : FieldSource) (known : Bool → ℕ → Option ℕ) (fields : List OffsetField) (old now : List Patch) (i : ℕ) (f : OffsetField) → AddPass s known fields old now i
    → i < length fields → f ≡ get_or fields i f → patch_for now f.at ≡ None
pass-absent s known fields old now i f p lt is =
    let absent : AreAbsent now (f ∷ drop (i + 1) fields) = subst (AreAbsent now) (field_next fields i f lt is) p.absent in
    absent.0

pub pass-more : (s : FieldSource) (known : Bool → ℕ → Option ℕ) (fields : List OffsetField) (old now new : List Patch) (i : ℕ) (f : OffsetField) (k : Option ℕ)
    → AddPass s known fields old now i → i < length fields → f ≡ get_or fields i f → k ≡ known f.path (offset_at s f) → new ≡ now ++ offset_by f k → FieldMakes s f k
    → AddPass s known fields old new (i + 1)
pass-more s known fields old now new i f k p lt is known_is e makes =
    let cut : drop i fields ≡ f ∷ drop (i + 1) fields = field_next fields i f lt is in
    let absent : AreAbsent now (f ∷ drop (i + 1) fields) = subst (AreAbsent now) cut p.absent in
    let together : NoneTogether (f ∷ drop (i + 1) fields) = subst NoneTogether cut p.together in
    let added : new ≡ now ++ offset_by f (known f.path (offset_at s f)) = e ∙ ap (λ (x : Option ℕ). now ++ offset_by f x) known_is in
    let own : FieldMakes s f (known f.path (offset_at s f)) = subst (FieldMakes s f) known_is makes in
    record {
      list = ap (λ (l : List Patch). l ++ offsets_known s known (drop (i + 1) fields)) added
          ∙ append_assoc now (offset_by f (known f.path (offset_at s f))) (offsets_known s known (drop (i + 1) fields))
          ∙ sym (ap (λ (fs : List OffsetField). now ++ offsets_known s known fs) cut) ∙ p.list;
      absent = subst (λ (l : List Patch). AreAbsent l (drop (i + 1) fields)) (sym added)
          (absent-one now f (known f.path (offset_at s f)) (drop (i + 1) fields) absent.1 together.0);
      together = together.1;
      made = λ h. p.made (subst (FieldsMake s known) (sym cut) (own, h));
    }

pub pass-end : (s : FieldSource) (known : Bool → ℕ → Option ℕ) (fields : List OffsetField) (old now : List Patch) (i : ℕ) → AddPass s known fields old now i → length fields ≤ i
    → now ≡ old ++ offsets_known s known fields
pass-end s known fields old now i p end =
    sym (append-nil now) ∙ sym (ap (λ (fs : List OffsetField). now ++ offsets_known s known fs) (drop_all i fields end)) ∙ p.list

pub pass-made : (s : FieldSource) (known : Bool → ℕ → Option ℕ) (fields : List OffsetField) (old now : List Patch) (i : ℕ) → AddPass s known fields old now i → length fields ≤ i
    → FieldsMake s known fields
pass-made s known fields old now i p end = p.made (subst (FieldsMake s known) (sym (drop_all i fields end)) tt)

-- the fault of one of them
pub pass-fault : (s : FieldSource) (known : Bool → ℕ → Option ℕ) (section : ℕ) (fields : List OffsetField) (i : ℕ) (f : OffsetField) (k : Option ℕ) (fault : Fault) → i < length fields
    → f ≡ get_or fields i f → k ≡ known f.path (offset_at s f) → Blames (FieldMisses s section f k) fault → Blames (FieldsMiss s known section fields) fault
pass-fault s known section fields i f k NoMemory lt is known_is b = tt
pass-fault s known section fields i f k (Refused r) lt is known_is b =
    one_field i f lt is (subst (λ (x : Option ℕ). FieldMisses s section f x r) known_is b)

pub ruleset field_rules = (field_there, pass-start)

-- the section with its records
pub ruleset body_rules = (none-added)
