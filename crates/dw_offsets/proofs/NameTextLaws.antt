-- Laws of the string offsets of a name table: each names a text, or is refused at its field.
use Rattle.std.proofs.Common.{inl, inr, Bool, true, false, ◌≡◌, ◌≢◌, ℕ, ◌+◌, ◌*◌, ◌<◌, ◌≤◌, nat_lt, ◌==◌, if◌then◌else◌, ℤ, List, [], length, Option, Some, None, refl, sym, ap, ◌∙◌, subst, arith}
use Rattle.std.specs.Prelude.{Ok, Err}
use Rattle.std.proofs.lemmas.Bool.{cases_lt, eq-eqb, ne_eqb}
use Rattle.std.proofs.lemmas.Bool.Decides.{nat_tests}
use Rattle.std.proofs.lemmas.List.{drop_all}
use Rattle.dw_base.specs.Cells.{Located, offset_into}
use Rattle.dw_base.specs.DebugSections.{name_of}
use Rattle.dw_base.specs.FileViews.{View, field_at, section_bytes, section_named}
use Rattle.dw_base.specs.Forms.{width_size}
use Rattle.dw_base.specs.Refusals.{at}
use Rattle.dw_base.specs.Texts.{ends_in, has_nul, IsNulEnd}
use Rattle.dw_base.specs.ViewData.{located, located_at}
use Rattle.dw_base.specs.declared.debug_sections.DebugSection.TheVariants.{Str}
use Rattle.dw_base.specs.declared.fault.Kind.TheVariants.{StringOffset}
use Rattle.dw_base.specs.declared.fault.Refusal.{Refusal}
use Rattle.dw_base.specs.declared.shared.Order.{Order}
use Rattle.dw_base.specs.declared.shared.Width.{Width}
use Rattle.dw_base.specs.declared.shared.Width.TheVariants.{W32, W64}
use Rattle.dw_base.specs.declared.view_fields.Field.{Field}
use Rattle.dw_base.specs.declared.view_fields.Field.TheVariants.{Num, Into, Sym}
use Rattle.dw_base.specs.NameTables.{texts_in, names_text, string_place, NamesTexts, IsNameTable, IsNamedTable}
use Rattle.dw_offsets.specs.TextEnds.{IsTexts}
use Rattle.dw_base.specs.NameOffsets.{OffsetsRead, no_offset, TextRefuses, names_none, reads_none, TableRefuses, table_fails, offset_fails}
use Rattle.dw_base.specs.ViewOffsets.{offset_read}
use Rattle.dw_base.proofs.ViewOffsetLaws.{offset-is}
use Rattle.dw_base.specs.NameTableFails.{TableFails, no_text, table, texts}
use Rattle.dw_base.specs.declared.name_tables.NameTable.{NameTable}
use Rattle.dw_offsets.specs.declared.name_texts.Texts.{Texts}

-- the texts of a view
texts-here : (v : View) (o : Option ℕ) → o ≡ section_named v (name_of Str) → texts_in v ≡ located_at v o
unfolding located
texts-here v o is = ap (located_at v) (sym is)

pub texts-found : (v : View) (section end : ℕ) (bytes : List ℕ) → Some section ≡ section_named v (name_of Str) → bytes ≡ section_bytes v section → IsNulEnd bytes end
    → IsTexts (texts_in v) (record { number = section; end = end })
unfolding section_bytes
texts-found v section end bytes some is ends = rw (texts-here v (Some section) some, ← is) (record { number = refl; end = ends })

not_below : (m n : ℕ) → n ≤ m → nat_lt m n ≡ false
not_below m n le = grind (arith, nat_tests)

nothing-ends : (place : ℕ) → ends_in [] place ≡ nat_lt place 0
unfolding ends_in
nothing-ends place = ap has_nul (drop_all place [] (omega arith)) ∙ sym (not_below place 0 (omega arith))

pub texts-none : (v : View) → None ≡ section_named v (name_of Str) → IsTexts (texts_in v) (record { number = 0; end = 0 })
texts-none v none = rw (texts-here v None none) (record { number = refl; end = record { ends = nothing-ends } })

pub ruleset texts_laws = (texts-found, texts-none)

-- a field of a number
pub num-ends : (z : Located) (t : Texts) (n : ℕ) (f : Field) → IsTexts z t → f ≡ Num n → nat_lt n t.end ≡ ends_in z.bytes (offset_into z f)
num-ends z t n f is same = rw same (sym (is.end.ends n))

-- no text begins at the end of a table
end-ends : (z : Located) → ends_in z.bytes (length z.bytes) ≡ false
unfolding ends_in
end-ends z = ap has_nul (drop_all (length z.bytes) z.bytes (omega arith))

pub into-other : (z : Located) (t : Texts) (section n : ℕ) (f : Field) → IsTexts z t → f ≡ Into section n → section ≢ t.number
    → false ≡ ends_in z.bytes (offset_into z f)
into-other z t section n f is same other =
    rw (same, ne_eqb section z.number (λ e. other (e ∙ sym is.number))) (sym (end-ends z))

pub into-same : (z : Located) (t : Texts) (section n : ℕ) (f : Field) → IsTexts z t → f ≡ Into section n → section ≡ t.number
    → nat_lt n t.end ≡ ends_in z.bytes (offset_into z f)
into-same z t section n f is same here =
    rw (same, eq-eqb section z.number (here ∙ is.number)) (sym (is.end.ends n))

pub sym-ends : (z : Located) (symbol kind : ℕ) (addend : ℤ) (f : Field) → f ≡ Sym symbol kind addend → false ≡ ends_in z.bytes (offset_into z f)
sym-ends z symbol kind addend f same = rw same (sym (end-ends z))

pub ruleset field_laws = (num-ends, into-other, into-same, sym-ends)

-- where the text begins that a field names
pub into-start : (z : Located) (section n : ℕ) (f : Field) → f ≡ Into section n → ends_in z.bytes (offset_into z f) ≡ true → n ≡ offset_into z f
into-start z section n f same ends = by_section (section == z.number) refl
  where
    none-end : ends_in z.bytes (length z.bytes) ≡ true → ⊥
    none-end e = let none = end-ends z in absurd cc

    by_section : (b : Bool) → (section == z.number) ≡ b → n ≡ offset_into z f
    by_section true e = sym (ap (offset_into z) same ∙ ap (λ (t : Bool). if t then n else length z.bytes) e)
    by_section false e =
        absurd (none-end (ap (ends_in z.bytes) (sym (ap (offset_into z) same ∙ ap (λ (t : Bool). if t then n else length z.bytes) e)) ∙ ends))

pub num-start : (z : Located) (n : ℕ) (f : Field) → f ≡ Num n → n ≡ offset_into z f
num-start z n f same = sym (ap (offset_into z) same)

pub sym-start : (z : Located) (symbol kind : ℕ) (addend : ℤ) (f : Field) → f ≡ Sym symbol kind addend → ends_in z.bytes (offset_into z f) ≡ true → ⊥
sym-start z symbol kind addend f same ends =
    let none : false ≡ ends_in z.bytes (offset_into z f) = sym-ends z symbol kind addend f same in
    absurd cc

pub ruleset start_laws = (num-start, into-start, sym-start)

-- the place of a string offset
pub place-narrow : (t : NameTable) (i : ℕ) → t.width ≡ W32 → t.strings + i * 4 ≡ string_place t i
place-narrow t i w = rw w refl

pub place-wide : (t : NameTable) (i : ℕ) → t.width ≡ W64 → t.strings + i * 8 ≡ string_place t i
place-wide t i w = rw w refl

inside-by : (strings i names : ℕ) (width : Width) → i < names → strings + i * width_size width + width_size width ≤ strings + names * width_size width
inside-by strings i names W32 lt = omega (arith, lt)
inside-by strings i names W64 lt = omega (arith, lt)

pub inside-narrow : (t : NameTable) (i : ℕ) → t.width ≡ W32 → i < t.names → t.strings + i * 4 + width_size t.width ≤ t.strings + t.names * width_size t.width
inside-narrow t i w lt = rw w (inside-by t.strings i t.names W32 lt)

pub inside-wide : (t : NameTable) (i : ℕ) → t.width ≡ W64 → i < t.names → t.strings + i * 8 + width_size t.width ≤ t.strings + t.names * width_size t.width
inside-wide t i w lt = rw w (inside-by t.strings i t.names W64 lt)

pub ruleset place_laws = (place-narrow, place-wide, inside-narrow, inside-wide)

-- the string offsets one after another
pub no_texts : (v : View) (section : ℕ) (t : NameTable) → NamesTexts v section t 0
no_texts v section t = record { all = λ i lt. absurd (omega (arith, lt)) }

pub no_offsets : (v : View) (section : ℕ) (t : NameTable) → OffsetsRead v section t 0
no_offsets v section t = record { all = λ i lt. absurd (omega (arith, lt)) }

field-place : (v : View) (section place size : ℕ) (t : NameTable) (i : ℕ) → place ≡ string_place t i → size ≡ width_size t.width
    → field_at v section place size ≡ field_at v section (string_place t i) (width_size t.width)
field-place v section place size t i p s = ap (λ (k : ℕ). field_at v section k size) p ∙ ap (field_at v section (string_place t i)) s

read-place : (v : View) (section place size : ℕ) (t : NameTable) (i : ℕ) → place ≡ string_place t i → size ≡ width_size t.width
    → offset_read v section place size ≡ offset_read v section (string_place t i) (width_size t.width)
read-place v section place size t i p s = ap (λ (k : ℕ). offset_read v section k size) p ∙ ap (offset_read v section (string_place t i)) s

text-by : (v : View) (section place size : ℕ) (t : NameTable) (i : ℕ) (f : Field) (b : Bool) → place ≡ string_place t i → size ≡ width_size t.width
    → Ok f ≡ offset_read v section place size → b ≡ ends_in (texts_in v).bytes (offset_into (texts_in v) f) → names_text v section t i ≡ b
text-by v section place size t i f b p s e is =
    sym (is ∙ ap (λ (g : Field). ends_in (texts_in v).bytes (offset_into (texts_in v) g))
    ((offset-is v section place size f (sym e)).same ∙ field-place v section place size t i p s))

pub more_texts : (v : View) (section place size : ℕ) (t : NameTable) (n : ℕ) (f : Field) (b : Bool) → NamesTexts v section t n → place ≡ string_place t n
    → size ≡ width_size t.width → Ok f ≡ offset_read v section place size → b ≡ ends_in (texts_in v).bytes (offset_into (texts_in v) f) → b ≡ true
    → NamesTexts v section t (n + 1)
more_texts v section place size t n f b before p s e is yes_is = record {
  all = λ i lt. elim (cases_lt i n) [
    | inl front ↦ before.all i front
    | inr last ↦
        let here : i ≡ n = omega (arith, lt, last) in
        ap (names_text v section t) here ∙ text-by v section place size t n f b p s e is ∙ yes_is
  ];
}

offset-is_read : (v : View) (section place size : ℕ) (t : NameTable) (i : ℕ) (f : Field) → place ≡ string_place t i → size ≡ width_size t.width
    → Ok f ≡ offset_read v section place size
    → offset_read v section (string_place t i) (width_size t.width) ≡ Ok (field_at v section (string_place t i) (width_size t.width))
offset-is_read v section place size t i f p s e =
    sym (read-place v section place size t i p s) ∙ sym e
    ∙ ap Ok ((offset-is v section place size f (sym e)).same ∙ field-place v section place size t i p s)

pub more_offsets : (v : View) (section place size : ℕ) (t : NameTable) (n : ℕ) (f : Field) → OffsetsRead v section t n → place ≡ string_place t n
    → size ≡ width_size t.width → Ok f ≡ offset_read v section place size → OffsetsRead v section t (n + 1)
more_offsets v section place size t n f before p s e = record {
  all = λ i lt. elim (cases_lt i n) [
    | inl front ↦ before.all i front
    | inr last ↦
        let here : n ≡ i = omega (arith, lt, last) in
        subst (λ (k : ℕ). offset_read v section (string_place t k) (width_size t.width) ≡ Ok (field_at v section (string_place t k) (width_size t.width))) here
        (offset-is_read v section place size t n f p s e)
  ];
}

pub text-fails : (v : View) (section place size : ℕ) (t : NameTable) (i : ℕ) (f : Field) (b : Bool) (r : Refusal) → NamesTexts v section t i → i < t.names → place ≡ string_place t i → size ≡ width_size t.width
    → Ok f ≡ offset_read v section place size → b ≡ ends_in (texts_in v).bytes (offset_into (texts_in v) f) → b ≡ false → r ≡ at StringOffset section place
    → TextRefuses v section t r
text-fails v section place size t i f b r before lt p s e is none same =
    subst (λ (x : Refusal). TextRefuses v section t x) (ap (at StringOffset section) (sym p) ∙ sym same)
    (names_none (no_text i lt before
    (offset-is v section (string_place t i) (width_size t.width) (field_at v section (string_place t i) (width_size t.width)) (offset-is_read v section place size t i f p s e)).placed
    (text-by v section place size t i f b p s e is ∙ none)))

pub offset-refused : (v : View) (section place size : ℕ) (t : NameTable) (i : ℕ) (r : Refusal) → NamesTexts v section t i → OffsetsRead v section t i → i < t.names
    → place ≡ string_place t i → size ≡ width_size t.width → Err r ≡ offset_read v section place size → TextRefuses v section t r
offset-refused v section place size t i r texts_are offsets_are lt p s e =
    reads_none (no_offset i lt texts_are offsets_are (sym (read-place v section place size t i p s) ∙ sym e))

pub ruleset check_laws = (no_texts, no_offsets, more_texts, more_offsets, text-fails, offset-refused)

-- a table of a view
pub named-table : (v : View) (section start : ℕ) (order : Order) (bytes : List ℕ) (t : NameTable) → order ≡ v.order → bytes ≡ section_bytes v section
    → IsNameTable order bytes start t → NamesTexts v section t t.names → IsNamedTable v section (section_bytes v section) start t
unfolding section_bytes
named-table v section start order bytes t o b is all = record { table = rw (← o, ← b) is; texts = all }

pub table-refused : (v : View) (section start : ℕ) (order : Order) (bytes : List ℕ) (r : Refusal) → order ≡ v.order → bytes ≡ section_bytes v section
    → TableFails order bytes section start r → TableRefuses v section (section_bytes v section) start r
unfolding section_bytes
table-refused v section start order bytes r o b f = table_fails (table (rw (← o, ← b) f))

pub texts-refused : (v : View) (section start : ℕ) (order : Order) (bytes : List ℕ) (t : NameTable) (r : Refusal) → order ≡ v.order → bytes ≡ section_bytes v section
    → IsNameTable order bytes start t → TextRefuses v section t r → TableRefuses v section (section_bytes v section) start r
unfolding section_bytes
texts-refused v section start order bytes t r o b is (names_none f) = table_fails (texts t (rw (← o, ← b) is) f)
texts-refused v section start order bytes t r o b is (reads_none f) = offset_fails t (rw (← o, ← b) is) f

pub ruleset table_laws = (named-table, table-refused, texts-refused)
