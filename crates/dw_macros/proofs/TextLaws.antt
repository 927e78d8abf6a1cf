-- Laws of the texts that offsets of a macro section name.
use Rattle.std.proofs.Common.{Bool, false, ◌≡◌, ◌≢◌, ℕ, ◌≤◌, nat_lt, ℤ, List, [], length, Option, Some, None, refl, sym, ap, ◌∙◌, arith}
use Rattle.std.specs.Prelude.{Ok, Err}
use Rattle.std.proofs.lemmas.Bool.{eq-eqb, ne_eqb}
use Rattle.std.proofs.lemmas.Bool.Decides.{nat_tests}
use Rattle.std.proofs.lemmas.List.{drop_all}
use Rattle.dw_base.specs.Cells.{Located, offset_into}
use Rattle.dw_base.specs.DebugSections.{name_of}
use Rattle.dw_base.specs.FileViews.{View, field_at, section_bytes, section_named}
use Rattle.dw_base.specs.Forms.{width_size}
use Rattle.dw_base.specs.Texts.{ends_in, has_nul, IsNulEnd}
use Rattle.dw_base.specs.ViewData.{located, located_at}
use Rattle.dw_base.specs.ViewOffsets.{offset_read}
use Rattle.dw_base.specs.declared.debug_sections.DebugSection.TheVariants.{Str}
use Rattle.dw_base.specs.declared.fault.Refusal.{Refusal}
use Rattle.dw_base.specs.declared.shared.Width.{Width}
use Rattle.dw_base.specs.declared.view_fields.Field.{Field}
use Rattle.dw_base.specs.declared.view_fields.Field.TheVariants.{Num, Into, Sym}
use Rattle.dw_base.specs.MacroUnits.{names_text, offset_at}
use Rattle.dw_base.proofs.ViewOffsetLaws.{offset-is}
use Rattle.dw_base.specs.MacroOffsets.{FieldReads, FieldRefuses}
use Rattle.dw_macros.specs.TextEnds.{IsTexts}
use Rattle.dw_macros.specs.declared.texts.Texts.{Texts}

-- the texts of a view
texts-here : (v : View) (o : Option ℕ) → o ≡ section_named v (name_of Str) → located v Str ≡ located_at v o
unfolding located
texts-here v o is = ap (located_at v) (sym is)

pub texts-found : (v : View) (section end : ℕ) (bytes : List ℕ) → Some section ≡ section_named v (name_of Str) → bytes ≡ section_bytes v section → IsNulEnd bytes end
    → IsTexts (located v Str) (record { number = section; end = end })
unfolding section_bytes
texts-found v section end bytes some is ends = rw (texts-here v (Some section) some, ← is) (record { number = refl; end = ends })

not_below : (m n : ℕ) → n ≤ m → nat_lt m n ≡ false
not_below m n le = grind (arith, nat_tests)

nothing-ends : (place : ℕ) → ends_in [] place ≡ nat_lt place 0
unfolding ends_in
nothing-ends place = ap has_nul (drop_all place [] (omega arith)) ∙ sym (not_below place 0 (omega arith))

pub texts-none : (v : View) → None ≡ section_named v (name_of Str) → IsTexts (located v Str) (record { number = 0; end = 0 })
texts-none v none = rw (texts-here v None none) (record { number = refl; end = record { ends = nothing-ends } })

pub ruleset texts_laws = (texts-found, texts-none)

-- a field of a number
pub num-ends : (z : Located) (t : Texts) (n : ℕ) (f : Field) → IsTexts z t → f ≡ Num n → nat_lt n t.end ≡ ends_in z.bytes (offset_into z f)
num-ends z t n f is same = rw same (sym (is.end.ends n))

-- no text begins at the end of a table
end-ends : (z : Located) → ends_in z.bytes (length z.bytes) ≡ false
unfolding ends_in
end-ends z = ap has_nul (drop_all (length z.bytes) z.bytes (omega arith))

pub into-other : (z : Located) (t : Texts) (section n : ℕ) (f : Field) → IsTexts z t → f ≡ Into section n → section ≢ t.number
    → false ≡ ends_in z.bytes (offset_into z f)
into-other z t section n f is same other =
    rw (same, ne_eqb section z.number (λ e. other (e ∙ sym is.number))) (sym (end-ends z))

pub into-same : (z : Located) (t : Texts) (section n : ℕ) (f : Field) → IsTexts z t → f ≡ Into section n → section ≡ t.number
    → nat_lt n t.end ≡ ends_in z.bytes (offset_into z f)
into-same z t section n f is same here =
    rw (same, eq-eqb section z.number (here ∙ is.number)) (sym (is.end.ends n))

pub sym-ends : (z : Located) (symbol kind : ℕ) (addend : ℤ) (f : Field) → f ≡ Sym symbol kind addend → false ≡ ends_in z.bytes (offset_into z f)
sym-ends z symbol kind addend f same = rw same (sym (end-ends z))

pub ruleset field_laws = (num-ends, into-other, into-same, sym-ends)

-- the field of an offset
pub field-value : (v : View) (section field size : ℕ) (width : Width) (f : Field) → size ≡ width_size width → Ok f ≡ offset_read v section field size
    → f ≡ field_at v section field (width_size width)
field-value v section field size width f s e = (offset-is v section field size f (sym e)).same ∙ ap (field_at v section field) s

pub field-reads : (v : View) (section field size : ℕ) (width : Width) (f : Field) → size ≡ width_size width → Ok f ≡ offset_read v section field size
    → FieldReads v section width field
field-reads v section field size width f s e = record {
  is = ap (offset_read v section field) (sym s) ∙ sym e ∙ ap Ok (field-value v section field size width f s e);
}

pub field-refused : (v : View) (section field size : ℕ) (width : Width) (r : Refusal) → size ≡ width_size width → Err r ≡ offset_read v section field size
    → FieldRefuses v section width field r
field-refused v section field size width r s e = record { is = ap (offset_read v section field) (sym s) ∙ sym e }

pub ruleset names_laws = (field-value, field-reads, field-refused)

-- what it names
pub field-text : (v : View) (section field : ℕ) (width : Width) (f : Field) (b : Bool) → f ≡ field_at v section field (width_size width)
    → b ≡ ends_in (located v Str).bytes (offset_into (located v Str) f) → b ≡ names_text v section width field
field-text v section field width f b e is = is ∙ ap (λ (g : Field). ends_in (located v Str).bytes (offset_into (located v Str) g)) e

pub field-offset : (v : View) (z : Located) (section field offset : ℕ) (width : Width) (f : Field) → f ≡ field_at v section field (width_size width)
    → offset ≡ offset_into z f → offset ≡ offset_at v z section field width
field-offset v z section field offset width f e is = is ∙ ap (offset_into z) e

pub ruleset named_laws = (field-text, field-offset)
