-- Laws of the texts that a line table mentions, and of numbers that are skipped.
use Rattle.std.proofs.Common.{true, false, ◌≡◌, ℕ, zero, suc, ◌+◌, ◌-◌, ◌<◌, ◌≤◌, List, [], length, Option, Some, None, refl, sym, ap, ◌∙◌, subst, arith}
use Rattle.std.specs.Prelude.{Result, Ok, Err}
use Rattle.std.proofs.lemmas.List.{drop_all}
use Rattle.dw_base.proofs.LineFieldLaws.{named_text-by, named_text-refused}
use Rattle.dw_base.proofs.ViewCellLaws.{field_read-by}
use Rattle.dw_base.specs.Cells.{Located}
use Rattle.dw_base.specs.DebugSections.{name_of}
use Rattle.dw_base.specs.FileViews.{View, field_read, section_bytes, section_named}
use Rattle.dw_base.specs.Lebs.{uleb_at}
use Rattle.dw_base.specs.Refusals.{at}
use Rattle.dw_base.specs.Texts.{ends_in, has_nul, text_in}
use Rattle.dw_base.specs.ViewData.{located, located_at}
use Rattle.dw_base.specs.declared.debug_sections.DebugSection.{DebugSection}
use Rattle.dw_base.specs.declared.fault.Kind.TheVariants.{StringOffset}
use Rattle.dw_base.specs.declared.fault.Refusal.{Refusal}
use Rattle.dw_base.specs.declared.view_fields.Field.{Field}
use Rattle.dw_forms.proofs.ReadLaws.{text-within}
use Rattle.dw_lines.specs.ViewSources.{view_source}
use Rattle.dw_base.specs.LineSources.{line_field}
use Rattle.dw_base.specs.LineTexts.{named_text, skip_lebs, text_by, text_if}
use Rattle.dw_base.specs.declared.line_tables.TextPlace.{TextPlace}

pub ruleset inline_laws = (text-within)

-- numbers that are skipped, one after another
skip-step : (n : ℕ) (table : List ℕ) (place value size : ℕ) → Some (value, size) ≡ uleb_at table place → skip_lebs (suc n) table place ≡ skip_lebs n table (place + size)
skip-step n table place value size e = rw (← e) refl

pub skip-more : (whole : Option ℕ) (left : ℕ) (table : List ℕ) (place value size : ℕ) → whole ≡ skip_lebs left table place → 0 < left
    → Some (value, size) ≡ uleb_at table place → whole ≡ skip_lebs (left - 1) table (place + size)
skip-more whole zero table place value size w lt e = absurd (omega (arith, lt))
skip-more whole (suc n) table place value size w lt e =
    let same : n ≡ suc n - 1 = omega arith in
    subst (λ (k : ℕ). whole ≡ skip_lebs k table (place + size)) same (w ∙ skip-step n table place value size e)

pub skip-none : (whole : Option ℕ) (left : ℕ) (table : List ℕ) (place : ℕ) → whole ≡ skip_lebs left table place → 0 < left → None ≡ uleb_at table place → None ≡ whole
skip-none whole zero table place w lt e = absurd (omega (arith, lt))
skip-none whole (suc n) table place w lt e = sym (w ∙ rw (← e) refl)

pub skip-over : (whole : Option ℕ) (left : ℕ) (table : List ℕ) (place : ℕ) → whole ≡ skip_lebs left table place → left ≤ 0 → Some place ≡ whole
skip-over whole zero table place w le = sym w
skip-over whole (suc n) table place w le = absurd (omega (arith, le))

pub ruleset skip_laws = (skip-more, skip-none, skip-over)

-- a section of texts
pub located-some : (v : View) (texts : DebugSection) (section : ℕ) → Some section ≡ section_named v (name_of texts)
    → located v texts ≡ record { number = section; bytes = section_bytes v section }
unfolding located
located-some v texts section e = ap (located_at v) (sym e)

pub located-none : (v : View) (texts : DebugSection) → None ≡ section_named v (name_of texts) → located v texts ≡ record { number = 0; bytes = [] }
unfolding located
located-none v texts e = ap (located_at v) (sym e)

nothing-ends : (place : ℕ) → ends_in [] place ≡ false
unfolding ends_in
nothing-ends place = ap has_nul (drop_all place [] (omega arith))

-- the text at an offset
pub text-nowhere : (v : View) (texts : DebugSection) (section place offset : ℕ) (r : Refusal) → None ≡ section_named v (name_of texts) → r ≡ at StringOffset section place
    → Err r ≡ text_if (located v texts) section place offset
text-nowhere v texts section place offset r none is =
    sym (ap (λ (z : Located). text_if z section place offset) (located-none v texts none) ∙ rw (nothing-ends offset, is) refl)

pub text-not : (v : View) (texts : DebugSection) (section place offset number : ℕ) (bytes : List ℕ) (r : Refusal) → Some number ≡ section_named v (name_of texts)
    → bytes ≡ section_bytes v number → ends_in bytes offset ≡ false → r ≡ at StringOffset section place → Err r ≡ text_if (located v texts) section place offset
text-not v texts section place offset number bytes r some b none is =
    sym (ap (λ (z : Located). text_if z section place offset) (located-some v texts number some) ∙ rw (← b, none, is) refl)

pub text-some : (v : View) (texts : DebugSection) (section place offset number len : ℕ) (bytes text : List ℕ) → Some number ≡ section_named v (name_of texts)
    → bytes ≡ section_bytes v number → ends_in bytes offset ≡ true → text ≡ text_in bytes offset → len ≡ length text
    → Ok (record { section = number; at = offset; len = len; field = place }) ≡ text_if (located v texts) section place offset
text-some v texts section place offset number len bytes text some b ends t l =
    sym (ap (λ (z : Located). text_if z section place offset) (located-some v texts number some) ∙ rw (← b, ends, l, t) refl)

pub ruleset text_laws = (text-nowhere, text-not, text-some)

-- a field of the section is one of the view
pub source-field : (v : View) (section place size : ℕ) → line_field (view_source v section) place size ≡ field_read v section place size
unfolding line_field
source-field v section place size = sym (field_read-by v section place size)

-- the text that it names
pub named-read : (v : View) (texts : DebugSection) (section place size : ℕ) (f : Field) (x : Result TextPlace Refusal) → Ok f ≡ field_read v section place size
    → x ≡ text_by (located v texts) section place f → x ≡ named_text (view_source v section) (located v texts) place size
named-read v texts section place size f x e is =
    is ∙ sym (named_text-by (view_source v section) (located v texts) place size f (source-field v section place size ∙ sym e))

pub named-refused : (v : View) (texts : DebugSection) (section place size : ℕ) (r : Refusal) → Err r ≡ field_read v section place size
    → Err r ≡ named_text (view_source v section) (located v texts) place size
named-refused v texts section place size r e =
    sym (named_text-refused (view_source v section) (located v texts) place size r (source-field v section place size ∙ sym e))

pub ruleset named_laws = (named-read, named-refused)
