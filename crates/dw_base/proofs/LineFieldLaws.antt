-- Laws of the fields of line tables: what they read as by the relocations of their section.
use Rattle.std.proofs.Common.{◌≡◌, ℕ, Bool, true, false, if◌then◌else◌, List, take, drop, Option, Some, None, refl, sym, ap, ◌∙◌, subst}
use Rattle.std.specs.Prelude.{Ok, Err}
use Rattle.std.proofs.lemmas.List.{take-append-drop}
use Rattle.dw_base.specs.Cells.{Cell, Located, cells_at, field_by}
use Rattle.dw_base.specs.LineSources.{LineSource, line_field}
use Rattle.dw_base.specs.LineTexts.{named_text, text_by}
use Rattle.dw_base.specs.Numbers.{spelled}
use Rattle.dw_base.specs.Refusals.{at}
use Rattle.dw_base.specs.RelocationFields.{field_unless, partly_at, relocation_at}
use Rattle.dw_base.specs.Walks.{or_refused}
use Rattle.dw_base.specs.declared.fault.Kind.TheVariants.{Relocation as RelocationKind}
use Rattle.dw_base.specs.declared.fault.Refusal.{Refusal}
use Rattle.dw_base.specs.declared.view_fields.Field.{Field}
use Rattle.dw_base.proofs.PlainCellLaws.{IsPlain, plain-parts}

-- a field on which no relocation lies in part
pub line_field-whole : (g : LineSource) (place size : ℕ) → partly_at g.cells place size ≡ None
    → line_field g place size ≡ Ok (field_by (relocation_at g.cells place) size (spelled g.order g.bytes place size))
unfolding line_field
line_field-whole g place size whole = ap (λ (o : Option ℕ). field_unless o g.number f) (by_read g.is_read)
  where
    f : Field
    f = field_by (relocation_at g.cells place) size (spelled g.order g.bytes place size)

    by_read : (b : Bool) → (if b then partly_at g.cells place size else None) ≡ None
    by_read true = whole
    by_read false = refl

-- and one that is refused
pub line_field-refused : (g : LineSource) (place size p : ℕ) → g.is_read ≡ true → partly_at g.cells place size ≡ Some p
    → line_field g place size ≡ Err (at RelocationKind g.number p)
unfolding line_field
line_field-refused g place size p read met =
    ap (λ (b : Bool). field_unless (if b then partly_at g.cells place size else None) g.number f) read ∙ ap (λ (o : Option ℕ). field_unless o g.number f) met
  where
    f : Field
    f = field_by (relocation_at g.cells place) size (spelled g.order g.bytes place size)

-- the text that a field names
pub named_text-by : (g : LineSource) (z : Located) (place size : ℕ) (f : Field) → line_field g place size ≡ Ok f
    → named_text g z place size ≡ text_by z g.number place f
unfolding named_text
named_text-by g z place size f is = ap (or_refused (text_by z g.number place)) is

pub named_text-refused : (g : LineSource) (z : Located) (place size : ℕ) (r : Refusal) → line_field g place size ≡ Err r → named_text g z place size ≡ Err r
unfolding named_text
named_text-refused g z place size r is = ap (or_refused (text_by z g.number place)) is

-- the bytes of a field with another offset in it
pub cells_at-plain : (cells : List Cell) (place n : ℕ) → IsPlain cells → IsPlain (cells_at cells place n)
cells_at-plain cells place n plain =
    let behind = plain-parts (take place cells) (drop place cells) (subst IsPlain (sym (take-append-drop place cells)) plain) in
    (plain-parts (take n (drop place cells)) (drop n (drop place cells)) (subst IsPlain (sym (take-append-drop n (drop place cells))) behind.1)).0
