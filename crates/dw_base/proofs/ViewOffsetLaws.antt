-- Laws of the fields of offsets: what one reads as, why it is refused, and the rows of relocations for that.
use Rattle.std.proofs.Common.{Bool, true, false, ◌≡◌, ℕ, zero, suc, ◌+◌, ◌<◌, ◌≤◌, if◌then◌else◌, List, [], ◌∷◌, length, drop, Option, Some, None, refl, sym, ap, ◌∙◌, subst, arith}
use Rattle.std.specs.Prelude.{Result, Ok, Err, is_some}
use Rattle.std.proofs.lemmas.Bool.{and_parts}
use Rattle.dw_base.specs.Cells.{cells_at, field_of, is_placed}
use Rattle.dw_base.specs.DebugSections.{debug_section, name_of}
use Rattle.dw_base.specs.FileViews.{View, ViewSection, field_at, field_read, first_filled, is_filled, kind_at, name_in, partly_in, section_after, section_bytes, section_named, view_cells}
use Rattle.dw_base.specs.Refusals.{at}
use Rattle.dw_base.specs.RelocationFields.{LiesPartly, field_unless, partly_at}
use Rattle.dw_base.specs.RelocationRows.{OffsetFails, OffsetReads, field_place, offset_field}
use Rattle.dw_base.specs.RelocationRows.OffsetFails.{partly, no_place}
use Rattle.dw_base.specs.declared.debug_sections.DebugSection.{DebugSection}
use Rattle.dw_base.specs.declared.fault.Kind.TheVariants.{Relocation as RelocationKind}
use Rattle.dw_base.specs.declared.fault.Refusal.{Refusal}
use Rattle.dw_base.specs.declared.view_fields.Field.{Field}
use Rattle.dw_base.proofs.DebugSectionLaws.{debug_section-name}
use Rattle.dw_base.proofs.RelocationFieldLaws.{partly-lies, partly-none}
use Rattle.dw_base.proofs.TextLaws.{same_text-true}
use Rattle.dw_base.proofs.ViewCellLaws.{field_at-cells}
use Rattle.dw_base.specs.ViewOffsets.{if_placed, offset_read}

-- what a field is answered with: it reads, and in a section that is read no relocation lies on it only in part; or one does
data FieldAnswer (v : View) (i place n : ℕ) : Result Field Refusal → Type 0 where
  answers : ((p : ℕ) → is_some (kind_at v i) ≡ true → LiesPartly (view_cells v i) place n p → ⊥) → FieldAnswer v i place n (Ok (field_at v i place n))
  met : (p : ℕ) → LiesPartly (view_cells v i) place n p → FieldAnswer v i place n (Err (at RelocationKind i p))

field-answer : (v : View) (i place n : ℕ) → FieldAnswer v i place n (field_read v i place n)
unfolding field_read partly_in
field-answer v i place n = by_kind (is_some (kind_at v i)) refl
  where
    by_partly : (o : Option ℕ) → partly_at (view_cells v i) place n ≡ o → FieldAnswer v i place n (field_unless o i (field_at v i place n))
    by_partly None e = answers (λ p some lies. partly-none (view_cells v i) place n p e lies)
    by_partly (Some p) e = met p (partly-lies (view_cells v i) place n p e)

    true-false : {b : Bool} → b ≡ false → b ≡ true → ⊥
    true-false e f = cc

    by_kind : (t : Bool) → is_some (kind_at v i) ≡ t
        → FieldAnswer v i place n (field_unless (if t then partly_at (view_cells v i) place n else None) i (field_at v i place n))
    by_kind true e = by_partly (partly_at (view_cells v i) place n) refl
    by_kind false e = answers (λ p some lies. true-false e some)

-- and the field of an offset
data OffsetAnswer (v : View) (i place n : ℕ) : Result Field Refusal → Type 0 where
  reads : is_placed (field_at v i place n) ≡ true → ((p : ℕ) → is_some (kind_at v i) ≡ true → LiesPartly (view_cells v i) place n p → ⊥)
      → OffsetAnswer v i place n (Ok (field_at v i place n))
  lies : (p : ℕ) → LiesPartly (view_cells v i) place n p → OffsetAnswer v i place n (Err (at RelocationKind i p))
  nowhere : is_placed (field_at v i place n) ≡ false → OffsetAnswer v i place n (Err (at RelocationKind i place))

placed-answer : (v : View) (i place n : ℕ) (x : Result Field Refusal) → FieldAnswer v i place n x → OffsetAnswer v i place n (if_placed i place x)
placed-answer v i place n x (answers whole) = by_place (is_placed (field_at v i place n)) refl
  where
    by_place : (b : Bool) → is_placed (field_at v i place n) ≡ b
        → OffsetAnswer v i place n (if b then Ok (field_at v i place n) else Err (at RelocationKind i place))
    by_place true e = reads e whole
    by_place false e = nowhere e
placed-answer v i place n x (met p there) = lies p there

offset-answer : (v : View) (i place n : ℕ) → OffsetAnswer v i place n (offset_read v i place n)
unfolding offset_read
offset-answer v i place n = placed-answer v i place n (field_read v i place n) (field-answer v i place n)

-- where it reads, it is what the field reads as, and has a place
ok-same : (f g : Field) → ◌≡◌ {A = Result Field Refusal} (Ok f) (Ok g) → f ≡ g
ok-same f g e = cc

err-ok : (f : Field) (r : Refusal) → ◌≡◌ {A = Result Field Refusal} (Err r) (Ok f) → ⊥
err-ok f r e = cc

err-same : (q r : Refusal) → ◌≡◌ {A = Result Field Refusal} (Err q) (Err r) → q ≡ r
err-same q r e = cc

pub record OffsetIs (v : View) (i place n : ℕ) (f : Field) : Type 0 where
  pub same : f ≡ field_at v i place n
  pub placed : is_placed (field_at v i place n) ≡ true
  pub whole : (p : ℕ) → is_some (kind_at v i) ≡ true → LiesPartly (view_cells v i) place n p → ⊥

answer-is : (v : View) (i place n : ℕ) (f : Field) (x : Result Field Refusal) → OffsetAnswer v i place n x → x ≡ Ok f → OffsetIs v i place n f
answer-is v i place n f x (reads placed whole) e = record { same = sym (ok-same (field_at v i place n) f e); placed = placed; whole = whole }
answer-is v i place n f x (lies p there) e = absurd (err-ok f (at RelocationKind i p) e)
answer-is v i place n f x (nowhere none) e = absurd (err-ok f (at RelocationKind i place) e)

pub offset-is : (v : View) (i place n : ℕ) (f : Field) → offset_read v i place n ≡ Ok f → OffsetIs v i place n f
offset-is v i place n f e = answer-is v i place n f (offset_read v i place n) (offset-answer v i place n) e

-- so no row of relocations holds of it
place-of : (v : View) (i place n : ℕ) → 0 < n → place + n ≤ length (section_bytes v i)
    → is_placed (field_of v.order (cells_at (view_cells v i) place n)) ≡ is_placed (field_at v i place n)
place-of v i place n some inside = ap is_placed (field_at-cells v i place n some inside)

pub offset-reads : (v : View) (i place n : ℕ) (f : Field) → is_some (kind_at v i) ≡ true → 0 < n → place + n ≤ length (section_bytes v i)
    → offset_read v i place n ≡ Ok f → OffsetReads v.order (view_cells v i) (field_place place n offset_field)
offset-reads v i place n f kind some inside e =
    let is = offset-is v i place n f e in
    record { whole = λ p there. is.whole p kind there; placed = place-of v i place n some inside ∙ is.placed }

-- and one does where it is refused
answer-fails : (v : View) (i place n : ℕ) (r : Refusal) (x : Result Field Refusal) → 0 < n → place + n ≤ length (section_bytes v i)
    → OffsetAnswer v i place n x → x ≡ Err r → OffsetFails v.order i (view_cells v i) (field_place place n offset_field) r
answer-fails v i place n r x some inside (reads placed whole) e = absurd (err-ok (field_at v i place n) r (sym e))
answer-fails v i place n r x some inside (lies p there) e =
    subst (OffsetFails v.order i (view_cells v i) (field_place place n offset_field)) (err-same (at RelocationKind i p) r e) (partly p there)
answer-fails v i place n r x some inside (nowhere none) e =
    subst (OffsetFails v.order i (view_cells v i) (field_place place n offset_field)) (err-same (at RelocationKind i place) r e)
    (no_place (place-of v i place n some inside ∙ none))

pub offset-fails : (v : View) (i place n : ℕ) (r : Refusal) → 0 < n → place + n ≤ length (section_bytes v i) → offset_read v i place n ≡ Err r
    → OffsetFails v.order i (view_cells v i) (field_place place n offset_field) r
offset-fails v i place n r some inside e = answer-fails v i place n r (offset_read v i place n) some inside (offset-answer v i place n) e

-- and back: an offset of which no row holds reads
answer-read : (v : View) (i place n : ℕ) (x : Result Field Refusal) → ((p : ℕ) → LiesPartly (view_cells v i) place n p → ⊥)
    → is_placed (field_at v i place n) ≡ true → OffsetAnswer v i place n x → x ≡ Ok (field_at v i place n)
answer-read v i place n x whole placed (reads p w) = refl
answer-read v i place n x whole placed (lies p there) = absurd (whole p there)
answer-read v i place n x whole placed (nowhere none) = absurd cc

pub reads-offset : (v : View) (i place n : ℕ) → 0 < n → place + n ≤ length (section_bytes v i)
    → OffsetReads v.order (view_cells v i) (field_place place n offset_field) → offset_read v i place n ≡ Ok (field_at v i place n)
reads-offset v i place n some inside h =
    answer-read v i place n (offset_read v i place n) h.whole (sym (place-of v i place n some inside) ∙ h.placed) (offset-answer v i place n)

-- what the code reads, step by step
pub read-refused : (v : View) (i place n : ℕ) (r : Refusal) → Err r ≡ field_read v i place n → Err r ≡ offset_read v i place n
unfolding offset_read
read-refused v i place n r e = ap (if_placed i place) e

pub read-nowhere : (v : View) (i place n : ℕ) (f : Field) (r : Refusal) → Ok f ≡ field_read v i place n → is_placed f ≡ false → r ≡ at RelocationKind i place
    → Err r ≡ offset_read v i place n
unfolding offset_read
read-nowhere v i place n f r e none is =
    ap Err is ∙ ap (λ (b : Bool). if b then Ok f else Err (at RelocationKind i place)) (sym none) ∙ ap (if_placed i place) e

pub read-placed : (v : View) (i place n : ℕ) (f : Field) → Ok f ≡ field_read v i place n → is_placed f ≡ true → Ok f ≡ offset_read v i place n
unfolding offset_read
read-placed v i place n f e placed =
    ap (λ (b : Bool). if b then Ok f else Err (at RelocationKind i place)) (sym placed) ∙ ap (if_placed i place) e

-- a section of a name that is read is one that is read
record IsNamed (name : List ℕ) (first : ℕ) (ss : List ViewSection) (i : ℕ) : Type 0 where
  back : ℕ
  number : first + back ≡ i
  name_is : name_in ss back ≡ name

named-first : (name : List ℕ) (first i : ℕ) (ss : List ViewSection) → first_filled name first ss ≡ Some i → IsNamed name first ss i
named-first name first i [] e = absurd cc
named-first name first i (s ∷ ss) e = by_test (is_filled name s) refl e (λ f. named-first name (suc first) i ss f)
  where
    by_test : (b : Bool) → is_filled name s ≡ b → (if b then Some first else first_filled name (suc first) ss) ≡ Some i
        → (first_filled name (suc first) ss ≡ Some i → IsNamed name (suc first) ss i) → IsNamed name first (s ∷ ss) i
    by_test true t e rest =
        let same : first ≡ i = cc in
        record { back = 0; number = omega (arith, same); name_is = same_text-true s.name name (and_parts s.has_bytes _ t).1 }
    by_test false t e rest =
        let more : IsNamed name (suc first) ss i = rest e in
        let number = more.number in
        record { back = suc more.back; number = omega (arith, number); name_is = more.name_is }

name-behind : (ss : List ViewSection) (i : ℕ) → name_in (drop 1 ss) i ≡ name_in ss (suc i)
name-behind [] i = refl
name-behind (s ∷ ss) i = refl

pub kind-named : (v : View) (d : DebugSection) (i : ℕ) → section_named v (name_of d) ≡ Some i → kind_at v i ≡ Some d
unfolding section_named section_after kind_at
kind-named v d i e =
    let is : IsNamed (name_of d) 1 (drop 1 v.sections) i = named-first (name_of d) 1 i (drop 1 v.sections) e in
    let number = is.number in
    let place : i ≡ suc is.back = omega (arith, number) in
    ap (λ (k : ℕ). debug_section (name_in v.sections k)) place ∙ ap debug_section (sym (name-behind v.sections is.back) ∙ is.name_is)
    ∙ debug_section-name d

pub some-named : (v : View) (d : DebugSection) (i : ℕ) → Some i ≡ section_named v (name_of d) → is_some (kind_at v i) ≡ true
some-named v d i e = ap (λ (k : Option DebugSection). is_some k) (kind-named v d i (sym e))

-- which section one is says its name
pub kind_at-there : (v : View) (i : ℕ) (s : ViewSection) (rest : List ViewSection) → drop i v.sections ≡ s ∷ rest → kind_at v i ≡ debug_section s.name
unfolding kind_at
kind_at-there v i s rest there = ap debug_section (among v.sections i there)
  where
    head : {x : ViewSection} {xs : List ViewSection} → x ∷ xs ≡ s ∷ rest → x ≡ s
    head e = cc

    among : (ss : List ViewSection) (k : ℕ) → drop k ss ≡ s ∷ rest → name_in ss k ≡ s.name
    among [] zero e = absurd cc
    among [] (suc k) e = absurd cc
    among (x ∷ xs) zero e = let same : x ≡ s = head e in ap (λ (y : ViewSection). y.name) same
    among (x ∷ xs) (suc k) e = among xs k e
