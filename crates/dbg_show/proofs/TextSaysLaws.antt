-- The text of a unit's entries, found by their places, is what its pieces say.
use Rattle.std.proofs.Common.{Bool, ◌≡◌, ◌≢◌, ◌⊎◌, inl, inr, ℕ, ◌+◌, List, [], ◌∷◌, ◌++◌, take, drop, Option, Some, None, refl, sym, ap, ◌∙◌, if◌then◌else◌}
use Rattle.std.proofs.lemmas.Bool.{ne_eqb, eq-eqb}
use Rattle.dw_base.specs.AbbreviationTables.{Abbreviation, abbreviation_of}
use Rattle.dw_base.specs.Cells.{Cell}
use Rattle.dw_base.specs.DebugData.{Around}
use Rattle.dw_base.specs.Forests.{null}
use Rattle.dw_base.specs.Forms.{ValueKind, in_abbreviation, form_in_front, kind_in}
use Rattle.dw_base.specs.Lebs.{uleb_at}
use Rattle.dw_base.specs.Pieces.{Piece}
use Rattle.dw_base.specs.Roles.{use_of}
use Rattle.dw_base.specs.TableStarts.{own_form}
use Rattle.dw_base.specs.UnitHeaders.{UnitSection}
use Rattle.dw_base.specs.UnitMeanings.{entry_mark, value_mark, mark_of}
use Rattle.dw_base.specs.UnitStates.{at_code, at_values, at_chosen, UnitState, in_unit, of_chosen, code_value}
use Rattle.dw_base.specs.ValueMeanings.{meaning_of_value}
use Rattle.dw_base.specs.Values.{value_of, value_at}
use Rattle.dw_base.specs.declared.units.Scanned.{Scanned}
use Rattle.dw_base.specs.declared.values.Spec.{Spec}
use Rattle.dw_base.specs.declared.values.Value.{Value}
use Rattle.dw_meaning.proofs.ScanPieceLaws.{unit_bytes, Chosen}
use Rattle.dw_base.proofs.StartFormLaws.{plain-form, chosen-form}
use Rattle.dbg_show.specs.PieceTexts.{mark_said, pieces_said}
use Rattle.dw_attrs.specs.UnitValues.{SaidUnit}
use Rattle.dbg_show.specs.ShownUnits.{entries_text, entry_coded, entry_listed, entry_text, value_shown, values_behind, values_shown}
use Rattle.dbg_show.specs.UnitTexts.{attribute_line, saying_text, entry_line, value_said}
use Rattle.dw_attrs.proofs.FormFactLaws.{form-facts}
use Rattle.dw_attrs.proofs.ValueMeantLaws.{IsAround, IsIn}
use Rattle.dw_meaning.proofs.UnitRunLaws.{UnitSays}
use Rattle.dw_meaning.specs.PieceRuns.{all_of, value_out, values_out, entry_out, entries_out, coded_out, listed_out, any_piece}
use Rattle.dw_base.specs.ValueMeanings.{ValueMeaning, string, entry_of, stray, table_number, macro_number, raw, signed_number, of_class}
use Rattle.dw_attrs.specs.Sayings.{said_of}
use Rattle.dw_attrs.proofs.KindMeantLaws.{const-shown, in-unit, is_const, not-front, other-const, own-mark, own-shown, unit-small}

-- what a meaning says, as it is printed
said-text : (m : ValueMeaning) → value_said m ≡ saying_text (said_of m)
said-text (string path form text) = refl
said-text (entry_of unit number) = refl
said-text (stray offset) = refl
said-text (table_number number) = refl
said-text (macro_number number) = refl
said-text (raw cells) = refl
said-text (signed_number number) = refl
said-text (of_class class field) = refl

-- what a piece says as it is printed
abbrev pub says_of : List UnitSection → ℕ → Around → Piece UnitState → List ℕ
says_of zs section around x = mark_said zs section x.state (mark_of around x)

abbrev pub entry_says : ℕ → ℕ → ℕ → Abbreviation → List ℕ
entry_says number place depth a = entry_line number depth a.tag

abbrev pub value_says : SaidUnit → ℕ → ℕ → Spec → ℕ → Value → List ℕ
value_says u number tag x place v = attribute_line x.name (value_shown u x place v)

pub unit-says : (zs : List UnitSection) (section : ℕ) (around : Around) (u : SaidUnit) (cells : List Cell) (s : UnitState) → IsAround around u → IsIn cells s u
    → UnitSays any_piece (says_of zs section around) cells s entry_says (value_says u)
unit-says zs section around u cells s a i = record {
  holds = λ m place e d k. tt;
  nulls = λ place e d p zero_.
      ap (λ (b : Bool). mark_said zs section (in_unit s place e d at_code) (if b then null else entry_mark (abbreviation_of s.table (code_value p)))) (eq-eqb (code_value p) 0 zero_);
  codes = λ place e d b p some listed.
      ap (λ (t : Bool). mark_said zs section (in_unit s place e d at_code) (if t then null else entry_mark (abbreviation_of s.table (code_value p)))) (ne_eqb (code_value p) 0 some)
      ∙ ap (λ (o : Option Abbreviation). mark_said zs section (in_unit s place e d at_code) (entry_mark o)) listed;
  forms = λ place e d n tag x xs p front.
      ap (λ (k : ValueKind). mark_said zs section (in_unit s place e d (at_values n tag (x ∷ xs))) (value_mark k around (in_unit s place e d (at_values n tag (x ∷ xs))) n tag x p)) front;
  owns = λ place e d n tag x xs v other is.
      ap (mark_said zs section (in_unit s place e d (at_values n tag (x ∷ xs))))
      (own-mark (kind_in s.header.params x.form) around (in_unit s place e d (at_values n tag (x ∷ xs))) n tag x (take v.size (drop place cells)) other)
      ∙ ap (attribute_line x.name) (own-said place e d n tag x xs v other is (is_const (kind_in s.header.params x.form)));
  chosen = λ place e d n tag x xs v front c.
      ap (mark_said zs section (in_unit s (place + c.size) e d (at_chosen n tag place (of_chosen x c.form) xs)))
      (own-mark (kind_in s.header.params c.form) around (in_unit s (place + c.size) e d (at_chosen n tag place (of_chosen x c.form) xs)) n tag (of_chosen x c.form)
      (take c.value.size (drop (place + c.size) cells)) c.other)
      ∙ ap (attribute_line x.name) (chosen-said place e d n tag x xs v front c);
}
  where
    own-said : (place e d n tag : ℕ) (x : Spec) (xs : List Spec) (v : Value) → kind_in s.header.params x.form ≢ form_in_front
        → value_of (kind_in s.header.params x.form) s.header.params.order (unit_bytes s cells) place x.implicit ≡ Some v
        → (kind_in s.header.params x.form ≡ in_abbreviation) ⊎ (kind_in s.header.params x.form ≡ in_abbreviation → ⊥)
        → value_said (meaning_of_value around (in_unit s place e d (at_values n tag (x ∷ xs))) (use_of n tag x.name) x (kind_in s.header.params x.form) (take v.size (drop place cells)))
        ≡ value_shown u x place v
    own-said place e d n tag x xs v other is (inl const) =
        said-text (meaning_of_value around (in_unit s place e d (at_values n tag (x ∷ xs))) (use_of n tag x.name) x (kind_in s.header.params x.form) (take v.size (drop place cells)))
        ∙ ap saying_text (const-shown around u (in_unit s place e d (at_values n tag (x ∷ xs))) n tag x place v (take v.size (drop place cells)) s.header.params
        (plain-form s.header.params x u.bytes place other) const)
    own-said place e d n tag x xs v other is (inr own) =
        said-text (meaning_of_value around (in_unit s place e d (at_values n tag (x ∷ xs))) (use_of n tag x.name) x (kind_in s.header.params x.form) (take v.size (drop place cells)))
        ∙ ap saying_text (own-shown around u cells (in_unit s place e d (at_values n tag (x ∷ xs))) n tag x x (kind_in s.header.params x.form) place place x.form v v a
        (in-unit cells s u place e d (at_values n tag (x ∷ xs)) i) (form-facts s.header.params x.form (unit-small cells s u i)) (not-front (kind_in s.header.params x.form) other own)
        (plain-form s.header.params x u.bytes place other) refl (other-const s.header.params x.form own) refl refl refl refl is)

    chosen-said : (place e d n tag : ℕ) (x : Spec) (xs : List Spec) (v : Value) → kind_in s.header.params x.form ≡ form_in_front
        → (c : Chosen s.header.params x (unit_bytes s cells) place v)
        → value_said (meaning_of_value around (in_unit s (place + c.size) e d (at_chosen n tag place (of_chosen x c.form) xs)) (use_of n tag x.name) (of_chosen x c.form)
        (kind_in s.header.params c.form) (take c.value.size (drop (place + c.size) cells)))
        ≡ value_shown u x place v
    chosen-said place e d n tag x xs v front c =
        let plainly : kind_in s.header.params x.form ≢ in_abbreviation = front-const (kind_in s.header.params x.form) front in
        said-text (meaning_of_value around (in_unit s (place + c.size) e d (at_chosen n tag place (of_chosen x c.form) xs)) (use_of n tag x.name) (of_chosen x c.form)
        (kind_in s.header.params c.form) (take c.value.size (drop (place + c.size) cells)))
        ∙ ap saying_text (own-shown around u cells (in_unit s (place + c.size) e d (at_chosen n tag place (of_chosen x c.form) xs)) n tag x (of_chosen x c.form) (kind_in s.header.params c.form)
        place (place + c.size) c.form v c.value a
        (in-unit cells s u (place + c.size) e d (at_chosen n tag place (of_chosen x c.form) xs) i) (form-facts s.header.params c.form (unit-small cells s u i))
        (not-front (kind_in s.header.params c.form) c.other c.own)
        (ap (λ (bs : List ℕ). own_form x bs place) (sym i.bytes_are) ∙ chosen-form s.header.params x (unit_bytes s cells) place c.form c.size front c.spells) refl
        (other-const s.header.params x.form plainly) (sym c.class_is) (sym c.at_is) (sym c.len_is) (sym c.number_is) c.is)
      where
        front-const : (k : ValueKind) → k ≡ form_in_front → k ≢ in_abbreviation
        front-const form_in_front e = λ f. cc
        front-const k e = λ f. cc

-- the text of entries is what they say
values-text : (u : SaidUnit) (n tag : ℕ) (xs : List Spec) (place : ℕ) → values_out (value_says u) u.header.params u.bytes n tag xs place ≡ values_shown u xs place
values-text u n tag [] place = refl
values-text u n tag (x ∷ xs) place = by_value (value_at u.header.params x u.bytes place) (λ p. values-text u n tag xs p)
  where
    by_value : (o : Option Value) → ((p : ℕ) → values_out (value_says u) u.header.params u.bytes n tag xs p ≡ values_shown u xs p)
        → value_out (value_says u) (λ p. values_out (value_says u) u.header.params u.bytes n tag xs p) n tag x place o ≡ values_behind (λ p. values_shown u xs p) u x place o
    by_value None rest = refl
    by_value (Some v) rest = ap (λ (t : List ℕ). attribute_line x.name (value_shown u x place v) ++ t) (rest (place + v.size))

entry-texts : (u : SaidUnit) (n : ℕ) (e : Scanned) → entry_out entry_says (value_says u) u.header.params u.table u.bytes n e ≡ entry_text u n e
unfolding entry_text
entry-texts u n e = by_code (uleb_at u.bytes e.offset)
  where
    by_listed : (from : ℕ) (o : Option Abbreviation) → listed_out entry_says (value_says u) u.header.params u.bytes n e from o ≡ entry_listed u n e from o
    by_listed from None = refl
    by_listed from (Some a) = ap (λ (t : List ℕ). entry_line n e.depth a.tag ++ t) (values-text u n a.tag a.specs from)

    by_code : (o : Option (ℕ × ℕ)) → coded_out entry_says (value_says u) u.header.params u.table u.bytes n e o ≡ entry_coded u n e o
    by_code None = refl
    by_code (Some (code, size)) = by_listed (e.offset + size) (abbreviation_of u.table code)

pub entries-texts : (u : SaidUnit) (n : ℕ) (es : List Scanned) → entries_out entry_says (value_says u) u.header.params u.table u.bytes n es ≡ entries_text u n es
entries-texts u n [] = refl
entries-texts u n (e ∷ es) =
    ap (λ (t : List ℕ). t ++ entries_out entry_says (value_says u) u.header.params u.table u.bytes (n + 1) es) (entry-texts u n e)
    ∙ ap (λ (t : List ℕ). entry_text u n e ++ t) (entries-texts u (n + 1) es)

pub said-all : (zs : List UnitSection) (section : ℕ) (around : Around) (xs : List (Piece UnitState)) → pieces_said zs section around xs ≡ all_of (says_of zs section around) xs
said-all zs section around [] = refl
said-all zs section around (x ∷ xs) = ap (λ (t : List ℕ). mark_said zs section x.state (mark_of around x) ++ t) (said-all zs section around xs)
