-- The piece in which a value stands: its role and its cells.
use Rattle.std.proofs.Common.{true, ◌≡◌, ◌⊎◌, inl, inr, ℕ, ◌+◌, List, [], ◌∷◌, ◌++◌, take, drop, Option, Some, refl, sym, ap, ◌∙◌, subst, arith}
use Rattle.dw_base.specs.Cells.{Cell}
use Rattle.dw_base.specs.Forms.{ValueKind, number_of, leb_number, signed_leb, block_of, counted, counted_leb, inline_text, text_offset, present, in_abbreviation, form_in_front, supplementary, unlisted, kind_in}
use Rattle.dw_base.specs.Pieces.{Piece, joined, Leads}
use Rattle.dw_base.specs.RelocationRows.{kind_field, unit_field, is_section_offset}
use Rattle.dw_base.specs.Roles.{role_of, role_of_kind, use_of}
use Rattle.dw_base.specs.UnitHeaders.{UnitBase}
use Rattle.dw_base.specs.UnitPieces.{unit_grammar}
use Rattle.dw_base.specs.UnitStates.{at_values, at_chosen, UnitState, in_unit, inside, of_chosen, read_value}
use Rattle.dw_base.specs.Values.{value_of, value_at}
use Rattle.dw_base.specs.declared.shared.Order.{Order}
use Rattle.dw_base.specs.declared.shared.Params.{Params}
use Rattle.dw_base.specs.declared.values.Spec.{Spec}
use Rattle.dw_base.specs.declared.values.Value.{Value}
use Rattle.dw_meaning.specs.RelocationFails.{behind_front}
use Rattle.dw_base.proofs.ClassLaws.{is_proper, form-proper}
use Rattle.dw_base.proofs.FormLaws.{value_by-own}
use Rattle.dw_meaning.proofs.ScanPieceLaws.{run-more, run-one, unit_bytes, is_front, own-run, front-run, chosen-run, Chosen, chosen-read}

-- a kind that stands in front of none is its own
own-kind : (k : ValueKind) (params : Params) (bytes : List ℕ) (place : ℕ) → (k ≡ form_in_front → ⊥) → behind_front k params bytes place ≡ k
own-kind form_in_front params bytes place other = absurd (other refl)
own-kind (number_of class n) params bytes place other = refl
own-kind (leb_number class) params bytes place other = refl
own-kind signed_leb params bytes place other = refl
own-kind (block_of n) params bytes place other = refl
own-kind (counted n) params bytes place other = refl
own-kind counted_leb params bytes place other = refl
own-kind inline_text params bytes place other = refl
own-kind (text_offset table n) params bytes place other = refl
own-kind present params bytes place other = refl
own-kind in_abbreviation params bytes place other = refl
own-kind supplementary params bytes place other = refl
own-kind unlisted params bytes place other = refl

-- the pieces of a value: a form in front of it, or nothing; and its own, with its role and its cells
pub record ValuePiece (base : UnitBase) (cells : List Cell) (s : UnitState) (place e d n tag : ℕ) (x : Spec) (xs : List Spec) (v : Value) : Type 0 where
  pub front : List (Piece UnitState)
  pub last : Piece UnitState
  pub leads : Leads (unit_grammar base) (in_unit s place e d (at_values n tag (x ∷ xs))) (front ++ last ∷ []) (inside s (place + v.size) e d n tag xs)
  pub covers : joined (front ++ last ∷ []) ++ drop (place + v.size) cells ≡ drop place cells
  pub kind : ValueKind
  pub proper : is_proper kind ≡ true
  pub field : ℕ
  pub value : Value
  pub is : value_of kind s.header.params.order (unit_bytes s cells) field x.implicit ≡ Some value
  pub role : role_of last ≡ role_of_kind kind (use_of n tag x.name)
  pub own_cells : last.cells ≡ take value.size (drop field cells)
  pub class : value.class ≡ v.class
  pub at : value.at ≡ v.at
  pub len : value.len ≡ v.len
  pub kind_is : kind ≡ behind_front (kind_in s.header.params x.form) s.header.params (unit_bytes s cells) place
  pub fields : (order : Order) → unit_field last.state.mode order last.state last.cells ≡ kind_field kind field (is_section_offset n tag x.name)

pub value-pieces : (base : UnitBase) (cells : List Cell) (s : UnitState) (place e d n tag : ℕ) (x : Spec) (xs : List Spec) (v : Value)
    → value_at s.header.params x (unit_bytes s cells) place ≡ Some v → ValuePiece base cells s place e d n tag x xs v
unfolding value_at role_of run-more run-one own-run chosen-run
value-pieces base cells s place e d n tag x xs v is = by_front (is_front (kind_in s.header.params x.form))
  where
    by_front : (kind_in s.header.params x.form ≡ form_in_front) ⊎ (kind_in s.header.params x.form ≡ form_in_front → ⊥) → ValuePiece base cells s place e d n tag x xs v
    by_front (inr other) =
        let own : value_of (kind_in s.header.params x.form) s.header.params.order (unit_bytes s cells) place x.implicit ≡ Some v =
        sym (value_by-own (kind_in s.header.params x.form) s.header.params x (unit_bytes s cells) place other) ∙ is in
        let r = own-run base cells s place e d n tag x xs v other own in
        record {
          front = [];
          last = record { state = in_unit s place e d (at_values n tag (x ∷ xs)); cells = take v.size (drop place cells) };
          leads = r.leads;
          covers = r.covers;
          kind = kind_in s.header.params x.form;
          proper = form-proper s.header.params x.form;
          field = place;
          value = v;
          is = own;
          role = refl;
          own_cells = refl;
          class = refl;
          at = refl;
          len = refl;
          kind_is = sym (own-kind (kind_in s.header.params x.form) s.header.params (unit_bytes s cells) place other);
          fields = λ order. refl;
        }
    by_front (inl front) =
        let c : Chosen s.header.params x (unit_bytes s cells) place v = chosen-read s.header.params x (unit_bytes s cells) place v front is in
        let f = front-run base cells s place e d n tag c.form c.size x xs front c.spells c.other c.own in
        let l = chosen-run base cells s (place + c.size) e d n tag place c.form x xs c.value c.is in
        let both = run-more base cells (in_unit s place e d (at_values n tag (x ∷ xs))) (in_unit s (place + c.size) e d (at_chosen n tag place (of_chosen x c.form) xs))
        (inside s (place + c.size + c.value.size) e d n tag xs) place (place + c.size) (place + c.size + c.value.size) f l in
        let whole : place + c.size + c.value.size ≡ place + v.size = omega (arith, c.whole) in
        record {
          front = f.pieces;
          last = record { state = in_unit s (place + c.size) e d (at_chosen n tag place (of_chosen x c.form) xs); cells = take c.value.size (drop (place + c.size) cells) };
          leads = subst (λ (m : ℕ). Leads (unit_grammar base) (in_unit s place e d (at_values n tag (x ∷ xs))) both.pieces (inside s m e d n tag xs)) whole both.leads;
          covers = subst (λ (m : ℕ). joined both.pieces ++ drop m cells ≡ drop place cells) whole both.covers;
          kind = kind_in s.header.params c.form;
          proper = form-proper s.header.params c.form;
          field = place + c.size;
          value = c.value;
          is = c.is;
          role = refl;
          own_cells = refl;
          class = sym (ap (λ (w : Value). w.class) c.parts);
          at = sym (ap (λ (w : Value). w.at) c.parts);
          len = sym (ap (λ (w : Value). w.len) c.parts);
          kind_is = sym (ap (λ (k : ValueKind). behind_front k s.header.params (unit_bytes s cells) place) front
              ∙ ap (λ (o : Option (ℕ × ℕ)). kind_in s.header.params (read_value o)) c.spells);
          fields = λ order. refl;
        }
