-- The size of offsets into tables of texts: that of the unit's offsets (DWARF 5, 7.4 and table 7.6).
use Rattle.std.proofs.Common.{Bool, true, false, ◌≡◌, ℕ, List, [], ◌∷◌, refl, subst, if◌then◌else◌}
use Rattle.std.specs.Prelude.{◌==◌, ◌&&◌, ◌||◌}
use Rattle.std.proofs.lemmas.Bool.{and_parts, eqb-true}
use Rattle.dw_base.specs.Forms.{ValueKind, number_of, text_offset, width_size, FormRow, form_rows, kind_by, kind_in}
use Rattle.dw_base.specs.declared.shared.Order.{Order}
use Rattle.dw_base.specs.declared.shared.Params.{Params}
use Rattle.dw_base.specs.declared.shared.Width.{Width}
use Rattle.dw_base.specs.declared.shared.Width.TheVariants.{W32, W64}
use Rattle.dw_base.specs.declared.texts.TextSection.{TextSection}
use Rattle.dw_base.specs.declared.values.ValueClass.TheVariants.{SecOffset}

-- an offset of a text has the size of the unit's offsets
abbrev pub is_sized : Width → ValueKind → Bool
is_sized w (text_offset table n) = n == width_size w
is_sized w k = true

abbrev all_sized : Width → List FormRow → Bool
all_sized w [] = true
all_sized w (r ∷ rs) = is_sized w r.kind && all_sized w rs

rows_sized : (order : Order) (w : Width) (version address : ℕ)
    → all_sized w (form_rows (record { order = order; width = w; version = version; address = address })) ≡ true
unfolding form_rows
rows_sized order W32 version address = refl
rows_sized order W64 version address = refl

kind_sized : (w : Width) (rows : List FormRow) (form : ℕ) → all_sized w rows ≡ true → is_sized w (kind_by rows form) ≡ true
kind_sized w [] form all = refl
kind_sized w (r ∷ rs) form all =
    let parts = and_parts (is_sized w r.kind) (all_sized w rs) all in
    by_form (r.form == form) parts.0 (kind_sized w rs form parts.1)
  where
    by_form : (b : Bool) → is_sized w r.kind ≡ true → is_sized w (kind_by rs form) ≡ true → is_sized w (if b then r.kind else kind_by rs form) ≡ true
    by_form true one rest = one
    by_form false one rest = rest

-- so where a form's values are offsets of texts, they have it
pub offset_sized : (params : Params) (form : ℕ) → is_sized params.width (kind_in params form) ≡ true
unfolding kind_in
offset_sized params form = kind_sized params.width (form_rows params) form (rows_sized params.order params.width params.version params.address)

pub offset-size : (params : Params) (k : ValueKind) (table : TextSection) (n : ℕ) → is_sized params.width k ≡ true → k ≡ text_offset table n
    → n ≡ width_size params.width
offset-size params k table n sized e = eqb-true _ _ (subst (λ (x : ValueKind). is_sized params.width x ≡ true) e sized)

-- an offset into another section has 4 or 8 bytes
abbrev pub is_offset_sized : ValueKind → Bool
is_offset_sized (number_of SecOffset n) = n == 4 || n == 8
is_offset_sized k = true

abbrev all_offsets_sized : List FormRow → Bool
all_offsets_sized [] = true
all_offsets_sized (r ∷ rs) = is_offset_sized r.kind && all_offsets_sized rs

rows_offsets : (order : Order) (w : Width) (version address : ℕ)
    → all_offsets_sized (form_rows (record { order = order; width = w; version = version; address = address })) ≡ true
unfolding form_rows
rows_offsets order W32 version address = refl
rows_offsets order W64 version address = refl

kind_offset : (rows : List FormRow) (form : ℕ) → all_offsets_sized rows ≡ true → is_offset_sized (kind_by rows form) ≡ true
kind_offset [] form all = refl
kind_offset (r ∷ rs) form all =
    let parts = and_parts (is_offset_sized r.kind) (all_offsets_sized rs) all in
    by_form (r.form == form) parts.0 (kind_offset rs form parts.1)
  where
    by_form : (b : Bool) → is_offset_sized r.kind ≡ true → is_offset_sized (kind_by rs form) ≡ true → is_offset_sized (if b then r.kind else kind_by rs form) ≡ true
    by_form true one rest = one
    by_form false one rest = rest

pub section_offset-sized : (params : Params) (form : ℕ) → is_offset_sized (kind_in params form) ≡ true
unfolding kind_in
section_offset-sized params form = kind_offset (form_rows params) form (rows_offsets params.order params.width params.version params.address)
