-- String offsets and name tables under a change of the tables of texts: they stay what they are, the slots mean the mapped texts, and
-- name tables mean what they meant.
use Rattle.std.proofs.Common.{Bool, true, false, ◌≡◌, ℕ, zero, suc, ◌+◌, ◌≤◌, ◌==◌, if◌then◌else◌, List, [], ◌∷◌, ◌++◌, length, get_or, Option, Some, None, refl, sym, ap, ◌∙◌, subst, arith}
use Rattle.dw_base.specs.Cells.{Cell}
use Rattle.dw_base.specs.Paths.{PathMap, mapped_path}
use Rattle.dw_base.specs.Pieces.{Piece, Chain}
use Rattle.dw_base.specs.StringTables.{new_text}
use Rattle.dw_base.specs.TextIndexes.{holds_number}
use Rattle.dw_base.specs.declared.shared.Order.{Order}
use Rattle.dw_base.specs.declared.shared.Width.{Width}
use Rattle.dw_base.proofs.PieceFrameLaws.{AllChanged, Preserves}
use Rattle.dw_base.proofs.UnitEditLaws.{Shift, Becomes}
use Rattle.dw_base.specs.NamePieces.{NameMode, at_table, at_string, at_rest, no_names, NameState, IsTableFront, FitsNames, past_names, before_strings_of, name_grammar}
use Rattle.dw_base.specs.OffsetPieces.{OffsetMode, at_contribution, at_slot, no_offsets, OffsetState, offsets_at, before_slot, IsOffsetsHeader, FitsOffsets, after_offsets_header, past_offsets, offset_grammar}
use Rattle.dw_base.specs.SectionTexts.{offset_role, name_role_by}
use Rattle.dw_base.specs.SlotTexts.{field_text, slot_text, slot_texts, NamePart, raw_part, text_part, name_part, name_parts}
use Rattle.dw_base.specs.MappedSlots.{mapped_slots}
use Rattle.dw_base.specs.declared.debug_sections.DebugSection.TheVariants.{Str}

-- what a piece of string offsets may become
abbrev pub OffsetChange : Shift → List ℕ → OffsetState → List Cell → List Cell → Type 0
OffsetChange c paths s p q = Becomes (offset_role paths s.mode s.slot) c p q

fits-offsets : (m : OffsetMode) (paths : List ℕ) (c : Shift) (order : Order) (s : OffsetState) (p q : List Cell) → Becomes (offset_role paths m s.slot) c p q
    → FitsOffsets m order s p → FitsOffsets m order s q
fits-offsets at_contribution paths c order s p q h f = subst (λ (z : List Cell). IsOffsetsHeader order s z) (sym h) f
fits-offsets (at_slot width end) paths c order s p q h f = record {
  size = h.size ∙ f.size;
  before = subst (λ (n : ℕ). s.place + n ≤ end) (sym h.size) f.before;
}
fits-offsets no_offsets paths c order s p q h f = absurd f

next-offsets : (m : OffsetMode) (paths : List ℕ) (c : Shift) (order : Order) (s : OffsetState) (p q : List Cell) → Becomes (offset_role paths m s.slot) c p q
    → past_offsets m order s q ≡ past_offsets m order s p
next-offsets at_contribution paths c order s p q h = ap (past_offsets at_contribution order s) h
next-offsets (at_slot width end) paths c order s p q h = ap (λ (n : ℕ). before_slot s.whole (s.place + n) (s.slot + 1) width end) h.size
next-offsets no_offsets paths c order s p q h = refl

-- string offsets stay string offsets
pub offsets_preserve : (c : Shift) (paths : List ℕ) (order : Order) → Preserves (offset_grammar order) (OffsetChange c paths)
offsets_preserve c paths order = record {
  fits = λ s p q h f. fits-offsets s.mode paths c order s p q h f;
  next = λ s p q h f. next-offsets s.mode paths c order s p q h;
}

-- slots are numbered on, headers are not
pub slot-before : (whole place slot : ℕ) (w : Width) (end : ℕ) → (before_slot whole place slot w end).slot ≡ slot
unfolding before_slot
slot-before whole place slot w end = by_end (place == end)
  where
    by_end : (b : Bool) → (if b then offsets_at whole place slot at_contribution else offsets_at whole place slot (at_slot w end)).slot ≡ slot
    by_end true = refl
    by_end false = refl

pub slot-header : (s : OffsetState) (place : ℕ) (o : Option (Width × ℕ × ℕ)) → (after_offsets_header s place o).slot ≡ s.slot
slot-header s place None = refl
slot-header s place (Some l) = slot-before s.whole place s.slot l.0 (s.place + l.2 + l.1)

-- the texts of slots from a piece on
slots-step : (m : OffsetMode) (paths : List ℕ) (c : Shift) (order : Order) (s : OffsetState) (p q : List Cell) (old new : List (List ℕ))
    → Becomes (offset_role paths m s.slot) c p q → new ≡ mapped_slots c.map paths (past_offsets m order s p).slot old
    → slot_text m c.new.lasting.base.order (c.new.stands Str) q ++ new ≡ mapped_slots c.map paths s.slot (slot_text m c.old.lasting.base.order (c.old.stands Str) p ++ old)
slots-step at_contribution paths c order s p q old new h e =
    e ∙ ap (λ (n : ℕ). mapped_slots c.map paths n old) (slot-header s (s.place + length p) _)
slots-step (at_slot width end) paths c order s p q old new h e =
    let next : (before_slot s.whole (s.place + length p) (s.slot + 1) width end).slot ≡ suc s.slot =
    slot-before s.whole (s.place + length p) (s.slot + 1) width end ∙ omega arith in
    let rest : new ≡ mapped_slots c.map paths (suc s.slot) old = e ∙ ap (λ (n : ℕ). mapped_slots c.map paths n old) next in
    let here : field_text c.new.lasting.base.order (c.new.stands Str) q ≡ (if holds_number paths s.slot then mapped_path c.map (field_text c.old.lasting.base.order (c.old.stands Str) p) else field_text c.old.lasting.base.order (c.old.stands Str) p) = h.says in
    ap (λ (t : List ℕ). t ∷ new) here
    ∙ ap (λ (ts : List (List ℕ)). (if holds_number paths s.slot then mapped_path c.map (field_text c.old.lasting.base.order (c.old.stands Str) p) else field_text c.old.lasting.base.order (c.old.stands Str) p) ∷ ts) rest
slots-step no_offsets paths c order s p q old new h e = e

-- the slots mean their texts, those that paths name mapped
pub slots-mapped : (paths : List ℕ) (c : Shift) (order : Order) (s : OffsetState) (xs ys : List (Piece OffsetState)) → AllChanged OffsetState (OffsetChange c paths) xs ys
    → Chain (offset_grammar order) s xs → slot_texts c.new.lasting.base.order (c.new.stands Str) ys ≡ mapped_slots c.map paths s.slot (slot_texts c.old.lasting.base.order (c.old.stands Str) xs)
slots-mapped paths c order s [] [] h r = refl
slots-mapped paths c order s [] (y ∷ ys) h r = absurd h
slots-mapped paths c order s (x ∷ xs) [] h r = absurd h
slots-mapped paths c order s (x ∷ xs) (y ∷ ys) h r =
    let rest : slot_texts c.new.lasting.base.order (c.new.stands Str) ys ≡ mapped_slots c.map paths (past_offsets x.state.mode order x.state x.cells).slot (slot_texts c.old.lasting.base.order (c.old.stands Str) xs) =
    slots-mapped paths c order (past_offsets x.state.mode order x.state x.cells) xs ys h.1 r.2 in
    ap (λ (z : OffsetState). slot_text z.mode c.new.lasting.base.order (c.new.stands Str) y.cells ++ slot_texts c.new.lasting.base.order (c.new.stands Str) ys) h.0.state
    ∙ slots-step x.state.mode paths c order x.state x.cells y.cells (slot_texts c.old.lasting.base.order (c.old.stands Str) xs) (slot_texts c.new.lasting.base.order (c.new.stands Str) ys) h.0.cells rest
    ∙ ap (λ (z : OffsetState). mapped_slots c.map paths z.slot (slot_text x.state.mode c.old.lasting.base.order (c.old.stands Str) x.cells ++ slot_texts c.old.lasting.base.order (c.old.stands Str) xs)) r.0

-- what a piece of name tables may become
abbrev pub NameChange : Shift → NameState → List Cell → List Cell → Type 0
NameChange c s p q = Becomes (name_role_by s.mode) c p q

fits-names : (m : NameMode) (c : Shift) (order : Order) (s : NameState) (p q : List Cell) → Becomes (name_role_by m) c p q → FitsNames m order s p → FitsNames m order s q
fits-names at_table c order s p q h f = subst (λ (z : List Cell). IsTableFront order s z) (sym h) f
fits-names (at_string width left end) c order s p q h f = record {
  size = h.size ∙ f.size;
  before = subst (λ (n : ℕ). s.place + n ≤ end) (sym h.size) f.before;
}
fits-names (at_rest end) c order s p q h f = ap (λ (z : List Cell). s.place + length z) h ∙ f
fits-names no_names c order s p q h f = absurd f

next-names : (m : NameMode) (c : Shift) (order : Order) (s : NameState) (p q : List Cell) → Becomes (name_role_by m) c p q → past_names m order s q ≡ past_names m order s p
next-names at_table c order s p q h = ap (past_names at_table order s) h
next-names (at_string width left end) c order s p q h = ap (λ (n : ℕ). before_strings_of s.whole (s.place + n) width left end) h.size
next-names (at_rest end) c order s p q h = refl
next-names no_names c order s p q h = refl

-- name tables stay name tables
pub names_preserve : (c : Shift) (order : Order) → Preserves (name_grammar order) (NameChange c)
names_preserve c order = record {
  fits = λ s p q h f. fits-names s.mode c order s p q h f;
  next = λ s p q h f. next-names s.mode c order s p q h;
}

name-kept : (m : NameMode) (c : Shift) (p q : List Cell) → Becomes (name_role_by m) c p q → name_part m c.new.lasting.base.order (c.new.stands Str) q ≡ name_part m c.old.lasting.base.order (c.old.stands Str) p
name-kept at_table c p q h = ap raw_part h
name-kept (at_string width left end) c p q h = ap text_part h.says
name-kept (at_rest end) c p q h = ap raw_part h
name-kept no_names c p q h = ap raw_part h

-- and mean what they meant
pub names-kept : (c : Shift) (xs ys : List (Piece NameState)) → AllChanged NameState (NameChange c) xs ys → name_parts c.new.lasting.base.order (c.new.stands Str) ys ≡ name_parts c.old.lasting.base.order (c.old.stands Str) xs
names-kept c [] [] h = refl
names-kept c [] (y ∷ ys) h = absurd h
names-kept c (x ∷ xs) [] h = absurd h
names-kept c (x ∷ xs) (y ∷ ys) h =
    ap (λ (z : NameState). name_part z.mode c.new.lasting.base.order (c.new.stands Str) y.cells ∷ name_parts c.new.lasting.base.order (c.new.stands Str) ys) h.0.state
    ∙ ap (λ (n : NamePart). n ∷ name_parts c.new.lasting.base.order (c.new.stands Str) ys) (name-kept x.state.mode c x.cells y.cells h.0.cells)
    ∙ ap (λ (ns : List NamePart). name_part x.state.mode c.old.lasting.base.order (c.old.stands Str) x.cells ∷ ns) (names-kept c xs ys h.1)

-- the text of the slot of a number; where there is none, no text, which no map changes
slot-mapped : (m : PathMap) (paths : List ℕ) (first n : ℕ) (ts : List (List ℕ)) → mapped_path m [] ≡ []
    → get_or (mapped_slots m paths first ts) n [] ≡ (if holds_number paths (first + n) then mapped_path m (get_or ts n []) else get_or ts n [])
slot-mapped m paths first n [] none = by_path (holds_number paths (first + n))
  where
    by_path : (b : Bool) → [] ≡ (if b then mapped_path m [] else [])
    by_path true = sym none
    by_path false = refl
slot-mapped m paths first zero (t ∷ ts) none = ap (λ (k : ℕ). if holds_number paths k then mapped_path m t else t) (omega arith)
slot-mapped m paths first (suc n) (t ∷ ts) none =
    let number : suc first + n ≡ first + suc n = omega arith in
    slot-mapped m paths (suc first) n ts none ∙ ap (λ (k : ℕ). if holds_number paths k then mapped_path m (get_or ts n []) else get_or ts n []) number

-- a slot has the new text of a value that names it: a path's slot is among those of paths, and where another value names one of
-- these its text stays
pub slot-text : (m : PathMap) (paths : List ℕ) (texts : List (List ℕ)) (path : Bool) (n : ℕ) → mapped_path m [] ≡ [] → (path ≡ true → holds_number paths n ≡ true)
    → (path ≡ false → holds_number paths n ≡ true → mapped_path m (get_or texts n []) ≡ get_or texts n [])
    → get_or (mapped_slots m paths 0 texts) n [] ≡ new_text m (record { path = path; text = get_or texts n [] })
slot-text m paths texts path n none named stays = text-after ∙ by_path path refl
  where
    text-after : get_or (mapped_slots m paths 0 texts) n [] ≡ (if holds_number paths n then mapped_path m (get_or texts n []) else get_or texts n [])
    text-after =
        let number : 0 + n ≡ n = omega arith in
        slot-mapped m paths 0 n texts none ∙ ap (λ (k : ℕ). if holds_number paths k then mapped_path m (get_or texts n []) else get_or texts n []) number

    by_slots : (b : Bool) → path ≡ false → holds_number paths n ≡ b → (if b then mapped_path m (get_or texts n []) else get_or texts n []) ≡ get_or texts n []
    by_slots true other e = stays other e
    by_slots false other e = refl

    by_path : (b : Bool) → path ≡ b → (if holds_number paths n then mapped_path m (get_or texts n []) else get_or texts n []) ≡ new_text m (record { path = b; text = get_or texts n [] })
    by_path true e = ap (λ (b : Bool). if b then mapped_path m (get_or texts n []) else get_or texts n []) (named e)
    by_path false e = by_slots (holds_number paths n) e refl
