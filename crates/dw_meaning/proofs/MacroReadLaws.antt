-- The cells in front of an operation's offset, or of a whole operation, are the operation that stands at their place; so macro units are
-- pieces in one way.
use Rattle.std.specs.Bool.{⊤}
use Rattle.std.proofs.Common.{Bool, true, false, ◌≡◌, ℕ, ◌+◌, ◌<◌, ◌≤◌, ◌==◌, nat_lt, nat_le, List, [], ◌∷◌, ◌++◌, length, drop, get_or, slice_index, Option, Some, None, option_map, option_and_then, refl, sym, ap, ◌∙◌, subst, arith, append_assoc, if◌then◌else◌}
use Rattle.std.proofs.lemmas.Bool.{eqb-true, le-leb, lt-ltb, ltb-true}
use Rattle.std.proofs.lemmas.List.{length-append, get_or_append_left, get_or-drop, drop-drop, drop-append-le}
use Rattle.dw_base.specs.Cells.{Cell, CellSection, bytes_of}
use Rattle.dw_base.specs.Forms.{width_size}
use Rattle.dw_base.specs.Lebs.{uleb_at}
use Rattle.dw_base.specs.MacroOperations.{inline_behind, inline_operation, named_behind, named_operation, enter_behind, enter_operation, bring_operation, is_foreign, plain_operation, operation_of, operation_at}
use Rattle.dw_base.specs.MacroPieces.{of_text, of_unit, OperationFront, whole, last, before_offset, MacroMode, at_unit, at_line, at_operation, at_offset, no_macros, MacroState, whole_by, whole_if, line_if, front_by, front_of, FitsMacros, macro_grammar, ReadsMacros, macros_at}
use Rattle.dw_base.specs.MacroReadings.{MacroReading, ReadsAllMacros}
use Rattle.dw_base.specs.Pieces.{Piece, joined, Chain}
use Rattle.dw_base.specs.Texts.{has_nul, text, ends_in, text_in}
use Rattle.dw_base.specs.declared.macro_numbers.TheConstants.{MACRO_END, DW_MACRO_define, DW_MACRO_undef, DW_MACRO_start_file, DW_MACRO_end_file, DW_MACRO_define_strp, DW_MACRO_undef_strp, DW_MACRO_import}
use Rattle.dw_base.specs.declared.macro_units.MacroOperation.{MacroOperation}
use Rattle.dw_base.specs.declared.macro_units.MacroOperation.TheVariants.{End, Inline, Named, Enter, Leave, Bring, Foreign}
use Rattle.dw_base.specs.declared.shared.Order.{Order}
use Rattle.dw_base.specs.declared.shared.Width.{Width}
use Rattle.dw_base.specs.declared.shared.Width.TheVariants.{W32, W64}
use Rattle.dw_base.proofs.ContributionBackLaws.{StandsAt}
use Rattle.dw_base.proofs.LebLaws.{uleb_at-append, uleb_at-drop}
use Rattle.dw_base.proofs.TextLaws.{has_nul-append_true, text-append, ends_in-inside}
use Rattle.dw_base.proofs.UnitEditLaws.{length-bytes_of}
use Rattle.dw_base.proofs.UnitHeaderLaws.{bytes_of-append}
use Rattle.dw_meaning.proofs.LineReadLaws.{bound, made, if-some, some-same}
use Rattle.dw_meaning.proofs.PieceLaws.{front_same, back_same, step_same}

-- a byte, a number in LEB128 and a text that stand in bytes stand where these do
pub byte-there : (bs xs : List ℕ) (p : ℕ) → StandsAt bs xs p → 0 < length xs → slice_index bs p ≡ slice_index xs 0
byte-there bs xs p h lt =
    let first : p ≡ p + 0 = omega arith in
    ap (λ (k : ℕ). get_or bs k 0) first ∙ sym (get_or-drop p bs 0 0) ∙ ap (λ (l : List ℕ). get_or l 0 0) h.is ∙ get_or_append_left xs h.behind 0 0 lt

leb-there : (bs xs : List ℕ) (p at : ℕ) (v : ℕ × ℕ) → StandsAt bs xs p → at ≤ length xs → uleb_at xs at ≡ Some v → uleb_at bs (p + at) ≡ Some v
leb-there bs xs p at v h le e = sym (uleb_at-drop bs p at) ∙ ap (λ (l : List ℕ). uleb_at l at) h.is ∙ uleb_at-append xs h.behind at v le e

text-there : (bs xs : List ℕ) (p at : ℕ) → StandsAt bs xs p → ends_in xs at ≡ true → (ends_in bs (p + at) ≡ true) × (text_in bs (p + at) ≡ text_in xs at)
unfolding ends_in text_in
text-there bs xs p at h ends =
    let inside = ends_in-inside xs at ends in
    let there : drop (p + at) bs ≡ drop at xs ++ h.behind = sym (drop-drop at p bs) ∙ ap (drop at) h.is ∙ drop-append-le at xs h.behind (omega (arith, inside)) in (
      ap has_nul there ∙ has_nul-append_true (drop at xs) h.behind ends,
      ap text there ∙ text-append (drop at xs) h.behind ends,
    )

-- an operation with its places moved
abbrev pub moved_operation : ℕ → MacroOperation → MacroOperation
moved_operation p End = End
moved_operation p (Inline defines line at len) = Inline defines line (p + at) len
moved_operation p (Named defines line field) = Named defines line (p + field)
moved_operation p (Enter line file) = Enter line file
moved_operation p Leave = Leave
moved_operation p (Bring field) = Bring (p + field)
moved_operation p Foreign = Foreign

-- an operation that was read, and the place behind it
abbrev pub read_as : MacroOperation → ℕ → Option (MacroOperation × ℕ)
read_as o n = Some (o, n)

-- that a whole operation at a place is this
abbrev There : List ℕ → ℕ → MacroOperation → ℕ → Option (MacroOperation × ℕ) → Type 0
There xs p o n x = x ≡ Some (moved_operation p o, p + n)

inline-there : (bs xs : List ℕ) (p : ℕ) (defines : Bool) (o : MacroOperation) (n : ℕ) → StandsAt bs xs p → 1 ≤ length xs
    → inline_operation xs defines 1 ≡ Some (o, n) → There xs p o n (inline_operation bs defines (p + 1))
unfolding inline_operation inline_behind
inline-there bs xs p defines o n h some e =
    let line = bound (λ (line : ℕ × ℕ). inline_behind xs defines line.0 (1 + line.1)) (uleb_at xs 1) (o, n) e in
    let at : ℕ = 1 + line.first.1 in
    let both = if-some (ends_in xs (1 + line.first.1)) (read_as (Inline defines line.first.0 (1 + line.first.1) (length (text_in xs (1 + line.first.1)))) (1 + line.first.1 + (length (text_in xs (1 + line.first.1)) + 1)))
    (o, n) line.rest in
    let number : uleb_at bs (p + 1) ≡ Some line.first = leb-there bs xs p 1 line.first h some line.is in
    let there = text-there bs xs p (1 + line.first.1) h both.0 in
    let same : ◌≡◌ {A = MacroOperation × ℕ} (Inline defines line.first.0 (1 + line.first.1) (length (text_in xs (1 + line.first.1))), 1 + line.first.1 + (length (text_in xs (1 + line.first.1)) + 1)) (o, n) =
    some-same (Inline defines line.first.0 (1 + line.first.1) (length (text_in xs (1 + line.first.1))), 1 + line.first.1 + (length (text_in xs (1 + line.first.1)) + 1)) (o, n) both.1 in
    let place : p + 1 + line.first.1 ≡ p + (1 + line.first.1) = omega arith in
    let end : p + (1 + line.first.1) + (length (text_in xs (1 + line.first.1)) + 1) ≡ p + (1 + line.first.1 + (length (text_in xs (1 + line.first.1)) + 1)) = omega arith in
    ap (option_and_then (λ (line : ℕ × ℕ). inline_behind bs defines line.0 (p + 1 + line.1))) number
    ∙ ap (λ (k : ℕ). inline_behind bs defines line.first.0 k) place
    ∙ text-read line.first.0 there.0 there.1
    ∙ ap (read_as (Inline defines line.first.0 (p + (1 + line.first.1)) (length (text_in xs (1 + line.first.1))))) end
    ∙ ap (λ (x : MacroOperation × ℕ). read_as (moved_operation p x.0) (p + x.1)) same
  where
    text-read : (line : ℕ) {at : ℕ} {t : List ℕ} → ends_in bs at ≡ true → text_in bs at ≡ t
        → (if ends_in bs at then read_as (Inline defines line at (length (text_in bs at))) (at + (length (text_in bs at) + 1)) else None)
        ≡ read_as (Inline defines line at (length t)) (at + (length t + 1))
    text-read line ends is = rw (ends, is) refl

enter-there : (bs xs : List ℕ) (p : ℕ) (o : MacroOperation) (n : ℕ) → StandsAt bs xs p → 1 ≤ length xs → n ≤ length xs
    → enter_operation xs 1 ≡ Some (o, n) → There xs p o n (enter_operation bs (p + 1))
unfolding enter_operation enter_behind
enter-there bs xs p o n h some within e =
    let line = bound (λ (line : ℕ × ℕ). enter_behind xs line.0 (1 + line.1)) (uleb_at xs 1) (o, n) e in
    let file = made (λ (file : ℕ × ℕ). (Enter line.first.0 file.0, 1 + line.first.1 + file.1)) (uleb_at xs (1 + line.first.1)) (o, n) line.rest in
    let size : 1 + line.first.1 + file.first.1 ≡ n = ap (λ (x : MacroOperation × ℕ). x.1) file.same in
    let number : uleb_at bs (p + 1) ≡ Some line.first = leb-there bs xs p 1 line.first h some line.is in
    let second : uleb_at bs (p + (1 + line.first.1)) ≡ Some file.first = leb-there bs xs p (1 + line.first.1) file.first h (omega (arith, size, within)) file.is in
    let place : p + 1 + line.first.1 ≡ p + (1 + line.first.1) = omega arith in
    let end : p + (1 + line.first.1) + file.first.1 ≡ p + (1 + line.first.1 + file.first.1) = omega arith in
    ap (option_and_then (λ (line : ℕ × ℕ). enter_behind bs line.0 (p + 1 + line.1))) number
    ∙ ap (λ (k : ℕ). enter_behind bs line.first.0 k) place
    ∙ ap (option_map (λ (file : ℕ × ℕ). (Enter line.first.0 file.0, p + (1 + line.first.1) + file.1))) second
    ∙ ap (read_as (Enter line.first.0 file.first.0)) end
    ∙ ap (λ (x : MacroOperation × ℕ). read_as (moved_operation p x.0) (p + x.1)) file.same

-- an operation that an offset follows isn't whole
named-part : (bs : List ℕ) (width : Width) (defines : Bool) (at : ℕ) (o : MacroOperation) (n : ℕ) (f : OperationFront) → named_operation bs width defines at ≡ Some (o, n)
    → whole_by o ≡ Some f → ⊥
unfolding named_operation named_behind
named-part bs width defines at o n f e kind =
    let line = bound (λ (line : ℕ × ℕ). named_behind bs width defines line.0 (at + line.1)) (uleb_at bs at) (o, n) e in
    let both = if-some (nat_le (at + line.first.1 + width_size width) (length bs)) (Some (Named defines line.first.0 (at + line.first.1), at + line.first.1 + width_size width)) (o, n) line.rest in
    let same : Named defines line.first.0 (at + line.first.1) ≡ o = ap (λ (x : MacroOperation × ℕ). x.0)
    (some-same (Named defines line.first.0 (at + line.first.1), at + line.first.1 + width_size width) (o, n) both.1) in
    clash (ap whole_by same ∙ kind)
  where
    clash : None ≡ Some f → ⊥
    clash g = cc

bring-part : (bs : List ℕ) (width : Width) (at : ℕ) (o : MacroOperation) (n : ℕ) (f : OperationFront) → bring_operation bs width at ≡ Some (o, n) → whole_by o ≡ Some f → ⊥
unfolding bring_operation
bring-part bs width at o n f e kind =
    let both = if-some (nat_le (at + width_size width) (length bs)) (Some (Bring at, at + width_size width)) (o, n) e in
    let same : Bring at ≡ o = ap (λ (x : MacroOperation × ℕ). x.0) (some-same (Bring at, at + width_size width) (o, n) both.1) in
    clash (ap whole_by same ∙ kind)
  where
    clash : None ≡ Some f → ⊥
    clash g = cc

-- the same test on both sides
if-there : {X Y : Type 0} (b : Bool) (x y : Option X) (u v : Option Y) (r : X) (s : Y) → (x ≡ Some r → u ≡ Some s) → (y ≡ Some r → v ≡ Some s)
    → (if b then x else y) ≡ Some r → (if b then u else v) ≡ Some s
if-there true x y u v r s f g e = f e
if-there false x y u v r s f g e = g e

plain-there : (bs xs : List ℕ) (width : Width) (p op : ℕ) (o : MacroOperation) (n : ℕ) (f : OperationFront) → StandsAt bs xs p → 1 ≤ length xs → n ≤ length xs
    → whole_by o ≡ Some f → plain_operation xs W32 op 1 ≡ Some (o, n) → There xs p o n (plain_operation bs width op (p + 1))
unfolding plain_operation
plain-there bs xs width p op o n f h some within kind e =
    if-there (op == MACRO_END) _ _ _ _ (o, n) (moved_operation p o, p + n) alone
    (if-there (op == DW_MACRO_start_file) _ _ _ _ (o, n) (moved_operation p o, p + n) (enter-there bs xs p o n h some within)
    (if-there (op == DW_MACRO_end_file) _ _ _ _ (o, n) (moved_operation p o, p + n) left
    (if-there (op == DW_MACRO_import) _ _ _ _ (o, n) (moved_operation p o, p + n) (λ g. absurd (bring-part xs W32 1 o n f g kind))
    (if-there (is_foreign op) _ _ _ _ (o, n) (moved_operation p o, p + n) foreign none)))) e
  where
    alone : read_as End 1 ≡ read_as o n → read_as End (p + 1) ≡ read_as (moved_operation p o) (p + n)
    alone g = ap (λ (x : MacroOperation × ℕ). read_as (moved_operation p x.0) (p + x.1)) (some-same (End, 1) (o, n) g)

    left : read_as Leave 1 ≡ read_as o n → read_as Leave (p + 1) ≡ read_as (moved_operation p o) (p + n)
    left g = ap (λ (x : MacroOperation × ℕ). read_as (moved_operation p x.0) (p + x.1)) (some-same (Leave, 1) (o, n) g)

    foreign : read_as Foreign 1 ≡ read_as o n → read_as Foreign (p + 1) ≡ read_as (moved_operation p o) (p + n)
    foreign g = ap (λ (x : MacroOperation × ℕ). read_as (moved_operation p x.0) (p + x.1)) (some-same (Foreign, 1) (o, n) g)

    none : None ≡ read_as o n → None ≡ read_as (moved_operation p o) (p + n)
    none g = absurd cc

operation-there : (bs xs : List ℕ) (width : Width) (p op : ℕ) (o : MacroOperation) (n : ℕ) (f : OperationFront) → StandsAt bs xs p → 1 ≤ length xs → n ≤ length xs
    → whole_by o ≡ Some f → operation_of xs W32 op 1 ≡ Some (o, n) → There xs p o n (operation_of bs width op (p + 1))
unfolding operation_of
operation-there bs xs width p op o n f h some within kind e =
    if-there (op == DW_MACRO_define) _ _ _ _ (o, n) (moved_operation p o, p + n) (inline-there bs xs p true o n h some)
    (if-there (op == DW_MACRO_undef) _ _ _ _ (o, n) (moved_operation p o, p + n) (inline-there bs xs p false o n h some)
    (if-there (op == DW_MACRO_define_strp) _ _ _ _ (o, n) (moved_operation p o, p + n) (λ g. absurd (named-part xs W32 true 1 o n f g kind))
    (if-there (op == DW_MACRO_undef_strp) _ _ _ _ (o, n) (moved_operation p o, p + n) (λ g. absurd (named-part xs W32 false 1 o n f g kind))
    (plain-there bs xs width p op o n f h some within kind)))) e

-- the operation at a place, by its first byte
at-there : (bs xs : List ℕ) (width : Width) (p : ℕ) → StandsAt bs xs p → 0 < length xs → operation_at bs width p ≡ operation_of bs width (slice_index xs 0) (p + 1)
unfolding operation_at
at-there bs xs width p h some =
    let inside = h.inside in
    rw (lt-ltb p (length bs) (omega (arith, inside, some)), byte-there bs xs p h some) refl

-- a whole operation that stands at a place
pub record WholeAt (f : OperationFront) (bs xs : List ℕ) (width : Width) (p : ℕ) : Type 0 where
  pub operation : MacroOperation
  pub own : operation_of xs W32 (slice_index xs 0) 1 ≡ Some (operation, length xs)
  pub kind : whole_by operation ≡ Some f
  pub is : operation_at bs width p ≡ Some (moved_operation p operation, p + length xs)

-- what stands at the place of the cells in front of an offset, or of a whole operation
abbrev pub FrontAt : OperationFront → List ℕ → List ℕ → Width → ℕ → Type 0
FrontAt whole bs xs width p = WholeAt whole bs xs width p
FrontAt last bs xs width p = WholeAt last bs xs width p
FrontAt (before_offset (of_text defines line)) bs xs width p =
    operation_at bs width p ≡ Some (Named defines line (p + length xs), p + length xs + width_size width)
FrontAt (before_offset of_unit) bs xs width p = operation_at bs width p ≡ Some (Bring (p + length xs), p + length xs + width_size width)

-- with room for an offset behind it
pub record FrontRoom (bs xs : List ℕ) (width : Width) (p : ℕ) : Type 0 where
  pub room : p + length xs + width_size width ≤ length bs

-- such rooms are asked of what an offset follows
abbrev pub RoomFor : OperationFront → List ℕ → List ℕ → Width → ℕ → Type 0
RoomFor whole bs xs width p = ⊤
RoomFor last bs xs width p = ⊤
RoomFor (before_offset names) bs xs width p = FrontRoom bs xs width p

line-there : (bs xs : List ℕ) (width : Width) (p : ℕ) (defines : Bool) (f : OperationFront) → StandsAt bs xs p → 1 ≤ length xs → RoomFor f bs xs width p
    → line_if defines (length xs) (uleb_at xs 1) ≡ Some f
    → ((line : ℕ) → f ≡ before_offset (of_text defines line) → named_operation bs width defines (p + 1) ≡ Some (Named defines line (p + length xs), p + length xs + width_size width) → FrontAt f bs xs width p)
    → FrontAt f bs xs width p
unfolding named_operation named_behind
line-there bs xs width p defines f h some room e done = by_line (uleb_at xs 1) refl e
  where
    by_line : (v : Option (ℕ × ℕ)) → uleb_at xs 1 ≡ v → line_if defines (length xs) v ≡ Some f → FrontAt f bs xs width p
    by_line None is e = absurd cc
    by_line (Some v) is e =
        let both = if-some (1 + v.1 == length xs) (Some (before_offset (of_text defines v.0))) f e in
        let size : 1 + v.1 ≡ length xs = eqb-true (1 + v.1) (length xs) both.0 in
        let same : before_offset (of_text defines v.0) ≡ f = some-same (before_offset (of_text defines v.0)) f both.1 in
        let own : FrontRoom bs xs width p = subst (λ (x : OperationFront). RoomFor x bs xs width p) (sym same) room in
        let fits = own.room in
        let number : uleb_at bs (p + 1) ≡ Some v = leb-there bs xs p 1 v h some is in
        let place : p + 1 + v.1 ≡ p + length xs = omega (arith, size) in
        done v.0 (sym same)
        (ap (option_and_then (λ (line : ℕ × ℕ). named_behind bs width defines line.0 (p + 1 + line.1))) number
        ∙ ap (λ (k : ℕ). named_behind bs width defines v.0 k) place ∙ rw (le-leb (p + length xs + width_size width) (length bs) (omega (arith, fits))) refl)

front-by : (bs xs : List ℕ) (width : Width) (p op : ℕ) (f : OperationFront) → StandsAt bs xs p → 1 ≤ length xs → slice_index xs 0 ≡ op → RoomFor f bs xs width p
    → front_by xs op ≡ Some f → FrontAt f bs xs width p
unfolding front_by operation_of plain_operation bring_operation
front-by bs xs width p op f h some byte room e = by_define (op == DW_MACRO_define_strp) refl e
  where
    here : operation_at bs width p ≡ operation_of bs width op (p + 1)
    here = at-there bs xs width p h (omega (arith, some)) ∙ ap (λ (k : ℕ). operation_of bs width k (p + 1)) byte

    by_front : (x : OperationFront) → RoomFor x bs xs width p → (o : MacroOperation) → operation_of xs W32 op 1 ≡ Some (o, length xs) → whole_by o ≡ Some x → FrontAt x bs xs width p
    by_front whole r o is kind = record {
      operation = o;
      own = ap (λ (k : ℕ). operation_of xs W32 k 1) byte ∙ is;
      kind = kind;
      is = here ∙ operation-there bs xs width p op o (length xs) whole h some (omega arith) kind is;
    }
    by_front last r o is kind = record {
      operation = o;
      own = ap (λ (k : ℕ). operation_of xs W32 k 1) byte ∙ is;
      kind = kind;
      is = here ∙ operation-there bs xs width p op o (length xs) last h some (omega arith) kind is;
    }
    by_front (before_offset names) r o is kind = absurd (no_offset o kind)
      where
        no_offset : (o : MacroOperation) → whole_by o ≡ Some (before_offset names) → ⊥
        no_offset End k = cc
        no_offset (Inline d l a n) k = cc
        no_offset (Named d l a) k = cc
        no_offset (Enter l a) k = cc
        no_offset Leave k = cc
        no_offset (Bring a) k = cc
        no_offset Foreign k = cc

    by_whole : (x : Option (MacroOperation × ℕ)) → operation_of xs W32 op 1 ≡ x → whole_if (length xs) x ≡ Some f → FrontAt f bs xs width p
    by_whole None is e = absurd cc
    by_whole (Some o) is e =
        let both = if-some (o.1 == length xs) (whole_by o.0) f e in
        let size : o.1 ≡ length xs = eqb-true o.1 (length xs) both.0 in
        by_front f room o.0 (is ∙ ap (λ (n : ℕ). Some (o.0, n)) size) both.1

    by_import : (b : Bool) → (op == DW_MACRO_import) ≡ b
        → (if b then (if length xs == 1 then Some (before_offset of_unit) else None) else whole_if (length xs) (operation_of xs W32 op 1)) ≡ Some f → FrontAt f bs xs width p
    by_import false is e = by_whole (operation_of xs W32 op 1) refl e
    by_import true is e =
        let both = if-some (length xs == 1) (Some (before_offset of_unit)) f e in
        let size : length xs ≡ 1 = eqb-true (length xs) 1 both.0 in
        let same : before_offset of_unit ≡ f = some-same (before_offset of_unit) f both.1 in
        let own : FrontRoom bs xs width p = subst (λ (x : OperationFront). RoomFor x bs xs width p) (sym same) room in
        let fits = own.room in
        let op_is : op ≡ DW_MACRO_import = eqb-true op DW_MACRO_import is in
        let place : p + 1 ≡ p + length xs = omega (arith, size) in
        subst (λ (x : OperationFront). FrontAt x bs xs width p) same
        (here ∙ ap (λ (k : ℕ). operation_of bs width k (p + 1)) op_is ∙ ap (bring_operation bs width) place
        ∙ rw (le-leb (p + length xs + width_size width) (length bs) (omega (arith, fits))) refl)

    by_undef : (b : Bool) → (op == DW_MACRO_undef_strp) ≡ b
        → (if b then line_if false (length xs) (uleb_at xs 1) else (if op == DW_MACRO_import then (if length xs == 1 then Some (before_offset of_unit) else None) else whole_if (length xs) (operation_of xs W32 op 1))) ≡ Some f
        → FrontAt f bs xs width p
    by_undef false is e = by_import (op == DW_MACRO_import) refl e
    by_undef true is e =
        let op_is : op ≡ DW_MACRO_undef_strp = eqb-true op DW_MACRO_undef_strp is in
        line-there bs xs width p false f h some room e
        (λ line same there. subst (λ (x : OperationFront). FrontAt x bs xs width p) (sym same) (here ∙ ap (λ (k : ℕ). operation_of bs width k (p + 1)) op_is ∙ there))

    by_define : (b : Bool) → (op == DW_MACRO_define_strp) ≡ b
        → (if b then line_if true (length xs) (uleb_at xs 1) else (if op == DW_MACRO_undef_strp then line_if false (length xs) (uleb_at xs 1)
        else (if op == DW_MACRO_import then (if length xs == 1 then Some (before_offset of_unit) else None) else whole_if (length xs) (operation_of xs W32 op 1)))) ≡ Some f
        → FrontAt f bs xs width p
    by_define false is e = by_undef (op == DW_MACRO_undef_strp) refl e
    by_define true is e =
        let op_is : op ≡ DW_MACRO_define_strp = eqb-true op DW_MACRO_define_strp is in
        line-there bs xs width p true f h some room e
        (λ line same there. subst (λ (x : OperationFront). FrontAt x bs xs width p) (sym same) (here ∙ ap (λ (k : ℕ). operation_of bs width k (p + 1)) op_is ∙ there))

pub front-some : (xs : List ℕ) (f : OperationFront) → front_of xs ≡ Some f → (1 ≤ length xs) × (front_by xs (slice_index xs 0) ≡ Some f)
unfolding front_of
front-some xs f e =
    let both = if-some (nat_lt 0 (length xs)) (front_by xs (slice_index xs 0)) f e in
    let some = ltb-true 0 (length xs) both.0 in
    (omega (arith, some), both.1)

-- the operation at the place of these cells
pub front-there : (bs xs : List ℕ) (width : Width) (p : ℕ) (f : OperationFront) → StandsAt bs xs p → RoomFor f bs xs width p → front_of xs ≡ Some f → FrontAt f bs xs width p
front-there bs xs width p f h room e =
    let some = front-some xs f e in
    front-by bs xs width p (slice_index xs 0) f h some.0 refl room some.1

-- where its offset stands, or where it ends
abbrev pub end_by : MacroOperation → ℕ → ℕ
end_by End next = next
end_by (Inline defines line at len) next = next
end_by (Named defines line field) next = field
end_by (Enter line file) next = next
end_by Leave next = next
end_by (Bring field) next = field
end_by Foreign next = next

abbrev front_end : MacroOperation × ℕ → ℕ
front_end x = end_by x.0 x.1

whole-end : (f : OperationFront) (p n : ℕ) (o : MacroOperation) → whole_by o ≡ Some f → end_by (moved_operation p o) n ≡ n
whole-end f p n End k = refl
whole-end f p n (Inline d l a m) k = refl
whole-end f p n (Named d l a) k = absurd cc
whole-end f p n (Enter l a) k = refl
whole-end f p n Leave k = refl
whole-end f p n (Bring a) k = absurd cc
whole-end f p n Foreign k = absurd cc

front-ends : (f : OperationFront) (bs xs : List ℕ) (width : Width) (p : ℕ) → FrontAt f bs xs width p → option_map front_end (operation_at bs width p) ≡ Some (p + length xs)
front-ends whole bs xs width p w = ap (option_map front_end) w.is ∙ ap (λ (k : ℕ). Some k) (whole-end whole p (p + length xs) w.operation w.kind)
front-ends last bs xs width p w = ap (option_map front_end) w.is ∙ ap (λ (k : ℕ). Some k) (whole-end last p (p + length xs) w.operation w.kind)
front-ends (before_offset (of_text defines line)) bs xs width p w = ap (option_map front_end) w
front-ends (before_offset of_unit) bs xs width p w = ap (option_map front_end) w

room-for : (f : OperationFront) (bs xs : List ℕ) (width : Width) (p : ℕ) → p + length xs + width_size width ≤ length bs → RoomFor f bs xs width p
room-for whole bs xs width p h = tt
room-for last bs xs width p h = tt
room-for (before_offset names) bs xs width p h = record { room = h }

-- of two fronts of the same cells each has the other's length
abbrev padded : (p r : List Cell) → List ℕ
padded p r = bytes_of (p ++ r) ++ 0 ∷ 0 ∷ 0 ∷ 0 ∷ []

padded-end : (p r : List Cell) (f : OperationFront) → front_of (bytes_of p) ≡ Some f → option_map front_end (operation_at (padded p r) W32 0) ≡ Some (length p)
padded-end p r f e =
    let bytes : bytes_of (p ++ r) ++ (0 ∷ 0 ∷ 0 ∷ 0 ∷ []) ≡ bytes_of p ++ (bytes_of r ++ (0 ∷ 0 ∷ 0 ∷ 0 ∷ [])) =
    ap (λ (l : List ℕ). l ++ (0 ∷ 0 ∷ 0 ∷ 0 ∷ [])) (bytes_of-append p r) ∙ append_assoc (bytes_of p) (bytes_of r) (0 ∷ 0 ∷ 0 ∷ 0 ∷ []) in
    let size : length (bytes_of (p ++ r) ++ (0 ∷ 0 ∷ 0 ∷ 0 ∷ [])) ≡ length (bytes_of p) + (length (bytes_of r) + 4) =
    ap length bytes ∙ length-append (bytes_of p) (bytes_of r ++ (0 ∷ 0 ∷ 0 ∷ 0 ∷ [])) ∙ ap (λ (k : ℕ). length (bytes_of p) + k) (length-append (bytes_of r) (0 ∷ 0 ∷ 0 ∷ 0 ∷ [])) in
    let stands : StandsAt (bytes_of (p ++ r) ++ (0 ∷ 0 ∷ 0 ∷ 0 ∷ [])) (bytes_of p) 0 =
    record { behind = bytes_of r ++ (0 ∷ 0 ∷ 0 ∷ 0 ∷ []); is = bytes; inside = omega (arith, size) } in
    front-ends f (bytes_of (p ++ r) ++ (0 ∷ 0 ∷ 0 ∷ 0 ∷ [])) (bytes_of p) W32 0
    (front-there (bytes_of (p ++ r) ++ (0 ∷ 0 ∷ 0 ∷ 0 ∷ [])) (bytes_of p) W32 0 f stands
    (room-for f (bytes_of (p ++ r) ++ (0 ∷ 0 ∷ 0 ∷ 0 ∷ [])) (bytes_of p) W32 0 (omega (arith, size))) e)
    ∙ ap (λ (k : ℕ). Some k) (ap (λ (k : ℕ). 0 + k) (length-bytes_of p) ∙ omega arith)

front-same : (p q r t : List Cell) (f g : OperationFront) → front_of (bytes_of p) ≡ Some f → front_of (bytes_of q) ≡ Some g → p ++ r ≡ q ++ t → length p ≡ length q
front-same p q r t f g e k same =
    some-same (length p) (length q)
    (sym (padded-end p r f e) ∙ ap (λ (l : List Cell). option_map front_end (operation_at (bytes_of l ++ 0 ∷ 0 ∷ 0 ∷ 0 ∷ []) W32 0)) same ∙ padded-end q t g k)

macros-same : (m : MacroMode) (order : Order) (p q r t : List Cell) → FitsMacros m order p → FitsMacros m order q → p ++ r ≡ q ++ t → length p ≡ length q
macros-same at_unit order p q r t f g same = f.size ∙ sym g.size
macros-same (at_line width) order p q r t f g same = f ∙ sym g
macros-same (at_operation width) order p q r t f g same = front-same p q r t f.front g.front f.is g.is same
macros-same (at_offset width names) order p q r t f g same = f ∙ sym g
macros-same no_macros order p q r t f g same = absurd f

-- each piece has a cell
width-some : (width : Width) → 0 < width_size width
width-some W32 = omega arith
width-some W64 = omega arith

macros-some : (m : MacroMode) (order : Order) (p : List Cell) → FitsMacros m order p → 0 < length p
macros-some at_unit order p f = omega (arith, f.size)
macros-some (at_line width) order p f = omega (arith, f, width-some width)
macros-some (at_operation width) order p f =
    let some = (front-some (bytes_of p) f.front f.is).0 in
    omega (arith, some, length-bytes_of p)
macros-some (at_offset width names) order p f = omega (arith, f, width-some width)
macros-some no_macros order p f = absurd f

none-some : (p rest : List Cell) → 0 < length p → [] ≡ p ++ rest → ⊥
none-some p rest some e =
    let size : 0 ≡ length (p ++ rest) = ap length e in
    omega (arith, size, length-append p rest, some)

-- so cells are macro units in one way
macros-unique : (order : Order) (s : MacroState) (xs ys : List (Piece MacroState)) → Chain (macro_grammar order) s xs → Chain (macro_grammar order) s ys
    → joined xs ≡ joined ys → xs ≡ ys
macros-unique order s [] [] c d e = refl
macros-unique order s [] (y ∷ ys) c d e = absurd (none-some y.cells (joined ys) (macros-some y.state.mode order y.cells d.1) e)
macros-unique order s (x ∷ xs) [] c d e = absurd (none-some x.cells (joined xs) (macros-some x.state.mode order x.cells c.1) (sym e))
macros-unique order s (x ∷ xs) (y ∷ ys) c d e =
    let state : x.state ≡ y.state = c.0 ∙ sym d.0 in
    let fit_y : FitsMacros x.state.mode order y.cells = subst (λ (z : MacroState). FitsMacros z.mode order y.cells) (sym state) d.1 in
    let size : length x.cells ≡ length y.cells = macros-same x.state.mode order x.cells y.cells (joined xs) (joined ys) c.1 fit_y e in
    let cells : x.cells ≡ y.cells = front_same x.cells y.cells (joined xs) (joined ys) size e in
    let behind : joined xs ≡ joined ys = back_same x.cells y.cells (joined xs) (joined ys) size e in
    let next : (macro_grammar order).next y.state y.cells ≡ (macro_grammar order).next x.state x.cells =
    ap (λ (z : MacroState). (macro_grammar order).next z y.cells) (sym state) ∙ ap ((macro_grammar order).next x.state) (sym cells) in
    let tail : Chain (macro_grammar order) ((macro_grammar order).next x.state x.cells) ys =
    subst (λ (z : MacroState). Chain (macro_grammar order) z ys) next d.2 in
    let rest : xs ≡ ys = macros-unique order ((macro_grammar order).next x.state x.cells) xs ys c.2 tail behind in
    ap (λ (z : Piece MacroState). z ∷ xs) (step_same x y state cells) ∙ ap (λ (zs : List (Piece MacroState)). y ∷ zs) rest

pub macros-one : (order : Order) (contents : List Cell) (xs ys : List (Piece MacroState)) → ReadsMacros order contents xs → ReadsMacros order contents ys → xs ≡ ys
macros-one order contents xs ys r t = macros-unique order (macros_at 0 at_unit) xs ys r.chain t.chain (r.cells ∙ sym t.cells)

macro-reading-same : (r t : MacroReading) → r.number ≡ t.number → r.pieces ≡ t.pieces → r ≡ t
macro-reading-same r t number pieces =
    ap (λ (n : ℕ). record { number = n; pieces = r.pieces }) number ∙ ap (λ (xs : List (Piece MacroState)). record { number = t.number; pieces = xs }) pieces

-- and so are all sections
pub all-macros-one : (order : Order) (zs : List CellSection) (rs qs : List MacroReading) → ReadsAllMacros order zs rs → ReadsAllMacros order zs qs → rs ≡ qs
all-macros-one order [] [] [] a b = refl
all-macros-one order [] [] (q ∷ qs) a b = absurd b
all-macros-one order [] (r ∷ rs) qs a b = absurd a
all-macros-one order (z ∷ zs) [] qs a b = absurd a
all-macros-one order (z ∷ zs) (r ∷ rs) [] a b = absurd b
all-macros-one order (z ∷ zs) (r ∷ rs) (q ∷ qs) a b =
    ap (λ (x : MacroReading). x ∷ rs) (macro-reading-same r q (a.0 ∙ sym b.0) (macros-one order z.contents r.pieces q.pieces a.1 b.1))
    ∙ ap (λ (xs : List MacroReading). q ∷ xs) (all-macros-one order zs rs qs a.2 b.2)
