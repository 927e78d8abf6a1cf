-- An operation that stands at a place is the cells in front of its offset, or all of them where it has none.
use Rattle.std.specs.Bool.{⊤}
use Rattle.std.proofs.Common.{Bool, true, false, ◌≡◌, ◌≢◌, ℕ, ◌+◌, ◌<◌, ◌≤◌, ◌==◌, nat_lt, nat_le, List, [], length, take, drop, slice_index, Option, Some, None, refl, sym, ap, ◌∙◌, subst, arith, if◌then◌else◌}
use Rattle.std.proofs.lemmas.Bool.{eqb-true, eq-eqb, leb-true, lt-ltb, ltb-true}
use Rattle.std.proofs.lemmas.List.{append-nil, length-drop, length-take-le, take-append-drop}
use Rattle.dw_base.specs.Forms.{width_size}
use Rattle.dw_base.specs.Lebs.{uleb_at}
use Rattle.dw_base.specs.MacroOperations.{inline_behind, inline_operation, named_behind, named_operation, enter_behind, enter_operation, bring_operation, is_foreign, plain_operation, operation_of, operation_at}
use Rattle.dw_base.specs.MacroPieces.{of_text, of_unit, OperationFront, whole, last, before_offset, whole_by, whole_if, line_if, front_by, front_of}
use Rattle.dw_base.specs.Texts.{ends_in, text_in}
use Rattle.dw_base.specs.declared.macro_numbers.TheConstants.{MACRO_END, DW_MACRO_define, DW_MACRO_undef, DW_MACRO_start_file, DW_MACRO_end_file, DW_MACRO_define_strp, DW_MACRO_undef_strp, DW_MACRO_import}
use Rattle.dw_base.specs.declared.macro_units.MacroOperation.{MacroOperation}
use Rattle.dw_base.specs.declared.macro_units.MacroOperation.TheVariants.{End, Inline, Named, Enter, Leave, Bring, Foreign}
use Rattle.dw_base.specs.declared.shared.Width.{Width}
use Rattle.dw_base.proofs.ContributionBackLaws.{StandsAt}
use Rattle.dw_base.proofs.NumberBytes.{number-cut}
use Rattle.dw_base.proofs.TextLaws.{length-text}
use Rattle.dw_meaning.proofs.LineReadLaws.{Both, stands-behind, uleb-both, text-both, bound, made, if-some, some-same}
use Rattle.dw_meaning.proofs.MacroReadLaws.{byte-there, end_by, read_as}

-- so many bytes at a place
pub cut-stands : (bs : List ℕ) (p n : ℕ) → p + n ≤ length bs → StandsAt bs (take n (drop p bs)) p
cut-stands bs p n h =
    let size : length (take n (drop p bs)) ≡ n = length-take-le n (drop p bs) (omega (arith, h, length-drop p bs)) in
    record { behind = drop n (drop p bs); is = sym (take-append-drop n (drop p bs)); inside = omega (arith, size, h) }

pub cut-length : (bs : List ℕ) (p n : ℕ) → p + n ≤ length bs → length (take n (drop p bs)) ≡ n
cut-length bs p n h = length-take-le n (drop p bs) (omega (arith, h, length-drop p bs))

-- what stands behind the first of them stands in them
own-both : (bs xs : List ℕ) (p k : ℕ) → StandsAt bs xs p → k ≤ length xs → Both bs xs (drop k xs) (p + k) k
own-both bs xs p k h le = record {
  was = stands-behind bs xs p k h le;
  is = record { behind = []; is = sym (append-nil (drop k xs)); inside = omega (arith, le, length-drop k xs) };
}

-- what the first byte and the others are as a front
front-of : (bs : List ℕ) (p n k : ℕ) (f : OperationFront) → p + n ≤ length bs → 0 < n → slice_index bs p ≡ k → front_by (take n (drop p bs)) k ≡ Some f
    → front_of (take n (drop p bs)) ≡ Some f
unfolding front_of
front-of bs p n k f h some byte e =
    let size = cut-length bs p n h in
    let own : slice_index (take n (drop p bs)) 0 ≡ k = sym (byte-there bs (take n (drop p bs)) p (cut-stands bs p n h) (omega (arith, size, some))) ∙ byte in
    rw (lt-ltb 0 (length (take n (drop p bs))) (omega (arith, size, some)), own) e

-- which cells stand in front of its offset, or are all of it
abbrev pub front_kind : MacroOperation → Option OperationFront
front_kind End = Some last
front_kind (Inline defines line at len) = Some whole
front_kind (Named defines line field) = Some (before_offset (of_text defines line))
front_kind (Enter line file) = Some whole
front_kind Leave = Some whole
front_kind (Bring field) = Some (before_offset of_unit)
front_kind Foreign = None

-- an offset behind them ends in the bytes
abbrev pub OffsetBehind : MacroOperation → ℕ → Width → List ℕ → Type 0
OffsetBehind (Named defines line field) next width bs = (next ≡ field + width_size width) × (next ≤ length bs)
OffsetBehind (Bring field) next width bs = (next ≡ field + width_size width) × (next ≤ length bs)
OffsetBehind o next width bs = ⊤

-- the cells of an operation at a place
pub record FrontCut (bs : List ℕ) (width : Width) (p : ℕ) (o : MacroOperation) (next : ℕ) : Type 0 where
  pub size : ℕ
  pub kind : OperationFront
  pub some : 0 < size
  pub end : end_by o next ≡ p + size
  pub within : p + size ≤ length bs
  pub front : front_of (take size (drop p bs)) ≡ Some kind
  pub is : front_kind o ≡ Some kind
  pub offset : OffsetBehind o next width bs

-- all these bytes are a whole operation
whole-front : (xs : List ℕ) (k : ℕ) (x : Option (MacroOperation × ℕ)) (o : MacroOperation) (f : OperationFront) → front_by xs k ≡ whole_if (length xs) x → x ≡ Some (o, length xs)
    → whole_by o ≡ Some f → front_by xs k ≡ Some f
whole-front xs k x o f by is own =
    by ∙ ap (whole_if (length xs)) is ∙ ap (λ (b : Bool). if b then whole_by o else None) (eq-eqb (length xs) (length xs) refl) ∙ own

-- the number behind the first byte
leb-own : (bs xs : List ℕ) (p at v k : ℕ) → StandsAt bs xs p → uleb_at bs (p + at) ≡ Some (v, k) → at + k ≤ length xs → uleb_at xs at ≡ Some (v, k)
leb-own bs xs p at v k h e le =
    uleb-both bs xs (drop at xs) (p + at) at v k (own-both bs xs p at h (omega (arith, le))) e (omega (arith, le, length-drop at xs))

leb-room : (bs : List ℕ) (at v k : ℕ) → uleb_at bs at ≡ Some (v, k) → at ≤ length bs → at + k ≤ length bs
leb-room bs at v k e le =
    let within = (number-cut bs at v k e).1 in
    omega (arith, le, within, length-drop at bs)

text-room : (bs : List ℕ) (at : ℕ) → ends_in bs at ≡ true → at + (length (text_in bs at) + 1) ≤ length bs
unfolding ends_in text_in
text-room bs at e =
    let inside = length-text (drop at bs) e in
    omega (arith, inside, length-drop at bs)

inline-own : (bs xs : List ℕ) (p v k len : ℕ) (defines : Bool) → StandsAt bs xs p → length xs ≡ 1 + k + (len + 1) → uleb_at bs (p + 1) ≡ Some (v, k) → ends_in bs (p + (1 + k)) ≡ true
    → length (text_in bs (p + (1 + k))) ≡ len → inline_operation xs defines 1 ≡ read_as (Inline defines v (1 + k) len) (length xs)
unfolding inline_operation inline_behind
inline-own bs xs p v k len defines h size number ends is =
    let own : uleb_at xs 1 ≡ Some (v, k) = leb-own bs xs p 1 v k h number (omega (arith, size)) in
    let text_is = text-both bs xs (drop (1 + k) xs) (p + (1 + k)) (1 + k) (own-both bs xs p (1 + k) h (omega (arith, size))) ends (omega (arith, size, is, length-drop (1 + k) xs)) in
    let same : length (text_in xs (1 + k)) ≡ len = ap length text_is.1 ∙ is in
    rw (own, text_is.0, same) (ap (read_as (Inline defines v (1 + k) len)) (sym size))

enter-own : (bs xs : List ℕ) (p v k w j : ℕ) → StandsAt bs xs p → length xs ≡ 1 + k + j → uleb_at bs (p + 1) ≡ Some (v, k) → uleb_at bs (p + (1 + k)) ≡ Some (w, j)
    → enter_operation xs 1 ≡ read_as (Enter v w) (length xs)
unfolding enter_operation enter_behind
enter-own bs xs p v k w j h size number file =
    let own : uleb_at xs 1 ≡ Some (v, k) = leb-own bs xs p 1 v k h number (omega (arith, size)) in
    let second : uleb_at xs (1 + k) ≡ Some (w, j) = leb-own bs xs p (1 + k) w j h file (omega (arith, size)) in
    rw (own, second) (ap (read_as (Enter v w)) (sym size))

-- an operation without an offset
whole-cut : (bs : List ℕ) (width : Width) (p n k : ℕ) (o own : MacroOperation) (f : OperationFront) (x : List ℕ → Option (MacroOperation × ℕ)) → p + n ≤ length bs → 0 < n
    → slice_index bs p ≡ k → ((xs : List ℕ) → front_by xs k ≡ whole_if (length xs) (x xs)) → x (take n (drop p bs)) ≡ Some (own, length (take n (drop p bs))) → whole_by own ≡ Some f
    → front_kind o ≡ Some f → end_by o (p + n) ≡ p + n → OffsetBehind o (p + n) width bs → FrontCut bs width p o (p + n)
whole-cut bs width p n k o own f x within some byte by is kind front end offset = record {
  size = n;
  kind = f;
  some = some;
  end = end;
  within = within;
  front = front-of bs p n k f within some byte (whole-front (take n (drop p bs)) k (x (take n (drop p bs))) own f (by (take n (drop p bs))) is kind);
  is = front;
  offset = offset;
}

-- what was read, as another pair
as-read : (bs : List ℕ) (width : Width) (p n m next : ℕ) (r o : MacroOperation) → n ≡ m → read_as r m ≡ read_as o next → FrontCut bs width p r n → FrontCut bs width p o next
as-read bs width p n m next r o same e cut =
    subst (λ (x : MacroOperation × ℕ). FrontCut bs width p x.0 x.1) (some-same (r, m) (o, next) e) (subst (FrontCut bs width p r) same cut)

-- one that is a byte alone
alone-cut : (bs : List ℕ) (width : Width) (p k : ℕ) (o r : MacroOperation) (next : ℕ) (f : OperationFront) → p < length bs → slice_index bs p ≡ k
    → ((xs : List ℕ) → front_by xs k ≡ whole_if (length xs) (read_as r 1)) → front_kind r ≡ Some f → whole_by r ≡ Some f → end_by r (p + 1) ≡ p + 1 → OffsetBehind r (p + 1) width bs
    → read_as r (p + 1) ≡ read_as o next → FrontCut bs width p o next
alone-cut bs width p k o r next f lt byte by kind own end offset e =
    let size : 1 ≡ length (take 1 (drop p bs)) = sym (cut-length bs p 1 (omega (arith, lt))) in
    as-read bs width p (p + 1) (p + 1) next r o refl e
    (whole-cut bs width p 1 k r r f (λ xs. read_as r 1) (omega (arith, lt)) (omega arith) byte by (ap (read_as r) size) own kind end offset)

inline-cut : (bs : List ℕ) (width : Width) (p k : ℕ) (defines : Bool) (o : MacroOperation) (next : ℕ) → slice_index bs p ≡ k
    → ((xs : List ℕ) → front_by xs k ≡ whole_if (length xs) (inline_operation xs defines 1)) → inline_operation bs defines (p + 1) ≡ Some (o, next) → FrontCut bs width p o next
unfolding inline_operation inline_behind
inline-cut bs width p k defines o next byte by e =
    let line = bound (λ (line : ℕ × ℕ). inline_behind bs defines line.0 (p + 1 + line.1)) (uleb_at bs (p + 1)) (o, next) e in
    with_line line.first.0 line.first.1 line.is line.rest
  where
    with_text : (v j at len : ℕ) → at ≡ p + (1 + j) → uleb_at bs (p + 1) ≡ Some (v, j) → ends_in bs at ≡ true → length (text_in bs at) ≡ len → read_as (Inline defines v at len) (at + (len + 1)) ≡ read_as o next → FrontCut bs width p o next
    with_text v j at len place number ends is read =
        let here : ends_in bs (p + (1 + j)) ≡ true = ap (ends_in bs) (sym place) ∙ ends in
        let own_len : length (text_in bs (p + (1 + j))) ≡ len = ap (λ (a : ℕ). length (text_in bs a)) (sym place) ∙ is in
        let room = text-room bs (p + (1 + j)) here in
        let within : p + (1 + j + (len + 1)) ≤ length bs = omega (arith, room, own_len) in
        let n : ℕ = 1 + j + (len + 1) in
        let end : p + (1 + j + (len + 1)) ≡ at + (len + 1) = omega (arith, place) in
        as-read bs width p (p + (1 + j + (len + 1))) (at + (len + 1)) next (Inline defines v at len) o end read
        (whole-cut bs width p (1 + j + (len + 1)) k (Inline defines v at len) (Inline defines v (1 + j) len) whole (λ xs. inline_operation xs defines 1) within (omega arith) byte by
        (inline-own bs (take (1 + j + (len + 1)) (drop p bs)) p v j len defines (cut-stands bs p (1 + j + (len + 1)) within) (cut-length bs p (1 + j + (len + 1)) within) number here own_len)
        refl refl refl tt)

    with_line : (v j : ℕ) → uleb_at bs (p + 1) ≡ Some (v, j) → inline_behind bs defines v (p + 1 + j) ≡ Some (o, next) → FrontCut bs width p o next
    with_line v j number rest =
        let both = if-some (ends_in bs (p + 1 + j)) (read_as (Inline defines v (p + 1 + j) (length (text_in bs (p + 1 + j)))) (p + 1 + j + (length (text_in bs (p + 1 + j)) + 1))) (o, next) rest in
        with_text v j (p + 1 + j) (length (text_in bs (p + 1 + j))) (omega arith) number both.0 refl both.1

enter-cut : (bs : List ℕ) (width : Width) (p k : ℕ) (o : MacroOperation) (next : ℕ) → p < length bs → slice_index bs p ≡ k
    → ((xs : List ℕ) → front_by xs k ≡ whole_if (length xs) (enter_operation xs 1)) → enter_operation bs (p + 1) ≡ Some (o, next) → FrontCut bs width p o next
unfolding enter_operation enter_behind
enter-cut bs width p k o next lt byte by e =
    let line = bound (λ (line : ℕ × ℕ). enter_behind bs line.0 (p + 1 + line.1)) (uleb_at bs (p + 1)) (o, next) e in
    let file = made (λ (file : ℕ × ℕ). (Enter line.first.0 file.0, p + 1 + line.first.1 + file.1)) (uleb_at bs (p + 1 + line.first.1)) (o, next) line.rest in
    with_both line.first.0 line.first.1 file.first.0 file.first.1 line.is file.is (ap (λ (x : MacroOperation × ℕ). read_as x.0 x.1) file.same)
  where
    with_both : (v j w i : ℕ) → uleb_at bs (p + 1) ≡ Some (v, j) → uleb_at bs (p + 1 + j) ≡ Some (w, i) → read_as (Enter v w) (p + 1 + j + i) ≡ read_as o next → FrontCut bs width p o next
    with_both v j w i number file read =
        let place : p + 1 + j ≡ p + (1 + j) = omega arith in
        let second : uleb_at bs (p + (1 + j)) ≡ Some (w, i) = ap (uleb_at bs) (sym place) ∙ file in
        let first_room = leb-room bs (p + 1) v j number (omega (arith, lt)) in
        let room = leb-room bs (p + (1 + j)) w i second (omega (arith, first_room)) in
        let within : p + (1 + j + i) ≤ length bs = omega (arith, room) in
        let end : p + (1 + j + i) ≡ p + 1 + j + i = omega arith in
        as-read bs width p (p + (1 + j + i)) (p + 1 + j + i) next (Enter v w) o end read
        (whole-cut bs width p (1 + j + i) k (Enter v w) (Enter v w) whole (λ xs. enter_operation xs 1) within (omega arith) byte by
        (enter-own bs (take (1 + j + i) (drop p bs)) p v j w i (cut-stands bs p (1 + j + i) within) (cut-length bs p (1 + j + i) within) number second)
        refl refl refl tt)

-- and those with one
named-cut : (bs : List ℕ) (width : Width) (p k : ℕ) (defines : Bool) (o : MacroOperation) (next : ℕ) → p < length bs → slice_index bs p ≡ k
    → ((xs : List ℕ) → front_by xs k ≡ line_if defines (length xs) (uleb_at xs 1)) → named_operation bs width defines (p + 1) ≡ Some (o, next) → FrontCut bs width p o next
unfolding named_operation named_behind
named-cut bs width p k defines o next lt byte by e =
    let line = bound (λ (line : ℕ × ℕ). named_behind bs width defines line.0 (p + 1 + line.1)) (uleb_at bs (p + 1)) (o, next) e in
    with_line line.first.0 line.first.1 line.is line.rest
  where
    with_line : (v j : ℕ) → uleb_at bs (p + 1) ≡ Some (v, j) → named_behind bs width defines v (p + 1 + j) ≡ Some (o, next) → FrontCut bs width p o next
    with_line v j number rest =
        let both = if-some (nat_le (p + 1 + j + width_size width) (length bs)) (read_as (Named defines v (p + 1 + j)) (p + 1 + j + width_size width)) (o, next) rest in
        let room = leb-true (p + 1 + j + width_size width) (length bs) both.0 in
        let within : p + (1 + j) ≤ length bs = omega (arith, room) in
        let size = cut-length bs p (1 + j) within in
        let own : uleb_at (take (1 + j) (drop p bs)) 1 ≡ Some (v, j) =
        leb-own bs (take (1 + j) (drop p bs)) p 1 v j (cut-stands bs p (1 + j) within) number (omega (arith, size)) in
        let cut : FrontCut bs width p (Named defines v (p + 1 + j)) (p + 1 + j + width_size width) = record {
          size = 1 + j;
          kind = before_offset (of_text defines v);
          some = omega arith;
          end = omega arith;
          within = within;
          front = front-of bs p (1 + j) k (before_offset (of_text defines v)) within (omega arith) byte
              (by (take (1 + j) (drop p bs)) ∙ ap (line_if defines (length (take (1 + j) (drop p bs)))) own
              ∙ ap (λ (b : Bool). if b then Some (before_offset (of_text defines v)) else None) (eq-eqb (1 + j) (length (take (1 + j) (drop p bs))) (sym size)));
          is = refl;
          offset = (refl, room);
        } in
        subst (λ (x : MacroOperation × ℕ). FrontCut bs width p x.0 x.1) (some-same (Named defines v (p + 1 + j), p + 1 + j + width_size width) (o, next) both.1) cut

bring-cut : (bs : List ℕ) (width : Width) (p k : ℕ) (o : MacroOperation) (next : ℕ) → p < length bs → slice_index bs p ≡ k
    → ((xs : List ℕ) → front_by xs k ≡ (if length xs == 1 then Some (before_offset of_unit) else None)) → bring_operation bs width (p + 1) ≡ Some (o, next) → FrontCut bs width p o next
unfolding bring_operation
bring-cut bs width p k o next lt byte by e =
    let both = if-some (nat_le (p + 1 + width_size width) (length bs)) (read_as (Bring (p + 1)) (p + 1 + width_size width)) (o, next) e in
    let room = leb-true (p + 1 + width_size width) (length bs) both.0 in
    let size = cut-length bs p 1 (omega (arith, lt)) in
    let cut : FrontCut bs width p (Bring (p + 1)) (p + 1 + width_size width) = record {
      size = 1;
      kind = before_offset of_unit;
      some = omega arith;
      end = refl;
      within = omega (arith, lt);
      front = front-of bs p 1 k (before_offset of_unit) (omega (arith, lt)) (omega arith) byte
          (by (take 1 (drop p bs)) ∙ ap (λ (b : Bool). if b then Some (before_offset of_unit) else None) (eq-eqb (length (take 1 (drop p bs))) 1 size));
      is = refl;
      offset = (refl, room);
    } in
    subst (λ (x : MacroOperation × ℕ). FrontCut bs width p x.0 x.1) (some-same (Bring (p + 1), p + 1 + width_size width) (o, next) both.1) cut

-- a choice by a test
pub if-case : {X P : Type 0} (b : Bool) (x y : Option X) (r : X) → (b ≡ true → x ≡ Some r → P) → (b ≡ false → y ≡ Some r → P) → (if b then x else y) ≡ Some r → P
if-case true x y r f g e = f refl e
if-case false x y r f g e = g refl e

foreign-clash : (bs : List ℕ) (o : MacroOperation) (n next : ℕ) → o ≢ Foreign → read_as Foreign n ≡ read_as o next → ⊥
foreign-clash bs o n next other e = other (sym (ap (λ (x : MacroOperation × ℕ). x.0) (some-same (Foreign, n) (o, next) e)))

none-read : (o : MacroOperation) (next : ℕ) → None ≡ read_as o next → ⊥
none-read o next e = cc

plain-cut : (bs : List ℕ) (width : Width) (p op : ℕ) (o : MacroOperation) (next : ℕ) → p < length bs → slice_index bs p ≡ op → o ≢ Foreign
    → plain_operation bs width op (p + 1) ≡ Some (o, next) → FrontCut bs width p o next
unfolding plain_operation front_by operation_of
plain-cut bs width p op o next lt byte other e =
    if-case (op == MACRO_END) _ _ (o, next) (λ is f. alone-cut bs width p 0 o End next last lt (byte ∙ eqb-true op MACRO_END is) (λ xs. refl) refl refl refl tt f)
    (λ n0. if-case (op == DW_MACRO_start_file) _ _ (o, next) (λ is f. enter-cut bs width p 3 o next lt (byte ∙ eqb-true op DW_MACRO_start_file is) (λ xs. refl) f)
    (λ n3. if-case (op == DW_MACRO_end_file) _ _ (o, next) (λ is f. alone-cut bs width p 4 o Leave next whole lt (byte ∙ eqb-true op DW_MACRO_end_file is) (λ xs. refl) refl refl refl tt f)
    (λ n4. if-case (op == DW_MACRO_import) _ _ (o, next) (λ is f. bring-cut bs width p 7 o next lt (byte ∙ eqb-true op DW_MACRO_import is) (λ xs. refl) f)
    (λ n7. if-case (is_foreign op) _ _ (o, next) (λ is f. absurd (foreign-clash bs o (p + 1) next other f)) (λ no_one f. absurd (none-read o next f)))))) e

-- the cells of an operation that stands at a place
pub operation-cut : (bs : List ℕ) (width : Width) (p : ℕ) (o : MacroOperation) (next : ℕ) → o ≢ Foreign → operation_at bs width p ≡ Some (o, next) → FrontCut bs width p o next
unfolding operation_at operation_of front_by
operation-cut bs width p o next other e =
    let both = if-some (nat_lt p (length bs)) (operation_of bs width (slice_index bs p) (p + 1)) (o, next) e in
    let lt : p < length bs = ltb-true p (length bs) both.0 in
    by_code (slice_index bs p) refl lt both.1
  where
    by_code : (op : ℕ) → slice_index bs p ≡ op → p < length bs → operation_of bs width op (p + 1) ≡ Some (o, next) → FrontCut bs width p o next
    by_code op byte lt e =
        if-case (op == DW_MACRO_define) _ _ (o, next) (λ is f. inline-cut bs width p 1 true o next (byte ∙ eqb-true op DW_MACRO_define is) (λ xs. refl) f)
        (λ n1. if-case (op == DW_MACRO_undef) _ _ (o, next) (λ is f. inline-cut bs width p 2 false o next (byte ∙ eqb-true op DW_MACRO_undef is) (λ xs. refl) f)
        (λ n2. if-case (op == DW_MACRO_define_strp) _ _ (o, next) (λ is f. named-cut bs width p 5 true o next lt (byte ∙ eqb-true op DW_MACRO_define_strp is) (λ xs. refl) f)
        (λ n5. if-case (op == DW_MACRO_undef_strp) _ _ (o, next) (λ is f. named-cut bs width p 6 false o next lt (byte ∙ eqb-true op DW_MACRO_undef_strp is) (λ xs. refl) f)
        (λ n6 f. plain-cut bs width p op o next lt byte other f)))) e
