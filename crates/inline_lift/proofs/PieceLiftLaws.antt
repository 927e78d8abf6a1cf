-- What becomes of a piece of a unit that has a table of its own are pieces, which lead to the state in front of what becomes of the next.
use Rattle.std.proofs.Common.{Bool, true, false, ◌≡◌, ◌≢◌, ℕ, zero, suc, ◌+◌, ◌-◌, ◌^◌, ◌<◌, ◌≤◌, nat_lt, List, [], ◌∷◌, ◌++◌, length, replicate, slice_index, Option, Some, None, IsTrue, refl, sym, ap, ◌∙◌, subst, arith, if◌then◌else◌}
use Rattle.std.specs.Prelude.{nat_le}
use Rattle.std.proofs.lemmas.Bool.{le-leb, ltb-true, ltb-false}
use Rattle.std.proofs.lemmas.List.{length-append, length-replicate}
use Rattle.dw_base.specs.AbbreviationBytes.{abbreviations_at}
use Rattle.dw_base.specs.AbbreviationTables.{IsTable, abbreviation_of}
use Rattle.dw_base.specs.Cells.{Cell, bytes_of, plain_cells}
use Rattle.dw_base.specs.Forms.{ValueKind, counted, form_in_front, form_rows, kind_in, text_offset, width_size}
use Rattle.dw_base.specs.Numbers.{number_at, number_bytes, spelled}
use Rattle.dw_base.specs.Pieces.{Leads}
use Rattle.dw_base.specs.StringTables.{place_in}
use Rattle.dw_base.specs.Texts.{text}
use Rattle.dw_base.specs.UnitPieces.{FitsKind, IsCode, IsFrontForm, IsHeader, IsValue, may_stand, unit_grammar}
use Rattle.dw_base.specs.UnitStates.{Mode, at_header, at_code, at_values, at_chosen, UnitState, after_header, after_value, between, code_value, headed, in_unit, inside, of_chosen, past, piece_header}
use Rattle.dw_base.specs.Values.{counted_value, value_of}
use Rattle.dw_base.specs.declared.dwarf_numbers.TheConstants.{DW_FORM_block1, DW_FORM_block4, DW_FORM_strp}
use Rattle.dw_base.specs.declared.shared.Order.{Order}
use Rattle.dw_base.specs.declared.shared.Order.TheVariants.{Little, Big}
use Rattle.dw_base.specs.declared.shared.Params.{Params}
use Rattle.dw_base.specs.declared.shared.Width.{Width}
use Rattle.dw_base.specs.declared.shared.Width.TheVariants.{W32, W64}
use Rattle.dw_base.specs.declared.texts.TextSection.TheVariants.{InStr}
use Rattle.dw_base.specs.declared.units.UnitHeader.{UnitHeader}
use Rattle.dw_base.specs.declared.values.Spec.{Spec}
use Rattle.dw_base.specs.declared.values.ValueClass.TheVariants.{Bytes, StrOffset}
use Rattle.dw_base.proofs.NumberLaws.{length-number_bytes, number_bytes-lt, spelled-number_bytes}
use Rattle.dw_base.proofs.PlainCellLaws.{bytes_of-plain}
use Rattle.dw_base.proofs.UnitEditLaws.{length-bytes_of, number-stands}
use Rattle.inline_lift.specs.Filled.{filler_zeros}
use Rattle.inline_lift.specs.GrowingPaths.{Fate, stays, grown}
use Rattle.inline_lift.specs.Lifted.{Lift, header_cells, lifted_abbrevs, lifted_base, lifted_state, lifted_value}
use Rattle.inline_lift.specs.LiftedTables.{filler_bytes, filler_form, filler_name, is_short, lifted_specs, plain_spec}
use Rattle.inline_lift.proofs.HeaderLiftLaws.{header-put, with_table}
use Rattle.inline_lift.proofs.StateLiftLaws.{after-own, between-lifted, code-next, entry_lifted, inside-anywhere, inside-lifted, own-value, stand-lifted, state_by}

-- a state in front of a piece of a mode
abbrev pub in_mode : UnitState → Mode → UnitState
in_mode s m = record s { mode = m }

-- a table stands at the place that is to be named, and its offset fits 4 bytes
pub record TableLifts (l : Lift) (table : ℕ) : Type 0 where
  pub small : table < 2 ^ 32
  pub stands : IsTable (lifted_abbrevs l) table (abbreviations_at (lifted_abbrevs l) table)

pub fits-width : (w : Width) (n : ℕ) → n < 2 ^ 32 → n < 256 ^ width_size w
fits-width W32 n h = omega (arith, h)
fits-width W64 n h = omega (arith, h)

-- a header
header-fits : (l : Lift) (table : ℕ) (s : UnitState) (p : List Cell) → TableLifts l table → (f : IsHeader l.base s p)
    → IsHeader (lifted_base l) s (header_cells l.base.order table p (piece_header l.base s p))
header-fits l table s p t f =
    let put = header-put l.base (lifted_base l) s.kind s.section s.place p f.header table refl (fits-width f.header.params.width table t.small) f.is in
    let made : IsHeader (lifted_base l) s (header_cells l.base.order table p (Some f.header)) = record {
      header = with_table f.header table;
      is = put.0;
      size = ap (λ (n : ℕ). s.place + n) put.1 ∙ f.size;
      own = f.own;
      within = f.within;
      table = record { here = refl; is = t.stands };
    } in
    subst (λ (o : Option UnitHeader). IsHeader (lifted_base l) s (header_cells l.base.order table p o)) (sym f.is) made

header-next : (l : Lift) (table : ℕ) (gs : List Fate) (s : UnitState) (p : List Cell) → TableLifts l table → (f : IsHeader l.base s p)
    → past at_header (lifted_base l) s (header_cells l.base.order table p (piece_header l.base s p))
    ≡ state_by (past at_header l.base s p).mode l table gs (past at_header l.base s p)
header-next l table gs s p t f =
    let put = header-put l.base (lifted_base l) s.kind s.section s.place p f.header table refl (fits-width f.header.params.width table t.small) f.is in
    let same : with_table f.header table ≡ record f.header { abbrevs = table } =
    ap (λ (b : Bool). record f.header { abbrevs = table; elsewhere = b }) (sym f.table.here) in
    ap (λ (o : Option UnitHeader). past at_header (lifted_base l) s (header_cells l.base.order table p o)) f.is
    ∙ ap (after_header (lifted_base l) s (s.place + length (header_cells l.base.order table p (Some f.header)))) put.0
    ∙ ap (λ (n : ℕ). after_header (lifted_base l) s (s.place + n) (Some (with_table f.header table))) put.1
    ∙ ap (λ (h : UnitHeader). between (headed (lifted_base l) s h) (s.place + length p) 0 0) same
    ∙ between-lifted l table [] gs (headed l.base s f.header) (s.place + length p) 0 0
    ∙ ap (λ (o : Option UnitHeader). state_by (after_header l.base s (s.place + length p) o).mode l table gs (after_header l.base s (s.place + length p) o)) (sym f.is)

pub header-step : (l : Lift) (table : ℕ) (gs : List Fate) (s : UnitState) (p : List Cell) → TableLifts l table → IsHeader l.base (in_mode s at_header) p
    → Leads (unit_grammar (lifted_base l)) (in_mode s at_header)
    (record { state = in_mode s at_header; cells = header_cells l.base.order table p (piece_header l.base (in_mode s at_header) p) } ∷ [])
    (state_by (past at_header l.base (in_mode s at_header) p).mode l table gs (past at_header l.base (in_mode s at_header) p))
header-step l table gs s p t f = (refl, header-fits l table (in_mode s at_header) p t f, header-next l table gs (in_mode s at_header) p t f)

-- a code: its abbreviation is the old one, with attributes of these fates
abbrev pub EntryLifts : Lift → ℕ → List Fate → UnitState → List Cell → Type 0
EntryLifts l table gs s p =
    code_value p ≢ 0 → abbreviation_of (abbreviations_at (lifted_abbrevs l) table) (code_value p) ≡ entry_lifted gs (abbreviation_of s.table (code_value p))

pub code-step : (l : Lift) (table : ℕ) (fs gs : List Fate) (s : UnitState) (p : List Cell) → EntryLifts l table gs s p → IsCode (in_mode s at_code) p
    → Leads (unit_grammar (lifted_base l)) (lifted_state l table fs (in_mode s at_code)) (record { state = lifted_state l table fs (in_mode s at_code); cells = p } ∷ [])
    (state_by (past at_code l.base (in_mode s at_code) p).mode l table gs (past at_code l.base (in_mode s at_code) p))
code-step l table fs gs s p found f =
    let listed : code_value p ≢ 0 → IsTrue (may_stand s.entry (abbreviation_of (abbreviations_at (lifted_abbrevs l) table) (code_value p))) =
    λ some. ap (may_stand s.entry) (found some) ∙ stand-lifted gs s.entry (abbreviation_of s.table (code_value p)) ∙ f.listed some in
    let fits : IsCode (lifted_state l table fs (in_mode s at_code)) p = record { spells = f.spells; before = f.before; listed = listed } in
    (refl, fits, code-next l table fs gs (in_mode s at_code) (s.place + length p) (code_value p) found)

-- a value that stays
value-fits : (l : Lift) (table : ℕ) (fs : List Fate) (s : UnitState) (x : Spec) (k : ValueKind) (p : List Cell) → IsValue s x k p → IsValue (lifted_state l table fs s) x k p
value-fits l table fs s x k p f = record { value = f.value; is = f.is; size = f.size; before = f.before }

-- the state in front of what becomes of the next piece, behind a value
abbrev pub next_state : Lift → ℕ → List Fate → UnitState → ℕ → ℕ → ℕ → List Spec → UnitState
next_state l table gs s place number tag xs =
    state_by (inside s place s.entry s.depth number tag xs).mode l table gs (inside s place s.entry s.depth number tag xs)

pub own-step : (l : Lift) (table : ℕ) (gs : List Fate) (s : UnitState) (number tag : ℕ) (x : Spec) (xs : List Spec) (p : List Cell)
    → kind_in s.header.params x.form ≢ form_in_front → IsValue s x (kind_in s.header.params x.form) p
    → Leads (unit_grammar (lifted_base l)) (lifted_state l table (stays ∷ gs) (in_mode s (at_values number tag (x ∷ xs))))
    (record { state = lifted_state l table (stays ∷ gs) (in_mode s (at_values number tag (x ∷ xs))); cells = p } ∷ [])
    (next_state l table gs (in_mode s (at_values number tag (x ∷ xs))) (s.place + length p) number tag xs)
own-step l table gs s number tag x xs p other f =
    let fits : FitsKind (kind_in s.header.params x.form) (lifted_state l table (stays ∷ gs) (in_mode s (at_values number tag (x ∷ xs)))) x p =
    own-value (kind_in s.header.params x.form) (lifted_state l table (stays ∷ gs) (in_mode s (at_values number tag (x ∷ xs)))) x p other
    (value-fits l table (stays ∷ gs) (in_mode s (at_values number tag (x ∷ xs))) x (kind_in s.header.params x.form) p
    (record { value = f.value; is = f.is; size = f.size; before = f.before })) in (
      refl,
      fits,
      after-own (kind_in s.header.params x.form) (lifted_state l table (stays ∷ gs) (in_mode s (at_values number tag (x ∷ xs)))) (s.place + length p) (code_value p) number tag x (lifted_specs gs xs) other
          ∙ inside-lifted l table (stays ∷ gs) gs (in_mode s (at_values number tag (x ∷ xs))) (s.place + length p) s.entry s.depth number tag xs,
    )

-- a form in front of a value
pub front-step : (l : Lift) (table : ℕ) (gs : List Fate) (s : UnitState) (number tag : ℕ) (x : Spec) (xs : List Spec) (p : List Cell)
    → kind_in s.header.params x.form ≡ form_in_front → IsFrontForm (in_mode s (at_values number tag (x ∷ xs))) p
    → Leads (unit_grammar (lifted_base l)) (lifted_state l table (stays ∷ gs) (in_mode s (at_values number tag (x ∷ xs))))
    (record { state = lifted_state l table (stays ∷ gs) (in_mode s (at_values number tag (x ∷ xs))); cells = p } ∷ [])
    (lifted_state l table (stays ∷ gs) (in_unit s (s.place + length p) s.entry s.depth (at_chosen number tag s.place (of_chosen x (code_value p)) xs)))
front-step l table gs s number tag x xs p e f =
    let front : IsFrontForm (lifted_state l table (stays ∷ gs) (in_mode s (at_values number tag (x ∷ xs)))) p =
    record { spells = f.spells; before = f.before; other = f.other; own = f.own } in (
      refl,
      subst (λ (k : ValueKind). FitsKind k (lifted_state l table (stays ∷ gs) (in_mode s (at_values number tag (x ∷ xs)))) x p) (sym e) front,
      ap (λ (k : ValueKind). after_value k (lifted_state l table (stays ∷ gs) (in_mode s (at_values number tag (x ∷ xs)))) (s.place + length p) (code_value p) number tag x (lifted_specs gs xs)) e,
    )

-- and the value behind it
pub chosen-step : (l : Lift) (table : ℕ) (gs : List Fate) (s : UnitState) (number tag start : ℕ) (x : Spec) (xs : List Spec) (p : List Cell)
    → IsValue (in_mode s (at_chosen number tag start x xs)) x (kind_in s.header.params x.form) p
    → Leads (unit_grammar (lifted_base l)) (lifted_state l table (stays ∷ gs) (in_mode s (at_chosen number tag start x xs)))
    (record { state = lifted_state l table (stays ∷ gs) (in_mode s (at_chosen number tag start x xs)); cells = p } ∷ [])
    (next_state l table gs (in_mode s (at_chosen number tag start x xs)) (s.place + length p) number tag xs)
chosen-step l table gs s number tag start x xs p f = (
  refl,
  value-fits l table (stays ∷ gs) (in_mode s (at_chosen number tag start x xs)) x (kind_in s.header.params x.form) p f,
  inside-lifted l table (stays ∷ gs) gs (in_mode s (at_chosen number tag start x xs)) (s.place + length p) s.entry s.depth number tag xs,
)

-- a text that becomes an offset: it has room for one, and is shorter than 4 bytes can say
pub record TextLifts (l : Lift) (s : UnitState) (p : List Cell) : Type 0 where
  pub room : width_size s.header.params.width ≤ length p
  pub small : length p < 2 ^ 32
  pub order : s.header.params.order ≡ l.base.order

pub strp-kind : (params : Params) → kind_in params DW_FORM_strp ≡ text_offset InStr (width_size params.width)
unfolding kind_in form_rows
strp-kind params = refl

-- the kind of what is left
abbrev pub count_size : Bool → ℕ
count_size short = if short then 1 else 4

pub filler-kind : (params : Params) (n : ℕ) → kind_in params (filler_form n) ≡ counted (count_size (is_short n))
unfolding kind_in form_rows
filler-kind params n = by_size (is_short n)
  where
    by_size : (b : Bool) → kind_in params (if b then DW_FORM_block1 else DW_FORM_block4) ≡ counted (count_size b)
    by_size true = refl
    by_size false = refl

counted-other : (k : ValueKind) (c : ℕ) → k ≡ counted c → k ≢ form_in_front
counted-other k c e f = cc

offset-other : (k : ValueKind) (n : ℕ) → k ≡ text_offset InStr n → k ≢ form_in_front
offset-other k n e f = cc

pub length-plain : (bs : List ℕ) → length (plain_cells bs) ≡ length bs
length-plain bs = sym (length-bytes_of (plain_cells bs)) ∙ ap length (bytes_of-plain bs)

-- an offset
offset-fits : (s : UnitState) (x : Spec) (n : ℕ) (bs : List ℕ) → length bs ≡ n → s.place + n ≤ s.header.end → IsValue s x (text_offset InStr n) (plain_cells bs)
unfolding value_of
offset-fits s x n bs size before =
    let long : length (plain_cells bs) ≡ n = length-plain bs ∙ size in
    let room : n ≤ length (bytes_of (plain_cells bs)) = omega (arith, size, ap length (bytes_of-plain bs)) in
    record {
      value = record { class = StrOffset; number = spelled s.header.params.order (bytes_of (plain_cells bs)) 0 n; at = 0; len = n; size = n };
      is = number-stands s.header.params.order (bytes_of (plain_cells bs)) StrOffset n room;
      size = sym long;
      before = omega (arith, before, long);
    }

-- a block behind a count
counted-fits : (s : UnitState) (x : Spec) (c n : ℕ) (bs : List ℕ) → number_at s.header.params.order bs 0 c ≡ Some n → c + n ≡ length bs → s.place + length bs ≤ s.header.end
    → IsValue s x (counted c) (plain_cells bs)
unfolding value_of
counted-fits s x c n bs count size before =
    let long : length (plain_cells bs) ≡ length bs = length-plain bs in
    let inside : nat_le (0 + c + n) (length bs) ≡ true = le-leb (0 + c + n) (length bs) (omega arith) in
    record {
      value = record { class = Bytes; number = 0; at = 0 + c; len = n; size = c + n };
      is = ap (λ (b : List ℕ). counted_value b 0 c (number_at s.header.params.order b 0 c)) (bytes_of-plain bs)
          ∙ ap (counted_value bs 0 c) count
          ∙ ap (λ (b : Bool). if b then Some (record { class = Bytes; number = 0; at = 0 + c; len = n; size = c + n }) else None) inside;
      size = size ∙ sym long;
      before = omega (arith, before, long);
    }

-- a count of one byte, and one of 4 bytes
byte-spelled : (o : Order) (n : ℕ) (bs : List ℕ) → spelled o (n ∷ bs) 0 1 ≡ n
unfolding spelled
byte-spelled Little n bs = omega arith
byte-spelled Big n bs = omega arith

byte-count : (o : Order) (n : ℕ) (bs : List ℕ) → number_at o (n ∷ bs) 0 1 ≡ Some n
unfolding number_at
byte-count o n bs = rw (le-leb (0 + 1) (length (n ∷ bs)) (omega arith)) (ap Some (byte-spelled o n bs))

word-count : (o : Order) (n : ℕ) (bs : List ℕ) → n < 2 ^ 32 → number_at o (number_bytes o 4 n ++ bs) 0 4 ≡ Some n
unfolding number_at
word-count o n bs small =
    rw (le-leb (0 + 4) (length (number_bytes o 4 n ++ bs)) (omega (arith, length-append (number_bytes o 4 n) bs, length-number_bytes o 4 n)))
    (ap Some (spelled-number_bytes o 4 n bs (omega (arith, small))))

-- what is left of the room: its count, its zeros and its length
pub record IsFiller (o : Order) (n : ℕ) (bs : List ℕ) (short : Bool) (zeros : ℕ) : Type 0 where
  pub count : number_at o bs 0 (count_size short) ≡ Some zeros
  pub size : count_size short + zeros ≡ length bs
  pub whole : length bs ≡ suc n

abbrev filler_by : Order → ℕ → Bool → List ℕ
filler_by o n short = if short then n ∷ replicate n 0 else number_bytes o 4 (n - 3) ++ replicate (n - 3) 0

pub filler-is : (o : Order) (n : ℕ) → n < 2 ^ 32 → IsFiller o n (filler_bytes o (suc n)) (is_short n) (filler_zeros n)
filler-is o n small = by_size (nat_lt n 256) refl
  where
    by_size : (b : Bool) → nat_lt n 256 ≡ b → IsFiller o n (filler_by o n b) b (if b then n else n - 3)
    by_size true e = record {
      count = byte-count o n (replicate n 0);
      size = omega (arith, length-replicate {A = ℕ} n 0);
      whole = omega (arith, length-replicate {A = ℕ} n 0);
    }
    by_size false e =
        let large : 256 ≤ n = ltb-false n 256 e in
        let long : length (number_bytes o 4 (n - 3) ++ replicate (n - 3) 0) ≡ 4 + (n - 3) =
        omega (arith, length-append (number_bytes o 4 (n - 3)) (replicate (n - 3) 0), length-number_bytes o 4 (n - 3), length-replicate {A = ℕ} (n - 3) 0) in
        record {
          count = word-count o (n - 3) (replicate (n - 3) 0) (omega (arith, small));
          size = sym long;
          whole = omega (arith, long, large);
        }

-- and its bytes are bytes
zeros-small : (n k : ℕ) → slice_index (replicate n 0) k < 256
zeros-small zero k = omega arith
zeros-small (suc n) zero = omega arith
zeros-small (suc n) (suc k) = zeros-small n k

append-small : (xs ys : List ℕ) → ((k : ℕ) → slice_index xs k < 256) → ((k : ℕ) → slice_index ys k < 256) → (k : ℕ) → slice_index (xs ++ ys) k < 256
append-small [] ys a b k = b k
append-small (x ∷ xs) ys a b zero = a zero
append-small (x ∷ xs) ys a b (suc k) = append-small xs ys (λ j. a (suc j)) b k

pub filler-small : (o : Order) (r k : ℕ) → slice_index (filler_bytes o r) k < 256
filler-small o zero k = omega arith
filler-small o (suc n) k = by_size (nat_lt n 256) refl k
  where
    by_size : (b : Bool) → nat_lt n 256 ≡ b → (k : ℕ) → slice_index (filler_by o n b) k < 256
    by_size true e zero = ltb-true n 256 e
    by_size true e (suc k) = zeros-small n k
    by_size false e k = append-small (number_bytes o 4 (n - 3)) (replicate (n - 3) 0) (number_bytes-lt o 4 (n - 3)) (zeros-small (n - 3)) k

-- the piece of it, from where the offset ends
abbrev filler_state : Lift → ℕ → List Fate → List Fate → UnitState → ℕ → ℕ → ℕ → ℕ → List Spec → UnitState
filler_state l table fs gs s place number tag n xs =
    in_unit (lifted_state l table fs s) place s.entry s.depth (at_values number tag (plain_spec filler_name (filler_form n) ∷ lifted_specs gs xs))

filler-step : (l : Lift) (table : ℕ) (fs gs : List Fate) (s : UnitState) (number tag n : ℕ) (xs : List Spec) (place : ℕ)
    → n < 2 ^ 32 → s.header.params.order ≡ l.base.order → place + suc n ≤ s.header.end
    → Leads (unit_grammar (lifted_base l)) (filler_state l table fs gs s place number tag n xs)
    (record { state = filler_state l table fs gs s place number tag n xs; cells = plain_cells (filler_bytes l.base.order (suc n)) } ∷ [])
    (next_state l table gs s (place + suc n) number tag xs)
filler-step l table fs gs s number tag n xs place small order before =
    let is : IsFiller l.base.order n (filler_bytes l.base.order (suc n)) (is_short n) (filler_zeros n) = filler-is l.base.order n small in
    let k : kind_in s.header.params (filler_form n) ≡ counted (count_size (is_short n)) = filler-kind s.header.params n in
    let other : kind_in s.header.params (filler_form n) ≢ form_in_front = counted-other (kind_in s.header.params (filler_form n)) (count_size (is_short n)) k in
    let count : number_at s.header.params.order (filler_bytes l.base.order (suc n)) 0 (count_size (is_short n)) ≡ Some (filler_zeros n) =
    ap (λ (o : Order). number_at o (filler_bytes l.base.order (suc n)) 0 (count_size (is_short n))) order ∙ is.count in
    let value : IsValue (filler_state l table fs gs s place number tag n xs) (plain_spec filler_name (filler_form n)) (counted (count_size (is_short n))) (plain_cells (filler_bytes l.base.order (suc n))) =
    counted-fits (filler_state l table fs gs s place number tag n xs) (plain_spec filler_name (filler_form n)) (count_size (is_short n)) (filler_zeros n) (filler_bytes l.base.order (suc n)) count is.size
    (omega (arith, before, is.whole)) in
    let long : length (plain_cells (filler_bytes l.base.order (suc n))) ≡ suc n = length-plain (filler_bytes l.base.order (suc n)) ∙ is.whole in (
      refl,
      subst (λ (v : ValueKind). FitsKind v (filler_state l table fs gs s place number tag n xs) (plain_spec filler_name (filler_form n)) (plain_cells (filler_bytes l.base.order (suc n)))) (sym k) value,
      after-own (kind_in s.header.params (filler_form n)) (filler_state l table fs gs s place number tag n xs) (place + length (plain_cells (filler_bytes l.base.order (suc n))))
          (code_value (plain_cells (filler_bytes l.base.order (suc n)))) number tag (plain_spec filler_name (filler_form n)) (lifted_specs gs xs) other
          ∙ inside-anywhere (lifted_state l table fs s) place s.entry s.depth (at_values number tag (plain_spec filler_name (filler_form n) ∷ lifted_specs gs xs))
          (place + length (plain_cells (filler_bytes l.base.order (suc n)))) s.entry s.depth number tag (lifted_specs gs xs)
          ∙ ap (λ (m : ℕ). inside (lifted_state l table fs s) (place + m) s.entry s.depth number tag (lifted_specs gs xs)) long
          ∙ inside-lifted l table fs gs s (place + suc n) s.entry s.depth number tag xs,
    )

-- a text that becomes an offset
abbrev pub value_state : UnitState → ℕ → ℕ → Spec → List Spec → UnitState
value_state s number tag x xs = in_mode s (at_values number tag (x ∷ xs))

pub grown-step : (l : Lift) (table : ℕ) (gs : List Fate) (s : UnitState) (number tag r : ℕ) (x : Spec) (xs : List Spec) (p : List Cell)
    → s.header.params.order ≡ l.base.order → r < 2 ^ 32 → width_size s.header.params.width + r ≡ length p → s.place + length p ≤ s.header.end
    → Leads (unit_grammar (lifted_base l)) (lifted_state l table (grown r ∷ gs) (value_state s number tag x xs))
    (lifted_value (grown r) l (lifted_state l table (grown r ∷ gs) (value_state s number tag x xs)) p)
    (next_state l table gs (value_state s number tag x xs) (s.place + length p) number tag xs)
grown-step l table gs s number tag r x xs p order small size before = by_left r small size
  where
    new_spec : Spec
    new_spec = plain_spec x.name DW_FORM_strp

    state_of : ℕ → UnitState
    state_of r = lifted_state l table (grown r ∷ gs) (value_state s number tag x xs)

    bytes : ℕ → List ℕ
    bytes r = number_bytes l.base.order (width_size s.header.params.width) (length l.str + place_in l.texts (text (bytes_of p)))

    fits : (r : ℕ) → width_size s.header.params.width + r ≡ length p → FitsKind (kind_in s.header.params DW_FORM_strp) (state_of r) new_spec (plain_cells (bytes r))
    fits r size =
        subst (λ (k : ValueKind). FitsKind k (state_of r) new_spec (plain_cells (bytes r))) (sym (strp-kind s.header.params))
        (offset-fits (state_of r) new_spec (width_size s.header.params.width) (bytes r) (length-number_bytes l.base.order (width_size s.header.params.width) _) (omega (arith, size, before)))

    next : (r : ℕ) (ys : List Spec) → after_value (kind_in s.header.params DW_FORM_strp) (state_of r) (s.place + length (plain_cells (bytes r))) (code_value (plain_cells (bytes r))) number tag new_spec ys
        ≡ inside (state_of r) (s.place + width_size s.header.params.width) s.entry s.depth number tag ys
    next r ys =
        after-own (kind_in s.header.params DW_FORM_strp) (state_of r) (s.place + length (plain_cells (bytes r))) (code_value (plain_cells (bytes r))) number tag new_spec ys
        (offset-other (kind_in s.header.params DW_FORM_strp) (width_size s.header.params.width) (strp-kind s.header.params))
        ∙ ap (λ (m : ℕ). inside (state_of r) (s.place + m) s.entry s.depth number tag ys)
        (length-plain (bytes r) ∙ length-number_bytes l.base.order (width_size s.header.params.width) _)

    by_left : (r : ℕ) → r < 2 ^ 32 → width_size s.header.params.width + r ≡ length p
        → Leads (unit_grammar (lifted_base l)) (state_of r) (lifted_value (grown r) l (state_of r) p)
        (next_state l table gs (value_state s number tag x xs) (s.place + length p) number tag xs)
    by_left zero small size =
        let none : width_size s.header.params.width ≡ length p = omega (arith, size) in (
          refl,
          fits zero size,
          next zero (lifted_specs gs xs)
              ∙ ap (λ (m : ℕ). inside (state_of zero) (s.place + m) s.entry s.depth number tag (lifted_specs gs xs)) none
              ∙ inside-lifted l table (grown zero ∷ gs) gs (value_state s number tag x xs) (s.place + length p) s.entry s.depth number tag xs,
        )
    by_left (suc n) small size =
        let rest = filler-step l table (grown (suc n) ∷ gs) gs (value_state s number tag x xs) number tag n xs (s.place + width_size s.header.params.width)
        (omega (arith, small)) order (omega (arith, size, before)) in
        let place : s.place + width_size s.header.params.width + suc n ≡ s.place + length p = omega (arith, size) in (
          refl,
          fits (suc n) size,
          (
            sym (next (suc n) (plain_spec filler_name (filler_form n) ∷ lifted_specs gs xs)),
            rest.1,
            rest.2 ∙ ap (λ (m : ℕ). next_state l table gs (value_state s number tag x xs) m number tag xs) place,
          ),
        )
