-- Standard opcodes that are told by their numbers: they have the operands of the standard, and numbers of one or two bytes fit.
use Rattle.std.proofs.Common.{Bool, true, false, ◌≡◌, ℕ, ◌+◌, ◌-◌, ◌*◌, ◌^◌, ◌%◌, ◌<◌, ◌≤◌, ◌==◌, ◌||◌, nat_lt, if◌then◌else◌, pos, negsuc, ◌+ℤ◌, ◌-ℤ◌, ◌*ℤ◌, ◌<ℤ◌, ◌≤ℤ◌, List, length, take, drop, get_or, slice_index, Some, refl, sym, ap, ◌∙◌, subst, arith}
use Rattle.std.specs.Prelude.{option_map}
use Rattle.std.proofs.lemmas.Bool.{eqb-true, lt-ltb}
use Rattle.std.proofs.lemmas.Int.{ints}
use Rattle.std.proofs.lemmas.List.{get_or-drop, get_or-take}
use Rattle.std.proofs.Math.Nat.{mod-lt}
use Rattle.dw_base.specs.Lebs.{uleb_at, uleb_more, uleb_within, sleb_at, sleb_last, sleb_more, sleb_within}
use Rattle.dw_base.specs.LineHeaders.{has_standard_operands, standard_count, standard_operands}
use Rattle.dw_base.specs.LinePrograms.{standard_end}
use Rattle.dw_base.specs.LineTexts.{skip_lebs}
use Rattle.dw_base.specs.declared.line_tables.LineHeader.{LineHeader}
use Rattle.dw_base.proofs.LebLaws.{fits_i64-true, sleb-last, sleb-more, sleb_within-fits, uleb-last, uleb-more}
use Rattle.dw_base.proofs.TextLaws.{same_text-true}
use Rattle.dw_lines.specs.PlainOpcodes.{has_leb, is_bare, IsPlain, IsShort}
use Rattle.dw_lines.proofs.PlainLaws.{standard-plain}

-- numbers of one byte and of two
unsigned-fits : (v n : ℕ) → v < 2 ^ 64 → uleb_within (Some (v, n)) ≡ Some (v, n)
unsigned-fits v n low = rw (lt-ltb v (2 ^ 64) low) refl

pub unsigned-one : (table : List ℕ) (place : ℕ) → place < length table → slice_index table place < 128 → uleb_at table place ≡ Some (slice_index table place, 1)
unfolding uleb_at
unsigned-one table place lt low = ap uleb_within (uleb-last table place lt low) ∙ unsigned-fits (slice_index table place) 1 (omega (arith, low))

unsigned-two : (table : List ℕ) (place : ℕ) → place + 1 < length table → 128 ≤ slice_index table place → slice_index table (place + 1) < 128
    → uleb_at table place ≡ Some (slice_index table place % 128 + 128 * slice_index table (place + 1), 2)
unfolding uleb_at
unsigned-two table place lt high low =
    let rest : slice_index table place % 128 < 128 = mod-lt (slice_index table place) (omega arith) in
    ap uleb_within (uleb-more table place (omega (arith, lt)) high ∙ ap (uleb_more (slice_index table place)) (uleb-last table (place + 1) lt low))
    ∙ unsigned-fits (slice_index table place % 128 + 128 * slice_index table (place + 1)) 2 (omega (arith, low, rest))

last-cases : (b : ℕ) (test : Bool) → b < 128 → nat_lt b 64 ≡ test → ((if test then pos b else pos b -ℤ pos 128) <ℤ pos 64) × (negsuc 63 ≤ℤ (if test then pos b else pos b -ℤ pos 128))
last-cases b true low e = (let small : b < 64 = grind arith in omega (arith, ints, small), omega (arith, ints))
last-cases b false low e = (omega (arith, ints, low), let large : 64 ≤ b = grind arith in omega (arith, ints, large))

signed-one : (table : List ℕ) (place : ℕ) → place < length table → slice_index table place < 128 → sleb_at table place ≡ Some (sleb_last (slice_index table place), 1)
unfolding sleb_at
signed-one table place lt low =
    let b : ℕ = slice_index table place in
    let near = last-cases b (nat_lt b 64) low refl in
    let high = near.0 in
    let deep = near.1 in
    ap sleb_within (sleb-last table place lt low) ∙ sleb_within-fits (sleb_last b) 1 (fits_i64-true (sleb_last b) (omega (arith, ints, high)) (omega (arith, ints, deep)))

signed-two : (table : List ℕ) (place : ℕ) → place + 1 < length table → 128 ≤ slice_index table place → slice_index table (place + 1) < 128
    → sleb_at table place ≡ Some (pos (slice_index table place % 128) +ℤ pos 128 *ℤ sleb_last (slice_index table (place + 1)), 2)
unfolding sleb_at
signed-two table place lt high low =
    let a : ℕ = slice_index table place in
    let b : ℕ = slice_index table (place + 1) in
    let rest : a % 128 < 128 = mod-lt a (omega arith) in
    let near = last-cases b (nat_lt b 64) low refl in
    let above = near.0 in
    let deep = near.1 in
    ap sleb_within (sleb-more table place (omega (arith, lt)) high ∙ ap (sleb_more a) (sleb-last table (place + 1) lt low))
    ∙ sleb_within-fits (pos (a % 128) +ℤ pos 128 *ℤ sleb_last b) 2
    (fits_i64-true (pos (a % 128) +ℤ pos 128 *ℤ sleb_last b) (omega (arith, ints, above, rest)) (omega (arith, ints, deep)))

pub short-one : (table : List ℕ) (place : ℕ) → place + 2 ≤ length table → slice_index table place < 128 → IsShort table place (place + 1)
short-one table place room low = record {
  size = 1;
  next_is = refl;
  unsigned_value = slice_index table place;
  unsigned = unsigned-one table place (omega (arith, room)) low;
  signed_value = sleb_last (slice_index table place);
  signed = signed-one table place (omega (arith, room)) low;
}

pub short-two : (table : List ℕ) (place : ℕ) → place + 2 ≤ length table → 128 ≤ slice_index table place → slice_index table (place + 1) < 128 → IsShort table place (place + 2)
short-two table place room high low = record {
  size = 2;
  next_is = refl;
  unsigned_value = slice_index table place % 128 + 128 * slice_index table (place + 1);
  unsigned = unsigned-two table place (omega (arith, room)) high low;
  signed_value = pos (slice_index table place % 128) +ℤ pos 128 *ℤ sleb_last (slice_index table (place + 1));
  signed = signed-two table place (omega (arith, room)) high low;
}

pub ruleset short_laws = (short-one, short-two)

-- the operand counts that a table has are the standard's
count-standard : (table : List ℕ) (h : LineHeader) (i : ℕ) → has_standard_operands table h ≡ true → i < standard_count h
    → slice_index table (h.operands + i) ≡ slice_index standard_operands i
unfolding has_standard_operands
count-standard table h i e lt =
    sym (get_or-drop h.operands table i 0) ∙ sym (get_or-take (standard_count h) (drop h.operands table) i 0 lt)
    ∙ ap (λ (xs : List ℕ). get_or xs i 0) (same_text-true (take (standard_count h) (drop h.operands table)) (take (standard_count h) standard_operands) e)
    ∙ get_or-take (standard_count h) standard_operands i 0 lt

count-of : (table : List ℕ) (h : LineHeader) (opcode : ℕ) → has_standard_operands table h ≡ true → 0 < opcode → opcode < h.opcode_base → opcode ≤ 12
    → slice_index table (h.operands + (opcode - 1)) ≡ slice_index standard_operands (opcode - 1)
count-of table h opcode standard some below small = count-standard table h (opcode - 1) standard (omega (arith, some, below, small))

-- one of five numbers
or-cases : (a b : Bool) (P : Type 0) → (a || b) ≡ true → (a ≡ true → P) → (b ≡ true → P) → P
or-cases true b P e f g = f refl
or-cases false b P e f g = g e

one-of : (n a b c d e : ℕ) (P : ℕ → Type 0) → (n == a || n == b || n == c || n == d || n == e) ≡ true → P a → P b → P c → P d → P e → P n
one-of n a b c d e P is pa pb pc pd pe =
    or-cases (n == a || n == b || n == c || n == d) (n == e) (P n) is
    (λ f. or-cases (n == a || n == b || n == c) (n == d) (P n) f
    (λ g. or-cases (n == a || n == b) (n == c) (P n) g (λ i. or-cases (n == a) (n == b) (P n) i (at a pa) (at b pb)) (at c pc)) (at d pd)) (at e pe)
  where
    at : (m : ℕ) → P m → n == m ≡ true → P n
    at m p test = subst P (sym (eqb-true n m test)) p

-- an opcode without operands ends where they would stand
none-here : (h : LineHeader) (table : List ℕ) (place count : ℕ) → count ≡ 0 → Some place ≡ skip_lebs count table place
none-here h table place count e = rw e refl

bare-end : (h : LineHeader) (table : List ℕ) (place opcode : ℕ) → has_standard_operands table h ≡ true → is_bare opcode ≡ true → opcode < h.opcode_base
    → Some place ≡ standard_end h table opcode place
unfolding standard_end
bare-end h table place opcode standard is below =
    one-of opcode 1 6 7 10 11 (λ n. n < h.opcode_base → Some place ≡ standard_end h table n place) is
    (λ lt. none-here h table place _ (count-of table h 1 standard (omega arith) lt (omega arith)))
    (λ lt. none-here h table place _ (count-of table h 6 standard (omega arith) lt (omega arith)))
    (λ lt. none-here h table place _ (count-of table h 7 standard (omega arith) lt (omega arith)))
    (λ lt. none-here h table place _ (count-of table h 10 standard (omega arith) lt (omega arith)))
    (λ lt. none-here h table place _ (count-of table h 11 standard (omega arith) lt (omega arith))) below

bare-some : (opcode : ℕ) → is_bare opcode ≡ true → (opcode == 0) ≡ false
bare-some opcode is = one-of opcode 1 6 7 10 11 (λ n. (n == 0) ≡ false) is refl refl refl refl refl

pub bare-plain : (h : LineHeader) (table : List ℕ) (place opcode : ℕ) → opcode ≡ slice_index table place → opcode < h.opcode_base → is_bare opcode ≡ true
    → has_standard_operands table h ≡ true → IsPlain h table place (place + 1)
bare-plain h table place opcode here below is standard =
    standard-plain h table place (place + 1) opcode here below (bare-some opcode is) (bare-end h table (place + 1) opcode standard is below)

pub ruleset bare_laws = (bare-plain)

-- one with a number ends behind it
one-here : (table : List ℕ) (place next count : ℕ) → count ≡ 1 → IsShort table place next → Some next ≡ skip_lebs count table place
one-here table place next count e s = let here = s.unsigned in let there = s.next_is in rw (e, here, there) refl

line-here : (table : List ℕ) (place next : ℕ) → IsShort table place next → Some next ≡ option_map (λ n. place + n.1) (sleb_at table place)
line-here table place next s = let here = s.signed in let there = s.next_is in rw (here, there) refl

pub leb-end : (h : LineHeader) (table : List ℕ) (place next opcode : ℕ) → has_leb opcode ≡ true → opcode < h.opcode_base → has_standard_operands table h ≡ true
    → IsShort table place next → Some next ≡ standard_end h table opcode place
unfolding standard_end
leb-end h table place next opcode is below standard s =
    one-of opcode 2 3 4 5 12 (λ n. n < h.opcode_base → Some next ≡ standard_end h table n place) is
    (λ lt. one-here table place next _ (count-of table h 2 standard (omega arith) lt (omega arith)) s)
    (λ lt. line-here table place next s)
    (λ lt. one-here table place next _ (count-of table h 4 standard (omega arith) lt (omega arith)) s)
    (λ lt. one-here table place next _ (count-of table h 5 standard (omega arith) lt (omega arith)) s)
    (λ lt. one-here table place next _ (count-of table h 12 standard (omega arith) lt (omega arith)) s) below

pub ruleset leb_laws = (leb-end)
