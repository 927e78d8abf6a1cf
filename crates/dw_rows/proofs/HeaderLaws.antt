-- What is known of the numbers of a table's header, from its definition.
use Rattle.std.proofs.Common.{Bool, true, false, ◌≡◌, ℕ, ◌+◌, ◌-◌, ◌==◌, ◌<◌, ◌≤◌, nat_le, nat_lt, if◌then◌else◌, List, length, take, Option, Some, None, refl, sym, ap, ◌∙◌, subst, arith}
use Rattle.std.specs.Prelude.{option_and_then}
use Rattle.std.proofs.lemmas.Bool.Decides.{nat_tests}
use Rattle.std.proofs.lemmas.List.{length-take-le}
use Rattle.dw_base.specs.Forms.{width_size}
use Rattle.dw_base.specs.Lebs.{initial_length_at, initial_length, long_length}
use Rattle.dw_base.specs.Numbers.{number_at, spelled}
use Rattle.dw_base.specs.declared.shared.Order.{Order}
use Rattle.dw_base.specs.declared.shared.Width.{Width}
use Rattle.dw_base.specs.declared.shared.Width.TheVariants.{W32, W64}
use Rattle.dw_base.specs.LineHeaders.{line_header, header_from, header_in, header_of_version, header_at, header_of_length, header_if, header_with, is_header, has_standard_operands, is_line_version, length_place, flags_place}
use Rattle.dw_base.specs.WrittenLines.{length_size}
use Rattle.dw_rows.specs.TableRows.{counts_place}

-- what an option held that led to something
pub then-some : {X Y : Type 0} (f : X → Option Y) (x : Option X) (y : Y) → option_and_then f x ≡ Some y → (a : X) × (x ≡ Some a) × (f a ≡ Some y)
then-some f None y e = absurd (by_kind e)
  where
    by_kind : None ≡ Some y → ⊥
    by_kind g = cc
then-some f (Some a) y e = (a, refl, e)

-- a test that didn't stop
pub if-some : {Y : Type 0} (b : Bool) (x : Option Y) (y : Y) → (if b then x else None) ≡ Some y → (b ≡ true) × (x ≡ Some y)
if-some true x y e = (refl, e)
if-some false x y e = absurd (by_kind e)
  where
    by_kind : None ≡ Some y → ⊥
    by_kind g = cc

pub some-same : {Y : Type 0} (x y : Y) → Some x ≡ Some y → x ≡ y
some-same x y e = cc

false-true : false ≡ true → ⊥
false-true e = cc

four-tests : (a b c d : Bool) → (if a then false else (if b then false else (if c then d else false))) ≡ true → (a ≡ false) × (b ≡ false) × (c ≡ true) × (d ≡ true)
four-tests true b c d e = absurd (false-true e)
four-tests false true c d e = absurd (false-true e)
four-tests false false false d e = absurd (false-true e)
four-tests false false true d e = (refl, refl, refl, e)

at_most : (m n : ℕ) → nat_le m n ≡ true → m ≤ n
at_most m n e = grind (arith, nat_tests)

some_number : (n : ℕ) → n == 0 ≡ false → 0 < n
some_number n e = grind (arith, nat_tests)

-- the numbers of a header in the bytes up to its table's end
pub record Fits (table : List ℕ) (start : ℕ) (width : Width) (version flags : ℕ) (own_start : ℕ) (own_width : Width) (own_version operands lists base program end ops : ℕ) (standard : Bool) : Type 0 where
  pub start_is : own_start ≡ start
  pub width_is : own_width ≡ width
  pub version_is : own_version ≡ version
  pub operands_is : operands ≡ flags + 4
  pub lists_is : lists ≡ operands + (base - 1)
  pub lists_in : lists ≤ end
  pub program_in : program ≤ end
  pub end_is : end ≡ length table
  pub ops_some : 0 < ops
  pub base_some : 0 < base
  pub standard_is : standard ≡ true

made-fits : (table : List ℕ) (start : ℕ) (width : Width) (version at first flags len : ℕ) → first + len ≤ length table
    → is_header table (header_with table start width version at first flags len) ≡ true
    → Fits table start width version flags (header_with table start width version at first flags len).start (header_with table start width version at first flags len).width
    (header_with table start width version at first flags len).version (header_with table start width version at first flags len).operands
    (header_with table start width version at first flags len).lists (header_with table start width version at first flags len).opcode_base
    (header_with table start width version at first flags len).program (header_with table start width version at first flags len).end
    (header_with table start width version at first flags len).max_ops
    (has_standard_operands table (header_with table start width version at first flags len))
unfolding header_with is_header
made-fits table start width version at first flags len le e =
    let h = header_with table start width version at first flags len in
    let tests = four-tests (h.opcode_base == 0) (h.max_ops == 0) (nat_le h.lists h.end) (has_standard_operands table h) e in
    record {
      start_is = refl;
      width_is = refl;
      version_is = refl;
      operands_is = refl;
      lists_is = refl;
      lists_in = at_most h.lists h.end tests.2;
      program_in = le;
      end_is = refl;
      ops_some = some_number h.max_ops tests.1;
      base_some = some_number h.opcode_base tests.0;
      standard_is = tests.3;
    }

length-fits : (table : List ℕ) (start : ℕ) (width : Width) (version at first flags len : ℕ) (h : _) → header_of_length table start width version at first flags len ≡ Some h
    → Fits table start width version flags h.start h.width h.version h.operands h.lists h.opcode_base h.program h.end h.max_ops (has_standard_operands table h)
unfolding header_of_length
length-fits table start width version at first flags len h e =
    let made = header_with table start width version at first flags len in
    let room = if-some (nat_le (first + len) (length table)) (header_if table made) h e in
    let test = if-some (is_header table made) (Some made) h room.1 in
    subst (λ x. Fits table start width version flags x.start x.width x.version x.operands x.lists x.opcode_base x.program x.end x.max_ops (has_standard_operands table x))
    (some-same made h test.1) (made-fits table start width version at first flags len (at_most (first + len) (length table) room.0) test.0)

at-fits : (order : Order) (table : List ℕ) (start : ℕ) (width : Width) (version at place flags : ℕ) (h : _) → header_at order table start width version at place flags ≡ Some h
    → Fits table start width version flags h.start h.width h.version h.operands h.lists h.opcode_base h.program h.end h.max_ops (has_standard_operands table h)
unfolding header_at
at-fits order table start width version at place flags h e =
    let rest = (if-some (nat_le (flags + 4) (length table))
    (header_of_length table start width version at (place + width_size width) flags (spelled order table place (width_size width))) h e).1 in
    length-fits table start width version at (place + width_size width) flags (spelled order table place (width_size width)) h rest

abbrev flags_of : Width → ℕ → ℕ → ℕ
flags_of width at version = flags_place version (length_place version at + width_size width)

version-fits : (order : Order) (table : List ℕ) (start : ℕ) (width : Width) (at version : ℕ) (h : _) → header_of_version order table start width at version ≡ Some h
    → Fits table start width version (flags_of width at version) h.start h.width h.version h.operands h.lists h.opcode_base h.program h.end h.max_ops (has_standard_operands table h)
unfolding header_of_version
version-fits order table start width at version h e =
    at-fits order table start width version at (length_place version at) (flags_of width at version) h
    (if-some (is_line_version version) (header_at order table start width version at (length_place version at) (flags_of width at version)) h e).1

-- the size of the length's field
initial-size : (order : Order) (bytes : List ℕ) (start : ℕ) (l : Width × ℕ × ℕ) → initial_length_at order bytes start ≡ Some l → l.2 ≡ length_size l.0
unfolding initial_length_at
initial-size order bytes start l e = by_word (number_at order bytes start 4) (number_at order bytes (start + 4) 8) e
  where
    by_long : (n : Option ℕ) → long_length n ≡ Some l → l.2 ≡ length_size l.0
    by_long None f = absurd (by_kind f)
      where
        by_kind : None ≡ Some l → ⊥
        by_kind g = cc
    by_long (Some n) f = ap (λ (x : Width × ℕ × ℕ). x.2) (sym (some-same (W64, n, 12) l f)) ∙ ap (λ (x : Width × ℕ × ℕ). length_size x.0) (some-same (W64, n, 12) l f)

    by_tests : (a b : Bool) (word : ℕ) (behind : Option ℕ) → (if a then Some (W32, word, 4) else (if b then long_length behind else None)) ≡ Some l → l.2 ≡ length_size l.0
    by_tests true b word behind f =
        ap (λ (x : Width × ℕ × ℕ). x.2) (sym (some-same (W32, word, 4) l f)) ∙ ap (λ (x : Width × ℕ × ℕ). length_size x.0) (some-same (W32, word, 4) l f)
    by_tests false true word behind f = by_long behind f
    by_tests false false word behind f = absurd (by_kind f)
      where
        by_kind : None ≡ Some l → ⊥
        by_kind g = cc

    by_word : (word behind : Option ℕ) → initial_length word behind ≡ Some l → l.2 ≡ length_size l.0
    by_word None behind f = absurd (by_kind f)
      where
        by_kind : None ≡ Some l → ⊥
        by_kind g = cc
    by_word (Some word) behind f = by_tests (nat_lt word 0xffff_fff0) (word == 0xffff_ffff) word behind f

-- the numbers of a header in the bytes of its section
pub record HeaderIs (bytes : List ℕ) (start : ℕ) (own_start : ℕ) (width : Width) (version operands lists base program end ops : ℕ) (standard : Bool) : Type 0 where
  pub start_is : own_start ≡ start
  pub operands_is : operands ≡ counts_place start width version
  pub lists_is : lists ≡ operands + (base - 1)
  pub lists_in : lists ≤ end
  pub program_in : program ≤ end
  pub end_in : end ≤ length bytes
  pub start_in : start ≤ length bytes
  pub ops_some : 0 < ops
  pub base_some : 0 < base
  pub standard_is : standard ≡ true

counts-same : (start at version flags operands : ℕ) (width own : Width) (own_version : ℕ) → at ≡ start + length_size width → own ≡ width → own_version ≡ version
    → operands ≡ flags_of width at version + 4 → operands ≡ counts_place start own own_version
unfolding counts_place
counts-same start at version flags operands width own own_version a w v o = rw (w, v, ← a) o

pub header-back : (order : Order) (bytes : List ℕ) (start : ℕ) (h : _) → line_header order bytes start ≡ Some h
    → HeaderIs bytes start h.start h.width h.version h.operands h.lists h.opcode_base h.program h.end h.max_ops (has_standard_operands (take h.end bytes) h)
unfolding line_header header_in
header-back order bytes start h e =
    let l = then-some (header_from order bytes start) (initial_length_at order bytes start) h e in
    let end = start + l.0.2 + l.0.1 in
    let room = if-some (nat_le end (length bytes)) (header_in order (take end bytes) start l.0.0 (start + l.0.2)) h l.2 in
    let version = then-some (header_of_version order (take end bytes) start l.0.0 (start + l.0.2)) (number_at order (take end bytes) (start + l.0.2) 2) h room.1 in
    let fits = version-fits order (take end bytes) start l.0.0 (start + l.0.2) version.0 h version.2 in
    let far : end ≤ length bytes = at_most end (length bytes) room.0 in
    let size : length (take end bytes) ≡ end = length-take-le end bytes far in
    let own : h.end ≡ end = fits.end_is ∙ size in
    record {
      start_is = fits.start_is;
      operands_is = counts-same start (start + l.0.2) version.0 0 h.operands l.0.0 h.width h.version (ap (λ (n : ℕ). start + n) (initial-size order bytes start l.0 l.1))
          fits.width_is fits.version_is fits.operands_is;
      lists_is = fits.lists_is;
      lists_in = fits.lists_in;
      program_in = fits.program_in;
      end_in = omega (arith, own, far);
      start_in = omega (arith, far);
      ops_some = fits.ops_some;
      base_some = fits.base_some;
      standard_is = ap (λ (n : ℕ). has_standard_operands (take n bytes) h) own ∙ fits.standard_is;
    }
