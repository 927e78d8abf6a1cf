-- Where fields of values stand.
use Rattle.std.proofs.Common.{Bool, true, false, ◌≡◌, ℕ, ◌+◌, ◌-◌, ◌<◌, ◌≤◌, List, length, nat_le, nat_lt, refl, sym, ap, ◌∙◌, arith}
use Rattle.std.specs.Prelude.{◌&&◌}
use Rattle.std.proofs.lemmas.Bool.{and_parts, leb-true, leb-false, ltb-true, le-leb, lt-leb, lt-ltb}
use Rattle.dw_base.specs.FileViews.{View, section_bytes}
use Rattle.dw_base.specs.declared.values.Value.{Value}
use Rattle.dw_attrs.specs.UnitValues.{has_field}
use Rattle.dw_attrs.specs.UnitReads.{BytesFit}

-- so many bytes are there where what is behind their place has them
room-same : (at size n : ℕ) → (nat_le at n && nat_le size (n - at)) ≡ nat_le (at + size) n
room-same at size n = by_place (nat_le at n) refl
  where
    by_size : (b : Bool) → nat_le size (n - at) ≡ b → at ≤ n → nat_le size (n - at) ≡ nat_le (at + size) n
    by_size true e le = let inside = leb-true size (n - at) e in e ∙ sym (le-leb (at + size) n (omega (arith, le, inside)))
    by_size false e le = let past = leb-false size (n - at) e in e ∙ sym (lt-leb (at + size) n (omega (arith, le, past)))

    by_place : (b : Bool) → nat_le at n ≡ b → (b && nat_le size (n - at)) ≡ nat_le (at + size) n
    by_place true e = by_size (nat_le size (n - at)) refl (leb-true at n e)
    by_place false e = let past = leb-false at n e in sym (lt-leb (at + size) n (omega (arith, past)))

pub room-there : (at size n : ℕ) → at ≤ n → nat_le size (n - at) ≡ nat_le (at + size) n
room-there at size n le = ap (λ (b : Bool). b && nat_le size (n - at)) (sym (le-leb at n le)) ∙ room-same at size n

pub room-past : (at size n : ℕ) → n < at → false ≡ nat_le (at + size) n
room-past at size n past = sym (lt-leb (at + size) n (omega (arith, past)))

pub ruleset room_laws = (room-there, room-past)

-- a value with a field
pub field-none : (bytes : List ℕ) (x : Value) → x.len ≡ 0 → false ≡ has_field bytes x
field-none bytes x e = sym (ap (λ (n : ℕ). nat_lt 0 n && nat_le x.len 8 && nat_le (x.at + x.len) (length bytes)) e)

pub field-wide : (bytes : List ℕ) (x : Value) → 8 < x.len → false ≡ has_field bytes x
field-wide bytes x wide =
    sym (ap (λ (b : Bool). nat_lt 0 x.len && b && nat_le (x.at + x.len) (length bytes)) (lt-leb x.len 8 wide)
    ∙ ap (λ (b : Bool). b && nat_le (x.at + x.len) (length bytes)) (and-false (nat_lt 0 x.len)))
  where
    and-false : (b : Bool) → (b && false) ≡ false
    and-false true = refl
    and-false false = refl

pub field-room : (bytes : List ℕ) (x : Value) → 0 < x.len → x.len ≤ 8 → nat_le (x.at + x.len) (length bytes) ≡ has_field bytes x
field-room bytes x some few =
    sym (ap (λ (b : Bool). b && nat_le x.len 8 && nat_le (x.at + x.len) (length bytes)) (lt-ltb 0 x.len some)
    ∙ ap (λ (b : Bool). b && nat_le (x.at + x.len) (length bytes)) (le-leb x.len 8 few))

pub field-there : (bytes : List ℕ) (x : Value) → 0 < x.len → x.len ≤ 8 → x.at + x.len ≤ length bytes → has_field bytes x ≡ true
field-there bytes x some few inside = sym (field-room bytes x some few) ∙ le-leb (x.at + x.len) (length bytes) inside

pub ruleset has_laws = (field-none, field-wide, field-room)

-- and where it is
pub record FieldPlaced (v : View) (section : ℕ) (x : Value) : Type 0 where
  pub there : section < length v.sections
  pub some : 0 < x.len
  pub few : x.len ≤ 8
  pub inside : x.at + x.len ≤ length (section_bytes v section)

pub field-placed : (v : View) (section : ℕ) (bytes : List ℕ) (x : Value) → BytesFit v section bytes → has_field bytes x ≡ true → FieldPlaced v section x
field-placed v section bytes x fits has =
    let parts = and_parts (nat_lt 0 x.len && nat_le x.len 8) (nat_le (x.at + x.len) (length bytes)) has in
    let size = and_parts (nat_lt 0 x.len) (nat_le x.len 8) parts.0 in
    let within = leb-true (x.at + x.len) (length bytes) parts.1 in
    let inside = fits.inside in
    record {
      there = fits.there;
      some = ltb-true 0 x.len size.0;
      few = leb-true x.len 8 size.1;
      inside = omega (arith, within, inside);
    }

pub ruleset place_laws = (field-placed)
