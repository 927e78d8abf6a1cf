-- Unit sections are pieces in one way at most.
use Rattle.std.proofs.Common.{Bool, true, false, ◌≡◌, ℕ, ◌+◌, ◌≤◌, List, [], ◌∷◌, ◌++◌, length, Option, Some, None, sym, ap, ◌∙◌, refl, subst, arith}
use Rattle.std.specs.Prelude.{nat_le, ◌&&◌}
use Rattle.std.proofs.lemmas.Bool.{leb-true}
use Rattle.dw_base.specs.Cells.{Cell, bytes_of}
use Rattle.dw_base.specs.Forms.{ValueKind, number_of, leb_number, signed_leb, block_of, counted, counted_leb, inline_text, text_offset, present, in_abbreviation, form_in_front, supplementary, unlisted, kind_in}
use Rattle.dw_base.specs.Lebs.{uleb_at, initial_length_at}
use Rattle.dw_base.specs.Numbers.{spelled}
use Rattle.dw_base.specs.UnitHeaders.{UnitBase, SectionKind, is_header, is_version, is_unit_type, is_address_size, header_if, header_of_version, header_of_length, unit_header}
use Rattle.dw_base.specs.UnitPieces.{IsHeader, IsValue, FitsKind, FitsMode, EndsSection, unit_grammar}
use Rattle.dw_base.specs.UnitStates.{Mode, at_header, at_code, at_values, at_chosen, stuck, UnitState, code_value, piece_header}
use Rattle.dw_base.specs.Values.{value_of}
use Rattle.dw_base.specs.declared.shared.Width.{Width}
use Rattle.dw_base.specs.declared.units.UnitHeader.{UnitHeader}
use Rattle.dw_base.specs.declared.values.Spec.{Spec}
use Rattle.dw_base.specs.declared.values.Value.{Value}
use Rattle.dw_base.proofs.LebLaws.{uleb_at-append}
use Rattle.dw_meaning.proofs.PieceLaws.{ReadsOneWay}
use Rattle.dw_base.proofs.UnitHeaderLaws.{bytes_of-append, header-more, if-inside}
use Rattle.dw_base.proofs.UnitRowLaws.{header_if-same, no_cells-header}
use Rattle.dw_base.proofs.ValueLaws.{value_of-append}

bytes-same : (p q r t : List Cell) → p ++ r ≡ q ++ t → bytes_of p ++ bytes_of r ≡ bytes_of q ++ bytes_of t
bytes-same p q r t e = sym (bytes_of-append p r) ∙ ap bytes_of e ∙ bytes_of-append q t

-- two headers at the front of the same cells
header-length : (base : UnitBase) (s : UnitState) (p q r t : List Cell) → IsHeader base s p → IsHeader base s q → p ++ r ≡ q ++ t → length p ≡ length q
header-length base s p q r t a b e =
    let left : unit_header base s.kind s.section s.place (p ++ r) ≡ Some a.header = header-more base s.kind s.section s.place p r a.header a.is in
    let right : unit_header base s.kind s.section s.place (q ++ t) ≡ Some b.header = header-more base s.kind s.section s.place q t b.header b.is in
    let both : unit_header base s.kind s.section s.place (p ++ r) ≡ unit_header base s.kind s.section s.place (q ++ t) =
    ap (unit_header base s.kind s.section s.place) e in
    let same : a.header.first ≡ b.header.first = ap (λ (h : UnitHeader). h.first) (some-same a.header b.header (sym left ∙ both ∙ right)) in
    omega (arith, a.size, b.size, same)
  where
    some-same : (g h : UnitHeader) → Some g ≡ Some h → g ≡ h
    some-same g h f = cc

-- two numbers
number-length : (p q r t : List Cell) (v w : ℕ) → uleb_at (bytes_of p) 0 ≡ Some (v, length p) → uleb_at (bytes_of q) 0 ≡ Some (w, length q)
    → p ++ r ≡ q ++ t → length p ≡ length q
number-length p q r t v w a b e =
    let left : uleb_at (bytes_of p ++ bytes_of r) 0 ≡ Some (v, length p) = uleb_at-append (bytes_of p) (bytes_of r) 0 (v, length p) (omega arith) a in
    let right : uleb_at (bytes_of q ++ bytes_of t) 0 ≡ Some (w, length q) = uleb_at-append (bytes_of q) (bytes_of t) 0 (w, length q) (omega arith) b in
    let both : uleb_at (bytes_of p ++ bytes_of r) 0 ≡ uleb_at (bytes_of q ++ bytes_of t) 0 = ap (λ (bs : List ℕ). uleb_at bs 0) (bytes-same p q r t e) in
    size-same (v, length p) (w, length q) (sym left ∙ both ∙ right)
  where
    size-same : (x y : ℕ × ℕ) → Some x ≡ Some y → x.1 ≡ y.1
    size-same x y f = cc

-- two values of a kind
value-length : (s : UnitState) (x : Spec) (k : ValueKind) (p q r t : List Cell) → IsValue s x k p → IsValue s x k q → p ++ r ≡ q ++ t → length p ≡ length q
value-length s x k p q r t a b e =
    let left : value_of k s.header.params.order (bytes_of p ++ bytes_of r) 0 x.implicit ≡ Some a.value =
    value_of-append k s.header.params.order (bytes_of p) (bytes_of r) x.implicit a.value a.is in
    let right : value_of k s.header.params.order (bytes_of q ++ bytes_of t) 0 x.implicit ≡ Some b.value =
    value_of-append k s.header.params.order (bytes_of q) (bytes_of t) x.implicit b.value b.is in
    let both : value_of k s.header.params.order (bytes_of p ++ bytes_of r) 0 x.implicit ≡ value_of k s.header.params.order (bytes_of q ++ bytes_of t) 0 x.implicit =
    ap (λ (bs : List ℕ). value_of k s.header.params.order bs 0 x.implicit) (bytes-same p q r t e) in
    sym a.size ∙ size-same a.value b.value (sym left ∙ both ∙ right) ∙ b.size
  where
    size-same : (v w : Value) → Some v ≡ Some w → v.size ≡ w.size
    size-same v w f = cc

kind-length : (k : ValueKind) (s : UnitState) (x : Spec) (p q r t : List Cell) → FitsKind k s x p → FitsKind k s x q → p ++ r ≡ q ++ t → length p ≡ length q
kind-length form_in_front s x p q r t a b e = number-length p q r t (code_value p) (code_value q) a.spells b.spells e
kind-length (number_of class n) s x p q r t a b e = value-length s x (number_of class n) p q r t a b e
kind-length (leb_number class) s x p q r t a b e = value-length s x (leb_number class) p q r t a b e
kind-length signed_leb s x p q r t a b e = value-length s x signed_leb p q r t a b e
kind-length (block_of n) s x p q r t a b e = value-length s x (block_of n) p q r t a b e
kind-length (counted n) s x p q r t a b e = value-length s x (counted n) p q r t a b e
kind-length counted_leb s x p q r t a b e = value-length s x counted_leb p q r t a b e
kind-length inline_text s x p q r t a b e = value-length s x inline_text p q r t a b e
kind-length (text_offset table n) s x p q r t a b e = value-length s x (text_offset table n) p q r t a b e
kind-length present s x p q r t a b e = value-length s x present p q r t a b e
kind-length in_abbreviation s x p q r t a b e = value-length s x in_abbreviation p q r t a b e
kind-length supplementary s x p q r t a b e = value-length s x supplementary p q r t a b e
kind-length unlisted s x p q r t a b e = value-length s x unlisted p q r t a b e

-- two pieces that fit a mode at the front of the same cells are equally long
mode-length : (m : Mode) (base : UnitBase) (s : UnitState) (p q r t : List Cell) → FitsMode m base s p → FitsMode m base s q
    → p ++ r ≡ q ++ t → length p ≡ length q
mode-length at_header base s p q r t a b e = header-length base s p q r t a b e
mode-length at_code base s p q r t a b e = number-length p q r t (code_value p) (code_value q) a.spells b.spells e
mode-length (at_values n tag []) base s p q r t a b e = absurd a
mode-length (at_values n tag (x ∷ xs)) base s p q r t a b e = kind-length (kind_in s.header.params x.form) s x p q r t a b e
mode-length (at_chosen n tag start x xs) base s p q r t a b e = value-length s x (kind_in s.header.params x.form) p q r t a b e
mode-length stuck base s p q r t a b e = absurd a

-- the header that was read isn't longer than its unit
pub header-shorter : (kind : SectionKind) (p : List Cell) (h : UnitHeader) → is_header kind p h ≡ true → h.first ≤ h.end
header-shorter kind p h e = by_test (nat_le h.first (h.start + length p)) (nat_le h.first h.end) refl (is_version kind h.params.version) (is_unit_type h.kind) (is_address_size h.params.address) e
  where
    by_test : (a b : Bool) → nat_le h.first h.end ≡ b → (c d f : Bool) → (a && b && c && d && f) ≡ true → h.first ≤ h.end
    by_test true true is c d f e = leb-true _ _ is
    by_test true false is c d f e = absurd cc
    by_test false b is c d f e = absurd cc

-- what stands as a header meets the tests of one
if-tests : (kind : SectionKind) (p : List Cell) (g h : UnitHeader) → header_if kind p g ≡ Some h → is_header kind p h ≡ true
if-tests kind p g h e = subst (λ (x : UnitHeader). is_header kind p x ≡ true) (sym (header_if-same kind p g h e)) (if-inside kind p g h e)

pub header-tests : (base : UnitBase) (kind : SectionKind) (section start : ℕ) (p : List Cell) (h : UnitHeader)
    → unit_header base kind section start p ≡ Some h → is_header kind p h ≡ true
unfolding unit_header
header-tests base kind section start p h e = by_length (initial_length_at base.order (bytes_of p) 0) e
  where
    by_length : (o : Option (Width × ℕ × ℕ)) → header_of_length base kind section start p o ≡ Some h → is_header kind p h ≡ true
    by_length None e = absurd cc
    by_length (Some (width, n, at)) e =
        if-tests kind p (header_of_version base kind section start p width (at + n) at (spelled base.order (bytes_of p) at 2)) h e

-- no header fits behind the last byte
header-ends : (base : UnitBase) (s : UnitState) (p : List Cell) → s.place ≡ s.whole → IsHeader base s p → ⊥
header-ends base s [] end a =
    let none : piece_header base s [] ≡ None = no_cells-header base s.kind s.section s.place in
    let some : piece_header base s [] ≡ Some a.header = a.is in
    cc
header-ends base s (c ∷ cs) end a =
    let shorter : a.header.first ≤ a.header.end = header-shorter s.kind (c ∷ cs) a.header (header-tests base s.kind s.section s.place (c ∷ cs) a.header a.is) in
    omega (arith, a.size, a.within, shorter, end)

mode-ends : (m : Mode) (base : UnitBase) (s : UnitState) (p : List Cell) → m ≡ at_header → s.place ≡ s.whole → FitsMode m base s p → ⊥
mode-ends at_header base s p h e fit = header-ends base s p e fit
mode-ends at_code base s p h e fit = absurd cc
mode-ends (at_values n tag xs) base s p h e fit = absurd cc
mode-ends (at_chosen n tag start x xs) base s p h e fit = absurd cc
mode-ends stuck base s p h e fit = absurd cc

-- unit sections are pieces in one way
pub units_one_way : (base : UnitBase) → ReadsOneWay (unit_grammar base)
units_one_way base = record {
  same = λ (s : UnitState) (p q r t : List Cell) a b e. mode-length s.mode base s p q r t a b e;
  ends = λ (s : UnitState) (p : List Cell) (e : EndsSection s) fit. mode-ends s.mode base s p e.mode e.place fit;
}
