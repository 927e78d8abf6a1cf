-- An initial length that was read at a place is read in the bytes from that place on, as far as its field goes.
use Rattle.std.proofs.Common.{Bool, true, false, ◌≡◌, ℕ, ◌+◌, ◌≤◌, ◌==◌, if◌then◌else◌, nat_lt, List, length, take, drop, Option, Some, None, ap, ◌∙◌, arith}
use Rattle.std.proofs.lemmas.Bool.{le-leb}
use Rattle.std.proofs.lemmas.List.{length-drop, length-take-le}
use Rattle.dw_base.specs.Lebs.{long_length, initial_length, initial_length_at}
use Rattle.dw_base.specs.Numbers.{number_at, spelled}
use Rattle.dw_base.specs.declared.shared.Order.{Order}
use Rattle.dw_base.specs.declared.shared.Width.{Width}
use Rattle.dw_base.specs.declared.shared.Width.TheVariants.{W32, W64}
use Rattle.dw_base.proofs.NumberLaws.{spelled-take, spelled-drop}

some-once : (l m : Width × ℕ × ℕ) → Some l ≡ Some m → l ≡ m
some-once l m e = cc

size_is : (w : Width) (n k : ℕ) (l : Width × ℕ × ℕ) → Some (w, n, k) ≡ Some l → k ≡ l.2
size_is w n k l e = ap (λ (x : Width × ℕ × ℕ). x.2) (some-once (w, n, k) l e)

long-size : (behind : Option ℕ) (l : Width × ℕ × ℕ) → long_length behind ≡ Some l → 12 ≤ l.2
long-size None l e = absurd cc
long-size (Some n) l e = omega (arith, size_is W64 n 12 l e)

-- the field has 4 bytes at least
pub field-size : (word behind : Option ℕ) (l : Width × ℕ × ℕ) → initial_length word behind ≡ Some l → 4 ≤ l.2
field-size None behind l e = absurd cc
field-size (Some w) behind l e = by_word (nat_lt w 0xffff_fff0) (w == 0xffff_ffff) e
  where
    by_word : (short wide : Bool) → (if short then Some (W32, w, 4) else (if wide then long_length behind else None)) ≡ Some l → 4 ≤ l.2
    by_word true wide e = omega (arith, size_is W32 w 4 l e)
    by_word false true e = omega (arith, long-size behind l e)
    by_word false false e = absurd cc

long-kept : (behind further : Option ℕ) (l : Width × ℕ × ℕ) → (12 ≤ l.2 → further ≡ behind) → long_length behind ≡ Some l → long_length further ≡ Some l
long-kept behind further l same e = ap long_length (same (long-size behind l e)) ∙ e

-- it goes by the bytes of its field alone
pub length-kept : (word behind more further : Option ℕ) (l : Width × ℕ × ℕ) → (4 ≤ l.2 → more ≡ word) → (12 ≤ l.2 → further ≡ behind)
    → initial_length word behind ≡ Some l → initial_length more further ≡ Some l
length-kept None behind more further l first second e = absurd cc
length-kept (Some w) behind more further l first second e =
    ap (λ (o : Option ℕ). initial_length o further) (first (field-size (Some w) behind l e)) ∙ by_word (nat_lt w 0xffff_fff0) (w == 0xffff_ffff) e
  where
    by_word : (short wide : Bool) → (if short then Some (W32, w, 4) else (if wide then long_length behind else None)) ≡ Some l
        → (if short then Some (W32, w, 4) else (if wide then long_length further else None)) ≡ Some l
    by_word true wide e = e
    by_word false true e = long-kept behind further l second e
    by_word false false e = absurd cc

number-part : (o : Order) (bs : List ℕ) (a n at k : ℕ) → a + n ≤ length bs → at + k ≤ n → number_at o (take n (drop a bs)) at k ≡ number_at o bs (a + at) k
unfolding number_at
number-part o bs a n at k whole inside =
    let size : length (take n (drop a bs)) ≡ n = length-take-le n (drop a bs) (omega (arith, whole, length-drop a bs)) in
    let here : at + k ≤ length (take n (drop a bs)) = omega (arith, size, inside) in
    let there : a + at + k ≤ length bs = omega (arith, whole, inside) in
    let read : spelled o (take n (drop a bs)) at k ≡ spelled o bs (a + at) k = spelled-take o (drop a bs) n at k inside ∙ spelled-drop o bs a at k in
    rw (le-leb (at + k) (length (take n (drop a bs))) here, le-leb (a + at + k) (length bs) there) (ap Some read)

pub initial-part : (o : Order) (bs : List ℕ) (a n : ℕ) (l : Width × ℕ × ℕ) → initial_length_at o bs a ≡ Some l → a + n ≤ length bs → l.2 ≤ n
    → initial_length_at o (take n (drop a bs)) 0 ≡ Some l
unfolding initial_length_at
initial-part o bs a n l e whole field =
    length-kept (number_at o bs a 4) (number_at o bs (a + 4) 8) (number_at o (take n (drop a bs)) 0 4) (number_at o (take n (drop a bs)) (0 + 4) 8) l
    (λ size. number-part o bs a n 0 4 whole (omega arith) ∙ ap (λ (k : ℕ). number_at o bs k 4) (omega arith))
    (λ size. number-part o bs a n (0 + 4) 8 whole (omega arith) ∙ ap (λ (k : ℕ). number_at o bs k 8) (omega arith)) e
