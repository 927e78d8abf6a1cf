-- Laws of parts of bytes, and of the length of a table.
use Rattle.std.proofs.Common.{◌≡◌, ℕ, ◌-◌, ◌≤◌, ◌<◌, List, ◌++◌, length, take, drop, min, sym, ap, ◌∙◌, arith}
use Rattle.std.proofs.lemmas.List.{take_all, drop_all, take_min, append_assoc, length-drop, length-take}
use Rattle.dw_base.specs.Numbers.{number_bytes}
use Rattle.dw_base.specs.declared.shared.Order.{Order}
use Rattle.dw_base.specs.declared.shared.Width.TheVariants.{W64}
use Rattle.dw_base.specs.WrittenLines.{bytes_at, length_bytes, part}

pub part-none : (bytes : List ℕ) (from end stop : ℕ) → stop ≡ min end (length bytes) → stop ≤ from → take 0 bytes ≡ part bytes from end
part-none bytes from end stop s le =
    let rest = length-drop from bytes in
    let size = length-take (end - from) (drop from bytes) in
    sym (drop_all 0 (part bytes from end) (omega (arith, s, le, rest, size)))

pub part-some : (bytes : List ℕ) (from end stop : ℕ) → stop ≡ min end (length bytes) → from < stop → take (stop - from) (drop from bytes) ≡ part bytes from end
part-some bytes from end stop s lt =
    let size = length-drop from bytes in
    let same : stop - from ≡ min (end - from) (length (drop from bytes)) = omega (arith, s, lt, size) in
    ap (λ (k : ℕ). take k (drop from bytes)) same ∙ take_min (end - from) (drop from bytes)

pub ruleset part_laws = (part-none, part-some)

pub bytes-found : (bytes rest : List ℕ) (at n stop : ℕ) → rest ≡ part bytes at (length bytes) → stop ≡ min n (length rest) → take stop rest ≡ bytes_at bytes at n
bytes-found bytes rest at n stop r s =
    let size = length-drop at bytes in
    let same : rest ≡ drop at bytes = r ∙ take_all (length bytes - at) (drop at bytes) (omega (arith, size)) in
    ap (λ (k : ℕ). take k rest) s ∙ take_min n rest ∙ ap (take n) same

pub ruleset bytes_laws = (bytes-found)

pub length-long : (order : Order) (a b c : List ℕ) (n : ℕ) → b ≡ a ++ number_bytes order 4 0xffff_ffff → c ≡ b ++ number_bytes order 8 n → c ≡ a ++ length_bytes order W64 n
length-long order a b c n f s =
    s ∙ ap (λ (xs : List ℕ). xs ++ number_bytes order 8 n) f ∙ append_assoc a (number_bytes order 4 0xffff_ffff) (number_bytes order 8 n)

pub ruleset length_laws = (length-long)
