-- Laws of the division by a table: sixteen bytes at once, and one.
use Rattle.std.proofs.Common.{◌≡◌, ℕ, zero, suc, ◌+◌, ◌*◌, ◌/◌, ◌%◌, ◌^◌, ◌<◌, ◌≤◌, List, [], ◌∷◌, ◌++◌, length, take, drop, get_or, slice_index, refl, sym, ap, ◌∙◌, arith, bit_xor, Bor}
use Rattle.std.proofs.lemmas.List.{drop_more, length-drop, length-take-le, take-append-drop}
use Rattle.std.specs.List.{flat_map}
use Rattle.std.proofs.lemmas.Nat.{mod_below, shr-shr}
use Rattle.std.specs.Int.{w64, from_le_bytes}
use Rattle.std.specs.Int.Bits.{xor_assoc, xor_zero_r}
use Rattle.debug_link.specs.Sums.{with_bits, with_bytes}
use Rattle.debug_link.specs.Tables.{little, times, entry, IsTable}
use Rattle.debug_link.proofs.XorLaws.{digits-xor, times-xor, times-add, times-more, times-shift, times-split, with_bits-times}

pub ruleset times_rules = (times-more)

-- the entry of a byte and so many bytes behind it
pub entry-of : (k byte : ℕ) → byte < 256 → entry (256 * k + byte) ≡ times (8 * (k + 1)) byte
entry-of k byte small =
    let high : (256 * k + byte) / 256 ≡ k = omega (arith, small) in
    let low : (256 * k + byte) % 256 ≡ byte = omega (arith, small) in
    rw (high, low) refl

-- of a number of more bytes: the entry of the lowest, and the others
pub entry-step : (k r : ℕ) → times (8 * (k + 1)) r ≡ bit_xor (entry (256 * k + r % 256)) (times (8 * k) (r / 256))
entry-step k r =
    let e : 8 * (k + 1) ≡ 8 + 8 * k = omega arith in
    let low : times (8 * (k + 1)) (r % 256) ≡ entry (256 * k + r % 256) = sym (entry-of k (r % 256) (mod_below r 256 (omega arith))) in
    let whole : times (8 + 8 * k) r ≡ bit_xor (times (8 + 8 * k) (r % 256)) (times (8 * k) (r / 256)) =
    times-add 8 (8 * k) r ∙ ap (times (8 * k)) (times-split 8 r) ∙ times-xor (8 * k) (times 8 (r % 256)) (r / 256)
    ∙ ap (λ (x : ℕ). bit_xor x (times (8 * k) (r / 256))) (sym (times-add 8 (8 * k) (r % 256))) in
    ap (λ (n : ℕ). times n r) e ∙ whole ∙ ap (λ (n : ℕ). bit_xor (times n (r % 256)) (times (8 * k) (r / 256))) (sym e)
    ∙ ap (λ (x : ℕ). bit_xor x (times (8 * k) (r / 256))) low

-- of a byte, the entry is behind none
pub entry-first : (byte : ℕ) → byte < 256 → entry byte ≡ times 8 byte
entry-first byte small =
    let high : byte / 256 ≡ 0 = omega (arith, small) in
    let low : byte % 256 ≡ byte = omega (arith, small) in
    rw (high, low) refl

-- one byte by the table
pub byte-entry : (n : ℕ) (table : List ℕ) (r : ℕ) → 256 ≤ n → IsTable n table → bit_xor (slice_index table (r % 256)) (r / 256) ≡ times 8 r
byte-entry n table r enough t =
    let small : r % 256 < 256 = mod_below r 256 (omega arith) in
    let same : slice_index table (r % 256) ≡ times 8 (r % 256) = t.entries (r % 256) (omega (arith, small, enough)) ∙ entry-first (r % 256) small in
    ap (λ (x : ℕ). bit_xor x (r / 256)) same ∙ sym (times-split 8 r)

-- eight bytes by the table
regroup : (a b c d e f g h : ℕ) → bit_xor a (bit_xor b (bit_xor c (bit_xor d (bit_xor e (bit_xor f (bit_xor g h))))))
    ≡ bit_xor (bit_xor (bit_xor (bit_xor a b) c) d) (bit_xor (bit_xor (bit_xor e f) g) h)
regroup a b c d e f g h = simp (xor_assoc) refl

entry-at : (table : List ℕ) (k r next : ℕ) → IsTable 4096 table → k < 16 → r / 256 ≡ next
    → times (8 * (k + 1)) r ≡ bit_xor (slice_index table (256 * k + r % 256)) (times (8 * k) next)
entry-at table k r next t below e =
    let small : r % 256 < 256 = mod_below r 256 (omega arith) in
    let same : slice_index table (256 * k + r % 256) ≡ entry (256 * k + r % 256) = t.entries (256 * k + r % 256) (omega (arith, small, below)) in
    entry-step k r ∙ ap (λ (x : ℕ). bit_xor x (times (8 * k) (r / 256))) (sym same)
    ∙ ap (λ (x : ℕ). bit_xor (slice_index table (256 * k + r % 256)) (times (8 * k) x)) e

entry-last : (table : List ℕ) (k r : ℕ) → IsTable 4096 table → k < 16 → r < 256 → times (8 * (k + 1)) r ≡ slice_index table (256 * k + r % 256)
entry-last table k r t below small =
    let same : r % 256 ≡ r = omega (arith, small) in
    sym (ap (λ (x : ℕ). slice_index table (256 * k + x)) same ∙ t.entries (256 * k + r) (omega (arith, small, below)) ∙ entry-of k r small)

entry-lowest : (table : List ℕ) (r : ℕ) → IsTable 4096 table → r < 256 → times 8 r ≡ slice_index table (r % 256)
entry-lowest table r t small =
    let same : r % 256 ≡ r = omega (arith, small) in
    sym (ap (slice_index table) same ∙ t.entries r (omega (arith, small)) ∙ entry-first r small)

-- eight bytes, each one's term and then the others'
grouped : (a b c d e f g h z y x v u s r : ℕ) → z ≡ bit_xor a y → y ≡ bit_xor b x → x ≡ bit_xor c v → v ≡ bit_xor d u → u ≡ bit_xor e s → s ≡ bit_xor f r
    → (q : ℕ) → r ≡ bit_xor g q → q ≡ h → z ≡ bit_xor (bit_xor (bit_xor (bit_xor a b) c) d) (bit_xor (bit_xor (bit_xor e f) g) h)
grouped a b c d e f g h z y x v u s r ez ey ex ev eu es q er eq =
    ez ∙ ap (bit_xor a) (ey ∙ ap (bit_xor b) (ex ∙ ap (bit_xor c) (ev ∙ ap (bit_xor d) (eu ∙ ap (bit_xor e) (es ∙ ap (bit_xor f) (er ∙ ap (bit_xor g) eq))))))
    ∙ regroup a b c d e f g h

-- eight bytes behind which none stands
pub near-entries : (table : List ℕ) (w : ℕ) → IsTable 4096 table → w < 2 ^ 64
    → bit_xor
    (bit_xor (bit_xor (bit_xor (slice_index table (1792 + w % 256)) (slice_index table (1536 + w / 256 % 256)))
    (slice_index table (1280 + w / 65536 % 256))) (slice_index table (1024 + w / 16777216 % 256)))
    (bit_xor (bit_xor (bit_xor (slice_index table (768 + w / 4294967296 % 256)) (slice_index table (512 + w / 1099511627776 % 256)))
    (slice_index table (256 + w / 281474976710656 % 256))) (slice_index table (w / 72057594037927936 % 256)))
    ≡ times 64 w
near-entries table w t small =
    let whole : w / 72057594037927936 < 256 = omega (arith, small) in
    let none = entry-lowest table (w / 72057594037927936) t whole in
    let one = entry-at table 1 (w / 281474976710656) (w / 72057594037927936) t (omega arith) (shr-shr w 48 8) in
    let two = entry-at table 2 (w / 1099511627776) (w / 281474976710656) t (omega arith) (shr-shr w 40 8) in
    let three = entry-at table 3 (w / 4294967296) (w / 1099511627776) t (omega arith) (shr-shr w 32 8) in
    let four = entry-at table 4 (w / 16777216) (w / 4294967296) t (omega arith) (shr-shr w 24 8) in
    let five = entry-at table 5 (w / 65536) (w / 16777216) t (omega arith) (shr-shr w 16 8) in
    let six = entry-at table 6 (w / 256) (w / 65536) t (omega arith) (shr-shr w 8 8) in
    let seven = entry-at table 7 w (w / 256) t (omega arith) refl in
    sym (grouped _ _ _ _ _ _ _ _ _ _ _ _ _ _ _ seven six five four three two _ one none)

-- eight bytes behind which eight stand
pub far-entries : (table : List ℕ) (w : ℕ) → IsTable 4096 table → w < 2 ^ 64
    → bit_xor
    (bit_xor (bit_xor (bit_xor (slice_index table (3840 + w % 256)) (slice_index table (3584 + w / 256 % 256)))
    (slice_index table (3328 + w / 65536 % 256))) (slice_index table (3072 + w / 16777216 % 256)))
    (bit_xor (bit_xor (bit_xor (slice_index table (2816 + w / 4294967296 % 256)) (slice_index table (2560 + w / 1099511627776 % 256)))
    (slice_index table (2304 + w / 281474976710656 % 256))) (slice_index table (2048 + w / 72057594037927936 % 256)))
    ≡ times 128 w
far-entries table w t small =
    let whole : w / 72057594037927936 < 256 = omega (arith, small) in
    let none = entry-last table 8 (w / 72057594037927936) t (omega arith) whole in
    let one = entry-at table 9 (w / 281474976710656) (w / 72057594037927936) t (omega arith) (shr-shr w 48 8) in
    let two = entry-at table 10 (w / 1099511627776) (w / 281474976710656) t (omega arith) (shr-shr w 40 8) in
    let three = entry-at table 11 (w / 4294967296) (w / 1099511627776) t (omega arith) (shr-shr w 32 8) in
    let four = entry-at table 12 (w / 16777216) (w / 4294967296) t (omega arith) (shr-shr w 24 8) in
    let five = entry-at table 13 (w / 65536) (w / 16777216) t (omega arith) (shr-shr w 16 8) in
    let six = entry-at table 14 (w / 256) (w / 65536) t (omega arith) (shr-shr w 8 8) in
    let seven = entry-at table 15 w (w / 256) t (omega arith) refl in
    sym (grouped _ _ _ _ _ _ _ _ _ _ _ _ _ _ _ seven six five four three two _ one none)

-- bytes that are added at once, as the number that they spell
pub with_bytes-little : (bs : List ℕ) (r : ℕ) → ((k : ℕ) → slice_index bs k < 256) → with_bytes bs r ≡ times (8 * length bs) (bit_xor r (little bs))
with_bytes-little [] r small = sym (xor_zero_r r)
with_bytes-little (b ∷ bs) r small =
    let first : b < 256 = small 0 in
    let others : (k : ℕ) → slice_index bs k < 256 = λ k. small (suc k) in
    let l : ℕ = little bs in
    let n : ℕ = 8 * length bs in
    let size : 8 * length (b ∷ bs) ≡ 8 + 8 * length bs = omega arith in
    let spelled : l * 256 + b ≡ bit_xor b (l * 256) = digits-xor 8 l b first in
    let added : bit_xor r (l * 256 + b) ≡ bit_xor (bit_xor r b) (l * 256) = ap (bit_xor r) spelled ∙ sym (xor_assoc r b (l * 256)) in
    let eight : times 8 (bit_xor r (l * 256 + b)) ≡ bit_xor (times 8 (bit_xor r b)) l =
    ap (times 8) added ∙ times-xor 8 (bit_xor r b) (l * 256) ∙ ap (bit_xor (times 8 (bit_xor r b))) (times-shift 8 l) in
    ap (with_bytes bs) (with_bits-times 8 b r first) ∙ with_bytes-little bs (times 8 (bit_xor r b)) others ∙ ap (times n) (sym eight)
    ∙ sym (times-add 8 n (bit_xor r (l * 256 + b))) ∙ ap (λ (k : ℕ). times k (bit_xor r (l * 256 + b))) (sym size)

-- the number that eight bytes spell
pub eight-bytes : (xs : List ℕ) → length xs ≡ 8
    → from_le_bytes w64 (get_or xs 0 0 ∷ get_or xs 1 0 ∷ get_or xs 2 0 ∷ get_or xs 3 0 ∷ get_or xs 4 0 ∷ get_or xs 5 0 ∷ get_or xs 6 0 ∷ get_or xs 7 0 ∷ []) ≡ little xs
eight-bytes (a ∷ b ∷ c ∷ d ∷ e ∷ f ∷ g ∷ h ∷ []) eight = omega arith
eight-bytes [] eight = absurd (omega arith)
eight-bytes (a ∷ []) eight = absurd (omega arith)
eight-bytes (a ∷ b ∷ []) eight = absurd (omega arith)
eight-bytes (a ∷ b ∷ c ∷ []) eight = absurd (omega arith)
eight-bytes (a ∷ b ∷ c ∷ d ∷ []) eight = absurd (omega arith)
eight-bytes (a ∷ b ∷ c ∷ d ∷ e ∷ []) eight = absurd (omega arith)
eight-bytes (a ∷ b ∷ c ∷ d ∷ e ∷ f ∷ []) eight = absurd (omega arith)
eight-bytes (a ∷ b ∷ c ∷ d ∷ e ∷ f ∷ g ∷ []) eight = absurd (omega arith)
eight-bytes (a ∷ b ∷ c ∷ d ∷ e ∷ f ∷ g ∷ h ∷ i ∷ more) eight = absurd (omega arith)

pub ruleset eight_rules = (eight-bytes)

pub ruleset entry_rules = (near-entries)

pub ruleset far_rules = (far-entries)

-- one byte more, by the table
pub byte-table : (table : List ℕ) (byte r : ℕ) → IsTable 4096 table → byte < 256
    → bit_xor (slice_index table (bit_xor r byte % 256)) (bit_xor r byte / 256) ≡ with_bits 8 byte r
byte-table table byte r t small = byte-entry 4096 table (bit_xor r byte) (omega arith) t ∙ sym (with_bits-times 8 byte r small)

pub ruleset byte_rules = (byte-table)

-- bytes behind bytes
pub with_bytes-append : (xs ys : List ℕ) (r : ℕ) → with_bytes (xs ++ ys) r ≡ with_bytes ys (with_bytes xs r)
with_bytes-append [] ys r = refl
with_bytes-append (x ∷ xs) ys r = with_bytes-append xs ys (with_bits 8 x r)

-- of the pieces that are left: the bytes of one, and those of the pieces behind it
pub pieces-next : (ps : List (Bor (List ℕ))) (i : ℕ) (d : Bor (List ℕ)) (r rest whole : ℕ) → i < length ps → rest ≡ with_bytes (get_or ps i d).now r
    → with_bytes (flat_map (λ piece. piece.now) (drop i ps)) r ≡ whole → with_bytes (flat_map (λ piece. piece.now) (drop (i + 1) ps)) rest ≡ whole
pieces-next ps i d r rest whole lt is same =
    ap (with_bytes (flat_map (λ (piece : Bor (List ℕ)). piece.now) (drop (i + 1) ps))) is
    ∙ sym (with_bytes-append (get_or ps i d).now (flat_map (λ (piece : Bor (List ℕ)). piece.now) (drop (i + 1) ps)) r)
    ∙ ap (λ (qs : List (Bor (List ℕ))). with_bytes (flat_map (λ (piece : Bor (List ℕ)). piece.now) qs) r) (sym (drop_more ps i d lt)) ∙ same

pub with_bytes-split : (n : ℕ) (xs : List ℕ) (r : ℕ) → with_bytes (drop n xs) (with_bytes (take n xs) r) ≡ with_bytes xs r
with_bytes-split n xs r =
    sym (with_bytes-append (take n xs) (drop n xs) r) ∙ ap (λ (bs : List ℕ). with_bytes bs r) (take-append-drop n xs)

pub ruleset word_rules = (with_bytes-split)

-- what is left or taken of bytes is bytes
bytes-take : (n : ℕ) (xs : List ℕ) → ((k : ℕ) → slice_index xs k < 256) → (k : ℕ) → slice_index (take n xs) k < 256
bytes-take zero xs small k = omega arith
bytes-take (suc n) [] small k = omega arith
bytes-take (suc n) (x ∷ xs) small zero = small 0
bytes-take (suc n) (x ∷ xs) small (suc k) = bytes-take n xs (λ j. small (suc j)) k

bytes-drop : (n : ℕ) (xs : List ℕ) → ((k : ℕ) → slice_index xs k < 256) → (k : ℕ) → slice_index (drop n xs) k < 256
bytes-drop zero xs small k = small k
bytes-drop (suc n) [] small k = omega arith
bytes-drop (suc n) (x ∷ xs) small k = bytes-drop n xs (λ j. small (suc j)) k

-- two words at once
pub two-words : (xs : List ℕ) (rest : ℕ) → length xs ≡ 16 → ((k : ℕ) → slice_index xs k < 256)
    → bit_xor (times 128 (bit_xor rest (little (take 8 xs)))) (times 64 (little (drop 8 xs))) ≡ with_bytes xs rest
two-words xs rest two small =
    let first : ℕ = bit_xor rest (little (take 8 xs)) in
    let taken : 8 * length (take 8 xs) ≡ 64 = omega (arith, two, length-take-le 8 xs) in
    let left : 8 * length (drop 8 xs) ≡ 64 = omega (arith, two, length-drop 8 xs) in
    let one : with_bytes (take 8 xs) rest ≡ times 64 first =
    with_bytes-little (take 8 xs) rest (bytes-take 8 xs small) ∙ ap (λ (n : ℕ). times n first) taken in
    let other : (r : ℕ) → with_bytes (drop 8 xs) r ≡ times 64 (bit_xor r (little (drop 8 xs))) =
    λ r. with_bytes-little (drop 8 xs) r (bytes-drop 8 xs small) ∙ ap (λ (n : ℕ). times n (bit_xor r (little (drop 8 xs)))) left in
    sym (sym (with_bytes-split 8 xs rest) ∙ ap (with_bytes (drop 8 xs)) one ∙ other (times 64 first)
    ∙ times-xor 64 (times 64 first) (little (drop 8 xs)) ∙ ap (λ (x : ℕ). bit_xor x (times 64 (little (drop 8 xs)))) (sym (times-add 64 64 first)))

pub ruleset two_rules = (two-words)
