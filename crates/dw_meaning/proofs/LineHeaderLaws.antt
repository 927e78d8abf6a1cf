-- The header of a line table under an edit: its numbers are those that it had, but for its two lengths.
use Rattle.std.proofs.Common.{Bool, true, false, ◌≡◌, ℕ, ◌+◌, ◌^◌, ◌<◌, ◌≤◌, ◌==◌, List, [], ◌∷◌, ◌++◌, length, take, drop, Option, Some, None, refl, sym, ap, ◌∙◌, subst, arith, if◌then◌else◌, append_assoc}
use Rattle.std.specs.Prelude.{nat_le, nat_lt, option_and_then}
use Rattle.std.proofs.lemmas.Bool.{leb-true, le-leb, lt-ltb}
use Rattle.std.proofs.lemmas.List.{append-nil, length-append, length-take-le, drop-drop}
use Rattle.dw_base.specs.Forms.{width_size}
use Rattle.dw_base.specs.Lebs.{initial_length, initial_length_at}
use Rattle.dw_base.specs.LineHeaders.{is_line_version, length_place, flags_place, header_with, is_header, header_if, header_of_length, header_at, header_of_version, header_in, header_from, line_header}
use Rattle.dw_base.specs.LineWriteFails.{length_limit}
use Rattle.dw_base.specs.Numbers.{spelled, number_at, number_bytes}
use Rattle.dw_base.specs.WrittenLines.{length_size, length_bytes}
use Rattle.dw_base.specs.declared.line_tables.LineHeader.{LineHeader}
use Rattle.dw_base.specs.declared.shared.Order.{Order}
use Rattle.dw_base.specs.declared.shared.Width.{Width}
use Rattle.dw_base.specs.declared.shared.Width.TheVariants.{W32, W64}
use Rattle.dw_base.proofs.ContributionBackLaws.{StandsAt, spelled-there}
use Rattle.dw_base.proofs.NumberLaws.{length-number_bytes, spelled-number_bytes}
use Rattle.dw_meaning.proofs.LineReadLaws.{bound, if-some, some-same}

-- how far the fields of a header lie apart
abbrev pub sizes_size : ℕ → ℕ
sizes_size version = if version == 5 then 4 else 2

abbrev pub ops_size : ℕ → ℕ
ops_size version = if nat_le 4 version then 2 else 1

pub length-place : (version at : ℕ) → length_place version at ≡ at + sizes_size version
unfolding length_place
length-place version at = by_version (version == 5)
  where
    by_version : (b : Bool) → (if b then at + 4 else at + 2) ≡ at + (if b then 4 else 2)
    by_version true = refl
    by_version false = refl

pub flags-place : (version first : ℕ) → flags_place version first ≡ first + ops_size version
unfolding flags_place
flags-place version first = by_version (nat_le 4 version)
  where
    by_version : (b : Bool) → (if b then first + 2 else first + 1) ≡ first + (if b then 2 else 1)
    by_version true = refl
    by_version false = refl

-- where the numbers behind the length of a header stand
abbrev pub first_place : ℕ → ℕ → Width → ℕ
first_place version at width = length_place version at + width_size width

abbrev pub flags_at : ℕ → ℕ → Width → ℕ
flags_at version at width = flags_place version (first_place version at width)

-- a header that was read: where its fields stand, and what its numbers are
pub record HeaderIs (order : Order) (bytes : List ℕ) (start : ℕ) (h : LineHeader) : Type 0 where
  pub count : ℕ
  pub size : ℕ
  pub length_is : initial_length_at order bytes start ≡ Some (h.width, count, size)
  pub within : start + size + count ≤ length bytes
  pub end_is : h.end ≡ start + size + count
  pub version_is : number_at order (take h.end bytes) (start + size) 2 ≡ Some h.version
  pub known : is_line_version h.version ≡ true
  pub flags : flags_at h.version (start + size) h.width + 4 ≤ length (take h.end bytes)
  pub program : first_place h.version (start + size) h.width + spelled order (take h.end bytes) (length_place h.version (start + size)) (width_size h.width) ≤ length (take h.end bytes)
  pub own : is_header (take h.end bytes) h ≡ true
  pub is : h ≡ header_with (take h.end bytes) start h.width h.version (start + size) (first_place h.version (start + size) h.width) (flags_at h.version (start + size) h.width)
      (spelled order (take h.end bytes) (length_place h.version (start + size)) (width_size h.width))

header-of : (order : Order) (bytes : List ℕ) (start : ℕ) (h : LineHeader) (l : Width × ℕ × ℕ) → initial_length_at order bytes start ≡ Some l → header_from order bytes start l ≡ Some h
    → HeaderIs order bytes start h
unfolding header_in header_of_version header_at header_of_length header_with
header-of order bytes start h l e f =
    let from = if-some (nat_le (start + l.2 + l.1) (length bytes)) (header_in order (take (start + l.2 + l.1) bytes) start l.0 (start + l.2)) h f in
    let table : List ℕ = take (start + l.2 + l.1) bytes in
    let at : ℕ = start + l.2 in
    let version = bound (header_of_version order (take (start + l.2 + l.1) bytes) start l.0 (start + l.2)) (number_at order (take (start + l.2 + l.1) bytes) (start + l.2) 2) h from.1 in
    let v : ℕ = version.first in
    let known = if-some (is_line_version version.first)
    (header_at order (take (start + l.2 + l.1) bytes) start l.0 version.first (start + l.2) (length_place version.first (start + l.2))
    (flags_place version.first (length_place version.first (start + l.2) + width_size l.0))) h version.rest in
    let flags = if-some (nat_le (flags_at version.first (start + l.2) l.0 + 4) (length (take (start + l.2 + l.1) bytes)))
    (header_of_length (take (start + l.2 + l.1) bytes) start l.0 version.first (start + l.2) (first_place version.first (start + l.2) l.0) (flags_at version.first (start + l.2) l.0)
    (spelled order (take (start + l.2 + l.1) bytes) (length_place version.first (start + l.2)) (width_size l.0))) h known.1 in
    let room = if-some (nat_le (first_place version.first (start + l.2) l.0 + spelled order (take (start + l.2 + l.1) bytes) (length_place version.first (start + l.2)) (width_size l.0))
    (length (take (start + l.2 + l.1) bytes)))
    (header_if (take (start + l.2 + l.1) bytes) (header_with (take (start + l.2 + l.1) bytes) start l.0 version.first (start + l.2) (first_place version.first (start + l.2) l.0)
    (flags_at version.first (start + l.2) l.0) (spelled order (take (start + l.2 + l.1) bytes) (length_place version.first (start + l.2)) (width_size l.0)))) h flags.1 in
    let own = if-some (is_header (take (start + l.2 + l.1) bytes) (header_with (take (start + l.2 + l.1) bytes) start l.0 version.first (start + l.2) (first_place version.first (start + l.2) l.0)
    (flags_at version.first (start + l.2) l.0) (spelled order (take (start + l.2 + l.1) bytes) (length_place version.first (start + l.2)) (width_size l.0))))
    (Some (header_with (take (start + l.2 + l.1) bytes) start l.0 version.first (start + l.2) (first_place version.first (start + l.2) l.0)
    (flags_at version.first (start + l.2) l.0) (spelled order (take (start + l.2 + l.1) bytes) (length_place version.first (start + l.2)) (width_size l.0)))) h room.1 in
    let within : start + l.2 + l.1 ≤ length bytes = leb-true _ _ from.0 in
    let size : length (take (start + l.2 + l.1) bytes) ≡ start + l.2 + l.1 = length-take-le (start + l.2 + l.1) bytes within in
    let same : header_with (take (start + l.2 + l.1) bytes) start l.0 version.first (start + l.2) (first_place version.first (start + l.2) l.0)
    (flags_at version.first (start + l.2) l.0) (spelled order (take (start + l.2 + l.1) bytes) (length_place version.first (start + l.2)) (width_size l.0)) ≡ h = some-same _ h own.1 in
    let end : h.end ≡ start + l.2 + l.1 = ap (λ (x : LineHeader). x.end) (sym same) ∙ size in
    let version_same : version.first ≡ h.version = ap (λ (x : LineHeader). x.version) same in
    let width : l.0 ≡ h.width = ap (λ (x : LineHeader). x.width) same in
    finish h l version.first e within end version_same width version.is known.0 (leb-true _ _ flags.0) (leb-true _ _ room.0) (subst (λ (x : LineHeader). is_header (take (start + l.2 + l.1) bytes) x ≡ true) same own.0) (sym same)
  where
    Own : LineHeader → Width × ℕ × ℕ → ℕ → List ℕ → Type 0
    Own k l v table =
        k ≡ header_with table start l.0 v (start + l.2) (first_place v (start + l.2) l.0) (flags_at v (start + l.2) l.0) (spelled order table (length_place v (start + l.2)) (width_size l.0))

    finish : (k : LineHeader) (l : Width × ℕ × ℕ) (v : ℕ) → initial_length_at order bytes start ≡ Some l → start + l.2 + l.1 ≤ length bytes → k.end ≡ start + l.2 + l.1 → v ≡ k.version → l.0 ≡ k.width
        → number_at order (take (start + l.2 + l.1) bytes) (start + l.2) 2 ≡ Some v → is_line_version v ≡ true
        → flags_at v (start + l.2) l.0 + 4 ≤ length (take (start + l.2 + l.1) bytes)
        → first_place v (start + l.2) l.0 + spelled order (take (start + l.2 + l.1) bytes) (length_place v (start + l.2)) (width_size l.0) ≤ length (take (start + l.2 + l.1) bytes)
        → is_header (take (start + l.2 + l.1) bytes) k ≡ true → Own k l v (take (start + l.2 + l.1) bytes) → HeaderIs order bytes start k
    finish k l v e within end version width is known flags room own same =
        let t : take (start + l.2 + l.1) bytes ≡ take k.end bytes = ap (λ (i : ℕ). take i bytes) (sym end) in
        record {
          count = l.1;
          size = l.2;
          length_is = e ∙ ap (λ (w : Width). Some (w, l.1, l.2)) width;
          within = within;
          end_is = end;
          version_is = ap (λ (x : List ℕ). number_at order x (start + l.2) 2) (sym t) ∙ is ∙ ap (λ (i : ℕ). Some i) version;
          known = subst (λ (i : ℕ). is_line_version i ≡ true) version known;
          flags = subst (λ (x : List ℕ). flags_at k.version (start + l.2) k.width + 4 ≤ length x) t
              (subst (λ (w : Width). flags_at k.version (start + l.2) w + 4 ≤ length (take (start + l.2 + l.1) bytes)) width
              (subst (λ (i : ℕ). flags_at i (start + l.2) l.0 + 4 ≤ length (take (start + l.2 + l.1) bytes)) version flags));
          program = subst (λ (x : List ℕ). first_place k.version (start + l.2) k.width + spelled order x (length_place k.version (start + l.2)) (width_size k.width) ≤ length x) t
              (subst (λ (w : Width). first_place k.version (start + l.2) w + spelled order (take (start + l.2 + l.1) bytes) (length_place k.version (start + l.2)) (width_size w) ≤ length (take (start + l.2 + l.1) bytes)) width
              (subst (λ (i : ℕ). first_place i (start + l.2) l.0 + spelled order (take (start + l.2 + l.1) bytes) (length_place i (start + l.2)) (width_size l.0) ≤ length (take (start + l.2 + l.1) bytes)) version room));
          own = subst (λ (x : List ℕ). is_header x k ≡ true) t own;
          is = subst (λ (x : List ℕ). Own k (k.width, l.1, l.2) k.version x) t
              (subst (λ (w : Width). Own k (w, l.1, l.2) k.version (take (start + l.2 + l.1) bytes)) width
              (subst (λ (i : ℕ). Own k l i (take (start + l.2 + l.1) bytes)) version same));
        }

pub header-is : (order : Order) (bytes : List ℕ) (start : ℕ) (h : LineHeader) → line_header order bytes start ≡ Some h → HeaderIs order bytes start h
unfolding line_header
header-is order bytes start h e =
    let l = bound (header_from order bytes start) (initial_length_at order bytes start) h e in
    header-of order bytes start h l.first l.is l.rest

-- a header whose fields stand there is read
pub header-there : (order : Order) (bytes : List ℕ) (start : ℕ) (h : LineHeader) → HeaderIs order bytes start h → line_header order bytes start ≡ Some h
unfolding line_header header_in header_of_version header_at header_of_length
header-there order bytes start h x =
    let table : List ℕ = take h.end bytes in
    let cut : take (start + x.size + x.count) bytes ≡ take h.end bytes = ap (λ (i : ℕ). take i bytes) (sym x.end_is) in
    let own : header_if (take h.end bytes) (header_with (take h.end bytes) start h.width h.version (start + x.size) (first_place h.version (start + x.size) h.width) (flags_at h.version (start + x.size) h.width)
    (spelled order (take h.end bytes) (length_place h.version (start + x.size)) (width_size h.width))) ≡ Some h =
    ap (header_if (take h.end bytes)) (sym x.is) ∙ ap (λ (b : Bool). if b then Some h else None) x.own in
    let whole : header_from order bytes start (h.width, x.count, x.size) ≡ Some h =
    ap (λ (b : Bool). if b then header_in order (take (start + x.size + x.count) bytes) start h.width (start + x.size) else None) (le-leb _ _ x.within)
    ∙ ap (λ (t : List ℕ). header_in order t start h.width (start + x.size)) cut
    ∙ ap (option_and_then (header_of_version order (take h.end bytes) start h.width (start + x.size))) x.version_is
    ∙ ap (λ (b : Bool). if b then header_at order (take h.end bytes) start h.width h.version (start + x.size) (length_place h.version (start + x.size)) (flags_at h.version (start + x.size) h.width) else None) x.known
    ∙ ap (λ (b : Bool). if b then header_of_length (take h.end bytes) start h.width h.version (start + x.size) (first_place h.version (start + x.size) h.width) (flags_at h.version (start + x.size) h.width)
    (spelled order (take h.end bytes) (length_place h.version (start + x.size)) (width_size h.width)) else None) (le-leb _ _ x.flags)
    ∙ ap (λ (b : Bool). if b then header_if (take h.end bytes) (header_with (take h.end bytes) start h.width h.version (start + x.size) (first_place h.version (start + x.size) h.width)
    (flags_at h.version (start + x.size) h.width) (spelled order (take h.end bytes) (length_place h.version (start + x.size)) (width_size h.width))) else None) (le-leb _ _ x.program)
    ∙ own in
    ap (option_and_then (header_from order bytes start)) x.length_is ∙ whole

-- the size of a length's field
pub length-size : (order : Order) (bytes : List ℕ) (start : ℕ) (w : Width) (n k : ℕ) → initial_length_at order bytes start ≡ Some (w, n, k) → k ≡ length_size w
unfolding initial_length_at
length-size order bytes start w n k e = by_word (number_at order bytes start 4) (number_at order bytes (start + 4) 8) e
  where
    width_of : Width × ℕ × ℕ → ℕ
    width_of l = length_size l.0

    by_long : (o : Option ℕ) → Rattle.dw_base.specs.Lebs.long_length o ≡ Some (w, n, k) → k ≡ length_size w
    by_long None e = absurd cc
    by_long (Some x) e =
        let same : ◌≡◌ {A = Width × ℕ × ℕ} (W64, x, 12) (w, n, k) = triple (W64, x, 12) (w, n, k) e in
        ap (λ (l : Width × ℕ × ℕ). l.2) (sym same) ∙ ap width_of same
      where
        triple : (a b : Width × ℕ × ℕ) → Some a ≡ Some b → a ≡ b
        triple a b e = some-same a b e

    by_word : (o p : Option ℕ) → initial_length o p ≡ Some (w, n, k) → k ≡ length_size w
    by_word None p e = absurd cc
    by_word (Some x) p e = by_low (nat_lt x 0xffff_fff0) e
      where
        short : (a b : Width × ℕ × ℕ) → Some a ≡ Some b → a ≡ b
        short a b e = some-same a b e

        by_high : (b : Bool) → (if b then Rattle.dw_base.specs.Lebs.long_length p else None) ≡ Some (w, n, k) → k ≡ length_size w
        by_high true e = by_long p e
        by_high false e = absurd cc

        by_low : (b : Bool) → (if b then Some (W32, x, 4) else (if x == 0xffff_ffff then Rattle.dw_base.specs.Lebs.long_length p else None)) ≡ Some (w, n, k) → k ≡ length_size w
        by_low true e =
            let same : ◌≡◌ {A = Width × ℕ × ℕ} (W32, x, 4) (w, n, k) = short (W32, x, 4) (w, n, k) e in
            ap (λ (l : Width × ℕ × ℕ). l.2) (sym same) ∙ ap width_of same
        by_low false e = by_high (x == 0xffff_ffff) e

-- a length that was written is read
number-first : (order : Order) (bs : List ℕ) (n x q : ℕ) → StandsAt bs (number_bytes order n x) q → x < 256 ^ n → number_at order bs q n ≡ Some x
unfolding number_at
number-first order bs n x q s lt =
    let inside = s.inside in
    let size : length (number_bytes order n x) ≡ n = length-number_bytes order n x in
    let first : q ≡ q + 0 = omega arith in
    let none : number_bytes order n x ++ [] ≡ number_bytes order n x = append-nil (number_bytes order n x) in
    rw (le-leb (q + n) (length bs) (omega (arith, inside, size)))
    (ap (λ (i : ℕ). Some i) (ap (λ (i : ℕ). spelled order bs i n) first ∙ spelled-there order bs (number_bytes order n x) q 0 n s (omega (arith, size))
    ∙ ap (λ (ys : List ℕ). spelled order ys 0 n) (sym none) ∙ spelled-number_bytes order n x [] lt))

pub written-length : (order : Order) (bs : List ℕ) (w : Width) (n q : ℕ) → StandsAt bs (length_bytes order w n) q → n < length_limit w → initial_length_at order bs q ≡ Some (w, n, length_size w)
unfolding initial_length_at
written-length order bs W32 n q s lt =
    rw (number-first order bs 4 n q s (omega (arith, lt)), lt-ltb n 0xffff_fff0 lt) refl
written-length order bs W64 n q s lt =
    let word : StandsAt bs (number_bytes order 4 0xffff_ffff) q = record {
      behind = number_bytes order 8 n ++ s.behind;
      is = s.is ∙ append_assoc (number_bytes order 4 0xffff_ffff) (number_bytes order 8 n) s.behind;
      inside =
          let inside = s.inside in
          omega (arith, inside, length-append (number_bytes order 4 0xffff_ffff) (number_bytes order 8 n));
    } in
    let four : length (number_bytes order 4 0xffff_ffff) ≡ 4 = length-number_bytes order 4 0xffff_ffff in
    let inside = s.inside in
    let rest : StandsAt bs (number_bytes order 8 n) (q + 4) = record {
      behind = s.behind;
      is =
          ap (λ (i : ℕ). drop (q + i) bs) (sym four) ∙ sym (drop-drop (length (number_bytes order 4 0xffff_ffff)) q bs) ∙ ap (drop (length (number_bytes order 4 0xffff_ffff))) word.is
          ∙ drop-front (number_bytes order 4 0xffff_ffff) (number_bytes order 8 n ++ s.behind);
      inside = omega (arith, inside, four, length-append (number_bytes order 4 0xffff_ffff) (number_bytes order 8 n));
    } in
    rw (number-first order bs 4 0xffff_ffff q word (omega arith), number-first order bs 8 n (q + 4) rest lt) refl
  where
    drop-front : (xs ys : List ℕ) → drop (length xs) (xs ++ ys) ≡ ys
    drop-front [] ys = refl
    drop-front (x ∷ xs) ys = drop-front xs ys
