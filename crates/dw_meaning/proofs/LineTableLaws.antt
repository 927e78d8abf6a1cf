-- A line table that was written with its paths mapped is read, and means the mapped table.
use Rattle.std.proofs.Common.{Bool, true, false, ◌≡◌, ℕ, ◌+◌, ◌-◌, ◌<◌, ◌≤◌, ◌==◌, List, length, take, drop, slice_index, Some, refl, sym, ap, ◌∙◌, subst, arith, if◌then◌else◌}
use Rattle.std.specs.Prelude.{nat_le, not, min}
use Rattle.std.specs.Int.{w8, cast_signed}
use Rattle.std.proofs.lemmas.Bool.{leb-true, le-leb}
use Rattle.std.proofs.lemmas.List.{length-drop, length-take-le}
use Rattle.dw_base.specs.Forms.{width_size}
use Rattle.dw_base.specs.LineHeaders.{length_place, header_with, standard_operands, standard_count, has_standard_operands, is_header}
use Rattle.dw_base.specs.LineSources.{LineSource}
use Rattle.dw_base.specs.Numbers.{spelled, number_at}
use Rattle.dw_base.specs.Texts.{same_text}
use Rattle.dw_base.specs.WrittenLines.{part, Change, length_size}
use Rattle.dw_base.specs.declared.line_tables.LineHeader.{LineHeader}
use Rattle.dw_meaning.proofs.LineChangeLaws.{part-length}
use Rattle.dw_meaning.proofs.LineHeaderLaws.{sizes_size, ops_size, length-place, flags-place, first_place, flags_at, HeaderIs, length-size}
use Rattle.dw_meaning.proofs.LineLaidLaws.{Laid}
use Rattle.dw_meaning.proofs.LineListLaws.{byte-both}
use Rattle.dw_meaning.proofs.LineMoveLaws.{LinePlaces, moved_header}
use Rattle.dw_meaning.proofs.LineReadLaws.{Both, both-behind, first-stand, number-both-at}

-- where the parts of the written table lie
abbrev pub places_of : LineHeader → ℕ → ℕ → ℕ → LinePlaces
places_of h start size header = record {
  start = start;
  end = start + size;
  program = first_place h.version (start + length_size h.width) h.width + header;
  operands = flags_at h.version (start + length_size h.width) h.width + 4;
  lists = first_place h.version (start + length_size h.width) h.width + (h.lists - first_place h.version (h.start + length_size h.width) h.width);
}

-- what is known of the places of a header that was read
pub record HeaderPlaces (h : LineHeader) : Type 0 where
  pub operands : h.operands ≡ flags_at h.version (h.start + length_size h.width) h.width + 4
  pub lists : h.lists ≡ h.operands + (h.opcode_base - 1)
  pub inside : h.lists ≤ h.end
  pub program : h.program ≤ h.end
  pub first : first_place h.version (h.start + length_size h.width) h.width ≤ h.program

own-lists : (table : List ℕ) (h : LineHeader) → is_header table h ≡ true → h.lists ≤ h.end
unfolding is_header
own-lists table h e = leb-true h.lists h.end (third (h.opcode_base == 0) (h.max_ops == 0) (nat_le h.lists h.end) (has_standard_operands table h) e)
  where
    third : (a b c d : Bool) → (if a then false else (if b then false else (if c then d else false))) ≡ true → c ≡ true
    third true b c d e = absurd cc
    third false true c d e = absurd cc
    third false false true d e = refl
    third false false false d e = absurd cc

pub header-places : (g : LineSource) (start : ℕ) (h : LineHeader) → HeaderIs g.order g.bytes start h → (h.start ≡ start) × HeaderPlaces h
unfolding header_with
header-places g start h x =
    let begin : h.start ≡ start = ap (λ (y : LineHeader). y.start) x.is in
    let field = length-size g.order g.bytes start h.width x.count x.size x.length_is in
    let at : start + x.size ≡ h.start + length_size h.width = ap (λ (i : ℕ). start + i) field ∙ ap (λ (i : ℕ). i + length_size h.width) (sym begin) in
    let operands : h.operands ≡ flags_at h.version (start + x.size) h.width + 4 = ap (λ (y : LineHeader). y.operands) x.is in
    let lists : h.lists ≡ flags_at h.version (start + x.size) h.width + 4 + (slice_index (take h.end g.bytes) (flags_at h.version (start + x.size) h.width + 3) - 1) = ap (λ (y : LineHeader). y.lists) x.is in
    let base : h.opcode_base ≡ slice_index (take h.end g.bytes) (flags_at h.version (start + x.size) h.width + 3) = ap (λ (y : LineHeader). y.opcode_base) x.is in
    let program : h.program ≡ first_place h.version (start + x.size) h.width + spelled g.order (take h.end g.bytes) (length_place h.version (start + x.size)) (width_size h.width) =
    ap (λ (y : LineHeader). y.program) x.is in
    let room = x.program in
    let end : h.end ≡ length (take h.end g.bytes) = ap (λ (y : LineHeader). y.end) x.is in (
      begin,
      record {
        operands = operands ∙ ap (λ (i : ℕ). flags_at h.version i h.width + 4) at;
        lists = lists ∙ ap (λ (i : ℕ). i + (slice_index (take h.end g.bytes) (flags_at h.version (start + x.size) h.width + 3) - 1)) (sym operands) ∙ ap (λ (i : ℕ). h.operands + (i - 1)) (sym base);
        inside = own-lists (take h.end g.bytes) h x.own;
        program = omega (arith, program, room, end);
        first = subst (λ (i : ℕ). first_place h.version i h.width ≤ h.program) at (omega (arith, program));
      },
    )

-- the header of the written table
own-moved : (a b c d c2 d2 : Bool) → (if a then false else (if b then false else (if c then d else false))) ≡ true → c2 ≡ true → d2 ≡ d
    → (if a then false else (if b then false else (if c2 then d2 else false))) ≡ true
own-moved true b c d c2 d2 e f k = absurd cc
own-moved false true c d c2 d2 e f k = absurd cc
own-moved false false true d c2 d2 e f k = rw (f, k) e
own-moved false false false d c2 d2 e f k = absurd cc

pub header-moved : (g : LineSource) (bytes : List ℕ) (cs : List Change) (start size header : ℕ) (h : LineHeader) → HeaderIs g.order g.bytes h.start h → HeaderPlaces h → Laid g h bytes cs start size header
    → Both (take h.end g.bytes) (take (start + size) bytes) (part (take h.end g.bytes) (first_place h.version (h.start + length_size h.width) h.width) h.lists)
    (first_place h.version (h.start + length_size h.width) h.width) (first_place h.version (start + length_size h.width) h.width)
    → HeaderIs g.order bytes start (moved_header h (places_of h start size header))
unfolding header_with is_header has_standard_operands
header-moved g bytes cs start size header h x hp l b =
    let old : List ℕ = take h.end g.bytes in
    let new : List ℕ = take (start + size) bytes in
    let at : ℕ = h.start + length_size h.width in
    let first : ℕ = first_place h.version (h.start + length_size h.width) h.width in
    let first2 : ℕ = first_place h.version (start + length_size h.width) h.width in
    let field = length-size g.order g.bytes h.start h.width x.count x.size x.length_is in
    let at_same : h.start + x.size ≡ h.start + length_size h.width = ap (λ (i : ℕ). h.start + i) field in
    let is : h ≡ header_with (take h.end g.bytes) h.start h.width h.version (h.start + length_size h.width) (first_place h.version (h.start + length_size h.width) h.width)
    (flags_at h.version (h.start + length_size h.width) h.width) (spelled g.order (take h.end g.bytes) (length_place h.version (h.start + length_size h.width)) (width_size h.width)) =
    x.is ∙ ap (λ (i : ℕ). header_with (take h.end g.bytes) h.start h.width h.version i (first_place h.version i h.width) (flags_at h.version i h.width)
    (spelled g.order (take h.end g.bytes) (length_place h.version i) (width_size h.width))) at_same in
    let fp = flags-place h.version (first_place h.version (h.start + length_size h.width) h.width) in
    let fp2 = flags-place h.version (first_place h.version (start + length_size h.width) h.width) in
    let lp2 = length-place h.version (start + length_size h.width) in
    let lp = length-place h.version (h.start + length_size h.width) in
    let operands = hp.operands in
    let lists = hp.lists in
    let inside = hp.inside in
    let old_size : length (take h.end g.bytes) ≡ h.end = sym (ap (λ (y : LineHeader). y.end) is) in
    let long : length (part (take h.end g.bytes) (first_place h.version (h.start + length_size h.width) h.width) h.lists) ≡ h.lists - first_place h.version (h.start + length_size h.width) h.width =
    part-length (take h.end g.bytes) (first_place h.version (h.start + length_size h.width) h.width) h.lists (omega (arith, operands, lists, fp)) (omega (arith, inside, old_size)) in
    let size_is = l.size_is in
    let within = l.within in
    let new_size : length (take (start + size) bytes) ≡ start + size = length-take-le (start + size) bytes (omega (arith, size_is, within)) in
    let b_inside = b.is.inside in
    let byte : (k : ℕ) → k < h.lists - first_place h.version (h.start + length_size h.width) h.width
    → slice_index (take (start + size) bytes) (first_place h.version (start + length_size h.width) h.width + k)
    ≡ slice_index (take h.end g.bytes) (first_place h.version (h.start + length_size h.width) h.width + k) =
    λ k lt. byte-both (take h.end g.bytes) (take (start + size) bytes) (part (take h.end g.bytes) (first_place h.version (h.start + length_size h.width) h.width) h.lists)
    (first_place h.version (h.start + length_size h.width) h.width) (first_place h.version (start + length_size h.width) h.width) k b (omega (arith, lt, long)) in
    let flag : (k : ℕ) → k < 4 → slice_index (take (start + size) bytes) (flags_at h.version (start + length_size h.width) h.width + k)
    ≡ slice_index (take h.end g.bytes) (flags_at h.version (h.start + length_size h.width) h.width + k) =
    λ k lt. ap (slice_index (take (start + size) bytes)) (ap (λ (i : ℕ). i + k) fp2 ∙ omega arith)
    ∙ byte (ops_size h.version + k) (omega (arith, lt, operands, lists, fp)) ∙ ap (slice_index (take h.end g.bytes)) (sym (ap (λ (i : ℕ). i + k) fp ∙ omega arith)) in
    let zero_flag : (i : ℕ) → i + 0 ≡ i = λ i. omega arith in
    let e_min : slice_index (take (start + size) bytes) (first_place h.version (start + length_size h.width) h.width) ≡ h.min_length =
    ap (slice_index (take (start + size) bytes)) (sym (zero_flag (first_place h.version (start + length_size h.width) h.width))) ∙ byte 0 (omega (arith, operands, lists, fp))
    ∙ ap (slice_index (take h.end g.bytes)) (zero_flag (first_place h.version (h.start + length_size h.width) h.width)) ∙ sym (ap (λ (y : LineHeader). y.min_length) is) in
    let e_ops : (if nat_le 4 h.version then slice_index (take (start + size) bytes) (first_place h.version (start + length_size h.width) h.width + 1) else 1) ≡ h.max_ops =
    ap (λ (i : ℕ). if nat_le 4 h.version then i else 1) (byte 1 (omega (arith, operands, lists, fp))) ∙ sym (ap (λ (y : LineHeader). y.max_ops) is) in
    let e_stmt : not (slice_index (take (start + size) bytes) (flags_at h.version (start + length_size h.width) h.width) == 0) ≡ h.default_stmt =
    ap (λ (i : ℕ). not (i == 0)) (ap (slice_index (take (start + size) bytes)) (sym (zero_flag (flags_at h.version (start + length_size h.width) h.width))) ∙ flag 0 (omega arith)
    ∙ ap (slice_index (take h.end g.bytes)) (zero_flag (flags_at h.version (h.start + length_size h.width) h.width))) ∙ sym (ap (λ (y : LineHeader). y.default_stmt) is) in
    let e_base : cast_signed w8 (slice_index (take (start + size) bytes) (flags_at h.version (start + length_size h.width) h.width + 1)) ≡ h.line_base =
    ap (cast_signed w8) (flag 1 (omega arith)) ∙ sym (ap (λ (y : LineHeader). y.line_base) is) in
    let e_range : slice_index (take (start + size) bytes) (flags_at h.version (start + length_size h.width) h.width + 2) ≡ h.line_range =
    flag 2 (omega arith) ∙ sym (ap (λ (y : LineHeader). y.line_range) is) in
    let e_code : slice_index (take (start + size) bytes) (flags_at h.version (start + length_size h.width) h.width + 3) ≡ h.opcode_base =
    flag 3 (omega arith) ∙ sym (ap (λ (y : LineHeader). y.opcode_base) is) in
    let front_size : length (part (take h.end g.bytes) (h.start + length_size h.width) (length_place h.version (h.start + length_size h.width))) ≡ sizes_size h.version =
    part-length (take h.end g.bytes) (h.start + length_size h.width) (length_place h.version (h.start + length_size h.width)) (omega (arith, lp)) (omega (arith, operands, lists, inside, old_size, fp)) ∙ omega (arith, lp) in
    let e_address : (if h.version == 5 then slice_index (take (start + size) bytes) (start + length_size h.width + 2) else 0) ≡ h.address =
    address (h.version == 5) refl front_size l ∙ sym (ap (λ (y : LineHeader). y.address) is) in
    let e_lists : flags_at h.version (start + length_size h.width) h.width + 4 + (h.opcode_base - 1)
    ≡ first_place h.version (start + length_size h.width) h.width + (h.lists - first_place h.version (h.start + length_size h.width) h.width) =
    omega (arith, operands, lists, fp, fp2) in
    let version_new : number_at g.order (take (start + size) bytes) (start + length_size h.width) 2 ≡ Some h.version =
    version-both front_size l x.version_is at_same in
    let counts_new : has_standard_operands (take (start + size) bytes) (moved_header h (places_of h start size header)) ≡ has_standard_operands (take h.end g.bytes) h =
    counts long operands lists fp fp2 in
    let lists_end : nat_le (first_place h.version (start + length_size h.width) h.width + (h.lists - first_place h.version (h.start + length_size h.width) h.width)) (start + size) ≡ true =
    le-leb _ _ (omega (arith, b_inside, long, new_size)) in
    record {
      count = l.count;
      size = length_size h.width;
      length_is = l.length_is;
      within = l.within;
      end_is = omega (arith, size_is);
      version_is = version_new;
      known = x.known;
      flags = omega (arith, new_size, b_inside, long, operands, lists, fp, fp2);
      program = subst (λ (i : ℕ). first_place h.version (start + length_size h.width) h.width + i ≤ length (take (start + size) bytes)) (sym l.header_length)
          (let ends = l.ends in omega (arith, ends, new_size));
      own = own-moved (h.opcode_base == 0) (h.max_ops == 0) (nat_le h.lists h.end) (has_standard_operands (take h.end g.bytes) h)
          (nat_le (first_place h.version (start + length_size h.width) h.width + (h.lists - first_place h.version (h.start + length_size h.width) h.width)) (start + size))
          (has_standard_operands (take (start + size) bytes) (moved_header h (places_of h start size header))) x.own lists_end counts_new;
      is = rw (new_size, e_address, l.header_length, e_min, e_ops, e_stmt, e_base, e_range, e_code, e_lists) refl;
    }
  where
    address : (v : Bool) → (h.version == 5) ≡ v → length (part (take h.end g.bytes) (h.start + length_size h.width) (length_place h.version (h.start + length_size h.width))) ≡ sizes_size h.version
        → Laid g h bytes cs start size header
        → (if v then slice_index (take (start + size) bytes) (start + length_size h.width + 2) else 0) ≡ (if v then slice_index (take h.end g.bytes) (h.start + length_size h.width + 2) else 0)
    address false e long l = refl
    address true e long l =
        let four : sizes_size h.version ≡ 4 = ap (λ (b : Bool). if b then 4 else 2) e in
        byte-both (take h.end g.bytes) (take (start + size) bytes) (part (take h.end g.bytes) (h.start + length_size h.width) (length_place h.version (h.start + length_size h.width)))
        (h.start + length_size h.width) (start + length_size h.width) 2 l.front (omega (arith, long, four))

    two-or-four : (version : ℕ) → 2 ≤ sizes_size version
    two-or-four version = by_five (version == 5)
      where
        by_five : (b : Bool) → 2 ≤ (if b then 4 else 2)
        by_five true = omega arith
        by_five false = omega arith

    version-both : length (part (take h.end g.bytes) (h.start + length_size h.width) (length_place h.version (h.start + length_size h.width))) ≡ sizes_size h.version → Laid g h bytes cs start size header
        → number_at g.order (take h.end g.bytes) (h.start + x.size) 2 ≡ Some h.version → h.start + x.size ≡ h.start + length_size h.width
        → number_at g.order (take (start + size) bytes) (start + length_size h.width) 2 ≡ Some h.version
    version-both long l e same =
        number-moved (take h.end g.bytes) (take (start + size) bytes) (part (take h.end g.bytes) (h.start + length_size h.width) (length_place h.version (h.start + length_size h.width)))
        (h.start + length_size h.width) (start + length_size h.width) l.front (omega (arith, long, two-or-four h.version))
        (ap (λ (i : ℕ). number_at g.order (take h.end g.bytes) i 2) (sym same) ∙ e)
      where
        number-moved : (old new xs : List ℕ) (p q : ℕ) → Both old new xs p q → 2 ≤ length xs → number_at g.order old p 2 ≡ Some h.version → number_at g.order new q 2 ≡ Some h.version
        number-moved old new xs p q b le e =
            number-both-at g.order old new xs p q 2 b le ∙ e

    counts : length (part (take h.end g.bytes) (first_place h.version (h.start + length_size h.width) h.width) h.lists) ≡ h.lists - first_place h.version (h.start + length_size h.width) h.width
        → h.operands ≡ flags_at h.version (h.start + length_size h.width) h.width + 4 → h.lists ≡ h.operands + (h.opcode_base - 1)
        → flags_at h.version (h.start + length_size h.width) h.width ≡ first_place h.version (h.start + length_size h.width) h.width + ops_size h.version
        → flags_at h.version (start + length_size h.width) h.width ≡ first_place h.version (start + length_size h.width) h.width + ops_size h.version
        → same_text (take (standard_count h) (drop (flags_at h.version (start + length_size h.width) h.width + 4) (take (start + size) bytes))) (take (standard_count h) standard_operands)
        ≡ same_text (take (standard_count h) (drop h.operands (take h.end g.bytes))) (take (standard_count h) standard_operands)
    counts long operands lists fp fp2 =
        let off : ℕ = ops_size h.version + 4 in
        let xs : List ℕ = part (take h.end g.bytes) (first_place h.version (h.start + length_size h.width) h.width) h.lists in
        let at_old : first_place h.version (h.start + length_size h.width) h.width + (ops_size h.version + 4) ≡ h.operands = omega (arith, operands, fp) in
        let at_new : first_place h.version (start + length_size h.width) h.width + (ops_size h.version + 4) ≡ flags_at h.version (start + length_size h.width) h.width + 4 = omega (arith, fp2) in
        let bb = both-behind (take h.end g.bytes) (take (start + size) bytes) (part (take h.end g.bytes) (first_place h.version (h.start + length_size h.width) h.width) h.lists)
        (first_place h.version (h.start + length_size h.width) h.width) (first_place h.version (start + length_size h.width) h.width) (ops_size h.version + 4) b (omega (arith, long, operands, lists, fp)) in
        let count : min (h.opcode_base - 1) 12 ≤ length (drop (ops_size h.version + 4) (part (take h.end g.bytes) (first_place h.version (h.start + length_size h.width) h.width) h.lists)) =
        omega (arith, long, operands, lists, fp, length-drop (ops_size h.version + 4) (part (take h.end g.bytes) (first_place h.version (h.start + length_size h.width) h.width) h.lists)) in
        ap (λ (ys : List ℕ). same_text ys (take (standard_count h) standard_operands))
        (ap (λ (i : ℕ). take (standard_count h) (drop i (take (start + size) bytes))) (sym at_new)
        ∙ first-stand (take (start + size) bytes) (drop (ops_size h.version + 4) (part (take h.end g.bytes) (first_place h.version (h.start + length_size h.width) h.width) h.lists))
        (first_place h.version (start + length_size h.width) h.width + (ops_size h.version + 4)) (standard_count h) bb.is count
        ∙ sym (first-stand (take h.end g.bytes) (drop (ops_size h.version + 4) (part (take h.end g.bytes) (first_place h.version (h.start + length_size h.width) h.width) h.lists))
        (first_place h.version (h.start + length_size h.width) h.width + (ops_size h.version + 4)) (standard_count h) bb.was count)
        ∙ ap (λ (i : ℕ). take (standard_count h) (drop i (take h.end g.bytes))) at_old)
