-- Where the parts of a line table stand that was written with its paths mapped.
use Rattle.std.proofs.Common.{◌≡◌, ℕ, ◌+◌, ◌-◌, ◌^◌, ◌<◌, ◌≤◌, List, [], ◌∷◌, ◌++◌, length, take, drop, Option, Some, refl, sym, ap, ◌∙◌, subst, arith, append_assoc}
use Rattle.std.proofs.lemmas.List.{append-nil, length-append, length-drop, length-take-le, drop-drop, drop-take}
use Rattle.dw_base.specs.Forms.{width_size}
use Rattle.dw_base.specs.Lebs.{initial_length_at}
use Rattle.dw_base.specs.LineHeaders.{length_place}
use Rattle.dw_base.specs.LineReadings.{LineReading, table_read}
use Rattle.dw_base.specs.LineSources.{LineSource}
use Rattle.dw_base.specs.LineWriteFails.{length_limit}
use Rattle.dw_base.specs.Numbers.{spelled, number_bytes}
use Rattle.dw_base.specs.Paths.{PathMap}
use Rattle.dw_base.specs.TextLineChanges.{header_by_texts, rest_by_texts, table_by_texts, texts_changes}
use Rattle.dw_base.specs.WrittenLines.{part, Change, changed, length_size, length_bytes}
use Rattle.dw_base.specs.declared.line_tables.LineHeader.{LineHeader}
use Rattle.dw_base.specs.declared.line_tables.LineText.{LineText}
use Rattle.dw_base.specs.declared.shared.Order.{Order}
use Rattle.dw_base.specs.declared.shared.Width.{Width}
use Rattle.dw_base.specs.declared.shared.Width.TheVariants.{W32, W64}
use Rattle.dw_base.proofs.ContributionBackLaws.{StandsAt, spelled-there}
use Rattle.dw_base.proofs.NumberLaws.{length-number_bytes, spelled-number_bytes}
use Rattle.dw_meaning.proofs.LineChangeLaws.{Before, Rest, part-rest, part-length, part-cut, changed-cut}
use Rattle.dw_meaning.proofs.LineHeaderLaws.{sizes_size, length-place, flags-place, first_place, flags_at, HeaderIs, written-length, length-size}
use Rattle.dw_meaning.proofs.LineProgramLaws.{body-stands}
use Rattle.dw_meaning.proofs.LineReadLaws.{Both, first-stand}

-- parts that stand one after another
drop-front : (xs ys : List ℕ) → drop (length xs) (xs ++ ys) ≡ ys
drop-front [] ys = refl
drop-front (x ∷ xs) ys = drop-front xs ys

pub stands-first : (bs xs ys : List ℕ) (q : ℕ) → StandsAt bs (xs ++ ys) q → StandsAt bs xs q
stands-first bs xs ys q s =
    let inside = s.inside in
    record { behind = ys ++ s.behind; is = s.is ∙ append_assoc xs ys s.behind; inside = omega (arith, inside, length-append xs ys) }

pub stands-next : (bs xs ys : List ℕ) (q : ℕ) → StandsAt bs (xs ++ ys) q → StandsAt bs ys (q + length xs)
stands-next bs xs ys q s =
    let inside = s.inside in
    record {
      behind = s.behind;
      is = sym (drop-drop (length xs) q bs) ∙ ap (drop (length xs)) (s.is ∙ append_assoc xs ys s.behind) ∙ drop-front xs (ys ++ s.behind);
      inside = omega (arith, inside, length-append xs ys);
    }

-- the bytes up to the end of what stands there end with it
pub stands-cut : (bs xs : List ℕ) (q : ℕ) → StandsAt bs xs q → StandsAt (take (q + length xs) bs) xs q
stands-cut bs xs q s =
    let own : take (length xs) (drop q bs) ≡ xs = first-stand bs xs q (length xs) s (omega arith) ∙ whole xs in
    subst (λ (ys : List ℕ). StandsAt (take (q + length xs) bs) ys q) own (body-stands bs q (length xs) s.inside)
  where
    whole : (ys : List ℕ) → take (length ys) ys ≡ ys
    whole [] = refl
    whole (y ∷ ys) = ap (λ (zs : List ℕ). y ∷ zs) (whole ys)

pub cut-ends : (bs xs : List ℕ) (q : ℕ) → StandsAt bs xs q → drop q (take (q + length xs) bs) ≡ xs
cut-ends bs xs q s = drop-take q (length xs) bs ∙ first-stand bs xs q (length xs) s (omega arith) ∙ whole xs
  where
    whole : (ys : List ℕ) → take (length ys) ys ≡ ys
    whole [] = refl
    whole (y ∷ ys) = ap (λ (zs : List ℕ). y ∷ zs) (whole ys)

-- the size of a length's field
pub length-bytes : (order : Order) (w : Width) (n : ℕ) → length (length_bytes order w n) ≡ length_size w
length-bytes order W32 n = length-number_bytes order 4 n
length-bytes order W64 n =
    let four = length-number_bytes order 4 0xffff_ffff in
    let eight = length-number_bytes order 8 n in
    omega (arith, four, eight, length-append (number_bytes order 4 0xffff_ffff) (number_bytes order 8 n))

-- what is written of a table lies within these limits
pub record Writable (g : LineSource) (m : PathMap) (places : LineText → Option ℕ) (r : LineReading) : Type 0 where
  pub table : length (rest_by_texts g m places (table_read g r)) < length_limit r.header.width
  pub header : length (header_by_texts g m places (table_read g r)) < 256 ^ width_size r.header.width

-- where it stands: its length, what is copied in front of the length of its header, that length, and the rest
pub record Laid (g : LineSource) (h : LineHeader) (bytes : List ℕ) (cs : List Change) (start size header : ℕ) : Type 0 where
  pub count : ℕ
  pub length_is : initial_length_at g.order bytes start ≡ Some (h.width, count, length_size h.width)
  pub within : start + length_size h.width + count ≤ length bytes
  pub size_is : length_size h.width + count ≡ size
  pub front : Both (take h.end g.bytes) (take (start + size) bytes) (part (take h.end g.bytes) (h.start + length_size h.width) (length_place h.version (h.start + length_size h.width)))
      (h.start + length_size h.width) (start + length_size h.width)
  pub header_length : spelled g.order (take (start + size) bytes) (length_place h.version (start + length_size h.width)) (width_size h.width) ≡ header
  pub rest : Rest (take h.end g.bytes) (take (start + size) bytes) h.program cs (first_place h.version (h.start + length_size h.width) h.width)
      (first_place h.version (start + length_size h.width) h.width)
  pub ends : first_place h.version (start + length_size h.width) h.width + header + (h.end - h.program) ≡ start + size

pub laid : (g : LineSource) (m : PathMap) (places : LineText → Option ℕ) (r : LineReading) (bytes : List ℕ) (start : ℕ) → HeaderIs g.order g.bytes r.header.start r.header
    → Writable g m places r → Before r.header.program (texts_changes g m places r.header.width (table_read g r).texts) → r.header.program ≤ r.header.end
    → StandsAt bytes (table_by_texts g m places (table_read g r)) start
    → Laid g r.header bytes (texts_changes g m places r.header.width (table_read g r).texts) start (length (table_by_texts g m places (table_read g r)))
    (length (header_by_texts g m places (table_read g r)))
unfolding table_by_texts header_by_texts
laid g m places r bytes start x fits before order s =
    let h : LineHeader = r.header in
    let w : Width = r.header.width in
    let cs : List Change = texts_changes g m places r.header.width (table_read g r).texts in
    let old : List ℕ = take r.header.end g.bytes in
    let at : ℕ = r.header.start + length_size r.header.width in
    let hl : ℕ = length_place r.header.version (r.header.start + length_size r.header.width) in
    let first : ℕ = first_place r.header.version (r.header.start + length_size r.header.width) r.header.width in
    let front : List ℕ = part g.bytes (r.header.start + length_size r.header.width) (length_place r.header.version (r.header.start + length_size r.header.width)) in
    let header : List ℕ = changed g.bytes (first_place r.header.version (r.header.start + length_size r.header.width) r.header.width) r.header.program
    (texts_changes g m places r.header.width (table_read g r).texts) in
    let number : List ℕ = number_bytes g.order (width_size r.header.width) (length header) in
    let tail : List ℕ = part g.bytes r.header.program r.header.end in
    let rest : List ℕ = (front ++ (number ++ header)) ++ tail in
    let size_old : length (take r.header.end g.bytes) ≡ r.header.end = whole-length in
    go rest header front number tail refl refl refl refl refl s
  where
    h_ : LineHeader
    h_ = r.header

    whole-length : length (take r.header.end g.bytes) ≡ r.header.end
    whole-length =
        let within = x.within in
        let end = x.end_is in
        length-take-le r.header.end g.bytes (omega (arith, within, end))

    go : (rest header front number tail : List ℕ)
        → rest ≡ (front ++ (number ++ header)) ++ tail
        → header ≡ changed g.bytes (first_place r.header.version (r.header.start + length_size r.header.width) r.header.width) r.header.program (texts_changes g m places r.header.width (table_read g r).texts)
        → front ≡ part g.bytes (r.header.start + length_size r.header.width) (length_place r.header.version (r.header.start + length_size r.header.width))
        → number ≡ number_bytes g.order (width_size r.header.width) (length header)
        → tail ≡ part g.bytes r.header.program r.header.end
        → StandsAt bytes (length_bytes g.order r.header.width (length rest) ++ rest) start
        → Laid g r.header bytes (texts_changes g m places r.header.width (table_read g r).texts) start (length (length_bytes g.order r.header.width (length rest) ++ rest)) (length header)
    go rest header front number tail rest_is header_is front_is number_is tail_is s =
        let size : ℕ = length (length_bytes g.order r.header.width (length rest) ++ rest) in
        let new : List ℕ = take (start + length (length_bytes g.order r.header.width (length rest) ++ rest)) bytes in
        let l_size : length (length_bytes g.order r.header.width (length rest)) ≡ length_size r.header.width = length-bytes g.order r.header.width (length rest) in
        let sum : length (length_bytes g.order r.header.width (length rest) ++ rest) ≡ length (length_bytes g.order r.header.width (length rest)) + length rest =
        length-append (length_bytes g.order r.header.width (length rest)) rest in
        let inside = s.inside in
        let old_end : length (take r.header.end g.bytes) ≡ r.header.end = whole-length in
        let flags = x.flags in
        let field = length-size g.order g.bytes r.header.start r.header.width x.count x.size x.length_is in
        let lp_old = length-place r.header.version (r.header.start + length_size r.header.width) in
        let lp_new = length-place r.header.version (start + length_size r.header.width) in
        let fp_old = flags-place r.header.version (first_place r.header.version (r.header.start + length_size r.header.width) r.header.width) in
        let start_at : r.header.start + x.size ≡ r.header.start + length_size r.header.width = ap (λ (i : ℕ). r.header.start + i) field in
        let flags_old : flags_at r.header.version (r.header.start + length_size r.header.width) r.header.width + 4 ≤ r.header.end =
        subst (λ (i : ℕ). flags_at r.header.version (r.header.start + length_size r.header.width) r.header.width + 4 ≤ i) old_end
        (subst (λ (i : ℕ). flags_at r.header.version i r.header.width + 4 ≤ length (take r.header.end g.bytes)) start_at flags) in
        let hl_in : length_place r.header.version (r.header.start + length_size r.header.width) ≤ r.header.end = omega (arith, flags_old, fp_old) in
        let cut : StandsAt new (length_bytes g.order r.header.width (length rest) ++ rest) start = stands-cut bytes (length_bytes g.order r.header.width (length rest) ++ rest) start s in
        let ends_new : drop start new ≡ length_bytes g.order r.header.width (length rest) ++ rest = cut-ends bytes (length_bytes g.order r.header.width (length rest) ++ rest) start s in
        let rest_at0 : StandsAt new rest (start + length (length_bytes g.order r.header.width (length rest))) = stands-next new (length_bytes g.order r.header.width (length rest)) rest start cut in
        let rest_at : StandsAt new ((front ++ (number ++ header)) ++ tail) (start + length_size r.header.width) =
        subst (λ (ys : List ℕ). StandsAt new ys (start + length_size r.header.width)) rest_is (subst (λ (i : ℕ). StandsAt new rest (start + i)) l_size rest_at0) in
        let front_part : front ≡ part (take r.header.end g.bytes) (r.header.start + length_size r.header.width) (length_place r.header.version (r.header.start + length_size r.header.width)) =
        front_is ∙ sym (part-cut g.bytes r.header.end (r.header.start + length_size r.header.width) (length_place r.header.version (r.header.start + length_size r.header.width)) hl_in) in
        let front_size : length front ≡ sizes_size r.header.version =
        ap length front_part
        ∙ part-length (take r.header.end g.bytes) (r.header.start + length_size r.header.width) (length_place r.header.version (r.header.start + length_size r.header.width)) (omega (arith, lp_old)) (omega (arith, old_end, hl_in))
        ∙ omega (arith, lp_old) in
        let front_at : StandsAt new front (start + length_size r.header.width) = stands-first new front (number ++ header) (start + length_size r.header.width) (stands-first new (front ++ (number ++ header)) tail (start + length_size r.header.width) rest_at) in
        let after_front : StandsAt new (number ++ header) (start + length_size r.header.width + length front) =
        stands-next new front (number ++ header) (start + length_size r.header.width) (stands-first new (front ++ (number ++ header)) tail (start + length_size r.header.width) rest_at) in
        let hl_new : start + length_size r.header.width + length front ≡ length_place r.header.version (start + length_size r.header.width) = omega (arith, front_size, lp_new) in
        let number_at0 : StandsAt new number (length_place r.header.version (start + length_size r.header.width)) =
        subst (StandsAt new number) hl_new (stands-first new number header (start + length_size r.header.width + length front) after_front) in
        let number_size : length number ≡ width_size r.header.width = ap length number_is ∙ length-number_bytes g.order (width_size r.header.width) (length header) in
        let zero_at : length_place r.header.version (start + length_size r.header.width) ≡ length_place r.header.version (start + length_size r.header.width) + 0 = omega arith in
        let none : number_bytes g.order (width_size r.header.width) (length header) ++ [] ≡ number_bytes g.order (width_size r.header.width) (length header) =
        append-nil (number_bytes g.order (width_size r.header.width) (length header)) in
        let fits_header : length header < 256 ^ width_size r.header.width = subst (λ (ys : List ℕ). length ys < 256 ^ width_size r.header.width) (sym header_is) fits.header in
        let reads : spelled g.order new (length_place r.header.version (start + length_size r.header.width)) (width_size r.header.width) ≡ length header =
        ap (λ (i : ℕ). spelled g.order new i (width_size r.header.width)) zero_at
        ∙ spelled-there g.order new number (length_place r.header.version (start + length_size r.header.width)) 0 (width_size r.header.width) number_at0 (omega (arith, number_size))
        ∙ ap (λ (ys : List ℕ). spelled g.order ys 0 (width_size r.header.width)) (number_is ∙ sym none)
        ∙ spelled-number_bytes g.order (width_size r.header.width) (length header) [] fits_header in
        let first_new : start + length_size r.header.width + length (front ++ number) ≡ first_place r.header.version (start + length_size r.header.width) r.header.width =
        omega (arith, front_size, number_size, lp_new, length-append front number) in
        let regroup : length_bytes g.order r.header.width (length rest) ++ rest ≡ (length_bytes g.order r.header.width (length rest) ++ (front ++ number)) ++ (header ++ tail) =
        ap (λ (ys : List ℕ). length_bytes g.order r.header.width (length rest) ++ ys) (rest_is ∙ ap (λ (ys : List ℕ). ys ++ tail) (sym (append_assoc front number header)) ∙ append_assoc (front ++ number) header tail)
        ∙ sym (append_assoc (length_bytes g.order r.header.width (length rest)) (front ++ number) (header ++ tail)) in
        let behind_front : start + length (length_bytes g.order r.header.width (length rest) ++ (front ++ number)) ≡ first_place r.header.version (start + length_size r.header.width) r.header.width =
        omega (arith, first_new, l_size, length-append (length_bytes g.order r.header.width (length rest)) (front ++ number)) in
        let first_drop : drop (first_place r.header.version (start + length_size r.header.width) r.header.width) new ≡ header ++ tail =
        ap (λ (i : ℕ). drop i new) (sym behind_front)
        ∙ sym (drop-drop (length (length_bytes g.order r.header.width (length rest) ++ (front ++ number))) start new)
        ∙ ap (drop (length (length_bytes g.order r.header.width (length rest) ++ (front ++ number)))) (ends_new ∙ regroup)
        ∙ drop-front (length_bytes g.order r.header.width (length rest) ++ (front ++ number)) (header ++ tail) in
        let split : r.header.program + (r.header.end - r.header.program) ≡ r.header.end = omega (arith, order) in
        let tail_drop : tail ≡ drop r.header.program (take r.header.end g.bytes) =
        tail_is ∙ sym (drop-take r.header.program (r.header.end - r.header.program) g.bytes) ∙ ap (λ (i : ℕ). drop r.header.program (take i g.bytes)) split in
        let header_old : header ≡ changed (take r.header.end g.bytes) (first_place r.header.version (r.header.start + length_size r.header.width) r.header.width) r.header.program
        (texts_changes g m places r.header.width (table_read g r).texts) =
        header_is ∙ sym (changed-cut g.bytes r.header.end r.header.program (first_place r.header.version (r.header.start + length_size r.header.width) r.header.width)
        (texts_changes g m places r.header.width (table_read g r).texts) order before) in
        let new_size : length new ≡ start + length (length_bytes g.order r.header.width (length rest) ++ rest) =
        length-take-le (start + length (length_bytes g.order r.header.width (length rest) ++ rest)) bytes inside in
        let total : length (length_bytes g.order r.header.width (length rest) ++ rest) ≡ length ((length_bytes g.order r.header.width (length rest) ++ (front ++ number)) ++ (header ++ tail)) = ap length regroup in
        let tail_size : length tail ≡ r.header.end - r.header.program = ap length tail_drop ∙ length-drop r.header.program (take r.header.end g.bytes) ∙ omega (arith, old_end) in
        record {
          count = length rest;
          length_is = written-length g.order bytes r.header.width (length rest) start (stands-first bytes (length_bytes g.order r.header.width (length rest)) rest start s)
              (subst (λ (ys : List ℕ). length ys < length_limit r.header.width) (sym (rest-same rest header front number tail rest_is header_is front_is number_is tail_is)) fits.table);
          within = omega (arith, inside, sum, l_size);
          size_is = omega (arith, sum, l_size);
          front = record {
            was = record {
              behind = drop (length_place r.header.version (r.header.start + length_size r.header.width)) (take r.header.end g.bytes);
              is = part-rest (take r.header.end g.bytes) (r.header.start + length_size r.header.width) (length_place r.header.version (r.header.start + length_size r.header.width)) (omega (arith, lp_old));
              inside = omega (
                arith,
                old_end,
                hl_in,
                lp_old,
                part-length (take r.header.end g.bytes) (r.header.start + length_size r.header.width) (length_place r.header.version (r.header.start + length_size r.header.width)) (omega (arith, lp_old)) (omega (arith, old_end, hl_in)),
              );
            };
            is = subst (λ (ys : List ℕ). StandsAt new ys (start + length_size r.header.width)) front_part front_at;
          };
          header_length = reads;
          rest = record {
            within = omega (arith, old_end, order);
            there = omega (
              arith,
              new_size,
              behind_front,
              total,
              length-append (length_bytes g.order r.header.width (length rest) ++ (front ++ number)) (header ++ tail),
            );
            is = first_drop ∙ ap (λ (ys : List ℕ). ys ++ tail) header_old
                ∙ ap (λ (ys : List ℕ). changed (take r.header.end g.bytes) (first_place r.header.version (r.header.start + length_size r.header.width) r.header.width) r.header.program
                (texts_changes g m places r.header.width (table_read g r).texts) ++ ys) tail_drop;
          };
          ends = omega (arith, behind_front, total, tail_size, length-append (length_bytes g.order r.header.width (length rest) ++ (front ++ number)) (header ++ tail), length-append header tail);
        }
      where
        rest-same : (rest header front number tail : List ℕ)
            → rest ≡ (front ++ (number ++ header)) ++ tail
            → header ≡ changed g.bytes (first_place r.header.version (r.header.start + length_size r.header.width) r.header.width) r.header.program (texts_changes g m places r.header.width (table_read g r).texts)
            → front ≡ part g.bytes (r.header.start + length_size r.header.width) (length_place r.header.version (r.header.start + length_size r.header.width))
            → number ≡ number_bytes g.order (width_size r.header.width) (length header)
            → tail ≡ part g.bytes r.header.program r.header.end
            → rest ≡ rest_by_texts g m places (table_read g r)
        rest-same rest header front number tail a b c d e = rw (a, d, b, c, e) refl
