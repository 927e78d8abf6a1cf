-- The program of a line table at another place: its opcodes and the files that they define are the same.
use Rattle.std.proofs.Common.{Bool, true, false, ◌≡◌, ◌≢◌, ℕ, ℤ, ◌+◌, ◌-◌, ◌<◌, ◌≤◌, ◌==◌, List, [], ◌∷◌, ◌++◌, length, take, drop, slice_index, Option, Some, None, refl, sym, ap, ◌∙◌, subst, arith, if◌then◌else◌}
use Rattle.std.specs.Prelude.{nat_le, nat_lt, ⊤, option_and_then, option_map}
use Rattle.std.proofs.lemmas.Bool.{leb-true, le-leb, eqb-false, ltb-true, lt-ltb}
use Rattle.std.proofs.lemmas.List.{append-nil, length-drop, length-take-le, drop-drop, drop-take, take-append-drop}
use Rattle.dw_base.specs.Cells.{Cell}
use Rattle.dw_base.specs.Lebs.{uleb_at, sleb_at}
use Rattle.dw_base.specs.LineMeanings.{place_text}
use Rattle.dw_base.specs.LinePrograms.{if_ranged, behind_bytes, standard_end, file_behind, defined_file, extended_operands, extended_by, extended_in, extended_at, plain_opcode, opcode_at}
use Rattle.dw_base.specs.LineSources.{LineSource}
use Rattle.dw_base.specs.LineTexts.{inline_text, skip_lebs, file_numbers}
use Rattle.dw_base.specs.Texts.{text_in}
use Rattle.dw_base.specs.UnitHeaders.{is_address_size}
use Rattle.dw_base.specs.WrittenLines.{bytes_at}
use Rattle.dw_base.specs.declared.line_numbers.TheConstants.{DW_LNS_advance_line, DW_LNS_const_add_pc, DW_LNS_fixed_advance_pc, DW_LNE_set_address, DW_LNE_define_file, DW_LNE_set_discriminator}
use Rattle.dw_base.specs.declared.line_tables.FilePlace.{FilePlace}
use Rattle.dw_base.specs.declared.line_tables.LineHeader.{LineHeader}
use Rattle.dw_base.specs.declared.line_tables.Opcode.{Opcode}
use Rattle.dw_base.specs.declared.line_tables.TextPlace.{TextPlace}
use Rattle.dw_base.proofs.ContributionBackLaws.{StandsAt}
use Rattle.dw_base.proofs.LebLaws.{uleb-inside}
use Rattle.dw_meaning.proofs.LineChangeLaws.{part-cut, text-part, text-room}
use Rattle.dw_meaning.proofs.LineColumnLaws.{edited_with, Grows, inline-placed}
use Rattle.dw_meaning.proofs.LineListLaws.{byte-both}
use Rattle.dw_meaning.proofs.LineMoveLaws.{LinePlaces, moved_header, Sides}
use Rattle.dw_meaning.proofs.LineOldLaws.{numbers-inside, skips-inside}
use Rattle.dw_meaning.proofs.LineReadLaws.{Both, both-behind, uleb-both, sleb-both, text-both, inline-here, inline-inside, bound, made, if-some, some-same, skip-both, file_numbers-both}
use Rattle.dw_meaning.proofs.LineWalkLaws.{file_first, Opcodes, program_over, one_opcode}
use Rattle.dw_meaning.proofs.ValueCutLaws.{sleb-inside}

-- the same bytes follow two places, up to the ends of both lists
pub record Same (old new : List ℕ) (p q : ℕ) : Type 0 where
  pub was : p ≤ length old
  pub is : q ≤ length new
  pub same : drop p old ≡ drop q new

same-length : (old new : List ℕ) (p q : ℕ) → Same old new p q → length old - p ≡ length new - q
same-length old new p q s =
    let both : length (drop p old) ≡ length (drop q new) = ap length s.same in
    omega (arith, both, length-drop p old, length-drop q new)

same-on : (old new : List ℕ) (p q e : ℕ) → Same old new p q → p ≤ e → e ≤ length old → Same old new e (q + (e - p))
same-on old new p q e s le inside =
    let was = s.was in
    let is = s.is in
    let at : p + (e - p) ≡ e = omega (arith, le) in
    record {
      was = inside;
      is = omega (arith, same-length old new p q s, le, inside, was, is);
      same = ap (λ (i : ℕ). drop i old) (sym at) ∙ sym (drop-drop (e - p) p old) ∙ ap (drop (e - p)) s.same ∙ drop-drop (e - p) q new;
    }

same-both : (old new : List ℕ) (p q : ℕ) → Same old new p q → Both old new (drop p old) p q
same-both old new p q s =
    let was = s.was in
    let is = s.is in
    record {
      was = record { behind = []; is = sym (append-nil (drop p old)); inside = omega (arith, was, length-drop p old) };
      is = record { behind = []; is = sym s.same ∙ sym (append-nil (drop p old)); inside = omega (arith, is, was, same-length old new p q s, length-drop p old) };
    }

-- the counts of operands stand in both
pub record Counts (h : LineHeader) (n : LinePlaces) (old new : List ℕ) : Type 0 where
  pub bytes : List ℕ
  pub both : Both old new bytes h.operands n.operands
  pub count : length bytes ≡ h.opcode_base - 1

-- a place behind, in both
record PlaceBoth (o : Option ℕ) (old : List ℕ) (p q e : ℕ) : Type 0 where
  behind : p ≤ e
  inside : e ≤ length old
  is : o ≡ Some (q + (e - p))

ranged-both : (h : LineHeader) (n : LinePlaces) (old : List ℕ) (p q e : ℕ) → p ≤ length old → if_ranged h p ≡ Some e → PlaceBoth (if_ranged (moved_header h n) q) old p q e
unfolding if_ranged
ranged-both h n old p q e le is = by_range (h.line_range == 0) is
  where
    by_range : (b : Bool) → (if b then None else Some p) ≡ Some e → PlaceBoth (if b then None else Some q) old p q e
    by_range true f = absurd cc
    by_range false f =
        let same : p ≡ e = some-same p e f in
        record { behind = omega (arith, same); inside = omega (arith, same, le); is = ap (λ (i : ℕ). Some i) (omega (arith, same)) }

bytes-both : (old new : List ℕ) (p q k e : ℕ) → Same old new p q → behind_bytes old p k ≡ Some e → PlaceBoth (behind_bytes new q k) old p q e
bytes-both old new p q k e s f =
    let both = if-some (nat_le (p + k) (length old)) (Some (p + k)) e f in
    let end : p + k ≡ e = some-same (p + k) e both.1 in
    let room : p + k ≤ length old = leb-true _ _ both.0 in
    let is = s.is in
    let was = s.was in
    record {
      behind = omega (arith, end);
      inside = omega (arith, end, room);
      is = rw (le-leb (q + k) (length new) (omega (arith, room, is, was, same-length old new p q s))) (ap (λ (i : ℕ). Some i) (omega (arith, end)));
    }

skips-both : (m : ℕ) (old new : List ℕ) (p q e : ℕ) → Same old new p q → skip_lebs m old p ≡ Some e → PlaceBoth (skip_lebs m new q) old p q e
skips-both m old new p q e s f =
    let place = skips-inside m old p e f s.was in
    let was = s.was in
    let inside = place.1 in
    record { behind = place.0; inside = place.1; is = skip-both m old new (drop p old) p q e (same-both old new p q s) f (omega (arith, inside, was, length-drop p old)) }

line-both : (old new : List ℕ) (p q e : ℕ) → Same old new p q → option_map (λ (n : ℤ × ℕ). p + n.1) (sleb_at old p) ≡ Some e
    → PlaceBoth (option_map (λ (n : ℤ × ℕ). q + n.1) (sleb_at new q)) old p q e
line-both old new p q e s f =
    let first = made (λ (n : ℤ × ℕ). p + n.1) (sleb_at old p) e f in
    let inside = sleb-inside old p first.first.0 first.first.1 first.is in
    let was = s.was in
    let end : p + first.first.1 ≡ e = first.same in
    let there = sleb-both old new (drop p old) p q first.first.0 first.first.1 (same-both old new p q s) first.is (omega (arith, inside, was, length-drop p old)) in
    record { behind = omega (arith, end); inside = omega (arith, end, inside); is = rw there (ap (λ (i : ℕ). Some i) (omega (arith, end))) }

-- a standard opcode
standard-both : (h : LineHeader) (n : LinePlaces) (old new : List ℕ) (opcode p q e : ℕ) → Counts h n old new → Same old new p q → opcode ≢ 0 → opcode < h.opcode_base
    → standard_end h old opcode p ≡ Some e → PlaceBoth (standard_end (moved_header h n) new opcode q) old p q e
unfolding standard_end
standard-both h n old new opcode p q e c s some below is = by_code (opcode == DW_LNS_advance_line) (opcode == DW_LNS_const_add_pc) (opcode == DW_LNS_fixed_advance_pc) is
  where
    count : slice_index new (n.operands + (opcode - 1)) ≡ slice_index old (h.operands + (opcode - 1))
    count =
        let size = c.count in
        byte-both old new c.bytes h.operands n.operands (opcode - 1) c.both (omega (arith, size, some, below))

    by_code : (a b d : Bool) → (if a then option_map (λ (k : ℤ × ℕ). p + k.1) (sleb_at old p)
        else (if b then if_ranged h p
        else (if d then behind_bytes old p 2
        else skip_lebs (slice_index old (h.operands + (opcode - 1))) old p))) ≡ Some e
        → PlaceBoth (if a then option_map (λ (k : ℤ × ℕ). q + k.1) (sleb_at new q)
        else (if b then if_ranged (moved_header h n) q
        else (if d then behind_bytes new q 2
        else skip_lebs (slice_index new (n.operands + (opcode - 1))) new q))) old p q e
    by_code true b d is = line-both old new p q e s is
    by_code false true d is = ranged-both h n old p q e s.was is
    by_code false false true is = bytes-both old new p q 2 e s is
    by_code false false false is =
        subst (λ (k : ℕ). PlaceBoth (skip_lebs k new q) old p q e) (sym count) (skips-both (slice_index old (h.operands + (opcode - 1))) old new p q e s is)

-- files that are defined, kept
pub record KeptFile (g k : LineSource) (table : List ℕ) (f u : FilePlace) : Type 0 where
  pub dir : u.dir ≡ f.dir
  pub text : place_text k u.text ≡ place_text g f.text
  pub own : place_text g f.text ≡ bytes_at table f.text.at f.text.len
  pub inside : f.text.at + f.text.len ≤ length table

abbrev pub KeptDefined : LineSource → LineSource → List ℕ → Option FilePlace → Option FilePlace → Type 0
KeptDefined g k table None None = ⊤
KeptDefined g k table None (Some u) = ⊥
KeptDefined g k table (Some f) None = ⊥
KeptDefined g k table (Some f) (Some u) = KeptFile g k table f u

record DefinedBoth (g k : LineSource) (table : List ℕ) (o : Option (Option FilePlace)) (f : Option FilePlace) : Type 0 where
  file : Option FilePlace
  is : o ≡ Some file
  kept : KeptDefined g k table f file

-- the same where more bytes follow
kept-cut : (g k : LineSource) (bs : List ℕ) (e : ℕ) (f u : Option FilePlace) → e ≤ length bs → KeptDefined g k (take e bs) f u → KeptDefined g k bs f u
kept-cut g k bs e None None le h = tt
kept-cut g k bs e None (Some u) le h = absurd h
kept-cut g k bs e (Some f) None le h = absurd h
kept-cut g k bs e (Some f) (Some u) le h =
    let inside = h.inside in
    let size : length (take e bs) ≡ e = length-take-le e bs le in
    let n : f.text.len ≡ f.text.at + f.text.len - f.text.at = omega arith in
    record {
      dir = h.dir;
      text = h.text;
      own = h.own ∙ ap (λ (i : ℕ). take i (drop f.text.at (take e bs))) n ∙ part-cut bs e f.text.at (f.text.at + f.text.len) (omega (arith, inside, size))
          ∙ ap (λ (i : ℕ). take i (drop f.text.at bs)) (sym n);
      inside = omega (arith, inside, size, le);
    }

-- a file that an opcode defines
defined-both : (g : LineSource) (bytes : List ℕ) (cells : List Cell) (s l old new xs : List ℕ) (p q : ℕ) (f : FilePlace) → Grows old g.bytes → Grows new bytes → Both old new xs p q → p + length xs ≡ length old
    → defined_file g.number old p ≡ Some f → (u : FilePlace) × (defined_file g.number new q ≡ Some u) × KeptFile g (edited_with g bytes cells s l) old f u
unfolding defined_file
defined-both g bytes cells s l old new xs p q f was is b size e =
    let first = bound (file_behind old p) (inline_text g.number old p) f e in
    let text = inline-inside g.number old p first.first first.is in
    let len : first.first.len ≡ length (text_in old p) = ap (λ (x : TextPlace). x.len) text.1 in
    let rest = made (λ (n : ℕ × ℕ). record { text = first.first; dir = n.0 }) (file_numbers old (p + first.first.len + 1)) f first.rest in
    let room = text-room old p text.0 in
    let there = text-both old new xs p q b text.0 (omega (arith, room, size)) in
    let next : p + first.first.len + 1 ≡ p + (length (text_in old p) + 1) = omega (arith, len) in
    let next_q : q + length (text_in new q) + 1 ≡ q + (length (text_in old p) + 1) = ap (λ (t : List ℕ). q + length t + 1) there.1 ∙ omega arith in
    let inside = numbers-inside old (p + first.first.len + 1) rest.first rest.is (omega (arith, len, room)) in
    let last = inside.1 in
    let numbers = file_numbers-both old new (drop (length (text_in old p) + 1) xs) (p + (length (text_in old p) + 1)) (q + (length (text_in old p) + 1)) rest.first
    (both-behind old new xs p q (length (text_in old p) + 1) b (omega (arith, room, size)))
    (ap (file_numbers old) (sym next) ∙ rest.is) (omega (arith, last, room, size, length-drop (length (text_in old p) + 1) xs)) in
    let dir : rest.first.0 ≡ f.dir = ap (λ (x : FilePlace). x.dir) rest.same in
    let own : first.first ≡ f.text = ap (λ (x : FilePlace). x.text) rest.same in (
      record { text = record { section = g.number; at = q; len = length (text_in new q); field = q }; dir = rest.first.0 },
      rw (inline-here g.number new q there.0) (ap (λ (i : ℕ). option_map (λ (n : ℕ × ℕ). record { text = record { section = g.number; at = q; len = length (text_in new q); field = q }; dir = n.0 }) (file_numbers new i)) next_q
          ∙ ap (option_map (λ (n : ℕ × ℕ). record { text = record { section = g.number; at = q; len = length (text_in new q); field = q }; dir = n.0 })) numbers.1),
      record {
        dir = dir;
        text = inline-placed (edited_with g bytes cells s l) new q is there.0 ∙ there.1 ∙ sym (inline-placed g old p was text.0) ∙ ap (place_text g) (sym text.1 ∙ own);
        own = ap (place_text g) (sym own ∙ text.1) ∙ inline-placed g old p was text.0 ∙ sym (text-part old p text.0)
            ∙ ap (λ (x : TextPlace). bytes_at old x.at x.len) (sym text.1 ∙ own);
        inside =
            let at : f.text.at ≡ p = ap (λ (x : TextPlace). x.at) (sym own ∙ text.1) in
            let n : f.text.len ≡ length (text_in old p) = ap (λ (x : TextPlace). x.len) (sym own ∙ text.1) in
            omega (arith, at, n, room);
      },
    )

-- the operands of an extended opcode
operands-both : (g : LineSource) (bytes : List ℕ) (cells : List Cell) (s l old new xs : List ℕ) (code p q : ℕ) (f : Option FilePlace) → Grows old g.bytes → Grows new bytes → Both old new xs p q → p + length xs ≡ length old
    → length new - q ≡ length old - p → extended_operands g.number old code p ≡ Some f → DefinedBoth g (edited_with g bytes cells s l) old (extended_operands g.number new code q) f
unfolding extended_operands
operands-both g bytes cells s l old new xs code p q f was is b size rest e = by_code (code == DW_LNE_set_address) (code == DW_LNE_define_file) (code == DW_LNE_set_discriminator) e
  where
    address : (o : Option FilePlace) (t : Bool) → (if t then Some None else None) ≡ Some o → DefinedBoth g (edited_with g bytes cells s l) old (if t then Some None else None) o
    address o true e = subst (DefinedBoth g (edited_with g bytes cells s l) old (Some None)) (some-same None o e) (record { file = None; is = refl; kept = tt })
    address o false e = absurd cc

    file : option_map (λ (x : FilePlace). Some x) (defined_file g.number old p) ≡ Some f
        → DefinedBoth g (edited_with g bytes cells s l) old (option_map (λ (x : FilePlace). Some x) (defined_file g.number new q)) f
    file e =
        let first = made (λ (x : FilePlace). Some x) (defined_file g.number old p) f e in
        let d = defined-both g bytes cells s l old new xs p q first.first was is b size first.is in
        subst (DefinedBoth g (edited_with g bytes cells s l) old (option_map (λ (x : FilePlace). Some x) (defined_file g.number new q))) first.same
        (record { file = Some d.0; is = ap (option_map (λ (x : FilePlace). Some x)) d.1; kept = d.2 })

    number : option_map (λ (n : ℕ × ℕ). None) (uleb_at old p) ≡ Some f → DefinedBoth g (edited_with g bytes cells s l) old (option_map (λ (n : ℕ × ℕ). None) (uleb_at new q)) f
    number e =
        let first = made (λ (n : ℕ × ℕ). None) (uleb_at old p) f e in
        let inside = uleb-inside old p first.first.0 first.first.1 first.is in
        let there = uleb-both old new xs p q first.first.0 first.first.1 b first.is (omega (arith, inside, size)) in
        subst (DefinedBoth g (edited_with g bytes cells s l) old (option_map (λ (n : ℕ × ℕ). None) (uleb_at new q))) first.same
        (record { file = None; is = ap (option_map (λ (n : ℕ × ℕ). None)) there; kept = tt })

    by_code : (a c d : Bool) → (if a then (if is_address_size (length old - p) then Some None else None)
        else (if c then option_map (λ (x : FilePlace). Some x) (defined_file g.number old p)
        else (if d then option_map (λ (n : ℕ × ℕ). None) (uleb_at old p)
        else Some None))) ≡ Some f
        → DefinedBoth g (edited_with g bytes cells s l) old (if a then (if is_address_size (length new - q) then Some None else None)
        else (if c then option_map (λ (x : FilePlace). Some x) (defined_file g.number new q)
        else (if d then option_map (λ (n : ℕ × ℕ). None) (uleb_at new q)
        else Some None))) f
    by_code true c d e =
        subst (λ (i : ℕ). DefinedBoth g (edited_with g bytes cells s l) old (if is_address_size i then Some None else None) f) (sym rest) (address f (is_address_size (length old - p)) e)
    by_code false true d e = file e
    by_code false false true e = number e
    by_code false false false e = subst (DefinedBoth g (edited_with g bytes cells s l) old (Some None)) (some-same None f e) (record { file = None; is = refl; kept = tt })

-- an opcode at another place
pub record OpcodeMoved (g k : LineSource) (h : LineHeader) (n : LinePlaces) (old new : List ℕ) (p q : ℕ) (o : Opcode) : Type 0 where
  pub opcode : Opcode
  pub is : opcode_at g.number (moved_header h n) new q ≡ Some opcode
  pub kept : KeptDefined g k old o.file opcode.file
  pub same : Same old new o.next opcode.next

record ExtendedBoth (g k : LineSource) (r : Option Opcode) (old new : List ℕ) (o : Opcode) : Type 0 where
  opcode : Opcode
  is : r ≡ Some opcode
  kept : KeptDefined g k old o.file opcode.file
  same : Same old new o.next opcode.next

grows-cut : (old bytes : List ℕ) (e : ℕ) → Grows old bytes → Grows (take e old) bytes
grows-cut old bytes e w = record { more = drop e old ++ w.more; is = w.is ∙ ap (λ (xs : List ℕ). xs ++ w.more) (sym (take-append-drop e old)) ∙ cut-append (take e old) (drop e old) w.more }
  where
    cut-append : (a b c : List ℕ) → (a ++ b) ++ c ≡ a ++ (b ++ c)
    cut-append [] b c = refl
    cut-append (x ∷ a) b c = ap (λ (ys : List ℕ). x ∷ ys) (cut-append a b c)

-- the bytes up to the end of an extended opcode
pub body-stands : (bs : List ℕ) (p size : ℕ) → p + size ≤ length bs → StandsAt (take (p + size) bs) (take size (drop p bs)) p
body-stands bs p size le =
    record {
      behind = [];
      is = drop-take p size bs ∙ sym (append-nil (take size (drop p bs)));
      inside = omega (arith, le, length-take-le size (drop p bs) (omega (arith, le, length-drop p bs)), length-take-le (p + size) bs le);
    }

extended-in-both : (g : LineSource) (bytes : List ℕ) (cells : List Cell) (s l old new : List ℕ) (first at size : ℕ) (o : Opcode) → Sides g bytes cells old new → Same old new first at
    → extended_in g.number old first size ≡ Some o → ExtendedBoth g (edited_with g bytes cells s l) (extended_in g.number new at size) old new o
unfolding extended_in
extended-in-both g bytes cells s l old new first at size o sides same e = by_size (size == 0) refl e
  where
    operands : size ≢ 0 → first + size ≤ length old → (x : Option (Option FilePlace)) → extended_operands g.number (take (first + size) old) (slice_index old first) (first + 1) ≡ x
        → extended_by (first + size) x ≡ Some o
        → ExtendedBoth g (edited_with g bytes cells s l) (extended_by (at + size) (extended_operands g.number (take (at + size) new) (slice_index new at) (at + 1))) old new o
    operands some room None is e = absurd cc
    operands some room (Some f) is e =
        let was = same.was in
        let there = same.is in
        let room_new : at + size ≤ length new = omega (arith, room, was, there, same-length old new first at same) in
        let xs : List ℕ = take size (drop first old) in
        let long : length (take size (drop first old)) ≡ size = length-take-le size (drop first old) (omega (arith, room, length-drop first old)) in
        let whole : Both (take (first + size) old) (take (at + size) new) (take size (drop first old)) first at =
        record { was = body-stands old first size room; is = subst (λ (ys : List ℕ). StandsAt (take (at + size) new) (take size ys) at) (sym same.same) (body-stands new at size room_new) } in
        let end_old : length (take (first + size) old) ≡ first + size = length-take-le (first + size) old room in
        let end_new : length (take (at + size) new) ≡ at + size = length-take-le (at + size) new room_new in
        let code : slice_index new at ≡ slice_index old first =
        ap (slice_index new) (omega arith) ∙ byte-both old new (drop first old) first at 0 (same-both old new first at same) (omega (arith, some, room, length-drop first old)) ∙ ap (slice_index old) (omega arith) in
        let d = operands-both g bytes cells s l (take (first + size) old) (take (at + size) new) (drop 1 (take size (drop first old))) (slice_index old first) (first + 1) (at + 1) f
        (grows-cut old g.bytes (first + size) sides.was) (grows-cut new bytes (at + size) sides.is)
        (both-behind (take (first + size) old) (take (at + size) new) (take size (drop first old)) first at 1 whole (omega (arith, long, some)))
        (omega (arith, end_old, long, some, length-drop 1 (take size (drop first old)))) (omega (arith, end_old, end_new)) is in
        let own : record { next = first + size; file = f } ≡ o = some-same (record { next = first + size; file = f }) o e in
        let on = same-on old new first at (first + size) same (omega arith) room in
        let place : at + (first + size - first) ≡ at + size = omega arith in
        subst (ExtendedBoth g (edited_with g bytes cells s l) (extended_by (at + size) (extended_operands g.number (take (at + size) new) (slice_index new at) (at + 1))) old new) own
        (record {
          opcode = record { next = at + size; file = d.file };
          is = rw (code, d.is) refl;
          kept = kept-cut g (edited_with g bytes cells s l) old (first + size) f d.file room d.kept;
          same = subst (λ (i : ℕ). Same old new (first + size) i) place on;
        })

    by_room : size ≢ 0 → (b : Bool) → nat_le (first + size) (length old) ≡ b
        → (if b then extended_by (first + size) (extended_operands g.number (take (first + size) old) (slice_index old first) (first + 1)) else None) ≡ Some o
        → ExtendedBoth g (edited_with g bytes cells s l)
        (if nat_le (at + size) (length new) then extended_by (at + size) (extended_operands g.number (take (at + size) new) (slice_index new at) (at + 1)) else None) old new o
    by_room some false is e = absurd cc
    by_room some true is e =
        let room : first + size ≤ length old = leb-true _ _ is in
        let was = same.was in
        let there = same.is in
        let fits : nat_le (at + size) (length new) ≡ true = le-leb (at + size) (length new) (omega (arith, room, was, there, same-length old new first at same)) in
        subst (λ (b : Bool). ExtendedBoth g (edited_with g bytes cells s l) (if b then extended_by (at + size) (extended_operands g.number (take (at + size) new) (slice_index new at) (at + 1)) else None) old new o)
        (sym fits) (operands some room (extended_operands g.number (take (first + size) old) (slice_index old first) (first + 1)) refl e)

    by_size : (b : Bool) → (size == 0) ≡ b
        → (if b then None
        else (if nat_le (first + size) (length old) then extended_by (first + size) (extended_operands g.number (take (first + size) old) (slice_index old first) (first + 1)) else None)) ≡ Some o
        → ExtendedBoth g (edited_with g bytes cells s l) (if b then None
        else (if nat_le (at + size) (length new) then extended_by (at + size) (extended_operands g.number (take (at + size) new) (slice_index new at) (at + 1)) else None)) old new o
    by_size true is e = absurd cc
    by_size false is e = by_room (eqb-false size 0 is) (nat_le (first + size) (length old)) refl e

extended-both : (g : LineSource) (bytes : List ℕ) (cells : List Cell) (s l old new : List ℕ) (p q : ℕ) (o : Opcode) → Sides g bytes cells old new → Same old new p q → extended_at g.number old p ≡ Some o
    → ExtendedBoth g (edited_with g bytes cells s l) (extended_at g.number new q) old new o
unfolding extended_at
extended-both g bytes cells s l old new p q o sides same e =
    let first = bound (λ (size : ℕ × ℕ). extended_in g.number old (p + size.1) size.0) (uleb_at old p) o e in
    let inside = uleb-inside old p first.first.0 first.first.1 first.is in
    let was = same.was in
    let there = uleb-both old new (drop p old) p q first.first.0 first.first.1 (same-both old new p q same) first.is (omega (arith, inside, was, length-drop p old)) in
    let on = same-on old new p q (p + first.first.1) same (omega arith) inside in
    let place : q + (p + first.first.1 - p) ≡ q + first.first.1 = omega arith in
    let r = extended-in-both g bytes cells s l old new (p + first.first.1) (q + first.first.1) first.first.0 o sides (subst (λ (i : ℕ). Same old new (p + first.first.1) i) place on) first.rest in
    record { opcode = r.opcode; is = ap (option_and_then (λ (size : ℕ × ℕ). extended_in g.number new (q + size.1) size.0)) there ∙ r.is; kept = r.kept; same = r.same }

plain-both : (g : LineSource) (bytes : List ℕ) (cells : List Cell) (s l old new : List ℕ) (p q : ℕ) (r t : Option ℕ) (o : Opcode) → Same old new p q → plain_opcode r ≡ Some o
    → ((e : ℕ) → r ≡ Some e → PlaceBoth t old p q e) → ExtendedBoth g (edited_with g bytes cells s l) (plain_opcode t) old new o
plain-both g bytes cells s l old new p q None t o same e both = absurd cc
plain-both g bytes cells s l old new p q (Some e) t o same f both =
    let b = both e refl in
    let own : record { next = e; file = None } ≡ o = some-same (record { next = e; file = None }) o f in
    subst (ExtendedBoth g (edited_with g bytes cells s l) (plain_opcode t) old new) own
    (record { opcode = record { next = q + (e - p); file = None }; is = ap plain_opcode b.is; kept = tt; same = same-on old new p q e same b.behind b.inside })

pub opcode-moved : (g : LineSource) (bytes : List ℕ) (cells : List Cell) (s l old new : List ℕ) (h : LineHeader) (n : LinePlaces) (p q : ℕ) (o : Opcode) → Sides g bytes cells old new → Counts h n old new → Same old new p q
    → p < length old → opcode_at g.number h old p ≡ Some o → OpcodeMoved g (edited_with g bytes cells s l) h n old new p q o
unfolding opcode_at
opcode-moved g bytes cells s l old new h n p q o sides counts same inside e =
    let first_q : q ≡ q + 0 = omega arith in
    let first_p : p + 0 ≡ p = omega arith in
    let byte : slice_index new q ≡ slice_index old p =
    ap (slice_index new) first_q ∙ byte-both old new (drop p old) p q 0 (same-both old new p q same) (omega (arith, inside, length-drop p old)) ∙ ap (slice_index old) first_p in
    let place : q + (p + 1 - p) ≡ q + 1 = omega arith in
    let on : Same old new (p + 1) (q + 1) = subst (λ (i : ℕ). Same old new (p + 1) i) place (same-on old new p q (p + 1) same (omega arith) (omega (arith, inside))) in
    let r = by_kind (nat_le h.opcode_base (slice_index old p)) (slice_index old p == 0) refl refl on e in
    record { opcode = r.opcode; is = rw byte r.is; kept = r.kept; same = r.same }
  where
    by_kind : (a b : Bool) → nat_le h.opcode_base (slice_index old p) ≡ a → (slice_index old p == 0) ≡ b → Same old new (p + 1) (q + 1)
        → (if a then plain_opcode (if_ranged h (p + 1))
        else (if b then extended_at g.number old (p + 1)
        else plain_opcode (standard_end h old (slice_index old p) (p + 1)))) ≡ Some o
        → ExtendedBoth g (edited_with g bytes cells s l) (if a then plain_opcode (if_ranged (moved_header h n) (q + 1))
        else (if b then extended_at g.number new (q + 1)
        else plain_opcode (standard_end (moved_header h n) new (slice_index old p) (q + 1)))) old new o
    by_kind true b x y on e =
        plain-both g bytes cells s l old new (p + 1) (q + 1) (if_ranged h (p + 1)) (if_ranged (moved_header h n) (q + 1)) o on e (λ i f. ranged-both h n old (p + 1) (q + 1) i on.was f)
    by_kind false true x y on e = extended-both g bytes cells s l old new (p + 1) (q + 1) o sides on e
    by_kind false false x y on e =
        let some : slice_index old p ≢ 0 = eqb-false (slice_index old p) 0 y in
        let below : slice_index old p < h.opcode_base = not_le h.opcode_base (slice_index old p) x in
        plain-both g bytes cells s l old new (p + 1) (q + 1) (standard_end h old (slice_index old p) (p + 1)) (standard_end (moved_header h n) new (slice_index old p) (q + 1)) o on e
        (λ i f. standard-both h n old new (slice_index old p) (p + 1) (q + 1) i counts on some below f)
      where
        not_le : (a b : ℕ) → nat_le a b ≡ false → b < a
        not_le a b f = grind (arith, f)

-- files that a program defines, kept
abbrev pub KeptFiles : LineSource → LineSource → List ℕ → List FilePlace → List FilePlace → Type 0
KeptFiles g k table [] [] = ⊤
KeptFiles g k table [] (u ∷ us) = ⊥
KeptFiles g k table (f ∷ fs) [] = ⊥
KeptFiles g k table (f ∷ fs) (u ∷ us) = KeptFile g k table f u × KeptFiles g k table fs us

first-kept : (g k : LineSource) (table : List ℕ) (o p : Option FilePlace) (fs us : List FilePlace) → KeptDefined g k table o p → KeptFiles g k table fs us
    → KeptFiles g k table (file_first o fs) (file_first p us)
first-kept g k table None None fs us d rest = rest
first-kept g k table None (Some u) fs us d rest = absurd d
first-kept g k table (Some f) None fs us d rest = absurd d
first-kept g k table (Some f) (Some u) fs us d rest = (d, rest)

pub record ProgramMoved (g k : LineSource) (h : LineHeader) (n : LinePlaces) (old new : List ℕ) (q : ℕ) (fs : List FilePlace) : Type 0 where
  pub files : List FilePlace
  pub are : Opcodes g.number (moved_header h n) new q files
  pub kept : KeptFiles g k old fs files

pub program-moved : (g : LineSource) (bytes : List ℕ) (cells : List Cell) (s l old new : List ℕ) (h : LineHeader) (n : LinePlaces) (p q : ℕ) (fs : List FilePlace) → Sides g bytes cells old new → Counts h n old new
    → Same old new p q → Opcodes g.number h old p fs → ProgramMoved g (edited_with g bytes cells s l) h n old new q fs
program-moved g bytes cells s l old new h n p q fs sides counts same (program_over a over) =
    let was = same.was in
    let is = same.is in
    let late : nat_lt q (length new) ≡ false = not_lt q (length new) (lt_not p (length old) over) in
    record { files = []; are = program_over q late; kept = tt }
  where
    lt_not : (a b : ℕ) → nat_lt a b ≡ false → b ≤ a
    lt_not a b f = grind (arith, f)

    not_lt : (a b : ℕ) → length old ≤ p → nat_lt q (length new) ≡ false
    not_lt a b f =
        let was = same.was in
        let is = same.is in
        let end : length new ≤ q = omega (arith, f, was, is, same-length old new p q same) in
        past q (length new) end
      where
        past : (x y : ℕ) → y ≤ x → nat_lt x y ≡ false
        past x y z = grind (arith, z)
program-moved g bytes cells s l old new h n p q all sides counts same (one_opcode a o fs inside at rest) =
    let one = opcode-moved g bytes cells s l old new h n p q o sides counts same (ltb-true _ _ inside) at in
    let more = program-moved g bytes cells s l old new h n o.next one.opcode.next fs sides counts one.same rest in
    let lt : p < length old = ltb-true _ _ inside in
    let is = same.is in
    let was = same.was in
    record {
      files = file_first one.opcode.file more.files;
      are = one_opcode q one.opcode more.files (lt-ltb q (length new) (omega (arith, lt, was, is, same-length old new p q same))) one.is more.are;
      kept = first-kept g (edited_with g bytes cells s l) old o.file one.opcode.file fs more.files one.kept more.kept;
    }
