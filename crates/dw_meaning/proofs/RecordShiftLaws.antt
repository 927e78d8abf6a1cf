-- Where relocations move with the bytes at which they begin, their records can be written for the new contents: so it is of line tables, in which
-- bytes come and go between them.
use Rattle.std.proofs.Common.{Bool, true, false, ◌≡◌, ℕ, zero, suc, ◌+◌, ◌^◌, ◌<◌, ◌≤◌, ◌==◌, if◌then◌else◌, List, [], ◌∷◌, ◌++◌, length, Option, None, Some, refl, sym, ap, ◌∙◌, subst, arith}
use Rattle.std.specs.Prelude.{IfSome}
use Rattle.std.specs.Int.RustNames.{FitsSigned}
use Rattle.std.proofs.lemmas.Bool.{eq-eqb, ne_eqb}
use Rattle.dw_base.specs.Cells.{Cell, Relocation}
use Rattle.dw_base.specs.Elf.{word_size}
use Rattle.dw_base.specs.RelocChanges.{moved, written}
use Rattle.dw_base.specs.RelocationBodies.{addend_there, begin_places, begun_at, place_after}
use Rattle.dw_base.specs.RelocationFields.{relocation_at}
use Rattle.dw_base.specs.Relocs.{word_width}
use Rattle.dw_base.specs.SectionRelocations.{RelocationSource, cells_from, records_in, relocation_of, relocations_in}
use Rattle.dw_base.proofs.RelocationBodyLaws.{CanMove, Counts, new_place, nth_record}
use Rattle.dw_meaning.proofs.EditStayLaws.{AllStay}
use Rattle.dw_meaning.proofs.RecordMoveLaws.{Readdends, RecordsApart, Stays, begins-below, begun-record, record-begins, record-moved}

-- relocations move in order: bytes without one come and go, and one stays at its byte, with another addend alone
pub data MovesTo (g : RelocationSource) : List Cell → List Cell → Type 0 where
  moves_none : MovesTo g [] []
  moves_old : (c : Cell) (cs ds : List Cell) → c.relocation ≡ None → MovesTo g cs ds → MovesTo g (c ∷ cs) ds
  moves_new : (d : Cell) (cs ds : List Cell) → d.relocation ≡ None → MovesTo g cs ds → MovesTo g cs (d ∷ ds)
  moves_both : (c d : Cell) (cs ds : List Cell) (r : Relocation) → c.relocation ≡ Some r → Readdends g r d.relocation → MovesTo g cs ds
      → MovesTo g (c ∷ cs) (d ∷ ds)

pub moves-append : (g : RelocationSource) (xs ys us vs : List Cell) → MovesTo g xs ys → MovesTo g us vs → MovesTo g (xs ++ us) (ys ++ vs)
moves-append g xs ys us vs moves_none k = k
moves-append g xs ys us vs (moves_old c cs ds none m) k = moves_old c (cs ++ us) (ds ++ vs) none (moves-append g cs ds us vs m k)
moves-append g xs ys us vs (moves_new d cs ds none m) k = moves_new d (cs ++ us) (ds ++ vs) none (moves-append g cs ds us vs m k)
moves-append g xs ys us vs (moves_both c d cs ds r has stays m) k = moves_both c d (cs ++ us) (ds ++ vs) r has stays (moves-append g cs ds us vs m k)

pub stay-moves : (g : RelocationSource) (xs ys : List Cell) → AllStay g xs ys → MovesTo g xs ys
stay-moves g [] [] h = moves_none
stay-moves g [] (y ∷ ys) h = absurd h
stay-moves g (x ∷ xs) [] h = absurd h
stay-moves g (x ∷ xs) (y ∷ ys) h = by_relocation x.relocation refl h.0 (stay-moves g xs ys h.1)
  where
    by_relocation : (o : Option Relocation) → x.relocation ≡ o → Stays g x.relocation y.relocation → MovesTo g xs ys → MovesTo g (x ∷ xs) (y ∷ ys)
    by_relocation None e s rest =
        moves_old x xs (y ∷ ys) e (moves_new y xs ys (subst (λ (a : Option Relocation). Stays g a y.relocation) e s) rest)
    by_relocation (Some r) e s rest = moves_both x y xs ys r e (subst (λ (a : Option Relocation). Stays g a y.relocation) e s) rest

-- the places at which relocations begin, one cell further
begin-none : (c : Cell) (cs : List Cell) (a : ℕ) → c.relocation ≡ None → begin_places a (c ∷ cs) ≡ begin_places (suc a) cs
begin-none c cs a none = ap (λ (o : Option Relocation). begun_at o a ++ begin_places (suc a) cs) none

begin-some : (c : Cell) (cs : List Cell) (a : ℕ) (r : Relocation) → c.relocation ≡ Some r → begin_places a (c ∷ cs) ≡ a ∷ begin_places (suc a) cs
begin-some c cs a r some = ap (λ (o : Option Relocation). begun_at o a ++ begin_places (suc a) cs) some

pub after-here : (os ns : List ℕ) (a b : ℕ) → place_after (a ∷ os) (b ∷ ns) (a + 0) ≡ b
after-here os ns a b = by_test (a == a + 0) (eq-eqb a (a + 0) (omega arith))
  where
    by_test : (t : Bool) → t ≡ true → (if t then b else place_after os ns (a + 0)) ≡ b
    by_test true e = refl
    by_test false e = absurd cc

pub after-further : (os ns : List ℕ) (a b p : ℕ) → place_after (a ∷ os) (b ∷ ns) (a + suc p) ≡ place_after os ns (suc a + p)
after-further os ns a b p = by_test (a == a + suc p) (ne_eqb a (a + suc p) (λ e. omega (arith, e))) ∙ ap (place_after os ns) (omega arith)
  where
    by_test : (t : Bool) → t ≡ false → (if t then b else place_after os ns (a + suc p)) ≡ place_after os ns (a + suc p)
    by_test true e = absurd cc
    by_test false e = refl

-- the new place of a relocation
abbrev pub landed : ℕ → ℕ → List Cell → List Cell → ℕ → ℕ
landed a b old new p = place_after (begin_places a old) (begin_places b new) (a + p)

pub landed-old : (c : Cell) (cs ds : List Cell) (a b p : ℕ) → c.relocation ≡ None → landed a b (c ∷ cs) ds (suc p) ≡ landed (suc a) b cs ds p
landed-old c cs ds a b p none =
    let next : a + suc p ≡ suc a + p = omega arith in
    ap (λ (os : List ℕ). place_after os (begin_places b ds) (a + suc p)) (begin-none c cs a none)
    ∙ ap (place_after (begin_places (suc a) cs) (begin_places b ds)) next

pub landed-new : (d : Cell) (cs ds : List Cell) (a b p : ℕ) → d.relocation ≡ None → landed a b cs (d ∷ ds) p ≡ landed a (suc b) cs ds p
landed-new d cs ds a b p none = ap (λ (ns : List ℕ). place_after (begin_places a cs) ns (a + p)) (begin-none d ds b none)

pub landed-both : (c d : Cell) (cs ds : List Cell) (a b p : ℕ) (r q : Relocation) → c.relocation ≡ Some r → d.relocation ≡ Some q
    → landed a b (c ∷ cs) (d ∷ ds) p ≡ place_after (a ∷ begin_places (suc a) cs) (b ∷ begin_places (suc b) ds) (a + p)
landed-both c d cs ds a b p r q has new =
    ap (λ (os : List ℕ). place_after os (begin_places b (d ∷ ds)) (a + p)) (begin-some c cs a r has)
    ∙ ap (λ (ns : List ℕ). place_after (a ∷ begin_places (suc a) cs) ns (a + p)) (begin-some d ds b q new)

-- it begins there,
record Landed (g : RelocationSource) (new : List Cell) (b : ℕ) (r : Relocation) (q : ℕ) : Type 0 where
  place : ℕ
  at : q ≡ b + place
  stays : Readdends g r (relocation_at new place)

some-one : (r q : Relocation) → Some r ≡ Some q → r ≡ q
some-one r q e = cc

forward : (g : RelocationSource) (a b : ℕ) (old new : List Cell) → MovesTo g old new → (p : ℕ) (r : Relocation) → relocation_at old p ≡ Some r
    → Landed g new b r (landed a b old new p)
forward g a b old new moves_none zero r e = absurd cc
forward g a b old new moves_none (suc p) r e = absurd cc
forward g a b old new (moves_old c cs ds none m) zero r e = absurd cc
forward g a b old new (moves_old c cs ds none m) (suc p) r e =
    let h = forward g (suc a) b cs ds m p r e in
    record { place = h.place; at = landed-old c cs ds a b p none ∙ h.at; stays = h.stays }
forward g a b old new (moves_new d cs ds none m) p r e =
    let h = forward g a (suc b) cs ds m p r e in
    let next : suc b + h.place ≡ b + suc h.place = omega arith in
    record { place = suc h.place; at = landed-new d cs ds a b p none ∙ h.at ∙ next; stays = h.stays }
forward g a b old new (moves_both c d cs ds r0 has stays m) zero r e =
    let same : r0 ≡ r = some-one r0 r (sym has ∙ e) in
    record {
      place = 0;
      at = landed-both c d cs ds a b 0 r0 stays.relocation has stays.is ∙ after-here (begin_places (suc a) cs) (begin_places (suc b) ds) a b ∙ omega arith;
      stays = subst (λ (x : Relocation). Readdends g x d.relocation) same stays;
    }
forward g a b old new (moves_both c d cs ds r0 has stays m) (suc p) r e =
    let h = forward g (suc a) (suc b) cs ds m p r e in
    let next : suc b + h.place ≡ b + suc h.place = omega arith in
    record {
      place = suc h.place;
      at = landed-both c d cs ds a b (suc p) r0 stays.relocation has stays.is
          ∙ after-further (begin_places (suc a) cs) (begin_places (suc b) ds) a b p ∙ h.at ∙ next;
      stays = h.stays;
    }

-- each that begins in the new contents comes from one,
record Came (old : List Cell) (os ns : List ℕ) (a q : ℕ) : Type 0 where
  place : ℕ
  relocation : Relocation
  begins : relocation_at old place ≡ Some relocation
  lands : place_after os ns (a + place) ≡ q

backward : (g : RelocationSource) (a b : ℕ) (old new : List Cell) → MovesTo g old new → (k : ℕ) (q : Relocation) → relocation_at new k ≡ Some q
    → Came old (begin_places a old) (begin_places b new) a (b + k)
backward g a b old new moves_none zero q e = absurd cc
backward g a b old new moves_none (suc k) q e = absurd cc
backward g a b old new (moves_old c cs ds none m) k q e =
    let h = backward g (suc a) b cs ds m k q e in
    record { place = suc h.place; relocation = h.relocation; begins = h.begins; lands = landed-old c cs ds a b h.place none ∙ h.lands }
backward g a b old new (moves_new d cs ds none m) zero q e = absurd cc
backward g a b old new (moves_new d cs ds none m) (suc k) q e =
    let h = backward g a (suc b) cs ds m k q e in
    let next : suc b + k ≡ b + suc k = omega arith in
    record { place = h.place; relocation = h.relocation; begins = h.begins; lands = landed-new d cs ds a b h.place none ∙ h.lands ∙ next }
backward g a b old new (moves_both c d cs ds r0 has stays m) zero q e = record {
  place = 0;
  relocation = r0;
  begins = has;
  lands = landed-both c d cs ds a b 0 r0 stays.relocation has stays.is ∙ after-here (begin_places (suc a) cs) (begin_places (suc b) ds) a b ∙ omega arith;
}
backward g a b old new (moves_both c d cs ds r0 has stays m) (suc k) q e =
    let h = backward g (suc a) (suc b) cs ds m k q e in
    let next : suc b + k ≡ b + suc k = omega arith in
    record {
      place = suc h.place;
      relocation = h.relocation;
      begins = h.begins;
      lands = landed-both c d cs ds a b (suc h.place) r0 stays.relocation has stays.is
          ∙ after-further (begin_places (suc a) cs) (begin_places (suc b) ds) a b h.place ∙ h.lands ∙ next;
    }

-- and no two come to one place
injective : (g : RelocationSource) (a b : ℕ) (old new : List Cell) → MovesTo g old new → (p s : ℕ) (r q : Relocation) → relocation_at old p ≡ Some r
    → relocation_at old s ≡ Some q → landed a b old new p ≡ landed a b old new s → p ≡ s
injective g a b old new moves_none zero s r q e f same = absurd cc
injective g a b old new moves_none (suc p) s r q e f same = absurd cc
injective g a b old new (moves_old c cs ds none m) zero s r q e f same = absurd cc
injective g a b old new (moves_old c cs ds none m) (suc p) zero r q e f same = absurd cc
injective g a b old new (moves_old c cs ds none m) (suc p) (suc s) r q e f same =
    ap suc (injective g (suc a) b cs ds m p s r q e f (sym (landed-old c cs ds a b p none) ∙ same ∙ landed-old c cs ds a b s none))
injective g a b old new (moves_new d cs ds none m) p s r q e f same =
    injective g a (suc b) cs ds m p s r q e f (sym (landed-new d cs ds a b p none) ∙ same ∙ landed-new d cs ds a b s none)
injective g a b old new (moves_both c d cs ds r0 has stays m) zero zero r q e f same = refl
injective g a b old new (moves_both c d cs ds r0 has stays m) zero (suc s) r q e f same =
    let h = forward g (suc a) (suc b) cs ds m s q f in
    let here : b ≡ suc b + h.place =
    sym (landed-both c d cs ds a b 0 r0 stays.relocation has stays.is ∙ after-here (begin_places (suc a) cs) (begin_places (suc b) ds) a b) ∙ same
    ∙ landed-both c d cs ds a b (suc s) r0 stays.relocation has stays.is ∙ after-further (begin_places (suc a) cs) (begin_places (suc b) ds) a b s ∙ h.at in
    absurd (omega (arith, here))
injective g a b old new (moves_both c d cs ds r0 has stays m) (suc p) zero r q e f same =
    let h = forward g (suc a) (suc b) cs ds m p r e in
    let here : b ≡ suc b + h.place =
    sym (landed-both c d cs ds a b 0 r0 stays.relocation has stays.is ∙ after-here (begin_places (suc a) cs) (begin_places (suc b) ds) a b) ∙ sym same
    ∙ landed-both c d cs ds a b (suc p) r0 stays.relocation has stays.is ∙ after-further (begin_places (suc a) cs) (begin_places (suc b) ds) a b p ∙ h.at in
    absurd (omega (arith, here))
injective g a b old new (moves_both c d cs ds r0 has stays m) (suc p) (suc s) r q e f same =
    ap suc (injective g (suc a) (suc b) cs ds m p s r q e f
    (sym (landed-both c d cs ds a b (suc p) r0 stays.relocation has stays.is ∙ after-further (begin_places (suc a) cs) (begin_places (suc b) ds) a b p) ∙ same
    ∙ landed-both c d cs ds a b (suc s) r0 stays.relocation has stays.is ∙ after-further (begin_places (suc a) cs) (begin_places (suc b) ds) a b s))

-- so the records can be written, where each place of the new contents fits a word
pub shift-move : (g : RelocationSource) (bytes : List ℕ) (new : List Cell) → RecordsApart g bytes → MovesTo g (cells_from (relocations_in g) 0 bytes) new
    → length new ≤ 256 ^ word_size g.class → CanMove g (cells_from (relocations_in g) 0 bytes) new
shift-move g bytes new h m small = record {
  place_fits = λ i lt counts.
      let l = lands i lt counts in
      let below = begins-below new l.place l.stays.relocation l.stays.is in
      omega (arith, new-at i, l.at, below, small);
  addend_fits = λ i lt counts.
      let l = lands i lt counts in
      subst (λ (o : Option Relocation). IfSome (written g.rela (addend_there o)) (FitsSigned (word_width g.class))) (sym (here i lt counts)) l.stays.fits;
  there = λ i lt counts.
      let l = lands i lt counts in
      here i lt counts ∙ ap Some (record-moved g (nth_record g i) l.stays.relocation (new_place g old new i) l.stays.same l.stays.kept
      ∙ ap (λ (o : Option Relocation). relocation_of g (moved (new_place g old new i) (addend_there o) (nth_record g i))) (sym (here i lt counts)));
  all = λ p r e.
      let c = backward g 0 0 (cells_from (relocations_in g) 0 bytes) new m p r e in
      let b = begun-record g bytes c.place c.relocation c.begins in
      let none : 0 + p ≡ p = omega arith in
      (b.0, (b.1.0, b.1.1, new-at b.0 ∙ ap (landed 0 0 (cells_from (relocations_in g) 0 bytes) new) b.1.2 ∙ c.lands ∙ none));
  apart = λ i j lt ltj counts countsj same.
      h.apart i j lt ltj counts countsj
      (injective g 0 0 (cells_from (relocations_in g) 0 bytes) new m (nth_record g i).offset (nth_record g j).offset (relocation_of g (nth_record g i))
      (relocation_of g (nth_record g j)) (record-begins g bytes i h lt counts) (record-begins g bytes j h ltj countsj) (sym (new-at i) ∙ same ∙ new-at j));
}
  where
    old : List Cell
    old = cells_from (relocations_in g) 0 bytes

    new-at : (i : ℕ) → new_place g (cells_from (relocations_in g) 0 bytes) new i ≡ landed 0 0 (cells_from (relocations_in g) 0 bytes) new (nth_record g i).offset
    new-at i =
        let none : (nth_record g i).offset ≡ 0 + (nth_record g i).offset = omega arith in
        ap (place_after (begin_places 0 (cells_from (relocations_in g) 0 bytes)) (begin_places 0 new)) none

    lands : (i : ℕ) → i < length (records_in g) → Counts g i
        → Landed g new 0 (relocation_of g (nth_record g i)) (landed 0 0 (cells_from (relocations_in g) 0 bytes) new (nth_record g i).offset)
    lands i lt counts =
        forward g 0 0 (cells_from (relocations_in g) 0 bytes) new m (nth_record g i).offset (relocation_of g (nth_record g i)) (record-begins g bytes i h lt counts)

    here : (i : ℕ) (lt : i < length (records_in g)) (counts : Counts g i)
        → relocation_at new (new_place g (cells_from (relocations_in g) 0 bytes) new i) ≡ Some (lands i lt counts).stays.relocation
    here i lt counts =
        let none : 0 + (lands i lt counts).place ≡ (lands i lt counts).place = omega arith in
        ap (relocation_at new) (new-at i ∙ (lands i lt counts).at ∙ none) ∙ (lands i lt counts).stays.is
