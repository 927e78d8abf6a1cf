-- Records of relocations where fields say other offsets, and the section's bytes stay at their places or move by runs: the table that is written is the
-- one of the new contents.
use Rattle.std.proofs.Common.{◌≡◌, ℕ, zero, suc, ◌+◌, ◌^◌, ◌<◌, ◌≤◌, false, List, [], ◌∷◌, ◌++◌, length, Option, Some, None, refl, sym, ap, ◌∙◌, subst, arith}
use Rattle.dw_base.specs.Cells.{Cell, Relocation}
use Rattle.dw_base.specs.Elf.{word_size}
use Rattle.dw_base.specs.RelocationBodies.{addend_there, begin_places, place_after, relocation_body}
use Rattle.dw_base.specs.RelocationFields.{relocation_at}
use Rattle.dw_base.specs.SectionRelocations.{RelocationSource, cells_from, is_none_type, records_in, relocation_of, relocations_in}
use Rattle.dw_base.specs.declared.relocations.Reloc.{Reloc}
use Rattle.dw_base.specs.declared.shared.Class.{Class}
use Rattle.dw_base.specs.declared.shared.Class.TheVariants.{C32, C64}
use Rattle.dw_base.proofs.RelocationBodyLaws.{new_place}
use Rattle.dw_meaning.proofs.RecordMoveLaws.{RecordsApart, record-begins}
use Rattle.dw_meaning.proofs.RecordShiftLaws.{after-further, after-here, landed, landed-both, landed-new, landed-old}
use Rattle.dw_patch.specs.RecordMoves.{PlacesFit, addend_if, moved_table, nth_record, patch_for}
use Rattle.elf_relocs.specs.Runs.{place_by}
use Rattle.elf_layout.specs.declared.patch.Patch.{Patch}
use Rattle.elf_relocs.specs.declared.runs.Run.{Run}
use Rattle.dw_patch.proofs.MovedTableLaws.{Says, moved_table-is}
use Rattle.dw_patch.proofs.SaidCellLaws.{SaidAll, by_field, said}

-- Old contents from one place on come to stand from another on: bytes in which no relocation begins come and go, and a relocation stands where its
-- run says, with the addend that makes the offset of its field.
pub data Carried (runs : List Run) (fields : List Patch) : ℕ → ℕ → List Cell → List Cell → Type 0 where
  carried_none : (a b : ℕ) → Carried runs fields a b [] []
  carried_old : (a b : ℕ) (c : Cell) (cs ds : List Cell) → c.relocation ≡ None → Carried runs fields (suc a) b cs ds → Carried runs fields a b (c ∷ cs) ds
  carried_new : (a b : ℕ) (d : Cell) (cs ds : List Cell) → d.relocation ≡ None → Carried runs fields a (suc b) cs ds → Carried runs fields a b cs (d ∷ ds)
  carried_both : (a b : ℕ) (c d : Cell) (cs ds : List Cell) (r : Relocation) → c.relocation ≡ Some r → d.relocation ≡ Some (by_field r (patch_for fields a))
      → place_by runs a ≡ b → Carried runs fields (suc a) (suc b) cs ds → Carried runs fields a b (c ∷ cs) (d ∷ ds)

-- one part behind another
pub carried-append : (runs : List Run) (fields : List Patch) (a b : ℕ) (xs ys us vs : List Cell) → Carried runs fields a b xs ys
    → Carried runs fields (a + length xs) (b + length ys) us vs → Carried runs fields a b (xs ++ us) (ys ++ vs)
carried-append runs fields a b xs ys us vs (carried_none p q) k =
    let here : a + 0 ≡ a = omega arith in
    let there : b + 0 ≡ b = omega arith in
    subst (λ (j : ℕ). Carried runs fields a j us vs) there (subst (λ (i : ℕ). Carried runs fields i (b + 0) us vs) here k)
carried-append runs fields a b xs ys us vs (carried_old p q c cs ds none m) k =
    let next : a + suc (length cs) ≡ suc a + length cs = omega arith in
    carried_old a b c (cs ++ us) (ds ++ vs) none
    (carried-append runs fields (suc a) b cs ds us vs m (subst (λ (i : ℕ). Carried runs fields i (b + length ds) us vs) next k))
carried-append runs fields a b xs ys us vs (carried_new p q d cs ds none m) k =
    let next : b + suc (length ds) ≡ suc b + length ds = omega arith in
    carried_new a b d (cs ++ us) (ds ++ vs) none
    (carried-append runs fields a (suc b) cs ds us vs m (subst (λ (j : ℕ). Carried runs fields (a + length cs) j us vs) next k))
carried-append runs fields a b xs ys us vs (carried_both p q c d cs ds r has new place m) k =
    let here : a + suc (length cs) ≡ suc a + length cs = omega arith in
    let there : b + suc (length ds) ≡ suc b + length ds = omega arith in
    carried_both a b c d (cs ++ us) (ds ++ vs) r has new place
    (carried-append runs fields (suc a) (suc b) cs ds us vs m
    (subst (λ (j : ℕ). Carried runs fields (suc a + length cs) j us vs) there (subst (λ (i : ℕ). Carried runs fields i (b + suc (length ds)) us vs) here k)))

-- a part that comes to stand as it is, but for the offsets that its fields say
said-none : (fields : List Patch) (k : ℕ) (c d : Cell) → c.relocation ≡ None → d.relocation ≡ said fields k c.relocation → d.relocation ≡ None
said-none fields k c d none is = is ∙ ap (said fields k) none

pub said-carried : (runs : List Run) (fields : List Patch) (a b : ℕ) (xs ys : List Cell) → SaidAll fields a xs ys → ((k : ℕ) → k < length xs → place_by runs (a + k) ≡ b + k)
    → Carried runs fields a b xs ys
said-carried runs fields a b [] [] h place = carried_none a b
said-carried runs fields a b [] (y ∷ ys) h place = absurd h
said-carried runs fields a b (x ∷ xs) [] h place = absurd h
said-carried runs fields a b (x ∷ xs) (y ∷ ys) h place = by_relocation x.relocation refl (said-carried runs fields (suc a) (suc b) xs ys h.1 rest)
  where
    rest : (k : ℕ) → k < length xs → place_by runs (suc a + k) ≡ suc b + k
    rest k lt =
        let here : suc a + k ≡ a + suc k = omega arith in
        let there : b + suc k ≡ suc b + k = omega arith in
        ap (place_by runs) here ∙ place (suc k) (omega (arith, lt)) ∙ there

    by_relocation : (o : Option Relocation) → x.relocation ≡ o → Carried runs fields (suc a) (suc b) xs ys → Carried runs fields a b (x ∷ xs) (y ∷ ys)
    by_relocation None e more = carried_old a b x xs (y ∷ ys) e (carried_new (suc a) b y xs ys (said-none fields a x y e h.0) more)
    by_relocation (Some r) e more =
        let here : a + 0 ≡ a = omega arith in
        let there : b + 0 ≡ b = omega arith in
        carried_both a b x y xs ys r e (h.0 ∙ ap (said fields a) e) (ap (place_by runs) (sym here) ∙ place 0 (omega arith) ∙ there) more

-- where a relocation comes to stand
record Stand (runs : List Run) (fields : List Patch) (new : List Cell) (a b : ℕ) (old : List Cell) (p : ℕ) (r : Relocation) : Type 0 where
  place : ℕ
  by_runs : place_by runs (a + p) ≡ b + place
  lands : landed a b old new p ≡ b + place
  is : relocation_at new place ≡ Some (by_field r (patch_for fields (a + p)))

one-of : (r q : Relocation) → Some r ≡ Some q → r ≡ q
one-of r q e = cc

stands : (runs : List Run) (fields : List Patch) (a b : ℕ) (old new : List Cell) → Carried runs fields a b old new → (p : ℕ) (r : Relocation) → relocation_at old p ≡ Some r
    → Stand runs fields new a b old p r
stands runs fields a b old new (carried_none x y) zero r e = absurd cc
stands runs fields a b old new (carried_none x y) (suc p) r e = absurd cc
stands runs fields a b old new (carried_old x y c cs ds none m) zero r e = absurd cc
stands runs fields a b old new (carried_old x y c cs ds none m) (suc p) r e =
    let h = stands runs fields (suc a) b cs ds m p r e in
    let next : a + suc p ≡ suc a + p = omega arith in
    record {
      place = h.place;
      by_runs = ap (place_by runs) next ∙ h.by_runs;
      lands = landed-old c cs ds a b p none ∙ h.lands;
      is = h.is ∙ ap (λ (k : ℕ). Some (by_field r (patch_for fields k))) (sym next);
    }
stands runs fields a b old new (carried_new x y d cs ds none m) p r e =
    let h = stands runs fields a (suc b) cs ds m p r e in
    let next : suc b + h.place ≡ b + suc h.place = omega arith in
    record { place = suc h.place; by_runs = h.by_runs ∙ next; lands = landed-new d cs ds a b p none ∙ h.lands ∙ next; is = h.is }
stands runs fields a b old new (carried_both x y c d cs ds q has is place m) zero r e =
    let same : q ≡ r = one-of q r (sym has ∙ e) in
    let here : a + 0 ≡ a = omega arith in
    let there : b ≡ b + 0 = omega arith in
    record {
      place = 0;
      by_runs = ap (place_by runs) here ∙ place ∙ there;
      lands = landed-both c d cs ds a b 0 q (by_field q (patch_for fields a)) has is ∙ after-here (begin_places (suc a) cs) (begin_places (suc b) ds) a b ∙ there;
      is = is ∙ ap (λ (s : Relocation). Some (by_field s (patch_for fields a))) same ∙ ap (λ (k : ℕ). Some (by_field r (patch_for fields k))) (sym here);
    }
stands runs fields a b old new (carried_both x y c d cs ds q has is place m) (suc p) r e =
    let h = stands runs fields (suc a) (suc b) cs ds m p r e in
    let here : a + suc p ≡ suc a + p = omega arith in
    let next : suc b + h.place ≡ b + suc h.place = omega arith in
    record {
      place = suc h.place;
      by_runs = ap (place_by runs) here ∙ h.by_runs ∙ next;
      lands = landed-both c d cs ds a b (suc p) q (by_field q (patch_for fields a)) has is
          ∙ after-further (begin_places (suc a) cs) (begin_places (suc b) ds) a b p ∙ h.lands ∙ next;
      is = h.is ∙ ap (λ (k : ℕ). Some (by_field r (patch_for fields k))) (sym here);
    }

-- the addend that a record has where its field says its offset
addend-said : (g : RelocationSource) (r : Reloc) (o : Option Patch) → addend_there (Some (by_field (relocation_of g r) o)) ≡ addend_if g r o
unfolding relocation_of
addend-said g r None = refl
addend-said g r (Some f) = refl

-- so runs and fields say what becomes of each relocation
pub carried-say : (g : RelocationSource) (bytes : List ℕ) (new : List Cell) (runs : List Run) (fields : List Patch) → RecordsApart g bytes
    → Carried runs fields 0 0 (cells_from (relocations_in g) 0 bytes) new → Says g (cells_from (relocations_in g) 0 bytes) new runs fields
carried-say g bytes new runs fields apart m = record {
  place = λ i lt counts.
      let s = stand i lt counts in
      ap (place_by runs) (own i) ∙ s.by_runs ∙ sym (lands i lt counts);
  addend = λ i lt counts.
      let s = stand i lt counts in
      sym (ap (λ (p : ℕ). addend_there (relocation_at new p)) (lands i lt counts ∙ front s.place)
      ∙ ap addend_there (s.is ∙ ap (λ (k : ℕ). Some (by_field (relocation_of g (nth_record g i)) (patch_for fields k))) (sym (own i)))
      ∙ addend-said g (nth_record g i) (patch_for fields (nth_record g i).offset));
}
  where
    front : (n : ℕ) → 0 + n ≡ n
    front n = omega arith

    own : (i : ℕ) → (nth_record g i).offset ≡ 0 + (nth_record g i).offset
    own i = omega arith

    stand : (i : ℕ) → i < length (records_in g) → is_none_type g.machine (nth_record g i).kind ≡ false
        → Stand runs fields new 0 0 (cells_from (relocations_in g) 0 bytes) (nth_record g i).offset (relocation_of g (nth_record g i))
    stand i lt counts =
        stands runs fields 0 0 (cells_from (relocations_in g) 0 bytes) new m (nth_record g i).offset (relocation_of g (nth_record g i)) (record-begins g bytes i apart lt counts)

    lands : (i : ℕ) (lt : i < length (records_in g)) (counts : is_none_type g.machine (nth_record g i).kind ≡ false)
        → new_place g (cells_from (relocations_in g) 0 bytes) new i ≡ 0 + (stand i lt counts).place
    lands i lt counts =
        ap (place_after (begin_places 0 (cells_from (relocations_in g) 0 bytes)) (begin_places 0 new)) (own i) ∙ (stand i lt counts).lands

-- and the table that is written is the one of the new contents: where bytes move,
pub carried-table : (g : RelocationSource) (bytes : List ℕ) (new : List Cell) (runs : List Run) (fields : List Patch) → RecordsApart g bytes
    → Carried runs fields 0 0 (cells_from (relocations_in g) 0 bytes) new → moved_table g runs fields ≡ relocation_body g (cells_from (relocations_in g) 0 bytes) new
carried-table g bytes new runs fields apart m =
    moved_table-is g (cells_from (relocations_in g) 0 bytes) new runs fields (carried-say g bytes new runs fields apart m)

-- each place fits a word, where the new contents are small
at-inside : (cs : List Cell) (p : ℕ) (r : Relocation) → relocation_at cs p ≡ Some r → p < length cs
at-inside [] zero r e = absurd cc
at-inside [] (suc p) r e = absurd cc
at-inside (c ∷ cs) zero r e = omega arith
at-inside (c ∷ cs) (suc p) r e =
    let more = at-inside cs p r e in
    omega (arith, more)

below-word : (c : Class) (n : ℕ) → n < 2 ^ 32 → n < 256 ^ word_size c
below-word C32 n lt = omega (arith, lt)
below-word C64 n lt = omega (arith, lt)

pub carried-fit : (g : RelocationSource) (bytes : List ℕ) (new : List Cell) (runs : List Run) (fields : List Patch) → RecordsApart g bytes
    → Carried runs fields 0 0 (cells_from (relocations_in g) 0 bytes) new → length new ≤ 2 ^ 32 → PlacesFit g runs
carried-fit g bytes new runs fields apart m small = record {
  each = λ i lt counts.
      let s : Stand runs fields new 0 0 (cells_from (relocations_in g) 0 bytes) (nth_record g i).offset (relocation_of g (nth_record g i)) =
      stands runs fields 0 0 (cells_from (relocations_in g) 0 bytes) new m (nth_record g i).offset (relocation_of g (nth_record g i)) (record-begins g bytes i apart lt counts) in
      let inside = at-inside new s.place (by_field (relocation_of g (nth_record g i)) (patch_for fields (0 + (nth_record g i).offset))) s.is in
      let own : (nth_record g i).offset ≡ 0 + (nth_record g i).offset = omega arith in
      let lands : place_by runs (nth_record g i).offset ≡ 0 + s.place = ap (place_by runs) own ∙ s.by_runs in
      below-word g.class (place_by runs (nth_record g i).offset) (omega (arith, inside, lands, small));
}

-- and where they stay at their places
pub stays-table : (g : RelocationSource) (bytes : List ℕ) (new : List Cell) (fields : List Patch) → RecordsApart g bytes
    → SaidAll fields 0 (cells_from (relocations_in g) 0 bytes) new → moved_table g [] fields ≡ relocation_body g (cells_from (relocations_in g) 0 bytes) new
stays-table g bytes new fields apart h =
    carried-table g bytes new [] fields apart (said-carried [] fields 0 0 (cells_from (relocations_in g) 0 bytes) new h (λ k lt. refl))
