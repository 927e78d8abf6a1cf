-- The output of a file with mapped paths, by its layout: it is the file written with new bodies, of which those of sections that aren't
-- read and hold no relocations of one that is are their own, and it reads back.
use Rattle.std.proofs.Common.{Bool, true, false, ◌≡◌, ◌⊎◌, inl, inr, ℕ, zero, suc, ◌+◌, ◌<◌, ◌≤◌, ◌==◌, ◌&&◌, not, replicate, List, [], ◌∷◌, ◌++◌, length, take, cond, if◌then◌else◌, sym, ap, ◌∙◌, refl, subst, arith}
use Rattle.std.proofs.lemmas.Bool.{cases_Bool}
use Rattle.dw_base.specs.DebugData.{DataReadings}
use Rattle.dw_base.specs.Elf.{class_of, contents_of, is_empty_kind, nth_section, order_of, section_count, section_name}
use Rattle.dw_base.specs.Layout.{Part, extended, fixed_end, is_fixed, laid, laid_out, new_head, new_heads, output_limit, part_of, placed, padding, with_bodies, with_table}
use Rattle.dw_base.specs.LayoutFails.{LayoutFits}
use Rattle.dw_base.specs.LayoutReads.{ReadsBack}
use Rattle.dw_base.specs.Lists.{tabulate}
use Rattle.dw_base.specs.Paths.{PathMap}
use Rattle.dw_base.specs.RelocationSectionFails.{relocates_read}
use Rattle.dw_base.specs.declared.records.Section.{Section}
use Rattle.dw_base.proofs.LayoutLaws.{laid-append, new_heads-append}
use Rattle.dw_base.proofs.ReadsAgainLaws.{reads_back}
use Rattle.dw_base.proofs.WrittenContents.{contents-empty}
use Rattle.dw_meaning.specs.FileMeanings.{file_data, file_body, output_of}
use Rattle.dbg_job.specs.EditedFiles.{IsMapped}
use Rattle.dw_meaning.proofs.DataOneLaws.{data-one}
use Rattle.dw_meaning.proofs.FileBackLaws.{Back, is_read_name}
use Rattle.dw_meaning.proofs.FileKeptLaws.{CanMap, unread-kept}
use Rattle.dw_meaning.proofs.LayoutRowLaws.{layout_excludes}

-- ### A layout looks at no body of a section that has no bytes

extended-same : (out : List ℕ) (p q : Part) → p.head ≡ q.head → p.moves ≡ q.moves → (p.moves ≡ true → p.body ≡ q.body) → extended out p ≡ extended out q
unfolding placed
extended-same out p q head moves body =
    by_moves p.moves q.moves moves body
  where
    by_moves : (t u : Bool) → t ≡ u → (t ≡ true → p.body ≡ q.body)
        → cond t (out ++ (replicate (padding (length out) p.head.align) 0 ++ p.body)) out
        ≡ cond u (out ++ (replicate (padding (length out) q.head.align) 0 ++ q.body)) out
    by_moves true true e same = rw (head, same refl) refl
    by_moves true false e same = absurd cc
    by_moves false true e same = absurd cc
    by_moves false false e same = refl

new_head-same : (place : ℕ) (p q : Part) → p.head ≡ q.head → p.moves ≡ q.moves → (p.moves ≡ true → p.body ≡ q.body) → new_head place p ≡ new_head place q
unfolding new_head
new_head-same place p q head moves body = by_moves p.moves q.moves moves body
  where
    by_moves : (t u : Bool) → t ≡ u → (t ≡ true → p.body ≡ q.body)
        → cond t (record p.head { offset = place + padding place p.head.align; size = length p.body }) p.head
        ≡ cond u (record q.head { offset = place + padding place q.head.align; size = length q.body }) q.head
    by_moves true true e same = rw (head, same refl) refl
    by_moves true false e same = absurd cc
    by_moves false true e same = absurd cc
    by_moves false false e same = head

-- two ways to give bodies differ in those of sections without bytes alone
abbrev pub SameFull : List ℕ → (ℕ → List ℕ) → (ℕ → List ℕ) → Type 0
SameFull b f g = (i : ℕ) → i < section_count b → is_empty_kind (nth_section b i) ≡ false → f i ≡ g i

part-head : (b : List ℕ) (f : ℕ → List ℕ) (i : ℕ) → (part_of b f i).head ≡ nth_section b i
unfolding part_of
part-head b f i = refl

moves-full : (e x : Bool) → (not e && x) ≡ true → e ≡ false
moves-full true x h = absurd cc
moves-full false x h = refl

part-full : (b : List ℕ) (f : ℕ → List ℕ) (i : ℕ) → (part_of b f i).moves ≡ true → is_empty_kind (nth_section b i) ≡ false
unfolding part_of
part-full b f i moves = moves-full (is_empty_kind (nth_section b i)) (not (is_fixed b (nth_section b i))) moves

part-moves : (b : List ℕ) (f g : ℕ → List ℕ) (i : ℕ) → (part_of b f i).moves ≡ (part_of b g i).moves
unfolding part_of
part-moves b f g i = refl

part-body : (b : List ℕ) (f : ℕ → List ℕ) (i : ℕ) → (part_of b f i).body ≡ f i
unfolding part_of
part-body b f i = refl

bodies-same : (b : List ℕ) (f g : ℕ → List ℕ) (i : ℕ) → i < section_count b → SameFull b f g → (part_of b f i).moves ≡ true → (part_of b f i).body ≡ (part_of b g i).body
bodies-same b f g i lt same moves = part-body b f i ∙ same i lt (part-full b f i moves) ∙ sym (part-body b g i)

laid-same : (b out : List ℕ) (f g : ℕ → List ℕ) (n : ℕ) → n ≤ section_count b → SameFull b f g → laid out (tabulate (part_of b f) n) ≡ laid out (tabulate (part_of b g) n)
laid-same b out f g zero le same = refl
laid-same b out f g (suc n) le same =
    laid-append out (tabulate (part_of b f) n) (part_of b f n ∷ [])
    ∙ ap (λ (xs : List ℕ). extended xs (part_of b f n)) (laid-same b out f g n (omega arith) same)
    ∙ extended-same (laid out (tabulate (part_of b g) n)) (part_of b f n) (part_of b g n) (part-head b f n ∙ sym (part-head b g n)) (part-moves b f g n)
    (bodies-same b f g n (omega arith) same)
    ∙ sym (laid-append out (tabulate (part_of b g) n) (part_of b g n ∷ []))

heads-same : (b out : List ℕ) (f g : ℕ → List ℕ) (n : ℕ) → n ≤ section_count b → SameFull b f g → new_heads out (tabulate (part_of b f) n) ≡ new_heads out (tabulate (part_of b g) n)
heads-same b out f g zero le same = refl
heads-same b out f g (suc n) le same =
    new_heads-append out (tabulate (part_of b f) n) (part_of b f n ∷ [])
    ∙ ap (λ (hs : List Section). hs ++ new_head (length (laid out (tabulate (part_of b f) n))) (part_of b f n) ∷ []) (heads-same b out f g n (omega arith) same)
    ∙ ap (λ (xs : List ℕ). new_heads out (tabulate (part_of b g) n) ++ new_head (length xs) (part_of b f n) ∷ []) (laid-same b out f g n (omega arith) same)
    ∙ ap (λ (h : Section). new_heads out (tabulate (part_of b g) n) ++ h ∷ [])
    (new_head-same (length (laid out (tabulate (part_of b g) n))) (part_of b f n) (part_of b g n) (part-head b f n ∙ sym (part-head b g n)) (part-moves b f g n)
    (bodies-same b f g n (omega arith) same))
    ∙ sym (new_heads-append out (tabulate (part_of b g) n) (part_of b g n ∷ []))

pub written-same : (b : List ℕ) (f g : ℕ → List ℕ) → SameFull b f g → with_bodies b f ≡ with_bodies b g
unfolding with_bodies laid_out
written-same b f g same =
    ap (λ (xs : List ℕ). if section_count b == 0 then b else with_table (class_of b) (order_of b) xs (new_heads (take (fixed_end b) b) (tabulate (part_of b f) (section_count b))))
    (laid-same b (take (fixed_end b) b) f g (section_count b) (omega arith) same)
    ∙ ap (λ (hs : List Section). if section_count b == 0 then b else with_table (class_of b) (order_of b) (laid (take (fixed_end b) b) (tabulate (part_of b g) (section_count b))) hs)
    (heads-same b (take (fixed_end b) b) f g (section_count b) (omega arith) same)

-- ### The bodies of the output, none for a section without bytes

unfoldable pub full_body : PathMap → List ℕ → DataReadings → ℕ → List ℕ
full_body m b r i = if is_empty_kind (nth_section b i) then [] else file_body m b r i

full-is : (m : PathMap) (b : List ℕ) (r : DataReadings) (i : ℕ) → is_empty_kind (nth_section b i) ≡ false → full_body m b r i ≡ file_body m b r i
unfolding full_body
full-is m b r i full = rw full refl

empty-is : (m : PathMap) (b : List ℕ) (r : DataReadings) (i : ℕ) → is_empty_kind (nth_section b i) ≡ true → full_body m b r i ≡ []
unfolding full_body
empty-is m b r i empty = rw empty refl

pub no-contents : (b : List ℕ) (i : ℕ) → is_empty_kind (nth_section b i) ≡ true → contents_of b i ≡ []
unfolding contents_of
no-contents b i empty = contents-empty b (nth_section b i) empty

full-written : (m : PathMap) (b : List ℕ) (r : DataReadings) → with_bodies b (file_body m b r) ≡ with_bodies b (full_body m b r)
full-written m b r = written-same b (file_body m b r) (full_body m b r) (λ i lt full. sym (full-is m b r i full))

full-fits : (m : PathMap) (b : List ℕ) (r : DataReadings) → LayoutFits b (file_body m b r) → LayoutFits b (full_body m b r)
full-fits m b r ok = record {
  stays = λ i lt fixed. by_kind i lt fixed (cases_Bool (is_empty_kind (nth_section b i)));
  across = ok.across;
  in_header = ok.in_header;
  small = subst (λ (x : List ℕ). length x ≤ output_limit) (full-written m b r) ok.small;
}
  where
    by_kind : (i : ℕ) → i < section_count b → is_fixed b (nth_section b i) ≡ true → (is_empty_kind (nth_section b i) ≡ true) ⊎ (is_empty_kind (nth_section b i) ≡ false)
        → full_body m b r i ≡ contents_of b i
    by_kind i lt fixed (inl empty) = empty-is m b r i empty ∙ sym (no-contents b i empty)
    by_kind i lt fixed (inr full) = full-is m b r i full ∙ ok.stays i lt fixed

-- ### A section that isn't read and holds no relocations of one that is keeps its own

full-kept : (m : PathMap) (b : List ℕ) (r : DataReadings) (i : ℕ) → CanMap m b r → i < section_count b → is_read_name (section_name b i) ≡ false
    → relocates_read b i ≡ false → full_body m b r i ≡ contents_of b i
full-kept m b r i w lt unread none = by_kind (cases_Bool (is_empty_kind (nth_section b i)))
  where
    by_kind : (is_empty_kind (nth_section b i) ≡ true) ⊎ (is_empty_kind (nth_section b i) ≡ false) → full_body m b r i ≡ contents_of b i
    by_kind (inl empty) = empty-is m b r i empty ∙ sym (no-contents b i empty)
    by_kind (inr full) = full-is m b r i full ∙ unread-kept m b r i w lt unread none

-- ### So the output reads back

pub can-map : (m : PathMap) (b out : List ℕ) (w : IsMapped m b out) → CanMap m b w.accepted.readings
can-map m b out w = record { map = w.map; bytes = w.bytes; reads = w.accepted.reads; fits = w.accepted.fits }

-- the bodies of the output
abbrev pub bodies_of : (m : PathMap) (b out : List ℕ) → IsMapped m b out → ℕ → List ℕ
bodies_of m b out w i = full_body m b w.accepted.readings i

pub output-is : (m : PathMap) (b out : List ℕ) (w : IsMapped m b out) → out ≡ with_bodies b (bodies_of m b out w)
unfolding output_of
output-is m b out w =
    w.output.is
    ∙ ap (λ (r : DataReadings). with_bodies b (file_body m b r)) (data-one (file_data b) w.output.readings w.accepted.readings w.output.reads w.accepted.reads.data_reads)
    ∙ full-written m b w.accepted.readings

pub output-fits : (m : PathMap) (b out : List ℕ) (w : IsMapped m b out) → LayoutFits b (bodies_of m b out w)
output-fits m b out w = full-fits m b w.accepted.readings w.accepted.written

pub output-small : (m : PathMap) (b out : List ℕ) → IsMapped m b out → length out ≤ output_limit
output-small m b out w = subst (λ (x : List ℕ). length x ≤ output_limit) (sym (output-is m b out w)) (output-fits m b out w).small

pub output-none : (m : PathMap) (b out : List ℕ) (w : IsMapped m b out) (i : ℕ) → i < section_count b → is_empty_kind (nth_section b i) ≡ true → bodies_of m b out w i ≡ []
output-none m b out w i lt empty = empty-is m b w.accepted.readings i empty

output-reads : (m : PathMap) (b out : List ℕ) (w : IsMapped m b out) → ReadsBack b (bodies_of m b out w) out
output-reads m b out w =
    subst (λ (x : List ℕ). ReadsBack b (bodies_of m b out w) x) (sym (output-is m b out w))
    (reads_back b (bodies_of m b out w) w.accepted.reads.elf.debug w.accepted.reads.elf.segments
    (λ r fails. layout_excludes b (bodies_of m b out w) r (output-fits m b out w) fails) (output-none m b out w) w.bytes)

pub output-back : (m : PathMap) (b out : List ℕ) (w : IsMapped m b out) → Back b (bodies_of m b out w) out
output-back m b out w = record {
  elf = w.accepted.reads.elf;
  names = w.accepted.reads.names;
  back = output-reads m b out w;
  unread = λ i lt unread none. full-kept m b w.accepted.readings i (can-map m b out w) lt unread none;
}
