-- Program headers compared, and the segments that are loaded, one by one.
use Rattle.std.proofs.Common.{Bool, true, false, ◌≡◌, ◌≢◌, ◌==◌, ◌&&◌, ℕ, ◌+◌, ◌<◌, ◌≤◌, List, [], ◌∷◌, ◌++◌, length, map, filter, cond, take, drop, get_or, refl, ap, sym, subst, ◌∙◌, arith}
use Rattle.std.proofs.lemmas.Bool.{eq-eqb, eqb-true}
use Rattle.std.proofs.lemmas.List.{drop_all, drop_more, get_or_default, take_all, take_more}
use Rattle.std.specs.Prelude.{Option}
use Rattle.dw_base.specs.Elf.{segments_of}
use Rattle.dw_base.specs.ElfFails.{SegmentsRead}
use Rattle.dw_base.specs.declared.elf_numbers.TheConstants.{PT_LOAD}
use Rattle.dw_base.specs.declared.records.Segment.{Segment}
use Rattle.dw_meaning.specs.Loaded.{is_load, segment_image}
use Rattle.elf_file.proofs.ElfFileLaws.{length-segments_of}
use Rattle.elf_file.proofs.FixedLaws.{segment-ends}
use Rattle.dbg_check.proofs.LeftOutLaws.{file-image, image-same, same-image}
use Rattle.dbg_check.specs.Images.{SameIn, file_holes, image_of}
use Rattle.dbg_check.specs.Loads.{LoadAgrees, LoadsAgree, SegmentsLie, same_segment}
use Rattle.dbg_check.specs.declared.holes.Holes.{Holes}

-- ### Program headers

and-first : (a b : Bool) → (a && b) ≡ true → a ≡ true
and-first true b e = refl
and-first false b e = e

and-second : (a b : Bool) → (a && b) ≡ true → b ≡ true
and-second true b e = e
and-second false b e = let no : false ≡ true = e in cc

segment-told : (s t : Segment) → same_segment s t ≡ true → s ≡ t
segment-told s t e =
    let a = s.kind == t.kind in
    let b = s.flags == t.flags in
    let c = s.offset == t.offset in
    let d = s.vaddr == t.vaddr in
    let f = s.paddr == t.paddr in
    let g = s.filesz == t.filesz in
    let h = s.memsz == t.memsz in
    let k = s.align == t.align in
    let e7 : (a && b && c && d && f && g && h) ≡ true = and-first (a && b && c && d && f && g && h) k e in
    let e6 : (a && b && c && d && f && g) ≡ true = and-first (a && b && c && d && f && g) h e7 in
    let e5 : (a && b && c && d && f) ≡ true = and-first (a && b && c && d && f) g e6 in
    let e4 : (a && b && c && d) ≡ true = and-first (a && b && c && d) f e5 in
    let e3 : (a && b && c) ≡ true = and-first (a && b && c) d e4 in
    let e2 : (a && b) ≡ true = and-first (a && b) c e3 in
    let kind : s.kind ≡ t.kind = eqb-true s.kind t.kind (and-first a b e2) in
    let flags : s.flags ≡ t.flags = eqb-true s.flags t.flags (and-second a b e2) in
    let offset : s.offset ≡ t.offset = eqb-true s.offset t.offset (and-second (a && b) c e3) in
    let vaddr : s.vaddr ≡ t.vaddr = eqb-true s.vaddr t.vaddr (and-second (a && b && c) d e4) in
    let paddr : s.paddr ≡ t.paddr = eqb-true s.paddr t.paddr (and-second (a && b && c && d) f e5) in
    let filesz : s.filesz ≡ t.filesz = eqb-true s.filesz t.filesz (and-second (a && b && c && d && f) g e6) in
    let memsz : s.memsz ≡ t.memsz = eqb-true s.memsz t.memsz (and-second (a && b && c && d && f && g) h e7) in
    let align : s.align ≡ t.align = eqb-true s.align t.align (and-second (a && b && c && d && f && g && h) k e) in
    λ i. record {
      kind = kind i;
      flags = flags i;
      offset = offset i;
      vaddr = vaddr i;
      paddr = paddr i;
      filesz = filesz i;
      memsz = memsz i;
      align = align i;
    }

segment-itself : (s : Segment) → same_segment s s ≡ true
segment-itself s = λ i.
    eq-eqb s.kind s.kind refl i && eq-eqb s.flags s.flags refl i && eq-eqb s.offset s.offset refl i && eq-eqb s.vaddr s.vaddr refl i && eq-eqb s.paddr s.paddr refl i
    && eq-eqb s.filesz s.filesz refl i && eq-eqb s.memsz s.memsz refl i && eq-eqb s.align s.align refl i

segment-other : (s t : Segment) → same_segment s t ≡ false → s ≡ t → ⊥
segment-other s t differs same =
    let no : false ≡ true = sym differs ∙ ap (λ (x : Segment). same_segment s x) (sym same) ∙ segment-itself s in
    cc

-- one more
pub segments-next : (a b : List Segment) (i : ℕ) (s t : Segment) (r : Bool) → s ≡ get_or a i s → t ≡ get_or b i t → r ≡ same_segment s t → r ≡ true → i < length a
    → length a ≡ length b → take i a ≡ take i b → take (i + 1) a ≡ take (i + 1) b
segments-next a b i s t r first second told is lt long same =
    let one : s ≡ t = segment-told s t (sym told ∙ is) in
    take_more a i s lt ∙ ap (λ (xs : List Segment). xs ++ get_or a i s ∷ []) same ∙ ap (λ (x : Segment). take i b ++ x ∷ []) (sym first ∙ one ∙ second)
    ∙ sym (take_more b i t (omega (arith, lt, long)))

-- one that differs
pub segments-differ : (a b : List Segment) (i : ℕ) (s t : Segment) (r : Bool) → s ≡ get_or a i s → t ≡ get_or b i t → r ≡ same_segment s t → r ≡ false → i < length a
    → length a ≡ length b → a ≡ b → ⊥
segments-differ a b i s t r first second told is lt long e =
    segment-other s t (sym told ∙ is)
    (first ∙ ap (λ (xs : List Segment). get_or xs i s) e ∙ get_or_default b i s t (omega (arith, lt, long)) ∙ sym second)

pub segments-long : (a b : List Segment) → length a ≢ length b → a ≡ b → ⊥
segments-long a b other e = other (ap length e)

pub segments-all : (a b : List Segment) (i : ℕ) → length a ≤ i → length a ≡ length b → take i a ≡ take i b → a ≡ b
segments-all a b i end long same = sym (take_all i a end) ∙ same ∙ take_all i b (omega (arith, end, long))

pub ruleset list_laws = (segments-next, segments-differ, segments-long, segments-all)

-- ### A segment that is loaded

pub load-none : (b c : List ℕ) (s : Segment) → s.kind ≢ PT_LOAD → LoadAgrees b c s
load-none b c s other = record {
  same = λ is. absurd (other (eqb-true s.kind PT_LOAD is));
}

pub load-empty : (b c : List ℕ) (s : Segment) → s.filesz ≡ 0 → LoadAgrees b c s
unfolding segment_image
load-empty b c s none = record { same = λ is. rw none refl }

pub load-same : (b c : List ℕ) (h k : Holes) (s : Segment) (end : ℕ) → h ≡ file_holes b → k ≡ file_holes c → end ≡ s.offset + s.filesz → SameIn b c h k s.offset end
    → LoadAgrees b c s
load-same b c h k s end one other place same = record {
  same = λ is.
      let whole : SameIn b c (file_holes b) (file_holes c) s.offset (s.offset + s.filesz) =
      subst (λ (n : ℕ). SameIn b c (file_holes b) (file_holes c) s.offset n) place
      (subst (λ (x : Holes). SameIn b c (file_holes b) x s.offset end) other (subst (λ (x : Holes). SameIn b c x k s.offset end) one same)) in
      file-image c s ∙ sym (image-same b c (file_holes b) (file_holes c) s.offset s.filesz whole) ∙ sym (file-image b s);
}

pub load-other : (b c : List ℕ) (h k : Holes) (s : Segment) (end : ℕ) → h ≡ file_holes b → k ≡ file_holes c → end ≡ s.offset + s.filesz → s.kind ≡ PT_LOAD
    → (SameIn b c h k s.offset end → ⊥) → LoadAgrees b c s → ⊥
load-other b c h k s end one other place is differs agrees =
    let images : image_of b (file_holes b) s.offset s.filesz ≡ image_of c (file_holes c) s.offset s.filesz =
    sym (file-image b s) ∙ sym (agrees.same (eq-eqb s.kind PT_LOAD is)) ∙ file-image c s in
    let whole : SameIn b c (file_holes b) (file_holes c) s.offset (s.offset + s.filesz) = same-image b c (file_holes b) (file_holes c) s.offset s.filesz images in
    differs
    (subst (λ (x : Holes). SameIn b c x k s.offset end) (sym one)
    (subst (λ (x : Holes). SameIn b c (file_holes b) x s.offset end) (sym other)
    (subst (λ (n : ℕ). SameIn b c (file_holes b) (file_holes c) s.offset n) (sym place) whole)))

pub ruleset load_laws = (load-none, load-empty, load-same, load-other)

-- ### All of them

-- the first of some images
abbrev pub front : List (List (Option ℕ)) → List (Option ℕ)
front [] = []
front (x ∷ xs) = x

loads-more : (b c : List ℕ) (s : Segment) (ss : List Segment) → LoadAgrees b c s → LoadsAgree b c ss → LoadsAgree b c (s ∷ ss)
loads-more b c s ss one rest = by (is_load s) one.same
  where
    by : (t : Bool) → (t ≡ true → segment_image c s ≡ segment_image b s)
        → map (segment_image c) (cond t (s ∷ filter is_load ss) (filter is_load ss)) ≡ map (segment_image b) (cond t (s ∷ filter is_load ss) (filter is_load ss))
    by true same = λ i. same refl i ∷ rest i
    by false same = rest

loads-rest : (b c : List ℕ) (s : Segment) (ss : List Segment) → LoadsAgree b c (s ∷ ss) → LoadsAgree b c ss
loads-rest b c s ss all = by (is_load s) all
  where
    by : (t : Bool) → map (segment_image c) (cond t (s ∷ filter is_load ss) (filter is_load ss)) ≡ map (segment_image b) (cond t (s ∷ filter is_load ss) (filter is_load ss))
        → LoadsAgree b c ss
    by true e = ap (λ (xs : List (List (Option ℕ))). drop 1 xs) e
    by false e = e

loads-one : (b c : List ℕ) (s : Segment) (ss : List Segment) → LoadsAgree b c (s ∷ ss) → LoadAgrees b c s
loads-one b c s ss all = record { same = by (is_load s) all }
  where
    by : (t : Bool) → map (segment_image c) (cond t (s ∷ filter is_load ss) (filter is_load ss)) ≡ map (segment_image b) (cond t (s ∷ filter is_load ss) (filter is_load ss))
        → t ≡ true → segment_image c s ≡ segment_image b s
    by true e is = ap front e
    by false e never = absurd cc

-- the segments from an index on agree exactly where all do
pub record SameLeft (b c : List ℕ) (ss : List Segment) (i : ℕ) : Type 0 where
  pub to : LoadsAgree b c (drop i ss) → LoadsAgree b c ss
  pub from : LoadsAgree b c ss → LoadsAgree b c (drop i ss)

pub left-start : (b c : List ℕ) (ss : List Segment) → SameLeft b c ss 0
left-start b c ss = record { to = λ e. e; from = λ e. e }

pub left-more : (b c : List ℕ) (ss : List Segment) (i : ℕ) (s : Segment) → i < length ss → s ≡ get_or ss i s → LoadAgrees b c s → SameLeft b c ss i → SameLeft b c ss (i + 1)
left-more b c ss i s lt is one left =
    let step : drop i ss ≡ s ∷ drop (i + 1) ss = drop_more ss i s lt ∙ ap (λ (x : Segment). x ∷ drop (i + 1) ss) (sym is) in
    record {
      to = λ e. left.to (subst (λ (xs : List Segment). LoadsAgree b c xs) (sym step) (loads-more b c s (drop (i + 1) ss) one e));
      from = λ e. loads-rest b c s (drop (i + 1) ss) (subst (λ (xs : List Segment). LoadsAgree b c xs) step (left.from e));
    }

pub left-other : (b c : List ℕ) (ss : List Segment) (i : ℕ) (s : Segment) → i < length ss → s ≡ get_or ss i s → (LoadAgrees b c s → ⊥) → SameLeft b c ss i → LoadsAgree b c ss → ⊥
left-other b c ss i s lt is differs left all =
    let step : drop i ss ≡ s ∷ drop (i + 1) ss = drop_more ss i s lt ∙ ap (λ (x : Segment). x ∷ drop (i + 1) ss) (sym is) in
    differs (loads-one b c s (drop (i + 1) ss) (subst (λ (xs : List Segment). LoadsAgree b c xs) step (left.from all)))

pub left-end : (b c : List ℕ) (ss : List Segment) (i : ℕ) → length ss ≤ i → SameLeft b c ss i → LoadsAgree b c ss
left-end b c ss i end left = left.to (subst (λ (xs : List Segment). LoadsAgree b c xs) (sym (drop_all i ss end)) refl)

pub lies-at : (b : List ℕ) (ss : List Segment) (i : ℕ) (s : Segment) → SegmentsLie b ss → i < length ss → s ≡ get_or ss i s → s.filesz ≢ 0 → s.offset + s.filesz ≤ length b
lies-at b ss i s lie lt is some = subst (λ (x : Segment). x.filesz ≢ 0 → x.offset + x.filesz ≤ length b) (sym is) (lie.all i s lt) some

pub ruleset loads_laws = (left-start, left-more, left-other, left-end, lies-at)

-- of a file that was read
pub segments-lie : (b : List ℕ) (ss : List Segment) → ss ≡ segments_of b → SegmentsRead b → SegmentsLie b ss
segments-lie b ss are reads = record {
  all = λ i d lt some. segment-ends b ss i d are (subst (λ (n : ℕ). i < n) (ap length are ∙ length-segments_of b) lt) reads some;
}

pub ruleset lie_laws = (segments-lie)
