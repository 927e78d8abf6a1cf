-- What stays of an edited file is what stays of the file: the fixed end is where it was, and each section that stays is as it was.
use Rattle.std.proofs.Common.{Bool, true, false, ◌≡◌, ◌⊎◌, inl, inr, ℕ, zero, suc, ◌+◌, ◌*◌, ◌<◌, ◌==◌, ◌&&◌, not, List, [], ◌∷◌, ◌++◌, cond, if◌then◌else◌, sym, ap, ◌∙◌, refl, subst, arith}
use Rattle.std.proofs.lemmas.Bool.{cases_Bool, cases_eq}
use Rattle.std.specs.Prelude.{filter, map}
use Rattle.dw_base.specs.Elf.{class_of, e_phnum, e_phoff, ehdr_size, is_empty_kind, nth_section, phdr_size, section_count, sections_of, segments_of}
use Rattle.dw_base.specs.Layout.{alloc_ends, fixed_end, greatest, is_alloc, is_fixed, is_loaded_kind, segment_ends, with_bodies}
use Rattle.dw_base.specs.LayoutReads.{SameButPlace}
use Rattle.dw_base.specs.Lists.{tabulate}
use Rattle.dw_base.specs.Notes.{Descriptor}
use Rattle.dw_base.specs.Paths.{PathMap}
use Rattle.dw_base.specs.declared.records.Section.{Section}
use Rattle.dw_base.specs.declared.records.Segment.{Segment}
use Rattle.dw_base.specs.declared.shared.Class.{Class}
use Rattle.dw_base.proofs.ReadsBackLaws.{tabulate-ext}
use Rattle.dw_meaning.proofs.FileBackLaws.{section_name-back}
use Rattle.dbg_job.specs.EditedFiles.{IsMapped}
use Rattle.dbg_job.specs.SameSections.{SameFixed, SameSections, SameShape}
use Rattle.dbg_job.proofs.IdKeptLaws.{IsLaid, laid-is, phnum-same, phoff-same}
use Rattle.dbg_job.proofs.NewIdLaws.{NewId, other, same}
use Rattle.dbg_job.proofs.OtherIdLaws.{IdApart, OtherId, class-new, count-new, index-new, name-new, phnum-new, phoff-new, section-new, segments-new, type-new}
use Rattle.dbg_job.proofs.OutputLaws.{bodies_of, output-back, output-is}
use Rattle.dbg_job.proofs.PlaceLaws.{stays-at}

-- ### The ends of what is loaded

ends-push : (xs : List Section) (x : Section) → alloc_ends (xs ++ x ∷ []) ≡ alloc_ends xs ++ alloc_ends (x ∷ [])
ends-push [] x = refl
ends-push (y ∷ xs) x = by_test (is_alloc y && not (is_empty_kind y) && not (y.size == 0)) (ends-push xs x)
  where
    by_test : (t : Bool) → alloc_ends (xs ++ x ∷ []) ≡ alloc_ends xs ++ alloc_ends (x ∷ [])
        → map (λ (s : Section). s.offset + s.size) (cond t (y ∷ filter (λ (s : Section). is_alloc s && not (is_empty_kind s) && not (s.size == 0)) (xs ++ x ∷ [])) (filter (λ (s : Section). is_alloc s && not (is_empty_kind s) && not (s.size == 0)) (xs ++ x ∷ [])))
        ≡ map (λ (s : Section). s.offset + s.size) (cond t (y ∷ filter (λ (s : Section). is_alloc s && not (is_empty_kind s) && not (s.size == 0)) xs) (filter (λ (s : Section). is_alloc s && not (is_empty_kind s) && not (s.size == 0)) xs)) ++ alloc_ends (x ∷ [])
    by_test true rest = ap (λ (es : List ℕ). (y.offset + y.size) ∷ es) rest
    by_test false rest = rest

ends-same : (f g : ℕ → Section) (n : ℕ) → ((k : ℕ) → k < n → alloc_ends (f k ∷ []) ≡ alloc_ends (g k ∷ [])) → alloc_ends (tabulate f n) ≡ alloc_ends (tabulate g n)
ends-same f g zero each = refl
ends-same f g (suc n) each =
    ends-push (tabulate f n) (f n)
    ∙ ap (λ (es : List ℕ). es ++ alloc_ends (f n ∷ [])) (ends-same f g n (λ k lt. each k (omega (arith, lt))))
    ∙ ap (λ (es : List ℕ). alloc_ends (tabulate g n) ++ es) (each n (omega arith))
    ∙ sym (ends-push (tabulate g n) (g n))

no-ends : (s : Section) → is_alloc s ≡ false → alloc_ends (s ∷ []) ≡ []
no-ends s none = rw none refl

-- ### The fixed end, by what it is made of

abbrev end_by : Bool → Class → ℕ → ℕ → List Segment → List ℕ → ℕ
end_by t c n p ss es = if t then greatest (ehdr_size c) ((if n == 0 then 0 else p + n * phdr_size c) ∷ segment_ends ss ++ es) else ehdr_size c

end-is : (b : List ℕ) → fixed_end b ≡ end_by (is_loaded_kind b) (class_of b) (e_phnum b) (e_phoff b) (segments_of b) (alloc_ends (sections_of b))
unfolding fixed_end
end-is b = refl

end-same : (t u : Bool) (c d : Class) (n k p q : ℕ) (ss ts : List Segment) (es fs : List ℕ) → t ≡ u → c ≡ d → n ≡ k → p ≡ q → ss ≡ ts → es ≡ fs
    → end_by t c n p ss es ≡ end_by u d k q ts fs
end-same t u c d n k p q ss ts es fs e1 e2 e3 e4 e5 e6 =
    ap (λ (z : Bool). end_by z c n p ss es) e1 ∙ ap (λ (z : Class). end_by u z n p ss es) e2 ∙ ap (λ (z : ℕ). end_by u d z p ss es) e3
    ∙ ap (λ (z : ℕ). end_by u d k z ss es) e4 ∙ ap (λ (z : List Segment). end_by u d k q z es) e5 ∙ ap (λ (z : List ℕ). end_by u d k q ts z) e6

-- ### Of the output

loaded-of : (b : List ℕ) (s : Section) → is_loaded_kind b ≡ true → is_alloc s ≡ true → is_fixed b s ≡ true
unfolding is_fixed
loaded-of b s loaded alloc = rw (loaded, alloc) refl

sections-are : (b : List ℕ) → sections_of b ≡ tabulate (nth_section b) (section_count b)
unfolding sections_of
sections-are b = refl

laid-stays : (m : PathMap) (b out : List ℕ) (l : IsLaid m b out) (i : ℕ) → i < section_count b → is_fixed b (nth_section b i) ≡ true → nth_section out i ≡ nth_section b i
laid-stays m b out l i lt fixed = ap (λ (x : List ℕ). nth_section x i) l.is ∙ stays-at b l.bodies i l.written lt fixed

one-end : (m : PathMap) (b out : List ℕ) (l : IsLaid m b out) (i : ℕ) → is_loaded_kind b ≡ true → i < section_count b
    → alloc_ends (nth_section out i ∷ []) ≡ alloc_ends (nth_section b i ∷ [])
one-end m b out l i loaded lt = by_alloc (cases_Bool (is_alloc (nth_section b i)))
  where
    by_alloc : (is_alloc (nth_section b i) ≡ true) ⊎ (is_alloc (nth_section b i) ≡ false) → alloc_ends (nth_section out i ∷ []) ≡ alloc_ends (nth_section b i ∷ [])
    by_alloc (inl alloc) =
        ap (λ (s : Section). alloc_ends (s ∷ [])) (laid-stays m b out l i lt (loaded-of b (nth_section b i) loaded alloc))
    by_alloc (inr free) =
        let flags : is_alloc (nth_section out i) ≡ is_alloc (nth_section b i) = rw (l.back.back.heads i lt).flags refl in
        no-ends (nth_section out i) (flags ∙ free) ∙ sym (no-ends (nth_section b i) free)

laid-end : (m : PathMap) (b out : List ℕ) → IsLaid m b out → fixed_end out ≡ fixed_end b
laid-end m b out l = end-is out ∙ by_kind (is_loaded_kind b) refl ∙ sym (end-is b)
  where
    kind : is_loaded_kind out ≡ is_loaded_kind b
    kind = rw l.back.back.kind refl

    by_kind : (t : Bool) → is_loaded_kind b ≡ t
        → end_by (is_loaded_kind out) (class_of out) (e_phnum out) (e_phoff out) (segments_of out) (alloc_ends (sections_of out))
        ≡ end_by (is_loaded_kind b) (class_of b) (e_phnum b) (e_phoff b) (segments_of b) (alloc_ends (sections_of b))
    by_kind true is =
        let ends : alloc_ends (sections_of out) ≡ alloc_ends (sections_of b) =
        ap alloc_ends (sections-are out ∙ ap (λ (n : ℕ). tabulate (nth_section out) n) l.back.back.count)
        ∙ ends-same (nth_section out) (nth_section b) (section_count b) (λ k lt. one-end m b out l k is lt) ∙ ap alloc_ends (sym (sections-are b)) in
        end-same (is_loaded_kind out) (is_loaded_kind b) (class_of out) (class_of b) (e_phnum out) (e_phnum b) (e_phoff out) (e_phoff b) (segments_of out) (segments_of b)
        (alloc_ends (sections_of out)) (alloc_ends (sections_of b)) kind l.back.back.class (phnum-same m b out l) (phoff-same m b out l)
        (l.back.back.segments l.back.names.file_type) ends
    by_kind false is =
        ap (λ (t : Bool). end_by t (class_of out) (e_phnum out) (e_phoff out) (segments_of out) (alloc_ends (sections_of out))) (kind ∙ is)
        ∙ ap ehdr_size l.back.back.class
        ∙ sym (ap (λ (t : Bool). end_by t (class_of b) (e_phnum b) (e_phoff b) (segments_of b) (alloc_ends (sections_of b))) is)

laid-fixed : (m : PathMap) (b out : List ℕ) → IsLaid m b out → SameFixed b out
laid-fixed m b out l = record {
  end = laid-end m b out l;
  stays = λ i lt fixed. laid-stays m b out l i lt fixed;
  behind = λ i lt full free. l.back.back.behind i lt full free;
}

same-fixed : (b : List ℕ) → section_count b ≡ 0 → SameFixed b b
same-fixed b none = record {
  end = refl;
  stays = λ i lt fixed. refl;
  behind = λ i lt full free. absurd (omega (arith, none, lt));
}

no-sections : (b : List ℕ) (bodies : ℕ → List ℕ) → section_count b ≡ 0 → with_bodies b bodies ≡ b
unfolding with_bodies
no-sections b bodies none = rw none refl

pub output-fixed : (m : PathMap) (b out : List ℕ) → IsMapped m b out → SameFixed b out
output-fixed m b out w = by_count (cases_eq (section_count b) 0)
  where
    by_count : (section_count b ≡ 0) ⊎ (section_count b ≡ 0 → ⊥) → SameFixed b out
    by_count (inl none) =
        let here : out ≡ b = output-is m b out w ∙ no-sections b (bodies_of m b out w) none in
        subst (SameFixed b) (sym here) (same-fixed b none)
    by_count (inr some) = laid-fixed m b out (laid-is m b out w some)

pub output-shape : (m : PathMap) (b out : List ℕ) → IsMapped m b out → SameShape b out
output-shape m b out w =
    let k = output-back m b out w in
    record {
      class = k.back.class;
      kind = k.back.kind;
      count = k.back.count;
      index = k.back.names;
      heads = k.back.heads;
      names = λ i lt. section_name-back b (bodies_of m b out w) out i k lt;
    }

-- ### With another build-id

same-head : (s t : Section) → t ≡ s → SameButPlace s t
same-head s t e = subst (SameButPlace s) (sym e) (record { name = refl; kind = refl; flags = refl; addr = refl; link = refl; info = refl; align = refl; entry_size = refl })

other-shape : (b new : List ℕ) (i : ℕ) (d : Descriptor) → IdApart b i d → OtherId b new i d → SameShape b new
other-shape b new i d w s = record {
  class = class-new b new i d w s;
  kind = type-new b new i d w s;
  count = count-new b new i d w s;
  index = index-new b new i d w s;
  heads = λ j lt. same-head (nth_section b j) (nth_section new j) (section-new b new i d j w s);
  names = λ j lt. name-new b new i d j w s;
}

other-end : (b new : List ℕ) (i : ℕ) (d : Descriptor) → IdApart b i d → OtherId b new i d → fixed_end new ≡ fixed_end b
other-end b new i d w s =
    let kind : is_loaded_kind new ≡ is_loaded_kind b = rw (type-new b new i d w s) refl in
    let sections : sections_of new ≡ sections_of b =
    sections-are new ∙ ap (λ (n : ℕ). tabulate (nth_section new) n) (count-new b new i d w s)
    ∙ tabulate-ext (nth_section new) (nth_section b) (section_count b) (λ j lt. section-new b new i d j w s) ∙ sym (sections-are b) in
    end-is new
    ∙ end-same (is_loaded_kind new) (is_loaded_kind b) (class_of new) (class_of b) (e_phnum new) (e_phnum b) (e_phoff new) (e_phoff b) (segments_of new) (segments_of b)
    (alloc_ends (sections_of new)) (alloc_ends (sections_of b)) kind (class-new b new i d w s) (phnum-new b new i d w s) (phoff-new b new i d w s)
    (segments-new b new i d w s) (ap alloc_ends sections)
    ∙ sym (end-is b)

-- so an edited file is like the file, too
chained : (b out new : List ℕ) → SameShape b out → SameShape out new → SameShape b new
chained b out new one two = record {
  class = two.class ∙ one.class;
  kind = two.kind ∙ one.kind;
  count = two.count ∙ one.count;
  index = two.index ∙ one.index;
  heads = λ i lt.
      let h = one.heads i lt in
      let k = two.heads i (rw one.count lt) in
      record {
        name = k.name ∙ h.name;
        kind = k.kind ∙ h.kind;
        flags = k.flags ∙ h.flags;
        addr = k.addr ∙ h.addr;
        link = k.link ∙ h.link;
        info = k.info ∙ h.info;
        align = k.align ∙ h.align;
        entry_size = k.entry_size ∙ h.entry_size;
      };
  names = λ i lt. two.names i (rw one.count lt) ∙ one.names i lt;
}

pub new-shape : (m : PathMap) (b out new : List ℕ) → IsMapped m b out → NewId out new → SameShape b new
new-shape m b out new w (same is) = subst (SameShape b) (sym is) (output-shape m b out w)
new-shape m b out new w (other i d apart differs) = chained b out new (output-shape m b out w) (other-shape out new i d apart differs)

other-fixed : (b out new : List ℕ) (i : ℕ) (d : Descriptor) → SameFixed b out → IdApart out i d → OtherId out new i d → SameFixed b new
other-fixed b out new i d f w s = record {
  end = other-end out new i d w s ∙ f.end;
  stays = λ j lt fixed. section-new out new i d j w s ∙ f.stays j lt fixed;
  behind = λ j lt full free. rw (section-new out new i d j w s) (f.behind j lt full free);
}

pub new-fixed : (m : PathMap) (b out new : List ℕ) → IsMapped m b out → NewId out new → SameFixed b new
new-fixed m b out new w (same is) = subst (SameFixed b) (sym is) (output-fixed m b out w)
new-fixed m b out new w (other i d apart differs) = other-fixed b out new i d (output-fixed m b out w) apart differs

pub output-sections : (m : PathMap) (b out : List ℕ) → IsMapped m b out → SameSections b out
output-sections m b out w = record { shape = output-shape m b out w; fixed = output-fixed m b out w }

pub new-sections : (m : PathMap) (b out new : List ℕ) → IsMapped m b out → NewId out new → SameSections b new
new-sections m b out new w n = record { shape = new-shape m b out new w n; fixed = new-fixed m b out new w n }
