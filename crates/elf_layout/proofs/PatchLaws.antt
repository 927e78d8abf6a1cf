-- Laws of new numbers in fields: what is put into one leaves the others, and none changes the length.
use Rattle.std.proofs.Common.{inl, inr, ◌⊎◌, ◌≡◌, ℕ, suc, ◌+◌, ◌<◌, ◌≤◌, List, ◌∷◌, length, get_or, drop, slice_index, refl, sym, ap, ◌∙◌, arith}
use Rattle.std.proofs.Math.Seq.{drop-cons}
use Rattle.std.proofs.lemmas.Bool.{cases_lt}
use Rattle.std.proofs.lemmas.List.{get_or-take, get_or-drop, get_or_default}
use Rattle.dw_base.specs.Numbers.{with_number}
use Rattle.dw_base.specs.declared.shared.Order.{Order}
use Rattle.dw_base.proofs.NumberLaws.{length-with_number, spelled-with_number, spelled-other, take-with_number, drop-with_number}
use Rattle.elf_layout.specs.Patched.{patch_at, IsApart, PatchFits, PatchesFit, PatchedUpTo, with_patches}
use Rattle.elf_layout.specs.declared.patch.Patch.{Patch}

-- a byte outside of what was put stays
byte-before : (o : Order) (bytes : List ℕ) (place n x k : ℕ) → place + n ≤ length bytes → k + 1 ≤ place → slice_index (with_number o bytes place n x) k ≡ slice_index bytes k
byte-before o bytes place n x k inside before =
    sym (get_or-take (k + 1) (with_number o bytes place n x) k 0 (omega arith))
    ∙ ap (λ (bs : List ℕ). get_or bs k 0) (take-with_number o bytes place n x (k + 1) inside before)
    ∙ get_or-take (k + 1) bytes k 0 (omega arith)

byte-behind : (o : Order) (bytes : List ℕ) (place n x k : ℕ) → place + n ≤ length bytes → place + n ≤ k → slice_index (with_number o bytes place n x) k ≡ slice_index bytes k
byte-behind o bytes place n x k inside behind =
    let same : k + 0 ≡ k = omega arith in
    ap (λ (j : ℕ). get_or (with_number o bytes place n x) j 0) (sym same)
    ∙ sym (get_or-drop k (with_number o bytes place n x) 0 0)
    ∙ ap (λ (bs : List ℕ). get_or bs 0 0) (drop-with_number o bytes place n x k inside behind)
    ∙ get_or-drop k bytes 0 0 ∙ ap (λ (j : ℕ). get_or bytes j 0) same

pub byte-kept : (o : Order) (bytes : List ℕ) (p : Patch) (k : ℕ) → p.at + p.size ≤ length bytes → IsApart p k 1
    → slice_index (with_number o bytes p.at p.size p.value) k ≡ slice_index bytes k
byte-kept o bytes p k inside (inl before) = byte-before o bytes p.at p.size p.value k inside before
byte-kept o bytes p k inside (inr behind) = byte-behind o bytes p.at p.size p.value k inside behind

-- nothing was put yet
pub nothing-put : (o : Order) (list : List Patch) (bytes : List ℕ) → PatchedUpTo o list 0 bytes bytes
nothing-put o list bytes = record { size = refl; reads = λ i lt. absurd (omega (arith, lt)); kept = λ k free. refl }

-- one more field is put
turned : (p q : Patch) → IsApart p q.at q.size → (p.at + p.size ≤ q.at) ⊎ (q.at + q.size ≤ p.at)
turned p q (inl before) = inr before
turned p q (inr behind) = inl behind

put-one : (o : Order) (size n : ℕ) (list : List Patch) (old now : List ℕ) (p : Patch) → p ≡ patch_at list n → PatchesFit size list → length old ≡ size → n < length list
    → PatchedUpTo o list n old now → PatchedUpTo o list (n + 1) old (with_number o now p.at p.size p.value)
put-one o size n list old now p p_is fit len lt u =
    let fits : PatchFits size p = rw p_is (fit.each n lt) in
    let inside : p.at + p.size ≤ length now = omega (arith, fits.inside, u.size, len) in
    record {
      size = length-with_number o now p.at p.size p.value inside ∙ u.size;
      reads = λ i below. elim (cases_lt i n) [
        | inl front ↦
            spelled-other o now p.at p.size p.value (patch_at list i).at (patch_at list i).size inside
            (turned (patch_at list i) p (rw p_is (fit.apart i n front lt)))
            ∙ u.reads i front
        | inr last ↦
            let here : i ≡ n = omega (arith, below, last) in
            rw (here, ← p_is) (spelled-with_number o now p.at p.size p.value inside fits.fits)
      ];
      kept = λ k free.
          byte-kept o now p k inside (rw p_is (free n (omega arith)))
          ∙ u.kept k (λ i front. free i (omega (arith, front)));
    }

-- the field of a number, whatever the list is read with
patch-here : (list : List Patch) (n : ℕ) (p d : Patch) → p ≡ get_or list n d → n < length list → p ≡ patch_at list n
patch-here list n p d is lt = is ∙ get_or_default list n d (record { at = 0; size = 0; value = 0 }) lt

pub put-more : (o : Order) (size n : ℕ) (list : List Patch) (old now new : List ℕ) (p d : Patch) → PatchedUpTo o list n old now → p ≡ get_or list n d → PatchesFit size list
    → length old ≡ size → n < length list → new ≡ with_number o now p.at p.size p.value → PatchedUpTo o list (n + 1) old new
put-more o size n list old now new p d u p_is fit len lt is = rw is (put-one o size n list old now p (patch-here list n p d p_is lt) fit len lt u)

-- the field that is put is one of the section, and its number fits
pub put-fits : (size n : ℕ) (list : List Patch) (now : List ℕ) (p d : Patch) → p ≡ get_or list n d → PatchesFit size list → n < length list → length now ≡ size
    → PatchFits (length now) p
put-fits size n list now p d p_is fit lt len = rw (len, patch-here list n p d p_is lt) (fit.each n lt)

-- the fields that are left, from one on
pub put-step : (o : Order) (n : ℕ) (list : List Patch) (first now new : List ℕ) (p d : Patch) → with_patches o now (drop n list) ≡ with_patches o first list
    → p ≡ get_or list n d → n < length list → new ≡ with_number o now p.at p.size p.value → with_patches o new (drop (n + 1) list) ≡ with_patches o first list
put-step o n list first now new p d before p_is lt is =
    let next : suc n ≡ n + 1 = omega arith in
    let cut : drop n list ≡ p ∷ drop (n + 1) list =
    drop-cons list n d lt ∙ ap (λ (k : ℕ). get_or list n d ∷ drop k list) next ∙ ap (λ (q : Patch). q ∷ drop (n + 1) list) (sym p_is) in
    ap (λ (bs : List ℕ). with_patches o bs (drop (n + 1) list)) is ∙ sym (ap (with_patches o now) cut) ∙ before

pub ruleset put_laws = (nothing-put, put-more, put-fits, put-step)
