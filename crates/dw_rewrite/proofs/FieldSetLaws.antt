-- Fields of paths that are set to their new offsets, and the bytes of a section with them.
use Rattle.std.proofs.Common.{Bool, ◌≡◌, ◌⊎◌, inl, inr, ℕ, ◌+◌, ◌<◌, ◌≤◌, List, [], ◌∷◌, ◌++◌, length, get_or, drop, Option, Some, None, refl, sym, ap, ◌∙◌, subst, arith, append_assoc, append-nil}
use Rattle.std.proofs.lemmas.List.{drop_all}
use Rattle.dw_base.specs.Numbers.{number_bytes, with_number}
use Rattle.dw_base.specs.declared.shared.Order.{Order}
use Rattle.dw_offsets.specs.declared.fields.OffsetField.{OffsetField}
use Rattle.dw_patch.specs.Patching.{IsFree, PatchList, with_patch}
use Rattle.elf_layout.specs.Patched.{with_patches}
use Rattle.elf_layout.specs.declared.patch.Patch.{Patch}
use Rattle.dw_patch.proofs.PatchLaws.{free-more}
use Rattle.dw_unit_fields.specs.Fields.{AllApart, IsApartFrom}
use Rattle.dw_rewrite.specs.Changes.{AreFree, AreSaid, AreSet, FieldSource, IsSet, Says, SaysBy, more_said, none_said, offset_at, offset_bytes, put_at, says_none, says_one, with_all_known, with_known}
use Rattle.dw_rewrite.proofs.ChangedLaws.{field_next, field_there}

-- nothing is set, or one field is
pub none-set : (s : FieldSource) (f : OffsetField) (p : PatchList) → IsSet s f None p p
none-set s f p = record { order = refl; size = refl; more = []; said = says_none; list = sym (append-nil p.list) }

pub one-set : (s : FieldSource) (f : OffsetField) (p q : PatchList) (new value : ℕ) → number_bytes s.order f.size value ≡ offset_bytes s f new → q ≡ with_patch p f.at f.size value
    → IsSet s f (Some new) p q
one-set s f p q new value bytes is = subst (IsSet s f (Some new) p) (sym is) (record {
  order = refl;
  size = refl;
  more = record { at = f.at; size = f.size; value = value } ∷ [];
  said = says_one new (record { at = f.at; size = f.size; value = value }) (record { at = refl; size = refl; bytes = bytes });
  list = refl;
})

-- a field of an offset has bytes, and eight at most
pub some-bytes : (f : OffsetField) → (f.size ≡ 4) ⊎ (f.size ≡ 8) → 0 < f.size
some-bytes f (inl four) = omega (arith, four)
some-bytes f (inr eight) = omega (arith, eight)

pub few-bytes : (f : OffsetField) → (f.size ≡ 4) ⊎ (f.size ≡ 8) → f.size ≤ 8
few-bytes f (inl four) = omega (arith, four)
few-bytes f (inr eight) = omega (arith, eight)

pub ruleset known_rules = (none-set, one-set, some-bytes, few-bytes)

-- fields stay free when another is set
free-one : (patches : List Patch) (s : FieldSource) (f : OffsetField) (new : ℕ) (p : Patch) (fs : List OffsetField) → Says s f new p → AreFree patches fs → IsApartFrom f fs
    → AreFree (patches ++ p ∷ []) fs
free-one patches s f new p [] says h a = tt
free-one patches s f new p (g ∷ gs) says h a = (
  free-more patches p g.at g.size h.0
      (subst (λ (k : ℕ). (g.at + g.size ≤ k) ⊎ (k + p.size ≤ g.at)) (sym says.at)
      (subst (λ (n : ℕ). (g.at + g.size ≤ f.at) ⊎ (f.at + n ≤ g.at)) (sym says.size) a.0)),
  free-one patches s f new p gs says h.1 a.1,
)

free-by : (patches more : List Patch) (s : FieldSource) (f : OffsetField) (known : Option ℕ) (fs : List OffsetField) → SaysBy s f known more → AreFree patches fs → IsApartFrom f fs
    → AreFree (patches ++ more) fs
free-by patches _ s f _ fs says_none h a = subst (λ (ps : List Patch). AreFree ps fs) (sym (append-nil patches)) h
free-by patches _ s f _ fs (says_one new p says) h a = free-one patches s f new p fs says h a

apart-rest : (f : OffsetField) (fs gs : List OffsetField) → IsApartFrom f (fs ++ gs) → IsApartFrom f gs
apart-rest f [] gs h = h
apart-rest f (x ∷ xs) gs h = apart-rest f xs gs h.1

apart-first : (f : OffsetField) (fs gs : List OffsetField) → IsApartFrom f (fs ++ gs) → IsApartFrom f fs
apart-first f [] gs h = tt
apart-first f (x ∷ xs) gs h = (h.0, apart-first f xs gs h.1)

pub apart-front : (fs gs : List OffsetField) → AllApart (fs ++ gs) → AllApart fs
apart-front [] gs h = tt
apart-front (f ∷ fs) gs h = (apart-first f fs gs h.0, apart-front fs gs h.1)

pub apart-behind : (fs gs : List OffsetField) → AllApart (fs ++ gs) → AllApart gs
apart-behind [] gs h = h
apart-behind (f ∷ fs) gs h = apart-behind fs gs h.1

-- where fields are left out no other two have a byte in common
apart-without : (f : OffsetField) (fs gs hs : List OffsetField) → IsApartFrom f (fs ++ (gs ++ hs)) → IsApartFrom f (fs ++ hs)
apart-without f [] gs hs h = apart-rest f gs hs h
apart-without f (x ∷ xs) gs hs h = (h.0, apart-without f xs gs hs h.1)

pub apart-skip : (fs gs hs : List OffsetField) → AllApart (fs ++ (gs ++ hs)) → AllApart (fs ++ hs)
apart-skip [] gs hs h = apart-behind gs hs h
apart-skip (f ∷ fs) gs hs h = (apart-without f fs gs hs h.0, apart-skip fs gs hs h.1)

-- and when all others are set
pub free-behind : (s : FieldSource) (known : Bool → ℕ → Option ℕ) (patches more : List Patch) (fs gs : List OffsetField) → AreSaid s known fs more → AllApart (fs ++ gs) → AreFree patches gs
    → AreFree (patches ++ more) gs
free-behind s known patches _ [] gs none_said all h = subst (λ (ps : List Patch). AreFree ps gs) (sym (append-nil patches)) h
free-behind s known patches _ (f ∷ fs) gs (more_said g hs ps qs says rest) all h =
    subst (λ (xs : List Patch). AreFree xs gs) (append_assoc patches ps qs)
    (free-behind s known (patches ++ ps) qs fs gs rest all.1 (free-by patches ps s f (known f.path (offset_at s f)) gs says h (apart-rest f fs gs all.0)))

pub free-first : (fs : List OffsetField) → AreFree [] fs
free-first [] = tt
free-first (f ∷ fs) = (record { apart = λ i lt. absurd (omega (arith, lt)) }, free-first fs)

-- the fields up to one are set
pub record SetPass (s : FieldSource) (known : Bool → ℕ → Option ℕ) (fields : List OffsetField) (old now : PatchList) (i : ℕ) : Type 0 where
  pub order : now.order ≡ old.order
  pub size : now.size ≡ old.size
  pub done : List Patch
  pub list : now.list ≡ old.list ++ done
  pub said : (more : List Patch) → AreSaid s known (drop i fields) more → AreSaid s known fields (done ++ more)
  pub free : AreFree now.list (drop i fields)
  pub apart : AllApart (drop i fields)

pub pass-start : (s : FieldSource) (known : Bool → ℕ → Option ℕ) (fields : List OffsetField) (p : PatchList) → AreFree p.list fields → AllApart fields → SetPass s known fields p p 0
pass-start s known fields p free apart =
    record { order = refl; size = refl; done = []; list = sym (append-nil p.list); said = λ more said. said; free = free; apart = apart }

pub pass-free : (s : FieldSource) (known : Bool → ℕ → Option ℕ) (fields : List OffsetField) (old now : PatchList) (i : ℕ) (f : OffsetField) → SetPass s known fields old now i
    → i < length fields → f ≡ get_or fields i f → IsFree now.list f.at f.size
pass-free s known fields old now i f p lt is =
    let free : AreFree now.list (f ∷ drop (i + 1) fields) = subst (AreFree now.list) (field_next fields i f lt is) p.free in
    free.0

pass-step : (s : FieldSource) (known : Bool → ℕ → Option ℕ) (fields : List OffsetField) (old now new : PatchList) (i : ℕ) (f : OffsetField) → SetPass s known fields old now i
    → i < length fields → f ≡ get_or fields i f → IsSet s f (known f.path (offset_at s f)) now new → SetPass s known fields old new (i + 1)
pass-step s known fields old now new i f p lt is h =
    let cut : drop i fields ≡ f ∷ drop (i + 1) fields = field_next fields i f lt is in
    let free : AreFree now.list (f ∷ drop (i + 1) fields) = subst (AreFree now.list) cut p.free in
    let apart : AllApart (f ∷ drop (i + 1) fields) = subst AllApart cut p.apart in
    record {
      order = h.order ∙ p.order;
      size = h.size ∙ p.size;
      done = p.done ++ h.more;
      list = h.list ∙ ap (λ (ps : List Patch). ps ++ h.more) p.list ∙ append_assoc old.list p.done h.more;
      said = λ more said.
          subst (AreSaid s known fields) (sym (append_assoc p.done h.more more))
          (p.said (h.more ++ more) (subst (λ (fs : List OffsetField). AreSaid s known fs (h.more ++ more)) (sym cut) (more_said f (drop (i + 1) fields) h.more more h.said said)));
      free = subst (λ (ps : List Patch). AreFree ps (drop (i + 1) fields)) (sym h.list)
          (free-by now.list h.more s f (known f.path (offset_at s f)) (drop (i + 1) fields) h.said free.1 apart.0);
      apart = apart.1;
    }

pub pass-more : (s : FieldSource) (known : Bool → ℕ → Option ℕ) (fields : List OffsetField) (old now new : PatchList) (i : ℕ) (f : OffsetField) (k : Option ℕ)
    → SetPass s known fields old now i → i < length fields → f ≡ get_or fields i f → k ≡ known f.path (offset_at s f) → IsSet s f k now new
    → SetPass s known fields old new (i + 1)
pass-more s known fields old now new i f k p lt is known_is h =
    pass-step s known fields old now new i f p lt is (subst (λ (x : Option ℕ). IsSet s f x now new) known_is h)

pub pass-end : (s : FieldSource) (known : Bool → ℕ → Option ℕ) (fields : List OffsetField) (old now : PatchList) (i : ℕ) → SetPass s known fields old now i
    → length fields ≤ i → AreSet s known fields old now
pass-end s known fields old now i p end = record {
  order = p.order;
  size = p.size;
  more = p.done;
  said = subst (AreSaid s known fields) (append-nil p.done)
      (p.said [] (subst (λ (fs : List OffsetField). AreSaid s known fs []) (sym (drop_all i fields end)) none_said));
  list = p.list;
}

pub ruleset set_rules = (field_there, pass-start, pass-end)

-- what is put is what is known, field by field
put-append : (order : Order) (out : List ℕ) (xs ys : List Patch) → with_patches order out (xs ++ ys) ≡ with_patches order (with_patches order out xs) ys
put-append order out [] ys = refl
put-append order out (x ∷ xs) ys = put-append order (with_number order out x.at x.size x.value) xs ys

put-one : (s : FieldSource) (out : List ℕ) (f : OffsetField) (new : ℕ) (p : Patch) → Says s f new p
    → with_number s.order out p.at p.size p.value ≡ put_at out f.at f.size (offset_bytes s f new)
unfolding with_number
put-one s out f new p says =
    ap (put_at out p.at p.size) says.bytes ∙ ap (λ (k : ℕ). put_at out k p.size (offset_bytes s f new)) says.at
    ∙ ap (λ (n : ℕ). put_at out f.at n (offset_bytes s f new)) says.size

put-first : (s : FieldSource) (out : List ℕ) (f : OffsetField) (known : Option ℕ) (ps : List Patch) → SaysBy s f known ps → with_patches s.order out ps ≡ with_known s out f known
put-first s out f _ _ says_none = refl
put-first s out f _ _ (says_one new p says) = put-one s out f new p says

put-known : (s : FieldSource) (out : List ℕ) (known : Bool → ℕ → Option ℕ) (fs : List OffsetField) (ps : List Patch) → AreSaid s known fs ps
    → with_patches s.order out ps ≡ with_all_known s known out fs
put-known s out known [] _ none_said = refl
put-known s out known (f ∷ fs) _ (more_said g hs ps qs says rest) =
    put-append s.order out ps qs
    ∙ ap (λ (bs : List ℕ). with_patches s.order bs qs) (put-first s out f (known f.path (offset_at s f)) ps says)
    ∙ put-known s (with_known s out f (known f.path (offset_at s f))) known fs qs rest

-- the same of three lists of fields, where nothing was set before
pub all-put : (o l t : FieldSource) (out new : List ℕ) (ks kl kt : Bool → ℕ → Option ℕ) (fs gs hs : List OffsetField) (p q r w : PatchList) → p.order ≡ o.order → l.order ≡ o.order
    → t.order ≡ o.order → p.list ≡ [] → AreSet o ks fs p q → AreSet l kl gs q r → AreSet t kt hs r w
    → new ≡ with_patches w.order out w.list → new ≡ with_all_known t kt (with_all_known l kl (with_all_known o ks out fs) gs) hs
all-put o l t out new ks kl kt fs gs hs p q r w order same_l same_t none first second third is =
    let order_is : w.order ≡ o.order = third.order ∙ second.order ∙ first.order ∙ order in
    let fp : List Patch = first.more in
    let gp : List Patch = second.more in
    let hp : List Patch = third.more in
    let list_is : w.list ≡ (first.more ++ second.more) ++ third.more =
    third.list ∙ ap (λ (ps : List Patch). ps ++ third.more)
    (second.list ∙ ap (λ (ps : List Patch). ps ++ second.more) (first.list ∙ ap (λ (ps : List Patch). ps ++ first.more) none)) in
    is ∙ ap (λ (ps : List Patch). with_patches w.order out ps) list_is
    ∙ ap (λ (x : Order). with_patches x out ((first.more ++ second.more) ++ third.more)) order_is
    ∙ put-append o.order out (fp ++ gp) hp
    ∙ ap (λ (bs : List ℕ). with_patches o.order bs hp) (put-append o.order out fp gp)
    ∙ ap (λ (bs : List ℕ). with_patches o.order (with_patches o.order bs gp) hp) (put-known o out ks fs fp first.said)
    ∙ ap (λ (x : Order). with_patches o.order (with_patches x (with_all_known o ks out fs) gp) hp) (sym same_l)
    ∙ ap (λ (bs : List ℕ). with_patches o.order bs hp) (put-known l (with_all_known o ks out fs) kl gs gp second.said)
    ∙ ap (λ (x : Order). with_patches x (with_all_known l kl (with_all_known o ks out fs) gs) hp) (sym same_t)
    ∙ put-known t (with_all_known l kl (with_all_known o ks out fs) gs) kt hs hp third.said
