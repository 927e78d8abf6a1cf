-- The unit sections of a view, found one after another by their two names.
use Rattle.std.proofs.Common.{Bool, true, false, ◌≡◌, ◌⊎◌, inl, inr, ℕ, zero, suc, ◌+◌, ◌-◌, ◌≤◌, ◌<◌, ◌==◌, ◌&&◌, List, [], ◌∷◌, ◌++◌, map, length, get_or, slice_get, drop, Option, Some, None, cond, refl, sym, ap, ◌∙◌, subst, arith, append_assoc, append-nil, if◌then◌else◌}
use Rattle.std.specs.Prelude.{nat_le, nat_lt}
use Rattle.std.specs.Bool.{⊤}
use Rattle.std.proofs.lemmas.Bool.{and_parts, leb-true, cases_eq}
use Rattle.std.proofs.lemmas.Bool.Decides.{nat_tests}
use Rattle.std.proofs.lemmas.List.{drop-drop, map-append}
use Rattle.std.proofs.lemmas.Option.{slice_get-get_or, slice_get_past}
use Rattle.dw_base.specs.DebugSections.{debug_section, name_of}
use Rattle.dw_base.specs.FileViews.{View, ViewSection, is_filled, first_filled, section_after, section_named, sections_named, cells_of}
use Rattle.dw_base.specs.Texts.{same_text}
use Rattle.dw_base.specs.UnitHeaders.{UnitSection, SectionKind, in_info, in_types}
use Rattle.dw_base.specs.ViewData.{unit_kind, unit_section, unit_sections_from, unit_sections, debug_data}
use Rattle.dw_base.specs.declared.debug_sections.DebugSection.{DebugSection}
use Rattle.dw_base.specs.declared.debug_sections.DebugSection.TheVariants.{Info, Types, Abbrev, Str, LineStr, StrOffsets, Line, Macro, Names}
use Rattle.dw_base.proofs.DebugSectionLaws.{debug_section-name, debug_section-named}
use Rattle.dw_base.proofs.FileViewLaws.{first-named, next-named, section_after-within}
use Rattle.dw_base.proofs.TextLaws.{same_text-true, same_text-from}
use Rattle.dw_entries.specs.ViewUnits.{IsUnitSection, unit_section_at}
use Rattle.dw_entries.proofs.UnitSectionLaws.{is-of-view}
use Rattle.dw_entries.proofs.HasUnitLaws.{section-at, is-unit_section}
use Rattle.dw_entries.specs.SectionOrder.{first_of, place_after, EachSection, AreSections}

-- a section of one of the two names is a unit section
one-unit : (i : ℕ) (s : ViewSection) (kind : SectionKind) (has : Bool) (found : Option SectionKind) → has ≡ true → found ≡ Some kind
    → (if has then unit_section i s found else []) ≡ record { number = i; kind = kind; contents = cells_of s } ∷ []
one-unit i s kind has found h e = rw (h, e) refl

filled-unit : (i : ℕ) (s : ViewSection) (x : DebugSection) (kind : SectionKind) → unit_kind (Some x) ≡ Some kind → is_filled (name_of x) s ≡ true
    → (if s.has_bytes then unit_section i s (unit_kind (debug_section s.name)) else []) ≡ record { number = i; kind = kind; contents = cells_of s } ∷ []
filled-unit i s x kind k is =
    let parts = and_parts s.has_bytes (same_text s.name (name_of x)) is in
    one-unit i s kind s.has_bytes (unit_kind (debug_section s.name)) parts.0
    (ap (λ (t : List ℕ). unit_kind (debug_section t)) (same_text-true s.name (name_of x) parts.1) ∙ ap unit_kind (debug_section-name x) ∙ k)

-- and one of another isn't
other-unit : (i : ℕ) (s : ViewSection) → is_filled (name_of Info) s ≡ false → is_filled (name_of Types) s ≡ false
    → (if s.has_bytes then unit_section i s (unit_kind (debug_section s.name)) else []) ≡ []
other-unit i s info types = by_bytes s.has_bytes info types
  where
    clash : (x : DebugSection) → debug_section s.name ≡ Some x → same_text s.name (name_of x) ≡ false → ⊥
    clash x e other =
        let same : same_text s.name (name_of x) ≡ true = same_text-from s.name (name_of x) (debug_section-named s.name x e) in
        cc

    by_name : (o : Option DebugSection) → debug_section s.name ≡ o → same_text s.name (name_of Info) ≡ false → same_text s.name (name_of Types) ≡ false
        → unit_section i s (unit_kind o) ≡ []
    by_name None e a b = refl
    by_name (Some Info) e a b = absurd (clash Info e a)
    by_name (Some Types) e a b = absurd (clash Types e b)
    by_name (Some Abbrev) e a b = refl
    by_name (Some Str) e a b = refl
    by_name (Some LineStr) e a b = refl
    by_name (Some StrOffsets) e a b = refl
    by_name (Some Line) e a b = refl
    by_name (Some Macro) e a b = refl
    by_name (Some Names) e a b = refl

    by_bytes : (has : Bool) → (has && same_text s.name (name_of Info)) ≡ false → (has && same_text s.name (name_of Types)) ≡ false
        → (if has then unit_section i s (unit_kind (debug_section s.name)) else []) ≡ []
    by_bytes false a b = refl
    by_bytes true a b = by_name (debug_section s.name) refl a b

-- the first section of a name above a number, where the first above an earlier one is known
abbrev known_after : View → List ℕ → Option ℕ → ℕ → Option ℕ
known_after v name None n = None
known_after v name (Some k) n = if k == n then section_after v name n else Some k

-- a number isn't below another, where there is one
abbrev AtLeast : ℕ → Option ℕ → Type 0
AtLeast i None = ⊤
AtLeast i (Some m) = i ≤ m

filled-above : (name : List ℕ) (j : ℕ) (ts : List ViewSection) (o : Option ℕ) → first_filled name j ts ≡ o → AtLeast j o
filled-above name j [] o e = subst (AtLeast j) e tt
filled-above name j (t ∷ ts) o e = by_first (is_filled name t) (λ f. filled-above name (suc j) ts o f) e
  where
    weaker : (x : Option ℕ) → AtLeast (suc j) x → AtLeast j x
    weaker None h = tt
    weaker (Some m) h = omega (arith, h)

    by_first : (b : Bool) → (first_filled name (suc j) ts ≡ o → AtLeast (suc j) o) → (if b then Some j else first_filled name (suc j) ts) ≡ o → AtLeast j o
    by_first true further e = subst (AtLeast j) e (let le : j ≤ j = omega arith in le)
    by_first false further e = weaker o (further e)

first-left : (i : ℕ) (b : Option ℕ) → AtLeast i b → first_of (Some i) b ≡ Some i
first-left i None le = refl
first-left i (Some m) le = by_test (nat_le i m) refl
  where
    by_test : (t : Bool) → nat_le i m ≡ t → cond t (Some i) (Some m) ≡ Some i
    by_test true e = refl
    by_test false e = absurd (grind (arith, nat_tests, le))

first-right : (i : ℕ) (a : Option ℕ) → AtLeast (suc i) a → first_of a (Some i) ≡ Some i
first-right i None le = refl
first-right i (Some m) le = by_test (nat_le m i) refl
  where
    by_test : (t : Bool) → nat_le m i ≡ t → cond t (Some m) (Some i) ≡ Some i
    by_test true e = let less : m ≤ i = leb-true m i e in absurd (omega (arith, le, less))
    by_test false e = refl

-- the next unit section from a number on
pub record NextSection (secs : List ViewSection) (i : ℕ) (ss : List ViewSection) (n : ℕ) : Type 0 where
  pub section : UnitSection
  pub is : unit_sections_from i ss ≡ section ∷ unit_sections_from (suc n) (drop (suc n) secs)
  pub number : section.number ≡ n
  pub above : i ≤ n

abbrev pub Nexts : List ViewSection → ℕ → List ViewSection → Option ℕ → Type 0
Nexts secs i ss None = unit_sections_from i ss ≡ []
Nexts secs i ss (Some n) = NextSection secs i ss n

next-here : (secs : List ViewSection) (i : ℕ) (s : ViewSection) (ss : List ViewSection) (x : DebugSection) (kind : SectionKind) → unit_kind (Some x) ≡ Some kind
    → is_filled (name_of x) s ≡ true → ss ≡ drop (suc i) secs → NextSection secs i (s ∷ ss) i
next-here secs i s ss x kind k is rest = record {
  section = record { number = i; kind = kind; contents = cells_of s };
  is = ap (λ (zs : List UnitSection). zs ++ unit_sections_from (suc i) ss) (filled-unit i s x kind k is)
      ∙ ap (λ (ts : List ViewSection). record { number = i; kind = kind; contents = cells_of s } ∷ unit_sections_from (suc i) ts) rest;
  number = refl;
  above = omega arith;
}

next-further : (secs : List ViewSection) (i : ℕ) (s : ViewSection) (ss : List ViewSection) (o : Option ℕ) → is_filled (name_of Info) s ≡ false
    → is_filled (name_of Types) s ≡ false → Nexts secs (suc i) ss o → Nexts secs i (s ∷ ss) o
next-further secs i s ss None info types h =
    ap (λ (zs : List UnitSection). zs ++ unit_sections_from (suc i) ss) (other-unit i s info types) ∙ h
next-further secs i s ss (Some n) info types h = record {
  section = h.section;
  is = ap (λ (zs : List UnitSection). zs ++ unit_sections_from (suc i) ss) (other-unit i s info types) ∙ h.is;
  number = h.number;
  above = (let le = h.above in omega (arith, le));
}

tail-is : (secs : List ViewSection) (i : ℕ) (s : ViewSection) (ss : List ViewSection) → s ∷ ss ≡ drop i secs → ss ≡ drop (suc i) secs
tail-is secs i s ss e =
    let one : i + 1 ≡ suc i = omega arith in
    ap (drop 1) e ∙ drop-drop 1 i secs ∙ ap (λ (n : ℕ). drop n secs) one

nexts : (secs : List ViewSection) (i : ℕ) (ss : List ViewSection) (a b : Option ℕ) → ss ≡ drop i secs → first_filled (name_of Info) i ss ≡ a
    → first_filled (name_of Types) i ss ≡ b → Nexts secs i ss (first_of a b)
nexts secs i [] a b e ea eb =
    subst (λ (x : Option ℕ). Nexts secs i [] (first_of x b)) ea (subst (λ (y : Option ℕ). Nexts secs i [] (first_of None y)) eb refl)
nexts secs i (s ∷ ss) a b e ea eb =
    by_tests (is_filled (name_of Info) s) (is_filled (name_of Types) s) refl refl
    (λ f g. nexts secs (suc i) ss a b (tail-is secs i s ss e) f g) ea eb
  where
    none-below : (y : Bool) (name : List ℕ) (o : Option ℕ) → (if y then Some i else first_filled name (suc i) ss) ≡ o → AtLeast i o
    none-below true name o f = subst (AtLeast i) f (let le : i ≤ i = omega arith in le)
    none-below false name o f = weaker o (filled-above name (suc i) ss o f)
      where
        weaker : (x : Option ℕ) → AtLeast (suc i) x → AtLeast i x
        weaker None h = tt
        weaker (Some m) h = omega (arith, h)

    by_tests : (x y : Bool) → is_filled (name_of Info) s ≡ x → is_filled (name_of Types) s ≡ y
        → (first_filled (name_of Info) (suc i) ss ≡ a → first_filled (name_of Types) (suc i) ss ≡ b → Nexts secs (suc i) ss (first_of a b))
        → (if x then Some i else first_filled (name_of Info) (suc i) ss) ≡ a → (if y then Some i else first_filled (name_of Types) (suc i) ss) ≡ b
        → Nexts secs i (s ∷ ss) (first_of a b)
    by_tests true y isx isy further f g =
        let first : first_of a b ≡ Some i = ap (λ (z : Option ℕ). first_of z b) (sym f) ∙ first-left i b (none-below y (name_of Types) b g) in
        subst (Nexts secs i (s ∷ ss)) (sym first) (next-here secs i s ss Info in_info refl isx (tail-is secs i s ss e))
    by_tests false true isx isy further f g =
        let first : first_of a b ≡ Some i =
        ap (first_of a) (sym g) ∙ first-right i a (filled-above (name_of Info) (suc i) ss a f) in
        subst (Nexts secs i (s ∷ ss)) (sym first) (next-here secs i s ss Types in_types refl isy (tail-is secs i s ss e))
    by_tests false false isx isy further f g = next-further secs i s ss (first_of a b) isx isy (further f g)

-- a section that was found stays the first of its name up to it
later-one : (name : List ℕ) (secs : List ViewSection) (i : ℕ) (ss : List ViewSection) (o : Option ℕ) → ss ≡ drop i secs → first_filled name i ss ≡ o → AtLeast (suc i) o
    → first_filled name (suc i) (drop (suc i) secs) ≡ o
later-one name secs i [] o e f le =
    let one : i + 1 ≡ suc i = omega arith in
    let none : [] ≡ drop (suc i) secs = ap (drop 1) e ∙ drop-drop 1 i secs ∙ ap (λ (n : ℕ). drop n secs) one in
    ap (first_filled name (suc i)) (sym none) ∙ f
later-one name secs i (s ∷ ss) o e f le = by_first (is_filled name s) f
  where
    by_first : (b : Bool) → (if b then Some i else first_filled name (suc i) ss) ≡ o → first_filled name (suc i) (drop (suc i) secs) ≡ o
    by_first true f =
        let past : suc i ≤ i = subst (AtLeast (suc i)) (sym f) le in
        absurd (omega (arith, past))
    by_first false f = ap (first_filled name (suc i)) (sym (tail-is secs i s ss e)) ∙ f

later : (name : List ℕ) (secs : List ViewSection) (k i : ℕ) (o : Option ℕ) → first_filled name i (drop i secs) ≡ o → AtLeast (k + i) o
    → first_filled name (k + i) (drop (k + i) secs) ≡ o
later name secs zero i o f le =
    let same : i ≡ zero + i = omega arith in
    subst (λ (n : ℕ). first_filled name n (drop n secs) ≡ o) same f
later name secs (suc k) i o f le =
    let next : k + suc i ≡ suc k + i = omega arith in
    subst (λ (n : ℕ). first_filled name n (drop n secs) ≡ o) next
    (later name secs k (suc i) o (later-one name secs i (drop i secs) o refl f (below o le)) (subst (λ (n : ℕ). AtLeast n o) (sym next) le))
  where
    below : (x : Option ℕ) → AtLeast (suc k + i) x → AtLeast (suc i) x
    below None h = tt
    below (Some m) h = omega (arith, h)

-- where a pass over the unit sections stands: the numbers so far are of the sections in front of a place
pub record SectionsPass (v : View) (info types : Option ℕ) (numbers : List ℕ) : Type 0 where
  pub after : ℕ
  pub done : List UnitSection
  pub info_is : first_filled (name_of Info) (suc after) (drop (suc after) v.sections) ≡ info
  pub types_is : first_filled (name_of Types) (suc after) (drop (suc after) v.sections) ≡ types
  pub split : (debug_data v).found Info ≡ done ++ unit_sections_from (suc after) (drop (suc after) v.sections)
  pub each : EachSection v numbers
  pub done_is : done ≡ map (unit_section_at v) numbers

pass-none : (v : View) (info types : Option ℕ) (numbers : List ℕ) → info ≡ section_named v (name_of Info)
    → types ≡ section_named v (name_of Types) → numbers ≡ [] → SectionsPass v info types numbers
unfolding section_named section_after debug_data unit_sections
pass-none v info types numbers i t none =
    subst (SectionsPass v info types) (sym none) (record {
      after = 0;
      done = [];
      info_is = sym i;
      types_is = sym t;
      split = refl;
      each = tt;
      done_is = refl;
    })

-- the next of them
pass-next : (v : View) (info types : Option ℕ) (numbers : List ℕ) (n : ℕ) → (p : SectionsPass v info types numbers) → Some n ≡ first_of info types
    → NextSection v.sections (suc p.after) (drop (suc p.after) v.sections) n
pass-next v info types numbers n p e =
    subst (Nexts v.sections (suc p.after) (drop (suc p.after) v.sections)) (sym e)
    (nexts v.sections (suc p.after) (drop (suc p.after) v.sections) info types refl p.info_is p.types_is)

next-split : (v : View) (info types : Option ℕ) (numbers : List ℕ) (n : ℕ) → (p : SectionsPass v info types numbers) → (e : Some n ≡ first_of info types)
    → (debug_data v).found Info ≡ p.done ++ (pass-next v info types numbers n p e).section ∷ unit_sections_from (suc n) (drop (suc n) v.sections)
next-split v info types numbers n p e = p.split ∙ ap (λ (zs : List UnitSection). p.done ++ zs) (pass-next v info types numbers n p e).is

data-units : (v : View) → (debug_data v).found Info ≡ unit_sections v
unfolding debug_data
data-units v = refl

pass-there : (v : View) (info types : Option ℕ) (numbers : List ℕ) (n : ℕ) → SectionsPass v info types numbers → Some n ≡ first_of info types → IsUnitSection v n
pass-there v info types numbers n p e =
    let x = pass-next v info types numbers n p e in
    subst (IsUnitSection v) x.number (is-unit_section v p.done (unit_sections_from (suc n) (drop (suc n) v.sections)) x.section (sym (data-units v) ∙ next-split v info types numbers n p e))

each-append : (v : View) (ns : List ℕ) (n : ℕ) → EachSection v ns → IsUnitSection v n → EachSection v (ns ++ n ∷ [])
each-append v [] n all one = (one, tt)
each-append v (m ∷ ms) n all one = (all.0, each-append v ms n all.1 one)

-- of two numbers the smaller is at most each
first-least : (a b : Option ℕ) (n : ℕ) → Some n ≡ first_of a b → AtLeast n a × AtLeast n b
first-least None None n e = (tt, tt)
first-least None (Some m) n e = let same : n ≡ m = cc in (tt, omega (arith, same))
first-least (Some k) None n e = let same : n ≡ k = cc in (omega (arith, same), tt)
first-least (Some k) (Some m) n e = by_test (nat_le k m) refl e
  where
    by_test : (t : Bool) → nat_le k m ≡ t → Some n ≡ cond t (Some k) (Some m) → (n ≤ k) × (n ≤ m)
    by_test true test e = let same : n ≡ k = cc in let le : k ≤ m = leb-true k m test in (omega (arith, same), omega (arith, same, le))
    by_test false test e = let same : n ≡ m = cc in let less : m < k = grind (arith, nat_tests, test) in (omega (arith, same, less), omega (arith, same))

-- what is known behind a section
known-is : (v : View) (name : List ℕ) (after n : ℕ) (o : Option ℕ) → suc after ≤ n → first_filled name (suc after) (drop (suc after) v.sections) ≡ o → AtLeast n o
    → first_filled name (suc n) (drop (suc n) v.sections) ≡ known_after v name o n
unfolding section_after
known-is v name after n None le f least =
    let k : suc n ≡ (n - after) + suc after = omega (arith, le) in
    subst (λ (i : ℕ). first_filled name i (drop i v.sections) ≡ None) (sym k) (later name v.sections (n - after) (suc after) None f tt)
known-is v name after n (Some m) le f least = by_same (cases_eq m n)
  where
    by_same : (m ≡ n) ⊎ (m ≡ n → ⊥) → first_filled name (suc n) (drop (suc n) v.sections) ≡ (if m == n then first_filled name (suc n) (drop (suc n) v.sections) else Some m)
    by_same (inl same) =
        let test : (m == n) ≡ true = grind (arith, nat_tests, same) in
        rw test refl
    by_same (inr other) =
        let test : (m == n) ≡ false = grind (arith, nat_tests, other) in
        let k : suc n ≡ (n - after) + suc after = omega (arith, le) in
        let least_ : n ≤ m = least in
        let more : (n - after) + suc after ≤ m = grind (arith, least_, other, le) in
        let rest : first_filled name (suc n) (drop (suc n) v.sections) ≡ Some m =
        subst (λ (i : ℕ). first_filled name i (drop i v.sections) ≡ Some m) (sym k) (later name v.sections (n - after) (suc after) (Some m) f more) in
        rest ∙ rw test refl

-- one section more
pass-more : (v : View) (info types next_info next_types : Option ℕ) (numbers : List ℕ) (n : ℕ)
    → SectionsPass v info types numbers → Some n ≡ first_of info types
    → next_info ≡ known_after v (name_of Info) info n → next_types ≡ known_after v (name_of Types) types n
    → SectionsPass v next_info next_types (numbers ++ n ∷ [])
pass-more v info types next_info next_types numbers n p e i t =
    let x = pass-next v info types numbers n p e in
    let least = first-least info types n e in
    let own : unit_section_at v n ≡ x.section =
    ap (unit_section_at v) (sym x.number)
    ∙ section-at v p.done (unit_sections_from (suc n) (drop (suc n) v.sections)) x.section (sym (data-units v) ∙ next-split v info types numbers n p e) in
    record {
      after = n;
      done = p.done ++ x.section ∷ [];
      info_is = known-is v (name_of Info) p.after n info x.above p.info_is least.0 ∙ sym i;
      types_is = known-is v (name_of Types) p.after n types x.above p.types_is least.1 ∙ sym t;
      split = next-split v info types numbers n p e ∙ sym (append_assoc p.done (x.section ∷ []) (unit_sections_from (suc n) (drop (suc n) v.sections)));
      each = each-append v numbers n p.each (pass-there v info types numbers n p e);
      done_is =
          ap (λ (zs : List UnitSection). zs ++ x.section ∷ []) p.done_is ∙ ap (λ (z : UnitSection). map (unit_section_at v) numbers ++ z ∷ []) (sym own)
          ∙ sym (map-append (unit_section_at v) numbers (n ∷ []));
    }

-- the end
pass-ends : (v : View) (info types : Option ℕ) (numbers : List ℕ) → SectionsPass v info types numbers → None ≡ first_of info types → AreSections v numbers
pass-ends v info types numbers p e =
    let none : unit_sections_from (suc p.after) (drop (suc p.after) v.sections) ≡ [] =
    subst (Nexts v.sections (suc p.after) (drop (suc p.after) v.sections)) (sym e)
    (nexts v.sections (suc p.after) (drop (suc p.after) v.sections) info types refl p.info_is p.types_is) in
    record {
      each = p.each;
      all = p.split ∙ ap (λ (zs : List UnitSection). p.done ++ zs) none ∙ append-nil p.done ∙ p.done_is;
    }

-- how many sections are left
abbrev pub sections_left : View → Option ℕ → ℕ
sections_left v None = 0
sections_left v (Some n) = suc (length v.sections) - n

known-within : (v : View) (name : List ℕ) (o : Option ℕ) (n m : ℕ) → AtLeast n o → known_after v name o n ≡ Some m → n < m
known-within v name None n m least e = absurd cc
known-within v name (Some k) n m least e = by_same (k == n) refl e
  where
    by_same : (t : Bool) → (k == n) ≡ t → (if t then section_after v name n else Some k) ≡ Some m → n < m
    by_same true test e = (section_after-within v name n m e).0
    by_same false test e =
        let same : k ≡ m = cc in
        let le : n ≤ k = least in
        grind (arith, nat_tests, test, le, same)

left-less : (v : View) (info types next_info next_types : Option ℕ) (n : ℕ) → Some n ≡ first_of info types → n < length v.sections
    → next_info ≡ known_after v (name_of Info) info n → next_types ≡ known_after v (name_of Types) types n
    → sections_left v (first_of next_info next_types) < sections_left v (first_of info types)
left-less v info types next_info next_types n e lt i t =
    let least = first-least info types n e in
    let now : sections_left v (first_of info types) ≡ suc (length v.sections) - n = ap (sections_left v) (sym e) in
    let less : sections_left v (first_of next_info next_types) < suc (length v.sections) - n =
    by_next next_info next_types (λ m f. known-within v (name_of Info) info n m least.0 (sym i ∙ f)) (λ m f. known-within v (name_of Types) types n m least.1 (sym t ∙ f)) in
    omega (arith, now, less)
  where
    above : (a b : Option ℕ) (m : ℕ) → ((k : ℕ) → a ≡ Some k → n < k) → ((k : ℕ) → b ≡ Some k → n < k) → first_of a b ≡ Some m → n < m
    above None b m f g h = g m h
    above (Some k) None m f g h = f m h
    above (Some k) (Some j) m f g h = by_test (nat_le k j) h
      where
        by_test : (y : Bool) → cond y (Some k) (Some j) ≡ Some m → n < m
        by_test true h = let same : k ≡ m = cc in let less = f k refl in omega (arith, same, less)
        by_test false h = let same : j ≡ m = cc in let less = g j refl in omega (arith, same, less)

    by_first : (o : Option ℕ) → ((m : ℕ) → o ≡ Some m → n < m) → sections_left v o < suc (length v.sections) - n
    by_first None f = omega (arith, lt)
    by_first (Some m) f = let more = f m refl in omega (arith, lt, more)

    by_next : (a b : Option ℕ) → ((k : ℕ) → a ≡ Some k → n < k) → ((k : ℕ) → b ≡ Some k → n < k) → sections_left v (first_of a b) < suc (length v.sections) - n
    by_next a b f g = by_first (first_of a b) (λ m h. above a b m f g h)

left-pass : (v : View) (info types next_info next_types : Option ℕ) (numbers : List ℕ) (n : ℕ) → SectionsPass v info types numbers → Some n ≡ first_of info types
    → next_info ≡ known_after v (name_of Info) info n → next_types ≡ known_after v (name_of Types) types n
    → sections_left v (first_of next_info next_types) < sections_left v (first_of info types)
left-pass v info types next_info next_types numbers n p e i t =
    left-less v info types next_info next_types n e (is-of-view v n (pass-there v info types numbers n p e)).there i t

-- the number at the place behind is the next of its name
after-known : (v : View) (name list : List ℕ) (place n : ℕ) → list ≡ sections_named v name
    → slice_get list (place_after list place n) ≡ known_after v name (slice_get list place) n
after-known v name list place n are = by_below (nat_lt place (length list)) refl
  where
    by_same : (x : Bool) → (get_or list place 0 == n) ≡ x → slice_get list place ≡ Some (get_or list place 0)
        → slice_get list (if x then place + 1 else place) ≡ (if x then section_after v name n else Some (get_or list place 0))
    by_same true e read =
        let next : suc place ≡ place + 1 = omega arith in
        let same : get_or list place 0 ≡ n = grind (arith, nat_tests, e) in
        ap (slice_get list) (sym next) ∙ ap (λ (l : List ℕ). slice_get l (suc place)) are
        ∙ next-named v name place n (ap (λ (l : List ℕ). slice_get l place) (sym are) ∙ read ∙ ap (λ (k : ℕ). Some k) same)
    by_same false e read = read

    by_below : (b : Bool) → nat_lt place (length list) ≡ b
        → slice_get list (if b && get_or list place 0 == n then place + 1 else place) ≡ known_after v name (slice_get list place) n
    by_below true e =
        let lt : place < length list = grind (arith, nat_tests, e) in
        let read = slice_get-get_or list place 0 lt in
        by_same (get_or list place 0 == n) refl read ∙ sym (ap (λ (o : Option ℕ). known_after v name o n) read)
    by_below false e =
        let past : slice_get list place ≡ None = slice_get_past list place (grind (arith, nat_tests, e)) in
        past ∙ sym (ap (λ (o : Option ℕ). known_after v name o n) past)

-- the smaller of the numbers that stand next
pub next-of : (o a b x y : Option ℕ) → o ≡ first_of a b → a ≡ x → b ≡ y → o ≡ first_of x y
next-of o a b x y e f g = e ∙ ap (λ (z : Option ℕ). first_of z b) f ∙ ap (first_of x) g

-- where a pass over the lists of both names stands
pub record ListsPass (v : View) (infos types : List ℕ) (info kind : ℕ) (numbers : List ℕ) : Type 0 where
  pub infos_are : infos ≡ sections_named v (name_of Info)
  pub types_are : types ≡ sections_named v (name_of Types)
  pub so : SectionsPass v (slice_get infos info) (slice_get types kind) numbers

pub lists-none : (v : View) (infos types numbers : List ℕ) → infos ≡ sections_named v (name_of Info) → types ≡ sections_named v (name_of Types) → numbers ≡ []
    → ListsPass v infos types 0 0 numbers
lists-none v infos types numbers i t none = record {
  infos_are = i;
  types_are = t;
  so = pass-none v (slice_get infos 0) (slice_get types 0) numbers (ap (λ (l : List ℕ). slice_get l 0) i ∙ first-named v (name_of Info))
      (ap (λ (l : List ℕ). slice_get l 0) t ∙ first-named v (name_of Types)) none;
}

pub lists-more : (v : View) (infos types numbers more : List ℕ) (info kind n next_info next_kind : ℕ) (p : ListsPass v infos types info kind numbers)
    → Some n ≡ first_of (slice_get infos info) (slice_get types kind) → next_info ≡ place_after infos info n → next_kind ≡ place_after types kind n → more ≡ numbers ++ n ∷ []
    → ListsPass v infos types next_info next_kind more
lists-more v infos types numbers more info kind n next_info next_kind p e i t m = record {
  infos_are = p.infos_are;
  types_are = p.types_are;
  so = subst (SectionsPass v (slice_get infos next_info) (slice_get types next_kind)) (sym m)
      (pass-more v (slice_get infos info) (slice_get types kind) (slice_get infos next_info) (slice_get types next_kind) numbers n p.so e
      (ap (slice_get infos) i ∙ after-known v (name_of Info) infos info n p.infos_are) (ap (slice_get types) t ∙ after-known v (name_of Types) types kind n p.types_are));
}

pub lists-left : (v : View) (infos types numbers : List ℕ) (info kind n next_info next_kind : ℕ) (p : ListsPass v infos types info kind numbers)
    → Some n ≡ first_of (slice_get infos info) (slice_get types kind) → next_info ≡ place_after infos info n → next_kind ≡ place_after types kind n
    → sections_left v (first_of (slice_get infos next_info) (slice_get types next_kind)) < sections_left v (first_of (slice_get infos info) (slice_get types kind))
lists-left v infos types numbers info kind n next_info next_kind p e i t =
    left-pass v (slice_get infos info) (slice_get types kind) (slice_get infos next_info) (slice_get types next_kind) numbers n p.so e
    (ap (slice_get infos) i ∙ after-known v (name_of Info) infos info n p.infos_are) (ap (slice_get types) t ∙ after-known v (name_of Types) types kind n p.types_are)

pub lists-end : (v : View) (infos types numbers : List ℕ) (info kind : ℕ) → ListsPass v infos types info kind numbers
    → None ≡ first_of (slice_get infos info) (slice_get types kind) → AreSections v numbers
lists-end v infos types numbers info kind p e = pass-ends v (slice_get infos info) (slice_get types kind) numbers p.so e

pub ruleset all_rules = (lists-none)
