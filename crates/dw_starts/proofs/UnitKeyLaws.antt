-- Where macro units start, by one number each: these rise, and the unit that starts at a place has the number of its start among them.
use Rattle.std.proofs.Common.{Bool, true, false, ◌≡◌, ℕ, zero, suc, ◌+◌, ◌==◌, ◌&&◌, ◌<◌, ◌≤◌, arith, List, [], ◌∷◌, ◌++◌, length, get_or, cond, nat_lt, if◌then◌else◌, Option, Some, None, refl, sym, ap, ◌∙◌, subst}
use Rattle.std.specs.Bool.{⊤}
use Rattle.std.proofs.lemmas.Bool.{eq-eqb, ne_eqb, eqb-true, eqb-false, ltb-true, ltb-false}
use Rattle.dw_base.specs.Cells.{CellSection}
use Rattle.dw_base.specs.DebugData.{start_number, started_unit}
use Rattle.dw_base.specs.FileViews.{View, section_bytes}
use Rattle.dw_base.specs.MacroReadings.{MacroStart}
use Rattle.dw_base.specs.MacroUnits.{MacroUnitsUpTo, no_units, more_units}
use Rattle.dw_base.specs.ViewData.{debug_data}
use Rattle.dw_base.specs.declared.debug_sections.DebugSection.TheVariants.{Macro}
use Rattle.dw_base.specs.declared.macro_units.MacroUnit.{MacroUnit}
use Rattle.dw_meaning.proofs.MacroPieceLaws.{PiecesRead, all_unit_starts, unit_starts, units-read}
use Rattle.dw_macros.proofs.UnitListLaws.{read-units}
use Rattle.dw_starts.specs.LineStarts.{Rises}
use Rattle.dw_starts.specs.MacroSections.{HaveUnits, SectionUnits, UnitsFoundIn, places_of}
use Rattle.dw_starts.specs.UnitPlaces.{AllBelow, all_units, place_key, unit_keys, unit_number}
use Rattle.dw_starts.proofs.MacroNumberLaws.{AllCells, numbers-rise}
use Rattle.dw_starts.proofs.MacroPlaceLaws.{AllAbove, NumbersRise, units_of, units-rise}
use Rattle.dw_starts.proofs.MacroStartLaws.{Any, all-cells, any-unit}

-- all sections: where units start, in a row
abbrev pub starts_of : List MacroUnit → List MacroStart
starts_of [] = []
starts_of (u ∷ us) = record { section = u.section; place = u.start } ∷ starts_of us

starts-append : (us ws : List MacroUnit) → starts_of (us ++ ws) ≡ starts_of us ++ starts_of ws
starts-append [] ws = refl
starts-append (u ∷ us) ws = ap (λ (l : List MacroStart). record { section = u.section; place = u.start } ∷ l) (starts-append us ws)

-- units of a section say its number
abbrev EachIn : ℕ → List MacroUnit → Type 0
EachIn section [] = ⊤
EachIn section (u ∷ us) = (u.section ≡ section) × EachIn section us

in-last : (section : ℕ) (us : List MacroUnit) (u : MacroUnit) → EachIn section us → u.section ≡ section → EachIn section (us ++ u ∷ [])
in-last section [] u h is = (is, tt)
in-last section (x ∷ xs) u h is = (h.0, in-last section xs u h.1 is)

in-run : (v : View) (section place : ℕ) (us : List MacroUnit) → MacroUnitsUpTo v section us place → EachIn section us
in-run v section place us no_units = tt
in-run v section place us (more_units list u start before is) = in-last section list u (in-run v section start list before) (ap (λ (x : MacroUnit). x.section) is.is)

starts-own : (section : ℕ) (us : List MacroUnit) → EachIn section us → unit_starts section us ≡ starts_of us
starts-own section [] h = refl
starts-own section (u ∷ us) h =
    ap (λ (l : List MacroStart). record { section = section; place = u.start } ∷ l) (starts-own section us h.1)
    ∙ ap (λ (n : ℕ). record { section = n; place = u.start } ∷ starts_of us) (sym h.0)

pub starts-all : (v : View) (zs : List CellSection) (ss : List SectionUnits) → HaveUnits v zs ss → all_unit_starts zs (units_of ss) ≡ starts_of (all_units ss)
starts-all v [] [] h = refl
starts-all v [] (s ∷ ss) h = absurd h
starts-all v (z ∷ zs) [] h = absurd h
starts-all v (z ∷ zs) (s ∷ ss) h =
    ap (λ (l : List MacroStart). l ++ all_unit_starts zs (units_of ss)) (starts-own z.number s.units (in-run v z.number _ s.units (read-units v z.number s.units (length (section_bytes v z.number)) h.1)))
    ∙ ap (λ (l : List MacroStart). starts_of s.units ++ l) (starts-all v zs ss h.2)
    ∙ sym (starts-append s.units (all_units ss))

-- a section and a place in it are one number
key-same : (a b s o : ℕ) → b < 0x100000000 → o < 0x100000000 → place_key a b ≡ place_key s o → (a ≡ s) × (b ≡ o)
key-same a b s o lt below e = (omega (arith, lt, below, e), omega (arith, lt, below, e))

both-true : (s o : ℕ) → (s == s && o == o) ≡ true
both-true s o = ap (λ (b : Bool). b && o == o) (eq-eqb s s refl) ∙ eq-eqb o o refl

same-key : (a b s o : ℕ) → b < 0x100000000 → o < 0x100000000 → (a == s && b == o) ≡ (place_key a b == place_key s o)
same-key a b s o lt below = by_key (place_key a b == place_key s o) refl
  where
    by_place : (x y : Bool) → (a == s) ≡ x → (b == o) ≡ y → (place_key a b ≡ place_key s o → ⊥) → (x && y) ≡ false
    by_place true true e f other = absurd (other (ap (λ (n : ℕ). place_key n b) (eqb-true a s e) ∙ ap (place_key s) (eqb-true b o f)))
    by_place true false e f other = refl
    by_place false y e f other = refl

    by_key : (x : Bool) → (place_key a b == place_key s o) ≡ x → (a == s && b == o) ≡ x
    by_key true e =
        let both = key-same a b s o lt below (eqb-true (place_key a b) (place_key s o) e) in
        ap (λ (n : ℕ). n == s && b == o) both.0 ∙ ap (λ (n : ℕ). s == s && n == o) both.1 ∙ both-true s o
    by_key false e = by_place (a == s) (b == o) refl refl (eqb-false (place_key a b) (place_key s o) e)

numbered-below : (first s o : ℕ) (us : List MacroUnit) → AllBelow us → o < 0x100000000 → started_unit first (starts_of us) s o ≡ start_number first (unit_keys us) (place_key s o)
numbered-below first s o [] h lt = refl
numbered-below first s o (u ∷ us) h lt =
    ap (λ (b : Bool). cond b (Some first) (started_unit (first + 1) (starts_of us) s o)) (same-key u.section u.start s o h.0 lt)
    ∙ ap (λ (x : Option ℕ). cond (place_key u.section u.start == place_key s o) (Some first) x) (numbered-below (first + 1) s o us h.1 lt)

and-false : (b : Bool) → (b && false) ≡ false
and-false true = refl
and-false false = refl

numbered-none : (first s o : ℕ) (us : List MacroUnit) → AllBelow us → 0x100000000 ≤ o → started_unit first (starts_of us) s o ≡ None
numbered-none first s o [] h le = refl
numbered-none first s o (u ∷ us) h le =
    let below = h.0 in
    ap (λ (b : Bool). cond (u.section == s && b) (Some first) (started_unit (first + 1) (starts_of us) s o)) (ne_eqb u.start o (λ same. absurd (omega (arith, below, le, same))))
    ∙ ap (λ (b : Bool). cond b (Some first) (started_unit (first + 1) (starts_of us) s o)) (and-false (u.section == s))
    ∙ numbered-none (first + 1) s o us h.1 le

pub numbered : (s o : ℕ) (us : List MacroUnit) → AllBelow us → started_unit 0 (starts_of us) s o ≡ unit_number (unit_keys us) s o
numbered s o us h = by_place (nat_lt o 0x100000000) refl
  where
    by_place : (b : Bool) → nat_lt o 0x100000000 ≡ b → started_unit 0 (starts_of us) s o ≡ (if b then start_number 0 (unit_keys us) (place_key s o) else None)
    by_place true e = numbered-below 0 s o us h (ltb-true o 0x100000000 e)
    by_place false e = numbered-none 0 s o us h (ltb-false o 0x100000000 e)

-- numbers that rise, from one on and below another
abbrev RisesTo : ℕ → List ℕ → ℕ → Type 0
RisesTo n [] m = n ≤ m
RisesTo n (k ∷ ks) m = (n ≤ k) × RisesTo (suc k) ks m

to-less : (n k m : ℕ) (ks : List ℕ) → n ≤ k → RisesTo k ks m → RisesTo n ks m
to-less n k m [] le r = omega (arith, le, r)
to-less n k m (x ∷ xs) le r = (let inside = r.0 in omega (arith, le, inside), r.1)

to-append : (n k m : ℕ) (ks js : List ℕ) → RisesTo n ks k → RisesTo k js m → RisesTo n (ks ++ js) m
to-append n k m [] js r q = to-less n k m js r q
to-append n k m (x ∷ xs) js r q = (r.0, to-append (suc x) k m xs js r.1 q)

to-behind : (n m : ℕ) (ks : List ℕ) (j : ℕ) → RisesTo n ks m → j < length ks → n ≤ get_or ks j 0
to-behind n m [] j r lt = absurd (omega (arith, lt))
to-behind n m (k ∷ ks) zero r lt = r.0
to-behind n m (k ∷ ks) (suc j) r lt =
    let rest = to-behind (suc k) m ks j r.1 (omega (arith, lt)) in
    let first = r.0 in
    omega (arith, first, rest)

to-between : (n m : ℕ) (ks : List ℕ) (i j : ℕ) → RisesTo n ks m → i < j → j < length ks → get_or ks i 0 < get_or ks j 0
to-between n m [] i j r less lt = absurd (omega (arith, lt))
to-between n m (k ∷ ks) zero zero r less lt = absurd (omega (arith, less))
to-between n m (k ∷ ks) (suc i) zero r less lt = absurd (omega (arith, less))
to-between n m (k ∷ ks) zero (suc j) r less lt = to-behind (suc k) m ks j r.1 (omega (arith, lt))
to-between n m (k ∷ ks) (suc i) (suc j) r less lt = to-between (suc k) m ks i j r.1 (omega (arith, less)) (omega (arith, lt))

to-rises : (n m : ℕ) (ks : List ℕ) → RisesTo n ks m → Rises ks
to-rises n m ks r = record { rise = λ (i j : ℕ) (less : i < j) (lt : j < length ks). to-between n m ks i j r less lt }

-- units of a section whose places rise
tail-rises : (p : ℕ) (ps : List ℕ) → Rises (p ∷ ps) → Rises ps
tail-rises p ps r = record { rise = λ (i j : ℕ) (less : i < j) (lt : j < length ps). r.rise (suc i) (suc j) (omega (arith, less)) (omega (arith, lt)) }

next-rises : (p q : ℕ) (ps : List ℕ) → Rises (p ∷ (q ∷ ps)) → p < q
next-rises p q ps r = r.rise 0 1 (omega arith) (omega arith)

section-rises : (section n : ℕ) (us : List MacroUnit) → EachIn section us → AllBelow us → Rises (places_of us) → n ≤ 0x100000000
    → ((u : MacroUnit) (ws : List MacroUnit) → us ≡ u ∷ ws → n ≤ u.start) → RisesTo (place_key section n) (unit_keys us) (place_key section 0x100000000)
section-rises section n [] h below r le first = omega (arith, le)
section-rises section n (u ∷ us) h below r le first =
    let inside : n ≤ u.start = first u us refl in
    let lt = below.0 in
    let own : place_key u.section u.start ≡ place_key section u.start = ap (λ (s : ℕ). place_key s u.start) h.0 in (
      omega (arith, inside, own),
      to-less (suc (place_key u.section u.start)) (place_key section (suc u.start)) (place_key section 0x100000000) (unit_keys us) (omega (arith, own))
          (section-rises section (suc u.start) us h.1 below.1 (tail-rises u.start (places_of us) r) (omega (arith, lt)) (by_next us r)),
    )
  where
    by_next : (ws : List MacroUnit) → Rises (u.start ∷ places_of ws) → (w : MacroUnit) (rest : List MacroUnit) → ws ≡ w ∷ rest → suc u.start ≤ w.start
    by_next ws q w rest e = next-rises u.start w.start (places_of rest) (subst (λ (l : List MacroUnit). Rises (u.start ∷ places_of l)) e q)

-- and of all sections
pub keys-append : (us ws : List MacroUnit) → unit_keys (us ++ ws) ≡ unit_keys us ++ unit_keys ws
keys-append [] ws = refl
keys-append (u ∷ us) ws = ap (λ (l : List ℕ). place_key u.section u.start ∷ l) (keys-append us ws)

below-parts : (us ws : List MacroUnit) → AllBelow (us ++ ws) → AllBelow us × AllBelow ws
below-parts [] ws h = (tt, h)
below-parts (u ∷ us) ws h =
    let rest = below-parts us ws h.1 in ((h.0, rest.0), rest.1)

-- the last number of a section
abbrev end_key : List CellSection → ℕ → ℕ
end_key [] n = n
end_key (z ∷ zs) n = end_key zs (place_key z.number 0x100000000)

all-rise : (v : View) (zs : List CellSection) (ss : List SectionUnits) (n : ℕ) → AllCells v zs → HaveUnits v zs ss → NumbersRise zs → AllBelow (all_units ss)
    → ((z : CellSection) (ws : List CellSection) → zs ≡ z ∷ ws → n ≤ place_key z.number 0) → RisesTo n (unit_keys (all_units ss)) (end_key zs n)
all-rise v [] [] n c h rise below first = omega arith
all-rise v [] (s ∷ ss) n c h rise below first = absurd h
all-rise v (z ∷ zs) [] n c h rise below first = absurd h
all-rise v (z ∷ zs) (s ∷ ss) n c h rise below first =
    let here : PiecesRead v z.number z.contents Any s.units (read-units v z.number s.units (length (section_bytes v z.number)) h.1) =
    units-read v z.number z.contents Any s.units c.0 (record { holds = λ x none. tt }) (any-unit v z s.units) (read-units v z.number s.units (length (section_bytes v z.number)) h.1) in
    let parts = below-parts s.units (all_units ss) below in
    let own : RisesTo (place_key z.number 0) (unit_keys s.units) (place_key z.number 0x100000000) =
    section-rises z.number 0 s.units (in-run v z.number _ s.units (read-units v z.number s.units (length (section_bytes v z.number)) h.1)) parts.0
    (units-rise v.order z.number s.units here.pieces here.reads.chain here.starts) (omega arith) (λ u ws e. omega arith) in
    subst (λ (ks : List ℕ). RisesTo n ks (end_key zs (place_key z.number 0x100000000))) (sym (keys-append s.units (all_units ss)))
    (to-append n (place_key z.number 0x100000000) (end_key zs (place_key z.number 0x100000000)) (unit_keys s.units) (unit_keys (all_units ss))
    (to-less n (place_key z.number 0) (place_key z.number 0x100000000) (unit_keys s.units) (first z zs refl) own)
    (all-rise v zs ss (place_key z.number 0x100000000) c.1 h.2 rise.1 parts.1 (by_next zs rise.0)))
  where
    by_next : (ys : List CellSection) → AllAbove z.number ys → (y : CellSection) (rest : List CellSection) → ys ≡ y ∷ rest → place_key z.number 0x100000000 ≤ place_key y.number 0
    by_next ys above y rest e =
        let all : AllAbove z.number (y ∷ rest) = subst (AllAbove z.number) e above in
        let lt = all.0 in
        omega (arith, lt)

pub keys-rise : (v : View) (ss : List SectionUnits) → UnitsFoundIn v ss → AllBelow (all_units ss) → Rises (unit_keys (all_units ss))
keys-rise v ss found below =
    to-rises 0 (end_key ((debug_data v).found Macro) 0) (unit_keys (all_units ss))
    (all-rise v ((debug_data v).found Macro) ss 0 (all-cells v) found.units (numbers-rise v) below (λ z ws e. omega arith))
