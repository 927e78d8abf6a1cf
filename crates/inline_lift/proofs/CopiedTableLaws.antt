-- A copied table of abbreviations declares the lifted abbreviations, wherever it stands.
use Rattle.std.proofs.Common.{Bool, true, false, ◌≡◌, ◌≢◌, ℕ, ◌+◌, ◌<◌, ◌≤◌, ℤ, pos, List, [], ◌∷◌, ◌++◌, length, take, drop, Some, refl, sym, ap, ◌∙◌, subst, if◌then◌else◌, append_assoc, append-nil, zero, suc}
use Rattle.std.specs.Prelude.{◌==◌, is_some}
use Rattle.std.proofs.lemmas.Bool.{eqb-false, lt-ltb}
use Rattle.std.proofs.lemmas.List.{drop-append-le, drop_more}
use Rattle.dw_base.specs.AbbreviationBytes.{TablePlace, code_next, tag_next, flag_next, name_next, form_next, number_next, ended, broken, TableState, at_place, bare, with_spec, after_pair, after_byte}
use Rattle.dw_base.specs.AbbreviationTables.{Abbreviation, abbreviation_of, HeadsAbbreviation, SpellsPair, SpellsSpec, by_form, with_number, SpellsSpecs, no_specs, more_specs, SpellsAbbreviation, Declares, no_abbreviations, more_abbreviations, IsTable}
use Rattle.dw_base.specs.Lebs.{sleb_at, uleb_at}
use Rattle.dw_base.specs.declared.values.Spec.{Spec}
use Rattle.dw_base.specs.declared.dwarf_numbers.TheConstants.{DW_FORM_block1, DW_FORM_block4, DW_FORM_implicit_const, DW_FORM_strp}
use Rattle.dw_base.proofs.AbbreviationLaws.{and_specs, code-some, form-plain as after-plain, pair-some}
use Rattle.dw_base.proofs.NumberBytes.{number-cut, signed-cut}
use Rattle.inline_lift.specs.GrowingPaths.{Fate, stays, grown}
use Rattle.inline_lift.specs.LiftedTables.{copied, copied_byte, filler_form, filler_name, filler_name_bytes, filler_pair, filler_specs, is_ended, is_short, lifted_abbreviation, lifted_form, lifted_spec, lifted_specs, lifted_table, next_fate, nth_fate, plain_spec, table_copy}
use Rattle.inline_lift.proofs.CopiedNumberLaws.{byte-there, copied_from, copied_number, number-size, number-there, rest-behind, signed-copied, signed-size, signed-there, unsigned-copied}
use Rattle.inline_lift.proofs.LiftedSpecLaws.{CanGrow, OwnCanGrow, SpecsCanGrow, TableCanGrow, is_some-lifted, lifted-own, lifted_specs-none, lifted_specs-push, lifted_table-push, own_fates, specs_can-parts, table_can-parts}

-- what is spelled from a place on, of bytes whose rest is a copy and more: up to a place, from which on this stands
abbrev pub StandsTo : List ℕ → (ℕ → Type 0) → List ℕ → Type 0
StandsTo out P rest = (next : ℕ) × P next × (drop next out ≡ rest)

-- an unsigned number that is copied
number-stays : (out : List ℕ) (k : ℕ) (bytes : List ℕ) (at v n : ℕ) (rest : List ℕ) → uleb_at bytes at ≡ Some (v, n)
    → drop k out ≡ take n (drop at bytes) ++ rest → (uleb_at out k ≡ Some (v, n)) × (drop (k + n) out ≡ rest)
number-stays out k bytes at v n rest e h = (
  number-there out k (take n (drop at bytes)) rest (v, n) h (number-cut bytes at v n e).0,
  rest-behind out k (take n (drop at bytes)) rest n h (number-size bytes at v n e),
)

signed-stays : (out : List ℕ) (k : ℕ) (bytes : List ℕ) (at : ℕ) (v : ℤ) (n : ℕ) (rest : List ℕ) → sleb_at bytes at ≡ Some (v, n)
    → drop k out ≡ take n (drop at bytes) ++ rest → (sleb_at out k ≡ Some (v, n)) × (drop (k + n) out ≡ rest)
signed-stays out k bytes at v n rest e h = (
  signed-there out k (take n (drop at bytes)) rest (v, n) h (signed-cut bytes at v n e).0,
  rest-behind out k (take n (drop at bytes)) rest n h (signed-size bytes at v n e),
)

-- the fate of the attribute that comes next of an abbreviation so far
abbrev spec_fate : ℕ → List Fate → Abbreviation → Fate
spec_fate code fs a = if a.code == code then nth_fate fs (length a.specs) else stays

-- a pair: its name is copied, and its form by the fate of the attribute
pair-copied : (code : ℕ) (fs : List Fate) (a : Abbreviation) (list : List Abbreviation) (bytes : List ℕ) (at name form next : ℕ) (s : SpellsPair bytes at name form next)
    → copied_from code fs (name_next a) list bytes at
    ≡ take s.name_size (drop at bytes) ++ (copied_number (spec_fate code fs a) (take s.form_size (drop (at + s.name_size) bytes))
    ++ copied code fs (after_pair a name form list) (drop next bytes))
pair-copied code fs a list bytes at name form next s =
    unsigned-copied code fs (name_next a) list bytes at name s.name_size refl s.name_spells
    ∙ ap (λ (bs : List ℕ). take s.name_size (drop at bytes) ++ bs)
    (unsigned-copied code fs (form_next a name) list bytes (at + s.name_size) form s.form_size refl s.form_spells
    ∙ ap (λ (n : ℕ). copied_number (spec_fate code fs a) (take s.form_size (drop (at + s.name_size) bytes)) ++ copied code fs (after_pair a name form list) (drop n bytes))
    (sym s.behind))

-- the pair of an attribute that stays, or of none
pair-stays : (code : ℕ) (fs : List Fate) (a : Abbreviation) (list : List Abbreviation) (bytes : List ℕ) (at name form next : ℕ) (out : List ℕ) (k : ℕ) (tail : List ℕ)
    → spec_fate code fs a ≡ stays → SpellsPair bytes at name form next → drop k out ≡ copied_from code fs (name_next a) list bytes at ++ tail
    → StandsTo out (SpellsPair out k name form) (copied code fs (after_pair a name form list) (drop next bytes) ++ tail)
pair-stays code fs a list bytes at name form next out k tail fate s h =
    let rest : List ℕ = copied code fs (after_pair a name form list) (drop next bytes) in
    let whole : drop k out ≡ take s.name_size (drop at bytes) ++ (take s.form_size (drop (at + s.name_size) bytes) ++ (rest ++ tail)) =
    h ∙ ap (λ (bs : List ℕ). bs ++ tail) (pair-copied code fs a list bytes at name form next s
    ∙ ap (λ (f : Fate). take s.name_size (drop at bytes) ++ (copied_number f (take s.form_size (drop (at + s.name_size) bytes)) ++ copied code fs (after_pair a name form list) (drop next bytes))) fate)
    ∙ append_assoc (take s.name_size (drop at bytes)) (take s.form_size (drop (at + s.name_size) bytes) ++ copied code fs (after_pair a name form list) (drop next bytes)) tail
    ∙ ap (λ (bs : List ℕ). take s.name_size (drop at bytes) ++ bs)
    (append_assoc (take s.form_size (drop (at + s.name_size) bytes)) (copied code fs (after_pair a name form list) (drop next bytes)) tail) in
    let n = number-stays out k bytes at name s.name_size (take s.form_size (drop (at + s.name_size) bytes) ++ (copied code fs (after_pair a name form list) (drop next bytes) ++ tail)) s.name_spells whole in
    let f = number-stays out (k + s.name_size) bytes (at + s.name_size) form s.form_size (copied code fs (after_pair a name form list) (drop next bytes) ++ tail) s.form_spells n.1 in (
      k + s.name_size + s.form_size,
      record { name_size = s.name_size; form_size = s.form_size; name_spells = n.0; form_spells = f.0; behind = refl },
      f.1,
    )

-- the pair of an attribute whose form is another, and behind it that of what is left
short-form : uleb_at (DW_FORM_strp ∷ []) 0 ≡ Some (DW_FORM_strp, 1)
unfolding uleb_at
short-form = refl

name-spelled : uleb_at filler_name_bytes 0 ≡ Some (filler_name, 2)
unfolding uleb_at
name-spelled = refl

form-spelled : (n : ℕ) → uleb_at (filler_form n ∷ []) 0 ≡ Some (filler_form n, 1)
unfolding uleb_at
form-spelled n = by_size (is_short n)
  where
    by_size : (b : Bool) → uleb_at ((if b then DW_FORM_block1 else DW_FORM_block4) ∷ []) 0 ≡ Some (if b then DW_FORM_block1 else DW_FORM_block4, 1)
    by_size true = refl
    by_size false = refl

pub form-some : (n : ℕ) → filler_form n ≢ 0
form-some n = by_size (is_short n)
  where
    by_size : (b : Bool) → (if b then DW_FORM_block1 else DW_FORM_block4) ≢ 0
    by_size true = eqb-false _ _ refl
    by_size false = eqb-false _ _ refl

pub form-plain : (n : ℕ) → filler_form n ≢ DW_FORM_implicit_const
form-plain n = by_size (is_short n)
  where
    by_size : (b : Bool) → (if b then DW_FORM_block1 else DW_FORM_block4) ≢ DW_FORM_implicit_const
    by_size true = eqb-false _ _ refl
    by_size false = eqb-false _ _ refl

pair-grown : (code : ℕ) (fs : List Fate) (a : Abbreviation) (list : List Abbreviation) (bytes : List ℕ) (at name form next r : ℕ) (out : List ℕ) (k : ℕ) (tail : List ℕ)
    → spec_fate code fs a ≡ grown r → SpellsPair bytes at name form next → drop k out ≡ copied_from code fs (name_next a) list bytes at ++ tail
    → StandsTo out (SpellsPair out k name DW_FORM_strp) (filler_pair r ++ (copied code fs (after_pair a name form list) (drop next bytes) ++ tail))
pair-grown code fs a list bytes at name form next r out k tail fate s h =
    let whole : drop k out ≡ take s.name_size (drop at bytes) ++ (DW_FORM_strp ∷ (filler_pair r ++ (copied code fs (after_pair a name form list) (drop next bytes) ++ tail))) =
    h ∙ ap (λ (bs : List ℕ). bs ++ tail) (pair-copied code fs a list bytes at name form next s
    ∙ ap (λ (f : Fate). take s.name_size (drop at bytes) ++ (copied_number f (take s.form_size (drop (at + s.name_size) bytes)) ++ copied code fs (after_pair a name form list) (drop next bytes))) fate)
    ∙ append_assoc (take s.name_size (drop at bytes)) (lifted_form r ++ copied code fs (after_pair a name form list) (drop next bytes)) tail
    ∙ ap (λ (bs : List ℕ). take s.name_size (drop at bytes) ++ bs)
    (append_assoc (lifted_form r) (copied code fs (after_pair a name form list) (drop next bytes)) tail) in
    let n = number-stays out k bytes at name s.name_size (DW_FORM_strp ∷ (filler_pair r ++ (copied code fs (after_pair a name form list) (drop next bytes) ++ tail))) s.name_spells whole in (
      k + s.name_size + 1,
      record {
        name_size = s.name_size;
        form_size = 1;
        name_spells = n.0;
        form_spells = number-there out (k + s.name_size) (DW_FORM_strp ∷ []) (filler_pair r ++ (copied code fs (after_pair a name form list) (drop next bytes) ++ tail)) (DW_FORM_strp, 1) n.1 short-form;
        behind = refl;
      },
      rest-behind out (k + s.name_size) (DW_FORM_strp ∷ []) (filler_pair r ++ (copied code fs (after_pair a name form list) (drop next bytes) ++ tail)) 1 n.1 refl,
    )

-- what stands in place of the attribute: itself with another form, and the one that takes what is left
filler-copied : (out : List ℕ) (start k r : ℕ) (specs : List Spec) (rest : List ℕ) → SpellsSpecs out start specs k → drop k out ≡ filler_pair r ++ rest
    → StandsTo out (SpellsSpecs out start (specs ++ filler_specs r)) rest
filler-copied out start k zero specs rest s h = (k, subst (λ (xs : List Spec). SpellsSpecs out start xs k) (sym (append-nil specs)) s, h)
filler-copied out start k (suc n) specs rest s h =
    let second : drop (k + 2) out ≡ filler_form n ∷ rest = rest-behind out k filler_name_bytes (filler_form n ∷ rest) 2 h refl in
    let pair : SpellsPair out k filler_name (filler_form n) (k + 2 + 1) = record {
      name_size = 2;
      form_size = 1;
      name_spells = number-there out k filler_name_bytes (filler_form n ∷ rest) (filler_name, 2) h name-spelled;
      form_spells = number-there out (k + 2) (filler_form n ∷ []) rest (filler_form n, 1) second (form-spelled n);
      behind = refl;
    } in (
      k + 2 + 1,
      more_specs specs (plain_spec filler_name (filler_form n)) k (k + 2 + 1) s
          (by_form filler_name (filler_form n) (k + 2 + 1) pair (eqb-false _ _ refl) (form-some n) (form-plain n)),
      rest-behind out (k + 2) (filler_form n ∷ []) rest 1 second refl,
    )

-- an attribute behind others
abbrev SpecCopied : ℕ → List Fate → Abbreviation → List Abbreviation → List ℕ → ℕ → List ℕ → ℕ → List Spec → List ℕ → Spec → Fate → Type 0
SpecCopied code fs a list bytes next out start specs tail x f =
    StandsTo out (SpellsSpecs out start (specs ++ lifted_spec f x)) (copied_from code fs (name_next (with_spec a x.name x.form x.implicit)) list bytes next ++ tail)

plain-copied : (code : ℕ) (fs : List Fate) (a : Abbreviation) (list : List Abbreviation) (bytes : List ℕ) (at name form next : ℕ) (out : List ℕ) (start k : ℕ) (specs : List Spec) (tail : List ℕ) (f : Fate)
    → spec_fate code fs a ≡ f → SpellsPair bytes at name form next → name ≢ 0 → form ≢ 0 → form ≢ DW_FORM_implicit_const
    → SpellsSpecs out start specs k → drop k out ≡ copied_from code fs (name_next a) list bytes at ++ tail
    → SpecCopied code fs a list bytes next out start specs tail (plain_spec name form) f
plain-copied code fs a list bytes at name form next out start k specs tail stays fate s n g i before h =
    let after : after_pair a name form list ≡ at_place (name_next (with_spec a name form (pos 0))) list =
    pair-some a list name form n g ∙ ap (λ (p : TablePlace). at_place p list) (after-plain a name form i) in
    let p = pair-stays code fs a list bytes at name form next out k tail fate s h in (
      p.0,
      more_specs specs (plain_spec name form) k p.0 before (by_form name form p.0 p.1 n g i),
      p.2 ∙ ap (λ (t : TableState). copied code fs t (drop next bytes) ++ tail) after,
    )
plain-copied code fs a list bytes at name form next out start k specs tail (grown r) fate s n g i before h =
    let after : after_pair a name form list ≡ at_place (name_next (with_spec a name form (pos 0))) list =
    pair-some a list name form n g ∙ ap (λ (p : TablePlace). at_place p list) (after-plain a name form i) in
    let p = pair-grown code fs a list bytes at name form next r out k tail fate s h in
    let one : SpellsSpecs out start (specs ++ plain_spec name DW_FORM_strp ∷ []) p.0 =
    more_specs specs (plain_spec name DW_FORM_strp) k p.0 before (by_form name DW_FORM_strp p.0 p.1 n (eqb-false _ _ refl) (eqb-false _ _ refl)) in
    let q = filler-copied out start p.0 r (specs ++ plain_spec name DW_FORM_strp ∷ []) (copied code fs (after_pair a name form list) (drop next bytes) ++ tail) one p.2 in (
      q.0,
      subst (λ (xs : List Spec). SpellsSpecs out start xs q.0) (append_assoc specs (plain_spec name DW_FORM_strp ∷ []) (filler_specs r)) q.1,
      q.2 ∙ ap (λ (t : TableState). copied code fs t (drop next bytes) ++ tail) after,
    )

numbered-copied : (code : ℕ) (fs : List Fate) (a : Abbreviation) (list : List Abbreviation) (bytes : List ℕ) (at name between : ℕ) (value : ℤ) (size : ℕ) (out : List ℕ) (start k : ℕ) (specs : List Spec) (tail : List ℕ)
    → spec_fate code fs a ≡ stays → SpellsPair bytes at name DW_FORM_implicit_const between → name ≢ 0 → sleb_at bytes between ≡ Some (value, size)
    → SpellsSpecs out start specs k → drop k out ≡ copied_from code fs (name_next a) list bytes at ++ tail
    → SpecCopied code fs a list bytes (between + size) out start specs tail (record { name = name; form = DW_FORM_implicit_const; implicit = value }) stays
numbered-copied code fs a list bytes at name between value size out start k specs tail fate s n v before h =
    let after : after_pair a name DW_FORM_implicit_const list ≡ at_place (number_next a name) list = pair-some a list name DW_FORM_implicit_const n (eqb-false _ _ refl) in
    let p = pair-stays code fs a list bytes at name DW_FORM_implicit_const between out k tail fate s h in
    let whole : drop p.0 out ≡ take size (drop between bytes) ++ (copied_from code fs (name_next (with_spec a name DW_FORM_implicit_const value)) list bytes (between + size) ++ tail) =
    p.2 ∙ ap (λ (t : TableState). copied code fs t (drop between bytes) ++ tail) after
    ∙ ap (λ (bs : List ℕ). bs ++ tail) (signed-copied code fs a name list bytes between value size v)
    ∙ append_assoc (take size (drop between bytes)) (copied_from code fs (name_next (with_spec a name DW_FORM_implicit_const value)) list bytes (between + size)) tail in
    let q = signed-stays out p.0 bytes between value size (copied_from code fs (name_next (with_spec a name DW_FORM_implicit_const value)) list bytes (between + size) ++ tail) v whole in (
      p.0 + size,
      more_specs specs _ k (p.0 + size) before (with_number name p.0 size value p.1 n q.0),
      q.1,
    )

spec-copied : (code : ℕ) (fs : List Fate) (a : Abbreviation) (list : List Abbreviation) (bytes : List ℕ) (at : ℕ) (x : Spec) (next : ℕ) (out : List ℕ) (start k : ℕ) (specs : List Spec) (tail : List ℕ) (f : Fate)
    → spec_fate code fs a ≡ f → CanGrow f x → SpellsSpec bytes at x next
    → SpellsSpecs out start specs k → drop k out ≡ copied_from code fs (name_next a) list bytes at ++ tail
    → SpecCopied code fs a list bytes next out start specs tail x f
spec-copied code fs a list bytes at x z out start k specs tail f fate can (by_form name form next s n g i) before h =
    plain-copied code fs a list bytes at name form next out start k specs tail f fate s n g i before h
spec-copied code fs a list bytes at x z out start k specs tail stays fate can (with_number name between size value s n v) before h =
    numbered-copied code fs a list bytes at name between value size out start k specs tail fate s n v before h
spec-copied code fs a list bytes at x z out start k specs tail (grown r) fate can (with_number name between size value s n v) before h =
    absurd (can refl refl)

-- attributes one after another
nth-own : (code : ℕ) (fs : List Fate) (a : Abbreviation) (n : ℕ) → (if a.code == code then nth_fate fs n else stays) ≡ nth_fate (own_fates code fs a) n
nth-own code fs a n = by_code (a.code == code)
  where
    by_code : (b : Bool) → (if b then nth_fate fs n else stays) ≡ nth_fate (if b then fs else []) n
    by_code true = refl
    by_code false = refl

specs-copied : (code : ℕ) (fs : List Fate) (c tag flag : ℕ) (list : List Abbreviation) (bytes : List ℕ) (start : ℕ) (xs : List Spec) (at : ℕ) (out : List ℕ) (k : ℕ) (tail : List ℕ)
    → SpellsSpecs bytes start xs at → SpecsCanGrow (own_fates code fs (bare c tag flag)) xs
    → drop k out ≡ copied_from code fs (name_next (bare c tag flag)) list bytes start ++ tail
    → StandsTo out (SpellsSpecs out k (lifted_specs (own_fates code fs (bare c tag flag)) xs)) (copied_from code fs (name_next (and_specs (bare c tag flag) xs)) list bytes at ++ tail)
specs-copied code fs c tag flag list bytes start xs at out k tail no_specs can h = (k, no_specs, h)
specs-copied code fs c tag flag list bytes start xs z out k tail (more_specs ys y before next s y_spells) can h =
    let parts = specs_can-parts (own_fates code fs (bare c tag flag)) ys y can in
    let p = specs-copied code fs c tag flag list bytes start ys before out k tail s parts.0 h in
    let q = spec-copied code fs (and_specs (bare c tag flag) ys) list bytes before y next out k p.0 (lifted_specs (own_fates code fs (bare c tag flag)) ys) tail
    (nth_fate (own_fates code fs (bare c tag flag)) (length ys)) (nth-own code fs (bare c tag flag) (length ys)) parts.1 y_spells p.1 p.2 in (
      q.0,
      subst (λ (zs : List Spec). SpellsSpecs out k zs q.0) (sym (lifted_specs-push (own_fates code fs (bare c tag flag)) ys y)) q.1,
      q.2,
    )

-- the head of an abbreviation
head-copied : (code : ℕ) (fs : List Fate) (list : List Abbreviation) (bytes : List ℕ) (at c tag flag next : ℕ) (out : List ℕ) (k : ℕ) (tail : List ℕ)
    → HeadsAbbreviation bytes at c tag flag next → flag < 2 → is_some (abbreviation_of list c) ≡ false
    → drop k out ≡ copied_from code fs code_next list bytes at ++ tail
    → StandsTo out (HeadsAbbreviation out k c tag flag) (copied_from code fs (name_next (bare c tag flag)) list bytes next ++ tail)
head-copied code fs list bytes at c tag flag next out k tail s small new h =
    let third : copied_from code fs (flag_next c tag) list bytes (at + s.code_size + s.tag_size) ≡ flag ∷ copied_from code fs (name_next (bare c tag flag)) list bytes next =
    ap (copied code fs (at_place (flag_next c tag) list)) (drop_more bytes (at + s.code_size + s.tag_size) 0 s.flag_there)
    ∙ ap (λ (b : ℕ). b ∷ copied code fs (after_byte (flag_next c tag) [] list b) (drop (at + s.code_size + s.tag_size + 1) bytes)) s.flag_is
    ∙ ap (λ (b : Bool). flag ∷ copied code fs (at_place (if b then name_next (bare c tag flag) else broken) list) (drop (at + s.code_size + s.tag_size + 1) bytes)) (lt-ltb flag 2 small)
    ∙ ap (λ (n : ℕ). flag ∷ copied_from code fs (name_next (bare c tag flag)) list bytes n) (sym s.behind) in
    let second : copied_from code fs (tag_next c) list bytes (at + s.code_size) ++ tail
    ≡ take s.tag_size (drop (at + s.code_size) bytes) ++ (flag ∷ (copied_from code fs (name_next (bare c tag flag)) list bytes next ++ tail)) =
    ap (λ (bs : List ℕ). bs ++ tail) (unsigned-copied code fs (tag_next c) list bytes (at + s.code_size) tag s.tag_size refl s.tag_spells
    ∙ ap (λ (bs : List ℕ). take s.tag_size (drop (at + s.code_size) bytes) ++ bs) third)
    ∙ append_assoc (take s.tag_size (drop (at + s.code_size) bytes)) (flag ∷ copied_from code fs (name_next (bare c tag flag)) list bytes next) tail in
    let first : drop k out ≡ take s.code_size (drop at bytes) ++ (copied_from code fs (tag_next c) list bytes (at + s.code_size) ++ tail) =
    h ∙ ap (λ (bs : List ℕ). bs ++ tail) (unsigned-copied code fs code_next list bytes at c s.code_size refl s.code_spells
    ∙ ap (λ (p : TablePlace). take s.code_size (drop at bytes) ++ copied_from code fs p list bytes (at + s.code_size)) (code-some c list s.declares new))
    ∙ append_assoc (take s.code_size (drop at bytes)) (copied_from code fs (tag_next c) list bytes (at + s.code_size)) tail in
    let one = number-stays out k bytes at c s.code_size (copied_from code fs (tag_next c) list bytes (at + s.code_size) ++ tail) s.code_spells first in
    let two = number-stays out (k + s.code_size) bytes (at + s.code_size) tag s.tag_size (flag ∷ (copied_from code fs (name_next (bare c tag flag)) list bytes next ++ tail)) s.tag_spells
    (one.1 ∙ second) in
    let byte = byte-there out (k + s.code_size + s.tag_size) flag (copied_from code fs (name_next (bare c tag flag)) list bytes next ++ tail) two.1 in (
      k + s.code_size + s.tag_size + 1,
      record {
        code_size = s.code_size;
        tag_size = s.tag_size;
        code_spells = one.0;
        declares = s.declares;
        tag_spells = two.0;
        flag_there = byte.0;
        flag_is = byte.1;
        behind = refl;
      },
      rest-behind out (k + s.code_size + s.tag_size) (flag ∷ []) (copied_from code fs (name_next (bare c tag flag)) list bytes next ++ tail) 1 two.1 refl,
    )

-- an abbreviation that stands at a place, of a new code
abbreviation-copied : (code : ℕ) (fs : List Fate) (list : List Abbreviation) (bytes : List ℕ) (at : ℕ) (a : Abbreviation) (next : ℕ) (out : List ℕ) (k : ℕ) (tail : List ℕ)
    → SpellsAbbreviation bytes at a next → is_some (abbreviation_of list a.code) ≡ false → OwnCanGrow code fs a
    → drop k out ≡ copied_from code fs code_next list bytes at ++ tail
    → StandsTo out (SpellsAbbreviation out k (lifted_abbreviation code fs a)) (copied_from code fs code_next (list ++ a ∷ []) bytes next ++ tail)
abbreviation-copied code fs list bytes at a next out k tail s new can h =
    let same : record a { children = s.flag == 1 } ≡ a = ap (λ (b : Bool). record a { children = b }) (sym s.children) in
    let p = head-copied code fs list bytes at a.code a.tag s.flag s.first out k tail s.head s.is_flag new h in
    let q = specs-copied code fs a.code a.tag s.flag list bytes s.first a.specs s.last out p.0 tail s.specs can.specs p.2 in
    let end = pair-stays code fs (record a { children = s.flag == 1 }) list bytes s.last 0 0 next out q.0 tail (nth-own code fs a (length a.specs) ∙ can.none) s.end q.2 in
    let made : SpellsAbbreviation out k (record a { specs = lifted_specs (own_fates code fs a) a.specs }) end.0 = record {
      flag = s.flag;
      first = p.0;
      last = q.0;
      head = p.1;
      is_flag = s.is_flag;
      children = s.children;
      specs = q.1;
      end = end.1;
    } in (
      end.0,
      subst (λ (b : Abbreviation). SpellsAbbreviation out k b end.0) (sym (lifted-own code fs a)) made,
      end.2 ∙ ap (λ (b : Abbreviation). copied_from code fs code_next (list ++ b ∷ []) bytes next ++ tail) same,
    )

code-same : (code : ℕ) (fs : List Fate) (a : Abbreviation) → (lifted_abbreviation code fs a).code ≡ a.code
code-same code fs a = ap (λ (b : Abbreviation). b.code) (lifted-own code fs a)

-- abbreviations one after another
declares-copied : (code : ℕ) (fs : List Fate) (bytes : List ℕ) (start : ℕ) (list : List Abbreviation) (at : ℕ) (out : List ℕ) (k : ℕ) (tail : List ℕ)
    → Declares bytes start list at → TableCanGrow code fs list → drop k out ≡ copied_from code fs code_next [] bytes start ++ tail
    → StandsTo out (Declares out k (lifted_table code fs list)) (copied_from code fs code_next list bytes at ++ tail)
declares-copied code fs bytes start list at out k tail no_abbreviations can h = (k, no_abbreviations, h)
declares-copied code fs bytes start list z out k tail (more_abbreviations before a at next d s new) can h =
    let parts = table_can-parts code fs before a can in
    let p = declares-copied code fs bytes start before at out k tail d parts.0 h in
    let q = abbreviation-copied code fs before bytes at a next out p.0 tail s new parts.1 p.2 in
    let fresh : is_some (abbreviation_of (lifted_table code fs before) (lifted_abbreviation code fs a).code) ≡ false =
    ap (λ (n : ℕ). is_some (abbreviation_of (lifted_table code fs before) n)) (code-same code fs a) ∙ is_some-lifted code fs before a.code ∙ new in (
      q.0,
      subst (λ (xs : List Abbreviation). Declares out k xs q.0) (sym (lifted_table-push code fs before a))
          (more_abbreviations (lifted_table code fs before) (lifted_abbreviation code fs a) p.0 q.0 p.1 q.1 fresh),
      q.2,
    )

-- a whole table
pub table-copied : (code : ℕ) (fs : List Fate) (bytes : List ℕ) (start : ℕ) (list : List Abbreviation) (out : List ℕ) (k : ℕ) (tail : List ℕ)
    → IsTable bytes start list → TableCanGrow code fs list → drop k out ≡ table_copy bytes start code fs ++ tail
    → IsTable out k (lifted_table code fs list)
unfolding table_copy
table-copied code fs bytes start list out k tail t can h =
    let p = declares-copied code fs bytes start list t.last out k tail t.declares can h in
    let whole : drop p.0 out ≡ take t.size (drop t.last bytes) ++ (copied code fs (at_place ended list) (drop (t.last + t.size) bytes) ++ tail) =
    p.2 ∙ ap (λ (bs : List ℕ). bs ++ tail) (unsigned-copied code fs code_next list bytes t.last 0 t.size refl t.ends)
    ∙ append_assoc (take t.size (drop t.last bytes)) (copied code fs (at_place ended list) (drop (t.last + t.size) bytes)) tail in
    let n = number-stays out p.0 bytes t.last 0 t.size (copied code fs (at_place ended list) (drop (t.last + t.size) bytes) ++ tail) t.ends whole in
    record { last = p.0; size = t.size; declares = p.1; ends = n.0 }

-- without fates a table is copied byte by byte up to its end
none-copied : (code : ℕ) (p : TablePlace) (b : ℕ) → copied_byte (next_fate code [] p) b ≡ b ∷ []
none-copied code (form_next a name) b = by_code (a.code == code)
  where
    by_code : (c : Bool) → copied_byte (if c then stays else stays) b ≡ b ∷ []
    by_code true = refl
    by_code false = refl
none-copied code code_next b = refl
none-copied code (tag_next c) b = refl
none-copied code (flag_next c tag) b = refl
none-copied code (name_next a) b = refl
none-copied code (number_next a name) b = refl
none-copied code ended b = refl
none-copied code broken b = refl

copied-front : (code : ℕ) (s : TableState) (bs : List ℕ) → (rest : List ℕ) × (bs ≡ copied code [] s bs ++ rest)
copied-front code s [] = ([], refl)
copied-front code s (b ∷ bs) = by_end (is_ended s.place) (copied-front code (after_byte s.place s.number s.list b) bs)
  where
    by_end : (e : Bool) → (rest : List ℕ) × (bs ≡ copied code [] (after_byte s.place s.number s.list b) bs ++ rest)
        → (rest : List ℕ) × (b ∷ bs ≡ (if e then [] else copied_byte (next_fate code [] s.place) b ++ copied code [] (after_byte s.place s.number s.list b) bs) ++ rest)
    by_end true p = (b ∷ bs, refl)
    by_end false p = (
      p.0,
      ap (λ (cs : List ℕ). b ∷ cs) p.1
          ∙ ap (λ (c : List ℕ). (c ++ copied code [] (after_byte s.place s.number s.list b) bs) ++ p.0) (sym (none-copied code s.place b)),
    )

table_can-none : (code : ℕ) (list : List Abbreviation) → TableCanGrow code [] list
table_can-none code [] = tt
table_can-none code (a ∷ rest) = (record { specs = specs-none (a.code == code) a.specs; none = by_code (a.code == code) (length a.specs) }, table_can-none code rest)
  where
    by_code : (b : Bool) (n : ℕ) → nth_fate (if b then [] else []) n ≡ stays
    by_code true n = refl
    by_code false n = refl

    specs-bare : (xs : List Spec) → SpecsCanGrow [] xs
    specs-bare [] = tt
    specs-bare (x ∷ xs) = ((λ e. absurd cc), specs-bare xs)

    specs-none : (b : Bool) (xs : List Spec) → SpecsCanGrow (if b then [] else []) xs
    specs-none true xs = specs-bare xs
    specs-none false xs = specs-bare xs

table-bare : (code : ℕ) (list : List Abbreviation) → lifted_table code [] list ≡ list
table-bare code [] = refl
table-bare code (a ∷ rest) =
    ap (λ (b : Abbreviation). b ∷ lifted_table code [] rest) (by_code (a.code == code)) ∙ ap (λ (xs : List Abbreviation). a ∷ xs) (table-bare code rest)
  where
    by_code : (b : Bool) → (if b then record a { specs = lifted_specs [] a.specs } else a) ≡ a
    by_code true = ap (λ (xs : List Spec). record a { specs = xs }) (lifted_specs-none a.specs)
    by_code false = refl

-- so a table stands as it was where more bytes follow
pub table-append : (bytes more : List ℕ) (start : ℕ) (list : List Abbreviation) → start ≤ length bytes → IsTable bytes start list → IsTable (bytes ++ more) start list
unfolding table_copy
table-append bytes more start list inside t =
    let p = copied-front 0 (at_place code_next []) (drop start bytes) in
    let h : drop start (bytes ++ more) ≡ table_copy bytes start 0 [] ++ (p.0 ++ more) =
    drop-append-le start bytes more inside ∙ ap (λ (bs : List ℕ). bs ++ more) p.1 ∙ append_assoc (table_copy bytes start 0 []) p.0 more in
    subst (λ (xs : List Abbreviation). IsTable (bytes ++ more) start xs) (table-bare 0 list)
    (table-copied 0 [] bytes start list (bytes ++ more) start (p.0 ++ more) t (table_can-none 0 list) h)

-- nothing is copied behind the end
pub ended-copied : (code : ℕ) (fs : List Fate) (list : List Abbreviation) (bs : List ℕ) → copied code fs (at_place ended list) bs ≡ []
ended-copied code fs list [] = refl
ended-copied code fs list (b ∷ bs) = refl
