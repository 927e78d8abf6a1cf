-- Bytes with changes in them, from a place on: what is copied stands at both places, and what is changed at the new one.
use Rattle.std.proofs.Common.{true, false, ◌≡◌, ◌⊎◌, inl, inr, ℕ, ◌+◌, ◌-◌, ◌<◌, ◌≤◌, List, [], ◌∷◌, ◌++◌, length, take, drop, refl, sym, ap, ◌∙◌, subst, arith, append_assoc, take-add}
use Rattle.std.specs.Bool.{⊤}
use Rattle.std.proofs.lemmas.Bool.{cases_lt}
use Rattle.std.proofs.lemmas.List.{take-take, drop-take, length-append, length-drop, length-take-le, take-append-drop, drop-drop}
use Rattle.dw_base.specs.Texts.{text, has_nul, ends_in, text_in}
use Rattle.dw_base.specs.WrittenLines.{part, bytes_at, Change, changed}
use Rattle.dw_base.proofs.ContributionBackLaws.{StandsAt}
use Rattle.dw_base.proofs.TextLaws.{has_nul-append, text-append_nul, take-text, drop-text, length-text}
use Rattle.dw_meaning.proofs.LineReadLaws.{Both}

-- parts one after another
pub part-split : (bs : List ℕ) (a b c : ℕ) → a ≤ b → b ≤ c → part bs a c ≡ part bs a b ++ part bs b c
part-split bs a b c ab bc =
    let size : c - a ≡ (b - a) + (c - b) = omega (arith, ab, bc) in
    let at : a + (b - a) ≡ b = omega (arith, ab) in
    ap (λ (n : ℕ). take n (drop a bs)) size ∙ take-add (b - a) (c - b) (drop a bs)
    ∙ ap (λ (xs : List ℕ). part bs a b ++ take (c - b) xs) (drop-drop (b - a) a bs ∙ ap (λ (n : ℕ). drop n bs) at)

pub part-rest : (bs : List ℕ) (a b : ℕ) → a ≤ b → drop a bs ≡ part bs a b ++ drop b bs
part-rest bs a b ab =
    let at : a + (b - a) ≡ b = omega (arith, ab) in
    sym (take-append-drop (b - a) (drop a bs)) ∙ ap (λ (xs : List ℕ). part bs a b ++ xs) (drop-drop (b - a) a bs ∙ ap (λ (n : ℕ). drop n bs) at)

pub part-length : (bs : List ℕ) (a b : ℕ) → a ≤ b → b ≤ length bs → length (part bs a b) ≡ b - a
part-length bs a b ab inside = length-take-le (b - a) (drop a bs) (omega (arith, ab, inside, length-drop a bs))

pub part-none : (bs : List ℕ) (a : ℕ) → part bs a a ≡ []
part-none bs a =
    let none : a - a ≡ 0 = omega arith in
    ap (λ (n : ℕ). take n (drop a bs)) none

-- all changes begin before the end, and none before a place
abbrev pub Before : ℕ → List Change → Type 0
Before end [] = ⊤
Before end (c ∷ cs) = (c.at ≤ end) × Before end cs

abbrev pub From : ℕ → ℕ → List Change → Type 0
From end p [] = p ≤ end
From end p (c ∷ cs) = (p ≤ c.at) × (c.at ≤ end) × Before end cs

pub all-before : (end p : ℕ) (cs : List Change) → From end p cs → Before end cs
all-before end p [] f = tt
all-before end p (c ∷ cs) f = (f.1, f.2)

-- a part of bytes that are cut behind it
pub part-cut : (bs : List ℕ) (e a b : ℕ) → b ≤ e → part (take e bs) a b ≡ part bs a b
part-cut bs e a b le = by_order (cases_lt b a)
  where
    by_order : (b < a) ⊎ (a ≤ b) → part (take e bs) a b ≡ part bs a b
    by_order (inr ab) =
        let split : a + (e - a) ≡ e = omega (arith, ab, le) in
        ap (λ (n : ℕ). take (b - a) (drop a (take n bs))) (sym split) ∙ ap (take (b - a)) (drop-take a (e - a) bs)
        ∙ take-take (b - a) (e - a) (drop a bs) (omega (arith, ab, le))
    by_order (inl ba) =
        let none : b - a ≡ 0 = omega (arith, ba) in
        ap (λ (n : ℕ). take n (drop a (take e bs))) none ∙ ap (λ (n : ℕ). take n (drop a bs)) (sym none)

pub changed-cut : (bs : List ℕ) (e end a : ℕ) (cs : List Change) → end ≤ e → Before end cs → changed (take e bs) a end cs ≡ changed bs a end cs
changed-cut bs e end a [] le f = part-cut bs e a end le
changed-cut bs e end a (c ∷ cs) le f =
    let here = f.0 in
    ap (λ (xs : List ℕ). xs ++ (c.new ++ changed (take e bs) (c.at + length c.old) end cs)) (part-cut bs e a c.at (omega (arith, here, le)))
    ∙ ap (λ (xs : List ℕ). part bs a c.at ++ (c.new ++ xs)) (changed-cut bs e end (c.at + length c.old) cs le f.1)

pub from-before : (end p b : ℕ) (cs : List Change) → p ≤ b → From end b cs → From end p cs
from-before end p b [] pb f = omega (arith, pb, f)
from-before end p b (c ∷ cs) pb f =
    let here = f.0 in
    (omega (arith, pb, here), f.1, f.2)

pub from-end : (end p : ℕ) (cs : List Change) → From end p cs → p ≤ end
from-end end p [] f = f
from-end end p (c ∷ cs) f =
    let here = f.0 in
    let last = f.1 in
    omega (arith, here, last)

pub changed-split : (bs : List ℕ) (end a b : ℕ) (cs : List Change) → a ≤ b → From end b cs → changed bs a end cs ≡ part bs a b ++ changed bs b end cs
changed-split bs end a b [] ab f = part-split bs a b end ab f
changed-split bs end a b (c ∷ cs) ab f =
    ap (λ (xs : List ℕ). xs ++ (c.new ++ changed bs (c.at + length c.old) end cs)) (part-split bs a b c.at ab f.0)
    ∙ append_assoc (part bs a b) (part bs b c.at) (c.new ++ changed bs (c.at + length c.old) end cs)

-- the new bytes from a place on are the old ones from another on, changed up to an end and then as they were
pub record Rest (old new : List ℕ) (end : ℕ) (cs : List Change) (p q : ℕ) : Type 0 where
  pub within : end ≤ length old
  pub there : q ≤ length new
  pub is : drop q new ≡ changed old p end cs ++ drop end old

-- up to a place before the first change all is copied
pub record Copied (old new : List ℕ) (end : ℕ) (cs : List Change) (p q b : ℕ) : Type 0 where
  pub both : Both old new (part old p b) p q
  pub rest : Rest old new end cs b (q + (b - p))

pub copied : (old new : List ℕ) (end : ℕ) (cs : List Change) (p q b : ℕ) → Rest old new end cs p q → p ≤ b → From end b cs → Copied old new end cs p q b
copied old new end cs p q b r pb f =
    let within = r.within in
    let there = r.there in
    let b_end : b ≤ end = from-end end b cs f in
    let size : length (part old p b) ≡ b - p = part-length old p b pb (omega (arith, within, b_end)) in
    let is : drop q new ≡ part old p b ++ (changed old b end cs ++ drop end old) =
    r.is ∙ ap (λ (xs : List ℕ). xs ++ drop end old) (changed-split old end p b cs pb f) ∙ append_assoc (part old p b) (changed old b end cs) (drop end old) in
    let long : length (drop q new) ≡ length (part old p b ++ (changed old b end cs ++ drop end old)) = ap length is in
    let behind : q + (b - p) ≤ length new =
    omega (arith, long, there, size, length-drop q new, length-append (part old p b) (changed old b end cs ++ drop end old)) in
    record {
      both = record {
        was = record { behind = drop b old; is = part-rest old p b pb; inside = omega (arith, size, pb, b_end, within) };
        is = record { behind = changed old b end cs ++ drop end old; is = is; inside = omega (arith, size, behind) };
      };
      rest = record {
        within = within;
        there = behind;
        is =
            sym (drop-drop (b - p) q new) ∙ ap (drop (b - p)) is
            ∙ ap (λ (n : ℕ). drop n (part old p b ++ (changed old b end cs ++ drop end old))) (sym size)
            ∙ drop-front (part old p b) (changed old b end cs ++ drop end old);
      };
    }
  where
    drop-front : (xs ys : List ℕ) → drop (length xs) (xs ++ ys) ≡ ys
    drop-front [] ys = refl
    drop-front (x ∷ xs) ys = drop-front xs ys

-- a change stands where the old bytes did
pub record Exchanged (old new : List ℕ) (end : ℕ) (c : Change) (cs : List Change) (q : ℕ) : Type 0 where
  pub stands : StandsAt new c.new q
  pub rest : Rest old new end cs (c.at + length c.old) (q + length c.new)

drop-front : (xs ys : List ℕ) → drop (length xs) (xs ++ ys) ≡ ys
drop-front [] ys = refl
drop-front (x ∷ xs) ys = drop-front xs ys

pub exchanged : (old new : List ℕ) (end : ℕ) (c : Change) (cs : List Change) (p q : ℕ) → Rest old new end (c ∷ cs) p q → p ≡ c.at → Exchanged old new end c cs q
exchanged old new end c cs p q r at =
    let there = r.there in
    let rest : List ℕ = changed old (c.at + length c.old) end cs ++ drop end old in
    let front : part old p c.at ≡ [] = ap (λ (n : ℕ). part old n c.at) at ∙ part-none old c.at in
    let is : drop q new ≡ c.new ++ (changed old (c.at + length c.old) end cs ++ drop end old) =
    r.is ∙ ap (λ (xs : List ℕ). (xs ++ (c.new ++ changed old (c.at + length c.old) end cs)) ++ drop end old) front
    ∙ append_assoc c.new (changed old (c.at + length c.old) end cs) (drop end old) in
    let long : length (drop q new) ≡ length (c.new ++ (changed old (c.at + length c.old) end cs ++ drop end old)) = ap length is in
    let behind : q + length c.new ≤ length new =
    omega (arith, long, there, length-drop q new, length-append c.new (changed old (c.at + length c.old) end cs ++ drop end old)) in
    record {
      stands = record { behind = changed old (c.at + length c.old) end cs ++ drop end old; is = is; inside = behind };
      rest = record {
        within = r.within;
        there = behind;
        is = sym (drop-drop (length c.new) q new) ∙ ap (drop (length c.new)) is ∙ drop-front c.new (changed old (c.at + length c.old) end cs ++ drop end old);
      };
    }

-- a text with its NUL at a place
pub text-stands : (bs u : List ℕ) (q : ℕ) → has_nul u ≡ false → StandsAt bs (u ++ 0 ∷ []) q → (ends_in bs q ≡ true) × (text_in bs q ≡ u)
unfolding ends_in text_in
text-stands bs u q bare s =
    let is : drop q bs ≡ u ++ 0 ∷ s.behind = s.is ∙ append_assoc u (0 ∷ []) s.behind in
    (ap has_nul is ∙ has_nul-append u (0 ∷ s.behind) ∙ rw bare refl, ap text is ∙ text-append_nul u s.behind bare)

-- where a text stands, its bytes do, and its NUL behind them
pub text-part : (bs : List ℕ) (p : ℕ) → ends_in bs p ≡ true → bytes_at bs p (length (text_in bs p)) ≡ text_in bs p
unfolding ends_in text_in
text-part bs p e = take-text (drop p bs) e

pub nul-part : (bs : List ℕ) (p : ℕ) → ends_in bs p ≡ true → part bs (p + length (text_in bs p)) (p + length (text_in bs p) + 1) ≡ 0 ∷ []
unfolding ends_in text_in
nul-part bs p e =
    let one : p + length (text (drop p bs)) + 1 - (p + length (text (drop p bs))) ≡ 1 = omega arith in
    ap (λ (n : ℕ). take n (drop (p + length (text (drop p bs))) bs)) one
    ∙ ap (take 1) (sym (drop-drop (length (text (drop p bs))) p bs) ∙ drop-text (drop p bs) e)

pub text-room : (bs : List ℕ) (p : ℕ) → ends_in bs p ≡ true → p + length (text_in bs p) + 1 ≤ length bs
unfolding ends_in text_in
text-room bs p e = omega (arith, length-text (drop p bs) e, length-drop p bs)

-- a text that is exchanged, and its NUL that is copied: the new text stands there
pub record TextChanged (old new : List ℕ) (end : ℕ) (cs : List Change) (u : List ℕ) (b q : ℕ) : Type 0 where
  pub ends : ends_in new q ≡ true
  pub says : text_in new q ≡ u
  pub rest : Rest old new end cs b (q + length u + 1)

pub text-changed : (old new : List ℕ) (end : ℕ) (c : Change) (cs : List Change) (u : List ℕ) (p q : ℕ) → Rest old new end (c ∷ cs) p q → c.at ≡ p → ends_in old p ≡ true
    → length c.old ≡ length (text_in old p) → c.new ≡ u → has_nul u ≡ false → From end (p + length (text_in old p) + 1) cs
    → TextChanged old new end cs u (p + length (text_in old p) + 1) q
text-changed old new end c cs u p q r at ends size is bare f =
    let x = exchanged old new end c cs p q r (sym at) in
    let mid : c.at + length c.old ≡ p + length (text_in old p) = omega (arith, at, size) in
    let more : Rest old new end cs (p + length (text_in old p)) (q + length u) =
    subst (λ (n : ℕ). Rest old new end cs n (q + length u)) mid (subst (λ (v : List ℕ). Rest old new end cs (c.at + length c.old) (q + length v)) is x.rest) in
    let k = copied old new end cs (p + length (text_in old p)) (q + length u) (p + length (text_in old p) + 1) more (omega arith) f in
    let nul : part old (p + length (text_in old p)) (p + length (text_in old p) + 1) ≡ 0 ∷ [] = nul-part old p ends in
    let zero_ : StandsAt new (0 ∷ []) (q + length u) = subst (λ (v : List ℕ). StandsAt new v (q + length u)) nul k.both.is in
    let here : StandsAt new u q = subst (λ (v : List ℕ). StandsAt new v q) is x.stands in
    let inside = zero_.inside in
    let whole : StandsAt new (u ++ 0 ∷ []) q =
    record {
      behind = zero_.behind;
      is =
          here.is ∙ ap (λ (v : List ℕ). u ++ v) (sym (drop-front u here.behind) ∙ ap (drop (length u)) (sym here.is) ∙ drop-drop (length u) q new ∙ zero_.is)
          ∙ sym (append_assoc u (0 ∷ []) zero_.behind);
      inside = omega (arith, inside, length-append u (0 ∷ []));
    } in
    let says = text-stands new u q bare whole in
    let place : q + length u + (p + length (text_in old p) + 1 - (p + length (text_in old p))) ≡ q + length u + 1 = omega arith in
    record { ends = says.0; says = says.1; rest = subst (λ (n : ℕ). Rest old new end cs (p + length (text_in old p) + 1) n) place k.rest }
