-- The rows of the refusal of parts, for the check's search.
use Rattle.std.proofs.Common.{◌≡◌, ℕ, zero, suc, ◌<◌, ◌≤◌, List, ◌∷◌, length, take, drop, get_or, ◌++◌, ◌-◌, ap, sym, subst, ◌∙◌, ◌+◌, [], Bool, true, false, not, ◌&&◌, refl, arith}
use Rattle.std.proofs.lemmas.List.{append_assoc, drop_more, take_rest, length-map}
use Rattle.dw_base.specs.Layout.{output_limit, Part, extended, laid, laid_out, new_head, new_heads, with_table}
use Rattle.dw_base.specs.Parts.{in_header, numbered, numbered_first, numbered_front, numbered_head, parts_file}
use Rattle.dw_base.specs.declared.elf_numbers.TheConstants.{SHT_NULL, SHN_XINDEX}
use Rattle.dw_base.specs.declared.records.Section.{Section}
use Rattle.dw_base.specs.declared.shared.Class.{Class}
use Rattle.dw_base.specs.declared.shared.Class.TheVariants.{C32, C64}
use Rattle.dw_base.specs.declared.shared.Order.{Order}
use Rattle.dw_base.specs.Elf.{is_empty_kind, ehdr_size, shnum_place, shstrndx_place}
use Rattle.dw_base.specs.LayoutFails.{TooLong}
use Rattle.dw_base.specs.LayoutFails.TooLong.{long}
use Rattle.dw_base.specs.Numbers.{with_number}
use Rattle.dw_base.specs.declared.fault.Kind.TheVariants.{TooLarge}
use Rattle.dw_base.specs.declared.fault.Refusal.{Refusal}
use Rattle.dw_base.specs.Refusals.{at, Blames}
use Rattle.dw_base.specs.declared.fault.Fault.{Fault}
use Rattle.dw_base.specs.declared.fault.Fault.TheVariants.{NoMemory, Refused}
use Rattle.dw_base.proofs.LayoutLaws.{laid-longer, length-with_table}
use Rattle.dw_base.proofs.NumberLaws.{length-with_number}
use Rattle.elf_layout.specs.PartsGiven.{part_given, parts_given}
use Rattle.elf_layout.specs.declared.part.Part.{Part as GivenPart}
use Rattle.elf_layout.proofs.Rows.{too_long-more, long_with_table}

-- what passes the limit with a part passes it with those behind
pub long_parts : (out whole : List ℕ) (p : Part) (ps : List Part) (x : Fault) → laid (extended out p) ps ≡ whole
    → Blames (TooLong (length (extended out p))) x → Blames (TooLong (length whole)) x
long_parts out whole p ps NoMemory same blamed = tt
long_parts out whole p ps (Refused r) same blamed =
    let longer = laid-longer (extended out p) ps in
    let e = ap length same in
    too_long-more (length (extended out p)) (length whole) r (omega arith) blamed

-- one part of a list, and those behind it
one-more : (ps : List GivenPart) (i : ℕ) (p : GivenPart) → i < length ps → p ≡ get_or ps i p → drop i ps ≡ p ∷ drop (i + 1) ps
one-more ps i p lt here = drop_more ps i p lt ∙ ap (λ (q : GivenPart). q ∷ drop (i + 1) ps) (sym here)

pub laid-part : (out whole : List ℕ) (ps : List GivenPart) (i : ℕ) (p : GivenPart) → i < length ps → p ≡ get_or ps i p
    → laid out (parts_given (drop i ps)) ≡ whole → laid (extended out (part_given p)) (parts_given (drop (i + 1) ps)) ≡ whole
laid-part out whole ps i p lt here same =
    let e : laid out (parts_given (p ∷ drop (i + 1) ps)) ≡ whole = subst (λ (qs : List GivenPart). laid out (parts_given qs) ≡ whole) (one-more ps i p lt here) same in
    e

-- and the headers of both
pub heads-next : (so_far now : List ℕ) (p : Part) (ps : List Part) (h : Section) (heads more whole : List Section) → now ≡ extended so_far p
    → h ≡ new_head (length so_far) p → more ≡ heads ++ h ∷ [] → heads ++ new_heads so_far (p ∷ ps) ≡ whole → more ++ new_heads now ps ≡ whole
heads-next so_far now p ps h heads more whole is head pushed same =
    ap (λ (hs : List Section). hs ++ new_heads now ps) pushed
    ∙ append_assoc heads (h ∷ []) (new_heads now ps)
    ∙ ap (λ (s : Section). heads ++ s ∷ new_heads now ps) head
    ∙ ap (λ (out : List ℕ). heads ++ new_head (length so_far) p ∷ new_heads out ps) is ∙ same

pub heads-part : (so_far now : List ℕ) (ps : List GivenPart) (i : ℕ) (p : GivenPart) (h : Section) (heads more whole : List Section) → i < length ps → p ≡ get_or ps i p
    → now ≡ extended so_far (part_given p) → h ≡ new_head (length so_far) (part_given p) → more ≡ heads ++ h ∷ []
    → heads ++ new_heads so_far (parts_given (drop i ps)) ≡ whole → more ++ new_heads now (parts_given (drop (i + 1) ps)) ≡ whole
heads-part so_far now ps i p h heads more whole lt here is head pushed same =
    heads-next so_far now (part_given p) (parts_given (drop (i + 1) ps)) h heads more whole is head pushed
    (subst (λ (qs : List GivenPart). heads ++ new_heads so_far (parts_given qs) ≡ whole) (one-more ps i p lt here) same)

pub ruleset part_rows = (long_parts)

and-false : (b : Bool) → (b && false) ≡ false
and-false true = refl
and-false false = refl

shnum-inside : (c : Class) (n : ℕ) → ehdr_size c ≤ n → shnum_place c + 2 ≤ n
shnum-inside C32 n header = omega arith
shnum-inside C64 n header = omega arith

shstrndx-inside : (c : Class) (n : ℕ) → ehdr_size c ≤ n → shstrndx_place c + 2 ≤ n
shstrndx-inside C32 n header = omega arith
shstrndx-inside C64 n header = omega arith

-- section 0 is of type NULL, so that it isn't laid out
null-stays : (p : GivenPart) → p.head.kind ≡ SHT_NULL → (part_given p).moves ≡ false
null-stays p null = rw null (and-false (not p.kept))

-- with section 0 the same is laid, and its header comes first
laid-numbered : (out : List ℕ) (count names : ℕ) (p : Part) (ps : List Part) → p.moves ≡ false → laid (extended out (numbered count names p)) ps ≡ laid out ps
laid-numbered out count names p ps stays = rw stays refl

pub laid-first : (out : List ℕ) (names : ℕ) (parts : List GivenPart) → 0 < length parts → ((d : GivenPart) → (get_or parts 0 d).head.kind ≡ SHT_NULL)
    → laid out (numbered_first (length parts) names (parts_given parts)) ≡ laid out (parts_given (drop 1 parts))
laid-first out names [] some null = absurd (omega arith)
laid-first out names (p ∷ ps) some null = laid-numbered out (length (p ∷ ps)) names (part_given p) (parts_given ps) (null-stays p (null p))

-- so what the parts behind it are laid as is the whole
pub laid-rest : (out : List ℕ) (names : ℕ) (parts : List GivenPart) → 0 < length parts → ((d : GivenPart) → (get_or parts 0 d).head.kind ≡ SHT_NULL)
    → laid out (parts_given (take (length parts - 1) (drop 1 parts))) ≡ laid out (numbered_first (length parts) names (parts_given parts))
laid-rest out names parts some null = ap (λ (ps : List GivenPart). laid out (parts_given ps)) (take_rest parts 1) ∙ sym (laid-first out names parts some null)

heads-numbered : (out : List ℕ) (count names : ℕ) (p : Part) (ps : List Part) → p.moves ≡ false
    → new_heads out (numbered count names p ∷ ps) ≡ numbered_head count names p.head ∷ new_heads out ps
unfolding new_head
heads-numbered out count names p ps stays = rw stays refl

pub heads-first : (out : List ℕ) (names : ℕ) (parts : List GivenPart) (d : GivenPart) → 0 < length parts → ((e : GivenPart) → (get_or parts 0 e).head.kind ≡ SHT_NULL)
    → new_heads out (numbered_first (length parts) names (parts_given parts))
    ≡ numbered_head (length parts) names (get_or parts 0 d).head ∷ new_heads out (parts_given (drop 1 parts))
heads-first out names [] d some null = absurd (omega arith)
heads-first out names (p ∷ ps) d some null = heads-numbered out (length (p ∷ ps)) names (part_given p) (parts_given ps) (null-stays p (null p))

-- so all headers are those of section 0 and of the parts behind it
pub heads-all : (out : List ℕ) (names : ℕ) (parts : List GivenPart) (d : GivenPart) (v : Section) (first all : List Section) → 0 < length parts
    → ((e : GivenPart) → (get_or parts 0 e).head.kind ≡ SHT_NULL) → v ≡ numbered_head (length parts) names (get_or parts 0 d).head → first ≡ v ∷ []
    → all ≡ first ++ new_heads out (parts_given (take (length parts - 1) (drop 1 parts)))
    → all ≡ new_heads out (numbered_first (length parts) names (parts_given parts))
heads-all out names parts d v first all some null here one are =
    let rest = take_rest parts 1 in
    are
    ∙ ap (λ (hs : List Section). hs ++ new_heads out (parts_given (take (length parts - 1) (drop 1 parts)))) one
    ∙ ap (λ (ps : List GivenPart). v ∷ new_heads out (parts_given ps)) rest
    ∙ ap (λ (h : Section). h ∷ new_heads out (parts_given (drop 1 parts))) here
    ∙ sym (heads-first out names parts d some null)

pub ruleset first_rows = (laid-first, take_rest)

-- a file is as long as its front at least, and as what is laid
front-numbered : (c : Class) (o : Order) (front : List ℕ) (count names : ℕ) → ehdr_size c ≤ length front
    → length (numbered_front c o front count names) ≡ length front
unfolding numbered_front
front-numbered c o front count names header =
    let first = length-with_number o front (shnum_place c) 2 (in_header 0 count) (shnum-inside c (length front) header) in
    let second = length-with_number o (with_number o front (shnum_place c) 2 (in_header 0 count)) (shstrndx_place c) 2 (in_header SHN_XINDEX names)
    (shstrndx-inside c (length (with_number o front (shnum_place c) 2 (in_header 0 count))) (rw first header)) in
    second ∙ first

pub long_front : (c : Class) (o : Order) (front : List ℕ) (count names : ℕ) (ps : List Part) → ehdr_size c ≤ length front → output_limit < length front
    → TooLong (length (with_table c o (laid (numbered_front c o front count names) ps) (new_heads (numbered_front c o front count names) ps))) (at TooLarge 0 0)
long_front c o front count names ps header passes =
    let n = numbered_front c o front count names in
    let same = front-numbered c o front count names header in
    let longer = laid-longer n ps in
    let whole = length-with_table c o (laid n ps) (new_heads n ps) (omega arith) in
    long (omega (arith, passes, same, longer, whole))

-- the file of a front and parts, by what is laid and its headers,
pub parts_file-is : (c : Class) (o : Order) (front out whole : List ℕ) (heads lent : List Section) (ps : List Part) (n names : ℕ) → n ≡ length ps
    → out ≡ numbered_front c o front n names → whole ≡ laid out (numbered_first n names ps) → heads ≡ new_heads out (numbered_first n names ps) → lent ≡ heads
    → with_table c o whole lent ≡ parts_file c o front ps names
unfolding parts_file laid_out
parts_file-is c o front out whole heads lent ps n names n_is out_is whole_is heads_is lent_is =
    ap (with_table c o whole) (lent_is ∙ heads_is) ∙ ap (λ (xs : List ℕ). with_table c o xs (new_heads out (numbered_first n names ps))) whole_is
    ∙ ap (λ (xs : List ℕ). with_table c o (laid xs (numbered_first n names ps)) (new_heads xs (numbered_first n names ps))) out_is
    ∙ ap (λ (m : ℕ). with_table c o (laid (numbered_front c o front m names) (numbered_first m names ps)) (new_heads (numbered_front c o front m names) (numbered_first m names ps))) n_is

-- what passes the limit as it is laid passes it with its headers
pub long_parts_file : (c : Class) (o : Order) (front out : List ℕ) (ps : List Part) (n names : ℕ) (x : Fault) → ehdr_size c ≤ length front → n ≡ length ps
    → out ≡ numbered_front c o front n names → Blames (TooLong (length (laid out (numbered_first n names ps)))) x → Blames (TooLong (length (parts_file c o front ps names))) x
long_parts_file c o front out ps n names x header n_is out_is blamed =
    let inside : ehdr_size c ≤ length out = omega (arith, header, ap length out_is, front-numbered c o front n names header) in
    let whole = long_with_table c o out out (numbered_first n names ps) x refl inside blamed in
    let file = parts_file-is c o front out _ _ _ ps n names n_is out_is refl refl refl in
    subst (λ (xs : List ℕ). Blames (TooLong (length xs)) x) file whole

-- what isn't too long isn't refused
pub long_excludes : (n : ℕ) (r : Refusal) → n ≤ output_limit → TooLong n r → ⊥
long_excludes n r small (long passes) = omega arith

pub ruleset file_rows = (long_front, long_with_table, long_excludes, length-map)

-- a part that is given and laid out is neither NULL nor NOBITS
full-both : (k e : Bool) → (not k && not e) ≡ true → e ≡ false
full-both k false h = refl
full-both true true h = cc
full-both false true h = cc

pub given-full : (parts : List GivenPart) (i : ℕ) (d : Part) → i < length (parts_given parts) → (get_or (parts_given parts) i d).moves ≡ true
    → is_empty_kind (get_or (parts_given parts) i d).head ≡ false
given-full [] i d lt moves = absurd (omega arith)
given-full (p ∷ ps) zero d lt moves = full-both p.kept (is_empty_kind p.head) moves
given-full (p ∷ ps) (suc i) d lt moves = given-full ps i d (omega arith) moves

-- some part
abbrev pub any_part : Part
any_part = record {
  head = record { name = 0; kind = 0; flags = 0; addr = 0; offset = 0; size = 0; link = 0; info = 0; align = 0; entry_size = 0 };
  moves = false;
  body = [];
}
