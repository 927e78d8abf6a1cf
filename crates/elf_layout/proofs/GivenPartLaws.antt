-- Laws of sections that are laid with the items that are given for them, one after another.
use Rattle.std.proofs.Common.{◌≡◌, ℕ, zero, suc, ◌+◌, ◌<◌, ◌≤◌, List, [], ◌∷◌, ◌++◌, length, take, refl, sym, ap, ◌∙◌, subst, arith}
use Rattle.std.specs.Prelude.{Option, None}
use Rattle.std.proofs.lemmas.List.{append-nil, length-take-le, nil_from_length, take_all, take_more}
use Rattle.dw_base.specs.Elf.{ehdr_size, section_count}
use Rattle.dw_base.specs.Layout.{Part, extended, laid, laid_out, new_head, new_heads, part_of, with_table}
use Rattle.dw_base.specs.LayoutFails.{LayoutFails, SectionStays, TooLong}
use Rattle.dw_base.specs.Lists.{tabulate}
use Rattle.dw_base.specs.Refusals.{Blames}
use Rattle.dw_base.specs.declared.fault.Fault.{Fault}
use Rattle.dw_base.specs.declared.fault.Refusal.{Refusal}
use Rattle.dw_base.specs.declared.records.Section.{Section}
use Rattle.dw_base.specs.declared.shared.Class.{Class}
use Rattle.dw_base.specs.declared.shared.Order.{Order}
use Rattle.elf_layout.specs.Given.{AreContents, NewBody, body_given, item_of, part_with, parts_with}
use Rattle.elf_layout.proofs.PartRows.{heads-next, long_parts}
use Rattle.elf_layout.proofs.Rows.{long_with_table}

-- none so far, behind a front
pub laid-start : (b front out : List ℕ) (xs contents : List (Option NewBody)) → out ≡ [] → xs ≡ contents
    → laid (front ++ out) (parts_with b 0 xs) ≡ laid front (parts_with b 0 contents)
laid-start b front out xs contents none is =
    ap (λ (l : List ℕ). laid (front ++ l) (parts_with b 0 xs)) none ∙ ap (λ (l : List ℕ). laid l (parts_with b 0 xs)) (append-nil front)
    ∙ ap (λ (ys : List (Option NewBody)). laid front (parts_with b 0 ys)) is

pub heads-start : (b front out : List ℕ) (xs contents : List (Option NewBody)) (heads : List Section) → out ≡ [] → xs ≡ contents → heads ≡ []
    → heads ++ new_heads (front ++ out) (parts_with b 0 xs) ≡ new_heads front (parts_with b 0 contents)
heads-start b front out xs contents heads none is no_heads =
    ap (λ (hs : List Section). hs ++ new_heads (front ++ out) (parts_with b 0 xs)) no_heads ∙ ap (λ (l : List ℕ). new_heads (front ++ l) (parts_with b 0 xs)) none
    ∙ ap (λ (l : List ℕ). new_heads l (parts_with b 0 xs)) (append-nil front) ∙ ap (λ (ys : List (Option NewBody)). new_heads front (parts_with b 0 ys)) is

-- when none is left, all are laid
pub laid-end : (b : List ℕ) (i : ℕ) (xs : List (Option NewBody)) (so_far whole : List ℕ) → length xs ≡ 0 → laid so_far (parts_with b i xs) ≡ whole → so_far ≡ whole
laid-end b i xs so_far whole none same = sym (ap (λ (ys : List (Option NewBody)). laid so_far (parts_with b i ys)) (nil_from_length xs none)) ∙ same

pub heads-end : (b : List ℕ) (i : ℕ) (xs : List (Option NewBody)) (so_far : List ℕ) (heads whole : List Section) → length xs ≡ 0
    → heads ++ new_heads so_far (parts_with b i xs) ≡ whole → heads ≡ whole
heads-end b i xs so_far heads whole none same =
    sym (append-nil heads) ∙ sym (ap (λ (ys : List (Option NewBody)). heads ++ new_heads so_far (parts_with b i ys)) (nil_from_length xs none)) ∙ same

-- one more, and those behind it
pub laid-more : (b : List ℕ) (i : ℕ) (x : Option NewBody) (rest : List (Option NewBody)) (so_far now whole : List ℕ) → now ≡ extended so_far (part_with b i x)
    → laid so_far (parts_with b i (x ∷ rest)) ≡ whole → laid now (parts_with b (i + 1) rest) ≡ whole
laid-more b i x rest so_far now whole is same = ap (λ (out : List ℕ). laid out (parts_with b (i + 1) rest)) is ∙ same

pub heads-more : (b : List ℕ) (i : ℕ) (x : Option NewBody) (rest : List (Option NewBody)) (so_far now : List ℕ) (h : Section) (heads more whole : List Section)
    → now ≡ extended so_far (part_with b i x) → h ≡ new_head (length so_far) (part_with b i x) → more ≡ heads ++ h ∷ []
    → heads ++ new_heads so_far (parts_with b i (x ∷ rest)) ≡ whole → more ++ new_heads now (parts_with b (i + 1) rest) ≡ whole
heads-more b i x rest so_far now h heads more whole is head pushed same =
    heads-next so_far now (part_with b i x) (parts_with b (i + 1) rest) h heads more whole is head pushed same

-- what passes the limit with some of them passes it with all
pub long-more : (b : List ℕ) (i : ℕ) (x : Option NewBody) (rest : List (Option NewBody)) (so_far whole : List ℕ) (f : Fault)
    → laid so_far (parts_with b i (x ∷ rest)) ≡ whole → Blames (TooLong (length (extended so_far (part_with b i x)))) f → Blames (TooLong (length whole)) f
long-more b i x rest so_far whole f same blamed = long_parts so_far whole (part_with b i x) (parts_with b (i + 1) rest) f same blamed

pub ruleset laid_rules = (laid-more, heads-more, long-more)

-- they are the sections of the layout with these bodies
part-is : (b : List ℕ) (contents : List (Option NewBody)) (i : ℕ) → part_with b i (item_of contents i) ≡ part_of b (body_given b contents) i
unfolding part_of body_given
part-is b contents i = refl

parts-push : (b : List ℕ) (i n : ℕ) (xs : List (Option NewBody)) (y : Option NewBody) → i + length xs ≡ n
    → parts_with b i (xs ++ y ∷ []) ≡ parts_with b i xs ++ part_with b n y ∷ []
parts-push b i n [] y is = let e : i ≡ n = omega (arith, is) in ap (λ (k : ℕ). part_with b k y ∷ []) e
parts-push b i n (x ∷ xs) y is = ap (λ (ps : List Part). part_with b i x ∷ ps) (parts-push b (i + 1) n xs y (omega (arith, is)))

parts-upto : (b : List ℕ) (contents : List (Option NewBody)) (n : ℕ) → n ≤ length contents
    → parts_with b 0 (take n contents) ≡ tabulate (part_of b (body_given b contents)) n
parts-upto b contents zero le = refl
parts-upto b contents (suc n) le =
    let next : suc n ≡ n + 1 = omega arith in
    let lt : n < length contents = omega (arith, le) in
    let more : take (suc n) contents ≡ take n contents ++ item_of contents n ∷ [] = ap (λ (k : ℕ). take k contents) next ∙ take_more contents n None lt in
    ap (parts_with b 0) more
    ∙ parts-push b 0 n (take n contents) (item_of contents n) (omega (arith, length-take-le n contents (omega (arith, le))))
    ∙ ap (λ (ps : List Part). ps ++ part_with b n (item_of contents n) ∷ []) (parts-upto b contents n (omega (arith, le)))
    ∙ ap (λ (p : Part). tabulate (part_of b (body_given b contents)) n ++ p ∷ []) (part-is b contents n)

pub parts-are : (b : List ℕ) (contents : List (Option NewBody)) → length contents ≡ section_count b
    → parts_with b 0 contents ≡ tabulate (part_of b (body_given b contents)) (section_count b)
parts-are b contents each =
    ap (parts_with b 0) (sym (take_all (section_count b) contents (omega (arith, each))))
    ∙ parts-upto b contents (section_count b) (omega (arith, each))

-- the file of a front, what is laid behind it and a table
pub table-is : (c : Class) (o : Order) (b front items now behind : List ℕ) (heads lent : List Section) (contents : List (Option NewBody)) → length contents ≡ section_count b
    → items ≡ front → now ≡ items → now ++ behind ≡ laid now (parts_with b 0 contents) → heads ≡ new_heads now (parts_with b 0 contents) → lent ≡ heads
    → with_table c o (items ++ behind) lent ≡ laid_out c o front (tabulate (part_of b (body_given b contents)) (section_count b))
unfolding laid_out
table-is c o b front items now behind heads lent contents each items_is now_is laid_is heads_is lent_is =
    let same : now ≡ front = now_is ∙ items_is in
    ap (λ (xs : List ℕ). with_table c o (xs ++ behind) lent) (sym now_is) ∙ ap (λ (xs : List ℕ). with_table c o xs lent) laid_is
    ∙ ap (with_table c o (laid now (parts_with b 0 contents))) (lent_is ∙ heads_is)
    ∙ ap (λ (xs : List ℕ). with_table c o (laid xs (parts_with b 0 contents)) (new_heads xs (parts_with b 0 contents))) same
    ∙ ap (λ (ps : List Part). with_table c o (laid front ps) (new_heads front ps)) (parts-are b contents each)

pub long-table : (c : Class) (o : Order) (b front items now behind : List ℕ) (heads lent : List Section) (contents : List (Option NewBody)) (f : Fault)
    → length contents ≡ section_count b → items ≡ front → now ≡ items → now ++ behind ≡ laid now (parts_with b 0 contents)
    → heads ≡ new_heads now (parts_with b 0 contents) → lent ≡ heads → Blames (TooLong (length (with_table c o (items ++ behind) lent))) f
    → Blames (TooLong (length (laid_out c o front (tabulate (part_of b (body_given b contents)) (section_count b))))) f
long-table c o b front items now behind heads lent contents f each items_is now_is laid_is heads_is lent_is blamed =
    subst (λ (xs : List ℕ). Blames (TooLong (length xs)) f)
    (table-is c o b front items now behind heads lent contents each items_is now_is laid_is heads_is lent_is) blamed

-- what passes the limit without a table passes it with one
pub long-laid : (c : Class) (o : Order) (b front items now : List ℕ) (contents : List (Option NewBody)) (f : Fault) → length contents ≡ section_count b
    → items ≡ front → now ≡ items → ehdr_size c ≤ length items → Blames (TooLong (length (laid now (parts_with b 0 contents)))) f
    → Blames (TooLong (length (laid_out c o front (tabulate (part_of b (body_given b contents)) (section_count b))))) f
unfolding laid_out
long-laid c o b front items now contents f each items_is now_is header blamed =
    long_with_table c o front items (tabulate (part_of b (body_given b contents)) (section_count b)) f items_is header
    (subst (λ (xs : List ℕ). Blames (TooLong (length (laid xs (tabulate (part_of b (body_given b contents)) (section_count b))))) f) now_is
    (subst (λ (ps : List Part). Blames (TooLong (length (laid now ps))) f) (parts-are b contents each) blamed))

pub ruleset file_rules = (table-is, long-table, long-laid)

-- ### By the slice that is passed

pub lent-contents : (b : List ℕ) (items now : List (Option NewBody)) → now ≡ items → AreContents b items → AreContents b now
lent-contents b items now same are = subst (AreContents b) (sym same) are

pub lent-none : (b : List ℕ) (items now : List (Option NewBody)) → now ≡ items
    → ((i : ℕ) (r : Refusal) → i < section_count b → SectionStays b (body_given b now) i r → ⊥)
    → (i : ℕ) (r : Refusal) → i < section_count b → SectionStays b (body_given b items) i r → ⊥
lent-none b items now same none i r lt stays = none i r lt (subst (λ (xs : List (Option NewBody)). SectionStays b (body_given b xs) i r) (sym same) stays)

pub lent-blamed : (b : List ℕ) (items now : List (Option NewBody)) (f : Fault) → now ≡ items → Blames (LayoutFails b (body_given b now)) f
    → Blames (LayoutFails b (body_given b items)) f
lent-blamed b items now f same blamed = subst (λ (xs : List (Option NewBody)). Blames (LayoutFails b (body_given b xs)) f) same blamed

pub ruleset lent_rules = (lent-contents, lent-none, lent-blamed)
