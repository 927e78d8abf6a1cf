-- A file that was written with new bodies for some sections, and how long it is.
use Rattle.std.proofs.Common.{Bool, true, false, ◌≡◌, ◌≢◌, ℕ, suc, ◌<◌, ◌≤◌, ◌==◌, not, List, [], ◌∷◌, ◌++◌, length, take, replicate, if◌then◌else◌, cond, Option, Some, None, refl, sym, ap, ◌∙◌, subst, arith}
use Rattle.std.proofs.lemmas.Bool.{and_parts, true≢false}
use Rattle.std.proofs.lemmas.List.{length-append, length-take}
use Rattle.std.proofs.lemmas.Bool.Decides.{nat_tests}
use Rattle.dw_meaning.specs.DataOutput.{Body}
use Rattle.dw_base.specs.Elf.{class_of, contents_of, order_of, ehdr_size, is_empty_kind, nth_section, section_count}
use Rattle.dw_base.specs.ElfFails.{ElfReads}
use Rattle.dw_base.specs.Layout.{Part, output_limit, padding, part_of, laid, extended, placed, with_bodies, laid_out, fixed_end, new_heads}
use Rattle.dw_base.specs.LayoutFails.{LayoutFails, LayoutFits}
use Rattle.dw_base.specs.LayoutFails.LayoutFails.{section, large}
use Rattle.dw_base.specs.LayoutFails.SectionStays.{changed, across, in_header}
use Rattle.dw_base.specs.LayoutFails.TooLong.{long}
use Rattle.dw_base.specs.LayoutReads.{ReadsBack}
use Rattle.dw_base.specs.Lists.{tabulate}
use Rattle.dw_base.specs.Refusals.{Blames}
use Rattle.dw_base.specs.declared.fault.Fault.{Fault}
use Rattle.dw_base.specs.declared.fault.Fault.TheVariants.{NoMemory, Refused}
use Rattle.dw_base.specs.declared.fault.Refusal.{Refusal}
use Rattle.dw_meaning.proofs.LayoutRowLaws.{layout_fits}
use Rattle.dw_base.proofs.LayoutLaws.{laid-append, laid_tabulate-longer, length-with_table, fixed_end-header}
use Rattle.dw_base.proofs.ReadsBackLaws.{reads_back-same, with_bodies-same}
use Rattle.elf_layout.specs.Given.{AreContents, NewBody, body_given, given_or, item_of}
use Rattle.dw_rewrite.specs.Rewritten.{AllStand, AreGiven, bytes_given, bytes_or, body_with, is_of, item_bytes}

-- What stands in the way of a layout depends on the bodies of the sections alone.
pub layout_same : (b : List ℕ) (f g : ℕ → List ℕ) (r : Refusal) → ((i : ℕ) → i < section_count b → f i ≡ g i) → LayoutFails b f r → LayoutFails b g r
layout_same b f g r same (section i lt (changed h)) = section i lt (changed (record { stays = h.stays; body = λ e. h.body (same i lt ∙ e) }))
layout_same b f g r same (section i lt (across h)) = section i lt (across h)
layout_same b f g r same (section i lt (in_header h)) = section i lt (in_header h)
layout_same b f g r same (large (long over)) = large (long (subst (λ (x : List ℕ). output_limit < length x) (with_bodies-same b f g same) over))

-- and so does that it can be written
pub fits_same : (b : List ℕ) (f g : ℕ → List ℕ) → ((i : ℕ) → i < section_count b → f i ≡ g i) → LayoutFits b f → LayoutFits b g
fits_same b f g same ok = record {
  stays = λ i lt fixed. sym (same i lt) ∙ ok.stays i lt fixed;
  across = ok.across;
  in_header = ok.in_header;
  small = subst (λ (x : List ℕ). length x ≤ output_limit) (with_bodies-same b f g same) ok.small;
}

-- The body that is given for a section is that of its item.
bytes_of_item : (o : Option NewBody) (own : List ℕ) → given_or o own ≡ bytes_or (item_bytes o) own
bytes_of_item None own = refl
bytes_of_item (Some v) own = refl

given_same : (b : List ℕ) (items : List (Option NewBody)) (bodies : List Body) → AreGiven b items bodies → (i : ℕ) → i < section_count b
    → body_given b items i ≡ body_with b bodies i
unfolding body_given
given_same b items bodies g i lt =
    bytes_of_item (item_of items i) (contents_of b i) ∙ ap (λ (o : Option (List ℕ)). bytes_or o (contents_of b i)) (g.given i lt)

-- a section without bytes in the file is given none
none_at : (b : List ℕ) (xs : List Body) (i : ℕ) → AllStand b xs → is_empty_kind (nth_section b i) ≡ true → bytes_given xs i ≡ None
none_at b [] i stand empty = refl
none_at b (x ∷ xs) i stand empty = by_number (is_of x i) refl (none_at b xs i stand.1 empty)
  where
    not_zero : (t : Bool) → (x.number == 0) ≡ t → not t ≡ true → x.number ≢ 0
    not_zero true e some = absurd cc
    not_zero false e some = grind (arith, nat_tests, e)

    by_number : (t : Bool) → is_of x i ≡ t → bytes_given xs i ≡ None → (if t then Some x.bytes else bytes_given xs i) ≡ None
    by_number true e rest =
        let parts = and_parts (not (x.number == 0)) (i == x.number) e in
        let same : i ≡ x.number = grind (arith, nat_tests, parts.1) in
        let full : is_empty_kind (nth_section b x.number) ≡ false = stand.0.full (not_zero (x.number == 0) refl parts.0) in
        absurd (true≢false (sym empty ∙ ap (λ (k : ℕ). is_empty_kind (nth_section b k)) same ∙ full))
    by_number false e rest = rest

no_item : (o : Option NewBody) → item_bytes o ≡ None → o ≡ None
no_item None e = refl
no_item (Some v) e = absurd cc

pub given_contents : (b : List ℕ) (now items : List (Option NewBody)) (bodies : List Body) → AllStand b bodies → now ≡ items → AreGiven b items bodies
    → AreContents b now
given_contents b now items bodies stand same g = subst (λ (l : List (Option NewBody)). AreContents b l) (sym same) (record {
  each = g.each;
  none = λ i lt empty. no_item (item_of items i) (g.given i lt ∙ none_at b bodies i stand empty);
})

-- a layout that is refused
pub refused_layout : (b : List ℕ) (now items : List (Option NewBody)) (bodies : List Body) (f : Fault) → now ≡ items → AreGiven b items bodies
    → Blames (LayoutFails b (body_given b now)) f → Blames (LayoutFails b (body_with b bodies)) f
refused_layout b now items bodies NoMemory same g h = tt
refused_layout b now items bodies (Refused r) same g h =
    layout_same b (body_given b items) (body_with b bodies) r (given_same b items bodies g)
    (subst (λ (l : List (Option NewBody)). LayoutFails b (body_given b l) r) same h)

-- what was written
pub written_file : (b : List ℕ) (now items : List (Option NewBody)) (bodies : List Body) (out : List ℕ) → now ≡ items → AreGiven b items bodies
    → out ≡ with_bodies b (body_given b now) → out ≡ with_bodies b (body_with b bodies)
written_file b now items bodies out same g made =
    made ∙ ap (λ (l : List (Option NewBody)). with_bodies b (body_given b l)) same
    ∙ with_bodies-same b (body_given b items) (body_with b bodies) (given_same b items bodies g)

-- reads back
pub written_back : (b : List ℕ) (now items : List (Option NewBody)) (bodies : List Body) (out : List ℕ) → ElfReads b → now ≡ items
    → AreGiven b items bodies → ReadsBack b (body_given b now) out → ReadsBack b (body_with b bodies) out
written_back b now items bodies out reads same g back =
    reads_back-same b out (body_given b items) (body_with b bodies) (given_same b items bodies g) reads.debug.index.there
    (subst (λ (l : List (Option NewBody)). ReadsBack b (body_given b l) out) same back)

-- and fits
pub written_fits : (b : List ℕ) (now items : List (Option NewBody)) (bodies : List Body) → now ≡ items → AreGiven b items bodies
    → ((r : Refusal) → LayoutFails b (body_given b now) r → ⊥) → LayoutFits b (body_with b bodies)
written_fits b now items bodies same g none =
    fits_same b (body_given b items) (body_with b bodies) (given_same b items bodies g)
    (subst (λ (l : List (Option NewBody)). LayoutFits b (body_given b l)) same (layout_fits b (body_given b now) none))

pub ruleset written_rules = (given_contents, refused_layout, written_file, written_back, written_fits)

-- a section that is laid out anew is in the bytes
length-placed : (p : Part) (n : ℕ) → length p.body ≤ length (placed n p)
unfolding placed
length-placed p n = omega (arith, length-append (replicate (padding n p.head.align) 0) p.body)

length-extended : (out : List ℕ) (p : Part) → p.moves ≡ true → length p.body ≤ length (extended out p)
length-extended out p moves = by_moves p.moves moves
  where
    by_moves : (m : Bool) → m ≡ true → length p.body ≤ length (cond m (out ++ placed (length out) p) out)
    by_moves true e = omega (arith, length-append out (placed (length out) p), length-placed p (length out))
    by_moves false e = absurd cc

-- so a written file is at least as long as each body that is laid out anew
pub length-moved : (b : List ℕ) (bodies : ℕ → List ℕ) (i : ℕ) → i < section_count b → fixed_end b ≤ length b → (part_of b bodies i).moves ≡ true
    → length (part_of b bodies i).body ≤ length (with_bodies b bodies)
unfolding with_bodies laid_out
length-moved b bodies i lt fixed moves =
    let f : ℕ → Part = part_of b bodies in
    let front : List ℕ = take (fixed_end b) b in
    let some : (section_count b == 0) ≡ false = grind (arith, nat_tests) in
    let one : laid front (tabulate f (suc i)) ≡ extended (laid front (tabulate f i)) (f i) = laid-append front (tabulate f i) (f i ∷ []) in
    let body : length (f i).body ≤ length (extended (laid front (tabulate f i)) (f i)) = length-extended (laid front (tabulate f i)) (f i) moves in
    let upto : length (f i).body ≤ length (laid front (tabulate f (suc i))) = subst (λ (x : List ℕ). length (f i).body ≤ length x) (sym one) body in
    let whole : length (laid front (tabulate f (suc i))) ≤ length (laid front (tabulate f (section_count b))) = laid_tabulate-longer front f (suc i) (section_count b) (omega arith) in
    let start : length front ≤ length (laid front (tabulate f (section_count b))) = laid_tabulate-longer front f 0 (section_count b) (omega arith) in
    let header : ehdr_size (class_of b) ≤ length (laid front (tabulate f (section_count b))) =
    omega (arith, fixed_end-header b, length-take (fixed_end b) b, start) in
    let table = length-with_table (class_of b) (order_of b) (laid front (tabulate f (section_count b))) (new_heads front (tabulate f (section_count b))) header in
    rw some (omega (arith, upto, whole, table))
