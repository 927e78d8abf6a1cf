-- Units are printed one after another: each with its entries, each entry with its attributes.
use Rattle.std.proofs.Common.{suc, ◌≡◌, ℕ, ◌+◌, ◌<◌, ◌≤◌, List, [], ◌∷◌, ◌++◌, length, drop, drop-cons, get_or, Some, None, sym, ap, ◌∙◌, subst, arith, append_assoc, append-nil}
use Rattle.std.proofs.lemmas.List.{drop_all}
use Rattle.dw_base.specs.Values.{value_at}
use Rattle.dw_base.specs.declared.units.Scanned.{Scanned}
use Rattle.dw_base.specs.declared.values.Spec.{Spec}
use Rattle.dw_base.specs.declared.values.Value.{Value}
use Rattle.file_tree.specs.Heard.{Heard}
use Rattle.dbg_show.specs.Printing.{Printed, Cut, Goes}
use Rattle.dw_attrs.specs.UnitValues.{UnitSource, SaidUnit}
use Rattle.dbg_show.specs.ShownUnits.{all_shown, entries_text, entry_text, one_shown, value_shown, values_behind, values_shown}
use Rattle.dw_attrs.specs.UnitReads.{AllCanRead, SourceFits}
use Rattle.dbg_show.specs.UnitTexts.{attribute_line}
use Rattle.dw_units.specs.declared.listed_unit.ListedUnit.{ListedUnit}
use Rattle.dbg_show.specs.declared.show_err.ShowErr.{ShowErr}
use Rattle.dbg_show.proofs.PrintingLaws.{goes-start, goes-more, goes-over, goes-cut}
use Rattle.dw_attrs.proofs.SourceLaws.{each-reads}

values-one : (u : SaidUnit) (xs : List Spec) (i place : ℕ) (d : Spec) → i < length xs
    → values_shown u (drop i xs) place ≡ values_behind (λ p. values_shown u (drop (i + 1) xs) p) u (get_or xs i d) place (value_at u.header.params (get_or xs i d) u.bytes place)
values-one u xs i place d lt =
    let next : suc i ≡ i + 1 = omega arith in
    ap (λ (ys : List Spec). values_shown u ys place) (drop-cons xs i d lt)
    ∙ ap (λ (n : ℕ). values_behind (λ p. values_shown u (drop n xs) p) u (get_or xs i d) place (value_at u.header.params (get_or xs i d) u.bytes place)) next

pub values-start : (u : SaidUnit) (xs : List Spec) (from : ℕ) (before : List ℕ) (h : Heard) → Goes (values_shown u xs from) (values_shown u (drop 0 xs) from) before h h before
values-start u xs from before h = goes-start (values_shown u xs from) before h

pub values-more : (u : SaidUnit) (xs : List Spec) (i place : ℕ) (d : Spec) (v : Value) (total before between behind : List ℕ) (old mid new : Heard)
    → Goes total (values_shown u (drop i xs) place) before old mid between → i < length xs → Some v ≡ value_at u.header.params (get_or xs i d) u.bytes place
    → Printed (attribute_line (get_or xs i d).name (value_shown u (get_or xs i d) place v)) between mid new behind
    → Goes total (values_shown u (drop (i + 1) xs) (place + v.size)) before old new behind
values-more u xs i place d v total before between behind old mid new goes lt is p =
    goes-more total (attribute_line (get_or xs i d).name (value_shown u (get_or xs i d) place v)) (values_shown u (drop (i + 1) xs) (place + v.size)) before between behind old mid new
    (subst (λ (x : List ℕ). Goes total x before old mid between)
    (values-one u xs i place d lt ∙ ap (values_behind (λ p. values_shown u (drop (i + 1) xs) p) u (get_or xs i d) place) (sym is)) goes) p

pub values-over : (u : SaidUnit) (xs : List Spec) (i place : ℕ) (total before behind : List ℕ) (old new : Heard)
    → Goes total (values_shown u (drop i xs) place) before old new behind → length xs ≤ i → Printed total before old new behind
values-over u xs i place total before behind old new goes le =
    goes-over total before behind old new
    (subst (λ (x : List ℕ). Goes total x before old new behind) (ap (λ (ys : List Spec). values_shown u ys place) (drop_all i xs le)) goes)

pub values-none : (u : SaidUnit) (xs : List Spec) (i place : ℕ) (d : Spec) (total before behind : List ℕ) (old new : Heard)
    → Goes total (values_shown u (drop i xs) place) before old new behind → i < length xs → None ≡ value_at u.header.params (get_or xs i d) u.bytes place
    → Printed total before old new behind
values-none u xs i place d total before behind old new goes lt is =
    goes-over total before behind old new
    (subst (λ (x : List ℕ). Goes total x before old new behind)
    (values-one u xs i place d lt ∙ ap (values_behind (λ p. values_shown u (drop (i + 1) xs) p) u (get_or xs i d) place) (sym is)) goes)

pub values-cut : (u : SaidUnit) (xs : List Spec) (i place : ℕ) (d : Spec) (v : Value) (total before between : List ℕ) (old mid new : Heard) (e : ShowErr)
    → Goes total (values_shown u (drop i xs) place) before old mid between → i < length xs → Some v ≡ value_at u.header.params (get_or xs i d) u.bytes place
    → Cut (between ++ attribute_line (get_or xs i d).name (value_shown u (get_or xs i d) place v)) mid new e → Cut (before ++ total) old new e
values-cut u xs i place d v total before between old mid new e goes lt is c =
    goes-cut total (attribute_line (get_or xs i d).name (value_shown u (get_or xs i d) place v)) (values_shown u (drop (i + 1) xs) (place + v.size)) before between old mid new e
    (subst (λ (x : List ℕ). Goes total x before old mid between)
    (values-one u xs i place d lt ∙ ap (values_behind (λ p. values_shown u (drop (i + 1) xs) p) u (get_or xs i d) place) (sym is)) goes) c

pub ruleset values_loop = (values-start, values-more)

-- entries one after another
pub entries-append : (u : SaidUnit) (n : ℕ) (xs ys : List Scanned) → entries_text u n (xs ++ ys) ≡ entries_text u n xs ++ entries_text u (n + length xs) ys
entries-append u n [] ys =
    let same : n ≡ n + 0 = omega arith in
    ap (λ (k : ℕ). entries_text u k ys) same
entries-append u n (x ∷ xs) ys =
    let same : n + 1 + length xs ≡ n + suc (length xs) = omega arith in
    ap (λ (t : List ℕ). entry_text u n x ++ t) (entries-append u (n + 1) xs ys ∙ ap (λ (k : ℕ). entries_text u (n + 1) xs ++ entries_text u k ys) same)
    ∙ sym (append_assoc (entry_text u n x) (entries_text u (n + 1) xs) (entries_text u (n + suc (length xs)) ys))

pub entries-one : (u : SaidUnit) (number : ℕ) (xs : List Scanned) (e : Scanned) → number ≡ length xs
    → entries_text u 0 (xs ++ e ∷ []) ≡ entries_text u 0 xs ++ entry_text u number e
entries-one u number xs e is =
    let same : 0 + length xs ≡ number = omega (arith, is) in
    entries-append u 0 xs (e ∷ []) ∙ ap (λ (k : ℕ). entries_text u 0 xs ++ (entry_text u k e ++ [])) same
    ∙ ap (λ (t : List ℕ). entries_text u 0 xs ++ t) (append-nil (entry_text u number e))

pub nothing-printed : (before : List ℕ) (h : Heard) → Printed [] before h h before
nothing-printed before h = goes-over [] before before h h (goes-start [] before h)

-- units, printed from the front
unit-first : (g : UnitSource) (us : List ListedUnit) (i : ℕ) (d : ListedUnit) → i < length us
    → all_shown g i (drop i us) ≡ one_shown g i (get_or us i d) ++ all_shown g (i + 1) (drop (i + 1) us)
unit-first g us i d lt =
    let next : suc i ≡ i + 1 = omega arith in
    ap (all_shown g i) (drop-cons us i d lt) ∙ ap (λ (n : ℕ). one_shown g i (get_or us i d) ++ all_shown g (i + 1) (drop n us)) next

pub units-start : (g : UnitSource) (us : List ListedUnit) (before : List ℕ) (h : Heard) → Goes (all_shown g 0 us) (all_shown g 0 (drop 0 us)) before h h before
units-start g us before h = goes-start (all_shown g 0 us) before h

pub units-more : (g : UnitSource) (us : List ListedUnit) (i : ℕ) (d : ListedUnit) (total before between behind : List ℕ) (old mid new : Heard)
    → Goes total (all_shown g i (drop i us)) before old mid between → i < length us
    → Printed (one_shown g i (get_or us i d)) between mid new behind → Goes total (all_shown g (i + 1) (drop (i + 1) us)) before old new behind
units-more g us i d total before between behind old mid new goes lt p =
    goes-more total (one_shown g i (get_or us i d)) (all_shown g (i + 1) (drop (i + 1) us)) before between behind old mid new
    (subst (λ (x : List ℕ). Goes total x before old mid between) (unit-first g us i d lt) goes) p

pub units-over : (g : UnitSource) (us : List ListedUnit) (i : ℕ) (total before behind : List ℕ) (old new : Heard)
    → Goes total (all_shown g i (drop i us)) before old new behind → length us ≤ i → Printed total before old new behind
units-over g us i total before behind old new goes le =
    goes-over total before behind old new (subst (λ (x : List ℕ). Goes total x before old new behind) (ap (all_shown g i) (drop_all i us le)) goes)

pub units-cut : (g : UnitSource) (us : List ListedUnit) (i : ℕ) (u d : ListedUnit) (total before between : List ℕ) (old mid new : Heard) (e : ShowErr)
    → Goes total (all_shown g i (drop i us)) before old mid between → i < length us → u ≡ get_or us i d → Cut (between ++ one_shown g i u) mid new e
    → Cut (before ++ total) old new e
units-cut g us i u d total before between old mid new e goes lt is c =
    goes-cut total (one_shown g i u) (all_shown g (i + 1) (drop (i + 1) us)) before between old mid new e
    (subst (λ (x : List ℕ). Goes total x before old mid between)
    (unit-first g us i d lt ∙ ap (λ (x : ListedUnit). one_shown g i x ++ all_shown g (i + 1) (drop (i + 1) us)) (sym is)) goes) c

pub ruleset units_loop = (units-start, units-more, each-reads)

-- the units of a source
pub source-units : (g : UnitSource) → SourceFits g → AllCanRead g.view g.tables g.units
source-units g fits = fits.units

pub ruleset source_laws = (source-units)
