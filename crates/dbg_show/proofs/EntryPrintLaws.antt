-- An entry and a unit are printed: its line, and what stands in it.
use Rattle.std.proofs.Common.{◌≡◌, ℕ, ◌+◌, List, [], ◌++◌, Option, Some, None, sym, ap, ◌∙◌, subst}
use Rattle.std.specs.Prelude.{IfErr, OnOk, Result, Ok, Err}
use Rattle.dw_base.specs.AbbreviationTables.{Abbreviation, abbreviation_of}
use Rattle.dw_base.specs.Lebs.{uleb_at}
use Rattle.dw_base.specs.declared.units.Scanned.{Scanned}
use Rattle.dw_base.specs.declared.units.UnitHeader.{UnitHeader}
use Rattle.dw_base.specs.declared.values.Spec.{Spec}
use Rattle.file_tree.specs.Heard.{Heard}
use Rattle.dbg_show.specs.Printing.{Printed, Cut}
use Rattle.dw_attrs.specs.UnitValues.{UnitSource, SaidUnit, said_unit, unit_bytes, unit_entries}
use Rattle.dbg_show.specs.ShownUnits.{entries_text, entry_coded, entry_listed, entry_text, tabled_text, values_shown}
use Rattle.dbg_show.specs.UnitTexts.{entry_line}
use Rattle.dbg_show.specs.declared.show_err.ShowErr.{ShowErr}
use Rattle.dbg_show.proofs.PrintingLaws.{goes-start, goes-over, printed-then, cut-then, cut-more}
use Rattle.dw_attrs.proofs.SaidUnitLaws.{each-there}

-- nothing is printed
pub nothing : (before : List ℕ) (h : Heard) (t : List ℕ) → t ≡ [] → Printed t before h h before
nothing before h t e = subst (λ (x : List ℕ). Printed x before h h before) (sym e) (goes-over [] before before h h (goes-start [] before h))

pub entry-uncoded : (u : SaidUnit) (number : ℕ) (e : Scanned) (before : List ℕ) (h : Heard) → None ≡ uleb_at u.bytes e.offset → Printed (entry_text u number e) before h h before
unfolding entry_text
entry-uncoded u number e before h is = nothing before h (entry_coded u number e (uleb_at u.bytes e.offset)) (ap (entry_coded u number e) (sym is))

pub entry-unlisted : (u : SaidUnit) (number code size : ℕ) (e : Scanned) (before : List ℕ) (h : Heard) → Some (code, size) ≡ uleb_at u.bytes e.offset
    → None ≡ abbreviation_of u.table code → Printed (entry_text u number e) before h h before
unfolding entry_text
entry-unlisted u number code size e before h is none =
    nothing before h (entry_coded u number e (uleb_at u.bytes e.offset))
    (ap (entry_coded u number e) (sym is) ∙ ap (entry_listed u number e (e.offset + size)) (sym none))

entry-is : (u : SaidUnit) (number code size : ℕ) (e : Scanned) (a : Abbreviation) → Some (code, size) ≡ uleb_at u.bytes e.offset → Some a ≡ abbreviation_of u.table code
    → entry_line number e.depth a.tag ++ values_shown u a.specs (e.offset + size) ≡ entry_text u number e
unfolding entry_text
entry-is u number code size e a is listed =
    sym (ap (entry_coded u number e) (sym is) ∙ ap (entry_listed u number e (e.offset + size)) (sym listed))

pub entry-printed : (u : SaidUnit) (number code size : ℕ) (e : Scanned) (a : Abbreviation) (before between behind : List ℕ) (old mid new : Heard)
    → Some (code, size) ≡ uleb_at u.bytes e.offset → Some a ≡ abbreviation_of u.table code
    → Printed (entry_line number e.depth a.tag) before old mid between → Printed (values_shown u a.specs (e.offset + size)) between mid new behind
    → Printed (entry_text u number e) before old new behind
entry-printed u number code size e a before between behind old mid new is listed p q =
    subst (λ (x : List ℕ). Printed x before old new behind) (entry-is u number code size e a is listed)
    (printed-then (entry_line number e.depth a.tag) (values_shown u a.specs (e.offset + size)) before between behind old mid new p q)

pub entry-cut : (u : SaidUnit) (number code size : ℕ) (e : Scanned) (a : Abbreviation) (before : List ℕ) (old new : Heard) (err : ShowErr)
    → Some (code, size) ≡ uleb_at u.bytes e.offset → Some a ≡ abbreviation_of u.table code
    → Cut (before ++ entry_line number e.depth a.tag) old new err → Cut (before ++ entry_text u number e) old new err
entry-cut u number code size e a before old new err is listed c =
    subst (λ (x : List ℕ). Cut (before ++ x) old new err) (entry-is u number code size e a is listed)
    (cut-more (entry_line number e.depth a.tag) (values_shown u a.specs (e.offset + size)) before old new err c)

pub values-cut-then : (u : SaidUnit) (number code size : ℕ) (e : Scanned) (a : Abbreviation) (before between : List ℕ) (old mid new : Heard) (err : ShowErr)
    → Some (code, size) ≡ uleb_at u.bytes e.offset → Some a ≡ abbreviation_of u.table code
    → Printed (entry_line number e.depth a.tag) before old mid between → Cut (between ++ values_shown u a.specs (e.offset + size)) mid new err
    → Cut (before ++ entry_text u number e) old new err
values-cut-then u number code size e a before between old mid new err is listed p c =
    subst (λ (x : List ℕ). Cut (before ++ x) old new err) (entry-is u number code size e a is listed)
    (cut-then (entry_line number e.depth a.tag) (values_shown u a.specs (e.offset + size)) before between old mid new err p c)

-- the same at the end, where the values went through or not
pub entry-done : {X E : Type 0} (x : Result X E) (u : SaidUnit) (number code size : ℕ) (e : Scanned) (a : Abbreviation) (xs : List Spec) (before between behind : List ℕ) (old mid new : Heard)
    → Some (code, size) ≡ uleb_at u.bytes e.offset → Some a ≡ abbreviation_of u.table code → xs ≡ a.specs
    → Printed (entry_line number e.depth a.tag) before old mid between → OnOk x (Printed (values_shown u xs (e.offset + size)) between mid new behind)
    → OnOk x (Printed (entry_text u number e) before old new behind)
entry-done (Ok y) u number code size e a xs before between behind old mid new is listed same p q =
    entry-printed u number code size e a before between behind old mid new is listed p
    (subst (λ (ys : List Spec). Printed (values_shown u ys (e.offset + size)) between mid new behind) same q)
entry-done (Err f) u number code size e a xs before between behind old mid new is listed same p q = tt

pub entry-ended : {X : Type 0} (x : Result X ShowErr) (u : SaidUnit) (number code size : ℕ) (e : Scanned) (a : Abbreviation) (xs : List Spec) (before between : List ℕ) (old mid new : Heard)
    → Some (code, size) ≡ uleb_at u.bytes e.offset → Some a ≡ abbreviation_of u.table code → xs ≡ a.specs
    → Printed (entry_line number e.depth a.tag) before old mid between → IfErr x (Cut (between ++ values_shown u xs (e.offset + size)) mid new)
    → IfErr x (Cut (before ++ entry_text u number e) old new)
entry-ended (Ok y) u number code size e a xs before between old mid new is listed same p c = tt
entry-ended (Err f) u number code size e a xs before between old mid new is listed same p c =
    values-cut-then u number code size e a before between old mid new f is listed p (subst (λ (ys : List Spec). Cut (between ++ values_shown u ys (e.offset + size)) mid new f) same c)

pub ruleset entry_laws = (entry-uncoded, entry-unlisted, entry-cut, entry-done, entry-ended)

pub ruleset unit_laws = (each-there, printed-then, cut-then, cut-more)

-- its table
pub tabled-printed : (g : UnitSource) (number : ℕ) (h : UnitHeader) (o : Option (List Abbreviation)) (t : List Abbreviation) (before behind : List ℕ) (old new : Heard) → Some t ≡ o
    → Printed (entries_text (said_unit g number h t) 0 (unit_entries h t (unit_bytes g.view h))) before old new behind → Printed (tabled_text g number h o) before old new behind
tabled-printed g number h o t before behind old new is p = subst (λ (x : Option (List Abbreviation)). Printed (tabled_text g number h x) before old new behind) is p

pub tabled-cut : (g : UnitSource) (number : ℕ) (h : UnitHeader) (o : Option (List Abbreviation)) (t : List Abbreviation) (before : List ℕ) (old new : Heard) (e : ShowErr) → Some t ≡ o
    → Cut (before ++ entries_text (said_unit g number h t) 0 (unit_entries h t (unit_bytes g.view h))) old new e → Cut (before ++ tabled_text g number h o) old new e
tabled-cut g number h o t before old new e is c = subst (λ (x : Option (List Abbreviation)). Cut (before ++ tabled_text g number h x) old new e) is c

-- a unit as it was made is that with its own bytes
pub said-printed : (g : UnitSource) (number : ℕ) (h : UnitHeader) (t : List Abbreviation) (u : SaidUnit) (before behind : List ℕ) (old new : Heard) → u ≡ said_unit g number h t
    → Printed (entries_text u 0 (unit_entries u.header u.table u.bytes)) before old new behind
    → Printed (entries_text (said_unit g number h t) 0 (unit_entries h t (unit_bytes g.view h))) before old new behind
said-printed g number h t u before behind old new is p =
    subst (λ (w : SaidUnit). Printed (entries_text w 0 (unit_entries w.header w.table w.bytes)) before old new behind) is p

pub said-cut : (g : UnitSource) (number : ℕ) (h : UnitHeader) (t : List Abbreviation) (u : SaidUnit) (before : List ℕ) (old new : Heard) (e : ShowErr) → u ≡ said_unit g number h t
    → Cut (before ++ entries_text u 0 (unit_entries u.header u.table u.bytes)) old new e
    → Cut (before ++ entries_text (said_unit g number h t) 0 (unit_entries h t (unit_bytes g.view h))) old new e
said-cut g number h t u before old new e is c =
    subst (λ (w : SaidUnit). Cut (before ++ entries_text w 0 (unit_entries w.header w.table w.bytes)) old new e) is c

pub ruleset said_laws = (said-printed, said-cut)
