-- From the units of all sections in one list to what the pieces of all sections say, for anything that a piece says.
use Rattle.std.proofs.Common.{◌≡◌, ℕ, suc, ◌+◌, List, [], ◌∷◌, ◌++◌, length, refl, sym, ap, ◌∙◌, subst, arith, append_assoc, append-nil, length-append}
use Rattle.std.specs.Bool.{⊤}
use Rattle.std.proofs.lemmas.List.{drop_all}
use Rattle.dw_base.specs.AbbreviationTables.{Abbreviation}
use Rattle.dw_base.specs.Cells.{Cell}
use Rattle.dw_base.specs.DebugData.{DebugData, ReadsAll, units_in}
use Rattle.dw_base.specs.EntryScans.{AreEntries}
use Rattle.dw_base.specs.EntryValues.{bytes_up_to}
use Rattle.dw_base.specs.Pieces.{Piece, joined}
use Rattle.dw_base.specs.Readings.{Readings}
use Rattle.dw_base.specs.UnitHeaders.{UnitSection, IsUnit, UnitsUpTo, AreUnits}
use Rattle.dw_base.specs.UnitPieces.{ReadsUnits, unit_grammar}
use Rattle.dw_base.specs.UnitStates.{UnitState}
use Rattle.dw_base.specs.UnitTables.{IsUnitTable}
use Rattle.dw_base.specs.declared.units.Scanned.{Scanned}
use Rattle.dw_base.specs.declared.units.UnitHeader.{UnitHeader}
use Rattle.dw_base.proofs.UnitRowLaws.{units-one}
use Rattle.dw_meaning.specs.UnitScans.{UnitsScanned, none_scanned, more_scanned, AreScanned}
use Rattle.dw_meaning.proofs.DataOneLaws.{reads-one}
use Rattle.dw_meaning.proofs.DataRowLaws.{scanned-units}
use Rattle.dw_meaning.proofs.PieceLaws.{leads-chain}
use Rattle.dw_meaning.proofs.ScanBackLaws.{section-scanned}
use Rattle.dw_unit_fields.proofs.IndexRunLaws.{run-begins}
use Rattle.dw_units.specs.UnitLists.{IsListed, AreListed, ListsAll, none_listed, more_listed}
use Rattle.dw_units.specs.declared.listed_unit.ListedUnit.{ListedUnit}
use Rattle.dw_base.specs.declared.debug_sections.DebugSection.TheVariants.{Info}
use Rattle.dw_meaning.proofs.RunLaws.{PieceRun, run-more, run-none}
use Rattle.dw_meaning.proofs.ScanSectionLaws.{before}
use Rattle.dw_meaning.specs.PieceRuns.{all_of, any_piece}

-- what units say, numbered on
abbrev pub all_out : {T : Type 0} → (ℕ → ListedUnit → List T) → ℕ → List ListedUnit → List T
all_out out n [] = []
all_out out n (u ∷ us) = out n u ++ all_out out (n + 1) us

pub out-append : {T : Type 0} (out : ℕ → ListedUnit → List T) (n : ℕ) (us vs : List ListedUnit) → all_out out n (us ++ vs) ≡ all_out out n us ++ all_out out (n + length us) vs
out-append out n [] vs =
    let same : n ≡ n + 0 = omega arith in
    ap (λ (k : ℕ). all_out out k vs) same
out-append {T} out n (u ∷ us) vs =
    let same : n + 1 + length us ≡ n + suc (length us) = omega arith in
    ap (λ (t : List T). out n u ++ t) (out-append out (n + 1) us vs ∙ ap (λ (k : ℕ). all_out out (n + 1) us ++ all_out out k vs) same)
    ∙ sym (append_assoc (out n u) (all_out out (n + 1) us) (all_out out (n + suc (length us)) vs))

-- this holds of each unit and its number
abbrev pub EachNumbered : (ℕ → ListedUnit → Type 0) → ℕ → List ListedUnit → Type 0
EachNumbered Q n [] = ⊤
EachNumbered Q n (u ∷ us) = Q n u × EachNumbered Q (n + 1) us

numbered-parts : (Q : ℕ → ListedUnit → Type 0) (n : ℕ) (us vs : List ListedUnit) → EachNumbered Q n (us ++ vs) → EachNumbered Q n us × EachNumbered Q (n + length us) vs
numbered-parts Q n [] vs each =
    let same : n ≡ n + 0 = omega arith in
    (tt, subst (λ (k : ℕ). EachNumbered Q k vs) same each)
numbered-parts Q n (u ∷ us) vs each =
    let same : n + 1 + length us ≡ n + suc (length us) = omega arith in
    let rest = numbered-parts Q (n + 1) us vs each.1 in
    ((each.0, rest.0), subst (λ (k : ℕ). EachNumbered Q k vs) same rest.1)

-- a unit of a section says this
abbrev pub UnitOut : {T : Type 0} → DebugData → List (List Abbreviation) → (ℕ → ListedUnit → Type 0) → (Piece UnitState → List T) → UnitSection → (ℕ → ListedUnit → List T) → Type 0
UnitOut d tables Q F z out = (start unit : ℕ) (h : UnitHeader) (u : ListedUnit) (table : List Abbreviation) (items : List Scanned) → Q unit u → IsUnit d.base z start h
    → IsUnitTable d.base h table → AreEntries h table (bytes_up_to z h) items → IsListed d tables h u
    → PieceRun (unit_grammar d.base) any_piece F z.contents (before z start unit) (before z h.end (unit + 1)) start h.end (out unit u)

-- the last of listed units
pub record LastListed (d : DebugData) (tables : List (List Abbreviation)) (hs : List UnitHeader) (h : UnitHeader) (own : List ListedUnit) : Type 0 where
  pub front : List ListedUnit
  pub last : ListedUnit
  pub is : own ≡ front ++ last ∷ []
  pub others : AreListed d tables hs front
  pub one : IsListed d tables h last

pub last-listed : (d : DebugData) (tables : List (List Abbreviation)) (hs : List UnitHeader) (h : UnitHeader) (own : List ListedUnit) → AreListed d tables (hs ++ h ∷ []) own
    → LastListed d tables hs h own
last-listed d tables [] h [] l = absurd l
last-listed d tables [] h (u ∷ []) l = record { front = []; last = u; is = refl; others = tt; one = l.0 }
last-listed d tables [] h (u ∷ v ∷ us) l = absurd l.1
last-listed d tables (x ∷ hs) h [] l = absurd l
last-listed d tables (x ∷ hs) h (u ∷ us) l =
    let r : LastListed d tables hs h us = last-listed d tables hs h us l.1 in
    record { front = u ∷ r.front; last = r.last; is = ap (λ (ws : List ListedUnit). u ∷ ws) r.is; others = (l.0, r.others); one = r.one }

listed-length : (d : DebugData) (tables : List (List Abbreviation)) (hs : List UnitHeader) (own : List ListedUnit) → AreListed d tables hs own → length hs ≡ length own
listed-length d tables [] [] l = refl
listed-length d tables [] (u ∷ us) l = absurd l
listed-length d tables (h ∷ hs) [] l = absurd l
listed-length d tables (h ∷ hs) (u ∷ us) l = ap suc (listed-length d tables hs us l.1)

-- the units of a section, one after another
section-run : {T : Type 0} (d : DebugData) (tables : List (List Abbreviation)) (Q : ℕ → ListedUnit → Type 0) (F : Piece UnitState → List T) (z : UnitSection) (out : ℕ → ListedUnit → List T) (first : ℕ)
    (list : List UnitHeader) (place : ℕ) (own : List ListedUnit) → UnitOut d tables Q F z out → UnitsScanned d.base z list place → AreListed d tables list own
    → EachNumbered Q first own → PieceRun (unit_grammar d.base) any_piece F z.contents (before z 0 first) (before z place (first + length list)) 0 place (all_out out first own)
section-run {T} d tables Q F z out first list place [] says none_scanned l q =
    run-none (unit_grammar d.base) any_piece F z.contents (before z 0 first) (before z 0 (first + 0)) 0 (ap (λ (n : ℕ). before z 0 n) (omega arith))
section-run d tables Q F z out first list place (u ∷ us) says none_scanned l q = absurd l
section-run {T} d tables Q F z out first all z_end own says (more_scanned list h start table items scanned u t entries) l q =
    let r : LastListed d tables list h own = last-listed d tables list h own l in
    let qs = numbered-parts Q first r.front (r.last ∷ []) (subst (EachNumbered Q first) r.is q) in
    let size : length list ≡ length r.front = listed-length d tables list r.front r.others in
    let count : first + length list + 1 ≡ first + length (list ++ h ∷ []) = omega (arith, length-append list (h ∷ [])) in
    let whole : all_out out first r.front ++ out (first + length list) r.last ≡ all_out out first own =
    ap (λ (n : ℕ). all_out out first r.front ++ out (first + n) r.last) size
    ∙ ap (λ (t : List T). all_out out first r.front ++ t) (sym (append-nil (out (first + length r.front) r.last)))
    ∙ sym (out-append out first r.front (r.last ∷ [])) ∙ ap (all_out out first) (sym r.is) in
    subst (λ (t : List T). PieceRun (unit_grammar d.base) any_piece F z.contents (before z 0 first) (before z h.end (first + length (list ++ h ∷ []))) 0 h.end t) whole
    (subst (λ (n : ℕ). PieceRun (unit_grammar d.base) any_piece F z.contents (before z 0 first) (before z h.end n) 0 h.end (all_out out first r.front ++ out (first + length list) r.last)) count
    (run-more (unit_grammar d.base) any_piece F z.contents (before z 0 first) (before z start (first + length list)) (before z h.end (first + length list + 1)) 0 start h.end
    (all_out out first r.front) (out (first + length list) r.last)
    (section-run d tables Q F z out first list start r.front says scanned r.others qs.0)
    (says start (first + length list) h r.last table items (subst (λ (n : ℕ). Q (first + n) r.last) (sym size) qs.1.0) u t entries r.one)))

-- the units of a section and those that are listed
pub record OwnUnits (d : DebugData) (tables : List (List Abbreviation)) (z : UnitSection) (own : List ListedUnit) : Type 0 where
  pub headers : List UnitHeader
  pub units : AreUnits d.base z headers
  pub listed : AreListed d tables headers own

record SectionOut {T : Type 0} (F : Piece UnitState → List T) (first : ℕ) (pieces : List (Piece UnitState)) (own : List ListedUnit) (out : List T) : Type 0 where
  says : all_of F pieces ≡ out
  count : units_in pieces ≡ length own

section-out : {T : Type 0} (d : DebugData) (tables : List (List Abbreviation)) (Q : ℕ → ListedUnit → Type 0) (F : Piece UnitState → List T) (z : UnitSection) (out : ℕ → ListedUnit → List T) (first : ℕ)
    (pieces : List (Piece UnitState)) (own : List ListedUnit) → UnitOut d tables Q F z out → OwnUnits d tables z own → EachNumbered Q first own → ReadsUnits d.base z first pieces
    → SectionOut F first pieces own (all_out out first own)
section-out {T} d tables Q F z out first pieces own says o q reads =
    let scanned = section-scanned d.base z first pieces reads in
    let same : scanned.0 ≡ o.headers = units-one d.base z scanned.0 o.headers (scanned-units d.base z scanned.0 (length z.contents) scanned.1) o.units in
    let are : AreScanned d.base z o.headers = subst (λ (hs : List UnitHeader). AreScanned d.base z hs) same scanned.1 in
    let run : PieceRun (unit_grammar d.base) any_piece F z.contents (before z 0 first) (before z (length z.contents) (first + length o.headers)) 0 (length z.contents) (all_out out first own) =
    section-run d tables Q F z out first o.headers (length z.contents) own says are o.listed q in
    let cells : joined run.pieces ≡ z.contents =
    sym (append-nil (joined run.pieces))
    ∙ ap (λ (x : List Cell). joined run.pieces ++ x) (sym (drop_all (length z.contents) z.contents (omega arith))) ∙ run.covers in
    let reads_run : ReadsUnits d.base z first run.pieces =
    record {
      chain = leads-chain (unit_grammar d.base) (before z 0 first) (before z (length z.contents) (first + length o.headers)) run.pieces run.leads (record { mode = refl; place = refl });
      cells = cells;
    } in
    let one : pieces ≡ run.pieces = reads-one d.base z first pieces run.pieces reads reads_run in
    let begun : first + length o.headers ≡ first + units_in run.pieces =
    run-begins d.base (before z 0 first) (before z (length z.contents) (first + length o.headers)) run.pieces run.leads in
    let size : length o.headers ≡ length own = listed-length d tables o.headers own o.listed in
    let pieces_same : units_in pieces ≡ units_in run.pieces = ap units_in one in
    record { says = ap (all_of F) one ∙ run.fields; count = omega (arith, begun, size, pieces_same) }

-- all sections, with their own units
abbrev pub EachOwn : DebugData → List (List Abbreviation) → List UnitSection → List (List ListedUnit) → Type 0
EachOwn d tables [] [] = ⊤
EachOwn d tables [] (o ∷ os) = ⊥
EachOwn d tables (z ∷ zs) [] = ⊥
EachOwn d tables (z ∷ zs) (o ∷ os) = OwnUnits d tables z o × EachOwn d tables zs os

abbrev pub concat_all : List (List ListedUnit) → List ListedUnit
concat_all [] = []
concat_all (o ∷ os) = o ++ concat_all os

pub record Owned (d : DebugData) (tables : List (List Abbreviation)) (zs : List UnitSection) (us : List ListedUnit) : Type 0 where
  pub owns : List (List ListedUnit)
  pub is : us ≡ concat_all owns
  pub each : EachOwn d tables zs owns

concat-more : (os : List (List ListedUnit)) (o : List ListedUnit) → concat_all (os ++ o ∷ []) ≡ concat_all os ++ o
concat-more [] o = append-nil o
concat-more (x ∷ os) o = ap (λ (t : List ListedUnit). x ++ t) (concat-more os o) ∙ sym (append_assoc x (concat_all os) o)

own-more : (d : DebugData) (tables : List (List Abbreviation)) (zs : List UnitSection) (os : List (List ListedUnit)) (z : UnitSection) (o : List ListedUnit) → EachOwn d tables zs os
    → OwnUnits d tables z o → EachOwn d tables (zs ++ z ∷ []) (os ++ o ∷ [])
own-more d tables [] [] z o each one = (one, tt)
own-more d tables [] (x ∷ os) z o each one = absurd each
own-more d tables (y ∷ zs) [] z o each one = absurd each
own-more d tables (y ∷ zs) (x ∷ os) z o each one = (each.0, own-more d tables zs os z o each.1 one)

pub all-owned : (d : DebugData) (tables : List (List Abbreviation)) (zs : List UnitSection) (us : List ListedUnit) → ListsAll d tables zs us → Owned d tables zs us
all-owned d tables zs us none_listed = record { owns = []; is = refl; each = tt }
all-owned d tables all_zs all_us (more_listed zs us own z headers l units read listed) =
    let r : Owned d tables zs us = all-owned d tables zs us l in
    record {
      owns = r.owns ++ own ∷ [];
      is = ap (λ (x : List ListedUnit). x ++ own) r.is ∙ sym (concat-more r.owns own);
      each = own-more d tables zs r.owns z own r.each (record { headers = headers; units = units; listed = listed });
    }

-- what the pieces of all sections say; `F` may depend on the section's number
abbrev pub all_pieces : {T : Type 0} → (ℕ → Piece UnitState → List T) → Readings → List T
all_pieces F [] = []
all_pieces F (r ∷ rs) = all_of (F r.number) r.pieces ++ all_pieces F rs

-- a section among others
pub record Among (all : List UnitSection) (z : UnitSection) : Type 0 where
  pub front : List UnitSection
  pub back : List UnitSection
  pub is : all ≡ front ++ z ∷ back

abbrev pub EachOut : {T : Type 0} → DebugData → List (List Abbreviation) → (ℕ → ListedUnit → Type 0) → (ℕ → Piece UnitState → List T) → (ℕ → ListedUnit → List T) → Type 0
EachOut d tables Q F out = (z : UnitSection) → Among (d.found Info) z → UnitOut d tables Q (F z.number) z out

owns-out : {T : Type 0} (d : DebugData) (tables : List (List Abbreviation)) (Q : ℕ → ListedUnit → Type 0) (F : ℕ → Piece UnitState → List T) (out : ℕ → ListedUnit → List T) (first : ℕ) (front zs : List UnitSection)
    (owns : List (List ListedUnit)) (rs : Readings) → EachOut d tables Q F out → d.found Info ≡ front ++ zs → EachOwn d tables zs owns → EachNumbered Q first (concat_all owns) → ReadsAll d.base first zs rs
    → all_pieces F rs ≡ all_out out first (concat_all owns)
owns-out d tables Q F out first front [] [] [] says is each q reads = refl
owns-out d tables Q F out first front [] [] (r ∷ rs) says is each q reads = absurd reads
owns-out d tables Q F out first front [] (o ∷ os) rs says is each q reads = absurd each
owns-out d tables Q F out first front (z ∷ zs) [] rs says is each q reads = absurd each
owns-out d tables Q F out first front (z ∷ zs) (o ∷ os) [] says is each q reads = absurd reads
owns-out {T} d tables Q F out first front (z ∷ zs) (o ∷ os) (r ∷ rs) says is each q reads =
    let qs = numbered-parts Q first o (concat_all os) q in
    let here : SectionOut (F z.number) first r.pieces o (all_out out first o) =
    section-out d tables Q (F z.number) z out first r.pieces o (says z (record { front = front; back = zs; is = is })) each.0 qs.0 reads.1 in
    let rest : all_pieces F rs ≡ all_out out (first + units_in r.pieces) (concat_all os) =
    owns-out d tables Q F out (first + units_in r.pieces) (front ++ z ∷ []) zs os rs says (is ∙ sym (append_assoc front (z ∷ []) zs)) each.1
    (subst (λ (n : ℕ). EachNumbered Q (first + n) (concat_all os)) (sym here.count) qs.1) reads.2 in
    ap (λ (n : ℕ). all_of (F n) r.pieces ++ all_pieces F rs) reads.0
    ∙ ap (λ (t : List T). t ++ all_pieces F rs) here.says
    ∙ ap (λ (t : List T). all_out out first o ++ t) (rest ∙ ap (λ (n : ℕ). all_out out (first + n) (concat_all os)) here.count)
    ∙ sym (out-append out first o (concat_all os))

pub all-said-out : {T : Type 0} (d : DebugData) (tables : List (List Abbreviation)) (Q : ℕ → ListedUnit → Type 0) (F : ℕ → Piece UnitState → List T) (out : ℕ → ListedUnit → List T)
    (us : List ListedUnit) (rs : Readings) → EachOut d tables Q F out → EachNumbered Q 0 us → ListsAll d tables (d.found Info) us → ReadsAll d.base 0 (d.found Info) rs
    → all_pieces F rs ≡ all_out out 0 us
all-said-out d tables Q F out us rs says q l reads =
    let o : Owned d tables (d.found Info) us = all-owned d tables (d.found Info) us l in
    owns-out d tables Q F out 0 [] (d.found Info) o.owns rs says refl o.each (subst (EachNumbered Q 0) o.is q) reads ∙ ap (all_out out 0) (sym o.is)

-- what holds of each unit of these sections
abbrev pub EachUnit : (ListedUnit → Type 0) → List ListedUnit → Type 0
EachUnit P [] = ⊤
EachUnit P (u ∷ us) = P u × EachUnit P us

each-append : (P : ListedUnit → Type 0) (us vs : List ListedUnit) → EachUnit P us → EachUnit P vs → EachUnit P (us ++ vs)
each-append P [] vs a b = b
each-append P (u ∷ us) vs a b = (a.0, each-append P us vs a.1 b)

abbrev pub UnitHolds : DebugData → List (List Abbreviation) → (ListedUnit → Type 0) → UnitSection → Type 0
UnitHolds d tables P z = (start : ℕ) (list : List UnitHeader) (h : UnitHeader) (u : ListedUnit) (table : List Abbreviation) (items : List Scanned) → UnitsUpTo d.base z list start
    → IsUnit d.base z start h → IsUnitTable d.base h table → AreEntries h table (bytes_up_to z h) items → IsListed d tables h u → P u

section-holds : (d : DebugData) (tables : List (List Abbreviation)) (P : ListedUnit → Type 0) (z : UnitSection) (list : List UnitHeader) (place : ℕ) (own : List ListedUnit)
    → UnitHolds d tables P z → UnitsScanned d.base z list place → AreListed d tables list own → EachUnit P own
section-holds d tables P z list place [] holds none_scanned l = tt
section-holds d tables P z list place (u ∷ us) holds none_scanned l = absurd l
section-holds d tables P z all z_end own holds (more_scanned list h start table items scanned u t entries) l =
    let r : LastListed d tables list h own = last-listed d tables list h own l in
    subst (EachUnit P) (sym r.is) (each-append P r.front (r.last ∷ []) (section-holds d tables P z list start r.front holds scanned r.others)
    (holds start list h r.last table items (scanned-units d.base z list start scanned) u t entries r.one, tt))

owns-hold : (d : DebugData) (tables : List (List Abbreviation)) (P : ListedUnit → Type 0) (first : ℕ) (front zs : List UnitSection)
    (owns : List (List ListedUnit)) (rs : Readings) → ((z : UnitSection) → Among (d.found Info) z → UnitHolds d tables P z) → d.found Info ≡ front ++ zs → EachOwn d tables zs owns
    → ReadsAll d.base first zs rs → EachUnit P (concat_all owns)
owns-hold d tables P first front [] [] [] holds is each reads = tt
owns-hold d tables P first front [] [] (r ∷ rs) holds is each reads = absurd reads
owns-hold d tables P first front [] (o ∷ os) rs holds is each reads = absurd each
owns-hold d tables P first front (z ∷ zs) [] rs holds is each reads = absurd each
owns-hold d tables P first front (z ∷ zs) (o ∷ os) [] holds is each reads = absurd reads
owns-hold d tables P first front (z ∷ zs) (o ∷ os) (r ∷ rs) holds is each reads =
    let scanned = section-scanned d.base z first r.pieces reads.1 in
    let same : scanned.0 ≡ each.0.headers = units-one d.base z scanned.0 each.0.headers (scanned-units d.base z scanned.0 (length z.contents) scanned.1) each.0.units in
    let are : AreScanned d.base z each.0.headers = subst (λ (hs : List UnitHeader). AreScanned d.base z hs) same scanned.1 in
    each-append P o (concat_all os)
    (section-holds d tables P z each.0.headers (length z.contents) o (holds z (record { front = front; back = zs; is = is })) are each.0.listed)
    (owns-hold d tables P (first + units_in r.pieces) (front ++ z ∷ []) zs os rs holds (is ∙ sym (append_assoc front (z ∷ []) zs)) each.1 reads.2)

pub all-hold : (d : DebugData) (tables : List (List Abbreviation)) (P : ListedUnit → Type 0) (us : List ListedUnit) (rs : Readings)
    → ((z : UnitSection) → Among (d.found Info) z → UnitHolds d tables P z) → ListsAll d tables (d.found Info) us → ReadsAll d.base 0 (d.found Info) rs → EachUnit P us
all-hold d tables P us rs holds l reads =
    let o : Owned d tables (d.found Info) us = all-owned d tables (d.found Info) us l in
    subst (EachUnit P) (sym o.is) (owns-hold d tables P 0 [] (d.found Info) o.owns rs holds refl o.each reads)
