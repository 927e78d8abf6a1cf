-- Laws of a pass over the header of a line table.
use Rattle.std.proofs.Common.{◌≡◌, ℕ, ◌<◌, ◌≤◌, List, length, Result, sym, subst, arith}
use Rattle.dw_base.specs.FileViews.{View, section_bytes, view_cells}
use Rattle.dw_base.specs.Forms.{width_size}
use Rattle.dw_base.specs.LineTables.{LineTable}
use Rattle.dw_base.specs.RelocationRows.{HeaderFails, HeaderReads}
use Rattle.dw_base.specs.declared.fault.Refusal.{Refusal}
use Rattle.dw_base.specs.declared.shared.Width.{Width}
use Rattle.dw_lines.specs.HeaderFields.{AreHeaderFields, offsets_at}
use Rattle.dw_lines.specs.ViewSources.{view_source}
use Rattle.dw_relocs.specs.FieldWalks.{Goes, ground_of}
use Rattle.dw_relocs.specs.HeaderChecks.{Rises}
use Rattle.dw_relocs.specs.LinePasses.{TablePassed, TableRefuses}
use Rattle.dw_relocs.specs.declared.marks.Marks.{Marks}
use Rattle.dw_relocs.proofs.HeaderRiseLaws.{header-inside, header-rises, header-some, header-within}
use Rattle.dw_relocs.proofs.LinePassLaws.{own-fields, own-source, table-passed, table-refuses}

-- a table's section is that of its number
pub table-there : (v : View) (i section : ℕ) → section ≡ i → i < length v.sections → section < length v.sections
table-there v i section e lt = omega (arith, e, lt)

-- where its offsets are
pub table-rises : (v : View) (i section start behind : ℕ) (t : LineTable) (w : Width) (items places : List ℕ) → section ≡ i
    → AreHeaderFields (view_source v section) t items behind → start ≡ t.start → w ≡ t.width → places ≡ items → Rises start (width_size w) places behind
table-rises v i section start behind t w items places e h start_is width_is same =
    subst (λ (n : ℕ). Rises n (width_size w) places behind) (sym start_is)
    (subst (λ (x : Width). Rises t.start (width_size x) places behind) (sym width_is)
    (subst (λ (ps : List ℕ). Rises t.start (width_size t.width) ps behind) (sym same) (header-rises (view_source v section) t items behind h)))

pub table-inside : (v : View) (i section start behind : ℕ) (t : LineTable) (items : List ℕ) → section ≡ i
    → AreHeaderFields (view_source v section) t items behind → start ≡ t.start → start < length (section_bytes v i)
table-inside v i section start behind t items e h start_is =
    let f = own-fields v i section t items behind e h in
    let some = header-some (view_source v i) t items behind f in
    let end = header-inside (view_source v i) t items behind f in
    omega (arith, some, end, start_is)

pub table-within : (v : View) (i section behind : ℕ) (t : LineTable) (items : List ℕ) → section ≡ i
    → AreHeaderFields (view_source v section) t items behind → behind ≤ length (section_bytes v i)
table-within v i section behind t items e h =
    let f = own-fields v i section t items behind e h in
    let within = header-within (view_source v i) t items behind f in
    let end = header-inside (view_source v i) t items behind f in
    omega (arith, within, end)

-- it has been passed, or something is wrong with its header
pub table-goes : (v : View) (i section start behind : ℕ) (t : LineTable) (w : Width) (items places : List ℕ) (p q : Result Marks Refusal) → section ≡ i
    → AreHeaderFields (view_source v section) t items behind → start ≡ t.start → w ≡ t.width → places ≡ items
    → HeaderReads start behind (view_cells v i) (offsets_at w places) → Goes (ground_of v i) start behind (offsets_at w places) p q
    → TablePassed (ground_of v i) (view_source v i) t p q
table-goes v i section start behind t w items places p q e h start_is width_is same header goes =
    let f = own-fields v i section t items behind e h in
    table-passed (ground_of v i) (view_source v i) t items behind p q f (header-within (view_source v i) t items behind f)
    (subst (λ (n : ℕ). HeaderReads n behind (view_cells v i) (offsets_at t.width items)) start_is
    (subst (λ (x : Width). HeaderReads start behind (view_cells v i) (offsets_at x items)) width_is
    (subst (λ (ps : List ℕ). HeaderReads start behind (view_cells v i) (offsets_at w ps)) same header)))
    (subst (λ (n : ℕ). Goes (ground_of v i) n behind (offsets_at t.width items) p q) start_is
    (subst (λ (x : Width). Goes (ground_of v i) start behind (offsets_at x items) p q) width_is
    (subst (λ (ps : List ℕ). Goes (ground_of v i) start behind (offsets_at w ps) p q) same goes)))

pub table-fails : (v : View) (i section start behind : ℕ) (t : LineTable) (w : Width) (items places : List ℕ) (x : Refusal) → section ≡ i
    → AreHeaderFields (view_source v section) t items behind → start ≡ t.start → w ≡ t.width → places ≡ items
    → HeaderFails i start behind (view_cells v i) (offsets_at w places) x → TableRefuses (view_source v i) t x
table-fails v i section start behind t w items places x e h start_is width_is same fails =
    table-refuses (view_source v i) t items behind x (own-fields v i section t items behind e h)
    (subst (λ (n : ℕ). HeaderFails i n behind (view_cells v i) (offsets_at t.width items) x) start_is
    (subst (λ (y : Width). HeaderFails i start behind (view_cells v i) (offsets_at y items) x) width_is
    (subst (λ (ps : List ℕ). HeaderFails i start behind (view_cells v i) (offsets_at w ps) x) same fails)))

pub ruleset table_rules = (table-there, own-source, table-rises, table-inside, table-within, table-goes, table-fails)
