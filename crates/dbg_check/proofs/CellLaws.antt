-- Cells are the same exactly where their bytes are, and the same relocations begin in them.
use Rattle.std.proofs.Common.{Bool, true, false, ◌≡◌, ◌≢◌, ℕ, zero, suc, ◌+◌, ◌-◌, ◌^◌, ◌<◌, ◌≤◌, inl, inr, List, [], ◌∷◌, length, take, drop, get_or, slice_index, refl, ap, sym, subst, ◌∙◌, arith}
use Rattle.std.proofs.lemmas.Bool.{cases_lt}
use Rattle.std.proofs.lemmas.List.{ext_get_or, get_or-drop, get_or-take, length-drop, length-take-le}
use Rattle.std.specs.Prelude.{Option, Some, None, is_some, option_map}
use Rattle.dw_base.proofs.RelocationFieldLaws.{bytes_of-drop, bytes_of-take}
use Rattle.dw_base.proofs.TextLaws.{same_text-from, same_text-true}
use Rattle.dw_base.proofs.ViewCellLaws.{bytes_of-view_cells, length-view_cells}
use Rattle.dw_base.specs.Cells.{Cell, Relocation as CellRelocation, bytes_of, cells_at}
use Rattle.dw_base.specs.FileViews.{View, section_bytes, view_cells}
use Rattle.dw_base.specs.RelocationFields.{relocation_at}
use Rattle.dw_base.specs.Texts.{same_text}
use Rattle.dw_base.specs.WrittenLines.{cells_part, part}
use Rattle.dw_view.specs.Relocations.{HasNoNext, IsNextPlace, relocation_value}
use Rattle.dw_view.specs.declared.fields.Relocation.{Relocation}
use Rattle.dbg_check.proofs.ImageLaws.{part-index}
use Rattle.dbg_check.specs.CellRuns.{CellsAgree, NextBegins, NoneBegins, RelocationsAgree, RunsAgree}
use Rattle.dbg_check.specs.declared.cells.CellPlace.{CellPlace}

-- ### A relocation

pub class-other : (r s : Relocation) → (r.class ≡ s.class → ⊥) → relocation_value r ≡ relocation_value s → ⊥
class-other r s other e = other (ap (λ (x : CellRelocation). x.class) e)

pub symbol-other : (r s : Relocation) → (r.symbol ≡ s.symbol → ⊥) → relocation_value r ≡ relocation_value s → ⊥
symbol-other r s other e = other (ap (λ (x : CellRelocation). x.symbol) e)

pub kind-other : (r s : Relocation) → (r.kind ≡ s.kind → ⊥) → relocation_value r ≡ relocation_value s → ⊥
kind-other r s other e = other (ap (λ (x : CellRelocation). x.kind) e)

pub size-other : (r s : Relocation) → (r.size ≡ s.size → ⊥) → relocation_value r ≡ relocation_value s → ⊥
size-other r s other e = other (ap (λ (x : CellRelocation). x.size) e)

pub addend-other : (r s : Relocation) → (r.addend ≡ s.addend → ⊥) → relocation_value r ≡ relocation_value s → ⊥
addend-other r s other e = other (ap (λ (x : CellRelocation). x.addend) e)

pub target-same : (r s : Relocation) → relocation_value r ≡ relocation_value s → r.target ≡ s.target
target-same r s e = ap (λ (x : CellRelocation). x.target) e

pub relocation-same : (r s : Relocation) → r.class ≡ s.class → r.symbol ≡ s.symbol → r.kind ≡ s.kind → r.size ≡ s.size → r.addend ≡ s.addend → r.target ≡ s.target
    → relocation_value r ≡ relocation_value s
relocation-same r s class symbol kind size addend target = λ i. record {
  class = class i;
  symbol = symbol i;
  kind = kind i;
  size = size i;
  addend = addend i;
  target = target i;
}

pub ruleset one_laws = (class-other, symbol-other, kind-other, size-other, addend-other, target-same, relocation-same)

pub some-same : (r s : Relocation) → relocation_value r ≡ relocation_value s → option_map relocation_value (Some r) ≡ option_map relocation_value (Some s)
some-same r s e = ap (λ (x : CellRelocation). Some x) e

abbrev some_or : CellRelocation → Option CellRelocation → CellRelocation
some_or r None = r
some_or r (Some s) = s

pub same-some : (r s : Relocation) → option_map relocation_value (Some r) ≡ option_map relocation_value (Some s) → relocation_value r ≡ relocation_value s
same-some r s e = ap (some_or (relocation_value r)) e

pub ruleset option_laws = (some-same, same-some)

pub place-same : (xs ys : List Cell) (p q : ℕ) (o u : Option Relocation) → option_map relocation_value o ≡ relocation_at xs p → option_map relocation_value u ≡ relocation_at ys q
    → option_map relocation_value o ≡ option_map relocation_value u → relocation_at xs p ≡ relocation_at ys q
place-same xs ys p q o u one other e = sym one ∙ e ∙ other

pub same-place : (xs ys : List Cell) (p q : ℕ) (o u : Option Relocation) → option_map relocation_value o ≡ relocation_at xs p → option_map relocation_value u ≡ relocation_at ys q
    → relocation_at xs p ≡ relocation_at ys q → option_map relocation_value o ≡ option_map relocation_value u
same-place xs ys p q o u one other e = one ∙ e ∙ sym other

pub ruleset place_laws = (place-same, same-place)

-- ### The next one

-- where none begins from a place on
pub next-none : (v : View) (section at from size : ℕ) → HasNoNext v section (at + from) → NoneBegins (view_cells v section) at from size
next-none v section at from size none = record { none = λ p past to. none.none (at + p) (omega (arith, past)) }

-- where one begins behind all of these
pub next-past : (v : View) (section at from size next : ℕ) → IsNextPlace v section (at + from) next → size ≤ next - at → NoneBegins (view_cells v section) at from size
next-past v section at from size next is behind = record { none = λ p past to. is.first (at + p) (omega (arith, past)) (omega (arith, to, behind)) }

pub next-found : (v : View) (section at from size next number : ℕ) → IsNextPlace v section (at + from) next → number ≡ next - at → number < size
    → NextBegins (view_cells v section) at from size number
next-found v section at from size next number is number_is within =
    let place : next ≡ at + number = omega (arith, is.from_there, number_is) in
    record {
      behind = omega (arith, is.from_there, number_is);
      within = within;
      begins = subst (λ (p : ℕ). is_some (relocation_at (view_cells v section) p) ≡ true) place is.begins;
      first = record { none = λ p past to. is.first (at + p) (omega (arith, past)) (omega (arith, to, place)) };
    }

pub ruleset next_laws = (next-none, next-past, next-found)

-- ### The next one of both

some-none : (o : Option CellRelocation) → is_some o ≡ true → o ≡ None → ⊥
some-none None some none = let no : false ≡ true = some in cc
some-none (Some r) some none = cc

-- where one has a next one and the other hasn't, up to it, they differ
one-alone : (xs ys : List Cell) (from at k n q m : ℕ) → NextBegins xs from k n q → NoneBegins ys at k m → q < m → q < n → RelocationsAgree xs ys from at k n → ⊥
one-alone xs ys from at k n q m next none lt within agree =
    some-none (relocation_at xs (from + q)) next.begins (agree.all q next.behind within ∙ none.none q next.behind lt)

agree-turned : (xs ys : List Cell) (from at k n : ℕ) → RelocationsAgree xs ys from at k n → RelocationsAgree ys xs at from k n
agree-turned xs ys from at k n agree = record { all = λ p past to. sym (agree.all p past to) }

above : (p q : ℕ) → q ≤ p → p ≢ q → q < p
above p q past apart =
    elim (cases_lt q p) [
      | inl lt ↦ lt
      | inr le ↦ absurd (apart (omega (arith, past, le)))
    ]

pub both-apart : (xs ys : List Cell) (from at k n p q : ℕ) → NextBegins xs from k n p → NextBegins ys at k n q → p ≢ q → RelocationsAgree xs ys from at k n → ⊥
both-apart xs ys from at k n p q one two apart agree =
    elim (cases_lt p q) [
      | inl before ↦ one-alone xs ys from at k n p q one two.first before one.within agree
      | inr past ↦ one-alone ys xs at from k n q p two one.first (above p q past apart) two.within (agree-turned xs ys from at k n agree)
    ]

pub both-other : (xs ys : List Cell) (from at k n p q : ℕ) → NextBegins xs from k n p → p ≡ q → (relocation_at xs (from + p) ≡ relocation_at ys (at + p) → ⊥)
    → RelocationsAgree xs ys from at k n → ⊥
both-other xs ys from at k n p q one same differs agree = differs (agree.all p one.behind one.within)

pub both-same : (xs ys : List Cell) (from at k n p q : ℕ) → NextBegins xs from k n p → NextBegins ys at k n q → p ≡ q → relocation_at xs (from + p) ≡ relocation_at ys (at + p)
    → RelocationsAgree xs ys from at k (p + 1)
both-same xs ys from at k n p q one two same here = record { all = by }
  where
    by : (r : ℕ) → k ≤ r → r < p + 1 → relocation_at xs (from + r) ≡ relocation_at ys (at + r)
    by r past to =
        elim (cases_lt r p) [
          | inl before ↦ one.first.none r past before ∙ sym (two.first.none r past (omega (arith, before, same)))
          | inr behind ↦
              let is : p ≡ r = omega (arith, behind, to) in
              subst (λ (m : ℕ). relocation_at xs (from + m) ≡ relocation_at ys (at + m)) is here
        ]

pub both-behind : (xs : List Cell) (from k n p : ℕ) → NextBegins xs from k n p → k < p + 1
both-behind xs from k n p one = omega (arith, one.behind)

pub both-within : (xs : List Cell) (from k n p : ℕ) → NextBegins xs from k n p → p + 1 ≤ n
both-within xs from k n p one = omega (arith, one.within)

pub next-in : (xs : List Cell) (from k n p len : ℕ) → NextBegins xs from k n p → from + n ≤ len → from + p < len
next-in xs from k n p len one inside = omega (arith, one.within, inside)

pub next-small : (xs : List Cell) (from k n p : ℕ) → NextBegins xs from k n p → from + n < 2 ^ 63 → from + p < 2 ^ 63
next-small xs from k n p one small = omega (arith, one.within, small)

pub ruleset both_laws = (both-apart, both-other, both-same, both-behind, both-within, next-in, next-small)

-- ### Step by step

pub step-none : (xs ys : List Cell) (from at k n : ℕ) → NoneBegins xs from k n → NoneBegins ys at k n → RelocationsAgree xs ys from at k n
step-none xs ys from at k n one two = record { all = λ p past to. one.none p past to ∙ sym (two.none p past to) }

pub step-first : (xs ys : List Cell) (from at k n q : ℕ) → NextBegins xs from k n q → NoneBegins ys at k n → RelocationsAgree xs ys from at k n → ⊥
step-first xs ys from at k n q next none agree = one-alone xs ys from at k n q n next none next.within next.within agree

pub step-second : (xs ys : List Cell) (from at k n q : ℕ) → NoneBegins xs from k n → NextBegins ys at k n q → RelocationsAgree xs ys from at k n → ⊥
step-second xs ys from at k n q none next agree = one-alone ys xs at from k n q n next none next.within next.within (agree-turned xs ys from at k n agree)

pub ruleset step_laws = (step-none, step-first, step-second)

pub agree-none : (xs ys : List Cell) (from at : ℕ) → RelocationsAgree xs ys from at 0 0
agree-none xs ys from at = record { all = λ p past to. absurd (omega (arith, to)) }

pub agree-more : (xs ys : List Cell) (from at k n : ℕ) → RelocationsAgree xs ys from at 0 k → RelocationsAgree xs ys from at k n → RelocationsAgree xs ys from at 0 n
agree-more xs ys from at k n one two = record { all = by }
  where
    by : (p : ℕ) → 0 ≤ p → p < n → relocation_at xs (from + p) ≡ relocation_at ys (at + p)
    by p past to =
        elim (cases_lt p k) [
          | inl before ↦ one.all p past before
          | inr behind ↦ two.all p behind to
        ]

pub agree-within : (xs ys : List Cell) (from at k n : ℕ) → RelocationsAgree xs ys from at 0 n → RelocationsAgree xs ys from at k n
agree-within xs ys from at k n agree = record { all = λ p past to. agree.all p (omega arith) to }

pub agree-other : (xs ys : List Cell) (from at k n : ℕ) → (RelocationsAgree xs ys from at k n → ⊥) → RelocationsAgree xs ys from at 0 n → ⊥
agree-other xs ys from at k n differs agree = differs (agree-within xs ys from at k n agree)

pub agree-all : (xs ys : List Cell) (from at k n : ℕ) → RelocationsAgree xs ys from at 0 k → n ≤ k → RelocationsAgree xs ys from at 0 n
agree-all xs ys from at k n agree end = record { all = λ p past to. agree.all p past (omega (arith, to, end)) }

pub ruleset loop_laws = (agree-none, agree-more, agree-other, agree-all)

-- ### Cells

abbrev no_cell : Cell
no_cell = record { byte = 0; relocation = None }

relocation-item : (cells : List Cell) (p : ℕ) (d : Cell) → p < length cells → relocation_at cells p ≡ (get_or cells p d).relocation
relocation-item [] p d lt = absurd (omega (arith, lt))
relocation-item (c ∷ cs) zero d lt = refl
relocation-item (c ∷ cs) (suc p) d lt = relocation-item cs p d (omega (arith, lt))

byte-item : (cells : List Cell) (p : ℕ) (d : Cell) → p < length cells → slice_index (bytes_of cells) p ≡ (get_or cells p d).byte
byte-item [] p d lt = absurd (omega (arith, lt))
byte-item (c ∷ cs) zero d lt = refl
byte-item (c ∷ cs) (suc p) d lt = byte-item cs p d (omega (arith, lt))

pub run-length : (cells : List Cell) (from n : ℕ) → from + n ≤ length cells → length (cells_at cells from n) ≡ n
run-length cells from n inside =
    let size = length-drop from cells in length-take-le n (drop from cells) (omega (arith, size, inside))

run-item : (cells : List Cell) (from n i : ℕ) (d : Cell) → i < n → get_or (cells_at cells from n) i d ≡ get_or cells (from + i) d
run-item cells from n i d lt = get_or-take n (drop from cells) i d lt ∙ get_or-drop from cells i d

one-cell : (x y : Cell) → x.byte ≡ y.byte → x.relocation ≡ y.relocation → x ≡ y
one-cell x y byte relocation = λ i. record { byte = byte i; relocation = relocation i }

-- the bytes of a run
run-bytes : (cells : List Cell) (from n : ℕ) → bytes_of (cells_at cells from n) ≡ part (bytes_of cells) from (from + n)
run-bytes cells from n =
    let size : n ≡ from + n - from = omega arith in
    bytes_of-take n (drop from cells) ∙ ap (take n) (bytes_of-drop from cells) ∙ ap (λ (k : ℕ). take k (drop from (bytes_of cells))) size

pub cells-same : (xs ys : List Cell) (from at n : ℕ) → from + n ≤ length xs → at + n ≤ length ys
    → part (bytes_of xs) from (from + n) ≡ part (bytes_of ys) at (at + n) → RelocationsAgree xs ys from at 0 n → CellsAgree xs ys from at n
cells-same xs ys from at n inside there bytes agree =
    ext_get_or no_cell (cells_at xs from n) (cells_at ys at n) (run-length xs from n inside ∙ sym (run-length ys at n there)) by
  where
    item : (i : ℕ) → i < n → get_or xs (from + i) no_cell ≡ get_or ys (at + i) no_cell
    item i lt =
        let here : from + i < length xs = omega (arith, lt, inside) in
        let other : at + i < length ys = omega (arith, lt, there) in
        one-cell (get_or xs (from + i) no_cell) (get_or ys (at + i) no_cell)
        (sym (byte-item xs (from + i) no_cell here) ∙ sym (part-index (bytes_of xs) from (from + n) i (omega (arith, lt)))
        ∙ ap (λ (bs : List ℕ). slice_index bs i) bytes
        ∙ part-index (bytes_of ys) at (at + n) i (omega (arith, lt)) ∙ byte-item ys (at + i) no_cell other)
        (sym (relocation-item xs (from + i) no_cell here) ∙ agree.all i (omega arith) lt ∙ relocation-item ys (at + i) no_cell other)

    by : (i : ℕ) → i < length (cells_at xs from n) → get_or (cells_at xs from n) i no_cell ≡ get_or (cells_at ys at n) i no_cell
    by i lt =
        let size = run-length xs from n inside in
        let within : i < n = omega (arith, lt, size) in
        run-item xs from n i no_cell within ∙ item i within ∙ sym (run-item ys at n i no_cell within)

pub same-parts : (xs ys : List Cell) (from at n : ℕ) → CellsAgree xs ys from at n → part (bytes_of xs) from (from + n) ≡ part (bytes_of ys) at (at + n)
same-parts xs ys from at n agree = sym (run-bytes xs from n) ∙ ap bytes_of agree ∙ run-bytes ys at n

pub same-begins : (xs ys : List Cell) (from at n : ℕ) → from + n ≤ length xs → at + n ≤ length ys → CellsAgree xs ys from at n → RelocationsAgree xs ys from at 0 n
same-begins xs ys from at n inside there agree = record { all = by }
  where
    by : (p : ℕ) → 0 ≤ p → p < n → relocation_at xs (from + p) ≡ relocation_at ys (at + p)
    by p past lt =
        relocation-item xs (from + p) no_cell (omega (arith, lt, inside))
        ∙ ap (λ (c : Cell). c.relocation)
        (sym (run-item xs from n p no_cell lt) ∙ ap (λ (cs : List Cell). get_or cs p no_cell) agree ∙ run-item ys at n p no_cell lt)
        ∙ sym (relocation-item ys (at + p) no_cell (omega (arith, lt, there)))

-- of two views
pub view-inside : (v : View) (i from n : ℕ) → from + n ≤ length (section_bytes v i) → from + n ≤ length (view_cells v i)
view-inside v i from n inside = let size = length-view_cells v i in omega (arith, inside, size)

pub runs-same : (v w : View) (x y : CellPlace) (n : ℕ) (bs cs : List ℕ) (r : Bool) → x.at + n ≤ length (section_bytes v x.section) → y.at + n ≤ length (section_bytes w y.section)
    → bs ≡ section_bytes v x.section → cs ≡ section_bytes w y.section → r ≡ same_text (part bs x.at (x.at + n)) (part cs y.at (y.at + n)) → r ≡ true
    → RelocationsAgree (view_cells v x.section) (view_cells w y.section) x.at y.at 0 n → RunsAgree v w x y n
runs-same v w x y n bs cs r inside there one two told is agree =
    let bytes : part bs x.at (x.at + n) ≡ part cs y.at (y.at + n) = same_text-true (part bs x.at (x.at + n)) (part cs y.at (y.at + n)) (sym told ∙ is) in
    cells-same (view_cells v x.section) (view_cells w y.section) x.at y.at n (view-inside v x.section x.at n inside) (view-inside w y.section y.at n there)
    (ap (λ (zs : List ℕ). part zs x.at (x.at + n)) (bytes_of-view_cells v x.section ∙ sym one) ∙ bytes
    ∙ ap (λ (zs : List ℕ). part zs y.at (y.at + n)) (two ∙ sym (bytes_of-view_cells w y.section)))
    agree

pub runs-bytes : (v w : View) (x y : CellPlace) (n : ℕ) (bs cs : List ℕ) (r : Bool) → bs ≡ section_bytes v x.section → cs ≡ section_bytes w y.section
    → r ≡ same_text (part bs x.at (x.at + n)) (part cs y.at (y.at + n)) → r ≡ false → RunsAgree v w x y n → ⊥
runs-bytes v w x y n bs cs r one two told is agree =
    let bytes : part bs x.at (x.at + n) ≡ part cs y.at (y.at + n) =
    ap (λ (zs : List ℕ). part zs x.at (x.at + n)) (one ∙ sym (bytes_of-view_cells v x.section))
    ∙ same-parts (view_cells v x.section) (view_cells w y.section) x.at y.at n agree
    ∙ ap (λ (zs : List ℕ). part zs y.at (y.at + n)) (bytes_of-view_cells w y.section ∙ sym two) in
    let no : false ≡ true = sym is ∙ told ∙ same_text-from (part bs x.at (x.at + n)) (part cs y.at (y.at + n)) bytes in
    cc

pub runs-other : (v w : View) (x y : CellPlace) (n : ℕ) → x.at + n ≤ length (section_bytes v x.section) → y.at + n ≤ length (section_bytes w y.section)
    → (RelocationsAgree (view_cells v x.section) (view_cells w y.section) x.at y.at 0 n → ⊥) → RunsAgree v w x y n → ⊥
runs-other v w x y n inside there differs agree =
    differs
    (same-begins (view_cells v x.section) (view_cells w y.section) x.at y.at n (view-inside v x.section x.at n inside) (view-inside w y.section y.at n there) agree)

pub run-small : (v : View) (i from n : ℕ) (bs : List ℕ) → bs ≡ section_bytes v i → length bs ≤ 2 ^ 31 → from + n ≤ length (section_bytes v i) → from + n < 2 ^ 63
run-small v i from n bs are small inside =
    let same : length bs ≡ length (section_bytes v i) = ap (λ (xs : List ℕ). length xs) are in
    omega (arith, same, small, inside)

pub ruleset cell_laws = (runs-same, runs-bytes, runs-other, run-small)

-- from a place up to another
pub stretch-long : (v w : View) (i j from at end other size : ℕ) → from ≤ end → at ≤ other → end ≤ length (section_bytes v i) → other ≤ length (section_bytes w j)
    → size ≡ end - from → size ≢ other - at → cells_part (view_cells v i) from end ≡ cells_part (view_cells w j) at other → ⊥
stretch-long v w i j from at end other size order there inside within is apart e =
    apart
    (is ∙ sym (run-length (view_cells v i) from (end - from) (view-inside v i from (end - from) (omega (arith, order, inside))))
    ∙ ap (λ (cs : List Cell). length cs) e ∙ run-length (view_cells w j) at (other - at) (view-inside w j at (other - at) (omega (arith, there, within))))

pub stretch-same : (v w : View) (x y : CellPlace) (end other size : ℕ) → size ≡ end - x.at → size ≡ other - y.at → RunsAgree v w x y size
    → cells_part (view_cells v x.section) x.at end ≡ cells_part (view_cells w y.section) y.at other
stretch-same v w x y end other size one two agree =
    ap (cells_at (view_cells v x.section) x.at) (sym one) ∙ agree ∙ ap (cells_at (view_cells w y.section) y.at) two

pub stretch-other : (v w : View) (x y : CellPlace) (end other size : ℕ) → size ≡ end - x.at → size ≡ other - y.at → (RunsAgree v w x y size → ⊥)
    → cells_part (view_cells v x.section) x.at end ≡ cells_part (view_cells w y.section) y.at other → ⊥
stretch-other v w x y end other size one two differs e =
    differs (ap (cells_at (view_cells v x.section) x.at) one ∙ e ∙ ap (cells_at (view_cells w y.section) y.at) (sym two))

pub ruleset stretch_laws = (stretch-long, stretch-same, stretch-other)
