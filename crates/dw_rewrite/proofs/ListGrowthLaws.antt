-- A table of texts grows by the paths of all sections, kind by kind.
use Rattle.std.proofs.Common.{Bool, ◌≡◌, ℕ, ◌<◌, ◌≤◌, List, [], ◌∷◌, ◌++◌, length, Option, Some, None, refl, sym, ap, ◌∙◌, subst, append_assoc, append-nil, arith}
use Rattle.dw_base.specs.FileViews.{View}
use Rattle.dw_base.specs.LayoutFails.{TooLong}
use Rattle.dw_base.specs.Paths.{PathMap}
use Rattle.dw_base.specs.Refusals.{Blames}
use Rattle.dw_base.specs.StringTables.{TextTable, table_bytes}
use Rattle.dw_base.specs.Texts.{laid_texts}
use Rattle.dw_base.specs.declared.fault.Fault.{Fault}
use Rattle.dw_base.specs.declared.texts.TextSection.{TextSection}
use Rattle.dw_read.specs.AllFields.{Fields, all_of}
use Rattle.dw_unit_fields.specs.SectionFields.{SectionFields}
use Rattle.dw_unit_fields.specs.ViewFields.{AllHaveOffsets}
use Rattle.dw_unit_fields.proofs.PlaceValueLaws.{EachOf, each-append, each-get}
use Rattle.dw_rewrite.specs.Changes.{Knows, Remembers}
use Rattle.dw_rewrite.specs.NewTables.{Growing, GrownByAll, IsSectionNoted, TableMade, all_texts_at, table_with, texts_of}
use Rattle.dw_rewrite.proofs.ChangedLaws.{remembers_on}
use Rattle.dw_rewrite.proofs.GrowthLaws.{length-all_texts, longer-refused, noted-later}
use Rattle.dw_rewrite.proofs.NewBodyLaws.{all_texts-append, noted-each}
use Rattle.dw_rewrite.proofs.NewOffsetLaws.{remembers_all}
use Rattle.dw_rewrite.proofs.SectionMakeLaws.{offsets-parts}

-- where a pass over lists of sections stands, by the texts and the places in front of it: the texts of some lists were added, and those of others are left
pub record ListsPass (m : PathMap) (v : View) (table : TextSection) (front : List (List ℕ)) (first : Bool → ℕ → Option ℕ) (done left all : List SectionFields) (pool : TextTable)
    (known : Bool → ℕ → Option ℕ) : Type 0 where
  pub is : all ≡ done ++ left
  pub grown : Growing m v table pool known
  pub texts : all_texts_at m v table pool.texts left ≡ all_texts_at m v table front all
  pub noted : EachOf (λ u. IsSectionNoted v table u known) done
  pub remembers : Remembers first known

pub lists-start : (m : PathMap) (v : View) (table : TextSection) (all : List SectionFields) (pool : TextTable) (known : Bool → ℕ → Option ℕ) → Growing m v table pool known
    → ListsPass m v table pool.texts known [] all all pool known
lists-start m v table all pool known g = record { is = refl; grown = g; texts = refl; noted = tt; remembers = remembers_all known }

-- what is noted stays so
each-later : (v : View) (table : TextSection) (was known : Bool → ℕ → Option ℕ) (us : List SectionFields) → Remembers was known
    → EachOf (λ u. IsSectionNoted v table u was) us → EachOf (λ u. IsSectionNoted v table u known) us
each-later v table was known [] r h = tt
each-later v table was known (u ∷ us) r h = (noted-later v table u was known r h.0, each-later v table was known us r h.1)

-- one list more, and the last
pub lists-more : (m : PathMap) (v : View) (table : TextSection) (front : List (List ℕ)) (first : Bool → ℕ → Option ℕ) (done us left all : List SectionFields) (old new : TextTable)
    (was known : Bool → ℕ → Option ℕ) → ListsPass m v table front first done (us ++ left) all old was → GrownByAll m v table us old new was known
    → ListsPass m v table front first (done ++ us) left all new known
lists-more m v table front first done us left all old new was known p g = record {
  is = p.is ∙ sym (append_assoc done us left);
  grown = g.grown;
  texts = ap (λ (ts : List (List ℕ)). all_texts_at m v table ts left) g.texts ∙ sym (all_texts-append m v table old.texts us left) ∙ p.texts;
  noted = each-append (λ u. IsSectionNoted v table u known) done us (each-later v table was known done g.remembers p.noted)
      (noted-each v table known us (λ (k : ℕ) (d : SectionFields) (lt : k < length us). g.noted.each k d lt lt));
  remembers = remembers_on first was known p.remembers g.remembers;
}

pub lists-last : (m : PathMap) (v : View) (table : TextSection) (front : List (List ℕ)) (first : Bool → ℕ → Option ℕ) (done us all : List SectionFields) (old new : TextTable)
    (was known : Bool → ℕ → Option ℕ) → ListsPass m v table front first done us all old was → GrownByAll m v table us old new was known
    → ListsPass m v table front first (done ++ us) [] all new known
lists-last m v table front first done us all old new was known p g =
    lists-more m v table front first done us [] all old new was known (subst (λ (ws : List SectionFields). ListsPass m v table front first done ws all old was) (sym (append-nil us)) p) g

pub lists-end : (m : PathMap) (v : View) (table : TextSection) (done all : List SectionFields) (old pool : TextTable) (first known : Bool → ℕ → Option ℕ)
    → ListsPass m v table old.texts first done [] all pool known → GrownByAll m v table all old pool first known
lists-end m v table done all old pool first known p = record {
  grown = p.grown;
  texts = p.texts;
  noted = record {
    each = λ (k : ℕ) (d : SectionFields) lt (within : k < length all). each-get (λ u. IsSectionNoted v table u known) all k d within
        (subst (EachOf (λ u. IsSectionNoted v table u known)) (sym (p.is ∙ append-nil done)) p.noted);
  };
  remembers = p.remembers;
}

-- a table that is too long with one list more is too long with all
pub lists-refused : (m : PathMap) (v : View) (table : TextSection) (front : List (List ℕ)) (first : Bool → ℕ → Option ℕ) (done us left all : List SectionFields) (pool : TextTable)
    (known : Bool → ℕ → Option ℕ) (f : Fault) → ListsPass m v table front first done (us ++ left) all pool known
    → Blames (TooLong (length (table_bytes (table_with (all_texts_at m v table pool.texts us))))) f
    → Blames (TooLong (length (table_bytes (table_with (all_texts_at m v table front all))))) f
lists-refused m v table front first done us left all pool known f p b =
    let whole : all_texts_at m v table (all_texts_at m v table pool.texts us) left ≡ all_texts_at m v table front all =
    sym (all_texts-append m v table pool.texts us left) ∙ p.texts in
    longer-refused (all_texts_at m v table pool.texts us) (all_texts_at m v table front all) f
    (subst (λ (ts : List (List ℕ)). length (laid_texts (all_texts_at m v table pool.texts us)) ≤ length (laid_texts ts)) whole
    (length-all_texts m v table (all_texts_at m v table pool.texts us) left)) b

pub last-refused : (m : PathMap) (v : View) (table : TextSection) (front : List (List ℕ)) (first : Bool → ℕ → Option ℕ) (done us all : List SectionFields) (pool : TextTable)
    (known : Bool → ℕ → Option ℕ) (f : Fault) → ListsPass m v table front first done us all pool known
    → Blames (TooLong (length (table_bytes (table_with (all_texts_at m v table pool.texts us))))) f
    → Blames (TooLong (length (table_bytes (table_with (all_texts_at m v table front all))))) f
last-refused m v table front first done us all pool known f p b =
    lists-refused m v table front first done us [] all pool known f (subst (λ (ws : List SectionFields). ListsPass m v table front first done ws all pool known) (sym (append-nil us)) p) b

-- five lists, as the code has them: the pass in front of each, and behind the last
pub record FivePasses (m : PathMap) (v : View) (table : TextSection) (us : Fields) (a b c d e f : TextTable) (ka kb kc kd ke kf : Bool → ℕ → Option ℕ) : Type 0 where
  pub one : GrownByAll m v table us.units a b ka kb
  pub two : GrownByAll m v table us.slots b c kb kc
  pub three : GrownByAll m v table us.lines c d kc kd
  pub four : GrownByAll m v table us.macros d e kd ke
  pub five : GrownByAll m v table us.names e f ke kf

-- behind the first list, the second, the third and the fourth
pub behind-one : (m : PathMap) (v : View) (table : TextSection) (us : Fields) (a b : TextTable) (ka kb : Bool → ℕ → Option ℕ) → Growing m v table a ka → GrownByAll m v table us.units a b ka kb
    → ListsPass m v table a.texts ka us.units (us.slots ++ (us.lines ++ (us.macros ++ us.names))) (all_of us) b kb
behind-one m v table us a b ka kb g one =
    lists-more m v table a.texts ka [] us.units (us.slots ++ (us.lines ++ (us.macros ++ us.names))) (all_of us) a b ka kb (lists-start m v table (all_of us) a ka g) one

pub behind-two : (m : PathMap) (v : View) (table : TextSection) (us : Fields) (a b c : TextTable) (ka kb kc : Bool → ℕ → Option ℕ) → Growing m v table a ka
    → GrownByAll m v table us.units a b ka kb → GrownByAll m v table us.slots b c kb kc
    → ListsPass m v table a.texts ka (us.units ++ us.slots) (us.lines ++ (us.macros ++ us.names)) (all_of us) c kc
behind-two m v table us a b c ka kb kc g one two =
    lists-more m v table a.texts ka us.units us.slots (us.lines ++ (us.macros ++ us.names)) (all_of us) b c kb kc (behind-one m v table us a b ka kb g one) two

pub behind-three : (m : PathMap) (v : View) (table : TextSection) (us : Fields) (a b c d : TextTable) (ka kb kc kd : Bool → ℕ → Option ℕ) → Growing m v table a ka
    → GrownByAll m v table us.units a b ka kb → GrownByAll m v table us.slots b c kb kc → GrownByAll m v table us.lines c d kc kd
    → ListsPass m v table a.texts ka ((us.units ++ us.slots) ++ us.lines) (us.macros ++ us.names) (all_of us) d kd
behind-three m v table us a b c d ka kb kc kd g one two three =
    lists-more m v table a.texts ka (us.units ++ us.slots) us.lines (us.macros ++ us.names) (all_of us) c d kc kd (behind-two m v table us a b c ka kb kc g one two) three

pub behind-four : (m : PathMap) (v : View) (table : TextSection) (us : Fields) (a b c d e : TextTable) (ka kb kc kd ke : Bool → ℕ → Option ℕ) → Growing m v table a ka
    → GrownByAll m v table us.units a b ka kb → GrownByAll m v table us.slots b c kb kc → GrownByAll m v table us.lines c d kc kd → GrownByAll m v table us.macros d e kd ke
    → ListsPass m v table a.texts ka (((us.units ++ us.slots) ++ us.lines) ++ us.macros) us.names (all_of us) e ke
behind-four m v table us a b c d e ka kb kc kd ke g one two three four =
    lists-more m v table a.texts ka ((us.units ++ us.slots) ++ us.lines) us.macros us.names (all_of us) d e kd ke (behind-three m v table us a b c d ka kb kc kd g one two three) four

pub behind-five : (m : PathMap) (v : View) (table : TextSection) (us : Fields) (a b c d e f : TextTable) (ka kb kc kd ke kf : Bool → ℕ → Option ℕ) → Growing m v table a ka
    → FivePasses m v table us a b c d e f ka kb kc kd ke kf → GrownByAll m v table (all_of us) a f ka kf
behind-five m v table us a b c d e f ka kb kc kd ke kf g p =
    lists-end m v table ((((us.units ++ us.slots) ++ us.lines) ++ us.macros) ++ us.names) (all_of us) a f ka kf
    (lists-last m v table a.texts ka (((us.units ++ us.slots) ++ us.lines) ++ us.macros) us.names (all_of us) e f ke kf
    (behind-four m v table us a b c d e ka kb kc kd ke g p.one p.two p.three p.four) p.five)

-- the slices that are passed
pub grown-slice : (m : PathMap) (v : View) (table : TextSection) (xs us : List SectionFields) (old new : TextTable) (was known : Bool → ℕ → Option ℕ) → xs ≡ us
    → GrownByAll m v table xs old new was known → GrownByAll m v table us old new was known
grown-slice m v table xs us old new was known is g = subst (λ (ws : List SectionFields). GrownByAll m v table ws old new was known) is g

pub long-slice : (m : PathMap) (v : View) (table : TextSection) (ts : List (List ℕ)) (xs us : List SectionFields) (f : Fault) → xs ≡ us
    → Blames (TooLong (length (table_bytes (table_with (all_texts_at m v table ts xs))))) f → Blames (TooLong (length (table_bytes (table_with (all_texts_at m v table ts us))))) f
long-slice m v table ts xs us f is b = subst (λ (ws : List SectionFields). Blames (TooLong (length (table_bytes (table_with (all_texts_at m v table ts ws))))) f) is b

-- each list has offsets
pub of-units : (v : View) (us : Fields) (xs : List SectionFields) → xs ≡ us.units → AllHaveOffsets v (all_of us) → AllHaveOffsets v xs
of-units v us xs is h = subst (AllHaveOffsets v) (sym is) (offsets-parts v us.units (us.slots ++ (us.lines ++ (us.macros ++ us.names))) h).0

behind-units : (v : View) (us : Fields) → AllHaveOffsets v (all_of us) → AllHaveOffsets v (us.slots ++ (us.lines ++ (us.macros ++ us.names)))
behind-units v us h = (offsets-parts v us.units (us.slots ++ (us.lines ++ (us.macros ++ us.names))) h).1

pub of-slots : (v : View) (us : Fields) (xs : List SectionFields) → xs ≡ us.slots → AllHaveOffsets v (all_of us) → AllHaveOffsets v xs
of-slots v us xs is h = subst (AllHaveOffsets v) (sym is) (offsets-parts v us.slots (us.lines ++ (us.macros ++ us.names)) (behind-units v us h)).0

behind-slots : (v : View) (us : Fields) → AllHaveOffsets v (all_of us) → AllHaveOffsets v (us.lines ++ (us.macros ++ us.names))
behind-slots v us h = (offsets-parts v us.slots (us.lines ++ (us.macros ++ us.names)) (behind-units v us h)).1

pub of-lines : (v : View) (us : Fields) (xs : List SectionFields) → xs ≡ us.lines → AllHaveOffsets v (all_of us) → AllHaveOffsets v xs
of-lines v us xs is h = subst (AllHaveOffsets v) (sym is) (offsets-parts v us.lines (us.macros ++ us.names) (behind-slots v us h)).0

behind-lines : (v : View) (us : Fields) → AllHaveOffsets v (all_of us) → AllHaveOffsets v (us.macros ++ us.names)
behind-lines v us h = (offsets-parts v us.lines (us.macros ++ us.names) (behind-slots v us h)).1

pub of-macros : (v : View) (us : Fields) (xs : List SectionFields) → xs ≡ us.macros → AllHaveOffsets v (all_of us) → AllHaveOffsets v xs
of-macros v us xs is h = subst (AllHaveOffsets v) (sym is) (offsets-parts v us.macros us.names (behind-lines v us h)).0

pub of-names : (v : View) (us : Fields) (xs : List SectionFields) → xs ≡ us.names → AllHaveOffsets v (all_of us) → AllHaveOffsets v xs
of-names v us xs is h = subst (AllHaveOffsets v) (sym is) (offsets-parts v us.macros us.names (behind-lines v us h)).1

pub ruleset list_rules = (of-units, of-slots, of-lines, of-macros, of-names)

-- a table to which nothing was added yet
knows-none : (m : PathMap) (table : List ℕ) (known : Bool → ℕ → Option ℕ) → ((path : Bool) (o : ℕ) → known path o ≡ None) → Knows m table [] known
knows-none m table known none = record {
  each = λ (path : Bool) (offset place : ℕ) e. (let no : None ≡ Some place = sym (none path offset) ∙ e in absurd cc);
}

pub growing-none : (m : PathMap) (v : View) (table : TextSection) (pool : TextTable) (known : Bool → ℕ → Option ℕ) → pool ≡ record { kept = []; texts = [] }
    → ((path : Bool) (o : ℕ) → known path o ≡ None) → Growing m v table pool known
growing-none m v table pool known p none =
    subst (λ (x : TextTable). Growing m v table x known) (sym p) (record { kept = refl; small = omega arith; knows = knows-none m (texts_of v table).bytes known none })

-- so a table that has grown by all is made; one that would be too long
pub made-grown : (m : PathMap) (v : View) (table : TextSection) (us : List SectionFields) (old pool : TextTable) (was known : Bool → ℕ → Option ℕ)
    → old ≡ record { kept = []; texts = [] } → GrownByAll m v table us old pool was known → TableMade m v table us pool known
made-grown m v table us old pool was known is g = record {
  grown = g.grown;
  texts = g.texts ∙ ap (λ (x : TextTable). all_texts_at m v table x.texts us) is;
  noted = g.noted;
}

pub made-refused : (m : PathMap) (v : View) (table : TextSection) (us : List SectionFields) (old : TextTable) (f : Fault) → old ≡ record { kept = []; texts = [] }
    → Blames (TooLong (length (table_bytes (table_with (all_texts_at m v table old.texts us))))) f
    → Blames (TooLong (length (table_bytes (table_with (all_texts_at m v table [] us))))) f
made-refused m v table us old f is b = subst (λ (x : TextTable). Blames (TooLong (length (table_bytes (table_with (all_texts_at m v table x.texts us))))) f) is b
