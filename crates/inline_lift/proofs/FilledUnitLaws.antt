-- Lifted units mean what the units meant, with the paths that grew filled: from the last piece to the first.
use Rattle.std.proofs.Common.{Bool, true, false, ◌≡◌, ℕ, zero, suc, ◌+◌, ◌-◌, ◌==◌, List, [], ◌∷◌, ◌++◌, length, replicate, Option, Some, None, refl, sym, ap, ◌∙◌, subst, arith, if◌then◌else◌}
use Rattle.std.specs.Prelude.{⊤}
use Rattle.std.proofs.lemmas.Bool.{eqb-false, ne_eqb}
use Rattle.dw_base.specs.AbbreviationBytes.{abbreviations_at}
use Rattle.dw_base.specs.AbbreviationTables.{Abbreviation, abbreviation_of}
use Rattle.dw_base.specs.Cells.{Cell, bytes_of, plain_cells}
use Rattle.dw_base.specs.DebugData.{Around, Lasting, ReadsAll, units_in}
use Rattle.dw_base.specs.EntryScans.{depth_behind}
use Rattle.dw_base.specs.Forests.{AttributeMeaning, Forest, no_entries, HeadMeaning, Mark, begins, opens, attribute, null, all_entries, with_entry}
use Rattle.dw_base.specs.Forms.{ValueKind, form_in_front, inline_text, kind_in, width_size}
use Rattle.dw_base.specs.InlinePaths.{inline_fits}
use Rattle.dw_base.specs.Paths.{PathMap}
use Rattle.dw_base.specs.Pieces.{Chain, EachPiece, Piece}
use Rattle.dw_base.specs.Readings.{EachReading, Readings}
use Rattle.dw_base.specs.Roles.{is_path_use, role_of, role_of_kind, role_of_mode, use_of}
use Rattle.dw_base.specs.TextChanges.{NamesText, NamesTextBy}
use Rattle.dw_base.specs.Texts.{is_in, text}
use Rattle.dw_base.specs.UnitHeaders.{UnitBase, UnitSection}
use Rattle.dw_base.specs.UnitMeanings.{Following, UnitMeaning, code_mark, entry_mark, following, head_mark, head_meaning, mark_by, mark_of, units_read, value_mark, with_mark}
use Rattle.dw_base.specs.UnitPieces.{FitsKind, FitsMode, IsHeader, IsValue, unit_grammar}
use Rattle.dw_base.specs.UnitStates.{Mode, at_header, at_code, at_values, at_chosen, stuck, UnitState, after_code, after_entry, after_header, after_value, before_unit, between, code_value, headed, in_unit, inside, past, piece_header}
use Rattle.dw_base.specs.ValueMeanings.{ValueMeaning, by_offset, inline, meaning_of_value, raw, string}
use Rattle.dw_base.specs.declared.shared.Order.{Order}
use Rattle.dw_base.specs.declared.shared.Params.{Params}
use Rattle.dw_base.specs.declared.shared.Width.{Width}
use Rattle.dw_base.specs.declared.shared.Width.TheVariants.{W32}
use Rattle.dw_base.specs.declared.units.UnitHeader.{UnitHeader}
use Rattle.dw_base.specs.declared.values.Spec.{Spec}
use Rattle.inline_lift.specs.Filled.{filled_attributes, filled_forest, filled_if, filled_unit, filled_units, filled_value, filler_attributes, filler_zeros}
use Rattle.inline_lift.specs.GrowingPaths.{Fate, stays, grown, grows_by, room_left}
use Rattle.inline_lift.specs.Lifted.{Lift, filler_pieces, header_cells, lifted_abbrevs, lifted_base, lifted_pieces, lifted_state, lifted_units, lifted_value, offset_cells}
use Rattle.inline_lift.specs.LiftedTables.{filler_bytes, filler_form, filler_name, lifted_specs, plain_spec}
use Rattle.inline_lift.proofs.HeaderLiftLaws.{header-put}
use Rattle.inline_lift.proofs.LiftedValueLaws.{filler-means, meaning-longer, meaning-state, offset-means, path-first, text-size, value-stays}
use Rattle.inline_lift.proofs.PieceLiftLaws.{EntryLifts, TableLifts, filler-kind, fits-width, in_mode, strp-kind, value_state}
use Rattle.inline_lift.proofs.LiftingLaws.{EachLifting}
use Rattle.inline_lift.proofs.StateLiftLaws.{entry_lifted}
use Rattle.inline_lift.proofs.SurroundingLaws.{Holds, IsSmall, Standing, new_around, old_around}
use Rattle.inline_lift.proofs.TurnedLaws.{AllTurned, Turned, all-turned, chosen, code, header, itself, more_turned, none_turned, path, value}
use Rattle.inline_lift.proofs.UnitLiftLaws.{header-same}

-- attributes of the first entry are filled, and no others
abbrev pub first_filled : Bool → PathMap → Width → List AttributeMeaning → List AttributeMeaning
first_filled true m w as_ = filled_attributes m w as_
first_filled false m w as_ = as_

-- the lists of entries in front of the first entry, filled; behind it they stay
abbrev pub LevelsFilled : Bool → PathMap → Width → List Forest → List Forest → Type 0
LevelsFilled true m w rs qs = all_entries qs ≡ filled_forest m w (all_entries rs)
LevelsFilled false m w rs qs = qs ≡ rs

-- what follows a place in a unit and what does once it is lifted: among the values of the first entry or not, in front of that entry or not
pub record Rest (m : PathMap) (w : Width) (first front : Bool) (r q : Following) : Type 0 where
  pub attributes : q.attributes ≡ first_filled first m w r.attributes
  pub levels : LevelsFilled front m w r.levels q.levels
  pub units : q.units ≡ filled_units m r.units

-- at a state of any mode: in front of a unit nothing of another one is left
abbrev pub Filling : Mode → PathMap → UnitState → Following → Following → Type 0
Filling at_header m s r q = (w : Width) (first front : Bool) → Rest m w first front r q
Filling at_code m s r q = (first : Bool) → Rest m s.header.params.width first (s.entry == 0) r q
Filling (at_values number tag xs) m s r q = Rest m s.header.params.width (number == 0) false r q
Filling (at_chosen number tag start x xs) m s r q = Rest m s.header.params.width (number == 0) false r q
Filling stuck m s r q = ⊥

rest-between : (m : PathMap) (s : UnitState) (place e depth : ℕ) (first : Bool) (r q : Following) → Filling (between s place e depth).mode m (between s place e depth) r q
    → Rest m s.header.params.width first (e == 0) r q
unfolding between
rest-between m s place e depth first r q h = by_end (place == s.header.end) (depth == 0) h
  where
    end_by : Bool → Bool → UnitState
    end_by a b = if a then (if b then before_unit s.section s.kind s.whole place (s.unit + 1) else in_unit s place e depth stuck) else in_unit s place e depth at_code

    by_end : (a b : Bool) → Filling (end_by a b).mode m (end_by a b) r q → Rest m s.header.params.width first (e == 0) r q
    by_end true true h = h s.header.params.width first (e == 0)
    by_end true false h = absurd h
    by_end false b h = h first

rest-inside : (m : PathMap) (s : UnitState) (place e depth number tag : ℕ) (xs : List Spec) (r q : Following) → (e == 0) ≡ false
    → Filling (inside s place e depth number tag xs).mode m (inside s place e depth number tag xs) r q → Rest m s.header.params.width (number == 0) false r q
rest-inside m s place e depth number tag [] r q some h =
    subst (λ (b : Bool). Rest m s.header.params.width (number == 0) b r q) some (rest-between m s place e depth (number == 0) r q h)
rest-inside m s place e depth number tag (x ∷ xs) r q some h = h

-- in front of a null, and of an entry
null-rest : (m : PathMap) (w : Width) (section : ℕ) (first last front : Bool) (r q : Following) → Rest m w first front r q
    → Rest m w last front (with_mark section null r) (with_mark section null q)
null-rest m w section first last front r q h = record { attributes = none last; levels = by_front front h.levels; units = h.units }
  where
    none : (b : Bool) → ◌≡◌ {A = List AttributeMeaning} [] (first_filled b m w [])
    none true = refl
    none false = refl

    by_front : (b : Bool) → LevelsFilled b m w r.levels q.levels → LevelsFilled b m w (no_entries ∷ r.levels) (no_entries ∷ q.levels)
    by_front true e = e
    by_front false e = ap (λ (fs : List Forest). no_entries ∷ fs) e

entry-levels : (m : PathMap) (w : Width) (tag : ℕ) (children first : Bool) (as_ bs : List AttributeMeaning) (rs qs : List Forest) → bs ≡ first_filled first m w as_ → qs ≡ rs
    → LevelsFilled first m w (with_entry tag children as_ rs) (with_entry tag children bs qs)
entry-levels m w tag children false as_ bs rs qs e f = ap (λ (cs_ : List AttributeMeaning). with_entry tag children cs_ qs) e ∙ ap (with_entry tag children as_) f
entry-levels m w tag children true as_ bs rs qs e f =
    ap (λ (cs_ : List AttributeMeaning). all_entries (with_entry tag children cs_ qs)) e
    ∙ ap (λ (fs : List Forest). all_entries (with_entry tag children (filled_attributes m w as_) fs)) f
    ∙ by_children children
  where
    by_children : (b : Bool) → all_entries (with_entry tag b (filled_attributes m w as_) rs) ≡ filled_forest m w (all_entries (with_entry tag b as_ rs))
    by_children true = refl
    by_children false = refl

entry-rest : (m : PathMap) (w : Width) (section tag : ℕ) (children first last : Bool) (r q : Following) → Rest m w first false r q
    → Rest m w last first (with_mark section (opens tag children) r) (with_mark section (opens tag children) q)
entry-rest m w section tag children first last r q h = record {
  attributes = none last;
  levels = entry-levels m w tag children first r.attributes q.attributes r.levels q.levels h.attributes h.levels;
  units = h.units;
}
  where
    none : (b : Bool) → ◌≡◌ {A = List AttributeMeaning} [] (first_filled b m w [])
    none true = refl
    none false = refl

-- in front of values that aren't filled
value-rest : (m : PathMap) (w : Width) (section : ℕ) (first : Bool) (a : AttributeMeaning) (r q : Following) → filled_value m w a.name a.value ≡ a ∷ [] → Rest m w first false r q
    → Rest m w first false (with_mark section (attribute a) r) (with_mark section (attribute a) q)
value-rest m w section first a r q quiet h = record { attributes = by_first first h.attributes; levels = h.levels; units = h.units }
  where
    by_first : (b : Bool) → q.attributes ≡ first_filled b m w r.attributes → a ∷ q.attributes ≡ first_filled b m w (a ∷ r.attributes)
    by_first true e = ap (λ (cs_ : List AttributeMeaning). a ∷ cs_) e ∙ ap (λ (cs_ : List AttributeMeaning). cs_ ++ filled_attributes m w r.attributes) (sym quiet)
    by_first false e = ap (λ (cs_ : List AttributeMeaning). a ∷ cs_) e

-- and of one that is
path-rest : (m : PathMap) (w : Width) (section : ℕ) (a : AttributeMeaning) (bs : List AttributeMeaning) (r q p : Following) → filled_value m w a.name a.value ≡ bs → Rest m w true false r q
    → p ≡ record { attributes = bs ++ q.attributes; levels = q.levels; units = q.units } → Rest m w true false (with_mark section (attribute a) r) p
path-rest m w section a bs r q p is h same =
    subst (Rest m w true false (with_mark section (attribute a) r)) (sym same)
    (record {
      attributes = ap (λ (cs_ : List AttributeMeaning). bs ++ cs_) h.attributes ∙ ap (λ (cs_ : List AttributeMeaning). cs_ ++ filled_attributes m w r.attributes) (sym is);
      levels = h.levels;
      units = h.units;
    })

-- a mark that stays
abbrev QuietMark : PathMap → Width → Mark → Type 0
QuietMark m w (attribute a) = filled_value m w a.name a.value ≡ a ∷ []
QuietMark m w k = ⊤

head-quiet : (m : PathMap) (w : Width) (g : Lasting) (o : Option UnitHeader) → QuietMark m w (head_mark g o)
head-quiet m w g None = tt
head-quiet m w g (Some h) = tt

entry-quiet : (m : PathMap) (w : Width) (o : Option Abbreviation) → QuietMark m w (entry_mark o)
entry-quiet m w None = tt
entry-quiet m w (Some a) = tt

code-quiet : (m : PathMap) (w : Width) (table : List Abbreviation) (n : ℕ) → QuietMark m w (code_mark table n)
code-quiet m w table n = by_zero (n == 0)
  where
    by_zero : (z : Bool) → QuietMark m w (if z then null else entry_mark (abbreviation_of table n))
    by_zero true = tt
    by_zero false = entry-quiet m w (abbreviation_of table n)

kind-mark_quiet : (k : ValueKind) (m : PathMap) (w : Width) (a : Around) (s : UnitState) (number tag : ℕ) (x : Spec) (p : List Cell) → grows_by (role_of_kind k (use_of number tag x.name)) m p ≡ false
    → QuietMark m w (value_mark k a s number tag x p)
kind-mark_quiet form_in_front m w a s number tag x p h = tt
kind-mark_quiet k m w a s number tag x p h = value-stays k m w x.name a s (use_of number tag x.name) x p h

quiet-mark : (k : Mode) (m : PathMap) (w : Width) (a : Around) (s : UnitState) (p : List Cell) → grows_by (role_of_mode k s.header.params) m p ≡ false → QuietMark m w (mark_by k a s p)
quiet-mark at_header m w a s p h = head-quiet m w a.lasting (piece_header a.lasting.base s p)
quiet-mark at_code m w a s p h = code-quiet m w s.table (code_value p)
quiet-mark (at_values number tag []) m w a s p h = tt
quiet-mark (at_values number tag (x ∷ xs)) m w a s p h = kind-mark_quiet (kind_in s.header.params x.form) m w a s number tag x p h
quiet-mark (at_chosen number tag start x xs) m w a s p h = kind-mark_quiet (kind_in s.header.params x.form) m w a s number tag x p h
quiet-mark stuck m w a s p h = tt

-- values are those of an entry
abbrev pub HasEntry : Mode → ℕ → Type 0
HasEntry (at_values number tag xs) n = (n == 0) ≡ false
HasEntry (at_chosen number tag start x xs) n = (n == 0) ≡ false
HasEntry m n = ⊤

between-entry : (s : UnitState) (place e depth : ℕ) → HasEntry (between s place e depth).mode (between s place e depth).entry
unfolding between
between-entry s place e depth = by_end (place == s.header.end) (depth == 0)
  where
    end_by : Bool → Bool → UnitState
    end_by a b = if a then (if b then before_unit s.section s.kind s.whole place (s.unit + 1) else in_unit s place e depth stuck) else in_unit s place e depth at_code

    by_end : (a b : Bool) → HasEntry (end_by a b).mode (end_by a b).entry
    by_end true true = tt
    by_end true false = tt
    by_end false b = tt

inside-entry : (s : UnitState) (place e depth number tag : ℕ) (xs : List Spec) → (e == 0) ≡ false → HasEntry (inside s place e depth number tag xs).mode (inside s place e depth number tag xs).entry
inside-entry s place e depth number tag [] some = between-entry s place e depth
inside-entry s place e depth number tag (x ∷ xs) some = some

header-entry : (base : UnitBase) (s : UnitState) (place : ℕ) (o : Option UnitHeader) → HasEntry (after_header base s place o).mode (after_header base s place o).entry
header-entry base s place None = tt
header-entry base s place (Some h) = between-entry (headed base s h) place 0 0

some-next : (n : ℕ) → (n + 1 == 0) ≡ false
some-next n = ne_eqb (n + 1) 0 (λ e. omega (arith, e))

entry-entry : (s : UnitState) (place : ℕ) (o : Option Abbreviation) → HasEntry (after_entry s place o).mode (after_entry s place o).entry
entry-entry s place None = tt
entry-entry s place (Some a) = inside-entry s place (s.entry + 1) (depth_behind a s.depth) s.entry a.tag a.specs (some-next s.entry)

code-entry : (s : UnitState) (place n : ℕ) → HasEntry (after_code s place n).mode (after_code s place n).entry
unfolding after_code
code-entry s place n = by_zero (n == 0)
  where
    code_by : Bool → UnitState
    code_by z = if z then between s place s.entry (s.depth - 1) else after_entry s place (abbreviation_of s.table n)

    by_zero : (z : Bool) → HasEntry (code_by z).mode (code_by z).entry
    by_zero true = between-entry s place s.entry (s.depth - 1)
    by_zero false = entry-entry s place (abbreviation_of s.table n)

value-entry : (k : ValueKind) (s : UnitState) (place form number tag : ℕ) (x : Spec) (xs : List Spec) → (s.entry == 0) ≡ false
    → HasEntry (after_value k s place form number tag x xs).mode (after_value k s place form number tag x xs).entry
value-entry form_in_front s place form number tag x xs some = some
value-entry k s place form number tag x xs some = inside-entry s place s.entry s.depth number tag xs some

past-entry : (k : Mode) (base : UnitBase) (s : UnitState) (p : List Cell) → FitsMode k base s p → HasEntry k s.entry → HasEntry (past k base s p).mode (past k base s p).entry
past-entry at_header base s p f some = header-entry base s (s.place + length p) (piece_header base s p)
past-entry at_code base s p f some = code-entry s (s.place + length p) (code_value p)
past-entry (at_values number tag []) base s p f some = absurd f
past-entry (at_values number tag (x ∷ xs)) base s p f some = value-entry (kind_in s.header.params x.form) s (s.place + length p) (code_value p) number tag x xs some
past-entry (at_chosen number tag start x xs) base s p f some = inside-entry s (s.place + length p) s.entry s.depth number tag xs some
past-entry stuck base s p f some = absurd f

-- in front of a piece that stays
head-rest : (m : PathMap) (section : ℕ) (head : HeadMeaning) (w : Width) (all first front : Bool) (r q : Following) → Rest m head.width all true r q
    → Rest m w first front (with_mark section (begins head) r) (with_mark section (begins head) q)
head-rest m section head w all first front r q h = record {
  attributes = none first;
  levels = no_levels front;
  units =
      ap (λ (f : Forest). record { section = section; head = head; entries = f } ∷ q.units) h.levels
      ∙ ap (λ (us : List UnitMeaning). record { section = section; head = head; entries = filled_forest m head.width (all_entries r.levels) } ∷ us) h.units;
}
  where
    none : (b : Bool) → ◌≡◌ {A = List AttributeMeaning} [] (first_filled b m w [])
    none true = refl
    none false = refl

    no_levels : (b : Bool) → LevelsFilled b m w [] []
    no_levels true = refl
    no_levels false = refl

rest-value : (k : ValueKind) (m : PathMap) (s : UnitState) (place form number tag : ℕ) (x : Spec) (xs : List Spec) (r q : Following) → (s.entry == 0) ≡ false
    → Filling (after_value k s place form number tag x xs).mode m (after_value k s place form number tag x xs) r q → Rest m s.header.params.width (number == 0) false r q
rest-value form_in_front m s place form number tag x xs r q some h = h
rest-value k m s place form number tag x xs r q some h = rest-inside m s place s.entry s.depth number tag xs r q some h

value-step : (k : ValueKind) (m : PathMap) (w : Width) (section : ℕ) (first : Bool) (a : Around) (s : UnitState) (number tag : ℕ) (x : Spec) (p : List Cell) (r q : Following)
    → QuietMark m w (value_mark k a s number tag x p) → Rest m w first false r q
    → Rest m w first false (with_mark section (value_mark k a s number tag x p) r) (with_mark section (value_mark k a s number tag x p) q)
value-step form_in_front m w section first a s number tag x p r q quiet h = h
value-step k m w section first a s number tag x p r q quiet h =
    value-rest m w section first (record { name = x.name; value = meaning_of_value a s (use_of number tag x.name) x k p }) r q quiet h

header-step : (m : PathMap) (base : UnitBase) (g : Lasting) (section : ℕ) (s : UnitState) (place : ℕ) (o : Option UnitHeader) (r q : Following)
    → Filling (after_header base s place o).mode m (after_header base s place o) r q → (w : Width) (first front : Bool)
    → Rest m w first front (with_mark section (head_mark g o) r) (with_mark section (head_mark g o) q)
header-step m base g section s place None r q h w first front = absurd h
header-step m base g section s place (Some o) r q h w first front =
    head-rest m section (head_meaning g o) w true first front r q (rest-between m (headed base s o) place 0 0 true r q h)

entry-step : (m : PathMap) (section : ℕ) (s : UnitState) (place : ℕ) (o : Option Abbreviation) (r q : Following)
    → Filling (after_entry s place o).mode m (after_entry s place o) r q → (first : Bool)
    → Rest m s.header.params.width first (s.entry == 0) (with_mark section (entry_mark o) r) (with_mark section (entry_mark o) q)
entry-step m section s place None r q h first = absurd h
entry-step m section s place (Some a) r q h first =
    entry-rest m s.header.params.width section a.tag a.children (s.entry == 0) first r q
    (rest-inside m s place (s.entry + 1) (depth_behind a s.depth) s.entry a.tag a.specs r q (some-next s.entry) h)

code-step : (m : PathMap) (section : ℕ) (s : UnitState) (place n : ℕ) (r q : Following) → Filling (after_code s place n).mode m (after_code s place n) r q → (first : Bool)
    → Rest m s.header.params.width first (s.entry == 0) (with_mark section (code_mark s.table n) r) (with_mark section (code_mark s.table n) q)
unfolding after_code
code-step m section s place n r q h first = by_zero (n == 0) h
  where
    code_by : Bool → UnitState
    code_by z = if z then between s place s.entry (s.depth - 1) else after_entry s place (abbreviation_of s.table n)

    mark : Bool → Mark
    mark z = if z then null else entry_mark (abbreviation_of s.table n)

    by_zero : (z : Bool) → Filling (code_by z).mode m (code_by z) r q → Rest m s.header.params.width first (s.entry == 0) (with_mark section (mark z) r) (with_mark section (mark z) q)
    by_zero true g = null-rest m s.header.params.width section first first (s.entry == 0) r q (rest-between m s place s.entry (s.depth - 1) first r q g)
    by_zero false g = entry-step m section s place (abbreviation_of s.table n) r q g first

mode-step : (k : Mode) (m : PathMap) (base : UnitBase) (a : Around) (section : ℕ) (s : UnitState) (p : List Cell) (r q : Following) → a.lasting.base ≡ base → FitsMode k base (in_mode s k) p
    → HasEntry k s.entry → QuietMark m s.header.params.width (mark_by k a (in_mode s k) p) → Filling (past k base (in_mode s k) p).mode m (past k base (in_mode s k) p) r q
    → Filling k m (in_mode s k) (with_mark section (mark_by k a (in_mode s k) p) r) (with_mark section (mark_by k a (in_mode s k) p) q)
mode-step at_header m base a section s p r q same f some quiet h =
    subst (λ (b : UnitBase). (w : Width) (first front : Bool)
    → Rest m w first front (with_mark section (head_mark a.lasting (piece_header b (in_mode s at_header) p)) r) (with_mark section (head_mark a.lasting (piece_header b (in_mode s at_header) p)) q))
    (sym same) (header-step m base a.lasting section (in_mode s at_header) (s.place + length p) (piece_header base (in_mode s at_header) p) r q h)
mode-step at_code m base a section s p r q same f some quiet h = code-step m section (in_mode s at_code) (s.place + length p) (code_value p) r q h
mode-step (at_values number tag []) m base a section s p r q same f some quiet h = absurd f
mode-step (at_values number tag (x ∷ xs)) m base a section s p r q same f some quiet h =
    value-step (kind_in s.header.params x.form) m s.header.params.width section (number == 0) a (in_mode s (at_values number tag (x ∷ xs))) number tag x p r q quiet
    (rest-value (kind_in s.header.params x.form) m (in_mode s (at_values number tag (x ∷ xs))) (s.place + length p) (code_value p) number tag x xs r q some h)
mode-step (at_chosen number tag start x xs) m base a section s p r q same f some quiet h =
    value-step (kind_in s.header.params x.form) m s.header.params.width section (number == 0) a (in_mode s (at_chosen number tag start x xs)) number tag x p r q quiet
    (rest-inside m (in_mode s (at_chosen number tag start x xs)) (s.place + length p) s.entry s.depth number tag xs r q some h)
mode-step stuck m base a section s p r q same f some quiet h = absurd f

-- a piece that stays has its mark
head-longer : (l : Lift) (g : Standing) (o : Option UnitHeader) → head_mark (new_around l g).lasting o ≡ head_mark (old_around l g).lasting o
head-longer l g None = refl
head-longer l g (Some h) = refl

kind-longer : (k : ValueKind) (l : Lift) (g : Standing) (s : UnitState) (number tag : ℕ) (x : Spec) (p : List Cell) → NamesTextBy (role_of_kind k (use_of number tag x.name)) (old_around l g) p
    → value_mark k (new_around l g) s number tag x p ≡ value_mark k (old_around l g) s number tag x p
kind-longer form_in_front l g s number tag x p h = refl
kind-longer k l g s number tag x p h =
    ap (λ (v : ValueMeaning). attribute (record { name = x.name; value = v })) (meaning-longer k l g s (use_of number tag x.name) x p h)

mark-longer : (k : Mode) (l : Lift) (g : Standing) (s : UnitState) (p : List Cell) → NamesTextBy (role_of_mode k s.header.params) (old_around l g) p
    → mark_by k (new_around l g) s p ≡ mark_by k (old_around l g) s p
mark-longer at_header l g s p h =
    ap (head_mark (new_around l g).lasting) (header-same l s.kind s.section s.place p) ∙ head-longer l g (piece_header l.base s p)
mark-longer at_code l g s p h = refl
mark-longer (at_values number tag []) l g s p h = refl
mark-longer (at_values number tag (x ∷ xs)) l g s p h = kind-longer (kind_in s.header.params x.form) l g s number tag x p h
mark-longer (at_chosen number tag start x xs) l g s p h = kind-longer (kind_in s.header.params x.form) l g s number tag x p h
mark-longer stuck l g s p h = refl

-- and so have a header with another table, a code and a value in a lifted state
header-mark : (l : Lift) (g : Standing) (table : ℕ) (s : UnitState) (p : List Cell) → TableLifts l table → (f : IsHeader l.base s p)
    → head_mark (new_around l g).lasting (piece_header (lifted_base l) s (header_cells l.base.order table p (piece_header l.base s p))) ≡ head_mark (old_around l g).lasting (piece_header l.base s p)
header-mark l g table s p t f =
    let put = header-put l.base (lifted_base l) s.kind s.section s.place p f.header table refl (fits-width f.header.params.width table t.small) f.is in
    ap (λ (o : Option UnitHeader). head_mark (new_around l g).lasting (piece_header (lifted_base l) s (header_cells l.base.order table p o))) f.is
    ∙ ap (head_mark (new_around l g).lasting) put.0
    ∙ ap (head_mark (old_around l g).lasting) (sym f.is)

entry-mark : (gs : List Fate) (o : Option Abbreviation) → entry_mark (entry_lifted gs o) ≡ entry_mark o
entry-mark gs None = refl
entry-mark gs (Some a) = refl

code-mark : (l : Lift) (table : ℕ) (gs : List Fate) (s : UnitState) (p : List Cell) → EntryLifts l table gs s p
    → code_mark (abbreviations_at (lifted_abbrevs l) table) (code_value p) ≡ code_mark s.table (code_value p)
code-mark l table gs s p lifts = by_zero (code_value p == 0) refl
  where
    by_zero : (z : Bool) → (code_value p == 0) ≡ z
        → (if z then null else entry_mark (abbreviation_of (abbreviations_at (lifted_abbrevs l) table) (code_value p))) ≡ (if z then null else entry_mark (abbreviation_of s.table (code_value p)))
    by_zero true e = refl
    by_zero false e = ap entry_mark (lifts (eqb-false (code_value p) 0 e)) ∙ entry-mark gs (abbreviation_of s.table (code_value p))

kind-lifted : (k : ValueKind) (l : Lift) (g : Standing) (table : ℕ) (fs : List Fate) (s : UnitState) (number tag : ℕ) (x : Spec) (p : List Cell)
    → NamesTextBy (role_of_kind k (use_of number tag x.name)) (old_around l g) p
    → value_mark k (new_around l g) (lifted_state l table fs s) number tag x p ≡ value_mark k (old_around l g) s number tag x p
kind-lifted form_in_front l g table fs s number tag x p h = refl
kind-lifted k l g table fs s number tag x p h =
    ap (λ (v : ValueMeaning). attribute (record { name = x.name; value = v }))
    (meaning-state k (new_around l g) l table fs s (use_of number tag x.name) x p ∙ meaning-longer k l g s (use_of number tag x.name) x p h)

-- a path that grew is an offset, and zeros where room is left
offset-mark : (l : Lift) (g : Standing) (s t : UnitState) (number tag : ℕ) (x : Spec) (p : List Cell) → IsSmall l → is_in l.texts (text (bytes_of p)) ≡ true
    → is_path_use (use_of number tag x.name) ≡ true
    → value_mark (kind_in s.header.params 0x0e) (new_around l g) t number tag (plain_spec x.name 0x0e) (offset_cells l s p)
    ≡ attribute (record { name = x.name; value = string true by_offset (text (bytes_of p)) })
offset-mark l g s t number tag x p small held is =
    ap (λ (k : ValueKind). value_mark k (new_around l g) t number tag (plain_spec x.name 0x0e) (offset_cells l s p)) (strp-kind s.header.params)
    ∙ ap (λ (v : ValueMeaning). attribute (record { name = x.name; value = v })) (offset-means l g s t (use_of number tag x.name) (plain_spec x.name 0x0e) p small held is)

filler-mark : (a : Around) (params : Params) (t : UnitState) (number tag : ℕ) (o : Order) (n : ℕ)
    → value_mark (kind_in params (filler_form n)) a t number tag (plain_spec filler_name (filler_form n)) (plain_cells (filler_bytes o (suc n)))
    ≡ attribute (record { name = filler_name; value = raw (plain_cells (replicate (filler_zeros n) 0)) })
filler-mark a params t number tag o n =
    ap (λ (k : ValueKind). value_mark k a t number tag (plain_spec filler_name (filler_form n)) (plain_cells (filler_bytes o (suc n)))) (filler-kind params n)
    ∙ ap (λ (v : ValueMeaning). attribute (record { name = filler_name; value = v })) (filler-means a t (use_of number tag filler_name) (plain_spec filler_name (filler_form n)) o n)

path-mark : (k : ValueKind) (a : Around) (s : UnitState) (number tag : ℕ) (x : Spec) (p : List Cell) → k ≡ inline_text → is_path_use (use_of number tag x.name) ≡ true
    → value_mark k a s number tag x p ≡ attribute (record { name = x.name; value = string true inline (text (bytes_of p)) })
path-mark k a s number tag x p kind is =
    ap (λ (j : ValueKind). value_mark j a s number tag x p) kind
    ∙ ap (λ (b : Bool). attribute (record { name = x.name; value = string b inline (text (bytes_of p)) })) is

abbrev grown_attributes : ℕ → List ℕ → ℕ → List AttributeMeaning
grown_attributes name t r = record { name = name; value = string true by_offset t } ∷ filler_attributes r

filled-path : (m : PathMap) (w : Width) (name : ℕ) (t : List ℕ) (n : ℕ) → inline_fits m t ≡ false → n ≡ length t + 1 → filled_value m w name (string true inline t) ≡ grown_attributes name t (n - width_size w)
filled-path m w name t n fits size = ap (λ (b : Bool). filled_if b w name t) fits ∙ ap (λ (k : ℕ). grown_attributes name t (k - width_size w)) (sym size)

abbrev with_attributes : List AttributeMeaning → Following → Following
with_attributes bs q = record { attributes = bs ++ q.attributes; levels = q.levels; units = q.units }

path-following : (l : Lift) (g : Standing) (section table : ℕ) (gs : List Fate) (s : UnitState) (number tag r : ℕ) (x : Spec) (xs : List Spec) (p : List Cell) (behind : List (Piece UnitState))
    → IsSmall l → is_in l.texts (text (bytes_of p)) ≡ true → is_path_use (use_of number tag x.name) ≡ true
    → following section (new_around l g) (lifted_value (grown r) l (lifted_state l table (grown r ∷ gs) (value_state s number tag x xs)) p ++ behind)
    ≡ with_attributes (grown_attributes x.name (text (bytes_of p)) r) (following section (new_around l g) behind)
path-following l g section table gs s number tag zero x xs p behind small held is =
    ap (λ (k : Mark). with_mark section k (following section (new_around l g) behind))
    (offset-mark l g (lifted_state l table (grown 0 ∷ gs) (value_state s number tag x xs)) (lifted_state l table (grown 0 ∷ gs) (value_state s number tag x xs)) number tag x p small held is)
path-following l g section table gs s number tag (suc n) x xs p behind small held is =
    ap (λ (k : Mark). with_mark section k (following section (new_around l g) (filler_pieces l.base.order (lifted_state l table (grown (suc n) ∷ gs) (value_state s number tag x xs)) (suc n) ++ behind)))
    (offset-mark l g (lifted_state l table (grown (suc n) ∷ gs) (value_state s number tag x xs)) (lifted_state l table (grown (suc n) ∷ gs) (value_state s number tag x xs)) number tag x p small held is)
    ∙ ap (λ (k : Mark). with_mark section (attribute (record { name = x.name; value = string true by_offset (text (bytes_of p)) })) (with_mark section k (following section (new_around l g) behind)))
    (filler-mark (new_around l g) s.header.params
    (in_unit (lifted_state l table (grown (suc n) ∷ gs) (value_state s number tag x xs)) (s.place + width_size s.header.params.width) s.entry s.depth
    (at_values number tag (plain_spec filler_name (filler_form n) ∷ lifted_specs gs xs))) number tag l.base.order n)

-- so with each piece
abbrev pub Named : Lift → Standing → Piece UnitState → Type 0
Named l g x = NamesText (old_around l g) x × Holds l x

step-turned : (l : Lift) (g : Standing) (section : ℕ) → IsSmall l → (x : Piece UnitState) (ys : List (Piece UnitState)) → Turned l ⊤ x ys → (r : Following) (behind : List (Piece UnitState))
    → FitsMode x.state.mode l.base x.state x.cells → HasEntry x.state.mode x.state.entry → Named l g x
    → Filling (past x.state.mode l.base x.state x.cells).mode l.map (past x.state.mode l.base x.state x.cells) r (following section (new_around l g) behind)
    → Filling x.state.mode l.map x.state (with_mark section (mark_of (old_around l g) x) r) (following section (new_around l g) (ys ++ behind))
unfolding role_of
step-turned l g section small x ys (itself y quiet) r behind f some h fill =
    subst (λ (k : Mark). Filling x.state.mode l.map x.state (with_mark section (mark_of (old_around l g) x) r) (with_mark section k (following section (new_around l g) behind)))
    (sym (mark-longer x.state.mode l g x.state x.cells h.0))
    (mode-step x.state.mode l.map l.base (old_around l g) section x.state x.cells r (following section (new_around l g) behind) refl f some
    (quiet-mark x.state.mode l.map x.state.header.params.width (old_around l g) x.state x.cells (quiet tt)) fill)
step-turned l g section small x ys (header table s p is_header lifts) r behind f some h fill =
    subst (λ (k : Mark). Filling at_header l.map (in_mode s at_header) (with_mark section (mark_by at_header (old_around l g) (in_mode s at_header) p) r) (with_mark section k (following section (new_around l g) behind)))
    (sym (header-mark l g table (in_mode s at_header) p (lifts tt) is_header))
    (mode-step at_header l.map l.base (old_around l g) section s p r (following section (new_around l g) behind) refl f some
    (quiet-mark at_header l.map s.header.params.width (old_around l g) (in_mode s at_header) p refl) fill)
step-turned l g section small x ys (code table gs s p lifts) r behind f some h fill =
    subst (λ (k : Mark). Filling at_code l.map (in_mode s at_code) (with_mark section (mark_by at_code (old_around l g) (in_mode s at_code) p) r) (with_mark section k (following section (new_around l g) behind)))
    (sym (code-mark l table gs s p (lifts tt)))
    (mode-step at_code l.map l.base (old_around l g) section s p r (following section (new_around l g) behind) refl f some
    (quiet-mark at_code l.map s.header.params.width (old_around l g) (in_mode s at_code) p refl) fill)
step-turned l g section small x ys (value table gs s number tag y rest p quiet) r behind f some h fill =
    subst (λ (k : Mark). Filling (at_values number tag (y ∷ rest)) l.map (value_state s number tag y rest)
    (with_mark section (mark_by (at_values number tag (y ∷ rest)) (old_around l g) (value_state s number tag y rest) p) r) (with_mark section k (following section (new_around l g) behind)))
    (sym (kind-lifted (kind_in s.header.params y.form) l g table (stays ∷ gs) (value_state s number tag y rest) number tag y p h.0))
    (mode-step (at_values number tag (y ∷ rest)) l.map l.base (old_around l g) section s p r (following section (new_around l g) behind) refl f some
    (quiet-mark (at_values number tag (y ∷ rest)) l.map s.header.params.width (old_around l g) (value_state s number tag y rest) p quiet) fill)
step-turned l g section small x ys (chosen table gs s number tag start y rest p quiet) r behind f some h fill =
    subst (λ (k : Mark). Filling (at_chosen number tag start y rest) l.map (in_mode s (at_chosen number tag start y rest))
    (with_mark section (mark_by (at_chosen number tag start y rest) (old_around l g) (in_mode s (at_chosen number tag start y rest)) p) r) (with_mark section k (following section (new_around l g) behind)))
    (sym (kind-lifted (kind_in s.header.params y.form) l g table (stays ∷ gs) (in_mode s (at_chosen number tag start y rest)) number tag y p h.0))
    (mode-step (at_chosen number tag start y rest) l.map l.base (old_around l g) section s p r (following section (new_around l g) behind) refl f some
    (quiet-mark (at_chosen number tag start y rest) l.map s.header.params.width (old_around l g) (in_mode s (at_chosen number tag start y rest)) p (quiet tt)) fill)
step-turned l g section small x ys (path table gs s number tag y rest p grew kind is fits lifts) r behind f some h fill =
    let held : is_in l.texts (text (bytes_of p)) ≡ true = h.1 grew in
    let zero_is : (number == 0) ≡ true = path-first number tag y.name is in
    let here : IsValue (value_state s number tag y rest) y inline_text p = subst (λ (k : ValueKind). FitsKind k (value_state s number tag y rest) y p) kind f in
    let behind_it : Rest l.map s.header.params.width (number == 0) false r (following section (new_around l g) behind) =
    rest-value (kind_in s.header.params y.form) l.map (value_state s number tag y rest) (s.place + length p) (code_value p) number tag y rest r (following section (new_around l g) behind) some fill in
    subst (λ (b : Bool). Rest l.map s.header.params.width b false
    (with_mark section (value_mark (kind_in s.header.params y.form) (old_around l g) (value_state s number tag y rest) number tag y p) r)
    (following section (new_around l g) (lifted_value (grown (room_left s p)) l (lifted_state l table (grown (room_left s p) ∷ gs) (value_state s number tag y rest)) p ++ behind))) (sym zero_is)
    (subst (λ (k : Mark). Rest l.map s.header.params.width true false (with_mark section k r)
    (following section (new_around l g) (lifted_value (grown (room_left s p)) l (lifted_state l table (grown (room_left s p) ∷ gs) (value_state s number tag y rest)) p ++ behind)))
    (sym (path-mark (kind_in s.header.params y.form) (old_around l g) (value_state s number tag y rest) number tag y p kind is))
    (path-rest l.map s.header.params.width section (record { name = y.name; value = string true inline (text (bytes_of p)) }) (grown_attributes y.name (text (bytes_of p)) (room_left s p)) r
    (following section (new_around l g) behind) _
    (filled-path l.map s.header.params.width y.name (text (bytes_of p)) (length p) fits (text-size (value_state s number tag y rest) y p here))
    (subst (λ (b : Bool). Rest l.map s.header.params.width b false r (following section (new_around l g) behind)) zero_is behind_it)
    (path-following l g section table gs s number tag (room_left s p) y rest p behind small held is)))

-- and all of them
end-filled : (m : PathMap) (w : Width) (first front : Bool) → Rest m w first front (record { attributes = []; levels = []; units = [] }) (record { attributes = []; levels = []; units = [] })
end-filled m w true true = record { attributes = refl; levels = refl; units = refl }
end-filled m w true false = record { attributes = refl; levels = refl; units = refl }
end-filled m w false true = record { attributes = refl; levels = refl; units = refl }
end-filled m w false false = record { attributes = refl; levels = refl; units = refl }

pub following-filled : (l : Lift) (g : Standing) (section : ℕ) → IsSmall l → (t : UnitState) (xs ys : List (Piece UnitState)) → Chain (unit_grammar l.base) t xs → AllTurned l ⊤ xs ys
    → EachPiece (Named l g) xs → HasEntry t.mode t.entry → Filling t.mode l.map t (following section (old_around l g) xs) (following section (new_around l g) ys)
following-filled l g section small t xs ys c none_turned h some =
    subst (λ (k : Mode). Filling k l.map t (record { attributes = []; levels = []; units = [] }) (record { attributes = []; levels = []; units = [] })) (sym c.mode)
    (λ w first front. end-filled l.map w first front)
following-filled l g section small t xs ys c (more_turned x front rest behind turned all) h some =
    let here : HasEntry x.state.mode x.state.entry = subst (λ (u : UnitState). HasEntry u.mode u.entry) (sym c.0) some in
    let fill = following-filled l g section small (past x.state.mode l.base x.state x.cells) rest behind c.2 all h.1 (past-entry x.state.mode l.base x.state x.cells c.1 here) in
    subst (λ (u : UnitState). Filling u.mode l.map u (following section (old_around l g) (x ∷ rest)) (following section (new_around l g) (front ++ behind))) c.0
    (step-turned l g section small x front turned (following section (old_around l g) rest) behind c.1 here h.0 fill)

-- the units of sections
filled-append : (m : PathMap) (us vs : List UnitMeaning) → filled_units m (us ++ vs) ≡ filled_units m us ++ filled_units m vs
filled-append m [] vs = refl
filled-append m (u ∷ us) vs = ap (λ (ws : List UnitMeaning). filled_unit m u ∷ ws) (filled-append m us vs)

pub units-filled : (l : Lift) (g : Standing) → IsSmall l → (first : ℕ) (zs : List UnitSection) (rs : Readings) → ReadsAll l.base first zs rs → EachLifting l rs → EachReading (Named l g) rs
    → units_read (new_around l g) (lifted_units l rs) ≡ filled_units l.map (units_read (old_around l g) rs)
units-filled l g small first [] [] reads known h = refl
units-filled l g small first [] (r ∷ rs) reads known h = absurd reads
units-filled l g small first (z ∷ zs) [] reads known h = absurd reads
units-filled l g small first (z ∷ zs) (r ∷ rs) reads known h =
    let turned = all-turned l ⊤ (before_unit z.number z.kind (length z.contents) 0 first) r.pieces reads.1.chain (λ sure. known.0) in
    let fill = following-filled l g r.number small (before_unit z.number z.kind (length z.contents) 0 first) r.pieces (lifted_pieces l r.pieces) reads.1.chain turned h.0 tt in
    ap (λ (us : List UnitMeaning). us ++ units_read (new_around l g) (lifted_units l rs)) (fill W32 true true).units
    ∙ ap (λ (us : List UnitMeaning). filled_units l.map (following r.number (old_around l g) r.pieces).units ++ us)
    (units-filled l g small (first + units_in r.pieces) zs rs reads.2 known.1 h.1)
    ∙ sym (filled-append l.map (following r.number (old_around l g) r.pieces).units (units_read (old_around l g) rs))
