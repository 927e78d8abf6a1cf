-- Macro units say the same exactly where their versions and line tables are the same, and their events are one by one.
use Rattle.std.proofs.Common.{Bool, true, false, ◌≡◌, ℕ, zero, suc, ◌<◌, ◌==◌, List, [], ◌∷◌, length, map, get_or, Option, None, refl, ap, sym, subst, ◌∙◌, arith}
use Rattle.std.proofs.lemmas.Bool.{eqb-false}
use Rattle.std.specs.Prelude.{◌↔◌, IsTrue, option_and_then}
use Rattle.dw_base.proofs.TextLaws.{same_text-from, same_text-true}
use Rattle.dw_base.specs.DebugData.{Around, start_number, started_unit}
use Rattle.dw_base.specs.FileViews.{View}
use Rattle.dw_base.specs.MacroMeanings.{EventMeaning, defined, undefined, begun, ended, brought, MacroMeaning}
use Rattle.dw_base.specs.Texts.{same_text}
use Rattle.dw_base.specs.declared.debug_sections.DebugSection.TheVariants.{Line, Macro}
use Rattle.dw_base.specs.declared.macro_units.MacroEvent.{MacroEvent}
use Rattle.dw_base.specs.declared.macro_units.MacroEvent.TheVariants.{Define, Undef, StartFile, EndFile, Import}
use Rattle.dw_base.specs.declared.macro_units.MacroUnit.{MacroUnit}
use Rattle.dw_macros.specs.EventMeanings.{event_meaning, unit_meaning}
use Rattle.dw_macros.specs.MacroEvents.{EventsState, IsUnitIn, events_left, events_start, unit_events}
use Rattle.dw_starts.specs.MacroNames.{AreUnitsIn}
use Rattle.dw_starts.specs.UnitPlaces.{unit_number}
use Rattle.dbg_check.proofs.ValueLaws.{told-by, told-no, not-told}
use Rattle.dbg_check.specs.MacroSides.{MacroSide, HasOther, event_said, events_said, unit_said}

-- ### Events

-- which kind an event is of
abbrev kind_of : EventMeaning → ℕ
kind_of (defined line t) = 0
kind_of (undefined line t) = 1
kind_of (begun line file) = 2
kind_of ended = 3
kind_of (brought unit) = 4

pub events-apart : (e f : EventMeaning) → (kind_of e == kind_of f) ≡ false → IsTrue false ↔ (e ≡ f)
events-apart e f apart = told-no (e ≡ f) (λ (same : e ≡ f). eqb-false (kind_of e) (kind_of f) apart (ap kind_of same))

abbrev line_said : EventMeaning → ℕ
line_said (defined line t) = line
line_said (undefined line t) = line
line_said (begun line file) = line
line_said e = 0

abbrev text_said : EventMeaning → List ℕ
text_said (defined line t) = t
text_said (undefined line t) = t
text_said e = []

abbrev file_said : EventMeaning → ℕ
file_said (begun line file) = file
file_said e = 0

abbrev unit_named : EventMeaning → Option ℕ
unit_named (brought unit) = unit
unit_named e = None

pub line-other : (n k : ℕ) (t u : List ℕ) (b : Bool) → (IsTrue b ↔ (n ≡ k)) → b ≡ false → IsTrue false ↔ (defined n t ≡ defined k u)
line-other n k t u b is not_ = told-no (defined n t ≡ defined k u) (λ e. not-told b (n ≡ k) is not_ (ap line_said e))

pub text-told : (n k : ℕ) (t u : List ℕ) (b r : Bool) → (IsTrue b ↔ (n ≡ k)) → b ≡ true → r ≡ same_text t u → IsTrue r ↔ (defined n t ≡ defined k u)
text-told n k t u b r is yes_ told = (
  (λ (e : r ≡ true). λ i. defined (is.0 yes_ i) (same_text-true t u (sym told ∙ e) i)),
  (λ (e : defined n t ≡ defined k u). told ∙ same_text-from t u (ap text_said e)),
)

pub ruleset text_laws = (line-other, text-told)

pub file-other : (n k f g : ℕ) (b : Bool) → (IsTrue b ↔ (n ≡ k)) → b ≡ false → IsTrue false ↔ (begun n f ≡ begun k g)
file-other n k f g b is not_ = told-no (begun n f ≡ begun k g) (λ e. not-told b (n ≡ k) is not_ (ap line_said e))

pub file-told : (n k f g : ℕ) (b r : Bool) → (IsTrue b ↔ (n ≡ k)) → b ≡ true → (IsTrue r ↔ (f ≡ g)) → IsTrue r ↔ (begun n f ≡ begun k g)
file-told n k f g b r is yes_ told =
    told-by r (f ≡ g) (begun n f ≡ begun k g) told (λ (e : f ≡ g). λ i. begun (is.0 yes_ i) (e i)) (λ (e : begun n f ≡ begun k g). ap file_said e)

pub ruleset file_laws = (file-other, file-told)

-- the end of a definition is told as a definition is
abbrev undef_of : EventMeaning → EventMeaning
undef_of (defined line t) = undefined line t
undef_of e = e

abbrev def_of : EventMeaning → EventMeaning
def_of (undefined line t) = defined line t
def_of e = e

pub define-there : (n k : ℕ) (t u w : List ℕ) (r : Bool) → (IsTrue r ↔ (defined n t ≡ defined k u)) → u ≡ w → IsTrue r ↔ (defined n t ≡ defined k w)
define-there n k t u w r told is = subst (λ (x : List ℕ). IsTrue r ↔ (defined n t ≡ defined k x)) is told

pub undef-there : (n k : ℕ) (t u w : List ℕ) (r : Bool) → (IsTrue r ↔ (defined n t ≡ defined k u)) → u ≡ w → IsTrue r ↔ (undefined n t ≡ undefined k w)
undef-there n k t u w r told is =
    told-by r (defined n t ≡ defined k u) (undefined n t ≡ undefined k w) told (λ (e : defined n t ≡ defined k u). ap undef_of e ∙ ap (undefined k) is)
    (λ (e : undefined n t ≡ undefined k w). ap def_of e ∙ ap (defined k) (sym is))

pub import-there : (a b c : Option ℕ) (r : Bool) → (IsTrue r ↔ (a ≡ b)) → b ≡ c → IsTrue r ↔ (brought a ≡ brought c)
import-there a b c r told is =
    told-by r (a ≡ b) (brought a ≡ brought c) told (λ (e : a ≡ b). ap brought (e ∙ is)) (λ (e : brought a ≡ brought c). ap unit_named e ∙ sym is)

pub end-told : IsTrue true ↔ (ended ≡ ended)
end-told = ((λ (e : true ≡ true). refl), (λ (e : ended ≡ ended). refl))

pub ruleset event_laws = (events-apart, define-there, undef-there, import-there, end-told)

-- the first of both, as the code has it
pub define-here : (n : ℕ) (t u : List ℕ) (e : EventMeaning) (r : Bool) → (IsTrue r ↔ (defined n t ≡ e)) → t ≡ u → IsTrue r ↔ (defined n u ≡ e)
define-here n t u e r told is = subst (λ (x : List ℕ). IsTrue r ↔ (defined n x ≡ e)) is told

pub undef-here : (n : ℕ) (t u : List ℕ) (e : EventMeaning) (r : Bool) → (IsTrue r ↔ (undefined n t ≡ e)) → t ≡ u → IsTrue r ↔ (undefined n u ≡ e)
undef-here n t u e r told is = subst (λ (x : List ℕ). IsTrue r ↔ (undefined n x ≡ e)) is told

pub import-here : (a b : Option ℕ) (e : EventMeaning) (r : Bool) → (IsTrue r ↔ (brought a ≡ e)) → a ≡ b → IsTrue r ↔ (brought b ≡ e)
import-here a b e r told is = subst (λ (x : Option ℕ). IsTrue r ↔ (brought x ≡ e)) is told

pub ruleset here_laws = (define-here, undef-here, import-here)

-- ### Walks in step

abbrev head_or : EventMeaning → List EventMeaning → EventMeaning
head_or e [] = e
head_or e (x ∷ xs) = x

cons-none : (x : EventMeaning) (xs : List EventMeaning) → x ∷ xs ≡ [] → ⊥
cons-none x xs e = cc

-- of the next event of a walk
pub next-same : (g h : MacroSide) (x y : MacroEvent) (es fs : List MacroEvent) (b : Bool) → es ≡ y ∷ fs → (IsTrue b ↔ (event_said g x ≡ event_said h y))
    → IsTrue b → events_said h es ≡ event_said g x ∷ events_said h fs
next-same g h x y es fs b is told yes_ = ap (events_said h) is ∙ ap (λ (e : EventMeaning). e ∷ events_said h fs) (sym (told.0 yes_))

pub next-other : (g h : MacroSide) (x y : MacroEvent) (es fs : List MacroEvent) (b : Bool) → es ≡ y ∷ fs → (IsTrue b ↔ (event_said g x ≡ event_said h y))
    → b ≡ false → HasOther (event_said g x) (events_said h es)
next-other g h x y es fs b is told no_ = record {
  none = λ rest e. not-told b (event_said g x ≡ event_said h y) told no_ (sym (ap (head_or ended) (sym (ap (events_said h) is) ∙ e)));
}

pub next-none : (g h : MacroSide) (x : MacroEvent) (es : List MacroEvent) → es ≡ [] → HasOther (event_said g x) (events_said h es)
next-none g h x es is = record { none = λ rest e. cons-none (event_said g x) rest (sym e ∙ ap (events_said h) is) }

pub ruleset next_laws = (next-same, next-other, next-none)

pub over-none : (h : MacroSide) (es : List MacroEvent) → es ≡ [] → IsTrue true ↔ ([] ≡ events_said h es)
over-none h es is = ((λ (e : true ≡ true). sym (ap (events_said h) is)), (λ (e : [] ≡ events_said h es). refl))

pub over-some : (h : MacroSide) (y : MacroEvent) (es fs : List MacroEvent) → es ≡ y ∷ fs → IsTrue false ↔ ([] ≡ events_said h es)
over-some h y es fs is = told-no ([] ≡ events_said h es) (λ e. cons-none (event_said h y) (events_said h fs) (sym (ap (events_said h) is) ∙ sym e))

pub ruleset over_laws = (over-none, over-some)

pub walk-start : (s : EventsState) (v : View) (u : MacroUnit) → s ≡ events_start v u → events_left s ≡ unit_events v u
walk-start s v u is = ap (λ (x : EventsState). events_left x) is

pub ruleset walk_laws = (walk-start)

-- two lists are the same exactly where what is left of both is
pub record SameLeft (xs ys us ws : List EventMeaning) : Type 0 where
  pub to : us ≡ ws → xs ≡ ys
  pub from : xs ≡ ys → us ≡ ws

pub left-start : (xs ys : List EventMeaning) → SameLeft xs ys xs ys
left-start xs ys = record { to = λ e. e; from = λ e. e }

pub ruleset loop_laws = (left-start)

-- ### Units

pub version-other : (g h : MacroSide) (u w : MacroUnit) → (u.version ≡ w.version → ⊥) → IsTrue false ↔ (unit_said g u ≡ unit_said h w)
version-other g h u w apart = told-no (unit_said g u ≡ unit_said h w) (λ e. apart (ap (λ (x : MacroMeaning). x.version) e))

pub table-other : (g h : MacroSide) (u w : MacroUnit) (a c : Option ℕ) (b : Bool) → (IsTrue b ↔ (a ≡ c)) → b ≡ false → a ≡ option_and_then (start_number 0 g.lines) u.line
    → c ≡ option_and_then (start_number 0 h.lines) w.line → IsTrue false ↔ (unit_said g u ≡ unit_said h w)
table-other g h u w a c b is not_ one two =
    told-no (unit_said g u ≡ unit_said h w) (λ e. not-told b (a ≡ c) is not_ (one ∙ ap (λ (x : MacroMeaning). x.line) e ∙ sym two))

pub unit-told : (g h : MacroSide) (u w : MacroUnit) (xs zs : List MacroEvent) (a c : Option ℕ) (b r : Bool) → (IsTrue r ↔ (events_said g xs ≡ events_said h zs))
    → xs ≡ unit_events g.view u → zs ≡ unit_events h.view w → u.version ≡ w.version → (IsTrue b ↔ (a ≡ c)) → b ≡ true
    → a ≡ option_and_then (start_number 0 g.lines) u.line → c ≡ option_and_then (start_number 0 h.lines) w.line → IsTrue r ↔ (unit_said g u ≡ unit_said h w)
unit-told g h u w xs zs a c b r told first second version is yes_ one two =
    told-by r (events_said g xs ≡ events_said h zs) (unit_said g u ≡ unit_said h w) told to
    (λ (e : unit_said g u ≡ unit_said h w). ap (events_said g) first ∙ ap (λ (x : MacroMeaning). x.events) e ∙ sym (ap (events_said h) second))
  where
    to : events_said g xs ≡ events_said h zs → unit_said g u ≡ unit_said h w
    to e =
        let line : option_and_then (start_number 0 g.lines) u.line ≡ option_and_then (start_number 0 h.lines) w.line = sym one ∙ is.0 yes_ ∙ two in
        let events : events_said g (unit_events g.view u) ≡ events_said h (unit_events h.view w) = sym (ap (events_said g) first) ∙ e ∙ ap (events_said h) second in
        λ i. record { version = version i; line = line i; events = events i }

pub ruleset unit_laws = (version-other, table-other, unit-told)

pub unit-in : (v : View) (us : List MacroUnit) (i : ℕ) (d : MacroUnit) → AreUnitsIn v us → i < length us → IsUnitIn v (get_or us i d)
unit-in v [] i d all lt = absurd (omega (arith, lt))
unit-in v (u ∷ us) zero d all lt = all.0
unit-in v (u ∷ us) (suc i) d all lt = unit-in v us i d all.1 (omega (arith, lt))

-- ### What units say is what they mean

-- a view's side says where what stands around its macro units is
pub record SideOf (s : MacroSide) (g : Around) : Type 0 where
  pub lines : s.lines ≡ (g.stands Line).starts
  pub units : (section place : ℕ) → started_unit 0 (g.lasting.kept Macro).starts section place ≡ unit_number s.keys section place

event-meant : (s : MacroSide) (g : Around) → SideOf s g → (e : MacroEvent) → event_said s e ≡ event_meaning s.view g e
event-meant s g is (Define line text) = refl
event-meant s g is (Undef line text) = refl
event-meant s g is (StartFile line file) = refl
event-meant s g is EndFile = refl
event-meant s g is (Import section offset field) = ap brought (sym (is.units section offset))

events-meant : (s : MacroSide) (g : Around) → SideOf s g → (es : List MacroEvent) → events_said s es ≡ map (event_meaning s.view g) es
events-meant s g is [] = refl
events-meant s g is (e ∷ es) = λ i. event-meant s g is e i ∷ events-meant s g is es i

pub unit-meant : (s : MacroSide) (g : Around) → SideOf s g → (u : MacroUnit) → unit_said s u ≡ unit_meaning s.view g u
unit-meant s g is u = λ i. record {
  version = u.version;
  line = option_and_then (start_number 0 (is.lines i)) u.line;
  events = events-meant s g is (unit_events s.view u) i;
}
