-- What is decided of each of a list is decided of all, and what holds of all holds of one.
use Rattle.std.specs.Bool.{⊤}
use Rattle.std.specs.Prelude.{slice_index_or}
use Rattle.std.proofs.Common.{◌≡◌, ℕ, zero, suc, ◌<◌, List, [], ◌∷◌, ◌++◌, length, Contains, refl, sym, ◌∙◌, subst, append_assoc, arith}
use Rattle.dw_base.specs.MacroReadings.{EachMacro, MacroReading}
use Rattle.dw_base.specs.MacroPieces.{MacroState}
use Rattle.dw_base.specs.Pieces.{EachPiece, Piece}
use Rattle.dw_base.specs.Readings.{EachReading, Reading, Readings}
use Rattle.dw_base.specs.UnitStates.{UnitState}
use Rattle.dw_base.specs.declared.fault.Refusal.{Refusal}
use Rattle.refusal_laws.specs.Decided.{Decided, SomeFails, refused, some_fails, taken}
use Rattle.refusal_laws.proofs.Decisions.{decided-among, decided-each}

-- this holds of each of a list
abbrev pub Each : {X : Type 0} → (X → Type 0) → List X → Type 0
Each P [] = ⊤
Each P (x ∷ xs) = P x × Each P xs

-- one of a list
pub record Among {X : Type 0} (xs : List X) (x : X) : Type 0 where
  pub before : List X
  pub behind : List X
  pub is : xs ≡ before ++ x ∷ behind

pub decided-pair : {A B : Type 0} {F : Refusal → Type 0} → Decided A F → Decided B F → Decided (A × B) F
decided-pair {A} {B} {F} (refused r h) b = refused r h
decided-pair {A} {B} {F} (taken a) (refused r h) = refused r h
decided-pair {A} {B} {F} (taken a) (taken b) = taken (a, b)

-- all of so many, where each is refused by the same rows
some-one : {F : Refusal → Type 0} → (n : ℕ) (r : Refusal) → SomeFails n (λ (i : ℕ). F) r → F r
some-one {F} n r (some_fails i lt h) = h

pub decided-all : {P : ℕ → Type 0} {F : Refusal → Type 0} → (n : ℕ) → ((i : ℕ) → i < n → Decided (P i) F) → Decided ((i : ℕ) → i < n → P i) F
decided-all {P} {F} n one = decided-among (some-one {F = F} n) (decided-each {P = P} {F = λ (i : ℕ). F} n one)

-- all of a list
list-from : {X : Type 0} {P : X → Type 0} {F : Refusal → Type 0} → (front xs all : List X) → all ≡ front ++ xs → ((x : X) → Among all x → Decided (P x) F)
    → Decided (Each P xs) F
list-from {X} {P} {F} front [] all e one = taken tt
list-from {X} {P} {F} front (x ∷ xs) all e one =
    decided-pair (one x (record { before = front; behind = xs; is = e }))
    (list-from {X = X} {P = P} {F = F} (front ++ x ∷ []) xs all (e ∙ sym (append_assoc front (x ∷ []) xs)) one)

pub decided-list : {X : Type 0} {P : X → Type 0} {F : Refusal → Type 0} → (xs : List X) → ((x : X) → Among xs x → Decided (P x) F) → Decided (Each P xs) F
decided-list {X} {P} {F} xs one = list-from {X = X} {P = P} {F = F} [] xs xs refl one

-- one of a list of which it holds
each-at : {X : Type 0} (P : X → Type 0) (before behind : List X) (x : X) → Each P (before ++ x ∷ behind) → P x
each-at {X} P [] behind x h = h.0
each-at {X} P (y ∷ ys) behind x h = each-at {X = X} P ys behind x h.1

pub each-among : {X : Type 0} (P : X → Type 0) (xs : List X) (x : X) → Among xs x → Each P xs → P x
each-among {X} P xs x a h = each-at {X = X} P a.before a.behind x (subst (Each P) a.is h)

-- and of which something else holds
map-from : {X : Type 0} (P Q : X → Type 0) (front xs all : List X) → all ≡ front ++ xs → ((x : X) → Among all x → P x → Q x) → Each P xs → Each Q xs
map-from {X} P Q front [] all e one h = tt
map-from {X} P Q front (x ∷ xs) all e one h = (
  one x (record { before = front; behind = xs; is = e }) h.0,
  map-from {X = X} P Q (front ++ x ∷ []) xs all (e ∙ sym (append_assoc front (x ∷ []) xs)) one h.1,
)

pub each-map : {X : Type 0} (P Q : X → Type 0) (xs : List X) → ((x : X) → Among xs x → P x → Q x) → Each P xs → Each Q xs
each-map {X} P Q xs one h = map-from {X = X} P Q [] xs xs refl one h

pub each-append : {X : Type 0} (P : X → Type 0) (xs ys : List X) → Each P xs → Each P ys → Each P (xs ++ ys)
each-append {X} P [] ys h k = k
each-append {X} P (x ∷ xs) ys h k = (h.0, each-append {X = X} P xs ys h.1 k)

pub each-front : {X : Type 0} (P : X → Type 0) (xs ys : List X) → Each P (xs ++ ys) → Each P xs
each-front {X} P [] ys h = tt
each-front {X} P (x ∷ xs) ys h = (h.0, each-front {X = X} P xs ys h.1)

pub each-behind : {X : Type 0} (P : X → Type 0) (xs ys : List X) → Each P (xs ++ ys) → Each P ys
each-behind {X} P [] ys h = h
each-behind {X} P (x ∷ xs) ys h = each-behind {X = X} P xs ys h.1

pub decided-append : {X : Type 0} (P : X → Type 0) {F : Refusal → Type 0} → (xs ys : List X) → Decided (Each P xs) F → Decided (Each P ys) F → Decided (Each P (xs ++ ys)) F
decided-append {X} P {F} xs ys (refused r h) k = refused r h
decided-append {X} P {F} xs ys (taken h) (refused r k) = refused r k
decided-append {X} P {F} xs ys (taken h) (taken k) = taken (each-append P xs ys h k)

-- one of a list by its number
pub contains-among : {X : Type 0} (before behind : List X) (x : X) → Contains (before ++ x ∷ behind) x
contains-among {X} [] behind x = (0, omega arith, refl)
contains-among {X} (y ∷ ys) behind x =
    let rest : Contains (ys ++ x ∷ behind) x = contains-among {X = X} ys behind x in
    (suc rest.0, omega (arith, rest.1), rest.2)

at-number : {X : Type 0} (P : X → Type 0) (xs : List X) (k : ℕ) (x : X) → k < length xs → slice_index_or xs k x ≡ x → Each P xs → P x
at-number {X} P [] k x lt e h = absurd (omega (arith, lt))
at-number {X} P (y ∷ ys) zero x lt e h = subst P e h.0
at-number {X} P (y ∷ ys) (suc k) x lt e h = at-number {X = X} P ys k x (omega (arith, lt)) e h.1

pub each-contained : {X : Type 0} (P : X → Type 0) (xs : List X) (x : X) → Contains xs x → Each P xs → P x
each-contained {X} P xs x c h = at-number {X = X} P xs c.0 x c.1 c.2 h

-- ### Pieces

pub each-piece : {S : Type 0} (P : Piece S → Type 0) (xs : List (Piece S)) → Each P xs → EachPiece P xs
each-piece {S} P [] h = tt
each-piece {S} P (x ∷ xs) h = (h.0, each-piece {S = S} P xs h.1)

pub piece-each : {S : Type 0} (P : Piece S → Type 0) (xs : List (Piece S)) → EachPiece P xs → Each P xs
piece-each {S} P [] h = tt
piece-each {S} P (x ∷ xs) h = (h.0, piece-each {S = S} P xs h.1)

pub decided-pieces : {S : Type 0} {P : Piece S → Type 0} {F : Refusal → Type 0} → (xs : List (Piece S)) → ((x : Piece S) → Among xs x → Decided (P x) F) → Decided (EachPiece P xs) F
decided-pieces {S} {P} {F} xs one = by (decided-list {X = Piece S} {P = P} {F = F} xs one)
  where
    by : Decided (Each P xs) F → Decided (EachPiece P xs) F
    by (refused r h) = refused r h
    by (taken h) = taken (each-piece P xs h)

pub each-readings : (P : Piece UnitState → Type 0) (rs : Readings) → Each (λ (r : Reading). EachPiece P r.pieces) rs → EachReading P rs
each-readings P [] h = tt
each-readings P (r ∷ rs) h = (h.0, each-readings P rs h.1)

pub readings-each : (P : Piece UnitState → Type 0) (rs : Readings) → EachReading P rs → Each (λ (r : Reading). EachPiece P r.pieces) rs
readings-each P [] h = tt
readings-each P (r ∷ rs) h = (h.0, readings-each P rs h.1)

pub decided-readings : {P : Piece UnitState → Type 0} {F : Refusal → Type 0} → (rs : Readings)
    → ((q : Reading) → Among rs q → (x : Piece UnitState) → Among q.pieces x → Decided (P x) F) → Decided (EachReading P rs) F
decided-readings {P} {F} rs one =
    by (decided-list {X = Reading} {P = λ (q : Reading). EachPiece P q.pieces} {F = F} rs (λ (q : Reading) (a : Among rs q). decided-pieces {P = P} {F = F} q.pieces (one q a)))
  where
    by : Decided (Each (λ (q : Reading). EachPiece P q.pieces) rs) F → Decided (EachReading P rs) F
    by (refused r h) = refused r h
    by (taken h) = taken (each-readings P rs h)

each-macros : (P : Piece MacroState → Type 0) (rs : List MacroReading) → Each (λ (r : MacroReading). EachPiece P r.pieces) rs → EachMacro P rs
each-macros P [] h = tt
each-macros P (r ∷ rs) h = (h.0, each-macros P rs h.1)

pub macros-each : (P : Piece MacroState → Type 0) (rs : List MacroReading) → EachMacro P rs → Each (λ (r : MacroReading). EachPiece P r.pieces) rs
macros-each P [] h = tt
macros-each P (r ∷ rs) h = (h.0, macros-each P rs h.1)

pub decided-macros : {P : Piece MacroState → Type 0} {F : Refusal → Type 0} → (rs : List MacroReading)
    → ((q : MacroReading) → Among rs q → (x : Piece MacroState) → Among q.pieces x → Decided (P x) F) → Decided (EachMacro P rs) F
decided-macros {P} {F} rs one =
    by (decided-list {X = MacroReading} {P = λ (q : MacroReading). EachPiece P q.pieces} {F = F} rs
    (λ (q : MacroReading) (a : Among rs q). decided-pieces {P = P} {F = F} q.pieces (one q a)))
  where
    by : Decided (Each (λ (q : MacroReading). EachPiece P q.pieces) rs) F → Decided (EachMacro P rs) F
    by (refused r h) = refused r h
    by (taken h) = taken (each-macros P rs h)

-- what holds of each piece of a section holds of one
pub reading-among : (P : Piece UnitState → Type 0) (rs : Readings) (q : Reading) (x : Piece UnitState) → Among rs q → Among q.pieces x → EachReading P rs → P x
reading-among P rs q x a b h =
    each-among P q.pieces x b (piece-each P q.pieces (each-among (λ (r : Reading). EachPiece P r.pieces) rs q a (readings-each P rs h)))

pub macro-among : (P : Piece MacroState → Type 0) (rs : List MacroReading) (q : MacroReading) (x : Piece MacroState) → Among rs q → Among q.pieces x → EachMacro P rs → P x
macro-among P rs q x a b h =
    each-among P q.pieces x b (piece-each P q.pieces (each-among (λ (r : MacroReading). EachPiece P r.pieces) rs q a (macros-each P rs h)))

-- two that hold of each piece, and what follows
pub pieces-map : {S : Type 0} (P Q R : Piece S → Type 0) (xs : List (Piece S)) → ((x : Piece S) → P x → Q x → R x) → EachPiece P xs → EachPiece Q xs → EachPiece R xs
pieces-map {S} P Q R [] f h k = tt
pieces-map {S} P Q R (x ∷ xs) f h k = (f x h.0 k.0, pieces-map {S = S} P Q R xs f h.1 k.1)

pub readings-map : (P Q R : Piece UnitState → Type 0) (rs : Readings) → ((x : Piece UnitState) → P x → Q x → R x) → EachReading P rs → EachReading Q rs → EachReading R rs
readings-map P Q R [] f h k = tt
readings-map P Q R (r ∷ rs) f h k = (pieces-map P Q R r.pieces f h.0 k.0, readings-map P Q R rs f h.1 k.1)

pub macros-map : (P Q R : Piece MacroState → Type 0) (rs : List MacroReading) → ((x : Piece MacroState) → P x → Q x → R x) → EachMacro P rs → EachMacro Q rs → EachMacro R rs
macros-map P Q R [] f h k = tt
macros-map P Q R (r ∷ rs) f h k = (pieces-map P Q R r.pieces f h.0 k.0, macros-map P Q R rs f h.1 k.1)
