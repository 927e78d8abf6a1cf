-- A start asks the tree to settle once before its journal does.
use Rattle.std.proofs.Common.{◌≡◌, ℕ, ◌+◌, Bool, true, false, ◌&&◌, cond, List, [], ◌∷◌, ◌++◌, map, refl, ap, ◌∙◌, arith}
use Rattle.std.specs.Prelude.{count_by, IsTrue}
use Rattle.std.specs.List.{list_all}
use Rattle.std.proofs.lemmas.List.{map-append}
use Rattle.std.proofs.lemmas.List.Sums.{sum_by-cons, sum_by-append}
use Rattle.file_tree.specs.declared.call.Call.{Call}
use Rattle.file_tree.specs.declared.call.Call.TheVariants as call
use Rattle.file_tree.specs.declared.call.Effect.{Effect}
use Rattle.file_tree.specs.declared.call.Effect.TheVariants as effect
use Rattle.file_tree.specs.Seen.{Past, Happened, adds, is_settle, settles_of}
use Rattle.file_tree.specs.Moments.{is_look, LooksOnly}

abbrev calls : List Happened → List Call
calls hs = map (λ (h : Happened). h.call) hs

look-no-settle : (c : Call) (e : Effect) → IsTrue (is_look (record { call = c; effect = e })) → ◌≡◌ {A = ℕ} (cond (is_settle c) 1 0) 0
look-no-settle (call.List folder) e h = refl
look-no-settle (call.Read path) e h = refl
look-no-settle (call.Put path) e h = refl
look-no-settle (call.Rename from to) e h = refl
look-no-settle (call.Remove path) e h = refl
look-no-settle call.Settle e h = cc

both : (a b : Bool) → IsTrue (a && b) → IsTrue a × IsTrue b
both true b h = (refl, h)
both false b h = cc

looks-settle-not : (hs : List Happened) → IsTrue (list_all is_look hs) → count_by is_settle (calls hs) ≡ 0
looks-settle-not [] h = refl
looks-settle-not (g ∷ hs) h =
    let parts = both (is_look g) (list_all is_look hs) h in
    let sum : count_by is_settle (calls (g ∷ hs)) ≡ cond (is_settle g.call) 1 0 + count_by is_settle (calls hs) = sum_by-cons (λ (k : Call). cond (is_settle k) 1 0) g.call (calls hs) in
    let here : ◌≡◌ {A = ℕ} (cond (is_settle g.call) 1 0) 0 = look-no-settle g.call g.effect parts.0 in
    let rest : count_by is_settle (calls hs) ≡ 0 = looks-settle-not hs parts.1 in
    sum ∙ omega (arith, here, rest)

settles-append : (hs js : List Happened) → count_by is_settle (calls (hs ++ js)) ≡ count_by is_settle (calls hs) + count_by is_settle (calls js)
settles-append hs js = ap (count_by is_settle) (map-append (λ (h : Happened). h.call) hs js) ∙ sum_by-append (λ (k : Call). cond (is_settle k) 1 0) (calls hs) (calls js)

-- one settle, whatever it did
pub settled-by : (old new : Past) (done : Effect) → new ≡ adds old call.Settle done → settles_of new ≡ settles_of old + 1
settled-by old new done e =
    let last : count_by is_settle (calls ((record { call = call.Settle; effect = done }) ∷ [])) ≡ 1 = refl in
    ap settles_of e ∙ settles-append old.log ((record { call = call.Settle; effect = done }) ∷ []) ∙ ap (λ (n : ℕ). settles_of old + n) last

pub settled-once : (old mid new : Past) → mid ≡ adds old call.Settle effect.Settled → LooksOnly mid new → settles_of new ≡ settles_of old + 1
settled-once old mid new e l =
    let first_ : settles_of mid ≡ settles_of old + 1 = settled-by old mid effect.Settled e in
    let looks : settles_of new ≡ settles_of mid + count_by is_settle (calls l.rest) = ap (λ (hs : List Happened). count_by is_settle (calls hs)) l.log ∙ settles-append mid.log l.rest in
    let none : count_by is_settle (calls l.rest) ≡ 0 = looks-settle-not l.rest l.each in
    omega (arith, first_, looks, none)
