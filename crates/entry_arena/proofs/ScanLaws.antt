-- From what a pass over a unit gives to nodes that know their parents.
use Rattle.std.proofs.Common.{Bool, true, false, ◌≡◌, ℕ, zero, suc, ◌+◌, ◌-◌, ◌<◌, ◌≤◌, ◌^◌, List, [], ◌∷◌, ◌++◌, length, take, get_or, Some, None, Result, Ok, Err, refl, sym, ap, ◌∙◌, subst, arith, if◌then◌else◌, append_assoc, append-nil, length-append}
use Rattle.std.specs.Prelude.{⊤}
use Rattle.std.proofs.lemmas.List.{length-take}
use Rattle.dw_base.specs.AbbreviationTables.{Abbreviation}
use Rattle.dw_base.specs.Cells.{bytes_of}
use Rattle.dw_base.specs.EntryScans.{SpellsValues, no_values, more_values, scanned, Scans, starts, null, entry, AreEntries, EntryFails}
use Rattle.dw_base.specs.EntryValues.{bytes_up_to}
use Rattle.dw_base.specs.Refusals.{Blames}
use Rattle.dw_base.specs.UnitHeaders.{UnitSection}
use Rattle.dw_base.specs.declared.fault.Fault.{Fault}
use Rattle.dw_base.specs.declared.fault.Refusal.{Refusal}
use Rattle.dw_base.specs.declared.shared.Params.{Params}
use Rattle.dw_base.specs.declared.units.Scanned.{Scanned}
use Rattle.dw_base.specs.declared.units.UnitHeader.{UnitHeader}
use Rattle.dw_base.specs.declared.values.Spec.{Spec}
use Rattle.dw_base.proofs.LebLaws.{uleb-inside, uleb-some}
use Rattle.dw_meaning.proofs.EntryRowLaws.{entries-exclude}
use Rattle.dw_entries.specs.ScanStates.{ScanState, HasGiven, GivesEntry, GivesRefusal, GivesNothing, scan_start}
use Rattle.dw_entries.specs.CodedEntries.{GivesCode, GivesCoded}
use Rattle.dw_entries.specs.declared.scan.Coded.{Coded}
use Rattle.entry_arena.specs.LinkedNodes.{AreLinked, Begun, all_begun, last_of, linked_from, linked_nodes, new_node, none_begun, with_entry}
use Rattle.entry_arena.specs.ScannedNodes.{IsBegun}
use Rattle.entry_arena.specs.Shapes.{IsLinkedAs, Shape, depths_in, node_at, size}
use Rattle.entry_arena.specs.UnitArenas.{AreOf, ArenaFits, Climb, IsArenaOf, depths_of}
use Rattle.entry_arena.specs.declared.arena.EntryNode.{EntryNode}
use Rattle.entry_arena.proofs.ShapeLaws.{all-spell}
use Rattle.entry_arena.proofs.ShapeThereLaws.{HasShape, length-depths, shape-there}

-- the last of some numbers
pub last-there : (xs : List ℕ) (d : ℕ) → 0 < length xs → Some (get_or xs (length xs - 1) d) ≡ last_of xs
last-there [] d lt = absurd (omega (arith, lt))
last-there (x ∷ []) d lt = refl
last-there (x ∷ (y ∷ ys)) d lt =
    let place : length (x ∷ (y ∷ ys)) - 1 ≡ suc (length (y ∷ ys) - 1) = omega arith in
    ap (λ (i : ℕ). Some (get_or (x ∷ (y ∷ ys)) i d)) place ∙ last-there (y ∷ ys) d (omega arith)

pub last-none : (xs : List ℕ) → length xs ≡ 0 → None ≡ last_of xs
last-none [] e = refl
last-none (x ∷ xs) e = absurd (omega (arith, e))

pub ruleset last_laws = (last-there, last-none)

-- one entry more
begun-more : (table : List Abbreviation) (b : Begun) (es : List Scanned) (e : Scanned) → all_begun table b (es ++ e ∷ []) ≡ with_entry table (all_begun table b es) e
begun-more table b [] e = refl
begun-more table b (x ∷ xs) e = begun-more table (with_entry table b x) xs e

-- as many nodes as entries
begun-count : (table : List Abbreviation) (b : Begun) (es : List Scanned) → length (all_begun table b es).nodes ≡ length b.nodes + length es
begun-count table b [] = omega arith
begun-count table b (e ∷ es) =
    let rest = begun-count table (with_entry table b e) es in
    let one = length-append b.nodes (new_node table (last_of (take e.depth b.above)) e ∷ []) in
    omega (arith, rest, one)

-- where a pass stands: the entries that it gave are these nodes
pub record Stands (h : UnitHeader) (table : List Abbreviation) (bytes : List ℕ) (s : ScanState) (b : Begun) : Type 0 where
  pub entries : List Scanned
  pub given : HasGiven s entries
  pub unit_is : s.unit ≡ h
  pub table_is : s.table ≡ table
  pub bytes_are : s.bytes ≡ bytes
  pub running : s.over ≡ false
  pub is : b ≡ all_begun table none_begun entries

pub pass-starts : (h : UnitHeader) (table : List Abbreviation) (bytes : List ℕ) (s : ScanState) (b : Begun) → s ≡ scan_start h table bytes → b ≡ none_begun
    → Stands h table bytes s b
pass-starts h table bytes s b is none =
    subst (λ (x : ScanState). Stands h table bytes x b) (sym is) (record {
      entries = [];
      given = record { scans = starts; count = refl };
      unit_is = refl;
      table_is = refl;
      bytes_are = refl;
      running = refl;
      is = none;
    })

pub pass-more : (h : UnitHeader) (table : List Abbreviation) (bytes : List ℕ) (s u : ScanState) (b c : Begun) (e : Scanned) → Stands h table bytes s b → GivesEntry s e u
    → c ≡ with_entry table b e → Stands h table bytes u c
pass-more h table bytes s u b c e p g is = record {
  entries = p.entries ++ e ∷ [];
  given = g.more p.entries p.given;
  unit_is = ap (λ (x : ScanState). x.unit) g.same ∙ p.unit_is;
  table_is = ap (λ (x : ScanState). x.table) g.same ∙ p.table_is;
  bytes_are = ap (λ (x : ScanState). x.bytes) g.same ∙ p.bytes_are;
  running = ap (λ (x : ScanState). x.over) g.same ∙ p.running;
  is = is ∙ ap (λ (x : Begun). with_entry table x e) p.is ∙ sym (begun-more table none_begun p.entries e);
}

values-after : (params : Params) (bytes : List ℕ) (start : ℕ) (xs : List Spec) (place : ℕ) → SpellsValues params bytes start xs place → start ≤ place
values-after params bytes start xs place no_values = omega arith
values-after params bytes start xs z (more_values ys y place v s is) =
    let before = values-after params bytes start ys place s in
    omega (arith, before)

-- as few entries as bytes
record Few (es : List Scanned) (bytes : List ℕ) (place : ℕ) : Type 0 where
  behind : length es ≤ place
  inside : length es ≤ length bytes

scans-few : (h : UnitHeader) (table : List Abbreviation) (bytes : List ℕ) (es : List Scanned) (place depth : ℕ) → Scans h table bytes es place depth → Few es bytes place
scans-few h table bytes es place depth starts = record { behind = omega arith; inside = omega arith }
scans-few h table bytes all z d (null es place depth size s is) =
    let f : Few es bytes place = scans-few h table bytes es place depth s in
    let before = f.behind in
    record { behind = omega (arith, before); inside = f.inside }
scans-few h table bytes all z d (entry es place depth after a s is root) =
    let f : Few es bytes place = scans-few h table bytes es place depth s in
    let before = f.behind in
    let some : 0 < is.size = uleb-some bytes place is.code is.size is.spells in
    let room : place + is.size ≤ length bytes = uleb-inside bytes place is.code is.size is.spells in
    let values : place + is.size ≤ after = values-after h.params bytes (place + is.size) a.specs after is.values in
    let count : length (es ++ scanned place depth a after ∷ []) ≡ length es + 1 = length-append es (scanned place depth a after ∷ []) in
    record { behind = omega (arith, before, some, values, count); inside = omega (arith, before, some, room, count) }

pub pass-few : (h : UnitHeader) (table : List Abbreviation) (bytes : List ℕ) (s : ScanState) (b : Begun) → Stands h table bytes s b → length bytes ≤ 2 ^ 31 → length b.nodes ≤ 2 ^ 31
pass-few h table bytes s b p small =
    let count : length b.nodes ≡ 0 + length p.entries = ap (λ (x : Begun). length x.nodes) p.is ∙ begun-count table none_begun p.entries in
    let few : Few p.entries s.bytes s.place = scans-few s.unit s.table s.bytes p.entries s.place s.depth p.given.scans in
    let inside = few.inside in
    let same : length s.bytes ≡ length bytes = ap (λ (x : List ℕ). length x) p.bytes_are in
    omega (arith, count, inside, same, small)

pub pass-fails : (h : UnitHeader) (table : List Abbreviation) (bytes : List ℕ) (s u : ScanState) (b : Begun) (r : Refusal) → Stands h table bytes s b → GivesRefusal s r u
    → EntryFails h table bytes r
pass-fails h table bytes s u b r p g =
    subst (λ (x : UnitHeader). EntryFails x table bytes r) p.unit_is
    (subst (λ (x : List Abbreviation). EntryFails s.unit x bytes r) p.table_is
    (subst (λ (x : List ℕ). EntryFails s.unit s.table x r) p.bytes_are (g.fails p.entries p.given)))

pub pass-ends : (h : UnitHeader) (table : List Abbreviation) (bytes : List ℕ) (s u : ScanState) (b : Begun) → Stands h table bytes s b → GivesNothing s u → IsBegun h table bytes b
pass-ends h table bytes s u b p g = record {
  entries = p.entries;
  are = subst (λ (x : UnitHeader). AreEntries x table bytes p.entries) p.unit_is
      (subst (λ (x : List Abbreviation). AreEntries s.unit x bytes p.entries) p.table_is
      (subst (λ (x : List ℕ). AreEntries s.unit s.table x p.entries) p.bytes_are (g.whole p.running p.entries p.given)));
  is = p.is;
}

-- what a step gave
pub gave-entry : (s u : ScanState) (r : Result Coded Refusal) (c : Coded) → GivesCoded s (Some r) u → r ≡ Ok c → GivesEntry s c.entry u
gave-entry s u r c g is = own (subst (λ (x : Result Coded Refusal). GivesCoded s (Some x) u) is g)
  where
    own : GivesCode s c u → GivesEntry s c.entry u
    own h = h.gives

pub gave-refusal : (s u : ScanState) (x : Result Coded Refusal) (r : Refusal) → GivesCoded s (Some x) u → x ≡ Err r → GivesRefusal s r u
gave-refusal s u x r g is = subst (λ (y : Result Coded Refusal). GivesCoded s (Some y) u) is g

pub ruleset scan_rules = (pass-starts, pass-more, pass-fails, pass-ends)

-- the nodes of entries, the first of which has this number, below these
abbrev fresh : List Abbreviation → List ℕ → ℕ → List Scanned → List EntryNode
fresh table above k [] = []
fresh table above k (e ∷ es) = new_node table (last_of (take e.depth above)) e ∷ fresh table (take e.depth above ++ k ∷ []) (suc k) es

begun-nodes : (table : List Abbreviation) (b : Begun) (es : List Scanned) → (all_begun table b es).nodes ≡ b.nodes ++ fresh table b.above (length b.nodes) es
begun-nodes table b [] = sym (append-nil b.nodes)
begun-nodes table b (e ∷ es) =
    let n : EntryNode = new_node table (last_of (take e.depth b.above)) e in
    let count : length (b.nodes ++ new_node table (last_of (take e.depth b.above)) e ∷ []) ≡ suc (length b.nodes) =
    omega (arith, length-append b.nodes (new_node table (last_of (take e.depth b.above)) e ∷ [])) in
    begun-nodes table (with_entry table b e) es
    ∙ ap (λ (k : ℕ). (b.nodes ++ new_node table (last_of (take e.depth b.above)) e ∷ []) ++ fresh table (take e.depth b.above ++ length b.nodes ∷ []) k es) count
    ∙ append_assoc b.nodes (new_node table (last_of (take e.depth b.above)) e ∷ []) (fresh table (take e.depth b.above ++ length b.nodes ∷ []) (suc (length b.nodes)) es)

begun-depths : (table : List Abbreviation) (b : Begun) (es : List Scanned) → (all_begun table b es).depths ≡ b.depths ++ depths_of es
begun-depths table b [] = sym (append-nil b.depths)
begun-depths table b (e ∷ es) = begun-depths table (with_entry table b e) es ∙ append_assoc b.depths (e.depth ∷ []) (depths_of es)

-- with links they are the same entries
linked-of : (table : List Abbreviation) (above : List ℕ) (k : ℕ) (es : List Scanned) → AreOf table (linked_from k (fresh table above k es) (depths_of es)) es
linked-of table above k [] = tt
linked-of table above k (e ∷ es) = (refl, refl, refl, linked-of table (take e.depth above ++ k ∷ []) (suc k) es)

-- a list of nodes stands in another from a number on
abbrev StandsFrom : (ℕ → EntryNode) → ℕ → List EntryNode → Type 0
StandsFrom at k [] = ⊤
StandsFrom at k (n ∷ ns) = (at k ≡ n) × StandsFrom at (suc k) ns

node-behind : (xs ys : List EntryNode) (n : EntryNode) → node_at (xs ++ n ∷ ys) (length xs) ≡ n
node-behind [] ys n = refl
node-behind (x ∷ xs) ys n = node-behind xs ys n

stands-behind : (xs ys : List EntryNode) → StandsFrom (node_at (xs ++ ys)) (length xs) ys
stands-behind xs [] = tt
stands-behind xs (y ∷ ys) =
    let count : length (xs ++ y ∷ []) ≡ suc (length xs) = omega (arith, length-append xs (y ∷ [])) in (
      node-behind xs ys y,
      subst (λ (k : ℕ). StandsFrom (node_at (xs ++ y ∷ ys)) k ys) count
          (subst (λ (zs : List EntryNode). StandsFrom (node_at zs) (length (xs ++ y ∷ [])) ys) (append_assoc xs (y ∷ []) ys) (stands-behind (xs ++ y ∷ []) ys)),
    )

linked-links : (at : ℕ → EntryNode) (table : List Abbreviation) (above : List ℕ) (k : ℕ) (es : List Scanned)
    → StandsFrom at k (linked_from k (fresh table above k es) (depths_of es)) → AreLinked at above k (depths_of es)
linked-links at table above k [] s = tt
linked-links at table above k (e ∷ es) s = (
  ap (λ (n : EntryNode). n.parent) s.0,
  ap (λ (n : EntryNode). n.first_child) s.0,
  ap (λ (n : EntryNode). n.next_sibling) s.0,
  linked-links at table (take e.depth above ++ k ∷ []) (suc k) es s.1,
)

-- how deep entries stand
abbrev behind : ℕ → List ℕ → ℕ
behind b [] = b
behind b (d ∷ ds) = behind (suc d) ds

climb-more : (b d : ℕ) (ds : List ℕ) → Climb b ds → d ≤ behind b ds → Climb b (ds ++ d ∷ [])
climb-more b d [] c le = (le, tt)
climb-more b d (x ∷ xs) c le = (c.0, climb-more (suc x) d xs c.1 le)

behind-more : (b d : ℕ) (ds : List ℕ) → behind b (ds ++ d ∷ []) ≡ suc d
behind-more b d [] = refl
behind-more b d (x ∷ xs) = behind-more (suc x) d xs

depths-more : (es : List Scanned) (e : Scanned) → depths_of (es ++ e ∷ []) ≡ depths_of es ++ e.depth ∷ []
depths-more [] e = refl
depths-more (x ∷ xs) e = ap (λ (ds : List ℕ). x.depth ∷ ds) (depths-more xs e)

record Climbing (es : List Scanned) (depth : ℕ) : Type 0 where
  climb : Climb 0 (depths_of es)
  most : depth ≤ behind 0 (depths_of es)

scans-climb : (h : UnitHeader) (table : List Abbreviation) (bytes : List ℕ) (es : List Scanned) (place depth : ℕ) → Scans h table bytes es place depth → Climbing es depth
scans-climb h table bytes es place depth starts = record { climb = tt; most = omega arith }
scans-climb h table bytes all z d (null es place depth size s is) =
    let c : Climbing es depth = scans-climb h table bytes es place depth s in
    let most = c.most in
    record { climb = c.climb; most = omega (arith, most) }
scans-climb h table bytes all z d (entry es place depth after a s is root) =
    let c : Climbing es depth = scans-climb h table bytes es place depth s in
    let more : depths_of (es ++ scanned place depth a after ∷ []) ≡ depths_of es ++ depth ∷ [] = depths-more es (scanned place depth a after) in
    let end : behind 0 (depths_of (es ++ scanned place depth a after ∷ [])) ≡ suc depth = ap (behind 0) more ∙ behind-more 0 depth (depths_of es) in
    record {
      climb = subst (Climb 0) (sym more) (climb-more 0 depth (depths_of es) c.climb c.most);
      most = (let least = by_children a.children in omega (arith, end, least));
    }
  where
    by_children : (b : Bool) → (if b then depth + 1 else depth) ≤ suc depth
    by_children true = omega arith
    by_children false = omega arith

-- where entries start
abbrev pub AllBelow : ℕ → List Scanned → Type 0
AllBelow p [] = ⊤
AllBelow p (e ∷ es) = (e.offset < p) × AllBelow p es

abbrev pub AllAbove : ℕ → List Scanned → Type 0
AllAbove p [] = ⊤
AllAbove p (e ∷ es) = (p < e.offset) × AllAbove p es

abbrev pub Rising : List Scanned → Type 0
Rising [] = ⊤
Rising (e ∷ es) = AllAbove e.offset es × Rising es

below-raise : (p q : ℕ) (es : List Scanned) → AllBelow p es → p ≤ q → AllBelow q es
below-raise p q [] all le = tt
below-raise p q (e ∷ es) all le =
    let lt = all.0 in
    (omega (arith, lt, le), below-raise p q es all.1 le)

below-more : (p : ℕ) (es : List Scanned) (e : Scanned) → AllBelow p es → e.offset < p → AllBelow p (es ++ e ∷ [])
below-more p [] e all lt = (lt, tt)
below-more p (x ∷ xs) e all lt = (all.0, below-more p xs e all.1 lt)

above-more : (p : ℕ) (es : List Scanned) (e : Scanned) → AllAbove p es → p < e.offset → AllAbove p (es ++ e ∷ [])
above-more p [] e all lt = (lt, tt)
above-more p (x ∷ xs) e all lt = (all.0, above-more p xs e all.1 lt)

rising-more : (es : List Scanned) (e : Scanned) → Rising es → AllBelow e.offset es → Rising (es ++ e ∷ [])
rising-more [] e r all = (tt, tt)
rising-more (x ∷ xs) e r all = (above-more x.offset xs e r.0 all.0, rising-more xs e r.1 all.1)

pub record RisingTo (es : List Scanned) (place : ℕ) : Type 0 where
  pub rises : Rising es
  pub below : AllBelow place es

pub scans-rise : (h : UnitHeader) (table : List Abbreviation) (bytes : List ℕ) (es : List Scanned) (place depth : ℕ) → Scans h table bytes es place depth → RisingTo es place
scans-rise h table bytes es place depth starts = record { rises = tt; below = tt }
scans-rise h table bytes all z d (null es place depth size s is) =
    let r : RisingTo es place = scans-rise h table bytes es place depth s in
    record { rises = r.rises; below = below-raise place (place + size) es r.below (omega arith) }
scans-rise h table bytes all z d (entry es place depth after a s is root) =
    let r : RisingTo es place = scans-rise h table bytes es place depth s in
    let some : 0 < is.size = uleb-some bytes place is.code is.size is.spells in
    let values : place + is.size ≤ after = values-after h.params bytes (place + is.size) a.specs after is.values in
    record {
      rises = rising-more es (scanned place depth a after) r.rises r.below;
      below = below-more after es (scanned place depth a after) (below-raise place after es r.below (omega (arith, values))) (omega (arith, some, values));
    }

-- so do nodes
above-node : (table : List Abbreviation) (ns : List EntryNode) (es : List Scanned) (p j : ℕ) → AreOf table ns es → AllAbove p es → j < length ns → p < (node_at ns j).offset
above-node table [] es p j are all lt = absurd (omega (arith, lt))
above-node table (n ∷ ns) [] p j are all lt = absurd are
above-node table (n ∷ ns) (e ∷ es) p zero are all lt =
    let is = are.0 in
    let above = all.0 in
    omega (arith, is, above)
above-node table (n ∷ ns) (e ∷ es) p (suc j) are all lt = above-node table ns es p j are.3 all.1 (omega (arith, lt))

pub nodes-between : (table : List Abbreviation) (ns : List EntryNode) (es : List Scanned) (i j : ℕ) → AreOf table ns es → Rising es → i < j → j < length ns
    → (node_at ns i).offset < (node_at ns j).offset
nodes-between table [] es i j are r less lt = absurd (omega (arith, lt))
nodes-between table (n ∷ ns) [] i j are r less lt = absurd are
nodes-between table (n ∷ ns) (e ∷ es) i zero are r less lt = absurd (omega (arith, less))
nodes-between table (n ∷ ns) (e ∷ es) zero (suc j) are r less lt =
    let is = are.0 in
    let up = above-node table ns es e.offset j are.3 r.0 (omega (arith, lt)) in
    omega (arith, is, up)
nodes-between table (n ∷ ns) (e ∷ es) (suc i) (suc j) are r less lt = nodes-between table ns es i j are.3 r.1 (omega (arith, less)) (omega (arith, lt))

count-of : (table : List Abbreviation) (ns : List EntryNode) (es : List Scanned) → AreOf table ns es → length ns ≡ length (depths_of es)
count-of table [] [] are = refl
count-of table [] (e ∷ es) are = absurd are
count-of table (n ∷ ns) [] are = absurd are
count-of table (n ∷ ns) (e ∷ es) are = ap suc (count-of table ns es are.3)

-- nodes that were begun and linked are the unit's
arena-nodes : (h : UnitHeader) (table : List Abbreviation) (bytes : List ℕ) (b : Begun) (nodes : List EntryNode) (g : IsBegun h table bytes b) → nodes ≡ linked_nodes b
    → nodes ≡ linked_from 0 (fresh table [] 0 g.entries) (depths_of g.entries)
arena-nodes h table bytes b nodes g is =
    is ∙ ap linked_nodes g.is
    ∙ ap (λ (ns : List EntryNode). linked_from 0 ns (all_begun table none_begun g.entries).depths) (begun-nodes table none_begun g.entries)
    ∙ ap (λ (ds : List ℕ). linked_from 0 (fresh table [] 0 g.entries) ds) (begun-depths table none_begun g.entries)

-- linked as any shape of their depths
spelled-as : (table : List Abbreviation) (nodes : List EntryNode) (es : List Scanned) → nodes ≡ linked_from 0 (fresh table [] 0 es) (depths_of es) → (s : Shape)
    → depths_in 0 s ≡ depths_of es → IsLinkedAs nodes s
spelled-as table nodes es is s same =
    subst (λ (ns : List EntryNode). IsLinkedAs ns s) (sym is) (record {
      size_is =
          sym (length-depths 0 s) ∙ ap (λ (ds : List ℕ). length ds) same
          ∙ sym (count-of table (linked_from 0 (fresh table [] 0 es) (depths_of es)) es (linked-of table [] 0 es));
      spells = all-spell (node_at (linked_from 0 (fresh table [] 0 es) (depths_of es))) s
          (subst (λ (ds : List ℕ). AreLinked (node_at (linked_from 0 (fresh table [] 0 es) (depths_of es))) [] 0 ds) (sym same)
          (linked-links (node_at (linked_from 0 (fresh table [] 0 es) (depths_of es))) table [] 0 es
          (stands-behind [] (linked_from 0 (fresh table [] 0 es) (depths_of es)))));
    })

pub arena-of : (h : UnitHeader) (table : List Abbreviation) (bytes : List ℕ) (b : Begun) (nodes : List EntryNode) → IsBegun h table bytes b → nodes ≡ linked_nodes b
    → IsArenaOf h table bytes nodes
arena-of h table bytes b nodes g is =
    let own : nodes ≡ linked_from 0 (fresh table [] 0 g.entries) (depths_of g.entries) = arena-nodes h table bytes b nodes g is in
    let s : HasShape (depths_of g.entries) = shape-there (depths_of g.entries) (scans-climb h table bytes g.entries h.end 0 g.are).climb in
    record {
      entries = g.entries;
      are = g.are;
      nodes_are = subst (λ (ns : List EntryNode). AreOf table ns g.entries) (sym own) (linked-of table [] 0 g.entries);
      shape = s.shape;
      depths = s.is;
      linked = spelled-as table nodes g.entries own s.shape s.is;
    }

pub arena-fits : (h : UnitHeader) (table : List Abbreviation) (bytes : List ℕ) (nodes : List EntryNode) → IsArenaOf h table bytes nodes → length nodes ≤ 2 ^ 31 → ArenaFits nodes
arena-fits h table bytes nodes a small = record {
  linked = record { shape = a.shape; linked = a.linked };
  rises = record { rise = λ i j less lt. nodes-between table nodes a.entries i j a.nodes_are (scans-rise h table bytes a.entries h.end 0 a.are).rises less lt };
  small = small;
}

-- a pass that begins before the first entry has the unit and the bytes
pub own-start : (h : UnitHeader) (table : List Abbreviation) (bytes : List ℕ) (s : ScanState) → s ≡ scan_start h table bytes → s ≡ scan_start s.unit table s.bytes
own-start h table bytes s is = subst (λ (x : ScanState). x ≡ scan_start x.unit table x.bytes) (sym is) refl

pub started-begun : (h : UnitHeader) (table : List Abbreviation) (bytes : List ℕ) (s : ScanState) (b : Begun) → s ≡ scan_start h table bytes → IsBegun s.unit table s.bytes b
    → IsBegun h table bytes b
started-begun h table bytes s b is g = subst (λ (x : ScanState). IsBegun x.unit table x.bytes b) is g

pub started-refused : (h : UnitHeader) (table : List Abbreviation) (bytes : List ℕ) (s : ScanState) (f : Fault) → s ≡ scan_start h table bytes
    → Blames (EntryFails s.unit table s.bytes) f → Blames (EntryFails h table bytes) f
started-refused h table bytes s f is b = subst (λ (x : ScanState). Blames (EntryFails x.unit table x.bytes) f) is b

-- as many nodes as depths
pub begun-same : (h : UnitHeader) (table : List Abbreviation) (bytes : List ℕ) (b : Begun) → IsBegun h table bytes b → length b.nodes ≡ length b.depths
begun-same h table bytes b g =
    let nodes : length b.nodes ≡ 0 + length g.entries = ap (λ (x : Begun). length x.nodes) g.is ∙ begun-count table none_begun g.entries in
    let depths : length b.depths ≡ length (depths_of g.entries) = ap (λ (x : Begun). length x.depths) g.is ∙ ap (λ (ds : List ℕ). length ds) (begun-depths table none_begun g.entries) in
    let count = length-depths_of g.entries in
    omega (arith, nodes, depths, count)
  where
    length-depths_of : (es : List Scanned) → length (depths_of es) ≡ length es
    length-depths_of [] = refl
    length-depths_of (e ∷ es) = ap suc (length-depths_of es)

-- a unit that was read isn't refused
pub arena-excludes : (z : UnitSection) (h : UnitHeader) (table : List Abbreviation) (nodes : List EntryNode) → IsArenaOf h table (bytes_up_to z h) nodes → (r : Refusal)
    → EntryFails h table (bytes_up_to z h) r → ⊥
arena-excludes z h table nodes a r f =
    entries-exclude h table (bytes_up_to z h) a.entries r (omega (arith, length-take h.end (bytes_of z.contents))) a.are f

pub ruleset arena_laws = (arena-of, arena-fits, own-start, started-begun, started-refused, begun-same, arena-excludes)
