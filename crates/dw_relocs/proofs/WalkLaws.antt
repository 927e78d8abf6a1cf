-- Laws of a pass over all fields of a section: what holds of those behind it, and what is wrong with one, stays so as it goes on.
use Rattle.std.proofs.Common.{◌≡◌, ◌⊎◌, inl, inr, ℕ, ◌+◌, ◌<◌, ◌≤◌, ◌^◌, ◌==◌, ◌&&◌, Bool, true, false, if◌then◌else◌, Some, None, List, [], ◌∷◌, ◌++◌, length, Result, Ok, Err, IfOk, refl, sym, ap, ◌∙◌, subst, arith, append_assoc}
use Rattle.std.specs.Bool.{⊤}
use Rattle.std.specs.Prelude.{IfErr, IfSome, OnOk}
use Rattle.std.proofs.lemmas.Bool.{and_parts, cases_lt, eqb-true, ne_eqb}
use Rattle.std.proofs.lemmas.List.{append-nil, drop_all}
use Rattle.dw_base.specs.Cells.{Cell, Relocation, first_relocation}
use Rattle.dw_base.specs.FileViews.{View, section_bytes}
use Rattle.dw_base.specs.RelocationFields.{relocation_at}
use Rattle.dw_base.specs.RelocationRows.{FieldPlace, FieldUse, FieldsFail, IsField, OffsetReads, field_place, has_offset_at, is_offset_use, offset_field, plain_field}
use Rattle.dw_base.specs.RelocationRows.FieldsFail.{offset, inside, elsewhere}
use Rattle.dw_base.specs.declared.fault.Refusal.{Refusal}
use Rattle.dw_base.proofs.ViewCellLaws.{length-view_cells}
use Rattle.dw_relocs.specs.FieldWalks.{AllRead, AreMarks, BeginBefore, FailsUpTo, FieldFails, FieldPassed, Goes, Ground, OneFails, OneMoves, Passed, ReadsUpTo, Stands, StandsAt, Walked, ground_of}
use Rattle.dw_relocs.specs.FieldWalks.FailsUpTo.{number_among, offset_among, other_among}
use Rattle.dw_relocs.specs.FieldWalks.FieldFails.{number_fails, offset_fails, other_fails}
use Rattle.dw_relocs.specs.FieldWalks.OneMoves.{moves}
use Rattle.dw_relocs.specs.declared.marks.Marks.{Marks}

-- a field of two lists is one of either
front-field : (f : FieldPlace) (fs : List FieldPlace) (y : FieldPlace) → IsField fs y → IsField (f ∷ fs) y
front-field f fs y h = record { before = f ∷ h.before; behind = h.behind; is = ap (λ (l : List FieldPlace). f ∷ l) h.is }

first-is : (f g : FieldPlace) (fs gs : List FieldPlace) → f ∷ fs ≡ g ∷ gs → f ≡ g
first-is f g fs gs e = cc

rest-is : (f g : FieldPlace) (fs gs : List FieldPlace) → f ∷ fs ≡ g ∷ gs → fs ≡ gs
rest-is f g fs gs e = cc

split-field : (xs ys : List FieldPlace) (y : FieldPlace) (b c : List FieldPlace) → xs ++ ys ≡ b ++ y ∷ c → IsField xs y ⊎ IsField ys y
split-field [] ys y b c e = inr (record { before = b; behind = c; is = e })
split-field (x ∷ xs) ys y [] c e =
    inl (record { before = []; behind = xs; is = ap (λ (z : FieldPlace). z ∷ xs) (first-is x y (xs ++ ys) c e) })
split-field (x ∷ xs) ys y (z ∷ b) c e = more (split-field xs ys y b c (rest-is x z (xs ++ ys) (b ++ y ∷ c) e))
  where
    more : IsField xs y ⊎ IsField ys y → IsField (x ∷ xs) y ⊎ IsField ys y
    more (inl h) = inl (front-field x xs y h)
    more (inr h) = inr h

no-field : (y : FieldPlace) (b c : List FieldPlace) → [] ≡ b ++ y ∷ c → ⊥
no-field y [] c e = cc
no-field y (z ∷ b) c e = cc

one-field : (f y : FieldPlace) → IsField (f ∷ []) y → f ≡ y
one-field f y h = by_list h.before h.is
  where
    by_list : (b : List FieldPlace) → f ∷ [] ≡ b ++ y ∷ h.behind → f ≡ y
    by_list [] e = first-is f y [] h.behind e
    by_list (z ∷ b) e = absurd (no-field y b h.behind (rest-is f z [] (b ++ y ∷ h.behind) e))

left-field : (xs ys : List FieldPlace) (y : FieldPlace) → IsField xs y → IsField (xs ++ ys) y
left-field xs ys y h = record {
  before = h.before;
  behind = h.behind ++ ys;
  is = ap (λ (l : List FieldPlace). l ++ ys) h.is ∙ append_assoc h.before (y ∷ h.behind) ys;
}

last-field : (xs : List FieldPlace) (f : FieldPlace) → IsField (xs ++ f ∷ []) f
last-field xs f = record { before = xs; behind = []; is = refl }

-- an offset at a place of two lists is one of either
has-both : (xs ys : List FieldPlace) (p : ℕ) → has_offset_at (xs ++ ys) p ≡ (if has_offset_at xs p then true else has_offset_at ys p)
has-both [] ys p = refl
has-both (x ∷ xs) ys p = by_test (is_offset_use x.use_is && x.place == p) (has-both xs ys p)
  where
    by_test : (t : Bool) → has_offset_at (xs ++ ys) p ≡ (if has_offset_at xs p then true else has_offset_at ys p)
        → (if t then true else has_offset_at (xs ++ ys) p) ≡ (if (if t then true else has_offset_at xs p) then true else has_offset_at ys p)
    by_test true e = refl
    by_test false e = e

has-left : (xs ys : List FieldPlace) (p : ℕ) → has_offset_at xs p ≡ true → has_offset_at (xs ++ ys) p ≡ true
has-left xs ys p e = has-both xs ys p ∙ ap (λ (t : Bool). if t then true else has_offset_at ys p) e

if-true : (t : Bool) → (if t then true else true) ≡ true
if-true true = refl
if-true false = refl

has-right : (xs ys : List FieldPlace) (p : ℕ) → has_offset_at ys p ≡ true → has_offset_at (xs ++ ys) p ≡ true
has-right xs ys p e = has-both xs ys p ∙ ap (λ (t : Bool). if has_offset_at xs p then true else t) e ∙ if-true (has_offset_at xs p)

has-neither : (xs ys : List FieldPlace) (p : ℕ) → has_offset_at xs p ≡ false → has_offset_at ys p ≡ false → has_offset_at (xs ++ ys) p ≡ false
has-neither xs ys p a b = has-both xs ys p ∙ ap (λ (t : Bool). if t then true else has_offset_at ys p) a ∙ b

-- fields that begin before a place are at none from there on
none-behind : (fs : List FieldPlace) (place p : ℕ) → BeginBefore fs place → place ≤ p → has_offset_at fs p ≡ false
none-behind [] place p h le = refl
none-behind (f ∷ fs) place p h le = by_test (is_offset_use f.use_is && f.place == p) refl (none-behind fs place p h.1 le)
  where
    by_test : (t : Bool) → (is_offset_use f.use_is && f.place == p) ≡ t → has_offset_at fs p ≡ false → (if t then true else has_offset_at fs p) ≡ false
    by_test true e rest =
        let same = eqb-true f.place p (and_parts (is_offset_use f.use_is) (f.place == p) e).1 in
        let lt = h.0 in
        absurd (omega (arith, same, lt, le))
    by_test false e rest = rest

and-no : (a : Bool) → (a && false) ≡ false
and-no true = refl
and-no false = refl

-- a field that begins behind a place isn't at it
not-there : (f : FieldPlace) (p : ℕ) → p < f.place → has_offset_at (f ∷ []) p ≡ false
not-there f p lt =
    ap (λ (t : Bool). if is_offset_use f.use_is && t then true else false) (ne_eqb f.place p (λ e. omega (arith, e, lt)))
    ∙ ap (λ (t : Bool). if t then true else false) (and-no (is_offset_use f.use_is))

pub begin-later : (fs : List FieldPlace) (place to : ℕ) → BeginBefore fs place → place ≤ to → BeginBefore fs to
begin-later [] place to h le = tt
begin-later (f ∷ fs) place to h le = let lt = h.0 in (omega (arith, lt, le), begin-later fs place to h.1 le)

begin-more : (fs gs : List FieldPlace) (place : ℕ) → BeginBefore fs place → BeginBefore gs place → BeginBefore (fs ++ gs) place
begin-more [] gs place a b = b
begin-more (f ∷ fs) gs place a b = (a.0, begin-more fs gs place a.1 b)

-- a field more, in order
use_same : (f y : FieldPlace) (u : FieldUse) → f ≡ y → y.use_is ≡ u → f.use_is ≡ u
use_same f y u e said = ap (λ (z : FieldPlace). z.use_is) e ∙ said

reads-more : (g : Ground) (fs : List FieldPlace) (f : FieldPlace) (m n : Marks) → ReadsUpTo g fs m.place → m.place ≤ f.place → 0 < f.size
    → FieldPassed g m.place f n → ReadsUpTo g (fs ++ f ∷ []) n.place
reads-more g fs f m n h le some p =
    let at_place = p.place in
    record {
      offsets = λ y is. by_offset y (split-field fs (f ∷ []) y is.before is.behind is.is);
      numbers = λ y q r is. by_number y q r (split-field fs (f ∷ []) y is.before is.behind is.is);
      kept = λ q r lt begins moving. elim (cases_lt q m.place) [
        | inl under ↦ has-left fs (f ∷ []) q (h.kept q r under begins moving)
        | inr over ↦ has-right fs (f ∷ []) q (p.kept q r over (omega (arith, lt, at_place)) begins moving)
      ];
      begin = begin-more fs (f ∷ []) n.place (begin-later fs m.place n.place h.begin (omega (arith, at_place, le))) (omega (arith, at_place, some), tt);
    }
  where
    by_offset : (y : FieldPlace) → IsField fs y ⊎ IsField (f ∷ []) y → y.use_is ≡ offset_field → OffsetReads g.order g.cells y
    by_offset y (inl is) said = h.offsets y is said
    by_offset y (inr is) said =
        let same : f ≡ y = one-field f y is in subst (λ (z : FieldPlace). OffsetReads g.order g.cells z) same (p.reads (use_same f y offset_field same said))

    by_number : (y : FieldPlace) (q : ℕ) (r : Relocation) → IsField fs y ⊎ IsField (f ∷ []) y → y.use_is ≡ plain_field → relocation_at g.cells q ≡ Some r
        → y.place < q → q < y.place + y.size → ⊥
    by_number y q r (inl is) said begins above below = h.numbers y q r is said begins above below
    by_number y q r (inr is) said begins above below =
        let same : f ≡ y = one-field f y is in
        let place = ap (λ (z : FieldPlace). z.place) same in
        let size = ap (λ (z : FieldPlace). z.size) same in
        p.number q r (use_same f y plain_field same said) begins (omega (arith, above, place)) (omega (arith, below, place, size))

-- what is wrong with it
fails-more : (g : Ground) (fs : List FieldPlace) (f : FieldPlace) (m : Marks) (r : Refusal) → ReadsUpTo g fs m.place → FieldFails g m.place f r
    → FailsUpTo g (fs ++ f ∷ []) (f.place + f.size) r
fails-more g fs f m r h (offset_fails said x) = offset_among f (last-field fs f) said x
fails-more g fs f m x h (number_fails p r said begins above below) = number_among f p r (last-field fs f) said begins above below
fails-more g fs f m x h (other_fails p r le lt begins moving none) =
    other_among p r lt begins moving (has-neither fs (f ∷ []) p (none-behind fs m.place p h.begin le) none)

-- and stays wrong
fails-on : (g : Ground) (fs : List FieldPlace) (f : FieldPlace) (place : ℕ) (r : Refusal) → place ≤ f.place → FailsUpTo g fs place r
    → FailsUpTo g (fs ++ f ∷ []) (f.place + f.size) r
fails-on g fs f place r le (offset_among y is said x) = offset_among y (left-field fs (f ∷ []) y is) said x
fails-on g fs f place x le (number_among y p r is said begins above below) = number_among y p r (left-field fs (f ∷ []) y is) said begins above below
fails-on g fs f place x le (other_among p r lt begins moving none) =
    other_among p r (omega (arith, lt, le)) begins moving (has-neither fs (f ∷ []) p none (not-there f p (omega (arith, lt, le))))

-- the start
pub start-stands : (cells : List Cell) (m : Marks) → AreMarks cells m → m.place ≡ 0 → IfSome m.next (λ p. p < 2 ^ 31) → StandsAt cells 0 (Ok m)
start-stands cells m h e small = record { marks = h; before = omega (arith, e); small = small }

pub start-walked : (g : Ground) (m : Marks) → AreMarks g.cells m → m.place ≡ 0 → Walked g [] 0 (Ok m)
start-walked g m h e = record {
  marks = h;
  before = omega (arith, e);
  reads = record {
    offsets = λ f is. absurd (no-field f is.before is.behind is.is);
    numbers = λ f p r is. absurd (no-field f is.before is.behind is.is);
    kept = λ p r lt. absurd (omega (arith, lt, e));
    begin = tt;
  };
}

pub ruleset start_rules = (start-stands, start-walked)

-- a step
passed-stands : (g : Ground) (from : ℕ) (f : FieldPlace) (n : Marks) → FieldPassed g from f n → StandsAt g.cells (f.place + f.size) (Ok n)
passed-stands g from f n p = let is = p.place in record { marks = p.marks; before = omega (arith, is); small = p.small }

pub field-goes : (g : Ground) (place n : ℕ) (u : FieldUse) (m : Marks) (x : Result Marks Refusal) → 0 < n → Stands g.cells place m
    → IfOk x (FieldPassed g m.place (field_place place n u)) → IfErr x (FieldFails g m.place (field_place place n u))
    → Goes g place (place + n) (field_place place n u ∷ []) (Ok m) x
field-goes g place n u m (Ok k) some h passed failed = record {
  stands = passed-stands g m.place (field_place place n u) k passed;
  all = λ before w.
      let le = h.before in
      let is = passed.place in
      record {
        marks = passed.marks;
        before = omega (arith, is);
        reads = reads-more g before (field_place place n u) m k w.reads le some passed;
      };
}
field-goes g place n u m (Err r) some h passed failed = record {
  stands = tt;
  all = λ before w. fails-more g before (field_place place n u) m r w.reads failed;
}

pub ruleset from_rules = (field-goes)

pub fails-goes : (g : Ground) (place n : ℕ) (u : FieldUse) (r : Refusal) → Goes g place (place + n) (field_place place n u ∷ []) (Err r) (Err r)
fails-goes g place n u r = record { stands = tt; all = λ before w. fails-on g before (field_place place n u) place r (omega arith) w }

pub field-from : (g : Ground) (place n : ℕ) (u : FieldUse) (m : Marks) (w x : Result Marks Refusal) → w ≡ Ok m
    → Goes g place (place + n) (field_place place n u ∷ []) (Ok m) x → Goes g place (place + n) (field_place place n u ∷ []) w x
field-from g place n u m w x e h = subst (λ (y : Result Marks Refusal). Goes g place (place + n) (field_place place n u ∷ []) y x) (sym e) h

pub fails-from : (g : Ground) (place n : ℕ) (u : FieldUse) (r : Refusal) (w : Result Marks Refusal) → w ≡ Err r
    → Goes g place (place + n) (field_place place n u ∷ []) w (Err r)
fails-from g place n u r w e =
    subst (λ (y : Result Marks Refusal). Goes g place (place + n) (field_place place n u ∷ []) y (Err r)) (sym e) (fails-goes g place n u r)

pub ok-stands : (cells : List Cell) (place : ℕ) (m : Marks) (w : Result Marks Refusal) → w ≡ Ok m → StandsAt cells place w → Stands cells place m
ok-stands cells place m w e h = subst (StandsAt cells place) e h

pub ruleset field_rules = (field-from, fails-from, ok-stands)

-- steps, one after another
walked-on : (g : Ground) (fs : List FieldPlace) (place to : ℕ) (w : Result Marks Refusal) → place ≤ to → Walked g fs place w → Walked g fs to w
walked-on g fs place to (Ok m) le h = let before = h.before in record { marks = h.marks; before = omega (arith, before, le); reads = h.reads }
walked-on g fs place to (Err r) le (offset_among f is said x) = offset_among f is said x
walked-on g fs place to (Err x) le (number_among f p r is said begins above below) = number_among f p r is said begins above below
walked-on g fs place to (Err x) le (other_among p r lt begins moving none) = other_among p r (omega (arith, lt, le)) begins moving none

pub stands-on : (cells : List Cell) (place to : ℕ) (w : Result Marks Refusal) → place ≤ to → StandsAt cells place w → StandsAt cells to w
stands-on cells place to (Ok m) le h = let before = h.before in record { marks = h.marks; before = omega (arith, before, le); small = h.small }
stands-on cells place to (Err r) le h = tt

pub goes-none : (g : Ground) (place to : ℕ) (w : Result Marks Refusal) → place ≤ to → StandsAt g.cells place w → Goes g place to [] w w
goes-none g place to w le h = record {
  stands = stands-on g.cells place to w le h;
  all = λ before walked.
      subst (λ (fs : List FieldPlace). Walked g fs to w) (sym (append-nil before)) (walked-on g before place to w le walked);
}

pub goes-more : (g : Ground) (a b c d : ℕ) (fs gs : List FieldPlace) (w x y : Result Marks Refusal) → b ≤ c → Goes g a b fs w x → Goes g c d gs x y
    → Goes g a d (fs ++ gs) w y
goes-more g a b c d fs gs w x y le h k = record {
  stands = k.stands;
  all = λ before walked.
      subst (λ (l : List FieldPlace). Walked g l d y) (append_assoc before fs gs)
      (k.all (before ++ fs) (walked-on g (before ++ fs) b c x le (h.all before walked)));
}

pub goes-from : (g : Ground) (a b c : ℕ) (fs : List FieldPlace) (w x : Result Marks Refusal) → a ≤ b → Goes g b c fs w x → Goes g a c fs w x
goes-from g a b c fs w x le h = record { stands = h.stands; all = λ before walked. h.all before (walked-on g before a b w le walked) }

pub goes-to : (g : Ground) (a b c : ℕ) (fs : List FieldPlace) (w x : Result Marks Refusal) → b ≤ c → Goes g a b fs w x → Goes g a c fs w x
goes-to g a b c fs w x le h = record {
  stands = stands-on g.cells b c x le h.stands;
  all = λ before walked. walked-on g (before ++ fs) b c x le (h.all before walked);
}

-- the end
past-none : (cells : List Cell) (p : ℕ) → length cells ≤ p → relocation_at cells p ≡ None
past-none cells p le = ap first_relocation (drop_all p cells le)

none-some : (cells : List Cell) (p : ℕ) (r : Relocation) → relocation_at cells p ≡ None → relocation_at cells p ≡ Some r → ⊥
none-some cells p r none e = cc

true-false : {t : Bool} → t ≡ true → t ≡ false → ⊥
true-false a b = cc

end-reads : (g : Ground) (m : Marks) (x : Marks) → Passed g m.place (length g.cells) x → AllRead g (Ok m)
end-reads g m x p = record {
  all = λ fs w. record {
    offsets = w.reads.offsets;
    numbers = w.reads.numbers;
    kept = λ q r begins moving. elim (cases_lt q m.place) [
      | inl under ↦ w.reads.kept q r under begins moving
      | inr over ↦ elim (cases_lt q (length g.cells)) [
        | inl below ↦ absurd (true-false moving (p.moves.none q r over below begins))
        | inr behind ↦ absurd (none-some g.cells q r (past-none g.cells q behind) begins)
      ]
    ];
  };
}

end-fails : (g : Ground) (m : Marks) (r : Refusal) → OneMoves g m.place (length g.cells) r → OneFails g (Ok m) r
end-fails g m x (moves p r le lt begins moving) = record {
  all = λ fs w. elsewhere p r begins moving (none-behind fs m.place p w.reads.begin le);
}

up-to-fails : (g : Ground) (fs : List FieldPlace) (place : ℕ) (r : Refusal) → FailsUpTo g fs place r → FieldsFail g.order g.number g.cells g.moving fs r
up-to-fails g fs place r (offset_among f is said x) = offset f is said x
up-to-fails g fs place x (number_among f p r is said begins above below) = inside f p r is said begins above below
up-to-fails g fs place x (other_among p r lt begins moving none) = elsewhere p r begins moving none

pub last-reads : (v : View) (i end : ℕ) (m x : Marks) → end ≡ length (section_bytes v i) → Passed (ground_of v i) m.place end x → AllRead (ground_of v i) (Ok m)
last-reads v i end m x e p =
    end-reads (ground_of v i) m x (subst (λ (n : ℕ). Passed (ground_of v i) m.place n x) (e ∙ sym (length-view_cells v i)) p)

pub last-fails : (v : View) (i end : ℕ) (m : Marks) (r : Refusal) → end ≡ length (section_bytes v i) → OneMoves (ground_of v i) m.place end r
    → OneFails (ground_of v i) (Ok m) r
last-fails v i end m r e h =
    end-fails (ground_of v i) m r (subst (λ (n : ℕ). OneMoves (ground_of v i) m.place n r) (e ∙ sym (length-view_cells v i)) h)

pub ruleset last_rules = (last-reads, last-fails)

pub end-ok : (g : Ground) (m : Marks) (w : Result Marks Refusal) → w ≡ Ok m → AllRead g (Ok m) → AllRead g w
end-ok g m w e h = subst (AllRead g) (sym e) h

pub end-refused : (g : Ground) (m : Marks) (w : Result Marks Refusal) (r : Refusal) → w ≡ Ok m → OneFails g (Ok m) r → OneFails g w r
end-refused g m w r e h = subst (λ (y : Result Marks Refusal). OneFails g y r) (sym e) h

pub end-failed : (g : Ground) (w : Result Marks Refusal) (r : Refusal) → w ≡ Err r → OneFails g w r
end-failed g w r e = subst (λ (y : Result Marks Refusal). OneFails g y r) (sym e) (record { all = λ fs h. up-to-fails g fs (length g.cells) r h })

pub end-both : (g : Ground) (m : Marks) (w : Result Marks Refusal) (x : Result ⊤ Refusal) → w ≡ Ok m → OnOk x (AllRead g (Ok m)) → OnOk x (AllRead g w)
end-both g m w (Ok t) e h = end-ok g m w e h
end-both g m w (Err r) e h = tt

pub end-either : (g : Ground) (m : Marks) (w : Result Marks Refusal) (x : Result ⊤ Refusal) → w ≡ Ok m → IfErr x (OneFails g (Ok m)) → IfErr x (OneFails g w)
end-either g m w (Ok t) e h = tt
end-either g m w (Err r) e h = end-refused g m w r e h

pub ruleset end_rules = (end-both, end-either, end-failed, ok-stands)
