-- The fields of line tables that say other offsets: where they lie, whether the addends at them make these, and the list of them for the records.
use Rattle.std.proofs.Common.{◌≡◌, ◌⊎◌, inl, inr, ℕ, zero, suc, ◌+◌, ◌<◌, ◌≤◌, List, [], ◌∷◌, ◌++◌, length, get_or, take, Option, Some, None, refl, sym, ap, ◌∙◌, subst, arith}
use Rattle.std.proofs.lemmas.List.{map-append, take_all}
use Rattle.dw_base.specs.Cells.{Cell, Relocation}
use Rattle.dw_base.specs.Refusals.{at}
use Rattle.dw_base.specs.RelocationFields.{relocation_at}
use Rattle.dw_base.specs.declared.fault.Kind.TheVariants.{TooWide}
use Rattle.dw_base.specs.declared.fault.Refusal.{Refusal}
use Rattle.dw_meaning.specs.LineStretches.{Stretch, kept_stretch, offset_stretch, other_stretch, stretch_size, stretches_end}
use Rattle.dw_meaning.specs.NewAddends.{Makes, Misses}
use Rattle.dw_patch.specs.RecordMoves.{patch_for}
use Rattle.elf_layout.specs.declared.patch.Patch.{Patch}
use Rattle.dw_lines.specs.TableMoves.{offsets_from}
use Rattle.dw_lines.specs.declared.moves.NewFieldOffset.{NewFieldOffset}
use Rattle.dw_rewrite.specs.LineOffsets.{OffsetMisses, OffsetsInside, OffsetsMake, OffsetsRise, OffsetsSized, said_field, said_fields}
use Rattle.dw_rewrite.proofs.LineRunLaws.{offset-other, sized-at}

-- they lie in the stretches
stretches-behind : (p : ℕ) (xs : List Stretch) → p ≤ stretches_end p xs
stretches-behind p [] = omega arith
stretches-behind p (x ∷ xs) =
    let more = stretches-behind (p + stretch_size x) xs in
    omega (arith, more)

pub offsets-inside : (a : ℕ) (xs : List Stretch) → OffsetsInside (stretches_end a xs) (offsets_from a xs)
offsets-inside a [] = tt
offsets-inside a (kept_stretch n ∷ xs) = offsets-inside (a + n) xs
offsets-inside a (other_stretch n bytes ∷ xs) = offsets-inside (a + n) xs
offsets-inside a (offset_stretch zero to ∷ xs) = offsets-inside (a + 0) xs
offsets-inside a (offset_stretch (suc n) to ∷ xs) = (stretches-behind (a + suc n) xs, offsets-inside (a + suc n) xs)

pub inside-at : (n i : ℕ) (f : NewFieldOffset) (fs : List NewFieldOffset) → OffsetsInside n fs → i < length fs → f ≡ get_or fs i f → f.at + f.size ≤ n
inside-at n i f fs h lt is = subst (λ (g : NewFieldOffset). g.at + g.size ≤ n) (sym is) (by fs i h lt)
  where
    by : (gs : List NewFieldOffset) (k : ℕ) → OffsetsInside n gs → k < length gs → (get_or gs k f).at + (get_or gs k f).size ≤ n
    by [] k h lt = absurd (omega (arith, lt))
    by (g ∷ gs) zero h lt = h.0
    by (g ∷ gs) (suc k) h lt = by gs k h.1 (omega (arith, lt))

-- a field among others
pub sized-there : (i : ℕ) (f : NewFieldOffset) (fs : List NewFieldOffset) → OffsetsSized fs → i < length fs → f ≡ get_or fs i f → (f.size ≡ 4) ⊎ (f.size ≡ 8)
sized-there i f fs h lt is = subst (λ (g : NewFieldOffset). (g.size ≡ 4) ⊎ (g.size ≡ 8)) (sym is) (sized-at i f fs h lt)

pub miss-at : (number : ℕ) (cells : List Cell) (i : ℕ) (f : NewFieldOffset) (fs : List NewFieldOffset) (r : Refusal) → i < length fs → f ≡ get_or fs i f
    → Misses (relocation_at cells f.at) f.size f.offset → r ≡ at TooWide number f.at → OffsetMisses number cells fs r
miss-at number cells i f fs r lt is misses told =
    by fs i lt (subst (λ (g : NewFieldOffset). (r ≡ at TooWide number g.at) × Misses (relocation_at cells g.at) g.size g.offset) is (told, misses))
  where
    by : (gs : List NewFieldOffset) (k : ℕ) → k < length gs
        → (r ≡ at TooWide number (get_or gs k f).at) × Misses (relocation_at cells (get_or gs k f).at) (get_or gs k f).size (get_or gs k f).offset
        → OffsetMisses number cells gs r
    by [] k lt h = absurd (omega (arith, lt))
    by (g ∷ gs) zero lt h = inl h
    by (g ∷ gs) (suc k) lt h = inr (by gs k (omega (arith, lt)) h)

-- those up to one are in the list, and the addends at them make their offsets
pub record SaidPass (cells : List Cell) (fs : List NewFieldOffset) (now : List Patch) (i : ℕ) : Type 0 where
  pub now_is : now ≡ said_fields (take i fs)
  pub make : OffsetsMake cells (take i fs)

pub said-starts : (cells : List Cell) (fs : List NewFieldOffset) (now : List Patch) → now ≡ [] → SaidPass cells fs now 0
said-starts cells fs now none = record { now_is = none; make = tt }

pub said-other : (cells : List Cell) (fs : List NewFieldOffset) (now : List Patch) (i : ℕ) (f : NewFieldOffset) → SaidPass cells fs now i → OffsetsRise 0 fs → i < length fs → f ≡ get_or fs i f
    → patch_for now f.at ≡ None
said-other cells fs now i f p rise lt is =
    ap (λ (l : List Patch). patch_for l f.at) p.now_is ∙ ap (λ (g : NewFieldOffset). patch_for (said_fields (take i fs)) g.at) is ∙ offset-other 0 i f fs rise lt

one-more : (fs : List NewFieldOffset) (i : ℕ) (f : NewFieldOffset) → i < length fs → take (suc i) fs ≡ take i fs ++ get_or fs i f ∷ []
one-more [] i f lt = absurd (omega (arith, lt))
one-more (x ∷ xs) zero f lt = refl
one-more (x ∷ xs) (suc i) f lt = ap (λ (l : List NewFieldOffset). x ∷ l) (one-more xs i f (omega (arith, lt)))

make-append : (cells : List Cell) (xs ys : List NewFieldOffset) → OffsetsMake cells xs → OffsetsMake cells ys → OffsetsMake cells (xs ++ ys)
make-append cells [] ys h k = k
make-append cells (x ∷ xs) ys h k = (h.0, make-append cells xs ys h.1 k)

pub make-parts : (cells : List Cell) (xs ys : List NewFieldOffset) → OffsetsMake cells (xs ++ ys) → OffsetsMake cells xs × OffsetsMake cells ys
make-parts cells [] ys h = (tt, h)
make-parts cells (x ∷ xs) ys h = let rest = make-parts cells xs ys h.1 in ((h.0, rest.0), rest.1)

pub said-more : (cells : List Cell) (fs : List NewFieldOffset) (now new : List Patch) (i : ℕ) (f : NewFieldOffset) → SaidPass cells fs now i → i < length fs → f ≡ get_or fs i f
    → Makes (relocation_at cells f.at) f.size f.offset → new ≡ now ++ record { at = f.at; size = f.size; value = f.offset } ∷ [] → SaidPass cells fs new (i + 1)
said-more cells fs now new i f p lt is makes e =
    let next : suc i ≡ i + 1 = omega arith in
    let more : take (i + 1) fs ≡ take i fs ++ f ∷ [] =
    ap (λ (k : ℕ). take k fs) (sym next) ∙ one-more fs i f lt ∙ ap (λ (g : NewFieldOffset). take i fs ++ g ∷ []) (sym is) in
    record {
      now_is = e ∙ ap (λ (l : List Patch). l ++ said_field f ∷ []) p.now_is ∙ sym (map-append said_field (take i fs) (f ∷ [])) ∙ ap said_fields (sym more);
      make = subst (OffsetsMake cells) (sym more) (make-append cells (take i fs) (f ∷ []) p.make (makes, tt));
    }

pub said-all : (cells : List Cell) (fs : List NewFieldOffset) (now : List Patch) (i : ℕ) → length fs ≤ i → SaidPass cells fs now i → now ≡ said_fields fs
said-all cells fs now i end p = p.now_is ∙ ap said_fields (take_all i fs end)

pub makes-all : (cells : List Cell) (fs : List NewFieldOffset) (now : List Patch) (i : ℕ) → length fs ≤ i → SaidPass cells fs now i → OffsetsMake cells fs
makes-all cells fs now i end p = subst (OffsetsMake cells) (take_all i fs end) p.make

pub ruleset said_rules = (said-starts, said-all, makes-all)

-- where no relocation begins at all
pub none-make : (cells : List Cell) (fs : List NewFieldOffset) → ((p : ℕ) → relocation_at cells p ≡ None) → OffsetsMake cells fs
none-make cells [] none = tt
none-make cells (f ∷ fs) none = (one (relocation_at cells f.at) (none f.at), none-make cells fs none)
  where
    one : (o : Option Relocation) → o ≡ None → Makes o f.size f.offset
    one None e = tt
    one (Some r) e = absurd cc
