-- Paths mapped in their rooms, one after another.
use Rattle.std.proofs.Common.{Bool, true, false, ◌≡◌, ℕ, suc, ◌+◌, ◌≤◌, ◌<◌, List, ◌∷◌, ◌++◌, length, take, drop, get_or, cond, Option, Some, None, IsTrue, refl, sym, ap, ◌∙◌, subst, arith, append_assoc}
use Rattle.std.proofs.Math.Seq.{drop-cons}
use borrow.Rule.Slice.PartMut.{put_mid}
use Rattle.std.proofs.lemmas.List.{length-append, length-take-le, length-drop, drop_all, drop-drop}
use Rattle.dw_base.specs.InlinePaths.{inline_fits, mapped_inline, inline_path}
use Rattle.dw_base.specs.Paths.{PathMap}
use Rattle.dw_base.specs.Refusals.{Blames}
use Rattle.dw_base.specs.declared.fault.Fault.{Fault}
use Rattle.dw_base.specs.declared.fault.Fault.TheVariants.{NoMemory, Refused}
use Rattle.dw_unit_fields.specs.InlineRooms.{RoomFits, GrowsOne, grows, Grows, one}
use Rattle.dw_unit_fields.specs.TextPlaces.{InlinesFit}
use Rattle.dw_unit_fields.specs.SectionFields.{inline_text}
use Rattle.dw_rewrite.specs.UnitsAfter.{inlined, inlined_at}
use Rattle.dw_unit_fields.specs.declared.fields.InlinePath.{InlinePath}

front : (paths : List InlinePath) (p : InlinePath) (i : ℕ) → i < length paths → p ≡ get_or paths i p → drop i paths ≡ p ∷ drop (i + 1) paths
front paths p i lt is =
    let next : suc i ≡ i + 1 = omega arith in
    drop-cons paths i p lt ∙ ap (λ (n : ℕ). get_or paths i p ∷ drop n paths) next ∙ ap (λ (y : InlinePath). y ∷ drop (i + 1) paths) (sym is)

-- where a pass over paths stands: the bytes with those that are left mapped are the whole, and if those fit, all do
pub record RoomsPassed (m : PathMap) (info : List ℕ) (paths : List InlinePath) (old now : List ℕ) (i : ℕ) : Type 0 where
  pub bytes : inlined m info now (drop i paths) ≡ inlined m info old paths
  pub fits : InlinesFit m info (drop i paths) → InlinesFit m info paths

pub rooms-none : (m : PathMap) (info : List ℕ) (paths : List InlinePath) (old : List ℕ) → RoomsPassed m info paths old old 0
rooms-none m info paths old = record { bytes = refl; fits = λ h. h }

pub rooms-more : (m : PathMap) (info : List ℕ) (paths : List InlinePath) (old now new : List ℕ) (i : ℕ) (p : InlinePath) → i < length paths → p ≡ get_or paths i p
    → RoomsPassed m info paths old now i → new ≡ inlined_at m info now p → RoomFits m info p → RoomsPassed m info paths old new (i + 1)
rooms-more m info paths old now new i p lt is r same fit = record {
  bytes =
      ap (λ (out : List ℕ). inlined m info out (drop (i + 1) paths)) same
      ∙ sym (ap (inlined m info now) (front paths p i lt is)) ∙ r.bytes;
  fits = λ h. r.fits (subst (InlinesFit m info) (sym (front paths p i lt is)) (fit, h));
}

pub rooms-bytes : (m : PathMap) (info : List ℕ) (paths : List InlinePath) (old now : List ℕ) (i : ℕ) → length paths ≤ i → RoomsPassed m info paths old now i
    → now ≡ inlined m info old paths
rooms-bytes m info paths old now i end r = ap (inlined m info now) (sym (drop_all i paths end)) ∙ r.bytes

pub rooms-fit : (m : PathMap) (info : List ℕ) (paths : List InlinePath) (old now : List ℕ) (i : ℕ) → length paths ≤ i → RoomsPassed m info paths old now i
    → InlinesFit m info paths
rooms-fit m info paths old now i end r = r.fits (subst (InlinesFit m info) (sym (drop_all i paths end)) tt)

pub rooms-refused : (m : PathMap) (section : ℕ) (info : List ℕ) (paths : List InlinePath) (i : ℕ) (p : InlinePath) (f : Fault) → i < length paths → p ≡ get_or paths i p
    → Blames (GrowsOne m section info p) f → Blames (Grows m section info paths) f
rooms-refused m section info paths i p NoMemory lt is b = tt
rooms-refused m section info paths i p (Refused r) lt is b = one i p lt is b

pub ruleset all_rules = (rooms-none, rooms-bytes, rooms-fit)

-- what map_inline gives
pub some-fits : (m : PathMap) (t : List ℕ) (q : List ℕ) → Some q ≡ inline_path m t → IsTrue (inline_fits m t) × (q ≡ mapped_inline m t)
some-fits m t q e = by_fit (inline_fits m t) e
  where
    by_fit : (b : Bool) → Some q ≡ cond {A = Option (List ℕ)} b (Some (mapped_inline m t)) None → (b ≡ true) × (q ≡ mapped_inline m t)
    by_fit true e = (refl, cc)
    by_fit false e = absurd cc

pub none-grows : (m : PathMap) (t : List ℕ) → None ≡ inline_path m t → inline_fits m t ≡ false
none-grows m t e = by_fit (inline_fits m t) e
  where
    by_fit : (b : Bool) → None ≡ cond {A = Option (List ℕ)} b (Some (mapped_inline m t)) None → b ≡ false
    by_fit true e = absurd cc
    by_fit false e = refl

-- bytes put into a room
pub room-long : (m : PathMap) (info out : List ℕ) (p : InlinePath) → p.at + p.len ≤ length out → length (mapped_inline m (inline_text info p)) ≡ p.len
    → length (inlined_at m info out p) ≡ length out
room-long m info out p room size =
    let q : List ℕ = mapped_inline m (inline_text info p) in
    omega (
      arith,
      size,
      room,
      length-append (take p.at out) q,
      length-append (take p.at out ++ q) (drop (p.at + p.len) out),
      length-take-le p.at out (omega (arith, room)),
      length-drop (p.at + p.len) out,
    )

pub ruleset one_rules = (grows, some-fits, none-grows, room-long)

-- bytes put into a part are those between what stands before it and what stands behind it
pub room-put : (m : PathMap) (info out new q : List ℕ) (p : InlinePath) (k : ℕ) → k ≡ p.len → new ≡ q → Some q ≡ inline_path m (take k (drop p.at info))
    → put_mid p.at k out new ≡ inlined_at m info out p
room-put m info out new q p k size same e =
    let own : Some q ≡ inline_path m (inline_text info p) =
    e ∙ ap (λ (n : ℕ). inline_path m (take n (drop p.at info))) size in
    let words : new ≡ mapped_inline m (inline_text info p) = same ∙ (some-fits m (inline_text info p) q own).1 in
    ap (λ (n : ℕ). put_mid p.at n out new) size ∙ ap (put_mid p.at p.len out) words
    ∙ ap (λ (b : List ℕ). take p.at out ++ (mapped_inline m (inline_text info p) ++ b)) (drop-drop p.len p.at out)
    ∙ sym (append_assoc (take p.at out) (mapped_inline m (inline_text info p)) (drop (p.at + p.len) out))
