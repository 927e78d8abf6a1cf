-- Laws of new bodies: new numbers keep the length, and bytes of its own stand in a piece.
use Rattle.std.proofs.Common.{◌≡◌, ℕ, suc, ◌+◌, ◌<◌, ◌≤◌, List, [], ◌∷◌, ◌++◌, length, refl, sym, ap, ◌∙◌, subst, arith, append_assoc, Bor}
use Rattle.std.proofs.lemmas.List.{append-nil, length-append}
use Rattle.std.specs.declared.alloc.Global.{Global}
use Rattle.std.specs.declared.vec.Vec.{Vec}
use Rattle.dw_base.specs.Layout.{output_limit}
use Rattle.dw_base.specs.Numbers.{with_number}
use Rattle.dw_base.specs.declared.shared.Order.{Order}
use Rattle.dw_base.proofs.NumberLaws.{length-with_number}
use Rattle.elf_layout.specs.Given.{NewBody, body_bytes, body_of}
use Rattle.elf_layout.specs.Patched.{PatchFits, PatchesFit, patch_at, with_patches}
use Rattle.elf_layout.specs.declared.new_body.Source.{Source}
use Rattle.elf_layout.specs.declared.new_body.Source.TheVariants.{Patched}
use Rattle.elf_layout.specs.declared.patch.Patch.{Patch}

-- No field has a new number.
pub none-fits : (n : ℕ) (list : List Patch) → list ≡ [] → PatchesFit n list
none-fits n list none = rw none (record { each = λ i lt. absurd (omega (arith, lt)); apart = λ i j below lt. absurd (omega (arith, lt)) })

pub whole-bytes : (o : Order) (bytes : List ℕ) (list : List Patch) → list ≡ [] → with_patches o bytes list ≡ bytes
whole-bytes o bytes list none = rw none refl

pub ruleset whole_rules = (none-fits, whole-bytes)

-- new numbers keep the length
length-each : (o : Order) (n : ℕ) (bytes : List ℕ) (list : List Patch) → length bytes ≡ n → ((i : ℕ) → i < length list → PatchFits n (patch_at list i))
    → length (with_patches o bytes list) ≡ n
length-each o n bytes [] long each = long
length-each o n bytes (p ∷ ps) long each =
    let first : PatchFits n p = each 0 (omega arith) in
    let inside : p.at + p.size ≤ length bytes = omega (arith, first.inside, long) in
    length-each o n (with_number o bytes p.at p.size p.value) ps (length-with_number o bytes p.at p.size p.value inside ∙ long) (λ i lt. each (suc i) (omega arith))

pub start-long : (x y : NewBody) → y ≡ x → PatchesFit (length y.start) y.fields → length (body_bytes x) ≡ length x.start
start-long x y is fit =
    subst (λ (z : NewBody). length (body_bytes z) ≡ length z.start) is (length-each y.order (length y.start) y.start y.fields refl fit.each)

-- Where all of it fits, the old bytes fit.
pub lent-room : (x : NewBody) (s : Source) (a b : ℕ) (old : Bor (List ℕ)) (order : Order) (fields : Vec Patch Global) → body_of s ≡ x → s ≡ Patched old order fields
    → PatchesFit (length (body_of s).start) (body_of s).fields → a + b + length (body_bytes x) ≤ output_limit → a + b + length old.now ≤ output_limit
lent-room x s a b old order fields is source fit room =
    let long : length (body_bytes x) ≡ length x.start = start-long x (body_of s) is fit in
    let same : x.start ≡ old.now = ap (λ (y : NewBody). y.start) (sym is) ∙ ap (λ (t : Source). (body_of t).start) source in
    omega (arith, room, long, ap length same)

-- Bytes of its own stand behind those that were made.
pub own-pushed : (out made bytes one two : List ℕ) → one ≡ out ++ (made ++ []) → two ≡ one ++ (bytes ++ []) → two ≡ out ++ (made ++ bytes)
own-pushed out made bytes one two first second =
    second ∙ ap (λ (xs : List ℕ). one ++ xs) (append-nil bytes) ∙ ap (λ (xs : List ℕ). xs ++ bytes) (first ∙ ap (λ (xs : List ℕ). out ++ xs) (append-nil made))
    ∙ append_assoc out made bytes

pub own-long : (out made one : List ℕ) → one ≡ out ++ (made ++ []) → length one ≡ length out + length made
own-long out made one first = omega (arith, ap length first, length-append out (made ++ []), ap length (append-nil made))

pub ruleset own_rules = (own-pushed, own-long)
