-- Laws of debug links: what is written is read back.
use Rattle.std.proofs.Common.{◌≡◌, ℕ, zero, suc, ◌+◌, ◌-◌, ◌*◌, ◌^◌, ◌<◌, ◌≤◌, ◌==◌, ◌&&◌, ◌||◌, Bool, true, false, if◌then◌else◌, IsTrue, List, [], ◌∷◌, ◌++◌, nat_le, length, take, replicate, refl, sym, ap, ◌∙◌, arith}
use Rattle.std.proofs.lemmas.List.{append_assoc, append-nil, length-append, length-replicate}
use Rattle.std.proofs.lemmas.Bool.{le-leb}
use Rattle.dw_base.specs.declared.shared.Order.{Order}
use Rattle.dw_base.specs.Layout.{padding}
use Rattle.dw_base.specs.Numbers.{number_bytes, spelled}
use Rattle.dw_base.specs.Texts.{text, has_nul}
use Rattle.dw_base.proofs.NumberLaws.{spelled-append_at, spelled-number_bytes, length-number_bytes}
use Rattle.dw_base.proofs.TextLaws.{text-append_nul, has_nul-append, position-text, length-text, take-text}
use Rattle.debug_link.specs.Links.{padded, link_of, sum_place, holds_link, IsLink}

-- a link is its name, a NUL, and more
link-more : (order : Order) (name : List ℕ) (sum : ℕ) → link_of order name sum ≡ name ++ 0 ∷ (replicate (padding (length (name ++ 0 ∷ [])) 4) 0 ++ number_bytes order 4 sum)
unfolding link_of
link-more order name sum =
    let zeros : List ℕ = replicate (padding (length (name ++ 0 ∷ [])) 4) 0 in
    append_assoc (name ++ 0 ∷ []) zeros (number_bytes order 4 sum) ∙ append_assoc name (0 ∷ []) (zeros ++ number_bytes order 4 sum)

link-text : (order : Order) (name : List ℕ) (sum : ℕ) → has_nul name ≡ false → text (link_of order name sum) ≡ name
link-text order name sum bare = ap text (link-more order name sum) ∙ text-append_nul name _ bare

link-nul : (order : Order) (name : List ℕ) (sum : ℕ) → has_nul (link_of order name sum) ≡ true
link-nul order name sum = ap has_nul (link-more order name sum) ∙ has_nul-append name _ ∙ or-true (has_nul name)
  where
    or-true : (b : Bool) → (b || true) ≡ true
    or-true true = refl
    or-true false = refl

-- its sum stands behind the padded name
link-place : (order : Order) (name : List ℕ) (sum : ℕ) → has_nul name ≡ false → sum_place (link_of order name sum) ≡ length (padded (name ++ 0 ∷ []))
link-place order name sum bare =
    let n : ℕ = length (name ++ 0 ∷ []) in
    let size : length name + 1 ≡ n = omega (arith, length-append name (0 ∷ [])) in
    let whole : length (padded (name ++ 0 ∷ [])) ≡ n + padding n 4 =
    length-append (name ++ 0 ∷ []) (replicate (padding n 4) 0) ∙ ap (λ (k : ℕ). n + k) (length-replicate {A = ℕ} (padding n 4) 0) in
    ap (λ (t : List ℕ). length t + 1 + padding (length t + 1) 4) (link-text order name sum bare) ∙ ap (λ (k : ℕ). k + padding k 4) size ∙ sym whole

and-both : (a b : Bool) → a ≡ true → b ≡ true → (a && b) ≡ true
and-both true b e f = f
and-both false b e f = cc

-- a link of a name without a NUL is a link to that name and sum
pub link-read_back : (order : Order) (name bytes : List ℕ) (sum : ℕ) → bytes ≡ link_of order name sum → sum < 2 ^ 32 → has_nul name ≡ false → IsLink order bytes name sum
unfolding link_of holds_link
link-read_back order name bytes sum e small bare =
    let front : List ℕ = padded (name ++ 0 ∷ []) in
    let place : sum_place (link_of order name sum) ≡ length front = link-place order name sum bare in
    let size : length (link_of order name sum) ≡ length front + 4 =
    length-append front (number_bytes order 4 sum) ∙ ap (λ (k : ℕ). length front + k) (length-number_bytes order 4 sum) in
    let fits : sum_place (link_of order name sum) + 4 ≤ length (link_of order name sum) = omega (arith, place, size) in
    let at_place : spelled order (link_of order name sum) (length front) 4 ≡ sum =
    spelled-append_at order front (number_bytes order 4 sum) 0 (length front) 4 (omega arith)
    ∙ ap (λ (r : List ℕ). spelled order r 0 4) (sym (append-nil (number_bytes order 4 sum)))
    ∙ spelled-number_bytes order 4 sum [] small in
    rw e (record {
      holds = and-both _ _ (link-nul order name sum) (le-leb _ _ fits);
      name_is = sym (link-text order name sum bare);
      sum_is = sym (ap (λ (k : ℕ). spelled order (link_of order name sum) k 4) place ∙ at_place);
    })

pub ruleset contents_rules = (append_assoc)

-- whether bytes hold a link, by the length of the name and the padding behind it
and-right-false : (a b : Bool) → b ≡ false → (a && b) ≡ false
and-right-false true b e = e
and-right-false false b e = refl

pub link-holds : (bytes : List ℕ) (len pad : ℕ) → len ≡ length (text bytes) → pad ≡ padding (len + 1) 4 → has_nul bytes ≡ true → len + 1 + pad + 4 ≤ length bytes
    → holds_link bytes ≡ true
unfolding holds_link
link-holds bytes len pad e f nul fits = and-both _ _ nul (le-leb _ _ (rw (← e, ← f) fits))

pub link-short : (bytes : List ℕ) (len pad : ℕ) → len ≡ length (text bytes) → pad ≡ padding (len + 1) 4 → length bytes < len + 1 + pad + 4
    → holds_link bytes ≡ false
unfolding holds_link
link-short bytes len pad e f short =
    let past : length bytes < sum_place bytes + 4 = rw (← e, ← f) short in
    and-right-false _ _ (lt-leb_false (sum_place bytes + 4) (length bytes) past)
  where
    lt-leb_false : (m n : ℕ) → n < m → nat_le m n ≡ false
    lt-leb_false m n h = grind arith

pub link-bare : (bytes : List ℕ) → has_nul bytes ≡ false → holds_link bytes ≡ false
unfolding holds_link
link-bare bytes bare = rw bare refl

-- and the link that they hold
pub link-there : (order : Order) (bytes : List ℕ) (len pad sum : ℕ) → len ≡ length (text bytes) → pad ≡ padding (len + 1) 4 → has_nul bytes ≡ true
    → len + 1 + pad + 4 ≤ length bytes → sum ≡ spelled order bytes (len + 1 + pad) 4 → IsLink order bytes (take len bytes) sum
link-there order bytes len pad sum e f nul fits sum_is = record {
  holds = link-holds bytes len pad e f nul fits;
  name_is = ap (λ (n : ℕ). take n bytes) e ∙ take-text bytes nul;
  sum_is = rw (← e, ← f) sum_is;
}

pub ruleset named_rules = (length-text, link-holds, link-short, link-there)

pub ruleset read_rules = (link-bare)

pub ruleset len_rules = (position-text)
