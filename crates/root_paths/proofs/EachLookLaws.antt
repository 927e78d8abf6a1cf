-- Looks at paths, one after another.
use Rattle.std.proofs.Common.{◌≡◌, ℕ, ◌+◌, ◌≤◌, ◌<◌, List, [], ◌∷◌, ◌++◌, length, map, take, get_or, String, sym, ap, ◌∙◌, subst, append_assoc, append-nil}
use Rattle.std.specs.String.{string_bytes}
use Rattle.std.specs.declared.alloc.Global.{Global}
use Rattle.std.proofs.lemmas.List.{map-append, take_all, take_more}
use Rattle.file_tree.specs.Causes.{Rose}
use Rattle.file_tree.specs.Seen.{Seen, Happened}
use Rattle.root_paths.specs.Looks.{LookedAt, Looked, read_at}
use Rattle.root_paths.proofs.LookLaws.{looked_none, looked_then, rose_since}
use Rattle.root_paths.proofs.PlaceLaws.{as_many, many_texts, text_at}

pub each_none : (s : Seen) → LookedAt s s []
each_none s = record { log = λ t. sym (append-nil s.past.log) }

pub each_then : (a b c : Seen) (ps qs : List (List ℕ)) → b.tells ≡ a.tells → LookedAt a b ps → LookedAt b c qs → LookedAt a c (ps ++ qs)
each_then a b c ps qs tells x y = record {
  log = λ t. y.log (tells ∙ t) ∙ ap (λ (l : List Happened). l ++ map read_at qs) (x.log t) ∙ append_assoc a.past.log (map read_at ps) (map read_at qs)
      ∙ ap (λ (l : List Happened). a.past.log ++ l) (sym (map-append read_at ps qs));
}

pub each_at : (a b : Seen) (ps qs : List (List ℕ)) → ps ≡ qs → LookedAt a b ps → LookedAt a b qs
each_at a b ps qs e = subst (λ (xs : List (List ℕ)). LookedAt a b xs) e

-- so many of these paths
pub record LookedTo (old new : Seen) (xs : List (String Global)) (n : ℕ) : Type 0 where
  pub looked : Looked old new
  pub each : LookedAt old new (take n (map string_bytes xs))

pub to_none : (s : Seen) (xs : List (String Global)) → LookedTo s s xs 0
to_none s xs = record { looked = looked_none s; each = each_none s }

pub to_more : (a b c : Seen) (xs : List (String Global)) (i : ℕ) (x : String Global) (path : List ℕ) → i < length xs → x ≡ get_or xs i x → path ≡ string_bytes x
    → LookedTo a b xs i → Looked b c → LookedAt b c (path ∷ []) → LookedTo a c xs (i + 1)
to_more a b c xs i x path l is at so looked asked =
    let own : path ≡ get_or (map string_bytes xs) i [] = at ∙ ap (λ (s : String Global). string_bytes s) is ∙ sym (text_at xs i x l) in
    let more : take i (map string_bytes xs) ++ path ∷ [] ≡ take (i + 1) (map string_bytes xs) =
    ap (λ (p : List ℕ). take i (map string_bytes xs) ++ p ∷ []) own ∙ sym (take_more (map string_bytes xs) i [] (many_texts xs i l)) in
    record {
      looked = looked_then a b c so.looked looked;
      each = each_at a c _ _ more (each_then a b c (take i (map string_bytes xs)) (path ∷ []) so.looked.tells so.each asked);
    }

pub to_all : (a b : Seen) (xs : List (String Global)) (i : ℕ) → length xs ≤ i → LookedTo a b xs i → LookedAt a b (map string_bytes xs)
to_all a b xs i le so = each_at a b _ _ (take_all i (map string_bytes xs) (subst (λ (n : ℕ). n ≤ i) (sym (as_many xs)) le)) so.each

pub rose_to : (a b c : Seen) (xs : List (String Global)) (i : ℕ) → LookedTo a b xs i → Rose b.faults c.faults → Rose a.faults c.faults
rose_to a b c xs i so rose = rose_since a b c so.looked rose

pub ruleset each_rules = (rose_to)
