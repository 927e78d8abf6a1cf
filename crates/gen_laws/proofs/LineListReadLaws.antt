-- The lists of a generated line table read: one directory, and one file.
use Rattle.std.proofs.Common.{◌≡◌, ℕ, ◌+◌, ◌^◌, ◌<◌, false, List, [], ◌∷◌, ◌++◌, length, Some, refl, sym, ap, ◌∙◌, arith, subst}
use Rattle.std.specs.Prelude.{codes}
use Rattle.std.specs.Fmt.{decimal}
use Rattle.std.proofs.lemmas.List.{append_assoc, length-append}
use Rattle.dw_base.specs.LineTexts.{file_numbers, inline_text}
use Rattle.dw_base.specs.Lebs.{uleb_at}
use Rattle.dw_base.specs.Texts.{has_nul}
use Rattle.dw_base.specs.declared.line_tables.FilePlace.{FilePlace}
use Rattle.dw_base.specs.declared.line_tables.TextPlace.{TextPlace}
use Rattle.dw_base.proofs.ContributionBackLaws.{StandsAt}
use Rattle.dw_base.proofs.TextLaws.{has_nul-append_false}
use Rattle.dw_meaning.proofs.LineReadLaws.{file_numbers-both, inline-here}
use Rattle.dw_meaning.proofs.LineWalkLaws.{OldDirs, OldFiles}
use Rattle.dbg_gen.specs.GeneratedLines.{line_lists}
use Rattle.dbg_gen.proofs.OnceLaws.{decimal-bare}
use Rattle.gen_laws.proofs.StandLaws.{stands-at, stands-second, text-there}

-- a text of so many bytes at a place
abbrev pub place_of : ℕ → ℕ → ℕ → TextPlace
place_of number at len = record { section = number; at = at; len = len; field = at }

inline-there : (number : ℕ) (table t rest : List ℕ) (p : ℕ) → StandsAt table (t ++ 0 ∷ rest) p → has_nul t ≡ false → inline_text number table p ≡ Some (place_of number p (length t))
inline-there number table t rest p h bare =
    let both = text-there table t rest p h bare in
    inline-here number table p both.0 ∙ ap (λ (xs : List ℕ). Some (place_of number p (length xs))) both.1

-- the name of the file of a unit
abbrev pub file_name : ℕ → List ℕ
file_name unit = codes "u" ++ (decimal unit ++ codes ".c")

file_name-bare : (unit : ℕ) → unit < 2 ^ 64 → has_nul (file_name unit) ≡ false
file_name-bare unit small =
    has_nul-append_false (codes "u") (decimal unit ++ codes ".c") refl (has_nul-append_false (decimal unit) (codes ".c") (decimal-bare unit small) refl)

abbrev zeros : List ℕ
zeros = 0 ∷ 0 ∷ 0 ∷ 0 ∷ 0 ∷ []

regroup : (unit : ℕ) → line_lists unit ≡ codes "/build/p/inc" ++ (0 ∷ 0 ∷ (file_name unit ++ zeros))
regroup unit = ap (λ (xs : List ℕ). codes "/build/p/inc" ++ (0 ∷ 0 ∷ (codes "u" ++ xs))) (sym (append_assoc (decimal unit) (codes ".c") zeros))

-- the directory
abbrev pub dirs_of : ℕ → ℕ → List TextPlace
dirs_of number p = place_of number p 12 ∷ []

pub dirs-there : (number : ℕ) (table : List ℕ) (unit p : ℕ) → StandsAt table (line_lists unit) p → OldDirs number table p (dirs_of number p) (p + 12 + 1 + 1)
dirs-there number table unit p h =
    let lists : StandsAt table (codes "/build/p/inc" ++ (0 ∷ 0 ∷ (file_name unit ++ zeros))) p = subst (λ (xs : List ℕ). StandsAt table xs p) (regroup unit) h in
    let behind : StandsAt table ([] ++ 0 ∷ (file_name unit ++ zeros)) (p + 12 + 1) =
    stands-at _ _ _ (p + 12 + 1) (stands-second table (codes "/build/p/inc" ++ (0 ∷ [])) (0 ∷ (file_name unit ++ zeros)) p lists) (omega arith) in (
      inline-there number table (codes "/build/p/inc") (0 ∷ (file_name unit ++ zeros)) p lists refl,
      λ none. omega (arith, none),
      (place_of number (p + 12 + 1) 0, inline-there number table [] (file_name unit ++ zeros) (p + 12 + 1) behind refl, refl, refl),
    )

-- the file
abbrev pub files_of : ℕ → ℕ → ℕ → List FilePlace
files_of number unit p = record { text = place_of number p (length (file_name unit)); dir = 0 } ∷ []

numbers-found : file_numbers (0 ∷ 0 ∷ 0 ∷ 0 ∷ []) 0 ≡ Some (0, 3)
unfolding file_numbers uleb_at
numbers-found = refl

pub files-there : (number : ℕ) (table : List ℕ) (unit p : ℕ) → unit < 2 ^ 64 → StandsAt table (line_lists unit) p
    → OldFiles number table (p + 12 + 1 + 1) (files_of number unit (p + 12 + 1 + 1)) (p + 12 + 1 + 1 + length (file_name unit) + 1 + 3 + 1)
files-there number table unit p small h =
    let at = p + 12 + 1 + 1 in
    let lists : StandsAt table (codes "/build/p/inc" ++ (0 ∷ 0 ∷ (file_name unit ++ zeros))) p = subst (λ (xs : List ℕ). StandsAt table xs p) (regroup unit) h in
    let name : StandsAt table (file_name unit ++ zeros) at =
    stands-at _ _ _ at (stands-second table (codes "/build/p/inc" ++ (0 ∷ 0 ∷ [])) (file_name unit ++ zeros) p lists) (omega arith) in
    let four : StandsAt table (0 ∷ 0 ∷ 0 ∷ 0 ∷ []) (at + length (file_name unit) + 1) =
    stands-at _ _ _ (at + length (file_name unit) + 1) (stands-second table (0 ∷ []) (0 ∷ 0 ∷ 0 ∷ 0 ∷ []) (at + length (file_name unit)) (stands-second table (file_name unit) zeros at name)) (omega arith) in
    let last : StandsAt table ([] ++ 0 ∷ []) (at + length (file_name unit) + 1 + 3) = stands-second table (0 ∷ 0 ∷ 0 ∷ []) (0 ∷ []) (at + length (file_name unit) + 1) four in
    let read = file_numbers-both (0 ∷ 0 ∷ 0 ∷ 0 ∷ []) table (0 ∷ 0 ∷ 0 ∷ 0 ∷ []) 0 (at + length (file_name unit) + 1) (0, 3)
    (record { was = record { behind = []; is = refl; inside = omega arith }; is = four }) numbers-found (omega arith) in (
      record {
        text = inline-there number table (file_name unit) (0 ∷ 0 ∷ 0 ∷ 0 ∷ []) at name (file_name-bare unit small);
        some = λ none. omega (arith, none, length-append (codes "u") (decimal unit ++ codes ".c"));
        next = at + length (file_name unit) + 1 + 3;
        numbers = read.1;
      },
      (place_of number (at + length (file_name unit) + 1 + 3) 0, inline-there number table [] [] (at + length (file_name unit) + 1 + 3) last refl, refl, refl),
    )
