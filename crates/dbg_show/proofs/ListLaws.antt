-- The items of the lists of a table.
use Rattle.std.proofs.Common.{◌≡◌, ℕ, zero, suc, ◌+◌, ◌-◌, ◌<◌, ◌≤◌, List, [], ◌∷◌, ◌++◌, length, map, get_or, Option, Some, None, refl, ap, ◌∙◌, arith}
use Rattle.dw_base.specs.LineMeanings.{FileText, named, unnamed, item_at, dir_numbered, file_numbered, shown_in, shown_as, shown_file, place_text, file_text, file_texts, dir_texts}
use Rattle.dw_base.specs.LineSources.{LineSource}
use Rattle.dw_base.specs.declared.line_tables.FilePlace.{FilePlace}
use Rattle.dw_base.specs.declared.line_tables.TextPlace.{TextPlace}
use Rattle.dbg_show.specs.Rows.{shown_text}

-- the item of a number of what a function makes of a list
item-map : {X Y : Type 0} (f : X → Y) (xs : List X) (i : ℕ) (d : X) → i < length xs → Some (f (get_or xs i d)) ≡ item_at (map f xs) i
item-map f [] i d lt = absurd (omega (arith, lt))
item-map f (x ∷ xs) zero d lt = refl
item-map f (x ∷ xs) (suc i) d lt = item-map f xs i d (omega (arith, lt))

item-past : {X Y : Type 0} (f : X → Y) (xs : List X) (i : ℕ) → length xs ≤ i → None ≡ item_at (map f xs) i
item-past f [] i le = refl
item-past f (x ∷ xs) zero le = absurd (omega (arith, le))
item-past f (x ∷ xs) (suc i) le = item-past f xs i (omega (arith, le))

item-front : {X Y : Type 0} (f : X → Y) (xs : List X) (ys : List Y) (i : ℕ) (d : X) → i < length xs → Some (f (get_or xs i d)) ≡ item_at (map f xs ++ ys) i
item-front f [] ys i d lt = absurd (omega (arith, lt))
item-front f (x ∷ xs) ys zero d lt = refl
item-front f (x ∷ xs) ys (suc i) d lt = item-front f xs ys i d (omega (arith, lt))

item-back : {X Y : Type 0} (f : X → Y) (xs : List X) (ys : List Y) (i rest : ℕ) → length xs ≤ i → i ≡ length xs + rest → item_at ys rest ≡ item_at (map f xs ++ ys) i
item-back f [] ys i rest le e = ap (item_at ys) (omega (arith, e))
item-back f (x ∷ xs) ys zero rest le e = absurd (omega (arith, le))
item-back f (x ∷ xs) ys (suc i) rest le e = item-back f xs ys i rest (omega (arith, le)) (omega (arith, e))

pub file-front : (g : LineSource) (files defined : List FilePlace) (i : ℕ) (d : FilePlace) → i < length files
    → Some (file_text g (get_or files i d)) ≡ item_at (file_texts g files ++ file_texts g defined) i
file-front g files defined i d lt = item-front (file_text g) files (file_texts g defined) i d lt

pub file-back : (g : LineSource) (files defined : List FilePlace) (i : ℕ) (d : FilePlace) → length files ≤ i → i - length files < length defined
    → Some (file_text g (get_or defined (i - length files) d)) ≡ item_at (file_texts g files ++ file_texts g defined) i
file-back g files defined i d le lt =
    item-map (file_text g) defined (i - length files) d lt ∙ item-back (file_text g) files (file_texts g defined) i (i - length files) le (omega (arith, le))

pub file-none : (g : LineSource) (files defined : List FilePlace) (i : ℕ) → length files ≤ i → length defined ≤ i - length files
    → None ≡ item_at (file_texts g files ++ file_texts g defined) i
file-none g files defined i le past =
    item-past (file_text g) defined (i - length files) past ∙ item-back (file_text g) files (file_texts g defined) i (i - length files) le (omega (arith, le))

pub dir-there : (g : LineSource) (dirs : List TextPlace) (i : ℕ) (d : TextPlace) (text : List ℕ) → i < length dirs → text ≡ place_text g (get_or dirs i d)
    → Some text ≡ item_at (dir_texts g dirs) i
dir-there g dirs i d text lt e = ap (λ (x : List ℕ). Some x) e ∙ item-map (place_text g) dirs i d lt

pub dir-none : (g : LineSource) (dirs : List TextPlace) (i : ℕ) → length dirs ≤ i → None ≡ item_at (dir_texts g dirs) i
dir-none g dirs i le = item-past (place_text g) dirs i le

pub ruleset item_laws = (file-front, file-back, file-none, dir-there, dir-none)

-- what a row shows of its file
pub shown-unnamed : (version : ℕ) (dirs : List (List ℕ)) (files : List FileText) (i : ℕ) (old new : List ℕ) → None ≡ file_numbered version files i
    → new ≡ old ++ shown_text (unnamed i) → new ≡ old ++ shown_text (shown_file version dirs files i)
shown-unnamed version dirs files i old new o n = n ∙ ap (λ (f : Option FileText). old ++ shown_text (shown_as version dirs i f)) o

pub shown-listed : (version : ℕ) (dirs : List (List ℕ)) (files : List FileText) (i : ℕ) (f : FileText) (old new : List ℕ) → Some f ≡ file_numbered version files i
    → new ≡ old ++ shown_text (shown_in i f.path (dir_numbered version dirs f.dir)) → new ≡ old ++ shown_text (shown_file version dirs files i)
shown-listed version dirs files i f old new o n = n ∙ ap (λ (x : Option FileText). old ++ shown_text (shown_as version dirs i x)) o

pub shown-nowhere : (version : ℕ) (dirs : List (List ℕ)) (i dir : ℕ) (path old new : List ℕ) → None ≡ dir_numbered version dirs dir
    → new ≡ old ++ shown_text (unnamed i) → new ≡ old ++ shown_text (shown_in i path (dir_numbered version dirs dir))
shown-nowhere version dirs i dir path old new o n = n ∙ ap (λ (x : Option (List ℕ)). old ++ shown_text (shown_in i path x)) o

pub shown-named : (version : ℕ) (dirs : List (List ℕ)) (i dir : ℕ) (path text old new : List ℕ) → Some text ≡ dir_numbered version dirs dir
    → new ≡ old ++ shown_text (named text path) → new ≡ old ++ shown_text (shown_in i path (dir_numbered version dirs dir))
shown-named version dirs i dir path text old new o n = n ∙ ap (λ (x : Option (List ℕ)). old ++ shown_text (shown_in i path x)) o

pub ruleset shown_laws = (shown-unnamed, shown-listed, shown-nowhere, shown-named)
