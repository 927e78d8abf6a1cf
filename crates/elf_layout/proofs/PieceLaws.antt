-- Laws of bytes in pieces.
use Rattle.std.proofs.Common.{◌≡◌, ℕ, ◌+◌, ◌*◌, ◌<◌, ◌≤◌, Bool, true, false, List, [], ◌∷◌, ◌++◌, length, replicate, take, drop, get_or, slice_set, ap, sym, subst, ◌∙◌, refl, arith}
use Rattle.std.proofs.lemmas.List.{append_assoc, append-nil, at_drop_all, drop_more, drop-append-le, length-append, length-drop, length-replicate, length-take-le, take_all, take_at, take-append-le}
use Rattle.std.specs.List.{concat}
use Rattle.dw_base.specs.Elf.{ehdr_size, shdr_size, shoff_place, word_size}
use Rattle.dw_base.specs.Layout.{output_limit, padding, before_table, extended, new_head, placed, shdr_bytes, shdrs_bytes, with_table}
use Rattle.dw_base.specs.LayoutFails.{TooLong}
use Rattle.dw_base.specs.LayoutFails.TooLong.{long}
use Rattle.dw_base.specs.Numbers.{number_bytes, with_number}
use Rattle.dw_base.specs.Refusals.{at, Blames}
use Rattle.dw_base.specs.declared.fault.Fault.{Fault}
use Rattle.dw_base.specs.declared.fault.Kind.TheVariants.{TooLarge}
use Rattle.dw_base.specs.declared.records.Section.{Section}
use Rattle.dw_base.specs.declared.shared.Class.{Class}
use Rattle.dw_base.specs.declared.shared.Class.TheVariants.{C32, C64}
use Rattle.dw_base.specs.declared.shared.Order.{Order}
use Rattle.elf_layout.specs.Given.{part}
use Rattle.elf_layout.specs.Patched.{put_at}
use Rattle.dw_base.proofs.LayoutLaws.{length-before_table, length-shdrs_bytes, length-with_table}
use Rattle.dw_base.proofs.NumberLaws.{length-with_number}

-- with a piece more
pub concat-push : (xss : List (List ℕ)) (xs : List ℕ) → concat (xss ++ xs ∷ []) ≡ concat xss ++ xs
concat-push [] xs = append-nil xs
concat-push (x ∷ xss) xs = ap (λ (l : List ℕ). x ++ l) (concat-push xss xs) ∙ sym (append_assoc x (concat xss) xs)

-- of what is left of pieces: a piece and those behind it
pub concat-next : (xss : List (List ℕ)) (i : ℕ) (x whole so_far now : List ℕ) → i < length xss → x ≡ get_or xss i x → now ≡ so_far ++ x
    → so_far ++ concat (drop i xss) ≡ whole → now ++ concat (drop (i + 1) xss) ≡ whole
concat-next xss i x whole so_far now lt here more same =
    let step : drop i xss ≡ x ∷ drop (i + 1) xss = drop_more xss i x lt ∙ ap (λ (q : List ℕ). q ∷ drop (i + 1) xss) (sym here) in
    ap (λ (l : List ℕ). l ++ concat (drop (i + 1) xss)) more ∙ append_assoc so_far x (concat (drop (i + 1) xss))
    ∙ ap (λ (yss : List (List ℕ)). so_far ++ concat yss) (sym step) ∙ same

-- when none is left, the whole is taken
pub concat-all : (xss : List (List ℕ)) (i : ℕ) (so_far whole : List ℕ) → length xss ≤ i → so_far ++ concat (drop i xss) ≡ whole → so_far ≡ whole
concat-all xss i so_far whole end same =
    sym (append-nil so_far) ∙ sym (at_drop_all (λ (yss : List (List ℕ)). so_far ++ concat yss) xss i end) ∙ same

-- of section headers so too
pub shdrs-next : (c : Class) (o : Order) (ss : List Section) (i : ℕ) (s : Section) (so_far now whole : List ℕ) → i < length ss → s ≡ get_or ss i s
    → now ≡ so_far ++ shdr_bytes c o s → so_far ++ shdrs_bytes c o (drop i ss) ≡ whole → now ++ shdrs_bytes c o (drop (i + 1) ss) ≡ whole
shdrs-next c o ss i s so_far now whole lt here more same =
    let step : drop i ss ≡ s ∷ drop (i + 1) ss = drop_more ss i s lt ∙ ap (λ (q : Section). q ∷ drop (i + 1) ss) (sym here) in
    ap (λ (l : List ℕ). l ++ shdrs_bytes c o (drop (i + 1) ss)) more ∙ append_assoc so_far (shdr_bytes c o s) (shdrs_bytes c o (drop (i + 1) ss))
    ∙ ap (λ (qs : List Section). so_far ++ shdrs_bytes c o qs) (sym step) ∙ same

-- and is as long as both
pub length-push : (xss : List (List ℕ)) (made lent : List ℕ) (n a b : ℕ) → n ≡ length (concat xss) → a ≡ length made → b ≡ length lent
    → n + (a + b) ≡ length (concat (xss ++ (made ++ lent) ∷ []))
length-push xss made lent n a b n_is a_is b_is =
    omega (arith, n_is, a_is, b_is, ap length (concat-push xss (made ++ lent)), length-append (concat xss) (made ++ lent), length-append made lent)

pub ruleset push_rules = (concat-push, length-push)

pub ruleset all_rules = (concat-next)

-- what passes the limit is too long
pub long-past : (n : ℕ) → output_limit < n → TooLong n (at TooLarge 0 0)
long-past n passes = long passes

pub ruleset long_rules = (long-past)

-- a section that moves is laid behind a front and the pieces so far
pub lent-laid : (front so_far now body : List ℕ) (head : Section) (moves : Bool) (gap place : ℕ) → moves ≡ true → place ≡ length front + length so_far
    → gap ≡ padding place head.align → now ≡ so_far ++ (replicate gap 0 ++ body) → front ++ now ≡ extended (front ++ so_far) (part head moves body)
unfolding placed
lent-laid front so_far now body head moves gap place moved place_is gap_is is =
    let whole : place ≡ length (front ++ so_far) = place_is ∙ sym (length-append front so_far) in
    ap (λ (l : List ℕ). front ++ l) is ∙ sym (append_assoc front so_far (replicate gap 0 ++ body))
    ∙ ap (λ (n : ℕ). (front ++ so_far) ++ (replicate n 0 ++ body)) (gap_is ∙ ap (λ (n : ℕ). padding n head.align) whole)
    ∙ rw moved refl

-- and has its new header
pub lent-head : (front so_far body : List ℕ) (head laid_head : Section) (moves : Bool) (gap place : ℕ) → moves ≡ true → place ≡ length front + length so_far
    → gap ≡ padding place head.align → laid_head ≡ record head { offset = place + gap; size = length body }
    → laid_head ≡ new_head (length (front ++ so_far)) (part head moves body)
unfolding new_head
lent-head front so_far body head laid_head moves gap place moved place_is gap_is is =
    let whole : place ≡ length (front ++ so_far) = place_is ∙ sym (length-append front so_far) in
    is ∙ ap (λ (n : ℕ). record head { offset = place + n; size = length body }) gap_is
    ∙ ap (λ (n : ℕ). record head { offset = n + padding n head.align; size = length body }) whole
    ∙ rw moved refl

-- what passes the limit with it is too long
pub lent-long : (front so_far body : List ℕ) (head : Section) (moves : Bool) (gap place : ℕ) (f : Fault) → moves ≡ true → place ≡ length front + length so_far
    → gap ≡ padding place head.align → Blames (TooLong (place + gap + length body)) f
    → Blames (TooLong (length (extended (front ++ so_far) (part head moves body)))) f
lent-long front so_far body head moves gap place f moved place_is gap_is blamed =
    let laid_is = lent-laid front so_far (so_far ++ (replicate gap 0 ++ body)) body head moves gap place moved place_is gap_is refl in
    let size : place + gap + length body ≡ length (front ++ (so_far ++ (replicate gap 0 ++ body))) =
    omega (arith, place_is, length-append front (so_far ++ (replicate gap 0 ++ body)), length-append so_far (replicate gap 0 ++ body), length-append (replicate gap 0) body, length-replicate {A = ℕ} gap 0) in
    subst (λ (n : ℕ). Blames (TooLong n) f) (size ∙ ap length laid_is) blamed

-- one that doesn't move is not laid
pub lent-stays : (out body : List ℕ) (head : Section) (moves : Bool) → moves ≡ false → out ≡ extended out (part head moves body)
lent-stays out body head moves stays = rw stays refl

pub lent-same : (n : ℕ) (body : List ℕ) (head : Section) (moves : Bool) → moves ≡ false → head ≡ new_head n (part head moves body)
unfolding new_head
lent-same n body head moves stays = rw stays refl

pub ruleset lay_rules = (lent-laid, lent-head, lent-long, lent-stays, lent-same, length-append)

-- a table is as long as its zeros and its headers
pub table-long : (c : Class) (o : Order) (len gap : ℕ) (heads : List Section) (table : List ℕ) → table ≡ replicate gap 0 ++ shdrs_bytes c o heads
    → length table ≡ gap + length heads * shdr_size c
table-long c o len gap heads table is =
    omega (arith, ap length is, length-append (replicate gap 0) (shdrs_bytes c o heads), length-replicate {A = ℕ} gap 0, length-shdrs_bytes c o heads)

pub ruleset table_rules = (long-past, table-long, length-shdrs_bytes)

-- a number that is put into the front of bytes
pub with_number-front : (o : Order) (front behind : List ℕ) (place n x : ℕ) → place + n ≤ length front
    → with_number o (front ++ behind) place n x ≡ with_number o front place n x ++ behind
unfolding with_number
with_number-front o front behind place n x inside =
    let first : take place (front ++ behind) ≡ take place front = take-append-le place front behind (omega (arith, inside)) in
    let last : drop (place + n) (front ++ behind) ≡ drop (place + n) front ++ behind = drop-append-le (place + n) front behind inside in
    let number : List ℕ = number_bytes o n x in
    ap (λ (l : List ℕ). l ++ number_bytes o n x ++ drop (place + n) (front ++ behind)) first
    ∙ ap (λ (l : List ℕ). take place front ++ number_bytes o n x ++ l) last
    ∙ regroup (take place front) (number_bytes o n x) (drop (place + n) front) behind
  where
    regroup : (a b c d : List ℕ) → a ++ b ++ (c ++ d) ≡ (a ++ b ++ c) ++ d
    regroup a b c d = simp (append_assoc) refl

shoff-inside : (c : Class) (n : ℕ) → ehdr_size c ≤ n → shoff_place c + word_size c ≤ n
shoff-inside C32 n header = omega arith
shoff-inside C64 n header = omega arith

-- the front comes back from the slice with the place of the table
pub shoff-put : (c : Class) (o : Order) (front lent file : List ℕ) (n place : ℕ) → ehdr_size c ≤ length front → n ≡ length front → lent ≡ front
    → file ≡ with_number o lent (shoff_place c) (word_size c) place → take n (file ++ drop (length file) front) ≡ with_number o front (shoff_place c) (word_size c) place
shoff-put c o front lent file n place header n_is lent_is put =
    let is : file ≡ with_number o front (shoff_place c) (word_size c) place = put ∙ ap (λ (l : List ℕ). with_number o l (shoff_place c) (word_size c) place) lent_is in
    let same : length file ≡ length front = ap length is ∙ length-with_number o front (shoff_place c) (word_size c) place (shoff-inside c (length front) header) in
    ap (λ (k : ℕ). take k (file ++ drop (length file) front)) (n_is ∙ sym same)
    ∙ take-append-le (length file) file (drop (length file) front) (omega arith) ∙ take_all (length file) file (omega arith) ∙ is

-- so is a file of bytes, zeros and the table
pub appended-table : (c : Class) (o : Order) (out padded pushed lent file : List ℕ) (n place : ℕ) (heads : List Section) → ehdr_size c ≤ length out → n ≡ length pushed
    → padded ≡ before_table c out → place ≡ length padded → pushed ≡ padded ++ shdrs_bytes c o heads → lent ≡ pushed
    → file ≡ with_number o lent (shoff_place c) (word_size c) place → take n (file ++ drop (length file) pushed) ≡ with_table c o out heads
unfolding with_table
appended-table c o out padded pushed lent file n place heads header n_is padded_is place_is pushed_is lent_is put =
    let body : pushed ≡ before_table c out ++ shdrs_bytes c o heads = pushed_is ∙ ap (λ (l : List ℕ). l ++ shdrs_bytes c o heads) padded_is in
    let longer : ehdr_size c ≤ length pushed =
    omega (arith, header, ap length body, length-append (before_table c out) (shdrs_bytes c o heads), length-before_table c out) in
    shoff-put c o pushed lent file n place longer n_is lent_is put ∙ ap (λ (l : List ℕ). with_number o l (shoff_place c) (word_size c) place) body
    ∙ ap (with_number o (before_table c out ++ shdrs_bytes c o heads) (shoff_place c) (word_size c)) (place_is ∙ ap length padded_is)

-- a front with the place of the table, what is laid behind it, and the table are the file
pub joined-table : (c : Class) (o : Order) (front behind table put pieces file : List ℕ) (len place : ℕ) (heads : List Section) → ehdr_size c ≤ length front
    → len ≡ length front + length behind → place ≡ len + padding len (word_size c)
    → table ≡ replicate (padding len (word_size c)) 0 ++ shdrs_bytes c o heads
    → put ≡ with_number o front (shoff_place c) (word_size c) place → pieces ≡ behind ++ (table ++ []) → file ≡ put ++ pieces
    → file ≡ with_table c o (front ++ behind) heads
unfolding with_table before_table
joined-table c o front behind table put pieces file len place heads header len_is place_is table_is put_is pieces_is file_is =
    let whole : length (front ++ behind) ≡ len = length-append front behind ∙ sym len_is in
    let gap : List ℕ = replicate (padding len (word_size c)) 0 in
    let before : length ((front ++ behind) ++ replicate (padding len (word_size c)) 0) ≡ place =
    omega (arith, place_is, whole, length-append (front ++ behind) (replicate (padding len (word_size c)) 0), length-replicate {A = ℕ} (padding len (word_size c)) 0) in
    let body : front ++ pieces ≡ ((front ++ behind) ++ replicate (padding len (word_size c)) 0) ++ shdrs_bytes c o heads =
    ap (λ (l : List ℕ). front ++ l) (pieces_is ∙ ap (λ (l : List ℕ). behind ++ l) (append-nil table ∙ table_is))
    ∙ regroup front behind (replicate (padding len (word_size c)) 0) (shdrs_bytes c o heads) in
    file_is ∙ ap (λ (l : List ℕ). l ++ pieces) put_is
    ∙ sym (with_number-front o front pieces (shoff_place c) (word_size c) place (shoff-inside c (length front) header))
    ∙ ap (λ (l : List ℕ). with_number o l (shoff_place c) (word_size c) place) body
    ∙ rw (whole, before) refl
  where
    regroup : (a b c d : List ℕ) → a ++ (b ++ (c ++ d)) ≡ ((a ++ b) ++ c) ++ d
    regroup a b c d = simp (append_assoc) refl

-- what passes the limit as a table behind so many bytes passes it as the file
pub joined-long : (c : Class) (o : Order) (front behind : List ℕ) (len : ℕ) (heads : List Section) (f : Fault) → ehdr_size c ≤ length front
    → len ≡ length front + length behind → Blames (TooLong (len + padding len (word_size c) + length heads * shdr_size c)) f
    → Blames (TooLong (length (with_table c o (front ++ behind) heads))) f
joined-long c o front behind len heads f header is blamed =
    let whole : length (front ++ behind) ≡ len = length-append front behind ∙ sym is in
    let long_all : length (with_table c o (front ++ behind) heads) ≡ len + padding len (word_size c) + length heads * shdr_size c =
    length-with_table c o (front ++ behind) heads (omega (arith, whole, is, header)) ∙ ap (λ (n : ℕ). n + padding n (word_size c) + length heads * shdr_size c) whole in
    subst (λ (n : ℕ). Blames (TooLong n) f) (sym long_all) blamed

-- a file that is joined of these is no longer than they are
pub joined-short : (front put behind table pieces file : List ℕ) (len : ℕ) → length put ≡ length front → len ≡ length front + length behind
    → len + length table ≤ output_limit → pieces ≡ behind ++ (table ++ []) → file ≡ put ++ pieces → length file ≤ output_limit
joined-short front put behind table pieces file len same is fits pieces_is file_is =
    omega (arith, same, is, fits, ap length file_is, length-append put pieces, ap length pieces_is, length-append behind (table ++ []), ap length (append-nil table))

pub ruleset join_rules = (joined-table, joined-long, joined-short, length-append)

-- bytes that are put at a place keep the length,
pub length-put : (place : ℕ) (more xs : List ℕ) → place + length more ≤ length xs → length (put_at place more xs) ≡ length xs
length-put place more xs inside =
    omega (
      arith,
      length-append (take place xs ++ more) (drop (place + length more) xs),
      length-append (take place xs) more,
      length-take-le place xs (omega (arith, inside)),
      length-drop (place + length more) xs,
      inside,
    )

-- and stand in the front of more
pub put-front : (place : ℕ) (more xs ys : List ℕ) → place + length more ≤ length xs → put_at place more (xs ++ ys) ≡ put_at place more xs ++ ys
put-front place more xs ys inside =
    let first : take place (xs ++ ys) ≡ take place xs = take-append-le place xs ys (omega (arith, inside)) in
    let last : drop (place + length more) (xs ++ ys) ≡ drop (place + length more) xs ++ ys = drop-append-le (place + length more) xs ys inside in
    ap (λ (l : List ℕ). l ++ more ++ drop (place + length more) (xs ++ ys)) first
    ∙ ap (λ (l : List ℕ). take place xs ++ more ++ l) last ∙ regroup (take place xs) more (drop (place + length more) xs) ys
  where
    regroup : (a b c d : List ℕ) → a ++ b ++ (c ++ d) ≡ (a ++ b ++ c) ++ d
    regroup a b c d = simp (append_assoc) refl

-- of a vector they come back from the slice so
pub put-back : (bytes now new more : List ℕ) (n place : ℕ) → n ≡ length bytes → now ≡ bytes → new ≡ put_at place more now → place + length more ≤ length bytes
    → take n (new ++ drop (length new) bytes) ≡ put_at place more bytes
put-back bytes now new more n place n_is now_is is inside =
    let whole : new ≡ put_at place more bytes = is ∙ ap (put_at place more) now_is in
    let same : length new ≡ n = ap length whole ∙ length-put place more bytes inside ∙ sym n_is in
    take_at new (drop (length new) bytes) n same ∙ whole

-- in the first of pieces
pub first-put : (xss new : List (List ℕ)) (d first now more : List ℕ) (place : ℕ) → 0 < length xss → first ≡ get_or xss 0 d → now ≡ put_at place more first
    → place + length more ≤ length first → new ≡ slice_set xss 0 now → concat new ≡ put_at place more (concat xss)
first-put [] new d first now more place some here put inside is = absurd (omega (arith, some))
first-put (x ∷ xss) new d first now more place some here put inside is =
    ap concat is ∙ ap (λ (l : List ℕ). l ++ concat xss) (put ∙ ap (put_at place more) here)
    ∙ sym (put-front place more x (concat xss) (subst (λ (l : List ℕ). place + length more ≤ length l) here inside))

pub first-kept : (xss new : List (List ℕ)) (d first now : List ℕ) → 0 < length xss → first ≡ get_or xss 0 d → now ≡ first → new ≡ slice_set xss 0 now → concat new ≡ concat xss
first-kept [] new d first now some here kept is = absurd (omega (arith, some))
first-kept (x ∷ xss) new d first now some here kept is = ap concat is ∙ ap (λ (l : List ℕ). l ++ concat xss) (kept ∙ here)

-- one piece
pub one-piece : (none xss : List (List ℕ)) (made lent : List ℕ) → none ≡ [] → lent ≡ [] → xss ≡ none ++ (made ++ lent) ∷ [] → concat xss ≡ made
one-piece none xss made lent none_is lent_is is =
    ap concat (is ∙ ap (λ (yss : List (List ℕ)). yss ++ (made ++ lent) ∷ []) none_is ∙ ap (λ (xs : List ℕ). (made ++ xs) ∷ []) lent_is)
    ∙ append-nil (made ++ []) ∙ append-nil made

pub ruleset put_rules = (length-put, put-front, put-back, first-put, first-kept, one-piece)
