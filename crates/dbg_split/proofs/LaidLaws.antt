-- A file that was laid out from a front and sections by number reads back.
use Rattle.std.proofs.Common.{◌≡◌, ◌≢◌, ℕ, suc, ◌+◌, ◌*◌, ◌<◌, ◌≤◌, ◌⊎◌, true, false, List, [], ◌∷◌, ◌++◌, length, take, drop, get_or, slice_index, refl, sym, ap, ◌∙◌, arith, inl, inr, subst}
use Rattle.std.proofs.lemmas.List.{append-nil, length-append}
use Rattle.dw_base.specs.Elf.{class_of, order_of, ehdr_size, shdr_size, word_size, shoff_place, e_shoff, is_empty_kind, nth_section, contents_of}
use Rattle.dw_base.specs.Fields.{FieldsFit}
use Rattle.dw_base.specs.Layout.{Part, output_limit, padding, extended, laid, new_head, new_heads, before_table, with_table, laid_out, shdr_fields, shdr_bytes, shdrs_bytes}
use Rattle.dw_base.specs.LayoutReads.{SameButPlace}
use Rattle.dw_base.specs.Lists.{tabulate}
use Rattle.dw_base.specs.Numbers.{spelled}
use Rattle.dw_base.specs.declared.records.Section.{Section}
use Rattle.dw_base.specs.declared.shared.Class.{Class}
use Rattle.dw_base.specs.declared.shared.Order.{Order}
use Rattle.dw_base.specs.declared.shared.Order.TheVariants.{Little}
use Rattle.dw_base.proofs.ElfLaws.{ehdr_size-least}
use Rattle.dw_base.proofs.LayoutLaws.{laid-append, laid-longer, laid_tabulate-longer, length-before_table, length-with_table, length-new_heads}
use Rattle.dw_base.proofs.ListLaws.{length-tabulate}
use Rattle.dw_base.proofs.NumberLaws.{spelled-ext, spelled-with_number}
use Rattle.dw_base.proofs.RecordLaws.{section_at-ext, section_back, shdrs_bytes-at}
use Rattle.dw_base.proofs.WrittenContents.{contents-full, empty-same, new_head-moves, new_head-same, new_head-stays, part-is}
use Rattle.dw_base.proofs.WrittenHeaders.{header_places, limit-fits}
use Rattle.dw_base.proofs.WrittenLaws.{laid-kept, shoff_place-within, with_table-front, with_table-table}
use Rattle.dw_base.proofs.WrittenSections.{laid_tabulate-kept, moved-byte, moved-length, new_head-fits, new_heads-at}

-- what is known of a front, n sections and the file of them
pub record IsLaid (c : Class) (o : Order) (front : List ℕ) (f : ℕ → Part) (n : ℕ) : Type 0 where
  pub header : ehdr_size c ≤ length front
  pub class_is : class_of front ≡ c
  pub order_is : order_of front ≡ o
  pub fields : (i : ℕ) → i < n → FieldsFit (shdr_fields c (f i).head)
  pub small : length (laid_out c o front (tabulate f n)) ≤ output_limit

abbrev pub file_of : Class → Order → List ℕ → (ℕ → Part) → ℕ → List ℕ
file_of c o front f n = laid_out c o front (tabulate f n)

abbrev pub laid_of : List ℕ → (ℕ → Part) → ℕ → List ℕ
laid_of front f n = laid front (tabulate f n)

abbrev pub heads_of : List ℕ → (ℕ → Part) → ℕ → List Section
heads_of front f n = new_heads front (tabulate f n)

abbrev pub table_place : Class → List ℕ → (ℕ → Part) → ℕ → ℕ
table_place c front f n = length (before_table c (laid_of front f n))

out-is : (c : Class) (o : Order) (front : List ℕ) (f : ℕ → Part) (n : ℕ) → file_of c o front f n ≡ with_table c o (laid_of front f n) (heads_of front f n)
unfolding laid_out
out-is c o front f n = refl

-- how long all is
pub record Lengths (c : Class) (o : Order) (front : List ℕ) (f : ℕ → Part) (n : ℕ) : Type 0 where
  pub header : ehdr_size c ≤ length front
  pub laid : length front ≤ length (laid_of front f n)
  pub table : length (laid_of front f n) ≤ table_place c front f n
  pub heads : length (heads_of front f n) ≡ n
  pub out : length (file_of c o front f n) ≡ table_place c front f n + n * shdr_size c
  pub small : length (file_of c o front f n) ≤ output_limit

pub lengths : (c : Class) (o : Order) (front : List ℕ) (f : ℕ → Part) (n : ℕ) → IsLaid c o front f n → Lengths c o front f n
lengths c o front f n w =
    let header = w.header in
    let longer = laid-longer front (tabulate f n) in
    let before = length-before_table c (laid_of front f n) in
    let count : length (heads_of front f n) ≡ n = length-new_heads front (tabulate f n) ∙ length-tabulate f n in
    record {
      header = header;
      laid = omega arith;
      table = omega arith;
      heads = count;
      out = rw (out-is c o front f n)
          (length-with_table c o (laid_of front f n) (heads_of front f n) (omega arith) ∙ rw (count, sym before) refl);
      small = w.small;
    }

-- the front is as it was but for the place of the section headers
pub out-kept : (c : Class) (o : Order) (front : List ℕ) (f : ℕ → Part) (n k : ℕ) → IsLaid c o front f n → k < length front
    → (k < shoff_place c) ⊎ (shoff_place c + word_size c ≤ k) → slice_index (file_of c o front f n) k ≡ slice_index front k
out-kept c o front f n k w lt outside =
    let size = lengths c o front f n w in
    rw (out-is c o front f n)
    (with_table-front c o (laid_of front f n) (heads_of front f n) k (omega arith) (omega arith) outside
    ∙ laid-kept front (tabulate f n) k (omega arith))

pub out-spelled : (c : Class) (o : Order) (front : List ℕ) (f : ℕ → Part) (n : ℕ) (q : Order) (at m : ℕ) → IsLaid c o front f n
    → at + m ≤ ehdr_size c → (at + m ≤ shoff_place c) ⊎ (shoff_place c + word_size c ≤ at)
    → spelled q (file_of c o front f n) at m ≡ spelled q front at m
out-spelled c o front f n q at m w inside (inl before) =
    let header = w.header in
    spelled-ext q (file_of c o front f n) front at at m (λ k lt. out-kept c o front f n (at + k) w (omega arith) (inl (omega arith)))
out-spelled c o front f n q at m w inside (inr behind) =
    let header = w.header in
    spelled-ext q (file_of c o front f n) front at at m (λ k lt. out-kept c o front f n (at + k) w (omega arith) (inr (omega arith)))

-- class and order are those of the front
class-front : (c : Class) (o : Order) (front : List ℕ) (f : ℕ → Part) (n : ℕ) → IsLaid c o front f n → class_of (file_of c o front f n) ≡ class_of front
unfolding class_of
class-front c o front f n w =
    let places = header_places c in
    rw (out-spelled c o front f n Little 4 1 w (omega arith) (inl (omega arith))) refl

order-front : (c : Class) (o : Order) (front : List ℕ) (f : ℕ → Part) (n : ℕ) → IsLaid c o front f n → order_of (file_of c o front f n) ≡ order_of front
unfolding order_of
order-front c o front f n w =
    let places = header_places c in
    rw (out-spelled c o front f n Little 5 1 w (omega arith) (inl (omega arith))) refl

pub class-same : (c : Class) (o : Order) (front : List ℕ) (f : ℕ → Part) (n : ℕ) → IsLaid c o front f n → class_of (file_of c o front f n) ≡ c
class-same c o front f n w = class-front c o front f n w ∙ w.class_is

pub order-same : (c : Class) (o : Order) (front : List ℕ) (f : ℕ → Part) (n : ℕ) → IsLaid c o front f n → order_of (file_of c o front f n) ≡ o
order-same c o front f n w = order-front c o front f n w ∙ w.order_is

-- where the section headers stand
pub shoff-is : (c : Class) (o : Order) (front : List ℕ) (f : ℕ → Part) (n : ℕ) → IsLaid c o front f n → e_shoff (file_of c o front f n) ≡ table_place c front f n
unfolding e_shoff with_table
shoff-is c o front f n w =
    let size = lengths c o front f n w in
    let within = shoff_place-within c in
    let both = length-append (before_table c (laid_of front f n)) (shdrs_bytes c o (heads_of front f n)) in
    rw (class-same c o front f n w, order-same c o front f n w, out-is c o front f n)
    (spelled-with_number o (before_table c (laid_of front f n) ++ shdrs_bytes c o (heads_of front f n))
    (shoff_place c) (word_size c) (table_place c front f n) (omega arith) (limit-fits c (table_place c front f n) (omega arith)))

pub table-there : (c : Class) (o : Order) (front : List ℕ) (f : ℕ → Part) (n : ℕ) → IsLaid c o front f n → e_shoff (file_of c o front f n) ≢ 0
table-there c o front f n w none =
    let size = lengths c o front f n w in
    let least = ehdr_size-least c in
    let at = shoff-is c o front f n w in
    omega arith

-- what is laid in front of a section, and with it
abbrev pub before_of : List ℕ → (ℕ → Part) → ℕ → List ℕ
before_of front f i = laid front (tabulate f i)

laid-with : (front : List ℕ) (f : ℕ → Part) (n i : ℕ) → i < n → length (extended (before_of front f i) (f i)) ≤ length (laid_of front f n)
laid-with front f n i lt = rw laid-append at (laid_tabulate-longer front f (suc i) n (omega arith))

-- the section header of a number is the new one
pub nth-is : (c : Class) (o : Order) (front : List ℕ) (f : ℕ → Part) (n i : ℕ) → IsLaid c o front f n → i < n
    → nth_section (file_of c o front f n) i ≡ new_head (length (before_of front f i)) (f i)
unfolding nth_section
nth-is c o front f n i w lt =
    let size = lengths c o front f n w in
    let out = file_of c o front f n in
    let table = table_place c front f n in
    let before = before_of front f i in
    let head = new_head (length before) (f i) in
    let stands : get_or (heads_of front f n) i head ≡ head = new_heads-at front f n i head lt in
    let with = laid-with front f n i lt in
    let fit : FieldsFit (shdr_fields c head) =
    new_head-fits c (length before) (f i) (w.fields i lt) (λ moves. let long = moved-length before (f i) moves in omega arith) in
    rw (class-same c o front f n w, order-same c o front f n w, shoff-is c o front f n w)
    (section_at-ext c o out (shdr_bytes c o head ++ []) (table + i * shdr_size c) 0
    (λ k inside.
    let split : table + i * shdr_size c + k ≡ table + (i * shdr_size c + k) = omega arith in
    let none : 0 + k ≡ k = omega arith in
    rw (split, none, append-nil (shdr_bytes c o head), out-is c o front f n)
    (with_table-table c o (laid_of front f n) (heads_of front f n) (i * shdr_size c + k) (omega arith)
    ∙ shdrs_bytes-at c o (heads_of front f n) i k head (omega arith) inside
    ∙ ap (λ (s : Section). slice_index (shdr_bytes c o s) k) stands))
    ∙ section_back c o head [] fit)

pub head-same : (c : Class) (o : Order) (front : List ℕ) (f : ℕ → Part) (n i : ℕ) → IsLaid c o front f n → i < n
    → SameButPlace (f i).head (nth_section (file_of c o front f n) i)
head-same c o front f n i w lt =
    subst (λ (s : Section). SameButPlace (f i).head s) (sym (nth-is c o front f n i w lt)) (new_head-same (length (before_of front f i)) (f i))

pub head-stays : (c : Class) (o : Order) (front : List ℕ) (f : ℕ → Part) (n i : ℕ) → IsLaid c o front f n → i < n → (f i).moves ≡ false
    → nth_section (file_of c o front f n) i ≡ (f i).head
head-stays c o front f n i w lt stays = nth-is c o front f n i w lt ∙ new_head-stays (length (before_of front f i)) (f i) stays

-- a section that is laid out lies in the file
pub moved-lies : (c : Class) (o : Order) (front : List ℕ) (f : ℕ → Part) (n i : ℕ) → IsLaid c o front f n → i < n → (f i).moves ≡ true
    → (nth_section (file_of c o front f n) i).offset + (nth_section (file_of c o front f n) i).size ≤ length (file_of c o front f n)
moved-lies c o front f n i w lt moves =
    let size = lengths c o front f n w in
    let before = before_of front f i in
    let with = laid-with front f n i lt in
    let long = moved-length before (f i) moves in
    let head = nth-is c o front f n i w lt ∙ new_head-moves (length before) (f i) moves in
    subst (λ (s : Section). s.offset + s.size ≤ length (file_of c o front f n)) (sym head) (omega arith)

-- and holds its body
moved-bytes : (c : Class) (o : Order) (front : List ℕ) (f : ℕ → Part) (n i : ℕ) → IsLaid c o front f n → i < n → (f i).moves ≡ true
    → take (length (f i).body) (drop (length (before_of front f i) + padding (length (before_of front f i)) (f i).head.align) (file_of c o front f n)) ≡ (f i).body
moved-bytes c o front f n i w lt moves =
    let before = before_of front f i in
    let pad = padding (length before) (f i).head.align in
    let size = lengths c o front f n w in
    let long = moved-length before (f i) moves in
    let with = laid-with front f n i lt in
    let within = shoff_place-within c in
    let behind = laid_tabulate-longer front f 0 i (omega arith) in
    let step : laid front (tabulate f (suc i)) ≡ extended before (f i) = laid-append front (tabulate f i) (f i ∷ []) in
    let next : length (laid front (tabulate f (suc i))) ≡ length (extended before (f i)) = ap (λ (xs : List ℕ). length xs) step in
    part-is (file_of c o front f n) (f i).body (length before + pad) (omega arith)
    (λ k below.
    rw (out-is c o front f n)
    (with_table-front c o (laid_of front f n) (heads_of front f n) (length before + pad + k) (omega arith) (omega arith) (inr (omega arith))
    ∙ laid_tabulate-kept front f (suc i) n (length before + pad + k) (omega arith) (omega arith)
    ∙ ap (λ (xs : List ℕ). slice_index xs (length before + pad + k)) step
    ∙ moved-byte before (f i) k moves))

pub moved-contents : (c : Class) (o : Order) (front : List ℕ) (f : ℕ → Part) (n i : ℕ) → IsLaid c o front f n → i < n → (f i).moves ≡ true
    → is_empty_kind (f i).head ≡ false → contents_of (file_of c o front f n) i ≡ (f i).body
unfolding contents_of
moved-contents c o front f n i w lt moves full =
    let out = file_of c o front f n in
    let before = before_of front f i in
    let new = empty-same (f i).head (nth_section out i) (head-same c o front f n i w lt).kind in
    let head = nth-is c o front f n i w lt ∙ new_head-moves (length before) (f i) moves in
    contents-full out (nth_section out i) (new ∙ full)
    ∙ ap (λ (h : Section). take h.size (drop h.offset out)) head
    ∙ moved-bytes c o front f n i w lt moves
