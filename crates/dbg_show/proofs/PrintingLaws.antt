-- What is printed one after another.
use Rattle.std.proofs.Common.{◌≡◌, ℕ, ◌+◌, ◌-◌, ◌≤◌, min, List, [], ◌++◌, length, take, drop, Option, Some, None, refl, sym, ap, ◌∙◌, subst, arith, append_assoc, append-nil}
use Rattle.std.proofs.Math.Seq.{take-append-add, drop-append-add}
use Rattle.std.proofs.lemmas.List.{take_all, drop_all, take_min, length-append, length-drop, length-take-le, take-append-drop, take-append-le, drop-append-le}
use Rattle.dw_base.specs.declared.fault.Fault.TheVariants.{NoMemory}
use Rattle.file_tree.specs.Causes.{Rose}
use Rattle.file_tree.specs.Heard.{Heard, grown, Said}
use Rattle.dbg_show.specs.Printing.{Printed, CutBy, Cut, Goes}
use Rattle.dbg_show.specs.declared.show_err.ShowErr.{ShowErr}
use Rattle.dbg_show.specs.declared.show_err.ShowErr.TheVariants as err

-- bytes that grow
grown-nil : (b : Option (List ℕ)) → b ≡ grown b []
grown-nil None = refl
grown-nil (Some b) = ap (λ x. Some x) (sym (append-nil b))

grown-twice : (b : Option (List ℕ)) (s t : List ℕ) → grown (grown b s) t ≡ grown b (s ++ t)
grown-twice None s t = refl
grown-twice (Some b) s t = ap (λ x. Some x) (append_assoc b s t)

-- two parts of a text, one behind the other
take-two : (t : List ℕ) (c d : ℕ) → c ≤ length t → take (c + d) t ≡ take c t ++ take d (drop c t)
take-two t c d le =
    let size : length (take c t) ≡ c = length-take-le c t le in
    ap (take (c + d)) (sym (take-append-drop c t)) ∙ ap (λ (k : ℕ). take (k + d) (take c t ++ drop c t)) (sym size) ∙ take-append-add (take c t) (drop c t) d

drop-two : (t : List ℕ) (c d : ℕ) → c ≤ length t → drop (c + d) t ≡ drop d (drop c t)
drop-two t c d le =
    let size : length (take c t) ≡ c = length-take-le c t le in
    ap (drop (c + d)) (sym (take-append-drop c t)) ∙ ap (λ (k : ℕ). drop (k + d) (take c t ++ drop c t)) (sym size) ∙ drop-append-add (take c t) (drop c t) d

-- a text with another behind it, of which a part went out before the other came
rest-with : (a b t between : List ℕ) (c : ℕ) → t ≡ a ++ b → c ≤ length a → between ≡ drop c a → between ++ b ≡ drop c t
rest-with a b t between c e le r = ap (λ (x : List ℕ). x ++ b) r ∙ sym (drop-append-le c a b le) ∙ ap (drop c) (sym e)

front-with : (a b t : List ℕ) (c : ℕ) → t ≡ a ++ b → c ≤ length a → take c a ≡ take c t
front-with a b t c e le = sym (ap (take c) e ∙ take-append-le c a b le)

room-with : (a b t : List ℕ) (c : ℕ) → t ≡ a ++ b → c ≤ length a → c ≤ length t
room-with a b t c e le =
    let size : length t ≡ length (a ++ b) = ap length e in
    let sum : length (a ++ b) ≡ length a + length b = length-append a b in
    omega (arith, size, sum, le)

both-inside : (a b t between : List ℕ) (c d : ℕ) → t ≡ a ++ b → c ≤ length a → between ≡ drop c a → d ≤ length (between ++ b) → c + d ≤ length t
both-inside a b t between c d e le r in_rest =
    let size : length (between ++ b) ≡ length (drop c t) = ap length (rest-with a b t between c e le r) in
    let left : length (drop c t) ≡ length t - c = length-drop c t in
    let room : c ≤ length t = room-with a b t c e le in
    omega (arith, size, left, room, in_rest)

both-out : (a b t between : List ℕ) (c d : ℕ) → t ≡ a ++ b → c ≤ length a → between ≡ drop c a → take c a ++ take d (between ++ b) ≡ take (c + d) t
both-out a b t between c d e le r =
    ap (λ (x : List ℕ). x ++ take d (between ++ b)) (front-with a b t c e le) ∙ ap (λ (x : List ℕ). take c t ++ take d x) (rest-with a b t between c e le r)
    ∙ sym (take-two t c d (room-with a b t c e le))

both-left : (a b t between : List ℕ) (c d : ℕ) → t ≡ a ++ b → c ≤ length a → between ≡ drop c a → drop d (between ++ b) ≡ drop (c + d) t
both-left a b t between c d e le r = ap (drop d) (rest-with a b t between c e le r) ∙ sym (drop-two t c d (room-with a b t c e le))

bytes-twice : (first mid last : Option (List ℕ)) (s t u : List ℕ) → mid ≡ grown first s → last ≡ grown mid t → s ++ t ≡ u → last ≡ grown first u
bytes-twice first mid last s t u m l e = l ∙ ap (λ (b : Option (List ℕ)). grown b t) m ∙ grown-twice first s t ∙ ap (grown first) e

-- a cause that came later
rose-before : (a b c : ℕ) → a ≤ b → Rose b c → Rose a c
rose-before a b c later rose = omega (arith, rose)

cut-before : (old mid new : Heard) (e : ShowErr) → old.faults ≤ mid.faults → CutBy mid new e → CutBy old new e
cut-before old mid new err.Sink later cause = rose-before old.faults mid.faults new.faults later cause
cut-before old mid new (err.Fault f) later cause = cause

-- the buffer goes out
pub buffer-out : (t behind : List ℕ) (old new : Heard) → Said t old new → new.bytes ≡ grown old.bytes t → behind ≡ [] → Printed [] t old new behind
buffer-out t behind old new said done none =
    let whole : t ++ [] ≡ t = append-nil t in
    let size : length (t ++ []) ≡ length t = ap length whole in
    let out : take (length t) (t ++ []) ≡ t = ap (take (length t)) whole ∙ take_all (length t) t (omega arith) in
    let left : drop (length t) (t ++ []) ≡ [] = ap (drop (length t)) whole ∙ drop_all (length t) t (omega arith) in
    record {
      begun = record { count = length t; inside = omega (arith, size); bytes = done ∙ ap (grown old.bytes) (sym out); later = said.later };
      rest = none ∙ sym left;
    }

pub buffer-fails : (t : List ℕ) (old new : Heard) (e : ShowErr) → Said t old new → Rose old.faults new.faults → e ≡ err.Sink → Cut t old new e
buffer-fails t old new e said rose is = record {
  begun = record {
    count = min said.count (length t);
    inside = omega arith;
    bytes = said.bytes ∙ ap (grown old.bytes) (sym (take_min said.count t));
    later = said.later;
  };
  cause = subst (λ (x : ShowErr). CutBy old new x) (sym is) rose;
}

-- it stays
pub buffer-stays : (t : List ℕ) (h : Heard) → Printed [] t h h t
buffer-stays t h = record {
  begun = record { count = 0; inside = omega arith; bytes = grown-nil h.bytes; later = omega arith };
  rest = sym (append-nil t);
}

pub ruleset write_laws = (buffer-out, buffer-fails, buffer-stays)

-- a line goes to the buffer, and the buffer out where it is full
pub line-printed : (line before mid behind : List ℕ) (old new : Heard) → mid ≡ before ++ line → Printed [] mid old new behind → Printed line before old new behind
line-printed line before mid behind old new e p =
    let same : mid ++ [] ≡ before ++ line = append-nil mid ∙ e in
    let size : length (mid ++ []) ≡ length (before ++ line) = ap length same in
    record {
      begun = record {
        count = p.begun.count;
        inside = omega (arith, size, p.begun.inside);
        bytes = p.begun.bytes ∙ ap (λ (x : List ℕ). grown old.bytes (take p.begun.count x)) same;
        later = p.begun.later;
      };
      rest = p.rest ∙ ap (drop p.begun.count) same;
    }

pub line-cut : (line before mid : List ℕ) (old new : Heard) (e : ShowErr) → mid ≡ before ++ line → Cut mid old new e → Cut (before ++ line) old new e
line-cut line before mid old new e is c = subst (λ (x : List ℕ). Cut x old new e) is c

pub line-unmade : (t : List ℕ) (h : Heard) (e : ShowErr) → e ≡ err.Fault NoMemory → Cut t h h e
line-unmade t h e is = record {
  begun = record { count = 0; inside = omega arith; bytes = grown-nil h.bytes; later = omega arith };
  cause = subst (λ (x : ShowErr). CutBy h h x) (sym is) refl;
}

pub ruleset line_laws = (line-printed, line-cut, line-unmade)

-- one text behind another
pub printed-then : (a b before between behind : List ℕ) (old mid new : Heard) → Printed a before old mid between → Printed b between mid new behind
    → Printed (a ++ b) before old new behind
printed-then a b before between behind old mid new p q =
    let whole : before ++ (a ++ b) ≡ (before ++ a) ++ b = sym (append_assoc before a b) in
    record {
      begun = record {
        count = p.begun.count + q.begun.count;
        inside = both-inside (before ++ a) b (before ++ (a ++ b)) between p.begun.count q.begun.count whole p.begun.inside p.rest q.begun.inside;
        bytes = bytes-twice old.bytes mid.bytes new.bytes (take p.begun.count (before ++ a)) (take q.begun.count (between ++ b))
            (take (p.begun.count + q.begun.count) (before ++ (a ++ b))) p.begun.bytes q.begun.bytes
            (both-out (before ++ a) b (before ++ (a ++ b)) between p.begun.count q.begun.count whole p.begun.inside p.rest);
        later = omega (arith, p.begun.later, q.begun.later);
      };
      rest = q.rest ∙ both-left (before ++ a) b (before ++ (a ++ b)) between p.begun.count q.begun.count whole p.begun.inside p.rest;
    }

pub cut-then : (a b before between : List ℕ) (old mid new : Heard) (e : ShowErr) → Printed a before old mid between → Cut (between ++ b) mid new e
    → Cut (before ++ (a ++ b)) old new e
cut-then a b before between old mid new e p c =
    let whole : before ++ (a ++ b) ≡ (before ++ a) ++ b = sym (append_assoc before a b) in
    record {
      begun = record {
        count = p.begun.count + c.begun.count;
        inside = both-inside (before ++ a) b (before ++ (a ++ b)) between p.begun.count c.begun.count whole p.begun.inside p.rest c.begun.inside;
        bytes = bytes-twice old.bytes mid.bytes new.bytes (take p.begun.count (before ++ a)) (take c.begun.count (between ++ b))
            (take (p.begun.count + c.begun.count) (before ++ (a ++ b))) p.begun.bytes c.begun.bytes
            (both-out (before ++ a) b (before ++ (a ++ b)) between p.begun.count c.begun.count whole p.begun.inside p.rest);
        later = omega (arith, p.begun.later, c.begun.later);
      };
      cause = cut-before old mid new e p.begun.later c.cause;
    }

pub cut-more : (a b before : List ℕ) (old new : Heard) (e : ShowErr) → Cut (before ++ a) old new e → Cut (before ++ (a ++ b)) old new e
cut-more a b before old new e c =
    let whole : before ++ (a ++ b) ≡ (before ++ a) ++ b = sym (append_assoc before a b) in
    record {
      begun = record {
        count = c.begun.count;
        inside = room-with (before ++ a) b (before ++ (a ++ b)) c.begun.count whole c.begun.inside;
        bytes = c.begun.bytes ∙ ap (grown old.bytes) (front-with (before ++ a) b (before ++ (a ++ b)) c.begun.count whole c.begun.inside);
        later = c.begun.later;
      };
      cause = c.cause;
    }

pub ruleset then_laws = (printed-then, cut-then, cut-more)

-- a text is printed from its front
pub goes-start : (total before : List ℕ) (h : Heard) → Goes total total before h h before
goes-start total before h = record {
  front = [];
  joined = refl;
  printed = buffer-stays before h;
}

pub goes-more : (total x rest before between behind : List ℕ) (old mid new : Heard) → Goes total (x ++ rest) before old mid between → Printed x between mid new behind
    → Goes total rest before old new behind
goes-more total x rest before between behind old mid new g p = record {
  front = g.front ++ x;
  joined = g.joined ∙ sym (append_assoc g.front x rest);
  printed = printed-then g.front x before between behind old mid new g.printed p;
}

pub goes-over : (total before behind : List ℕ) (old new : Heard) → Goes total [] before old new behind → Printed total before old new behind
goes-over total before behind old new g = subst (λ (x : List ℕ). Printed x before old new behind) (sym (g.joined ∙ append-nil g.front)) g.printed

pub goes-cut : (total x rest before between : List ℕ) (old mid new : Heard) (e : ShowErr) → Goes total (x ++ rest) before old mid between → Cut (between ++ x) mid new e
    → Cut (before ++ total) old new e
goes-cut total x rest before between old mid new e g c =
    let whole : (g.front ++ x) ++ rest ≡ total = append_assoc g.front x rest ∙ sym g.joined in
    subst (λ (t : List ℕ). Cut (before ++ t) old new e) whole
    (cut-more (g.front ++ x) rest before old new e (cut-then g.front x before between old mid new e g.printed c))
