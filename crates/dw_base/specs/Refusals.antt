-- Refusals: a kind and a place. Section 0 stands for the whole file.
use Rattle.std.specs.Prelude.{ℕ, ⊤}
use Rattle.dw_base.specs.declared.fault.Kind.{Kind}
use Rattle.dw_base.specs.declared.fault.Refusal.{Refusal}
use Rattle.dw_base.specs.declared.fault.Fault.{Fault}
use Rattle.dw_base.specs.declared.fault.Fault.TheVariants.{NoMemory, Refused}

-- the refusal of this kind at this place
abbrev pub at : Kind → ℕ → ℕ → Refusal
at kind section offset = record { kind = kind; section = section; offset = offset }

-- a fault is want of memory, or a refusal of which this holds
abbrev pub Blames : (Refusal → Type 0) → Fault → Type 0
Blames fails NoMemory = ⊤
Blames fails (Refused r) = fails r
