-- Conditions in an order, each with its fault.

-- the fault of the first condition that doesn't hold: of this one, or of those after it
pub data Unless {E : Type 0} (Holds : Type 0) (own : E) (next : E → Type 0) : E → Type 0 where
  fails : (Holds → ⊥) → Unless Holds own next own
  holds : {fault : E} → Holds → next fault → Unless Holds own next fault

-- nothing is left that has a fault
abbrev pub NoFault : {E : Type 0} → E → Type 0
NoFault fault = ⊥
