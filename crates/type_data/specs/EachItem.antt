-- What items state where each states its own octets, one after another.
use Rattle.std.specs.Prelude.{◌≡◌, ℕ, ◌⊎◌, List, [], ◌∷◌, map}
use Rattle.std.specs.List.{AllZip, flat_map}
use Rattle.zone_rdata.specs.Spelling.{RawItem, bare}
use Rattle.type_data.specs.declared.fault.WordsFault.{WordsFault}

-- each item states its part of the octets
pub record EachStates (States : RawItem → List ℕ → Type 0) (items : List RawItem)
    (octets : List ℕ) : Type 0 where
  pub parts : List (List ℕ)
  pub each : AllZip States items parts
  pub value : octets ≡ flat_map (λ part. part) parts

-- a bare item is printed for each part of the octets
pub record EachIsPrinted (Prints : List ℕ → List ℕ → Type 0) (items : List RawItem)
    (octets : List ℕ) : Type 0 where
  pub texts : List (List ℕ)
  pub parts : List (List ℕ)
  pub each : AllZip Prints texts parts
  pub printed : items ≡ map bare texts
  pub value : octets ≡ flat_map (λ part. part) parts

-- the first item fails, or it states octets and a later one is the first that fails
abbrev pub OneFails : (RawItem → List ℕ → Type 0) → (RawItem → WordsFault → Type 0)
    → List RawItem → WordsFault → Type 0
OneFails States Fails [] fault = ⊥
OneFails States Fails (item ∷ items) fault =
    Fails item fault
    ⊎ ((octets : List ℕ) × States item octets × OneFails States Fails items fault)
