-- Items whose texts are joined that are printed state their octets.
use Rattle.type_data.proofs.Common.{List, RawItem, append-nil, subst, sym, ℕ}
use Rattle.type_data.specs.Kinds.Joined.{PrintsOneItem, StatesJoined}

pub one_item_states : (Prints States : List ℕ → List ℕ → Type 0) → ((text octets : List ℕ) → Prints text octets → States text octets) → (items : List RawItem) (octets : List ℕ) → PrintsOneItem Prints items octets → StatesJoined States items octets
one_item_states Prints States goes items octets printed =
    subst (λ items. StatesJoined States items octets) (sym printed.2) (record {
      text = printed.0;
      joined = record { each = (tt, tt); joins = sym (append-nil printed.0) };
      stands = goes printed.0 octets printed.1;
    })
