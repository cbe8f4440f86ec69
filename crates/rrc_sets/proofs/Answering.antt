-- SPDX-License-Identifier: MIT
-- Why octets bring nothing that is relevant to a query.
use Rattle.std.proofs.Common.{◌≡◌, ◌⊎◌, List, ℕ, None, Result, Ok, Err, inl, inr, refl, ap}
use Rattle.std.specs.Prelude.{IfErr}
use Rattle.rrc_wire.specs.declared.fault.WireFault.{WireFault}
use Rattle.rrc_wire.specs.declared.fault.WireFault.TheVariants as wire
use Rattle.rrc_wire.specs.FirstFault.{FirstFault}
use Rattle.rrc_sets.specs.declared.query.Query.{Query}
use Rattle.rrc_sets.specs.declared.query.QueryFault.TheVariants.{Memory}
use Rattle.rrc_sets.specs.Queries.{front_mismatch, of_wire}
use Rattle.rrc_sets.specs.RelevantMessage.{IsNoResponse, IsOfOtherQuery}

-- the first fault is told, and a want of memory as one
pub unread : (query : Query) (octets : List ℕ) (first : WireFault) → front_mismatch query octets ≡ None → (first ≡ wire.Memory) ⊎ FirstFault octets first
    → (of_wire first ≡ Memory) ⊎ (IsNoResponse query octets (of_wire first) ⊎ IsOfOtherQuery query octets (of_wire first))
unread query octets first front (inl memory) = inl (ap of_wire memory)
unread query octets wire.Memory front (inr is) = inl refl
unread query octets wire.Short front (inr is) = inr (inl (record { front = front; first = wire.Short; is_first = is; told = refl }))
unread query octets wire.ReservedLabel front (inr is) = inr (inl (record { front = front; first = wire.ReservedLabel; is_first = is; told = refl }))
unread query octets wire.BadPointer front (inr is) = inr (inl (record { front = front; first = wire.BadPointer; is_first = is; told = refl }))
unread query octets wire.NameTooLong front (inr is) = inr (inl (record { front = front; first = wire.NameTooLong; is_first = is; told = refl }))
unread query octets wire.BadData front (inr is) = inr (inl (record { front = front; first = wire.BadData; is_first = is; told = refl }))
unread query octets wire.NotResponse front (inr is) = inr (inl (record { front = front; first = wire.NotResponse; is_first = is; told = refl }))
unread query octets wire.NotOneQuestion front (inr is) = inr (inl (record { front = front; first = wire.NotOneQuestion; is_first = is; told = refl }))
unread query octets wire.TooLong front (inr is) = inr (inl (record { front = front; first = wire.TooLong; is_first = is; told = refl }))

-- what follows from a fault follows from each that comes
pub map_err : {A B : Type 0} (result : Result A B) (X Y : B → Type 0) → ((error : B) → X error → Y error) → IfErr result X → IfErr result Y
map_err (Ok value) X Y step none = tt
map_err (Err error) X Y step is = step error is
