-- SPDX-License-Identifier: MIT
-- The numbers of faults, and their texts.
use Rattle.std.specs.Prelude.{ℕ, List, ◌++◌, codes}
use Rattle.std.specs.Fmt.{decimal}
use Rattle.rrc_history.specs.declared.offer.OfferFault.{OfferFault}
use Rattle.rrc_history.specs.declared.offer.OfferFault.TheVariants.{WrongBody}
use Rattle.rrc_history.specs.declared.snapshot.SnapshotFault.{SnapshotFault}
use Rattle.rrc_history.specs.declared.snapshot.SnapshotFault.TheVariants as snapshot
use Rattle.rrc_history.specs.declared.chains.ChainFault.{ChainFault}
use Rattle.rrc_history.specs.declared.chains.ChainFault.TheVariants.{NumberGap, NotTheSameContents, Memory}
use Rattle.rrc_history.specs.declared.images.ClassFault.{ClassFault}
use Rattle.rrc_history.specs.declared.images.ClassFault.TheVariants as image

-- the number that a fault of an offer has
abbrev pub number_of : OfferFault → ℕ
number_of (WrongBody key body) = 1

-- the number of a fault of a snapshot
abbrev pub snapshot_fault_number : SnapshotFault → ℕ
snapshot_fault_number snapshot.TooMany = 1
snapshot_fault_number snapshot.RepeatedKey = 2
snapshot_fault_number snapshot.BadNumber = 3
snapshot_fault_number snapshot.WrongBody = 4
snapshot_fault_number snapshot.BadMoment = 5

-- the number of a fault of a chain
abbrev pub chain_fault_number : ChainFault → ℕ
chain_fault_number (NumberGap place) = 1
chain_fault_number (NotTheSameContents place) = 2
chain_fault_number Memory = 3

-- the number of the fault of a chapter's image
abbrev pub class_fault_number : ClassFault → ℕ
class_fault_number image.Memory = 1

-- the text of a fault of a snapshot
abbrev pub snapshot_fault_text : SnapshotFault → List ℕ
snapshot_fault_text snapshot.TooMany = codes "as many entries as the capacity stand before an entry"
snapshot_fault_text snapshot.RepeatedKey = codes "an entry has the key of one before it"
snapshot_fault_text snapshot.BadNumber = codes "an entry has the number of one before it, or one that is not below the first event's"
snapshot_fault_text snapshot.WrongBody = codes "the body of an entry does not fit its key"
snapshot_fault_text snapshot.BadMoment = codes "the moment of an entry is above 2^40 seconds"

-- the text of a fault of a chain
abbrev pub chain_fault_text : ChainFault → List ℕ
chain_fault_text (NumberGap place) = codes "chapter " ++ (decimal place ++ codes " does not follow the one before it")
chain_fault_text (NotTheSameContents place) = codes "chapter " ++ (decimal place ++ codes " does not begin with what the one before it ends with")
chain_fault_text Memory = codes "memory was refused"
