-- SPDX-License-Identifier: MIT
-- The laws of whole histories: they keep the laws of trust and of life, and their calls determine them.
use Rattle.std.specs.Prelude.{◌≡◌, List, [], ◌∷◌}
use Rattle.rrc_history.specs.declared.event.Event.{Event}
use Rattle.rrc_history.specs.declared.event.Event.TheVariants.{Offered, Asked, Swept}
use Rattle.rrc_history.specs.declared.snapshot.Snapshot.{Snapshot}
use Rattle.rrc_history.specs.Right.{IsLegal}
use Rattle.rrc_history.specs.Laws.{KeepsLaws}

-- each event keeps the laws; the newest comes first
abbrev pub AllKeepLaws : Snapshot → List Event → Type 0
AllKeepLaws snapshot [] = Unit {0}
AllKeepLaws snapshot (event ∷ past) = KeepsLaws snapshot past event × AllKeepLaws snapshot past

-- every legal history keeps the laws
abbrev pub LegalKeepsLaws : Type 0
LegalKeepsLaws = (snapshot : Snapshot) (past : List Event) → IsLegal snapshot past → AllKeepLaws snapshot past

-- the same call, whatever became of it
abbrev pub IsSameCall : Event → Event → Type 0
IsSameCall (Offered outcome tag offer evicted) (Offered other_outcome other_tag other other_evicted) = (tag ≡ other_tag) × (offer ≡ other)
IsSameCall (Asked tag ask reply) (Asked other_tag other other_reply) = (tag ≡ other_tag) × (ask ≡ other)
IsSameCall (Swept tag moment gone) (Swept other_tag other other_gone) = (tag ≡ other_tag) × (moment ≡ other)
IsSameCall event other = ⊥

-- the same calls in the same order
abbrev pub AreSameCalls : List Event → List Event → Type 0
AreSameCalls [] [] = Unit {0}
AreSameCalls (event ∷ past) (other ∷ others) = IsSameCall event other × AreSameCalls past others
AreSameCalls past others = ⊥

-- two legal histories of the same calls are one
abbrev pub CallsDetermineHistory : Type 0
CallsDetermineHistory = (snapshot : Snapshot) (past others : List Event) → IsLegal snapshot past → IsLegal snapshot others → AreSameCalls past others → past ≡ others
