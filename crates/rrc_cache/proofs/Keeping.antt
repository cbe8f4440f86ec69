-- SPDX-License-Identifier: MIT
-- The past of a part, and the number of its next event.
use Rattle.std.proofs.Common.{◌≡◌, ◌+◌, ◌∷◌, ap}
use Rattle.std.proofs.lemmas.List.{length-reverse}
use Rattle.rrc_history.specs.declared.event.Event.{Event}
use Rattle.rrc_history.specs.Past.{number_after}
use Rattle.rrc_cache.specs.Lean.{with_event}
use Rattle.rrc_cache.specs.Part.{PartOf, past_of, next_number}
use Rattle.rrc_cache.proofs.Turned.{reverse-push}

pub past-more : (part : PartOf) (event : Event) → past_of (with_event part event) ≡ event ∷ past_of part
past-more part event = reverse-push part.events event

pub number-of : (part : PartOf) → number_after part.snapshot (past_of part) ≡ next_number part
number-of part = ap (λ n. part.snapshot.first + n) (length-reverse part.events)
