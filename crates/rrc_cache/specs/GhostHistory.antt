-- SPDX-License-Identifier: MIT
-- What a history that only proofs read becomes of a step.
use Rattle.std.specs.Prelude.{None}
use Rattle.rrc_history.specs.declared.event.Event.TheVariants.{Offered, Asked, Swept}
use Rattle.rrc_history.specs.Past.{reply_to}
use Rattle.rrc_history.specs.Views.{ask_in, held_in}
use Rattle.rrc_cache.specs.declared.history.StepRef.{StepRef}
use Rattle.rrc_cache.specs.declared.history.StepRef.TheVariants as step
use Rattle.rrc_cache.specs.Evicting.{evicting_offer}
use Rattle.rrc_cache.specs.Lean.{next_chapter, with_event}
use Rattle.rrc_cache.specs.Part.{PartOf, past_of}

-- the history with the event of a call, or in its next chapter; the event of an ask tells the reply
-- that the history gives it
abbrev pub after_step : PartOf → StepRef → PartOf
after_step part (step.Offered tag offer outcome evicted) = with_event part (Offered outcome tag offer.now evicted.now)
after_step part (step.Asked tag ask) = with_event part (Asked tag (ask_in ask) (reply_to part.snapshot (past_of part) (ask_in ask)))
after_step part (step.Swept tag moment gone) = with_event part (Swept tag moment gone.now)
after_step part (step.Ended tag held moment outcome) = with_event part (Offered outcome tag (evicting_offer (held_in held) moment) None)
after_step part (step.Closed opening) = next_chapter part opening.now
