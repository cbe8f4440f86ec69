-- SPDX-License-Identifier: MIT
-- the events so far are drawn, and what fits the whole script is these and what fits the rest of it
use Rattle.std.proofs.Common.{ℕ, List, take, drop, map}
use Rattle.rrc_history.specs.declared.event.Event.{Event}
use Rattle.rrc_collate.specs.Draws.{Fits, IsDrawn}
use Rattle.rrc_collate.proofs.DrawLemmas.{FitsOn}
use Rattle.rrc_collate.proofs.draws.draw.Given as goal

abbrev pub invariant-loop-place : goal.invariant-loop-place
invariant-loop-place l = record {
  drawn : IsDrawn l.initial.parts l.worker l.line (take l.place l.script) (map (λ event. event.now) l.events.items) l.parts;
  rest : (events : List Event) (behind : ℕ → List Event) → Fits l.initial.parts l.worker l.line 0 l.script events behind
      → FitsOn l.parts l.worker l.line l.place (drop l.place l.script) (map (λ event. event.now) l.events.items) events behind;
}
