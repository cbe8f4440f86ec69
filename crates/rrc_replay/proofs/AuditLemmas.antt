-- SPDX-License-Identifier: MIT
-- A legal history has no event that is not right.
use Rattle.std.proofs.Common.{◌≡◌, ℕ, List, [], ◌∷◌, ◌++◌, reverse, ap, subst, ◌∙◌, append_assoc}
use Rattle.std.proofs.lemmas.List.{reverse-append}
use Rattle.rrc_history.specs.declared.event.Event.{Event}
use Rattle.rrc_history.specs.declared.snapshot.Snapshot.{Snapshot}
use Rattle.rrc_history.specs.Audits.{IsFirstBad}
use Rattle.rrc_history.specs.Right.{IsLegal, IsRight}

-- an event of a legal past is right after those before it
right_then : (snapshot : Snapshot) (behind : List Event) (event : Event) (past : List Event) → IsLegal snapshot (behind ++ event ∷ past) → IsRight snapshot past event
right_then snapshot [] event past legal = legal.0
right_then snapshot (later ∷ behind) event past legal = right_then snapshot behind event past legal.1

-- what comes before an event and what comes behind it, the newest first
turned : (before : List Event) (event : Event) (behind : List Event) → reverse (before ++ event ∷ behind) ≡ reverse behind ++ event ∷ reverse before
turned before event behind =
    reverse-append before (event ∷ behind)
    ∙ (ap (λ events. events ++ reverse before) (reverse-append (event ∷ []) behind) ∙ append_assoc (reverse behind) (event ∷ []) (reverse before))

pub never_bad : (snapshot : Snapshot) (events : List Event) (place : ℕ) → IsLegal snapshot (reverse events) → IsFirstBad snapshot events place → ⊥
never_bad snapshot events place legal bad =
    let all : reverse events ≡ reverse bad.behind ++ bad.event ∷ reverse bad.before = ap reverse bad.are ∙ turned bad.before bad.event bad.behind in
    bad.bad (right_then snapshot (reverse bad.behind) bad.event (reverse bad.before) (subst (IsLegal snapshot) all legal))
