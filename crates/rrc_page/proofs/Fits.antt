-- SPDX-License-Identifier: MIT
-- The events of a legal history fit.
use Rattle.std.proofs.Common.{◌≡◌, ◌+◌, List, [], ◌∷◌, ◌++◌, reverse, refl, sym, ap, subst, ◌∙◌, arith}
use Rattle.std.proofs.lemmas.List.{reverse-append, append_assoc, append-nil}
use Rattle.rrc_history.specs.declared.event.Event.{Event}
use Rattle.rrc_history.specs.declared.snapshot.Snapshot.{Snapshot}
use Rattle.rrc_history.specs.Past.{number_after}
use Rattle.rrc_history.specs.Right.{IsLegal}
use Rattle.rrc_cache.proofs.Written.{right_timely}
use Rattle.rrc_page.specs.Fitting.{Fit}

-- a past, and events behind it
abbrev onto : List Event → List Event → List Event
onto past [] = past
onto past (event ∷ events) = onto (event ∷ past) events

reverse_is : (past events : List Event) → reverse events ++ past ≡ onto past events
reverse_is past [] = refl
reverse_is past (event ∷ events) =
    ap (λ l. l ++ past) (reverse-append (event ∷ []) events) ∙ (append_assoc (reverse events) (event ∷ []) past ∙ reverse_is (event ∷ past) events)

legal_past : (snapshot : Snapshot) (past events : List Event) → IsLegal snapshot (onto past events) → IsLegal snapshot past
legal_past snapshot past [] legal = legal
legal_past snapshot past (event ∷ events) legal = (legal_past snapshot (event ∷ past) events legal).1

fit_onto : (snapshot : Snapshot) (past events : List Event) → IsLegal snapshot (onto past events) → Fit (number_after snapshot past) events
fit_onto snapshot past [] legal = tt
fit_onto snapshot past (event ∷ events) legal =
    let right = (legal_past snapshot (event ∷ past) events legal).0 in
    let next : number_after snapshot (event ∷ past) ≡ number_after snapshot past + 1 = omega arith in
    (right.numbered, right_timely snapshot past event right, subst (λ n. Fit n events) next (fit_onto snapshot (event ∷ past) events legal))

pub fit : (snapshot : Snapshot) (events : List Event) → IsLegal snapshot (reverse events) → Fit snapshot.first events
fit snapshot events legal =
    let none : number_after snapshot [] ≡ snapshot.first = omega arith in
    subst (λ n. Fit n events) none
    (fit_onto snapshot [] events (subst (λ l. IsLegal snapshot l) (sym (append-nil (reverse events)) ∙ reverse_is [] events) legal))
