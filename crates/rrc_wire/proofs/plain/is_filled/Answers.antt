-- SPDX-License-Identifier: MIT
use Rattle.std.proofs.Common.{◌≡◌, ◌-◌, ◌∙◌, List, ℕ, length, ap, subst, arith, take, drop, nat_eq}
use Rattle.std.proofs.lemmas.List.{take_rest}
use Rattle.rrc_wire.specs.Shown.{as_layout}
use Rattle.rrc_wire.specs.Plain.{AreNamesThen}
use Rattle.rrc_wire.proofs.PlainParts.{too_short, no_names_fill, last_octets_fill}
use Rattle.rrc_wire.proofs.plain.is_filled.Goals as goal

-- the octets behind the first, as a slice has them
from_before : (octets : List ℕ) (n before : ℕ) → n ≡ before → take (length octets - n) (drop n octets) ≡ drop before octets
from_before octets n before is = take_rest octets n ∙ ap (λ k. drop k octets) is

pub returns-then-before-octets : goal.returns-then-before-octets
returns-then-before-octets c = too_short (as_layout c.args.layout) c.args.octets.now (omega (arith, c.from-before.ensures))

pub returns-in-None : goal.returns-in-None
returns-in-None c =
    let layout = as_layout c.args.layout in
    no_names_fill layout c.args.octets.now
    (subst (λ rest. (behind : List ℕ) → AreNamesThen layout.names rest behind → ⊥) (from_before c.args.octets.now c.from-before.result layout.before c.from-before.ensures) c.in-None.ensures.none)

pub returns-in-Some : goal.returns-in-Some
returns-in-Some c =
    let layout = as_layout c.args.layout in let behind = c.in-Some.behind.now in
    ap (nat_eq (length behind)) c.from.ensures
    ∙ last_octets_fill layout c.args.octets.now behind (omega (arith, c.from-before.ensures))
    (subst (λ rest. AreNamesThen layout.names rest behind) (from_before c.args.octets.now c.from-before.result layout.before c.from-before.ensures) c.in-Some.ensures.names)
