-- SPDX-License-Identifier: MIT
-- What was held and answered before a chapter ended is held and answered after it.
use Rattle.std.specs.Prelude.{◌≡◌, List, []}
use Rattle.std.proofs.Common.{sym, ap, ◌∙◌}
use Rattle.rrc_name.specs.Key.{KeyOf}
use Rattle.rrc_name.specs.declared.slot.Slot.{Slot}
use Rattle.rrc_name.specs.declared.slot.Slot.TheVariants.{Set, Nx, Failed}
use Rattle.rrc_history.specs.declared.event.Event.{Event}
use Rattle.rrc_history.specs.declared.snapshot.Snapshot.{Snapshot}
use Rattle.rrc_history.specs.Asked.{AskOf}
use Rattle.rrc_history.specs.Chapters.{IsClosing}
use Rattle.rrc_history.specs.Judged.{reply_by}
use Rattle.rrc_history.specs.Past.{held, found, key_at, reply_to}
use Rattle.rrc_history.specs.lemmas.Chained.{held-joined}

-- what is held after a past is held from its closing
pub same_held : (snapshot closing : Snapshot) (past : List Event) → IsClosing snapshot past closing
    → (key : KeyOf) → held closing [] key ≡ held snapshot past key
same_held snapshot closing past closes key = sym (held-joined snapshot closing past closes key [])

-- what is answered after a past is answered from its closing
pub same_replies : (snapshot closing : Snapshot) (past : List Event) → IsClosing snapshot past closing
    → (ask : AskOf) → reply_to closing [] ask ≡ reply_to snapshot past ask
same_replies snapshot closing past closes ask =
    let at : (slot : Slot) → held closing [] (key_at ask slot) ≡ held snapshot past (key_at ask slot) =
    λ slot. same_held snapshot closing past closes (key_at ask slot) in
    let same : found closing [] ask ≡ found snapshot past ask =
    λ i. record { set = at (Set ask.rtype) i; nx = at Nx i; failed = at (Failed ask.rtype) i } in
    ap (λ rules. reply_by rules.stale (found closing [] ask) ask) closes.rules
    ∙ ap (λ f. reply_by snapshot.rules.stale f ask) same
