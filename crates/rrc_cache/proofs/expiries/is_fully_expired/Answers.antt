-- SPDX-License-Identifier: MIT
use Rattle.std.proofs.Common.{◌≡◌, Some, None, ap, sym, ◌∙◌}
use Rattle.std.specs.Prelude.{nat_le}
use Rattle.std.specs.Option.{option_map}
use Rattle.rrc_name.specs.KeyRef.{key_of}
use Rattle.rrc_history.specs.Past.{entry_at}
use Rattle.rrc_history.specs.Right.{is_swept}
use Rattle.rrc_cache.specs.Clocked.{aged_in}
use Rattle.rrc_cache.proofs.Timed.{expired_from}
use Rattle.rrc_cache.proofs.expiries.is_fully_expired.Goals as goal

pub returns-in-Some : goal.returns-in-Some
returns-in-Some c =
    let found : entry_at (key_of c.args.key) c.args.map.now.entries ≡ Some c.in-Some.aged.entry.now = sym c.get.ensures.entry ∙ ap (option_map aged_in) c.in-Some.is in
    ap (λ time. nat_le time c.args.moment) c.full_expiry_of.ensures
    ∙ (expired_from c.args.stale c.args.moment c.in-Some.aged.entry.now c.requires.moment ∙ ap (λ held. is_swept c.args.stale held c.args.moment) (sym found))

pub returns-in-None : goal.returns-in-None
returns-in-None c =
    let none : entry_at (key_of c.args.key) c.args.map.now.entries ≡ None = sym c.get.ensures.entry ∙ ap (option_map aged_in) c.in-None.is in
    ap (λ held. is_swept c.args.stale held c.args.moment) (sym none)
