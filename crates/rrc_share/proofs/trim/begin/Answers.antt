-- SPDX-License-Identifier: MIT
use Rattle.std.proofs.Common.{refl, sym}
use Rattle.rrc_cache.specs.Part.{PartOf}
use Rattle.rrc_share.specs.Shelf.{ShelfOf}
use Rattle.rrc_share.specs.Trims.{IsLeanRefusal}
use Rattle.rrc_share.proofs.Trimming.{begin_refused, is_lasting, left_lasting, met, not_swept}
use Rattle.rrc_share.proofs.trim.begin.Goals as goal

pub returns-else-eq-clause-ok : goal.returns-else-eq-clause-ok
returns-else-eq-clause-ok c =
    is_lasting c.args.shelf.now.shelf c.next_expiry.result c.next_expiry.ensures.none c.next_expiry.ensures.some (sym c.if-eq.ensures)

pub returns-else-eq-clause-lasting : goal.returns-else-eq-clause-lasting
returns-else-eq-clause-lasting c =
    let shelf : ShelfOf = c.args.shelf.now.shelf in
    left_lasting shelf shelf c.octets.result c.octets.ensures refl
    (is_lasting shelf c.next_expiry.result c.next_expiry.ensures.none c.next_expiry.ensures.some (sym c.if-eq.ensures))

pub returns-in_ok-sweep_no_time-clause-lasting : goal.returns-in_ok-sweep_no_time-clause-lasting
returns-in_ok-sweep_no_time-clause-lasting c =
    left_lasting c.args.shelf.now.shelf c.sweep_no_time.new.shelf.shelf c.octets.result c.octets.ensures (c.sweep_no_time.ensures.evicts 0).rules c.in_ok-sweep_no_time.ensures.ok

pub returns-in_err-sweep_no_time-clause-lean : goal.returns-in_err-sweep_no_time-clause-lean
returns-in_err-sweep_no_time-clause-lean c = λ lean moment.
    let part : PartOf = c.args.shelf.now.shelf.part in
    met c.from_residual.result c.in_err-sweep_no_time.field-0.0 (IsLeanRefusal part c.sweep_no_time.new.shelf.shelf.part moment) c.from_residual.ensures.1
    (begin_refused part c.sweep_no_time.new.shelf.shelf.part moment c.in_err-sweep_no_time.field-0.0 (c.in_err-sweep_no_time.ensures.lean lean)
    (not_swept part c.next_expiry.result c.next_expiry.ensures.progress (sym c.if-eq.ensures)))
