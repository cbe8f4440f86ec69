-- SPDX-License-Identifier: MIT
use Rattle.std.proofs.Common.{◌∙◌, ap, subst}
use Rattle.rrc_share.specs.CacheShelf.{CacheShelfOf}
use Rattle.rrc_share.specs.Trims.{Evicts, IsLeanRefusal, Trims}
use Rattle.std.specs.Prelude.{IfErr, IfOk}
use Rattle.rrc_share.proofs.Trimming.{evicts_none, evicts_then, met, trim_refused, trims}
use Rattle.rrc_share.proofs.cache_shelf.CacheShelf.trim.Goals as goal

pub returns-clause-evicts : goal.returns-clause-evicts
returns-clause-evicts c =
    subst (λ (old : CacheShelfOf). Evicts c.args.tag c.args.moment old.shelf c.evict.new.shelf.shelf) c.count_octets.ensures
    (evicts_then c.args.tag c.args.moment c.count_octets.new.self.shelf c.begin.new.shelf.shelf c.evict.new.shelf.shelf (c.begin.ensures.evicts c.args.moment) c.evict.ensures.evicts)

pub returns-clause-ok : goal.returns-clause-ok
returns-clause-ok c =
    subst (λ (old : CacheShelfOf). IfOk c.evict.result (Trims c.args.limit c.args.most old.shelf c.evict.new.shelf.shelf)) c.count_octets.ensures
    (trims c.args.limit c.args.most c.count_octets.new.self.shelf c.begin.new.shelf.shelf c.evict.new.shelf.shelf c.evict.result c.in_ok-begin.ensures.ok c.evict.ensures.ok)

pub returns-then-moment-gt-LAST_MOMENT-clause-evicts : goal.returns-then-moment-gt-LAST_MOMENT-clause-evicts
returns-then-moment-gt-LAST_MOMENT-clause-evicts c = evicts_none c.args.tag c.args.moment c.args.self.now.shelf

pub returns-in_err-begin-clause-evicts : goal.returns-in_err-begin-clause-evicts
returns-in_err-begin-clause-evicts c =
    subst (λ (old : CacheShelfOf). Evicts c.args.tag c.args.moment old.shelf c.begin.new.shelf.shelf) c.count_octets.ensures (c.begin.ensures.evicts c.args.moment)

pub returns-clause-lean : goal.returns-clause-lean
returns-clause-lean c = λ lean.
    subst (λ (old : CacheShelfOf). IfErr c.evict.result (IsLeanRefusal old.shelf.part c.evict.new.shelf.shelf.part c.args.moment)) c.count_octets.ensures
    (trim_refused c.count_octets.new.self.shelf.part c.evict.new.shelf.shelf.part c.args.moment c.evict.result
    (c.evict.ensures.lean (c.begin.ensures.records ∙ (ap (λ (old : CacheShelfOf). old.records) c.count_octets.ensures ∙ lean))))

pub returns-in_err-begin-clause-lean : goal.returns-in_err-begin-clause-lean
returns-in_err-begin-clause-lean c = λ lean.
    met c.from_residual.result c.in_err-begin.field-0.0 (IsLeanRefusal c.args.self.now.shelf.part c.begin.new.shelf.shelf.part c.args.moment) c.from_residual.ensures.1
    (subst (λ (old : CacheShelfOf). IsLeanRefusal old.shelf.part c.begin.new.shelf.shelf.part c.args.moment c.in_err-begin.field-0.0) c.count_octets.ensures
    (c.in_err-begin.ensures.lean (ap (λ (old : CacheShelfOf). old.records) c.count_octets.ensures ∙ lean) c.args.moment))
