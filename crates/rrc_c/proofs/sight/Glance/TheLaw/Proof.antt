-- SPDX-License-Identifier: MIT
-- A `&` to a glance is made where its token is borrowed.
use base.Fraction.{full_share}
use denote.Param.Shared.{copy_shared}
use denote.Struct.Field.{RawPtr-field}
use denote.Struct.Laws.{RawPtr-copy}
use denote.Struct.Lending.{lent_at, lent_at_shr_laws, of_Lends}
use Rattle.rrc_share.specs.contracts.cache_shelf.CacheShelf.{the_row as T}
use Rattle.rrc_share.proofs.cache_shelf.CacheShelf.TheLaws.{the_row_laws as L}
use Rattle.rrc_c.proofs.Loan.{Lends-loan}
use Rattle.rrc_c.specs.contracts.sight.Glance as C
use Rattle.rrc_c.proofs.sight.Glance.TheLaw.Statement.{statement}

pub shares : statement
shares =
    of_Lends C.struct C.the_codes C.the_heap C.the_lent (λ d p. lent_at_shr_laws T L.shr_laws d.at d.shelf)
    (copy_shared RawPtr-field RawPtr-copy, tt) (λ M 𝓤 𝓛 d p. Lends-loan 𝓛 (lent_at T d.at d.shelf) (lent_at_shr_laws T L.shr_laws d.at d.shelf) d.life full_share C.the_row.lives)
