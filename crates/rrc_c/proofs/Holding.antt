-- SPDX-License-Identifier: MIT
-- What is said of the shelf that a handle holds.
use Rattle.std.proofs.Common.{◌≡◌, ℕ, sym, subst, Option, Some}
use Rattle.std.specs.Prelude.{IfSome}
use Rattle.rrc_share.specs.CacheShelf.{CacheShelfOf}

-- what a call says of the shelf that it took and of its number
pub told_of_held : (held : Option CacheShelfOf) (shelf : CacheShelfOf) (told number : ℕ) (fact : CacheShelfOf → ℕ → Type 0) → Some shelf ≡ held → told ≡ number → fact shelf number
    → IfSome held (λ one. fact one told)
told_of_held held shelf told number fact is same holds = subst (λ one. IfSome one (λ it. fact it told)) is (subst (fact shelf) (sym same) holds)
