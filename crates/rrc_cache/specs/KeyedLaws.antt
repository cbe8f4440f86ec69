-- SPDX-License-Identifier: MIT
-- The comparison of hashed keys is an equivalence, and equal ones are hashed alike.
use Rattle.std.specs.Prelude.{◌≡◌, true, nat_eq}
use Rattle.std.specs.Cmp.{first_so, second_so, IsEquivalence, nat_eq_equiv, on_equiv}
use Rattle.std.specs.Hash.{Alike}
use Rattle.std.proofs.Common.{ap}
use Rattle.std.proofs.lemmas.Bool.Decides.{Decides-eqb}
use Rattle.std.proofs.lemmas.Cmp.{and_equiv}
use Rattle.rrc_name.specs.Key.{key_eq}
use Rattle.rrc_name.specs.lemmas.KeyLaws.{key_eq-laws, key_eq-same}
use Rattle.rrc_cache.specs.declared.hashed.HashedKey.{HashedKey}
use Rattle.rrc_cache.specs.Keyed.{hashed_by, hashed_eq}

pub hashed_eq-laws : IsEquivalence hashed_eq
hashed_eq-laws = and_equiv (on_equiv (λ (k : HashedKey). k.hash) nat_eq_equiv) (on_equiv (λ (k : HashedKey). k.key) key_eq-laws)

-- equal keys are one
pub hashed_eq-same : (a b : HashedKey) → hashed_eq a b ≡ true → a ≡ b
hashed_eq-same a b h =
    let hashes : a.hash ≡ b.hash = (Decides-eqb a.hash b.hash).0 (first_so (nat_eq a.hash b.hash) (key_eq a.key b.key) h) in
    let keys : a.key ≡ b.key = key_eq-same a.key b.key (second_so (nat_eq a.hash b.hash) (key_eq a.key b.key) h) in
    λ i. record { hash = hashes i; key = keys i }

pub hashed_by-alike : Alike hashed_eq hashed_by
hashed_by-alike = record { fed = λ a b h. ap hashed_by (hashed_eq-same a b h) }
