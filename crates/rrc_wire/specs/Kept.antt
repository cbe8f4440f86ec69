-- SPDX-License-Identifier: MIT
-- Records that are kept, as contracts see them (RFC 1035 3.2.1).
use Rattle.std.specs.Prelude.{◌≡◌, ℕ, true, List}
use Rattle.rrc_wire.specs.Layout.{is_kept}
use Rattle.rrc_wire.specs.Plain.{IsPlain}

-- a record: its owner, its class, its type, its time to live as written, and its data
pub record RrOf : Type 0 where
  pub owner : List ℕ
  pub class : ℕ
  pub rtype : ℕ
  pub ttl : ℕ
  pub rdata : List ℕ

-- data as a kept record has them: its type is one that is kept in its class, and they are plain data of that type
pub record AreKept (rtype class : ℕ) (rdata : List ℕ) : Type 0 where
  pub kept : is_kept rtype class ≡ true
  pub plain : IsPlain rtype rdata
