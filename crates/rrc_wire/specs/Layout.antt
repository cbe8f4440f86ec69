-- SPDX-License-Identifier: MIT
-- Which records are kept, and how the data of each type stand in a message.
use Rattle.std.specs.Prelude.{ℕ, Bool, ◌||◌, ◌&&◌, not, ◌==◌, nat_le, List, [], ◌∷◌, Option, Some, None, if◌then◌else◌}
use Rattle.std.specs.List.{list_any}

-- how many fixed octets, names and fixed octets the data of a type have
pub record LayoutOf : Type 0 where
  pub before : ℕ
  pub names : ℕ
  pub behind : ℕ

abbrev fixed : ℕ → ℕ → ℕ → Option LayoutOf
fixed before names behind = Some (record { before = before; names = names; behind = behind })

-- whether a type is one of these
abbrev pub is_one : ℕ → List ℕ → Bool
is_one rtype types = list_any (λ one. rtype == one) types

-- the data of these types are fixed octets, names and fixed octets; those of any other type are opaque octets
unfoldable pub layout_of : ℕ → Option LayoutOf
layout_of rtype =
    if is_one rtype (2 ∷ 3 ∷ 4 ∷ 5 ∷ 7 ∷ 8 ∷ 9 ∷ 12 ∷ []) then fixed 0 1 0  -- NS, MD, MF, CNAME, MB, MG, MR, PTR (RFC 1035 3.3)
    else if is_one rtype (6 ∷ []) then fixed 0 2 20  -- SOA, whose last four octets are MINIMUM (RFC 1035 3.3.13)
    else if is_one rtype (14 ∷ 17 ∷ []) then fixed 0 2 0  -- MINFO (RFC 1035 3.3.7), RP (RFC 1183 2.2)
    else if is_one rtype (15 ∷ 18 ∷ 21 ∷ []) then fixed 2 1 0  -- MX (RFC 1035 3.3.9), AFSDB, RT (RFC 1183 1, 3.3)
    else if is_one rtype (26 ∷ []) then fixed 2 2 0  -- PX (RFC 2163 4)
    else if is_one rtype (33 ∷ []) then fixed 6 1 0  -- SRV (RFC 2782)
    else None

-- every type is kept but 0, SIG, NXT, NAPTR, OPT, RRSIG, and those of questions and messages
abbrev pub is_kept_type : ℕ → Bool
is_kept_type rtype = not (is_one rtype (0 ∷ 24 ∷ 30 ∷ 35 ∷ 41 ∷ 46 ∷ []) || (nat_le 128 rtype && nat_le rtype 255))

-- the classes that are kept: IN, CH and HS (RFC 1035 3.2.4)
abbrev pub is_kept_class : ℕ → Bool
is_kept_class class = is_one class (1 ∷ 3 ∷ 4 ∷ [])

-- the data of type A begin with a name in CH (RFC 1035 3.4.1 is of IN alone), so they are not kept
abbrev pub is_kept : ℕ → ℕ → Bool
is_kept rtype class = is_kept_type rtype && (is_kept_class class && not (rtype == 1 && class == 3))
