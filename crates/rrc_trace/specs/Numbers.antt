-- SPDX-License-Identifier: MIT
-- How moments, and types whose data are kept, are read: what private contracts say. What they are stands in Grammar.
use Rattle.std.specs.Prelude.{ℕ, List, Option, Some, None, if◌then◌else◌}
use Rattle.rrc_history.specs.Lives.{LAST_MOMENT}
use Rattle.rrc_wire.specs.Layout.{is_kept}
use Rattle.rrc_text.specs.declared.kind.Kind.{Kind}
use Rattle.rrc_text.specs.Gives.{◌>>=◌}
use Rattle.rrc_text.specs.Numbers.{number_of, at_most, kind_of}

abbrev pub moment_of : List ℕ → Option ℕ
moment_of field = at_most LAST_MOMENT (number_of field)

-- a type and a class whose data are kept
abbrev pub kept_kind : Kind → Option Kind
kept_kind kind = if is_kept kind.rtype kind.class then Some kind else None

abbrev pub rtype_of : List ℕ → Option Kind
rtype_of field = kind_of field >>= kept_kind
