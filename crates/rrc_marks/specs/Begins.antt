-- SPDX-License-Identifier: MIT
-- What a try to begin a mark does.
use Rattle.std.specs.Prelude.{◌≡◌, ℕ}
use Rattle.rrc_marks.specs.declared.rule.View.{View}
use Rattle.rrc_marks.specs.declared.began.Began.{Began}
use Rattle.rrc_marks.specs.declared.began.Began.TheVariants.{Mine, Taken}
use Rattle.rrc_marks.specs.Views.{after_step, after_win, Lacks}

-- by one step and no other: a mark that is won is held from then on, and was not before; one that is lost changes nothing else
abbrev pub Begins : ℕ → View → Began → View → Type 0
Begins mark old Mine new = Lacks old mark × (new ≡ after_win mark old)
Begins mark old Taken new = new ≡ after_step old
