-- SPDX-License-Identifier: MIT
use Rattle.rrc_name.proofs.TextLaw.{name_in-tells, name_or_fault}
use Rattle.rrc_name.proofs.laws.one_name_or_fault.Goals as goal

pub returns-clause-one : goal.returns-clause-one
returns-clause-one c = name_or_fault

pub returns-clause-read : goal.returns-clause-read
returns-clause-read c = name_in-tells
