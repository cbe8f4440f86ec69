-- SPDX-License-Identifier: MIT
use Rattle.std.proofs.Common.{refl}
use Rattle.rrc_sets.specs.declared.query.QueryFault.TheVariants.{OtherIdentifier, IsQuery, OtherQuestion}
use Rattle.rrc_shelf.proofs.Querying.{other_told, unread_refused}
use Rattle.rrc_shelf.proofs.response.answer_to.Goals as goal

pub returns-in-Err-NoResponse-clause-refused : goal.returns-in-Err-NoResponse-clause-refused
returns-in-Err-NoResponse-clause-refused c =
    unread_refused c.args.query.now c.args.octets.now c.in-Err-NoResponse.field-0 c.in-Err-NoResponse.field-0-0 c.in-Err-NoResponse.field-0-is c.in-Err-NoResponse.ensures.err

pub returns-in-Err-OtherIdentifier-clause-none : goal.returns-in-Err-OtherIdentifier-clause-none
returns-in-Err-OtherIdentifier-clause-none c =
    other_told c.args.query.now c.args.octets.now c.in-Err-OtherIdentifier.field-0 OtherIdentifier c.in-Err-OtherIdentifier.field-0-is refl c.in-Err-OtherIdentifier.ensures.err

pub returns-in-Err-IsQuery-clause-none : goal.returns-in-Err-IsQuery-clause-none
returns-in-Err-IsQuery-clause-none c =
    other_told c.args.query.now c.args.octets.now c.in-Err-IsQuery.field-0 IsQuery c.in-Err-IsQuery.field-0-is refl c.in-Err-IsQuery.ensures.err

pub returns-in-Err-OtherQuestion-clause-none : goal.returns-in-Err-OtherQuestion-clause-none
returns-in-Err-OtherQuestion-clause-none c =
    other_told c.args.query.now c.args.octets.now c.in-Err-OtherQuestion.field-0 OtherQuestion c.in-Err-OtherQuestion.field-0-is refl c.in-Err-OtherQuestion.ensures.err
