-- SPDX-License-Identifier: MIT
use Rattle.std.proofs.Common.{rules}
use Rattle.rrc_trace.specs.Lines.{kept_of}
use Rattle.rrc_trace.proofs.read.line.kept_in.Goals as goal

pub returns-in_err-trust : goal.returns-in_err-trust
unfolding kept_of
returns-in_err-trust c = search rules fits 100

pub returns-in_err-ttl : goal.returns-in_err-ttl
unfolding kept_of
returns-in_err-ttl c = search rules fits 100

pub returns-in_err-items : goal.returns-in_err-items
unfolding kept_of
returns-in_err-items c = search rules fits 100

pub returns-then-has_field : goal.returns-then-has_field
unfolding kept_of
returns-then-has_field c = search rules fits 100

pub returns-in_err-shared : goal.returns-in_err-shared
unfolding kept_of
returns-in_err-shared c = search rules fits 100

pub returns : goal.returns
unfolding kept_of
returns c = search rules fits 100
