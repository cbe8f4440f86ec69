-- SPDX-License-Identifier: MIT
-- How the first word of a line is read: what private contracts say.
use Rattle.std.specs.Prelude.{ℕ, List, Option, Some, None, bytes_eq, codes, if◌then◌else◌}
use Rattle.rrc_trace.specs.declared.read.form.Form.{Form}
use Rattle.rrc_trace.specs.declared.read.form.Form.TheVariants as forms

-- what a line is, by its first word
abbrev pub form_of : List ℕ → Option Form
form_of word =
    if bytes_eq word (codes "put") then Some forms.Put
    else if bytes_eq word (codes "ask") then Some forms.Ask
    else if bytes_eq word (codes "fail") then Some forms.Fail
    else if bytes_eq word (codes "response") then Some forms.Response
    else if bytes_eq word (codes "fetch") then Some forms.Fetch
    else if bytes_eq word (codes "sweep") then Some forms.Sweep
    else if bytes_eq word (codes "checkpoint") then Some forms.Checkpoint
    else None
