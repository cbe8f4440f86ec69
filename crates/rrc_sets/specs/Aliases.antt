-- SPDX-License-Identifier: MIT
-- Where the aliases of an answer lead (RFC 2308 1).
use Rattle.std.specs.Prelude.{ℕ, zero, suc, List, [], ◌∷◌, Bool, ◌&&◌, ◌||◌, ◌==◌, if◌then◌else◌, Option, Some, None, find, option_map}
use Rattle.std.specs.Option.{option_map_or}
use Rattle.rrc_name.specs.Wire.{same_name}
use Rattle.rrc_wire.specs.declared.record.Rr.{Rr}
use Rattle.rrc_wire.specs.declared.message.Message.{Message}

-- whether a record is of a type, under a name
abbrev pub is_of : ℕ → List ℕ → Rr → Bool
is_of rtype name rr = rr.rtype == rtype && same_name rr.owner name

-- the name that a name is an alias of: the data of its first CNAME record
abbrev pub target_of : List Rr → List ℕ → Option (List ℕ)
target_of answer name = option_map (λ rr. rr.rdata) (find (is_of 5 name) answer)

-- the last of a chain of aliases that begins with a name and has at most so many names
unfoldable pub end_of_chain : ℕ → List Rr → List ℕ → Option (List ℕ)
end_of_chain zero answer name = None
end_of_chain (suc names) answer name = option_map_or (end_of_chain names answer) (target_of answer name) (Some name)

-- the name that an answer ends with: 16 aliases behind the question's name at most (ours), and none where aliases were asked for
abbrev pub final_name : Message → Option (List ℕ)
final_name message =
    let question = message.question in
    if question.qtype == 5 || question.qtype == 255 then Some question.name else end_of_chain 17 message.answer question.name

-- the names of a chain of aliases that begins with a name: that one, and so many behind it at most
unfoldable pub chain : ℕ → List Rr → List ℕ → List (List ℕ)
chain zero answer name = name ∷ []
chain (suc aliases) answer name = name ∷ option_map_or (chain aliases answer) (target_of answer name) []

-- the names that an answer is about: the question's and at most so many aliases behind it, and none where aliases were asked for
abbrev pub question_names : ℕ → Message → List (List ℕ)
question_names aliases message =
    let question = message.question in
    if question.qtype == 5 || question.qtype == 255 then question.name ∷ [] else chain aliases message.answer question.name
