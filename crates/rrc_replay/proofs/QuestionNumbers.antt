-- SPDX-License-Identifier: MIT
-- The question of each fetch of a trace has a number.
use Rattle.std.proofs.Common.{◌≡◌, suc, ◌+◌, ◌<◌, ◌||◌, List, [], ◌∷◌, ◌++◌, length, Option, Some, None, Bool, true, false, not, cond, refl, subst, ◌∙◌, arith, nat_lt, position}
use Rattle.std.specs.Prelude.{IfSome}
use Rattle.std.specs.List.{All, Contains, list_any, position_or_len}
use Rattle.std.proofs.lemmas.Bool.Decides.{nat_tests}
use Rattle.std.proofs.lemmas.List.Elements.{All-nil, All-cons, All-contains}
use Rattle.std.proofs.lemmas.List.Folds.{list_any-append}
use Rattle.rrc_name.specs.Key.{KeyOf, key_eq}
use Rattle.rrc_name.specs.lemmas.KeyLaws.{key_eq-laws}
use Rattle.rrc_trace.specs.declared.line.Fetch.{Fetch as FetchLine}
use Rattle.rrc_trace.specs.declared.line.Line.{Line}
use Rattle.rrc_trace.specs.declared.line.Line.TheVariants.{Fetch}
use Rattle.rrc_trace.specs.Questions.{question_of, fetched_by, with_question, questions_behind, questions_of, number_among}

-- ---- a place in a list

-- where an element passes, the first that does stands within the list
place_within : {X : Type 0} (p : X → Bool) (xs : List X) → list_any p xs ≡ true → position_or_len p xs < length xs
place_within p [] any = absurd cc
place_within p (x ∷ xs) any = by (p x) any (place_within p xs)
  where
    by : (is : Bool) → (is || list_any p xs) ≡ true → (list_any p xs ≡ true → position_or_len p xs < length xs)
        → cond (not is) (1 + position_or_len p xs) 0 < suc (length xs)
    by true some behind = omega arith
    by false some behind = omega (arith, behind some)

has_place : {X : Type 0} (p : X → Bool) (xs : List X) → list_any p xs ≡ true → position p xs ≡ None → ⊥
has_place p xs any none =
    let inside : position_or_len p xs < length xs = place_within p xs any in
    let within : nat_lt (position_or_len p xs) (length xs) ≡ true = grind (arith, nat_tests) in
    let some : Some (position_or_len p xs) ≡ None = rw within at none in absurd cc

-- ---- questions of lines

-- what is among questions is among them and one more
kept : (p : KeyOf → Bool) (questions : List KeyOf) (question : Option KeyOf) → list_any p questions ≡ true → list_any p (with_question questions question) ≡ true
kept p questions None any = any
kept p questions (Some question) any = by (list_any (key_eq question) questions)
  where
    by : (has : Bool) → list_any p (cond has questions (questions ++ question ∷ [])) ≡ true
    by true = any
    by false = list_any-append p questions (question ∷ []) ∙ rw any refl

kept_behind : (p : KeyOf → Bool) (questions : List KeyOf) (lines : List Line) → list_any p questions ≡ true → list_any p (questions_behind questions lines) ≡ true
kept_behind p questions [] any = any
kept_behind p questions (line ∷ lines) any = kept_behind p (with_question questions (fetched_by line)) lines (kept p questions (fetched_by line) any)

-- a question that was added is among them
added : (questions : List KeyOf) (question : KeyOf) → list_any (key_eq question) (with_question questions (Some question)) ≡ true
added questions question = by (list_any (key_eq question) questions) refl
  where
    by : (has : Bool) → list_any (key_eq question) questions ≡ has → list_any (key_eq question) (cond has questions (questions ++ question ∷ [])) ≡ true
    by true at = at
    by false at = list_any-append (key_eq question) questions (question ∷ []) ∙ rw (at, key_eq-laws.refl question) refl

-- what the line fetches, if it fetches, is one of these questions
abbrev IsAmong : List KeyOf → Line → Type 0
IsAmong questions line = IfSome (fetched_by line) (λ question. list_any (key_eq question) questions ≡ true)

-- each line's question is one of those of all lines
all_among : (questions : List KeyOf) (lines : List Line) → All (IsAmong (questions_behind questions lines)) lines
all_among questions [] = All-nil (IsAmong questions)
all_among questions (line ∷ lines) =
    All-cons (IsAmong (questions_behind questions (line ∷ lines))) line lines (by (fetched_by line))
    (all_among (with_question questions (fetched_by line)) lines)
  where
    by : (fetched : Option KeyOf) → IfSome fetched (λ question. list_any (key_eq question) (questions_behind (with_question questions fetched) lines) ≡ true)
    by None = tt
    by (Some question) = kept_behind (key_eq question) (with_question questions (Some question)) lines (added questions question)

-- so it is never without a number
pub numbered : (lines : List Line) (questions : List KeyOf) (fetch : FetchLine) → questions ≡ questions_of lines → Contains lines (Fetch fetch)
    → number_among questions (question_of fetch) ≡ None → ⊥
numbered lines questions fetch are stands none =
    has_place (key_eq (question_of fetch)) (questions_of lines)
    (All-contains (IsAmong (questions_of lines)) lines (Fetch fetch) (all_among [] lines) stands)
    (subst (λ (qs : List KeyOf). number_among qs (question_of fetch) ≡ None) are none)
