-- SPDX-License-Identifier: MIT
-- Questions, and the numbers under which a map has them.
use Rattle.std.proofs.Common.{◌≡◌, ℕ, suc, ◌≤◌, ◌||◌, List, [], ◌∷◌, ◌++◌, length, length-append, Option, Some, None, Bool, true, false, cond, refl, sym, ap, ◌∙◌, arith, position}
use Rattle.std.specs.List.{list_any}
use Rattle.std.specs.Option.{option_map, is_some}
use Rattle.std.specs.Ordering.{is_eq}
use Rattle.std.specs.BTreeMap as map
use Rattle.rrc_name.specs.Key.{KeyOf, key_eq, key_order}
use Rattle.rrc_name.specs.lemmas.KeyLaws.{key_eq-laws, key_eq-same, key_order-ties}
use Rattle.rrc_trace.specs.Questions.{with_question, questions_behind, fetched_by, FindsNumbers}
use Rattle.rrc_trace.specs.declared.line.Line.{Line}
use Rattle.rrc_text.proofs.SearchLemmas.{position-cons}

-- there is a place exactly where one passes
position-any : {X : Type 0} (p : X → Bool) (xs : List X) → is_some (position p xs) ≡ list_any p xs
position-any p [] = refl
position-any p (x ∷ xs) = ap is_some (position-cons p x xs) ∙ by (p x) (position p xs) (position-any p xs)
  where
    by : (is : Bool) (found : Option ℕ) → is_some found ≡ list_any p xs → is_some (cond is (Some 0) (option_map suc found)) ≡ (is || list_any p xs)
    by true found behind = refl
    by false None behind = behind
    by false (Some place) behind = behind

-- the place in a list with one more at the end
position-push : {X : Type 0} (p : X → Bool) (xs : List X) (y : X)
    → position p (xs ++ y ∷ []) ≡ cond (is_some (position p xs)) (position p xs) (cond (p y) (Some (length xs)) None)
position-push p [] y = by (p y) refl
  where
    by : (is : Bool) → p y ≡ is → position p (y ∷ []) ≡ cond is (Some 0) None
    by true is = rw is refl
    by false is = rw is refl
position-push p (x ∷ xs) y =
    position-cons p x (xs ++ y ∷ []) ∙ (ap (λ (found : Option ℕ). cond (p x) (Some 0) (option_map suc found)) (position-push p xs y)
    ∙ (by (p x) (position p xs) (p y) ∙ ap (λ (found : Option ℕ). cond (is_some found) found (cond (p y) (Some (suc (length xs))) None)) (sym (position-cons p x xs))))
  where
    by : (is : Bool) (found : Option ℕ) (last : Bool)
        → cond is (Some 0) (option_map suc (cond (is_some found) found (cond last (Some (length xs)) None)))
        ≡ cond (is_some (cond is (Some 0) (option_map suc found))) (cond is (Some 0) (option_map suc found)) (cond last (Some (suc (length xs))) None)
    by true found last = refl
    by false None true = refl
    by false None false = refl
    by false (Some place) last = refl

-- a question that has a number is no new one
pub question-old : (numbers : map.BTreeMap KeyOf ℕ) (questions : List KeyOf) (question : KeyOf) → FindsNumbers numbers questions
    → is_some (map.get key_order numbers question) ≡ true → with_question questions (Some question) ≡ questions
question-old numbers questions question finds is =
    ap (λ has. cond has questions (questions ++ question ∷ [])) (sym (position-any (key_eq question) questions) ∙ (sym (ap is_some (finds question)) ∙ is))

-- and one that has none is
pub question-new : (numbers : map.BTreeMap KeyOf ℕ) (questions : List KeyOf) (question : KeyOf) → FindsNumbers numbers questions
    → is_some (map.get key_order numbers question) ≡ false → with_question questions (Some question) ≡ questions ++ question ∷ []
question-new numbers questions question finds is =
    ap (λ has. cond has questions (questions ++ question ∷ [])) (sym (position-any (key_eq question) questions) ∙ (sym (ap is_some (finds question)) ∙ is))

-- a map has all numbers again once it has the next one for a question that is new
pub numbers-push : (numbers new : map.BTreeMap KeyOf ℕ) (questions : List KeyOf) (question : KeyOf) → FindsNumbers numbers questions
    → is_some (map.get key_order numbers question) ≡ false
    → ((other : KeyOf) → map.get key_order new other ≡ cond (is_eq (key_order question other)) (Some (length questions)) (map.get key_order numbers other))
    → FindsNumbers new (questions ++ question ∷ [])
numbers-push numbers new questions question finds is_new updates = λ other.
    updates other
    ∙ (ap (λ is. cond is (Some (length questions)) (map.get key_order numbers other)) (tied other)
    ∙ (ap (λ (found : Option ℕ). cond (key_eq other question) (Some (length questions)) found) (finds other)
    ∙ (by other (key_eq other question) refl (position (key_eq other) questions) refl ∙ sym (position-push (key_eq other) questions question))))
  where
    tied : (other : KeyOf) → is_eq (key_order question other) ≡ key_eq other question
    tied other = sym (key_order-ties question other) ∙ key_eq-laws.symm question other

    by : (other : KeyOf) (is : Bool) → key_eq other question ≡ is → (found : Option ℕ) → position (key_eq other) questions ≡ found
        → cond is (Some (length questions)) found ≡ cond (is_some found) found (cond is (Some (length questions)) None)
    by other true same None at = refl
    by other true same (Some place) at =
        let none : is_some (position (key_eq other) questions) ≡ false =
        ap (λ (q : KeyOf). is_some (position (key_eq q) questions)) (key_eq-same other question same) ∙ (ap is_some (sym (finds question)) ∙ is_new) in
        let no : true ≡ false = ap is_some (sym at) ∙ none in absurd cc
    by other false same None at = refl
    by other false same (Some place) at = refl

-- the questions of lines and one more
pub questions-push : (questions : List KeyOf) (lines : List Line) (line : Line)
    → questions_behind questions (lines ++ line ∷ []) ≡ with_question (questions_behind questions lines) (fetched_by line)
questions-push questions [] line = refl
questions-push questions (first ∷ lines) line = questions-push (with_question questions (fetched_by first)) lines line

-- one more question, or none, leaves no fewer
with_question-grows : (questions : List KeyOf) (question : Option KeyOf) → length questions ≤ length (with_question questions question)
with_question-grows questions None = omega arith
with_question-grows questions (Some question) = by (list_any (key_eq question) questions)
  where
    by : (has : Bool) → length questions ≤ length (cond has questions (questions ++ question ∷ []))
    by true = omega arith
    by false = omega (arith, length-append questions (question ∷ []))

-- more lines fetch no fewer questions
questions-grow : (questions : List KeyOf) (lines : List Line) → length questions ≤ length (questions_behind questions lines)
questions-grow questions [] = omega arith
questions-grow questions (line ∷ lines) =
    omega (arith, with_question-grows questions (fetched_by line), questions-grow (with_question questions (fetched_by line)) lines)

questions-append : (questions : List KeyOf) (lines more : List Line) → questions_behind questions (lines ++ more) ≡ questions_behind (questions_behind questions lines) more
questions-append questions [] more = refl
questions-append questions (line ∷ lines) more = questions-append (with_question questions (fetched_by line)) lines more

-- so those in front fetch few where all do
pub few-in_front : (most : ℕ) (lines more : List Line) → length (questions_behind [] (lines ++ more)) ≤ most → length (questions_behind [] lines) ≤ most
few-in_front most lines more few =
    omega (arith, few, questions-grow (questions_behind [] lines) more, ap (λ (questions : List KeyOf). length questions) (questions-append [] lines more))
