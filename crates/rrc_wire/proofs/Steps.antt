-- SPDX-License-Identifier: MIT
-- A step of a reader that did not fail.
use Rattle.std.proofs.Common.{◌≡◌, ℕ, zero, suc, ◌+◌, ◌≤◌, Bool, true, false, cond, List, [], ◌++◌, length, Result, Ok, Err, refl, sym, ap, ◌∙◌, append_assoc, arith, nat_lt, nat_le, eqb}
use Rattle.std.proofs.lemmas.Bool.Decides.{nat_tests}
use Rattle.std.proofs.lemmas.List.{append-nil}
use Rattle.rrc_wire.specs.declared.fault.WireFault.{WireFault}
use Rattle.rrc_wire.specs.declared.fault.WireFault.TheVariants.{Short}
use Rattle.rrc_wire.specs.Reading.{◌>>=◌, within, times}
use Rattle.rrc_wire.specs.Grammar.{Follow, none, more}

abbrev done : {A : Type 0} → A → Result A WireFault
done x = Ok x

pub ok_is : {A : Type 0} (x y : A) → done x ≡ done y → x ≡ y
ok_is x y e = cc

-- the value of a step that did not fail
pub bind_ok : {A B : Type 0} (r : Result A WireFault) (f : A → Result B WireFault) (y : B) → (r >>= f) ≡ Ok y → (x : A) × (r ≡ Ok x) × (f x ≡ Ok y)
bind_ok (Ok x) f y e = (x, refl, e)
bind_ok (Err d) f y e = absurd cc

-- a step that does not fail, and what follows it
pub then_ok : {A B : Type 0} (r : Result A WireFault) (f : A → Result B WireFault) (x : A) (y : B) → r ≡ Ok x → f x ≡ Ok y → (r >>= f) ≡ Ok y
then_ok r f x y is next = ap (λ (q : Result _ WireFault). q >>= f) is ∙ next

-- a test that did not fail
pub test_ok : {A : Type 0} (b : Bool) (r : Result A WireFault) (fault : WireFault) (y : A) → cond b r (Err fault) ≡ Ok y → (b ≡ true) × (r ≡ Ok y)
test_ok true r fault y e = (refl, e)
test_ok false r fault y e = absurd cc

-- a test that does not fail
pub test_true : {A : Type 0} (b : Bool) (r s : Result A WireFault) → b ≡ true → cond b r s ≡ r
test_true b r s h = ap (λ (t : Bool). cond t r s) h

-- a test that lets go on
pub refused_ok : {A : Type 0} (b : Bool) (r : Result A WireFault) (fault : WireFault) (y : A) → cond b (Err fault) r ≡ Ok y → (b ≡ false) × (r ≡ Ok y)
refused_ok true r fault y e = absurd cc
refused_ok false r fault y e = (refl, e)

pub le_true : (a b : ℕ) → a ≤ b → nat_le a b ≡ true
le_true a b h = grind (arith, nat_tests)

pub true_le : (a b : ℕ) → nat_le a b ≡ true → a ≤ b
true_le a b h = grind (arith, nat_tests)

pub lt_false : (a b : ℕ) → b ≤ a → nat_lt a b ≡ false
lt_false a b h = grind (arith, nat_tests)

pub false_lt : (a b : ℕ) → nat_lt a b ≡ false → b ≤ a
false_lt a b h = grind (arith, nat_tests)

pub eq_true : (a b : ℕ) → a ≡ b → eqb a b ≡ true
eq_true a b h = grind (arith, nat_tests)

pub true_eq : (a b : ℕ) → eqb a b ≡ true → a ≡ b
true_eq a b h = grind (arith, nat_tests)

pub record IsWithin (message : List ℕ) (place octets next : ℕ) : Type 0 where
  pub is : next ≡ place + octets
  pub inside : next ≤ length message

pub within-finds : (message : List ℕ) (place octets next : ℕ) → within message place octets ≡ Ok next → IsWithin message place octets next
within-finds message place octets next h =
    let test = test_ok (nat_le (place + octets) (length message)) (Ok (place + octets)) Short next h in
    let is : place + octets ≡ next = ok_is (place + octets) next test.1 in
    record { is = sym is; inside = omega (arith, is, true_le (place + octets) (length message) test.0) }

pub within-reads : (message : List ℕ) (place octets next : ℕ) → next ≡ place + octets → next ≤ length message → within message place octets ≡ Ok next
within-reads message place octets next is inside =
    test_true (nat_le (place + octets) (length message)) (Ok (place + octets)) (Err Short) (le_true (place + octets) (length message) (omega (arith, is)))
    ∙ ap (λ (n : ℕ). done n) (sym is)

-- pieces that were read stand one after another
pub record FoundPieces {A : Type 0} (Stands : ℕ → List A → ℕ → Type 0) (count : ℕ) (before : List A) (place : ℕ) (pieces : List A) (next : ℕ) : Type 0 where
  pub others : List A
  pub pieces_are : pieces ≡ before ++ others
  pub stand : Follow Stands count place others next

pub times-finds : {A : Type 0} (reader : ℕ → Result (List A × ℕ) WireFault) (Stands : ℕ → List A → ℕ → Type 0)
    → ((place : ℕ) (piece : List A) (next : ℕ) → reader place ≡ Ok (piece, next) → Stands place piece next)
    → (count : ℕ) (before : List A) (place : ℕ) (pieces : List A) (next : ℕ) → times reader count before place ≡ Ok (pieces, next) → FoundPieces Stands count before place pieces next
times-finds {A} reader Stands finds zero before place pieces next h =
    let same : (before, place) ≡ (pieces, next) = ok_is (before, place) (pieces, next) h in
    record {
      others = [];
      pieces_are = sym (ap (λ (p : List A × ℕ). p.0) same) ∙ sym (append-nil before);
      stand = none (sym (ap (λ (p : List A × ℕ). p.1) same));
    }
times-finds {A} reader Stands finds (suc count) before place pieces next h =
    let step = bind_ok (reader place) (λ (piece : List A × ℕ). times reader count (before ++ piece.0) piece.1) (pieces, next) h in
    let rest = times-finds reader Stands finds count (before ++ step.0.0) step.0.1 pieces next step.2 in
    record {
      others = step.0.0 ++ rest.others;
      pieces_are = rest.pieces_are ∙ append_assoc before step.0.0 rest.others;
      stand = more (finds place step.0.0 step.0.1 step.1) rest.stand refl;
    }

-- pieces that stand one after another are read
pub times-reads : {A : Type 0} (reader : ℕ → Result (List A × ℕ) WireFault) (Stands : ℕ → List A → ℕ → Type 0)
    → ((place : ℕ) (piece : List A) (next : ℕ) → Stands place piece next → reader place ≡ Ok (piece, next))
    → {count place next : ℕ} {pieces : List A} → Follow Stands count place pieces next → (before : List A) → times reader count before place ≡ Ok (before ++ pieces, next)
times-reads {A} reader Stands reads {place = place} (none is) before =
    ap (λ (octets : List A). Ok (octets, place)) (sym (append-nil before)) ∙ ap (λ (n : ℕ). Ok (before ++ [], n)) (sym is)
times-reads {A} reader Stands reads (more {count = count} {place = place} {middle = middle} {next = next} {piece = piece} {others = others} {pieces = pieces} first rest are) before =
    then_ok (reader place) (λ (piece : List A × ℕ). times reader count (before ++ piece.0) piece.1) (piece, middle) (before ++ pieces, next) (reads place piece middle first)
    (times-reads reader Stands reads rest (before ++ piece)
    ∙ ap (λ (octets : List A). Ok (octets, next)) (append_assoc before piece others ∙ ap (λ (octets : List A). before ++ octets) (sym are)))
