-- SPDX-License-Identifier: MIT
-- A step of a reader that failed.
use Rattle.std.proofs.Common.{◌≡◌, ℕ, zero, suc, ◌+◌, ◌<◌, Bool, true, false, cond, List, [], ◌++◌, length, Result, Ok, Err, refl, sym, ap, ◌∙◌, arith, nat_lt, nat_le, eqb}
use Rattle.std.proofs.lemmas.Bool.Decides.{nat_tests}
use Rattle.rrc_wire.specs.declared.fault.WireFault.{WireFault}
use Rattle.rrc_wire.specs.declared.fault.WireFault.TheVariants.{Short}
use Rattle.rrc_wire.specs.Reading.{◌>>=◌, within, times}
use Rattle.rrc_wire.specs.Grammar.{Follow, none, more}
use Rattle.rrc_wire.specs.FirstFault.{OneFails}

-- ---- one step

-- of two steps the first failed, or the second one behind it
pub data Breaks {A B : Type 0} (r : Result A WireFault) (f : A → Result B WireFault) (fault : WireFault) : Type 0 where
  at_once : r ≡ Err fault → Breaks r f fault
  behind : (x : A) → r ≡ Ok x → f x ≡ Err fault → Breaks r f fault

pub bind_err : {A B : Type 0} (r : Result A WireFault) (f : A → Result B WireFault) (fault : WireFault) → (r >>= f) ≡ Err fault → Breaks r f fault
bind_err (Ok x) f fault e = behind x refl e
bind_err (Err d) f fault e = at_once (cc)

-- a step that fails, and what was to follow it
pub first_err : {A B : Type 0} (r : Result A WireFault) (f : A → Result B WireFault) (fault : WireFault) → r ≡ Err fault → (r >>= f) ≡ Err fault
first_err r f fault is = ap (λ (q : Result _ WireFault). q >>= f) is

-- a step that does not fail, and one behind it that does
pub then_err : {A B : Type 0} (r : Result A WireFault) (f : A → Result B WireFault) (x : A) (fault : WireFault) → r ≡ Ok x → f x ≡ Err fault → (r >>= f) ≡ Err fault
then_err r f x fault is next = ap (λ (q : Result _ WireFault). q >>= f) is ∙ next

abbrev failed : {A : Type 0} → WireFault → Result A WireFault
failed fault = Err fault

-- what a failed step answers
pub err_is : {A : Type 0} (own fault : WireFault) → failed {A = A} own ≡ failed fault → own ≡ fault
err_is own fault e = cc

-- of the two ways behind a test, the one that was taken failed
pub data Parts {A : Type 0} (b : Bool) (r s : Result A WireFault) (fault : WireFault) : Type 0 where
  so : b ≡ true → r ≡ Err fault → Parts b r s fault
  not_so : b ≡ false → s ≡ Err fault → Parts b r s fault

pub cond_err : {A : Type 0} (b : Bool) (r s : Result A WireFault) (fault : WireFault) → cond b r s ≡ Err fault → Parts b r s fault
cond_err true r s fault e = so refl e
cond_err false r s fault e = not_so refl e

pub test_false : {A : Type 0} (b : Bool) (r s : Result A WireFault) → b ≡ false → cond b r s ≡ s
test_false b r s h = ap (λ (t : Bool). cond t r s) h

pub le_false : (a b : ℕ) → b < a → nat_le a b ≡ false
le_false a b h = grind (arith, nat_tests)

pub false_le : (a b : ℕ) → nat_le a b ≡ false → b < a
false_le a b h = grind (arith, nat_tests)

pub lt_true : (a b : ℕ) → a < b → nat_lt a b ≡ true
lt_true a b h = grind (arith, nat_tests)

pub true_lt : (a b : ℕ) → nat_lt a b ≡ true → a < b
true_lt a b h = grind (arith, nat_tests)

pub eq_false : (a b : ℕ) → (a ≡ b → ⊥) → eqb a b ≡ false
eq_false a b h = by (eqb a b) refl
  where
    by : (same : Bool) → eqb a b ≡ same → eqb a b ≡ false
    by true is = absurd (h (grind (arith, nat_tests)))
    by false is = is

pub false_eq : (a b : ℕ) → eqb a b ≡ false → a ≡ b → ⊥
false_eq a b h is = grind (arith, nat_tests)

-- octets that the message has not
pub within-fails : (message : List ℕ) (place octets : ℕ) (fault : WireFault) → within message place octets ≡ Err fault → (length message < place + octets) × (Short ≡ fault)
within-fails message place octets fault h = by (cond_err (nat_le (place + octets) (length message)) (Ok (place + octets)) (Err Short) fault h)
  where
    by : Parts (nat_le (place + octets) (length message)) (Ok (place + octets)) (Err Short) fault → (length message < place + octets) × (Short ≡ fault)
    by (so is e) = absurd cc
    by (not_so is e) = (false_le (place + octets) (length message) is, err_is Short fault e)

pub within-short : (message : List ℕ) (place octets : ℕ) → length message < place + octets → within message place octets ≡ Err Short
within-short message place octets less = test_false (nat_le (place + octets) (length message)) (Ok (place + octets)) (Err Short) (le_false (place + octets) (length message) less)

-- ---- pieces one after another

-- of pieces that are not all read, one has a fault
pub times-fails : {A : Type 0} (reader : ℕ → Result (List A × ℕ) WireFault) (Stands : ℕ → List A → ℕ → Type 0) (Fails : ℕ → WireFault → Type 0)
    → ((place : ℕ) (piece : List A) (next : ℕ) → reader place ≡ Ok (piece, next) → Stands place piece next)
    → ((place : ℕ) (fault : WireFault) → reader place ≡ Err fault → Fails place fault)
    → (count : ℕ) (before : List A) (place : ℕ) (fault : WireFault) → times reader count before place ≡ Err fault → OneFails Stands Fails count place fault
times-fails reader Stands Fails finds fail zero before place fault h = absurd cc
times-fails {A} reader Stands Fails finds fail (suc count) before place fault h =
    by (λ later next e. times-fails reader Stands Fails finds fail count later next fault e)
    (bind_err (reader place) (λ (piece : List A × ℕ). times reader count (before ++ piece.0) piece.1) fault h)
  where
    by : ((later : List A) (next : ℕ) → times reader count later next ≡ Err fault → OneFails Stands Fails count next fault)
        → Breaks (reader place) (λ (piece : List A × ℕ). times reader count (before ++ piece.0) piece.1) fault → OneFails Stands Fails (suc count) place fault
    by rest (at_once is) = record { before = 0; pieces = []; middle = place; fewer = omega arith; stand = none refl; fails = fail place fault is }
    by rest (behind piece is e) =
        let found = rest (before ++ piece.0) piece.1 e in
        record {
          before = suc found.before;
          pieces = piece.0 ++ found.pieces;
          middle = found.middle;
          fewer = omega (arith, found.fewer);
          stand = more (finds place piece.0 piece.1 is) found.stand refl;
          fails = found.fails;
        }

-- behind pieces that stand, one that has a fault is met
pub times-fault : {A : Type 0} (reader : ℕ → Result (List A × ℕ) WireFault) (Stands : ℕ → List A → ℕ → Type 0)
    → ((place : ℕ) (piece : List A) (next : ℕ) → Stands place piece next → reader place ≡ Ok (piece, next))
    → {some place middle : ℕ} {pieces : List A} → Follow Stands some place pieces middle → (count : ℕ) → some < count → (before : List A) (fault : WireFault) → reader middle ≡ Err fault
    → times reader count before place ≡ Err fault
times-fault reader Stands reads (none is) zero less before fault e = absurd (omega arith)
times-fault {A} reader Stands reads {place = place} (none is) (suc count) less before fault e =
    first_err (reader place) (λ (piece : List A × ℕ). times reader count (before ++ piece.0) piece.1) fault (ap reader (sym is) ∙ e)
times-fault reader Stands reads (more first rest are) zero less before fault e = absurd (omega arith)
times-fault {A} reader Stands reads (more {place = place} {middle = middle} {piece = piece} first rest are) (suc count) less before fault e =
    then_err (reader place) (λ (piece : List A × ℕ). times reader count (before ++ piece.0) piece.1) (piece, middle) fault (reads place piece middle first)
    (times-fault reader Stands reads rest count (omega arith) (before ++ piece) fault e)
