-- SPDX-License-Identifier: MIT
-- Texts that are told apart from what stands behind them.
use Rattle.std.proofs.Common.{◌≡◌, ℕ, ◌<◌, ◌≤◌, List, [], ◌∷◌, ◌++◌, length, drop, get_or, Option, Some, refl, sym, ap, ◌∙◌, arith, append_assoc}
use Rattle.std.specs.List.{AllByRecursion}
use Rattle.rrc_text.proofs.SaidLemmas.{said_last}

-- each octet is above a threshold
abbrev pub Above : ℕ → List ℕ → Type 0
Above t octets = AllByRecursion (λ octet. t < octet) octets

-- octets end, or begin with one at most as large
abbrev pub Stops : ℕ → List ℕ → Type 0
Stops t [] = Unit {0}
Stops t (octet ∷ octets) = octet ≤ t

pub tail-of : {a b : ℕ} {x y : List ℕ} → a ∷ x ≡ b ∷ y → x ≡ y
tail-of e = ap (λ l. drop 1 l) e

pub head-of : {a b : ℕ} {x y : List ℕ} → a ∷ x ≡ b ∷ y → a ≡ b
head-of e = ap (λ l. get_or l 0 0) e

pub strip : (word x y : List ℕ) → word ++ x ≡ word ++ y → x ≡ y
strip [] x y e = e
strip (octet ∷ word) x y e = strip word x y (tail-of e)

pub none-above : (t octet : ℕ) (x r : List ℕ) → Stops t r → t < octet → r ≡ octet ∷ x → ⊥
none-above t octet x [] stops above e = absurd cc
none-above t octet x (other ∷ r) stops above e = absurd (omega (arith, head-of e, stops, above))

pub cancel : (t : ℕ) (x y r s : List ℕ) → Above t x → Above t y → Stops t r → Stops t s → x ++ r ≡ y ++ s → (x ≡ y) × (r ≡ s)
cancel t [] [] r s ax ay sr ss e = (refl, e)
cancel t [] (b ∷ y) r s ax ay sr ss e = absurd (none-above t b (y ++ s) r sr ay.0 e)
cancel t (a ∷ x) [] r s ax ay sr ss e = absurd (none-above t a (x ++ r) s ss ax.0 (sym e))
cancel t (a ∷ x) (b ∷ y) r s ax ay sr ss e =
    let rest = cancel t x y r s ax.1 ay.1 sr ss (tail-of e) in
    let first : a ≡ b = head-of e in
    ((λ i. first i ∷ rest.0 i), rest.1)

-- values and what stands behind them are told by the text of both
pub record Cancels {X : Type 0} (t : ℕ) (f : X → List ℕ) (P : X → Type 0) : Type 0 where
  pub same : (a b : X) (r s : List ℕ) → P a → P b → Stops t r → Stops t s → f a ++ r ≡ f b ++ s → (a ≡ b) × (r ≡ s)

pub field : {X : Type 0} (t : ℕ) (f : X → List ℕ) (P : X → Type 0) (said : List ℕ → Option X) → ((x : X) → P x → Above t (f x))
    → ((x : X) → P x → said (f x) ≡ Some x) → Cancels t f P
field t f P said above inverse = record {
  same = λ a b r s pa pb sr ss e.
      let c = cancel t (f a) (f b) r s (above a pa) (above b pb) sr ss e in
      (said_last (sym (inverse a pa) ∙ ap said c.0 ∙ inverse b pb), c.1);
}

-- two values with a space between
pub pair : {A B : Type 0} (t : ℕ) (f : A → List ℕ) (P : A → Type 0) (g : B → List ℕ) (Q : B → Type 0) → Cancels 32 f P → Cancels t g Q
    → Cancels t (λ (p : A × B). f p.0 ++ (32 ∷ g p.1)) (λ (p : A × B). P p.0 × Q p.1)
pair t f P g Q first second = record {
  same = λ a b r s pa pb sr ss e.
      let apart : f a.0 ++ (32 ∷ (g a.1 ++ r)) ≡ f b.0 ++ (32 ∷ (g b.1 ++ s)) =
      sym (append_assoc (f a.0) (32 ∷ g a.1) r) ∙ e ∙ append_assoc (f b.0) (32 ∷ g b.1) s in
      let one = first.same a.0 b.0 (32 ∷ (g a.1 ++ r)) (32 ∷ (g b.1 ++ s)) pa.0 pb.0 (omega arith) (omega arith) apart in
      let two = second.same a.1 b.1 r s pa.1 pb.1 sr ss (tail-of one.1) in
      ((λ i. (one.0 i, two.0 i)), two.1);
}

-- values that are told by others
pub through : {X Y : Type 0} (t : ℕ) (f : Y → List ℕ) (P : Y → Type 0) (to : X → Y) (from : Y → X) → ((x : X) → from (to x) ≡ x) → Cancels t f P
    → Cancels t (λ x. f (to x)) (λ x. P (to x))
through t f P to from back told = record {
  same = λ a b r s pa pb sr ss e.
      let c = told.same (to a) (to b) r s pa pb sr ss e in
      (sym (back a) ∙ ap from c.0 ∙ back b, c.1);
}

pub stops-higher : (t u : ℕ) (r : List ℕ) → t ≤ u → Stops t r → Stops u r
stops-higher t u [] below stops = tt
stops-higher t u (octet ∷ r) below stops = omega (arith, below, stops)

pub lower : {X : Type 0} (t u : ℕ) (f : X → List ℕ) (P : X → Type 0) → t ≤ u → Cancels u f P → Cancels t f P
lower t u f P below told = record {
  same = λ a b r s pa pb sr ss e. told.same a b r s pa pb (stops-higher t u r below sr) (stops-higher t u s below ss) e;
}

-- two values with nothing between, the second of which is told from the first
pub beside : {A B : Type 0} (t u : ℕ) (f : A → List ℕ) (P : A → Type 0) (g : B → List ℕ) (Q : B → Type 0) → Cancels u f P → Cancels t g Q
    → ((b : B) (r : List ℕ) → Stops t r → Stops u (g b ++ r)) → Cancels t (λ (p : A × B). f p.0 ++ g p.1) (λ (p : A × B). P p.0 × Q p.1)
beside t u f P g Q first second apart = record {
  same = λ a b r s pa pb sr ss e.
      let split : f a.0 ++ (g a.1 ++ r) ≡ f b.0 ++ (g b.1 ++ s) = sym (append_assoc (f a.0) (g a.1) r) ∙ e ∙ append_assoc (f b.0) (g b.1) s in
      let one = first.same a.0 b.0 (g a.1 ++ r) (g b.1 ++ s) pa.0 pb.0 (apart a.1 r sr) (apart b.1 s ss) split in
      let two = second.same a.1 b.1 r s pa.1 pb.1 sr ss one.1 in
      ((λ i. (one.0 i, two.0 i)), two.1);
}

-- what begins above a threshold is not what stands behind
pub none-front : (t : ℕ) (x r z : List ℕ) → 0 < length x → Above t x → Stops t r → r ≡ x ++ z → ⊥
none-front t [] r z some above stops e = absurd (omega (arith, some))
none-front t (octet ∷ x) r z some above stops e = none-above t octet (x ++ z) r stops above.0 e

-- another spelling of the same text
pub respelled : {X : Type 0} (t : ℕ) (f h : X → List ℕ) (P : X → Type 0) → Cancels t f P → ((x : X) → h x ≡ f x) → Cancels t h P
respelled t f h P told same = record {
  same = λ a b r s pa pb sr ss e.
      told.same a b r s pa pb sr ss (ap (λ z. z ++ r) (sym (same a)) ∙ e ∙ ap (λ z. z ++ s) (same b));
}
