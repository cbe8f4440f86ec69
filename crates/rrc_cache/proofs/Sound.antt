-- SPDX-License-Identifier: MIT
-- What holds of the entries that a part keeps, besides what its history says of them, so that they may close a chapter.
use Rattle.std.proofs.Common.{◌≡◌, ℕ, ◌+◌, ◌<◌, ◌≤◌, List, [], ◌∷◌, length, Option, Some, None, Bool, true, false, refl, ap, subst, arith}
use Rattle.std.specs.Prelude.{◌==◌, ◌||◌, find, IfSome}
use Rattle.std.specs.List.{AllByRecursion}
use Rattle.std.proofs.lemmas.Bool.Decides.{nat_tests}
use Rattle.rrc_name.specs.Key.{KeyOf, key_eq}
use Rattle.rrc_history.specs.declared.event.Event.{Event}
use Rattle.rrc_history.specs.declared.event.Outcome.{Outcome}
use Rattle.rrc_history.specs.declared.event.Outcome.TheVariants.{Kept, Cleared, LessTrusted}
use Rattle.rrc_history.specs.declared.snapshot.Entry.{Entry}
use Rattle.rrc_history.specs.declared.snapshot.Snapshot.{Snapshot}
use Rattle.rrc_history.specs.Fits.{OfferOf, fits}
use Rattle.rrc_history.specs.Lives.{LAST_MOMENT, IsTimely}
use Rattle.rrc_history.specs.Past.{entry_at, number_after, AreContents}
use Rattle.rrc_history.specs.Entries.{staying, goes, in_front, promoted, answered_from, kept_after}
use Rattle.rrc_history.specs.Sound.{IsBefore, IsFit, AreNumberedApart, AreSound}
use Rattle.rrc_history.specs.lemmas.Apart.{falls_apart}

-- ---- of some entries

pub all_found : (P : Entry → Type 0) (test : Entry → Bool) (entries : List Entry) → AllByRecursion P entries → IfSome (find test entries) P
all_found P test [] all = tt
all_found P test (entry ∷ entries) all = by (test entry) refl (all_found P test entries all.1)
  where
    by : (b : Bool) → test entry ≡ b → IfSome (find test entries) P → IfSome (find test (entry ∷ entries)) P
    by true is rest = rw is (all.0)
    by false is rest = rw is rest

pub timely_found : (test : Entry → Bool) (entries : List Entry) → AllByRecursion IsTimely entries → IfSome (find test entries) IsTimely
timely_found test entries all = all_found IsTimely test entries all

pub all_staying : (P : Entry → Type 0) (out : KeyOf → Bool) (entries : List Entry) → AllByRecursion P entries → AllByRecursion P (staying out entries)
all_staying P out [] all = tt
all_staying P out (entry ∷ entries) all = by (out entry.key) refl (all_staying P out entries all.1)
  where
    by : (b : Bool) → out entry.key ≡ b → AllByRecursion P (staying out entries) → AllByRecursion P (staying out (entry ∷ entries))
    by true is rest = rw is rest
    by false is rest = rw is (all.0, rest)

pub all_with : (P Q : Entry → Type 0) → ((entry : Entry) → P entry → Q entry) → (entries : List Entry) → AllByRecursion P entries → AllByRecursion Q entries
all_with P Q with' [] all = tt
all_with P Q with' (entry ∷ entries) all = (with' entry all.0, all_with P Q with' entries all.1)

-- ---- numbers and bodies

-- what holds of the entries of a snapshot, besides that they are few and that their keys are apart
pub record AreWellMade (first : ℕ) (entries : List Entry) : Type 0 where
  pub before : AllByRecursion (IsBefore first) entries
  pub numbered : AreNumberedApart entries
  pub fit : AllByRecursion IsFit entries
  pub timely : AllByRecursion IsTimely entries

pub made_of : (capacity first : ℕ) (entries : List Entry) → AreSound capacity first entries → AreWellMade first entries
made_of capacity first entries sound = record { before = sound.before; numbered = sound.numbered; fit = sound.fit; timely = sound.timely }

-- the contents of a history that are few are those of a snapshot
pub sound_of : (snapshot : Snapshot) (past : List Event) (capacity first : ℕ) (entries : List Entry) → AreContents snapshot past entries → length entries ≤ capacity
    → AreWellMade first entries → AreSound capacity first entries
sound_of snapshot past capacity first entries contents few made = record {
  few = few;
  apart = falls_apart snapshot past (number_after snapshot past) entries contents.falling;
  before = made.before;
  numbered = made.numbered;
  fit = made.fit;
  timely = made.timely;
}

pub numbered_staying : (out : KeyOf → Bool) (entries : List Entry) → AreNumberedApart entries → AreNumberedApart (staying out entries)
numbered_staying out [] apart = tt
numbered_staying out (entry ∷ entries) apart = by (out entry.key) refl (numbered_staying out entries apart.1)
  where
    by : (b : Bool) → out entry.key ≡ b → AreNumberedApart (staying out entries) → AreNumberedApart (staying out (entry ∷ entries))
    by true is rest = rw is rest
    by false is rest = rw is (all_staying (λ other. (entry.number == other.number) ≡ false) out entries apart.0, rest)

-- one more number is given out
pub made_more : (first : ℕ) (entries : List Entry) → AreWellMade first entries → AreWellMade (first + 1) entries
made_more first entries made = record {
  before = all_with (IsBefore first) (IsBefore (first + 1)) (λ entry below. omega (arith, below)) entries made.before;
  numbered = made.numbered;
  fit = made.fit;
  timely = made.timely;
}

-- some go
pub made_staying : (first : ℕ) (out : KeyOf → Bool) (entries : List Entry) → AreWellMade first entries → AreWellMade first (staying out entries)
made_staying first out entries made = record {
  before = all_staying (IsBefore first) out entries made.before;
  numbered = numbered_staying out entries made.numbered;
  fit = all_staying IsFit out entries made.fit;
  timely = all_staying IsTimely out entries made.timely;
}

-- ---- an offer

-- the entry of the next number comes to the front
made_new : (entry : Entry) (entries : List Entry) → IsFit entry → IsTimely entry → AreWellMade entry.number entries → AreWellMade (entry.number + 1) (entry ∷ entries)
made_new entry entries fit timely made = record {
  before = (omega arith, (made_more entry.number entries made).before);
  numbered = (
    all_with (IsBefore entry.number) (λ other. (entry.number == other.number) ≡ false) (λ other below. unlike entry.number other.number below) entries made.before,
    made.numbered,
  );
  fit = (fit, made.fit);
  timely = (timely, made.timely);
}
  where
    unlike : (a b : ℕ) → b < a → (a == b) ≡ false
    unlike a b less = grind (arith, nat_tests)

pub made_kept_after : (outcome : Outcome) (offer : OfferOf) (number : ℕ) (evicted : Option KeyOf) (entries : List Entry)
    → fits offer.key offer.body ≡ true → offer.moment ≤ LAST_MOMENT → AreWellMade number entries → AreWellMade (number + 1) (kept_after outcome offer number evicted entries)
made_kept_after Kept offer number evicted entries fit timely made =
    made_new (record { key = offer.key; body = offer.body; moment = offer.moment; number = number }) (staying (goes offer.key evicted) entries) fit timely
    (made_staying number (goes offer.key evicted) entries made)
made_kept_after Cleared offer number evicted entries fit timely made =
    made_more number (staying (goes offer.key None) entries) (made_staying number (goes offer.key None) entries made)
made_kept_after LessTrusted offer number evicted entries fit timely made = made_more number entries made

-- ---- an ask

-- the entry that is found under a key has another number than those of other keys
pub numbered_found : (key : KeyOf) (entries : List Entry) (entry : Entry) → entry_at key entries ≡ Some entry → AreNumberedApart entries
    → AllByRecursion (λ other. (entry.number == other.number) ≡ false) (staying (goes key None) entries)
numbered_found key [] entry h apart = absurd cc
numbered_found key (first ∷ entries) entry h apart = by (key_eq key first.key) refl (λ later. numbered_found key entries entry later apart.1)
  where
    Unlike : Entry → Entry → Type 0
    Unlike a b = (a.number == b.number) ≡ false

    turned : (a b : ℕ) → (a == b) ≡ false → (b == a) ≡ false
    turned a b other = grind (arith, nat_tests)

    by : (same : Bool) → key_eq key first.key ≡ same
        → (entry_at key entries ≡ Some entry → AllByRecursion (Unlike entry) (staying (goes key None) entries))
        → AllByRecursion (Unlike entry) (staying (goes key None) (first ∷ entries))
    by true is rest =
        let gone : goes key None first.key ≡ true = ap (λ b. b || false) is in
        let found : first ≡ entry = cc (rw is at h) in
        rw gone (subst (λ e. AllByRecursion (Unlike e) (staying (goes key None) entries)) found (all_staying (Unlike first) (goes key None) entries apart.0))
    by false is rest =
        let stays : goes key None first.key ≡ false = ap (λ b. b || false) is in
        let later : entry_at key entries ≡ Some entry = rw is at h in
        let other : Unlike first entry = subst (λ f. IfSome f (Unlike first)) later (all_found (Unlike first) (λ e. key_eq key e.key) entries apart.0) in
        rw stays (turned first.number entry.number other, rest later)

made_promoted : (first : ℕ) (key : KeyOf) (entries : List Entry) → AreWellMade first entries → AreWellMade first (promoted key entries)
made_promoted first key entries made = by (entry_at key entries) refl
  where
    by : (f : Option Entry) → entry_at key entries ≡ f → AreWellMade first (in_front key f entries)
    by None is = made
    by (Some entry) is =
        let found : (P : Entry → Type 0) → AllByRecursion P entries → P entry = λ P all. subst (λ f. IfSome f P) is (all_found P (λ e. key_eq key e.key) entries all) in
        let rest = made_staying first (goes key None) entries made in
        record {
          before = (found (IsBefore first) made.before, rest.before);
          numbered = (numbered_found key entries entry is made.numbered, rest.numbered);
          fit = (found IsFit made.fit, rest.fit);
          timely = (found IsTimely made.timely, rest.timely);
        }

pub made_answered_from : (first : ℕ) (key : Option KeyOf) (entries : List Entry) → AreWellMade first entries → AreWellMade (first + 1) (answered_from key entries)
made_answered_from first None entries made = made_more first entries made
made_answered_from first (Some key) entries made = made_more first (promoted key entries) (made_promoted first key entries made)
