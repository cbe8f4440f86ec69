-- SPDX-License-Identifier: MIT
-- A snapshot is the contents of the past of no events.
use Rattle.std.specs.Prelude.{◌≡◌, ℕ, ◌+◌, ◌<◌, ◌≤◌, List, [], ◌∷◌, ◌++◌, length, Bool, true, false, not, ◌==◌, filter}
use Rattle.std.specs.List.{AllByRecursion}
use Rattle.std.proofs.Common.{zero, suc, refl, sym, ap, subst, ◌∙◌, arith, append_assoc}
use Rattle.std.proofs.lemmas.Bool.Decides.{nat_tests}
use Rattle.rrc_name.specs.lemmas.KeyLaws.{key_eq-laws}
use Rattle.rrc_history.specs.declared.snapshot.Entry.{Entry}
use Rattle.rrc_history.specs.declared.snapshot.Snapshot.{Snapshot}
use Rattle.rrc_history.specs.Past.{held, touch, place_of, number_after, FallsBelow}
use Rattle.rrc_history.specs.Entries.{LacksKey, AreApart}
use Rattle.rrc_history.specs.Sound.{IsBefore, AreNumberedApart}
use Rattle.rrc_history.specs.Chapters.{SoundLeadsToItself}
use Rattle.rrc_history.specs.lemmas.Apart.{apart_before}

-- ---- numbers apart and below a number are no more than it

-- the entries of other numbers
abbrev without : ℕ → List Entry → List Entry
without number entries = filter (λ entry. not (entry.number == number)) entries

all_without : (P : Entry → Type 0) (number : ℕ) (entries : List Entry) → AllByRecursion P entries → AllByRecursion P (without number entries)
all_without P number [] all = tt
all_without P number (entry ∷ entries) all = by (entry.number == number) refl (all_without P number entries all.1)
  where
    by : (same : Bool) → (entry.number == number) ≡ same → AllByRecursion P (without number entries) → AllByRecursion P (without number (entry ∷ entries))
    by true is rest = rw (is, filter) rest
    by false is rest = rw is (all.0, rest)

apart_without : (number : ℕ) (entries : List Entry) → AreNumberedApart entries → AreNumberedApart (without number entries)
apart_without number [] apart = tt
apart_without number (entry ∷ entries) apart = by (entry.number == number) refl (apart_without number entries apart.1)
  where
    by : (same : Bool) → (entry.number == number) ≡ same → AreNumberedApart (without number entries) → AreNumberedApart (without number (entry ∷ entries))
    by true is rest = rw (is, filter) rest
    by false is rest = rw is (all_without (λ other. (entry.number == other.number) ≡ false) number entries apart.0, rest)

below_without : (number : ℕ) (entries : List Entry) → AllByRecursion (IsBefore (suc number)) entries → AllByRecursion (IsBefore number) (without number entries)
below_without number [] all = tt
below_without number (entry ∷ entries) all = by (entry.number == number) refl (below_without number entries all.1)
  where
    by : (same : Bool) → (entry.number == number) ≡ same → AllByRecursion (IsBefore number) (without number entries) → AllByRecursion (IsBefore number) (without number (entry ∷ entries))
    by true is rest = rw (is, filter) rest
    by false is rest = rw is (less entry.number number all.0 is, rest)
      where
        less : (a b : ℕ) → a < suc b → (a == b) ≡ false → a < b
        less a b below other = grind (arith, nat_tests)

-- where no entry has the number, all stay
length-without_none : (number : ℕ) (entries : List Entry) → AllByRecursion (λ entry. (number == entry.number) ≡ false) entries → length (without number entries) ≡ length entries
length-without_none number [] all = refl
length-without_none number (entry ∷ entries) all =
    let other : (entry.number == number) ≡ false = turned number entry.number all.0 in
    rw other (ap suc (length-without_none number entries all.1))
  where
    turned : (a b : ℕ) → (a == b) ≡ false → (b == a) ≡ false
    turned a b h = grind (arith, nat_tests)

-- of entries of which no two have the same number, one at most goes
length-without : (number : ℕ) (entries : List Entry) → AreNumberedApart entries → length entries ≤ length (without number entries) + 1
length-without number [] apart = omega arith
length-without number (entry ∷ entries) apart = by (entry.number == number) refl (length-without number entries apart.1)
  where
    by : (same : Bool) → (entry.number == number) ≡ same → length entries ≤ length (without number entries) + 1 → length (entry ∷ entries) ≤ length (without number (entry ∷ entries)) + 1
    by true is rest =
        let one : entry.number ≡ number = same entry.number number is in
        let Lacks : ℕ → Type 0 = λ n. AllByRecursion (λ other. (n == other.number) ≡ false) entries in
        let all : length (without number entries) ≡ length entries = length-without_none number entries (subst Lacks one apart.0) in
        rw is (omega (arith, all))
      where
        same : (a b : ℕ) → (a == b) ≡ true → a ≡ b
        same a b h = grind (arith, nat_tests)
    by false is rest = rw is (omega arith)

length-numbered : (number : ℕ) (entries : List Entry) → AllByRecursion (IsBefore number) entries → AreNumberedApart entries → length entries ≤ number
length-numbered zero [] below apart = omega arith
length-numbered zero (entry ∷ entries) below apart = absurd (omega (arith, below.0))
length-numbered (suc number) entries below apart =
    omega (arith, length-without number entries apart, length-numbered number (without number entries) (below_without number entries below) (apart_without number entries apart))

-- ---- places fall

place_of-middle : (before : List Entry) (entry : Entry) (behind : List Entry) → LacksKey entry.key before → place_of entry.key (before ++ entry ∷ behind) ≡ length behind
place_of-middle [] entry behind lacks = let same = key_eq-laws.refl entry.key in rw same refl
place_of-middle (first ∷ before) entry behind lacks = let other = lacks.0 in rw other (place_of-middle before entry behind lacks.1)

falls_by_place : (snapshot : Snapshot) (before entries : List Entry) (number : ℕ) → snapshot.entries ≡ before ++ entries → AreApart (before ++ entries) → length entries ≤ number
    → FallsBelow snapshot [] number entries
unfolding touch
falls_by_place snapshot before [] number is apart few = tt
falls_by_place snapshot before (entry ∷ entries) number is apart few =
    let place : place_of entry.key snapshot.entries ≡ length entries =
    ap (place_of entry.key) is ∙ place_of-middle before entry entries (apart_before before entry entries apart) in
    let more : (before ++ entry ∷ []) ++ entries ≡ before ++ entry ∷ entries = append_assoc before (entry ∷ []) entries in (
      omega (arith, place),
      falls_by_place snapshot (before ++ entry ∷ []) entries (place_of entry.key snapshot.entries) (is ∙ sym more) (subst AreApart (sym more) apart) (omega (arith, place)),
    )

-- a snapshot leads to itself where nothing happens
pub opening : SoundLeadsToItself
unfolding held
opening snapshot sound = record {
  rules = refl;
  first = omega arith;
  contents = record {
    agree = λ key. refl;
    falling = falls_by_place snapshot [] snapshot.entries (number_after snapshot []) refl sound.apart
        (omega (arith, length-numbered snapshot.first snapshot.entries sound.before sound.numbered));
  };
}
