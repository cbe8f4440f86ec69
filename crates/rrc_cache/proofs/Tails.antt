-- SPDX-License-Identifier: MIT
-- What the calls of a store leave of the entries with which a chapter began.
use Rattle.std.proofs.Common.{◌≡◌, ℕ, ◌+◌, ◌<◌, ◌≤◌, List, [], ◌∷◌, ◌++◌, Option, Some, None, Bool, true, false, ◌||◌, refl, sym, ap, subst, ◌∙◌, arith}
use Rattle.std.specs.Prelude.{◌==◌, IfSome, not}
use Rattle.std.specs.Option.{option_map}
use Rattle.std.proofs.lemmas.List.{append-nil}
use Rattle.std.specs.List.{AllByRecursion}
use Rattle.std.proofs.lemmas.Bool.Decides.{nat_tests}
use Rattle.std.proofs.lemmas.List.Elements.{filter-append}
use Rattle.std.proofs.lemmas.List.Folds.{list_any-append}
use Rattle.rrc_name.specs.Key.{KeyOf, key_eq}
use Rattle.rrc_name.specs.lemmas.KeyLaws.{key_eq-same}
use Rattle.rrc_history.specs.declared.snapshot.Entry.{Entry}
use Rattle.rrc_history.specs.declared.snapshot.Snapshot.{Snapshot}
use Rattle.rrc_history.specs.Entries.{LacksKey, AreApart, goes, promoted, in_front, staying}
use Rattle.rrc_history.specs.EntryLists.{has_number, without}
use Rattle.rrc_history.specs.Past.{entry_at}
use Rattle.rrc_history.specs.Sound.{IsBefore, AreNumberedApart, AreSound}
use Rattle.rrc_history.specs.lemmas.Apart.{staying-lacks}
use Rattle.rrc_cache.specs.declared.opening_tail.OpeningTail.{OpeningTail}
use Rattle.rrc_cache.specs.OpeningTail.{left_of, EndsWith, EndsWithTail, HasCome, HasGivenWay, HasMoved, IsPut}
use Rattle.rrc_cache.proofs.Paired.{absent_lacks}
use Rattle.rrc_cache.proofs.Sound.{all_found, all_staying, all_with, numbered_found, numbered_staying}

-- ---- numbers and keys tell the same entry

-- an entry has the key just where it has the number
abbrev IsTold : KeyOf → ℕ → Entry → Type 0
IsTold key number entry = goes key None entry.key ≡ (number == entry.number)

same_number : (a : ℕ) → (a == a) ≡ true
same_number a = grind (arith, nat_tests)

turned : (a b : ℕ) → (a == b) ≡ false → (b == a) ≡ false
turned a b other = grind (arith, nat_tests)

unlike : (a b : ℕ) → b < a → (a == b) ≡ false
unlike a b less = grind (arith, nat_tests)

both_unlike : (key : KeyOf) (number : ℕ) (entries : List Entry) → LacksKey key entries → AllByRecursion (λ other. (number == other.number) ≡ false) entries
    → AllByRecursion (IsTold key number) entries
both_unlike key number [] lacks apart = tt
both_unlike key number (entry ∷ entries) lacks apart = (ap (λ b. b || false) lacks.0 ∙ sym apart.0, both_unlike key number entries lacks.1 apart.1)

-- the entry that is found under a key is told by its number
told : (key : KeyOf) (entries : List Entry) (held : Entry) → entry_at key entries ≡ Some held → AreApart entries → AreNumberedApart entries
    → AllByRecursion (IsTold key held.number) entries
told key [] held h apart numbered = tt
told key (first ∷ entries) held h apart numbered = by (key_eq key first.key) refl (λ later. told key entries held later apart.1 numbered.1)
  where
    by : (same : Bool) → key_eq key first.key ≡ same → (entry_at key entries ≡ Some held → AllByRecursion (IsTold key held.number) entries)
        → AllByRecursion (IsTold key held.number) (first ∷ entries)
    by true is rest =
        let found : first ≡ held = cc (rw is at h) in
        let P : KeyOf → Type 0 = λ k. LacksKey k entries in
        let Q : Entry → Type 0 = λ e. AllByRecursion (IsTold key e.number) (first ∷ entries) in
        let here : goes key None first.key ≡ true = ap (λ b. b || false) is in
        subst Q found (here ∙ sym (same_number first.number), both_unlike key first.number entries (subst P (sym (key_eq-same key first.key is)) apart.0) numbered.0)
    by false is rest =
        let Unlike : Entry → Type 0 = λ other. (first.number == other.number) ≡ false in
        let later : entry_at key entries ≡ Some held = rw is at h in
        let other : Unlike held = subst (λ f. IfSome f Unlike) later (all_found Unlike (λ e. key_eq key e.key) entries numbered.0) in
        (ap (λ b. b || false) is ∙ sym (turned first.number held.number other), rest later)

all_behind : (P : Entry → Type 0) (front behind : List Entry) → AllByRecursion P (front ++ behind) → AllByRecursion P behind
all_behind P [] behind all = all
all_behind P (entry ∷ front) behind all = all_behind P front behind all.1

-- ---- one goes

one_more : (number : ℕ) (moved : List ℕ) (entry : Entry) → has_number (moved ++ number ∷ []) entry ≡ (has_number moved entry || ((number == entry.number) || false))
one_more number moved entry = list_any-append (λ n. n == entry.number) moved (number ∷ [])

-- among those that are left an entry goes alike by its key and by its number
gone_left : (key : KeyOf) (number : ℕ) (moved : List ℕ) (opening : List Entry) → AllByRecursion (IsTold key number) (without moved opening)
    → staying (goes key None) (without moved opening) ≡ without (moved ++ number ∷ []) opening
gone_left key number moved [] all = refl
gone_left key number moved (entry ∷ opening) all = by (has_number moved entry) refl (gone_left key number moved opening)
  where
    stays : (b : Bool) → (number == entry.number) ≡ b → has_number moved entry ≡ false → IsTold key number entry
        → staying (goes key None) (without moved opening) ≡ without (moved ++ number ∷ []) opening
        → staying (goes key None) (entry ∷ without moved opening) ≡ without (moved ++ number ∷ []) (entry ∷ opening)
    stays true is left is_told rest =
        let gone : goes key None entry.key ≡ true = is_told ∙ is in
        let more : has_number (moved ++ number ∷ []) entry ≡ true = one_more number moved entry ∙ (ap (λ b. b || ((number == entry.number) || false)) left ∙ ap (λ b. b || false) is) in
        rw (gone, more) rest
    stays false is left is_told rest =
        let kept : goes key None entry.key ≡ false = is_told ∙ is in
        let more : has_number (moved ++ number ∷ []) entry ≡ false = one_more number moved entry ∙ (ap (λ b. b || ((number == entry.number) || false)) left ∙ ap (λ b. b || false) is) in
        rw (kept, more) (ap (λ es. entry ∷ es) rest)

    by : (b : Bool) → has_number moved entry ≡ b
        → (AllByRecursion (IsTold key number) (without moved opening) → staying (goes key None) (without moved opening) ≡ without (moved ++ number ∷ []) opening)
        → staying (goes key None) (without moved (entry ∷ opening)) ≡ without (moved ++ number ∷ []) (entry ∷ opening)
    by true is rest =
        let more : has_number (moved ++ number ∷ []) entry ≡ true = one_more number moved entry ∙ ap (λ b. b || ((number == entry.number) || false)) is in
        let later : AllByRecursion (IsTold key number) (without moved opening) = rw is at all in
        rw (is, more) (rest later)
    by false is rest =
        let both : AllByRecursion (IsTold key number) (entry ∷ without moved opening) = rw is at all in
        rw is (stays (number == entry.number) refl is both.0 (rest both.1))

removed_ends : (old new : OpeningTail) (key : KeyOf) (held : Entry) (entries : List Entry) → AreApart entries → entry_at key entries ≡ Some held
    → new.opening ≡ old.opening → new.moved.items ≡ old.moved.items ++ held.number ∷ [] → new.next ≡ old.next → EndsWith old entries
    → EndsWith new (staying (goes key None) entries)
removed_ends old new key held entries apart found opening moved next ends =
    let left : List Entry = without old.moved.items old.opening.entries in
    let all : AllByRecursion (IsTold key held.number) left =
    all_behind (IsTold key held.number) ends.front left
    (subst (λ es. AllByRecursion (IsTold key held.number) es) ends.stands (told key entries held found apart ends.numbered)) in
    let P : List ℕ → List Entry → List Entry = λ numbers es. staying (goes key None) ends.front ++ without numbers es in
    record {
      front = staying (goes key None) ends.front;
      stands =
          ap (staying (goes key None)) ends.stands
          ∙ (filter-append (λ (e : Entry). not (goes key None e.key)) ends.front left
          ∙ (ap (λ es. staying (goes key None) ends.front ++ es) (gone_left key held.number old.moved.items old.opening.entries all)
          ∙ (ap (λ numbers. P numbers old.opening.entries) (sym moved) ∙ ap (λ (s : Snapshot). P new.moved.items s.entries) (sym opening))));
      numbered = numbered_staying (goes key None) entries ends.numbered;
      before = subst (λ n. AllByRecursion (IsBefore n) (staying (goes key None) entries)) (sym next) (all_staying (IsBefore old.next) (goes key None) entries ends.before);
    }

-- the entry of a key went
pub removed_tail : (key : KeyOf) (held : Entry) (entries : List Entry) (old new : Option OpeningTail) → AreApart entries → entry_at key entries ≡ Some held
    → HasMoved held.number old new → EndsWithTail old entries → EndsWithTail new (staying (goes key None) entries)
removed_tail key held entries old None apart found moved ends = tt
removed_tail key held entries None (Some new) apart found moved ends = absurd moved
removed_tail key held entries (Some old) (Some new) apart found moved ends =
    removed_ends old new key held entries apart found moved.0 moved.1 moved.2 ends

-- what a key held went, if anything
pub given_way : (key : KeyOf) (entries : List Entry) (held : Option Entry) (old new : Option OpeningTail) → AreApart entries → entry_at key entries ≡ held
    → HasGivenWay (option_map (λ entry. entry.number) held) old new → EndsWithTail old entries → EndsWithTail new (staying (goes key None) entries)
given_way key entries None old new apart found same ends =
    let stays : staying (goes key None) entries ≡ entries = staying-lacks key entries (absent_lacks key entries found) in
    subst (λ es. EndsWithTail new es) (sym stays) (subst (λ f. EndsWithTail f entries) (sym same) ends)
given_way key entries (Some held) old new apart found moved ends = removed_tail key held entries old new apart found moved ends

-- ---- one comes to the front

front_ends : (tail : OpeningTail) (entry : Entry) (entries : List Entry) → IsBefore tail.next entry → AllByRecursion (λ other. (entry.number == other.number) ≡ false) entries
    → EndsWith tail entries → EndsWith tail (entry ∷ entries)
front_ends tail entry entries before apart ends = record {
  front = entry ∷ ends.front;
  stands = ap (λ es. entry ∷ es) ends.stands;
  numbered = (apart, ends.numbered);
  before = (before, ends.before);
}

-- a new one
pub come_tail : (entry : Entry) (entries : List Entry) (old new : Option OpeningTail) → HasCome entry.number old new → EndsWithTail old entries → EndsWithTail new (entry ∷ entries)
come_tail entry entries old None come ends = tt
come_tail entry entries None (Some new) come ends = absurd come
come_tail entry entries (Some old) (Some new) come ends =
    let below : old.next ≤ entry.number = come.2 in
    let next : new.next ≡ entry.number + 1 = come.3 in
    let P : List ℕ → List Entry → List Entry = λ numbers es. ends.front ++ without numbers es in
    let now : EndsWith new entries = record {
      front = ends.front;
      stands =
          ends.stands
          ∙ (ap (λ numbers. P numbers old.opening.entries) (sym come.1) ∙ ap (λ (s : Snapshot). P new.moved.items s.entries) (sym come.0));
      numbered = ends.numbered;
      before = all_with (IsBefore old.next) (IsBefore new.next) (λ other before. omega (arith, before, below, next)) entries ends.before;
    } in
    front_ends new entry entries (omega (arith, next))
    (all_with (IsBefore old.next) (λ other. (entry.number == other.number) ≡ false) (λ other before. unlike entry.number other.number (omega (arith, before, below))) entries ends.before) now

-- one in the place of what its key held
pub put_tail : (entry : Entry) (entries : List Entry) (held : Option Entry) (old new : Option OpeningTail) → AreApart entries → entry_at entry.key entries ≡ held
    → IsPut (option_map (λ entry. entry.number) held) entry.number old new → EndsWithTail old entries → EndsWithTail new (entry ∷ staying (goes entry.key None) entries)
put_tail entry entries held old new apart found put ends =
    come_tail entry (staying (goes entry.key None) entries) put.0 new put.2 (given_way entry.key entries held old put.0 apart found put.1 ends)

-- the one that is found under a key
pub promoted_tail : (key : KeyOf) (held : Entry) (entries : List Entry) (old new : Option OpeningTail) → AreApart entries → entry_at key entries ≡ Some held
    → HasMoved held.number old new → EndsWithTail old entries → EndsWithTail new (promoted key entries)
promoted_tail key held entries old None apart found moved ends = tt
promoted_tail key held entries None (Some new) apart found moved ends = absurd moved
promoted_tail key held entries (Some old) (Some new) apart found moved ends =
    let before : IsBefore old.next held = subst (λ f. IfSome f (IsBefore old.next)) found (all_found (IsBefore old.next) (λ e. key_eq key e.key) entries ends.before) in
    let is : promoted key entries ≡ held ∷ staying (goes key None) entries = ap (λ f. in_front key f entries) found in
    subst (EndsWith new) (sym is)
    (front_ends new held (staying (goes key None) entries) (subst (λ n. held.number < n) (sym moved.2) before) (numbered_found key entries held found ends.numbered)
    (removed_ends old new key held entries apart found moved.0 moved.1 moved.2 ends))

pub promoted_way : (key : KeyOf) (entries : List Entry) (held : Option Entry) (old new : Option OpeningTail) → AreApart entries → entry_at key entries ≡ held
    → HasGivenWay (option_map (λ entry. entry.number) held) old new → EndsWithTail old entries → EndsWithTail new (promoted key entries)
promoted_way key entries None old new apart found same ends =
    subst (λ es. EndsWithTail new es) (sym (ap (λ f. in_front key f entries) found)) (subst (λ f. EndsWithTail f entries) (sym same) ends)
promoted_way key entries (Some held) old new apart found moved ends = promoted_tail key held entries old new apart found moved ends

-- ---- a chapter begins

without_none : (entries : List Entry) → entries ≡ without [] entries
without_none [] = refl
without_none (entry ∷ entries) = ap (λ es. entry ∷ es) (without_none entries)

-- all of its entries are left
pub opened_ends : (capacity : ℕ) (tail : OpeningTail) (opening : Snapshot) (entries : List Entry) → AreSound capacity opening.first entries → opening.entries ≡ entries
    → tail.opening ≡ opening → tail.moved.items ≡ [] → tail.next ≡ opening.first → EndsWith tail entries
opened_ends capacity tail opening entries sound all is none next = record {
  front = [];
  stands =
      without_none entries
      ∙ (ap (λ es. without [] es) (sym all)
      ∙ (ap (λ (s : Snapshot). without [] s.entries) (sym is) ∙ ap (λ numbers. without numbers tail.opening.entries) (sym none)));
  numbered = sound.numbered;
  before = subst (λ n. AllByRecursion (IsBefore n) entries) (sym next) sound.before;
}

-- ---- what stands in front of those that are left

pub front_of : (tail : Option OpeningTail) (entries : List Entry) → EndsWithTail tail entries → (front : List Entry) × (entries ≡ front ++ left_of tail)
front_of None entries ends = (entries, sym (append-nil entries))
front_of (Some tail) entries ends = (ends.front, ends.stands)
