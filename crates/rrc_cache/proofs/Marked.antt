-- SPDX-License-Identifier: MIT
-- That the names of which NXDOMAIN or a failure is cached are marked.
use Rattle.std.proofs.Common.{◌≡◌, ℕ, zero, suc, take, List, [], ◌∷◌, ◌++◌, true, false, Option, Some, None, refl, sym, ap, subst, ◌∙◌}
use Rattle.std.specs.Prelude.{IfSome}
use Rattle.std.specs.Option.{option_map}
use Rattle.rrc_name.specs.Key.{KeyOf, key_eq}
use Rattle.rrc_history.specs.declared.snapshot.Entry.{Entry}
use Rattle.rrc_history.specs.Entries.{goes, in_front, promoted, staying}
use Rattle.rrc_history.specs.Past.{entry_at}
use Rattle.rrc_history.specs.lemmas.EntryLaws.{entry_at-key}
use Rattle.rrc_cache.specs.NegativeFilter.{AreMarked, NegativeFilterOf, IsMarked, is_negative_slot, may_hold}
use Rattle.rrc_cache.proofs.Sound.{all_found, all_staying, all_with}

-- what is found under a key is marked
marked_found : (filter : NegativeFilterOf) (key : KeyOf) (entries : List Entry) (entry : Entry) → entry_at key entries ≡ Some entry → AreMarked filter entries → IsMarked filter entry
marked_found filter key entries entry is are = subst (λ f. IfSome f (IsMarked filter)) is (all_found (IsMarked filter) (λ e. key_eq key e.key) entries are)

-- where a name may hold nothing in a negative slot, nothing is found there
pub none_negative : (filter : NegativeFilterOf) (entries : List Entry) (key : KeyOf) → AreMarked filter entries → may_hold filter key.name ≡ false → is_negative_slot key.slot ≡ true
    → entry_at key entries ≡ None
none_negative filter entries key are unmarked at = by (entry_at key entries) refl
  where
    by : (found : Option Entry) → entry_at key entries ≡ found → entry_at key entries ≡ None
    by None is = is
    by (Some entry) is =
        let own : key ≡ entry.key = entry_at-key key entries entry is in
        let holds : may_hold filter entry.key.name ≡ true = marked_found filter key entries entry is are (ap (λ (k : KeyOf). is_negative_slot k.slot) (sym own) ∙ at) in
        let bad : false ≡ true = sym unmarked ∙ (ap (λ (k : KeyOf). may_hold filter k.name) own ∙ holds) in
        absurd cc

-- the name of a key that holds something is marked
pub held_marked : (filter : NegativeFilterOf) (key : KeyOf) (entries : List Entry) (entry : Entry) → entry_at key entries ≡ Some entry → AreMarked filter entries
    → is_negative_slot key.slot ≡ true → may_hold filter key.name ≡ true
held_marked filter key entries entry is are =
    subst (λ (k : KeyOf). is_negative_slot k.slot ≡ true → may_hold filter k.name ≡ true) (sym (entry_at-key key entries entry is)) (marked_found filter key entries entry is are)

-- one that is marked stays so where no mark goes
pub one_still_marked : (old new : NegativeFilterOf) → ((name : List ℕ) → may_hold old name ≡ true → may_hold new name ≡ true) → (entry : Entry) → IsMarked old entry → IsMarked new entry
one_still_marked old new stay entry is = λ at. stay entry.key.name (is at)

-- as do all
pub still_marked : (old new : NegativeFilterOf) → ((name : List ℕ) → may_hold old name ≡ true → may_hold new name ≡ true) → (entries : List Entry)
    → AreMarked old entries → AreMarked new entries
still_marked old new stay entries are = all_with (IsMarked old) (IsMarked new) (one_still_marked old new stay) entries are

-- where a key goes
pub removed_marked : (filter : NegativeFilterOf) (key : KeyOf) (entries : List Entry) → AreMarked filter entries → AreMarked filter (staying (goes key None) entries)
removed_marked filter key entries are = all_staying (IsMarked filter) (goes key None) entries are

-- where only the first so many stay
pub taken_marked : (filter : NegativeFilterOf) (n : ℕ) (entries : List Entry) → AreMarked filter entries → AreMarked filter (take n entries)
taken_marked filter zero entries are = tt
taken_marked filter (suc n) [] are = tt
taken_marked filter (suc n) (entry ∷ entries) are = (are.0, taken_marked filter n entries are.1)

-- where the entry of a key comes to the front
pub promoted_marked : (filter : NegativeFilterOf) (key : KeyOf) (entries : List Entry) → AreMarked filter entries → AreMarked filter (promoted key entries)
promoted_marked filter key entries are = by (entry_at key entries) refl
  where
    by : (found : Option Entry) → entry_at key entries ≡ found → AreMarked filter (in_front key found entries)
    by None is = are
    by (Some entry) is = (marked_found filter key entries entry is are, removed_marked filter key entries are)

-- an entry whose name was marked comes in front, where no mark goes
pub put_marked : (old new : NegativeFilterOf) (entry : Entry) (entries : List Entry) → (is_negative_slot entry.key.slot ≡ true → may_hold new entry.key.name ≡ true)
    → ((name : List ℕ) → may_hold old name ≡ true → may_hold new name ≡ true) → AreMarked old entries → AreMarked new (entry ∷ staying (goes entry.key None) entries)
put_marked old new entry entries own stay are = (own, removed_marked new entry.key entries (still_marked old new stay entries are))

-- an entry comes in the place of the one that its key had
pub replaced_marked : (filter : NegativeFilterOf) (entry : Entry) (entries : List Entry) (number : ℕ) → option_map (λ e. e.number) (entry_at entry.key entries) ≡ Some number → AreMarked filter entries
    → AreMarked filter (entry ∷ staying (goes entry.key None) entries)
replaced_marked filter entry entries number held are = by (entry_at entry.key entries) refl
  where
    by : (found : Option Entry) → entry_at entry.key entries ≡ found → AreMarked filter (entry ∷ staying (goes entry.key None) entries)
    by None is = let bad : option_map (λ (e : Entry). e.number) None ≡ Some number = sym (ap (option_map (λ e. e.number)) is) ∙ held in absurd cc
    by (Some old) is = put_marked filter filter entry entries (held_marked filter entry.key entries old is are) (λ name holds. holds) are

-- one more
pub more_marked : (old new : NegativeFilterOf) (entries : List Entry) (entry : Entry) → (is_negative_slot entry.key.slot ≡ true → may_hold new entry.key.name ≡ true)
    → ((name : List ℕ) → may_hold old name ≡ true → may_hold new name ≡ true) → AreMarked old entries → AreMarked new (entries ++ entry ∷ [])
more_marked old new [] entry own stay are = (own, tt)
more_marked old new (first ∷ entries) entry own stay are = (one_still_marked old new stay first are.0, more_marked old new entries entry own stay are.1)
