-- SPDX-License-Identifier: MIT
-- What the last sweep tells of the next expiry.
use Rattle.std.proofs.Common.{◌≡◌, ℕ, ◌+◌, ◌-◌, ◌^◌, ◌<◌, ◌≤◌, List, [], ◌∷◌, length, Bool, true, false, Option, Some, None, refl, sym, subst, ◌∙◌, arith}
use Rattle.std.specs.Prelude.{nat_le, min, max, if◌then◌else◌, IfSome}
use Rattle.std.proofs.lemmas.Bool.Decides.{nat_tests}
use Rattle.rrc_name.specs.Key.{KeyOf}
use Rattle.rrc_name.specs.lemmas.KeyLaws.{key_eq-laws}
use Rattle.rrc_history.specs.declared.event.Event.{Event}
use Rattle.rrc_history.specs.declared.event.Event.TheVariants.{Offered, Asked, Swept}
use Rattle.rrc_history.specs.declared.snapshot.Entry.{Entry}
use Rattle.rrc_history.specs.declared.snapshot.Snapshot.{Snapshot}
use Rattle.rrc_history.specs.Lives.{LAST_MOMENT, span}
use Rattle.rrc_history.specs.Past.{entry_at, held, is_among, AreContents}
use Rattle.rrc_history.specs.Right.{IsLegal, is_swept}
use Rattle.rrc_cache.specs.Expiry.{HoldsSomething, IsAfterLastSweep, NoneFullyExpiresBefore, last_sweep, moment_after, swept_until}
use Rattle.rrc_cache.specs.Part.{PartOf, past_of}

-- ---- nothing is fully expired before a last sweep's moment is over

-- what is not fully expired at a moment is so at none before
lives-before : (span since early late : ℕ) → early ≤ late → nat_le span (late - since) ≡ false → nat_le span (early - since) ≡ false
lives-before span since early late le is = grind (arith, nat_tests)

unswept-before : (stale early late : ℕ) (found : Option Entry) → early ≤ late → is_swept stale found late ≡ false → is_swept stale found early ≡ false
unswept-before stale early late None le is = refl
unswept-before stale early late (Some entry) le is = lives-before (span stale entry.body) entry.moment early late le is

none_swept : (snapshot : Snapshot) (past : List Event) → IsLegal snapshot past → (key : KeyOf) (moment : ℕ) → moment < swept_until past
    → is_swept snapshot.rules.stale (held snapshot past key) moment ≡ false
unfolding held
none_swept snapshot [] legal key moment less = absurd (omega (arith, less))
none_swept snapshot (Offered outcome tag offer evicted ∷ past) legal key moment less = absurd (omega (arith, less))
none_swept snapshot (Asked tag ask reply ∷ past) legal key moment less = none_swept snapshot past legal.1 key moment less
none_swept snapshot (Swept tag at gone ∷ past) legal key moment less = by (is_among key gone) refl
  where
    by : (b : Bool) → is_among key gone ≡ b → is_swept snapshot.rules.stale (if b then None else held snapshot past key) moment ≡ false
    by true is = refl
    by false is =
        unswept-before snapshot.rules.stale moment at (held snapshot past key) (omega (arith, less)) (sym (legal.0.right.expired key) ∙ is)

-- ---- the last sweep's moment

-- no sweep is later than the last moment
timely_sweep : (snapshot : Snapshot) (past : List Event) → IsLegal snapshot past → swept_until past ≤ LAST_MOMENT + 1
timely_sweep snapshot [] legal = omega arith
timely_sweep snapshot (Offered outcome tag offer evicted ∷ past) legal = omega arith
timely_sweep snapshot (Asked tag ask reply ∷ past) legal = timely_sweep snapshot past legal.1
timely_sweep snapshot (Swept tag at gone ∷ past) legal = omega (arith, legal.0.right.timely)

-- a time is past a moment where the moment after is no later
past_moment : (last : Option ℕ) (time : ℕ) → moment_after last ≤ time → IfSome last (λ moment. moment < time)
past_moment None time le = tt
past_moment (Some moment) time le = omega (arith, le)

-- ---- the next expiry of a part

-- the time that the queue tells, unless a sweep tells a later one; the greatest of all numbers is no time
abbrev pub told_time : ℕ → ℕ → ℕ
told_time time swept = min (max time swept) (2 ^ 64 - 2)

less_of : (moment time swept : ℕ) → nat_le time moment ≡ true → moment < told_time time swept → moment < swept
less_of moment time swept late less = grind (arith, nat_tests)

module _ (part : PartOf) (swept : ℕ) (is : swept ≡ swept_until (past_of part)) (legal : IsLegal part.snapshot (past_of part)) where
  pub none_before_told : (time : ℕ) → NoneFullyExpiresBefore part time → NoneFullyExpiresBefore part (told_time time swept)
  none_before_told time none key moment less timely = by (nat_le time moment) refl
    where
      by : (b : Bool) → nat_le time moment ≡ b → is_swept part.snapshot.rules.stale (held part.snapshot (past_of part) key) moment ≡ false
      by true late =
          none_swept part.snapshot (past_of part) legal key moment (subst (λ until. moment < until) is (less_of moment time swept late less))
      by false early = none key moment (grind (arith, nat_tests)) timely

  pub after_last_sweep : (time : ℕ) → IsAfterLastSweep part (told_time time swept)
  after_last_sweep time =
      past_moment (last_sweep (past_of part)) (told_time time swept)
      (omega (arith, is, timely_sweep part.snapshot (past_of part) legal))

-- a part whose contents are some entries holds something
pub holds_something : (part : PartOf) (entries : List Entry) → AreContents part.snapshot (past_of part) entries → 0 < length entries → HoldsSomething part
holds_something part [] contents some = absurd (omega (arith, some))
holds_something part (entry ∷ entries) contents some =
    (entry.key, entry, sym (contents.agree entry.key) ∙ first)
  where
    first : entry_at entry.key (entry ∷ entries) ≡ Some entry
    first = rw (key_eq-laws.refl entry.key) refl
