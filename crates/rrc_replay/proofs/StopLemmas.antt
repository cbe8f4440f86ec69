-- SPDX-License-Identifier: MIT
-- Which line is told where workers stopped.
use Rattle.std.proofs.Common.{◌≡◌, ℕ, ◌<◌, ◌≤◌, List, ◌∷◌, ◌+◌, length, drop, get_or, ap, ◌∙◌, Bool, true, false, cond, nat_lt, if◌then◌else◌, Option, Some, None, option_map, refl, subst, sym, arith}
use Rattle.std.proofs.lemmas.List.{drop_all, drop_more}
use Rattle.std.proofs.lemmas.Bool.Decides.{nat_tests}
use Rattle.rrc_text.specs.declared.fault.ReplayFault.{ReplayFault}
use Rattle.rrc_text.specs.declared.fault.ReplayFault.TheVariants.{Spent, Strayed}
use Rattle.rrc_report.specs.declared.calls.Refused.{Refused}
use Rattle.rrc_report.specs.declared.calls.Refused.TheVariants as refused
use Rattle.rrc_replay.specs.declared.worker.Stop.{Stop}
use Rattle.rrc_replay.specs.declared.worker.Worked.{Worked}
use Rattle.rrc_report.specs.Faults.{IsOfReplay}
use Rattle.rrc_replay.specs.Stops.{lower, lowest, fault_at, fault_of, first_fault}

-- ---- the lowest of three

chosen : (a b c : Stop) (ba cb : Bool) → nat_lt b.line a.line ≡ ba → nat_lt c.line b.line ≡ cb
    → lower (Some (cond ba b a)) (Some c) ≡ Some (cond (nat_lt (cond cb c b).line a.line) (cond cb c b) a)
chosen a b c true true below_a below_b = let least : nat_lt c.line a.line ≡ true = grind (arith, nat_tests) in rw (below_b, least) refl
chosen a b c true false below_a not_below_b = rw (not_below_b, below_a) refl
chosen a b c false true not_below_a below_b = refl
chosen a b c false false not_below_a not_below_b = let least : nat_lt c.line a.line ≡ false = grind (arith, nat_tests) in rw (least, not_below_a) refl

-- it does not matter which two are compared first
pub lower_of_three : (a b c : Option Stop) → lower (lower a b) c ≡ lower a (lower b c)
lower_of_three None b c = refl
lower_of_three (Some a) None c = refl
lower_of_three (Some a) (Some b) None = refl
lower_of_three (Some a) (Some b) (Some c) = chosen a b c (nat_lt b.line a.line) (nat_lt c.line b.line) refl refl

-- with no other one it is the lowest
alone : (stop : Option Stop) → lower stop None ≡ stop
alone None = refl
alone (Some stop) = refl

-- the lowest so far, and that of one worker more
pub one_more : (first : Option Stop) (workers : List Worked) (i : ℕ) (one : Worked) → i < length workers → one ≡ get_or workers i one
    → lower first (lowest (drop i workers)) ≡ lowest workers → lower (lower first one.stop) (lowest (drop (i + 1) workers)) ≡ lowest workers
one_more first workers i one within is so_far =
    let here : drop i workers ≡ one ∷ drop (i + 1) workers = drop_more workers i one within ∙ ap (λ w. w ∷ drop (i + 1) workers) (sym is) in
    lower_of_three first one.stop (lowest (drop (i + 1) workers)) ∙ ap (λ ws. lower first (lowest ws)) (sym here) ∙ so_far

pub no_more : (first : Option Stop) (workers : List Worked) (i : ℕ) → length workers ≤ i → lower first (lowest (drop i workers)) ≡ lowest workers → first ≡ lowest workers
no_more first workers i all so_far = sym (alone first) ∙ ap (λ ws. lower first (lowest ws)) (sym (drop_all i workers all)) ∙ so_far

-- ---- what is told

-- a line that was spent is one of the trace's
spent_within : (lines line : ℕ) (is_below : Bool) → nat_lt line lines ≡ is_below → IsOfReplay lines (if is_below then Spent line else Strayed)
spent_within lines line true below = grind (arith, nat_tests)
spent_within lines line false not_below = tt

-- it is a fault of a replay
at_line : (lines line : ℕ) (why : Refused) → IsOfReplay lines (fault_at lines line why)
at_line lines line refused.Spent = spent_within lines line (nat_lt line lines) refl
at_line lines line refused.Memory = tt

of_stop : (lines : ℕ) (stop : Option Stop) (fault : ReplayFault) → option_map (fault_of lines) stop ≡ Some fault → IsOfReplay lines fault
of_stop lines None fault told = absurd cc
of_stop lines (Some stop) fault told =
    let same : fault_at lines stop.line stop.why ≡ fault = cc in subst (IsOfReplay lines) same (at_line lines stop.line stop.why)

pub told : (lines : ℕ) (worked : List Worked) (fault : ReplayFault) → first_fault lines worked ≡ Some fault → IsOfReplay lines fault
told lines worked fault is = of_stop lines (lowest worked) fault is
