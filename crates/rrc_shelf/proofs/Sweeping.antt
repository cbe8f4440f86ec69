-- SPDX-License-Identifier: MIT
-- Sweeps that are made one after another.
use Rattle.std.proofs.Common.{◌≡◌, ℕ, ◌+◌, ◌-◌, ◌^◌, ◌<◌, ◌≤◌, List, [], ◌∷◌, length, refl, ap, arith}
use Rattle.std.specs.Prelude.{min}
use Rattle.rrc_share.specs.CacheShelf.{CacheShelfOf}
use Rattle.rrc_shelf.specs.Shelves.{MakesSweep}
use Rattle.rrc_shelf.specs.Upkeep.{StepOf, SweepsTo}
use Rattle.rrc_shelf.specs.declared.terms.SweepTerms.{SweepTerms}

-- so many sweeps were made
pub record HasSwept (sweep : SweepTerms) (removed count : ℕ) (old new : CacheShelfOf) : Type 0 where
  pub steps : List StepOf
  pub goes : SweepsTo sweep removed steps old new
  pub counted : length steps ≡ count

pub none_swept : (sweep : SweepTerms) (removed : ℕ) (shelf : CacheShelfOf) → removed ≡ 0 → HasSwept sweep removed 0 shelf shelf
none_swept sweep removed shelf none = record {
  steps = [];
  goes = record { sweeps = refl; timely = tt; few = omega arith; counted = none };
  counted = refl;
}

-- one more
pub more_swept : (sweep : SweepTerms) (removed count at gone : ℕ) (old middle new : CacheShelfOf) → HasSwept sweep removed count old middle → count < sweep.most
    → at ≤ sweep.moment → MakesSweep middle new (record { line = sweep.line; place = 0 }) at gone → HasSwept sweep (min (removed + gone) (2 ^ 64 - 1)) (count + 1) old new
more_swept sweep removed count at gone old middle new swept below timely makes =
    let sized = swept.counted in
    record {
      steps = record { moment = at; removed = gone } ∷ swept.steps;
      goes = record {
        sweeps = (middle, swept.goes.sweeps, makes);
        timely = (timely, swept.goes.timely);
        few = omega (arith, sized, below);
        counted = ap (λ n. min (n + gone) (2 ^ 64 - 1)) swept.goes.counted;
      };
      counted = omega (arith, sized);
    }
