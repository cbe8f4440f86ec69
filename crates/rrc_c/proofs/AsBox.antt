-- SPDX-License-Identifier: MIT
-- What a `Content` owns, where it holds a value, is what a box owns.
use Rattle.std.specs.Prelude.{◌≡◌, Option, None, Some, IsSome, refl}
use mir.Syntax.{Args, a_type, impl, tcons, tnil, dnil}
use mathlib.Core.List.{[], ◌∷◌}
use mir.Raw.{raw}
use denote.Exit.{no}
use denote.Param.{arg, layout, layouts}
use denote.Param.Laws.{Laws, arg_laws}
use denote.RattleType.{RattleType}
use Rattle.std_alloc.proofs.BoxSteps.Form.{Bx, R}
use Rattle.std_heap.specs.contracts.Global as Heap
use Rattle.std_heap.specs.contracts.GlobalAllocator.TheImpl.{ghosts, dict}
use Rattle.std_heap.proofs.Global.TheLaws as heap
use Rattle.rrc_c.specs.contracts.boxed.Content as Content

-- the allocator, as a function with a type parameter for one is passed it
abbrev pub A : RattleType
A = arg (raw (layout Heap.the_row)) no Heap.the_row

module _ (X : RattleType) (L : Laws X) where
  abbrev pub E : Bx
  E = record { row = X; laws = L; al = record { row = A; laws = arg_laws (raw (layout Heap.the_row)) no Heap.the_row heap.the_row_laws refl; g = ghosts; d = dict; drops = impl ("rrc_c::Destruct++none::drop" ∷ []) (tcons (layout A) tnil) dnil } }

  abbrev pub S : RattleType
  S = Content.the_row (R E)

abbrev pub args : RattleType → Args
args X = layouts (a_type ∷ []) (X, tt)

-- where a value is held, which one
pub by_held : {V : Type 0} {G : Type 1} (held : Option V) → IsSome held → ((value : V) → held ≡ Some value → G) → G
by_held None some step = let no : ⊥ = cc in absurd no
by_held (Some value) some step = step value refl
