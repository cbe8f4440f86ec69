-- SPDX-License-Identifier: MIT
-- The rdata of an RRset.
use Rattle.std.specs.Prelude.{ℕ, List, [], ◌∷◌}
use Rattle.rrc_name.specs.declared.rdata_list.Place.{Place}
use Rattle.rrc_name.specs.declared.rdata_list.Place.TheVariants.{Here, InVector}

-- the rdata, wherever they stand
abbrev pub rdata_in : Place → List (List ℕ)
rdata_in (Here rdata) = rdata ∷ []
rdata_in (InVector list) = list.items
